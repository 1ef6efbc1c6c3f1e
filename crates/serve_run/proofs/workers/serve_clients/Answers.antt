use Rattle.std.proofs.Common.{◌≡◌, ◌+◌, ◌<◌, length, get_or, arith, ◌∙◌, sym, ap, subst}
use Rattle.serve_run.specs.Working.{HasWorked, HaveEnded, IsReady}
use Rattle.serve_run.proofs.PlacesAreDealt.{all_ended, all_ready, written_whole}
use Rattle.serve_run.proofs.workers.serve_clients.Goals as goal

pub work_all-requires-clause-ready : goal.work_all-requires-clause-ready
work_all-requires-clause-ready g c κs within = λ at d low.
    let run = c.args.run.now in
    let inside : at < length c.args.workers.items = omega (arith, low, ap length c.as_mut_slice.ensures.value) in
    let ready : IsReady run (at + 1) (get_or c.as_mut_slice.result.now at d).places.items =
    subst (λ workers. IsReady run (at + 1) (get_or workers at d).places.items) (sym c.as_mut_slice.ensures.value)
    (all_ready (λ worker. worker.places.items) run _ c.args.workers.items c.requires at d inside) in
    (record { shared = c.type_bounds.sync-H.shared }, record { few = omega (arith, inside, c.requires.all); sized = c.requires.sized; ready = ready })

pub returns : goal.returns
returns g c =
    let workers = c.args.workers.items in
    let after = c.work_all.new.workers in
    let many : length after ≡ length workers = c.work_all.ensures.len ∙ ap length c.as_mut_slice.ensures.value in
    let whole = written_whole workers after c.args.workers.len many c.args.workers.ok.0 in
    subst (HaveEnded (λ e. e.served) (λ worker. worker.places.items) (λ worker. worker.ended) (λ worker. worker.settled) c.args.run.now) (sym whole)
    (all_ended (λ e. e.served) (λ worker. worker.places.items) (λ worker. worker.ended) (λ worker. worker.settled) c.args.run.now _ workers after c.requires many
    (λ at d low.
    subst (λ ws. HasWorked (λ e. e.served) c.args.run.now at (get_or ws at d).places.items (get_or after at d).places.items (get_or after at d).ended (get_or after at d).settled) c.as_mut_slice.ensures.value
    (c.work_all.ensures.worked at d (omega (arith, low, ap length c.as_mut_slice.ensures.value)))))
