use Rattle.std.proofs.Common.{◌≡◌, ◌+◌, ◌∙◌, ℕ, List, length, ap, sym, subst}
use Rattle.request_text.specs.declared.request.Request.{Request}
use Rattle.serve_texts.specs.Reply.{tiles_of}
use Rattle.serve_session.specs.Tiling.{replies_to}
use Rattle.serve_run.specs.Dealing.{AllAnswer, AllKeep, AreDealt, AreOf}
use Rattle.serve_run.specs.Working.{AreComplete, HaveServed}
use Rattle.serve_run.proofs.PlacesAreDealt.{all_answer, all_served, of_clients, written_whole}
use Rattle.serve_run.proofs.workers.joined.Goals as goal

pub gather-requires : goal.gather-requires
gather-requires g c =
    let requests = c.as_slice-requests.result.now in
    let same : requests ≡ c.args.run.now.requests = c.as_slice-requests.ensures ∙ c.requests.ensures.value in
    let slice : c.as_mut_slice.result.now ≡ c.args.workers.now.items = c.as_mut_slice.ensures.value in
    record {
      count = c.requires.places ∙ ap length (sym same);
      none = c.requires.frame;
      known = subst (λ (n : ℕ). AreOf n requests) (sym (ap length slice ∙ c.requires.ended.all)) (subst (AreOf (c.args.run.now.cfg.clients + 1)) (sym same) (of_clients c.args.run.now.cfg.clients c.args.run.now.requests c.requests.ensures.lawful));
      dealt = subst (λ ds. AreDealt (λ worker. worker.places.items) requests (length requests) ds) (sym slice) (subst (λ (rs : List Request). AreDealt (λ worker. worker.places.items) rs (length rs) c.args.workers.now.items) (sym same) c.requires.ended.dealt);
    }

pub returns : goal.returns
returns g c =
    let requests = c.as_slice-requests.result.now in
    let run = c.args.run.now in
    let same : requests ≡ run.requests = c.as_slice-requests.ensures ∙ c.requests.ensures.value in
    let slice : c.as_mut_slice.result.now ≡ c.args.workers.now.items = c.as_mut_slice.ensures.value in
    let after = c.gather.new.workers in
    let keep : AllKeep (λ worker. worker.ended) (λ worker. worker.settled) c.args.workers.now.items after = subst (λ ds. AllKeep (λ worker. worker.ended) (λ worker. worker.settled) ds after) slice c.gather.ensures.ended in
    let whole = written_whole c.args.workers.now.items after c.args.workers.now.len keep.0 c.args.workers.now.ok.0 in
    record {
      served = subst (HaveServed (λ e. e.served) (λ worker. worker.ended) (λ worker. worker.settled) run) (sym whole)
          (all_served (λ e. e.served) (λ worker. worker.places.items) (λ worker. worker.ended) (λ worker. worker.settled) run c.args.workers.now.items after c.requires.ended keep);
      replies = λ complete.
          let answer = all_answer (λ e. e.served) (λ worker. worker.places.items) (λ worker. worker.ended) (λ worker. worker.settled) run c.args.workers.now.items after c.requires.ended keep
          c.requests.ensures.lawful (subst (AreComplete (λ worker. worker.ended) run.cfg.clients) whole complete) in
          c.gather.ensures.replies run.tiling c.requires.sized
          (subst (λ ds. AllAnswer (λ worker. worker.places.items) run.tiling requests ds) (sym slice) (subst (λ (rs : List Request). AllAnswer (λ worker. worker.places.items) run.tiling rs c.args.workers.now.items) (sym same) answer))
          ∙ ap (λ (rs : List Request). replies_to run.tiling (tiles_of rs)) same;
    }
