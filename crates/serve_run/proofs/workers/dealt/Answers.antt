use Rattle.std.proofs.Common.{◌≡◌, ◌+◌, ◌∙◌, ℕ, List, length, ap, sym, subst, vec_capacity}
use Rattle.request_text.specs.declared.request.Request.{Request}
use Rattle.reply_places.specs.Framed.{Framed}
use Rattle.serve_run.specs.Dealing.{AreDealt, AreOf, HaveRoom}
use Rattle.serve_run.specs.Working.{CanServe}
use Rattle.serve_run.proofs.PlacesAreDealt.{of_clients, written_whole}
use Rattle.serve_run.proofs.workers.dealt.Goals as goal

pub deal-requires : goal.deal-requires
deal-requires g c =
    let requests = c.as_slice-requests.result.now in
    let same : requests ≡ c.args.run.now.requests = c.as_slice-requests.ensures ∙ c.requests.ensures.value in
    let slice : c.as_mut_slice.result.now ≡ c.args.workers.items = c.as_mut_slice.ensures.value in
    record {
      count = c.requires.places ∙ ap length (sym same);
      none = ap (λ (f : Framed). f.given) c.new-frame.ensures;
      known = subst (λ (n : ℕ). AreOf n requests) (sym (ap length slice ∙ c.requires.all)) (subst (AreOf (c.args.run.now.cfg.clients + 1)) (sym same) (of_clients c.args.run.now.cfg.clients c.args.run.now.requests c.requests.ensures.lawful));
      room = subst (λ ds. HaveRoom (λ worker. vec_capacity worker.places) requests ds) (sym slice) (subst (λ (rs : List Request). HaveRoom (λ worker. vec_capacity worker.places) rs c.args.workers.items) (sym same) c.requires.fits);
      dealt = subst (λ ds. AreDealt (λ worker. worker.places.items) requests 0 ds) (sym slice) (subst (λ (rs : List Request). AreDealt (λ worker. worker.places.items) rs 0 c.args.workers.items) (sym same) c.requires.none);
    }

pub returns : goal.returns
returns g c =
    let requests = c.as_slice-requests.result.now in
    let same : requests ≡ c.args.run.now.requests = c.as_slice-requests.ensures ∙ c.requests.ensures.value in
    let after = c.deal.new.workers in
    let many : length after ≡ length c.args.workers.items = c.deal.ensures.len ∙ ap length c.as_mut_slice.ensures.value in
    let whole = written_whole c.args.workers.items after c.args.workers.len many c.args.workers.ok.0 in
    record {
      frame = (
        ap (λ (f : Framed). f.from) c.deal.ensures.frame ∙ ap (λ (f : Framed). f.from) c.new-frame.ensures,
        ap (λ (f : Framed). f.bytes) c.deal.ensures.frame ∙ ap (λ (f : Framed). f.bytes) c.new-frame.ensures,
      );
      workers = subst (CanServe (λ worker. worker.places.items) c.args.run.now _) (sym whole) (record {
        all = many ∙ c.requires.all;
        few = c.requests.ensures.lawful.few;
        sized = c.requires.sized;
        dealt = subst (λ (rs : List Request). AreDealt (λ worker. worker.places.items) rs (length rs) after) same c.deal.ensures.dealt;
        empty = c.deal.ensures.empty;
      });
    }
