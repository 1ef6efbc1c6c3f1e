use Rattle.std.proofs.Common.{◌≡◌, ℕ, ◌+◌, ◌-◌, ◌++◌, ◌∙◌, List, drop, length, refl, ap, sym, subst, arith}
use Rattle.std.proofs.lemmas.List.{drop_all}
use Rattle.serve_texts.specs.Reply.{tiles_of}
use Rattle.serve_session.specs.Tiling.{replies_to, reply_of, tile_at}
use Rattle.serve_run.specs.Dealing.{AreOf, AreDealt}
use Rattle.serve_run.proofs.PlacesAreDealt.{keep_more, replies_from}
use Rattle.serve_run.proofs.dealing.gather.Goals as goal

pub loop-done-init : goal.loop-done-init
loop-done-init g c =
    let requests = c.args.requests.now in
    let all : length requests - 0 ≡ length requests = omega arith in (
      c.requires.none.0 ∙ c.requires.count ∙ sym all,
      subst (λ (n : ℕ). AreDealt (λ worker. worker.places.items) requests n c.args.workers.now) (sym all) c.requires.dealt,
      (refl, λ i d low. (refl, refl)),
      λ tiling hold answer. (answer, c.requires.none.1 ∙ sym (ap (λ rs. replies_to tiling (tiles_of rs)) (ap (λ (n : ℕ). drop n requests) all ∙ drop_all (length requests) requests (omega arith)))),
    )

pub put_last-frame-requires-clause-known : goal.put_last-frame-requires-clause-known
put_last-frame-requires-clause-known g c = subst (λ (n : ℕ). AreOf n c.args.requests.now) (sym c.loop-done.invariant.2.0) c.requires.known

pub put_last-frame-requires-clause-dealt : goal.put_last-frame-requires-clause-dealt
put_last-frame-requires-clause-dealt g c =
    let next : length c.args.requests.now - c.loop-done.done ≡ length c.args.requests.now - 1 - c.loop-done.done + 1 = omega (arith, c.loop-done-test.true) in
    subst (λ (n : ℕ). AreDealt (λ worker. worker.places.items) c.args.requests.now n c.loop-done.workers) next c.loop-done.invariant.1

pub loop-done-preserved : goal.loop-done-preserved
loop-done-preserved g c =
    let requests = c.args.requests.now in
    let now : length requests - 1 - c.loop-done.done ≡ length requests - (c.loop-done.done + 1) = omega (arith, c.loop-done-test.true) in
    let next : length requests - c.loop-done.done ≡ length requests - 1 - c.loop-done.done + 1 = omega (arith, c.loop-done-test.true) in (
      c.put_last-frame.ensures.from ∙ now,
      subst (λ (n : ℕ). AreDealt (λ worker. worker.places.items) requests n c.put_last-frame.new.workers) now c.put_last-frame.ensures.dealt,
      keep_more (λ worker. worker.ended) (λ worker. worker.settled) c.args.workers.now c.loop-done.workers c.put_last-frame.new.workers c.loop-done.invariant.2 c.put_last-frame.ensures.ended,
      λ tiling hold answer.
          let before = c.loop-done.invariant.3 tiling hold answer in
          let after = c.put_last-frame.ensures.reply tiling hold before.0 in (
            after.0,
            after.1
                ∙ ap (λ (xs : List ℕ). reply_of tiling (tile_at requests (length requests - 1 - c.loop-done.done)) ++ xs)
                (before.1 ∙ ap (λ (n : ℕ). replies_to tiling (tiles_of (drop n requests))) next)
                ∙ sym (replies_from tiling requests (length requests - 1 - c.loop-done.done) (omega (arith, c.loop-done-test.true)))
                ∙ ap (λ (n : ℕ). replies_to tiling (tiles_of (drop n requests))) now,
          ),
    )

pub returns-clause-replies : goal.returns-clause-replies
returns-clause-replies g c tiling hold answer =
    let requests = c.args.requests.now in
    let none : length requests - c.loop-done.done ≡ 0 = omega (arith, c.loop-done-test.false) in
    c.close.ensures ∙ (c.loop-done.invariant.3 tiling hold answer).1 ∙ ap (λ (n : ℕ). replies_to tiling (tiles_of (drop n requests))) none
