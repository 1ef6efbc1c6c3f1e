use Rattle.std.proofs.Common.{refl, ◌∙◌}
use Rattle.replay_plain.proofs.Standing.{stands_drawn}
use Rattle.replay_plain.proofs.run.PlainRun.draw.Goals as goal

pub returns-clause-state : goal.returns-clause-state
returns-clause-state c = λ state w.
    stands_drawn state c.next-id.result c.args.client c.args.pages c.args.self.now _ c.next-id.ensures.next
    c.requires.client c.requires.some c.requires.few c.in_ok-answer.ensures.after
    (λ events n tells is same. c.in_ok-granted.ensures events n tells is (same ∙ c.next-id.ensures.next))
    c.in_ok-push.ensures.items
    (record { limit = refl; standard = refl; heaps = refl }) w
