use Rattle.std.proofs.Common.{◌≡◌, sym, ap, subst, ◌∙◌, ℕ, List, [], ◌∷◌, Option, IsSome, refl, ◌++◌, IfOk, OnOk, OnErr}
use Rattle.std.proofs.lemmas.Result.{IfOk-weaker}
use Rattle.machine.specs.declared.event.Event.{Event}
use Rattle.machine.specs.declared.event.Answer.{Answer}
use Rattle.machine.specs.History.{History}
use Rattle.machine.specs.KeptSegment.{KeptSegment}
use Rattle.machine.specs.Answers.{answered, answer, answer_of}
use Rattle.machine.specs.Segments.{Shows, ShowsAll, StandsFor}
use Rattle.machine.proofs.Whole.{answered_push, all_after, shows_found}
use Rattle.machine.proofs.plain.PlainSegments.step.Goals as goal

pub returns-in-Some-clause-after : goal.returns-in-Some-clause-after
returns-in-Some-clause-after c = λ events before.
    let h = answered events in
    let e = c.args.event.now in
    let old = c.self.inside.segments.entries in
    let new = (c.get_mut.follows.lender c.step.new.self).entries in
    let w = subst (λ (xs : List (ℕ × KeptSegment)). ShowsAll h xs) (sym c.self.view_is) before in
    let kept = shows_found h old c.id.result c.in-Some.segment.now c.in-Some.ensures.value w in
    let after = c.step.ensures.after h c.id.result kept (sym c.id.ensures) in
    let updates = (c.get_mut.follows.holds c.step.new.self).3 (subst (λ (o : Option KeptSegment). IsSome o) c.in-Some.ensures.value refl) in
    subst (λ (g : History). ShowsAll g new) (sym (answered_push [] events e))
    (all_after h e (answer_of h e) old new c.id.result c.step.new.self c.id.ensures updates.0 w
    (subst (λ (a : Answer). Shows ((e, a) ∷ h) c.id.result c.step.new.self) (c.step.ensures.answer h c.id.result kept (sym c.id.ensures)) after))

-- the segments where nothing was found
same_entries : (c : goal.After-begin) → c.get_mut.follows.lender-at-none.entries ≡ c.args.self.now
same_entries c = ap (λ m. m.entries) c.get_mut.follows.holds-at-none ∙ c.self.view_is

pub returns-in-None-clause-answer : goal.returns-in-None-clause-answer
returns-in-None-clause-answer c =
    let e = c.args.event.now in
    IfOk-weaker c.begin.result (λ a. (h : History) → ShowsAll h c.args.self.now → a ≡ answer_of h e) (λ a. (events : List Event) → StandsFor c.args.self.now events → a ≡ answer events e)
    (λ a told events w. told (answered events) w)
    (subst (λ (xs : List (ℕ × KeptSegment)). IfOk c.begin.result (λ a. (h : History) → ShowsAll h xs → a ≡ answer_of h e)) (same_entries c) c.begin.ensures.answer)

pub returns-in-None-clause-after : goal.returns-in-None-clause-after
returns-in-None-clause-after c =
    let e = c.args.event.now in
    IfOk-weaker c.begin.result (λ _. (h : History) → ShowsAll h c.args.self.now → ShowsAll ((e, answer_of h e) ∷ h) c.begin.new.self)
    (λ _. (events : List Event) → StandsFor c.args.self.now events → StandsFor c.begin.new.self (events ++ e ∷ []))
    (λ _ shows events w. subst (λ (g : History). ShowsAll g c.begin.new.self) (sym (answered_push [] events e)) (shows (answered events) w))
    (subst (λ (xs : List (ℕ × KeptSegment)). OnOk c.begin.result ((h : History) → ShowsAll h xs → ShowsAll ((e, answer_of h e) ∷ h) c.begin.new.self)) (same_entries c) c.begin.ensures.after)

pub returns-in-None-clause-same : goal.returns-in-None-clause-same
returns-in-None-clause-same c = subst (λ (xs : List (ℕ × KeptSegment)). OnErr c.begin.result (c.begin.new.self ≡ xs)) (same_entries c) c.begin.ensures.same
