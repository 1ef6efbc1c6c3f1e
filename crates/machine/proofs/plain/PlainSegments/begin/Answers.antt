use Rattle.std.proofs.Common.{◌≡◌, ℕ, List, ◌∷◌, nat_lt, nat_le, ◌&&◌, false, sym, ap, subst, ◌∙◌, arith}
use Rattle.std.proofs.lemmas.Bool.Decides.{nat_tests}
use Rattle.units.specs.declared.TheConstants.{MOST_PAGES}
use Rattle.machine.specs.declared.event.Event.{Event}
use Rattle.machine.specs.declared.event.Answer.TheVariants.{Granted, Misuse}
use Rattle.machine.specs.declared.event.Answer.{Answer}
use Rattle.machine.specs.History.{History, number_of}
use Rattle.machine.specs.Answers.{answer_of}
use Rattle.machine.specs.KeptSegment.{KeptSegment}
use Rattle.machine.specs.Segments.{Shows, ShowsAll, IsUnknown, kept_at}
use Rattle.machine.proofs.Whole.{ShowsAt, at_misuse, unknown_found, unknown_misused, grant_misused, granted, all_after, shows_fresh}
use Rattle.machine.proofs.plain.PlainSegments.begin.Goals as goal
use Rattle.machine.proofs.plain.PlainSegments.begin.Goals.{then-client-lt1-via-then-client-lt1, then-client-lt1-via-else-client-lt1+then-pages-lt1, then-client-lt1-via-else-client-lt1+else-pages-lt1+then-pages-gt-MOST_PAGES}

pub returns-in_default : goal.returns-in_default
returns-in_default c = record {
  answer = λ h w. unknown_misused h c.args.event.now (unknown_found h c.args.self.now (number_of c.args.event.now) c.requires w) c.in_default.not-Grant;
  after = λ h w s.
      subst (λ a. ShowsAt ((c.args.event.now, a) ∷ h) s (kept_at c.args.self.now s))
      (unknown_misused h c.args.event.now (unknown_found h c.args.self.now (number_of c.args.event.now) c.requires w) c.in_default.not-Grant)
      (at_misuse h c.args.event.now s (kept_at c.args.self.now s) (w s));
  same = tt;
}

-- such a Grant is a misuse
out_of_range : (c : goal.Joined-then-client-lt1) (h : History) → Misuse ≡ answer_of h c.args.event.now
out_of_range c h =
    let fails : (nat_lt 0 c.in-Grant.client && nat_le 1 c.in-Grant.pages && nat_le c.in-Grant.pages MOST_PAGES) ≡ false =
    elim c.then-client-lt1.branch [
      | then-client-lt1-via-then-client-lt1 w ↦ grind (arith, nat_tests)
      | then-client-lt1-via-else-client-lt1+then-pages-lt1 w ↦ grind (arith, nat_tests)
      | then-client-lt1-via-else-client-lt1+else-pages-lt1+then-pages-gt-MOST_PAGES w ↦ grind (arith, nat_tests)
    ] in
    grant_misused h c.in-Grant.id c.in-Grant.client c.in-Grant.pages fails ∙ sym (ap (λ (e : Event). answer_of h e) c.in-Grant.is)

pub returns-then-client-lt1-clause-answer : goal.returns-then-client-lt1-clause-answer
returns-then-client-lt1-clause-answer c = λ h w. out_of_range c h

pub returns-then-client-lt1-clause-after : goal.returns-then-client-lt1-clause-after
returns-then-client-lt1-clause-after c = λ h w s.
    subst (λ a. ShowsAt ((c.args.event.now, a) ∷ h) s (kept_at c.args.self.now s)) (out_of_range c h)
    (at_misuse h c.args.event.now s (kept_at c.args.self.now s) (w s))

pub returns-clause-answer : goal.returns-clause-answer
returns-clause-answer c = λ h w.
    let unknown = unknown_found h c.args.self.now (number_of c.args.event.now) c.requires w in
    let number = ap number_of c.in-Grant.is in
    granted h c.in-Grant.id c.in-Grant.client c.in-Grant.pages (subst (λ (n : ℕ). IsUnknown h n) number unknown) (omega arith) (omega arith) (omega arith)
    ∙ sym (ap (λ (e : Event). answer_of h e) c.in-Grant.is)

pub returns-clause-after : goal.returns-clause-after
returns-clause-after c = λ h before.
    let old = c.self.inside.segments.entries in
    let w = subst (λ (xs : List (ℕ × KeptSegment)). ShowsAll h xs) (sym c.self.view_is) before in
    let number = ap number_of c.in-Grant.is in
    let unknown = subst (λ (n : ℕ). IsUnknown h n) number (unknown_found h c.args.self.now (number_of c.args.event.now) c.requires before) in
    let id = c.in-Grant.id in
    let answer : Granted id ≡ answer_of h c.args.event.now =
    granted h id c.in-Grant.client c.in-Grant.pages unknown (omega arith) (omega arith) (omega arith) ∙ sym (ap (λ (e : Event). answer_of h e) c.in-Grant.is) in
    all_after h c.args.event.now (answer_of h c.args.event.now) old c.insert.new.self.entries id c.in_ok-segment.segment (sym number) c.in_ok-insert.ensures.updates.0 w
    (subst (λ (a : Answer). Shows ((c.args.event.now, a) ∷ h) id c.in_ok-segment.segment) answer
    (subst (λ (e : Event). Shows ((e, Granted id) ∷ h) id c.in_ok-segment.segment) (sym c.in-Grant.is)
    (shows_fresh h id c.in-Grant.client c.in-Grant.pages c.in_ok-segment.segment unknown c.in_ok-segment.ensures)))
