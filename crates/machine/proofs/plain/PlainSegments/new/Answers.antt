use Rattle.std.proofs.Common.{sym, subst, ℕ, List}
use Rattle.machine.specs.KeptSegment.{KeptSegment}
use Rattle.machine.specs.Answers.{answered}
use Rattle.machine.specs.Segments.{kept_at}
use Rattle.machine.proofs.Whole.{none_yet, ShowsAt}
use Rattle.machine.proofs.plain.PlainSegments.new.Goals as goal

pub returns : goal.returns
returns c = λ s. subst (λ (segments : List (ℕ × KeptSegment)). ShowsAt (answered _) s (kept_at segments s)) (sym c.new.ensures.empty) (none_yet s)
