use Rattle.std.proofs.Common.{refl, ap, ◌∙◌, List, ◌++◌, [], ◌∷◌, false}
use Rattle.replay_plain.specs.declared.segment.KnownSegment.{KnownSegment}
use Rattle.replay_plain.proofs.Following.{none_kept}
use Rattle.replay_plain.proofs.known.KnownSegments.new.Goals as goal

blank : KnownSegment
blank = record { client = 0; pages = 0; known = 0; live = false; plain = false }

pub returns : goal.returns
unfolding blank
returns c = none_kept _ (c.in_ok-push.ensures.ok ∙ ap (λ (xs : List KnownSegment). xs ++ blank ∷ []) c.new-rows.ensures) refl
