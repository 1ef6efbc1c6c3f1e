-- The four stages of an owner are four.
use Rattle.std.proofs.Common.{◌≡◌, ◌≢◌, ℕ, ap, sym, ◌∙◌}
use Rattle.segment_rule.specs.declared.view.Stage.{Stage}
use Rattle.segment_rule.specs.declared.view.Stage.TheVariants.{New, Held, Idle, Gone}

abbrev pub number : Stage → ℕ
number New = 0
number Held = 1
number Idle = 2
number Gone = 3

-- a stage is no other
pub unlike : (p a b : Stage) → p ≡ a → number a ≢ number b → p ≢ b
unlike p a b is differ e = differ (ap number (sym is ∙ e))
