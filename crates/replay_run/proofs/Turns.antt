-- One line more of a script.
use Rattle.std.proofs.Common.{◌≡◌, ℕ, ◌+◌, ◌<◌, [], ◌∷◌, ◌++◌, length, take, get_or, sym, ap, ◌∙◌, subst, arith, suc, zero}
use Rattle.std.proofs.lemmas.List.{take_more}
use Rattle.script_text.specs.declared.command.Command.{Command}
use Rattle.script_text.specs.Script.{Commands}
use Rattle.script_text.specs.Ranges.{IsInRange, AreInRange}
use Rattle.replay_plain.specs.State.{ReplayState}
use Rattle.replay_run.specs.declared.both.BothRuns.{BothRuns}
use Rattle.replay_run.specs.Both.{BothStand}

-- a command of a list in range is in range
pub range_at : (lines : Commands) (n : ℕ) (d : ℕ × Command) → n < length lines → AreInRange lines → IsInRange (get_or lines n d).1
range_at [] n d h w = absurd (omega arith)
range_at (x ∷ lines) zero d h w = w.0
range_at (x ∷ lines) (suc n) d h w = range_at lines n d (omega arith) w.1

-- the runs after one line more
pub turn : (first : ReplayState) (new : BothRuns) (script : Commands) (n : ℕ) (line : ℕ × Command) → n < length script → line ≡ get_or script n line
    → BothStand new first (take n script ++ line ∷ []) → BothStand new first (take (n + 1) script)
turn first new script n line h at stands =
    subst (BothStand new first) (sym (take_more script n line h ∙ ap (λ x. take n script ++ x ∷ []) (sym at))) stands
