-- A command of a list in range is in range.
use Rattle.std.proofs.Common.{◌≡◌, ℕ, ◌<◌, length, get_or, [], ◌∷◌, zero, suc, sym, subst, arith}
use Rattle.script_text.specs.declared.command.Command.{Command}
use Rattle.script_text.specs.Script.{Commands}
use Rattle.script_text.specs.Ranges.{IsInRange, AreInRange}

range_at : (lines : Commands) (n : ℕ) (d : ℕ × Command) → n < length lines → AreInRange lines → IsInRange (get_or lines n d).1
range_at [] n d h w = absurd (omega arith)
range_at (x ∷ lines) zero d h w = w.0
range_at (x ∷ lines) (suc n) d h w = range_at lines n d (omega arith) w.1

pub in_range_at : (lines : Commands) (n : ℕ) (line : ℕ × Command) → n < length lines → line ≡ get_or lines n line → AreInRange lines → IsInRange line.1
in_range_at lines n line h at w = subst (λ (l : ℕ × Command). IsInRange l.1) (sym at) (range_at lines n line h w)
