-- What scripts and request files share: a number in a range or a cause, and where a text is refused.
use Rattle.std.specs.Prelude.{ℕ, List, Result, Ok, Err}
use Rattle.std.specs.Option.{ok_or}
use Rattle.line_text.specs.Number.{number_in}
use Rattle.line_text.specs.declared.cause.Cause.{Cause}
use Rattle.line_text.specs.declared.cause.Cause.TheVariants as cause

-- the second step, if the first gave a value
infixl 10 ◌>>=◌
abbrev pub ◌>>=◌ : {A B E : Type 0} → Result A E → (A → Result B E) → Result B E
(Ok x) >>= f = f x
(Err e) >>= f = Err e

-- a number from least to most
abbrev pub number : List ℕ → ℕ → ℕ → Result ℕ Cause
number word least most = ok_or (number_in word least most) cause.Number

-- the numbers by which causes are told
abbrev pub cause_number : Cause → ℕ
cause_number cause.Word = 1
cause_number cause.Count = 2
cause_number cause.Number = 3
cause_number cause.Bytes = 4
cause_number cause.Many = 5
cause_number cause.Long = 6

-- where a text is refused, and why
pub record Refusal : Type 0 where
  pub place : ℕ
  pub cause : ℕ

-- the refusal at a place for a cause
abbrev pub refusal : ℕ → Cause → Refusal
refusal place why = record { place = place; cause = cause_number why }
