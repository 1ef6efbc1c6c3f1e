-- What the words of `gen` ask for.
use Rattle.std.proofs.Common.{rules, ◌≡◌, ◌∷◌, [], None, inl, inr, refl, sym}
use Rattle.line_text.specs.Number.{number_in}
use Rattle.command_line.proofs.Asked.{ends_now, gen_other, no_words, not_one, one_word, step_on, word_at}
use Rattle.command_line.proofs.orders.gen_of.Goals as goal
use Rattle.command_line.proofs.orders.gen_of.Goals.{in_default-via-then-words-lt1, in_default-via-else-words-lt1+else-words-lt2}

pub returns-in_err-words-clause-value : goal.returns-in_err-words-clause-value
returns-in_err-words-clause-value c = λ all given.
    rw c.from_residual.ensures (sym (rw (no_words None all.positional (c.in_err-words.ensures all given) refl) refl))

pub returns-in_default-clause-value : goal.returns-in_default-clause-value
returns-in_default-clause-value c = λ all given. elim c.in_default.branch [
  | in_default-via-then-words-lt1 w ↦ sym (gen_other all (not_one c.in_ok-words.words.now all.positional (c.in_ok-words.ensures all given) (inl (search rules))))
  | in_default-via-else-words-lt1+else-words-lt2 w ↦ sym (gen_other all (not_one c.in_ok-words.words.now all.positional (c.in_ok-words.ensures all given) (inr (search rules))))
]

pub returns-in_err-n-clause-value : goal.returns-in_err-n-clause-value
returns-in_err-n-clause-value c = λ all given.
    let w = c.in_ok-words.words.now in
    let one : all.positional ≡ word_at w 0 ∷ [] = one_word w all.positional (c.in_ok-words.ensures all given) c.in-len1.len_at_least c.in-len1.len_below in
    rw c.from_residual-in_err-n.ensures (sym (rw one (ends_now (number_in (word_at w 0) 0 999999) _ (sym c.in_err-n.ensures.value))))

pub returns-clause-value : goal.returns-clause-value
returns-clause-value c = λ all given.
    let w = c.in_ok-words.words.now in
    let one : all.positional ≡ word_at w 0 ∷ [] = one_word w all.positional (c.in_ok-words.ensures all given) c.in-len1.len_at_least c.in-len1.len_below in
    rw c.from.ensures (sym (rw one (step_on (number_in (word_at w 0) 0 999999) c.in_ok-n.n _ _ (sym c.in_ok-n.ensures.value) refl)))
