-- What the words of `serve` ask for.
use Rattle.std.proofs.Common.{rules, ◌≡◌, ◌∷◌, [], None, inl, inr, refl, sym}
use Rattle.command_line.specs.Commands.{named, serve_cfg}
use Rattle.command_line.proofs.Asked.{ends_now, no_words, not_one, one_word, serve_other, step_on, word_at}
use Rattle.command_line.proofs.orders.serve_of.Goals as goal
use Rattle.command_line.proofs.orders.serve_of.Goals.{in_default-via-then-words-lt1, in_default-via-else-words-lt1+else-words-lt2}

pub returns-in_err-words-clause-value : goal.returns-in_err-words-clause-value
returns-in_err-words-clause-value c = λ all given.
    rw c.from_residual.ensures (sym (rw (no_words None all.positional (c.in_err-words.ensures all given) refl) refl))

pub returns-in_default-clause-value : goal.returns-in_default-clause-value
returns-in_default-clause-value c = λ all given. elim c.in_default.branch [
  | in_default-via-then-words-lt1 w ↦ sym (serve_other all (not_one c.in_ok-words.words.now all.positional (c.in_ok-words.ensures all given) (inl (search rules))))
  | in_default-via-else-words-lt1+else-words-lt2 w ↦ sym (serve_other all (not_one c.in_ok-words.words.now all.positional (c.in_ok-words.ensures all given) (inr (search rules))))
]

pub returns-in_err-file-clause-value : goal.returns-in_err-file-clause-value
returns-in_err-file-clause-value c = λ all given.
    let w = c.in_ok-words.words.now in
    let one : all.positional ≡ word_at w 0 ∷ [] = one_word w all.positional (c.in_ok-words.ensures all given) c.in-len1.len_at_least c.in-len1.len_below in
    rw c.from_residual-in_err-file.ensures (sym (rw one (ends_now (named (word_at w 0)) _ (sym c.in_err-file.ensures))))

pub returns-in_err-cfg-clause-value : goal.returns-in_err-cfg-clause-value
returns-in_err-cfg-clause-value c = λ all given.
    let w = c.in_ok-words.words.now in
    let one : all.positional ≡ word_at w 0 ∷ [] = one_word w all.positional (c.in_ok-words.ensures all given) c.in-len1.len_at_least c.in-len1.len_below in
    rw c.from_residual-in_err-cfg.ensures (sym (rw one (step_on (named (word_at w 0)) c.in_ok-file.file.now _ _ (sym c.in_ok-file.ensures)
    (ends_now (serve_cfg all) _ (sym (c.in_err-cfg.ensures.value all given))))))

pub returns-clause-value : goal.returns-clause-value
returns-clause-value c = λ all given.
    let w = c.in_ok-words.words.now in
    let one : all.positional ≡ word_at w 0 ∷ [] = one_word w all.positional (c.in_ok-words.ensures all given) c.in-len1.len_at_least c.in-len1.len_below in
    sym (rw one (step_on (named (word_at w 0)) c.in_ok-file.file.now _ _ (sym c.in_ok-file.ensures)
    (step_on (serve_cfg all) c.in_ok-cfg.cfg _ _ (sym (c.in_ok-cfg.ensures.value all given))
    (refl))))
