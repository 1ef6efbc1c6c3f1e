-- What the words of `tile` ask for.
use Rattle.std.proofs.Common.{rules, ◌≡◌, ◌∷◌, [], None, refl, sym}
use Rattle.line_text.specs.Number.{number_in}
use Rattle.tile_source.specs.declared.limits.TheConstants.{MOST_ZOOM, LAST_TILE}
use Rattle.command_line.specs.Commands.{named, side_of}
use Rattle.command_line.proofs.Asked.{ends_now, four_words, no_words, step_on, tile_few_words, tile_many_words, word_at}
use Rattle.command_line.proofs.orders.tile_of.Goals as goal
use Rattle.command_line.proofs.orders.tile_of.Goals.{in_default-via-then-words-lt4, in_default-via-else-words-lt4+else-words-lt5}

pub returns-in_err-words-clause-value : goal.returns-in_err-words-clause-value
returns-in_err-words-clause-value c = λ all given.
    rw c.from_residual.ensures (sym (rw (no_words None all.positional (c.in_err-words.ensures all given) refl) refl))

pub returns-in_default-clause-value : goal.returns-in_default-clause-value
returns-in_default-clause-value c = λ all given. elim c.in_default.branch [
  | in_default-via-then-words-lt4 w ↦ sym (tile_few_words all c.in_ok-words.words.now (c.in_ok-words.ensures all given) (search rules))
  | in_default-via-else-words-lt4+else-words-lt5 w ↦ sym (tile_many_words all c.in_ok-words.words.now (c.in_ok-words.ensures all given) (search rules))
]

pub returns-in_err-file-clause-value : goal.returns-in_err-file-clause-value
returns-in_err-file-clause-value c = λ all given.
    let w = c.in_ok-words.words.now in
    let four : all.positional ≡ word_at w 0 ∷ word_at w 1 ∷ word_at w 2 ∷ word_at w 3 ∷ [] =
    four_words w all.positional (c.in_ok-words.ensures all given) c.in-len4.len_at_least c.in-len4.len_below in
    rw c.from_residual-in_err-file.ensures (sym (rw four (ends_now (named (word_at w 0)) _ (sym c.in_err-file.ensures))))

pub returns-in_err-z-clause-value : goal.returns-in_err-z-clause-value
returns-in_err-z-clause-value c = λ all given.
    let w = c.in_ok-words.words.now in
    let four : all.positional ≡ word_at w 0 ∷ word_at w 1 ∷ word_at w 2 ∷ word_at w 3 ∷ [] =
    four_words w all.positional (c.in_ok-words.ensures all given) c.in-len4.len_at_least c.in-len4.len_below in
    rw c.from_residual-in_err-z.ensures (sym (rw four (step_on (named (word_at w 0)) c.in_ok-file.file.now _ _ (sym c.in_ok-file.ensures)
    (ends_now (number_in (word_at w 1) 0 MOST_ZOOM) _ (sym c.in_err-z.ensures.value)))))

pub returns-in_err-x-clause-value : goal.returns-in_err-x-clause-value
returns-in_err-x-clause-value c = λ all given.
    let w = c.in_ok-words.words.now in
    let four : all.positional ≡ word_at w 0 ∷ word_at w 1 ∷ word_at w 2 ∷ word_at w 3 ∷ [] =
    four_words w all.positional (c.in_ok-words.ensures all given) c.in-len4.len_at_least c.in-len4.len_below in
    rw c.from_residual-in_err-x.ensures (sym (rw four (step_on (named (word_at w 0)) c.in_ok-file.file.now _ _ (sym c.in_ok-file.ensures)
    (step_on (number_in (word_at w 1) 0 MOST_ZOOM) c.in_ok-z.z _ _ (sym c.in_ok-z.ensures.value)
    (ends_now (number_in (word_at w 2) 0 LAST_TILE) _ (sym c.in_err-x.ensures.value))))))

pub returns-in_err-y-clause-value : goal.returns-in_err-y-clause-value
returns-in_err-y-clause-value c = λ all given.
    let w = c.in_ok-words.words.now in
    let four : all.positional ≡ word_at w 0 ∷ word_at w 1 ∷ word_at w 2 ∷ word_at w 3 ∷ [] =
    four_words w all.positional (c.in_ok-words.ensures all given) c.in-len4.len_at_least c.in-len4.len_below in
    rw c.from_residual-in_err-y.ensures (sym (rw four (step_on (named (word_at w 0)) c.in_ok-file.file.now _ _ (sym c.in_ok-file.ensures)
    (step_on (number_in (word_at w 1) 0 MOST_ZOOM) c.in_ok-z.z _ _ (sym c.in_ok-z.ensures.value)
    (step_on (number_in (word_at w 2) 0 LAST_TILE) c.in_ok-x.x _ _ (sym c.in_ok-x.ensures.value)
    (ends_now (number_in (word_at w 3) 0 LAST_TILE) _ (sym c.in_err-y.ensures.value)))))))

pub returns-in_err-side-clause-value : goal.returns-in_err-side-clause-value
returns-in_err-side-clause-value c = λ all given.
    let w = c.in_ok-words.words.now in
    let four : all.positional ≡ word_at w 0 ∷ word_at w 1 ∷ word_at w 2 ∷ word_at w 3 ∷ [] =
    four_words w all.positional (c.in_ok-words.ensures all given) c.in-len4.len_at_least c.in-len4.len_below in
    rw c.from_residual-in_err-side.ensures (sym (rw four (step_on (named (word_at w 0)) c.in_ok-file.file.now _ _ (sym c.in_ok-file.ensures)
    (step_on (number_in (word_at w 1) 0 MOST_ZOOM) c.in_ok-z.z _ _ (sym c.in_ok-z.ensures.value)
    (step_on (number_in (word_at w 2) 0 LAST_TILE) c.in_ok-x.x _ _ (sym c.in_ok-x.ensures.value)
    (step_on (number_in (word_at w 3) 0 LAST_TILE) c.in_ok-y.y _ _ (sym c.in_ok-y.ensures.value)
    (ends_now (side_of all) _ (sym (c.in_err-side.ensures.value all given)))))))))

pub returns-clause-value : goal.returns-clause-value
returns-clause-value c = λ all given.
    let w = c.in_ok-words.words.now in
    let four : all.positional ≡ word_at w 0 ∷ word_at w 1 ∷ word_at w 2 ∷ word_at w 3 ∷ [] =
    four_words w all.positional (c.in_ok-words.ensures all given) c.in-len4.len_at_least c.in-len4.len_below in
    sym (rw four (step_on (named (word_at w 0)) c.in_ok-file.file.now _ _ (sym c.in_ok-file.ensures)
    (step_on (number_in (word_at w 1) 0 MOST_ZOOM) c.in_ok-z.z _ _ (sym c.in_ok-z.ensures.value)
    (step_on (number_in (word_at w 2) 0 LAST_TILE) c.in_ok-x.x _ _ (sym c.in_ok-x.ensures.value)
    (step_on (number_in (word_at w 3) 0 LAST_TILE) c.in_ok-y.y _ _ (sym c.in_ok-y.ensures.value)
    (step_on (side_of all) c.in_ok-side.side _ _ (sym (c.in_ok-side.ensures.value all given))
    (refl)))))))
