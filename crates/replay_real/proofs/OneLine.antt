-- The words of replies have no LF.
use Rattle.std.proofs.Common.{◌≡◌, ℕ, ◌+◌, ◌%◌, ◌/◌, ◌==◌, nat_lt, Bool, true, false, true≢false, ◌||◌, cond, List, [], ◌∷◌, ◌++◌, get_or, zero, suc, Option, Some, None, decimal, flat_map, codes, refl, ◌∙◌, arith}
use Rattle.std.specs.List.{list_any}
use Rattle.std.specs.Fmt.{digits, digits_onto, digit_glyph}
use Rattle.std.proofs.lemmas.List.Folds.{list_any-append}
use Rattle.std.proofs.lemmas.Bool.{ne_eqb}
use Rattle.hex.specs.Hex.{lower_digits, encode_with, encode_lower}
use Rattle.machine.specs.declared.event.Answer.{Answer}
use Rattle.machine.specs.declared.event.Answer.TheVariants as answer
use Rattle.discard_book.specs.declared.entry.Entry.{Entry}
use Rattle.discard_book.specs.declared.entry.Entry.TheVariants as entry
use Rattle.discard_book.specs.Text.{spaced, spaced_or_dash}
use Rattle.span_heap.specs.declared.run.Run.{Run}
use Rattle.replay_plain.specs.Replies.{answer_text, back_answer_text, purged_text, reduced_words, removed_words, granted_words, swept_words, released_words, freed_words, piece_words, run_words, runs_words}
use Rattle.replay_real.specs.Standing.{IsOneLine, AppendsWords}

both : (a b : Bool) → a ≡ false → b ≡ false → (a || b) ≡ false
both true b p q = p
both false b p q = q

-- two pieces without LF have none together
pub joined : (xs ys : List ℕ) → IsOneLine xs → IsOneLine ys → IsOneLine (xs ++ ys)
joined xs ys p q = list_any-append (λ byte. byte == 10) xs ys ∙ both (list_any (λ byte. byte == 10) xs) (list_any (λ byte. byte == 10) ys) p q

glyph_line : (d : ℕ) → (digit_glyph false d == 10) ≡ false
glyph_line d = by_test (nat_lt d 10)
  where
    by_test : (b : Bool) → (cond b (48 + d) (cond false (55 + d) (87 + d)) == 10) ≡ false
    by_test true = ne_eqb (48 + d) 10 (λ e. omega arith)
    by_test false = ne_eqb (87 + d) 10 (λ e. omega arith)

onto_line : (k n : ℕ) (acc : List ℕ) → IsOneLine acc → IsOneLine (digits_onto k 10 false n acc)
onto_line zero n acc p = p
onto_line (suc k) n acc p =
    by_test (n / 10 == 0) (onto_line k (n / 10) (digit_glyph false (n % 10) ∷ acc) (both _ _ (glyph_line (n % 10)) p))
  where
    by_test : (b : Bool) → IsOneLine (digits_onto k 10 false (n / 10) (digit_glyph false (n % 10) ∷ acc))
        → IsOneLine (cond b (digit_glyph false (n % 10) ∷ acc) (digits_onto k 10 false (n / 10) (digit_glyph false (n % 10) ∷ acc)))
    by_test true q = both _ _ (glyph_line (n % 10)) p
    by_test false q = q

pub decimal_line : (n : ℕ) → IsOneLine (decimal n)
unfolding digits
decimal_line n = onto_line 64 n [] refl

digit_line : (xs : List ℕ) (k : ℕ) → IsOneLine xs → (get_or xs k 0 == 10) ≡ false
digit_line [] k p = refl
digit_line (x ∷ xs) zero p = first (x == 10) (list_any (λ byte. byte == 10) xs) p
  where
    first : (a b : Bool) → (a || b) ≡ false → a ≡ false
    first true b p = p
    first false b p = refl
digit_line (x ∷ xs) (suc k) p = digit_line xs k (rest (x == 10) (list_any (λ byte. byte == 10) xs) p)
  where
    rest : (a b : Bool) → (a || b) ≡ false → b ≡ false
    rest true b p = absurd (true≢false p)
    rest false b p = p

pub hex_line : (bytes : List ℕ) → IsOneLine (encode_lower bytes)
unfolding encode_with
hex_line [] = refl
hex_line (b ∷ rest) = both _ _ (digit_line lower_digits (b / 16) refl) (both _ _ (digit_line lower_digits (b % 16) refl) (hex_line rest))

pub spaced_line : (n : ℕ) → IsOneLine (spaced n)
spaced_line n = decimal_line n

pub answer_line : (a : Answer) → IsOneLine (answer_text a)
answer_line (answer.Granted id) = joined (codes "segment ") (decimal id) refl (decimal_line id)
answer_line answer.Held = refl
answer_line answer.Gone = refl
answer_line (answer.Idle at) = joined (codes "idle ") (decimal at) refl (decimal_line at)
answer_line (answer.StillHeld pages) = joined (codes "held ") (decimal pages) refl (decimal_line pages)
answer_line answer.Written = refl
answer_line answer.Taken = refl
answer_line (answer.Used known) = joined (codes "used ") (decimal known) refl (decimal_line known)
answer_line answer.Counted = refl
answer_line answer.Purged = refl
answer_line answer.Misuse = refl

pub back_line : (a : Answer) → IsOneLine (back_answer_text a)
back_line answer.Misuse = refl
back_line a = answer_line a

or_dash_line : (n : Option ℕ) → IsOneLine (spaced_or_dash n)
or_dash_line None = refl
or_dash_line (Some n) = spaced_line n

purge_line : (e : Entry) → IsOneLine (purged_text e)
purge_line (entry.Purge id known) = spaced_line id
purge_line e = refl

purged_line : (entries : List Entry) → IsOneLine (flat_map purged_text entries)
purged_line [] = refl
purged_line (e ∷ entries) = joined (purged_text e) (flat_map purged_text entries) (purge_line e) (purged_line entries)

pub reduced_line : (after : ℕ) (least : Option ℕ) (entries : List Entry) → IsOneLine (reduced_words after least entries)
reduced_line after least entries =
    joined (codes "reduced" ++ spaced after ++ spaced_or_dash least) (flat_map purged_text entries)
    (joined (codes "reduced" ++ spaced after) (spaced_or_dash least) (joined (codes "reduced") (spaced after) refl (spaced_line after)) (or_dash_line least))
    (purged_line entries)

pub removed_line : (count : ℕ) → IsOneLine (removed_words count)
removed_line count = joined (codes "removed") (spaced count) refl (spaced_line count)

pub granted_line : (pages : ℕ) → IsOneLine (granted_words pages)
granted_line pages = joined (codes "granted") (spaced pages) refl (spaced_line pages)

pub swept_line : (count : ℕ) → IsOneLine (swept_words count)
swept_line count = joined (codes "swept") (spaced count) refl (spaced_line count)

pub released_line : (count : ℕ) → IsOneLine (released_words count)
released_line count = joined (codes "released") (spaced count) refl (spaced_line count)

pub freed_line : (there : Bool) → IsOneLine (freed_words there)
freed_line true = refl
freed_line false = refl

pub piece_line : (number : ℕ) (old : Bool) (run : Run) → IsOneLine (piece_words number old run)
piece_line number old run =
    let named = joined (codes "piece") (spaced number) refl (spaced_line number) in
    let came = joined (codes "piece" ++ spaced number) (cond old (codes " old") (codes " new")) named (word old) in
    let segment = joined (codes "piece" ++ spaced number ++ cond old (codes " old") (codes " new")) (spaced run.segment) came (spaced_line run.segment) in
    let first = joined (codes "piece" ++ spaced number ++ cond old (codes " old") (codes " new") ++ spaced run.segment) (spaced run.first) segment (spaced_line run.first) in
    joined (codes "piece" ++ spaced number ++ cond old (codes " old") (codes " new") ++ spaced run.segment ++ spaced run.first) (spaced run.pages) first (spaced_line run.pages)
  where
    word : (b : Bool) → IsOneLine (cond b (codes " old") (codes " new"))
    word true = refl
    word false = refl

run_line : (run : Run) → IsOneLine (run_words run)
run_line run =
    let segment = joined (spaced run.segment) (codes ":") (spaced_line run.segment) refl in
    let first = joined (spaced run.segment ++ codes ":") (decimal run.first) segment (decimal_line run.first) in
    let plus = joined (spaced run.segment ++ codes ":" ++ decimal run.first) (codes "+") first refl in
    joined (spaced run.segment ++ codes ":" ++ decimal run.first ++ codes "+") (decimal run.pages) plus (decimal_line run.pages)

all_runs : (runs : List Run) → IsOneLine (flat_map run_words runs)
all_runs [] = refl
all_runs (run ∷ runs) = joined (run_words run) (flat_map run_words runs) (run_line run) (all_runs runs)

pub runs_line : (runs : List Run) → IsOneLine (runs_words runs)
runs_line runs = joined (codes "runs") (flat_map run_words runs) refl (all_runs runs)

-- words without LF were appended
pub appends : (before after words : List ℕ) → after ≡ before ++ words → IsOneLine words → AppendsWords before after
appends before after words is line = record { words = words; appended = is; line = line }
