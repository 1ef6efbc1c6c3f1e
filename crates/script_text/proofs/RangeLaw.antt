-- The commands of a script are in their ranges.
use Rattle.std.proofs.Common.{◌≡◌, ℕ, ◌^◌, ◌+◌, ◌-◌, ◌*◌, ◌≤◌, nat_le, nat_lt, Bool, true, false, ◌&&◌, cond, List, [], ◌∷◌, ◌++◌, length, Option, Some, None, Result, Ok, Err, IfOk, refl, subst, arith, codes}
use Rattle.std.specs.Str.{bytes_eq}
use Rattle.std.specs.Option.{ok_or, option_and_then}
use Rattle.std.proofs.lemmas.Bool.Decides.{nat_tests}
use Rattle.std.proofs.lemmas.Result.{IfOk-at_ok}
use Rattle.units.specs.declared.TheConstants.{PAGE, LAST_MOMENT}
use Rattle.units.specs.Moment.{IsMoment}
use Rattle.line_text.specs.declared.limits.TheConstants.{MOST_TEXT_BYTES, MOST_CLIENTS, MOST_SEGMENT_PAGES, MOST_LIMIT, MOST_MOVED_BYTES}
use Rattle.line_text.specs.declared.cause.Cause.{Cause}
use Rattle.line_text.specs.declared.cause.Cause.TheVariants as cause
use Rattle.script_text.specs.declared.command.Command.{Command}
use Rattle.line_text.specs.Number.{number_of, within}
use Rattle.line_text.specs.Lines.{kept_lines}
use Rattle.line_text.specs.Hex.{hex_bytes, hex_digit}
use Rattle.line_text.specs.Refusals.{◌>>=◌, number}
use Rattle.script_text.specs.Script.{Commands, segment, client, moment, first_page, page_count, page_limit, is_critical, byte_place, byte_count, bytes, grant, lock, unlock, write, read, try_purge, back, reduce, enforce, pressure, limit, remove, granted, alloc, piece_lock, piece_unlock, piece_write, piece_read, piece_free, sweep, release, runs, piece_size, piece, manager_command, piece_command, named_command, command_of, next_command, is_one_too_many, at_line, commands_after, script_of}
use Rattle.script_text.specs.Ranges.{IsBetween, IsClient, IsLimit, IsFirstPage, IsPageCount, IsBytePlace, IsPieceSize, IsByteCount, IsInRange, AreInRange}

-- what a second step gives is well, where it is for all that the first may give
then : {A B E : Type 0} (r : Result A E) (P : A → Type 0) (f : A → Result B E) (Q : B → Type 0) → IfOk r P → ((x : A) → P x → IfOk (f x) Q) → IfOk (r >>= f) Q
then (Ok x) P f Q p next = next x p
then (Err e) P f Q p next = tt

-- a choice is well, where both sides are
choice : {A E : Type 0} (P : A → Type 0) (b : Bool) (x y : Result A E) → IfOk x P → IfOk y P → IfOk (cond b x y) P
choice P true x y p q = p
choice P false x y p q = q

-- ---- words

within_range : (least most m : ℕ) (b : Bool) → (nat_le least m && nat_le m most) ≡ b → IfOk (ok_or (cond b (Some m) None) cause.Number) (IsBetween least most)
within_range least most m true test = (grind (arith, nat_tests), grind (arith, nat_tests))
within_range least most m false test = tt

found_in_range : (least most : ℕ) (found : Option ℕ) → IfOk (ok_or (within least most found) cause.Number) (IsBetween least most)
found_in_range least most None = tt
found_in_range least most (Some m) = within_range least most m (nat_le least m && nat_le m most) refl

-- a number that is taken lies in its range
in_range : (word : List ℕ) (least most : ℕ) → IfOk (number word least most) (IsBetween least most)
in_range word least most = found_in_range least most (number_of word)

with_segment : (word : List ℕ) (f : ℕ → Result Command Cause) → ((x : ℕ) → IsBetween 0 (2 ^ 64 - 1) x → IfOk (f x) IsInRange) → IfOk (segment word >>= f) IsInRange
with_segment word f = then (segment word) _ f IsInRange (in_range word 0 (2 ^ 64 - 1))

with_client : (word : List ℕ) (f : ℕ → Result Command Cause) → ((x : ℕ) → IsClient x → IfOk (f x) IsInRange) → IfOk (client word >>= f) IsInRange
with_client word f = then (client word) _ f IsInRange (in_range word 1 MOST_CLIENTS)

with_moment : (word : List ℕ) (f : ℕ → Result Command Cause) → ((x : ℕ) → IsMoment x → IfOk (f x) IsInRange) → IfOk (moment word >>= f) IsInRange
with_moment word f = then (moment word) _ f IsInRange (in_range word 1 LAST_MOMENT)

with_first : (word : List ℕ) (f : ℕ → Result Command Cause) → ((x : ℕ) → IsFirstPage x → IfOk (f x) IsInRange) → IfOk (first_page word >>= f) IsInRange
with_first word f = then (first_page word) _ f IsInRange (in_range word 0 (MOST_SEGMENT_PAGES - 1))

with_pages : (word : List ℕ) (f : ℕ → Result Command Cause) → ((x : ℕ) → IsPageCount x → IfOk (f x) IsInRange) → IfOk (page_count word >>= f) IsInRange
with_pages word f = then (page_count word) _ f IsInRange (in_range word 1 MOST_SEGMENT_PAGES)

with_limit : (word : List ℕ) (f : ℕ → Result Command Cause) → ((x : ℕ) → IsLimit x → IfOk (f x) IsInRange) → IfOk (page_limit word >>= f) IsInRange
with_limit word f = then (page_limit word) _ f IsInRange (in_range word 0 MOST_LIMIT)

with_place : (word : List ℕ) (f : ℕ → Result Command Cause) → ((x : ℕ) → IsBytePlace x → IfOk (f x) IsInRange) → IfOk (byte_place word >>= f) IsInRange
with_place word f = then (byte_place word) _ f IsInRange (in_range word 0 (MOST_SEGMENT_PAGES * PAGE - 1))

with_size : (word : List ℕ) (f : ℕ → Result Command Cause) → ((x : ℕ) → IsPieceSize x → IfOk (f x) IsInRange) → IfOk (piece_size word >>= f) IsInRange
with_size word f = then (piece_size word) _ f IsInRange (in_range word 0 (MOST_SEGMENT_PAGES * PAGE))

with_piece : (word : List ℕ) (f : ℕ → Result Command Cause) → ((x : ℕ) → IsBetween 0 (2 ^ 64 - 1) x → IfOk (f x) IsInRange) → IfOk (piece word >>= f) IsInRange
with_piece word f = then (piece word) _ f IsInRange (in_range word 0 (2 ^ 64 - 1))

with_count : (word : List ℕ) (f : ℕ → Result Command Cause) → ((x : ℕ) → IsByteCount x → IfOk (f x) IsInRange) → IfOk (byte_count word >>= f) IsInRange
with_count word f = then (byte_count word) _ f IsInRange (in_range word 1 MOST_MOVED_BYTES)

some_same : {A : Type 0} (P : A → Type 0) (x y : A) (o : Option A) → o ≡ Some y → o ≡ Some x → P x → P y
some_same P x y o e f p = subst P (let same : x ≡ y = cc in same) p

bind_some : {A B : Type 0} (o : Option A) (f : A → Option B) (y : B) → option_and_then f o ≡ Some y → (x : A) × (o ≡ Some x) × (f x ≡ Some y)
bind_some (Some x) f y e = (x, refl, e)
bind_some None f y h = cc

-- two digits are a byte
hex_length : (digits content : List ℕ) → hex_bytes digits ≡ Some content → 2 * length content ≡ length digits
hex_length [] content e = some_same (λ bs. 2 * length bs ≡ 0) [] content (Some []) e refl refl
hex_length (d ∷ []) content e = cc
hex_length (h ∷ l ∷ digits) content e =
    let high = bind_some (hex_digit h) _ content e in
    let low = bind_some (hex_digit l) _ content high.2 in
    let rest = bind_some (hex_bytes digits) _ content low.2 in
    some_same (λ bs. 2 * length bs ≡ length (h ∷ l ∷ digits)) ((high.0 * 16 + low.0) ∷ rest.0) content (Some ((high.0 * 16 + low.0) ∷ rest.0)) rest.2 refl
    (omega (arith, hex_length digits rest.0 rest.1))

hex_found : (word : List ℕ) (o : Option (List ℕ)) → 2 ≤ length word → length word ≤ 2 * MOST_MOVED_BYTES → hex_bytes word ≡ o → IfOk (ok_or o cause.Bytes) (λ content. IsByteCount (length content))
hex_found word None least most is = tt
hex_found word (Some content) least most is = let sized = hex_length word content is in (omega (arith, sized, least), omega (arith, sized, most))

hex_in : (word : List ℕ) (b : Bool) → (nat_le 2 (length word) && nat_le (length word) (2 * MOST_MOVED_BYTES)) ≡ b
    → IfOk (ok_or (cond b (hex_bytes word) None) cause.Bytes) (λ content. IsByteCount (length content))
hex_in word true test = hex_found word (hex_bytes word) (grind (arith, nat_tests)) (grind (arith, nat_tests)) refl
hex_in word false test = tt

bytes_in : (word : List ℕ) → IfOk (bytes word) (λ content. IsByteCount (length content))
bytes_in word = hex_in word (nat_le 2 (length word) && nat_le (length word) (2 * MOST_MOVED_BYTES)) refl

with_bytes : (word : List ℕ) (f : List ℕ → Result Command Cause) → ((x : List ℕ) → IsByteCount (length x) → IfOk (f x) IsInRange) → IfOk (bytes word >>= f) IsInRange
with_bytes word f = then (bytes word) _ f IsInRange (bytes_in word)

any_want : (word : List ℕ) → IfOk (is_critical word) (λ critical. Unit {0})
any_want word = choice _ (bytes_eq word (codes "critical")) _ _ tt (choice _ (bytes_eq word (codes "moderate")) _ _ tt tt)

with_want : (word : List ℕ) (f : Bool → Result Command Cause) → ((x : Bool) → Unit {0} → IfOk (f x) IsInRange) → IfOk (is_critical word >>= f) IsInRange
with_want word f = then (is_critical word) _ f IsInRange (any_want word)

-- ---- commands

grant_in : (words : List (List ℕ)) → IfOk (grant words) IsInRange
grant_in (c ∷ n ∷ t ∷ []) = with_client c _ (λ owner a. with_pages n _ (λ pages b. with_moment t _ (λ at d. (a, b, d))))
grant_in _ = tt

lock_in : (words : List (List ℕ)) → IfOk (lock words) IsInRange
lock_in (s ∷ f ∷ n ∷ []) = with_segment s _ (λ id i. with_first f _ (λ first a. with_pages n _ (λ count b. (a, b))))
lock_in _ = tt

unlock_in : (words : List (List ℕ)) → IfOk (unlock words) IsInRange
unlock_in (s ∷ f ∷ n ∷ t ∷ []) =
    with_segment s _ (λ id i. with_first f _ (λ first a. with_pages n _ (λ count b. with_moment t _ (λ at d. (a, b, d)))))
unlock_in _ = tt

write_in : (words : List (List ℕ)) → IfOk (write words) IsInRange
write_in (s ∷ p ∷ h ∷ []) = with_segment s _ (λ id i. with_place p _ (λ place a. with_bytes h _ (λ content b. (a, b))))
write_in _ = tt

read_in : (words : List (List ℕ)) → IfOk (read words) IsInRange
read_in (s ∷ p ∷ r ∷ []) = with_segment s _ (λ id i. with_place p _ (λ place a. with_count r _ (λ count b. (a, b))))
read_in _ = tt

try_in : (words : List (List ℕ)) → IfOk (try_purge words) IsInRange
try_in (s ∷ t ∷ []) = with_segment s _ (λ id i. with_moment t _ (λ at a. a))
try_in _ = tt

back_in : (words : List (List ℕ)) → IfOk (back words) IsInRange
back_in (s ∷ []) = with_segment s _ (λ id i. tt)
back_in _ = tt

reduce_in : (words : List (List ℕ)) → IfOk (reduce words) IsInRange
reduce_in (l ∷ t ∷ []) = with_limit l _ (λ pages a. with_moment t _ (λ at b. (a, b)))
reduce_in _ = tt

enforce_in : (words : List (List ℕ)) → IfOk (enforce words) IsInRange
enforce_in (t ∷ []) = with_moment t _ (λ at a. a)
enforce_in _ = tt

pressure_in : (words : List (List ℕ)) → IfOk (pressure words) IsInRange
pressure_in (w ∷ t ∷ []) = with_want w _ (λ critical i. with_moment t _ (λ at a. a))
pressure_in _ = tt

new_limit_in : (words : List (List ℕ)) → IfOk (limit words) IsInRange
new_limit_in (l ∷ t ∷ []) = with_limit l _ (λ pages a. with_moment t _ (λ at b. (a, b)))
new_limit_in _ = tt

remove_in : (words : List (List ℕ)) → IfOk (remove words) IsInRange
remove_in (c ∷ []) = with_client c _ (λ owner a. a)
remove_in _ = tt

granted_in : (words : List (List ℕ)) → IfOk (granted words) IsInRange
granted_in [] = tt
granted_in _ = tt

manager_in : (name : List ℕ) (words : List (List ℕ)) → IfOk (manager_command name words) IsInRange
manager_in name words =
    choice _ (bytes_eq name (codes "back")) _ _ (back_in words)
    (choice _ (bytes_eq name (codes "reduce")) _ _ (reduce_in words)
    (choice _ (bytes_eq name (codes "enforce")) _ _ (enforce_in words)
    (choice _ (bytes_eq name (codes "pressure")) _ _ (pressure_in words)
    (choice _ (bytes_eq name (codes "limit")) _ _ (new_limit_in words)
    (choice _ (bytes_eq name (codes "remove")) _ _ (remove_in words)
    (choice _ (bytes_eq name (codes "granted")) _ _ (granted_in words) tt))))))

alloc_in : (words : List (List ℕ)) → IfOk (alloc words) IsInRange
alloc_in (c ∷ b ∷ t ∷ []) = with_client c _ (λ owner a. with_size b _ (λ size b. with_moment t _ (λ at d. (a, b, d))))
alloc_in _ = tt

piece_lock_in : (words : List (List ℕ)) → IfOk (piece_lock words) IsInRange
piece_lock_in (k ∷ []) = with_piece k _ (λ told i. tt)
piece_lock_in _ = tt

piece_unlock_in : (words : List (List ℕ)) → IfOk (piece_unlock words) IsInRange
piece_unlock_in (k ∷ t ∷ []) = with_piece k _ (λ told i. with_moment t _ (λ at a. a))
piece_unlock_in _ = tt

piece_write_in : (words : List (List ℕ)) → IfOk (piece_write words) IsInRange
piece_write_in (k ∷ p ∷ h ∷ []) = with_piece k _ (λ told i. with_place p _ (λ place a. with_bytes h _ (λ content b. (a, b))))
piece_write_in _ = tt

piece_read_in : (words : List (List ℕ)) → IfOk (piece_read words) IsInRange
piece_read_in (k ∷ p ∷ r ∷ []) = with_piece k _ (λ told i. with_place p _ (λ place a. with_count r _ (λ count b. (a, b))))
piece_read_in _ = tt

piece_free_in : (words : List (List ℕ)) → IfOk (piece_free words) IsInRange
piece_free_in (k ∷ t ∷ []) = with_piece k _ (λ told i. with_moment t _ (λ at a. a))
piece_free_in _ = tt

sweep_in : (words : List (List ℕ)) → IfOk (sweep words) IsInRange
sweep_in (c ∷ []) = with_client c _ (λ owner a. a)
sweep_in _ = tt

release_in : (words : List (List ℕ)) → IfOk (release words) IsInRange
release_in (c ∷ []) = with_client c _ (λ owner a. a)
release_in _ = tt

runs_in : (words : List (List ℕ)) → IfOk (runs words) IsInRange
runs_in (c ∷ []) = with_client c _ (λ owner a. a)
runs_in _ = tt

piece_in : (name : List ℕ) (words : List (List ℕ)) → IfOk (piece_command name words) IsInRange
piece_in name words =
    choice _ (bytes_eq name (codes "alloc")) _ _ (alloc_in words)
    (choice _ (bytes_eq name (codes "plock")) _ _ (piece_lock_in words)
    (choice _ (bytes_eq name (codes "punlock")) _ _ (piece_unlock_in words)
    (choice _ (bytes_eq name (codes "pwrite")) _ _ (piece_write_in words)
    (choice _ (bytes_eq name (codes "pread")) _ _ (piece_read_in words)
    (choice _ (bytes_eq name (codes "pfree")) _ _ (piece_free_in words)
    (choice _ (bytes_eq name (codes "sweep")) _ _ (sweep_in words)
    (choice _ (bytes_eq name (codes "release")) _ _ (release_in words)
    (choice _ (bytes_eq name (codes "runs")) _ _ (runs_in words) (manager_in name words)))))))))

named_in : (name : List ℕ) (words : List (List ℕ)) → IfOk (named_command name words) IsInRange
named_in name words =
    choice _ (bytes_eq name (codes "grant")) _ _ (grant_in words)
    (choice _ (bytes_eq name (codes "lock")) _ _ (lock_in words)
    (choice _ (bytes_eq name (codes "unlock")) _ _ (unlock_in words)
    (choice _ (bytes_eq name (codes "write")) _ _ (write_in words)
    (choice _ (bytes_eq name (codes "read")) _ _ (read_in words)
    (choice _ (bytes_eq name (codes "try")) _ _ (try_in words) (piece_in name words))))))

command_in : (words : List (List ℕ)) → IfOk (command_of words) IsInRange
command_in [] = tt
command_in (name ∷ words) = named_in name words

-- ---- scripts

next_in : (before : Commands) (words : List (List ℕ)) → IfOk (next_command before words) IsInRange
next_in before words = then (command_of words) _ _ _ (command_in words) (λ command a. choice _ (is_one_too_many before command) _ _ tt a)

line_in : (place : ℕ) (r : Result Command Cause) → IfOk r IsInRange → IfOk (at_line place r) IsInRange
line_in place (Ok command) a = a
line_in place (Err why) a = tt

all_push : (before : Commands) (line : ℕ × Command) → AreInRange before → IsInRange line.1 → AreInRange (before ++ line ∷ [])
all_push [] line w new = (new, tt)
all_push (x ∷ before) line w new = (w.0, all_push before line w.1 new)

after_in : (before : Commands) (lines : List (ℕ × List (List ℕ))) → AreInRange before → IfOk (commands_after before lines) AreInRange
after_in before [] w = w
after_in before (line ∷ lines) w =
    then (at_line line.0 (next_command before line.1)) _ _ _ (line_in line.0 (next_command before line.1) (next_in before line.1))
    (λ command a. after_in (before ++ (line.0, command) ∷ []) lines (all_push before (line.0, command) w a))

text_in : (text : List ℕ) → IfOk (script_of text) AreInRange
text_in text = choice _ (nat_lt MOST_TEXT_BYTES (length text)) _ _ tt (after_in [] (kept_lines text) tt)

pub script_in : (text : List ℕ) (commands : Commands) → script_of text ≡ Ok commands → AreInRange commands
script_in text commands e = IfOk-at_ok AreInRange e (text_in text)
