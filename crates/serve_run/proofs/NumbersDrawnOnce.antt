-- In a legal book each number is drawn once, and counted off once at most.
use Rattle.std.proofs.Common.{◌≡◌, ℕ, ◌+◌, ◌==◌, nat_le, Bool, true, false, ◌&&◌, ◌||◌, cond, List, [], ◌∷◌, ◌++◌, refl, sym, ap, ◌∙◌, subst, arith, append_assoc, eq-eqb}
use Rattle.std.specs.List.{list_any, count_by}
use Rattle.std.proofs.lemmas.Bool.{and_parts, or_parts, cond_both, eqb-true, false≢true}
use Rattle.std.proofs.lemmas.Bool.Decides.{nat_tests}
use Rattle.std.proofs.lemmas.List.{append-nil}
use Rattle.std.proofs.lemmas.List.Folds.{list_any-append}
use Rattle.std.proofs.lemmas.List.Sums.{sum_by-append, sum_by-cons}
use Rattle.discard_book.specs.declared.entry.Entry.{Entry}
use Rattle.discard_book.specs.declared.entry.Entry.TheVariants.{Grant, Reduced, Purge, Back}
use Rattle.discard_book.specs.Live.{takes_out, is_grant, live, has_number, grants}
use Rattle.discard_book.specs.Legal.{fits_after, has_room, room, IsLegal}
use Rattle.units.specs.Moment.{is_moment}
use Rattle.units.specs.declared.TheConstants.{MOST_PAGES}
use Rattle.serve_run.specs.Ending.{EndEachOnce}

-- the entry draws this number
abbrev pub draws : ℕ → Entry → Bool
draws id (Grant number client pages limit) = number == id
draws id (Reduced limit now after least) = false
draws id (Purge number known) = false
draws id (Back number) = false

-- an element that passes a test, with what stands before and behind it
pub record Splits {A : Type 0} (test : A → Bool) (xs : List A) : Type 0 where
  pub before : List A
  pub here : A
  pub behind : List A
  pub parts : xs ≡ before ++ here ∷ behind
  pub passes : test here ≡ true

splits_later : {A : Type 0} (test : A → Bool) (x : A) (xs : List A) → Splits test xs → Splits test (x ∷ xs)
splits_later test x xs s = record { before = x ∷ s.before; here = s.here; behind = s.behind; parts = ap (λ (ys : List _). x ∷ ys) s.parts; passes = s.passes }

pub splits : {A : Type 0} (test : A → Bool) (xs : List A) → list_any test xs ≡ true → Splits test xs
splits test [] some = absurd (false≢true some)
splits test (x ∷ xs) some =
    elim (test x) as (λ b. test x ≡ b → (b || list_any test xs) ≡ true → Splits test (x ∷ xs)) [
      | true ↦ λ here any. record { before = []; here = x; behind = xs; parts = refl; passes = here }
      | false ↦ λ here any. splits_later test x xs (splits test xs any)
    ] refl some

-- a test that cannot pass
pub false_unless : (b : Bool) → (b ≡ true → ⊥) → b ≡ false
false_unless true never = absurd (never refl)
false_unless false never = refl

-- an element that passes is found, wherever it stands
pub found_at : {A : Type 0} (test : A → Bool) (before behind : List A) (x : A) → test x ≡ true → list_any test (before ++ x ∷ behind) ≡ true
found_at test [] behind x passes = ap (λ b. b || list_any test behind) passes
found_at test (y ∷ before) behind x passes =
    elim (test y) as (λ b. (b || list_any test (before ++ x ∷ behind)) ≡ true) [ true ↦ refl | false ↦ found_at test before behind x passes ]

-- none is counted where none passes
count_none : {A : Type 0} (test : A → Bool) (xs : List A) → list_any test xs ≡ false → count_by test xs ≡ 0
count_none test [] none = refl
count_none test (x ∷ xs) none =
    let parts = or_parts (test x) (list_any test xs) none in
    omega (arith, sum_by-cons (λ y. cond (test y) 1 0) x xs, ap (λ b. cond {A = ℕ} b 1 0) parts.0, count_none test xs parts.1)

-- the live segments have no number that is not drawn behind, whatever stands in front
pub live_behind : (id : ℕ) (xs ys : List Entry) → list_any (draws id) xs ≡ false → has_number (live (xs ++ ys)) id ≡ has_number (live ys) id
live_behind id [] ys none = refl
live_behind id (Grant number client pages limit ∷ xs) ys none =
    let parts = or_parts (number == id) (list_any (draws id) xs) none in
    let rest : has_number (live (xs ++ ys)) id ≡ has_number (live ys) id = live_behind id xs ys parts.1 in
    let other : (id == number) ≡ false = grind (arith, nat_tests, parts.0) in
    cond_both (list_any (λ e. takes_out e number) (xs ++ ys)) (live (xs ++ ys)) ((number, pages) ∷ live (xs ++ ys)) (λ segments. has_number segments id ≡ has_number (live ys) id)
    (λ e. rest)
    (λ e. ap (λ b. b || has_number (live (xs ++ ys)) id) other ∙ rest)
live_behind id (Reduced limit now after least ∷ xs) ys none = live_behind id xs ys none
live_behind id (Purge number known ∷ xs) ys none = live_behind id xs ys none
live_behind id (Back number ∷ xs) ys none = live_behind id xs ys none

-- a number that is not drawn is not live
pub not_live : (id : ℕ) (xs : List Entry) → list_any (draws id) xs ≡ false → has_number (live xs) id ≡ false
not_live id xs none = ap (λ zs. has_number (live zs) id) (sym (append-nil xs)) ∙ live_behind id xs [] none

-- a number that was taken out since its Grant is not live
pub taken_out : (id client pages limit : ℕ) (ys : List Entry) → list_any (draws id) ys ≡ false → list_any (λ e. takes_out e id) ys ≡ true
    → has_number (live (Grant id client pages limit ∷ ys)) id ≡ false
taken_out id client pages limit ys none out =
    ap (λ b. has_number (cond b (live ys) ((id, pages) ∷ live ys)) id) out ∙ not_live id ys none

-- the Grant of a number that was not taken out since is live
pub still_live : (id client pages limit : ℕ) (ys : List Entry) → list_any (λ e. takes_out e id) ys ≡ false
    → has_number (live (Grant id client pages limit ∷ ys)) id ≡ true
still_live id client pages limit ys stays =
    ap (λ b. has_number (cond b (live ys) ((id, pages) ∷ live ys)) id) stays
    ∙ ap (λ b. b || has_number (live ys) id) (eq-eqb id id refl)

-- the number that an entry of a legal book draws is that of the Grants before it, and one
pub number_at : (before : List Entry) (e : Entry) (id : ℕ) → fits_after before e ≡ true → draws id e ≡ true → (id ≡ grants before + 1) × (is_grant e ≡ true)
number_at before (Grant number client pages limit) id fits draw =
    let wide = and_parts (number == grants before + 1 && nat_le 1 client && nat_le 1 pages && nat_le pages MOST_PAGES) (has_room before (room limit pages)) fits in
    let few = and_parts (number == grants before + 1 && nat_le 1 client && nat_le 1 pages) (nat_le pages MOST_PAGES) wide.0 in
    let some = and_parts (number == grants before + 1 && nat_le 1 client) (nat_le 1 pages) few.0 in
    let next = and_parts (number == grants before + 1) (nat_le 1 client) some.0 in
    (sym (eqb-true number id draw) ∙ eqb-true number (grants before + 1) next.0, refl)
number_at before (Reduced limit now after least) id fits draw = absurd (false≢true draw)
number_at before (Purge number known) id fits draw = absurd (false≢true draw)
number_at before (Back number) id fits draw = absurd (false≢true draw)

-- an entry that takes a number out finds it live
pub live_at : (before : List Entry) (e : Entry) (id : ℕ) → fits_after before e ≡ true → takes_out e id ≡ true → has_number (live before) id ≡ true
live_at before (Grant number client pages limit) id fits out = absurd (false≢true out)
live_at before (Reduced limit now after least) id fits out = absurd (false≢true out)
live_at before (Purge number known) id fits out =
    let same : number ≡ id = eqb-true number id out in
    subst (λ n. has_number (live before) n ≡ true) same (and_parts (has_number (live before) number) (is_moment known) fits).0
live_at before (Back number) id fits out = let same : number ≡ id = eqb-true number id out in subst (λ n. has_number (live before) n ≡ true) same fits

-- how many Grants stand in two parts
grants-append : (xs ys : List Entry) → grants (xs ++ ys) ≡ grants xs + grants ys
grants-append xs ys = sum_by-append (λ (e : Entry). cond (is_grant e) 1 0) xs ys

grants-cons : (e : Entry) (ys : List Entry) → is_grant e ≡ true → grants (e ∷ ys) ≡ 1 + grants ys
grants-cons e ys grant = sum_by-cons (λ (x : Entry). cond (is_grant x) 1 0) e ys ∙ ap (λ b. cond {A = ℕ} b 1 0 + grants ys) grant

-- Two Grants in a legal book draw two numbers.
drawn_apart : (entries before between behind : List Entry) (x y : Entry) (id : ℕ) → IsLegal entries
    → entries ≡ before ++ x ∷ (between ++ y ∷ behind) → draws id x ≡ true → draws id y ≡ true → ⊥
drawn_apart entries before between behind x y id legal parts first second =
    let one = number_at before x id (legal before x (between ++ y ∷ behind) parts) first in
    let two = number_at (before ++ x ∷ between) y id (legal (before ++ x ∷ between) y behind (parts ∙ sym (append_assoc before (x ∷ between) (y ∷ behind)))) second in
    omega (arith, one.0, two.0, grants-append before (x ∷ between), grants-cons x between one.1)

-- no entry before the Grant of a number draws it
pub none_before : (entries before behind : List Entry) (e : Entry) (id : ℕ) → IsLegal entries → entries ≡ before ++ e ∷ behind → draws id e ≡ true
    → list_any (draws id) before ≡ false
none_before entries before behind e id legal parts draw =
    false_unless (list_any (draws id) before) (λ some.
    let s = splits (draws id) before some in
    drawn_apart entries s.before s.behind behind s.here e id legal
    (parts ∙ ap (λ zs. zs ++ e ∷ behind) s.parts ∙ append_assoc s.before (s.here ∷ s.behind) (e ∷ behind)) s.passes draw)

-- and none behind it
pub none_behind : (entries before behind : List Entry) (e : Entry) (id : ℕ) → IsLegal entries → entries ≡ before ++ e ∷ behind → draws id e ≡ true
    → list_any (draws id) behind ≡ false
none_behind entries before behind e id legal parts draw =
    false_unless (list_any (draws id) behind) (λ some.
    let s = splits (draws id) behind some in
    drawn_apart entries before s.before s.behind e s.here id legal
    (parts ∙ ap (λ zs. before ++ e ∷ zs) s.parts) draw s.passes)

-- no entry before the Grant of a number takes it out
pub none_out_before : (entries before behind : List Entry) (e : Entry) (id : ℕ) → IsLegal entries → entries ≡ before ++ e ∷ behind → draws id e ≡ true
    → list_any (λ x. takes_out x id) before ≡ false
none_out_before entries before behind e id legal parts draw =
    false_unless (list_any (λ x. takes_out x id) before) (λ some.
    let s = splits (λ (x : Entry). takes_out x id) before some in
    let none : list_any (draws id) (s.before ++ s.here ∷ s.behind) ≡ false = subst (λ zs. list_any (draws id) zs ≡ false) s.parts (none_before entries before behind e id legal parts draw) in
    let front = (or_parts (list_any (draws id) s.before) (list_any (draws id) (s.here ∷ s.behind)) (sym (list_any-append (draws id) s.before (s.here ∷ s.behind)) ∙ none)).0 in
    let live_there = live_at s.before s.here id (legal s.before s.here (s.behind ++ e ∷ behind)
    (parts ∙ ap (λ zs. zs ++ e ∷ behind) s.parts ∙ append_assoc s.before (s.here ∷ s.behind) (e ∷ behind))) s.passes in
    false≢true (sym (not_live id s.before front) ∙ live_there))

-- What took a number out since its Grant is the only one: none of those before it did.
first_out : (entries before ys zs : List Entry) (id client pages limit : ℕ) (x : Entry) → IsLegal entries
    → entries ≡ before ++ Grant id client pages limit ∷ (ys ++ x ∷ zs) → takes_out x id ≡ true → list_any (λ e. takes_out e id) ys ≡ false
first_out entries before ys zs id client pages limit x legal parts out =
    false_unless (list_any (λ e. takes_out e id) ys) (λ some.
    let grant : Entry = Grant id client pages limit in
    let draw : draws id grant ≡ true = eq-eqb id id refl in
    let cut : entries ≡ (before ++ grant ∷ ys) ++ x ∷ zs = parts ∙ sym (append_assoc before (grant ∷ ys) (x ∷ zs)) in
    let there = live_at (before ++ grant ∷ ys) x id (legal (before ++ grant ∷ ys) x zs cut) out in
    let front = none_before entries before (ys ++ x ∷ zs) grant id legal parts draw in
    let back = none_behind entries before (ys ++ x ∷ zs) grant id legal parts draw in
    let middle = (or_parts (list_any (draws id) ys) (list_any (draws id) (x ∷ zs)) (sym (list_any-append (draws id) ys (x ∷ zs)) ∙ back)).0 in
    let gone = live_behind id before (grant ∷ ys) front ∙ taken_out id client pages limit ys middle some in
    false≢true (sym gone ∙ there))

-- in a legal book in which nothing is live each Grant has exactly one end
pub each_ends_once : (entries : List Entry) → IsLegal entries → live entries ≡ [] → EndEachOnce entries
each_ends_once entries legal none before later id client pages limit parts =
    let grant : Entry = Grant id client pages limit in
    let out : Entry → Bool = λ e. takes_out e id in
    let front = none_before entries before later grant id legal parts (eq-eqb id id refl) in
    let ended : list_any out later ≡ true =
    elim (list_any out later) as (λ b. list_any out later ≡ b → b ≡ true) [
      | true ↦ λ e. refl
      | false ↦ λ e. sym (sym (still_live id client pages limit later e) ∙ sym (live_behind id before (grant ∷ later) front) ∙ ap (λ zs. has_number (live zs) id) (sym parts) ∙ ap (λ segments. has_number segments id) none)
    ] refl in
    let s = splits out later ended in
    let one : list_any out s.before ≡ false =
    first_out entries before s.before s.behind id client pages limit s.here legal (parts ∙ ap (λ zs. before ++ grant ∷ zs) s.parts) s.passes in
    let two : list_any out s.behind ≡ false = false_unless (list_any out s.behind) (λ some.
    let t = splits out s.behind some in
    let never = first_out entries before (s.before ++ s.here ∷ t.before) t.behind id client pages limit t.here legal
    (parts ∙ ap (λ zs. before ++ grant ∷ zs) (s.parts ∙ ap (λ zs. s.before ++ s.here ∷ zs) t.parts ∙ sym (append_assoc s.before (s.here ∷ t.before) (t.here ∷ t.behind)))) t.passes in
    false≢true (sym never ∙ found_at out s.before t.before s.here s.passes)) in
    ap (λ zs. count_by out zs) s.parts
    ∙ sum_by-append (λ (e : Entry). cond (out e) 1 0) s.before (s.here ∷ s.behind)
    ∙ omega (arith, count_none out s.before one, count_none out s.behind two, sum_by-cons (λ (e : Entry). cond (out e) 1 0) s.here s.behind, ap (λ b. cond {A = ℕ} b 1 0) s.passes)
