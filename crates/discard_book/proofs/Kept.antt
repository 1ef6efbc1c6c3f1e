-- What the table of a book tells of its entries, and how it follows one more entry.
use Rattle.std.proofs.Common.{◌≡◌, ℕ, ◌+◌, ◌-◌, ◌==◌, ◌<◌, ◌≤◌, nat_le, true, ◌&&◌, List, [], ◌∷◌, ◌++◌, length, get_or, set, filter, sum, zero, suc, cond, nat_lt, inl, inr, length-append, refl, sym, ap, subst, ◌∙◌, arith}
use Rattle.std.specs.List.{Contains}
use Rattle.std.proofs.lemmas.Bool.{and_parts, cases_lt, eqb-true, leb-true, ltb-true, false≢true}
use Rattle.std.proofs.lemmas.List.{append-nil, length-set, get_or_past}
use Rattle.std.proofs.lemmas.List.Sums.{sum_by-set, sum_by_push}
use Rattle.units.specs.declared.TheConstants.{MOST_PAGES}
use Rattle.units.specs.Moment.{is_moment}
use Rattle.discard_book.specs.declared.entry.Entry.{Entry}
use Rattle.discard_book.specs.declared.entry.Entry.TheVariants.{Grant, Reduced, Purge, Back}
use Rattle.discard_book.specs.Live.{is_grant, live, has_number, pages_of, granted, grants, live_after, AreDrawn, FellBySegment, GrantedFollows}
use Rattle.discard_book.specs.Legal.{room, is_empty, fits_after, has_room}
use Rattle.discard_book.specs.Table.{numbered, table_after, CanFollow, Keeps}
use Rattle.discard_book.proofs.Numbered.{has_number-at, has_number-below, without, without-at, pages_of-numbered, is_empty-numbered, numbered-push, AreDrawn-numbered, segment_at}
use Rattle.discard_book.proofs.Pushed.{live-push, grants-push, IsLegal-push}

-- granted pages are the sum of the table
pub granted_is : (entries : List Entry) (table : List ℕ) → Keeps entries table → granted entries ≡ sum table
granted_is entries table kept = ap pages_of kept.segments ∙ pages_of-numbered 1 table

-- nothing is live where that sum is 0
pub is_empty_is : (entries : List Entry) (table : List ℕ) → Keeps entries table → is_empty (live entries) ≡ (sum table == 0)
is_empty_is entries table kept = ap is_empty kept.segments ∙ is_empty-numbered 1 table

-- a number is live where it stands in the table
pub has_number_is : (entries : List Entry) (table : List ℕ) (number : ℕ) → Keeps entries table → has_number (live entries) number ≡ has_number (numbered 1 table) number
has_number_is entries table number kept = ap (λ segments. has_number segments number) kept.segments

-- the live segments were drawn
pub drawn : (entries : List Entry) (table : List ℕ) → Keeps entries table → AreDrawn (live entries) (grants entries)
drawn entries table kept = rw (kept.segments, ← kept.numbers) (AreDrawn-numbered table)

-- a live number was drawn
pub number_within : (entries : List Entry) (table : List ℕ) (number : ℕ) → Keeps entries table → has_number (live entries) number ≡ true → (1 ≤ number) × (number ≤ length table)
number_within entries table zero kept here =
    absurd (false≢true (sym (has_number-below 1 0 table (omega arith)) ∙ sym (has_number_is entries table 0 kept) ∙ here))
number_within entries table (suc place) kept here =
    let at : has_number (numbered 1 table) (suc place) ≡ nat_lt 0 (get_or table place 0) = has_number-at 1 (suc place) place table (omega arith) in
    let some : nat_lt 0 (get_or table place 0) ≡ true = sym at ∙ sym (has_number_is entries table (suc place) kept) ∙ here in
    elim (cases_lt place (length table)) [
      | inl within ↦ (omega arith, omega arith)
      | inr past ↦ absurd (false≢true (sym (ap (λ n. nat_lt 0 n) (get_or_past table place 0 past)) ∙ some))
    ]

-- no entry is legal
no_entry : (before : List Entry) (entry : Entry) (behind : List Entry) → [] ≡ before ++ entry ∷ behind → ⊥
no_entry [] entry behind same = cc
no_entry (first ∷ before) entry behind same = cc

-- no entry yet
pub Keeps-none : Keeps [] []
Keeps-none = record { legal = λ before entry behind same. absurd (no_entry before entry behind same); segments = refl; numbers = refl }

-- what a Grant that fits tells of itself
pub record GrantFits (entries : List Entry) (id pages : ℕ) : Type 0 where
  pub next : id ≡ grants entries + 1
  pub some : 1 ≤ pages
  pub few : pages ≤ MOST_PAGES

pub grant_fits : (entries : List Entry) (id client pages limit : ℕ) → fits_after entries (Grant id client pages limit) ≡ true → GrantFits entries id pages
grant_fits entries id client pages limit fits =
    let wide = and_parts (id == grants entries + 1 && nat_le 1 client && nat_le 1 pages && nat_le pages MOST_PAGES) (has_room entries (room limit pages)) fits in
    let few = and_parts (id == grants entries + 1 && nat_le 1 client && nat_le 1 pages) (nat_le pages MOST_PAGES) wide.0 in
    let some = and_parts (id == grants entries + 1 && nat_le 1 client) (nat_le 1 pages) few.0 in
    let next = and_parts (id == grants entries + 1) (nat_le 1 client) some.0 in
    record { next = eqb-true id (grants entries + 1) next.0; some = leb-true 1 pages some.1; few = leb-true pages MOST_PAGES few.1 }

-- the table can follow an entry that fits
pub can_follow : (entries : List Entry) (table : List ℕ) (entry : Entry) → Keeps entries table → fits_after entries entry ≡ true → CanFollow table entry
can_follow entries table (Grant id client pages limit) kept fits = (grant_fits entries id client pages limit fits).few
can_follow entries table (Reduced limit now after least) kept fits = tt
can_follow entries table (Purge id known) kept fits = number_within entries table id kept (and_parts (has_number (live entries) id) (is_moment known) fits).0
can_follow entries table (Back id) kept fits = number_within entries table id kept fits

-- the live segments after an entry that takes nothing out, and after one that takes a number out
all_stay : (segments : List (ℕ × ℕ)) → filter (λ (segment : ℕ × ℕ). true) segments ≡ segments
all_stay [] = refl
all_stay (segment ∷ more) = ap (λ (rest : List (ℕ × ℕ)). segment ∷ rest) (all_stay more)

live-taken : (entries : List Entry) (table : List ℕ) (id : ℕ) → Keeps entries table → has_number (live entries) id ≡ true → without id (live entries) ++ [] ≡ numbered 1 (set table (id - 1) 0)
live-taken entries table id kept here =
    let within = number_within entries table id kept here in
    append-nil (without id (live entries)) ∙ ap (without id) kept.segments ∙ without-at 1 id (id - 1) table (omega arith) (omega arith)

live-follows : (entries : List Entry) (table : List ℕ) (entry : Entry) → Keeps entries table → fits_after entries entry ≡ true → live_after (live entries) entry ≡ numbered 1 (table_after table entry)
live-follows entries table (Grant id client pages limit) kept fits =
    let told = grant_fits entries id client pages limit fits in
    ap (λ (segments : List (ℕ × ℕ)). segments ++ (id, pages) ∷ []) (all_stay (live entries) ∙ kept.segments)
    ∙ ap (λ n. numbered 1 table ++ (n, pages) ∷ []) (omega (arith, told.next, kept.numbers))
    ∙ sym (numbered-push 1 pages table told.some)
live-follows entries table (Reduced limit now after least) kept fits =
    append-nil (filter (λ (segment : ℕ × ℕ). true) (live entries)) ∙ all_stay (live entries) ∙ kept.segments
live-follows entries table (Purge id known) kept fits = live-taken entries table id kept (and_parts (has_number (live entries) id) (is_moment known) fits).0
live-follows entries table (Back id) kept fits = live-taken entries table id kept fits

-- the numbers drawn after one more entry
numbers-follow : (entries : List Entry) (table : List ℕ) (entry : Entry) → length table ≡ grants entries → length (table_after table entry) ≡ grants entries + cond (is_grant entry) 1 0
numbers-follow entries table (Grant id client pages limit) same = length-append table (pages ∷ []) ∙ ap (λ n. n + 1) same
numbers-follow entries table (Reduced limit now after least) same = omega arith
numbers-follow entries table (Purge id known) same = length-set table (id - 1) 0 ∙ omega arith
numbers-follow entries table (Back id) same = length-set table (id - 1) 0 ∙ omega arith

-- a table that follows each entry that fits keeps what it tells
pub Keeps-push : (entries : List Entry) (table : List ℕ) (entry : Entry) → Keeps entries table → fits_after entries entry ≡ true → Keeps (entries ++ entry ∷ []) (table_after table entry)
Keeps-push entries table entry kept fits = record {
  legal = IsLegal-push entries entry kept.legal fits;
  segments = live-push entries entry ∙ live-follows entries table entry kept fits;
  numbers = numbers-follow entries table entry kept.numbers ∙ sym (grants-push entries entry);
}

-- what goes off where a number is taken out
fell : (entries : List Entry) (table : List ℕ) (id after : ℕ) → Keeps entries table → has_number (live entries) id ≡ true → after ≡ sum (set table (id - 1) 0) → FellBySegment entries id after
fell entries table id after kept here is =
    let within = number_within entries table id kept here in
    let at : has_number (numbered 1 table) id ≡ nat_lt 0 (get_or table (id - 1) 0) = has_number-at 1 id (id - 1) table (omega arith) in
    let some : 0 < get_or table (id - 1) 0 = ltb-true 0 (get_or table (id - 1) 0) (sym at ∙ sym (has_number_is entries table id kept) ∙ here) in
    let place : 1 + (id - 1) ≡ id = omega arith in
    let there : Contains (numbered 1 table) (1 + (id - 1), get_or table (id - 1) 0) = segment_at 1 (id - 1) table (omega arith) (omega arith) in (
      get_or table (id - 1) 0,
      subst (λ (segments : List (ℕ × ℕ)). Contains segments (id, get_or table (id - 1) 0)) (sym kept.segments) (subst (λ (n : ℕ). Contains (numbered 1 table) (n, get_or table (id - 1) 0)) place there),
      omega (arith, is, granted_is entries table kept, sum_by-set (λ x. x) table (id - 1) 0 0 (omega arith)),
    )

-- granted pages, as the table has them after an entry that fits
follows : (entries : List Entry) (table : List ℕ) (entry : Entry) (after : ℕ) → Keeps entries table → fits_after entries entry ≡ true → after ≡ sum (table_after table entry) → GrantedFollows entries entry after
follows entries table (Grant id client pages limit) after kept fits is =
    is ∙ sum_by_push (λ x. x) table pages ∙ ap (λ n. n + pages) (sym (granted_is entries table kept))
follows entries table (Reduced limit now told least) after kept fits is = is ∙ sym (granted_is entries table kept)
follows entries table (Purge id known) after kept fits is = fell entries table id after kept (and_parts (has_number (live entries) id) (is_moment known) fits).0 is
follows entries table (Back id) after kept fits is = fell entries table id after kept fits is

-- granted pages after an entry that fits
pub granted-follows : (entries : List Entry) (table : List ℕ) (entry : Entry) → Keeps entries table → fits_after entries entry ≡ true → GrantedFollows entries entry (granted (entries ++ entry ∷ []))
granted-follows entries table entry kept fits =
    follows entries table entry (granted (entries ++ entry ∷ [])) kept fits
    (granted_is (entries ++ entry ∷ []) (table_after table entry) (Keeps-push entries table entry kept fits))
