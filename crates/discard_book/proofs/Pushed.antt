-- What one more entry makes of a book.
use Rattle.std.proofs.Common.{◌≡◌, ℕ, ◌+◌, Bool, true, false, not, ◌||◌, cond, List, [], ◌∷◌, ◌++◌, filter, refl, ap, ◌∙◌, subst, inl, inr, ◌⊎◌}
use Rattle.std.specs.List.{list_any}
use Rattle.std.proofs.lemmas.List.Sums.{sum_by_push}
use Rattle.discard_book.specs.declared.entry.Entry.{Entry}
use Rattle.discard_book.specs.declared.entry.Entry.TheVariants.{Grant, Reduced, Purge, Back}
use Rattle.discard_book.specs.Live.{takes_out, is_grant, granted_by, live, grants, live_after}
use Rattle.discard_book.specs.Legal.{fits_after, IsLegal}

-- a test of some entry, with one more
list_any-push : (test : Entry → Bool) (entries : List Entry) (entry : Entry) → list_any test (entries ++ entry ∷ []) ≡ (list_any test entries || test entry)
list_any-push test [] entry = elim (test entry) as (λ b. (b || false) ≡ b) [ true ↦ refl | false ↦ refl ]
list_any-push test (first ∷ more) entry =
    elim (test first) as (λ b. (b || list_any test (more ++ entry ∷ [])) ≡ ((b || list_any test more) || test entry)) [ true ↦ refl | false ↦ list_any-push test more entry ]

-- what one more entry makes of a segment that stands first, taken out behind it or not
live_after-first : (entry : Entry) (was_out : Bool) (id pages : ℕ) (segments : List (ℕ × ℕ))
    → cond (was_out || takes_out entry id) (live_after segments entry) ((id, pages) ∷ live_after segments entry) ≡ live_after (cond was_out segments ((id, pages) ∷ segments)) entry
live_after-first entry true id pages segments = refl
live_after-first entry false id pages segments =
    let kept : List (ℕ × ℕ) = filter (λ (segment : ℕ × ℕ). not (takes_out entry segment.0)) segments in
    elim (takes_out entry id) as (λ out. cond out (kept ++ granted_by entry) ((id, pages) ∷ (kept ++ granted_by entry)) ≡ (cond (not out) ((id, pages) ∷ kept) kept ++ granted_by entry)) [ true ↦ refl | false ↦ refl ]

-- the live segments with one more entry
pub live-push : (entries : List Entry) (entry : Entry) → live (entries ++ entry ∷ []) ≡ live_after (live entries) entry
live-push [] (Grant id client pages limit) = refl
live-push [] (Reduced limit now after least) = refl
live-push [] (Purge id known) = refl
live-push [] (Back id) = refl
live-push (Grant id client pages limit ∷ more) entry =
    let out : list_any (λ e. takes_out e id) (more ++ entry ∷ []) ≡ (list_any (λ e. takes_out e id) more || takes_out entry id) = list_any-push (λ e. takes_out e id) more entry in
    ap (λ (b : Bool). cond b (live (more ++ entry ∷ [])) ((id, pages) ∷ live (more ++ entry ∷ []))) out
    ∙ ap (λ (segments : List (ℕ × ℕ)). cond (list_any (λ e. takes_out e id) more || takes_out entry id) segments ((id, pages) ∷ segments)) (live-push more entry)
    ∙ live_after-first entry (list_any (λ e. takes_out e id) more) id pages (live more)
live-push (Reduced limit now after least ∷ more) entry = live-push more entry
live-push (Purge id known ∷ more) entry = live-push more entry
live-push (Back id ∷ more) entry = live-push more entry

-- the number of Grants with one more entry
pub grants-push : (entries : List Entry) (entry : Entry) → grants (entries ++ entry ∷ []) ≡ grants entries + cond (is_grant entry) 1 0
grants-push entries entry = sum_by_push (λ e. cond (is_grant e) 1 0) entries entry

-- a list of one entry has no two
not_last : (first last entry : Entry) (before behind : List Entry) → (last ∷ []) ≡ (first ∷ before ++ entry ∷ behind) → ⊥
not_last first last entry [] behind same = cc
not_last first last entry (next ∷ before) behind same = cc

-- an entry of a list with one more is the last, or it stands before the last
cut : (entries before behind : List Entry) (last entry : Entry) → (entries ++ last ∷ []) ≡ (before ++ entry ∷ behind)
    → ((entries ≡ before) × (last ≡ entry)) ⊎ ((rest : List Entry) × (entries ≡ before ++ entry ∷ rest))
cut [] [] behind last entry same = inl (refl, cc)
cut [] (first ∷ before) behind last entry same = absurd (not_last first last entry before behind same)
cut (first ∷ entries) [] behind last entry same = inr (entries, cc)
cut (first ∷ entries) (other ∷ before) behind last entry same =
    let head : first ≡ other = cc in
    elim (cut entries before behind last entry cc) [
      | inl here ↦ inl (cc (head, here.0), here.1)
      | inr earlier ↦ inr (earlier.0, cc (head, earlier.1))
    ]

-- a legal book with one more entry that fits is legal
pub IsLegal-push : (entries : List Entry) (entry : Entry) → IsLegal entries → fits_after entries entry ≡ true → IsLegal (entries ++ entry ∷ [])
IsLegal-push entries entry legal fits before other behind same = elim (cut entries before behind entry other same) [
  | inl here ↦ subst (λ (b : List Entry). fits_after b other ≡ true) here.0 (subst (λ (e : Entry). fits_after entries e ≡ true) here.1 fits)
  | inr earlier ↦ legal before other earlier.0 earlier.1
]
