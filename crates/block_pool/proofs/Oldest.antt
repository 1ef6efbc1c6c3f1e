-- The first block of some pages among others, by their pages alone.
use Rattle.std.proofs.Common.{◌≡◌, ℕ, ◌+◌, ◌*◌, ◌<◌, ◌==◌, Bool, true, false, not, cond, ◌||◌, List, [], ◌∷◌, length, get_or, map, replicate, nat_lt, Some, None, refl, sym, ap, subst, suc, ◌∙◌, arith}
use Rattle.std.specs.Prelude.{is_some}
use Rattle.std.specs.List.{All, remove, position, position_or_len}
use Rattle.std.proofs.lemmas.Bool.Decides.{nat_tests}
use Rattle.std.proofs.lemmas.Bool.{eqb-true}
use Rattle.std.proofs.lemmas.List.Quantifiers.{position-Some}
use Rattle.units.specs.declared.TheConstants.{PAGE}
use Rattle.block_pool.specs.Block.{page_count, IsWiped}
use Rattle.block_pool.specs.Stock.{is_kept, without_oldest}

-- whether a block has these pages
abbrev pub has_pages : ℕ → List ℕ → Bool
has_pages pages bytes = page_count bytes == pages

-- the pages of the blocks that stay where the first one of these pages is removed
map-remove_first : (pages : ℕ) (blocks : List (List ℕ)) → map page_count (remove blocks (position_or_len (has_pages pages) blocks)) ≡ without_oldest pages (map page_count blocks)
map-remove_first pages [] = refl
map-remove_first pages (b ∷ blocks) =
    let place = position_or_len (has_pages pages) blocks in
    let one : suc place ≡ 1 + place = omega arith in
    elim (has_pages pages b) as (λ t. map page_count (remove (b ∷ blocks) (cond (not t) (1 + place) 0)) ≡ cond t (map page_count blocks) (page_count b ∷ without_oldest pages (map page_count blocks))) [
      | true ↦ refl
      | false ↦ subst (λ (n : ℕ). map page_count (remove (b ∷ blocks) n) ≡ page_count b ∷ without_oldest pages (map page_count blocks)) one (ap (λ kept. page_count b ∷ kept) (map-remove_first pages blocks))
    ]

-- a block of these pages is kept where there is a first one
is_kept-map : (pages : ℕ) (blocks : List (List ℕ)) → nat_lt (position_or_len (has_pages pages) blocks) (length blocks) ≡ is_kept pages (map page_count blocks)
is_kept-map pages [] = refl
is_kept-map pages (b ∷ blocks) =
    let place = position_or_len (has_pages pages) blocks in
    let rest = is_kept-map pages blocks in
    elim (has_pages pages b) as (λ t. nat_lt (cond (not t) (1 + place) 0) (length (b ∷ blocks)) ≡ (t || is_kept pages (map page_count blocks))) [
      | true ↦ grind (arith, nat_tests)
      | false ↦ grind (arith, nat_tests, rest)
    ]

none_false : (t : Bool) (n : ℕ) → cond t (Some n) None ≡ None → t ≡ false
none_false true n e = cc
none_false false n e = refl

some_true : (t : Bool) (n i : ℕ) → cond t (Some n) None ≡ Some i → (t ≡ true) × (n ≡ i)
some_true true n i e = (refl, cc)
some_true false n i e = cc

-- no block of these pages has a place: none is kept
pub none_kept : (pages : ℕ) (blocks : List (List ℕ)) → position (has_pages pages) blocks ≡ None → is_kept pages (map page_count blocks) ≡ false
none_kept pages blocks e = sym (is_kept-map pages blocks) ∙ none_false _ _ e

is_some-cond : (t : Bool) (n : ℕ) → is_some (cond t (Some n) None) ≡ t
is_some-cond true n = refl
is_some-cond false n = refl

-- a block of these pages has a place exactly where one is kept
pub is_some-position : (pages : ℕ) (blocks : List (List ℕ)) → is_some (position (has_pages pages) blocks) ≡ is_kept pages (map page_count blocks)
is_some-position pages blocks = is_some-cond _ _ ∙ is_kept-map pages blocks

-- the first block of these pages has this place
pub record IsOldest (pages : ℕ) (blocks : List (List ℕ)) (place : ℕ) : Type 0 where
  pub inside : place < length blocks
  pub found : is_kept pages (map page_count blocks) ≡ true
  pub others : map page_count (remove blocks place) ≡ without_oldest pages (map page_count blocks)
  pub zeros : All IsWiped blocks → get_or blocks place [] ≡ replicate (PAGE * pages) 0

pub IsOldest-position : (pages : ℕ) (blocks : List (List ℕ)) (place : ℕ) → position (has_pages pages) blocks ≡ Some place → IsOldest pages blocks place
IsOldest-position pages blocks place e =
    let at = some_true _ _ place e in
    let facts = position-Some (has_pages pages) blocks place [] e in
    record {
      inside = facts.0;
      found = sym (is_kept-map pages blocks) ∙ at.0;
      others = subst (λ (n : ℕ). map page_count (remove blocks n) ≡ without_oldest pages (map page_count blocks)) at.1 (map-remove_first pages blocks);
      zeros = λ wiped. wiped place [] facts.0 ∙ ap (λ n. replicate (PAGE * n) 0) (eqb-true _ _ facts.1);
    }
