-- A grant in turn makes no block.
use Rattle.std.proofs.Common.{◌≡◌, ⊎_elim, ℕ, ◌==◌, Bool, true, false, ◌||◌, List, [], ◌∷◌, ◌++◌, length, refl, sym, ap, subst, ◌∙◌, nat_lt, if◌then◌else◌}
use Rattle.std.specs.Prelude.{MatchBool}
use Rattle.machine.specs.Reduction.{Candidate, tries, purged_by}
use Rattle.block_pool.specs.Block.{page_count}
use Rattle.block_pool.specs.Stock.{Stock, is_kept, without_block, with_one_made, after_take, after_put}
use Rattle.segment.specs.Owned.{Owned}
use Rattle.discard_book.specs.Live.{granted}
use Rattle.discard_book.specs.Legal.{room}
use Rattle.lru_reduce.specs.Wards.{candidates_of}
use Rattle.lru_reduce.specs.Reducing.{after_puts}
use Rattle.lru_reduce.specs.declared.reduction.Reduced.{Reduced}
use Rattle.manager_state.specs.Managed.{Managed}
use Rattle.manager_state.specs.Calls.{Reduces, MakesRoom, Grants, GrantsWith, RunsOut, RunsOutWith}

-- a pool made no block more, and keeps one of these pages where it did
record Stays (pages : ℕ) (old new : Stock) : Type 0 where
  pub made : new.made ≡ old.made
  pub kept : is_kept pages old.kept ≡ true → is_kept pages new.kept ≡ true

is_kept-append : (pages : ℕ) (kept : List ℕ) (p : ℕ) → is_kept pages kept ≡ true → is_kept pages (kept ++ p ∷ []) ≡ true
is_kept-append pages [] p e = cc
is_kept-append pages (k ∷ kept) p e =
    elim (k == pages) as (λ b. (b || is_kept pages kept) ≡ true → (b || is_kept pages (kept ++ p ∷ [])) ≡ true)
    [ true ↦ λ _. refl | false ↦ λ rest. is_kept-append pages kept p rest ]
    e

put_stays : (pages p : ℕ) (stock : Stock) → Stays pages stock (after_put p stock)
put_stays pages p stock = record {
  made = refl;
  kept = elim (nat_lt (length stock.kept) stock.keep) as (λ b. is_kept pages stock.kept ≡ true → is_kept pages (if b then stock.kept ++ p ∷ [] else stock.kept) ≡ true)
      [ true ↦ is_kept-append pages stock.kept p | false ↦ λ e. e ];
}

then_stays : (pages : ℕ) (a b c : Stock) → Stays pages a b → Stays pages b c → Stays pages a c
then_stays pages a b c first second = record { made = second.made ∙ first.made; kept = λ e. second.kept (first.kept e) }

puts_stay : (pages : ℕ) (cs : List Candidate) (stock : Stock) → Stays pages stock (after_puts cs stock)
puts_stay pages [] stock = record { made = refl; kept = λ e. e }
puts_stay pages (c ∷ cs) stock = then_stays pages stock (after_put c.pages stock) (after_puts cs (after_put c.pages stock)) (put_stays pages c.pages stock) (puts_stay pages cs (after_put c.pages stock))

same_stays : (pages : ℕ) (old new : Managed) → new ≡ old → Stays pages old.stock new.stock
same_stays pages old new e = subst (λ (m : Managed). Stays pages old.stock m.stock) (sym e) (record { made = refl; kept = λ k. k })

makes_stay : (pages : ℕ) (b : Bool) (to now : ℕ) (old new : Managed) → MatchBool b ((told : Reduced) × Reduces to now told old new) (new ≡ old) → Stays pages old.stock new.stock
makes_stay pages true to now old new h =
    subst (λ (s : Stock). Stays pages old.stock s) (sym h.1.reduces.blocks) (puts_stay pages (purged_by (tries now (candidates_of old.sides) h.1.reduces.words)) old.stock)
makes_stay pages false to now old new h = same_stays pages old new h

room_stays : (pages of now : ℕ) (old new : Managed) → MakesRoom of now old new → Stays pages old.stock new.stock
room_stays pages of now old new h = makes_stay pages (nat_lt (room old.limit of) (granted old.entries)) (room old.limit of) now old new h

take_made : (pages : ℕ) (stock : Stock) → is_kept pages stock.kept ≡ true → (after_take pages stock).made ≡ stock.made
take_made pages stock e = ap (λ b. (if b then without_block pages stock else with_one_made stock).made) e

pub grants_made : (client pages now : ℕ) (side : Owned) (old new : Managed) → is_kept pages old.stock.kept ≡ true → Grants client pages now side old new → new.stock.made ≡ old.stock.made
grants_made client pages now side old new kept g =
    let stays = room_stays pages pages now old g.between g.room in
    ap (λ (s : Stock). s.made) g.enters.stock ∙ take_made pages g.between.stock (stays.kept kept) ∙ stays.made

pub grants_with_made : (client : ℕ) (block : List ℕ) (now : ℕ) (side : Owned) (old new : Managed) → GrantsWith client block now side old new → new.stock.made ≡ old.stock.made
grants_with_made client block now side old new g = ap (λ (s : Stock). s.made) g.enters.stock ∙ (room_stays 0 (page_count block) now old g.between g.room).made

pub runs_out_made : (pages now : ℕ) (old new : Managed) → RunsOut pages now old new → new.stock.made ≡ old.stock.made
runs_out_made pages now old new r = ⊎_elim (λ (e : new ≡ old). ap (λ (m : Managed). m.stock.made) e) (λ h. (room_stays 0 pages now old new h).made) r

pub runs_out_with_made : (block : List ℕ) (now : ℕ) (old new : Managed) → RunsOutWith block now old new → new.stock.made ≡ old.stock.made
runs_out_with_made block now old new r = runs_out_made (page_count block) now old new r
