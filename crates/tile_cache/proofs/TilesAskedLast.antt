-- The tiles asked last, after one more request.
use Rattle.std.proofs.Common.{◌≡◌, ℕ, zero, suc, ◌-◌, ◌≤◌, Bool, true, false, not, cond, eqb, List, [], ◌∷◌, ◌++◌, take, reverse, refl, sym, ap, subst, ◌∙◌, inl, inr, arith}
use Rattle.std.proofs.lemmas.Bool.{eq-eqb, eqb-true, and_parts, and_from, both_ways, cases_Bool, false_from_ne_true, or_parts}
use Rattle.std.proofs.lemmas.List.{reverse-append}
use Rattle.tile_source.specs.declared.tile.Tile.{Tile}
use Rattle.tile_cache.specs.Recent.{is_same, has_tile, without, each_once, recent}

pub same_itself : (tile : Tile) → is_same tile tile ≡ true
same_itself tile = and_from _ _ (eq-eqb tile.z tile.z refl) (and_from _ _ (eq-eqb tile.x tile.x refl) (eq-eqb tile.y tile.y refl))

pub same_is : (one other : Tile) → is_same one other ≡ true → other ≡ one
same_is one other same =
    let parts = and_parts (eqb one.z other.z) _ same in
    let places = and_parts (eqb one.x other.x) _ parts.1 in
    let a = eqb-true _ _ parts.0 in
    let b = eqb-true _ _ places.0 in
    let d = eqb-true _ _ places.1 in
    let at : ℕ → ℕ → ℕ → Tile = λ z x y. record { z = z; x = x; y = y } in
    ap (λ z. at z other.x other.y) (sym a) ∙ (ap (λ x. at one.z x other.y) (sym b) ∙ ap (λ y. at one.z one.x y) (sym d))

pub same_turned : (one other : Tile) → is_same one other ≡ is_same other one
same_turned one other =
    elim (cases_Bool (is_same one other)) [
      | inl is ↦ is ∙ rw (same_is one other is) (sym (same_itself one))
      | inr differ ↦ differ ∙ sym (false_from_ne_true _ (λ is. both_ways _ differ (rw (same_is other one is) (same_itself other))))
    ]

-- the tiles without one that is not there
pub without_absent : (tile : Tile) (tiles : List Tile) → has_tile tiles tile ≡ false → without tile tiles ≡ tiles
without_absent tile [] absent = refl
without_absent tile (x ∷ tiles) absent =
    let parts = or_parts (is_same tile x) (has_tile tiles tile) absent in
    rw parts.0 (ap (λ xs. x ∷ xs) (without_absent tile tiles parts.1))

-- nor is it there afterwards
pub absent_without : (tile : Tile) (tiles : List Tile) → has_tile (without tile tiles) tile ≡ false
absent_without tile [] = refl
absent_without tile (x ∷ tiles) = go (is_same tile x) refl (absent_without tile tiles)
  where
    go : (b : Bool) → is_same tile x ≡ b → has_tile (without tile tiles) tile ≡ false → has_tile (cond (not b) (x ∷ without tile tiles) (without tile tiles)) tile ≡ false
    go true is rest = rest
    go false is rest = rw is rest

-- a tile that is not there is not there without another
pub absent_less : (tile other : Tile) (tiles : List Tile) → has_tile tiles tile ≡ false → has_tile (without other tiles) tile ≡ false
absent_less tile other [] absent = refl
absent_less tile other (x ∷ tiles) absent =
    let parts = or_parts (is_same tile x) (has_tile tiles tile) absent in
    go (is_same other x) parts.0 (absent_less tile other tiles parts.1)
  where
    go : (b : Bool) → is_same tile x ≡ false → has_tile (without other tiles) tile ≡ false → has_tile (cond (not b) (x ∷ without other tiles) (without other tiles)) tile ≡ false
    go true is rest = rest
    go false is rest = rw is rest

-- the tile stands there once at most
abbrev pub StandsOnce : Tile → List Tile → Type 0
StandsOnce tile [] = Unit {0}
StandsOnce tile (x ∷ tiles) = (is_same tile x ≡ true → has_tile tiles tile ≡ false) × StandsOnce tile tiles

pub once_without : (tile other : Tile) (tiles : List Tile) → StandsOnce tile tiles → StandsOnce tile (without other tiles)
once_without tile other [] once = tt
once_without tile other (x ∷ tiles) once = go (is_same other x) (once_without tile other tiles once.1)
  where
    go : (b : Bool) → StandsOnce tile (without other tiles) → StandsOnce tile (cond (not b) (x ∷ without other tiles) (without other tiles))
    go true rest = rest
    go false rest = (λ is. absent_less tile other tiles (once.0 is), rest)

pub once_each : (tile : Tile) (tiles : List Tile) → StandsOnce tile (each_once tiles)
once_each tile [] = tt
once_each tile (x ∷ tiles) =
    (λ is. subst (λ y. has_tile (without y (each_once tiles)) tile ≡ false) (sym (same_is tile x is)) (absent_without tile (each_once tiles)), once_without tile x (each_once tiles) (once_each tile tiles))

absent_take : (tile : Tile) (n : ℕ) (xs : List Tile) → has_tile xs tile ≡ false → has_tile (take n xs) tile ≡ false
absent_take tile zero xs absent = refl
absent_take tile (suc n) [] absent = refl
absent_take tile (suc n) (y ∷ xs) absent =
    let parts = or_parts (is_same tile y) (has_tile xs tile) absent in
    rw parts.0 (absent_take tile n xs parts.1)

take_twice : (n : ℕ) (xs : List Tile) → take n xs ≡ take n (take n xs)
take_twice zero xs = refl
take_twice (suc n) [] = refl
take_twice (suc n) (y ∷ xs) = ap (λ ys. y ∷ ys) (take_twice n xs)

-- the first of the tiles without one that stands there once are in the first of all
pub take_without : (tile : Tile) (n : ℕ) (tiles : List Tile) → StandsOnce tile tiles → take n (without tile tiles) ≡ take n (without tile (take (suc n) tiles))
take_without tile n [] once = refl
take_without tile n (x ∷ tiles) once = go (is_same tile x) refl n (λ k. take_without tile k tiles once.1)
  where
    go : (b : Bool) → is_same tile x ≡ b → (n : ℕ) → ((k : ℕ) → take k (without tile tiles) ≡ take k (without tile (take (suc k) tiles)))
        → take n (cond (not b) (x ∷ without tile tiles) (without tile tiles)) ≡ take n (cond (not b) (x ∷ without tile (take n tiles)) (without tile (take n tiles)))
    go true is n later =
        ap (take n) (without_absent tile tiles (once.0 is)) ∙ (take_twice n tiles ∙ sym (ap (take n) (without_absent tile (take n tiles) (absent_take tile n tiles (once.0 is)))))
    go false is zero later = refl
    go false is (suc k) later = ap (λ xs. x ∷ xs) (later k)

-- after one more request its tile is the latest, and the others are those that stood before, without it and with the last left out
pub recent_more : (asked : List Tile) (tile : Tile) (n : ℕ) → 1 ≤ n → recent (asked ++ tile ∷ []) n ≡ tile ∷ take (n - 1) (without tile (recent asked n))
recent_more asked tile zero some = absurd (omega (arith, some))
recent_more asked tile (suc n) some =
    let less : suc n - 1 ≡ n = omega arith in
    rw less (ap (λ xs. take (suc n) (each_once xs)) (reverse-append asked (tile ∷ [])) ∙ ap (λ xs. tile ∷ xs) (take_without tile n (each_once (reverse asked)) (once_each tile (reverse asked))))
