-- What a client's places hold when one more of them was served, and of which requests they are.
use Rattle.std.proofs.Common.{◌≡◌, ℕ, suc, zero, refl, ◌+◌, ◌<◌, ◌≤◌, List, [], ◌∷◌, ◌++◌, take, length, get_or, set, sym, ap, ap₂, ◌∙◌, subst, arith, inl, inr}
use Rattle.std.proofs.lemmas.Bool.{cases_eq}
use Rattle.std.proofs.lemmas.List.{map-append, length-map, take_more, get_or-set_same, get_or-set_other, length-set, get_or-map}
use Rattle.std.proofs.lemmas.List.Elements.{All-get_or}
use Rattle.reply_places.specs.Framed.{Placed}
use Rattle.request_text.specs.declared.request.Request.{Request}
use Rattle.request_text.specs.Requests.{AreRequests, IsRequest}
use Rattle.tile_source.specs.Tile.{IsTile}
use Rattle.serve_session.specs.Running.{ServingValue}
use Rattle.serve_session.specs.Tiling.{asked_by, tile_at, no_request}
use Rattle.serve_session.specs.Places.{numbers_of, tiles_at, AreOfClient}

-- a place whose number stays does not change the numbers
pub numbers_set : (places : List Placed) (i : ℕ) (p d : Placed) → p.number ≡ (get_or places i d).number → numbers_of (set places i p) ≡ numbers_of places
numbers_set [] i p d h = refl
numbers_set (x ∷ xs) zero p d h = ap (λ (n : ℕ). n ∷ numbers_of xs) h
numbers_set (x ∷ xs) (suc i) p d h = ap (λ (ns : List ℕ). x.number ∷ ns) (numbers_set xs i p d h)

-- the number of the place at i
pub number_at : (places : List Placed) (numbers : List ℕ) (i : ℕ) (d : Placed) → numbers_of places ≡ numbers → i < length places → (get_or places i d).number ≡ get_or numbers i d.number
number_at places numbers i d is within = sym (get_or-map (λ (p : Placed). p.number) places i d d.number within) ∙ ap (λ (ns : List ℕ). get_or ns i d.number) is

module _ (places : List Placed) (count : ℕ) (p : Placed) (within : count < length places) where
  -- what holds of the places before holds of one more
  pub front_more : (P : Placed → Type 0) → ((i : ℕ) (d : Placed) → i < count → P (get_or places i d)) → P p
      → (i : ℕ) (d : Placed) → i < count + 1 → P (get_or (set places count p) i d)
  front_more P front this i d low =
      elim (cases_eq i count) [
        | inl here ↦ subst (λ (k : ℕ). P (get_or (set places count p) k d)) (sym here) (subst P (sym (get_or-set_same places count p d within)) this)
        | inr there ↦ subst P (sym (get_or-set_other places count i p d there)) (front i d (omega arith))
      ]

  -- what holds of the places behind still does
  pub rest_stays : (P : Placed → Type 0) → ((i : ℕ) (d : Placed) → count ≤ i → i < length places → P (get_or places i d))
      → (i : ℕ) (d : Placed) → count + 1 ≤ i → i < length (set places count p) → P (get_or (set places count p) i d)
  rest_stays P rest i d low high =
      let there : i ≡ count → ⊥ = λ here. omega (arith, here) in
      subst P (sym (get_or-set_other places count i p d there)) (rest i d (omega arith) (omega (arith, length-set places count p)))

-- the tiles of one more number
pub one_more_tile : (requests : List Request) (numbers : List ℕ) (count d : ℕ) → count < length numbers
    → tiles_at requests (take (count + 1) numbers) ≡ tiles_at requests (take count numbers) ++ tile_at requests (get_or numbers count d) ∷ []
one_more_tile requests numbers count d within =
    ap (tiles_at requests) (take_more numbers count d within) ∙ map-append (tile_at requests) (take count numbers) (get_or numbers count d ∷ [])

-- a client's places are as many as its requests
pub places_many : (run : ServingValue) (client : ℕ) (places : List Placed) → AreOfClient run client (numbers_of places) → length places ≡ length (asked_by client run.requests)
places_many run client places are =
    sym (length-map places (λ (p : Placed). p.number)) ∙ sym (length-map (numbers_of places) (tile_at run.requests)) ∙ ap length are.asked

-- what the request at a place asks for is a tile
pub tile_valid : (clients : ℕ) (requests : List Request) (n : ℕ) → AreRequests clients requests → n < length requests → IsTile (tile_at requests n)
tile_valid clients requests n are within = (All-get_or (IsRequest clients) requests n no_request within are.each).2

same_element : {A : Type 0} (xs : List A) (n : ℕ) (d e : A) → n < length xs → get_or xs n d ≡ get_or xs n e
same_element [] n d e within = absurd (omega arith)
same_element (x ∷ xs) zero d e within = refl
same_element (x ∷ xs) (suc n) d e within = same_element xs n d e (omega arith)

-- the tile of the request that is found at a place's number
pub tile_of : (found requests : List Request) (n number : ℕ) (d : Request) → found ≡ requests → n ≡ number → number < length requests → (get_or found n d).tile ≡ tile_at requests number
tile_of found requests n number d same is within =
    ap₂ (λ (rs : List Request) (k : ℕ). (get_or rs k d).tile) same is ∙ ap (λ (r : Request). r.tile) (same_element requests number d no_request within)
