-- Which numbers a client knows.
use Rattle.std.proofs.Common.{◌≡◌, ℕ, ◌==◌, Bool, true, false, ◌||◌, List, [], ◌∷◌, map, refl, sym, ap, ◌∙◌}
use Rattle.std.specs.List.{list_any}
use Rattle.std.proofs.lemmas.List.Folds.{list_any-append}
use Rattle.segment.specs.Owned.{Owned}
use Rattle.client.specs.Lease.{Lease}
use Rattle.client.specs.Seen.{has_lease, numbers_of, known}
use Rattle.client.specs.Gone.{has_side}
use Rattle.client.specs.Places.{IsThere}
use Rattle.client.proofs.PlacesFound.{has_at}

of_leases : (leases : List Lease) (id : ℕ) → list_any (λ n. n == id) (numbers_of leases) ≡ has_lease leases id
of_leases [] id = refl
of_leases (lease ∷ leases) id = ap (λ (b : Bool). (lease.side.id == id) || b) (of_leases leases id)

of_sides : (sides : List Owned) (id : ℕ) → list_any (λ n. n == id) (map (λ (side : Owned). side.id) sides) ≡ has_side sides id
of_sides [] id = refl
of_sides (side ∷ sides) id = ap (λ (b : Bool). (side.id == id) || b) (of_sides sides id)

-- a number is known by a segment or by a gone side
known_is : (leases : List Lease) (gone : List Owned) (id : ℕ) → list_any (λ n. n == id) (known leases gone) ≡ (has_lease leases id || has_side gone id)
known_is leases gone id =
    list_any-append (λ n. n == id) (numbers_of leases) (map (λ (side : Owned). side.id) gone)
    ∙ ap (λ (b : Bool). b || list_any (λ n. n == id) (map (λ (side : Owned). side.id) gone)) (of_leases leases id)
    ∙ ap (λ (b : Bool). has_lease leases id || b) (of_sides gone id)

pub known_there : (leases : List Lease) (gone : List Owned) (id place : ℕ) → IsThere place id leases → true ≡ list_any (λ n. n == id) (known leases gone)
known_there leases gone id place there =
    sym (known_is leases gone id ∙ ap (λ (b : Bool). b || has_side gone id) (has_at leases place id there.0 there.1 there.2))

pub known_absent : (leases : List Lease) (gone : List Owned) (id : ℕ) → has_lease leases id ≡ false → list_any (λ n. n == id) (known leases gone) ≡ has_side gone id
known_absent leases gone id absent = known_is leases gone id ∙ ap (λ (b : Bool). b || has_side gone id) absent
