-- Where a segment is found by its number.
use Rattle.std.proofs.Common.{◌≡◌, ℕ, ◌-◌, ◌<◌, ◌≤◌, true, List, length, get_or, Option, Some, None, Result, Ok, Err, inl, inr, sym, ap, ◌∙◌, arith}
use Rattle.std.specs.List.{slice_get}
use Rattle.std.specs.List.Sorted.{IsNonDecreasingBy, IsBinarySearchResult, IsSearchInRange}
use Rattle.std.specs.Ordering.{nat_cmp, ordering_index}
use Rattle.std.specs.Result.{result_ok}
use Rattle.std.proofs.lemmas.Cmp.{ranked}
use Rattle.std.proofs.lemmas.Bool.Decides.{nat_tests}
use Rattle.std.proofs.lemmas.Bool.{cases_Bool, cases_lt, eqb-true, eq-eqb}
use Rattle.std.proofs.lemmas.List.Folds.{list_any-from_Any, Any-from_list_any}
use Rattle.std.proofs.lemmas.Option.{slice_get_within, slice_get_cases, get_or_from_slice_get}
use Rattle.units.specs.RowSearch.{FindsRow}
use Rattle.client.specs.Lease.{Lease}
use Rattle.client.specs.Seen.{is_lease, has_lease}
use Rattle.client.specs.Places.{IsPlaceOf, Rises, AreBelow}

pub place_found : (leases : List Lease) (id : ℕ) (found : Option ℕ) → FindsRow (is_lease id) leases found → IsPlaceOf leases id found
place_found leases id None absent = absent
place_found leases id (Some place) (lease, stands, is) = (lease, stands, eqb-true lease.side.id id is)

-- a segment that stands somewhere is found
pub has_at : (leases : List Lease) (p id : ℕ) (lease : Lease) → slice_get leases p ≡ Some lease → lease.side.id ≡ id → has_lease leases id ≡ true
has_at leases p id lease at number =
    list_any-from_Any (is_lease id) leases (p, lease, slice_get_within leases p lease at, get_or_from_slice_get leases p lease lease at, eq-eqb lease.side.id id number)

-- where the numbers rise, what a search by halves finds
ids_rise : (leases : List Lease) (id : ℕ) → Rises leases → IsNonDecreasingBy (λ (lease : Lease). ordering_index (nat_cmp lease.side.id id)) leases
ids_rise leases id rises i j d le within =
    elim (cases_lt i j) [
      | inl less ↦ higher (get_or leases i d).side.id (get_or leases j d).side.id id (let below = rises i j d less within in omega (arith, below))
      | inr past ↦
          let same : i ≡ j = omega (arith, le, past) in
          higher (get_or leases i d).side.id (get_or leases j d).side.id id (let here : (get_or leases i d).side.id ≡ (get_or leases j d).side.id = ap (λ n. (get_or leases n d).side.id) same in omega (arith, here))
    ]
  where
    higher : (a b x : ℕ) → a ≤ b → ordering_index (nat_cmp a x) ≤ ordering_index (nat_cmp b x)
    higher a b x le = grind (arith, nat_tests)

pub halves_found : (leases : List Lease) (id : ℕ) (found : Result ℕ ℕ) (told : Option ℕ) → Rises leases → IsSearchInRange found (length leases) → IsBinarySearchResult (λ (lease : Lease). nat_cmp lease.side.id id) leases found → told ≡ result_ok found
    → IsPlaceOf leases id told
halves_found leases id (Ok place) told rises within result is =
    rw is (elim (slice_get_cases leases place).1 [
      | inl (lease, inside, at, same) ↦
          (lease, at, ap (λ (l : Lease). l.side.id) (sym (get_or_from_slice_get leases place lease lease at)) ∙ ranked (get_or leases place lease).side.id id _ (sym (result lease)))
      | inr (past, none) ↦ absurd (omega (arith, past, within))
    ])
halves_found leases id (Err place) told rises within result is =
    let parted = result (ids_rise leases id rises) in
    rw is (elim (cases_Bool (has_lease leases id)) [
      | inl there ↦
          let (k, lease, inside, same, passes) = Any-from_list_any (is_lease id) leases there in
          let number : (get_or leases k lease).side.id ≡ id = ap (λ (l : Lease). l.side.id) same ∙ eqb-true lease.side.id id passes in
          absurd (elim (cases_lt k place) [
            | inl before ↦ let below = ranked (get_or leases k lease).side.id id _ (sym (parted.0 k lease (omega arith) before)) in omega (arith, below, number)
            | inr behind ↦ let above = ranked (get_or leases k lease).side.id id _ (sym (parted.1 k lease behind inside)) in omega (arith, above, number)
          ])
      | inr absent ↦ absent
    ])

-- where the numbers rise and the last is below another, all are
pub below_last : (leases : List Lease) (last : Lease) (id : ℕ) → Rises leases → slice_get leases (length leases - 1) ≡ Some last → last.side.id < id → AreBelow id leases
below_last leases last id rises at less k other within =
    elim (cases_lt k (length leases - 1)) [
      | inl before ↦ let below = rises k (length leases - 1) other before (slice_get_within leases (length leases - 1) last at) in omega (arith, below, number, less)
      | inr past ↦
          let same : k ≡ length leases - 1 = omega (arith, within, past) in
          let here : (get_or leases k other).side.id ≡ (get_or leases (length leases - 1) other).side.id = ap (λ n. (get_or leases n other).side.id) same in
          omega (arith, here, number, less)
    ]
  where
    number : (get_or leases (length leases - 1) other).side.id ≡ last.side.id
    number = ap (λ (l : Lease). l.side.id) (get_or_from_slice_get leases (length leases - 1) last other at)
