-- Segments are given up one by one: which of them are gone so far.
use Rattle.std.proofs.Common.{◌≡◌, ◌⊎◌, ℕ, ◌+◌, ◌≤◌, Bool, true, false, not, List, [], ◌∷◌, ◌++◌, length, take, drop, Some, refl, sym, ap, subst, ◌∙◌, inl, inr, arith, append_assoc, append-nil, length-append, take-append-drop}
use Rattle.std.specs.List.{slice_get, filter, All, Any, Contains, remove}
use Rattle.std.proofs.lemmas.List.{length-take-le}
use Rattle.std.proofs.lemmas.List.Elements.{All-nil, All-push, All-weaker, All-filter, All-contains, All-contains_itself, Contains-append_left, Contains-push, filter_passes}
use Rattle.std.proofs.lemmas.Option.{same_Some, slice_get-get_or}
use Rattle.segment.specs.Owned.{Owned}
use Rattle.client.specs.Gone.{kept_side, kept_sides, AreOnce}
use Rattle.client.specs.GivingUp.{GaveBlock, GoesGone, CameBack, AreFrom, FindsGone, KeepsUntold}
use Rattle.client.specs.Lease.{Lease}
use Rattle.client.specs.Seen.{Seen}
use Rattle.client.specs.Places.{has_used, is_all_free}
use Rattle.client.specs.Sound.{IsSoundSeen}
use Rattle.client.specs.Calls.{TakesOut}
use Rattle.client.specs.Granting.{GivesSide}
use Rattle.client.proofs.KeptThrough.{is_id, known_sum}
use Rattle.client.proofs.Rows.{cases_same, removed_keeps, filter_keeps, Contains-at, All-remove, sum_by-map}

-- Of the segments at the start some were given up, each one of these; those that were found gone are kept, as told.
pub record Giving (left : List Lease) (start now : Seen) : Type 0 where
  pub found : List Owned
  pub within : start.told ≤ length start.gone
  pub sides : now.gone ≡ kept_sides found start.told start.gone
  pub told : now.told ≡ start.told + length found
  pub taken : now.taken ≡ start.taken
  pub rest : All (Contains start.leases) now.leases
  pub given : All (λ (lease : Lease). Contains now.leases lease ⊎ CameBack found lease.side) start.leases
  pub from : AreFrom left found

pub giving_start : (left : List Lease) (seen : Seen) → seen.told ≤ length seen.gone → Giving left seen seen
giving_start left seen within =
    record {
      found = [];
      within = within;
      sides = sym (ap (λ sides. sides ++ drop seen.told seen.gone) (append-nil (take seen.told seen.gone)) ∙ take-append-drop seen.told seen.gone);
      told = omega arith;
      taken = refl;
      rest = All-contains_itself seen.leases;
      given = All-weaker (Contains seen.leases) (λ (lease : Lease). Contains seen.leases lease ⊎ CameBack [] lease.side) (λ lease there. inl there) seen.leases (All-contains_itself seen.leases);
      from = All-nil (λ (side : Owned). Any (λ (lease : Lease). GoesGone lease.side side) left);
    }

take_front : {X : Type 0} (a b : List X) → take (length a) (a ++ b) ≡ a
take_front [] b = refl
take_front (x ∷ a) b = ap (λ more. x ∷ more) (take_front a b)

pub drop_front : {X : Type 0} (a b : List X) → drop (length a) (a ++ b) ≡ b
drop_front [] b = refl
drop_front (x ∷ a) b = drop_front a b

kept_behind : (side : Owned) (n : ℕ) (a b : List Owned) → n ≡ length a → kept_side side n (a ++ b) ≡ a ++ side ∷ b
kept_behind side n a b is = rw (is, take_front a b, drop_front a b) refl

kept_one_more : (side : Owned) (found gone : List Owned) (told : ℕ) → told ≤ length gone → kept_side side (told + length found) (kept_sides found told gone) ≡ kept_sides (found ++ side ∷ []) told gone
kept_one_more side found gone told within =
    let front = take told gone in
    let back = drop told gone in
    let size : told + length found ≡ length (front ++ found) = omega (arith, length-append front found, length-take-le told gone within) in
    kept_behind side (told + length found) (front ++ found) back size
    ∙ (sym (append_assoc (front ++ found) (side ∷ []) back) ∙ ap (λ sides. sides ++ back) (append_assoc front found (side ∷ [])))

-- an element stands at a place
stands : {X : Type 0} (xs : List X) (x : X) → Contains xs x → (p : ℕ) × (slice_get xs p ≡ Some x)
stands xs x there = (there.0, slice_get-get_or xs there.0 x there.1 ∙ ap Some there.2)

-- an element is the one that is removed, or it is left
removed_cases : {X : Type 0} (xs : List X) (p : ℕ) (y x : X) → slice_get xs p ≡ Some y → Contains xs x → (y ≡ x) ⊎ Contains (remove xs p) x
removed_cases xs p y x at there =
    let here = stands xs x there in
    elim (cases_same here.0 p) [
      | inl same ↦ inl (same_Some y x (sym at ∙ (ap (slice_get xs) (sym same) ∙ here.1)))
      | inr other ↦
          let left = removed_keeps xs p here.0 x here.1 other in
          inr (Contains-at (remove xs p) left.0 x left.1)
    ]

pub filtered : {X : Type 0} (t : X → Bool) (xs : List X) (x : X) → Contains xs x → t x ≡ true → Contains (filter t xs) x
filtered t xs x there passes =
    let here = stands xs x there in
    let left = filter_keeps t xs here.0 x here.1 passes in
    Contains-at (filter t xs) left.0 x left.1

-- one side came back: what is known of the segments
came_on : (found more : List Owned) (start now : Seen) (next : List Lease) (place : ℕ) (out : Lease) → slice_get now.leases place ≡ Some out → next ≡ remove now.leases place
    → ((side : Owned) → CameBack found side → CameBack more side) → CameBack more out.side
    → All (λ (lease : Lease). Contains now.leases lease ⊎ CameBack found lease.side) start.leases → All (λ (lease : Lease). Contains next lease ⊎ CameBack more lease.side) start.leases
came_on found more start now next place out stood is later came given =
    All-weaker (λ (lease : Lease). Contains now.leases lease ⊎ CameBack found lease.side) (λ (lease : Lease). Contains next lease ⊎ CameBack more lease.side) each start.leases given
  where
    each : (lease : Lease) → (Contains now.leases lease ⊎ CameBack found lease.side) → Contains next lease ⊎ CameBack more lease.side
    each lease (inl here) =
        elim (removed_cases now.leases place out lease stood here) [
          | inl same ↦ inr (subst (λ (l : Lease). CameBack more l.side) same came)
          | inr left ↦ inl (rw is left)
        ]
    each lease (inr was) = inr (later lease.side was)

found_more : (found : List Owned) (gone side : Owned) → CameBack found side → CameBack (found ++ gone ∷ []) side
found_more found gone side (inl gave) = inl gave
found_more found gone side (inr (one, goes, there)) = inr (one, goes, Contains-append_left found (gone ∷ []) one there)

-- one segment more was given up
pub giving_on : (whole : Bool) (left : List Lease) (start now mid next : Seen) (place : ℕ) (side : Owned) → Giving left start now → (out : TakesOut place side now mid) → Contains left out.lease → GivesSide whole side mid next → Giving left start next
giving_on true left start now mid next place side giving out among (gave, is) =
    let leases : next.leases ≡ remove now.leases place = ap (λ (s : Seen). s.leases) is ∙ out.leaves.leases in
    record {
      found = giving.found;
      within = giving.within;
      sides = ap (λ (s : Seen). s.gone) is ∙ (out.gone ∙ giving.sides);
      told = ap (λ (s : Seen). s.told) is ∙ (out.told ∙ giving.told);
      taken = omega (arith, ap (λ (s : Seen). s.taken) is, out.taken, giving.taken);
      rest = rw leases (All-remove (Contains start.leases) now.leases place giving.rest);
      given = came_on giving.found giving.found start now next.leases place out.lease out.stood leases (λ s came. came) (inl (subst GaveBlock out.side_is gave)) giving.given;
      from = giving.from;
    }
giving_on false left start now mid next place side giving out among (gone, goes, is) =
    let leases : next.leases ≡ remove now.leases place = ap (λ (s : Seen). s.leases) is ∙ out.leaves.leases in
    let more = giving.found ++ gone ∷ [] in
    let goes' : GoesGone out.lease.side gone = subst (λ (s : Owned). GoesGone s gone) out.side_is goes in
    record {
      found = more;
      within = giving.within;
      sides = ap (λ (s : Seen). s.gone) is ∙ (rw (out.gone, out.told, giving.sides, giving.told) (kept_one_more gone giving.found start.gone start.told giving.within));
      told = omega (arith, ap (λ (s : Seen). s.told) is, out.told, giving.told, length-append giving.found (gone ∷ []));
      taken = omega (arith, ap (λ (s : Seen). s.taken) is, out.taken, giving.taken);
      rest = rw leases (All-remove (Contains start.leases) now.leases place giving.rest);
      given = came_on giving.found more start now next.leases place out.lease out.stood leases (found_more giving.found gone) (inr (gone, goes', Contains-push giving.found gone)) giving.given;
      from = All-push (λ (s : Owned). Any (λ (lease : Lease). GoesGone lease.side s) left) giving.found gone giving.from (among.0, out.lease, among.1, among.2, goes');
    }

-- no number stands twice among the gone ones
pub once_gone : (seen : Seen) → IsSoundSeen seen → AreOnce seen.gone
once_gone seen sound id =
    omega (arith, sound.once id, known_sum seen.leases seen.gone id, sum_by-map (is_id id) (λ (side : Owned). side.id) seen.gone)

-- all were given up
pub given_all : (start now : Seen) (gone : List Owned) → Giving start.leases start now → now.leases ≡ [] → gone ≡ now.gone → AreOnce gone → FindsGone start.leases start gone
given_all start now gone giving none is once =
    record {
      found = giving.found;
      sides = is ∙ giving.sides;
      given = All-weaker (λ (lease : Lease). Contains now.leases lease ⊎ CameBack giving.found lease.side) (λ (lease : Lease). CameBack giving.found lease.side) each start.leases giving.given;
      from = giving.from;
      once = once;
    }
  where
    each : (lease : Lease) → (Contains now.leases lease ⊎ CameBack giving.found lease.side) → CameBack giving.found lease.side
    each lease (inl here) = absurd (omega (arith, here.1, ap length none))
    each lease (inr came) = came

-- those that were all free were given up
pub given_free : (start now : Seen) → Giving (filter (is_all_free start.heap.used) start.leases) start now → now.leases ≡ filter (has_used start.heap.used) start.leases → AreOnce now.gone → FindsGone (filter (is_all_free start.heap.used) start.leases) start now.gone
given_free start now giving used once =
    let test = is_all_free start.heap.used in
    let all = All-weaker (λ (lease : Lease). Contains now.leases lease ⊎ CameBack giving.found lease.side) (λ (lease : Lease). test lease ≡ true → CameBack giving.found lease.side) each start.leases giving.given in
    record {
      found = giving.found;
      sides = giving.sides;
      given = λ k d within. All-filter test (λ (lease : Lease). test lease ≡ true → CameBack giving.found lease.side) start.leases all k d within (filter_passes test start.leases k d within);
      from = giving.from;
      once = once;
    }
  where
    both : (b : Bool) → b ≡ true → not b ≡ true → ⊥
    both true e f = cc
    both false e f = cc

    each : (lease : Lease) → (Contains now.leases lease ⊎ CameBack giving.found lease.side) → is_all_free start.heap.used lease ≡ true → CameBack giving.found lease.side
    each lease (inl here) free =
        let passes = All-contains (λ (l : Lease). has_used start.heap.used l ≡ true) now.leases lease (rw used (filter_passes (has_used start.heap.used) start.leases)) here in
        absurd (both (has_used start.heap.used lease) passes free)
    each lease (inr came) free = came

-- the sides that were not told are those that were not
pub given_told : (left : List Lease) (start now : Seen) → Giving left start now → KeepsUntold start now
given_told left start now giving =
    let front = take start.told start.gone in
    let back = drop start.told start.gone in
    let size = ap length giving.sides ∙ length-append (front ++ giving.found) back in
    record {
      told = omega (arith, size, giving.told, length-append front giving.found, length-append front back, ap length (take-append-drop start.told start.gone));
      taken = giving.taken;
    }
