-- Segments are given back, one by one.
use Rattle.std.proofs.Common.{◌≡◌, ℕ, ◌+◌, ◌-◌, ◌<◌, ◌≤◌, Bool, true, false, cond, List, [], ◌∷◌, length, take, drop, Some, None, map, ◌==◌, ◌||◌, refl, sym, ap, ap₂, ◌∙◌, inl, inr, arith, take-append-drop, length-append, ltb, min}
use Rattle.std.specs.List.{sum_by}
use Rattle.std.specs.Option.{option_map}
use Rattle.std.specs.List.{All}
use Rattle.std.proofs.lemmas.Bool.{cases_Bool, lt-ltb, ltb-true, ne_eqb}
use Rattle.std.proofs.lemmas.List.Elements.{All-append, All-take, All-drop, All-cons, All-push, All-weaker, All-map, All-nil}
use Rattle.std.proofs.lemmas.List.Sums.{sum_by-append, sum_by-cons}
use Rattle.std.proofs.lemmas.List.Folds.{list_any-append, list_any_none}
use Rattle.std.proofs.lemmas.Option.{none-some, slice_get_cases}
use Rattle.units.specs.Count.{next_count}
use Rattle.segment.specs.Owned.{Owned}
use Rattle.segment.specs.Ends.{GivesUp}
use Rattle.segment.specs.declared.owner.Phase.{Phase}
use Rattle.segment.specs.declared.owner.Phase.TheVariants as phase
use Rattle.segment.specs.declared.giving.GiveUp.TheVariants as end
use Rattle.client.specs.Gone.{Includes, kept_side, next_of, after_next}
use Rattle.client.specs.Lease.{Lease}
use Rattle.client.specs.Seen.{Seen, next_untold, IsUnknown, numbers_of}
use Rattle.client.specs.Pieces.{Part}
use Rattle.client.specs.Calls.{TakesOut}
use Rattle.client.specs.Finding.{Adopts}
use Rattle.client.specs.Granting.{owed, IsBelow, IsBalanced, IsSettled, Returns, CameWhole, GivesSide, Tracks, ReturnsOwed, all_told, LAST_COUNT}
use Rattle.client.proofs.Rows.{All-at, All-remove}
use Rattle.client.proofs.Debts.{KeepsDebt}

-- sides are told so far
pub record Telling (start now : Seen) (returns_then returns_now : ℕ) : Type 0 where
  pub is : now ≡ record start { told = now.told }
  pub more : start.told ≤ now.told
  pub within : now.told ≤ length start.gone
  pub counted : Tracks returns_then returns_now (now.told - start.told)

pub telling_start : (seen : Seen) (r : ℕ) → seen.told ≤ length seen.gone → Telling seen seen r r
telling_start seen r within = record { is = refl; more = omega arith; within = within; counted = λ _. omega arith }

pub next_some : (gone : List Owned) (told id : ℕ) → next_of gone told ≡ Some id → told < length gone
next_some gone told id e =
    elim (slice_get_cases gone told).1 [
      | inl (side, within, at, is) ↦ within
      | inr (past, none) ↦ absurd (none-some id (sym (ap (option_map (λ (s : Owned). s.id)) none) ∙ e))
    ]

pub next_none : (gone : List Owned) (told : ℕ) → next_of gone told ≡ None → length gone ≤ told
next_none gone told e =
    elim (slice_get_cases gone told).1 [
      | inl (side, within, at, is) ↦ absurd (none-some side.id (sym e ∙ ap (option_map (λ (s : Owned). s.id)) at))
      | inr (past, none) ↦ past
    ]

pub telling_on : (start now next : Seen) (id r0 r r' : ℕ) → Telling start now r0 r → next_untold now ≡ Some id → next ≡ record now { told = after_next now.gone now.told } → r' ≡ next_count r → Telling start next r0 r'
telling_on start now next id r0 r r' telling some is counted =
    let less = next_some now.gone now.told id some in
    let told : next.told ≡ now.told + 1 = ap (λ (s : Seen). s.told) is ∙ rw (lt-ltb now.told (length now.gone) less) refl in
    let gone : length now.gone ≡ length start.gone = ap (λ (s : Seen). length s.gone) telling.is in
    let same : next ≡ record start { told = next.told } = is ∙ (ap (λ (s : Seen). record s { told = after_next now.gone now.told }) telling.is ∙ ap (λ (n : ℕ). record start { told = n }) (ap (λ (s : Seen). s.told) (sym is))) in
    record {
      is = same;
      more = omega (arith, told, telling.more);
      within = omega (arith, told, less, gone);
      counted = λ low.
          let was : r < LAST_COUNT = omega (arith, low, counted) in
          omega (arith, low, counted, telling.counted was, told, telling.more);
    }

pub telling_end : (start now next : Seen) (r0 r : ℕ) → Telling start now r0 r → next_untold now ≡ None → next ≡ record now { told = after_next now.gone now.told } → (next ≡ all_told start) × Tracks r0 r (length start.gone - start.told)
telling_end start now next r0 r telling none is =
    let past = next_none now.gone now.told none in
    let gone : length now.gone ≡ length start.gone = ap (λ (s : Seen). length s.gone) telling.is in
    let told : now.told ≡ length start.gone = omega (arith, past, gone, telling.within) in
    let not_less : ltb now.told (length now.gone) ≡ false = elim (cases_Bool (ltb now.told (length now.gone))) [ inl less ↦ absurd (let l = ltb-true now.told (length now.gone) less in omega (arith, l, past)) | inr so ↦ so ] in
    let stays : after_next now.gone now.told ≡ now.told = rw not_less refl in (
      is ∙ (ap (λ (n : ℕ). record now { told = n }) (stays ∙ told) ∙ ap (λ (s : Seen). record s { told = length start.gone }) telling.is),
      λ low. telling.counted low ∙ ap (λ n. r0 + (n - start.told)) told,
    )

-- fewer are left to tell
pub telling_fewer : (now next : Seen) (id : ℕ) → next_untold now ≡ Some id → next ≡ record now { told = after_next now.gone now.told } → length next.gone - next.told < length now.gone - now.told
telling_fewer now next id some is =
    let less = next_some now.gone now.told id some in
    let told : next.told ≡ now.told + 1 = ap (λ (s : Seen). s.told) is ∙ rw (lt-ltb now.told (length now.gone) less) refl in
    omega (arith, told, less, ap (λ (s : Seen). length s.gone) is)

-- nothing was given back yet
pub returns_start : (seen : Seen) (r : ℕ) → Returns r r seen seen
returns_start seen r = record { earlier = λ low. low; counted = λ t low. refl; known = λ bound below. below; told = λ t. t; number = refl; gone = λ weight. omega arith }

longer_kept : (side : Owned) (told : ℕ) (gone : List Owned) → length (kept_side side told gone) ≡ length gone + 1
longer_kept side told gone =
    omega (arith, length-append (take told gone) (side ∷ drop told gone), length-append (take told gone) (drop told gone), ap length (take-append-drop told gone))

kept_sum : (weight : Owned → ℕ) (side : Owned) (told : ℕ) (gone : List Owned) → sum_by weight (kept_side side told gone) ≡ sum_by weight gone + weight side
kept_sum weight side told gone =
    let all : sum_by weight gone ≡ sum_by weight (take told gone) + sum_by weight (drop told gone) = ap (sum_by weight) (sym (take-append-drop told gone)) ∙ sum_by-append weight (take told gone) (drop told gone) in
    omega (arith, all, sum_by-append weight (take told gone) (side ∷ drop told gone), sum_by-cons weight side (drop told gone))

below_kept : (bound : ℕ) (side : Owned) (told : ℕ) (gone : List Owned) → side.id ≤ bound → All (λ (s : Owned). s.id ≤ bound) gone → All (λ (s : Owned). s.id ≤ bound) (kept_side side told gone)
below_kept bound side told gone at all =
    All-append (λ (s : Owned). s.id ≤ bound) (take told gone) (side ∷ drop told gone) (All-take (λ (s : Owned). s.id ≤ bound) told gone all)
    (All-cons (λ (s : Owned). s.id ≤ bound) side (drop told gone) at (All-drop (λ (s : Owned). s.id ≤ bound) told gone all))

-- a side that went gone has the number that it had
pub goes_same : (phase : Phase) (side gone : Owned) → GivesUp phase side (end.Gone gone) → gone.id ≡ side.id
goes_same phase.Held side gone never = absurd never
goes_same phase.Idle side gone is = ap (λ (s : Owned). s.id) is
goes_same phase.Gone side gone is = ap (λ (s : Owned). s.id) is

-- what one segment that was taken out and given back leaves
record Given (old new : Seen) (whole : Bool) : Type 0 where
  fewer : length new.leases + 1 ≡ length old.leases
  owed_less : old.told ≤ length old.gone → owed new + 1 ≡ owed old
  known : (bound : ℕ) → IsBelow bound old → IsBelow bound new
  told : old.told ≤ length old.gone → new.told ≤ length new.gone
  number : new.number ≡ old.number
  longer : length new.gone + cond {A = ℕ} whole 1 0 ≡ length old.gone + 1
  gone : Includes old.gone new.gone

given : (whole : Bool) (old mid new : Seen) (place : ℕ) (side : Owned) → TakesOut place side old mid → GivesSide whole side mid new → Given old new whole
given true old mid new place side out (gave, is) =
    let leaves = out.leaves in
    rw is (record {
      fewer = leaves.fewer;
      owed_less = λ t. omega (arith, leaves.fewer, ap length out.gone, out.told);
      known = λ bound below. record { leases = rw leaves.leases (All-remove (λ (l : Lease). l.side.id ≤ bound) old.leases place below.leases); gone = rw out.gone below.gone };
      told = λ t. rw (out.gone, out.told) t;
      number = leaves.name.number;
      longer = omega (arith, ap length out.gone);
      gone = λ weight. rw out.gone (omega arith);
    })
given false old mid new place side out (s, goes, is) =
    let leaves = out.leaves in
    let same : s.id ≡ side.id = goes_same side.phase side s goes.0 in
    let id : side.id ≡ out.lease.side.id = ap (λ (x : Owned). x.id) out.side_is in
    let longer = longer_kept s mid.told mid.gone in
    rw is (record {
      fewer = leaves.fewer;
      owed_less = λ t. omega (arith, t, leaves.fewer, longer, ap length out.gone, out.told);
      known = λ bound below. record {
        leases = rw leaves.leases (All-remove (λ (l : Lease). l.side.id ≤ bound) old.leases place below.leases);
        gone = below_kept bound s mid.told mid.gone (rw (same, id) (All-at (λ (l : Lease). l.side.id ≤ bound) old.leases place out.lease below.leases out.stood)) (rw out.gone below.gone);
      };
      told = λ t. omega (arith, t, longer, ap length out.gone, out.told);
      number = leaves.name.number;
      longer = omega (arith, longer, ap length out.gone);
      gone = λ weight. omega (arith, kept_sum weight s mid.told mid.gone, ap (sum_by weight) out.gone);
    })

pub returns_on : (whole : Bool) (start now mid next : Seen) (r0 r r' : ℕ) (place : ℕ) (side : Owned) → Returns r0 r start now → TakesOut place side now mid → GivesSide whole side mid next → r' ≡ next_count r
    → Returns r0 r' start next
returns_on whole start now mid next r0 r r' place side returns out gives counted =
    let one = given whole now mid next place side out gives in
    record {
      earlier = λ low. returns.earlier (let was : r < LAST_COUNT = omega (arith, low, counted) in was);
      counted = λ t low.
          let was : r < LAST_COUNT = omega (arith, low, counted) in
          let within = returns.told t in
          omega (arith, low, counted, returns.counted t was, one.owed_less within);
      known = λ bound below. one.known bound (returns.known bound below);
      told = λ t. one.told (returns.told t);
      number = one.number ∙ returns.number;
      gone = λ weight. omega (arith, returns.gone weight, one.gone weight);
    }

pub giving_whole : (start now mid next : Seen) (n n' : ℕ) (place : ℕ) (side : Owned) → CameWhole n start now → TakesOut place side now mid → GivesSide true side mid next → n' ≡ min (n + 1) LAST_COUNT → CameWhole n' start next
giving_whole start now mid next n n' place side came out gives more low =
    let one = given true now mid next place side out gives in
    let was : n < LAST_COUNT = omega (arith, low, more) in
    omega (arith, low, more, came was, one.fewer, one.longer)

pub giving_gone : (start now mid next : Seen) (n : ℕ) (place : ℕ) (side : Owned) → CameWhole n start now → TakesOut place side now mid → GivesSide false side mid next → CameWhole n start next
giving_gone start now mid next n place side came out gives low =
    let one = given false now mid next place side out gives in
    omega (arith, came low, one.fewer, one.longer)

pub giving_fewer : (whole : Bool) (now mid next : Seen) (place : ℕ) (side : Owned) → TakesOut place side now mid → GivesSide whole side mid next → length next.leases < length now.leases
giving_fewer whole now mid next place side out gives =
    let one = given whole now mid next place side out gives in
    omega (arith, one.fewer)

-- the counts agree through a call of the client
pub balanced_on : (g0 g r0 r greatest n : ℕ) (old new : Seen) → IsBalanced g0 g r0 r greatest n old → KeepsDebt old new → IsBalanced g0 g r0 r greatest n new
balanced_on g0 g r0 r greatest n old new balanced keeps =
    record {
      granted = balanced.granted;
      exact = balanced.exact;
      within = balanced.within;
      returned = λ low low'. ap (λ o. r + o) (keeps.owed balanced.told) ∙ balanced.returned low low';
      known = keeps.known greatest balanced.known;
      told = keeps.told balanced.told;
    }

-- through returns
pub balanced_returned : (g0 g g' r0 r r' greatest greatest' n : ℕ) (old new : Seen) → IsBalanced g0 g r0 r greatest n old → Returns r r' old new → g' ≡ g → greatest' ≡ greatest → IsBalanced g0 g' r0 r' greatest' n new
balanced_returned g0 g g' r0 r r' greatest greatest' n old new balanced returns same same' =
    rw (same, same') (record {
      granted = balanced.granted;
      exact = balanced.exact;
      within = balanced.within;
      returned = λ low low'.
          let was = returns.earlier low' in
          omega (arith, returns.counted balanced.told low', balanced.returned low was);
      known = returns.known greatest balanced.known;
      told = returns.told balanced.told;
    })

-- once all are told
pub balanced_told : (g0 g g' r0 r r' greatest greatest' n : ℕ) (old new : Seen) → IsBalanced g0 g r0 r greatest n old → new ≡ all_told old → Tracks r r' (length old.gone - old.told) → g' ≡ g → greatest' ≡ greatest → IsBalanced g0 g' r0 r' greatest' n new
balanced_told g0 g g' r0 r r' greatest greatest' n old new balanced is tracks same same' =
    rw (is, same, same') (record {
      granted = balanced.granted;
      exact = balanced.exact;
      within = balanced.within;
      returned = λ low low'.
          let rose = tracks low' in
          let was : r < LAST_COUNT = omega (arith, rose, low') in
          omega (arith, rose, balanced.returned low was, balanced.told);
      known = record { leases = balanced.known.leases; gone = balanced.known.gone };
      told = omega arith;
    })

-- one return was made for each side that is told now
pub returned_told : (r r' : ℕ) (old swept new : Seen) → owed swept ≡ owed old → swept.told ≤ length swept.gone → new ≡ all_told swept → Tracks r r' (length swept.gone - swept.told) → ReturnsOwed r r' old new
returned_told r r' old swept new same within is tracks low = rw is (omega (arith, tracks low, same, within))

-- a new segment came
pub balanced_grown : (g0 g g' r0 r r' greatest greatest' n n' : ℕ) (old new : Seen) (pages : ℕ) (part : Part) (side : Owned) → IsBalanced g0 g r0 r greatest n old → g' ≡ next_count g → n' ≡ min (n + 1) LAST_COUNT → r' ≡ r → greatest < side.id → greatest' ≡ side.id → Adopts side pages part old new → IsBalanced g0 g' r0 r' greatest' n' new
balanced_grown g0 g g' r0 r r' greatest greatest' n n' old new pages part side balanced rose more same newer is adopts =
    let longer : length new.leases ≡ length old.leases + 1 = omega (arith, ap length adopts.leases, length-append old.leases (adopts.lease ∷ [])) in
    record {
      granted = λ low.
          let was : g < LAST_COUNT = omega (arith, low, rose) in
          omega (arith, low, rose, more, balanced.granted was);
      exact = λ start. omega (arith, rose, more, balanced.exact start);
      within = omega (arith, more);
      returned = λ low low'.
          let was : g < LAST_COUNT = omega (arith, low, rose) in
          let was' : r < LAST_COUNT = omega (arith, low', same) in
          omega (arith, low, rose, more, balanced.granted was, balanced.returned was was', longer, ap length adopts.gone, adopts.told, same);
      known = record {
        leases = rw (adopts.leases, is) (All-push (λ (l : Lease). l.side.id ≤ side.id) old.leases adopts.lease (All-weaker (λ (l : Lease). l.side.id ≤ greatest) (λ (l : Lease). l.side.id ≤ side.id) (λ l low. omega (arith, low, newer)) old.leases balanced.known.leases) (rw adopts.side_is (omega arith)));
        gone = rw (adopts.gone, is) (All-weaker (λ (s : Owned). s.id ≤ greatest) (λ (s : Owned). s.id ≤ side.id) (λ s low. omega (arith, low, newer)) old.gone balanced.known.gone);
      };
      told = rw (adopts.gone, adopts.told) balanced.told;
    }

-- a segment came and went at once
pub balanced_back : (g0 g g' r0 r r' greatest greatest' n n' : ℕ) (seen : Seen) → IsBalanced g0 g r0 r greatest n seen → g' ≡ next_count g → n' ≡ min (n + 1) LAST_COUNT → r' ≡ next_count r → greatest ≤ greatest' → IsBalanced g0 g' r0 r' greatest' n' seen
balanced_back g0 g g' r0 r r' greatest greatest' n n' seen balanced rose more back newer =
    record {
      granted = λ low.
          let was : g < LAST_COUNT = omega (arith, low, rose) in
          omega (arith, low, rose, more, balanced.granted was);
      exact = λ start. omega (arith, rose, more, balanced.exact start);
      within = omega (arith, more);
      returned = λ low low'.
          let was : g < LAST_COUNT = omega (arith, low, rose) in
          let was' : r < LAST_COUNT = omega (arith, low', back) in
          omega (arith, low, low', rose, more, back, balanced.granted was, balanced.returned was was');
      known = record {
        leases = All-weaker (λ (l : Lease). l.side.id ≤ greatest) (λ (l : Lease). l.side.id ≤ greatest') (λ l low. omega (arith, low, newer)) seen.leases balanced.known.leases;
        gone = All-weaker (λ (s : Owned). s.id ≤ greatest) (λ (s : Owned). s.id ≤ greatest') (λ s low. omega (arith, low, newer)) seen.gone balanced.known.gone;
      };
      told = balanced.told;
    }

-- a number above the greatest is not known
pub newer_unknown : (greatest id : ℕ) (seen : Seen) → IsBelow greatest seen → greatest < id → IsUnknown id seen
newer_unknown greatest id seen below newer =
    let test : ℕ → Bool = λ n. n == id in
    list_any-append test (numbers_of seen.leases) (map (λ (s : Owned). s.id) seen.gone)
    ∙ ap₂ (λ a b. a || b)
    (list_any_none test (numbers_of seen.leases) (All-map (λ n. (n == id) ≡ false) (λ (l : Lease). l.side.id) seen.leases (All-weaker (λ (l : Lease). l.side.id ≤ greatest) (λ (l : Lease). (l.side.id == id) ≡ false) (λ l low. ne_eqb l.side.id id (λ e. absurd (omega (arith, e, low, newer)))) seen.leases below.leases)))
    (list_any_none test (map (λ (s : Owned). s.id) seen.gone) (All-map (λ n. (n == id) ≡ false) (λ (s : Owned). s.id) seen.gone (All-weaker (λ (s : Owned). s.id ≤ greatest) (λ (s : Owned). (s.id == id) ≡ false) (λ s low. ne_eqb s.id id (λ e. absurd (omega (arith, e, low, newer)))) seen.gone below.gone)))

-- nothing is owed by a client with no segment that has told all
pub settled : (g0 g r0 r greatest n : ℕ) (seen : Seen) → IsBalanced g0 g r0 r greatest n seen → seen.leases ≡ [] → length seen.gone ≤ seen.told → IsSettled g0 g r0 r n
settled g0 g r0 r greatest n seen balanced none told =
    record {
      granted = balanced.granted;
      returned = λ low low'. omega (arith, balanced.returned low low', ap length none, told);
    }

-- a client at the start
pub balanced_start : (g r greatest : ℕ) (seen : Seen) → seen.leases ≡ [] → seen.gone ≡ [] → seen.told ≤ length seen.gone → IsBalanced g g r r greatest 0 seen
balanced_start g r greatest seen leases gone told =
    record {
      granted = λ _. omega arith;
      exact = λ start. omega (arith, start);
      within = omega arith;
      returned = λ _ _. omega (arith, ap length leases, ap length gone);
      known = record { leases = rw leases (All-nil (λ (l : Lease). l.side.id ≤ greatest)); gone = rw gone (All-nil (λ (s : Owned). s.id ≤ greatest)) };
      told = told;
    }

-- nothing changed but what is equal
pub balanced_same : (g0 g g' r0 r r' greatest greatest' n : ℕ) (seen : Seen) → IsBalanced g0 g r0 r greatest n seen → g' ≡ g → r' ≡ r → greatest' ≡ greatest → IsBalanced g0 g' r0 r' greatest' n seen
balanced_same g0 g g' r0 r r' greatest greatest' n seen balanced a b d = rw (a, b, d) balanced
