-- What a write to a locked piece leaves.
use Rattle.std.proofs.Common.{◌≡◌, ◌≢◌, ◌⊎◌, ℕ, zero, suc, ◌+◌, ◌-◌, ◌*◌, ◌<◌, ◌≤◌, Bool, true, false, cond, ◌&&◌, List, [], ◌∷◌, ◌++◌, length, set, map, take, drop, Some, refl, sym, ap, ◌∙◌, inl, inr, arith, length-append}
use Rattle.std.specs.List.{All, slice_get}
use Rattle.std.proofs.lemmas.Bool.{eq-eqb, ne_eqb, cases_lt}
use Rattle.std.proofs.lemmas.List.{drop-take, drop_at, take_at, length-take-le, length-drop, length-map}
use Rattle.std.proofs.lemmas.List.Elements.{All-map, All-weaker}
use Rattle.std.proofs.lemmas.Slice.{take-put_mid_below, drop-put_mid}
use Rattle.std.proofs.lemmas.Option.{none-some, same_Some}
use Rattle.units.specs.declared.TheConstants.{PAGE}
use Rattle.block_pool.specs.Lending.{written_from}
use Rattle.segment.specs.Owned.{HasPages}
use Rattle.segment.specs.declared.owner.Phase.TheVariants.{Gone}
use Rattle.span_heap.specs.declared.run.Run.{Run}
use Rattle.span_heap.specs.Run.{has_page}
use Rattle.client.specs.Gone.{has_side}
use Rattle.client.specs.Lease.{Lease, IsLease, content_of, pages_at, with_bytes}
use Rattle.client.specs.Seen.{Seen, is_lease}
use Rattle.client.specs.Pieces.{Part, Owns, AreApart, content_at, bytes_of, IsUsed, written_run, WritesOnly}
use Rattle.client.specs.Calls.{Turns}
use Rattle.client.specs.Sound.{IsSoundSeen, IsSoundClient, LockedAreUsed}
use Rattle.client.proofs.Rows.{cases_same, All-at}
use Rattle.client.proofs.Pages.{has_within, within_range, apart_or_same, used_once, locked_some}
use Rattle.client.proofs.KeptThrough.{others_differ}
use Rattle.client.proofs.LeaseSteps.{in_use}
use Rattle.client.proofs.Debts.{KeepsDebt}
use Rattle.client.proofs.OneStep.{range_here, kept_turned}
use Rattle.client.proofs.PiecesStay.{stands_turned, content_here}
use Rattle.client.proofs.PieceCalls.{live_if_locked, shown}

-- bytes that fit take the place of as many others: the length stays
written_length : (place : ℕ) (bytes w : List ℕ) → place + length w ≤ length bytes → length (take place bytes ++ (w ++ drop (length w) (drop place bytes))) ≡ length bytes
written_length place bytes w fits =
    let front = length-take-le place bytes (omega (arith, fits)) in
    let rest = length-drop (length w) (drop place bytes) in
    let after = length-drop place bytes in
    let two = length-append w (drop (length w) (drop place bytes)) in
    let all = length-append (take place bytes) (w ++ drop (length w) (drop place bytes)) in
    omega (arith, fits, front, rest, after, two, all)

written_mid : (place : ℕ) (bytes w : List ℕ) → place + length w ≤ length bytes → written_from place bytes w ≡ take place bytes ++ (w ++ drop (length w) (drop place bytes))
written_mid place bytes w fits = take_at _ _ (length bytes) (written_length place bytes w fits)

-- what was written is read there
written_here : (place count : ℕ) (bytes w : List ℕ) → length w ≡ count → place + length w ≤ length bytes → take count (drop place (written_from place bytes w)) ≡ w
written_here place count bytes w same fits =
    ap (λ l. take count (drop place l)) (written_mid place bytes w fits)
    ∙ (ap (take count) (drop_at _ _ place (length-take-le place bytes (omega (arith, fits)))) ∙ take_at w _ count same)

-- what lies before or after is as it was
written_else : (place from count : ℕ) (bytes w : List ℕ) → place + length w ≤ length bytes → (from + count ≤ place) ⊎ (place + length w ≤ from) → take count (drop from (written_from place bytes w)) ≡ take count (drop from bytes)
written_else place from count bytes w fits (inl before) =
    ap (λ l. take count (drop from l)) (written_mid place bytes w fits)
    ∙ (sym (drop-take from count _) ∙ (ap (drop from) (take-put_mid_below place (length w) bytes w (from + count) before (omega (arith, fits))) ∙ drop-take from count bytes))
written_else place from count bytes w fits (inr after) =
    ap (λ l. take count (drop from l)) (written_mid place bytes w fits)
    ∙ ap (take count) (drop-put_mid place (length w) bytes w from after (omega (arith, fits)) refl)

two_true : (a b : Bool) → a ≡ true → b ≡ true → (a && b) ≡ false → ⊥
two_true true true e f g = cc
two_true true false e f g = cc
two_true false b e f g = cc

-- a page in both
not_apart : (run other : Run) (page : ℕ) → run.segment ≡ other.segment → AreApart run other → run.first ≤ page → page < run.first + run.pages → other.first ≤ page → page < other.first + other.pages → ⊥
not_apart run other page same apart low high low' high' =
    let has = has_within run other.segment page same (within_range run.first run.pages page low high) in
    let has' = has_within other other.segment page refl (within_range other.first other.pages page low' high') in
    two_true (has_page other.segment page run) (has_page other.segment page other) has has' (apart other.segment page)

-- two runs of a segment that share no page lie one after the other
apart_order : (run other : Run) → run.segment ≡ other.segment → AreApart run other → 0 < run.pages → 0 < other.pages → (other.first + other.pages ≤ run.first) ⊎ (run.first + run.pages ≤ other.first)
apart_order run other same apart some some' =
    elim (cases_lt other.first (run.first + run.pages)) [
      | inr after ↦ inr after
      | inl early ↦ elim (cases_lt run.first (other.first + other.pages)) [
        | inr before ↦ inl before
        | inl late ↦ elim (cases_lt run.first other.first) [
          | inl first ↦ absurd (not_apart run other other.first same apart (omega (arith, first)) early (omega arith) (omega (arith, some')))
          | inr second ↦ absurd (not_apart run other run.first same apart (omega arith) (omega (arith, some)) second late)
        ]
      ]
    ]

-- what the segment that was written has
content_written : (leases : List Lease) (p : ℕ) (lease new : Lease) → slice_get leases p ≡ Some lease → new.side.id ≡ lease.side.id → ((q : ℕ) (other : Lease) → slice_get leases q ≡ Some other → other.side.id ≡ lease.side.id → q ≡ p) → content_at (set leases p new) lease.side.id ≡ content_of new
content_written [] p lease new at same alone = absurd (none-some lease at)
content_written (l ∷ leases) zero lease new at same alone = rw (eq-eqb new.side.id lease.side.id same) refl
content_written (l ∷ leases) (suc p) lease new at same alone =
    let away : is_lease lease.side.id l ≡ false = ne_eqb l.side.id lease.side.id (λ e. let none = alone 0 l refl e in absurd (omega (arith, none))) in
    rw away (content_written leases p lease new at same (λ q other bt e. let s = alone (suc q) other bt e in omega (arith, s)))

-- what another segment has
content_elsewhere : (leases : List Lease) (p id : ℕ) (lease new : Lease) → slice_get leases p ≡ Some lease → new.side.id ≡ lease.side.id → lease.side.id ≢ id → content_at (set leases p new) id ≡ content_at leases id
content_elsewhere [] p id lease new at same other = absurd (none-some lease at)
content_elsewhere (l ∷ leases) zero id lease new at same other =
    let away : is_lease id new ≡ false = ne_eqb new.side.id id (λ e. other (sym same ∙ e)) in
    let away' : is_lease id l ≡ false = ap (is_lease id) (same_Some l lease at) ∙ ne_eqb lease.side.id id other in
    rw (away, away') refl
content_elsewhere (l ∷ leases) (suc p) id lease new at same other =
    ap (λ more. cond (is_lease id l) (content_of l) more) (content_elsewhere leases p id lease new at same other)

-- the segments where one of them is written
abbrev written_all : ℕ → ℕ → List ℕ → List Lease → List Lease
written_all id first w leases = map (λ (lease : Lease). cond (is_lease id lease) (with_bytes first w lease) lease) leases

none_written : (leases : List Lease) (id first : ℕ) (w : List ℕ) → ((q : ℕ) (other : Lease) → slice_get leases q ≡ Some other → other.side.id ≢ id) → written_all id first w leases ≡ leases
none_written [] id first w none = refl
none_written (l ∷ leases) id first w none =
    let away : is_lease id l ≡ false = ne_eqb l.side.id id (none 0 l refl) in
    rw away (ap (λ more. l ∷ more) (none_written leases id first w (λ q other at. none (suc q) other at)))

one_written : (leases : List Lease) (p id first : ℕ) (w : List ℕ) (lease : Lease) → slice_get leases p ≡ Some lease → lease.side.id ≡ id → ((q : ℕ) (other : Lease) → slice_get leases q ≡ Some other → other.side.id ≡ id → q ≡ p) → written_all id first w leases ≡ set leases p (with_bytes first w lease)
one_written [] p id first w lease at number alone = absurd (none-some lease at)
one_written (l ∷ leases) zero id first w lease at number alone =
    let is : l ≡ lease = same_Some l lease at in
    let here : is_lease id l ≡ true = eq-eqb l.side.id id (ap (λ (x : Lease). x.side.id) is ∙ number) in
    let rest = none_written leases id first w (λ q other bt e. let s = alone (suc q) other bt e in absurd (omega (arith, s))) in
    rw here (rw rest (ap (λ (x : Lease). with_bytes first w x ∷ leases) is))
one_written (l ∷ leases) (suc p) id first w lease at number alone =
    let away : is_lease id l ≡ false = ne_eqb l.side.id id (λ e. let s = alone 0 l refl e in absurd (omega (arith, s))) in
    rw away (ap (λ more. l ∷ more) (one_written leases p id first w lease at number (λ q other bt e. let s = alone (suc q) other bt e in omega (arith, s))))

-- no other segment has the number
alone_there : (seen : Seen) (p id : ℕ) (lease : Lease) → IsSoundSeen seen → slice_get seen.leases p ≡ Some lease → lease.side.id ≡ id → (q : ℕ) (other : Lease) → slice_get seen.leases q ≡ Some other → other.side.id ≡ id → q ≡ p
alone_there seen p id lease sound at number q other bt same =
    elim (cases_same q p) [ inl here ↦ here | inr apart ↦ absurd (others_differ seen p q lease other sound at bt apart (same ∙ sym number)) ]

-- the segments after a write
pub written_set : (seen : Seen) (run : Run) (p : ℕ) (lease : Lease) (w : List ℕ) → IsSoundSeen seen → slice_get seen.leases p ≡ Some lease → lease.side.id ≡ run.segment → (written_run seen run w).leases ≡ set seen.leases p (with_bytes run.first w lease)
written_set seen run p lease w sound at number =
    one_written seen.leases p run.segment run.first w lease at number (alone_there seen p run.segment lease sound at number)

-- A segment was written: the client is kept.
pub kept_written : {rising : Bool} (seen : Seen) (pages room p first : ℕ) (lease : Lease) (w : List ℕ) → IsSoundClient seen pages room rising → slice_get seen.leases p ≡ Some lease → IsSoundClient (record seen { leases = set seen.leases p (with_bytes first w lease) }) pages room rising
kept_written seen pages room p first lease w kept at =
    let is = All-at IsLease seen.leases p lease kept.sound.leases at in
    kept_turned seen pages room p lease (with_bytes first w lease) kept at
    (record { same = refl; pages = refl; lease = record { sized = is.sized; held = is.held; free = is.free }; locked = All-at (LockedAreUsed seen.heap.used) seen.leases p lease kept.sound.locked at })
    (All-at (λ (l : Lease). l.side.phase ≢ Gone) seen.leases p lease kept.sound.live at)

-- the client as it is seen after a write
pub written_seen : (seen : Seen) (run : Run) (p first : ℕ) (lease : Lease) (w : List ℕ) → IsSoundSeen seen → slice_get seen.leases p ≡ Some lease → lease.side.id ≡ run.segment → first ≡ run.first → record seen { leases = set seen.leases p (with_bytes first w lease) } ≡ written_run seen run w
written_seen seen run p first lease w sound at number same =
    rw same (ap (λ (ls : List Lease). record seen { leases = ls }) (sym (written_set seen run p lease w sound at number)))

below_written : (leases : List Lease) (id first bound : ℕ) (w : List ℕ) → All (λ (l : Lease). l.side.id ≤ bound) leases → All (λ (l : Lease). l.side.id ≤ bound) (written_all id first w leases)
below_written leases id first bound w all =
    All-map (λ (l : Lease). l.side.id ≤ bound) (λ (l : Lease). cond (is_lease id l) (with_bytes first w l) l) leases
    (All-weaker (λ (l : Lease). l.side.id ≤ bound) (λ (l : Lease). (cond (is_lease id l) (with_bytes first w l) l).side.id ≤ bound) (λ l below. one (is_lease id l) l below) leases all)
  where
    one : (b : Bool) (l : Lease) → l.side.id ≤ bound → (cond b (with_bytes first w l) l).side.id ≤ bound
    one true l below = below
    one false l below = below

-- a write owes nothing
pub debt_written : (seen : Seen) (run : Run) (w : List ℕ) → KeepsDebt seen (written_run seen run w)
debt_written seen run w =
    record {
      owed = λ _. ap (λ n. n + (length seen.gone - seen.told)) (length-map seen.leases (λ (l : Lease). cond (is_lease run.segment l) (with_bytes run.first w l) l));
      known = λ bound below. record { leases = below_written seen.leases run.segment run.first bound w below.leases; gone = below.gone };
      told = λ t. t;
      gone = λ weight. omega arith;
    }

two : (b : Bool) → b ≡ true → b ≡ false → ⊥
two b e f = cc

-- how many bytes a locked piece has
pub shown_length : (seen : Seen) (part : Part) (p : ℕ) (lease : Lease) → IsSoundSeen seen → IsUsed seen part.run true → slice_get seen.leases p ≡ Some lease → lease.side.id ≡ part.run.segment → HasPages lease.side → length (bytes_of seen part.run) ≡ PAGE * part.run.pages
shown_length seen part p lease sound used at number pages =
    let run = part.run in
    let range = range_here seen run true p lease sound used at number in
    let is = All-at IsLease seen.leases p lease sound.leases at in
    let rest = length-drop (PAGE * run.first) lease.side.bytes in
    let fits : PAGE * run.pages ≤ length (drop (PAGE * run.first) lease.side.bytes) = omega (arith, rest, range.inside, is.sized, pages.whole) in
    ap length (sym (shown seen part p lease sound used at number)) ∙ length-take-le (PAGE * run.pages) (drop (PAGE * run.first) lease.side.bytes) fits

-- a write changes no byte of another piece
pub writes_only : (seen : Seen) (part : Part) (p : ℕ) (lease : Lease) → IsSoundSeen seen → Owns seen part → part.locked ≡ true → slice_get seen.leases p ≡ Some lease → lease.side.id ≡ part.run.segment → HasPages lease.side → WritesOnly part seen
writes_only seen part p lease sound owns locked at number pages w whole =
    let run = part.run in
    let new = written_run seen run w in
    let turned = with_bytes run.first w lease in
    let live = live_if_locked seen part owns locked in
    let range = range_here seen run part.locked p lease sound live at number in
    let turns : Turns p turned seen new = record { leases = written_set seen run p lease w sound at number; heap = refl; name = record { number = refl; standard = refl }; gone = record { gone = refl; told = refl; taken = refl } } in
    let is = All-at IsLease seen.leases p lease sound.leases at in
    let fits : PAGE * run.first + length w ≤ length lease.side.bytes = omega (arith, whole, range.inside, is.sized, pages.whole) in
    let some = locked_some lease.locks run.first (range.each run.first (omega arith) (let s = range.some in omega (arith, s)) ∙ locked) in
    let used = in_use lease (omega (arith, some)) in
    let alone = alone_there seen p lease.side.id lease sound at refl in
    let before : content_at seen.leases lease.side.id ≡ lease.side.bytes = content_here seen.leases p lease at alone ∙ rw used refl in
    let after : content_at new.leases lease.side.id ≡ written_from (PAGE * run.first) lease.side.bytes w =
    ap (λ ls. content_at ls lease.side.id) turns.leases ∙ (content_written seen.leases p lease turned at refl alone ∙ rw used refl) in
    record {
      owned = owned_on turns part owns;
      bytes = ap (pages_at run.first run.pages) (ap (content_at new.leases) (sym number) ∙ after) ∙ written_here (PAGE * run.first) (PAGE * run.pages) lease.side.bytes w whole fits;
      stay = λ other there differs. record {
        owned = owned_on turns other there;
        gone = λ was. was;
        bytes = λ known. elim there.there [
          | inr dead ↦ absurd (two (has_side seen.gone other.run.segment) dead.gone known)
          | inl other_live ↦ elim (cases_same other.run.segment lease.side.id) [
            | inr away ↦ ap (pages_at other.run.first other.run.pages) (ap (λ ls. content_at ls other.run.segment) turns.leases ∙ content_elsewhere seen.leases p other.run.segment lease turned at refl (λ e. away (sym e)))
            | inl same ↦ elim (apart_or_same seen.heap.used run other.run (used_once seen.heap sound.partition) live.used other_live.used) [
              | inr one ↦ absurd (differs (sym one))
              | inl apart ↦
                  let order = apart_order run other.run (sym number ∙ sym same) apart range.some other_live.pages.some in
                  ap (pages_at other.run.first other.run.pages) (ap (content_at new.leases) same ∙ after)
                  ∙ (written_else (PAGE * run.first) (PAGE * other.run.first) (PAGE * other.run.pages) lease.side.bytes w fits (scaled run other.run (length w) whole order)
                  ∙ ap (pages_at other.run.first other.run.pages) (sym (ap (content_at seen.leases) same ∙ before)))
            ]
          ]
        ];
      };
    }
  where
    owned_on : Turns p (with_bytes part.run.first w lease) seen (written_run seen part.run w) → (other : Part) → Owns seen other → Owns (written_run seen part.run w) other
    owned_on turns other there =
        record {
          mine = there.mine;
          there = elim there.there [
            | inl live ↦ inl (stands_turned seen (written_run seen part.run w) p lease (with_bytes part.run.first w lease) other at refl turns (λ _ range. range) live)
            | inr dead ↦ inr (record { gone = dead.gone; free = dead.free })
          ];
        }

    scaled : (run other : Run) (n : ℕ) → n ≡ PAGE * run.pages → (other.first + other.pages ≤ run.first) ⊎ (run.first + run.pages ≤ other.first) → (PAGE * other.first + PAGE * other.pages ≤ PAGE * run.first) ⊎ (PAGE * run.first + n ≤ PAGE * other.first)
    scaled run other n is (inl before) = inl (omega (arith, before))
    scaled run other n is (inr after) = inr (omega (arith, is, after))
