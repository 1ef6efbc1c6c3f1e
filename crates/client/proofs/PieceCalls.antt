-- What the calls on pieces do, from what the steps do.
use Rattle.std.proofs.Common.{◌≡◌, ◌≢◌, ℕ, ◌+◌, Bool, true, false, Some, ◌<◌, refl, sym, ap, subst, ◌∙◌, inl, inr, ◌↔◌, ◌&&◌, arith}
use Rattle.std.specs.List.{Contains, slice_get}
use Rattle.std.proofs.lemmas.List.Elements.{All-contains}
use Rattle.segment.specs.declared.owner.Lock.{Lock}
use Rattle.segment.specs.declared.owner.Lock.TheVariants.{Held, Gone}
use Rattle.span_heap.specs.declared.run.Run.{Run}
use Rattle.span_heap.specs.Changes.{NoneIn}
use Rattle.client.specs.Gone.{has_side}
use Rattle.client.specs.Lease.{Lease, content_of, pages_at}
use Rattle.client.specs.Seen.{Seen, is_gone, has_lease}
use Rattle.segment.specs.Owned.{Owned}
use Rattle.std.proofs.lemmas.Option.{same_Some}
use Rattle.client.specs.Places.{IsThere, IsFirstFree, AreUsedBefore}
use Rattle.client.specs.Pieces.{Part, Owns, IsUsed, IsLive, IsDead, AllStay, OthersStay, StayElsewhere, IsFresh, IsNew, AreApart, LocksSo, UnlocksSo, LocksPiece, UnlocksPiece, bytes_of, content_at}
use Rattle.client.specs.Calls.{LocksRun, UnlocksRun, TakesOut}
use Rattle.page_locks.specs.Locks.{IsRange}
use Rattle.span_heap.specs.Run.{has_page}
use Rattle.client.specs.Sound.{IsSoundSeen}
use Rattle.client.specs.declared.answers.Unlocked.{Unlocked}
use Rattle.client.proofs.PlacesFound.{has_at}
use Rattle.client.proofs.OneStep.{not_gone, range_here}
use Rattle.client.proofs.Pages.{locked_some, has_within, within_range}
use Rattle.client.proofs.LeaseSteps.{in_use, locked_so}
use Rattle.client.proofs.Fitting.{fits_turned}
use Rattle.client.proofs.KeptThrough.{others_differ}
use Rattle.client.proofs.PiecesStay.{stays_as_it_is, stays_on, content_here}
use Rattle.client.proofs.Rows.{cases_same}

two : (b : Bool) → b ≡ true → b ≡ false → ⊥
two b e f = cc

-- a piece whose segment is not with the client is dead
pub dead_if_absent : (seen : Seen) (part : Part) → Owns seen part → has_lease seen.leases part.run.segment ≡ false → IsDead seen part
dead_if_absent seen part owns absent =
    elim owns.there [
      | inl live ↦ absurd (two (has_lease seen.leases part.run.segment) (has_at seen.leases live.stands.place part.run.segment live.stands.lease live.stands.stands live.stands.number) absent)
      | inr dead ↦ dead
    ]

-- a piece whose segment is with the client is live
pub live_if_there : (seen : Seen) (part : Part) (place : ℕ) → IsSoundSeen seen → Owns seen part → IsThere place part.run.segment seen.leases → IsLive seen part
live_if_there seen part place sound owns (lease, at, number) =
    elim owns.there [
      | inl live ↦ live
      | inr dead ↦ absurd (two (has_side seen.gone part.run.segment) dead.gone (rw (← number) (not_gone seen place lease sound at)))
    ]

-- a locked piece is live
pub live_if_locked : (seen : Seen) (part : Part) → Owns seen part → part.locked ≡ true → IsLive seen part
live_if_locked seen part owns locked =
    elim owns.there [
      | inl live ↦ live
      | inr dead ↦ absurd (two part.locked locked dead.free)
    ]

held_is_not_gone : Held ≡ Gone → ⊥
held_is_not_gone e = cc

-- a lock of a piece
pub lock_piece_held : (old new : Seen) (part : Part) → Owns old part → LocksRun part.run Held old new → LocksSo Held part.run old new → LocksPiece Held part old new
lock_piece_held old new part owns locks so =
    let held = so.held refl in
    record {
      owned = record { mine = owns.mine ∙ sym locks.after.name.number; there = inl held.0 };
      held = λ _. (held.1, held.2);
      gone = λ e. absurd (held_is_not_gone e);
      stay = so.stay;
    }

pub lock_piece_gone : (old new : Seen) (part : Part) → Owns old part → part.locked ≡ false → LocksRun part.run Gone old new → LocksSo Gone part.run old new → LocksPiece Gone part old new
lock_piece_gone old new part owns free locks so =
    record {
      owned = record { mine = owns.mine ∙ sym locks.after.leaves.name.number; there = inr (record { gone = so.gone refl; free = free }) };
      held = λ e. absurd (held_is_not_gone (sym e));
      gone = so.gone;
      stay = so.stay;
    }

pub lock_piece_dead : (seen : Seen) (part : Part) → Owns seen part → IsDead seen part → LocksPiece Gone part seen seen
lock_piece_dead seen part owns dead =
    record {
      owned = owns;
      held = λ e. absurd (held_is_not_gone (sym e));
      gone = λ _. dead.gone;
      stay = λ other there _. stays_as_it_is seen other there;
    }

-- an unlock of a piece
pub unlock_piece : (old new : Seen) (part : Part) (now : ℕ) (told : Unlocked) → Owns old part → UnlocksRun part.run now told old new → UnlocksSo part.run old new → UnlocksPiece part old new
unlock_piece old new part now told owns unlocks so =
    record {
      owned = record { mine = owns.mine ∙ sym unlocks.turns.name.number; there = inl so.free };
      bytes = so.bytes;
      there = so.there;
      stay = so.stay;
    }

-- others stay through two steps
pub others_on : (one two three : Seen) (run : Run) → OthersStay run one two → OthersStay run two three → OthersStay run one three
others_on one two three run first second part owns other =
    let stays = first part owns other in
    stays_on one two three part stays (second part stays.owned other)

pub all_on : (one two three : Seen) → AllStay one two → AllStay two three → AllStay one three
all_on one two three first second part owns =
    let stays = first part owns in
    stays_on one two three part stays (second part stays.owned)

pub none_stay : (seen : Seen) (run : Run) → OthersStay run seen seen
none_stay seen run part owns other = stays_as_it_is seen part owns

-- a piece that comes of a fresh span
pub new_piece : (start old between new : Seen) (pages : ℕ) (part : Part) → AllStay start old → IsFresh part.run old between → LocksRun part.run Held between new → LocksSo Held part.run between new → part.client ≡ between.number → part.locked ≡ true → part.run.pages ≡ pages → IsNew pages start new part
new_piece start old between new pages part stay fresh locks so mine locked sized =
    record {
      owned = record { mine = mine ∙ sym locks.after.name.number; there = inl (rw locked (so.held refl).0) };
      locked = locked;
      sized = sized;
      fits = fits_turned between new locks.place locks.lease locks.turned part.run locks.stood (locked_so part.run.first part.run.pages locks.lease locks.turned fresh.used.pages.some locks.locks).keeps locks.after fresh.fits;
      apart = λ other owns. fresh.apart other (stay other owns).owned;
    }

-- a lock of a fresh span keeps each piece that was owned before
pub stay_beside : (old between new : Seen) (told : Lock) (run : Run) → AllStay old between → IsFresh run old between → LocksSo told run between new → (pages_some : (other : Part) → Owns old other → other.run ≢ run) → AllStay old new
stay_beside old between new told run stay fresh so other_run part owns =
    let stays = stay part owns in
    stays_on old between new part stays (so.stay part stays.owned (other_run part owns))

-- each piece stays where a segment with no used span was taken out
pub stay_all_free : (old new : Seen) (place : ℕ) (id : ℕ) (lease : Lease) → IsSoundSeen old → slice_get old.leases place ≡ Some lease → lease.side.id ≡ id → NoneIn id old.heap.used → StayElsewhere id old new → AllStay old new
stay_all_free old new place id lease sound at number none elsewhere part owns =
    elim (cases_same part.run.segment id) [
      | inr other ↦ elsewhere part owns other
      | inl same ↦ elim owns.there [
        | inl live ↦ absurd (All-contains (λ run. run.segment ≢ id) old.heap.used part.run none live.used same)
        | inr dead ↦ absurd (two (has_side old.gone part.run.segment) dead.gone (rw (same, ← number) (not_gone old place lease sound at)))
      ]
    ]

-- whose piece it is
pub not_mine : (seen : Seen) (part : Part) → (part.client ≡ seen.number → ⊥) → Owns seen part → ⊥
not_mine seen part other owns = other owns.mine

pub not_used : (seen : Seen) (part : Part) (place : ℕ) → IsSoundSeen seen → IsThere place part.run.segment seen.leases → (Contains seen.heap.used part.run → ⊥) → Owns seen part → ⊥
not_used seen part place sound there unused owns = unused (live_if_there seen part place sound owns there).used

pub owned_by_range : (seen : Seen) (part : Part) (place : ℕ) (lease : Lease) → IsSoundSeen seen → slice_get seen.leases place ≡ Some lease → lease.side.id ≡ part.run.segment → part.client ≡ seen.number → Contains seen.heap.used part.run → IsRange part.locked lease.locks part.run.first part.run.pages ↔ Owns seen part
owned_by_range seen part place lease sound at number mine used = (
  λ range. record { mine = mine; there = inl (record { used = used; stands = record { place = place; lease = lease; stands = at; number = number }; pages = range }) },
  λ owns. range_here seen part.run part.locked place lease sound (live_if_there seen part place sound owns (lease, at, number)) at number,
)

pub owned_by_gone : (seen : Seen) (part : Part) → has_lease seen.leases part.run.segment ≡ false → part.client ≡ seen.number → part.locked ≡ false → (is_gone seen part.run.segment ≡ true) ↔ Owns seen part
owned_by_gone seen part absent mine free = (
  λ gone. record { mine = mine; there = inr (record { gone = gone; free = free }) },
  λ owns. (dead_if_absent seen part owns absent).gone,
)

-- a locked piece is not dead
pub locked_not_absent : (seen : Seen) (part : Part) → Owns seen part → has_lease seen.leases part.run.segment ≡ false → part.locked ≡ true → ⊥
locked_not_absent seen part owns absent locked = two part.locked locked (dead_if_absent seen part owns absent).free

-- what a locked piece shows
pub shown : (seen : Seen) (part : Part) (place : ℕ) (lease : Lease) → IsSoundSeen seen → IsUsed seen part.run true → slice_get seen.leases place ≡ Some lease → lease.side.id ≡ part.run.segment → pages_at part.run.first part.run.pages lease.side.bytes ≡ bytes_of seen part.run
shown seen part place lease sound used at number =
    let range = range_here seen part.run true place lease sound used at number in
    let locked = range.each part.run.first (omega arith) (let some = range.some in omega (arith, some)) in
    let some = locked_some lease.locks part.run.first locked in
    let here : content_at seen.leases lease.side.id ≡ content_of lease = content_here seen.leases place lease at (λ q other bt same. alone q other bt same) in
    let bytes : content_of lease ≡ lease.side.bytes = rw (in_use lease (omega (arith, some))) refl in
    ap (pages_at part.run.first part.run.pages) (sym bytes ∙ (sym here ∙ ap (content_at seen.leases) number))
  where
    alone : (q : ℕ) (other : Lease) → slice_get seen.leases q ≡ Some other → other.side.id ≡ lease.side.id → q ≡ place
    alone q other bt same = elim (cases_same q place) [ inl here ↦ here | inr apart ↦ absurd (others_differ seen place q lease other sound at bt apart same) ]

-- a span and what shares no page with it are two
pub apart_is_other : (run other : Run) → 0 < run.pages → AreApart run other → other ≢ run
apart_is_other run other some apart same =
    let has = has_within run run.segment run.first refl (within_range run.first run.pages run.first (omega arith) (omega (arith, some))) in
    let has' : has_page run.segment run.first other ≡ true = ap (has_page run.segment run.first) same ∙ has in
    two_true (has_page run.segment run.first run) (has_page run.segment run.first other) has has' (apart run.segment run.first)
  where
    two_true : (a b : Bool) → a ≡ true → b ≡ true → (a && b) ≡ false → ⊥
    two_true true true e f g = cc
    two_true true false e f g = cc
    two_true false b e f g = cc

-- a used span lies in a segment of the client
pub used_not_absent : (seen : Seen) (run : Run) (b : Bool) → IsUsed seen run b → has_lease seen.leases run.segment ≡ false → ⊥
used_not_absent seen run b used absent =
    two (has_lease seen.leases run.segment) (has_at seen.leases used.stands.place run.segment used.stands.lease used.stands.stands used.stands.number) absent

-- one more segment has a used span
pub used_one_more : (seen : Seen) (place : ℕ) (lease : Lease) → AreUsedBefore place seen → slice_get seen.leases place ≡ Some lease → (NoneIn lease.side.id seen.heap.used → ⊥) → AreUsedBefore (place + 1) seen
used_one_more seen place lease before at used earlier other less stands none =
    elim (cases_same earlier place) [
      | inl here ↦
          let same : other ≡ lease = same_Some other lease (sym stands ∙ (ap (slice_get seen.leases) here ∙ at)) in
          used (subst (λ (l : Lease). NoneIn l.side.id seen.heap.used) same none)
      | inr apart ↦ before earlier other (omega (arith, less, apart)) stands none
    ]

-- the segment that was taken out is the one that was found
pub taken_is_free : (old new : Seen) (place : ℕ) (side : Owned) → IsSoundSeen old → IsFirstFree place old → TakesOut place side old new → StayElsewhere side.id old new → AllStay old new
taken_is_free old new place side sound first out elsewhere =
    let same : first.lease ≡ out.lease = same_Some first.lease out.lease (sym first.stands ∙ out.stood) in
    let id : first.lease.side.id ≡ side.id = ap (λ (l : Lease). l.side.id) same ∙ ap (λ (s : Owned). s.id) (sym out.side_is) in
    stay_all_free old new place side.id first.lease sound first.stands id (subst (λ n. NoneIn n old.heap.used) id first.free) elsewhere

-- a test that failed means that it does not hold
pub not_so : (b : Bool) (P : Type 0) → (b ≡ true) ↔ P → b ≡ false → P → ⊥
not_so b P tells failed p = two b (tells.1 p) failed

pub owned_if_dead : (seen : Seen) (part : Part) → has_lease seen.leases part.run.segment ≡ false → part.client ≡ seen.number → IsDead seen part ↔ Owns seen part
owned_if_dead seen part absent mine = (λ dead. record { mine = mine; there = inr dead }, λ owns. dead_if_absent seen part owns absent)

pub iff_on : {P Q R : Type 0} → P ↔ Q → Q ↔ R → P ↔ R
iff_on pq qr = (λ p. qr.0 (pq.0 p), λ r. pq.1 (qr.1 r))

pub never : {P : Type 0} → (P → ⊥) → (false ≡ true) ↔ P
never none = (λ e. absurd (two true refl (sym e)), λ p. absurd (none p))

-- a new piece is new for what came before, too
pub new_since : (start old new : Seen) (pages : ℕ) (part : Part) → AllStay start old → IsNew pages old new part → IsNew pages start new part
new_since start old new pages part stay is =
    record { owned = is.owned; locked = is.locked; sized = is.sized; fits = is.fits; apart = λ other owns. is.apart other (stay other owns).owned }
