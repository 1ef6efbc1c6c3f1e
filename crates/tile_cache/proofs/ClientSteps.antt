-- What the client's steps keep: its name, its pages, and what is known to be gone.
use Rattle.std.proofs.Common.{◌≡◌, ℕ, ◌≤◌, Bool, true, false, not, ◌||◌, cond, List, [], ◌∷◌, Option, Some, None, refl, ap, ◌∙◌, inl, inr, arith}
use Rattle.std.specs.List.{filter, sum_by}
use Rattle.std.specs.Bool.{MatchBool}
use Rattle.std.proofs.lemmas.Bool.{true_from_ne_false, or_parts}
use Rattle.std.proofs.lemmas.List.Filters.{sum_by-filter_both}
use Rattle.std.proofs.lemmas.List.Sums.{sum_by-cons}
use Rattle.segment.specs.Owned.{Owned}
use Rattle.segment.specs.declared.owner.Lock.{Lock}
use Rattle.segment.specs.declared.owner.Lock.TheVariants.{Held, Gone}
use Rattle.span_heap.specs.declared.run.Run.{Run}
use Rattle.span_heap.specs.Heap.{size_of, has_id}
use Rattle.span_heap.specs.Segment.{Segment}
use Rattle.span_heap.specs.Pick.{pick}
use Rattle.client.specs.Gone.{Includes, has_side, is_side}
use Rattle.client.specs.Lease.{Lease}
use Rattle.client.specs.Seen.{Seen}
use Rattle.client.specs.Pieces.{Part}
use Rattle.client.specs.Calls.{KeepsName, Loses, Turns, LocksRun, AfterPagesLock, LocksPart, UnlocksRun, FreesRun, AfterFree}
use Rattle.client.specs.declared.answers.Unlocked.{Unlocked}
use Rattle.client.specs.Finding.{Finds, Serves, Carves, slack_of}
use Rattle.client.specs.Granting.{Allocates}

-- the client is the one that it was, and has no more pages
pub record Goes (old new : Seen) : Type 0 where
  pub name : KeepsName old new
  pub pages : size_of new.heap.segments ≤ size_of old.heap.segments

pub same_name : (seen : Seen) → KeepsName seen seen
same_name seen = record { number = refl; standard = refl }

pub name_on : (one two three : Seen) → KeepsName one two → KeepsName two three → KeepsName one three
name_on one two three first second = record { number = second.number ∙ first.number; standard = second.standard ∙ first.standard }

pub goes_same : (old new : Seen) → new ≡ old → Goes old new
goes_same old new same = rw same record { name = same_name old; pages = omega arith }

pub goes_on : (one two three : Seen) → Goes one two → Goes two three → Goes one three
goes_on one two three first second = record { name = name_on one two three first.name second.name; pages = omega (arith, first.pages, second.pages) }

goes_turned : (place : ℕ) (turned : Lease) (old new : Seen) → Turns place turned old new → Goes old new
goes_turned place turned old new turns = record { name = turns.name; pages = rw turns.heap (omega arith) }

dropped_size : (segments : List Segment) (id : ℕ) → size_of (filter (λ segment. not (has_id id segment)) segments) ≤ size_of segments
dropped_size segments id =
    omega (arith, sum_by-filter_both (λ (segment : Segment). not (has_id id segment)) (λ segment. not (not (has_id id segment))) (λ _. refl) (λ (segment : Segment). segment.pages) segments)

goes_lost : (place : ℕ) (side : Owned) (old new : Seen) → Loses place side old new → Goes old new
goes_lost place side old new loses = record {
  name = loses.leaves.name;
  pages = rw loses.leaves.heap.segments (dropped_size old.heap.segments side.id);
}

goes_after : (told : Lock) (place : ℕ) (turned : Lease) (old new : Seen) → AfterPagesLock told place turned old new → Goes old new
goes_after Held place turned old new after = goes_turned place turned old new after
goes_after Gone place turned old new after = goes_lost place turned.side old new after

pub goes_run : (run : Run) (told : Lock) (old new : Seen) → LocksRun run told old new → Goes old new
goes_run run told old new locks = goes_after told locks.place locks.turned old new locks.after

pub goes_locked : (part : Part) (told : Lock) (old new : Seen) → LocksPart part told old new → Goes old new
goes_locked part told old new locks =
    elim locks [
      | inl live ↦ goes_run part.run told old new live.1
      | inr dead ↦ goes_same old new dead.2
    ]

-- where a lock of a piece is held, nothing more is known to be gone
gone_after : (told : Lock) (place : ℕ) (turned : Lease) (old new : Seen) → told ≡ Held → AfterPagesLock told place turned old new → new.gone ≡ old.gone
gone_after Held place turned old new is after = after.gone.gone
gone_after Gone place turned old new is after = absurd (differ is)
  where
    differ : Gone ≡ Held → ⊥
    differ e = cc

pub locked_gone : (part : Part) (old new : Seen) → LocksPart part Held old new → new.gone ≡ old.gone
locked_gone part old new locks =
    elim locks [
      | inl live ↦ gone_after Held live.1.place live.1.turned old new refl live.1.after
      | inr dead ↦ ap (λ (seen : Seen). seen.gone) dead.2
    ]

-- nothing came or went, and nothing more is known to be gone
pub record Unmoved (old new : Seen) : Type 0 where
  pub goes : Goes old new
  pub gone : new.gone ≡ old.gone

unmoved_same : (old new : Seen) → new ≡ old → Unmoved old new
unmoved_same old new same = record { goes = goes_same old new same; gone = ap (λ (seen : Seen). seen.gone) same }

unmoved_on : (one two three : Seen) → Unmoved one two → Unmoved two three → Unmoved one three
unmoved_on one two three first second = record { goes = goes_on one two three first.goes second.goes; gone = second.gone ∙ first.gone }

pub unmoved_unlocked : (run : Run) (now : ℕ) (told : Unlocked) (old new : Seen) → UnlocksRun run now told old new → Unmoved old new
unmoved_unlocked run now told old new unlocks = record { goes = goes_turned unlocks.place unlocks.turned old new unlocks.turns; gone = unlocks.turns.gone.gone }

pub heap_unlocked : (run : Run) (now : ℕ) (told : Unlocked) (old new : Seen) → UnlocksRun run now told old new → new.heap ≡ old.heap
heap_unlocked run now told old new unlocks = unlocks.turns.heap

unmoved_run : (run : Run) (old new : Seen) → FreesRun run old new → Unmoved old new
unmoved_run run old new frees = record {
  goes = record {
    name = record { number = ap (λ (seen : Seen). seen.number) frees.same; standard = ap (λ (seen : Seen). seen.standard) frees.same };
    pages = rw frees.heap.segments (omega arith);
  };
  gone = ap (λ (seen : Seen). seen.gone) frees.same;
}

unmoved_set : (b : Bool) (part : Part) (now : ℕ) (old new : Seen) → MatchBool b ((told : Unlocked) × UnlocksRun part.run now told old new) (new ≡ old) → Unmoved old new
unmoved_set true part now old new unlocks = unmoved_unlocked part.run now unlocks.0 old new unlocks.1
unmoved_set false part now old new same = unmoved_same old new same

pub unmoved_freed : (told : Bool) (part : Part) (now : ℕ) (old new : Seen) → AfterFree told part now old new → Unmoved old new
unmoved_freed true part now old new frees =
    unmoved_on old frees.1.between new (unmoved_set part.locked part now old frees.1.between frees.1.unlocks) (unmoved_run part.run frees.1.between new frees.1.frees)
unmoved_freed false part now old new frees = unmoved_same old new frees.1

-- a search and an allocation keep the name
name_carved : (run : Run) (pages : ℕ) (old new : Seen) → Carves run pages old new → KeepsName old new
name_carved run pages old new carves = record { number = ap (λ (seen : Seen). seen.number) carves.same; standard = ap (λ (seen : Seen). seen.standard) carves.same }

name_served : (picked : Option Run) (pages : ℕ) (found : Option Part) (old new : Seen) → Serves picked pages found old new → KeepsName old new
name_served None pages found old new serves = rw serves.1 (same_name old)
name_served (Some run) pages found old new serves =
    name_on old serves.1 new (name_carved run pages old serves.1 serves.2) (goes_run _ Held serves.1 new serves.3).name

pub name_found : (pages : ℕ) (lost : List ℕ) (found : Option Part) (old new : Seen) → Finds pages lost found old new → KeepsName old new
name_found pages [] found old new finds = name_served (pick old.heap.free pages (slack_of old pages)) pages found old new finds
name_found pages (id ∷ lost) found old new (run, carved, between, picked, number, carves, locks, later) =
    name_on old carved new (name_carved run pages old carved carves) (name_on carved between new (goes_run _ Gone carved between locks).name (name_found pages lost found between new later))

pub name_allocated : (pages : ℕ) (part : Part) (old new : Seen) → Allocates pages part old new → KeepsName old new
name_allocated pages part old new allocates =
    elim allocates [
      | inl found ↦ name_found pages found.0 (Some part) old new found.1
      | inr grows ↦
          let told : KeepsName grows.releases.swept grows.released = record { number = ap (λ (seen : Seen). seen.number) grows.releases.told; standard = ap (λ (seen : Seen). seen.standard) grows.releases.told } in
          name_on old grows.missed new (name_found pages grows.lost None old grows.missed grows.finds) (
          name_on grows.missed grows.releases.swept new grows.releases.sweeps.name (name_on grows.releases.swept grows.released new told grows.grown.adopts.name)
          )
    ]

-- what was known to be gone still is, where the gone ones include those of before
pub has_counted : (sides : List Owned) (id : ℕ) → has_side sides id ≡ true → 1 ≤ sum_by (λ (side : Owned). cond {A = ℕ} (is_side id side) 1 0) sides
has_counted [] id has = cc
has_counted (side ∷ sides) id has = go (is_side id side) refl has (has_counted sides id)
  where
    go : (b : Bool) → is_side id side ≡ b → (b || has_side sides id) ≡ true → (has_side sides id ≡ true → 1 ≤ sum_by (λ (side : Owned). cond {A = ℕ} (is_side id side) 1 0) sides)
        → 1 ≤ sum_by (λ (side : Owned). cond {A = ℕ} (is_side id side) 1 0) (side ∷ sides)
    go true is has rest =
        let one : cond {A = ℕ} (is_side id side) 1 0 ≡ 1 = rw is refl in
        omega (arith, one, sum_by-cons (λ (side : Owned). cond {A = ℕ} (is_side id side) 1 0) side sides)
    go false is has rest = omega (arith, rest has, sum_by-cons (λ (side : Owned). cond {A = ℕ} (is_side id side) 1 0) side sides)

counted_none : (sides : List Owned) (id : ℕ) → has_side sides id ≡ false → sum_by (λ (side : Owned). cond {A = ℕ} (is_side id side) 1 0) sides ≡ 0
counted_none [] id none = refl
counted_none (side ∷ sides) id none =
    let parts = or_parts (is_side id side) (has_side sides id) none in
    let one : cond {A = ℕ} (is_side id side) 1 0 ≡ 0 = rw parts.0 refl in
    omega (arith, one, counted_none sides id parts.1, sum_by-cons (λ (side : Owned). cond {A = ℕ} (is_side id side) 1 0) side sides)

pub still_gone : (old new : List Owned) (id : ℕ) → Includes old new → has_side old id ≡ true → has_side new id ≡ true
still_gone old new id includes has =
    true_from_ne_false _ (λ none. absurd (omega (arith, has_counted old id has, counted_none new id none, includes (λ (side : Owned). cond {A = ℕ} (is_side id side) 1 0))))
