-- Through the steps of a client it knows the same segments, by number and pages, until one comes.
use Rattle.std.proofs.Common.{◌≡◌, ℕ, ◌+◌, Bool, true, false, cond, List, [], ◌∷◌, ◌++◌, map, Option, Some, None, refl, ap, ap₂, ◌∙◌, inl, inr, arith}
use Rattle.std.specs.List.{sum_by, slice_get, slice_set, remove}
use Rattle.std.specs.Bool.{MatchBool}
use Rattle.std.proofs.lemmas.Bool.{or_left}
use Rattle.std.proofs.lemmas.List.Folds.{list_any-append}
use Rattle.std.proofs.lemmas.List.Sums.{sum_by-set, sum_by-remove, sum_by_push, sum_by-append, sum_by-cons}
use Rattle.std.proofs.lemmas.Option.{slice_get_within, get_or_from_slice_get}
use Rattle.segment.specs.Owned.{Owned, AfterLock, AfterLook}
use Rattle.segment.specs.declared.owner.Phase.{Phase}
use Rattle.segment.specs.declared.owner.Phase.TheVariants as phase
use Rattle.segment.specs.declared.owner.Lock.{Lock}
use Rattle.segment.specs.declared.owner.Lock.TheVariants.{Held, Gone}
use Rattle.span_heap.specs.declared.run.Run.{Run}
use Rattle.span_heap.specs.Pick.{pick}
use Rattle.client.specs.Gone.{has_side, is_side}
use Rattle.client.specs.Lease.{Lease, TellsUnlock, is_in_use, with_bytes}
use Rattle.client.specs.Seen.{Seen, is_gone, is_lease}
use Rattle.client.specs.Pieces.{Part, written_run}
use Rattle.client.specs.Calls.{Turns, Loses, LocksRun, AfterPagesLock, LocksPart, UnlocksRun, FreesRun, AfterFree}
use Rattle.client.specs.declared.answers.Unlocked.{Unlocked}
use Rattle.client.specs.declared.answers.Unlocked.TheVariants as answer
use Rattle.client.specs.Finding.{Finds, Serves, Carves, Sweeps, SweepsAll, slack_of}
use Rattle.client.specs.Granting.{Releases, Grows, GrowsBy, granted_pages}
use Rattle.tile_cache.specs.Accounts.{over_segments, SameSegments}

pub segments_on : (one two three : Seen) → SameSegments one two → SameSegments two three → SameSegments one three
segments_on one two three first second = record {
  sums = λ tells. second.sums tells ∙ first.sums tells;
  gone = λ id was. second.gone id (first.gone id was);
  name = second.name ∙ first.name;
}

-- the same lists
pub segments_lists : (old new : Seen) → new.leases ≡ old.leases → new.gone ≡ old.gone → new.standard ≡ old.standard → SameSegments old new
segments_lists old new leases gone name = record {
  sums = λ tells. rw (leases, gone) refl;
  gone = λ id was. rw gone was;
  name = name;
}

pub segments_same : (old new : Seen) → new ≡ old → SameSegments old new
segments_same old new is = segments_lists old new (ap (λ (s : Seen). s.leases) is) (ap (λ (s : Seen). s.gone) is) (ap (λ (s : Seen). s.standard) is)

-- a side keeps its number and its pages
record KeepsSide (old new : Owned) : Type 0 where
  same : new.id ≡ old.id
  pages : new.pages ≡ old.pages

kept_side_is : (old new : Owned) → new ≡ old → KeepsSide old new
kept_side_is old new is = record { same = ap (λ (s : Owned). s.id) is; pages = ap (λ (s : Owned). s.pages) is }

side_locked : (was : Phase) (told : Lock) (old new : Owned) → AfterLock was told old new → KeepsSide old new
side_locked phase.Gone told old new after = kept_side_is old new after.1
side_locked phase.Held Held old new after = record { same = ap (λ (s : Owned). s.id) after; pages = ap (λ (s : Owned). s.pages) after }
side_locked phase.Held Gone old new after = record { same = ap (λ (s : Owned). s.id) after; pages = ap (λ (s : Owned). s.pages) after }
side_locked phase.Idle Held old new after = record { same = ap (λ (s : Owned). s.id) after; pages = ap (λ (s : Owned). s.pages) after }
side_locked phase.Idle Gone old new after = record { same = ap (λ (s : Owned). s.id) after; pages = ap (λ (s : Owned). s.pages) after }

side_after_lock : (used : Bool) (told : Lock) (old new : Owned) → MatchBool used ((told ≡ Held) × (new ≡ old)) (AfterLock old.phase told old new) → KeepsSide old new
side_after_lock true told old new after = kept_side_is old new after.1
side_after_lock false told old new after = side_locked old.phase told old new after

side_unlocked : (now : ℕ) (told : Unlocked) (old new : Lease) → TellsUnlock now old new told → KeepsSide old.side new.side
side_unlocked now (answer.Idle at) old new tells = record { same = ap (λ (s : Owned). s.id) tells.1; pages = ap (λ (s : Owned). s.pages) tells.1 }
side_unlocked now (answer.Held pages) old new tells = kept_side_is old.side new.side tells.2

look_again : (there : Bool) (old new : Owned) → MatchBool there (new ≡ record old { steps = old.steps + 1 }) (new ≡ record old { phase = phase.Gone; steps = old.steps + 1 }) → KeepsSide old new
look_again true old new after = record { same = ap (λ (s : Owned). s.id) after; pages = ap (λ (s : Owned). s.pages) after }
look_again false old new after = record { same = ap (λ (s : Owned). s.id) after; pages = ap (λ (s : Owned). s.pages) after }

side_looked : (was : Phase) (there : Bool) (old new : Owned) → AfterLook was there old new → KeepsSide old new
side_looked phase.Held there old new after = kept_side_is old new after.1
side_looked phase.Gone there old new after = kept_side_is old new after.1
side_looked phase.Idle there old new after = look_again there old new after

-- a sum stays where one element is set anew that tells the same, and falls by what one tells that leaves
sum_set : {X : Type 0} (f : X → ℕ) (xs : List X) (p : ℕ) (x y : X) → slice_get xs p ≡ Some x → f y ≡ f x → sum_by f (slice_set xs p y) ≡ sum_by f xs
sum_set f xs p x y at same =
    omega (arith, sum_by-set f xs p y x (slice_get_within xs p x at), ap f (get_or_from_slice_get xs p x x at), same)

sum_left : {X : Type 0} (f : X → ℕ) (xs : List X) (p : ℕ) (x : X) → slice_get xs p ≡ Some x → sum_by f (remove xs p) + f x ≡ sum_by f xs
sum_left f xs p x at = omega (arith, sum_by-remove f xs p x (slice_get_within xs p x at), ap f (get_or_from_slice_get xs p x x at))

-- what was gone is so where more are gone
gone_more : (sides more : List Owned) (id : ℕ) → has_side sides id ≡ true → has_side (sides ++ more) id ≡ true
gone_more sides more id was = list_any-append (is_side id) sides more ∙ or_left (has_side sides id) (has_side more id) was

same_turned : (place : ℕ) (lease turned : Lease) (old new : Seen) → slice_get old.leases place ≡ Some lease → KeepsSide lease.side turned.side → Turns place turned old new → SameSegments old new
same_turned place lease turned old new at keeps turns = record {
  sums = λ tells.
      let tell : Lease → ℕ = λ (l : Lease). tells l.side.id l.side.pages in
      rw (turns.leases, turns.gone.gone) (omega (arith, sum_set tell old.leases place lease turned at (ap₂ tells keeps.same keeps.pages)));
  gone = λ id was. rw turns.gone.gone was;
  name = turns.name.standard;
}

same_lost : (place : ℕ) (lease : Lease) (side : Owned) (old new : Seen) → slice_get old.leases place ≡ Some lease → KeepsSide lease.side side → Loses place side old new → SameSegments old new
same_lost place lease side old new at keeps loses = record {
  sums = λ tells.
      let tell : Lease → ℕ = λ (l : Lease). tells l.side.id l.side.pages in
      let tell_side : Owned → ℕ = λ (s : Owned). tells s.id s.pages in
      let same : tell_side side ≡ tell lease = ap₂ tells keeps.same keeps.pages in
      rw (loses.leaves.leases, loses.gone) (omega (arith, sum_left tell old.leases place lease at, sum_by_push tell_side old.gone side, same));
  gone = λ id was. rw loses.gone (gone_more old.gone (side ∷ []) id was);
  name = loses.leaves.name.standard;
}

same_after : (told : Lock) (place : ℕ) (lease turned : Lease) (old new : Seen) → slice_get old.leases place ≡ Some lease → KeepsSide lease.side turned.side → AfterPagesLock told place turned old new → SameSegments old new
same_after Held place lease turned old new at keeps after = same_turned place lease turned old new at keeps after
same_after Gone place lease turned old new at keeps after = same_lost place lease turned.side old new at keeps after

same_run : (run : Run) (told : Lock) (old new : Seen) → LocksRun run told old new → SameSegments old new
same_run run told old new locks =
    same_after told locks.place locks.lease locks.turned old new locks.stood (side_after_lock (is_in_use locks.lease) told locks.lease.side locks.turned.side locks.locks.side) locks.after

pub same_locked : (part : Part) (told : Lock) (old new : Seen) → LocksPart part told old new → SameSegments old new
same_locked part told old new locks =
    elim locks [
      | inl live ↦ same_run part.run told old new live.1
      | inr dead ↦ segments_same old new dead.2
    ]

pub same_unlocked : (run : Run) (now : ℕ) (told : Unlocked) (old new : Seen) → UnlocksRun run now told old new → SameSegments old new
same_unlocked run now told old new unlocks =
    same_turned unlocks.place unlocks.lease unlocks.turned old new unlocks.stood (side_unlocked now told unlocks.lease unlocks.turned unlocks.locks.side) unlocks.turns

same_set : (b : Bool) (part : Part) (now : ℕ) (old new : Seen) → MatchBool b ((told : Unlocked) × UnlocksRun part.run now told old new) (new ≡ old) → SameSegments old new
same_set true part now old new unlocks = same_unlocked part.run now unlocks.0 old new unlocks.1
same_set false part now old new same = segments_same old new same

same_frees : (run : Run) (old new : Seen) → FreesRun run old new → SameSegments old new
same_frees run old new frees = segments_lists old new (ap (λ (s : Seen). s.leases) frees.same) (ap (λ (s : Seen). s.gone) frees.same) (ap (λ (s : Seen). s.standard) frees.same)

pub same_freed : (told : Bool) (part : Part) (now : ℕ) (old new : Seen) → AfterFree told part now old new → SameSegments old new
same_freed true part now old new frees =
    segments_on old frees.1.between new (same_set part.locked part now old frees.1.between frees.1.unlocks) (same_frees part.run frees.1.between new frees.1.frees)
same_freed false part now old new frees = segments_same old new frees.1

-- a segment after a write to a run
abbrev after_write : Run → List ℕ → Lease → Lease
after_write run w lease = cond (is_lease run.segment lease) (with_bytes run.first w lease) lease

-- a write
pub same_written : (run : Run) (w : List ℕ) (seen : Seen) → SameSegments seen (written_run seen run w)
same_written run w seen = record {
  sums = λ tells. ap (λ n. n + sum_by (λ (s : Owned). tells s.id s.pages) seen.gone) (written tells seen.leases);
  gone = λ id was. was;
  name = refl;
}
  where
    written : (tells : ℕ → ℕ → ℕ) (leases : List Lease) → sum_by (λ (l : Lease). tells l.side.id l.side.pages) (map (after_write run w) leases) ≡ sum_by (λ (l : Lease). tells l.side.id l.side.pages) leases
    written tells [] = refl
    written tells (lease ∷ leases) =
        omega (
          arith,
          one (is_lease run.segment lease),
          written tells leases,
          sum_by-cons (λ (l : Lease). tells l.side.id l.side.pages) (after_write run w lease) (map (after_write run w) leases),
          sum_by-cons (λ (l : Lease). tells l.side.id l.side.pages) lease leases,
        )
      where
        one : (b : Bool) → tells (cond b (with_bytes run.first w lease) lease).side.id (cond b (with_bytes run.first w lease) lease).side.pages ≡ tells lease.side.id lease.side.pages
        one true = refl
        one false = refl

-- a search
same_carved : (run : Run) (pages : ℕ) (old new : Seen) → Carves run pages old new → SameSegments old new
same_carved run pages old new carves = segments_lists old new (ap (λ (s : Seen). s.leases) carves.same) (ap (λ (s : Seen). s.gone) carves.same) (ap (λ (s : Seen). s.standard) carves.same)

same_served : (picked : Option Run) (pages : ℕ) (found : Option Part) (old new : Seen) → Serves picked pages found old new → SameSegments old new
same_served None pages found old new serves = segments_same old new serves.1
same_served (Some run) pages found old new serves =
    segments_on old serves.1 new (same_carved run pages old serves.1 serves.2) (same_run _ Held serves.1 new serves.3)

pub same_found : (pages : ℕ) (lost : List ℕ) (found : Option Part) (old new : Seen) → Finds pages lost found old new → SameSegments old new
same_found pages [] found old new finds = same_served (pick old.heap.free pages (slack_of old pages)) pages found old new finds
same_found pages (id ∷ lost) found old new (run, carved, between, picked, number, carves, locks, later) =
    segments_on old carved new (same_carved run pages old carved carves) (segments_on carved between new (same_run _ Gone carved between locks) (same_found pages lost found between new later))

-- a sweep: each segment stays, or is gone
swept_sum : (tells : ℕ → ℕ → ℕ) (leases kept : List Lease) (lost : List Owned) → Sweeps leases kept lost
    → sum_by (λ (l : Lease). tells l.side.id l.side.pages) kept + sum_by (λ (s : Owned). tells s.id s.pages) lost ≡ sum_by (λ (l : Lease). tells l.side.id l.side.pages) leases
swept_sum tells [] kept lost (a, b) = rw (a, b) refl
swept_sum tells (lease ∷ leases) kept lost (true, looked, looks, (later, is, sweeps)) =
    let keeps = side_looked lease.side.phase true lease.side looked.side looks.side in
    let same : tells looked.side.id looked.side.pages ≡ tells lease.side.id lease.side.pages = ap₂ tells keeps.same keeps.pages in
    rw is (omega (
      arith,
      same,
      swept_sum tells leases later lost sweeps,
      sum_by-cons (λ (l : Lease). tells l.side.id l.side.pages) looked later,
      sum_by-cons (λ (l : Lease). tells l.side.id l.side.pages) lease leases,
    ))
swept_sum tells (lease ∷ leases) kept lost (false, looked, looks, (later, is, sweeps)) =
    let keeps = side_looked lease.side.phase false lease.side looked.side looks.side in
    let same : tells looked.side.id looked.side.pages ≡ tells lease.side.id lease.side.pages = ap₂ tells keeps.same keeps.pages in
    rw is (omega (
      arith,
      same,
      swept_sum tells leases kept later sweeps,
      sum_by-cons (λ (s : Owned). tells s.id s.pages) looked.side later,
      sum_by-cons (λ (l : Lease). tells l.side.id l.side.pages) lease leases,
    ))

same_swept : (lost : List Owned) (old new : Seen) → SweepsAll lost old new → SameSegments old new
same_swept lost old new sweeps = record {
  sums = λ tells. rw sweeps.gone (omega (arith, swept_sum tells old.leases new.leases lost sweeps.leases, sum_by-append (λ (s : Owned). tells s.id s.pages) old.gone lost));
  gone = λ id was. rw sweeps.gone (gone_more old.gone lost id was);
  name = sweeps.name.standard;
}

same_released : (lost : List Owned) (old new : Seen) → Releases lost old new → SameSegments old new
same_released lost old new releases =
    let told = releases.told in
    segments_on old releases.swept new (same_swept lost old releases.swept releases.sweeps)
    (segments_lists releases.swept new (ap (λ (s : Seen). s.leases) told) (ap (λ (s : Seen). s.gone) told) (ap (λ (s : Seen). s.standard) told))

-- before a segment comes, the client knows the same
pub same_before : (pages : ℕ) (part : Part) (old new : Seen) (grows : Grows pages part old new) → SameSegments old grows.released
same_before pages part old new grows =
    segments_on old grows.missed grows.released (same_found pages grows.lost None old grows.missed grows.finds) (same_released grows.swept grows.missed grows.released grows.releases)

-- one segment more
pub record OneMore (id pages : ℕ) (old new : Seen) : Type 0 where
  pub sums : (tells : ℕ → ℕ → ℕ) → over_segments tells new ≡ over_segments tells old + tells id pages
  pub gone : (one : ℕ) → is_gone old one ≡ true → is_gone new one ≡ true
  pub name : new.standard ≡ old.standard

pub one_came : (pages : ℕ) (part : Part) (old new : Seen) (grows : GrowsBy pages part old new) → OneMore grows.side.id (granted_pages old pages) old new
one_came pages part old new grows = record {
  sums = λ tells.
      let tell : Lease → ℕ = λ (l : Lease). tells l.side.id l.side.pages in
      let last : tell grows.adopts.lease ≡ tells grows.side.id (granted_pages old pages) = ap₂ tells (ap (λ (s : Owned). s.id) grows.adopts.side_is) (ap (λ (s : Owned). s.pages) grows.adopts.side_is ∙ grows.granted.sized) in
      rw (grows.adopts.leases, grows.adopts.gone) (omega (arith, sum_by_push tell old.leases grows.adopts.lease, last));
  gone = λ id was. rw grows.adopts.gone was;
  name = grows.adopts.name.standard;
}
