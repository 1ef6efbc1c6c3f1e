-- What a client owes stays through its calls, and is less by one for each return.
use Rattle.std.proofs.Common.{◌≡◌, ℕ, ◌+◌, ◌-◌, ◌≤◌, Bool, true, false, List, [], ◌∷◌, length, Option, Some, None, refl, sym, ap, ◌∙◌, inl, inr, arith, length-append}
use Rattle.std.proofs.lemmas.List.Sums.{sum_by_push, sum_by-append}
use Rattle.client.specs.Gone.{Includes}
use Rattle.std.specs.Bool.{MatchBool}
use Rattle.std.specs.List.{All, slice_get}
use Rattle.std.proofs.lemmas.List.{length-set}
use Rattle.std.proofs.lemmas.List.Elements.{All-append, All-set, All-push, All-cons, All-head, All-tail, All-nil}
use Rattle.segment.specs.Owned.{Owned}
use Rattle.segment.specs.declared.owner.Lock.{Lock}
use Rattle.segment.specs.declared.owner.Lock.TheVariants.{Held, Gone}
use Rattle.span_heap.specs.declared.run.Run.{Run}
use Rattle.span_heap.specs.Pick.{pick}
use Rattle.client.specs.Lease.{Lease}
use Rattle.client.specs.Seen.{Seen}
use Rattle.client.specs.Pieces.{Part}
use Rattle.client.specs.Calls.{Turns, Loses, LocksRun, LocksPart, UnlocksRun, AfterFree}
use Rattle.client.specs.Finding.{Finds, Serves, Carves, Sweeps, SweepsAll}
use Rattle.client.specs.Granting.{owed, IsBelow}
use Rattle.client.specs.declared.answers.Unlocked.{Unlocked}
use Rattle.client.proofs.Rows.{All-at, All-remove}
use Rattle.client.proofs.LeaseSteps.{looked_so}

-- as much is owed as before, and no number came that is greater
pub record KeepsDebt (old new : Seen) : Type 0 where
  pub owed : old.told ≤ length old.gone → owed new ≡ owed old
  pub known : (bound : ℕ) → IsBelow bound old → IsBelow bound new
  pub told : old.told ≤ length old.gone → new.told ≤ length new.gone
  pub gone : Includes old.gone new.gone

pub debt_same : (seen : Seen) → KeepsDebt seen seen
debt_same seen = record { owed = λ _. refl; known = λ bound below. below; told = λ t. t; gone = λ weight. omega arith }

pub debt_on : (one two three : Seen) → KeepsDebt one two → KeepsDebt two three → KeepsDebt one three
debt_on one two three first second =
    record {
      owed = λ t. second.owed (first.told t) ∙ first.owed t;
      known = λ bound below. second.known bound (first.known bound below);
      told = λ t. second.told (first.told t);
      gone = λ weight. omega (arith, first.gone weight, second.gone weight);
    }

-- the same segments and sides
pub debt_lists : (old new : Seen) → new.leases ≡ old.leases → new.gone ≡ old.gone → new.told ≡ old.told → KeepsDebt old new
debt_lists old new leases gone told =
    record {
      owed = λ t. rw (leases, gone, told) refl;
      known = λ bound below. record { leases = rw leases below.leases; gone = rw gone below.gone };
      told = λ t. rw (gone, told) t;
      gone = λ weight. rw gone (omega arith);
    }

pub debt_turned : (old new : Seen) (p : ℕ) (lease turned : Lease) → slice_get old.leases p ≡ Some lease → turned.side.id ≡ lease.side.id → Turns p turned old new → KeepsDebt old new
debt_turned old new p lease turned at same turns =
    let gone = turns.gone.gone in
    let told = turns.gone.told in
    record {
      owed = λ t. omega (arith, ap length turns.leases, length-set old.leases p turned, ap length gone, told);
      known = λ bound below. record {
        leases = rw turns.leases (All-set (λ (l : Lease). l.side.id ≤ bound) old.leases p turned (rw same (All-at (λ (l : Lease). l.side.id ≤ bound) old.leases p lease below.leases at)) below.leases);
        gone = rw gone below.gone;
      };
      told = λ t. rw (gone, told) t;
      gone = λ weight. rw gone (omega arith);
    }

pub debt_lost : (old new : Seen) (p : ℕ) (lease : Lease) (side : Owned) → slice_get old.leases p ≡ Some lease → side.id ≡ lease.side.id → Loses p side old new → KeepsDebt old new
debt_lost old new p lease side at same loses =
    let longer : length new.gone ≡ length old.gone + 1 = omega (arith, ap length loses.gone, length-append old.gone (side ∷ [])) in
    record {
      owed = λ t. omega (arith, t, longer, loses.told, loses.leaves.fewer);
      known = λ bound below. record {
        leases = rw loses.leaves.leases (All-remove (λ (l : Lease). l.side.id ≤ bound) old.leases p below.leases);
        gone = rw loses.gone (All-push (λ (s : Owned). s.id ≤ bound) old.gone side below.gone (rw same (All-at (λ (l : Lease). l.side.id ≤ bound) old.leases p lease below.leases at)));
      };
      told = λ t. omega (arith, t, longer, loses.told);
      gone = λ weight. rw loses.gone (omega (arith, sum_by_push weight old.gone side));
    }

pub debt_locked : (run : Run) (told : Lock) (old new : Seen) → LocksRun run told old new → KeepsDebt old new
debt_locked run Held old new locks = debt_turned old new locks.place locks.lease locks.turned locks.stood (locks.same ∙ sym locks.number) locks.after
debt_locked run Gone old new locks = debt_lost old new locks.place locks.lease locks.turned.side locks.stood (locks.same ∙ sym locks.number) locks.after

pub debt_unlocked : (run : Run) (now : ℕ) (told : Unlocked) (old new : Seen) → UnlocksRun run now told old new → KeepsDebt old new
debt_unlocked run now told old new unlocks = debt_turned old new unlocks.place unlocks.lease unlocks.turned unlocks.stood (unlocks.same ∙ sym unlocks.number) unlocks.turns

same_debt : (old new : Seen) → new ≡ old → KeepsDebt old new
same_debt old new is = rw is (debt_same old)

pub debt_lock : (part : Part) (told : Lock) (old new : Seen) → LocksPart part told old new → KeepsDebt old new
debt_lock part told old new (inl live) = debt_locked part.run told old new live.1
debt_lock part told old new (inr dead) = same_debt old new dead.2

debt_unlocks : (locked : Bool) (part : Part) (now : ℕ) (old new : Seen) → MatchBool locked ((told : Unlocked) × UnlocksRun part.run now told old new) (new ≡ old) → KeepsDebt old new
debt_unlocks true part now old new (told, unlocks) = debt_unlocked part.run now told old new unlocks
debt_unlocks false part now old new is = same_debt old new is

pub debt_free : (told : Bool) (part : Part) (now : ℕ) (old new : Seen) → AfterFree told part now old new → KeepsDebt old new
debt_free true part now old new (live, frees) =
    let last = ap (λ (s : Seen). s.leases) frees.frees.same in
    debt_on old frees.between new (debt_unlocks part.locked part now old frees.between frees.unlocks)
    (debt_lists frees.between new last (ap (λ (s : Seen). s.gone) frees.frees.same) (ap (λ (s : Seen). s.told) frees.frees.same))
debt_free false part now old new (dead, is) = same_debt old new is

pub debt_carved : (run : Run) (pages : ℕ) (old new : Seen) → Carves run pages old new → KeepsDebt old new
debt_carved run pages old new carves =
    debt_lists old new (ap (λ (s : Seen). s.leases) carves.same) (ap (λ (s : Seen). s.gone) carves.same) (ap (λ (s : Seen). s.told) carves.same)

debt_serves : (picked : Option Run) (pages : ℕ) (found : Option Part) (old new : Seen) → Serves picked pages found old new → KeepsDebt old new
debt_serves None pages found old new (none, is) = same_debt old new is
debt_serves (Some run) pages found old new (is, between, carves, locks) =
    debt_on old between new (debt_carved run pages old between carves) (debt_locked _ Held between new locks)

pub debt_found : (pages : ℕ) (lost : List ℕ) (found : Option Part) (old new : Seen) → Finds pages lost found old new → KeepsDebt old new
debt_found pages [] found old new finds = debt_serves (pick old.heap.free pages (old.standard - pages)) pages found old new finds
debt_found pages (id ∷ lost) found old new (run, carved, between, picked, number, carves, locks, finds) =
    debt_on old between new (debt_on old carved between (debt_carved run pages old carved carves) (debt_locked _ Gone carved between locks)) (debt_found pages lost found between new finds)

-- a sweep: a segment stays or is lost
record Swept (leases kept : List Lease) (lost : List Owned) : Type 0 where
  counted : length kept + length lost ≡ length leases
  known : (bound : ℕ) → All (λ (l : Lease). l.side.id ≤ bound) leases → All (λ (l : Lease). l.side.id ≤ bound) kept × All (λ (s : Owned). s.id ≤ bound) lost

swept : (leases kept : List Lease) (lost : List Owned) → Sweeps leases kept lost → Swept leases kept lost
swept [] kept lost (a, b) =
    rw (a, b) (record { counted = omega arith; known = λ bound all. (all, All-nil (λ (s : Owned). s.id ≤ bound)) })
swept (lease ∷ leases) kept lost (true, looked, looks, (later, is, sweeps)) =
    let rest = swept leases later lost sweeps in
    let so = looked_so true lease looked looks in
    rw is (record {
      counted = omega (arith, rest.counted);
      known = λ bound all.
          let more = rest.known bound (All-tail (λ (l : Lease). l.side.id ≤ bound) lease leases all) in
          (All-cons (λ (l : Lease). l.side.id ≤ bound) looked later (rw so.keeps.same (All-head (λ (l : Lease). l.side.id ≤ bound) lease leases all)) more.0, more.1);
    })
swept (lease ∷ leases) kept lost (false, looked, looks, (later, is, sweeps)) =
    let rest = swept leases kept later sweeps in
    let so = looked_so false lease looked looks in
    rw is (record {
      counted = omega (arith, rest.counted);
      known = λ bound all.
          let more = rest.known bound (All-tail (λ (l : Lease). l.side.id ≤ bound) lease leases all) in
          (more.0, All-cons (λ (s : Owned). s.id ≤ bound) looked.side later (rw so.keeps.same (All-head (λ (l : Lease). l.side.id ≤ bound) lease leases all)) more.1);
    })

pub debt_swept : (lost : List Owned) (old new : Seen) → SweepsAll lost old new → KeepsDebt old new
debt_swept lost old new sweeps =
    let so = swept old.leases new.leases lost sweeps.leases in
    let longer : length new.gone ≡ length old.gone + length lost = ap length sweeps.gone ∙ length-append old.gone lost in
    record {
      owed = λ t. omega (arith, t, longer, sweeps.told, so.counted);
      known = λ bound below.
          let parts = so.known bound below.leases in
          record { leases = parts.0; gone = rw sweeps.gone (All-append (λ (s : Owned). s.id ≤ bound) old.gone lost below.gone parts.1) };
      told = λ t. omega (arith, t, longer, sweeps.told);
      gone = λ weight. rw sweeps.gone (omega (arith, sum_by-append weight old.gone lost));
    }
