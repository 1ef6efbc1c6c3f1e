-- A search, round by round.
use Rattle.std.proofs.Common.{◌≡◌, ℕ, ◌<◌, true, List, [], ◌∷◌, length, Option, Some, None, refl, sym, ap, ap₂, subst, ◌∙◌, arith}
use Rattle.std.specs.Option.{MatchOption}
use Rattle.std.proofs.lemmas.Option.{same_Some, none-some}
use Rattle.segment.specs.declared.owner.Lock.TheVariants.{Held, Gone}
use Rattle.span_heap.specs.declared.run.Run.{Run}
use Rattle.span_heap.specs.Runs.{front_of}
use Rattle.span_heap.specs.Pick.{pick}
use Rattle.client.specs.Seen.{Seen}
use Rattle.client.specs.Pieces.{Part, AllStay, IsFresh, IsNew, LocksSo}
use Rattle.client.specs.Calls.{LocksRun}
use Rattle.client.specs.Finding.{Carves, CarvesPick, Finds, slack_of, part_of}
use Rattle.client.proofs.PieceCalls.{stay_beside, apart_is_other, new_piece, all_on}
use Rattle.client.proofs.PiecesStay.{stays_as_it_is}

-- what is found from now on is what is found from the start, and each piece stayed so far
pub record Searching (pages : ℕ) (start now : Seen) : Type 0 where
  pub more : (rest : List ℕ) (found : Option Part) (new : Seen) → Finds pages rest found now new → (lost : List ℕ) × Finds pages lost found start new
  pub stay : AllStay start now

pub searching_start : (pages : ℕ) (seen : Seen) → Searching pages seen seen
searching_start pages seen = record { more = λ rest found new finds. (rest, finds); stay = stays_as_it_is seen }

none_is_not_some : (run : Run) → None ≡ Some run → ⊥
none_is_not_some run e = none-some run e

-- the run that was carved
record Carved (pages : ℕ) (span : Run) (old new : Seen) : Type 0 where
  run : Run
  picked : pick old.heap.free pages (slack_of old pages) ≡ Some run
  front : span ≡ front_of run pages
  carves : Carves run pages old new

carved_run : (pages : ℕ) (span : Run) (old new : Seen) (picked : Option Run) → pick old.heap.free pages (slack_of old pages) ≡ picked
    → MatchOption picked ((Some span ≡ None) × (new ≡ old)) (λ run. (Some span ≡ Some (front_of run pages)) × Carves run pages old new) → Carved pages span old new
carved_run pages span old new None is carves = absurd (none_is_not_some span (sym carves.0))
carved_run pages span old new (Some run) is carves = record { run = run; picked = is; front = same_Some span (front_of run pages) carves.0; carves = carves.1 }

-- the segment of the run was found gone
pub searching_on : (pages : ℕ) (start now carved next : Seen) (span : Run) → Searching pages start now → CarvesPick pages (Some span) now carved → IsFresh span now carved → AllStay now carved → LocksRun span Gone carved next → LocksSo Gone span carved next → Searching pages start next
searching_on pages start now carved next span searching picks fresh stay locks so =
    let at = carved_run pages span now carved (pick now.heap.free pages (slack_of now pages)) refl picks in
    record {
      more = λ rest found new finds.
          searching.more (at.run.segment ∷ rest) found new (at.run, carved, next, at.picked, refl, at.carves, subst (λ (r : Run). LocksRun r Gone carved next) at.front locks, finds);
      stay = all_on start now next searching.stay
          (stay_beside now carved next Gone span stay fresh so (λ other owns. apart_is_other span other.run fresh.used.pages.some (fresh.apart other owns)));
    }

-- there are fewer segments then
pub searching_fewer : (pages : ℕ) (now carved next : Seen) (span : Run) → CarvesPick pages (Some span) now carved → LocksRun span Gone carved next → length next.leases < length now.leases
searching_fewer pages now carved next span picks locks =
    let at = carved_run pages span now carved (pick now.heap.free pages (slack_of now pages)) refl picks in
    let same : length carved.leases ≡ length now.leases = ap (λ (s : Seen). length s.leases) at.carves.same in
    omega (arith, same, locks.after.leaves.fewer)

-- no run fits
none_left : (pages : ℕ) (old new : Seen) (span picked : Option Run) → span ≡ None → pick old.heap.free pages (slack_of old pages) ≡ picked
    → MatchOption picked ((span ≡ None) × (new ≡ old)) (λ run. (span ≡ Some (front_of run pages)) × Carves run pages old new) → Finds pages [] None old new
none_left pages old new span None none is carves = rw is (refl, carves.1)
none_left pages old new span (Some run) none is carves = absurd (none_is_not_some (front_of run pages) (sym none ∙ carves.0))

pub searching_none : (pages : ℕ) (start now new : Seen) → Searching pages start now → CarvesPick pages None now new → (lost : List ℕ) × Finds pages lost None start new
searching_none pages start now new searching picks =
    searching.more [] None new (none_left pages now new None (pick now.heap.free pages (slack_of now pages)) refl refl picks)

-- a run served
pub searching_found : (pages : ℕ) (start now carved new : Seen) (span : Run) (part : Part) → Searching pages start now → CarvesPick pages (Some span) now carved → IsFresh span now carved → AllStay now carved → LocksRun span Held carved new → LocksSo Held span carved new
    → part ≡ record { client = new.number; run = span; locked = true }
    → ((lost : List ℕ) × Finds pages lost (Some part) start new) × IsNew pages start new part × AllStay start new
searching_found pages start now carved new span part searching picks fresh stay locks so is =
    let at = carved_run pages span now carved (pick now.heap.free pages (slack_of now pages)) refl picks in
    let number : new.number ≡ now.number = locks.after.name.number ∙ ap (λ (s : Seen). s.number) at.carves.same in
    let part_is : part ≡ part_of now at.run pages = is ∙ ap₂ (λ (n : ℕ) (r : Run). record { client = n; run = r; locked = true }) number at.front in (
      searching.more [] (Some part) new (rw at.picked (ap (λ (p : Part). Some p) part_is, carved, at.carves, subst (λ (r : Run). LocksRun r Held carved new) at.front locks)),
      rw is (new_piece start now carved new pages (record { client = new.number; run = span; locked = true }) searching.stay fresh locks so locks.after.name.number refl (ap (λ (r : Run). r.pages) at.front)),
      all_on start now new searching.stay
          (stay_beside now carved new Held span stay fresh so (λ other owns. apart_is_other span other.run fresh.used.pages.some (fresh.apart other owns))),
    )
