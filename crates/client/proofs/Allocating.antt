-- An allocation: the heap has no more pages after a search.
use Rattle.std.proofs.Common.{ℕ, ◌-◌, ◌≤◌, List, [], ◌∷◌, Option, Some, None, ap, arith, ◌∙◌, inl, inr, max}
use Rattle.std.proofs.Common.{◌+◌, ◌≡◌}
use Rattle.std.specs.List.{sum_by}
use Rattle.std.proofs.lemmas.List.Sums.{sum_by_push}
use Rattle.segment.specs.declared.owner.Lock.TheVariants.{Held, Gone}
use Rattle.span_heap.specs.declared.run.Run.{Run}
use Rattle.span_heap.specs.Pick.{pick}
use Rattle.span_heap.specs.Heap.{Contents, size_of}
use Rattle.client.specs.Seen.{Seen, segment_of}
use Rattle.client.specs.Pieces.{Part}
use Rattle.client.specs.Calls.{LocksRun}
use Rattle.client.specs.Finding.{Finds, Serves, Carves}
use Rattle.segment.specs.Owned.{Owned}
use Rattle.span_heap.specs.Segment.{Segment}
use Rattle.client.specs.Gone.{Includes}
use Rattle.std.specs.Prelude.{Result, Ok, Err, OnErr}
use Rattle.client.specs.declared.piece.Piece.{Piece}
use Rattle.client.specs.declared.granted.ClientFault.{ClientFault}
use Rattle.client.specs.declared.granted.ClientFault.TheVariants as fault
use Rattle.client.specs.Sizes.{wanted}
use Rattle.client.specs.Granting.{Session, Allocates, Grows, Misses, IsOutOfMemory, Releases, granted_pages}
use Rattle.client.proofs.Debts.{debt_found, debt_swept}
use Rattle.client.proofs.Sweeping.{size_dropped}

size : Seen → ℕ
size seen = size_of seen.heap.segments

size_carved : (run : Run) (pages : ℕ) (old new : Seen) → Carves run pages old new → size new ≤ size old
unfolding size
size_carved run pages old new carves = omega (arith, ap size_of carves.uses.segments)

size_held : (run : Run) (old new : Seen) → LocksRun run Held old new → size new ≤ size old
unfolding size
size_held run old new locks = omega (arith, ap (λ (h : Contents). size_of h.segments) locks.after.heap)

size_gone : (run : Run) (old new : Seen) → LocksRun run Gone old new → size new ≤ size old
unfolding size
size_gone run old new locks = size_dropped old.heap new.heap locks.turned.side.id locks.after.leaves.heap

size_serves : (picked : Option Run) (pages : ℕ) (found : Option Part) (old new : Seen) → Serves picked pages found old new → size new ≤ size old
unfolding size
size_serves None pages found old new (none, is) = omega (arith, ap (λ (s : Seen). size_of s.heap.segments) is)
size_serves (Some run) pages found old new (is, between, carves, locks) = omega (arith, size_carved run pages old between carves, size_held _ between new locks)

-- the heap has no more pages after a search
pub size_found : (pages : ℕ) (lost : List ℕ) (found : Option Part) (old new : Seen) → Finds pages lost found old new → size_of new.heap.segments ≤ size_of old.heap.segments
unfolding size
size_found pages [] found old new finds = size_serves (pick old.heap.free pages (old.standard - pages)) pages found old new finds
size_found pages (id ∷ lost) found old new (run, carved, between, picked, number, carves, locks, finds) =
    omega (arith, size_carved run pages old carved carves, size_gone _ carved between locks, size_found pages lost found between new finds)

-- what an allocation does to the pages of the heap, and to the gone sides
pub allocated : (pages : ℕ) (part : Part) (old new : Seen) → Allocates pages part old new → (size_of new.heap.segments ≤ size_of old.heap.segments + granted_pages old pages) × Includes old.gone new.gone
allocated pages part old new (inl found) = (
  omega (arith, size_found pages found.0 (Some part) old new found.1),
  (debt_found pages found.0 (Some part) old new found.1).gone,
)
allocated pages part old new (inr grows) =
    let standard : grows.released.standard ≡ old.standard = standard_kept pages old new part grows in
    let told : size_of grows.released.heap.segments ≡ size_of grows.releases.swept.heap.segments = ap (λ (s : Seen). size_of s.heap.segments) grows.releases.told in
    let gone : grows.released.gone ≡ grows.releases.swept.gone = ap (λ (s : Seen). s.gone) grows.releases.told in
    let grown = grows.grown in
    let pushed : size_of new.heap.segments ≡ size_of grows.released.heap.segments + grown.adopts.lease.side.pages = ap size_of grown.adopts.segments ∙ sum_by_push (λ (s : Segment). s.pages) grows.released.heap.segments (segment_of grown.adopts.lease) in
    let pages_are : grown.adopts.lease.side.pages ≡ max pages grows.released.standard = ap (λ (s : Owned). s.pages) grown.adopts.side_is ∙ grown.granted.sized in (
      omega (arith, size_found pages grows.lost None old grows.missed grows.finds, grows.releases.sweeps.size, told, pushed, pages_are, standard),
      λ weight. omega (
        arith,
        (debt_found pages grows.lost None old grows.missed grows.finds).gone weight,
        (debt_swept grows.swept grows.missed grows.releases.swept grows.releases.sweeps).gone weight,
        ap (sum_by weight) gone,
        ap (sum_by weight) grown.adopts.gone,
      ),
    )
  where
    name_found : (pages : ℕ) (lost : List ℕ) (found : Option Part) (old new : Seen) → Finds pages lost found old new → new.standard ≡ old.standard
    name_found pages [] found old new finds = name_serves (pick old.heap.free pages (old.standard - pages)) pages found old new finds
      where
        name_serves : (picked : Option Run) (pages : ℕ) (found : Option Part) (old new : Seen) → Serves picked pages found old new → new.standard ≡ old.standard
        name_serves None pages found old new (none, is) = ap (λ (s : Seen). s.standard) is
        name_serves (Some run) pages found old new (is, between, carves, locks) = locks.after.name.standard ∙ ap (λ (s : Seen). s.standard) carves.same
    name_found pages (id ∷ lost) found old new (run, carved, between, picked, number, carves, locks, finds) =
        name_found pages lost found between new finds ∙ (locks.after.leaves.name.standard ∙ ap (λ (s : Seen). s.standard) carves.same)

    standard_kept : (pages : ℕ) (old new : Seen) (part : Part) (grows : Grows pages part old new) → grows.released.standard ≡ old.standard
    standard_kept pages old new part grows =
        ap (λ (s : Seen). s.standard) grows.releases.told ∙ (grows.releases.sweeps.name.standard ∙ name_found pages grows.lost None old grows.missed grows.finds)

-- what a release does to the gone sides
pub gone_released : (lost : List Owned) (old new : Seen) → Releases lost old new → Includes old.gone new.gone
gone_released lost old new releases weight =
    omega (arith, (debt_swept lost old releases.swept releases.sweeps).gone weight, ap (λ (s : Seen). sum_by weight s.gone) releases.told)

pub includes_on : (one two three : List Owned) → Includes one two → Includes two three → Includes one three
includes_on one two three first second weight = omega (arith, first weight, second weight)

-- what holds anyhow holds after an error
pub on_error : {A E : Type 0} (r : Result A E) (P : Type 0) → P → OnErr r P
on_error (Ok x) P p = tt
on_error (Err e) P p = p

-- a search that found nothing, and a release
pub out_of_memory : {G : Type 0} (bytes pages : ℕ) (r : Result Piece ClientFault) (old new : Session G) → wanted bytes ≡ Some pages → Misses pages old.client new.client → IsOutOfMemory bytes r old new
out_of_memory bytes pages (Ok piece) old new sized misses = tt
out_of_memory bytes pages (Err fault.NoMemory) old new sized misses = (pages, sized, misses)
out_of_memory bytes pages (Err (fault.TooLarge n)) old new sized misses = tt
