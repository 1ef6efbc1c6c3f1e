-- What a cache keeps account of: the segments of its client, the pieces that were lost in them, and what was made.
use Rattle.std.specs.Prelude.{◌≡◌, ◌⊎◌, ℕ, ◌+◌, ◌*◌, ◌/◌, ◌==◌, ◌<◌, ◌≤◌, max, nat_lt, sum_by, true, false, ◌&&◌, List, ◌++◌, length, All, if◌then◌else◌}
use Rattle.segment.specs.Owned.{Owned}
use Rattle.span_heap.specs.declared.run.Run.{Run}
use Rattle.client.specs.Lease.{Lease}
use Rattle.client.specs.Seen.{Seen, is_gone}
use Rattle.units.specs.Sizes.{pages_for}
use Rattle.client.specs.Granting.{LAST_COUNT}
use Rattle.tile_cache.specs.declared.counts.Counts.{Counts}
use Rattle.tile_cache.specs.Cached.{Cached, ShareNoPage, runs_of}
use Rattle.tile_cache.specs.Bound.{IsFresh}

-- the sum over the segments that a client knows, its own and those that are gone, of what each tells by its number and its pages
abbrev pub over_segments : (ℕ → ℕ → ℕ) → Seen → ℕ
over_segments tells client =
    sum_by (λ (lease : Lease). tells lease.side.id lease.side.pages) client.leases + sum_by (λ (side : Owned). tells side.id side.pages) client.gone

-- a client knows the same segments, by number and pages, and what was known to be gone still is
pub record SameSegments (old new : Seen) : Type 0 where
  pub sums : (tells : ℕ → ℕ → ℕ) → over_segments tells new ≡ over_segments tells old
  pub gone : (id : ℕ) → is_gone old id ≡ true → is_gone new id ≡ true
  pub name : new.standard ≡ old.standard

-- a segment of the run's number that ends before the run counts 1, and each other 0
abbrev pub misfits : Run → ℕ → ℕ → ℕ
misfits run id pages = if (id == run.segment) && nat_lt pages (run.first + run.pages) then 1 else 0

-- the run lies within the segment of its number, if the client knows one
abbrev pub Fits : Seen → Run → Type 0
Fits client run = over_segments (misfits run) client ≡ 0

-- how many tiles were made, by the counts
abbrev pub makes_of : Counts → ℕ
makes_of counts = counts.first + (counts.rebuilt + counts.again)

-- no count of tiles made is above its last value
pub record AreCounts (counts : Counts) : Type 0 where
  pub first : counts.first ≤ LAST_COUNT
  pub rebuilt : counts.rebuilt ≤ LAST_COUNT
  pub again : counts.again ≤ LAST_COUNT

-- The runs are those of the entries' pieces. Each piece that was rebuilt elsewhere was lost with a run of its own, in a segment that is gone.
-- No page is in two of the runs of both kinds, and each lies within its segment. The segments together have room for no more tiles than as
-- many of the granted size have, where grants does not stand at its last value; and no more were granted than tiles were made.
pub record IsAccounted (pages standard : ℕ) (client : Seen) (grants rebuilt makes : ℕ) (runs : List Run) : Type 0 where
  pub lost : List Run
  pub gone : All (λ (run : Run). is_gone client run.segment ≡ true) lost
  pub sized : All (λ (run : Run). run.pages ≡ pages) lost
  pub lost_fit : All (Fits client) lost
  pub fit : All (Fits client) runs
  pub once : ShareNoPage (lost ++ runs)
  pub counted : rebuilt ≤ length lost
  pub room : grants < LAST_COUNT → over_segments (λ id all. all / pages) client ≤ grants * (max standard pages / pages)
  pub granted : grants ≤ makes
  pub name : client.standard ≡ standard

-- it is so of a cache over a client that was fresh, where no get was out of memory, for tiles of the size that it has or may have
abbrev pub AreAccounted : {G : Type 0} → Cached G → Type 0
AreAccounted cache =
    IsFresh cache.start → cache.failed ≡ false → (size : ℕ) → (cache.tile_bytes ≡ 0) ⊎ (cache.tile_bytes ≡ size)
    → IsAccounted (pages_for size) cache.start.client.standard cache.session.client cache.session.grants cache.counts.rebuilt (makes_of cache.counts) (runs_of cache.entries)
