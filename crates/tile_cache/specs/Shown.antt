-- How a get counts.
use Rattle.std.specs.Prelude.{ℕ}
use Rattle.units.specs.Count.{next_count}
use Rattle.tile_cache.specs.declared.counts.Shown.{Shown}
use Rattle.tile_cache.specs.declared.counts.Shown.TheVariants.{Kept, First, Rebuilt, Again}
use Rattle.tile_cache.specs.declared.counts.Counts.{Counts}

-- all are 0
abbrev pub no_counts : Counts
no_counts = record { first = 0; kept = 0; rebuilt = 0; again = 0 }

-- the counts after one more answer: the one of its name rose, or it stands at the last value of u64
abbrev pub counted : Shown → Counts → Counts
counted Kept counts = record counts { kept = next_count counts.kept }
counted First counts = record counts { first = next_count counts.first }
counted Rebuilt counts = record counts { rebuilt = next_count counts.rebuilt }
counted Again counts = record counts { again = next_count counts.again }

-- how many tiles were made: one more, but for Kept
abbrev pub made_after : Shown → ℕ → ℕ
made_after Kept made = made
made_after other made = next_count made
