use Rattle.std.proofs.Common.{◌-◌}
use Rattle.units.proofs.row_search.place_between.Given as goal

abbrev pub decreases-loop-low : goal.decreases-loop-low
decreases-loop-low g l = l.high - l.low
