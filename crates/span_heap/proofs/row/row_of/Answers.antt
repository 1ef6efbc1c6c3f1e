use Rattle.std.proofs.lemmas.Bool.{both_ways}
use Rattle.span_heap.proofs.row.row_of.Goals as goal

pub returns-in-Some : goal.returns-in-Some
returns-in-Some c = c.in-Some.ensures

pub returns-in-None : goal.returns-in-None
returns-in-None c = absurd (both_ways _ c.in-None.ensures c.requires)
