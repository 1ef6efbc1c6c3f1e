use Rattle.std.proofs.Common.{sym}
use Rattle.std.proofs.lemmas.Bool.{ltb-true}
use Rattle.client.proofs.PlacesFound.{below_last}
use Rattle.client.proofs.table.rise_to.Goals as goal

pub returns-then-rising-clause-below : goal.returns-then-rising-clause-below
returns-then-rising-clause-below c on =
    let less = ltb-true c.id.result c.id-then-rising.result on in
    below_last c.args.leases.now c.in-Some.last.now c.args.side.now.id (c.requires c.if-rising.true) (sym c.in-Some.ensures.value) (rw (c.id.ensures, c.id-then-rising.ensures) at less)
