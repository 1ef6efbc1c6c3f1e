use Rattle.std.proofs.Common.{refl}
use Rattle.lru_reduce.proofs.Slotted.{no_slot}
use Rattle.lru_reduce.proofs.spot.place_of.Goals as goal

pub returns-else-is_at-2-clause-none : goal.returns-else-is_at-2-clause-none
returns-else-is_at-2-clause-none c = no_slot c.args.id c.spot_of-place.result c.args.slots.now c.requires c.spot_of-place.ensures (c.if-is_at-2.ensures.no refl)
