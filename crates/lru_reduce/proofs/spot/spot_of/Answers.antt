use Rattle.std.proofs.Common.{arith, rules, nat_lt}
use Rattle.std.proofs.lemmas.Bool.{ltb-true, ltb-false}
use Rattle.std.proofs.lemmas.List.Sorted.{IsPartitionPoint-from_clause}
use Rattle.lru_reduce.specs.declared.slots.Slot.{Slot}
use Rattle.lru_reduce.proofs.Slotted.{parted}
use Rattle.lru_reduce.proofs.spot.spot_of.Goals as goal

pub returns : goal.returns
returns c =
    let point = IsPartitionPoint-from_clause (λ (s : Slot). nat_lt s.id c.args.id) _ _ c.partition_point.ensures.partitioned (parted c.args.id c.args.slots.now c.requires) (λ a r q k. search rules) in
    record {
      within = c.partition_point.ensures.bound;
      below = λ i d l. ltb-true _ _ (point.0 i d (omega arith) l);
      above = λ i d l inside. let past = ltb-false _ _ (point.1 i d l inside) in omega (arith, past);
    }
