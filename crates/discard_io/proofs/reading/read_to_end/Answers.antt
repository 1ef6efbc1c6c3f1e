use Rattle.std.proofs.Common.{◌≡◌, ◌+◌, ◌-◌, ◌≤◌, length, refl, arith}
use Rattle.std.proofs.lemmas.Grind.{common_steps}
use Rattle.discard_io.proofs.ReadEnds.{cut_short}
use Rattle.discard_io.proofs.reading.read_to_end.Goals as goal

pub returns-in_err-read_more-clause-took : goal.returns-in_err-read_more-clause-took
returns-in_err-read_more-clause-took g c =
    let read = c.in_err-read_more.ensures in
    let count : length c.loop-bytes.bytes.items ≤ c.args.most = grind (arith, common_steps) in
    let room : length c.loop-bytes.bytes.items + (c.args.most + 1 - c.len-in-loop-bytes.result) ≡ c.args.most + 1 = grind (arith, common_steps) in
    cut_short _ _ _ _ _ _ _ _ _ c.loop-bytes.invariant.taken room count refl read.same read.lost read.short c.from_residual-in_err-read_more.ensures.1
