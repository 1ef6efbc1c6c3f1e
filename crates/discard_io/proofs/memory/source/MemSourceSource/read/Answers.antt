use Rattle.std.proofs.Common.{◌≤◌, arith, append_assoc}
use Rattle.std.proofs.lemmas.Grind.{common_steps}
use Rattle.discard_io.proofs.Parts.{drop-take-drop}
use Rattle.discard_io.proofs.memory.source.MemSourceSource.read.Goals as goal

pub returns-clause-moved : goal.returns-clause-moved
returns-clause-moved c =
    let within : c.read.result ≤ c.min-most.result = grind (arith, common_steps) in
    grind (arith, common_steps, drop-take-drop c.read.result c.min-most.result c.args.buf.now within, append_assoc)
