use Rattle.std.proofs.Common.{◌<◌, length, arith}
use Rattle.std.proofs.lemmas.Grind.{common_steps}
use Rattle.discard_io.proofs.Parts.{all-below_limit}
use Rattle.discard_io.proofs.real.files.read_within.Goals as goal

pub returns-clause-whole : goal.returns-clause-whole
returns-clause-whole g c =
    let few : length c.read_to_end.new.buf.items < c.saturating_add-limit.result = grind (arith, common_steps) in
    let read = simp (c.take.ensures.limit, c.take.ensures.inner, c.in_ok-bytes.ensures.items) at c.in_ok-read_to_end.ensures.bytes in
    all-below_limit (g.F.Read.remaining c.args.file) c.saturating_add-limit.result c.read_to_end.new.buf.items read few
