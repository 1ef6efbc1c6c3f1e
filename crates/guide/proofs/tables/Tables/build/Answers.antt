use Rattle.std.proofs.Common.{◌∙◌}
use Rattle.guide.proofs.tables.Tables.build.Goals as goal

pub returns : goal.returns
returns g c =
    let written = c.bytes_mut.ensures.only c.fill.new.self (c.fill.ensures.len ∙ c.bytes_mut.ensures.sized) in
    (written.owned, c.in_ok-piece.ensures.ok.3.locked)
