use Rattle.std.proofs.Common.{refl}
use Rattle.serve_session.proofs.tiling.Tiling.maker.Goals as goal

pub returns : goal.returns
returns c = rw (← c.self.view_is, c.new.ensures) (record { tiles = refl; size = refl })
