use Rattle.block_pool.proofs.Oldest.{is_some-position}
use Rattle.block_pool.proofs.pool.Pool.keeps.Goals as goal

pub returns : goal.returns
returns c =
    rw (c.is_some.ensures, c.oldest.ensures, ← c.self.view_is) (is_some-position c.args.pages c.self.inside.kept.items)
