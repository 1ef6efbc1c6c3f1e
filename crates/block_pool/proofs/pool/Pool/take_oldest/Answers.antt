use Rattle.std.proofs.Common.{ℕ, List, [], map, sym, ap, ◌∙◌, arith}
use Rattle.block_pool.specs.Block.{page_count}
use Rattle.block_pool.specs.Stock.{Stock}
use Rattle.block_pool.proofs.Oldest.{IsOldest-position, none_kept}
use Rattle.block_pool.proofs.pool.Pool.take_oldest.Goals as goal

pub returns-in_err-place-clause-found : goal.returns-in_err-place-clause-found
returns-in_err-place-clause-found c =
    let none = none_kept c.args.pages c.self.inside.kept.items (sym c.in_err-place.ensures) in
    rw (c.from_residual.ensures, ← c.self.view_is) (sym none)

pub returns-clause-bytes : goal.returns-clause-bytes
returns-clause-bytes c =
    let oldest = IsOldest-position c.args.pages c.self.inside.kept.items c.in_ok-place.place (sym c.in_ok-place.ensures) in
    rw (c.remove.ensures.succeeds [] (omega (arith, oldest.inside))) (oldest.zeros c.self.invariant.0)

pub returns-clause-found : goal.returns-clause-found
returns-clause-found c =
    let oldest = IsOldest-position c.args.pages c.self.inside.kept.items c.in_ok-place.place (sym c.in_ok-place.ensures) in
    rw (c.remove.ensures.succeeds [] (omega (arith, oldest.inside)), ← c.self.view_is) (sym oldest.found)

pub returns-clause-after : goal.returns-clause-after
returns-clause-after c =
    let oldest = IsOldest-position c.args.pages c.self.inside.kept.items c.in_ok-place.place (sym c.in_ok-place.ensures) in
    let is_some = c.remove.ensures.succeeds [] (omega (arith, oldest.inside)) in
    let gone = rw is_some at c.remove.ensures.items in
    let with_kept : List ℕ → Stock = λ kept. record { kept = kept; keep = c.self.inside.keep; made = c.self.inside.maker; pages_put = c.self.inside.pages_put } in
    rw (is_some, ← c.self.view_is) (ap with_kept (ap (map page_count) gone ∙ oldest.others))
