use Rattle.std.proofs.Common.{◌≡◌, ◌+◌, ◌<◌, ap, ◌∙◌, arith}
use Rattle.segment.specs.Warded.{Warded}
use Rattle.discard_book.specs.Live.{grants}
use Rattle.lru_reduce.proofs.Granted.{granted_is_new, granted_live, granted_total}
use Rattle.lru_reduce.proofs.Held.{long_placed}
use Rattle.memory_tests.proofs.reductions.Granted.grant.Goals as goal

pub add-requires-clause-new : goal.add-requires-clause-new
add-requires-clause-new c =
    let id : c.in-Ok.warden.id ≡ c.grants-id.result + 1 = ap (λ (w : Warded). w.id) c.in-Ok.ensures.warden in
    let drawn = c.grants-id.ensures.grants in
    rw c.reserve.ensures.same
    (granted_is_new c.in-Ok.warden.id c.args.self.now.order.sides c.args.self.now.book.entries c.args.self.now.live c.entries-drawn.ensures.live (omega (arith, id, drawn)))

pub invariant_of-self-2 : goal.invariant_of-self-2
invariant_of-self-2 c =
    let w = c.in-Ok.warden in
    let sides = c.args.self.now.order.sides in
    let before = c.args.self.now.book.entries in
    let id : w.id ≡ c.grants-id.result + 1 = ap (λ (v : Warded). v.id) c.in-Ok.ensures.warden in
    let pages : w.pages ≡ 1 = ap (λ (v : Warded). v.pages) c.in-Ok.ensures.warden ∙ c.in_ok-block.ensures.pages in
    let drawn = c.grants-id.ensures.grants in
    let greater : grants before < w.id = omega (arith, id, drawn) in
    let sum = granted_total w sides before c.args.self.now.live c.entries-drawn.ensures.live greater in
    let old = c.args.self.now.total in
    record {
      live = rw (c.add.ensures.sides, c.reserve.ensures.same)
          (granted_live 1 18446744073709551615 w sides before c.add-2.new.self.entries c.args.self.now.live c.entries-drawn.ensures.live greater (rw (id, pages, ← c.reserve-2.ensures.same) c.add-2.ensures.live));
      total = rw (c.add.ensures.sides, c.reserve.ensures.same) (omega (arith, sum, old, pages));
      counted =
          let one = long_placed w sides in
          let before = c.args.self.now.counted in
          rw (c.add.ensures.sides, c.reserve.ensures.same) (omega (arith, one, before));
    }
