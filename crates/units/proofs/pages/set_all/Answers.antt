use Rattle.std.proofs.Common.{◌≡◌, ◌<◌, ◌≤◌, Bool, false, not, cond, length, get_or, count_by, ap, ◌∙◌, arith}
use Rattle.units.proofs.Ranges.{after_more, counted_more, within_not}
use Rattle.units.proofs.pages.set_all.Goals as goal

pub loop-page-preserved : goal.loop-page-preserved
loop-page-preserved c =
    let xs = c.loop-page.pages in
    let i = c.loop-page.page in
    let inside : i < length xs = omega arith in
    let from : c.args.first ≤ i = omega arith in
    let was : get_or xs i false ≡ not c.args.held =
    c.loop-page.invariant.after i ∙ ap (λ (w : Bool). cond w c.args.held (get_or c.args.pages.now i false)) (within_not c.args.first i from)
    ∙ c.requires.other i from (omega arith) in
    record {
      after = λ page. after_more xs c.args.pages.now c.args.first i page c.args.held from inside (c.loop-page.invariant.after page);
      counted = counted_more xs (count_by (λ (b : Bool). b) c.args.pages.now) c.args.first i c.args.held from inside was c.loop-page.invariant.counted;
    }
