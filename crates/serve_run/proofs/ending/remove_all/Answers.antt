use Rattle.std.proofs.Common.{◌≡◌, arith, subst}
use Rattle.serve_run.proofs.WhatIsLive.{HasRemoved, none_removed, one_more_removed, all_removed}
use Rattle.serve_run.proofs.ending.remove_all.Goals as goal

pub loop-removed-init : goal.loop-removed-init
loop-removed-init c =
    none_removed c.greatest_client-last.result c.args.state.now c.book.ensures.legal
    (λ client id gives. c.greatest_client-last.ensures client id (rw (c.entries.ensures.entries, c.book.ensures.entries) gives))

pub loop-removed-preserved : goal.loop-removed-preserved
loop-removed-preserved c =
    one_more_removed c.loop-removed.removed c.greatest_client-last.result _ c.loop-removed.state c.remove.new.state c.loop-removed.invariant c.remove.ensures

pub returns : goal.returns
returns c = all_removed c.greatest_client-last.result c.args.state.now c.loop-removed.state
    (let over : c.loop-removed.removed ≡ c.greatest_client-last.result = omega arith in
    subst (λ n. HasRemoved n c.greatest_client-last.result c.args.state.now c.loop-removed.state) over c.loop-removed.invariant)
