use Rattle.std.proofs.Common.{◌≤◌, ◌∙◌, arith, ap}
use Rattle.std.proofs.lemmas.List.{take_all}
use Rattle.manager_state.specs.Clients.{is_granted_to}
use Rattle.serve_run.proofs.WhatIsLive.{names_more}
use Rattle.serve_run.proofs.ending.greatest_client.Goals as goal
use Rattle.serve_run.proofs.ending.greatest_client.Goals.{then-client-greatest, else-client-greatest}

pub loop-entry-preserved : goal.loop-entry-preserved
loop-entry-preserved c =
    let low : c.loop-entry.greatest ≤ c.if-client-greatest.greatest =
    elim c.if-client-greatest.branch [ then-client-greatest w ↦ omega arith | else-client-greatest w ↦ omega arith ] in
    let high : c.granted_client-client.result ≤ c.if-client-greatest.greatest =
    elim c.if-client-greatest.branch [ then-client-greatest w ↦ omega arith | else-client-greatest w ↦ omega arith ] in
    names_more c.args.entries.now c.loop-entry.entry-index c.loop-entry.greatest c.granted_client-client.result c.if-client-greatest.greatest _ c.loop-entry-test.true
    low high c.loop-entry.invariant c.granted_client-client.ensures

pub returns : goal.returns
returns c = λ client id gives.
    c.loop-entry.invariant client id
    (ap (is_granted_to client id) (take_all c.loop-entry.entry-index c.args.entries.now c.loop-entry-test.false) ∙ gives)
