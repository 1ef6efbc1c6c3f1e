use Rattle.serve_run.proofs.WhatIsLive.{counts_off}
use Rattle.serve_run.proofs.ending.remove.Goals as goal

pub returns : goal.returns
returns c =
    counts_off c.args.client c.remove_client.result c.args.state.now c.remove_client.new.self c.remove_client.ensures
    c.book-before.ensures.legal c.book-before.ensures.live c.book-after.ensures.legal c.book-after.ensures.live
