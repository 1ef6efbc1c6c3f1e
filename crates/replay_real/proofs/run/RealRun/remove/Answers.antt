use Rattle.std.proofs.lemmas.Result.{on_ok_weaker}
use Rattle.replay_real.proofs.OneLine.{appends, removed_line}
use Rattle.replay_real.proofs.BookGrows.{grows_on, grows_removes}
use Rattle.replay_real.proofs.run.RealRun.remove.Goals as goal

pub returns-clause-words : goal.returns-clause-words
returns-clause-words c = on_ok_weaker c.push_removed.result (λ is. appends _ _ _ is (removed_line c.remove_client-removed.result)) c.push_removed.ensures

pub returns-clause-book : goal.returns-clause-book
returns-clause-book c =
    grows_on c.args.self.now.state.entries c.release.new.self.state.entries c.empty.new.state.entries
    (grows_on c.args.self.now.state.entries c.remove_client-removed.new.self.entries c.release.new.self.state.entries
    (grows_removes c.args.client c.remove_client-removed.result c.args.self.now.state c.remove_client-removed.new.self c.remove_client-removed.ensures)
    c.release.ensures.book)
    c.empty.ensures.book
