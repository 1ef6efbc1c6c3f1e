use Rattle.std.proofs.Common.{subst}
use Rattle.discard_book.specs.Live.{live, grants, AreDrawn}
use Rattle.discard_book.specs.Log.{Log}
use Rattle.discard_book.proofs.Kept.{drawn}
use Rattle.discard_book.proofs.book.Book.entries.Goals as goal

pub returns-clause-live : goal.returns-clause-live
returns-clause-live c =
    subst (λ (log : Log). AreDrawn (live log.entries) (grants log.entries)) c.self.view_is (drawn c.self.inside.entries.items c.self.inside.segments.pages.items c.self.invariant.0)
