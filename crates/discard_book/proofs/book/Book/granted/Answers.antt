use Rattle.std.proofs.Common.{sym, ap, ◌∙◌}
use Rattle.discard_book.specs.Live.{granted}
use Rattle.discard_book.specs.Log.{Log}
use Rattle.discard_book.proofs.Kept.{granted_is}
use Rattle.discard_book.proofs.book.Book.granted.Goals as goal

pub returns-clause-granted : goal.returns-clause-granted
returns-clause-granted c =
    c.total.ensures ∙ sym (granted_is c.self.inside.entries.items c.self.inside.segments.pages.items c.self.invariant.0) ∙ ap (λ (log : Log). granted log.entries) c.self.view_is
