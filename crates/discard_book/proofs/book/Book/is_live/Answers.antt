use Rattle.std.proofs.Common.{sym, ap, ◌∙◌}
use Rattle.discard_book.specs.Live.{live, has_number}
use Rattle.discard_book.specs.Log.{Log}
use Rattle.discard_book.proofs.Kept.{has_number_is}
use Rattle.discard_book.proofs.book.Book.is_live.Goals as goal

pub returns : goal.returns
returns c =
    c.is_live.ensures
    ∙ sym (has_number_is c.self.inside.entries.items c.self.inside.segments.pages.items c.args.id c.self.invariant.0)
    ∙ ap (λ (log : Log). has_number (live log.entries) c.args.id) c.self.view_is
