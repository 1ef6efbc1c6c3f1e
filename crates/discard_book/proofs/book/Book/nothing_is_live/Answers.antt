use Rattle.std.proofs.Common.{◌==◌, sym, ap, ◌∙◌}
use Rattle.discard_book.specs.Live.{live}
use Rattle.discard_book.specs.Legal.{is_empty}
use Rattle.discard_book.specs.Log.{Log}
use Rattle.discard_book.proofs.Kept.{is_empty_is}
use Rattle.discard_book.proofs.book.Book.nothing_is_live.Goals as goal

pub returns : goal.returns
returns c =
    ap (λ n. n == 0) c.total.ensures ∙ sym (is_empty_is c.self.inside.entries.items c.self.inside.segments.pages.items c.self.invariant.0) ∙ ap (λ (log : Log). is_empty (live log.entries)) c.self.view_is
