use Rattle.std.proofs.Common.{ap, ◌∙◌}
use Rattle.discard_book.specs.Live.{grants}
use Rattle.discard_book.specs.Log.{Log}
use Rattle.discard_book.proofs.book.Book.grants.Goals as goal

pub returns-clause-grants : goal.returns-clause-grants
returns-clause-grants c =
    c.drawn.ensures.drawn ∙ c.self.inside.segments.pages.ok.0 ∙ c.self.invariant.0.numbers ∙ ap (λ (log : Log). grants log.entries) c.self.view_is
