use Rattle.std.proofs.Common.{ap, refl, ◌∙◌, arith}
use Rattle.discard_book.specs.Legal.{fits_after}
use Rattle.discard_book.specs.Log.{Log}
use Rattle.discard_book.proofs.Pushed.{live-push, IsLegal-push}
use Rattle.discard_book.proofs.Kept.{can_follow, Keeps-push, granted-follows}
use Rattle.discard_book.proofs.book.Book.add.Goals as goal

pub follow-requires-clause-can : goal.follow-requires-clause-can
follow-requires-clause-can c =
    can_follow c.self.inside.entries.items c.self.inside.segments.pages.items c.args.entry c.self.invariant.0
    (ap (λ (log : Log). fits_after log.entries c.args.entry) c.self.view_is ∙ c.requires.fits)

pub invariant_of-self : goal.invariant_of-self
invariant_of-self c =
    let fits = ap (λ (log : Log). fits_after log.entries c.args.entry) c.self.view_is ∙ c.requires.fits in
    let spare = ap (λ (log : Log). log.spare) c.self.view_is in (
      rw (c.push_reserved.ensures.items, c.follow.ensures.pages) (Keeps-push c.self.inside.entries.items c.self.inside.segments.pages.items c.args.entry c.self.invariant.0 fits),
      omega (arith, spare, c.self.invariant.1),
      omega (arith, spare, c.self.invariant.2),
    )

pub returns : goal.returns
returns c =
    let entries = c.self.inside.entries.items in
    let fits = ap (λ (log : Log). fits_after log.entries c.args.entry) c.self.view_is ∙ c.requires.fits in
    let spare = ap (λ (log : Log). log.spare) c.self.view_is in
    rw (← c.self.view_is, c.push_reserved.ensures.items) record {
      entries = refl;
      spare = omega (arith, spare, c.requires.spare);
      live = live-push entries c.args.entry;
      granted = granted-follows entries c.self.inside.segments.pages.items c.args.entry c.self.invariant.0 fits;
      legal = IsLegal-push entries c.args.entry c.self.invariant.0.legal fits;
    }
