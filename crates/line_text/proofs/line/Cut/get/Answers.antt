use Rattle.std.specs.List.{slice_get}
use Rattle.std.proofs.lemmas.Bool.{ltb-true}
use Rattle.std.proofs.lemmas.Option.{slice_get_read}
use Rattle.std.proofs.Common.{List, ℕ, Bor, map, ap, sym, ◌∙◌, refl, length}
use Rattle.line_text.specs.declared.line.Span.{Span}
use Rattle.line_text.specs.Spans.{line_at}
use Rattle.line_text.proofs.WordSpans.{line_found}
use Rattle.line_text.proofs.line.Cut.get.Goals as goal

pub returns : goal.returns
returns c =
    let seen = c.deref.result.now in
    let place = c.args.place in
    let span = c.in_ok-span.field-0.now in
    let lookup = c.in_ok-span.ensures.lookup in
    let found = slice_get_read seen (length seen) place span refl (ltb-true place (length seen) (sym lookup.0)) lookup.1 in
    let lines = ap (λ (words : List (Bor (List ℕ))). map (line_at (map (λ w. w.now) words)) c.self.inside.spans.items) c.deref-2.ensures.value ∙ c.self.view_is in
    line_found c.deref-2.result.now c.self.inside.spans.items c.args.self.now place span lines (ap (λ (spans : List Span). slice_get spans place) (sym c.deref.ensures.value) ∙ found)
