use Rattle.std.proofs.Common.{◌≡◌, ◌≤◌, ◌∷◌, List, ℕ, map, length, sym, ap, arith, length-append}
use Rattle.std.proofs.lemmas.List.{length-map}
use Rattle.line_text.specs.Lines.{words_of}
use Rattle.line_text.proofs.WordSpans.{line_added, within_more, words_pushed}
use Rattle.line_text.proofs.lines.push_line.Goals as goal

pub returns-clause-line : goal.returns-clause-line
returns-clause-line c =
    let words = c.args.words.now.items in
    let old : List (List ℕ) = map (λ w. w.now) words in
    let new : List (List ℕ) = map (λ w. w.now) c.push_words.new.words.items in
    let more : List (List ℕ) = c.args.first.now ∷ words_of c.args.rest.now in
    let size : length words ≡ length old = sym (length-map words (λ w. w.now)) in
    line_added old more new c.args.spans.now.items c.push-2.new.self.items c.args.number c.len-start.result c.len-end.result (length words)
    c.requires size (words_pushed _ _ _ c.args.first _ c.in_ok-push.ensures.items c.in_ok-push_words.ensures) c.in_ok-push-2.ensures.items
    (omega (arith, size, c.len-start.ensures)) (omega (arith, length-map c.push_words.new.words.items (λ w. w.now), c.len-end.ensures))

pub returns-clause-within : goal.returns-clause-within
returns-clause-within c =
    let words = c.args.words.now.items in
    let new = c.push_words.new.words.items in
    let more : List (List ℕ) = c.args.first.now ∷ words_of c.args.rest.now in
    let old : List (List ℕ) = map (λ w. w.now) words in
    let grown = ap length (words_pushed _ _ _ c.args.first (words_of c.args.rest.now) c.in_ok-push.ensures.items c.in_ok-push_words.ensures) in
    let longer : length words ≤ length new = omega (arith, grown, length-append old more, length-map words (λ w. w.now), length-map new (λ w. w.now)) in
    within_more (length words) (length new) c.args.spans.now.items c.push-2.new.self.items _ c.requires c.in_ok-push-2.ensures.items longer
    (omega (arith, longer, c.len-start.ensures, c.len-end.ensures)) (omega (arith, c.len-end.ensures))
