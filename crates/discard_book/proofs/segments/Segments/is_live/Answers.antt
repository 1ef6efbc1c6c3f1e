use Rattle.std.proofs.Common.{◌-◌, ◌≤◌, nat_lt, length, arith, sym, ap, ◌∙◌}
use Rattle.std.proofs.lemmas.Bool.{leb-true, leb-false}
use Rattle.std.proofs.lemmas.List.{get_or_past, get_or_read}
use Rattle.discard_book.proofs.Numbered.{has_number-at, has_number-below}
use Rattle.discard_book.proofs.segments.Segments.is_live.Goals as goal
use Rattle.discard_book.proofs.segments.Segments.is_live.Goals.{then-number-ge1, else-number-ge1}

pub returns-then-number-len : goal.returns-then-number-len
returns-then-number-len c =
    let pages = c.args.self.now.pages in
    let within : (1 ≤ c.args.number) × (c.args.number ≤ length pages.items) =
    elim c.if-number-ge1.branch [
      | then-number-ge1 w ↦ (w.if-number-ge1.true, omega (arith, leb-true c.args.number w.len.result (sym w.value-is ∙ c.if-number-len.true), pages.ok.0))
      | else-number-ge1 w ↦ absurd (omega (arith, leb-true 1 c.args.number (sym w.value-is ∙ c.if-number-len.true)))
    ] in
    ap (λ n. nat_lt 0 n) (get_or_read pages.items (c.args.number - 1) _ (omega arith) c.index.ensures 0)
    ∙ sym (has_number-at 1 c.args.number (c.args.number - 1) pages.items (omega arith))

pub returns-else-number-len : goal.returns-else-number-len
returns-else-number-len c =
    let pages = c.args.self.now.pages in
    c.if-number-len.false
    ∙ elim c.if-number-ge1.branch [
      | then-number-ge1 w ↦
          let past : length pages.items ≤ c.args.number - 1 = omega (arith, leb-false c.args.number w.len.result (sym w.value-is ∙ c.if-number-len.false), pages.ok.0) in
          sym (has_number-at 1 c.args.number (c.args.number - 1) pages.items (omega arith) ∙ ap (λ n. nat_lt 0 n) (get_or_past pages.items (c.args.number - 1) 0 past))
      | else-number-ge1 w ↦ sym (has_number-below 1 c.args.number pages.items w.if-number-ge1.false)
    ]
