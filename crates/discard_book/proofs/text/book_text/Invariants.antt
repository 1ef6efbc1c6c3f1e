use Rattle.std.proofs.Common.{◌≡◌, take}
use Rattle.discard_book.specs.Text.{text_of}
use Rattle.discard_book.proofs.text.book_text.Given as goal

abbrev pub invariant-loop-entry : goal.invariant-loop-entry
invariant-loop-entry l = l.text.items ≡ text_of (take l.entry-index l.entries)
