use Rattle.std.proofs.Common.{sym, ap, ◌∙◌, Some, inl, inr, arith}
use Rattle.std.specs.Result.{result_ok}
use Rattle.line_text.proofs.HexDigits.{result_ok-decode_of, hex_of_sized}
use Rattle.line_text.proofs.hexadecimal.read_hex.Goals as goal

pub returns-in-Ok : goal.returns-in-Ok
returns-in-Ok c =
    let word = c.args.word.now in
    sym (hex_of_sized word (omega arith) (omega arith) ∙ (sym (result_ok-decode_of word) ∙ ap result_ok c.in-Ok.ensures.ok) ∙ ap Some (sym c.from_vec.ensures))

pub returns-in_default : goal.returns-in_default
returns-in_default c =
    let word = c.args.word.now in
    sym (hex_of_sized word (omega arith) (omega arith) ∙ (sym (result_ok-decode_of word) ∙ elim c.in-Err.ensures.err [ inl e ↦ absurd (c.in_default.not-OutOfMemory e) | inr e ↦ ap result_ok e ]))
