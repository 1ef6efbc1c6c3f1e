use Rattle.std.proofs.Common.{rules, sym, ◌∙◌, ◌<◌, length, arith}
use Rattle.line_text.proofs.Decimal.{decimal_of_large, decimal_of_all, decimal_value_more, digits_more}
use Rattle.line_text.proofs.number.decimal.Goals as goal

pub returns-in_err-value : goal.returns-in_err-value
returns-in_err-value c =
    c.from_residual.ensures ∙ sym (decimal_of_large c.args.digits.now c.loop-digit.digit-index (omega arith) (omega (arith, c.in_err-value.ensures.none)))

pub loop-digit-preserved : goal.loop-digit-preserved
loop-digit-preserved c =
    let xs = c.args.digits.now in
    let i = c.loop-digit.digit-index in
    let within : i < length xs = omega arith in
    record {
      digits = digits_more xs i c.is_ascii_digit.result within c.loop-digit.invariant.digits c.is_ascii_digit.ensures.value (search rules);
      worth = omega (arith, decimal_value_more xs i within, c.in_ok-value.ensures.some);
      fits = c.in_ok-value.ensures.fits;
    }

pub returns : goal.returns
returns c = decimal_of_all c.args.digits.now c.loop-digit.digit-index c.loop-digit.value (omega arith) c.loop-digit.invariant.digits c.loop-digit.invariant.worth c.loop-digit.invariant.fits
