use Rattle.std.proofs.Common.{◌≡◌, ◌<◌, ◌^◌, take, true}
use Rattle.std.specs.Char.{is_ascii_digit}
use Rattle.std.specs.List.{list_all}
use Rattle.line_text.specs.Number.{decimal_value}
use Rattle.line_text.proofs.number.decimal.Given as goal

abbrev pub invariant-loop-digit : goal.invariant-loop-digit
invariant-loop-digit l = record {
  digits : list_all is_ascii_digit (take l.digit-index l.digits) ≡ true;
  worth : l.value ≡ decimal_value (take l.digit-index l.digits);
  fits : l.value < 2 ^ 64;
}
