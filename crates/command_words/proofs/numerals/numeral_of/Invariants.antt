use Rattle.std.proofs.Common.{◌≡◌, ◌^◌, ◌<◌, true, take}
use Rattle.std.specs.List.{list_all}
use Rattle.std.specs.Char.{is_ascii_digit}
use Rattle.command_words.specs.Numerals.{decimal_value}
use Rattle.command_words.proofs.numerals.numeral_of.Given as goal

abbrev pub invariant-loop-digit : goal.invariant-loop-digit
invariant-loop-digit l = record {
  digits : list_all is_ascii_digit (take l.digit-index l.text) ≡ true;
  value : l.number ≡ decimal_value (take l.digit-index l.text);
  small : l.number < 10 ^ l.digit-index;
}
