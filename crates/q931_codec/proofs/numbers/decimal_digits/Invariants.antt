use Rattle.std.proofs.Common.{◌≡◌, ◌%◌, true, map, take}
use Rattle.std.specs.List.{list_all}
use Rattle.std.specs.Char.{is_ascii_digit}
use Rattle.q931_codec.proofs.numbers.decimal_digits.Given as goal

-- the digits so far, all of them from 0 to 9
abbrev pub invariant-loop-octet : goal.invariant-loop-octet
invariant-loop-octet l = record {
  so_far : l.digits.items ≡ map (λ octet. octet % 0x80) (take l.octet-index l.octets);
  decimal : list_all is_ascii_digit l.digits.items ≡ true;
}
