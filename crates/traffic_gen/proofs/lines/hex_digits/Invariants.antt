use Rattle.std.proofs.Common.{◌≡◌, ◌*◌, ◌++◌, take, drop, length}
use Rattle.hex.specs.Hex.{encode_upper}
use Rattle.traffic_gen.proofs.lines.hex_digits.Given as goal

abbrev pub invariant-loop-place : goal.invariant-loop-place
invariant-loop-place l = record {
  wide : length l.digits ≡ 60;
  done : take (2 * l.place) l.digits ++ encode_upper (drop l.place l.octets) ≡ encode_upper l.octets;
}
