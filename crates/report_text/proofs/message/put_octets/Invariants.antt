use Rattle.std.proofs.Common.{◌≡◌, ◌++◌, take, length}
use Rattle.hex.specs.Hex.{encode_upper}
use Rattle.report_text.proofs.message.put_octets.Given as goal

abbrev pub invariant-loop-rest : goal.invariant-loop-rest
invariant-loop-rest l = record {
  front : take (length l.fn.out.items) l.out.items ≡ l.fn.out.items;
  done : l.out.items ++ encode_upper l.rest ≡ l.fn.out.items ++ encode_upper l.octets;
}

abbrev pub decreases-loop-rest : goal.decreases-loop-rest
decreases-loop-rest l = length l.rest
