use Rattle.std.proofs.Common.{◌≡◌, ℕ, ◌<◌, ◌≤◌, slice_index, pos, ◌-ℤ◌, vec_len, vec_capacity}
use Rattle.circuit_model.specs.ALaw.{compress}
use Rattle.alaw_codec.proofs.code_table.CodeTable.new.Given as goal

abbrev pub invariant-loop-index : goal.invariant-loop-index
invariant-loop-index l = record {
  count : vec_len l.octets ≡ l.index;
  room : 8191 ≤ vec_capacity l.octets;
  codes : (k : ℕ) → k < l.index → slice_index l.octets.items k ≡ compress (pos k -ℤ pos 4095);
}
