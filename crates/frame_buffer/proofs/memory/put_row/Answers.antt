use Rattle.std.proofs.Common.{◌≡◌, ◌+◌, ◌-◌, ◌*◌, arith, rules}
use Rattle.std.proofs.lemmas.Grind.{common_steps}
use Rattle.frame_buffer.proofs.Rows.{other_row}
use Rattle.frame_buffer.proofs.memory.put_row.Goals as goal

pub returns : goal.returns
returns c = record {
  written = λ at here near. grind (arith, common_steps);
  others = λ at apart near.
      let start : c.from.result * c.from-2.result ≡ c.args.line * 30 = grind arith in
      let width : c.from.result * c.from-2.result + c.from-3.result - c.from.result * c.from-2.result ≡ 30 = omega arith in
      other_row c.args.line _ _ c.args.octets.now c.copy_from_slice.new.self at.line at.place start width (omega arith) (search rules) apart near;
}
