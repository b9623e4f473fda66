use Rattle.std.proofs.Common.{◌∙◌, arith}
use Rattle.std.proofs.lemmas.List.{get_or_default}
use Rattle.circuit_model.specs.FrameInput.{idle_octet}
use Rattle.frame_engine.proofs.intake.put_row.Goals as goal

pub returns-clause-taken : goal.returns-clause-taken
returns-clause-taken c at here near = let told = c.told-octets in c.put_line.ensures.filled.written at here near ∙ get_or_default c.args.octets.now at.place 0 idle_octet (omega (arith, near, told))
