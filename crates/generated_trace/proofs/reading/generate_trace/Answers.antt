use Rattle.std.proofs.Common.{◌∙◌, arith}
use Rattle.generated_trace.proofs.Told.{are_trace}
use Rattle.generated_trace.proofs.reading.generate_trace.Goals as goal

pub read_back-requires : goal.read_back-requires
read_back-requires c = are_trace _ _ _ (omega arith) (c.as_slice.ensures.value ∙ c.in_ok-octets.ensures)
