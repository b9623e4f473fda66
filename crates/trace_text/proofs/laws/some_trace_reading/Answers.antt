use Rattle.trace_text.proofs.TraceReadings.{some_reading}
use Rattle.trace_text.proofs.laws.some_trace_reading.Goals as goal

pub returns : goal.returns
returns c = some_reading
