use Rattle.trace_text.proofs.TraceReadings.{one_trace, never_both, one_fault}
use Rattle.trace_text.proofs.laws.one_trace_reading.Goals as goal

pub returns : goal.returns
returns c = record { one_trace = one_trace; never_both = never_both; one_fault = one_fault }
