-- The errors of a verification. Source: this project.
use Rattle.trace_text.specs.declared.fault.TraceFault.{TraceFault}
use Rattle.trace_text.specs.declared.fault.TraceFault.TheVariants as trace
use Rattle.run_verifier.specs.declared.verdict.VerifyFault.{VerifyFault}
use Rattle.run_verifier.specs.declared.verdict.VerifyFault.TheVariants as verify

-- the error of a verification, from the error of reading its trace
abbrev pub fault_of : TraceFault → VerifyFault
fault_of trace.Memory = verify.Memory
fault_of (trace.Line number why) = verify.Trace number why
