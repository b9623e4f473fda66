use Rattle.std.proofs.Common.{arith}
use Rattle.circuit_model.specs.Holding.{empty}
use Rattle.circuit_model.proofs.FrameRecords.{after_all-append, frames-boundary, frames-command, length-frames}
use Rattle.circuit_model.proofs.holding_laws.law_of_frames.Goals as goal

pub returns-clause-state : goal.returns-clause-state
returns-clause-state c = after_all-append

pub returns-clause-boundary : goal.returns-clause-boundary
returns-clause-boundary c = frames-boundary

pub returns-clause-command : goal.returns-clause-command
returns-clause-command c = frames-command

pub returns-clause-count : goal.returns-clause-count
returns-clause-count c = λ cs. omega (arith, length-frames empty cs)
