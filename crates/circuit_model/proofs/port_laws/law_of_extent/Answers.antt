use Rattle.circuit_model.specs.Holding.{empty}
use Rattle.circuit_model.proofs.Age.{none_in_nil}
use Rattle.circuit_model.proofs.Extents.{frames_within}
use Rattle.circuit_model.proofs.port_laws.law_of_extent.Goals as goal

pub returns : goal.returns
returns c lines cs f d within = frames_within lines empty cs f (λ e inside. absurd (none_in_nil e inside)) within d
