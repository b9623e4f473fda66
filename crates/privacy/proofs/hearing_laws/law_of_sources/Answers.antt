use Rattle.circuit_model.specs.Circuits.{heard_by}
use Rattle.circuit_model.specs.Holding.{circuits_of}
use Rattle.privacy.proofs.SourceLemmas.{heard_alike}
use Rattle.privacy.proofs.hearing_laws.law_of_sources.Goals as goal

pub returns : goal.returns
returns c = record { heard = λ tones a b held f y agree. heard_alike tones a b held f (heard_by (circuits_of held f) y) agree }
