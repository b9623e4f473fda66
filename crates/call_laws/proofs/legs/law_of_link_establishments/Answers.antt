use Rattle.call_laws.proofs.ResumedLineLemmas.{legs_are_resumed}
use Rattle.call_laws.proofs.legs.law_of_link_establishments.Goals as goal

pub returns : goal.returns
returns c = record { legs = legs_are_resumed }
