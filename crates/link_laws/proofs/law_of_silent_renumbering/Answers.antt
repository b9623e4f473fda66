use Rattle.link_laws.proofs.RenumberingLemmas.{received_silent}
use Rattle.link_laws.proofs.law_of_silent_renumbering.Goals as goal

pub returns : goal.returns
returns c f at s n = received_silent f at s n
