use Rattle.call_laws.proofs.UnconfirmedLemmas.{unconfirmed_after}
use Rattle.call_laws.proofs.outages.law_of_unconfirmed_channels.Goals as goal

pub returns : goal.returns
returns c = record { exact = λ s w e fits stands outages. unconfirmed_after s w stands outages.conditions e fits }
