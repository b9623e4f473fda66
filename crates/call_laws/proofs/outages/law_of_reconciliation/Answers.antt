use Rattle.call_laws.proofs.OutageLemmas.{offered_owes_none}
use Rattle.call_laws.proofs.ResumedSendLemmas.{reconciled}
use Rattle.call_laws.proofs.outages.law_of_reconciliation.Goals as goal

pub returns-clause-channels : goal.returns-clause-channels
returns-clause-channels c s w line can outages x in_x on = reconciled s line w can outages.conditions x in_x on

pub returns-clause-offered : goal.returns-clause-offered
returns-clause-offered c = offered_owes_none
