use Rattle.call_laws.proofs.LastingCallLemmas.{neither_changes}
use Rattle.call_laws.proofs.LostLegLemmas.{lost_vacated, left_disconnected}
use Rattle.call_laws.proofs.LostRecordLemmas.{lost_recorded}
use Rattle.call_laws.proofs.outages.law_of_lost_legs.Goals as goal

pub returns-clause-gone : goal.returns-clause-gone
returns-clause-gone c = lost_vacated

pub returns-clause-peer : goal.returns-clause-peer
returns-clause-peer c = left_disconnected

pub returns-clause-others : goal.returns-clause-others
returns-clause-others c = neither_changes

pub returns-clause-recorded : goal.returns-clause-recorded
returns-clause-recorded c = lost_recorded
