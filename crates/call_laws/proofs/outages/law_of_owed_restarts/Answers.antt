use Rattle.call_laws.proofs.OwedExactLemmas.{owed_by_failure, owed_by_frame, owed_no_more}
use Rattle.call_laws.proofs.OwedLineLemmas.{owed_by_restart}
use Rattle.call_laws.proofs.OwedStillLemmas.{still_owed}
use Rattle.call_laws.proofs.outages.law_of_owed_restarts.Goals as goal

pub returns-clause-failure : goal.returns-clause-failure
returns-clause-failure c s w line can outages = owed_by_failure s w line can outages.conditions

pub returns-clause-frame : goal.returns-clause-frame
returns-clause-frame c s w input stands outages = owed_by_frame s w input stands outages.conditions

pub returns-clause-others : goal.returns-clause-others
returns-clause-others c s w e fits stands other x in_x owed = owed_no_more s w stands e fits other x in_x owed

pub returns-clause-restart : goal.returns-clause-restart
returns-clause-restart c s w line can outages = owed_by_restart s w line can outages.conditions

pub returns-clause-still : goal.returns-clause-still
returns-clause-still c s w e fits stands outages other = still_owed s w stands outages e fits other
