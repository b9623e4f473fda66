use Rattle.std.proofs.Common.{arith}
use Rattle.call_profile.specs.World.{pass}
use Rattle.call_profile.proofs.CommandLemmas.{pass_kept}
use Rattle.call_laws.proofs.ExpiryChangeLemmas.{none_else_changes, untimed_stay}
use Rattle.call_laws.proofs.ExpiryCircuitLemmas.{conversations_stay, layout_stays, ports_stay}
use Rattle.call_laws.proofs.ExpirySinceLemmas.{began_by}
use Rattle.call_laws.proofs.ExpirySendLemmas.{length-outcome_of_lines_sends-le, length-outcome_of_lines_records-le}
use Rattle.call_laws.proofs.calls.law_of_expiries.Goals as goal

pub returns-clause-sends : goal.returns-clause-sends
returns-clause-sends c s w input = length-outcome_of_lines_sends-le s w.holding.next (pass w input) s.dimensions.external

pub returns-clause-records : goal.returns-clause-records
returns-clause-records c s w input stands =
    length-outcome_of_lines_records-le s w.holding.next (pass w input) (pass_kept s w stands.circuits stands.legs input) s.dimensions.external (omega arith)

pub returns-clause-others : goal.returns-clause-others
returns-clause-others c s w input stands = none_else_changes s w input stands

pub returns-clause-untimed : goal.returns-clause-untimed
returns-clause-untimed c s w input stands calm = untimed_stay s w input stands calm

pub returns-clause-conversations : goal.returns-clause-conversations
returns-clause-conversations c s w input stands calm = conversations_stay s w input stands calm

pub returns-clause-layout : goal.returns-clause-layout
returns-clause-layout c s w input stands calm = layout_stays s w input stands calm

pub returns-clause-ports : goal.returns-clause-ports
returns-clause-ports c s w input stands calm made = ports_stay s w input stands calm made

pub returns-clause-since : goal.returns-clause-since
returns-clause-since c s w input stands x in_x =
    began_by s w.holding.next (pass w input) (pass_kept s w stands.circuits stands.legs input) x in_x s.dimensions.external (omega arith)
