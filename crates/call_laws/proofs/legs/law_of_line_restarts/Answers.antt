use Rattle.call_laws.proofs.LineRestartLemmas.{line_is_empty, other_lines_are_cleared, unheld_stay, request_is_sent, line_record_is, line_ended_is_recorded, line_comes_by_place}
use Rattle.call_laws.proofs.LineRestartSendLemmas.{nothing_else_is_sent, peers_are_disconnected}
use Rattle.call_laws.proofs.legs.law_of_line_restarts.Goals as goal

pub returns-clause-gone : goal.returns-clause-gone
returns-clause-gone c = line_is_empty

pub returns-clause-others : goal.returns-clause-others
returns-clause-others c = other_lines_are_cleared

pub returns-clause-unheld : goal.returns-clause-unheld
returns-clause-unheld c = unheld_stay

pub returns-clause-sent : goal.returns-clause-sent
returns-clause-sent c = request_is_sent

pub returns-clause-only : goal.returns-clause-only
returns-clause-only c = nothing_else_is_sent

pub returns-clause-peers : goal.returns-clause-peers
returns-clause-peers c = peers_are_disconnected

pub returns-clause-told : goal.returns-clause-told
returns-clause-told c = line_record_is

pub returns-clause-ended : goal.returns-clause-ended
returns-clause-ended c = line_ended_is_recorded

pub returns-clause-order : goal.returns-clause-order
returns-clause-order c = line_comes_by_place
