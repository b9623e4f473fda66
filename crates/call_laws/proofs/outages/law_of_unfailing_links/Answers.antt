use Rattle.call_laws.proofs.UnfailingLinkLemmas.{untimed_then, conversations_then, layout_then, ports_then, told_then, ended_then, order_then}
use Rattle.call_laws.proofs.outages.law_of_unfailing_links.Goals as goal

pub returns-clause-untimed : goal.returns-clause-untimed
returns-clause-untimed c = untimed_then

pub returns-clause-conversations : goal.returns-clause-conversations
returns-clause-conversations c = conversations_then

pub returns-clause-layout : goal.returns-clause-layout
returns-clause-layout c = layout_then

pub returns-clause-ports : goal.returns-clause-ports
returns-clause-ports c = ports_then

pub returns-clause-told : goal.returns-clause-told
returns-clause-told c = told_then

pub returns-clause-ended : goal.returns-clause-ended
returns-clause-ended c = ended_then

pub returns-clause-order : goal.returns-clause-order
returns-clause-order c = order_then
