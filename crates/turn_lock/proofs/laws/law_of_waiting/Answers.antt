use Rattle.turn_lock.proofs.WaitingLemmas.{can_go, few_before, keeps_place}
use Rattle.turn_lock.proofs.laws.law_of_waiting.Goals as goal

pub returns-clause-somebody : goal.returns-clause-somebody
returns-clause-somebody g c setting n s r = can_go n s r.tickets

pub returns-clause-order : goal.returns-clause-order
returns-clause-order g c setting n s r = keeps_place n s r.tickets (λ j v sit served. (r.slots_way.turn j v sit served).0)

pub returns-clause-few : goal.returns-clause-few
returns-clause-few g c setting n s r = few_before n s r.tickets
