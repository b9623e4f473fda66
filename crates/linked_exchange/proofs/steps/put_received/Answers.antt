use Rattle.linked_exchange.proofs.Fronts.{front_of_result}
use Rattle.linked_exchange.proofs.steps.put_received.Goals as goal

pub returns-clause-front : goal.returns-clause-front
returns-clause-front g c =
    front_of_result c.append_link_line.result _ _ _ c.append_link_line.ensures.line c.append_link_line.ensures.kept
