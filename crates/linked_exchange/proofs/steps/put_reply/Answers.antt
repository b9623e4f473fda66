use Rattle.linked_exchange.proofs.Fronts.{front_of_result}
use Rattle.linked_exchange.proofs.steps.put_reply.Goals as goal

pub returns-in-Sent-clause-front : goal.returns-in-Sent-clause-front
returns-in-Sent-clause-front g c =
    front_of_result c.append_message_line.result _ _ _ c.append_message_line.ensures.line c.append_message_line.ensures.kept

pub returns-in-Granted-clause-front : goal.returns-in-Granted-clause-front
returns-in-Granted-clause-front g c =
    front_of_result c.append_line.result _ _ _ c.append_line.ensures.line c.append_line.ensures.kept

pub returns-in-Busy-clause-front : goal.returns-in-Busy-clause-front
returns-in-Busy-clause-front g c =
    front_of_result c.append_line-in-Busy.result _ _ _ c.append_line-in-Busy.ensures.line c.append_line-in-Busy.ensures.kept

pub returns-in-Seated-clause-front : goal.returns-in-Seated-clause-front
returns-in-Seated-clause-front g c =
    front_of_result c.append_line-in-Seated.result _ _ _ c.append_line-in-Seated.ensures.line c.append_line-in-Seated.ensures.kept

pub returns-in-NoPort-clause-front : goal.returns-in-NoPort-clause-front
returns-in-NoPort-clause-front g c =
    front_of_result c.append_line-in-NoPort.result _ _ _ c.append_line-in-NoPort.ensures.line c.append_line-in-NoPort.ensures.kept

pub returns-in-Freed-clause-front : goal.returns-in-Freed-clause-front
returns-in-Freed-clause-front g c =
    front_of_result c.append_line-in-Freed.result _ _ _ c.append_line-in-Freed.ensures.line c.append_line-in-Freed.ensures.kept

pub returns-in-NotNailed-clause-front : goal.returns-in-NotNailed-clause-front
returns-in-NotNailed-clause-front g c =
    front_of_result c.append_line-in-NotNailed.result _ _ _ c.append_line-in-NotNailed.ensures.line c.append_line-in-NotNailed.ensures.kept
