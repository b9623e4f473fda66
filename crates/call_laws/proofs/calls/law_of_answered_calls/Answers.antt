use Rattle.call_profile.proofs.AnsweringLemmas.{connected_by_answer}
use Rattle.call_laws.proofs.calls.law_of_answered_calls.Goals as goal

pub returns : goal.returns
returns c s w line octets h a = connected_by_answer s w line octets h a.message a.valid a.legs_stand a.line_exists a.for_leg a.answers
