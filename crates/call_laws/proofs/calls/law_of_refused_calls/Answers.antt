use Rattle.call_profile.proofs.RefusalLemmas.{reply_refused_answer, after_message_refused_world}
use Rattle.call_laws.proofs.calls.law_of_refused_calls.Goals as goal

pub returns-clause-answer : goal.returns-clause-answer
returns-clause-answer c = reply_refused_answer

pub returns-clause-world : goal.returns-clause-world
returns-clause-world c = after_message_refused_world
