use Rattle.clearing_rules.proofs.AnswerFacts.{answer_writable}
use Rattle.clearing_rules.proofs.laws.law_of_answers.Goals as goal

pub returns-clause-answer : goal.returns-clause-answer
returns-clause-answer c = answer_writable
