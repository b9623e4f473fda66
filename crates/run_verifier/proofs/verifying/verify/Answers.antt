use Rattle.run_verifier.proofs.AnswerLemmas.{finds_invalid, finds_valid, refuses_each}
use Rattle.run_verifier.proofs.verifying.verify.Goals as goal

pub returns-clause-finds_valid : goal.returns-clause-finds_valid
returns-clause-finds_valid g c = finds_valid c.args.slots c.args.trace.now c.args.report.now c.answer.result c.answer.ensures

pub returns-clause-finds_invalid : goal.returns-clause-finds_invalid
returns-clause-finds_invalid g c = finds_invalid c.args.slots c.args.trace.now c.args.report.now c.answer.result c.answer.ensures

pub returns-clause-refuses_each : goal.returns-clause-refuses_each
returns-clause-refuses_each g c = refuses_each c.args.slots c.args.trace.now c.args.report.now c.answer.result c.answer.ensures
