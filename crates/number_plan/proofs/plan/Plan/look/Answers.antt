use Rattle.number_plan.specs.declared.target.Found.TheVariants as answer
use Rattle.number_plan.proofs.Meanings.{IsFound_means}
use Rattle.number_plan.proofs.plan.Plan.look.Goals as goal

pub returns-clause-line : goal.returns-clause-line
returns-clause-line c l = IsFound_means c.args.self.now c.args.digits.now _ (answer.Line l) c.find.ensures.found c.find.ensures.apart

pub returns-clause-room : goal.returns-clause-room
returns-clause-room c r = IsFound_means c.args.self.now c.args.digits.now _ (answer.Room r) c.find.ensures.found c.find.ensures.apart

pub returns-clause-lines : goal.returns-clause-lines
returns-clause-lines c ls = IsFound_means c.args.self.now c.args.digits.now _ (answer.Lines ls) c.find.ensures.found c.find.ensures.apart

pub returns-clause-more : goal.returns-clause-more
returns-clause-more c = IsFound_means c.args.self.now c.args.digits.now _ answer.More c.find.ensures.found c.find.ensures.apart

pub returns-clause-nothing : goal.returns-clause-nothing
returns-clause-nothing c = IsFound_means c.args.self.now c.args.digits.now _ answer.Nothing c.find.ensures.found c.find.ensures.apart
