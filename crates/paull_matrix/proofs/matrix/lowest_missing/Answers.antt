use Rattle.std.proofs.Common.{arith, rules, sym}
use Rattle.paull_matrix.proofs.Marks.{lacks_lowest, lowest-lacks_nowhere}
use Rattle.paull_matrix.proofs.matrix.lowest_missing.Goals as goal

pub returns-then-s-from : goal.returns-then-s-from
returns-then-s-from c = record {
  lowest = sym (lacks_lowest c.args.word c.args.slots (omega arith) c.requires.few (search rules));
}

pub returns-else-s-from : goal.returns-else-s-from
returns-else-s-from c = record {
  lowest = sym (lowest-lacks_nowhere c.args.word c.args.slots (omega arith) c.requires.few (search rules));
}
