use Rattle.std.proofs.Common.{◌≡◌, ◌*◌, rules, replicate, None}
use Rattle.paull_matrix.proofs.Tables.{kept_empty, tabled_empty}
use Rattle.paull_matrix.proofs.matrix.PaullMatrix.new.Goals as goal

columns : (c : goal.In_ok-vec-4) → c.in_ok-vec.field-0.items ≡ replicate (c.args.lines * c.args.slots) None
columns c = search rules

rows : (c : goal.In_ok-vec-4) → c.in_ok-vec-2.field-0.items ≡ replicate (c.args.lines * c.args.slots) None
rows c = search rules

row_words : (c : goal.In_ok-vec-4) → c.in_ok-vec-3.field-0.items ≡ replicate c.args.lines 0
row_words c = search rules

column_words : (c : goal.In_ok-vec-4) → c.in_ok-vec-4.field-0.items ≡ replicate c.args.lines 0
column_words c = search rules

pub invariant_of-result : goal.invariant_of-result
invariant_of-result c = rw (columns c, rows c, row_words c, column_words c) (kept_empty c.args.lines c.args.slots c.requires.lines c.requires.slots)

pub returns-clause-empty : goal.returns-clause-empty
returns-clause-empty c = rw (columns c) (tabled_empty c.args.lines c.args.slots)

pub returns-clause-legal : goal.returns-clause-legal
returns-clause-legal c = (invariant_of-result c).legal
