use Rattle.linked_text.proofs.PlainLineLemmas.{read_plainly, so_far_plain, same_plain, unlinked_plain}
use Rattle.linked_text.proofs.laws.law_of_plain_lines.Goals as goal

pub returns-clause-line : goal.returns-clause-line
returns-clause-line c = read_plainly

pub returns-clause-lines : goal.returns-clause-lines
returns-clause-lines c = so_far_plain

pub returns-clause-unlinked : goal.returns-clause-unlinked
returns-clause-unlinked c = unlinked_plain

pub returns-clause-same : goal.returns-clause-same
returns-clause-same c = same_plain
