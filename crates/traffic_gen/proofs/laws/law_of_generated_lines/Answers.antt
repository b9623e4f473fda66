use Rattle.traffic_gen.proofs.Fit.{lines_fit}
use Rattle.traffic_gen.proofs.Spelling.{line_length, line_prints}
use Rattle.traffic_gen.proofs.laws.law_of_generated_lines.Goals as goal

pub returns-clause-fits : goal.returns-clause-fits
returns-clause-fits c = lines_fit

pub returns-clause-printable : goal.returns-clause-printable
returns-clause-printable c = line_prints

pub returns-clause-short : goal.returns-clause-short
returns-clause-short c = line_length
