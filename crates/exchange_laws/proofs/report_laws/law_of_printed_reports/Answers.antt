use Rattle.exchange_laws.proofs.PrintedLemmas.{report_lines, events_alike, others_alike, item_alike, same_reports}
use Rattle.exchange_laws.proofs.report_laws.law_of_printed_reports.Goals as goal

pub returns-clause-lines : goal.returns-clause-lines
returns-clause-lines c = report_lines

pub returns-clause-events : goal.returns-clause-events
returns-clause-events c = events_alike

pub returns-clause-others : goal.returns-clause-others
returns-clause-others c = λ s es fs order text alike. others_alike s text es fs order alike

pub returns-clause-item : goal.returns-clause-item
returns-clause-item c = item_alike

pub returns-clause-whole : goal.returns-clause-whole
returns-clause-whole c = same_reports
