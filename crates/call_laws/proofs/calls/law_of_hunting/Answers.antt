use Rattle.call_laws.proofs.HuntingLemmas.{all_full, first_idle, idle_on_one, hunted_found, hunted_none_found, accept_one_line, called_checks_one_is_full}
use Rattle.call_laws.proofs.calls.law_of_hunting.Goals as goal

pub returns-clause-first : goal.returns-clause-first
returns-clause-first c w x lines y = (first_idle w x lines y, hunted_found w x lines y)

pub returns-clause-none : goal.returns-clause-none
returns-clause-none c w x lines = (all_full w x lines, hunted_none_found w x lines)

pub returns-clause-idle : goal.returns-clause-idle
returns-clause-idle c w x lines y e = idle_on_one w x lines y e

pub returns-clause-checks : goal.returns-clause-checks
returns-clause-checks c d w x line = called_checks_one_is_full w x d line

pub returns-clause-one : goal.returns-clause-one
returns-clause-one c first w own asked x line = accept_one_line w x first own asked line
