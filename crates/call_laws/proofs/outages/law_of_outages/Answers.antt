use Rattle.call_laws.proofs.LinkStateLemmas.{links_are, none_fails}
use Rattle.call_laws.proofs.OutageLemmas.{start_outages, outages_kept, outages_stand, none_is_lost, never_lost, up_not_lost}
use Rattle.call_laws.proofs.outages.law_of_outages.Goals as goal

pub returns-clause-begins : goal.returns-clause-begins
returns-clause-begins c = start_outages

pub returns-clause-kept : goal.returns-clause-kept
returns-clause-kept c = outages_kept

pub returns-clause-always : goal.returns-clause-always
returns-clause-always c = outages_stand

pub returns-clause-links : goal.returns-clause-links
returns-clause-links c = links_are

pub returns-clause-up : goal.returns-clause-up
returns-clause-up c = up_not_lost

pub returns-clause-calm : goal.returns-clause-calm
returns-clause-calm c = none_is_lost

pub returns-clause-none_fails : goal.returns-clause-none_fails
returns-clause-none_fails c = none_fails

pub returns-clause-none_is_lost : goal.returns-clause-none_is_lost
returns-clause-none_is_lost c = never_lost
