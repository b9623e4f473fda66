use Rattle.std.proofs.Common.{refl}
use Rattle.q931_elements.specs.Reading.{elements_of, elements_within}
use Rattle.call_profile.specs.Expiring.{outcome_of_lines}
use Rattle.call_profile.specs.Legs.{slots_of}
use Rattle.report_text.specs.Report.{line_octets}
use Rattle.exchange_laws.proofs.worked.worked_items.Goals as goal

pub returns-clause-called : goal.returns-clause-called
unfolding elements_of elements_within line_octets outcome_of_lines slots_of
returns-clause-called c = refl

pub returns-clause-stranger : goal.returns-clause-stranger
unfolding elements_of elements_within line_octets outcome_of_lines slots_of
returns-clause-stranger c = refl

pub returns-clause-partner : goal.returns-clause-partner
unfolding elements_of elements_within line_octets outcome_of_lines slots_of
returns-clause-partner c = refl

pub returns-clause-third : goal.returns-clause-third
unfolding elements_of elements_within line_octets outcome_of_lines slots_of
returns-clause-third c = refl
