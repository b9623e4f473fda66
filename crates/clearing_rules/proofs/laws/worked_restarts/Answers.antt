use Rattle.std.proofs.Common.{refl}
use Rattle.q931_elements.specs.Reading.{elements_of, elements_within}
use Rattle.clearing_rules.proofs.laws.worked_restarts.Goals as goal

pub returns-clause-interface : goal.returns-clause-interface
unfolding elements_of elements_within
returns-clause-interface c = refl

pub returns-clause-all : goal.returns-clause-all
unfolding elements_of elements_within
returns-clause-all c = refl

pub returns-clause-first : goal.returns-clause-first
unfolding elements_of elements_within
returns-clause-first c = refl

pub returns-clause-after_signalling : goal.returns-clause-after_signalling
unfolding elements_of elements_within
returns-clause-after_signalling c = refl

pub returns-clause-preferred : goal.returns-clause-preferred
unfolding elements_of elements_within
returns-clause-preferred c = refl

pub returns-clause-any : goal.returns-clause-any
unfolding elements_of elements_within
returns-clause-any c = refl

pub returns-clause-signalling : goal.returns-clause-signalling
unfolding elements_of elements_within
returns-clause-signalling c = refl

pub returns-clause-no_indicator : goal.returns-clause-no_indicator
unfolding elements_of elements_within
returns-clause-no_indicator c = refl

pub returns-clause-interface_acknowledged : goal.returns-clause-interface_acknowledged
unfolding elements_of elements_within
returns-clause-interface_acknowledged c = refl

pub returns-clause-channel_acknowledged : goal.returns-clause-channel_acknowledged
unfolding elements_of elements_within
returns-clause-channel_acknowledged c = refl

pub returns-clause-acknowledges_interface : goal.returns-clause-acknowledges_interface
unfolding elements_of elements_within
returns-clause-acknowledges_interface c = refl

pub returns-clause-acknowledges_channel : goal.returns-clause-acknowledges_channel
unfolding elements_of elements_within
returns-clause-acknowledges_channel c = refl
