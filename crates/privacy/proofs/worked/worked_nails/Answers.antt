use Rattle.std.proofs.Common.{refl, inl, take}
use Rattle.exchange_events.specs.declared.trace.Event.TheVariants.{Nail}
use Rattle.call_profile.specs.WorkedCalls.{at}
use Rattle.call_profile.specs.Expiring.{outcome_of_lines}
use Rattle.call_profile.specs.Legs.{slots_of}
use Rattle.privacy.specs.Worked.{frames_from, two_nails}
use Rattle.privacy.proofs.worked.worked_nails.Goals as goal

pub returns-clause-nailed : goal.returns-clause-nailed
unfolding outcome_of_lines slots_of
returns-clause-nailed c = refl

pub returns-clause-octet : goal.returns-clause-octet
unfolding outcome_of_lines slots_of
returns-clause-octet c = refl

pub returns-clause-third : goal.returns-clause-third
unfolding outcome_of_lines slots_of
returns-clause-third c = refl

pub returns-clause-silent : goal.returns-clause-silent
unfolding outcome_of_lines slots_of
returns-clause-silent c = refl

pub returns-clause-again : goal.returns-clause-again
unfolding outcome_of_lines slots_of
returns-clause-again c = refl

pub returns-clause-former : goal.returns-clause-former
unfolding outcome_of_lines slots_of
returns-clause-former c = refl

no : ⊥ → ⊥
no h = h

pub returns-clause-by_command : goal.returns-clause-by_command
unfolding outcome_of_lines slots_of
returns-clause-by_command c = record {
  before = take 6 two_nails;
  after = frames_from 3 3;
  nail = Nail (at 0 0) (at 2 0);
  whole = refl;
  nails = inl refl;
  granted = (0, 0, refl);
  began = refl;
  stays = (no, (no, (no, tt)));
}
