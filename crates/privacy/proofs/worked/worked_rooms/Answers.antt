use Rattle.std.proofs.Common.{◌≡◌, ◌≢◌, [], refl, ap, inl, ⊎_elim, arith, drop}
use Rattle.circuit_model.specs.declared.channel.Slot.{Slot}
use Rattle.circuit_model.specs.ALaw.{decision_values}
use Rattle.call_profile.specs.Expiring.{outcome_of_lines}
use Rattle.call_profile.specs.Legs.{slots_of}
use Rattle.call_profile.specs.WorkedCalls.{at}
use Rattle.privacy.specs.Worked.{joins_and_leaves}
use Rattle.privacy.proofs.worked.worked_rooms.Goals as goal

pub returns-clause-early : goal.returns-clause-early
unfolding outcome_of_lines slots_of
returns-clause-early c = refl

pub returns-clause-newcomer : goal.returns-clause-newcomer
unfolding outcome_of_lines slots_of
returns-clause-newcomer c = refl

pub returns-clause-unheard : goal.returns-clause-unheard
unfolding outcome_of_lines slots_of
returns-clause-unheard c = refl

pub returns-clause-octet : goal.returns-clause-octet
unfolding decision_values outcome_of_lines slots_of
returns-clause-octet c = refl

pub returns-clause-joined : goal.returns-clause-joined
unfolding outcome_of_lines slots_of
returns-clause-joined c = refl

pub returns-clause-left : goal.returns-clause-left
unfolding outcome_of_lines slots_of
returns-clause-left c = refl

pub returns-clause-gone : goal.returns-clause-gone
unfolding outcome_of_lines slots_of
returns-clause-gone c = refl

pub returns-clause-outside : goal.returns-clause-outside
unfolding outcome_of_lines slots_of
returns-clause-outside c = refl

no : ⊥ → ⊥
no h = h

apart : at 2 0 ≢ at 0 0
apart e = let lines : 2 ≡ 0 = ap (λ (z : Slot). z.line) e in omega (arith, lines)

pub returns-clause-by_command : goal.returns-clause-by_command
unfolding outcome_of_lines slots_of
returns-clause-by_command c = inl (record {
  before = [];
  after = drop 1 joins_and_leaves;
  whole = refl;
  granted = (0, 0, refl);
  began = refl;
  stays = (no, (no, (no, (no, (no, (no, (no, (no, (no, (λ frees. ⊎_elim apart apart frees.0, (no, (no, (no, tt)))))))))))));
})
