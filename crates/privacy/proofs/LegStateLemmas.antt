-- The state of a leg to which digits come, and the legs of the first state.
use Rattle.std.proofs.Common.{◌≡◌, ◌*◌, Some, None, sym, ◌∙◌, subst, eqb-true}
use Rattle.circuit_model.specs.declared.channel.Slot.{Slot}
use Rattle.control_memory.specs.Layout.{number_of}
use Rattle.q931_codec.specs.declared.message.Message.{Message}
use Rattle.q931_codec.specs.CallStates.{overlap_sending}
use Rattle.q931_codec.specs.Contents.{call_state_in}
use Rattle.call_states.specs.Acts.{act_on, clearing_cause}
use Rattle.call_states.specs.declared.act.Act.TheVariants as act
use Rattle.call_states.specs.declared.leg.Leg.{Leg}
use Rattle.call_states.proofs.Causes.{cause_fits}
use Rattle.exchange_events.specs.Sizes.{Dimensions}
use Rattle.call_profile.specs.Legs.{leg_at}
use Rattle.call_profile.specs.World.{start}
use Rattle.call_profile.proofs.EntryLemmas.{get_or-bare}
use Rattle.call_profile.proofs.MessageToLegLemmas.{Asked, Asked-act_of}

-- digits come only to a leg in overlap sending
pub digits_overlap : (leg : Leg) (m : Message) → act_on leg.state m ≡ act.Digits → leg.state ≡ overlap_sending
digits_overlap leg m acts =
    let asked = subst (Asked leg.state) acts (Asked-act_of leg.state m.kind (clearing_cause m.elements) (call_state_in m.elements) (cause_fits m.elements)) in
    eqb-true leg.state overlap_sending asked

-- there is no leg before the first event
pub none_at_start : (d : Dimensions) (x : Slot) (leg : Leg) → leg_at (start d).legs x ≡ Some leg → ⊥
none_at_start d x leg at = let wrong : None ≡ Some leg = sym (get_or-bare Leg (30 * d.external) (number_of x)) ∙ at in cc
