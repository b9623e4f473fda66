-- Accepting a call ends none, and neither does a SETUP.
use Rattle.std.proofs.Common.{◌≡◌, ℕ, ◌*◌, ◌<◌, Bool, true, false, List, [], length, Option, Some, None, refl, sym, ◌∙◌, ap, subst}
use Rattle.std.specs.List.{list_all}
use Rattle.circuit_model.specs.declared.channel.Slot.{Slot}
use Rattle.circuit_model.specs.Extent.{IsExternal}
use Rattle.q931_codec.specs.declared.message.Message.{Message}
use Rattle.q931_codec.specs.Contents.{called_in, channel_in}
use Rattle.q931_codec.specs.CallStates.{overlap_sending, outgoing_call_proceeding}
use Rattle.call_states.specs.declared.leg.Peer.TheVariants as peer
use Rattle.number_plan.specs.declared.target.Found.{Found}
use Rattle.number_plan.specs.declared.target.Found.TheVariants.{Line, Lines, Room, More, Nothing}
use Rattle.call_profile.specs.CallRecords.{records, is_calling}
use Rattle.call_profile.specs.Calls.{making_by}
use Rattle.call_profile.specs.LegStanding.{CallsStand}
use Rattle.call_profile.specs.Legs.{Legs, is_down, leg_at, lowest_free_reference}
use Rattle.call_profile.specs.Operations.{Making, Wait, begun, making_at, making_after, making_after_all}
use Rattle.exchange_events.specs.Sizes.{Setting}
use Rattle.call_states.specs.declared.leg.Leg.{Leg}
use Rattle.call_states.specs.declared.pending.Pending.{Pending}
use Rattle.call_profile.specs.Setup.{caller_leg, called_leg, caller_slot, called_slot, target_of, call_asked, call_line, call_room, await_digits, call, accept, accept_at, setup, refusal, course_of_setup}
use Rattle.exchange_events.specs.Sound.{IsPlanned, line_exists}
use Rattle.call_profile.specs.World.{World}
use Rattle.call_profile.proofs.AnsweredLegLemmas.{answered_from, joined, making_joined, room_leg}
use Rattle.call_profile.proofs.BesideLemmas.{leg_at-with_entry_else}
use Rattle.call_profile.proofs.EndedCallLemmas.{no_record_where_kept}
use Rattle.call_profile.proofs.NewCallLemmas.{leg_at_empty_slot}
use Rattle.call_profile.proofs.RefusalLemmas.{no_records}
use Rattle.call_profile.proofs.SetupLemmas.{all_reached, caller_is, MayOffer-lowest_free_reference, offered_by_hunting, reached}
use Rattle.call_profile.proofs.LegTableLemmas.{leg_at_both_else}

-- a slot whose leg is in no call is not the slot of a caller's leg that calls
pub not_there : (legs : Legs) (x z : Slot) (leg : Leg) → is_calling (leg_at legs x) ≡ false → leg_at legs z ≡ Some leg → is_calling (Some leg) ≡ true → z ≡ x → ⊥
not_there legs x z leg silent at calls same =
    let wrong : true ≡ false = sym calls ∙ sym (ap is_calling at) ∙ ap (λ (q : Slot). is_calling (leg_at legs q)) same ∙ silent in
    cc

-- ---- what is done, by a SETUP or for more digits: the legs are put where no leg calls

module _ (s : Setting) (w : World) (first : Bool) (own : ℕ) (asked : Pending) (x : Slot) (size : length w.legs.held ≡ 30 * s.dimensions.external) (in_x : IsExternal s.dimensions.external x)
    (silent : is_calling (leg_at w.legs x) ≡ false) where
  records_line_ends : (y : Slot) (reference : ℕ) → IsExternal s.dimensions.external y → (y ≡ x → ⊥) → is_calling (leg_at w.legs y) ≡ false
      → records w (making_after_all s.dimensions (making_at w) (call_line first own asked x y reference)).world 0 ≡ []
  records_line_ends y reference in_y apart silent_y =
      no_record_where_kept s.dimensions.external w (making_after_all s.dimensions (making_at w) (call_line first own asked x y reference)).world 0 size
      (λ z leg in_z at calls.
      leg_at_both_else s.dimensions.external w.legs x y (Some (begun w (caller_leg outgoing_call_proceeding own (peer.Leg y)))) (Some (begun w (called_leg reference x))) size in_x in_y apart z in_z
      (not_there w.legs x z leg silent at calls) (not_there w.legs y z leg silent_y at calls) ∙ at)

  records_joined_ends : (room : ℕ) → records w (joined s.dimensions w first own x room).world 0 ≡ []
  records_joined_ends room =
      no_record_where_kept s.dimensions.external w (joined s.dimensions w first own x room).world 0 size
      (λ z leg in_z at calls. leg_at-with_entry_else s.dimensions.external w.legs x z (Some (answered_from (is_down w.legs x.line) w.holding.next (room_leg own room))) in_x in_z
      (not_there w.legs x z leg silent at calls) ∙ at)

  records_room_ends : (room : ℕ) → records w (making_after_all s.dimensions (making_at w) (call_room first w.legs own x room)).world 0 ≡ []
  records_room_ends room = subst (λ (m : Making). records w m.world 0 ≡ []) (sym (making_joined s.dimensions w first own x room)) (records_joined_ends room)

  records_wait_ends : records w (making_after s.dimensions (making_at w) (Wait x (caller_leg overlap_sending own peer.Alone) asked)).world 0 ≡ []
  records_wait_ends =
      no_record_where_kept s.dimensions.external w (making_after s.dimensions (making_at w) (Wait x (caller_leg overlap_sending own peer.Alone) asked)).world 0 size
      (λ z leg in_z at calls. leg_at-with_entry_else s.dimensions.external w.legs x z (Some (begun w (caller_leg overlap_sending own peer.Alone))) in_x in_z (not_there w.legs x z leg silent at calls) ∙ at)

  records_waiting_ends : (asks : Bool) → records w (making_after_all s.dimensions (making_at w) (await_digits asks own asked x)).world 0 ≡ []
  records_waiting_ends true = records_wait_ends
  records_waiting_ends false = records_wait_ends

  abbrev Exist : Found → Type 0
  Exist t = ((line : ℕ) → t ≡ Line line → line < s.dimensions.external) × ((lines : List ℕ) → t ≡ Lines lines → list_all (line_exists s.dimensions.external) lines ≡ true)

  records_call_ends : (t : Found) (o : Option Slot) → called_slot w x t ≡ o → Exist t
      → records w (making_after_all s.dimensions (making_at w) (call first w own asked x t o)).world 0 ≡ []
  records_call_ends (Line l) (Some y) chosen exist =
      let may = MayOffer-lowest_free_reference s w x l y (exist.0 l refl) chosen in
      records_line_ends y (lowest_free_reference w.legs l) may.in_y may.apart (ap is_calling (leg_at_empty_slot w y may.idle_y))
  records_call_ends (Line l) None chosen exist = no_records w 0
  records_call_ends (Lines ls) (Some y) chosen exist =
      let may = offered_by_hunting s w x ls y (exist.1 ls refl) chosen in
      records_line_ends y (lowest_free_reference w.legs y.line) may.in_y may.apart (ap is_calling (leg_at_empty_slot w y may.idle_y))
  records_call_ends (Lines ls) None chosen exist = no_records w 0
  records_call_ends (Room room) o chosen exist = records_room_ends room
  records_call_ends More o chosen exist = records_waiting_ends first
  records_call_ends Nothing o chosen exist = no_records w 0

  pub records_accepted_ends : (t : Found) → Exist t → records w (making_after_all s.dimensions (making_at w) (accept first w own asked x t)).world 0 ≡ []
  records_accepted_ends t exist = records_call_ends t (called_slot w x t) refl exist

-- ---- a SETUP

module _ (s : Setting) (w : World) (line : ℕ) (m : Message) (planned : IsPlanned s) (stands : CallsStand s w) (below : line < s.dimensions.external) where
  records_accept_ends : (o : Option Slot) → caller_slot w line (channel_in m.elements) ≡ o → records w (making_after_all s.dimensions (making_at w) (accept_at s w m o)).world 0 ≡ []
  records_accept_ends None at = no_records w 0
  records_accept_ends (Some x) at =
      let on = caller_is w line (channel_in m.elements) x at in
      records_accepted_ends s w true m.reference (call_asked m) x stands.legs.count (subst (λ n. n < s.dimensions.external) (sym on.1.0) below, on.1.1) (ap is_calling (leg_at_empty_slot w x on.0)) (target_of s m)
      ((λ l is. reached s (called_in m.elements) l planned is), (λ ls are. all_reached s (called_in m.elements) ls planned are))

  records_setup_by : (o : Option ℕ) → records w (making_after_all s.dimensions (making_at w) (setup s w line m o)).world 0 ≡ []
  records_setup_by (Some cause) = no_records w 0
  records_setup_by None = records_accept_ends (caller_slot w line (channel_in m.elements)) refl

pub records_setup_ends_none : (s : Setting) (w : World) (line : ℕ) (m : Message) → IsPlanned s → CallsStand s w → line < s.dimensions.external → records w (making_by s w (course_of_setup s w line m)).world 0 ≡ []
records_setup_ends_none s w line m planned stands below = records_setup_by s w line m planned stands below (refusal s w line m)
