-- What an accepted SETUP is given, and what it does.
use Rattle.std.proofs.Common.{◌≡◌, ℕ, ◌<◌, Bool, true, false, List, [], ◌∷◌, Some, None, sym, ◌∙◌, ap, subst, arith}
use Rattle.std.specs.Prelude.{is_none}
use Rattle.std.specs.List.{AllByRecursion}
use Rattle.circuit_model.specs.declared.channel.Slot.{Slot}
use Rattle.circuit_model.specs.Circuits.{is_idle}
use Rattle.circuit_model.specs.Extent.{IsExternal}
use Rattle.q931_codec.specs.declared.message.Message.{Message}
use Rattle.q931_codec.specs.Contents.{channel_in}
use Rattle.call_states.specs.declared.pending.Pending.{Pending}
use Rattle.number_plan.specs.declared.target.Found.TheVariants.{Line, Room}
use Rattle.call_profile.specs.IdleSlots.{lowest_called}
use Rattle.call_profile.specs.LegStanding.{CallsStand}
use Rattle.call_profile.specs.Legs.{Legs, leg_at, lowest_free_reference}
use Rattle.call_profile.specs.Permitted.{CanSeat}
use Rattle.exchange_events.specs.Sizes.{Setting, Dimensions}
use Rattle.call_profile.specs.Setup.{Check, checks, first_cause, refusal, caller_slot, target_of, call, call_line, accept, is_room_full}
use Rattle.call_profile.specs.World.{World, is_full}
use Rattle.call_profile.proofs.CommandLemmas.{both_true, count_by-is_member_not_full}
use Rattle.call_profile.proofs.SetupLemmas.{all_pass, all_from, caller_is}

-- ---- the operations

module _ (w : World) (first : Bool) (own : ℕ) (asked : Pending) (x : Slot) where
  pub accepts_line : (line : ℕ) (y : Slot) → lowest_called w x line ≡ Some y → accept first w own asked x (Line line) ≡ call_line first own asked x y (lowest_free_reference w.legs line)
  accepts_line line y chosen = ap (λ o. call first w own asked x (Line line) o) chosen

  pub accepts_full_line : (line : ℕ) → lowest_called w x line ≡ None → accept first w own asked x (Line line) ≡ []
  accepts_full_line line none = ap (λ o. call first w own asked x (Line line) o) none

-- ---- a call to a room can be seated

room_free : (s : Setting) (w : World) (line : ℕ) (m : Message) (room : ℕ) → refusal s w line m ≡ None → target_of s m ≡ Room room → is_full s.dimensions w ≡ false
room_free s w line m room accepted is = sym (ap (is_room_full s.dimensions w) is) ∙ (all_from 12 (checks s w line m) (all_pass (checks s w line m) accepted)).0

pub can_seat : (s : Setting) (w : World) (line : ℕ) (m : Message) (x : Slot) (room : ℕ) → CallsStand s w → IsExternal s.dimensions.external x → refusal s w line m ≡ None → caller_slot w line (channel_in m.elements) ≡ Some x
    → target_of s m ≡ Room room → CanSeat s.dimensions w x
can_seat s w line m x room stands within accepted at is = record {
  within = within;
  idle = (both_true (is_idle w.holding.circuits x) (is_none (leg_at w.legs x)) (caller_is w line (channel_in m.elements) x at).0).0;
  free = count_by-is_member_not_full s.dimensions.bridges w.holding stands.circuits (room_free s w line m room accepted is);
}

-- a slot that can be seated still can, whatever the legs are
pub can_still : (d : Dimensions) (w : World) (x : Slot) (legs : Legs) → CanSeat d w x → CanSeat d (record w { legs = legs }) x
can_still d w x legs can = record { within = can.within; idle = can.idle; free = can.free }

-- ---- a cause can be sent

-- each check's cause is below 128
abbrev pub SmallCauses : List Check → Type 0
SmallCauses cs = AllByRecursion (λ (c : Check). c.1 < 128) cs

small_step : (fails : Bool) (cause : ℕ) (cs : List Check) (why : ℕ) → cause < 128 → (first_cause cs ≡ Some why → why < 128) → first_cause ((fails, cause) ∷ cs) ≡ Some why → why < 128
small_step true cause cs why small later e = let f : Some cause ≡ Some why = e in let same : cause ≡ why = cc in subst (λ n. n < 128) same small
small_step false cause cs why small later e = later e

pub small_cause : (cs : List Check) (why : ℕ) → SmallCauses cs → first_cause cs ≡ Some why → why < 128
small_cause [] why small e = absurd cc
small_cause ((fails, cause) ∷ cs) why small e = small_step fails cause cs why small.0 (small_cause cs why small.1) e

pub refusal_small : (s : Setting) (w : World) (line : ℕ) (m : Message) (cause : ℕ) → refusal s w line m ≡ Some cause → cause < 128
refusal_small s w line m cause e =
    small_cause (checks s w line m) cause (omega arith, (omega arith, (omega arith, (omega arith, (omega arith, (omega arith, (omega arith, (omega arith, (omega arith, (omega arith, (omega arith, (omega arith, (omega arith, tt))))))))))))) e
