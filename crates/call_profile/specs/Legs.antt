-- The legs of calls, by the slots that they hold. Source: ITU-T Q.931 (05/98), 4.3, for call references and their flag;
-- the rest is this project's.
use Rattle.std.specs.Prelude.{ℕ, ◌+◌, ◌*◌, ◌&&◌, ◌==◌, ◌||◌, Bool, true, false, List, map, replicate, is_none, Option, Some, None, option_map, slice_index_or, slice_set, find, filter_map}
use Rattle.std.specs.List.{range_with_len, position_or_len}
use Rattle.circuit_model.specs.declared.channel.Slot.{Slot}
use Rattle.control_memory.specs.Layout.{number_of}
use Rattle.call_states.specs.declared.leg.Leg.{Leg}
use Rattle.call_states.specs.declared.leg.Side.{Side}
use Rattle.call_states.specs.declared.leg.Side.TheVariants.{Caller, Called}
use Rattle.call_states.specs.declared.leg.HeldLeg.{HeldLeg}
use Rattle.call_states.specs.declared.pending.Pending.{Pending}
use Rattle.call_states.specs.declared.condition.Condition.{Condition}
use Rattle.call_states.specs.declared.condition.Condition.TheVariants.{Idle}
use Rattle.call_states.specs.Conditions.{is_open, is_owing}

-- for each external slot, by its number, the leg that holds it, the number that is pending there, the octets of the
-- message that is stored there for retransmission, and the condition of the channel since its last leg was removed; and
-- for each external line whether its data link is down
pub record Legs : Type 0 where
  pub held : List (Option Leg)
  pub pending : List (Option Pending)
  pub kept : List (Option (List ℕ))
  pub conditions : List Condition
  pub down : List Bool

abbrev pub no_legs : ℕ → Legs
no_legs external = record {
  held = replicate (30 * external) None;
  pending = replicate (30 * external) None;
  kept = replicate (30 * external) None;
  conditions = replicate (30 * external) Idle;
  down = replicate external false;
}

-- the data link of a line is down
abbrev pub is_down : Legs → ℕ → Bool
is_down legs line = slice_index_or legs.down line false

abbrev pub with_link : Legs → ℕ → Bool → Legs
with_link legs line down = record legs { down = slice_set legs.down line down }

abbrev pub leg_at : Legs → Slot → Option Leg
leg_at legs x = slice_index_or legs.held (number_of x) None

abbrev pub pending_at : Legs → Slot → Option Pending
pending_at legs x = slice_index_or legs.pending (number_of x) None

abbrev pub kept_at : Legs → Slot → Option (List ℕ)
kept_at legs x = slice_index_or legs.kept (number_of x) None

abbrev pub condition_at : Legs → Slot → Condition
condition_at legs x = slice_index_or legs.conditions (number_of x) Idle

-- no leg holds the slot, and its user is owed a RESTART for it
abbrev pub is_owed : Legs → Slot → Bool
is_owed legs x = is_owing (condition_at legs x) && is_none (leg_at legs x)

-- no leg holds the slot, and its user has not confirmed that it is idle: RESTART was sent, or RELEASE twice
abbrev pub is_unconfirmed : Legs → Slot → Bool
is_unconfirmed legs x = is_open (condition_at legs x) && is_none (leg_at legs x)

-- the establishment of the data link sends RESTART for the slot
abbrev pub awaits_restart : Legs → Slot → Bool
awaits_restart legs x = is_owed legs x || is_unconfirmed legs x

-- a leg waits in its state from this frame on, after it gets its slot, and again after a retransmission; in active
-- the flag of a retransmission states that T309 runs (5.8.9)
abbrev pub waiting_from : ℕ → Leg → Leg
waiting_from next leg = record leg { since = next; resent = false }

abbrev pub retransmitted_from : ℕ → Leg → Leg
retransmitted_from next leg = record leg { since = next; resent = true }

-- the slot is held by this leg, if there is one, with no pending number and no stored message
abbrev pub with_entry : Legs → Slot → Option Leg → Legs
with_entry legs x leg = record legs {
  held = slice_set legs.held (number_of x) leg;
  pending = slice_set legs.pending (number_of x) None;
  kept = slice_set legs.kept (number_of x) None;
}

abbrev pub with_leg : Legs → Slot → Leg → Legs
with_leg legs x leg = with_entry legs x (Some leg)

abbrev pub without_leg : Legs → Slot → Condition → Legs
without_leg legs x condition = record (with_entry legs x None) { conditions = slice_set legs.conditions (number_of x) condition }

-- the slot is held by this leg, whose number is pending
abbrev pub with_waiting : Legs → Slot → Leg → Pending → Legs
with_waiting legs x leg pending = record legs {
  held = slice_set legs.held (number_of x) (Some leg);
  pending = slice_set legs.pending (number_of x) (Some pending);
  kept = slice_set legs.kept (number_of x) None;
}

-- the slot is held by this leg, and the message with these octets is stored there
abbrev pub with_kept : Legs → Slot → Leg → List ℕ → Legs
with_kept legs x leg octets = record legs {
  held = slice_set legs.held (number_of x) (Some leg);
  pending = slice_set legs.pending (number_of x) None;
  kept = slice_set legs.kept (number_of x) (Some octets);
}

-- the slots of a line, lowest first
unfoldable pub slots_of : ℕ → List Slot
slots_of line = map (λ place. record { line = line; place = place }) (range_with_len 0 30)

-- the leg of a slot, with the slot
abbrev pub held_at : Legs → Slot → Option HeldLeg
held_at legs x = option_map (λ leg. record { slot = x; leg = leg }) (leg_at legs x)

-- the legs of a line, by the places of their slots
abbrev pub legs_of : Legs → ℕ → List HeldLeg
legs_of legs line = filter_map (held_at legs) (slots_of line)

-- the side of the leg for a message with this flag: the side that chose a call reference value sends flag 0 with it, a
-- user chose a caller's value, and the exchange a called leg's, so a user's message with flag 0 is for a caller's leg,
-- and one with flag 1 for a called leg
abbrev pub side_named : Bool → Side
side_named false = Caller
side_named true = Called

abbrev pub same_side : Side → Side → Bool
same_side Caller Caller = true
same_side Caller Called = false
same_side Called Caller = false
same_side Called Called = true

-- a message with this flag and call reference is for the leg
abbrev pub is_addressed_to : Bool → ℕ → HeldLeg → Bool
is_addressed_to flag reference h = same_side (side_named flag) h.leg.side && (h.leg.reference == reference)

-- the leg of the line that such a message is for
abbrev pub leg_named : Legs → ℕ → Bool → ℕ → Option HeldLeg
leg_named legs line flag reference = find (is_addressed_to flag reference) (legs_of legs line)

-- the call reference of a new called leg: the lowest from 1 up that no called leg of the line has; a line has 30 slots,
-- so one of the first 30 is free if a slot is
abbrev pub is_unused : Legs → ℕ → ℕ → Bool
is_unused legs line reference = is_none (leg_named legs line true reference)

abbrev pub lowest_free_reference : Legs → ℕ → ℕ
lowest_free_reference legs line = 1 + position_or_len (is_unused legs line) (range_with_len 1 30)
