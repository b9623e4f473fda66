-- The operations of the exchange on calls, in sequence. Source: this project.
use Rattle.std.specs.Prelude.{ℕ, List, [], ◌∷◌, ◌++◌, Option, Some, None, option_map}
use Rattle.circuit_model.specs.declared.channel.Slot.{Slot}
use Rattle.circuit_model.specs.declared.circuit.Kind.{Kind}
use Rattle.circuit_model.specs.Holding.{Holding, Connect, Seat as Take_seat, Give_tone, Clear as Clear_slot, after}
use Rattle.circuit_model.specs.Ports.{port_of, ports_with}
use Rattle.control_memory.specs.Layout.{Layout}
use Rattle.control_memory.specs.Connecting.{moved}
use Rattle.q931_codec.specs.Outgoing.{OutgoingMessage, encoding}
use Rattle.call_states.specs.declared.leg.Leg.{Leg}
use Rattle.call_states.specs.declared.leg.HeldLeg.{HeldLeg}
use Rattle.call_states.specs.declared.pending.Pending.{Pending}
use Rattle.call_states.specs.declared.condition.Condition.{Condition}
use Rattle.exchange_events.specs.declared.signal.Signal.{Signal}
use Rattle.call_profile.specs.Legs.{Legs, waiting_from, retransmitted_from, with_leg, with_waiting, with_kept, without_leg}
use Rattle.exchange_events.specs.Sizes.{Dimensions}
use Rattle.call_profile.specs.World.{World, obey, one_way, both_ways}

pub data Operation : Type 0 where
  -- every circuit that uses the slot is released
  Clear : (x : Slot) → Operation
  -- the two slots are connected, both ways
  Pair : (x y : Slot) → Operation
  -- the slot becomes a member of a room
  Seat : (x : Slot) (room : ℕ) → Operation
  -- the slot gets this tone, if there is one; an act is then the same list of operations whether tones are given or not
  Sound : (x : Slot) (kind : Option Kind) → Operation
  -- the slot is held by this leg from the next frame on, instead of any other, with no pending number and no stored
  -- message
  Put : (x : Slot) (leg : Leg) → Operation
  -- the same, with a pending number
  Wait : (x : Slot) (leg : Leg) (pending : Pending) → Operation
  -- the same, and this message goes to its user, and is stored for retransmission
  Expect : (x : Slot) (leg : Leg) (message : OutgoingMessage) → Operation
  -- the stored message of the leg is retransmitted to its user, and the wait of the leg restarts in the next frame
  Repeat : (h : HeldLeg) (octets : List ℕ) → Operation
  -- the slot is held by this leg, with no pending number and no stored message, and waits from the next frame on for the
  -- data link of its line
  Await : (x : Slot) (leg : Leg) → Operation
  -- the slot is held by no leg, with no pending number and no stored message, and its channel has this condition
  Remove : (x : Slot) (condition : Condition) → Operation
  -- a message goes to the user of a line
  Send : (line : ℕ) (message : OutgoingMessage) → Operation

-- an exchange state between two operations: the state, the messages sent so far, and the numbers of live paths that
-- moved, if a connection was made or a member joined
pub record Making : Type 0 where
  pub world : World
  pub sends : List Signal
  pub moves : Option (ℕ × ℕ)

abbrev pub making_at : World → Making
making_at w = record { world = w; sends = []; moves = None }

-- the numbers of live paths that move for a path there, and for the one back
abbrev pub moves_for : Dimensions → Layout → Slot → Slot → ℕ × ℕ
moves_for d layout x y = (moved layout (one_way d layout x y), moved (one_way d layout x y) (both_ways d layout x y))

abbrev pub moves_of_seat : Dimensions → World → Slot → Option (ℕ × ℕ)
moves_of_seat d w x = option_map (moves_for d w.layout x) (port_of d.external (ports_with x w.ports) x)

-- the circuits after a slot got a tone, if there is one: it sounds from the next frame on
abbrev pub with_tone : Holding → Slot → Option Kind → Holding
with_tone h x None = h
with_tone h x (Some kind) = after h (Give_tone x kind)

-- the exchange state with other legs
abbrev pub with_legs : World → Legs → World
with_legs w legs = record w { legs = legs }

-- a leg as stored in the exchange state: it waits from the next frame on
abbrev pub begun : World → Leg → Leg
begun w leg = waiting_from w.holding.next leg

abbrev pub making_after : Dimensions → Making → Operation → Making
making_after d m (Clear x) = record m { world = obey d m.world (Clear_slot x) }
making_after d m (Pair x y) = record m { world = obey d m.world (Connect x y); moves = Some (moves_for d m.world.layout x y) }
making_after d m (Seat x room) = record m { world = obey d m.world (Take_seat x room); moves = moves_of_seat d m.world x }
making_after d m (Sound x kind) = record m { world = record m.world { holding = with_tone m.world.holding x kind } }
making_after d m (Put x leg) = record m { world = with_legs m.world (with_leg m.world.legs x (begun m.world leg)) }
making_after d m (Wait x leg pending) = record m { world = with_legs m.world (with_waiting m.world.legs x (begun m.world leg) pending) }
making_after d m (Expect x leg message) = record m {
  world = with_legs m.world (with_kept m.world.legs x (begun m.world leg) (encoding message));
  sends = m.sends ++ record { line = x.line; octets = encoding message } ∷ [];
}
making_after d m (Repeat h octets) = record m {
  world = with_legs m.world (with_kept m.world.legs h.slot (retransmitted_from m.world.holding.next h.leg) octets);
  sends = m.sends ++ record { line = h.slot.line; octets = octets } ∷ [];
}
making_after d m (Await x leg) = record m { world = with_legs m.world (with_leg m.world.legs x (retransmitted_from m.world.holding.next leg)) }
making_after d m (Remove x condition) = record m { world = with_legs m.world (without_leg m.world.legs x condition) }
making_after d m (Send line message) = record m { sends = m.sends ++ record { line = line; octets = encoding message } ∷ [] }

abbrev pub making_after_all : Dimensions → Making → List Operation → Making
making_after_all d m [] = m
making_after_all d m (o ∷ os) = making_after_all d (making_after d m o) os
