-- What each operation makes of a world in the making, by what it makes of map and legs.
use Rattle.std.proofs.Common.{◌≡◌, ℕ, List, [], ◌∷◌, ◌++◌, Option, refl, sym, ◌∙◌, ap, subst}
use Rattle.circuit_model.specs.declared.channel.Slot.{Slot}
use Rattle.circuit_model.specs.declared.circuit.Kind.{Kind}
use Rattle.circuit_model.specs.Holding.{Seat as Take_seat, Clear as Clear_slot}
use Rattle.circuit_map.specs.Connections.{Connections}
use Rattle.q931_codec.specs.Outgoing.{OutgoingMessage, encoding}
use Rattle.call_states.specs.declared.leg.Leg.{Leg}
use Rattle.call_states.specs.declared.pending.Pending.{Pending}
use Rattle.exchange_events.specs.declared.signal.Signal.{Signal}
use Rattle.call_profile.specs.Legs.{Legs, waiting_from, with_leg, with_waiting, with_kept}
use Rattle.call_profile.specs.Operations.{Clear, Seat, Sound, Put, Wait, Expect, Send, Making, begun, moves_of_seat, making_after, with_tone}
use Rattle.call_control.specs.Standing.{Holds, Makes}
use Rattle.exchange_events.specs.Sizes.{Dimensions}
use Rattle.call_profile.specs.World.{World, obey}

-- the legs are others
pub holds_with : (d : Dimensions) (map map' : Connections) (legs legs' : Legs) (w : World) → Holds d map legs w → map' ≡ map → Holds d map' legs' (record w { legs = legs' })
holds_with d map map' legs legs' w holds same =
    subst (λ m. Holds d m legs' (record w { legs = legs' })) (sym same) (record { sizes = holds.sizes; circuits = record { holds = holds.circuits.holds; layout = holds.circuits.layout }; legs_are = refl })

module _ (d : Dimensions) (map map' : Connections) (legs legs' : Legs) (sends sends' : List Signal) (moved moved' : Option (ℕ × ℕ)) (m : Making) (makes : Makes d map legs sends moved m) where
  pub makes_put : (x : Slot) (leg : Leg) → map' ≡ map → legs' ≡ with_leg legs x (waiting_from map.next leg) → Makes d map' legs' sends moved (making_after d m (Put x leg))
  makes_put x leg same put =
      let legs_are : legs' ≡ with_leg m.world.legs x (begun m.world leg) = put ∙ (λ i. with_leg (makes.holds.legs_are i) x (waiting_from (makes.holds.circuits.holds.next i) leg)) in
      record {
        holds = subst (λ ls. Holds d map' legs' (record m.world { legs = ls })) legs_are (holds_with d map map' legs legs' m.world makes.holds same);
        sent = makes.sent;
        moves = makes.moves;
      }

  pub makes_wait : (x : Slot) (leg : Leg) (p : Pending) → map' ≡ map → legs' ≡ with_waiting legs x (waiting_from map.next leg) p → Makes d map' legs' sends moved (making_after d m (Wait x leg p))
  makes_wait x leg p same waits =
      let legs_are : legs' ≡ with_waiting m.world.legs x (begun m.world leg) p = waits ∙ (λ i. with_waiting (makes.holds.legs_are i) x (waiting_from (makes.holds.circuits.holds.next i) leg) p) in
      record {
        holds = subst (λ ls. Holds d map' legs' (record m.world { legs = ls })) legs_are (holds_with d map map' legs legs' m.world makes.holds same);
        sent = makes.sent;
        moves = makes.moves;
      }

  pub makes_expect : (x : Slot) (leg : Leg) (message : OutgoingMessage) (octets : List ℕ) → octets ≡ encoding message → map' ≡ map → legs' ≡ with_kept legs x (waiting_from map.next leg) octets
      → sends' ≡ sends ++ record { line = x.line; octets = octets } ∷ [] → moved' ≡ moved → Makes d map' legs' sends' moved' (making_after d m (Expect x leg message))
  makes_expect x leg message octets is same waits more still =
      let legs_are : legs' ≡ with_kept m.world.legs x (begun m.world leg) (encoding message) = waits ∙ (λ i. with_kept (makes.holds.legs_are i) x (waiting_from (makes.holds.circuits.holds.next i) leg) (is i)) in
      record {
        holds = subst (λ ls. Holds d map' legs' (record m.world { legs = ls })) legs_are (holds_with d map map' legs legs' m.world makes.holds same);
        sent = more ∙ (λ i. makes.sent i ++ record { line = x.line; octets = is i } ∷ []);
        moves = still ∙ makes.moves;
      }

  pub makes_clear : (x : Slot) → ((w : World) → Holds d map legs w → Holds d map' legs' (obey d w (Clear_slot x))) → Makes d map' legs' sends moved (making_after d m (Clear x))
  makes_clear x holds = record { holds = holds m.world makes.holds; sent = makes.sent; moves = makes.moves }

  pub makes_sound : (x : Slot) (kind : Option Kind) → ((w : World) → Holds d map legs w → Holds d map' legs' (record w { holding = with_tone w.holding x kind }))
      → Makes d map' legs' sends moved (making_after d m (Sound x kind))
  makes_sound x kind holds = record { holds = holds m.world makes.holds; sent = makes.sent; moves = makes.moves }

  pub makes_seat : (x : Slot) (room : ℕ) → ((w : World) → Holds d map legs w → Holds d map' legs' (obey d w (Take_seat x room))) → ((w : World) → Holds d map legs w → moved' ≡ moves_of_seat d w x)
      → Makes d map' legs' sends moved' (making_after d m (Seat x room))
  makes_seat x room holds moves = record { holds = holds m.world makes.holds; sent = makes.sent; moves = moves m.world makes.holds }

  pub makes_send : (line : ℕ) (message named : OutgoingMessage) → message ≡ named → sends' ≡ sends ++ record { line = line; octets = encoding message } ∷ [] → moved' ≡ moved
      → Makes d map legs sends' moved' (making_after d m (Send line named))
  makes_send line message named is more same = record {
    holds = makes.holds;
    sent = more ∙ ap (λ (k : OutgoingMessage). sends ++ record { line = line; octets = encoding k } ∷ []) is ∙ ap (λ ss. ss ++ record { line = line; octets = encoding named } ∷ []) makes.sent;
    moves = same ∙ makes.moves;
  }

  pub makes_sent : (line : ℕ) (message : OutgoingMessage) → sends' ≡ sends ++ record { line = line; octets = encoding message } ∷ [] → moved' ≡ moved
      → Makes d map legs sends' moved' (making_after d m (Send line message))
  makes_sent line message more same = makes_send line message message refl more same
