-- What a row of calls makes of a world in the making, from what each of them does.
use Rattle.std.proofs.Common.{◌≡◌, ℕ, ◌++◌, Bool, true, false, List, [], ◌∷◌, Option, Some, refl, sym, ◌∙◌, ap, subst}
use Rattle.std.specs.Prelude.{slice_index_or, if◌then◌else◌}
use Rattle.circuit_model.specs.declared.channel.Slot.{Slot}
use Rattle.circuit_model.specs.declared.circuit.Kind.{Kind}
use Rattle.circuit_model.specs.Holding.{Connect, Clear as Clear_slot}
use Rattle.circuit_map.specs.Connections.{Connections}
use Rattle.q931_codec.specs.declared.kind.MessageKind.{MessageKind}
use Rattle.q931_codec.specs.declared.kind.MessageKind.TheVariants as kind
use Rattle.q931_codec.specs.CallStates.{active, call_delivered, call_received}
use Rattle.q931_codec.specs.Outgoing.{OutgoingMessage, encoding}
use Rattle.call_states.specs.declared.leg.Leg.{Leg}
use Rattle.tone_rules.specs.declared.tones.Tones.{Tones}
use Rattle.call_states.specs.declared.leg.HeldLeg.{HeldLeg}
use Rattle.exchange_events.specs.declared.signal.Signal.{Signal}
use Rattle.call_profile.specs.Acts.{with_progress, message_to, disconnect, in_state, in_disconnect_indication, tone_of, with_peer, clear_with, answered, on_alerting, on_connect}
use Rattle.call_profile.specs.Course.{Course}
use Rattle.call_profile.specs.Legs.{Legs, waiting_from, with_leg}
use Rattle.call_profile.specs.Operations.{Making, Clear, Pair, Sound, Put, Await, making_after, making_after_all, moves_for, with_tone}
use Rattle.call_control.specs.Standing.{Holds, Makes, PerformsQuietly}
use Rattle.exchange_events.specs.Sizes.{Dimensions}
use Rattle.call_profile.specs.World.{World, obey}
use Rattle.call_control.proofs.MakingLemmas.{makes_clear, makes_put, makes_sound, makes_send}

-- a slot is cleared, and connected with another
pub connected_makes : (d : Dimensions) (map cleared connected : Connections) (legs once then_legs : Legs) (x y : Slot) (moves : ℕ × ℕ)
    → ((w : World) → Holds d map legs w → Holds d cleared once (obey d w (Clear_slot x)))
    → ((w : World) → Holds d cleared once w → Holds d connected then_legs (obey d w (Connect x y)))
    → ((w : World) → Holds d cleared once w → moves ≡ moves_for d w.layout x y)
    → (m : Making) → Makes d map legs m.sends m.moves m → Makes d connected then_legs m.sends (Some moves) (making_after_all d m (Clear x ∷ Pair x y ∷ []))
connected_makes d map cleared connected legs once then_legs x y moves clears pairs moves_are m made =
    let one = clears m.world made.holds in
    record { holds = pairs _ one; sent = refl; moves = ap (λ (p : ℕ × ℕ). Some p) (moves_are _ one) }

-- the other leg of a call is cleared with a cause, and gets a tone
pub disconnected_makes : (d : Dimensions) (tones : Tones) (map cleared put sounds : Connections) (legs once twice thrice : Legs) (sends then_sends : List Signal) (moved then_moved : Option (ℕ × ℕ))
    (o : Option HeldLeg) (h : HeldLeg) (cause : ℕ) (alone : Leg) (tone : Option Kind) (message : OutgoingMessage)
    → o ≡ Some h → alone ≡ in_disconnect_indication cause h.leg → tone ≡ tone_of tones alone → message ≡ with_progress tone (disconnect h.leg cause)
    → ((w : World) → Holds d map legs w → Holds d cleared once (obey d w (Clear_slot h.slot)))
    → put ≡ cleared → twice ≡ with_leg once h.slot (waiting_from cleared.next alone)
    → ((w : World) → Holds d put twice w → Holds d sounds thrice (record w { holding = with_tone w.holding h.slot tone }))
    → then_sends ≡ sends ++ record { line = h.slot.line; octets = encoding message } ∷ [] → then_moved ≡ moved
    → (m : Making) → Makes d map legs sends moved m → Makes d sounds thrice then_sends then_moved (making_after_all d m (with_peer o (clear_with tones cause)))
disconnected_makes d tones map cleared put sounds legs once twice thrice sends then_sends moved then_moved o h cause alone tone message is alone_is tone_is message_is clears same legs_are sound sends_are moved_are m made =
    let gone : Leg = in_disconnect_indication cause h.leg in
    let hears : Option Kind = tone_of tones gone in
    let tone_named : tone ≡ hears = tone_is ∙ ap (tone_of tones) alone_is in
    let named : message ≡ with_progress hears (disconnect h.leg cause) = message_is ∙ ap (λ (t : Option Kind). with_progress t (disconnect h.leg cause)) tone_named in
    let m1 : Making = making_after d m (Clear h.slot) in
    let one = makes_clear d map cleared legs once sends sends moved moved m made h.slot clears in
    let m2 : Making = making_after d m1 (Put h.slot gone) in
    let two = makes_put d cleared put once twice sends sends moved moved m1 one h.slot gone same (legs_are ∙ ap (λ (l : Leg). with_leg once h.slot (waiting_from cleared.next l)) alone_is) in
    let m3 : Making = making_after d m2 (Sound h.slot hears) in
    let three = makes_sound d put sounds twice thrice sends sends moved moved m2 two h.slot hears
    (subst (λ (t : Option Kind). (w : World) → Holds d put twice w → Holds d sounds thrice (record w { holding = with_tone w.holding h.slot t })) tone_named sound) in
    let four = makes_send d sounds sounds thrice thrice sends then_sends moved then_moved m3 three h.slot.line message (with_progress hears (disconnect h.leg cause)) named sends_are moved_are in
    rw is four

-- the called user is being alerted, and the caller gets a tone
pub alerted_makes : (d : Dimensions) (tones : Tones) (map first put sounds : Connections) (legs once twice thrice : Legs) (sends then_sends : List Signal) (moved then_moved : Option (ℕ × ℕ))
    (o : Option HeldLeg) (h c : HeldLeg) (received waits : Leg) (tone : Option Kind) (message : OutgoingMessage)
    → o ≡ Some c → received ≡ in_state call_received h.leg → waits ≡ in_state call_delivered c.leg → tone ≡ tone_of tones waits → message ≡ with_progress tone (message_to c.leg kind.Alerting)
    → first ≡ map → once ≡ with_leg legs h.slot (waiting_from map.next received)
    → put ≡ first → twice ≡ with_leg once c.slot (waiting_from first.next waits)
    → ((w : World) → Holds d put twice w → Holds d sounds thrice (record w { holding = with_tone w.holding c.slot tone }))
    → then_sends ≡ sends ++ record { line = c.slot.line; octets = encoding message } ∷ [] → then_moved ≡ moved
    → (m : Making) → Makes d map legs sends moved m → Makes d sounds thrice then_sends then_moved (making_after_all d m (with_peer o (on_alerting tones h)))
alerted_makes d tones map first put sounds legs once twice thrice sends then_sends moved then_moved o h c received waits tone message is received_is waits_is tone_is message_is same once_is same_too twice_is sound sends_are moved_are m made =
    let rings : Leg = in_state call_received h.leg in
    let delivered : Leg = in_state call_delivered c.leg in
    let hears : Option Kind = tone_of tones delivered in
    let tone_named : tone ≡ hears = tone_is ∙ ap (tone_of tones) waits_is in
    let named : message ≡ with_progress hears (message_to c.leg kind.Alerting) = message_is ∙ ap (λ (t : Option Kind). with_progress t (message_to c.leg kind.Alerting)) tone_named in
    let m1 : Making = making_after d m (Put h.slot rings) in
    let one = makes_put d map first legs once sends sends moved moved m made h.slot rings same (once_is ∙ ap (λ (l : Leg). with_leg legs h.slot (waiting_from map.next l)) received_is) in
    let m2 : Making = making_after d m1 (Put c.slot delivered) in
    let two = makes_put d first put once twice sends sends moved moved m1 one c.slot delivered same_too (twice_is ∙ ap (λ (l : Leg). with_leg once c.slot (waiting_from first.next l)) waits_is) in
    let m3 : Making = making_after d m2 (Sound c.slot hears) in
    let three = makes_sound d put sounds twice thrice sends sends moved moved m2 two c.slot hears
    (subst (λ (t : Option Kind). (w : World) → Holds d put twice w → Holds d sounds thrice (record w { holding = with_tone w.holding c.slot t })) tone_named sound) in
    let four = makes_send d sounds sounds thrice thrice sends then_sends moved then_moved m3 three c.slot.line message (with_progress hears (message_to c.leg kind.Alerting)) named sends_are moved_are in
    rw is four

-- a message without elements, as it is sent to the user of a leg
abbrev pub told : HeldLeg → MessageKind → Signal
told h k = record { line = h.slot.line; octets = encoding (message_to h.leg k) }

-- a leg is answered, by what that makes of map and legs
pub answered_done : (d : Dimensions) (map map' : Connections) (legs legs' : Legs) (sends : List Signal) (moved : Option (ℕ × ℕ)) (down : Legs) (x : Slot) (leg named : Leg) → leg ≡ named → down.down ≡ legs.down
    → PerformsQuietly (answered legs x leg ∷ []) map legs map' legs' → (m : Making) → Makes d map legs sends moved m → Makes d map' legs' sends moved (making_after d m (answered down x named))
answered_done d map map' legs legs' sends moved down x leg named is same performs m made =
    let quiet = performs d m (record { holds = made.holds; sent = refl; moves = refl }) in
    let there : Makes d map' legs' m.sends m.moves (making_after d m (answered down x named)) =
    subst (λ (l : Leg). Makes d map' legs' m.sends m.moves (making_after d m (answered down x l))) is
    (subst (λ (ls : List Bool). Makes d map' legs' m.sends m.moves (making_after d m (if slice_index_or ls x.line false then Await x leg else Put x leg))) (sym same) quiet) in
    record { holds = there.holds; sent = made.sent ∙ there.sent; moves = made.moves ∙ there.moves }

-- the called user has answered
pub answered_makes : (d : Dimensions) (map connected put same : Connections) (legs once twice thrice : Legs) (sends one_sent two_sent : List Signal) (moved then_moved : Option (ℕ × ℕ)) (moves : ℕ × ℕ) (o : Option HeldLeg) (h c : HeldLeg)
    → o ≡ Some c
    → ((m : Making) → Makes d map legs m.sends m.moves m → Makes d connected once m.sends (Some moves) (making_after_all d m (Clear c.slot ∷ Pair c.slot h.slot ∷ [])))
    → ((m : Making) → Makes d connected once m.sends m.moves m → Makes d put twice m.sends m.moves (making_after d m (answered legs h.slot (in_state active h.leg))))
    → ((m : Making) → Makes d put twice m.sends m.moves m → Makes d same thrice m.sends m.moves (making_after d m (answered legs c.slot (in_state active c.leg))))
    → one_sent ≡ sends ++ told h kind.ConnectAcknowledge ∷ [] → two_sent ≡ one_sent ++ told c kind.Connect ∷ [] → then_moved ≡ Some moves
    → (m : Making) → Makes d map legs sends moved m → Makes d same thrice two_sent then_moved (making_after_all d m (with_peer o (on_connect legs h)))
answered_makes d map connected put same legs once twice thrice sends one_sent two_sent moved then_moved moves o h c is connects first second one_is two_is moved_is m made =
    let one = connects m (record { holds = made.holds; sent = refl; moves = refl }) in
    let m1 : Making = making_after_all d m (Clear c.slot ∷ Pair c.slot h.slot ∷ []) in
    let called = first m1 (record { holds = one.holds; sent = refl; moves = refl }) in
    let m2 : Making = making_after d m1 (answered legs h.slot (in_state active h.leg)) in
    let both = second m2 (record { holds = called.holds; sent = refl; moves = refl }) in
    rw is (record {
      holds = both.holds;
      sent = two_is ∙ ap (λ (list : List Signal). list ++ told c kind.Connect ∷ []) (one_is ∙ ap (λ (list : List Signal). list ++ told h kind.ConnectAcknowledge ∷ []) (made.sent ∙ one.sent ∙ called.sent ∙ both.sent));
      moves = moved_is ∙ one.moves ∙ called.moves ∙ both.moves;
    })

-- the course that is chosen
pub when_true : (b : Bool) → b ≡ true → (this that : Course) (P : Course → Type 0) → P this → P (if b then this else that)
when_true b is this that P p = rw is p

pub when_false : (b : Bool) → b ≡ false → (this that : Course) (P : Course → Type 0) → P that → P (if b then this else that)
when_false b is this that P p = rw is p
