-- The record of the call of a leg whose T309 expires.
use Rattle.std.proofs.Common.{◌≡◌, ℕ, suc, ◌<◌, ◌≤◌, Bool, true, false, inl, inr, not, filter, find, List, [], ◌∷◌, ◌++◌, Option, Some, None, refl, sym, ◌∙◌, ap, subst, arith, Contains, IfSome, if◌then◌else◌}
use Rattle.std.specs.Prelude.{◌==◌, option_map, option_and_then}
use Rattle.std.specs.List.{cons_option}
use Rattle.std.proofs.lemmas.Grind.{common_steps}
use Rattle.std.proofs.lemmas.List.Elements.{Contains-append_left, Contains-append_right}
use Rattle.circuit_model.specs.declared.channel.Slot.{Slot}
use Rattle.circuit_model.specs.declared.circuit.Circuit.{Circuit}
use Rattle.circuit_model.specs.declared.circuit.Circuit.TheVariants.{Tone}
use Rattle.circuit_model.specs.Circuits.{heard_by, listener, names, same_slot}
use Rattle.circuit_model.specs.Extent.{IsExternal}
use Rattle.circuit_model.specs.FrameInput.{Input}
use Rattle.circuit_model.proofs.Hearing.{heard_by-stands}
use Rattle.circuit_model.proofs.Slots.{true_or_false}
use Rattle.q931_codec.specs.CallStates.{active}
use Rattle.q931_codec.specs.Causes.{destination_out_of_order, no_answer_from_user, no_user_responding}
use Rattle.call_timers.specs.declared.expiry.Expiry.{Expiry}
use Rattle.call_timers.specs.declared.expiry.Expiry.TheVariants as expiry
use Rattle.call_states.specs.declared.leg.HeldLeg.{HeldLeg}
use Rattle.call_states.specs.declared.leg.Leg.{Leg}
use Rattle.call_states.specs.declared.leg.Peer.{Peer}
use Rattle.call_states.specs.declared.leg.Peer.TheVariants as peer
use Rattle.call_states.specs.declared.leg.Side.{Side}
use Rattle.call_states.specs.declared.leg.Side.TheVariants.{Caller, Called}
use Rattle.exchange_events.specs.declared.record.CallRecord.{CallRecord}
use Rattle.exchange_events.specs.declared.record.Party.{Party}
use Rattle.exchange_events.specs.Sizes.{Setting, Dimensions}
use Rattle.tone_rules.specs.declared.tones.Tones.{Tones}
use Rattle.call_profile.specs.Acts.{peer_of, with_peer, clear_with}
use Rattle.call_profile.specs.CallRecords.{is_calling, party_of, record_of, since_heard}
use Rattle.call_profile.specs.EndedCalls.{caller_in, expired_records, record_calling, record_ended}
use Rattle.call_profile.specs.Expiring.{send_again, on_expiry, expire_slot, slot_looked_at, outcome_of_lines}
use Rattle.call_profile.specs.Legs.{Legs, leg_at, kept_at}
use Rattle.call_profile.specs.LegStanding.{CallsStand, HasPeer, IsInCall, MayHear}
use Rattle.call_laws.specs.LostLegs.{IsLost, IsLostFirst, IsLossRecorded}
use Rattle.call_profile.specs.Operations as op
use Rattle.call_profile.specs.Operations.{Operation, Making, making_after, making_after_all}
use Rattle.call_profile.specs.Restarts.{MessageOutcome}
use Rattle.call_profile.specs.World.{World, pass}
use Rattle.call_profile.proofs.ClearingLemmas.{Kept, held_there}
use Rattle.call_profile.proofs.CommandLemmas.{pass_kept}
use Rattle.call_profile.proofs.ExpiredRecordLemmas.{records_slot_told}
use Rattle.call_profile.proofs.ExpiringLemmas.{at_slot, lines_kept, lines_none, lines_more, place_within}
use Rattle.call_laws.proofs.ExpiryChangeLemmas.{Apart}
use Rattle.call_laws.proofs.ExpirySinceLemmas.{outcome_of_lines_next}
use Rattle.call_profile.proofs.HearingLemmas.{names_unnamed}
use Rattle.call_laws.proofs.LostLegLemmas.{IsAside, away_by, through, leg_active, leg_aside_before, leg_before, other_aside_before, other_before, in_y, in_call, is_looked_at, other_active}
use Rattle.call_laws.proofs.RecordedCallLemmas.{calling_record}

-- ---- a circuit that is found stays so

find_kept : (p r : Circuit → Bool) (cs : List Circuit) (c : Circuit) → find p cs ≡ Some c → r c ≡ true → find p (filter r cs) ≡ Some c
find_kept p r [] c found keeps = absurd cc
find_kept p r (a ∷ rest) c found keeps = elim (true_or_false (p a)) [
  | inl passes ↦
      let e : Some a ≡ Some c = rw passes at found in
      let same : a ≡ c = cc in
      let stays : r a ≡ true = ap r same ∙ keeps in
      rw (stays, passes) e
  | inr fails ↦
      let later : find p rest ≡ Some c = rw fails at found in
      elim (true_or_false (r a)) [
        | inl stays ↦ rw (stays, fails) (find_kept p r rest c later keeps)
        | inr goes ↦ rw goes (find_kept p r rest c later keeps)
      ]
]

find_first : (p : Circuit → Bool) (cs more : List Circuit) (c : Circuit) → find p cs ≡ Some c → find p (cs ++ more) ≡ Some c
find_first p [] more c found = absurd cc
find_first p (a ∷ rest) more c found = elim (true_or_false (p a)) [
  | inl passes ↦ let e : Some a ≡ Some c = rw passes at found in rw passes e
  | inr fails ↦ let later : find p rest ≡ Some c = rw fails at found in rw fails (find_first p rest more c later)
]

-- ---- operations that don't clear it

module _ (c : Circuit) where
  abbrev Keeps : Operation → Type 0
  Keeps (op.Clear x) = names x c ≡ false
  Keeps (op.Pair x y) = Unit {0}
  Keeps (op.Seat x room) = Unit {0}
  Keeps (op.Sound x kind) = Unit {0}
  Keeps (op.Put x leg) = Unit {0}
  Keeps (op.Wait x leg p) = Unit {0}
  Keeps (op.Expect x leg message) = Unit {0}
  Keeps (op.Repeat h octets) = Unit {0}
  Keeps (op.Await x leg) = Unit {0}
  Keeps (op.Remove x condition) = Unit {0}
  Keeps (op.Send line message) = Unit {0}

  abbrev KeepsAll : List Operation → Type 0
  KeepsAll [] = Unit {0}
  KeepsAll (o ∷ os) = Keeps o × KeepsAll os

  heard_still : (d : Dimensions) (z : Slot) (m : Making) (o : Operation) → Keeps o → heard_by m.world.holding.circuits z ≡ Some c → heard_by (making_after d m o).world.holding.circuits z ≡ Some c
  heard_still d z m (op.Clear x) keeps heard = find_kept (λ k. same_slot z (listener k)) (λ k. not (names x k)) m.world.holding.circuits c heard (ap not keeps)
  heard_still d z m (op.Pair x y) keeps heard = find_first (λ k. same_slot z (listener k)) m.world.holding.circuits _ c heard
  heard_still d z m (op.Seat x room) keeps heard = find_first (λ k. same_slot z (listener k)) m.world.holding.circuits _ c heard
  heard_still d z m (op.Sound x None) keeps heard = heard
  heard_still d z m (op.Sound x (Some kind)) keeps heard = find_first (λ k. same_slot z (listener k)) m.world.holding.circuits (Tone kind x m.world.holding.next ∷ []) c heard
  heard_still d z m (op.Put x leg) keeps heard = heard
  heard_still d z m (op.Wait x leg p) keeps heard = heard
  heard_still d z m (op.Expect x leg message) keeps heard = heard
  heard_still d z m (op.Repeat h octets) keeps heard = heard
  heard_still d z m (op.Await x leg) keeps heard = heard
  heard_still d z m (op.Remove x condition) keeps heard = heard
  heard_still d z m (op.Send line message) keeps heard = heard

  heard_still_all : (d : Dimensions) (z : Slot) (m : Making) (os : List Operation) → KeepsAll os → heard_by m.world.holding.circuits z ≡ Some c → heard_by (making_after_all d m os).world.holding.circuits z ≡ Some c
  heard_still_all d z m [] keeps heard = heard
  heard_still_all d z m (o ∷ os) keeps heard = heard_still_all d z (making_after d m o) os keeps.1 (heard_still d z m o keeps.0 heard)

  -- ---- an expiry

  abbrev PeerKeeps : Option HeldLeg → Type 0
  PeerKeeps o = IfSome o (λ k. names k.slot c ≡ false)

  peer_keeps : (tones : Tones) (cause : ℕ) (o : Option HeldLeg) → PeerKeeps o → KeepsAll (with_peer o (clear_with tones cause))
  peer_keeps tones cause None away = tt
  peer_keeps tones cause (Some k) away = (away, (tt, (tt, (tt, tt))))

  again_keeps : (h : HeldLeg) (o : Option (List ℕ)) → KeepsAll (send_again h o)
  again_keeps h None = tt
  again_keeps h (Some octets) = (tt, tt)

  expiry_keeps : (tones : Tones) (legs : Legs) (h : HeldLeg) (e : Expiry) → names h.slot c ≡ false → PeerKeeps (peer_of legs h.leg.peer) → KeepsAll (on_expiry tones legs h e)
  expiry_keeps tones legs h expiry.Digits own other = (own, (tt, (tt, (tt, tt))))
  expiry_keeps tones legs h expiry.SetupAgain own other = again_keeps h (kept_at legs h.slot)
  expiry_keeps tones legs h expiry.SetupOver own other = (own, (tt, (tt, peer_keeps tones no_user_responding (peer_of legs h.leg.peer) other)))
  expiry_keeps tones legs h expiry.Proceeding own other = (own, (tt, (tt, (tt, peer_keeps tones no_user_responding (peer_of legs h.leg.peer) other))))
  expiry_keeps tones legs h expiry.Alerting own other = (own, (tt, (tt, (tt, peer_keeps tones no_answer_from_user (peer_of legs h.leg.peer) other))))
  expiry_keeps tones legs h expiry.Outage own other = (own, (tt, peer_keeps tones destination_out_of_order (peer_of legs h.leg.peer) other))
  expiry_keeps tones legs h expiry.Disconnect own other = (tt, tt)
  expiry_keeps tones legs h expiry.ReleaseAgain own other = again_keeps h (kept_at legs h.slot)
  expiry_keeps tones legs h expiry.ReleaseOver own other = (own, (tt, tt))

-- the other leg of a call whose timer expires is at no slot of the circuit
none_named : (tones : Tones) (l : Leg) (z : Slot) (c : Circuit) → MayHear tones l (Some c) → same_slot z (listener c) ≡ true → (o : Option HeldLeg) → IfSome o (λ k. z ≡ k.slot → ⊥)
    → ((p : Slot) → l.peer ≡ peer.Leg p → IfSome o (λ k. p ≡ k.slot → ⊥)) → PeerKeeps c o
none_named tones l z c may hears None own other = tt
none_named tones l z c may hears (Some k) own other = names_unnamed tones l z k.slot c may hears own (λ p is. other p is)

apart_slots : (d : Dimensions) (z : Slot) (in_z : IsExternal d.external z) (o : Option HeldLeg) → IfSome o (λ k. Apart d z in_z k.slot) → IfSome o (λ k. z ≡ k.slot → ⊥)
apart_slots d z in_z None away = tt
apart_slots d z in_z (Some k) away = away.1

-- ---- the record of a caller's leg

abbrev record_with : ℕ → ℕ → Option Circuit → HeldLeg → Option CallRecord
record_with cause next heard h = option_map (λ (called : Party). let c : CallRecord = record {
  caller = h.slot;
  called = called;
  answered = h.leg.state == active;
  from = if h.leg.state == active then since_heard next heard else next;
  to = next;
  cause = cause;
} in c) (party_of h.leg.peer)

record_is_with : (w : World) (cause : ℕ) (h : HeldLeg) → record_of w cause h ≡ record_with cause w.holding.next (heard_by w.holding.circuits h.slot) h
record_is_with w cause h = refl

same_record : (u w : World) (cause : ℕ) (h : HeldLeg) → u.holding.next ≡ w.holding.next → heard_by u.holding.circuits h.slot ≡ heard_by w.holding.circuits h.slot → record_of u cause h ≡ record_of w cause h
same_record u w cause h next heard =
    record_is_with u cause h
    ∙ ap (λ (n : ℕ). record_with cause n (heard_by u.holding.circuits h.slot) h) next
    ∙ ap (λ (o : Option Circuit). record_with cause w.holding.next o h) heard
    ∙ sym (record_is_with w cause h)

pub calling_active : (leg : Leg) → leg.side ≡ Caller → leg.state ≡ active → is_calling (Some leg) ≡ true
calling_active leg side state = rw (side, state) refl

pub calling_is : (w : World) (cause : ℕ) (h : HeldLeg) → is_calling (Some h.leg) ≡ true → record_calling w cause h ≡ record_of w cause h
calling_is w cause h calls = rw calls refl

-- the caller of a leg's call
pub ended_caller : (w : World) (cause : ℕ) (h : HeldLeg) (o : Option HeldLeg) (side : Side) → side ≡ Caller → option_and_then (record_calling w cause) (caller_in side h o) ≡ record_calling w cause h
ended_caller w cause h o side is = rw is refl

pub ended_called : (w : World) (cause : ℕ) (h k : HeldLeg) (o : Option HeldLeg) (side : Side) → side ≡ Called → o ≡ Some k → option_and_then (record_calling w cause) (caller_in side h o) ≡ record_calling w cause k
ended_called w cause h k o side is at = rw (is, at) refl

module _ (s : Setting) (frame : ℕ) (w : World) (kept : Kept s.dimensions s.tones w) (later : frame < w.holding.next) where
  abbrev d : Dimensions
  d = s.dimensions

  abbrev made : ℕ → Making
  made n = (outcome_of_lines s frame w n).making

  -- ---- the turn of a line

  module _ (line : ℕ) (small : line < d.external) (z : Slot) (in_z : IsExternal d.external z) (l : Leg) (c : Circuit) (may : MayHear s.tones l (Some c)) (aside : IsAside s frame w kept later line small z in_z)
      (others : (p : Slot) → l.peer ≡ peer.Leg p → (in_p : IsExternal d.external p) × IsAside s frame w kept later line small p in_p) where
    abbrev here : Slot
    here = slot_looked_at frame line

    abbrev mid : Making
    mid = made line

    abbrev turn : List Operation
    turn = expire_slot s frame mid.world.legs here

    within : IsExternal d.external here
    within = place_within d.external frame line small

    kept_now : Kept d s.tones mid.world
    kept_now = lines_kept s frame w kept line (omega (arith, small))

    turn_keeps : heard_by mid.world.holding.circuits z ≡ Some c → KeepsAll c turn
    turn_keeps heard = at_slot s frame mid.world.legs here (KeepsAll c) tt (λ leg e at due.
        let hears = (heard_by-stands mid.world.holding.circuits z c heard).1 in
        let far = aside leg e at due in
        let has_peer = (kept_now.1.each here leg within at).peer in
        let o = peer_of mid.world.legs leg.peer in
        let own = apart_slots d z in_z o (away_by s frame w kept later line small z in_z leg leg.peer far.1 has_peer) in
        let peers : (p : Slot) → l.peer ≡ peer.Leg p → IfSome o (λ k. p ≡ k.slot → ⊥) = λ p is.
        let other = others p is in
        apart_slots d p other.0 o (away_by s frame w kept later line small p other.0 leg leg.peer (other.1 leg e at due).1 has_peer) in
        expiry_keeps c s.tones mid.world.legs (record { slot = here; leg = leg }) e
        (names_unnamed s.tones l z here c may hears far.0 (λ p is. ((others p is).1 leg e at due).0))
        (none_named s.tones l z c may hears o own peers))

    pub heard_then : heard_by mid.world.holding.circuits z ≡ Some c → heard_by (made (suc line)).world.holding.circuits z ≡ Some c
    heard_then heard =
        subst (λ (n : Making). heard_by n.world.holding.circuits z ≡ Some c) (sym (ap (λ (a : MessageOutcome). a.making) (lines_more s frame w line)))
        (heard_still_all c d z mid turn (turn_keeps heard) heard)

  told_then : (line : ℕ) (one : CallRecord) → Contains (outcome_of_lines s frame w line).recorded one → Contains (outcome_of_lines s frame w (suc line)).recorded one
  told_then line one told = subst (λ (a : MessageOutcome). Contains a.recorded one) (sym (lines_more s frame w line)) (Contains-append_left (outcome_of_lines s frame w line).recorded _ one told)

  -- ---- the call of a leg whose T309 expires first

  module _ (x : Slot) (leg : Leg) (in_x : IsExternal d.external x) (lost : IsLost s.timers frame w.legs x leg)
      (first : (y : Slot) (other : Leg) → leg.peer ≡ peer.Leg y → IsLost s.timers frame w.legs y other → x.line ≤ y.line) where
    below : x.line < d.external
    below = in_x.0

    abbrev now : World
    now = (made x.line).world

    abbrev h : HeldLeg
    h = record { slot = x; leg = leg }

    up : leg.state ≡ active
    up = leg_active s frame w kept later x leg in_x lost first

    at_x : (n : ℕ) → n ≤ x.line → leg_at (made n).world.legs x ≡ Some leg
    at_x n few = leg_before s frame w kept later x leg in_x lost first n few

    x_aside : (line : ℕ) (high : line < x.line) (small : line < d.external) → IsAside s frame w kept later line small x in_x
    x_aside line high small = leg_aside_before s frame w kept later x leg in_x lost first line high small (at_x line (omega (arith, high)))

    next_now : now.holding.next ≡ w.holding.next
    next_now = outcome_of_lines_next s frame w kept x in_x x.line (omega (arith, below))

    module _ (y : Slot) (other : Leg) (named : leg.peer ≡ peer.Leg y) (at_y : leg_at w.legs y ≡ Some other) where
      there : IsExternal d.external y
      there = in_y s frame w kept later x leg in_x lost first y other named at_y

      y_aside : (line : ℕ) (high : line < x.line) (small : line < d.external) → IsAside s frame w kept later line small y there
      y_aside line high small =
          other_aside_before s frame w kept later x leg in_x lost first y other named at_y line high small (other_before s frame w kept later x leg in_x lost first y other named at_y line (omega (arith, high)))

    -- the other leg, if it is one
    other_aside : (line : ℕ) (high : line < x.line) (small : line < d.external) (p : Slot) → leg.peer ≡ peer.Leg p → (in_p : IsExternal d.external p) × IsAside s frame w kept later line small p in_p
    other_aside line high small p is =
        let has = subst (HasPeer d.external w.legs x leg) is (kept.1.each x leg in_x lost.at).peer in
        (there p has.1.0 is has.1.1, y_aside p has.1.0 is has.1.1 line high small)

    start : (z : Slot) (o : Option Circuit) → heard_by w.holding.circuits z ≡ o → heard_by (made 0).world.holding.circuits z ≡ o
    start z o heard = ap (λ (a : MessageOutcome). heard_by a.making.world.holding.circuits z) (lines_none s frame w) ∙ heard

    -- the leg hears what it heard
    heard_now : (c : Circuit) → heard_by w.holding.circuits x ≡ Some c → heard_by now.holding.circuits x ≡ Some c
    heard_now c heard =
        let may : MayHear s.tones leg (Some c) = subst (MayHear s.tones leg) heard (kept.1.each x leg in_x lost.at).hears in
        through (λ n. heard_by (made n).world.holding.circuits x ≡ Some c) 0 x.line (start x (Some c) heard) (λ line low high so_far.
        let small : line < d.external = omega (arith, high, below) in
        heard_then line small x in_x leg c may (x_aside line high small) (other_aside line high small) so_far) (omega arith)

    same_heard : (o : Option Circuit) → heard_by w.holding.circuits x ≡ o → MayHear s.tones leg o → heard_by now.holding.circuits x ≡ heard_by w.holding.circuits x
    same_heard None heard may = absurd (may.0 up)
    same_heard (Some c) heard may = heard_now c heard ∙ sym heard

    pub heard_here : heard_by now.holding.circuits x ≡ heard_by w.holding.circuits x
    heard_here = same_heard (heard_by w.holding.circuits x) refl (kept.1.each x leg in_x lost.at).hears

    module _ (y : Slot) (other : Leg) (named : leg.peer ≡ peer.Leg y) (at_y : leg_at w.legs y ≡ Some other) where
      other_up : other.state ≡ active
      other_up = other_active s frame w kept later x leg in_x lost first y other named at_y

      other_back : other.peer ≡ peer.Leg x
      other_back = back_by leg.side (in_call s frame w kept later x leg in_x lost first y other named at_y) where
        back_by : (side : Side) → IsInCall side x leg y other → other.peer ≡ peer.Leg x
        back_by Caller call = call.back
        back_by Called call = call.there

      own_aside : (line : ℕ) (high : line < x.line) (small : line < d.external) (p : Slot) → other.peer ≡ peer.Leg p → (in_p : IsExternal d.external p) × IsAside s frame w kept later line small p in_p
      own_aside line high small p is =
          let e : peer.Leg x ≡ peer.Leg p = sym other_back ∙ is in
          let same : x ≡ p = cc in
          subst (λ (q : Slot). (in_q : IsExternal d.external q) × IsAside s frame w kept later line small q in_q) same (in_x, x_aside line high small)

      other_heard : (c : Circuit) → heard_by w.holding.circuits y ≡ Some c → heard_by now.holding.circuits y ≡ Some c
      other_heard c heard =
          let in_there = there y other named at_y in
          let may : MayHear s.tones other (Some c) = subst (MayHear s.tones other) heard (kept.1.each y other in_there at_y).hears in
          through (λ n. heard_by (made n).world.holding.circuits y ≡ Some c) 0 x.line (start y (Some c) heard) (λ line low high so_far.
          let small : line < d.external = omega (arith, high, below) in
          heard_then line small y in_there other c may (y_aside y other named at_y line high small) (own_aside line high small) so_far) (omega arith)

      same_other_heard : (o : Option Circuit) → heard_by w.holding.circuits y ≡ o → MayHear s.tones other o → heard_by now.holding.circuits y ≡ heard_by w.holding.circuits y
      same_other_heard None heard may = absurd (may.0 other_up)
      same_other_heard (Some c) heard may = other_heard c heard ∙ sym heard

      pub heard_there : heard_by now.holding.circuits y ≡ heard_by w.holding.circuits y
      heard_there = same_other_heard (heard_by w.holding.circuits y) refl (kept.1.each y other (there y other named at_y) at_y).hears

    -- ---- the record

    abbrev Recorded : Type 0
    Recorded = (told : CallRecord) × (record_ended w h destination_out_of_order ≡ Some told) × (record_ended now h destination_out_of_order ≡ Some told)

    recorded_by : (k : HeldLeg) → is_calling (Some k.leg) ≡ true → HasPeer d.external w.legs k.slot k.leg k.leg.peer → heard_by now.holding.circuits k.slot ≡ heard_by w.holding.circuits k.slot
        → (told : CallRecord) × (record_calling w destination_out_of_order k ≡ Some told) × (record_calling now destination_out_of_order k ≡ Some told)
    recorded_by k calls has heard =
        let found = calling_record d.external w destination_out_of_order k has calls in (
          found.0,
          calling_is w destination_out_of_order k calls ∙ found.1,
          calling_is now destination_out_of_order k calls ∙ same_record now w destination_out_of_order k next_now heard ∙ found.1,
        )

    by_caller : leg.side ≡ Caller → Recorded
    by_caller side =
        let e = recorded_by h (calling_active leg side up) (kept.1.each x leg in_x lost.at).peer (same_heard (heard_by w.holding.circuits x) refl (kept.1.each x leg in_x lost.at).hears) in (
          e.0,
          ended_caller w destination_out_of_order h (peer_of w.legs leg.peer) leg.side side ∙ e.1,
          ended_caller now destination_out_of_order h (peer_of now.legs leg.peer) leg.side side ∙ e.2,
        )

    by_called : leg.side ≡ Called → (p : Peer) → leg.peer ≡ p → HasPeer d.external w.legs x leg p → Recorded
    by_called side peer.Alone is has = absurd (grind (arith, common_steps, up, has))
    by_called side (peer.Leg y) is has =
        let other = has.1.0 in
        let at_y = has.1.1 in
        let k : HeldLeg = record { slot = y; leg = other } in
        let call : IsInCall Called x leg y other = subst (λ (one : Side). IsInCall one x leg y other) side has.1.2 in
        let in_there = there y other is at_y in
        let stands = kept.1.each y other in_there at_y in
        let e = recorded_by k (calling_active other call.calls (other_up y other is at_y)) stands.peer (same_other_heard y other is at_y (heard_by w.holding.circuits y) refl stands.hears) in
        let at_now = other_before s frame w kept later x leg in_x lost first y other is at_y x.line (omega arith) in (
          e.0,
          ended_called w destination_out_of_order h k (peer_of w.legs leg.peer) leg.side side (ap (peer_of w.legs) is ∙ held_there w.legs y other at_y) ∙ e.1,
          ended_called now destination_out_of_order h k (peer_of now.legs leg.peer) leg.side side (ap (peer_of now.legs) is ∙ held_there now.legs y other at_now) ∙ e.2,
        )
    by_called side (peer.Room room) is has = let wrong : Called ≡ Caller = sym side ∙ has.0 in absurd cc

    by_side : (side : Side) → leg.side ≡ side → Recorded
    by_side Caller side = by_caller side
    by_side Called side = by_called side leg.peer refl (kept.1.each x leg in_x lost.at).peer

    recorded_now : Recorded
    recorded_now = by_side leg.side refl

    expired_is : expired_records s frame now x ≡ cons_option (record_ended now h destination_out_of_order) []
    expired_is = rw (at_x x.line (omega arith), lost.due) refl

    told_here : (told : CallRecord) → record_ended now h destination_out_of_order ≡ Some told → Contains (outcome_of_lines s frame w (suc x.line)).recorded told
    told_here told is =
        let a = outcome_of_lines s frame w x.line in
        let m = a.making in
        let looked = is_looked_at s frame w kept later x leg in_x lost first in
        let here : Slot = slot_looked_at frame x.line in
        let few : x.line ≤ d.external = omega (arith, below) in
        let those = records_slot_told s frame m here (lines_kept s frame w kept x.line few) (place_within d.external frame x.line below) in
        let one : expired_records s frame now here ≡ told ∷ [] = ap (expired_records s frame now) looked ∙ expired_is ∙ ap (λ (o : Option CallRecord). cons_option o []) is in
        let inside : Contains (told ∷ []) told = (0, omega arith, refl) in
        subst (λ (b : MessageOutcome). Contains b.recorded told) (sym (lines_more s frame w x.line))
        (Contains-append_right a.recorded _ told (subst (λ (list : List CallRecord). Contains list told) (sym (those ∙ one)) inside))

    pub recorded : (told : CallRecord) × (record_ended w h destination_out_of_order ≡ Some told) × Contains (outcome_of_lines s frame w d.external).recorded told
    recorded =
        let told = recorded_now.0 in (
          told,
          recorded_now.1,
          through (λ n. Contains (outcome_of_lines s frame w n).recorded told) (suc x.line) d.external (told_here told recorded_now.2) (λ line low small so_far. told_then line told so_far) (omega (arith, below)),
        )

pub lost_recorded : (s : Setting) (w : World) (input : Input) → CallsStand s w → (x : Slot) (leg : Leg) → IsLostFirst s w x leg → IsLossRecorded s w input x leg
lost_recorded s w input stands x leg is =
    recorded s w.holding.next (pass w input) (pass_kept s w stands.circuits stands.legs input) (omega arith) x leg is.within is.lost is.first
