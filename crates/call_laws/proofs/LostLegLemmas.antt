-- What a frame does in which T309 of a leg expires.
use Rattle.std.proofs.Common.{◌≡◌, ℕ, zero, suc, ◌+◌, ◌-◌, ◌*◌, ◌<◌, ◌≤◌, ◌⊎◌, inl, inr, true, false, not, List, [], ◌∷◌, ◌++◌, length, Option, Some, None, refl, sym, ◌∙◌, ap, subst, arith, length-set, filter, Contains, IfSome}
use Rattle.std.specs.Prelude.{◌%◌}
use Rattle.std.proofs.lemmas.Grind.{common_steps}
use Rattle.std.proofs.lemmas.List.Elements.{Contains-append_left, Contains-push}
use Rattle.circuit_model.specs.declared.channel.Slot.{Slot}
use Rattle.circuit_model.specs.declared.circuit.Circuit.{Circuit}
use Rattle.circuit_model.specs.declared.circuit.Circuit.TheVariants.{Tone}
use Rattle.circuit_model.specs.Circuits.{is_idle, names}
use Rattle.circuit_model.specs.Extent.{IsExternal}
use Rattle.circuit_model.specs.FrameInput.{Input}
use Rattle.circuit_model.proofs.Slots.{filter_filter, naming-idle, is_idle-naming, same_slot-false}
use Rattle.control_memory.specs.Layout.{number_of}
use Rattle.q931_codec.specs.CallStates.{active}
use Rattle.q931_codec.specs.Causes.{destination_out_of_order}
use Rattle.call_timers.specs.declared.expiry.Expiry.{Expiry}
use Rattle.call_timers.specs.declared.expiry.Expiry.TheVariants as expiry
use Rattle.call_timers.specs.declared.timers.Timers.{Timers}
use Rattle.call_states.specs.declared.condition.Condition.TheVariants.{Owed}
use Rattle.call_states.specs.declared.leg.HeldLeg.{HeldLeg}
use Rattle.call_states.specs.declared.leg.Leg.{Leg}
use Rattle.call_states.specs.declared.leg.Peer.{Peer}
use Rattle.call_states.specs.declared.leg.Peer.TheVariants as peer
use Rattle.exchange_events.specs.declared.signal.Signal.{Signal}
use Rattle.exchange_events.specs.Sizes.{Setting, Dimensions}
use Rattle.call_profile.specs.Acts.{in_disconnect_indication, peer_of, with_peer, clear_with, remove_leg}
use Rattle.call_profile.specs.Expiring.{timed_state, outage_over, due_of, expire_slot, slot_looked_at, outcome_of_lines, outcome_of_frame}
use Rattle.call_profile.specs.Legs.{Legs, waiting_from, leg_at}
use Rattle.call_profile.specs.LegStanding.{CallsStand, HasPeer, IsInCall}
use Rattle.call_laws.specs.LostLegs.{IsLost, IsLostFirst, IsLeftBehind, IsVacated, IsDisconnected, cleared_by_outage, outage_signal}
use Rattle.call_profile.specs.Operations as op
use Rattle.call_profile.specs.Operations.{Operation, Making, making_after, making_after_all}
use Rattle.call_profile.specs.Restarts.{MessageOutcome}
use Rattle.call_profile.specs.World.{World, pass}
use Rattle.call_profile.proofs.BesideLemmas.{leg_at-with_entry_here, same_or_apart, peer_back}
use Rattle.call_profile.proofs.ClearingLemmas.{Kept, held_there, peers_apart}
use Rattle.call_profile.proofs.CommandLemmas.{pass_kept}
use Rattle.call_laws.proofs.DroppedLineLemmas.{call_active}
use Rattle.call_profile.proofs.ExpiringLemmas.{at_slot, lines_kept, lines_none, lines_more, place_within}
use Rattle.call_laws.proofs.ExpiryChangeLemmas.{Apart, Spares, SparesAll, leg_at-making_after_all_spared, expiry_spares, due_since, unchanged_due}
use Rattle.call_laws.proofs.ExpirySinceLemmas.{outcome_of_lines_next}
use Rattle.call_profile.proofs.ExpiryStateLemmas.{due_state}
use Rattle.call_profile.proofs.ToneLemmas.{cleared_is_idle}
use Rattle.call_profile.proofs.VacantSlotLemmas.{same_parts}

-- ---- an idle slot that operations do not name

idle_with : (circuits : List Circuit) (c : Circuit) (z : Slot) → names z c ≡ false → is_idle circuits z ≡ true → is_idle (circuits ++ c ∷ []) z ≡ true
idle_with [] c z other idle = rw other refl
idle_with (a ∷ rest) c z other idle = let more = idle_with rest c z other in grind (arith, common_steps, idle, more)

idle_without : (circuits : List Circuit) (x z : Slot) → is_idle circuits z ≡ true → is_idle (filter (λ c. not (names x c)) circuits) z ≡ true
idle_without circuits x z idle =
    is_idle-naming (filter (λ c. not (names x c)) circuits) z (filter_filter (names z) (λ c. not (names x c)) circuits ∙ ap (filter (λ c. not (names x c))) (naming-idle circuits z idle))

module _ (d : Dimensions) (z : Slot) (in_z : IsExternal d.external z) where
  idle_spared : (m : Making) (o : Operation) → Spares d z in_z o → is_idle m.world.holding.circuits z ≡ true → is_idle (making_after d m o).world.holding.circuits z ≡ true
  idle_spared m (op.Clear x) may idle = idle_without m.world.holding.circuits x z idle
  idle_spared m (op.Pair x y) may idle = absurd may
  idle_spared m (op.Seat x room) may idle = absurd may
  idle_spared m (op.Sound x None) may idle = idle
  idle_spared m (op.Sound x (Some kind)) may idle = idle_with m.world.holding.circuits (Tone kind x m.world.holding.next) z (same_slot-false z x may.1) idle
  idle_spared m (op.Put x leg) may idle = idle
  idle_spared m (op.Wait x leg p) may idle = idle
  idle_spared m (op.Expect x leg message) may idle = idle
  idle_spared m (op.Repeat h octets) may idle = idle
  idle_spared m (op.Await x leg) may idle = idle
  idle_spared m (op.Remove x condition) may idle = idle
  idle_spared m (op.Send line message) may idle = idle

  idle_spared_all : (m : Making) (os : List Operation) → SparesAll d z in_z os → is_idle m.world.holding.circuits z ≡ true → is_idle (making_after_all d m os).world.holding.circuits z ≡ true
  idle_spared_all m [] may idle = idle
  idle_spared_all m (o ∷ os) may idle = idle_spared_all (making_after d m o) os may.1 (idle_spared m o may.0 idle)

-- ---- a message that was sent is among those that are sent

sent_still : (d : Dimensions) (m : Making) (o : Operation) (one : Signal) → Contains m.sends one → Contains (making_after d m o).sends one
sent_still d m (op.Clear x) one sent = sent
sent_still d m (op.Pair x y) one sent = sent
sent_still d m (op.Seat x room) one sent = sent
sent_still d m (op.Sound x kind) one sent = sent
sent_still d m (op.Put x leg) one sent = sent
sent_still d m (op.Wait x leg p) one sent = sent
sent_still d m (op.Expect x leg message) one sent = Contains-append_left m.sends _ one sent
sent_still d m (op.Repeat h octets) one sent = Contains-append_left m.sends _ one sent
sent_still d m (op.Await x leg) one sent = sent
sent_still d m (op.Remove x condition) one sent = sent
sent_still d m (op.Send line message) one sent = Contains-append_left m.sends _ one sent

pub sent_still_all : (d : Dimensions) (m : Making) (os : List Operation) (one : Signal) → Contains m.sends one → Contains (making_after_all d m os).sends one
sent_still_all d m [] one sent = sent
sent_still_all d m (o ∷ os) one sent = sent_still_all d (making_after d m o) os one (sent_still d m o one sent)

-- ---- the timer of a leg in active

outage_only : (e : Expiry) → timed_state e ≡ active → e ≡ expiry.Outage
outage_only expiry.Digits is = absurd cc
outage_only expiry.SetupAgain is = absurd cc
outage_only expiry.SetupOver is = absurd cc
outage_only expiry.Proceeding is = absurd cc
outage_only expiry.Alerting is = absurd cc
outage_only expiry.Outage is = refl
outage_only expiry.Disconnect is = absurd cc
outage_only expiry.ReleaseAgain is = absurd cc
outage_only expiry.ReleaseOver is = absurd cc

active_due : (timers : Timers) (frame : ℕ) (leg : Leg) → leg.state ≡ active → (o : Option Expiry) → due_of timers frame leg ≡ o → (o ≡ None) ⊎ (o ≡ Some expiry.Outage)
active_due timers frame leg is None due = inl refl
active_due timers frame leg is (Some e) due = inr (ap (λ (f : Expiry). Some f) (outage_only e (sym (due_state leg.state leg.resent leg.since frame timers e due) ∙ is)))

pub active_quiet : (timers : Timers) (frame : ℕ) (leg : Leg) → leg.state ≡ active → (due_of timers frame leg ≡ Some expiry.Outage → ⊥) → due_of timers frame leg ≡ None
active_quiet timers frame leg is never = elim (active_due timers frame leg is (due_of timers frame leg) refl) [
  | inl none ↦ none
  | inr out ↦ absurd (never out)
]

late_quiet : (timers : Timers) (frame : ℕ) (leg : Leg) → frame < leg.since → (o : Option Expiry) → due_of timers frame leg ≡ o → due_of timers frame leg ≡ None
late_quiet timers frame leg late None due = due
late_quiet timers frame leg late (Some e) due = let early = due_since leg.state leg.resent leg.since frame timers e due in absurd (omega (arith, late, early))

pub same_leg : (o : Option Leg) (k l : Leg) → o ≡ Some k → o ≡ Some l → k ≡ l
same_leg o k l at also = let e : Some k ≡ Some l = sym at ∙ also in cc

-- ---- what every line keeps

through_more : (P : ℕ → Type 0) (first last : ℕ) → P first → ((line : ℕ) → first ≤ line → line < last → P line → P (suc line)) → (n : ℕ) → n + first ≤ last → P (n + first)
through_more P first last begins more zero few = subst P (omega arith) begins
through_more P first last begins more (suc n) few =
    let same : suc (n + first) ≡ suc n + first = omega arith in
    subst P same (more (n + first) (omega arith) (omega (arith, few)) (through_more P first last begins more n (omega (arith, few))))

pub through : (P : ℕ → Type 0) (first last : ℕ) → P first → ((line : ℕ) → first ≤ line → line < last → P line → P (suc line)) → first ≤ last → P last
through P first last begins more few =
    let same : (last - first) + first ≡ last = omega (arith, few) in
    subst P same (through_more P first last begins more (last - first) (omega (arith, few)))

module _ (s : Setting) (frame : ℕ) (w : World) (kept : Kept s.dimensions s.tones w) (later : frame < w.holding.next) where
  abbrev d : Dimensions
  d = s.dimensions

  abbrev pub made : ℕ → Making
  made n = (outcome_of_lines s frame w n).making

  abbrev pub legs_after : ℕ → Legs
  legs_after n = (made n).world.legs

  pub at_first : (z : Slot) (l : Leg) → leg_at w.legs z ≡ Some l → leg_at (legs_after 0) z ≡ Some l
  at_first z l at = ap (λ (a : MessageOutcome). leg_at a.making.world.legs z) (lines_none s frame w) ∙ at

  -- ---- the turn of a line

  module _ (line : ℕ) (small : line < d.external) where
    abbrev here : Slot
    here = slot_looked_at frame line

    abbrev mid : Making
    mid = made line

    abbrev turn : List Operation
    turn = expire_slot s frame mid.world.legs here

    pub in_here : IsExternal d.external here
    in_here = place_within d.external frame line small

    pub kept_now : Kept d s.tones mid.world
    kept_now = lines_kept s frame w kept line (omega (arith, small))

    made_more : made (suc line) ≡ making_after_all d mid turn
    made_more = ap (λ (a : MessageOutcome). a.making) (lines_more s frame w line)

    sent_then : (one : Signal) → Contains mid.sends one → Contains (made (suc line)).sends one
    sent_then one sent = subst (λ (n : Making). Contains n.sends one) (sym made_more) (sent_still_all d mid turn one sent)

    -- a slot of no leg whose timer expires, and of no peer of such a leg
    module _ (z : Slot) (in_z : IsExternal d.external z) where
      abbrev pub IsAside : Type 0
      IsAside =
          (leg : Leg) (e : Expiry) → leg_at mid.world.legs here ≡ Some leg → due_of s.timers frame leg ≡ Some e
          → (z ≡ here → ⊥) × ((other : Leg) → leg_at mid.world.legs z ≡ Some other → other.peer ≡ peer.Leg here → ⊥)

      pub away_by : (leg : Leg) (p : Peer) → ((other : Leg) → leg_at mid.world.legs z ≡ Some other → other.peer ≡ peer.Leg here → ⊥) → HasPeer d.external mid.world.legs here leg p
          → IfSome (peer_of mid.world.legs p) (λ k. Apart d z in_z k.slot)
      away_by leg peer.Alone unnamed has = tt
      away_by leg (peer.Leg y) unnamed has = elim (same_or_apart z y) [
        | inl same ↦ absurd (unnamed has.1.0 (ap (leg_at mid.world.legs) same ∙ has.1.1) (peer_back leg.side here y leg has.1.0 has.1.2))
        | inr apart ↦ subst (λ (o : Option HeldLeg). IfSome o (λ k. Apart d z in_z k.slot)) (sym (held_there mid.world.legs y has.1.0 has.1.1)) (has.0, apart)
      ]
      away_by leg (peer.Room room) unnamed has = tt

      turn_spares : IsAside → SparesAll d z in_z turn
      turn_spares aside = at_slot s frame mid.world.legs here (SparesAll d z in_z) tt (λ leg e at due.
          let far = aside leg e at due in
          expiry_spares d z in_z s.tones mid.world.legs (record { slot = here; leg = leg }) (in_here, far.0) e (away_by leg leg.peer far.1 (kept_now.1.each here leg in_here at).peer))

      pub leg_then : IsAside → leg_at (legs_after (suc line)) z ≡ leg_at mid.world.legs z
      leg_then aside = ap (λ (n : Making). leg_at n.world.legs z) made_more ∙ leg_at-making_after_all_spared d z in_z mid turn (turn_spares aside)

      idle_then : IsAside → is_idle mid.world.holding.circuits z ≡ true → is_idle (made (suc line)).world.holding.circuits z ≡ true
      idle_then aside idle = subst (λ (n : Making). is_idle n.world.holding.circuits z ≡ true) (sym made_more) (idle_spared_all d z in_z mid turn (turn_spares aside) idle)

      -- no leg
      none_aside : leg_at mid.world.legs z ≡ None → IsAside
      none_aside none leg e at due = (
        λ same. let wrong : None ≡ Some leg = sym none ∙ ap (leg_at mid.world.legs) same ∙ at in cc,
        λ other at_z names_x. let wrong : None ≡ Some other = sym none ∙ at_z in cc,
      )

      -- a leg that isn't due in this turn, nor its peer
      pub leg_aside : (l : Leg) → leg_at mid.world.legs z ≡ Some l → (z ≡ here → due_of s.timers frame l ≡ None)
          → (l.peer ≡ peer.Leg here → (leg : Leg) → leg_at w.legs here ≡ Some leg → due_of s.timers frame leg ≡ None) → IsAside
      leg_aside l at_z own others leg e at due = (
        λ same.
            let is = same_leg (leg_at mid.world.legs here) l leg (ap (leg_at mid.world.legs) (sym same) ∙ at_z) at in
            let wrong : None ≡ Some e = sym (own same) ∙ ap (due_of s.timers frame) is ∙ due in
            cc,
        λ other also names_x.
            let is = same_leg (leg_at mid.world.legs z) other l also at_z in
            let before = unchanged_due s frame w kept later line (omega (arith, small)) here in_here leg e at due in
            let wrong : None ≡ Some e = sym (others (ap (λ (k : Leg). k.peer) (sym is) ∙ names_x) leg before) ∙ due in
            cc,
      )

  -- ---- the call of a leg whose T309 expires first

  module _ (x : Slot) (leg : Leg) (in_x : IsExternal d.external x) (lost : IsLost s.timers frame w.legs x leg)
      (first : (y : Slot) (other : Leg) → leg.peer ≡ peer.Leg y → IsLost s.timers frame w.legs y other → x.line ≤ y.line) where
    pub is_looked_at : slot_looked_at frame x.line ≡ x
    is_looked_at = sym (same_parts x x.line (frame % 30) refl lost.looked)

    pub leg_active : leg.state ≡ active
    leg_active = due_state leg.state leg.resent leg.since frame s.timers expiry.Outage lost.due

    -- its peer
    module _ (y : Slot) (other : Leg) (named : leg.peer ≡ peer.Leg y) (at_y : leg_at w.legs y ≡ Some other) where
      has : HasPeer d.external w.legs x leg (peer.Leg y)
      has = subst (HasPeer d.external w.legs x leg) named (kept.1.each x leg in_x lost.at).peer

      pub in_y : IsExternal d.external y
      in_y = has.0

      pub in_call : IsInCall leg.side x leg y other
      in_call = subst (λ (l : Leg). IsInCall leg.side x leg y l) (same_leg (leg_at w.legs y) has.1.0 other has.1.1 at_y) has.1.2

      pub back : other.peer ≡ peer.Leg x
      back = peer_back leg.side x y leg other in_call

      not_x : y ≡ x → ⊥
      not_x = peers_apart w.legs x y leg other lost.at at_y in_call

      pub other_active : other.state ≡ active
      other_active = (call_active leg.side x y leg other in_call).0 leg_active

      -- its timer isn't due on a line before the leg's
      other_quiet : (line : ℕ) → line < x.line → y ≡ slot_looked_at frame line → due_of s.timers frame other ≡ None
      other_quiet line before same = active_quiet s.timers frame other other_active (λ out.
          let place : y.place ≡ frame % 30 = ap (λ (q : Slot). q.place) same in
          let on : y.line ≡ line = ap (λ (q : Slot). q.line) same in
          let low = first y other named (record { looked = place; at = at_y; due = out }) in
          omega (arith, before, on, low))

    -- ---- before its line

    below : x.line < d.external
    below = in_x.0

    pub leg_aside_before : (line : ℕ) → line < x.line → (small : line < d.external) → leg_at (legs_after line) x ≡ Some leg → IsAside line small x in_x
    leg_aside_before line high small so_far = leg_aside line small x in_x leg so_far
        (λ same. let on : x.line ≡ line = ap (λ (q : Slot). q.line) same in absurd (omega (arith, on, high)))
        (λ named other at_y. other_quiet (slot_looked_at frame line) other named at_y line high refl)

    pub leg_before : (n : ℕ) → n ≤ x.line → leg_at (legs_after n) x ≡ Some leg
    leg_before n few = through (λ k. leg_at (legs_after k) x ≡ Some leg) 0 n (at_first x leg lost.at) (λ line low high so_far.
        let small : line < d.external = omega (arith, high, few, below) in
        leg_then line small x in_x (leg_aside_before line (omega (arith, high, few)) small so_far) ∙ so_far) (omega arith)

    pub other_aside_before : (y : Slot) (other : Leg) (named : leg.peer ≡ peer.Leg y) (at_y : leg_at w.legs y ≡ Some other) (line : ℕ) → line < x.line → (small : line < d.external)
        → leg_at (legs_after line) y ≡ Some other → IsAside line small y (in_y y other named at_y)
    other_aside_before y other named at_y line high small so_far = leg_aside line small y (in_y y other named at_y) other so_far
        (λ same. other_quiet y other named at_y line high same)
        (λ names_line l at_l.
        let e : peer.Leg x ≡ peer.Leg (slot_looked_at frame line) = sym (back y other named at_y) ∙ names_line in
        let same : x ≡ slot_looked_at frame line = cc in
        let on : x.line ≡ line = ap (λ (q : Slot). q.line) same in
        absurd (omega (arith, on, high)))

    pub other_before : (y : Slot) (other : Leg) → leg.peer ≡ peer.Leg y → leg_at w.legs y ≡ Some other → (n : ℕ) → n ≤ x.line → leg_at (legs_after n) y ≡ Some other
    other_before y other named at_y n few = through (λ k. leg_at (legs_after k) y ≡ Some other) 0 n (at_first y other at_y) (λ line low high so_far.
        let small : line < d.external = omega (arith, high, few, below) in
        leg_then line small y (in_y y other named at_y) (other_aside_before y other named at_y line (omega (arith, high, few)) small so_far) ∙ so_far) (omega arith)

    -- ---- its line

    leg_now : leg_at (legs_after x.line) x ≡ Some leg
    leg_now = leg_before x.line (omega arith)

    abbrev h : HeldLeg
    h = record { slot = x; leg = leg }

    abbrev now : Making
    now = made x.line

    pub now_kept : Kept d s.tones now.world
    now_kept = lines_kept s frame w kept x.line (omega (arith, below))

    abbrev gone : Making
    gone = making_after_all d now (remove_leg Owed h)

    abbrev rest : List Operation
    rest = with_peer (peer_of now.world.legs leg.peer) (clear_with s.tones destination_out_of_order)

    pub turn_is : expire_slot s frame now.world.legs x ≡ outage_over s.tones now.world.legs h
    turn_is = rw (leg_now, lost.due) refl

    made_here : made (suc x.line) ≡ making_after_all d gone rest
    made_here =
        ap (λ (a : MessageOutcome). a.making) (lines_more s frame w x.line)
        ∙ ap (λ (q : Slot). making_after_all d now (expire_slot s frame now.world.legs q)) is_looked_at
        ∙ ap (making_after_all d now) turn_is

    peer_spares : (p : Peer) → HasPeer d.external now.world.legs x leg p → SparesAll d x in_x (with_peer (peer_of now.world.legs p) (clear_with s.tones destination_out_of_order))
    peer_spares peer.Alone has_now = tt
    peer_spares (peer.Leg y) has_now =
        let apart : x ≡ y → ⊥ = λ same. peers_apart now.world.legs x y leg has_now.1.0 leg_now has_now.1.1 has_now.1.2 (sym same) in
        rw (held_there now.world.legs y has_now.1.0 has_now.1.1) (tt, ((has_now.0, apart), ((has_now.0, apart), (tt, tt))))
    peer_spares (peer.Room room) has_now = tt

    rest_spares : SparesAll d x in_x rest
    rest_spares = peer_spares leg.peer (now_kept.1.each x leg in_x leg_now).peer

    leg_gone : leg_at (legs_after (suc x.line)) x ≡ None
    leg_gone =
        ap (λ (n : Making). leg_at n.world.legs x) made_here ∙ leg_at-making_after_all_spared d x in_x gone rest rest_spares
        ∙ leg_at-with_entry_here d.external now.world.legs x None now_kept.1.count in_x

    idle_here : is_idle (made (suc x.line)).world.holding.circuits x ≡ true
    idle_here = subst (λ (n : Making). is_idle n.world.holding.circuits x ≡ true) (sym made_here) (idle_spared_all d x in_x gone rest rest_spares (cleared_is_idle now.world.holding x))

    -- ---- after its line

    pub vacated : (leg_at (legs_after d.external) x ≡ None) × (is_idle (made d.external).world.holding.circuits x ≡ true)
    vacated = through (λ n. (leg_at (legs_after n) x ≡ None) × (is_idle (made n).world.holding.circuits x ≡ true)) (suc x.line) d.external (leg_gone, idle_here) (λ line low small so_far.
        let aside = none_aside line small x in_x so_far.0 in
        (leg_then line small x in_x aside ∙ so_far.0, idle_then line small x in_x aside so_far.1)) (omega (arith, below))

    module _ (y : Slot) (other : Leg) (named : leg.peer ≡ peer.Leg y) (at_y : leg_at w.legs y ≡ Some other) where
      abbrev k : HeldLeg
      k = record { slot = y; leg = other }

      abbrev within : IsExternal d.external y
      within = in_y y other named at_y

      rest_is : rest ≡ clear_with s.tones destination_out_of_order k
      rest_is = rw (named, other_before y other named at_y x.line (omega arith)) refl

      made_both : made (suc x.line) ≡ making_after_all d gone (clear_with s.tones destination_out_of_order k)
      made_both = made_here ∙ ap (making_after_all d gone) rest_is

      pub next_now : now.world.holding.next ≡ w.holding.next
      next_now = outcome_of_lines_next s frame w kept x in_x x.line (omega (arith, below))

      abbrev cleared : Leg
      cleared = cleared_by_outage w other

      cleared_here : leg_at (legs_after (suc x.line)) y ≡ Some cleared
      cleared_here =
          let size : length gone.world.legs.held ≡ 30 * d.external = length-set now.world.legs.held (number_of x) None ∙ now_kept.1.count in
          ap (λ (n : Making). leg_at n.world.legs y) made_both
          ∙ leg_at-with_entry_here d.external gone.world.legs y (Some (cleared_by_outage now.world other)) size within
          ∙ ap (λ (n : ℕ). Some (waiting_from n (in_disconnect_indication destination_out_of_order other))) next_now

      sent_here : Contains (made (suc x.line)).sends (outage_signal s.tones y other)
      sent_here = subst (λ (n : Making). Contains n.sends (outage_signal s.tones y other)) (sym made_both) (Contains-push now.sends (outage_signal s.tones y other))

      pub other_cleared_from : (n : ℕ) → suc x.line ≤ n → n ≤ d.external → leg_at (legs_after n) y ≡ Some cleared
      other_cleared_from n low few = through (λ k. leg_at (legs_after k) y ≡ Some cleared) (suc x.line) n cleared_here (λ line lower high so_far.
          let small : line < d.external = omega (arith, high, few) in
          leg_then line small y within (leg_aside line small y within cleared so_far
          (λ same. late_quiet s.timers frame cleared later (due_of s.timers frame cleared) refl)
          (λ names_line l at_l. let wrong : peer.Alone ≡ peer.Leg (slot_looked_at frame line) = names_line in absurd cc))
          ∙ so_far) low

      pub other_cleared : leg_at (legs_after d.external) y ≡ Some cleared
      other_cleared = other_cleared_from d.external (omega (arith, below)) (omega arith)

      pub other_sent : Contains (made d.external).sends (outage_signal s.tones y other)
      other_sent = through (λ n. Contains (made n).sends (outage_signal s.tones y other)) (suc x.line) d.external sent_here (λ line low small so_far. sent_then line small (outage_signal s.tones y other) so_far)
          (omega (arith, below))

-- ---- a frame

module _ (s : Setting) (w : World) (input : Input) (stands : CallsStand s w) where
  passed_kept : Kept s.dimensions s.tones (pass w input)
  passed_kept = pass_kept s w stands.circuits stands.legs input

  pub lost_vacated : (x : Slot) (leg : Leg) → IsLostFirst s w x leg → IsVacated (outcome_of_frame s w input).making.world x
  lost_vacated x leg is =
      let both = vacated s w.holding.next (pass w input) passed_kept (omega arith) x leg is.within is.lost is.first in
      record { leg = both.0; idle = both.1 }

  pub left_disconnected : (y : Slot) (other : Leg) → IsLeftBehind s w y other → IsDisconnected s w input y other
  left_disconnected y other is =
      let x = is.lost.0 in
      let leg = is.lost.1 in
      let first = is.lost.2 in
      let named = is.lost.3 in
      let f : ℕ = w.holding.next in
      record {
        cleared = other_cleared s f (pass w input) passed_kept (omega arith) x leg first.within first.lost first.first y other named is.at;
        sent = other_sent s f (pass w input) passed_kept (omega arith) x leg first.within first.lost first.first y other named is.at;
      }
