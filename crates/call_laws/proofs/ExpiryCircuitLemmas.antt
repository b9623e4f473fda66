-- A frame's turn leaves the connections, the seats, their paths and their ports as they were.
use Rattle.std.proofs.Common.{◌≡◌, ◌≢◌, ℕ, inl, inr, Bool, true, false, not, suc, List, [], ◌∷◌, ◌++◌, Option, Some, None, refl, sym, ◌∙◌, ap, subst, arith, zero, ◌<◌, ◌≤◌}
use Rattle.std.specs.Prelude.{IfSome, IsTrue}
use Rattle.std.specs.List.{filter}
use Rattle.std.proofs.lemmas.Grind.{common_steps}
use Rattle.circuit_model.specs.declared.channel.Slot.{Slot}
use Rattle.circuit_model.specs.declared.circuit.Circuit.{Circuit}
use Rattle.circuit_model.specs.declared.circuit.Kind.{Kind}
use Rattle.circuit_model.specs.declared.circuit.Circuit.TheVariants.{Pair, Member, Tone}
use Rattle.circuit_model.specs.Circuits.{heard_by, names, same_slot}
use Rattle.circuit_model.specs.Extent.{IsExternal}
use Rattle.circuit_model.specs.FrameInput.{Input}
use Rattle.circuit_model.specs.Holding.{Stands, Has_no_circuit, Has_tone, Is_seated, Is_connected, circuits_naming}
use Rattle.circuit_model.specs.Ports.{Ports, owner_of, ports_without}
use Rattle.circuit_model.proofs.PortSeats.{has_member}
use Rattle.circuit_model.proofs.Slots.{true_or_false, same_slot-refl, same_slot-false, same_slot_cases, filter_filter, heard_by-naming}
use Rattle.circuit_model.proofs.Validity.{heard_by-listener}
use Rattle.control_memory.specs.Layout.{Layout}
use Rattle.control_memory.specs.Shown.{partner, without_both}
use Rattle.q931_codec.specs.CallStates.{active}
use Rattle.q931_codec.specs.Causes.{invalid_number_format, no_answer_from_user, no_user_responding, recovery_on_timer_expiry}
use Rattle.call_timers.specs.declared.expiry.Expiry.{Expiry}
use Rattle.call_timers.specs.declared.expiry.Expiry.TheVariants as expiry
use Rattle.call_states.specs.Acts.{is_among}
use Rattle.call_states.specs.declared.leg.HeldLeg.{HeldLeg}
use Rattle.call_states.specs.declared.leg.Leg.{Leg}
use Rattle.call_states.specs.declared.leg.Peer.{Peer}
use Rattle.call_states.specs.declared.leg.Peer.TheVariants as peer
use Rattle.call_states.specs.declared.leg.Side.{Side}
use Rattle.call_states.specs.declared.leg.Side.TheVariants.{Caller, Called}
use Rattle.tone_rules.specs.declared.tones.Tones.{Tones}
use Rattle.exchange_events.specs.Sizes.{Setting, Dimensions}
use Rattle.call_profile.specs.Acts.{peer_of, with_peer, clear_with}
use Rattle.call_profile.specs.Expiring.{timed_state, send_again, clear_peer, clear_both, on_expiry, expire_slot, slot_looked_at, outcome_of_lines, due_of}
use Rattle.call_laws.specs.ExpiryBounds.{is_conversation, ConversationsStay, LayoutStays, PortsStay, NoneIsLost}
use Rattle.call_profile.specs.IsMade.{IsMade}
use Rattle.call_profile.specs.Legs.{Legs, leg_at, kept_at}
use Rattle.call_profile.specs.LegStanding.{CallsStand, HasPeer, IsInCall, MayHear, are_matched}
use Rattle.call_profile.specs.Operations as op
use Rattle.call_profile.specs.Operations.{Operation, Making, making_after, making_after_all}
use Rattle.call_profile.specs.World.{World, pass}
use Rattle.call_profile.proofs.AnsweringLemmas.{ringing}
use Rattle.call_profile.proofs.ClearingLemmas.{Kept, held_there}
use Rattle.call_profile.proofs.CommandLemmas.{pass_kept}
use Rattle.call_profile.proofs.ExpiringLemmas.{at_slot, place_within, slot_may, lines_none, lines_more, lines_kept}
use Rattle.call_profile.proofs.ExpiryStateLemmas.{due_state}
use Rattle.call_laws.proofs.FullPortLemmas.{made_matched}
use Rattle.call_profile.proofs.HistoryLemmas.{made_pass, made_performed_all}
use Rattle.call_profile.specs.Restarts.{MessageOutcome}
use Rattle.call_laws.proofs.ExpiryChangeLemmas.{unchanged_due}

-- ---- operations that clear some slots alone, and connect and seat none

module _ (Free : Slot → Type 0) where
  abbrev Clears : Operation → Type 0
  Clears (op.Clear x) = Free x
  Clears (op.Pair x y) = ⊥
  Clears (op.Seat x room) = ⊥
  Clears (op.Sound x kind) = Unit {0}
  Clears (op.Put x leg) = Unit {0}
  Clears (op.Wait x leg p) = Unit {0}
  Clears (op.Expect x leg message) = Unit {0}
  Clears (op.Repeat h octets) = Unit {0}
  Clears (op.Await x leg) = Unit {0}
  Clears (op.Remove x condition) = Unit {0}
  Clears (op.Send line message) = Unit {0}

  abbrev ClearsAll : List Operation → Type 0
  ClearsAll [] = Unit {0}
  ClearsAll (o ∷ os) = Clears o × ClearsAll os

  both_clear : (os ps : List Operation) → ClearsAll os → ClearsAll ps → ClearsAll (os ++ ps)
  both_clear [] ps one other = other
  both_clear (o ∷ os) ps one other = (one.0, both_clear os ps one.1 other)

  module _ (tones : Tones) (legs : Legs) (h : HeldLeg) (free : Free h.slot) where
    cleared : (cause : ℕ) (k : HeldLeg) → Free k.slot → ClearsAll (clear_with tones cause k)
    cleared cause k at = (at, (tt, (tt, (tt, tt))))

    peer_cleared : (cause : ℕ) (o : Option HeldLeg) → IfSome o (λ k. Free k.slot) → ClearsAll (with_peer o (clear_with tones cause))
    peer_cleared cause None at = tt
    peer_cleared cause (Some k) at = cleared cause k at

    both_cleared : (cause : ℕ) → IfSome (peer_of legs h.leg.peer) (λ k. Free k.slot) → ClearsAll (clear_both tones legs h cause)
    both_cleared cause other =
        both_clear (clear_with tones recovery_on_timer_expiry h) (clear_peer tones legs h cause) (cleared recovery_on_timer_expiry h free) (peer_cleared cause (peer_of legs h.leg.peer) other)

    again : (o : Option (List ℕ)) → ClearsAll (send_again h o)
    again None = tt
    again (Some octets) = (tt, tt)

    expiry_clears : (e : Expiry) → e ≢ expiry.Outage → (is_among ringing (timed_state e) ≡ true → IfSome (peer_of legs h.leg.peer) (λ k. Free k.slot)) → ClearsAll (on_expiry tones legs h e)
    expiry_clears expiry.Digits calm other = cleared invalid_number_format h free
    expiry_clears expiry.SetupAgain calm other = again (kept_at legs h.slot)
    expiry_clears expiry.SetupOver calm other = (free, (tt, (tt, peer_cleared no_user_responding (peer_of legs h.leg.peer) (other refl))))
    expiry_clears expiry.Proceeding calm other = both_cleared no_user_responding (other refl)
    expiry_clears expiry.Alerting calm other = both_cleared no_answer_from_user (other refl)
    expiry_clears expiry.Outage calm other = absurd (calm refl)
    expiry_clears expiry.Disconnect calm other = (tt, tt)
    expiry_clears expiry.ReleaseAgain calm other = again (kept_at legs h.slot)
    expiry_clears expiry.ReleaseOver calm other = (free, (tt, tt))

-- ---- neither leg of a call whose timer runs out talks

never_caller : (s t : ℕ) → is_among ringing s ≡ true → IsTrue (are_matched s t) → ⊥
never_caller s t among matched = grind (arith, common_steps, among, matched)

never_active : (s t : ℕ) → is_among ringing s ≡ true → t ≡ active → IsTrue (are_matched t s) → ⊥
never_active s t among is matched = grind (arith, common_steps, among, is, matched)

not_answered : (side : Side) (x y : Slot) (leg other : Leg) → is_among ringing leg.state ≡ true → other.state ≡ active → IsInCall side x leg y other → ⊥
not_answered Caller x y leg other among is call = never_caller leg.state other.state among call.matched
not_answered Called x y leg other among is call = never_active leg.state other.state among is call.matched

timed_quiet : (e : Expiry) → e ≢ expiry.Outage → timed_state e ≢ active
timed_quiet expiry.Digits calm is = cc
timed_quiet expiry.SetupAgain calm is = cc
timed_quiet expiry.SetupOver calm is = cc
timed_quiet expiry.Proceeding calm is = cc
timed_quiet expiry.Alerting calm is = cc
timed_quiet expiry.Outage calm is = calm refl
timed_quiet expiry.Disconnect calm is = cc
timed_quiet expiry.ReleaseAgain calm is = cc
timed_quiet expiry.ReleaseOver calm is = cc

-- what is free wherever the leg doesn't talk is all that an expiry clears
module _ (s : Setting) (frame : ℕ) (m : Making) (kept : Kept s.dimensions s.tones m.world) (x : Slot) (in_x : IsExternal s.dimensions.external x) (Free : Slot → Type 0)
    (free : (y : Slot) (leg : Leg) → IsExternal s.dimensions.external y → leg_at m.world.legs y ≡ Some leg → leg.state ≢ active → Free y)
    (calm : (leg : Leg) → leg_at m.world.legs x ≡ Some leg → due_of s.timers frame leg ≢ Some expiry.Outage) where
  peer_free : (leg : Leg) (p : Peer) → is_among ringing leg.state ≡ true → HasPeer s.dimensions.external m.world.legs x leg p → IfSome (peer_of m.world.legs p) (λ k. Free k.slot)
  peer_free leg peer.Alone among has = tt
  peer_free leg (peer.Leg y) among has =
      subst (λ (o : Option HeldLeg). IfSome o (λ k. Free k.slot)) (sym (held_there m.world.legs y has.1.0 has.1.1)) (free y has.1.0 has.0 has.1.1 (λ up. not_answered leg.side x y leg has.1.0 among up has.1.2))
  peer_free leg (peer.Room room) among has = tt

  slot_clears : ClearsAll Free (expire_slot s frame m.world.legs x)
  slot_clears = at_slot s frame m.world.legs x (ClearsAll Free) tt (λ leg e at due.
      let state = due_state leg.state leg.resent leg.since frame s.timers e due in
      let other : e ≢ expiry.Outage = λ same. calm leg at (due ∙ ap (λ (f : Expiry). Some f) same) in
      expiry_clears Free s.tones m.world.legs (record { slot = x; leg = leg }) (free x leg in_x at (λ up. timed_quiet e other (sym state ∙ up))) e other
      (λ among. peer_free leg leg.peer (subst (λ n. is_among ringing n ≡ true) (sym state) among) (kept.1.each x leg in_x at).peer))

-- ---- what a slot hears whose leg doesn't talk

quiet_circuit : (tones : Tones) (leg : Leg) (o : Option Circuit) → leg.state ≢ active → MayHear tones leg o → (c : Circuit) → o ≡ Some c → is_conversation c ≡ false
quiet_circuit tones leg None quiet may c is = absurd cc
quiet_circuit tones leg (Some (Tone kind to since)) quiet may c is = let same : Tone kind to since ≡ c = cc in subst (λ (k : Circuit). is_conversation k ≡ false) same refl
quiet_circuit tones leg (Some (Pair from to since)) quiet may c is = absurd (quiet may.0)
quiet_circuit tones leg (Some (Member room at since)) quiet may c is = absurd (quiet may.0)

none_named : (circuits : List Circuit) (x : Slot) → Stands circuits x → ((c : Circuit) → heard_by circuits x ≡ Some c → is_conversation c ≡ false) → filter is_conversation (circuits_naming circuits x) ≡ []
none_named circuits x (Has_no_circuit e) quiet = ap (filter is_conversation) e
none_named circuits x (Has_tone kind since e) quiet = ap (filter is_conversation) e
none_named circuits x (Is_seated room since e) quiet =
    let heard : heard_by circuits x ≡ Some (Member room x since) = sym (heard_by-naming circuits x) ∙ ap (λ cs. heard_by cs x) e ∙ rw (same_slot-refl x) refl in
    let wrong : true ≡ false = quiet (Member room x since) heard in
    absurd cc
none_named circuits x (Is_connected y since apart (inl e)) quiet =
    let heard : heard_by circuits x ≡ Some (Pair y x since) = sym (heard_by-naming circuits x) ∙ ap (λ cs. heard_by cs x) e ∙ rw (same_slot-false x y (λ f. apart (sym f)), same_slot-refl x) refl in
    let wrong : true ≡ false = quiet (Pair y x since) heard in
    absurd cc
none_named circuits x (Is_connected y since apart (inr e)) quiet =
    let heard : heard_by circuits x ≡ Some (Pair y x since) = sym (heard_by-naming circuits x) ∙ ap (λ cs. heard_by cs x) e ∙ rw (same_slot-refl x) refl in
    let wrong : true ≡ false = quiet (Pair y x since) heard in
    absurd cc

-- ---- connections, seats and paths

filter_none : (p : Circuit → Bool) (cs : List Circuit) → filter p cs ≡ [] → filter (λ c. not (p c)) cs ≡ cs
filter_none p [] none = refl
filter_none p (c ∷ cs) none = elim (true_or_false (p c)) [
  | inl passes ↦ let wrong : c ∷ filter p cs ≡ [] = rw passes at none in absurd cc
  | inr fails ↦ let rest : filter p cs ≡ [] = rw fails at none in rw fails (ap (λ (ds : List Circuit). c ∷ ds) (filter_none p cs rest))
]

with_tone_too : (circuits : List Circuit) (kind : Kind) (x : Slot) (since : ℕ) → filter is_conversation (circuits ++ Tone kind x since ∷ []) ≡ filter is_conversation circuits
with_tone_too [] kind x since = refl
with_tone_too (Pair from to n ∷ cs) kind x since = ap (λ (ds : List Circuit). Pair from to n ∷ ds) (with_tone_too cs kind x since)
with_tone_too (Member room at n ∷ cs) kind x since = ap (λ (ds : List Circuit). Member room at n ∷ ds) (with_tone_too cs kind x since)
with_tone_too (Tone k to n ∷ cs) kind x since = with_tone_too cs kind x since

-- a slot that hears by no conversation has no partner
no_partner : (external : ℕ) (ports : Ports) (x : Slot) (cs : List Circuit) → filter is_conversation cs ≡ [] → partner external ports (heard_by cs x) ≡ None
no_partner external ports x [] none = refl
no_partner external ports x (Pair from to since ∷ cs) none = absurd cc
no_partner external ports x (Member room at since ∷ cs) none = absurd cc
no_partner external ports x (Tone kind to since ∷ cs) none = elim (same_slot_cases x to) [
  | inl same ↦ rw (subst (λ (y : Slot). same_slot x y ≡ true) same (same_slot-refl x)) refl
  | inr away ↦ rw away (no_partner external ports x cs none)
]

module _ (d : Dimensions) (talks : List Circuit) (layout : Layout) where
  -- no conversation names the slot
  abbrev Silent : Slot → Type 0
  Silent x = filter (names x) talks ≡ []

  abbrev SameTalks : World → Type 0
  SameTalks w = (filter is_conversation w.holding.circuits ≡ talks) × (w.layout ≡ layout)

  named_none : (w : World) (x : Slot) → SameTalks w → Silent x → filter is_conversation (circuits_naming w.holding.circuits x) ≡ []
  named_none w x same silent = filter_filter is_conversation (names x) w.holding.circuits ∙ ap (filter (names x)) same.0 ∙ silent

  talks_performed : (m : Making) (o : Operation) → Clears Silent o → SameTalks m.world → SameTalks (making_after d m o).world
  talks_performed m (op.Clear x) silent same =
      let circuits = m.world.holding.circuits in (
        filter_filter is_conversation (λ c. not (names x c)) circuits ∙ ap (filter (λ c. not (names x c))) same.0 ∙ filter_none (names x) talks silent,
        ap (without_both m.world.layout x) (ap (partner d.external m.world.ports) (sym (heard_by-naming circuits x)) ∙ no_partner d.external m.world.ports x (circuits_naming circuits x) (named_none m.world x same silent)) ∙ same.1,
      )
  talks_performed m (op.Pair x y) silent same = absurd silent
  talks_performed m (op.Seat x room) silent same = absurd silent
  talks_performed m (op.Sound x None) silent same = same
  talks_performed m (op.Sound x (Some kind)) silent same = (with_tone_too m.world.holding.circuits kind x m.world.holding.next ∙ same.0, same.1)
  talks_performed m (op.Put x leg) silent same = same
  talks_performed m (op.Wait x leg p) silent same = same
  talks_performed m (op.Expect x leg message) silent same = same
  talks_performed m (op.Repeat h octets) silent same = same
  talks_performed m (op.Await x leg) silent same = same
  talks_performed m (op.Remove x condition) silent same = same
  talks_performed m (op.Send line message) silent same = same

  talks_performed_all : (m : Making) (os : List Operation) → ClearsAll Silent os → SameTalks m.world → SameTalks (making_after_all d m os).world
  talks_performed_all m [] silent same = same
  talks_performed_all m (o ∷ os) silent same = talks_performed_all (making_after d m o) os silent.1 (talks_performed m o silent.0 same)

  silent_by : (tones : Tones) (w : World) → Kept d tones w → SameTalks w → (x : Slot) (leg : Leg) → IsExternal d.external x → leg_at w.legs x ≡ Some leg → leg.state ≢ active → Silent x
  silent_by tones w kept same x leg in_x at quiet =
      ap (filter (names x)) (sym same.0) ∙ sym (filter_filter is_conversation (names x) w.holding.circuits)
      ∙ none_named w.holding.circuits x (kept.0.standing x) (quiet_circuit tones leg (heard_by w.holding.circuits x) quiet (kept.1.each x leg in_x at).hears)

module _ (s : Setting) (frame : ℕ) (w : World) (kept : Kept s.dimensions s.tones w) (later : frame < w.holding.next) (calm : NoneIsLost s.timers frame w.legs) where
  -- no data link is lost in the turn of a line
  calm_at : (line : ℕ) → line < s.dimensions.external → (leg : Leg) → leg_at (outcome_of_lines s frame w line).making.world.legs (slot_looked_at frame line) ≡ Some leg → due_of s.timers frame leg ≢ Some expiry.Outage
  calm_at line small leg at is =
      let x = slot_looked_at frame line in
      calm x leg (unchanged_due s frame w kept later line (omega (arith, small)) x (place_within s.dimensions.external frame line small) leg expiry.Outage at is) is

  abbrev talks : List Circuit
  talks = filter is_conversation w.holding.circuits

  same_talks : (lines : ℕ) → lines ≤ s.dimensions.external → SameTalks s.dimensions talks w.layout (outcome_of_lines s frame w lines).making.world
  same_talks zero few = subst (λ (a : MessageOutcome). SameTalks s.dimensions talks w.layout a.making.world) (sym (lines_none s frame w)) (refl, refl)
  same_talks (suc line) few =
      let d = s.dimensions in
      let a = outcome_of_lines s frame w line in
      let x : Slot = slot_looked_at frame line in
      let small : line < d.external = omega (arith, few) in
      let within = place_within d.external frame line small in
      let k = lines_kept s frame w kept line (omega (arith, few)) in
      let so_far = same_talks line (omega (arith, few)) in
      subst (λ (b : MessageOutcome). SameTalks d talks w.layout b.making.world) (sym (lines_more s frame w line))
      (talks_performed_all d talks w.layout a.making (expire_slot s frame a.making.world.legs x)
      (slot_clears s frame a.making k x within (Silent d talks w.layout) (silent_by d talks w.layout s.tones a.making.world k so_far) (calm_at line small)) so_far)

pub conversations_stay : (s : Setting) (w : World) (input : Input) → CallsStand s w → NoneIsLost s.timers w.holding.next w.legs → ConversationsStay s w input
conversations_stay s w input stands calm = (same_talks s w.holding.next (pass w input) (pass_kept s w stands.circuits stands.legs input) (omega arith) calm s.dimensions.external (omega arith)).0

pub layout_stays : (s : Setting) (w : World) (input : Input) → CallsStand s w → NoneIsLost s.timers w.holding.next w.legs → LayoutStays s w input
layout_stays s w input stands calm = (same_talks s w.holding.next (pass w input) (pass_kept s w stands.circuits stands.legs input) (omega arith) calm s.dimensions.external (omega arith)).1

-- ---- ports

unowned_stay : (x : Slot) (ports : Ports) → ((k : ℕ) → owner_of ports k ≡ Some x → ⊥) → ports_without x ports ≡ ports
unowned_stay x [] none = refl
unowned_stay x (None ∷ ports) none = ap (λ (ps : Ports). None ∷ ps) (unowned_stay x ports (λ k. none (suc k)))
unowned_stay x (Some y ∷ ports) none =
    rw (same_slot-false x y (λ e. none 0 (ap (λ (z : Slot). Some z) (sym e)))) (ap (λ (ps : Ports). Some y ∷ ps) (unowned_stay x ports (λ k. none (suc k))))

module _ (d : Dimensions) (ports : Ports) where
  -- the slot has no port
  abbrev Unowned : Slot → Type 0
  Unowned x = (k : ℕ) → owner_of ports k ≡ Some x → ⊥

  ports_performed : (m : Making) (o : Operation) → Clears Unowned o → m.world.ports ≡ ports → (making_after d m o).world.ports ≡ ports
  ports_performed m (op.Clear x) free same = ap (ports_without x) same ∙ unowned_stay x ports free
  ports_performed m (op.Pair x y) free same = absurd free
  ports_performed m (op.Seat x room) free same = absurd free
  ports_performed m (op.Sound x kind) free same = same
  ports_performed m (op.Put x leg) free same = same
  ports_performed m (op.Wait x leg p) free same = same
  ports_performed m (op.Expect x leg message) free same = same
  ports_performed m (op.Repeat h octets) free same = same
  ports_performed m (op.Await x leg) free same = same
  ports_performed m (op.Remove x condition) free same = same
  ports_performed m (op.Send line message) free same = same

  ports_performed_all : (m : Making) (os : List Operation) → ClearsAll Unowned os → m.world.ports ≡ ports → (making_after_all d m os).world.ports ≡ ports
  ports_performed_all m [] free same = same
  ports_performed_all m (o ∷ os) free same = ports_performed_all (making_after d m o) os free.1 (ports_performed m o free.0 same)

  -- whoever has a port is a member, and talks
  unowned_by : (tones : Tones) (w : World) → IsMade d tones w → Kept d tones w → w.ports ≡ ports → (x : Slot) (leg : Leg) → IsExternal d.external x → leg_at w.legs x ≡ Some leg → leg.state ≢ active → Unowned x
  unowned_by tones w made kept same x leg in_x at quiet k owned =
      let member = has_member d.bridges k w.holding.circuits w.ports x (made_matched d tones w made) (ap (λ (ps : Ports). owner_of ps k) same ∙ owned) in
      let c : Circuit = Member member.0 x member.1 in
      let heard = heard_by-listener w.holding.circuits c (kept.0.standing x) member.2 in
      let wrong : true ≡ false = quiet_circuit tones leg (heard_by w.holding.circuits x) quiet (kept.1.each x leg in_x at).hears c heard in
      cc

module _ (s : Setting) (frame : ℕ) (w : World) (made : IsMade s.dimensions s.tones w) (kept : Kept s.dimensions s.tones w) (later : frame < w.holding.next) (calm : NoneIsLost s.timers frame w.legs) where
  same_ports : (lines : ℕ) → lines ≤ s.dimensions.external → ((outcome_of_lines s frame w lines).making.world.ports ≡ w.ports) × IsMade s.dimensions s.tones (outcome_of_lines s frame w lines).making.world
  same_ports zero few = subst (λ (a : MessageOutcome). (a.making.world.ports ≡ w.ports) × IsMade s.dimensions s.tones a.making.world) (sym (lines_none s frame w)) (refl, made)
  same_ports (suc line) few =
      let d = s.dimensions in
      let a = outcome_of_lines s frame w line in
      let x : Slot = slot_looked_at frame line in
      let small : line < d.external = omega (arith, few) in
      let within = place_within d.external frame line small in
      let os = expire_slot s frame a.making.world.legs x in
      let k = lines_kept s frame w kept line (omega (arith, few)) in
      let so_far = same_ports line (omega (arith, few)) in
      subst (λ (b : MessageOutcome). (b.making.world.ports ≡ w.ports) × IsMade d s.tones b.making.world) (sym (lines_more s frame w line)) (
        ports_performed_all d w.ports a.making os (slot_clears s frame a.making k x within (Unowned d w.ports) (unowned_by d w.ports s.tones a.making.world so_far.1 k so_far.0) (calm_at s frame w kept later calm line small)) so_far.0,
        made_performed_all d s.tones s.plan a.making os (slot_may s frame a.making x k within s.plan) so_far.1,
      )

pub ports_stay : (s : Setting) (w : World) (input : Input) → CallsStand s w → NoneIsLost s.timers w.holding.next w.legs → IsMade s.dimensions s.tones w → PortsStay s w input
ports_stay s w input stands calm made =
    (same_ports s w.holding.next (pass w input) (made_pass s.dimensions s.tones w made input) (pass_kept s w stands.circuits stands.legs input) (omega arith) calm s.dimensions.external (omega arith)).0
