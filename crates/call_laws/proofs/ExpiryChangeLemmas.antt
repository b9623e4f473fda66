-- Which legs a frame's turn changes: the timer of one runs out, or the timer of the other leg of its call.
use Rattle.std.proofs.Common.{◌≡◌, ℕ, zero, suc, ◌<◌, ◌≤◌, ◌⊎◌, inl, inr, Bool, true, List, [], ◌∷◌, ◌++◌, Option, Some, None, refl, sym, ◌∙◌, ap, subst, arith, ◌≢◌}
use Rattle.std.specs.Prelude.{◌+◌, ◌%◌, nat_le, IfSome, IsTrue, is_some, option_and_then}
use Rattle.std.proofs.lemmas.Bool.Decides.{nat_tests}
use Rattle.std.proofs.lemmas.Grind.{common_steps}
use Rattle.circuit_model.specs.declared.channel.Slot.{Slot}
use Rattle.circuit_model.specs.Extent.{IsExternal}
use Rattle.circuit_model.specs.FrameInput.{Input}
use Rattle.circuit_model.proofs.Slots.{true_or_false}
use Rattle.q931_codec.specs.Causes.{invalid_number_format, no_answer_from_user, no_user_responding, recovery_on_timer_expiry, destination_out_of_order}
use Rattle.call_timers.specs.Expiries.{expiry_in, frames_to, if_run_out, due}
use Rattle.call_timers.specs.declared.expiry.Expiry.{Expiry}
use Rattle.call_timers.specs.declared.expiry.Expiry.TheVariants as expiry
use Rattle.call_timers.specs.declared.timers.Timers.{Timers}
use Rattle.call_states.specs.Acts.{is_among}
use Rattle.call_states.specs.declared.leg.HeldLeg.{HeldLeg}
use Rattle.call_states.specs.declared.leg.Leg.{Leg}
use Rattle.call_states.specs.declared.leg.Peer.{Peer}
use Rattle.call_states.specs.declared.leg.Peer.TheVariants as peer
use Rattle.call_states.specs.declared.leg.Side.{Side}
use Rattle.call_states.specs.declared.leg.Side.TheVariants.{Caller, Called}
use Rattle.tone_rules.specs.declared.tones.Tones.{Tones}
use Rattle.exchange_events.specs.Sizes.{Setting, Dimensions}
use Rattle.call_profile.specs.Acts.{peer_of, with_peer, clear_with}
use Rattle.call_profile.specs.Expiring.{timed_state, send_again, clear_peer, clear_both, on_expiry, due_of, expire_slot, slot_looked_at, outcome_of_lines}
use Rattle.call_laws.specs.ExpiryBounds.{RunsOut, EitherRunsOut, NoneElseChanges, UntimedStay, without_timers, NoneIsLost}
use Rattle.call_profile.specs.Legs.{Legs, retransmitted_from, leg_at, kept_at}
use Rattle.call_profile.specs.LegStanding.{CallsStand, HasPeer, IsInCall, are_matched}
use Rattle.call_profile.specs.Operations as op
use Rattle.call_profile.specs.Operations.{Operation, Making, begun, making_after, making_after_all}
use Rattle.call_profile.specs.Restarts.{MessageOutcome}
use Rattle.call_profile.specs.World.{World, pass}
use Rattle.call_profile.proofs.BesideLemmas.{leg_at-with_entry_else, same_or_apart, peer_back}
use Rattle.call_profile.proofs.ClearingLemmas.{Kept, held_there}
use Rattle.call_profile.proofs.CommandLemmas.{pass_kept}
use Rattle.call_profile.proofs.ExpiringLemmas.{at_slot, lines_kept, lines_none, lines_more, place_within}
use Rattle.call_laws.proofs.ExpirySinceLemmas.{StaysOrBegins, began_by}
use Rattle.call_profile.proofs.ExpiryStateLemmas.{due_state}

-- ---- a slot that operations do not name

module _ (d : Dimensions) (z : Slot) (in_z : IsExternal d.external z) where
  abbrev pub Apart : Slot → Type 0
  Apart x = IsExternal d.external x × (z ≡ x → ⊥)

  -- it is not written, and joins no circuit
  abbrev pub Spares : Operation → Type 0
  Spares (op.Clear x) = Unit {0}
  Spares (op.Pair x y) = ⊥
  Spares (op.Seat x room) = ⊥
  Spares (op.Sound x kind) = Apart x
  Spares (op.Put x leg) = Apart x
  Spares (op.Wait x leg p) = Apart x
  Spares (op.Expect x leg message) = Apart x
  Spares (op.Repeat h octets) = Apart h.slot
  Spares (op.Await x leg) = Apart x
  Spares (op.Remove x condition) = Apart x
  Spares (op.Send line message) = Unit {0}

  abbrev pub SparesAll : List Operation → Type 0
  SparesAll [] = Unit {0}
  SparesAll (o ∷ os) = Spares o × SparesAll os

  leg_at_spared : (m : Making) (o : Operation) → Spares o → leg_at (making_after d m o).world.legs z ≡ leg_at m.world.legs z
  leg_at_spared m (op.Clear x) may = refl
  leg_at_spared m (op.Pair x y) may = refl
  leg_at_spared m (op.Seat x room) may = refl
  leg_at_spared m (op.Sound x kind) may = refl
  leg_at_spared m (op.Put x leg) may = leg_at-with_entry_else d.external m.world.legs x z (Some (begun m.world leg)) may.0 in_z may.1
  leg_at_spared m (op.Wait x leg p) may = leg_at-with_entry_else d.external m.world.legs x z (Some (begun m.world leg)) may.0 in_z may.1
  leg_at_spared m (op.Expect x leg message) may = leg_at-with_entry_else d.external m.world.legs x z (Some (begun m.world leg)) may.0 in_z may.1
  leg_at_spared m (op.Repeat h octets) may = leg_at-with_entry_else d.external m.world.legs h.slot z (Some (retransmitted_from m.world.holding.next h.leg)) may.0 in_z may.1
  leg_at_spared m (op.Await x leg) may = leg_at-with_entry_else d.external m.world.legs x z (Some (retransmitted_from m.world.holding.next leg)) may.0 in_z may.1
  leg_at_spared m (op.Remove x condition) may = leg_at-with_entry_else d.external m.world.legs x z None may.0 in_z may.1
  leg_at_spared m (op.Send line message) may = refl

  pub leg_at-making_after_all_spared : (m : Making) (os : List Operation) → SparesAll os → leg_at (making_after_all d m os).world.legs z ≡ leg_at m.world.legs z
  leg_at-making_after_all_spared m [] may = refl
  leg_at-making_after_all_spared m (o ∷ os) may = leg_at-making_after_all_spared (making_after d m o) os may.1 ∙ leg_at_spared m o may.0

  both_spare : (os ps : List Operation) → SparesAll os → SparesAll ps → SparesAll (os ++ ps)
  both_spare [] ps one other = other
  both_spare (o ∷ os) ps one other = (one.0, both_spare os ps one.1 other)

  -- ---- an expiry

  module _ (tones : Tones) (legs : Legs) (h : HeldLeg) (apart : Apart h.slot) where
    cleared : (cause : ℕ) (k : HeldLeg) → Apart k.slot → SparesAll (clear_with tones cause k)
    cleared cause k away = (tt, (away, (away, (tt, tt))))

    pub peer_cleared : (cause : ℕ) (o : Option HeldLeg) → IfSome o (λ k. Apart k.slot) → SparesAll (with_peer o (clear_with tones cause))
    peer_cleared cause None away = tt
    peer_cleared cause (Some k) away = cleared cause k away

    both_cleared : (cause : ℕ) → IfSome (peer_of legs h.leg.peer) (λ k. Apart k.slot) → SparesAll (clear_both tones legs h cause)
    both_cleared cause away =
        both_spare (clear_with tones recovery_on_timer_expiry h) (clear_peer tones legs h cause) (cleared recovery_on_timer_expiry h apart) (peer_cleared cause (peer_of legs h.leg.peer) away)

    again : (o : Option (List ℕ)) → SparesAll (send_again h o)
    again None = tt
    again (Some octets) = (apart, tt)

    pub expiry_spares : (e : Expiry) → IfSome (peer_of legs h.leg.peer) (λ k. Apart k.slot) → SparesAll (on_expiry tones legs h e)
    expiry_spares expiry.Digits away = cleared invalid_number_format h apart
    expiry_spares expiry.SetupAgain away = again (kept_at legs h.slot)
    expiry_spares expiry.SetupOver away = (tt, (apart, (tt, peer_cleared no_user_responding (peer_of legs h.leg.peer) away)))
    expiry_spares expiry.Proceeding away = both_cleared no_user_responding away
    expiry_spares expiry.Alerting away = both_cleared no_answer_from_user away
    expiry_spares expiry.Outage away = (tt, (apart, peer_cleared destination_out_of_order (peer_of legs h.leg.peer) away))
    expiry_spares expiry.Disconnect away = (apart, tt)
    expiry_spares expiry.ReleaseAgain away = again (kept_at legs h.slot)
    expiry_spares expiry.ReleaseOver away = (tt, (apart, tt))

-- ---- a leg that is due waits since no later frame

run_out_since : (timers : Timers) (since frame : ℕ) (e f : Expiry) → if_run_out timers since frame e ≡ Some f → since ≤ frame
run_out_since timers since frame e f = elim (true_or_false (nat_le (since + frames_to timers e) frame)) [
  | inl over ↦ rw over (λ is. grind (arith, nat_tests, over))
  | inr not_yet ↦ rw not_yet (λ is. absurd cc)
]

due_in_since : (timers : Timers) (since frame : ℕ) (o : Option Expiry) (f : Expiry) → option_and_then (if_run_out timers since frame) o ≡ Some f → since ≤ frame
due_in_since timers since frame None f is = absurd cc
due_in_since timers since frame (Some e) f is = run_out_since timers since frame e f is

pub due_since : (state : ℕ) (resent : Bool) (since frame : ℕ) (timers : Timers) (e : Expiry) → due state resent since frame timers ≡ Some e → since ≤ frame
due_since state resent since frame timers e is = due_in_since timers since frame (expiry_in state resent) e is

-- ---- one slot is looked at

module _ (s : Setting) (frame next : ℕ) (before : Legs) (later : frame < next) (z : Slot) (in_z : IsExternal s.dimensions.external z) where
  -- the leg of the other slot is as before the frame, or it was changed by a timer
  abbrev pub Changed : Legs → Type 0
  Changed legs = (leg_at legs z ≡ leg_at before z) ⊎ EitherRunsOut s.timers frame before z

  module _ (m : Making) (kept : Kept s.dimensions s.tones m.world) (x : Slot) (in_x : IsExternal s.dimensions.external x) (looked : x.place ≡ frame % 30)
      (began : StaysOrBegins next before m.world.legs x) (so_far : Changed m.world.legs) where
    abbrev now_legs : Legs
    now_legs = m.world.legs

    still : (now : Legs) → leg_at now z ≡ leg_at now_legs z → Changed now
    still now same = elim so_far [
      | inl stays ↦ inl (same ∙ stays)
      | inr other ↦ inr other
    ]

    -- the other leg of the call is somewhere else, or there
    names : (leg : Leg) (p : Peer) → HasPeer s.dimensions.external now_legs x leg p
        → IfSome (peer_of now_legs p) (λ k. Apart s.dimensions z in_z k.slot) ⊎ ((other : Leg) × (leg_at now_legs z ≡ Some other) × (other.peer ≡ peer.Leg x))
    names leg peer.Alone has = inl tt
    names leg (peer.Leg y) has = elim (same_or_apart z y) [
      | inl same ↦ inr (has.1.0, ap (leg_at now_legs) same ∙ has.1.1, peer_back leg.side x y leg has.1.0 has.1.2)
      | inr apart ↦ inl (subst (λ (o : Option HeldLeg). IfSome o (λ k. Apart s.dimensions z in_z k.slot)) (sym (held_there now_legs y has.1.0 has.1.1)) (has.0, apart))
    ]
    names leg (peer.Room room) has = inl tt

    module _ (leg : Leg) (e : Expiry) (at : leg_at now_legs x ≡ Some leg) (is : due_of s.timers frame leg ≡ Some e) where
      abbrev h : HeldLeg
      h = record { slot = x; leg = leg }

      -- what an earlier line's timer has put here is not due in the same frame
      leg_at_before : leg_at now_legs x ≡ leg_at before x
      leg_at_before = elim began [
        | inl stays ↦ stays
        | inr begins ↦
            let since = subst (λ (o : Option Leg). IfSome o (λ l. l.since ≡ next)) at begins in
            let early = due_since leg.state leg.resent leg.since frame s.timers e is in
            absurd (omega (arith, later, since, early))
      ]

      runs : RunsOut s.timers frame before x leg
      runs = record { looked = looked; at = sym leg_at_before ∙ at; due = ap (λ (o : Option Expiry). is_some o) is }

      expired : Changed (making_after_all s.dimensions m (on_expiry s.tones now_legs h e)).world.legs
      expired = elim (same_or_apart z x) [
        | inl same ↦ inr (leg, ap (leg_at before) same ∙ runs.at, inl (subst (λ (y : Slot). RunsOut s.timers frame before y leg) (sym same) runs))
        | inr apart ↦ elim (names leg leg.peer (kept.1.each x leg in_x at).peer) [
          | inl away ↦ still (making_after_all s.dimensions m (on_expiry s.tones now_legs h e)).world.legs (leg_at-making_after_all_spared s.dimensions z in_z m (on_expiry s.tones now_legs h e) (expiry_spares s.dimensions z in_z s.tones now_legs h (in_x, apart) e away))
          | inr named ↦ elim so_far [
            | inl stays ↦ inr (named.0, sym stays ∙ named.1, inr (x, leg, named.2, runs))
            | inr other ↦ inr other
          ]
        ]
      ]

    slot_changed : Changed (making_after_all s.dimensions m (expire_slot s frame now_legs x)).world.legs
    slot_changed = at_slot s frame now_legs x (λ os. Changed (making_after_all s.dimensions m os).world.legs) so_far expired

-- ---- the lines of a frame

pub changed_by : (s : Setting) (frame : ℕ) (w : World) (kept : Kept s.dimensions s.tones w) (later : frame < w.holding.next) (z : Slot) (in_z : IsExternal s.dimensions.external z) (lines : ℕ) → lines ≤ s.dimensions.external
    → Changed s frame w.holding.next w.legs later z in_z (outcome_of_lines s frame w lines).making.world.legs
changed_by s frame w kept later z in_z zero few = inl (ap (λ (a : MessageOutcome). leg_at a.making.world.legs z) (lines_none s frame w))
changed_by s frame w kept later z in_z (suc line) few =
    let a = outcome_of_lines s frame w line in
    let x = slot_looked_at frame line in
    let fewer : line ≤ s.dimensions.external = omega (arith, few) in
    let in_x = place_within s.dimensions.external frame line (omega (arith, few)) in
    let so_far = changed_by s frame w kept later z in_z line fewer in
    subst (λ (b : MessageOutcome). Changed s frame w.holding.next w.legs later z in_z b.making.world.legs) (sym (lines_more s frame w line))
    (slot_changed s frame w.holding.next w.legs later z in_z a.making (lines_kept s frame w kept line fewer) x in_x refl (began_by s frame w kept x in_x line fewer) so_far)

-- a leg that is due in its turn is as before the frame
pub unchanged_due : (s : Setting) (frame : ℕ) (w : World) (kept : Kept s.dimensions s.tones w) (later : frame < w.holding.next) (lines : ℕ) → lines ≤ s.dimensions.external → (x : Slot) → IsExternal s.dimensions.external x
    → (leg : Leg) (e : Expiry) → leg_at (outcome_of_lines s frame w lines).making.world.legs x ≡ Some leg → due_of s.timers frame leg ≡ Some e → leg_at w.legs x ≡ Some leg
unchanged_due s frame w kept later lines few x in_x leg e at is = elim (began_by s frame w kept x in_x lines few) [
  | inl stays ↦ sym stays ∙ at
  | inr begins ↦
      let since = subst (λ (o : Option Leg). IfSome o (λ l. l.since ≡ w.holding.next)) at begins in
      let early = due_since leg.state leg.resent leg.since frame s.timers e is in
      absurd (omega (arith, later, since, early))
]

pub none_else_changes : (s : Setting) (w : World) (input : Input) → CallsStand s w → NoneElseChanges s w input
none_else_changes s w input stands x in_x =
    changed_by s w.holding.next (pass w input) (pass_kept s w stands.circuits stands.legs input) (omega arith) x in_x s.dimensions.external (omega arith)

-- ---- legs without a timer, whose peers have none either

timed_apart : (e : Expiry) → e ≢ expiry.Outage → is_among without_timers (timed_state e) ≡ true → ⊥
timed_apart expiry.Digits calm is = cc
timed_apart expiry.SetupAgain calm is = cc
timed_apart expiry.SetupOver calm is = cc
timed_apart expiry.Proceeding calm is = cc
timed_apart expiry.Alerting calm is = cc
timed_apart expiry.Outage calm is = calm refl
timed_apart expiry.Disconnect calm is = cc
timed_apart expiry.ReleaseAgain calm is = cc
timed_apart expiry.ReleaseOver calm is = cc

never_due : (timers : Timers) (frame : ℕ) (leg : Leg) (o : Option Expiry) → due_of timers frame leg ≡ o → o ≢ Some expiry.Outage → is_some o ≡ true → is_among without_timers leg.state ≡ true → ⊥
never_due timers frame leg None is calm some among = cc
never_due timers frame leg (Some e) is calm some among =
    timed_apart e (λ same. calm (ap (λ (f : Expiry). Some f) same)) (subst (λ (state : ℕ). is_among without_timers state ≡ true) (due_state leg.state leg.resent leg.since frame timers e is) among)

runs_never : (timers : Timers) (frame : ℕ) (legs : Legs) (x : Slot) (leg : Leg) → NoneIsLost timers frame legs → RunsOut timers frame legs x leg → is_among without_timers leg.state ≡ true → ⊥
runs_never timers frame legs x leg calm runs among = never_due timers frame leg (due_of timers frame leg) refl (calm x leg runs.at) runs.due among

both_untimed : (t s : ℕ) → IsTrue (are_matched t s) → (is_among without_timers t ≡ true → is_among without_timers s ≡ true) × (is_among without_timers s ≡ true → is_among without_timers t ≡ true)
both_untimed t s matched = (λ among. grind (arith, common_steps, among, matched), λ among. grind (arith, common_steps, among, matched))

other_untimed : (side : Side) (x y : Slot) (leg other : Leg) → IsInCall side x leg y other → is_among without_timers leg.state ≡ true → is_among without_timers other.state ≡ true
other_untimed Caller x y leg other call among = (both_untimed leg.state other.state call.matched).0 among
other_untimed Called x y leg other call among = (both_untimed other.state leg.state call.matched).1 among

module _ (s : Setting) (w : World) (stands : CallsStand s w) (x : Slot) (in_x : IsExternal s.dimensions.external x) (frame : ℕ) (calm : NoneIsLost s.timers frame w.legs) where
  peer_never : (leg : Leg) (y : Slot) (other : Leg) → leg_at w.legs x ≡ Some leg → leg.peer ≡ peer.Leg y → RunsOut s.timers frame w.legs y other → is_among without_timers leg.state ≡ true → ⊥
  peer_never leg y other at named runs among =
      let has = subst (HasPeer s.dimensions.external w.legs x leg) named (stands.legs.each x leg in_x at).peer in
      let e : Some has.1.0 ≡ Some other = sym has.1.1 ∙ runs.at in
      let same : has.1.0 ≡ other = cc in
      runs_never s.timers frame w.legs y other calm runs (subst (λ (l : Leg). is_among without_timers l.state ≡ true) same (other_untimed leg.side x y leg has.1.0 has.1.2 among))

  pub neither_runs_out : (leg : Leg) → leg_at w.legs x ≡ Some leg → is_among without_timers leg.state ≡ true → EitherRunsOut s.timers frame w.legs x → ⊥
  neither_runs_out leg at among out =
      let e : Some out.0 ≡ Some leg = sym out.1 ∙ at in
      let same : out.0 ≡ leg = cc in
      let state = subst (λ (l : Leg). is_among without_timers l.state ≡ true) (sym same) among in
      elim out.2 [
        | inl own ↦ runs_never s.timers frame w.legs x out.0 calm own state
        | inr other ↦ peer_never out.0 other.0 other.1 out.1 other.2 other.3 state
      ]

pub untimed_stay : (s : Setting) (w : World) (input : Input) → CallsStand s w → NoneIsLost s.timers w.holding.next w.legs → UntimedStay s w input
untimed_stay s w input stands calm x leg in_x at among = elim (none_else_changes s w input stands x in_x) [
  | inl stays ↦ stays ∙ at
  | inr out ↦ absurd (neither_runs_out s w stands x in_x w.holding.next calm leg at among out)
]
