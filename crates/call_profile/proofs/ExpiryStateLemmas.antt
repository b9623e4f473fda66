-- In which state a leg is whose timer has run out, and that it is alone in three of them.
use Rattle.std.proofs.Common.{◌≡◌, ℕ, Bool, true, false, inl, inr, Option, Some, None, refl, ap, subst, arith, eqb-true, if◌then◌else◌}
use Rattle.std.specs.Prelude.{◌+◌, ◌==◌, nat_le, option_and_then}
use Rattle.std.proofs.lemmas.Grind.{common_steps}
use Rattle.circuit_model.specs.declared.channel.Slot.{Slot}
use Rattle.circuit_model.proofs.Slots.{true_or_false}
use Rattle.q931_codec.specs.CallStates.{overlap_sending, call_present, call_received, incoming_call_proceeding, disconnect_indication, release_request, active}
use Rattle.call_timers.specs.Expiries.{expiry_in, frames_to, if_run_out, due}
use Rattle.call_timers.specs.declared.expiry.Expiry.{Expiry}
use Rattle.call_timers.specs.declared.expiry.Expiry.TheVariants as expiry
use Rattle.call_timers.specs.declared.timers.Timers.{Timers}
use Rattle.call_states.specs.Acts.{is_among}
use Rattle.call_states.specs.declared.leg.Leg.{Leg}
use Rattle.call_states.specs.declared.leg.Peer.{Peer}
use Rattle.call_states.specs.declared.leg.Peer.TheVariants as peer
use Rattle.call_states.specs.declared.leg.Side.{Side}
use Rattle.call_states.specs.declared.leg.Side.TheVariants.{Caller, Called}
use Rattle.call_profile.specs.Expiring.{timed_state}
use Rattle.call_profile.specs.LegStanding.{HasPeer, IsInCall, alone}
use Rattle.call_profile.specs.Legs.{Legs}

-- ---- the state whose timer it is

-- by tests, as a state is looked up
abbrev Tested : Bool → Bool → Bool → Bool → Bool → Bool → Bool → Expiry → Type 0
Tested digits setup proceeding alerting talking disconnect release expiry.Digits = digits ≡ true
Tested digits setup proceeding alerting talking disconnect release expiry.SetupAgain = setup ≡ true
Tested digits setup proceeding alerting talking disconnect release expiry.SetupOver = setup ≡ true
Tested digits setup proceeding alerting talking disconnect release expiry.Proceeding = proceeding ≡ true
Tested digits setup proceeding alerting talking disconnect release expiry.Alerting = alerting ≡ true
Tested digits setup proceeding alerting talking disconnect release expiry.Outage = talking ≡ true
Tested digits setup proceeding alerting talking disconnect release expiry.Disconnect = disconnect ≡ true
Tested digits setup proceeding alerting talking disconnect release expiry.ReleaseAgain = release ≡ true
Tested digits setup proceeding alerting talking disconnect release expiry.ReleaseOver = release ≡ true

abbrev looked_up : Bool → Bool → Bool → Bool → Bool → Bool → Bool → Bool → Option Expiry
looked_up a b c r t d g resent =
    if a then Some expiry.Digits
    else if b then Some (if resent then expiry.SetupOver else expiry.SetupAgain)
    else if c then Some expiry.Proceeding
    else if r then Some expiry.Alerting
    else if t then (if resent then Some expiry.Outage else None)
    else if d then Some expiry.Disconnect
    else if g then Some (if resent then expiry.ReleaseOver else expiry.ReleaseAgain)
    else None

by_tests : (a b c r t d g resent : Bool) (e : Expiry) → looked_up a b c r t d g resent ≡ Some e → Tested a b c r t d g e
by_tests true b c r t d g resent e is = let same : expiry.Digits ≡ e = cc in subst (Tested true b c r t d g) same refl
by_tests false true c r t d g true e is = let same : expiry.SetupOver ≡ e = cc in subst (Tested false true c r t d g) same refl
by_tests false true c r t d g false e is = let same : expiry.SetupAgain ≡ e = cc in subst (Tested false true c r t d g) same refl
by_tests false false true r t d g resent e is = let same : expiry.Proceeding ≡ e = cc in subst (Tested false false true r t d g) same refl
by_tests false false false true t d g resent e is = let same : expiry.Alerting ≡ e = cc in subst (Tested false false false true t d g) same refl
by_tests false false false false true d g true e is = let same : expiry.Outage ≡ e = cc in subst (Tested false false false false true d g) same refl
by_tests false false false false true d g false e is = absurd cc
by_tests false false false false false true g resent e is = let same : expiry.Disconnect ≡ e = cc in subst (Tested false false false false false true g) same refl
by_tests false false false false false false true true e is = let same : expiry.ReleaseOver ≡ e = cc in subst (Tested false false false false false false true) same refl
by_tests false false false false false false true false e is = let same : expiry.ReleaseAgain ≡ e = cc in subst (Tested false false false false false false true) same refl
by_tests false false false false false false false resent e is = absurd cc

state_by : (state : ℕ) (e : Expiry)
    → Tested (state == overlap_sending) (state == call_present) (state == incoming_call_proceeding) (state == call_received) (state == active) (state == disconnect_indication) (state == release_request) e → state ≡ timed_state e
state_by state expiry.Digits is = eqb-true state overlap_sending is
state_by state expiry.SetupAgain is = eqb-true state call_present is
state_by state expiry.SetupOver is = eqb-true state call_present is
state_by state expiry.Proceeding is = eqb-true state incoming_call_proceeding is
state_by state expiry.Alerting is = eqb-true state call_received is
state_by state expiry.Outage is = eqb-true state active is
state_by state expiry.Disconnect is = eqb-true state disconnect_indication is
state_by state expiry.ReleaseAgain is = eqb-true state release_request is
state_by state expiry.ReleaseOver is = eqb-true state release_request is

run_out_same : (timers : Timers) (since frame : ℕ) (e f : Expiry) → if_run_out timers since frame e ≡ Some f → e ≡ f
run_out_same timers since frame e f = elim (true_or_false (nat_le (since + frames_to timers e) frame)) [
  | inl over ↦ rw over (λ is. cc)
  | inr not_yet ↦ rw not_yet (λ is. absurd cc)
]

due_in : (timers : Timers) (since frame : ℕ) (o : Option Expiry) (f : Expiry) → option_and_then (if_run_out timers since frame) o ≡ Some f → o ≡ Some f
due_in timers since frame None f is = absurd cc
due_in timers since frame (Some e) f is = ap (λ (g : Expiry). Some g) (run_out_same timers since frame e f is)

pub due_state : (state : ℕ) (resent : Bool) (since frame : ℕ) (timers : Timers) (e : Expiry) → due state resent since frame timers ≡ Some e → state ≡ timed_state e
due_state state resent since frame timers e is =
    state_by state e (by_tests (state == overlap_sending) (state == call_present) (state == incoming_call_proceeding) (state == call_received) (state == active) (state == disconnect_indication) (state == release_request) resent e
    (due_in timers since frame (expiry_in state resent) e is))

-- ---- a leg that is alone

not_in_call : (side : Side) (x y : Slot) (leg other : Leg) → is_among alone leg.state ≡ true → IsInCall side x leg y other → ⊥
not_in_call Caller x y leg other among one = let matched = one.matched in grind (arith, common_steps, among, matched)
not_in_call Called x y leg other among one = let matched = one.matched in grind (arith, common_steps, among, matched)

pub is_alone : (external : ℕ) (legs : Legs) (x : Slot) (leg : Leg) (p : Peer) → is_among alone leg.state ≡ true → HasPeer external legs x leg p → p ≡ peer.Alone
is_alone external legs x leg peer.Alone among has = refl
is_alone external legs x leg (peer.Leg y) among has = absurd (not_in_call leg.side x y leg has.1.0 among has.1.2)
is_alone external legs x leg (peer.Room room) among has = let talks = has.1 in absurd (grind (arith, common_steps, among, talks))
