-- What is known of an exchange at work when a message to a leg comes.
use Rattle.std.proofs.Common.{◌≡◌, ℕ, ◌+◌, ◌*◌, ◌<◌, ◌≤◌, length, Option, Some, None, sym, ◌∙◌, ap, subst, arith, eqb-true}
use Rattle.std.specs.Prelude.{IfSome}
use Rattle.circuit_model.specs.declared.channel.Slot.{Slot}
use Rattle.circuit_model.specs.Circuits.{heard_by, unless_naming}
use Rattle.circuit_model.specs.Extent.{IsExternal}
use Rattle.circuit_map.specs.Connections.{Connections, hears_at}
use Rattle.q931_codec.specs.declared.message.Message.{Message}
use Rattle.call_states.specs.Acts.{act_on, clearing_cause}
use Rattle.call_states.proofs.Causes.{cause_fits}
use Rattle.q931_codec.specs.CallStates.{active, overlap_sending}
use Rattle.q931_codec.specs.Contents.{call_state_in}
use Rattle.call_states.specs.declared.act.Act.TheVariants as act
use Rattle.call_states.specs.declared.leg.HeldLeg.{HeldLeg}
use Rattle.call_profile.specs.ActCourse.{course_of}
use Rattle.call_profile.specs.Acts.{peer_of}
use Rattle.call_control.specs.AtWork.{IsAtWork}
use Rattle.call_profile.specs.Calls.{outcome_by}
use Rattle.call_profile.proofs.RecordOfActLemmas.{records_of_act}
use Rattle.call_profile.specs.Legs.{Legs, leg_at}
use Rattle.call_profile.specs.Peers.{IsThere, PeerIsThere, IsSilent}
use Rattle.exchange_events.specs.Sizes.{Setting, Dimensions}
use Rattle.call_control.specs.Standing.{Holds}
use Rattle.call_profile.specs.World.{World}
use Rattle.call_profile.proofs.PermittedActLemmas.{is_there, peer_there_too, heard_by_rings_silent, caller_silent}
use Rattle.call_profile.proofs.AnsweringLemmas.{answers_among, unless_naming_cleared}
use Rattle.call_profile.proofs.RecordOfActLemmas.{leg_records}
use Rattle.call_profile.proofs.MessageToLegLemmas.{Asked, Asked-act_of}

-- a slot hears nothing more once it is cleared
pub unless_naming_cleared_silent : (d : Dimensions) (map : Connections) (legs : Legs) (w : World) (x : Slot) → Holds d map legs w → unless_naming x (hears_at map x) ≡ None
unless_naming_cleared_silent d map legs w x holds = unless_naming_cleared w.holding.circuits x (hears_at map x) (sym (holds.circuits.holds.heard x))

pub peer_external : (external : ℕ) (h : HeldLeg) (o : Option HeldLeg) → PeerIsThere external h o → IfSome o (λ other. IsExternal external other.slot)
peer_external external h None is = tt
peer_external external h (Some other) is = is.0.within

silent_on_map : (map : Connections) (w : World) → ((x : Slot) → hears_at map x ≡ heard_by w.holding.circuits x) → (o : Option HeldLeg)
    → IfSome o (λ c. heard_by w.holding.circuits c.slot ≡ None) → IsSilent map o
silent_on_map map w same None deaf = tt
silent_on_map map w same (Some c) deaf = same c.slot ∙ deaf

-- a leg that is asked for more digits is in overlap sending
pub digits_state : (state : ℕ) (m : Message) → act_on state m ≡ act.Digits → state ≡ overlap_sending
digits_state state m dials =
    eqb-true state overlap_sending (subst (Asked state) dials (Asked-act_of state m.kind (clearing_cause m.elements) (call_state_in m.elements) (cause_fits m.elements)))

-- a leg whose user reports its state is in active
pub reporting_state : (state reported : ℕ) (m : Message) → act_on state m ≡ act.Report reported → state ≡ active
reporting_state state reported m reports =
    eqb-true state active (subst (Asked state) reports (Asked-act_of state m.kind (clearing_cause m.elements) (call_state_in m.elements) (cause_fits m.elements)))

-- a line has a place for each of its thirty legs
pub row_inside : (s : Setting) (map : Connections) (legs : Legs) (w : World) (line : ℕ) → IsAtWork s map legs w → line < map.external → 30 * line + 30 ≤ length legs.held
row_inside s map legs w line work within =
    let same : map.external ≡ s.dimensions.external = ap (λ (d : Dimensions). d.external) work.holds.sizes in
    let count : length legs.held ≡ 30 * s.dimensions.external = ap (λ (ls : Legs). length ls.held) work.holds.legs_are ∙ work.stands.legs.count in
    omega (arith, within, same, count)

module _ (s : Setting) (map : Connections) (legs : Legs) (w : World) (work : IsAtWork s map legs w) (h : HeldLeg) (within : IsExternal map.external h.slot) (at : leg_at legs h.slot ≡ Some h.leg) where
  external_is : map.external ≡ s.dimensions.external
  external_is = ap (λ (d : Dimensions). d.external) work.holds.sizes

  in_world : IsExternal s.dimensions.external h.slot
  in_world = subst (λ n. IsExternal n h.slot) external_is within

  at_world : leg_at w.legs h.slot ≡ Some h.leg
  at_world = ap (λ ls. leg_at ls h.slot) (sym work.holds.legs_are) ∙ at

  pub known_there : IsThere map.external h
  known_there = subst (λ n. IsThere n h) (sym external_is) (is_there s.dimensions.external s.tones w h work.stands.legs in_world at_world)

  pub known_peer : (o : Option HeldLeg) → o ≡ peer_of legs h.leg.peer → PeerIsThere map.external h o
  known_peer o is =
      let there = subst (λ n. PeerIsThere n h (peer_of w.legs h.leg.peer)) (sym external_is) (peer_there_too s.dimensions.external s.tones w h work.stands.legs in_world at_world) in
      subst (PeerIsThere map.external h) (sym (is ∙ ap (λ ls. peer_of ls h.leg.peer) work.holds.legs_are)) there

  pub hears_at_known_silent : (m : Message) → act_on h.leg.state m ≡ act.Answer → hears_at map h.slot ≡ None
  hears_at_known_silent m answers =
      work.holds.circuits.holds.heard h.slot
      ∙ heard_by_rings_silent s.dimensions.external s.tones w h work.stands.legs in_world at_world (answers_among h.leg.state m.kind _ _ answers)

  -- the caller of a leg that is asked to be alerted hears nothing
  pub known_waiting : (m : Message) → act_on h.leg.state m ≡ act.Alerting → (o : Option HeldLeg) → o ≡ peer_of legs h.leg.peer → IsSilent map o
  known_waiting m alerts o is =
      let asks = subst (Asked h.leg.state) alerts (Asked-act_of h.leg.state m.kind (clearing_cause m.elements) (call_state_in m.elements) (cause_fits m.elements)) in
      let deaf = caller_silent s.dimensions.external s.tones w h work.stands.legs in_world at_world asks in
      let same : peer_of w.legs h.leg.peer ≡ o = sym (is ∙ ap (λ ls. peer_of ls h.leg.peer) work.holds.legs_are) in
      silent_on_map map w work.holds.circuits.holds.heard o (subst (λ (p : Option HeldLeg). IfSome p (λ c. heard_by w.holding.circuits c.slot ≡ None)) same deaf)

  pub known_records : (m : Message) → records_of_act w h (act_on h.leg.state m) ≡ (outcome_by s w (course_of s w h m (act_on h.leg.state m))).recorded
  known_records m = sym (leg_records s w h m work.planned work.stands in_world at_world)
