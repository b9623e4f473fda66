-- An answered call always finds both slots silent, and is connected.
use Rattle.std.proofs.Common.{◌≡◌, ℕ, ◌<◌, Bool, true, false, List, [], ◌∷◌, ◌++◌, Option, Some, None, refl, sym, ◌∙◌, ap, arith, if◌then◌else◌, inl, inr}
use Rattle.std.specs.Prelude.{Contains, ◌==◌}
use Rattle.std.proofs.lemmas.Grind.{common_steps}
use Rattle.std.proofs.lemmas.List.Elements.{Contains-append_right}
use Rattle.circuit_model.specs.declared.channel.Slot.{Slot}
use Rattle.circuit_model.specs.declared.circuit.Circuit.{Circuit}
use Rattle.circuit_model.specs.declared.circuit.Circuit.TheVariants.{Pair, Member, Tone}
use Rattle.circuit_model.specs.Circuits.{heard_by, unless_naming, is_idle}
use Rattle.circuit_model.specs.Extent.{IsExternal}
use Rattle.circuit_model.specs.Holding.{Holding, Clear, after, Valid}
use Rattle.circuit_model.proofs.Hearing.{heard_by-stands}
use Rattle.circuit_model.proofs.Slots.{listener_is_named}
use Rattle.circuit_model.proofs.Validity.{valid-clear, deaf_is_idle, heard_by-clear}
use Rattle.q931_codec.specs.declared.kind.MessageKind.{MessageKind}
use Rattle.q931_codec.specs.declared.kind.MessageKind.TheVariants as kind
use Rattle.q931_codec.specs.declared.message.Message.{Message}
use Rattle.q931_codec.specs.CallStates.{null, active, call_delivered, call_present, call_received, disconnect_indication, incoming_call_proceeding}
use Rattle.q931_codec.specs.Causes.{temporary_failure}
use Rattle.call_states.specs.Acts.{act_of, act_of_status, act_on, is_among}
use Rattle.call_states.specs.declared.act.Act.{Act}
use Rattle.call_states.specs.declared.act.Act.TheVariants as act
use Rattle.call_states.specs.declared.leg.Leg.{Leg}
use Rattle.call_states.specs.declared.leg.Peer.{Peer}
use Rattle.call_states.specs.declared.leg.Peer.TheVariants as peer
use Rattle.call_states.specs.declared.leg.Side.{Side}
use Rattle.call_states.specs.declared.leg.Side.TheVariants.{Caller, Called}
use Rattle.tone_rules.specs.declared.tones.Tones.{Tones}
use Rattle.call_profile.specs.LegStanding.{LegsStand, HasPeer, MayHear, IsInCall, AreOneCall}
use Rattle.call_states.specs.declared.leg.HeldLeg.{HeldLeg}
use Rattle.call_profile.specs.ActCourse.{course_of}
use Rattle.call_profile.specs.Acts.{on_connect}
use Rattle.call_profile.specs.Answered.{AreConnected}
use Rattle.call_profile.specs.Calls.{Request, For_leg, request_of, outcome_for, after_message}
use Rattle.call_profile.specs.Legs.{Legs, leg_at, held_at}
use Rattle.call_profile.specs.Operations.{Operation, Making, making_at, making_after_all}
use Rattle.exchange_events.specs.Sizes.{Setting}
use Rattle.call_profile.specs.World.{World}
use Rattle.call_profile.proofs.AnsweredLegLemmas.{connected, making_connected}
use Rattle.call_profile.proofs.ToneLemmas.{no_tone}
use Rattle.call_profile.proofs.NamedLegLemmas.{received_stands}

-- ---- in which states a user answers

abbrev pub ringing : List ℕ
ringing = call_present ∷ call_received ∷ incoming_call_proceeding ∷ []

not_answer : (b : Bool) (a : Act) → (a ≡ act.Answer → ⊥) → (if b then a else act.Unexpected) ≡ act.Answer → ⊥
not_answer true a other e = other e
not_answer false a other e = cc

not_dialled : (b c : Bool) → (if b then act.Digits else (if c then act.Nothing else act.Unexpected)) ≡ act.Answer → ⊥
not_dialled true c e = cc
not_dialled false true e = cc
not_dialled false false e = cc

answer_among : (b : Bool) → (if b then act.Answer else act.Unexpected) ≡ act.Answer → b ≡ true
answer_among true e = refl
answer_among false e = absurd cc

not_release : (a b : Bool) (cause : ℕ) → (if a then act.ReleaseComplete cause else (if b then act.Release cause else act.Unexpected)) ≡ act.Answer → ⊥
not_release true b cause e = cc
not_release false true cause e = cc
not_release false false cause e = cc

not_reported : (a b : Bool) (cause reported : ℕ) → (if a then act.ReleaseComplete cause else (if b then act.Report reported else act.Nothing)) ≡ act.Answer → ⊥
not_reported true b cause reported e = cc
not_reported false true cause reported e = cc
not_reported false false cause reported e = cc

not_status : (b : Bool) (state : ℕ) (reported : Option ℕ) → (if b then act_of_status state reported else act.Unexpected) ≡ act.Answer → ⊥
not_status true state None e = cc
not_status true state (Some reported) e = not_reported (reported == null) (state == active) temporary_failure reported e
not_status false state reported e = cc

pub answers_among : (state : ℕ) (k : MessageKind) (cause : ℕ) (r : Option ℕ) → act_of state k cause r ≡ act.Answer → is_among ringing state ≡ true
answers_among state kind.CallProceeding cause r e = absurd (not_answer _ act.Proceeding (λ f. cc) e)
answers_among state kind.Alerting cause r e = absurd (not_answer _ act.Alerting (λ f. cc) e)
answers_among state kind.Connect cause r e = answer_among (is_among ringing state) e
answers_among state kind.ConnectAcknowledge cause r e = absurd (not_answer _ act.Nothing (λ f. cc) e)
answers_among state kind.Progress cause r e = absurd (not_answer _ act.Nothing (λ f. cc) e)
answers_among state kind.Notify cause r e = absurd (not_answer _ act.Nothing (λ f. cc) e)
answers_among state kind.Facility cause r e = absurd (not_answer _ act.Nothing (λ f. cc) e)
answers_among state kind.UserInformation cause r e = absurd (not_answer _ act.Nothing (λ f. cc) e)
answers_among state kind.Setup cause r e = absurd (not_answer _ act.Nothing (λ f. cc) e)
answers_among state kind.Disconnect cause r e = absurd (not_answer _ (act.Disconnect cause) (λ f. cc) e)
answers_among state kind.Release cause r e = absurd (not_release _ _ cause e)
answers_among state kind.ReleaseComplete cause r e = absurd (not_answer _ (act.ReleaseComplete cause) (λ f. cc) e)
answers_among state kind.Status cause r e = absurd (not_status _ state r e)
answers_among state kind.StatusEnquiry cause r e = absurd (not_answer _ act.Enquiry (λ f. cc) e)
answers_among state kind.SetupAcknowledge cause r e = absurd cc
answers_among state kind.Restart cause r e = absurd cc
answers_among state kind.RestartAcknowledge cause r e = absurd cc
answers_among state kind.Information cause r e = absurd (not_dialled _ _ e)
answers_among state (kind.Unknown octet) cause r e = absurd cc

-- ---- a leg that may be answered

module _ (external : ℕ) (tones : Tones) (w : World) (x : Slot) (leg : Leg) (ringing_state : is_among ringing leg.state ≡ true) where
  -- it hears nothing
  pub silent_by : (o : Option Circuit) → MayHear tones leg o → o ≡ None
  silent_by None may = refl
  silent_by (Some (Tone k to since)) may =
      let not_four : (leg.state == call_delivered) ≡ false = grind (arith, common_steps, ringing_state) in
      let not_twelve : (leg.state == disconnect_indication) ≡ false = grind (arith, common_steps, ringing_state) in
      let none = no_tone tones leg not_four not_twelve in
      elim may [
        | inl sounds ↦ let wrong : None ≡ Some k = sym none ∙ sounds in absurd cc
        | inr left ↦ let is_left = left.0 in absurd (grind (arith, common_steps, ringing_state, is_left))
      ]
  silent_by (Some (Pair from to since)) may = absurd (grind (arith, common_steps, ringing_state, may.0))
  silent_by (Some (Member room to since)) may = absurd (grind (arith, common_steps, ringing_state, may.0))

  -- and is the called leg of a call
  called_by : (side : Side) (y : Slot) (other : Leg) → IsInCall side x leg y other → AreOneCall y other x leg
  called_by Caller y other one = let matched = one.matched in absurd (grind (arith, common_steps, ringing_state, matched))
  called_by Called y other one = one

  pub caller_of : (p : Peer) → HasPeer external w.legs x leg p → (y : Slot) × (p ≡ peer.Leg y) × IsExternal external y × ((other : Leg) × (leg_at w.legs y ≡ Some other) × AreOneCall y other x leg)
  caller_of peer.Alone has = absurd (grind (arith, common_steps, ringing_state, has))
  caller_of (peer.Leg y) has = (y, refl, has.0, (has.1.0, has.1.1, called_by leg.side y has.1.0 has.1.2))
  caller_of (peer.Room room) has = let is = has.1 in absurd (grind (arith, common_steps, ringing_state, is))

-- ---- the two slots are silent once the caller's is cleared

pub unless_naming_cleared : (circuits : List Circuit) (y : Slot) (o : Option Circuit) → heard_by circuits y ≡ o → unless_naming y o ≡ None
unless_naming_cleared circuits y None e = refl
unless_naming_cleared circuits y (Some c) e = rw (listener_is_named y c (heard_by-stands circuits y c e).1) refl

pub cleared_idle : (bridges : ℕ) (h : Holding) (y : Slot) → Valid bridges h → is_idle (after h (Clear y)).circuits y ≡ true
cleared_idle bridges h y valid =
    deaf_is_idle (after h (Clear y)).circuits y ((valid-clear bridges h y valid).standing y)
    (heard_by-clear h.circuits y y (valid.standing y) ∙ unless_naming_cleared h.circuits y (heard_by h.circuits y) refl)

pub silent_idle : (bridges : ℕ) (h : Holding) (x y : Slot) → Valid bridges h → heard_by h.circuits x ≡ None → is_idle (after h (Clear y)).circuits x ≡ true
silent_idle bridges h x y valid silent =
    deaf_is_idle (after h (Clear y)).circuits x ((valid-clear bridges h y valid).standing x)
    (heard_by-clear h.circuits y x (valid.standing x) ∙ ap (unless_naming y) silent)

-- ---- what an answer makes

-- the leg at a slot, held there
held_there : (legs : Legs) (y : Slot) (other : Leg) → leg_at legs y ≡ Some other → held_at legs y ≡ Some (record { slot = y; leg = other })
held_there legs y other e = rw e refl

answer_operations : (s : Setting) (w : World) (h : HeldLeg) (m : Message) (y : Slot) (other : Leg) → h.leg.peer ≡ peer.Leg y → leg_at w.legs y ≡ Some other
    → (course_of s w h m act.Answer).operations ≡ on_connect w.legs h (record { slot = y; leg = other })
answer_operations s w h m y other is at = rw (is, held_there w.legs y other at) refl

pub pair_there : (circuits : List Circuit) (a b : Circuit) → Contains (circuits ++ a ∷ b ∷ []) a × Contains (circuits ++ a ∷ b ∷ []) b
pair_there circuits a b = (
  Contains-append_right circuits (a ∷ b ∷ []) a (0, omega arith, refl),
  Contains-append_right circuits (a ∷ b ∷ []) b (1, omega arith, refl),
)

-- no leg names its own slot as its peer's
apart : (legs : Legs) (x y : Slot) (leg other : Leg) → leg_at legs x ≡ Some leg → leg_at legs y ≡ Some other → AreOneCall y other x leg → y ≡ x → ⊥
apart legs x y leg other at_x at_y one same =
    let e : Some other ≡ Some leg = sym at_y ∙ ap (leg_at legs) same ∙ at_x in
    let legs_same : other ≡ leg = cc in
    let sides : Caller ≡ Called = sym one.calls ∙ ap (λ (l : Leg). l.side) legs_same ∙ one.is_called in
    cc

answered_by : (s : Setting) (w : World) (line : ℕ) (r : Request) (h : HeldLeg) (m : Message) → Valid s.dimensions.bridges w.holding → LegsStand s.dimensions.external s.tones w
    → r ≡ For_leg h m → leg_at w.legs h.slot ≡ Some h.leg → IsExternal s.dimensions.external h.slot → act_on h.leg.state m ≡ act.Answer
    → (y : Slot) × (h.leg.peer ≡ peer.Leg y) × AreConnected s.dimensions.bridges w (outcome_for s w line r).making.world y h.slot
answered_by s w line r h m valid stand e at within answers =
    let external = s.dimensions.external in
    let bridges = s.dimensions.bridges in
    let ringing_state = answers_among h.leg.state m.kind _ _ answers in
    let stands = stand.each h.slot h.leg within at in
    let c = caller_of external s.tones w h.slot h.leg ringing_state h.leg.peer stands.peer in
    let y = c.0 in
    let other = c.3.0 in
    let silent = silent_by external s.tones w h.slot h.leg ringing_state (heard_by w.holding.circuits h.slot) stands.hears in
    let done : (outcome_for s w line r).making.world ≡ (connected s.dimensions w h (record { slot = y; leg = other })).world =
    rw (e, answers) (ap (λ (os : List Operation). (making_after_all s.dimensions (making_at w) os).world) (answer_operations s w h m y other c.1 c.3.1)
    ∙ ap (λ (a : Making). a.world) (making_connected s.dimensions w h (record { slot = y; leg = other }))) in
    let two = pair_there (after w.holding (Clear y)).circuits (Pair y h.slot w.holding.next) (Pair h.slot y w.holding.next) in (
      y,
      c.1,
      record {
        allowed = (apart w.legs h.slot y h.leg other at c.3.1 c.3.2, cleared_idle bridges w.holding y valid, silent_idle bridges w.holding h.slot y valid silent);
        there = rw done (two.0);
        back = rw done (two.1);
      },
    )

pub connected_by_answer : (s : Setting) (w : World) (line : ℕ) (octets : List ℕ) (h : HeldLeg) (m : Message) → Valid s.dimensions.bridges w.holding → LegsStand s.dimensions.external s.tones w
    → line < s.dimensions.external → request_of w.legs line octets ≡ For_leg h m → act_on h.leg.state m ≡ act.Answer
    → (y : Slot) × (h.leg.peer ≡ peer.Leg y) × AreConnected s.dimensions.bridges w (after_message s w line octets) y h.slot
connected_by_answer s w line octets h m valid stand below e answers =
    let named = received_stands w.legs line octets h m e in
    let on = named.among in
    answered_by s w line (request_of w.legs line octets) h m valid stand e named.at (rw on.0 below, on.1) answers
