-- A called user's progress towards an answer, and the answer, keep the legs consistent.
use Rattle.std.proofs.Common.{◌≡◌, ℕ, true, false, [], ◌∷◌, Option, Some, None, refl, sym, ◌∙◌, subst, arith, length-set, inl, inr}
use Rattle.std.specs.Prelude.{IsTrue, ◌==◌}
use Rattle.std.proofs.lemmas.Grind.{common_steps}
use Rattle.circuit_model.specs.declared.channel.Slot.{Slot}
use Rattle.circuit_model.specs.declared.circuit.Circuit.{Circuit}
use Rattle.circuit_model.specs.declared.circuit.Circuit.TheVariants.{Pair, Member, Tone}
use Rattle.circuit_model.specs.Circuits.{heard_by, is_idle}
use Rattle.circuit_model.specs.Extent.{IsExternal}
use Rattle.circuit_model.specs.Holding.{Holding, Connect, Clear as Clear_slot, after, Valid}
use Rattle.circuit_model.proofs.Hearing.{heard_by-two}
use Rattle.circuit_model.proofs.Slots.{same_slot-refl, same_slot-false}
use Rattle.circuit_model.proofs.Validity.{valid-clear, valid-connect, deaf_is_idle}
use Rattle.control_memory.specs.Layout.{number_of}
use Rattle.q931_codec.specs.CallStates.{outgoing_call_proceeding, call_delivered, call_present, call_received, incoming_call_proceeding, active, disconnect_indication}
use Rattle.call_states.specs.Acts.{is_among}
use Rattle.call_states.specs.declared.leg.Leg.{Leg}
use Rattle.tone_rules.specs.declared.tones.Tones.{Tones}
use Rattle.call_profile.specs.Acts.{in_state, tone_of, on_alerting, on_connect}
use Rattle.call_profile.specs.LegStanding.{LegsStand, MayHear, AreOneCall, are_matched}
use Rattle.call_profile.specs.Legs.{is_down, leg_at}
use Rattle.call_profile.specs.Operations.{Making, Put, making_at, making_after_all}
use Rattle.exchange_events.specs.Sizes.{Dimensions}
use Rattle.call_profile.specs.World.{World}
use Rattle.call_profile.proofs.AnsweredLegLemmas.{connected, making_connected}
use Rattle.call_profile.proofs.AnsweringLemmas.{cleared_idle, silent_idle}
use Rattle.call_profile.proofs.BesideLemmas.{leg_at-with_entry_here, leg_at-with_entry_else}
use Rattle.call_profile.proofs.HearingLemmas.{heard_by_clear_keeps, heard_by_connect_keeps}
use Rattle.call_profile.proofs.TwoEntriesLemmas.{ArePeers, strange_both}
use Rattle.call_profile.proofs.ClearingLemmas.{Kept}
use Rattle.call_profile.proofs.TwoStatesLemmas.{LegsStand_both_gone, gone_to, moved_to}
use Rattle.call_profile.proofs.ToneLemmas.{no_tone, heard_by_sounding_keeps, sounding_valid, sounds}
use Rattle.call_profile.proofs.LegTableLemmas.{length-with_entry_both, leg_at_both_else, leg_at_both_first, leg_at_both_second}

-- ---- the caller's state, from the called leg's

pub waiting : (t s : ℕ) → is_among (call_present ∷ incoming_call_proceeding ∷ []) s ≡ true → IsTrue (are_matched t s) → t ≡ outgoing_call_proceeding
waiting t s among matched = grind (arith, common_steps, among, matched)

first_of_two : (s : ℕ) → is_among (call_present ∷ []) s ≡ true → is_among (call_present ∷ incoming_call_proceeding ∷ []) s ≡ true
first_of_two s among = grind (arith, common_steps, among)

-- a caller that waits hears nothing
pub silent_waiting : (tones : Tones) (leg : Leg) (o : Option Circuit) → leg.state ≡ outgoing_call_proceeding → MayHear tones leg o → o ≡ None
silent_waiting tones leg None waits may = refl
silent_waiting tones leg (Some (Tone kind to since)) waits may =
    let not_four : (leg.state == call_delivered) ≡ false = grind (arith, common_steps, waits) in
    let not_twelve : (leg.state == disconnect_indication) ≡ false = grind (arith, common_steps, waits) in
    let none = no_tone tones leg not_four not_twelve in
    elim may [
      | inl sounds ↦ let wrong : None ≡ Some kind = sym none ∙ sounds in absurd cc
      | inr left ↦ let is_left = left.0 in absurd (grind (arith, common_steps, waits, is_left))
    ]
silent_waiting tones leg (Some (Pair from to since)) waits may = absurd (grind (arith, common_steps, waits, may.0))
silent_waiting tones leg (Some (Member room at since)) waits may = absurd (grind (arith, common_steps, waits, may.0))

-- ---- the called leg at x, whose slot is silent, and its caller's at y

module _ (d : Dimensions) (tones : Tones) (w : World) (x y : Slot) (leg other : Leg) (valid : Valid d.bridges w.holding) (stand : LegsStand d.external tones w)
    (peers : ArePeers d.external w x y leg other) (call : AreOneCall y other x leg) (silent : heard_by w.holding.circuits x ≡ None) where
  waits : is_among (call_present ∷ incoming_call_proceeding ∷ []) leg.state ≡ true → other.state ≡ outgoing_call_proceeding
  waits among = waiting other.state leg.state among call.matched

  abbrev after_proceeding : World
  after_proceeding = (making_after_all d (making_at w) (Put x (in_state incoming_call_proceeding leg) ∷ [])).world

  pub proceeding_kept : is_among (call_present ∷ []) leg.state ≡ true → Kept d tones (making_after_all d (making_at w) (Put x (in_state incoming_call_proceeding leg) ∷ [])).world
  proceeding_kept among =
      let waited = waits (first_of_two leg.state among) in
      let old = stand.each y other peers.in_y peers.at_y in (
        valid,
        LegsStand_both_gone d.external tones w after_proceeding x y leg other incoming_call_proceeding other.state other.since false other.resent (record {
          stand = stand;
          in_x = peers.in_x;
          in_y = peers.in_y;
          at_x = peers.at_x;
          at_y = peers.at_y;
          call = call;
          state_x = refl;
          state_y = old.state;
          matched = subst (λ t. are_matched t incoming_call_proceeding ≡ true) (sym waited) refl;
          size = length-set w.legs.held (number_of x) (Some (gone_to w incoming_call_proceeding leg)) ∙ stand.count;
          here_x = leg_at-with_entry_here d.external w.legs x (Some (gone_to w incoming_call_proceeding leg)) stand.count peers.in_x;
          here_y = leg_at-with_entry_else d.external w.legs x y (Some (gone_to w incoming_call_proceeding leg)) peers.in_x peers.in_y peers.apart ∙ peers.at_y;
          hears_x = subst (MayHear tones (gone_to w incoming_call_proceeding leg)) (sym silent) (λ e. absurd cc, refl);
          hears_y = old.hears;
          beside = record {
            legs = λ z in_z not_x not_y. leg_at-with_entry_else d.external w.legs x z (Some (gone_to w incoming_call_proceeding leg)) peers.in_x in_z not_x;
            heard = λ z l in_z at_z not_x not_y. refl;
            strange = λ z l p in_z at_z not_x not_y is. let strange = strange_both d.external tones w x y leg other stand peers z l in_z at_z not_x not_y in (strange.0 p is, strange.1 p is);
          };
        }),
      )

  pub alerting_kept : is_among (call_present ∷ incoming_call_proceeding ∷ []) leg.state ≡ true
      → Kept d tones (making_after_all d (making_at w) (on_alerting tones (record { slot = x; leg = leg }) (record { slot = y; leg = other }))).world
  alerting_kept among =
      let deaf = silent_waiting tones other (heard_by w.holding.circuits y) (waits among) (stand.each y other peers.in_y peers.at_y).hears in
      let idle = deaf_is_idle w.holding.circuits y (valid.standing y) deaf in
      let tone = tone_of tones (in_state call_delivered other) in
      let called_apart : x ≡ y → ⊥ = λ e. peers.apart (sym e) in
      let one : Option Leg = Some (gone_to w call_received leg) in
      let two : Option Leg = Some (gone_to w call_delivered other) in (
        sounding_valid w.holding y idle d.bridges valid tone,
        LegsStand_both_gone d.external tones w (making_after_all d (making_at w) (on_alerting tones (record { slot = x; leg = leg }) (record { slot = y; leg = other }))).world x y leg other call_received call_delivered w.holding.next false false (record {
          stand = stand;
          in_x = peers.in_x;
          in_y = peers.in_y;
          at_x = peers.at_x;
          at_y = peers.at_y;
          call = call;
          state_x = refl;
          state_y = refl;
          matched = refl;
          size = length-with_entry_both d.external w.legs x y one two stand.count peers.in_x peers.in_y peers.apart;
          here_x = leg_at_both_first d.external w.legs x y one two stand.count peers.in_x peers.in_y peers.apart;
          here_y = leg_at_both_second d.external w.legs x y one two stand.count peers.in_x peers.in_y peers.apart;
          hears_x = subst (MayHear tones (gone_to w call_received leg)) (sym (heard_by_sounding_keeps w.holding y idle x called_apart tone ∙ silent)) (λ e. absurd cc, refl);
          hears_y = sounds w.holding y idle tones (gone_to w call_delivered other) (λ e. absurd cc);
          beside = record {
            legs = leg_at_both_else d.external w.legs x y one two stand.count peers.in_x peers.in_y peers.apart;
            heard = λ z l in_z at_z not_x not_y. heard_by_sounding_keeps w.holding y idle z not_y tone;
            strange = λ z l p in_z at_z not_x not_y is. let strange = strange_both d.external tones w x y leg other stand peers z l in_z at_z not_x not_y in (strange.0 p is, strange.1 p is);
          };
        }),
      )

  -- once the caller's slot is cleared the two are connected
  abbrev cleared : Holding
  cleared = after w.holding (Clear_slot y)

  idle_caller : is_idle cleared.circuits y ≡ true
  idle_caller = cleared_idle d.bridges w.holding y valid

  idle_called : is_idle cleared.circuits x ≡ true
  idle_called = silent_idle d.bridges w.holding x y valid silent

  heard_called : heard_by (after cleared (Connect y x)).circuits x ≡ Some (Pair y x w.holding.next)
  heard_called = heard_by-two cleared.circuits y x x w.holding.next idle_caller idle_called ∙ rw (same_slot-false x y (λ e. peers.apart (sym e)), same_slot-refl x) refl

  heard_caller : heard_by (after cleared (Connect y x)).circuits y ≡ Some (Pair x y w.holding.next)
  heard_caller = heard_by-two cleared.circuits y x y w.holding.next idle_caller idle_called ∙ rw (same_slot-refl y) refl

  heard_others : (z : Slot) (l : Leg) → IsExternal d.external z → leg_at w.legs z ≡ Some l → (z ≡ x → ⊥) → (z ≡ y → ⊥)
      → heard_by (after cleared (Connect y x)).circuits z ≡ heard_by w.holding.circuits z
  heard_others z l in_z at_z not_x not_y =
      let strange = strange_both d.external tones w x y leg other stand peers z l in_z at_z not_x not_y in
      heard_by_connect_keeps cleared y x z idle_caller idle_called not_y not_x
      ∙ heard_by_clear_keeps d.bridges tones w.holding l z y valid (stand.each z l in_z at_z).hears not_y strange.1

  abbrev after_answer : World
  after_answer = (connected d w (record { slot = x; leg = leg }) (record { slot = y; leg = other })).world

  connected_kept : Kept d tones after_answer
  connected_kept =
      let called : Leg = moved_to active w.holding.next (is_down w.legs x.line) leg in
      let caller : Leg = moved_to active w.holding.next (is_down w.legs y.line) other in
      let one : Option Leg = Some called in
      let two : Option Leg = Some caller in (
        valid-connect d.bridges cleared y x (valid-clear d.bridges w.holding y valid) peers.apart idle_caller idle_called,
        LegsStand_both_gone d.external tones w after_answer x y leg other active active w.holding.next (is_down w.legs x.line) (is_down w.legs y.line) (record {
          stand = stand;
          in_x = peers.in_x;
          in_y = peers.in_y;
          at_x = peers.at_x;
          at_y = peers.at_y;
          call = call;
          state_x = refl;
          state_y = refl;
          matched = refl;
          size = length-with_entry_both d.external w.legs x y one two stand.count peers.in_x peers.in_y peers.apart;
          here_x = leg_at_both_first d.external w.legs x y one two stand.count peers.in_x peers.in_y peers.apart;
          here_y = leg_at_both_second d.external w.legs x y one two stand.count peers.in_x peers.in_y peers.apart;
          hears_x = subst (MayHear tones called) (sym heard_called) (refl, peers.there);
          hears_y = subst (MayHear tones caller) (sym heard_caller) (refl, peers.back);
          beside = record {
            legs = leg_at_both_else d.external w.legs x y one two stand.count peers.in_x peers.in_y peers.apart;
            heard = heard_others;
            strange = λ z l p in_z at_z not_x not_y is. let strange = strange_both d.external tones w x y leg other stand peers z l in_z at_z not_x not_y in (strange.0 p is, strange.1 p is);
          };
        }),
      )

  pub answer_kept : Kept d tones (making_after_all d (making_at w) (on_connect w.legs (record { slot = x; leg = leg }) (record { slot = y; leg = other }))).world
  answer_kept = subst (λ (m : Making). Kept d tones m.world) (sym (making_connected d w (record { slot = x; leg = leg }) (record { slot = y; leg = other }))) connected_kept
