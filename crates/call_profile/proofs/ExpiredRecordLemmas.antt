-- Which calls are recorded where a timer runs out.
use Rattle.std.proofs.Common.{◌≡◌, ℕ, Bool, true, false, inl, inr, List, [], ◌++◌, Option, Some, None, refl, sym, ◌∙◌, ap, subst}
use Rattle.std.specs.Prelude.{option_map, option_and_then, ◌&&◌}
use Rattle.std.specs.List.{cons_option}
use Rattle.circuit_model.specs.declared.channel.Slot.{Slot}
use Rattle.circuit_model.specs.Extent.{IsExternal}
use Rattle.q931_codec.specs.Causes.{invalid_number_format, no_answer_from_user, no_user_responding, recovery_on_timer_expiry, destination_out_of_order}
use Rattle.call_timers.specs.declared.expiry.Expiry.{Expiry}
use Rattle.call_timers.specs.declared.expiry.Expiry.TheVariants as expiry
use Rattle.call_states.specs.declared.condition.Condition.TheVariants.{Owed}
use Rattle.call_states.specs.Acts.{is_among}
use Rattle.call_states.specs.declared.leg.HeldLeg.{HeldLeg}
use Rattle.call_states.specs.declared.leg.Leg.{Leg}
use Rattle.call_states.specs.declared.leg.Peer.TheVariants as peer
use Rattle.call_states.specs.declared.leg.Side.{Side}
use Rattle.call_states.specs.declared.leg.Side.TheVariants.{Called}
use Rattle.tone_rules.specs.declared.tones.Tones.{Tones}
use Rattle.exchange_events.specs.declared.record.CallRecord.{CallRecord}
use Rattle.exchange_events.specs.Sizes.{Setting, Dimensions}
use Rattle.call_profile.specs.Acts.{in_disconnect_indication, in_release_request, peer_of, with_peer, clear_with, remove_leg}
use Rattle.call_profile.specs.CallRecords.{before_clearing, is_calling, records}
use Rattle.call_profile.specs.EndedCalls.{caller_in, record_calling, record_ended, record_of_expiry, expired_records}
use Rattle.call_profile.specs.Expiring.{timed_state, send_again, give_up, ask_for_release, clear_peer, clear_both, on_expiry, release_over, cause_of_expiry, cause_if_due, cause_at, due_of, if_due, expire_leg, expire_slot}
use Rattle.call_profile.specs.LegStanding.{AreOneCall}
use Rattle.call_profile.specs.Legs.{leg_at, kept_at, with_entry, retransmitted_from}
use Rattle.call_profile.specs.Operations.{Operation, Making, begun, making_after_all}
use Rattle.call_profile.specs.World.{World}
use Rattle.call_profile.proofs.AnsweringLemmas.{ringing, caller_of}
use Rattle.call_profile.proofs.BesideLemmas.{look, leg_at-with_entry_here, leg_at-with_entry_else, same_or_apart}
use Rattle.call_profile.proofs.ClearingLemmas.{Kept, held_there}
use Rattle.call_profile.proofs.ExpiryStateLemmas.{due_state}
use Rattle.call_profile.proofs.LegTableLemmas.{leg_at_both_else, leg_at_both_second}
use Rattle.call_profile.proofs.EndedCallLemmas.{GoesOn, no_record_where_calling, one_record}
use Rattle.call_profile.proofs.RecordOfActLemmas.{called_silent, clearing_records, disconnected_silent, same_goes_on}
use Rattle.call_profile.proofs.RefusalLemmas.{no_records}

-- a leg whose state is none of those before clearing calls nobody
pub no_caller : (leg : Leg) → is_among before_clearing leg.state ≡ false → is_calling (Some leg) ≡ false
no_caller leg not_up = rw not_up (nothing_more _) where
  nothing_more : (b : Bool) → (b && false) ≡ false
  nothing_more true = refl
  nothing_more false = refl

module _ (d : Dimensions) (tones : Tones) (m : Making) (x : Slot) (leg : Leg) (kept : Kept d tones m.world) (within : IsExternal d.external x) (at : leg_at m.world.legs x ≡ Some leg) where
  abbrev h : HeldLeg
  h = record { slot = x; leg = leg }

  abbrev w : World
  w = m.world

  abbrev Told : ℕ → List Operation → List CallRecord → Type 0
  Told cause os told = records w (making_after_all d m os).world cause ≡ told

  -- one entry is another, and calls if it called
  pub records_quiet : (cause : ℕ) (v : World) (o : Option Leg) → v.legs.held ≡ (with_entry w.legs x o).held → (is_calling (Some leg) ≡ true → is_calling o ≡ true) → records w v cause ≡ []
  records_quiet cause v o legs goes = no_record_where_calling d.external w v cause kept.1.count (λ z in_z. elim (same_or_apart z x) [
    | inl same ↦ subst (GoesOn w.legs v.legs) (sym same) (λ calls.
        ap (λ os. is_calling (look x os)) legs ∙ ap is_calling (leg_at-with_entry_here d.external w.legs x o kept.1.count within) ∙ goes (sym (ap is_calling at) ∙ calls))
    | inr apart ↦ same_goes_on w.legs v.legs z (ap (look z) legs ∙ leg_at-with_entry_else d.external w.legs x z o within in_z apart)
  ])

  pub is_calling_never : (o : Option Leg) → is_among before_clearing leg.state ≡ false → is_calling (Some leg) ≡ true → is_calling o ≡ true
  is_calling_never o not_up calls = let none = no_caller leg not_up in let wrong : false ≡ true = sym none ∙ calls in cc

  again_told : (o : Option (List ℕ)) → Told no_user_responding (send_again h o) []
  again_told None = no_records w no_user_responding
  again_told (Some octets) = records_quiet no_user_responding (making_after_all d m (send_again h (Some octets))).world (Some (retransmitted_from w.holding.next leg)) refl (λ calls. calls)

  over_told : Told no_user_responding (give_up h ++ clear_peer tones w.legs h no_user_responding) (cons_option (record_ended w h no_user_responding) [])
  over_told = clearing_records d tones w x leg None no_user_responding kept.1 within at (inl refl) (making_after_all d m (give_up h)) refl

  -- the caller of a called leg is the one whose call is recorded
  ended_by : (cause : ℕ) (side : Side) (o : Option HeldLeg) (k : HeldLeg) → side ≡ Called → o ≡ Some k → option_and_then (record_calling w cause) (caller_in side h o) ≡ record_calling w cause k
  ended_by cause side o k is_called is = rw (is_called, is) refl

  -- both legs are cleared, whose called user proceeds or is alerted
  module _ (cause : ℕ) (rings : is_among ringing leg.state ≡ true) where
    abbrev caller_there : Type 0
    caller_there = (y : Slot) × (leg.peer ≡ peer.Leg y) × IsExternal d.external y × ((other : Leg) × (leg_at w.legs y ≡ Some other) × AreOneCall y other x leg)

    has_caller : caller_there
    has_caller = caller_of d.external tones w x leg rings leg.peer (kept.1.each x leg within at).peer

    both_by : (c : caller_there) → Told cause (clear_both tones w.legs h cause) (cons_option (record_ended w h cause) [])
    both_by c =
        let y = c.0 in
        let other = c.3.0 in
        let at_y = c.3.1 in
        let call = c.3.2 in
        let k : HeldLeg = record { slot = y; leg = other } in
        let one : Leg = begun w (in_disconnect_indication recovery_on_timer_expiry leg) in
        let two : Leg = begun w (in_disconnect_indication cause other) in
        let is_peer : peer_of w.legs leg.peer ≡ Some k = ap (peer_of w.legs) c.1 ∙ held_there w.legs y other at_y in
        let apart : y ≡ x → ⊥ = λ same.
        let e : Some leg ≡ Some other = sym at ∙ ap (leg_at w.legs) (sym same) ∙ at_y in
        let legs_same : leg ≡ other = cc in
        let sides : leg.side ≡ other.side = ap (λ (l : Leg). l.side) legs_same in
        let wrong = sym call.is_called ∙ sides ∙ call.calls in
        cc in
        let v : World = (making_after_all d m (clear_with tones recovery_on_timer_expiry h ++ clear_with tones cause k)).world in
        let over : is_calling (leg_at v.legs y) ≡ false =
        ap is_calling (leg_at_both_second d.external w.legs x y (Some one) (Some two) kept.1.count within c.2 apart) ∙ disconnected_silent w.holding.next cause other in
        let recorded : records w v cause ≡ cons_option (record_calling w cause k) [] = one_record d.external w v cause y other kept.1.count c.2 at_y over (λ z in_z not_y. elim (same_or_apart z x) [
          | inl same ↦ subst (GoesOn w.legs v.legs) (sym same) (called_silent w.legs v.legs x leg at call.is_called)
          | inr not_x ↦ same_goes_on w.legs v.legs z (leg_at_both_else d.external w.legs x y (Some one) (Some two) kept.1.count within c.2 apart z in_z not_x not_y)
        ]) in
        ap (λ o. records w (making_after_all d m (clear_with tones recovery_on_timer_expiry h ++ with_peer o (clear_with tones cause))).world cause) is_peer
        ∙ recorded
        ∙ ap (λ o. cons_option o []) (sym (ended_by cause leg.side (peer_of w.legs leg.peer) k call.is_called is_peer))

    both_told : Told cause (clear_both tones w.legs h cause) (cons_option (record_ended w h cause) [])
    both_told = both_by has_caller

  pub expiry_told : (e : Expiry) → leg.state ≡ timed_state e → Told (cause_of_expiry e) (on_expiry tones w.legs h e) (cons_option (record_of_expiry w h e) [])
  expiry_told expiry.Digits state =
      records_quiet no_user_responding (making_after_all d m (clear_with tones invalid_number_format h)).world (Some (begun w (in_disconnect_indication invalid_number_format leg))) refl
      (is_calling_never (Some (begun w (in_disconnect_indication invalid_number_format leg))) (rw state refl))
  expiry_told expiry.SetupAgain state = again_told (kept_at w.legs x)
  expiry_told expiry.SetupOver state = over_told
  expiry_told expiry.Proceeding state = both_told no_user_responding (rw state refl)
  expiry_told expiry.Alerting state = both_told no_answer_from_user (rw state refl)
  expiry_told expiry.Outage state = clearing_records d tones w x leg None destination_out_of_order kept.1 within at (inl refl) (making_after_all d m (remove_leg Owed h)) refl
  expiry_told expiry.Disconnect state = records_quiet no_user_responding (making_after_all d m (ask_for_release h)).world (Some (begun w (in_release_request leg))) refl (is_calling_never (Some (begun w (in_release_request leg))) (rw state refl))
  expiry_told expiry.ReleaseAgain state = again_told (kept_at w.legs x)
  expiry_told expiry.ReleaseOver state = records_quiet no_user_responding (making_after_all d m (release_over w.legs h)).world None refl (is_calling_never None (rw state refl))

-- ---- a slot, in a frame

module _ (s : Setting) (frame : ℕ) (m : Making) (x : Slot) (kept : Kept s.dimensions s.tones m.world) (within : IsExternal s.dimensions.external x) where
  abbrev done : List Operation → World
  done os = (making_after_all s.dimensions m os).world

  records-cause_if_due_told : (leg : Leg) (o : Option Expiry) → leg_at m.world.legs x ≡ Some leg → due_of s.timers frame leg ≡ o
      → records m.world (done (if_due s.tones m.world.legs (record { slot = x; leg = leg }) o)) (cause_if_due o)
      ≡ cons_option (option_and_then (record_of_expiry m.world (record { slot = x; leg = leg })) o) []
  records-cause_if_due_told leg None at is = no_records m.world no_user_responding
  records-cause_if_due_told leg (Some e) at is = expiry_told s.dimensions s.tones m x leg kept within at e (due_state leg.state leg.resent leg.since frame s.timers e is)

  records_told_held : (o : Option Leg) → leg_at m.world.legs x ≡ o
      → records m.world (done (expire_leg s frame m.world.legs (option_map (λ (leg : Leg). let held : HeldLeg = record { slot = x; leg = leg } in held) o)))
      (cause_if_due (option_and_then (λ (k : HeldLeg). due_of s.timers frame k.leg) (option_map (λ (leg : Leg). let held : HeldLeg = record { slot = x; leg = leg } in held) o)))
      ≡ cons_option (option_and_then (λ (k : HeldLeg). option_and_then (record_of_expiry m.world k) (due_of s.timers frame k.leg)) (option_map (λ (leg : Leg). let held : HeldLeg = record { slot = x; leg = leg } in held) o)) []
  records_told_held None at = no_records m.world no_user_responding
  records_told_held (Some leg) at = records-cause_if_due_told leg (due_of s.timers frame leg) at refl

  pub records_slot_told : records m.world (done (expire_slot s frame m.world.legs x)) (cause_at s frame m.world.legs x) ≡ expired_records s frame m.world x
  records_slot_told = records_told_held (leg_at m.world.legs x) refl
