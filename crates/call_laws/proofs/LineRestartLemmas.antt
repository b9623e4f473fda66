-- What the restart of a line by the exchange leaves, slot by slot: of the legs, of the calls, and what it records and sends.
use Rattle.std.proofs.Common.{◌≡◌, ℕ, zero, suc, ◌<◌, ◌≤◌, ◌&&◌, Bool, true, false, List, [], ◌∷◌, ◌++◌, Option, Some, None, refl, sym, ◌∙◌, ap, subst, arith, if◌then◌else◌}
use Rattle.std.specs.Prelude.{◌==◌, Contains, nat_lt, not, option_and_then, option_map}
use Rattle.std.proofs.lemmas.Grind.{common_steps}
use Rattle.std.proofs.lemmas.List.Elements.{Contains-append_right}
use Rattle.circuit_model.specs.declared.channel.Slot.{Slot}
use Rattle.circuit_model.specs.Circuits.{heard_by}
use Rattle.circuit_model.specs.Holding.{Holding}
use Rattle.circuit_model.proofs.Age.{at_head, none_in_nil}
use Rattle.q931_codec.specs.Causes.{temporary_failure}
use Rattle.call_states.specs.Conditions.{unanswered}
use Rattle.call_states.specs.declared.condition.Condition.{Condition}
use Rattle.call_states.specs.declared.condition.Condition.TheVariants.{Unconfirmed}
use Rattle.call_states.specs.declared.leg.HeldLeg.{HeldLeg}
use Rattle.call_states.specs.declared.leg.Leg.{Leg}
use Rattle.call_states.specs.declared.leg.Peer.{Peer}
use Rattle.call_states.specs.declared.leg.Peer.TheVariants as peer
use Rattle.exchange_events.specs.declared.record.CallRecord.{CallRecord}
use Rattle.exchange_events.specs.declared.trace.Event.TheVariants.{RestartLine}
use Rattle.exchange_events.specs.Sizes.{Dimensions, Setting}
use Rattle.call_profile.specs.Acts.{in_disconnect_indication}
use Rattle.call_profile.specs.CallRecords.{is_calling, records}
use Rattle.call_laws.specs.Dropped.{HasLine}
use Rattle.call_profile.specs.EndedCalls.{record_ended}
use Rattle.call_profile.specs.Legs.{held_at, is_down, leg_at}
use Rattle.call_profile.specs.LegStanding.{HasPeer}
use Rattle.call_laws.specs.LineRestarts.{IsInLineRestart, IsLineEmpty, IsLineRecord, IsRequestSent, OtherLinesAreCleared, interface_restart, left_by_restart}
use Rattle.call_profile.specs.LinkChanges.{give_up_leg, give_up_rule, outcome_of_line_restart, whole_line, with_interface}
use Rattle.call_profile.specs.Operations.{begun, making_after_all}
use Rattle.call_laws.specs.Recorded.{ComeByPlace, HasEnded, first_restarted}
use Rattle.call_laws.specs.Restarted.{UnheldStay}
use Rattle.call_profile.specs.Restarts.{MessageOutcome, outcome_at_slot, outcome_below}
use Rattle.call_profile.specs.Step.{next}
use Rattle.call_profile.specs.World.{World}
use Rattle.call_profile.proofs.BesideLemmas.{look}
use Rattle.call_profile.proofs.ClearingLemmas.{Kept}
use Rattle.call_profile.proofs.GivenUpSlotLemmas.{flagged, flagged_held, give_up_kept, give_up_told}
use Rattle.call_profile.proofs.LinkLemmas.{at_held}
use Rattle.call_laws.proofs.RecordedCallLemmas.{calling_record, record_same}
use Rattle.call_laws.proofs.RecordedMessageLemmas.{AreOfEnded, CallsOn, both_of_ended, calls_on, of_records, stays_silent}
use Rattle.call_laws.proofs.RecordOrderLemmas.{ComeBelow, below_then, first_restarted_ended_place, none_below}
use Rattle.call_laws.proofs.RestartedLegLemmas.{IsRestartedAt, held_done, leg_done}
use Rattle.call_laws.proofs.RestartedLineLemmas.{AreRestartedBelow, left_below, lt_true, one_more, start_below}
use Rattle.call_profile.proofs.RestartedSlotLemmas.{below_none, below_more, given_up, line_restarted_by, line_restart_recorded}

-- ---- one slot

-- a slot that no leg holds is restarted, if nothing but its condition changes
flagged_done : (external line : ℕ) (u v : World) (x : Slot) → v.legs.held ≡ u.legs.held → v.holding ≡ u.holding → IsRestartedAt external whole_line temporary_failure line u u x
    → IsRestartedAt external whole_line temporary_failure line u v x
flagged_done external line u v x held holding done = record {
  here = ap (look x) held ∙ done.here;
  other_leg = λ z other in_z at is. ap (look z) held ∙ done.other_leg z other in_z at is;
  legs = λ z in_z apart strange. ap (look z) held;
  heard = λ z l in_z at apart strange. ap (λ (h : Holding). heard_by h.circuits z) holding;
  unheld = λ z in_z none. ap (λ (h : Holding). heard_by h.circuits z) holding;
  next = ap (λ (h : Holding). h.next) holding;
}

module _ (s : Setting) (line : ℕ) (w : World) (condition : Condition) (below : line < s.dimensions.external) (kept : Kept s.dimensions s.tones w) where
  abbrev d : Dimensions
  d = s.dimensions

  abbrev at_place : ℕ → Slot
  at_place n = record { line = line; place = n }

  -- what the slots below a place have left, and the records of the calls that they ended
  pub record So_far (n : ℕ) (a : MessageOutcome) : Type 0 where
    pub legs : AreRestartedBelow s whole_line line w n a.making.world
    pub calls : CallsOn d.external w a.making.world
    pub recorded : AreOfEnded d.external w a.making.world temporary_failure a.recorded
    pub rising : ComeBelow whole_line line n a.recorded

  first : So_far 0 (outcome_below d (give_up_rule s.tones condition) line w 0)
  first = subst (So_far 0) (sym (below_none d (give_up_rule s.tones condition) line w)) (record {
    legs = start_below s whole_line line w below kept;
    calls = λ x leg in_x at calls. (at, refl);
    recorded = record {
      ends = λ c inside. absurd (none_in_nil c inside);
      recorded = λ h c ended e. let wrong : true ≡ false = sym ended.calls ∙ sym (ap is_calling ended.at) ∙ ended.stops in absurd cc;
    };
    rising = none_below whole_line line;
  })

  module _ (n : ℕ) (small : n < 30) (a : MessageOutcome) (so_far : So_far n a) where
    abbrev here : Slot
    here = at_place n

    abbrev u : World
    u = a.making.world

    abbrev next_one : MessageOutcome
    next_one = outcome_at_slot d (give_up_rule s.tones condition) here a

    abbrev v : World
    v = next_one.making.world

    given_up_here : IsRestartedAt d.external whole_line temporary_failure line u v here
    given_up_here = at_held u.legs here (give_up_leg s.tones condition u.legs here) (λ os. IsRestartedAt d.external whole_line temporary_failure line u (making_after_all d a.making os).world here)
        (λ none. flagged_done d.external line u (flagged d s.tones condition a.making here) here (flagged_held d s.tones condition a.making here none) refl
        (held_done d s.tones whole_line temporary_failure condition line a.making here refl so_far.legs.kept (below, small) None none))
        (λ leg at. leg_done d s.tones whole_line temporary_failure condition line a.making here refl so_far.legs.kept (below, small) leg at)

    -- it has the record of a call whose first restarted leg is here
    place_of : (o : Option Leg) → leg_at u.legs here ≡ o → (c : CallRecord)
        → option_and_then (λ h. record_ended u h temporary_failure) (option_map (λ (leg : Leg). let h : HeldLeg = record { slot = here; leg = leg } in h) o) ≡ Some c → first_restarted whole_line line c ≡ n
    place_of None at c e = absurd (cc e)
    place_of (Some leg) at c e = first_restarted_ended_place d.external s.tones whole_line line n u so_far.legs.kept.1 below small so_far.legs.gone refl leg at c e

    abbrev one_at : Option CallRecord
    one_at = option_and_then (λ h. record_ended u h temporary_failure) (held_at u.legs here)

    step : So_far (suc n) next_one
    step =
        let calls_here = calls_on d.external whole_line line u v here given_up_here in
        record {
          legs = one_more s whole_line line w below n small u so_far.legs refl v (give_up_kept d s.tones condition a.making here so_far.legs.kept (below, small)) given_up_here;
          calls = λ x leg in_x at calls.
              let now = calls_here x leg in_x at calls in
              let before = so_far.calls x leg in_x now.0 calls in
              (before.0, now.1 ∙ before.1);
          recorded = both_of_ended d.external w u v (λ h. temporary_failure) (λ x leg in_x at calls. (so_far.calls x leg in_x at calls).0)
              (λ h e. record_same u w temporary_failure h so_far.legs.next (so_far.calls h.slot h.leg e.within e.at e.calls).1)
              (stays_silent d.external whole_line line u v here given_up_here) a.recorded (records u v temporary_failure)
              so_far.recorded (of_records d.external u v temporary_failure so_far.legs.kept.1.count);
          rising = subst (λ (told : List CallRecord). ComeBelow whole_line line (suc n) (a.recorded ++ told)) (sym (give_up_told d s.tones condition a.making here so_far.legs.kept (below, small)))
              (below_then whole_line line n a.recorded so_far.rising one_at (place_of (leg_at u.legs here) refl));
        }

  pub all_so_far : (n : ℕ) → n ≤ 30 → So_far n (outcome_below d (give_up_rule s.tones condition) line w n)
  all_so_far zero small = first
  all_so_far (suc n) small =
      subst (So_far (suc n)) (sym (below_more d (give_up_rule s.tones condition) line w n))
      (step n (omega (arith, small)) (outcome_below d (give_up_rule s.tones condition) line w n) (all_so_far n (omega (arith, small))))

-- ---- the whole line

module _ (s : Setting) (w : World) (line : ℕ) (can : HasLine s w line) where
  abbrev whole : MessageOutcome
  whole = given_up s.dimensions s.tones line w

  abbrev after_restart : World
  after_restart = next s w (RestartLine line)

  done : So_far s line w (unanswered (is_down w.legs line)) can.line_exists (can.stands.circuits, can.stands.legs) 30 whole
  done = all_so_far s line w (unanswered (is_down w.legs line)) can.line_exists (can.stands.circuits, can.stands.legs) 30 (omega arith)

  -- what the slots leave is what the event leaves
  abbrev by_line : (P : World → Type 0) → P whole.making.world → P after_restart
  by_line = line_restarted_by s.dimensions s.tones line w

  pub legs_below : AreRestartedBelow s whole_line line w 30 after_restart
  legs_below = by_line (AreRestartedBelow s whole_line line w 30) done.legs

  pub line_is_empty : IsLineEmpty s.dimensions.external line after_restart
  line_is_empty x in_x on = legs_below.gone x in_x (grind (arith, common_steps, on)) in_x.1

  left_is : (leg : Leg) (p : Peer) (x : Slot) → HasPeer s.dimensions.external w.legs x leg p → left_below whole_line line w 30 leg p ≡ left_by_restart line w leg p
  left_is leg peer.Alone x has = refl
  left_is leg (peer.Leg y) x has =
      let place : nat_lt y.place 30 ≡ true = lt_true whole_line line y.place 30 has.0.1 in
      ap (λ (b : Bool). if b then begun w (in_disconnect_indication temporary_failure leg) else leg) (ap (λ (b : Bool). ((y.line == line) && true) && b) place ∙ both (y.line == line))
    where
      both : (b : Bool) → ((b && true) && true) ≡ b
      both true = refl
      both false = refl
  left_is leg (peer.Room room) x has = refl

  pub other_lines_are_cleared : OtherLinesAreCleared s.dimensions.external line w after_restart
  other_lines_are_cleared x leg in_x off at =
      legs_below.others x leg in_x (grind (arith, common_steps, off)) at
      ∙ ap (λ (l : Leg). Some l) (left_is leg leg.peer x (can.stands.legs.each x leg in_x at).peer)

  pub unheld_stay : UnheldStay s.dimensions.external w after_restart
  unheld_stay x in_x none = (legs_below.empty x in_x none, legs_below.unheld x in_x none)

  -- ---- what is recorded

  recorded_is : (outcome_of_line_restart s.dimensions s.tones line w).recorded ≡ whole.recorded
  recorded_is = line_restart_recorded s.dimensions s.tones line w

  accounted : AreOfEnded s.dimensions.external w after_restart temporary_failure (outcome_of_line_restart s.dimensions s.tones line w).recorded
  accounted =
      by_line (λ v. AreOfEnded s.dimensions.external w v temporary_failure (outcome_of_line_restart s.dimensions s.tones line w).recorded)
      (subst (AreOfEnded s.dimensions.external w whole.making.world temporary_failure) (sym recorded_is) done.recorded)

  pub line_record_is : (told : CallRecord) → Contains (outcome_of_line_restart s.dimensions s.tones line w).recorded told → (h : HeldLeg) × IsLineRecord s w line h told
  line_record_is told inside = let e = accounted.ends told inside in (e.0, record { ended = e.1; is = e.2 })

  pub line_ended_is_recorded : (h : HeldLeg) → HasEnded s.dimensions.external w after_restart h → IsInLineRestart s w line h
  line_ended_is_recorded h ended =
      let found = calling_record s.dimensions.external w temporary_failure h (can.stands.legs.each h.slot h.leg ended.within ended.at).peer ended.calls in
      (found.0, record { ended = ended; is = found.1 }, accounted.recorded h found.0 ended found.1)

  pub line_comes_by_place : ComeByPlace whole_line line (outcome_of_line_restart s.dimensions s.tones line w).recorded
  line_comes_by_place = subst (ComeByPlace whole_line line) (sym recorded_is) done.rising.rising

-- ---- what is sent

pub request_is_sent : (s : Setting) (w : World) (line : ℕ) → IsRequestSent s w line
request_is_sent s w line up =
    let sent : Bool → MessageOutcome = λ down. with_interface s.dimensions (not down) line (outcome_below s.dimensions (give_up_rule s.tones (unanswered down)) line w 30) in
    subst (λ (down : Bool). Contains (sent down).making.sends (interface_restart line)) (sym up)
    (Contains-append_right (outcome_below s.dimensions (give_up_rule s.tones Unconfirmed) line w 30).making.sends (interface_restart line ∷ []) (interface_restart line) (at_head (interface_restart line) [] (interface_restart line) refl))
