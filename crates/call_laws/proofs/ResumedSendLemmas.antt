-- What is sent when a data link is up again: an enquiry for each leg in active, RELEASE again for each in release request,
-- and a RESTART of each channel that awaits one.
use Rattle.std.proofs.Common.{◌≡◌, ℕ, ◌*◌, zero, suc, ◌<◌, ◌≤◌, inl, inr, Bool, true, false, ◌&&◌, ◌||◌, List, [], ◌∷◌, length, Option, Some, None, refl, sym, ◌∙◌, ap, subst, arith, eqb-true, get_or-set_other, Contains, if◌then◌else◌}
use Rattle.std.specs.Prelude.{◌==◌, is_none, is_some, not, option_map, slice_index_or, slice_set}
use Rattle.std.proofs.lemmas.Grind.{common_steps}
use Rattle.std.proofs.lemmas.List.Elements.{Contains-push}
use Rattle.circuit_model.specs.declared.channel.Slot.{Slot}
use Rattle.circuit_model.specs.Extent.{IsExternal}
use Rattle.circuit_model.proofs.Slots.{true_or_false}
use Rattle.control_memory.specs.Layout.{number_of}
use Rattle.control_memory.proofs.Steps.{same_number}
use Rattle.q931_codec.specs.CallStates.{active, disconnect_indication, overlap_sending, release_request}
use Rattle.call_states.specs.Acts.{is_among}
use Rattle.call_states.specs.Conditions.{is_open, is_owing}
use Rattle.call_states.specs.declared.leg.Leg.{Leg}
use Rattle.call_timers.specs.Expiries.{expiry_in}
use Rattle.clearing_rules.specs.Restarting.{restart_of}
use Rattle.clearing_rules.specs.declared.scope.Restart.TheVariants.{Channel}
use Rattle.tone_rules.specs.declared.tones.Tones.{Tones}
use Rattle.exchange_events.specs.declared.signal.Signal.{Signal}
use Rattle.exchange_events.specs.Sizes.{Dimensions, Setting}
use Rattle.call_laws.specs.Dropped.{HasLine}
use Rattle.call_profile.specs.Expiring.{send_again}
use Rattle.call_profile.specs.Legs.{Legs, awaits_restart, condition_at, is_owed, kept_at, leg_at, retransmitted_from}
use Rattle.call_profile.specs.LinkChanges.{being_cleared, enquire, outcome_of_link, restart_channel, restarts_interface, resume_held, resume_slot, rule_of, whole_line, with_interface, with_line}
use Rattle.call_profile.specs.Operations.{Operation, Making, making_after_all, Send}
use Rattle.call_laws.specs.Reconciled.{enquiry_signal, restart_signal, stored_signal, IsRestartSent, IsReconciled, IsAccounted, IsReleasedAgain}
use Rattle.call_profile.specs.Restarts.{MessageOutcome, outcome_below}
use Rattle.call_laws.specs.Resumed.{resumed, resumed_on}
use Rattle.call_profile.specs.World.{World}
use Rattle.call_profile.proofs.ClearingLemmas.{Kept}
use Rattle.call_profile.proofs.CommandLemmas.{is_empty}
use Rattle.call_profile.proofs.KeptMessageLemmas.{kept_anew, stored_there}
use Rattle.call_profile.proofs.LinkLemmas.{at_held, by_resume}
use Rattle.call_laws.proofs.LostLegLemmas.{sent_still_all}
use Rattle.call_profile.proofs.RestartedSlotLemmas.{below_none, below_more}
use Rattle.call_laws.proofs.RaisedConditionLemmas.{leg_not_yet, owed_raised, raised_below}
use Rattle.call_laws.proofs.ResumedLineLemmas.{AreResumed, one_more as legs_one_more, start as legs_start, legs_are_resumed}
use Rattle.call_profile.proofs.BesideLemmas.{same_or_apart}
use Rattle.call_profile.proofs.VacantSlotLemmas.{same_parts}
use Rattle.q931_codec.specs.Outgoing.{encoding}

-- ---- one slot

module _ (d : Dimensions) (tones : Tones) (whole : Bool) (m : Making) (x : Slot) (kept : Kept d tones m.world) (within : IsExternal d.external x) where
  abbrev done : Making
  done = making_after_all d m (resume_slot tones whole m.world.legs x)

  -- no other slot gets another stored message
  abbrev stored_in : Slot → List Operation → Type 0
  stored_in z os = kept_at (making_after_all d m os).world.legs z ≡ kept_at m.world.legs z

  module _ (z : Slot) (in_z : IsExternal d.external z) (apart : z ≡ x → ⊥) where
    other_stored : (o : Option (List ℕ)) → slice_index_or (slice_set m.world.legs.kept (number_of x) o) (number_of z) None ≡ kept_at m.world.legs z
    other_stored o = get_or-set_other m.world.legs.kept (number_of x) (number_of z) o None (λ n. apart (same_number z x in_z.1 within.1 n))

    channel_stored : (awaits other : Bool) → stored_in z (if awaits then restart_channel other x else [])
    channel_stored true true = other_stored None
    channel_stored true false = other_stored None
    channel_stored false other = refl

    again_stored : (leg : Leg) (o : Option (List ℕ)) → stored_in z (send_again (record { slot = x; leg = leg }) o)
    again_stored leg None = refl
    again_stored leg (Some octets) = other_stored (Some octets)

    pub stored_apart : kept_at done.world.legs z ≡ kept_at m.world.legs z
    stored_apart =
        at_held m.world.legs x (resume_held tones whole m.world.legs x) (stored_in z) (λ none. channel_stored (awaits_restart m.world.legs x) whole)
        (λ leg at. by_resume d tones m x leg kept within at (stored_in z) (λ talks. other_stored None) (λ dials. other_stored None)
        (λ clears. again_stored leg (kept_at m.world.legs x)) refl)

  -- the enquiry, the stored message, and the RESTART
  pub enquiry_sent : (leg : Leg) → leg_at m.world.legs x ≡ Some leg → leg.state ≡ active → Contains done.sends (enquiry_signal x leg)
  enquiry_sent leg at is =
      let up : (leg.state == active) ≡ true = rw is refl in
      subst (λ (os : List Operation). Contains (making_after_all d m os).sends (enquiry_signal x leg)) (sym (enquires leg at up))
      (Contains-push m.sends (enquiry_signal x leg))
    where
      enquires : (leg : Leg) → leg_at m.world.legs x ≡ Some leg → (leg.state == active) ≡ true
          → resume_slot tones whole m.world.legs x ≡ enquire (record { slot = x; leg = leg })
      enquires leg at up = rw (at, up) refl

  pub stored_sent : (leg : Leg) (octets : List ℕ) → leg_at m.world.legs x ≡ Some leg → leg.state ≡ release_request → kept_at m.world.legs x ≡ Some octets
      → Contains done.sends (stored_signal x octets)
  stored_sent leg octets at is keeps =
      subst (λ (os : List Operation). Contains (making_after_all d m os).sends (stored_signal x octets))
      (sym (repeats leg at (rw is refl) (rw is refl) (rw is refl)))
      (subst (λ (o : Option (List ℕ)). Contains (making_after_all d m (send_again (record { slot = x; leg = leg }) o)).sends (stored_signal x octets))
      (sym keeps) (Contains-push m.sends (stored_signal x octets)))
    where
      repeats : (leg : Leg) → leg_at m.world.legs x ≡ Some leg → (leg.state == active) ≡ false → (leg.state == overlap_sending) ≡ false
          → (leg.state == release_request) ≡ true
          → resume_slot tones whole m.world.legs x ≡ send_again (record { slot = x; leg = leg }) (kept_at m.world.legs x)
      repeats leg at not_up not_dials asked = rw (at, not_up, not_dials, asked) refl

  pub restart_sent : leg_at m.world.legs x ≡ None → awaits_restart m.world.legs x ≡ true → whole ≡ false
      → Contains done.sends (restart_signal x (Channel x.place))
  restart_sent none awaits alone =
      subst (λ (os : List Operation). Contains (making_after_all d m os).sends (restart_signal x (Channel x.place))) (sym (restarts none awaits alone))
      (Contains-push m.sends (restart_signal x (Channel x.place)))
    where
      held_none : (legs : Legs) → (o : Option Leg) → leg_at legs x ≡ o → o ≡ None → awaits_restart legs x ≡ true → (w : Bool) → w ≡ false
          → resume_slot tones w legs x ≡ restart_channel false x
      held_none legs o at is owes w alone = rw (at, is) ends where
        ends : (if awaits_restart legs x then restart_channel w x else []) ≡ restart_channel false x
        ends = rw (owes, alone) refl

      restarts : leg_at m.world.legs x ≡ None → awaits_restart m.world.legs x ≡ true → whole ≡ false
          → resume_slot tones whole m.world.legs x ≡ restart_channel false x
      restarts none awaits alone = held_none m.world.legs None none refl awaits whole alone

-- ---- the slots of the line

record AreSent (s : Setting) (whole : Bool) (line : ℕ) (w : World) (n : ℕ) (m : Making) : Type 0 where
  legs : AreResumed s line w n m.world
  stored : (z : Slot) → IsExternal s.dimensions.external z → z.line ≡ line → n ≤ z.place → kept_at m.world.legs z ≡ kept_at w.legs z
  enquiries : (z : Slot) (l : Leg) → IsExternal s.dimensions.external z → z.line ≡ line → z.place < n → leg_at w.legs z ≡ Some l → l.state ≡ active
      → Contains m.sends (enquiry_signal z l)
  releases : (z : Slot) (l : Leg) (octets : List ℕ) → IsExternal s.dimensions.external z → z.line ≡ line → z.place < n → leg_at w.legs z ≡ Some l
      → l.state ≡ release_request → kept_at w.legs z ≡ Some octets
      → Contains m.sends (stored_signal z octets)
  restarts : (z : Slot) → IsExternal s.dimensions.external z → z.line ≡ line → z.place < n → awaits_restart w.legs z ≡ true → whole ≡ false
      → Contains m.sends (restart_signal z (Channel z.place))

module _ (s : Setting) (whole : Bool) (line : ℕ) (w : World) (n : ℕ) (below : line < s.dimensions.external) (small : n < 30) (m : Making)
    (so_far : AreSent s whole line w n m)
    (condition : condition_at m.world.legs (record { line = line; place = n }) ≡ condition_at w.legs (record { line = line; place = n })) where
  abbrev d : Dimensions
  d = s.dimensions

  abbrev here : Slot
  here = record { line = line; place = n }

  in_here : IsExternal d.external here
  in_here = (below, small)

  abbrev kept : Kept d s.tones m.world
  kept = so_far.legs.kept

  abbrev turn : List Operation
  turn = resume_slot s.tones whole m.world.legs here

  leg_here : leg_at m.world.legs here ≡ leg_at w.legs here
  leg_here = leg_not_yet s line w n below small m.world so_far.legs

  awaits_here : awaits_restart w.legs here ≡ true → awaits_restart m.world.legs here ≡ true
  awaits_here awaits =
      (λ i. (is_owing (condition i) && is_none (leg_here i)) || (is_open (condition i) && is_none (leg_here i))) ∙ awaits

  -- no leg holds a slot that awaits RESTART
  without_leg : (owing unsure empty : Bool) → ((owing && empty) || (unsure && empty)) ≡ true → empty ≡ true
  without_leg owing unsure true awaits = refl
  without_leg true true false awaits = awaits
  without_leg true false false awaits = awaits
  without_leg false true false awaits = awaits
  without_leg false false false awaits = awaits

  apart_later : (z : Slot) → suc n ≤ z.place → z ≡ here → ⊥
  apart_later z high same = let place : z.place ≡ n = ap (λ (q : Slot). q.place) same in omega (arith, place, high)

  place_before : (z : Slot) → z.line ≡ line → z.place < suc n → (z ≡ here → ⊥) → z.place < n
  place_before z on less apart = let other : z.place ≡ n → ⊥ = (λ place. apart (same_parts z line n on place)) in omega (arith, less, other)

  more_enquiries : (z : Slot) (l : Leg) → IsExternal d.external z → z.line ≡ line → z.place < suc n → leg_at w.legs z ≡ Some l → l.state ≡ active
      → Contains (making_after_all d m turn).sends (enquiry_signal z l)
  more_enquiries z l in_z on less at is = elim (same_or_apart z here) [
    | inl same ↦ subst (λ (q : Slot). Contains (making_after_all d m turn).sends (enquiry_signal q l)) (sym same)
        (enquiry_sent d s.tones whole m here kept in_here l (leg_here ∙ sym (ap (leg_at w.legs) same) ∙ at) is)
    | inr apart ↦ sent_still_all d m turn (enquiry_signal z l) (so_far.enquiries z l in_z on (place_before z on less apart) at is)
  ]

  more_releases : (z : Slot) (l : Leg) (octets : List ℕ) → IsExternal d.external z → z.line ≡ line → z.place < suc n → leg_at w.legs z ≡ Some l
      → l.state ≡ release_request → kept_at w.legs z ≡ Some octets
      → Contains (making_after_all d m turn).sends (stored_signal z octets)
  more_releases z l octets in_z on less at is keeps = elim (same_or_apart z here) [
    | inl same ↦ subst (λ (q : Slot). Contains (making_after_all d m turn).sends (stored_signal q octets)) (sym same)
        (stored_sent d s.tones whole m here kept in_here l octets (leg_here ∙ sym (ap (leg_at w.legs) same) ∙ at) is
        (so_far.stored here in_here refl (omega arith) ∙ sym (ap (kept_at w.legs) same) ∙ keeps))
    | inr apart ↦ sent_still_all d m turn (stored_signal z octets) (so_far.releases z l octets in_z on (place_before z on less apart) at is keeps)
  ]

  more_restarts : (z : Slot) → IsExternal d.external z → z.line ≡ line → z.place < suc n → awaits_restart w.legs z ≡ true → whole ≡ false
      → Contains (making_after_all d m turn).sends (restart_signal z (Channel z.place))
  more_restarts z in_z on less awaits alone = elim (same_or_apart z here) [
    | inl same ↦
        let here_too : awaits_restart m.world.legs here ≡ true = awaits_here (sym (ap (awaits_restart w.legs) same) ∙ awaits) in
        let none : leg_at m.world.legs here ≡ None = is_empty (leg_at m.world.legs here)
        (without_leg (is_owing (condition_at m.world.legs here)) (is_open (condition_at m.world.legs here))
        (is_none (leg_at m.world.legs here)) here_too) in
        subst (λ (q : Slot). Contains (making_after_all d m turn).sends (restart_signal q (Channel q.place))) (sym same)
        (restart_sent d s.tones whole m here kept in_here none here_too alone)
    | inr apart ↦ sent_still_all d m turn (restart_signal z (Channel z.place)) (so_far.restarts z in_z on (place_before z on less apart) awaits alone)
  ]

  one_more : AreSent s whole line w (suc n) (making_after_all d m turn)
  one_more = record {
    legs = legs_one_more s whole line w n below small m so_far.legs;
    stored = λ z in_z on high. stored_apart d s.tones whole m here kept in_here z in_z (apart_later z high) ∙ so_far.stored z in_z on (omega (arith, high));
    enquiries = more_enquiries;
    releases = more_releases;
    restarts = more_restarts;
  }

module _ (s : Setting) (line : ℕ) (w : World) (can : HasLine s w line) (count : length w.legs.conditions ≡ 30 * s.dimensions.external) where
  abbrev begins : World
  begins = with_line w line false

  abbrev so_far_at : Bool → ℕ → MessageOutcome
  so_far_at whole n = outcome_below s.dimensions (rule_of s.tones whole false) line begins n

  start : (whole : Bool) → AreSent s whole line w 0 (so_far_at whole 0).making
  start whole = subst (λ (a : MessageOutcome). AreSent s whole line w 0 a.making)
      (sym (below_none s.dimensions (rule_of s.tones whole false) line begins)) (record {
        legs = legs_start s whole line w can.line_exists can.stands;
        stored = λ z in_z on high. refl;
        enquiries = λ z l in_z on less at is. absurd (omega (arith, less));
        releases = λ z l octets in_z on less at is keeps. absurd (omega (arith, less));
        restarts = λ z in_z on less awaits alone. absurd (omega (arith, less));
      })

  sent_below : (whole : Bool) (n : ℕ) → n ≤ 30 → AreSent s whole line w n (so_far_at whole n).making
  sent_below whole zero small = start whole
  sent_below whole (suc n) small =
      subst (λ (a : MessageOutcome). AreSent s whole line w (suc n) a.making) (sym (below_more s.dimensions (rule_of s.tones whole false) line begins n))
      (one_more s whole line w n can.line_exists (omega (arith, small)) (so_far_at whole n).making (sent_below whole n (omega (arith, small)))
      ((raised_below s w line can count whole n (omega (arith, small))).later
      (record { line = line; place = n }) (can.line_exists, omega (arith, small)) refl (omega arith)))

  -- ---- after the last slot

  abbrev after_up : Making
  after_up = (outcome_of_link s.dimensions s.tones false line w).making

  -- the RESTART of the interface comes last
  last_sent : (whole : Bool) (a : MessageOutcome) (one : Signal) → Contains a.making.sends one
      → Contains (with_interface s.dimensions whole line a).making.sends one
  last_sent true a one sent = sent_still_all s.dimensions a.making (Send line (restart_of whole_line) ∷ []) one sent
  last_sent false a one sent = sent

  whole_sent : (a : MessageOutcome) (x : Slot) → x.line ≡ line → Contains (with_interface s.dimensions true line a).making.sends (restart_signal x whole_line)
  whole_sent a x on = subst (λ (n : ℕ). Contains (with_interface s.dimensions true line a).making.sends
      (record { line = n; octets = encoding (restart_of whole_line) })) (sym on)
      (Contains-push a.making.sends (record { line = line; octets = encoding (restart_of whole_line) }))

  module _ (x : Slot) (in_x : IsExternal s.dimensions.external x) (on : x.line ≡ line) where
    enquired_by : (leg : Leg) → leg_at w.legs x ≡ Some leg → leg.state ≡ active → Contains after_up.sends (enquiry_signal x leg)
    enquired_by leg at is =
        let whole : Bool = not false && restarts_interface w.legs line in
        last_sent whole (so_far_at whole 30) (enquiry_signal x leg) ((sent_below whole 30 (omega arith)).enquiries x leg in_x on in_x.1 at is)

    released_by : (l : Leg) → leg_at w.legs x ≡ Some l → l.state ≡ release_request → IsReleasedAgain w after_up x (retransmitted_from w.holding.next l)
    released_by l at is =
        let keeps = stored_there s.dimensions.external w.holding.next w.legs x l can.stands.waits in_x at (rw is refl) in
        let whole : Bool = not false && restarts_interface w.legs line in
        record {
          octets = keeps.0;
          stored = keeps.1;
          release = kept_anew w.holding.next l keeps.0 keeps.2;
          sent = last_sent whole (so_far_at whole 30) (stored_signal x keeps.0)
              ((sent_below whole 30 (omega arith)).releases x l keeps.0 in_x on in_x.1 at is keeps.1);
          timer = rw is refl;
          since = refl;
        }

    restarted_by : (whole : Bool) → awaits_restart w.legs x ≡ true → IsRestartSent (with_interface s.dimensions whole line (so_far_at whole 30)).making x
    restarted_by true awaits = (whole_line, refl, whole_sent (so_far_at true 30) x on)
    restarted_by false awaits = (Channel x.place, same_place x.place, (sent_below false 30 (omega arith)).restarts x in_x on in_x.1 awaits refl) where
      same_place : (n : ℕ) → (n == n) ≡ true
      same_place n = grind (arith, common_steps)

    -- ---- each channel

    none_owed : is_owed after_up.world.legs x ≡ false
    none_owed = owed_raised s w line can count x in_x ∙ (λ i. (is_owed w.legs x && not (here i)) && empty) ∙ none_so (is_owed w.legs x) empty where
      empty : Bool
      empty = is_none (leg_at after_up.world.legs x)

      here : (x.line == line) ≡ true
      here = grind (arith, common_steps, on)

      none_so : (owed none : Bool) → ((owed && false) && none) ≡ false
      none_so true none = refl
      none_so false none = refl

    resumed_accounted : (l : Leg) → leg_at w.legs x ≡ Some l → IsAccounted w after_up x (resumed w l)
    resumed_accounted l at = elim (true_or_false (l.state == active)) [
      | inl up ↦
          let is = eqb-true l.state active up in
          rw up (record {
            in_active = λ e. record { flag = refl; sent = enquired_by l at is };
            in_clearing = λ clears. absurd (not_both l.state is clears);
            in_disconnect = λ e. absurd (two_states l.state active disconnect_indication is e (λ same. absurd cc));
            in_release = λ e. absurd (two_states l.state active release_request is e (λ same. absurd cc));
            in_others = λ other goes. absurd (other is);
          })
      | inr not_up ↦ elim (true_or_false (l.state == overlap_sending)) [
        | inl dials ↦ rw (not_up, dials) (record {
          in_active = λ e. absurd cc;
          in_clearing = λ clears. refl;
          in_disconnect = λ e. record { timer = refl; since = inr refl };
          in_release = λ e. absurd cc;
          in_others = λ other goes. absurd cc;
        })
        | inr other ↦ elim (true_or_false (l.state == release_request)) [
          | inl asked ↦
              let is = eqb-true l.state release_request asked in
              rw (not_up, other, asked) (record {
                in_active = λ e. absurd (not_equal l.state active not_up e);
                in_clearing = λ clears. runs l.state true clears;
                in_disconnect = λ e. absurd (two_states l.state release_request disconnect_indication is e (λ same. absurd cc));
                in_release = λ e. released_by l at is;
                in_others = λ quiet goes. absurd (is_cleared l.state is goes);
              })
          | inr not_asked ↦ rw (not_up, other, not_asked) (record {
            in_active = λ is. absurd (not_equal l.state active not_up is);
            in_clearing = λ clears. runs l.state l.resent clears;
            in_disconnect = λ is. record { timer = rw is refl; since = inl at };
            in_release = λ is. absurd (not_equal l.state release_request not_asked is);
            in_others = λ quiet goes. at;
          })
        ]
      ]
    ]
      where
        not_equal : (state n : ℕ) → (state == n) ≡ false → state ≡ n → ⊥
        not_equal state n apart is = grind (arith, common_steps, apart, is)

        two_states : (state n k : ℕ) → state ≡ n → state ≡ k → (n ≡ k → ⊥) → ⊥
        two_states state n k one other apart = apart (sym one ∙ other)

        is_cleared : (state : ℕ) → state ≡ release_request → is_among being_cleared state ≡ false → ⊥
        is_cleared state is goes = grind (arith, common_steps, is, goes)

        not_both : (state : ℕ) → state ≡ active → is_among being_cleared state ≡ true → ⊥
        not_both state is clears = grind (arith, common_steps, is, clears)

        runs : (state : ℕ) (resent : Bool) → is_among being_cleared state ≡ true → is_some (expiry_in state resent) ≡ true
        runs state true clears = grind (arith, common_steps, clears)
        runs state false clears = grind (arith, common_steps, clears)

    reconciled_by : (o : Option Leg) → leg_at w.legs x ≡ o → IsReconciled w after_up x (option_map (resumed_on line w x) o)
    reconciled_by None none = record { none_owed = none_owed; sent = restarted_by (not false && restarts_interface w.legs line) }
    reconciled_by (Some l) at = subst (λ (b : Bool). IsAccounted w after_up x (if b then resumed w l else l)) (sym here) (resumed_accounted l at) where
      here : (x.line == line) ≡ true
      here = grind (arith, common_steps, on)

    pub reconciled : IsReconciled w after_up x (leg_at after_up.world.legs x)
    reconciled = subst (IsReconciled w after_up x) (sym (legs_are_resumed s w line can x in_x)) (reconciled_by (leg_at w.legs x) refl)
