-- A frame has a record for each call that ends in it, and no other, and they come by line.
use Rattle.std.proofs.Common.{◌≡◌, ℕ, zero, suc, ◌*◌, ◌<◌, ◌≤◌, Bool, true, false, ◌⊎◌, inl, inr, List, [], ◌∷◌, ◌++◌, length, Option, Some, None, refl, sym, ◌∙◌, ap, subst, arith, eqb-true, append-nil, length-set, ◌≢◌, if◌then◌else◌}
use Rattle.std.specs.Prelude.{All, AllPairs, Contains, IsTrue, is_some, option_map, option_and_then, ◌==◌}
use Rattle.std.specs.List.{cons_option}
use Rattle.std.proofs.lemmas.Bool.{cases_lt}
use Rattle.std.proofs.lemmas.Grind.{common_steps}
use Rattle.std.proofs.lemmas.List.Elements.{All-nil, All-cons, All-append, All-contains, All-weaker}
use Rattle.circuit_model.specs.declared.channel.Slot.{Slot}
use Rattle.circuit_model.specs.Circuits.{heard_by}
use Rattle.circuit_model.specs.FrameInput.{Input}
use Rattle.circuit_model.specs.Extent.{IsExternal}
use Rattle.circuit_model.proofs.Age.{cons_cases, none_in_nil}
use Rattle.circuit_model.proofs.Slots.{true_or_false}
use Rattle.control_memory.specs.Layout.{number_of}
use Rattle.number_plan.specs.declared.plan.Number.{Number}
use Rattle.q931_codec.specs.CallStates.{active, disconnect_indication}
use Rattle.q931_codec.specs.Causes.{destination_out_of_order, invalid_number_format, no_answer_from_user, no_user_responding, recovery_on_timer_expiry}
use Rattle.call_timers.specs.declared.expiry.Expiry.{Expiry}
use Rattle.call_timers.specs.declared.expiry.Expiry.TheVariants as expiry
use Rattle.call_timers.specs.declared.timers.Timers.{Timers}
use Rattle.call_states.specs.Acts.{is_among}
use Rattle.call_states.specs.declared.leg.HeldLeg.{HeldLeg}
use Rattle.call_states.specs.declared.leg.Leg.{Leg}
use Rattle.call_states.specs.declared.leg.Peer.{Peer}
use Rattle.call_states.specs.declared.leg.Peer.TheVariants as peer
use Rattle.call_states.specs.declared.leg.Side.{Side}
use Rattle.call_states.specs.declared.leg.Side.TheVariants.{Caller, Called}
use Rattle.tone_rules.specs.declared.tones.Tones.{Tones}
use Rattle.exchange_events.specs.declared.record.CallRecord.{CallRecord}
use Rattle.exchange_events.specs.declared.record.Party.{Party}
use Rattle.exchange_events.specs.declared.record.Party.TheVariants as party
use Rattle.exchange_events.specs.Sizes.{Setting, Dimensions}
use Rattle.call_profile.specs.Acts.{in_disconnect_indication, in_release_request, peer_of, with_peer, clear_with}
use Rattle.call_profile.specs.CallRecords.{before_clearing, is_calling, party_of, record_of, records}
use Rattle.call_profile.specs.EndedCalls.{caller_in, record_calling, record_of_expiry}
use Rattle.call_profile.specs.Expiring.{timed_state, send_again, clear_peer, clear_both, on_expiry, cause_of_expiry, cause_if_due, cause_at, due_of, expire_slot, slot_looked_at, outcome_on_line, outcome_of_lines, outcome_of_frame}
use Rattle.call_laws.specs.ExpiryBounds.{RunsOut, without_timers, NoneIsLost}
use Rattle.call_laws.specs.ExpiryRecords.{cause_of_end, cause_of_silence, ComeByExpiry, ComeByLine, ExpiresOn, IsEndRecord, IsExpiredBefore, IsFrameRecord, IsInFrame, IsInTurn, IsLegOf, IsLineBefore}
use Rattle.call_profile.specs.LegStanding.{CallsStand, HasPeer, IsInCall, are_matched}
use Rattle.call_profile.specs.Legs.{Legs, leg_at, held_at, kept_at, same_side, with_entry, retransmitted_from}
use Rattle.call_laws.specs.LostLegs.{cleared_by_outage, IsLost}
use Rattle.call_profile.specs.Operations as op
use Rattle.call_profile.specs.Operations.{Operation, Making, begun, making_after, making_after_all}
use Rattle.call_laws.specs.Recorded.{HasEnded}
use Rattle.call_profile.specs.Restarts.{MessageOutcome}
use Rattle.call_profile.specs.World.{World, pass}
use Rattle.call_profile.proofs.BesideLemmas.{leg_at-with_entry_here, leg_at-with_entry_else, peer_back, same_or_apart}
use Rattle.call_profile.proofs.ClearingLemmas.{Kept, held_there}
use Rattle.call_profile.proofs.CommandLemmas.{both_true, pass_kept}
use Rattle.call_laws.proofs.DroppedLineLemmas.{call_active}
use Rattle.call_profile.proofs.ExpiredRecordLemmas.{no_caller, records_slot_told}
use Rattle.call_profile.proofs.ExpiringLemmas.{at_slot, lines_kept, lines_none, lines_more, place_within, slot_may}
use Rattle.call_laws.proofs.ExpiryChangeLemmas.{neither_runs_out, none_else_changes, unchanged_due}
use Rattle.call_laws.proofs.ExpirySinceLemmas.{outcome_of_lines_next}
use Rattle.call_profile.proofs.ExpiryStateLemmas.{due_state}
use Rattle.call_laws.proofs.LostLegLemmas.{other_cleared_from, same_leg}
use Rattle.call_laws.proofs.LostRecordLemmas.{heard_here, heard_there}
use Rattle.call_profile.proofs.Permitted.{IsPermitted, ArePermitted}
use Rattle.call_laws.proofs.RecordedCallLemmas.{EndsBy, calling_record, record_cause, record_same}
use Rattle.call_laws.proofs.RecordedMessageLemmas.{AreEndedBy, AreOfEnded, of_records, both_of_ended}
use Rattle.call_laws.proofs.RecordOrderLemmas.{record_of_calling, pairs_snoc, record_parties}

-- ---- a slot's leg calls no more, or is as it was

module _ (d : Dimensions) (tones : Tones) (plan : List Number) (before : Legs) (z : Slot) (in_z : IsExternal d.external z) where
  abbrev Became : Legs → Type 0
  Became legs = (leg_at legs z ≡ leg_at before z) ⊎ (is_calling (leg_at legs z) ≡ false)

  -- no leg that is put calls
  abbrev Hushes : Operation → Type 0
  Hushes (op.Clear x) = Unit {0}
  Hushes (op.Pair x y) = Unit {0}
  Hushes (op.Seat x room) = Unit {0}
  Hushes (op.Sound x kind) = Unit {0}
  Hushes (op.Put x leg) = is_calling (Some leg) ≡ false
  Hushes (op.Wait x leg p) = is_calling (Some leg) ≡ false
  Hushes (op.Expect x leg message) = is_calling (Some leg) ≡ false
  Hushes (op.Repeat h octets) = is_calling (Some h.leg) ≡ false
  Hushes (op.Await x leg) = is_calling (Some leg) ≡ false
  Hushes (op.Remove x condition) = Unit {0}
  Hushes (op.Send line message) = Unit {0}

  abbrev HushesAll : List Operation → Type 0
  HushesAll [] = Unit {0}
  HushesAll (o ∷ os) = Hushes o × HushesAll os

  -- with the size of the table
  abbrev Sized : Legs → Type 0
  Sized legs = (length legs.held ≡ 30 * d.external) × Became legs

  entered : (legs : Legs) (x : Slot) (o : Option Leg) → IsExternal d.external x → is_calling o ≡ false → Sized legs → Sized (with_entry legs x o)
  entered legs x o in_x silent so_far = (
    length-set legs.held (number_of x) o ∙ so_far.0,
    elim (same_or_apart z x) [
      | inl same ↦ inr (ap (λ (y : Slot). is_calling (leg_at (with_entry legs x o) y)) same ∙ ap is_calling (leg_at-with_entry_here d.external legs x o so_far.0 in_x) ∙ silent)
      | inr apart ↦
          let elsewhere = leg_at-with_entry_else d.external legs x z o in_x in_z apart in
          elim so_far.1 [
            | inl stays ↦ inl (elsewhere ∙ stays)
            | inr hushed ↦ inr (ap is_calling elsewhere ∙ hushed)
          ]
    ],
  )

  performed : (m : Making) (o : Operation) → IsPermitted d tones plan m o → Hushes o → Sized m.world.legs → Sized (making_after d m o).world.legs
  performed m (op.Clear x) may hushes so_far = so_far
  performed m (op.Pair x y) may hushes so_far = so_far
  performed m (op.Seat x room) may hushes so_far = so_far
  performed m (op.Sound x kind) may hushes so_far = so_far
  performed m (op.Put x leg) may hushes so_far = entered m.world.legs x (Some (begun m.world leg)) may.0 hushes so_far
  performed m (op.Wait x leg p) may hushes so_far = entered m.world.legs x (Some (begun m.world leg)) may.0 hushes so_far
  performed m (op.Expect x leg message) may hushes so_far = entered m.world.legs x (Some (begun m.world leg)) may.0 hushes so_far
  performed m (op.Repeat h octets) may hushes so_far = entered m.world.legs h.slot (Some (retransmitted_from m.world.holding.next h.leg)) may.0 hushes so_far
  performed m (op.Await x leg) may hushes so_far = entered m.world.legs x (Some (retransmitted_from m.world.holding.next leg)) may.0 hushes so_far
  performed m (op.Remove x condition) may hushes so_far = entered m.world.legs x None may refl so_far
  performed m (op.Send line message) may hushes so_far = so_far

  performed_all : (m : Making) (os : List Operation) → ArePermitted d tones plan m os → HushesAll os → Sized m.world.legs → Sized (making_after_all d m os).world.legs
  performed_all m [] may hushes so_far = so_far
  performed_all m (o ∷ os) may hushes so_far = performed_all (making_after d m o) os may.1 hushes.1 (performed m o may.0 hushes.0 so_far)

  both_hush : (os ps : List Operation) → HushesAll os → HushesAll ps → HushesAll (os ++ ps)
  both_hush [] ps one other = other
  both_hush (o ∷ os) ps one other = (one.0, both_hush os ps one.1 other)

  -- ---- an expiry

  cleared_hush : (cause : ℕ) (k : HeldLeg) → HushesAll (clear_with tones cause k)
  cleared_hush cause k = (tt, (no_caller (in_disconnect_indication cause k.leg) refl, (tt, (tt, tt))))

  peer_hush : (cause : ℕ) (o : Option HeldLeg) → HushesAll (with_peer o (clear_with tones cause))
  peer_hush cause None = tt
  peer_hush cause (Some k) = cleared_hush cause k

  legs_hush : (cause : ℕ) (legs : Legs) (h : HeldLeg) → HushesAll (clear_both tones legs h cause)
  legs_hush cause legs h = both_hush (clear_with tones recovery_on_timer_expiry h) (clear_peer tones legs h cause) (cleared_hush recovery_on_timer_expiry h) (peer_hush cause (peer_of legs h.leg.peer))

  again_hush : (h : HeldLeg) (o : Option (List ℕ)) → is_calling (Some h.leg) ≡ false → HushesAll (send_again h o)
  again_hush h None silent = tt
  again_hush h (Some octets) silent = (silent, tt)

  expiry_hush : (legs : Legs) (h : HeldLeg) (e : Expiry) → (e ≢ expiry.Outage → is_calling (Some h.leg) ≡ false) → HushesAll (on_expiry tones legs h e)
  expiry_hush legs h expiry.Digits silent = cleared_hush invalid_number_format h
  expiry_hush legs h expiry.SetupAgain silent = again_hush h (kept_at legs h.slot) (silent (λ e. absurd cc))
  expiry_hush legs h expiry.SetupOver silent = (tt, (tt, (tt, peer_hush no_user_responding (peer_of legs h.leg.peer))))
  expiry_hush legs h expiry.Proceeding silent = legs_hush no_user_responding legs h
  expiry_hush legs h expiry.Alerting silent = legs_hush no_answer_from_user legs h
  expiry_hush legs h expiry.Outage silent = (tt, (tt, peer_hush destination_out_of_order (peer_of legs h.leg.peer)))
  expiry_hush legs h expiry.Disconnect silent = (no_caller (in_release_request h.leg) refl, tt)
  expiry_hush legs h expiry.ReleaseAgain silent = again_hush h (kept_at legs h.slot) (silent (λ e. absurd cc))
  expiry_hush legs h expiry.ReleaseOver silent = (tt, (tt, tt))

-- a leg whose timer runs out, other than T309, calls nobody
due_silent : (s : Setting) (frame : ℕ) (leg : Leg) (o : Option Expiry) → due_of s.timers frame leg ≡ o → (e : Expiry) → e ≢ expiry.Outage → o ≡ Some e → is_calling (Some leg) ≡ false
due_silent s frame leg o is e calm found =
    let state = due_state leg.state leg.resent leg.since frame s.timers e (is ∙ found) in
    no_caller leg (ap (is_among before_clearing) state ∙ each e calm)
  where
    each : (e : Expiry) → e ≢ expiry.Outage → is_among before_clearing (timed_state e) ≡ false
    each expiry.Digits calm = refl
    each expiry.SetupAgain calm = refl
    each expiry.SetupOver calm = refl
    each expiry.Proceeding calm = refl
    each expiry.Alerting calm = refl
    each expiry.Outage calm = absurd (calm refl)
    each expiry.Disconnect calm = refl
    each expiry.ReleaseAgain calm = refl
    each expiry.ReleaseOver calm = refl

-- ---- the timer of a leg of a call whose clearing has not begun is T309

outage_only : (e : Expiry) → is_among before_clearing (timed_state e) ≡ true → e ≡ expiry.Outage
outage_only expiry.Digits among = absurd cc
outage_only expiry.SetupAgain among = absurd cc
outage_only expiry.SetupOver among = absurd cc
outage_only expiry.Proceeding among = absurd cc
outage_only expiry.Alerting among = absurd cc
outage_only expiry.Outage among = refl
outage_only expiry.Disconnect among = absurd cc
outage_only expiry.ReleaseAgain among = absurd cc
outage_only expiry.ReleaseOver among = absurd cc

timed_lost : (timers : Timers) (frame : ℕ) (leg : Leg) (e : Expiry) → due_of timers frame leg ≡ Some e → is_among before_clearing leg.state ≡ true → due_of timers frame leg ≡ Some expiry.Outage
timed_lost timers frame leg e is among =
    let state = due_state leg.state leg.resent leg.since frame timers e is in
    is ∙ ap (λ (f : Expiry). Some f) (outage_only e (ap (is_among before_clearing) (sym state) ∙ among))

calling_among : (leg : Leg) → is_calling (Some leg) ≡ true → is_among before_clearing leg.state ≡ true
calling_among leg calls = (both_true (same_side Caller leg.side) (is_among before_clearing leg.state) calls).1

some_due : (o : Option Expiry) → is_some o ≡ true → (e : Expiry) × (o ≡ Some e)
some_due None some = absurd cc
some_due (Some e) some = (e, refl)

-- ---- the record of a line

-- a caller in call delivered has a called user who is alerted, and one in outgoing call proceeding has not; in active T309
-- of either leg has expired
cause_of_expiry_end : (e : Expiry) (caller : Leg) → IsTrue (are_matched caller.state (timed_state e)) → cause_of_expiry e ≡ cause_of_end caller
cause_of_expiry_end expiry.Digits caller matched = absurd (grind (arith, common_steps, matched))
cause_of_expiry_end expiry.SetupAgain caller matched = grind (arith, common_steps, matched)
cause_of_expiry_end expiry.SetupOver caller matched = grind (arith, common_steps, matched)
cause_of_expiry_end expiry.Proceeding caller matched = grind (arith, common_steps, matched)
cause_of_expiry_end expiry.Alerting caller matched = grind (arith, common_steps, matched)
cause_of_expiry_end expiry.Outage caller matched = grind (arith, common_steps, matched)
cause_of_expiry_end expiry.Disconnect caller matched = absurd (grind (arith, common_steps, matched))
cause_of_expiry_end expiry.ReleaseAgain caller matched = absurd (grind (arith, common_steps, matched))
cause_of_expiry_end expiry.ReleaseOver caller matched = absurd (grind (arith, common_steps, matched))

-- a caller's leg whose own timer expires
own_cause : (e : Expiry) (leg : Leg) → leg.state ≡ timed_state e → is_calling (Some leg) ≡ true → cause_of_expiry e ≡ cause_of_end leg
own_cause e leg state calls =
    let is = outage_only e (ap (is_among before_clearing) (sym state) ∙ calling_among leg calls) in
    let up : leg.state ≡ active = state ∙ ap timed_state is in
    ap cause_of_expiry is ∙ in_active leg up
  where
    in_active : (leg : Leg) → leg.state ≡ active → destination_out_of_order ≡ cause_of_end leg
    in_active leg up = rw up refl

-- a record is of a call of the slot that is looked at, with the cause that the caller's state gives
record IsToldOf (u : World) (x : Slot) (cause : ℕ) (c : CallRecord) : Type 0 where
  of_call : IsLegOf c x
  caller : (y : Slot) × (other : Leg) × (leg_at u.legs y ≡ Some other) × (c.caller ≡ y) × (cause ≡ cause_of_end other)

module _ (external : ℕ) (u : World) (x : Slot) (leg : Leg) (at : leg_at u.legs x ≡ Some leg) (c : CallRecord) (f : Expiry) (state : leg.state ≡ timed_state f) where
  abbrev held : HeldLeg
  held = record { slot = x; leg = leg }

  abbrev cause : ℕ
  cause = cause_of_expiry f

  of_called : (p : Peer) → leg.peer ≡ p → HasPeer external u.legs x leg p → leg.side ≡ Called → option_and_then (record_calling u cause) (peer_of u.legs p) ≡ Some c → IsToldOf u x cause c
  of_called peer.Alone is has side e = absurd (cc e)
  of_called (peer.Leg y) is has side e =
      let other = has.1.0 in
      let caller : HeldLeg = record { slot = y; leg = other } in
      let record_is = record_of_calling u cause caller c (rw (held_there u.legs y other has.1.1) at e) in
      let who = record_parties u cause caller c record_is in
      let call : IsInCall Called x leg y other = subst (λ (s : Side). IsInCall s x leg y other) side has.1.2 in
      let both : Some (party.Line x) ≡ Some c.called = sym (ap party_of call.there) ∙ who.1 in
      let called : c.called ≡ party.Line x = cc in
      record {
        of_call = inr called;
        caller = (y, other, has.1.1, who.0, cause_of_expiry_end f other (subst (λ (n : ℕ). IsTrue (are_matched other.state n)) state call.matched));
      }
  of_called (peer.Room room) is has side e = absurd (cc e)

  of_caller : record_calling u cause held ≡ Some c → IsToldOf u x cause c
  of_caller e = elim (true_or_false (is_calling (Some leg))) [
    | inl calls ↦
        let who = record_parties u cause held c (record_of_calling u cause held c e) in
        record { of_call = inl who.0; caller = (x, leg, at, who.0, own_cause f leg state calls) }
    | inr silent ↦ let wrong : None ≡ Some c = rw silent at e in absurd cc
  ]

  of_side : (side : Side) → leg.side ≡ side → HasPeer external u.legs x leg leg.peer
      → option_and_then (record_calling u cause) (caller_in side held (peer_of u.legs leg.peer)) ≡ Some c → IsToldOf u x cause c
  of_side Caller is has e = of_caller e
  of_side Called is has e = of_called leg.peer refl has is e

of_expiry : (external : ℕ) (u : World) (x : Slot) (leg : Leg) → leg_at u.legs x ≡ Some leg → (c : CallRecord) (e : Expiry) → leg.state ≡ timed_state e → HasPeer external u.legs x leg leg.peer
    → record_of_expiry u (record { slot = x; leg = leg }) e ≡ Some c → IsToldOf u x (cause_of_expiry e) c
of_expiry external u x leg at c expiry.Digits state has is = absurd (cc is)
of_expiry external u x leg at c expiry.SetupAgain state has is = absurd (cc is)
of_expiry external u x leg at c expiry.SetupOver state has is = of_side external u x leg at c expiry.SetupOver state leg.side refl has is
of_expiry external u x leg at c expiry.Proceeding state has is = of_side external u x leg at c expiry.Proceeding state leg.side refl has is
of_expiry external u x leg at c expiry.Alerting state has is = of_side external u x leg at c expiry.Alerting state leg.side refl has is
of_expiry external u x leg at c expiry.Outage state has is = of_side external u x leg at c expiry.Outage state leg.side refl has is
of_expiry external u x leg at c expiry.Disconnect state has is = absurd (cc is)
of_expiry external u x leg at c expiry.ReleaseAgain state has is = absurd (cc is)
of_expiry external u x leg at c expiry.ReleaseOver state has is = absurd (cc is)

-- what is recorded at a slot that is looked at
abbrev one_at : Setting → ℕ → World → Slot → Option CallRecord
one_at s frame u x = option_and_then (λ h. option_and_then (record_of_expiry u h) (due_of s.timers frame h.leg)) (held_at u.legs x)

module _ (s : Setting) (frame : ℕ) (u : World) (kept : Kept s.dimensions s.tones u) (x : Slot) (in_x : IsExternal s.dimensions.external x) (c : CallRecord) where
  -- the timer of the slot's leg expires
  abbrev DueHere : Type 0
  DueHere = (leg : Leg) × (e : Expiry) × (leg_at u.legs x ≡ Some leg) × (due_of s.timers frame leg ≡ Some e)

  record ToldHere (cause : ℕ) : Type 0 where
    due : DueHere
    told : IsToldOf u x cause c

  of_due : (leg : Leg) (o : Option Expiry) → leg_at u.legs x ≡ Some leg → due_of s.timers frame leg ≡ o
      → option_and_then (record_of_expiry u (record { slot = x; leg = leg })) o ≡ Some c → ToldHere (cause_if_due o)
  of_due leg None at is e = absurd (cc e)
  of_due leg (Some f) at is e = record {
    due = (leg, f, at, is);
    told = of_expiry s.dimensions.external u x leg at c f (due_state leg.state leg.resent leg.since frame s.timers f is) (kept.1.each x leg in_x at).peer e;
  }

  of_leg : (o : Option Leg) → leg_at u.legs x ≡ o
      → option_and_then (λ (h : HeldLeg). option_and_then (record_of_expiry u h) (due_of s.timers frame h.leg)) (option_map (λ (leg : Leg). let h : HeldLeg = record { slot = x; leg = leg } in h) o) ≡ Some c
      → ToldHere (cause_if_due (option_and_then (λ (h : HeldLeg). due_of s.timers frame h.leg) (option_map (λ (leg : Leg). let h : HeldLeg = record { slot = x; leg = leg } in h) o)))
  of_leg None at e = absurd (cc e)
  of_leg (Some leg) at e = of_due leg (due_of s.timers frame leg) at refl e

  told_of : one_at s frame u x ≡ Some c → ToldHere (cause_at s frame u.legs x)
  told_of e = of_leg (leg_at u.legs x) refl e

only_one : (o : Option CallRecord) (c : CallRecord) → Contains (cons_option o []) c → o ≡ Some c
only_one None c inside = absurd (none_in_nil c inside)
only_one (Some d) c inside = elim (cons_cases d [] c inside) [
  | inl same ↦ ap (λ (k : CallRecord). Some k) same
  | inr later ↦ absurd (none_in_nil c later)
]

-- ---- the order

-- the timer that ends the call of each record expires on a line below n, and its caller calls before the frame
record IsEndedBelow (timers : Timers) (frame : ℕ) (legs : Legs) (n : ℕ) (c : CallRecord) : Type 0 where
  line : ℕ
  expires : ExpiresOn timers frame legs c line
  below : line < n
  leg : Leg
  at : leg_at legs c.caller ≡ Some leg
  calls : is_calling (Some leg) ≡ true

record ComeBelow (timers : Timers) (frame : ℕ) (legs : Legs) (n : ℕ) (told : List CallRecord) : Type 0 where
  rising : AllPairs (IsExpiredBefore timers frame legs) told
  below : All (IsEndedBelow timers frame legs n) told

module _ (timers : Timers) (frame : ℕ) (legs : Legs) (n : ℕ) (told : List CallRecord) (so_far : ComeBelow timers frame legs n told) where
  abbrev Here : CallRecord → Type 0
  Here c = IsEndedBelow timers frame legs (suc n) c

  -- the line of a record is its only one
  comes_before : (one later : CallRecord) → IsEndedBelow timers frame legs n one → ExpiresOn timers frame legs later n → IsExpiredBefore timers frame legs one later
  comes_before one later before at i j first second =
      let low = first.first before.expires.slot before.expires.leg before.expires.of_call before.expires.due in
      let on = before.expires.on in
      let less = before.below in
      let high = at.first second.slot second.leg second.of_call second.due in
      let there = second.on in
      omega (arith, low, on, less, high, there)

  one_below : (c : CallRecord) → IsEndedBelow timers frame legs n c → Here c
  one_below c is = let less = is.below in record { line = is.line; expires = is.expires; below = omega (arith, less); leg = is.leg; at = is.at; calls = is.calls }

  then_rising : (o : Option CallRecord) → ((c : CallRecord) → o ≡ Some c → ExpiresOn timers frame legs c n) → AllPairs (IsExpiredBefore timers frame legs) (told ++ cons_option o [])
  then_rising None at = subst (AllPairs (IsExpiredBefore timers frame legs)) (sym (append-nil told)) so_far.rising
  then_rising (Some c) at =
      pairs_snoc (IsExpiredBefore timers frame legs) told c so_far.rising
      (All-weaker (IsEndedBelow timers frame legs n) (λ one. IsExpiredBefore timers frame legs one c) (λ one before. comes_before one c before (at c refl)) told so_far.below)

  here_below : (o : Option CallRecord) → ((c : CallRecord) → o ≡ Some c → Here c) → All Here (cons_option o [])
  here_below None at = All-nil Here
  here_below (Some c) at = All-cons Here c [] (at c refl) (All-nil Here)

  then_below : (o : Option CallRecord) → ((c : CallRecord) → o ≡ Some c → ExpiresOn timers frame legs c n) → ((c : CallRecord) → o ≡ Some c → Here c)
      → ComeBelow timers frame legs (suc n) (told ++ cons_option o [])
  then_below o at here = record {
    rising = then_rising o at;
    below = All-append Here told (cons_option o []) (All-weaker (IsEndedBelow timers frame legs n) Here one_below told so_far.below) (here_below o here);
  }

none_come : (timers : Timers) (frame : ℕ) (legs : Legs) → ComeBelow timers frame legs 0 []
none_come timers frame legs = record { rising = λ i j d lt within. absurd (omega (arith, lt, within)); below = All-nil (IsEndedBelow timers frame legs 0) }

-- ---- the record of a call that was not answered

record_of_early : (w : World) (cause : ℕ) (h : HeldLeg) → (h.leg.state == active) ≡ false
    → record_of w cause h ≡ option_map (λ (called : Party). let c : CallRecord = record { caller = h.slot; called = called; answered = false; from = w.holding.next; to = w.holding.next; cause = cause } in c) (party_of h.leg.peer)
record_of_early w cause h e = rw e refl

record_of_early_same : (u w : World) (cause : ℕ) (h : HeldLeg) → (h.leg.state == active) ≡ false → u.holding.next ≡ w.holding.next → record_of u cause h ≡ record_of w cause h
record_of_early_same u w cause h e next =
    record_of_early u cause h e
    ∙ ap (λ (n : ℕ). option_map (λ (called : Party). let c : CallRecord = record { caller = h.slot; called = called; answered = false; from = n; to = n; cause = cause } in c) (party_of h.leg.peer)) next
    ∙ sym (record_of_early w cause h e)

no_timer_but : (state : ℕ) → is_among without_timers state ≡ false → (state == active) ≡ false
no_timer_but state e = grind (arith, common_steps, e)

-- the cause with which the call of a caller's leg is recorded
abbrev end_of : HeldLeg → ℕ
end_of h = cause_of_end h.leg

party_is : (p : Peer) (x : Slot) → party_of p ≡ Some (party.Line x) → p ≡ peer.Leg x
party_is peer.Alone x e = absurd (cc e)
party_is (peer.Leg y) x e = let lines : party.Line y ≡ party.Line x = cc in let same : y ≡ x = cc in ap (λ (z : Slot). peer.Leg z) same
party_is (peer.Room room) x e = let wrong : party.Room room ≡ party.Line x = cc in absurd cc

one_line : (x y : Slot) → party.Line x ≡ party.Line y → x.line ≡ y.line
one_line x y e = let same : x ≡ y = cc in ap (λ (z : Slot). z.line) same

-- ---- line by line

module _ (s : Setting) (frame : ℕ) (w : World) (kept : Kept s.dimensions s.tones w) (later : frame < w.holding.next) where
  abbrev external : ℕ
  external = s.dimensions.external

  -- the other leg of a leg's call
  call_with : (v : World) → Kept s.dimensions s.tones v → (x y : Slot) (leg other : Leg) → IsExternal external x → leg_at v.legs x ≡ Some leg → leg.peer ≡ peer.Leg y → leg_at v.legs y ≡ Some other
      → IsInCall leg.side x leg y other
  call_with v kept_v x y leg other in_x at_x named at_y =
      let has = subst (HasPeer external v.legs x leg) named (kept_v.1.each x leg in_x at_x).peer in
      subst (λ (l : Leg). IsInCall leg.side x leg y l) (same_leg (leg_at v.legs y) has.1.0 other has.1.1 at_y) has.1.2

  there_with : (v : World) → Kept s.dimensions s.tones v → (x y : Slot) (leg : Leg) → IsExternal external x → leg_at v.legs x ≡ Some leg → leg.peer ≡ peer.Leg y → IsExternal external y
  there_with v kept_v x y leg in_x at_x named = (subst (HasPeer external v.legs x leg) named (kept_v.1.each x leg in_x at_x).peer).0

  -- if T309 of both legs of a call expires, the one that expires first is on the lower line
  lost_first : (x : Slot) (k : Leg) → IsExternal external x → leg_at (outcome_of_lines s frame w x.line).making.world.legs x ≡ Some k → IsLost s.timers frame w.legs x k
      → (y : Slot) (other : Leg) → k.peer ≡ peer.Leg y → IsLost s.timers frame w.legs y other → x.line ≤ y.line
  lost_first x k in_x now lost y other named also = elim (cases_lt y.line x.line) [
    | inl less ↦
        let call = call_with w kept x y k other in_x lost.at named also.at in
        let back = peer_back k.side x y k other call in
        let in_y = there_with w kept x y k in_x lost.at named in
        let before : (p : Slot) (q : Leg) → other.peer ≡ peer.Leg p → IsLost s.timers frame w.legs p q → y.line ≤ p.line = λ p q is lost_p.
        let e : peer.Leg x ≡ peer.Leg p = sym back ∙ is in
        let same : x ≡ p = cc in
        let on : x.line ≡ p.line = ap (λ (z : Slot). z.line) same in
        omega (arith, less, on) in
        let small = in_x.0 in
        let gone = other_cleared_from s frame w kept later y other in_y also before x k back lost.at x.line (omega (arith, less)) (omega (arith, small)) in
        let e : Some k ≡ Some (cleared_by_outage w k) = sym now ∙ gone in
        let same : k ≡ cleared_by_outage w k = cc in
        let up : k.state ≡ active = due_state k.state k.resent k.since frame s.timers expiry.Outage lost.due in
        let over : k.state ≡ disconnect_indication = ap (λ (l : Leg). l.state) same in
        let wrong : active ≡ disconnect_indication = sym up ∙ over in
        absurd cc
    | inr low ↦ low
  ]

  -- the world once the lines below n were looked at, and what was recorded
  record So_far (n : ℕ) (a : MessageOutcome) : Type 0 where
    legs : (x : Slot) (leg : Leg) → IsExternal external x → leg_at a.making.world.legs x ≡ Some leg → is_calling (Some leg) ≡ true → leg_at w.legs x ≡ Some leg
    recorded : AreEndedBy external w a.making.world end_of a.recorded
    order : ComeBelow s.timers frame w.legs n a.recorded

  first : So_far 0 (outcome_of_lines s frame w 0)
  first = subst (So_far 0) (sym (lines_none s frame w)) (record {
    legs = λ x leg in_x at calls. at;
    recorded = record {
      ends = λ c inside. absurd (none_in_nil c inside);
      recorded = λ h c ended e. let wrong : true ≡ false = sym ended.calls ∙ sym (ap is_calling ended.at) ∙ ended.stops in absurd cc;
    };
    order = none_come s.timers frame w.legs;
  })

  module _ (n : ℕ) (small : suc n ≤ external) (so_far : So_far n (outcome_of_lines s frame w n)) where
    abbrev a : MessageOutcome
    a = outcome_of_lines s frame w n

    abbrev u : World
    u = a.making.world

    abbrev x : Slot
    x = slot_looked_at frame n

    abbrev os : List Operation
    os = expire_slot s frame u.legs x

    abbrev v : World
    v = (making_after_all s.dimensions a.making os).world

    fewer : n ≤ external
    fewer = omega (arith, small)

    in_x : IsExternal external x
    in_x = place_within external frame n (omega (arith, small))

    now_kept : Kept s.dimensions s.tones u
    now_kept = lines_kept s frame w kept n fewer

    became : (z : Slot) (in_z : IsExternal external z) → Became s.dimensions s.tones s.plan u.legs z in_z v.legs
    became z in_z = (performed_all s.dimensions s.tones s.plan u.legs z in_z a.making os (slot_may s frame a.making x now_kept in_x s.plan) hushes (now_kept.1.count, inl refl)).1
      where
        hushes : HushesAll s.dimensions s.tones s.plan u.legs z in_z os
        hushes = at_slot s frame u.legs x (HushesAll s.dimensions s.tones s.plan u.legs z in_z) tt
            (λ leg e at is. expiry_hush s.dimensions s.tones s.plan u.legs z in_z u.legs (record { slot = x; leg = leg }) e (λ other. due_silent s frame leg (Some e) is e other refl))

    is_calling_silent : (z : Slot) → IsExternal external z → is_calling (leg_at u.legs z) ≡ false → is_calling (leg_at v.legs z) ≡ false
    is_calling_silent z in_z quiet = elim (became z in_z) [
      | inl stays ↦ ap is_calling stays ∙ quiet
      | inr hushed ↦ hushed
    ]

    calls_still : (z : Slot) (leg : Leg) → IsExternal external z → leg_at v.legs z ≡ Some leg → is_calling (Some leg) ≡ true → leg_at u.legs z ≡ Some leg
    calls_still z leg in_z at calls = elim (became z in_z) [
      | inl stays ↦ sym stays ∙ at
      | inr hushed ↦ let wrong : false ≡ true = sym hushed ∙ ap is_calling at ∙ calls in absurd cc
    ]

    next_here : u.holding.next ≡ w.holding.next
    next_here = outcome_of_lines_next s frame w kept x in_x n fewer

    -- a leg that is due here is as before the frame
    due_before : (leg : Leg) (e : Expiry) → leg_at u.legs x ≡ Some leg → due_of s.timers frame leg ≡ Some e → leg_at w.legs x ≡ Some leg
    due_before leg e at is = unchanged_due s frame w kept later n fewer x in_x leg e at is

    lost_here : (leg : Leg) (e : Expiry) → leg_at u.legs x ≡ Some leg → due_of s.timers frame leg ≡ Some e → is_among before_clearing leg.state ≡ true → IsLost s.timers frame w.legs x leg
    lost_here leg e at is among = record { looked = refl; at = due_before leg e at is; due = timed_lost s.timers frame leg e is among }

    up_among : (leg : Leg) → leg.state ≡ active → is_among before_clearing leg.state ≡ true
    up_among leg is = rw is refl

    -- ---- the call that ends here

    abbrev cause_here : ℕ
    cause_here = cause_at s frame u.legs x

    told_here : records u v cause_here ≡ cons_option (one_at s frame u x) []
    told_here = records_slot_told s frame a.making x now_kept in_x

    ended_here : AreOfEnded external u v cause_here (records u v cause_here)
    ended_here = of_records external u v cause_here now_kept.1.count

    -- its record, and the leg whose timer ends it
    record EndsHere (h : HeldLeg) : Type 0 where
      cause : cause_here ≡ end_of h
      leg : Leg
      e : Expiry
      at : leg_at u.legs x ≡ Some leg
      due : due_of s.timers frame leg ≡ Some e
      which : (h.slot ≡ x) ⊎ (h.leg.peer ≡ peer.Leg x)

    ends_by : (h : HeldLeg) (c : CallRecord) → HasEnded external u v h → record_of u cause_here h ≡ Some c → one_at s frame u x ≡ Some c → EndsHere h
    ends_by h c ended is one =
        let here = told_of s frame u now_kept x in_x c one in
        let caller = here.told.caller in
        let other : Leg = caller.1 in
        let who = record_parties u cause_here h c is in
        let slots : caller.0 ≡ h.slot = sym caller.3 ∙ who.0 in
        let both : Some other ≡ Some h.leg = sym caller.2 ∙ ap (leg_at u.legs) slots ∙ ended.at in
        let same : other ≡ h.leg = cc in
        record {
          cause = caller.4 ∙ ap cause_of_end same;
          leg = here.due.0;
          e = here.due.1;
          at = here.due.2;
          due = here.due.3;
          which = elim here.told.of_call [
            | inl calls ↦ inl (sym who.0 ∙ calls)
            | inr called ↦ inr (party_is h.leg.peer x (who.1 ∙ ap (λ (p : Party). Some p) called))
          ];
        }

    ends_here : (h : HeldLeg) → HasEnded external u v h → EndsHere h
    ends_here h ended =
        let found = calling_record external u cause_here h (now_kept.1.each h.slot h.leg ended.within ended.at).peer ended.calls in
        let c = found.0 in
        let inside = subst (λ (told : List CallRecord). Contains told c) told_here (ended_here.recorded h c ended found.1) in
        ends_by h c ended found.1 (only_one (one_at s frame u x) c inside)

    cause_is : (h : HeldLeg) → HasEnded external u v h → cause_here ≡ end_of h
    cause_is h ended = (ends_here h ended).cause

    -- a conversation that ends here began when it began
    heard_same : (h : HeldLeg) → HasEnded external u v h → h.leg.state ≡ active → heard_by u.holding.circuits h.slot ≡ heard_by w.holding.circuits h.slot
    heard_same h ended up =
        let end = ends_here h ended in
        let at_w = so_far.legs h.slot h.leg ended.within ended.at ended.calls in
        elim end.which [
          | inl here ↦
              let same : h.leg ≡ end.leg = same_leg (leg_at u.legs x) h.leg end.leg (ap (leg_at u.legs) (sym here) ∙ ended.at) end.at in
              let lost = lost_here end.leg end.e end.at end.due (up_among end.leg (ap (λ (l : Leg). l.state) (sym same) ∙ up)) in
              ap (heard_by u.holding.circuits) here ∙ heard_here s frame w kept later x end.leg in_x lost (lost_first x end.leg in_x end.at lost) ∙ sym (ap (heard_by w.holding.circuits) here)
          | inr named ↦
              let call = call_with u now_kept h.slot x h.leg end.leg ended.within ended.at named end.at in
              let back = peer_back h.leg.side h.slot x h.leg end.leg call in
              let lost = lost_here end.leg end.e end.at end.due (up_among end.leg ((call_active h.leg.side h.slot x h.leg end.leg call).0 up)) in
              heard_there s frame w kept later x end.leg in_x lost (lost_first x end.leg in_x end.at lost) h.slot h.leg back at_w
        ]

    same_record : (h : HeldLeg) → HasEnded external u v h → record_of u (end_of h) h ≡ record_of w (end_of h) h
    same_record h ended = elim (true_or_false (h.leg.state == active)) [
      | inl up ↦ record_same u w (end_of h) h next_here (heard_same h ended (eqb-true h.leg.state active up))
      | inr quiet ↦ record_of_early_same u w (end_of h) h quiet next_here
    ]

    ended_by_cause : AreEndedBy external u v end_of (records u v cause_here)
    ended_by_cause = record {
      ends = λ c inside.
          let e = ended_here.ends c inside in
          (e.0, e.1, subst (λ (cause : ℕ). record_of u cause e.0 ≡ Some c) (cause_is e.0 e.1) e.2);
      recorded = λ h c ended e. ended_here.recorded h c ended (subst (λ (cause : ℕ). record_of u cause h ≡ Some c) (sym (cause_is h ended)) e);
    }

    -- ---- the line on which its timer expires

    module _ (c : CallRecord) (one : one_at s frame u x ≡ Some c) where
      inside_here : Contains (records u v cause_here) c
      inside_here = subst (λ (told : List CallRecord). Contains told c) (sym (told_here ∙ ap (λ (o : Option CallRecord). cons_option o []) one)) (0, omega arith, refl)

      abbrev end : EndsBy external u v (λ h. cause_here) c
      end = ended_here.ends c inside_here

      abbrev h : HeldLeg
      h = end.0

      abbrev ended : HasEnded external u v h
      ended = end.1

      who : (c.caller ≡ h.slot) × (party_of h.leg.peer ≡ Some c.called)
      who = record_parties u cause_here h c end.2

      here : EndsHere h
      here = ends_by h c ended end.2 one

      at_w : leg_at w.legs h.slot ≡ Some h.leg
      at_w = so_far.legs h.slot h.leg ended.within ended.at ended.calls

      expires_leg : IsLegOf c x
      expires_leg = (told_of s frame u now_kept x in_x c one).told.of_call

      -- the timer of the other leg doesn't expire on a lower line
      not_before : (z : Slot) (q : Leg) → IsLegOf c z → RunsOut s.timers frame w.legs z q → z.line < n → ⊥
      not_before z q of_z runs less =
          let out = some_due (due_of s.timers frame q) runs.due in
          let apart : z ≡ x → ⊥ = λ same. let on : z.line ≡ n = ap (λ (y : Slot). y.line) same in omega (arith, on, less) in
          elim of_z [
            -- the caller's leg
            | inl calls ↦
                let slots : h.slot ≡ z = sym who.0 ∙ calls in
                let same : q ≡ h.leg = same_leg (leg_at w.legs z) q h.leg runs.at (ap (leg_at w.legs) (sym slots) ∙ at_w) in
                let among : is_among before_clearing q.state ≡ true = ap (λ (l : Leg). is_among before_clearing l.state) same ∙ calling_among h.leg ended.calls in
                let lost_z : IsLost s.timers frame w.legs z q = record { looked = runs.looked; at = runs.at; due = timed_lost s.timers frame q out.0 out.1 among } in
                let up : h.leg.state ≡ active = ap (λ (l : Leg). l.state) (sym same) ∙ due_state q.state q.resent q.since frame s.timers expiry.Outage lost_z.due in
                elim here.which [
                  | inl at_x ↦ apart (sym slots ∙ at_x)
                  | inr named ↦
                      let call = call_with u now_kept h.slot x h.leg here.leg ended.within ended.at named here.at in
                      let back : here.leg.peer ≡ peer.Leg z = peer_back h.leg.side h.slot x h.leg here.leg call ∙ ap (λ (y : Slot). peer.Leg y) slots in
                      let lost = lost_here here.leg here.e here.at here.due (up_among here.leg ((call_active h.leg.side h.slot x h.leg here.leg call).0 up)) in
                      let low = lost_first x here.leg in_x here.at lost z q back lost_z in
                      omega (arith, low, less)
                ]
            -- the called leg
            | inr called ↦
                let named_z : h.leg.peer ≡ peer.Leg z = party_is h.leg.peer z (who.1 ∙ ap (λ (p : Party). Some p) called) in
                elim here.which [
                  | inl at_x ↦
                      let same : h.leg ≡ here.leg = same_leg (leg_at u.legs x) h.leg here.leg (ap (leg_at u.legs) (sym at_x) ∙ ended.at) here.at in
                      let among : is_among before_clearing here.leg.state ≡ true = ap (λ (l : Leg). is_among before_clearing l.state) (sym same) ∙ calling_among h.leg ended.calls in
                      let lost = lost_here here.leg here.e here.at here.due among in
                      let named : here.leg.peer ≡ peer.Leg z = ap (λ (l : Leg). l.peer) (sym same) ∙ named_z in
                      let up : here.leg.state ≡ active = due_state here.leg.state here.leg.resent here.leg.since frame s.timers expiry.Outage lost.due in
                      let call = call_with w kept x z here.leg q in_x lost.at named runs.at in
                      let lost_z : IsLost s.timers frame w.legs z q = record {
                        looked = runs.looked;
                        at = runs.at;
                        due = timed_lost s.timers frame q out.0 out.1 (up_among q ((call_active here.leg.side x z here.leg q call).0 up));
                      } in
                      let low = lost_first x here.leg in_x here.at lost z q named lost_z in
                      omega (arith, low, less)
                  | inr named ↦
                      let e : peer.Leg z ≡ peer.Leg x = sym named_z ∙ named in
                      let same : z ≡ x = cc in
                      apart same
                ]
          ]

      expires : ExpiresOn s.timers frame w.legs c n
      expires = record {
        slot = x;
        leg = here.leg;
        of_call = expires_leg;
        due = record { looked = refl; at = due_before here.leg here.e here.at here.due; due = ap (λ (o : Option Expiry). is_some o) here.due };
        on = refl;
        first = λ z q of_z runs. elim (cases_lt z.line n) [
          | inl less ↦ absurd (not_before z q of_z runs less)
          | inr low ↦ low
        ];
      }

      ended_now : IsEndedBelow s.timers frame w.legs (suc n) c
      ended_now = record {
        line = n;
        expires = expires;
        below = omega arith;
        leg = h.leg;
        at = ap (leg_at w.legs) who.0 ∙ at_w;
        calls = ended.calls;
      }

    step : So_far (suc n) (outcome_on_line s frame n a)
    step = record {
      legs = λ z leg in_z at calls. so_far.legs z leg in_z (calls_still z leg in_z at calls) calls;
      recorded = both_of_ended external w u v end_of so_far.legs same_record is_calling_silent a.recorded (records u v cause_here) so_far.recorded ended_by_cause;
      order = subst (λ (told : List CallRecord). ComeBelow s.timers frame w.legs (suc n) (a.recorded ++ told)) (sym told_here)
          (then_below s.timers frame w.legs n a.recorded so_far.order (one_at s frame u x) expires ended_now);
    }

  all_so_far : (n : ℕ) → n ≤ external → So_far n (outcome_of_lines s frame w n)
  all_so_far zero small = first
  all_so_far (suc n) small = subst (So_far (suc n)) (sym (lines_more s frame w n)) (step n small (all_so_far n (omega (arith, small))))

-- ---- a frame

module _ (s : Setting) (w : World) (input : Input) (stands : CallsStand s w) where
  abbrev passed : World
  passed = pass w input

  abbrev afterwards : World
  afterwards = (outcome_of_frame s w input).making.world

  abbrev told : List CallRecord
  told = (outcome_of_frame s w input).recorded

  whole : So_far s w.holding.next passed (pass_kept s w stands.circuits stands.legs input) (omega arith) s.dimensions.external (outcome_of_frame s w input)
  whole = all_so_far s w.holding.next passed (pass_kept s w stands.circuits stands.legs input) (omega arith) s.dimensions.external (omega arith)

  abbrev Below : CallRecord → Type 0
  Below c = IsEndedBelow s.timers w.holding.next w.legs s.dimensions.external c

  is_end_record : (h : HeldLeg) (c : CallRecord) → HasEnded s.dimensions.external w afterwards h → record_of passed (end_of h) h ≡ Some c → Contains told c → IsEndRecord s w input h c
  is_end_record h c ended is inside =
      let cause = record_cause passed (end_of h) h c is in
      let below = All-contains Below told c whole.order.below inside in
      record { ended = ended; is = subst (λ (n : ℕ). record_of passed n h ≡ Some c) (sym cause) is; cause = cause; due = (below.line, below.expires) }

  told_ends : (c : CallRecord) → Contains told c → (h : HeldLeg) × HasEnded s.dimensions.external w afterwards h × (record_of passed (end_of h) h ≡ Some c)
  told_ends c inside =
      let e = whole.recorded.ends c inside in
      (e.0, record { within = e.1.within; at = e.1.at; calls = e.1.calls; stops = e.1.stops }, e.2)

  end_told : (h : HeldLeg) → HasEnded s.dimensions.external w afterwards h → (c : CallRecord) × (record_of passed (end_of h) h ≡ Some c) × Contains told c
  end_told h ended =
      let found = calling_record s.dimensions.external passed (end_of h) h (stands.legs.each h.slot h.leg ended.within ended.at).peer ended.calls in
      let over : HasEnded s.dimensions.external passed afterwards h = record { within = ended.within; at = ended.at; calls = ended.calls; stops = ended.stops } in
      (found.0, found.1, whole.recorded.recorded h found.0 over found.1)

  pub end_record_is : (c : CallRecord) → Contains told c → (h : HeldLeg) × IsEndRecord s w input h c
  end_record_is c inside = let e = told_ends c inside in (e.0, is_end_record e.0 c e.1 e.2 inside)

  pub frame_end_is_recorded : (h : HeldLeg) → HasEnded s.dimensions.external w afterwards h → IsInTurn s w input h
  frame_end_is_recorded h ended = let e = end_told h ended in (e.0, is_end_record h e.0 ended e.1 e.2, e.2)

  pub frame_comes_by_expiry : ComeByExpiry s w told
  frame_comes_by_expiry = whole.order.rising

  -- ---- a frame in which T309 of no leg expires

  module _ (calm : NoneIsLost s.timers w.holding.next w.legs) where
    -- a leg that calls has no timer but T309
    calls_untimed : (leg : Leg) (o : Option Expiry) → due_of s.timers w.holding.next leg ≡ o → o ≢ Some expiry.Outage → is_calling (Some leg) ≡ true → o ≡ None
    calls_untimed leg None is other calls = refl
    calls_untimed leg (Some e) is other calls =
        let wrong : false ≡ true = sym (due_silent s w.holding.next leg (Some e) is e (λ same. other (ap (λ (f : Expiry). Some f) same)) refl) ∙ calls in absurd cc

    never_out : (x : Slot) (leg : Leg) → RunsOut s.timers w.holding.next w.legs x leg → is_calling (Some leg) ≡ true → ⊥
    never_out x leg runs calls =
        let none = calls_untimed leg (due_of s.timers w.holding.next leg) refl (calm x leg runs.at) calls in
        let some = runs.due in
        let wrong : false ≡ true = sym (ap is_some none) ∙ some in
        cc

    -- a call that ends was not answered
    not_active : (h : HeldLeg) → HasEnded s.dimensions.external w afterwards h → (h.leg.state == active) ≡ false
    not_active h ended = elim (true_or_false (is_among without_timers h.leg.state)) [
      | inl among ↦ elim (none_else_changes s w input stands h.slot ended.within) [
        | inl stays ↦ let wrong : false ≡ true = sym ended.stops ∙ ap is_calling (stays ∙ ended.at) ∙ ended.calls in absurd cc
        | inr out ↦ absurd (neither_runs_out s w stands h.slot ended.within w.holding.next calm h.leg ended.at among out)
      ]
      | inr timed ↦ no_timer_but h.leg.state timed
    ]

    silence_is : (h : HeldLeg) → HasEnded s.dimensions.external w afterwards h → end_of h ≡ cause_of_silence h.leg
    silence_is h ended = ap (λ (b : Bool). if b then destination_out_of_order else cause_of_silence h.leg) (not_active h ended)

    -- the timer that ran out is the one of the called leg
    called_expires : (c : CallRecord) → Below c → (line : ℕ) → ExpiresOn s.timers w.holding.next w.legs c line
        → (y : Slot) × (leg : Leg) × (c.called ≡ party.Line y) × RunsOut s.timers w.holding.next w.legs y leg × (y.line ≡ line)
    called_expires c below line is = elim is.of_call [
      | inl calls ↦
          let same : is.leg ≡ below.leg = same_leg (leg_at w.legs is.slot) is.leg below.leg is.due.at (ap (leg_at w.legs) (sym calls) ∙ below.at) in
          absurd (never_out is.slot is.leg is.due (ap (λ (l : Leg). is_calling (Some l)) same ∙ below.calls))
      | inr called ↦ (is.slot, is.leg, called, is.due, is.on)
    ]

    is_frame_record : (h : HeldLeg) (c : CallRecord) → HasEnded s.dimensions.external w afterwards h → record_of passed (end_of h) h ≡ Some c → Contains told c → IsFrameRecord s w input h c
    is_frame_record h c ended is inside =
        let cause = record_cause passed (end_of h) h c is in
        let below = All-contains Below told c whole.order.below inside in
        let due = called_expires c below below.line below.expires in
        record {
          ended = ended;
          is = subst (λ (n : ℕ). record_of passed n h ≡ Some c) (sym cause) is;
          cause = cause ∙ silence_is h ended;
          due = (due.0, due.1, due.2, due.3);
        }

    pub frame_record_is : (c : CallRecord) → Contains told c → (h : HeldLeg) × IsFrameRecord s w input h c
    frame_record_is c inside = let e = told_ends c inside in (e.0, is_frame_record e.0 c e.1 e.2 inside)

    pub frame_ended_is_recorded : (h : HeldLeg) → HasEnded s.dimensions.external w afterwards h → IsInFrame s w input h
    frame_ended_is_recorded h ended = let e = end_told h ended in (e.0, is_frame_record h e.0 ended e.1 e.2, e.2)

    line_before : (one later : CallRecord) → Below one → Below later → IsExpiredBefore s.timers w.holding.next w.legs one later → IsLineBefore one later
    line_before one later below above before x y first second =
        let low = called_expires one below below.line below.expires in
        let high = called_expires later above above.line above.expires in
        let on_low = one_line x low.0 (sym first ∙ low.2) in
        let on_high = one_line y high.0 (sym second ∙ high.2) in
        let less = before below.line above.line below.expires above.expires in
        let at_low = low.4 in
        let at_high = high.4 in
        omega (arith, on_low, on_high, less, at_low, at_high)

    pub frame_comes_by_line : ComeByLine told
    frame_comes_by_line i j d lt within =
        line_before _ _ (whole.order.below i d (omega (arith, lt, within))) (whole.order.below j d within) (whole.order.rising i j d lt within)
