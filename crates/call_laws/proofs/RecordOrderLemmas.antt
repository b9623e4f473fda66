-- In which order the records of a RESTART come, and that any other message has one at the most.
use Rattle.std.proofs.Common.{◌≡◌, ℕ, zero, suc, ◌<◌, ◌≤◌, ◌⊎◌, inl, inr, Bool, true, false, nat_lt, List, [], ◌∷◌, ◌++◌, length, Option, Some, None, refl, sym, ◌∙◌, ap, subst, arith, append-nil, if◌then◌else◌}
use Rattle.std.specs.Prelude.{All, AllPairs, option_map, option_and_then}
use Rattle.std.specs.List.{cons_option}
use Rattle.std.proofs.lemmas.Bool.{cases_lt, eq-eqb}
use Rattle.std.proofs.lemmas.Bool.Decides.{nat_tests}
use Rattle.std.proofs.lemmas.List.Elements.{All-nil, All-cons, All-head, All-tail, All-append, All-weaker}
use Rattle.std.proofs.lemmas.List.Kept.{AllPairs-cons}
use Rattle.circuit_model.specs.declared.channel.Slot.{Slot}
use Rattle.circuit_model.specs.Extent.{IsExternal}
use Rattle.circuit_model.proofs.Slots.{true_or_false}
use Rattle.q931_codec.specs.Causes.{temporary_failure}
use Rattle.call_states.specs.declared.leg.HeldLeg.{HeldLeg}
use Rattle.call_states.specs.declared.leg.Leg.{Leg}
use Rattle.call_states.specs.declared.leg.Peer.{Peer}
use Rattle.call_states.specs.declared.leg.Peer.TheVariants as peer
use Rattle.call_states.specs.declared.leg.Side.{Side}
use Rattle.call_states.specs.declared.leg.Side.TheVariants.{Caller, Called}
use Rattle.clearing_rules.specs.declared.scope.Restart.{Restart}
use Rattle.clearing_rules.specs.Restarting.{is_restarted}
use Rattle.call_states.specs.Acts.{act_on}
use Rattle.exchange_events.specs.declared.record.CallRecord.{CallRecord}
use Rattle.exchange_events.specs.declared.record.Party.{Party}
use Rattle.exchange_events.specs.declared.record.Party.TheVariants as party
use Rattle.tone_rules.specs.declared.tones.Tones.{Tones}
use Rattle.exchange_events.specs.Sizes.{Setting}
use Rattle.call_profile.specs.Acts.{peer_of}
use Rattle.call_profile.specs.CallRecords.{is_calling, party_of, record_of}
use Rattle.call_profile.specs.Calls.{Request, For_leg, New_call, On_no_call, Restarts, Confirms, Unanswered, request_of, outcome_for, answer_to}
use Rattle.call_profile.specs.EndedCalls.{caller_in, record_calling, record_ended, record_of_act, slot_records}
use Rattle.call_profile.specs.LegStanding.{HasPeer, IsInCall, LegsStand}
use Rattle.call_profile.specs.Legs.{leg_at, held_at}
use Rattle.call_laws.specs.Recorded.{Arrive, ComeByPlace, RestartsNothing, first_restarted, restarted_place}
use Rattle.call_laws.specs.Restarted.{IsRestart}
use Rattle.call_profile.specs.Restarts.{MessageOutcome, outcome_at_slot, outcome_below, restarts_slot, restart_rule}
use Rattle.call_profile.specs.World.{World}
use Rattle.call_laws.proofs.ConfirmedLineLemmas.{confirmed_records}
use Rattle.call_profile.proofs.ClearingLemmas.{Kept, held_there}
use Rattle.call_profile.proofs.NamedLegLemmas.{received_stands}
use Rattle.call_profile.proofs.RecordOfActLemmas.{leg_records}
use Rattle.call_profile.proofs.RestartLemmas.{records_slot_told}
use Rattle.call_laws.proofs.RestartedLineLemmas.{AreRestartedBelow, restarted_below}
use Rattle.call_profile.proofs.RestartedSlotLemmas.{below_none, below_more}

-- ---- one more at the end

pub pairs_snoc : {X : Type 0} (R : X → X → Type 0) (xs : List X) (y : X) → AllPairs R xs → All (λ x. R x y) xs → AllPairs R (xs ++ y ∷ [])
pairs_snoc R [] y pairs all = λ i j d lt within. absurd (omega (arith, lt, within))
pairs_snoc R (x ∷ xs) y pairs all =
    AllPairs-cons R x (xs ++ y ∷ [])
    (All-append (R x) xs (y ∷ []) (λ k d within. pairs zero (suc k) d (omega arith) (omega (arith, within))) (All-cons (R x) y [] (All-head (λ z. R z y) x xs all) (All-nil (R x))))
    (pairs_snoc R xs y (λ i j d lt within. pairs (suc i) (suc j) d (omega (arith, lt)) (omega (arith, within))) (All-tail (λ z. R z y) x xs all))

-- ---- who is in a record

mapped : {X Y : Type 0} (f : X → Y) (o : Option X) (y : Y) → option_map f o ≡ Some y → (x : X) × (o ≡ Some x) × (f x ≡ y)
mapped f None y e = absurd (cc e)
mapped f (Some x) y e = (x, refl, cc e)

-- its caller held the slot, and was in a call with the other party
pub record_parties : (w : World) (cause : ℕ) (h : HeldLeg) (c : CallRecord) → record_of w cause h ≡ Some c → (c.caller ≡ h.slot) × (party_of h.leg.peer ≡ Some c.called)
record_parties w cause h c e =
    let m = mapped _ (party_of h.leg.peer) c e in
    (ap (λ (k : CallRecord). k.caller) (sym m.2), m.1 ∙ ap (λ (k : CallRecord). Some k.called) m.2)

pub record_of_calling : (w : World) (cause : ℕ) (h : HeldLeg) (c : CallRecord) → record_calling w cause h ≡ Some c → record_of w cause h ≡ Some c
record_of_calling w cause h c e = elim (true_or_false (is_calling (Some h.leg))) [
  | inl calls ↦ rw calls at e
  | inr silent ↦ let wrong : None ≡ Some c = rw silent at e in absurd cc
]

-- ---- the record of a restarted slot

least : (caller called n : ℕ) → n ≤ caller → n ≤ called → (caller ≡ n) ⊎ (called ≡ n) → (if nat_lt called caller then called else caller) ≡ n
least caller called n low high one = elim (cases_lt called caller) [
  | inl lt ↦ let t : nat_lt called caller ≡ true = grind (arith, nat_tests, lt) in rw t (omega (arith, low, high, one, lt))
  | inr ge ↦ let t : nat_lt called caller ≡ false = grind (arith, nat_tests, ge) in rw t (omega (arith, low, high, one, ge))
]

module _ (external : ℕ) (tones : Tones) (r : Restart) (line n : ℕ) (u : World) (stand : LegsStand external tones u) (below : line < external) (small : n < 30)
    (gone : (x : Slot) → IsExternal external x → restarts_slot r line x ≡ true → x.place < n → leg_at u.legs x ≡ None) (restarted : is_restarted r n ≡ true) where
  abbrev here : Slot
  here = record { line = line; place = n }

  restarted_here : restarted_place r line (party.Line here) ≡ n
  restarted_here = rw (eq-eqb line line refl, restarted) refl

  -- a slot that a leg holds is none of those that were restarted before
  not_before : (z : Slot) (l : Leg) → IsExternal external z → leg_at u.legs z ≡ Some l → n ≤ restarted_place r line (party.Line z)
  not_before z l in_z at = elim (true_or_false (restarts_slot r line z)) [
    | inl too ↦ rw too (elim (cases_lt z.place n) [
      | inl before ↦ let wrong : None ≡ Some l = sym (gone z in_z too before) ∙ at in absurd cc
      | inr after ↦ after
    ])
    | inr not_so ↦ rw not_so (omega (arith, small))
  ]

  -- a record of a call between this slot and another that a leg holds
  first_restarted_by_caller : (c : CallRecord) → c.caller ≡ here → n ≤ restarted_place r line c.called → first_restarted r line c ≡ n
  first_restarted_by_caller c is other =
      let place : restarted_place r line (party.Line c.caller) ≡ n = ap (λ (x : Slot). restarted_place r line (party.Line x)) is ∙ restarted_here in
      least (restarted_place r line (party.Line c.caller)) (restarted_place r line c.called) n (omega (arith, place)) other (inl place)

  first_restarted_by_called : (c : CallRecord) → c.called ≡ party.Line here → n ≤ restarted_place r line (party.Line c.caller) → first_restarted r line c ≡ n
  first_restarted_by_called c is other =
      let place : restarted_place r line c.called ≡ n = ap (restarted_place r line) is ∙ restarted_here in
      least (restarted_place r line (party.Line c.caller)) (restarted_place r line c.called) n other (omega (arith, place)) (inr place)

  module _ (leg : Leg) (at : leg_at u.legs here ≡ Some leg) (c : CallRecord) where
    abbrev held : HeldLeg
    held = record { slot = here; leg = leg }

    -- a caller's own slot
    first_restarted_caller_place : (p : Peer) → leg.peer ≡ p → HasPeer external u.legs here leg p → record_of u temporary_failure held ≡ Some c → first_restarted r line c ≡ n
    first_restarted_caller_place peer.Alone is has e =
        let who = record_parties u temporary_failure held c e in
        let wrong : None ≡ Some c.called = sym (ap party_of is) ∙ who.1 in
        absurd cc
    first_restarted_caller_place (peer.Leg y) is has e =
        let who = record_parties u temporary_failure held c e in
        let both : Some (party.Line y) ≡ Some c.called = sym (ap party_of is) ∙ who.1 in
        let called : party.Line y ≡ c.called = cc in
        first_restarted_by_caller c who.0 (subst (λ (p : Party). n ≤ restarted_place r line p) called (not_before y has.1.0 has.0 has.1.1))
    first_restarted_caller_place (peer.Room room) is has e =
        let who = record_parties u temporary_failure held c e in
        let both : Some (party.Room room) ≡ Some c.called = sym (ap party_of is) ∙ who.1 in
        let called : party.Room room ≡ c.called = cc in
        first_restarted_by_caller c who.0 (subst (λ (p : Party). n ≤ restarted_place r line p) called (omega (arith, small)))

    -- the slot of a called leg
    first_restarted_called_place : (p : Peer) → leg.peer ≡ p → HasPeer external u.legs here leg p → leg.side ≡ Called
        → option_and_then (record_calling u temporary_failure) (peer_of u.legs p) ≡ Some c → first_restarted r line c ≡ n
    first_restarted_called_place peer.Alone is has side e = absurd (cc e)
    first_restarted_called_place (peer.Leg y) is has side e =
        let other = has.1.0 in
        let caller : HeldLeg = record { slot = y; leg = other } in
        let record_is = record_of_calling u temporary_failure caller c (rw (held_there u.legs y other has.1.1) at e) in
        let who = record_parties u temporary_failure caller c record_is in
        let call : IsInCall Called here leg y other = subst (λ (s : Side). IsInCall s here leg y other) side has.1.2 in
        let both : Some (party.Line here) ≡ Some c.called = sym (ap party_of call.there) ∙ who.1 in
        let called : c.called ≡ party.Line here = cc in
        first_restarted_by_called c called (subst (λ (x : Slot). n ≤ restarted_place r line (party.Line x)) (sym who.0) (not_before y other has.0 has.1.1))
    first_restarted_called_place (peer.Room room) is has side e = absurd (cc e)

    first_restarted_ended_by : (side : Side) → leg.side ≡ side → option_and_then (record_calling u temporary_failure) (caller_in side held (peer_of u.legs leg.peer)) ≡ Some c → first_restarted r line c ≡ n
    first_restarted_ended_by Caller is e = first_restarted_caller_place leg.peer refl (stand.each here leg (below, small) at).peer (record_of_calling u temporary_failure held c e)
    first_restarted_ended_by Called is e = first_restarted_called_place leg.peer refl (stand.each here leg (below, small) at).peer is e

    pub first_restarted_ended_place : record_ended u held temporary_failure ≡ Some c → first_restarted r line c ≡ n
    first_restarted_ended_place e = first_restarted_ended_by leg.side refl e

-- ---- one place further on

-- the records so far come by place, and all of them are of places below n
pub record ComeBelow (r : Restart) (line n : ℕ) (told : List CallRecord) : Type 0 where
  pub rising : ComeByPlace r line told
  pub below : All (λ c. first_restarted r line c < n) told

pub none_below : (r : Restart) (line : ℕ) → ComeBelow r line 0 []
none_below r line = record {
  rising = λ i j d lt within. absurd (omega (arith, lt, within));
  below = All-nil (λ c. first_restarted r line c < 0);
}

abbrev IsBelow : Restart → ℕ → ℕ → CallRecord → Type 0
IsBelow r line n c = first_restarted r line c < n

module _ (r : Restart) (line n : ℕ) (told : List CallRecord) (so_far : ComeBelow r line n told) where
  new_below : (o : Option CallRecord) → ((c : CallRecord) → o ≡ Some c → first_restarted r line c ≡ n) → All (IsBelow r line (suc n)) (cons_option o [])
  new_below None is = All-nil (IsBelow r line (suc n))
  new_below (Some c) is = let at = is c refl in All-cons (IsBelow r line (suc n)) c [] (omega (arith, at)) (All-nil (IsBelow r line (suc n)))

  still_rising : (o : Option CallRecord) → ((c : CallRecord) → o ≡ Some c → first_restarted r line c ≡ n) → ComeByPlace r line (told ++ cons_option o [])
  still_rising None is = subst (ComeByPlace r line) (sym (append-nil told)) so_far.rising
  still_rising (Some c) is =
      let at = is c refl in
      pairs_snoc (λ one later. first_restarted r line one < first_restarted r line later) told c so_far.rising
      (All-weaker (IsBelow r line n) (λ d. first_restarted r line d < first_restarted r line c) (λ d lt. omega (arith, lt, at)) told so_far.below)

  pub below_then : (one : Option CallRecord) → ((c : CallRecord) → one ≡ Some c → first_restarted r line c ≡ n) → ComeBelow r line (suc n) (told ++ cons_option one [])
  below_then one place = record {
    rising = still_rising one place;
    below = All-append (IsBelow r line (suc n)) told (cons_option one []) (All-weaker (IsBelow r line n) (IsBelow r line (suc n)) (λ c lt. omega (arith, lt)) told so_far.below) (new_below one place);
  }

as_list : (b : Bool) (one : Option CallRecord) → (if b then cons_option one [] else []) ≡ cons_option (if b then one else None) []
as_list true one = refl
as_list false one = refl

module _ (s : Setting) (r : Restart) (line : ℕ) (w : World) (below : line < s.dimensions.external) (kept : Kept s.dimensions s.tones w) where
  module _ (n : ℕ) (small : n < 30) where
    abbrev so_far : MessageOutcome
    so_far = outcome_below s.dimensions (restart_rule s.tones r) line w n

    abbrev u : World
    u = so_far.making.world

    abbrev x : Slot
    x = record { line = line; place = n }

    -- what is recorded at the place
    abbrev one_at : Option CallRecord
    one_at = if is_restarted r n then option_and_then (λ h. record_ended u h temporary_failure) (held_at u.legs x) else None

    one_recorded : slot_records r u x ≡ cons_option one_at []
    one_recorded = as_list (is_restarted r n) (option_and_then (λ h. record_ended u h temporary_failure) (held_at u.legs x))

    done : AreRestartedBelow s r line w n u
    done = restarted_below s r line w below kept n (omega (arith, small))

    first_restarted_of_leg : is_restarted r n ≡ true → (o : Option Leg) → leg_at u.legs x ≡ o → (c : CallRecord)
        → option_and_then (λ h. record_ended u h temporary_failure) (option_map (λ (leg : Leg). let h : HeldLeg = record { slot = x; leg = leg } in h) o) ≡ Some c → first_restarted r line c ≡ n
    first_restarted_of_leg restarted None at c e = absurd (cc e)
    first_restarted_of_leg restarted (Some leg) at c e = first_restarted_ended_place s.dimensions.external s.tones r line n u done.kept.1 below small done.gone restarted leg at c e

    first_restarted_place_of : (c : CallRecord) → one_at ≡ Some c → first_restarted r line c ≡ n
    first_restarted_place_of c e = elim (true_or_false (is_restarted r n)) [
      | inl restarted ↦ first_restarted_of_leg restarted (leg_at u.legs x) refl c (rw restarted at e)
      | inr not_so ↦ let wrong : None ≡ Some c = rw not_so at e in absurd cc
    ]

    pub one_further : ComeBelow r line n so_far.recorded → ComeBelow r line (suc n) (outcome_at_slot s.dimensions (restart_rule s.tones r) x so_far).recorded
    one_further come =
        subst (λ (told : List CallRecord). ComeBelow r line (suc n) (so_far.recorded ++ told))
        (sym (records_slot_told s.dimensions s.tones r so_far.making x done.kept (below, small) ∙ one_recorded))
        (below_then r line n so_far.recorded come one_at first_restarted_place_of)

  come_below : (n : ℕ) → n ≤ 30 → ComeBelow r line n (outcome_below s.dimensions (restart_rule s.tones r) line w n).recorded
  come_below zero small = subst (λ (a : MessageOutcome). ComeBelow r line 0 a.recorded) (sym (below_none s.dimensions (restart_rule s.tones r) line w)) (none_below r line)
  come_below (suc n) small =
      subst (λ (a : MessageOutcome). ComeBelow r line (suc n) a.recorded) (sym (below_more s.dimensions (restart_rule s.tones r) line w n))
      (one_further n (omega (arith, small)) (come_below n (omega (arith, small))))

-- ---- the records of a message

-- the records of a RESTART come by place
pub restart_comes_by_place : (s : Setting) (w : World) (line : ℕ) (octets : List ℕ) (r : Restart) → IsRestart s w line octets r → ComeByPlace r line (answer_to s w line octets).records
restart_comes_by_place s w line octets r is =
    subst (λ (q : Request). ComeByPlace r line (outcome_for s w line q).recorded) (sym is.restarts)
    (come_below s r line w is.line_exists (is.stands.circuits, is.stands.legs) 30 (omega arith)).rising

-- any other message ends one call at the most
few : (o : Option CallRecord) → length (cons_option o []) ≤ 1
few None = omega arith
few (Some c) = omega arith

length-outcome_for-le : (s : Setting) (w : World) (line : ℕ) (octets : List ℕ) → Arrive s w line octets → (q : Request) → request_of w.legs line octets ≡ q → ((r : Restart) → q ≡ Restarts r → ⊥)
    → length (outcome_for s w line q).recorded ≤ 1
length-outcome_for-le s w line octets may (For_leg h m) is other =
    let named = received_stands w.legs line octets h m is in
    let within : IsExternal s.dimensions.external h.slot = (subst (λ n. n < s.dimensions.external) (sym named.among.0) may.fits.0, named.among.1) in
    subst (λ (told : List CallRecord). length told ≤ 1) (sym (leg_records s w h m may.planned may.stands within named.at)) (few (record_of_act w h (act_on h.leg.state m)))
length-outcome_for-le s w line octets may (New_call m) is other = omega arith
length-outcome_for-le s w line octets may (On_no_call m) is other = omega arith
length-outcome_for-le s w line octets may (Restarts r) is other = absurd (other r refl)
length-outcome_for-le s w line octets may (Confirms r) is other =
    subst (λ (told : List CallRecord). length told ≤ 1) (sym (confirmed_records s.dimensions s.tones r line w)) (omega arith)
length-outcome_for-le s w line octets may Unanswered is other = omega arith

pub length-answer_to_others-le : (s : Setting) (w : World) (line : ℕ) (octets : List ℕ) → Arrive s w line octets → RestartsNothing w line octets → length (answer_to s w line octets).records ≤ 1
length-answer_to_others-le s w line octets may other = length-outcome_for-le s w line octets may (request_of w.legs line octets) refl other
