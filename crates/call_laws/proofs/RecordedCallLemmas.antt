-- A step has a record for each caller's leg that stopped calling, and no other.
use Rattle.std.proofs.Common.{◌≡◌, ℕ, zero, suc, ◌+◌, ◌*◌, ◌<◌, ◌≤◌, true, false, not, ◌⊎◌, inl, inr, List, length, Option, Some, None, refl, ◌∙◌, ap, arith, if◌then◌else◌}
use Rattle.std.specs.Prelude.{Contains, filter_map, option_and_then, option_map, ◌==◌}
use Rattle.std.specs.List.{range_with_len, cons_option}
use Rattle.std.proofs.lemmas.Grind.{common_steps}
use Rattle.circuit_model.specs.declared.channel.Slot.{Slot}
use Rattle.circuit_model.specs.Circuits.{heard_by}
use Rattle.circuit_model.specs.Extent.{IsExternal}
use Rattle.circuit_model.proofs.Age.{cons_cases, at_head, in_tail, none_in_nil}
use Rattle.circuit_model.proofs.Slots.{true_or_false}
use Rattle.control_memory.specs.Layout.{number_of, slot_numbered}
use Rattle.control_memory.proofs.Lookups.{numbered_number}
use Rattle.control_memory.proofs.Steps.{number_inside}
use Rattle.q931_codec.specs.CallStates.{active}
use Rattle.call_states.specs.declared.leg.HeldLeg.{HeldLeg}
use Rattle.call_states.specs.declared.leg.Leg.{Leg}
use Rattle.call_states.specs.declared.leg.Peer.{Peer}
use Rattle.call_states.specs.declared.leg.Peer.TheVariants as peer
use Rattle.exchange_events.specs.declared.record.CallRecord.{CallRecord}
use Rattle.exchange_events.specs.declared.record.Party.{Party}
use Rattle.call_profile.specs.CallRecords.{is_calling, is_ended, party_of, record_at, record_of, records, since_heard}
use Rattle.call_profile.specs.LegStanding.{HasPeer}
use Rattle.call_profile.specs.Legs.{Legs, leg_at}
use Rattle.call_laws.specs.Recorded.{HasEnded}
use Rattle.call_profile.specs.World.{World}
use Rattle.call_profile.proofs.CommandLemmas.{both_true, not_true}
use Rattle.call_profile.proofs.EndedCallLemmas.{in_numbered, same_or_not}

-- ---- a list that a range gives

first_or_later : (o : Option CallRecord) (rest : List CallRecord) (c : CallRecord) → Contains (cons_option o rest) c → (o ≡ Some c) ⊎ Contains rest c
first_or_later None rest c inside = inr inside
first_or_later (Some d) rest c inside = elim (cons_cases d rest c inside) [ inl same ↦ inl (ap (λ (k : CallRecord). Some k) same) | inr later ↦ inr later ]

at_first : (o : Option CallRecord) (rest : List CallRecord) (c : CallRecord) → o ≡ Some c → Contains (cons_option o rest) c
at_first None rest c e = absurd cc
at_first (Some d) rest c e = at_head d rest c cc

at_later : (o : Option CallRecord) (rest : List CallRecord) (c : CallRecord) → Contains rest c → Contains (cons_option o rest) c
at_later None rest c inside = inside
at_later (Some d) rest c inside = in_tail d rest c inside

given_by : (f : ℕ → Option CallRecord) (first count : ℕ) (c : CallRecord) → Contains (filter_map f (range_with_len first count)) c → (n : ℕ) × (first ≤ n) × (n < first + count) × (f n ≡ Some c)
given_by f first zero c inside = absurd (none_in_nil c inside)
given_by f first (suc count) c inside = elim (first_or_later (f first) (filter_map f (range_with_len (first + 1) count)) c inside) [
  | inl here ↦ (first, omega arith, omega arith, here)
  | inr later ↦
      let g = given_by f (first + 1) count c later in
      let low = g.1 in
      let high = g.2 in
      (g.0, omega (arith, low), omega (arith, high), g.3)
]

is_given : (f : ℕ → Option CallRecord) (first count n : ℕ) (c : CallRecord) → first ≤ n → n < first + count → f n ≡ Some c → Contains (filter_map f (range_with_len first count)) c
is_given f first zero n c low high e = absurd (omega (arith, low, high))
is_given f first (suc count) n c low high e = elim (same_or_not first n) [
  | inl here ↦ at_first (f first) (filter_map f (range_with_len (first + 1) count)) c (ap f here ∙ e)
  | inr apart ↦ at_later (f first) (filter_map f (range_with_len (first + 1) count)) c (is_given f (first + 1) count n c (omega (arith, low, apart)) (omega (arith, high)) e)
]

-- ---- the record of a slot

-- a call ended, and this is its record with the cause that its caller's leg gives, or with one cause
abbrev pub EndsBy : ℕ → World → World → (HeldLeg → ℕ) → CallRecord → Type 0
EndsBy external before afterwards cause c = (h : HeldLeg) × HasEnded external before afterwards h × (record_of before (cause h) h ≡ Some c)

abbrev pub EndsWith : ℕ → World → World → ℕ → CallRecord → Type 0
EndsWith external before afterwards cause c = EndsBy external before afterwards (λ h. cause) c

by_leg : (external : ℕ) (u v : World) (cause : ℕ) (x : Slot) (c : CallRecord) (o : Option Leg) → IsExternal external x → leg_at u.legs x ≡ o → is_calling o ≡ true → is_calling (leg_at v.legs x) ≡ false
    → option_and_then (record_of u cause) (option_map (λ (leg : Leg). let h : HeldLeg = record { slot = x; leg = leg } in h) o) ≡ Some c → EndsWith external u v cause c
by_leg external u v cause x c None in_x at calls stops e = absurd cc
by_leg external u v cause x c (Some leg) in_x at calls stops e = (record { slot = x; leg = leg }, record { within = in_x; at = at; calls = calls; stops = stops }, e)

ends_at : (external : ℕ) (u v : World) (cause : ℕ) (x : Slot) (c : CallRecord) → IsExternal external x → record_at u v cause x ≡ Some c → EndsWith external u v cause c
ends_at external u v cause x c in_x e = elim (true_or_false (is_ended u v x)) [
  | inl ends ↦
      let both = both_true (is_calling (leg_at u.legs x)) (not (is_calling (leg_at v.legs x))) ends in
      by_leg external u v cause x c (leg_at u.legs x) in_x refl both.0 (not_true (is_calling (leg_at v.legs x)) both.1) (rw ends at e)
  | inr goes_on ↦ let wrong : None ≡ Some c = rw goes_on at e in absurd cc
]

is_at : (external : ℕ) (u v : World) (cause : ℕ) (h : HeldLeg) (c : CallRecord) → HasEnded external u v h → record_of u cause h ≡ Some c → record_at u v cause h.slot ≡ Some c
is_at external u v cause h c ended e =
    let calls : is_calling (leg_at u.legs h.slot) ≡ true = ap is_calling ended.at ∙ ended.calls in
    rw (calls, ended.stops, ended.at) e

-- ---- the records of a step

module _ (external : ℕ) (u v : World) (cause : ℕ) (size : length u.legs.held ≡ 30 * external) where
  pub record_ends : (c : CallRecord) → Contains (records u v cause) c → EndsWith external u v cause c
  record_ends c inside =
      let g = given_by (λ n. record_at u v cause (slot_numbered n)) 0 (length u.legs.held) c inside in
      let high = g.2 in
      ends_at external u v cause (slot_numbered g.0) c (in_numbered external g.0 (omega (arith, high, size))) g.3

  pub end_recorded : (h : HeldLeg) (c : CallRecord) → HasEnded external u v h → record_of u cause h ≡ Some c → Contains (records u v cause) c
  end_recorded h c ended e =
      let inside = number_inside external h.slot ended.within in
      is_given (λ n. record_at u v cause (slot_numbered n)) 0 (length u.legs.held) (number_of h.slot) c (omega arith) (omega (arith, inside, size))
      (ap (record_at u v cause) (numbered_number h.slot ended.within.1) ∙ is_at external u v cause h c ended e)

-- ---- a leg that calls has its other party

calling_party : (external : ℕ) (legs : Legs) (x : Slot) (leg : Leg) (p : Peer) → HasPeer external legs x leg p → is_calling (Some leg) ≡ true → (party : Party) × (party_of p ≡ Some party)
calling_party external legs x leg peer.Alone has calls = absurd (grind (arith, common_steps, has, calls))
calling_party external legs x leg (peer.Leg y) has calls = (_, refl)
calling_party external legs x leg (peer.Room room) has calls = (_, refl)

some_mapped : {X Y : Type 0} (f : X → Y) (o : Option X) (x : X) → o ≡ Some x → option_map f o ≡ Some (f x)
some_mapped f o x e = ap (option_map f) e

pub calling_record : (external : ℕ) (w : World) (cause : ℕ) (h : HeldLeg) → HasPeer external w.legs h.slot h.leg h.leg.peer → is_calling (Some h.leg) ≡ true
    → (c : CallRecord) × (record_of w cause h ≡ Some c) × (c.cause ≡ cause)
calling_record external w cause h has calls =
    let party = calling_party external w.legs h.slot h.leg h.leg.peer has calls in
    (_, some_mapped _ (party_of h.leg.peer) party.0 party.1, refl)

-- ---- two worlds in which a slot hears the same

pub record_same : (u v : World) (cause : ℕ) (h : HeldLeg) → u.holding.next ≡ v.holding.next → heard_by u.holding.circuits h.slot ≡ heard_by v.holding.circuits h.slot
    → record_of u cause h ≡ record_of v cause h
record_same u v cause h next heard =
    λ i. option_map (λ (called : Party).
    let c : CallRecord = record {
      caller = h.slot;
      called = called;
      answered = h.leg.state == active;
      from = if h.leg.state == active then since_heard (next i) (heard i) else next i;
      to = next i;
      cause = cause;
    } in
    c) (party_of h.leg.peer)

-- the cause of a record
pub record_cause : (w : World) (cause : ℕ) (h : HeldLeg) (c : CallRecord) → record_of w cause h ≡ Some c → c.cause ≡ cause
record_cause w cause h c e = by_party (party_of h.leg.peer) e
  where
    by_party : (o : Option Party) → option_map (λ (called : Party).
        let told : CallRecord = record {
          caller = h.slot;
          called = called;
          answered = h.leg.state == active;
          from = if h.leg.state == active then since_heard w.holding.next (heard_by w.holding.circuits h.slot) else w.holding.next;
          to = w.holding.next;
          cause = cause;
        } in
        told) o ≡ Some c → c.cause ≡ cause
    by_party None e = absurd cc
    by_party (Some party) e = cc
