-- A leg whose user is sent something again, or is asked to release its call, keeps the legs consistent.
use Rattle.std.proofs.Common.{◌≡◌, ℕ, inl, inr, length, Option, Some, None, refl, sym, ◌∙◌, ap, subst, arith, length-set, Bool}
use Rattle.std.proofs.lemmas.Grind.{common_steps}
use Rattle.circuit_model.specs.declared.channel.Slot.{Slot}
use Rattle.circuit_model.specs.declared.circuit.Circuit.{Circuit}
use Rattle.circuit_model.specs.declared.circuit.Circuit.TheVariants.{Pair, Member, Tone}
use Rattle.circuit_model.specs.Circuits.{heard_by}
use Rattle.circuit_model.specs.Extent.{IsExternal}
use Rattle.control_memory.specs.Layout.{number_of}
use Rattle.q931_codec.specs.CallStates.{disconnect_indication}
use Rattle.call_states.specs.declared.leg.Leg.{Leg}
use Rattle.call_states.specs.declared.leg.Peer.{Peer}
use Rattle.call_states.specs.declared.leg.Peer.TheVariants as peer
use Rattle.call_states.specs.declared.leg.Side.{Side}
use Rattle.call_states.specs.declared.leg.Side.TheVariants.{Caller, Called}
use Rattle.tone_rules.specs.declared.tones.Tones.{Tones}
use Rattle.call_profile.specs.Acts.{in_release_request, tone_of}
use Rattle.call_profile.specs.LegStanding.{LegStands, LegsStand, HasPeer, MayHear, IsInCall}
use Rattle.call_profile.specs.Legs.{waiting_from, leg_at, with_entry}
use Rattle.call_profile.specs.World.{World}
use Rattle.call_profile.proofs.BesideLemmas.{look, leg_at-with_entry_here, leg_at-with_entry_else, same_or_apart, named_back, Beside, each_stands, SameReferences, still_one}
use Rattle.call_profile.proofs.HearingLemmas.{IsStrange}

-- ---- a leg that waits anew, in the same state

-- the leg waits since this frame, with these flags
abbrev pub anew_from : ℕ → Bool → Bool → Leg → Leg
anew_from next again asked leg = record leg { since = next; resent = again; enquired = asked }

may_hear_anew : (tones : Tones) (next : ℕ) (again asked : Bool) (leg : Leg) (o : Option Circuit) → MayHear tones leg o → MayHear tones (anew_from next again asked leg) o
may_hear_anew tones next again asked leg None may = may
may_hear_anew tones next again asked leg (Some (Tone kind to since)) may = may
may_hear_anew tones next again asked leg (Some (Pair from to since)) may = may
may_hear_anew tones next again asked leg (Some (Member room at since)) may = may

-- either leg of a call may wait anew
this_anew : (next : ℕ) (again asked : Bool) (side : Side) (x y : Slot) (leg other : Leg) → IsInCall side x leg y other → IsInCall side x (anew_from next again asked leg) y other
this_anew next again asked Caller x y leg other one = record { calls = one.calls; is_called = one.is_called; there = one.there; back = one.back; matched = one.matched }
this_anew next again asked Called x y leg other one = record { calls = one.calls; is_called = one.is_called; there = one.there; back = one.back; matched = one.matched }

other_anew : (next : ℕ) (again asked : Bool) (side : Side) (x y : Slot) (leg other : Leg) → IsInCall side x leg y other → IsInCall side x leg y (anew_from next again asked other)
other_anew next again asked Caller x y leg other one = record { calls = one.calls; is_called = one.is_called; there = one.there; back = one.back; matched = one.matched }
other_anew next again asked Called x y leg other one = record { calls = one.calls; is_called = one.is_called; there = one.there; back = one.back; matched = one.matched }

module _ (external : ℕ) (tones : Tones) (w v : World) (x : Slot) (leg : Leg) (next : ℕ) (again asked : Bool) (stand : LegsStand external tones w) (within : IsExternal external x) (at : leg_at w.legs x ≡ Some leg)
    (legs : v.legs.held ≡ (with_entry w.legs x (Some (anew_from next again asked leg))).held) (holding : v.holding ≡ w.holding) where
  abbrev anew : Leg
  anew = anew_from next again asked leg

  leg_at_here : leg_at v.legs x ≡ Some anew
  leg_at_here = ap (look x) legs ∙ leg_at-with_entry_here external w.legs x (Some anew) stand.count within

  leg_at_else_where : (z : Slot) → IsExternal external z → (z ≡ x → ⊥) → leg_at v.legs z ≡ leg_at w.legs z
  leg_at_else_where z in_z apart = ap (look z) legs ∙ leg_at-with_entry_else external w.legs x z (Some anew) within in_z apart

  -- the peer of a leg is there still, and may be the one that waits anew
  peer_anew : (z : Slot) (l : Leg) (p : Peer) → HasPeer external w.legs z l p → HasPeer external v.legs z l p
  peer_anew z l peer.Alone has = has
  peer_anew z l (peer.Leg y) has = elim (same_or_apart y x) [
    | inl is_x ↦
        let same : Some has.1.0 ≡ Some leg = sym has.1.1 ∙ ap (leg_at w.legs) is_x ∙ at in
        let other : has.1.0 ≡ leg = cc in
        (has.0, (anew, ap (leg_at v.legs) is_x ∙ leg_at_here, other_anew next again asked l.side z y l leg (subst (λ (k : Leg). IsInCall l.side z l y k) other has.1.2)))
    | inr apart ↦ (has.0, (has.1.0, leg_at_else_where y has.0 apart ∙ has.1.1, has.1.2))
  ]
  peer_anew z l (peer.Room room) has = has

  peer_of_anew : (p : Peer) → HasPeer external v.legs x leg p → HasPeer external v.legs x anew p
  peer_of_anew peer.Alone has = has
  peer_of_anew (peer.Leg y) has = (has.0, (has.1.0, has.1.1, this_anew next again asked leg.side x y leg has.1.0 has.1.2))
  peer_of_anew (peer.Room room) has = has

  hears_as_before : (z : Slot) (l : Leg) → MayHear tones l (heard_by w.holding.circuits z) → MayHear tones l (heard_by v.holding.circuits z)
  hears_as_before z l may = subst (λ h. MayHear tones l (heard_by h.circuits z)) (sym holding) may

  anew_stands : LegStands external tones v x anew
  anew_stands =
      let old = stand.each x leg within at in
      record {
        state = old.state;
        reference = old.reference;
        cause = old.cause;
        peer = peer_of_anew leg.peer (peer_anew x leg leg.peer old.peer);
        hears = hears_as_before x anew (may_hear_anew tones next again asked leg (heard_by w.holding.circuits x) old.hears);
      }

  else_stands : (z : Slot) (l : Leg) → IsExternal external z → leg_at w.legs z ≡ Some l → LegStands external tones v z l
  else_stands z l in_z at_z =
      let old = stand.each z l in_z at_z in
      record {
        state = old.state;
        reference = old.reference;
        cause = old.cause;
        peer = peer_anew z l l.peer old.peer;
        hears = hears_as_before z l old.hears;
      }

  stands_anew : (z : Slot) (l : Leg) → IsExternal external z → leg_at v.legs z ≡ Some l → LegStands external tones v z l
  stands_anew z l in_z at_z = elim (same_or_apart z x) [
    | inl is_x ↦
        let e : Some anew ≡ Some l = sym leg_at_here ∙ sym (ap (leg_at v.legs) is_x) ∙ at_z in
        let same : anew ≡ l = cc in
        subst (λ (s : Slot). LegStands external tones v s l) (sym is_x) (subst (LegStands external tones v x) same anew_stands)
    | inr apart ↦ else_stands z l in_z (sym (leg_at_else_where z in_z apart) ∙ at_z)
  ]

  references_anew : SameReferences external w v
  references_anew z b in_z at_z = elim (same_or_apart z x) [
    | inl is_x ↦
        let e : Some anew ≡ Some b = sym leg_at_here ∙ sym (ap (leg_at v.legs) is_x) ∙ at_z in
        let same : anew ≡ b = cc in
        (leg, ap (leg_at w.legs) is_x ∙ at, ap (λ (l : Leg). l.side) same, ap (λ (l : Leg). l.reference) same)
    | inr apart ↦ (b, sym (leg_at_else_where z in_z apart) ∙ at_z, refl, refl)
  ]

  pub waits_enquired : LegsStand external tones v
  waits_enquired = record {
    count = ap length legs ∙ length-set w.legs.held (number_of x) (Some anew) ∙ stand.count;
    each = stands_anew;
    one = still_one external tones w v references_anew stand;
  }

-- with the flag of an enquiry as it was
pub waits_anew : (external : ℕ) (tones : Tones) (w v : World) (x : Slot) (leg : Leg) (next : ℕ) (again : Bool) → LegsStand external tones w → IsExternal external x → leg_at w.legs x ≡ Some leg
    → v.legs.held ≡ (with_entry w.legs x (Some (anew_from next again leg.enquired leg))).held → v.holding ≡ w.holding → LegsStand external tones v
waits_anew external tones w v x leg next again = waits_enquired external tones w v x leg next again leg.enquired

-- ---- a leg in disconnect indication, whose user is asked to release

may_hear_still : (tones : Tones) (next : ℕ) (leg : Leg) (o : Option Circuit) → leg.state ≡ disconnect_indication → MayHear tones leg o → MayHear tones (waiting_from next (in_release_request leg)) o
may_hear_still tones next leg None is may = (λ e. absurd cc, refl)
may_hear_still tones next leg (Some (Tone kind to since)) is may = elim may [
  | inl sounds ↦ inr (refl, subst (λ (state : ℕ). tone_of tones (record leg { state = state }) ≡ Some kind) is sounds)
  | inr left ↦ let released = left.0 in absurd (grind (arith, common_steps, is, released))
]
may_hear_still tones next leg (Some (Pair from to since)) is may = let talks = may.0 in absurd (grind (arith, common_steps, is, talks))
may_hear_still tones next leg (Some (Member room at since)) is may = let talks = may.0 in absurd (grind (arith, common_steps, is, talks))

module _ (external : ℕ) (tones : Tones) (w v : World) (x : Slot) (leg : Leg) (next : ℕ) (stand : LegsStand external tones w) (within : IsExternal external x) (at : leg_at w.legs x ≡ Some leg)
    (is : leg.state ≡ disconnect_indication) (nobody : leg.peer ≡ peer.Alone)
    (legs : v.legs.held ≡ (with_entry w.legs x (Some (waiting_from next (in_release_request leg)))).held) (holding : v.holding ≡ w.holding) where
  abbrev asked : Leg
  asked = waiting_from next (in_release_request leg)

  leg_at_asked_here : leg_at v.legs x ≡ Some asked
  leg_at_asked_here = ap (look x) legs ∙ leg_at-with_entry_here external w.legs x (Some asked) stand.count within

  legs_else : (z : Slot) → IsExternal external z → (z ≡ x → ⊥) → leg_at v.legs z ≡ leg_at w.legs z
  legs_else z in_z apart = ap (look z) legs ∙ leg_at-with_entry_else external w.legs x z (Some asked) within in_z apart

  -- nobody names a leg that is alone
  strange_x : (z : Slot) (l : Leg) → IsExternal external z → leg_at w.legs z ≡ Some l → IsStrange l x
  strange_x z l in_z at_z p names same =
      let back = named_back external w.legs z p l leg names (stand.each z l in_z at_z).peer (ap (leg_at w.legs) same ∙ at) in
      let wrong : peer.Alone ≡ peer.Leg z = sym nobody ∙ back in
      cc

  beside_x : Beside external w v x x
  beside_x = record {
    legs = λ z in_z apart same. legs_else z in_z apart;
    heard = λ z l in_z at_z apart same. ap (λ h. heard_by h.circuits z) holding;
    strange = λ z l p in_z at_z apart same is. (strange_x z l in_z at_z p is, strange_x z l in_z at_z p is);
  }

  asked_stands : LegStands external tones v x asked
  asked_stands =
      let old = stand.each x leg within at in
      record {
        state = refl;
        reference = old.reference;
        cause = old.cause;
        peer = refl;
        hears = subst (λ h. MayHear tones asked (heard_by h.circuits x)) (sym holding) (may_hear_still tones next leg (heard_by w.holding.circuits x) is old.hears);
      }

  stands_x : (l : Leg) → leg_at v.legs x ≡ Some l → LegStands external tones v x l
  stands_x l at_x = let e : Some asked ≡ Some l = sym leg_at_asked_here ∙ at_x in let same : asked ≡ l = cc in subst (LegStands external tones v x) same asked_stands

  references_asked : SameReferences external w v
  references_asked z b in_z at_z = elim (same_or_apart z x) [
    | inl is_x ↦
        let e : Some asked ≡ Some b = sym leg_at_asked_here ∙ sym (ap (leg_at v.legs) is_x) ∙ at_z in
        let same : asked ≡ b = cc in
        (leg, ap (leg_at w.legs) is_x ∙ at, ap (λ (l : Leg). l.side) same, ap (λ (l : Leg). l.reference) same)
    | inr apart ↦ (b, sym (legs_else z in_z apart) ∙ at_z, refl, refl)
  ]

  pub release_asked : LegsStand external tones v
  release_asked = record {
    count = ap length legs ∙ length-set w.legs.held (number_of x) (Some asked) ∙ stand.count;
    each = each_stands external tones w v x x beside_x stand stands_x stands_x;
    one = still_one external tones w v references_asked stand;
  }
