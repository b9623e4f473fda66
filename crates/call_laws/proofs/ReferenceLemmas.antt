-- The reference of a new called leg is the lowest that no called leg of its line has.
use Rattle.std.proofs.Common.{◌≡◌, ℕ, zero, suc, ◌+◌, ◌-◌, ◌<◌, ◌≤◌, inl, inr, true, false, ◌==◌, Option, Some, None, refl, subst, arith}
use Rattle.std.specs.Prelude.{is_none}
use Rattle.std.proofs.lemmas.Bool.{eqb-true}
use Rattle.circuit_model.specs.declared.channel.Slot.{Slot}
use Rattle.circuit_model.proofs.Slots.{true_or_false}
use Rattle.call_states.specs.declared.leg.HeldLeg.{HeldLeg}
use Rattle.call_states.specs.declared.leg.Side.{Side}
use Rattle.call_states.specs.declared.leg.Side.TheVariants.{Caller, Called}
use Rattle.call_profile.specs.Legs.{Legs, leg_at, leg_named, is_unused, lowest_free_reference, same_side}
use Rattle.call_laws.specs.References.{IsOnLine, HasReference}
use Rattle.call_profile.proofs.CommandLemmas.{both_true}
use Rattle.call_profile.proofs.LineLemmas.{unused_from, lowest_free_reference_unused_all, unused_end, unused_here, unused_other}
use Rattle.call_profile.proofs.NamedLegLemmas.{leg_named_stands}
use Rattle.call_profile.proofs.VacantSlotLemmas.{none_named, new_unused}

-- ---- no leg has the new one

none_is : (o : Option HeldLeg) → is_none o ≡ true → o ≡ None
none_is None e = refl
none_is (Some h) e = absurd cc

pub new_is_free : (legs : Legs) (line : ℕ) (x : Slot) → IsOnLine line x → leg_at legs x ≡ None → HasReference legs line (lowest_free_reference legs line) → ⊥
new_is_free legs line x on none has =
    let free = none_is (leg_named legs line true (lowest_free_reference legs line)) (new_unused legs line x on none).0 in
    none_named legs line true (lowest_free_reference legs line) free has.slot has.leg has.on_line has.at has.is_called has.same

-- ---- each lower one is some leg's

some_is : (o : Option HeldLeg) → is_none o ≡ false → (h : HeldLeg) × (o ≡ Some h)
some_is None e = absurd cc
some_is (Some h) e = (h, refl)

called_by : (side : Side) → same_side Called side ≡ true → side ≡ Called
called_by Caller e = absurd cc
called_by Called e = refl

used_has : (legs : Legs) (line reference : ℕ) → is_unused legs line reference ≡ false → HasReference legs line reference
used_has legs line reference used =
    let found = some_is (leg_named legs line true reference) used in
    let h = found.0 in
    let stands = leg_named_stands legs line true reference h found.1 in
    let both = both_true (same_side Called h.leg.side) (h.leg.reference == reference) stands.passes in
    record { slot = h.slot; leg = h.leg; on_line = stands.among; at = stands.at; is_called = called_by h.leg.side both.0; same = eqb-true h.leg.reference reference both.1 }

-- the first unused one from a reference on is at the most the thirty-first
at_most : (legs : Legs) (line count reference : ℕ) → reference + count ≡ 31 → reference + unused_from legs line reference ≤ 31
at_most legs line zero reference e =
    let here : reference ≡ 31 = omega (arith, e) in
    let end = unused_end legs line in
    rw (here, end) (omega arith)
at_most legs line (suc count) reference e = elim (true_or_false (is_unused legs line reference)) [
  | inl free ↦ let none = unused_here legs line reference (omega (arith, e)) free in omega (arith, none, e)
  | inr used ↦
      let more = unused_other legs line reference (omega (arith, e)) used in
      let later = at_most legs line count (reference + 1) (omega (arith, e)) in
      omega (arith, more, later)
]

-- and what comes before it is used
before_it : (legs : Legs) (line gap from reference : ℕ) → from + gap ≡ reference → reference < 31 → reference < from + unused_from legs line from → is_unused legs line reference ≡ false
before_it legs line zero from reference e small less = elim (true_or_false (is_unused legs line from)) [
  | inl free ↦ let none = unused_here legs line from (omega (arith, e, small)) free in absurd (omega (arith, none, less, e))
  | inr used ↦ let here : from ≡ reference = omega (arith, e) in subst (λ n. is_unused legs line n ≡ false) here used
]
before_it legs line (suc gap) from reference e small less = elim (true_or_false (is_unused legs line from)) [
  | inl free ↦ let none = unused_here legs line from (omega (arith, e, small)) free in absurd (omega (arith, none, less, e))
  | inr used ↦
      let more = unused_other legs line from (omega (arith, e, small)) used in
      before_it legs line gap (from + 1) reference (omega (arith, e)) small (omega (arith, more, less))
]

pub lower_is_used : (legs : Legs) (line reference : ℕ) → 1 ≤ reference → reference < lowest_free_reference legs line → HasReference legs line reference
lower_is_used legs line reference low high =
    let same = lowest_free_reference_unused_all legs line in
    let most = at_most legs line 30 1 refl in
    let gap = reference - 1 in
    used_has legs line reference (before_it legs line gap 1 reference (omega (arith, low)) (omega (arith, same, most, high)) (omega (arith, same, high)))

pub new_is_positive : (legs : Legs) (line : ℕ) → 1 ≤ lowest_free_reference legs line
new_is_positive legs line = let same = lowest_free_reference_unused_all legs line in omega (arith, same)
