-- The keys of a line's legs find the leg that a message is for.
use Rattle.std.proofs.Common.{◌≡◌, ◌≢◌, ℕ, zero, suc, ◌+◌, ◌*◌, ◌^◌, ◌<◌, ◌≤◌, Bool, true, false, List, length, get_or, Option, Some, None, refl, sym, ap, subst, ◌∙◌, inl, inr, eq-eqb, arith}
use Rattle.std.specs.Prelude.{All, IfSome, ◌==◌, ◌&&◌, slice_index}
use Rattle.std.proofs.lemmas.Bool.{cases_lt, ne_eqb}
use Rattle.std.proofs.lemmas.List.{get_or_past}
use Rattle.call_states.specs.declared.leg.Leg.{Leg}
use Rattle.call_states.specs.declared.leg.Side.{Side}
use Rattle.call_states.specs.declared.leg.Side.TheVariants.{Caller, Called}
use Rattle.call_states.specs.Status.{FitsMessages}
use Rattle.call_profile.specs.Legs.{Legs, leg_at, held_at, leg_named, same_side, side_named}
use Rattle.call_profile.proofs.LineLemmas.{found_from, leg_named_found_all, found_end, found_none, found_other, found_here}
use Rattle.leg_table.specs.LegKeys.{key_named, key_by, key_of, no_key, leg_on, IsRowOf}

pub FitsMessages_at : (legs : List (Option Leg)) (n : ℕ) → All (λ leg. IfSome leg FitsMessages) legs → IfSome (get_or legs n None) FitsMessages
FitsMessages_at legs n told = elim (cases_lt n (length legs)) [
  | inl inside ↦ told n None inside
  | inr past ↦ subst (λ (o : Option Leg). IfSome o FitsMessages) (sym (get_or_past legs n None past)) tt
]

-- ---- a key and the message that it is of

key_side : (flag : Bool) (reference : ℕ) (side : Side) (r : ℕ) → reference < 2 ^ 16 → r < 2 ^ 16 → key_by side r ≡ key_named flag reference
    → (same_side (side_named flag) side && (r == reference)) ≡ true
key_side true reference Caller r small few e = absurd (omega (arith, e, few))
key_side true reference Called r small few e = eq-eqb r reference (omega (arith, e))
key_side false reference Caller r small few e = eq-eqb r reference (omega (arith, e))
key_side false reference Called r small few e = absurd (omega (arith, e, small))

other_side : (flag : Bool) (reference : ℕ) (side : Side) (r : ℕ) → key_by side r ≢ key_named flag reference → (same_side (side_named flag) side && (r == reference)) ≡ false
other_side true reference Caller r apart = refl
other_side true reference Called r apart = ne_eqb r reference (λ same. apart (ap (λ n. 2 ^ 16 + n) same))
other_side false reference Caller r apart = ne_eqb r reference apart
other_side false reference Called r apart = refl

-- ---- a look along the row of a line

module _ (legs : Legs) (line : ℕ) (row : List ℕ) (of : IsRowOf legs.held line row) (told : All (λ leg. IfSome leg FitsMessages) legs.held) (flag : Bool) (reference : ℕ) (small : reference < 2 ^ 16) where
  found_from_passed : (place : ℕ) → place < 30 → (o : Option Leg) → leg_at legs (record { line = line; place = place }) ≡ o → key_of o ≢ key_named flag reference
      → found_from legs line flag reference place ≡ found_from legs line flag reference (place + 1)
  found_from_passed place within None at apart = found_none legs line flag reference place within at
  found_from_passed place within (Some leg) at apart = found_other legs line flag reference place within leg at (other_side flag reference leg.side leg.reference apart)

  found_from_held : (place : ℕ) → place < 30 → (o : Option Leg) → leg_at legs (record { line = line; place = place }) ≡ o → IfSome o FitsMessages → key_of o ≡ key_named flag reference
      → found_from legs line flag reference place ≡ held_at legs (record { line = line; place = place })
  found_from_held place within None at tell same = absurd (no_message flag same)
    where
      no_message : (f : Bool) → no_key ≡ key_named f reference → ⊥
      no_message true e = omega (arith, e, small)
      no_message false e = omega (arith, e, small)
  found_from_held place within (Some leg) at tell same =
      found_here legs line flag reference place within leg at (key_side flag reference leg.side leg.reference small (let few = tell.reference in omega (arith, few)) same)
      ∙ rw at refl

  -- no place below this one has the key
  abbrev LacksBelow : ℕ → Type 0
  LacksBelow n = (place : ℕ) → place < n → slice_index row place ≢ key_named flag reference

  found_from_walk : (n : ℕ) → n ≤ 30 → LacksBelow n → found_from legs line flag reference 0 ≡ found_from legs line flag reference n
  found_from_walk zero within none = refl
  found_from_walk (suc n) within none =
      let next : n + 1 ≡ suc n = omega arith in
      found_from_walk n (omega (arith, within)) (λ place below. none place (omega (arith, below)))
      ∙ found_from_passed n (omega (arith, within)) (leg_on legs.held line n) refl (λ same. none n (omega arith) (of.each n (omega (arith, within)) ∙ same))
      ∙ ap (found_from legs line flag reference) next

  pub named_nowhere : LacksBelow 30 → leg_named legs line flag reference ≡ None
  named_nowhere none = leg_named_found_all legs line flag reference ∙ found_from_walk 30 (omega arith) none ∙ found_end legs line flag reference

  pub named_first : (place : ℕ) → place < 32 → slice_index row place ≡ key_named flag reference → LacksBelow place
      → leg_named legs line flag reference ≡ held_at legs (record { line = line; place = place })
  named_first place near same none = elim (cases_lt place 30) [
    | inl within ↦
        leg_named_found_all legs line flag reference ∙ found_from_walk place (omega (arith, within)) none
        ∙ found_from_held place within (leg_on legs.held line place) refl (FitsMessages_at legs.held (30 * line + place) told) (sym (of.each place within) ∙ same)
    | inr far ↦ absurd (no_message flag (sym (of.behind place far near) ∙ same))
  ]
    where
      no_message : (f : Bool) → no_key ≡ key_named f reference → ⊥
      no_message true e = omega (arith, e, small)
      no_message false e = omega (arith, e, small)
