-- Looking along a line, place by place.
use Rattle.std.proofs.Common.{◌≡◌, ℕ, suc, ◌+◌, ◌-◌, ◌<◌, Bool, true, false, List, [], ◌∷◌, map, Option, Some, None, refl, ap, arith}
use Rattle.std.specs.Prelude.{find, filter_map}
use Rattle.std.specs.List.{range_with_len, position_or_len}
use Rattle.circuit_model.specs.declared.channel.Slot.{Slot}
use Rattle.call_states.specs.declared.leg.Leg.{Leg}
use Rattle.call_states.specs.declared.leg.HeldLeg.{HeldLeg}
use Rattle.call_profile.specs.Legs.{Legs, leg_at, held_at, slots_of, is_addressed_to, leg_named, is_unused, lowest_free_reference}

-- the slots of a line from a place on
pub slots_from : ℕ → ℕ → List Slot
slots_from line place = map (λ p. record { line = line; place = p }) (range_with_len place (30 - place))

pub slots_all : (line : ℕ) → slots_of line ≡ slots_from line 0
unfolding slots_of slots_from
slots_all line = refl

pub slots_end : (line : ℕ) → slots_from line 30 ≡ []
unfolding slots_from
slots_end line = refl

range_more : (first count n : ℕ) → count ≡ suc n → range_with_len first count ≡ first ∷ range_with_len (first + 1) n
range_more first count n e = rw e refl

pub slots_more : (line place : ℕ) → place < 30 → slots_from line place ≡ record { line = line; place = place } ∷ slots_from line (place + 1)
unfolding slots_from
slots_more line place within =
    let long : 30 - place ≡ suc (30 - (place + 1)) = omega (arith, within) in
    ap (map (λ p. record { line = line; place = p })) (range_more place (30 - place) (30 - (place + 1)) long)

-- the leg that is found from a place on
pub found_from : Legs → ℕ → Bool → ℕ → ℕ → Option HeldLeg
found_from legs line flag reference place = find (is_addressed_to flag reference) (filter_map (held_at legs) (slots_from line place))

pub leg_named_found_all : (legs : Legs) (line : ℕ) (flag : Bool) (reference : ℕ) → leg_named legs line flag reference ≡ found_from legs line flag reference 0
unfolding found_from
leg_named_found_all legs line flag reference = rw (slots_all line) refl

pub found_end : (legs : Legs) (line : ℕ) (flag : Bool) (reference : ℕ) → found_from legs line flag reference 30 ≡ None
unfolding found_from
found_end legs line flag reference = rw (slots_end line) refl

module _ (legs : Legs) (line : ℕ) (flag : Bool) (reference place : ℕ) (within : place < 30) where
  pub found_none : leg_at legs (record { line = line; place = place }) ≡ None → found_from legs line flag reference place ≡ found_from legs line flag reference (place + 1)
  unfolding found_from
  found_none none = rw (slots_more line place within, none) refl

  pub found_other : (leg : Leg) → leg_at legs (record { line = line; place = place }) ≡ Some leg
      → is_addressed_to flag reference (record { slot = record { line = line; place = place }; leg = leg }) ≡ false
      → found_from legs line flag reference place ≡ found_from legs line flag reference (place + 1)
  unfolding found_from
  found_other leg some other = rw (slots_more line place within, some, other) refl

  pub found_here : (leg : Leg) → leg_at legs (record { line = line; place = place }) ≡ Some leg
      → is_addressed_to flag reference (record { slot = record { line = line; place = place }; leg = leg }) ≡ true
      → found_from legs line flag reference place ≡ Some (record { slot = record { line = line; place = place }; leg = leg })
  unfolding found_from
  found_here leg some here = rw (slots_more line place within, some, here) refl

-- the first reference from one on that is unused
pub unused_from : Legs → ℕ → ℕ → ℕ
unused_from legs line reference = position_or_len (is_unused legs line) (range_with_len reference (31 - reference))

pub lowest_free_reference_unused_all : (legs : Legs) (line : ℕ) → lowest_free_reference legs line ≡ 1 + unused_from legs line 1
unfolding unused_from
lowest_free_reference_unused_all legs line = refl

pub unused_end : (legs : Legs) (line : ℕ) → unused_from legs line 31 ≡ 0
unfolding unused_from
unused_end legs line = refl

module _ (legs : Legs) (line reference : ℕ) (within : reference < 31) where
  pub unused_here : is_unused legs line reference ≡ true → unused_from legs line reference ≡ 0
  unfolding unused_from
  unused_here here = let long : 31 - reference ≡ suc (31 - (reference + 1)) = omega (arith, within) in rw (range_more reference (31 - reference) (31 - (reference + 1)) long, here) refl

  pub unused_other : is_unused legs line reference ≡ false → unused_from legs line reference ≡ 1 + unused_from legs line (reference + 1)
  unfolding unused_from
  unused_other other = let long : 31 - reference ≡ suc (31 - (reference + 1)) = omega (arith, within) in rw (range_more reference (31 - reference) (31 - (reference + 1)) long, other) refl
