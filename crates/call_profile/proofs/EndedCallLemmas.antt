-- Which calls a step ends: none where callers go on calling, and where a leg begins to be cleared the one of its call.
use Rattle.std.proofs.Common.{◌≡◌, ℕ, zero, suc, ◌+◌, ◌*◌, ◌<◌, ◌≤◌, Bool, true, false, not, ◌&&◌, ◌⊎◌, inl, inr, [], length, Option, Some, None, refl, sym, ◌∙◌, ap, arith}
use Rattle.std.specs.Prelude.{filter_map, option_and_then, if◌then◌else◌, ◌==◌}
use Rattle.std.specs.List.{range_with_len, cons_option}
use Rattle.std.proofs.lemmas.Bool.{eqb-true, eq-eqb}
use Rattle.circuit_model.specs.declared.channel.Slot.{Slot}
use Rattle.circuit_model.specs.Extent.{IsExternal}
use Rattle.circuit_model.proofs.Slots.{true_or_false}
use Rattle.control_memory.specs.Layout.{number_of, slot_numbered}
use Rattle.control_memory.proofs.Lookups.{number_numbered, numbered_number}
use Rattle.control_memory.proofs.Steps.{number_inside}
use Rattle.call_states.specs.declared.leg.Leg.{Leg}
use Rattle.exchange_events.specs.declared.record.CallRecord.{CallRecord}
use Rattle.call_profile.specs.CallRecords.{is_calling, record_at, record_of, records}
use Rattle.call_profile.specs.EndedCalls.{record_calling}
use Rattle.call_profile.specs.Legs.{Legs, leg_at, held_at}
use Rattle.call_profile.specs.World.{World}

-- ---- numbers of which one at the most gives something

none_hit : (f : ℕ → Option CallRecord) (first count : ℕ) → ((n : ℕ) → first ≤ n → n < first + count → f n ≡ None) → filter_map f (range_with_len first count) ≡ []
none_hit f first zero none = refl
none_hit f first (suc count) none = rw (none first (omega arith) (omega arith)) (none_hit f (first + 1) count (λ n low high. none n (omega (arith, low)) (omega (arith, high))))

pub same_or_not : (n k : ℕ) → (n ≡ k) ⊎ (n ≡ k → ⊥)
same_or_not n k = elim (true_or_false (n == k)) [
  | inl same ↦ inl (eqb-true n k same)
  | inr differ ↦ inr (λ e. let t = eq-eqb n k e in cc)
]

one_hit : (f : ℕ → Option CallRecord) (first count k : ℕ) → first ≤ k → k < first + count → ((n : ℕ) → first ≤ n → n < first + count → (n ≡ k → ⊥) → f n ≡ None)
    → filter_map f (range_with_len first count) ≡ cons_option (f k) []
one_hit f first zero k low high none = absurd (omega (arith, low, high))
one_hit f first (suc count) k low high none = elim (same_or_not first k) [
  | inl here ↦
      rw (none_hit f (first + 1) count (λ n above below. none n (omega (arith, above)) (omega (arith, below)) (λ e. absurd (omega (arith, above, here, e)))))
      (ap (λ (n : ℕ). cons_option (f n) []) here)
  | inr later ↦
      rw (none first (omega arith) (omega arith) later)
      (one_hit f (first + 1) count k (omega (arith, low, later)) (omega (arith, high)) (λ n above below apart. none n (omega (arith, above)) (omega (arith, below)) apart))
]

-- ---- the record of a slot

pub in_numbered : (external n : ℕ) → n < 30 * external → IsExternal external (slot_numbered n)
in_numbered external n below = (omega (arith, below), omega arith)

goes_on : (b a : Bool) → (b ≡ true → a ≡ true) → (b && not a) ≡ false
goes_on true a kept = rw (kept refl) refl
goes_on false a kept = refl

-- a caller's leg that goes on calling isn't recorded
record_at_untold : (before after : World) (cause : ℕ) (x : Slot) → (is_calling (leg_at before.legs x) ≡ true → is_calling (leg_at after.legs x) ≡ true) → record_at before after cause x ≡ None
record_at_untold before after cause x kept = rw (goes_on (is_calling (leg_at before.legs x)) (is_calling (leg_at after.legs x)) kept) refl

stops : (b a : Bool) → a ≡ false → (b && not a) ≡ b
stops true a over = rw over refl
stops false a over = refl

told_where : (w : World) (cause : ℕ) (x : Slot) (leg : Leg) → leg_at w.legs x ≡ Some leg
    → (if is_calling (leg_at w.legs x) then option_and_then (record_of w cause) (held_at w.legs x) else None) ≡ record_calling w cause (record { slot = x; leg = leg })
told_where w cause x leg at = rw at refl

-- one that stops is recorded
record_at_told : (before after : World) (cause : ℕ) (x : Slot) (leg : Leg) → leg_at before.legs x ≡ Some leg → is_calling (leg_at after.legs x) ≡ false
    → record_at before after cause x ≡ record_calling before cause (record { slot = x; leg = leg })
record_at_told before after cause x leg at over =
    rw (stops (is_calling (leg_at before.legs x)) (is_calling (leg_at after.legs x)) over) (told_where before cause x leg at)

-- ---- the records of a step

-- the caller's leg at each of these slots goes on calling
abbrev pub GoesOn : Legs → Legs → Slot → Type 0
GoesOn before after x = is_calling (leg_at before x) ≡ true → is_calling (leg_at after x) ≡ true

pub no_record_where_calling : (external : ℕ) (before after : World) (cause : ℕ) → length before.legs.held ≡ 30 * external
    → ((x : Slot) → IsExternal external x → GoesOn before.legs after.legs x) → records before after cause ≡ []
no_record_where_calling external before after cause size kept =
    none_hit (λ n. record_at before after cause (slot_numbered n)) 0 (length before.legs.held)
    (λ n low high. record_at_untold before after cause (slot_numbered n) (kept (slot_numbered n) (in_numbered external n (omega (arith, high, size)))))

still_there : (before after : Legs) (x : Slot) (o : Option Leg) → leg_at before x ≡ o → ((leg : Leg) → o ≡ Some leg → is_calling (Some leg) ≡ true → leg_at after x ≡ Some leg)
    → is_calling o ≡ true → is_calling (leg_at after x) ≡ true
still_there before after x None at kept calls = absurd cc
still_there before after x (Some leg) at kept calls = rw (kept leg refl calls) calls

-- no call ends where each caller's leg that calls stays as it was
pub no_record_where_kept : (external : ℕ) (before after : World) (cause : ℕ) → length before.legs.held ≡ 30 * external
    → ((x : Slot) (leg : Leg) → IsExternal external x → leg_at before.legs x ≡ Some leg → is_calling (Some leg) ≡ true → leg_at after.legs x ≡ Some leg)
    → records before after cause ≡ []
no_record_where_kept external before after cause size kept =
    no_record_where_calling external before after cause size
    (λ x within calls. still_there before.legs after.legs x (leg_at before.legs x) refl (λ leg at. kept x leg within at) calls)

-- where the caller's leg at one slot stops, and all others go on, its record is the only one
pub one_record : (external : ℕ) (before after : World) (cause : ℕ) (x : Slot) (leg : Leg) → length before.legs.held ≡ 30 * external → IsExternal external x
    → leg_at before.legs x ≡ Some leg → is_calling (leg_at after.legs x) ≡ false
    → ((z : Slot) → IsExternal external z → (z ≡ x → ⊥) → GoesOn before.legs after.legs z)
    → records before after cause ≡ cons_option (record_calling before cause (record { slot = x; leg = leg })) []
one_record external before after cause x leg size within at over others =
    let f : ℕ → Option CallRecord = λ n. record_at before after cause (slot_numbered n) in
    let inside = number_inside external x within in
    let slot = numbered_number x within.1 in
    one_hit f 0 (length before.legs.held) (number_of x) (omega arith) (omega (arith, inside, size))
    (λ n low high apart.
    record_at_untold before after cause (slot_numbered n)
    (others (slot_numbered n) (in_numbered external n (omega (arith, high, size))) (λ e. apart (sym (number_numbered n) ∙ ap number_of e))))
    ∙ ap (λ (z : Slot). cons_option (record_at before after cause z) []) slot
    ∙ ap (λ (o : Option CallRecord). cons_option o []) (record_at_told before after cause x leg at over)
