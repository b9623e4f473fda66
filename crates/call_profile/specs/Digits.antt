-- Further digits in overlap sending: the digits so far, the checks in their order, and the operations. Source: ITU-T
-- Q.931 (05/98), 5.1.3; the order of the checks is this project's profile.
use Rattle.std.specs.Prelude.{◌≡◌, ℕ, ◌||◌, Bool, true, false, List, [], ◌∷◌, ◌++◌, length, drop, nat_lt, is_none, All, Option, Some, None, ◌⊎◌}
use Rattle.circuit_model.specs.declared.channel.Slot.{Slot}
use Rattle.q931_codec.specs.declared.message.Message.{Message}
use Rattle.q931_codec.specs.Causes.{invalid_number_format}
use Rattle.q931_codec.specs.Contents.{called_received, complete_in, dialled_digits}
use Rattle.number_plan.specs.declared.target.Found.TheVariants.{Room}
use Rattle.call_states.specs.declared.leg.HeldLeg.{HeldLeg}
use Rattle.call_states.specs.declared.pending.Pending.{Pending}
use Rattle.exchange_events.specs.Sizes.{Setting}
use Rattle.call_profile.specs.Acts.{clear_with}
use Rattle.call_profile.specs.Hunting.{lines_of}
use Rattle.call_profile.specs.IdleSlots.{lowest_idle}
use Rattle.call_profile.specs.Legs.{pending_at, is_down}
use Rattle.call_profile.specs.Operations.{Operation}
use Rattle.call_profile.specs.Setup.{Check, first_cause, number_checks, called_checks, target_dialled, accept}
use Rattle.call_profile.specs.World.{World, is_full}

-- ---- the digits so far

-- the octets that a called party number adds to those so far: all of its octets if there are none, otherwise those
-- after the first, which is the type of number again
abbrev pub octets_added : List ℕ → Option (List ℕ) → List ℕ
octets_added called None = []
octets_added [] (Some contents) = contents
octets_added (kind ∷ digits) (Some contents) = drop 1 contents

abbrev pub called_with : List ℕ → Message → List ℕ
called_with called m = called ++ octets_added called (called_received m.elements)

abbrev pub asked_with : Pending → Message → Pending
asked_with p m = record p { called = called_with p.called m }

-- ---- the checks: whether each fails, and the cause with which the leg is then cleared

abbrev pub has_no_octet : Option (List ℕ) → Bool
has_no_octet (Some []) = true
has_no_octet _ = false

-- a called party number without octets adds nothing, and a number of more than 21 octets is not a number
abbrev pub adds_wrongly : List ℕ → Message → Bool
adds_wrongly called m = has_no_octet (called_received m.elements) || nat_lt 21 (length (called_with called m))

abbrev pub digits_checks : Setting → World → Slot → List ℕ → Message → List Check
digits_checks s w x called m =
    let dialled = called_with called m in
    let target = target_dialled s.plan dialled in
    (adds_wrongly called m, invalid_number_format)
    ∷ (is_none (dialled_digits dialled), invalid_number_format)
    ∷ (number_checks target (complete_in m.elements) ++ called_checks s.dimensions w (Some x) target)

abbrev pub digits_refusal : Setting → World → Slot → List ℕ → Message → Option ℕ
digits_refusal s w x called m = first_cause (digits_checks s w x called m)

-- ---- the operations

-- the leg waits with the longer number, or its call is accepted; if a check fails, the leg is cleared
abbrev pub dial_on : Setting → World → HeldLeg → Pending → Option ℕ → List Operation
dial_on s w h asked (Some cause) = clear_with s.tones cause h
dial_on s w h asked None = accept false w h.leg.reference asked h.slot (target_dialled s.plan asked.called)

abbrev pub with_pending : Setting → World → HeldLeg → Message → Option Pending → List Operation
with_pending s w h m None = []
with_pending s w h m (Some p) = dial_on s w h (asked_with p m) (digits_refusal s w h.slot p.called m)

abbrev pub on_digits : Setting → World → HeldLeg → Message → List Operation
on_digits s w h m = with_pending s w h m (pending_at w.legs h.slot)

-- ---- calls that cannot continue

-- the data link of a line is down, or it has no idle slot
abbrev pub IsUnavailable : World → ℕ → Type 0
IsUnavailable w line = (is_down w.legs line ≡ true) ⊎ (lowest_idle w line ≡ None)

-- the number is routed to lines, and none of them is available; or to a room, and every port is taken
abbrev pub WantsSlot : Setting → World → List ℕ → Type 0
WantsSlot s w dialled = (lines : List ℕ) × (lines_of (target_dialled s.plan dialled) ≡ Some lines) × All (IsUnavailable w) lines

abbrev pub WantsPort : Setting → World → List ℕ → Type 0
WantsPort s w dialled = (room : ℕ) × (target_dialled s.plan dialled ≡ Room room) × (is_full s.dimensions w ≡ true)
