-- Where no leg is due whose turn it is, a frame does nothing after its boundary.
use Rattle.std.proofs.Common.{◌≡◌, ℕ, zero, suc, List, [], Option, Some, None, refl, ◌∙◌, ap}
use Rattle.std.specs.Prelude.{IfSome, option_map}
use Rattle.circuit_model.specs.declared.channel.Slot.{Slot}
use Rattle.call_states.specs.declared.leg.HeldLeg.{HeldLeg}
use Rattle.call_states.specs.declared.leg.Leg.{Leg}
use Rattle.exchange_events.specs.Sizes.{Setting}
use Rattle.call_profile.specs.Expiring.{due_of, expire_leg, slot_looked_at, outcome_on_line, outcome_of_lines}
use Rattle.call_profile.specs.Legs.{Legs, leg_at}
use Rattle.call_profile.specs.Operations.{Operation, making_at}
use Rattle.call_profile.specs.Restarts.{MessageOutcome, outcome_then}
use Rattle.call_profile.specs.World.{World}
use Rattle.call_profile.proofs.ExpiringLemmas.{lines_none, lines_more}
use Rattle.call_profile.proofs.RefusalLemmas.{no_records}

-- nothing was done yet
abbrev pub untouched : World → MessageOutcome
untouched w = record { making = making_at w; recorded = [] }

leg_not_due : (s : Setting) (frame : ℕ) (legs : Legs) (x : Slot) (o : Option Leg) → IfSome o (λ leg. due_of s.timers frame leg ≡ None)
    → expire_leg s frame legs (option_map (λ (leg : Leg). let h : HeldLeg = record { slot = x; leg = leg } in h) o) ≡ []
leg_not_due s frame legs x None quiet = refl
leg_not_due s frame legs x (Some leg) quiet = rw quiet refl

nothing_done : (s : Setting) (w : World) (cause : ℕ) (os : List Operation) → os ≡ [] → outcome_then s.dimensions cause (untouched w) os ≡ untouched w
nothing_done s w cause os none =
    ap (outcome_then s.dimensions cause (untouched w)) none
    ∙ (λ i. record { making = making_at w; recorded = no_records w cause i })

pub outcome_of_lines_none_due : (s : Setting) (frame : ℕ) (w : World) → ((line : ℕ) → IfSome (leg_at w.legs (slot_looked_at frame line)) (λ leg. due_of s.timers frame leg ≡ None))
    → (lines : ℕ) → outcome_of_lines s frame w lines ≡ untouched w
outcome_of_lines_none_due s frame w quiet zero = lines_none s frame w
outcome_of_lines_none_due s frame w quiet (suc line) =
    lines_more s frame w line
    ∙ ap (outcome_on_line s frame line) (outcome_of_lines_none_due s frame w quiet line)
    ∙ nothing_done s w _ _ (leg_not_due s frame w.legs (slot_looked_at frame line) (leg_at w.legs (slot_looked_at frame line)) (quiet line))
