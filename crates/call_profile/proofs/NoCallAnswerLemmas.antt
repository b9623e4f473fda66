-- The answer to a message on the call reference of no call.
use Rattle.std.proofs.Common.{◌≡◌, ℕ, ◌<◌, Bool, true, false, inl, inr, List, Option, Some, None, ◌∙◌, ap}
use Rattle.std.specs.Prelude.{◌==◌, IfSome, if◌then◌else◌}
use Rattle.std.proofs.lemmas.Bool.{eqb-true, eq-eqb}
use Rattle.circuit_model.proofs.Slots.{true_or_false}
use Rattle.q931_codec.specs.declared.message.Message.{Message}
use Rattle.q931_codec.specs.Outgoing.{OutgoingMessage, IsWritable}
use Rattle.clearing_rules.specs.Restarting.{restart_acknowledged, restart_asked}
use Rattle.tone_rules.specs.declared.tones.Tones.{Tones}
use Rattle.number_plan.specs.declared.plan.Number.{Number}
use Rattle.call_profile.specs.Calls.{New_call, On_no_call, answer_back, asks_for_call, on_global_reference, request_without_leg}
use Rattle.call_profile.specs.Operations.{Making}
use Rattle.call_profile.proofs.Permitted.{ArePermitted}
use Rattle.exchange_events.specs.Sizes.{Dimensions}

pub differs : (n k : ℕ) → (n ≡ k → ⊥) → (n == k) ≡ false
differs n k apart = elim (true_or_false (n == k)) [
  | inl same ↦ absurd (apart (eqb-true n k same))
  | inr differ ↦ differ
]

pub back_permitted : (d : Dimensions) (tones : Tones) (plan : List Number) (m : Making) (line : ℕ) → line < d.external → (o : Option OutgoingMessage) → IfSome o IsWritable → ArePermitted d tones plan m (answer_back line o)
back_permitted d tones plan m line below None writable = tt
back_permitted d tones plan m line below (Some message) writable = ((below, writable), tt)

-- ---- what a message that names no leg asks for

pub request_without_leg_on_global : (m : Message) → m.reference ≡ 0 → request_without_leg m ≡ on_global_reference (restart_asked m) (restart_acknowledged m)
request_without_leg_on_global m is = ap (λ (b : Bool). if b then on_global_reference (restart_asked m) (restart_acknowledged m) else (if asks_for_call m then New_call m else On_no_call m)) (eq-eqb m.reference 0 is)

request_without_leg_off_global : (m : Message) → (m.reference ≡ 0 → ⊥) → request_without_leg m ≡ (if asks_for_call m then New_call m else On_no_call m)
request_without_leg_off_global m own = ap (λ (b : Bool). if b then on_global_reference (restart_asked m) (restart_acknowledged m) else (if asks_for_call m then New_call m else On_no_call m)) (differs m.reference 0 own)

pub request_without_leg_asks : (m : Message) → (m.reference ≡ 0 → ⊥) → asks_for_call m ≡ true → request_without_leg m ≡ New_call m
request_without_leg_asks m own is = request_without_leg_off_global m own ∙ ap (λ (b : Bool). if b then New_call m else On_no_call m) is

pub request_without_leg_asks_not : (m : Message) → (m.reference ≡ 0 → ⊥) → asks_for_call m ≡ false → request_without_leg m ≡ On_no_call m
request_without_leg_asks_not m own is = request_without_leg_off_global m own ∙ ap (λ (b : Bool). if b then New_call m else On_no_call m) is
