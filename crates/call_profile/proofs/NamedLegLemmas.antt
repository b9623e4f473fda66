-- The leg that a message names is at its slot.
use Rattle.std.proofs.Common.{◌≡◌, ℕ, zero, suc, ◌+◌, ◌<◌, ◌≤◌, ◌==◌, Bool, true, false, List, [], ◌∷◌, map, Option, Some, None, refl, subst, inl, inr, arith}
use Rattle.std.specs.Prelude.{Result, Ok, Err, find, filter_map, option_map, if◌then◌else◌}
use Rattle.std.specs.List.{range_with_len, cons_option, AllByRecursion}
use Rattle.circuit_model.specs.declared.channel.Slot.{Slot}
use Rattle.circuit_model.proofs.Slots.{true_or_false}
use Rattle.q931_codec.specs.declared.message.Discard.{Discard}
use Rattle.q931_codec.specs.declared.message.Message.{Message}
use Rattle.q931_codec.specs.Reading.{reading}
use Rattle.call_states.specs.declared.leg.Leg.{Leg}
use Rattle.clearing_rules.specs.declared.scope.Restart.{Restart}
use Rattle.clearing_rules.specs.Restarting.{restart_acknowledged, restart_asked}
use Rattle.call_states.specs.declared.leg.HeldLeg.{HeldLeg}
use Rattle.call_profile.specs.Calls.{Request, For_leg, New_call, On_no_call, asks_for_call, on_global_reference, request_without_leg, with_leg_named, request_read, request_of}
use Rattle.call_profile.specs.Legs.{Legs, leg_at, held_at, slots_of, is_addressed_to, leg_named}

-- a slot of the line
abbrev pub IsOn : ℕ → Slot → Type 0
IsOn line x = (x.line ≡ line) × (x.place < 30)

all_on : (line first count : ℕ) → first + count ≤ 30 → AllByRecursion (IsOn line) (map (λ place. record { line = line; place = place }) (range_with_len first count))
all_on line first zero within = tt
all_on line first (suc count) within = ((refl, omega (arith, within)), all_on line (first + 1) count (omega (arith, within)))

pub slots_on : (line : ℕ) → AllByRecursion (IsOn line) (slots_of line)
unfolding slots_of
slots_on line = all_on line 0 30 (omega arith)

-- a leg that is found is at its slot, passes the test, and its slot is one of those that were looked at
pub record Stands (legs : Legs) (p : HeldLeg → Bool) (Q : Slot → Type 0) (h : HeldLeg) : Type 0 where
  pub at : leg_at legs h.slot ≡ Some h.leg
  pub passes : p h ≡ true
  pub among : Q h.slot

found_step : (legs : Legs) (p : HeldLeg → Bool) (Q : Slot → Type 0) (x : Slot) (rest : List HeldLeg) (h : HeldLeg) (o : Option Leg)
    → leg_at legs x ≡ o → Q x → (find p rest ≡ Some h → Stands legs p Q h)
    → find p (cons_option (option_map (λ (leg : Leg). let held : HeldLeg = record { slot = x; leg = leg } in held) o) rest) ≡ Some h → Stands legs p Q h
found_step legs p Q x rest h None at q later e = later e
found_step legs p Q x rest h (Some leg) at q later e =
    let one : HeldLeg = record { slot = x; leg = leg } in
    elim (true_or_false (p one)) [
      | inl passed ↦
          let found : Some one ≡ Some h = rw passed at e in
          let same : one ≡ h = cc in
          subst (Stands legs p Q) same (record { at = at; passes = passed; among = q })
      | inr failed ↦ later (rw failed at e)
    ]

pub found_among : (legs : Legs) (p : HeldLeg → Bool) (Q : Slot → Type 0) (xs : List Slot) (h : HeldLeg) → AllByRecursion Q xs
    → find p (filter_map (held_at legs) xs) ≡ Some h → Stands legs p Q h
found_among legs p Q [] h all e = absurd cc
found_among legs p Q (x ∷ xs) h all e = found_step legs p Q x (filter_map (held_at legs) xs) h (leg_at legs x) refl all.0 (found_among legs p Q xs h all.1) e

pub leg_named_stands : (legs : Legs) (line : ℕ) (flag : Bool) (reference : ℕ) (h : HeldLeg) → leg_named legs line flag reference ≡ Some h
    → Stands legs (is_addressed_to flag reference) (IsOn line) h
leg_named_stands legs line flag reference h e = found_among legs (is_addressed_to flag reference) (IsOn line) (slots_of line) h (slots_on line) e

-- ---- what is for a leg names it

not_on_global : (o a : Option Restart) (h : HeldLeg) (n : Message) → on_global_reference o a ≡ For_leg h n → ⊥
not_on_global None None h n e = cc
not_on_global None (Some r) h n e = cc
not_on_global (Some r) a h n e = cc

either : (b : Bool) (P : Request → Type 0) (r q : Request) → (b ≡ true → P r) → (b ≡ false → P q) → P (if b then r else q)
either true P r q yes_case no_case = yes_case refl
either false P r q yes_case no_case = no_case refl

-- a message that names no leg, by what it may be
pub without_leg_by : (m : Message) (P : Request → Type 0) → ((o a : Option Restart) → P (on_global_reference o a))
    → (asks_for_call m ≡ true → (m.reference == 0) ≡ false → P (New_call m)) → (asks_for_call m ≡ false → (m.reference == 0) ≡ false → P (On_no_call m)) → P (request_without_leg m)
without_leg_by m P global asks back =
    either (m.reference == 0) P (on_global_reference (restart_asked m) (restart_acknowledged m)) (if asks_for_call m then New_call m else On_no_call m)
    (λ e. global (restart_asked m) (restart_acknowledged m))
    (λ own. either (asks_for_call m) P (New_call m) (On_no_call m) (λ e. asks e own) (λ e. back e own))

not_for_leg : (m : Message) (h : HeldLeg) (n : Message) → request_without_leg m ≡ For_leg h n → ⊥
not_for_leg m h n = without_leg_by m (λ r. r ≡ For_leg h n → ⊥) (λ o a e. not_on_global o a h n e) (λ asks own e. cc) (λ back own e. cc)

for_named : (m : Message) (o : Option HeldLeg) (h : HeldLeg) (n : Message) → with_leg_named m o ≡ For_leg h n → (o ≡ Some h) × (m ≡ n)
for_named m None h n e = absurd (not_for_leg m h n e)
for_named m (Some g) h n e = (cc, cc)

-- the leg that a message is for is on the message's line
pub named_from : (legs : Legs) (line : ℕ) (r : Result Message Discard) (h : HeldLeg) (m : Message) → request_read legs line r ≡ For_leg h m
    → Stands legs (is_addressed_to m.flag m.reference) (IsOn line) h
named_from legs line (Err why) h m e = absurd cc
named_from legs line (Ok n) h m e =
    let named = for_named n (leg_named legs line n.flag n.reference) h m e in
    subst (λ (k : Message). Stands legs (is_addressed_to k.flag k.reference) (IsOn line) h) named.1 (leg_named_stands legs line n.flag n.reference h named.0)

pub received_stands : (legs : Legs) (line : ℕ) (octets : List ℕ) (h : HeldLeg) (m : Message) → request_of legs line octets ≡ For_leg h m
    → Stands legs (is_addressed_to m.flag m.reference) (IsOn line) h
received_stands legs line octets h m e = named_from legs line (reading octets) h m e
