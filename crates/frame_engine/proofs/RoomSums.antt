-- The sum over the ports of a room, without one of them, is the sum over the room's other members.
use Rattle.std.proofs.Common.{◌≡◌, ℕ, zero, suc, ◌-◌, ◌<◌, false, not, ◌&&◌, ◌==◌, eqb, List, [], ◌∷◌, length, map, Option, Some, None, ℤ, pos, ◌+ℤ◌, get_or, refl, sym, ap, ◌∙◌, inl, inr, arith, if◌then◌else◌}
use Rattle.std.specs.List.{Contains, filter}
use Rattle.std.proofs.lemmas.Int.{ints}
use Rattle.std.proofs.lemmas.List.{get_or-map, length-map}
use Rattle.circuit_model.specs.declared.channel.Slot.{Slot}
use Rattle.circuit_model.specs.declared.circuit.Circuit.{Circuit}
use Rattle.circuit_model.specs.declared.circuit.Circuit.TheVariants.{Pair, Member, Tone}
use Rattle.circuit_model.specs.FrameInput.{Input, arrives}
use Rattle.circuit_model.specs.ALaw.{compress, expand}
use Rattle.circuit_model.specs.Circuits.{same_slot, listener, heard_by}
use Rattle.circuit_model.specs.Hears.{mix, is_other, is_through, octets_of, sum_of_values}
use Rattle.circuit_model.specs.Ports.{Ports, owner_of, sum_of_owners, sum_of_members}
use Rattle.circuit_model.proofs.Slots.{true_or_false, same_slot-refl, same_slot-false}
use Rattle.circuit_model.proofs.Age.{at_head, in_tail}
use Rattle.control_memory.specs.Shown.{seated_as}
use Rattle.conference_mix.specs.Bridge.{others, value_of, mixed_for}
use Rattle.conference_mix.proofs.Sums.{sum_of, sum_of-cons, sum_of_values-others}
use Rattle.frame_engine.proofs.PortRows.{added}

-- a weight that leaves one slot out
abbrev without : Slot → (Slot → ℤ) → Slot → ℤ
without y weight z = if same_slot z y then pos 0 else weight z

-- ---- the owner of one port is left out
sum_of_owners_unowned : (weight : Slot → ℤ) (y : Slot) (ports : Ports) → ((j : ℕ) → owner_of ports j ≡ Some y → ⊥) → sum_of_owners weight ports ≡ sum_of_owners (without y weight) ports
sum_of_owners_unowned weight y [] none = refl
sum_of_owners_unowned weight y (None ∷ ports) none = sum_of_owners_unowned weight y ports (λ j e. none (suc j) e)
sum_of_owners_unowned weight y (Some z ∷ ports) none =
    let rest = sum_of_owners_unowned weight y ports (λ j e. none (suc j) e) in
    let other : same_slot z y ≡ false = same_slot-false z y (λ e. none 0 (ap (λ (x : Slot). Some x) e)) in
    rw other (ap (λ (s : ℤ). weight z +ℤ s) rest)

sum_of_owners_owned_once : (weight : Slot → ℤ) (y : Slot) (ports : Ports) (k : ℕ) → owner_of ports k ≡ Some y → ((j : ℕ) → owner_of ports j ≡ Some y → j ≡ k) → sum_of_owners weight ports ≡ weight y +ℤ sum_of_owners (without y weight) ports
sum_of_owners_owned_once weight y [] k owned alone = absurd (cc)
sum_of_owners_owned_once weight y (None ∷ ports) zero owned alone = absurd (cc)
sum_of_owners_owned_once weight y (None ∷ ports) (suc k) owned alone = sum_of_owners_owned_once weight y ports k owned (λ j e. let same = alone (suc j) e in omega (arith, same))
sum_of_owners_owned_once weight y (Some z ∷ ports) zero owned alone =
    let first : Some z ≡ Some y = owned in
    let is : z ≡ y = cc in
    let rest = sum_of_owners_unowned weight y ports (λ j e. let same = alone (suc j) e in omega (arith, same)) in
    let same = ap (λ (x : Slot). same_slot x y) is ∙ same_slot-refl y in
    rw same (rw is (omega (arith, ints, rest)))
sum_of_owners_owned_once weight y (Some z ∷ ports) (suc k) owned alone =
    let rest = sum_of_owners_owned_once weight y ports k owned (λ j e. let same = alone (suc j) e in omega (arith, same)) in
    let other : same_slot z y ≡ false = same_slot-false z y (λ e. let same = alone 0 (ap (λ (x : Slot). Some x) e) in omega (arith, same)) in
    rw other (omega (arith, ints, rest))

-- ---- a room's row of ports
module _ (sent : Slot → ℕ) (circuits : List Circuit) (f room : ℕ) where
  -- what the owner of a port adds
  abbrev pub entry : Option Slot → Option ℕ
  entry None = None
  entry (Some z) = added f room (sent z) (seated_as (heard_by circuits z))

  abbrev pub weight_of : Slot → ℤ
  weight_of z = value_of (entry (Some z))

  row_sum : (ports : Ports) → sum_of (map entry ports) ≡ sum_of_owners weight_of ports
  row_sum [] = refl
  row_sum (None ∷ ports) = let rest = row_sum ports in let cons = sum_of-cons None (map entry ports) in omega (arith, ints, rest, cons)
  row_sum (Some z ∷ ports) = sum_of-cons (entry (Some z)) (map entry ports) ∙ ap (λ (s : ℤ). weight_of z +ℤ s) (row_sum ports)

  -- what a circuit of the room adds to the mix for y
  member_adds : (q since : ℕ) (z y : Slot) (rest : ℤ) (others_of : List ℕ) → heard_by circuits z ≡ Some (Member q z since) → sum_of_values others_of ≡ rest
      → sum_of_values (if (q == room) && not (same_slot z y) && is_through since f then sent z ∷ others_of else others_of) ≡ without y weight_of z +ℤ rest
  member_adds q since z y rest others_of heard e =
      let weight : weight_of z ≡ value_of (if q == room then (if is_through since f then Some (sent z) else None) else None) = ap (λ (by : Option Circuit). value_of (added f room (sent z) (seated_as by))) heard in
      elim (true_or_false (same_slot z y)) [
        | inl here ↦ rw here (elim (true_or_false (eqb q room)) [ inl same ↦ rw same (omega (arith, ints, e)) | inr other ↦ rw other (omega (arith, ints, e)) ])
        | inr away ↦ rw away (rw weight (elim (true_or_false (eqb q room)) [
          | inl same ↦ rw same (elim (true_or_false (is_through since f)) [ inl old ↦ rw old (ap (λ (s : ℤ). expand (sent z) +ℤ s) e) | inr young ↦ rw young (omega (arith, ints, e)) ])
          | inr other ↦ rw other (omega (arith, ints, e))
        ]))
      ]

module _ (inputs : List Input) (circuits : List Circuit) (f room : ℕ) where
  abbrev sent_before : Slot → ℕ
  sent_before z = arrives inputs (f - 2) z

  mix_sum : (y : Slot) (cs : List Circuit) → ((c : Circuit) → Contains cs c → heard_by circuits (listener c) ≡ Some c)
      → sum_of_values (octets_of inputs (f - 2) (filter (is_other room y f) cs)) ≡ sum_of_members (without y (weight_of sent_before circuits f room)) cs
  mix_sum y [] alone = refl
  mix_sum y (Pair a b since ∷ cs) alone = mix_sum y cs (λ c inside. alone c (in_tail (Pair a b since) cs c inside))
  mix_sum y (Tone kind a since ∷ cs) alone = mix_sum y cs (λ c inside. alone c (in_tail (Tone kind a since) cs c inside))
  mix_sum y (Member q z since ∷ cs) alone =
      let rest = mix_sum y cs (λ c inside. alone c (in_tail (Member q z since) cs c inside)) in
      let heard = alone (Member q z since) (at_head (Member q z since) cs (Member q z since) refl) in
      let adds = member_adds sent_before circuits f room q since z y _ (octets_of inputs (f - 2) (filter (is_other room y f) cs)) heard rest in
      elim (true_or_false (is_other room y f (Member q z since))) [ inl counts ↦ rw counts (rw counts at adds) | inr left ↦ rw left (rw left at adds) ]

  -- the bridge gives the member in port k the mix of the others
  pub mixed_is : (ports : Ports) (k : ℕ) (y : Slot) → owner_of ports k ≡ Some y → ((j : ℕ) → owner_of ports j ≡ Some y → j ≡ k) → k < length ports
      → ((c : Circuit) → Contains circuits c → heard_by circuits (listener c) ≡ Some c)
      → ((weight : Slot → ℤ) → sum_of_owners weight ports ≡ sum_of_members weight circuits)
      → mixed_for k (map (entry sent_before circuits f room) ports) ≡ mix inputs circuits room y f
  mixed_is ports k y owned alone inside heard sums =
      let w = weight_of sent_before circuits f room in
      let e = entry sent_before circuits f room in
      let long : k < length (map e ports) = omega (arith, inside, length-map ports e) in
      let own : value_of (get_or (map e ports) k None) ≡ w y = ap value_of (get_or-map e ports k None None inside ∙ ap e owned) in
      let left = sum_of_values-others (map e ports) k None long in
      let whole = row_sum sent_before circuits f room ports ∙ sum_of_owners_owned_once w y ports k owned alone in
      let out : sum_of_values (others k (map e ports)) ≡ sum_of_owners (without y w) ports = omega (arith, ints, left, whole, own) in
      ap compress (out ∙ sums (without y w) ∙ sym (mix_sum y circuits heard))
