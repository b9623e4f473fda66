-- The circuits by which slots hear, and the ports of members by their numbers.
use Rattle.std.proofs.Common.{◌≡◌, ℕ, zero, suc, ◌+◌, ◌-◌, ◌*◌, ◌/◌, ◌%◌, ◌<◌, ◌≤◌, Bool, true, false, List, [], ◌∷◌, length, Option, Some, None, get_or, sym, ap, ◌∙◌, inl, inr, ⊎_elim, arith}
use Rattle.std.specs.List.{Contains, find, position, position_or_len}
use Rattle.std.specs.Prelude.{nat_lt, option_map}
use Rattle.std.proofs.lemmas.List.Sums.{position_or_len_is}
use Rattle.std.proofs.lemmas.Bool.{cond-true, cond-false, lt-ltb}
use Rattle.std.proofs.lemmas.Bool.Decides.{leb_tells}
use Rattle.circuit_model.specs.declared.channel.Slot.{Slot}
use Rattle.circuit_model.specs.declared.circuit.Circuit.{Circuit}
use Rattle.circuit_model.specs.Circuits.{same_slot, listener, heard_by}
use Rattle.circuit_model.specs.Ports.{Ports, has, owner_of, port_numbered, port_of}
use Rattle.circuit_model.proofs.Slots.{true_or_false, same_slot-true, same_slot-refl}
use Rattle.circuit_model.proofs.Age.{at_head, in_tail}
use Rattle.control_memory.specs.Shown.{member_at}
use Rattle.control_memory.specs.Image.{Control, room_at}
use Rattle.frame_buffer.specs.Speech.{octet_in_half}

-- ---- the circuit that is found for a slot
found_in : {X : Type 0} (p : X → Bool) (xs : List X) (y : X) → find p xs ≡ Some y → Contains xs y × (p y ≡ true)
found_in p [] y e = absurd (cc)
found_in p (x ∷ xs) y e =
    elim (true_or_false (p x)) [
      | inl here ↦ let first : Some x ≡ Some y = rw here at e in let is : x ≡ y = cc in (at_head x xs y is, ap p (sym is) ∙ here)
      | inr away ↦ let later : find p xs ≡ Some y = rw away at e in let rest = found_in p xs y later in (in_tail x xs y rest.0, rest.1)
    ]

pub heard_is : (circuits : List Circuit) (x : Slot) (c : Circuit) → heard_by circuits x ≡ Some c → Contains circuits c × (x ≡ listener c)
heard_is circuits x c e = let f = found_in (λ d. same_slot x (listener d)) circuits c e in (f.0, same_slot-true x (listener c) f.1)

-- ---- ports by number
pub not-below : (a b : ℕ) → b ≤ a → nat_lt a b ≡ false
not-below a b above = elim (leb_tells (suc a) b) [ inl below ↦ absurd (omega (arith, above, below.1)) | inr beyond ↦ beyond.0 ]

pub member_at-number : (external : ℕ) (ports : Ports) (k : ℕ) → member_at external ports (port_numbered external k) ≡ owner_of ports k
member_at-number external ports k =
    let number : 30 * ((external + k / 30) - external) + k % 30 ≡ k = omega arith in
    ap (owner_of ports) number

pub numbered-member_at : (external : ℕ) (at : Slot) → external ≤ at.line → at.place < 30 → port_numbered external (30 * (at.line - external) + at.place) ≡ at
numbered-member_at external at behind near =
    let line : external + (30 * (at.line - external) + at.place) / 30 ≡ at.line = omega (arith, behind, near) in
    let place : (30 * (at.line - external) + at.place) % 30 ≡ at.place = omega (arith, behind, near) in
    λ i. record { line = line i; place = place i }

has_none : (x : Slot) (o : Option Slot) → has x o ≡ true → o ≡ Some x
has_none x None e = absurd (cc)
has_none x (Some m) e = ap (λ (z : Slot). Some z) (sym (same_slot-true x m e))

owner_within : (ports : Ports) (k : ℕ) (x : Slot) → owner_of ports k ≡ Some x → k < length ports
owner_within [] k x e = absurd (cc)
owner_within (p ∷ ps) zero x e = omega arith
owner_within (p ∷ ps) (suc k) x e = let rest = owner_within ps k x e in omega (arith, rest)

pub port_of-owner : (external : ℕ) (ports : Ports) (k : ℕ) (x : Slot) → owner_of ports k ≡ Some x → ((j : ℕ) → owner_of ports j ≡ Some x → j ≡ k) → port_of external ports x ≡ Some (port_numbered external k)
port_of-owner external ports k x owned alone =
    let inside = owner_within ports k x owned in
    let there : position_or_len (has x) ports ≡ k =
    position_or_len_is (has x) ports k None (omega (arith, inside))
    (λ j before. ⊎_elim (λ (yes : has x (get_or ports j None) ≡ true). let same = alone j (has_none x (get_or ports j None) yes) in absurd (omega (arith, same, before))) (λ (no : has x (get_or ports j None) ≡ false). no) (true_or_false (has x (get_or ports j None))))
    (λ within. ap (has x) owned ∙ same_slot-refl x) in
    let found : position (has x) ports ≡ Some k = rw there (cond-true _ (Some k) None (lt-ltb k (length ports) inside)) in
    ap (option_map (port_numbered external)) found

-- ---- ports in the order of their numbers
-- the seat of a port is the one with its number
pub room_at-port_numbered : (m : Control) (k : ℕ) → room_at m (port_numbered m.external k) ≡ get_or m.rooms k None
room_at-port_numbered m k =
    let number : 30 * ((m.external + k / 30) - m.external) + k % 30 ≡ k = omega arith in
    cond-false (nat_lt (m.external + k / 30) m.external) None _ (not-below (m.external + k / 30) m.external (omega arith))
    ∙ ap (λ i. get_or m.rooms i None) number

-- and its octet is at that number behind the octets of the external lines
pub octet-numbered : (octets : List ℕ) (external k : ℕ) → octet_in_half octets (port_numbered external k) ≡ get_or octets (external * 30 + k) 0
octet-numbered octets external k =
    let place : (external + k / 30) * 30 + k % 30 ≡ external * 30 + k = omega arith in
    ap (λ i. get_or octets i 0) place
