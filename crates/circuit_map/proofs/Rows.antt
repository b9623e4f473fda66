-- What each slot hears by the rows that are kept, and what a row more or less makes of it.
use Rattle.std.proofs.Common.{◌≡◌, ℕ, ◌*◌, ◌<◌, ◌⊎◌, true, false, List, length, get_or, set, Option, Some, None, sym, ◌∙◌, ap, subst, inl, inr, arith, get_or-set_other, get_or-set_same, length-set, if◌then◌else◌}
use Rattle.std.proofs.lemmas.Grind.{common_steps}
use Rattle.std.proofs.lemmas.Bool.{cases_lt}
use Rattle.std.proofs.lemmas.Bool.Decides.{nat_tests}
use Rattle.circuit_model.specs.declared.channel.Slot.{Slot}
use Rattle.circuit_model.specs.declared.circuit.Circuit.{Circuit}
use Rattle.circuit_model.specs.declared.circuit.Circuit.TheVariants.{Pair, Member}
use Rattle.circuit_model.specs.Circuits.{same_slot, listener, names, heard_by, unless_naming}
use Rattle.circuit_model.specs.Holding.{Holding, Valid, Stands, Has_no_circuit, Has_tone, Is_seated, Is_connected, circuits_naming}
use Rattle.circuit_model.specs.Ports.{Ports, port_of}
use Rattle.circuit_model.proofs.Slots.{true_or_false, same_slot-refl, same_slot_cases, same_slot-false, heard_by-naming}
use Rattle.circuit_model.proofs.Validity.{heard_by-mutual}
use Rattle.control_memory.specs.Layout.{number_of}
use Rattle.control_memory.proofs.Steps.{same_number}
use Rattle.circuit_map.specs.Connections.{hears_in}
use Rattle.circuit_map.proofs.Needs.{Needs, Paired, To_port, From_port, heard_stands}

-- ---- one row written
in_or_out : (external : ℕ) (z : Slot) → ((z.line < external) × (z.place < 30)) ⊎ ((heard : List (Option Circuit)) → hears_in external heard z ≡ None)
in_or_out external z = elim (cases_lt z.line external) [
  | inl line ↦ elim (cases_lt z.place 30) [ inl place ↦ inl (line, place) | inr far ↦ inr (λ heard. grind (arith, nat_tests)) ]
  | inr far ↦ inr (λ heard. grind (arith, nat_tests))
]

pub hears_inside : (external : ℕ) (heard : List (Option Circuit)) (z : Slot) → z.line < external → z.place < 30 → hears_in external heard z ≡ get_or heard (number_of z) None
hears_inside external heard z line place = grind (arith, nat_tests)

pub hears_external : (external : ℕ) (heard : List (Option Circuit)) (z : Slot) (c : Circuit) → hears_in external heard z ≡ Some c → (z.line < external) × (z.place < 30)
hears_external external heard z c e = elim (in_or_out external z) [ inl inside ↦ inside | inr out ↦ let wrong = sym (out heard) ∙ e in absurd (cc) ]

pub number_of_inside : (external : ℕ) (x : Slot) → x.line < external → x.place < 30 → number_of x < 30 * external
number_of_inside external x line place = omega (arith, line, place)

row_written : (external : ℕ) (heard : List (Option Circuit)) (x : Slot) (o : Option Circuit) (z : Slot) → length heard ≡ 30 * external → x.line < external → x.place < 30 → z.line < external → z.place < 30
    → get_or (set heard (number_of x) o) (number_of z) None ≡ (if same_slot z x then o else get_or heard (number_of z) None)
row_written external heard x o z size line place z_line z_place = elim (same_slot_cases z x) [
  | inl here ↦
      let same = same_slot-refl x in
      rw here (get_or-set_same heard (number_of x) o None (let n = number_of_inside external x line place in omega (arith, n, size)) ∙ sym (ap (λ b. if b then o else get_or heard (number_of x) None) same))
  | inr away ↦
      get_or-set_other heard (number_of x) (number_of z) o None (λ e. let is = same_number z x z_place place e in let same = same_slot-refl x in let wrong : same_slot x x ≡ false = subst (λ t. same_slot t x ≡ false) is away in absurd (cc))
      ∙ sym (ap (λ b. if b then o else get_or heard (number_of z) None) away)
]

pub hears_written : (external : ℕ) (heard : List (Option Circuit)) (x : Slot) (o : Option Circuit) (z : Slot) → length heard ≡ 30 * external → x.line < external → x.place < 30
    → hears_in external (set heard (number_of x) o) z ≡ (if same_slot z x then o else hears_in external heard z)
hears_written external heard x o z size line place = elim (in_or_out external z) [
  | inl inside ↦
      hears_inside external (set heard (number_of x) o) z inside.0 inside.1 ∙ row_written external heard x o z size line place inside.0 inside.1
      ∙ ap (λ r. if same_slot z x then o else r) (sym (hears_inside external heard z inside.0 inside.1))
  | inr out ↦
      let away : same_slot z x ≡ false = same_slot-false z x (λ e. let i = hears_inside external (set heard (number_of x) (Some (Member 0 x 0))) x line place ∙ get_or-set_same heard (number_of x) (Some (Member 0 x 0)) None (let n = number_of_inside external x line place in omega (arith, n, size)) in let wrong = sym (out (set heard (number_of x) (Some (Member 0 x 0)))) ∙ ap (hears_in external (set heard (number_of x) (Some (Member 0 x 0)))) e ∙ i in absurd (cc)) in
      out (set heard (number_of x) o) ∙ sym (ap (λ b. if b then o else hears_in external heard z) away ∙ out heard)
]

-- the same at an index that is the slot's number
pub hears_set : (external : ℕ) (heard : List (Option Circuit)) (x : Slot) (o : Option Circuit) (n : ℕ) (z : Slot) → n ≡ number_of x → length heard ≡ 30 * external → x.line < external → x.place < 30
    → hears_in external (set heard n o) z ≡ (if same_slot z x then o else hears_in external heard z)
hears_set external heard x o n z is size line place = (λ i. hears_in external (set heard (is i) o) z) ∙ hears_written external heard x o z size line place

-- two rows written, one after the other
pub hears_two : (external : ℕ) (rows : List (Option Circuit)) (x y : Slot) (s t : Option Circuit) (n k : ℕ) (z : Slot) → n ≡ number_of x → k ≡ number_of y → length rows ≡ 30 * external → (x.line < external) × (x.place < 30) → (y.line < external) × (y.place < 30)
    → hears_in external (set (set rows n s) k t) z ≡ (if same_slot z y then t else if same_slot z x then s else hears_in external rows z)
hears_two external rows x y s t n k z at_x at_y size in_x in_y =
    hears_set external (set rows n s) y t k z at_y (length-set rows n s ∙ size) in_y.0 in_y.1 ∙ ap (λ r. if same_slot z y then t else r) (hears_set external rows x s n z at_x size in_x.0 in_x.1)

-- ---- what holds of whom each slot hears
pub record Hearing (external : ℕ) (hears : Slot → Option Circuit) : Type 0 where
  pub own : (z : Slot) (c : Circuit) → hears z ≡ Some c → listener c ≡ z
  pub both_ways : (x y : Slot) (since : ℕ) → hears x ≡ Some (Pair y x since) → hears y ≡ Some (Pair x y since)
  pub apart : (x y : Slot) (since : ℕ) → hears x ≡ Some (Pair y x since) → y ≡ x → ⊥
  pub inside : (z : Slot) (c : Circuit) → hears z ≡ Some c → (z.line < external) × (z.place < 30)

other_end : (circuits : List Circuit) (x y : Slot) (since : ℕ) → Stands circuits x → heard_by (circuits_naming circuits x) x ≡ Some (Pair y x since) → y ≡ x → ⊥
other_end circuits x y since (Has_no_circuit e) hears same = let no : None ≡ Some (Pair y x since) = rw e at hears in absurd cc
other_end circuits x y since (Has_tone kind s e) hears at = let same = same_slot-refl x in let no = rw e at hears in absurd (grind (arith, common_steps))
other_end circuits x y since (Is_seated room s e) hears at = let same = same_slot-refl x in let no = rw e at hears in absurd (grind (arith, common_steps))
other_end circuits x y since (Is_connected z s apart (inl e)) hears at =
    let same = same_slot-refl x in let other = same_slot-false x z (λ f. apart (sym f)) in let found = rw e at hears in apart (grind (arith, common_steps))
other_end circuits x y since (Is_connected z s apart (inr e)) hears at =
    let same = same_slot-refl x in let found = rw e at hears in apart (grind (arith, common_steps))

pub hearing_of : (external bridges : ℕ) (h : Holding) → Valid bridges h → ((z : Slot) (c : Circuit) → heard_by h.circuits z ≡ Some c → (z.line < external) × (z.place < 30)) → Hearing external (heard_by h.circuits)
hearing_of external bridges h v inside = record {
  own = λ z c e. (heard_stands h.circuits z c e).1;
  both_ways = λ x y since e. heard_by-mutual h.circuits x y since (v.standing x) (v.standing y) e;
  apart = λ x y since e same. other_end h.circuits x y since (v.standing x) (heard_by-naming h.circuits x ∙ e) same;
  inside = inside;
}

-- ---- one row more
pub record Adds (hears after : Slot → Option Circuit) (x : Slot) (o : Option Circuit) : Type 0 where
  pub kept : (z : Slot) (c : Circuit) → hears z ≡ Some c → after z ≡ Some c
  pub split : (z : Slot) (c : Circuit) → after z ≡ Some c → ((z ≡ x) × (o ≡ Some c)) ⊎ (hears z ≡ Some c)
  pub new : after x ≡ o

pub adds : (hears after : Slot → Option Circuit) (x : Slot) (o : Option Circuit) → ((z : Slot) → after z ≡ (if same_slot z x then o else hears z)) → hears x ≡ None → Adds hears after x o
adds hears after x o written none = record {
  kept = λ z c e. elim (same_slot_cases z x) [
    | inl here ↦ let wrong : hears z ≡ None = rw here none in absurd (let f = sym wrong ∙ e in cc)
    | inr away ↦ written z ∙ ap (λ b. if b then o else hears z) away ∙ e
  ];
  split = λ z c e. elim (same_slot_cases z x) [
    | inl here ↦ let same : same_slot z x ≡ true = rw here (same_slot-refl x) in inl (here, sym (written z ∙ ap (λ b. if b then o else hears z) same) ∙ e)
    | inr away ↦ inr (sym (written z ∙ ap (λ b. if b then o else hears z) away) ∙ e)
  ];
  new = written x ∙ ap (λ b. if b then o else hears x) (same_slot-refl x);
}

-- what the new row needs
pub data Fresh (external : ℕ) (ports : Ports) (x : Slot) (o : Option Circuit) (a b : Slot) : Type 0 where
  Fresh_pair : (since : ℕ) → b ≡ x → o ≡ Some (Pair a b since) → Fresh external ports x o a b
  Fresh_to : (room since : ℕ) → a ≡ x → o ≡ Some (Member room a since) → port_of external ports a ≡ Some b → Fresh external ports x o a b
  Fresh_from : (room since : ℕ) → b ≡ x → o ≡ Some (Member room b since) → port_of external ports b ≡ Some a → Fresh external ports x o a b

pub needs_kept : (external : ℕ) (ports : Ports) (hears after : Slot → Option Circuit) (x : Slot) (o : Option Circuit) (a b : Slot) → Adds hears after x o → Needs external ports hears a b → Needs external ports after a b
needs_kept external ports hears after x o a b adds (Paired since e) = Paired since (adds.kept b _ e)
needs_kept external ports hears after x o a b adds (To_port room since e p) = To_port room since (adds.kept a _ e) p
needs_kept external ports hears after x o a b adds (From_port room since e p) = From_port room since (adds.kept b _ e) p

pub needs_split : (external : ℕ) (ports : Ports) (hears after : Slot → Option Circuit) (x : Slot) (o : Option Circuit) (a b : Slot) → Adds hears after x o → Needs external ports after a b → Fresh external ports x o a b ⊎ Needs external ports hears a b
needs_split external ports hears after x o a b adds (Paired since e) = elim (adds.split b _ e) [ inl new ↦ inl (Fresh_pair since new.0 new.1) | inr old ↦ inr (Paired since old) ]
needs_split external ports hears after x o a b adds (To_port room since e p) = elim (adds.split a _ e) [ inl new ↦ inl (Fresh_to room since new.0 new.1 p) | inr old ↦ inr (To_port room since old p) ]
needs_split external ports hears after x o a b adds (From_port room since e p) = elim (adds.split b _ e) [ inl new ↦ inl (Fresh_from room since new.0 new.1 p) | inr old ↦ inr (From_port room since old p) ]

-- what is given to an idle slot leaves what the others hear
pub given_keeps : (hears after : Slot → Option Circuit) (x : Slot) (o : Option Circuit) → ((z : Slot) → after z ≡ (if same_slot z x then o else hears z)) → hears x ≡ None → (z : Slot) (c : Circuit) → hears z ≡ Some c → after z ≡ Some c
given_keeps hears after x o written none = (adds hears after x o written none).kept

pub two_keep : (hears after : Slot → Option Circuit) (x y : Slot) (s t : Option Circuit) → ((z : Slot) → after z ≡ (if same_slot z x then s else if same_slot z y then t else hears z)) → hears x ≡ None → hears y ≡ None → (z : Slot) (c : Circuit) → hears z ≡ Some c → after z ≡ Some c
two_keep hears after x y s t written none_x none_y z c e =
    let off_x : same_slot z x ≡ false = same_slot-false z x (λ at. let wrong = sym none_x ∙ ap hears (sym at) ∙ e in cc) in
    let off_y : same_slot z y ≡ false = same_slot-false z y (λ at. let wrong = sym none_y ∙ ap hears (sym at) ∙ e in cc) in
    written z ∙ ap (λ b. if b then s else if same_slot z y then t else hears z) off_x ∙ ap (λ b. if b then t else hears z) off_y ∙ e

-- ---- a slot cleared
pub cleared_row : (x : Slot) (o : Option Circuit) (c : Circuit) → unless_naming x o ≡ Some c → (o ≡ Some c) × (names x c ≡ false)
cleared_row x None c e = absurd (cc)
cleared_row x (Some d) c e = elim (true_or_false (names x d)) [
  | inl named ↦ absurd (grind (arith, common_steps))
  | inr other ↦ let is : d ≡ c = grind (arith, common_steps) in (ap (λ t. Some t) is, subst (λ t. names x t ≡ false) is other)
]

pub unless_naming_kept_row : (x : Slot) (o : Option Circuit) (c : Circuit) → o ≡ Some c → names x c ≡ false → unless_naming x o ≡ Some c
unless_naming_kept_row x o c e other = rw e (grind (arith, common_steps))
