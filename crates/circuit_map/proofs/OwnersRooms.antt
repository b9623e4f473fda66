-- The room that each port is owned for follows each change of the connections.
use Rattle.std.proofs.Common.{◌≡◌, ℕ, false, List, get_or, set, Option, Some, None, sym, ◌∙◌, ap, subst, inl, inr, arith, if◌then◌else◌, get_or-set_same, get_or-set_other}
use Rattle.std.specs.Prelude.{is_none, position, replicate}
use Rattle.std.proofs.Math.ListN.{get_or-map}
use Rattle.std.proofs.lemmas.Bool.{cases_eq}
use Rattle.std.proofs.lemmas.Grind.{common_steps}
use Rattle.std.proofs.lemmas.List.Quantifiers.{position-Some}
use Rattle.circuit_model.specs.declared.channel.Slot.{Slot}
use Rattle.circuit_model.specs.declared.circuit.Circuit.{Circuit}
use Rattle.circuit_model.specs.declared.circuit.Circuit.TheVariants.{Member}
use Rattle.circuit_model.specs.Circuits.{same_slot, unless_naming}
use Rattle.circuit_model.specs.Ports.{has}
use Rattle.circuit_model.proofs.Slots.{true_or_false, same_slot-false}
use Rattle.conference_ports.specs.declared.occupant.Occupant.{Occupant}
use Rattle.conference_ports.specs.Owners.{member_of, owners_with, owners_without}
use Rattle.conference_ports.proofs.Positions.{owners_with_owned_at}
use Rattle.circuit_map.specs.Connections.{AreRoomed}
use Rattle.circuit_map.proofs.Rows.{unless_naming_kept_row}
use Rattle.circuit_map.proofs.Starting.{get_or-replicate_none}

-- members go on hearing as they did
pub roomed_on : (hears after : Slot → Option Circuit) (owners : List (Option Occupant)) → AreRoomed hears owners → ((z : Slot) (room since : ℕ) → hears z ≡ Some (Member room z since) → after z ≡ Some (Member room z since)) → AreRoomed after owners
roomed_on hears after owners old kept = λ k owner e. let was = old k owner e in (was.0, kept owner.member owner.room was.0 was.1)

-- nobody owns a port
pub roomed_free : (hears : Slot → Option Circuit) (owners : List (Option Occupant)) (n : ℕ) → owners ≡ replicate n None → AreRoomed hears owners
roomed_free hears owners n free = λ k owner e. let wrong = sym (ap (λ os. get_or os k None) free ∙ get_or-replicate_none n k) ∙ e in absurd (cc)

some_owner : (a b : Occupant) → Some a ≡ Some b → a ≡ b
some_owner a b e = cc

-- the lowest free port is given to a member
pub roomed_given : (hears after : Slot → Option Circuit) (owners : List (Option Occupant)) (x : Slot) (room since k : ℕ) → AreRoomed hears owners → position is_none owners ≡ Some k → after x ≡ Some (Member room x since) → ((z : Slot) (c : Circuit) → hears z ≡ Some c → after z ≡ Some c)
    → AreRoomed after (owners_with (record { room = room; member = x }) owners)
roomed_given hears after owners x room since k old lowest mine kept =
    let new : Occupant = record { room = room; member = x } in
    let inside = (position-Some is_none owners k None lowest).0 in
    subst (AreRoomed after) (sym (owners_with_owned_at new owners k lowest)) (λ j owner e. elim (cases_eq j k) [
      | inl here ↦
          let is = some_owner new owner (sym (ap (λ i. get_or (set owners k (Some new)) i None) here ∙ get_or-set_same owners k (Some new) None inside) ∙ e) in
          subst (λ (o : Occupant). (s : ℕ) × (after o.member ≡ Some (Member o.room o.member s))) is (since, mine)
      | inr away ↦
          let was = old j owner (sym (get_or-set_other owners k j (Some new) None away) ∙ e) in
          (was.0, kept owner.member (Member owner.room owner.member was.0) was.1)
    ])

-- ---- a slot cleared
-- who is cleared was no member: the members go on hearing as they did
pub others_hear_on : (hears after : Slot → Option Circuit) (x : Slot) → ((z : Slot) → after z ≡ unless_naming x (hears z)) → ((room since : ℕ) → hears x ≡ Some (Member room x since) → ⊥)
    → (z : Slot) (room since : ℕ) → hears z ≡ Some (Member room z since) → after z ≡ Some (Member room z since)
others_hear_on hears after x cleared never z room since e =
    cleared z ∙ unless_naming_kept_row x (hears z) (Member room z since) e (same_slot-false x z (λ same. never room since (subst (λ t. hears t ≡ Some (Member room t since)) (sym same) e)))

still_owned : (x : Slot) (o : Option Occupant) (owner : Occupant) → (if has x (member_of o) then None else o) ≡ Some owner → (o ≡ Some owner) × (same_slot x owner.member ≡ false)
still_owned x None owner e = absurd (cc)
still_owned x (Some other) owner e = elim (true_or_false (same_slot x other.member)) [
  | inl mine ↦ absurd (grind (arith, common_steps))
  | inr away ↦ let is : other ≡ owner = grind (arith, common_steps) in (ap (λ t. Some t) is, subst (λ (t : Occupant). same_slot x t.member ≡ false) is away)
]

-- a member's port is taken back
pub roomed_returned : (hears after : Slot → Option Circuit) (owners : List (Option Occupant)) (x : Slot) → AreRoomed hears owners → ((z : Slot) → after z ≡ unless_naming x (hears z)) → AreRoomed after (owners_without x owners)
roomed_returned hears after owners x old cleared = λ k owner e.
    let still = still_owned x (get_or owners k None) owner (sym (get_or-map (λ (port : Option Occupant). if has x (member_of port) then None else port) owners k None) ∙ e) in
    let was = old k owner still.0 in
    (was.0, cleared owner.member ∙ unless_naming_kept_row x (hears owner.member) (Member owner.room owner.member was.0) was.1 still.1)
