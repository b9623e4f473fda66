-- The totals of the rooms, as members are added to them, and what each place is given of them.
use Rattle.std.proofs.Common.{◌≡◌, ℕ, zero, suc, ◌<◌, ◌≤◌, ◌*◌, eqb, List, [], ◌∷◌, length, get_or, set, get_or-set_other, get_or-set_same, Option, Some, None, ℤ, pos, ◌+ℤ◌, ◌-ℤ◌, nat_abs, refl, sym, ap, ◌∙◌, subst, inl, inr, arith}
use Rattle.std.proofs.lemmas.Int.{ints}
use Rattle.std.proofs.lemmas.Bool.{cases_eq, eq-eqb, ne_eqb}
use Rattle.std.proofs.lemmas.List.{get_or-map, length-map}
use Rattle.circuit_model.specs.ALaw.{compress}
use Rattle.circuit_model.proofs.Slots.{true_or_false}
use Rattle.conference_mix.specs.declared.mixer.RoomMember.{RoomMember}
use Rattle.conference_mix.specs.Bridge.{value_of, mixed_for}
use Rattle.conference_mix.specs.Rooms.{counted_in, room_row, room_total, given_to_member, given_at}
use Rattle.conference_mix.specs.Seats.{value_in}
use Rattle.conference_mix.proofs.Sums.{sum_of-cons, sum_of_values-others}

nothing_more : (x : ℤ) → x ≡ x +ℤ pos 0
nothing_more x = omega (arith, ints)

pub get_or-set_total : (totals : List ℤ) (q : ℕ) (member : RoomMember) (value : ℤ) → member.room < length totals → value ≡ value_of member.octet
    → get_or (set totals member.room (get_or totals member.room (pos 0) +ℤ value)) q (pos 0) ≡ get_or totals q (pos 0) +ℤ value_of (counted_in q (Some member))
get_or-set_total totals q member value inside is =
    let room = member.room in
    elim (cases_eq q room) [
      | inl same ↦
          let yes = eq-eqb room q (sym same) in
          rw yes (subst (λ r. get_or (set totals room (get_or totals room (pos 0) +ℤ value)) r (pos 0) ≡ get_or totals r (pos 0) +ℤ value_of member.octet) (sym same)
          (get_or-set_same totals room _ (pos 0) inside ∙ ap (λ (v : ℤ). get_or totals room (pos 0) +ℤ v) is))
      | inr other ↦
          let no = ne_eqb room q (λ e. other (sym e)) in
          get_or-set_other totals room q _ (pos 0) other ∙ rw no (nothing_more (get_or totals q (pos 0)))
    ]

-- one place is taken that was free
pub total-set : (q : ℕ) (places : List (Option RoomMember)) (k : ℕ) (member : Option RoomMember) → k < length places → get_or places k None ≡ None
    → room_total q (set places k member) ≡ room_total q places +ℤ value_of (counted_in q member)
total-set q [] k member inside free = absurd (omega (arith, inside))
total-set q (place ∷ places) zero member inside free =
    let before = sum_of-cons (counted_in q place) (room_row q places) in
    let after = sum_of-cons (counted_in q member) (room_row q places) in
    let nothing : value_of (counted_in q place) ≡ pos 0 = ap (λ (o : Option RoomMember). value_of (counted_in q o)) free in
    omega (arith, ints, before, after, nothing)
total-set q (place ∷ places) (suc k) member inside free =
    let rest = total-set q places k member (omega (arith, inside)) free in
    let before = sum_of-cons (counted_in q place) (room_row q places) in
    let after = sum_of-cons (counted_in q place) (room_row q (set places k member)) in
    omega (arith, ints, rest, before, after)

-- a place adds no more to a room than its value
counted-small : (q : ℕ) (place : Option RoomMember) → nat_abs (value_in place) ≤ 4032 → nat_abs (value_of (counted_in q place)) ≤ 4032
counted-small q None small = omega (arith, ints)
counted-small q (Some member) small = elim (true_or_false (eqb member.room q)) [ inl same ↦ rw same small | inr other ↦ rw other (omega (arith, ints)) ]

pub room_total_within : (q : ℕ) (places : List (Option RoomMember)) → ((k : ℕ) → k < length places → nat_abs (value_in (get_or places k None)) ≤ 4032) → nat_abs (room_total q places) ≤ 4032 * length places
room_total_within q [] small = omega (arith, ints)
room_total_within q (place ∷ places) small =
    let rest = room_total_within q places (λ k inside. small (suc k) (omega (arith, inside))) in
    let first = counted-small q place (small 0 (omega arith)) in
    let whole = sum_of-cons (counted_in q place) (room_row q places) in
    omega (arith, ints, rest, first, whole)

-- a member is given the mix of the others of its room
pub compress_given : (places : List (Option RoomMember)) (total own : ℤ) (k : ℕ) (member : RoomMember) → k < length places → get_or places k None ≡ Some member
    → total ≡ room_total member.room places → own ≡ value_of member.octet → compress (total -ℤ own) ≡ given_at k places
compress_given places total own k member inside is whole adds =
    let row = room_row member.room places in
    let size : length row ≡ length places = length-map places (counted_in member.room) in
    let yes = eq-eqb member.room member.room refl in
    let counts : value_of (get_or row k None) ≡ value_of member.octet = ap value_of (get_or-map (counted_in member.room) places k None None inside ∙ ap (counted_in member.room) is) ∙ rw yes refl in
    let left = sum_of_values-others row k None (omega (arith, inside, size)) in
    let mixed : compress (total -ℤ own) ≡ mixed_for k row = ap compress (ap (λ (z : ℤ). z -ℤ own) whole ∙ ap (λ (z : ℤ). room_total member.room places -ℤ z) (adds ∙ sym counts) ∙ left) in
    mixed ∙ sym (ap (given_to_member places k) is)
