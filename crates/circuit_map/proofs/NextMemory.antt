-- What is kept for the next control memory follows each change of the connections.
use Rattle.std.proofs.Common.{◌≡◌, ℕ, zero, suc, ◌+◌, ◌-◌, ◌*◌, ◌<◌, ◌≤◌, Bool, true, false, List, [], ◌∷◌, length, get_or, set, replicate, Option, Some, None, refl, sym, ◌∙◌, ap, subst, inl, inr, arith, length-set, get_or-set_same, get_or-set_other, if◌then◌else◌}
use Rattle.std.specs.Prelude.{is_none, nat_lt, position, option_and_then}
use Rattle.std.specs.List.{count_by}
use Rattle.std.proofs.Math.ListN.{get_or-map}
use Rattle.std.proofs.lemmas.Bool.{cases_lt}
use Rattle.std.proofs.lemmas.Bool.Decides.{nat_tests}
use Rattle.std.proofs.lemmas.Grind.{common_steps}
use Rattle.std.proofs.lemmas.List.{get_or_past, get_or-replicate, length-replicate}
use Rattle.std.proofs.lemmas.List.Quantifiers.{position-Some}
use Rattle.circuit_model.specs.declared.channel.Slot.{Slot}
use Rattle.circuit_model.specs.declared.circuit.Circuit.{Circuit}
use Rattle.circuit_model.specs.declared.circuit.Circuit.TheVariants.{Pair, Member, Tone}
use Rattle.circuit_model.specs.Circuits.{same_slot}
use Rattle.circuit_model.specs.Holding.{Holding, Stands, Has_no_circuit, Has_tone, Is_seated, Is_connected, circuits_naming}
use Rattle.circuit_model.specs.Ports.{Ports, has, ports_with, ports_without, port_of, port_numbered}
use Rattle.circuit_model.proofs.Slots.{true_or_false, same_slot-refl, same_slot-false, same_slot_cases}
use Rattle.conference_ports.proofs.Indexes.{no_place}
use Rattle.conference_ports.proofs.Positions.{none_passes}
use Rattle.control_memory.specs.declared.heard.Heard.{Heard}
use Rattle.control_memory.specs.declared.heard.Heard.TheVariants.{Silent}
use Rattle.control_memory.specs.Layout.{IsSlot, number_of}
use Rattle.control_memory.specs.Image.{port_number, port_entry}
use Rattle.control_memory.specs.Shown.{heard_as, seated_as, member_at, served_by}
use Rattle.control_memory.proofs.Steps.{same_number}
use Rattle.circuit_map.specs.Connections.{Connections, hears_in, hears_at, seats, Represents, served_in, room_in, entry_at, IsShown}
use Rattle.circuit_map.proofs.Rows.{hears_written}
use Rattle.circuit_map.proofs.Sockets.{ports_with_given_at, portless, none_counted, count-returned_mine, port_found, port_line}
use Rattle.circuit_map.proofs.Clearing.{ports_without_nobody_returns, above_zero}
use Rattle.circuit_map.proofs.Starting.{get_or-replicate_none, hears_in_silent_rows}

-- ---- one entry written
pub entry_written : {X : Type 0} (lines : ℕ) (missing : X) (rows : List X) (x : Slot) (n : ℕ) (o : X) (at : Slot) → length rows ≡ 30 * lines → IsSlot lines x → IsSlot lines at → n ≡ number_of x
    → entry_at missing (set rows n o) at ≡ (if same_slot at x then o else entry_at missing rows at)
entry_written lines missing rows x n o at size in_x in_at is = elim (same_slot_cases at x) [
  | inl here ↦
      let line = ap (λ (s : Slot). s.line) here in let place = ap (λ (s : Slot). s.place) here in
      let index : number_of at ≡ n = omega (arith, line, place, is) in
      let inside : n < length rows = let l = in_x.0 in let q = in_x.1 in omega (arith, is, size, l, q) in
      let same : same_slot at x ≡ true = rw here (same_slot-refl x) in
      ap (λ k. get_or (set rows n o) k missing) index ∙ get_or-set_same rows n o missing inside ∙ sym (ap (λ b. if b then o else entry_at missing rows at) same)
  | inr away ↦
      get_or-set_other rows n (number_of at) o missing (λ e. let there = same_number at x in_at.1 in_x.1 (omega (arith, e, is)) in let same : same_slot at x ≡ true = rw there (same_slot-refl x) in cc)
      ∙ sym (ap (λ b. if b then o else entry_at missing rows at) away)
]

-- ---- one entry of a port written
far_entry : {X : Type 0} (external : ℕ) (entries : List (Option X)) (at : Slot) → external ≤ at.line → port_entry external entries at ≡ get_or entries (port_number external at) None
far_entry external entries at line = let far : nat_lt at.line external ≡ false = grind (arith, nat_tests) in ap (λ b. if b then None else get_or entries (port_number external at) None) far

near_entry : {X : Type 0} (external : ℕ) (entries : List (Option X)) (at : Slot) → at.line < external → port_entry external entries at ≡ None
near_entry external entries at line = let near : nat_lt at.line external ≡ true = grind (arith, nat_tests) in ap (λ b. if b then None else get_or entries (port_number external at) None) near

pub port_written : {X : Type 0} (external bridges : ℕ) (entries : List (Option X)) (p : Slot) (n : ℕ) (o : Option X) (at : Slot) → length entries ≡ 30 * bridges → IsSlot (external + bridges) p → external ≤ p.line → at.place < 30 → n ≡ port_number external p
    → port_entry external (set entries n o) at ≡ (if same_slot at p then o else port_entry external entries at)
port_written external bridges entries p n o at size in_p far_p place is = elim (cases_lt at.line external) [
  | inl line ↦
      let away : same_slot at p ≡ false = same_slot-false at p (λ e. let same = ap (λ (s : Slot). s.line) e in omega (arith, same, line, far_p)) in
      near_entry external (set entries n o) at line ∙ sym (near_entry external entries at line) ∙ sym (ap (λ b. if b then o else port_entry external entries at) away)
  | inr line ↦
      far_entry external (set entries n o) at line
      ∙ elim (same_slot_cases at p) [
        | inl here ↦
            let same : same_slot at p ≡ true = rw here (same_slot-refl p) in
            let l = ap (λ (s : Slot). s.line) here in let q = ap (λ (s : Slot). s.place) here in
            let index : port_number external at ≡ n = omega (arith, l, q, is) in
            let inside : n < length entries = let a = in_p.0 in let b = in_p.1 in omega (arith, is, size, a, b, far_p) in
            ap (λ k. get_or (set entries n o) k None) index ∙ get_or-set_same entries n o None inside ∙ sym (ap (λ b. if b then o else port_entry external entries at) same)
        | inr away ↦
            get_or-set_other entries n (port_number external at) o None (λ e.
            let b = in_p.1 in
            let there = same_number at p place in_p.1 (omega (arith, e, is, line, far_p, place, b)) in
            let same : same_slot at p ≡ true = rw there (same_slot-refl p) in cc)
            ∙ sym (far_entry external entries at line)
            ∙ sym (ap (λ b. if b then o else port_entry external entries at) away)
      ]
]

-- ---- the circuit that a slot serves
abbrev served : ℕ → Ports → (Slot → Option Circuit) → Slot → Option Circuit
served external ports hears at = option_and_then hears (served_by external ports at)

serves_itself : (external : ℕ) (ports : Ports) (hears : Slot → Option Circuit) (at : Slot) → at.line < external → served external ports hears at ≡ hears at
serves_itself external ports hears at line = let near : nat_lt at.line external ≡ true = grind (arith, nat_tests) in ap (λ b. option_and_then hears (if b then Some at else member_at external ports at)) near

serves_member : (external : ℕ) (ports : Ports) (hears : Slot → Option Circuit) (at : Slot) → external ≤ at.line → served external ports hears at ≡ option_and_then hears (member_at external ports at)
serves_member external ports hears at line = let far : nat_lt at.line external ≡ false = grind (arith, nat_tests) in ap (λ b. option_and_then hears (if b then Some at else member_at external ports at)) far

nobody_there : (external : ℕ) (ports : Ports) (x : Slot) (k : ℕ) → port_of external ports x ≡ None → get_or ports k None ≡ Some x → ⊥
nobody_there external ports x k none e = elim (cases_lt k (length ports)) [
  | inl inside ↦ let fails = none_passes (has x) ports None (no_place _ _ none) k inside in let mine = ap (has x) e in let same = same_slot-refl x in cc
  | inr past ↦ let gone = get_or_past ports k None past in let wrong = sym gone ∙ e in cc
]

-- the row of a slot without a port is written
served_row : (external : ℕ) (ports : Ports) (hears after : Slot → Option Circuit) (x : Slot) (o : Option Circuit) (at : Slot) → x.line < external → ((z : Slot) → after z ≡ (if same_slot z x then o else hears z)) → port_of external ports x ≡ None
    → served external ports after at ≡ (if same_slot at x then o else served external ports hears at)
served_row external ports hears after x o at near_x written none = elim (cases_lt at.line external) [
  | inl line ↦ serves_itself external ports after at line ∙ written at ∙ ap (λ r. if same_slot at x then o else r) (sym (serves_itself external ports hears at line))
  | inr line ↦
      let away : same_slot at x ≡ false = same_slot-false at x (λ e. let same = ap (λ (s : Slot). s.line) e in omega (arith, same, near_x, line)) in
      serves_member external ports after at line ∙ others_hear (member_at external ports at) refl ∙ sym (serves_member external ports hears at line)
      ∙ sym (ap (λ b. if b then o else served external ports hears at) away)
]
  where
    others_hear : (member : Option Slot) → member_at external ports at ≡ member → option_and_then after member ≡ option_and_then hears member
    others_hear None e = refl
    others_hear (Some z) e =
        let apart : z ≡ x → ⊥ = λ same. nobody_there external ports x _ none (e ∙ ap (λ t. Some t) same) in
        written z ∙ ap (λ b. if b then o else hears z) (same_slot-false z x apart)

-- the number of a port's slot, and of no other
port_here : (external : ℕ) (p : Slot) (k : ℕ) (at : Slot) → p ≡ port_numbered external k → at ≡ p → 30 * (at.line - external) + at.place ≡ k
port_here external p k at is here = let line = ap (λ (s : Slot). s.line) (here ∙ is) in let place = ap (λ (s : Slot). s.place) (here ∙ is) in omega (arith, line, place)

port_away : (external : ℕ) (p : Slot) (k : ℕ) (at : Slot) → p ≡ port_numbered external k → external ≤ at.line → at.place < 30 → same_slot at p ≡ false → 30 * (at.line - external) + at.place ≡ k → ⊥
port_away external p k at is far place away e =
    let line = ap (λ (s : Slot). s.line) is in let p_place = ap (λ (s : Slot). s.place) is in
    let there : at ≡ p = same_number at p place (omega (arith, p_place)) (omega (arith, line, p_place, e, far, place)) in
    let same : same_slot at p ≡ true = rw there (same_slot-refl p) in
    cc

not_port : (external : ℕ) (p : Slot) (k : ℕ) (at : Slot) → p ≡ port_numbered external k → at.line < external → same_slot at p ≡ false
not_port external p k at is near = same_slot-false at p (λ e. let line = ap (λ (s : Slot). s.line) (e ∙ is) in omega (arith, line, near))

-- the lowest free port is given
served_given : (external : ℕ) (ports : Ports) (hears : Slot → Option Circuit) (x p : Slot) (k : ℕ) (at : Slot) → position is_none ports ≡ Some k → p ≡ port_numbered external k → at.place < 30
    → served external (ports_with x ports) hears at ≡ (if same_slot at p then hears x else served external ports hears at)
served_given external ports hears x p k at lowest is place = elim (cases_lt at.line external) [
  | inl line ↦
      serves_itself external (ports_with x ports) hears at line ∙ sym (serves_itself external ports hears at line)
      ∙ sym (ap (λ b. if b then hears x else served external ports hears at) (not_port external p k at is line))
  | inr line ↦
      serves_member external (ports_with x ports) hears at line
      ∙ ap (λ (ps : Ports). option_and_then hears (member_at external ps at)) (ports_with_given_at x ports k lowest)
      ∙ elim (same_slot_cases at p) [
        | inl here ↦
            let same : same_slot at p ≡ true = rw here (same_slot-refl p) in
            ap (option_and_then hears) (ap (λ j. get_or (set ports k (Some x)) j None) (port_here external p k at is here) ∙ get_or-set_same ports k (Some x) None (position-Some is_none ports k None lowest).0)
            ∙ sym (ap (λ b. if b then hears x else served external ports hears at) same)
        | inr away ↦
            ap (option_and_then hears) (get_or-set_other ports k (30 * (at.line - external) + at.place) (Some x) None (port_away external p k at is line place away))
            ∙ sym (ap (λ b. if b then hears x else served external ports hears at) away ∙ serves_member external ports hears at line)
      ]
]

-- ---- a member has one port
seats_named : (x : Slot) (c : Circuit) (cs : List Circuit) → count_by (seats x) cs ≡ count_by (seats x) (circuits_naming cs x) → count_by (seats x) (c ∷ cs) ≡ count_by (seats x) (circuits_naming (c ∷ cs) x)
seats_named x (Pair from to since) cs rest = grind (arith, common_steps)
seats_named x (Member room at since) cs rest = grind (arith, common_steps)
seats_named x (Tone kind to since) cs rest = grind (arith, common_steps)

seats_by_name : (x : Slot) (cs : List Circuit) → count_by (seats x) cs ≡ count_by (seats x) (circuits_naming cs x)
seats_by_name x [] = refl
seats_by_name x (c ∷ cs) = seats_named x c cs (seats_by_name x cs)

seats_once : (x : Slot) (cs : List Circuit) → Stands cs x → count_by (seats x) cs ≤ 1
seats_once x cs (Has_no_circuit e) = let all = seats_by_name x cs ∙ ap (count_by (seats x)) e in omega (arith, all)
seats_once x cs (Has_tone kind s e) = let all = seats_by_name x cs ∙ ap (count_by (seats x)) e in omega (arith, all)
seats_once x cs (Is_seated room s e) = let same = same_slot-refl x in let all = seats_by_name x cs ∙ ap (count_by (seats x)) e in grind (arith, common_steps)
seats_once x cs (Is_connected y s apart (inl e)) = let all = seats_by_name x cs ∙ ap (count_by (seats x)) e in omega (arith, all)
seats_once x cs (Is_connected y s apart (inr e)) = let all = seats_by_name x cs ∙ ap (count_by (seats x)) e in omega (arith, all)

pub count_by-has_one_port : (m : Connections) (h : Holding) (ports : Ports) (x : Slot) → Represents m h ports → count_by (has x) m.ports ≤ 1
count_by-has_one_port m h ports x holds =
    let counted = ap (count_by (has x)) holds.members ∙ holds.ported x in
    let once = seats_once x h.circuits (holds.valid.standing x) in
    omega (arith, counted, once)

counted_here : {X : Type 0} (p : X → Bool) (d x : X) (xs : List X) (k : ℕ) → k < length xs → p x ≡ true → p (get_or xs k d) ≡ true → 2 ≤ count_by p (x ∷ xs)
counted_here p d x xs k inside first later =
    let one : 0 < count_by p xs = above_zero (count_by p xs) (λ none. let fails = none_counted p d xs none k inside in let wrong = sym fails ∙ later in cc) in
    grind (arith, common_steps)

counted_more : {X : Type 0} (p : X → Bool) (x : X) (xs : List X) → 2 ≤ count_by p xs → 2 ≤ count_by p (x ∷ xs)
counted_more p x xs two = elim (true_or_false (p x)) [ inl first ↦ grind (arith, common_steps) | inr other ↦ grind (arith, common_steps) ]

two_counted : {X : Type 0} (p : X → Bool) (d : X) (xs : List X) (j k : ℕ) → j < k → k < length xs → p (get_or xs j d) ≡ true → p (get_or xs k d) ≡ true → 2 ≤ count_by p xs
two_counted p d [] j k before inside a b = absurd (omega (arith, inside))
two_counted p d (x ∷ xs) j zero before inside a b = absurd (omega (arith, before))
two_counted p d (x ∷ xs) zero (suc k) before inside a b = counted_here p d x xs k (omega (arith, inside)) a b
two_counted p d (x ∷ xs) (suc j) (suc k) before inside a b = counted_more p x xs (two_counted p d xs j k (omega (arith, before)) (omega (arith, inside)) a b)

only_there : (x : Slot) (ports : Ports) (j k : ℕ) → count_by (has x) ports ≤ 1 → position (has x) ports ≡ Some k → (j ≡ k → ⊥) → has x (get_or ports j None) ≡ false
only_there x ports j k once at apart = elim (true_or_false (has x (get_or ports j None))) [
  | inr other ↦ other
  | inl mine ↦
      let there = position-Some (has x) ports k None at in
      absurd (elim (cases_lt j (length ports)) [
        | inr past ↦ let gone = get_or_past ports j None past in let no = ap (has x) gone in let wrong = sym no ∙ mine in cc
        | inl inside ↦ elim (cases_lt j k) [
          | inl before ↦ let two = two_counted (has x) None ports j k before there.0 mine there.1 in omega (arith, two, once)
          | inr behind ↦ let two = two_counted (has x) None ports k j (elim (cases_lt k j) [ inl l ↦ l | inr n ↦ absurd (apart (omega (arith, n, behind))) ]) inside there.1 mine in omega (arith, two, once)
        ]
      ])
]

returned_at : (x : Slot) (ports : Ports) (j : ℕ) → get_or (ports_without x ports) j None ≡ (if has x (get_or ports j None) then None else get_or ports j None)
returned_at x ports j = get_or-map (λ (port : Option Slot). if has x port then None else port) ports j None

-- the member's port is free again
served_returned : (external : ℕ) (ports : Ports) (hears : Slot → Option Circuit) (x p : Slot) (k : ℕ) (at : Slot) → position (has x) ports ≡ Some k → p ≡ port_numbered external k → count_by (has x) ports ≤ 1 → at.place < 30
    → served external (ports_without x ports) hears at ≡ (if same_slot at p then None else served external ports hears at)
served_returned external ports hears x p k at found is once place = elim (cases_lt at.line external) [
  | inl line ↦
      serves_itself external (ports_without x ports) hears at line ∙ sym (serves_itself external ports hears at line)
      ∙ sym (ap (λ b. if b then None else served external ports hears at) (not_port external p k at is line))
  | inr line ↦
      let j = 30 * (at.line - external) + at.place in
      serves_member external (ports_without x ports) hears at line ∙ ap (option_and_then hears) (returned_at x ports j)
      ∙ elim (same_slot_cases at p) [
        | inl here ↦
            let same : same_slot at p ≡ true = rw here (same_slot-refl p) in
            let mine : has x (get_or ports j None) ≡ true = ap (λ n. has x (get_or ports n None)) (port_here external p k at is here) ∙ (position-Some (has x) ports k None found).1 in
            ap (λ b. option_and_then hears (if b then None else get_or ports j None)) mine ∙ sym (ap (λ b. if b then None else served external ports hears at) same)
        | inr away ↦
            let other : has x (get_or ports j None) ≡ false = only_there x ports j k once found (port_away external p k at is line place away) in
            ap (λ b. option_and_then hears (if b then None else get_or ports j None)) other
            ∙ sym (ap (λ b. if b then None else served external ports hears at) away ∙ serves_member external ports hears at line)
      ]
]

-- ---- what is kept
-- a room is shown by ports alone
room_by : (external : ℕ) (at : Slot) (s t : Option Circuit) → (external ≤ at.line → s ≡ t) → (if nat_lt at.line external then None else seated_as s) ≡ (if nat_lt at.line external then None else seated_as t)
room_by external at s t same = elim (cases_lt at.line external) [
  | inl line ↦ let near : nat_lt at.line external ≡ true = grind (arith, nat_tests) in ap (λ b. if b then None else seated_as s) near ∙ sym (ap (λ b. if b then None else seated_as t) near)
  | inr line ↦ ap (λ o. if nat_lt at.line external then None else seated_as o) (same line)
]

heard_if : (b : Bool) (s t : Option Circuit) → heard_as (if b then s else t) ≡ (if b then heard_as s else heard_as t)
heard_if true s t = refl
heard_if false s t = refl

-- nobody hears, and no port is taken
shown_silent : (external bridges n k : ℕ) → IsShown external bridges (replicate n None) (replicate k None) (replicate (30 * (external + bridges)) Silent) (replicate (30 * bridges) None)
shown_silent external bridges n k = record {
  hearers = length-replicate (30 * (external + bridges)) Silent;
  sitters = length-replicate (30 * bridges) None;
  hears = λ at line place. get_or-replicate (30 * (external + bridges)) (number_of at) Silent Silent (omega (arith, line, place)) ∙ sym (ap heard_as (nothing at));
  sits = λ at line place. no_entry (nat_lt at.line external) _ (get_or-replicate_none (30 * bridges) (port_number external at)) ∙ sym (room_by external at (served_in external (replicate n None) (replicate k None) at) None (λ far. nothing at) ∙ no_room (nat_lt at.line external));
}
  where
    no_room : (b : Bool) → (if b then None else seated_as None) ≡ None
    no_room true = refl
    no_room false = refl

    no_entry : (b : Bool) (o : Option (ℕ × ℕ)) → o ≡ None → (if b then None else o) ≡ None
    no_entry true o e = refl
    no_entry false o e = e

    silent : (o : Option Slot) → option_and_then (hears_in external (replicate n None)) o ≡ None
    silent None = refl
    silent (Some z) = hears_in_silent_rows external n z

    nothing : (at : Slot) → served_in external (replicate n None) (replicate k None) at ≡ None
    nothing at = silent (served_by external (replicate k None) at)

pub shown_start : (external bridges n k : ℕ) (heard : List (Option Circuit)) (ports : Ports) (hearing : List Heard) (sitting : List (Option (ℕ × ℕ)))
    → heard ≡ replicate n None → ports ≡ replicate k None → hearing ≡ replicate (30 * (external + bridges)) Silent → sitting ≡ replicate (30 * bridges) None → IsShown external bridges heard ports hearing sitting
shown_start external bridges n k heard ports hearing sitting is_heard is_ports is_hearing is_sitting = rw is_heard (rw is_ports (rw is_hearing (rw is_sitting (shown_silent external bridges n k))))

-- the same ports
pub shown_by : (external bridges : ℕ) (heard : List (Option Circuit)) (ports later : Ports) (hearing : List Heard) (sitting : List (Option (ℕ × ℕ))) → later ≡ ports → IsShown external bridges heard ports hearing sitting → IsShown external bridges heard later hearing sitting
shown_by external bridges heard ports later hearing sitting same shown = subst (λ (q : Ports). IsShown external bridges heard q hearing sitting) (sym same) shown

-- what is kept, written as it is heard
pub shown_as : (external bridges : ℕ) (heard : List (Option Circuit)) (ports : Ports) (hearing later : List Heard) (sitting : List (Option (ℕ × ℕ))) → later ≡ hearing → IsShown external bridges heard ports hearing sitting → IsShown external bridges heard ports later sitting
shown_as external bridges heard ports hearing later sitting same shown = subst (λ h. IsShown external bridges heard ports h sitting) (sym same) shown

-- the row of a slot without a port
pub shown_row : (external bridges : ℕ) (heard : List (Option Circuit)) (ports : Ports) (hearing : List Heard) (sitting : List (Option (ℕ × ℕ))) (x : Slot) (o : Option Circuit) (n : ℕ)
    → IsShown external bridges heard ports hearing sitting → length heard ≡ 30 * external → x.line < external → x.place < 30 → port_of external ports x ≡ None → n ≡ number_of x
    → IsShown external bridges (set heard n o) ports (set hearing n (heard_as o)) sitting
shown_row external bridges heard ports hearing sitting x o n old size line_x place_x none is =
    let in_x : IsSlot (external + bridges) x = (omega (arith, line_x), place_x) in
    let written : (z : Slot) → hears_in external (set heard n o) z ≡ (if same_slot z x then o else hears_in external heard z) = λ z. (λ i. hears_in external (set heard (is i) o) z) ∙ hears_written external heard x o z size line_x place_x in
    let serves : (at : Slot) → served_in external (set heard n o) ports at ≡ (if same_slot at x then o else served_in external heard ports at) = λ at. served_row external ports (hears_in external heard) (hears_in external (set heard n o)) x o at line_x written none in
    record {
      hearers = length-set hearing n (heard_as o) ∙ old.hearers;
      sitters = old.sitters;
      hears = λ at line place.
          entry_written (external + bridges) Silent hearing x n (heard_as o) at old.hearers in_x (line, place) is ∙ ap (λ h. if same_slot at x then heard_as o else h) (old.hears at line place)
          ∙ sym (ap heard_as (serves at) ∙ heard_if (same_slot at x) o (served_in external heard ports at));
      sits = λ at line place. old.sits at line place ∙ sym (room_by external at (served_in external (set heard n o) ports at) (served_in external heard ports at) (λ far.
          serves at ∙ ap (λ b. if b then o else served_in external heard ports at) (same_slot-false at x (λ e. let same = ap (λ (s : Slot). s.line) e in omega (arith, same, far, line_x)))));
    }

-- a port serves another circuit, or none
shown_port : (external bridges : ℕ) (heard : List (Option Circuit)) (ports later : Ports) (hearing : List Heard) (sitting : List (Option (ℕ × ℕ))) (p : Slot) (o : Option Circuit) (n q : ℕ)
    → IsShown external bridges heard ports hearing sitting → IsSlot (external + bridges) p → external ≤ p.line → n ≡ number_of p → q ≡ port_number external p → ((at : Slot) → at.place < 30 → served_in external heard later at ≡ (if same_slot at p then o else served_in external heard ports at))
    → IsShown external bridges heard later (set hearing n (heard_as o)) (set sitting q (seated_as o))
shown_port external bridges heard ports later hearing sitting p o n q old in_p far_p is is_port serves = record {
  hearers = length-set hearing n (heard_as o) ∙ old.hearers;
  sitters = length-set sitting q (seated_as o) ∙ old.sitters;
  hears = λ at line place.
      entry_written (external + bridges) Silent hearing p n (heard_as o) at old.hearers in_p (line, place) is ∙ ap (λ h. if same_slot at p then heard_as o else h) (old.hears at line place)
      ∙ sym (ap heard_as (serves at place) ∙ heard_if (same_slot at p) o (served_in external heard ports at));
  sits = λ at line place.
      port_written external bridges sitting p q (seated_as o) at old.sitters in_p far_p place is_port ∙ ap (λ r. if same_slot at p then seated_as o else r) (old.sits at line place)
      ∙ sym (ap (λ s. if nat_lt at.line external then None else seated_as s) (serves at place) ∙ room_if at);
}
  where
    room_if : (at : Slot) → (if nat_lt at.line external then None else seated_as (if same_slot at p then o else served_in external heard ports at)) ≡ (if same_slot at p then seated_as o else room_in external heard ports at)
    room_if at = elim (same_slot_cases at p) [
      | inl here ↦
          let same : same_slot at p ≡ true = rw here (same_slot-refl p) in
          let line = ap (λ (s : Slot). s.line) here in
          let beyond : external ≤ at.line = omega (arith, line, far_p) in
          let far : nat_lt at.line external ≡ false = grind (arith, nat_tests) in
          ap (λ b. if b then None else seated_as (if same_slot at p then o else served_in external heard ports at)) far ∙ ap (λ b. seated_as (if b then o else served_in external heard ports at)) same
          ∙ sym (ap (λ b. if b then seated_as o else room_in external heard ports at) same)
      | inr away ↦
          ap (λ b. if nat_lt at.line external then None else seated_as (if b then o else served_in external heard ports at)) away ∙ sym (ap (λ b. if b then seated_as o else room_in external heard ports at) away)
    ]

-- the lowest free port is given to a member
pub shown_given : (external bridges : ℕ) (heard : List (Option Circuit)) (ports : Ports) (hearing : List Heard) (sitting : List (Option (ℕ × ℕ))) (x p : Slot) (k : ℕ) (o : Option Circuit) (n q : ℕ)
    → IsShown external bridges heard ports hearing sitting → position is_none ports ≡ Some k → p ≡ port_numbered external k → IsSlot (external + bridges) p → hears_in external heard x ≡ o → n ≡ number_of p → q ≡ port_number external p
    → IsShown external bridges heard (ports_with x ports) (set hearing n (heard_as o)) (set sitting q (seated_as o))
shown_given external bridges heard ports hearing sitting x p k o n q old lowest is in_p hears_x number is_port =
    shown_port external bridges heard ports (ports_with x ports) hearing sitting p o n q old in_p (let line = ap (λ (s : Slot). s.line) is in omega (arith, line)) number is_port
    (λ at place. served_given external ports (hears_in external heard) x p k at lowest is place ∙ ap (λ s. if same_slot at p then s else served_in external heard ports at) hears_x)

-- a member's port is taken back
pub shown_returned : (external bridges : ℕ) (heard : List (Option Circuit)) (ports : Ports) (hearing : List Heard) (sitting : List (Option (ℕ × ℕ))) (x p : Slot) (n q : ℕ)
    → IsShown external bridges heard ports hearing sitting → port_of external ports x ≡ Some p → count_by (has x) ports ≤ 1 → IsSlot (external + bridges) p → n ≡ number_of p → q ≡ port_number external p
    → IsShown external bridges heard (ports_without x ports) (set hearing n Silent) (set sitting q None)
shown_returned external bridges heard ports hearing sitting x p n q old at_p once in_p number is_port =
    let f = port_found external ports x p at_p in
    shown_port external bridges heard ports (ports_without x ports) hearing sitting p None n q old in_p (port_line external ports x p at_p) number is_port
    (λ at place. served_returned external ports (hears_in external heard) x p f.0 at f.1 f.2 once place)

-- ---- who has no port
pub port_of_returned_portless : (external : ℕ) (ports : Ports) (x : Slot) → port_of external (ports_without x ports) x ≡ None
port_of_returned_portless external ports x = portless external (ports_without x ports) x (count-returned_mine x ports)

pub port_of_unseated_portless : (m : Connections) (h : Holding) (ports : Ports) (x : Slot) → ((room : ℕ) (at : Slot) (s : ℕ) → hears_at m x ≡ Some (Member room at s) → ⊥) → Represents m h ports → port_of m.external m.ports x ≡ None
port_of_unseated_portless m h ports x never holds = ap (λ ps. port_of m.external ps x) (sym (ports_without_nobody_returns m h ports x never holds)) ∙ port_of_returned_portless m.external m.ports x
