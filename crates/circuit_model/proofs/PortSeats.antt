-- Members and their ports: the ports of a frame have the members that exist in it, each once, and a member keeps its port.
use Rattle.std.proofs.Common.{◌≡◌, ℕ, zero, suc, ◌+◌, ◌-◌, ◌*◌, ◌<◌, ◌≤◌, Bool, true, false, not, ◌⊎◌, List, [], ◌∷◌, ◌++◌, length, replicate, Option, Some, None, ℤ, pos, ◌+ℤ◌, refl, sym, ◌∙◌, ap, subst, inl, inr, ⊎_elim, arith, sub-one, if◌then◌else◌}
use Rattle.std.specs.List.{Contains, filter, count_by}
use Rattle.std.proofs.lemmas.Int.{ints}
use Rattle.std.proofs.lemmas.Grind.{common_steps}
use Rattle.std.proofs.lemmas.List.{length-map}
use Rattle.circuit_model.specs.declared.channel.Slot.{Slot}
use Rattle.circuit_model.specs.declared.circuit.Circuit.{Circuit}
use Rattle.circuit_model.specs.declared.circuit.Circuit.TheVariants.{Pair, Member, Tone}
use Rattle.circuit_model.specs.Circuits.{same_slot, names, is_member}
use Rattle.circuit_model.specs.Holding.{Holding, empty, Command, Connect, Seat, Give_tone, Clear, Frame, after, frames, circuits_of, circuits_naming, Stands, Has_no_circuit, Has_tone, Is_seated, Is_connected, IsAllowed, AreAllowed}
use Rattle.circuit_model.specs.Ports.{Ports, free_ports, ports_with, ports_without, ports_after, port_frames, ports_of, owner_of, sum_of_owners, sum_of_members}
use Rattle.circuit_model.proofs.Slots.{true_or_false, same_slot-refl, same_slot-true}
use Rattle.circuit_model.proofs.Age.{cons_cases, at_head, in_tail, none_in_nil, first_frame, age}
use Rattle.std.proofs.Math.ListN.{get_or-eq_default}
use Rattle.circuit_model.proofs.Validity.{count_by-append, valid-empty}
use Rattle.circuit_model.proofs.FrameRecords.{valid-frames}

-- a port whose member passes a test, and a member's circuit that does
abbrev pub port_is : (Slot → Bool) → Option Slot → Bool
port_is p None = false
port_is p (Some x) = p x

abbrev pub seat_is : (Slot → Bool) → Circuit → Bool
seat_is p (Pair from to since) = false
seat_is p (Member room at since) = p at
seat_is p (Tone kind to since) = false

abbrev any_slot : Slot → Bool
any_slot x = true

-- a test, or a weight, that leaves one slot out
abbrev but : Slot → (Slot → Bool) → Slot → Bool
but x p z = if same_slot x z then false else p z

abbrev without : Slot → (Slot → ℤ) → Slot → ℤ
without x weight z = if same_slot x z then pos 0 else weight z

count_by-cons : {X : Type 0} (p : X → Bool) (x : X) (xs : List X) → count_by p (x ∷ xs) ≡ count_by p xs + (if p x then 1 else 0)
count_by-cons p x xs = grind (arith, common_steps)

-- ---- a port is given
given-length : (x : Slot) (ports : Ports) → length (ports_with x ports) ≡ length ports
given-length x [] = refl
given-length x (None ∷ ports) = refl
given-length x (Some m ∷ ports) = ap suc (given-length x ports)

given-count : (p : Slot → Bool) (x : Slot) (ports : Ports) → count_by (port_is any_slot) ports < length ports → count_by (port_is p) (ports_with x ports) ≡ count_by (port_is p) ports + (if p x then 1 else 0)
given-count p x [] free = absurd (omega arith)
given-count p x (None ∷ ports) free = grind (arith, common_steps)
given-count p x (Some m ∷ ports) free =
    let less : count_by (port_is any_slot) ports < length ports = omega (arith, free, count_by-cons (port_is any_slot) (Some m) ports) in
    let rest = given-count p x ports less in
    grind (arith, common_steps)

given-sum : (weight : Slot → ℤ) (x : Slot) (ports : Ports) → count_by (port_is any_slot) ports < length ports → sum_of_owners weight (ports_with x ports) ≡ sum_of_owners weight ports +ℤ weight x
given-sum weight x [] free = absurd (omega arith)
given-sum weight x (None ∷ ports) free = omega (arith, ints)
given-sum weight x (Some m ∷ ports) free =
    let less : count_by (port_is any_slot) ports < length ports = omega (arith, free, count_by-cons (port_is any_slot) (Some m) ports) in
    let rest = given-sum weight x ports less in
    omega (arith, ints)

owner_of_given_kept : (x z : Slot) (ports : Ports) (k : ℕ) → owner_of ports k ≡ Some z → owner_of (ports_with x ports) k ≡ Some z
owner_of_given_kept x z [] k has_z = has_z
owner_of_given_kept x z (None ∷ ports) zero has_z = let no : None ≡ Some z = has_z in absurd (cc)
owner_of_given_kept x z (None ∷ ports) (suc k) has_z = has_z
owner_of_given_kept x z (Some m ∷ ports) zero has_z = has_z
owner_of_given_kept x z (Some m ∷ ports) (suc k) has_z = owner_of_given_kept x z ports k has_z

-- ---- a port is returned
returned-count : (p : Slot → Bool) (x : Slot) (ports : Ports) → count_by (port_is p) (ports_without x ports) ≡ count_by (port_is (but x p)) ports
returned-count p x [] = refl
returned-count p x (None ∷ ports) = returned-count p x ports
returned-count p x (Some m ∷ ports) = let rest = returned-count p x ports in elim (true_or_false (same_slot x m)) [ inl here ↦ grind (arith, common_steps) | inr away ↦ grind (arith, common_steps) ]

returned-sum : (weight : Slot → ℤ) (x : Slot) (ports : Ports) → sum_of_owners weight (ports_without x ports) ≡ sum_of_owners (without x weight) ports
returned-sum weight x [] = refl
returned-sum weight x (None ∷ ports) = returned-sum weight x ports
returned-sum weight x (Some m ∷ ports) =
    let rest = returned-sum weight x ports in
    elim (true_or_false (same_slot x m)) [
      | inl here ↦ rw here (omega (arith, ints, rest))
      | inr away ↦ rw away (ap (λ (s : ℤ). weight m +ℤ s) rest)
    ]

owner_of_returned_kept : (x z : Slot) (ports : Ports) (k : ℕ) → same_slot x z ≡ false → owner_of ports k ≡ Some z → owner_of (ports_without x ports) k ≡ Some z
owner_of_returned_kept x z [] k apart has_z = has_z
owner_of_returned_kept x z (None ∷ ports) zero apart has_z = let no : None ≡ Some z = has_z in absurd (cc)
owner_of_returned_kept x z (None ∷ ports) (suc k) apart has_z = owner_of_returned_kept x z ports k apart has_z
owner_of_returned_kept x z (Some m ∷ ports) zero apart has_z =
    let e : Some m ≡ Some z = has_z in
    let is : m ≡ z = cc in
    let off : same_slot x m ≡ false = ap (same_slot x) is ∙ apart in
    rw off has_z
owner_of_returned_kept x z (Some m ∷ ports) (suc k) apart has_z = owner_of_returned_kept x z ports k apart has_z

-- ---- the members that are left
cleared-count : (p : Slot → Bool) (x : Slot) (circuits : List Circuit) → count_by (seat_is p) (filter (λ c. not (names x c)) circuits) ≡ count_by (seat_is (but x p)) circuits
cleared-count p x [] = refl
cleared-count p x (Pair from to since ∷ cs) = let rest = cleared-count p x cs in elim (true_or_false (names x (Pair from to since))) [ inl gone ↦ grind (arith, common_steps) | inr stays ↦ grind (arith, common_steps) ]
cleared-count p x (Member room at since ∷ cs) = let rest = cleared-count p x cs in elim (true_or_false (same_slot x at)) [ inl gone ↦ grind (arith, common_steps) | inr stays ↦ grind (arith, common_steps) ]
cleared-count p x (Tone kind to since ∷ cs) = let rest = cleared-count p x cs in elim (true_or_false (same_slot x to)) [ inl gone ↦ grind (arith, common_steps) | inr stays ↦ grind (arith, common_steps) ]

cleared-sum : (weight : Slot → ℤ) (x : Slot) (circuits : List Circuit) → sum_of_members weight (filter (λ c. not (names x c)) circuits) ≡ sum_of_members (without x weight) circuits
cleared-sum weight x [] = refl
cleared-sum weight x (Pair from to since ∷ cs) =
    let rest = cleared-sum weight x cs in
    elim (true_or_false (names x (Pair from to since))) [ inl gone ↦ rw gone rest | inr stays ↦ rw stays rest ]
cleared-sum weight x (Member room at since ∷ cs) =
    let rest = cleared-sum weight x cs in
    elim (true_or_false (same_slot x at)) [ inl gone ↦ rw gone (omega (arith, ints, rest)) | inr stays ↦ rw stays (ap (λ (s : ℤ). weight at +ℤ s) rest) ]
cleared-sum weight x (Tone kind to since ∷ cs) =
    let rest = cleared-sum weight x cs in
    elim (true_or_false (same_slot x to)) [ inl gone ↦ rw gone rest | inr stays ↦ rw stays rest ]

sum_of_members-append : (weight : Slot → ℤ) (cs ds : List Circuit) → sum_of_members weight (cs ++ ds) ≡ sum_of_members weight cs +ℤ sum_of_members weight ds
sum_of_members-append weight [] ds = omega (arith, ints)
sum_of_members-append weight (Pair from to since ∷ cs) ds = sum_of_members-append weight cs ds
sum_of_members-append weight (Member room at since ∷ cs) ds = let rest = sum_of_members-append weight cs ds in omega (arith, ints, rest)
sum_of_members-append weight (Tone kind to since ∷ cs) ds = sum_of_members-append weight cs ds

members_counted : (circuits : List Circuit) → count_by (seat_is any_slot) circuits ≡ count_by is_member circuits
members_counted [] = refl
members_counted (Pair from to since ∷ cs) = members_counted cs
members_counted (Member room at since ∷ cs) = let rest = members_counted cs in omega (arith, rest, count_by-cons (seat_is any_slot) (Member room at since) cs, count_by-cons is_member (Member room at since) cs)
members_counted (Tone kind to since ∷ cs) = members_counted cs

-- ---- ports that have the members of some circuits, each as often as it is seated
pub record Matched (bridges : ℕ) (circuits : List Circuit) (ports : Ports) : Type 0 where
  pub size : length ports ≡ 30 * bridges
  pub counted : (p : Slot → Bool) → count_by (port_is p) ports ≡ count_by (seat_is p) circuits
  pub added : (weight : Slot → ℤ) → sum_of_owners weight ports ≡ sum_of_members weight circuits

abbrev free_list : ℕ → Ports
free_list n = replicate n None

free_length : (n : ℕ) → length (free_list n) ≡ n
free_length zero = refl
free_length (suc n) = ap suc (free_length n)

none_taken : (p : Slot → Bool) (n : ℕ) → count_by (port_is p) (free_list n) ≡ 0
none_taken p zero = refl
none_taken p (suc n) = none_taken p n

none_added : (weight : Slot → ℤ) (n : ℕ) → sum_of_owners weight (free_list n) ≡ pos 0
none_added weight zero = refl
none_added weight (suc n) = none_added weight n

matched-unseated : (bridges : ℕ) (circuits new : List Circuit) (ports : Ports) → ((p : Slot → Bool) → count_by (seat_is p) new ≡ 0) → ((weight : Slot → ℤ) → sum_of_members weight new ≡ pos 0) → Matched bridges circuits ports → Matched bridges (circuits ++ new) ports
matched-unseated bridges circuits new ports none_counted none_weighed m = record {
  size = m.size;
  counted = λ p. omega (arith, m.counted p, count_by-append (seat_is p) circuits new, none_counted p);
  added = λ weight. omega (arith, ints, m.added weight, sum_of_members-append weight circuits new, none_weighed weight);
}

matched-after : (bridges : ℕ) (h : Holding) (ports : Ports) (c : Command) → Matched bridges h.circuits ports → IsAllowed bridges h c → Matched bridges (after h c).circuits (ports_after ports c)
matched-after bridges h ports (Connect x y) m allowed = matched-unseated bridges h.circuits (Pair x y h.next ∷ Pair y x h.next ∷ []) ports (λ p. refl) (λ weight. refl) m
matched-after bridges h ports (Seat x room) m allowed =
    let seated = allowed.1 in
    let free : count_by (port_is any_slot) ports < length ports = omega (arith, m.counted any_slot, members_counted h.circuits, m.size, seated) in
    record {
      size = given-length x ports ∙ m.size;
      counted = λ p. given-count p x ports free ∙ ap (λ n. n + (if p x then 1 else 0)) (m.counted p) ∙ (let more = count_by-append (seat_is p) h.circuits (Member room x h.next ∷ []) in grind (arith, common_steps));
      added = λ weight. omega (arith, ints, given-sum weight x ports free, m.added weight, sum_of_members-append weight h.circuits (Member room x h.next ∷ []));
    }
matched-after bridges h ports (Give_tone x kind) m allowed = matched-unseated bridges h.circuits (Tone kind x h.next ∷ []) ports (λ p. refl) (λ weight. refl) m
matched-after bridges h ports (Clear x) m allowed = record {
  size = length-map ports _ ∙ m.size;
  counted = λ p. returned-count p x ports ∙ m.counted (but x p) ∙ sym (cleared-count p x h.circuits);
  added = λ weight. returned-sum weight x ports ∙ m.added (without x weight) ∙ sym (cleared-sum weight x h.circuits);
}
matched-after bridges h ports Frame m allowed = m

-- so it is in every frame that there is
pub matched-frames : (bridges : ℕ) (h : Holding) (ports : Ports) (cs : List Command) (f : ℕ) → Matched bridges h.circuits ports → AreAllowed bridges h cs → f < length (frames h cs) → Matched bridges (circuits_of (frames h cs) f) (ports_of (port_frames ports cs) f)
matched-frames bridges h ports [] f m allowed within = absurd (omega arith)
matched-frames bridges h ports (Connect x y ∷ cs) f m allowed within = matched-frames bridges (after h (Connect x y)) ports cs f (matched-after bridges h ports (Connect x y) m allowed.0) allowed.1 within
matched-frames bridges h ports (Seat x room ∷ cs) f m allowed within = matched-frames bridges (after h (Seat x room)) (ports_with x ports) cs f (matched-after bridges h ports (Seat x room) m allowed.0) allowed.1 within
matched-frames bridges h ports (Give_tone x kind ∷ cs) f m allowed within = matched-frames bridges (after h (Give_tone x kind)) ports cs f (matched-after bridges h ports (Give_tone x kind) m allowed.0) allowed.1 within
matched-frames bridges h ports (Clear x ∷ cs) f m allowed within = matched-frames bridges (after h (Clear x)) (ports_without x ports) cs f (matched-after bridges h ports (Clear x) m tt) allowed.1 within
matched-frames bridges h ports (Frame ∷ cs) zero m allowed within = m
matched-frames bridges h ports (Frame ∷ cs) (suc f) m allowed within = matched-frames bridges (after h Frame) ports cs f m allowed.1 (omega (arith, within))

-- as many frames have ports as have circuits
pub length-port_frames_alike : (h : Holding) (ports : Ports) (cs : List Command) → length (port_frames ports cs) ≡ length (frames h cs)
length-port_frames_alike h ports [] = refl
length-port_frames_alike h ports (Connect x y ∷ cs) = length-port_frames_alike (after h (Connect x y)) ports cs
length-port_frames_alike h ports (Seat x room ∷ cs) = length-port_frames_alike (after h (Seat x room)) (ports_with x ports) cs
length-port_frames_alike h ports (Give_tone x kind ∷ cs) = length-port_frames_alike (after h (Give_tone x kind)) ports cs
length-port_frames_alike h ports (Clear x ∷ cs) = length-port_frames_alike (after h (Clear x)) (ports_without x ports) cs
length-port_frames_alike h ports (Frame ∷ cs) = ap suc (length-port_frames_alike (after h Frame) ports cs)

-- ---- what the counts tell
seat_counted : (p : Slot → Bool) (circuits : List Circuit) (room since : ℕ) (x : Slot) → Contains circuits (Member room x since) → p x ≡ true → 0 < count_by (seat_is p) circuits
seat_counted p [] room since x inside passes = absurd (none_in_nil (Member room x since) inside)
seat_counted p (c ∷ cs) room since x inside passes =
    elim (cons_cases c cs (Member room x since) inside) [
      | inl here ↦ let counts = count_by-cons (seat_is p) (Member room x since) cs in rw here (grind (arith, common_steps))
      | inr there ↦ let rest = seat_counted p cs room since x there passes in grind (arith, common_steps)
    ]

port_counted : (p : Slot → Bool) (ports : Ports) (k : ℕ) (x : Slot) → owner_of ports k ≡ Some x → p x ≡ true → 0 < count_by (port_is p) ports
port_counted p [] k x has_x passes = let no : None ≡ Some x = has_x in absurd (cc)
port_counted p (port ∷ ports) zero x has_x passes = let here : port ≡ Some x = has_x in let counts = count_by-cons (port_is p) (Some x) ports in rw here (grind (arith, common_steps))
port_counted p (port ∷ ports) (suc k) x has_x passes = let rest = port_counted p ports k x has_x passes in grind (arith, common_steps)

member_found : (x : Slot) (circuits : List Circuit) → 0 < count_by (seat_is (same_slot x)) circuits → (room : ℕ) × (since : ℕ) × Contains circuits (Member room x since)
member_found x [] counted = absurd (omega arith)
member_found x (Pair from to since ∷ cs) counted = let m = member_found x cs counted in (m.0, m.1, in_tail (Pair from to since) cs _ m.2)
member_found x (Tone kind to since ∷ cs) counted = let m = member_found x cs counted in (m.0, m.1, in_tail (Tone kind to since) cs _ m.2)
member_found x (Member room at since ∷ cs) counted =
    elim (true_or_false (same_slot x at)) [
      | inl here ↦ let is = same_slot-true x at here in (room, since, at_head (Member room at since) cs (Member room x since) (ap (λ (z : Slot). Member room z since) (sym is)))
      | inr away ↦ let fewer : 0 < count_by (seat_is (same_slot x)) cs = rw away at counted in let m = member_found x cs fewer in (m.0, m.1, in_tail (Member room at since) cs _ m.2)
    ]

port_found : (x : Slot) (ports : Ports) → 0 < count_by (port_is (same_slot x)) ports → (k : ℕ) × (k < length ports) × (owner_of ports k ≡ Some x)
port_found x [] counted = absurd (omega arith)
port_found x (None ∷ ports) counted = let p = port_found x ports counted in (suc p.0, (let l = p.1 in omega (arith, l)), p.2)
port_found x (Some m ∷ ports) counted =
    elim (true_or_false (same_slot x m)) [
      | inl here ↦ (0, omega arith, ap (λ (z : Slot). Some z) (sym (same_slot-true x m here)))
      | inr away ↦ let fewer : 0 < count_by (port_is (same_slot x)) ports = rw away at counted in let p = port_found x ports fewer in (suc p.0, (let l = p.1 in omega (arith, l)), p.2)
    ]

one_port : (x : Slot) (ports : Ports) (j k : ℕ) → count_by (port_is (same_slot x)) ports ≤ 1 → owner_of ports j ≡ Some x → owner_of ports k ≡ Some x → j ≡ k
one_port x [] j k few a b = let no : None ≡ Some x = a in absurd (cc)
one_port x (port ∷ ports) zero zero few a b = refl
one_port x (port ∷ ports) zero (suc k) few a b =
    let here : port ≡ Some x = a in
    let same = same_slot-refl x in
    let more = port_counted (same_slot x) ports k x b same in
    let both : count_by (port_is (same_slot x)) (Some x ∷ ports) ≤ 1 = rw here at few in
    absurd (grind (arith, common_steps))
one_port x (port ∷ ports) (suc j) zero few a b =
    let here : port ≡ Some x = b in
    let same = same_slot-refl x in
    let more = port_counted (same_slot x) ports j x a same in
    let both : count_by (port_is (same_slot x)) (Some x ∷ ports) ≤ 1 = rw here at few in
    absurd (grind (arith, common_steps))
one_port x (port ∷ ports) (suc j) (suc k) few a b =
    let fewer : count_by (port_is (same_slot x)) ports ≤ 1 = grind (arith, common_steps) in
    ap suc (one_port x ports j k fewer a b)

-- a slot that is in one state is seated once at the most
names_seated : (x : Slot) (c : Circuit) → seat_is (same_slot x) c ≡ true → names x c ≡ true
names_seated x (Pair from to since) h = absurd (cc)
names_seated x (Member room at since) h = h
names_seated x (Tone kind to since) h = absurd (cc)

count_by-wider : {X : Type 0} (p q : X → Bool) → ((x : X) → p x ≡ true → q x ≡ true) → (xs : List X) → count_by p (filter q xs) ≡ count_by p xs
count_by-wider p q wider [] = refl
count_by-wider p q wider (x ∷ xs) = let rest = count_by-wider p q wider xs in grind (arith, common_steps, wider x)

seated_among : (x : Slot) (circuits : List Circuit) → Stands circuits x → count_by (seat_is (same_slot x)) (circuits_naming circuits x) ≤ 1
seated_among x circuits (Has_no_circuit e) = rw e (omega arith)
seated_among x circuits (Has_tone kind since e) = rw e (omega arith)
seated_among x circuits (Is_seated room since e) = rw e (let same = same_slot-refl x in grind (arith, common_steps))
seated_among x circuits (Is_connected y since apart (inl e)) = rw e (omega arith)
seated_among x circuits (Is_connected y since apart (inr e)) = rw e (omega arith)

pub count_by-seat_is_seated_once : (x : Slot) (circuits : List Circuit) → Stands circuits x → count_by (seat_is (same_slot x)) circuits ≤ 1
count_by-seat_is_seated_once x circuits s = omega (arith, seated_among x circuits s, count_by-wider (seat_is (same_slot x)) (names x) (names_seated x) circuits)

-- ---- matched ports: each member has one, each has a member, and no two have the same
pub has_port : (bridges room since : ℕ) (circuits : List Circuit) (ports : Ports) (x : Slot) → Matched bridges circuits ports → Contains circuits (Member room x since) → (k : ℕ) × (k < 30 * bridges) × (owner_of ports k ≡ Some x)
has_port bridges room since circuits ports x m inside =
    let counted : 0 < count_by (port_is (same_slot x)) ports = omega (arith, m.counted (same_slot x), seat_counted (same_slot x) circuits room since x inside (same_slot-refl x)) in
    let p = port_found x ports counted in
    (p.0, (let l = p.1 in let size = m.size in omega (arith, l, size)), p.2)

pub has_member : (bridges k : ℕ) (circuits : List Circuit) (ports : Ports) (x : Slot) → Matched bridges circuits ports → owner_of ports k ≡ Some x → (room : ℕ) × (since : ℕ) × Contains circuits (Member room x since)
has_member bridges k circuits ports x m owned = member_found x circuits (omega (arith, m.counted (same_slot x), port_counted (same_slot x) ports k x owned (same_slot-refl x)))

pub has_one_port : (bridges j k : ℕ) (circuits : List Circuit) (ports : Ports) (x : Slot) → Matched bridges circuits ports → Stands circuits x → owner_of ports j ≡ Some x → owner_of ports k ≡ Some x → j ≡ k
has_one_port bridges j k circuits ports x m stands a b = one_port x ports j k (omega (arith, m.counted (same_slot x), count_by-seat_is_seated_once x circuits stands)) a b

-- ---- a member keeps its port
not_named : (x : Slot) (circuits : List Circuit) (c : Circuit) → Contains (filter (λ c. not (names x c)) circuits) c → names x c ≡ false
not_named x [] c inside = absurd (none_in_nil c inside)
not_named x (d ∷ ds) c inside =
    elim (true_or_false (names x d)) [
      | inl gone ↦ let rest : Contains (filter (λ c. not (names x c)) ds) c = rw gone at inside in not_named x ds c rest
      | inr stays ↦ let kept : Contains (d ∷ filter (λ c. not (names x c)) ds) c = rw stays at inside in
          ⊎_elim (λ (e : d ≡ c). ap (names x) (sym e) ∙ stays) (λ (t : Contains (filter (λ c. not (names x c)) ds) c). not_named x ds c t) (cons_cases d (filter (λ c. not (names x c)) ds) c kept)
    ]

-- the member of the first frame that is older than the next one had its port at the beginning
owner_of-ports_of_first : (h : Holding) (ports : Ports) (cs : List Command) (k room since : ℕ) (x : Slot) → Contains (circuits_of (frames h cs) 0) (Member room x since) → since < h.next → owner_of ports k ≡ Some x → owner_of (ports_of (port_frames ports cs) 0) k ≡ Some x
owner_of-ports_of_first h ports [] k room since x inside older owned = absurd (none_in_nil (Member room x since) inside)
owner_of-ports_of_first h ports (Connect y z ∷ cs) k room since x inside older owned = owner_of-ports_of_first (after h (Connect y z)) ports cs k room since x inside older owned
owner_of-ports_of_first h ports (Seat y q ∷ cs) k room since x inside older owned = owner_of-ports_of_first (after h (Seat y q)) (ports_with y ports) cs k room since x inside older (owner_of_given_kept y x ports k owned)
owner_of-ports_of_first h ports (Give_tone y kind ∷ cs) k room since x inside older owned = owner_of-ports_of_first (after h (Give_tone y kind)) ports cs k room since x inside older owned
owner_of-ports_of_first h ports (Clear y ∷ cs) k room since x inside older owned =
    let stood = first_frame (after h (Clear y)) cs (Member room x since) inside older in
    let apart : same_slot y x ≡ false = not_named y h.circuits (Member room x since) stood in
    owner_of-ports_of_first (after h (Clear y)) (ports_without y ports) cs k room since x inside older (owner_of_returned_kept y x ports k apart owned)
owner_of-ports_of_first h ports (Frame ∷ cs) k room since x inside older owned = owned

owner_of-ports_of_later : (h : Holding) (ports : Ports) (cs : List Command) (f k room since : ℕ) (x : Slot) → Contains (circuits_of (frames h cs) (suc f)) (Member room x since) → since < h.next + suc f → owner_of (ports_of (port_frames ports cs) f) k ≡ Some x → owner_of (ports_of (port_frames ports cs) (suc f)) k ≡ Some x
owner_of-ports_of_later h ports [] f k room since x inside older owned = absurd (none_in_nil (Member room x since) inside)
owner_of-ports_of_later h ports (Connect y z ∷ cs) f k room since x inside older owned = owner_of-ports_of_later (after h (Connect y z)) ports cs f k room since x inside older owned
owner_of-ports_of_later h ports (Seat y q ∷ cs) f k room since x inside older owned = owner_of-ports_of_later (after h (Seat y q)) (ports_with y ports) cs f k room since x inside older owned
owner_of-ports_of_later h ports (Give_tone y kind ∷ cs) f k room since x inside older owned = owner_of-ports_of_later (after h (Give_tone y kind)) ports cs f k room since x inside older owned
owner_of-ports_of_later h ports (Clear y ∷ cs) f k room since x inside older owned = owner_of-ports_of_later (after h (Clear y)) (ports_without y ports) cs f k room since x inside older owned
owner_of-ports_of_later h ports (Frame ∷ cs) zero k room since x inside older owned = owner_of-ports_of_first (after h Frame) ports cs k room since x inside (omega (arith, older)) owned
owner_of-ports_of_later h ports (Frame ∷ cs) (suc f) k room since x inside older owned = owner_of-ports_of_later (after h Frame) ports cs f k room since x inside (omega (arith, older)) owned

pub owner_of-ports_of_keeps : (ports : Ports) (cs : List Command) (f k room since : ℕ) (x : Slot) → Contains (circuits_of (frames empty cs) f) (Member room x since) → since < f → owner_of (ports_of (port_frames ports cs) (f - 1)) k ≡ Some x → owner_of (ports_of (port_frames ports cs) f) k ≡ Some x
owner_of-ports_of_keeps ports cs zero k room since x inside older owned = absurd (omega arith)
owner_of-ports_of_keeps ports cs (suc f) k room since x inside older owned =
    let before : owner_of (ports_of (port_frames ports cs) f) k ≡ Some x = rw sub-one at owned in
    owner_of-ports_of_later empty ports cs f k room since x inside (omega (arith, older)) before

-- ---- the frames of allowed commands
pub matched-empty : (bridges : ℕ) → Matched bridges empty.circuits (free_ports bridges)
matched-empty bridges = record { size = free_length (30 * bridges); counted = λ p. none_taken p (30 * bridges); added = λ weight. none_added weight (30 * bridges) }

pub below_or_not : (a b : ℕ) → (a < b) ⊎ (b ≤ a)
below_or_not a zero = inr (omega arith)
below_or_not zero (suc b) = inl (omega arith)
below_or_not (suc a) (suc b) = ⊎_elim (λ (h : a < b). inl (omega (arith, h))) (λ (h : b ≤ a). inr (omega (arith, h))) (below_or_not a b)

-- a frame that was recorded, or one that has neither circuits nor ports
pub data Recorded (bridges : ℕ) (cs : List Command) (f : ℕ) : Type 0 where
  Is_recorded : Matched bridges (circuits_of (frames empty cs) f) (ports_of (port_frames (free_ports bridges) cs) f) → ((x : Slot) → Stands (circuits_of (frames empty cs) f) x) → Recorded bridges cs f
  Is_beyond : circuits_of (frames empty cs) f ≡ [] → ports_of (port_frames (free_ports bridges) cs) f ≡ [] → Recorded bridges cs f

pub recorded : (bridges : ℕ) (cs : List Command) (f : ℕ) → AreAllowed bridges empty cs → Recorded bridges cs f
recorded bridges cs f allowed =
    ⊎_elim
    (λ (there : f < length (frames empty cs)).
    Is_recorded (matched-frames bridges empty (free_ports bridges) cs f (matched-empty bridges) allowed there) (valid-frames bridges empty cs f (valid-empty bridges) allowed there).standing)
    (λ (beyond : length (frames empty cs) ≤ f).
    Is_beyond (get_or-eq_default (frames empty cs) [] beyond) (get_or-eq_default (port_frames (free_ports bridges) cs) [] (omega (arith, beyond, length-port_frames_alike empty (free_ports bridges) cs))))
    (below_or_not f (length (frames empty cs)))

-- ---- the law of ports
module _ (bridges : ℕ) (cs : List Command) where
  abbrev pub circuits_in : ℕ → List Circuit
  circuits_in f = circuits_of (frames empty cs) f

  abbrev pub ports_in : ℕ → Ports
  ports_in f = ports_of (port_frames (free_ports bridges) cs) f

  unowned : (k : ℕ) (x : Slot) (ports : Ports) → ports ≡ [] → owner_of ports k ≡ Some x → ⊥
  unowned k x ports none owned = let no : None ≡ Some x = rw none at owned in cc

  pub each_in : (f room since : ℕ) (x : Slot) → Recorded bridges cs f → Contains (circuits_in f) (Member room x since) → (k : ℕ) × (k < 30 * bridges) × (owner_of (ports_in f) k ≡ Some x)
  each_in f room since x (Is_recorded m s) inside = has_port bridges room since _ _ x m inside
  each_in f room since x (Is_beyond none empty_ports) inside = absurd (none_in_nil (Member room x since) (rw none at inside))

  pub owned_in : (f k : ℕ) (x : Slot) → Recorded bridges cs f → owner_of (ports_in f) k ≡ Some x → (room : ℕ) × (since : ℕ) × Contains (circuits_in f) (Member room x since)
  owned_in f k x (Is_recorded m s) owned = has_member bridges k _ _ x m owned
  owned_in f k x (Is_beyond none empty_ports) owned = absurd (unowned k x _ empty_ports owned)

  pub alone_in : (f j k : ℕ) (x : Slot) → Recorded bridges cs f → owner_of (ports_in f) j ≡ Some x → owner_of (ports_in f) k ≡ Some x → j ≡ k
  alone_in f j k x (Is_recorded m s) a b = has_one_port bridges j k _ _ x m (s x) a b
  alone_in f j k x (Is_beyond none empty_ports) a b = absurd (unowned j x _ empty_ports a)

  pub sums_in : (f : ℕ) (weight : Slot → ℤ) → Recorded bridges cs f → sum_of_owners weight (ports_in f) ≡ sum_of_members weight (circuits_in f)
  sums_in f weight (Is_recorded m s) = m.added weight
  sums_in f weight (Is_beyond none empty_ports) = ap (sum_of_owners weight) empty_ports ∙ sym (ap (sum_of_members weight) none)

  -- a member older than a frame had its port in the frame before too
  pub owner_of-ports_in_had : AreAllowed bridges empty cs → (f k room since : ℕ) (x : Slot) → Contains (circuits_in f) (Member room x since) → since < f → owner_of (ports_in f) k ≡ Some x → owner_of (ports_in (f - 1)) k ≡ Some x
  owner_of-ports_in_had allowed f k room since x inside older owned =
      let before = each_in (f - 1) room since x (recorded bridges cs (f - 1) allowed) (age cs f (Member room x since) inside older) in
      let now = owner_of-ports_of_keeps (free_ports bridges) cs f before.0 room since x inside older before.2 in
      subst (λ j. owner_of (ports_in (f - 1)) j ≡ Some x) (alone_in f before.0 k x (recorded bridges cs f allowed) now owned) before.2
