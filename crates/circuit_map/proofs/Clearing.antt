-- The connections after a slot is cleared belong to the holding after it.
use Rattle.std.proofs.Common.{◌≡◌, ℕ, zero, suc, ◌+◌, ◌*◌, ◌<◌, ◌≤◌, Bool, true, false, not, List, [], ◌∷◌, length, Option, Some, None, refl, sym, ◌∙◌, ap, subst, inl, inr, arith, length-set, if◌then◌else◌}
use Rattle.std.specs.Prelude.{◌↔◌, IfSome}
use Rattle.std.specs.List.{count_by, filter, Contains}
use Rattle.std.proofs.lemmas.Grind.{common_steps}
use Rattle.std.proofs.lemmas.List.Quantifiers.{position-Some}
use Rattle.circuit_model.specs.declared.channel.Slot.{Slot}
use Rattle.circuit_model.specs.declared.circuit.Circuit.{Circuit}
use Rattle.circuit_model.specs.declared.circuit.Circuit.TheVariants.{Pair, Member, Tone}
use Rattle.circuit_model.specs.Circuits.{same_slot, listener, names, heard_by, is_member, unless_naming}
use Rattle.circuit_model.specs.Holding.{Holding, Valid, Clear, after}
use Rattle.circuit_model.specs.Ports.{Ports, port_of, has, ports_without}
use Rattle.circuit_model.proofs.Age.{at_head, in_tail}
use Rattle.circuit_model.proofs.Slots.{same_slot-refl, same_slot-false, same_slot-true, same_slot_cases}
use Rattle.circuit_model.proofs.Validity.{valid-clear, heard_by-clear, heard_by-listener}
use Rattle.control_memory.specs.Layout.{Layout, IsSlot, Joins, number_of}
use Rattle.control_memory.specs.Connecting.{without_path}
use Rattle.control_memory.proofs.Steps.{was_there, hop_left}
use Rattle.circuit_map.specs.Connections.{Connections, map_lines, hears_at, seats, Represents, is_pathless}
use Rattle.circuit_map.proofs.Needs.{Needs, Paired, To_port, From_port, needed_is, heard_stands}
use Rattle.circuit_map.proofs.Rows.{Hearing, cleared_row, unless_naming_kept_row}
use Rattle.circuit_map.proofs.Holdings.{Heeded, joins_needed}
use Rattle.circuit_map.proofs.Paths.{hearing_in}
use Rattle.circuit_map.proofs.Sockets.{port_line, count-returned, count-returned_mine, count-returned_other, port_of_returned_other, one_member, ports_without_returned_none, none_counted, ported, port_found}

-- ---- whom a circuit names
apart_by : (x y : Slot) → same_slot x y ≡ false → x ≡ y → ⊥
apart_by x y e same = let is : same_slot x x ≡ false = subst (λ t. same_slot x t ≡ false) (sym same) e in let yes = same_slot-refl x in cc

pair_unnamed : (x a b : Slot) (s : ℕ) → names x (Pair a b s) ≡ false → (a ≡ x → ⊥) × (b ≡ x → ⊥)
pair_unnamed x a b s e =
    let at_a : same_slot x a ≡ false = grind (arith, common_steps) in
    let at_b : same_slot x b ≡ false = grind (arith, common_steps) in
    (λ same. apart_by x a at_a (sym same), λ same. apart_by x b at_b (sym same))

pair_stays : (x a b : Slot) (s : ℕ) → (a ≡ x → ⊥) → (b ≡ x → ⊥) → names x (Pair a b s) ≡ false
pair_stays x a b s off_a off_b =
    let at_a = same_slot-false x a (λ e. off_a (sym e)) in
    let at_b = same_slot-false x b (λ e. off_b (sym e)) in
    grind (arith, common_steps)

-- ---- what is needed after it
pub record Clears (external : ℕ) (before ports : Ports) (hears after : Slot → Option Circuit) (x : Slot) : Type 0 where
  pub line : x.line < external
  pub hearing : Hearing external hears
  pub cleared : (z : Slot) → after z ≡ unless_naming x (hears z)
  pub others : (z : Slot) → (z ≡ x → ⊥) → port_of external ports z ≡ port_of external before z

pub needs_was : (external : ℕ) (before ports : Ports) (hears after : Slot → Option Circuit) (x a b : Slot) → Clears external before ports hears after x → Needs external ports after a b → Needs external before hears a b × (a ≡ x → ⊥)
needs_was external before ports hears after x a b k (Paired since e) =
    let r = cleared_row x (hears b) (Pair a b since) (sym (k.cleared b) ∙ e) in
    (Paired since r.0, (pair_unnamed x a b since r.1).0)
needs_was external before ports hears after x a b k (To_port room since e p) =
    let r = cleared_row x (hears a) (Member room a since) (sym (k.cleared a) ∙ e) in
    let off : a ≡ x → ⊥ = λ same. apart_by x a r.1 (sym same) in
    (To_port room since r.0 (sym (k.others a off) ∙ p), off)
needs_was external before ports hears after x a b k (From_port room since e p) =
    let r = cleared_row x (hears b) (Member room b since) (sym (k.cleared b) ∙ e) in
    let off : b ≡ x → ⊥ = λ same. apart_by x b r.1 (sym same) in
    let was = sym (k.others b off) ∙ p in
    (From_port room since r.0 was, λ same. let far = port_line external before b a was in let near = k.line in let line = ap (λ (s : Slot). s.line) same in omega (arith, far, near, line))

pub needs_still : (external : ℕ) (before ports : Ports) (hears after : Slot → Option Circuit) (x a b : Slot) → Clears external before ports hears after x → (a ≡ x → ⊥) → (b ≡ x → ⊥) → Needs external before hears a b → Needs external ports after a b
needs_still external before ports hears after x a b k off_a off_b (Paired since e) = Paired since (k.cleared b ∙ unless_naming_kept_row x (hears b) _ e (pair_stays x a b since off_a off_b))
needs_still external before ports hears after x a b k off_a off_b (To_port room since e p) = To_port room since (k.cleared a ∙ unless_naming_kept_row x (hears a) _ e (same_slot-false x a (λ s. off_a (sym s)))) (k.others a off_a ∙ p)
needs_still external before ports hears after x a b k off_a off_b (From_port room since e p) = From_port room since (k.cleared b ∙ unless_naming_kept_row x (hears b) _ e (same_slot-false x b (λ s. off_b (sym s)))) (k.others b off_b ∙ p)

-- ---- a slot that needs no path
pub pathless_pair : (o : Option Circuit) (y to : Slot) (s : ℕ) → is_pathless o ≡ true → o ≡ Some (Pair y to s) → ⊥
pathless_pair o y to s quiet e = let wrong : is_pathless (Some (Pair y to s)) ≡ true = subst (λ t. is_pathless t ≡ true) e quiet in cc

pub pathless_member : (o : Option Circuit) (room : ℕ) (at : Slot) (s : ℕ) → is_pathless o ≡ true → o ≡ Some (Member room at s) → ⊥
pathless_member o room at s quiet e = let wrong : is_pathless (Some (Member room at s)) ≡ true = subst (λ t. is_pathless t ≡ true) e quiet in cc

pub quiet_from : (external : ℕ) (ports : Ports) (hears : Slot → Option Circuit) (x a b : Slot) → Hearing external hears → x.line < external → is_pathless (hears x) ≡ true → Needs external ports hears a b → a ≡ x → ⊥
quiet_from external ports hears x a b hearing line quiet (Paired since e) same = pathless_pair (hears x) b a since quiet (ap hears (sym same) ∙ hearing.both_ways b a since e)
quiet_from external ports hears x a b hearing line quiet (To_port room since e p) same = pathless_member (hears x) room a since quiet (ap hears (sym same) ∙ e)
quiet_from external ports hears x a b hearing line quiet (From_port room since e p) same = let far = port_line external ports b a p in let at = ap (λ (s : Slot). s.line) same in omega (arith, far, line, at)

pub quiet_to : (external : ℕ) (ports : Ports) (hears : Slot → Option Circuit) (x a b : Slot) → x.line < external → is_pathless (hears x) ≡ true → Needs external ports hears a b → b ≡ x → ⊥
quiet_to external ports hears x a b line quiet (Paired since e) same = pathless_pair (hears x) a b since quiet (ap hears (sym same) ∙ e)
quiet_to external ports hears x a b line quiet (To_port room since e p) same = let far = port_line external ports a b p in let at = ap (λ (s : Slot). s.line) same in omega (arith, far, line, at)
quiet_to external ports hears x a b line quiet (From_port room since e p) same = pathless_member (hears x) room b since quiet (ap hears (sym same) ∙ e)

-- ---- a slot whose paths lead to a partner and back
-- all that leads to x comes from q, and nothing that is left comes from q
pub record Partner (external : ℕ) (before ports : Ports) (hears after : Slot → Option Circuit) (x q : Slot) : Type 0 where
  pub only : (a b : Slot) → Needs external before hears a b → b ≡ x → a ≡ q
  pub gone : (a b : Slot) → Needs external ports after a b → a ≡ q → ⊥

pub same_pair : (a b c d : Slot) (s t : ℕ) → Some (Pair a b s) ≡ Some (Pair c d t) → a ≡ c
same_pair a b c d s t e = cc

pub pair_partner : (external : ℕ) (before ports : Ports) (hears after : Slot → Option Circuit) (x y : Slot) (s : ℕ) → Clears external before ports hears after x → hears x ≡ Some (Pair y x s) → Partner external before ports hears after x y
pair_partner external before ports hears after x y s k hx =
    let hy = k.hearing.both_ways x y s hx in
    let near_y = (k.hearing.inside y _ hy).0 in
    record { only = λ a b n at. pair_only external before hears x y s k.line hx a b n at; gone = λ a b n at. pair_gone external before ports hears after x y s k hy near_y a b n at }
  where
    pair_only : (external : ℕ) (before : Ports) (hears : Slot → Option Circuit) (x y : Slot) (s : ℕ) → x.line < external → hears x ≡ Some (Pair y x s) → (a b : Slot) → Needs external before hears a b → b ≡ x → a ≡ y
    pair_only external before hears x y s line hx a b (Paired since e) at = same_pair a b y x since s (sym e ∙ ap hears at ∙ hx)
    pair_only external before hears x y s line hx a b (To_port room since e p) at = let far = port_line external before a b p in let same = ap (λ (s : Slot). s.line) at in absurd (omega (arith, far, line, same))
    pair_only external before hears x y s line hx a b (From_port room since e p) at = let wrong = sym e ∙ ap hears at ∙ hx in absurd (cc)

    pair_gone : (external : ℕ) (before ports : Ports) (hears after : Slot → Option Circuit) (x y : Slot) (s : ℕ) → Clears external before ports hears after x → hears y ≡ Some (Pair x y s) → y.line < external → (a b : Slot) → Needs external ports after a b → a ≡ y → ⊥
    pair_gone external before ports hears after x y s k hy near a b (Paired since e) at =
        let r = cleared_row x (hears b) (Pair a b since) (sym (k.cleared b) ∙ e) in
        (pair_unnamed x a b since r.1).1 (same_pair b a x y since s (sym (k.hearing.both_ways b a since r.0) ∙ ap hears at ∙ hy))
    pair_gone external before ports hears after x y s k hy near a b (To_port room since e p) at =
        let r = cleared_row x (hears a) (Member room a since) (sym (k.cleared a) ∙ e) in let wrong = sym r.0 ∙ ap hears at ∙ hy in cc
    pair_gone external before ports hears after x y s k hy near a b (From_port room since e p) at =
        let far = port_line external ports b a p in let same = ap (λ (s : Slot). s.line) at in omega (arith, far, near, same)

-- ---- the layout
pub one_less : (lines : ℕ) (layout : Layout) (f a b : Slot) → length layout ≡ 30 * lines → IsSlot lines f → IsSlot lines a → Joins (without_path layout f) a b ↔ (Joins layout a b × (a ≡ f → ⊥))
one_less lines layout f a b size at inside = (
  λ j. let w = was_there lines layout f size at a b j.0 inside j.1 in ((j.0, w.1), w.0),
  λ j. (j.0.0, hop_left layout f a inside.1 at.1 j.1 ∙ j.0.1),
)

pub two_less : {J K L A B : Type 0} → K ↔ (J × A) → L ↔ (K × B) → L ↔ (J × A × B)
two_less first second = (
  λ l. let k = second.0 l in let j = first.0 k.0 in (j.0, j.1, k.1),
  λ j. second.1 (first.1 (j.0, j.1), j.2),
)

-- ---- counts of circuits
kept_seats : (x z : Slot) (c : Circuit) (cs : List Circuit) → same_slot z x ≡ false → count_by (seats z) (filter (λ c. not (names x c)) cs) ≡ count_by (seats z) cs → count_by (seats z) (filter (λ c. not (names x c)) (c ∷ cs)) ≡ count_by (seats z) (c ∷ cs)
kept_seats x z (Pair from to since) cs apart rest = grind (arith, common_steps)
kept_seats x z (Member room at since) cs apart rest = elim (same_slot_cases x at) [
  | inl here ↦ let off : same_slot z at ≡ false = subst (λ t. same_slot z t ≡ false) here apart in grind (arith, common_steps)
  | inr away ↦ grind (arith, common_steps)
]
kept_seats x z (Tone kind to since) cs apart rest = grind (arith, common_steps)

pub count-kept : (x z : Slot) (cs : List Circuit) → same_slot z x ≡ false → count_by (seats z) (filter (λ c. not (names x c)) cs) ≡ count_by (seats z) cs
count-kept x z [] apart = refl
count-kept x z (c ∷ cs) apart = kept_seats x z c cs apart (count-kept x z cs apart)

gone_seats : (x : Slot) (c : Circuit) (cs : List Circuit) → count_by (seats x) (filter (λ c. not (names x c)) cs) ≡ 0 → count_by (seats x) (filter (λ c. not (names x c)) (c ∷ cs)) ≡ 0
gone_seats x (Pair from to since) cs rest = grind (arith, common_steps)
gone_seats x (Member room at since) cs rest = grind (arith, common_steps)
gone_seats x (Tone kind to since) cs rest = grind (arith, common_steps)

pub count-gone : (x : Slot) (cs : List Circuit) → count_by (seats x) (filter (λ c. not (names x c)) cs) ≡ 0
count-gone x [] = refl
count-gone x (c ∷ cs) = gone_seats x c cs (count-gone x cs)

members_step : (x : Slot) (c : Circuit) (cs : List Circuit) → count_by is_member (filter (λ c. not (names x c)) cs) + count_by (seats x) cs ≡ count_by is_member cs → count_by is_member (filter (λ c. not (names x c)) (c ∷ cs)) + count_by (seats x) (c ∷ cs) ≡ count_by is_member (c ∷ cs)
members_step x (Pair from to since) cs rest = grind (arith, common_steps)
members_step x (Member room at since) cs rest = grind (arith, common_steps)
members_step x (Tone kind to since) cs rest = grind (arith, common_steps)

pub count-members : (x : Slot) (cs : List Circuit) → count_by is_member (filter (λ c. not (names x c)) cs) + count_by (seats x) cs ≡ count_by is_member cs
count-members x [] = refl
count-members x (c ∷ cs) = members_step x c cs (count-members x cs)

-- ---- the connections
pub clears : (m : Connections) (h : Holding) (ports : Ports) (x : Slot) → x.line < m.external → Represents m h ports → Clears m.external ports (ports_without x ports) (heard_by h.circuits) (heard_by (after h (Clear x)).circuits) x
clears m h ports x line holds = record {
  line = line;
  hearing = hearing_in m h ports holds;
  cleared = λ z. heard_by-clear h.circuits x z (holds.valid.standing z);
  others = λ z apart. port_of_returned_other m.external x z ports apart;
}

ported_after : (m : Connections) (h : Holding) (ports : Ports) (x z : Slot) → Represents m h ports → count_by (has z) (ports_without x ports) ≡ count_by (seats z) (after h (Clear x)).circuits
ported_after m h ports x z holds = elim (same_slot_cases z x) [
  | inl here ↦ subst (λ t. count_by (has t) (ports_without x ports) ≡ count_by (seats t) (after h (Clear x)).circuits) (sym here) (count-returned_mine x ports ∙ sym (count-gone x h.circuits))
  | inr away ↦ count-returned_other x z ports away ∙ holds.ported z ∙ sym (count-kept x z h.circuits away)
]

pub holds_clear : (m n : Connections) (x : Slot) → Heeded m n (Clear x) → (h : Holding) (ports : Ports) → Represents m h ports
    → ((a b : Slot) → IsSlot (map_lines m) a → Joins n.layout a b ↔ Needs m.external (ports_without x ports) (heard_by (after h (Clear x)).circuits) a b)
    → Represents n (after h (Clear x)) (ports_without x ports)
holds_clear m n x w h ports holds joins =
    let valid = valid-clear m.bridges h x holds.valid in
    record {
      next = w.next ∙ holds.next;
      valid = subst (λ b. Valid b (after h (Clear x))) (sym w.bridges) valid;
      heard = λ z. w.hears z ∙ ap (unless_naming x) (holds.heard z) ∙ sym (heard_by-clear h.circuits x z (holds.valid.standing z));
      members = w.members ∙ ap (ports_without x) holds.members;
      ported = λ z. ported_after m h ports x z holds;
      taken = let a = count-returned x ports in let b = count-members x h.circuits in let c = holds.ported x in let d = holds.taken in omega (arith, a, b, c, d);
      joined = λ a b inside.
          let j = joins a b (subst (λ l. IsSlot l a) (λ i. w.external i + w.bridges i) inside) in
          let needed = needed_is m.external (ports_without x ports) m.bridges (after h (Clear x)) a b valid in
          rw w.external (λ is. needed.1 (j.0 is), λ is. j.1 (needed.0 is));
    }

-- no path goes
pub clear_pathless : (m n : Connections) (x : Slot) → x.line < m.external → is_pathless (hears_at m x) ≡ true → Heeded m n (Clear x) → n.layout ≡ m.layout → (h : Holding) (ports : Ports) → Represents m h ports → Represents n (after h (Clear x)) (ports_without x ports)
clear_pathless m n x line quiet w same h ports holds =
    let k = clears m h ports x line holds in
    let silent : is_pathless (heard_by h.circuits x) ≡ true = subst (λ o. is_pathless o ≡ true) (holds.heard x) quiet in
    holds_clear m n x w h ports holds (λ a b inside.
    let was = joins_needed m h ports a b holds inside in
    rw same (
      λ j. let n = was.0 j in needs_still m.external ports _ _ _ x a b k (quiet_from m.external ports _ x a b k.hearing line silent n) (quiet_to m.external ports _ x a b line silent n) n,
      λ n. was.1 (needs_was m.external ports _ _ _ x a b k n).0,
    ))

-- the paths to a partner and back go
pub clear_paths : (m n : Connections) (x q : Slot) → x.line < m.external → Heeded m n (Clear x)
    → ((a b : Slot) → IsSlot (map_lines m) a → Joins n.layout a b ↔ (Joins m.layout a b × (a ≡ x → ⊥) × (a ≡ q → ⊥)))
    → (h : Holding) (ports : Ports) → Represents m h ports → Partner m.external ports (ports_without x ports) (heard_by h.circuits) (heard_by (after h (Clear x)).circuits) x q → Represents n (after h (Clear x)) (ports_without x ports)
clear_paths m n x q line w less h ports holds partner =
    let k = clears m h ports x line holds in
    holds_clear m n x w h ports holds (λ a b inside.
    let was = joins_needed m h ports a b holds inside in
    let here = less a b inside in (
      λ j. let old = here.0 j in let n = was.0 old.0 in needs_still m.external ports _ _ _ x a b k old.1 (λ at. old.2 (partner.only a b n at)) n,
      λ n. let old = needs_was m.external ports _ _ _ x a b k n in here.1 (was.1 old.0, old.1, partner.gone a b n),
    ))

-- ---- the rows
pub hearing_at : (m : Connections) (h : Holding) (ports : Ports) → Represents m h ports → Hearing m.external (hears_at m)
hearing_at m h ports holds =
    let same : heard_by h.circuits ≡ hears_at m = λ i z. sym (holds.heard z) i in
    subst (Hearing m.external) same (hearing_in m h ports holds)

-- who hears by a circuit is its listener
pub heard_of_own : (m : Connections) (o : Option Circuit) (x : Slot) → Hearing m.external (hears_at m) → o ≡ hears_at m x → IfSome o (λ c. listener c ≡ x)
heard_of_own m None x k e = tt
heard_of_own m (Some c) x k e = k.own x c (sym e)

listener_named : (x : Slot) (c : Circuit) → listener c ≡ x → names x c ≡ true
listener_named x (Pair from to since) e = let same = same_slot-refl x in let is : same_slot x to ≡ true = rw e same in grind (arith, common_steps)
listener_named x (Member room at since) e = rw e (same_slot-refl x)
listener_named x (Tone kind to since) e = rw e (same_slot-refl x)

pub unless_naming_row_of_self : (external : ℕ) (hears : Slot → Option Circuit) (x : Slot) → Hearing external hears → unless_naming x (hears x) ≡ None
unless_naming_row_of_self external hears x k = go (hears x) refl
  where
    go : (o : Option Circuit) → hears x ≡ o → unless_naming x o ≡ None
    go None e = refl
    go (Some c) e = let named = listener_named x c (k.own x c e) in rw named refl

pub unless_naming_row_of_other : (external : ℕ) (hears : Slot → Option Circuit) (x z : Slot) → Hearing external hears → (z ≡ x → ⊥) → ((s : ℕ) → hears z ≡ Some (Pair x z s) → ⊥) → unless_naming x (hears z) ≡ hears z
unless_naming_row_of_other external hears x z k apart never = go (hears z) refl
  where
    go : (o : Option Circuit) → hears z ≡ o → unless_naming x o ≡ o
    go None e = refl
    go (Some (Pair from to since)) e =
        let own : to ≡ z = k.own z (Pair from to since) e in
        let off : names x (Pair from to since) ≡ false = pair_stays x from to since (λ same. never since (e ∙ (λ i. Some (Pair (same i) (own i) since)))) (λ same. apart (sym own ∙ same)) in
        rw off refl
    go (Some (Member room at since)) e = let off : same_slot x at ≡ false = same_slot-false x at (λ same. apart (sym (same ∙ k.own z (Member room at since) e))) in rw off refl
    go (Some (Tone kind to since)) e = let off : same_slot x to ≡ false = same_slot-false x to (λ same. apart (sym (same ∙ k.own z (Tone kind to since) e))) in rw off refl

-- the row of the cleared slot goes
pub rows_one : (external : ℕ) (hears : Slot → Option Circuit) (x z : Slot) → Hearing external hears → ((s : ℕ) → hears x ≡ Some (Pair z x s) → ⊥) → (if same_slot z x then None else hears z) ≡ unless_naming x (hears z)
rows_one external hears x z k never = elim (same_slot_cases z x) [
  | inl here ↦ rw here (ap (λ b. if b then None else hears x) (same_slot-refl x) ∙ sym (unless_naming_row_of_self external hears x k))
  | inr away ↦ ap (λ b. if b then None else hears z) away ∙ sym (unless_naming_row_of_other external hears x z k (apart_by z x away) (λ s e. never s (k.both_ways z x s e)))
]

-- and the row of the other end of its connection
pub rows_two : (external : ℕ) (hears : Slot → Option Circuit) (x y z : Slot) (s : ℕ) → Hearing external hears → hears x ≡ Some (Pair y x s) → (if same_slot z y then None else if same_slot z x then None else hears z) ≡ unless_naming x (hears z)
rows_two external hears x y z s k hx = elim (same_slot_cases z y) [
  | inl at_y ↦ rw at_y (ap (λ b. if b then None else if same_slot y x then None else hears y) (same_slot-refl y) ∙ sym (gone y (k.both_ways x y s hx)))
  | inr off_y ↦ elim (same_slot_cases z x) [
    | inl at_x ↦ rw at_x (same_either (same_slot x y) (same_slot x x) (hears x) (same_slot-refl x) ∙ sym (unless_naming_row_of_self external hears x k))
    | inr off_x ↦
        ap (λ b. if b then None else if same_slot z x then None else hears z) off_y ∙ ap (λ b. if b then None else hears z) off_x
        ∙ sym (unless_naming_row_of_other external hears x z k (apart_by z x off_x) (λ t e. apart_by z y off_y (same_pair z x y x t s (sym (k.both_ways z x t e) ∙ hx))))
  ]
]
  where
    gone : (y : Slot) → hears y ≡ Some (Pair x y s) → unless_naming x (hears y) ≡ None
    gone y e = let same = same_slot-refl x in rw e (let named : names x (Pair x y s) ≡ true = grind (arith, common_steps) in rw named refl)

    same_either : (b d : Bool) (o : Option Circuit) → d ≡ true → (if b then None else if d then None else o) ≡ None
    same_either true d o e = refl
    same_either false d o e = rw e refl

-- ---- two paths taken out
pub less_two : (lines : ℕ) (first second third : Layout) (x q a b : Slot) → length first ≡ 30 * lines → second ≡ without_path first x → third ≡ without_path second q → IsSlot lines x → IsSlot lines q → IsSlot lines a → Joins third a b ↔ (Joins first a b × (a ≡ x → ⊥) × (a ≡ q → ⊥))
less_two lines first second third x q a b size one two in_x in_q inside =
    let long : length second ≡ 30 * lines = ap (λ (l : Layout). length l) one ∙ length-set first (number_of x) None ∙ size in
    two_less (subst (λ l. Joins l a b ↔ (Joins first a b × (a ≡ x → ⊥))) (sym one) (one_less lines first x a b size in_x inside)) (subst (λ l. Joins l a b ↔ (Joins second a b × (a ≡ q → ⊥))) (sym two) (one_less lines second q a b long in_q inside))

-- ---- the partner of a member is its port
pub member_partner : (external : ℕ) (before ports : Ports) (hears after : Slot → Option Circuit) (x p : Slot) (room s : ℕ) → Clears external before ports hears after x → hears x ≡ Some (Member room x s) → port_of external before x ≡ Some p → Partner external before ports hears after x p
member_partner external before ports hears after x p room s k hx at_p =
    record { only = λ a b n at. port_only a b n at; gone = λ a b n at. port_gone a b n at }
  where
    far : external ≤ p.line
    far = port_line external before x p at_p

    port_only : (a b : Slot) → Needs external before hears a b → b ≡ x → a ≡ p
    port_only a b (Paired since e) at = let wrong = sym e ∙ ap hears at ∙ hx in absurd (cc)
    port_only a b (To_port room since e q) at = let beyond = port_line external before a b q in let same = ap (λ (s : Slot). s.line) at in let near = k.line in absurd (omega (arith, beyond, near, same))
    port_only a b (From_port room since e q) at = some_slot a p (sym q ∙ ap (port_of external before) at ∙ at_p)
      where
        some_slot : (a p : Slot) → Some a ≡ Some p → a ≡ p
        some_slot a p e = cc

    not_port : (a : Slot) → a.line < external → a ≡ p → ⊥
    not_port a near at = let same = ap (λ (s : Slot). s.line) at in let beyond = far in omega (arith, beyond, near, same)

    port_gone : (a b : Slot) → Needs external ports after a b → a ≡ p → ⊥
    port_gone a b (Paired since e) at =
        let r = cleared_row x (hears b) (Pair a b since) (sym (k.cleared b) ∙ e) in not_port a (k.hearing.inside a _ (k.hearing.both_ways b a since r.0)).0 at
    port_gone a b (To_port room since e q) at =
        let r = cleared_row x (hears a) (Member room a since) (sym (k.cleared a) ∙ e) in not_port a (k.hearing.inside a _ r.0).0 at
    port_gone a b (From_port room since e q) at =
        let r = cleared_row x (hears b) (Member room b since) (sym (k.cleared b) ∙ e) in
        let off : b ≡ x → ⊥ = λ same. apart_by x b r.1 (sym same) in
        off (one_member external before b x p (sym (k.others b off) ∙ q ∙ ap (λ t. Some t) at) at_p)

-- ---- who sits in no room has no port
seats_none : (x : Slot) (cs : List Circuit) → ((c : Circuit) → Contains cs c → seats x c ≡ false) → count_by (seats x) cs ≡ 0
seats_none x [] never = refl
seats_none x (c ∷ cs) never =
    let rest = seats_none x cs (λ d inside. never d (in_tail c cs d inside)) in
    let first = never c (at_head c cs c refl) in
    grind (arith, common_steps)

seats_true : (x : Slot) (c : Circuit) → seats x c ≡ true → (room : ℕ) × (at : Slot) × (since : ℕ) × (c ≡ Member room at since) × (x ≡ at)
seats_true x (Pair from to since) e = absurd (cc)
seats_true x (Member room at since) e = (room, at, since, refl, same_slot-true x at e)
seats_true x (Tone kind to since) e = absurd (cc)

not_true : (b : Bool) → (b ≡ true → ⊥) → b ≡ false
not_true true no_way = absurd (no_way refl)
not_true false no_way = refl

unseated : (h : Holding) (bridges : ℕ) (x : Slot) → Valid bridges h → ((room : ℕ) (at : Slot) (s : ℕ) → heard_by h.circuits x ≡ Some (Member room at s) → ⊥) → (c : Circuit) → Contains h.circuits c → seats x c ≡ true → ⊥
unseated h bridges x v never c inside e =
    let s = seats_true x c e in
    let found = heard_by-listener h.circuits c (v.standing (listener c)) inside in
    let for_x : listener c ≡ x = ap listener s.3 ∙ sym s.4 in
    never s.0 s.1 s.2 (sym (ap (heard_by h.circuits) for_x) ∙ found ∙ ap (λ t. Some t) s.3)

pub ports_without_nobody_returns : (m : Connections) (h : Holding) (ports : Ports) (x : Slot) → ((room : ℕ) (at : Slot) (s : ℕ) → hears_at m x ≡ Some (Member room at s) → ⊥) → Represents m h ports → ports_without x m.ports ≡ m.ports
ports_without_nobody_returns m h ports x never holds =
    let none = seats_none x h.circuits (λ c inside. not_true (seats x c) (unseated h m.bridges x holds.valid (λ room at s e. never room at s (holds.heard x ∙ e)) c inside)) in
    ports_without_returned_none x m.ports (ap (count_by (has x)) holds.members ∙ holds.ported x ∙ none)

-- ---- the paths of what is cleared
pub hears_at_connected_to : (m : Connections) (h : Holding) (ports : Ports) (x y to : Slot) (s : ℕ) → Represents m h ports → hears_at m x ≡ Some (Pair y to s) → hears_at m x ≡ Some (Pair y x s)
hears_at_connected_to m h ports x y to s holds e = let own : to ≡ x = (hearing_at m h ports holds).own x (Pair y to s) e in e ∙ (λ i. Some (Pair y (own i) s))

pub joined_there : (m : Connections) (h : Holding) (ports : Ports) (x y : Slot) (s : ℕ) → Represents m h ports → IsSlot (map_lines m) x → hears_at m x ≡ Some (Pair y x s) → Joins m.layout x y
joined_there m h ports x y s holds inside e = (joins_needed m h ports x y holds inside).1 (Paired s (sym (holds.heard y) ∙ (hearing_at m h ports holds).both_ways x y s e))

pub joined_back : (m : Connections) (h : Holding) (ports : Ports) (x y : Slot) (s : ℕ) → Represents m h ports → IsSlot (map_lines m) y → hears_at m x ≡ Some (Pair y x s) → Joins m.layout y x
joined_back m h ports x y s holds inside e = (joins_needed m h ports y x holds inside).1 (Paired s (sym (holds.heard x) ∙ e))

pub still_joined : (lines : ℕ) (first second : Layout) (x y : Slot) → length first ≡ 30 * lines → second ≡ without_path first x → IsSlot lines x → IsSlot lines y → (y ≡ x → ⊥) → Joins first y x → Joins second y x
still_joined lines first second x y size one in_x in_y apart j = subst (λ l. Joins l y x) (sym one) ((one_less lines first x y x size in_x in_y).1 (j, apart))

-- ---- a member and its port
pub hears_at_seated_in : (m : Connections) (h : Holding) (ports : Ports) (x at : Slot) (room s : ℕ) → Represents m h ports → hears_at m x ≡ Some (Member room at s) → hears_at m x ≡ Some (Member room x s)
hears_at_seated_in m h ports x at room s holds e = let own : at ≡ x = (hearing_at m h ports holds).own x (Member room at s) e in e ∙ (λ i. Some (Member room (own i) s))

pub above_zero : (n : ℕ) → (n ≡ 0 → ⊥) → 0 < n
above_zero zero never = absurd (never refl)
above_zero (suc n) never = omega arith

counted_one : (x : Slot) (cs : List Circuit) (c : Circuit) → Contains cs c → seats x c ≡ true → count_by (seats x) cs ≡ 0 → ⊥
counted_one x cs c (k, inside, e) seated none = let fails = none_counted (seats x) c cs none k inside in let is = ap (seats x) e in cc

pub member_ported : (m : Connections) (h : Holding) (ports : Ports) (x : Slot) (room s : ℕ) → Represents m h ports → hears_at m x ≡ Some (Member room x s) → port_of m.external m.ports x ≡ None → ⊥
member_ported m h ports x room s holds e none =
    let stands = (heard_stands h.circuits x (Member room x s) (sym (holds.heard x) ∙ e)).0 in
    ported m.external ports x (count_by (seats x) h.circuits) (holds.ported x) (above_zero (count_by (seats x) h.circuits) (counted_one x h.circuits (Member room x s) stands (same_slot-refl x))) (ap (λ p. port_of m.external p x) (sym holds.members) ∙ none)

pub port_slot : (external bridges : ℕ) (ports : Ports) (x p : Slot) → port_of external ports x ≡ Some p → length ports ≡ 30 * bridges → IsSlot (external + bridges) p
port_slot external bridges ports x p e size =
    let f = port_found external ports x p e in
    let inside = (position-Some (has x) ports f.0 None f.1).0 in
    let line = ap (λ (s : Slot). s.line) f.2 in let place = ap (λ (s : Slot). s.place) f.2 in
    (omega (arith, line, inside, size), omega (arith, place))

pub joined_port : (m : Connections) (h : Holding) (ports : Ports) (x p : Slot) (room s : ℕ) → Represents m h ports → IsSlot (map_lines m) x → hears_at m x ≡ Some (Member room x s) → port_of m.external m.ports x ≡ Some p → Joins m.layout x p
joined_port m h ports x p room s holds inside e at_p = (joins_needed m h ports x p holds inside).1 (To_port room s (sym (holds.heard x) ∙ e) (ap (λ q. port_of m.external q x) (sym holds.members) ∙ at_p))

pub port_joined : (m : Connections) (h : Holding) (ports : Ports) (x p : Slot) (room s : ℕ) → Represents m h ports → IsSlot (map_lines m) p → hears_at m x ≡ Some (Member room x s) → port_of m.external m.ports x ≡ Some p → Joins m.layout p x
port_joined m h ports x p room s holds inside e at_p = (joins_needed m h ports p x holds inside).1 (From_port room s (sym (holds.heard x) ∙ e) (ap (λ q. port_of m.external q x) (sym holds.members) ∙ at_p))

pub no_member_too : (o : Option Circuit) (y x at : Slot) (s room t : ℕ) → o ≡ Some (Pair y x s) → o ≡ Some (Member room at t) → ⊥
no_member_too o y x at s room t a b = let wrong = sym a ∙ b in cc

pub port_apart : (external : ℕ) (ports : Ports) (x p : Slot) → x.line < external → port_of external ports x ≡ Some p → p ≡ x → ⊥
port_apart external ports x p near e same = let far = port_line external ports x p e in let line = ap (λ (s : Slot). s.line) same in omega (arith, far, near, line)
