-- The connections after a member is seated belong to the holding after it.
use Rattle.std.proofs.Common.{◌≡◌, ℕ, suc, ◌+◌, ◌*◌, ◌==◌, ◌<◌, ◌≤◌, ◌⊎◌, true, false, List, [], ◌∷◌, cond, ltb, get_or, length, Option, Some, None, refl, sym, ◌∙◌, ap, subst, inl, inr, arith, if◌then◌else◌}
use Rattle.std.specs.Prelude.{◌↔◌, is_some, is_none, position, option_map}
use Rattle.std.specs.List.{count_by, position_or_len}
use Rattle.std.proofs.lemmas.Bool.{ne_eqb}
use Rattle.std.proofs.lemmas.List.{length-map}
use Rattle.std.proofs.lemmas.List.Quantifiers.{position-Some}
use Rattle.std.proofs.lemmas.Grind.{common_steps}
use Rattle.circuit_model.specs.declared.channel.Slot.{Slot}
use Rattle.circuit_model.specs.declared.circuit.Circuit.{Circuit}
use Rattle.circuit_model.specs.declared.circuit.Circuit.TheVariants.{Pair, Member, Tone}
use Rattle.circuit_model.specs.Circuits.{same_slot, heard_by, is_member, is_idle}
use Rattle.circuit_model.specs.Holding.{Holding, Valid, Seat, after}
use Rattle.circuit_model.specs.Ports.{Ports, port_of, port_numbered, has, ports_with}
use Rattle.conference_ports.specs.declared.occupant.Occupant.{Occupant}
use Rattle.conference_ports.specs.Owners.{members, member_of}
use Rattle.conference_ports.proofs.Positions.{none_passes}
use Rattle.circuit_model.proofs.Hearing.{heard_by-one}
use Rattle.circuit_model.proofs.Validity.{count_by-append, valid-seat}
use Rattle.control_memory.specs.Layout.{IsSlot, Joins}
use Rattle.circuit_map.specs.Connections.{Connections, map_lines, hears_at, hears_after, seats, Represents, Obeys}
use Rattle.circuit_map.proofs.Needs.{Needs, Paired, To_port, From_port, needed_is}
use Rattle.circuit_map.proofs.Rows.{Hearing, adds, Fresh, Fresh_pair, Fresh_to, Fresh_from, needs_kept, needs_split}
use Rattle.circuit_map.proofs.Holdings.{idle_in, joins_needed}
use Rattle.circuit_map.proofs.Sockets.{port_of_given_other, port_of_given_here, count-given, count_by-is_some_one_free, count_by-is_some_none_free, portless, port_found, one_number}
use Rattle.circuit_map.proofs.Paths.{hearing_in}

-- a member's row is written, the member has the lowest free port, and the layout has two paths more
pub record Seated (m n : Connections) (x p : Slot) (room k : ℕ) : Type 0 where
  pub external : n.external ≡ m.external
  pub bridges : n.bridges ≡ m.bridges
  pub next : n.next ≡ m.next
  pub hears : (z : Slot) → hears_at n z ≡ hears_after m (Seat x room) z
  pub lowest : position is_none m.ports ≡ Some k
  pub port : p ≡ port_numbered m.external k
  pub members : n.ports ≡ ports_with x m.ports
  pub joins : (a b : Slot) → IsSlot (map_lines m) a → Joins n.layout a b ↔ ((Joins m.layout a b ⊎ ((a ≡ x) × (b ≡ p))) ⊎ ((a ≡ p) × (b ≡ x)))

-- who isn't x has the port that it had
moved_needs : (external : ℕ) (before ports : Ports) (hears : Slot → Option Circuit) (x a b : Slot) → hears x ≡ None → ((z : Slot) → (z ≡ x → ⊥) → port_of external ports z ≡ port_of external before z) → Needs external before hears a b → Needs external ports hears a b
moved_needs external before ports hears x a b none others (Paired since e) = Paired since e
moved_needs external before ports hears x a b none others (To_port room since e p) = To_port room since e (others a (λ same. let wrong = sym (ap hears same ∙ none) ∙ e in cc) ∙ p)
moved_needs external before ports hears x a b none others (From_port room since e p) = From_port room since e (others b (λ same. let wrong = sym (ap hears same ∙ none) ∙ e in cc) ∙ p)

some_slot : (a b : Slot) → Some a ≡ Some b → a ≡ b
some_slot a b e = cc

fresh_member : (external : ℕ) (ports : Ports) (x p : Slot) (room s : ℕ) (a b : Slot) → port_of external ports x ≡ Some p → Fresh external ports x (Some (Member room x s)) a b → ((a ≡ x) × (b ≡ p)) ⊎ ((a ≡ p) × (b ≡ x))
fresh_member external ports x p room s a b at_p (Fresh_pair since at e) = absurd (cc)
fresh_member external ports x p room s a b at_p (Fresh_to r since at e q) = inl (at, some_slot b p (sym q ∙ ap (port_of external ports) at ∙ at_p))
fresh_member external ports x p room s a b at_p (Fresh_from r since at e q) = inr (some_slot a p (sym q ∙ ap (port_of external ports) at ∙ at_p), at)

-- no circuit seats an idle slot
seated_is_named : (x : Slot) (c : Circuit) (cs : List Circuit) → (is_idle cs x ≡ true → count_by (seats x) cs ≡ 0) → is_idle (c ∷ cs) x ≡ true → count_by (seats x) (c ∷ cs) ≡ 0
seated_is_named x (Pair from to since) cs rest idle = grind (arith, common_steps)
seated_is_named x (Member room at since) cs rest idle = grind (arith, common_steps)
seated_is_named x (Tone kind to since) cs rest idle = grind (arith, common_steps)

pub count_by-seats_idle : (circuits : List Circuit) (x : Slot) → is_idle circuits x ≡ true → count_by (seats x) circuits ≡ 0
count_by-seats_idle [] x idle = refl
count_by-seats_idle (c ∷ cs) x idle = seated_is_named x c cs (count_by-seats_idle cs x) idle

pub holds_seat : (m n : Connections) (x p : Slot) (room k : ℕ) → length m.ports ≡ 30 * m.bridges → hears_at m x ≡ None → Seated m n x p room k → Obeys m n (Seat x room)
holds_seat m n x p room k sockets none w h ports holds =
    let idle = idle_in m h ports x holds none in
    let later : Holding = after h (Seat x room) in
    let lowest : position is_none ports ≡ Some k = subst (λ q. position is_none q ≡ Some k) holds.members w.lowest in
    let long : length ports ≡ 30 * m.bridges = subst (λ (q : Ports). length q ≡ 30 * m.bridges) holds.members sockets in
    let room_left : count_by is_member h.circuits < 30 * m.bridges = let free = count_by-is_some_one_free ports k lowest in let taken = holds.taken in omega (arith, free, taken, long) in
    let valid = valid-seat m.bridges h x room holds.valid idle room_left in
    let one : (z : Slot) → heard_by later.circuits z ≡ (if same_slot z x then Some (Member room x h.next) else heard_by h.circuits z) = λ z. heard_by-one h.circuits (Member room x h.next) z idle in
    let silent : heard_by h.circuits x ≡ None = sym (holds.heard x) ∙ none in
    let more = adds (heard_by h.circuits) (heard_by later.circuits) x (Some (Member room x h.next)) one silent in
    let others : (z : Slot) → (z ≡ x → ⊥) → port_of m.external (ports_with x ports) z ≡ port_of m.external ports z = λ z apart. port_of_given_other m.external x z ports k lowest apart in
    let free_of_x : count_by (has x) ports ≡ 0 = holds.ported x ∙ count_by-seats_idle h.circuits x idle in
    let at_p : port_of m.external (ports_with x ports) x ≡ Some p = port_of_given_here m.external x ports k lowest free_of_x ∙ ap (λ q. Some q) (sym w.port) in
    record {
      next = w.next ∙ holds.next;
      valid = subst (λ b. Valid b later) (sym w.bridges) valid;
      heard = λ z.
          w.hears z ∙ ap (λ r. if same_slot z x then Some (Member room x m.next) else r) (holds.heard z) ∙ ap (λ k. if same_slot z x then Some (Member room x k) else heard_by h.circuits z) holds.next
          ∙ sym (one z);
      members = w.members ∙ ap (ports_with x) holds.members;
      ported = λ z. count-given (has z) x ports k refl lowest ∙ ap (λ c. c + count_by (has z) (Some x ∷ [])) (holds.ported z) ∙ sym (count_by-append (seats z) h.circuits (Member room x h.next ∷ []));
      taken = count-given is_some x ports k refl lowest ∙ ap (λ c. c + 1) holds.taken ∙ sym (count_by-append is_member h.circuits (Member room x h.next ∷ []));
      joined = λ a b inside.
          let in_m : IsSlot (map_lines m) a = subst (λ l. IsSlot l a) (λ i. w.external i + w.bridges i) inside in
          let was = joins_needed m h ports a b holds in_m in
          let needed = needed_is m.external (ports_with x ports) m.bridges later a b valid in
          let joins = w.joins a b in_m in
          rw w.external (
            λ j. needed.1 (elim (joins.0 j) [
              | inl early ↦ elim early [
                | inl old ↦ needs_kept m.external (ports_with x ports) _ _ x _ a b more (moved_needs m.external ports (ports_with x ports) (heard_by h.circuits) x a b silent others (was.0 old))
                | inr there ↦ subst (λ t. Needs m.external (ports_with x ports) (heard_by later.circuits) t b) (sym there.0) (subst (λ t. Needs m.external (ports_with x ports) (heard_by later.circuits) x t) (sym there.1) (To_port room h.next more.new at_p))
              ]
              | inr back ↦ subst (λ t. Needs m.external (ports_with x ports) (heard_by later.circuits) t b) (sym back.0) (subst (λ t. Needs m.external (ports_with x ports) (heard_by later.circuits) p t) (sym back.1) (From_port room h.next more.new at_p))
            ]),
            λ is. joins.1 (elim (needs_split m.external (ports_with x ports) _ _ x _ a b more (needed.0 is)) [
              | inl fresh ↦ elim (fresh_member m.external (ports_with x ports) x p room h.next a b at_p fresh) [ inl there ↦ inl (inr there) | inr back ↦ inr back ]
              | inr old ↦ inl (inl (was.1 (moved_needs m.external (ports_with x ports) ports (heard_by h.circuits) x a b silent (λ z apart. sym (others z apart)) old)))
            ]),
          );
    }

-- ---- the lowest free port
lowest_found : (external : ℕ) (o : Option ℕ) (p : Slot) → option_map (port_numbered external) o ≡ Some p → (k : ℕ) × (o ≡ Some k) × (p ≡ port_numbered external k)
lowest_found external None p e = absurd (cc)
lowest_found external (Some k) p e = (k, refl, some_slot p (port_numbered external k) (sym e))

same_free : (owner : Option Occupant) → is_none (member_of owner) ≡ is_none owner
same_free None = refl
same_free (Some owner) = refl

free_step : (owner : Option Occupant) (owners : List (Option Occupant)) → position_or_len is_none (members owners) ≡ position_or_len is_none owners → position_or_len is_none (members (owner ∷ owners)) ≡ position_or_len is_none (owner ∷ owners)
free_step None owners rest = refl
free_step (Some owner) owners rest = ap (λ n. 1 + n) rest

free_found : (owners : List (Option Occupant)) → position_or_len is_none (members owners) ≡ position_or_len is_none owners
free_found [] = refl
free_found (owner ∷ owners) = free_step owner owners (free_found owners)

pub position-members : (owners : List (Option Occupant)) → position is_none (members owners) ≡ position is_none owners
position-members owners =
    ap (λ n. cond (ltb n (length (members owners))) (Some n) None) (free_found owners) ∙ ap (λ n. cond (ltb (position_or_len is_none owners) n) (Some (position_or_len is_none owners)) None) (length-map owners member_of)

pub lowest_port : (external : ℕ) (owners : List (Option Occupant)) (p : Slot) → option_map (port_numbered external) (position is_none owners) ≡ Some p → (k : ℕ) × (position is_none (members owners) ≡ Some k) × (p ≡ port_numbered external k)
lowest_port external owners p e = let f = lowest_found external (position is_none owners) p e in (f.0, position-members owners ∙ f.1, f.2)

pub no_number : (external : ℕ) (o : Option ℕ) → option_map (port_numbered external) o ≡ None → o ≡ None
no_number external None e = refl
no_number external (Some k) e = absurd (cc)

pub no_lowest : (external : ℕ) (owners : List (Option Occupant)) → option_map (port_numbered external) (position is_none owners) ≡ None → position is_none (members owners) ≡ None
no_lowest external owners e = position-members owners ∙ no_number external (position is_none owners) e

pub port_of_idle_portless : (m : Connections) (h : Holding) (ports : Ports) (x : Slot) → Represents m h ports → hears_at m x ≡ None → port_of m.external m.ports x ≡ None
port_of_idle_portless m h ports x holds none =
    ap (λ p. port_of m.external p x) holds.members ∙ portless m.external ports x (holds.ported x ∙ count_by-seats_idle h.circuits x (idle_in m h ports x holds none))

-- as many members as ports where no port is free, and only there
pub count_by-is_member_full : (m : Connections) (h : Holding) (ports : Ports) → Represents m h ports → length m.ports ≡ 30 * m.bridges → position is_none m.ports ≡ None → count_by is_member h.circuits ≡ 30 * m.bridges
count_by-is_member_full m h ports holds long none = let full = count_by-is_some_none_free m.ports none in let same = ap (count_by is_some) holds.members in let taken = holds.taken in omega (arith, full, same, taken, long)

pub not_full : (m : Connections) (h : Holding) (ports : Ports) (k : ℕ) → Represents m h ports → length m.ports ≡ 30 * m.bridges → position is_none m.ports ≡ Some k → count_by is_member h.circuits ≡ 30 * m.bridges → ⊥
not_full m h ports k holds long free full = let left = count_by-is_some_one_free m.ports k free in let same = ap (count_by is_some) holds.members in let taken = holds.taken in omega (arith, left, same, taken, long, full)

-- whether any port is free tells whether there are as many members as ports
pub told_full : (m : Connections) (h : Holding) (ports : Ports) (o : Option ℕ) → Represents m h ports → length m.ports ≡ 30 * m.bridges → position is_none m.ports ≡ o
    → is_none o ≡ (count_by is_member h.circuits == 30 * m.bridges)
told_full m h ports None holds long none = let full = count_by-is_member_full m h ports holds long none in grind (arith, common_steps, full)
told_full m h ports (Some k) holds long free = sym (ne_eqb _ _ (not_full m h ports k holds long free))

-- ---- a free port is joined to nothing
pub free_port_slot : (external bridges : ℕ) (ports : Ports) (p : Slot) (k : ℕ) → position is_none ports ≡ Some k → length ports ≡ 30 * bridges → p ≡ port_numbered external k → IsSlot (external + bridges) p × (external ≤ p.line)
free_port_slot external bridges ports p k free long is =
    let inside = (position-Some is_none ports k None free).0 in
    let line = ap (λ (s : Slot). s.line) is in let place = ap (λ (s : Slot). s.place) is in
    ((omega (arith, line, inside, long), omega (arith, place)), omega (arith, line))

had_port : (external : ℕ) (ports : Ports) (x p : Slot) (k : ℕ) → position is_none ports ≡ Some k → p ≡ port_numbered external k → port_of external ports x ≡ Some p → ⊥
had_port external ports x p k free is e =
    let f = port_found external ports x p e in
    let same = one_number external f.0 k (sym f.2 ∙ is) in
    let mine = (position-Some (has x) ports f.0 None f.1).1 in
    let nobody = (position-Some is_none ports k None free).1 in
    taken_and_free x (get_or ports k None) (ap (λ n. has x (get_or ports n None)) (sym same) ∙ mine) nobody
  where
    taken_and_free : (x : Slot) (o : Option Slot) → has x o ≡ true → is_none o ≡ true → ⊥
    taken_and_free x None a b = cc
    taken_and_free x (Some y) a b = cc

port_needs_none : (external : ℕ) (ports : Ports) (hears : Slot → Option Circuit) (p b : Slot) (k : ℕ) → Hearing external hears → external ≤ p.line → position is_none ports ≡ Some k → p ≡ port_numbered external k → Needs external ports hears p b → ⊥
port_needs_none external ports hears p b k hearing far free is (Paired since e) = let near = (hearing.inside p _ (hearing.both_ways b p since e)).0 in omega (arith, near, far)
port_needs_none external ports hears p b k hearing far free is (To_port room since e q) = let near = (hearing.inside p _ e).0 in omega (arith, near, far)
port_needs_none external ports hears p b k hearing far free is (From_port room since e q) = had_port external ports b p k free is q

none_needs_port : (external : ℕ) (ports : Ports) (hears : Slot → Option Circuit) (a p : Slot) (k : ℕ) → Hearing external hears → external ≤ p.line → position is_none ports ≡ Some k → p ≡ port_numbered external k → Needs external ports hears a p → ⊥
none_needs_port external ports hears a p k hearing far free is (Paired since e) = let near = (hearing.inside p _ e).0 in omega (arith, near, far)
none_needs_port external ports hears a p k hearing far free is (To_port room since e q) = had_port external ports a p k free is q
none_needs_port external ports hears a p k hearing far free is (From_port room since e q) = let near = (hearing.inside p _ e).0 in omega (arith, near, far)

pub port_joins_none : (m : Connections) (h : Holding) (ports : Ports) (p b : Slot) (k : ℕ) → Represents m h ports → IsSlot (map_lines m) p → m.external ≤ p.line → position is_none m.ports ≡ Some k → p ≡ port_numbered m.external k → Joins m.layout p b → ⊥
port_joins_none m h ports p b k holds inside far free is j =
    port_needs_none m.external ports (heard_by h.circuits) p b k (hearing_in m h ports holds) far (subst (λ q. position is_none q ≡ Some k) holds.members free) is ((joins_needed m h ports p b holds inside).0 j)

pub none_joins_port : (m : Connections) (h : Holding) (ports : Ports) (a p : Slot) (k : ℕ) → Represents m h ports → IsSlot (map_lines m) a → m.external ≤ p.line → position is_none m.ports ≡ Some k → p ≡ port_numbered m.external k → Joins m.layout a p → ⊥
none_joins_port m h ports a p k holds inside far free is j =
    none_needs_port m.external ports (heard_by h.circuits) a p k (hearing_in m h ports holds) far (subst (λ q. position is_none q ≡ Some k) holds.members free) is ((joins_needed m h ports a p holds inside).0 j)

pub port_beyond : (external : ℕ) (x p : Slot) → x.line < external → external ≤ p.line → p ≡ x → ⊥
port_beyond external x p near far same = let line = ap (λ (s : Slot). s.line) same in omega (arith, near, far, line)

-- the member has the port that it was given
pub seated_port : (m : Connections) (h : Holding) (ports : Ports) (x p : Slot) (k : ℕ) → Represents m h ports → hears_at m x ≡ None → position is_none m.ports ≡ Some k → p ≡ port_numbered m.external k → port_of m.external (ports_with x m.ports) x ≡ Some p
seated_port m h ports x p k holds none free is =
    port_of_given_here m.external x m.ports k free (ap (count_by (has x)) holds.members ∙ holds.ported x ∙ count_by-seats_idle h.circuits x (idle_in m h ports x holds none)) ∙ ap (λ q. Some q) (sym is)

pub ports_with_given_full : (x : Slot) (ports : Ports) → ((k : ℕ) → k < length ports → is_none (get_or ports k None) ≡ false) → ports_with x ports ≡ ports
ports_with_given_full x [] full = refl
ports_with_given_full x (None ∷ ports) full = let wrong = full 0 (omega arith) in absurd (cc)
ports_with_given_full x (Some other ∷ ports) full = ap (λ ps. Some other ∷ ps) (ports_with_given_full x ports (λ k l. full (suc k) (omega (arith, l))))

pub ports_with_none_given : (x : Slot) (ports : Ports) → position is_none ports ≡ None → ports_with x ports ≡ ports
ports_with_none_given x ports none = ports_with_given_full x ports (none_passes is_none ports None none)

pub record FreePort (m : Connections) (p : Slot) : Type 0 where
  pub number : ℕ
  pub lowest : position is_none m.ports ≡ Some number
  pub is : p ≡ port_numbered m.external number
  pub inside : IsSlot (map_lines m) p
  pub far : m.external ≤ p.line

pub free_port : (external : ℕ) (owners : List (Option Occupant)) (p : Slot) (m : Connections) → external ≡ m.external → members owners ≡ m.ports → length m.ports ≡ 30 * m.bridges → option_map (port_numbered external) (position is_none owners) ≡ Some p → FreePort m p
free_port external owners p m same ports long e =
    let found = lowest_port external owners p e in
    let free : position is_none m.ports ≡ Some found.0 = subst (λ q. position is_none q ≡ Some found.0) ports found.1 in
    let is : p ≡ port_numbered m.external found.0 = found.2 ∙ ap (λ e. port_numbered e found.0) same in
    let slot = free_port_slot m.external m.bridges m.ports p found.0 free long is in
    record { number = found.0; lowest = free; is = is; inside = slot.0; far = slot.1 }
