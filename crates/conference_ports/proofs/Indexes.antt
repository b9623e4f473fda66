-- The index of ports follows a port that is given and one that is given back.
use Rattle.std.proofs.Common.{◌≡◌, ◌≢◌, ℕ, ◌+◌, ◌*◌, ◌<◌, ◌≤◌, true, false, eqb, List, length, replicate, Option, Some, None, refl, sym, ◌∙◌, ap, subst, ⊎_elim, arith, set, get_or, length-set, get_or-set_other, get_or-set_same}
use Rattle.std.specs.Prelude.{is_none, position, option_map}
use Rattle.std.proofs.lemmas.Bool.{cases_lt}
use Rattle.std.proofs.lemmas.List.Quantifiers.{position-Some}
use Rattle.std.proofs.lemmas.Bool.Decides.{eqb_tells}
use Rattle.std.proofs.lemmas.List.{get_or_past, length-map, length-replicate, get_or-replicate, map-set, get_or-map}
use Rattle.circuit_model.specs.declared.channel.Slot.{Slot}
use Rattle.circuit_model.specs.Ports.{has}
use Rattle.circuit_model.proofs.Slots.{same_slot-true, same_slot-refl, same_slot-false}
use Rattle.conference_ports.specs.declared.occupant.Occupant.{Occupant}
use Rattle.conference_ports.specs.Owners.{members, member_of}
use Rattle.conference_ports.specs.Indexed.{IsIndexed, index_of}
use Rattle.conference_ports.proofs.Positions.{position-set_other, position-set_here, position-set_gone, position_none}

pub is_free : (o : Option Occupant) → is_none o ≡ true → o ≡ None
is_free None e = refl
is_free (Some owner) e = absurd (cc)

some_owner : (a b : Occupant) → Some a ≡ Some b → a ≡ b
some_owner a b e = cc

some_number : (a b : ℕ) → Some a ≡ Some b → a ≡ b
some_number a b e = cc

get_or-replicate_none : {X : Type 0} (n k : ℕ) → get_or (replicate n (let x : Option X = None in x)) k None ≡ None
get_or-replicate_none {X} n k =
    ⊎_elim (λ (l : k < n). get_or-replicate n k None None l) (λ (l : n ≤ k). get_or_past (replicate n None) k None (let m = length-replicate n (let x : Option X = None in x) in omega (arith, m, l))) (cases_lt k n)

-- the owner that x has the port of is no other member
not_mine : (x y : Slot) (o : Option Occupant) → has x (member_of o) ≡ true → y ≢ x → has y (member_of o) ≡ false
not_mine x y None mine apart = refl
not_mine x y (Some owner) mine apart = same_slot-false y owner.member (λ same. apart (same ∙ sym (same_slot-true x owner.member mine)))

same_index : (x y : Slot) → x.place < 30 → y.place < 30 → index_of x ≡ index_of y → x ≡ y
same_index x y a b e =
    let line : x.line ≡ y.line = omega (arith, a, b, e) in
    let place : x.place ≡ y.place = omega (arith, a, b, e) in
    λ i. record { line = line i; place = place i }

pub index_inside : (external : ℕ) (x : Slot) → x.line < external → x.place < 30 → index_of x < 30 * external
index_inside external x a b = omega (arith, a, b)

pub get_or-members_at : (owners : List (Option Occupant)) (k : ℕ) → k < length owners → get_or (members owners) k None ≡ member_of (get_or owners k None)
get_or-members_at owners k inside = get_or-map member_of owners k None None inside

members_long : (owners : List (Option Occupant)) → length (members owners) ≡ length owners
members_long owners = length-map owners member_of

-- no port is owned yet
pub all_free : (external lines : ℕ) → external + lines ≤ 34 → IsIndexed external lines (replicate (lines * 30) None) (replicate (external * 30) None)
all_free external lines few =
    let free : (k : ℕ) → get_or (replicate (lines * 30) None) k None ≡ None = λ k. get_or-replicate_none (lines * 30) k in
    record {
      few = few;
      owned = length-replicate (lines * 30) None ∙ omega arith;
      indexed = length-replicate (external * 30) None ∙ omega arith;
      named = λ x line place. get_or-replicate_none (external * 30) (index_of x)
          ∙ sym (position_none (has x) (members (replicate (lines * 30) None)) None (λ k l. ap (has x) (get_or-members_at (replicate (lines * 30) None) k (let n = members_long (replicate (lines * 30) None) in omega (arith, n, l)) ∙ ap member_of (free k))));
      alone = λ k owner e. let wrong = sym (free k) ∙ e in absurd (cc);
    }

-- ---- a port is given
record Taken (external lines : ℕ) (owners : List (Option Occupant)) (ports : List (Option ℕ)) (k : ℕ) (new : Occupant) : Type 0 where
  old : IsIndexed external lines owners ports
  line : new.member.line < external
  place : new.member.place < 30
  inside : k < length owners
  free : get_or owners k None ≡ None
  portless : position (has new.member) (members owners) ≡ None

members_set : (owners : List (Option Occupant)) (k : ℕ) (o : Option Occupant) → members (set owners k o) ≡ set (members owners) k (member_of o)
members_set owners k o = map-set member_of owners k o

-- the places of the other members stay
others_stay : (external lines : ℕ) (owners : List (Option Occupant)) (ports : List (Option ℕ)) (k : ℕ) (new : Occupant) → Taken external lines owners ports k new → (x : Slot) → x ≢ new.member → position (has x) (members (set owners k (Some new))) ≡ position (has x) (members owners)
others_stay external lines owners ports k new t x apart =
    ap (position (has x)) (members_set owners k (Some new))
    ∙ position-set_other (has x) (members owners) k (Some new.member) None (same_slot-false x new.member apart ∙ sym (ap (has x) (get_or-members_at owners k t.inside ∙ ap member_of t.free)))

mine_found : (external lines : ℕ) (owners : List (Option Occupant)) (ports : List (Option ℕ)) (k : ℕ) (new : Occupant) → Taken external lines owners ports k new → position (has new.member) (members (set owners k (Some new))) ≡ Some k
mine_found external lines owners ports k new t =
    ap (position (has new.member)) (members_set owners k (Some new))
    ∙ position-set_here (has new.member) (members owners) k (Some new.member) None (let n = members_long owners in let i = t.inside in omega (arith, n, i)) t.portless (same_slot-refl new.member)

taken : (external lines : ℕ) (owners : List (Option Occupant)) (ports : List (Option ℕ)) (k : ℕ) (new : Occupant) → Taken external lines owners ports k new → IsIndexed external lines (set owners k (Some new)) (set ports (index_of new.member) (Some k))
taken external lines owners ports k new t =
    let old = t.old in
    let room : index_of new.member < length ports = let n = index_inside external new.member t.line t.place in let m = old.indexed in omega (arith, n, m) in
    record {
      few = old.few;
      owned = length-set owners k (Some new) ∙ old.owned;
      indexed = length-set ports (index_of new.member) (Some k) ∙ old.indexed;
      named = λ x line place.
          ⊎_elim
          (λ (e : (eqb (index_of x) (index_of new.member) ≡ true) × (index_of x ≡ index_of new.member)).
          let is = same_index x new.member place t.place e.1 in
          ap (λ n. get_or (set ports (index_of new.member) (Some k)) n None) e.1 ∙ get_or-set_same ports (index_of new.member) (Some k) None room
          ∙ sym (ap (λ y. position (has y) (members (set owners k (Some new)))) is ∙ mine_found external lines owners ports k new t))
          (λ (e : (eqb (index_of x) (index_of new.member) ≡ false) × (index_of x ≢ index_of new.member)).
          get_or-set_other ports (index_of new.member) (index_of x) (Some k) None e.1 ∙ old.named x line place
          ∙ sym (others_stay external lines owners ports k new t x (λ same. e.1 (ap index_of same))))
          (eqb_tells (index_of x) (index_of new.member));
      alone = λ j owner at.
          ⊎_elim
          (λ (e : (eqb j k ≡ true) × (j ≡ k)).
          let is = some_owner new owner (sym (ap (λ n. get_or (set owners k (Some new)) n None) e.1 ∙ get_or-set_same owners k (Some new) None t.inside) ∙ at) in
          subst (λ (o : Occupant). (o.member.line < external) × (o.member.place < 30) × (position (has o.member) (members (set owners k (Some new))) ≡ Some j)) is
          (t.line, t.place, mine_found external lines owners ports k new t ∙ ap (λ n. Some n) (sym e.1)))
          (λ (e : (eqb j k ≡ false) × (j ≢ k)).
          let was = old.alone j owner (sym (get_or-set_other owners k j (Some new) None e.1) ∙ at) in
          let apart : owner.member ≢ new.member = λ same. let wrong = sym was.2 ∙ ap (λ y. position (has y) (members owners)) same ∙ t.portless in absurd (cc) in
          (was.0, was.1, others_stay external lines owners ports k new t owner.member apart ∙ was.2))
          (eqb_tells j k);
    }

-- by the words of `take`
pub indexed_taken : (external lines : ℕ) (owners : List (Option Occupant)) (ports : List (Option ℕ)) (k : ℕ) (new : Occupant) → IsIndexed external lines owners ports → new.member.line < external → new.member.place < 30 → position is_none owners ≡ Some k → position (has new.member) (members owners) ≡ None
    → IsIndexed external lines (set owners k (Some new)) (set ports (index_of new.member) (Some k))
indexed_taken external lines owners ports k new old line place first portless =
    let p = position-Some is_none owners k None first in
    taken external lines owners ports k new (record { old = old; line = line; place = place; inside = p.0; free = is_free (get_or owners k None) p.1; portless = portless })

-- ---- a port is given back
other_owner : (external lines : ℕ) (owners : List (Option Occupant)) (ports : List (Option ℕ)) (k : ℕ) (x : Slot) → IsIndexed external lines owners ports → position (has x) (members owners) ≡ Some k → (i : ℕ) → i ≢ k → (o : Option Occupant) → get_or owners i None ≡ o → has x (member_of o) ≡ false
other_owner external lines owners ports k x old at i apart None e = refl
other_owner external lines owners ports k x old at i apart (Some owner) e =
    same_slot-false x owner.member (λ same. apart (some_number i k (sym (old.alone i owner e).2 ∙ ap (λ y. position (has y) (members owners)) (sym same) ∙ at)))

-- the member of a port that the index names has that port alone
pub named_owner : (external lines : ℕ) (owners : List (Option Occupant)) (ports : List (Option ℕ)) (k : ℕ) (x : Slot) → IsIndexed external lines owners ports → position (has x) (members owners) ≡ Some k
    → (k < length owners) × (has x (member_of (get_or owners k None)) ≡ true) × ((i : ℕ) → i < length owners → i ≢ k → has x (member_of (get_or owners i None)) ≡ false)
named_owner external lines owners ports k x old at =
    let p = position-Some (has x) (members owners) k None at in
    let inside : k < length owners = let i = p.0 in let n = members_long owners in omega (arith, i, n) in
    (inside, ap (has x) (sym (get_or-members_at owners k inside)) ∙ p.1, λ i l apart. other_owner external lines owners ports k x old at i apart (get_or owners i None) refl)

pub indexed_given : (external lines : ℕ) (owners : List (Option Occupant)) (ports : List (Option ℕ)) (k : ℕ) (x : Slot) → IsIndexed external lines owners ports → x.line < external → x.place < 30 → position (has x) (members owners) ≡ Some k
    → IsIndexed external lines (set owners k None) (set ports (index_of x) None)
indexed_given external lines owners ports k x old line place at =
    let n = named_owner external lines owners ports k x old at in
    let long = members_long owners in
    let room : index_of x < length ports = let i = index_inside external x line place in let m = old.indexed in omega (arith, i, m) in
    let stays : (y : Slot) → y ≢ x → position (has y) (members (set owners k None)) ≡ position (has y) (members owners) = λ y apart.
    ap (position (has y)) (members_set owners k None) ∙ position-set_other (has y) (members owners) k None None (sym (ap (has y) (get_or-members_at owners k n.0) ∙ not_mine x y (get_or owners k None) n.1 apart)) in
    record {
      few = old.few;
      owned = length-set owners k None ∙ old.owned;
      indexed = length-set ports (index_of x) None ∙ old.indexed;
      named = λ y in_line in_place.
          ⊎_elim
          (λ (e : (eqb (index_of y) (index_of x) ≡ true) × (index_of y ≡ index_of x)).
          let is = same_index y x in_place place e.1 in
          ap (λ m. get_or (set ports (index_of x) None) m None) e.1 ∙ get_or-set_same ports (index_of x) None None room
          ∙ sym (ap (λ z. position (has z) (members (set owners k None))) is ∙ ap (position (has x)) (members_set owners k None)
          ∙ position-set_gone (has x) (members owners) k None None (let i = n.0 in omega (arith, i, long)) refl
          (λ j l apart. ap (has x) (get_or-members_at owners j (omega (arith, l, long))) ∙ n.2 j (omega (arith, l, long)) apart)))
          (λ (e : (eqb (index_of y) (index_of x) ≡ false) × (index_of y ≢ index_of x)).
          get_or-set_other ports (index_of x) (index_of y) None None e.1 ∙ old.named y in_line in_place ∙ sym (stays y (λ same. e.1 (ap index_of same))))
          (eqb_tells (index_of y) (index_of x));
      alone = λ j owner there.
          ⊎_elim
          (λ (e : (eqb j k ≡ true) × (j ≡ k)).
          let wrong = sym (ap (λ m. get_or (set owners k None) m None) e.1 ∙ get_or-set_same owners k None None n.0) ∙ there in absurd (cc))
          (λ (e : (eqb j k ≡ false) × (j ≢ k)).
          let was = old.alone j owner (sym (get_or-set_other owners k j None None e.1) ∙ there) in
          (was.0, was.1, stays owner.member (λ same. e.1 (some_number j k (sym was.2 ∙ ap (λ y. position (has y) (members owners)) same ∙ at))) ∙ was.2))
          (eqb_tells j k);
    }

-- ---- by the words of `port_of`
pub no_place : {Y : Type 0} (f : ℕ → Y) (o : Option ℕ) → option_map f o ≡ None → o ≡ None
no_place f None e = refl
no_place f (Some n) e = absurd (cc)
