-- A chain takes every path that its slots have at its rows and columns. The chains from two ends share none of them, so together they have
-- fewer paths than there are rows and columns.
use Rattle.std.proofs.Common.{◌≡◌, ◌≢◌, ℕ, zero, suc, ◌+◌, ◌-◌, ◌*◌, ◌<◌, ◌≤◌, true, false, Option, Some, None, List, length, arith, refl, sym, ap, subst, ◌∙◌}
use Rattle.std.specs.Prelude.{slice_get, nat_lt, if◌then◌else◌, ◌⊎◌}
use Rattle.std.proofs.lemmas.Bool.{cases_lt}
use Rattle.std.proofs.lemmas.Bool.Decides.{nat_tests}
use Rattle.std.proofs.lemmas.Option.{same_Some}
use mathlib.Core.Logic.{inl, inr}
use Rattle.paull_matrix.specs.declared.moves.Move.{Move}
use Rattle.rearrange_chain.specs.Chain.{End, Row, Column, far_end, move_of}
use Rattle.paull_matrix.proofs.Pigeonhole.{pigeonhole}
use Rattle.rearrange_chain.proofs.Walk.{line_of, leave, enter, step, end_at, IsMirrored, IsWithin, IsEndOf, own_chain, then_cases, map_cases, entered_by, far_end_turned, end_at_next, is_step, slice_get-own_chain_has_step, end_cases, move_of_old, move_of_new, chain_length, comes_to_ends, never_comes_to, no_meeting, no_return, been_before, line_of_end_within, number, number_below, number_same, numbered, numbered_is}

-- What a chain from a start needs, so that it comes to an end and comes back nowhere: the paths are found from both of their ends, what is
-- looked up lies within the lines, nothing leads to the start, and nothing leads to some other end
pub record IsOpen (look : End → ℕ → Option ℕ) (a b lines : ℕ) (start other : End) : Type 0 where
  pub mirror : IsMirrored look
  pub within : IsWithin lines look
  pub free : look start (enter a b start) ≡ None
  pub other_free : look other (enter a b other) ≡ None
  pub apart : other ≢ start
  pub inside : line_of start < lines
  pub other_inside : line_of other < lines
  pub two_slots : a ≢ b

-- from the other end there is such a chain too
pub turned_round : (look : End → ℕ → Option ℕ) (a b lines : ℕ) (start other : End) → IsOpen look a b lines start other → IsOpen look a b lines other start
turned_round look a b lines start other opened = record {
  mirror = opened.mirror;
  within = opened.within;
  free = opened.other_free;
  other_free = opened.free;
  apart = λ e. opened.apart (sym e);
  inside = opened.other_inside;
  other_inside = opened.inside;
  two_slots = opened.two_slots;
}

-- the ends of two walks, one walk after the other
both : (End → ℕ → Option ℕ) → ℕ → ℕ → ℕ → End → End → ℕ → ℕ → ℕ
both look a b lines start other p k = if nat_lt k p then numbered look a b lines start k else numbered look a b lines other (k - p)

-- the end that is the k-th of both, and which walk comes to it
record Visit (look : End → ℕ → Option ℕ) (a b lines : ℕ) (start other : End) (p k : ℕ) : Type 0 where
  first : End
  is : both look a b lines start other p k ≡ number lines first
  inside : line_of first < lines
  source : ((k < p) × (end_at look a b start k ≡ Some first)) ⊎ ((p ≤ k) × (end_at look a b other (k - p) ≡ Some first))

-- The ends of both walks are different rows and columns, so the walks have no more than there are
pub two_walks : (look : End → ℕ → Option ℕ) (a b lines : ℕ) (start other : End) → IsOpen look a b lines start other
    → (p q : ℕ) (x y : End) → end_at look a b start p ≡ Some x → end_at look a b other q ≡ Some y → p + q + 2 ≤ 2 * lines
unfolding both
two_walks look a b lines start other opened p q x y g h =
    let few = pigeonhole (both look a b lines start other (suc p)) (suc p + suc q) (2 * lines) below different in
    omega (arith, few)
  where
    visit : (k : ℕ) → k < suc p + suc q → Visit look a b lines start other (suc p) k
    visit k early = elim (cases_lt k (suc p)) [
      | inl less ↦
          let e = been_before look a b start p k x g (omega (arith, less)) in
          record {
            first = e.0;
            is = ap (λ t. if t then numbered look a b lines start k else numbered look a b lines other (k - suc p)) (let yes : nat_lt k (suc p) ≡ true = grind (arith, nat_tests, less) in yes) ∙ numbered_is look a b lines start k e.0 e.1;
            inside = line_of_end_within look a b lines start opened.within opened.inside k e.0 e.1;
            source = inl (less, e.1);
          }
      | inr more ↦
          let e = been_before look a b other q (k - suc p) y h (omega (arith, more, early)) in
          record {
            first = e.0;
            is = ap (λ t. if t then numbered look a b lines start k else numbered look a b lines other (k - suc p)) (let no_less : nat_lt k (suc p) ≡ false = grind (arith, nat_tests, more) in no_less) ∙ numbered_is look a b lines other (k - suc p) e.0 e.1;
            inside = line_of_end_within look a b lines other opened.within opened.other_inside (k - suc p) e.0 e.1;
            source = inr (more, e.1);
          }
    ]

    below : (k : ℕ) → k < suc p + suc q → both look a b lines start other (suc p) k < 2 * lines
    below k early = let v = visit k early in subst (λ c. c < 2 * lines) (sym v.is) (number_below lines v.first v.inside)

    different : (k l : ℕ) → k < l → l < suc p + suc q → both look a b lines start other (suc p) k ≡ both look a b lines start other (suc p) l → ⊥
    different k l less early same =
        let u = visit k (omega (arith, less, early)) in
        let v = visit l early in
        let one : u.first ≡ v.first = number_same lines u.first v.first u.inside v.inside (sym u.is ∙ same ∙ v.is) in
        elim u.source [
          | inl s ↦ elim v.source [
            | inl t ↦ let twice = no_return look a b start opened.mirror opened.free k l v.first (s.1 ∙ ap Some one) t.1 in omega (arith, less, twice)
            | inr t ↦ no_meeting look a b start other opened.mirror opened.free opened.other_free opened.apart k (l - suc p) v.first (s.1 ∙ ap Some one) t.1
          ]
          | inr s ↦ elim v.source [
            | inl t ↦ omega (arith, less, s.0, t.0)
            | inr t ↦ let twice = no_return look a b other opened.mirror opened.other_free (k - suc p) (l - suc p) v.first (s.1 ∙ ap Some one) t.1 in omega (arith, less, s.0, t.0, twice)
          ]
        ]

-- one walk alone: the start of the other is an end that it never comes to
pub ends_before : (look : End → ℕ → Option ℕ) (a b lines : ℕ) (start other : End) → IsOpen look a b lines start other → (n : ℕ) (x : End) → end_at look a b start n ≡ Some x → n + 2 ≤ 2 * lines
ends_before look a b lines start other opened n x h = let few = two_walks look a b lines start other opened n zero x other h refl in omega (arith, few)

-- The bound on the moves: both chains together have two paths fewer than there are rows and columns, so the shorter has at most
-- lines - 1 paths
pub both_bound : (look : End → ℕ → Option ℕ) (a b lines n : ℕ) (start other : End) → IsOpen look a b lines start other
    → length (own_chain look a b n start) + length (own_chain look a b n other) + 2 ≤ 2 * lines
both_bound look a b lines n start other opened =
    let one = chain_length look a b start n zero start refl in
    let two = chain_length look a b other n zero other refl in
    let few = two_walks look a b lines start other opened (length (own_chain look a b n start) + zero) (length (own_chain look a b n other) + zero) one.0 two.0 one.1 two.1 in
    omega (arith, few)

turned_move : (e : End) (line s t : ℕ) → move_of e line s t ≡ move_of (far_end e line) (line_of e) s t
turned_move (Row i) line s t = refl
turned_move (Column j) line s t = refl

-- a move of the chain that is the path of an end in a slot
abbrev pub Takes : List Move → End → ℕ → ℕ → ℕ → Type 0
Takes moves f line s t = (k : ℕ) × (slice_get moves k ≡ Some (move_of f line s t))

-- the path over which the walk came to a later end
taken_before : (look : End → ℕ → Option ℕ) (a b lines : ℕ) (start other : End) → IsOpen look a b lines start other → (k : ℕ) (f : End) (line : ℕ)
    → end_at look a b start k ≡ Some f → look f (enter a b f) ≡ Some line → Takes (own_chain look a b (2 * lines) start) f line (enter a b f) (leave a b f)
taken_before look a b lines start other opened zero f line here goes =
    let free : look f (enter a b f) ≡ None = subst (λ e. look e (enter a b e) ≡ None) (same_Some start f here) opened.free in absurd (cc)
taken_before look a b lines start other opened (suc k) f line here goes =
    let few = ends_before look a b lines start other opened (suc k) f here in
    let last = then_cases (step look a b) (end_at look a b start k) f here in
    let way = map_cases last.0 (look last.0 (leave a b last.0)) f last.2 in
    let back : line_of last.0 ≡ line = same_Some (line_of last.0) line (sym (entered_by look a b last.0 f opened.mirror last.2) ∙ goes) in
    let there = slice_get-own_chain_has_step look a b start (2 * lines) k last.0 way.0 (omega arith) last.1 way.1 in
    let turn = far_end_turned a b last.0 way.0 in (
      k,
      there ∙ ap Some (turned_move last.0 way.0 (leave a b last.0) (enter a b last.0))
          ∙ ap Some (λ i. move_of (way.2 i) (back i) (leave_is last.0 way.0 f way.2 i) (enter_is last.0 way.0 f way.2 i)),
    )
  where
    leave_is : (e : End) (m : ℕ) (g : End) → far_end e m ≡ g → leave a b e ≡ enter a b g
    leave_is e m g is = sym (far_end_turned a b e m).1 ∙ ap (enter a b) is

    enter_is : (e : End) (m : ℕ) (g : End) → far_end e m ≡ g → enter a b e ≡ leave a b g
    enter_is e m g is = sym (far_end_turned a b e m).0 ∙ ap (leave a b) is

-- and the path over which it goes on
taken_after : (look : End → ℕ → Option ℕ) (a b lines : ℕ) (start other : End) → IsOpen look a b lines start other → (k : ℕ) (f : End) (line : ℕ)
    → end_at look a b start k ≡ Some f → look f (leave a b f) ≡ Some line → Takes (own_chain look a b (2 * lines) start) f line (leave a b f) (enter a b f)
taken_after look a b lines start other opened k f line here goes =
    let few = ends_before look a b lines start other opened k f here in
    (k, slice_get-own_chain_has_step look a b start (2 * lines) k f line (omega arith) here goes)

-- Where a move's path has, at one of its ends, a neighbour in the slot that it takes, the chain takes that neighbour too
pub takes_neighbour : (look : End → ℕ → Option ℕ) (a b lines : ℕ) (start other : End) → IsOpen look a b lines start other → (k : ℕ) (v : Move) (f : End) (line : ℕ)
    → slice_get (own_chain look a b (2 * lines) start) k ≡ Some v → IsEndOf f v → look f v.new ≡ Some line → Takes (own_chain look a b (2 * lines) start) f line v.new v.old
takes_neighbour look a b lines start other opened k v f line h end goes =
    let at = is_step look a b start (2 * lines) k v h in
    let new_is : v.new ≡ enter a b at.near = ap (λ (w : Move). w.new) at.is ∙ move_of_new at.near at.line (leave a b at.near) (enter a b at.near) in
    let old_is : v.old ≡ leave a b at.near = ap (λ (w : Move). w.old) at.is ∙ move_of_old at.near at.line (leave a b at.near) (enter a b at.near) in
    elim (end_cases at.near at.line (leave a b at.near) (enter a b at.near) v f at.is end) [
      | inl near ↦
          let new_at : v.new ≡ enter a b f = new_is ∙ ap (enter a b) (sym near) in
          let old_at : v.old ≡ leave a b f = old_is ∙ ap (leave a b) (sym near) in
          let taken = taken_before look a b lines start other opened k f line (at.is_at ∙ ap Some (sym near)) (subst (λ s. look f s ≡ Some line) new_at goes) in
          (taken.0, taken.1 ∙ ap Some (λ i. move_of f line (sym new_at i) (sym old_at i)))
      | inr far ↦
          let turn = far_end_turned a b at.near at.line in
          let new_at : v.new ≡ leave a b f = new_is ∙ sym turn.0 ∙ ap (leave a b) (sym far) in
          let old_at : v.old ≡ enter a b f = old_is ∙ sym turn.1 ∙ ap (enter a b) (sym far) in
          let next = end_at_next look a b start at.near k at.line at.is_at at.goes ∙ ap Some (sym far) in
          let taken = taken_after look a b lines start other opened (suc k) f line next (subst (λ s. look f s ≡ Some line) new_at goes) in
          (taken.0, taken.1 ∙ ap Some (λ i. move_of f line (sym new_at i) (sym old_at i)))
    ]

-- the chain never comes to the other end
pub other_untouched : (look : End → ℕ → Option ℕ) (a b lines n : ℕ) (start other : End) → IsOpen look a b lines start other → (k : ℕ) (v : Move) → slice_get (own_chain look a b n start) k ≡ Some v → IsEndOf other v → ⊥
other_untouched look a b lines n start other opened k v h end =
    let visit = comes_to_ends look a b start n k v other h end in
    never_comes_to look a b start other opened.mirror opened.other_free opened.apart visit.0 visit.1
