-- Which paths the lookups of a layout find.
use Rattle.std.proofs.Common.{◌≡◌, ℕ, zero, suc, ◌+◌, ◌*◌, ◌/◌, ◌%◌, ◌<◌, ◌⊎◌, ◌&&◌, Bool, true, false, cond, eqb, [], ◌∷◌, length, Option, Some, None, refl, sym, ◌∙◌, ap, subst, inl, inr, ⊎_elim, arith}
use Rattle.std.specs.Prelude.{find, slice_index_or, ◌==◌}
use Rattle.std.proofs.lemmas.Bool.{eqb-true, eq-eqb}
use Rattle.circuit_model.specs.declared.channel.Slot.{Slot}
use Rattle.circuit_model.specs.Circuits.{same_slot}
use Rattle.circuit_model.proofs.Slots.{same_slot-true, same_slot-refl}
use Rattle.control_memory.specs.Layout.{Route, Path, Layout, number_of, slot_numbered, paths, paths_from, path_in, path_out, path_to, IsSlot, HasPath, Legal}

-- ---- numbers of slots
pub number_numbered : (n : ℕ) → number_of (slot_numbered n) ≡ n
number_numbered n = omega arith

pub numbered_number : (at : Slot) → at.place < 30 → slot_numbered (number_of at) ≡ at
numbered_number at within =
    let line : (30 * at.line + at.place) / 30 ≡ at.line = omega (arith, within) in
    let place : (30 * at.line + at.place) % 30 ≡ at.place = omega (arith, within) in
    λ i. record { line = line i; place = place i }

-- ---- finding among the paths
-- what is in the layout at a path's number
pub record IsListed (n : ℕ) (hops : Layout) (p : Path) : Type 0 where
  pub k : ℕ
  pub inside : k < length hops
  pub there : slice_index_or hops k None ≡ Some (record { to = p.to; slot = p.slot })
  pub from : p.from ≡ slot_numbered (n + k)

later : (n : ℕ) (hop : Option Route) (hops : Layout) (p : Path) → IsListed (n + 1) hops p → IsListed n (hop ∷ hops) p
later n hop hops p s = record {
  k = suc s.k;
  inside = let i = s.inside in omega (arith, i);
  there = s.there;
  from = s.from ∙ ap slot_numbered (omega arith);
}

none_some : {X : Type 0} (x : X) → (let n : Option X = None in n) ≡ Some x → ⊥
none_some x e = cc

some_same : {X : Type 0} (x y : X) → Some x ≡ Some y → x ≡ y
some_same x y e = cc

abbrev path_at : ℕ → Route → Path
path_at n hop = record { from = slot_numbered n; to = hop.to; slot = hop.slot }

found_here : (test : Path → Bool) (n : ℕ) (hop : Route) (hops : Layout) (p : Path) (b : Bool) → test (path_at n hop) ≡ b
    → (find test (paths_from (n + 1) hops) ≡ Some p → IsListed (n + 1) hops p × (test p ≡ true))
    → cond b (Some (path_at n hop)) (find test (paths_from (n + 1) hops)) ≡ Some p → IsListed n (Some hop ∷ hops) p × (test p ≡ true)
found_here test n hop hops p true passes later_on e =
    let is : path_at n hop ≡ p = some_same (path_at n hop) p e in (
      record {
        k = 0;
        inside = omega arith;
        there = ap (λ (q : Path). Some (record { to = q.to; slot = q.slot })) is;
        from = sym (ap (λ (q : Path). q.from) is) ∙ ap slot_numbered (omega arith);
      },
      subst (λ q. test q ≡ true) is passes,
    )
found_here test n hop hops p false passes later_on e = let rest = later_on e in (later n (Some hop) hops p rest.0, rest.1)

pub IsListed_found : (test : Path → Bool) (n : ℕ) (hops : Layout) (p : Path) → find test (paths_from n hops) ≡ Some p → IsListed n hops p × (test p ≡ true)
IsListed_found test n [] p e = absurd (none_some p e)
IsListed_found test n (None ∷ hops) p e = let rest = IsListed_found test (n + 1) hops p e in (later n None hops p rest.0, rest.1)
IsListed_found test n (Some hop ∷ hops) p e = found_here test n hop hops p (test (path_at n hop)) refl (IsListed_found test (n + 1) hops p) e

-- a path of the layout that passes is found, or another one is
some_here : (test : Path → Bool) (n : ℕ) (hop : Route) (hops : Layout) (b : Bool) → ((q : Path) × (find test (paths_from (n + 1) hops) ≡ Some q)) ⊎ (b ≡ true)
    → (q : Path) × (cond b (Some (path_at n hop)) (find test (paths_from (n + 1) hops)) ≡ Some q)
some_here test n hop hops true either = (path_at n hop, refl)
some_here test n hop hops false either = ⊎_elim (λ (q : (q : Path) × (find test (paths_from (n + 1) hops) ≡ Some q)). q) (λ (no : false ≡ true). absurd (cc)) either

pub find-paths_from : (test : Path → Bool) (n : ℕ) (hops : Layout) (k : ℕ) (hop : Route) → slice_index_or hops k None ≡ Some hop → test (path_at (n + k) hop) ≡ true → (q : Path) × (find test (paths_from n hops) ≡ Some q)
find-paths_from test n [] k hop there passes = absurd (none_some hop there)
find-paths_from test n (None ∷ hops) zero hop there passes = absurd (none_some hop there)
find-paths_from test n (Some first ∷ hops) zero hop there passes =
    let is : first ≡ hop = some_same first hop there in
    some_here test n first hops (test (path_at n first)) (inr (ap (λ h. test (path_at n h)) is ∙ ap (λ m. test (path_at m hop)) (omega arith) ∙ passes))
find-paths_from test n (None ∷ hops) (suc k) hop there passes = find-paths_from test (n + 1) hops k hop there (ap (λ m. test (path_at m hop)) (omega arith) ∙ passes)
find-paths_from test n (Some first ∷ hops) (suc k) hop there passes =
    some_here test n first hops (test (path_at n first)) (inl (find-paths_from test (n + 1) hops k hop there (ap (λ m. test (path_at m hop)) (omega arith) ∙ passes)))

-- ---- the three lookups
both : (a b : Bool) → (a && b) ≡ true → (a ≡ true) × (b ≡ true)
both true b e = (refl, e)
both false b e = absurd (cc)

and_true : (a b : Bool) → a ≡ true → b ≡ true → (a && b) ≡ true
and_true a b x y = ap (λ c. c && b) x ∙ y

-- a path that a lookup found is in the layout, at a slot of its lines
pub record IsPathOf (lines : ℕ) (layout : Layout) (p : Path) : Type 0 where
  pub inlet : IsSlot lines p.from
  pub path : HasPath layout p.from p.to p.slot

stands_path : (lines : ℕ) (layout : Layout) (p : Path) → length layout ≡ 30 * lines → IsListed 0 layout p → IsPathOf lines layout p
stands_path lines layout p size s =
    let k = s.k in
    let from : p.from ≡ slot_numbered k = s.from ∙ ap slot_numbered (omega arith) in
    let inside : k < 30 * lines = let i = s.inside in omega (arith, i, size) in
    let number : number_of p.from ≡ k = ap number_of from ∙ number_numbered k in
    record {
      inlet = subst (IsSlot lines) (sym from) (omega (arith, inside), omega arith);
      path = ap (λ n. slice_index_or layout n None) number ∙ s.there;
    }

pub found_path : (test : Path → Bool) (lines : ℕ) (layout : Layout) (p : Path) → length layout ≡ 30 * lines → find test (paths layout) ≡ Some p → IsPathOf lines layout p × (test p ≡ true)
found_path test lines layout p size e = let f = IsListed_found test 0 layout p e in (stands_path lines layout p size f.0, f.1)

pub finds_path : (test : Path → Bool) (layout : Layout) (from to : Slot) (slot : ℕ) → from.place < 30 → HasPath layout from to slot → test (record { from = from; to = to; slot = slot }) ≡ true → (q : Path) × (find test (paths layout) ≡ Some q)
finds_path test layout from to slot within has passes =
    find-paths_from test 0 layout (number_of from) (record { to = to; slot = slot }) has
    (ap (λ (f : Slot). test (record { from = f; to = to; slot = slot })) (ap slot_numbered (omega arith) ∙ numbered_number from within) ∙ passes)

pub hops_agree : (h k : Route) → Some h ≡ Some k → (h.to ≡ k.to) × (h.slot ≡ k.slot)
hops_agree h k e = let is = some_same h k e in (ap (λ (x : Route). x.to) is, ap (λ (x : Route). x.slot) is)

-- two paths from one inlet are one
pub one_hop : (layout : Layout) (from to t : Slot) (slot s : ℕ) → HasPath layout from to slot → HasPath layout from t s → (to ≡ t) × (slot ≡ s)
one_hop layout from to t slot s a b = hops_agree (record { to = to; slot = slot }) (record { to = t; slot = s }) (sym a ∙ b)

same_path : (layout : Layout) (p q : Path) → HasPath layout p.from p.to p.slot → HasPath layout q.from q.to q.slot → p.from ≡ q.from → p ≡ q
same_path layout p q a b from =
    let e = one_hop layout q.from p.to q.to p.slot q.slot (subst (λ f. HasPath layout f p.to p.slot) from a) b in
    let to = e.0 in
    let slot = e.1 in
    λ i. record { from = from i; to = to i; slot = slot i }

-- what an incoming line sends in a slot is the path of the layout there, and that path is what it sends
pub path_in_found : (lines : ℕ) (layout : Layout) (line slot : ℕ) (p : Path) → length layout ≡ 30 * lines → path_in layout line slot ≡ Some p → IsPathOf lines layout p × (p.from.line ≡ line) × (p.slot ≡ slot)
path_in_found lines layout line slot p size e =
    let f = found_path (λ q. (q.from.line == line) && (q.slot == slot)) lines layout p size e in
    let parts = both (eqb p.from.line line) (eqb p.slot slot) f.1 in
    (f.0, eqb-true p.from.line line parts.0, eqb-true p.slot slot parts.1)

pub path_in_is : (lines slots : ℕ) (layout : Layout) (from to : Slot) (slot : ℕ) → Legal lines slots layout → IsSlot lines from → HasPath layout from to slot → path_in layout from.line slot ≡ Some (record { from = from; to = to; slot = slot })
path_in_is lines slots layout from to slot legal inside has =
    let p : Path = record { from = from; to = to; slot = slot } in
    let q = finds_path (λ r. (r.from.line == from.line) && (r.slot == slot)) layout from to slot inside.1 has (and_true (eqb from.line from.line) (eqb slot slot) (eq-eqb from.line from.line refl) (eq-eqb slot slot refl)) in
    let f = path_in_found lines layout from.line slot q.0 legal.inlets q.1 in
    let there = subst (λ s. HasPath layout q.0.from q.0.to s) f.2 f.0.path in
    q.1 ∙ ap (λ r. Some r) (same_path layout q.0 p f.0.path has (legal.one_sent q.0.from from q.0.to to slot f.0.inlet inside there has f.1))

-- the same for an outgoing line
pub path_out_found : (lines : ℕ) (layout : Layout) (line slot : ℕ) (p : Path) → length layout ≡ 30 * lines → path_out layout line slot ≡ Some p → IsPathOf lines layout p × (p.to.line ≡ line) × (p.slot ≡ slot)
path_out_found lines layout line slot p size e =
    let f = found_path (λ q. (q.to.line == line) && (q.slot == slot)) lines layout p size e in
    let parts = both (eqb p.to.line line) (eqb p.slot slot) f.1 in
    (f.0, eqb-true p.to.line line parts.0, eqb-true p.slot slot parts.1)

pub path_out_is : (lines slots : ℕ) (layout : Layout) (from to : Slot) (slot : ℕ) → Legal lines slots layout → IsSlot lines from → HasPath layout from to slot → path_out layout to.line slot ≡ Some (record { from = from; to = to; slot = slot })
path_out_is lines slots layout from to slot legal inside has =
    let p : Path = record { from = from; to = to; slot = slot } in
    let q = finds_path (λ r. (r.to.line == to.line) && (r.slot == slot)) layout from to slot inside.1 has (and_true (eqb to.line to.line) (eqb slot slot) (eq-eqb to.line to.line refl) (eq-eqb slot slot refl)) in
    let f = path_out_found lines layout to.line slot q.0 legal.inlets q.1 in
    let there = subst (λ s. HasPath layout q.0.from q.0.to s) f.2 f.0.path in
    q.1 ∙ ap (λ r. Some r) (same_path layout q.0 p f.0.path has (legal.one_received q.0.from from q.0.to to slot f.0.inlet inside there has f.1))

-- the same for an outlet
pub path_to_found : (lines : ℕ) (layout : Layout) (at : Slot) (p : Path) → length layout ≡ 30 * lines → path_to layout at ≡ Some p → IsPathOf lines layout p × (p.to ≡ at)
path_to_found lines layout at p size e =
    let f = found_path (λ q. same_slot at q.to) lines layout p size e in
    (f.0, sym (same_slot-true at p.to f.1))

pub path_to_is : (lines slots : ℕ) (layout : Layout) (from to : Slot) (slot : ℕ) → Legal lines slots layout → IsSlot lines from → HasPath layout from to slot → path_to layout to ≡ Some (record { from = from; to = to; slot = slot })
path_to_is lines slots layout from to slot legal inside has =
    let p : Path = record { from = from; to = to; slot = slot } in
    let q = finds_path (λ r. same_slot to r.to) layout from to slot inside.1 has (same_slot-refl to) in
    let f = path_to_found lines layout to q.0 legal.inlets q.1 in
    let there = subst (λ t. HasPath layout q.0.from t q.0.slot) f.1 f.0.path in
    q.1 ∙ ap (λ r. Some r) (same_path layout q.0 p f.0.path has (legal.one_inlet q.0.from from to q.0.slot slot f.0.inlet inside there has))
