-- The places of a line, by the internal slots of their paths: a line with a free place does not use every slot, nor do two.
use Rattle.std.proofs.Common.{◌≡◌, ◌≢◌, ℕ, ◌+◌, ◌*◌, ◌<◌, Option, Some, None, refl, sym, ◌∙◌, ap, subst, arith}
use Rattle.std.specs.Prelude.{false, is_none, option_map, unwrap_or}
use Rattle.circuit_model.specs.declared.channel.Slot.{Slot}
use Rattle.control_memory.specs.Layout.{Path, Layout, hop_of, path_in, path_out, path_to, place_sent, IsSlot, HasPath, Legal}
use Rattle.control_memory.proofs.Lookups.{IsPathOf, path_in_found, path_out_found, path_to_is, one_hop}
use Rattle.paull_matrix.proofs.Pigeonhole.{pigeonhole, closed_up, closed_below, closed_apart}
use Rattle.path_memory.proofs.MatrixOfLayout.{mapped_some}

-- a line of n + 1 places, one of them free, has its paths in some of n slots: the place of the path in each slot
pub record Occupies (n free slots : ℕ) (place : ℕ → Option ℕ) : Type 0 where
  pub inside : free < n + 1
  pub within : (s p : ℕ) → s < slots → place s ≡ Some p → p < n + 1
  pub misses : (s p : ℕ) → s < slots → place s ≡ Some p → p ≢ free
  pub once : (s t p : ℕ) → s < slots → t < slots → place s ≡ Some p → place t ≡ Some p → s ≡ t

-- ---- the slots of one line, and of two
some_place : (o : Option ℕ) → o ≢ None → (p : ℕ) × (o ≡ Some p)
some_place None lacks = absurd (lacks refl)
some_place (Some p) lacks = (p, refl)

-- n + 1 slots are not all used by one line
pub one_is_left : (n free : ℕ) (place : ℕ → Option ℕ) → Occupies n free (n + 1) place → ((s : ℕ) → s < n + 1 → place s ≢ None) → ⊥
one_is_left n free place line all =
    let at : (s : ℕ) → s < n + 1 → (p : ℕ) × (place s ≡ Some p) = λ s l. some_place (place s) (all s l) in
    let number : (s : ℕ) (l : s < n + 1) → closed_up free (unwrap_or (place s) 0) ≡ closed_up free (at s l).0 = λ s l. ap (λ o. closed_up free (unwrap_or o 0)) (at s l).1 in
    let few = pigeonhole (λ s. closed_up free (unwrap_or (place s) 0)) (n + 1) n
    (λ s l. subst (λ k. k < n) (sym (number s l)) (closed_below free n (at s l).0 (line.within s (at s l).0 l (at s l).1) (line.misses s (at s l).0 l (at s l).1) line.inside))
    (λ s t less l same.
    let early : s < n + 1 = omega (arith, less, l) in
    let places = closed_apart free (at s early).0 (at t l).0 (line.misses s (at s early).0 early (at s early).1) (line.misses t (at t l).0 l (at t l).1) (sym (number s early) ∙ same ∙ number t l) in
    let slots = line.once s t (at t l).0 early l (subst (λ p. place s ≡ Some p) places (at s early).1) (at t l).1 in
    omega (arith, slots, less)) in
    omega (arith, few)

-- the number of a slot: the number of its place in the one line, closed up over the free place, or else n and the number of its place in the other
abbrev numbered : ℕ → ℕ → ℕ → Option ℕ → Option ℕ → ℕ
numbered n free other_free (Some p) other = closed_up free p
numbered n free other_free None other = n + closed_up other_free (unwrap_or other 0)

-- a slot is used by the one line, or else by the other
data UsedBy (a b : Option ℕ) : Type 0 where
  First : (p : ℕ) → a ≡ Some p → UsedBy a b
  Second : (p : ℕ) → a ≡ None → b ≡ Some p → UsedBy a b

used_by : (a b : Option ℕ) → (a ≡ None → b ≡ None → ⊥) → UsedBy a b
used_by (Some p) b used = First p refl
used_by None (Some p) used = Second p refl refl
used_by None None used = absurd (used refl refl)

-- 2n + 1 slots are not all used by two lines
pub two_leave_one : (n free other_free : ℕ) (place other : ℕ → Option ℕ) → Occupies n free (2 * n + 1) place → Occupies n other_free (2 * n + 1) other → ((s : ℕ) → s < 2 * n + 1 → place s ≡ None → other s ≡ None → ⊥) → ⊥
two_leave_one n free other_free place other line second all =
    let few = pigeonhole number (2 * n + 1) (2 * n) (λ s l. below s l (used s l)) (λ s t less l same. let early : s < 2 * n + 1 = omega (arith, less, l) in let slots = apart s t early l (used s early) (used t l) same in omega (arith, slots, less)) in
    omega (arith, few)
  where
    number : ℕ → ℕ
    number s = numbered n free other_free (place s) (other s)

    used : (s : ℕ) → s < 2 * n + 1 → UsedBy (place s) (other s)
    used s l = used_by (place s) (other s) (all s l)

    in_first : (s p : ℕ) → place s ≡ Some p → numbered n free other_free (place s) (other s) ≡ closed_up free p
    in_first s p e = ap (λ o. numbered n free other_free o (other s)) e

    in_second : (s p : ℕ) → place s ≡ None → other s ≡ Some p → numbered n free other_free (place s) (other s) ≡ n + closed_up other_free p
    in_second s p e o = ap (λ x. numbered n free other_free x (other s)) e ∙ ap (λ x. n + closed_up other_free (unwrap_or x 0)) o

    first_below : (s p : ℕ) → s < 2 * n + 1 → place s ≡ Some p → closed_up free p < n
    first_below s p l e = closed_below free n p (line.within s p l e) (line.misses s p l e) line.inside

    second_below : (s p : ℕ) → s < 2 * n + 1 → other s ≡ Some p → closed_up other_free p < n
    second_below s p l e = closed_below other_free n p (second.within s p l e) (second.misses s p l e) second.inside

    below : (s : ℕ) → s < 2 * n + 1 → UsedBy (place s) (other s) → numbered n free other_free (place s) (other s) < 2 * n
    below s l (First p e) = let is = in_first s p e in let few = first_below s p l e in omega (arith, is, few)
    below s l (Second p e o) = let is = in_second s p e o in let few = second_below s p l o in omega (arith, is, few)

    apart : (s t : ℕ) → s < 2 * n + 1 → t < 2 * n + 1 → UsedBy (place s) (other s) → UsedBy (place t) (other t) → numbered n free other_free (place s) (other s) ≡ numbered n free other_free (place t) (other t) → s ≡ t
    apart s t l m (First p e) (First q f) same =
        let places = closed_apart free p q (line.misses s p l e) (line.misses t q m f) (sym (in_first s p e) ∙ same ∙ in_first t q f) in
        line.once s t q l m (subst (λ k. place s ≡ Some k) places e) f
    apart s t l m (Second p e o) (Second q f r) same =
        let numbers : n + closed_up other_free p ≡ n + closed_up other_free q = sym (in_second s p e o) ∙ same ∙ in_second t q f r in
        let places = closed_apart other_free p q (second.misses s p l o) (second.misses t q m r) (omega (arith, numbers)) in
        second.once s t q l m (subst (λ k. other s ≡ Some k) places o) r
    apart s t l m (First p e) (Second q f r) same =
        let numbers : closed_up free p ≡ n + closed_up other_free q = sym (in_first s p e) ∙ same ∙ in_second t q f r in
        let few = first_below s p l e in
        absurd (omega (arith, numbers, few))
    apart s t l m (Second p e o) (First q f) same =
        let numbers : n + closed_up other_free p ≡ closed_up free q = sym (in_second s p e o) ∙ same ∙ in_first t q f in
        let few = first_below t q m f in
        absurd (omega (arith, numbers, few))

-- ---- the places of a layout's lines
-- the place of the outlet whose path an outgoing line gets in a slot
abbrev pub place_received : Layout → ℕ → ℕ → Option ℕ
place_received layout line slot = option_map (λ p. p.to.place) (path_out layout line slot)

-- where a line has a path in a slot, the path has a place
pub has_place : (o : Option Path) (place : Path → ℕ) → is_none o ≡ false → option_map place o ≢ None
has_place None place e = absurd (cc)
has_place (Some p) place e = λ none. absurd (cc)

same_at : (x y : Slot) → x.line ≡ y.line → x.place ≡ y.place → x ≡ y
same_at x y line place = λ i. record { line = line i; place = place i }

pub occupies_row : (lines slots : ℕ) (layout : Layout) (from : Slot) → Legal lines slots layout → IsSlot lines from → hop_of layout from ≡ None → Occupies 29 from.place slots (place_sent layout from.line)
occupies_row lines slots layout from legal inside free = record {
  inside = inside.1;
  within = λ s p l e.
      let f = sent s p e in subst (λ k. k < 30) f.3 f.1.inlet.1;
  misses = λ s p l e same.
      let f = sent s p e in
      let wrong = sym (subst (λ x. HasPath layout x f.0.to f.0.slot) (same_at f.0.from from f.2 (f.3 ∙ same)) f.1.path) ∙ free in cc;
  once = λ s t p l m e g.
      let f = sent s p e in
      let h = sent t p g in
      sym f.4 ∙ (one_hop layout h.0.from f.0.to h.0.to f.0.slot h.0.slot (subst (λ x. HasPath layout x f.0.to f.0.slot) (same_at f.0.from h.0.from (f.2 ∙ sym h.2) (f.3 ∙ sym h.3)) f.1.path) h.1.path).1 ∙ h.4;
}
  where
    sent : (s p : ℕ) → place_sent layout from.line s ≡ Some p → (q : Path) × IsPathOf lines layout q × (q.from.line ≡ from.line) × (q.from.place ≡ p) × (q.slot ≡ s)
    sent s p e =
        let q = mapped_some (path_in layout from.line s) (λ (x : Path). x.from.place) p e in
        let f = path_in_found lines layout from.line s q.0 legal.inlets q.1 in
        (q.0, f.0, f.1, q.2, f.2)

pub occupies_column : (lines slots : ℕ) (layout : Layout) (to : Slot) → Legal lines slots layout → IsSlot lines to → path_to layout to ≡ None → Occupies 29 to.place slots (place_received layout to.line)
occupies_column lines slots layout to legal inside free = record {
  inside = inside.1;
  within = λ s p l e.
      let f = got s p e in subst (λ k. k < 30) f.3 (legal.within f.0.from f.0.to f.0.slot f.1.inlet f.1.path).0.1;
  misses = λ s p l e same.
      let f = got s p e in
      let wrong = sym (subst (λ x. path_to layout x ≡ Some (record { from = f.0.from; to = f.0.to; slot = f.0.slot })) (same_at f.0.to to f.2 (f.3 ∙ same)) (path_to_is lines slots layout f.0.from f.0.to f.0.slot legal f.1.inlet f.1.path)) ∙ free in cc;
  once = λ s t p l m e g.
      let f = got s p e in
      let h = got t p g in
      let to_same = same_at f.0.to h.0.to (f.2 ∙ sym h.2) (f.3 ∙ sym h.3) in
      let from_same = legal.one_inlet f.0.from h.0.from h.0.to f.0.slot h.0.slot f.1.inlet h.1.inlet (subst (λ x. HasPath layout f.0.from x f.0.slot) to_same f.1.path) h.1.path in
      sym f.4 ∙ (one_hop layout h.0.from f.0.to h.0.to f.0.slot h.0.slot (subst (λ x. HasPath layout x f.0.to f.0.slot) from_same f.1.path) h.1.path).1 ∙ h.4;
}
  where
    got : (s p : ℕ) → place_received layout to.line s ≡ Some p → (q : Path) × IsPathOf lines layout q × (q.to.line ≡ to.line) × (q.to.place ≡ p) × (q.slot ≡ s)
    got s p e =
        let q = mapped_some (path_out layout to.line s) (λ (x : Path). x.to.place) p e in
        let f = path_out_found lines layout to.line s q.0 legal.inlets q.1 in
        (q.0, f.0, f.1, q.2, f.2)
