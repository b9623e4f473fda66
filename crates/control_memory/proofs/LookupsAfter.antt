-- What the lookups of a layout find after a path is added and after one is taken out.
use Rattle.std.proofs.Common.{◌≡◌, ℕ, ◌<◌, Option, Some, None, refl, sym, ◌∙◌, ap, subst, ⊎_elim}
use Rattle.circuit_model.specs.declared.channel.Slot.{Slot}
use Rattle.control_memory.specs.Layout.{Path, Layout, path_in, path_out, path_to, IsSlot, HasPath, Legal}
use Rattle.control_memory.specs.Connecting.{with_path, without_path, IsFree}
use Rattle.control_memory.proofs.Lookups.{IsPathOf, path_in_found, path_in_is, path_out_found, path_out_is, path_to_found, path_to_is, one_hop}
use Rattle.control_memory.proofs.Steps.{IsNew, new_or_old, legal_with, legal_without, hop_here, hop_else, hop_left, was_there}

-- a lookup that finds the one path of a legal layout that it looks for, where there is one
pub record Looks (lines slots : ℕ) (look : Layout → Option Path) (For : Path → Type 0) : Type 0 where
  pub found : (layout : Layout) (p : Path) → Legal lines slots layout → look layout ≡ Some p → IsPathOf lines layout p × For p
  pub is : (layout : Layout) (p : Path) → Legal lines slots layout → IsPathOf lines layout p → For p → look layout ≡ Some p

-- the three lookups
abbrev pub sent_in : ℕ → ℕ → Path → Type 0
sent_in line slot p = (p.from.line ≡ line) × (p.slot ≡ slot)

abbrev pub received_in : ℕ → ℕ → Path → Type 0
received_in line slot p = (p.to.line ≡ line) × (p.slot ≡ slot)

abbrev pub ends_at : Slot → Path → Type 0
ends_at at p = p.to ≡ at

pub looks_in : (lines slots line slot : ℕ) → Looks lines slots (λ layout. path_in layout line slot) (sent_in line slot)
looks_in lines slots line slot = record {
  found = λ layout p legal e. let f = path_in_found lines layout line slot p legal.inlets e in (f.0, (f.1, f.2));
  is = λ layout p legal has this.
      subst (λ l. path_in layout l slot ≡ Some p) this.0 (subst (λ s. path_in layout p.from.line s ≡ Some p) this.1 (path_in_is lines slots layout p.from p.to p.slot legal has.inlet has.path));
}

pub looks_out : (lines slots line slot : ℕ) → Looks lines slots (λ layout. path_out layout line slot) (received_in line slot)
looks_out lines slots line slot = record {
  found = λ layout p legal e. let f = path_out_found lines layout line slot p legal.inlets e in (f.0, (f.1, f.2));
  is = λ layout p legal has this.
      subst (λ l. path_out layout l slot ≡ Some p) this.0 (subst (λ s. path_out layout p.to.line s ≡ Some p) this.1 (path_out_is lines slots layout p.from p.to p.slot legal has.inlet has.path));
}

pub looks_to : (lines slots : ℕ) (at : Slot) → Looks lines slots (λ layout. path_to layout at) (ends_at at)
looks_to lines slots at = record {
  found = λ layout p legal e. path_to_found lines layout at p legal.inlets e;
  is = λ layout p legal has this. subst (λ a. path_to layout a ≡ Some p) this (path_to_is lines slots layout p.from p.to p.slot legal has.inlet has.path);
}

-- two lookups give the same where each finds what the other finds
pub same_found : (a b : Option Path) → ((p : Path) → a ≡ Some p → b ≡ Some p) → ((p : Path) → b ≡ Some p → a ≡ Some p) → a ≡ b
same_found None None there back = refl
same_found None (Some p) there back = back p refl
same_found (Some p) b there back = sym (there p refl)

pub found_none : (a : Option Path) → ((p : Path) → a ≡ Some p → ⊥) → a ≡ None
found_none None nothing = refl
found_none (Some p) nothing = absurd (nothing p refl)

abbrev pub path_of : Slot → Slot → ℕ → Path
path_of from to slot = record { from = from; to = to; slot = slot }

same_parts : (p : Path) (from to : Slot) (slot : ℕ) → IsNew from to slot p.from p.to p.slot → p ≡ path_of from to slot
same_parts p from to slot e =
    let f = e.0 in
    let t = e.1 in
    let s = e.2 in
    λ i. record { from = f i; to = t i; slot = s i }

-- the second path begins where the first does
from_of : (p q : Path) → Some p ≡ Some q → q.from ≡ p.from
from_of p q e = let is : p ≡ q = cc in ap (λ (r : Path). r.from) (sym is)

-- ---- one path more
pub found_with_new : (lines slots : ℕ) (layout : Layout) (from to : Slot) (slot : ℕ) (look : Layout → Option Path) (For : Path → Type 0) → Looks lines slots look For → Legal lines slots layout → IsSlot lines from → IsSlot lines to → slot < slots → IsFree lines layout from to slot
    → For (path_of from to slot) → look (with_path layout from to slot) ≡ Some (path_of from to slot)
found_with_new lines slots layout from to slot look For looks legal inside inside_to below free this =
    looks.is (with_path layout from to slot) (path_of from to slot) (legal_with lines slots layout from to slot legal inside inside_to below free)
    (record { inlet = inside; path = hop_here lines layout from to slot legal.inlets inside }) this

pub found_with_old : (lines slots : ℕ) (layout : Layout) (from to : Slot) (slot : ℕ) (look : Layout → Option Path) (For : Path → Type 0) → Looks lines slots look For → Legal lines slots layout → IsSlot lines from → IsSlot lines to → slot < slots → IsFree lines layout from to slot
    → (For (path_of from to slot) → ⊥) → look (with_path layout from to slot) ≡ look layout
found_with_old lines slots layout from to slot look For looks legal inside inside_to below free other =
    let new = with_path layout from to slot in
    let legal_new = legal_with lines slots layout from to slot legal inside inside_to below free in
    same_found (look new) (look layout)
    (λ p e. let f = looks.found new p legal_new e in
    ⊎_elim (λ (n : IsNew from to slot p.from p.to p.slot). absurd (other (subst For (same_parts p from to slot n) f.1)))
    (λ (o : (p.from ≡ from → ⊥) × HasPath layout p.from p.to p.slot). looks.is layout p legal (record { inlet = f.0.inlet; path = o.1 }) f.1)
    (new_or_old lines layout from to slot legal.inlets inside p.from p.to p.slot f.0.inlet f.0.path))
    (λ p e. let f = looks.found layout p legal e in
    let apart : p.from ≡ from → ⊥ = λ same. let wrong = sym (subst (λ x. HasPath layout x p.to p.slot) same f.0.path) ∙ free.inlet in absurd (cc) in
    looks.is new p legal_new (record { inlet = f.0.inlet; path = hop_else layout from to slot p.from f.0.inlet.1 inside.1 apart ∙ f.0.path }) f.1)

-- ---- one path less
pub found_without_old : (lines slots : ℕ) (layout : Layout) (from to : Slot) (slot : ℕ) (look : Layout → Option Path) (For : Path → Type 0) → Looks lines slots look For → Legal lines slots layout → IsSlot lines from → HasPath layout from to slot
    → For (path_of from to slot) → look (without_path layout from) ≡ None
found_without_old lines slots layout from to slot look For looks legal inside has this =
    let new = without_path layout from in
    let legal_new = legal_without lines slots layout from legal inside in
    let was : look layout ≡ Some (path_of from to slot) = looks.is layout (path_of from to slot) legal (record { inlet = inside; path = has }) this in
    found_none (look new) (λ p e.
    let f = looks.found new p legal_new e in
    let old = was_there lines layout from legal.inlets inside p.from p.to p.slot f.0.inlet f.0.path in
    let now : look layout ≡ Some p = looks.is layout p legal (record { inlet = f.0.inlet; path = old.1 }) f.1 in
    old.0 (from_of (path_of from to slot) p (sym was ∙ now)))

pub found_without_other : (lines slots : ℕ) (layout : Layout) (from to : Slot) (slot : ℕ) (look : Layout → Option Path) (For : Path → Type 0) → Looks lines slots look For → Legal lines slots layout → IsSlot lines from → HasPath layout from to slot
    → (For (path_of from to slot) → ⊥) → look (without_path layout from) ≡ look layout
found_without_other lines slots layout from to slot look For looks legal inside has other =
    let new = without_path layout from in
    let legal_new = legal_without lines slots layout from legal inside in
    same_found (look new) (look layout)
    (λ p e. let f = looks.found new p legal_new e in
    let old = was_there lines layout from legal.inlets inside p.from p.to p.slot f.0.inlet f.0.path in
    looks.is layout p legal (record { inlet = f.0.inlet; path = old.1 }) f.1)
    (λ p e. let f = looks.found layout p legal e in
    let apart : p.from ≡ from → ⊥ = λ same.
    let hop = one_hop layout from p.to to p.slot slot (subst (λ x. HasPath layout x p.to p.slot) same f.0.path) has in
    other (subst For (same_parts p from to slot (same, hop.0, hop.1)) f.1) in
    looks.is new p legal_new (record { inlet = f.0.inlet; path = hop_left layout from p.from f.0.inlet.1 inside.1 apart ∙ f.0.path }) f.1)
