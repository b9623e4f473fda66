-- A layout stays legal where a path is added in a free slot, and where one is taken out.
use Rattle.std.proofs.Common.{◌≡◌, ℕ, ◌*◌, ◌<◌, ◌⊎◌, true, false, eqb, length, Option, Some, None, refl, sym, ◌∙◌, ap, subst, inl, inr, ⊎_elim, arith, length-set, get_or-set_other, get_or-set_same}
use Rattle.std.specs.Prelude.{is_none}
use Rattle.std.proofs.lemmas.Bool.Decides.{eqb_tells}
use Rattle.circuit_model.specs.declared.channel.Slot.{Slot}
use Rattle.control_memory.specs.Layout.{Layout, number_of, slot_numbered, hop_of, path_in, path_out, path_to, IsSlot, HasPath, Legal}
use Rattle.control_memory.specs.Connecting.{with_path, without_path, is_unsent, is_unreceived, IsFree}
use Rattle.control_memory.proofs.Lookups.{numbered_number, path_in_is, path_out_is, path_to_is, hops_agree}

-- slots with one number are one slot
pub same_number : (x y : Slot) → x.place < 30 → y.place < 30 → number_of x ≡ number_of y → x ≡ y
same_number x y a b e = sym (numbered_number x a) ∙ ap slot_numbered e ∙ numbered_number y b

pub number_inside : (lines : ℕ) (x : Slot) → IsSlot lines x → number_of x < 30 * lines
number_inside lines x inside = let l = inside.0 in let p = inside.1 in omega (arith, l, p)

some_none : {X : Type 0} (x : X) (o : Option X) → o ≡ Some x → is_none o ≡ true → ⊥
some_none x o e n = let wrong : is_none (Some x) ≡ true = subst (λ q. is_none q ≡ true) e n in cc

-- the lookups' word for it
pub free_by_lookups : (lines slots : ℕ) (layout : Layout) (from to : Slot) (slot : ℕ) → Legal lines slots layout → hop_of layout from ≡ None → path_to layout to ≡ None → is_unsent layout from.line slot ≡ true → is_unreceived layout to.line slot ≡ true → IsFree lines layout from to slot
free_by_lookups lines slots layout from to slot legal inlet outlet sent received = record {
  inlet = inlet;
  outlet = λ x s inside has. let is = path_to_is lines slots layout x to s legal inside has in let wrong = sym is ∙ outlet in absurd (cc);
  sent = λ x y inside has line. some_none (record { from = x; to = y; slot = slot }) (path_in layout from.line slot) (subst (λ l. path_in layout l slot ≡ Some (record { from = x; to = y; slot = slot })) line (path_in_is lines slots layout x y slot legal inside has)) sent;
  received = λ x y inside has line. some_none (record { from = x; to = y; slot = slot }) (path_out layout to.line slot) (subst (λ l. path_out layout l slot ≡ Some (record { from = x; to = y; slot = slot })) line (path_out_is lines slots layout x y slot legal inside has)) received;
}

-- ---- one path more
pub hop_here : (lines : ℕ) (layout : Layout) (from to : Slot) (slot : ℕ) → length layout ≡ 30 * lines → IsSlot lines from → HasPath (with_path layout from to slot) from to slot
hop_here lines layout from to slot size inside = get_or-set_same layout (number_of from) _ _ (let n = number_inside lines from inside in omega (arith, n, size))

pub hop_else : (layout : Layout) (from to : Slot) (slot : ℕ) (x : Slot) → x.place < 30 → from.place < 30 → (x ≡ from → ⊥) → hop_of (with_path layout from to slot) x ≡ hop_of layout x
hop_else layout from to slot x a b apart = get_or-set_other layout (number_of from) (number_of x) _ None (λ e. apart (same_number x from a b e))

-- a path of the new layout is the new one or one of the old
abbrev pub IsNew : Slot → Slot → ℕ → Slot → Slot → ℕ → Type 0
IsNew from to slot x y s = (x ≡ from) × (y ≡ to) × (s ≡ slot)

pub new_or_old : (lines : ℕ) (layout : Layout) (from to : Slot) (slot : ℕ) → length layout ≡ 30 * lines → IsSlot lines from → (x y : Slot) (s : ℕ) → IsSlot lines x → HasPath (with_path layout from to slot) x y s
    → IsNew from to slot x y s ⊎ ((x ≡ from → ⊥) × HasPath layout x y s)
new_or_old lines layout from to slot size inside x y s within has =
    ⊎_elim
    (λ (same : (eqb (number_of x) (number_of from) ≡ true) × (number_of x ≡ number_of from)).
    let e = same_number x from within.1 inside.1 same.1 in
    let is = hops_agree (record { to = y; slot = s }) (record { to = to; slot = slot }) (sym has ∙ ap (hop_of (with_path layout from to slot)) e ∙ hop_here lines layout from to slot size inside) in
    inl (e, is.0, is.1))
    (λ (other : (eqb (number_of x) (number_of from) ≡ false) × ((number_of x ≡ number_of from) → ⊥)).
    let apart : x ≡ from → ⊥ = λ e. other.1 (ap number_of e) in
    inr (apart, sym (hop_else layout from to slot x within.1 inside.1 apart) ∙ has))
    (eqb_tells (number_of x) (number_of from))

-- two paths that share what a test sees are one, where no old path shares it with the new one
abbrev pub OneBy : ℕ → Layout → (Slot → Slot → ℕ → Slot → Slot → ℕ → Type 0) → Type 0
OneBy lines layout Shares = (x z y t : Slot) (s r : ℕ) → IsSlot lines x → IsSlot lines z → HasPath layout x y s → HasPath layout z t r → Shares x y s z t r → x ≡ z

pub OneBy-with_path : (lines : ℕ) (layout : Layout) (from to : Slot) (slot : ℕ) (Shares : Slot → Slot → ℕ → Slot → Slot → ℕ → Type 0) → length layout ≡ 30 * lines → IsSlot lines from
    → ((x y : Slot) (s : ℕ) → IsSlot lines x → HasPath layout x y s → Shares x y s from to slot → ⊥)
    → ((x y : Slot) (s : ℕ) → IsSlot lines x → HasPath layout x y s → Shares from to slot x y s → ⊥)
    → OneBy lines layout Shares → OneBy lines (with_path layout from to slot) Shares
OneBy-with_path lines layout from to slot Shares size inside clash clash_back old x z y t s r in_x in_z has_x has_z shares =
    ⊎_elim
    (λ (new_x : IsNew from to slot x y s).
    ⊎_elim (λ (new_z : IsNew from to slot z t r). new_x.0 ∙ sym new_z.0)
    (λ (old_z : (z ≡ from → ⊥) × HasPath layout z t r).
    absurd (clash_back z t r in_z old_z.1 (subst (λ a. Shares a to slot z t r) new_x.0 (subst (λ a. Shares x a slot z t r) new_x.1 (subst (λ a. Shares x y a z t r) new_x.2 shares)))))
    (new_or_old lines layout from to slot size inside z t r in_z has_z))
    (λ (old_x : (x ≡ from → ⊥) × HasPath layout x y s).
    ⊎_elim
    (λ (new_z : IsNew from to slot z t r).
    absurd (clash x y s in_x old_x.1 (subst (λ a. Shares x y s a to slot) new_z.0 (subst (λ a. Shares x y s z a slot) new_z.1 (subst (λ a. Shares x y s z t a) new_z.2 shares)))))
    (λ (old_z : (z ≡ from → ⊥) × HasPath layout z t r). old x z y t s r in_x in_z old_x.1 old_z.1 shares)
    (new_or_old lines layout from to slot size inside z t r in_z has_z))
    (new_or_old lines layout from to slot size inside x y s in_x has_x)

abbrev pub shares_outlet : Slot → Slot → ℕ → Slot → Slot → ℕ → Type 0
shares_outlet x y s z t r = y ≡ t

abbrev pub shares_incoming : Slot → Slot → ℕ → Slot → Slot → ℕ → Type 0
shares_incoming x y s z t r = (s ≡ r) × (x.line ≡ z.line)

abbrev pub shares_outgoing : Slot → Slot → ℕ → Slot → Slot → ℕ → Type 0
shares_outgoing x y s z t r = (s ≡ r) × (y.line ≡ t.line)

pub legal_with : (lines slots : ℕ) (layout : Layout) (from to : Slot) (slot : ℕ) → Legal lines slots layout → IsSlot lines from → IsSlot lines to → slot < slots → IsFree lines layout from to slot → Legal lines slots (with_path layout from to slot)
legal_with lines slots layout from to slot legal inside inside_to below free =
    let size = legal.inlets in
    let split = new_or_old lines layout from to slot size inside in
    let outlet = OneBy-with_path lines layout from to slot shares_outlet size inside
    (λ x y s in_x has e. free.outlet x s in_x (subst (λ a. HasPath layout x a s) e has))
    (λ x y s in_x has e. free.outlet x s in_x (subst (λ a. HasPath layout x a s) (sym e) has))
    (λ x z y t s r in_x in_z has_x has_z e. legal.one_inlet x z y s r in_x in_z has_x (subst (λ a. HasPath layout z a r) (sym e) has_z)) in
    let incoming = OneBy-with_path lines layout from to slot shares_incoming size inside
    (λ x y s in_x has e. free.sent x y in_x (subst (λ a. HasPath layout x y a) e.0 has) e.1)
    (λ x y s in_x has e. free.sent x y in_x (subst (λ a. HasPath layout x y a) (sym e.0) has) (sym e.1))
    (λ x z y t s r in_x in_z has_x has_z e. legal.one_sent x z y t s in_x in_z has_x (subst (λ a. HasPath layout z t a) (sym e.0) has_z) e.1) in
    let outgoing = OneBy-with_path lines layout from to slot shares_outgoing size inside
    (λ x y s in_x has e. free.received x y in_x (subst (λ a. HasPath layout x y a) e.0 has) e.1)
    (λ x y s in_x has e. free.received x y in_x (subst (λ a. HasPath layout x y a) (sym e.0) has) (sym e.1))
    (λ x z y t s r in_x in_z has_x has_z e. legal.one_received x z y t s in_x in_z has_x (subst (λ a. HasPath layout z t a) (sym e.0) has_z) e.1) in
    record {
      inlets = length-set layout (number_of from) _ ∙ size;
      within = λ x y s in_x has.
          ⊎_elim (λ (new : IsNew from to slot x y s). (subst (IsSlot lines) (sym new.1) inside_to, subst (λ a. a < slots) (sym new.2) below))
          (λ (old : (x ≡ from → ⊥) × HasPath layout x y s). legal.within x y s in_x old.1) (split x y s in_x has);
      one_inlet = λ x z y s r in_x in_z has_x has_z. outlet x z y y s r in_x in_z has_x has_z refl;
      one_sent = λ x z y t s in_x in_z has_x has_z e. incoming x z y t s s in_x in_z has_x has_z (refl, e);
      one_received = λ x z y t s in_x in_z has_x has_z e. outgoing x z y t s s in_x in_z has_x has_z (refl, e);
    }

-- ---- one path less
pub hop_gone : (lines : ℕ) (layout : Layout) (from : Slot) → length layout ≡ 30 * lines → IsSlot lines from → hop_of (without_path layout from) from ≡ None
hop_gone lines layout from size inside = get_or-set_same layout (number_of from) None None (let n = number_inside lines from inside in omega (arith, n, size))

pub hop_left : (layout : Layout) (from x : Slot) → x.place < 30 → from.place < 30 → (x ≡ from → ⊥) → hop_of (without_path layout from) x ≡ hop_of layout x
hop_left layout from x a b apart = get_or-set_other layout (number_of from) (number_of x) None None (λ e. apart (same_number x from a b e))

-- a path that is left was there before, from another inlet
pub was_there : (lines : ℕ) (layout : Layout) (from : Slot) → length layout ≡ 30 * lines → IsSlot lines from → (x y : Slot) (s : ℕ) → IsSlot lines x → HasPath (without_path layout from) x y s → (x ≡ from → ⊥) × HasPath layout x y s
was_there lines layout from size inside x y s within has =
    let apart : x ≡ from → ⊥ = λ e. let wrong = sym (hop_gone lines layout from size inside) ∙ ap (hop_of (without_path layout from)) (sym e) ∙ has in absurd (cc) in
    (apart, sym (hop_left layout from x within.1 inside.1 apart) ∙ has)

pub legal_without : (lines slots : ℕ) (layout : Layout) (from : Slot) → Legal lines slots layout → IsSlot lines from → Legal lines slots (without_path layout from)
legal_without lines slots layout from legal inside =
    let old = was_there lines layout from legal.inlets inside in
    record {
      inlets = length-set layout (number_of from) None ∙ legal.inlets;
      within = λ x y s in_x has. legal.within x y s in_x (old x y s in_x has).1;
      one_inlet = λ x z y s r in_x in_z a b. legal.one_inlet x z y s r in_x in_z (old x y s in_x a).1 (old z y r in_z b).1;
      one_sent = λ x z y t s in_x in_z a b e. legal.one_sent x z y t s in_x in_z (old x y s in_x a).1 (old z t s in_z b).1 e;
      one_received = λ x z y t s in_x in_z a b e. legal.one_received x z y t s in_x in_z (old x y s in_x a).1 (old z t s in_z b).1 e;
    }
