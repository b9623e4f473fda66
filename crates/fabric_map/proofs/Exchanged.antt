-- What the exchange of a chain makes of a layout: its paths lifted and laid again, and how many of them have moved.
use Rattle.std.proofs.Common.{◌≡◌, ◌≢◌, ℕ, zero, suc, ◌+◌, ◌*◌, ◌<◌, true, false, eqb, Option, Some, None, List, [], ◌∷◌, map, length, get_or, refl, sym, ◌∙◌, ap, subst, ⊎_elim, arith, length-set}
use Rattle.std.specs.Prelude.{⊤, ◌==◌}
use Rattle.std.proofs.lemmas.List.{set-set, set_comm}
use Rattle.std.proofs.lemmas.Bool.Decides.{eqb_tells}
use Rattle.circuit_model.specs.declared.channel.Slot.{Slot}
use Rattle.circuit_model.proofs.Slots.{same_slot-refl}
use Rattle.control_memory.specs.Layout.{Path, Layout, number_of, path_in, IsSlot, HasPath, Joins, Legal}
use Rattle.control_memory.specs.Connecting.{Side, across, path_at, far_line, chain, exchanged, with_path, without_path, moved, is_moved}
use Rattle.control_memory.proofs.Lookups.{IsPathOf, path_in_found, path_in_is, one_hop}
use Rattle.control_memory.proofs.Steps.{same_number, number_inside, was_there, hop_here, hop_else, IsNew, new_or_old}
use Rattle.control_memory.specs.declared.path_ends.PathEnds.{PathEnds}
use Rattle.fabric_map.specs.Rearranging.{without_all, AreTaken, laid}
use Rattle.control_memory.specs.Paths.{ends_of}
use Rattle.path_memory.proofs.Added.{is_moved_same_hop, not_moved, moved_set}
use Rattle.fabric_map.proofs.Rearranged.{AllSlots, Apart}
use Rattle.fabric_map.proofs.Chained.{other, moved_by, IsPathOf_found}

-- ---- the paths of a chain are in the layout
abbrev pub AllStand : ℕ → Layout → List Path → Type 0
AllStand lines layout [] = ⊤
AllStand lines layout (p ∷ ps) = IsPathOf lines layout p × AllStand lines layout ps

link_stands : (lines slots : ℕ) (layout : Layout) → Legal lines slots layout → (n : ℕ) (side : Side) (line x y : ℕ) (o : Option Path) → path_at layout side line x ≡ o
    → ((p : Path) → AllStand lines layout (chain n layout (across side) (far_line side p) y x))
    → AllStand lines layout (elim o as (λ _. List Path) [ None ↦ [] | Some p ↦ p ∷ chain n layout (across side) (far_line side p) y x ])
link_stands lines slots layout legal n side line x y None e tail = tt
link_stands lines slots layout legal n side line x y (Some p) e tail = ((IsPathOf_found lines slots layout side line x p legal e).0, tail p)

pub chain_stands : (lines slots : ℕ) (layout : Layout) → Legal lines slots layout → (n : ℕ) (side : Side) (line x y : ℕ) → AllStand lines layout (chain n layout side line x y)
chain_stands lines slots layout legal zero side line x y = tt
chain_stands lines slots layout legal (suc n) side line x y =
    link_stands lines slots layout legal n side line x y (path_at layout side line x) refl (λ p. chain_stands lines slots layout legal n (across side) (far_line side p) y x)

-- ---- the ends that are taken are the chain's
some_path : (p q : Path) → Some p ≡ Some q → p ≡ q
some_path p q e = cc

pub taken_chain : (lines slots : ℕ) (whole : Layout) (a b : ℕ) → Legal lines slots whole → (ps : List Path) (layout : Layout) (es : List PathEnds) → length layout ≡ 30 * lines → AllStand lines whole ps
    → ((x y : Slot) (s : ℕ) → IsSlot lines x → HasPath layout x y s → HasPath whole x y s) → AreTaken layout (map (moved_by a b) ps) es → es ≡ map ends_of ps
taken_chain lines slots whole a b legal [] layout [] size stand below taken = refl
taken_chain lines slots whole a b legal [] layout (e ∷ es) size stand below taken = absurd taken
taken_chain lines slots whole a b legal (p ∷ ps) layout [] size stand below taken = absurd taken
taken_chain lines slots whole a b legal (p ∷ ps) layout (e ∷ es) size stand below taken =
    let q = taken.0.0 in
    let f = path_in_found lines layout p.from.line p.slot q size taken.0.1 in
    let q_is = path_in_is lines slots whole q.from q.to q.slot legal f.0.inlet (below q.from q.to q.slot f.0.inlet f.0.path) in
    let q_at : path_in whole p.from.line p.slot ≡ Some q = subst (λ l. path_in whole l p.slot ≡ Some q) f.1 (subst (λ s. path_in whole q.from.line s ≡ Some q) f.2 q_is) in
    let p_at = path_in_is lines slots whole p.from p.to p.slot legal stand.0.inlet stand.0.path in
    let same : q ≡ p = some_path q p (sym q_at ∙ p_at) in
    let here : e ≡ ends_of p = sym taken.0.2 ∙ ap ends_of same in
    let inside : IsSlot lines e.from = subst (λ (x : PathEnds). IsSlot lines x.from) (sym here) stand.0.inlet in
    let tail = taken_chain lines slots whole a b legal ps (without_path layout e.from) es (length-set layout (number_of e.from) None ∙ size) stand.1
    (λ x y s in_x has. below x y s in_x (was_there lines layout e.from size inside x y s in_x has).1) taken.1 in
    λ i. here i ∷ tail i

-- ---- lifted and laid again
abbrev pub AllApart : List PathEnds → Type 0
AllApart [] = ⊤
AllApart (e ∷ es) = Apart e es × AllApart es

numbers_apart : (x y : Slot) → x.place < 30 → y.place < 30 → x ≢ y → number_of x ≢ number_of y
numbers_apart x y a b apart same = apart (same_number x y a b same)

-- a path can be laid before others are lifted
laid_before : (lines : ℕ) (layout : Layout) (e : PathEnds) (slot : ℕ) (es : List PathEnds) → e.from.place < 30 → AllSlots lines es → Apart e es → with_path (without_all layout es) e.from e.to slot ≡ without_all (with_path layout e.from e.to slot) es
laid_before lines layout e slot [] place slots apart = refl
laid_before lines layout e slot (o ∷ es) place slots apart =
    laid_before lines (without_path layout o.from) e slot es place slots.1 apart.1
    ∙ ap (λ l. without_all l es) (set_comm layout (number_of o.from) (number_of e.from) None (Some (record { to = e.to; slot = slot })) (numbers_apart o.from e.from slots.0.0.1 place apart.0.0))

pub laid_is : (lines a b : ℕ) (ps : List Path) (layout : Layout) → AllSlots lines (map ends_of ps) → AllApart (map ends_of ps) → laid (without_all layout (map ends_of ps)) (map ends_of ps) (map (moved_by a b) ps) ≡ exchanged layout a b ps
laid_is lines a b [] layout slots apart = refl
laid_is lines a b (p ∷ ps) layout slots apart =
    let es = map ends_of ps in
    let new = other a b p.slot in
    ap (λ l. laid l es (map (moved_by a b) ps))
    (laid_before lines (without_path layout p.from) (ends_of p) new es slots.0.0.1 slots.1 apart.0
    ∙ ap (λ l. without_all l es) (set-set layout (number_of p.from) None (Some (record { to = p.to; slot = new }))))
    ∙ laid_is lines a b ps (with_path layout p.from p.to new) slots.1 apart.1

-- ---- a whole chain has moved
-- the paths of a chain use the two slots
abbrev pub AllTurn : ℕ → ℕ → List Path → Type 0
AllTurn a b [] = ⊤
AllTurn a b (p ∷ ps) = (p.slot ≢ other a b p.slot) × AllTurn a b ps

-- the layout still has the paths as they were before
abbrev pub AllWere : Layout → List Path → Type 0
AllWere layout [] = ⊤
AllWere layout (p ∷ ps) = HasPath layout p.from p.to p.slot × AllWere layout ps

were_still : (lines : ℕ) (layout : Layout) (p : Path) (slot : ℕ) (ps : List Path) → p.from.place < 30 → AllSlots lines (map ends_of ps) → Apart (ends_of p) (map ends_of ps) → AllWere layout ps → AllWere (with_path layout p.from p.to slot) ps
were_still lines layout p slot [] place slots apart were = tt
were_still lines layout p slot (q ∷ ps) place slots apart were =
    (hop_else layout p.from p.to slot q.from slots.0.0.1 place apart.0.0 ∙ were.0, were_still lines layout p slot ps place slots.1 apart.1 were.1)

not_equal : (s t : ℕ) → s ≢ t → (s == t) ≡ false
not_equal s t apart = ⊎_elim (λ (e : (eqb s t ≡ true) × (s ≡ t)). absurd (apart e.1)) (λ (e : (eqb s t ≡ false) × (s ≢ t)). e.0) (eqb_tells s t)

turned_hop : (to : Slot) (s t : ℕ) → s ≢ t → is_moved (Some (record { to = to; slot = s })) (Some (record { to = to; slot = t })) ≡ 1
turned_hop to s t apart = is_moved_same_hop (record { to = to; slot = s }) (record { to = to; slot = t }) true false (same_slot-refl to) (not_equal s t apart)

pub chain_moved : (lines a b : ℕ) (before : Layout) (ps : List Path) (after : Layout) → length before ≡ 30 * lines → length after ≡ 30 * lines → AllSlots lines (map ends_of ps) → AllApart (map ends_of ps) → AllTurn a b ps → AllWere before ps → AllWere after ps
    → moved before (exchanged after a b ps) ≡ moved before after + length ps
chain_moved lines a b before [] after size_b size_a slots apart turn were now = omega arith
chain_moved lines a b before (p ∷ ps) after size_b size_a slots apart turn were now =
    let new = other a b p.slot in
    let next = with_path after p.from p.to new in
    let inside : number_of p.from < length after = let n = number_inside lines p.from slots.0.0 in omega (arith, n, size_a) in
    let step = moved_set before after (number_of p.from) (Some (record { to = p.to; slot = new })) (size_b ∙ sym size_a) inside in
    let was : is_moved (get_or before (number_of p.from) None) (get_or after (number_of p.from) None) ≡ 0 = ap (λ h. is_moved h (get_or after (number_of p.from) None)) were.0 ∙ ap (is_moved (Some (record { to = p.to; slot = p.slot }))) now.0 ∙ not_moved (record { to = p.to; slot = p.slot }) in
    let is : is_moved (get_or before (number_of p.from) None) (Some (record { to = p.to; slot = new })) ≡ 1 = ap (λ h. is_moved h (Some (record { to = p.to; slot = new }))) were.0 ∙ turned_hop p.to p.slot new turn.0 in
    let rest = chain_moved lines a b before ps next size_b (length-set after (number_of p.from) _ ∙ size_a) slots.1 apart.1 turn.1 were.1 (were_still lines after p new ps slots.0.0.1 slots.1 apart.0 now.1) in
    omega (arith, step, was, is, rest)

-- ---- which slots are joined
pub length-exchanged : (a b : ℕ) (ps : List Path) (layout : Layout) → length (exchanged layout a b ps) ≡ length layout
length-exchanged a b [] layout = refl
length-exchanged a b (p ∷ ps) layout = length-exchanged a b ps (with_path layout p.from p.to (other a b p.slot)) ∙ length-set layout (number_of p.from) _

-- a path that changes its slot joins what it joined
turn_joins : (lines : ℕ) (layout : Layout) (from to : Slot) (slot new : ℕ) → length layout ≡ 30 * lines → IsSlot lines from → HasPath layout from to slot → (x y : Slot) → IsSlot lines x → (Joins (with_path layout from to new) x y → Joins layout x y) × (Joins layout x y → Joins (with_path layout from to new) x y)
turn_joins lines layout from to slot new size inside has x y in_x = (
  λ j. ⊎_elim (λ (n : IsNew from to new x y j.0). (slot, subst (λ f. HasPath layout f y slot) (sym n.0) (subst (λ t. HasPath layout from t slot) (sym n.1) has)))
      (λ (old : (x ≡ from → ⊥) × HasPath layout x y j.0). (j.0, old.1)) (new_or_old lines layout from to new size inside x y j.0 in_x j.1),
  λ j. ⊎_elim
      (λ (e : (eqb (number_of x) (number_of from) ≡ true) × (number_of x ≡ number_of from)).
      let same = same_number x from in_x.1 inside.1 e.1 in
      let hop = one_hop layout from y to j.0 slot (subst (λ f. HasPath layout f y j.0) same j.1) has in
      (new, subst (λ f. HasPath (with_path layout from to new) f y new) (sym same) (subst (λ t. HasPath (with_path layout from to new) from t new) (sym hop.0) (hop_here lines layout from to new size inside))))
      (λ (e : (eqb (number_of x) (number_of from) ≡ false) × (number_of x ≢ number_of from)). (j.0, hop_else layout from to new x in_x.1 inside.1 (λ same. e.1 (ap number_of same)) ∙ j.1))
      (eqb_tells (number_of x) (number_of from)),
)

pub exchange_joins : (lines a b : ℕ) (ps : List Path) (layout : Layout) → length layout ≡ 30 * lines → AllSlots lines (map ends_of ps) → AllApart (map ends_of ps) → AllWere layout ps → (x y : Slot) → IsSlot lines x → (Joins (exchanged layout a b ps) x y → Joins layout x y) × (Joins layout x y → Joins (exchanged layout a b ps) x y)
exchange_joins lines a b [] layout size slots apart were x y in_x = (λ j. j, λ j. j)
exchange_joins lines a b (p ∷ ps) layout size slots apart were x y in_x =
    let new = other a b p.slot in
    let one = turn_joins lines layout p.from p.to p.slot new size slots.0.0 were.0 x y in_x in
    let rest = exchange_joins lines a b ps (with_path layout p.from p.to new) (length-set layout (number_of p.from) _ ∙ size) slots.1 apart.1 (were_still lines layout p new ps slots.0.0.1 slots.1 apart.0 were.1) x y in_x in
    (λ j. one.0 (rest.0 j), λ j. rest.1 (one.1 j))
