-- The control tables follow a path that is added and one that is taken out.
use Rattle.std.proofs.Common.{◌≡◌, ℕ, ◌*◌, ◌<◌, ◌&&◌, true, false, cond, eqb, Option, Some, None, sym, ◌∙◌, ap, subst, ⊎_elim, arith}
use Rattle.std.specs.Prelude.{option_map, replicate, ◌≤◌}
use Rattle.std.proofs.Common.{get_or}
use Rattle.std.proofs.lemmas.Bool.{cases_lt}
use Rattle.std.proofs.lemmas.List.{get_or-replicate, get_or_past, length-replicate}
use Rattle.std.proofs.lemmas.Bool.Decides.{eqb_tells}
use Rattle.circuit_model.specs.declared.channel.Slot.{Slot}
use Rattle.control_memory.specs.Layout.{Path, Layout, number_of, path_in, path_out, path_to, place_sent, line_received, slot_read, IsSlot, HasPath, Legal}
use Rattle.control_memory.specs.Connecting.{with_path, without_path, IsFree}
use Rattle.control_memory.specs.Tables.{Table, AreBare, HasSize, SameSize, entry, Agree, written, nothing, HasTables}
use Rattle.control_memory.proofs.Lookups.{path_in_found}
use Rattle.control_memory.proofs.Steps.{legal_with, legal_without}
use Rattle.control_memory.specs.Paths.{IsTabled}
use Rattle.control_memory.proofs.LookupsAfter.{Looks, found_none, looks_in, looks_out, looks_to, sent_in, received_in, ends_at, found_with_new, found_with_old, found_without_old, found_without_other}

-- an entry after one was written
pub one_written : (row column : ℕ) (value : Option ℕ) (old : ℕ → ℕ → Option ℕ) (r c : ℕ) (x : Option ℕ) → (r ≡ row → c ≡ column → x ≡ value) → ((r ≡ row → c ≡ column → ⊥) → x ≡ old r c) → written row column value old r c ≡ x
one_written row column value old r c x here else_ =
    ⊎_elim
    (λ (e : (eqb r row ≡ true) × (r ≡ row)).
    ⊎_elim
    (λ (d : (eqb c column ≡ true) × (c ≡ column)). ap (λ b. cond (b && eqb c column) value (old r c)) e.0 ∙ ap (λ b. cond (true && b) value (old r c)) d.0 ∙ sym (here e.1 d.1))
    (λ (d : (eqb c column ≡ false) × (c ≡ column → ⊥)). ap (λ b. cond (b && eqb c column) value (old r c)) e.0 ∙ ap (λ b. cond (true && b) value (old r c)) d.0 ∙ sym (else_ (λ _ same. d.1 same)))
    (eqb_tells c column))
    (λ (e : (eqb r row ≡ false) × (r ≡ row → ⊥)). ap (λ b. cond (b && eqb c column) value (old r c)) e.0 ∙ sym (else_ (λ same _. e.1 same)))
    (eqb_tells r row)

slot_is : (at : Slot) (line place : ℕ) → line ≡ at.line → place ≡ at.place → at ≡ record { line = line; place = place }
slot_is at line place l p = λ i. record { line = sym l i; place = sym p i }

pub tables_with : (lines slots : ℕ) (layout : Layout) (from to : Slot) (slot : ℕ) (p c r p' c' r' : ℕ → ℕ → Option ℕ) → Legal lines slots layout → IsSlot lines from → IsSlot lines to → slot < slots → IsFree lines layout from to slot → HasTables lines slots layout p c r
    → Agree lines slots p' (written from.line slot (Some from.place) p) → Agree lines slots c' (written to.line slot (Some from.line) c) → Agree lines 30 r' (written to.line to.place (Some slot) r)
    → HasTables lines slots (with_path layout from to slot) p' c' r'
tables_with lines slots layout from to slot p c r p' c' r' legal inside inside_to below free t places crossed read =
    let new = with_path layout from to slot in
    record {
      incoming = λ line s a b.
          places line s a b ∙ one_written from.line slot (Some from.place) p line s (place_sent new line s)
          (λ l e. ap (option_map (λ q. q.from.place)) (found_with_new lines slots layout from to slot (λ x. path_in x line s) (sent_in line s) (looks_in lines slots line s) legal inside inside_to below free (sym l, sym e)))
          (λ other. ap (option_map (λ q. q.from.place)) (found_with_old lines slots layout from to slot (λ x. path_in x line s) (sent_in line s) (looks_in lines slots line s) legal inside inside_to below free (λ this. other (sym this.0) (sym this.1))) ∙ sym (t.incoming line s a b));
      space = λ line s a b.
          crossed line s a b ∙ one_written to.line slot (Some from.line) c line s (line_received new line s)
          (λ l e. ap (option_map (λ q. q.from.line)) (found_with_new lines slots layout from to slot (λ x. path_out x line s) (received_in line s) (looks_out lines slots line s) legal inside inside_to below free (sym l, sym e)))
          (λ other. ap (option_map (λ q. q.from.line)) (found_with_old lines slots layout from to slot (λ x. path_out x line s) (received_in line s) (looks_out lines slots line s) legal inside inside_to below free (λ this. other (sym this.0) (sym this.1))) ∙ sym (t.space line s a b));
      outgoing = λ line place a b.
          let at : Slot = record { line = line; place = place } in
          read line place a b ∙ one_written to.line to.place (Some slot) r line place (slot_read new at)
          (λ l e. ap (option_map (λ q. q.slot)) (found_with_new lines slots layout from to slot (λ x. path_to x at) (ends_at at) (looks_to lines slots at) legal inside inside_to below free (slot_is to line place l e)))
          (λ other. ap (option_map (λ q. q.slot)) (found_with_old lines slots layout from to slot (λ x. path_to x at) (ends_at at) (looks_to lines slots at) legal inside inside_to below free (λ this. other (ap (λ (z : Slot). z.line) (sym this)) (ap (λ (z : Slot). z.place) (sym this)))) ∙ sym (t.outgoing line place a b));
    }

pub tables_without : (lines slots : ℕ) (layout : Layout) (from to : Slot) (slot : ℕ) (p c r p' c' r' : ℕ → ℕ → Option ℕ) → Legal lines slots layout → IsSlot lines from → HasPath layout from to slot → HasTables lines slots layout p c r
    → Agree lines slots p' (written from.line slot None p) → Agree lines slots c' (written to.line slot None c) → Agree lines 30 r' (written to.line to.place None r)
    → HasTables lines slots (without_path layout from) p' c' r'
tables_without lines slots layout from to slot p c r p' c' r' legal inside has t places crossed read =
    let new = without_path layout from in
    record {
      incoming = λ line s a b.
          places line s a b ∙ one_written from.line slot None p line s (place_sent new line s)
          (λ l e. ap (option_map (λ q. q.from.place)) (found_without_old lines slots layout from to slot (λ x. path_in x line s) (sent_in line s) (looks_in lines slots line s) legal inside has (sym l, sym e)))
          (λ other. ap (option_map (λ q. q.from.place)) (found_without_other lines slots layout from to slot (λ x. path_in x line s) (sent_in line s) (looks_in lines slots line s) legal inside has (λ this. other (sym this.0) (sym this.1))) ∙ sym (t.incoming line s a b));
      space = λ line s a b.
          crossed line s a b ∙ one_written to.line slot None c line s (line_received new line s)
          (λ l e. ap (option_map (λ q. q.from.line)) (found_without_old lines slots layout from to slot (λ x. path_out x line s) (received_in line s) (looks_out lines slots line s) legal inside has (sym l, sym e)))
          (λ other. ap (option_map (λ q. q.from.line)) (found_without_other lines slots layout from to slot (λ x. path_out x line s) (received_in line s) (looks_out lines slots line s) legal inside has (λ this. other (sym this.0) (sym this.1))) ∙ sym (t.space line s a b));
      outgoing = λ line place a b.
          let at : Slot = record { line = line; place = place } in
          read line place a b ∙ one_written to.line to.place None r line place (slot_read new at)
          (λ l e. ap (option_map (λ q. q.slot)) (found_without_old lines slots layout from to slot (λ x. path_to x at) (ends_at at) (looks_to lines slots at) legal inside has (slot_is to line place l e)))
          (λ other. ap (option_map (λ q. q.slot)) (found_without_other lines slots layout from to slot (λ x. path_to x at) (ends_at at) (looks_to lines slots at) legal inside has (λ this. other (ap (λ (z : Slot). z.line) (sym this)) (ap (λ (z : Slot). z.place) (sym this)))) ∙ sym (t.outgoing line place a b));
    }

-- ---- no path at all
get_or-replicate_none : {X : Type 0} (n k : ℕ) → get_or (replicate n (let x : Option X = None in x)) k None ≡ None
get_or-replicate_none {X} n k =
    ⊎_elim (λ (l : k < n). get_or-replicate n k None None l) (λ (l : n ≤ k). get_or_past (replicate n None) k None (let m = length-replicate n (let x : Option X = None in x) in omega (arith, m, l))) (cases_lt k n)

abbrev pub bare : ℕ → Layout
bare lines = replicate (30 * lines) None

no_path : (lines : ℕ) (x y : Slot) (s : ℕ) → HasPath (bare lines) x y s → ⊥
no_path lines x y s has = let wrong = sym (get_or-replicate_none (30 * lines) (number_of x)) ∙ has in cc

pub legal_bare : (lines slots : ℕ) → Legal lines slots (bare lines)
legal_bare lines slots = record {
  inlets = length-replicate (30 * lines) None;
  within = λ x y s in_x has. absurd (no_path lines x y s has);
  one_inlet = λ x z y s r in_x in_z a b. absurd (no_path lines x y s a);
  one_sent = λ x z y t s in_x in_z a b e. absurd (no_path lines x y s a);
  one_received = λ x z y t s in_x in_z a b e. absurd (no_path lines x y s a);
}

pub finds_nothing : (lines slots : ℕ) (look : Layout → Option Path) (For : Path → Type 0) → Looks lines slots look For → look (bare lines) ≡ None
finds_nothing lines slots look For looks = found_none (look (bare lines)) (λ p e. let f = looks.found (bare lines) p (legal_bare lines slots) e in no_path lines p.from p.to p.slot f.0.path)

pub tables_bare : (lines slots : ℕ) (p c r : ℕ → ℕ → Option ℕ) → Agree lines slots p nothing → Agree lines slots c nothing → Agree lines 30 r nothing → HasTables lines slots (bare lines) p c r
tables_bare lines slots p c r places crossed read = record {
  incoming = λ line s a b. places line s a b ∙ sym (ap (option_map (λ q. q.from.place)) (finds_nothing lines slots (λ x. path_in x line s) (sent_in line s) (looks_in lines slots line s)));
  space = λ line s a b. crossed line s a b ∙ sym (ap (option_map (λ q. q.from.line)) (finds_nothing lines slots (λ x. path_out x line s) (received_in line s) (looks_out lines slots line s)));
  outgoing = λ line place a b. read line place a b ∙ sym (ap (option_map (λ q. q.slot)) (finds_nothing lines slots (λ x. path_to x (record { line = line; place = place })) (ends_at (record { line = line; place = place })) (looks_to lines slots (record { line = line; place = place }))));
}

-- ---- tables of one size
pub sized : (a b : Table) (height width below : ℕ) → HasSize a height width below → SameSize a b → HasSize b height width below
sized a b height width below old same = record { rows = same.rows ∙ old.rows; columns = same.columns ∙ old.columns; limit = same.limit ∙ old.limit }

pub agree_sized : (a : Table) (height width below : ℕ) (x y : ℕ → ℕ → Option ℕ) → HasSize a height width below → Agree a.rows a.columns x y → Agree height width x y
agree_sized a height width below x y size agree row column r c = agree row column (subst (λ n. row < n) (sym size.rows) r) (subst (λ n. column < n) (sym size.columns) c)

-- the invariant after a path is added and after one is taken out
pub tabled_with : (lines slots : ℕ) (layout : Layout) (from to : Slot) (slot : ℕ) (a b c a' b' c' : Table) → IsTabled lines slots layout a b c → IsSlot lines from → IsSlot lines to → slot < slots → IsFree lines layout from to slot
    → SameSize a a' → SameSize b b' → SameSize c c'
    → Agree a.rows a.columns (entry a') (written from.line slot (Some from.place) (entry a)) → Agree b.rows b.columns (entry b') (written to.line slot (Some from.line) (entry b)) → Agree c.rows c.columns (entry c') (written to.line to.place (Some slot) (entry c))
    → IsTabled lines slots (with_path layout from to slot) a' b' c'
tabled_with lines slots layout from to slot a b c a' b' c' t inside inside_to below free size_a size_b size_c wrote_a wrote_b wrote_c = record {
  few = t.few;
  legal = legal_with lines slots layout from to slot t.legal inside inside_to below free;
  incoming_size = sized a a' lines slots 30 t.incoming_size size_a;
  space_size = sized b b' lines slots lines t.space_size size_b;
  outgoing_size = sized c c' lines 30 slots t.outgoing_size size_c;
  tables = tables_with lines slots layout from to slot (entry a) (entry b) (entry c) (entry a') (entry b') (entry c') t.legal inside inside_to below free t.tables
      (agree_sized a lines slots 30 _ _ t.incoming_size wrote_a) (agree_sized b lines slots lines _ _ t.space_size wrote_b) (agree_sized c lines 30 slots _ _ t.outgoing_size wrote_c);
}

pub tabled_without : (lines slots : ℕ) (layout : Layout) (from to : Slot) (slot : ℕ) (a b c a' b' c' : Table) → IsTabled lines slots layout a b c → IsSlot lines from → HasPath layout from to slot
    → SameSize a a' → SameSize b b' → SameSize c c'
    → Agree a.rows a.columns (entry a') (written from.line slot None (entry a)) → Agree b.rows b.columns (entry b') (written to.line slot None (entry b)) → Agree c.rows c.columns (entry c') (written to.line to.place None (entry c))
    → IsTabled lines slots (without_path layout from) a' b' c'
tabled_without lines slots layout from to slot a b c a' b' c' t inside has size_a size_b size_c wrote_a wrote_b wrote_c = record {
  few = t.few;
  legal = legal_without lines slots layout from t.legal inside;
  incoming_size = sized a a' lines slots 30 t.incoming_size size_a;
  space_size = sized b b' lines slots lines t.space_size size_b;
  outgoing_size = sized c c' lines 30 slots t.outgoing_size size_c;
  tables = tables_without lines slots layout from to slot (entry a) (entry b) (entry c) (entry a') (entry b') (entry c') t.legal inside has t.tables
      (agree_sized a lines slots 30 _ _ t.incoming_size wrote_a) (agree_sized b lines slots lines _ _ t.space_size wrote_b) (agree_sized c lines 30 slots _ _ t.outgoing_size wrote_c);
}

pub tabled_bare : (lines slots : ℕ) (a b c : Table) → lines ≤ 34 → AreBare lines slots a b c → IsTabled lines slots (bare lines) a b c
tabled_bare lines slots a b c few are = record {
  few = few;
  legal = legal_bare lines slots;
  incoming_size = are.incoming_size;
  space_size = are.space_size;
  outgoing_size = are.outgoing_size;
  tables = tables_bare lines slots (entry a) (entry b) (entry c) are.none.incoming are.none.space are.none.outgoing;
}

number_is : (a b : ℕ) → Some a ≡ Some b → a ≡ b
number_is a b e = cc

-- ---- the path that a line sends in a slot, by its entry
pub sent_from : (lines slots : ℕ) (layout : Layout) (line slot place : ℕ) (p : Path) → Legal lines slots layout → path_in layout line slot ≡ Some p → place_sent layout line slot ≡ Some place → record { line = line; place = place } ≡ p.from
sent_from lines slots layout line slot place p legal at sent =
    let f = path_in_found lines layout line slot p legal.inlets at in
    let there : p.from.place ≡ place = number_is p.from.place place (ap (option_map (λ (q : Path). q.from.place)) (sym at) ∙ sent) in
    let line_is = f.1 in
    λ i. record { line = sym line_is i; place = sym there i }

pub path_there : (lines slots : ℕ) (layout : Layout) (line slot : ℕ) (p : Path) → Legal lines slots layout → path_in layout line slot ≡ Some p → IsSlot lines p.from × HasPath layout p.from p.to p.slot
path_there lines slots layout line slot p legal at = let f = path_in_found lines layout line slot p legal.inlets at in (f.0.inlet, f.0.path)

pub line_inside : (lines slots : ℕ) (layout : Layout) (line slot : ℕ) → Legal lines slots layout → (p : Path) × (path_in layout line slot ≡ Some p) → line < lines
line_inside lines slots layout line slot legal at = let f = path_in_found lines layout line slot at.0 legal.inlets at.1 in subst (λ l. l < lines) f.1 f.0.inlet.0

pub slot_inside : (lines slots : ℕ) (layout : Layout) (line slot : ℕ) → Legal lines slots layout → (p : Path) × (path_in layout line slot ≡ Some p) → slot < slots
slot_inside lines slots layout line slot legal at =
    let f = path_in_found lines layout line slot at.0 legal.inlets at.1 in
    subst (λ s. s < slots) f.2 (legal.within at.0.from at.0.to at.0.slot f.0.inlet f.0.path).1
