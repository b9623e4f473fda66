use Rattle.std.proofs.Common.{◌≡◌, ◌+◌, ◌*◌, ◌<◌, None, length, get_or, ap, ◌∙◌, arith, rules}
use Rattle.std.proofs.lemmas.List.{get_or-map, with_items_is}
use Rattle.std.proofs.lemmas.Nat.{mul-add-lt}
use Rattle.control_memory.specs.Tables.{number_in}
use Rattle.control_memory.proofs.TableRows.{get_or_emptied, are_empty_bytes}
use Rattle.control_memory.proofs.control_table.ControlTable.clear.Goals as goal

pub returns-clause-empty : goal.returns-clause-empty
returns-clause-empty c row column inside near =
    let t = c.self.inside in
    let new = c.empty_front.new.bytes in
    let e = c.empty_front.ensures in
    let old = c.deref_mut.ensures.value in
    let size : length new ≡ length t.bytes.items = e.size ∙ ap length old in
    let whole = c.self.invariant.size in
    let row_in : row < t.rows = search rules in
    let near_in : column < t.columns = search rules in
    let here : row * t.columns + column < length new = grind (arith, mul-add-lt row t.columns column t.rows row_in near_in, size, whole) in
    let empty = get_or_emptied t.rows t.columns t.limit t.bytes.items t.marks c.marked_rows-rows.result c.self.invariant c.marked_rows-rows.ensures.unmarked new (c.from.result * c.from-2.result) (search rules) size e.front (λ i late. e.others i late ∙ ap (λ l. get_or l i 0) old) in
    let is = get_or-map number_in new (row * t.columns + column) 0 None here ∙ ap number_in (empty (row * t.columns + column) here) in
    rw (with_items_is t.bytes new (e.size ∙ c.deref_mut.ensures.len)) is

pub invariant_of-self : goal.invariant_of-self
invariant_of-self c =
    let t = c.self.inside in
    let new = c.empty_front.new.bytes in
    let e = c.empty_front.ensures in
    let old = c.deref_mut.ensures.value in
    let size : length new ≡ length t.bytes.items = e.size ∙ ap length old in
    let empty = get_or_emptied t.rows t.columns t.limit t.bytes.items t.marks c.marked_rows-rows.result c.self.invariant c.marked_rows-rows.ensures.unmarked new (c.from.result * c.from-2.result) (search rules) size e.front (λ i late. e.others i late ∙ ap (λ l. get_or l i 0) old) in
    rw (with_items_is t.bytes new (e.size ∙ c.deref_mut.ensures.len)) (are_empty_bytes t.rows t.columns t.limit new (size ∙ c.self.invariant.size) empty)
