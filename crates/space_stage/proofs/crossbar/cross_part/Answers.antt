use Rattle.std.proofs.Common.{◌≡◌, ◌<◌, ℕ, ◌≤◌, None, Option, ap, subst, sym, arith, rules}
use Rattle.control_memory.specs.Tables.{Table, entry}
use Rattle.control_memory.specs.Image.{lines_of}
use Rattle.control_memory.specs.Carrying.{fetched}
use Rattle.frame_buffer.specs.Highways.{octet_on, IsPart, RowsHold}
use Rattle.frame_buffer.proofs.Parts.{none_written}
use Rattle.space_stage.specs.Crossing.{gets_by, gets}
use Rattle.space_stage.proofs.RowsAfter.{rest_is_idle}
use Rattle.space_stage.proofs.crossbar.cross_part.Goals as goal

pub returns-then-first-used_rows-clause-octets : goal.returns-then-first-used_rows-clause-octets
returns-then-first-used_rows-clause-octets c =
    let m = c.args.image.now in
    let h = c.args.highway.now in
    let part = c.cross_used.new.part in
    subst (λ slots. RowsHold slots (gets m h) c.args.first part) (sym c.requires.image)
    (subst (λ (t : Table). RowsHold c.args.slots (gets_by t h) c.args.first part) c.space_table-table.ensures c.cross_used.ensures.octets)

pub returns-else-first-used_rows-clause-octets : goal.returns-else-first-used_rows-clause-octets
returns-else-first-used_rows-clause-octets c =
    let m = c.args.image.now in
    let h = c.args.highway.now in
    let part = c.fill_idle.new.row in
    let used = c.used_rows.result in
    let none : used ≤ c.args.first = search rules in
    let from : c.args.first ≤ c.args.first = omega arith in
    let empty = subst (λ (t : Table). (row column : ℕ) → used ≤ row → row < t.rows → column < t.columns → entry t row column ≡ None) c.space_table-table.ensures c.used_rows.ensures.empty in
    rest_is_idle m.slots (gets m h) c.args.first (lines_of m) c.args.first part
    (subst (IsPart (lines_of m) m.slots c.args.first) (sym c.fill_idle.ensures.size) (search rules)) from
    (none_written m.slots (gets m h) c.args.first part c.fill_idle.ensures.octets)
    (λ line at past inside near. ap (λ (o : Option ℕ). fetched o (λ l. octet_on h l at)) (empty line at (omega (arith, none, past)) inside near))
