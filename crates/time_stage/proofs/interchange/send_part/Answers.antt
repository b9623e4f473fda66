use Rattle.std.proofs.Common.{◌≡◌, ◌<◌, ℕ, ◌≤◌, None, Option, ap, subst, sym, arith, rules}
use Rattle.control_memory.specs.Tables.{Table, entry}
use Rattle.control_memory.specs.Image.{lines_of}
use Rattle.control_memory.specs.Carrying.{fetched}
use Rattle.frame_buffer.specs.Speech.{octet_in_half}
use Rattle.frame_buffer.specs.Highways.{IsPart, RowsHold}
use Rattle.frame_buffer.proofs.Parts.{none_written}
use Rattle.space_stage.proofs.RowsAfter.{rest_is_idle}
use Rattle.time_stage.specs.Interchange.{sends_by, sends}
use Rattle.time_stage.proofs.interchange.send_part.Goals as goal

pub returns-then-first-used_rows-clause-octets : goal.returns-then-first-used_rows-clause-octets
returns-then-first-used_rows-clause-octets c =
    subst (λ (t : Table). RowsHold c.args.slots (sends_by t c.args.buffer.now) c.args.first c.send_used.new.part) c.incoming_table-table.ensures c.send_used.ensures.octets

pub returns-else-first-used_rows-clause-octets : goal.returns-else-first-used_rows-clause-octets
returns-else-first-used_rows-clause-octets c =
    let image = c.args.image.now in
    let octet = sends image c.args.buffer.now in
    let part = c.fill_idle.new.row in
    let used = c.used_rows.result in
    let none : used ≤ c.args.first = search rules in
    let from : c.args.first ≤ c.args.first = omega arith in
    let empty = subst (λ (t : Table). (row column : ℕ) → used ≤ row → row < t.rows → column < t.columns → entry t row column ≡ None) c.incoming_table-table.ensures c.used_rows.ensures.empty in
    rest_is_idle c.args.slots octet c.args.first (lines_of image) c.args.first part
    (subst (IsPart (lines_of image) c.args.slots c.args.first) (sym c.fill_idle.ensures.size) c.requires.part) from
    (none_written c.args.slots octet c.args.first part c.fill_idle.ensures.octets)
    (λ line at past inside near. ap (λ (o : Option ℕ). fetched o (λ place. octet_in_half c.args.buffer.now.readable (record { line = line; place = place }))) (empty line at (omega (arith, none, past)) inside (search (rules, near))))
