use Rattle.std.proofs.Common.{rules}
use Rattle.frame_buffer.specs.Highways.{octet_on}
use Rattle.control_memory.specs.Tables.{entry}
use Rattle.space_stage.proofs.Starts.{start_within, get_or_gathered}
use Rattle.space_stage.proofs.crossbar.gather_row.Goals as goal

pub bounds-rows-start : goal.bounds-rows-start
bounds-rows-start c =
    let h = c.args.highway.now in
    let is = start_within h.slots h.lines (entry c.args.table.now c.args.line) c.row-lines.result.now c.args.starts.now c.rows_with_idle_first-rows.result.now (octet_on h) (search rules) (search rules) (search rules) c.rows_with_idle_first-rows.ensures.idle c.rows_with_idle_first-rows.ensures.lines c.loop-slot.slot (search rules) in
    search (rules, is)

pub loop-slot-preserved : goal.loop-slot-preserved
loop-slot-preserved c k below =
    let h = c.args.highway.now in
    let is = get_or_gathered h.slots h.lines (entry c.args.table.now c.args.line) c.row-lines.result.now c.args.starts.now c.rows_with_idle_first-rows.result.now (octet_on h) (search rules) (search rules) (search rules) c.rows_with_idle_first-rows.ensures.idle c.rows_with_idle_first-rows.ensures.lines c.loop-slot.slot (search rules) in
    search (rules, is)
