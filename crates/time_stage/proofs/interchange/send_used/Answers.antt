use Rattle.std.proofs.Common.{◌≡◌, ℕ, ◌+◌, ◌-◌, ◌*◌, ◌≤◌, length, Option, ◌∙◌, ap, sym, subst, arith, rules}
use Rattle.frame_buffer.specs.Speech.{octet_in_half}
use Rattle.control_memory.specs.Carrying.{fetched}
use Rattle.time_stage.specs.Interchange.{sends_by}
use Rattle.frame_buffer.specs.Highways.{IsPart}
use Rattle.frame_buffer.proofs.Parts.{IsWrittenTo, row_fits, written_past, written_idle, written_row}
use Rattle.space_stage.proofs.RowsAfter.{rest_is_idle}
use Rattle.time_stage.proofs.interchange.send_used.Goals as goal
use Rattle.time_stage.proofs.interchange.send_used.Goals.{then-start-part, else-start-part}

pub slice_bounds-row-end : goal.slice_bounds-row-end
slice_bounds-row-end c = let fits = row_fits (length c.loop-line.part) c.requires.part.rows c.args.slots (c.loop-line.line - c.args.first) (search rules) (search rules) in search (rules, fits)

pub loop-line-preserved-then-sends_nothing : goal.loop-line-preserved-then-sends_nothing
loop-line-preserved-then-sends_nothing c =
    let slots = c.args.slots in
    let octet = sends_by c.args.table.now c.args.buffer.now in
    let line = c.loop-line.line in
    let part = c.loop-line.part in
    let whole : length part ≡ c.requires.part.rows * slots = search rules in
    record {
      size = c.loop-line.invariant.size;
      done = written_idle slots octet c.args.first line part c.loop-line.auto.line c.loop-line.invariant.done c.requires.part.rows whole
          (λ at near. c.sends_nothing.ensures c.if-sends_nothing.true at (search (rules, near)));
    }

pub loop-line-preserved : goal.loop-line-preserved
loop-line-preserved c =
    let slots = c.args.slots in
    let octet = sends_by c.args.table.now c.args.buffer.now in
    let first = c.args.first in
    let line = c.loop-line.line in
    let part = c.loop-line.part in
    let from : first ≤ line = c.loop-line.auto.line in
    let done : IsWrittenTo slots octet first line part = c.loop-line.invariant.done in
    let start : c.from.result * c.from-slots.result ≡ (line - first) * slots = search rules in
    record {
      size = c.if-start-part.auto.part ∙ c.loop-line.invariant.size;
      done = elim c.if-start-part.branch [
        | then-start-part w ↦
            let a = c.from.result * c.from-slots.result in
            let k = a + c.from-slots.result - a in
            let wide : k ≡ slots = omega (arith, c.from-slots.ensures) in
            let whole : length part ≡ c.requires.part.rows * slots = search rules in
            let fits = row_fits (length part) c.requires.part.rows slots (line - first) whole (omega (arith, start, w.if-start-part.true)) in
            subst (IsWrittenTo slots octet first (line + 1)) (sym w.part-is)
            (written_row slots octet first line part from done a k w.send_row.new.row start wide (omega (arith, fits, start, wide)) (search rules) (λ at near. w.send_row.ensures.octets at (search rules)))
        | else-start-part w ↦
            subst (IsWrittenTo slots octet first (line + 1)) (sym w.part-is)
            (written_past slots octet first line part from done (omega (arith, start, w.if-start-part.false)))
      ];
    }

pub returns-clause-octets : goal.returns-clause-octets
returns-clause-octets c =
    let buffer = c.args.buffer.now in
    let reached : c.used_rows-line-end.result ≤ c.loop-line.line = search rules in
    rest_is_idle c.args.slots (sends_by c.args.table.now buffer) c.args.first buffer.lines c.loop-line.line c.loop-line.part
    (subst (IsPart buffer.lines c.args.slots c.args.first) (sym c.loop-line.invariant.size) c.requires.part) c.loop-line.auto.line c.loop-line.invariant.done
    (λ line at past inside near. ap (λ (o : Option ℕ). fetched o (λ place. octet_in_half buffer.readable (record { line = line; place = place }))) (c.used_rows-line-end.ensures.empty line at (omega (arith, reached, past)) (search (rules, inside)) (search (rules, near))))
