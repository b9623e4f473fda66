use Rattle.std.proofs.Common.{◌≡◌, ℕ, ◌+◌, ◌-◌, ◌*◌, ◌≤◌, length, Option, ◌∙◌, ap, sym, subst, arith, rules}
use Rattle.control_memory.specs.Carrying.{fetched}
use Rattle.frame_buffer.specs.Highways.{octet_on, IsPart}
use Rattle.time_stage.specs.Interchange.{reads_by}
use Rattle.frame_buffer.proofs.Parts.{IsWrittenTo, row_fits, written_past, written_idle, written_row}
use Rattle.space_stage.proofs.RowsAfter.{rest_is_idle}
use Rattle.time_stage.proofs.interchange.read_used.Goals as goal
use Rattle.time_stage.proofs.interchange.read_used.Goals.{then-start-part, else-start-part}

pub loop-line-preserved-then-is_known_empty : goal.loop-line-preserved-then-is_known_empty
loop-line-preserved-then-is_known_empty c =
    let whole : length c.loop-line.part ≡ c.requires.part.rows * 30 = search rules in
    record {
      size = c.loop-line.invariant.size;
      done = written_idle 30 (reads_by c.args.table.now c.args.crossed.now) c.args.first c.loop-line.line c.loop-line.part c.loop-line.auto.line c.loop-line.invariant.done c.requires.part.rows whole
          (λ at near. ap (λ (o : Option ℕ). fetched o (octet_on c.args.crossed.now c.loop-line.line)) (c.is_known_empty.ensures c.if-is_known_empty.true at (search (rules, near))));
    }

pub loop-line-preserved : goal.loop-line-preserved
loop-line-preserved c =
    let octet = reads_by c.args.table.now c.args.crossed.now in
    let first = c.args.first in
    let line = c.loop-line.line in
    let part = c.loop-line.part in
    let from : first ≤ line = c.loop-line.auto.line in
    let done : IsWrittenTo 30 octet first line part = c.loop-line.invariant.done in
    let start : c.from.result * c.from-places.result ≡ (line - first) * 30 = search rules in
    record {
      size = c.if-start-part.auto.part ∙ c.loop-line.invariant.size;
      done = elim c.if-start-part.branch [
        | then-start-part w ↦
            let a = c.from.result * c.from-places.result in
            let k = a + c.from-places.result - a in
            let wide : k ≡ 30 = omega (arith, c.from-places.ensures) in
            let whole : length part ≡ c.requires.part.rows * 30 = search rules in
            let fits = row_fits (length part) c.requires.part.rows 30 (line - first) whole (omega (arith, start, w.if-start-part.true)) in
            subst (IsWrittenTo 30 octet first (line + 1)) (sym w.part-is)
            (written_row 30 octet first line part from done a k w.read_row.new.row start wide (omega (arith, fits, start, wide)) (search rules) (λ at near. w.read_row.ensures.octets at (search rules)))
        | else-start-part w ↦
            subst (IsWrittenTo 30 octet first (line + 1)) (sym w.part-is)
            (written_past 30 octet first line part from done (omega (arith, start, w.if-start-part.false)))
      ];
    }

pub returns-clause-octets : goal.returns-clause-octets
returns-clause-octets c =
    let crossed = c.args.crossed.now in
    let reached : c.used_rows-line-end.result ≤ c.loop-line.line = search rules in
    rest_is_idle 30 (reads_by c.args.table.now crossed) c.args.first crossed.lines c.loop-line.line c.loop-line.part
    (subst (IsPart crossed.lines 30 c.args.first) (sym c.loop-line.invariant.size) c.requires.part) c.loop-line.auto.line c.loop-line.invariant.done
    (λ line at past inside near. ap (λ (o : Option ℕ). fetched o (octet_on crossed line)) (c.used_rows-line-end.ensures.empty line at (omega (arith, reached, past)) (search (rules, inside)) (search (rules, near))))
