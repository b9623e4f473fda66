use Rattle.std.proofs.Common.{◌≡◌, ℕ, ◌+◌, ◌-◌, ◌*◌, ◌≤◌, length, ◌∙◌, sym, subst, arith, rules}
use Rattle.frame_buffer.specs.Highways.{IsPart}
use Rattle.frame_buffer.proofs.Parts.{HoldBefore, row_fits, none_there, written_there, all_hold}
use Rattle.space_stage.specs.Turning.{joined}
use Rattle.space_stage.proofs.slotwise.put_lines.Goals as goal
use Rattle.space_stage.proofs.slotwise.put_lines.Goals.{then-start-part, else-start-part}

pub slice_bounds-row-end : goal.slice_bounds-row-end
slice_bounds-row-end c = let fits = row_fits (length c.loop-k.part) c.requires.rows 30 c.loop-k.k (search rules) (search rules) in search (rules, fits)

pub loop-k-preserved : goal.loop-k-preserved
loop-k-preserved c =
    let octet = joined c.args.front.now c.args.back.now in
    let k = c.loop-k.k in
    let part = c.loop-k.part in
    let from : 0 ≤ k = omega arith in
    let before : HoldBefore 30 octet 0 k part = c.loop-k.invariant.done in
    record {
      size = c.if-start-part.auto.part ∙ c.loop-k.invariant.size;
      done = elim c.if-start-part.branch [
        | then-start-part w ↦
            let a = k * 30 in
            let wide = a + 30 - a in
            let is : wide ≡ 30 = omega arith in
            let whole : length part ≡ c.requires.rows * 30 = search rules in
            let fits = row_fits (length part) c.requires.rows 30 k whole w.if-start-part.true in
            subst (HoldBefore 30 octet 0 (k + 1)) (sym w.part-is)
            (written_there 30 octet 0 k part from before a wide w.put_line.new.row (omega arith) is (omega (arith, fits, is)) (search rules) (λ at near. w.put_line.ensures.octets at near))
        | else-start-part w ↦
            subst (HoldBefore 30 octet 0 (k + 1)) (sym w.part-is)
            (none_there 30 octet 0 k part from before (omega (arith, w.if-start-part.false)))
      ];
    }

pub returns-clause-octets : goal.returns-clause-octets
returns-clause-octets c =
    all_hold 30 (joined c.args.front.now c.args.back.now) 0 16 c.loop-k.k c.loop-k.part (subst (IsPart 16 30 0) (sym c.loop-k.invariant.size) c.requires) (search rules) c.loop-k.invariant.done
