use Rattle.std.proofs.Common.{◌≡◌, ℕ, ◌+◌, ◌*◌, ◌<◌, ◌≤◌, List, [], length, get_or, set, sym, subst, arith, rules}
use Rattle.std.specs.Simd.Lanes.{chunk}
use Rattle.std.proofs.lemmas.List.Edits.{fill_by_more}
use Rattle.space_stage.proofs.Turns.{row_by, square_by_rows}
use Rattle.space_stage.proofs.SlotRows.{chunk_is_row}
use Rattle.space_stage.proofs.slotwise.block.Goals as goal

pub loop-k-preserved : goal.loop-k-preserved
loop-k-preserved c =
    let rows = c.args.rows.now in
    let from = c.args.from in
    let l = c.loop-k in
    let f : ℕ → List ℕ = row_by (λ row at. get_or rows (from + row * 30 + at) 0) in
    let room : l.k < length l.bytes = search rules in
    let fits : from + l.k * 30 + 16 ≤ length rows = search rules in
    record {
      size = search rules;
      done = subst (λ v. (j : ℕ) → j < l.k + 1 → get_or (set l.bytes l.k v) j [] ≡ f j) (sym (chunk_is_row rows from l.k fits)) (fill_by_more f l.bytes l.k [] room l.invariant.done);
    }

pub returns : goal.returns
returns c = square_by_rows _ c.loop-k.bytes c.loop-k.invariant.size (λ row near. c.loop-k.invariant.done row (search (rules, near)))
