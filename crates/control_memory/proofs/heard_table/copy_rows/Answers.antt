use Rattle.std.proofs.Common.{◌%◌, sym, ap, ◌∙◌, inl, inr, arith}
use Rattle.std.specs.Int.{bit_at}
use Rattle.std.proofs.lemmas.Bool.{cases_eq}
use Rattle.std.proofs.lemmas.Nat.Bits.{shr_and_one}
use Rattle.control_memory.specs.HeardRows.{heard_on}
use Rattle.control_memory.proofs.heard_table.copy_rows.Goals as goal

pub loop-line-preserved : goal.loop-line-preserved
loop-line-preserved c =
    let before = c.loop-line.invariant in
    let row = c.copy_row.ensures in
    record {
      size = row.size ∙ before.size;
      marked = λ line place inside near bit. elim (cases_eq line c.loop-line.line) [
        | inl same ↦ ap (λ l. heard_on c.copy_row.new.to.items l place) same ∙ row.here place near ∙ sym (ap (λ l. heard_on c.args.from.now l place) same)
        | inr other ↦ row.others line place other near ∙ before.marked line place (omega (arith, inside, other)) near bit
      ];
      others = λ line place inside near bare. elim (cases_eq line c.loop-line.line) [
        | inl same ↦
            let unmarked = shr_and_one c.args.marks (c.loop-line.line % 64) ∙ sym (ap (λ l. bit_at c.args.marks (l % 64)) same) ∙ bare in
            absurd (c.if-marks-line-eq0.false unmarked)
        | inr other ↦ row.others line place other near ∙ before.others line place (omega (arith, inside, other)) near bare
      ];
      rest = λ line place behind near. row.others line place (λ e. omega (arith, behind, e)) near ∙ before.rest line place (omega (arith, behind)) near;
    }
