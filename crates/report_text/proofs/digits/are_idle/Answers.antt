use Rattle.std.proofs.Common.{sym, ◌∙◌}
use Rattle.std.specs.Slice.Iter.{chunks_rest}
use Rattle.report_text.proofs.Rows.{idle_after, idle_until}
use Rattle.report_text.proofs.digits.are_idle.Goals as goal

pub returns-then-not-is_piece_idle : goal.returns-then-not-is_piece_idle
returns-then-not-is_piece_idle c =
    let tested = sym c.is_piece_idle.ensures ∙ c.if-not-is_piece_idle.true in
    sym (idle_until _ c.in-Some.piece.now (chunks_rest c.next.new.self) c.in-Some.ensures.steps.1.0 tested) ∙ c.loop-piece.invariant

pub loop-piece-preserved : goal.loop-piece-preserved
loop-piece-preserved c =
    let tested = sym c.is_piece_idle.ensures ∙ c.if-not-is_piece_idle.false in
    sym (idle_after _ c.in-Some.piece.now (chunks_rest c.next.new.self) c.in-Some.ensures.steps.1.0 tested) ∙ c.loop-piece.invariant
