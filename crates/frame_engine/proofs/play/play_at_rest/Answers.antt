use Rattle.std.proofs.Common.{ℕ, ◌<◌, List, length, slice_index, ◌∙◌, sym, ap, arith, rules}
use Rattle.std.proofs.lemmas.List.{get_or-replicate}
use Rattle.circuit_model.specs.declared.circuit.Kind.{Kind}
use Rattle.circuit_model.specs.FrameInput.{idle_octet}
use Rattle.frame_buffer.specs.Speech.{octet_in_half}
use Rattle.control_memory.specs.Image.{heard_at}
use Rattle.tone_rules.specs.Tables.{table_of, IsGiven}
use Rattle.frame_engine.proofs.GivenTones.{plays_idle}
use Rattle.frame_engine.proofs.play.play_at_rest.Goals as goal

pub returns-then-is_empty-clause-plays : goal.returns-then-is_empty-clause-plays
returns-then-is_empty-clause-plays c idle at inside near =
    let filled = c.fill_idle_from.ensures in
    let m = c.args.image.now in
    let none : (kind : Kind) → IsGiven c.args.tones.now kind → ⊥ = c.is_empty.ensures.0 c.if-is_empty.true in
    let many : at.line < length c.fill_idle_from.new.out = search rules in
    ap (λ (row : List ℕ). slice_index row at.place) (filled.idle at.line (omega arith) many)
    ∙ get_or-replicate 30 at.place idle_octet 0 near
    ∙ sym (plays_idle (table_of c.args.tones.now) m.frame (octet_in_half c.args.read.now.readable at) (heard_at m at) (idle at (omega (arith, inside)) near)
    (λ kind since is. none kind (c.requires.tones at (omega (arith, inside)) near kind since is)))
