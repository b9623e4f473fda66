use Rattle.std.proofs.Common.{◌∙◌, sym, ap, rules}
use Rattle.std.proofs.lemmas.List.{get_or-replicate}
use Rattle.circuit_model.specs.FrameInput.{idle_octet}
use Rattle.tone_rules.specs.Tables.{table_of}
use Rattle.frame_engine.specs.Playing.{played_as}
use Rattle.frame_engine.proofs.ToneBits.{row_bits}
use Rattle.frame_engine.proofs.play.play_line.Goals as goal

pub returns-then-is_silent : goal.returns-then-is_silent
returns-then-is_silent c place near =
    get_or-replicate 30 place idle_octet 0 near
    ∙ sym (ap (played_as (table_of c.args.tones.now) _ _) (c.is_silent.ensures (search rules) place near))

pub play_heard-requires-clause-tones : goal.play_heard-requires-clause-tones
play_heard-requires-clause-tones c place kind since near is =
    c.requires.tones place kind since near (sym (c.row.ensures.heard place near) ∙ is)

pub play_heard-requires-clause-places : goal.play_heard-requires-clause-places
play_heard-requires-clause-places c = row_bits c.args.table.now c.row.result.now c.args.line c.tone_places-places.result c.tone_places-places.ensures c.row.ensures.heard
