use Rattle.std.proofs.Common.{sym, ap, ◌∙◌, w32, arith}
use Rattle.std.proofs.lemmas.Nat.Bits.{bit_at_set_same, bit_at_set_other, bit_at_clear_same, bit_at_clear_other}
use Rattle.control_memory.specs.HeardRows.{tone_bit}
use Rattle.control_memory.proofs.heard_table.tones_with.Goals as goal

pub returns-in-Tone-clause-here : goal.returns-in-Tone-clause-here
returns-in-Tone-clause-here c = bit_at_set_same w32 c.args.tones c.args.place (omega (arith, c.requires)) ∙ sym (ap tone_bit c.in-Tone.is)

pub returns-in-Tone-clause-others : goal.returns-in-Tone-clause-others
returns-in-Tone-clause-others c other small apart = bit_at_set_other w32 c.args.tones c.args.place (omega (arith, c.requires)) other apart

pub returns-in-Path-clause-here : goal.returns-in-Path-clause-here
returns-in-Path-clause-here c = bit_at_clear_same w32 c.args.tones c.args.place (omega (arith, c.requires)) ∙ sym (ap tone_bit c.in-Path.is)

pub returns-in-Path-clause-others : goal.returns-in-Path-clause-others
returns-in-Path-clause-others c other small apart = bit_at_clear_other w32 c.args.tones c.args.place (omega (arith, c.requires)) other small apart

pub returns-in-Silent-clause-here : goal.returns-in-Silent-clause-here
returns-in-Silent-clause-here c = bit_at_clear_same w32 c.args.tones c.args.place (omega (arith, c.requires)) ∙ sym (ap tone_bit c.in-Silent.is)

pub returns-in-Silent-clause-others : goal.returns-in-Silent-clause-others
returns-in-Silent-clause-others c other small apart = bit_at_clear_other w32 c.args.tones c.args.place (omega (arith, c.requires)) other small apart
