use Rattle.std.proofs.Common.{◌≡◌, length, false, get_or, Some, None, is_some, Ok, sym, ◌∙◌, arith}
use Rattle.trace_text.specs.TraceWords.{cut_at}
use Rattle.trace_text.specs.TraceFields.{external_line, octets_written, thirty}
use Rattle.trace_text.specs.TraceLines.{colon}
use Rattle.trace_text.proofs.TraceParts.{part_given}
use Rattle.trace_text.proofs.line.put_part.Goals as goal

pub returns : goal.returns
returns c =
    let given = c.args.given.now in
    let line = c.in_ok-line-2.line in
    let cut : cut_at colon c.args.word.now ≡ Some (c.in_ok-line.line.now, c.in_ok-line.digits.now) = grind arith in
    let named : external_line (length given) c.in_ok-line.line.now ≡ Some line = grind arith in
    let free : is_some (get_or given line None) ≡ false = rw (← c.from-place.ensures) (sym c.is_some.ensures ∙ c.if-is_some.false) in
    let read : thirty (octets_written c.in_ok-line.digits.now) ≡ Ok c.in_ok-thirty_octets.field-0 = grind arith in
    rw c.from-place.ensures (part_given (length given) given c.args.word.now (c.in_ok-line.line.now, c.in_ok-line.digits.now) line c.in_ok-thirty_octets.field-0 cut named free read)
