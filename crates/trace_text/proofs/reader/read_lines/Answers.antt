use Rattle.std.proofs.Common.{rules, ◌≡◌, length, arith}
use Rattle.trace_text.proofs.TraceProgress.{Progress_begun, ends_read, ends_refused, fails_on, goes_on}
use Rattle.trace_text.proofs.reader.read_lines.Goals as goal

pub loop-rest-init : goal.loop-rest-init
loop-rest-init c = Progress_begun c.args.bytes.now c.new-draft.result c.new-draft.ensures

pub returns-clause-read : goal.returns-clause-read
returns-clause-read c =
    let empty : length c.loop-rest.rest.now ≡ 0 = search rules in
    ends_read _ _ _ _ c.loop-rest.invariant (omega (arith, c.if-bytes-gt-MAX_BYTES.false)) empty c.finish.result c.finish.ensures.read

pub returns-clause-refused : goal.returns-clause-refused
returns-clause-refused c =
    let empty : length c.loop-rest.rest.now ≡ 0 = search rules in
    ends_refused _ _ _ _ c.loop-rest.invariant (omega (arith, c.if-bytes-gt-MAX_BYTES.false)) empty c.finish.result c.finish.ensures.refused

pub loop-rest-preserved : goal.loop-rest-preserved
loop-rest-preserved c =
    goes_on c.args.bytes.now c.loop-rest.rest.now c.in-Ok.others.now c.loop-rest.number c.loop-rest.draft c.read_first.new.self c.loop-rest.invariant c.in-Ok.ensures.read

pub returns-in-Err-clause-refused : goal.returns-in-Err-clause-refused
returns-in-Err-clause-refused c =
    fails_on c.args.bytes.now c.loop-rest.rest.now c.loop-rest.number c.loop-rest.draft c.in-Err.fault c.at_line.result c.loop-rest.invariant
    (omega (arith, c.if-bytes-gt-MAX_BYTES.false)) c.in-Err.ensures.refused c.at_line.ensures
