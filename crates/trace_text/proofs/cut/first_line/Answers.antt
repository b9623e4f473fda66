use Rattle.std.proofs.Common.{◌+◌, add-one}
use Rattle.std.proofs.lemmas.List.{take_rest}
use Rattle.trace_text.proofs.TraceCuts.{first_found, NoMark_not_found, lines_cut, lines_whole}
use Rattle.trace_text.proofs.cut.first_line.Goals as goal

pub returns-in-Some-clause-first : goal.returns-in-Some-clause-first
returns-in-Some-clause-first c =
    rw (take_rest c.args.bytes.now (c.in-Some.end + 1), add-one) (lines_cut c.args.bytes.now c.in-Some.end (first_found 10 c.args.bytes.now c.in-Some.end c.in-Some.ensures))

pub returns-in-Some-memchr-clause-first : goal.returns-in-Some-memchr-clause-first
returns-in-Some-memchr-clause-first c =
    rw (take_rest c.args.bytes.now (c.in-Some-memchr.end + 1), add-one) (lines_cut c.args.bytes.now c.in-Some-memchr.end (first_found 10 c.args.bytes.now c.in-Some-memchr.end c.in-Some-memchr.ensures))

pub returns-in-None-clause-first : goal.returns-in-None-clause-first
returns-in-None-clause-first c = lines_whole c.args.bytes.now c.requires (NoMark_not_found 10 c.args.bytes.now c.in-None.ensures)
