use Rattle.std.proofs.Common.{◌<◌, length, arith}
use Rattle.std.proofs.lemmas.Bool.Decides.{nat_tests}
use Rattle.trace_text.proofs.TraceCuts.{words_end, end_above}
use Rattle.trace_text.proofs.cut.first_word.Goals as goal

pub returns : goal.returns
returns c =
    let rest = c.behind_spaces-rest.result.now in
    let filled : 0 < length rest = grind (arith, nat_tests) in
    let cut = words_end rest c.memchr.result filled c.behind_spaces-rest.ensures.begins c.memchr.ensures in
    let above = end_above rest c.memchr.result filled c.behind_spaces-rest.ensures.begins c.memchr.ensures in
    (rw (c.split_at.ensures.front, c.split_at.ensures.back, c.unwrap_or-end.ensures, ← c.behind_spaces-rest.ensures.same) cut, omega arith)
