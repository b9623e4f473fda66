use Rattle.std.proofs.Common.{rules}
use Rattle.line_wire.specs.Following.{At_end}
use Rattle.trace_text.specs.TraceWords.{lines}
use Rattle.line_wire.proofs.Steps.{all_first}
use Rattle.exchange_follow.proofs.follow_loop.handle_end.Goals as goal

pub finish-requires-clause-at : goal.finish-requires-clause-at
finish-requires-clause-at g c κs within =
    let (old, old_spare, heard, u) = c.requires.at in
    let a = c.in-Ok.ensures.done old old_spare heard u in
    (old, old_spare, lines heard, _, a.due)

pub returns-in-Ok-finish-clause-ended : goal.returns-in-Ok-finish-clause-ended
returns-in-Ok-finish-clause-ended g c old old_spare heard u =
    let a = c.in-Ok.ensures.done old old_spare heard u in
    (a.said, a.stood, (c.handle_rest.ensures.end c.requires.end, c.in-Ok-finish.ensures.done old old_spare (lines heard) a.said a.due))

pub returns-in-Err-Refused-clause-ended : goal.returns-in-Err-Refused-clause-ended
returns-in-Err-Refused-clause-ended g c old old_spare heard u =
    let a = c.in-Ok.ensures.done old old_spare heard u in
    (a.said, a.stood, At_end (c.handle_rest.ensures.end c.requires.end) (c.in-Err-Refused.ensures.refused (search rules) old old_spare (lines heard) a.said a.due))

pub returns-in-Err-OutOfMemory-clause-ended : goal.returns-in-Err-OutOfMemory-clause-ended
returns-in-Err-OutOfMemory-clause-ended g c old old_spare heard u =
    let a = c.in-Ok.ensures.done old old_spare heard u in
    (a.said, a.stood, (lines heard, all_first _ heard (c.handle_rest.ensures.end c.requires.end), c.in-Err-OutOfMemory.ensures.stranded (search rules) old old_spare (lines heard) a.said a.due))
