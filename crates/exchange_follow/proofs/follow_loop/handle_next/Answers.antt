use Rattle.std.proofs.Common.{rules, arith, ◌∷◌, [], length-append}
use Rattle.exchange_follow.proofs.follow_loop.handle_next.Goals as goal

pub returns-in-Ok-clause-counted : goal.returns-in-Ok-clause-counted
returns-in-Ok-clause-counted g c =
    let (old, old_spare, done, front, before) = c.requires.at in
    let now = c.in-Ok.ensures.done old old_spare done front before in
    let was = before.counted in
    let is = now.counted in
    omega (arith, was, is, length-append done (c.args.line.now ∷ []))

pub returns-in-Ok-clause-few : goal.returns-in-Ok-clause-few
returns-in-Ok-clause-few g c =
    let (old, old_spare, done, front, before) = c.requires.at in
    let now = c.in-Ok.ensures.done old old_spare done front before in
    let was = before.counted in
    let is = now.counted in
    let few = c.in-Ok.ensures.few in
    omega (arith, was, is, few, length-append done (c.args.line.now ∷ []))

pub returns-in-Ok-clause-done : goal.returns-in-Ok-clause-done
returns-in-Ok-clause-done g c = c.in-Ok.ensures.done

pub returns-in-Err-Refused-clause-stopped : goal.returns-in-Err-Refused-clause-stopped
returns-in-Err-Refused-clause-stopped g c = c.in-Err-Refused.ensures.refused (search rules)

pub returns-in-Err-OutOfMemory-clause-stopped : goal.returns-in-Err-OutOfMemory-clause-stopped
returns-in-Err-OutOfMemory-clause-stopped g c = c.in-Err-OutOfMemory.ensures.stranded (search rules)
