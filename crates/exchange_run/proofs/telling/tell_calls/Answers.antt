use Rattle.std.proofs.Common.{◌+◌, drop, take_all, OnErr, Result, Ok, Err}
use Rattle.meters.proofs.Zips.{zip-same, zip-then, zip-weaker}
use Rattle.meters.proofs.Told.{told-same, told-then, told-then_front, told-equal, told_front-equal, told_front-append}
use Rattle.linked_exchange.proofs.Tellings.{take_read, read_more}
use Rattle.exchange_run.proofs.telling.tell_calls.Goals as goal

on_err : {T E P : Type 0} (r : Result T E) → P → OnErr r P
on_err (Ok x) p = tt
on_err (Err e) p = p

pub loop-told-init : goal.loop-told-init
loop-told-init g c = record { told = zip-same _ (λ m. told-same _ _) c.args.meters.now }

pub loop-told-preserved : goal.loop-told-preserved
loop-told-preserved g c =
    record { told = zip-then _ _ _ (λ m n o first second. told-equal (take_read c.args.calls.now c.loop-told.told-index _ c.loop-told-test.true) (told-then first second)) _ _ _ c.loop-told.invariant.told c.in_ok-tell_call.ensures.told }

pub returns-in_err-tell_call-clause-front : goal.returns-in_err-tell_call-clause-front
returns-in_err-tell_call-clause-front g c = on_err c.from_residual.result
    (zip-then _ _ _ (λ m n o first second. told_front-equal (read_more c.args.calls.now c.loop-told.told-index _ c.loop-told-test.true)
    (told_front-append (drop (c.loop-told.told-index + 1) c.args.calls.now) (told-then_front first second))) _ _ _ c.loop-told.invariant.told c.in_err-tell_call.ensures.front)

pub returns-clause-told : goal.returns-clause-told
returns-clause-told g c = zip-weaker _ _ (λ m n told. told-equal (take_all c.loop-told.told-index c.args.calls.now c.loop-told-test.false) told) _ _ c.loop-told.invariant.told
