use Rattle.std.proofs.Common.{◌<◌, length, arith, add-one, length-set, ◌∙◌, OnErr, Result, Ok, Err}
use Rattle.meters.proofs.Zips.{zip-more, zip-all, zip-ended, zip-weaker, drop-set}
use Rattle.meters.proofs.Told.{told-same, told_front-all, told_front-none}
use Rattle.exchange_run.proofs.telling.tell_call.Goals as goal

on_err : {T E P : Type 0} (r : Result T E) → P → OnErr r P
on_err (Ok x) p = tt
on_err (Err e) p = p

pub loop-meter-preserved : goal.loop-meter-preserved
loop-meter-preserved g c =
    let inv = c.loop-meter.invariant in
    let k = c.loop-meter.meter-index in
    let inside : k < length c.args.meters.now = omega (arith, inv.count, c.loop-meter-test.true) in
    record {
      count = length-set c.loop-meter.meters k c.tell_one.new.meter ∙ inv.count;
      told = rw add-one (zip-more _ _ _ _ c.meter-item.result c.tell_one.new.meter inv.count inside inv.rest c.in_ok-tell_one.ensures.told inv.told);
      rest = rw add-one (drop-set c.args.meters.now c.loop-meter.meters k c.tell_one.new.meter inv.rest);
    }

pub returns-in_err-tell_one-clause-front : goal.returns-in_err-tell_one-clause-front
returns-in_err-tell_one-clause-front g c =
    let inv = c.loop-meter.invariant in
    let k = c.loop-meter.meter-index in
    let inside : k < length c.args.meters.now = omega (arith, inv.count, c.loop-meter-test.true) in
    on_err c.from_residual.result
    (zip-ended _ (λ m. told_front-none (told-same _ _)) c.args.meters.now c.loop-meter.meters k c.meter-item.result c.tell_one.new.meter inv.count inside inv.rest
    (told_front-none c.in_err-tell_one.ensures.kept) (zip-weaker _ _ (λ m n told. told_front-all told) _ _ inv.told))

pub returns-clause-told : goal.returns-clause-told
returns-clause-told g c =
    let inv = c.loop-meter.invariant in
    zip-all _ c.args.meters.now c.loop-meter.meters c.loop-meter.meter-index inv.count (omega (arith, inv.count, c.loop-meter-test.false)) inv.told
