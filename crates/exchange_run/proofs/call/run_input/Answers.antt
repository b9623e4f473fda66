use Rattle.std.proofs.Common.{ap, Err, inl}
use Rattle.run_verifier.specs.declared.ending.Ending.TheVariants as ended
use Rattle.exchange_run.proofs.Endings.{ends_at_once, ends_so}
use Rattle.exchange_run.proofs.Sums.{keeps}
use Rattle.linked_exchange.proofs.Tellings.{none_left}
use Rattle.exchange_run.proofs.call.run_input.Goals as goal

pub returns-in-Ok-clause-ends : goal.returns-in-Ok-clause-ends
returns-in-Ok-clause-ends g c arguments asked =
    c.run_bytes.ensures.ends arguments _ asked (record { front = c.in-Ok.ensures.front; whole = c.in-Ok.ensures.whole; few = c.in-Ok.ensures.most })

pub returns-in-Err-Read-clause-ends : goal.returns-in-Err-Read-clause-ends
returns-in-Err-Read-clause-ends g c arguments asked =
    let e = c.idle.ensures in
    ends_so arguments _ _ ended.ReadFailed _ e.ending (record {
      reading = inl (c.args.strict, asked);
      failed = c.in-Err-Read.ensures.cause (ap Err c.in-Err-Read.field-0-is);
      text = keeps _;
      idle = record { order = e.none; meters = none_left _ _ _ _; engine = e.engine };
    })

pub returns-in-Err-Memory-clause-ends : goal.returns-in-Err-Memory-clause-ends
returns-in-Err-Memory-clause-ends g c arguments asked =
    let e = c.idle-in-Err-Memory.ensures in
    ends_at_once arguments _ _ _ e.ending (keeps _) (record { order = e.none; meters = none_left _ _ _ _; engine = e.engine })
