use Rattle.std.proofs.Common.{[], ◌++◌, Option, List, ◌∙◌, ap}
use Rattle.std.specs.List.{cons_option}
use Rattle.exchange_events.specs.declared.record.CallRecord.{CallRecord}
use Rattle.call_control.proofs.operations.CallControl.outage_over.Goals as goal

pub returns-clause-records : goal.returns-clause-records
returns-clause-records g c d w holds =
    c.record_also.ensures.all
    ∙ ap (λ (list : List CallRecord). list ++ cons_option c.record_ended-call.result []) c.clear_peer.ensures.records
    ∙ ap (λ (o : Option CallRecord). c.args.out.now.records ++ cons_option o []) (c.record_ended-call.ensures d w holds)
