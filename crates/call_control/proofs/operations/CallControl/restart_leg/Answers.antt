use Rattle.std.proofs.Common.{◌++◌, [], Option, sym, ◌∙◌, ap, subst}
use Rattle.std.specs.Prelude.{IfSome}
use Rattle.std.specs.List.{cons_option}
use Rattle.exchange_events.specs.declared.record.CallRecord.{CallRecord}
use Rattle.call_profile.specs.Peers.{IsThere}
use Rattle.call_control.proofs.RestartMakingLemmas.{peer_there, external_of}
use Rattle.call_control.proofs.operations.CallControl.restart_leg.Goals as goal

pub record_ended-call-requires-clause-peer_external : goal.record_ended-call-requires-clause-peer_external
record_ended-call-requires-clause-peer_external g c =
    let work = c.requires.work in
    let now = c.args.self.now in
    external_of now.map.external c.peer_of-peer.result
    (peer_there work.0 c.args.tones.now now.map now.legs work.1 work.2 work.3 c.args.held.now c.requires.external c.requires.at c.peer_of-peer.result c.peer_of-peer.ensures)

pub restart_peer-requires-clause-there : goal.restart_peer-requires-clause-there
restart_peer-requires-clause-there g c =
    let work = c.requires.work in
    let now = c.args.self.now in
    subst (λ n. IfSome c.peer_of-peer.result (λ other. IsThere n other)) (sym c.remove_leg.ensures.sizes.external)
    (peer_there work.0 c.args.tones.now now.map now.legs work.1 work.2 work.3 c.args.held.now c.requires.external c.requires.at c.peer_of-peer.result c.peer_of-peer.ensures)

pub returns-clause-records : goal.returns-clause-records
returns-clause-records g c d w holds =
    c.record_also.ensures.all
    ∙ ap (λ (o : Option CallRecord). c.args.records.now ++ cons_option o []) (c.record_ended-call.ensures d w holds)
