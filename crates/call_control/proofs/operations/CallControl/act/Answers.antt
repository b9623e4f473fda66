use Rattle.std.proofs.Common.{◌<◌, sym, ◌∙◌, ap, subst}
use Rattle.std.specs.Prelude.{[], IfSome}
use Rattle.std.specs.List.{cons_option}
use Rattle.call_states.specs.Acts.{cause_of_act, clearing_cause}
use Rattle.call_states.specs.declared.act.Act.{Act}
use Rattle.call_states.proofs.Causes.{act_fits, cause_fits}
use Rattle.q931_codec.specs.Contents.{call_state_in}
use Rattle.call_profile.proofs.RecordOfActLemmas.{records_of_act}
use Rattle.call_control.proofs.AtWorkLemmas.{digits_state, reporting_state, peer_external, known_there, known_peer, hears_at_known_silent, known_waiting, known_records}
use Rattle.call_control.proofs.operations.CallControl.act.Goals as goal

pub record_of_act-call-requires-clause-peer_external :
    goal.record_of_act-call-requires-clause-peer_external
record_of_act-call-requires-clause-peer_external g c =
    let work = c.requires.work in
    let now = c.args.self.now in
    peer_external now.map.external c.args.held.now c.peer_of-peer.result
    (known_peer work.0 now.map now.legs work.1 work.4 c.args.held.now c.requires.external c.requires.held c.peer_of-peer.result c.peer_of-peer.ensures)

pub perform-requires-clause-there : goal.perform-requires-clause-there
perform-requires-clause-there g c =
    let work = c.requires.work in
    let now = c.args.self.now in
    known_there work.0 now.map now.legs work.1 work.4 c.args.held.now c.requires.external c.requires.held

pub perform-requires-clause-peer_there : goal.perform-requires-clause-peer_there
perform-requires-clause-peer_there g c =
    let work = c.requires.work in
    let now = c.args.self.now in
    known_peer work.0 now.map now.legs work.1 work.4 c.args.held.now c.requires.external c.requires.held c.peer_of-peer.result c.peer_of-peer.ensures

pub perform-requires-clause-cause : goal.perform-requires-clause-cause
perform-requires-clause-cause g c =
    let m = c.args.message.now in
    subst (λ (a : Act). IfSome (cause_of_act a) (λ cause. cause < 128)) (sym c.on_message-act.ensures)
    (act_fits c.args.held.now.leg.state m.kind (clearing_cause m.elements) (call_state_in m.elements) (cause_fits m.elements))

pub perform-requires-clause-silent : goal.perform-requires-clause-silent
perform-requires-clause-silent g c answers =
    let work = c.requires.work in
    let now = c.args.self.now in
    hears_at_known_silent work.0 now.map now.legs work.1 work.4 c.args.held.now c.requires.external c.requires.held c.args.message.now (sym c.on_message-act.ensures ∙ answers)

pub perform-requires-clause-waiting : goal.perform-requires-clause-waiting
perform-requires-clause-waiting g c alerts =
    let work = c.requires.work in
    let now = c.args.self.now in
    known_waiting work.0 now.map now.legs work.1 work.4 c.args.held.now c.requires.external c.requires.held c.args.message.now (sym c.on_message-act.ensures ∙ alerts)
    c.peer_of-peer.result c.peer_of-peer.ensures

pub perform-requires-clause-talking : goal.perform-requires-clause-talking
perform-requires-clause-talking g c reported is = reporting_state c.args.held.now.leg.state reported c.args.message.now (sym c.on_message-act.ensures ∙ is)

pub returns-clause-records : goal.returns-clause-records
returns-clause-records g c s w work =
    let now = c.args.self.now in
    c.record_only.ensures
    ∙ ap (λ told. cons_option told []) (c.record_of_act-call.ensures s.dimensions w work.holds)
    ∙ ap (records_of_act w c.args.held.now) c.on_message-act.ensures
    ∙ known_records s now.map now.legs w work c.args.held.now c.requires.external c.requires.held c.args.message.now

pub on_digits-requires-clause-waits : goal.on_digits-requires-clause-waits
on_digits-requires-clause-waits g c = digits_state c.args.held.now.leg.state c.args.message.now (sym c.on_message-act.ensures ∙ c.in-Digits.is)
