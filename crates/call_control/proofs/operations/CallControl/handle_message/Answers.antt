use Rattle.std.proofs.Common.{◌≡◌, sym}
use Rattle.call_profile.specs.Calls.{Request, outcome_for}
use Rattle.call_control.specs.Ahead.{IsReceived}
use Rattle.call_control.specs.Standing.{Makes}
use Rattle.call_control.proofs.ReadMessageLemmas.{dialled_ahead, message_received, not_read, request_of_taken}
use Rattle.call_control.proofs.operations.CallControl.handle_message.Goals as goal

pub read_received-requires : goal.read_received-requires
read_received-requires g c = record { ahead = (c.args.plan.now, c.requires.ahead) }

pub receive-requires-clause-reference : goal.receive-requires-clause-reference
receive-requires-clause-reference g c = (message_received c.args.received.now.octets.now c.read_received.result c.in-Some.message c.in-Some.is c.read_received.ensures).bounded

pub receive-requires-clause-ahead : goal.receive-requires-clause-ahead
receive-requires-clause-ahead g c =
    let octets = c.args.received.now.octets.now in
    let is : IsReceived octets c.in-Some.message = message_received octets c.read_received.result c.in-Some.message c.in-Some.is c.read_received.ensures in
    dialled_ahead c.args.plan.now octets c.args.received.now.ahead c.in-Some.message is.read c.requires.ahead

pub returns-in-Some-clause-makes : goal.returns-in-Some-clause-makes
returns-in-Some-clause-makes g c s w plan tones work =
    let is : IsReceived c.args.received.now.octets.now c.in-Some.message = message_received c.args.received.now.octets.now c.read_received.result c.in-Some.message c.in-Some.is c.read_received.ensures in
    request_of_taken _ _ c.args.line c.args.received.now.octets.now _
    (λ (r : Request). Makes s.dimensions c.receive.new.self.map c.receive.new.self.legs c.receive.new.out.sends c.receive.new.out.moved (outcome_for s w c.args.line r).making)
    work.holds.legs_are (sym is.read) (c.receive.ensures.makes s w plan tones work)

pub returns-in-Some-clause-records : goal.returns-in-Some-clause-records
returns-in-Some-clause-records g c s w plan tones work =
    let is : IsReceived c.args.received.now.octets.now c.in-Some.message = message_received c.args.received.now.octets.now c.read_received.result c.in-Some.message c.in-Some.is c.read_received.ensures in
    request_of_taken _ _ c.args.line c.args.received.now.octets.now _ (λ (r : Request). c.receive.new.out.records ≡ (outcome_for s w c.args.line r).recorded)
    work.holds.legs_are (sym is.read) (c.receive.ensures.records s w plan tones work)

pub returns-in-None-clause-makes : goal.returns-in-None-clause-makes
returns-in-None-clause-makes g c s w plan tones work =
    let why = not_read c.args.received.now.octets.now c.read_received.result c.in-None.is c.read_received.ensures in
    request_of_taken _ _ c.args.line c.args.received.now.octets.now _
    (λ (r : Request). Makes s.dimensions c.args.self.now.map c.args.self.now.legs c.args.out.now.sends c.args.out.now.moved (outcome_for s w c.args.line r).making)
    work.holds.legs_are (sym why.1) (record { holds = work.holds; sent = c.requires.fresh.0; moves = c.requires.fresh.1 })

pub returns-in-None-clause-records : goal.returns-in-None-clause-records
returns-in-None-clause-records g c s w plan tones work =
    let why = not_read c.args.received.now.octets.now c.read_received.result c.in-None.is c.read_received.ensures in
    request_of_taken _ _ c.args.line c.args.received.now.octets.now _ (λ (r : Request). c.clear.new.self ≡ (outcome_for s w c.args.line r).recorded)
    work.holds.legs_are (sym why.1) c.clear.ensures
