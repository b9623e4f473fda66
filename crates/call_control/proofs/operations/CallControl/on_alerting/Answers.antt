use Rattle.std.proofs.Common.{◌∙◌, ap}
use Rattle.call_profile.specs.Acts.{with_progress}
use Rattle.call_control.proofs.ActMakingLemmas.{alerted_makes}
use Rattle.call_control.proofs.operations.CallControl.on_alerting.Goals as goal

pub returns-clause-makes : goal.returns-clause-makes
returns-clause-makes g c d m made =
    let now = c.args.self.now in
    let sound = c.sound.new.self in
    let tone = c.tone_of-tone.result in
    let message = c.with_progress.ensures ∙ ap (with_progress tone) c.message_to-alerting.ensures in
    alerted_makes d c.args.tones.now now.map c.put.new.self.map c.put-2.new.self.map sound.map now.legs c.put.new.self.legs c.put-2.new.self.legs sound.legs
    c.args.out.now.sends c.send.new.out.sends c.args.out.now.moved c.send.new.out.moved c.args.peer.now c.args.held.now c.in-Some.caller c.in_state.result c.in_state-waits.result tone _
    c.in-Some.is c.in_state.ensures c.in_state-waits.ensures c.tone_of-tone.ensures message c.put.ensures.map c.put.ensures.legs c.put-2.ensures.map c.put-2.ensures.legs (c.sound.ensures.holds d)
    c.send.ensures.sends c.send.ensures.moved m made
