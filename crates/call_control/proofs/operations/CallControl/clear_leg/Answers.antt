use Rattle.std.proofs.Common.{Some, refl, ◌∙◌, ap}
use Rattle.call_profile.specs.Acts.{with_progress}
use Rattle.call_control.proofs.ActMakingLemmas.{disconnected_makes}
use Rattle.call_control.proofs.operations.CallControl.clear_leg.Goals as goal

pub returns-clause-makes : goal.returns-clause-makes
returns-clause-makes g c d m made =
    let now = c.args.self.now in
    let sound = c.sound.new.self in
    let tone = c.tone_of-tone.result in
    let message = c.with_progress.ensures ∙ ap (with_progress tone) c.disconnect_message-disconnect.ensures in
    disconnected_makes d c.args.tones.now now.map c.clear.new.self.map c.put.new.self.map sound.map now.legs c.clear.new.self.legs c.put.new.self.legs sound.legs
    c.args.out.now.sends c.send.new.out.sends c.args.out.now.moved c.send.new.out.moved (Some c.args.held.now) c.args.held.now c.args.cause c.in_disconnect_indication-alone.result tone _
    refl c.in_disconnect_indication-alone.ensures c.tone_of-tone.ensures message (c.clear.ensures.holds d) c.put.ensures.map c.put.ensures.legs (c.sound.ensures.holds d)
    c.send.ensures.sends c.send.ensures.moved m made
