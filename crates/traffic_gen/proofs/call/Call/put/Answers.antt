use Rattle.std.proofs.Common.{◌++◌}
use Rattle.traffic_gen.specs.Calls.{clearing_of, far_line, frames_drawn, message_from, message_of, number_of, segment}
use Rattle.traffic_gen.specs.Messages.{connect, release, setup}
use Rattle.traffic_gen.proofs.Texts.{text_on, text_on_ok}
use Rattle.traffic_gen.proofs.call.Call.put.Goals as goal

pub returns-clause-lines : goal.returns-clause-lines
returns-clause-lines c =
    let call = c.args.self.now in
    let asks = message_of call.caller (setup (number_of call.callee)) in
    let connects = message_from call.callee connect in
    let speaks = segment (frames_drawn call.caller (far_line call.caller call.callee) call.frames c.args.draws.now.state) in
    let clears = clearing_of call.caller in
    let asked = c.in_ok-put_message.ensures (setup (number_of call.callee)) c.setup.ensures in
    let connected = text_on _ _ _ asks connects asked c.in_ok-put_connect.ensures in
    let spoken = text_on _ _ _ (asks ++ connects) speaks connected c.in_ok-put_frames.ensures.lines in
    let cleared = text_on _ _ _ (asks ++ connects ++ speaks) clears spoken c.in_ok-put_clearing.ensures in
    text_on_ok _ _ _ _ (asks ++ connects ++ speaks ++ clears) (message_from call.callee release) cleared c.put_release.ensures
