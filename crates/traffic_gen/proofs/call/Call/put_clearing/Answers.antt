use Rattle.traffic_gen.specs.Messages.{disconnect, release_complete}
use Rattle.traffic_gen.specs.Calls.{message_of}
use Rattle.traffic_gen.proofs.Digits.{disconnect_digits, release_complete_digits}
use Rattle.traffic_gen.proofs.Texts.{text_on_ok}
use Rattle.traffic_gen.proofs.call.Call.put_clearing.Goals as goal

pub returns : goal.returns
returns c =
    let caller = c.args.self.now.caller in
    text_on_ok _ _ _ _ (message_of caller disconnect) (message_of caller release_complete)
    (c.in_ok-put_message.ensures _ disconnect_digits) (c.put_message-2.ensures _ release_complete_digits)
