-- Worked calls on lines whose data links go down and come up, and on lines that the exchange restarts, on which the
-- definitions are evaluated. Source: this project; the octets are from ITU-T Q.931 (05/98), section 4.
use Rattle.std.specs.Prelude.{ℕ, true, false, List, [], ◌∷◌, ◌++◌}
use Rattle.exchange_events.specs.declared.record.CallRecord.{CallRecord}
use Rattle.exchange_events.specs.declared.record.Party.TheVariants as party
use Rattle.exchange_events.specs.declared.reply.Reply.{Reply}
use Rattle.exchange_events.specs.declared.trace.Event.{Event}
use Rattle.exchange_events.specs.declared.trace.Event.TheVariants.{Message, LinkUp, LinkDown, RestartLine}
use Rattle.call_profile.specs.Step.{reply, next}
use Rattle.call_profile.specs.World.{World}
use Rattle.call_profile.specs.WorkedCalls.{at, to, own_call_offered, records_reply, sends_reply}
use Rattle.call_profile.specs.WorkedExpiries.{alerted, begun_on_both, cleared_with, ended_in, hasty_lines, offered, world_in, after_turn, in_frame}
use Rattle.exchange_events.specs.declared.signal.Signal.{Signal}

-- the link of line 1 goes down while its user is alerted: its leg is removed, and the caller is sent cause 27
abbrev pub down_while_alerted : Reply
down_while_alerted = reply hasty_lines (world_in 9 alerted) (LinkDown 1)

abbrev pub alerted_dropped : Reply
alerted_dropped = records_reply (cleared_with 0 0x9B ∷ []) (record { caller = at 0 0; called = party.Line (at 1 0); answered = false; from = 9; to = 9; cause = 27 })

-- a call to a line whose link is down is refused with cause 27
abbrev pub call_to_down : Reply
call_to_down = reply hasty_lines (world_in 9 (LinkDown 1 ∷ [])) (Message 0 (0x08 ∷ 0x02 ∷ 0x00 ∷ 0x02 ∷ 0x05 ∷ 0x04 ∷ 0x03 ∷ 0x80 ∷ 0x90 ∷ 0xA3 ∷ 0x70 ∷ 0x04 ∷ 0x80 ∷ 0x31 ∷ 0x30 ∷ 0x31 ∷ []))

abbrev pub refused_as_down : Reply
refused_as_down = sends_reply (to 0 (0x08 ∷ 0x02 ∷ 0x80 ∷ 0x02 ∷ 0x5A ∷ 0x08 ∷ 0x02 ∷ 0x82 ∷ 0x9B ∷ []) ∷ [])

-- a line that calls itself: both legs are removed, and nothing is sent
abbrev pub own_line_down : List Event
own_line_down =
    Message 0 (0x08 ∷ 0x02 ∷ 0x00 ∷ 0x01 ∷ 0x05 ∷ 0x04 ∷ 0x03 ∷ 0x80 ∷ 0x90 ∷ 0xA3 ∷ 0x70 ∷ 0x03 ∷ 0x80 ∷ 0x31 ∷ 0x30 ∷ [])
    ∷ LinkDown 0
    ∷ []

abbrev pub own_line_dropped : List Reply
own_line_dropped = own_call_offered ∷ records_reply [] (record { caller = at 0 0; called = party.Line (at 0 1); answered = false; from = 0; to = 0; cause = 27 }) ∷ []

-- the link of line 1 goes down in a conversation; T309 is one frame, and its leg is examined in frame 30
abbrev pub outage : List Event
outage = offered ++ Message 1 (0x08 ∷ 0x02 ∷ 0x80 ∷ 0x01 ∷ 0x07 ∷ []) ∷ LinkDown 1 ∷ []

abbrev pub outage_over : Reply
outage_over = ended_in 30 (cleared_with 0 0x9B ∷ []) (record { caller = at 0 0; called = party.Line (at 1 0); answered = true; from = 0; to = 31; cause = 27 })

-- the link goes down again in frame 20: T309 does not restart
abbrev pub down_again : World
down_again = next hasty_lines (world_in 20 outage) (LinkDown 1)

-- the link comes up in frame 20: T309 stops, and the user is sent STATUS ENQUIRY
abbrev pub up_again : World
up_again = next hasty_lines (world_in 20 outage) (LinkUp 1)

abbrev pub state_enquired : Reply
state_enquired = sends_reply (to 1 (0x08 ∷ 0x02 ∷ 0x00 ∷ 0x01 ∷ 0x75 ∷ []) ∷ [])

-- the link is established again: a leg in overlap sending is cleared with cause 41
abbrev pub reset_while_dialling : Reply
reset_while_dialling = reply hasty_lines (world_in 9 begun_on_both) (LinkUp 0)

-- ---- RESTART and STATUS ENQUIRY after an outage

-- RESTART of the whole line, and of one channel (the last octet of channel identification is the channel's number)
abbrev pub restart_of_line : ℕ → Signal
restart_of_line line = to line (0x08 ∷ 0x02 ∷ 0x00 ∷ 0x00 ∷ 0x46 ∷ 0x79 ∷ 0x01 ∷ 0x86 ∷ [])

abbrev pub restart_of_second : ℕ → Signal
restart_of_second line = to line (0x08 ∷ 0x02 ∷ 0x00 ∷ 0x00 ∷ 0x46 ∷ 0x18 ∷ 0x03 ∷ 0xA9 ∷ 0x83 ∷ 0x82 ∷ 0x79 ∷ 0x01 ∷ 0x80 ∷ [])

-- the user of line 1 has answered
abbrev pub answered : List Event
answered = offered ++ Message 1 (0x08 ∷ 0x02 ∷ 0x80 ∷ 0x01 ∷ 0x07 ∷ []) ∷ []

-- line 0 clears and its leg is released, and then the link of line 1 goes down: T305 and T308 go on, and end the leg of
-- line 1 in frame 90
abbrev pub cleared_as_it_fails : List Event
cleared_as_it_fails =
    answered
    ++ Message 0 (0x08 ∷ 0x02 ∷ 0x00 ∷ 0x01 ∷ 0x45 ∷ 0x08 ∷ 0x02 ∷ 0x80 ∷ 0x90 ∷ [])
    ∷ Message 0 (0x08 ∷ 0x02 ∷ 0x00 ∷ 0x01 ∷ 0x5A ∷ [])
    ∷ LinkDown 1
    ∷ []

abbrev pub release_asked : World
release_asked = after_turn (world_in 30 cleared_as_it_fails)

abbrev pub release_asked_again : World
release_asked_again = after_turn (in_frame 60 release_asked)

abbrev pub release_given_up : World
release_given_up = after_turn (in_frame 90 release_asked_again)

-- RELEASE with the cause of line 0, 16
abbrev pub asked_to_release : Signal
asked_to_release = to 1 (0x08 ∷ 0x02 ∷ 0x00 ∷ 0x01 ∷ 0x4D ∷ 0x08 ∷ 0x02 ∷ 0x82 ∷ 0x90 ∷ [])

-- the link of line 1 comes up in frame 90, after both RELEASEs: T308 restarts, so the leg is left in that frame
abbrev pub up_before_given_up : World
up_before_given_up = next hasty_lines (in_frame 90 release_asked_again) (LinkUp 1)

abbrev pub released_anew : World
released_anew = after_turn up_before_given_up

-- the link of line 1 goes down while its user is alerted, and up again: the line has no leg, so it is restarted
abbrev pub alerted_then_up : Reply
alerted_then_up = reply hasty_lines (next hasty_lines (world_in 9 alerted) (LinkDown 1)) (LinkUp 1)

-- the same with a conversation, whose user is sent STATUS ENQUIRY: only the channel of the lost call is restarted
abbrev pub beside_conversation : List Event
beside_conversation =
    answered
    ++ Message 0 (0x08 ∷ 0x02 ∷ 0x00 ∷ 0x02 ∷ 0x05 ∷ 0x04 ∷ 0x03 ∷ 0x80 ∷ 0x90 ∷ 0xA3 ∷ 0x70 ∷ 0x04 ∷ 0x80 ∷ 0x31 ∷ 0x30 ∷ 0x31 ∷ [])
    ∷ Message 1 (0x08 ∷ 0x02 ∷ 0x80 ∷ 0x02 ∷ 0x01 ∷ [])
    ∷ LinkDown 1
    ∷ []

abbrev pub one_restarted : Reply
one_restarted = sends_reply (to 1 (0x08 ∷ 0x02 ∷ 0x00 ∷ 0x01 ∷ 0x75 ∷ []) ∷ restart_of_second 1 ∷ [])

-- T309 has expired when the link of line 1 comes up
abbrev pub up_too_late : Reply
up_too_late = reply hasty_lines (after_turn (world_in 30 outage)) (LinkUp 1)

-- ---- the reply to an enquiry

-- the caller's CONNECT is lost with its link: the exchange asks the caller for its state
abbrev pub connect_lost : List Event
connect_lost = answered ++ LinkDown 0 ∷ LinkUp 0 ∷ []

-- STATUS with cause 30 and this state
abbrev pub reports : ℕ → Event
reports state = Message 0 (0x08 ∷ 0x02 ∷ 0x00 ∷ 0x01 ∷ 0x7D ∷ 0x08 ∷ 0x02 ∷ 0x80 ∷ 0x9E ∷ 0x14 ∷ 0x01 ∷ state ∷ [])

-- in state 1 both legs are cleared with cause 101
abbrev pub both_cleared : Reply
both_cleared =
    records_reply (cleared_with 0 0xE5 ∷ to 1 (0x08 ∷ 0x02 ∷ 0x00 ∷ 0x01 ∷ 0x45 ∷ 0x08 ∷ 0x02 ∷ 0x82 ∷ 0xE5 ∷ []) ∷ [])
    (record { caller = at 0 0; called = party.Line (at 1 0); answered = true; from = 0; to = 9; cause = 101 })

-- in state 10 the call goes on, and the enquiry has ended: the next STATUS changes nothing
abbrev pub confirmed : World
confirmed = next hasty_lines (world_in 9 connect_lost) (reports 10)

-- ---- a call is answered on a line that is down

-- both links go down in a conversation: T309 of both legs is due in frame 30, and the leg on the lower line expires
abbrev pub both_down : List Event
both_down = answered ++ LinkDown 0 ∷ LinkDown 1 ∷ []

-- T309 of the caller runs from the answer on
abbrev pub answered_on_down : List Event
answered_on_down = LinkDown 0 ∷ answered

abbrev pub lost_after_answer : Reply
lost_after_answer =
    ended_in 30 (to 1 (0x08 ∷ 0x02 ∷ 0x00 ∷ 0x01 ∷ 0x45 ∷ 0x08 ∷ 0x02 ∷ 0x82 ∷ 0x9B ∷ []) ∷ [])
    (record { caller = at 0 0; called = party.Line (at 1 0); answered = true; from = 0; to = 31; cause = 27 })

-- ---- the exchange restarts a line

-- line 1 in a conversation: its leg is removed, and the user of line 0 is sent DISCONNECT with cause 41
abbrev pub conversation_restarted : World
conversation_restarted = next hasty_lines (world_in 9 answered) (RestartLine 1)

abbrev pub restarted_conversation : CallRecord
restarted_conversation = record { caller = at 0 0; called = party.Line (at 1 0); answered = true; from = 0; to = 9; cause = 41 }

-- the same while the link of line 1 is down: nothing is sent to line 1
abbrev pub down_in_conversation : List Event
down_in_conversation = answered ++ LinkDown 1 ∷ []

abbrev pub restarted_while_down : World
restarted_while_down = next hasty_lines (world_in 9 down_in_conversation) (RestartLine 1)

-- after the restart, line 0 calls number 101 with call reference 2: channel 1 of line 1 is idle
abbrev pub call_after_restart : Event
call_after_restart = Message 0 (0x08 ∷ 0x02 ∷ 0x00 ∷ 0x02 ∷ 0x05 ∷ 0x04 ∷ 0x03 ∷ 0x80 ∷ 0x90 ∷ 0xA3 ∷ 0x70 ∷ 0x04 ∷ 0x80 ∷ 0x31 ∷ 0x30 ∷ 0x31 ∷ [])

-- CALL PROCEEDING with this channel of line 0, and SETUP with channel 1 of line 1
abbrev pub offered_on_first : ℕ → Reply
offered_on_first channel = sends_reply (
    to 0 (0x08 ∷ 0x02 ∷ 0x80 ∷ 0x02 ∷ 0x02 ∷ 0x18 ∷ 0x03 ∷ 0xA9 ∷ 0x83 ∷ channel ∷ [])
    ∷ to 1 (0x08 ∷ 0x02 ∷ 0x00 ∷ 0x01 ∷ 0x05 ∷ 0xA1 ∷ 0x04 ∷ 0x03 ∷ 0x80 ∷ 0x90 ∷ 0xA3 ∷ 0x18 ∷ 0x03 ∷ 0xA9 ∷ 0x83 ∷ 0x81 ∷ 0x70 ∷ 0x04 ∷ 0x80 ∷ 0x31 ∷ 0x30 ∷ 0x31 ∷ [])
    ∷ [])

-- a line that calls itself: both legs are removed
abbrev pub own_line_restarted : List Event
own_line_restarted =
    Message 0 (0x08 ∷ 0x02 ∷ 0x00 ∷ 0x01 ∷ 0x05 ∷ 0x04 ∷ 0x03 ∷ 0x80 ∷ 0x90 ∷ 0xA3 ∷ 0x70 ∷ 0x03 ∷ 0x80 ∷ 0x31 ∷ 0x30 ∷ [])
    ∷ RestartLine 0
    ∷ []

abbrev pub own_line_restart_answered : List Reply
own_line_restart_answered =
    own_call_offered
    ∷ records_reply (restart_of_line 0 ∷ []) (record { caller = at 0 0; called = party.Line (at 0 1); answered = false; from = 0; to = 0; cause = 41 })
    ∷ []

-- ---- RESTART ACKNOWLEDGE

-- line 1 without a call is restarted
abbrev pub line_restarted : World
line_restarted = next hasty_lines (world_in 9 []) (RestartLine 1)

abbrev pub whole_line_acknowledged : Event
whole_line_acknowledged = Message 1 (0x08 ∷ 0x02 ∷ 0x80 ∷ 0x00 ∷ 0x4E ∷ 0x79 ∷ 0x01 ∷ 0x86 ∷ [])

-- the acknowledgement of one channel
abbrev pub acknowledged : ℕ → Event
acknowledged channel = Message 1 (0x08 ∷ 0x02 ∷ 0x80 ∷ 0x00 ∷ 0x4E ∷ 0x18 ∷ 0x03 ∷ 0xA9 ∷ 0x83 ∷ channel ∷ 0x79 ∷ 0x01 ∷ 0x80 ∷ [])

abbrev pub second_acknowledged : Event
second_acknowledged = acknowledged 0x82

abbrev pub third_acknowledged : Event
third_acknowledged = acknowledged 0x83

-- the channel of the call that was lost during a conversation was restarted
abbrev pub lost_beside_conversation : World
lost_beside_conversation = next hasty_lines (world_in 9 beside_conversation) (LinkUp 1)

abbrev pub only_enquired : Reply
only_enquired = sends_reply (to 1 (0x08 ∷ 0x02 ∷ 0x00 ∷ 0x01 ∷ 0x75 ∷ []) ∷ [])
