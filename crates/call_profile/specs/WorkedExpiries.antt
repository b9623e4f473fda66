-- Worked expiries of timers, on which the definitions are evaluated. Source: this project; the octets are from ITU-T
-- Q.931 (05/98), section 4.
use Rattle.std.specs.Prelude.{ℕ, false, List, [], ◌∷◌, ◌++◌}
use Rattle.circuit_model.specs.declared.channel.Slot.{Slot}
use Rattle.number_plan.specs.declared.target.Target.TheVariants as target
use Rattle.call_states.specs.declared.condition.Condition.TheVariants.{Unconfirmed}
use Rattle.exchange_events.specs.declared.record.CallRecord.{CallRecord}
use Rattle.exchange_events.specs.declared.record.Party.TheVariants as party
use Rattle.exchange_events.specs.declared.reply.Reply.{Reply}
use Rattle.exchange_events.specs.declared.reply.Reply.TheVariants.{Frame as Frame_reply}
use Rattle.exchange_events.specs.declared.signal.Signal.{Signal}
use Rattle.exchange_events.specs.declared.trace.Event.{Event}
use Rattle.exchange_events.specs.declared.trace.Event.TheVariants.{Message}
use Rattle.exchange_events.specs.Sizes.{Setting}
use Rattle.call_profile.specs.Legs.{Legs, no_legs, without_leg}
use Rattle.call_profile.specs.Step.{reply, next, world_after_all}
use Rattle.call_profile.specs.WorkedCalls.{at, to, two_lines, quiet_frame}
use Rattle.call_profile.specs.World.{World, start}

-- two lines, number 101 of line 1 and number 102 of line 0, all of whose timers expire after one frame
abbrev pub hasty_lines : Setting
hasty_lines = record two_lines {
  plan = record { digits = 0x31 ∷ 0x30 ∷ 0x31 ∷ []; target = target.Line 1 } ∷ record { digits = 0x31 ∷ 0x30 ∷ 0x32 ∷ []; target = target.Line 0 } ∷ [];
  timers = record { t301 = 1; t302 = 1; t303 = 1; t305 = 1; t308 = 1; t309 = 1; t310 = 1 };
}

-- the exchange state after these events, at the boundary of frame n, whatever frames were before it
abbrev pub in_frame : ℕ → World → World
in_frame n w = record w { holding = record w.holding { next = n } }

abbrev pub world_in : ℕ → List Event → World
world_in n events = in_frame n (world_after_all hasty_lines (start hasty_lines.dimensions) events)

-- the reply to that frame, and the exchange state after it
abbrev pub turn_of : World → Reply
turn_of w = reply hasty_lines w quiet_frame

abbrev pub after_turn : World → World
after_turn w = next hasty_lines w quiet_frame

-- a frame's reply
abbrev pub nothing_in : ℕ → Reply
nothing_in n = Frame_reply n [] []

abbrev pub sent_in : ℕ → List Signal → Reply
sent_in n sends = Frame_reply n sends []

abbrev pub ended_in : ℕ → List Signal → CallRecord → Reply
ended_in n sends told = Frame_reply n sends (told ∷ [])

-- ---- T303

-- line 0 calls number 101, which is line 1's
abbrev pub offered : List Event
offered = Message 0 (0x08 ∷ 0x02 ∷ 0x00 ∷ 0x01 ∷ 0x05 ∷ 0x04 ∷ 0x03 ∷ 0x80 ∷ 0x90 ∷ 0xA3 ∷ 0x70 ∷ 0x04 ∷ 0x80 ∷ 0x31 ∷ 0x30 ∷ 0x31 ∷ []) ∷ []

-- the call was never answered
abbrev pub unanswered : ℕ → CallRecord
unanswered n = record { caller = at 0 0; called = party.Line (at 1 0); answered = false; from = n; to = n; cause = 18 }

-- in frame 30 the SETUP is retransmitted, and in frame 60 both legs are cleared
abbrev pub setup_again : Reply
setup_again =
    sent_in 30 (to 1 (0x08 ∷ 0x02 ∷ 0x00 ∷ 0x01 ∷ 0x05 ∷ 0xA1 ∷ 0x04 ∷ 0x03 ∷ 0x80 ∷ 0x90 ∷ 0xA3 ∷ 0x18 ∷ 0x03 ∷ 0xA9 ∷ 0x83 ∷ 0x81 ∷ 0x70 ∷ 0x04 ∷ 0x80 ∷ 0x31 ∷ 0x30 ∷ 0x31 ∷ []) ∷ [])

abbrev pub setup_over : Reply
setup_over = ended_in 60 (to 1 (0x08 ∷ 0x02 ∷ 0x00 ∷ 0x01 ∷ 0x5A ∷ 0x08 ∷ 0x02 ∷ 0x82 ∷ 0xE6 ∷ []) ∷ to 0 (0x08 ∷ 0x02 ∷ 0x80 ∷ 0x01 ∷ 0x45 ∷ 0x08 ∷ 0x02 ∷ 0x82 ∷ 0x92 ∷ []) ∷ []) (unanswered 61)

-- ---- T310

-- the called user has complete information, and never alerts
abbrev pub proceeds : List Event
proceeds =
    Message 0 (0x08 ∷ 0x02 ∷ 0x00 ∷ 0x01 ∷ 0x05 ∷ 0x04 ∷ 0x03 ∷ 0x80 ∷ 0x90 ∷ 0xA3 ∷ 0x70 ∷ 0x04 ∷ 0x80 ∷ 0x31 ∷ 0x30 ∷ 0x31 ∷ [])
    ∷ Message 1 (0x08 ∷ 0x02 ∷ 0x80 ∷ 0x01 ∷ 0x02 ∷ [])
    ∷ []

abbrev pub proceeding_over : Reply
proceeding_over = ended_in 30 (to 1 (0x08 ∷ 0x02 ∷ 0x00 ∷ 0x01 ∷ 0x45 ∷ 0x08 ∷ 0x02 ∷ 0x82 ∷ 0xE6 ∷ []) ∷ to 0 (0x08 ∷ 0x02 ∷ 0x80 ∷ 0x01 ∷ 0x45 ∷ 0x08 ∷ 0x02 ∷ 0x82 ∷ 0x92 ∷ []) ∷ []) (unanswered 31)

-- the user of each line calls the other line on channel 2, so that both called legs are at place 0, and both called
-- users proceed
abbrev pub both_proceed : List Event
both_proceed =
    Message 0 (0x08 ∷ 0x02 ∷ 0x00 ∷ 0x01 ∷ 0x05 ∷ 0x04 ∷ 0x03 ∷ 0x80 ∷ 0x90 ∷ 0xA3 ∷ 0x18 ∷ 0x03 ∷ 0xA9 ∷ 0x83 ∷ 0x82 ∷ 0x70 ∷ 0x04 ∷ 0x80 ∷ 0x31 ∷ 0x30 ∷ 0x31 ∷ [])
    ∷ Message 1 (0x08 ∷ 0x02 ∷ 0x00 ∷ 0x01 ∷ 0x05 ∷ 0x04 ∷ 0x03 ∷ 0x80 ∷ 0x90 ∷ 0xA3 ∷ 0x18 ∷ 0x03 ∷ 0xA9 ∷ 0x83 ∷ 0x82 ∷ 0x70 ∷ 0x04 ∷ 0x80 ∷ 0x31 ∷ 0x30 ∷ 0x32 ∷ [])
    ∷ Message 1 (0x08 ∷ 0x02 ∷ 0x80 ∷ 0x01 ∷ 0x02 ∷ [])
    ∷ Message 0 (0x08 ∷ 0x02 ∷ 0x80 ∷ 0x01 ∷ 0x02 ∷ [])
    ∷ []

-- DISCONNECT to a called user and to the caller on the other line, and the record of their call
abbrev pub cleared_from : ℕ → ℕ → List Signal
cleared_from called caller =
    to called (0x08 ∷ 0x02 ∷ 0x00 ∷ 0x01 ∷ 0x45 ∷ 0x08 ∷ 0x02 ∷ 0x82 ∷ 0xE6 ∷ []) ∷ to caller (0x08 ∷ 0x02 ∷ 0x80 ∷ 0x01 ∷ 0x45 ∷ 0x08 ∷ 0x02 ∷ 0x82 ∷ 0x92 ∷ []) ∷ []

abbrev pub unanswered_on : ℕ → ℕ → CallRecord
unanswered_on called caller = record { caller = at caller 1; called = party.Line (at called 0); answered = false; from = 31; to = 31; cause = 18 }

-- both calls are cleared in one frame, first the call to line 0, and each is recorded
abbrev pub both_over : Reply
both_over = Frame_reply 30 (cleared_from 0 1 ++ cleared_from 1 0) (unanswered_on 0 1 ∷ unanswered_on 1 0 ∷ [])

-- ---- T301

-- the called user is alerted, and never answers
abbrev pub alerting : Event
alerting = Message 1 (0x08 ∷ 0x02 ∷ 0x80 ∷ 0x01 ∷ 0x01 ∷ [])

abbrev pub alerted : List Event
alerted = offered ++ alerting ∷ []

-- the call was never answered, and the user was alerted
abbrev pub not_answered : ℕ → CallRecord
not_answered n = record { caller = at 0 0; called = party.Line (at 1 0); answered = false; from = n; to = n; cause = 19 }

abbrev pub alerting_over : Reply
alerting_over = ended_in 30 (to 1 (0x08 ∷ 0x02 ∷ 0x00 ∷ 0x01 ∷ 0x45 ∷ 0x08 ∷ 0x02 ∷ 0x82 ∷ 0xE6 ∷ []) ∷ to 0 (0x08 ∷ 0x02 ∷ 0x80 ∷ 0x01 ∷ 0x45 ∷ 0x08 ∷ 0x02 ∷ 0x82 ∷ 0x93 ∷ []) ∷ []) (not_answered 31)

-- in the frame in which the timer expires, the called user alerts once more, or answers
abbrev pub alerted_again : World
alerted_again = next hasty_lines (world_in 30 alerted) alerting

abbrev pub answered_in_time : World
answered_in_time = next hasty_lines (world_in 30 alerted) (Message 1 (0x08 ∷ 0x02 ∷ 0x80 ∷ 0x01 ∷ 0x07 ∷ []))

-- ---- T302

-- the users of both lines have dialled the first digit
abbrev pub begun_on_both : List Event
begun_on_both =
    Message 0 (0x08 ∷ 0x02 ∷ 0x00 ∷ 0x01 ∷ 0x05 ∷ 0x04 ∷ 0x03 ∷ 0x80 ∷ 0x90 ∷ 0xA3 ∷ 0x70 ∷ 0x02 ∷ 0x80 ∷ 0x31 ∷ [])
    ∷ Message 1 (0x08 ∷ 0x02 ∷ 0x00 ∷ 0x01 ∷ 0x05 ∷ 0x04 ∷ 0x03 ∷ 0x80 ∷ 0x90 ∷ 0xA3 ∷ 0x70 ∷ 0x02 ∷ 0x80 ∷ 0x31 ∷ [])
    ∷ []

-- a DISCONNECT with this cause to the user of a caller's leg with the call reference 1, and a RELEASE
abbrev pub cleared_with : ℕ → ℕ → Signal
cleared_with line cause = to line (0x08 ∷ 0x02 ∷ 0x80 ∷ 0x01 ∷ 0x45 ∷ 0x08 ∷ 0x02 ∷ 0x82 ∷ cause ∷ [])

abbrev pub released_with : ℕ → ℕ → Signal
released_with line cause = to line (0x08 ∷ 0x02 ∷ 0x80 ∷ 0x01 ∷ 0x4D ∷ 0x08 ∷ 0x02 ∷ 0x82 ∷ cause ∷ [])

-- both are cleared in one frame, the lower line first, and nothing is recorded
abbrev pub digits_over : Reply
digits_over = sent_in 30 (cleared_with 0 0x9C ∷ cleared_with 1 0x9C ∷ [])

-- ---- T305 and T308

-- the user of line 0 does nothing more
abbrev pub first_turn : World
first_turn = after_turn (world_in 30 begun_on_both)

abbrev pub second_turn : World
second_turn = after_turn (in_frame 60 first_turn)

abbrev pub third_turn : World
third_turn = after_turn (in_frame 90 second_turn)

-- no leg is left, and the users of these slots have not replied to RELEASE
abbrev pub none_left : List Slot → Legs
none_left [] = no_legs 2
none_left (x ∷ xs) = without_leg (none_left xs) x Unconfirmed

-- RELEASE with the cause, its retransmission, and then both legs are removed without a message
abbrev pub released : ℕ → Reply
released n = sent_in n (released_with 0 0x9C ∷ released_with 1 0x9C ∷ [])
