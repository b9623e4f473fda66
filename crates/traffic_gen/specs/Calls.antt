-- Generated calls: the caller and the called party, and the lines of a call. Defined by this project.
use Rattle.std.specs.Prelude.{ℕ, zero, suc, ◌+◌, ◌<◌, ◌==◌, List, [], ◌∷◌, ◌++◌, Option, Some, None, codes, decimal, if◌then◌else◌}
use Rattle.traffic_gen.specs.Draws.{drawn, octets_drawn, state_after}
use Rattle.traffic_gen.specs.Lines.{Line, Part, Message, Frame, Sync}
use Rattle.traffic_gen.specs.Messages.{setup, connect, disconnect, release, release_complete}
use Rattle.traffic_gen.specs.declared.callee.Callee.{Callee}
use Rattle.traffic_gen.specs.declared.callee.Callee.TheVariants as callee
use Rattle.traffic_gen.specs.declared.call.Call.{Call}

-- the number at which a callee is reached: 20 to 27 reach the lines 0 to 7, 30 is the room's
abbrev pub number_of : Callee → List ℕ
number_of (callee.Line line) = codes "2" ++ decimal line
number_of callee.Room = codes "30"

-- the nine callees that can be drawn: the eight lines, and then the room
abbrev pub callee_drawn : ℕ → Callee
callee_drawn choice = if choice == 8 then callee.Room else callee.Line choice

-- the line of a callee is one of the eight
abbrev pub IsCallee : Callee → Type 0
IsCallee (callee.Line line) = line < 8
IsCallee callee.Room = Unit {0}

-- a call takes three draws: the caller's line, the callee, and the number of its frames
unfoldable pub call_drawn : ℕ → Call
call_drawn state = record {
  caller = drawn 8 (state_after 1 state);
  callee = callee_drawn (drawn 9 (state_after 2 state));
  frames = 1 + drawn 3 (state_after 3 state);
}

-- lines that make a segment of the trace
abbrev pub segment : List Line → List Line
segment lines = lines ++ Sync ∷ []

-- a message of a line, as a segment by itself
abbrev pub message_of : ℕ → List ℕ → List Line
message_of line octets = segment (Message line octets ∷ [])

-- a message of the callee; a room has no signalling
abbrev pub message_from : Callee → List ℕ → List Line
message_from (callee.Line line) octets = message_of line octets
message_from callee.Room octets = []

-- the messages with which the caller clears a call
abbrev pub clearing_of : ℕ → List Line
clearing_of caller = message_of caller disconnect ++ message_of caller release_complete

-- the line that sends in addition to the caller's, if there is one: a line that calls itself sends once
abbrev pub far_line : ℕ → Callee → Option ℕ
far_line caller (callee.Line line) = if line == caller then None else Some line
far_line caller callee.Room = None

-- the octets of a line in a frame: 30 draws
abbrev pub part_drawn : ℕ → ℕ → Part
part_drawn line state = record { line = line; octets = octets_drawn 30 state }

-- a frame of a call, the caller's octets drawn first
abbrev pub frame_drawn : ℕ → Option ℕ → ℕ → Line
frame_drawn caller None state = Frame (part_drawn caller state ∷ [])
frame_drawn caller (Some far) state = Frame (part_drawn caller state ∷ part_drawn far (state_after 30 state) ∷ [])

abbrev pub state_after_frame : Option ℕ → ℕ → ℕ
state_after_frame None state = state_after 30 state
state_after_frame (Some far) state = state_after 30 (state_after 30 state)

-- n frames of a call
abbrev pub frames_drawn : ℕ → Option ℕ → ℕ → ℕ → List Line
frames_drawn caller far zero state = []
frames_drawn caller far (suc count) state =
    frame_drawn caller far state ∷ frames_drawn caller far count (state_after_frame far state)

abbrev pub state_after_frames : Option ℕ → ℕ → ℕ → ℕ
state_after_frames far zero state = state
state_after_frames far (suc count) state = state_after_frames far count (state_after_frame far state)

-- the frames of a call, drawn from this state on
abbrev pub frames_of : Call → ℕ → List Line
frames_of call state = frames_drawn call.caller (far_line call.caller call.callee) call.frames state

-- the lines of a call, with its frames drawn from this state on; the caller clears
abbrev pub call_lines : Call → ℕ → List Line
call_lines call state =
    message_of call.caller (setup (number_of call.callee))
    ++ message_from call.callee connect
    ++ segment (frames_of call state)
    ++ clearing_of call.caller
    ++ message_from call.callee release

abbrev pub state_after_call : Call → ℕ → ℕ
state_after_call call state = state_after_frames (far_line call.caller call.callee) call.frames state

-- n calls in sequence
abbrev pub calls_drawn : ℕ → ℕ → List Line
calls_drawn zero state = []
calls_drawn (suc count) state =
    call_lines (call_drawn state) (state_after 3 state)
    ++ calls_drawn count (state_after_call (call_drawn state) (state_after 3 state))
