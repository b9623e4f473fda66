-- A call over data links, and three frames after an answer with different octets, on which the definitions are evaluated.
-- Source: this project.
use Rattle.std.specs.Prelude.{ℕ, List, [], ◌∷◌, ◌++◌, Option, Some, None}
use Rattle.link_procedures.specs.declared.state.LinkTimers.{LinkTimers}
use Rattle.link_procedures.specs.Establishment.{established}
use Rattle.link_procedures.specs.Links.{DataLink, initial}
use Rattle.call_profile.specs.WorkedCalls.{two_lines}
use Rattle.call_profile.specs.World.{start}
use Rattle.linked_exchange.specs.Steps.{Joint, LinkedInput, Receives}
use Rattle.exchange_events.specs.declared.trace.Event.{Event}
use Rattle.privacy.specs.Worked.{answered_call, a_frame}

-- T200 is one second, and T203 ten
abbrev pub usual_timers : LinkTimers
usual_timers = record { t200 = 8000; t203 = 80000 }

-- the data links of both lines are established, and nothing was sent yet
abbrev pub new_link : Option DataLink
new_link = Some (established 0 (initial 0))

abbrev pub established_links : Joint
established_links = record {
  world = start two_lines.dimensions;
  links = record { links = new_link ∷ new_link ∷ []; receiving = None; messages = 0; lines = []; frames = [] };
}

-- the SETUP by which the user of line 0 calls number 101, and the SETUP that line 1 gets
abbrev pub setup : List ℕ
setup = 0x08 ∷ 0x02 ∷ 0x00 ∷ 0x01 ∷ 0x05 ∷ 0x04 ∷ 0x03 ∷ 0x80 ∷ 0x90 ∷ 0xA3 ∷ 0x18 ∷ 0x03 ∷ 0xA9 ∷ 0x83 ∷ 0x81 ∷ 0x70 ∷ 0x04 ∷ 0x80 ∷ 0x31 ∷ 0x30 ∷ 0x31 ∷ []

abbrev pub offered : List ℕ
offered = 0x08 ∷ 0x02 ∷ 0x00 ∷ 0x01 ∷ 0x05 ∷ 0xA1 ∷ 0x04 ∷ 0x03 ∷ 0x80 ∷ 0x90 ∷ 0xA3 ∷ 0x18 ∷ 0x03 ∷ 0xA9 ∷ 0x83 ∷ 0x81 ∷ 0x70 ∷ 0x04 ∷ 0x80 ∷ 0x31 ∷ 0x30 ∷ 0x31 ∷ []

-- the I frame with this SETUP
abbrev pub call_in_a_frame : LinkedInput
call_in_a_frame = Receives 0 (0x00 ∷ 0x01 ∷ 0x00 ∷ 0x00 ∷ setup)

-- three frames after an answer: in the first the caller and the third line send these octets
abbrev pub three_frames : ℕ → ℕ → List Event
three_frames caller third = answered_call ++ a_frame caller 0x21 third ∷ a_frame 0x12 0x22 0x32 ∷ a_frame 0x13 0x23 0x33 ∷ []

abbrev pub first_run : List Event
first_run = three_frames 0x11 0x31

abbrev pub stranger_differs : List Event
stranger_differs = three_frames 0x11 0x51

abbrev pub caller_differs : List Event
caller_differs = three_frames 0x41 0x31
