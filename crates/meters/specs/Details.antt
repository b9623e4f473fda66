-- The contents and the text of a ring of call detail records. A call detail record has the caller, the called party,
-- the first and last frame and the cause (ITU-T Q.825); its line is defined by this project.
use Rattle.std.specs.Prelude.{◌≡◌, ℕ, ◌-◌, List, [], ◌∷◌, ◌++◌, length, drop, codes, decimal}
use Rattle.circuit_model.specs.declared.channel.Slot.{Slot}
use Rattle.circuit_model.specs.Channels.{channel_at}
use Rattle.exchange_events.specs.declared.record.Party.{Party}
use Rattle.exchange_events.specs.declared.record.Party.TheVariants.{Line, Room}
use Rattle.exchange_events.specs.declared.record.CallRecord.{CallRecord}

-- the last of a list, at most n
abbrev pub last_of : {A : Type 0} → ℕ → List A → List A
last_of most xs = drop (length xs - most) xs

-- a slot by its line and its channel's number
abbrev pub slot_text : Slot → List ℕ
slot_text at = decimal at.line ++ codes "/" ++ decimal (channel_at at.place)

-- the called party: a slot or a room
abbrev pub party_text : Party → List ℕ
party_text (Line at) = slot_text at
party_text (Room number) = codes "room " ++ decimal number

-- a number after a space
abbrev pub figure : ℕ → List ℕ
figure number = codes " " ++ decimal number

-- the line of a call: the caller, the called party, the first frame, the frame in which its clearing began, and the
-- cause value
abbrev pub call_line : CallRecord → List ℕ
call_line call =
    codes "call " ++ slot_text call.caller ++ codes " " ++ party_text call.called ++ figure call.from ++ figure call.to ++ figure call.cause ++ codes "\n"

abbrev pub call_lines : List CallRecord → List ℕ
call_lines [] = []
call_lines (call ∷ calls) = call_line call ++ call_lines calls

-- the detail of a list of calls: a line for each of the last n
abbrev pub detail_text : ℕ → List CallRecord → List ℕ
detail_text keep calls = call_lines (last_of keep calls)

-- a ring of call detail records: its capacity, and its records from the oldest
pub record Ring : Type 0 where
  pub keep : ℕ
  pub calls : List CallRecord

-- the ring represents a list of calls
abbrev pub IsRingOf : List CallRecord → Ring → Type 0
IsRingOf calls ring = ring.calls ≡ last_of ring.keep calls

-- the text of a ring after further calls
abbrev pub detail_text_with : Ring → List CallRecord → List ℕ
detail_text_with ring more = detail_text ring.keep (ring.calls ++ more)
