-- The registers and the text of a peg count and of a holding time. The holding time is from ITU-T E.600 (the duration
-- of a seizure), in frames; a peg count is a plain count of events. The texts are defined by this project.
use Rattle.std.specs.Prelude.{◌≡◌, ℕ, ◌+◌, ◌-◌, ◌^◌, min, max, List, [], ◌∷◌, ◌++◌, length, codes, decimal}
use Rattle.std.specs.List.{count_by, sum_by}
use Rattle.exchange_events.specs.declared.record.CallRecord.{CallRecord}

-- the value of a register of 64 bits for a number: it saturates
abbrev pub register_value : ℕ → ℕ
register_value number = min number (2 ^ 64 - 1)

-- the number of answered calls
abbrev pub answered_calls : List CallRecord → ℕ
answered_calls calls = count_by (λ call. call.answered) calls

-- the number of frames in which a call held its circuits: from its first frame to the one in which its clearing began,
-- and 0 if that is the earlier one
abbrev pub frames_held : CallRecord → ℕ
frames_held call = call.to - call.from

-- the number of frames in which the calls held their circuits, in total
abbrev pub total_held : List CallRecord → ℕ
total_held calls = sum_by frames_held calls

-- the number of frames in which the longest of the calls held its circuits, or 0 without a call
abbrev pub max_frames_held : List CallRecord → ℕ
max_frames_held [] = 0
max_frames_held (call ∷ calls) = max (frames_held call) (max_frames_held calls)

-- the text of a peg count
abbrev pub peg_line : ℕ → ℕ → List ℕ
peg_line calls answered = codes "peg " ++ decimal calls ++ codes " " ++ decimal answered ++ codes "\n"

-- the text of a holding time
abbrev pub holding_line : ℕ → ℕ → List ℕ
holding_line total longest = codes "holding " ++ decimal total ++ codes " " ++ decimal longest ++ codes "\n"

-- the peg count of a list of calls: their number, and the number of answered ones
abbrev pub peg_text : List CallRecord → List ℕ
peg_text calls = peg_line (register_value (length calls)) (register_value (answered_calls calls))

-- the holding time of a list of calls: the total and the longest
abbrev pub holding_text : List CallRecord → List ℕ
holding_text calls = holding_line (register_value (total_held calls)) (register_value (max_frames_held calls))

-- the registers of a peg count
pub record Pegs : Type 0 where
  pub calls : ℕ
  pub answered : ℕ

-- the registers represent a list of calls
pub record ArePegsOf (calls : List CallRecord) (pegs : Pegs) : Type 0 where
  pub calls_are : pegs.calls ≡ register_value (length calls)
  pub answered_are : pegs.answered ≡ register_value (answered_calls calls)

-- the text of a peg count after further calls
abbrev pub peg_text_with : Pegs → List CallRecord → List ℕ
peg_text_with pegs more = peg_line (register_value (pegs.calls + length more)) (register_value (pegs.answered + answered_calls more))

-- the registers of a holding time
pub record Held : Type 0 where
  pub total : ℕ
  pub longest : ℕ

-- the registers represent a list of calls
pub record IsHeldBy (calls : List CallRecord) (held : Held) : Type 0 where
  pub total_is : held.total ≡ register_value (total_held calls)
  pub longest_is : held.longest ≡ register_value (max_frames_held calls)

-- the text of a holding time after further calls
abbrev pub holding_text_with : Held → List CallRecord → List ℕ
holding_text_with held more = holding_line (register_value (held.total + total_held more)) (register_value (max held.longest (max_frames_held more)))
