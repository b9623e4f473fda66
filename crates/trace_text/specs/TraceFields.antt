-- The fields of a trace's lines: lines, slots and rooms of the exchange, octets in hexadecimal digits, sizes. Source: this project. The channels are
-- from ITU-T Q.931 (05/98), section 4.5.13.
use Rattle.std.specs.Prelude.{ℕ, ◌+◌, ◌-◌, ◌*◌, Bool, ◌&&◌, nat_lt, nat_le, ◌==◌, List, [], ◌∷◌, length, codes, Option, Some, None, option_and_then, is_some, Result, Ok, Err, if◌then◌else◌}
use Rattle.std.specs.Str.{bytes_eq}
use Rattle.circuit_model.specs.Channels.{between, place_of}
use Rattle.circuit_model.specs.declared.channel.Slot.{Slot}
use Rattle.trace_text.specs.declared.fault.Reason.{Reason}
use Rattle.trace_text.specs.declared.fault.Reason.TheVariants.{Hex, Length}
use Rattle.trace_text.specs.declared.said.Sizes.{Sizes}
use Rattle.trace_text.specs.TraceWords.{numeral, cut_at, three}

-- the second step, if the first returned a value
infixl 10 ◌>>=◌
abbrev pub ◌>>=◌ : {A B : Type 0} → Option A → (A → Option B) → Option B
found >>= step = option_and_then step found

-- the value of a field that is a decimal number from `low` to `high`
abbrev pub numeral_in : ℕ → ℕ → List ℕ → Option ℕ
numeral_in low high word = do
  number ← numeral word
  if between low high number then Some number else None

-- the octet `/`
abbrev pub slash : ℕ
slash = 47

-- an external line: its decimal number
abbrev pub external_line : ℕ → List ℕ → Option ℕ
external_line external word = do
  line ← numeral word
  if nat_lt line external then Some line else None

-- a slot: the decimal number of an external line, `/`, and the decimal number of a bearer channel
abbrev pub slot : ℕ → List ℕ → Option Slot
slot external word = do
  halves ← cut_at slash word
  line ← external_line external halves.0
  channel ← numeral halves.1
  place ← place_of channel
  Some (record { line = line; place = place })

-- a conference room: a decimal number from 0 to 63
abbrev pub room : List ℕ → Option ℕ
room word = numeral_in 0 63 word

-- the value of a hexadecimal digit of either case
abbrev pub digit_value : ℕ → Option ℕ
digit_value digit =
    if between 48 57 digit then Some (digit - 48)
    else if between 65 70 digit then Some (digit - 55)
    else if between 97 102 digit then Some (digit - 87)
    else None

-- a number below 16
abbrev pub below_sixteen : ℕ → Option ℕ
below_sixteen value = if nat_le 16 value then None else Some value

-- the octet is a hexadecimal digit
abbrev pub is_digit : ℕ → Bool
is_digit octet = is_some (digit_value octet)

-- the octets of hexadecimal digits, 2 digits each
abbrev pub octets_written : List ℕ → Option (List ℕ)
octets_written [] = Some []
octets_written (digit ∷ []) = None
octets_written (high ∷ low ∷ digits) = do
  upper ← digit_value high
  lower ← digit_value low
  octets ← octets_written digits
  Some ((upper * 16 + lower) ∷ octets)

-- the octets of a line of one frame: 30 octets
abbrev pub thirty : Option (List ℕ) → Result (List ℕ) Reason
thirty None = Err Hex
thirty (Some octets) = if length octets == 30 then Ok octets else Err Length

-- at most n octets, for example 260 of a message
abbrev pub at_most : ℕ → Option (List ℕ) → Result (List ℕ) Reason
at_most most None = Err Hex
at_most most (Some octets) = if nat_le (length octets) most then Ok octets else Err Length

abbrev pub max_message_len : ℕ
max_message_len = 260

-- at least one octet
abbrev pub at_least_one : Result (List ℕ) Reason → Result (List ℕ) Reason
at_least_one (Err why) = Err why
at_least_one (Ok []) = Err Length
at_least_one (Ok (octet ∷ octets)) = Ok (octet ∷ octets)

-- the octets of a tone: 1 to 8000, which is 1 second of speech
abbrev pub max_tone_len : ℕ
max_tone_len = 8000

abbrev pub of_tone : Option (List ℕ) → Result (List ℕ) Reason
of_tone written = at_least_one (at_most max_tone_len written)

-- the sizes of three fields: the numbers of external lines, bridge lines and processors
abbrev pub exchange_sizes : List (List ℕ) → Option Sizes
exchange_sizes words = do
  all ← three words
  external ← numeral_in 1 32 all.0
  bridges ← numeral_in 0 2 all.1
  processors ← numeral_in 1 8 all.2
  Some (record { external = external; bridges = bridges; processors = processors })

-- the sizes of a header, which starts with the fields `exchange` and `1`
abbrev pub header : List (List ℕ) → Option Sizes
header (name ∷ version ∷ others) = if bytes_eq name (codes "exchange") && bytes_eq version (codes "1") then exchange_sizes others else None
header other = None
