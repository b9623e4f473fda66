-- Lines in the common form: single spaces, and decimal numbers of one or two digits. Source: this project.
use Rattle.std.specs.Prelude.{◌≡◌, ℕ, ◌<◌, Bool, true, false, not, ◌==◌, List, ◌∷◌, ◌++◌, length, slice_index_or, Some, Result, Ok}
use Rattle.std.specs.List.{list_all}
use Rattle.std.specs.Char.{is_ascii_digit}
use Rattle.circuit_model.specs.FrameInput.{Input}
use Rattle.exchange_events.specs.declared.trace.Event.{Event}
use Rattle.trace_text.specs.declared.fault.Reason.{Reason}
use Rattle.trace_text.specs.TraceWords.{words, numeral, is_printable, is_comment}
use Rattle.trace_text.specs.TraceFields.{slot}
use Rattle.trace_text.specs.TraceLines.{with_part}
use Rattle.circuit_model.specs.declared.channel.Slot.{Slot}

-- a field ends before these octets: they are empty, or begin with a space
abbrev pub ends_word : List ℕ → Bool
ends_word octets = slice_index_or octets 0 32 == 32

-- a decimal number and the octets after it
pub record NumberAt (octets : List ℕ) (n : ℕ) (others : List ℕ) : Type 0 where
  pub front : List ℕ
  pub digits : list_all is_ascii_digit front ≡ true
  pub number : numeral front ≡ Some n
  pub parts : octets ≡ front ++ others

-- a field of a frame and the octets after it: a space, the decimal number of a line, `:` and 60 octets
pub record PartAt (rest : List ℕ) (line : ℕ) (sixty others : List ℕ) : Type 0 where
  pub front : List ℕ
  pub digits : list_all is_ascii_digit front ≡ true
  pub number : numeral front ≡ Some line
  pub parts : rest ≡ 32 ∷ (front ++ 58 ∷ (sixty ++ others))
  pub whole : length sixty ≡ 60
  pub ends : ends_word others ≡ true

-- the next field of a frame, added to it, and the octets after it
pub record TakesPart (given now : Input) (rest others : List ℕ) : Type 0 where
  pub word : List ℕ
  pub cut : words rest ≡ word ∷ words others
  pub shorter : length others < length rest
  pub put : with_part (length given) given word ≡ Ok now
  pub text : list_all is_printable others ≡ true → list_all is_printable rest ≡ true

-- the rest of a line is printable, and its fields are the event
pub record GivesPlainly (reading : Result Event Reason) (line : List ℕ) (event : Event) : Type 0 where
  pub reads : reading ≡ Ok event
  pub text : list_all is_printable line ≡ true

-- a slot and the octets after it
pub record SlotAt (external : ℕ) (octets : List ℕ) (at : Slot) (others : List ℕ) : Type 0 where
  pub word : List ℕ
  pub some : 0 < length word
  pub whole : list_all (λ octet. not (octet == 32)) word ≡ true
  pub text : list_all is_printable word ≡ true
  pub names : slot external word ≡ Some at
  pub parts : octets ≡ word ++ others

-- a line that starts with this field, is printable, and whose other fields are the event
pub record IsPlain (first : List ℕ) (reading : List (List ℕ) → Result Event Reason) (line : List ℕ) (event : Event) : Type 0 where
  pub others : List (List ℕ)
  pub cut : words line ≡ first ∷ others
  pub reads : reading others ≡ Ok event
  pub text : list_all is_printable line ≡ true
  pub said : is_comment line ≡ false
