-- The messages that inform a user of a tone. Source: ITU-T Q.931 (05/98), 4.5.23.
use Rattle.std.specs.Prelude.{◌≡◌, ℕ, Bool, false, List, filter_map, Option, Some, None, is_some, Result, Ok, Err, if◌then◌else◌}
use Rattle.q931_elements.specs.InformationElement.{first_of}
use Rattle.q931_codec.specs.Identifiers as identifier
use Rattle.q931_codec.specs.declared.message.Discard.{Discard}
use Rattle.q931_codec.specs.declared.message.Message.{Message}
use Rattle.q931_codec.specs.Reading.{reading}
use Rattle.call_profile.specs.Operations.{Operation, Sound, Send, Expect, Repeat}

-- a message that was read has a progress indicator
abbrev pub has_progress : Result Message Discard → Bool
has_progress (Ok m) = is_some (first_of identifier.progress_indicator m.elements)
has_progress (Err why) = false

-- the line whose user is sent a progress indicator by an operation, and the line of a slot that gets a tone by it
abbrev pub line_told : Operation → Option ℕ
line_told (Send line message) = if message.progress then Some line else None
line_told (Expect x leg message) = if message.progress then Some x.line else None
line_told (Repeat h octets) = if has_progress (reading octets) then Some h.slot.line else None
line_told _ = None

abbrev pub line_sounding : Operation → Option ℕ
line_sounding (Sound x (Some kind)) = Some x.line
line_sounding _ = None

-- a progress indicator goes to the users of exactly those lines, in order, at which a slot gets a tone
abbrev pub TellsOfTones : List Operation → Type 0
TellsOfTones operations = filter_map line_told operations ≡ filter_map line_sounding operations
