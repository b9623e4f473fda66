-- The meaning of the contents of information elements (ITU-T Q.931 (05/98), 4.5).
use Rattle.std.specs.Prelude.{ℕ, ◌%◌, Bool, false, ◌&&◌, ◌||◌, ◌==◌, not, nat_lt, nat_le, if◌then◌else◌, List, [], ◌∷◌, length, drop, map, Option, Some, None, is_some, unwrap_or, option_and_then, option_map}
use Rattle.std.specs.List.{list_all}
use Rattle.std.specs.Char.{is_ascii_digit}
use Rattle.q931_elements.specs.InformationElement.{InformationElement, first_of}
use Rattle.q931_codec.specs.Identifiers as identifier
use Rattle.q931_codec.specs.declared.bearer.BearerCapability.{BearerCapability}
use Rattle.q931_codec.specs.declared.bearer.BearerCapability.TheVariants as bearer
use Rattle.q931_codec.specs.declared.contents.ChannelIdentification.{ChannelIdentification}
use Rattle.q931_codec.specs.declared.contents.ChannelIdentification.TheVariants.{Any, Preferred, Exclusive, Invalid}

-- ---- cause (4.5.12)

-- the low seven bits of the octet that has the cause value
abbrev pub cause_value : List ℕ → Option ℕ
cause_value [] = None
cause_value (octet ∷ rest) = Some (octet % 0x80)

abbrev pub cause_after_recommendation : List ℕ → Option ℕ
cause_after_recommendation [] = None
cause_after_recommendation (recommendation ∷ rest) = cause_value rest

-- a location, a recommendation if the location's top bit is 0, and the value
abbrev pub cause_of : List ℕ → Option ℕ
cause_of [] = None
cause_of (location ∷ rest) = if nat_lt location 0x80 then cause_after_recommendation rest else cause_value rest

-- the readable cause of a message: the value of its first cause
abbrev pub cause_in : List InformationElement → Option ℕ
cause_in elements = option_and_then cause_of (first_of identifier.cause elements)

-- ---- call state (4.5.7)

abbrev pub call_state_of : List ℕ → Option ℕ
call_state_of [] = None
call_state_of (octet ∷ rest) = Some (octet % 0x40)

abbrev pub call_state_in : List InformationElement → Option ℕ
call_state_in elements = option_and_then call_state_of (first_of identifier.call_state elements)

-- ---- channel identification (4.5.13)

-- 1 to 15 and 17 to 31: time slot 0 has the frame alignment, and time slot 16 the D-channel
abbrev pub is_bearer_channel : ℕ → Bool
is_bearer_channel channel = nat_lt 0 channel && nat_lt channel 32 && not (channel == 16)

-- octet 3 with one channel of a primary rate interface, exclusive (A9) or preferred (A1)
abbrev pub one_channel : ℕ → ℕ → ChannelIdentification
one_channel octet channel =
    if octet == 0xA9 && is_bearer_channel channel then Exclusive channel
    else (if octet == 0xA1 && is_bearer_channel channel then Preferred channel else Invalid)

-- after octet 3: the octet of a B-channel by its number (83), and the number, whose top bit does not count
abbrev pub numbered_channel : ℕ → List ℕ → ChannelIdentification
numbered_channel octet (units ∷ channel ∷ []) = if units == 0x83 then one_channel octet (channel % 0x80) else Invalid
numbered_channel octet _ = Invalid

-- A3 requests any channel, whatever follows it
abbrev pub channel_of : List ℕ → ChannelIdentification
channel_of [] = Invalid
channel_of (octet ∷ rest) = if octet == 0xA3 then Any else numbered_channel octet rest

abbrev pub channel_in : List InformationElement → Option ChannelIdentification
channel_in elements = option_map channel_of (first_of identifier.channel_identification elements)

-- ---- restart indicator (4.5.25)

abbrev pub first_octet : List ℕ → Option ℕ
first_octet [] = None
first_octet (octet ∷ rest) = Some octet

abbrev pub restart_in : List InformationElement → Option ℕ
restart_in elements = option_and_then first_octet (first_of identifier.restart_indicator elements)

-- ---- bearer capability (4.5.5)

-- octets 3 and 4: speech (80), 3.1 kHz audio (90) or unrestricted digital information (88), in circuit mode at 64
-- kbit/s (90)
abbrev pub is_carried : List ℕ → Bool
is_carried (capability ∷ mode ∷ rest) = mode == 0x90 && (capability == 0x80 || capability == 0x90 || capability == 0x88)
is_carried _ = false

-- a bearer capability has 2 to 10 octets of contents
abbrev pub bearer_of : List ℕ → BearerCapability
bearer_of contents =
    if nat_lt (length contents) 2 || nat_lt 10 (length contents) then bearer.Invalid
    else if is_carried contents then bearer.Carried else bearer.NotCarried

abbrev pub bearer_in : List InformationElement → Option (List ℕ)
bearer_in elements = first_of identifier.bearer_capability elements

-- ---- sending complete (4.5.27): the called number is complete

abbrev pub complete_in : List InformationElement → Bool
complete_in elements = is_some (first_of identifier.sending_complete elements)

-- ---- called party number (4.5.8)

-- its contents as received, if there is one
abbrev pub called_received : List InformationElement → Option (List ℕ)
called_received elements = first_of identifier.called_party_number elements

-- contents of 1 to 21 octets: the type of number with the numbering plan, and the digits
abbrev pub is_called_number : List ℕ → Bool
is_called_number contents = nat_le 1 (length contents) && nat_le (length contents) 21

-- IA5 characters without their top bits, if all of them are digits 0 to 9
abbrev pub decimal_digits : List ℕ → Option (List ℕ)
decimal_digits octets = let digits = map (λ octet. octet % 0x80) octets in if list_all is_ascii_digit digits then Some digits else None

-- the digits of a called party number: none if it has no octet
abbrev pub dialled_digits : List ℕ → Option (List ℕ)
dialled_digits contents = decimal_digits (drop 1 contents)

-- ---- contents that pass unchanged from the calling to the called user

-- contents of at most n octets; otherwise none
abbrev pub contents_passed_on : ℕ → List ℕ → List ℕ
contents_passed_on most contents = if nat_le (length contents) most then contents else []

abbrev pub contents_in : ℕ → List InformationElement → List ℕ
contents_in code elements = unwrap_or (first_of code elements) []

-- calling party number (4.5.10)
abbrev pub calling_in : List InformationElement → List ℕ
calling_in elements = contents_passed_on 22 (contents_in identifier.calling_party_number elements)

-- called party number (4.5.8)
abbrev pub called_in : List InformationElement → List ℕ
called_in elements = contents_passed_on 21 (contents_in identifier.called_party_number elements)

-- low layer compatibility (4.5.19)
abbrev pub low_layer_in : List InformationElement → List ℕ
low_layer_in elements = contents_passed_on 16 (contents_in identifier.low_layer_compatibility elements)

-- high layer compatibility (4.5.17)
abbrev pub high_layer_in : List InformationElement → List ℕ
high_layer_in elements = contents_passed_on 3 (contents_in identifier.high_layer_compatibility elements)
