-- The definitions from octets to octets, and worked messages. Source: this project.
use Rattle.std.specs.Prelude.{ℕ, List, [], ◌∷◌, Option, None, option_map, Result, Ok, Err}
use Rattle.q931_codec.specs.declared.message.Message.{Message}
use Rattle.q931_codec.specs.declared.message.Discard.{Discard}
use Rattle.q931_codec.specs.Outgoing.{encoding}
use Rattle.q931_codec.specs.Reading.{reading}
use Rattle.clearing_rules.specs.declared.scope.Restart.{Restart}
use Rattle.clearing_rules.specs.Restarting.{restart_acknowledged, restart_asked, acknowledgement}
use Rattle.clearing_rules.specs.UnknownReference.{answer_without_call}

abbrev pub answer_to_read : Result Message Discard → Option (List ℕ)
answer_to_read (Ok m) = option_map encoding (answer_without_call m)
answer_to_read (Err why) = None

-- the octets of the reply to these octets if they are on no call, if there is a reply
abbrev pub answer_to_octets : List ℕ → Option (List ℕ)
answer_to_octets octets = answer_to_read (reading octets)

abbrev pub restart_read : Result Message Discard → Option Restart
restart_read (Ok m) = restart_asked m
restart_read (Err why) = None

-- the restart that these octets acknowledge
abbrev pub acknowledged_read : Result Message Discard → Option Restart
acknowledged_read (Ok m) = restart_acknowledged m
acknowledged_read (Err why) = None

abbrev pub acknowledged_in_octets : List ℕ → Option Restart
acknowledged_in_octets octets = acknowledged_read (reading octets)

-- the restart that these octets request, and the octets that acknowledge it
abbrev pub restart_in_octets : List ℕ → Option Restart
restart_in_octets octets = restart_read (reading octets)

abbrev pub acknowledgement_of_octets : List ℕ → Option (List ℕ)
acknowledgement_of_octets octets = option_map (λ r. encoding (acknowledgement r)) (restart_in_octets octets)

-- ---- worked messages

-- on call references without a call: from the side that chose it and from the other one
abbrev pub enquiry : List ℕ
enquiry = 0x08 ∷ 0x02 ∷ 0x00 ∷ 0x01 ∷ 0x75 ∷ []

abbrev pub enquiry_on_global : List ℕ
enquiry_on_global = 0x08 ∷ 0x02 ∷ 0x00 ∷ 0x00 ∷ 0x75 ∷ []

abbrev pub enquiry_from_called : List ℕ
enquiry_from_called = 0x08 ∷ 0x02 ∷ 0x81 ∷ 0x07 ∷ 0x75 ∷ []

abbrev pub disconnect : List ℕ
disconnect = 0x08 ∷ 0x02 ∷ 0x00 ∷ 0x01 ∷ 0x45 ∷ []

abbrev pub release_from_called : List ℕ
release_from_called = 0x08 ∷ 0x02 ∷ 0x80 ∷ 0x01 ∷ 0x4D ∷ []

abbrev pub restart_on_a_call : List ℕ
restart_on_a_call = 0x08 ∷ 0x02 ∷ 0x00 ∷ 0x01 ∷ 0x46 ∷ 0x79 ∷ 0x01 ∷ 0x86 ∷ []

abbrev pub unknown_type : List ℕ
unknown_type = 0x08 ∷ 0x02 ∷ 0x00 ∷ 0x01 ∷ 0x3F ∷ []

abbrev pub release_complete : List ℕ
release_complete = 0x08 ∷ 0x02 ∷ 0x00 ∷ 0x01 ∷ 0x5A ∷ []

abbrev pub status : List ℕ
status = 0x08 ∷ 0x02 ∷ 0x00 ∷ 0x01 ∷ 0x7D ∷ 0x14 ∷ 0x01 ∷ 0x0A ∷ []

abbrev pub status_from_called : List ℕ
status_from_called = 0x08 ∷ 0x02 ∷ 0x80 ∷ 0x05 ∷ 0x7D ∷ 0x08 ∷ 0x02 ∷ 0x80 ∷ 0x9F ∷ 0x14 ∷ 0x01 ∷ 0x09 ∷ []

abbrev pub status_of_null : List ℕ
status_of_null = 0x08 ∷ 0x02 ∷ 0x00 ∷ 0x01 ∷ 0x7D ∷ 0x14 ∷ 0x01 ∷ 0x00 ∷ []

abbrev pub status_without_state : List ℕ
status_without_state = 0x08 ∷ 0x02 ∷ 0x00 ∷ 0x01 ∷ 0x7D ∷ 0x08 ∷ 0x02 ∷ 0x80 ∷ 0x9F ∷ []

abbrev pub status_on_global : List ℕ
status_on_global = 0x08 ∷ 0x02 ∷ 0x00 ∷ 0x00 ∷ 0x7D ∷ 0x14 ∷ 0x01 ∷ 0x3D ∷ []

abbrev pub setup_from_called : List ℕ
setup_from_called = 0x08 ∷ 0x02 ∷ 0x80 ∷ 0x01 ∷ 0x05 ∷ []

-- their replies: STATUS with cause 30 and state 0, RELEASE COMPLETE with cause 81 or 101
abbrev pub no_call : List ℕ
no_call = 0x08 ∷ 0x02 ∷ 0x80 ∷ 0x01 ∷ 0x7D ∷ 0x08 ∷ 0x02 ∷ 0x82 ∷ 0x9E ∷ 0x14 ∷ 0x01 ∷ 0x00 ∷ []

abbrev pub no_call_to_called : List ℕ
no_call_to_called = 0x08 ∷ 0x02 ∷ 0x01 ∷ 0x07 ∷ 0x7D ∷ 0x08 ∷ 0x02 ∷ 0x82 ∷ 0x9E ∷ 0x14 ∷ 0x01 ∷ 0x00 ∷ []

abbrev pub invalid_reference : List ℕ
invalid_reference = 0x08 ∷ 0x02 ∷ 0x80 ∷ 0x01 ∷ 0x5A ∷ 0x08 ∷ 0x02 ∷ 0x82 ∷ 0xD1 ∷ []

abbrev pub invalid_reference_to_called : List ℕ
invalid_reference_to_called = 0x08 ∷ 0x02 ∷ 0x00 ∷ 0x01 ∷ 0x5A ∷ 0x08 ∷ 0x02 ∷ 0x82 ∷ 0xD1 ∷ []

abbrev pub incompatible : List ℕ
incompatible = 0x08 ∷ 0x02 ∷ 0x80 ∷ 0x01 ∷ 0x5A ∷ 0x08 ∷ 0x02 ∷ 0x82 ∷ 0xE5 ∷ []

abbrev pub incompatible_to_called : List ℕ
incompatible_to_called = 0x08 ∷ 0x02 ∷ 0x00 ∷ 0x05 ∷ 0x5A ∷ 0x08 ∷ 0x02 ∷ 0x82 ∷ 0xE5 ∷ []

-- accepted RESTARTs: of an interface, of all, of channels 1, 17 and 31, the last one as preferred
abbrev pub restart_interface : List ℕ
restart_interface = 0x08 ∷ 0x02 ∷ 0x00 ∷ 0x00 ∷ 0x46 ∷ 0x79 ∷ 0x01 ∷ 0x86 ∷ []

abbrev pub restart_all : List ℕ
restart_all = 0x08 ∷ 0x02 ∷ 0x00 ∷ 0x00 ∷ 0x46 ∷ 0x18 ∷ 0x01 ∷ 0xA3 ∷ 0x79 ∷ 0x01 ∷ 0x87 ∷ []

abbrev pub restart_1 : List ℕ
restart_1 = 0x08 ∷ 0x02 ∷ 0x00 ∷ 0x00 ∷ 0x46 ∷ 0x18 ∷ 0x03 ∷ 0xA9 ∷ 0x83 ∷ 0x81 ∷ 0x79 ∷ 0x01 ∷ 0x80 ∷ []

abbrev pub restart_17 : List ℕ
restart_17 = 0x08 ∷ 0x02 ∷ 0x00 ∷ 0x00 ∷ 0x46 ∷ 0x18 ∷ 0x03 ∷ 0xA9 ∷ 0x83 ∷ 0x91 ∷ 0x79 ∷ 0x01 ∷ 0x80 ∷ []

abbrev pub restart_31 : List ℕ
restart_31 = 0x08 ∷ 0x02 ∷ 0x00 ∷ 0x00 ∷ 0x46 ∷ 0x18 ∷ 0x03 ∷ 0xA1 ∷ 0x83 ∷ 0x9F ∷ 0x79 ∷ 0x01 ∷ 0x80 ∷ []

-- ignored messages: RESTARTs of any channel, of channel 16, without an indicator, from the side that did not choose the
-- call reference; and a message that is not a RESTART
abbrev pub restart_any : List ℕ
restart_any = 0x08 ∷ 0x02 ∷ 0x00 ∷ 0x00 ∷ 0x46 ∷ 0x18 ∷ 0x01 ∷ 0xA3 ∷ 0x79 ∷ 0x01 ∷ 0x80 ∷ []

abbrev pub restart_16 : List ℕ
restart_16 = 0x08 ∷ 0x02 ∷ 0x00 ∷ 0x00 ∷ 0x46 ∷ 0x18 ∷ 0x03 ∷ 0xA9 ∷ 0x83 ∷ 0x90 ∷ 0x79 ∷ 0x01 ∷ 0x80 ∷ []

abbrev pub restart_nothing : List ℕ
restart_nothing = 0x08 ∷ 0x02 ∷ 0x00 ∷ 0x00 ∷ 0x46 ∷ 0x18 ∷ 0x03 ∷ 0xA9 ∷ 0x83 ∷ 0x81 ∷ []

abbrev pub restart_from_called : List ℕ
restart_from_called = 0x08 ∷ 0x02 ∷ 0x80 ∷ 0x00 ∷ 0x46 ∷ 0x79 ∷ 0x01 ∷ 0x86 ∷ []

abbrev pub restart_acknowledge : List ℕ
restart_acknowledge = 0x08 ∷ 0x02 ∷ 0x00 ∷ 0x00 ∷ 0x4E ∷ 0x79 ∷ 0x01 ∷ 0x86 ∷ []

-- the acknowledgements of two of them
abbrev pub interface_acknowledged : List ℕ
interface_acknowledged = 0x08 ∷ 0x02 ∷ 0x80 ∷ 0x00 ∷ 0x4E ∷ 0x79 ∷ 0x01 ∷ 0x86 ∷ []

abbrev pub channel_1_acknowledged : List ℕ
channel_1_acknowledged = 0x08 ∷ 0x02 ∷ 0x80 ∷ 0x00 ∷ 0x4E ∷ 0x18 ∷ 0x03 ∷ 0xA9 ∷ 0x83 ∷ 0x81 ∷ 0x79 ∷ 0x01 ∷ 0x80 ∷ []

abbrev pub channel_2_acknowledged : List ℕ
channel_2_acknowledged = 0x08 ∷ 0x02 ∷ 0x80 ∷ 0x00 ∷ 0x4E ∷ 0x18 ∷ 0x03 ∷ 0xA9 ∷ 0x83 ∷ 0x82 ∷ 0x79 ∷ 0x01 ∷ 0x80 ∷ []
