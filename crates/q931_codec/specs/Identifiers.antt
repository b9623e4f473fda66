-- The identifiers of the information elements that this exchange knows (ITU-T Q.931 (05/98), table 4-3).
use Rattle.std.specs.Prelude.{ℕ}

-- 4.5.5
abbrev pub bearer_capability : ℕ
bearer_capability = 0x04

-- 4.5.12
abbrev pub cause : ℕ
cause = 0x08

-- 4.5.7
abbrev pub call_state : ℕ
call_state = 0x14

-- 4.5.13
abbrev pub channel_identification : ℕ
channel_identification = 0x18

-- 4.5.23
abbrev pub progress_indicator : ℕ
progress_indicator = 0x1E

-- 4.5.10
abbrev pub calling_party_number : ℕ
calling_party_number = 0x6C

-- 4.5.8
abbrev pub called_party_number : ℕ
called_party_number = 0x70

-- 4.5.25
abbrev pub restart_indicator : ℕ
restart_indicator = 0x79

-- 4.5.19
abbrev pub low_layer_compatibility : ℕ
low_layer_compatibility = 0x7C

-- 4.5.17
abbrev pub high_layer_compatibility : ℕ
high_layer_compatibility = 0x7D

-- 4.5.27, a single octet information element
abbrev pub sending_complete : ℕ
sending_complete = 0xA1
