-- The fields of a frame of a data link with SAPI 0, TEI 0 and modulo 128 (ITU-T Q.921 (09/97), 3.2 to 3.6).
use Rattle.std.specs.Prelude.{ℕ, ◌+◌, ◌*◌, ◌/◌, ◌%◌, ◌==◌, Bool, true, false}
use Rattle.link_frames.specs.declared.frame.Sender.{Sender}
use Rattle.link_frames.specs.declared.frame.Sender.TheVariants.{User, Network}
use Rattle.link_frames.specs.declared.frame.Supervisory.{Supervisory}
use Rattle.link_frames.specs.declared.frame.Supervisory.TheVariants.{Rr, Rnr, Rej}

-- ---- address field (3.2, 3.3)

-- SAPI 0, the C/R bit, EA 0: commands from the network and responses from the user have C/R 1 (3.3.2)
abbrev pub address_octet : Sender → Bool → ℕ
address_octet User true = 0x00
address_octet User false = 0x02
address_octet Network true = 0x02
address_octet Network false = 0x00

-- TEI 0, EA 1
abbrev pub tei_octet : ℕ
tei_octet = 0x01

-- ---- control field (3.4, 3.6, table 5)

-- the control octet of an S frame
abbrev pub supervisory_octet : Supervisory → ℕ
supervisory_octet Rr = 0x01
supervisory_octet Rnr = 0x05
supervisory_octet Rej = 0x09

-- the control octets of U frames, with P/F 0
abbrev pub sabme : ℕ
sabme = 0x6F

abbrev pub disc : ℕ
disc = 0x43

abbrev pub ua : ℕ
ua = 0x63

abbrev pub dm : ℕ
dm = 0x0F

abbrev pub frmr : ℕ
frmr = 0x87

abbrev pub ui : ℕ
ui = 0x03

abbrev pub xid : ℕ
xid = 0xAF

-- the control octet of a U frame without its P/F bit, and that bit
abbrev pub modifier : ℕ → ℕ
modifier octet = octet / 32 * 32 + octet % 16

abbrev pub poll_final : ℕ → Bool
poll_final octet = octet / 16 % 2 == 1

-- the last octet of the control field of an I or S frame: N(R), and P or P/F
abbrev pub receive_number : ℕ → ℕ
receive_number octet = octet / 2

abbrev pub last_bit : ℕ → Bool
last_bit octet = octet % 2 == 1

abbrev pub bit : Bool → ℕ
bit true = 1
bit false = 0

-- N201: the maximum number of octets in an information field (5.9.3)
abbrev pub max_information_len : ℕ
max_information_len = 260
