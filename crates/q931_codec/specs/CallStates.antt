-- The states of a call at the network side of an interface, by their call state values (ITU-T Q.931 (05/98), 2.1.2 and
-- 4.5.7): the states of this exchange's legs, and the null state.
use Rattle.std.specs.Prelude.{ℕ}

abbrev pub null : ℕ
null = 0

abbrev pub overlap_sending : ℕ
overlap_sending = 2

abbrev pub outgoing_call_proceeding : ℕ
outgoing_call_proceeding = 3

abbrev pub call_delivered : ℕ
call_delivered = 4

abbrev pub call_present : ℕ
call_present = 6

abbrev pub call_received : ℕ
call_received = 7

abbrev pub incoming_call_proceeding : ℕ
incoming_call_proceeding = 9

abbrev pub active : ℕ
active = 10

abbrev pub disconnect_indication : ℕ
disconnect_indication = 12

abbrev pub release_request : ℕ
release_request = 19
