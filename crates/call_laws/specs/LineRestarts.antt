-- What the restart of a line by the exchange leaves: of the channels of the line, and of the calls to other lines. Source:
-- ITU-T Q.931 (05/98), 5.5.1; the clearing of the calls is this project's profile.
use Rattle.std.specs.Prelude.{◌≡◌, ◌≢◌, ◌==◌, ℕ, false, Contains, None, Some, if◌then◌else◌}
use Rattle.circuit_model.specs.declared.channel.Slot.{Slot}
use Rattle.circuit_model.specs.Extent.{IsExternal}
use Rattle.q931_codec.specs.Causes.{temporary_failure}
use Rattle.q931_codec.specs.Outgoing.{encoding}
use Rattle.call_states.specs.declared.leg.HeldLeg.{HeldLeg}
use Rattle.call_states.specs.declared.leg.Leg.{Leg}
use Rattle.call_states.specs.declared.leg.Peer.{Peer}
use Rattle.call_states.specs.declared.leg.Peer.TheVariants as peer
use Rattle.clearing_rules.specs.Restarting.{restart_of}
use Rattle.exchange_events.specs.declared.record.CallRecord.{CallRecord}
use Rattle.exchange_events.specs.declared.signal.Signal.{Signal}
use Rattle.exchange_events.specs.declared.trace.Event.TheVariants.{RestartLine}
use Rattle.exchange_events.specs.Sizes.{Setting}
use Rattle.tone_rules.specs.declared.tones.Tones.{Tones}
use Rattle.call_profile.specs.Acts.{disconnect, in_disconnect_indication, tone_of, with_progress}
use Rattle.call_profile.specs.CallRecords.{record_of}
use Rattle.call_profile.specs.Legs.{is_down, leg_at}
use Rattle.call_profile.specs.LinkChanges.{outcome_of_line_restart, whole_line}
use Rattle.call_profile.specs.Operations.{begun}
use Rattle.call_laws.specs.Recorded.{HasEnded}
use Rattle.call_profile.specs.Step.{next}
use Rattle.call_profile.specs.World.{World}

-- RESTART of the whole interface to the user of a line
abbrev pub interface_restart : ℕ → Signal
interface_restart line = record { line = line; octets = encoding (restart_of whole_line) }

-- no leg holds a channel of the line
abbrev pub IsLineEmpty : ℕ → ℕ → World → Type 0
IsLineEmpty external line afterwards = (x : Slot) → IsExternal external x → x.line ≡ line → leg_at afterwards.legs x ≡ None

-- a leg of another line: if the other leg of its call was on the line, it is cleared with cause 41, temporary failure
abbrev pub left_by_restart : ℕ → World → Leg → Peer → Leg
left_by_restart line w leg peer.Alone = leg
left_by_restart line w leg (peer.Leg y) = if y.line == line then begun w (in_disconnect_indication temporary_failure leg) else leg
left_by_restart line w leg (peer.Room room) = leg

-- each leg of another line is the one that the restart leaves
abbrev pub OtherLinesAreCleared : ℕ → ℕ → World → World → Type 0
OtherLinesAreCleared external line before afterwards =
    (x : Slot) (leg : Leg) → IsExternal external x → x.line ≢ line → leg_at before.legs x ≡ Some leg
    → leg_at afterwards.legs x ≡ Some (left_by_restart line before leg leg.peer)

-- RESTART is sent, unless the data link of the line is down
abbrev pub IsRequestSent : Setting → World → ℕ → Type 0
IsRequestSent s before line =
    is_down before.legs line ≡ false
    → Contains (outcome_of_line_restart s.dimensions s.tones line before).making.sends (interface_restart line)

-- the user of the line is sent nothing else, and nothing at all while the data link is down
abbrev pub IsSentNothingElse : Setting → World → ℕ → Type 0
IsSentNothingElse s before line =
    (signal : Signal) → Contains (outcome_of_line_restart s.dimensions s.tones line before).making.sends signal → signal.line ≡ line
    → (signal ≡ interface_restart line) × (is_down before.legs line ≡ false)

-- a user on another line, if the other leg of its call was on the line, is sent DISCONNECT with cause 41
abbrev pub restart_signal : Tones → Slot → Leg → Signal
restart_signal tones x leg =
    let tone = tone_of tones (in_disconnect_indication temporary_failure leg) in
    record { line = x.line; octets = encoding (with_progress tone (disconnect leg temporary_failure)) }

abbrev pub PeersAreDisconnected : Setting → World → ℕ → Type 0
PeersAreDisconnected s before line =
    (x : Slot) (leg : Leg) (y : Slot) → IsExternal s.dimensions.external x → x.line ≢ line → leg_at before.legs x ≡ Some leg
    → leg.peer ≡ peer.Leg y → y.line ≡ line
    → Contains (outcome_of_line_restart s.dimensions s.tones line before).making.sends (restart_signal s.tones x leg)

-- ---- the calls that end

-- a call ended by the restart of a line, with cause 41, and this is its record
pub record IsLineRecord (s : Setting) (w : World) (line : ℕ) (h : HeldLeg) (told : CallRecord) : Type 0 where
  pub ended : HasEnded s.dimensions.external w (next s w (RestartLine line)) h
  pub is : record_of w temporary_failure h ≡ Some told

-- the restart has the record of a call
abbrev pub IsInLineRestart : Setting → World → ℕ → HeldLeg → Type 0
IsInLineRestart s w line h = (told : CallRecord) × IsLineRecord s w line h told × Contains (outcome_of_line_restart s.dimensions s.tones line w).recorded told
