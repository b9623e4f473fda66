-- The restart procedure: the channels that a RESTART requests, and the message that acknowledges it. Source: ITU-T
-- Q.931 (05/98), 5.5, 3.4.1 and 3.4.2, in this project's profile: a restart is of one channel or of all of the line,
-- and others are ignored.
use Rattle.std.specs.Prelude.{ℕ, ◌<◌, ◌==◌, ◌&&◌, ◌||◌, not, Bool, true, false, Option, Some, None, option_map, option_and_then, if◌then◌else◌}
use Rattle.circuit_model.specs.Channels.{place_of, channel_at}
use Rattle.q931_codec.specs.declared.contents.ChannelIdentification.{ChannelIdentification}
use Rattle.q931_codec.specs.declared.contents.ChannelIdentification.TheVariants.{Any, Preferred, Exclusive, Invalid}
use Rattle.q931_codec.specs.declared.kind.MessageKind.{MessageKind}
use Rattle.q931_codec.specs.declared.kind.MessageKind.TheVariants as kind
use Rattle.q931_codec.specs.declared.message.Message.{Message}
use Rattle.q931_codec.specs.Contents.{channel_in, restart_in}
use Rattle.q931_codec.specs.Outgoing.{OutgoingMessage, bare}
use Rattle.q931_codec.specs.RestartClasses.{indicated_channels, single_interface, all_interfaces}
use Rattle.clearing_rules.specs.declared.scope.Restart.{Restart}
use Rattle.clearing_rules.specs.declared.scope.Restart.TheVariants.{Channel, Interface}

-- the call reference that means all calls of an interface (4.3)
abbrev pub global_call_reference : ℕ
global_call_reference = 0

-- ---- the restart that is requested

-- a channel identification contains one channel, exclusive or preferred; "any channel" contains none (4.5.13)
abbrev pub channel_named : ChannelIdentification → Option ℕ
channel_named Any = None
channel_named (Preferred channel) = Some channel
channel_named (Exclusive channel) = Some channel
channel_named Invalid = None

-- the place on the line of the channel in a message
abbrev pub place_named : Message → Option ℕ
place_named m = option_and_then place_of (option_and_then channel_named (channel_in m.elements))

-- the restart of this class: of the channel in the message, or of all channels of the line (4.5.25)
abbrev pub restart_of_class : Message → ℕ → Option Restart
restart_of_class m class =
    if class == indicated_channels then option_map Channel (place_named m)
    else (if class == single_interface || class == all_interfaces then Some (Interface class) else None)

-- the restart in a message, by its restart indicator; none without one
abbrev pub restart_within : Message → Option Restart
restart_within m = option_and_then (restart_of_class m) (restart_in m.elements)

-- a RESTART has the global call reference, and comes from the side that chose it (5.5.1)
abbrev pub is_restart : MessageKind → Bool
is_restart kind.Restart = true
is_restart _ = false

abbrev pub begins_restart : Message → Bool
begins_restart m = is_restart m.kind && not m.flag && m.reference == global_call_reference

-- the restart that a message requests; none if it is not an accepted RESTART
abbrev pub restart_asked : Message → Option Restart
restart_asked m = if begins_restart m then restart_within m else None

-- a RESTART ACKNOWLEDGE has the global call reference, and goes to the side that chose it (5.5.1)
abbrev pub is_restart_acknowledge : MessageKind → Bool
is_restart_acknowledge kind.RestartAcknowledge = true
is_restart_acknowledge _ = false

abbrev pub acknowledges_restart : Message → Bool
acknowledges_restart m = is_restart_acknowledge m.kind && m.flag && m.reference == global_call_reference

-- the restart of the exchange that a message acknowledges; none if it is not a RESTART ACKNOWLEDGE of a channel or of all
abbrev pub restart_acknowledged : Message → Option Restart
restart_acknowledged m = if acknowledges_restart m then restart_within m else None

-- ---- which places are restarted

abbrev pub is_restarted : Restart → ℕ → Bool
is_restarted (Channel restarted) place = place == restarted
is_restarted (Interface class) place = true

-- the channel that is restarted has one of the 30 places of a line
abbrev pub IsOnLine : Restart → Type 0
IsOnLine (Channel place) = place < 30
IsOnLine (Interface class) = Unit {0}

-- ---- the messages of the exchange

-- the channel of a restart, if it is of one, and its restart indicator (4.5.25)
abbrev pub indicated : Restart → Option ℕ × ℕ
indicated (Channel place) = (Some (channel_at place), indicated_channels)
indicated (Interface class) = (None, class)

-- RESTART: from the side that chose the call reference (5.5.1)
abbrev pub restart_of : Restart → OutgoingMessage
restart_of r = let (channel, class) = indicated r in record (bare false global_call_reference kind.Restart) { channel = channel; restart = Some class }

-- RESTART ACKNOWLEDGE: towards the side that chose the call reference, with the restart that was requested (5.5.2)
abbrev pub acknowledgement : Restart → OutgoingMessage
acknowledgement r = let (channel, class) = indicated r in record (bare true global_call_reference kind.RestartAcknowledge) { channel = channel; restart = Some class }
