-- An input that is followed in pieces. Source: this project.
use Rattle.std.specs.Prelude.{⊤, ℕ, List, [], Option, Some}
use Rattle.std.specs.Io.KnownBytes.{IsAtEnd}
use Rattle.frame_engine.specs.declared.carrier.Carrier.{Ghosts as CarrierKind}
use Rattle.meters.specs.declared.meter.Meter.{Ghosts as MeterKind}
use Rattle.line_wire.specs.Passing.{HasPassed}
use Rattle.line_wire.specs.declared.following.Following.{Following}
use Rattle.line_wire.specs.declared.following.Following.TheVariants as followed
use Rattle.exchange_follow.specs.Following.{FollowsTo, follow_parties}

-- no read, no write and no allocation failed
abbrev pub NoneFailed : Following → Type 0
NoneFailed followed.Completed = ⊤
NoneFailed followed.Refused = ⊤
NoneFailed followed.ReadFailed = ⊥
NoneFailed followed.WriteFailed = ⊥
NoneFailed followed.OutOfMemory = ⊥

-- the start of a call: the number of internal slots of the fabric, the maximum number of live paths that a new path
-- moves, the active and the spare meters, and the octets of the source
pub record StartedCall (M : Type 0) : Type 0 where
  pub slots : ℕ
  pub moves : ℕ → ℕ
  pub on : List M
  pub spare : List M
  pub bytes : List ℕ

-- the end of a call: its ending, the engine that it returned, the active and the spare meters, the octets that the
-- source has left, and the octets of the sink
pub record EndedCall (M E : Type 0) : Type 0 where
  pub ending : Following
  pub engine : Option E
  pub on : List M
  pub spare : List M
  pub left : List ℕ
  pub said : List ℕ

-- a call from a start with an empty sink has this end, and nothing failed
abbrev pub HasFollowedBytes : {M E : Type 0} → CarrierKind E → MeterKind M → StartedCall M → EndedCall M E → Type 0
HasFollowedBytes c m s e =
    NoneFailed e.ending
    × FollowsTo
    (follow_parties c.plays s.slots s.moves c.sizes c.carries e.engine m.stands m.text s.on s.spare e.on e.spare)
    (HasPassed (Some s.bytes) (Some e.left) (Some []) (Some e.said)) (IsAtEnd (Some e.left)) e.ending

-- two calls from one start, which may read its octets in different pieces, have these ends
abbrev pub HaveFollowed : {M E : Type 0} → CarrierKind E → MeterKind M → StartedCall M → EndedCall M E → EndedCall M E → Type 0
HaveFollowed c m start first second = HasFollowedBytes c m start first × HasFollowedBytes c m start second
