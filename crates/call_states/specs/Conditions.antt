-- The condition of a channel without a leg. Source: ITU-T Q.931 (05/98), 5.5; that RESTART is repeated at each
-- establishment of the data link until it is acknowledged is this project's profile.
use Rattle.std.specs.Prelude.{Bool, true, false}
use Rattle.call_states.specs.declared.condition.Condition.{Condition}
use Rattle.call_states.specs.declared.condition.Condition.TheVariants.{Unconfirmed, Owed}

-- its user is owed a RESTART
abbrev pub is_owing : Condition → Bool
is_owing Owed = true
is_owing _ = false

-- its user has not confirmed that it is idle, and can be offered a call on it
abbrev pub is_open : Condition → Bool
is_open Unconfirmed = true
is_open _ = false

-- the condition of a channel whose user has not replied about it, by whether the data link of the line is down
abbrev pub unanswered : Bool → Condition
unanswered true = Owed
unanswered false = Unconfirmed
