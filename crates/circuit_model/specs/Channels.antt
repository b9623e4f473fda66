-- Bearer channels of a primary rate line. Source: ITU-T Q.931 (05/98), section 4.5.13 numbers a channel by its time
-- slot; ITU-T G.704, section 2.3, gives slots 0 and 16 to framing and signalling.
use Rattle.std.specs.Prelude.{ℕ, ◌+◌, ◌-◌, ◌&&◌, Bool, nat_le, nat_lt, Option, Some, None, if◌then◌else◌}

-- the number lies between two others, both included
abbrev pub between : ℕ → ℕ → ℕ → Bool
between low high n = nat_le low n && nat_le n high

-- the place of the channel in time slot n: slots 1 to 15 are places 0 to 14, slots 17 to 31 are places 15 to 29
abbrev pub place_of : ℕ → Option ℕ
place_of n = if between 1 15 n then Some (n - 1) else if between 17 31 n then Some (n - 2) else None

-- the time slot of the channel at a place
abbrev pub channel_at : ℕ → ℕ
channel_at place = if nat_lt place 15 then place + 1 else place + 2
