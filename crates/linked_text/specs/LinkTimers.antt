-- The timers of the data links of a trace. Source: this project; their names and usual values are from ITU-T Q.921 (09/97), 5.9.
use Rattle.std.specs.Prelude.{ℕ, List, codes, Option, Some, None, unwrap_or, if◌then◌else◌}
use Rattle.std.specs.Str.{bytes_eq}
use Rattle.link_procedures.specs.declared.state.LinkTimers.{LinkTimers}
use Rattle.linked_text.specs.declared.timing.GivenLinkTimer.{GivenLinkTimer}
use Rattle.linked_text.specs.declared.timing.GivenLinkTimers.{GivenLinkTimers}
use Rattle.linked_text.specs.declared.timing.LinkTimerName.{LinkTimerName}
use Rattle.linked_text.specs.declared.timing.LinkTimerName.TheVariants.{T200, T203}

-- the timer with this name
abbrev pub link_timer_named : List ℕ → Option LinkTimerName
link_timer_named word =
    if bytes_eq word (codes "T200") then Some T200
    else if bytes_eq word (codes "T203") then Some T203
    else None

-- the timers without a line
abbrev pub no_link_timers : GivenLinkTimers
no_link_timers = record { t200 = None; t203 = None }

-- the number of frames of a timer, if a line sets it
abbrev pub link_frames_given : GivenLinkTimers → LinkTimerName → Option ℕ
link_frames_given given T200 = given.t200
link_frames_given given T203 = given.t203

-- the timers after one more line
abbrev pub with_link_frames : GivenLinkTimers → LinkTimerName → ℕ → GivenLinkTimers
with_link_frames given T200 frames = record given { t200 = Some frames }
with_link_frames given T203 frames = record given { t203 = Some frames }

abbrev pub with_link_timer : GivenLinkTimers → GivenLinkTimer → GivenLinkTimers
with_link_timer given one = with_link_frames given one.name one.frames

-- the timers of a trace: a timer without a line has its usual value, 1 second and 10 seconds
abbrev pub link_timers_by : GivenLinkTimers → LinkTimers
link_timers_by given = record { t200 = unwrap_or given.t200 8000; t203 = unwrap_or given.t203 80000 }
