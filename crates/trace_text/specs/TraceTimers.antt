-- The timers of a trace. Source: this project; their names are from ITU-T Q.931 (05/98), 9.1, table 9-1.
use Rattle.std.specs.Prelude.{ℕ, ◌==◌, List, codes, Option, Some, None, unwrap_or, if◌then◌else◌}
use Rattle.std.specs.Str.{bytes_eq}
use Rattle.call_timers.specs.declared.timers.Timers.{Timers}
use Rattle.call_timers.specs.Expiries.{usual}
use Rattle.trace_text.specs.declared.timing.GivenTimer.{GivenTimer}
use Rattle.trace_text.specs.declared.timing.GivenTimers.{GivenTimers}
use Rattle.trace_text.specs.declared.timing.TimerName.{TimerName}
use Rattle.trace_text.specs.declared.timing.TimerName.TheVariants.{T301, T302, T303, T305, T308, T309, T310}

-- the timer with this name
abbrev pub timer_named : List ℕ → Option TimerName
timer_named word =
    if bytes_eq word (codes "T301") then Some T301
    else if bytes_eq word (codes "T302") then Some T302
    else if bytes_eq word (codes "T303") then Some T303
    else if bytes_eq word (codes "T305") then Some T305
    else if bytes_eq word (codes "T308") then Some T308
    else if bytes_eq word (codes "T309") then Some T309
    else if bytes_eq word (codes "T310") then Some T310
    else None

-- the number of frames of a timer, at least 1
abbrev pub if_some_frames : ℕ → Option ℕ
if_some_frames frames = if frames == 0 then None else Some frames

-- the timers without a line
abbrev pub no_timers : GivenTimers
no_timers = record { t301 = None; t302 = None; t303 = None; t305 = None; t308 = None; t309 = None; t310 = None }

-- the number of frames of a timer, if a line sets it
abbrev pub frames_given : GivenTimers → TimerName → Option ℕ
frames_given given T301 = given.t301
frames_given given T302 = given.t302
frames_given given T303 = given.t303
frames_given given T305 = given.t305
frames_given given T308 = given.t308
frames_given given T309 = given.t309
frames_given given T310 = given.t310

-- the timers after one more line
abbrev pub with_frames : GivenTimers → TimerName → ℕ → GivenTimers
with_frames given T301 frames = record given { t301 = Some frames }
with_frames given T302 frames = record given { t302 = Some frames }
with_frames given T303 frames = record given { t303 = Some frames }
with_frames given T305 frames = record given { t305 = Some frames }
with_frames given T308 frames = record given { t308 = Some frames }
with_frames given T309 frames = record given { t309 = Some frames }
with_frames given T310 frames = record given { t310 = Some frames }

abbrev pub with_timer : GivenTimers → GivenTimer → GivenTimers
with_timer given one = with_frames given one.name one.frames

-- the timers of a trace: a timer without a line has its usual value
abbrev pub timers_by : GivenTimers → Timers
timers_by given = record {
  t301 = unwrap_or given.t301 usual.t301;
  t302 = unwrap_or given.t302 usual.t302;
  t303 = unwrap_or given.t303 usual.t303;
  t305 = unwrap_or given.t305 usual.t305;
  t308 = unwrap_or given.t308 usual.t308;
  t309 = unwrap_or given.t309 usual.t309;
  t310 = unwrap_or given.t310 usual.t310;
}
