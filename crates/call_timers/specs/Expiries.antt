-- The timers of calls at the network side of an interface: the timer of each state, and the act of its expiry (ITU-T
-- Q.931 (05/98), 9.1, table 9-1). Time is counted in frames. A second expiry of T303 and T308 ends the leg. T309 runs in
-- active only while the data link of the leg's line is down (5.8.9).
use Rattle.std.specs.Prelude.{ℕ, ◌+◌, ◌==◌, nat_le, Bool, Option, Some, None, option_and_then, if◌then◌else◌}
use Rattle.q931_codec.specs.CallStates.{overlap_sending, call_present, incoming_call_proceeding, call_received, active, disconnect_indication, release_request}
use Rattle.call_timers.specs.declared.expiry.Expiry.{Expiry}
use Rattle.call_timers.specs.declared.expiry.Expiry.TheVariants as expiry
use Rattle.call_timers.specs.declared.timers.Timers.{Timers}

-- the act of the expiry of a state's timer, if the state has one; in two states it depends on whether the message was
-- already retransmitted, and in active T309 runs if the same flag is set
abbrev pub expiry_in : ℕ → Bool → Option Expiry
expiry_in state resent =
    if state == overlap_sending then Some expiry.Digits
    else if state == call_present then Some (if resent then expiry.SetupOver else expiry.SetupAgain)
    else if state == incoming_call_proceeding then Some expiry.Proceeding
    else if state == call_received then Some expiry.Alerting
    else if state == active then (if resent then Some expiry.Outage else None)
    else if state == disconnect_indication then Some expiry.Disconnect
    else if state == release_request then Some (if resent then expiry.ReleaseOver else expiry.ReleaseAgain)
    else None

-- the number of frames that its timer runs
abbrev pub frames_to : Timers → Expiry → ℕ
frames_to timers expiry.Digits = timers.t302
frames_to timers expiry.SetupAgain = timers.t303
frames_to timers expiry.SetupOver = timers.t303
frames_to timers expiry.Proceeding = timers.t310
frames_to timers expiry.Alerting = timers.t301
frames_to timers expiry.Outage = timers.t309
frames_to timers expiry.Disconnect = timers.t305
frames_to timers expiry.ReleaseAgain = timers.t308
frames_to timers expiry.ReleaseOver = timers.t308

-- the expiry, if its timer has expired in one frame after running since another
abbrev pub if_run_out : Timers → ℕ → ℕ → Expiry → Option Expiry
if_run_out timers since frame e = if nat_le (since + frames_to timers e) frame then Some e else None

-- the expiry that is due in a frame at a leg that has waited in its state since another frame
abbrev pub due : ℕ → Bool → ℕ → ℕ → Timers → Option Expiry
due state resent since frame timers = option_and_then (if_run_out timers since frame) (expiry_in state resent)

-- the usual timers: T301 180 seconds, T302 15, T303 4, T305 30, T308 4, T309 6 and T310 10, in frames of 125
-- microseconds
abbrev pub usual : Timers
usual = record { t301 = 1440000; t302 = 120000; t303 = 32000; t305 = 240000; t308 = 32000; t309 = 48000; t310 = 80000 }
