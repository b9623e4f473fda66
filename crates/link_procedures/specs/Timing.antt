-- The expiry of T200 and T203 (ITU-T Q.921 (09/97), 5.5.1, 5.6.7, 5.8.3 and 5.10, figures B.4, B.5, B.7 and B.8).
use Rattle.std.specs.Prelude.{ℕ, ◌+◌, ◌==◌, nat_le, Bool, true, false, if◌then◌else◌}
use Rattle.link_frames.specs.declared.frame.Control.TheVariants as control
use Rattle.link_procedures.specs.declared.state.State.{State}
use Rattle.link_procedures.specs.declared.state.State.TheVariants as state
use Rattle.link_procedures.specs.declared.state.Running.{Running}
use Rattle.link_procedures.specs.declared.state.Running.TheVariants.{T200, T203}
use Rattle.link_procedures.specs.declared.state.Timer.{Timer}
use Rattle.link_procedures.specs.declared.state.LinkTimers.{LinkTimers}
use Rattle.link_procedures.specs.declared.state.Indication.TheVariants as indication
use Rattle.link_procedures.specs.Links.{DataLink, Step, step, t200}
use Rattle.link_procedures.specs.Sending.{command, sends, enquires}
use Rattle.link_procedures.specs.Establishment.{Outcome, quietly, indicating, establishes, releases}

-- N200: the maximum number of retransmissions (5.9.2)
abbrev pub max_retries : ℕ
max_retries = 3

abbrev pub frames_to : LinkTimers → Running → ℕ
frames_to timers T200 = timers.t200
frames_to timers T203 = timers.t203

unfoldable pub is_due : LinkTimers → ℕ → Timer → Bool
is_due timers at timer = nat_le (timer.since + frames_to timers timer.running) at

-- SABME is retransmitted (5.5.1.3)
abbrev pub calling_again : ℕ → DataLink → DataLink
calling_again at l = record l { retries = l.retries + 1; timer = t200 at }

abbrev pub calls_again : ℕ → Step → Step
calls_again at s = step (calling_again at s.link) (sends (command (control.Sabme true)) s).out

-- an enquiry, by RR with P 1 (5.6.7)
abbrev pub enquiring : ℕ → ℕ → DataLink → DataLink
enquiring retries at l = record l { state = state.TimerRecovery; retries = retries; timer = t200 at }

unfoldable pub enquires_at : ℕ → ℕ → Step → Step
enquires_at retries at s = step (enquiring retries at (enquires s).link) (enquires s).out

-- the retransmission counter after an expiry in state 7: T200 counts as the first retransmission, T203 does not (5.10)
abbrev pub first_retries : Running → ℕ
first_retries T200 = 1
first_retries T203 = 0

-- SABME is retransmitted, or the link is released after N200 retransmissions
unfoldable pub calls_or_releases : ℕ → Step → Outcome
calls_or_releases at s = if s.link.retries == max_retries then releases at s else quietly (calls_again at s)

unfoldable pub on_expiry : State → ℕ → Step → Outcome
on_expiry state.TeiAssigned at s = quietly (establishes true at s)
on_expiry state.AwaitingEstablishment at s = calls_or_releases at s
on_expiry state.MultipleFrameEstablished at s = quietly (enquires_at (first_retries s.link.timer.running) at s)
on_expiry state.TimerRecovery at s =
    if s.link.retries == max_retries then quietly (establishes false at s)
    else quietly (enquires_at (s.link.retries + 1) at s)

-- layer 3 is informed of a loss; the timer waits for the next turn
abbrev pub settled : DataLink → DataLink
settled l = record l { owed = false }

unfoldable pub turned : LinkTimers → ℕ → Step → Outcome
turned timers at s =
    if s.link.owed then indicating indication.Released (step (settled s.link) s.out)
    else if is_due timers at s.link.timer then on_expiry s.link.state at s
    else quietly s
