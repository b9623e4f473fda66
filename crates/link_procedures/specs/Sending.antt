-- The frames that a data link sends (ITU-T Q.921 (09/97), 5.6 and figure B.7).
use Rattle.std.specs.Prelude.{ℕ, zero, suc, ◌+◌, ◌&&◌, not, Bool, true, false, [], ◌∷◌, ◌++◌, slice_index_or, if◌then◌else◌}
use Rattle.link_frames.specs.declared.frame.Sender.TheVariants.{Network}
use Rattle.link_frames.specs.declared.frame.Supervisory.TheVariants.{Rr, Rej}
use Rattle.link_frames.specs.declared.frame.Control.{Control}
use Rattle.link_frames.specs.declared.frame.Control.TheVariants as control
use Rattle.link_frames.specs.declared.frame.Frame.{Frame}
use Rattle.link_frames.specs.Writing.{encoding}
use Rattle.link_procedures.specs.declared.state.Timer.{Timer}
use Rattle.link_procedures.specs.declared.state.Running.TheVariants.{T200, T203}
use Rattle.link_procedures.specs.Links.{SendQueue, DataLink, Step, step, next_number, may_send, is_established, is_multiple_frame, t200}

abbrev pub command : Control → Frame
command c = record { command = true; control = c }

abbrev pub response : Control → Frame
response c = record { command = false; control = c }

-- the frame of this exchange is sent
abbrev pub sends : Frame → Step → Step
sends f s = record { link = s.link; out = s.out ++ encoding Network f ∷ [] }

abbrev pub acknowledging : DataLink → DataLink
acknowledging l = record l { pending = false }

-- RR: N(R) is V(R)
abbrev pub receive_ready : Bool → DataLink → Control
receive_ready pf l = control.Supervisory Rr pf l.received

-- RR as a response; with F 1 it is the enquiry response (5.6.3.1)
unfoldable pub acknowledges : Bool → Step → Step
acknowledges final s = step (acknowledging s.link) (sends (response (receive_ready final s.link)) s).out

-- RR as a command with P 1 (5.6.7)
unfoldable pub enquires : Step → Step
enquires s = step (acknowledging s.link) (sends (command (receive_ready true s.link)) s).out

-- REJ as a response (5.8.1)
unfoldable pub rejects : Bool → Step → Step
rejects final s = step (record (acknowledging s.link) { rejecting = true }) (sends (response (control.Supervisory Rej final s.link.received)) s).out

-- ---- I frames

abbrev pub next_frame : DataLink → Frame
next_frame l = command (control.Information false (next_number l.queue) l.received (slice_index_or l.queue.waiting l.queue.sent []))

unfoldable pub one_more_sent : SendQueue → SendQueue
one_more_sent q = record { waiting = q.waiting; sent = q.sent + 1; acknowledged = q.acknowledged }

-- T200 starts unless it runs
unfoldable pub supervised : ℕ → Timer → Timer
supervised at timer = elim timer.running as (λ _. Timer) [ T200 ↦ timer | T203 ↦ t200 at ]

abbrev pub after_frame : ℕ → DataLink → DataLink
after_frame at l = record l { queue = one_more_sent l.queue; pending = false; timer = supervised at l.timer }

-- an I frame may be sent: in state 7, unless the peer is busy or the window is shut
unfoldable pub is_free : DataLink → Bool
is_free l = is_established l.state && not l.busy && may_send l.queue

-- the next I frame is sent if one may be (5.6.1)
unfoldable pub sends_next : ℕ → Step → Step
sends_next at s = if is_free s.link then step (after_frame at s.link) (sends (next_frame s.link) s).out else s

-- at most n I frames
abbrev pub sends_waiting : ℕ → ℕ → Step → Step
sends_waiting zero at s = s
sends_waiting (suc n) at s = sends_waiting n at (sends_next at s)

-- all I frames that the window permits
unfoldable pub flushes : ℕ → Step → Step
flushes at s = sends_waiting 7 at s

-- ---- the end of a step

-- a received I frame is acknowledged by RR, unless an I frame carried the acknowledgement (5.6.2.2)
unfoldable pub acknowledges_pending : Step → Step
acknowledges_pending s =
    if s.link.pending && is_multiple_frame s.link.state then acknowledges false s
    else step (acknowledging s.link) s.out

unfoldable pub finished : ℕ → Step → Step
finished at s = acknowledges_pending (flushes at s)
