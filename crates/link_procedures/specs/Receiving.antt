-- The frames that a data link receives, by its state (ITU-T Q.921 (09/97), 5.5 to 5.8, figures B.4, B.5, B.7 and B.8).
use Rattle.std.specs.Prelude.{ℕ, ◌+◌, ◌%◌, ◌&&◌, ◌||◌, ◌==◌, not, Bool, true, false, Option, Some, None, if◌then◌else◌}
use Rattle.link_frames.specs.declared.frame.Supervisory.{Supervisory}
use Rattle.link_frames.specs.declared.frame.Supervisory.TheVariants.{Rr, Rnr, Rej}
use Rattle.link_frames.specs.declared.frame.Control.{Control}
use Rattle.link_frames.specs.declared.frame.Control.TheVariants as control
use Rattle.link_frames.specs.declared.frame.Frame.{Frame}
use Rattle.link_procedures.specs.declared.state.State.{State}
use Rattle.link_procedures.specs.declared.state.State.TheVariants as state
use Rattle.link_procedures.specs.declared.state.Indication.{Indication}
use Rattle.link_procedures.specs.declared.state.Indication.TheVariants as indication
use Rattle.link_procedures.specs.Links.{DataLink, Step, step, is_valid, acknowledged, returned, is_established, is_recovering, is_multiple_frame, is_awaiting, t200, t203}
use Rattle.link_procedures.specs.Sending.{response, sends, acknowledges, rejects}
use Rattle.link_procedures.specs.Establishment.{Outcome, quietly, establishes, begins, is_uncertain, releases, releases_first}

-- ---- SABME, DISC, UA and DM (5.5, 5.7)

abbrev pub answers : Control → Step → Step
answers c s = sends (response c) s

unfoldable pub on_sabme : State → Bool → ℕ → Step → Outcome
on_sabme state.TeiAssigned poll at s = begins true at (answers (control.Ua poll) s)
on_sabme state.AwaitingEstablishment poll at s = quietly (answers (control.Ua poll) s)
on_sabme state.MultipleFrameEstablished poll at s = begins (is_uncertain s.link.queue) at (answers (control.Ua poll) s)
on_sabme state.TimerRecovery poll at s = begins (is_uncertain s.link.queue) at (answers (control.Ua poll) s)

unfoldable pub on_disc : State → Bool → ℕ → Step → Outcome
on_disc state.TeiAssigned poll at s = quietly (answers (control.Dm poll) s)
on_disc state.AwaitingEstablishment poll at s = quietly (answers (control.Dm poll) s)
on_disc state.MultipleFrameEstablished poll at s = releases at (answers (control.Ua poll) s)
on_disc state.TimerRecovery poll at s = releases at (answers (control.Ua poll) s)

-- UA is solicited in state 5, with F 1 (5.8.7)
abbrev pub is_solicited : Bool → DataLink → Bool
is_solicited final l = is_awaiting l.state && final

abbrev pub is_new : DataLink → Bool
is_new l = l.asked || is_uncertain l.queue

-- the link is established, unless layer 3 has to be informed of a loss first
unfoldable pub on_solicited : ℕ → Step → Outcome
on_solicited at s = if s.link.owed then releases_first at s else begins (is_new s.link) at s

unfoldable pub on_ua : Bool → ℕ → Step → Outcome
on_ua final at s = if is_solicited final s.link then on_solicited at s else quietly s

-- an unsolicited DM with F 0 in state 4 starts the establishment (5.5.4, figure B.4)
unfoldable pub on_dm : State → Bool → ℕ → Step → Outcome
on_dm state.TeiAssigned false at s = quietly (establishes true at s)
on_dm state.AwaitingEstablishment true at s = releases at s
on_dm state.MultipleFrameEstablished false at s = quietly (establishes false at s)
on_dm state.TimerRecovery final at s = quietly (establishes false at s)
on_dm _ final at s = quietly s

-- the frame rejection condition, and FRMR (5.8.5, 5.8.6): the link is re-established
unfoldable pub on_rejection : State → ℕ → Step → Step
on_rejection state.MultipleFrameEstablished at s = establishes false at s
on_rejection state.TimerRecovery at s = establishes false at s
on_rejection _ at s = s

-- ---- RR, RNR and REJ

-- if all is acknowledged, T203 starts; otherwise, if V(A) has moved, T200 restarts (5.6.3.2)
unfoldable pub retimed : Bool → ℕ → DataLink → DataLink
retimed moved at l =
    if l.queue.sent == 0 then record l { timer = t203 at }
    else if moved then record l { timer = t200 at }
    else l

abbrev pub acknowledge : ℕ → DataLink → DataLink
acknowledge nr l = record l { queue = acknowledged l.queue nr }

abbrev pub has_moved : ℕ → DataLink → Bool
has_moved nr l = not (l.queue.acknowledged == nr)

-- in state 7 (5.6.3 to 5.6.5)
unfoldable pub supervised_by : Supervisory → ℕ → ℕ → DataLink → DataLink
supervised_by Rr nr at l = retimed (has_moved nr l) at (acknowledge nr l)
supervised_by Rnr nr at l = record (acknowledge nr l) { timer = t200 at }
supervised_by Rej nr at l = record l { queue = returned (acknowledged l.queue nr); timer = t203 at }

-- the response to the enquiry ends the timer recovery (5.8.3)
abbrev pub recovered : ℕ → ℕ → DataLink → DataLink
recovered nr at l = record l {
  state = state.MultipleFrameEstablished;
  queue = returned (acknowledged l.queue nr);
  timer = if l.busy then t200 at else t203 at;
}

-- in state 8
unfoldable pub recovering_by : Bool → ℕ → ℕ → DataLink → DataLink
recovering_by is_answer nr at l = if is_answer then recovered nr at l else acknowledge nr l

unfoldable pub is_not_ready : Supervisory → Bool
is_not_ready Rr = false
is_not_ready Rnr = true
is_not_ready Rej = false

abbrev pub busy_by : Supervisory → DataLink → DataLink
busy_by kind l = record l { busy = is_not_ready kind }

abbrev pub supervisory_applied : Bool → Supervisory → Bool → ℕ → ℕ → DataLink → DataLink
supervisory_applied command kind pf nr at l =
    if is_recovering l.state then recovering_by (not command && pf) nr at l
    else supervised_by kind nr at l

-- N(R) outside the window is a sequence error: the link is re-established (5.8.2)
unfoldable pub on_valid : Bool → Supervisory → Bool → ℕ → ℕ → Step → Step
on_valid command kind pf nr at s =
    if is_valid s.link.queue nr then step (supervisory_applied command kind pf nr at s.link) s.out
    else establishes false at s

-- an enquiry has an RR response
unfoldable pub answers_enquiry : Bool → Step → Step
answers_enquiry is_enquiry s = if is_enquiry then acknowledges true s else s

unfoldable pub on_supervisory : Bool → Supervisory → Bool → ℕ → ℕ → Step → Step
on_supervisory command kind pf nr at s =
    if is_multiple_frame s.link.state
    then on_valid command kind pf nr at (answers_enquiry (command && pf) (step (busy_by kind s.link) s.out))
    else s

-- ---- I frames (5.6.2, 5.8.1)

abbrev pub in_sequence : DataLink → DataLink
in_sequence l = record l { received = (l.received + 1) % 128; rejecting = false }

-- the acknowledgement waits for an I frame, or for the end of the step
abbrev pub acknowledges_later : Bool → Step → Step
acknowledges_later poll s = if poll then acknowledges true s else step (record s.link { pending = true }) s.out

abbrev pub out_of_sequence : Bool → Step → Step
out_of_sequence poll s = if s.link.rejecting then answers_enquiry poll s else rejects poll s

unfoldable pub by_number : Bool → ℕ → Step → Step
by_number poll ns s =
    if ns == s.link.received then acknowledges_later poll (step (in_sequence s.link) s.out)
    else out_of_sequence poll s

-- N(R) of an I frame: timers change in state 7 only
abbrev pub numbered_by : ℕ → ℕ → DataLink → DataLink
numbered_by nr at l =
    if is_established l.state && not l.busy then retimed (has_moved nr l) at (acknowledge nr l)
    else acknowledge nr l

unfoldable pub by_acknowledgement : ℕ → ℕ → Step → Step
by_acknowledgement nr at s =
    if is_valid s.link.queue nr then step (numbered_by nr at s.link) s.out
    else establishes false at s

-- the message is taken if N(S) is V(R), also if N(R) is not valid
abbrev pub taken : Bool → Option Indication
taken is_next = if is_next then Some indication.Data else None

unfoldable pub on_information : Bool → ℕ → ℕ → ℕ → Step → Outcome
on_information poll ns nr at s =
    if is_multiple_frame s.link.state then record {
      link = (by_acknowledgement nr at (by_number poll ns s)).link;
      out = (by_acknowledgement nr at (by_number poll ns s)).out;
      indication = taken (ns == s.link.received);
    } else quietly s

-- ---- the table

unfoldable pub on_control : Bool → Control → ℕ → Step → Outcome
on_control command (control.Sabme poll) at s = on_sabme s.link.state poll at s
on_control command (control.Disc poll) at s = on_disc s.link.state poll at s
on_control command (control.Ua final) at s = on_ua final at s
on_control command (control.Dm final) at s = on_dm s.link.state final at s
on_control command control.Frmr at s = quietly (on_rejection s.link.state at s)
on_control command control.Invalid at s = quietly (on_rejection s.link.state at s)
on_control command control.Ui at s = quietly s
on_control command control.Xid at s = quietly s
on_control command (control.Supervisory kind pf nr) at s = quietly (on_supervisory command kind pf nr at s)
on_control command (control.Information poll ns nr information) at s = on_information poll ns nr at s

abbrev pub received : Frame → ℕ → Step → Outcome
received f at s = on_control f.command f.control at s
