-- The steps of a table of links: each is a step of the link of one line (ITU-T Q.921 (09/97), 5.5 to 5.8).
use Rattle.std.specs.Prelude.{ℕ, ◌+◌, ◌-◌, ◌%◌, List, [], ◌∷◌, ◌++◌, length, replicate, Option, Some, None}
use Rattle.std.specs.declared.result.Result.{Result}
use Rattle.std.specs.declared.result.Result.TheVariants.{Ok, Err}
use Rattle.link_frames.specs.declared.frame.Sender.TheVariants.{User}
use Rattle.link_frames.specs.declared.frame.Frame.{Frame}
use Rattle.link_frames.specs.Reading.{reading}
use Rattle.link_frames.specs.Writing.{information_in}
use Rattle.link_procedures.specs.declared.state.LinkTimers.{LinkTimers}
use Rattle.link_procedures.specs.declared.state.Indication.{Indication}
use Rattle.link_procedures.specs.declared.state.Indication.TheVariants as indication
use Rattle.link_procedures.specs.Links.{DataLink, Step, step}
use Rattle.link_procedures.specs.Sending.{finished}
use Rattle.link_procedures.specs.Establishment.{Outcome, submitted}
use Rattle.link_procedures.specs.Receiving.{received}
use Rattle.link_procedures.specs.Timing.{turned}
use Rattle.link_table.specs.declared.notice.Change.{Change}
use Rattle.link_table.specs.declared.notice.Change.TheVariants.{Up, Down}
use Rattle.link_table.specs.declared.notice.Notice.{Notice}
use Rattle.link_table.specs.declared.notice.Notice.TheVariants as notice
use Rattle.link_table.specs.declared.notice.NoLinkError.{NoLinkError}
use Rattle.link_table.specs.Tables.{Table, link_of, with_link}

-- a step begins: nothing is submitted or sent in it
abbrev pub begun : Table → Table
begun t = record t { messages = 0; lines = []; frames = [] }

-- the frames after those that have their lines are sent on this line
abbrev pub marked : ℕ → List ℕ → List (List ℕ) → List ℕ
marked line lines frames = lines ++ replicate (length frames - length lines) line

-- the link of the line and the frames are those after a step of the link; every other link is unchanged
abbrev pub stepped : ℕ → DataLink → List (List ℕ) → Table → Table
stepped line l frames t = record t { links = with_link line l t.links; lines = marked line t.lines frames; frames = frames }

abbrev pub after : ℕ → Outcome → Table → Table
after line o t = stepped line o.link o.out t

abbrev pub after_step : ℕ → Step → Table → Table
after_step line s t = stepped line s.link s.out t

-- ---- a received frame

abbrev pub received_in : ℕ → Option DataLink → Option Frame → ℕ → Table → Table
received_in line (Some l) (Some f) at t = record (after line (received f at (step l t.frames)) t) { receiving = Some line }
received_in line _ _ at t = t

-- octets of the user on a line, the start of a step; nothing changes if the frame is discarded, or the line has no link
abbrev pub received_on : ℕ → List ℕ → ℕ → Table → Table
received_on line octets at t = received_in line (link_of line t) (reading User octets) at (begun t)

-- the notice to call control: a message that the frame delivers, or a change of the link
abbrev pub notice_of : Frame → Option Indication → Option Notice
notice_of f None = None
notice_of f (Some indication.Data) = Some (notice.Message (information_in f.control))
notice_of f (Some indication.Established) = Some (notice.Link Up)
notice_of f (Some indication.Released) = Some (notice.Link Down)

abbrev pub noticed_in : Option DataLink → Option Frame → ℕ → Result (Option Notice) NoLinkError
noticed_in None _ at = Err (record {})
noticed_in (Some l) None at = Ok None
noticed_in (Some l) (Some f) at = Ok (notice_of f (received f at (step l [])).indication)

abbrev pub noticed_on : ℕ → List ℕ → ℕ → Table → Result (Option Notice) NoLinkError
noticed_on line octets at t = noticed_in (link_of line t) (reading User octets) at

-- ---- a message of call control

-- the message is sent as it is
abbrev pub sent_plainly : ℕ → List ℕ → Table → Table
sent_plainly line message t = record t { messages = t.messages + 1; lines = t.lines ++ line ∷ []; frames = t.frames ++ message ∷ [] }

-- a line without a link has no frames of layer 2
abbrev pub submitted_in : ℕ → Option DataLink → List ℕ → ℕ → Table → Table
submitted_in line None message at t = sent_plainly line message t
submitted_in line (Some l) message at t = record (after_step line (submitted message at (step l t.frames)) t) { messages = t.messages + 1 }

abbrev pub submitted_on : ℕ → List ℕ → ℕ → Table → Table
submitted_on line message at t = submitted_in line (link_of line t) message at t

-- ---- the end of a step

abbrev pub finished_in : ℕ → Option DataLink → ℕ → Table → Table
finished_in line None at t = t
finished_in line (Some l) at t = after_step line (finished at (step l t.frames)) t

-- the link that received a frame ends its step
abbrev pub finished_at : Option ℕ → ℕ → Table → Table
finished_at None at t = t
finished_at (Some line) at t = record (finished_in line (link_of line t) at t) { receiving = None }

abbrev pub ended : ℕ → Table → Table
ended at t = finished_at t.receiving at t

-- ---- the turn of a link

-- the line whose link takes its turn in this frame of the exchange
abbrev pub line_of_turn : ℕ → ℕ
line_of_turn at = at % 32

abbrev pub turned_in : ℕ → Option DataLink → LinkTimers → ℕ → Table → Table
turned_in line None timers at t = t
turned_in line (Some l) timers at t = after line (turned timers at (step l t.frames)) t

-- the start of a step
abbrev pub turned_at : LinkTimers → ℕ → Table → Table
turned_at timers at t = turned_in (line_of_turn at) (link_of (line_of_turn at) t) timers at (begun t)

-- a turn delivers no message
abbrev pub change_of : Option Indication → Option Change
change_of None = None
change_of (Some indication.Data) = None
change_of (Some indication.Established) = Some Up
change_of (Some indication.Released) = Some Down

abbrev pub changed_in : Option DataLink → LinkTimers → ℕ → Option Change
changed_in None timers at = None
changed_in (Some l) timers at = change_of (turned timers at (step l [])).indication

abbrev pub changed_at : LinkTimers → ℕ → Table → Option Change
changed_at timers at t = changed_in (link_of (line_of_turn at) t) timers at
