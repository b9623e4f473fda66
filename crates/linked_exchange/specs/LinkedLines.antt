-- The report lines of an exchange with data links. Source: this project.
use Rattle.std.specs.Prelude.{◌≡◌, ℕ, List, [], ◌∷◌, ◌++◌, codes, Option, Some, None, IfOk}
use Rattle.std.specs.declared.result.Result.{Result}
use Rattle.std.specs.declared.result.Result.TheVariants.{Ok, Err}
use Rattle.circuit_model.specs.Dimensions.{Dimensions}
use Rattle.circuit_model.specs.Hears.{Plays}
use Rattle.exchange_events.specs.declared.outbox.Response.{Response}
use Rattle.exchange_events.specs.declared.record.CallRecord.{CallRecord}
use Rattle.exchange_events.specs.declared.reply.Reply.{Reply}
use Rattle.exchange_events.specs.declared.reply.Reply.TheVariants.{Sent, Frame as Framed}
use Rattle.exchange_events.specs.declared.trace.Event.{Event}
use Rattle.exchange_events.specs.declared.trace.Event.TheVariants.{Frame}
use Rattle.exchange_events.specs.Kept.{kept_of}
use Rattle.exchange_events.specs.Responses.{reply_of}
use Rattle.exchange_events.specs.Sizes.{Setting}
use Rattle.call_profile.specs.CallsTold.{calls_kept}
use Rattle.call_profile.specs.Step.{MovesAtMost}
use Rattle.link_procedures.specs.declared.state.Indication.{Indication}
use Rattle.link_procedures.specs.declared.state.LinkTimers.{LinkTimers}
use Rattle.link_table.specs.declared.notice.NoLinkError.{NoLinkError}
use Rattle.link_table.specs.Steps.{changed_at, line_of_turn, noticed_on}
use Rattle.link_table.specs.Tables.{Table}
use Rattle.report_text.specs.Report.{parts, report_line}
use Rattle.report_text.specs.RunReport.{Played, sent_at}
use Rattle.linked_exchange.specs.Steps.{Joint, LinkedInput, Happens, Receives, Turns, derived, frames_so_far, indicated, next_joint, reply_to}
use Rattle.linked_exchange.specs.declared.exchange.LinkedExchange.{LinkedExchange}
use Rattle.linked_exchange.specs.declared.settings.Settings.{Settings}
use Rattle.linked_exchange.specs.At.{EachLinked, PlaysAt, RepliesTo}
use Rattle.lone_exchange.specs.At.{Carrying}
use Rattle.linked_exchange.specs.declared.steps.LinkedEvent.{LinkedEvent}
use Rattle.linked_exchange.specs.declared.steps.LinkedEvent.TheVariants as event
use Rattle.linked_text.specs.LinkReport.{frame_end, frame_start, link_line, sent_message_line, turn_text}

-- ---- the parts of a line, from the links after a step

-- the numbers of live paths that a connection or a seat of a message moved
abbrev pub moved_in : Reply → Option (ℕ × ℕ)
moved_in (Sent sends moved records) = moved
moved_in other = None

-- the line of event n, or for a frame of the exchange its start
abbrev pub reply_line : ℕ → Table → Reply → List ℕ
reply_line n t (Framed k sends records) = frame_start n k t.lines t.frames
reply_line n t (Sent sends moved records) = sent_message_line n moved t.lines t.frames
reply_line n t other = report_line [] n (kept_of other)

-- the indication after a received frame; there is none on a line without a link
abbrev pub indication_in : Result (Option Indication) NoLinkError → Option Indication
indication_in (Ok found) = found
indication_in (Err e) = None

-- the line of event n, a received frame
abbrev pub received_line : ℕ → Table → Option Indication → Reply → List ℕ
received_line n t told reply = link_line n told (moved_in reply) t.lines t.frames

-- ---- an input, in the exchange state and with the links before it

module _ (s : Setting) (timers : LinkTimers) (j : Joint) where
  -- the links after the input
  abbrev pub links_after : LinkedInput → Table
  links_after input = (next_joint s timers j input).links

  -- the reply to its event
  abbrev pub replied : LinkedInput → Reply
  replied input = reply_to s j.world (derived timers j input)

  -- the records of the calls that ended with it
  abbrev pub calls_of : LinkedInput → List CallRecord
  calls_of input = calls_kept (kept_of (replied input))

  -- the turn of a link after a frame of the exchange
  abbrev pub turn_of : List ℕ
  turn_of = turn_text (line_of_turn (frames_so_far j)) (changed_at timers (frames_so_far j) j.links) (links_after Turns).lines (links_after Turns).frames

  -- its line with number n; of a frame of the exchange the start of the line, and of a turn the middle
  abbrev pub text_of : ℕ → LinkedInput → List ℕ
  text_of n (Happens e) = reply_line n (links_after (Happens e)) (replied (Happens e))
  text_of n (Receives line octets) =
      received_line n (links_after (Receives line octets)) (indication_in (indicated (noticed_on line octets (frames_so_far j) j.links))) (replied (Receives line octets))
  text_of n Turns = turn_of

-- ---- the clauses of a step

-- the input of an event
abbrev pub input_of : LinkedEvent → LinkedInput
input_of (event.Event e) = Happens e.now
input_of (event.Received line octets) = Receives line octets.now

-- in each setting and state of the exchange before it, the text is extended by the text of the input
abbrev pub Writes : {P E : Type 0} → Carrying E → (E → ℕ) → (E → Dimensions) → Settings → LinkedInput → ℕ → LinkedExchange P E → (text longer : List ℕ) → Type 0
Writes carries frames sizes settings input n x text longer =
    EachLinked carries frames sizes settings x (λ s j. longer ≡ text ++ text_of s settings.link_timers.now j n input)

-- in each of them, the text is extended by the turn of a link, and by the octets that the exchange has after the turn
abbrev pub WritesTurn : {P E : Type 0} → Carrying E → (E → ℕ) → (E → Dimensions) → Settings → (x y : LinkedExchange P E) → (text longer : List ℕ) → Type 0
WritesTurn carries frames sizes settings x y text longer =
    EachLinked carries frames sizes settings x (λ s j. longer ≡ text ++ turn_of s settings.link_timers.now j ++ frame_end y.exchange.octets.items)

-- if the result is a response, it is the reply to the event of the step, together with the outbox
abbrev pub RepliesIfOk : {P E F : Type 0} → Carrying E → (E → ℕ) → (E → Dimensions) → Settings → LinkedInput → (x : LinkedExchange P E) → Result Response F
    → (y : LinkedExchange P E) → Type 0
RepliesIfOk carries frames sizes settings input x result y = IfOk result (λ response. RepliesTo carries frames sizes settings input x response y)

-- by the response and the outbox, the step moved at most the number of live paths that the path map can move in one step
abbrev pub MovesFew : {P E : Type 0} → Response → (x y : LinkedExchange P E) → Type 0
MovesFew response x y = MovesAtMost x.exchange.control.map.bound (reply_of response y.exchange.context.out)

-- if the input is a frame of the exchange, the octets are the output of the engine in it
abbrev pub PlaysOn : {P E : Type 0} → Carrying E → (E → ℕ) → (E → Dimensions) → Plays → Settings → LinkedInput → (x y : LinkedExchange P E) → Type 0
PlaysOn carries frames sizes plays settings (Happens e) x y = PlaysAt carries frames sizes plays settings e x y
PlaysOn carries frames sizes plays settings other x y = Unit {0}

-- ---- an event: a frame of the exchange is followed by the turn of a link

module _ (played : Played) (s : Setting) (timers : LinkTimers) (j : Joint) where
  -- the exchange state and the links after event e
  abbrev pub after_happened : Event → Joint
  after_happened (Frame input) = next_joint s timers (next_joint s timers j (Happens (Frame input))) Turns
  after_happened e = next_joint s timers j (Happens e)

  -- its line with number n
  abbrev pub happened_line : ℕ → Event → List ℕ
  happened_line n (Frame input) =
      text_of s timers j n (Happens (Frame input)) ++ text_of s timers (next_joint s timers j (Happens (Frame input))) n Turns
      ++ parts 0 (sent_at played s j.world (Frame input)) ++ codes "\n"
  happened_line n e = text_of s timers j n (Happens e)

  -- the records of the calls that ended with it
  abbrev pub happened_calls : Event → List CallRecord
  happened_calls (Frame input) = calls_of s timers j (Happens (Frame input)) ++ calls_of s timers (next_joint s timers j (Happens (Frame input))) Turns
  happened_calls e = calls_of s timers j (Happens e)
