-- The line of an event, from the octets and the outbox of the exchange that processed it.
use Rattle.std.proofs.Common.{◌≡◌, ℕ, List, ◌++◌, length, Result, Ok, Err, OnOk, refl, sym, ap, ◌∙◌}
use Rattle.circuit_model.specs.FrameInput.{Input}
use Rattle.circuit_model.specs.Hears.{Plays}
use Rattle.tone_rules.specs.Tables.{table_of}
use Rattle.exchange_events.specs.declared.outbox.Response.{Response}
use Rattle.exchange_events.specs.declared.reply.Reply.{Reply}
use Rattle.exchange_events.specs.declared.trace.Event.{Event}
use Rattle.exchange_events.specs.declared.trace.Event.TheVariants.{Frame}
use Rattle.exchange_events.specs.Kept.{kept_of}
use Rattle.exchange_events.specs.Responses.{reply_of}
use Rattle.exchange_events.specs.Sizes.{Setting}
use Rattle.call_profile.specs.Step.{reply}
use Rattle.call_profile.specs.World.{World, pass}
use Rattle.call_profile.proofs.QuietEventLemmas.{passed_same}
use Rattle.report_text.specs.Report.{lines_sent, octet_of, report_line, response_line}
use Rattle.report_text.specs.RunReport.{event_line, sent_at}
use Rattle.report_text.proofs.KeptLines.{same_line}
use Rattle.report_text.proofs.Rows.{sent_same}
use Rattle.lone_exchange.specs.declared.exchange.LoneExchange.{LoneExchange}
use Rattle.lone_exchange.specs.At.{ArePlayed, HasPlayed, HasReplied}

module _ (plays : Plays) (s : Setting) (w : World) (e : Event) (n : ℕ) (octets : List (List ℕ)) (played : (input : Input) → e ≡ Frame input → ArePlayed plays s w input octets) where
  abbrev rows : List (List ℕ)
  rows = lines_sent (octet_of octets) (length octets)

  abbrev sent : Event → List (List ℕ)
  sent f = sent_at (plays (table_of s.tones)) s w f

  -- a frame has the octets that are due
  report_line-rows_frame : (input : Input) → e ≡ Frame input
      → report_line rows n (kept_of (reply s w (Frame input))) ≡ report_line (sent (Frame input)) n (kept_of (reply s w (Frame input)))
  report_line-rows_frame input is =
      let p = played input is in
      let same = passed_same s w input in
      let tones = table_of s.tones in
      let octet = plays tones (pass w input).inputs (pass w input).held w.holding.next in
      let external = s.dimensions.external in
      ap (λ (l : List (List ℕ)). report_line l n (kept_of (reply s w (Frame input))))
      (ap (lines_sent (octet_of octets)) p.lines
      ∙ sent_same (octet_of octets) octet external (λ line place below inside. p.played (record { line = line; place = place }) below inside)
      ∙ (λ i. lines_sent (λ y. plays tones (sym same.inputs i) (sym same.held i) w.holding.next y) external))

  report_line_due : (r : Reply) → r ≡ reply s w e → report_line rows n (kept_of r) ≡ event_line (plays (table_of s.tones)) s w n e
  report_line_due r is = ap (λ (q : Reply). report_line rows n (kept_of q)) is ∙ same_line rows n s w sent (λ f. e ≡ f) report_line-rows_frame e refl

pub line_is : {P E : Type 0} (plays : Plays) (s : Setting) (w : World) (e : Event) (n : ℕ) (response : Response) (y : LoneExchange P E) → HasReplied s w e response y → HasPlayed plays s w e y
    → response_line y.octets.items n response y.context.out ≡ event_line (plays (table_of s.tones)) s w n e
line_is plays s w e n response y replied played = report_line_due plays s w e n y.octets.items played (reply_of response y.context.out) replied

-- what was appended, if memory lasts
pub appended : {E : Type 0} (r : Result (Unit {0}) E) (before after line due : List ℕ) → line ≡ due → OnOk r (after ≡ before ++ line) → OnOk r (after ≡ before ++ due)
appended (Ok done) before after line due is held = held ∙ ap (λ (l : List ℕ). before ++ l) is
appended (Err fault) before after line due is held = held
