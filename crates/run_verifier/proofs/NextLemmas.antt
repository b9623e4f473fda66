-- The next line of a report.
use Rattle.std.proofs.Common.{◌≡◌, ℕ, List, ◌++◌, Some, None, sym, ap, subst, ◌∙◌}
use Rattle.std.proofs.lemmas.Option.{some_pair_parts}
use Rattle.circuit_model.specs.Hears.{hears}
use Rattle.exchange_events.specs.declared.trace.Event.{Event}
use Rattle.exchange_events.specs.Kept.{kept_of}
use Rattle.exchange_events.specs.Orders.{event_at}
use Rattle.exchange_events.specs.declared.trace.Trace.{Trace}
use Rattle.exchange_events.specs.Sound.{IsSound, setting_of}
use Rattle.call_profile.specs.Step.{reply}
use Rattle.exchange_core.specs.Working.{IsNumbered, world_after}
use Rattle.tone_rules.specs.Tables.{table_of}
use Rattle.report_text.specs.RunReport.{sent_at}
use Rattle.report_reader.specs.Reading.{parse_number}
use Rattle.run_verifier.specs.Replaying.{line_due}
use Rattle.run_verifier.specs.Verdicts.{MayFollow}
use Rattle.run_verifier.specs.Verifying.{IsStuck}
use Rattle.run_verifier.proofs.ReportLemmas.{number_read, small_number}

module _ (slots : ℕ) (trace : Trace) (order text : List ℕ) (sound : IsSound trace) where
  -- the number of the event whose line begins the text is read there
  read_there : (n : ℕ) (e : Event) (behind : List ℕ) → MayFollow trace order n → text ≡ line_due slots trace order n e ++ behind → (more : List ℕ) × (parse_number text ≡ Some (n, more))
  read_there n e behind may there =
      let read = number_read (sent_at (hears (table_of trace.tones)) (setting_of slots trace) (world_after slots trace order) e) n (kept_of (reply (setting_of slots trace) (world_after slots trace order) e)) behind (small_number trace n sound may.known) in
      (read.0, ap parse_number there ∙ read.1)

  -- no number is there
  pub no_number : parse_number text ≡ None → IsStuck slots trace order text
  no_number none n e behind may numbered there = let read = read_there n e behind may there in let no = sym none ∙ read.1 in absurd cc

  -- one is there, and its event may not come next
  pub no_turn : (m : ℕ) (more : List ℕ) → parse_number text ≡ Some (m, more) → (MayFollow trace order m → ⊥) → IsStuck slots trace order text
  no_turn m more is not n e behind may numbered there =
      let read = read_there n e behind may there in
      let same = (some_pair_parts m n more read.0 (sym is ∙ read.1)).0 in
      not (subst (MayFollow trace order) (sym same) may)

  -- it may, and the text does not begin with its line
  pub no_line : (m : ℕ) (e : Event) (more line : List ℕ) → parse_number text ≡ Some (m, more) → IsNumbered trace m e → line ≡ line_due slots trace order m e → ((behind : List ℕ) → text ≡ line ++ behind → ⊥) → IsStuck slots trace order text
  no_line m e more line is numbered line_is not n f behind may also there =
      let read = read_there n f behind may there in
      let same : m ≡ n = (some_pair_parts m n more read.0 (sym is ∙ read.1)).0 in
      let event : Some e ≡ Some f = sym numbered ∙ ap (event_at trace.events) same ∙ also in
      let one : e ≡ f = cc in
      not behind (there ∙ (λ i. sym (line_is ∙ (λ j. line_due slots trace order (same j) (one j))) i ++ behind))
