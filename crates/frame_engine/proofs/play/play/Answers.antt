use Rattle.std.proofs.Common.{◌≡◌, ℕ, ◌<◌, ◌≤◌, List, length, slice_index, ◌∙◌, sym, ap, inl, inr, arith, rules}
use Rattle.std.proofs.lemmas.Bool.{cases_lt}
use Rattle.std.proofs.lemmas.List.{get_or-replicate}
use Rattle.circuit_model.specs.FrameInput.{idle_octet}
use Rattle.control_memory.specs.declared.heard.Heard.{Heard}
use Rattle.control_memory.specs.HeardRows.{heard_on}
use Rattle.tone_rules.specs.Tables.{table_of}
use Rattle.frame_engine.specs.Playing.{played_as}
use Rattle.frame_engine.proofs.play.play.Goals as goal

pub returns-clause-plays : goal.returns-clause-plays
returns-clause-plays c at inside near =
    let filled = c.fill_idle_from.ensures in
    let lines = c.playing_lines-lines.result in
    let first : c.from-2.result ≡ lines = search rules in
    elim (cases_lt at.line lines) [
      | inl early ↦
          let here : at.line < c.from-2.result = omega (arith, early, first) in
          let done : at.line < c.loop-line.line = search rules in
          ap (λ (row : List ℕ). slice_index row at.place) (filled.before at.line here) ∙ c.loop-line.invariant at done near
      | inr late ↦
          let there : c.from-2.result ≤ at.line = omega (arith, late, first) in
          let many : at.line < length c.fill_idle_from.new.out = search rules in
          ap (λ (row : List ℕ). slice_index row at.place) (filled.idle at.line there many)
          ∙ get_or-replicate 30 at.place idle_octet 0 near
          ∙ sym (ap (played_as (table_of c.args.tones.now) _ _) (c.playing_lines-lines.ensures.silent at late inside near))
    ]

pub play_line-requires-clause-tones : goal.play_line-requires-clause-tones
play_line-requires-clause-tones c place kind since near is =
    let line = c.loop-line.line in
    c.requires.tones (record { line = line; place = place }) (search rules) near kind since (sym (ap (λ (heard : List Heard). heard_on heard line place) c.heard_table-table.ensures.heard) ∙ is)

pub returns-clause-idle : goal.returns-clause-idle
returns-clause-idle c row late inside =
    let first : c.from-2.result ≡ c.playing_lines-lines.result = search rules in
    c.fill_idle_from.ensures.idle row (omega (arith, late, first)) inside
