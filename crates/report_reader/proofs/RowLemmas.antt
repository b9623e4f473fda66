-- Rows at the beginning of octets, one after another.
use Rattle.std.proofs.Common.{◌≡◌, ℕ, zero, suc, ◌+◌, ◌-◌, ◌<◌, ◌≤◌, true, false, not, ltb, eqb, ◌&&◌, List, [], ◌∷◌, ◌++◌, length, replicate, get_or, All, inl, inr, Option, Some, None, IfSome, decimal, refl, sym, ap, ◌∙◌, arith, append_assoc, length-append}
use Rattle.std.specs.List.{last_or}
use Rattle.std.proofs.lemmas.Bool.{cases_Bool, lt-ltb, le-ltb, and_parts, eq-eqb, eqb-true, ltb-false, not-true}
use Rattle.std.proofs.lemmas.List.{append-nil, length-replicate, replicate_more}
use Rattle.std.proofs.lemmas.List.Elements.{All-nil, All-cons, All-head, All-tail, All-append, All-get_or, All-replicate}
use Rattle.std.proofs.lemmas.List.FromFn.{fill_by_all}
use Rattle.std.proofs.lemmas.Option.{same_Some}
use Rattle.circuit_model.specs.FrameInput.{idle_octet}
use Rattle.report_text.specs.Report.{line_octets, lines_sent, octet_of, on_line, part, parts}
use Rattle.report_text.proofs.Rows.{line_octets_row, line_octets_row_of}
use Rattle.exchange_events.specs.declared.signal.Signal.{Signal}
use Rattle.report_reader.specs.Spelling.{is_idle, AreRows, IsRow}
use Rattle.report_reader.specs.Reading.{behind, idle_row, row_at, rows_before, rows_of, rows_in, rows_step, signal_at, spaced_at, ◌>>=◌}
use Rattle.report_reader.proofs.StepLemmas.{both, passed}
use Rattle.hex.specs.Hex.{encode_upper}
use Rattle.report_reader.proofs.NumberLemmas.{spaced_back}
use Rattle.report_reader.proofs.OctetLemmas.{is_apart}
use Rattle.report_reader.proofs.SignalLemmas.{line_text, signal_back, signal_shorter, signal_text}

-- ---- one row

pub record IsRowBefore (octets : List ℕ) (sent : Signal) (rest : List ℕ) : Type 0 where
  pub there : signal_at octets ≡ Some (sent, rest)
  pub thirty : length sent.octets ≡ 30
  pub busy : is_idle sent.octets ≡ false

pub row_there : (octets : List ℕ) (sent : Signal) (rest : List ℕ) → row_at octets ≡ Some (sent, rest) → IsRowBefore octets sent rest
row_there octets sent rest found =
    let read = both (signal_at octets) _ _ found in
    let test = passed (eqb (length read.here.0.octets) 30 && not (is_idle read.here.0.octets)) read.here (sent, rest) read.later in
    let parts = and_parts (eqb (length read.here.0.octets) 30) (not (is_idle read.here.0.octets)) test.0 in
    let same : read.here.0 ≡ sent = ap (λ (r : Signal × List ℕ). r.0) test.1 in
    record {
      there = read.is ∙ ap Some test.1;
      thirty = rw same at (eqb-true (length read.here.0.octets) 30 parts.0);
      busy = rw same at (not-true (is_idle read.here.0.octets) parts.1);
    }

pub row_shorter : (octets : List ℕ) (sent : Signal) (rest : List ℕ) → row_at octets ≡ Some (sent, rest) → length rest < length octets
row_shorter octets sent rest found = signal_shorter octets sent rest (row_there octets sent rest found).there

-- ---- rows in a row

-- what is read with some rows behind it is all that is read, in some rounds more
pub record GoesOn (all : List ℕ) (rows : List (List ℕ)) (rest : List ℕ) : Type 0 where
  pub rounds : ℕ
  pub enough : length rest < rounds
  pub same : rows_in rounds rows rest ≡ rows_of all

pub GoesOn_begun : (all : List ℕ) (rows : List (List ℕ)) → rows ≡ [] → GoesOn all rows all
GoesOn_begun all rows none = rw none (record { rounds = length all + 1; enough = omega arith; same = refl })

-- a step by the row at the beginning
step_by : (k : ℕ) (rows : List (List ℕ)) (octet : ℕ) (rest : List ℕ) (found : Option (Signal × List ℕ)) → row_at (octet ∷ rest) ≡ found
    → rows_in (suc k) rows (octet ∷ rest) ≡ (found >>= λ read. rows_step rows read (rows_in k))
unfolding rows_in
step_by k rows octet rest found is = rw is refl

end_by : (k : ℕ) (rows : List (List ℕ)) → rows_in (suc k) rows [] ≡ Some rows
unfolding rows_in
end_by k rows = refl

pub rows_end : (all rest : List ℕ) (rows : List (List ℕ)) → GoesOn all rows rest → length rest ≡ 0 → rows_of all ≡ Some rows
rows_end all [] rows goes empty = by_rounds goes.rounds goes.enough goes.same
  where
    by_rounds : (k : ℕ) → 0 < k → rows_in k rows [] ≡ rows_of all → rows_of all ≡ Some rows
    by_rounds zero enough same = absurd (omega arith)
    by_rounds (suc k) enough same = sym same ∙ end_by k rows
rows_end all (octet ∷ rest) rows goes empty = absurd (omega arith)

pub rows_none : (all rest : List ℕ) (rows : List (List ℕ)) → GoesOn all rows rest → (length rest ≡ 0 → ⊥) → row_at rest ≡ None → rows_of all ≡ None
rows_none all [] rows goes some none = absurd (some refl)
rows_none all (octet ∷ rest) rows goes some none = by_rounds goes.rounds goes.enough goes.same
  where
    by_rounds : (k : ℕ) → length (octet ∷ rest) < k → rows_in k rows (octet ∷ rest) ≡ rows_of all → rows_of all ≡ None
    by_rounds zero enough same = absurd (omega arith)
    by_rounds (suc k) enough same = sym same ∙ step_by k rows octet rest None none

-- a line that is not behind the lines of the others
pub rows_below : (all rest others : List ℕ) (rows : List (List ℕ)) (sent : Signal) → GoesOn all rows rest → (length rest ≡ 0 → ⊥) → row_at rest ≡ Some (sent, others)
    → sent.line < length rows → rows_of all ≡ None
rows_below all [] others rows sent goes some found below = absurd (some refl)
rows_below all (octet ∷ rest) others rows sent goes some found below = by_rounds goes.rounds goes.enough goes.same
  where
    by_rounds : (k : ℕ) → length (octet ∷ rest) < k → rows_in k rows (octet ∷ rest) ≡ rows_of all → rows_of all ≡ None
    by_rounds zero enough same = absurd (omega arith)
    by_rounds (suc k) enough same = sym same ∙ step_by k rows octet rest (Some (sent, others)) found ∙ (rw (lt-ltb sent.line (length rows) below) refl)

pub rows_more : (all rest others : List ℕ) (rows more : List (List ℕ)) (sent : Signal) → GoesOn all rows rest → (length rest ≡ 0 → ⊥) → row_at rest ≡ Some (sent, others)
    → length rows ≤ sent.line → more ≡ rows_before sent.line rows ++ sent.octets ∷ [] → GoesOn all more others
rows_more all [] others rows more sent goes some found above pushed = absurd (some refl)
rows_more all (octet ∷ rest) others rows more sent goes some found above pushed = rw pushed (by_rounds goes.rounds goes.enough goes.same)
  where
    by_rounds : (k : ℕ) → length (octet ∷ rest) < k → rows_in k rows (octet ∷ rest) ≡ rows_of all → GoesOn all (rows_before sent.line rows ++ sent.octets ∷ []) others
    by_rounds zero enough same = absurd (omega arith)
    by_rounds (suc k) enough same =
        let step = step_by k rows octet rest (Some (sent, others)) found in
        let less = row_shorter (octet ∷ rest) sent others found in
        record { rounds = k; enough = omega arith; same = rw (le-ltb sent.line (length rows) above) at (sym step ∙ same) }

-- one idle row more on the way to a line
pub rows_before_filled_more : (line : ℕ) (rows more : List (List ℕ)) → length rows < line → more ≡ rows ++ idle_row ∷ [] → rows_before line more ≡ rows_before line rows
rows_before_filled_more line rows more below pushed =
    let long : length (rows ++ idle_row ∷ []) ≡ length rows + 1 = length-append rows (idle_row ∷ []) in
    let left : line - length rows ≡ suc (line - length (rows ++ idle_row ∷ [])) = omega (arith, long) in
    rw (pushed, append_assoc rows (idle_row ∷ []) (replicate (line - length (rows ++ idle_row ∷ [])) idle_row), left) refl

-- a row is put behind idle ones
pub pushed : (sent : Signal) (line : ℕ) (rows filled more : List (List ℕ)) (row : List ℕ) → line ≡ sent.line → filled ≡ rows_before line rows → row ≡ sent.octets → more ≡ filled ++ row ∷ []
    → more ≡ rows_before sent.line rows ++ sent.octets ∷ []
pushed sent line rows filled more row at before is behind = rw (behind, before, is, at) refl

-- ---- what rows spell

-- rows of thirty octets are what their lines send
pub rows_sent : (rows : List (List ℕ)) → All IsRow rows → lines_sent (octet_of rows) (length rows) ≡ rows
rows_sent rows all = sym (fill_by_all (line_octets (octet_of rows)) rows (length rows) [] refl
    (λ k within. sym (line_octets_row k (get_or rows k []) (All-get_or IsRow rows k [] within all).thirty) ∙ line_octets_row_of rows k))

parts_append : (n : ℕ) (rows more : List (List ℕ)) → parts n (rows ++ more) ≡ parts n rows ++ parts (n + length rows) more
parts_append n [] more = let e : n + 0 ≡ n = omega arith in rw e refl
parts_append n (row ∷ rows) more =
    let e : n + length (row ∷ rows) ≡ n + 1 + length rows = omega arith in
    rw (e, parts_append (n + 1) rows more) (sym (append_assoc (part n row) (parts (n + 1) rows) (parts (n + 1 + length rows) more)))

parts_idle : (n k : ℕ) → parts n (replicate k idle_row) ≡ []
parts_idle n zero = refl
parts_idle n (suc k) = parts_idle (n + 1) k

last_pushed : (before : Option (List ℕ)) (rows : List (List ℕ)) (row : List ℕ) → last_or before (rows ++ row ∷ []) ≡ Some row
last_pushed before [] row = refl
last_pushed before (first ∷ rows) row = last_pushed (Some first) rows row

idle_is_row : IsRow idle_row
idle_is_row = record { thirty = refl; bytes = All-replicate (λ o. o < 256) 30 idle_octet (omega arith) }

-- the parts of rows that were read, and one more behind idle ones
parts_pushed : (line : ℕ) (rows : List (List ℕ)) (row : List ℕ) → length rows ≤ line → is_idle row ≡ false
    → parts 0 (rows_before line rows ++ row ∷ []) ≡ parts 0 rows ++ on_line line row
parts_pushed line rows row above busy =
    let gap : ℕ = line - length rows in
    let at : 0 + length rows + length (replicate gap idle_row) ≡ line = omega (arith, length-replicate gap idle_row) in
    parts_append 0 (rows_before line rows) (row ∷ [])
    ∙ rw (length-append rows (replicate gap idle_row)) (ap (λ (l : List ℕ). l ++ parts (0 + (length rows + length (replicate gap idle_row))) (row ∷ [])) (parts_append 0 rows (replicate gap idle_row) ∙ rw (parts_idle (0 + length rows) gap) (append-nil (parts 0 rows)))
    ∙ ap (λ (l : List ℕ). parts 0 rows ++ l) (one_part (0 + (length rows + length (replicate gap idle_row))) (omega (arith, at))))
  where
    one_part : (n : ℕ) → n ≡ line → parts n (row ∷ []) ≡ on_line line row
    one_part n at = rw (at, busy) (append-nil (on_line line row))

-- rows that are read are a frame's
rows_pushed : (line : ℕ) (rows : List (List ℕ)) (row : List ℕ) → AreRows rows → length rows ≤ line → line < 32 → IsRow row → is_idle row ≡ false → AreRows (rows_before line rows ++ row ∷ [])
rows_pushed line rows row so_far above below fine busy =
    let gap : ℕ = line - length rows in
    record {
      few = omega (arith, length-append (rows_before line rows) (row ∷ []), length-append rows (replicate gap idle_row), length-replicate gap idle_row);
      each = All-append IsRow (rows_before line rows) (row ∷ []) (All-append IsRow rows (replicate gap idle_row) so_far.each (All-replicate IsRow gap idle_row idle_is_row))
          (All-cons IsRow row [] fine (All-nil IsRow));
      last = rw (last_pushed None (rows_before line rows) row) busy;
    }

pub record AreRowsBefore (octets : List ℕ) (rows all : List (List ℕ)) : Type 0 where
  pub there : parts 0 all ≡ parts 0 rows ++ octets
  pub fine : AreRows all

pub rows_text : (k : ℕ) (rows : List (List ℕ)) (octets : List ℕ) (all : List (List ℕ)) → AreRows rows → rows_in k rows octets ≡ Some all → AreRowsBefore octets rows all
unfolding rows_in
rows_text zero rows octets all so_far found = absurd cc
rows_text (suc k) rows [] all so_far found = let same : rows ≡ all = same_Some rows all found in rw (← same) (record { there = sym (append-nil (parts 0 rows)); fine = so_far })
rows_text (suc k) rows (octet ∷ octets) all so_far found = by_row (rows_text k) (both (row_at (octet ∷ octets)) _ _ found).here (both (row_at (octet ∷ octets)) _ _ found).is (both (row_at (octet ∷ octets)) _ _ found).later
  where
    by_row : ((more : List (List ℕ)) (others : List ℕ) (whole : List (List ℕ)) → AreRows more → rows_in k more others ≡ Some whole → AreRowsBefore others more whole)
        → (read : Signal × List ℕ) → row_at (octet ∷ octets) ≡ Some read → rows_step rows read (rows_in k) ≡ Some all → AreRowsBefore (octet ∷ octets) rows all
    by_row later read is next = elim (cases_Bool (ltb read.0.line (length rows))) [
      | inl below ↦ let none = rw below at next in absurd cc
      | inr above ↦
          let row = row_there (octet ∷ octets) read.0 read.1 is in
          let signal = signal_text (octet ∷ octets) read.0 read.1 row.there in
          let over : length rows ≤ read.0.line = ltb-false read.0.line (length rows) above in
          let fine = rows_pushed read.0.line rows read.0.octets so_far over signal.sendable.line (record { thirty = row.thirty; bytes = signal.sendable.octets }) row.busy in
          let more = later (rows_before read.0.line rows ++ read.0.octets ∷ []) read.1 all fine (rw above at next) in
          let text = signal.there in
          let pushed = parts_pushed read.0.line rows read.0.octets over row.busy in
          record {
            there = more.there ∙ ap (λ (l : List ℕ). l ++ read.1) pushed ∙ append_assoc (parts 0 rows) (on_line read.0.line read.0.octets) read.1 ∙ ap (λ (l : List ℕ). parts 0 rows ++ l) (sym text);
            fine = more.fine;
          }
    ]

-- ---- rows that are spelled are read

part_apart : (line : ℕ) (row rest : List ℕ) → is_idle row ≡ true → is_apart rest ≡ true → is_apart (part line row ++ rest) ≡ true
part_apart line row rest idle apart = rw idle apart

pub part_busy : (line : ℕ) (row : List ℕ) → is_idle row ≡ false → part line row ≡ on_line line row
part_busy line row busy = rw busy refl

pub part_idle : (line : ℕ) (row : List ℕ) → is_idle row ≡ true → part line row ≡ []
part_idle line row idle = rw idle refl

line_apart : (line : ℕ) (row rest : List ℕ) → is_apart (on_line line row ++ rest) ≡ true
line_apart line row rest = refl

pub parts_apart : (n : ℕ) (rows : List (List ℕ)) → is_apart (parts n rows) ≡ true
parts_apart n [] = refl
parts_apart n (row ∷ rows) = elim (cases_Bool (is_idle row)) [
  | inl idle ↦ part_apart n row (parts (n + 1) rows) idle (parts_apart (n + 1) rows)
  | inr busy ↦ ap (λ (l : List ℕ). is_apart (l ++ parts (n + 1) rows)) (part_busy n row busy) ∙ line_apart n row (parts (n + 1) rows)
]

-- a row that is idle throughout
all_idle : (row : List ℕ) → is_idle row ≡ true → row ≡ replicate (length row) idle_octet
all_idle [] idle = refl
all_idle (octet ∷ row) idle =
    let tests = and_parts (eqb octet idle_octet) (is_idle row) idle in
    let same : octet ≡ idle_octet = eqb-true octet idle_octet tests.0 in
    rw same (ap (λ (l : List ℕ). idle_octet ∷ l) (all_idle row tests.1))

idle_is : (row : List ℕ) → IsRow row → is_idle row ≡ true → row ≡ idle_row
idle_is row fine idle = all_idle row idle ∙ ap (λ n. replicate n idle_octet) fine.thirty

-- the last row of some is busy
abbrev EndsBusy : List (List ℕ) → Type 0
EndsBusy rows = IfSome (last_or None rows) (λ octets. is_idle octets ≡ false)

ends_later : (row next : List ℕ) (rows : List (List ℕ)) → EndsBusy (row ∷ next ∷ rows) → EndsBusy (next ∷ rows)
ends_later row next rows busy = busy

ends_rest : (row : List ℕ) (rows : List (List ℕ)) → EndsBusy (row ∷ rows) → EndsBusy rows
ends_rest row [] busy = tt
ends_rest row (next ∷ rows) busy = busy

row_back : (line : ℕ) (row : List ℕ) (rest : List ℕ) → line < 32 → IsRow row → is_idle row ≡ false → is_apart rest ≡ true
    → row_at (on_line line row ++ rest) ≡ Some (record { line = line; octets = row }, rest)
row_back line row rest below fine busy apart =
    let sent : Signal = record { line = line; octets = row } in
    let thirty : length row ≡ 30 = fine.thirty in
    let signal = signal_back sent rest (record { line = below; some = omega (arith, thirty); few = omega (arith, thirty); octets = fine.bytes }) apart in
    rw (signal, eq-eqb (length row) 30 thirty, busy) refl

in_step : (k : ℕ) (rows : List (List ℕ)) (octets : List ℕ) {more : List ℕ} (sent : Signal) (rest : List ℕ) → octets ≡ 32 ∷ more → row_at octets ≡ Some (sent, rest) → length rows ≤ sent.line
    → rows_in (suc k) rows octets ≡ rows_in k (rows_before sent.line rows ++ sent.octets ∷ []) rest
in_step k rows [] sent rest some found above = absurd cc
in_step k rows (octet ∷ octets) sent rest some found above =
    step_by k rows octet octets (Some (sent, rest)) found ∙ rw (le-ltb sent.line (length rows) above) refl

before_none : (line : ℕ) (rows : List (List ℕ)) → line ≡ length rows → rows_before line rows ≡ rows
before_none line rows same = let none : line - length rows ≡ 0 = omega arith in rw none (append-nil rows)

before_more : (line : ℕ) (rows : List (List ℕ)) → length rows ≤ line → rows_before (line + 1) rows ≡ rows_before line rows ++ idle_row ∷ []
before_more line rows above =
    let gap : line + 1 - length rows ≡ line - length rows + 1 = omega arith in
    rw gap (ap (λ (l : List (List ℕ)). rows ++ l) (sym (replicate_more (line - length rows) idle_row)) ∙ sym (append_assoc rows (replicate (line - length rows) idle_row) (idle_row ∷ [])))

length_before : (line : ℕ) (rows : List (List ℕ)) (row : List ℕ) → length rows ≤ line → length (rows_before line rows ++ row ∷ []) ≡ line + 1
length_before line rows row above =
    omega (arith, length-append (rows_before line rows) (row ∷ []), length-append rows (replicate (line - length rows) idle_row), length-replicate (line - length rows) idle_row)

-- the parts of rows from a line on are read behind the parts of the lines before
abbrev Backs : ℕ → List (List ℕ) → List (List ℕ) → ℕ → Type 0
Backs k rows more line = length rows ≤ line → All IsRow more → EndsBusy more → (length more ≡ 0 → line ≡ length rows) → line + length more ≤ 32 → length (parts line more) < k
    → rows_in k rows (parts line more) ≡ Some (rows_before line rows ++ more)

back_idle : (k : ℕ) (rows more : List (List ℕ)) (row : List ℕ) (line : ℕ) → is_idle row ≡ true → Backs (suc k) rows more (line + 1) → Backs (suc k) rows (row ∷ more) line
back_idle k rows [] row line idle later above fine busy none few enough = let no = sym idle ∙ busy in absurd cc
back_idle k rows (next ∷ more) row line idle later above fine busy none few enough =
    let text : parts line (row ∷ next ∷ more) ≡ parts (line + 1) (next ∷ more) = ap (λ (l : List ℕ). l ++ parts (line + 1) (next ∷ more)) (part_idle line row idle) in
    let same : row ≡ idle_row = idle_is row (All-head IsRow row (next ∷ more) fine) idle in
    let some : length (next ∷ more) ≡ 0 → line + 1 ≡ length rows = λ e. absurd (omega arith) in
    let read = later (omega arith) (All-tail IsRow row (next ∷ more) fine) busy some (omega (arith, few)) (rw text at enough) in
    rw text (read ∙ rw (before_more line rows above, same) (ap Some (append_assoc (rows_before line rows) (idle_row ∷ []) (next ∷ more))))

back_busy : (k : ℕ) (rows more : List (List ℕ)) (row : List ℕ) (line : ℕ) → is_idle row ≡ false → Backs k (rows_before line rows ++ row ∷ []) more (line + 1) → Backs (suc k) rows (row ∷ more) line
back_busy k rows more row line is_busy later above fine busy none few enough =
    let rest : List ℕ = parts (line + 1) more in
    let text : parts line (row ∷ more) ≡ on_line line row ++ rest = ap (λ (l : List ℕ). l ++ rest) (part_busy line row is_busy) in
    let long = length_before line rows row above in
    let below : line < 32 = omega (arith, few) in
    let found = row_back line row rest below (All-head IsRow row more fine) is_busy (parts_apart (line + 1) more) in
    let less = row_shorter (on_line line row ++ rest) (record { line = line; octets = row }) rest found in
    let whole = rw text at enough in
    let step = in_step k rows (on_line line row ++ rest) (record { line = line; octets = row }) rest (line_text line row rest) found above in
    let read = later (omega (arith, long)) (All-tail IsRow row more fine) (ends_rest row more busy) (λ e. sym long) (omega (arith, few)) (omega (arith, less, whole)) in
    rw text (step ∙ read ∙ rw (before_none (line + 1) (rows_before line rows ++ row ∷ []) (sym long)) (ap Some (append_assoc (rows_before line rows) (row ∷ []) more)))

pub rows_back : (k : ℕ) (rows more : List (List ℕ)) (line : ℕ) → Backs k rows more line
rows_back zero rows more line above fine busy none few enough = absurd (omega arith)
rows_back (suc k) rows [] line above fine busy none few enough = end_by k rows ∙ rw (before_none line rows (none refl)) (ap Some (sym (append-nil rows)))
rows_back (suc k) rows (row ∷ more) line above fine busy none few enough = elim (cases_Bool (is_idle row)) [
  | inl idle ↦ back_idle k rows more row line idle (rows_back (suc k) rows more (line + 1)) above fine busy none few enough
  | inr is_busy ↦ back_busy k rows more row line is_busy (rows_back k (rows_before line rows ++ row ∷ []) more (line + 1)) above fine busy none few enough
]

-- no word is before the rows of a frame
pub behind-parts_stop : (mark : List ℕ) (line : ℕ) (rows : List (List ℕ)) → ((octets : List ℕ) (read : ℕ × List ℕ) → spaced_at octets ≡ Some read → behind mark octets ≡ None)
    → behind mark [] ≡ None → line + length rows ≤ 32 → behind mark (parts line rows) ≡ None
behind-parts_stop mark line [] apart empty few = empty
behind-parts_stop mark line (row ∷ rows) apart empty few = elim (cases_Bool (is_idle row)) [
  | inl idle ↦ ap (λ (l : List ℕ). behind mark (l ++ parts (line + 1) rows)) (part_idle line row idle) ∙ behind-parts_stop mark (line + 1) rows apart empty (omega (arith, few))
  | inr busy ↦
      let rest : List ℕ = 58 ∷ (encode_upper row ++ parts (line + 1) rows) in
      let number = spaced_back line rest (omega (arith, few)) refl in
      ap (λ (l : List ℕ). behind mark (l ++ parts (line + 1) rows)) (part_busy line row busy) ∙ ap (λ (l : List ℕ). behind mark l) (line_text line row (parts (line + 1) rows))
      ∙ apart (32 ∷ (decimal line ++ rest)) (line, rest) number
]

-- ---- the rows of a frame

pub rows_of_text : (octets : List ℕ) (rows : List (List ℕ)) → rows_of octets ≡ Some rows → (octets ≡ parts 0 rows) × AreRows rows
rows_of_text octets rows found =
    let read = rows_text (length octets + 1) [] octets rows (record { few = omega arith; each = All-nil IsRow; last = tt }) found in
    (sym read.there, read.fine)

pub rows_of_parts : (rows : List (List ℕ)) → AreRows rows → rows_of (parts 0 rows) ≡ Some rows
rows_of_parts rows fine = rows_back (length (parts 0 rows) + 1) [] rows 0 (omega arith) fine.each fine.last (λ e. refl) (omega (arith, fine.few)) (omega arith)
