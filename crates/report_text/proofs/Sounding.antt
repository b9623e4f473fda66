-- Idle rows at the end of the rows of a frame add nothing to its line.
use Rattle.std.proofs.Common.{◌≡◌, ℕ, zero, suc, ◌+◌, ◌≤◌, ◌<◌, codes, decimal, List, [], ◌∷◌, ◌++◌, length, take, get_or, get_or-drop, get_or-take, replicate, slice_index_or, arith, ap, refl, subst, sym, ◌∙◌}
use Rattle.circuit_model.specs.FrameInput.{idle_octet}
use Rattle.exchange_events.specs.declared.answer.Kept.{Kept}
use Rattle.exchange_events.specs.declared.answer.Kept.TheVariants.{Granted, Busy, Seated, NoPort, Freed, NotNailed, Sent, Frame}
use Rattle.report_text.specs.Report.{frame_messages, lines_sent, octet_of, part, parts, report_line}
use Rattle.report_text.proofs.Rows.{lines_sent_rows}

-- rows are idle from one on
abbrev IdleFrom : ℕ → List (List ℕ) → Type 0
IdleFrom first rows = (row : ℕ) → first ≤ row → row < length rows → slice_index_or rows row [] ≡ replicate 30 idle_octet

-- the rows after a first one
rest_idle : (row : List ℕ) (rest : List (List ℕ)) (n : ℕ) → IdleFrom (1 + n) (row ∷ rest) → IdleFrom n rest
rest_idle row rest n idle k late inside = get_or-drop 1 (row ∷ rest) k [] ∙ idle (1 + k) (omega (arith, late)) (omega (arith, inside))

-- the parts of all rows, if all of them are idle
pub parts_none : (line : ℕ) (rows : List (List ℕ)) → IdleFrom 0 rows → parts line rows ≡ []
parts_none line [] idle = refl
parts_none line (row ∷ rest) idle =
    let first : row ≡ replicate 30 idle_octet = idle 0 (omega arith) (omega arith) in
    let none : part line row ≡ [] = ap (part line) first in
    (λ i. none i ++ parts_none (line + 1) rest (rest_idle row rest 0 (λ k late inside. idle k (omega arith) inside)) i)

-- the parts of the rows before the idle ones
pub parts_sounding : (line n : ℕ) (rows : List (List ℕ)) → IdleFrom n rows → parts line (take n rows) ≡ parts line rows
parts_sounding line zero rows idle = sym (parts_none line rows idle)
parts_sounding line (suc n) [] idle = refl
parts_sounding line (suc n) (row ∷ rest) idle =
    ap (λ more. part line row ++ more) (parts_sounding (line + 1) n rest (rest_idle row rest n (λ k late inside. idle k (omega (arith, late)) inside)))

-- a place in the first rows is one in all rows
taken_inside : (n : ℕ) (rows : List (List ℕ)) (line : ℕ) → line < length (take n rows) → (line < n) × (line < length rows)
taken_inside zero rows line inside = absurd (omega (arith, inside))
taken_inside (suc n) [] line inside = absurd (omega (arith, inside))
taken_inside (suc n) (row ∷ rest) zero inside = (omega arith, omega arith)
taken_inside (suc n) (row ∷ rest) (suc line) inside =
    let more = taken_inside n rest line (omega (arith, inside)) in (omega (arith, more.0), omega (arith, more.1))

-- the first rows have 30 octets each if all rows do
thirty_of_taken : (n : ℕ) (rows few : List (List ℕ)) → few ≡ take n rows → ((line : ℕ) → line < length rows → length (get_or rows line []) ≡ 30)
    → (line : ℕ) → line < length few → length (get_or few line []) ≡ 30
thirty_of_taken n rows few is thirty line inside =
    let both = taken_inside n rows line (subst (λ (xs : List (List ℕ)). line < length xs) is inside) in
    ap (λ (xs : List (List ℕ)). length (get_or xs line [])) is ∙ ap length (get_or-take n rows line [] both.0) ∙ thirty line both.1

-- rows with the same parts give an event the same line
pub report_same : (rows others : List (List ℕ)) (n : ℕ) (k : Kept) → parts 0 rows ≡ parts 0 others → report_line rows n k ≡ report_line others n k
report_same rows others n (Granted a b) same = refl
report_same rows others n Busy same = refl
report_same rows others n (Seated a b) same = refl
report_same rows others n NoPort same = refl
report_same rows others n Freed same = refl
report_same rows others n NotNailed same = refl
report_same rows others n (Sent sends moved records) same = refl
report_same rows others n (Frame k sends records) same = ap (λ (text : List ℕ). decimal n ++ codes " frame " ++ decimal k ++ frame_messages sends ++ text ++ codes "\n") same

-- the rows before the idle ones give an event the same line as all rows
pub line_sounding : (rows few : List (List ℕ)) (first n : ℕ) (k : Kept) → ((line : ℕ) → line < length rows → length (get_or rows line []) ≡ 30)
    → few ≡ take first rows → IdleFrom first rows
    → report_line (lines_sent (octet_of few) (length few)) n k ≡ report_line (lines_sent (octet_of rows) (length rows)) n k
line_sounding rows few first n k thirty is idle =
    ap (λ sent. report_line sent n k) (lines_sent_rows few (thirty_of_taken first rows few is thirty) ∙ is)
    ∙ report_same (take first rows) rows n k (parts_sounding 0 first rows idle)
    ∙ sym (ap (λ sent. report_line sent n k) (lines_sent_rows rows thirty))
