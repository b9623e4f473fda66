-- Reports, line by line.
use Rattle.std.proofs.Common.{◌≡◌, ℕ, zero, suc, ◌+◌, ◌<◌, ◌≤◌, true, List, [], ◌∷◌, ◌++◌, length, All, ◌⊎◌, inl, inr, Option, Some, None, Result, Ok, Err, IfOk, IfErr, MatchOption, refl, sym, ap, ◌∙◌, arith, append_assoc, length-append}
use Rattle.std.proofs.lemmas.Bool.{cases_lt}
use Rattle.std.proofs.lemmas.List.{append-nil}
use Rattle.std.proofs.lemmas.List.Elements.{All-nil, All-head, All-tail, All-push}
use Rattle.exchange_events.specs.declared.answer.Answer.{Answer}
use Rattle.report_text.specs.Report.{answer_line, answer_lines}
use Rattle.report_reader.specs.declared.report.ReportFault.{ReportFault}
use Rattle.report_reader.specs.declared.report.ReportFault.TheVariants.{Memory, Line}
use Rattle.report_reader.specs.Spelling.{is_unbroken, IsFault, IsFaultyAt, IsNormal, IsReport, Spells}
use Rattle.report_reader.specs.Reading.{reading}
use Rattle.report_reader.proofs.FeedLemmas.{IsCut, broken, cut_of, same_line}
use Rattle.report_reader.proofs.LineLemmas.{line_of, line_spells, line_unbroken, one_spelled, Spells_cases}

-- ---- two lists of lines at the beginning of the same bytes

-- the first line of bytes spells an answer
record Starts (bytes : List ℕ) : Type 0 where
  pub line : List ℕ
  pub rest : List ℕ
  pub answer : Answer
  pub there : bytes ≡ line ++ 10 ∷ rest
  pub spells : Spells line answer

line_before : (answer : Answer) (rest : List ℕ) → IsNormal answer → answer_line answer ++ rest ≡ line_of answer ++ 10 ∷ rest
line_before answer rest normal = ap (λ (l : List ℕ). l ++ rest) (line_spells answer normal).printed ∙ append_assoc (line_of answer) (10 ∷ []) rest

starts_with : (bytes rest : List ℕ) (answer : Answer) (answers : List Answer) → All IsNormal (answer ∷ answers) → bytes ≡ answer_lines (answer ∷ answers) ++ rest → Starts bytes
starts_with bytes rest answer answers normal at =
    let here = All-head IsNormal answer answers normal in
    record {
      line = line_of answer;
      rest = answer_lines answers ++ rest;
      answer = answer;
      there = at ∙ append_assoc (answer_line answer) (answer_lines answers) rest ∙ line_before answer (answer_lines answers ++ rest) here;
      spells = line_spells answer here;
    }

nothing_starts : Starts [] → ⊥
nothing_starts starts = by_line starts.line starts.there
  where
    by_line : (line : List ℕ) → [] ≡ line ++ 10 ∷ starts.rest → ⊥
    by_line [] there = absurd cc
    by_line (octet ∷ line) there = absurd cc

Meet : List Answer → List Answer → List ℕ → List ℕ → Type 0
Meet xs ys r s = ((xs ≡ ys) × (r ≡ s)) ⊎ (Starts r ⊎ Starts s)

meet_later : (x y : Answer) (xs ys : List Answer) (r s : List ℕ) → x ≡ y → Meet xs ys r s → Meet (x ∷ xs) (y ∷ ys) r s
unfolding Meet
meet_later x y xs ys r s same (inl equal) = inl (rw (same, equal.0) refl, equal.1)
meet_later x y xs ys r s same (inr starts) = inr starts

meet : (xs ys : List Answer) (r s : List ℕ) → All IsNormal xs → All IsNormal ys → answer_lines xs ++ r ≡ answer_lines ys ++ s → Meet xs ys r s
unfolding Meet
meet [] [] r s first second same = inl (refl, same)
meet [] (y ∷ ys) r s first second same = inr (inl (starts_with r s y ys second same))
meet (x ∷ xs) [] r s first second same = inr (inr (starts_with s r x xs first (sym same)))
meet (x ∷ xs) (y ∷ ys) r s first second same =
    let here = All-head IsNormal x xs first in
    let there = All-head IsNormal y ys second in
    let bytes = sym (line_before x (answer_lines xs ++ r) here) ∙ sym (append_assoc (answer_line x) (answer_lines xs) r) ∙ same ∙ append_assoc (answer_line y) (answer_lines ys) s
    ∙ line_before y (answer_lines ys ++ s) there in
    let lines = same_line (line_of x) (line_of y) (answer_lines xs ++ r) (answer_lines ys ++ s) (line_unbroken (line_of x) x (line_spells x here)) (line_unbroken (line_of y) y (line_spells y there)) bytes in
    let spells = line_spells y there in
    let equal : x ≡ y = one_spelled (line_of x) x y (line_spells x here) (rw lines.0 spells) in
    meet_later x y xs ys r s equal (meet xs ys r s (All-tail IsNormal x xs first) (All-tail IsNormal y ys second) lines.1)

-- ---- the laws

no_start : (bytes : List ℕ) (n : ℕ) (fault : IsFaultyAt bytes n) → Starts fault.behind → ⊥
no_start bytes n fault starts = fault.faulty starts.line starts.rest starts.answer (starts.there ∙ sym (append_assoc starts.line (10 ∷ []) starts.rest)) starts.spells

pub one_report : (bytes : List ℕ) (xs ys : List Answer) → IsReport bytes xs → IsReport bytes ys → xs ≡ ys
unfolding Meet
one_report bytes xs ys first second =
    by_case (meet xs ys [] [] first.normal second.normal (append-nil (answer_lines xs) ∙ sym first.printed ∙ second.printed ∙ sym (append-nil (answer_lines ys))))
  where
    by_case : Meet xs ys [] [] → xs ≡ ys
    by_case (inl same) = same.0
    by_case (inr (inl starts)) = absurd (nothing_starts starts)
    by_case (inr (inr starts)) = absurd (nothing_starts starts)

pub never_both : (bytes : List ℕ) (answers : List Answer) (n : ℕ) → IsReport bytes answers → IsFaultyAt bytes n → ⊥
unfolding Meet
never_both bytes answers n report fault =
    by_case (meet answers fault.before [] fault.behind report.normal fault.normal (append-nil (answer_lines answers) ∙ sym report.printed ∙ fault.printed))
  where
    by_case : Meet answers fault.before [] fault.behind → ⊥
    by_case (inl same) = let some = fault.some in let empty : 0 ≡ length fault.behind = ap length same.1 in absurd (omega arith)
    by_case (inr (inl starts)) = nothing_starts starts
    by_case (inr (inr starts)) = no_start bytes n fault starts

pub one_fault : (bytes : List ℕ) (m n : ℕ) → IsFaultyAt bytes m → IsFaultyAt bytes n → m ≡ n
unfolding Meet
one_fault bytes m n first second =
    by_case (meet first.before second.before first.behind second.behind first.normal second.normal (sym first.printed ∙ second.printed))
  where
    by_case : Meet first.before second.before first.behind second.behind → m ≡ n
    by_case (inl same) = first.number ∙ ap (λ (l : List Answer). length l + 1) same.0 ∙ sym second.number
    by_case (inr (inl starts)) = absurd (no_start bytes m first starts)
    by_case (inr (inr starts)) = absurd (no_start bytes n second starts)

-- ---- line by line

lines_append : (xs ys : List Answer) → answer_lines (xs ++ ys) ≡ answer_lines xs ++ answer_lines ys
lines_append [] ys = refl
lines_append (x ∷ xs) ys = ap (λ (l : List ℕ). answer_line x ++ l) (lines_append xs ys) ∙ sym (append_assoc (answer_line x) (answer_lines xs) (answer_lines ys))

-- the answers so far are spelled by the lines before the rest
pub record HasRead (bytes : List ℕ) (answers : List Answer) (rest : List ℕ) : Type 0 where
  pub printed : bytes ≡ answer_lines answers ++ rest
  pub normal : All IsNormal answers
  pub room : length answers + length rest ≤ length bytes

pub HasRead_begun : (bytes : List ℕ) (answers : List Answer) → answers ≡ [] → HasRead bytes answers bytes
HasRead_begun bytes answers none = rw none (record { printed = refl; normal = All-nil IsNormal; room = omega arith })

pub read_more : (bytes : List ℕ) (answers more : List Answer) (rest line others : List ℕ) (answer : Answer) → HasRead bytes answers rest → rest ≡ line ++ 10 ∷ others → Spells line answer
    → more ≡ answers ++ answer ∷ [] → HasRead bytes more others
read_more bytes answers more rest line others answer so_far there spells pushed =
    let long = ap length there in
    rw pushed (record {
      printed = so_far.printed ∙ ap (λ (l : List ℕ). answer_lines answers ++ l) (there ∙ sym (append_assoc line (10 ∷ []) others) ∙ ap (λ (l : List ℕ). l ++ others) (sym spells.printed))
          ∙ sym (append_assoc (answer_lines answers) (answer_line answer) others)
          ∙ ap (λ (l : List ℕ). l ++ others) (ap (λ (l : List ℕ). answer_lines answers ++ l) (sym (append-nil (answer_line answer))) ∙ sym (lines_append answers (answer ∷ [])));
      normal = All-push IsNormal answers answer so_far.normal spells.normal;
      room = omega (arith, so_far.room, long, length-append line (10 ∷ others), length-append answers (answer ∷ []));
    })

pub others_shorter : (rest line others : List ℕ) → rest ≡ line ++ 10 ∷ others → length others < length rest
others_shorter rest line others there = let long = ap length there in omega (arith, long, length-append line (10 ∷ others))

pub IsReport_all_read : (bytes : List ℕ) (answers : List Answer) (rest : List ℕ) → HasRead bytes answers rest → length rest ≡ 0 → IsReport bytes answers
IsReport_all_read bytes answers [] so_far empty = record { printed = so_far.printed ∙ append-nil (answer_lines answers); normal = so_far.normal }
IsReport_all_read bytes answers (octet ∷ rest) so_far empty = absurd (omega arith)

-- no line feed ends the line
pub lost_end : (bytes : List ℕ) (answers : List Answer) (rest : List ℕ) (n : ℕ) → HasRead bytes answers rest → (length rest ≡ 0 → ⊥) → is_unbroken rest ≡ true → n ≡ length answers + 1 → IsFaultyAt bytes n
lost_end bytes answers rest n so_far some whole number = record {
  before = answers;
  behind = rest;
  printed = so_far.printed;
  normal = so_far.normal;
  number = number;
  some = elim (cases_lt 0 (length rest)) [ inl more ↦ more | inr none ↦ absurd (some (omega arith)) ];
  faulty = λ line others answer there spells. broken line others (rw (there ∙ append_assoc line (10 ∷ []) others) at whole);
}

-- the line spells nothing
pub lost_line : (bytes : List ℕ) (answers : List Answer) (rest line others : List ℕ) (n : ℕ) → HasRead bytes answers rest → IsCut rest line others → ((answer : Answer) → Spells line answer → ⊥)
    → n ≡ length answers + 1 → IsFaultyAt bytes n
lost_line bytes answers rest line others n so_far cut none number =
    let less = others_shorter rest line others cut.there in
    record {
      before = answers;
      behind = rest;
      printed = so_far.printed;
      normal = so_far.normal;
      number = number;
      some = omega (arith, less);
      faulty = λ other more answer there spells.
          let same = same_line line other others more cut.first (line_unbroken other answer spells) (sym cut.there ∙ there ∙ append_assoc other (10 ∷ []) more) in
          none answer (rw same.0 spells);
    }

-- ---- each text has a reading

HasReading : List ℕ → Type 0
HasReading bytes = ((answers : List Answer) × IsReport bytes answers) ⊎ ((n : ℕ) × IsFaultyAt bytes n)

read_on : (k : ℕ) (bytes : List ℕ) (answers : List Answer) (rest : List ℕ) → length rest < k → HasRead bytes answers rest → HasReading bytes
unfolding HasReading
read_on zero bytes answers rest enough so_far = absurd (omega arith)
read_on (suc k) bytes answers [] enough so_far = inl (answers, IsReport_all_read bytes answers [] so_far refl)
read_on (suc k) bytes answers (octet ∷ rest) enough so_far = by_cut (read_on k bytes) (cut_of (octet ∷ rest))
  where
    by_line : ((more : List Answer) (left : List ℕ) → length left < k → HasRead bytes more left → ((answers : List Answer) × IsReport bytes answers) ⊎ ((n : ℕ) × IsFaultyAt bytes n))
        → (line others : List ℕ) → IsCut (octet ∷ rest) line others → (found : Option Answer) → MatchOption found ((answer : Answer) → Spells line answer → ⊥) (Spells line)
        → ((answers : List Answer) × IsReport bytes answers) ⊎ ((n : ℕ) × IsFaultyAt bytes n)
    by_line later line others cut None none = inr (length answers + 1, lost_line bytes answers (octet ∷ rest) line others (length answers + 1) so_far cut none refl)
    by_line later line others cut (Some answer) spells =
        let less = others_shorter (octet ∷ rest) line others cut.there in
        later (answers ++ answer ∷ []) others (omega arith) (read_more bytes answers (answers ++ answer ∷ []) (octet ∷ rest) line others answer so_far cut.there spells refl)

    by_cut : ((more : List Answer) (left : List ℕ) → length left < k → HasRead bytes more left → ((answers : List Answer) × IsReport bytes answers) ⊎ ((n : ℕ) × IsFaultyAt bytes n))
        → (is_unbroken (octet ∷ rest) ≡ true) ⊎ ((line : List ℕ) × (others : List ℕ) × IsCut (octet ∷ rest) line others)
        → ((answers : List Answer) × IsReport bytes answers) ⊎ ((n : ℕ) × IsFaultyAt bytes n)
    by_cut later (inl whole) = inr (length answers + 1, lost_end bytes answers (octet ∷ rest) (length answers + 1) so_far (λ e. absurd (omega arith)) whole refl)
    by_cut later (inr cut) = by_line later cut.0 cut.1 cut.2 (reading cut.0) (Spells_cases cut.0 (reading cut.0) refl)

pub some_reading : (bytes : List ℕ) → ((answers : List Answer) × IsReport bytes answers) ⊎ ((n : ℕ) × IsFaultyAt bytes n)
unfolding HasReading
some_reading bytes = read_on (length bytes + 1) bytes [] bytes (omega arith) (HasRead_begun bytes [] refl)

-- ---- the one answer of a reader

fault_at : {A : Type 0} (bytes : List ℕ) (r : Result A ReportFault) (n : ℕ) → IfErr r (λ e. IsFault bytes e) → r ≡ Err (Line n) → IsFaultyAt bytes n
fault_at bytes (Ok answers) n fault e = absurd cc
fault_at bytes (Err Memory) n fault e = absurd cc
fault_at bytes (Err (Line m)) n fault e = let same : m ≡ n = cc in rw same at fault

pub IsFaultyAt_refused : {A : Type 0} (bytes : List ℕ) (r : Result A ReportFault) → IfErr r (λ e. IsFault bytes e) → (n : ℕ) → r ≡ Err (Line n) → IsFaultyAt bytes n
IsFaultyAt_refused bytes r fault n e = fault_at bytes r n fault e

pub reads_each : {A : Type 0} (items : A → List Answer) (bytes : List ℕ) (r : Result A ReportFault) → IfOk r (λ read. IsReport bytes (items read)) → IfErr r (λ e. IsFault bytes e)
    → (answers : List Answer) → IsReport bytes answers → IfOk r (λ read. items read ≡ answers) × IfErr r (λ e. e ≡ Memory)
reads_each items bytes (Ok read) is fault answers report = (one_report bytes (items read) answers is report, tt)
reads_each items bytes (Err Memory) is fault answers report = (tt, refl)
reads_each items bytes (Err (Line n)) is fault answers report = absurd (never_both bytes answers n report fault)

pub refuses_each : {A : Type 0} (items : A → List Answer) (bytes : List ℕ) (r : Result A ReportFault) → IfOk r (λ read. IsReport bytes (items read)) → IfErr r (λ e. IsFault bytes e)
    → (n : ℕ) → IsFaultyAt bytes n → (r ≡ Err (Line n)) ⊎ (r ≡ Err Memory)
refuses_each items bytes (Ok read) is fault n lost = absurd (never_both bytes (items read) n is lost)
refuses_each items bytes (Err Memory) is fault n lost = inr refl
refuses_each items bytes (Err (Line m)) is fault n lost = inl (ap (λ (k : ℕ). Err (Line k)) (one_fault bytes m n fault lost))
