-- Lines of a report.
use Rattle.std.proofs.Common.{◌≡◌, ℕ, ◌^◌, ◌<◌, true, false, leb, List, ◌++◌, length, codes, decimal, Option, Some, None, Result, Ok, Err, IfOk, MatchOption, refl, sym, ap, ◌∙◌, arith, append_assoc}
use Rattle.std.proofs.lemmas.Bool.{and_parts, le-leb, leb-true}
use Rattle.std.proofs.lemmas.List.{append_cancel_right}
use Rattle.std.proofs.lemmas.Option.{same_Some}
use Rattle.circuit_model.specs.Channels.{between}
use Rattle.exchange_events.specs.declared.answer.Answer.{Answer}
use Rattle.exchange_events.specs.declared.answer.Kept.{Kept}
use Rattle.exchange_events.specs.declared.answer.Kept.TheVariants.{Granted, Busy, Seated, NoPort, Freed, NotNailed, Sent, Frame}
use Rattle.report_text.specs.Report.{answer_line, lines_sent, moves, octet_of, report_line}
use Rattle.report_reader.specs.declared.word.Word.{Word}
use Rattle.report_reader.specs.Spelling.{AreNormalOctets, IsNormal, Spells, is_unbroken}
use Rattle.report_reader.specs.Reading.{parse_number, passing, reading, told_of, word_at}
use Rattle.report_reader.proofs.StepLemmas.{both, passed}
use Rattle.report_reader.proofs.NumberLemmas.{number_back, number_text, starts_digit}
use Rattle.report_reader.proofs.SignalLemmas.{frame_messages_told, messages_told}
use Rattle.report_reader.proofs.RowLemmas.{rows_sent}
use Rattle.report_reader.proofs.FeedLemmas.{event_unbroken, reply_unbroken}
use Rattle.report_reader.proofs.ReplyLemmas.{IsToldIn, body, moved_text, told_back, told_text, word_back, word_of, word_text, word_there}

-- a reply's word, and the text behind it
abbrev pub reply_text : List (List ℕ) → Kept → List ℕ
reply_text rows reply = word_text (word_of reply) ++ body rows reply

moves_told : (moved : Option (ℕ × ℕ)) → moves moved ≡ moved_text moved
moves_told None = refl
moves_told (Some both_are) = simp append_assoc refl

-- a line is the number of its event, a reply, and the line feed
pub line_is : (rows : List (List ℕ)) (n : ℕ) (reply : Kept) → report_line rows n reply ≡ (decimal n ++ reply_text rows reply) ++ codes "\n"
line_is rows n (Granted a b) = simp append_assoc refl
line_is rows n Busy = simp append_assoc refl
line_is rows n (Seated a b) = simp append_assoc refl
line_is rows n NoPort = simp append_assoc refl
line_is rows n Freed = simp append_assoc refl
line_is rows n NotNailed = simp append_assoc refl
line_is rows n (Sent sends moved records) = rw (moves_told moved, messages_told sends) (simp append_assoc refl)
line_is rows n (Frame k sends records) = rw (frame_messages_told sends) (simp append_assoc refl)

-- the octets of a frame are what its lines send
rows_told : (reply : Kept) (rows : List (List ℕ)) → AreNormalOctets reply rows → reply_text (lines_sent (octet_of rows) (length rows)) reply ≡ reply_text rows reply
rows_told (Granted a b) rows beside = refl
rows_told Busy rows beside = refl
rows_told (Seated a b) rows beside = refl
rows_told NoPort rows beside = refl
rows_told Freed rows beside = refl
rows_told NotNailed rows beside = refl
rows_told (Sent sends moved records) rows beside = refl
rows_told (Frame n sends records) rows beside = ap (λ (r : List (List ℕ)). reply_text r (Frame n sends records)) (rows_sent rows beside.each)

pub answer_is : (answer : Answer) → IsNormal answer → answer_line answer ≡ (decimal answer.event ++ reply_text answer.octets answer.reply) ++ codes "\n"
answer_is answer normal =
    line_is (lines_sent (octet_of answer.octets) (length answer.octets)) answer.event answer.reply
    ∙ ap (λ (l : List ℕ). (decimal answer.event ++ l) ++ codes "\n") (rows_told answer.reply answer.octets normal.octets)

-- a line that is read spells what is read
pub reading_spells : (line : List ℕ) (answer : Answer) → reading line ≡ Some answer → Spells line answer
reading_spells line answer found =
    let n = both (parse_number line) _ _ found in
    let event = both (passing (between 1 65535 n.here.0) n.here.0) _ _ n.later in
    let named = both (word_at n.here.1) _ _ event.later in
    let said = both (told_of named.here.0 named.here.1) _ _ named.later in
    let test = passed (between 1 65535 n.here.0) n.here.0 event.here event.is in
    by_parts n.here event.here named.here said.here (number_text line n.here.0 n.here.1 n.is) test.0 test.1 (word_there n.here.1 named.here.0 named.here.1 named.is)
    (told_text named.here.0 named.here.1 said.here.0 said.here.1 said.is) (same_Some _ answer said.later)
  where
    by_parts : (n : ℕ × List ℕ) (event : ℕ) (named : Word × List ℕ) (said : Kept × List (List ℕ)) → (line ≡ decimal n.0 ++ n.1) × (n.0 < 2 ^ 32) → between 1 65535 n.0 ≡ true → n.0 ≡ event
        → n.1 ≡ word_text named.0 ++ named.1 → IsToldIn named.0 named.1 said.0 said.1 → ◌≡◌ {A = Answer} (record { event = event; reply = said.0; octets = said.1 }) answer → Spells line answer
    by_parts n event named said number in_range same word is whole =
        let parts = and_parts (leb 1 n.0) (leb n.0 65535) in_range in
        let normal : IsNormal (record { event = event; reply = said.0; octets = said.1 }) = record {
          event = (rw same at (leb-true 1 n.0 parts.0), rw same at (leb-true n.0 65535 parts.1));
          reply = is.fine;
          octets = is.beside;
        } in
        let text : line ≡ decimal event ++ reply_text said.1 said.0 = number.0 ∙ rw (same, word, is.there, is.named) refl in
        rw (← whole) (record { printed = answer_is (record { event = event; reply = said.0; octets = said.1 }) normal ∙ ap (λ (l : List ℕ). l ++ codes "\n") (sym text); normal = normal })

-- what a line spells is read
pub reading_spelled : (line : List ℕ) (answer : Answer) → Spells line answer → reading line ≡ Some answer
reading_spelled line answer spells =
    let normal = spells.normal in
    let n : ℕ = answer.event in
    let rest : List ℕ = reply_text answer.octets answer.reply in
    let text : line ≡ decimal n ++ rest = append_cancel_right line (decimal n ++ rest) (codes "\n") (sym spells.printed ∙ answer_is answer normal) in
    let low : leb 1 n ≡ true = le-leb 1 n normal.event.0 in
    let high : leb n 65535 ≡ true = le-leb n 65535 normal.event.1 in
    let number = number_back n rest (omega (arith, normal.event.1)) (no_digit answer.octets answer.reply) in
    rw (text, number, low, high, word_back (word_of answer.reply) (body answer.octets answer.reply), told_back answer.reply answer.octets normal.reply normal.octets) refl
  where
    no_digit : (rows : List (List ℕ)) (reply : Kept) → starts_digit (reply_text rows reply) ≡ false
    no_digit rows (Granted a b) = refl
    no_digit rows Busy = refl
    no_digit rows (Seated a b) = refl
    no_digit rows NoPort = refl
    no_digit rows Freed = refl
    no_digit rows NotNailed = refl
    no_digit rows (Sent sends moved records) = refl
    no_digit rows (Frame k sends records) = refl

-- a line spells at most one answer
pub one_spelled : (line : List ℕ) (a b : Answer) → Spells line a → Spells line b → a ≡ b
one_spelled line a b first second = same_Some a b (sym (reading_spelled line a first) ∙ reading_spelled line b second)

-- what is read is what is spelled, and where nothing is read nothing is spelled
pub Spells_cases : (line : List ℕ) (found : Option Answer) → found ≡ reading line → MatchOption found ((answer : Answer) → Spells line answer → ⊥) (Spells line)
Spells_cases line None is = λ answer spells. let no = is ∙ reading_spelled line answer spells in absurd cc
Spells_cases line (Some answer) is = reading_spells line answer (sym is)

pub spelled_ok : {E : Type 0} (line : List ℕ) (read : Result (Option Answer) E) → IfOk read (λ found. found ≡ reading line)
    → IfOk read (λ found. MatchOption found ((answer : Answer) → Spells line answer → ⊥) (λ answer. Spells line answer))
spelled_ok line (Ok found) is = Spells_cases line found is
spelled_ok line (Err e) is = tt

-- the line of an answer, without the line feed that ends it
abbrev pub line_of : Answer → List ℕ
line_of answer = decimal answer.event ++ reply_text answer.octets answer.reply

pub line_spells : (answer : Answer) → IsNormal answer → Spells (line_of answer) answer
line_spells answer normal = record { printed = answer_is answer normal; normal = normal }

-- a line that spells an answer has no line feed
pub line_unbroken : (line : List ℕ) (answer : Answer) → Spells line answer → is_unbroken line ≡ true
line_unbroken line answer spells =
    let normal = spells.normal in
    let rest : List ℕ = reply_text answer.octets answer.reply in
    let text : line ≡ decimal answer.event ++ rest = append_cancel_right line (decimal answer.event ++ rest) (codes "\n") (sym spells.printed ∙ answer_is answer normal) in
    rw text (event_unbroken answer.event rest (omega (arith, normal.event.1)) (reply_unbroken answer.reply answer.octets normal.reply normal.octets))
