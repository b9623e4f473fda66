-- Lines have no line feed in them.
use Rattle.std.proofs.Common.{◌≡◌, ℕ, zero, suc, ◌+◌, ◌/◌, ◌%◌, ◌^◌, ◌<◌, ◌≤◌, Bool, true, not, eqb, List, [], ◌∷◌, ◌++◌, length, get_or, take, drop, codes, decimal, ◌⊎◌, slice_index, All, Option, Some, None, IfSome, refl, ap, ◌∙◌, arith, append_assoc, inl, inr}
use Rattle.std.proofs.lemmas.Bool.{and_from, and_parts, cases_Bool, cases_eq, eq-eqb, eqb-true, ne_eqb}
use Rattle.std.proofs.lemmas.List.{append-nil}
use Rattle.std.proofs.lemmas.List.Folds.{list_all-append}
use Rattle.std.proofs.lemmas.List.Elements.{All-head, All-tail}
use Rattle.std.proofs.lemmas.Fmt.{decimal_by_steps}
use Rattle.memchr.specs.Find.{IsFirstByte, is_byte}
use Rattle.hex.specs.Hex.{encode_upper, encode_with, upper_digits}
use Rattle.exchange_events.specs.declared.answer.Kept.{Kept}
use Rattle.exchange_events.specs.declared.answer.Kept.TheVariants.{Granted, Busy, Seated, NoPort, Freed, NotNailed, Sent, Frame}
use Rattle.exchange_events.specs.declared.signal.Signal.{Signal}
use Rattle.report_text.specs.Report.{on_line, parts}
use Rattle.report_reader.specs.Spelling.{AreOctets, AreNormalOctets, IsHeld, IsRow, IsSendable, IsNormalReply, is_idle, is_unbroken}
use Rattle.report_reader.proofs.OctetLemmas.{digit_plain}
use Rattle.report_reader.proofs.SignalLemmas.{line_text, told}
use Rattle.report_reader.proofs.RowLemmas.{part_busy, part_idle}
use Rattle.report_reader.proofs.ReplyLemmas.{body, moved_text, pair, word_of, word_text}

both_unbroken : (a b : List ℕ) → is_unbroken a ≡ true → is_unbroken b ≡ true → is_unbroken (a ++ b) ≡ true
both_unbroken a b first second = list_all-append (λ octet. not (eqb octet 10)) a b ∙ and_from _ _ first second

other_octet : (octet : ℕ) (rest : List ℕ) → (octet ≡ 10 → ⊥) → is_unbroken rest ≡ true → is_unbroken (octet ∷ rest) ≡ true
other_octet octet rest other all = rw (ne_eqb octet 10 other) all

decimal_unbroken : (n : ℕ) → n < 2 ^ 32 → is_unbroken (decimal n) ≡ true
decimal_unbroken n small = decimal_by_steps (λ k digits. is_unbroken digits ≡ true)
    (λ k low. other_octet (48 + k) [] (λ e. absurd (omega arith)) refl)
    (λ k digits large earlier. both_unbroken digits ((48 + k % 10) ∷ []) earlier (other_octet (48 + k % 10) [] (λ e. absurd (omega arith)) refl))
    n (omega arith)

digits_unbroken : (octets : List ℕ) → AreOctets octets → is_unbroken (encode_upper octets) ≡ true
unfolding encode_with
digits_unbroken [] all = refl
digits_unbroken (octet ∷ octets) all =
    let small : octet < 256 = All-head (λ o. o < 256) octet octets all in
    let high = digit_plain (octet / 16) (omega arith) in
    let low = digit_plain (octet % 16) (omega arith) in
    other_octet (slice_index upper_digits (octet / 16)) (slice_index upper_digits (octet % 16) ∷ encode_upper octets) (λ e. absurd (omega arith)) (other_octet (slice_index upper_digits (octet % 16)) (encode_upper octets) (λ e. absurd (omega arith)) (digits_unbroken octets (All-tail (λ o. o < 256) octet octets all)))

line_unbroken : (line : ℕ) (octets rest : List ℕ) → line < 32 → AreOctets octets → is_unbroken rest ≡ true → is_unbroken (on_line line octets ++ rest) ≡ true
line_unbroken line octets rest below all after =
    ap is_unbroken (line_text line octets rest)
    ∙ both_unbroken (decimal line) (58 ∷ (encode_upper octets ++ rest)) (decimal_unbroken line (omega arith)) (both_unbroken (encode_upper octets) rest (digits_unbroken octets all) after)

told_unbroken : (mark rest : List ℕ) (sends : List Signal) → is_unbroken mark ≡ true → All IsSendable sends → is_unbroken rest ≡ true → is_unbroken (told mark sends ++ rest) ≡ true
told_unbroken mark rest [] plain fine after = after
told_unbroken mark rest (sent ∷ sends) plain fine after =
    let here = All-head IsSendable sent sends fine in
    let later = told_unbroken mark rest sends plain (All-tail IsSendable sent sends fine) after in
    ap is_unbroken (append_assoc mark (on_line sent.line sent.octets ++ told mark sends) rest ∙ ap (λ (l : List ℕ). mark ++ l) (append_assoc (on_line sent.line sent.octets) (told mark sends) rest))
    ∙ both_unbroken mark (on_line sent.line sent.octets ++ (told mark sends ++ rest)) plain (line_unbroken sent.line sent.octets (told mark sends ++ rest) here.line here.octets later)

parts_unbroken : (line : ℕ) (rows : List (List ℕ)) → line + length rows ≤ 32 → All IsRow rows → is_unbroken (parts line rows) ≡ true
parts_unbroken line [] few all = refl
parts_unbroken line (row ∷ rows) few all =
    let later = parts_unbroken (line + 1) rows (omega (arith, few)) (All-tail IsRow row rows all) in
    let here = All-head IsRow row rows all in
    elim (cases_Bool (is_idle row)) [
      | inl idle ↦ ap (λ (l : List ℕ). is_unbroken (l ++ parts (line + 1) rows)) (part_idle line row idle) ∙ later
      | inr busy ↦ ap (λ (l : List ℕ). is_unbroken (l ++ parts (line + 1) rows)) (part_busy line row busy) ∙ line_unbroken line row (parts (line + 1) rows) (omega (arith, few)) here.bytes later
    ]

pair_unbroken : (a b : ℕ) (rest : List ℕ) → IsHeld a → IsHeld b → is_unbroken rest ≡ true → is_unbroken (pair a b ++ rest) ≡ true
pair_unbroken a b rest low high after =
    both_unbroken (pair a b) rest (both_unbroken (decimal a) (32 ∷ decimal b) (decimal_unbroken a low) (decimal_unbroken b high)) after

moved_unbroken : (moved : Option (ℕ × ℕ)) (rest : List ℕ) → IfSome moved (λ held. IsHeld held.0 × IsHeld held.1) → is_unbroken rest ≡ true → is_unbroken (moved_text moved ++ rest) ≡ true
moved_unbroken None rest held after = after
moved_unbroken (Some held_are) rest held after =
    ap is_unbroken (append_assoc (codes " moved") (pair held_are.0 held_are.1) rest) ∙ pair_unbroken held_are.0 held_are.1 rest held.0 held.1 after

alone_unbroken : (a b : ℕ) → IsHeld a → IsHeld b → is_unbroken (pair a b) ≡ true
alone_unbroken a b low high = both_unbroken (decimal a) (32 ∷ decimal b) (decimal_unbroken a low) (decimal_unbroken b high)

pub reply_unbroken : (reply : Kept) (rows : List (List ℕ)) → IsNormalReply reply → AreNormalOctets reply rows → is_unbroken (word_text (word_of reply) ++ body rows reply) ≡ true
reply_unbroken (Granted a b) rows fine beside = alone_unbroken a b fine.0 fine.1
reply_unbroken Busy rows fine beside = refl
reply_unbroken (Seated a b) rows fine beside = alone_unbroken a b fine.0 fine.1
reply_unbroken NoPort rows fine beside = refl
reply_unbroken Freed rows fine beside = refl
reply_unbroken NotNailed rows fine beside = refl
reply_unbroken (Sent sends moved records) rows fine beside =
    moved_unbroken moved (told [] sends) fine.1 (rw (append-nil (told [] sends)) at (told_unbroken [] [] sends refl fine.0 refl))
reply_unbroken (Frame n sends records) rows fine beside =
    both_unbroken (decimal n) (told (codes " send") sends ++ parts 0 rows) (decimal_unbroken n fine.0)
    (told_unbroken (codes " send") (parts 0 rows) sends refl fine.1 (parts_unbroken 0 rows (omega (arith, beside.few)) beside.each))

pub event_unbroken : (n : ℕ) (rest : List ℕ) → n < 2 ^ 32 → is_unbroken rest ≡ true → is_unbroken (decimal n ++ rest) ≡ true
event_unbroken n rest small after = both_unbroken (decimal n) rest (decimal_unbroken n small) after

-- ---- lines that a line feed ends

-- a line feed within
pub broken : (line rest : List ℕ) → is_unbroken (line ++ 10 ∷ rest) ≡ true → ⊥
broken [] rest all = absurd cc
broken (octet ∷ line) rest all = let parts = and_parts (not (eqb octet 10)) (is_unbroken (line ++ 10 ∷ rest)) all in broken line rest parts.1

-- the first line of a text is one
pub same_line : (one other r s : List ℕ) → is_unbroken one ≡ true → is_unbroken other ≡ true → one ++ 10 ∷ r ≡ other ++ 10 ∷ s → (one ≡ other) × (r ≡ s)
same_line [] [] r s first second same = (refl, cc)
same_line [] (octet ∷ other) r s first second same =
    let parts = and_parts (not (eqb octet 10)) (is_unbroken other) second in let e : octet ≡ 10 = cc in let no = rw e at parts.0 in absurd cc
same_line (octet ∷ one) [] r s first second same =
    let parts = and_parts (not (eqb octet 10)) (is_unbroken one) first in let e : octet ≡ 10 = cc in let no = rw e at parts.0 in absurd cc
same_line (octet ∷ one) (x ∷ other) r s first second same =
    let head : octet ≡ x = cc in
    let tail : one ++ 10 ∷ r ≡ other ++ 10 ∷ s = cc in
    let parts = and_parts (not (eqb octet 10)) (is_unbroken one) first in
    let others = and_parts (not (eqb x 10)) (is_unbroken other) second in
    let later = same_line one other r s parts.1 others.1 tail in
    (rw (head, later.0) refl, later.1)

-- ---- where the first line ends

-- a text without a line feed, or its first line and what follows the line feed
pub record IsCut (text line rest : List ℕ) : Type 0 where
  pub there : text ≡ line ++ 10 ∷ rest
  pub first : is_unbroken line ≡ true

cut_later : (octet : ℕ) (text : List ℕ) → (octet ≡ 10 → ⊥) → (is_unbroken text ≡ true) ⊎ ((line : List ℕ) × (rest : List ℕ) × IsCut text line rest)
    → (is_unbroken (octet ∷ text) ≡ true) ⊎ ((line : List ℕ) × (rest : List ℕ) × IsCut (octet ∷ text) line rest)
cut_later octet text other (inl whole) = inl (other_octet octet text other whole)
cut_later octet text other (inr cut) =
    inr (octet ∷ cut.0, cut.1, record { there = ap (λ (l : List ℕ). octet ∷ l) cut.2.there; first = other_octet octet cut.0 other cut.2.first })

pub cut_of : (text : List ℕ) → (is_unbroken text ≡ true) ⊎ ((line : List ℕ) × (rest : List ℕ) × IsCut text line rest)
cut_of [] = inl refl
cut_of (octet ∷ text) = elim (cases_eq octet 10) [
  | inl feed ↦ inr ([], text, record { there = ap (λ (o : ℕ). o ∷ text) feed; first = refl })
  | inr other ↦ cut_later octet text other (cut_of text)
]

-- the octet at a place is a line feed
abbrev pub is_feed_at : List ℕ → ℕ → Bool
is_feed_at text k = eqb (get_or text k 0) 10

cut_at : (text : List ℕ) (k : ℕ) → k < length text → is_feed_at text k ≡ true → ((j : ℕ) → j < k → is_feed_at text j ≡ true → ⊥) → IsCut text (take k text) (drop (suc k) text)
cut_at [] k within here before = absurd (omega arith)
cut_at (octet ∷ text) zero within here before = record { there = ap (λ (o : ℕ). o ∷ text) (eqb-true octet 10 here); first = refl }
cut_at (octet ∷ text) (suc k) within here before =
    let later = cut_at text k (omega arith) here (λ j less. before (suc j) (omega arith)) in
    let other : octet ≡ 10 → ⊥ = λ e. before 0 (omega arith) (eq-eqb octet 10 e) in
    record { there = ap (λ (l : List ℕ). octet ∷ l) later.there; first = other_octet octet (take k text) other later.first }

none_at : (text : List ℕ) → ((j : ℕ) → j < length text → is_feed_at text j ≡ true → ⊥) → is_unbroken text ≡ true
none_at [] none = refl
none_at (octet ∷ text) none = other_octet octet text (λ e. none 0 (omega arith) (eq-eqb octet 10 e)) (none_at text (λ j less. none (suc j) (omega arith)))

pub IsCut_first : (text : List ℕ) (k : ℕ) → IsFirstByte (is_byte 10) text (Some k) → IsCut text (take k text) (drop (suc k) text)
IsCut_first text k h = cut_at text k h.0.high h.1 (λ j less feed. h.0.before j (omega arith) less feed)

pub is_unbroken_none_found : (text : List ℕ) → IsFirstByte (is_byte 10) text None → is_unbroken text ≡ true
is_unbroken_none_found text h = none_at text (λ j less feed. h j (omega arith) less feed)
