-- The words of replies, and what comes after them.
use Rattle.std.proofs.Common.{◌≡◌, ℕ, suc, ◌+◌, ◌^◌, ◌<◌, true, false, List, [], ◌∷◌, ◌++◌, length, codes, decimal, All, Option, Some, None, IfSome, refl, sym, ap, ◌∙◌, arith, append_assoc}
use Rattle.std.proofs.lemmas.Bool.{eqb-true}
use Rattle.std.proofs.lemmas.List.{append-nil}
use Rattle.std.proofs.lemmas.List.Elements.{All-head}
use Rattle.std.proofs.lemmas.Option.{some_pair_parts}
use Rattle.exchange_events.specs.declared.answer.Kept.{Kept}
use Rattle.exchange_events.specs.declared.answer.Kept.TheVariants.{Granted, Busy, Seated, NoPort, Freed, NotNailed, Sent, Frame}
use Rattle.exchange_events.specs.declared.signal.Signal.{Signal}
use Rattle.report_text.specs.Report.{parts}
use Rattle.report_reader.specs.declared.word.Word.{Word}
use Rattle.report_reader.specs.declared.word.Word.TheVariants as word
use Rattle.report_reader.specs.Spelling.{AreRows, AreNormalOctets, IsHeld, IsSendable, IsNormalReply}
use Rattle.report_reader.specs.Reading.{behind, frame_of, is_empty, message_of, moves_at, moves_by, pair_at, pair_of, passing, rows_of, signals_at, spaced_at, told_of, word_at, word_by, ◌>>=◌}
use Rattle.report_reader.proofs.StepLemmas.{both, passed}
use Rattle.hex.specs.Hex.{encode_upper}
use Rattle.std.specs.Char.{is_ascii_digit}
use Rattle.report_text.specs.Report.{on_line}
use Rattle.report_reader.proofs.WordLemmas.{behind_none, behind_text, behind_word}
use Rattle.report_reader.proofs.NumberLemmas.{spaced_back, spaced_text, starts_digit}
use Rattle.report_reader.proofs.OctetLemmas.{is_apart}
use Rattle.report_reader.proofs.SignalLemmas.{Stops, line_text, signals_back, signals_text, told, told_apart}
use Rattle.report_reader.proofs.SignalLemmas.Stops.{No_more, No_word}
use Rattle.report_reader.proofs.RowLemmas.{parts_apart, behind-parts_stop, rows_of_parts, rows_of_text}

-- ---- words

abbrev pub word_text : Word → List ℕ
word_text word.Granted = codes " granted"
word_text word.Busy = codes " busy"
word_text word.Seated = codes " seated"
word_text word.NoPort = codes " noport"
word_text word.Freed = codes " freed"
word_text word.NotNailed = codes " notnailed"
word_text word.Message = codes " message"
word_text word.Frame = codes " frame"

pub word_back : (w : Word) (rest : List ℕ) → word_at (word_text w ++ rest) ≡ Some (w, rest)
unfolding behind
word_back word.Granted rest = refl
word_back word.Busy rest = refl
word_back word.Seated rest = refl
word_back word.NoPort rest = refl
word_back word.Freed rest = refl
word_back word.NotNailed rest = refl
word_back word.Message rest = refl
word_back word.Frame rest = refl

first_there : (here : Word) (octets : List ℕ) (found : Option (List ℕ)) (others : Option (Word × List ℕ)) (w : Word) (rest : List ℕ) → behind (word_text here) octets ≡ found
    → word_by found here others ≡ Some (w, rest) → (others ≡ Some (w, rest) → octets ≡ word_text w ++ rest) → octets ≡ word_text w ++ rest
first_there here octets (Some left) others w rest is found later =
    let parts = some_pair_parts here w left rest found in
    rw (← parts.0, ← parts.1) (behind_text (word_text here) octets left is)
first_there here octets None others w rest is found later = later found

pub word_there : (octets : List ℕ) (w : Word) (rest : List ℕ) → word_at octets ≡ Some (w, rest) → octets ≡ word_text w ++ rest
word_there octets w rest found =
    first_there word.Granted octets (behind (codes " granted") octets) _ w rest refl found (λ f.
    first_there word.Busy octets (behind (codes " busy") octets) _ w rest refl f (λ f.
    first_there word.Seated octets (behind (codes " seated") octets) _ w rest refl f (λ f.
    first_there word.NoPort octets (behind (codes " noport") octets) _ w rest refl f (λ f.
    first_there word.Freed octets (behind (codes " freed") octets) _ w rest refl f (λ f.
    first_there word.NotNailed octets (behind (codes " notnailed") octets) _ w rest refl f (λ f.
    first_there word.Message octets (behind (codes " message") octets) _ w rest refl f (λ f.
    first_there word.Frame octets (behind (codes " frame") octets) _ w rest refl f (λ f. absurd cc))))))))

-- ---- what comes after them

abbrev pub word_of : Kept → Word
word_of (Granted a b) = word.Granted
word_of Busy = word.Busy
word_of (Seated a b) = word.Seated
word_of NoPort = word.NoPort
word_of Freed = word.Freed
word_of NotNailed = word.NotNailed
word_of (Sent sends moved records) = word.Message
word_of (Frame n sends records) = word.Frame

-- two numbers, each behind a space
abbrev pub pair : ℕ → ℕ → List ℕ
pair a b = 32 ∷ (decimal a ++ 32 ∷ decimal b)

abbrev pub moved_text : Option (ℕ × ℕ) → List ℕ
moved_text None = []
moved_text (Some both) = codes " moved" ++ pair both.0 both.1

-- the text of a reply behind its word
abbrev pub body : List (List ℕ) → Kept → List ℕ
body rows (Granted a b) = pair a b
body rows Busy = []
body rows (Seated a b) = pair a b
body rows NoPort = []
body rows Freed = []
body rows NotNailed = []
body rows (Sent sends moved records) = moved_text moved ++ told [] sends
body rows (Frame n sends records) = 32 ∷ (decimal n ++ (told (codes " send") sends ++ parts 0 rows))

empty_is : (octets : List ℕ) → is_empty octets ≡ true → octets ≡ []
empty_is [] empty = refl
empty_is (octet ∷ octets) empty = let none : suc (length octets) ≡ 0 = eqb-true (suc (length octets)) 0 empty in absurd (omega arith)

apart_digit : (rest : List ℕ) → is_apart rest ≡ true → starts_digit rest ≡ false
apart_digit [] apart = refl
apart_digit (octet ∷ rest) apart = rw (eqb-true octet 32 apart) refl

pair_more : (a b : ℕ) (rest : List ℕ) → pair a b ++ rest ≡ 32 ∷ (decimal a ++ 32 ∷ (decimal b ++ rest))
pair_more a b rest = simp append_assoc refl

pub pair_back : (a b : ℕ) (rest : List ℕ) → a < 2 ^ 32 → b < 2 ^ 32 → is_apart rest ≡ true → pair_at (pair a b ++ rest) ≡ Some ((a, b), rest)
pair_back a b rest low high apart =
    let first = spaced_back a (32 ∷ (decimal b ++ rest)) low refl in
    let second = spaced_back b rest high (apart_digit rest apart) in
    rw (pair_more a b rest, first, second) refl

pub pair_text : (octets : List ℕ) (both_are : ℕ × ℕ) (rest : List ℕ) → pair_at octets ≡ Some (both_are, rest)
    → (octets ≡ pair both_are.0 both_are.1 ++ rest) × (both_are.0 < 2 ^ 32) × (both_are.1 < 2 ^ 32)
pair_text octets both_are rest found =
    let first = both (spaced_at octets) _ _ found in
    let second = both (spaced_at first.here.1) _ _ first.later in
    by_parts first.here second.here (spaced_text octets first.here.0 first.here.1 first.is) (spaced_text first.here.1 second.here.0 second.here.1 second.is)
    (some_pair_parts (first.here.0, second.here.0) both_are second.here.1 rest second.later)
  where
    by_parts : (a b : ℕ × List ℕ) → (octets ≡ 32 ∷ (decimal a.0 ++ a.1)) × (a.0 < 2 ^ 32) → (a.1 ≡ 32 ∷ (decimal b.0 ++ b.1)) × (b.0 < 2 ^ 32)
        → (◌≡◌ {A = ℕ × ℕ} (a.0, b.0) both_are) × (b.1 ≡ rest) → (octets ≡ pair both_are.0 both_are.1 ++ rest) × (both_are.0 < 2 ^ 32) × (both_are.1 < 2 ^ 32)
    by_parts a b first second same = rw (← same.0) (first.0 ∙ rw (second.0, same.1) (sym (pair_more a.0 b.0 rest)), first.1, second.1)

pair_whole : (a b : ℕ) → a < 2 ^ 32 → b < 2 ^ 32 → pair_of (pair a b) ≡ Some (a, b)
pair_whole a b low high =
    let read = pair_back a b [] low high refl in
    let nothing = append-nil (pair a b) in
    let whole = rw nothing at read in
    rw whole refl

pair_of_text : (octets : List ℕ) (both_are : ℕ × ℕ) → pair_of octets ≡ Some both_are → (octets ≡ pair both_are.0 both_are.1) × (both_are.0 < 2 ^ 32) × (both_are.1 < 2 ^ 32)
pair_of_text octets both_are found =
    let read = both (pair_at octets) _ _ found in
    let test = passed (is_empty read.here.1) read.here.0 both_are read.later in
    let text = pair_text octets read.here.0 read.here.1 read.is in
    by_parts read.here.0 read.here.1 (empty_is read.here.1 test.0) test.1 text
  where
    by_parts : (here : ℕ × ℕ) (rest : List ℕ) → rest ≡ [] → here ≡ both_are → (octets ≡ pair here.0 here.1 ++ rest) × (here.0 < 2 ^ 32) × (here.1 < 2 ^ 32)
        → (octets ≡ pair both_are.0 both_are.1) × (both_are.0 < 2 ^ 32) × (both_are.1 < 2 ^ 32)
    by_parts here rest none same text = rw (← same) (text.0 ∙ rw none (append-nil (pair here.0 here.1)), text.1, text.2)

-- ---- words that don't begin as a number does

no_number : (letter : ℕ) (rest : List ℕ) → is_ascii_digit letter ≡ false → spaced_at (32 ∷ letter ∷ rest) ≡ None
unfolding behind
no_number letter rest other = rw other refl

no_word : (letter : ℕ) (mark : List ℕ) → is_ascii_digit letter ≡ false → (octets : List ℕ) (read : ℕ × List ℕ) → spaced_at octets ≡ Some read → behind (32 ∷ letter ∷ mark) octets ≡ None
no_word letter mark other octets read number =
    behind_none (32 ∷ letter ∷ mark) octets (λ rest e. let none = no_number letter (mark ++ rest) other in let same = ap spaced_at e in let no = sym number ∙ same ∙ none in absurd cc)

no_word_there : (mark : List ℕ) (octet : ℕ) → behind (octet ∷ mark) [] ≡ None
unfolding behind
no_word_there mark octet = refl

-- ---- how many paths were moved

moves_some : (octets : List ℕ) (found : Option (List ℕ)) → behind (codes " moved") octets ≡ found → moves_at octets ≡ moves_by octets found
moves_some octets found is = rw is refl

pub moves_back : (moved : Option (ℕ × ℕ)) (rest : List ℕ) → IfSome moved (λ held. IsHeld held.0 × IsHeld held.1) → is_apart rest ≡ true → behind (codes " moved") rest ≡ None
    → moves_at (moved_text moved ++ rest) ≡ Some (moved, rest)
moves_back None rest held apart none = moves_some rest None none
moves_back (Some held_are) rest held apart none =
    let text : moved_text (Some held_are) ++ rest ≡ codes " moved" ++ (pair held_are.0 held_are.1 ++ rest) = append_assoc (codes " moved") (pair held_are.0 held_are.1) rest in
    rw text (moves_some (codes " moved" ++ (pair held_are.0 held_are.1 ++ rest)) (Some (pair held_are.0 held_are.1 ++ rest)) (behind_word (codes " moved") (pair held_are.0 held_are.1 ++ rest))
    ∙ (rw (pair_back held_are.0 held_are.1 rest held.0 held.1 apart) refl))

pub moves_text : (octets : List ℕ) (moved : Option (ℕ × ℕ)) (rest : List ℕ) → moves_at octets ≡ Some (moved, rest)
    → (octets ≡ moved_text moved ++ rest) × IfSome moved (λ held. IsHeld held.0 × IsHeld held.1)
moves_text octets moved rest found = by_word (behind (codes " moved") octets) refl found
  where
    by_word : (left : Option (List ℕ)) → behind (codes " moved") octets ≡ left → moves_by octets left ≡ Some (moved, rest)
        → (octets ≡ moved_text moved ++ rest) × IfSome moved (λ held. IsHeld held.0 × IsHeld held.1)
    by_word None is found = let parts = some_pair_parts None moved octets rest found in rw (← parts.0) (parts.1, tt)
    by_word (Some left) is found =
        let read = both (pair_at left) _ _ found in
        let text = pair_text left read.here.0 read.here.1 read.is in
        let parts = some_pair_parts (Some read.here.0) moved read.here.1 rest read.later in
        let word = behind_text (codes " moved") octets left is in
        by_parts left read.here parts.0 parts.1 word text
      where
        by_parts : (left : List ℕ) (here : (ℕ × ℕ) × List ℕ) → Some here.0 ≡ moved → here.1 ≡ rest → octets ≡ codes " moved" ++ left
            → (left ≡ pair here.0.0 here.0.1 ++ here.1) × (here.0.0 < 2 ^ 32) × (here.0.1 < 2 ^ 32)
            → (octets ≡ moved_text moved ++ rest) × IfSome moved (λ held. IsHeld held.0 × IsHeld held.1)
        by_parts left here same behind_it word text =
            rw (← same) (word ∙ rw (text.0, behind_it) (sym (append_assoc (codes " moved") (pair here.0.0 here.0.1) rest)), (text.1, text.2))

-- ---- messages

no_apart : (line : ℕ) (octets more : List ℕ) → is_apart ([] ++ (on_line line octets ++ more)) ≡ true
no_apart line octets more = refl

send_apart : (line : ℕ) (octets more : List ℕ) → is_apart (codes " send" ++ (on_line line octets ++ more)) ≡ true
send_apart line octets more = refl

told_stop : (sends : List Signal) → All IsSendable sends → behind (codes " moved") (told [] sends) ≡ None
told_stop [] fine = no_word_there _ 32
told_stop (sent ∷ sends) fine =
    let rest : List ℕ = 58 ∷ (encode_upper sent.octets ++ told [] sends) in
    let below = All-head IsSendable sent sends fine in
    let number = spaced_back sent.line rest (omega (arith, below.line)) refl in
    ap (λ (l : List ℕ). behind (codes " moved") l) (line_text sent.line sent.octets (told [] sends)) ∙ no_word 109 (codes "oved") refl (32 ∷ (decimal sent.line ++ rest)) (sent.line, rest) number

signals_whole : (sends : List Signal) → All IsSendable sends → signals_at [] (told [] sends) ≡ Some (sends, [])
unfolding behind
signals_whole sends fine =
    let all = append-nil (told [] sends) in
    let read = signals_back (length (told [] sends ++ []) + 1) [] [] [] sends (No_more refl) refl no_apart fine (omega arith) in
    rw all at read

pub message_back : (moved : Option (ℕ × ℕ)) (sends : List Signal) → IfSome moved (λ held. IsHeld held.0 × IsHeld held.1) → All IsSendable sends
    → message_of (moved_text moved ++ told [] sends) ≡ Some (Sent sends moved [])
message_back moved sends held fine =
    let apart = told_apart [] [] sends refl no_apart in
    let alone = append-nil (told [] sends) in
    rw (moves_back moved (told [] sends) held (rw alone at apart) (told_stop sends fine), signals_whole sends fine) refl

pub frame_back : (n : ℕ) (sends : List Signal) (rows : List (List ℕ)) → IsHeld n → All IsSendable sends → AreRows rows
    → frame_of (32 ∷ (decimal n ++ (told (codes " send") sends ++ parts 0 rows))) ≡ Some (Frame n sends [], rows)
frame_back n sends rows held fine are =
    let rest : List ℕ = told (codes " send") sends ++ parts 0 rows in
    let apart = parts_apart 0 rows in
    let number = spaced_back n rest held (apart_digit rest (told_apart (codes " send") (parts 0 rows) sends apart send_apart)) in
    let stops : Stops (codes " send") (parts 0 rows) = No_word (behind-parts_stop (codes " send") 0 rows (no_word 115 (codes "end") refl) (no_word_there _ 32) (omega (arith, are.few))) in
    let signals = signals_back (length rest + 1) (codes " send") (parts 0 rows) [] sends stops apart send_apart fine (omega arith) in
    rw (number, signals, rows_of_parts rows are) refl

-- ---- what is read is what a line says

-- a reply without octets beside it
abbrev alone : Kept → Option (Kept × List (List ℕ))
alone reply = Some (reply, [])

-- a reply of this word is what a line says there
pub record IsToldIn (w : Word) (octets : List ℕ) (reply : Kept) (rows : List (List ℕ)) : Type 0 where
  pub named : word_of reply ≡ w
  pub there : octets ≡ body rows reply
  pub fine : IsNormalReply reply
  pub beside : AreNormalOctets reply rows

signals_there : (mark octets : List ℕ) (sends : List Signal) (rest : List ℕ) → signals_at mark octets ≡ Some (sends, rest) → (octets ≡ told mark sends ++ rest) × All IsSendable sends
signals_there mark octets sends rest found =
    let read = signals_text (length octets + 1) mark [] octets sends rest found in
    let same : sends ≡ read.more = read.whole in
    (rw same read.there, rw same read.sendable)

told_alone : {w : Word} {octets : List ℕ} (k reply : Kept) (rows : List (List ℕ)) → IsToldIn w octets k [] → alone k ≡ Some (reply, rows) → IsToldIn w octets reply rows
told_alone k reply rows is found = let parts = some_pair_parts k reply [] rows found in rw (← parts.0, ← parts.1) is

plain_told : (w : Word) (k : Kept) (octets : List ℕ) (reply : Kept) (rows : List (List ℕ)) → (octets ≡ [] → IsToldIn w octets k [])
    → (passing (is_empty octets) k >>= alone) ≡ Some (reply, rows) → IsToldIn w octets reply rows
plain_told w k octets reply rows is found =
    let read = both (passing (is_empty octets) k) _ _ found in
    let test = passed (is_empty octets) k read.here read.is in
    told_alone k reply rows (is (empty_is octets test.0)) (ap alone test.1 ∙ read.later)

pair_told : (w : Word) (k : ℕ × ℕ → Kept) (octets : List ℕ) (reply : Kept) (rows : List (List ℕ))
    → ((a : ℕ × ℕ) → octets ≡ pair a.0 a.1 → IsHeld a.0 → IsHeld a.1 → IsToldIn w octets (k a) [])
    → ((pair_of octets >>= λ a. Some (k a)) >>= alone) ≡ Some (reply, rows) → IsToldIn w octets reply rows
pair_told w k octets reply rows is found =
    let read = both (pair_of octets >>= λ a. Some (k a)) alone _ found in
    let numbers = both (pair_of octets) (λ a. Some (k a)) _ read.is in
    let text = pair_of_text octets numbers.here numbers.is in
    told_alone (k numbers.here) reply rows (is numbers.here text.0 text.1 text.2) (ap (λ (r : Option Kept). r >>= alone) numbers.later ∙ read.later)

message_told : (octets : List ℕ) (reply : Kept) → message_of octets ≡ Some reply → IsToldIn word.Message octets reply []
message_told octets reply found =
    let moved = both (moves_at octets) _ _ found in
    let sends = both (signals_at [] moved.here.1) _ _ moved.later in
    let test = passed (is_empty sends.here.1) (Sent sends.here.0 moved.here.0 []) reply sends.later in
    let first = moves_text octets moved.here.0 moved.here.1 moved.is in
    let second = signals_there [] moved.here.1 sends.here.0 sends.here.1 sends.is in
    rw (← test.1) (by_parts moved.here sends.here (empty_is sends.here.1 test.0) first second)
  where
    by_parts : (moved : Option (ℕ × ℕ) × List ℕ) (sends : List Signal × List ℕ) → sends.1 ≡ []
        → (octets ≡ moved_text moved.0 ++ moved.1) × IfSome moved.0 (λ held. IsHeld held.0 × IsHeld held.1) → (moved.1 ≡ told [] sends.0 ++ sends.1) × All IsSendable sends.0
        → IsToldIn word.Message octets (Sent sends.0 moved.0 []) []
    by_parts moved sends none first second = record {
      named = refl;
      there = first.0 ∙ ap (λ (l : List ℕ). moved_text moved.0 ++ l) (second.0 ∙ rw none (append-nil (told [] sends.0)));
      fine = (second.1, first.1, refl);
      beside = refl;
    }

frame_told : (octets : List ℕ) (reply : Kept) (rows : List (List ℕ)) → frame_of octets ≡ Some (reply, rows) → IsToldIn word.Frame octets reply rows
frame_told octets reply rows found =
    let n = both (spaced_at octets) _ _ found in
    let sends = both (signals_at (codes " send") n.here.1) _ _ n.later in
    let are = both (rows_of sends.here.1) _ _ sends.later in
    let parts = some_pair_parts (Frame n.here.0 sends.here.0 []) reply are.here rows are.later in
    let first = spaced_text octets n.here.0 n.here.1 n.is in
    let second = signals_there (codes " send") n.here.1 sends.here.0 sends.here.1 sends.is in
    let third = rows_of_text sends.here.1 are.here are.is in
    by_parts n.here sends.here are.here parts.0 parts.1 first second third
  where
    by_parts : (n : ℕ × List ℕ) (sends : List Signal × List ℕ) (are : List (List ℕ)) → Frame n.0 sends.0 [] ≡ reply → are ≡ rows → (octets ≡ 32 ∷ (decimal n.0 ++ n.1)) × (n.0 < 2 ^ 32)
        → (n.1 ≡ told (codes " send") sends.0 ++ sends.1) × All IsSendable sends.0 → (sends.1 ≡ parts 0 are) × AreRows are → IsToldIn word.Frame octets reply rows
    by_parts n sends are is beside first second third = rw (← is, ← beside) (record {
      named = refl;
      there = first.0 ∙ ap (λ (l : List ℕ). 32 ∷ (decimal n.0 ++ l)) (second.0 ∙ ap (λ (l : List ℕ). told (codes " send") sends.0 ++ l) third.0);
      fine = (first.1, second.1, refl);
      beside = third.1;
    })

pub told_text : (w : Word) (octets : List ℕ) (reply : Kept) (rows : List (List ℕ)) → told_of w octets ≡ Some (reply, rows) → IsToldIn w octets reply rows
told_text word.Granted octets reply rows found =
    pair_told word.Granted (λ a. Granted a.0 a.1) octets reply rows (λ a text low high. record { named = refl; there = text; fine = (low, high); beside = refl }) found
told_text word.Busy octets reply rows found = plain_told word.Busy Busy octets reply rows (λ none. record { named = refl; there = none; fine = tt; beside = refl }) found
told_text word.Seated octets reply rows found =
    pair_told word.Seated (λ a. Seated a.0 a.1) octets reply rows (λ a text low high. record { named = refl; there = text; fine = (low, high); beside = refl }) found
told_text word.NoPort octets reply rows found = plain_told word.NoPort NoPort octets reply rows (λ none. record { named = refl; there = none; fine = tt; beside = refl }) found
told_text word.Freed octets reply rows found = plain_told word.Freed Freed octets reply rows (λ none. record { named = refl; there = none; fine = tt; beside = refl }) found
told_text word.NotNailed octets reply rows found = plain_told word.NotNailed NotNailed octets reply rows (λ none. record { named = refl; there = none; fine = tt; beside = refl }) found
told_text word.Message octets reply rows found =
    let read = both (message_of octets) alone _ found in
    told_alone read.here reply rows (message_told octets read.here read.is) read.later
told_text word.Frame octets reply rows found = frame_told octets reply rows found

-- ---- what a line says is read

pub told_back : (reply : Kept) (rows : List (List ℕ)) → IsNormalReply reply → AreNormalOctets reply rows → told_of (word_of reply) (body rows reply) ≡ Some (reply, rows)
told_back (Granted a b) rows fine beside = rw (beside, pair_whole a b fine.0 fine.1) refl
told_back Busy rows fine beside = rw beside refl
told_back (Seated a b) rows fine beside = rw (beside, pair_whole a b fine.0 fine.1) refl
told_back NoPort rows fine beside = rw beside refl
told_back Freed rows fine beside = rw beside refl
told_back NotNailed rows fine beside = rw beside refl
told_back (Sent sends moved records) rows fine beside = rw (beside, fine.2, message_back moved sends fine.1 fine.0) refl
told_back (Frame n sends records) rows fine beside = rw fine.2 (frame_back n sends rows fine.0 fine.1 beside)
