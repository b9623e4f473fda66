-- Lines as most are written, against the definitions of words and numerals.
use Rattle.std.proofs.Common.{◌≡◌, ◌≢◌, ℕ, zero, suc, ◌+◌, ◌*◌, ◌-◌, ◌%◌, ◌<◌, ◌≤◌, Bool, true, false, ◌&&◌, eqb, List, [], ◌∷◌, ◌++◌, length, get_or, set, take, drop, Option, Some, None, is_some, Ok, refl, sym, ap, ◌∙◌, arith, append_assoc, length-append}
use Rattle.std.specs.Prelude.{codes, not, filter, IfSome}
use Rattle.std.specs.List.{list_all, slice_split, prefix_len}
use Rattle.std.specs.Char.{is_ascii_digit}
use Rattle.std.proofs.lemmas.Bool.{eq-eqb, ne_eqb, eqb-true, lt-ltb}
use Rattle.std.proofs.lemmas.Bool.Decides.{nat_tests}
use Rattle.std.proofs.lemmas.List.{append-nil, take_all, take-append-drop, take_at, drop_at, drop-drop, length-take-le}
use Rattle.std.proofs.lemmas.List.Folds.{list_all-append}
use Rattle.circuit_model.specs.FrameInput.{Input}
use Rattle.trace_text.specs.TraceWords.{words, cut_at, numeral, is_octet, is_empty, is_printable, is_comment}
use Rattle.trace_text.specs.TraceFields.{digit_value, is_digit, octets_written, thirty, at_most, max_message_len, external_line}
use Rattle.trace_text.specs.TraceLines.{frame, nail, free, message, reads, SoFar}
use Rattle.trace_text.specs.TracePlain.{ends_word, NumberAt, PartAt, SlotAt, TakesPart, GivesPlainly, IsPlain}
use Rattle.exchange_events.specs.declared.trace.Event.{Event}
use Rattle.exchange_events.specs.declared.trace.Event.TheVariants as happening
use Rattle.circuit_model.specs.Channels.{place_of}
use Rattle.circuit_model.specs.Circuits.{same_slot}
use Rattle.circuit_model.specs.declared.channel.Slot.{Slot}
use Rattle.trace_text.specs.declared.said.Sizes.{Sizes}
use Rattle.trace_text.specs.declared.said.Said.TheVariants as Said
use Rattle.trace_text.proofs.TraceOctets.{by_kind, all_digits, octets_written_odd_digits}
use Rattle.trace_text.proofs.TraceParts.{part_given, reads_by_kind}

pub and_both : (a b : Bool) → (a && b) ≡ true → (a ≡ true) × (b ≡ true)
and_both true true h = (refl, refl)
and_both true false h = absurd cc
and_both false b h = absurd cc

pub weaker : (p q : ℕ → Bool) → ((x : ℕ) → p x ≡ true → q x ≡ true) → (xs : List ℕ) → list_all p xs ≡ true → list_all q xs ≡ true
weaker p q f [] h = refl
weaker p q f (x ∷ xs) h = let both = and_both (p x) (list_all p xs) h in rw (f x both.0, weaker p q f xs both.1) refl

-- the octet is another one
abbrev pub is_other : ℕ → ℕ → Bool
is_other mark octet = not (eqb octet mark)

other : (mark x : ℕ) → x ≢ mark → is_other mark x ≡ true
other mark x h = rw (ne_eqb x mark h) refl

not_true : (b : Bool) → not b ≡ true → b ≡ false
not_true true h = absurd cc
not_true false h = refl

-- ---- digits

decimal_seen : (x : ℕ) → is_ascii_digit x ≡ true → (48 ≤ x) × (x ≤ 57)
decimal_seen x h = grind (arith, nat_tests)

held : (o : Option ℕ) (P : Type 0) → IfSome o (λ v. P) → is_some o ≡ true → P
held None P p h = absurd cc
held (Some v) P p h = p

hex_seen : (x : ℕ) → is_digit x ≡ true → (48 ≤ x) × (x ≤ 102)
hex_seen x h =
    held (digit_value x) ((48 ≤ x) × (x ≤ 102)) (by_kind x (λ v. (48 ≤ x) × (x ≤ 102)) (λ l h. (omega arith, omega arith)) (λ l h. (omega arith, omega arith)) (λ l h. (omega arith, omega arith))) h

printable : (x : ℕ) → 32 ≤ x → x ≤ 126 → is_printable x ≡ true
printable x low high = grind (arith, nat_tests)

-- decimal digits are none of the marks between words and fields
pub decimal_other : (mark : ℕ) → mark < 48 → (xs : List ℕ) → list_all is_ascii_digit xs ≡ true → list_all (is_other mark) xs ≡ true
decimal_other mark below = weaker is_ascii_digit (is_other mark) (λ x h. let seen = decimal_seen x h in other mark x (λ e. omega (arith, seen, e)))

pub decimal_other_above : (mark : ℕ) → 57 < mark → (xs : List ℕ) → list_all is_ascii_digit xs ≡ true → list_all (is_other mark) xs ≡ true
decimal_other_above mark above = weaker is_ascii_digit (is_other mark) (λ x h. let seen = decimal_seen x h in other mark x (λ e. omega (arith, seen, e)))

pub decimal_text : (xs : List ℕ) → list_all is_ascii_digit xs ≡ true → list_all is_printable xs ≡ true
decimal_text = weaker is_ascii_digit is_printable (λ x h. let seen = decimal_seen x h in printable x (omega (arith, seen)) (omega (arith, seen)))

pub hex_other : (mark : ℕ) → mark < 48 → (xs : List ℕ) → list_all is_digit xs ≡ true → list_all (is_other mark) xs ≡ true
hex_other mark below = weaker is_digit (is_other mark) (λ x h. let seen = hex_seen x h in other mark x (λ e. omega (arith, seen, e)))

pub hex_text : (xs : List ℕ) → list_all is_digit xs ≡ true → list_all is_printable xs ≡ true
hex_text = weaker is_digit is_printable (λ x h. let seen = hex_seen x h in printable x (omega (arith, seen)) (omega (arith, seen)))

-- ---- words

split_front : (word others : List ℕ) → list_all (is_other 32) word ≡ true → slice_split (is_octet 32) (word ++ 32 ∷ others) ≡ word ∷ slice_split (is_octet 32) others
split_front [] others h = refl
split_front (x ∷ xs) others h =
    let both = and_both (is_other 32 x) (list_all (is_other 32) xs) h in
    let e : eqb x 32 ≡ false = not_true (eqb x 32) both.0 in
    rw (e, split_front xs others both.1) refl

split_alone : (word : List ℕ) → list_all (is_other 32) word ≡ true → slice_split (is_octet 32) word ≡ word ∷ []
split_alone [] h = refl
split_alone (x ∷ xs) h =
    let both = and_both (is_other 32 x) (list_all (is_other 32) xs) h in
    let e : eqb x 32 ≡ false = not_true (eqb x 32) both.0 in
    rw (e, split_alone xs both.1) refl

-- a word that ends where the others begin
pub words_front : (word others : List ℕ) → 0 < length word → list_all (is_other 32) word ≡ true → ends_word others ≡ true → words (word ++ others) ≡ word ∷ words others
words_front [] others some h ends = absurd (omega arith)
words_front (x ∷ xs) [] some h ends =
    ap words (append-nil (x ∷ xs)) ∙ ap (λ runs. filter (λ run. not (is_empty run)) runs) (split_alone (x ∷ xs) h)
words_front (x ∷ xs) (y ∷ ys) some h ends =
    let space : y ≡ 32 = eqb-true y 32 ends in
    rw space (ap (λ runs. filter (λ run. not (is_empty run)) runs) (split_front (x ∷ xs) ys h))

-- ---- the mark within a word

mark_found : (mark : ℕ) (front tail : List ℕ) → list_all (is_other mark) front ≡ true → prefix_len (λ x. not (is_octet mark x)) (front ++ mark ∷ tail) ≡ length front
mark_found mark [] tail h = let e : eqb mark mark ≡ true = eq-eqb mark mark refl in rw e refl
mark_found mark (x ∷ xs) tail h =
    let both = and_both (is_other mark x) (list_all (is_other mark) xs) h in
    let e : eqb x mark ≡ false = not_true (eqb x mark) both.0 in
    rw (e, mark_found mark xs tail both.1) (omega arith)

pub cut_front : (mark : ℕ) (front tail : List ℕ) → list_all (is_other mark) front ≡ true → cut_at mark (front ++ mark ∷ tail) ≡ Some (front, tail)
cut_front mark front tail h =
    let whole = front ++ mark ∷ tail in
    let first = take_at front (mark ∷ tail) (length front) refl in
    let second : drop (length front + 1) whole ≡ tail = sym (drop-drop 1 (length front) whole) ∙ ap (drop 1) (drop_at front (mark ∷ tail) (length front) refl) in
    let inside = lt-ltb (length front) (length whole) (omega (arith, length-append front (mark ∷ tail))) in
    rw (mark_found mark front tail h, inside, first, second) refl

-- ---- numerals of one or two digits

one_numeral : (d : ℕ) → d < 10 → numeral ((48 + d) ∷ []) ≡ Some d
one_numeral d small =
    let e : is_ascii_digit (48 + d) ≡ true = grind (arith, nat_tests) in
    let v : 0 * 10 + (48 + d - 48) ≡ d = omega arith in
    rw e (ap (λ (n : ℕ). Some n) v)

two_numeral : (t d : ℕ) → 0 < t → t < 10 → d < 10 → numeral ((48 + t) ∷ (48 + d) ∷ []) ≡ Some (10 * t + d)
two_numeral t d some less small =
    let e : is_ascii_digit (48 + t) ≡ true = grind (arith, nat_tests) in
    let f : is_ascii_digit (48 + d) ≡ true = grind (arith, nat_tests) in
    let g : eqb (48 + t) 48 ≡ false = ne_eqb (48 + t) 48 (λ h. omega (arith, h)) in
    let v : (0 * 10 + (48 + t - 48)) * 10 + (48 + d - 48) ≡ 10 * t + d = omega arith in
    rw (e, f, g) (ap (λ (n : ℕ). Some n) v)

pub NumberAt_one_digit : (octets others : List ℕ) (d : ℕ) → octets ≡ (48 + d) ∷ others → d < 10 → NumberAt octets d others
NumberAt_one_digit octets others d parts small =
    let e : is_ascii_digit (48 + d) ≡ true = grind (arith, nat_tests) in
    record { front = (48 + d) ∷ []; digits = rw e refl; number = one_numeral d small; parts = parts }

pub NumberAt_two_digits : (octets behind others : List ℕ) (t d : ℕ) → octets ≡ (48 + t) ∷ behind → t < 10 → behind ≡ (48 + d) ∷ others → d < 10 → 0 < t → NumberAt octets (10 * t + d) others
NumberAt_two_digits octets behind others t d parts less more small some =
    let e : is_ascii_digit (48 + t) ≡ true = grind (arith, nat_tests) in
    let f : is_ascii_digit (48 + d) ≡ true = grind (arith, nat_tests) in
    record { front = (48 + t) ∷ (48 + d) ∷ []; digits = rw (e, f) refl; number = two_numeral t d some less small; parts = parts ∙ ap (λ (l : List ℕ). (48 + t) ∷ l) more }

-- octets by their first and the others, as a pattern finds them
pub first_is : (xs : List ℕ) (x : ℕ) → 1 ≤ length xs → get_or xs 0 0 ≡ x → xs ≡ x ∷ take (length xs - 1) (drop 1 xs)
first_is [] x some is = absurd (omega arith)
first_is (y ∷ ys) x some is = let all : take (suc (length ys) - 1) ys ≡ ys = take_all (suc (length ys) - 1) ys (omega arith) in rw (all, is) refl

-- ---- a part of a frame

pub part_found : (rest behind others : List ℕ) (line : ℕ) → 1 ≤ length rest → get_or rest 0 0 ≡ 32 → NumberAt (take (length rest - 1) (drop 1 rest)) line behind
    → 1 ≤ length behind → get_or behind 0 0 ≡ 58 → 60 ≤ length (take (length behind - 1) (drop 1 behind)) → others ≡ drop 60 (take (length behind - 1) (drop 1 behind)) → ends_word others ≡ true
    → PartAt rest line (take 60 (take (length behind - 1) (drop 1 behind))) others
part_found rest behind others line some space number more mark room left ends =
    let after : List ℕ = take (length behind - 1) (drop 1 behind) in
    let sixty : List ℕ = take 60 after in
    let cut : after ≡ sixty ++ others = sym (take-append-drop 60 after) ∙ ap (λ (l : List ℕ). sixty ++ l) (sym left) in
    record {
      front = number.front;
      digits = number.digits;
      number = number.number;
      parts = first_is rest 32 some space ∙ ap (λ (l : List ℕ). 32 ∷ l) (number.parts ∙ ap (λ (l : List ℕ). number.front ++ l) (first_is behind 58 more mark ∙ ap (λ (l : List ℕ). 58 ∷ l) cut));
      whole = length-take-le 60 after room;
      ends = ends;
    }

some_written : (o : Option (List ℕ)) (octets : List ℕ) → thirty o ≡ Ok octets → is_some o ≡ true
some_written None octets h = absurd cc
some_written (Some written) octets h = refl

pub takes_part : (given : Input) (rest sixty others octets : List ℕ) (line : ℕ) → PartAt rest line sixty others → line < length given → is_some (get_or given line None) ≡ false
    → thirty (octets_written sixty) ≡ Ok octets → TakesPart given (set given line (Some octets)) rest others
takes_part given rest sixty others octets line at within free read =
    let even : length sixty % 2 ≡ 0 = omega (arith, at.whole) in
    let digits : list_all is_digit sixty ≡ true = sym (all_digits sixty even) ∙ some_written (octets_written sixty) octets read in
    let tail : List ℕ = 58 ∷ sixty in
    let word : List ℕ = at.front ++ tail in
    let parts : rest ≡ 32 ∷ (word ++ others) = at.parts ∙ ap (λ (l : List ℕ). 32 ∷ l) (sym (append_assoc at.front tail others)) in
    let plain : list_all (is_other 32) word ≡ true = list_all-append (is_other 32) at.front tail ∙ rw (decimal_other 32 (omega arith) at.front at.digits, hex_other 32 (omega arith) sixty digits) refl in
    let named : external_line (length given) at.front ≡ Some line = let lt = lt-ltb line (length given) within in rw (at.number, lt) refl in
    record {
      word = word;
      cut = ap words parts ∙ words_front word others (omega (arith, length-append at.front tail)) plain at.ends;
      shorter = omega (arith, ap length parts, length-append word others);
      put = part_given (length given) given word (at.front, sixty) line octets (cut_front 58 at.front sixty (decimal_other_above 58 (omega arith) at.front at.digits)) named free read;
      text = λ h. ap (list_all is_printable) parts ∙ list_all-append is_printable word others ∙ rw (h, list_all-append is_printable at.front tail, decimal_text at.front at.digits, hex_text sixty digits) refl;
    }

-- ---- lines

-- a frame's line
pub frame_reads : (s : SoFar) (sizes : Sizes) (rest : List ℕ) (event : Event) → s.sizes ≡ Some sizes → ends_word rest ≡ true → GivesPlainly (frame sizes.external (words rest)) rest event
    → reads s (70 ∷ rest) ≡ Ok (Said.Happens event)
frame_reads s sizes rest event known ends plain =
    reads_by_kind s sizes (70 ∷ rest) (70 ∷ []) (words rest) known refl (words_front (70 ∷ []) rest (omega arith) refl ends) (rw plain.text refl) ∙ rw plain.reads refl

-- a line of one octet
pub only_is : (xs : List ℕ) (x : ℕ) → length xs ≡ 1 → get_or xs 0 0 ≡ x → xs ≡ x ∷ []
only_is [] x one is = absurd (omega (arith, one))
only_is (y ∷ []) x one is = ap (λ z. z ∷ []) is
only_is (y ∷ z ∷ zs) x one is = absurd (omega (arith, one))

pub some_weaker : {A : Type 0} (o : Option A) (P Q : A → Type 0) → ((x : A) → P x → Q x) → IfSome o P → IfSome o Q
some_weaker None P Q f h = tt
some_weaker (Some x) P Q f h = f x h

-- ---- slots

-- octets that a pattern finds behind their first
pub behind_first : (xs ys : List ℕ) (x : ℕ) → 1 ≤ length xs → get_or xs 0 0 ≡ x → ys ≡ take (length xs - 1) (drop 1 xs) → xs ≡ x ∷ ys
behind_first xs ys x some is e = rw e (first_is xs x some is)

pub slot_found : (external : ℕ) (octets behind others : List ℕ) (line channel place : ℕ) → NumberAt octets line behind → 1 ≤ length behind → get_or behind 0 0 ≡ 47
    → NumberAt (take (length behind - 1) (drop 1 behind)) channel others → line < external → place_of channel ≡ Some place → SlotAt external octets (record { line = line; place = place }) others
slot_found external octets behind others line channel place first some mark second within found =
    let tail : List ℕ = 47 ∷ second.front in
    let word : List ℕ = first.front ++ tail in
    let cut = cut_front 47 first.front second.front (decimal_other 47 (omega arith) first.front first.digits) in
    let named : external_line external first.front ≡ Some line = let lt = lt-ltb line external within in rw (first.number, lt) refl in
    record {
      word = word;
      some = omega (arith, length-append first.front tail);
      whole = list_all-append (is_other 32) first.front tail ∙ rw (decimal_other 32 (omega arith) first.front first.digits, decimal_other 32 (omega arith) second.front second.digits) refl;
      text = list_all-append is_printable first.front tail ∙ rw (decimal_text first.front first.digits, decimal_text second.front second.digits) refl;
      names = rw (cut, named, second.number, found) refl;
      parts = first.parts ∙ ap (λ (l : List ℕ). first.front ++ l) (first_is behind 47 some mark ∙ ap (λ (l : List ℕ). 47 ∷ l) second.parts) ∙ sym (append_assoc first.front tail others);
    }

-- a word at the end of a line
last_word : (word : List ℕ) → 0 < length word → list_all (is_other 32) word ≡ true → words (32 ∷ word) ≡ word ∷ []
last_word word some whole = ap (λ l. words (32 ∷ l)) (sym (append-nil word)) ∙ words_front word [] some whole refl

five_are : (xs : List ℕ) (a b c d e : ℕ) → 5 ≤ length xs → get_or xs 0 0 ≡ a → get_or xs 1 0 ≡ b → get_or xs 2 0 ≡ c → get_or xs 3 0 ≡ d → get_or xs 4 0 ≡ e
    → xs ≡ a ∷ b ∷ c ∷ d ∷ e ∷ take (length xs - 5) (drop 5 xs)
five_are [] a b c d e some p q r s t = absurd (omega arith)
five_are (u ∷ []) a b c d e some p q r s t = absurd (omega arith)
five_are (u ∷ v ∷ []) a b c d e some p q r s t = absurd (omega arith)
five_are (u ∷ v ∷ w ∷ []) a b c d e some p q r s t = absurd (omega arith)
five_are (u ∷ v ∷ w ∷ x ∷ []) a b c d e some p q r s t = absurd (omega arith)
five_are (u ∷ v ∷ w ∷ x ∷ y ∷ ys) a b c d e some p q r s t =
    let all : take (length (u ∷ v ∷ w ∷ x ∷ y ∷ ys) - 5) ys ≡ ys = take_all (length (u ∷ v ∷ w ∷ x ∷ y ∷ ys) - 5) ys (omega arith) in
    rw (all, p, q, r, s, t) refl

pub free_gives : (external : ℕ) (line others : List ℕ) (at : Slot) → 5 ≤ length line → get_or line 0 0 ≡ 102 → get_or line 1 0 ≡ 114 → get_or line 2 0 ≡ 101 → get_or line 3 0 ≡ 101 → get_or line 4 0 ≡ 32
    → SlotAt external (take (length line - 5) (drop 5 line)) at others → length others ≡ 0 → IsPlain (codes "free") (free external) line (happening.Free at)
free_gives external line [] at some p q r u v s none =
    let same : line ≡ codes "free" ++ 32 ∷ s.word = five_are line 102 114 101 101 32 some p q r u v ∙ ap (λ (l : List ℕ). codes "free" ++ 32 ∷ l) (s.parts ∙ append-nil s.word) in
    record {
      others = s.word ∷ [];
      cut = ap words same ∙ words_front (codes "free") (32 ∷ s.word) (omega arith) refl refl ∙ ap (λ (l : List (List ℕ)). codes "free" ∷ l) (last_word s.word s.some s.whole);
      reads = rw s.names refl;
      text = ap (list_all is_printable) same ∙ s.text;
      said = ap is_comment same;
    }
free_gives external line (x ∷ others) at some p q r u v s none = absurd (omega arith)

pub nail_gives : (external : ℕ) (line rest others : List ℕ) (one other : Slot) → 5 ≤ length line → get_or line 0 0 ≡ 110 → get_or line 1 0 ≡ 97 → get_or line 2 0 ≡ 105 → get_or line 3 0 ≡ 108 → get_or line 4 0 ≡ 32
    → SlotAt external (take (length line - 5) (drop 5 line)) one rest → 1 ≤ length rest → get_or rest 0 0 ≡ 32 → SlotAt external (take (length rest - 1) (drop 1 rest)) other others → length others ≡ 0
    → same_slot one other ≡ false → IsPlain (codes "nail") (nail external) line (happening.Nail one other)
nail_gives external line rest [] one other some p q r u v s more space t none apart =
    let second : rest ≡ 32 ∷ t.word = first_is rest 32 more space ∙ ap (λ (l : List ℕ). 32 ∷ l) (t.parts ∙ append-nil t.word) in
    let ends : ends_word rest ≡ true = rw second refl in
    let same : line ≡ codes "nail" ++ 32 ∷ (s.word ++ rest) = five_are line 110 97 105 108 32 some p q r u v ∙ ap (λ (l : List ℕ). codes "nail" ++ 32 ∷ l) s.parts in
    let slots : words (32 ∷ (s.word ++ rest)) ≡ s.word ∷ t.word ∷ [] =
    words_front s.word rest s.some s.whole ends ∙ ap (λ (l : List (List ℕ)). s.word ∷ l) (ap words second ∙ last_word t.word t.some t.whole) in
    let printed : list_all is_printable (s.word ++ rest) ≡ true = list_all-append is_printable s.word rest ∙ rw (s.text, second, t.text) refl in
    record {
      others = s.word ∷ t.word ∷ [];
      cut = ap words same ∙ words_front (codes "nail") (32 ∷ (s.word ++ rest)) (omega arith) refl refl ∙ ap (λ (l : List (List ℕ)). codes "nail" ∷ l) slots;
      reads = rw (s.names, t.names, apart) refl;
      text = ap (list_all is_printable) same ∙ printed;
      said = ap is_comment same;
    }
nail_gives external line rest (x ∷ others) one other some p q r u v s more space t none apart = absurd (omega arith)

-- ---- messages

two_are : (xs : List ℕ) (a b : ℕ) → 2 ≤ length xs → get_or xs 0 0 ≡ a → get_or xs 1 0 ≡ b → xs ≡ a ∷ b ∷ take (length xs - 2) (drop 2 xs)
two_are [] a b some p q = absurd (omega arith)
two_are (u ∷ []) a b some p q = absurd (omega arith)
two_are (u ∷ v ∷ ys) a b some p q =
    let all : take (length (u ∷ v ∷ ys) - 2) ys ≡ ys = take_all (length (u ∷ v ∷ ys) - 2) ys (omega arith) in
    rw (all, p, q) refl

written_few : (most : ℕ) (o : Option (List ℕ)) (octets : List ℕ) → at_most most o ≡ Ok octets → is_some o ≡ true
written_few most None octets h = absurd cc
written_few most (Some written) octets h = refl

odd_none : (digits : List ℕ) → length digits % 2 ≢ 0 → is_some (octets_written digits) ≡ false
odd_none digits odd = rw (octets_written_odd_digits digits odd) refl

both_ways : (digits : List ℕ) → is_some (octets_written digits) ≡ true → (n : ℕ) → n ≡ length digits % 2 → list_all is_digit digits ≡ true
both_ways digits some zero e = sym (all_digits digits (sym e)) ∙ some
both_ways digits some (suc n) e = let none = odd_none digits (λ h. omega (arith, e, h)) in absurd cc

-- a numeral has a digit
number_filled : (front : List ℕ) (n : ℕ) → numeral front ≡ Some n → 0 < length front
number_filled [] n e = absurd cc
number_filled (x ∷ xs) n e = omega arith

pub message_gives : (external : ℕ) (line rest octets : List ℕ) (number : ℕ) → 2 ≤ length line → get_or line 0 0 ≡ 77 → get_or line 1 0 ≡ 32
    → NumberAt (take (length line - 2) (drop 2 line)) number rest → 1 ≤ length rest → get_or rest 0 0 ≡ 32 → number < external → 0 < length (take (length rest - 1) (drop 1 rest))
    → at_most max_message_len (octets_written (take (length rest - 1) (drop 1 rest))) ≡ Ok octets → IsPlain (codes "M") (message external) line (happening.Message number octets)
message_gives external line rest octets number some p q s more space within filled read =
    let digits : List ℕ = take (length rest - 1) (drop 1 rest) in
    let all : list_all is_digit digits ≡ true = both_ways digits (written_few max_message_len (octets_written digits) octets read) (length digits % 2) refl in
    let second : rest ≡ 32 ∷ digits = first_is rest 32 more space in
    let ends : ends_word rest ≡ true = rw second refl in
    let filled_front : 0 < length s.front = number_filled s.front number s.number in
    let same : line ≡ codes "M" ++ 32 ∷ (s.front ++ rest) = two_are line 77 32 some p q ∙ ap (λ (l : List ℕ). 77 ∷ 32 ∷ l) s.parts in
    let fields : words (32 ∷ (s.front ++ rest)) ≡ s.front ∷ digits ∷ [] =
    words_front s.front rest filled_front (decimal_other 32 (omega arith) s.front s.digits) ends ∙ ap (λ (l : List (List ℕ)). s.front ∷ l) (ap words second ∙ last_word digits filled (hex_other 32 (omega arith) digits all)) in
    let printed : list_all is_printable (s.front ++ rest) ≡ true = list_all-append is_printable s.front rest ∙ rw (decimal_text s.front s.digits, second, hex_text digits all) refl in
    let named : external_line external s.front ≡ Some number = let lt = lt-ltb number external within in rw (s.number, lt) refl in
    record {
      others = s.front ∷ digits ∷ [];
      cut = ap words same ∙ words_front (codes "M") (32 ∷ (s.front ++ rest)) (omega arith) refl refl ∙ ap (λ (l : List (List ℕ)). codes "M" ∷ l) fields;
      reads = rw (named, read) refl;
      text = ap (list_all is_printable) same ∙ printed;
      said = ap is_comment same;
    }
