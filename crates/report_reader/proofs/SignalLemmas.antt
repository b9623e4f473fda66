-- Messages at the beginning of octets, one after another.
use Rattle.std.proofs.Common.{◌≡◌, ℕ, zero, suc, ◌+◌, ◌^◌, ◌<◌, ◌≤◌, true, ltb, leb, List, [], ◌∷◌, ◌++◌, length, codes, Option, Some, None, All, decimal, refl, sym, ap, ◌∙◌, arith, append_assoc, length-append}
use Rattle.std.proofs.lemmas.Bool.{lt-ltb, ltb-true, leb-true, and_parts}
use Rattle.std.proofs.lemmas.List.{append-nil}
use Rattle.std.proofs.lemmas.List.Elements.{All-nil, All-cons, All-head, All-tail}
use Rattle.std.proofs.lemmas.Option.{some_pair_parts}
use Rattle.circuit_model.specs.Channels.{between}
use Rattle.hex.specs.Hex.{encode_upper}
use Rattle.exchange_events.specs.declared.signal.Signal.{Signal}
use Rattle.report_text.specs.Report.{frame_messages, messages, on_line}
use Rattle.report_reader.specs.Spelling.{IsSendable}
use Rattle.report_reader.specs.Reading.{behind, octets_at, octets_front, passing, signal_at, signals_at, signals_in, signals_step, spaced_at}
use Rattle.report_reader.proofs.StepLemmas.{both, passed}
use Rattle.report_reader.proofs.WordLemmas.{behind_text, behind_word}
use Rattle.report_reader.proofs.NumberLemmas.{spaced_back, spaced_text}
use Rattle.report_reader.proofs.OctetLemmas.{octet_at_apart_none, passing_by_count, front_back, front_text, is_apart}

-- ---- one message

-- the octets of a line, and what follows them
pub line_text : (line : ℕ) (octets rest : List ℕ) → on_line line octets ++ rest ≡ 32 ∷ (decimal line ++ 58 ∷ (encode_upper octets ++ rest))
line_text line octets rest = simp append_assoc refl

pub record IsSignalBefore (octets : List ℕ) (sent : Signal) (rest : List ℕ) : Type 0 where
  pub there : octets ≡ on_line sent.line sent.octets ++ rest
  pub sendable : IsSendable sent

counted : (n : ℕ) → between 1 112 n ≡ true → (1 ≤ n) × (n ≤ 112)
counted n test = let parts = and_parts (leb 1 n) (leb n 112) test in (leb-true 1 n parts.0, leb-true n 112 parts.1)

octets_there : (text octets rest : List ℕ) → octets_at text ≡ Some (octets, rest)
    → (text ≡ encode_upper octets ++ rest) × ((1 ≤ length octets) × (length octets ≤ 112)) × All (λ octet. octet < 256) octets
octets_there text octets rest found =
    let test = passed (between 1 112 (length (octets_front text).0)) (octets_front text) (octets, rest) found in
    let read = front_text text in
    let some = counted (length (octets_front text).0) test.0 in
    by_front (octets_front text) test.1 read.there some read.octets
  where
    by_front : (front : List ℕ × List ℕ) → front ≡ (octets, rest) → text ≡ encode_upper front.0 ++ front.1 → (1 ≤ length front.0) × (length front.0 ≤ 112)
        → All (λ octet. octet < 256) front.0 → (text ≡ encode_upper octets ++ rest) × ((1 ≤ length octets) × (length octets ≤ 112)) × All (λ octet. octet < 256) octets
    by_front front same there some all =
        let first : front.0 ≡ octets = ap (λ (f : List ℕ × List ℕ). f.0) same in
        let second : front.1 ≡ rest = ap (λ (f : List ℕ × List ℕ). f.1) same in
        (rw (first, second) at there, rw first at some, rw first at all)

pub signal_text : (octets : List ℕ) (sent : Signal) (rest : List ℕ) → signal_at octets ≡ Some (sent, rest) → IsSignalBefore octets sent rest
signal_text octets sent rest found =
    let line = both (spaced_at octets) _ _ found in
    let here = both (passing (ltb line.here.0 32) line.here) _ _ line.later in
    let test = passed (ltb line.here.0 32) line.here here.here here.is in
    let mark = both (behind (58 ∷ []) here.here.1) _ _ here.later in
    let read = both (octets_at mark.here) _ _ mark.later in
    by_parts line.here here.here mark.here read.here (spaced_text octets line.here.0 line.here.1 line.is) (ltb-true line.here.0 32 test.0) test.1
    (behind_text (58 ∷ []) here.here.1 mark.here mark.is) (octets_there mark.here read.here.0 read.here.1 read.is) (some_pair_parts _ sent read.here.1 rest read.later)
  where
    by_parts : (line here : ℕ × List ℕ) (mark : List ℕ) (read : List ℕ × List ℕ)
        → (octets ≡ 32 ∷ (decimal line.0 ++ line.1)) × (line.0 < 2 ^ 32) → line.0 < 32 → line ≡ here → here.1 ≡ 58 ∷ mark
        → (mark ≡ encode_upper read.0 ++ read.1) × ((1 ≤ length read.0) × (length read.0 ≤ 112)) × All (λ octet. octet < 256) read.0
        → (◌≡◌ {A = Signal} (record { line = line.0; octets = read.0 }) sent) × (read.1 ≡ rest) → IsSignalBefore octets sent rest
    by_parts line here mark read spaced below same colon there parts =
        let behind_it : line.1 ≡ 58 ∷ mark = ap (λ (l : ℕ × List ℕ). l.1) same ∙ colon in
        rw (← parts.0) (record {
          there = rw (spaced.0, behind_it, there.0, parts.1) (sym (line_text line.0 read.0 rest));
          sendable = record { line = below; some = there.1.0; few = there.1.1; octets = there.2 };
        })

pub signal_back : (sent : Signal) (rest : List ℕ) → IsSendable sent → is_apart rest ≡ true → signal_at (on_line sent.line sent.octets ++ rest) ≡ Some (sent, rest)
signal_back sent rest fine apart =
    let line = spaced_back sent.line (58 ∷ (encode_upper sent.octets ++ rest)) (omega (arith, fine.line)) refl in
    let mark = behind_word (58 ∷ []) (encode_upper sent.octets ++ rest) in
    let front = front_back sent.octets rest fine.octets (octet_at_apart_none rest apart) in
    let octets : octets_at (encode_upper sent.octets ++ rest) ≡ Some (sent.octets, rest) = passing_by_count (octets_front (encode_upper sent.octets ++ rest)) sent.octets rest
    (sym (ap (λ (f : List ℕ × List ℕ). f.0) front)) (sym (ap (λ (f : List ℕ × List ℕ). f.1) front)) fine.some fine.few in
    let below : ltb sent.line 32 ≡ true = lt-ltb sent.line 32 fine.line in
    rw (line_text sent.line sent.octets rest, line, below, mark, octets) refl

pub signal_shorter : (octets : List ℕ) (sent : Signal) (rest : List ℕ) → signal_at octets ≡ Some (sent, rest) → length rest < length octets
signal_shorter octets sent rest found =
    let long = ap length ((signal_text octets sent rest found).there ∙ line_text sent.line sent.octets rest) in
    omega (arith, long, length-append (decimal sent.line) (58 ∷ (encode_upper sent.octets ++ rest)), length-append (encode_upper sent.octets) rest)

-- ---- messages in a row

-- what is read with some messages behind it is all that is read, in some rounds more
pub record GoesOn (mark all : List ℕ) (sends : List Signal) (rest : List ℕ) : Type 0 where
  pub rounds : ℕ
  pub enough : length rest < rounds
  pub same : signals_in rounds mark sends rest ≡ signals_at mark all

-- a step by what comes after the word
pub signals_in_step_by : (k : ℕ) (mark : List ℕ) (sends : List Signal) (rest : List ℕ) (found : Option (List ℕ)) → behind mark rest ≡ found
    → signals_in (suc k) mark sends rest ≡ signals_step found sends rest (signals_in k mark)
unfolding signals_in
signals_in_step_by k mark sends rest found is = rw is refl

pub GoesOn_begun : (mark all : List ℕ) (sends : List Signal) → sends ≡ [] → GoesOn mark all sends all
GoesOn_begun mark all sends none = rw none (record { rounds = length all + 1; enough = omega arith; same = refl })

-- no word is at the beginning, or nothing follows it
pub signals_end : (mark all rest : List ℕ) (sends : List Signal) → GoesOn mark all sends rest → (behind mark rest ≡ None) → signals_at mark all ≡ Some (sends, rest)
signals_end mark all rest sends goes none = by_rounds goes.rounds goes.enough goes.same
  where
    by_rounds : (k : ℕ) → length rest < k → signals_in k mark sends rest ≡ signals_at mark all → signals_at mark all ≡ Some (sends, rest)
    by_rounds zero enough same = absurd (omega arith)
    by_rounds (suc k) enough same = sym same ∙ signals_in_step_by k mark sends rest None none

pub signals_empty : (mark all rest front : List ℕ) (sends : List Signal) → GoesOn mark all sends rest → behind mark rest ≡ Some front → length front ≡ 0
    → signals_at mark all ≡ Some (sends, rest)
signals_empty mark all rest [] sends goes found empty = by_rounds goes.rounds goes.enough goes.same
  where
    by_rounds : (k : ℕ) → length rest < k → signals_in k mark sends rest ≡ signals_at mark all → signals_at mark all ≡ Some (sends, rest)
    by_rounds zero enough same = absurd (omega arith)
    by_rounds (suc k) enough same = sym same ∙ signals_in_step_by k mark sends rest (Some []) found
signals_empty mark all rest (octet ∷ front) sends goes found empty = absurd (omega arith)

-- what follows the word is no message
pub signals_none : (mark all rest front : List ℕ) (sends : List Signal) → GoesOn mark all sends rest → behind mark rest ≡ Some front → (length front ≡ 0 → ⊥)
    → signal_at front ≡ None → signals_at mark all ≡ None
signals_none mark all rest [] sends goes found some none = absurd (some refl)
signals_none mark all rest (octet ∷ front) sends goes found some none = by_rounds goes.rounds goes.enough goes.same
  where
    by_rounds : (k : ℕ) → length rest < k → signals_in k mark sends rest ≡ signals_at mark all → signals_at mark all ≡ None
    by_rounds zero enough same = absurd (omega arith)
    by_rounds (suc k) enough same = sym same ∙ signals_in_step_by k mark sends rest (Some (octet ∷ front)) found ∙ (rw none refl)

behind_fits : (mark rest front : List ℕ) → behind mark rest ≡ Some front → length front ≤ length rest
behind_fits mark rest front found = let long = ap length (behind_text mark rest front found) in omega (arith, long, length-append mark front)

pub front_shorter : (mark rest front others : List ℕ) (sent : Signal) → behind mark rest ≡ Some front → signal_at front ≡ Some (sent, others) → length others < length rest
front_shorter mark rest front others sent found next = let fits = behind_fits mark rest front found in let less = signal_shorter front sent others next in omega arith

pub signals_more : (mark all rest front others : List ℕ) (sends more : List Signal) (sent : Signal) → GoesOn mark all sends rest → behind mark rest ≡ Some front
    → (length front ≡ 0 → ⊥) → signal_at front ≡ Some (sent, others) → more ≡ sends ++ sent ∷ [] → GoesOn mark all more others
signals_more mark all rest [] others sends more sent goes found some next pushed = absurd (some refl)
signals_more mark all rest (octet ∷ front) others sends more sent goes found some next pushed = rw pushed (by_rounds goes.rounds goes.enough goes.same)
  where
    by_rounds : (k : ℕ) → length rest < k → signals_in k mark sends rest ≡ signals_at mark all → GoesOn mark all (sends ++ sent ∷ []) others
    by_rounds zero enough same = absurd (omega arith)
    by_rounds (suc k) enough same =
        let less = front_shorter mark rest (octet ∷ front) others sent found next in
        let step = signals_in_step_by k mark sends rest (Some (octet ∷ front)) found in
        record { rounds = k; enough = omega arith; same = rw next at (sym step ∙ same) }

-- ---- what messages in a row spell

-- messages, each behind a word
abbrev pub told : List ℕ → List Signal → List ℕ
told mark [] = []
told mark (sent ∷ sends) = mark ++ (on_line sent.line sent.octets ++ told mark sends)

pub messages_told : (sends : List Signal) → messages sends ≡ told [] sends
messages_told [] = refl
messages_told (sent ∷ sends) = ap (λ (l : List ℕ). on_line sent.line sent.octets ++ l) (messages_told sends)

pub frame_messages_told : (sends : List Signal) → frame_messages sends ≡ told (codes " send") sends
frame_messages_told [] = refl
frame_messages_told (sent ∷ sends) =
    append_assoc (codes " send") (on_line sent.line sent.octets) (frame_messages sends) ∙ ap (λ (l : List ℕ). codes " send" ++ (on_line sent.line sent.octets ++ l)) (frame_messages_told sends)

-- some messages were read behind others
pub record AreBefore (mark octets : List ℕ) (sends all : List Signal) (rest : List ℕ) : Type 0 where
  pub more : List Signal
  pub whole : all ≡ sends ++ more
  pub there : octets ≡ told mark more ++ rest
  pub sendable : All IsSendable more

none_before : (mark octets : List ℕ) (sends all : List Signal) (rest : List ℕ) → ◌≡◌ {A = Option (List Signal × List ℕ)} (Some (sends, octets)) (Some (all, rest)) → AreBefore mark octets sends all rest
none_before mark octets sends all rest found =
    let parts = some_pair_parts sends all octets rest found in
    record { more = []; whole = sym parts.0 ∙ sym (append-nil sends); there = parts.1; sendable = All-nil IsSendable }

one_before : (mark octets : List ℕ) (sends all : List Signal) (sent : Signal) (front others rest : List ℕ) → octets ≡ mark ++ front → IsSignalBefore front sent others
    → AreBefore mark others (sends ++ sent ∷ []) all rest → AreBefore mark octets sends all rest
one_before mark octets sends all sent front others rest at signal later =
    let text : front ≡ on_line sent.line sent.octets ++ others = signal.there in
    let behind : others ≡ told mark later.more ++ rest = later.there in
    record {
      more = sent ∷ later.more;
      whole = later.whole ∙ append_assoc sends (sent ∷ []) later.more;
      there = rw (at, text, behind) (sym (append_assoc mark (on_line sent.line sent.octets ++ told mark later.more) rest
          ∙ ap (λ (l : List ℕ). mark ++ l) (append_assoc (on_line sent.line sent.octets) (told mark later.more) rest)));
      sendable = All-cons IsSendable sent later.more signal.sendable later.sendable;
    }

pub signals_text : (k : ℕ) (mark : List ℕ) (sends : List Signal) (octets : List ℕ) (all : List Signal) (rest : List ℕ) → signals_in k mark sends octets ≡ Some (all, rest)
    → AreBefore mark octets sends all rest
unfolding signals_in
signals_text zero mark sends octets all rest found = absurd cc
signals_text (suc k) mark sends octets all rest found = by_word (signals_text k mark) (behind mark octets) refl found
  where
    by_word : ((more : List Signal) (others : List ℕ) (whole : List Signal) (left : List ℕ) → signals_in k mark more others ≡ Some (whole, left) → AreBefore mark others more whole left)
        → (front : Option (List ℕ)) → behind mark octets ≡ front → signals_step front sends octets (signals_in k mark) ≡ Some (all, rest) → AreBefore mark octets sends all rest
    by_word later None is found = none_before mark octets sends all rest found
    by_word later (Some []) is found = none_before mark octets sends all rest found
    by_word later (Some (octet ∷ front)) is found =
        let read = both (signal_at (octet ∷ front)) _ _ found in
        one_before mark octets sends all read.here.0 (octet ∷ front) read.here.1 rest (behind_text mark octets (octet ∷ front) is)
        (signal_text (octet ∷ front) read.here.0 read.here.1 read.is) (later (sends ++ read.here.0 ∷ []) read.here.1 all rest read.later)

-- no message follows
pub data Stops (mark rest : List ℕ) : Type 0 where
  No_word : behind mark rest ≡ None → Stops mark rest
  No_more : behind mark rest ≡ Some [] → Stops mark rest

signals_in_stopped : (k : ℕ) (mark rest : List ℕ) (sends : List Signal) → Stops mark rest → signals_in (suc k) mark sends rest ≡ Some (sends, rest)
signals_in_stopped k mark rest sends (No_word none) = signals_in_step_by k mark sends rest None none
signals_in_stopped k mark rest sends (No_more none) = signals_in_step_by k mark sends rest (Some []) none

-- what follows a message is apart from it
pub told_apart : (mark rest : List ℕ) (sends : List Signal) → is_apart rest ≡ true → ((line : ℕ) (octets more : List ℕ) → is_apart (mark ++ (on_line line octets ++ more)) ≡ true)
    → is_apart (told mark sends ++ rest) ≡ true
told_apart mark rest [] apart spaced = apart
told_apart mark rest (sent ∷ sends) apart spaced =
    rw (append_assoc mark (on_line sent.line sent.octets ++ told mark sends) rest, append_assoc (on_line sent.line sent.octets) (told mark sends) rest) (spaced sent.line sent.octets (told mark sends ++ rest))

told_more : (mark rest : List ℕ) (sent : Signal) (sends : List Signal) → told mark (sent ∷ sends) ++ rest ≡ mark ++ (on_line sent.line sent.octets ++ (told mark sends ++ rest))
told_more mark rest sent sends = simp append_assoc refl

pub signals_back : (k : ℕ) (mark rest : List ℕ) (sends more : List Signal) → Stops mark rest → is_apart rest ≡ true
    → ((line : ℕ) (octets behind_it : List ℕ) → is_apart (mark ++ (on_line line octets ++ behind_it)) ≡ true) → All IsSendable more
    → length (told mark more ++ rest) < k → signals_in k mark sends (told mark more ++ rest) ≡ Some (sends ++ more, rest)
signals_back zero mark rest sends more stops apart spaced fine enough = absurd (omega arith)
signals_back (suc k) mark rest sends [] stops apart spaced fine enough = signals_in_stopped k mark rest sends stops ∙ rw (append-nil sends) refl
signals_back (suc k) mark rest sends (sent ∷ more) stops apart spaced fine enough =
    let others : List ℕ = told mark more ++ rest in
    let line : List ℕ = on_line sent.line sent.octets ++ others in
    let text = told_more mark rest sent more in
    let first = signals_in_step_by k mark sends (mark ++ line) (Some line) (behind_word mark line) in
    let signal = signal_back sent others (All-head IsSendable sent more fine) (told_apart mark rest more apart spaced) in
    let long = ap length text in
    let less = signal_shorter line sent others signal in
    let later = signals_back k mark rest (sends ++ sent ∷ []) more stops apart spaced (All-tail IsSendable sent more fine) (omega (arith, long, length-append mark line)) in
    rw text (first ∙ one_step sends sent line others (signals_in k mark) (line_text sent.line sent.octets others) signal ∙ later ∙ ap (λ (l : List Signal). Some (l, rest)) (append_assoc sends (sent ∷ []) more))
  where
    one_step : (sends : List Signal) (sent : Signal) (line others : List ℕ) (next : List Signal → List ℕ → Option (List Signal × List ℕ)) {more : List ℕ} → line ≡ 32 ∷ more
        → signal_at line ≡ Some (sent, others) → signals_step (Some line) sends (mark ++ line) next ≡ next (sends ++ sent ∷ []) others
    one_step sends sent [] others next some signal = absurd cc
    one_step sends sent (octet ∷ line) others next some signal = rw signal refl
