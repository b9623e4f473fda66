-- Lines in one text, and the answers that they are of.
use Rattle.std.proofs.Common.{◌≡◌, ℕ, zero, suc, ◌+◌, ◌-◌, ◌<◌, ◌≤◌, List, [], ◌∷◌, ◌++◌, length, map, take, drop, get_or, Some, Result, Ok, Err, OnOk, OnErr, refl, sym, ap, subst, ◌∙◌, arith, add-one, length-append, length-drop, take-append-drop}
use Rattle.std.specs.Prelude.{All}
use Rattle.std.proofs.lemmas.List.{drop-append-le, drop-drop, drop-map, drop-take, length-map, length-take-le, map-append, drop_at, nil_from_length, take-append-le, take_all, take_at, take-map}
use Rattle.std.proofs.lemmas.List.Elements.{All-nil, All-cons, All-head, All-more, All-tail}
use Rattle.exchange_events.specs.declared.record.CallRecord.{CallRecord}
use Rattle.call_processor.specs.Borrowed.{Borrowed}
use Rattle.call_processor.specs.declared.worked.Placed.{Placed}
use Rattle.call_processor.specs.Keeping.{HandsOn, first_place}
use Rattle.report_lines.specs.declared.lines.Buffers.{Buffers}
use Rattle.report_lines.specs.declared.lines.LineEntry.{LineEntry}
use Rattle.report_lines.specs.declared.lines.Extent.{Extent}
use Rattle.report_lines.specs.Lines.{HandsLines, Line, calls_of, first_line, text_of}
use Rattle.report_lines.specs.Entries.{AreAppended, AreBefore, AreMarked, AreUnchanged, BeginFrom, lines_in, lines_left, entry_of, octets_in, records_in}

pub on_ok : {A E P Q : Type 0} (r : Result A E) → (P → Q) → OnOk r P → OnOk r Q
on_ok (Ok a) f p = f p
on_ok (Err e) f p = tt

-- ---- sums over lines

pub length-lines_in : (t : List ℕ) (r : List CallRecord) (ms : List LineEntry) → length (lines_in t r ms) ≡ length ms
length-lines_in t r [] = refl
length-lines_in t r (m ∷ ms) = ap suc (length-lines_in (drop m.octets t) (drop m.records r) ms)

pub octets_append : (ms ns : List LineEntry) → octets_in (ms ++ ns) ≡ octets_in ms + octets_in ns
octets_append [] ns = omega arith
octets_append (m ∷ ms) ns = let rest = octets_append ms ns in omega (arith, rest)

pub records_append : (ms ns : List LineEntry) → records_in (ms ++ ns) ≡ records_in ms + records_in ns
records_append [] ns = omega arith
records_append (m ∷ ms) ns = let rest = records_append ms ns in omega (arith, rest)

pub octets_split : (n : ℕ) (ms : List LineEntry) → octets_in ms ≡ octets_in (take n ms) + octets_in (drop n ms)
octets_split n ms = ap octets_in (sym (take-append-drop n ms)) ∙ octets_append (take n ms) (drop n ms)

pub records_split : (n : ℕ) (ms : List LineEntry) → records_in ms ≡ records_in (take n ms) + records_in (drop n ms)
records_split n ms = ap records_in (sym (take-append-drop n ms)) ∙ records_append (take n ms) (drop n ms)

-- a part of a list is as long as it is said to be
pub part_long : {X : Type 0} (xs t : List X) (a b n : ℕ) → b ≡ a + n → b ≤ length xs → t ≡ take (b - a) (drop a xs) → length t ≡ n
part_long xs t a b n is within part =
    let size = ap length part in
    let rest = length-drop a xs in
    let front = length-take-le (b - a) (drop a xs) (omega (arith, is, within, rest)) in
    omega (arith, is, size, front)

-- ---- lines behind others

pub lines_append : (t u : List ℕ) (r s : List CallRecord) (ms ns : List LineEntry) → length t ≡ octets_in ms → length r ≡ records_in ms
    → lines_in (t ++ u) (r ++ s) (ms ++ ns) ≡ lines_in t r ms ++ lines_in u s ns
lines_append t u r s [] ns long many = (λ i. lines_in (nil_from_length t long i ++ u) (nil_from_length r many i ++ s) ns)
lines_append t u r s (m ∷ ms) ns long many =
    let a : m.octets ≤ length t = omega (arith, long) in
    let b : m.records ≤ length r = omega (arith, many) in
    let left : length (drop m.octets t) ≡ octets_in ms = omega (arith, long, length-drop m.octets t) in
    let fewer : length (drop m.records r) ≡ records_in ms = omega (arith, many, length-drop m.records r) in
    let one : Line = record { place = m.place; text = take m.octets t; records = take m.records r } in
    (λ i. record { place = m.place; text = take-append-le m.octets t u a i; records = take-append-le m.records r s b i }
    ∷ lines_in (drop-append-le m.octets t u a i) (drop-append-le m.records r s b i) (ms ++ ns))
    ∙ ap (λ (ls : List Line). one ∷ ls) (lines_append (drop m.octets t) u (drop m.records r) s ms ns left fewer)

-- the first n lines, and the others
pub lines_split : (n : ℕ) (t : List ℕ) (r : List CallRecord) (ms : List LineEntry) → length t ≡ octets_in ms → length r ≡ records_in ms
    → lines_in t r ms ≡ lines_in (take (octets_in (take n ms)) t) (take (records_in (take n ms)) r) (take n ms)
    ++ lines_in (drop (octets_in (take n ms)) t) (drop (records_in (take n ms)) r) (drop n ms)
lines_split n t r ms long many =
    let a = octets_in (take n ms) in
    let b = records_in (take n ms) in
    let front : length (take a t) ≡ a = length-take-le a t (omega (arith, long, octets_split n ms)) in
    let calls : length (take b r) ≡ b = length-take-le b r (omega (arith, many, records_split n ms)) in
    (λ i. lines_in (sym (take-append-drop a t) i) (sym (take-append-drop b r) i) (sym (take-append-drop n ms) i))
    ∙ lines_append (take a t) (drop a t) (take b r) (drop b r) (take n ms) (drop n ms) front calls

-- one line by itself
pub one_line : (l : Line) → lines_in l.text l.records (entry_of l ∷ []) ≡ l ∷ []
one_line l = (λ i. record { place = l.place; text = take_all (length l.text) l.text (omega arith) i; records = take_all (length l.records) l.records (omega arith) i } ∷ [])

-- the text of all lines is the text, and their records are the records
pub text_whole : (t : List ℕ) (r : List CallRecord) (ms : List LineEntry) → length t ≡ octets_in ms → text_of (lines_in t r ms) ≡ t
text_whole t r [] long = sym (nil_from_length t long)
text_whole t r (m ∷ ms) long =
    ap (λ (l : List ℕ). take m.octets t ++ l) (text_whole (drop m.octets t) (drop m.records r) ms (omega (arith, long, length-drop m.octets t)))
    ∙ take-append-drop m.octets t

pub calls_whole : (t : List ℕ) (r : List CallRecord) (ms : List LineEntry) → length r ≡ records_in ms → calls_of (lines_in t r ms) ≡ r
calls_whole t r [] many = sym (nil_from_length r many)
calls_whole t r (m ∷ ms) many =
    ap (λ (l : List CallRecord). take m.records r ++ l) (calls_whole (drop m.octets t) (drop m.records r) ms (omega (arith, many, length-drop m.records r)))
    ∙ take-append-drop m.records r

-- ---- places

pub first_left : (t : List ℕ) (r : List CallRecord) (m : LineEntry) (ms : List LineEntry) → first_line (lines_in t r (m ∷ ms)) ≡ Some m.place
first_left t r m ms = refl

-- one line more of a run, which comes before a place unless it is the first
pub before_more : (below i : ℕ) (ms : List LineEntry) (d : LineEntry) → i < length ms → (0 < i → (get_or ms i d).place < below) → AreBefore below (drop 1 (take i ms)) → AreBefore below (drop 1 (take (i + 1) ms))
before_more below i ms d inside low so_far = subst (λ (n : ℕ). AreBefore below (drop 1 (take n ms))) (sym (add-one i)) (go i ms inside low so_far)
  where
    go : (i : ℕ) (ms : List LineEntry) → i < length ms → (0 < i → (get_or ms i d).place < below) → AreBefore below (drop 1 (take i ms)) → AreBefore below (drop 1 (take (suc i) ms))
    go zero [] inside low so_far = absurd (omega arith)
    go zero (x ∷ xs) inside low so_far = All-nil (λ (m : LineEntry). m.place < below)
    go (suc i) [] inside low so_far = absurd (omega arith)
    go (suc i) (x ∷ xs) inside low so_far =
        subst (λ (n : ℕ). AreBefore below (take n xs)) (add-one i) (All-more (λ (m : LineEntry). m.place < below) xs i d (omega (arith, inside)) so_far (low (omega arith)))

-- what is left of the lines begins as what is left of the entries
begin_lines : (below : ℕ) (t : List ℕ) (r : List CallRecord) (ms : List LineEntry) → BeginFrom below ms → (place : ℕ) → first_line (lines_in t r ms) ≡ Some place → below ≤ place
begin_lines below t r [] far place is = absurd (cc is)
begin_lines below t r (m ∷ ms) far place is =
    let same : m.place ≡ place = cc is in
    subst (λ (n : ℕ). below ≤ n) same (All-head (λ (m : LineEntry). below ≤ m.place) m [] far)

before_lines : (below : ℕ) (t : List ℕ) (r : List CallRecord) (ms : List LineEntry) → AreBefore below ms → All (λ (l : Line). l.place < below) (lines_in t r ms)
before_lines below t r [] low = All-nil (λ (l : Line). l.place < below)
before_lines below t r (m ∷ ms) low =
    All-cons (λ (l : Line). l.place < below) (record { place = m.place; text = take m.octets t; records = take m.records r }) (lines_in (drop m.octets t) (drop m.records r) ms)
    (All-head (λ (m : LineEntry). m.place < below) m ms low) (before_lines below (drop m.octets t) (drop m.records r) ms (All-tail (λ (m : LineEntry). m.place < below) m ms low))

pub before_run : (below : ℕ) (t : List ℕ) (r : List CallRecord) (ms : List LineEntry) → AreBefore below (drop 1 ms) → All (λ (l : Line). l.place < below) (drop 1 (lines_in t r ms))
before_run below t r [] low = All-nil (λ (l : Line). l.place < below)
before_run below t r (m ∷ ms) low = before_lines below (drop m.octets t) (drop m.records r) ms low

-- ---- lines of which some were handed on

module _ (text : List ℕ) (records : List CallRecord) (entries : List LineEntry) (handed : Extent) (are : AreMarked text records entries handed) where
  abbrev left : List LineEntry
  left = drop handed.lines entries

  pub left_long : length (drop handed.octets text) ≡ octets_in left
  left_long = let o = are.octets in omega (arith, o, length-drop handed.octets text)

  pub left_many : length (drop handed.records records) ≡ records_in left
  left_many = let c = are.calls in omega (arith, c, length-drop handed.records records)

  pub length-lines_left : length (lines_left text records entries handed) ≡ length entries - handed.lines
  length-lines_left = length-lines_in (drop handed.octets text) (drop handed.records records) left ∙ length-drop handed.lines entries

  pub text_left : drop handed.octets text ≡ text_of (lines_left text records entries handed)
  text_left = sym (text_whole (drop handed.octets text) (drop handed.records records) left left_long)

  pub calls_left : drop handed.records records ≡ calls_of (lines_left text records entries handed)
  calls_left = sym (calls_whole (drop handed.octets text) (drop handed.records records) left left_many)

  -- more lines were put behind them
  pub marked_more : (u : List ℕ) (s : List CallRecord) (ns : List LineEntry) (text' : List ℕ) (records' : List CallRecord) (entries' : List LineEntry) → text' ≡ text ++ u → records' ≡ records ++ s → entries' ≡ entries ++ ns
      → length u ≡ octets_in ns → length s ≡ records_in ns → AreMarked text' records' entries' handed
  marked_more u s ns text' records' entries' a b c long many =
      let lines = are.lines in
      let o = are.octets in
      let k = are.calls in
      let seam : drop handed.lines (entries ++ ns) ≡ left ++ ns = drop-append-le handed.lines entries ns lines in
      let octets = ap octets_in seam ∙ octets_append left ns in
      let calls = ap records_in seam ∙ records_append left ns in
      rw (a, b, c) (record {
        lines = omega (arith, lines, length-append entries ns);
        octets = omega (arith, o, long, octets, length-append text u);
        calls = omega (arith, k, many, calls, length-append records s);
      })

  pub left_more : (u : List ℕ) (s : List CallRecord) (ns : List LineEntry) (text' : List ℕ) (records' : List CallRecord) (entries' : List LineEntry) → text' ≡ text ++ u → records' ≡ records ++ s → entries' ≡ entries ++ ns
      → lines_left text' records' entries' handed ≡ lines_left text records entries handed ++ lines_in u s ns
  left_more u s ns text' records' entries' a b c =
      let lines = are.lines in
      let o = are.octets in
      let k = are.calls in
      (λ i. lines_left (a i) (b i) (c i) handed)
      ∙ (λ i. lines_in (drop-append-le handed.octets text u (omega (arith, o)) i) (drop-append-le handed.records records s (omega (arith, k)) i) (drop-append-le handed.lines entries ns lines i))
      ∙ lines_append (drop handed.octets text) u (drop handed.records records) s left ns left_long left_many

  -- a call left all unchanged
  pub marked_same : (text' : List ℕ) (records' : List CallRecord) (entries' : List LineEntry) → text' ≡ text → records' ≡ records → entries' ≡ entries → AreMarked text' records' entries' handed
  marked_same text' records' entries' a b c = rw (a, b, c) are

  pub left_kept : {A E : Type 0} (r : Result A E) (text' : List ℕ) (records' : List CallRecord) (entries' : List LineEntry) → OnErr r ((text' ≡ text) × (records' ≡ records) × (entries' ≡ entries))
      → OnErr r (lines_left text' records' entries' handed ≡ lines_left text records entries handed)
  left_kept (Ok x) text' records' entries' none = tt
  left_kept (Err e) text' records' entries' none = (λ i. lines_left (none.0 i) (none.1 i) (none.2 i) handed)

  -- what some of the lines that are left take up is no more than there is
  module _ (l : List LineEntry) (is : l ≡ left) (n : ℕ) where
    pub run_octets : handed.octets + octets_in (take n l) ≤ length text
    run_octets = let o = are.octets in let same = ap octets_in is in omega (arith, o, same, octets_split n l)

    pub run_records : handed.records + records_in (take n l) ≤ length records
    run_records = let k = are.calls in let same = ap records_in is in omega (arith, k, same, records_split n l)

    module _ (within : n ≤ length l) (end : Extent) (lines_are : end.lines ≡ handed.lines + length (take n l)) (octets_are : end.octets ≡ handed.octets + octets_in (take n l))
        (records_are : end.records ≡ handed.records + records_in (take n l)) where
      abbrev run : List Line
      run = lines_in (take (octets_in (take n l)) (drop handed.octets text)) (take (records_in (take n l)) (drop handed.records records)) (take n l)

      place_is : end.lines ≡ handed.lines + n
      place_is = omega (arith, lines_are, length-take-le n l within)

      rest_is : drop end.lines entries ≡ drop n l
      rest_is = ap (λ (k : ℕ). drop k entries) place_is ∙ sym (drop-drop n handed.lines entries) ∙ ap (drop n) (sym is)

      l_long : length (drop handed.octets text) ≡ octets_in l
      l_long = left_long ∙ ap octets_in (sym is)

      l_many : length (drop handed.records records) ≡ records_in l
      l_many = left_many ∙ ap records_in (sym is)

      -- they are handed on
      pub handed_marked : AreMarked text records entries end
      handed_marked =
          let lines = are.lines in
          let o = are.octets in
          let k = are.calls in
          let size = ap length is in
          record {
            lines = omega (arith, lines, within, place_is, size, length-drop handed.lines entries);
            octets = let same = ap octets_in rest_is in let all = ap octets_in is in omega (arith, o, octets_are, same, all, octets_split n l);
            calls = let same = ap records_in rest_is in let all = ap records_in is in omega (arith, k, records_are, same, all, records_split n l);
          }

      pub handed_left : lines_left text records entries handed ≡ run ++ lines_left text records entries end
      handed_left =
          ap (lines_in (drop handed.octets text) (drop handed.records records)) (sym is)
          ∙ lines_split n (drop handed.octets text) (drop handed.records records) l l_long l_many
          ∙ (λ i. run ++ lines_in ((sym (ap (λ (k : ℕ). drop k text) octets_are ∙ sym (drop-drop (octets_in (take n l)) handed.octets text))) i)
          ((sym (ap (λ (k : ℕ). drop k records) records_are ∙ sym (drop-drop (records_in (take n l)) handed.records records))) i) (sym rest_is i))

      run_long : length run ≡ n
      run_long = length-lines_in _ _ (take n l) ∙ length-take-le n l within

      -- others get them
      pub hands_run : (below : ℕ) (others to : List Line) (t : List ℕ) (r : List CallRecord) → t ≡ take (end.octets - handed.octets) (drop handed.octets text)
          → r ≡ take (end.records - handed.records) (drop handed.records records) → (0 < length l → 0 < n) → AreBefore below (drop 1 (take n l)) → BeginFrom below (drop n l) → to ≡ others ++ lines_in t r (take n l)
          → HandsLines below (lines_left text records entries handed) others (lines_left text records entries end) to
      hands_run below others to t r t_is r_is some low far got =
          let octets : end.octets - handed.octets ≡ octets_in (take n l) = omega (arith, octets_are) in
          let calls : end.records - handed.records ≡ records_in (take n l) = omega (arith, records_are) in
          let count = length-lines_in (drop handed.octets text) (drop handed.records records) left in
          let size = ap length is in
          record {
            run = run;
            parts = handed_left;
            some = λ any. let more = some (omega (arith, any, count, size)) in omega (arith, more, run_long);
            before = before_run below _ _ (take n l) low;
            stops = begin_lines below _ _ (drop end.lines entries) (subst (BeginFrom below) (sym rest_is) far);
            got = got ∙ (λ i. others ++ lines_in ((t_is ∙ ap (λ (k : ℕ). take k (drop handed.octets text)) octets) i) ((r_is ∙ ap (λ (k : ℕ). take k (drop handed.records records)) calls) i) (take n l));
          }

      -- they alone are kept
      kept_marks : drop handed.lines (take end.lines entries) ≡ take n l
      kept_marks = ap (λ (k : ℕ). drop handed.lines (take k entries)) place_is ∙ drop-take handed.lines n entries ∙ ap (take n) (sym is)

      pub cut_marked : AreMarked (take end.octets text) (take end.records records) (take end.lines entries) handed
      cut_marked =
          let lines = are.lines in
          let size = ap length is in
          let inside : end.lines ≤ length entries = omega (arith, lines, within, place_is, size, length-drop handed.lines entries) in
          let octets : end.octets ≤ length text = omega (arith, octets_are, run_octets) in
          let calls : end.records ≤ length records = omega (arith, records_are, run_records) in
          record {
            lines = omega (arith, place_is, length-take-le end.lines entries inside);
            octets = let same = ap octets_in kept_marks in omega (arith, octets_are, same, length-take-le end.octets text octets);
            calls = let same = ap records_in kept_marks in omega (arith, records_are, same, length-take-le end.records records calls);
          }

      pub cut_left : lines_left (take end.octets text) (take end.records records) (take end.lines entries) handed ≡ take n (lines_left text records entries handed)
      cut_left =
          (λ i. lines_in ((ap (λ (k : ℕ). drop handed.octets (take k text)) octets_are ∙ drop-take handed.octets (octets_in (take n l)) text) i)
          ((ap (λ (k : ℕ). drop handed.records (take k records)) records_are ∙ drop-take handed.records (records_in (take n l)) records) i) (kept_marks i))
          ∙ sym (ap (take n) handed_left ∙ take_at run (lines_left text records entries end) n run_long)

    -- none are cut off where there are no more
    pub lines_left_kept_all : length l ≤ n → lines_left text records entries handed ≡ take n (lines_left text records entries handed)
    lines_left_kept_all few =
        let count = length-lines_in (drop handed.octets text) (drop handed.records records) left in
        let size = ap length is in
        sym (take_all n (lines_left text records entries handed) (omega (arith, few, count, size)))

-- ---- after a call that appended to the buffers, or left them unchanged

pub appended : {A E : Type 0} (r : Result A E) (u : List ℕ) (s : List CallRecord) (ns : List LineEntry) (b : Borrowed Buffers)
    → OnOk r (b.exit.now.text.items ≡ b.entry.now.text.items ++ u) → OnOk r (b.exit.now.records.items ≡ b.entry.now.records.items ++ s)
    → OnOk r (b.exit.now.entries.items ≡ b.entry.now.entries.items ++ ns) → OnOk r (AreAppended u s ns b)
appended (Ok x) u s ns b text records entries = record { text_is = text; records_are = records; marks_are = entries }
appended (Err e) u s ns b text records entries = tt

pub marked_after : {A E : Type 0} (r : Result A E) (u : List ℕ) (s : List CallRecord) (ns : List LineEntry) (b : Borrowed Buffers) (handed : Extent)
    → AreMarked b.entry.now.text.items b.entry.now.records.items b.entry.now.entries.items handed → OnOk r (AreAppended u s ns b) → OnErr r (AreUnchanged b)
    → length u ≡ octets_in ns → length s ≡ records_in ns → AreMarked b.exit.now.text.items b.exit.now.records.items b.exit.now.entries.items handed
marked_after (Ok x) u s ns b handed are added kept long many = marked_more _ _ _ _ are u s ns _ _ _ added.text_is added.records_are added.marks_are long many
marked_after (Err e) u s ns b handed are added kept long many = marked_same _ _ _ _ are _ _ _ kept.0 kept.1 kept.2

pub left_after : {A E : Type 0} (r : Result A E) (u : List ℕ) (s : List CallRecord) (ns : List LineEntry) (b : Borrowed Buffers) (handed : Extent)
    → AreMarked b.entry.now.text.items b.entry.now.records.items b.entry.now.entries.items handed → OnOk r (AreAppended u s ns b)
    → OnOk r (lines_left b.exit.now.text.items b.exit.now.records.items b.exit.now.entries.items handed
    ≡ lines_left b.entry.now.text.items b.entry.now.records.items b.entry.now.entries.items handed ++ lines_in u s ns)
left_after (Ok x) u s ns b handed are added = left_more _ _ _ _ are u s ns _ _ _ added.text_is added.records_are added.marks_are
left_after (Err e) u s ns b handed are added = tt

-- ---- lines of answers

module _ (f : Placed → Line) (same : (p : Placed) → (f p).place ≡ p.place) where
  pub first_of : (answers : List Placed) → first_line (map f answers) ≡ first_place answers
  first_of [] = refl
  first_of (p ∷ ps) = ap Some (same p)

  before_answers : (below : ℕ) (answers : List Placed) → All (λ (l : Line). l.place < below) (map f answers) → All (λ (p : Placed). p.place < below) answers
  before_answers below [] low = All-nil (λ (p : Placed). p.place < below)
  before_answers below (p ∷ ps) low =
      All-cons (λ (p : Placed). p.place < below) p ps (subst (λ (n : ℕ). n < below) (same p) (All-head (λ (l : Line). l.place < below) (f p) (map f ps) low))
      (before_answers below ps (All-tail (λ (l : Line). l.place < below) (f p) (map f ps) low))

  -- a run of lines is of a run of answers
  pub hands_answers : (below : ℕ) (lines others from to : List Line) (answers told : List Placed) → HandsLines below lines others from to → lines ≡ map f answers → others ≡ map f told
      → HandsOn (λ (ls : List Line) (ps : List Placed). ls ≡ map f ps) below answers told from to
  hands_answers below lines others from to answers told h are behind =
      let n = length h.run in
      let all : map f answers ≡ h.run ++ from = sym are ∙ h.parts in
      let run_is : h.run ≡ map f (take n answers) = sym (sym (take-map f n answers) ∙ ap (take n) all ∙ take_at h.run from n refl) in
      let rest_is : from ≡ map f (drop n answers) = sym (sym (drop-map f n answers) ∙ ap (drop n) all ∙ drop_at h.run from n refl) in
      let count : length lines ≡ length answers = ap (λ (l : List Line). length l) are ∙ length-map answers f in
      let many : length h.run ≡ length (take n answers) = ap (λ (l : List Line). length l) run_is ∙ length-map (take n answers) f in
      record {
        run = take n answers;
        rest = drop n answers;
        parts = sym (take-append-drop n answers);
        some = λ any. let more = h.some (subst (λ (k : ℕ). 0 < k) (sym count) any) in subst (λ (k : ℕ). 0 < k) many more;
        before = before_answers below (drop 1 (take n answers)) (subst (λ (ls : List Line). All (λ (l : Line). l.place < below) ls) (ap (drop 1) run_is ∙ drop-map f 1 (take n answers)) h.before);
        stops = λ place is. h.stops place (ap first_line rest_is ∙ first_of (drop n answers) ∙ is);
        left = rest_is;
        got = h.got ∙ (λ i. behind i ++ run_is i) ∙ sym (map-append f told (take n answers));
      }

  pub hands_answers_ok : {A E : Type 0} (r : Result A E) (below : ℕ) (lines others from to : List Line) → OnOk r (HandsLines below lines others from to)
      → OnOk r ((answers told : List Placed) → lines ≡ map f answers → others ≡ map f told → HandsOn (λ (ls : List Line) (ps : List Placed). ls ≡ map f ps) below answers told from to)
  hands_answers_ok (Ok x) below lines others from to h = λ answers told are behind. hands_answers below lines others from to answers told h are behind
  hands_answers_ok (Err e) below lines others from to h = tt

-- one answer more
pub push_answer : (f : Placed → Line) (lines after : List Line) (answers : List Placed) (p : Placed) → after ≡ lines ++ f p ∷ [] → lines ≡ map f answers → after ≡ map f (answers ++ p ∷ [])
push_answer f lines after answers p is are = is ∙ ap (λ (ls : List Line). ls ++ f p ∷ []) are ∙ sym (map-append f answers (p ∷ []))

-- the first of them alone
pub cut_answers : (f : Placed → Line) (lines after : List Line) (count : ℕ) (answers more : List Placed) → after ≡ take count lines → lines ≡ map f (answers ++ more) → length answers ≡ count → after ≡ map f answers
cut_answers f lines after count answers more is are long =
    is ∙ ap (take count) (are ∙ map-append f answers more) ∙ take_at (map f answers) (map f more) count (length-map answers f ∙ long)
