-- One line more, and the end of a call behind a line.
use Rattle.std.proofs.Common.{◌≡◌, ◌≢◌, ◌⊎◌, ℕ, ◌+◌, ◌≤◌, ◌<◌, List, [], ◌∷◌, ◌++◌, ◌-◌, length, take, drop, take-add, refl, sym, ap, subst, ◌∙◌, arith, inl, inr, append_assoc, append-nil, length-append}
use Rattle.std.proofs.lemmas.List.{take-append-drop}
use Rattle.std.proofs.Math.Seq.{drop-append_seam}
use Rattle.trace_text.specs.TraceWords.{AreEnded, lines}
use Rattle.line_wire.specs.Following.{AreFirst, At_line, CountsReads, CountsWrites, Due, Dues, EndsLong, HasFollowed, HasNoFeed, IsDue, IsSettled}
use Rattle.line_wire.specs.Progress.{HasStopped, OwesText, IsUnderway}
use Rattle.line_wire.specs.declared.following.Following.{Following}
use Rattle.line_wire.specs.declared.following.Following.TheVariants as ended
use Rattle.std.specs.Prelude.{⊤, IfErr, OnErr, OnOk, Ok, Err}
use Rattle.std.specs.declared.result.Result.{Result}
use Rattle.trace_text.proofs.LineLemmas.{ended_both, fed_line, lines_behind, unfed_line}

-- a call that ends at a line, of an input of which it has the lines before it; the end of the input plays no part
pub stopped_at : (over : Type 0) (why : Following) (due : Dues) (heard : List ℕ) (done : List (List ℕ)) (line full : List ℕ) → AreFirst over heard (done ++ line ∷ [])
    → HasStopped why due done line full → HasFollowed over why due heard full
stopped_at over ended.Completed due heard done line full after stopped = absurd stopped
stopped_at over ended.Refused due heard done line full after stopped = At_line (done ++ line ∷ []) after stopped
stopped_at over ended.ReadFailed due heard done line full after stopped = absurd stopped
stopped_at over ended.WriteFailed due heard done line full after (unsaid, answers) = (ended.WriteFailed, unsaid, (done ++ line ∷ [], after, answers))
stopped_at over ended.OutOfMemory due heard done line full after stopped = (done ++ line ∷ [], after, stopped)

-- a line of some octets, with its line feed, or at their end if the input has ended or the line is too long
pub record HasLine (over : Type 0) (rest line others : List ℕ) : Type 0 where
  pub piece : List ℕ
  pub parts : rest ≡ piece ++ others
  pub one : lines piece ≡ line ∷ []
  pub ended : AreEnded piece ⊎ ((others ≡ []) × (over ⊎ (65535 < length line)))

pub has_fed : (over : Type 0) (rest line others : List ℕ) → rest ≡ line ++ 10 ∷ others → HasNoFeed line → HasLine over rest line others
has_fed over rest line others is none = record {
  piece = line ++ 10 ∷ [];
  parts = is ∙ sym (append_assoc line (10 ∷ []) others);
  one = fed_line line [] none;
  ended = inl (inr (line, refl));
}

pub has_unfed : (over : Type 0) (rest : List ℕ) → rest ≢ [] → HasNoFeed rest → over ⊎ (65535 < length rest) → HasLine over rest rest []
has_unfed over [] some none last = absurd (some refl)
has_unfed over (x ∷ rest) some none last = record {
  piece = x ∷ rest;
  parts = sym (append-nil (x ∷ rest));
  one = unfed_line x rest none;
  ended = inr (refl, last);
}

module _ (over : Type 0) (heard whole rest line others : List ℕ) (parts : heard ≡ whole ++ rest) (ended : AreEnded whole) (next : HasLine over rest line others) where
  pub lines_after : lines (whole ++ next.piece) ≡ lines whole ++ line ∷ []
  lines_after = lines_behind whole next.piece ended ∙ ap (λ (l : List (List ℕ)). lines whole ++ l) next.one

  pub parts_after : heard ≡ (whole ++ next.piece) ++ others
  parts_after = parts ∙ ap (λ (l : List ℕ). whole ++ l) next.parts ∙ sym (append_assoc whole next.piece others)

  ended_after : AreEnded (whole ++ next.piece) ⊎ ((others ≡ []) × (over ⊎ EndsLong (lines whole ++ line ∷ [])))
  ended_after = go next.ended
    where
      last : over ⊎ (65535 < length line) → over ⊎ EndsLong (lines whole ++ line ∷ [])
      last (inl has) = inl has
      last (inr long) = inr (lines whole, line, refl, long)

      go : AreEnded next.piece ⊎ ((others ≡ []) × (over ⊎ (65535 < length line))) → AreEnded (whole ++ next.piece) ⊎ ((others ≡ []) × (over ⊎ EndsLong (lines whole ++ line ∷ [])))
      go (inl is) = inl (ended_both whole next.piece ended is)
      go (inr (none, has)) = inr (none, last has)

  after_line : length rest ≤ 131072 → AreFirst over heard (lines whole ++ line ∷ [])
  after_line few = record {
    whole = whole ++ next.piece;
    rest = others;
    parts = parts_after;
    ended = ended_after;
    are = sym lines_after;
    few = let e = ap length next.parts in omega (arith, e, length-append next.piece others, few);
  }

  pub stopped_line : length rest ≤ 131072 → (why : Following) (due : Dues) (full : List ℕ) → HasStopped why due (lines whole) line full
      → HasFollowed over why due heard full
  stopped_line few why due full = stopped_at over why due heard (lines whole) line full (after_line few)

-- one line with its line feed was processed
pub underway_more : (old now : List ℕ → List ℕ → Type 0) (before after : Due) (heard rest line others text more : List ℕ) (count next : ℕ)
    → IsUnderway old before heard rest text count → rest ≡ line ++ 10 ∷ others → HasNoFeed line
    → ((done : List (List ℕ)) → OwesText old before heard done text count → OwesText now after heard (done ++ line ∷ []) more next)
    → IsUnderway now after heard others more next
unfolding has_fed
underway_more old now before after heard rest line others text more count next u is none step =
    let has = has_fed ⊥ rest line others is none in
    record {
      whole = u.whole ++ has.piece;
      parts = parts_after ⊥ heard u.whole rest line others u.parts u.ended has;
      ended = ended_both u.whole has.piece u.ended (inr (line, refl));
      answered = subst (λ (l : List (List ℕ)). OwesText now after heard l more next) (sym (lines_after ⊥ heard u.whole rest line others u.parts u.ended has))
          (step (lines u.whole) u.answered);
    }

-- the call ends at the next line
pub stopped_next : (old now : List ℕ → List ℕ → Type 0) (over : Type 0) (before : Due) (due : Dues) (why : Following) (heard rest line others text more : List ℕ) (count : ℕ)
    → IsUnderway old before heard rest text count → HasLine over rest line others → length rest ≤ 131072
    → ((done : List (List ℕ)) → OwesText old before heard done text count → (said : List ℕ) × now heard said × HasStopped why due done line (said ++ more))
    → (said : List ℕ) × now heard said × HasFollowed over why due heard (said ++ more)
stopped_next old now over before due why heard rest line others text more count u has few step =
    let (said, stood, stopped) = step (lines u.whole) u.answered in
    (said, stood, stopped_line over heard u.whole rest line others u.parts u.ended has few why due (said ++ more) stopped)

-- the octets after the last line feed were processed as a line
pub answered_all : (old now : List ℕ → List ℕ → Type 0) (before after : Due) (heard rest text more : List ℕ) (count next : ℕ)
    → IsUnderway old before heard rest text count → rest ≢ [] → HasNoFeed rest
    → ((done : List (List ℕ)) → OwesText old before heard done text count → OwesText now after heard (done ++ rest ∷ []) more next)
    → OwesText now after heard (lines heard) more next
answered_all old now before after heard rest text more count next u some none step =
    let has = has_unfed ⊤ rest some none (inl tt) in
    let all : heard ≡ u.whole ++ has.piece = parts_after ⊤ heard u.whole rest rest [] u.parts u.ended has ∙ append-nil (u.whole ++ has.piece) in
    subst (λ (l : List (List ℕ)). OwesText now after heard l more next)
    (sym (ap lines all ∙ lines_after ⊤ heard u.whole rest rest [] u.parts u.ended has))
    (step (lines u.whole) u.answered)

-- there are no octets after the last line feed
pub answered_none : (old : List ℕ → List ℕ → Type 0) (before : Due) (heard rest text : List ℕ) (count : ℕ)
    → IsUnderway old before heard rest text count → rest ≡ [] → OwesText old before heard (lines heard) text count
answered_none old before heard rest text count u none =
    subst (λ (l : List (List ℕ)). OwesText old before heard l text count)
    (sym (ap lines (u.parts ∙ ap (λ (l : List ℕ). u.whole ++ l) none ∙ append-nil u.whole))) u.answered

-- ---- before a read and after it

pub settled_of : (stands : List ℕ → List ℕ → Type 0) (answers : Due) (heard rest text : List ℕ) (count : ℕ) (u : IsUnderway stands answers heard rest text count)
    → text ≡ [] → HasNoFeed rest → IsSettled answers heard u.answered.said
settled_of stands answers heard rest text count u blank none = record {
  whole = u.whole;
  rest = rest;
  parts = u.parts;
  ended = u.ended;
  partial = none;
  done = subst (answers (lines u.whole)) (ap (λ (l : List ℕ). u.answered.said ++ l) blank ∙ append-nil u.answered.said) u.answered.due;
}

-- more octets were read
pub underway_heard : (old now : List ℕ → List ℕ → Type 0) (answers : Due) (heard rest more text : List ℕ) (count : ℕ)
    → IsUnderway old answers heard rest text count → ((said : List ℕ) → old heard said → now (heard ++ more) said)
    → IsUnderway now answers (heard ++ more) (rest ++ more) text count
underway_heard old now answers heard rest more text count u step = record {
  whole = u.whole;
  parts = ap (λ (l : List ℕ). l ++ more) u.parts ∙ append_assoc u.whole rest more;
  ended = u.ended;
  answered = record {
    said = u.answered.said;
    stood = step u.answered.said u.answered.stood;
    due = u.answered.due;
    counted = u.answered.counted;
  };
}

-- the text was written
pub answered_written : (old now : List ℕ → List ℕ → Type 0) (answers : Due) (heard : List ℕ) (done : List (List ℕ)) (text : List ℕ) (count : ℕ)
    → OwesText old answers heard done text count → ((said : List ℕ) → old heard said → now heard (said ++ text))
    → OwesText now answers heard done [] count
answered_written old now answers heard done text count a step = record {
  said = a.said ++ text;
  stood = step a.said a.stood;
  due = subst (answers done) (sym (append-nil (a.said ++ text))) a.due;
  counted = a.counted;
}

pub underway_written : (old now : List ℕ → List ℕ → Type 0) (answers : Due) (heard rest text : List ℕ) (count : ℕ)
    → IsUnderway old answers heard rest text count → ((said : List ℕ) → old heard said → now heard (said ++ text))
    → IsUnderway now answers heard rest [] count
underway_written old now answers heard rest text count u step = record {
  whole = u.whole;
  parts = u.parts;
  ended = u.ended;
  answered = answered_written old now answers heard (lines u.whole) text count u.answered step;
}

-- all lines of an input that has ended
pub all_first : (over : Type 0) (heard : List ℕ) → over → AreFirst over heard (lines heard)
all_first over heard has = record { whole = heard; rest = []; parts = sym (append-nil heard); ended = inr (refl, inl has); are = refl; few = omega arith }

-- other words for the octets that are left
pub underway_same : (stands : List ℕ → List ℕ → Type 0) (answers : Due) (heard rest other text : List ℕ) (count : ℕ)
    → IsUnderway stands answers heard rest text count → other ≡ rest → IsUnderway stands answers heard other text count
underway_same stands answers heard rest other text count u same = subst (λ (l : List ℕ). IsUnderway stands answers heard l text count) (sym same) u

-- one line more was processed
pub owes_more : (stands : List ℕ → List ℕ → Type 0) (before after : Due) (heard : List ℕ) (done : List (List ℕ)) (line text more : List ℕ) (count next : ℕ)
    → OwesText stands before heard done text count → ((front : List ℕ) → before done (front ++ text) → after (done ++ line ∷ []) (front ++ more)) → next ≡ count + 1
    → OwesText stands after heard (done ++ line ∷ []) more next
owes_more stands before after heard done line text more count next a step is = record {
  said = a.said;
  stood = a.stood;
  due = step a.said a.due;
  counted = let was = a.counted in omega (arith, was, is, length-append done (line ∷ []));
}

-- the text was written and is blank
pub owes_none : (old now : List ℕ → List ℕ → Type 0) (answers : Due) (heard : List ℕ) (done : List (List ℕ)) (text blank : List ℕ) (count : ℕ)
    → OwesText old answers heard done text count → ((said : List ℕ) → old heard said → now heard (said ++ text)) → blank ≡ []
    → OwesText now answers heard done blank count
owes_none old now answers heard done text blank count a step none =
    subst (λ (l : List ℕ). OwesText now answers heard done l count) (sym none) (answered_written old now answers heard done text count a step)

-- ---- texts that were written in part

-- a prefix of the text was written, and the text is blank now
pub unwritten : (P : List ℕ → Type 0) (said text front back blank : List ℕ) → text ≡ front ++ back → blank ≡ [] → P (said ++ text)
    → (unsaid : List ℕ) × P (((said ++ front) ++ blank) ++ unsaid)
unwritten P said text front back blank is none due = (
  back,
  subst P (ap (λ (l : List ℕ). said ++ l) is ∙ sym (append_assoc said front back)
      ∙ ap (λ (l : List ℕ). l ++ back) (sym (append-nil (said ++ front)) ∙ ap (λ (l : List ℕ). (said ++ front) ++ l) (sym none))) due,
)

pub unwritten_answer : (old : List ℕ → List ℕ → Type 0) (answers : Due) (heard : List ℕ) (done : List (List ℕ)) (text front back blank : List ℕ) (count : ℕ)
    (a : OwesText old answers heard done text count) → text ≡ front ++ back → blank ≡ [] → (unsaid : List ℕ) × answers done (((a.said ++ front) ++ blank) ++ unsaid)
unwritten_answer old answers heard done text front back blank count a is none = unwritten (answers done) a.said text front back blank is none a.due

-- a prefix of all that is due was written
pub cut_due : (over : Type 0) (why : Following) (due : Dues) (heard full said back : List ℕ) → full ≡ said ++ back → HasFollowed over why due heard full → HasFollowed over ended.WriteFailed due heard said
cut_due over ended.Completed due heard full said back is has = (ended.Completed, back, subst (IsDue over ended.Completed due heard) is has)
cut_due over ended.Refused due heard full said back is has = (ended.Refused, back, subst (IsDue over ended.Refused due heard) is has)
cut_due over ended.ReadFailed due heard full said back is has = (ended.ReadFailed, back, subst (IsDue over ended.ReadFailed due heard) is has)
cut_due over ended.WriteFailed due heard full said back is (why, unsaid, has) =
    (why, back ++ unsaid, subst (IsDue over why due heard) (ap (λ (l : List ℕ). l ++ unsaid) is ∙ append_assoc said back unsaid) has)
cut_due over ended.OutOfMemory due heard full said back is has = (ended.OutOfMemory, back, subst (IsDue over ended.OutOfMemory due heard) is has)

-- a prefix of the text was written after the earlier octets
pub cut_text : (over : Type 0) (why : Following) (due : Dues) (heard said text front back : List ℕ) → text ≡ front ++ back → HasFollowed over why due heard (said ++ text)
    → HasFollowed over ended.WriteFailed due heard (said ++ front)
cut_text over why due heard said text front back is has =
    cut_due over why due heard (said ++ text) (said ++ front) back (ap (λ (l : List ℕ). said ++ l) is ∙ sym (append_assoc said front back)) has

-- the text is blank
pub all_written : (over : Type 0) (why : Following) (due : Dues) (heard said text : List ℕ) → text ≡ [] → HasFollowed over why due heard (said ++ text) → HasFollowed over why due heard said
all_written over why due heard said text none has = subst (HasFollowed over why due heard) (ap (λ (l : List ℕ). said ++ l) none ∙ append-nil said) has

-- ---- reads

-- octets were read behind those that the buffer held
pub IsUnderway_read_more : (old now : List ℕ → List ℕ → Type 0) (answers : Due) (heard before after text : List ℕ) (held n count : ℕ)
    → IsUnderway old answers heard (take held before) text count → take held after ≡ take held before
    → ((said : List ℕ) → old heard said → now (heard ++ take n (drop held after)) said)
    → IsUnderway now answers (heard ++ take n (drop held after)) (take (held + n) after) text count
IsUnderway_read_more old now answers heard before after text held n count u same step =
    subst (λ (l : List ℕ). IsUnderway now answers (heard ++ take n (drop held after)) l text count)
    (ap (λ (l : List ℕ). l ++ take n (drop held after)) (sym same) ∙ sym (take-add held n after))
    (underway_heard old now answers heard (take held before) (take n (drop held after)) text count u step)

-- nothing was read
pub IsUnderway_read_none : (old now : List ℕ → List ℕ → Type 0) (answers : Due) (heard before after text : List ℕ) (held n count : ℕ) → n ≡ 0
    → IsUnderway old answers heard (take held before) text count → take held after ≡ take held before
    → ((said : List ℕ) → old heard said → now (heard ++ take n (drop held after)) said)
    → IsUnderway now answers (heard ++ take n (drop held after)) (take held after) text count
IsUnderway_read_none old now answers heard before after text held n count none u same step =
    let end : held + n ≡ held = omega (arith, none) in
    subst (λ (k : ℕ). IsUnderway now answers (heard ++ take n (drop held after)) (take k after) text count) end
    (IsUnderway_read_more old now answers heard before after text held n count u same step)

-- the octets that were written, and those that are held, were moved
pub IsUnderway_held_next : (old now : List ℕ → List ℕ → Type 0) (answers : Due) (heard rest held text blank : List ℕ) (count : ℕ)
    → IsUnderway old answers heard rest text count → ((said : List ℕ) → old heard said → now heard (said ++ text)) → held ≡ rest → blank ≡ []
    → IsUnderway now answers heard held blank count
IsUnderway_held_next old now answers heard rest held text blank count u step same none =
    subst (λ (l : List ℕ). IsUnderway now answers heard l blank count) (sym same)
    (subst (λ (l : List ℕ). IsUnderway now answers heard rest l count) (sym none) (underway_written old now answers heard rest text count u step))

-- the octets after one line more
pub behind_line : (bytes rest line others : List ℕ) → drop (length bytes - length rest) bytes ≡ rest → rest ≡ line ++ 10 ∷ others
    → drop (length bytes - length others) bytes ≡ others
behind_line bytes rest line others is cut =
    let n = length bytes - length rest in
    let front : List ℕ = take n bytes ++ (line ++ 10 ∷ []) in
    let all : bytes ≡ front ++ others =
    sym (take-append-drop n bytes)
    ∙ (ap (λ (l : List ℕ). take n bytes ++ l) (is ∙ (cut ∙ sym (append_assoc line (10 ∷ []) others)))
    ∙ sym (append_assoc (take n bytes) (line ++ 10 ∷ []) others)) in
    let long : length bytes - length others ≡ length front = let e = ap length all in omega (arith, e, length-append front others) in
    (λ i. drop (long i) (all i)) ∙ drop-append_seam front others

-- the first lines of an input of which others are held
pub first_underway : (stands : List ℕ → List ℕ → Type 0) (answers : Due) (heard rest text : List ℕ) (count : ℕ) (u : IsUnderway stands answers heard rest text count)
    → length rest ≤ 131072 → (over : Type 0) → AreFirst over heard (lines u.whole)
first_underway stands answers heard rest text count u few over =
    record { whole = u.whole; rest = rest; parts = u.parts; ended = inl u.ended; are = refl; few = few }

-- ---- counts

pub reads_same : (why : Following) (before now : ℕ) → why ≢ ended.ReadFailed → CountsReads why before now → now ≡ before
reads_same ended.Completed before now other is = is
reads_same ended.Refused before now other is = is
reads_same ended.ReadFailed before now other is = absurd (other refl)
reads_same ended.WriteFailed before now other is = is
reads_same ended.OutOfMemory before now other is = is

pub writes_same : (why : Following) (before now : ℕ) → why ≢ ended.WriteFailed → CountsWrites why before now → now ≡ before
writes_same ended.Completed before now other is = is
writes_same ended.Refused before now other is = is
writes_same ended.ReadFailed before now other is = is
writes_same ended.WriteFailed before now other is = absurd (other refl)
writes_same ended.OutOfMemory before now other is = is

-- ---- results

pub ok_weaker : {T E P Q : Type 0} (r : Result T E) → (P → Q) → OnOk r P → OnOk r Q
ok_weaker (Ok x) step p = step p
ok_weaker (Err e) step p = p

pub if_err_is : {T E : Type 0} (Q : E → Type 0) (r : Result T E) (e : E) → r ≡ Err e → Q e → IfErr r Q
if_err_is {T} {E} Q r e is q = subst (λ (o : Result T E). IfErr o Q) (sym is) q

pub on_err_any : {T E P : Type 0} (r : Result T E) → P → OnErr r P
on_err_any (Ok x) p = tt
on_err_any (Err e) p = p
