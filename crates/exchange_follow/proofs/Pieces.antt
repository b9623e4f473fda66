-- Two calls that follow the same octets in other pieces.
use Rattle.std.proofs.Common.{◌≡◌, ◌⊎◌, ◌<◌, ◌+◌, ℕ, List, [], ◌∷◌, ◌++◌, length, Some, None, Ok, Err, refl, sym, ap, subst, ◌∙◌, arith, inl, inr, append_assoc, append-nil, length-append}
use Rattle.frame_engine.specs.declared.carrier.Carrier.{Ghosts as CarrierKind}
use Rattle.meters.specs.declared.meter.Meter.{Ghosts as MeterKind}
use Rattle.meters.specs.Changing.{handed_in, steps_text}
use Rattle.trace_text.specs.declared.fault.Reason.{Reason}
use Rattle.trace_text.specs.declared.said.Sizes.{Sizes}
use Rattle.trace_text.specs.TraceGrammar.{sizes_in}
use Rattle.trace_text.specs.TraceWords.{lines}
use Rattle.linked_text.specs.LinkEffects.{plain_told}
use Rattle.linked_text.specs.LinkLines.{Content}
use Rattle.linked_exchange.specs.InTurn.{EachInTurn, follows_in_turn, story_in_turn}
use Rattle.linked_exchange.proofs.PlainInTurn.{one_in_turn}
use Rattle.linked_exchange.proofs.TurnLines.{follows_long}
use Rattle.run_verifier.specs.Refusals.{refusal}
use Rattle.line_wire.specs.Following.{AreFirst, At_end, At_line, HasFollowed, IsRefused}
use Rattle.line_wire.specs.declared.following.Following.{Following}
use Rattle.line_wire.specs.declared.following.Following.TheVariants as followed
use Rattle.line_wire.proofs.Pieces.{IsInInput, in_input}
use Rattle.exchange_follow.specs.Following.{Course, IsEndRefused, IsLineRefused, IsWhole, course, dues_of}
use Rattle.exchange_follow.specs.Pieces.{EndedCall, HasFollowedBytes, HaveFollowed, NoneFailed, StartedCall}

-- ---- the first of some rows that is refused

-- after the contents of the rows before it, this row is refused
pub record IsRefusedRow (before : List Content) (front : List (List ℕ)) (row : List ℕ) (told : List Content) (why : Reason) : Type 0 where
  pub meets : EachInTurn before front told
  pub fails : follows_in_turn (before ++ told) row ≡ Err why

first_row : (a b : List ℕ) (xs ys : List (List ℕ)) → a ∷ xs ≡ b ∷ ys → a ≡ b
first_row a b xs ys is = grind (arith, is)

other_rows : (a b : List ℕ) (xs ys : List (List ℕ)) → a ∷ xs ≡ b ∷ ys → xs ≡ ys
other_rows a b xs ys is = grind (arith, is)

not_both : (told : List Content) (row other : List ℕ) (c : Content) (why : Reason) → row ≡ other → follows_in_turn told row ≡ Ok c → follows_in_turn told other ≡ Err why → ⊥
not_both told row other c why same ok fails =
    let both : Ok c ≡ Err why = sym ok ∙ (ap (follows_in_turn told) same ∙ fails) in absurd (grind (arith, both))

next_row : (before : List Content) (c : Content) (front : List (List ℕ)) (row : List ℕ) (told : List Content) (why : Reason)
    → EachInTurn (before ++ c ∷ []) front told → follows_in_turn (before ++ c ∷ told) row ≡ Err why → IsRefusedRow (before ++ c ∷ []) front row told why
next_row before c front row told why meets fails =
    record { meets = meets; fails = subst (λ (l : List Content). follows_in_turn l row ≡ Err why) (sym (append_assoc before (c ∷ []) told)) fails }

at_first : (before : List Content) (row : List ℕ) (why : Reason) → follows_in_turn (before ++ []) row ≡ Err why → follows_in_turn before row ≡ Err why
at_first before row why = subst (λ (l : List Content). follows_in_turn l row ≡ Err why) (append-nil before)

-- a row that is refused is not one of rows that all have contents
refused_none : (before : List Content) (rows front : List (List ℕ)) (row : List ℕ) (others : List (List ℕ)) (all told : List Content) (why : Reason)
    → EachInTurn before rows all → rows ≡ front ++ row ∷ others → IsRefusedRow before front row told why → ⊥
refused_none before [] front row others all told why meets is r = let long = ap length is in omega (arith, long, length-append front (row ∷ others))
refused_none before (first ∷ rows) front row others [] told why meets is r = absurd meets
refused_none before (first ∷ rows) [] row others (c ∷ all) [] why meets is r =
    not_both before first row c why (first_row first row rows others is) meets.0 (at_first before row why r.fails)
refused_none before (first ∷ rows) [] row others (c ∷ all) (d ∷ told) why meets is r = absurd r.meets
refused_none before (first ∷ rows) (other ∷ front) row others (c ∷ all) [] why meets is r = absurd r.meets
refused_none before (first ∷ rows) (other ∷ front) row others (c ∷ all) (d ∷ told) why meets is r =
    let same : first ≡ other = first_row first other rows (front ++ row ∷ others) is in
    let both : Ok c ≡ Ok d = sym meets.0 ∙ (ap (follows_in_turn before) same ∙ r.meets.0) in
    let content : c ≡ d = grind (arith, both) in
    refused_none (before ++ d ∷ []) rows front row others all told why
    (subst (λ (v : Content). EachInTurn (before ++ v ∷ []) rows all) content meets.1)
    (other_rows first other rows (front ++ row ∷ others) is)
    (next_row before d front row told why r.meets.1 r.fails)

-- rows have one row that is refused first, for one reason
pub record IsSameRefusal (front back : List (List ℕ)) (told other : List Content) (why cause : Reason) : Type 0 where
  pub rows : length front ≡ length back
  pub contents : told ≡ other
  pub causes : why ≡ cause

one_refusal : (before : List Content) (front back : List (List ℕ)) (row last : List ℕ) (others rest : List (List ℕ)) (told other : List Content) (why cause : Reason)
    → front ++ row ∷ others ≡ back ++ last ∷ rest → IsRefusedRow before front row told why → IsRefusedRow before back last other cause → IsSameRefusal front back told other why cause
one_refusal before [] [] row last others rest [] [] why cause is r s =
    let same : row ≡ last = first_row row last others rest is in
    let both : Err why ≡ Err cause = sym r.fails ∙ (ap (follows_in_turn (before ++ [])) same ∙ s.fails) in
    record { rows = refl; contents = refl; causes = grind (arith, both) }
one_refusal before [] back row last others rest (c ∷ told) other why cause is r s = absurd r.meets
one_refusal before front [] row last others rest told (d ∷ other) why cause is r s = absurd s.meets
one_refusal before (first ∷ front) back row last others rest [] other why cause is r s = absurd r.meets
one_refusal before front (second ∷ back) row last others rest told [] why cause is r s = absurd s.meets
one_refusal before [] (second ∷ back) row last others rest [] (d ∷ other) why cause is r s =
    absurd (not_both before second row d why (sym (first_row row second others (back ++ last ∷ rest) is)) s.meets.0 (at_first before row why r.fails))
one_refusal before (first ∷ front) [] row last others rest (c ∷ told) [] why cause is r s =
    absurd (not_both before first last c cause (first_row first last (front ++ row ∷ others) rest is) r.meets.0 (at_first before last cause s.fails))
one_refusal before (first ∷ front) (second ∷ back) row last others rest (c ∷ told) (d ∷ other) why cause is r s =
    let same : first ≡ second = first_row first second (front ++ row ∷ others) (back ++ last ∷ rest) is in
    let both : Ok c ≡ Ok d = sym r.meets.0 ∙ (ap (follows_in_turn before) same ∙ s.meets.0) in
    let content : c ≡ d = grind (arith, both) in
    let next = one_refusal (before ++ d ∷ []) front back row last others rest told other why cause
    (other_rows first second (front ++ row ∷ others) (back ++ last ∷ rest) is)
    (next_row before d front row told why
    (subst (λ (v : Content). EachInTurn (before ++ v ∷ []) front told) content r.meets.1)
    (subst (λ (v : Content). follows_in_turn (before ++ v ∷ told) row ≡ Err why) content r.fails))
    (next_row before d back last other cause s.meets.1 s.fails) in
    let longer = next.rows in
    record { rows = omega (arith, longer); contents = λ i. content i ∷ next.contents i; causes = next.causes }

-- ---- the end of a call

-- the line that ends a call is the first one of the whole input that is refused
pub record IsLineOf (bytes : List ℕ) (x : Course) (said : List ℕ) : Type 0 where
  pub front : List (List ℕ)
  pub row : List ℕ
  pub others : List (List ℕ)
  pub told : List Content
  pub why : Reason
  pub are : lines bytes ≡ front ++ row ∷ others
  pub refused : IsRefusedRow [] front row told why
  pub text : said ≡ x.meters.written (story_in_turn x.plays x.slots told) ++ refusal (length front + 1) why

module _ (bytes heard left : List ℕ) (all : bytes ≡ heard ++ left) (x : Course) (ls : List (List ℕ)) (said : List ℕ) (first : AreFirst (left ≡ []) heard ls) (r : IsLineRefused x ls said) where
  there : IsInInput bytes r.before r.line
  there = in_input bytes heard left r.before r.line all (subst (AreFirst (left ≡ []) heard) r.parts first)

  fails_there : (there.row ≡ r.line) ⊎ ((65535 < length r.line) × (65535 < length there.row)) → follows_in_turn r.told there.row ≡ Err r.why
  fails_there (inl same) = ap (follows_in_turn r.told) same ∙ r.fails
  fails_there (inr (long, longer)) = follows_long r.told there.row longer ∙ (sym (follows_long r.told r.line long) ∙ r.fails)

  line_of : IsLineOf bytes x said
  line_of =
      let count : length ls ≡ length r.before + 1 = let parts = ap length r.parts in omega (arith, parts, length-append r.before (r.line ∷ [])) in
      record {
        front = r.before;
        row = there.row;
        others = there.others;
        told = r.told;
        why = r.why;
        are = there.are;
        refused = record { meets = r.meets; fails = fails_there there.same };
        text = r.text ∙ ap (λ (n : ℕ). x.meters.written (story_in_turn x.plays x.slots r.told) ++ refusal n r.why) count;
      }

-- the end of a call without a failed read, write or allocation
pub data IsCallEnd (bytes : List ℕ) (x : Course) (ending : Following) (said : List ℕ) : Type 0 where
  Whole : ending ≡ followed.Completed → IsWhole x (lines bytes) said → IsCallEnd bytes x ending said
  Headless : ending ≡ followed.Refused → IsEndRefused x (lines bytes) said → IsCallEnd bytes x ending said
  At_row : ending ≡ followed.Refused → IsLineOf bytes x said → IsCallEnd bytes x ending said

module _ (bytes heard left : List ℕ) (all : bytes ≡ heard ++ left) (x : Course) (said : List ℕ) where
  at_end : left ≡ [] → heard ≡ bytes
  at_end over = sym (all ∙ (ap (λ (l : List ℕ). heard ++ l) over ∙ append-nil heard))

  ended_refused : IsRefused (left ≡ []) (dues_of x) heard said → IsCallEnd bytes x followed.Refused said
  ended_refused (At_line front first r) = At_row refl (line_of bytes heard left all x front said first r)
  ended_refused (At_end over r) = Headless refl (subst (λ (l : List ℕ). IsEndRefused x (lines l) said) (at_end over) r)

  ended : (ending : Following) → NoneFailed ending → HasFollowed (left ≡ []) ending (dues_of x) heard said → IsCallEnd bytes x ending said
  ended followed.Completed none due = Whole refl (subst (λ (l : List ℕ). IsWhole x (lines l) said) (at_end due.0) due.1)
  ended followed.Refused none due = ended_refused due
  ended followed.ReadFailed none due = absurd none
  ended followed.WriteFailed none due = absurd none
  ended followed.OutOfMemory none due = absurd none

-- ---- two calls

module _ {M E : Type 0} (c : CarrierKind E) (m : MeterKind M) (start : StartedCall M) where
  abbrev Has : EndedCall M E → Type 0
  Has call = HasFollowedBytes c m start call

  abbrev course_to : List M → List M → Course
  course_to on spare = course c.plays start.slots start.moves m.stands m.text start.on start.spare on spare

  abbrev text_of : List Content → List ℕ
  text_of told = steps_text m.text (story_in_turn c.plays start.slots told) (handed_in start.on start.spare)

  abbrev rows : List (List ℕ)
  rows = lines start.bytes

  end_of : (call : EndedCall M E) → Has call → IsCallEnd start.bytes (course_to call.on call.spare) call.ending call.said
  end_of call (none, follows) =
      subst (IsCallEnd start.bytes (course_to call.on call.spare) call.ending) (sym follows.stood.1)
      (ended start.bytes follows.heard call.left follows.stood.0 (course_to call.on call.spare) follows.said call.ending none follows.due)

  -- the same ending, and the same octets
  abbrev AreSame : (first second : Following) (said other : List ℕ) → Type 0
  AreSame first second said other = (first ≡ second) × (said ≡ other)

  module _ (on spare now now_spare : List M) (first second : Following) (said other : List ℕ) where
    same_rows : IsLineOf start.bytes (course_to on spare) said → IsLineOf start.bytes (course_to now now_spare) other → said ≡ other
    same_rows a b =
        let same = one_refusal [] a.front b.front a.row b.row a.others b.others a.told b.told a.why b.why (sym a.are ∙ b.are) a.refused b.refused in
        a.text ∙ ((λ i. text_of (same.contents i) ++ refusal (same.rows i + 1) (same.causes i)) ∙ sym b.text)

    no_row : (told : List Content) → EachInTurn [] rows told → (x : Course) (written : List ℕ) → IsLineOf start.bytes x written → ⊥
    no_row told meets x written a = refused_none [] rows a.front a.row a.others told a.told a.why meets a.are a.refused

    no_header : (told unled : List Content) (z : Sizes) → EachInTurn [] rows told → EachInTurn [] rows unled → sizes_in (plain_told told) ≡ Some z → sizes_in (plain_told unled) ≡ None → ⊥
    no_header told unled z meets others some none =
        let same = one_in_turn told unled rows meets others in
        let both : Some z ≡ None = sym some ∙ (ap (λ (l : List Content). sizes_in (plain_told l)) same ∙ none) in
        absurd (grind (arith, both))

    same_ends : IsCallEnd start.bytes (course_to on spare) first said → IsCallEnd start.bytes (course_to now now_spare) second other → AreSame first second said other
    same_ends (Whole is a) (Whole so b) =
        (is ∙ sym so, a.text ∙ (ap text_of (one_in_turn a.told b.told rows a.meets b.meets) ∙ sym b.text))
    same_ends (Whole is a) (Headless so b) = absurd (no_header a.told b.told a.sizes a.meets b.meets a.header b.none)
    same_ends (Whole is a) (At_row so b) = absurd (no_row a.told a.meets (course_to now now_spare) other b)
    same_ends (Headless is a) (Whole so b) = absurd (no_header b.told a.told b.sizes b.meets a.meets b.header a.none)
    same_ends (Headless is a) (Headless so b) = (is ∙ sym so, a.text ∙ sym b.text)
    same_ends (Headless is a) (At_row so b) = absurd (no_row a.told a.meets (course_to now now_spare) other b)
    same_ends (At_row is a) (Whole so b) = absurd (no_row b.told b.meets (course_to on spare) said a)
    same_ends (At_row is a) (Headless so b) = absurd (no_row b.told b.meets (course_to on spare) said a)
    same_ends (At_row is a) (At_row so b) = (is ∙ sym so, same_rows a b)

  pub same_calls : (first second : EndedCall M E) → HaveFollowed c m start first second → AreSame first.ending second.ending first.said second.said
  same_calls first second (a, b) = same_ends first.on first.spare second.on second.spare first.ending second.ending first.said second.said (end_of first a) (end_of second b)
