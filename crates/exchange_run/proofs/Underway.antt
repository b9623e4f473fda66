-- A run, segment after segment, and how it ends.
use Rattle.std.proofs.Common.{◌≡◌, ℕ, ◌+◌, ◌*◌, ◌≤◌, List, [], ◌++◌, length, None, Option, Result, Ok, Err, IsErrAnd, refl, sym, ap, subst, ◌∙◌, arith, append-nil, inl, inr}
use Rattle.std.specs.Io.KnownBytes.{Appends}
use Rattle.std.proofs.KnownBytes.{Appends-nil}
use Rattle.std.proofs.lemmas.List.{append_assoc}
use Rattle.std.proofs.lemmas.List.Elements.{All-nil}
use Rattle.exchange_events.specs.declared.record.CallRecord.{CallRecord}
use Rattle.exchange_events.specs.declared.trace.Trace.{Trace}
use Rattle.exchange_events.specs.Sizes.{Dimensions}
use Rattle.seat_history.specs.declared.seat_knowledge.SeatKnowledge.{SeatKnowledge}
use Rattle.seat_history.specs.Seats.{first_seat}
use Rattle.exchange_core.specs.Boards.{Board, turns_of}
use Rattle.exchange_events.specs.Sound.{IsSound, setting_of}
use Rattle.exchange_core.specs.Working.{order_of, world_after}
use Rattle.call_profile.specs.World.{World}
use Rattle.call_processor.specs.Frames.{Plays}
use Rattle.segment_run.specs.Segment.{IsChief, Ran, RanWhole, new_events}
use Rattle.segment_run.specs.Segments.{IsDoneBelow}
use Rattle.segment_run.proofs.OrderLemmas.{IsDoneBelow_none as none_done, IsDoneBelow_one_more, cut_short, IsLawful_all_done, first_chief, order_grown}
use Rattle.report_lines.specs.declared.listing.Listing.{Listing}
use Rattle.run_verifier.specs.declared.ending.Ending.TheVariants as ended
use Rattle.exchange_run.specs.Outcomes.{AreOfSegments, No_segments, Some_segments, IsFlushed, IsRunInterrupted, IsRunUnwritten, IsRunWritten, MovesFew, Parties}
use Rattle.meters.specs.Changing.{Step, changes_at, lines_of, records_of}
use Rattle.linked_exchange.specs.Story.{story}
use Rattle.linked_exchange.specs.Parties.{MeterStory}
use Rattle.call_profile.specs.CallsTold.{calls_told}
use Rattle.exchange_run.specs.declared.run.RunError.{RunError}
use Rattle.exchange_run.specs.declared.run.RunError.TheVariants.{Memory, Write}
use Rattle.exchange_run.specs.Running.{GrewFew, ending_of, engine_of, fabric_at}
use Rattle.ex_io.specs.Streams.{AppendsFront}
use Rattle.exchange_run.proofs.Answered.{few_grown}
use Rattle.exchange_run.proofs.Pending.{front_pending, whole_pending}
use Rattle.exchange_run.proofs.Stories.{lines-append, lines-at, story_records}

-- what is written of a run's story
abbrev pub Writing : Type 0
Writing = List Step → List ℕ

-- A prefix of the story of an order was written. It ends with a segment, and the text of the remaining steps is pending: the lines of their events, if
-- no meter writes a text in them.
pub record IsPending (plays : Plays) (l : Listing) (slots : ℕ) (trace : Trace) (written : Writing) (order : List ℕ) (old now : Option (List ℕ)) (pending said : List ℕ) : Type 0 where
  pub front : List Step
  pub more : List Step
  pub parts : story plays l slots trace order ≡ front ++ more
  pub ends : AreOfSegments plays l slots trace order front
  pub text : Appends old now (written front)
  pub rest : written (story plays l slots trace order) ≡ written front ++ pending
  pub quiet : said ≡ [] → pending ≡ lines_of more

-- the first k segments were done by what seat 0 knows, and of their story all is written but what is pending
pub record IsUnderway (plays : Plays) (l : Listing) (board : Board) (written : Writing) (k : ℕ) (seat : SeatKnowledge) (old now : Option (List ℕ)) (pending said : List ℕ) : Type 0 where
  pub chief : IsChief (turns_of board) seat
  pub numbers : seat.made ≤ 9 * k
  pub done : IsDoneBelow board.trace k (order_of seat.seen)
  pub text : IsPending plays l board.slots board.trace written (order_of seat.seen) old now pending said
  pub few : MovesFew (fabric_at board) board.trace (order_of seat.seen)

-- steps of the first segments of an order are steps of the first segments of a longer order
of_longer : (plays : Plays) (l : Listing) (slots : ℕ) (trace : Trace) (order more : List ℕ) (steps : List Step) → AreOfSegments plays l slots trace order steps
    → AreOfSegments plays l slots trace (order ++ more) steps
of_longer plays l slots trace order more steps (No_segments none) = No_segments none
of_longer plays l slots trace order more steps (Some_segments segments first others parts done is) =
    Some_segments segments first (others ++ more) (ap (λ xs. xs ++ more) parts ∙ append_assoc first others more) done is

-- the parties of a run
abbrev pub party : Plays → (Dimensions → World → Type 0) → Type 0 → MeterStory → List ℕ → (old new : Option (List ℕ)) → (before after : ℕ) → Parties
party plays handed no_engine m order old new before after = record {
  plays = plays;
  handed = handed;
  no_engine = no_engine;
  meters = m;
  order = order;
  output = record { old = old; new = new; before = before; after = after };
}

-- no event was done, and no change was made
module _ (plays : Plays) (l : Listing) (slots : ℕ) (handed : Dimensions → World → Type 0) (no_engine : Type 0) (m : MeterStory) (trace : Trace) (order : List ℕ) (known : Option (List ℕ)) (before after : ℕ) where
  pub IsRunInterrupted_none : order ≡ [] → m.written [] ≡ [] → m.left_beyond [] [] → no_engine → IsRunInterrupted (party plays handed no_engine m order known known before after) l slots trace
  IsRunInterrupted_none empty silent told engine = rw empty (record {
    lawful = (none_done trace).lawful;
    segments = 0;
    whole = [];
    rest = [];
    parts = refl;
    done = none_done trace;
    next = All-nil _;
    front = [];
    more = [];
    others = story plays l slots trace [];
    steps = refl;
    ends = No_segments refl;
    text = subst (Appends known known) (sym silent) (Appends-nil known);
    unwritten = sym (append-nil (m.written []));
    noted = [];
    calls = refl;
    meters = subst (m.left_beyond []) (sym (story_records plays l slots trace [] (All-nil _))) told;
    engine = engine;
  })

module _ (plays : Plays) (l : Listing) (board : Board) (written : Writing) where
  -- before the first segment
  pub underway_first : (seat : SeatKnowledge) (known : Option (List ℕ)) (pending said : List ℕ) → seat ≡ first_seat (turns_of board) → written (story plays l board.slots board.trace []) ≡ pending
      → written [] ≡ [] → (said ≡ [] → pending ≡ []) → IsUnderway plays l board written 0 seat known known pending said
  underway_first seat known pending said fresh all silent none = rw fresh (record {
    chief = first_chief (turns_of board);
    numbers = omega arith;
    done = none_done board.trace;
    text = record {
      front = [];
      more = story plays l board.slots board.trace [];
      parts = refl;
      ends = No_segments refl;
      text = subst (Appends known known) (sym silent) (Appends-nil known);
      rest = all ∙ ap (λ (t : List ℕ). t ++ pending) (sym silent);
      quiet = λ is. none is ∙ sym (ap lines_of (append-nil (changes_at board.trace.changes 0)) ∙ lines-at board.trace.changes 0);
    };
    few = All-nil _;
  })

  module _ (k : ℕ) (v : SeatKnowledge) (old now : Option (List ℕ)) (pending said : List ℕ) (so_far : IsUnderway plays l board written k v old now pending said) where
    abbrev story_so_far : List Step
    story_so_far = story plays l board.slots board.trace (order_of v.seen)

    -- one segment more was done, with the changes behind it, and what is written of it is pending too
    pub underway_more : (w : SeatKnowledge) (steps : List Step) (after more all : List ℕ) → said ≡ [] → IsChief (turns_of board) w → Ran board.trace k v w → RanWhole board.trace k v w
        → story plays l board.slots board.trace (order_of w.seen) ≡ story_so_far ++ steps → written (story plays l board.slots board.trace (order_of w.seen)) ≡ written story_so_far ++ more
        → after ≡ pending ++ more → (all ≡ [] → more ≡ lines_of steps) → GrewFew board v w → IsUnderway plays l board written (k + 1) w old now after all
    underway_more w steps after more all silent chief ran whole is lines same none few =
        let p = so_far.text in
        record {
          chief = chief;
          numbers = let before = so_far.numbers in let made = ran.few in omega (arith, before, made);
          done = IsDoneBelow_one_more board.trace k v w so_far.done ran whole;
          text = record {
            front = p.front;
            more = p.more ++ steps;
            parts = is ∙ (ap (λ (xs : List Step). xs ++ steps) p.parts ∙ append_assoc p.front p.more steps);
            ends = subst (λ order. AreOfSegments plays l board.slots board.trace order p.front) (sym (order_grown v w ran.begins))
                (of_longer plays l board.slots board.trace (order_of v.seen) (new_events v w) p.front p.ends);
            text = p.text;
            rest = lines ∙ (ap (λ (t : List ℕ). t ++ more) p.rest ∙ (append_assoc (written p.front) pending more ∙ ap (λ (t : List ℕ). written p.front ++ t) (sym same)));
            quiet = λ said_none. same ∙ ((λ i. p.quiet silent i ++ none said_none i) ∙ sym (lines-append p.more steps));
          };
          few = few_grown board v w ran.begins so_far.few few;
        }

    -- some of it was written, as far as is known
    pub underway_written : (then : Option (List ℕ)) (left : List ℕ) → IsFlushed now then pending left said → (also : List ℕ) → also ≡ [] → IsUnderway plays l board written k v old then left also
    underway_written then left flushed also silent =
        let p = so_far.text in
        record {
          chief = so_far.chief;
          numbers = so_far.numbers;
          done = so_far.done;
          text = elim flushed [
            | inl same ↦ record {
              front = p.front;
              more = p.more;
              parts = p.parts;
              ends = p.ends;
              text = subst (λ (o : Option (List ℕ)). Appends old o (written p.front)) (sym same.0) p.text;
              rest = p.rest ∙ ap (λ (t : List ℕ). written p.front ++ t) (sym same.1);
              quiet = λ none. same.1 ∙ p.quiet same.2;
            }
            | inr all ↦ record {
              front = story_so_far;
              more = [];
              parts = sym (append-nil story_so_far);
              ends = Some_segments k (order_of v.seen) [] (sym (append-nil (order_of v.seen))) so_far.done refl;
              text = whole_pending old now then (written p.front) pending (written story_so_far) p.rest p.text all.0;
              rest = sym (append-nil (written story_so_far)) ∙ ap (λ (t : List ℕ). written story_so_far ++ t) (sym all.1);
              quiet = λ none. all.1;
            }
          ];
          few = so_far.few;
        }

    pub all_written : (new : Option (List ℕ)) → Appends now new pending → Appends old new (written story_so_far)
    all_written new done = whole_pending old now new (written so_far.text.front) pending (written story_so_far) so_far.text.rest so_far.text.text done

module _ (plays : Plays) (l : Listing) (board : Board) (handed : Dimensions → World → Type 0) (no_engine : Type 0) (m : MeterStory) (k : ℕ) (v : SeatKnowledge) (old now : Option (List ℕ)) (before after : ℕ) (pending said : List ℕ)
    (so_far : IsUnderway plays l board m.written k v old now pending said) where
  abbrev story_before : List Step
  story_before = story plays l board.slots board.trace (order_of v.seen)

  -- memory ran out behind these segments: the meters took some steps more, of which nothing but lines is written
  pub begun_segment : (w : SeatKnowledge) (steps others : List Step) (noted : List CallRecord) → said ≡ [] → Ran board.trace k v w → story plays l board.slots board.trace (order_of w.seen) ≡ (story_before ++ steps) ++ others
      → m.written (story_before ++ steps) ≡ m.written story_before ++ lines_of steps → records_of (story_before ++ steps) ≡ calls_told board.slots board.trace (order_of v.seen) ++ noted
      → m.left_beyond (story_before ++ steps) (records_of others) → no_engine → IsRunInterrupted (party plays handed no_engine m (order_of w.seen) old now before after) l board.slots board.trace
  begun_segment w steps others noted silent ran are says calls left engine =
      let p = so_far.text in
      let same : story_before ++ steps ≡ p.front ++ (p.more ++ steps) = ap (λ (xs : List Step). xs ++ steps) p.parts ∙ append_assoc p.front p.more steps in
      record {
        lawful = cut_short board.trace k v w so_far.done ran;
        segments = k;
        whole = order_of v.seen;
        rest = new_events v w;
        parts = order_grown v w ran.begins;
        done = so_far.done;
        next = ran.only;
        front = p.front;
        more = p.more ++ steps;
        others = others;
        steps = are ∙ ap (λ (xs : List Step). xs ++ others) same;
        ends = p.ends;
        text = p.text;
        unwritten = ap m.written (sym same)
            ∙ (says
            ∙ (ap (λ (t : List ℕ). t ++ lines_of steps) p.rest
            ∙ (append_assoc (m.written p.front) pending (lines_of steps)
            ∙ ap (λ (t : List ℕ). m.written p.front ++ t) (ap (λ (t : List ℕ). t ++ lines_of steps) (p.quiet silent) ∙ sym (lines-append p.more steps)))));
        noted = noted;
        calls = ap records_of (sym same) ∙ calls;
        meters = subst (λ (xs : List Step). m.left_beyond xs (records_of others)) same left;
        engine = engine;
      }

  -- writing what was pending failed
  pub begun_flush : (new : Option (List ℕ)) → AppendsFront now new pending → m.left story_before → no_engine
      → IsRunUnwritten (party plays handed no_engine m (order_of v.seen) old new before after) l board.slots board.trace
  begun_flush new front left engine = record {
    segments = k;
    done = so_far.done;
    text = front_pending old now new (m.written so_far.text.front) pending (m.written story_before) so_far.text.rest so_far.text.text front;
    meters = left;
    engine = engine;
  }

  -- every segment was done, and all was written
  pub run_whole : IsSound board.trace → k ≡ length board.trace.segments → m.left story_before → (new : Option (List ℕ)) → Appends now new pending
      → handed (setting_of board.slots board.trace).dimensions (world_after board.slots board.trace (order_of v.seen))
      → IsRunWritten (party plays handed no_engine m (order_of v.seen) old new before after) l (fabric_at board) board.trace
  run_whole sound all left new written engine = record {
    whole = record {
      lawful = IsLawful_all_done board.trace (order_of v.seen) sound (subst (λ n. IsDoneBelow board.trace n (order_of v.seen)) all so_far.done);
      few = so_far.few;
      meters = left;
    };
    text = all_written plays l board m.written k v old now pending said so_far new written;
    engine = engine;
  }

-- ---- what came of a run

pub ending_memory : {C : Type 0} (r : Result C RunError) → IsErrAnd r (λ fault. fault ≡ Memory) → ending_of r ≡ ended.OutOfMemory
ending_memory {C} (Ok e) is = absurd is
ending_memory {C} (Err f) is = ap (λ (fault : RunError). ending_of {C = C} (Err fault)) is

pub ending_write : {C : Type 0} (r : Result C RunError) → IsErrAnd r (λ fault. fault ≡ Write) → ending_of r ≡ ended.WriteFailed
ending_write {C} (Ok e) is = absurd is
ending_write {C} (Err f) is = ap (λ (fault : RunError). ending_of {C = C} (Err fault)) is

pub no_engine_of : {C : Type 0} (P : RunError → Type 0) (r : Result C RunError) → IsErrAnd r P → engine_of r ≡ None
no_engine_of P (Ok e) is = absurd is
no_engine_of P (Err f) is = refl
