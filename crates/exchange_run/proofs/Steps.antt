-- The meters of a run, segment after segment.
use Rattle.std.proofs.Common.{◌≡◌, ℕ, suc, ◌+◌, ◌<◌, ◌≤◌, List, [], ◌∷◌, ◌++◌, length, get_or, Option, refl, sym, ap, ◌∙◌, subst, arith, add-one, append_assoc, append-nil, length-append}
use Rattle.std.specs.Prelude.{All, replicate}
use Rattle.exchange_events.specs.declared.record.CallRecord.{CallRecord}
use Rattle.exchange_events.specs.declared.trace.Trace.{Trace}
use Rattle.exchange_events.specs.Orders.{IsEvent}
use Rattle.exchange_events.specs.Sizes.{Dimensions}
use Rattle.exchange_events.specs.Sound.{IsSound}
use Rattle.seat_history.specs.declared.seat_knowledge.SeatKnowledge.{SeatKnowledge}
use Rattle.seat_history.specs.Seats.{first_seat}
use Rattle.exchange_core.specs.Boards.{Board, turns_of}
use Rattle.exchange_core.specs.Working.{order_of}
use Rattle.call_profile.specs.CallsTold.{calls_told}
use Rattle.call_profile.specs.World.{World}
use Rattle.call_processor.specs.Frames.{Plays}
use Rattle.report_lines.specs.declared.listing.Listing.{Listing}
use Rattle.report_lines.specs.Lines.{Line, listed, text_of}
use Rattle.segment_run.specs.Segment.{IsChief, Ran, RanWhole, new_events}
use Rattle.segment_run.specs.Segments.{IsDoneBelow}
use Rattle.segment_run.proofs.OrderLemmas.{count_done, grown_known, IsDoneBelow_one_more, order_grown}
use Rattle.meters.specs.Changing.{Step, Meters_changed, Metering, IsAt, IsPast, AreMetered, after_steps, changes_at, handed_in, records_of, steps_text, with_changes}
use Rattle.meters.proofs.Changes.{after-append, law_of_lines, metered-events, metered-first, records-append, text-append}
use Rattle.meters.proofs.Cursor.{at_next, next_above, none_between}
use Rattle.meters.proofs.Placed.{NoneBetween, records-at, records-with, with-segment}
use Rattle.exchange_run.specs.Changes.{AreChangesDone}
use Rattle.exchange_run.specs.Outcomes.{IsRunInterrupted, IsRunUnwritten}
use Rattle.exchange_run.specs.Running.{GrewFew, GrowthIsTold, IsAdded, grown_calls, grown_lines}
use Rattle.linked_exchange.specs.Story.{story}
use Rattle.ex_io.specs.Streams.{AppendsFront}
use Rattle.linked_exchange.specs.Parties.{AreLeft, AreMeteredBeyond, meter_story}
use Rattle.linked_exchange.specs.Telling.{AreTold, AreToldFront}
use Rattle.exchange_run.proofs.Stories.{grown_are_events, grown_length, grown_records, grown_steps, lines_of-grown_steps_text, lines-append, lines-at, story_grown, story_records}
use Rattle.linked_exchange.proofs.Tellings.{beyond_none, both_beyond, none_beyond}
use Rattle.exchange_run.proofs.Underway.{IsUnderway, begun_flush, IsRunInterrupted_none, begun_segment, party, underway_first, underway_more}

-- the place of a segment's beginning: how many events come before it
abbrev pub place_of : List ℕ → ℕ → ℕ
place_of ends k = get_or (0 ∷ ends) k 0

-- the changes of a place, by equal lists and places
module _ {M : Type 0} {stands : M → List CallRecord → Type 0} {text : M → List CallRecord → List ℕ} {meters spare now now_spare : List M} {all : List ℕ}
    (changes wanted : List ℕ) (place there : ℕ) (said : List ℕ) (same : changes ≡ wanted) (is : place ≡ there) (silent : said ≡ []) where
  pub done_moved : {cursor : ℕ} → AreChangesDone stands text changes place meters spare said now now_spare all cursor → AreChangesDone stands text wanted there meters spare [] now now_spare all cursor
  done_moved {cursor} d =
      subst (λ (cs : List ℕ). AreChangesDone stands text cs there meters spare [] now now_spare all cursor) same
      (subst (λ (n : ℕ). AreChangesDone stands text changes n meters spare [] now now_spare all cursor) is
      (subst (λ (t : List ℕ). AreChangesDone stands text changes place meters spare t now now_spare all cursor) silent d))

module _ {M : Type 0} (stands : M → List CallRecord → Type 0) (text : M → List CallRecord → List ℕ) (old spare : List M) (plays : Plays) (l : Listing) (board : Board) where
  abbrev story_of : SeatKnowledge → List Step
  story_of v = story plays l board.slots board.trace (order_of v.seen)

  abbrev first : Metering M
  first = handed_in old spare

  -- the first k segments were done, with the changes behind them, and these are the meters then
  pub record AreOn (k : ℕ) (v : SeatKnowledge) (meters spares : List M) (cursor : ℕ) : Type 0 where
    pub left : AreLeft stands text old spare meters spares (story_of v)
    pub past : IsPast board.trace.changes cursor (place_of board.trace.segments k)

  -- ---- before the first segment

  module _ (v : SeatKnowledge) (fresh : v ≡ first_seat (turns_of board)) (now now_spare : List M) (all : List ℕ) where
    pub changed_first : (cursor : ℕ) → AreChangesDone stands text board.trace.changes 0 old spare [] now now_spare all cursor → AreOn 0 v now now_spare cursor
    changed_first cursor d =
        let left = d.made.left first (metered-first stands text old spare) in
        let is : story_of v ≡ replicate d.count Meters_changed =
        ap (λ (u : SeatKnowledge). story_of u) fresh ∙ (append-nil (changes_at board.trace.changes 0) ∙ d.are) in
        record {
          left = subst (λ (steps : List Step). AreMetered stands text (after_steps steps first) now now_spare) (sym is) left;
          past = d.past;
        }

    pub steps_text_said_first : (cursor : ℕ) → AreChangesDone stands text board.trace.changes 0 old spare [] now now_spare all cursor → steps_text text (story plays l board.slots board.trace []) first ≡ all
    steps_text_said_first cursor d =
        ap (λ (steps : List Step). steps_text text steps first) (append-nil (changes_at board.trace.changes 0) ∙ d.are) ∙ sym (d.made.said_is first (metered-first stands text old spare))

  -- ---- a segment more

  module _ (k : ℕ) (v w : SeatKnowledge) (meters spares : List M) (cursor : ℕ) (sound : IsSound board.trace) (within : k < length board.trace.segments) (done : IsDoneBelow board.trace k (order_of v.seen))
      (on : AreOn k v meters spares cursor) (ran : Ran board.trace k v w) where
    abbrev grown : List Step
    grown = grown_steps plays l board v w

    abbrev changes : List ℕ
    changes = board.trace.changes

    abbrev here : Metering M
    here = after_steps (story_of v) first

    known : All (IsEvent board.trace) (new_events v w)
    known = grown_known board.trace k v w ran

    is_grown : story_of w ≡ story_of v ++ with_changes changes (length (order_of v.seen)) grown
    is_grown = story_grown plays l board v w ran.begins done.lawful.known

    -- memory ran out in it
    pub beyond_segment : (mid : List M) → GrowthIsTold (AreToldFront stands text meters mid) board v w
        → AreMeteredBeyond (records_of (with_changes changes (length (order_of v.seen)) grown)) stands text here mid spares
    beyond_segment mid front =
        subst (λ (rs : List CallRecord). AreMeteredBeyond rs stands text here mid spares) (sym (records-with changes (length (order_of v.seen)) grown ∙ grown_records plays l board v w known))
        (both_beyond stands text here meters mid spares (grown_calls board v w) on.left front)

    same_story : story_of v ≡ story_of v ++ []
    same_story = sym (append-nil (story_of v))

    pub interrupted_segment : (handed : Dimensions → World → Type 0) (no_engine : Type 0) (mid : List M) → GrowthIsTold (AreToldFront stands text meters mid) board v w
        → (before now : Option (List ℕ)) (errors after : ℕ) (pending said : List ℕ) → IsUnderway plays l board (λ steps. steps_text text steps first) k v before now pending said → said ≡ [] → no_engine
        → IsRunInterrupted (party plays handed no_engine (meter_story stands text old spare mid spares) (order_of w.seen) before now errors after) l board.slots board.trace
    interrupted_segment handed no_engine mid front before now errors after pending said so_far silent engine =
        begun_segment plays l board handed no_engine (meter_story stands text old spare mid spares) k v before now errors after pending said so_far w [] (with_changes changes (length (order_of v.seen)) grown) [] silent ran
        (is_grown ∙ ap (λ (steps : List Step). steps ++ with_changes changes (length (order_of v.seen)) grown) same_story)
        (ap (λ (steps : List Step). steps_text text steps first) (sym same_story) ∙ sym (append-nil (steps_text text (story_of v) first)))
        (ap records_of (sym same_story) ∙ (story_records plays l board.slots board.trace (order_of v.seen) done.lawful.known ∙ sym (append-nil (calls_told board.slots board.trace (order_of v.seen)))))
        (subst (λ (steps : List Step). AreMeteredBeyond (records_of (with_changes changes (length (order_of v.seen)) grown)) stands text (after_steps steps first) mid spares) same_story (beyond_segment mid front)) engine

    -- all of it was done, and its records were noted
    module _ (whole : RanWhole board.trace k v w) (mid : List M) (told : GrowthIsTold (AreTold stands text meters mid) board v w) where
      abbrev there : ℕ
      there = place_of board.trace.segments (suc k)

      here_is : length (order_of v.seen) ≡ place_of board.trace.segments k
      here_is = count_done board.trace k (order_of v.seen) sound (omega (arith, within)) done

      there_is : length (order_of v.seen) + length grown ≡ there
      there_is =
          let all = count_done board.trace (k + 1) (order_of w.seen) sound (omega (arith, within)) (IsDoneBelow_one_more board.trace k v w done ran whole) in
          let long = ap (λ (xs : List ℕ). length xs) (order_grown v w ran.begins) ∙ length-append (order_of v.seen) (new_events v w) in
          ap (λ (n : ℕ). length (order_of v.seen) + n) (grown_length plays l board v w known) ∙ (sym long ∙ (all ∙ ap (λ (n : ℕ). place_of board.trace.segments n) (add-one k)))

      none : NoneBetween (length (order_of v.seen)) (length (order_of v.seen) + length grown) changes
      none =
          subst (λ (n : ℕ). NoneBetween n (length (order_of v.seen) + length grown) changes) (sym here_is)
          (subst (λ (m : ℕ). NoneBetween (place_of board.trace.segments k) m changes) (sym there_is)
          (none_between board.trace.segments changes (length board.trace.events) k sound.segments sound.changes within cursor on.past))

      place_of_rises : place_of board.trace.segments k < there
      place_of_rises = next_above board.trace.segments changes (length board.trace.events) k sound.segments sound.changes within

      whole_story : story_of w ≡ story_of v ++ (grown ++ changes_at changes there)
      whole_story =
          let some : 1 ≤ length grown = omega (arith, here_is, there_is, place_of_rises) in
          is_grown ∙ ap (λ (steps : List Step). story_of v ++ steps) (with-segment changes (length (order_of v.seen)) grown some none ∙ ap (λ (n : ℕ). grown ++ changes_at changes n) there_is)

      abbrev then : Metering M
      then = after_steps grown here

      on_then : AreMetered stands text then mid spares
      on_then =
          metered-events stands text grown (grown_are_events plays l board v w) here meters mid spares on.left
          (subst (λ (rs : List CallRecord). AreTold stands text meters mid rs) (sym (grown_records plays l board v w known)) told)

      -- memory ran out before the changes behind it
      pub interrupted_changes : (handed : Dimensions → World → Type 0) (no_engine : Type 0) → (before now : Option (List ℕ)) (errors after : ℕ) (pending said : List ℕ)
          → IsUnderway plays l board (λ steps. steps_text text steps first) k v before now pending said → said ≡ [] → no_engine
          → IsRunInterrupted (party plays handed no_engine (meter_story stands text old spare mid spares) (order_of w.seen) before now errors after) l board.slots board.trace
      interrupted_changes handed no_engine before now errors after pending said so_far silent engine =
          begun_segment plays l board handed no_engine (meter_story stands text old spare mid spares) k v before now errors after pending said so_far w grown (changes_at changes there) (grown_calls board v w) silent ran
          (whole_story ∙ sym (append_assoc (story_of v) grown (changes_at changes there)))
          (text-append text (story_of v) grown first ∙ ap (λ (t : List ℕ). steps_text text (story_of v) first ++ t) (law_of_lines text grown here (grown_are_events plays l board v w)))
          (records-append (story_of v) grown ∙ (λ i. story_records plays l board.slots board.trace (order_of v.seen) done.lawful.known i ++ grown_records plays l board v w known i))
          (rw (after-append (story_of v) grown first, records-at changes there) (beyond_none stands text then mid spares on_then)) engine

      -- they were made
      module _ (now now_spare : List M) (all : List ℕ) (cursor_now : ℕ) (d : AreChangesDone stands text changes there mid spares [] now now_spare all cursor_now) where
        pub AreOn_more : AreOn (k + 1) w now now_spare cursor_now
        AreOn_more =
            let at : after_steps (story_of w) first ≡ after_steps (replicate d.count Meters_changed) then =
            ap (λ (steps : List Step). after_steps steps first) whole_story
            ∙ (after-append (story_of v) (grown ++ changes_at changes there) first ∙ (after-append grown (changes_at changes there) here ∙ ap (λ (steps : List Step). after_steps steps then) d.are)) in
            record {
              left = subst (λ (s : Metering M). AreMetered stands text s now now_spare) (sym at) (d.made.left then on_then);
              past = subst (λ (n : ℕ). IsPast changes cursor_now (place_of board.trace.segments n)) (sym (add-one k)) d.past;
            }

        pub text_more : steps_text text (story_of w) first ≡ steps_text text (story_of v) first ++ (listed l (grown_lines plays board v w) ++ all)
        text_more =
            ap (λ (steps : List Step). steps_text text steps first) whole_story
            ∙ (text-append text (story_of v) (grown ++ changes_at changes there) first
            ∙ ap (λ (t : List ℕ). steps_text text (story_of v) first ++ t)
            (text-append text grown (changes_at changes there) here
            ∙ (λ i. (law_of_lines text grown here (grown_are_events plays l board v w) ∙ lines_of-grown_steps_text plays l board v w) i
            ++ (ap (λ (steps : List Step). steps_text text steps then) d.are ∙ sym (d.made.said_is then on_then)) i)))

        pub underway_changed : (before then_written : Option (List ℕ)) (pending said after : List ℕ) → IsUnderway plays l board (λ steps. steps_text text steps first) k v before then_written pending said → said ≡ []
            → IsChief (turns_of board) w → GrewFew board v w → after ≡ pending ++ (listed l (grown_lines plays board v w) ++ all)
            → IsUnderway plays l board (λ steps. steps_text text steps first) (k + 1) w before then_written after all
        underway_changed before then_written pending said after so_far silent chief few is =
            underway_more plays l board (λ steps. steps_text text steps first) k v before then_written pending said so_far w (grown ++ changes_at changes there) after (listed l (grown_lines plays board v w) ++ all) all silent chief ran whole
            whole_story text_more is
            (λ none. (λ i. sym (lines_of-grown_steps_text plays l board v w) i ++ (none ∙ sym (lines-at changes there)) i) ∙ sym (lines-append grown (changes_at changes there))) few

-- what is pending with the lines of a segment, and with what meters said behind it
pub joined : (before grown all said after : List ℕ) → said ≡ [] → after ≡ before ++ grown → after ++ all ≡ (before ++ said) ++ (grown ++ all)
joined before grown all said after silent is =
    ap (λ (t : List ℕ). t ++ all) is
    ∙ (append_assoc before grown all ∙ ap (λ (t : List ℕ). t ++ (grown ++ all)) (sym (append-nil before) ∙ ap (λ (t : List ℕ). before ++ t) (sym silent)))

-- ---- by the trace that code knows, which is the board's, its changes and its ends of segments

module _ {M : Type 0} {stands : M → List CallRecord → Type 0} {text : M → List CallRecord → List ℕ} {old spare : List M} {plays : Plays} {l : Listing} {board : Board} where
  -- writing what is pending failed
  pub unwritten_here : {k : ℕ} {v : SeatKnowledge} {meters spares : List M} {cursor : ℕ} {before now : Option (List ℕ)} {pending said : List ℕ}
      → IsUnderway plays l board (λ steps. steps_text text steps (handed_in old spare)) k v before now pending said → AreOn stands text old spare plays l board k v meters spares cursor
      → {handed : Dimensions → World → Type 0} {no_engine : Type 0} {new : Option (List ℕ)} {errors after : ℕ} → AppendsFront now new pending → no_engine
      → IsRunUnwritten (party plays handed no_engine (meter_story stands text old spare meters spares) (order_of v.seen) before new errors after) l board.slots board.trace
  unwritten_here {k} {v} {meters} {spares} {cursor} {before} {now} {pending} {said} so_far on {handed} {no_engine} {new} {errors} {after} front engine =
      begun_flush plays l board handed no_engine (meter_story stands text old spare meters spares) k v before now errors after pending said so_far new front on.left engine

module _ {M : Type 0} (stands : M → List CallRecord → Type 0) (text : M → List CallRecord → List ℕ) (old spare : List M) (plays : Plays) (l : Listing) (board : Board) where
  -- memory ran out in the changes before the first segment
  pub interrupted_first : {v : SeatKnowledge} → v ≡ first_seat (turns_of board) → {now now_spare : List M} → (now ≡ old) × (now_spare ≡ spare)
      → {handed : Dimensions → World → Type 0} {no_engine : Type 0} {known : Option (List ℕ)} {errors after : ℕ} → no_engine
      → IsRunInterrupted (party plays handed no_engine (meter_story stands text old spare now now_spare) (order_of v.seen) known known errors after) l board.slots board.trace
  interrupted_first {v} fresh {now} {now_spare} kept {handed} {no_engine} {known} {errors} {after} engine =
      IsRunInterrupted_none plays l board.slots handed no_engine (meter_story stands text old spare now now_spare) board.trace (order_of v.seen) known errors after (ap (λ (s : SeatKnowledge). order_of s.seen) fresh) refl
      (rw (kept.0, kept.1) (none_beyond stands text old spare)) engine

  module _ (trace : Trace) (changes : List ℕ) (same : trace ≡ board.trace) (changes_are : changes ≡ trace.changes) where
    same_changes : changes ≡ board.trace.changes
    same_changes = changes_are ∙ ap (λ (t : Trace). t.changes) same

    -- before the first segment, where no line is kept
    module _ (v : SeatKnowledge) (fresh : v ≡ first_seat (turns_of board)) (said : List ℕ) (silent : said ≡ []) (now now_spare : List M) (all : List ℕ) (cursor : ℕ)
        (d : AreChangesDone stands text changes 0 old spare said now now_spare all cursor) where
      changed : AreChangesDone stands text board.trace.changes 0 old spare [] now now_spare all cursor
      changed = done_moved changes board.trace.changes 0 0 said same_changes refl silent d

      pub AreOn_first : AreOn stands text old spare plays l board 0 v now now_spare cursor
      AreOn_first = changed_first stands text old spare plays l board v fresh now now_spare all cursor changed

      pub first_underway : {known : Option (List ℕ)} {lines : List Line} → lines ≡ [] → IsUnderway plays l board (λ steps. steps_text text steps (handed_in old spare)) 0 v known known (text_of lines ++ all) all
      first_underway {known} {lines} none =
          let only : text_of lines ++ all ≡ all = ap (λ (ls : List Line). text_of ls ++ all) none in
          underway_first plays l board (λ steps. steps_text text steps (handed_in old spare)) v known (text_of lines ++ all) all fresh
          (steps_text_said_first stands text old spare plays l board v fresh now now_spare all cursor changed ∙ sym only) refl (λ quiet. only ∙ quiet)

    -- a segment more
    module _ (ends : List ℕ) (ends_are : ends ≡ trace.segments) (sound : IsSound trace) (k : ℕ) (v : SeatKnowledge) (meters spares : List M) (cursor : ℕ) (before then : Option (List ℕ)) (pending said : List ℕ) (inside : k < length ends)
        (so_far : IsUnderway plays l board (λ steps. steps_text text steps (handed_in old spare)) k v before then pending said) (on : AreOn stands text old spare plays l board k v meters spares cursor) (silent : said ≡ []) where
      same_ends : ends ≡ board.trace.segments
      same_ends = ends_are ∙ ap (λ (t : Trace). t.segments) same

      same_place : get_or ends k 0 ≡ place_of board.trace.segments (suc k)
      same_place = ap (λ (xs : List ℕ). get_or xs k 0) same_ends

      sound_there : IsSound board.trace
      sound_there = subst IsSound same sound

      within : k < length board.trace.segments
      within = let long = ap (λ (xs : List ℕ). length xs) same_ends in omega (arith, long, inside)

      pub next_at : IsAt changes cursor (get_or ends k 0)
      next_at =
          subst (λ (cs : List ℕ). IsAt cs cursor (get_or ends k 0)) (sym same_changes)
          (subst (λ (n : ℕ). IsAt board.trace.changes cursor n) (sym same_place)
          (at_next board.trace.segments board.trace.changes (length board.trace.events) k sound_there.segments sound_there.changes within cursor on.past))

      module _ (w : SeatKnowledge) (ran : Ran trace k v w) where
        ran_there : Ran board.trace k v w
        ran_there = subst (λ (t : Trace). Ran t k v w) same ran

        -- memory ran out in it
        pub interrupted_here : {mid : List M} → GrowthIsTold (AreToldFront stands text meters mid) board v w
            → {handed : Dimensions → World → Type 0} {no_engine : Type 0} {errors after : ℕ} → no_engine
            → IsRunInterrupted (party plays handed no_engine (meter_story stands text old spare mid spares) (order_of w.seen) before then errors after) l board.slots board.trace
        interrupted_here {mid} front {handed} {no_engine} {errors} {after} engine =
            interrupted_segment stands text old spare plays l board k v w meters spares cursor sound_there within so_far.done on ran_there handed no_engine mid front before then errors after pending said so_far silent engine

        -- it was done, and its calls were noted
        module _ (whole : RanWhole trace k v w) (mid : List M) (told : GrowthIsTold (AreTold stands text meters mid) board v w) where
          whole_there : RanWhole board.trace k v w
          whole_there = subst (λ (t : Trace). RanWhole t k v w) same whole

          -- memory ran out in the changes behind it
          pub interrupted_behind : {now now_spare : List M} → (now ≡ mid) × (now_spare ≡ spares)
              → {handed : Dimensions → World → Type 0} {no_engine : Type 0} {errors after : ℕ} → no_engine
              → IsRunInterrupted (party plays handed no_engine (meter_story stands text old spare now now_spare) (order_of w.seen) before then errors after) l board.slots board.trace
          interrupted_behind {now} {now_spare} kept {handed} {no_engine} {errors} {after} engine =
              rw (kept.0, kept.1)
              (interrupted_changes stands text old spare plays l board k v w meters spares cursor sound_there within so_far.done on ran_there whole_there mid told handed no_engine before then errors after pending said so_far silent engine)

          module _ (now now_spare : List M) (all : List ℕ) (cursor_now : ℕ) (d : AreChangesDone stands text changes (get_or ends k 0) mid spares said now now_spare all cursor_now) where
            changed_then : AreChangesDone stands text board.trace.changes (place_of board.trace.segments (suc k)) mid spares [] now now_spare all cursor_now
            changed_then = done_moved changes board.trace.changes (get_or ends k 0) (place_of board.trace.segments (suc k)) said same_changes same_place silent d

            pub AreOn_then : AreOn stands text old spare plays l board (k + 1) w now now_spare cursor_now
            AreOn_then = AreOn_more stands text old spare plays l board k v w meters spares cursor sound_there within so_far.done on ran_there whole_there mid told now now_spare all cursor_now changed_then

            pub then_underway : {lines after : List Line} → pending ≡ text_of lines ++ said → IsChief (turns_of board) w → IsAdded plays l board v w lines after
                → IsUnderway plays l board (λ steps. steps_text text steps (handed_in old spare)) (k + 1) w before then (text_of after ++ all) all
            then_underway {lines} {after} are chief added =
                underway_changed stands text old spare plays l board k v w meters spares cursor sound_there within so_far.done on ran_there whole_there mid told now now_spare all cursor_now changed_then before then pending said (text_of after ++ all) so_far
                silent chief added.few (joined (text_of lines) (listed l (grown_lines plays board v w)) all said (text_of after) silent added.lines ∙ ap (λ (t : List ℕ). t ++ (listed l (grown_lines plays board v w) ++ all)) (sym are))
