-- The octets of a generated trace are a trace, and which one.
use Rattle.std.proofs.Common.{◌≡◌, ℕ, zero, suc, ◌+◌, ◌*◌, ◌<◌, ◌≤◌, true, List, [], ◌∷◌, ◌++◌, length, map, take, drop, Ok, Option, Some, None, refl, sym, ap, subst, ◌∙◌, append_assoc, length-append, arith}
use Rattle.std.specs.Prelude.{codes, if◌then◌else◌}
use Rattle.std.specs.List.{AllByRecursion, list_all}
use Rattle.std.proofs.lemmas.Bool.{and_parts}
use Rattle.std.proofs.lemmas.Bool.Decides.{nat_tests}
use Rattle.std.proofs.lemmas.List.{append-nil}
use Rattle.std.proofs.lemmas.List.Elements.{filter_map-append}
use Rattle.std.proofs.lemmas.List.Folds.{list_all-append}
use Rattle.std.proofs.lemmas.Fmt.{decimal_digit}
use Rattle.exchange_events.specs.declared.trace.Trace.{Trace}
use Rattle.traffic_gen.specs.Calls.{call_drawn, call_lines, calls_drawn, clearing_of, far_line, frame_drawn, frames_drawn, message_from, message_of, number_of, segment, state_after_call, state_after_frame}
use Rattle.traffic_gen.specs.Draws.{state_after}
use Rattle.traffic_gen.specs.Fitting.{Fits, event_count, is_digit, is_event}
use Rattle.traffic_gen.specs.Lines.{Line, Header, ToLine, ToRoom, Nail, Message, Frame, Sync, line_text}
use Rattle.traffic_gen.specs.Messages.{connect, release, setup}
use Rattle.traffic_gen.specs.Traffic.{header, nails, nails_at, traffic, traffic_lines}
use Rattle.traffic_gen.specs.declared.call.Call.{Call}
use Rattle.traffic_gen.specs.declared.callee.Callee.{Callee}
use Rattle.traffic_gen.specs.declared.callee.Callee.TheVariants as callee
use Rattle.traffic_gen.proofs.Counts.{events_are_few, traffic_length}
use Rattle.traffic_gen.proofs.Fit.{lines_fit}
use Rattle.trace_text.specs.declared.said.Said.{Said}
use Rattle.trace_text.specs.TraceLines.{says, trace_limits}
use Rattle.trace_text.specs.TraceTimers.{timers_by}
use Rattle.trace_text.specs.TraceGrammar.{EachSays, IsWhatLinesSay, IsTrace, event_said, events_in, numbers_in, plan_of, tones_in, tones_of, timers_in, timers_of, segment_ends, changes_after, changes_in, sizes_in, so_far}
use Rattle.trace_text.proofs.TraceHolds.{sizes_first}
use Rattle.trace_text.proofs.TraceReadings.{one_trace}
use Rattle.generated_trace.specs.Told.{said_by}
use Rattle.generated_trace.specs.Generated.{HasExchangeSizes, IsTrafficOf, traffic_told}
use Rattle.generated_trace.proofs.Cutting.{text_lines}
use Rattle.generated_trace.proofs.Saying.{HasRoom, eight, header_says, is_running, running_says, to_line_says, to_room_says}

-- ---- lines one after the other

-- behind some lines, each of these says what it is to say
abbrev Say : List Said → List Line → Type 0
Say before ls = EachSays before (map line_text ls) (map said_by ls)

say_then : (before : List Said) (xs ys : List Line) → Say before xs → Say (before ++ map said_by xs) ys → Say before (xs ++ ys)
say_then before [] ys first rest = subst (λ front. Say front ys) (append-nil before) rest
say_then before (x ∷ xs) ys first rest =
    (first.0, say_then (before ++ said_by x ∷ []) xs ys first.1 (subst (λ front. Say front ys) (sym (append_assoc before (said_by x ∷ []) (map said_by xs))) rest))

each_behind : {X : Type 0} (P : X → Type 0) (xs ys : List X) → AllByRecursion P (xs ++ ys) → AllByRecursion P ys
each_behind P [] ys each = each
each_behind P (x ∷ xs) ys each = each_behind P xs ys each.1

events_behind : (xs ys : List Line) → event_count ys ≤ event_count (xs ++ ys)
events_behind [] ys = omega arith
events_behind (x ∷ xs) ys = let rest = events_behind xs ys in omega (arith, rest)

-- ---- events and ends of segments

event_counts : (line : Line) → length (events_in (said_by line ∷ [])) ≡ (if is_event line then 1 else 0)
event_counts (Header external bridges processors) = refl
event_counts (ToLine number line) = refl
event_counts (ToRoom number room) = refl
event_counts (Nail one other place) = refl
event_counts (Message line octets) = refl
event_counts (Frame parts) = refl
event_counts Sync = refl

one_more : (before : List Said) (line : Line) → length (events_in (before ++ said_by line ∷ [])) ≡ length (events_in before) + (if is_event line then 1 else 0)
one_more before line =
    ap length (filter_map-append event_said before (said_by line ∷ [])) ∙ length-append (events_in before) (events_in (said_by line ∷ []))
    ∙ ap (λ (n : ℕ). length (events_in before) + n) (event_counts line)

-- the lines behind the numbers
running_say : (before : List Said) (ls : List Line) → AllByRecursion Fits ls → list_all is_running ls ≡ true → sizes_in before ≡ Some eight
    → length (events_in before) + event_count ls ≤ 65535 → Say before ls
running_say before [] fit run known few = tt
running_say before (line ∷ ls) fit run known few =
    let parts = and_parts (is_running line) (list_all is_running ls) run in
    let more = one_more before line in (
      running_says (so_far before) line fit.0 parts.0 known (omega arith),
      running_say (before ++ said_by line ∷ []) ls fit.1 parts.1 (sizes_first before (said_by line ∷ []) eight known) (omega arith),
    )

-- ---- the nails and the calls have no other lines

abbrev Run : List Line → Type 0
Run ls = list_all is_running ls ≡ true

run_both : (xs ys : List Line) → Run xs → Run ys → Run (xs ++ ys)
run_both xs ys left right = list_all-append is_running xs ys ∙ rw (left, right) refl

callee_runs : (to : Callee) (octets : List ℕ) → Run (message_from to octets)
callee_runs (callee.Line line) octets = refl
callee_runs callee.Room octets = refl

frame_runs : (caller : ℕ) (far : Option ℕ) (state : ℕ) → is_running (frame_drawn caller far state) ≡ true
frame_runs caller None state = refl
frame_runs caller (Some far) state = refl

frames_run : (caller : ℕ) (far : Option ℕ) (count state : ℕ) → Run (frames_drawn caller far count state)
frames_run caller far zero state = refl
frames_run caller far (suc count) state =
    let first = frame_runs caller far state in
    let rest = frames_run caller far count (state_after_frame far state) in
    rw (first, rest) refl

call_runs : (call : Call) (state : ℕ) → Run (call_lines call state)
call_runs call state =
    let begins = message_of call.caller (setup (number_of call.callee)) in
    let connects = message_from call.callee connect in
    let frames = frames_drawn call.caller (far_line call.caller call.callee) call.frames state in
    run_both (begins ++ connects ++ segment frames ++ clearing_of call.caller) (message_from call.callee release)
    (run_both (begins ++ connects ++ segment frames) (clearing_of call.caller)
    (run_both (begins ++ connects) (segment frames) (run_both begins connects refl (callee_runs call.callee connect))
    (run_both frames (Sync ∷ []) (frames_run call.caller (far_line call.caller call.callee) call.frames state) refl)) refl)
    (callee_runs call.callee release)

calls_run : (count state : ℕ) → Run (calls_drawn count state)
calls_run zero state = refl
calls_run (suc count) state =
    run_both (call_lines (call_drawn state) (state_after 3 state)) (calls_drawn count (state_after_call (call_drawn state) (state_after 3 state)))
    (call_runs (call_drawn state) (state_after 3 state)) (calls_run count (state_after_call (call_drawn state) (state_after 3 state)))

nails_run : Run nails
unfolding nails nails_at
nails_run = refl

-- ---- the header and the numbers

-- the digits of a number behind a 2
abbrev two_and : ℕ → List ℕ
two_and digit = 50 ∷ (48 + digit) ∷ []

abbrev number_lines : List Line
number_lines =
    ToLine (two_and 0) 0 ∷ ToLine (two_and 1) 1 ∷ ToLine (two_and 2) 2 ∷ ToLine (two_and 3) 3
    ∷ ToLine (two_and 4) 4 ∷ ToLine (two_and 5) 5 ∷ ToLine (two_and 6) 6 ∷ ToLine (two_and 7) 7
    ∷ ToRoom (codes "30") 0 ∷ []

header_is : header ≡ Header 8 1 4 ∷ number_lines
unfolding header
header_is =
    let a : 0 < 10 = omega arith in
    let b : 1 < 10 = omega arith in
    let c : 2 < 10 = omega arith in
    let d : 3 < 10 = omega arith in
    let e : 4 < 10 = omega arith in
    let f : 5 < 10 = omega arith in
    let g : 6 < 10 = omega arith in
    let h : 7 < 10 = omega arith in
    rw (decimal_digit 0, decimal_digit 1, decimal_digit 2, decimal_digit 3, decimal_digit 4, decimal_digit 5, decimal_digit 6, decimal_digit 7) refl

abbrev first_lines : List Line
first_lines = Header 8 1 4 ∷ number_lines

-- what the first lines say, n of them
abbrev told_by : ℕ → List Said
told_by count = map said_by (take count first_lines)

line_fits : (line : ℕ) → line < 8 → Fits (ToLine (two_and line) line)
line_fits line within =
    let digit : is_digit (48 + line) ≡ true = grind (arith, nat_tests) in
    (record { each = rw digit refl; some = omega arith; most = omega arith }, within)

-- a number behind the lines before it
line_at : (count line : ℕ) → line < 8 → HasRoom (so_far (told_by count)) (two_and line)
    → says trace_limits (so_far (told_by count)) (line_text (ToLine (two_and line) line)) ≡ Ok (said_by (ToLine (two_and line) line))
line_at count line within has = to_line_says (so_far (told_by count)) (two_and line) line (line_fits line within) has

room_fits : Fits (ToRoom (codes "30") 0)
room_fits = (record { each = refl; some = omega arith; most = omega arith }, refl)

first_say : Say [] first_lines
first_say =
    let last : Say (told_by 9) (drop 9 first_lines) = (to_room_says (so_far (told_by 9)) (codes "30") room_fits (record { known = refl; early = refl; is = refl; free = refl; few = refl }), tt) in
    let from_seven : Say (told_by 8) (drop 8 first_lines) = (line_at 8 7 (omega arith) (record { known = refl; early = refl; is = refl; free = refl; few = refl }), last) in
    let from_six : Say (told_by 7) (drop 7 first_lines) = (line_at 7 6 (omega arith) (record { known = refl; early = refl; is = refl; free = refl; few = refl }), from_seven) in
    let from_five : Say (told_by 6) (drop 6 first_lines) = (line_at 6 5 (omega arith) (record { known = refl; early = refl; is = refl; free = refl; few = refl }), from_six) in
    let from_four : Say (told_by 5) (drop 5 first_lines) = (line_at 5 4 (omega arith) (record { known = refl; early = refl; is = refl; free = refl; few = refl }), from_five) in
    let from_three : Say (told_by 4) (drop 4 first_lines) = (line_at 4 3 (omega arith) (record { known = refl; early = refl; is = refl; free = refl; few = refl }), from_four) in
    let from_two : Say (told_by 3) (drop 3 first_lines) = (line_at 3 2 (omega arith) (record { known = refl; early = refl; is = refl; free = refl; few = refl }), from_three) in
    let from_one : Say (told_by 2) (drop 2 first_lines) = (line_at 2 1 (omega arith) (record { known = refl; early = refl; is = refl; free = refl; few = refl }), from_two) in
    let from_none : Say (told_by 1) (drop 1 first_lines) = (line_at 1 0 (omega arith) (record { known = refl; early = refl; is = refl; free = refl; few = refl }), from_one) in
    (header_says (so_far []) refl, from_none)

header_say : Say [] header
header_say = subst (λ ls. Say [] ls) (sym header_is) first_say

-- ---- the whole

traffic_say : (seed calls : ℕ) → calls ≤ 2000 → Say [] (traffic_lines seed calls)
unfolding traffic_lines
traffic_say seed calls few =
    let rest = segment nails ++ calls_drawn calls seed in
    let apart = append_assoc header (segment nails) (calls_drawn calls seed) in
    let fit = each_behind Fits header rest (subst (λ ls. AllByRecursion Fits ls) apart (lines_fit seed calls)) in
    let runs = run_both (segment nails) (calls_drawn calls seed) (run_both nails (Sync ∷ []) nails_run refl) (calls_run calls seed) in
    let known : sizes_in (map said_by header) ≡ Some eight = ap (λ ls. sizes_in (map said_by ls)) header_is in
    let none : events_in (map said_by header) ≡ [] = ap (λ ls. events_in (map said_by ls)) header_is in
    let counted : event_count (header ++ rest) ≤ 80 + 8 * calls = subst (λ ls. event_count ls ≤ 80 + 8 * calls) apart (events_are_few seed calls) in
    let behind = events_behind header rest in
    let room : length (events_in (map said_by header)) + event_count rest ≤ 65535 = rw none (omega (arith, counted, behind, few)) in
    subst (λ ls. Say [] ls) (sym apart) (say_then [] header rest header_say (running_say (map said_by header) rest fit runs known room))

-- the trace of an exchange of these sizes whose lines say this
trace_of : List Said → Trace
trace_of told = record {
  external = eight.external;
  bridges = eight.bridges;
  processors = eight.processors;
  plan = plan_of (numbers_in told);
  tones = tones_of (tones_in told);
  timers = timers_by (timers_of (timers_in told));
  events = events_in told;
  segments = segment_ends told;
  changes = changes_in told;
}

sizes_told : (seed calls : ℕ) → sizes_in (traffic_told seed calls) ≡ Some eight
unfolding traffic_lines header
sizes_told seed calls = refl

is_told : (seed calls : ℕ) → IsWhatLinesSay (trace_of (traffic_told seed calls)) (traffic_told seed calls)
unfolding trace_of
is_told seed calls = record { sizes = sizes_told seed calls; plan = refl; tones = refl; timers = refl; events = refl; segments = refl; changes = refl }

is_traffic : (seed calls : ℕ) → calls ≤ 2000 → IsTrafficOf seed calls (trace_of (traffic_told seed calls))
unfolding traffic
is_traffic seed calls few = record {
  few = let length_is = traffic_length seed calls in omega arith;
  told = traffic_told seed calls;
  meets = subst (λ rows. EachSays [] rows (traffic_told seed calls)) (sym (text_lines (traffic_lines seed calls) (lines_fit seed calls))) (traffic_say seed calls few);
  all = is_told seed calls;
}

pub some_trace : (seed calls : ℕ) → calls ≤ 2000 → (t : Trace) × IsTrafficOf seed calls t
some_trace seed calls few = (trace_of (traffic_told seed calls), is_traffic seed calls few)

pub one_told : (seed calls : ℕ) (t u : Trace) → IsTrafficOf seed calls t → IsTrafficOf seed calls u → t ≡ u
one_told seed calls t u is other = one_trace (traffic seed calls) t u is other

pub IsWhatLinesSay_told : (seed calls : ℕ) (t : Trace) → calls ≤ 2000 → IsTrafficOf seed calls t → IsWhatLinesSay t (traffic_told seed calls)
IsWhatLinesSay_told seed calls t few is =
    subst (λ u. IsWhatLinesSay u (traffic_told seed calls)) (one_told seed calls (trace_of (traffic_told seed calls)) t (is_traffic seed calls few) is) (is_told seed calls)

pub has_sizes : (seed calls : ℕ) (t : Trace) → calls ≤ 2000 → IsTrafficOf seed calls t → HasExchangeSizes t 8 1 4
unfolding trace_of
has_sizes seed calls t few is =
    subst (λ u. HasExchangeSizes u 8 1 4) (one_told seed calls (trace_of (traffic_told seed calls)) t (is_traffic seed calls few) is)
    (record { external_is = refl; bridges_is = refl; processors_is = refl })

all_events : (ls : List Line) → length (events_in (map said_by ls)) ≡ event_count ls
all_events [] = refl
all_events (line ∷ ls) =
    ap length (filter_map-append event_said (said_by line ∷ []) (map said_by ls)) ∙ length-append (events_in (said_by line ∷ [])) (events_in (map said_by ls))
    ∙ (let first = event_counts line in let rest = all_events ls in omega arith)

pub events_counted : (seed calls : ℕ) (t : Trace) → calls ≤ 2000 → IsTrafficOf seed calls t → length t.events ≡ event_count (traffic_lines seed calls)
events_counted seed calls t few is = ap length (IsWhatLinesSay_told seed calls t few is).events ∙ all_events (traffic_lines seed calls)

-- octets that were generated are a trace
pub are_trace : (seed calls : ℕ) (bytes : List ℕ) → calls ≤ 2000 → bytes ≡ traffic seed calls → (t : Trace) × IsTrace bytes t
are_trace seed calls bytes few made = subst (λ octets. (t : Trace) × IsTrace octets t) (sym made) (some_trace seed calls few)

-- no line changes the meters
no_changes : (n : ℕ) (ls : List Line) → changes_after n (map said_by ls) ≡ []
no_changes n [] = refl
no_changes n (Header external bridges processors ∷ ls) = no_changes n ls
no_changes n (ToLine number line ∷ ls) = no_changes n ls
no_changes n (ToRoom number room ∷ ls) = no_changes n ls
no_changes n (Nail one other place ∷ ls) = no_changes (n + 1) ls
no_changes n (Message line octets ∷ ls) = no_changes (n + 1) ls
no_changes n (Frame parts ∷ ls) = no_changes (n + 1) ls
no_changes n (Sync ∷ ls) = no_changes n ls

pub changes_none : (seed calls : ℕ) (t : Trace) → calls ≤ 2000 → IsTrafficOf seed calls t → t.changes ≡ []
changes_none seed calls t few is = (IsWhatLinesSay_told seed calls t few is).changes ∙ no_changes 0 (traffic_lines seed calls)
