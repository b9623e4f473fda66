-- How many lines, events and octets a generated trace has.
use Rattle.std.proofs.Common.{◌≡◌, ℕ, zero, suc, ◌+◌, ◌*◌, ◌≤◌, List, [], ◌∷◌, ◌++◌, length, length-append, Option, Some, None, refl, arith}
use Rattle.std.specs.Prelude.{codes}
use Rattle.std.specs.List.{AllByRecursion, flat_map}
use Rattle.traffic_gen.specs.Calls.{call_drawn, call_lines, calls_drawn, clearing_of, far_line, frame_drawn, frames_drawn, message_from, message_of, number_of, segment, state_after_call, state_after_frame}
use Rattle.traffic_gen.specs.Draws.{state_after}
use Rattle.traffic_gen.specs.Fitting.{Fits, event_count}
use Rattle.traffic_gen.specs.Lines.{Line, Sync, line_text, text}
use Rattle.traffic_gen.specs.Messages.{connect, disconnect, release, release_complete, setup}
use Rattle.traffic_gen.specs.Traffic.{header, nails, nails_at, traffic, traffic_lines}
use Rattle.traffic_gen.specs.declared.call.Call.{Call}
use Rattle.traffic_gen.specs.declared.callee.Callee.{Callee}
use Rattle.traffic_gen.specs.declared.callee.Callee.TheVariants as callee
use Rattle.traffic_gen.proofs.Fit.{drawn_fits, lines_fit}
use Rattle.traffic_gen.proofs.Spelling.{line_length}

event_count-append : (xs ys : List Line) → event_count (xs ++ ys) ≡ event_count xs + event_count ys
event_count-append [] ys = omega arith
event_count-append (x ∷ xs) ys = let rest = event_count-append xs ys in omega (arith, rest)

-- a list has n lines at most, and m events
record Counts (lines : List Line) (most events : ℕ) : Type 0 where
  few : length lines ≤ most
  fewer : event_count lines ≤ events

counts-append : (xs ys : List Line) (m n e f : ℕ) → Counts xs m e → Counts ys n f → Counts (xs ++ ys) (m + n) (e + f)
counts-append xs ys m n e f left right = record {
  few = omega (arith, length-append xs ys, left.few, right.few);
  fewer = omega (arith, event_count-append xs ys, left.fewer, right.fewer);
}

message_counts : (line : ℕ) (octets : List ℕ) → Counts (message_of line octets) 2 1
message_counts line octets = record { few = omega arith; fewer = omega arith }

callee_counts : (to : Callee) (octets : List ℕ) → Counts (message_from to octets) 2 1
callee_counts (callee.Line line) octets = message_counts line octets
callee_counts callee.Room octets = record { few = omega arith; fewer = omega arith }

frame_is_event : (caller : ℕ) (far : Option ℕ) (state : ℕ) → event_count (frame_drawn caller far state ∷ []) ≡ 1
frame_is_event caller None state = refl
frame_is_event caller (Some far) state = refl

frames_count : (caller : ℕ) (far : Option ℕ) (count state : ℕ) → Counts (frames_drawn caller far count state) count count
frames_count caller far zero state = record { few = omega arith; fewer = omega arith }
frames_count caller far (suc count) state =
    let rest = frames_count caller far count (state_after_frame far state) in
    let first = frame_is_event caller far state in
    record { few = omega (arith, rest.few); fewer = omega (arith, rest.fewer, first) }

call_counts : (call : Call) (state : ℕ) → call.frames ≤ 3 → Counts (call_lines call state) 14 8
call_counts call state short =
    let begins = message_of call.caller (setup (number_of call.callee)) in
    let connects = message_from call.callee connect in
    let frames = frames_drawn call.caller (far_line call.caller call.callee) call.frames state in
    let speaks = frames_count call.caller (far_line call.caller call.callee) call.frames state in
    let spoken : Counts (segment frames) 4 3 = record {
      few = omega (arith, speaks.few, short, length-append frames (Sync ∷ []));
      fewer = omega (arith, speaks.fewer, short, event_count-append frames (Sync ∷ []));
    } in
    let clears = counts-append (message_of call.caller disconnect) (message_of call.caller release_complete) 2 2 1 1 (message_counts _ _) (message_counts _ _) in
    counts-append (begins ++ connects ++ segment frames ++ clearing_of call.caller) (message_from call.callee release) 12 2 7 1
    (counts-append (begins ++ connects ++ segment frames) (clearing_of call.caller) 8 4 5 2
    (counts-append (begins ++ connects) (segment frames) 4 4 2 3 (counts-append begins connects 2 2 1 1 (message_counts _ _) (callee_counts call.callee connect)) spoken)
    clears) (callee_counts call.callee release)

calls_count : (count state : ℕ) → Counts (calls_drawn count state) (14 * count) (8 * count)
calls_count zero state = record { few = omega arith; fewer = omega arith }
calls_count (suc count) state =
    let call = call_drawn state in
    let first = call_counts call (state_after 3 state) (drawn_fits state).2 in
    let rest = calls_count count (state_after_call call (state_after 3 state)) in
    let all = counts-append (call_lines call (state_after 3 state)) _ 14 (14 * count) 8 (8 * count) first rest in
    record { few = omega (arith, all.few); fewer = omega (arith, all.fewer) }

header_counts : Counts header 10 0
unfolding header
header_counts = record { few = omega arith; fewer = omega arith }

nails_count : Counts nails 80 80
unfolding nails nails_at
nails_count = record { few = omega arith; fewer = omega arith }

traffic_counts : (seed calls : ℕ) → Counts (traffic_lines seed calls) (91 + 14 * calls) (80 + 8 * calls)
unfolding traffic_lines
traffic_counts seed calls =
    let nailed = counts-append nails (Sync ∷ []) 80 1 80 0 nails_count (record { few = omega arith; fewer = omega arith }) in
    let before = counts-append header (segment nails) 10 81 0 80 header_counts nailed in
    counts-append (header ++ segment nails) (calls_drawn calls seed) 91 (14 * calls) 80 (8 * calls) before (calls_count calls seed)

pub length-traffic_lines-le : (seed calls : ℕ) → length (traffic_lines seed calls) ≤ 91 + 14 * calls
length-traffic_lines-le seed calls = (traffic_counts seed calls).few

pub events_are_few : (seed calls : ℕ) → event_count (traffic_lines seed calls) ≤ 80 + 8 * calls
events_are_few seed calls = (traffic_counts seed calls).fewer

text_length : (lines : List Line) → AllByRecursion Fits lines → length (text lines) ≤ 128 * length lines
unfolding text
text_length [] fit = omega arith
text_length (line ∷ lines) fit =
    let first = line_length line fit.0 in
    let rest = text_length lines fit.1 in
    omega (arith, length-append (line_text line ++ codes "\n") (flat_map (λ line. line_text line ++ codes "\n") lines), length-append (line_text line) (codes "\n"))

pub traffic_length : (seed calls : ℕ) → length (traffic seed calls) ≤ 128 * (91 + 14 * calls)
unfolding traffic
traffic_length seed calls =
    omega (arith, text_length (traffic_lines seed calls) (lines_fit seed calls), length-traffic_lines-le seed calls)
