-- Each line of a generated trace fits the exchange.
use Rattle.std.proofs.Common.{◌≡◌, ◌≢◌, ℕ, zero, suc, ◌+◌, ◌/◌, ◌^◌, ◌<◌, ◌≤◌, Bool, true, false, cond, eqb, List, [], ◌∷◌, ◌++◌, length, map, Option, Some, None, refl, ap, arith}
use Rattle.std.specs.List.{AllByRecursion, flat_map, list_all, range_with_len}
use Rattle.std.proofs.lemmas.Bool.{lt-ltb}
use Rattle.std.proofs.lemmas.Bool.Decides.{nat_tests}
use Rattle.std.proofs.lemmas.Fmt.{decimal_digit}
use Rattle.std.proofs.lemmas.Nat.{mod_below}
use Rattle.traffic_gen.specs.Calls.{IsCallee, call_drawn, call_lines, callee_drawn, calls_drawn, clearing_of, far_line, frame_drawn, frames_drawn, message_from, message_of, number_of, part_drawn, segment, state_after_frame}
use Rattle.traffic_gen.specs.Draws.{drawn, next_state, octets_drawn, state_after}
use Rattle.traffic_gen.specs.Fitting.{Fits, FitsPart, is_digit, is_octet}
use Rattle.traffic_gen.specs.Lines.{Sync}
use Rattle.traffic_gen.specs.Messages.{connect, disconnect, release, release_complete, setup}
use Rattle.traffic_gen.specs.Traffic.{header, nail_line, nails, nails_at, number_line, room_line, traffic_lines}
use Rattle.traffic_gen.specs.declared.call.Call.{Call}
use Rattle.traffic_gen.specs.declared.callee.Callee.{Callee}
use Rattle.traffic_gen.specs.declared.callee.Callee.TheVariants as callee

pub each-append : {X : Type 0} (P : X → Type 0) (xs ys : List X) → AllByRecursion P xs → AllByRecursion P ys → AllByRecursion P (xs ++ ys)
each-append P [] ys each more = more
each-append P (x ∷ xs) ys each more = (each.0, each-append P xs ys each.1 more)

each_counted : {X : Type 0} (P : X → Type 0) (f : ℕ → X) (from count : ℕ) → ((k : ℕ) → from ≤ k → k < from + count → P (f k)) → AllByRecursion P (map f (range_with_len from count))
each_counted P f from zero each = tt
each_counted P f from (suc count) each =
    (each from (omega arith) (omega arith), each_counted P f (from + 1) count (λ k low high. each k (omega arith) (omega arith)))

each_gathered : {X : Type 0} (P : X → Type 0) (f : ℕ → List X) (from count : ℕ) → ((k : ℕ) → from ≤ k → k < from + count → AllByRecursion P (f k)) → AllByRecursion P (flat_map f (range_with_len from count))
each_gathered P f from zero each = tt
each_gathered P f from (suc count) each =
    each-append P (f from) (flat_map f (range_with_len (from + 1) count)) (each from (omega arith) (omega arith))
    (each_gathered P f (from + 1) count (λ k low high. each k (omega arith) (omega arith)))

-- the number plan
digit_of : (line : ℕ) → line < 8 → is_digit (48 + line) ≡ true
digit_of line within = grind (arith, nat_tests)

number_fits : (line : ℕ) → line < 8 → Fits (number_line line)
number_fits line within =
    let small : line < 10 = omega arith in
    let each = digit_of line within in
    rw (decimal_digit line) (record { each = rw each refl; some = omega arith; most = omega arith }, within)

header_fits : AllByRecursion Fits header
unfolding header
header_fits = (
  (refl, refl, refl),
  each-append Fits (map number_line (range_with_len 0 8)) (room_line ∷ [])
      (each_counted Fits number_line 0 8 (λ k low high. number_fits k (omega arith)))
      ((record { each = refl; some = omega arith; most = omega arith }, refl), tt),
)

-- the nails
nails_fit : AllByRecursion Fits nails
unfolding nails nails_at
nails_fit = each_gathered Fits nails_at 10 20 (λ place low high.
    each_counted Fits (nail_line place) 0 4 (λ line least most. record {
      one_is = omega arith;
      other_is = (omega arith, let rest = mod_below (line + place) 4 (omega arith) in omega arith);
      place_is = (omega arith, omega arith);
    }))

-- the messages
message_fits : (line : ℕ) (octets : List ℕ) → line < 8 → list_all is_octet octets ≡ true → length octets ≤ 15 → AllByRecursion Fits (message_of line octets)
message_fits line octets within each most = (record { line_is = within; each = each; most = most }, (tt, tt))

callee_message_fits : (to : Callee) (octets : List ℕ) → IsCallee to → list_all is_octet octets ≡ true → length octets ≤ 15 → AllByRecursion Fits (message_from to octets)
callee_message_fits (callee.Line line) octets within each most = message_fits line octets within each most
callee_message_fits callee.Room octets within each most = tt

setup_fits : (to : Callee) → IsCallee to → (list_all is_octet (setup (number_of to)) ≡ true) × (length (setup (number_of to)) ≤ 15)
setup_fits (callee.Line line) within =
    let small : line < 10 = omega arith in
    let octet : is_octet (48 + line) ≡ true = lt-ltb (48 + line) 256 (omega arith) in
    rw (decimal_digit line) (rw octet refl, omega arith)
setup_fits callee.Room within = (refl, omega arith)

-- the frames
octets_fit : (count state : ℕ) → (list_all is_octet (octets_drawn count state) ≡ true) × (length (octets_drawn count state) ≡ count)
unfolding octets_drawn drawn
octets_fit zero state = (refl, refl)
octets_fit (suc count) state =
    let rest = octets_fit count (next_state state) in
    let below = mod_below (next_state state / 2 ^ 33) 256 (omega arith) in
    let octet : is_octet (drawn 256 (next_state state)) ≡ true = lt-ltb _ 256 below in
    (rw (octet, rest.0) refl, ap suc rest.1)

part_fits : (line state : ℕ) → line < 8 → FitsPart (part_drawn line state)
part_fits line state within =
    let row = octets_fit 30 state in
    record { line_is = within; each = row.0; thirty = row.1 }

-- the far line is another of the eight
abbrev pub IsFar : ℕ → Option ℕ → Type 0
IsFar caller None = Unit {0}
IsFar caller (Some far) = (far < 8) × (far ≢ caller)

frame_fits : (caller : ℕ) (far : Option ℕ) (state : ℕ) → caller < 8 → IsFar caller far → Fits (frame_drawn caller far state)
frame_fits caller None state within apart = part_fits caller state within
frame_fits caller (Some far) state within apart = (part_fits caller state within, part_fits far (state_after 30 state) apart.0, apart.1)

frames_fit : (caller : ℕ) (far : Option ℕ) (count state : ℕ) → caller < 8 → IsFar caller far → AllByRecursion Fits (frames_drawn caller far count state)
frames_fit caller far zero state within apart = tt
frames_fit caller far (suc count) state within apart =
    (frame_fits caller far state within apart, frames_fit caller far count (state_after_frame far state) within apart)

-- a call
differ : (line caller : ℕ) → eqb line caller ≡ false → line ≢ caller
differ line caller e same = absurd (grind (arith, nat_tests))

far_from : (line caller : ℕ) (same : Bool) → eqb line caller ≡ same → line < 8 → IsFar caller (cond same None (Some line))
far_from line caller true e within = tt
far_from line caller false e within = (within, differ line caller e)

far_fits : (caller : ℕ) (to : Callee) → IsCallee to → IsFar caller (far_line caller to)
far_fits caller (callee.Line line) within = far_from line caller (eqb line caller) refl within
far_fits caller callee.Room within = tt

call_fits : (call : Call) (state : ℕ) → call.caller < 8 → IsCallee call.callee → AllByRecursion Fits (call_lines call state)
call_fits call state caller to =
    let asks = setup_fits call.callee to in
    let begins = message_of call.caller (setup (number_of call.callee)) in
    let connects = message_from call.callee connect in
    let frames = frames_drawn call.caller (far_line call.caller call.callee) call.frames state in
    let begun = each-append Fits begins connects (message_fits call.caller (setup (number_of call.callee)) caller asks.0 asks.1) (callee_message_fits call.callee connect to refl (omega arith)) in
    let speaks = each-append Fits frames (Sync ∷ []) (frames_fit call.caller (far_line call.caller call.callee) call.frames state caller (far_fits call.caller call.callee to)) (tt, tt) in
    let clears = each-append Fits (message_of call.caller disconnect) (message_of call.caller release_complete) (message_fits call.caller disconnect caller refl (omega arith)) (message_fits call.caller release_complete caller refl (omega arith)) in
    each-append Fits (begins ++ connects ++ segment frames ++ clearing_of call.caller) (message_from call.callee release)
    (each-append Fits (begins ++ connects ++ segment frames) (clearing_of call.caller) (each-append Fits (begins ++ connects) (segment frames) begun speaks) clears)
    (callee_message_fits call.callee release to refl (omega arith))

callee_by : (choice : ℕ) (room : Bool) → eqb choice 8 ≡ room → choice < 9 → IsCallee (cond room callee.Room (callee.Line choice))
callee_by choice true e within = tt
callee_by choice false e within = let other = differ choice 8 e in omega arith

callee_fits : (choice : ℕ) → choice < 9 → IsCallee (callee_drawn choice)
callee_fits choice within = callee_by choice (eqb choice 8) refl within

pub drawn_fits : (state : ℕ) → ((call_drawn state).caller < 8) × IsCallee (call_drawn state).callee × ((call_drawn state).frames ≤ 3)
unfolding call_drawn drawn
drawn_fits state =
    let lasts = mod_below (state_after 3 state / 2 ^ 33) 3 (omega arith) in
    (mod_below (state_after 1 state / 2 ^ 33) 8 (omega arith), callee_fits _ (mod_below (state_after 2 state / 2 ^ 33) 9 (omega arith)), omega arith)

calls_fit : (count state : ℕ) → AllByRecursion Fits (calls_drawn count state)
calls_fit zero state = tt
calls_fit (suc count) state =
    let call = drawn_fits state in
    each-append Fits (call_lines (call_drawn state) (state_after 3 state)) _
    (call_fits (call_drawn state) (state_after 3 state) call.0 call.1) (calls_fit count _)

pub lines_fit : (seed calls : ℕ) → AllByRecursion Fits (traffic_lines seed calls)
unfolding traffic_lines
lines_fit seed calls =
    each-append Fits (header ++ segment nails) (calls_drawn calls seed)
    (each-append Fits header (segment nails) header_fits (each-append Fits nails (Sync ∷ []) nails_fit (tt, tt)))
    (calls_fit calls seed)
