-- The events of a trace fit an exchange of its size.
use Rattle.std.proofs.Common.{◌≡◌, ◌≢◌, ℕ, ◌+◌, ◌<◌, ◌≤◌, Bool, true, false, nat_lt, nat_le, nat_eq, List, [], ◌∷◌, ◌++◌, length, Option, Some, None, option_and_then, ok_or, Result, Ok, Err, All, replicate, slice_set, refl, arith, ◌==◌, sym, ◌∙◌, inl, inr, is_some, slice_index_or, if◌then◌else◌, ◌&&◌, ◌||◌, codes, length-append, ap, subst}
use Rattle.std.specs.Prelude.{IfSome}
use Rattle.std.specs.List.{list_all}
use Rattle.std.specs.Str.{bytes_eq}
use Rattle.std.proofs.lemmas.Grind.{common_steps}
use Rattle.std.proofs.lemmas.Bool.{and_parts, ltb-true, lt-ltb}
use Rattle.std.proofs.lemmas.List.{append_assoc, append-nil, length-set, length-replicate}
use Rattle.std.proofs.lemmas.List.Elements.{All-nil, All-push}
use Rattle.circuit_model.specs.declared.channel.Slot.{Slot}
use Rattle.circuit_model.specs.FrameInput.{Input}
use Rattle.circuit_model.specs.Channels.{between, place_of}
use Rattle.circuit_model.specs.Circuits.{same_slot}
use Rattle.circuit_model.specs.Extent.{IsExternal}
use Rattle.circuit_model.proofs.Slots.{true_or_false, same_slot-refl}
use Rattle.trace_text.specs.declared.fault.Reason.{Reason}
use Rattle.trace_text.specs.declared.fault.Reason.TheVariants as reason
use Rattle.trace_text.specs.declared.said.Sizes.{Sizes}
use Rattle.trace_text.specs.declared.said.GivenTone.{GivenTone}
use Rattle.trace_text.specs.declared.timing.GivenTimer.{GivenTimer}
use Rattle.trace_text.specs.declared.said.Said.{Said}
use Rattle.trace_text.specs.declared.said.Said.TheVariants.{Nothing, Header, Numbered, Toned, Timed, Happens, Sync, Change}
use Rattle.trace_text.specs.declared.said.LineKind.{LineKind}
use Rattle.trace_text.specs.declared.said.LineKind.TheVariants as kind
use Rattle.exchange_events.specs.declared.trace.Event.{Event}
use Rattle.exchange_events.specs.declared.trace.Event.TheVariants.{Nail, Seat, Free, Message, LinkUp, LinkDown, RestartLine, Frame}
use Rattle.number_plan.specs.declared.plan.Number.{Number}
use Rattle.number_plan.specs.declared.target.Target.{Target}
use Rattle.number_plan.specs.declared.target.Target.TheVariants as goal
use Rattle.number_plan.specs.Plan.{is_listed, is_number, is_number_taken, all_targets, with_number}
use Rattle.number_plan.proofs.OrderFacts.{all_with}
use Rattle.exchange_events.specs.declared.trace.Trace.{Trace}
use Rattle.trace_text.specs.TraceFields.{slash, numeral_in, external_line, slot, room, octets_written, thirty, at_most, max_message_len, exchange_sizes, header}
use Rattle.trace_text.specs.TraceWords.{cut_at, numeral, lines, words, two, one_or_two, digits_and_target, is_comment, is_blank, is_printable}
use Rattle.trace_text.specs.TraceLines.{◌>>=◌, colon, with_part, with_parts, with_line, with_lines, frame, message, nail, seat, free, only_line, link_up, link_down, restart, target, number, numbered, tone, timer, toned, timed, happens, SoFar, before_events, by_kind, kind_of, by_words, by_place, reads, joins, says, trace_limits}
use Rattle.trace_text.specs.TraceGrammar.{sizes_in, number_said, numbers_in, plan_of, event_said, events_in, changes_in, so_far, EachSays, IsTrace}
use Rattle.exchange_events.specs.Sound.{Fits, line_exists, is_reached, IsSound}
use Rattle.trace_text.proofs.TraceOctets.{in_range, are_octets}
use Rattle.trace_text.proofs.TraceHolds.{change_said, changes_more, events_more, plan_more, push, sizes_first, step}
use Rattle.trace_text.proofs.SegmentLemmas.{segments_sound, changes_sound}

-- a step that found something had something to begin with
pub found_first : {A B : Type 0} (o : Option A) (step : A → Option B) (v : B) → option_and_then step o ≡ Some v → (x : A) × (o ≡ Some x) × (step x ≡ Some v)
found_first None step v h = absurd (grind (arith, h))
found_first (Some x) step v h = (x, refl, h)

-- a test that passed
pub passed : {A : Type 0} (b : Bool) (x v : A) → (if b then Some x else None) ≡ Some v → (b ≡ true) × (x ≡ v)
passed true x v h = (refl, grind (arith, h))
passed false x v h = absurd (grind (arith, h))

pub place_inside : (channel place : ℕ) → place_of channel ≡ Some place → place < 30
place_inside channel place h =
    elim (true_or_false (between 1 15 channel)) [
      | inl low ↦ let is = rw low at h in grind (arith, common_steps, low, is)
      | inr not_low ↦ elim (true_or_false (between 17 31 channel)) [
        | inl high ↦ let is = rw (not_low, high) at h in grind (arith, common_steps, high, is)
        | inr not_high ↦ absurd (grind (arith, common_steps, not_low, not_high, h))
      ]
    ]

pub line_inside : (external : ℕ) (word : List ℕ) (line : ℕ) → external_line external word ≡ Some line → line < external
line_inside external word line h =
    let first = found_first (numeral word) (λ found. if nat_lt found external then Some found else None) line h in
    let test = passed (nat_lt first.0 external) first.0 line first.2 in
    let below : first.0 < external = ltb-true first.0 external test.0 in
    rw (← test.1) below

-- the steps by which a word names a slot
abbrev at_place : ℕ → ℕ → Option Slot
at_place line place = Some (record { line = line; place = place })

abbrev at_channel : ℕ → ℕ → Option Slot
at_channel line channel = option_and_then (at_place line) (place_of channel)

abbrev on_line : List ℕ → ℕ → Option Slot
on_line word line = option_and_then (at_channel line) (numeral word)

abbrev by_halves : ℕ → List ℕ × List ℕ → Option Slot
by_halves external halves = option_and_then (on_line halves.1) (external_line external halves.0)

pub slot_inside : (external : ℕ) (word : List ℕ) (at : Slot) → slot external word ≡ Some at → IsExternal external at
slot_inside external word at h =
    let halves = found_first (cut_at slash word) (by_halves external) at h in
    let line = found_first (external_line external halves.0.0) (on_line halves.0.1) at halves.2 in
    let channel = found_first (numeral halves.0.1) (at_channel line.0) at line.2 in
    let place = found_first (place_of channel.0) (at_place line.0) at channel.2 in
    let inside : IsExternal external (record { line = line.0; place = place.0 }) = (line_inside external halves.0.0 line.0 line.1, place_inside channel.0 place.0 place.1) in
    let same : record { line = line.0; place = place.0 } ≡ at = grind (arith, place.2) in
    rw (← same) inside

pub are_apart : (x y : Slot) → same_slot x y ≡ false → x ≢ y
are_apart x y apart same = grind (arith, common_steps, same, apart, same_slot-refl x)

-- two slots, where each was found
nail_step : (external : ℕ) (x y : Option Slot) (e : Event) → ((at : Slot) → x ≡ Some at → IsExternal external at) → ((at : Slot) → y ≡ Some at → IsExternal external at)
    → (ok_or x reason.Slot >>= λ one. ok_or y reason.Slot >>= λ other. if same_slot one other then Err reason.Slot else Ok (Nail one other)) ≡ Ok e → Fits external e
nail_step external None y e in_x in_y h = absurd (grind (arith, h))
nail_step external (Some one) None e in_x in_y h = absurd (grind (arith, h))
nail_step external (Some one) (Some other) e in_x in_y h =
    elim (true_or_false (same_slot one other)) [
      | inl same ↦ let failed = rw same at h in absurd (grind (arith, failed))
      | inr apart ↦
          let ok = rw apart at h in
          let is : Nail one other ≡ e = grind (arith, ok) in
          rw (← is) (record { first = in_x one refl; second = in_y other refl; distinct = are_apart one other apart })
    ]

-- a check that passed had something to pass
pub passed_first : {A B : Type 0} (r : Result A Reason) (step : A → Result B Reason) (v : B) → (r >>= step) ≡ Ok v → (x : A) × (r ≡ Ok x) × (step x ≡ Ok v)
passed_first (Ok x) step v h = (x, refl, h)
passed_first (Err why) step v h = absurd (grind (arith, h))

-- the steps by which two words name a nail
abbrev nail_by_words : ℕ → List ℕ × List ℕ → Result Event Reason
nail_by_words external both = ok_or (slot external both.0) reason.Slot >>= λ one. ok_or (slot external both.1) reason.Slot >>= λ other. if same_slot one other then Err reason.Slot else Ok (Nail one other)

pub nail_fits : (external : ℕ) (words : List (List ℕ)) (e : Event) → nail external words ≡ Ok e → Fits external e
nail_fits external words e h =
    let both = passed_first (ok_or (two words) reason.Word) (nail_by_words external) e h in
    nail_step external (slot external both.0.0) (slot external both.0.1) e (slot_inside external both.0.0) (slot_inside external both.0.1) both.2

-- a slot and a room, where each was found
seat_step : (external : ℕ) (x : Option Slot) (number : Option ℕ) (e : Event) → ((at : Slot) → x ≡ Some at → IsExternal external at)
    → (ok_or x reason.Slot >>= λ at. ok_or number reason.Number >>= λ n. Ok (Seat at n)) ≡ Ok e → Fits external e
seat_step external None number e inside h = absurd (grind (arith, h))
seat_step external (Some at) None e inside h = absurd (grind (arith, h))
seat_step external (Some at) (Some n) e inside h = let is : Seat at n ≡ e = grind (arith, h) in rw (← is) (inside at refl)

-- the steps by which two words name a seat
abbrev seat_by_words : ℕ → List ℕ × List ℕ → Result Event Reason
seat_by_words external both = ok_or (slot external both.0) reason.Slot >>= λ at. ok_or (room both.1) reason.Number >>= λ n. Ok (Seat at n)

pub seat_fits : (external : ℕ) (words : List (List ℕ)) (e : Event) → seat external words ≡ Ok e → Fits external e
seat_fits external words e h =
    let both = passed_first (ok_or (two words) reason.Word) (seat_by_words external) e h in
    seat_step external (slot external both.0.0) (room both.0.1) e (slot_inside external both.0.0) both.2

-- a slot, where it was found
free_step : (external : ℕ) (x : Option Slot) (e : Event) → ((at : Slot) → x ≡ Some at → IsExternal external at) → (ok_or x reason.Slot >>= λ at. Ok (Free at)) ≡ Ok e → Fits external e
free_step external None e inside h = absurd (grind (arith, h))
free_step external (Some at) e inside h = let is : Free at ≡ e = grind (arith, h) in rw (← is) (inside at refl)

pub free_fits : (external : ℕ) (words : List (List ℕ)) (e : Event) → free external words ≡ Ok e → Fits external e
free_fits external [] e h = absurd (grind (arith, h))
free_fits external (word ∷ []) e h = free_step external (slot external word) e (slot_inside external word) h
free_fits external (word ∷ more ∷ others) e h = absurd (grind (arith, h))

-- the steps by which a word of a frame gives a line's octets
abbrev put : Input → ℕ → List ℕ → Result Input Reason
put given line octets = Ok (slice_set given line (Some octets))

abbrev once_given : Input → List ℕ → ℕ → Result Input Reason
once_given given digits line = if is_some (slice_index_or given line None) then Err reason.Slot else (thirty (octets_written digits) >>= put given line)

abbrev part_by_halves : ℕ → Input → List ℕ × List ℕ → Result Input Reason
part_by_halves external given halves = ok_or (external_line external halves.0) reason.Slot >>= once_given given halves.1

pub part_keeps_length : (external : ℕ) (given more : Input) (word : List ℕ) → with_part external given word ≡ Ok more → length more ≡ length given
part_keeps_length external given more word h =
    let halves = passed_first (ok_or (cut_at colon word) reason.Slot) (part_by_halves external given) more h in
    let line = passed_first (ok_or (external_line external halves.0.0) reason.Slot) (once_given given halves.0.1) more halves.2 in
    elim (true_or_false (is_some (slice_index_or given line.0 None))) [
      | inl twice ↦ let failed = rw twice at line.2 in absurd (grind (arith, failed))
      | inr once ↦
          let rest = rw once at line.2 in
          let octets = passed_first (thirty (octets_written halves.0.1)) (put given line.0) more rest in
          let is : slice_set given line.0 (Some octets.0) ≡ more = grind (arith, octets.2) in
          rw (← is) (length-set given line.0 (Some octets.0))
    ]

-- one more word of a frame is put into it
pub part_more : (external : ℕ) (given now : Input) (word : List ℕ) (all others : List (List ℕ)) (read : Result Input Reason) → all ≡ word ∷ others → length given ≡ external → with_part external given word ≡ Ok now
    → with_parts external given all ≡ read → (length now ≡ external) × (with_parts external now others ≡ read)
part_more external given now word all others read cut wide put same =
    let step : with_parts external given all ≡ with_parts external now others = rw (cut, put) refl in
    (part_keeps_length external given now word put ∙ wide, sym step ∙ same)

pub parts_keep_length : (external : ℕ) (given input : Input) (words : List (List ℕ)) → with_parts external given words ≡ Ok input → length input ≡ length given
parts_keep_length external given input [] h = let is : given ≡ input = grind (arith, h) in rw is refl
parts_keep_length external given input (word ∷ words) h =
    let first = passed_first (with_part external given word) (λ more. with_parts external more words) input h in
    parts_keep_length external first.0 input words first.2 ∙ part_keeps_length external given first.0 word first.1

pub frame_fits : (external : ℕ) (words : List (List ℕ)) (e : Event) → frame external words ≡ Ok e → Fits external e
frame_fits external words e h =
    let parts = passed_first (with_parts external (replicate external None) words) (λ input. Ok (Frame input)) e h in
    let is : Frame parts.0 ≡ e = grind (arith, parts.2) in
    rw (← is) (parts_keep_length external (replicate external None) parts.0 words parts.1 ∙ length-replicate external None)

-- the steps by which the words of a message give it
abbrev message_on : ℕ → List ℕ → Result Event Reason
message_on line octets = Ok (Message line octets)

abbrev message_digits : List ℕ → ℕ → Result Event Reason
message_digits digits line = at_most max_message_len (octets_written digits) >>= message_on line

abbrev message_words : ℕ → List ℕ × List ℕ → Result Event Reason
message_words external both = ok_or (external_line external both.0) reason.Slot >>= message_digits both.1

-- a check of what was found
pub was_found : {A : Type 0} (o : Option A) (why : Reason) (v : A) → ok_or o why ≡ Ok v → o ≡ Some v
was_found None why v h = absurd (grind (arith, h))
was_found (Some x) why v h = let same : x ≡ v = grind (arith, h) in rw same refl

octets_are : (o : Option (List ℕ)) (octets : List ℕ) → IfSome o (λ os. All (λ v. v < 256) os) → at_most max_message_len o ≡ Ok octets → All (λ v. v < 256) octets
octets_are None octets small h = absurd (grind (arith, h))
octets_are (Some os) octets small h =
    elim (true_or_false (nat_le (length os) 260)) [
      | inl few ↦ let ok = rw few at h in let same : os ≡ octets = grind (arith, ok) in subst (λ v. All (λ w. w < 256) v) same small
      | inr many ↦ let failed = rw many at h in absurd (grind (arith, failed))
    ]

pub message_fits : (external : ℕ) (words : List (List ℕ)) (e : Event) → message external words ≡ Ok e → Fits external e
message_fits external words e h =
    let both = passed_first (ok_or (one_or_two words) reason.Word) (message_words external) e h in
    let line = passed_first (ok_or (external_line external both.0.0) reason.Slot) (message_digits both.0.1) e both.2 in
    let octets = passed_first (at_most max_message_len (octets_written both.0.1)) (message_on line.0) e line.2 in
    let inside = line_inside external both.0.0 line.0 (was_found (external_line external both.0.0) reason.Slot line.0 line.1) in
    let small = octets_are (octets_written both.0.1) octets.0 (are_octets both.0.1) octets.1 in
    let is : Message line.0 octets.0 ≡ e = grind (arith, octets.2) in
    rw (← is) (inside, small)

pub only_line_inside : (external : ℕ) (words : List (List ℕ)) (line : ℕ) → only_line external words ≡ Ok line → line < external
only_line_inside external [] line h = absurd (grind (arith, h))
only_line_inside external (word ∷ []) line h = line_inside external word line (was_found (external_line external word) reason.Slot line h)
only_line_inside external (word ∷ more ∷ others) line h = absurd (grind (arith, h))

-- the event of a line whose data link changes
abbrev up_on : ℕ → Result Event Reason
up_on line = Ok (LinkUp line)

abbrev down_on : ℕ → Result Event Reason
down_on line = Ok (LinkDown line)

-- the event of a line that the exchange restarts
abbrev restart_on : ℕ → Result Event Reason
restart_on line = Ok (RestartLine line)

pub link_up_fits : (external : ℕ) (words : List (List ℕ)) (e : Event) → link_up external words ≡ Ok e → Fits external e
link_up_fits external words e h =
    let line = passed_first (only_line external words) up_on e h in
    let is : LinkUp line.0 ≡ e = grind (arith, line.2) in
    rw (← is) (only_line_inside external words line.0 line.1)

pub link_down_fits : (external : ℕ) (words : List (List ℕ)) (e : Event) → link_down external words ≡ Ok e → Fits external e
link_down_fits external words e h =
    let line = passed_first (only_line external words) down_on e h in
    let is : LinkDown line.0 ≡ e = grind (arith, line.2) in
    rw (← is) (only_line_inside external words line.0 line.1)

pub restart_fits : (external : ℕ) (words : List (List ℕ)) (e : Event) → restart external words ≡ Ok e → Fits external e
restart_fits external words e h =
    let line = passed_first (only_line external words) restart_on e h in
    let is : RestartLine line.0 ≡ e = grind (arith, line.2) in
    rw (← is) (only_line_inside external words line.0 line.1)

-- the steps by which two words name where a number leads
abbrev line_target : ℕ → Result Target Reason
line_target line = Ok (goal.Line line)

abbrev room_target : ℕ → Result Target Reason
room_target number = Ok (goal.Room number)

room_reached : (external : ℕ) (word : List ℕ) (t : Target) → (ok_or (room word) reason.Number >>= room_target) ≡ Ok t → is_reached external t ≡ true
room_reached external word t h =
    let found = passed_first (ok_or (room word) reason.Number) room_target t h in
    let is : goal.Room found.0 ≡ t = grind (arith, found.2) in
    rw (← is) refl

line_reached : (external : ℕ) (word : List ℕ) (t : Target) → (ok_or (external_line external word) reason.Slot >>= line_target) ≡ Ok t → is_reached external t ≡ true
line_reached external word t h =
    let found = passed_first (ok_or (external_line external word) reason.Slot) line_target t h in
    let inside = line_inside external word found.0 (was_found (external_line external word) reason.Slot found.0 found.1) in
    let is : goal.Line found.0 ≡ t = grind (arith, found.2) in
    rw (← is) (lt-ltb found.0 external inside)

abbrev lines_target : List ℕ → Result Target Reason
lines_target lines = Ok (goal.Lines lines)

abbrev with_found : List ℕ → ℕ → Result (List ℕ) Reason
with_found lines line = if is_listed line lines || (length lines == 32) then Err reason.Slot else Ok (lines ++ line ∷ [])

all_then : (test : ℕ → Bool) (lines : List ℕ) (line : ℕ) → list_all test lines ≡ true → test line ≡ true → list_all test (lines ++ line ∷ []) ≡ true
all_then test [] line all one = rw one refl
all_then test (l ∷ ls) line all one = let both = and_parts (test l) (list_all test ls) all in rw (both.0, all_then test ls line both.1 one) refl

line_exists_too : (external : ℕ) (lines more : List ℕ) (word : List ℕ) → list_all (line_exists external) lines ≡ true → with_line external lines word ≡ Ok more → list_all (line_exists external) more ≡ true
line_exists_too external lines more word all h =
    let found = passed_first (ok_or (external_line external word) reason.Slot) (with_found lines) more h in
    let inside = line_inside external word found.0 (was_found (external_line external word) reason.Slot found.0 found.1) in
    elim (true_or_false (is_listed found.0 lines || (length lines == 32))) [
      | inl listed ↦ let failed = rw listed at found.2 in absurd (grind (arith, failed))
      | inr not_listed ↦
          let ok = rw not_listed at found.2 in
          let is : lines ++ found.0 ∷ [] ≡ more = grind (arith, ok) in
          rw (← is) (all_then (line_exists external) lines found.0 all (lt-ltb found.0 external inside))
    ]

lines_exist : (external : ℕ) (lines all : List ℕ) (words : List (List ℕ)) → list_all (line_exists external) lines ≡ true → with_lines external lines words ≡ Ok all → list_all (line_exists external) all ≡ true
lines_exist external lines all [] exist h = let is : lines ≡ all = grind (arith, h) in rw (← is) exist
lines_exist external lines all (word ∷ words) exist h =
    let first = passed_first (with_line external lines word) (λ more. with_lines external more words) all h in
    lines_exist external first.0 all words (line_exists_too external lines first.0 word exist first.1) first.2

lines_reached : (external : ℕ) (words : List (List ℕ)) (t : Target) → (with_lines external [] words >>= lines_target) ≡ Ok t → is_reached external t ≡ true
lines_reached external words t h =
    let found = passed_first (with_lines external [] words) lines_target t h in
    let is : goal.Lines found.0 ≡ t = grind (arith, found.2) in
    rw (← is) (lines_exist external [] found.0 words refl found.1)

pub target_reached : (external : ℕ) (name word : List ℕ) (others : List (List ℕ)) (t : Target) → target external name word others ≡ Ok t → is_reached external t ≡ true
target_reached external name word others t h =
    elim (true_or_false (bytes_eq name (codes "line"))) [
      | inl to_line ↦ line_reached external word t (rw to_line at h)
      | inr no_line ↦ elim (true_or_false (bytes_eq name (codes "room"))) [
        | inl to_room ↦ room_reached external word t (rw (no_line, to_room) at h)
        | inr no_room ↦ elim (true_or_false (bytes_eq name (codes "lines"))) [
          | inl to_lines ↦ lines_reached external (word ∷ others) t (rw (no_line, no_room, to_lines) at h)
          | inr no_lines ↦ let failed = rw (no_line, no_room, no_lines) at h in absurd (grind (arith, failed))
        ]
      ]
    ]

-- the steps by which the words of a number give it
abbrev number_to : List ℕ → Target → Result Number Reason
number_to digits stands = Ok (record { digits = digits; target = stands })

abbrev number_digits : ℕ → List ℕ × List ℕ × List ℕ × List (List ℕ) → List ℕ → Result Number Reason
number_digits external parts digits = target external parts.1 parts.2 parts.3 >>= number_to digits

abbrev number_words : ℕ → List ℕ × List ℕ × List ℕ × List (List ℕ) → Result Number Reason
number_words external parts = (if is_number parts.0 then Ok parts.0 else Err reason.Number) >>= number_digits external parts

pub number_reached : (external : ℕ) (words : List (List ℕ)) (n : Number) → number external words ≡ Ok n → is_reached external n.target ≡ true
number_reached external words n h =
    let parts = passed_first (ok_or (digits_and_target words) reason.Word) (number_words external) n h in
    let digits = passed_first (if is_number parts.0.0 then Ok parts.0.0 else Err reason.Number) (number_digits external parts.0) n parts.2 in
    let stands = passed_first (target external parts.0.1 parts.0.2 parts.0.3) (number_to digits.0) n digits.2 in
    let is : record { digits = digits.0; target = stands.0 } ≡ n = grind (arith, stands.2) in
    rw (← is) (target_reached external parts.0.1 parts.0.2 parts.0.3 stands.0 stands.1)

-- the sizes of an exchange
pub record AreSizes (sizes : Sizes) : Type 0 where
  pub some : 1 ≤ sizes.external
  pub few : sizes.external ≤ 32
  pub bridges : sizes.bridges ≤ 2
  pub processors : (1 ≤ sizes.processors) × (sizes.processors ≤ 8)

pub numeral_inside : (low high : ℕ) (word : List ℕ) (n : ℕ) → numeral_in low high word ≡ Some n → (low ≤ n) × (n ≤ high)
numeral_inside low high word n h =
    let first = found_first (numeral word) (λ found. if between low high found then Some found else None) n h in
    let test = passed (between low high first.0) first.0 n first.2 in
    rw (← test.1) (in_range low high first.0 test.0)

-- the steps by which the words of a header give the sizes
abbrev of_three : ℕ → ℕ → ℕ → Option Sizes
of_three external bridges processors = Some (record { external = external; bridges = bridges; processors = processors })

abbrev of_two : List ℕ → ℕ → ℕ → Option Sizes
of_two processors external bridges = option_and_then (of_three external bridges) (numeral_in 1 8 processors)

abbrev of_one : List ℕ → List ℕ → ℕ → Option Sizes
of_one bridges processors external = option_and_then (of_two processors external) (numeral_in 0 2 bridges)

numbers_sizes : (external bridges processors : List ℕ) (sizes : Sizes) → option_and_then (of_one bridges processors) (numeral_in 1 32 external) ≡ Some sizes → AreSizes sizes
numbers_sizes external bridges processors sizes h =
    let e = found_first (numeral_in 1 32 external) (of_one bridges processors) sizes h in
    let b = found_first (numeral_in 0 2 bridges) (of_two processors e.0) sizes e.2 in
    let p = found_first (numeral_in 1 8 processors) (of_three e.0 b.0) sizes b.2 in
    let are : AreSizes (record { external = e.0; bridges = b.0; processors = p.0 }) =
    record { some = (numeral_inside 1 32 external e.0 e.1).0; few = (numeral_inside 1 32 external e.0 e.1).1; bridges = (numeral_inside 0 2 bridges b.0 b.1).1; processors = numeral_inside 1 8 processors p.0 p.1 } in
    let same : record { external = e.0; bridges = b.0; processors = p.0 } ≡ sizes = grind (arith, p.2) in
    rw (← same) are

three_sizes : (words : List (List ℕ)) (sizes : Sizes) → exchange_sizes words ≡ Some sizes → AreSizes sizes
three_sizes (external ∷ bridges ∷ processors ∷ []) sizes h = numbers_sizes external bridges processors sizes h
three_sizes others sizes h = absurd (grind (arith, h))

pub header_sizes : (words : List (List ℕ)) (sizes : Sizes) → header words ≡ Some sizes → AreSizes sizes
header_sizes (name ∷ version ∷ others) sizes h =
    elim (true_or_false (bytes_eq name (codes "exchange") && bytes_eq version (codes "1"))) [
      | inl named ↦ three_sizes others sizes (rw named at h)
      | inr other ↦ let failed = rw other at h in absurd (grind (arith, failed))
    ]
header_sizes others sizes h = absurd (grind (arith, h))

-- what a line says is sound behind the lines so far: the sizes are an exchange's, and a number or an event fits that exchange
abbrev pub IsOfExchange : Option Sizes → (Sizes → Type 0) → Type 0
IsOfExchange known fits = (sizes : Sizes) × (known ≡ Some sizes) × fits sizes

abbrev pub IsFine : SoFar → Said → Type 0
IsFine s (Header sizes) = AreSizes sizes
IsFine s (Numbered n) = IsOfExchange s.sizes (λ sizes. is_reached sizes.external n.target ≡ true)
IsFine s (Happens e) = IsOfExchange s.sizes (λ sizes. Fits sizes.external e)
IsFine s other = Unit {0}

event_fine : (s : SoFar) (sizes : Sizes) (r : Result Event Reason) (said : Said) → s.sizes ≡ Some sizes → ((e : Event) → r ≡ Ok e → Fits sizes.external e)
    → happens r ≡ Ok said → IsFine s said
event_fine s sizes (Err why) said known fits h = absurd (grind (arith, h))
event_fine s sizes (Ok e) said known fits h = let is : Happens e ≡ said = grind (arith, h) in subst (λ v. IsFine s v) is (sizes, known, fits e refl)

-- a line that comes before the first event is read as its words are
read_before : (s : SoFar) (r : Result Said Reason) (said : Said) → before_events s r ≡ Ok said → r ≡ Ok said
read_before s r said h = elim (true_or_false (nat_eq s.events 0)) [
  | inr late ↦ let failed = rw late at h in absurd (grind (arith, failed))
  | inl early ↦ rw early at h
]

number_fine : (s : SoFar) (sizes : Sizes) (r : Result Number Reason) (said : Said) → s.sizes ≡ Some sizes → ((n : Number) → r ≡ Ok n → is_reached sizes.external n.target ≡ true)
    → numbered r ≡ Ok said → IsFine s said
number_fine s sizes (Err why) said known reached h = absurd (grind (arith, h))
number_fine s sizes (Ok n) said known reached h = let is : Numbered n ≡ said = grind (arith, h) in subst (λ v. IsFine s v) is (sizes, known, reached n refl)

tone_fine : (s : SoFar) (r : Result GivenTone Reason) (said : Said) → toned r ≡ Ok said → IsFine s said
tone_fine s (Err why) said h = absurd (grind (arith, h))
tone_fine s (Ok t) said h = let is : Toned t ≡ said = grind (arith, h) in subst (λ v. IsFine s v) is tt

timer_fine : (s : SoFar) (r : Result GivenTimer Reason) (said : Said) → timed r ≡ Ok said → IsFine s said
timer_fine s (Err why) said h = absurd (grind (arith, h))
timer_fine s (Ok t) said h = let is : Timed t ≡ said = grind (arith, h) in subst (λ v. IsFine s v) is tt

kind_fine : (s : SoFar) (sizes : Sizes) (k : LineKind) (others : List (List ℕ)) (said : Said) → s.sizes ≡ Some sizes → by_kind s sizes.external k others ≡ Ok said → IsFine s said
kind_fine s sizes kind.Frame others said known h = event_fine s sizes (frame sizes.external others) said known (frame_fits sizes.external others) h
kind_fine s sizes kind.Message others said known h = event_fine s sizes (message sizes.external others) said known (message_fits sizes.external others) h
kind_fine s sizes kind.Nail others said known h = event_fine s sizes (nail sizes.external others) said known (nail_fits sizes.external others) h
kind_fine s sizes kind.Seat others said known h = event_fine s sizes (seat sizes.external others) said known (seat_fits sizes.external others) h
kind_fine s sizes kind.Free others said known h = event_fine s sizes (free sizes.external others) said known (free_fits sizes.external others) h
kind_fine s sizes kind.LinkUp others said known h = event_fine s sizes (link_up sizes.external others) said known (link_up_fits sizes.external others) h
kind_fine s sizes kind.LinkDown others said known h = event_fine s sizes (link_down sizes.external others) said known (link_down_fits sizes.external others) h
kind_fine s sizes kind.RestartLine others said known h = event_fine s sizes (restart sizes.external others) said known (restart_fits sizes.external others) h
kind_fine s sizes kind.Number others said known h = number_fine s sizes (number sizes.external others) said known (number_reached sizes.external others) (read_before s _ said h)
kind_fine s sizes kind.Tone others said known h = tone_fine s (tone s.tones others) said (read_before s _ said h)
kind_fine s sizes kind.Timer others said known h = timer_fine s (timer s.timers others) said (read_before s _ said h)
kind_fine s sizes kind.Sync [] said known h = let is : Sync ≡ said = grind (arith, h) in subst (λ v. IsFine s v) is tt
kind_fine s sizes kind.Sync (word ∷ others) said known h = absurd (grind (arith, h))
kind_fine s sizes kind.Change [] said known h = let is : Change ≡ said = grind (arith, h) in subst (λ v. IsFine s v) is tt
kind_fine s sizes kind.Change (word ∷ others) said known h = absurd (grind (arith, h))
kind_fine s sizes kind.Unknown others said known h = absurd (grind (arith, h))

nothing_fine : (s : SoFar) (said : Said) → by_words s 0 [] ≡ Ok said → IsFine s said
nothing_fine s said h = let is : Nothing ≡ said = grind (arith, h) in subst (λ v. IsFine s v) is tt

words_fine : (s : SoFar) (sizes : Sizes) (words : List (List ℕ)) (said : Said) → s.sizes ≡ Some sizes → by_words s sizes.external words ≡ Ok said → IsFine s said
words_fine s sizes [] said known h = nothing_fine s said h
words_fine s sizes (first ∷ others) said known h = kind_fine s sizes (kind_of first) others said known h

header_fine : (s : SoFar) (o : Option Sizes) (said : Said) → ((sizes : Sizes) → o ≡ Some sizes → AreSizes sizes) → (ok_or o reason.Header >>= λ sizes. Ok (Header sizes)) ≡ Ok said → IsFine s said
header_fine s None said are h = absurd (grind (arith, h))
header_fine s (Some sizes) said are h = let is : Header sizes ≡ said = grind (arith, h) in subst (λ v. IsFine s v) is (are sizes refl)

place_fine : (s : SoFar) (known : Option Sizes) (line : List ℕ) (said : Said) → s.sizes ≡ known → by_place s known line ≡ Ok said → IsFine s said
place_fine s None line said is h = header_fine s (header (words line)) said (header_sizes (words line)) h
place_fine s (Some sizes) line said is h =
    elim (true_or_false (list_all is_printable line)) [
      | inl printable ↦ words_fine s sizes (words line) said is (rw printable at h)
      | inr not_printable ↦ let failed = rw not_printable at h in absurd (grind (arith, failed))
    ]

pub reads_fine : (s : SoFar) (line : List ℕ) (said : Said) → reads s line ≡ Ok said → IsFine s said
reads_fine s line said h =
    elim (true_or_false (is_comment line || is_blank line)) [
      | inl passed_over ↦ nothing_fine s said (rw passed_over at h)
      | inr read ↦ place_fine s s.sizes line said refl (rw read at h)
    ]

-- what passes the last checks is what was read, and neither an event nor a change is one too many
abbrev pub IsCounted : SoFar → Said → Type 0
IsCounted s (Happens e) = s.events < 65535
IsCounted s Change = s.changes < 65535
IsCounted s other = Unit {0}

joins_same : (s : SoFar) (said other : Said) → joins trace_limits s said ≡ Ok other → (said ≡ other) × IsCounted s said
joins_same s (Happens e) other h =
    elim (true_or_false (nat_lt s.events 65535)) [
      | inl few ↦ let ok = rw few at h in (grind (arith, ok), ltb-true s.events 65535 few)
      | inr many ↦ let failed = rw many at h in absurd (grind (arith, failed))
    ]
joins_same s Change other h =
    elim (true_or_false (nat_lt s.changes 65535)) [
      | inl few ↦ let ok = rw few at h in (grind (arith, ok), ltb-true s.changes 65535 few)
      | inr many ↦ let failed = rw many at h in absurd (grind (arith, failed))
    ]
joins_same s (Numbered n) other h =
    elim (true_or_false (is_number_taken s.plan n.digits)) [
      | inl taken ↦ let failed = rw taken at h in absurd (grind (arith, failed))
      | inr apart ↦ elim (true_or_false (nat_eq (length s.plan) 256)) [
        | inl full ↦ let failed = rw (apart, full) at h in absurd (grind (arith, failed))
        | inr more ↦ let ok = rw (apart, more) at h in (grind (arith, ok), tt)
      ]
    ]
joins_same s said other h = (grind (arith, h), tt)

pub says_fine : (s : SoFar) (line : List ℕ) (said : Said) → says trace_limits s line ≡ Ok said → IsFine s said × IsCounted s said
says_fine s line said h =
    let first = passed_first (reads s line) (joins trace_limits s) said h in
    let same = joins_same s first.0 said first.2 in
    (subst (λ v. IsFine s v) same.0 (reads_fine s line first.0 first.1), subst (λ v. IsCounted s v) same.0 same.1)

-- what some lines say is sound, in an exchange with n external lines
pub record IsSoundFront (external : ℕ) (told : List Said) : Type 0 where
  pub count : length (events_in told) ≤ 65535
  pub changes : length (changes_in told) ≤ 65535
  pub events : All (Fits external) (events_in told)
  pub planned : all_targets (is_reached external) (plan_of (numbers_in told)) ≡ true

-- one more line that says neither an event nor a number
stays : (external : ℕ) (told : List Said) (said : Said) → event_said said ≡ None → number_said said ≡ None → length (changes_in (told ++ said ∷ [])) ≤ 65535
    → IsSoundFront external told → IsSoundFront external (told ++ said ∷ [])
stays external told said no_event no_number few front =
    let same : events_in (told ++ said ∷ []) ≡ events_in told = events_more told said ∙ ap (λ (o : Option Event). step push (events_in told) o) no_event in
    let plan : plan_of (numbers_in told) ≡ plan_of (numbers_in (told ++ said ∷ [])) = ap (λ (o : Option Number). step with_number (plan_of (numbers_in told)) o) (sym no_number) ∙ plan_more told said in
    record {
      count = rw same front.count;
      changes = few;
      events = subst (All (Fits external)) (sym same) front.events;
      planned = ap (all_targets (is_reached external)) (sym plan) ∙ front.planned;
    }

-- as few changes as before
as_few : (external : ℕ) (told : List Said) (said : Said) → change_said (length (events_in told)) said ≡ None → IsSoundFront external told → length (changes_in (told ++ said ∷ [])) ≤ 65535
as_few external told said none front = rw (changes_more told said, none) front.changes

-- one more line
one_more : (sizes : Sizes) (told : List Said) (said : Said) → ((first : Sizes) → sizes_in told ≡ Some first → first ≡ sizes) → IsFine (so_far told) said → IsCounted (so_far told) said
    → IsSoundFront sizes.external told → IsSoundFront sizes.external (told ++ said ∷ [])
one_more sizes told Change same fine counted front =
    let count = length (events_in told) in
    let added : length (changes_in (told ++ Change ∷ [])) ≡ length (changes_in told) + 1 = ap length (changes_more told Change) ∙ length-append (changes_in told) (count ∷ []) in
    stays sizes.external told Change refl refl (omega (arith, counted, added)) front
one_more sizes told (Numbered n) same fine counted front =
    let kept = events_more told (Numbered n) in
    let reached : is_reached sizes.external n.target ≡ true = subst (λ (v : Sizes). is_reached v.external n.target ≡ true) (same fine.0 fine.1) fine.2 in
    record {
      count = rw kept front.count;
      changes = as_few sizes.external told (Numbered n) refl front;
      events = subst (All (Fits sizes.external)) (sym kept) front.events;
      planned = ap (all_targets (is_reached sizes.external)) (sym (plan_more told (Numbered n)))
          ∙ all_with (λ m. is_reached sizes.external m.target) (plan_of (numbers_in told)) n front.planned reached;
    }
one_more sizes told (Happens e) same fine counted front =
    let added = events_more told (Happens e) in
    let fits : Fits sizes.external e = subst (λ (v : Sizes). Fits v.external e) (same fine.0 fine.1) fine.2 in
    record {
      count = rw (added, length-append (events_in told) (e ∷ [])) (omega (arith, counted));
      changes = as_few sizes.external told (Happens e) refl front;
      events = subst (All (Fits sizes.external)) (sym added) (All-push (Fits sizes.external) (events_in told) e front.events fits);
      planned = ap (all_targets (is_reached sizes.external)) (sym (plan_more told (Happens e))) ∙ front.planned;
    }
one_more sizes told other same fine counted front = stays sizes.external told other refl refl (as_few sizes.external told other refl front) front

pub sound_front : (sizes : Sizes) (before told : List Said) (rows : List (List ℕ)) → EachSays before rows told → sizes_in (before ++ told) ≡ Some sizes
    → IsSoundFront sizes.external before → IsSoundFront sizes.external (before ++ told)
sound_front sizes before [] [] meets known front = rw (append-nil before) front
sound_front sizes before [] (row ∷ rows) meets known front = absurd meets
sound_front sizes before (said ∷ told) [] meets known front = absurd meets
sound_front sizes before (said ∷ told) (row ∷ rows) meets known front =
    let fine = says_fine (so_far before) row said meets.0 in
    let same : (first : Sizes) → sizes_in before ≡ Some first → first ≡ sizes =
    λ first is. let both : Some first ≡ Some sizes = sym (sizes_first before (said ∷ told) first is) ∙ known in cc in
    let more = one_more sizes before said same fine.0 fine.1 front in
    let all = sound_front sizes (before ++ said ∷ []) told rows meets.1 (rw (append_assoc before (said ∷ []) told) known) more in
    rw (append_assoc before (said ∷ []) told) at all

pub sizes_behind_all : (before told : List Said) (rows : List (List ℕ)) (sizes : Sizes) → EachSays before rows told → sizes_in told ≡ Some sizes → AreSizes sizes
sizes_behind_all before [] [] sizes meets known = absurd (grind (arith, known))
sizes_behind_all before [] (row ∷ rows) sizes meets known = absurd meets
sizes_behind_all before (said ∷ told) [] sizes meets known = absurd meets
sizes_behind_all before (Header first ∷ told) (row ∷ rows) sizes meets known =
    let are = (says_fine (so_far before) row (Header first) meets.0).0 in
    let same : first ≡ sizes = grind (arith, known) in
    subst AreSizes same are
sizes_behind_all before (said ∷ told) (row ∷ rows) sizes meets known = sizes_behind_all (before ++ said ∷ []) told rows sizes meets.1 known

pub sound_trace : (bytes : List ℕ) (t : Trace) → IsTrace bytes t → IsSound t
sound_trace bytes t is =
    let sizes : Sizes = record { external = t.external; bridges = t.bridges; processors = t.processors } in
    let s = sound_front sizes [] is.told (lines bytes) is.meets is.all.sizes (record { count = omega arith; changes = omega arith; events = All-nil (Fits t.external); planned = refl }) in
    let are = sizes_behind_all [] is.told (lines bytes) sizes is.meets is.all.sizes in
    record {
      some = are.some;
      few = are.few;
      bridges = are.bridges;
      processors = are.processors;
      planned = ap (all_targets (is_reached t.external)) is.all.plan ∙ s.planned;
      count = rw is.all.events s.count;
      events = rw is.all.events s.events;
      segments = rw (is.all.events, is.all.segments) (segments_sound is.told);
      changes = rw (is.all.segments, is.all.changes) (changes_sound is.told s.changes);
    }
