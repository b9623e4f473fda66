-- What each line of a generated trace says, behind lines that leave room for it.
use Rattle.std.proofs.Common.{◌≡◌, ◌≢◌, ℕ, ◌+◌, ◌<◌, ◌≤◌, Bool, true, false, nat_le, nat_eq, List, [], ◌∷◌, ◌++◌, length, get_or, set, map, replicate, Some, None, is_some, Result, Ok, refl, ap, ◌∙◌, append_assoc, arith, get_or-set_other}
use Rattle.std.specs.Prelude.{codes, decimal, if◌then◌else◌}
use Rattle.std.specs.List.{AllByRecursion, flat_map}
use Rattle.std.proofs.lemmas.Bool.{lt-ltb, le-leb, ne_eqb}
use Rattle.std.proofs.lemmas.List.{append-nil, get_or-replicate}
use Rattle.std.proofs.lemmas.Fmt.{decimal_digit}
use Rattle.std.proofs.lemmas.List.Folds.{list_all-append}
use Rattle.hex.specs.Hex.{encode_upper}
use Rattle.circuit_model.specs.declared.channel.Slot.{Slot}
use Rattle.circuit_model.specs.Circuits.{same_slot}
use Rattle.circuit_model.specs.FrameInput.{Input}
use Rattle.number_plan.specs.Plan.{is_number, is_number_taken}
use Rattle.number_plan.specs.declared.plan.Number.{Number}
use Rattle.number_plan.specs.declared.target.Target.TheVariants as target
use Rattle.exchange_events.specs.declared.trace.Event.{Event}
use Rattle.exchange_events.specs.declared.trace.Event.TheVariants as event
use Rattle.traffic_gen.specs.Fitting.{Fits, FitsMessage, FitsNail, FitsPart, FitsParts, is_event}
use Rattle.traffic_gen.specs.Lines.{Line, Part, Header, ToLine, ToRoom, Nail, Message, Frame, Sync, line_text, part_text, slot_text}
use Rattle.traffic_gen.proofs.Spelling.{line_prints}
use Rattle.trace_text.specs.declared.said.Sizes.{Sizes}
use Rattle.trace_text.specs.declared.said.Said.{Said}
use Rattle.trace_text.specs.declared.said.Said.TheVariants as said
use Rattle.trace_text.specs.TraceWords.{is_comment, words}
use Rattle.trace_text.specs.TraceFields.{external_line, header, octets_written, room, slot, thirty}
use Rattle.trace_text.specs.TraceLines.{SoFar, before_events, by_kind, frame, happens, joins, kind_of, message, nail, number, numbered, says, trace_limits, with_part, with_parts}
use Rattle.trace_text.proofs.TraceParts.{part_given, reads_by_kind, reads_sync, says_both}
use Rattle.generated_trace.specs.Told.{input_of, said_by, slot_at, with_octets}
use Rattle.generated_trace.proofs.Cutting.{IsWord, is_solid, spaced, words_before_space, words_of}
use Rattle.generated_trace.proofs.Fields.{cut_second, digit_word, line_read, no_colon, no_octets, number_word, octets_read, octets_solid, octets_word, slot_read, slot_word}

-- ---- the words of a line

-- the word of a line's part of a frame
abbrev pub part_word : Part → List ℕ
part_word part = decimal part.line ++ 58 ∷ encode_upper part.octets

abbrev pub first_of : Line → List ℕ
first_of (Header external bridges processors) = codes "exchange"
first_of (ToLine number line) = codes "number"
first_of (ToRoom number room) = codes "number"
first_of (Nail one other place) = codes "nail"
first_of (Message line octets) = codes "M"
first_of (Frame parts) = codes "F"
first_of Sync = codes "sync"

abbrev pub others_of : Line → List (List ℕ)
others_of (Header external bridges processors) = codes "1" ∷ decimal external ∷ decimal bridges ∷ decimal processors ∷ []
others_of (ToLine number line) = number ∷ codes "line" ∷ decimal line ∷ []
others_of (ToRoom number room) = number ∷ codes "room" ∷ decimal room ∷ []
others_of (Nail one other place) = slot_text one place ∷ slot_text other place ∷ []
others_of (Message line octets) = decimal line ∷ encode_upper octets ∷ []
others_of (Frame parts) = map part_word parts
others_of Sync = []

parts_spelled : (parts : List Part) → flat_map part_text parts ≡ spaced (map part_word parts)
parts_spelled [] = refl
parts_spelled (part ∷ parts) =
    let rest = parts_spelled parts in
    rw (append_assoc (decimal part.line) (codes ":") (encode_upper part.octets), rest) refl

-- a line is spelled by its words
line_spelled : (line : Line) → line_text line ≡ first_of line ++ spaced (others_of line)
line_spelled (Header external bridges processors) = simp (append_assoc, append-nil) refl
line_spelled (ToLine number line) = simp (append_assoc, append-nil) refl
line_spelled (ToRoom number room) = simp (append_assoc, append-nil) refl
line_spelled (Nail one other place) = simp (append_assoc, append-nil) refl
line_spelled (Message line octets) = simp (append_assoc, append-nil) refl
line_spelled (Frame parts) = ap (λ (rest : List ℕ). 70 ∷ rest) (parts_spelled parts)
line_spelled Sync = refl

first_is : (line : Line) → IsWord (first_of line)
first_is (Header external bridges processors) = record { solid = refl; filled = refl }
first_is (ToLine number line) = record { solid = refl; filled = refl }
first_is (ToRoom number room) = record { solid = refl; filled = refl }
first_is (Nail one other place) = record { solid = refl; filled = refl }
first_is (Message line octets) = record { solid = refl; filled = refl }
first_is (Frame parts) = record { solid = refl; filled = refl }
first_is Sync = record { solid = refl; filled = refl }

no_comment : (line : Line) → is_comment (line_text line) ≡ false
no_comment (Header external bridges processors) = refl
no_comment (ToLine number line) = refl
no_comment (ToRoom number room) = refl
no_comment (Nail one other place) = refl
no_comment (Message line octets) = refl
no_comment (Frame parts) = refl
no_comment Sync = refl

line_words : (line : Line) → AllByRecursion IsWord (others_of line) → words (line_text line) ≡ first_of line ∷ others_of line
line_words line are = ap words (line_spelled line) ∙ words_of (first_of line) (others_of line) (first_is line) are

-- ---- a line behind the header

-- the sizes of the exchange of a generated trace
abbrev pub eight : Sizes
eight = record { external = 8; bridges = 1; processors = 4 }

says_spoken : (s : SoFar) (line : Line) (others : List (List ℕ)) (told : Said) → Fits line → s.sizes ≡ Some eight → words (line_text line) ≡ first_of line ∷ others
    → by_kind s 8 (kind_of (first_of line)) others ≡ Ok told → joins trace_limits s told ≡ Ok told → says trace_limits s (line_text line) ≡ Ok told
says_spoken s line others told fits known cut kind joined =
    says_both trace_limits s (line_text line) told (reads_by_kind s eight (line_text line) (first_of line) others known (no_comment line) cut (line_prints line fits) ∙ kind) joined

event_joins : (s : SoFar) (e : Event) → s.events + 1 ≤ 65535 → joins trace_limits s (said.Happens e) ≡ Ok (said.Happens e)
event_joins s e few = let room = lt-ltb s.events 65535 (omega arith) in rw room refl

-- ---- nails

nail_given : (external : ℕ) (x y : List ℕ) (one other : Slot) → slot external x ≡ Some one → slot external y ≡ Some other → same_slot one other ≡ false
    → nail external (x ∷ y ∷ []) ≡ Ok (event.Nail one other)
nail_given external x y one other a b c = rw (a, b, c) refl

slots_apart : (one other place : ℕ) → one ≢ other → same_slot (slot_at one place) (slot_at other place) ≡ false
slots_apart one other place ne = rw (ne_eqb one other ne) refl

nail_says : (s : SoFar) (one other place : ℕ) → FitsNail one other place → s.sizes ≡ Some eight → s.events + 1 ≤ 65535
    → says trace_limits s (line_text (Nail one other place)) ≡ Ok (said_by (Nail one other place))
nail_says s one other place fits known few =
    let least = fits.place_is.0 in
    let here = fits.place_is.1 in
    let low : one < 8 = omega (arith, fits.one_is) in
    let apart : one ≢ other = λ same. omega (arith, fits.one_is, fits.other_is.0, same) in
    says_spoken s (Nail one other place) (others_of (Nail one other place)) (said_by (Nail one other place)) fits known
    (line_words (Nail one other place) (slot_word one place low least here, (slot_word other place fits.other_is.1 least here, tt)))
    (ap happens (nail_given 8 (slot_text one place) (slot_text other place) (slot_at one place) (slot_at other place) (slot_read one place low least here) (slot_read other place fits.other_is.1 least here) (slots_apart one other place apart)))
    (event_joins s (event.Nail (slot_at one place) (slot_at other place)) few)

-- ---- messages

message_given : (external : ℕ) (word digits : List ℕ) (line : ℕ) (octets : List ℕ) → external_line external word ≡ Some line → octets_written digits ≡ Some octets → nat_le (length octets) 260 ≡ true
    → message external (word ∷ digits ∷ []) ≡ Ok (event.Message line octets)
message_given external word digits line octets a b c = rw (a, b, c) refl

empty_message_given : (external : ℕ) (word : List ℕ) (line : ℕ) → external_line external word ≡ Some line → message external (word ∷ []) ≡ Ok (event.Message line [])
empty_message_given external word line a = rw a refl

message_says : (s : SoFar) (line : ℕ) (octets : List ℕ) → FitsMessage line octets → s.sizes ≡ Some eight → s.events + 1 ≤ 65535
    → says trace_limits s (line_text (Message line octets)) ≡ Ok (said_by (Message line octets))
message_says s line [] fits known few =
    let word = digit_word line (omega (arith, fits.line_is)) in
    let none : others_of (Message line []) ≡ decimal line ∷ [] ∷ [] = ap (λ (digits : List ℕ). decimal line ∷ digits ∷ []) no_octets in
    says_spoken s (Message line []) (decimal line ∷ []) (said_by (Message line [])) fits known
    (ap words (line_spelled (Message line [])) ∙ ap (λ (others : List (List ℕ)). words (codes "M" ++ spaced others)) none ∙ words_before_space (codes "M") (decimal line) (first_is (Message line [])) word)
    (ap happens (empty_message_given 8 (decimal line) line (line_read line fits.line_is)))
    (event_joins s (event.Message line []) few)
message_says s line (octet ∷ octets) fits known few =
    let word = digit_word line (omega (arith, fits.line_is)) in
    says_spoken s (Message line (octet ∷ octets)) (others_of (Message line (octet ∷ octets))) (said_by (Message line (octet ∷ octets))) fits known
    (line_words (Message line (octet ∷ octets)) (word, (octets_word octet octets fits.each, tt)))
    (ap happens (message_given 8 (decimal line) (encode_upper (octet ∷ octets)) line (octet ∷ octets) (line_read line fits.line_is) (octets_read (octet ∷ octets) fits.each) (le-leb (length (octet ∷ octets)) 260 (omega (arith, fits.most)))))
    (event_joins s (event.Message line (octet ∷ octets)) few)

-- ---- frames

thirty_given : (digits octets : List ℕ) → octets_written digits ≡ Some octets → length octets ≡ 30 → thirty (octets_written digits) ≡ Ok octets
thirty_given digits octets written long = rw (written, long) refl

part_read : (given : Input) (part : Part) → FitsPart part → is_some (get_or given part.line None) ≡ false → with_part 8 given (part_word part) ≡ Ok (with_octets given part)
part_read given part fits free =
    let small : part.line < 10 = omega (arith, fits.line_is) in
    let read = rw (decimal_digit part.line) at (line_read part.line fits.line_is) in
    rw (decimal_digit part.line) (part_given 8 given ((48 + part.line) ∷ 58 ∷ encode_upper part.octets) ((48 + part.line) ∷ [], encode_upper part.octets) part.line part.octets
    (cut_second 58 (48 + part.line) (encode_upper part.octets) (no_colon part.line fits.line_is)) read free
    (thirty_given (encode_upper part.octets) part.octets (octets_read part.octets fits.each) fits.thirty))

abbrev idle_lines : Input
idle_lines = replicate 8 None

none_given : (line : ℕ) → line < 8 → get_or idle_lines line None ≡ None
none_given line within = get_or-replicate 8 line None None within

still_idle : (one other : ℕ) (octets : List ℕ) → other < 8 → other ≢ one → get_or (set idle_lines one (Some octets)) other None ≡ None
still_idle one other octets within apart = get_or-set_other idle_lines one other (Some octets) None apart ∙ none_given other within

parts_read : (parts : List Part) → FitsParts parts → with_parts 8 idle_lines (map part_word parts) ≡ Ok (input_of parts)
parts_read [] fits = absurd fits
parts_read (one ∷ []) fits = rw (part_read idle_lines one fits (ap is_some (none_given one.line fits.line_is))) refl
parts_read (one ∷ other ∷ []) fits =
    rw (
      part_read idle_lines one fits.0 (ap is_some (none_given one.line fits.0.line_is)),
      part_read (with_octets idle_lines one) other fits.1 (ap is_some (still_idle one.line other.line one.octets fits.1.line_is fits.2)),
    ) refl
parts_read (one ∷ other ∷ third ∷ parts) fits = absurd fits

frame_given : (external : ℕ) (others : List (List ℕ)) (input : Input) → with_parts external (replicate external None) others ≡ Ok input → frame external others ≡ Ok (event.Frame input)
frame_given external others input read = rw read refl

part_is : (part : Part) → FitsPart part → IsWord (part_word part)
part_is part fits =
    let small : part.line < 10 = omega (arith, fits.line_is) in
    let digit = digit_word part.line small in
    record {
      solid = list_all-append is_solid (decimal part.line) (58 ∷ encode_upper part.octets) ∙ (let front = digit.solid in let back = octets_solid part.octets fits.each in rw (front, back) refl);
      filled = rw (decimal_digit part.line) refl;
    }

parts_are : (parts : List Part) → FitsParts parts → AllByRecursion IsWord (map part_word parts)
parts_are [] fits = absurd fits
parts_are (one ∷ []) fits = (part_is one fits, tt)
parts_are (one ∷ other ∷ []) fits = (part_is one fits.0, (part_is other fits.1, tt))
parts_are (one ∷ other ∷ third ∷ parts) fits = absurd fits

frame_says : (s : SoFar) (parts : List Part) → FitsParts parts → s.sizes ≡ Some eight → s.events + 1 ≤ 65535
    → says trace_limits s (line_text (Frame parts)) ≡ Ok (said_by (Frame parts))
frame_says s parts fits known few =
    says_spoken s (Frame parts) (map part_word parts) (said_by (Frame parts)) fits known (line_words (Frame parts) (parts_are parts fits))
    (ap happens (frame_given 8 (map part_word parts) (input_of parts) (parts_read parts fits)))
    (event_joins s (event.Frame (input_of parts)) few)

-- ---- ends of segments

sync_says : (s : SoFar) → s.sizes ≡ Some eight → says trace_limits s (line_text Sync) ≡ Ok (said_by Sync)
sync_says s known = says_both trace_limits s (codes "sync") said.Sync (reads_sync s eight (codes "sync") known refl) refl

-- ---- any line behind the numbers

-- the line is an event or the end of a segment
abbrev pub is_running : Line → Bool
is_running (Header external bridges processors) = false
is_running (ToLine number line) = false
is_running (ToRoom number room) = false
is_running (Nail one other place) = true
is_running (Message line octets) = true
is_running (Frame parts) = true
is_running Sync = true

pub running_says : (s : SoFar) (line : Line) → Fits line → is_running line ≡ true → s.sizes ≡ Some eight → s.events + (if is_event line then 1 else 0) ≤ 65535
    → says trace_limits s (line_text line) ≡ Ok (said_by line)
running_says s (Header external bridges processors) fits runs known few = absurd cc
running_says s (ToLine number line) fits runs known few = absurd cc
running_says s (ToRoom number room) fits runs known few = absurd cc
running_says s (Nail one other place) fits runs known few = nail_says s one other place fits known few
running_says s (Message line octets) fits runs known few = message_says s line octets fits known few
running_says s (Frame parts) fits runs known few = frame_says s parts fits known few
running_says s Sync fits runs known few = sync_says s known

-- ---- the header and the numbers

says_header_given : (s : SoFar) (line first : List ℕ) (others : List (List ℕ)) (sizes : Sizes) → s.sizes ≡ None → is_comment line ≡ false → words line ≡ first ∷ others → header (first ∷ others) ≡ Some sizes
    → says trace_limits s line ≡ Ok (said.Header sizes)
says_header_given s line first others sizes none a b c = rw (a, b, none, b, c) refl

pub header_says : (s : SoFar) → s.sizes ≡ None → says trace_limits s (line_text (Header 8 1 4)) ≡ Ok (said_by (Header 8 1 4))
header_says s none =
    let external : 8 < 10 = omega arith in
    let bridges : 1 < 10 = omega arith in
    let processors : 4 < 10 = omega arith in
    says_header_given s (line_text (Header 8 1 4)) (codes "exchange") (others_of (Header 8 1 4)) eight none refl
    (line_words (Header 8 1 4) (record { solid = refl; filled = refl }, (digit_word 8 external, (digit_word 1 bridges, (digit_word 4 processors, tt)))))
    (rw (decimal_digit 8, decimal_digit 1, decimal_digit 4) refl)

number_joins : (s : SoFar) (n : Number) → is_number_taken s.plan n.digits ≡ false → nat_eq (length s.plan) 256 ≡ false → joins trace_limits s (said.Numbered n) ≡ Ok (said.Numbered n)
number_joins s n free few = rw (free, few) refl

number_given : (s : SoFar) (reading : Result Number _) (n : Number) → s.events ≡ 0 → reading ≡ Ok n → before_events s (numbered reading) ≡ Ok (said.Numbered n)
number_given s reading n none read = rw (none, read) refl

to_line_given : (external : ℕ) (digits word : List ℕ) (line : ℕ) → is_number digits ≡ true → external_line external word ≡ Some line
    → number external (digits ∷ codes "line" ∷ word ∷ []) ≡ Ok (record { digits = digits; target = target.Line line })
to_line_given external digits word line a b = rw (a, b) refl

to_room_given : (external : ℕ) (digits word : List ℕ) (at : ℕ) → is_number digits ≡ true → room word ≡ Some at
    → number external (digits ∷ codes "room" ∷ word ∷ []) ≡ Ok (record { digits = digits; target = target.Room at })
to_room_given external digits word at a b = rw (a, b) refl

-- a number has room behind the lines so far
pub record HasRoom (s : SoFar) (digits : List ℕ) : Type 0 where
  pub known : s.sizes ≡ Some eight
  pub early : s.events ≡ 0
  pub is : is_number digits ≡ true
  pub free : is_number_taken s.plan digits ≡ false
  pub few : nat_eq (length s.plan) 256 ≡ false

pub to_line_says : (s : SoFar) (digits : List ℕ) (line : ℕ) → Fits (ToLine digits line) → HasRoom s digits → says trace_limits s (line_text (ToLine digits line)) ≡ Ok (said_by (ToLine digits line))
to_line_says s digits line fits has =
    says_spoken s (ToLine digits line) (others_of (ToLine digits line)) (said_by (ToLine digits line)) fits has.known
    (line_words (ToLine digits line) (number_word digits fits.0.each fits.0.some, (record { solid = refl; filled = refl }, (digit_word line (omega (arith, fits.1)), tt))))
    (number_given s _ (record { digits = digits; target = target.Line line }) has.early (to_line_given 8 digits (decimal line) line has.is (line_read line fits.1)))
    (number_joins s (record { digits = digits; target = target.Line line }) has.free has.few)

pub to_room_says : (s : SoFar) (digits : List ℕ) → Fits (ToRoom digits 0) → HasRoom s digits → says trace_limits s (line_text (ToRoom digits 0)) ≡ Ok (said_by (ToRoom digits 0))
to_room_says s digits fits has =
    let none : 0 < 10 = omega arith in
    let first : room (decimal 0) ≡ Some 0 = rw (decimal_digit 0) refl in
    says_spoken s (ToRoom digits 0) (others_of (ToRoom digits 0)) (said_by (ToRoom digits 0)) fits has.known
    (line_words (ToRoom digits 0) (number_word digits fits.0.each fits.0.some, (record { solid = refl; filled = refl }, (digit_word 0 none, tt))))
    (number_given s _ (record { digits = digits; target = target.Room 0 }) has.early (to_room_given 8 digits (decimal 0) 0 has.is first))
    (number_joins s (record { digits = digits; target = target.Room 0 }) has.free has.few)
