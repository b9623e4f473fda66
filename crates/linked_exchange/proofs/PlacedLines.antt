-- The place of a line: the header is first, numbers, tones and timers come before the first event, and what happens comes after the header.
use Rattle.std.proofs.Common.{◌≡◌, ℕ, nat_eq, List, [], ◌∷◌, Option, Some, None, ok_or, Result, Ok, Err, refl, arith, inl, inr, subst, ◌||◌}
use Rattle.std.specs.List.{list_all}
use Rattle.std.proofs.lemmas.Bool.{eqb-true}
use Rattle.circuit_model.proofs.Slots.{true_or_false}
use Rattle.exchange_events.specs.declared.trace.Event.{Event}
use Rattle.number_plan.specs.declared.plan.Number.{Number}
use Rattle.trace_text.specs.declared.fault.Reason.{Reason}
use Rattle.trace_text.specs.declared.fault.Reason.TheVariants as reason
use Rattle.trace_text.specs.declared.said.Sizes.{Sizes}
use Rattle.trace_text.specs.declared.said.LineKind.{LineKind}
use Rattle.trace_text.specs.declared.said.LineKind.TheVariants as kind
use Rattle.trace_text.specs.declared.said.GivenTone.{GivenTone}
use Rattle.trace_text.specs.declared.said.Said.{Said}
use Rattle.trace_text.specs.declared.said.Said.TheVariants.{Nothing, Header, Numbered, Toned, Timed, Happens, Sync, Change}
use Rattle.trace_text.specs.declared.timing.GivenTimer.{GivenTimer}
use Rattle.trace_text.specs.TraceFields.{header}
use Rattle.trace_text.specs.TraceWords.{words, is_blank, is_comment, is_printable}
use Rattle.trace_text.specs.TraceLines.{◌>>=◌, SoFar, alone, before_events, by_kind, by_place, by_words, frame, free, happens, kind_of, message, nail, number, numbered, reads, seat, timed, timer, tone, toned, link_up, link_down, restart}

-- the header was read
abbrev pub IsKnown : SoFar → Type 0
IsKnown s = (sizes : Sizes) × (s.sizes ≡ Some sizes)

abbrev pub IsPlaced : SoFar → Said → Type 0
IsPlaced s Nothing = Unit {0}
IsPlaced s (Header sizes) = s.sizes ≡ None
IsPlaced s (Numbered n) = s.events ≡ 0
IsPlaced s (Toned given) = s.events ≡ 0
IsPlaced s (Timed given) = s.events ≡ 0
IsPlaced s (Happens e) = IsKnown s
IsPlaced s Sync = Unit {0}
IsPlaced s Change = IsKnown s

event_placed : (s : SoFar) (r : Result Event Reason) (said : Said) → IsKnown s → happens r ≡ Ok said → IsPlaced s said
event_placed s (Err why) said known h = absurd (grind (arith, h))
event_placed s (Ok e) said known h = let is : Happens e ≡ said = grind (arith, h) in subst (IsPlaced s) is known

none_before : (s : SoFar) (r : Result Said Reason) (said : Said) → before_events s r ≡ Ok said → (s.events ≡ 0) × (r ≡ Ok said)
none_before s r said h =
    elim (true_or_false (nat_eq s.events 0)) [
      | inl none ↦ (eqb-true s.events 0 none, rw none at h)
      | inr some ↦ let failed = rw some at h in absurd (grind (arith, failed))
    ]

number_placed : (s : SoFar) (r : Result Number Reason) (said : Said) → s.events ≡ 0 → numbered r ≡ Ok said → IsPlaced s said
number_placed s (Err why) said none h = absurd (grind (arith, h))
number_placed s (Ok n) said none h = let is : Numbered n ≡ said = grind (arith, h) in subst (IsPlaced s) is none

tone_placed : (s : SoFar) (r : Result GivenTone Reason) (said : Said) → s.events ≡ 0 → toned r ≡ Ok said → IsPlaced s said
tone_placed s (Err why) said none h = absurd (grind (arith, h))
tone_placed s (Ok given) said none h = let is : Toned given ≡ said = grind (arith, h) in subst (IsPlaced s) is none

timer_placed : (s : SoFar) (r : Result GivenTimer Reason) (said : Said) → s.events ≡ 0 → timed r ≡ Ok said → IsPlaced s said
timer_placed s (Err why) said none h = absurd (grind (arith, h))
timer_placed s (Ok given) said none h = let is : Timed given ≡ said = grind (arith, h) in subst (IsPlaced s) is none

alone_placed : (s : SoFar) (one said : Said) (others : List (List ℕ)) → IsPlaced s one → alone one others ≡ Ok said → IsPlaced s said
alone_placed s one said [] placed h = let is : one ≡ said = grind (arith, h) in subst (IsPlaced s) is placed
alone_placed s one said (word ∷ others) placed h = absurd (grind (arith, h))

kind_placed : (s : SoFar) (external : ℕ) (k : LineKind) (others : List (List ℕ)) (said : Said) → IsKnown s → by_kind s external k others ≡ Ok said → IsPlaced s said
kind_placed s external kind.Frame others said known h = event_placed s (frame external others) said known h
kind_placed s external kind.Message others said known h = event_placed s (message external others) said known h
kind_placed s external kind.Nail others said known h = event_placed s (nail external others) said known h
kind_placed s external kind.Seat others said known h = event_placed s (seat external others) said known h
kind_placed s external kind.Free others said known h = event_placed s (free external others) said known h
kind_placed s external kind.LinkUp others said known h = event_placed s (link_up external others) said known h
kind_placed s external kind.LinkDown others said known h = event_placed s (link_down external others) said known h
kind_placed s external kind.RestartLine others said known h = event_placed s (restart external others) said known h
kind_placed s external kind.Number others said known h =
    let before = none_before s (numbered (number external others)) said h in number_placed s (number external others) said before.0 before.1
kind_placed s external kind.Tone others said known h =
    let before = none_before s (toned (tone s.tones others)) said h in tone_placed s (tone s.tones others) said before.0 before.1
kind_placed s external kind.Timer others said known h =
    let before = none_before s (timed (timer s.timers others)) said h in timer_placed s (timer s.timers others) said before.0 before.1
kind_placed s external kind.Sync others said known h = alone_placed s Sync said others tt h
kind_placed s external kind.Change others said known h = alone_placed s Change said others known h
kind_placed s external kind.Unknown others said known h = absurd (grind (arith, h))

words_placed : (s : SoFar) (external : ℕ) (line : List (List ℕ)) (said : Said) → IsKnown s → by_words s external line ≡ Ok said → IsPlaced s said
words_placed s external [] said known h = let is : Nothing ≡ said = grind (arith, h) in subst (IsPlaced s) is tt
words_placed s external (first ∷ others) said known h = kind_placed s external (kind_of first) others said known h

header_placed : (s : SoFar) (o : Option Sizes) (said : Said) → s.sizes ≡ None → (ok_or o reason.Header >>= λ sizes. Ok (Header sizes)) ≡ Ok said → IsPlaced s said
header_placed s None said none h = absurd (grind (arith, h))
header_placed s (Some sizes) said none h = let is : Header sizes ≡ said = grind (arith, h) in subst (IsPlaced s) is none

place_placed : (s : SoFar) (known : Option Sizes) (line : List ℕ) (said : Said) → s.sizes ≡ known → by_place s known line ≡ Ok said → IsPlaced s said
place_placed s None line said is h = header_placed s (header (words line)) said is h
place_placed s (Some sizes) line said is h =
    elim (true_or_false (list_all is_printable line)) [
      | inl printable ↦ words_placed s sizes.external (words line) said (sizes, is) (rw printable at h)
      | inr not_printable ↦ let failed = rw not_printable at h in absurd (grind (arith, failed))
    ]

pub reads_placed : (s : SoFar) (line : List ℕ) (said : Said) → reads s line ≡ Ok said → IsPlaced s said
reads_placed s line said h =
    elim (true_or_false (is_comment line || is_blank line)) [
      | inl passed_over ↦ let nothing = rw passed_over at h in let is : Nothing ≡ said = grind (arith, nothing) in subst (IsPlaced s) is tt
      | inr read ↦ place_placed s s.sizes line said refl (rw read at h)
    ]
