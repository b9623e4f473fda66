-- Lines in turn: their contents, and what each can say.
use Rattle.std.proofs.Common.{◌≡◌, ℕ, suc, ◌+◌, ◌<◌, ◌≤◌, nat_lt, nat_le, nat_eq, List, [], ◌∷◌, ◌++◌, length, Option, Some, None, ok_or, Result, Ok, Err, refl, sym, ap, subst, arith, inl, inr, if◌then◌else◌, append_assoc, append-nil, length-append, All}
use Rattle.std.specs.Prelude.{IfSome}
use Rattle.std.specs.List.{list_all}
use Rattle.std.proofs.lemmas.Bool.{ltb-true, ltb-false, lt-ltb, le-ltb, eqb-true}
use Rattle.circuit_model.proofs.Slots.{true_or_false}
use Rattle.number_plan.specs.Plan.{is_listed}
use Rattle.trace_text.specs.declared.fault.Reason.{Reason}
use Rattle.trace_text.specs.declared.fault.Reason.TheVariants as reason
use Rattle.trace_text.specs.declared.said.Sizes.{Sizes}
use Rattle.trace_text.specs.TraceFields.{at_most, external_line, octets_written}
use Rattle.trace_text.specs.TraceLines.{line_limits, says, ◌>>=◌}
use Rattle.trace_text.specs.TraceWords.{is_printable, one_or_two, words}
use Rattle.trace_text.proofs.SoundLemmas.{IsFine, passed_first}
use Rattle.trace_text.proofs.TraceOctets.{are_octets}
use Rattle.linked_text.specs.declared.said.LinkKind.{LinkKind}
use Rattle.linked_text.specs.declared.said.LinkKind.TheVariants as kind
use Rattle.linked_text.specs.declared.said.LinkSaid.{LinkSaid}
use Rattle.linked_text.specs.declared.said.LinkSaid.TheVariants.{Linked, Received, Timed as Link_timed}
use Rattle.linked_text.specs.declared.timing.GivenLinkTimer.{GivenLinkTimer}
use Rattle.linked_text.specs.LinkEffects.{in_turn}
use Rattle.linked_text.specs.LinkLines.{Content, LinkSoFar, On_link, Plain, before_first, by_header, by_link_kind, by_link_words, found, joins_link, link, link_kind_of, link_said, link_timer, linked_line, max_received_len, names_link_timer, names_linked, received, says_by, says_in_turn, timed_line}
use Rattle.linked_exchange.specs.InTurn.{EachInTurn, follows_in_turn}
use Rattle.linked_exchange.proofs.PlacedLines.{IsKnown}
use Rattle.linked_exchange.proofs.SaidLines.{says_line}
use Rattle.linked_exchange.proofs.TurnSteps.{IsTurnPlaced}

-- ---- one line

pub follows_as : (told : List Content) (line : List ℕ) → length line ≤ 65535 → length told < 4294967294 → follows_in_turn told line ≡ says_in_turn line_limits (in_turn told) line
follows_as told line short few = rw (le-ltb 65535 (length line) short, lt-ltb (length told) 4294967294 few) refl

pub follows_long : (told : List Content) (line : List ℕ) → 65535 < length line → follows_in_turn told line ≡ Err reason.Limit
follows_long told line long = rw (lt-ltb 65535 (length line) long) refl

pub follows_many : (told : List Content) (line : List ℕ) → 4294967294 ≤ length told → follows_in_turn told line ≡ Err reason.Limit
follows_many told line many =
    elim (true_or_false (nat_lt 65535 (length line))) [
      | inl long ↦ rw long refl
      | inr short ↦ rw (short, le-ltb (length told) 4294967294 many) refl
    ]

pub record IsFollowingTurn (told : List Content) (line : List ℕ) (c : Content) : Type 0 where
  pub short : length line ≤ 65535
  pub few : length told < 4294967294
  pub says_so : says_in_turn line_limits (in_turn told) line ≡ Ok c

pub follows_turn : (told : List Content) (line : List ℕ) (c : Content) → follows_in_turn told line ≡ Ok c → IsFollowingTurn told line c
follows_turn told line c h =
    elim (true_or_false (nat_lt 65535 (length line))) [
      | inl long ↦ let failed = rw long at h in absurd (grind (arith, failed))
      | inr short ↦ elim (true_or_false (nat_lt (length told) 4294967294)) [
        | inl few ↦ record { short = ltb-false 65535 (length line) short; few = ltb-true (length told) 4294967294 few; says_so = rw (short, few) at h }
        | inr many ↦ let failed = rw (short, many) at h in absurd (grind (arith, failed))
      ]
    ]

-- ---- several lines

pub each_push : (before told : List Content) (front : List (List ℕ)) (line : List ℕ) (c : Content)
    → EachInTurn before front told → follows_in_turn (before ++ told) line ≡ Ok c → EachInTurn before (front ++ line ∷ []) (told ++ c ∷ [])
each_push before [] [] line c meets e = (rw (append-nil before) at e, tt)
each_push before (other ∷ told) [] line c meets e = absurd meets
each_push before [] (first ∷ front) line c meets e = absurd meets
each_push before (other ∷ told) (first ∷ front) line c meets e =
    (meets.0, each_push (before ++ other ∷ []) told front line c meets.1 (rw (sym (append_assoc before (other ∷ []) told)) at e))

pub each_length : (before told : List Content) (rows : List (List ℕ)) → EachInTurn before rows told → length told ≡ length rows
each_length before [] [] meets = refl
each_length before (c ∷ told) [] meets = absurd meets
each_length before [] (row ∷ rows) meets = absurd meets
each_length before (c ∷ told) (row ∷ rows) meets = ap suc (each_length (before ++ c ∷ []) told rows meets.1)

pub each_few : (before told : List Content) (rows : List (List ℕ)) → EachInTurn before rows told → length before ≤ 4294967294 → length before + length rows ≤ 4294967294
each_few before [] [] meets few = omega (arith, few)
each_few before (c ∷ told) [] meets few = absurd meets
each_few before [] (row ∷ rows) meets few = absurd meets
each_few before (c ∷ told) (row ∷ rows) meets few =
    let here = (follows_turn before row c meets.0).few in
    let long = length-append before (c ∷ []) in
    let rest = each_few (before ++ c ∷ []) told rows meets.1 (omega (arith, here, long)) in
    omega (arith, rest, long)

-- ---- a line that concerns a link

none_before : {A : Type 0} (k : LinkSoFar) (r : Result A Reason) (v : A) → before_first k r ≡ Ok v → (k.plain.events ≡ 0) × (r ≡ Ok v)
none_before k r v h =
    elim (true_or_false (nat_eq k.plain.events 0)) [
      | inl none ↦ (eqb-true k.plain.events 0 none, rw none at h)
      | inr some ↦ let failed = rw some at h in absurd (grind (arith, failed))
    ]

found_is : (r : Result LinkSaid Reason) (said : LinkSaid) → found r ≡ Ok (Some said) → r ≡ Ok said
found_is (Ok x) said h = grind (arith, h)
found_is (Err why) said h = absurd (grind (arith, h))

linked_is : (k : LinkSoFar) (r : Result ℕ Reason) (said : LinkSaid) → IsKnown k.plain → k.plain.events ≡ 0 → linked_line r ≡ Ok said → IsTurnPlaced k (On_link said)
linked_is k (Err why) said known none h = absurd (grind (arith, h))
linked_is k (Ok line) said known none h = let is : Linked line ≡ said = grind (arith, h) in subst (λ (v : LinkSaid). IsTurnPlaced k (On_link v)) is (known, none)

timed_is : (k : LinkSoFar) (r : Result GivenLinkTimer Reason) (said : LinkSaid) → k.plain.events ≡ 0 → timed_line r ≡ Ok said → IsTurnPlaced k (On_link said)
timed_is k (Err why) said none h = absurd (grind (arith, h))
timed_is k (Ok given) said none h = let is : Link_timed given ≡ said = grind (arith, h) in subst (λ (v : LinkSaid). IsTurnPlaced k (On_link v)) is none

-- the steps by which two words give a received frame
abbrev received_octets : ℕ → List ℕ → Result LinkSaid Reason
received_octets line word = at_most max_received_len (octets_written word) >>= λ octets. Ok (Received line octets)

abbrev received_line : List ℕ → List ℕ → ℕ → Result LinkSaid Reason
received_line linked word line = (if is_listed line linked then Ok line else Err reason.Slot) >>= λ known. received_octets line word

abbrev received_words : ℕ → List ℕ → List ℕ × List ℕ → Result LinkSaid Reason
received_words external linked both = ok_or (external_line external both.0) reason.Slot >>= received_line linked both.1

octets_few : (o : Option (List ℕ)) (octets : List ℕ) → IfSome o (λ os. All (λ v. v < 256) os) → at_most max_received_len o ≡ Ok octets → All (λ v. v < 256) octets
octets_few None octets small h = absurd (grind (arith, h))
octets_few (Some os) octets small h =
    elim (true_or_false (nat_le (length os) 265)) [
      | inl few ↦ let ok = rw few at h in let same : os ≡ octets = grind (arith, ok) in subst (λ v. All (λ w. w < 256) v) same small
      | inr many ↦ let failed = rw many at h in absurd (grind (arith, failed))
    ]

received_is : (k : LinkSoFar) (external : ℕ) (others : List (List ℕ)) (said : LinkSaid) → IsKnown k.plain → received external k.linked others ≡ Ok said → IsTurnPlaced k (On_link said)
received_is k external others said known h =
    let both = passed_first (ok_or (one_or_two others) reason.Word) (received_words external k.linked) said h in
    let line = passed_first (ok_or (external_line external both.0.0) reason.Slot) (received_line k.linked both.0.1) said both.2 in
    elim (true_or_false (is_listed line.0 k.linked)) [
      | inr other ↦ let failed = rw other at line.2 in absurd (grind (arith, failed))
      | inl listed ↦
          let ok : received_octets line.0 both.0.1 ≡ Ok said = rw listed at line.2 in
          let octets = passed_first (at_most max_received_len (octets_written both.0.1)) (λ octets. Ok (Received line.0 octets)) said ok in
          let is : Received line.0 octets.0 ≡ said = grind (arith, octets.2) in
          subst (λ (v : LinkSaid). IsTurnPlaced k (On_link v)) is (known, listed, octets_few (octets_written both.0.1) octets.0 (are_octets both.0.1) octets.1)
    ]

kind_placed : (k : LinkSoFar) (z : Sizes) (kind : LinkKind) (others : List (List ℕ)) (said : LinkSaid) → k.plain.sizes ≡ Some z → by_link_kind k z.external kind others ≡ Ok (Some said) → IsTurnPlaced k (On_link said)
kind_placed k z kind.Received others said known h = received_is k z.external others said (z, known) (found_is (received z.external k.linked others) said h)
kind_placed k z kind.Link others said known h =
    let first = none_before k (linked_line (link z.external k.linked others)) said (found_is (before_first k (linked_line (link z.external k.linked others))) said h) in
    linked_is k (link z.external k.linked others) said (z, known) first.0 first.1
kind_placed k z kind.Timer others said known h =
    elim (true_or_false (names_link_timer others)) [
      | inr other ↦ let failed = rw other at h in absurd (grind (arith, failed))
      | inl named ↦
          let is = rw named at h in
          let first = none_before k (timed_line (link_timer k.timers others)) said (found_is (before_first k (timed_line (link_timer k.timers others))) said is) in
          timed_is k (link_timer k.timers others) said first.0 first.1
    ]
kind_placed k z kind.Direct others said known h =
    elim (true_or_false (names_linked z.external k.linked others)) [
      | inl named ↦ let failed = rw named at h in absurd (grind (arith, failed))
      | inr other ↦ let failed = rw other at h in absurd (grind (arith, failed))
    ]
kind_placed k z kind.Other others said known h = absurd (grind (arith, h))

words_placed : (k : LinkSoFar) (z : Sizes) (fields : List (List ℕ)) (said : LinkSaid) → k.plain.sizes ≡ Some z → by_link_words k z.external fields ≡ Ok (Some said) → IsTurnPlaced k (On_link said)
words_placed k z [] said known h = absurd (grind (arith, h))
words_placed k z (first ∷ others) said known h = kind_placed k z (link_kind_of first) others said known h

header_placed : (k : LinkSoFar) (o : Option Sizes) (line : List ℕ) (said : LinkSaid) → k.plain.sizes ≡ o → by_header k o line ≡ Ok (Some said) → IsTurnPlaced k (On_link said)
header_placed k None line said known h = absurd (grind (arith, h))
header_placed k (Some z) line said known h =
    elim (true_or_false (list_all is_printable line)) [
      | inr other ↦ let failed = rw other at h in absurd (grind (arith, failed))
      | inl text ↦ words_placed k z (words line) said known (rw text at h)
    ]

joined_is : (k : LinkSoFar) (said other : LinkSaid) → joins_link line_limits k said ≡ Ok other → said ≡ other
joined_is k (Linked line) other h =
    elim (true_or_false (nat_eq (length k.linked) 32)) [
      | inl full ↦ let failed = rw full at h in absurd (grind (arith, failed))
      | inr more ↦ let ok = rw more at h in grind (arith, ok)
    ]
joined_is k (Received line octets) other h =
    elim (true_or_false (nat_lt k.plain.events 4294967295)) [
      | inl few ↦ let ok = rw few at h in grind (arith, ok)
      | inr many ↦ let failed = rw many at h in absurd (grind (arith, failed))
    ]
joined_is k (Link_timed given) other h = grind (arith, h)

-- ---- what the checks of a line give

-- the content of a line of a trace without links keeps its properties
abbrev pub IsTurnFine : LinkSoFar → Content → Type 0
IsTurnFine k (Plain said) = IsFine k.plain said
IsTurnFine k (On_link said) = Unit {0}

pub record IsTurnLine (k : LinkSoFar) (c : Content) : Type 0 where
  pub fine : IsTurnFine k c
  pub placed : IsTurnPlaced k c

by_found : (k : LinkSoFar) (line : List ℕ) (o : Option LinkSaid) (c : Content) → link_said k line ≡ Ok o → says_by line_limits k line o ≡ Ok c → IsTurnLine k c
by_found k line None c linked h =
    let first = passed_first (says line_limits k.plain line) (λ said. Ok (Plain said)) c h in
    let is : Plain first.0 ≡ c = grind (arith, first.2) in
    let line_is = says_line k.plain line first.0 first.1 in
    subst (IsTurnLine k) is (record { fine = line_is.fine; placed = line_is.placed })
by_found k line (Some said) c linked h =
    let first = passed_first (joins_link line_limits k said) (λ joined. Ok (On_link joined)) c h in
    let is : On_link first.0 ≡ c = grind (arith, first.2) in
    let same : said ≡ first.0 = joined_is k said first.0 first.1 in
    subst (IsTurnLine k) is (record { fine = tt; placed = subst (λ (v : LinkSaid). IsTurnPlaced k (On_link v)) same (header_placed k k.plain.sizes line said refl linked) })

pub turn_line : (k : LinkSoFar) (line : List ℕ) (c : Content) → says_in_turn line_limits k line ≡ Ok c → IsTurnLine k c
turn_line k line c h =
    let first = passed_first (link_said k line) (says_by line_limits k line) c h in
    by_found k line first.0 c first.1 first.2
