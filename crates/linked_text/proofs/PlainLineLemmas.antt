-- A line of a trace without data links, where no line has one.
use Rattle.std.proofs.lemmas.Bool.{eqb-true}
use Rattle.std.proofs.Common.{◌≡◌, ℕ, true, false, eqb, List, [], ◌∷◌, Option, Some, None, Ok, inl, inr, refl, sym, ap, ◌∙◌, subst, arith}
use Rattle.std.specs.Prelude.{codes, map, is_some}
use Rattle.std.specs.List.{list_all}
use Rattle.std.specs.Str.{bytes_eq}
use Rattle.std.specs.Cmp.Lexicographic.{bytes_decides}
use Rattle.trace_text.specs.declared.limits.Limits.{Limits}
use Rattle.trace_text.specs.declared.said.LineKind.TheVariants as plain
use Rattle.trace_text.specs.declared.said.Said.{Said}
use Rattle.trace_text.specs.declared.said.Sizes.{Sizes}
use Rattle.trace_text.specs.TraceGrammar.{so_far}
use Rattle.trace_text.specs.TraceLines.{SoFar, by_kind, joins, kind_of, reads, says}
use Rattle.trace_text.specs.TraceTimers.{timer_named}
use Rattle.trace_text.specs.TraceWords.{is_comment, is_printable, words}
use Rattle.trace_text.proofs.SoundLemmas.{passed_first}
use Rattle.trace_text.proofs.TraceParts.{reads_by_kind}
use Rattle.linked_text.specs.declared.said.LinkKind.TheVariants as kind
use Rattle.linked_text.specs.LinkLines.{LinkSoFar, Plain, by_header, by_link_kind, by_link_words, link_kind_of, link_said, says_in_turn}
use Rattle.linked_text.specs.LinkEffects.{in_turn, linked_in, plain_told}
use Rattle.linked_text.specs.LinkTimers.{link_timer_named}
use Rattle.linked_text.proofs.LinkLineLemmas.{none_named, plain_line, true_or_false}

-- ---- the lines so far

pub same_plain : (told : List Said) → plain_told (map Plain told) ≡ told
same_plain [] = refl
same_plain (said ∷ told) = ap (λ others. said ∷ others) (same_plain told)

pub so_far_plain : (told : List Said) → (in_turn (map Plain told)).plain ≡ so_far told
so_far_plain told = ap so_far (same_plain told)

pub unlinked_plain : (told : List Said) → linked_in (map Plain told) ≡ []
unlinked_plain [] = refl
unlinked_plain (said ∷ told) = unlinked_plain told

-- ---- one line

same_bytes : (word name : List ℕ) → bytes_eq word name ≡ true → word ≡ name
same_bytes word name e = (bytes_decides word name).0 e

module _ (k : SoFar) (external : ℕ) (others : List (List ℕ)) (said : Said) where
  -- no line of a trace without data links has one of these first fields
  abbrev Reads : List ℕ → Type 0
  Reads first = by_kind k external (kind_of first) others ≡ Ok said

  no_frame : Reads (codes "L") → ⊥
  no_frame read = grind (arith, read)

  no_link : Reads (codes "link") → ⊥
  no_link read = grind (arith, read)

-- a timer of the links is not a timer of calls
no_timer : (k : SoFar) (external : ℕ) (name : List ℕ) (others : List (List ℕ)) (said : Said) → timer_named name ≡ None → by_kind k external plain.Timer (name ∷ others) ≡ Ok said → ⊥
no_timer k external name [] said none read = elim (true_or_false (eqb k.events 0)) [ inl y ↦ grind (arith, rw y at read) | inr n ↦ grind (arith, rw n at read) ]
no_timer k external name (frames ∷ []) said none read =
    elim (true_or_false (eqb k.events 0)) [ inl y ↦ let failed = rw (y, none) at read in grind (arith, failed) | inr n ↦ let failed = rw n at read in grind (arith, failed) ]
no_timer k external name (frames ∷ more ∷ others) said none read =
    elim (true_or_false (eqb k.events 0)) [ inl y ↦ let failed = rw y at read in grind (arith, failed) | inr n ↦ let failed = rw n at read in grind (arith, failed) ]

link_timer_name : (name : List ℕ) → is_some (link_timer_named name) ≡ true → timer_named name ≡ None
link_timer_name name some =
    elim (true_or_false (bytes_eq name (codes "T200"))) [
      | inl y ↦ rw (same_bytes name (codes "T200") y) refl
      | inr n ↦ elim (true_or_false (bytes_eq name (codes "T203"))) [
        | inl y ↦ rw (same_bytes name (codes "T203") y) refl
        | inr m ↦ let failed = rw (n, m) at some in absurd (grind (arith, failed))
      ]
    ]

timer_line : (k : LinkSoFar) (external : ℕ) (others : List (List ℕ)) (said : Said) → by_kind k.plain external plain.Timer others ≡ Ok said → by_link_kind k external kind.Timer others ≡ Ok None
timer_line k external [] said read = refl
timer_line k external (name ∷ others) said read =
    elim (true_or_false (is_some (link_timer_named name))) [
      | inl y ↦ absurd (no_timer k.plain external name others said (link_timer_name name y) read)
      | inr n ↦ rw n refl
    ]

direct_line : (k : LinkSoFar) (external : ℕ) (others : List (List ℕ)) → k.linked ≡ [] → by_link_kind k external kind.Direct others ≡ Ok None
direct_line k external others none = rw (none, none_named external others) refl

by_first : (k : LinkSoFar) (external : ℕ) (first : List ℕ) (others : List (List ℕ)) (said : Said) → k.linked ≡ [] → by_kind k.plain external (kind_of first) others ≡ Ok said
    → by_link_kind k external (link_kind_of first) others ≡ Ok None
by_first k external first others said none read =
    elim (true_or_false (bytes_eq first (codes "L"))) [
      | inl y ↦ absurd (no_frame k.plain external others said (subst (Reads k.plain external others said) (same_bytes first (codes "L") y) read))
      | inr a ↦ elim (true_or_false (bytes_eq first (codes "link"))) [
        | inl y ↦ absurd (no_link k.plain external others said (subst (Reads k.plain external others said) (same_bytes first (codes "link") y) read))
        | inr b ↦ elim (true_or_false (bytes_eq first (codes "timer"))) [
          | inl y ↦ rw (a, b, y) (timer_line k external others said (subst (Reads k.plain external others said) (same_bytes first (codes "timer") y) read))
          | inr c ↦ elim (true_or_false (bytes_eq first (codes "M"))) [
            | inl y ↦ rw (a, b, c, y) (direct_line k external others none)
            | inr d ↦ elim (true_or_false (bytes_eq first (codes "up"))) [
              | inl y ↦ rw (a, b, c, d, y) (direct_line k external others none)
              | inr e ↦ elim (true_or_false (bytes_eq first (codes "down"))) [
                | inl y ↦ rw (a, b, c, d, e, y) (direct_line k external others none)
                | inr f ↦ rw (a, b, c, d, e, f) refl
              ]
            ]
          ]
        ]
      ]
    ]

-- a comment has no first field of a line about a data link
comment_line : (k : LinkSoFar) (line : List ℕ) → is_comment line ≡ true → link_said k line ≡ Ok None
comment_line k [] is = absurd (grind (arith, is))
comment_line k (x ∷ xs) is = let same : x ≡ 35 = eqb-true x 35 is in rw same (plain_line k 35 xs refl)

by_fields : (k : LinkSoFar) (z : Sizes) (line : List ℕ) (said : Said) (fields : List (List ℕ)) → words line ≡ fields → k.linked ≡ [] → k.plain.sizes ≡ Some z → is_comment line ≡ false
    → list_all is_printable line ≡ true → reads k.plain line ≡ Ok said → by_link_words k z.external fields ≡ Ok None
by_fields k z line said [] are none known comment text read = refl
by_fields k z line said (first ∷ others) are none known comment text read =
    by_first k z.external first others said none (sym (reads_by_kind k.plain z line first others known comment are text) ∙ read)

by_sizes : (k : LinkSoFar) (line : List ℕ) (said : Said) (sizes : Option Sizes) → k.plain.sizes ≡ sizes → k.linked ≡ [] → is_comment line ≡ false → reads k.plain line ≡ Ok said
    → by_header k sizes line ≡ Ok None
by_sizes k line said None known none comment read = refl
by_sizes k line said (Some z) known none comment read =
    elim (true_or_false (list_all is_printable line)) [
      | inl text ↦ rw text (by_fields k z line said (words line) refl none known comment text read)
      | inr other ↦ rw other refl
    ]

unlinked_line : (k : LinkSoFar) (line : List ℕ) (said : Said) → k.linked ≡ [] → reads k.plain line ≡ Ok said → link_said k line ≡ Ok None
unlinked_line k line said none read =
    elim (true_or_false (is_comment line)) [
      | inl y ↦ comment_line k line y
      | inr n ↦ by_sizes k line said k.plain.sizes refl none n read
    ]

pub read_plainly : (limits : Limits) (k : LinkSoFar) (line : List ℕ) (said : Said) → k.linked ≡ [] → says limits k.plain line ≡ Ok said → says_in_turn limits k line ≡ Ok (Plain said)
read_plainly limits k line said none read =
    let first = passed_first (reads k.plain line) (joins limits k.plain) said read in
    rw (unlinked_line k line first.0 none first.1, read) refl
