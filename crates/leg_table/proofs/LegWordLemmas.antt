-- The words that a look at a row of keys gives: places with a key, and call references that are used.
use Rattle.std.proofs.Common.{◌≡◌, ◌≢◌, ℕ, zero, suc, ◌+◌, ◌-◌, ◌*◌, ◌/◌, ◌%◌, ◌^◌, ◌<◌, ◌≤◌, true, false, List, Option, Some, None, refl, sym, ap, ◌∙◌, inl, inr, eq-eqb, arith}
use Rattle.std.specs.Prelude.{All, IfSome, bit_or, is_none, slice_index}
use Rattle.std.specs.Int.{bit_at, bit_not, trailing_zeros, w32}
use Rattle.std.proofs.lemmas.Bool.{cases_lt, cases_eq, ne_eqb}
use Rattle.std.proofs.lemmas.Nat.{or_lt}
use Rattle.std.proofs.lemmas.Nat.Bits.{bit_at-zero, bit_at-lt, bit_at_not, bit_at_set_same, bit_at_set_other, bit_at-trailing_zeros}
use Rattle.call_states.specs.declared.leg.Leg.{Leg}
use Rattle.call_states.specs.declared.leg.Side.{Side}
use Rattle.call_states.specs.declared.leg.Side.TheVariants.{Caller, Called}
use Rattle.call_states.specs.declared.leg.HeldLeg.{HeldLeg}
use Rattle.call_states.specs.Status.{FitsMessages}
use Rattle.call_profile.specs.Legs.{Legs, leg_named, is_unused, lowest_free_reference}
use Rattle.call_profile.proofs.LineLemmas.{unused_from, lowest_free_reference_unused_all, unused_end, unused_here, unused_other}
use Rattle.call_profile.proofs.VacantSlotLemmas.{none_named}
use Rattle.leg_table.specs.LegKeys.{key_by, key_of, leg_on, hit, Hits, IsFirstKey, IsRowOf, HasKey, LacksKey}
use Rattle.leg_table.proofs.LegKeyLemmas.{named_nowhere, FitsMessages_at}

hit_same : (key here : ℕ) → here ≡ key → hit key here ≡ 1
hit_same key here same = rw (eq-eqb here key same) refl

hit_other : (key here : ℕ) → here ≢ key → hit key here ≡ 0
hit_other key here apart = rw (ne_eqb here key apart) refl

hit_is : (key here : ℕ) → hit key here ≡ 1 → here ≡ key
hit_is key here e = elim (cases_eq here key) [
  | inl same ↦ same
  | inr apart ↦ absurd (omega (arith, e, hit_other key here apart))
]

hit_not : (key here : ℕ) → hit key here ≡ 0 → here ≢ key
hit_not key here e same = omega (arith, e, hit_same key here same)

-- ---- the places with a key

pub hits_none : (row : List ℕ) (key shift first : ℕ) → Hits row key shift first first 0
hits_none row key shift first = record {
  range = omega arith;
  found = λ place from near. absurd (omega (arith, from, near));
  below = λ bit under. bit_at-zero bit;
  above = λ bit from within. bit_at-zero bit;
}

pub hits_here : (row : List ℕ) (key shift first count at word : ℕ) → at < 32 → at ≡ shift + count → Hits row key shift first count word → slice_index row count ≡ key
    → Hits row key shift first (count + 1) (bit_or word (1 * 2 ^ at % 2 ^ 32))
hits_here row key shift first count at word near is hits same = record {
  range = omega (arith, hits.range);
  found = λ place from under. elim (cases_eq place count) [
    | inl here ↦
        ap (bit_at (bit_or word (1 * 2 ^ at % 2 ^ 32))) (let e : shift + place ≡ at = omega (arith, here, is) in e) ∙ bit_at_set_same w32 word at near
        ∙ sym (hit_same key (slice_index row place) (ap (slice_index row) here ∙ same))
    | inr other ↦ bit_at_set_other w32 word at near (shift + place) (λ e. other (omega (arith, e, is))) ∙ hits.found place from (omega (arith, under, other))
  ];
  below = λ bit under. bit_at_set_other w32 word at near bit (λ here. omega (arith, here, under, is, hits.range)) ∙ hits.below bit under;
  above = λ bit from within. bit_at_set_other w32 word at near bit (λ here. omega (arith, here, from, is)) ∙ hits.above bit (omega (arith, from)) within;
}

pub hits_other : (row : List ℕ) (key shift first count word : ℕ) → shift + count < 32 → Hits row key shift first count word → slice_index row count ≢ key → Hits row key shift first (count + 1) word
hits_other row key shift first count word near hits apart = record {
  range = omega (arith, hits.range);
  found = λ place from under. elim (cases_eq place count) [
    | inl here ↦ rw here (hits.above (shift + count) (omega arith) near ∙ sym (hit_other key (slice_index row count) apart))
    | inr other ↦ hits.found place from (omega (arith, under, other))
  ];
  below = hits.below;
  above = λ bit from within. hits.above bit (omega (arith, from)) within;
}

-- what the words of both halves tell of the first place with the key
module _ (row : List ℕ) (key : ℕ) where
  hit_at : (shift first count word place at : ℕ) → Hits row key shift first count word → first ≤ place → place < count → at ≡ shift + place → bit_at word at ≡ 1 → slice_index row place ≡ key
  hit_at shift first count word place at hits from under is set = hit_is key (slice_index row place) (sym (hits.found place from under) ∙ ap (bit_at word) (sym is) ∙ set)

  lacks_at : (shift first count word place at : ℕ) → Hits row key shift first count word → first ≤ place → place < count → at ≡ shift + place → bit_at word at ≡ 0 → slice_index row place ≢ key
  lacks_at shift first count word place at hits from under is clear = hit_not key (slice_index row place) (sym (hits.found place from under) ∙ ap (bit_at word) (sym is) ∙ clear)

  past_half : (shift first count word at : ℕ) → shift + first ≡ 16 → Hits row key shift first count word → bit_at word at ≡ 1 → 16 ≤ at
  past_half shift first count word at sum hits set = elim (cases_lt at 16) [
    | inl under ↦ absurd (omega (arith, set, hits.below at (omega (arith, under, sum))))
    | inr past ↦ omega (arith, past)
  ]

  pub lower_lacks : (word : ℕ) → Hits row key 16 0 16 word → word ≡ 0 → (place : ℕ) → place < 16 → slice_index row place ≢ key
  lower_lacks word hits empty place under = lacks_at 16 0 16 word place (16 + place) hits (omega arith) under refl (ap (λ n. bit_at n (16 + place)) empty ∙ bit_at-zero (16 + place))

  lower_first_at : (word at : ℕ) → Hits row key 16 0 16 word → at < 32 → bit_at word at ≡ 1 → ((place : ℕ) → place < at → bit_at word place ≡ 0) → (16 ≤ at) × IsFirstKey row key (at - 16)
  lower_first_at word at hits near set none =
      let from : 16 ≤ at = past_half 16 0 16 word at refl hits set in (
        from,
        (
          omega (arith, near),
          hit_at 16 0 16 word (at - 16) at hits (omega arith) (omega (arith, near, from)) (omega (arith, from)) set,
          λ other under. lacks_at 16 0 16 word other (16 + other) hits (omega arith) (omega (arith, under, near)) refl (none (16 + other) (omega (arith, under))),
        ),
      )

  pub lower_first : (word : ℕ) → word < 2 ^ 32 → Hits row key 16 0 16 word → 0 < word → (16 ≤ trailing_zeros w32 word) × IsFirstKey row key (trailing_zeros w32 word - 16)
  lower_first word fits hits some = let first = bit_at-trailing_zeros w32 word some fits in lower_first_at word (trailing_zeros w32 word) hits first.0 first.1 first.2

  module _ (lacks : (place : ℕ) → place < 16 → slice_index row place ≢ key) (word : ℕ) (hits : Hits row key 0 16 32 word) where
    upper_lacks_at : (place : ℕ) → place < 32 → bit_at word place ≡ 0 → slice_index row place ≢ key
    upper_lacks_at place under clear = elim (cases_lt place 16) [
      | inl lower ↦ lacks place lower
      | inr past ↦ lacks_at 0 16 32 word place place hits (omega (arith, past)) under (omega arith) clear
    ]

    pub upper_lacks : word ≡ 0 → LacksKey row key
    upper_lacks empty place under = upper_lacks_at place under (ap (λ n. bit_at n place) empty ∙ bit_at-zero place)

    upper_first_at : (at : ℕ) → at < 32 → bit_at word at ≡ 1 → ((place : ℕ) → place < at → bit_at word place ≡ 0) → IsFirstKey row key at
    upper_first_at at near set none = (
      near,
      hit_at 0 16 32 word at at hits (past_half 0 16 32 word at refl hits set) near (omega arith) set,
      λ other under. upper_lacks_at other (omega (arith, under, near)) (none other under),
    )

    pub upper_first : word < 2 ^ 32 → 0 < word → IsFirstKey row key (trailing_zeros w32 word)
    upper_first fits some = let first = bit_at-trailing_zeros w32 word some fits in upper_first_at (trailing_zeros w32 word) first.0 first.1 first.2

-- ---- the call references that are used

-- a word marks the call references of the places below this one
pub record Uses (row : List ℕ) (count word : ℕ) : Type 0 where
  pub used : (reference : ℕ) → reference < 32 → bit_at word reference ≡ 1 → (place : ℕ) × (place < count) × (slice_index row place ≡ 2 ^ 16 + reference)
  pub unused : (reference : ℕ) → reference < 32 → bit_at word reference ≡ 0 → (place : ℕ) → place < count → slice_index row place ≢ 2 ^ 16 + reference

pub uses_none : (row : List ℕ) → Uses row 0 0
uses_none row = record {
  used = λ reference few set. absurd (omega (arith, set, bit_at-zero reference));
  unused = λ reference few clear place below. absurd (omega (arith, below));
}

pub uses_here : (row : List ℕ) (count word : ℕ) → Uses row count word → slice_index row count / 32 ≡ 2 ^ 16 / 32 → Uses row (count + 1) (bit_or word (1 * 2 ^ (slice_index row count % 32) % 2 ^ 32))
uses_here row count word uses called =
    let key : ℕ = slice_index row count in
    let near : key % 32 < 32 = omega arith in
    let is : key ≡ 2 ^ 16 + key % 32 = omega (arith, called) in
    record {
      used = λ reference few set. elim (cases_eq reference (key % 32)) [
        | inl same ↦ (count, omega arith, is ∙ ap (λ n. 2 ^ 16 + n) (sym same))
        | inr other ↦
            let before = uses.used reference few (sym (bit_at_set_other w32 word (key % 32) near reference other) ∙ set) in
            (before.0, omega (arith, let below = before.1 in below), before.2)
      ];
      unused = λ reference few clear place below e. elim (cases_eq reference (key % 32)) [
        | inl same ↦ omega (arith, clear, ap (bit_at (bit_or word (1 * 2 ^ (key % 32) % 2 ^ 32))) same, bit_at_set_same w32 word (key % 32) near)
        | inr other ↦ elim (cases_eq place count) [
          | inl here ↦ other (let at : key ≡ 2 ^ 16 + reference = ap (λ n. slice_index row n) (sym here) ∙ e in omega (arith, at, few))
          | inr apart ↦ uses.unused reference few (sym (bit_at_set_other w32 word (key % 32) near reference other) ∙ clear) place (omega (arith, below, apart)) e
        ]
      ];
    }

pub uses_other : (row : List ℕ) (count word : ℕ) → Uses row count word → slice_index row count / 32 ≢ 2 ^ 16 / 32 → Uses row (count + 1) word
uses_other row count word uses apart = record {
  used = λ reference few set. let before = uses.used reference few set in (before.0, omega (arith, let below = before.1 in below), before.2);
  unused = λ reference few clear place below e. elim (cases_eq place count) [
    | inl here ↦ apart (let at : slice_index row count ≡ 2 ^ 16 + reference = ap (λ n. slice_index row n) (sym here) ∙ e in omega (arith, at, few))
    | inr other ↦ uses.unused reference few clear place (omega (arith, below, other)) e
  ];
}

module _ (legs : Legs) (line : ℕ) (row : List ℕ) (of : IsRowOf legs.held line row) (told : All (λ leg. IfSome leg FitsMessages) legs.held) where
  -- a called leg with this reference
  called_key : (side : Side) (r reference : ℕ) → r < 2 ^ 15 → key_by side r ≡ 2 ^ 16 + reference → (side ≡ Called) × (r ≡ reference)
  called_key Caller r reference few e = absurd (omega (arith, e, few))
  called_key Called r reference few e = (refl, omega (arith, e))

  names : (reference place : ℕ) → place < 30 → (o : Option Leg) → leg_on legs.held line place ≡ o → IfSome o FitsMessages → key_of o ≡ 2 ^ 16 + reference → reference < 32
      → leg_named legs line true reference ≡ None → ⊥
  names reference place within None at tell e few none = omega (arith, e, few)
  names reference place within (Some leg) at tell e few none =
      let is = called_key leg.side leg.reference reference (tell.reference) e in
      none_named legs line true reference none (record { line = line; place = place }) leg (refl, within) at is.0 is.1

  not_none : (reference : ℕ) (o : Option HeldLeg) → (o ≡ None → ⊥) → is_none o ≡ false
  not_none reference None some = absurd (some refl)
  not_none reference (Some h) some = refl

  pub is_used : (reference : ℕ) → reference < 32 → HasKey row (2 ^ 16 + reference) → is_unused legs line reference ≡ false
  is_used reference few has = elim (cases_lt has.0 30) [
    | inl within ↦
        not_none reference (leg_named legs line true reference)
        (names reference has.0 within (leg_on legs.held line has.0) refl (FitsMessages_at legs.held (30 * line + has.0) told) (sym (of.each has.0 within) ∙ has.2) few)
    | inr far ↦ absurd (let nobody = of.behind has.0 far has.1 in let is = has.2 in omega (arith, nobody, is, few))
  ]

  pub is_unused_left : (reference : ℕ) → reference < 32 → LacksKey row (2 ^ 16 + reference) → is_unused legs line reference ≡ true
  is_unused_left reference few lacks =
      ap is_none (named_nowhere legs line row of told true reference (omega (arith, few)) (λ place below. lacks place (omega (arith, below))))

  -- ---- the lowest that is not used

  module _ (used : ℕ) (small : used < 2 ^ 32) (uses : (reference : ℕ) → reference < 32 → bit_at used reference ≡ 1 → HasKey row (2 ^ 16 + reference))
      (leaves : (reference : ℕ) → reference < 32 → bit_at used reference ≡ 0 → LacksKey row (2 ^ 16 + reference)) where
    -- the values that may be taken: each that is not used but 0, and the thirty-first
    abbrev free : ℕ
    free = bit_or (bit_not w32 (bit_or used 1)) (1 * 2 ^ 31 % 2 ^ 32)

    abbrev first : ℕ
    first = trailing_zeros w32 free

    free_last : bit_at free 31 ≡ 1
    free_last = bit_at_set_same w32 (bit_not w32 (bit_or used 1)) 31 (omega arith)

    whole : bit_or used 1 < 2 ^ 32
    whole = or_lt 32 used 1 small (omega arith)

    fits : free < 2 ^ 32
    fits = or_lt 32 (bit_not w32 (bit_or used 1)) (1 * 2 ^ 31 % 2 ^ 32) (omega (arith, whole)) (omega arith)

    free_some : 0 < free
    free_some = elim (cases_eq free 0) [
      | inl empty ↦ absurd (omega (arith, free_last, ap (λ n. bit_at n 31) empty, bit_at-zero 31))
      | inr some ↦ omega (arith, some)
    ]

    free_at : (reference : ℕ) → reference < 31 → bit_at free reference ≡ 1 - bit_at (bit_or used 1) reference
    free_at reference below =
        bit_at_set_other w32 (bit_not w32 (bit_or used 1)) 31 (omega arith) reference (λ e. omega (arith, e, below))
        ∙ bit_at_not w32 (bit_or used 1) reference whole (omega (arith, below))

    with_zero : (reference : ℕ) → 1 ≤ reference → bit_at (bit_or used 1) reference ≡ bit_at used reference
    with_zero reference some = bit_at_set_other w32 used 0 (omega arith) reference (λ e. omega (arith, e, some))

    not_zero : bit_at (bit_or used 1) 0 ≡ 1
    not_zero = bit_at_set_same w32 used 0 (omega arith)

    unused_from_walk : (count : ℕ) → count < 31 → ((reference : ℕ) → 1 ≤ reference → reference ≤ count → is_unused legs line reference ≡ false) → unused_from legs line 1 ≡ count + unused_from legs line (1 + count)
    unused_from_walk zero below taken = let same : 1 + 0 ≡ 1 = omega arith in omega (arith, ap (unused_from legs line) same)
    unused_from_walk (suc count) below taken =
        let here = unused_other legs line (1 + count) (omega (arith, below)) (taken (1 + count) (omega arith) (omega arith)) in
        let before = unused_from_walk count (omega (arith, below)) (λ reference some within. taken reference some (omega (arith, within))) in
        let next : 1 + count + 1 ≡ 1 + suc count = omega arith in
        omega (arith, here, before, ap (unused_from legs line) next)

    pub lowest_left : (first < 32) × (first ≡ lowest_free_reference legs line)
    lowest_left =
        let lowest = bit_at-trailing_zeros w32 free free_some fits in
        let near : first < 32 = lowest.0 in
        let some : 1 ≤ first = elim (cases_eq first 0) [
          | inl zeroth ↦
              let set : bit_at free 0 ≡ 1 = ap (bit_at free) (sym zeroth) ∙ lowest.1 in
              absurd (omega (arith, set, free_at 0 (omega arith), not_zero))
          | inr other ↦ omega (arith, other)
        ] in
        let taken : (reference : ℕ) → 1 ≤ reference → reference ≤ first - 1 → is_unused legs line reference ≡ false
        = λ reference from below.
        is_used reference (omega (arith, below, near)) (uses reference (omega (arith, below, near))
        (let clear = lowest.2 reference (omega (arith, below, from)) in
        omega (arith, clear, free_at reference (omega (arith, below, near)), with_zero reference from, bit_at-lt used reference))) in
        let before = unused_from_walk (first - 1) (omega (arith, near)) taken in
        let last : unused_from legs line first ≡ 0 = elim (cases_lt first 31) [
          | inl within ↦
              unused_here legs line first within (is_unused_left first near (leaves first near (let set = lowest.1 in omega (arith, set, free_at first within, with_zero first some, bit_at-lt used first))))
          | inr end ↦ let is : first ≡ 31 = omega (arith, end, near) in ap (unused_from legs line) is ∙ unused_end legs line
        ] in
        let same : 1 + (first - 1) ≡ first = omega (arith, some) in
        let after : unused_from legs line (1 + (first - 1)) ≡ 0 = ap (unused_from legs line) same ∙ last in
        (near, omega (arith, lowest_free_reference_unused_all legs line, before, after, some))
