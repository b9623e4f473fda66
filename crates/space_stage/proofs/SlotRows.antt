-- Octets that are looked up slot by slot, and the rows that they come from and go to.
use Rattle.std.proofs.Common.{◌≡◌, ℕ, ◌+◌, ◌-◌, ◌*◌, ◌<◌, ◌≤◌, ◌++◌, eqb, List, length, get_or, map, take, drop, length-drop, Option, Some, None, IfSome, length-append, refl, sym, ap, subst, ◌∙◌, inl, inr, arith}
use Rattle.std.specs.Simd.Lanes.{Each1, chunk}
use Rattle.std.proofs.lemmas.Bool.{cases_lt, cases_eq, eq-eqb, ne_eqb, cond-true, cond-false}
use Rattle.std.proofs.lemmas.List.{get_or-take, get_or-map, get_or_past, get_or_default, get_or_append_left, get_or-append_right, length-map, length-take-le}
use Rattle.std.proofs.lemmas.Simd.{Each1-from_get_or, get_or-chunk, length-chunk}
use Rattle.std.proofs.lemmas.Slice.{take-put_mid}
use borrow.Rule.Slice.PartMut.{put_mid, same_len_mid}
use Rattle.control_memory.specs.Tables.{IsRow, number_in}
use Rattle.control_memory.specs.Carrying.{fetched}
use Rattle.frame_buffer.specs.Highways.{IsPart, RowsHold}
use Rattle.frame_buffer.proofs.Rows.{get_or-put_mid_below, get_or-put_mid_beyond}
use Rattle.space_stage.specs.Turning.{AreNumbers, AreTurnedNumbers, row_of, octet_at, square, joined}
use Rattle.space_stage.proofs.Turns.{row_by, row_is, length-row_by, octet_in_row, row_of_square, octet_of_square}
use Rattle.space_stage.proofs.Overlays.{front_of, back_of}

-- sixteen bytes of a row
pub chunk_is_row : (rows : List ℕ) (from k : ℕ) → from + k * 30 + 16 ≤ length rows → chunk (from + k * 30) 16 rows ≡ row_by (λ row at. get_or rows (from + row * 30 + at) 0) k
chunk_is_row rows from k fits =
    row_is (λ row at. get_or rows (from + row * 30 + at) 0) k (chunk (from + k * 30) 16 rows) (length-chunk (from + k * 30) 16 rows fits) (λ at near. get_or-chunk (from + k * 30) 16 rows at 0 near)

-- numbers that are turned
pub turned_numbers : (numbers : List ℕ) (from : ℕ) → AreNumbers 32 numbers → AreTurnedNumbers (square (λ slot line. get_or numbers (from + line * 30 + slot) 0))
turned_numbers numbers from are slot line near within past =
    let here = octet_of_square (λ s l. get_or numbers (from + l * 30 + s) 0) slot line near within in
    here ∙ are (from + line * 30 + slot) (subst (λ n. 32 ≤ n) here past)

pub each_number : (row : List ℕ) → length row ≡ 16 → ((at : ℕ) → at < 16 → 32 ≤ get_or row at 0 → get_or row at 0 ≡ 255) → Each1 (λ number. 32 ≤ number → number ≡ 255) row
each_number row long are = Each1-from_get_or (λ number. 32 ≤ number → number ≡ 255) row 0 (λ k h. are k (omega (arith, h, long)))

-- octets that are looked up
pub map_is_row : (octets numbers : ℕ → List ℕ) (k : ℕ) → length (numbers k) ≡ 16
    → map (λ number. get_or (octets k) number 213) (numbers k) ≡ row_by (λ slot line. get_or (octets slot) (get_or (numbers slot) line 0) 213) k
map_is_row octets numbers k long =
    row_is (λ slot line. get_or (octets slot) (get_or (numbers slot) line 0) 213) k (map (λ number. get_or (octets k) number 213) (numbers k)) (length-map (numbers k) (λ number. get_or (octets k) number 213) ∙ long)
    (λ at near. get_or-map (λ number. get_or (octets k) number 213) (numbers k) at 0 0 (omega (arith, near, long)))

-- ---- a row of thirty, in two parts

module _ (front back : List ℕ) (first_long : length front ≡ 16) where
  front_long : length (take 14 front) ≡ 14
  front_long = length-take-le 14 front (omega (arith, first_long))

  pub front_joined : (at : ℕ) → at < 14 → get_or front at 0 ≡ get_or (take 14 front ++ back) at 0
  front_joined at low = sym (get_or_append_left (take 14 front) back 0 at (omega (arith, front_long, low)) ∙ get_or-take 14 front at 0 low)

  pub back_joined : (at : ℕ) → at < 16 → get_or back at 0 ≡ get_or (take 14 front ++ back) (14 + at) 0
  back_joined at low =
      let there : 14 + at - 14 ≡ at = omega arith in
      sym (get_or-append_right (take 14 front) back 14 (14 + at) 0 front_long (omega arith) ∙ ap (λ i. get_or back i 0) there)

-- a row that is read in two parts
pub both_parts : (row : List ℕ) → length row ≡ 30 → (at : ℕ) → at < 30 → get_or (take 14 (chunk 0 16 (take 16 row)) ++ chunk 14 16 row) at 0 ≡ get_or row at 0
both_parts row long at near =
    let front : List ℕ = chunk 0 16 (take 16 row) in
    let first_long : length front ≡ 16 = length-chunk 0 16 (take 16 row) (omega (arith, length-take-le 16 row (omega (arith, long)))) in
    elim (cases_lt at 14) [
      | inl low ↦ sym (front_joined front (chunk 14 16 row) first_long at low) ∙ front_of row at (omega (arith, low))
      | inr high ↦
          let j : ℕ = at - 14 in
          let there : 14 + j ≡ at = omega (arith, high) in
          let inside : j < 16 = omega (arith, near) in
          ap (λ i. get_or (take 14 front ++ chunk 14 16 row) i 0) (sym there) ∙ sym (back_joined front (chunk 14 16 row) first_long j inside) ∙ back_of row j inside ∙ ap (λ i. get_or row i 0) there
    ]

-- ---- the bytes of a table, row after row

module _ (entries : ℕ → ℕ → Option ℕ) (limit : ℕ) (numbers bytes new : List ℕ) (line a k : ℕ) (starts : a ≡ line * 30) (wide : k ≡ 30) (room : a + k ≤ length numbers) (fits : length new ≡ k)
    (same : (at : ℕ) → at < 30 → get_or new at 0 ≡ get_or bytes at 0) (is : IsRow 30 limit (entries line) bytes) where
  abbrev after : List ℕ
  after = put_mid a k numbers new

  pub length-after : length after ≡ length numbers
  length-after = same_len_mid a k numbers new (fits ∙ sym (length-take-le k (drop a numbers) (omega (arith, room, length-drop a numbers))))

  here : (at : ℕ) → at < 30 → get_or after (a + at) 0 ≡ get_or bytes at 0
  here at near =
      sym (get_or-take (a + length new) after (a + at) 0 (omega (arith, wide, fits, near)))
      ∙ ap (λ (zs : List ℕ). get_or zs (a + at) 0) (take-put_mid a k numbers new (a + length new) refl (omega (arith, room)))
      ∙ get_or-append_right (take a numbers) new a (a + at) 0 (length-take-le a numbers (omega (arith, room))) (omega arith)
      ∙ ap (λ i. get_or new i 0) (omega arith) ∙ same at near

  byte_within : (at : ℕ) → at < 30 → limit ≤ get_or bytes at 0 → get_or bytes at 0 ≡ 255
  byte_within at near past = elim (cases_eq (get_or bytes at 0) 255) [
    | inl none ↦ none
    | inr some ↦
        let is_some : entries line at ≡ Some (get_or bytes at 0) =
        sym (is.entries at near) ∙ cond-false (eqb (get_or bytes at 0) 255) None (Some (get_or bytes at 0)) (ne_eqb (get_or bytes at 0) 255 some) in
        let inside : get_or bytes at 0 < limit = subst (λ (o : Option ℕ). IfSome o (λ number. number < limit)) is_some (is.within at near) in
        absurd (omega (arith, inside, past))
  ]

  pub entries_more : ((row at : ℕ) → row < line → at < 30 → number_in (get_or numbers (row * 30 + at) 0) ≡ entries row at) → (row at : ℕ) → row < line + 1 → at < 30 → number_in (get_or after (row * 30 + at) 0) ≡ entries row at
  entries_more before row at reached near = elim (cases_lt row line) [
    | inl earlier ↦ ap number_in (get_or-put_mid_below a k numbers new room fits (row * 30 + at) (omega (arith, starts, earlier, near))) ∙ before row at earlier near
    | inr last ↦
        let this : row ≡ line = omega (arith, reached, last) in
        let there : row * 30 + at ≡ a + at = omega (arith, this, starts) in
        ap (λ i. number_in (get_or after i 0)) there ∙ ap number_in (here at near) ∙ is.entries at near ∙ ap (λ l. entries l at) (sym this)
  ]

  pub within_more : AreNumbers limit numbers → AreNumbers limit after
  within_more are i = elim (cases_lt i a) [
    | inl low ↦ subst (λ n. limit ≤ n → n ≡ 255) (sym (get_or-put_mid_below a k numbers new room fits i low)) (are i)
    | inr high ↦ elim (cases_lt i (a + 30)) [
      | inr past ↦ subst (λ n. limit ≤ n → n ≡ 255) (sym (get_or-put_mid_beyond a k numbers new room fits i (omega (arith, wide, past)))) (are i)
      | inl inside ↦
          let at : ℕ = i - a in
          let there : a + at ≡ i = omega (arith, high) in
          let near : at < 30 = omega (arith, inside, high) in
          subst (λ n. limit ≤ n → n ≡ 255) (sym (ap (λ j. get_or after j 0) (sym there) ∙ here at near)) (byte_within at near)
    ]
  ]

  pub rest_more : ((i : ℕ) → line * 30 ≤ i → i < 960 → get_or numbers i 0 ≡ 255) → (i : ℕ) → (line + 1) * 30 ≤ i → i < 960 → get_or after i 0 ≡ 255
  rest_more before i behind inside = get_or-put_mid_beyond a k numbers new room fits i (omega (arith, starts, wide, behind)) ∙ before i (omega (arith, behind)) inside

-- ---- what each line gets

module _ (octets numbers : List ℕ) (octet_in : ℕ → ℕ → ℕ) (entries : ℕ → ℕ → Option ℕ) (lines : ℕ) (most : lines ≤ 32)
    (sent : (line slot : ℕ) → line < lines → slot < 30 → get_or octets (line * 30 + slot) 0 ≡ octet_in line slot)
    (are : (line slot : ℕ) → line < lines → slot < 30 → number_in (get_or numbers (line * 30 + slot) 0) ≡ entries line slot) (within : AreNumbers lines numbers)
    (from above : ℕ) (starts : above ≡ 480 + from) (far : from ≤ 14) (low high : List (List ℕ))
    (lows : low ≡ square (λ slot line. get_or octets (from + line * 30 + slot) 0)) (highs : high ≡ square (λ slot line. get_or octets (above + line * 30 + slot) 0)) where
  abbrev by_low : ℕ → ℕ → ℕ
  by_low slot line = get_or octets (from + line * 30 + slot) 0

  abbrev by_high : ℕ → ℕ → ℕ
  by_high slot line = get_or octets (above + line * 30 + slot) 0

  abbrev got : ℕ → ℕ → ℕ
  got line slot = fetched (entries line slot) (λ l. octet_in l slot)

  slot_octets : (slot : ℕ) → slot < 16 → row_of low slot ++ row_of high slot ≡ row_by by_low slot ++ row_by by_high slot
  slot_octets slot near =
      (λ i. (ap (λ s. row_of s slot) lows ∙ row_of_square by_low slot near) i ++ (ap (λ s. row_of s slot) highs ∙ row_of_square by_high slot near) i)

  line_octet : (slot number : ℕ) → slot < 16 → number < lines → get_or (row_by by_low slot ++ row_by by_high slot) number 213 ≡ octet_in number (from + slot)
  line_octet slot number near inside = elim (cases_lt number 16) [
    | inl early ↦
        let there : from + number * 30 + slot ≡ number * 30 + (from + slot) = omega arith in
        get_or_append_left (row_by by_low slot) (row_by by_high slot) 213 number (omega (arith, length-row_by by_low slot, early))
        ∙ sym (get_or_default (row_by by_low slot) number 0 213 (omega (arith, length-row_by by_low slot, early)))
        ∙ octet_in_row by_low slot number early ∙ ap (λ i. get_or octets i 0) there ∙ sent number (from + slot) inside (omega (arith, far, near))
    | inr past ↦
        let j : ℕ = number - 16 in
        let late : j < 16 = omega (arith, inside, most, past) in
        let there : above + j * 30 + slot ≡ number * 30 + (from + slot) = omega (arith, starts, past) in
        get_or-append_right (row_by by_low slot) (row_by by_high slot) 16 number 213 (length-row_by by_low slot) past
        ∙ sym (get_or_default (row_by by_high slot) j 0 213 (omega (arith, length-row_by by_high slot, late)))
        ∙ octet_in_row by_high slot j late ∙ ap (λ i. get_or octets i 0) there ∙ sent number (from + slot) inside (omega (arith, far, near))
  ]

  got_is : (line slot : ℕ) → line < lines → slot < 16 → get_or (row_of low slot ++ row_of high slot) (get_or numbers (line * 30 + (from + slot)) 0) 213 ≡ got line (from + slot)
  got_is line slot inside near =
      let number : ℕ = get_or numbers (line * 30 + (from + slot)) 0 in
      let is = are line (from + slot) inside (omega (arith, far, near)) in
      ap (λ l. get_or l number 213) (slot_octets slot near)
      ∙ elim (cases_eq number 255) [
        | inl none ↦
            let empty : entries line (from + slot) ≡ None = sym is ∙ cond-true (eqb number 255) None (Some number) (eq-eqb number 255 none) in
            get_or_past (row_by by_low slot ++ row_by by_high slot) number 213 (omega (arith, none, length-append (row_by by_low slot) (row_by by_high slot), length-row_by by_low slot, length-row_by by_high slot))
            ∙ sym (ap (λ (o : Option ℕ). fetched o (λ l. octet_in l (from + slot))) empty)
        | inr some ↦
            let full : entries line (from + slot) ≡ Some number = sym is ∙ cond-false (eqb number 255) None (Some number) (ne_eqb number 255 some) in
            let small : number < lines = elim (cases_lt number lines) [ inl small ↦ small | inr large ↦ absurd (some (within (line * 30 + (from + slot)) large)) ] in
            line_octet slot number near small ∙ sym (ap (λ (o : Option ℕ). fetched o (λ l. octet_in l (from + slot))) full)
      ]

  -- of sixteen lines in sixteen slots
  pub got_all : (rows : List (List ℕ)) (first at : ℕ) → at ≡ first * 30 + from → rows ≡ square (λ line slot. get_or (row_of low slot ++ row_of high slot) (get_or numbers (at + line * 30 + slot) 0) 213)
      → (line slot : ℕ) → line < 16 → first + line < lines → slot < 16 → octet_at rows line slot ≡ got (first + line) (from + slot)
  got_all rows first at begins is line slot row inside near =
      let there : at + line * 30 + slot ≡ (first + line) * 30 + (from + slot) = omega (arith, begins) in
      ap (λ r. octet_at r line slot) is ∙ octet_of_square (λ l s. get_or (row_of low s ++ row_of high s) (get_or numbers (at + l * 30 + s) 0) 213) line slot row near
      ∙ ap (λ i. get_or (row_of low slot ++ row_of high slot) (get_or numbers i 0) 213) there ∙ got_is (first + line) slot inside near

-- the row of a line, in two parts
pub joined_is : (front back : List (List ℕ)) (octet : ℕ → ℕ) (line : ℕ) → length (row_of front line) ≡ 16 → ((slot : ℕ) → slot < 16 → octet_at front line slot ≡ octet (0 + slot)) → ((slot : ℕ) → slot < 16 → octet_at back line slot ≡ octet (14 + slot))
    → (at : ℕ) → at < 30 → joined front back line at ≡ octet at
joined_is front back octet line long one other at near = elim (cases_lt at 14) [
  | inl low ↦ sym (front_joined (row_of front line) (row_of back line) long at low) ∙ one at (omega (arith, low)) ∙ ap octet (omega arith)
  | inr high ↦
      let j : ℕ = at - 14 in
      let there : 14 + j ≡ at = omega (arith, high) in
      ap (λ i. joined front back line i) (sym there) ∙ sym (back_joined (row_of front line) (row_of back line) long j (omega (arith, near))) ∙ other j (omega (arith, near)) ∙ ap octet there
]

-- ---- the rows of all lines, in two parts

module _ (lines cut : ℕ) (most : lines ≤ 32) (few : lines ≤ 16 → cut ≡ lines * 30) (many : 16 ≤ lines → cut ≡ 480) where
  pub first_part : IsPart 16 30 0 cut
  first_part = elim (cases_lt lines 16) [
    | inl small ↦ record { rows = lines; whole = few (omega (arith, small)); within = omega (arith, small) }
    | inr large ↦ record { rows = 16; whole = many large; within = omega arith }
  ]

  pub cut_within : cut ≤ lines * 30
  cut_within = elim (cases_lt lines 16) [
    | inl small ↦ omega (arith, few (omega (arith, small)))
    | inr large ↦ omega (arith, many large, large)
  ]

  pub second_part : (rest : ℕ) → cut + rest ≡ lines * 30 → IsPart 16 30 0 rest
  second_part rest all = elim (cases_lt lines 16) [
    | inl small ↦ record { rows = 0; whole = omega (arith, all, few (omega (arith, small))); within = omega arith }
    | inr large ↦ record { rows = lines - 16; whole = omega (arith, all, many large, large); within = omega (arith, most) }
  ]

  module _ (f g octet : ℕ → ℕ → ℕ) (one two : List ℕ) (first_long : length one ≡ cut) (whole : cut + length two ≡ lines * 30) (a : RowsHold 30 f 0 one) (b : RowsHold 30 g 0 two)
      (firsts : (line at : ℕ) → line < 16 → line < lines → at < 30 → f line at ≡ octet line at) (seconds : (line at : ℕ) → line < 16 → 16 + line < lines → at < 30 → g line at ≡ octet (16 + line) at) where
    pub both_hold_rows : RowsHold 30 octet 0 (one ++ two)
    both_hold_rows row at begins near =
        let size : length (one ++ two) ≡ lines * 30 = omega (arith, length-append one two, first_long, whole) in
        let inside : row < lines = omega (arith, begins, size) in
        let this_row : 0 + row ≡ row = omega arith in
        elim (cases_lt row 16) [
          | inl early ↦
              let reached : row * 30 + 30 ≤ cut = elim (cases_lt lines 16) [
                | inl small ↦ omega (arith, inside, few (omega (arith, small)))
                | inr large ↦ omega (arith, early, many large)
              ] in
              get_or_append_left one two 0 (row * 30 + at) (omega (arith, first_long, reached, near)) ∙ a row at (omega (arith, first_long, reached)) near ∙ ap (λ r. f r at) this_row ∙ firsts row at early inside near ∙ ap (λ r. octet r at) (sym this_row)
          | inr late ↦
              let j : ℕ = row - 16 in
              let this_j : 0 + j ≡ j = omega arith in
              let cut_is : cut ≡ 480 = many (omega (arith, late, inside)) in
              let there : row * 30 + at - 480 ≡ j * 30 + at = omega (arith, late) in
              let this : 16 + j ≡ row = omega (arith, late) in
              get_or-append_right one two 480 (row * 30 + at) 0 (first_long ∙ cut_is) (omega (arith, late)) ∙ ap (λ i. get_or two i 0) there
              ∙ b j at (omega (arith, inside, whole, cut_is, late)) near ∙ ap (λ r. g r at) this_j ∙ seconds j at (omega (arith, inside, most, late)) (omega (arith, this, inside)) near ∙ ap (λ r. octet r at) this ∙ ap (λ r. octet r at) (sym this_row)
        ]
