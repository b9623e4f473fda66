-- Octets of a few lines that are laid over an idle row.
use Rattle.std.proofs.Common.{◌≡◌, ◌≢◌, ℕ, ◌+◌, ◌-◌, ◌<◌, Bool, false, cond, eqb, List, length, get_or, get_or-set_same, get_or-set_other, set, map, replicate, take, drop, Option, Some, None, IfSome, ◌⊎◌, inl, inr, sym, ap, subst, ◌∙◌, arith, w8, ◌++◌, length-drop, length-append}
use Rattle.std.specs.Simd.Lanes.{zip2, sel_l, top, chunk, put_chunk}
use Rattle.std.proofs.lemmas.Bool.{cases_eq, cases_lt, eq-eqb, ne_eqb, cond-true, cond-false}
use Rattle.std.proofs.lemmas.List.{get_or-map, get_or-take, get_or_append_left, length-map, length-take-le}
use Rattle.std.proofs.lemmas.Simd.{length-sel_l, get_or-sel_l, tops_compared, zip2_splat, put_chunk_whole, get_or-put_chunk_below, get_or-put_chunk_at, get_or-chunk}
use Rattle.circuit_model.specs.FrameInput.{idle_octet}
use Rattle.control_memory.specs.Tables.{IsRow}
use Rattle.control_memory.specs.Carrying.{fetched}
use Rattle.frame_buffer.specs.Highways.{Highways, octet_on}
use Rattle.space_stage.specs.Crossing.{AreSenders}

-- ---- the lines that send

pub more_inside : (senders : List ℕ) (count line : ℕ) → count < length senders → ((k : ℕ) → k < count → get_or senders k 0 < line) → (k : ℕ) → k < count + 1 → get_or (set senders count line) k 0 < line + 1
more_inside senders count line room inside k low = elim (cases_lt k count) [
  | inl before ↦ let same = get_or-set_other senders count k line 0 (λ e. omega (arith, e, before)) in let was = inside k before in omega (arith, same, was)
  | inr last ↦
      let here : k ≡ count = omega (arith, low, last) in
      let is : get_or (set senders count line) k 0 ≡ line = ap (λ j. get_or (set senders count line) j 0) here ∙ get_or-set_same senders count line 0 room in
      omega (arith, is)
]

pub more_silent : (octet : ℕ → ℕ → ℕ) (senders : List ℕ) (count line : ℕ) → count < length senders
    → ((l slot : ℕ) → l < line → slot < 30 → ((k : ℕ) → k < count → get_or senders k 0 ≡ l → ⊥) → octet l slot ≡ idle_octet)
    → (l slot : ℕ) → l < line + 1 → slot < 30 → ((k : ℕ) → k < count + 1 → get_or (set senders count line) k 0 ≡ l → ⊥) → octet l slot ≡ idle_octet
more_silent octet senders count line room silent l slot inside near unlisted = elim (cases_lt l line) [
  | inl before ↦ silent l slot before near (λ k low e. unlisted k (omega (arith, low)) (get_or-set_other senders count k line 0 (λ same. omega (arith, same, low)) ∙ e))
  | inr last ↦ let here : l ≡ line = omega (arith, inside, last) in absurd (unlisted count (omega arith) (get_or-set_same senders count line 0 room ∙ sym here))
]

-- ---- sixteen octets

module _ (lines octets row : List ℕ) (line : ℕ) (a : length lines ≡ 16) (b : length octets ≡ 16) (c : length row ≡ 16) where
  abbrev tests : List Bool
  tests = map (λ x. eqb x line) lines

  many : length tests ≡ 16
  many = length-map lines (λ x. eqb x line) ∙ a

  chosen : sel_l (map (top 7) (zip2 (λ x y. cond (eqb x y) 255 0) lines (replicate 16 line))) octets row ≡ sel_l tests octets row
  chosen = ap (λ ms. sel_l ms octets row) (tops_compared w8 eqb lines (replicate 16 line) ∙ zip2_splat eqb lines 16 line a)

  pub length-laid : length (sel_l (map (top 7) (zip2 (λ x y. cond (eqb x y) 255 0) lines (replicate 16 line))) octets row) ≡ 16
  length-laid = ap length chosen ∙ length-sel_l tests octets row (many ∙ sym b) (many ∙ sym c) ∙ many

  pub get_or-laid : (at : ℕ) → at < 16 → get_or (sel_l (map (top 7) (zip2 (λ x y. cond (eqb x y) 255 0) lines (replicate 16 line))) octets row) at 0 ≡ cond (eqb (get_or lines at 0) line) (get_or octets at 0) (get_or row at 0)
  get_or-laid at low =
      ap (λ (l : List ℕ). get_or l at 0) chosen
      ∙ get_or-sel_l tests octets row at 0 (omega (arith, many, low)) (omega (arith, b, low)) (omega (arith, c, low))
      ∙ ap (λ t. cond t (get_or octets at 0) (get_or row at 0)) (get_or-map (λ x. eqb x line) lines at 0 false (omega (arith, a, low)))

-- ---- a row of thirty, in two parts that overlap

pub front_of : (table : List ℕ) (k : ℕ) → k < 16 → get_or (chunk 0 16 (take 16 table)) k 0 ≡ get_or table k 0
front_of table k lt = get_or-take 16 (take 16 table) k 0 lt ∙ get_or-take 16 table k 0 lt

pub back_of : (table : List ℕ) (k : ℕ) → k < 16 → get_or (chunk 14 16 table) k 0 ≡ get_or table (14 + k) 0
back_of table k lt = get_or-chunk 14 16 table k 0 lt

module _ (octet : ℕ → ℕ) (row front back : List ℕ) (room : length row ≡ 30) (first_long : length front ≡ 16) (last_long : length back ≡ 16)
    (one : (at : ℕ) → at < 14 → get_or front at 0 ≡ octet at) (other : (at : ℕ) → at < 16 → get_or back at 0 ≡ octet (14 + at)) where
  half : length (take 16 row) ≡ 16
  half = length-take-le 16 row (omega (arith, room))

  abbrev begun : List ℕ
  begun = put_chunk 0 (take 16 row) front ++ drop 16 row

  begun_is : begun ≡ front ++ drop 16 row
  begun_is = ap (λ l. l ++ drop 16 row) (put_chunk_whole (take 16 row) front (half ∙ sym first_long))

  begun_long : length begun ≡ 30
  begun_long = ap length begun_is ∙ omega (arith, length-append front (drop 16 row), first_long, length-drop 16 row, room)

  pub row_laid : (at : ℕ) → at < 30 → get_or (put_chunk 14 begun back) at 0 ≡ octet at
  row_laid at within = elim (cases_lt at 14) [
    | inl low ↦
        get_or-put_chunk_below 14 begun back at 0 low ∙ ap (λ l. get_or l at 0) begun_is ∙ get_or_append_left front (drop 16 row) 0 at (omega (arith, first_long, low))
        ∙ one at low
    | inr high ↦
        let j : ℕ = at - 14 in
        let there : 14 + j ≡ at = omega (arith, high) in
        ap (λ k. get_or (put_chunk 14 begun back) k 0) (sym there) ∙ get_or-put_chunk_at 14 begun back j 0 (omega (arith, last_long, within)) (omega (arith, last_long, begun_long))
        ∙ other j (omega (arith, within)) ∙ ap octet there
  ]

-- ---- line after line

module _ (h : Highways) (count : ℕ) (senders : List ℕ) (are : AreSenders h count senders) (width : h.slots ≡ 30) (numbers : ℕ → Option ℕ) (bytes : List ℕ) (is : IsRow 30 h.lines numbers bytes) (slot : ℕ) (near : slot < 30) where
  abbrev byte : ℕ
  byte = get_or bytes slot 0

  abbrev got : ℕ
  got = fetched (numbers slot) (λ l. octet_on h l slot)

  -- the octet of the slot is written, or none of the first n lines is the one that it gets
  abbrev pub Lays : ℕ → ℕ → Type 0
  Lays n octet = (octet ≡ got) ⊎ ((octet ≡ idle_octet) × ((j : ℕ) → j < n → get_or senders j 0 ≡ byte → ⊥))

  none_is : byte ≡ 255 → numbers slot ≡ None
  none_is e = sym (is.entries slot near) ∙ cond-true (eqb byte 255) None (Some byte) (eq-eqb byte 255 e)

  some_is : byte ≢ 255 → numbers slot ≡ Some byte
  some_is e = sym (is.entries slot near) ∙ cond-false (eqb byte 255) None (Some byte) (ne_eqb byte 255 e)

  line_is : byte ≢ 255 → byte < h.lines
  line_is e = subst (λ (o : Option ℕ). IfSome o (λ number. number < h.lines)) (some_is e) (is.within slot near)

  got_line : byte ≢ 255 → got ≡ octet_on h byte slot
  got_line e = ap (λ (o : Option ℕ). fetched o (λ l. octet_on h l slot)) (some_is e)

  pub lays_first : (octet : ℕ) → octet ≡ idle_octet → Lays 0 octet
  lays_first octet e = inr (e, λ j low. absurd (omega (arith, low)))

  pub lays_more : (n old new : ℕ) → n < count → Lays n old → new ≡ cond (eqb byte (get_or senders n 0)) (octet_on h (get_or senders n 0) slot) old → Lays (n + 1) new
  lays_more n old new low so e = elim (cases_eq byte (get_or senders n 0)) [
    | inl same ↦
        let inside = are.inside n low in
        let line : byte ≢ 255 = λ none. absurd (omega (arith, same, none, inside, are.small)) in
        inl (e ∙ cond-true (eqb byte (get_or senders n 0)) (octet_on h (get_or senders n 0) slot) old (eq-eqb byte (get_or senders n 0) same) ∙ ap (λ l. octet_on h l slot) (sym same) ∙ sym (got_line line))
    | inr differs ↦
        let kept : new ≡ old = e ∙ cond-false (eqb byte (get_or senders n 0)) (octet_on h (get_or senders n 0) slot) old (ne_eqb byte (get_or senders n 0) differs) in
        elim so [
          | inl done ↦ inl (kept ∙ done)
          | inr none ↦ inr (
            kept ∙ none.0,
            λ j early is_it. elim (cases_lt j n) [
              | inl before ↦ none.1 j before is_it
              | inr last ↦ let here : j ≡ n = omega (arith, early, last) in differs (sym is_it ∙ ap (λ k. get_or senders k 0) here)
            ],
          )
        ]
  ]

  pub lays_all : (octet : ℕ) → Lays count octet → octet ≡ got
  lays_all octet so = elim so [
    | inl done ↦ done
    | inr none ↦ elim (cases_eq byte 255) [
      | inl empty ↦ none.0 ∙ sym (ap (λ (o : Option ℕ). fetched o (λ l. octet_on h l slot)) (none_is empty))
      | inr line ↦ none.0 ∙ sym (are.silent byte slot (line_is line) (omega (arith, near, width)) none.1) ∙ sym (got_line line)
    ]
  ]
