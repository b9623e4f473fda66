-- Octets that are looked up in a table of sixteen, all at once. A place from 128 on gives 0.
use Rattle.std.proofs.Common.{◌≡◌, ℕ, ◌+◌, ◌*◌, ◌/◌, ◌<◌, ◌≤◌, T, Bool, true, false, cond, leb, ltb, ◌||◌, List, length, get_or, map, refl, sym, ap, subst, ◌∙◌, arith, w8, inl, inr}
use Rattle.std.specs.Simd.Lanes.{Each1}
use Rattle.std.proofs.lemmas.Bool.{cases_lt, le-leb, leb-true, lt-ltb}
use Rattle.std.proofs.lemmas.List.{ext_get_or, length-map, get_or-map, get_or_past}
use Rattle.std.proofs.lemmas.Simd.{swz_l, SwzOk, SwzOk-from_Each1, length-swz_l, get_or-swz_l, Each1-weaker}

abbrev pub IsPlace : ℕ → Type 0
IsPlace place = 16 ≤ place → 128 ≤ place

or_true : (a : Bool) → T (a || true)
or_true true = tt
or_true false = tt

may_look : (place : ℕ) → IsPlace place → T (leb 128 place || ltb place 16)
may_look place is = elim (cases_lt place 16) [
  | inl low ↦ subst (λ b. T (leb 128 place || b)) (sym (lt-ltb place 16 low)) (or_true (leb 128 place))
  | inr past ↦ subst (λ b. T (b || ltb place 16)) (sym (le-leb 128 place (is past))) tt
]

pub SwzOk-places : (places : List ℕ) → length places ≡ 16 → Each1 IsPlace places → SwzOk w8 16 16 0 places
SwzOk-places places long are = SwzOk-from_Each1 w8 16 1 16 0 places refl (omega (arith, long)) (Each1-weaker IsPlace (λ place. T (leb 128 place || ltb place 16)) may_look places are)

nothing_past : (table : List ℕ) (place : ℕ) (b : Bool) → length table ≡ 16 → leb 128 place ≡ b → cond b 0 (get_or table place 0) ≡ get_or table place 0
nothing_past table place true long is = sym (get_or_past table place 0 (omega (arith, long, leb-true 128 place is)))
nothing_past table place false long is = refl

pub shuffled : (table places : List ℕ) → length table ≡ 16 → length places ≡ 16 → swz_l w8 16 table 0 places ≡ map (λ place. get_or table place 0) places
shuffled table places whole long =
    ext_get_or 0 _ _ (length-swz_l w8 16 table 0 places ∙ sym (length-map places (λ place. get_or table place 0))) (λ i h.
    let within : i < length places = omega (arith, h, length-swz_l w8 16 table 0 places) in
    let place : ℕ = get_or places i 0 in
    let here : 16 * ((0 + i) / 16) + place ≡ place = omega (arith, within, long) in
    get_or-swz_l w8 16 table 0 places i within ∙ ap (λ k. cond (leb 128 place) 0 (get_or table k 0)) here ∙ nothing_past table place (leb 128 place) whole refl
    ∙ sym (get_or-map (λ p. get_or table p 0) places i 0 0 within))
