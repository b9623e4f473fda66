-- Two places of a list that is cut into rows.
use Rattle.std.proofs.Common.{◌≡◌, ℕ, ◌+◌, ◌-◌, ◌*◌, ◌<◌, ◌≤◌, List, ◌++◌, length, length-take-le, length-append, length-drop, drop_at, slice_range, get_or, set, take, drop, get_or-set_other, get_or-take, get_or-drop, sym, ap, ◌∙◌, inl, inr, arith}
use Rattle.std.proofs.lemmas.Nat.{same_from_place}
use Rattle.std.proofs.lemmas.List.{get_or_append_left, drop-take, take-append-le, take_all}
use Rattle.std.proofs.lemmas.Bool.{cases_lt}
use Rattle.std.proofs.lemmas.Slice.{drop-put_mid}
use borrow.Rule.Slice.PartMut.{put_mid}

-- a write at one place leaves the others
pub get_or-set_other_place : (octets : List ℕ) (slots line slot l s octet : ℕ) → slot < slots → s < slots → (l ≡ line → s ≡ slot → ⊥) → get_or (set octets (line * slots + slot) octet) (l * slots + s) 0 ≡ get_or octets (l * slots + s) 0
get_or-set_other_place octets slots line slot l s octet a b apart = get_or-set_other octets (line * slots + slot) (l * slots + s) octet 0 (λ e. let p = same_from_place l s line slot slots b a e in apart p.0 p.1)

-- and so it does behind a row before all others
pub get_or-drop_other_place_behind : (octets : List ℕ) (slots line slot l s octet : ℕ) → slot < slots → s < slots → (l ≡ line → s ≡ slot → ⊥) → get_or (drop slots (set octets ((line + 1) * slots + slot) octet)) (l * slots + s) 0 ≡ get_or (drop slots octets) (l * slots + s) 0
get_or-drop_other_place_behind octets slots line slot l s octet a b apart =
    let at : slots + (l * slots + s) ≡ (l + 1) * slots + s = grind arith in
    get_or-drop slots (set octets ((line + 1) * slots + slot) octet) (l * slots + s) 0
    ∙ ap (λ i. get_or (set octets ((line + 1) * slots + slot) octet) i 0) at
    ∙ get_or-set_other_place octets slots (line + 1) slot (l + 1) s octet a b (λ e. apart (omega (arith, e)))
    ∙ ap (λ i. get_or octets i 0) (sym at)
    ∙ sym (get_or-drop slots octets (l * slots + s) 0)

-- what is written from s on, seen from there
pub drop_refilled : (xs w : List ℕ) (s n : ℕ) → n ≡ length xs → s ≤ length xs → let tail = w ++ drop (length w) (drop s xs) in let ws = take s xs ++ tail in drop s (take n (ws ++ drop (length ws) xs)) ≡ take (length (drop s xs)) tail
drop_refilled xs w s n size inside =
    let tail = w ++ drop (length w) (drop s xs) in
    let ws = take s xs ++ tail in
    let front = length-take-le s xs inside in
    let long : n ≤ length ws = omega (arith, size, inside, front, length-append (take s xs) tail, length-append w (drop (length w) (drop s xs)), length-drop (length w) (drop s xs), length-drop s xs) in
    let split : n ≡ s + (n - s) = omega (arith, size, inside) in
    let rest : n - s ≡ length (drop s xs) = omega (arith, size, length-drop s xs) in
    ap (drop s) (take-append-le n ws (drop (length ws) xs) long)
    ∙ ap (λ k. drop s (take k ws)) split
    ∙ drop-take s (n - s) ws
    ∙ ap (take (n - s)) (drop_at (take s xs) tail s front)
    ∙ ap (λ k. take k tail) rest

pub slice_range_rest : (xs : List ℕ) (start end s : ℕ) → start ≡ s → end ≡ length xs → slice_range xs start end ≡ drop s xs
slice_range_rest xs start end s at size =
    take_all (end - start) (drop start xs) (omega (arith, size, length-drop start xs)) ∙ ap (λ k. drop k xs) at

module _ (a k : ℕ) (xs ys : List ℕ) (room : a + k ≤ length xs) (fits : length ys ≡ k) where
  -- a row written from a on leaves what is before it
  pub get_or-put_mid_below : (j : ℕ) → j < a → get_or (put_mid a k xs ys) j 0 ≡ get_or xs j 0
  get_or-put_mid_below j below =
      let inside : j < length (take a xs) = omega (arith, length-take-le a xs (omega arith)) in
      get_or_append_left _ _ 0 j inside ∙ get_or-take a xs j 0 below

  -- and what is behind it
  pub get_or-put_mid_beyond : (j : ℕ) → a + k ≤ j → get_or (put_mid a k xs ys) j 0 ≡ get_or xs j 0
  get_or-put_mid_beyond j beyond =
      let rest = drop-put_mid a k xs ys (a + k) (omega arith) (omega arith) fits in
      let at : a + k + (j - (a + k)) ≡ j = omega arith in
      ap (λ i. get_or (put_mid a k xs ys) i 0) (sym at) ∙ sym (get_or-drop (a + k) (put_mid a k xs ys) (j - (a + k)) 0) ∙ ap (λ (zs : List ℕ). get_or zs (j - (a + k)) 0) rest ∙ get_or-drop (a + k) xs (j - (a + k)) 0 ∙ ap (λ i. get_or xs i 0) at

-- a row of thirty leaves the rows of the other lines
pub other_row : (line a k : ℕ) (xs ys : List ℕ) (l place : ℕ) → a ≡ line * 30 → k ≡ 30 → a + k ≤ length xs → length ys ≡ k → (l ≡ line → ⊥) → place < 30 → get_or (put_mid a k xs ys) (l * 30 + place) 0 ≡ get_or xs (l * 30 + place) 0
other_row line a k xs ys l place at wide room fits apart near = elim (cases_lt l line) [
  | inl below ↦ get_or-put_mid_below a k xs ys room fits (l * 30 + place) (omega arith)
  | inr beyond ↦ get_or-put_mid_beyond a k xs ys room fits (l * 30 + place) (omega (arith, apart))
]
