-- Octets that are looked up in a table of sixteen, all at once.
use Rattle.std.proofs.Common.{◌≡◌, ℕ, ◌+◌, ◌*◌, ◌/◌, ◌%◌, ◌^◌, ◌<◌, List, length, get_or, map, replicate, refl, sym, ap, ◌∙◌, arith, w8, bit_and, Fits}
use Rattle.std.specs.Simd.Lanes.{zip2, Each1}
use Rattle.std.proofs.lemmas.List.{ext_get_or, length-map, get_or-map}
use Rattle.std.proofs.lemmas.Nat.{and_mask, and_le_r}
use Rattle.std.proofs.lemmas.Simd.{swz_l, SwzOk, SwzOk-from_below, length-swz_l, get_or-swz_l_below, Each1-get_or, Each1-all, Each1-weaker, Each1-zip2, Each2-splat, below_from_Fits, zip2_splat, map-map}

-- places below sixteen may be looked up
pub SwzOk-sixteen : (places : List ℕ) → length places ≡ 16 → Each1 (λ place. place < 16) places → SwzOk w8 16 16 0 places
SwzOk-sixteen places long small = SwzOk-from_below w8 16 1 16 0 places refl (omega (arith, long)) small

-- and what is found there
pub shuffled : (table places : List ℕ) → length places ≡ 16 → Each1 (λ place. place < 16) places
    → swz_l w8 16 table 0 places ≡ map (λ place. get_or table place 0) places
shuffled table places long small =
    ext_get_or 0 _ _ (length-swz_l w8 16 table 0 places ∙ sym (length-map places (λ place. get_or table place 0))) (λ i h.
    let within : i < length places = omega (arith, h, length-swz_l w8 16 table 0 places) in
    let below = Each1-get_or (λ place. place < 16) places i 0 within small in
    let here : 16 * ((0 + i) / 16) + get_or places i 0 ≡ get_or places i 0 = omega (arith, within, long) in
    get_or-swz_l_below w8 16 table 0 places i within below ∙ ap (λ k. get_or table k 0) here ∙ sym (get_or-map (λ place. get_or table place 0) places i 0 0 within))

-- the halves of octets are below sixteen
pub high_halves : (octets : List ℕ) → (length octets ≡ 16) × Each1 (Fits w8) octets → Each1 (λ half. half < 16) (zip2 (λ a b. a / 2 ^ b) octets (replicate 16 4))
high_halves octets fits =
    let small = Each1-weaker (λ a. a < 256) (λ a. a / 16 < 16) (λ a h. omega arith) octets (below_from_Fits w8 octets fits.1) in
    Each1-zip2 (λ a b. a / 2 ^ b) (λ half. half < 16) octets (replicate 16 4) (Each2-splat (λ a b. a / 2 ^ b < 16) octets 16 4 small)

pub low_halves : (octets : List ℕ) → Each1 (λ half. half < 16) (zip2 bit_and octets (replicate 16 15))
low_halves octets =
    let small = Each1-all (λ a. bit_and a 15 < 16) (λ a. omega (arith, and_le_r a 15)) octets in
    Each1-zip2 bit_and (λ half. half < 16) octets (replicate 16 15) (Each2-splat (λ a b. bit_and a b < 16) octets 16 15 small)

-- what is found at the halves of octets
pub found_high : (table octets found : List ℕ) → length octets ≡ 16
    → found ≡ map (λ place. get_or table place 0) (zip2 (λ a b. a / 2 ^ b) octets (replicate 16 4)) → found ≡ map (λ octet. get_or table (octet / 16) 0) octets
found_high table octets found long got =
    got ∙ ap (map (λ place. get_or table place 0)) (zip2_splat (λ a b. a / 2 ^ b) octets 16 4 long) ∙ map-map (λ place. get_or table place 0) (λ octet. octet / 16) octets

low_half : (octets : List ℕ) → map (λ octet. bit_and octet 15) octets ≡ map (λ octet. octet % 16) octets
low_half octets = ap (λ f. map f octets) (λ i octet. and_mask octet 4 i)

pub found_low : (table octets found : List ℕ) → length octets ≡ 16
    → found ≡ map (λ place. get_or table place 0) (zip2 bit_and octets (replicate 16 15)) → found ≡ map (λ octet. get_or table (octet % 16) 0) octets
found_low table octets found long got =
    got ∙ ap (map (λ place. get_or table place 0)) (zip2_splat bit_and octets 16 15 long ∙ low_half octets) ∙ map-map (λ place. get_or table place 0) (λ octet. octet % 16) octets
