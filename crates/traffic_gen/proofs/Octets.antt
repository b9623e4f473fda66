-- Octets that are drawn one by one.
use Rattle.std.proofs.Common.{◌≡◌, ℕ, zero, suc, ◌+◌, ◌-◌, ◌<◌, ◌≤◌, List, ◌∷◌, ◌++◌, length, take, slice_set, refl, arith}
use Rattle.std.proofs.lemmas.List.{append_assoc, append-nil, take_all, take_more_set}
use Rattle.traffic_gen.specs.Draws.{drawn, next_state, octets_drawn, state_after}

-- with more to draw, the first is drawn from the next state
pub octets_more : (count less state : ℕ) → less + 1 ≡ count → octets_drawn count state ≡ drawn 256 (next_state state) ∷ octets_drawn less (next_state state)
unfolding octets_drawn
octets_more zero less state e = absurd (omega arith)
octets_more (suc count) less state e = let same : count ≡ less = omega arith in rw same refl

pub state_more : (count less state : ℕ) → less + 1 ≡ count → state_after count state ≡ state_after less (next_state state)
unfolding state_after
state_more zero less state e = absurd (omega arith)
state_more (suc count) less state e = let same : count ≡ less = omega arith in rw same refl

-- one more octet is written
pub octet_step : (row : List ℕ) (place all state next octet : ℕ) → length row ≡ all → place < all → next ≡ next_state state → octet ≡ drawn 256 next
    → take (place + 1) (slice_set row place octet) ++ octets_drawn (all - (place + 1)) next ≡ take place row ++ octets_drawn (all - place) state
octet_step row place all state next octet wide within stepped drew =
    let more = octets_more (all - place) (all - (place + 1)) state (omega arith) in
    let written = take_more_set row place octet (omega arith) in
    rw (written, more, append_assoc, drew, stepped) refl

pub state_step : (place all state next : ℕ) → place < all → next ≡ next_state state
    → state_after (all - (place + 1)) next ≡ state_after (all - place) state
state_step place all state next within stepped =
    let more = state_more (all - place) (all - (place + 1)) state (omega arith) in
    rw (more, stepped) refl

-- all are written
pub octets_done : (row : List ℕ) (place all state : ℕ) → length row ≡ all → all ≤ place → take place row ++ octets_drawn (all - place) state ≡ row
unfolding octets_drawn
octets_done row place all state wide over =
    let none : all - place ≡ 0 = omega arith in
    let whole = take_all place row (omega arith) in
    rw (none, whole) (append-nil row)

pub state_done : (place all state : ℕ) → all ≤ place → state_after (all - place) state ≡ state
unfolding state_after
state_done place all state over =
    let none : all - place ≡ 0 = omega arith in
    rw none refl
