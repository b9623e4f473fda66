-- How many events are done beside the largest part, with one worker more.
use Rattle.std.proofs.Common.{◌≡◌, ◌+◌, ◌≤◌, ℕ, max, min, List, [], ◌∷◌, ◌++◌, arith}
use Rattle.segment_run.specs.Choice.{events_beside, events_of_all, largest_part}

all_more : (ns : List ℕ) (n : ℕ) → events_of_all (ns ++ n ∷ []) ≡ events_of_all ns + n
all_more [] n = omega arith
all_more (m ∷ ns) n = let e = all_more ns n in omega (arith, e)

pub largest_more : (ns : List ℕ) (n : ℕ) → largest_part (ns ++ n ∷ []) ≡ max n (largest_part ns)
largest_more [] n = omega arith
largest_more (m ∷ ns) n = let e = largest_more ns n in omega (arith, e)

largest_within : (ns : List ℕ) → largest_part ns ≤ events_of_all ns
largest_within [] = omega arith
largest_within (n ∷ ns) = let e = largest_within ns in omega (arith, e)

pub beside_more : (ns : List ℕ) (n : ℕ) → events_beside (ns ++ n ∷ []) ≡ events_beside ns + min n (largest_part ns)
beside_more ns n =
    let a = all_more ns n in
    let b = largest_more ns n in
    let d = largest_within ns in
    omega (arith, a, b, d)
