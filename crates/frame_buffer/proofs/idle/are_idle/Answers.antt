use Rattle.std.proofs.Common.{ℕ, ◌+◌, ◌<◌, length, Bool, not, false, map, eqb, sym, ap, ◌∙◌, arith, w8}
use Rattle.std.proofs.lemmas.Bool.{eqb-true, not-false}
use Rattle.std.proofs.lemmas.List.{get_or-map, length-map}
use Rattle.std.proofs.lemmas.Simd.{bitmask_splat, length-chunk, get_or-chunk, none_from_empty_mask}
use lib.Lanes.{chunk}
use Rattle.frame_buffer.proofs.IdleLanes.{empty_mask}
use Rattle.frame_buffer.proofs.idle.are_idle.Goals as goal

pub returns-clause-octets : goal.returns-clause-octets
returns-clause-octets c none at from to =
    let row = c.args.row.now in
    let first = c.args.from in
    let here = chunk first 16 row in
    let mask = bitmask_splat w8 (λ a b. not (eqb a b)) here 16 213 (length-chunk first 16 row c.requires) (omega arith) in
    let fails = none_from_empty_mask (λ x. not (eqb x 213)) row first 16 0 c.requires (sym mask ∙ eqb-true _ 0 none) at from to in
    eqb-true _ _ (not-false _ fails)

pub returns-clause-exact : goal.returns-clause-exact
returns-clause-exact c idle =
    let row = c.args.row.now in
    let first = c.args.from in
    let here = chunk first 16 row in
    let differs : ℕ → Bool = λ x. not (eqb x 213) in
    let size = length-chunk first 16 row c.requires in
    let mask = bitmask_splat w8 (λ a b. not (eqb a b)) here 16 213 size (omega arith) in
    let none = empty_mask (map differs here) (λ lane near.
    let in_map : lane < length here = omega (arith, near, length-map here differs) in
    let in_chunk : lane < 16 = omega (arith, in_map, size) in
    get_or-map differs here lane 0 false in_map ∙ ap differs (get_or-chunk first 16 row lane 0 in_chunk ∙ idle (first + lane) (omega arith) (omega (arith, in_chunk)))) in
    ap (λ n. eqb n 0) (mask ∙ none)
