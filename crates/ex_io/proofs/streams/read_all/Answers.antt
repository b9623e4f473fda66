use Rattle.std.proofs.Common.{ℕ, ◌+◌, ◌≤◌, List, ◌++◌, length, Option, arith, length-append, rules}
use Rattle.std.specs.Io.KnownBytes.{Consumes}
use Rattle.std.proofs.KnownBytes.{Consumes-trans}
use Rattle.std.proofs.lemmas.Result.{err_from_is_err_and}
use Rattle.ex_io.specs.Streams.{ConsumesAtMost}
use Rattle.ex_io.proofs.streams.read_all.Goals as goal

-- what was read before, and then one piece more
lost_more : (limit piece : ℕ) (old mid new : Option (List ℕ)) (bytes more : List ℕ) → length bytes ≤ limit → length more ≤ piece → Consumes old mid bytes → Consumes mid new more → ConsumesAtMost (limit + piece) old new
lost_more limit piece old mid new bytes more few one front next =
    (bytes ++ more, omega (arith, length-append bytes more, few, one), Consumes-trans old mid new bytes more front next)

pub returns-in_err-extend_from_slice-clause-lost :
    goal.returns-in_err-extend_from_slice-clause-lost
returns-in_err-extend_from_slice-clause-lost g c =
    let told = err_from_is_err_and c.from_residual-in_err-extend_from_slice.result c.from_residual-in_err-extend_from_slice.ensures.1 in
    rw told.1 (lost_more _ _ _ _ _ _ _ (search rules) (search rules) c.loop-piece.invariant.front c.in_ok-count.ensures.next)
