use Rattle.std.proofs.Common.{◌≤◌, List, ℕ, eqb, length, w8, arith}
use Rattle.std.proofs.lemmas.Bool.Decides.{nat_tests}
use Rattle.std.proofs.lemmas.Simd.{bitmask_splat, length-chunk}
use Rattle.std.specs.Simd.Lanes.{chunk}
use Rattle.trace_text.proofs.TraceCuts.{near_found}
use Rattle.trace_text.proofs.cut.near_line_end.Goals as goal

pub returns : goal.returns
returns c =
    let bytes : List ℕ = c.args.bytes.now in
    let room : 32 ≤ length bytes = grind (arith, nat_tests) in
    let hits = bitmask_splat w8 eqb (chunk 0 32 bytes) 32 10 (length-chunk 0 32 bytes room) (omega arith) in
    near_found 10 bytes _ room hits (omega (arith, c.if-end-ge32.false))
