use Rattle.std.proofs.Common.{◌≡◌, ◌≢◌, refl}
use Rattle.std.proofs.lemmas.Bool.Decides.{Decides-eqb}
use Rattle.std.proofs.lemmas.Slice.Eq.{slice_eq-Decides}
use Rattle.run_verifier.specs.Checking.{divider}
use Rattle.run_verifier.proofs.Divisions.{divided_later, IsDivided_here, goes_then}
use Rattle.run_verifier.proofs.checking.divided.Goals as goal

pub loop-rest-preserved : goal.loop-rest-preserved
loop-rest-preserved c =
    let other : c.first_line.result.0.now ≢ divider =
    λ same. let yes = (slice_eq-Decides Decides-eqb c.first_line.result.0.now divider _ c.if-eq.ensures).1 same in cc in
    goes_then c.args.bytes.now c.loop-rest.rest.now c.first_line.result.1.now c.loop-rest.invariant
    (divided_later c.loop-rest.rest.now c.first_line.result.0.now c.first_line.result.1.now other c.first_line.ensures)

pub returns-then-eq : goal.returns-then-eq
returns-then-eq c =
    let same : c.first_line.result.0.now ≡ divider = (slice_eq-Decides Decides-eqb c.first_line.result.0.now divider _ c.if-eq.ensures).0 refl in
    IsDivided_here c.args.bytes.now c.loop-rest.rest.now c.first_line.result.0.now c.first_line.result.1.now c.loop-rest.invariant c.first_line.ensures same
