use Rattle.std.proofs.Common.{◌++◌, List, ℕ, length, ap}
use Rattle.std.proofs.lemmas.List.{drop-replicate}
use Rattle.circuit_model.specs.FrameInput.{idle_octet}
use Rattle.report_text.proofs.digits.wide_row.Goals as goal

pub returns : goal.returns
returns c =
    let octets : List ℕ = c.args.octets.now in
    rw c.copy_from_slice.ensures.after (ap (λ (more : List ℕ). octets ++ more) (drop-replicate (length octets) 32 idle_octet))
