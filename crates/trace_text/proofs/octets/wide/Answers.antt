use Rattle.std.proofs.Common.{◌++◌, List, ℕ, length, ap}
use Rattle.std.proofs.lemmas.List.{drop-replicate}
use Rattle.trace_text.proofs.octets.wide.Goals as goal

pub returns : goal.returns
returns c =
    let digits : List ℕ = c.args.digits.now in
    rw c.copy_from_slice.ensures.after (ap (λ (more : List ℕ). digits ++ more) (drop-replicate (length digits) 32 48))
