use Rattle.std.proofs.Common.{List, ℕ, ◌++◌, ◌-◌, ◌∙◌, length, take, drop}
use Rattle.std.proofs.lemmas.Simd.{pick_l_whole}
use Rattle.report_text.proofs.Woven.{ends_of, length-ends}
use Rattle.report_text.proofs.digits.two_eights.Goals as goal

pub returns : goal.returns
returns c =
    let octets : List ℕ = c.args.octets.now in
    pick_l_whole 0 (take 8 octets ++ take 8 (drop (length octets - 8) octets)) 16 (length-ends 8 octets c.requires) ∙ ends_of 8 octets c.requires
