use Rattle.std.proofs.Common.{List, ℕ, ◌++◌, ◌-◌, ◌∙◌, length, take, drop}
use Rattle.std.proofs.lemmas.Simd.{pick_l_whole}
use Rattle.report_text.proofs.Woven.{ends_of, length-ends}
use Rattle.report_text.proofs.digits.two_fours.Goals as goal

pub returns : goal.returns
returns c =
    let octets : List ℕ = c.args.octets.now in
    pick_l_whole 0 (take 4 octets ++ take 4 (drop (length octets - 4) octets)) 8 (length-ends 4 octets c.requires) ∙ ends_of 4 octets c.requires
