use Rattle.std.proofs.Common.{◌≡◌, ◌+◌, add-one, rules, true}
use Rattle.std.proofs.lemmas.List.{take_rest}
use Rattle.report_reader.specs.Spelling.{is_unbroken}
use Rattle.report_reader.proofs.FeedLemmas.{IsCut_first, is_unbroken_none_found}
use Rattle.report_reader.proofs.report.first_line.Goals as goal

pub returns-in_err-end : goal.returns-in_err-end
returns-in_err-end c = let whole : is_unbroken c.args.bytes.now ≡ true = is_unbroken_none_found c.args.bytes.now c.in_err-end.ensures in search (rules, whole)

pub returns : goal.returns
returns c =
    let cut = IsCut_first c.args.bytes.now c.in_ok-end.end c.in_ok-end.ensures in
    rw (take_rest c.args.bytes.now (c.in_ok-end.end + 1), add-one) (cut.there, cut.first)
