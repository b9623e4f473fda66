use Rattle.std.proofs.Common.{◌≡◌, List, ℕ, Option, Some, None, option_map, MatchOption, ◌≢◌, ◌++◌, Bor, sym, ap, ◌∙◌}
use Rattle.std.proofs.lemmas.Bool.Decides.{Decides-eqb}
use Rattle.std.proofs.lemmas.Slice.Eq.{strip_prefix_is}
use Rattle.report_reader.specs.Reading.{behind}
use Rattle.report_reader.proofs.WordLemmas.{behind_word, behind_none}
use Rattle.report_reader.proofs.cut.behind.Goals as goal

stripped : (word octets : List ℕ) (found : Option (Bor (List ℕ))) → MatchOption found ((rest : List ℕ) → octets ≢ word ++ rest) (λ rest. octets ≡ word ++ rest.now)
    → option_map (λ (rest : Bor (List ℕ)). rest.now) found ≡ behind word octets
stripped word octets None missing = sym (behind_none word octets missing)
stripped word octets (Some rest) there = sym (ap (behind word) there ∙ behind_word word rest.now)

pub returns : goal.returns
returns c = stripped c.args.word.now c.args.octets.now c.strip_prefix.result (strip_prefix_is Decides-eqb c.args.octets.now c.args.word.now c.strip_prefix.result c.strip_prefix.ensures.cases)
