use Rattle.std.proofs.Common.{◌≡◌, ℕ, ◌*◌, ◌∙◌, List, replicate, ap, length, get_or, rules}
use Rattle.std.proofs.lemmas.List.{length-replicate, get_or-replicate}
use Rattle.control_memory.specs.declared.heard.Heard.TheVariants.{Silent}
use Rattle.control_memory.specs.HeardRows.{heard_on}
use Rattle.control_memory.proofs.HeardLines.{get_or-replicate_nothing_heard, no_tones}
use Rattle.control_memory.proofs.heard_table.HeardTable.new.Goals as goal

pub returns : goal.returns
returns c = search rules

pub invariant_of-result : goal.invariant_of-result
invariant_of-result c =
    let silence = returns c in
    let none : c.in_ok-vec-2.field-0.items ≡ replicate c.args.lines 0 = search rules in
    let many : length c.in_ok-vec-2.field-0.items ≡ c.args.lines = ap length none ∙ length-replicate c.args.lines 0 in
    record {
      size = ap length silence ∙ length-replicate (30 * c.args.lines) Silent;
      silent = λ line inside unmarked place near. ap (λ l. heard_on l line place) silence ∙ get_or-replicate_nothing_heard (30 * c.args.lines) _;
      words = many;
      toned = λ line inside.
          let word : get_or c.in_ok-vec-2.field-0.items line 0 ≡ 0 = ap (λ (l : List ℕ). get_or l line 0) none ∙ get_or-replicate c.args.lines line 0 0 inside in
          no_tones _ line _ (λ k. ap (λ l. get_or l k Silent) silence ∙ get_or-replicate_nothing_heard (30 * c.args.lines) k) word;
    }
