use Rattle.std.proofs.Common.{rules, ℕ, ◌+◌, ◌-◌, List, get_or, length, sym, ap, ◌∙◌, arith}
use Rattle.call_processor.proofs.PartLemmas.{part_at, segment_at, before_end_first, before_end_later, order_of_ends}
use Rattle.call_processor.proofs.segment.event_range.Goals as goal

pub returns-then-segment-eq0-clause-parts : goal.returns-then-segment-eq0-clause-parts
returns-then-segment-eq0-clause-parts c = λ worker.
    let ends = c.args.trace.now.segments in
    let k = c.args.segment in
    part_at c.args.trace.now k worker c.requires.sound.segments c.requires.segment _ _
    (ap (λ (n : ℕ). n + 1) (sym (before_end_first ends k (search rules)))) (ap (λ (l : List ℕ). get_or l k 0 + 1) c.as_slice-ends.ensures)

pub returns-then-segment-eq0-clause-all : goal.returns-then-segment-eq0-clause-all
returns-then-segment-eq0-clause-all c =
    let ends = c.args.trace.now.segments in
    let k = c.args.segment in
    segment_at c.args.trace.now k c.requires.sound.segments c.requires.segment _ _
    (ap (λ (n : ℕ). n + 1) (sym (before_end_first ends k (search rules)))) (ap (λ (l : List ℕ). get_or l k 0 + 1) c.as_slice-ends.ensures)

pub returns-clause-all : goal.returns-clause-all
returns-clause-all c =
    let ends = c.args.trace.now.segments in
    let k = c.args.segment in
    let later = before_end_later ends k (search rules) in
    segment_at c.args.trace.now k c.requires.sound.segments c.requires.segment _ _
    (ap (λ (l : List ℕ). get_or l (k - 1) 0 + 1) c.as_slice-ends.ensures ∙ ap (λ (n : ℕ). n + 1) (sym later)) (ap (λ (l : List ℕ). get_or l k 0 + 1) c.as_slice-ends.ensures)

pub returns-then-segment-eq0-clause-events : goal.returns-then-segment-eq0-clause-events
returns-then-segment-eq0-clause-events c = λ n low high.
    let within = order_of_ends (length c.args.trace.now.events) c.args.trace.now.segments c.args.segment c.requires.sound.segments c.requires.segment in
    let last = within.0 in
    let same = ap (λ (l : List ℕ). get_or l c.args.segment 0) c.as_slice-ends.ensures in
    (low, omega (arith, high, last, same))

pub overflow_add-result-3 : goal.overflow_add-result-3
overflow_add-result-3 c =
    let within = order_of_ends (length c.args.trace.now.events) c.args.trace.now.segments c.args.segment c.requires.sound.segments c.requires.segment in
    let last = within.0 in
    let same = ap (λ (l : List ℕ). get_or l c.args.segment 0) c.as_slice-ends.ensures in
    let count = c.requires.sound.count in
    search rules

pub returns-clause-parts : goal.returns-clause-parts
returns-clause-parts c = λ worker.
    let ends = c.args.trace.now.segments in
    let k = c.args.segment in
    let later = before_end_later ends k (search rules) in
    part_at c.args.trace.now k worker c.requires.sound.segments c.requires.segment _ _
    (ap (λ (l : List ℕ). get_or l (k - 1) 0 + 1) c.as_slice-ends.ensures ∙ ap (λ (n : ℕ). n + 1) (sym later)) (ap (λ (l : List ℕ). get_or l k 0 + 1) c.as_slice-ends.ensures)

pub returns-clause-events : goal.returns-clause-events
returns-clause-events c = λ n low high.
    let within = order_of_ends (length c.args.trace.now.events) c.args.trace.now.segments c.args.segment c.requires.sound.segments c.requires.segment in
    let last = within.0 in
    let same = ap (λ (l : List ℕ). get_or l c.args.segment 0) c.as_slice-ends.ensures in
    (omega (arith, low), omega (arith, high, last, same))
