use Rattle.std.proofs.Common.{rules, ◌≡◌, ◌∷◌, length, Ok}
use Rattle.std.proofs.lemmas.List.{with_items_is}
use Rattle.trace_text.specs.TraceLines.{with_part}
use Rattle.trace_text.specs.TraceWords.{words}
use Rattle.trace_text.proofs.SoundLemmas.{part_more}
use Rattle.trace_text.proofs.line.frame_of.Goals as goal

pub loop-word-preserved : goal.loop-word-preserved
loop-word-preserved c =
    let now = c.put_part.new.given in
    let cut : words c.loop-word.rest.now ≡ c.in-Some.word.now ∷ words c.in-Some.others.now = search rules in
    let put : with_part (length c.loop-word.input.items) c.loop-word.input.items c.in-Some.word.now ≡ Ok now = rw c.deref_mut.ensures.value at c.in_ok-put_part.ensures in
    let more = part_more _ _ now _ _ _ _ cut c.loop-word.invariant.wide (rw c.loop-word.invariant.wide at put) c.loop-word.invariant.same in
    let whole : length now ≡ c.loop-word.input.len = search rules in
    let is = with_items_is c.loop-word.input now whole in
    record { wide = rw is more.0; same = rw is more.1 }
