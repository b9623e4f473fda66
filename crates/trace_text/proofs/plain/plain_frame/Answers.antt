use Rattle.std.proofs.Common.{rules, ◌≡◌, length}
use Rattle.std.proofs.lemmas.List.{with_items_is}
use Rattle.trace_text.specs.TracePlain.{TakesPart}
use Rattle.trace_text.proofs.SoundLemmas.{part_more}
use Rattle.trace_text.proofs.plain.plain_frame.Goals as goal

pub loop-rest-preserved : goal.loop-rest-preserved
loop-rest-preserved c =
    let now = c.plain_part.new.given in
    let takes : TakesPart c.loop-rest.input.items now c.loop-rest.rest.now c.in-Some.others.now = rw c.deref_mut.ensures.value at c.in-Some.ensures in
    let more = part_more _ _ now _ _ _ _ takes.cut c.loop-rest.invariant.wide (rw c.loop-rest.invariant.wide at takes.put) c.loop-rest.invariant.same in
    let whole : length now ≡ c.loop-rest.input.len = search rules in
    let is = with_items_is c.loop-rest.input now whole in
    record { wide = rw is more.0; same = rw is more.1; text = λ others. c.loop-rest.invariant.text (takes.text others) }
