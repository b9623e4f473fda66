use Rattle.std.proofs.Common.{◌∙◌, sym, rules}
use Rattle.std.proofs.lemmas.List.{with_items_is}
use Rattle.frame_buffer.proofs.Frames.{octet_back-one, octet_back-two}
use Rattle.frame_buffer.proofs.delay_line.DelayLine.push.Goals as goal

pub returns-clause-carries : goal.returns-clause-carries
returns-clause-carries c inputs carries =
    let before = rw (← c.self.view_is) at carries in
    record {
      latest = λ at line place. rw (with_items_is c.swap.new.x c.take_in.new.rows (search (rules, c.take_in.auto.rows, c.deref_mut.ensures.len))) (c.take_in.ensures at.line (search rules) at.place ∙ sym (octet_back-one inputs c.args.input.now at));
      earlier = λ at line place. rw c.swap.ensures.y_after (before.latest at line place ∙ sym (octet_back-two inputs c.args.input.now at));
    }
