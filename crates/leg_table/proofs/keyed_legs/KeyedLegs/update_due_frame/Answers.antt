use Rattle.std.proofs.Common.{rules, ◌≡◌}
use Rattle.leg_table.proofs.DueBoundLemmas.{bounds_anew}
use Rattle.leg_table.proofs.keyed_legs.KeyedLegs.update_due_frame.Goals as goal

pub invariant_of-self : goal.invariant_of-self
invariant_of-self c =
    let legs : c.deref.result.now ≡ c.self.inside.legs.items = search rules in
    record {
      found = c.self.invariant.found;
      due = rw c.from.ensures
          (bounds_anew c.self.inside.timers c.self.inside.legs.items c.self.inside.bounds c.self.invariant.due c.self.inside.lines c.args.place c.due_from_at-first.result c.self.invariant.found.slots c.requires.place
          (rw legs at c.due_from_at-first.ensures));
    }
