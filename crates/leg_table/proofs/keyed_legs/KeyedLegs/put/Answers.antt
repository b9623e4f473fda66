use Rattle.std.proofs.Common.{rules, ◌<◌, length}
use Rattle.leg_table.proofs.DueBoundLemmas.{bounds_held, keys_with}
use Rattle.leg_table.proofs.keyed_legs.KeyedLegs.put.Goals as goal

pub invariant_of-self : goal.invariant_of-self
invariant_of-self c =
    let inside : c.to_index.result < length c.self.inside.legs.items = search rules in
    record {
      found = keys_with c.self.inside.lines c.self.inside.legs.items c.self.inside.keys.items c.to_index.result c.key_index.result c.args.x.line c.args.x.place c.key_of.result c.args.leg c.self.invariant.found
          c.to_index.ensures c.key_index.ensures c.requires.place inside c.requires.told c.key_of.ensures;
      due = bounds_held c.self.inside.timers c.self.inside.legs.items c.self.inside.bounds c.lower.new.bounds c.to_index.result c.args.x.line c.args.x.place c.due_from.result c.args.leg
          c.to_index.ensures c.requires.place inside c.lower.ensures.places c.lower.ensures.lower c.lower.ensures.here c.due_from.ensures c.self.invariant.due;
    }
