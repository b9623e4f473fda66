use Rattle.std.proofs.Common.{rules, ◌<◌, length, None, arith}
use Rattle.leg_table.proofs.DueBoundLemmas.{bounds_with, keys_without}
use Rattle.leg_table.proofs.keyed_legs.KeyedLegs.remove.Goals as goal

pub invariant_of-self : goal.invariant_of-self
invariant_of-self c =
    let inside : c.to_index.result < length c.self.inside.legs.items = search rules in
    record {
      found = keys_without c.self.inside.lines c.self.inside.legs.items c.self.inside.keys.items c.to_index.result c.key_index.result c.args.x.line c.args.x.place c.self.invariant.found c.to_index.ensures c.key_index.ensures c.requires.place inside;
      due = bounds_with c.self.inside.timers c.self.inside.legs.items c.self.inside.bounds c.self.inside.bounds c.self.invariant.due c.self.invariant.due.places (λ place near. omega arith)
          c.to_index.result c.args.x.line c.args.x.place c.to_index.ensures c.requires.place inside None (λ frame early. tt);
    }
