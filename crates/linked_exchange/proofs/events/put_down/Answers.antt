use Rattle.std.proofs.Common.{refl, ◌∙◌, arith}
use Rattle.linked_exchange.proofs.AtLemmas.{down_all, down_more, down_same, external_at, frames_at}
use Rattle.linked_exchange.proofs.events.put_down.Goals as goal

pub loop-line-init : goal.loop-line-init
loop-line-init g c = record { down = λ s w given at. record { state = w; at = at; time = refl; rest = refl }; bound = refl }

pub change_link-requires-clause-at : goal.change_link-requires-clause-at
change_link-requires-clause-at g c lifetimes outlive =
    let (s, w, given, at) = c.requires.at in
    let h = c.loop-line.invariant.down s w given at in
    (s, h.state, given, h.at)

pub change_link-requires-clause-line : goal.change_link-requires-clause-line
change_link-requires-clause-line g c lifetimes outlive =
    let (s, w, given, at) = c.requires.at in
    let h = c.loop-line.invariant.down s w given at in
    let lines = c.requires.lines in
    let few = at.few in
    let within = c.loop-line-test.true in
    let before = external_at g.C.Carrier.carries g.C.Carrier.next g.C.Carrier.sizes c.args.exchange.now s w at in
    let after = external_at g.C.Carrier.carries g.C.Carrier.next g.C.Carrier.sizes c.loop-line.exchange s h.state h.at in
    omega (arith, lines, few, within, before, after)

pub change_link-requires-clause-room : goal.change_link-requires-clause-room
change_link-requires-clause-room g c lifetimes outlive =
    let (s, w, given, at) = c.requires.at in
    let h = c.loop-line.invariant.down s w given at in
    let room = c.requires.room in
    let time = h.time in
    let before = frames_at g.C.Carrier.carries g.C.Carrier.next g.C.Carrier.sizes c.args.exchange.now s w at in
    let after = frames_at g.C.Carrier.carries g.C.Carrier.next g.C.Carrier.sizes c.loop-line.exchange s h.state h.at in
    omega (arith, room, time, before, after)

pub loop-line-preserved-then-not-linked-line : goal.loop-line-preserved-then-not-linked-line
loop-line-preserved-then-not-linked-line g c = record {
  down = λ s w given at.
      down_same g.C.Carrier.carries g.C.Carrier.next g.C.Carrier.sizes c.args.linked.now c.loop-line.line _ s w c.loop-line-test.true c.loop-line.exchange c.if-not-linked-line.true (c.loop-line.invariant.down s w given at);
  bound = c.loop-line.invariant.bound;
}

pub loop-line-preserved : goal.loop-line-preserved
loop-line-preserved g c = record {
  down = λ s w given at.
      let h = c.loop-line.invariant.down s w given at in
      down_more g.C.Carrier.carries g.C.Carrier.next g.C.Carrier.sizes c.args.linked.now c.loop-line.line _ s w c.loop-line-test.true c.loop-line.exchange c.change_link.new.exchange c.if-not-linked-line.false
      h (c.change_link.ensures.world s h.state given h.at);
  bound = c.change_link.ensures.bound ∙ c.loop-line.invariant.bound;
}

pub returns-clause-world : goal.returns-clause-world
returns-clause-world g c s w given at =
    down_all g.C.Carrier.carries g.C.Carrier.next g.C.Carrier.sizes c.loop-line.exchange c.args.linked.now c.loop-line.line s w c.loop-line-test.false (c.loop-line.invariant.down s w given at)
