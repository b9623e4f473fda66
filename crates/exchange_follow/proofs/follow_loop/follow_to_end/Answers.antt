use Rattle.std.proofs.Common.{arith, ◌≤◌, ◌∙◌, ◌++◌, ◌+◌, ◌-◌, ℕ, List, length, take, drop, sym, subst, length-drop}
use Rattle.std.proofs.lemmas.List.{length-take-le}
use Rattle.line_wire.specs.Following.{HasNoFeed}
use Rattle.trace_text.specs.TraceWords.{lines}
use Rattle.line_wire.specs.declared.following.Following.TheVariants as ended
use Rattle.line_wire.proofs.Steps.{first_underway, IsUnderway_held_next, IsUnderway_read_more, IsUnderway_read_none, settled_of, unwritten_answer}
use Rattle.exchange_follow.proofs.FollowedEndings.{answered}
use Rattle.exchange_follow.proofs.follow_loop.follow_to_end.Goals as goal

pub read_after-requires-clause-settled : goal.read_after-requires-clause-settled
read_after-requires-clause-settled g c =
    let inv = c.loop-more.invariant in
    let (heard, u) = inv.underway in (
      heard,
      u.answered.said,
      u.answered.stood,
      c.requires.promise heard u.answered.said
          (answered (λ m. (goal.Meter-dyn g (m.vtable, m.value)).stands m.value) (λ m. (goal.Meter-dyn g (m.vtable, m.value)).text m.value) g.C.Carrier.carries g.C.Carrier.next g.C.Carrier.sizes g.C.Carrier.plays g.P.Fabric.slots g.P.Fabric.moves c.args.handler.now.on.items c.args.handler.now.spare.items c.loop-more.handler.on.items c.loop-more.handler.spare.items c.loop-more.handler.heading c.loop-more.handler.lines c.loop-more.handler.exchange c.loop-more.handler.linked heard u.answered.said
          (settled_of _ _ heard _ _ _ u inv.blank inv.partial)),
    )

pub returns-then-more-eq0-clause-ended : goal.returns-then-more-eq0-clause-ended
returns-then-more-eq0-clause-ended g c =
    let (heard, u) = c.loop-more.invariant.underway in
    let all : List ℕ = heard ++ take c.in-Ok.more (drop c.loop-more.held c.read_after.new.buffer) in
    let now = IsUnderway_read_none (g.W.Wire.stands c.loop-more.wire) (g.W.Wire.stands c.read_after.new.wire) _ heard
    c.loop-more.buffer c.read_after.new.buffer c.loop-more.text.items c.loop-more.held c.in-Ok.more c.loop-more.handler.lines c.if-more-eq0.true u
    c.in-Ok.ensures.before (c.in-Ok.ensures.heard heard) in
    let (said, stood, has) = c.handle_end.ensures.ended c.args.handler.now.on.items c.args.handler.now.spare.items all now in
    (all, said, stood, has)

pub handle_end-requires-clause-at : goal.handle_end-requires-clause-at
handle_end-requires-clause-at g c κs within =
    let (heard, u) = c.loop-more.invariant.underway in (
      c.args.handler.now.on.items,
      c.args.handler.now.spare.items,
      heard ++ take c.in-Ok.more (drop c.loop-more.held c.read_after.new.buffer),
      IsUnderway_read_none (g.W.Wire.stands c.loop-more.wire) (g.W.Wire.stands c.read_after.new.wire) _ heard
          c.loop-more.buffer c.read_after.new.buffer c.loop-more.text.items c.loop-more.held c.in-Ok.more c.loop-more.handler.lines c.if-more-eq0.true u
          c.in-Ok.ensures.before (c.in-Ok.ensures.heard heard),
    )

pub handle_lines-requires-clause-at : goal.handle_lines-requires-clause-at
handle_lines-requires-clause-at g c κs within =
    let (heard, u) = c.loop-more.invariant.underway in (
      c.args.handler.now.on.items,
      c.args.handler.now.spare.items,
      heard ++ take c.in-Ok.more (drop c.loop-more.held c.read_after.new.buffer),
      IsUnderway_read_more (g.W.Wire.stands c.loop-more.wire) (g.W.Wire.stands c.read_after.new.wire) _ heard
          c.loop-more.buffer c.read_after.new.buffer c.loop-more.text.items c.loop-more.held c.in-Ok.more c.loop-more.handler.lines u
          c.in-Ok.ensures.before (c.in-Ok.ensures.heard heard),
    )

pub returns-in-Err-handle_lines-clause-ended : goal.returns-in-Err-handle_lines-clause-ended
returns-in-Err-handle_lines-clause-ended g c =
    let (heard, u) = c.loop-more.invariant.underway in
    let all : List ℕ = heard ++ take c.in-Ok.more (drop c.loop-more.held c.read_after.new.buffer) in
    let now = IsUnderway_read_more (g.W.Wire.stands c.loop-more.wire) (g.W.Wire.stands c.read_after.new.wire) _ heard
    c.loop-more.buffer c.read_after.new.buffer c.loop-more.text.items c.loop-more.held c.in-Ok.more c.loop-more.handler.lines u
    c.in-Ok.ensures.before (c.in-Ok.ensures.heard heard) in
    let (said, stood, has) = c.in-Err-handle_lines.ensures.stopped c.args.handler.now.on.items c.args.handler.now.spare.items all now in
    (all, said, stood, has)

pub returns-in-Err-flush-clause-ended : goal.returns-in-Err-flush-clause-ended
returns-in-Err-flush-clause-ended g c =
    let (heard, u) = c.loop-more.invariant.underway in
    let all : List ℕ = heard ++ take c.in-Ok.more (drop c.loop-more.held c.read_after.new.buffer) in
    let bytes : List ℕ = take (c.loop-more.held + c.in-Ok.more) c.read_after.new.buffer in
    let now = IsUnderway_read_more (g.W.Wire.stands c.loop-more.wire) (g.W.Wire.stands c.read_after.new.wire) _ heard
    c.loop-more.buffer c.read_after.new.buffer c.loop-more.text.items c.loop-more.held c.in-Ok.more c.loop-more.handler.lines u
    c.in-Ok.ensures.before (c.in-Ok.ensures.heard heard) in
    let next = c.in-Ok-handle_lines.ensures.done c.args.handler.now.on.items c.args.handler.now.spare.items all now in
    let (front, back, is, stood) = c.in-Err-flush.ensures.front all next.answered.said next.answered.stood in
    let (unsaid, due) = unwritten_answer _ _ _ _ _ front back c.flush.new.text.items _ next.answered is c.flush.ensures.blank in
    let short = c.in-Ok-handle_lines.ensures.short in
    let few : length (drop c.in-Ok-handle_lines.taken bytes) ≤ 131072 = omega (arith, length-drop c.in-Ok-handle_lines.taken bytes, short) in
    (all, next.answered.said ++ front, stood, (ended.WriteFailed, unsaid, (lines next.whole, first_underway _ _ _ _ _ _ next few _, due)))

pub loop-more-preserved : goal.loop-more-preserved
loop-more-preserved g c =
    let inv = c.loop-more.invariant in
    let size = inv.size in
    let (heard, u) = inv.underway in
    let all : List ℕ = heard ++ take c.in-Ok.more (drop c.loop-more.held c.read_after.new.buffer) in
    let end = c.loop-more.held + c.in-Ok.more in
    let bytes : List ℕ = take end c.read_after.new.buffer in
    let taken = c.in-Ok-handle_lines.taken in
    let now = IsUnderway_read_more (g.W.Wire.stands c.loop-more.wire) (g.W.Wire.stands c.read_after.new.wire) _ heard
    c.loop-more.buffer c.read_after.new.buffer c.loop-more.text.items c.loop-more.held c.in-Ok.more c.loop-more.handler.lines u
    c.in-Ok.ensures.before (c.in-Ok.ensures.heard heard) in
    let next = c.in-Ok-handle_lines.ensures.done c.args.handler.now.on.items c.args.handler.now.spare.items all now in
    let moved = c.move_to_front.ensures.moved in
    let short = c.in-Ok-handle_lines.ensures.short in
    let long = length-take-le end c.read_after.new.buffer c.in-Ok.ensures.bound in
    record {
      size = c.move_to_front.ensures.size ∙ (c.in-Ok.ensures.size ∙ size);
      blank = c.flush.ensures.blank;
      within = omega (arith, short, long);
      few = c.in-Ok-handle_lines.ensures.few inv.few;
      partial = subst HasNoFeed (sym moved) c.in-Ok-handle_lines.ensures.partial;
      underway = (
        all,
        IsUnderway_held_next (g.W.Wire.stands c.handle_lines.new.wire) (g.W.Wire.stands c.flush.new.wire) _ all
            (drop taken bytes) (take (end - taken) c.move_to_front.new.buffer) c.handle_lines.new.text.items c.flush.new.text.items c.handle_lines.new.handler.lines
            next (c.in-Ok-flush.ensures.whole all) moved c.flush.ensures.blank,
      );
      steady = c.in-Ok-flush.ensures.steady ∙ (c.in-Ok-handle_lines.ensures.steady ∙ (c.in-Ok.ensures.writes ∙ inv.steady));
      reads = c.in-Ok-flush.ensures.reads ∙ (c.in-Ok-handle_lines.ensures.reads ∙ (c.in-Ok.ensures.steady ∙ inv.reads));
    }
