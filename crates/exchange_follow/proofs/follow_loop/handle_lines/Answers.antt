use Rattle.std.proofs.Common.{rules, arith, ◌∙◌, ◌∷◌, ℕ, List, length, ap, inr, length-append}
use Rattle.trace_text.specs.TraceWords.{lines}
use Rattle.exchange_follow.specs.Handling.{handler_dues}
use Rattle.line_wire.proofs.Steps.{behind_line, has_fed, if_err_is, stopped_next, underway_more, underway_same}
use Rattle.exchange_follow.proofs.follow_loop.handle_lines.Goals as goal

pub handle_line-requires-clause-at : goal.handle_line-requires-clause-at
handle_line-requires-clause-at g c κs within =
    let (old, old_spare, heard, u) = c.requires.at in
    let now = c.loop-line.invariant.underway old old_spare heard u in
    (old, old_spare, heard, lines now.whole, now.answered)

pub returns-in_err-handle_line-clause-stopped : goal.returns-in_err-handle_line-clause-stopped
returns-in_err-handle_line-clause-stopped g c =
    let inv = c.loop-line.invariant in
    let within = inv.within in
    let room = c.requires.room in
    if_err_is _ c.from_residual.result c.in_err-handle_line.field-0.0 (search rules)
    (λ old old_spare heard u. stopped_next (g.W.Wire.stands c.loop-line.wire) (g.W.Wire.stands c.handle_line.new.wire)
    (g.W.Wire.ended c.handle_line.new.wire)
    _
    (handler_dues (λ m. (goal.Meter-dyn g (m.vtable, m.value)).stands m.value) (λ m. (goal.Meter-dyn g (m.vtable, m.value)).text m.value) g.C.Carrier.carries g.C.Carrier.next g.C.Carrier.sizes g.C.Carrier.plays g.P.Fabric.slots g.P.Fabric.moves old old_spare c.handle_line.new.handler.on.items c.handle_line.new.handler.spare.items c.handle_line.new.handler.heading c.handle_line.new.handler.lines c.handle_line.new.handler.exchange c.handle_line.new.handler.linked)
    c.in_err-handle_line.field-0.0 heard c.loop-line.rest.now c.in-Some.line.now c.in-Some.others.now c.loop-line.text.items c.handle_line.new.text.items
    c.loop-line.handler.lines (inv.underway old old_spare heard u)
    (has_fed _ c.loop-line.rest.now c.in-Some.line.now c.in-Some.others.now c.in-Some.ensures.0 c.in-Some.ensures.1) (omega (arith, within, room))
    (c.in_err-handle_line.ensures.stopped old old_spare heard))

pub loop-line-preserved : goal.loop-line-preserved
loop-line-preserved g c =
    let inv = c.loop-line.invariant in
    let within = inv.within in
    let later = inv.later in
    let more = c.in_ok-handle_line.ensures.counted in
    let line = c.in-Some.line.now in
    let others = c.in-Some.others.now in
    let cut = ap (λ (l : List ℕ). length l) c.in-Some.ensures.0 in
    record {
      underway = λ old old_spare heard u. underway_more (g.W.Wire.stands c.loop-line.wire) (g.W.Wire.stands c.handle_line.new.wire)
          _ _ heard c.loop-line.rest.now line others
          c.loop-line.text.items c.handle_line.new.text.items c.loop-line.handler.lines c.handle_line.new.handler.lines (inv.underway old old_spare heard u)
          c.in-Some.ensures.0 c.in-Some.ensures.1 (c.in_ok-handle_line.ensures.done old old_spare heard);
      within = omega (arith, cut, within, length-append line (10 ∷ others));
      behind = behind_line c.args.bytes.now c.loop-line.rest.now line others inv.behind c.in-Some.ensures.0;
      counted = inr (omega (arith, later, more));
      later = omega (arith, later, more);
      few = λ few. c.in_ok-handle_line.ensures.few;
      steady = c.in_ok-handle_line.ensures.steady ∙ inv.steady;
      reads = c.in_ok-handle_line.ensures.reads ∙ inv.reads;
    }

pub handle_rest-requires-clause-at : goal.handle_rest-requires-clause-at
handle_rest-requires-clause-at g c κs within =
    let (old, old_spare, heard, u) = c.requires.at in
    (old, old_spare, heard, c.loop-line.invariant.underway old old_spare heard u)

pub returns-then-rest-le-MAX_LINE-clause-done : goal.returns-then-rest-le-MAX_LINE-clause-done
returns-then-rest-le-MAX_LINE-clause-done g c old old_spare heard u =
    underway_same _ _ heard c.loop-line.rest.now _ _ _ (c.loop-line.invariant.underway old old_spare heard u) c.loop-line.invariant.behind

pub returns-in-Err-clause-stopped : goal.returns-in-Err-clause-stopped
returns-in-Err-clause-stopped g c old old_spare heard u =
    c.in-Err.ensures.stopped old old_spare heard (c.loop-line.invariant.underway old old_spare heard u)
