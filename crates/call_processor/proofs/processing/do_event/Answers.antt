use Rattle.std.proofs.Common.{[], refl, arith, length-take-le}
use Rattle.exchange_events.specs.Responses.{reply_of}
use Rattle.exchange_core.specs.Boards.{turns_of}
use Rattle.seat_history.specs.Histories.{before}
use Rattle.call_processor.specs.declared.worked.Placed.{Placed}
use Rattle.call_processor.specs.Keeping.{placed}
use Rattle.call_processor.proofs.AloneLemmas.{next_alone}
use Rattle.call_processor.proofs.EventLemmas.{Next, answer_next}
use Rattle.call_processor.proofs.KeepingLemmas.{on_ok}
use Rattle.call_processor.proofs.processing.do_event.Goals as goal

pub returns-clause-kept : goal.returns-clause-kept
returns-clause-kept g c =
    let K = g.B.Switchboard.known in
    let board = g.B.Switchboard.board c.args.cx.now.board.now in
    let place = c.handle_into-place.result.0 in
    let history = before place (K c.handle_into-place.new.seat).seen in
    let p : Placed = placed place c.args.event c.handle_into-place.result.1 c.handle_into-place.new.context.out [] in
    let last = c.handle_into-place.ensures.done.place in
    let next : Next history c.args.event place (K c.args.seat.now) (K c.handle_into-place.new.seat) = record {
      seat = c.handle_into-place.ensures.done.seat;
      begins = c.handle_into-place.ensures.done.begins;
      place_is = length-take-le place (K c.handle_into-place.new.seat).seen (omega (arith, last));
      turn = c.requires.turn;
      exact = c.handle_into-place.ensures.done.own;
    } in
    on_ok c.push.result (λ kept. record {
      answer = p;
      place = last;
      event_is = refl;
      is = answer_next board history (K c.args.seat.now) (K c.handle_into-place.new.seat) p (reply_of c.handle_into-place.result.1 c.handle_into-place.new.context.out) next c.handle_into-place.ensures.done.reply c.handle_into-place.ensures.done.few refl;
      said = refl;
      held = kept;
    }) c.push.ensures.kept

pub returns-clause-next : goal.returns-clause-next
returns-clause-next g c = λ only.
    let K = g.B.Switchboard.known in
    next_alone (turns_of (g.B.Switchboard.board c.args.cx.now.board.now)) (before c.handle_into-place.result.0 (K c.handle_into-place.new.seat).seen) c.args.event (K c.args.seat.now) (K c.handle_into-place.new.seat)
    c.handle_into-place.ensures.done.seat (c.handle_into-place.ensures.done.alone only.0 only.1) (c.handle_into-place.ensures.done.settled only.0)
