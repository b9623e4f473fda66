use Rattle.std.proofs.Common.{rules, IsTrue, subst}
use Rattle.seat_history.specs.Histories.{before, unseen}
use Rattle.exchange_core.specs.Boards.{Board, NoFrames}
use Rattle.turn_lock.specs.Locks.{Lock, SeatAt}
use Rattle.shared_exchange.proofs.shared.SharedExchangeSwitchboard.handle_into.Goals as goal

pub returns-clause-done : goal.returns-clause-done
returns-clause-done g c = record {
  sound = search rules;
  seat = search rules;
  place = search rules;
  below = search rules;
  begins = search rules;
  own = search rules;
  frames =
      let lock = c.self.inside.lock in
      let history = before c.step.result.0 c.step.new.seat.known.seen in
      subst (λ (l : Lock Board). IsTrue c.args.seat.now.known.baton → NoFrames l.setting.trace (unseen c.args.seat.now.known.seen history)) c.self.view_is
      (subst (λ (s : SeatAt Board). IsTrue s.known.baton → NoFrames lock.setting.trace (unseen s.known.seen history)) c.seat.view_is c.step.ensures.reserved);
  settled = search rules;
  alone = search rules;
  reply = search rules;
  few = search rules;
  shows = search rules;
  tool = search rules;
}
