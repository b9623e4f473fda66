use Rattle.std.proofs.Common.{rules, sym, ap}
use Rattle.turn_lock.proofs.MoveLemmas.{open_keeps}
use Rattle.turn_lock.proofs.moves.Board.open.Goals as goal

pub new-requires : goal.new-requires
new-requires g c =
    let T = g.S.Stepper in
    let b = c.from.result in
    rw c.in-Ok.ensures.ok (open_keeps T.setting T.journal T.room T.reserved (T.setting c.of.result.value) b c.args.state (ap T.setting (sym c.of.ensures)) c.requires.empty (search rules) (search rules))
