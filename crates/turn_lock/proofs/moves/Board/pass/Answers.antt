use Rattle.std.proofs.Common.{rules}
use Rattle.turn_lock.proofs.MoveLemmas.{pass_keeps}
use Rattle.turn_lock.proofs.moves.Board.pass.Goals as goal

pub fetch_add-ticket-requires : goal.fetch_add-ticket-requires
fetch_add-ticket-requires g c = let kept = c.requires.keeps in let st = kept.state in (search rules, search rules, pass_keeps _ _ _ _ _ _ _ _ _ kept.served.0 st.0 kept.live kept.served.1 st.1 st.2)
