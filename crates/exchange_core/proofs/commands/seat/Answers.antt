use Rattle.std.proofs.Common.{◌≡◌, true, false, sym, arith}
use Rattle.std.proofs.lemmas.Bool.{ne_eqb}
use Rattle.std.proofs.lemmas.Grind.{common_steps}
use Rattle.call_profile.specs.IdleSlots.{idle}
use Rattle.call_profile.specs.World.{is_full}
use Rattle.call_control.proofs.ObeyLemmas.{seat_holds, seat_answer, full_is}
use Rattle.exchange_core.proofs.commands.seat.Goals as goal

false_is_no : false ≡ true → ⊥
false_is_no e = cc

pub returns-then-not-is_idle-clause-world : goal.returns-then-not-is_idle-clause-world
returns-then-not-is_idle-clause-world g c s w h =
    let taken : idle w c.args.x ≡ false = grind (arith, common_steps, c.is_idle.ensures.idle s.dimensions w h, c.if-not-is_idle.true) in
    rw taken h

pub returns-clause-reply : goal.returns-clause-reply
returns-clause-reply g c o s w h =
    let free : idle w c.args.x ≡ true = grind (arith, common_steps, c.is_idle.ensures.idle s.dimensions w h, c.if-not-is_idle.false) in
    let e = c.in-Ok.ensures in
    let port : is_full s.dimensions w ≡ false = sym (full_is s.dimensions _ _ w h false (sym (ne_eqb _ _ (λ full. false_is_no ((e.full w.holding w.ports h.circuits.holds).1 full))))) in
    rw (free, port) (seat_answer s.dimensions _ _ w h _ c.args.x c.args.room (c.in-Ok.there, c.in-Ok.back) e.holds e.moves)

pub returns-clause-world : goal.returns-clause-world
returns-clause-world g c s w h =
    let free : idle w c.args.x ≡ true = grind (arith, common_steps, c.is_idle.ensures.idle s.dimensions w h, c.if-not-is_idle.false) in
    let e = c.in-Ok.ensures in
    let port : is_full s.dimensions w ≡ false = sym (full_is s.dimensions _ _ w h false (sym (ne_eqb _ _ (λ full. false_is_no ((e.full w.holding w.ports h.circuits.holds).1 full))))) in
    rw (free, port) (seat_holds s.dimensions _ _ w h _ c.args.x c.args.room e.holds e.layout e.sizes)
