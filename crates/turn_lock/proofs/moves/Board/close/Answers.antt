use Rattle.std.proofs.Common.{rules, ◌≡◌, ℕ, zero, suc, ◌<◌, Bool, false, List, [], ◌∷◌, get_or, set, refl, sym, ap, ◌∙◌, subst, arith}
use Rattle.std.specs.Mem.Slots.{slots_filled, slots_len}
use Rattle.turn_lock.specs.Moves.{IsEnd}
use Rattle.turn_lock.proofs.MoveLemmas.{close_gives, state_in}
use Rattle.turn_lock.proofs.moves.Board.close.Goals as goal

pub take-state-requires : goal.take-state-requires
take-state-requires g c =
    let one : slots_len c.close_with-closed.result.slots ≡ 1 = search rules in
    let full = c.close_with-closed.ensures.values.1 0 (omega arith) (omega (arith, one)) in
    (omega (arith, one), search (rules, full))

-- the one slot is empty
emptied : (filled : List Bool) (k n : ℕ) → n ≡ 1 → k < n → get_or (set filled 0 false) k false ≡ false
emptied [] k n one within = refl
emptied (b ∷ filled) zero n one within = refl
emptied (b ∷ filled) (suc k) n one within = absurd (omega (arith, one, within))

pub free-requires : goal.free-requires
free-requires g c = λ k within.
    let one : slots_len c.take-state.new.self.slots ≡ 1 = search rules in
    ap (λ (filled : List Bool). get_or filled k false) c.take-state.ensures.others.1 ∙ emptied (slots_filled c.close_with-closed.result.slots) k _ one within

pub unreachable-requires : goal.unreachable-requires
unreachable-requires g c = let free = c.requires.chief.0 in let x = close_gives _ _ _ _ _ _ _ _ free.live free.stage free.none_due c.requires.chief.1 c.requires.all _ _ c.close_with-closed.ensures.values.2 _ c.in-None.ensures.value in cc x.1

pub returns : goal.returns
returns g c = let free = c.requires.chief.0 in let x = close_gives _ _ _ _ _ _ _ _ free.live free.stage free.none_due c.requires.chief.1 c.requires.all _ _ c.close_with-closed.ensures.values.2 _ c.in-Some.ensures.value in
    record { state = subst (IsEnd g.S.Stepper.setting g.S.Stepper.journal c.args.seat.me.0) (sym (ap (state_in x.0) x.1)) x.2 }
