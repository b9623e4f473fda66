use Rattle.std.proofs.Common.{rules, ◌≡◌, length, ap, arith}
use Rattle.seat_history.specs.declared.seat_knowledge.SeatKnowledge.{SeatKnowledge}
use Rattle.exchange_tests.proofs.tests.by_turns.Goals as goal

pub close-requires-clause-all : goal.close-requires-clause-all
close-requires-clause-all g c =
    let fresh : c.in_ok-exchange.zero.known.made ≡ length c.in_ok-exchange.zero.known.kept = search rules in
    let made = ap (λ (k : SeatKnowledge). k.made) c.split-one.ensures.old in
    let kept = ap (λ (k : SeatKnowledge). length k.kept) c.split-one.ensures.old in
    let same = c.are_answered-answered.ensures.seats in
    let same_made = same.0 in
    let same_kept = same.1 in
    let joined_made = ap (λ (k : SeatKnowledge). k.made) c.join.ensures.seat in
    let joined_kept = ap (λ (k : SeatKnowledge). length k.kept) c.join.ensures.seat in
    omega (arith, fresh, made, kept, same_made, same_kept, joined_made, joined_kept)
