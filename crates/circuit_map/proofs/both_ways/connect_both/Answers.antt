use Rattle.std.proofs.Common.{◌≡◌, sym, subst, ⊎_elim}
use Rattle.control_memory.specs.Layout.{IsSlot, Joins}
use Rattle.circuit_map.proofs.Paths.{hop_of_no_inlet, path_to_no_outlet, no_inlet_joins, joins_no_outlet, two_more}
use Rattle.circuit_map.proofs.both_ways.connect_both.Goals as goal

pub connect-back-requires-clause-inlet : goal.connect-back-requires-clause-inlet
connect-back-requires-clause-inlet g c =
    let x = c.args.x in
    let y = c.args.y in
    hop_of_no_inlet _ y (λ b j. ⊎_elim
    (λ (old : Joins _ y b). no_inlet_joins _ y b c.requires.free_y.0 old)
    (λ (new : (y ≡ x) × (b ≡ y)). c.requires.distinct (sym new.0))
    ((c.connect-there.ensures.pairs y b c.requires.slot_y).0 j))

pub connect-back-requires-clause-outlet : goal.connect-back-requires-clause-outlet
connect-back-requires-clause-outlet g c =
    let x = c.args.x in
    let y = c.args.y in
    path_to_no_outlet _ _ x c.connect-there.ensures.legal.inlets (λ a inside j.
    let was : IsSlot (g.P.PathMap.width c.args.map.now) a = subst (λ w. IsSlot w a) c.connect-there.ensures.width inside in
    ⊎_elim
    (λ (old : Joins _ a x). joins_no_outlet _ a x was.1 c.requires.free_x.1 old)
    (λ (new : (a ≡ x) × (x ≡ y)). c.requires.distinct new.1)
    ((c.connect-there.ensures.pairs a x was).0 j))

pub returns-clause-pairs : goal.returns-clause-pairs
returns-clause-pairs g c a b inside =
    two_more (c.connect-there.ensures.pairs a b inside) (c.connect-back.ensures.pairs a b (subst (λ w. IsSlot w a) (sym c.connect-there.ensures.width) inside))
