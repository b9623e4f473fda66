use Rattle.std.proofs.Common.{sym, ◌∙◌, subst, ◌≡◌, false}
use Rattle.std.specs.Prelude.{nat_le, slice_index}
use Rattle.leg_table.proofs.DueBoundLemmas.{early_none, same_timers}
use Rattle.leg_table.proofs.keyed_legs.KeyedLegs.may_be_due.Goals as goal

pub returns : goal.returns
returns c early =
    early_none c.self.inside.timers c.args.timers.now c.self.inside.legs.items c.args.self.now c.self.inside.bounds c.args.place c.args.frame c.self.invariant.due
    (same_timers c.self.inside.timers c.args.timers.now (sym c.ne.ensures ∙ c.if-ne.false)) c.self.view_is c.requires.place
    (subst (λ k. nat_le (slice_index c.self.inside.bounds k) c.args.frame ≡ false) c.from.ensures early)
