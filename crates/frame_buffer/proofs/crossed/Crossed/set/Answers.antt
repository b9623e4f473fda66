use Rattle.std.proofs.Common.{ap, ◌<◌, rules}
use Rattle.frame_buffer.specs.Highways.{Highways}
use Rattle.frame_buffer.proofs.Rows.{get_or-set_other_place}
use Rattle.frame_buffer.proofs.crossed.Crossed.set.Goals as goal

pub returns-clause-others : goal.returns-clause-others
returns-clause-others c l s inside apart =
    let slots_is = ap (λ (g : Highways). g.slots) c.self.view_is in
    let here : s < c.self.inside.slots = search rules in
    let mine : c.args.slot < c.self.inside.slots = search rules in
    let kept = get_or-set_other_place c.self.inside.octets.items c.self.inside.slots c.args.line c.args.slot l s c.args.octet mine here apart in
    rw (← c.self.view_is) (search (rules, kept))
