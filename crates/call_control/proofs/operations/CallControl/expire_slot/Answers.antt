use Rattle.std.proofs.Common.{◌≡◌, Some, sym, ◌∙◌}
use Rattle.call_profile.specs.Legs.{leg_at}
use Rattle.call_control.proofs.ExpireMakingLemmas.{cause_of_leg}
use Rattle.call_control.proofs.RestartMakingLemmas.{peer_is_there}
use Rattle.call_control.proofs.operations.CallControl.expire_slot.Goals as goal

pub on_expiry-requires-clause-peer_there : goal.on_expiry-requires-clause-peer_there
on_expiry-requires-clause-peer_there g c =
    let s = c.requires.work.0 in
    let work = c.requires.work.4 in
    let now = c.args.self.now in
    let at : leg_at now.legs c.args.x ≡ Some c.in-Some.leg = sym c.get.ensures.found ∙ c.in-Some.is in
    peer_is_there s.dimensions s.tones now.map now.legs c.requires.work.1 work.holds work.stand (record { slot = c.args.x; leg = c.in-Some.leg }) c.requires.external at c.peer_of-peer.result c.peer_of-peer.ensures

pub on_expiry-requires-clause-cause : goal.on_expiry-requires-clause-cause
on_expiry-requires-clause-cause g c =
    let s = c.requires.work.0 in
    let work = c.requires.work.4 in
    let now = c.args.self.now in
    let at : leg_at now.legs c.args.x ≡ Some c.in-Some.leg = sym c.get.ensures.found ∙ c.in-Some.is in
    cause_of_leg s.dimensions s.tones now.map now.legs c.requires.work.1 work.holds work.stand (record { slot = c.args.x; leg = c.in-Some.leg }) c.requires.external at
