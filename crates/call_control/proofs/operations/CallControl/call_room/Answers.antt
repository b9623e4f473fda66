use Rattle.std.proofs.Common.{[], ◌∷◌, Some, refl, subst}
use Rattle.q931_codec.specs.declared.kind.MessageKind.TheVariants as kind
use Rattle.q931_codec.specs.Outgoing.{outgoing_of}
use Rattle.call_states.specs.declared.leg.Leg.{Leg}
use Rattle.call_profile.specs.Acts.{answered, message_to}
use Rattle.call_profile.specs.Operations.{Seat, Send, making_after, making_after_all}
use Rattle.call_profile.specs.Setup.{call_proceeding}
use Rattle.call_control.specs.Standing.{Makes}
use Rattle.call_control.proofs.ActMakingLemmas.{answered_done}
use Rattle.call_control.proofs.MakingLemmas.{holds_with, makes_seat, makes_sent, makes_send}
use Rattle.call_profile.proofs.AcceptedSetupLemmas.{can_still}
use Rattle.call_control.proofs.operations.CallControl.call_room.Goals as goal

pub seat-requires : goal.seat-requires
seat-requires g c =
    let can = c.requires.can in record {
      can = (
        can.0,
        record can.1 { legs = c.put_answered.new.self.legs },
        holds_with can.0 c.args.self.now.map c.put_answered.new.self.map c.args.self.now.legs c.put_answered.new.self.legs can.1 can.2 c.put_answered.ensures.map,
        can_still can.0 can.1 c.args.caller.slot c.put_answered.new.self.legs can.3,
      );
    }

pub returns-clause-makes : goal.returns-clause-makes
returns-clause-makes g c d m makes =
    let leg = c.caller_leg-calling.result in
    let x = c.args.caller.slot in
    let told = call_proceeding c.args.caller.first x leg in
    let out = c.args.out.now in
    let start = c.args.self.now.legs in
    let held = answered_done d c.args.self.now.map c.put_answered.new.self.map start c.put_answered.new.self.legs out.sends out.moved start x leg leg refl refl c.put_answered.ensures.makes m makes in
    let m1 = making_after d m (answered start x leg) in
    let seated = makes_seat d c.put_answered.new.self.map c.seat.new.self.map c.put_answered.new.self.legs c.seat.new.self.legs out.sends out.sends out.moved (Some c.seat.result) m1 held x c.args.room (c.seat.ensures.holds d) (c.seat.ensures.moves d) in
    let m2 = making_after d m1 (Seat x c.args.room) in
    let map = c.seat.new.self.map in
    let legs = c.seat.new.self.legs in
    let first = makes_sent d map map legs legs out.sends c.send_proceeding.new.out.sends (Some c.seat.result) c.send_proceeding.new.out.moved m2 seated x.line told c.send_proceeding.ensures.sends c.send_proceeding.ensures.moved in
    let m3 = making_after d m2 (Send x.line told) in
    let second = makes_send d map map legs legs c.send_proceeding.new.out.sends c.send.new.out.sends c.send_proceeding.new.out.moved c.send.new.out.moved m3 first x.line (outgoing_of c.message_to.result) (message_to leg kind.Connect) c.message_to.ensures c.send.ensures.sends c.send.ensures.moved in
    subst (λ (l : Leg). Makes d map legs c.send.new.out.sends c.send.new.out.moved (making_after_all d m (answered start x l ∷ Seat x c.args.room ∷ Send x.line (call_proceeding c.args.caller.first x l) ∷ Send x.line (message_to l kind.Connect) ∷ []))) c.caller_leg-calling.ensures second
