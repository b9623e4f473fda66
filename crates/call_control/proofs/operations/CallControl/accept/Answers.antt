use Rattle.std.proofs.Common.{subst, sym, ◌∙◌, ap}
use Rattle.call_profile.specs.Legs.{Legs, lowest_free_reference}
use Rattle.call_profile.specs.Operations.{making_at}
use Rattle.call_profile.specs.Setup.{await_digits, call_line, call_room}
use Rattle.call_control.specs.Asked.{asked_of}
use Rattle.call_control.specs.Choices.{IsWithin, accept_side}
use Rattle.call_control.proofs.SetupMakingLemmas.{makes_begun, makes_same, row_of}
use Rattle.call_control.proofs.operations.CallControl.accept.Goals as goal

pub lowest_free_reference-reference-requires : goal.lowest_free_reference-reference-requires
lowest_free_reference-reference-requires g c = record { line = row_of c.args.self.now.map c.args.self.now.legs c.in-Line.slot.line c.requires.count (subst (IsWithin c.args.self.now.map.external) c.in-Line.is c.requires.within).0 }

pub call_line-requires-clause-external_y : goal.call_line-requires-clause-external_y
call_line-requires-clause-external_y g c = subst (IsWithin c.args.self.now.map.external) c.in-Line.is c.requires.within

pub call_room-requires-clause-can : goal.call_room-requires-clause-can
call_room-requires-clause-can g c = c.requires.seats c.in-Room.room c.in-Room.is

pub returns-in-Line-clause-makes : goal.returns-in-Line-clause-makes
returns-in-Line-clause-makes g c d w holds =
    let now = c.args.self.now in
    let caller = c.args.caller in
    let asked = asked_of c.args.asked.now in
    let slot = c.in-Line.slot in
    let reference = c.lowest_free_reference-reference.ensures.reference ∙ ap (λ (ls : Legs). lowest_free_reference ls slot.line) holds.legs_are in
    makes_same d c.call_line.new.self.map c.call_line.new.self.legs c.call_line.new.out.sends c.call_line.new.out.moved (making_at w)
    (call_line caller.first caller.reference asked caller.slot slot c.lowest_free_reference-reference.result) (accept_side caller.first w caller.reference asked caller.slot c.args.called)
    (ap (accept_side caller.first w caller.reference asked caller.slot) c.in-Line.is ∙ (λ i. call_line caller.first caller.reference asked caller.slot slot (sym reference i)))
    (c.call_line.ensures.makes d (making_at w) (makes_begun d now.map now.legs c.args.out.now.sends c.args.out.now.moved w holds c.requires.fresh))

pub returns-in-Room-clause-makes : goal.returns-in-Room-clause-makes
returns-in-Room-clause-makes g c d w holds =
    let now = c.args.self.now in
    let caller = c.args.caller in
    let asked = asked_of c.args.asked.now in
    makes_same d c.call_room.new.self.map c.call_room.new.self.legs c.call_room.new.out.sends c.call_room.new.out.moved (making_at w)
    (call_room caller.first now.legs caller.reference caller.slot c.in-Room.room) (accept_side caller.first w caller.reference asked caller.slot c.args.called)
    (ap (accept_side caller.first w caller.reference asked caller.slot) c.in-Room.is ∙ (λ i. call_room caller.first (sym holds.legs_are i) caller.reference caller.slot c.in-Room.room))
    (c.call_room.ensures.makes d (making_at w) (makes_begun d now.map now.legs c.args.out.now.sends c.args.out.now.moved w holds c.requires.fresh))

pub returns-in-More-clause-makes : goal.returns-in-More-clause-makes
returns-in-More-clause-makes g c d w holds =
    let now = c.args.self.now in
    let caller = c.args.caller in
    let asked = asked_of c.args.asked.now in
    makes_same d c.await_digits.new.self.map c.await_digits.new.self.legs c.await_digits.new.out.sends c.await_digits.new.out.moved (making_at w)
    (await_digits caller.first caller.reference asked caller.slot) (accept_side caller.first w caller.reference asked caller.slot c.args.called)
    (ap (accept_side caller.first w caller.reference asked caller.slot) c.in-More.is)
    (c.await_digits.ensures.makes d (making_at w) (makes_begun d now.map now.legs c.args.out.now.sends c.args.out.now.moved w holds c.requires.fresh))
