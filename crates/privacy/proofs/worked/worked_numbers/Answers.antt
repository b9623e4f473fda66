use Rattle.std.proofs.Common.{ℕ, List, [], ◌∷◌, refl, arith, true, inr, take}
use Rattle.q931_elements.specs.Reading.{elements_of, elements_within}
use Rattle.q931_codec.specs.declared.kind.MessageKind.TheVariants as kind
use Rattle.call_states.specs.declared.leg.Leg.{Leg}
use Rattle.call_states.specs.declared.leg.Peer.TheVariants as peer
use Rattle.exchange_events.specs.declared.trace.Event.TheVariants.{Message as Message_event}
use Rattle.call_profile.specs.Legs.{slots_of}
use Rattle.call_profile.specs.Restarts.{outcome_below}
use Rattle.call_profile.specs.WorkedCalls.{at}
use Rattle.call_profile.specs.WorkedDigits.{room_later}
use Rattle.privacy.specs.Dialling.{At_once, Bit_by_bit}
use Rattle.privacy.specs.Worked.{answered_elsewhere, caller_leg, called_leg, dialling_leg}
use Rattle.privacy.proofs.worked.worked_numbers.Goals as goal

digits : List ℕ
digits = 0x08 ∷ 0x02 ∷ 0x00 ∷ 0x01 ∷ 0x7B ∷ 0x70 ∷ 0x02 ∷ 0x80 ∷ 0x30 ∷ []

first_digit : List ℕ
first_digit = 0x08 ∷ 0x02 ∷ 0x00 ∷ 0x01 ∷ 0x05 ∷ 0x04 ∷ 0x03 ∷ 0x80 ∷ 0x90 ∷ 0xA3 ∷ 0x18 ∷ 0x03 ∷ 0xA9 ∷ 0x83 ∷ 0x81 ∷ 0x70 ∷ 0x02 ∷ 0x80 ∷ 0x33 ∷ []

pub returns-clause-member : goal.returns-clause-member
unfolding digits first_digit elements_of elements_within slots_of
returns-clause-member c = inr (record {
  before = take 1 room_later;
  after = [];
  octets = digits;
  called = 0x80 ∷ 0x33 ∷ 0x30 ∷ [];
  reference = 1;
  whole = refl;
  dials = Bit_by_bit _ _ (0x80 ∷ 0x33 ∷ []) refl refl refl refl (record {
    before = [];
    after = [];
    octets = first_digit;
    setup = _;
    whole = refl;
    asked = refl;
    own = refl;
    waits = (dialling_leg, refl, refl, refl);
    is = refl;
  }) refl;
  leads = refl;
  began = refl;
})

setup : List ℕ
setup = 0x08 ∷ 0x02 ∷ 0x00 ∷ 0x01 ∷ 0x05 ∷ 0x04 ∷ 0x03 ∷ 0x80 ∷ 0x90 ∷ 0xA3 ∷ 0x18 ∷ 0x03 ∷ 0xA9 ∷ 0x83 ∷ 0x81 ∷ 0x70 ∷ 0x04 ∷ 0x80 ∷ 0x31 ∷ 0x30 ∷ 0x31 ∷ []

calls : ℕ → Leg
calls state = record caller_leg { state = state; peer = peer.Leg (at 2 0) }

rung : ℕ → Leg
rung state = record called_leg { state = state }

pub returns-clause-hunted : goal.returns-clause-hunted
unfolding setup calls rung elements_of elements_within outcome_below slots_of
returns-clause-hunted c = record {
  before = take 3 answered_elsewhere;
  after = [];
  octets = 0x08 ∷ 0x02 ∷ 0x80 ∷ 0x01 ∷ 0x07 ∷ [];
  reference = 1;
  other = 1;
  whole = refl;
  offered = record {
    before = take 1 answered_elsewhere;
    after = Message_event 2 (0x08 ∷ 0x02 ∷ 0x80 ∷ 0x01 ∷ 0x01 ∷ []) ∷ [];
    octets = setup;
    called = 0x80 ∷ 0x31 ∷ 0x30 ∷ 0x31 ∷ [];
    whole = refl;
    dials = At_once _ refl refl refl;
    routed = (1 ∷ 2 ∷ [], refl, (1, omega arith, refl));
    one_call = (
      (calls 3, rung 6, record { in_x = (omega arith, omega arith); in_y = (omega arith, omega arith); at_x = refl; at_y = refl; call = record { calls = refl; is_called = refl; there = refl; back = refl; matched = refl } }, refl, refl),
      (calls 4, rung 7, record { in_x = (omega arith, omega arith); in_y = (omega arith, omega arith); at_x = refl; at_y = refl; call = record { calls = refl; is_called = refl; there = refl; back = refl; matched = refl } }, refl, refl),
    );
  };
  answered = record {
    message = record { flag = true; reference = 1; kind = kind.Connect; elements = [] };
    held = record { slot = at 2 0; leg = rung 7 };
    request = refl;
    at = refl;
    own = refl;
    answers = refl;
    connects = refl;
  };
  began = refl;
}
