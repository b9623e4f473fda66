-- A call that is refused changes nothing.
use Rattle.std.proofs.Common.{◌∙◌, ◌≡◌, ℕ, Bool, true, false, not, ◌&&◌, List, [], ◌∷◌, Option, Some, None, length, refl, sym, ap}
use Rattle.std.specs.Prelude.{filter_map, if◌then◌else◌, ◌↔◌}
use Rattle.std.specs.List.{range_with_len}
use Rattle.circuit_model.specs.declared.channel.Slot.{Slot}
use Rattle.circuit_model.specs.Ports.{port_of, ports_with}
use Rattle.q931_codec.specs.declared.message.Message.{Message}
use Rattle.q931_codec.specs.Outgoing.{encoding}
use Rattle.control_memory.specs.Layout.{Layout, slot_numbered}
use Rattle.exchange_events.specs.declared.record.CallRecord.{CallRecord}
use Rattle.call_profile.specs.CallRecords.{record_at, records, is_ended, is_calling}
use Rattle.call_profile.specs.Calls.{New_call, outcome_for, outcome_of_octets, after_message}
use Rattle.call_profile.specs.Legs.{leg_at}
use Rattle.call_profile.specs.Restarts.{MessageOutcome}
use Rattle.exchange_events.specs.declared.trace.Event.{Event}
use Rattle.exchange_events.specs.declared.trace.Event.TheVariants.{Nail, Seat as Seat_event, Free, Message as Message_event, Frame, LinkUp, LinkDown, RestartLine}
use Rattle.exchange_events.specs.declared.reply.Reply.{Reply}
use Rattle.exchange_events.specs.declared.reply.Reply.TheVariants.{Busy, NoPort, Freed, NotNailed, Sent as Sent_reply}
use Rattle.call_profile.specs.IdleSlots.{idle, is_nailed}
use Rattle.call_profile.specs.Refused.{refuses, IsRefused, refusal_reply}
use Rattle.exchange_events.specs.Sizes.{Setting, Dimensions}
use Rattle.call_profile.specs.Setup.{refusal, release_complete}
use Rattle.call_profile.specs.Step.{reply, next, may_nail}
use Rattle.call_profile.specs.World.{World, is_full, nail_reply, seat_reply}

-- ---- what is recorded where nothing has changed

none_left : (b : Bool) → (b && not b) ≡ false
none_left true = refl
none_left false = refl

not_ended : (w : World) (n : ℕ) → is_ended w w (slot_numbered n) ≡ false
not_ended w n = none_left (is_calling (leg_at w.legs (slot_numbered n)))

no_record_at : (w : World) (cause n : ℕ) → record_at w w cause (slot_numbered n) ≡ None
no_record_at w cause n = rw (not_ended w n) refl

none_of : (f : ℕ → Option CallRecord) (ns : List ℕ) → ((n : ℕ) → f n ≡ None) → filter_map f ns ≡ []
none_of f [] each = refl
none_of f (n ∷ ns) each = rw (each n) (none_of f ns each)

pub no_records : (w : World) (cause : ℕ) → records w w cause ≡ []
no_records w cause = none_of (λ n. record_at w w cause (slot_numbered n)) (range_with_len 0 (length w.legs.held)) (no_record_at w cause)

-- ---- a call that is refused

-- the SETUP's answer is sent, and nothing else is done
abbrev refused_outcome : World → ℕ → Message → ℕ → MessageOutcome
refused_outcome w line m cause = record {
  making = record { world = w; sends = record { line = line; octets = encoding (release_complete m.reference cause) } ∷ []; moves = None };
  recorded = [];
}

refused_done : (s : Setting) (w : World) (line : ℕ) (m : Message) (cause : ℕ) → refusal s w line m ≡ Some cause → outcome_for s w line (New_call m) ≡ refused_outcome w line m cause
refused_done s w line m cause e = rw e refl

refused_octets : (s : Setting) (w : World) (line : ℕ) (octets : List ℕ) (m : Message) (cause : ℕ) → IsRefused s w line octets m cause → outcome_of_octets s w line octets ≡ refused_outcome w line m cause
refused_octets s w line octets m cause refused = ap (outcome_for s w line) refused.0 ∙ refused_done s w line m cause refused.1

pub after_message_refused_world : (s : Setting) (w : World) (line : ℕ) (octets : List ℕ) (m : Message) (cause : ℕ) → IsRefused s w line octets m cause → after_message s w line octets ≡ w
after_message_refused_world s w line octets m cause refused = ap (λ (a : MessageOutcome). a.making.world) (refused_octets s w line octets m cause refused)

pub reply_refused_answer : (s : Setting) (w : World) (line : ℕ) (octets : List ℕ) (m : Message) (cause : ℕ) → IsRefused s w line octets m cause
    → reply s w (Message_event line octets) ≡ refusal_reply line m cause
reply_refused_answer s w line octets m cause refused =
    ap (λ (a : MessageOutcome). let sent : Reply = Sent_reply a.making.sends a.making.moves a.recorded in sent) (refused_octets s w line octets m cause refused)

-- ---- a command that is refused

refused_either : (b : Bool) (r q : Reply) (v w : World) → refuses r ≡ false → refuses (if b then r else q) ≡ true → (if b then v else w) ≡ w
refused_either true r q v w granted e = let wrong : false ≡ true = sym granted ∙ e in absurd cc
refused_either false r q v w granted e = refl

refused_seat : (free full : Bool) (r : Reply) (v w : World) → refuses r ≡ false → refuses (if not free then Busy else (if full then NoPort else r)) ≡ true → (if free && not full then v else w) ≡ w
refused_seat true true r v w seated e = refl
refused_seat true false r v w seated e = let wrong : false ≡ true = sym seated ∙ e in absurd cc
refused_seat false full r v w seated e = refl

seat_is_told : (d : Dimensions) (layout : Layout) (x : Slot) (port : Option Slot) → refuses (seat_reply d layout x port) ≡ false
seat_is_told d layout x None = refl
seat_is_told d layout x (Some port) = refl

pub refused_next : (s : Setting) (w : World) (e : Event) → refuses (reply s w e) ≡ true → next s w e ≡ w
refused_next s w (Nail x y) e = refused_either (may_nail w x y) (nail_reply s.dimensions w.layout x y) Busy _ w refl e
refused_next s w (Seat_event x room) e =
    refused_seat (idle w x) (is_full s.dimensions w) (seat_reply s.dimensions w.layout x (port_of s.dimensions.external (ports_with x w.ports) x)) _ w
    (seat_is_told s.dimensions w.layout x (port_of s.dimensions.external (ports_with x w.ports) x)) e
refused_next s w (Free x) e = refused_either (is_nailed w x) Freed NotNailed _ w refl e
refused_next s w (Message_event line octets) e = absurd cc
refused_next s w (LinkUp line) e = absurd cc
refused_next s w (LinkDown line) e = absurd cc
refused_next s w (RestartLine line) e = absurd cc
refused_next s w (Frame input) e = absurd cc

-- there is no port exactly where the slot is idle and as many sit as there are ports
without_port : (free full : Bool) (r : Reply) → refuses r ≡ false → (if not free then Busy else (if full then NoPort else r)) ≡ NoPort → (free ≡ true) × (full ≡ true)
without_port true true r seated e = (refl, refl)
without_port true false r seated e = let wrong : false ≡ true = sym seated ∙ ap refuses e in absurd cc
without_port false full r seated e = absurd cc

pub no_port_is : (s : Setting) (w : World) (x : Slot) (room : ℕ) → (reply s w (Seat_event x room) ≡ NoPort) ↔ ((idle w x ≡ true) × (is_full s.dimensions w ≡ true))
no_port_is s w x room =
    let port = port_of s.dimensions.external (ports_with x w.ports) x in (
      without_port (idle w x) (is_full s.dimensions w) (seat_reply s.dimensions w.layout x port) (seat_is_told s.dimensions w.layout x port),
      λ both. rw (both.0, both.1) refl,
    )
