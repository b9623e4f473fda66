-- Every event keeps the legs consistent.
use Rattle.std.proofs.Common.{◌≡◌, ℕ, suc, ◌*◌, ◌<◌, List, [], ◌∷◌, Option, Some, None, refl, sym, ◌∙◌, subst, arith, Bool, true, false}
use Rattle.std.specs.Prelude.{All}
use Rattle.std.proofs.lemmas.List.{length-replicate}
use Rattle.circuit_model.specs.declared.channel.Slot.{Slot}
use Rattle.circuit_model.specs.FrameInput.{Input}
use Rattle.circuit_model.proofs.Validity.{valid-empty}
use Rattle.q931_codec.specs.Outgoing.{OutgoingMessage}
use Rattle.q931_codec.specs.Reading.{reading}
use Rattle.q931_codec.proofs.Messages.{read_message}
use Rattle.clearing_rules.specs.UnknownReference.{answer_without_call}
use Rattle.call_profile.specs.Calls.{Request, For_leg, New_call, On_no_call, Restarts, Confirms, Unanswered, request_of, answer_back, outcome_for, making_by}
use Rattle.call_profile.specs.Course.{only}
use Rattle.exchange_events.specs.declared.trace.Event.{Event}
use Rattle.exchange_events.specs.declared.trace.Event.TheVariants.{Nail, Seat, Free, Message, Frame, LinkUp, LinkDown, RestartLine}
use Rattle.exchange_events.specs.Sound.{Fits, IsPlanned}
use Rattle.call_profile.specs.Step.{next, world_after_all}
use Rattle.call_profile.specs.LegStanding.{CallsStand}
use Rattle.control_memory.specs.Layout.{number_of}
use Rattle.call_states.specs.Conditions.{unanswered}
use Rattle.call_states.specs.declared.leg.Leg.{Leg}
use Rattle.call_profile.specs.Legs.{is_down, leg_at, no_legs}
use Rattle.exchange_events.specs.Sizes.{Setting}
use Rattle.call_profile.specs.World.{World, start, pass}
use Rattle.call_profile.proofs.ClearingLemmas.{Kept}
use Rattle.call_profile.proofs.CommandLemmas.{nail_kept, seat_kept, free_kept, pass_kept}
use Rattle.call_profile.proofs.ExpiringLemmas.{lines_kept}
use Rattle.call_profile.proofs.MessageToLegLemmas.{leg_kept}
use Rattle.call_profile.proofs.NamedLegLemmas.{received_stands}
use Rattle.call_profile.proofs.RestartLemmas.{below_kept}
use Rattle.call_profile.proofs.OctetLemmas.{octets_small}
use Rattle.call_profile.proofs.PendingNumberLemmas.{EntriesStand, none_pend, entries_stand}
use Rattle.call_profile.proofs.KeptMessageLemmas.{none_wait}
use Rattle.call_profile.proofs.EntryLemmas.{get_or-bare}
use Rattle.call_profile.proofs.ReleaseRunLemmas.{event_sounds, none_release}
use Rattle.call_profile.proofs.ReleaseToneLemmas.{Sounding}
use Rattle.call_profile.proofs.SetupLemmas.{setup_kept, new_from}
use Rattle.call_profile.specs.LinkChanges.{give_up_rule, outcome_of_line_restart, outcome_of_link, rule_of, with_line}
use Rattle.call_profile.proofs.LinkLemmas.{linked_kept, rule_kept}
use Rattle.call_profile.proofs.ConfirmedSlotLemmas.{confirmed_kept}
use Rattle.call_profile.proofs.GivenUpSlotLemmas.{give_up_kept}
use Rattle.call_profile.proofs.RestartedSlotLemmas.{each_below, line_restarted_by, linked_by}

-- a message that is sent changes nothing else
kept_without : (s : Setting) (w : World) (line : ℕ) (o : Option OutgoingMessage) → Kept s.dimensions s.tones w → Kept s.dimensions s.tones (making_by s w (only (answer_back line o))).world
kept_without s w line None kept = kept
kept_without s w line (Some message) kept = kept

kept_stands : (s : Setting) (v : World) → Kept s.dimensions s.tones v → EntriesStand s.dimensions.external s.plan v → Sounding s.dimensions s.tones v → CallsStand s v
kept_stands s v kept entries sounding = record { circuits = kept.0; legs = kept.1; numbers = entries.0; waits = entries.1; releases = sounding.sound }

module _ (s : Setting) (w : World) (line : ℕ) (octets : List ℕ) (planned : IsPlanned s) (can : Fits s.dimensions.external (Message line octets)) (stands : CallsStand s w) where
  received_kept : (r : Request) → request_of w.legs line octets ≡ r → Kept s.dimensions s.tones (outcome_for s w line r).making.world
  received_kept (For_leg h m) is =
      let named = received_stands w.legs line octets h m is in
      let on = named.among in
      leg_kept s w h planned stands (subst (λ n. n < s.dimensions.external) (sym on.0) can.0, on.1) named.at m
  received_kept (New_call m) is =
      let new = new_from w.legs line (reading octets) m is in
      let message = read_message octets m (octets_small octets can.1) new.0 in
      setup_kept s w line m (record { planned = planned; valid = stands.circuits; stand = stands.legs; below = can.0; own = (new.1, message.value); unused = new.2 })
  received_kept (On_no_call m) is = kept_without s w line (answer_without_call m) (stands.circuits, stands.legs)
  received_kept (Restarts r) is = below_kept s.dimensions s.tones r line w can.0 (stands.circuits, stands.legs) 30 (omega arith)
  received_kept (Confirms r) is = confirmed_kept s.dimensions s.tones r line w can.0 (stands.circuits, stands.legs) 30 (omega arith)
  received_kept Unanswered is = (stands.circuits, stands.legs)

-- the legs whose turn it is in a frame, one after another
turn_kept : (s : Setting) (w : World) (input : Input) → CallsStand s w → Kept s.dimensions s.tones (next s w (Frame input))
turn_kept s w input stands =
    lines_kept s w.holding.next (pass w input) (pass_kept s w stands.circuits stands.legs input) s.dimensions.external (omega arith)

-- the slots of a line whose data link changes
pub link_kept : (s : Setting) (w : World) (down : Bool) (line : ℕ) → line < s.dimensions.external → CallsStand s w → Kept s.dimensions s.tones (outcome_of_link s.dimensions s.tones down line w).making.world
link_kept s w down line below stands = linked_by s.dimensions s.tones down line w (Kept s.dimensions s.tones) (λ whole.
    each_below s.dimensions (rule_of s.tones whole down) line (with_line w line down) (λ a. Kept s.dimensions s.tones a.making.world) (linked_kept s.dimensions s.tones w line down (stands.circuits, stands.legs))
    (λ a place small k. rule_kept s.dimensions s.tones a.making (record { line = line; place = place }) k (below, small) whole down) 30 (omega arith))

-- the slots of a line that the exchange restarts
line_restart_kept : (s : Setting) (w : World) (line : ℕ) → line < s.dimensions.external → CallsStand s w → Kept s.dimensions s.tones (outcome_of_line_restart s.dimensions s.tones line w).making.world
line_restart_kept s w line below stands =
    let condition = unanswered (is_down w.legs line) in
    line_restarted_by s.dimensions s.tones line w (Kept s.dimensions s.tones)
    (each_below s.dimensions (give_up_rule s.tones condition) line w (λ a. Kept s.dimensions s.tones a.making.world) (stands.circuits, stands.legs)
    (λ a place small k. give_up_kept s.dimensions s.tones condition a.making (record { line = line; place = place }) k (below, small)) 30 (omega arith))

pub happened_kept : (s : Setting) (w : World) (e : Event) → IsPlanned s → Fits s.dimensions.external e → CallsStand s w → CallsStand s (next s w e)
happened_kept s w (Nail x y) planned fits stands = kept_stands s (next s w (Nail x y)) (nail_kept s w stands.circuits stands.legs x y fits) (entries_stand s w (Nail x y) planned fits stands) (event_sounds s w stands (Nail x y) planned fits)
happened_kept s w (Seat x room) planned fits stands = kept_stands s (next s w (Seat x room)) (seat_kept s w stands.circuits stands.legs x room fits) (entries_stand s w (Seat x room) planned fits stands) (event_sounds s w stands (Seat x room) planned fits)
happened_kept s w (Free x) planned fits stands = kept_stands s (next s w (Free x)) (free_kept s w stands.circuits stands.legs x fits) (entries_stand s w (Free x) planned fits stands) (event_sounds s w stands (Free x) planned fits)
happened_kept s w (Message line octets) planned fits stands =
    kept_stands s (next s w (Message line octets)) (received_kept s w line octets planned fits stands (request_of w.legs line octets) refl)
    (entries_stand s w (Message line octets) planned fits stands) (event_sounds s w stands (Message line octets) planned fits)
happened_kept s w (LinkUp line) planned fits stands =
    kept_stands s (next s w (LinkUp line)) (link_kept s w false line fits stands) (entries_stand s w (LinkUp line) planned fits stands) (event_sounds s w stands (LinkUp line) planned fits)
happened_kept s w (LinkDown line) planned fits stands =
    kept_stands s (next s w (LinkDown line)) (link_kept s w true line fits stands) (entries_stand s w (LinkDown line) planned fits stands) (event_sounds s w stands (LinkDown line) planned fits)
happened_kept s w (RestartLine line) planned fits stands =
    kept_stands s (next s w (RestartLine line)) (line_restart_kept s w line fits stands) (entries_stand s w (RestartLine line) planned fits stands) (event_sounds s w stands (RestartLine line) planned fits)
happened_kept s w (Frame input) planned fits stands = kept_stands s (next s w (Frame input)) (turn_kept s w input stands) (entries_stand s w (Frame input) planned fits stands) (event_sounds s w stands (Frame input) planned fits)

-- ---- whole runs

none_at : (external : ℕ) (x : Slot) (leg : Leg) → leg_at (no_legs external) x ≡ Some leg → ⊥
none_at external x leg at = let e : None ≡ Some leg = sym (get_or-bare Leg (30 * external) (number_of x)) ∙ at in cc

pub start_stands : (s : Setting) → CallsStand s (start s.dimensions)
start_stands s = record {
  circuits = valid-empty s.dimensions.bridges;
  legs = record {
    count = length-replicate (30 * s.dimensions.external) None;
    each = λ x leg in_x at. absurd (none_at s.dimensions.external x leg at);
    one = λ x y a b in_x in_y at_x at_y line side reference. absurd (none_at s.dimensions.external x a at_x);
  };
  numbers = none_pend s.dimensions.external s.plan;
  waits = none_wait s.dimensions.external 0;
  releases = none_release s.dimensions s.tones;
}

pub run_stands : (s : Setting) (w : World) (es : List Event) → IsPlanned s → All (Fits s.dimensions.external) es → CallsStand s w → CallsStand s (world_after_all s w es)
run_stands s w [] planned fits stands = stands
run_stands s w (e ∷ es) planned fits stands =
    run_stands s (next s w e) es planned (λ k d inside. fits (suc k) d (omega (arith, inside))) (happened_kept s w e planned (fits 0 e (omega arith)) stands)
