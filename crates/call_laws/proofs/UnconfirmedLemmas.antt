-- Which channels exactly are unconfirmed after an event.
use Rattle.std.proofs.Common.{◌≡◌, ◌*◌, Bool, true, false, ◌&&◌, ◌||◌, ◌<◌, Option, Some, None, refl, sym, ◌∙◌, ap, arith, length, if◌then◌else◌, ℕ}
use Rattle.std.specs.Prelude.{◌==◌, is_none, is_some, not}
use Rattle.std.proofs.lemmas.Grind.{common_steps}
use Rattle.circuit_model.specs.declared.channel.Slot.{Slot}
use Rattle.circuit_model.specs.Extent.{IsExternal}
use Rattle.circuit_model.specs.FrameInput.{Input}
use Rattle.circuit_model.specs.Holding.{Connect, Seat as Take_seat, Clear}
use Rattle.q931_codec.specs.CallStates.{active, release_request}
use Rattle.call_states.specs.Conditions.{is_open, unanswered}
use Rattle.call_states.specs.declared.condition.Condition.TheVariants.{Idle, Owed}
use Rattle.call_states.specs.declared.leg.Leg.{Leg}
use Rattle.exchange_events.specs.declared.trace.Event.{Event}
use Rattle.exchange_events.specs.declared.trace.Event.TheVariants.{Nail, Seat, Free, Message, Frame, LinkUp, LinkDown, RestartLine}
use Rattle.exchange_events.specs.Sizes.{Setting}
use Rattle.exchange_events.specs.Sound.{Fits}
use Rattle.call_profile.specs.IdleSlots.{is_nailed}
use Rattle.call_profile.specs.Legs.{condition_at, is_down, is_unconfirmed, leg_at}
use Rattle.call_profile.specs.LegStanding.{CallsStand}
use Rattle.call_profile.specs.Step.{next, may_nail, may_seat}
use Rattle.call_profile.specs.World.{World, obey, pass}
use Rattle.call_laws.specs.Dropped.{HasLine}
use Rattle.call_laws.specs.OwedRestarts.{is_removed}
use Rattle.call_laws.specs.Unconfirmed.{AreUnconfirmed, is_unreleased}
use Rattle.call_laws.proofs.ChannelConditionLemmas.{StillReads, command_reads, message_reads}
use Rattle.call_laws.proofs.OwedExactLemmas.{always, condition_left, tracked, turned}
use Rattle.call_laws.proofs.OwedLineLemmas.{none_too, read_after_restart}
use Rattle.call_laws.proofs.OwedTrackLemmas.{given, read_exactly, read_stays}
use Rattle.call_laws.proofs.RaisedConditionLemmas.{unconfirmed_raised}

module _ (s : Setting) (w : World) (stands : CallsStand s w) (count : length w.legs.conditions ≡ 30 * s.dimensions.external) where
  -- ---- the failure of a data link

  or_none : (b : Bool) → (b || false) ≡ b
  or_none true = refl
  or_none false = refl

  none_left : (z : Slot) (o p : Option Leg) → ((is_some o && is_none p) && given s.dimensions w always is_open z o) ≡ false
  none_left z None p = refl
  none_left z (Some l) None = refl
  none_left z (Some l) (Some k) = refl

  by_failure : (line : ℕ) → HasLine s w line → StillReads s.dimensions.external is_open w (next s w (LinkDown line)) (λ x. false)
  by_failure line can x in_x =
      let v : World = next s w (LinkDown line) in
      let t = tracked s w line can count in
      read_exactly s.dimensions w always is_open v t x in_x
      ∙ ap (λ (b : Bool). is_unconfirmed w.legs x || b) (none_left x (leg_at w.legs x) (leg_at v.legs x))
      ∙ or_none (is_unconfirmed w.legs x)
      ∙ read_stays s.dimensions w always is_open v t x in_x

  -- ---- a frame

  or_swapped : (a b : Bool) → (a || b) ≡ (b || a)
  or_swapped true true = refl
  or_swapped true false = refl
  or_swapped false true = refl
  or_swapped false false = refl

  open_by : (up asked down : Bool) → (up ≡ true → asked ≡ false) → is_open (if up then Owed else if asked then unanswered down else Idle) ≡ (asked && not down)
  open_by true asked down apart = ap (λ (b : Bool). b && not down) (sym (apart refl))
  open_by false true true apart = refl
  open_by false true false apart = refl
  open_by false false down apart = refl

  two_states : (state : ℕ) → (state == active) ≡ true → (state == release_request) ≡ false
  two_states state up = grind (arith, common_steps, up)

  module _ (input : Input) where
    abbrev passed : World
    passed = pass w input

    abbrev v : World
    v = next s w (Frame input)

    opens : (z : Slot) (o : Option Leg) → given s.dimensions passed (condition_left w.legs) is_open z o ≡ is_unreleased w.legs z o
    opens z None = refl
    opens z (Some l) = open_by (l.state == active) (l.state == release_request) (is_down w.legs z.line) (two_states l.state)

    by_frame : (x : Slot) → IsExternal s.dimensions.external x → is_unconfirmed v.legs x
        ≡ ((is_removed w v x && is_unreleased w.legs x (leg_at w.legs x)) || ((is_unconfirmed w.legs x && not false) && is_none (leg_at v.legs x)))
    by_frame x in_x =
        let t = turned s w input stands count in
        read_exactly s.dimensions passed (condition_left w.legs) is_open v t x in_x
        ∙ or_swapped (is_unconfirmed w.legs x) (is_removed w v x && given s.dimensions passed (condition_left w.legs) is_open x (leg_at w.legs x))
        ∙ (λ i. (is_removed w v x && opens x (leg_at w.legs x) i) || read_stays s.dimensions passed (condition_left w.legs) is_open v t x in_x i)

  -- ---- the restart of a line

  open_unanswered : (down : Bool) → is_open (unanswered down) ≡ not down
  open_unanswered true = refl
  open_unanswered false = refl

  settled : (before down none : Bool) → not down ≡ (not down || ((before && false) && none))
  settled true true none = refl
  settled false true none = refl
  settled before false none = refl

  unsettled : (unsure none : Bool) → (unsure && none) ≡ (((unsure && none) && true) && none)
  unsettled true true = refl
  unsettled true false = refl
  unsettled false none = refl

  module _ (line : ℕ) (can : HasLine s w line) (x : Slot) (in_x : IsExternal s.dimensions.external x) where
    abbrev down : Bool
    down = is_down w.legs line

    abbrev empty : Bool
    empty = is_none (leg_at (next s w (RestartLine line)).legs x)

    by_place : (on : Bool) → (x.line == line) ≡ on → (if on then is_open (unanswered down) else is_unconfirmed w.legs x)
        ≡ ((on && not down) || ((is_unconfirmed w.legs x && not on) && empty))
    by_place true same = open_unanswered down ∙ settled (is_unconfirmed w.legs x) down empty
    by_place false apart =
        unsettled (is_open (condition_at w.legs x)) (is_none (leg_at w.legs x))
        ∙ ap (λ (b : Bool). (is_unconfirmed w.legs x && true) && b)
        (sym (none_too s w line can count x in_x (λ is. grind (arith, common_steps, apart, is)) (leg_at w.legs x) refl))

    by_restart : is_unconfirmed (next s w (RestartLine line)).legs x
        ≡ (((x.line == line) && not down) || ((is_unconfirmed w.legs x && not (x.line == line)) && empty))
    by_restart = read_after_restart s w line can count is_open x in_x ∙ by_place (x.line == line) refl

  -- ---- every event

  abbrev has_line : (line : ℕ) → line < s.dimensions.external → HasLine s w line
  has_line line below = record { stands = stands; line_exists = below }

  pub unconfirmed_after : (e : Event) → Fits s.dimensions.external e → AreUnconfirmed s.dimensions.external e w (next s w e)
  unconfirmed_after (Nail x y) fits = command_reads s w (obey s.dimensions w (Connect x y)) is_open refl refl (may_nail w x y)
  unconfirmed_after (Seat x room) fits = command_reads s w (obey s.dimensions w (Take_seat x room)) is_open refl refl (may_seat s.dimensions w x)
  unconfirmed_after (Free x) fits = command_reads s w (obey s.dimensions w (Clear x)) is_open refl refl (is_nailed w x)
  unconfirmed_after (Message line octets) fits = (message_reads s w stands line octets fits.0).1
  unconfirmed_after (LinkUp line) fits = unconfirmed_raised s w line (has_line line fits) count
  unconfirmed_after (LinkDown line) fits = by_failure line (has_line line fits)
  unconfirmed_after (RestartLine line) fits = by_restart line (has_line line fits)
  unconfirmed_after (Frame input) fits = by_frame input
