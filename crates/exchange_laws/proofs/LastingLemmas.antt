-- T309 of no leg expires in a frame while the data link of its line is up.
use Rattle.std.proofs.Common.{◌≡◌, ℕ, Bool, true, false, List, All, sym, ap, ◌∙◌, subst, Some}
use Rattle.std.specs.Prelude.{not}
use Rattle.circuit_model.specs.declared.channel.Slot.{Slot}
use Rattle.circuit_model.specs.Extent.{IsExternal}
use Rattle.circuit_model.specs.FrameInput.{Input}
use Rattle.call_states.specs.declared.leg.Leg.{Leg}
use Rattle.call_states.specs.declared.leg.Peer.{Peer}
use Rattle.call_states.specs.declared.leg.Peer.TheVariants as peer
use Rattle.exchange_events.specs.declared.trace.Event.{Event}
use Rattle.exchange_events.specs.Sizes.{Setting}
use Rattle.exchange_events.specs.Sound.{Fits, IsPlanned}
use Rattle.call_profile.specs.Legs.{is_down}
use Rattle.call_profile.specs.LegStanding.{CallsStand, HasPeer}
use Rattle.call_laws.specs.LostLegs.{IsLost, IsUnchanged}
use Rattle.call_laws.specs.Outages.{OutagesStand}
use Rattle.call_profile.specs.World.{World, start}
use Rattle.call_laws.proofs.LastingCallLemmas.{neither_changes}
use Rattle.call_laws.proofs.OutageLemmas.{outages_stand, up_not_lost}
use Rattle.call_profile.proofs.StandingLegLemmas.{run_stands, start_stands}
use Rattle.link_procedures.specs.declared.state.LinkTimers.{LinkTimers}
use Rattle.linked_exchange.specs.Steps.{LinkedInput}
use Rattle.linked_exchange.specs.Runs.{derived_trace}
use Rattle.linked_exchange.proofs.PlainLemmas.{trace_fits, trace_world}
use Rattle.exchange_laws.specs.Lasting.{HasLinksUp, IsLinkUp, LastsOnLinks, joint_of_run}
use Rattle.exchange_laws.proofs.LayerLemmas.{layers_agree}

module _ (s : Setting) (timers : LinkTimers) (linked : List Bool) (is : List LinkedInput) where
  abbrev w : World
  w = (joint_of_run s timers linked is).world

  -- the line is up for call control
  up_line : (line : ℕ) → IsLinkUp s timers linked is line → is_down w.legs line ≡ false
  up_line line up = layers_agree s timers linked line is up.inputs up.link up.at ∙ ap not up.up

  module _ (planned : IsPlanned s) (fits : All (Fits s.dimensions.external) (derived_trace s timers linked is)) where
    stands : CallsStand s w
    stands = subst (CallsStand s) (sym (trace_world s timers linked is)) (run_stands s (start s.dimensions) (derived_trace s timers linked is) planned fits (start_stands s))

    outages : OutagesStand s.dimensions.external w.legs
    outages = subst (λ (v : World). OutagesStand s.dimensions.external v.legs) (sym (trace_world s timers linked is)) (outages_stand s (derived_trace s timers linked is) planned fits)

    -- T309 of a leg of such a line does not expire
    not_lost : (x : Slot) (leg : Leg) → IsExternal s.dimensions.external x → IsLinkUp s timers linked is x.line → IsLost s.timers w.holding.next w.legs x leg → ⊥
    not_lost x leg within up lost =
        up_not_lost s w w.holding.next outages x leg (record { within = within; at = lost.at; up = up_line x.line up }) lost.due

    -- the other leg of a call is on an external line
    peer_within : (x : Slot) (leg : Leg) (p : Peer) (y : Slot) → p ≡ peer.Leg y → HasPeer s.dimensions.external w.legs x leg p → IsExternal s.dimensions.external y
    peer_within x leg p y same has = (subst (HasPeer s.dimensions.external w.legs x leg) same has).0

    lasts : (input : Input) (x : Slot) (leg : Leg) → HasLinksUp s timers linked is x leg → IsUnchanged s w input x leg
    lasts input x leg has = neither_changes s w input stands x leg (record {
      within = has.within;
      at = has.at;
      state = has.state;
      own = not_lost x leg has.within has.own;
      others = λ y other same lost.
          not_lost y other (peer_within x leg leg.peer y same (stands.legs.each x leg has.within has.at).peer) (has.other y same) lost;
    })

  pub calls_last : (input : Input) → IsPlanned s → LastsOnLinks s timers linked is input
  calls_last input planned x leg has =
      lasts planned (trace_fits s timers linked is has.own.inputs.lines has.own.inputs.fit) input x leg has
