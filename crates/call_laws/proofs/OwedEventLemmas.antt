-- A RESTART is owed only on a line whose data link is down: every event.
use Rattle.std.proofs.Common.{◌≡◌, ℕ, ◌*◌, ◌<◌, inl, inr, Bool, true, false, ◌&&◌, ◌||◌, List, length, Option, None, Some, refl, sym, ◌∙◌, ap, arith, eqb-true, set, get_or-set_same, get_or-set_other, if◌then◌else◌}
use Rattle.std.specs.Prelude.{◌==◌, is_none, is_some, not, slice_index_or}
use Rattle.std.proofs.lemmas.Grind.{common_steps}
use Rattle.circuit_model.specs.declared.channel.Slot.{Slot}
use Rattle.circuit_model.specs.Extent.{IsExternal}
use Rattle.circuit_model.specs.FrameInput.{Input}
use Rattle.circuit_model.specs.Holding.{Connect, Seat as Take_seat, Clear}
use Rattle.circuit_model.proofs.Slots.{true_or_false}
use Rattle.call_states.specs.declared.leg.Leg.{Leg}
use Rattle.exchange_events.specs.declared.trace.Event.{Event}
use Rattle.exchange_events.specs.declared.trace.Event.TheVariants.{Nail, Seat, Free, Message, Frame, LinkUp, LinkDown, RestartLine}
use Rattle.exchange_events.specs.Sizes.{Setting, Dimensions}
use Rattle.exchange_events.specs.Sound.{Fits}
use Rattle.call_profile.specs.Calls.{after_message}
use Rattle.call_profile.specs.Expiring.{expire_slot, slot_looked_at}
use Rattle.call_profile.specs.IdleSlots.{is_nailed}
use Rattle.call_profile.specs.Legs.{Legs, is_down, is_owed, leg_at}
use Rattle.call_profile.specs.LegStanding.{CallsStand}
use Rattle.call_profile.specs.Operations.{Operation}
use Rattle.call_profile.specs.Step.{next, may_nail, may_seat}
use Rattle.call_profile.specs.World.{World, obey, pass}
use Rattle.call_profile.proofs.CommandLemmas.{both_true}
use Rattle.call_profile.proofs.ExpiringLemmas.{each_line, place_within}
use Rattle.call_laws.proofs.LinkedLegLemmas.{Wait, due_awaits, expire_may, performed_all}
use Rattle.call_laws.proofs.LinkStateLemmas.{links_after, performed_all_down}
use Rattle.call_laws.specs.Dropped.{HasLine}
use Rattle.call_laws.specs.OwedRestarts.{is_removed}
use Rattle.call_laws.proofs.ChannelConditionLemmas.{message_reads, was_read}
use Rattle.call_laws.proofs.DroppedLineLemmas.{other_lines_are_left}
use Rattle.call_laws.proofs.OwedExactLemmas.{owed_by_failure}
use Rattle.call_laws.proofs.OwedLineLemmas.{owed_by_restart}
use Rattle.call_laws.proofs.OwedSlotLemmas.{Owes, expire_owes, owed_all}
use Rattle.call_laws.proofs.RaisedConditionLemmas.{owed_raised}

-- ---- an event

module _ (s : Setting) (w : World) (stands : CallsStand s w) where
  abbrev d : Dimensions
  d = s.dimensions

  -- the slots on lines whose links are down
  abbrev Down : List Bool → Slot → Type 0
  Down links z = slice_index_or links z.line false ≡ true

  abbrev pub OnlyDown : List Bool → World → Type 0
  OnlyDown links v = Owes d (Down links) v.legs

  module _ (before : OnlyDown w.legs.down w) (count : length w.legs.conditions ≡ 30 * d.external) where
    received : (line : ℕ) (octets : List ℕ) → line < d.external → OnlyDown w.legs.down (after_message s w line octets)
    received line octets below z in_z owed = before z in_z (was_read (is_owed w.legs z) false (is_none (leg_at (after_message s w line octets).legs z))
        (sym ((message_reads s w stands line octets below).0 z in_z) ∙ owed))

    -- T309 expires only on a line whose link is down
    turned : Wait d w.legs.down w.legs → (input : Input) → OnlyDown w.legs.down (next s w (Frame input))
    turned wait input =
        let f : ℕ = w.holding.next in
        let links : List Bool = w.legs.down in
        (each_line s f (pass w input) (λ a. OnlyDown links a.making.world × Wait d links a.making.world.legs × (a.making.world.legs.down ≡ links))
        (before, wait, refl) (λ a line small so_far.
        let x : Slot = slot_looked_at f line in
        let legs : Legs = a.making.world.legs in
        let in_x = place_within d.external f line small in
        let os : List Operation = expire_slot s f legs x in (
          owed_all d (Down links) a.making os (expire_owes d (Down links) s f legs x in_x.1
              (λ leg at due. let awaits = due_awaits s.timers f leg due in sym ((so_far.1 x leg in_x at).0 awaits.0) ∙ awaits.1)
              (λ down. ap (λ (bs : List Bool). slice_index_or bs x.line false) (sym so_far.2) ∙ down)) so_far.0,
          performed_all d links a.making os (expire_may d links s f legs x in_x so_far.1) so_far.1,
          performed_all_down d a.making os ∙ so_far.2,
        )) d.external (omega arith)).0

    -- ---- a change of a data link

    module _ (line : ℕ) (below : line < d.external) (size : length w.legs.down ≡ d.external) where
      links_here : (down : Bool) (z : Slot) → z.line ≡ line → slice_index_or (set w.legs.down line down) z.line false ≡ down
      links_here down z on = ap (λ (n : ℕ). slice_index_or (set w.legs.down line down) n false) on
          ∙ get_or-set_same w.legs.down line down false (omega (arith, below, size))

      links_else : (down : Bool) (z : Slot) → (z.line == line) ≡ false → Down w.legs.down z → Down (set w.legs.down line down) z
      links_else down z apart is = get_or-set_other w.legs.down line z.line down false (λ same. grind (arith, common_steps, apart, same)) ∙ is

      abbrev can : HasLine s w line
      can = record { stands = stands; line_exists = below }

      -- it fails: no leg of another line is removed
      abbrev failed : World
      failed = next s w (LinkDown line)

      none_removed : (z : Slot) → IsExternal d.external z → (z.line == line) ≡ false → (o : Option Leg) → leg_at w.legs z ≡ o → is_removed w failed z ≡ false
      none_removed z in_z apart None none = λ i. is_some (none i) && is_none (leg_at failed.legs z)
      none_removed z in_z apart (Some l) at =
          let left = other_lines_are_left s w line can z l in_z (λ same. grind (arith, common_steps, apart, same)) at in
          λ i. is_some (at i) && is_none (left i)

      was_owed : (owed removed : Bool) → removed ≡ false → (owed || removed) ≡ true → owed ≡ true
      was_owed true removed none is = refl
      was_owed false removed none is = let wrong : false ≡ true = sym none ∙ is in absurd cc

      dropped : OnlyDown (set w.legs.down line true) failed
      dropped z in_z owed = elim (true_or_false (z.line == line)) [
        | inl same ↦ links_here true z (eqb-true z.line line same)
        | inr apart ↦ links_else true z apart (before z in_z
            (was_owed (is_owed w.legs z) (is_removed w failed z) (none_removed z in_z apart (leg_at w.legs z) refl)
            (sym (owed_by_failure s w line can count z in_z) ∙ owed)))
      ]

      -- it is established: nothing is owed on the line
      is_off : (on : Bool) → not on ≡ true → on ≡ false
      is_off true off = absurd cc
      is_off false off = refl

      established : OnlyDown (set w.legs.down line false) (next s w (LinkUp line))
      established z in_z owed =
          let none : Bool = is_none (leg_at (next s w (LinkUp line)).legs z) in
          let still = sym (owed_raised s w line can count z in_z) ∙ owed in
          let both = both_true (is_owed w.legs z && not (z.line == line)) none still in
          let off = both_true (is_owed w.legs z) (not (z.line == line)) both.0 in
          links_else false z (is_off (z.line == line) off.1) (before z in_z off.0)

      -- the exchange restarts it
      line_restarted : OnlyDown w.legs.down (next s w (RestartLine line))
      line_restarted z in_z owed = elim (true_or_false (z.line == line)) [
        | inl same ↦ ap (is_down w.legs) (eqb-true z.line line same) ∙ (sym (by_place true same) ∙ now)
        | inr apart ↦ before z in_z (sym (by_place false apart) ∙ now)
      ]
        where
          now : (if z.line == line then is_down w.legs line else is_owed w.legs z) ≡ true
          now = sym (owed_by_restart s w line can count z in_z) ∙ owed

          by_place : (on : Bool) → (z.line == line) ≡ on
              → (if z.line == line then is_down w.legs line else is_owed w.legs z) ≡ (if on then is_down w.legs line else is_owed w.legs z)
          by_place on is = ap (λ (b : Bool). if b then is_down w.legs line else is_owed w.legs z) is

    either_owed : (b : Bool) (u v : World) → OnlyDown w.legs.down u → OnlyDown w.legs.down v → OnlyDown w.legs.down (if b then u else v)
    either_owed true u v one other = one
    either_owed false u v one other = other

    pub next_owed : Wait d w.legs.down w.legs → (e : Event) → Fits d.external e → length w.legs.down ≡ d.external
        → OnlyDown (links_after w.legs.down e) (next s w e)
    next_owed wait (Nail x y) fits size = either_owed (may_nail w x y) (obey d w (Connect x y)) w before before
    next_owed wait (Seat x room) fits size = either_owed (may_seat d w x) (obey d w (Take_seat x room)) w before before
    next_owed wait (Free x) fits size = either_owed (is_nailed w x) (obey d w (Clear x)) w before before
    next_owed wait (Message line octets) fits size = received line octets fits.0
    next_owed wait (LinkUp line) fits size = established line fits size
    next_owed wait (LinkDown line) fits size = dropped line fits size
    next_owed wait (RestartLine line) fits size = line_restarted line fits size
    next_owed wait (Frame input) fits size = turned wait input
