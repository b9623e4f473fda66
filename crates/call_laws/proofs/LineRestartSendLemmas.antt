-- What the restart of a line sends: to the user of the line, and to the users of other lines.
use Rattle.std.proofs.Common.{◌≡◌, ◌≢◌, ℕ, zero, suc, ◌<◌, ◌≤◌, inl, inr, Bool, true, false, List, [], ◌∷◌, ◌++◌, Option, Some, None, refl, sym, ◌∙◌, ap, subst, arith, eqb-true, if◌then◌else◌}
use Rattle.std.specs.Prelude.{◌==◌, Contains, nat_lt, not}
use Rattle.std.proofs.lemmas.Grind.{common_steps}
use Rattle.std.proofs.lemmas.List.Elements.{Contains-append_left, Contains-append_right, Contains-append_cases}
use Rattle.circuit_model.specs.declared.channel.Slot.{Slot}
use Rattle.circuit_model.specs.Extent.{IsExternal}
use Rattle.circuit_model.proofs.Age.{at_head, cons_cases, none_in_nil}
use Rattle.circuit_model.proofs.Slots.{true_or_false}
use Rattle.q931_codec.specs.Causes.{temporary_failure}
use Rattle.q931_codec.specs.Outgoing.{encoding}
use Rattle.call_states.specs.Conditions.{unanswered}
use Rattle.call_states.specs.declared.condition.Condition.{Condition}
use Rattle.call_states.specs.declared.condition.Condition.TheVariants.{Owed, Unconfirmed}
use Rattle.call_states.specs.declared.leg.HeldLeg.{HeldLeg}
use Rattle.call_states.specs.declared.leg.Leg.{Leg}
use Rattle.call_states.specs.declared.leg.Peer.{Peer}
use Rattle.call_states.specs.declared.leg.Peer.TheVariants as peer
use Rattle.exchange_events.specs.declared.signal.Signal.{Signal}
use Rattle.exchange_events.specs.Sizes.{Dimensions, Setting}
use Rattle.tone_rules.specs.declared.tones.Tones.{Tones}
use Rattle.call_profile.specs.Acts.{clear_with, in_disconnect_indication, peer_of, with_peer}
use Rattle.call_laws.specs.Dropped.{HasLine}
use Rattle.call_profile.specs.Legs.{Legs, is_down, leg_at}
use Rattle.call_profile.specs.LegStanding.{HasPeer}
use Rattle.call_laws.specs.LineRestarts.{IsSentNothingElse, PeersAreDisconnected, interface_restart, restart_signal}
use Rattle.call_profile.specs.LinkChanges.{give_up_leg, give_up_rule, give_up_slot, whole_line, with_interface}
use Rattle.call_profile.specs.Operations as op
use Rattle.call_profile.specs.Operations.{Operation, Making, begun, making_after, making_after_all}
use Rattle.call_profile.specs.Restarts.{MessageOutcome, outcome_below, restart_peer, restarts_slot}
use Rattle.call_profile.specs.World.{World}
use Rattle.call_profile.proofs.ClearingLemmas.{Kept, peers_of}
use Rattle.call_laws.proofs.LineRestartLemmas.{So_far, all_so_far}
use Rattle.call_profile.proofs.LinkLemmas.{at_held}
use Rattle.call_laws.proofs.RestartedLineLemmas.{left_below, lt_false, none_before}
use Rattle.call_profile.proofs.RestartedSlotLemmas.{below_more, each_below}
use Rattle.call_profile.proofs.VacantSlotLemmas.{same_parts}

-- ---- the user of the line

module _ (d : Dimensions) (line : ℕ) where
  abbrev Elsewhere : List Signal → Type 0
  Elsewhere sends = (signal : Signal) → Contains sends signal → signal.line ≢ line

  abbrev MaySend : Operation → Type 0
  MaySend (op.Clear x) = Unit {0}
  MaySend (op.Pair x y) = Unit {0}
  MaySend (op.Seat x room) = Unit {0}
  MaySend (op.Sound x kind) = Unit {0}
  MaySend (op.Put x leg) = Unit {0}
  MaySend (op.Wait x leg p) = Unit {0}
  MaySend (op.Expect x leg message) = x.line ≢ line
  MaySend (op.Repeat h octets) = h.slot.line ≢ line
  MaySend (op.Await x leg) = Unit {0}
  MaySend (op.Remove x condition) = Unit {0}
  MaySend (op.Send to message) = to ≢ line

  abbrev SendAll : List Operation → Type 0
  SendAll [] = Unit {0}
  SendAll (o ∷ os) = MaySend o × SendAll os

  sent_more : (sends : List Signal) (one : Signal) → Elsewhere sends → one.line ≢ line → Elsewhere (sends ++ one ∷ [])
  sent_more sends one before apart signal inside = elim (Contains-append_cases sends (one ∷ []) signal inside) [
    | inl old ↦ before signal old
    | inr new ↦ elim (cons_cases one [] signal new) [
      | inl same ↦ subst (λ (q : Signal). q.line ≢ line) same apart
      | inr none ↦ absurd (none_in_nil signal none)
    ]
  ]

  performed : (m : Making) (o : Operation) → MaySend o → Elsewhere m.sends → Elsewhere (making_after d m o).sends
  performed m (op.Clear x) may before = before
  performed m (op.Pair x y) may before = before
  performed m (op.Seat x room) may before = before
  performed m (op.Sound x kind) may before = before
  performed m (op.Put x leg) may before = before
  performed m (op.Wait x leg p) may before = before
  performed m (op.Expect x leg message) may before = sent_more m.sends (record { line = x.line; octets = encoding message }) before may
  performed m (op.Repeat h octets) may before = sent_more m.sends (record { line = h.slot.line; octets = octets }) before may
  performed m (op.Await x leg) may before = before
  performed m (op.Remove x condition) may before = before
  performed m (op.Send to message) may before = sent_more m.sends (record { line = to; octets = encoding message }) before may

  sent_all : (m : Making) (os : List Operation) → SendAll os → Elsewhere m.sends → Elsewhere (making_after_all d m os).sends
  sent_all m [] may before = before
  sent_all m (o ∷ os) may before = sent_all (making_after d m o) os may.1 (performed m o may.0 before)

  -- the other leg of a call is cleared only if it is on another line
  peer_sends : (tones : Tones) (condition : Condition) (o : Option HeldLeg) → SendAll (with_peer o (restart_peer tones temporary_failure condition whole_line line))
  peer_sends tones condition None = tt
  peer_sends tones condition (Some k) = elim (true_or_false (restarts_slot whole_line line k.slot)) [
    | inl too ↦ rw too (tt, (tt, tt))
    | inr not_so ↦ rw not_so (tt, (tt, (tt, ((λ is. grind (arith, common_steps, not_so, is)), tt))))
  ]

  slot_sends : (tones : Tones) (condition : Condition) (legs : Legs) (n : ℕ) → SendAll (give_up_slot tones condition legs (record { line = line; place = n }))
  slot_sends tones condition legs n =
      let x : Slot = record { line = line; place = n } in
      at_held legs x (give_up_leg tones condition legs x) SendAll (λ none. (tt, tt)) (λ leg at. (tt, (tt, peer_sends tones condition (peer_of legs leg.peer))))

  walk_sends : (tones : Tones) (condition : Condition) (w : World) → Elsewhere (outcome_below d (give_up_rule tones condition) line w 30).making.sends
  walk_sends tones condition w = each_below d (give_up_rule tones condition) line w (λ a. Elsewhere a.making.sends) (λ signal inside. absurd (none_in_nil signal inside)) (λ a place small so_far.
      sent_all a.making (give_up_slot tones condition a.making.world.legs (record { line = line; place = place })) (slot_sends tones condition a.making.world.legs place) so_far) 30 (omega arith)

pub nothing_else_is_sent : (s : Setting) (w : World) (line : ℕ) → IsSentNothingElse s w line
nothing_else_is_sent s w line signal inside on = by (is_down w.legs line) refl inside
  where
    walked : Bool → MessageOutcome
    walked down = outcome_below s.dimensions (give_up_rule s.tones (unanswered down)) line w 30

    by : (down : Bool) → is_down w.legs line ≡ down → Contains (with_interface s.dimensions (not down) line (walked down)).making.sends signal → (signal ≡ interface_restart line) × (is_down w.legs line ≡ false)
    by true is inside = absurd (walk_sends s.dimensions line s.tones Owed w signal inside on)
    by false is inside = elim (Contains-append_cases (walked false).making.sends (interface_restart line ∷ []) signal inside) [
      | inl old ↦ absurd (walk_sends s.dimensions line s.tones Unconfirmed w signal old on)
      | inr new ↦ elim (cons_cases (interface_restart line) [] signal new) [
        | inl same ↦ (sym same, is)
        | inr none ↦ absurd (none_in_nil signal none)
      ]
    ]

-- ---- the users of the other lines

-- what is sent stays sent
sends_stay : (d : Dimensions) (m : Making) (os : List Operation) (signal : Signal) → Contains m.sends signal → Contains (making_after_all d m os).sends signal
sends_stay d m [] signal inside = inside
sends_stay d m (op.Clear x ∷ os) signal inside = sends_stay d (making_after d m (op.Clear x)) os signal inside
sends_stay d m (op.Pair x y ∷ os) signal inside = sends_stay d (making_after d m (op.Pair x y)) os signal inside
sends_stay d m (op.Seat x room ∷ os) signal inside = sends_stay d (making_after d m (op.Seat x room)) os signal inside
sends_stay d m (op.Sound x kind ∷ os) signal inside = sends_stay d (making_after d m (op.Sound x kind)) os signal inside
sends_stay d m (op.Put x leg ∷ os) signal inside = sends_stay d (making_after d m (op.Put x leg)) os signal inside
sends_stay d m (op.Wait x leg p ∷ os) signal inside = sends_stay d (making_after d m (op.Wait x leg p)) os signal inside
sends_stay d m (op.Expect x leg message ∷ os) signal inside =
    sends_stay d (making_after d m (op.Expect x leg message)) os signal (Contains-append_left m.sends (record { line = x.line; octets = encoding message } ∷ []) signal inside)
sends_stay d m (op.Repeat h octets ∷ os) signal inside =
    sends_stay d (making_after d m (op.Repeat h octets)) os signal (Contains-append_left m.sends (record { line = h.slot.line; octets = octets } ∷ []) signal inside)
sends_stay d m (op.Await x leg ∷ os) signal inside = sends_stay d (making_after d m (op.Await x leg)) os signal inside
sends_stay d m (op.Remove x condition ∷ os) signal inside = sends_stay d (making_after d m (op.Remove x condition)) os signal inside
sends_stay d m (op.Send to message ∷ os) signal inside =
    sends_stay d (making_after d m (op.Send to message)) os signal (Contains-append_left m.sends (record { line = to; octets = encoding message } ∷ []) signal inside)

-- the operations at a slot whose leg is in a call to another line
module _ (tones : Tones) (condition : Condition) (legs : Legs) (x y : Slot) (leg other : Leg) where
  call_is : leg_at legs y ≡ Some other → other.peer ≡ peer.Leg x → leg_at legs x ≡ Some leg → restarts_slot whole_line y.line x ≡ false
      → give_up_slot tones condition legs y ≡ op.Clear y ∷ op.Remove y condition ∷ clear_with tones temporary_failure (record { slot = x; leg = leg })
  call_is at_y back at_x apart = rw (at_y, back, at_x, apart) refl

module _ (s : Setting) (line : ℕ) (w : World) (condition : Condition) (below : line < s.dimensions.external) (kept : Kept s.dimensions s.tones w) (n : ℕ) (small : n < 30)
    (x : Slot) (leg : Leg) (in_x : IsExternal s.dimensions.external x) (off : x.line ≢ line) (at : leg_at w.legs x ≡ Some leg) (names : leg.peer ≡ peer.Leg (record { line = line; place = n })) where
  abbrev d : Dimensions
  d = s.dimensions

  abbrev y : Slot
  y = record { line = line; place = n }

  abbrev sent : Signal
  sent = restart_signal s.tones x leg

  abbrev walked : ℕ → MessageOutcome
  walked k = outcome_below d (give_up_rule s.tones condition) line w k

  abbrev u : World
  u = (walked n).making.world

  so_far : So_far s line w condition below kept n (walked n)
  so_far = all_so_far s line w condition below kept n (omega (arith, small))

  elsewhere : restarts_slot whole_line line x ≡ false
  elsewhere = grind (arith, common_steps, off)

  -- before the turn of its peer the leg is unchanged
  still : leg_at u.legs x ≡ Some leg
  still =
      so_far.legs.others x leg in_x elsewhere at
      ∙ ap (λ (l : Leg). Some l) (
      ap (left_below whole_line line w n leg) names
      ∙ ap (λ (b : Bool). if b then begun w (in_disconnect_indication temporary_failure leg) else leg) (none_before (restarts_slot whole_line line y) (nat_lt n n) (lt_false whole_line line n n (omega arith)))
      )

  call : HasPeer d.external u.legs x leg (peer.Leg y)
  call = subst (HasPeer d.external u.legs x leg) names (so_far.legs.kept.1.each x leg in_x still).peer

  at_turn : Contains (walked (suc n)).making.sends sent
  at_turn =
      let other = call.1.0 in
      let peers = peers_of d.external u x y leg other in_x call.0 still call.1.1 call.1.2 in
      subst (λ (b : MessageOutcome). Contains b.making.sends sent) (sym (below_more d (give_up_rule s.tones condition) line w n))
      (subst (λ (os : List Operation). Contains (making_after_all d (walked n).making os).sends sent) (sym (call_is s.tones condition u.legs x y leg other call.1.1 peers.back still elsewhere))
      (Contains-append_right (walked n).making.sends (sent ∷ []) sent (at_head sent [] sent refl)))

  later : (k : ℕ) → suc n ≤ k → Contains (walked k).making.sends sent
  later zero low = absurd (omega (arith, low))
  later (suc k) low = elim (true_or_false (k == n)) [
    | inl same ↦ subst (λ (j : ℕ). Contains (walked (suc j)).making.sends sent) (sym (eqb-true k n same)) at_turn
    | inr apart ↦
        let other : k ≡ n → ⊥ = λ is. grind (arith, common_steps, apart, is) in
        subst (λ (b : MessageOutcome). Contains b.making.sends sent) (sym (below_more d (give_up_rule s.tones condition) line w k))
        (sends_stay d (walked k).making (give_up_slot s.tones condition (walked k).making.world.legs (record { line = line; place = k })) sent (later k (omega (arith, low, other))))
  ]

  interface_too : (b : Bool) → Contains (with_interface d b line (walked 30)).making.sends sent
  interface_too true = Contains-append_left (walked 30).making.sends (interface_restart line ∷ []) sent (later 30 (omega (arith, small)))
  interface_too false = later 30 (omega (arith, small))

pub peers_are_disconnected : (s : Setting) (w : World) (line : ℕ) → HasLine s w line → PeersAreDisconnected s w line
peers_are_disconnected s w line can x leg y in_x off at names on =
    let has = subst (HasPeer s.dimensions.external w.legs x leg) names (can.stands.legs.each x leg in_x at).peer in
    let same : y ≡ record { line = line; place = y.place } = same_parts y line y.place on refl in
    let down : Bool = is_down w.legs line in
    interface_too s line w (unanswered down) can.line_exists (can.stands.circuits, can.stands.legs) y.place has.0.1 x leg in_x off at (names ∙ ap (λ (q : Slot). let named : Peer = peer.Leg q in named) same) (not down)
