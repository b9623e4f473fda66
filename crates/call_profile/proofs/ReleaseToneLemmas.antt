-- Operations leave what a slot hears in release request to the RELEASE that is kept there.
use Rattle.std.proofs.Common.{◌≡◌, ◌≢◌, ℕ, ◌*◌, ◌⊎◌, inl, inr, false, List, [], ◌∷◌, length, Option, Some, None, refl, sym, ◌∙◌, ap, subst, arith, length-set}
use Rattle.std.specs.Prelude.{IfSome, option_map}
use Rattle.std.proofs.lemmas.Grind.{common_steps}
use Rattle.circuit_model.specs.declared.channel.Slot.{Slot}
use Rattle.circuit_model.specs.declared.circuit.Circuit.{Circuit}
use Rattle.circuit_model.specs.declared.circuit.Kind.{Kind}
use Rattle.circuit_model.specs.declared.circuit.Circuit.TheVariants.{Tone}
use Rattle.circuit_model.specs.Circuits.{heard_by, unless_naming}
use Rattle.circuit_model.specs.Extent.{IsExternal}
use Rattle.circuit_model.specs.Holding.{Holding, Connect, Seat as Take_seat, Clear as Clear_slot, after, Valid}
use Rattle.circuit_model.proofs.Slots.{same_slot-false}
use Rattle.circuit_model.proofs.Validity.{valid-clear, valid-connect, valid-seat, heard_by-clear}
use Rattle.control_memory.specs.Layout.{number_of}
use Rattle.number_plan.specs.declared.plan.Number.{Number}
use Rattle.q931_codec.specs.CallStates.{overlap_sending, release_request}
use Rattle.q931_codec.specs.Outgoing.{encoding}
use Rattle.call_states.specs.declared.leg.Leg.{Leg}
use Rattle.call_states.specs.declared.pending.Pending.{Pending}
use Rattle.tone_rules.specs.declared.tones.Tones.{Tones}
use Rattle.exchange_events.specs.Sizes.{Dimensions}
use Rattle.call_profile.specs.KeptMessages.{awaiting_answer}
use Rattle.call_states.specs.Acts.{is_among}
use Rattle.call_profile.specs.Legs.{Legs, leg_at, kept_at, retransmitted_from}
use Rattle.call_profile.specs.Operations as op
use Rattle.call_profile.specs.Operations.{Operation, Making, begun, with_legs, making_after, making_after_all}
use Rattle.call_profile.specs.ReleaseTones.{SoundsByRelease, ReleasesSound}
use Rattle.call_profile.specs.World.{World, obey}
use Rattle.call_profile.proofs.BesideLemmas.{same_or_apart}
use Rattle.call_profile.proofs.EntryLemmas.{written, leg_here, kept_here, leg_else, kept_else}
use Rattle.call_profile.proofs.HearingLemmas.{heard_by_connect_keeps, heard_by_seat_keeps}
use Rattle.call_profile.proofs.Permitted.{IsPermitted, ArePermitted}
use Rattle.call_profile.proofs.ToneLemmas.{heard_by_sounding_keeps, sounding_valid}

-- the leg at a slot is not in release request, if there is one
abbrev pub Unreleased : World → Slot → Type 0
Unreleased w x = IfSome (leg_at w.legs x) (λ leg. leg.state ≢ release_request)

-- ---- a slot that hears a tone or nothing hears on when another one is cleared

tone_stays : (z x : Slot) (since : ℕ) (tone : Option Kind) → (z ≡ x → ⊥) → unless_naming x (option_map (λ kind. Tone kind z since) tone) ≡ option_map (λ kind. Tone kind z since) tone
tone_stays z x since None apart = refl
tone_stays z x since (Some kind) apart = rw (same_slot-false x z (λ e. apart (sym e))) refl

module _ (d : Dimensions) (tones : Tones) where
  cleared_still : (h : Holding) (x z : Slot) (leg : Leg) (octets : List ℕ) → Valid d.bridges h → (z ≡ x → ⊥) → SoundsByRelease tones z leg octets (heard_by h.circuits z)
      → heard_by (after h (Clear_slot x)).circuits z ≡ heard_by h.circuits z
  cleared_still h x z leg octets valid apart old =
      let hears = old.hears.1 in
      heard_by-clear h.circuits x z (valid.standing z) ∙ ap (unless_naming x) hears ∙ tone_stays z x old.hears.0 _ apart ∙ sym hears

  -- ---- circuits change

  -- each slot hears what it heard, or its leg is in another state
  abbrev HearsOn : World → World → Slot → Type 0
  HearsOn w v z = Unreleased w z ⊎ ((leg : Leg) (octets : List ℕ) → SoundsByRelease tones z leg octets (heard_by w.holding.circuits z) → heard_by v.holding.circuits z ≡ heard_by w.holding.circuits z)

  pub heard_on : (w v : World) → v.legs ≡ w.legs → ReleasesSound d.external tones w → ((z : Slot) → IsExternal d.external z → HearsOn w v z) → ReleasesSound d.external tones v
  heard_on w v same sound each z leg octets in_z at is keeps =
      let before : leg_at w.legs z ≡ Some leg = sym (ap (λ (ls : Legs). leg_at ls z) same) ∙ at in
      let kept : kept_at w.legs z ≡ Some octets = sym (ap (λ (ls : Legs). kept_at ls z) same) ∙ keeps in
      let old = sound z leg octets in_z before is kept in
      elim (each z in_z) [
        | inl quiet ↦ absurd (subst (λ (o : Option Leg). IfSome o (λ l. l.state ≢ release_request)) before quiet is)
        | inr still ↦ subst (SoundsByRelease tones z leg octets) (sym (still leg octets old)) old
      ]

  -- one slot or another: here the leg is in another state
  at_one : (w v : World) (x : Slot) → Unreleased w x → ((z : Slot) → (z ≡ x → ⊥) → HearsOn w v z) → (z : Slot) → IsExternal d.external z → HearsOn w v z
  at_one w v x quiet else z in_z = elim (same_or_apart z x) [
    | inl same ↦ inl (subst (Unreleased w) (sym same) quiet)
    | inr apart ↦ else z apart
  ]

  -- ---- the entry of a slot changes

  pub entered_on : (w : World) (x : Slot) (o : Option Leg) (p : Option Pending) (k : Option (List ℕ)) → IsExternal d.external x → length w.legs.held ≡ 30 * d.external → length w.legs.kept ≡ 30 * d.external
      → ReleasesSound d.external tones w
      → ((leg : Leg) (octets : List ℕ) → o ≡ Some leg → leg.state ≡ release_request → k ≡ Some octets → SoundsByRelease tones x leg octets (heard_by w.holding.circuits x))
      → ReleasesSound d.external tones (with_legs w (written w.legs x o p k))
  entered_on w x o p k in_x held kept sound here z leg octets in_z at is keeps =
      let now : Legs = written w.legs x o p k in
      elim (same_or_apart z x) [
        | inl same ↦
            let leg_is : o ≡ Some leg = sym (leg_here d.external w.legs x in_x o p k held) ∙ ap (leg_at now) (sym same) ∙ at in
            let kept_is : k ≡ Some octets = sym (kept_here d.external w.legs x in_x o p k kept) ∙ ap (kept_at now) (sym same) ∙ keeps in
            subst (λ (y : Slot). SoundsByRelease tones y leg octets (heard_by w.holding.circuits y)) (sym same) (here leg octets leg_is is kept_is)
        | inr apart ↦ sound z leg octets in_z (sym (leg_else d.external w.legs x in_x o p k z in_z apart) ∙ at) is (sym (kept_else d.external w.legs x in_x o p k z in_z apart) ∙ keeps)
      ]

-- a leg in another state has no RELEASE that counts
other_state : (tones : Tones) (x : Slot) (new : Leg) (k : Option (List ℕ)) (heard : Option Circuit) → new.state ≢ release_request
    → (leg : Leg) (octets : List ℕ) → Some new ≡ Some leg → leg.state ≡ release_request → k ≡ Some octets → SoundsByRelease tones x leg octets heard
other_state tones x new k heard apart leg octets e is f = let same : new ≡ leg = cc in absurd (apart (ap (λ (l : Leg). l.state) same ∙ is))

unkept_state : (state : ℕ) → is_among awaiting_answer state ≡ false → state ≢ release_request
unkept_state state none is = grind (arith, common_steps, none, is)

dialling_state : (state : ℕ) → state ≡ overlap_sending → state ≢ release_request
dialling_state state dials is = grind (arith, common_steps, dials, is)

-- the same message is kept of a leg that waits anew
anew_sounds : (tones : Tones) (x : Slot) (next : ℕ) (leg : Leg) (octets : List ℕ) (heard : Option Circuit) → SoundsByRelease tones x leg octets heard → SoundsByRelease tones x (retransmitted_from next leg) octets heard
anew_sounds tones x next leg octets heard old = record { cause = old.cause; own = old.own; kept = old.kept; hears = old.hears }

-- ---- operations

-- what every event is to keep of what slots hear in release request
pub record Sounding (d : Dimensions) (tones : Tones) (w : World) : Type 0 where
  pub valid : Valid d.bridges w.holding
  pub held : length w.legs.held ≡ 30 * d.external
  pub kept : length w.legs.kept ≡ 30 * d.external
  pub sound : ReleasesSound d.external tones w

-- what an operation asks for that: slots whose circuits change have legs in other states; and where a RELEASE goes to a leg, its slot hears
-- what the RELEASE says
abbrev pub IsHushed : Tones → Making → Operation → Type 0
IsHushed tones m (op.Clear x) = Unreleased m.world x
IsHushed tones m (op.Pair x y) = Unreleased m.world x × Unreleased m.world y
IsHushed tones m (op.Seat x room) = Unreleased m.world x
IsHushed tones m (op.Sound x kind) = Unreleased m.world x
IsHushed tones m (op.Put x leg) = Unit {0}
IsHushed tones m (op.Wait x leg pending) = Unit {0}
IsHushed tones m (op.Expect x leg message) = leg.state ≡ release_request → SoundsByRelease tones x (begun m.world leg) (encoding message) (heard_by m.world.holding.circuits x)
IsHushed tones m (op.Repeat h octets) = Unit {0}
IsHushed tones m (op.Await x leg) = Unit {0}
IsHushed tones m (op.Remove x condition) = Unit {0}
IsHushed tones m (op.Send line message) = Unit {0}

abbrev pub AreHushed : Dimensions → Tones → Making → List Operation → Type 0
AreHushed d tones m [] = Unit {0}
AreHushed d tones m (o ∷ os) = IsHushed tones m o × AreHushed d tones (making_after d m o) os

module _ (d : Dimensions) (tones : Tones) (plan : List Number) where
  -- circuits change, and no leg
  heard_anew : (w v : World) → v.legs ≡ w.legs → Sounding d tones w → Valid d.bridges v.holding → ((z : Slot) → IsExternal d.external z → HearsOn d tones w v z) → Sounding d tones v
  heard_anew w v same before valid each = record {
    valid = valid;
    held = ap (λ (ls : Legs). length ls.held) same ∙ before.held;
    kept = ap (λ (ls : Legs). length ls.kept) same ∙ before.kept;
    sound = heard_on d tones w v same before.sound each;
  }

  -- an entry changes, and no circuit
  entered : (w : World) (x : Slot) (o : Option Leg) (p : Option Pending) (k : Option (List ℕ)) → IsExternal d.external x → Sounding d tones w
      → ((leg : Leg) (octets : List ℕ) → o ≡ Some leg → leg.state ≡ release_request → k ≡ Some octets → SoundsByRelease tones x leg octets (heard_by w.holding.circuits x))
      → Sounding d tones (with_legs w (written w.legs x o p k))
  entered w x o p k in_x before here = record {
    valid = before.valid;
    held = length-set w.legs.held (number_of x) o ∙ before.held;
    kept = length-set w.legs.kept (number_of x) k ∙ before.kept;
    sound = entered_on d tones w x o p k in_x before.held before.kept before.sound here;
  }

  -- the RELEASE that is put with a leg
  put_with : (w : World) (x : Slot) (leg : Leg) (octets : List ℕ) → (leg.state ≡ release_request → SoundsByRelease tones x (begun w leg) octets (heard_by w.holding.circuits x))
      → (l : Leg) (os : List ℕ) → Some (begun w leg) ≡ Some l → l.state ≡ release_request → Some octets ≡ Some os → SoundsByRelease tones x l os (heard_by w.holding.circuits x)
  put_with w x leg octets sounds l os e is f =
      let same : begun w leg ≡ l = cc in
      let those : octets ≡ os = cc in
      let new = sounds (ap (λ (k : Leg). k.state) same ∙ is) in
      subst (λ (k : Leg). SoundsByRelease tones x k os (heard_by w.holding.circuits x)) same (subst (λ (list : List ℕ). SoundsByRelease tones x (begun w leg) list (heard_by w.holding.circuits x)) those new)

  pub Sounding-making_after : (m : Making) (o : Operation) → IsPermitted d tones plan m o → IsHushed tones m o → Sounding d tones m.world → Sounding d tones (making_after d m o).world
  Sounding-making_after m (op.Clear x) may quiet before =
      let w = m.world in
      let v = obey d w (Clear_slot x) in
      heard_anew w v refl before (valid-clear d.bridges w.holding x before.valid)
      (at_one d tones w v x quiet (λ z apart. inr (λ leg octets old. cleared_still d tones w.holding x z leg octets before.valid apart old)))
  Sounding-making_after m (op.Pair x y) may quiet before =
      let w = m.world in
      let v = obey d w (Connect x y) in
      heard_anew w v refl before (valid-connect d.bridges w.holding x y before.valid may.apart may.idle_first may.idle_second)
      (at_one d tones w v x quiet.0 (λ z not_x. elim (same_or_apart z y) [
        | inl same ↦ inl (subst (Unreleased w) (sym same) quiet.1)
        | inr not_y ↦ inr (λ leg octets old. heard_by_connect_keeps w.holding x y z may.idle_first may.idle_second not_x not_y)
      ]))
  Sounding-making_after m (op.Seat x room) may quiet before =
      let w = m.world in
      let v = obey d w (Take_seat x room) in
      heard_anew w v refl before (valid-seat d.bridges w.holding x room before.valid may.idle may.free)
      (at_one d tones w v x quiet (λ z apart. inr (λ leg octets old. heard_by_seat_keeps w.holding x z room may.idle apart)))
  Sounding-making_after m (op.Sound x kind) may quiet before =
      let w = m.world in
      let v = (making_after d m (op.Sound x kind)).world in
      heard_anew w v refl before (sounding_valid w.holding x may.idle d.bridges before.valid kind)
      (at_one d tones w v x quiet (λ z apart. inr (λ leg octets old. heard_by_sounding_keeps w.holding x may.idle z apart kind)))
  Sounding-making_after m (op.Put x leg) may quiet before =
      entered m.world x (Some (begun m.world leg)) None None may.0 before (other_state tones x (begun m.world leg) None (heard_by m.world.holding.circuits x) (unkept_state leg.state may.3))
  Sounding-making_after m (op.Wait x leg p) may quiet before =
      entered m.world x (Some (begun m.world leg)) (Some p) None may.0 before (other_state tones x (begun m.world leg) None (heard_by m.world.holding.circuits x) (dialling_state leg.state may.2.state))
  Sounding-making_after m (op.Expect x leg message) may quiet before =
      entered m.world x (Some (begun m.world leg)) None (Some (encoding message)) may.0 before (put_with m.world x leg (encoding message) quiet)
  Sounding-making_after m (op.Repeat h octets) may quiet before =
      let w = m.world in
      let next : ℕ = w.holding.next in
      entered w h.slot (Some (retransmitted_from next h.leg)) None (Some octets) may.0 before (λ leg os e is f.
      let same : retransmitted_from next h.leg ≡ leg = cc in
      let those : octets ≡ os = cc in
      let old = before.sound h.slot h.leg octets may.0 may.1 (ap (λ (l : Leg). l.state) same ∙ is) may.2 in
      let new = anew_sounds tones h.slot next h.leg octets (heard_by w.holding.circuits h.slot) old in
      subst (λ (l : Leg). SoundsByRelease tones h.slot l os (heard_by w.holding.circuits h.slot)) same
      (subst (λ (list : List ℕ). SoundsByRelease tones h.slot (retransmitted_from next h.leg) list (heard_by w.holding.circuits h.slot)) those new))
  Sounding-making_after m (op.Await x leg) may quiet before =
      let next : ℕ = m.world.holding.next in
      entered m.world x (Some (retransmitted_from next leg)) None None may.0 before (other_state tones x (retransmitted_from next leg) None (heard_by m.world.holding.circuits x) (unkept_state leg.state may.3))
  Sounding-making_after m (op.Remove x condition) may quiet before =
      let gone = entered m.world x None None None may before (λ leg octets e is f. absurd cc) in
      record { valid = gone.valid; held = gone.held; kept = gone.kept; sound = gone.sound }
  Sounding-making_after m (op.Send line message) may quiet before = before

  pub performed_all : (m : Making) (os : List Operation) → ArePermitted d tones plan m os → AreHushed d tones m os → Sounding d tones m.world → Sounding d tones (making_after_all d m os).world
  performed_all m [] may quiet before = before
  performed_all m (o ∷ os) may quiet before = performed_all (making_after d m o) os may.1 quiet.1 (Sounding-making_after m o may.0 quiet.0 before)
