-- The call references of a line's called legs. Source: ITU-T Q.931 (05/98), 4.3.
use Rattle.std.specs.Prelude.{◌≡◌, ◌<◌, ℕ, None, Some}
use Rattle.circuit_model.specs.declared.channel.Slot.{Slot}
use Rattle.call_states.specs.declared.leg.Leg.{Leg}
use Rattle.call_states.specs.declared.leg.Side.TheVariants.{Called}
use Rattle.call_profile.specs.Legs.{Legs, leg_at}

-- a bearer channel of the line
abbrev pub IsOnLine : ℕ → Slot → Type 0
IsOnLine line x = (x.line ≡ line) × (x.place < 30)

-- a called leg of the line has this call reference
pub record HasReference (legs : Legs) (line reference : ℕ) : Type 0 where
  pub slot : Slot
  pub leg : Leg
  pub on_line : IsOnLine line slot
  pub at : leg_at legs slot ≡ Some leg
  pub is_called : leg.side ≡ Called
  pub same : leg.reference ≡ reference

-- a slot of the line holds no leg
abbrev pub HasSlotLeft : Legs → ℕ → Type 0
HasSlotLeft legs line = (x : Slot) × IsOnLine line x × (leg_at legs x ≡ None)
