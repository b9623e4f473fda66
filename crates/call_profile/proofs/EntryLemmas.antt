-- One entry of the table of legs that is written, and a table without entries.
use Rattle.std.proofs.Common.{◌≡◌, ℕ, zero, suc, ◌*◌, List, Option, None, length, refl, arith, get_or, get_or-set_same, get_or-set_other}
use Rattle.std.specs.Prelude.{replicate, slice_set}
use Rattle.circuit_model.specs.declared.channel.Slot.{Slot}
use Rattle.circuit_model.specs.Extent.{IsExternal}
use Rattle.control_memory.specs.Layout.{number_of}
use Rattle.control_memory.proofs.Steps.{same_number, number_inside}
use Rattle.call_states.specs.declared.leg.Leg.{Leg}
use Rattle.call_states.specs.declared.pending.Pending.{Pending}
use Rattle.call_profile.specs.Legs.{Legs, leg_at, pending_at, kept_at}

-- ---- one entry written

abbrev pub written : Legs → Slot → Option Leg → Option Pending → Option (List ℕ) → Legs
written legs x o p k = record legs { held = slice_set legs.held (number_of x) o; pending = slice_set legs.pending (number_of x) p; kept = slice_set legs.kept (number_of x) k }

module _ (external : ℕ) (legs : Legs) (x : Slot) (in_x : IsExternal external x) (o : Option Leg) (p : Option Pending) (k : Option (List ℕ)) where
  pub leg_here : length legs.held ≡ 30 * external → leg_at (written legs x o p k) x ≡ o
  leg_here size = get_or-set_same legs.held (number_of x) o None (let n = number_inside external x in_x in omega (arith, n, size))

  pub pending_here : length legs.pending ≡ 30 * external → pending_at (written legs x o p k) x ≡ p
  pending_here size = get_or-set_same legs.pending (number_of x) p None (let n = number_inside external x in_x in omega (arith, n, size))

  pub kept_here : length legs.kept ≡ 30 * external → kept_at (written legs x o p k) x ≡ k
  kept_here size = get_or-set_same legs.kept (number_of x) k None (let n = number_inside external x in_x in omega (arith, n, size))

  module _ (z : Slot) (in_z : IsExternal external z) (apart : z ≡ x → ⊥) where
    other_number : number_of z ≡ number_of x → ⊥
    other_number e = apart (same_number z x in_z.1 in_x.1 e)

    pub leg_else : leg_at (written legs x o p k) z ≡ leg_at legs z
    leg_else = get_or-set_other legs.held (number_of x) (number_of z) o None other_number

    pub pending_else : pending_at (written legs x o p k) z ≡ pending_at legs z
    pending_else = get_or-set_other legs.pending (number_of x) (number_of z) p None other_number

    pub kept_else : kept_at (written legs x o p k) z ≡ kept_at legs z
    kept_else = get_or-set_other legs.kept (number_of x) (number_of z) k None other_number

-- ---- no entries

abbrev pub bare : (X : Type 0) → ℕ → List (Option X)
bare X n = replicate n None

pub get_or-bare : (X : Type 0) (n i : ℕ) → get_or (bare X n) i None ≡ None
get_or-bare X zero i = refl
get_or-bare X (suc n) zero = refl
get_or-bare X (suc n) (suc i) = get_or-bare X n i
