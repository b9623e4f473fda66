-- The connections before the first frame.
use Rattle.std.proofs.Common.{◌≡◌, ℕ, zero, suc, ◌*◌, Bool, true, false, ◌&&◌, if◌then◌else◌, arith, ◌∷◌, replicate, get_or, Option, None, refl, sym, ◌∙◌, ap}
use Rattle.std.specs.Prelude.{is_some, nat_lt}
use Rattle.std.specs.List.{count_by}
use Rattle.std.proofs.lemmas.Grind.{common_steps}
use Rattle.circuit_model.specs.declared.channel.Slot.{Slot}
use Rattle.circuit_model.specs.declared.circuit.Circuit.{Circuit}
use Rattle.circuit_model.specs.Holding.{empty}
use Rattle.circuit_model.specs.Ports.{free_ports, has}
use Rattle.circuit_model.proofs.Age.{none_in_nil}
use Rattle.circuit_model.proofs.Validity.{valid-empty}
use Rattle.conference_ports.specs.Owners.{members}
use Rattle.control_memory.specs.Layout.{Layout, IsBare, hop_of, number_of}
use Rattle.circuit_map.specs.Connections.{Connections, hears_in, hears_at, Represents}

pub get_or-replicate_none : {X : Type 0} (n k : ℕ) → get_or (replicate n (let x : Option X = None in x)) k None ≡ None
get_or-replicate_none zero k = refl
get_or-replicate_none (suc n) zero = refl
get_or-replicate_none (suc n) (suc k) = get_or-replicate_none n k

-- a layout of free inlets
pub bare_rows : (n : ℕ) (layout : Layout) → layout ≡ replicate n None → IsBare layout
bare_rows n layout free = λ from. ap (λ l. hop_of l from) free ∙ get_or-replicate_none n (number_of from)

one_or_none : (b : Bool) (o : Option Circuit) → o ≡ None → (if b then o else None) ≡ None
one_or_none true o e = e
one_or_none false o e = refl

pub hears_in_silent_rows : (external n : ℕ) (z : Slot) → hears_in external (replicate n None) z ≡ None
hears_in_silent_rows external n z = one_or_none (nat_lt z.line external && nat_lt z.place 30) (get_or (replicate n None) (number_of z) None) (get_or-replicate_none n (number_of z))

pub free_members : (n : ℕ) → members (replicate n None) ≡ replicate n None
free_members zero = refl
free_members (suc n) = ap (λ ps. None ∷ ps) (free_members n)

none_taken : (p : Option Slot → Bool) (n : ℕ) → p None ≡ false → count_by p (replicate n None) ≡ 0
none_taken p zero e = refl
none_taken p (suc n) e = let rest = none_taken p n e in grind (arith, common_steps)

pub holds_empty : (m : Connections) → m.next ≡ 0 → ((z : Slot) → hears_at m z ≡ None) → m.ports ≡ free_ports m.bridges → IsBare m.layout → Represents m empty (free_ports m.bridges)
holds_empty m first silent free bare = record {
  next = first;
  valid = valid-empty m.bridges;
  heard = silent;
  members = free;
  ported = λ z. none_taken (has z) (30 * m.bridges) refl;
  taken = none_taken is_some (30 * m.bridges) refl;
  joined = λ x y inside. (λ j. let wrong = sym (bare x) ∙ j.1 in absurd (cc), λ n. absurd (none_in_nil n.0 n.1));
}
