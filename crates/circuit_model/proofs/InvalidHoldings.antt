-- Holdings that are not valid.
use Rattle.std.proofs.Common.{◌≡◌, ℕ, List, [], ◌∷◌, inl, inr, sym, ◌∙◌}
use Rattle.circuit_model.specs.declared.channel.Slot.{Slot}
use Rattle.circuit_model.specs.declared.circuit.Circuit.{Circuit}
use Rattle.circuit_model.specs.declared.circuit.Circuit.TheVariants.{Pair}
use Rattle.circuit_model.specs.Holding.{circuits_naming, Stands, Has_no_circuit, Has_tone, Is_seated, Is_connected}

-- what names a slot is no connection that is whole
pub stands_once : (circuits : List Circuit) (x : Slot) (c d : Circuit) (rest : List Circuit) → circuits_naming circuits x ≡ c ∷ d ∷ rest
    → ((y : Slot) (since : ℕ) → ¬ (y ≡ x) → c ≡ Pair x y since → d ≡ Pair y x since → ⊥)
    → ((y : Slot) (since : ℕ) → ¬ (y ≡ x) → c ≡ Pair y x since → d ≡ Pair x y since → ⊥) → Stands circuits x → ⊥
stands_once circuits x c d rest n first second (Has_no_circuit e) = let no = sym n ∙ e in cc
stands_once circuits x c d rest n first second (Has_tone kind since e) = let no = sym n ∙ e in cc
stands_once circuits x c d rest n first second (Is_seated room since e) = let no = sym n ∙ e in cc
stands_once circuits x c d rest n first second (Is_connected y since apart (inl e)) = let same = sym n ∙ e in first y since apart (cc) (cc)
stands_once circuits x c d rest n first second (Is_connected y since apart (inr e)) = let same = sym n ∙ e in second y since apart (cc) (cc)

-- one direction of a connection alone
pub stands_both_ways : (circuits : List Circuit) (x from to : Slot) (n : ℕ) → circuits_naming circuits x ≡ Pair from to n ∷ [] → Stands circuits x → ⊥
stands_both_ways circuits x from to n named (Has_no_circuit e) = let no = sym named ∙ e in cc
stands_both_ways circuits x from to n named (Has_tone kind since e) = let no = sym named ∙ e in cc
stands_both_ways circuits x from to n named (Is_seated room since e) = let no = sym named ∙ e in cc
stands_both_ways circuits x from to n named (Is_connected y since apart (inl e)) = let no = sym named ∙ e in cc
stands_both_ways circuits x from to n named (Is_connected y since apart (inr e)) = let no = sym named ∙ e in cc
