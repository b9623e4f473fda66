-- Without a tone the idle octet stays idle.
use Rattle.std.proofs.Common.{◌≡◌, ℕ, List, Bool, true, false, refl, if◌then◌else◌}
use Rattle.circuit_model.specs.declared.circuit.Kind.{Kind}
use Rattle.circuit_model.specs.FrameInput.{idle_octet}
use Rattle.circuit_model.specs.Hears.{is_through}
use Rattle.control_memory.specs.declared.heard.Heard.{Heard}
use Rattle.control_memory.specs.declared.heard.Heard.TheVariants.{Silent, Path, Tone}
use Rattle.frame_engine.specs.Playing.{played_as}

either_way : (b : Bool) (octet other : ℕ) → octet ≡ other → (if b then octet else other) ≡ other
either_way true octet other same = same
either_way false octet other same = refl

-- what a slot that hears no tone is sent, if an idle octet was read out for it
pub plays_idle : (tones : Kind → List ℕ) (f octet : ℕ) (heard : Heard) → octet ≡ idle_octet → ((kind : Kind) (since : ℕ) → heard ≡ Tone kind since → ⊥) → played_as tones f octet heard ≡ idle_octet
plays_idle tones f octet Silent idle none = refl
plays_idle tones f octet (Path since) idle none = either_way (is_through since f) octet idle_octet idle
plays_idle tones f octet (Tone kind since) idle none = absurd (none kind since refl)
