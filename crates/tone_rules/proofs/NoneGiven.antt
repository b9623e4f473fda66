-- No tone is given where neither ringing tone nor busy tone is.
use Rattle.std.proofs.Common.{◌↔◌, Bool, true, false, true≢false, IsTrue, not, refl, sym}
use Rattle.circuit_model.specs.declared.circuit.Kind.{Kind}
use Rattle.circuit_model.specs.declared.circuit.Kind.TheVariants.{Ringback, Busy}
use Rattle.tone_rules.specs.declared.tones.Tones.{Tones}
use Rattle.tone_rules.specs.Tables.{IsGiven}

not_both : (b : Bool) → IsTrue (not b) → IsTrue b → ⊥
not_both true none is = true≢false (sym none)
not_both false none is = true≢false (sym is)

either : (b : Bool) → (IsTrue b → ⊥) → IsTrue (not b)
either true none = absurd (none refl)
either false none = refl

of_kind : (tones : Tones) → (IsGiven tones Ringback → ⊥) → (IsGiven tones Busy → ⊥) → (kind : Kind) → IsGiven tones kind → ⊥
of_kind tones ringback busy Ringback = ringback
of_kind tones ringback busy Busy = busy

pub no_tone : (tones : Tones) (ringback busy : Bool)
    → IsTrue ringback ↔ IsGiven tones Ringback → IsTrue busy ↔ IsGiven tones Busy
    → IsTrue (not ringback) → IsTrue (not busy) ↔ ((kind : Kind) → IsGiven tones kind → ⊥)
no_tone tones ringback busy first second none = (
  (λ other. of_kind tones (λ given. not_both ringback none (first.1 given)) (λ given. not_both busy other (second.1 given))),
  λ all. either busy (λ is. all Busy (second.0 is)),
)
