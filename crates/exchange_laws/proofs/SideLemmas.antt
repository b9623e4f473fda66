-- The two sides of an interface read each other's frames alike.
use Rattle.std.proofs.Common.{◌≡◌, ℕ, Bool, true, false, List, [], ◌∷◌, refl, sym, ap, ◌∙◌, None, if◌then◌else◌}
use Rattle.std.specs.Prelude.{Option, ◌==◌}
use Rattle.std.proofs.lemmas.Bool.{eqb-true}
use Rattle.link_frames.specs.declared.frame.Frame.{Frame}
use Rattle.link_frames.specs.declared.frame.Sender.TheVariants.{User, Network}
use Rattle.link_frames.specs.Fields.{tei_octet}
use Rattle.link_frames.specs.Reading.{command_of, frame_with, reading}
use Rattle.link_frames.specs.Writing.{encoding}
use Rattle.exchange_laws.specs.Sides.{other_side, as_user}

other_command : (octet : ℕ) → command_of User (other_side octet) ≡ command_of Network octet
other_command octet = zero (octet == 0) refl
  where
    two : (b : Bool) → (octet == 0) ≡ false → (octet == 2) ≡ b → command_of User (other_side octet) ≡ command_of Network octet
    two true off e = let is : octet ≡ 2 = eqb-true octet 2 e in ap (λ n. command_of User (other_side n)) is ∙ ap (command_of Network) (sym is)
    two false off e = rw (off, e) (rw (off, e) refl)

    zero : (b : Bool) → (octet == 0) ≡ b → command_of User (other_side octet) ≡ command_of Network octet
    zero true e = let is : octet ≡ 0 = eqb-true octet 0 e in ap (λ n. command_of User (other_side n)) is ∙ ap (command_of Network) (sym is)
    zero false e = two (octet == 2) e refl

pub read_alike : (octets : List ℕ) → reading User (as_user octets) ≡ reading Network octets
read_alike [] = refl
read_alike (address ∷ []) = refl
read_alike (address ∷ tei ∷ []) = refl
read_alike (address ∷ tei ∷ first ∷ rest) = ap (λ (c : Option Bool). if tei == tei_octet then frame_with c first rest else None) (other_command address)

pub written_alike : (f : Frame) → as_user (encoding Network f) ≡ encoding User f
unfolding encoding
written_alike f = cases f.command
  where
    cases : (b : Bool) → as_user (encoding Network (record f { command = b })) ≡ encoding User (record f { command = b })
    cases true = refl
    cases false = refl
