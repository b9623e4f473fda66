-- The octets of a frame are read as that frame.
use Rattle.std.proofs.Common.{◌≡◌, ℕ, ◌+◌, ◌*◌, ◌/◌, ◌%◌, ◌≤◌, Bool, true, false, eqb, List, [], ◌∷◌, length, Option, Some, refl, ap, ◌∙◌, arith, eq-eqb}
use Rattle.std.proofs.lemmas.Bool.{le-leb}
use Rattle.link_frames.specs.declared.frame.Sender.{Sender}
use Rattle.link_frames.specs.declared.frame.Sender.TheVariants.{User, Network}
use Rattle.link_frames.specs.declared.frame.Supervisory.{Supervisory}
use Rattle.link_frames.specs.declared.frame.Supervisory.TheVariants.{Rr, Rnr, Rej}
use Rattle.link_frames.specs.declared.frame.Control.{Control}
use Rattle.link_frames.specs.declared.frame.Control.TheVariants as control
use Rattle.link_frames.specs.declared.frame.Frame.{Frame}
use Rattle.link_frames.specs.Fields.{address_octet, supervisory_octet, sabme, disc, ua, dm, bit}
use Rattle.link_frames.specs.Reading.{command_of, control_of, framed, frame_with, reading}
use Rattle.link_frames.specs.Writing.{IsWritable, fields_of, encoding}

command_back : (s : Sender) (command : Bool) → command_of s (address_octet s command) ≡ Some command
command_back User true = refl
command_back User false = refl
command_back Network true = refl
command_back Network false = refl

even : (n : ℕ) → eqb (2 * n % 2) 0 ≡ true
even n = eq-eqb (2 * n % 2) 0 (omega arith)

half : (n : ℕ) → 2 * n / 2 ≡ n
half n = omega arith

half_with : (n : ℕ) (b : Bool) → (2 * n + bit b) / 2 ≡ n
half_with n true = omega arith
half_with n false = omega arith

remainder_is : (n b : ℕ) → b ≤ 1 → (2 * n + b) % 2 ≡ b
remainder_is n b small = omega arith

bit_back : (n : ℕ) (b : Bool) → eqb ((2 * n + bit b) % 2) 1 ≡ b
bit_back n true = ap (λ r. eqb r 1) (remainder_is n 1 (omega arith))
bit_back n false = ap (λ r. eqb r 1) (remainder_is n 0 (omega arith))

-- the control field that begins with this octet
abbrev Reads : Bool → Control → ℕ → List ℕ → Type 0
Reads command c first rest = control_of command first rest ≡ Some c

information_back : (poll : Bool) (ns nr : ℕ) (information : List ℕ) → length information ≤ 260 → Reads true (control.Information poll ns nr information) (2 * ns) ((2 * nr + bit poll) ∷ information)
information_back poll ns nr information short = rw (even ns, le-leb (length information) 260 short, half ns, half_with nr poll, bit_back nr poll) refl

supervisory_back : (command : Bool) (kind : Supervisory) (pf : Bool) (nr : ℕ) → Reads command (control.Supervisory kind pf nr) (supervisory_octet kind) ((2 * nr + bit pf) ∷ [])
supervisory_back command Rr pf nr = rw (half_with nr pf, bit_back nr pf) refl
supervisory_back command Rnr pf nr = rw (half_with nr pf, bit_back nr pf) refl
supervisory_back command Rej pf nr = rw (half_with nr pf, bit_back nr pf) refl

reading_frame_back : (s : Sender) (command : Bool) (c : Control) (first : ℕ) (rest : List ℕ) → Reads command c first rest → reading s (address_octet s command ∷ 1 ∷ first ∷ rest) ≡ framed command (Some c)
reading_frame_back s command c first rest reads = ap (λ (o : Option Bool). frame_with o first rest) (command_back s command) ∙ ap (λ (x : Option Control). framed command x) reads

pub reading_control_back : (s : Sender) (command : Bool) (c : Control) → IsWritable command c → reading s (address_octet s command ∷ 1 ∷ fields_of c) ≡ framed command (Some c)
reading_control_back s true (control.Information poll ns nr information) h = reading_frame_back s true _ _ _ (information_back poll ns nr information h.2)
reading_control_back s false (control.Information poll ns nr information) h = absurd h
reading_control_back s true (control.Supervisory kind pf nr) h = reading_frame_back s true _ _ _ (supervisory_back true kind pf nr)
reading_control_back s false (control.Supervisory kind pf nr) h = reading_frame_back s false _ _ _ (supervisory_back false kind pf nr)
reading_control_back s true (control.Sabme true) h = reading_frame_back s true (control.Sabme true) (sabme + 16) [] refl
reading_control_back s true (control.Sabme false) h = reading_frame_back s true (control.Sabme false) sabme [] refl
reading_control_back s false (control.Sabme pf) h = absurd h
reading_control_back s true (control.Disc true) h = reading_frame_back s true (control.Disc true) (disc + 16) [] refl
reading_control_back s true (control.Disc false) h = reading_frame_back s true (control.Disc false) disc [] refl
reading_control_back s false (control.Disc pf) h = absurd h
reading_control_back s false (control.Ua true) h = reading_frame_back s false (control.Ua true) (ua + 16) [] refl
reading_control_back s false (control.Ua false) h = reading_frame_back s false (control.Ua false) ua [] refl
reading_control_back s true (control.Ua pf) h = absurd h
reading_control_back s false (control.Dm true) h = reading_frame_back s false (control.Dm true) (dm + 16) [] refl
reading_control_back s false (control.Dm false) h = reading_frame_back s false (control.Dm false) dm [] refl
reading_control_back s true (control.Dm pf) h = absurd h
reading_control_back s true control.Frmr h = absurd h
reading_control_back s false control.Frmr h = absurd h
reading_control_back s true control.Ui h = absurd h
reading_control_back s false control.Ui h = absurd h
reading_control_back s true control.Xid h = absurd h
reading_control_back s false control.Xid h = absurd h
reading_control_back s true control.Invalid h = absurd h
reading_control_back s false control.Invalid h = absurd h

pub reading_of_encoding : (s : Sender) (f : Frame) → IsWritable f.command f.control → reading s (encoding s f) ≡ Some f
unfolding encoding
reading_of_encoding s f h = reading_control_back s f.command f.control h
