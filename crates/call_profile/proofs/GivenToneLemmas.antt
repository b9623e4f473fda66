-- A tone that a control memory lets a slot hear is one that the trace gives.
use Rattle.std.proofs.Common.{◌≡◌, ℕ, ◌<◌, List, Option, Some, None, refl, sym, ◌∙◌, subst}
use Rattle.std.specs.Prelude.{All, option_and_then}
use Rattle.std.proofs.lemmas.List.Elements.{All-contains}
use Rattle.circuit_model.specs.declared.channel.Slot.{Slot}
use Rattle.circuit_model.specs.declared.circuit.Circuit.{Circuit}
use Rattle.circuit_model.specs.declared.circuit.Circuit.TheVariants.{Pair, Member, Tone}
use Rattle.circuit_model.specs.declared.circuit.Kind.{Kind}
use Rattle.circuit_model.specs.Circuits.{heard_by}
use Rattle.circuit_model.specs.Ports.{Ports}
use Rattle.circuit_model.proofs.Hearing.{heard_by-stands}
use Rattle.control_memory.specs.declared.heard.Heard.TheVariants.{Tone as Sounds}
use Rattle.control_memory.specs.Image.{Control, lines_of, heard_at}
use Rattle.control_memory.specs.Shown.{Shows, heard_as, served_by}
use Rattle.tone_rules.specs.declared.tones.Tones.{Tones}
use Rattle.tone_rules.specs.Tables.{IsGiven}
use Rattle.call_profile.specs.IsMade.{HasOctets}

module _ (tones : Tones) (circuits : List Circuit) (all : All (HasOctets tones) circuits) (kind : Kind) (since : ℕ) where
  heard_given : (x : Slot) (o : Option Circuit) → heard_by circuits x ≡ o → heard_as o ≡ Sounds kind since → IsGiven tones kind
  heard_given x None same e = absurd cc
  heard_given x (Some (Pair from to s)) same e = absurd cc
  heard_given x (Some (Member room at s)) same e = absurd cc
  heard_given x (Some (Tone k at s)) same e =
      let octets : IsGiven tones k = All-contains (HasOctets tones) circuits (Tone k at s) all (heard_by-stands circuits x (Tone k at s) same).0 in
      let named : k ≡ kind = cc in
      subst (IsGiven tones) named octets

  served_given : (o : Option Slot) → heard_as (option_and_then (heard_by circuits) o) ≡ Sounds kind since → IsGiven tones kind
  served_given None e = absurd cc
  served_given (Some x) e = heard_given x (heard_by circuits x) refl e

-- where each tone that exists has octets, so has each that a control memory shows
pub sounds_given : (tones : Tones) (image : Control) (circuits : List Circuit) (ports : Ports) (f : ℕ) → All (HasOctets tones) circuits → Shows image circuits ports f
    → (at : Slot) → at.line < lines_of image → at.place < 30 → (kind : Kind) (since : ℕ) → heard_at image at ≡ Sounds kind since → IsGiven tones kind
sounds_given tones image circuits ports f all shows at line place kind since e =
    served_given tones circuits all kind since (served_by image.external ports at) (sym (shows.1.heard at line place) ∙ e)
