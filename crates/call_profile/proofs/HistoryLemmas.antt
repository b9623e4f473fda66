-- Every world comes of one list of allowed commands.
use Rattle.std.proofs.Common.{◌≡◌, ℕ, ◌+◌, not, List, [], ◌∷◌, ◌++◌, Option, Some, None, refl, sym, ◌∙◌, ap, subst, length-append}
use Rattle.std.specs.Prelude.{All}
use Rattle.std.proofs.lemmas.List.Elements.{All-nil, All-cons, All-append, All-filter}
use Rattle.circuit_model.specs.declared.channel.Slot.{Slot}
use Rattle.circuit_model.specs.declared.circuit.Circuit.{Circuit}
use Rattle.circuit_model.specs.declared.circuit.Kind.{Kind}
use Rattle.circuit_model.specs.declared.circuit.Circuit.TheVariants.{Pair, Member, Tone}
use Rattle.circuit_model.specs.FrameInput.{Input}
use Rattle.circuit_model.specs.Circuits.{names}
use Rattle.circuit_model.specs.Holding.{Holding, Command, empty, Connect, Seat, Give_tone, Clear, Frame, after, after_all, IsAllowed, AreAllowed, Valid}
use Rattle.circuit_model.specs.Ports.{Ports, free_ports, ports_after, port_frames}
use Rattle.circuit_model.specs.Extent.{CommandWithin, AreWithin}
use Rattle.circuit_model.proofs.FrameRecords.{after_all-append, frames-boundary, frames-command, valid-after_all}
use Rattle.circuit_model.proofs.Validity.{valid-empty}
use Rattle.tone_rules.specs.declared.tones.Tones.{Tones}
use Rattle.exchange_events.specs.declared.trace.Event.{Event}
use Rattle.number_plan.specs.declared.plan.Number.{Number}
use Rattle.call_profile.specs.Legs.{Legs}
use Rattle.call_profile.specs.Operations.{Operation, Making, making_after_all, with_tone}
use Rattle.call_profile.specs.Permitted.{CanSeat}
use Rattle.call_profile.proofs.Permitted.{CanPair, CanSound, ArePermitted}
use Rattle.exchange_events.specs.Sizes.{Setting, Dimensions}
use Rattle.exchange_events.specs.Sound.{Fits, IsPlanned}
use Rattle.call_profile.specs.IsMade.{IsMade, HasOctets, ports_after_all}
use Rattle.call_profile.specs.Step.{world_after_all}
use Rattle.call_profile.specs.World.{World, start, obey, pass}
use Rattle.call_profile.proofs.StandingLegLemmas.{start_stands}
use Rattle.call_profile.proofs.KeptWorldLemmas.{Keeps, performed_all, run_keeps}

ports_after_all-append : (ports : Ports) (cs ds : List Command) → ports_after_all ports (cs ++ ds) ≡ ports_after_all (ports_after_all ports cs) ds
ports_after_all-append ports [] ds = refl
ports_after_all-append ports (c ∷ cs) ds = ports_after_all-append (ports_after ports c) cs ds

pub port_frames-boundary : (ports : Ports) (cs : List Command) → port_frames ports (cs ++ Frame ∷ []) ≡ port_frames ports cs ++ ports_after_all ports cs ∷ []
port_frames-boundary ports [] = refl
port_frames-boundary ports (Connect x y ∷ cs) = port_frames-boundary ports cs
port_frames-boundary ports (Seat x room ∷ cs) = port_frames-boundary (ports_after ports (Seat x room)) cs
port_frames-boundary ports (Give_tone x kind ∷ cs) = port_frames-boundary ports cs
port_frames-boundary ports (Clear x ∷ cs) = port_frames-boundary (ports_after ports (Clear x)) cs
port_frames-boundary ports (Frame ∷ cs) = ap (λ fs. ports ∷ fs) (port_frames-boundary ports cs)

port_frames-command : (ports : Ports) (cs : List Command) (c : Command) → ¬ (c ≡ Frame) → port_frames ports (cs ++ c ∷ []) ≡ port_frames ports cs
port_frames-command ports [] (Connect x y) other = refl
port_frames-command ports [] (Seat x room) other = refl
port_frames-command ports [] (Give_tone x kind) other = refl
port_frames-command ports [] (Clear x) other = refl
port_frames-command ports [] Frame other = absurd (other refl)
port_frames-command ports (Connect x y ∷ cs) c other = port_frames-command ports cs c other
port_frames-command ports (Seat x room ∷ cs) c other = port_frames-command (ports_after ports (Seat x room)) cs c other
port_frames-command ports (Give_tone x kind ∷ cs) c other = port_frames-command ports cs c other
port_frames-command ports (Clear x ∷ cs) c other = port_frames-command (ports_after ports (Clear x)) cs c other
port_frames-command ports (Frame ∷ cs) c other = ap (λ fs. ports ∷ fs) (port_frames-command ports cs c other)

within_more : (lines : ℕ) (cs : List Command) (c : Command) → AreWithin lines cs → CommandWithin lines c → AreWithin lines (cs ++ c ∷ [])
within_more lines [] c all one = (one, tt)
within_more lines (d ∷ cs) c all one = (all.0, within_more lines cs c all.1 one)

allowed_more : (bridges : ℕ) (h : Holding) (cs : List Command) (c : Command) → AreAllowed bridges h cs → IsAllowed bridges (after_all h cs) c → AreAllowed bridges h (cs ++ c ∷ [])
allowed_more bridges h [] c all one = (one, tt)
allowed_more bridges h (d ∷ cs) c all one = (all.0, allowed_more bridges (after h d) cs c all.1 one)

-- ---- a world after one more command, or one more boundary
module _ (d : Dimensions) (tones : Tones) (w : World) (made : IsMade d tones w) where
  pub made_obey : (c : Command) → ¬ (c ≡ Frame) → (after w.holding c).next ≡ w.holding.next → CommandWithin d.external c → IsAllowed d.bridges w.holding c → All (HasOctets tones) (after w.holding c).circuits → IsMade d tones (obey d w c)
  made_obey c other still within allowed octets = record {
    commands = made.commands ++ c ∷ [];
    within = within_more d.external made.commands c made.within within;
    allowed = allowed_more d.bridges empty made.commands c made.allowed (subst (λ h. IsAllowed d.bridges h c) made.circuits allowed);
    circuits = ap (λ h. after h c) made.circuits ∙ sym (after_all-append empty made.commands (c ∷ []));
    ports = ap (λ p. ports_after p c) made.ports ∙ sym (ports_after_all-append (free_ports d.bridges) made.commands (c ∷ []));
    held = made.held ∙ sym (frames-command empty made.commands c other);
    seated = made.seated ∙ sym (port_frames-command (free_ports d.bridges) made.commands c other);
    sounding = octets;
    arrived = made.arrived ∙ sym still;
  }

  pub made_pass : (input : Input) → IsMade d tones (pass w input)
  made_pass input = record {
    commands = made.commands ++ Frame ∷ [];
    within = within_more d.external made.commands Frame made.within tt;
    allowed = allowed_more d.bridges empty made.commands Frame made.allowed tt;
    circuits = ap (λ h. after h Frame) made.circuits ∙ sym (after_all-append empty made.commands (Frame ∷ []));
    ports = made.ports ∙ sym (ports_after_all-append (free_ports d.bridges) made.commands (Frame ∷ []));
    held = (λ i. made.held i ++ (made.circuits i).circuits ∷ []) ∙ sym (frames-boundary empty made.commands);
    seated = (λ i. made.seated i ++ made.ports i ∷ []) ∙ sym (port_frames-boundary (free_ports d.bridges) made.commands);
    sounding = made.sounding;
    arrived = length-append w.inputs (input ∷ []) ∙ ap (λ n. n + 1) made.arrived;
  }

  pub made_valid : Valid d.bridges w.holding
  made_valid = subst (Valid d.bridges) (sym made.circuits) (valid-after_all d.bridges empty made.commands (valid-empty d.bridges) made.allowed)

module _ (tones : Tones) where
  one_more : (circuits : List Circuit) (c : Circuit) → All (HasOctets tones) circuits → HasOctets tones c → All (HasOctets tones) (circuits ++ c ∷ [])
  one_more circuits c all one = All-append (HasOctets tones) circuits (c ∷ []) all (All-cons (HasOctets tones) c [] one (All-nil (HasOctets tones)))

  two_more : (circuits : List Circuit) (b c : Circuit) → All (HasOctets tones) circuits → HasOctets tones b → HasOctets tones c → All (HasOctets tones) (circuits ++ b ∷ c ∷ [])
  two_more circuits b c all one two =
      All-append (HasOctets tones) circuits (b ∷ c ∷ []) all (All-cons (HasOctets tones) b (c ∷ []) one (All-cons (HasOctets tones) c [] two (All-nil (HasOctets tones))))

-- ---- a world in which a slot was cleared, two were connected, or one was seated

module _ (d : Dimensions) (tones : Tones) (w : World) (made : IsMade d tones w) where
  made_clear : (x : Slot) → IsMade d tones (obey d w (Clear x))
  made_clear x = made_obey d tones w made (Clear x) (λ e. absurd cc) refl tt tt (All-filter (λ c. not (names x c)) (HasOctets tones) w.holding.circuits made.sounding)

  made_pair : (x y : Slot) → CanPair d w x y → IsMade d tones (obey d w (Connect x y))
  made_pair x y can =
      made_obey d tones w made (Connect x y) (λ e. absurd cc) refl (can.first, can.second) (can.apart, can.idle_first, can.idle_second)
      (two_more tones w.holding.circuits (Pair x y w.holding.next) (Pair y x w.holding.next) made.sounding tt tt)

  made_seat : (x : Slot) (room : ℕ) → CanSeat d w x → IsMade d tones (obey d w (Seat x room))
  made_seat x room can =
      made_obey d tones w made (Seat x room) (λ e. absurd cc) refl can.within (can.idle, can.free) (one_more tones w.holding.circuits (Member room x w.holding.next) made.sounding tt)

  made_sound : (x : Slot) (tone : Option Kind) → CanSound d tones w x tone → IsMade d tones (record w { holding = with_tone w.holding x tone })
  made_sound x None can = made
  made_sound x (Some kind) can =
      made_obey d tones w made (Give_tone x kind) (λ e. absurd cc) refl can.within can.idle (one_more tones w.holding.circuits (Tone kind x w.holding.next) made.sounding can.octets)

  made_legs : (legs : Legs) → IsMade d tones (record w { legs = legs })
  made_legs legs = record {
    commands = made.commands;
    within = made.within;
    allowed = made.allowed;
    circuits = made.circuits;
    ports = made.ports;
    held = made.held;
    seated = made.seated;
    sounding = made.sounding;
    arrived = made.arrived;
  }

-- ---- a world that events make

made_keeps : (d : Dimensions) (tones : Tones) → Keeps d tones (IsMade d tones)
made_keeps d tones = record {
  clear = λ w x in_x made. made_clear d tones w made x;
  pair = λ w x y can made. made_pair d tones w made x y can;
  seat = λ w x room can made. made_seat d tones w made x room can;
  sound = λ w x tone can made. made_sound d tones w made x tone can;
  legs = λ w legs made. made_legs d tones w made legs;
  passes = λ w input made. made_pass d tones w made input;
}

pub made_performed_all : (d : Dimensions) (tones : Tones) (plan : List Number) (m : Making) (os : List Operation) → ArePermitted d tones plan m os → IsMade d tones m.world → IsMade d tones (making_after_all d m os).world
made_performed_all d tones plan = performed_all d tones plan (IsMade d tones) (made_keeps d tones)

pub made_start : (d : Dimensions) (tones : Tones) → IsMade d tones (start d)
made_start d tones = record { commands = []; within = tt; allowed = tt; circuits = refl; ports = refl; held = refl; seated = refl; sounding = All-nil (HasOctets tones); arrived = refl }

pub made : (s : Setting) (es : List Event) → IsPlanned s → All (Fits s.dimensions.external) es → IsMade s.dimensions s.tones (world_after_all s (start s.dimensions) es)
made s es planned fits = run_keeps s (IsMade s.dimensions s.tones) (made_keeps s.dimensions s.tones) (start s.dimensions) es planned fits (start_stands s) (made_start s.dimensions s.tones)
