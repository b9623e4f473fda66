-- A frame in which nothing is stored but the idle octet.
use Rattle.std.proofs.Common.{◌≡◌, ℕ, suc, ◌+◌, ◌-◌, ◌*◌, ◌<◌, List, length, sym, ap, ◌∙◌, inl, inr, arith}
use Rattle.std.proofs.lemmas.Bool.Decides.{leb_tells}
use Rattle.circuit_model.specs.FrameInput.{Input}
use Rattle.circuit_model.specs.Ports.{port_numbered}
use Rattle.frame_buffer.specs.Speech.{AllIdle, octet_in_half}
use Rattle.control_memory.specs.Image.{Control}
use Rattle.frame_engine.specs.Carries.{Stages, lines_in}
use Rattle.frame_engine.specs.Resting.{IsQuiet}
use Rattle.frame_engine.proofs.Frame.{Takes}
use Rattle.frame_engine.proofs.MemberPorts.{numbered-member_at}
use Rattle.frame_engine.proofs.PortRows.{given_to-vacant}

pub takes_idle : (e : Stages) (m : Control) (input : Input) (out taken : List ℕ) → Takes e m input out taken → IsQuiet m input → m.external ≡ e.external → m.bridges ≡ e.bridges → length input ≡ e.external → AllIdle (lines_in e) taken
takes_idle e m input out taken did quiet external bridges many at inside near = elim (leb_tells (suc at.line) e.external) [
  | inl here ↦ let early = here.1 in did.takes at (omega (arith, early)) near ∙ quiet.idle at (omega (arith, early, many))
  | inr behind ↦
      let past = behind.1 in
      let k = 30 * (at.line - m.external) + at.place in
      let low : k < 30 * e.bridges = omega (arith, past, inside, near, external) in
      let inside_too : k < 30 * m.bridges = omega (arith, low, bridges) in
      let is_port : port_numbered m.external k ≡ at = numbered-member_at m.external at (omega (arith, past, external)) near in
      ap (octet_in_half taken) (sym is_port) ∙ did.mixes k low ∙ given_to-vacant m (octet_in_half out) k inside_too (quiet.vacant k inside_too)
]
