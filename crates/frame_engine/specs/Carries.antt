-- The state of an engine of three stages after the frames that it has carried. Source: this project.
use Rattle.std.specs.Prelude.{◌≡◌, ℕ, zero, suc, ◌+◌, ◌≤◌, ◌<◌, List}
use Rattle.circuit_model.specs.declared.channel.Slot.{Slot}
use Rattle.circuit_model.specs.declared.circuit.Circuit.{Circuit}
use Rattle.circuit_model.specs.FrameInput.{Input, idle_octet}
use Rattle.circuit_model.specs.Holding.{circuits_of}
use Rattle.circuit_model.specs.Ports.{Ports, ports_of}
use Rattle.frame_buffer.specs.Speech.{Speech, octet_in_half}
use Rattle.frame_buffer.specs.Highways.{Highways, octet_on}
use Rattle.control_memory.specs.Layout.{Layout}
use Rattle.control_memory.specs.Image.{Control, EachSlot, IsCleared, IsQuiet}
use Rattle.control_memory.specs.Carrying.{HoldsCrossing}
use Rattle.control_memory.specs.Shown.{ShowsBy}
use Rattle.frame_engine.specs.Frames.{AreCounted, octet_brought}

-- an engine: its sizes, the number of its next frame, the control memory of the frame before that, the octets that the
-- frame before brought to each slot, the octets that crossed in it, the octets that were read out in it, the number of
-- frames after which all these octets are idle, if none arrives, and the number of external lines, from line 0 on, that
-- may have sent an octet other than idle in it
pub record Stages : Type 0 where
  pub external : ℕ
  pub bridges : ℕ
  pub slots : ℕ
  pub next : ℕ
  pub kept : Control
  pub taken : List ℕ
  pub crossed : Highways
  pub read : List ℕ
  pub live : ℕ
  pub sounding : ℕ

-- the octets that the frame before frame f brought; before the first frame everything is idle
abbrev pub brought_before : ℕ → List Input → List (List Circuit) → List Ports → ℕ → Slot → ℕ
brought_before external inputs held ports zero at = idle_octet
brought_before external inputs held ports (suc f) at = octet_brought external inputs held ports f at

-- all lines of an engine: the external ones, followed by the bridge lines
abbrev pub lines_in : Stages → ℕ
lines_in e = e.external + e.bridges

-- the kept control memory and the octets that crossed have each of the engine's lines, with its internal slots
pub record HasEngineSizes (e : Stages) : Type 0 where
  pub kept_external : e.kept.external ≡ e.external
  pub kept_bridges : e.kept.bridges ≡ e.bridges
  pub kept_slots : e.kept.slots ≡ e.slots
  pub crossed_lines : e.crossed.lines ≡ lines_in e
  pub crossed_slots : e.crossed.slots ≡ e.slots

-- the octets of an engine fade: in the last two frames before it rests nothing is stored, in the last one nothing crosses
-- either, and while it rests nothing is read out
pub record Fades (e : Stages) : Type 0 where
  pub taken : e.live ≤ 2 → EachSlot (lines_in e) (λ at. octet_in_half e.taken at ≡ idle_octet)
  pub crossed : e.live ≤ 1 → (line slot : ℕ) → line < lines_in e → slot < e.slots → octet_on e.crossed line slot ≡ idle_octet
  pub read : e.live ≡ 0 → EachSlot (lines_in e) (λ at. octet_in_half e.read at ≡ idle_octet)

-- after frame f the kept control memory shows that frame's circuits and ports, by a layout; each slot has the octet
-- that frame f brought; and each outgoing line has, in each internal slot, the octet that the frame before brought to
-- the inlet of the layout's path there
pub record CarriesLast (e : Stages) (inputs : List Input) (held : List (List Circuit)) (ports : List Ports) (f : ℕ) : Type 0 where
  pub layout : Layout
  pub shows : ShowsBy layout e.kept (circuits_of held f) (ports_of ports f) f
  pub taken : EachSlot (lines_in e) (λ at. octet_in_half e.taken at ≡ octet_brought e.external inputs held ports f at)
  pub crossed : HoldsCrossing (lines_in e) e.slots layout (brought_before e.external inputs held ports f) (octet_on e.crossed)

-- before the first frame all is idle: the kept control memory has no path, every slot is silent, no port is taken, and
-- every octet is the idle one
pub record IsFresh (e : Stages) : Type 0 where
  pub paths : IsCleared e.kept
  pub quiet : IsQuiet e.kept
  pub taken : EachSlot (lines_in e) (λ at. octet_in_half e.taken at ≡ idle_octet)
  pub crossed : (line slot : ℕ) → line < lines_in e → slot < e.slots → octet_on e.crossed line slot ≡ idle_octet

abbrev pub CarriesAt : Stages → List Input → List (List Circuit) → List Ports → ℕ → Type 0
CarriesAt e inputs held ports zero = IsFresh e
CarriesAt e inputs held ports (suc f) = CarriesLast e inputs held ports f

-- the engine carries the frames with these inputs, circuits and ports
pub record EngineCarries (e : Stages) (inputs : List Input) (held : List (List Circuit)) (ports : List Ports) : Type 0 where
  pub sizes : HasEngineSizes e
  pub fades : Fades e
  pub counted : AreCounted e.next inputs held ports
  pub last : CarriesAt e inputs held ports e.next

-- the sizes of the parts of an engine: one line for every external and bridge line; and the maximum number of halvings
-- in a stage
pub record IsBuilt (external bridges slots levels : ℕ) (kept : Control) (speech : Speech) (highway crossed : Highways) (read : Speech) : Type 0 where
  pub few : external ≤ 32
  pub few_bridges : bridges ≤ 2
  pub few_levels : levels ≤ 3
  pub kept_external : kept.external ≡ external
  pub kept_bridges : kept.bridges ≡ bridges
  pub kept_slots : kept.slots ≡ slots
  pub speech_lines : speech.lines ≡ external + bridges
  pub highway_lines : highway.lines ≡ external + bridges
  pub highway_slots : highway.slots ≡ slots
  pub crossed_lines : crossed.lines ≡ external + bridges
  pub crossed_slots : crossed.slots ≡ slots
  pub read_lines : read.lines ≡ external + bridges
