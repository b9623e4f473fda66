use Rattle.std.proofs.Common.{◌≡◌, ◌+◌, ◌*◌, ◌<◌, ℕ, List, length, sym, ◌∙◌, ap, subst, arith}
use denote.Param.Send.{param_sync}
use Rattle.circuit_model.specs.FrameInput.{idle_octet}
use Rattle.circuit_model.specs.Hears.{hears}
use Rattle.circuit_model.specs.Ports.{port_numbered}
use Rattle.frame_buffer.specs.Speech.{AllIdle, Speech, octet_in_half}
use Rattle.frame_buffer.specs.Highways.{octet_on}
use Rattle.control_memory.specs.Image.{Control, sent}
use Rattle.control_memory.specs.Carrying.{HoldsCrossing, fetched}
use Rattle.control_memory.specs.Shown.{Shows}
use Rattle.tone_rules.specs.Tables.{table_of}
use Rattle.frame_engine.specs.Frames.{Boundary, Come, IsNext, held_with, inputs_with, ports_with}
use Rattle.frame_engine.specs.Carries.{Stages, EngineCarries, Fades}
use Rattle.frame_engine.specs.Resting.{FadesTo, IsQuiet}
use Rattle.frame_engine.proofs.Frame.{IsAt, Takes, Crosses, HasHighwaySizes, carries_on, crosses_idle, holds_idle, holds_taken, played_as-hears, reads_idle}
use Rattle.frame_engine.proofs.PortRows.{given_to-vacant}
use Rattle.frame_engine.proofs.QuietFrames.{takes_idle}
use Rattle.frame_engine.proofs.engine.EngineCarrier.frame.Given.{Over}
use Rattle.frame_engine.proofs.engine.EngineCarrier.frame.Goals as goal

-- the engine is at the boundary of a frame
record AtBoundary (e : Stages) (m : Control) (b : Boundary) : Type 0 where
  carries : EngineCarries e b.inputs b.held b.ports
  shows : Shows m b.circuits b.seats e.next
  come : Come e.external e.bridges (held_with b) (ports_with b)

at_boundary : (e s : Stages) (m : Control) (b : Boundary) → e ≡ s → m.external ≡ e.external → m.bridges ≡ e.bridges → m.frame ≡ e.next → IsNext (λ inputs held ports. EngineCarries s inputs held ports) m b → AtBoundary e m b
at_boundary e s m b view external bridges frame next = record {
  carries = subst (λ (x : Stages). EngineCarries x b.inputs b.held b.ports) (sym view) next.carries;
  shows = subst (λ f. Shows m b.circuits b.seats f) frame next.shows;
  come = subst (λ l. Come l e.bridges (held_with b) (ports_with b)) external (subst (λ l. Come m.external l (held_with b) (ports_with b)) bridges next.came);
}

-- ---- a frame in which octets move
-- the engine and the control memory as they come
abbrev engine_before : (g : Over) → goal.After-self-4-1 g → Stages
engine_before g c = let w = c.self.inside in record { external = w.external; bridges = w.bridges; slots = w.slots; next = w.next; kept = w.kept; taken = w.speech.readable; crossed = w.crossed; read = w.read.readable; live = w.live; sounding = w.sounding }

abbrev image : (g : Over) → goal.After-self-4-1 g → Control
image g c = c.args.image.now

-- what is read out, what the incoming lines send, what crosses, and what is taken in
abbrev octets_read : (g : Over) → goal.After-self-4-1 g → List ℕ
octets_read g c = c.swap-2.new.self.readable

sizes : (g : Over) (c : goal.After-self-4-1 g) → IsAt (engine_before g c) (image g c) (octets_read g c)
sizes g c =
    let view = c.self.view_is in
    record {
      kept_external = c.self.invariant.kept_external;
      kept_bridges = c.self.invariant.kept_bridges;
      kept_slots = c.self.invariant.kept_slots;
      external = c.requires.sizes.external ∙ sym (ap (λ (s : Stages). s.external) view);
      bridges = c.requires.sizes.bridges ∙ sym (ap (λ (s : Stages). s.bridges) view);
      slots = c.requires.sizes.slots ∙ sym (ap (λ (s : Stages). s.slots) view);
      frame = c.requires.frame ∙ sym (ap (λ (s : Stages). s.next) view);
      read_out = λ at inside near.
          ap (λ (b : Speech). octet_in_half b.readable at) c.swap-2.ensures
          ∙ c.outgoing_shared.ensures.octets at (let made = c.outgoing_shared.ensures.lines in let had = c.self.invariant.read_lines in omega (arith, inside, made, had)) near;
    }

takes : (g : Over) (c : goal.After-self-4-1 g) → Takes (engine_before g c) (image g c) c.args.input.now (octets_read g c) c.swap-3.new.self.readable
takes g c =
    let external = (sizes g c).external in
    let bridges = (sizes g c).bridges in
    let swapped : c.swap-3.new.self.readable ≡ c.take_in.new.speech.filled = ap (λ (b : Speech). b.readable) c.swap-3.ensures in
    record {
      takes = λ at here near. ap (λ (r : List ℕ). octet_in_half r at) swapped ∙ c.take_in.ensures.taken at here near;
      mixes = λ k near.
          let port = port_numbered (image g c).external k in
          ap (λ (r : List ℕ). octet_in_half r port) swapped
          ∙ c.take_in.ensures.others port (omega (arith, external)) (omega arith)
          ∙ c.mix_ports.ensures.ports k (omega (arith, near, bridges));
    }

crosses : (g : Over) (c : goal.After-self-4-1 g) → Crosses (engine_before g c) (image g c) c.incoming_shared.new.highway c.cross_shared.new.crossed
crosses g c = record {
  sends = λ line slot here near.
      c.incoming_shared.ensures.octets line slot
      (let size = c.incoming_shared.ensures.size.lines in let had = c.self.invariant.highway_lines in omega (arith, here, size, had))
      (let size = c.incoming_shared.ensures.size.slots in let had = c.self.invariant.highway_slots in omega (arith, near, size, had))
      ∙ ap (λ (r : List ℕ). fetched (sent (image g c) line slot) (λ place. octet_in_half r (record { line = line; place = place }))) c.mix_ports.ensures.readable;
  crosses = λ line slot here near.
      c.cross_shared.ensures.octets line slot
      (let size = c.cross_shared.ensures.size.lines in let had = c.self.invariant.crossed_lines in omega (arith, here, size, had))
      (let size = c.cross_shared.ensures.size.slots in let had = c.self.invariant.crossed_slots in omega (arith, near, size, had));
}

highway_sizes : (g : Over) (c : goal.After-self-4-1 g) → HasHighwaySizes (engine_before g c) c.cross_shared.new.crossed
highway_sizes g c = record {
  lines = let size = c.cross_shared.ensures.size.lines in let had = c.self.invariant.crossed_lines in omega (arith, size, had);
  slots = let size = c.cross_shared.ensures.size.slots in let had = c.self.invariant.crossed_slots in omega (arith, size, had);
}

abbrev Next : (g : Over) → goal.After-self-4-1 g → Boundary → Type 0
Next g c b = IsNext (λ inputs held ports. EngineCarries c.args.self.now inputs held ports) (image g c) b

boundary : (g : Over) (c : goal.After-self-4-1 g) (b : Boundary) → Next g c b → AtBoundary (engine_before g c) (image g c) b
boundary g c b next = let is = sizes g c in at_boundary (engine_before g c) c.args.self.now (image g c) b c.self.view_is is.external is.bridges is.frame next

holds : (g : Over) (c : goal.After-self-4-1 g) (b : Boundary) (next : Next g c b) → HoldsCrossing (c.self.inside.external + c.self.inside.bridges) c.self.inside.slots (boundary g c b next).shows.0 (octet_in_half c.self.inside.speech.readable) (octet_on c.cross_shared.new.crossed)
holds g c b next =
    let is = boundary g c b next in
    holds_taken (engine_before g c) (image g c) (octets_read g c) (sizes g c) b.inputs b.held b.ports c.args.input.now b.circuits b.seats is.carries is.shows.0 is.shows.1 is.come c.incoming_shared.new.highway c.cross_shared.new.crossed (crosses g c)

fades : (g : Over) (c : goal.After-self-4-1 g) (b : Boundary) → Next g c b → Fades (record (engine_before g c) { next = c.self.inside.next + 1; kept = image g c; taken = c.swap-3.new.self.readable; crossed = c.cross_shared.new.crossed; read = octets_read g c; live = c.in-Some.live; sounding = c.play-self-inside.result })
fades g c b next =
    let is = boundary g c b next in
    let lives : FadesTo c.self.inside.live c.in-Some.live (image g c) c.args.input.now = c.in-Some.ensures.lives in
    let many : length c.args.input.now ≡ c.self.inside.external = c.requires.input ∙ sym (ap (λ (s : Stages). s.external) c.self.view_is) in
    record {
      taken = λ few. takes_idle (engine_before g c) (image g c) c.args.input.now (octets_read g c) c.swap-3.new.self.readable (takes g c) (lives.quiet few) (sizes g c).external (sizes g c).bridges many;
      crossed = λ few line slot here near.
          crosses_idle (engine_before g c) (image g c) (octets_read g c) (sizes g c) b.inputs b.held b.ports c.args.input.now b.circuits b.seats is.carries is.shows.0 is.shows.1 is.come c.cross_shared.new.crossed (holds g c b next)
          (is.carries.fades.taken (lives.second few)) line slot here near;
      read = λ none at here near.
          (sizes g c).read_out at here near
          ∙ reads_idle (engine_before g c) b.inputs b.held b.ports is.carries.sizes c.self.inside.next is.carries.last (is.carries.fades.crossed (lives.third none)) at here near;
    }

pub returns-clause-plays : goal.returns-clause-plays
returns-clause-plays g c b next at line place =
    let is = boundary g c b next in
    let here : at.line < (engine_before g c).external = let external = (sizes g c).external in omega (arith, line, external) in
    c.play-self-inside.ensures.plays at line place
    ∙ played_as-hears (engine_before g c) (image g c) (octets_read g c) (sizes g c) b.inputs b.held b.ports c.args.input.now b.circuits b.seats is.carries is.shows.0 is.shows.1 is.come (table_of c.args.tones.now) at here place
    ∙ sym (ap (λ f. hears (table_of c.args.tones.now) (inputs_with b c.args.input.now) (held_with b) f at) (sizes g c).frame)

pub returns-clause-carries : goal.returns-clause-carries
returns-clause-carries g c b next =
    let is = boundary g c b next in
    let on = carries_on (engine_before g c) (image g c) (octets_read g c) (sizes g c) b.inputs b.held b.ports c.args.input.now b.circuits b.seats is.carries is.shows.0 is.shows.1 is.come
    c.swap-3.new.self.readable c.cross_shared.new.crossed c.in-Some.live c.play-self-inside.result (takes g c) (holds g c b next) (highway_sizes g c) (fades g c b next) in
    subst (λ (m : Control). EngineCarries (record (engine_before g c) { next = c.self.inside.next + 1; kept = m; taken = c.swap-3.new.self.readable; crossed = c.cross_shared.new.crossed; read = octets_read g c; live = c.in-Some.live; sounding = c.play-self-inside.result }) (inputs_with b c.args.input.now) (held_with b) (ports_with b)) (sym c.swap-4.ensures.x_after) on

-- ---- a frame in which the engine rests
abbrev resting : (g : Over) → goal.After-self-in_default-1 g → Stages
resting g c = let w = c.self.inside in record { external = w.external; bridges = w.bridges; slots = w.slots; next = w.next; kept = w.kept; taken = w.speech.readable; crossed = w.crossed; read = w.read.readable; live = w.live; sounding = w.sounding }

record Rests (g : Over) (c : goal.After-self-in_default-1 g) (b : Boundary) : Type 0 where
  boundary : AtBoundary (resting g c) c.args.image.now b
  quiet : (c.self.inside.live ≡ 0) × IsQuiet c.args.image.now c.args.input.now
  taken : AllIdle (c.self.inside.external + c.self.inside.bridges) c.self.inside.speech.readable
  crossed : (line slot : ℕ) → line < c.self.inside.external + c.self.inside.bridges → slot < c.self.inside.slots → octet_on c.self.inside.crossed line slot ≡ idle_octet
  read : AllIdle (c.self.inside.external + c.self.inside.bridges) c.self.inside.read.readable
  is : IsAt (resting g c) c.args.image.now c.self.inside.read.readable

abbrev Next_at_rest : (g : Over) → goal.After-self-in_default-1 g → Boundary → Type 0
Next_at_rest g c b = IsNext (λ inputs held ports. EngineCarries c.args.self.now inputs held ports) c.args.image.now b

rests : (g : Over) (c : goal.After-self-in_default-1 g) (b : Boundary) → Next_at_rest g c b → Rests g c b
rests g c b next =
    let view = c.self.view_is in
    let external : c.args.image.now.external ≡ c.self.inside.external = c.requires.sizes.external ∙ sym (ap (λ (s : Stages). s.external) view) in
    let bridges : c.args.image.now.bridges ≡ c.self.inside.bridges = c.requires.sizes.bridges ∙ sym (ap (λ (s : Stages). s.bridges) view) in
    let frame : c.args.image.now.frame ≡ c.self.inside.next = c.requires.frame ∙ sym (ap (λ (s : Stages). s.next) view) in
    let at_it = at_boundary (resting g c) c.args.self.now c.args.image.now b view external bridges frame next in
    let quiet = c.live_after.ensures.rests c.in_default.is in
    let still = quiet.0 in
    let crossed = at_it.carries.fades.crossed (omega (arith, still)) in
    let read = at_it.carries.fades.read still in
    record {
      boundary = at_it;
      quiet = quiet;
      taken = at_it.carries.fades.taken (omega (arith, still));
      crossed = crossed;
      read = read;
      is = record {
        kept_external = c.self.invariant.kept_external;
        kept_bridges = c.self.invariant.kept_bridges;
        kept_slots = c.self.invariant.kept_slots;
        external = external;
        bridges = bridges;
        slots = c.requires.sizes.slots ∙ sym (ap (λ (s : Stages). s.slots) view);
        frame = frame;
        read_out = λ at here near. read at here near ∙ sym (reads_idle (resting g c) b.inputs b.held b.ports at_it.carries.sizes c.self.inside.next at_it.carries.last crossed at here near);
      };
    }

pub returns-in_default-clause-plays : goal.returns-in_default-clause-plays
returns-in_default-clause-plays g c b next at line place =
    let r = rests g c b next in
    let external = r.is.external in
    let bridges = r.is.bridges in
    c.play_at_rest-self-inside.ensures.plays (λ x here near. r.read x (omega (arith, here, external, bridges)) near) at line place
    ∙ played_as-hears (resting g c) c.args.image.now c.self.inside.read.readable r.is b.inputs b.held b.ports c.args.input.now b.circuits b.seats r.boundary.carries r.boundary.shows.0 r.boundary.shows.1 r.boundary.come
    (table_of c.args.tones.now) at (omega (arith, line, external)) place
    ∙ sym (ap (λ f. hears (table_of c.args.tones.now) (inputs_with b c.args.input.now) (held_with b) f at) r.is.frame)

pub returns-in_default-clause-carries : goal.returns-in_default-clause-carries
returns-in_default-clause-carries g c b next =
    let r = rests g c b next in
    let external = r.is.external in
    let bridges = r.is.bridges in
    let many : length c.args.input.now ≡ c.self.inside.external = c.requires.input ∙ sym (ap (λ (s : Stages). s.external) c.self.view_is) in
    let stores : Takes (resting g c) c.args.image.now c.args.input.now c.self.inside.read.readable c.self.inside.speech.readable = record {
      takes = λ at here near. r.taken at (omega (arith, here)) near ∙ sym (r.quiet.1.idle at (omega (arith, here, many)));
      mixes = λ k low.
          let m = c.args.image.now in
          let inside : k < 30 * m.bridges = omega (arith, low, bridges) in
          r.taken (port_numbered m.external k) (omega (arith, low, external)) (omega arith)
          ∙ sym (given_to-vacant m (octet_in_half c.self.inside.read.readable) k inside (r.quiet.1.vacant k inside));
    } in
    let across = holds_idle (resting g c) c.args.image.now c.self.inside.read.readable r.is b.inputs b.held b.ports c.args.input.now b.circuits b.seats r.boundary.carries r.boundary.shows.0 r.boundary.shows.1 r.boundary.come
    c.self.inside.crossed r.taken r.crossed in
    let on = carries_on (resting g c) c.args.image.now c.self.inside.read.readable r.is b.inputs b.held b.ports c.args.input.now b.circuits b.seats r.boundary.carries r.boundary.shows.0 r.boundary.shows.1 r.boundary.come
    c.self.inside.speech.readable c.self.inside.crossed c.self.inside.live c.play_at_rest-self-inside.result stores across
    (record { lines = r.boundary.carries.sizes.crossed_lines; slots = r.boundary.carries.sizes.crossed_slots })
    (record { taken = λ few. r.taken; crossed = λ few. r.crossed; read = λ still. r.read }) in
    subst (λ (m : Control). EngineCarries (record (resting g c) { next = c.self.inside.next + 1; kept = m; sounding = c.play_at_rest-self-inside.result }) (inputs_with b c.args.input.now) (held_with b) (ports_with b)) (sym c.swap.ensures.x_after) on

-- ---- the threads
pub outgoing_shared-requires-sync-R : goal.outgoing_shared-requires-sync-R
outgoing_shared-requires-sync-R g c κs outlive = param_sync _ _ c.requires.threads

pub incoming_shared-requires-sync-R : goal.incoming_shared-requires-sync-R
incoming_shared-requires-sync-R g c κs outlive = param_sync _ _ c.requires.threads

pub cross_shared-requires-sync-R : goal.cross_shared-requires-sync-R
cross_shared-requires-sync-R g c κs outlive = param_sync _ _ c.requires.threads
