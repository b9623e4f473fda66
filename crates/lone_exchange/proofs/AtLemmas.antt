-- The world after an event, as an exchange that one caller drives is in it.
use Rattle.std.proofs.Common.{◌≡◌, ℕ, ◌+◌, ◌≤◌, refl, List, [], ◌∷◌, ◌++◌, length, take, drop, drop_of_length-le, append-nil, take_all, sym, ap, ◌∙◌, subst, arith}
use Rattle.std.proofs.lemmas.List.Elements.{All-nil, All-cons, All-append}
use Rattle.circuit_model.specs.Dimensions.{Dimensions}
use Rattle.circuit_model.specs.FrameInput.{Input}
use Rattle.circuit_model.specs.Ports.{Ports}
use Rattle.circuit_model.specs.declared.circuit.Circuit.{Circuit}
use Rattle.circuit_map.specs.Connections.{Connections}
use Rattle.control_memory.specs.Image.{Control, SameSizes, IsOfSize}
use Rattle.control_memory.specs.Shown.{Shows}
use Rattle.tone_rules.specs.declared.tones.Tones.{Tones}
use Rattle.circuit_model.specs.Hears.{Plays}
use Rattle.tone_rules.specs.Tables.{table_of}
use Rattle.frame_engine.specs.Frames.{Boundary, Come, IsNext, PlaysOut}
use Rattle.exchange_events.specs.declared.trace.Event.{Event}
use Rattle.exchange_events.specs.declared.trace.Event.TheVariants.{Frame}
use Rattle.exchange_events.specs.Sizes.{Setting}
use Rattle.exchange_events.specs.Sound.{Fits, IsPlanned}
use Rattle.call_profile.specs.IsMade.{IsMade}
use Rattle.call_profile.specs.Legs.{Legs}
use Rattle.call_profile.specs.Step.{next}
use Rattle.call_profile.specs.World.{World, pass, start}
use Rattle.call_profile.proofs.HistoryLemmas.{made, made_pass}
use Rattle.call_profile.proofs.QuietEventLemmas.{SameFrames-next, passed_same}
use Rattle.call_profile.proofs.RunLemmas.{world-snoc}
use Rattle.call_profile.proofs.StandingLegLemmas.{run_stands, start_stands}
use Rattle.call_control.specs.AtWork.{IsAtWork}
use Rattle.call_control.specs.Standing.{Holds}
use Rattle.exchange_core.specs.declared.tool.Tool.{Tool}
use Rattle.exchange_core.specs.declared.tool.Tool.TheVariants as tool
use Rattle.exchange_core.specs.Working.{IsToolFor, ShowsWorld}
use Rattle.lone_exchange.specs.declared.exchange.LoneExchange.{LoneExchange}
use Rattle.lone_exchange.specs.At.{ArePlayed, AreUnused, Carrying, ComesAbout, HoldsNothing, IsAt, IsFrameTool, StartsAt, size}

-- ---- the world, and the map and the legs, after an event

module _ (s : Setting) (w : World) (planned : IsPlanned s) (came : ComesAbout s w) where
  -- a list of commands made it
  pub made_so : IsMade s.dimensions s.tones w
  made_so = subst (IsMade s.dimensions s.tones) (sym came.after) (made s came.events planned came.fit)

  pub comes_after : (e : Event) → Fits s.dimensions.external e → ComesAbout s (next s w e)
  comes_after e fits = record {
    events = came.events ++ e ∷ [];
    fit = All-append (Fits s.dimensions.external) came.events (e ∷ []) came.fit (All-cons (Fits s.dimensions.external) e [] fits (All-nil (Fits s.dimensions.external)));
    after = ap (λ (v : World). next s v e) came.after ∙ sym (world-snoc s (start s.dimensions) came.events e);
  }

fits_too : (map : Connections) (legs : Legs) (s : Setting) (w : World) (e : Event) → IsAtWork s map legs w → Fits map.external e → Fits s.dimensions.external e
fits_too map legs s w e work fits = subst (λ (d : Dimensions). Fits d.external e) work.holds.sizes fits

work_after : (map map_after : Connections) (legs legs_after : Legs) (s : Setting) (w : World) (e : Event) → IsAtWork s map legs w → Fits map.external e
    → Holds s.dimensions map_after legs_after (next s w e) → IsAtWork s map_after legs_after (next s w e)
work_after map map_after legs legs_after s w e work fits holds = record {
  holds = holds;
  planned = work.planned;
  stands = run_stands s w (e ∷ []) work.planned (All-cons (Fits s.dimensions.external) e [] (fits_too map legs s w e work fits) (All-nil (Fits s.dimensions.external))) work.stands;
}

-- ---- before the first event

pub starts_at : {P E : Type 0} (carries : Carrying E) (frames : E → ℕ) (sizes : E → Dimensions) (external bridges slots : ℕ) (x : LoneExchange P E)
    → external ≤ 32 → HoldsNothing external bridges slots x.control.map x.control.legs → AreUnused carries frames sizes (size external bridges slots) x.engine x.context.tool
    → length x.octets.items ≡ external → StartsAt carries frames sizes external bridges slots x
starts_at carries frames sizes external bridges slots x few nothing unused lines s is planned = record {
  few = subst (λ (d : Dimensions). d.external ≤ 32) (sym is) few;
  work = record {
    holds = subst (λ (d : Dimensions). Holds d x.control.map x.control.legs (start d)) (sym is) nothing;
    planned = planned;
    stands = start_stands s;
  };
  came = record { events = []; fit = All-nil (Fits s.dimensions.external); after = refl };
  carried = unused.carried;
  number = unused.number;
  sized = unused.sized ∙ sym is;
  image = subst (λ (d : Dimensions). IsFrameTool d x.context.tool) (sym is) unused.image;
  lines = lines ∙ sym (ap (λ (d : Dimensions). d.external) is);
}

-- ---- an event that is not a frame

-- it leaves the engine at its frame
pub command_at : {P E : Type 0} (carries : Carrying E) (frames : E → ℕ) (sizes : E → Dimensions) (x y : LoneExchange P E) (s : Setting) (w : World) (e : Event)
    → IsAt carries frames sizes x s w → Fits x.control.map.external e → ((input : Input) → e ≡ Frame input → ⊥)
    → Holds s.dimensions y.control.map y.control.legs (next s w e) → y.engine ≡ x.engine → y.context.tool ≡ x.context.tool → y.octets ≡ x.octets
    → IsAt carries frames sizes y s (next s w e)
command_at carries frames sizes x y s w e at fits other holds engine tools octets =
    let same = SameFrames-next s w e other in
    let carried : carries x.engine (next s w e).inputs (next s w e).held (next s w e).seated = rw (same.inputs, same.held, same.seated) at.carried in
    record {
      few = at.few;
      work = work_after x.control.map y.control.map x.control.legs y.control.legs s w e at.work fits holds;
      came = comes_after s w at.work.planned at.came e (fits_too x.control.map x.control.legs s w e at.work fits);
      carried = subst (λ g. carries g (next s w e).inputs (next s w e).held (next s w e).seated) (sym engine) carried;
      number = ap frames engine ∙ (at.number ∙ sym same.next);
      sized = ap sizes engine ∙ at.sized;
      image = subst (IsFrameTool s.dimensions) (sym tools) at.image;
      lines = ap (λ o. length o.items) octets ∙ at.lines;
    }

-- ---- a frame

-- the boundary of the frame that begins in this world
abbrev pub boundary : World → Boundary
boundary w = record { inputs = w.inputs; held = w.held; ports = w.seated; circuits = w.holding.circuits; seats = w.ports }

come : (d : Dimensions) (tones : Tones) (w : World) → IsMade d tones w → Come d.external d.bridges (w.held ++ w.holding.circuits ∷ []) (w.seated ++ w.ports ∷ [])
come d tones w is = let m = made_pass d tones w is [] in record { commands = m.commands; within = m.within; allowed = m.allowed; circuits = m.held; seats = m.seated }

-- the control memory of a frame, after the step of its boundary: it is of the exchange's size and shows the world before the step
pub record IsShown (image : Control) (d : Dimensions) (w : World) : Type 0 where
  pub size : IsOfSize d image
  pub shows : Shows image w.holding.circuits w.ports w.holding.next

-- the tool of one frame serves for every frame
pub frame_tool : (d : Dimensions) (input other : Input) (t : Tool) → IsToolFor d (Frame input) t → IsToolFor d (Frame other) t
frame_tool d input other (tool.Image image) is = is
frame_tool d input other tool.Nothing is = absurd is

pub tool_at : (d : Dimensions) (e : Event) (input : Input) (t : Tool) → e ≡ Frame input → IsFrameTool d t → IsToolFor d e t
tool_at d e input t is fits = subst (λ (x : Event). IsToolFor d x t) (sym is) (frame_tool d [] input t fits)

pub no_tool : (d : Dimensions) (e : Event) (input : Input) (t : Tool) → e ≡ Frame input → t ≡ tool.Nothing → IsToolFor d e t → ⊥
no_tool d e input t is none fits = subst (λ (x : Tool). IsToolFor d (Frame input) x) none (subst (λ (x : Event). IsToolFor d x t) is fits)

pub is_shown : (d : Dimensions) (w : World) (e : Event) (input : Input) (t : Tool) (image : Control) → e ≡ Frame input → t ≡ tool.Image image
    → IsToolFor d e t → ShowsWorld w e t → IsShown image d w
is_shown d w e input t image is made fits shows = record {
  size = subst (λ (x : Tool). IsToolFor d (Frame input) x) made (subst (λ (x : Event). IsToolFor d x t) is fits);
  shows = subst (λ (x : Tool). ShowsWorld w (Frame input) x) made (subst (λ (x : Event). ShowsWorld w x t) is shows);
}

pub next_frame : (carried : List Input → List (List Circuit) → List Ports → Type 0) (image : Control) (d : Dimensions) (tones : Tones) (w : World) → IsMade d tones w → IsShown image d w
    → carried w.inputs w.held w.seated → IsNext carried image (boundary w)
next_frame carried image d tones w made shown carries = record {
  carries = carries;
  shows = subst (Shows image w.holding.circuits w.ports) (sym shown.shows.1.frame) shown.shows;
  came = rw (shown.size.external, shown.size.bridges) (come d tones w made);
}

-- it takes the engine to its next frame
pub frame_at : {P E : Type 0} (carries : Carrying E) (frames : E → ℕ) (sizes : E → Dimensions) (x y : LoneExchange P E) (s : Setting) (w : World) (e : Event) (input : Input) (image later : Control)
    → IsAt carries frames sizes x s w → e ≡ Frame input → Fits x.control.map.external e
    → Holds s.dimensions y.control.map y.control.legs (next s w e) → IsOfSize s.dimensions image → SameSizes image later → y.context.tool ≡ tool.Image later
    → carries y.engine (w.inputs ++ input ∷ []) (w.held ++ w.holding.circuits ∷ []) (w.seated ++ w.ports ∷ [])
    → frames y.engine ≡ frames x.engine + 1 → sizes y.engine ≡ sizes x.engine → length y.octets.items ≡ length x.octets.items
    → IsAt carries frames sizes y s (next s w e)
frame_at carries frames sizes x y s w e input image later at frame fits holds size same tools carried count sized lines =
    let passed = passed_same s w input in
    let is : next s w (Frame input) ≡ next s w e = ap (next s w) (sym frame) in
    let whole : IsFrameTool s.dimensions (tool.Image later) = record {
      external = omega (arith, size.external, same.external);
      bridges = omega (arith, size.bridges, same.bridges);
      slots = omega (arith, size.slots, same.slots);
    } in
    record {
      few = at.few;
      work = work_after x.control.map y.control.map x.control.legs y.control.legs s w e at.work fits holds;
      came = comes_after s w at.work.planned at.came e (fits_too x.control.map x.control.legs s w e at.work fits);
      carried = subst (λ (v : World). carries y.engine v.inputs v.held v.seated) is (rw (passed.inputs, passed.held, passed.seated) carried);
      number = subst (λ (v : World). frames y.engine ≡ v.holding.next) is (count ∙ (ap (λ (k : ℕ). k + 1) at.number ∙ sym passed.next));
      sized = sized ∙ at.sized;
      image = subst (IsFrameTool s.dimensions) (sym tools) whole;
      lines = lines ∙ at.lines;
    }

-- ---- the octets of a frame

pub same_input : (e : Event) (one other : Input) → e ≡ Frame one → e ≡ Frame other → one ≡ other
same_input e one other is is_too = let same : Frame one ≡ Frame other = sym is ∙ is_too in cc

pub are_played : (plays : Plays) (s : Setting) (w : World) (input : Input) (image : Control) (tones : Tones) (out : List (List ℕ)) → IsShown image s.dimensions w → s.tones ≡ tones
    → length out ≡ s.dimensions.external
    → PlaysOut image.external (plays (table_of tones) (w.inputs ++ input ∷ []) (w.held ++ w.holding.circuits ∷ []) image.frame) out → ArePlayed plays s w input out
are_played plays s w input image tones out shown same long played = record {
  lines = long;
  played = subst (λ (t : Tones). PlaysOut s.dimensions.external (plays (table_of t) (pass w input).inputs (pass w input).held w.holding.next) out) (sym same)
      (subst (λ (k : ℕ). PlaysOut k (plays (table_of tones) (w.inputs ++ input ∷ []) (w.held ++ w.holding.circuits ∷ []) w.holding.next) out) shown.size.external
      (subst (λ (f : ℕ). PlaysOut image.external (plays (table_of tones) (w.inputs ++ input ∷ []) (w.held ++ w.holding.circuits ∷ []) f) out) shown.shows.1.frame played));
}

-- a buffer of the length of what is written has it all
pub written_whole : (n : ℕ) (xs ys : List (List ℕ)) → n ≡ length xs → length ys ≡ length xs → take n (xs ++ drop (length xs) ys) ≡ xs
written_whole n xs ys size long =
    let none : drop (length xs) ys ≡ [] = drop_of_length-le ys (omega (arith, long)) in
    ap (λ (l : List (List ℕ)). take n (xs ++ l)) none ∙ (ap (take n) (append-nil xs) ∙ take_all n xs (omega (arith, size)))
