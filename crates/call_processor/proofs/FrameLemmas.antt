-- A frame at its place in the history, and what the engine makes of it.
use Rattle.std.proofs.Common.{true, ◌≡◌, ℕ, ◌+◌, ◌<◌, List, ◌++◌, Option, Some, None, [], ◌∷◌, length, take, drop, drop_of_length-le, append-nil, take_all, refl, sym, subst, arith, ◌∙◌, ap}
use Rattle.std.specs.List.{cons_option}
use Rattle.std.proofs.lemmas.List.{map-append, length-map}
use Rattle.std.proofs.lemmas.List.Elements.{All-head, All-tail, filter_map-append}
use Rattle.circuit_model.specs.declared.circuit.Circuit.{Circuit}
use Rattle.circuit_model.specs.FrameInput.{Input}
use Rattle.circuit_model.specs.Ports.{Ports}
use Rattle.control_memory.specs.Image.{Control, SameSizes}
use Rattle.control_memory.specs.Shown.{Shows}
use Rattle.tone_rules.specs.declared.tones.Tones.{Tones}
use Rattle.frame_engine.specs.Frames.{Boundary, Come, IsNext, PlaysOut}
use Rattle.exchange_events.specs.declared.trace.Event.{Event}
use Rattle.exchange_events.specs.declared.trace.Event.TheVariants.{Frame}
use Rattle.exchange_events.specs.declared.trace.Trace.{Trace}
use Rattle.exchange_events.specs.Orders.{Frame_worker, event_at}
use Rattle.exchange_core.specs.declared.tool.Tool.{Tool}
use Rattle.exchange_core.specs.declared.tool.Tool.TheVariants.{Image}
use Rattle.seat_history.proofs.HistoryLemmas.{unseen_front}
use Rattle.seat_history.specs.Histories.{StartsWith, unseen}
use Rattle.exchange_core.specs.Boards.{Board, IsFrame, NoFrames, IsToolAt, ShowsAt, setting_at, world_at}
use Rattle.exchange_events.specs.Sizes.{Setting, Dimensions}
use Rattle.exchange_events.specs.Sound.{Fits, IsSound}
use Rattle.exchange_events.proofs.EventNumbers.{of_event_at}
use Rattle.call_profile.specs.IsMade.{IsMade}
use Rattle.call_profile.specs.Step.{next, world_after_all, events_of}
use Rattle.exchange_core.specs.Working.{Entry, IsNumbered, IsOfSize, IsToolFor, ShowsWorld, order_of}
use Rattle.call_profile.specs.World.{World, start, pass}
use Rattle.call_profile.proofs.HistoryLemmas.{made, made_pass}
use Rattle.call_profile.proofs.QuietEventLemmas.{SameFrames, same_self, then_same as same_then, SameFrames-next, passed_same}
use Rattle.call_profile.proofs.RunLemmas.{length-events_of-le, world_next}
use Rattle.exchange_core.proofs.StepLemmas.{fits_all, world_more}
use Rattle.call_processor.specs.Parts.{does, is_its}
use Rattle.call_processor.specs.Frames.{Plays, Carrying, CarriesFrames, IsReady, IsPlayed}

-- ---- the event with a number

pub one_input : (trace : Trace) (n : ℕ) (one other : Input) → IsNumbered trace n (Frame one) → IsNumbered trace n (Frame other) → one ≡ other
one_input trace n one other is is_too = let same : Some (Frame one) ≡ Some (Frame other) = sym is ∙ is_too in cc

-- what arrives in a frame has a part for each line
pub input_whole : (trace : Trace) (n : ℕ) (input : Input) → IsSound trace → IsNumbered trace n (Frame input) → length input ≡ trace.external
input_whole trace n input sound number =
    let fits : Fits trace.external (Frame input) = of_event_at (Fits trace.external) trace.events n (Frame input) sound.events number in
    fits

-- a frame is the frame worker's
pub frame_its : (trace : Trace) (n : ℕ) → IsFrame trace n → is_its trace Frame_worker n ≡ true
frame_its trace n frame = ap (does trace.processors Frame_worker) frame.1

-- ---- an event that is no frame leaves the frames as they are

quiet_one : (s : Setting) (trace : Trace) (w : World) (n : ℕ) (o : Option Event) (es : List Event) → event_at trace.events n ≡ o → (IsFrame trace n → ⊥)
    → ((v : World) → SameFrames v (world_after_all s v es)) → SameFrames w (world_after_all s w (cons_option o es))
quiet_one s trace w n None es is none rest = rest w
quiet_one s trace w n (Some e) es is none rest =
    same_then w (next s w e) (world_after_all s (next s w e) es) (SameFrames-next s w e (λ input frame. none (input, is ∙ ap Some frame))) (rest (next s w e))

quiet_all : (s : Setting) (trace : Trace) (history : List Entry) → NoFrames trace history → (w : World) → SameFrames w (world_after_all s w (events_of trace.events (order_of history)))
quiet_all s trace [] none w = same_self w
quiet_all s trace (e ∷ history) none w =
    quiet_one s trace w e.1 (event_at trace.events e.1) (events_of trace.events (order_of history)) refl (All-head (λ (x : Entry). IsFrame trace x.1 → ⊥) e history none)
    (quiet_all s trace history (All-tail (λ (x : Entry). IsFrame trace x.1 → ⊥) e history none))

world_append : (s : Setting) (w : World) (es fs : List Event) → world_after_all s w (es ++ fs) ≡ world_after_all s (world_after_all s w es) fs
world_append s w [] fs = refl
world_append s w (e ∷ es) fs = world_append s (next s w e) es fs

-- what comes behind what was seen holds no frame, so the frames are the same
pub same_frames : (board : Board) (seen history : List Entry) → StartsWith history seen → NoFrames board.trace (unseen seen history) → SameFrames (world_at board seen) (world_at board history)
same_frames board seen history begins none =
    let s = setting_at board in
    let rest = begins.0 in
    let events = board.trace.events in
    let still : NoFrames board.trace rest = subst (NoFrames board.trace) (ap (drop (length seen)) begins.1 ∙ unseen_front seen rest) none in
    let longer : world_at board history ≡ world_after_all s (world_at board seen) (events_of events (order_of rest)) =
    ap (world_at board) begins.1
    ∙ (ap (λ (order : List ℕ). world_after_all s (start s.dimensions) (events_of events order)) (map-append (λ (e : Entry). e.1) seen rest)
    ∙ (ap (world_after_all s (start s.dimensions)) (filter_map-append (event_at events) (order_of seen) (order_of rest))
    ∙ world_append s (start s.dimensions) (events_of events (order_of seen)) (events_of events (order_of rest)))) in
    subst (SameFrames (world_at board seen)) (sym longer) (quiet_all s board.trace rest still (world_at board seen))

-- ---- how many frames there have been

pub world_at_frames_few : (board : Board) (history : List Entry) → IsSound board.trace → length history < length board.trace.events → (world_at board history).holding.next < 4294967295
world_at_frames_few board history sound room =
    let s = setting_at board in
    let grows = world_next s (start s.dimensions) (events_of board.trace.events (order_of history)) in
    let few = length-events_of-le board.trace.events (order_of history) in
    let long : length (order_of history) ≡ length history = length-map history (λ (entry : Entry). entry.1) in
    let most = sound.count in
    omega (arith, grows, few, long, room, most)

-- ---- a frame

pub made_at : (board : Board) (history : List Entry) → IsSound board.trace → IsMade (setting_at board).dimensions (setting_at board).tones (world_at board history)
made_at board history sound =
    made (setting_at board) (events_of board.trace.events (order_of history)) sound.planned (fits_all board.trace (order_of history) sound.events)

-- the circuits and ports of the frames so far, and of the one that begins, come of one list of commands
come : (d : Dimensions) (tones : Tones) (w : World) → IsMade d tones w → Come d.external d.bridges (w.held ++ w.holding.circuits ∷ []) (w.seated ++ w.ports ∷ [])
come d tones w is = let m = made_pass d tones w is [] in record { commands = m.commands; within = m.within; allowed = m.allowed; circuits = m.held; seats = m.seated }

-- the boundary of the frame that begins
abbrev pub boundary : World → Boundary
boundary w = record { inputs = w.inputs; held = w.held; ports = w.seated; circuits = w.holding.circuits; seats = w.ports }

-- what an engine is frame_asks for a frame: its control memory, of the exchange's size, shows the circuits and ports at the frame's boundary
pub record Asked (image : Control) (d : Dimensions) (w : World) : Type 0 where
  pub size : IsOfSize d image
  pub shows : Shows image w.holding.circuits w.ports w.holding.next
  pub came : Come image.external image.bridges (w.held ++ w.holding.circuits ∷ []) (w.seated ++ w.ports ∷ [])

pub frame_asks : (board : Board) (history : List Entry) (n : ℕ) (input : Input) (tool : Tool) (image : Control) → IsSound board.trace → IsNumbered board.trace n (Frame input) → tool ≡ Image image
    → ShowsAt board history n tool → IsToolAt board n tool → Asked image (setting_at board).dimensions (world_at board history)
frame_asks board history n input tool image sound number is shows sized =
    let d = (setting_at board).dimensions in
    let w = world_at board history in
    let size : IsOfSize d image = subst (λ (t : Tool). IsToolFor d (Frame input) t) is (sized (Frame input) number) in
    record {
      size = size;
      shows = subst (λ (t : Tool). ShowsWorld w (Frame input) t) is (shows (Frame input) number);
      came = rw (size.external, size.bridges) (come d (setting_at board).tones w (made_at board history sound));
    }

pub next_frame : (carried : List Input → List (List Circuit) → List Ports → Type 0) (image : Control) (d : Dimensions) (w : World) → Asked image d w
    → carried w.inputs w.held w.seated → IsNext carried image (boundary w)
next_frame carried image d w a carries = record {
  carries = carries;
  shows = subst (Shows image w.holding.circuits w.ports) (sym a.shows.1.frame) a.shows;
  came = a.came;
}

module _ {E : Type 0} (carries : Carrying E) (frames : E → ℕ) (sizes : E → Dimensions) (board : Board) where
  -- the frames of two worlds are the same, so the engine carries the other world's too
  pub still_carried : (w v : World) (engine : E) → SameFrames w v → CarriesFrames carries engine w → CarriesFrames carries engine v
  still_carried w v engine same carried = rw (same.inputs, same.held, same.seated) carried

  -- an engine stays ready where no frame comes
  pub still_ready : (seen history : List Entry) (engine : E) (tool : Tool) (begins : StartsWith history seen) → NoFrames board.trace begins.0
      → IsReady carries frames sizes board seen engine tool → IsReady carries frames sizes board history engine tool
  still_ready seen history engine tool begins none r =
      let unseen_is : unseen seen history ≡ begins.0 = ap (unseen seen) begins.1 ∙ unseen_front seen begins.0 in
      let same = same_frames board seen history begins (subst (NoFrames board.trace) (sym unseen_is) none) in
      record {
        carried = still_carried (world_at board seen) (world_at board history) engine same r.carried;
        number = r.number ∙ sym same.next;
        sized = r.sized;
        image = r.image;
      }

  pub ready_after : (history seen : List Entry) (by n : ℕ) (input : Input) (after : E) (image later : Control) → let w = world_at board history in let d = (setting_at board).dimensions in
      IsNumbered board.trace n (Frame input) → seen ≡ history ++ (by, n) ∷ [] → IsOfSize d image → SameSizes image later
      → carries after (w.inputs ++ input ∷ []) (w.held ++ w.holding.circuits ∷ []) (w.seated ++ w.ports ∷ []) → frames after ≡ w.holding.next + 1 → sizes after ≡ d
      → IsReady carries frames sizes board seen after (Image later)
  ready_after history seen by n input after image later number is size same carried count sized =
      let d = (setting_at board).dimensions in
      let w = world_at board history in
      let longer : world_at board seen ≡ next (setting_at board) w (Frame input) =
      ap (world_at board) is ∙ world_more (record { trace = board.trace; slots = board.slots; bound = board.bound; journal = history }) by n (Frame input) number in
      let passed = passed_same (setting_at board) w input in
      record {
        carried = subst (CarriesFrames carries after) (sym longer) (still_carried (pass w input) (next (setting_at board) w (Frame input)) after passed carried);
        number = subst (λ (v : World). frames after ≡ v.holding.next) (sym longer) (count ∙ sym passed.next);
        sized = sized;
        image = record {
          external = omega (arith, size.external, same.external);
          bridges = omega (arith, size.bridges, same.bridges);
          slots = omega (arith, size.slots, same.slots);
        };
      }

-- the octets that were kept are those that the engine played
pub played_here : (plays : Plays) (tones : _) (external : ℕ) (w : World) (input : Input) (out octets : List (List ℕ)) (lines frame : ℕ) → lines ≡ external → frame ≡ w.holding.next → octets ≡ out → length out ≡ external
    → PlaysOut lines (plays tones (w.inputs ++ input ∷ []) (w.held ++ w.holding.circuits ∷ []) frame) out → IsPlayed plays tones external w input octets
played_here plays tones external w input out octets lines frame same number is long played = record {
  lines = ap length is ∙ long;
  played = subst (PlaysOut external (plays tones (pass w input).inputs (pass w input).held w.holding.next)) (sym is)
      (subst (λ (k : ℕ). PlaysOut k (plays tones (w.inputs ++ input ∷ []) (w.held ++ w.holding.circuits ∷ []) w.holding.next) out) same
      (subst (λ (f : ℕ). PlaysOut lines (plays tones (w.inputs ++ input ∷ []) (w.held ++ w.holding.circuits ∷ []) f) out) number played));
}

-- a slice of the whole length was written whole
pub written_whole : (n : ℕ) (xs ys : List (List ℕ)) → n ≡ length xs → length ys ≡ length xs → take n (xs ++ drop (length xs) ys) ≡ xs
written_whole n xs ys size long =
    let none : drop (length xs) ys ≡ [] = drop_of_length-le ys (omega (arith, long)) in
    ap (λ (l : List (List ℕ)). take n (xs ++ l)) none ∙ (ap (take n) (append-nil xs) ∙ take_all n xs (omega (arith, size)))
