-- What the events of a step tell call control of the link of one line.
use Rattle.std.proofs.Common.{◌≡◌, ◌≢◌, ◌⊎◌, ℕ, Bool, true, false, List, [], ◌∷◌, ◌++◌, refl, sym, ap, ◌∙◌, subst, inl, inr, Some, None, Ok, eq-eqb, if◌then◌else◌}
use Rattle.std.specs.Prelude.{Option, slice_index_or, ◌==◌, not, All}
use Rattle.std.proofs.lemmas.Bool.{cases_eq, ne_eqb}
use Rattle.std.proofs.lemmas.List.Elements.{All-nil, All-cons, All-head, All-tail}
use Rattle.exchange_events.specs.declared.trace.Event.{Event}
use Rattle.exchange_events.specs.declared.trace.Event.TheVariants as event
use Rattle.call_laws.specs.Outages.{down_after, down_after_all}
use Rattle.link_frames.specs.declared.frame.Frame.{Frame}
use Rattle.link_frames.specs.declared.frame.Sender.TheVariants.{User}
use Rattle.link_frames.specs.Reading.{reading}
use Rattle.link_frames.specs.Writing.{information_in}
use Rattle.link_procedures.specs.declared.state.Indication.{Indication}
use Rattle.link_procedures.specs.declared.state.Indication.TheVariants as indication
use Rattle.link_procedures.specs.declared.state.LinkTimers.{LinkTimers}
use Rattle.link_procedures.specs.Links.{DataLink, step}
use Rattle.link_procedures.specs.Establishment.{quietly}
use Rattle.link_procedures.specs.Receiving.{received}
use Rattle.link_procedures.specs.Timing.{turned}
use Rattle.link_table.specs.Tables.{IsLinkOf, link_of}
use Rattle.link_table.specs.Steps.{notice_of, noticed_in, change_of, changed_in, line_of_turn}
use Rattle.link_laws.specs.TwoLinks.{message_of}
use Rattle.link_laws.specs.Epochs.{after_indication}
use Rattle.linked_exchange.specs.Steps.{Joint, LinkedInput, Happens, Receives, Turns, derived, frames_so_far, noticed_events, changed_events}
use Rattle.exchange_laws.specs.Peers.{IsBeside, IsBesideIn, message_from, messages_from, epochs_after_event, epochs_told}
use Rattle.exchange_laws.specs.Layers.{LeavesLink, LeavesLinkIn}
use Rattle.exchange_laws.proofs.KnownLemmas.{up_after}
use Rattle.exchange_laws.proofs.StepLemmas.{outcome_read, outcome_in}

-- ---- events of other lines

other_event : (line : ℕ) (d : Bool) (e : Event) → LeavesLink line e → down_after line d e ≡ d
other_event line d (event.LinkUp n) other = ap (λ b. if b then false else d) (ne_eqb line n (λ e. other (sym e)))
other_event line d (event.LinkDown n) other = ap (λ b. if b then true else d) (ne_eqb line n (λ e. other (sym e)))
other_event line d (event.RestartLine n) h = refl
other_event line d (event.Message n m) h = refl
other_event line d (event.Nail x y) h = refl
other_event line d (event.Seat x room) h = refl
other_event line d (event.Free x) h = refl
other_event line d (event.Frame input) h = refl

other_message : (line : ℕ) (e : Event) → IsBeside line e → message_from line e ≡ []
other_message line (event.Message n m) other = ap (λ b. if b then m ∷ [] else []) (ne_eqb n line other)
other_message line (event.LinkUp n) h = refl
other_message line (event.LinkDown n) h = refl
other_message line (event.RestartLine n) h = refl
other_message line (event.Nail x y) h = refl
other_message line (event.Seat x room) h = refl
other_message line (event.Free x) h = refl
other_message line (event.Frame input) h = refl

other_epoch : (line : ℕ) (e : Event) (epochs : List (List (List ℕ))) → IsBeside line e → epochs_after_event line e epochs ≡ epochs
other_epoch line (event.LinkUp n) epochs other = ap (λ b. if b then [] ∷ epochs else epochs) (ne_eqb n line other)
other_epoch line (event.LinkDown n) epochs other = ap (λ b. if b then [] ∷ epochs else epochs) (ne_eqb n line other)
other_epoch line (event.RestartLine n) epochs h = refl
other_epoch line (event.Message n m) epochs h = refl
other_epoch line (event.Nail x y) epochs h = refl
other_epoch line (event.Seat x room) epochs h = refl
other_epoch line (event.Free x) epochs h = refl
other_epoch line (event.Frame input) epochs h = refl

other_downs : (line : ℕ) (d : Bool) (es : List Event) → All (LeavesLink line) es → down_after_all line d es ≡ d
other_downs line d [] h = refl
other_downs line d (e ∷ es) h =
    ap (λ b. down_after_all line b es) (other_event line d e (All-head (LeavesLink line) e es h)) ∙ other_downs line d es (All-tail (LeavesLink line) e es h)

other_messages : (line : ℕ) (es : List Event) → All (IsBeside line) es → messages_from line es ≡ []
other_messages line [] h = refl
other_messages line (e ∷ es) h =
    ap (λ ms. ms ++ messages_from line es) (other_message line e (All-head (IsBeside line) e es h)) ∙ other_messages line es (All-tail (IsBeside line) e es h)

other_epochs : (line : ℕ) (es : List Event) (epochs : List (List (List ℕ))) → All (IsBeside line) es → epochs_told line es epochs ≡ epochs
other_epochs line [] epochs h = refl
other_epochs line (e ∷ es) epochs h =
    ap (epochs_told line es) (other_epoch line e epochs (All-head (IsBeside line) e es h)) ∙ other_epochs line es epochs (All-tail (IsBeside line) e es h)

one : (Q : Event → Type 0) (e : Event) → Q e → All Q (e ∷ [])
one Q e is = All-cons Q e [] is (All-nil Q)

-- the events of another line
module _ (Q : Event → Type 0) (n : ℕ) (message : (m : List ℕ) → Q (event.Message n m)) (up : Q (event.LinkUp n)) (down : Q (event.LinkDown n)) where
  indicated_all : (f : Frame) (i : Option Indication) → All Q (noticed_events n (Ok (notice_of f i)))
  indicated_all f None = All-nil Q
  indicated_all f (Some indication.Data) = one Q _ (message _)
  indicated_all f (Some indication.Established) = one Q _ up
  indicated_all f (Some indication.Released) = one Q _ down

  pub noticed_all : (o : Option DataLink) (f : Option Frame) (at : ℕ) → All Q (noticed_events n (noticed_in o f at))
  noticed_all None f at = All-nil Q
  noticed_all (Some l) None at = All-nil Q
  noticed_all (Some l) (Some f) at = indicated_all f (received f at (step l [])).indication

  told_all : (i : Option Indication) → All Q (changed_events n (change_of i))
  told_all None = All-nil Q
  told_all (Some indication.Data) = All-nil Q
  told_all (Some indication.Established) = one Q _ up
  told_all (Some indication.Released) = one Q _ down

  pub changed_all : (o : Option DataLink) (timers : LinkTimers) (at : ℕ) → All Q (changed_events n (changed_in o timers at))
  changed_all None timers at = All-nil Q
  changed_all (Some l) timers at = told_all (turned timers at (step l [])).indication

-- ---- events of the line itself

module _ (line n : ℕ) (is : n ≡ line) where
  itself : (n == line) ≡ true
  itself = eq-eqb n line is

  itself_back : (line == n) ≡ true
  itself_back = eq-eqb line n (sym is)

  down_told : (f : Frame) (b : Bool) (i : Option Indication) → down_after_all line (not b) (noticed_events n (Ok (notice_of f i))) ≡ not (up_after b i)
  down_told f b None = refl
  down_told f b (Some indication.Data) = refl
  down_told f b (Some indication.Established) = ap (λ c. if c then false else not b) itself_back
  down_told f b (Some indication.Released) = ap (λ c. if c then true else not b) itself_back

  down_changed : (b : Bool) (i : Option Indication) → down_after_all line (not b) (changed_events n (change_of i)) ≡ not (up_after b i)
  down_changed b None = refl
  down_changed b (Some indication.Data) = refl
  down_changed b (Some indication.Established) = ap (λ c. if c then false else not b) itself_back
  down_changed b (Some indication.Released) = ap (λ c. if c then true else not b) itself_back

  message_told : (f : Frame) (i : Option Indication) → messages_from line (noticed_events n (Ok (notice_of f i))) ≡ message_of f i
  message_told f None = refl
  message_told f (Some indication.Data) = ap (λ c. (if c then information_in f.control ∷ [] else []) ++ []) itself
  message_told f (Some indication.Established) = refl
  message_told f (Some indication.Released) = refl

  no_message_told : (i : Option Indication) → messages_from line (changed_events n (change_of i)) ≡ []
  no_message_told None = refl
  no_message_told (Some indication.Data) = refl
  no_message_told (Some indication.Established) = refl
  no_message_told (Some indication.Released) = refl

  epoch_told : (f : Frame) (i : Option Indication) (epochs : List (List (List ℕ))) → epochs_told line (noticed_events n (Ok (notice_of f i))) epochs ≡ after_indication i epochs
  epoch_told f None epochs = refl
  epoch_told f (Some indication.Data) epochs = refl
  epoch_told f (Some indication.Established) epochs = ap (λ c. if c then [] ∷ epochs else epochs) itself
  epoch_told f (Some indication.Released) epochs = ap (λ c. if c then [] ∷ epochs else epochs) itself

  epoch_changed : (i : Option Indication) (epochs : List (List (List ℕ))) → epochs_told line (changed_events n (change_of i)) epochs ≡ after_indication i epochs
  epoch_changed None epochs = refl
  epoch_changed (Some indication.Data) epochs = refl
  epoch_changed (Some indication.Established) epochs = ap (λ c. if c then [] ∷ epochs else epochs) itself
  epoch_changed (Some indication.Released) epochs = ap (λ c. if c then [] ∷ epochs else epochs) itself

-- ---- the events of a step

-- what the events of a step, on this line, are for an indication to layer 3
pub record Tells (line : ℕ) (es : List Event) (i : Option Indication) (messages : List (List ℕ)) : Type 0 where
  pub down : (b : Bool) → down_after_all line (not b) es ≡ not (up_after b i)
  pub messages_are : messages_from line es ≡ messages
  pub epochs_are : (epochs : List (List (List ℕ))) → epochs_told line es epochs ≡ after_indication i epochs

-- nothing
tells_nothing : (line : ℕ) (es : List Event) → All (LeavesLink line) es → All (IsBeside line) es → Tells line es None []
tells_nothing line es links all = record { down = λ b. other_downs line (not b) es links; messages_are = other_messages line es all; epochs_are = λ epochs. other_epochs line es epochs all }

noticed_nothing : (line n : ℕ) (o : Option DataLink) (f : Option Frame) (at : ℕ) → n ≢ line → Tells line (noticed_events n (noticed_in o f at)) None []
noticed_nothing line n o f at other =
    tells_nothing line (noticed_events n (noticed_in o f at)) (noticed_all (LeavesLink line) n (λ m. tt) other other o f at) (noticed_all (IsBeside line) n (λ m. other) other other o f at)

changed_nothing : (line n : ℕ) (o : Option DataLink) (timers : LinkTimers) (at : ℕ) → n ≢ line → Tells line (changed_events n (changed_in o timers at)) None []
changed_nothing line n o timers at other =
    tells_nothing line (changed_events n (changed_in o timers at)) (changed_all (LeavesLink line) n (λ m. tt) other other o timers at) (changed_all (IsBeside line) n (λ m. other) other other o timers at)

-- the message of a frame that is delivered
abbrev pub message_read : DataLink → ℕ → Option Frame → List (List ℕ)
message_read l at None = []
message_read l at (Some f) = message_of f (received f at (step l [])).indication

abbrev pub message_in : ℕ → LinkTimers → Joint → DataLink → LinkedInput → List (List ℕ)
message_in line timers j l (Receives n octets) = if n == line then message_read l (frames_so_far j) (reading User octets) else []
message_in line timers j l _ = []

module _ (line : ℕ) (timers : LinkTimers) (j : Joint) (l : DataLink) (linked : IsLinkOf j.links.links line l) where
  found : (n : ℕ) → n ≡ line → link_of n j.links ≡ Some l
  found n is = ap (λ k. slice_index_or j.links.links k None) is ∙ linked

  read_tells : (n at : ℕ) (f : Option Frame) → n ≡ line → Tells line (noticed_events n (noticed_in (Some l) f at)) (outcome_read l at f).indication (message_read l at f)
  read_tells n at None is = record { down = λ b. refl; messages_are = refl; epochs_are = λ epochs. refl }
  read_tells n at (Some f) is =
      let i = (received f at (step l [])).indication in
      record { down = λ b. down_told line n is f b i; messages_are = message_told line n is f i; epochs_are = λ epochs. epoch_told line n is f i epochs }

  received_tells : (n at : ℕ) (f : Option Frame) → (n ≡ line) ⊎ (n ≡ line → ⊥)
      → Tells line (noticed_events n (noticed_in (link_of n j.links) f at)) (if n == line then outcome_read l at f else quietly (step l [])).indication (if n == line then message_read l at f else [])
  received_tells n at f (inl is) =
      subst (λ b. Tells line (noticed_events n (noticed_in (link_of n j.links) f at)) (if b then outcome_read l at f else quietly (step l [])).indication (if b then message_read l at f else [])) (sym (eq-eqb n line is))
      (subst (λ o. Tells line (noticed_events n (noticed_in o f at)) (outcome_read l at f).indication (message_read l at f)) (sym (found n is)) (read_tells n at f is))
  received_tells n at f (inr other) =
      subst (λ b. Tells line (noticed_events n (noticed_in (link_of n j.links) f at)) (if b then outcome_read l at f else quietly (step l [])).indication (if b then message_read l at f else [])) (sym (ne_eqb n line other))
      (noticed_nothing line n (link_of n j.links) f at other)

  turn_tells : (n at : ℕ) → n ≡ line → Tells line (changed_events n (changed_in (Some l) timers at)) (turned timers at (step l [])).indication []
  turn_tells n at is =
      let i = (turned timers at (step l [])).indication in
      record { down = λ b. down_changed line n is b i; messages_are = no_message_told line n is i; epochs_are = λ epochs. epoch_changed line n is i epochs }

  turned_tells : (n at : ℕ) → (n ≡ line) ⊎ (n ≡ line → ⊥)
      → Tells line (changed_events n (changed_in (link_of n j.links) timers at)) (if n == line then turned timers at (step l []) else quietly (step l [])).indication []
  turned_tells n at (inl is) =
      subst (λ b. Tells line (changed_events n (changed_in (link_of n j.links) timers at)) (if b then turned timers at (step l []) else quietly (step l [])).indication []) (sym (eq-eqb n line is))
      (subst (λ o. Tells line (changed_events n (changed_in o timers at)) (turned timers at (step l [])).indication []) (sym (found n is)) (turn_tells n at is))
  turned_tells n at (inr other) =
      subst (λ b. Tells line (changed_events n (changed_in (link_of n j.links) timers at)) (if b then turned timers at (step l []) else quietly (step l [])).indication []) (sym (ne_eqb n line other))
      (changed_nothing line n (link_of n j.links) timers at other)

  -- a change of the link of a line, whatever the event of another input is
  pub step_down : (i : LinkedInput) → LeavesLinkIn line i → (b : Bool) → down_after_all line (not b) (derived timers j i) ≡ not (up_after b (outcome_in line timers j l i).indication)
  step_down (Happens e) leaves b = other_event line (not b) e leaves
  step_down (Receives n octets) leaves b = (received_tells n (frames_so_far j) (reading User octets) (cases_eq n line)).down b
  step_down Turns leaves b = (turned_tells (line_of_turn (frames_so_far j)) (frames_so_far j) (cases_eq (line_of_turn (frames_so_far j)) line)).down b

  pub step_messages : (i : LinkedInput) → IsBesideIn line i → messages_from line (derived timers j i) ≡ message_in line timers j l i
  step_messages (Happens e) beside = other_messages line (e ∷ []) (one (IsBeside line) e beside)
  step_messages (Receives n octets) beside = (received_tells n (frames_so_far j) (reading User octets) (cases_eq n line)).messages_are
  step_messages Turns beside = (turned_tells (line_of_turn (frames_so_far j)) (frames_so_far j) (cases_eq (line_of_turn (frames_so_far j)) line)).messages_are

  pub step_epochs : (i : LinkedInput) → IsBesideIn line i → (epochs : List (List (List ℕ))) → epochs_told line (derived timers j i) epochs ≡ after_indication (outcome_in line timers j l i).indication epochs
  step_epochs (Happens e) beside epochs = other_epochs line (e ∷ []) epochs (one (IsBeside line) e beside)
  step_epochs (Receives n octets) beside epochs = (received_tells n (frames_so_far j) (reading User octets) (cases_eq n line)).epochs_are epochs
  step_epochs Turns beside epochs = (turned_tells (line_of_turn (frames_so_far j)) (frames_so_far j) (cases_eq (line_of_turn (frames_so_far j)) line)).epochs_are epochs
