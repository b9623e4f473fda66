-- The conditions that every trace meets. Source: this project.
use Rattle.std.specs.Prelude.{◌≡◌, ◌≢◌, ℕ, ◌<◌, ◌≤◌, nat_lt, Bool, true, IsTrue, ◌==◌, List, [], ◌∷◌, length, All, AllPairs}
use Rattle.std.specs.List.{list_all, list_any}
use Rattle.circuit_model.specs.declared.channel.Slot.{Slot}
use Rattle.circuit_model.specs.Extent.{IsExternal}
use Rattle.number_plan.specs.declared.target.Target.{Target}
use Rattle.number_plan.specs.declared.target.Target.TheVariants as target
use Rattle.number_plan.specs.Plan.{all_targets}
use Rattle.exchange_events.specs.declared.trace.Event.{Event}
use Rattle.exchange_events.specs.declared.trace.Event.TheVariants.{Nail, Seat, Free, Message, LinkUp, LinkDown, RestartLine, Frame}
use Rattle.exchange_events.specs.declared.trace.Trace.{Trace}
use Rattle.exchange_events.specs.Limits.{max_changes, max_events}
use Rattle.exchange_events.specs.Sizes.{Setting}

-- two slots that can be nailed together
pub record IsNail (external : ℕ) (x y : Slot) : Type 0 where
  pub first : IsExternal external x
  pub second : IsExternal external y
  pub distinct : x ≢ y

-- an event of an exchange with n external lines
abbrev pub Fits : ℕ → Event → Type 0
Fits external (Nail x y) = IsNail external x y
Fits external (Seat x room) = IsExternal external x
Fits external (Free x) = IsExternal external x
Fits external (Message line octets) = (line < external) × All (λ octet. octet < 256) octets
Fits external (LinkUp line) = line < external
Fits external (LinkDown line) = line < external
Fits external (RestartLine line) = line < external
Fits external (Frame input) = length input ≡ external

-- a line is one of n external lines
abbrev pub line_exists : ℕ → ℕ → Bool
line_exists external line = nat_lt line external

-- the lines of a number's target are among n
abbrev pub is_reached : ℕ → Target → Bool
is_reached external (target.Line line) = nat_lt line external
is_reached external (target.Room room) = true
is_reached external (target.Lines lines) = list_all (line_exists external) lines

-- the numbers of a plan are routed to lines that exist
abbrev pub IsPlanned : Setting → Type 0
IsPlanned s = IsTrue (all_targets (is_reached s.dimensions.external) s.plan)

-- the last of these numbers, 0 if there is none
abbrev pub last_of : List ℕ → ℕ
last_of [] = 0
last_of (n ∷ []) = n
last_of (n ∷ m ∷ ns) = last_of (m ∷ ns)

-- the ends of the segments of n events: the numbers of their last events rise from 1 on, and the last one is n; no
-- segment is empty, since `sync` and `change` end a segment only after an event
pub record AreSegments (events : ℕ) (ends : List ℕ) : Type 0 where
  pub some : All (λ n. 1 ≤ n) ends
  pub rising : AllPairs (λ m n. m < n) ends
  pub whole : last_of ends ≡ events

-- the place is between segments: before the first of them, or at the end of one
abbrev pub is_between : List ℕ → ℕ → Bool
is_between ends count = list_any (λ place. place == count) (0 ∷ ends)

-- the places at which meters change: each is between segments, and none is before the one in front of it; several
-- changes can have one place, since each changes one meter
pub record AreChanges (ends changes : List ℕ) : Type 0 where
  pub few : length changes ≤ max_changes
  pub rising : AllPairs (λ m n. m ≤ n) changes
  pub between : All (λ count. is_between ends count ≡ true) changes

-- the setting of an exchange over a fabric of n internal slots, by a trace
abbrev pub setting_of : ℕ → Trace → Setting
setting_of slots trace = record {
  dimensions = record { external = trace.external; bridges = trace.bridges; slots = slots };
  plan = trace.plan;
  tones = trace.tones;
  timers = trace.timers;
}

-- an exchange of 1 to 32 external lines, at most 2 bridge lines and 1 to 8 call processors; the lines of its plan
-- exist; its events are within the limit, each fits the external lines, and each is in a segment; its meters change
-- between segments
pub record IsSound (trace : Trace) : Type 0 where
  pub some : 1 ≤ trace.external
  pub few : trace.external ≤ 32
  pub bridges : trace.bridges ≤ 2
  pub processors : (1 ≤ trace.processors) × (trace.processors ≤ 8)
  pub planned : IsTrue (all_targets (is_reached trace.external) trace.plan)
  pub count : length trace.events ≤ max_events
  pub events : All (Fits trace.external) trace.events
  pub segments : AreSegments (length trace.events) trace.segments
  pub changes : AreChanges trace.segments trace.changes
