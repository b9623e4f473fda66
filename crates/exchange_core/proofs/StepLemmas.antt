-- A core's map and legs hold the world of its journal, step by step.
use Rattle.std.proofs.Common.{◌≡◌, ℕ, suc, ◌+◌, ◌<◌, ◌≤◌, List, [], ◌∷◌, ◌++◌, length, Option, Some, None, refl, sym, ◌∙◌, ap, subst, arith}
use Rattle.std.specs.Prelude.{All, map, IfSome}
use Rattle.std.specs.List.{cons_option}
use Rattle.std.proofs.lemmas.List.{map-append}
use Rattle.std.proofs.lemmas.List.Elements.{All-nil, All-cons, All-append}
use Rattle.circuit_model.specs.FrameInput.{Input}
use Rattle.circuit_model.specs.Holding.{empty}
use Rattle.circuit_model.specs.Ports.{free_ports}
use Rattle.control_memory.specs.Layout.{Layout, Legal}
use Rattle.control_memory.specs.Shown.{JoinsCircuits}
use Rattle.circuit_map.specs.Connections.{Connections, Represents, IsLaid as Is_map_laid}
use Rattle.exchange_events.specs.declared.trace.Event.{Event}
use Rattle.exchange_events.specs.declared.trace.Event.TheVariants.{Frame}
use Rattle.exchange_events.specs.declared.trace.Trace.{Trace}
use Rattle.call_control.specs.declared.preparsing.PreparsedMessage.{PreparsedMessage}
use Rattle.call_control.specs.AtWork.{IsAtWork}
use Rattle.call_profile.specs.Legs.{Legs, no_legs}
use Rattle.exchange_events.specs.Orders.{IsEvent, event_at}
use Rattle.exchange_events.specs.Sound.{Fits, IsSound, setting_of}
use Rattle.exchange_events.proofs.EventNumbers.{of_event_at}
use Rattle.call_control.specs.Standing.{Holds}
use Rattle.call_profile.specs.Step.{next, world_after_all, events_of}
use Rattle.exchange_core.specs.Ahead.{IsReadAt, IsReadOf}
use Rattle.exchange_core.specs.Working.{Entry, Working, IsWorking, IsNumbered, IsLaid, JoinsItsCircuits, order_of, setting, world_of}
use Rattle.exchange_events.specs.Sizes.{Dimensions}
use Rattle.call_profile.specs.World.{World, exchange_lines, start}
use Rattle.call_profile.proofs.StandingLegLemmas.{start_stands, run_stands}
use Rattle.call_profile.proofs.RunLemmas.{world-snoc, events_of-snoc, world_next, length-events_of-le}

-- ---- one event more

-- the order and the world of a journal with one entry more
order_more : (journal : List Entry) (by n : ℕ) → order_of (journal ++ (by, n) ∷ []) ≡ order_of journal ++ n ∷ []
order_more journal by n = map-append (λ (entry : Entry). entry.1) journal ((by, n) ∷ [])

pub world_more : (x : Working) (by n : ℕ) (e : Event) → IsNumbered x.trace n e
    → world_of (record x { journal = x.journal ++ (by, n) ∷ [] }) ≡ next (setting x) (world_of x) e
world_more x by n e is =
    let s = setting x in
    ap (λ order. world_after_all s (start s.dimensions) (events_of x.trace.events order)) (order_more x.journal by n)
    ∙ ap (world_after_all s (start s.dimensions)) (events_of-snoc x.trace.events (order_of x.journal) n e is)
    ∙ world-snoc s (start s.dimensions) (events_of x.trace.events (order_of x.journal)) e

-- ---- a core before its first event

pub IsWorking_begins : (trace : Trace) (map : Connections) (legs : Legs) (journal : List Entry) (room : ℕ) → IsSound trace → Represents map empty (free_ports trace.bridges)
    → map.external ≡ trace.external → map.bridges ≡ trace.bridges → map.layout ≡ (start (setting_of map.slots trace).dimensions).layout → legs ≡ no_legs trace.external
    → journal ≡ [] → length trace.events ≤ room
    → IsWorking (record { trace = trace; slots = map.slots; bound = map.bound; journal = journal }) map legs room
IsWorking_begins trace map legs journal room sound represents external bridges layout none nothing reserved =
    subst (λ (j : List Entry). IsWorking (record { trace = trace; slots = map.slots; bound = map.bound; journal = j }) map legs room) (sym nothing) (record {
      sound = sound;
      known = All-nil (IsEvent trace);
      holds = record {
        sizes = λ i. record { external = external i; bridges = bridges i; slots = map.slots };
        circuits = record { holds = represents; layout = layout };
        legs_are = none;
      };
      bound = refl;
      reserved = reserved;
    })

-- ---- what is known of a core

-- the events of an order fit the exchange
fits_one : (external : ℕ) (o : Option Event) (es : List Event) → ((e : Event) → o ≡ Some e → Fits external e) → All (Fits external) es → All (Fits external) (cons_option o es)
fits_one external None es fits all = all
fits_one external (Some e) es fits all = All-cons (Fits external) e es (fits e refl) all

fits_at : (trace : Trace) (n : ℕ) (e : Event) → All (Fits trace.external) trace.events → IsNumbered trace n e → Fits trace.external e
fits_at trace n e all is = of_event_at (Fits trace.external) trace.events n e all is

pub fits_all : (trace : Trace) (order : List ℕ) → All (Fits trace.external) trace.events → All (Fits trace.external) (events_of trace.events order)
fits_all trace [] all = All-nil (Fits trace.external)
fits_all trace (n ∷ order) all =
    fits_one trace.external (event_at trace.events n) (events_of trace.events order) (λ e is. fits_at trace n e all is) (fits_all trace order all)

pub at_work : (x : Working) (map : Connections) (legs : Legs) (room : ℕ) → IsWorking x map legs room → IsAtWork (setting x) map legs (world_of x)
at_work x map legs room works = record {
  holds = works.holds;
  planned = works.sound.planned;
  stands = run_stands (setting x) (start (setting x).dimensions) (events_of x.trace.events (order_of x.journal)) works.sound.planned
      (fits_all x.trace (order_of x.journal) works.sound.events) (start_stands (setting x));
}

-- ---- the paths

-- they are the world's, as it holds them
module _ (x : Working) (map : Connections) (legs : Legs) (room : ℕ) (works : IsWorking x map legs room) where
  pub is_laid : Is_map_laid map → IsLaid x
  is_laid laid =
      subst (λ (d : Dimensions). Legal (exchange_lines d) d.slots (world_of x).layout) works.holds.sizes
      (subst (λ (l : Layout). Legal (map.external + map.bridges) map.slots l) works.holds.circuits.layout laid)

  pub joins_its : JoinsItsCircuits x
  joins_its =
      let w = world_of x in
      subst (λ (d : Dimensions). JoinsCircuits (exchange_lines d) d.external w.layout w.holding.circuits w.ports) works.holds.sizes
      (subst (λ (l : Layout). JoinsCircuits (map.external + map.bridges) map.external l w.holding.circuits w.ports) works.holds.circuits.layout works.holds.circuits.holds.joined)

-- ---- the number of the next frame

long_order : (journal : List Entry) → length (order_of journal) ≡ length journal
long_order [] = refl
long_order (entry ∷ journal) = ap suc (long_order journal)

-- there have been no more frames than events
pub next_few : (x : Working) (map : Connections) (legs : Legs) (room : ℕ) → IsWorking x map legs room → length x.journal < length x.trace.events → map.next < 65535
next_few x map legs room works left =
    let s = setting x in
    let count = world_next s (start s.dimensions) (events_of x.trace.events (order_of x.journal)) in
    let events = length-events_of-le x.trace.events (order_of x.journal) in
    let same = works.holds.circuits.holds.next in
    let most = works.sound.count in
    omega (arith, count, events, long_order x.journal, same, most, left)

-- ---- after a step

pub IsWorking_stepped : (x : Working) (map : Connections) (legs : Legs) (room by n : ℕ) (e : Event) (map_after : Connections) (legs_after : Legs) (journal : List Entry)
    → IsWorking x map legs room → IsEvent x.trace n → IsNumbered x.trace n e → journal ≡ x.journal ++ (by, n) ∷ []
    → Holds (setting x).dimensions map_after legs_after (next (setting x) (world_of x) e) → map_after.bound ≡ map.bound → map_after.slots ≡ map.slots → map.slots ≡ x.slots
    → IsWorking (record { trace = x.trace; slots = map_after.slots; bound = map_after.bound; journal = journal }) map_after legs_after room
IsWorking_stepped x map legs room by n e map_after legs_after journal works known is more holds bound slots own =
    let y : Working = record x { journal = x.journal ++ (by, n) ∷ [] } in
    let grown : IsWorking y map_after legs_after room = record {
      sound = works.sound;
      known = subst (λ (order : List ℕ). All (IsEvent x.trace) order) (sym (order_more x.journal by n))
          (All-append (IsEvent x.trace) (order_of x.journal) (n ∷ []) works.known (All-cons (IsEvent x.trace) n [] known (All-nil (IsEvent x.trace))));
      holds = subst (λ (w : World). Holds (setting x).dimensions map_after legs_after w) (sym (world_more x by n e is)) holds;
      bound = bound ∙ works.bound;
      reserved = works.reserved;
    } in
    subst (λ (z : Working). IsWorking z map_after legs_after room)
    (λ i. record { trace = x.trace; slots = (sym own ∙ sym slots) i; bound = (sym works.bound ∙ sym bound) i; journal = (sym more) i }) grown

-- ---- the event with a number

pub one_number : (o : Option Event) (one other : Event) → o ≡ Some one → o ≡ Some other → one ≡ other
one_number o one other is is_too = let same : Some one ≡ Some other = sym is ∙ is_too in cc

-- what is known of a core that does an event, which was looked up by its number
pub record Facts (x : Working) (map : Connections) (legs : Legs) (n : ℕ) (e : Event) : Type 0 where
  pub known : IsEvent x.trace n
  pub number : IsNumbered x.trace n e
  pub fits : Fits x.trace.external e
  pub at : IsAtWork (setting x) map legs (world_of x)

pub facts : (x y : Working) (map : Connections) (legs : Legs) (room n : ℕ) (e : Event) → x ≡ y → IsWorking x map legs room → IsEvent y.trace n
    → IsNumbered x.trace n e → Facts x map legs n e
facts x y map legs room n e same works known number =
    let own = subst (λ (z : Working). IsEvent z.trace n) (sym same) known in
    record { known = own; number = number; fits = fits_at x.trace n e works.sound.events number; at = at_work x map legs room works }

-- what holds of the event holds of each that has its number
pub of_each : (x y : Working) (n : ℕ) (e : Event) (P : Working → Event → Type 0) → x ≡ y → IsNumbered x.trace n e → P x e → (f : Event) → IsNumbered y.trace n f → P y f
of_each x y n e P same number holds =
    subst (λ (z : Working). (f : Event) → IsNumbered z.trace n f → P z f) same
    (λ f named. subst (P x) (one_number (event_at x.trace.events n) e f number named) holds)

-- ---- what was read of it ahead

-- it is of the event that has the number
pub IsReadOf_ahead : (x y : Working) (n : ℕ) (e : Event) (ahead : Option PreparsedMessage) → x ≡ y → IsNumbered x.trace n e → IsReadAt y.trace n ahead → IfSome ahead (IsReadOf x.trace.plan e)
IsReadOf_ahead x y n e None same number reads = tt
IsReadOf_ahead x y n e (Some known) same number reads = subst (λ (z : Working). IsReadAt z.trace n (Some known)) (sym same) reads e number

pub read_at : (trace : Trace) (n : ℕ) (e : Event) (ahead : Option PreparsedMessage) → IsNumbered trace n e → IfSome ahead (IsReadOf trace.plan e) → IsReadAt trace n ahead
read_at trace n e None number reads = tt
read_at trace n e (Some known) number reads = λ f named.
    subst (λ (o : Option Event). IfSome o (λ g. IsReadOf trace.plan g known)) (sym number ∙ named) reads

-- a frame asks for nothing
pub nothing_read : (trace : Trace) (n : ℕ) (input : Input) (ahead : Option PreparsedMessage) → IsNumbered trace n (Frame input) → IsReadAt trace n ahead
nothing_read trace n input None number = tt
nothing_read trace n input (Some known) number = read_at trace n (Frame input) (Some known) number tt
