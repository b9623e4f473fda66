-- The statements of the contracts on one event, by the members of its meters (m), its engine (c) and its fabric (f).
-- Source: this project.
use Rattle.std.specs.Prelude.{ℕ, List, Option}
use Rattle.std.specs.declared.alloc.Global.{Global}
use Rattle.std.specs.declared.dyn_box.DynBox.{DynBox}
use Rattle.std.specs.declared.vec.Vec.{Vec}
use Rattle.exchange_events.specs.declared.trace.Event.{Event}
use Rattle.exchange_events.specs.Sizes.{Setting}
use Rattle.call_profile.specs.World.{World}
use Rattle.frame_engine.specs.declared.carrier.Carrier.{Ghosts as CarrierKind}
use Rattle.lone_exchange.specs.declared.exchange.LoneExchange.{LoneExchange}
use Rattle.lone_exchange.specs.At.{EachAt, IsSomewhere, Passes}
use Rattle.meters.specs.declared.meter.Meter.{Ghosts as MeterKind}
use Rattle.trace_text.specs.TraceLines.{SoFar}
use Rattle.trace_text.specs.TraceTimers.{timers_by}
use Rattle.trace_text.specs.declared.said.Said.{Said}
use Rattle.trace_text.specs.declared.said.Sizes.{Sizes}
use Rattle.linked_exchange.specs.declared.exchange.LinkedExchange.{LinkedExchange}
use Rattle.linked_exchange.specs.declared.steps.LinkedEvent.{LinkedEvent}
use Rattle.linked_text.specs.LinkLines.{Content, LinkSoFar}
use Rattle.linked_exchange.specs.LinkedStepping.{HasLinkedHappened, IsLinkedDue, IsLinkedHeard, IsLinkedReady, IsLinkedRunning}
use Rattle.linked_exchange.specs.Stepping.{HasHappened, IsEventDue, IsHeard, IsRunning}
use Rattle.control_memory.specs.declared.fabric.Fabric.{Ghosts as FabricKind}

-- ---- one event

module _ {E : Type 0} (c : CarrierKind E) where
  -- the exchange has an exchange state, in a setting with this heading
  abbrev pub IsInWorld : {P : Type 0} → SoFar → LoneExchange P E → Type 0
  IsInWorld k x = IsSomewhere c.carries c.next c.sizes k.plan k.tones (timers_by k.timers) x

  -- the statement holds in each such setting and exchange state
  abbrev pub InWorlds : {P : Type 0} → SoFar → LoneExchange P E → (Setting → World → Type 0) → Type 0
  InWorlds k x Says = EachAt c.carries c.next c.sizes k.plan k.tones (timers_by k.timers) x Says

  abbrev pub PassesBy : {P : Type 0} → SoFar → Event → (x y : LoneExchange P E) → Type 0
  PassesBy k e x y = Passes c.carries c.next c.sizes k.plan k.tones (timers_by k.timers) e x y

module _ {P E : Type 0} (c : CarrierKind E) (f : FabricKind P) where
  -- some lines with a header were processed; a statement on them and their header
  abbrev pub IsHeardSome : SoFar → Option (LoneExchange P E) → Type 0
  IsHeardSome k x = (told : List Said) × (z : Sizes) × IsHeard c.carries c.next c.sizes f.slots f.moves told z k x

  abbrev pub EachHeard : SoFar → Option (LoneExchange P E) → (List Said → Sizes → Type 0) → Type 0
  EachHeard k x Says = (told : List Said) (z : Sizes) → IsHeard c.carries c.next c.sizes f.slots f.moves told z k x → Says told z

  -- there is an exchange, in the state after these lines
  abbrev pub RunsAfter : List Said → Sizes → Option (LoneExchange P E) → Type 0
  RunsAfter told z x = IsRunning c.carries c.next c.sizes f.slots f.moves told z x

  -- an event can happen after some lines; a statement on them and their header
  abbrev pub IsDueSome : SoFar → Option (LoneExchange P E) → Event → Type 0
  IsDueSome k x e = (told : List Said) × (z : Sizes) × IsEventDue c.carries c.next c.sizes f.slots f.moves told z k x e

  abbrev pub EachDue : SoFar → Option (LoneExchange P E) → Event → (List Said → Sizes → Type 0) → Type 0
  EachDue k x e Says = (told : List Said) (z : Sizes) → IsEventDue c.carries c.next c.sizes f.slots f.moves told z k x e → Says told z

  -- it happened
  abbrev pub HappensBy : {V : Type 0} {F : V → Type 0} → ((v : V) → MeterKind (F v)) → List Said → Sizes → SoFar → Event
      → (old new : Vec (DynBox V Global F) Global) (before after : Vec ℕ Global) → Option (LoneExchange P E) → Type 0
  HappensBy {V} {F} m told z k e old new before after x =
      HasHappened c.plays c.carries c.next c.sizes f.slots f.moves (λ (b : DynBox V Global F). (m b.vtable).stands b.value) (λ (b : DynBox V Global F). (m b.vtable).text b.value)
      told z k.events e old.items new.items before.items after.items x

-- ---- one event of a trace with data links

module _ {P E : Type 0} (c : CarrierKind E) (f : FabricKind P) where
  -- some lines with a header and a data link were processed; a statement on them and their header
  abbrev pub IsLinkedHeardSome : LinkSoFar → Option (LinkedExchange P E) → Type 0
  IsLinkedHeardSome k x = (told : List Content) × (z : Sizes) × IsLinkedHeard c.carries c.next c.sizes f.slots f.moves told z k x

  abbrev pub EachLinkedHeard : LinkSoFar → Option (LinkedExchange P E) → (List Content → Sizes → Type 0) → Type 0
  EachLinkedHeard k x Says = (told : List Content) (z : Sizes) → IsLinkedHeard c.carries c.next c.sizes f.slots f.moves told z k x → Says told z

  -- there is an exchange with links, in the state after these lines
  abbrev pub LinkedRunsAfter : List Content → Sizes → Option (LinkedExchange P E) → Type 0
  LinkedRunsAfter told z x = IsLinkedRunning c.carries c.next c.sizes f.slots f.moves told z x

  -- an event can happen after some lines; a statement on them and their header
  abbrev pub IsLinkedDueSome : LinkSoFar → Option (LinkedExchange P E) → LinkedEvent → Type 0
  IsLinkedDueSome k x e = (told : List Content) × (z : Sizes) × IsLinkedDue c.carries c.next c.sizes f.slots f.moves told z k x e

  abbrev pub EachLinkedDue : LinkSoFar → Option (LinkedExchange P E) → LinkedEvent → (List Content → Sizes → Type 0) → Type 0
  EachLinkedDue k x e Says = (told : List Content) (z : Sizes) → IsLinkedDue c.carries c.next c.sizes f.slots f.moves told z k x e → Says told z

  -- the same on an exchange
  abbrev pub IsLinkedReadySome : LinkSoFar → LinkedExchange P E → LinkedEvent → Type 0
  IsLinkedReadySome k x e = (told : List Content) × (z : Sizes) × IsLinkedReady c.carries c.next c.sizes f.slots f.moves told z k x e

  abbrev pub EachLinkedReady : LinkSoFar → LinkedExchange P E → LinkedEvent → (List Content → Sizes → Type 0) → Type 0
  EachLinkedReady k x e Says = (told : List Content) (z : Sizes) → IsLinkedReady c.carries c.next c.sizes f.slots f.moves told z k x e → Says told z

  -- it happened
  abbrev pub LinkedHappensBy : {V : Type 0} {F : V → Type 0} → ((v : V) → MeterKind (F v)) → List Content → Sizes → LinkedEvent
      → (old new : Vec (DynBox V Global F) Global) (before after : Vec ℕ Global) → Option (LinkedExchange P E) → Type 0
  LinkedHappensBy {V} {F} m told z e old new before after x =
      HasLinkedHappened c.plays c.carries c.next c.sizes f.slots f.moves (λ (b : DynBox V Global F). (m b.vtable).stands b.value) (λ (b : DynBox V Global F). (m b.vtable).text b.value)
      told z e old.items new.items before.items after.items x
