-- The state of an exchange that follows a trace, between two lines. Source: this project.
use Rattle.std.specs.Prelude.{◌≡◌, ℕ, ◌<◌, ◌≤◌, List, [], ◌∷◌, length, Option, Some, None}
use Rattle.circuit_model.specs.Dimensions.{Dimensions}
use Rattle.circuit_model.specs.Hears.{Plays}
use Rattle.exchange_events.specs.declared.record.CallRecord.{CallRecord}
use Rattle.lone_exchange.specs.declared.exchange.LoneExchange.{LoneExchange}
use Rattle.lone_exchange.specs.At.{Carrying}
use Rattle.trace_text.specs.declared.said.Sizes.{Sizes}
use Rattle.trace_text.specs.TraceGrammar.{sizes_in, so_far}
use Rattle.line_wire.specs.declared.following.Following.{Following}
use Rattle.line_wire.specs.declared.following.Following.TheVariants as followed
use Rattle.trace_text.specs.TraceLines.{line_limits}
use Rattle.line_wire.specs.Following.{Dues}
use Rattle.linked_exchange.specs.declared.exchange.LinkedExchange.{LinkedExchange}
use Rattle.linked_text.specs.declared.said.LinkHappening.{LinkHappening}
use Rattle.linked_text.specs.declared.said.LinkHappening.TheVariants as effect
use Rattle.trace_text.specs.declared.heading.Happening.TheVariants as happening
use Rattle.linked_text.specs.LinkEffects.{IsInTurnRead, in_turn, linked_in, plain_told}
use Rattle.linked_text.specs.LinkLines.{Content, LinkSoFar}
use Rattle.linked_exchange.specs.InTurn.{EachInTurn, setting_in_turn, story_in_turn, world_in_turn}
use Rattle.exchange_follow.specs.Following.{Course, IsEndRefused, IsInterrupted, IsLineRefused, IsWhole, course}
pub use Rattle.linked_exchange.specs.States.{IsSaid, IsAfter, IsDriven, IsLinkedAfter, IsLinkedDriven}

-- without links, only an exchange without them processes the events, and with links, only an exchange with them
abbrev pub IsDrivenBy : {P E : Type 0} → Carrying E → (E → ℕ) → (E → Dimensions) → ℕ → (ℕ → ℕ) → List ℕ → List Content → Option (LoneExchange P E) → Option (LinkedExchange P E) → Type 0
IsDrivenBy carries frames sizes slots moves [] told exchange linked = IsDriven carries frames sizes slots moves (plain_told told) exchange × (linked ≡ None)
IsDrivenBy carries frames sizes slots moves (line ∷ lines) told exchange linked = (exchange ≡ None) × IsLinkedDriven carries frames sizes slots moves told linked

abbrev pub AreDriven : {P E : Type 0} → Carrying E → (E → ℕ) → (E → Dimensions) → ℕ → (ℕ → ℕ) → List Content → Option (LoneExchange P E) → Option (LinkedExchange P E) → Type 0
AreDriven carries frames sizes slots moves told exchange linked = IsDrivenBy carries frames sizes slots moves (linked_in told) told exchange linked

-- the exchange whose engine a call returns
abbrev pub exchange_of : {P E : Type 0} → Option (LoneExchange P E) → Option (LinkedExchange P E) → Option (LoneExchange P E)
exchange_of exchange (Some driver) = Some driver.exchange
exchange_of exchange None = exchange

-- these lines were processed: exactly the text of their story is due, the meters are its result, and the heading, the
-- count of lines and the exchange are the result of the lines
pub record HasHandled {P E : Type 0} (carries : Carrying E) (frames : E → ℕ) (sizes : E → Dimensions) (x : Course) (heading : LinkSoFar) (count : ℕ)
    (exchange : Option (LoneExchange P E)) (linked : Option (LinkedExchange P E)) (ls : List (List ℕ)) (said : List ℕ) : Type 0 where
  pub told : List Content
  pub meets : EachInTurn [] ls told
  pub text : said ≡ x.meters.written (story_in_turn x.plays x.slots told)
  pub meters : x.meters.left (story_in_turn x.plays x.slots told)
  pub known : heading ≡ in_turn told
  pub sound : IsSaid (so_far (plain_told told))
  pub counted : count ≡ length ls
  pub first : 1 ≤ length (linked_in told) → (z : Sizes) × (sizes_in (plain_told told) ≡ Some z)
  pub driven : AreDriven carries frames sizes x.slots x.moves told exchange linked

-- a further line was read, and its effect is not processed yet: the heading has its content
pub record HasRead {P E : Type 0} (carries : Carrying E) (frames : E → ℕ) (sizes : E → Dimensions) (x : Course) (heading : LinkSoFar) (count : ℕ)
    (exchange : Option (LoneExchange P E)) (linked : Option (LinkedExchange P E)) (ls : List (List ℕ)) (line said : List ℕ) (hap : LinkHappening) : Type 0 where
  pub before : LinkSoFar
  pub handled : HasHandled carries frames sizes x before count exchange linked ls said
  pub short : length line ≤ 65535
  pub few : count < 4294967294
  pub read : IsInTurnRead line_limits before line hap heading

-- a further line ends a segment: it has no effect but to be counted
pub record OnlyCounts (heading : LinkSoFar) (count : ℕ) (line : List ℕ) : Type 0 where
  pub short : length line ≤ 65535
  pub few : count < 4294967294
  pub read : IsInTurnRead line_limits heading line (effect.Plain happening.SegmentEnd) heading

-- the engine of an exchange after these lines
pub record IsEngineAfter {P E : Type 0} (carries : Carrying E) (frames : E → ℕ) (sizes : E → Dimensions) (slots : ℕ) (moves : ℕ → ℕ) (ls : List (List ℕ))
    (exchange : Option (LoneExchange P E)) (linked : Option (LinkedExchange P E)) : Type 0 where
  pub told : List Content
  pub meets : EachInTurn [] ls told
  pub driver : LoneExchange P E
  pub is : exchange_of exchange linked ≡ Some driver
  pub header : Sizes
  pub given : sizes_in (plain_told told) ≡ Some header
  pub carried : let w = world_in_turn slots header told in carries driver.engine w.inputs w.held w.seated
  pub sized : sizes driver.engine ≡ (setting_in_turn slots header told).dimensions

-- all lines were processed, and there is an exchange
pub record HasFinished {P E : Type 0} (carries : Carrying E) (frames : E → ℕ) (sizes : E → Dimensions) (x : Course)
    (exchange : Option (LoneExchange P E)) (linked : Option (LinkedExchange P E)) (ls : List (List ℕ)) (said : List ℕ) : Type 0 where
  pub whole : IsWhole x ls said
  pub engine : IsEngineAfter carries frames sizes x.slots x.moves ls exchange linked

-- the octets that are due for lines that an exchange follows, from the meters before the first line and the current
-- parts of the exchange
abbrev pub handler_dues : {M P E : Type 0} → (M → List CallRecord → Type 0) → (M → List CallRecord → List ℕ) → Carrying E → (E → ℕ) → (E → Dimensions)
    → Plays → ℕ → (ℕ → ℕ) → (old old_spare on spare : List M) → LinkSoFar → ℕ → Option (LoneExchange P E) → Option (LinkedExchange P E) → Dues
handler_dues stands text carries frames sizes plays slots moves old old_spare on spare heading count exchange linked = record {
  answers = HasHandled carries frames sizes (course plays slots moves stands text old old_spare on spare) heading count exchange linked;
  refuses = IsLineRefused (course plays slots moves stands text old old_spare on spare);
  strands = IsInterrupted (course plays slots moves stands text old old_spare on spare);
  ends = HasFinished carries frames sizes (course plays slots moves stands text old old_spare on spare) exchange linked;
  refuses_end = IsEndRefused (course plays slots moves stands text old old_spare on spare);
}

-- the engine that a call returns, by its ending
abbrev pub engine_returned : {E : Type 0} → Following → Option E → Option E
engine_returned followed.Completed engine = engine
engine_returned followed.Refused engine = None
engine_returned followed.ReadFailed engine = None
engine_returned followed.WriteFailed engine = None
engine_returned followed.OutOfMemory engine = None
