-- What call control knows of the data links. Source: this project.
use Rattle.std.specs.Prelude.{◌≡◌, ◌≢◌, ◌⊎◌, ◌≤◌, ◌||◌, not, Bool, true, false, ℕ, List, length, All, slice_index_or}
use Rattle.exchange_events.specs.declared.trace.Event.{Event}
use Rattle.exchange_events.specs.declared.trace.Event.TheVariants.{LinkUp, LinkDown}
use Rattle.exchange_events.specs.Sizes.{Setting}
use Rattle.call_profile.specs.Legs.{is_down}
use Rattle.call_laws.specs.Outages.{down_after_all}
use Rattle.link_procedures.specs.declared.state.LinkTimers.{LinkTimers}
use Rattle.link_procedures.specs.Links.{DataLink, is_awaiting, is_up}
use Rattle.link_table.specs.Tables.{IsLinkOf}
use Rattle.linked_exchange.specs.Steps.{Joint, LinkedInput, Happens, derived, next_joint}
use Rattle.linked_exchange.specs.Runs.{FitsLinked}

-- layer 3 takes the link for up: it is up, or it has lost messages of which layer 3 is not informed yet
abbrev pub is_taken_for_up : DataLink → Bool
is_taken_for_up l = is_up l || l.owed

-- a link that has lost messages of which layer 3 is not informed yet is in state 5, layer 3 initiated
abbrev pub Owes : DataLink → Type 0
Owes l = l.owed ≡ true → (is_awaiting l.state ≡ true) × (l.asked ≡ true)

-- the line begins with a data link
abbrev pub BeginsLinked : List Bool → ℕ → Type 0
BeginsLinked linked line = slice_index_or linked line false ≡ true

-- the event is not a change of the data link of the line
abbrev pub LeavesLink : ℕ → Event → Type 0
LeavesLink line (LinkUp other) = other ≢ line
LeavesLink line (LinkDown other) = other ≢ line
LeavesLink line _ = Unit {0}

-- only the link itself changes the data link of the line
abbrev pub LeavesLinkIn : ℕ → LinkedInput → Type 0
LeavesLinkIn line (Happens e) = LeavesLink line e
LeavesLinkIn line _ = Unit {0}

-- inputs of an exchange whose line begins with a data link
pub record AreInputs (s : Setting) (linked : List Bool) (line : ℕ) (is : List LinkedInput) : Type 0 where
  pub lines : length linked ≤ s.dimensions.external
  pub fit : All (FitsLinked s.dimensions.external) is
  pub linked_line : BeginsLinked linked line
  pub leave : All (LeavesLinkIn line) is

-- the line is down for call control if and only if layer 3 does not take its link for up
abbrev pub LayersAgree : ℕ → Joint → Type 0
LayersAgree line j = (l : DataLink) → IsLinkOf j.links.links line l → is_down j.world.legs line ≡ not (is_up l || l.owed)

-- the link of the line owes an indication only if it is not up
abbrev pub OwesIfDown : ℕ → Joint → Type 0
OwesIfDown line j = (l : DataLink) → IsLinkOf j.links.links line l → l.owed ≡ true → is_up l ≡ false

-- the link of the line still owes the indication of a loss
abbrev pub OwesStill : ℕ → Joint → Type 0
OwesStill line j = (l : DataLink) → IsLinkOf j.links.links line l → l.owed ≡ true

-- a step of a line whose link owes the indication of a loss: no event of it puts the line up; it puts the line down, or the link still owes
abbrev pub ReleasesFirst : Setting → LinkTimers → ℕ → Joint → Type 0
ReleasesFirst s timers line j = (l : DataLink) (i : LinkedInput) → IsLinkOf j.links.links line l → l.owed ≡ true → LeavesLinkIn line i
    → (down_after_all line true (derived timers j i) ≡ true)
    × ((down_after_all line false (derived timers j i) ≡ true) ⊎ OwesStill line (next_joint s timers j i))
