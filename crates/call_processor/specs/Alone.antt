-- A segment that seat 0 processes without other seats, in file order. Source: this project.
use Rattle.std.specs.Prelude.{◌≡◌, ℕ, Bool, IsTrue, List, [], ◌∷◌, ◌++◌}
use Rattle.circuit_model.specs.declared.circuit.Kind.{Kind}
use Rattle.seat_history.specs.declared.seat_knowledge.SeatKnowledge.{SeatKnowledge}
use Rattle.seat_history.specs.Seats.{HasJoinedAll, Settled}
use Rattle.exchange_core.specs.Boards.{Board, IsFrame}
use Rattle.call_processor.specs.Borrowed.{Borrowed}
use Rattle.call_processor.specs.declared.context.RunContext.{RunContext}
use Rattle.call_processor.specs.declared.worked.Placed.{Placed}
use Rattle.call_processor.specs.Frames.{HasFrame, Plays}
use Rattle.call_processor.specs.Keeping.{HasKept, KeepsWork, has_no_octets}
use Rattle.call_processor.specs.Work.{Did, entries_for}
use Rattle.tone_rules.specs.Tables.{table_of}
use Rattle.call_processor.specs.Parts.{events_of_segment}

-- it is seat 0, and all other seats are joined, so that no other seat can process an event
abbrev pub IsOnly : SeatKnowledge → Type 0
IsOnly v = (v.number ≡ 0) × HasJoinedAll v

-- from v to w the seat processed this event and no seat another: the history grew only by its entry, and the knowledge
-- of seat 0 adds up
pub record DidNext (turns : ℕ) (v : SeatKnowledge) (event : ℕ) (w : SeatKnowledge) : Type 0 where
  pub grew : w.seen ≡ v.seen ++ (v.number, event) ∷ []
  pub settled : Settled turns w

-- from v to w the seat processed a prefix of these events in this order, all of them if the part is whole, and no seat
-- another: the history grew only by their entries
pub record DidInOrder (events : List ℕ) (v : SeatKnowledge) (whole : Bool) (w : SeatKnowledge) : Type 0 where
  pub done : List ℕ
  pub first : (rest : List ℕ) × (events ≡ done ++ rest)
  pub did : Did v done w
  pub grew : w.seen ≡ v.seen ++ entries_for v.number done
  pub all : IsTrue whole → done ≡ events

-- an answer to a frame has the octets that the engine outputs in it, and no other answer has octets
abbrev pub HasOctets : Plays → (Kind → List ℕ) → Board → SeatKnowledge → Placed → Type 0
HasOctets plays tones board seat p = HasFrame plays tones board seat p × ((IsFrame board.trace p.answer.event → ⊥) → has_no_octets p)

-- the second sink holds these answers after the contents of the first
abbrev pub HoldsBehind : {K : Type 0} → (K → List Placed → Type 0) → K → K → List Placed → Type 0
HoldsBehind holds before after answers = (kept : List Placed) → holds before kept → holds after (kept ++ answers)

module _ {B G R S K : Type 0} (holds : K → List Placed → Type 0) (plays : Plays) (board : B → Board) (known : S → SeatKnowledge) where
  -- the seat processed the event and stored it, with the octets that the engine outputs if it is a frame
  abbrev pub KeepsNext : RunContext B G R → ℕ → Borrowed S → Borrowed K → Type 0
  KeepsNext cx event seat sink =
      HasKept holds (board cx.board.now) (known seat.exit.now) event (HasOctets plays (table_of cx.trace.now.tones) (board cx.board.now) (known seat.exit.now)) sink.entry.now sink.exit.now

  -- The seat processed a prefix of the segment's events in file order, and their answers follow the sink's earlier
  -- contents.
  abbrev pub KeepsSegment : RunContext B G R → (segment : ℕ) → Borrowed S → Borrowed K → Bool → Type 0
  KeepsSegment cx segment seat sink whole =
      KeepsWork (HoldsBehind holds sink.entry.now) (board cx.board.now) (HasOctets plays (table_of cx.trace.now.tones) (board cx.board.now)) (events_of_segment cx.trace.now segment) (known seat.entry.now)
      sink.exit.now whole (known seat.exit.now)
