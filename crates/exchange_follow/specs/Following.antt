-- A trace whose lines are processed when they arrive: its story, and the ending of its call. Source: this project.
use Rattle.std.specs.Prelude.{◌≡◌, ℕ, ◌+◌, List, [], ◌∷◌, ◌++◌, length, Option, Some, None, Ok, Err}
use Rattle.circuit_model.specs.Hears.{Plays}
use Rattle.exchange_events.specs.declared.record.CallRecord.{CallRecord}
use Rattle.exchange_events.specs.Sizes.{Dimensions}
use Rattle.call_profile.specs.World.{World}
use Rattle.meters.specs.Changing.{Step, records_of}
use Rattle.trace_text.specs.declared.fault.Reason.{Reason}
use Rattle.trace_text.specs.declared.fault.Reason.TheVariants as reason
use Rattle.trace_text.specs.declared.said.Sizes.{Sizes}
use Rattle.trace_text.specs.TraceGrammar.{sizes_in}
use Rattle.trace_text.specs.TraceWords.{lines}
use Rattle.line_wire.specs.Following.{Dues, HasFollowed, IsSettled}
use Rattle.line_wire.specs.declared.following.Following.{Following}
use Rattle.line_wire.specs.declared.following.Following.TheVariants as followed
use Rattle.call_processor.specs.Frames.{Carrying}
use Rattle.linked_exchange.specs.Parties.{HandsOut, MeterStory, meter_story}
use Rattle.run_verifier.specs.Refusals.{refusal}
use Rattle.linked_text.specs.LinkEffects.{plain_told}
use Rattle.linked_text.specs.LinkLines.{Content}
use Rattle.linked_exchange.specs.InTurn.{EachInTurn, MovesFewInTurn, follows_in_turn, setting_in_turn, story_in_turn, world_in_turn}
pub use Rattle.linked_exchange.specs.Told.{max_lines, follows, EachFollows, setting_said, world_said, MovesFewIn, MovesFewSaid, steps_said, story_by, story_said}

-- ---- the facts about lines that were followed

-- the parameters of the story of lines: the output of an engine, the number of internal slots of the fabric, the maximum
-- number of live paths that a new path moves on a fabric of n lines, and the meters before and after
pub record Course : Type 1 where
  pub plays : Plays
  pub slots : ℕ
  pub moves : ℕ → ℕ
  pub meters : MeterStory

-- the parameters of a story with these meters, by the definitions of their type
abbrev pub course : {M : Type 0} → Plays → ℕ → (ℕ → ℕ) → (M → List CallRecord → Type 0) → (M → List CallRecord → List ℕ) → (old spare new new_spare : List M) → Course
course plays slots moves stands text old spare new new_spare = record { plays = plays; slots = slots; moves = moves; meters = meter_story stands text old spare new new_spare }

-- each new path of these lines moved few live paths; before the header there is no path
abbrev pub HaveMovedFew : ℕ → (ℕ → ℕ) → List Content → Type 0
HaveMovedFew slots moves told =
    (sizes : Sizes) → sizes_in (plain_told told) ≡ Some sizes → MovesFewInTurn slots moves sizes told

-- the octets that are due for these lines are the text of their story, in which each new path moved few live paths
pub record AreAnswered (plays : Plays) (slots : ℕ) (moves : ℕ → ℕ) (written : List Step → List ℕ) (ls : List (List ℕ)) (said : List ℕ) : Type 0 where
  pub told : List Content
  pub meets : EachInTurn [] ls told
  pub few : HaveMovedFew slots moves told
  pub text : said ≡ written (story_in_turn plays slots told)

-- all whole lines of an input were processed, and exactly the text of their story was written
abbrev pub IsAnswered : Plays → ℕ → (ℕ → ℕ) → (List Step → List ℕ) → (heard said : List ℕ) → Type 0
IsAnswered plays slots moves written heard said = IsSettled (AreAnswered plays slots moves written) heard said

-- these lines were processed: the text of their story is due, each new path moved few live paths, and the meters are
-- the result of the story
pub record AreProcessed (x : Course) (ls : List (List ℕ)) (said : List ℕ) : Type 0 where
  pub told : List Content
  pub meets : EachInTurn [] ls told
  pub few : HaveMovedFew x.slots x.moves told
  pub text : said ≡ x.meters.written (story_in_turn x.plays x.slots told)
  pub meters : x.meters.left (story_in_turn x.plays x.slots told)

-- these lines were processed, the header is among them, and each new path moved few live paths
pub record IsWhole (x : Course) (ls : List (List ℕ)) (said : List ℕ) : Type 0 where
  pub told : List Content
  pub meets : EachInTurn [] ls told
  pub sizes : Sizes
  pub header : sizes_in (plain_told told) ≡ Some sizes
  pub few : MovesFewInTurn x.slots x.moves sizes told
  pub text : said ≡ x.meters.written (story_in_turn x.plays x.slots told)
  pub meters : x.meters.left (story_in_turn x.plays x.slots told)

-- the last of these lines is the first that is refused: its refusal is due after the text of the lines before it, and
-- each new path of these moved few live paths
pub record IsLineRefused (x : Course) (ls : List (List ℕ)) (said : List ℕ) : Type 0 where
  pub before : List (List ℕ)
  pub line : List ℕ
  pub told : List Content
  pub why : Reason
  pub parts : ls ≡ before ++ line ∷ []
  pub meets : EachInTurn [] before told
  pub few : HaveMovedFew x.slots x.moves told
  pub fails : follows_in_turn told line ≡ Err why
  pub text : said ≡ x.meters.written (story_in_turn x.plays x.slots told) ++ refusal (length ls) why
  pub meters : x.meters.left (story_in_turn x.plays x.slots told)

-- no line is refused, and there is no header: the refusal is at the line after the last
pub record IsEndRefused (x : Course) (ls : List (List ℕ)) (said : List ℕ) : Type 0 where
  pub told : List Content
  pub meets : EachInTurn [] ls told
  pub none : sizes_in (plain_told told) ≡ None
  pub text : said ≡ refusal (length ls + 1) reason.Header
  pub meters : x.meters.left []

-- the steps of the lines that remain of an interrupted input: no line remains, or its content could not be stored, or
-- its content has these steps
pub data IsNext (x : Course) (told : List Content) : List (List ℕ) → List Step → Type 0 where
  No_line : IsNext x told [] []
  Unread : (line : List ℕ) → IsNext x told (line ∷ []) []
  Read : (line : List ℕ) (content : Content) (others : List Step) → follows_in_turn told line ≡ Ok content
      → story_in_turn x.plays x.slots (told ++ content ∷ []) ≡ story_in_turn x.plays x.slots told ++ others → IsNext x told (line ∷ []) others

-- An allocation failed after these lines, or in the last of them. The text of the lines before it is due, and each new
-- path of these moved few live paths. The meters are the result of their story, and may have recorded a prefix of the
-- calls that ended in the last line.
pub record IsInterrupted (x : Course) (ls : List (List ℕ)) (said : List ℕ) : Type 0 where
  pub before : List (List ℕ)
  pub rest : List (List ℕ)
  pub told : List Content
  pub others : List Step
  pub parts : ls ≡ before ++ rest
  pub meets : EachInTurn [] before told
  pub few : HaveMovedFew x.slots x.moves told
  pub next : IsNext x told rest others
  pub text : said ≡ x.meters.written (story_in_turn x.plays x.slots told)
  pub meters : x.meters.left_beyond (story_in_turn x.plays x.slots told) (records_of others)

-- ---- the ending of the call

-- the octets that are due for lines, by the way in which they end
abbrev pub dues_of : Course → Dues
dues_of x = record {
  answers = AreProcessed x;
  refuses = IsLineRefused x;
  strands = IsInterrupted x;
  ends = IsWhole x;
  refuses_end = IsEndRefused x;
}

-- the parameters that all endings share: the parameters of the story, the engine that is returned, and its absence
pub record FollowParties : Type 1 where
  pub course : Course
  pub handed : Dimensions → World → Type 0
  pub no_engine : Type 0

-- the parameters of a call, by the definitions of its engine and of its meters
abbrev pub follow_parties : {M E : Type 0} → Plays → ℕ → (ℕ → ℕ) → (E → Dimensions) → Carrying E → Option E → (M → List CallRecord → Type 0) → (M → List CallRecord → List ℕ)
    → (old spare new new_spare : List M) → FollowParties
follow_parties plays slots moves sizes carries engine stands text old spare new new_spare = record {
  course = course plays slots moves stands text old spare new new_spare;
  handed = HandsOut sizes carries engine;
  no_engine = engine ≡ None;
}

-- the returned engine has the size of the exchange, and carries the frames of these lines
pub record IsEngineOf (x : FollowParties) (ls : List (List ℕ)) : Type 0 where
  pub told : List Content
  pub meets : EachInTurn [] ls told
  pub sizes : Sizes
  pub header : sizes_in (plain_told told) ≡ Some sizes
  pub engine : x.handed (setting_in_turn x.course.slots sizes told).dimensions (world_in_turn x.course.slots sizes told)

-- the engine that a call returns: the engine of all lines if they were all processed, and otherwise none
abbrev pub HasReturned : FollowParties → Following → List ℕ → Type 0
HasReturned x followed.Completed heard = IsEngineOf x (lines heard)
HasReturned x followed.Refused heard = x.no_engine
HasReturned x followed.ReadFailed heard = x.no_engine
HasReturned x followed.WriteFailed heard = x.no_engine
HasReturned x followed.OutOfMemory heard = x.no_engine

-- The octets that were read and written, by the ending. The definition `HasFollowed` has a case for each ending. The
-- end of the input was processed only if the input has ended. A line without its line feed was processed only then, or
-- if it is too long.
pub record FollowsTo (x : FollowParties) (stands : List ℕ → List ℕ → Type 0) (ended : Type 0) (ending : Following) : Type 0 where
  pub heard : List ℕ
  pub said : List ℕ
  pub stood : stands heard said
  pub due : HasFollowed ended ending (dues_of x.course) heard said
  pub engine : HasReturned x ending heard
