-- The progress of a run, its output, the records of its meters, and the engine. Source: this project.
use Rattle.std.specs.Prelude.{◌≡◌, ◌⊎◌, ⊤, ℕ, List, None, [], ◌++◌, All, IfSome}
use Rattle.std.specs.Io.KnownBytes.{Appends}
use Rattle.std.specs.declared.alloc.Global.{Global}
use Rattle.std.specs.declared.collections.VecDeque.{VecDeque}
use Rattle.std.specs.declared.dyn_box.DynBox.{DynBox}
use Rattle.std.specs.declared.option.Option.{Option}
use Rattle.std.specs.declared.vec.Vec.{Vec}
use Rattle.exchange_events.specs.declared.record.CallRecord.{CallRecord}
use Rattle.exchange_events.specs.declared.reply.Reply.{Reply}
use Rattle.exchange_events.specs.declared.reply.Reply.TheVariants.{Granted, Busy, Seated, NoPort, Freed, NotNailed, Sent as Sent_reply, Frame as Frame_reply}
use Rattle.exchange_events.specs.declared.trace.Trace.{Trace}
use Rattle.exchange_events.specs.Orders.{IsLawful, IsLawfulPrefix}
use Rattle.exchange_events.specs.Sizes.{Dimensions}
use Rattle.exchange_events.specs.Sound.{setting_of}
use Rattle.exchange_core.specs.Working.{world_after}
use Rattle.call_profile.specs.Step.{run, events_of, MovesAtMost}
use Rattle.call_profile.specs.World.{World, start}
use Rattle.segment_run.specs.Segment.{IsOfSegment}
use Rattle.segment_run.specs.Segments.{IsDoneBelow}
use Rattle.call_processor.specs.Frames.{Plays}
use Rattle.report_lines.specs.declared.listing.Listing.{Listing}
use Rattle.meters.specs.Changing.{Step, lines_of, records_of}
use Rattle.call_processor.specs.Borrowed.{Borrowed}
use Rattle.ex_io.specs.declared.ends.Sink.{Ghosts as SinkMembers}
use Rattle.ex_io.specs.declared.ends.Source.{Ghosts as SourceMembers}
use Rattle.frame_engine.specs.declared.carrier.Carrier.{Ghosts as CarrierMembers}
use Rattle.exchange_run.specs.declared.call.CallEnd.{CallEnd}
use Rattle.exchange_run.specs.declared.call.Outcome.{Outcome}
use Rattle.run_verifier.specs.declared.ending.Ending.{Ending}
use Rattle.run_verifier.specs.declared.ending.Ending.TheVariants as ended
use Rattle.exchange_run.specs.declared.call_context.Metering.{Metering}
use Rattle.linked_exchange.specs.Story.{story}
use Rattle.ex_io.specs.Streams.{HasFailed, IsWritten, IsWrittenInPart, Stream, stream}
use Rattle.linked_exchange.specs.Parties.{AreLeft, HandsOut, MeterStory}
use Rattle.linked_exchange.specs.Telling.{AreTold}
use Rattle.exchange_run.specs.Telling.{metered, metered_together}
use Rattle.call_profile.specs.CallsTold.{calls_told}

-- the fabric for a trace: the number of internal slots, and the maximum number of live paths that a new path moves
pub record Fabric : Type 0 where
  pub slots : ℕ
  pub max_moves : ℕ

-- in a run of these events no new path moved more than n live paths
abbrev pub MovesFew : Fabric → Trace → List ℕ → Type 0
MovesFew fabric trace order = let s = setting_of fabric.slots trace in All (MovesAtMost fabric.max_moves) (run s (start s.dimensions) (events_of trace.events order))

-- an answer reports no moved path in either direction
abbrev pub TellsNoMoves : Reply → Type 0
TellsNoMoves (Granted a b) = (a ≡ 0) × (b ≡ 0)
TellsNoMoves Busy = ⊤
TellsNoMoves (Seated a b) = (a ≡ 0) × (b ≡ 0)
TellsNoMoves NoPort = ⊤
TellsNoMoves Freed = ⊤
TellsNoMoves NotNailed = ⊤
TellsNoMoves (Sent_reply sends moved records) = IfSome moved (λ moves. (moves.0 ≡ 0) × (moves.1 ≡ 0))
TellsNoMoves (Frame_reply k sends records) = ⊤

-- in a run of these events no answer reports a moved path
abbrev pub MovesNone : Fabric → Trace → List ℕ → Type 0
MovesNone fabric trace order = let s = setting_of fabric.slots trace in All TellsNoMoves (run s (start s.dimensions) (events_of trace.events order))

-- the meters at the end of the story: each recorded the calls that ended, and the spare ones are unchanged
abbrev pub NotesAll : {M : Type 0} → (M → List CallRecord → Type 0) → (M → List CallRecord → List ℕ) → Plays → Listing → ℕ → Trace → List ℕ → Type 0
NotesAll {M} stands text plays l slots trace order =
    (old spare new new_spare : List M) → AreLeft stands text old spare new new_spare (story plays l slots trace order) → AreTold stands text old new (calls_told slots trace order) × (new_spare ≡ spare)

-- ---- the parts that every ending has in common

-- a source that a call borrows, and a sink
abbrev pub input : {S : Type 0} → SourceMembers S → Borrowed S → Stream
input members source = stream members.left members.faults source.entry.now source.exit.now

abbrev pub output : {K : Type 0} → SinkMembers K → Borrowed K → Stream
output members sink = stream members.written members.faults sink.entry.now sink.exit.now

-- the parts that every ending has in common: the engine's output, the returned engine or its absence, the meters, the
-- order of the processed events, and the written bytes
pub record Parties : Type 1 where
  pub plays : Plays
  pub handed : Dimensions → World → Type 0
  pub no_engine : Type 0
  pub meters : MeterStory
  pub order : List ℕ
  pub output : Stream

-- the parties with an engine, which may be returned, the processed events, the meters and the output
abbrev pub parties : {E : Type 0} → CarrierMembers E → Option E → List ℕ → MeterStory → Stream → Parties
parties members engine order meters output = record {
  plays = members.plays;
  handed = HandsOut members.sizes members.carries engine;
  no_engine = engine ≡ None;
  meters = meters;
  order = order;
  output = output;
}

-- a part of a call: its parties and its ending
pub record Part : Type 1 where
  pub parties : Parties
  pub ending : Ending

-- the part of a call that ended so, with its sink and its meters
abbrev pub part : {E K V : Type 0} {F : V → Type 0} → CarrierMembers E → CallEnd E → SinkMembers K → Borrowed K
    → (DynBox V Global F → List CallRecord → Type 0) → (DynBox V Global F → List CallRecord → List ℕ) → Borrowed (Metering V F) → Part
part carrier ended members sink stands text metering = record {
  parties = parties carrier ended.engine ended.order.items (metered_together stands text metering) (output members sink);
  ending = ended.ending;
}

-- a whole call: its parties and its status
pub record Whole : Type 1 where
  pub parties : Parties
  pub status : ℕ

-- the whole call with this outcome, with its sink and its active and spare meters
abbrev pub whole : {M E K : Type 0} → CarrierMembers E → Outcome E → SinkMembers K → Borrowed K
    → (M → List CallRecord → Type 0) → (M → List CallRecord → List ℕ) → Borrowed (Vec M Global) → Borrowed (VecDeque M Global) → Whole
whole carrier outcome members sink stands text meters spare = record {
  parties = parties carrier outcome.engine outcome.order.items (metered stands text meters spare) (output members sink);
  status = outcome.status;
}

-- no event was processed, no meter was changed or recorded a call, and no engine is returned
pub record IsIdle (x : Parties) : Type 0 where
  pub order : x.order ≡ []
  pub meters : x.meters.left []
  pub engine : x.no_engine

-- ---- the progress of a run

-- every event of the trace was processed, in a lawful order; no new path moved more live paths than the fabric allows;
-- and the meters are the result of the run's story, each with the calls of its active period
pub record IsRunWhole (x : Parties) (l : Listing) (fabric : Fabric) (trace : Trace) : Type 0 where
  pub lawful : IsLawful trace x.order
  pub few : MovesFew fabric trace x.order
  pub meters : x.meters.left (story x.plays l fabric.slots trace x.order)

-- the returned engine has the size of the trace's exchange over this fabric, and carries the frames of the run
abbrev pub IsHandedOut : Parties → Fabric → Trace → Type 0
IsHandedOut x fabric trace = x.handed (setting_of fabric.slots trace).dimensions (world_after fabric.slots trace x.order)

-- the whole trace was run, its text was written, and the engine is returned
pub record IsRunWritten (x : Parties) (l : Listing) (fabric : Fabric) (trace : Trace) : Type 0 where
  pub whole : IsRunWhole x l fabric trace
  pub text : IsWritten x.output (x.meters.written (story x.plays l fabric.slots trace x.order))
  pub engine : IsHandedOut x fabric trace

-- A write failed after the first segments and the changes there: the order has all their events, a prefix of their text
-- was written, and the meters are the result of their story.
pub record IsRunUnwritten (x : Parties) (l : Listing) (slots : ℕ) (trace : Trace) : Type 0 where
  pub segments : ℕ
  pub done : IsDoneBelow trace segments x.order
  pub text : IsWrittenInPart x.output (x.meters.written (story x.plays l slots trace x.order))
  pub meters : x.meters.left (story x.plays l slots trace x.order)
  pub engine : x.no_engine

-- there are no steps, or they are the story of the first few segments of an order, with the changes after them
pub data AreOfSegments (plays : Plays) (l : Listing) (slots : ℕ) (trace : Trace) (order : List ℕ) (steps : List Step) : Type 0 where
  No_segments : steps ≡ [] → AreOfSegments plays l slots trace order steps
  Some_segments : (segments : ℕ) (first others : List ℕ) → order ≡ first ++ others → IsDoneBelow trace segments first → steps ≡ story plays l slots trace first
      → AreOfSegments plays l slots trace order steps

-- An allocation failed after the first segments: the order has all their events, and perhaps a lawful prefix of the
-- next segment. Its story has three parts. Exactly the text of `front` was written: it is the story of the first few of
-- these segments, or empty. The meters are the result of `front` and the steps after it, `more`, of which only lines of
-- events were not written. So a meter whose text was written has been removed, and no meter was removed whose text was
-- not written. The meters recorded all calls that ended in the first segments, and a prefix of those in the other
-- steps.
pub record IsRunInterrupted (x : Parties) (l : Listing) (slots : ℕ) (trace : Trace) : Type 0 where
  pub lawful : IsLawfulPrefix trace x.order
  pub segments : ℕ
  pub whole : List ℕ
  pub rest : List ℕ
  pub parts : x.order ≡ whole ++ rest
  pub done : IsDoneBelow trace segments whole
  pub next : All (IsOfSegment trace segments) rest
  pub front : List Step
  pub more : List Step
  pub others : List Step
  pub steps : story x.plays l slots trace x.order ≡ (front ++ more) ++ others
  pub ends : AreOfSegments x.plays l slots trace whole front
  pub text : IsWritten x.output (x.meters.written front)
  pub unwritten : x.meters.written (front ++ more) ≡ x.meters.written front ++ lines_of more
  pub noted : List CallRecord
  pub calls : records_of (front ++ more) ≡ calls_told slots trace whole ++ noted
  pub meters : x.meters.left_beyond (front ++ more) (records_of others)
  pub engine : x.no_engine

-- the ending of a run of a trace on this fabric, with this listing
abbrev pub Runs : Parties → Fabric → Listing → Trace → Ending → Type 0
Runs x f l t ended.Completed = IsRunWritten x l f t
Runs x f l t (ended.Refused line reason) = ⊥
Runs x f l t ended.WrongArguments = ⊥
Runs x f l t ended.ReadFailed = ⊥
Runs x f l t ended.WriteFailed = HasFailed x.output × IsRunUnwritten x l f.slots t
Runs x f l t ended.OutOfMemory = IsRunInterrupted x l f.slots t
Runs x f l t (ended.Invalid line) = ⊥

-- the ending of a write of a summary: it was written and the engine is passed on, or a prefix of it was written and no
-- engine is, or nothing was
abbrev pub SumsUp : {E : Type 0} → Stream → List ℕ → (given handed : Option E) → Ending → Type 0
SumsUp output text given handed ended.Completed = IsWritten output text × (handed ≡ given)
SumsUp output text given handed (ended.Refused line reason) = ⊥
SumsUp output text given handed ended.WrongArguments = ⊥
SumsUp output text given handed ended.ReadFailed = ⊥
SumsUp output text given handed ended.WriteFailed = HasFailed output × IsWrittenInPart output text × (handed ≡ None)
SumsUp output text given handed ended.OutOfMemory = IsWritten output [] × (handed ≡ None)
SumsUp output text given handed (ended.Invalid line) = ⊥

-- the pending text is unchanged and meters added nothing to it, or all of it was written
abbrev pub IsFlushed : (old new : Option (List ℕ)) → (pending left said : List ℕ) → Type 0
IsFlushed old new pending left said = ((new ≡ old) × (left ≡ pending) × (said ≡ [])) ⊎ (Appends old new pending × (left ≡ []))
