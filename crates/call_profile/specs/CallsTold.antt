-- The calls that end in a run, which meters record. Source: this project.
use Rattle.std.specs.Prelude.{ℕ, List, [], ◌∷◌, ◌++◌}
use Rattle.exchange_events.specs.declared.answer.Kept.{Kept}
use Rattle.exchange_events.specs.declared.answer.Kept.TheVariants as k
use Rattle.exchange_events.specs.declared.record.CallRecord.{CallRecord}
use Rattle.exchange_events.specs.declared.reply.Reply.{Reply}
use Rattle.exchange_events.specs.declared.trace.Trace.{Trace}
use Rattle.exchange_events.specs.Kept.{kept_of}
use Rattle.exchange_events.specs.Sound.{setting_of}
use Rattle.call_profile.specs.Step.{run, events_of}
use Rattle.call_profile.specs.World.{start}

-- the calls that ended with a stored reply
abbrev pub calls_kept : Kept → List CallRecord
calls_kept (k.Granted a b) = []
calls_kept k.Busy = []
calls_kept (k.Seated a b) = []
calls_kept k.NoPort = []
calls_kept k.Freed = []
calls_kept k.NotNailed = []
calls_kept (k.Sent sends moved records) = records
calls_kept (k.Frame number sends records) = records

-- the calls of these replies, in order
abbrev pub calls_ended : List Reply → List CallRecord
calls_ended [] = []
calls_ended (r ∷ replies) = calls_kept (kept_of r) ++ calls_ended replies

-- the records of the calls that end in a run of a trace whose events are processed in this order
abbrev pub calls_told : ℕ → Trace → List ℕ → List CallRecord
calls_told slots trace order = let s = setting_of slots trace in calls_ended (run s (start s.dimensions) (events_of trace.events order))
