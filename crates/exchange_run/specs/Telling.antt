-- The calls that the meters of a run record. Source: this project.
use Rattle.std.specs.Prelude.{ℕ, List, [], ◌∷◌, ◌++◌}
use Rattle.std.specs.declared.alloc.Global.{Global}
use Rattle.std.specs.declared.collections.VecDeque.{VecDeque}
use Rattle.std.specs.declared.dyn_box.DynBox.{DynBox}
use Rattle.std.specs.declared.vec.Vec.{Vec}
use Rattle.call_processor.specs.Borrowed.{Borrowed}
use Rattle.exchange_events.specs.declared.answer.Answer.{Answer}
use Rattle.exchange_events.specs.declared.record.CallRecord.{CallRecord}
use Rattle.call_profile.specs.CallsTold.{calls_kept}
use Rattle.exchange_run.specs.declared.call_context.Metering.{Metering as Meters}
use Rattle.linked_exchange.specs.Parties.{MeterStory, meter_story}

-- the calls of these answers, in order
abbrev pub calls_answered : List Answer → List CallRecord
calls_answered [] = []
calls_answered (a ∷ answers) = calls_kept a.reply ++ calls_answered answers

-- the story of the active and spare meters that a call borrows, apart or together
abbrev pub metered : {M : Type 0} → (M → List CallRecord → Type 0) → (M → List CallRecord → List ℕ) → Borrowed (Vec M Global) → Borrowed (VecDeque M Global) → MeterStory
metered stands text meters spare = meter_story stands text meters.entry.now.items spare.entry.now.items meters.exit.now.items spare.exit.now.items

abbrev pub metered_together : {V : Type 0} {F : V → Type 0} → (DynBox V Global F → List CallRecord → Type 0) → (DynBox V Global F → List CallRecord → List ℕ) → Borrowed (Meters V F) → MeterStory
metered_together stands text metering =
    meter_story stands text metering.entry.now.on.items metering.entry.now.spare.items metering.exit.now.on.items metering.exit.now.spare.items
