-- The endings of lines that are followed, by other words for what is due.
use Rattle.std.proofs.Common.{ℕ, List, Option, refl, sym, subst}
use Rattle.circuit_model.specs.Dimensions.{Dimensions}
use Rattle.circuit_model.specs.Hears.{Plays}
use Rattle.exchange_events.specs.declared.record.CallRecord.{CallRecord}
use Rattle.std.specs.Option.{option_map}
use Rattle.meters.specs.Changing.{handed_in, steps_text}
use Rattle.linked_exchange.specs.declared.exchange.LinkedExchange.{LinkedExchange}
use Rattle.linked_text.specs.LinkLines.{LinkSoFar}
use Rattle.linked_exchange.specs.InTurn.{setting_in_turn, world_in_turn}
use Rattle.lone_exchange.specs.declared.exchange.LoneExchange.{LoneExchange}
use Rattle.lone_exchange.specs.At.{Carrying}
use Rattle.exchange_follow.specs.Following.{AreAnswered, FollowsTo, HasReturned, HaveMovedFew, IsAnswered, IsEngineOf, course, dues_of, follow_parties}
use Rattle.exchange_follow.specs.Handling.{HasHandled, IsEngineAfter, engine_returned, exchange_of, handler_dues}
use Rattle.linked_exchange.specs.Parties.{HandsOut}
use Rattle.exchange_follow.proofs.Handled.{few_handled}
use Rattle.line_wire.specs.Following.{Dues, HasFollowed, IsSettled}
use Rattle.line_wire.specs.declared.following.Following.{Following}
use Rattle.line_wire.specs.declared.following.Following.TheVariants as ended
use Rattle.line_wire.proofs.Endings.{IsToo, followed_too, settled_too}

-- ---- a handler of a trace

module _ {M P E : Type 0} (stands : M → List CallRecord → Type 0) (text : M → List CallRecord → List ℕ) (carries : Carrying E) (frames : E → ℕ) (sizes : E → Dimensions)
    (plays : Plays) (slots : ℕ) (moves : ℕ → ℕ) (old old_spare on spare : List M) (heading : LinkSoFar) (count : ℕ) (exchange : Option (LoneExchange P E)) (linked : Option (LinkedExchange P E)) where
  abbrev mine : Dues
  mine = handler_dues stands text carries frames sizes plays slots moves old old_spare on spare heading count exchange linked

  -- each new path of these lines moved few live paths
  few : (ls : List (List ℕ)) (said : List ℕ) (h : HasHandled carries frames sizes (course plays slots moves stands text old old_spare on spare) heading count exchange linked ls said)
      → HaveMovedFew slots moves h.told
  few ls said h = few_handled stands text carries frames sizes plays slots moves old old_spare on spare heading count exchange linked ls said h

  handler_too : IsToo mine (dues_of (course plays slots moves stands text old old_spare on spare))
  handler_too = record {
    answers = λ ls said h. record { told = h.told; meets = h.meets; few = few ls said h; text = h.text; meters = h.meters };
    refuses = λ ls said due. due;
    strands = λ ls said due. due;
    ends = λ ls said f. f.whole;
    refuses_end = λ ls said due. due;
  }

  pub answered : (heard said : List ℕ) → IsSettled (HasHandled carries frames sizes (course plays slots moves stands text old old_spare on spare) heading count exchange linked) heard said
      → IsAnswered plays slots moves (λ steps. steps_text text steps (handed_in old old_spare)) heard said
  answered heard said settled =
      settled_too (HasHandled carries frames sizes (course plays slots moves stands text old old_spare on spare) heading count exchange linked) (AreAnswered plays slots moves (λ steps. steps_text text steps (handed_in old old_spare)))
      (λ ls s h. record { told = h.told; meets = h.meets; few = few ls s h; text = h.text }) heard said settled

  engine_after : (ls : List (List ℕ)) → IsEngineAfter carries frames sizes slots moves ls exchange linked
      → IsEngineOf (follow_parties plays slots moves sizes carries (option_map (λ (x : LoneExchange P E). x.engine) (exchange_of exchange linked)) stands text old old_spare on spare) ls
  engine_after ls a = record {
    told = a.told;
    meets = a.meets;
    sizes = a.header;
    header = a.given;
    engine = subst (λ (o : Option (LoneExchange P E)). HandsOut sizes carries (option_map (λ (x : LoneExchange P E). x.engine) o) (setting_in_turn slots a.header a.told).dimensions (world_in_turn slots a.header a.told))
        (sym a.is) (a.sized, a.carried);
  }

  returned : (over : Type 0) (ending : Following) (heard said : List ℕ) → HasFollowed over ending mine heard said
      → HasReturned (follow_parties plays slots moves sizes carries (engine_returned ending (option_map (λ (x : LoneExchange P E). x.engine) (exchange_of exchange linked))) stands text old old_spare on spare) ending heard
  returned over ended.Completed heard said due = engine_after _ due.1.engine
  returned over ended.Refused heard said due = refl
  returned over ended.ReadFailed heard said due = refl
  returned over ended.WriteFailed heard said due = refl
  returned over ended.OutOfMemory heard said due = refl

  pub follows_to : (stood : List ℕ → List ℕ → Type 0) (over : Type 0) (ending : Following) (heard said : List ℕ) → stood heard said
      → HasFollowed over ending mine heard said
      → FollowsTo (follow_parties plays slots moves sizes carries (engine_returned ending (option_map (λ (x : LoneExchange P E). x.engine) (exchange_of exchange linked))) stands text old old_spare on spare) stood over ending
  follows_to stood over ending heard said stands_so due = record {
    heard = heard;
    said = said;
    stood = stands_so;
    due = followed_too over over (λ has. has) mine (dues_of (course plays slots moves stands text old old_spare on spare)) handler_too ending heard said due;
    engine = returned over ending heard said due;
  }
