-- An event that is no frame is done without a tool.
use Rattle.std.proofs.Common.{rules, ◌≡◌, ℕ, true, Option, Some, None, refl, sym, subst}
use Rattle.exchange_core.specs.declared.tool.Tool.{Tool}
use Rattle.exchange_core.specs.declared.tool.Tool.TheVariants.{Nothing, Image}
use Rattle.exchange_events.specs.declared.trace.Event.{Event}
use Rattle.exchange_events.specs.declared.trace.Event.TheVariants.{Nail, Seat, Free, Message, Frame, LinkUp, LinkDown, RestartLine}
use Rattle.exchange_events.specs.declared.trace.Trace.{Trace}
use Rattle.exchange_events.specs.Orders.{Processor, event_at, worker_of}
use Rattle.exchange_core.specs.Boards.{Board, IsToolAt, setting_at}
use Rattle.exchange_core.specs.Working.{IsToolFor}
use Rattle.exchange_events.specs.Sizes.{Dimensions}
use Rattle.call_processor.specs.Parts.{does, is_its, is_worker}

-- what a call processor does asks for no tool
none_asked : (d : Dimensions) (processors p : ℕ) (e : Event) → is_worker (worker_of processors e) (Processor p) ≡ true → IsToolFor d e Nothing
none_asked d q p (Frame input) its = absurd (cc)
none_asked d q p (Nail x y) its = search rules
none_asked d q p (Seat x room) its = search rules
none_asked d q p (Free x) its = search rules
none_asked d q p (Message line octets) its = search rules
none_asked d q p (LinkUp line) its = search rules
none_asked d q p (LinkDown line) its = search rules
none_asked d q p (RestartLine line) its = search rules

-- and none other serves for it
none_other : (d : Dimensions) (processors p : ℕ) (e : Event) (t : Tool) → is_worker (worker_of processors e) (Processor p) ≡ true → IsToolFor d e t → t ≡ Nothing
none_other d q p e Nothing its serves = refl
none_other d q p (Frame input) (Image image) its serves = absurd (cc)
none_other d q p (Nail x y) (Image image) its serves = absurd serves
none_other d q p (Seat x room) (Image image) its serves = absurd serves
none_other d q p (Free x) (Image image) its serves = absurd serves
none_other d q p (Message line octets) (Image image) its serves = absurd serves
none_other d q p (LinkUp line) (Image image) its serves = absurd serves
none_other d q p (LinkDown line) (Image image) its serves = absurd serves
none_other d q p (RestartLine line) (Image image) its serves = absurd serves

module _ (board : Board) (trace : Trace) (same : trace ≡ board.trace) (p n : ℕ) (its : is_its trace (Processor p) n ≡ true) where
  its_there : is_its board.trace (Processor p) n ≡ true
  its_there = subst (λ (t : Trace). is_its t (Processor p) n ≡ true) same its

  pub no_tool_asked : (t : Tool) → t ≡ Nothing → IsToolAt board n t
  no_tool_asked t none = λ e number.
      subst (IsToolFor (setting_at board).dimensions e) (sym none)
      (none_asked (setting_at board).dimensions board.trace.processors p e (subst (λ (o : Option Event). does board.trace.processors (Processor p) o ≡ true) number its_there))

  pub no_tool_left : (t : Tool) → IsToolAt board n t → t ≡ Nothing
  no_tool_left t serves = go (event_at board.trace.events n) refl its_there
    where
      go : (o : Option Event) → event_at board.trace.events n ≡ o → does board.trace.processors (Processor p) o ≡ true → t ≡ Nothing
      go None at done = absurd (cc)
      go (Some e) at done = none_other (setting_at board).dimensions board.trace.processors p e t done (serves e at)
