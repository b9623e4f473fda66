-- An event of a trace that is followed: the exchange before it, and what it needs.
use Rattle.linked_exchange.proofs.Runs.{run-append}
use Rattle.std.proofs.lemmas.List.Elements.{All-append, All-cons, All-nil}
use Rattle.std.proofs.Common.{◌≡◌, ℕ, ◌+◌, ◌<◌, List, [], ◌∷◌, ◌++◌, Option, Some, None, Result, Ok, Err, OnOk, OnErr, true, false, refl, sym, ap, ◌∙◌, subst, arith}
use Rattle.std.specs.Prelude.{All, IsErrOf, is_some}
use Rattle.exchange_events.specs.declared.record.CallRecord.{CallRecord}
use Rattle.meters.proofs.Told.{told_front-all}
use Rattle.meters.proofs.Zips.{zip-weaker}
use Rattle.circuit_model.specs.Dimensions.{Dimensions}
use Rattle.circuit_model.specs.Hears.{Plays}
use Rattle.exchange_events.specs.declared.trace.Event.{Event}
use Rattle.exchange_events.specs.Sound.{Fits, IsPlanned}
use Rattle.call_profile.specs.Step.{MovesAtMost, next, reply, run, world_after_all}
use Rattle.call_profile.specs.World.{World, start}
use Rattle.call_profile.proofs.RunLemmas.{world_next}
use Rattle.lone_exchange.specs.declared.exchange.LoneExchange.{LoneExchange}
use Rattle.lone_exchange.specs.At.{Appends, Carrying, IsAt, IsGiven, StartsAt}
use Rattle.trace_text.specs.declared.said.Said.{Said}
use Rattle.trace_text.specs.declared.said.Sizes.{Sizes}
use Rattle.trace_text.specs.TraceGrammar.{events_in}
use Rattle.trace_text.specs.TraceLines.{SoFar}
use Rattle.trace_text.specs.TraceTimers.{timers_by}
use Rattle.linked_exchange.specs.Told.{MovesFewIn, MovesFewSaid, setting_said, world_said}
use Rattle.linked_exchange.specs.Stepping.{HasHappened, IsEventDue, IsHeard, IsRunning, calls_at}
use Rattle.linked_exchange.specs.Telling.{AreTold, AreToldFront}

-- few live paths are moved with one event more
pub few_more : (slots : ℕ) (moves : ℕ → ℕ) (told : List Said) (z : Sizes) (bound : ℕ) (e : Event) → MovesFewSaid slots moves z told → bound ≡ moves (z.external + z.bridges)
    → MovesAtMost bound (reply (setting_said slots z told) (world_said slots z told) e) → MovesFewIn moves (setting_said slots z told) (events_in told ++ e ∷ [])
few_more slots moves told z bound e before is last =
    let s = setting_said slots z told in
    let r = reply s (world_said slots z told) e in
    let few = MovesAtMost (moves (z.external + z.bridges)) in
    subst (All few) (sym (run-append s (start s.dimensions) (events_in told) (e ∷ [])))
    (All-append few (run s (start s.dimensions) (events_in told)) (r ∷ []) before (All-cons few r [] (subst (λ (n : ℕ). MovesAtMost n r) is last) (All-nil few)))

module _ {P E : Type 0} (carries : Carrying E) (frames : E → ℕ) (sizes : E → Dimensions) (slots : ℕ) (moves : ℕ → ℕ) (told : List Said) (z : Sizes) (heading : SoFar) where
  -- there is one
  pub running_some : (x : LoneExchange P E) → IsHeard carries frames sizes slots moves told z heading (Some x) → IsRunning carries frames sizes slots moves told z (let there : Option (LoneExchange P E) = Some x in there)
  running_some x heard =
      let at = heard.driven.1 in
      let both : Some at.header ≡ Some z = sym at.given ∙ heard.header in
      let same : at.header ≡ z = grind (arith, both) in
      record {
        driver = x;
        is = refl;
        at = subst (λ (v : Sizes). IsAt carries frames sizes x (setting_said slots v told) (world_said slots v told)) same at.at;
        bound = subst (λ (v : Sizes). x.control.map.bound ≡ moves (v.external + v.bridges)) same at.bound;
        few = subst (λ (v : Sizes). MovesFewSaid slots moves v told) same at.few;
      }

  -- it is made
  pub running_new : (x : LoneExchange P E) → IsHeard carries frames sizes slots moves told z heading (let none : Option (LoneExchange P E) = None in none) → StartsAt carries frames sizes z.external z.bridges slots x
      → x.control.map.bound ≡ moves (z.external + z.bridges) → IsRunning carries frames sizes slots moves told z (Some x)
  running_new x heard starts bound =
      let s = setting_said slots z told in
      let planned : IsPlanned s = heard.sound.planned z heard.header in
      let first : world_said slots z told ≡ start s.dimensions = ap (world_after_all s (start s.dimensions)) heard.driven in
      record {
        driver = x;
        is = refl;
        at = subst (λ (w : World). IsAt carries frames sizes x s w) (sym first) (starts s refl planned);
        bound = bound;
        few = subst (MovesFewIn moves s) (sym heard.driven) (All-nil (MovesAtMost (moves (z.external + z.bridges))));
      }

  -- the event that is due fits it, and it has room for a frame
  module _ (exchange : Option (LoneExchange P E)) (e : Event) (due : IsEventDue carries frames sizes slots moves told z heading exchange e) (x : LoneExchange P E)
      (at : IsAt carries frames sizes x (setting_said slots z told) (world_said slots z told)) where
    pub event_fits : Fits x.control.map.external e
    event_fits = subst (λ (d : Dimensions). Fits d.external e) (sym at.work.holds.sizes) due.fits

    pub frames_few : x.control.map.next < 4294967295
    frames_few =
        let s = setting_said slots z told in
        let grows = world_next s (start s.dimensions) (events_in told) in
        let same = at.work.holds.circuits.holds.next in
        let few = due.few in
        omega (arith, grows, same, few)

  pub given_here : (exchange : Option (LoneExchange P E)) → IsHeard carries frames sizes slots moves told z heading exchange
      → IsGiven heading.plan heading.tones (timers_by heading.timers) (setting_said slots z told)
  given_here exchange heard = record { plan_is = heard.plan; tones_are = heard.tones; timers_are = ap timers_by heard.timers }

  pub ready_new : (exchange : Option (LoneExchange P E)) (x : LoneExchange P E) (sized : Sizes) → is_some exchange ≡ false → Some sized ≡ heading.sizes → StartsAt carries frames sizes sized.external sized.bridges slots x
      → x.control.map.bound ≡ moves (sized.external + sized.bridges) → IsHeard carries frames sizes slots moves told z heading exchange → IsRunning carries frames sizes slots moves told z (Some x)
  ready_new None x sized none known starts bound heard =
      let both : Some sized ≡ Some z = known ∙ heard.sized in
      let same : sized ≡ z = grind (arith, both) in
      running_new x heard (subst (λ (v : Sizes). StartsAt carries frames sizes v.external v.bridges slots x) same starts)
      (subst (λ (v : Sizes). x.control.map.bound ≡ moves (v.external + v.bridges)) same bound)
  ready_new (Some y) x sized none known starts bound heard = absurd (grind (arith, none))

  pub ready_old : (exchange : Option (LoneExchange P E)) → is_some exchange ≡ true → IsHeard carries frames sizes slots moves told z heading exchange → IsRunning carries frames sizes slots moves told z exchange
  ready_old None some heard = absurd (grind (arith, some))
  ready_old (Some x) some heard = running_some x heard

  pub at_driver : (exchange : Option (LoneExchange P E)) (x : LoneExchange P E) → IsRunning carries frames sizes slots moves told z exchange → exchange ≡ Some x
      → IsAt carries frames sizes x (setting_said slots z told) (world_said slots z told)
  at_driver exchange x running is =
      let both : Some running.driver ≡ Some x = sym running.is ∙ is in
      let same : running.driver ≡ x = grind (arith, both) in
      subst (λ (y : LoneExchange P E). IsAt carries frames sizes y (setting_said slots z told) (world_said slots z told)) same running.at

  pub driver_bound : (exchange : Option (LoneExchange P E)) (x : LoneExchange P E) → IsRunning carries frames sizes slots moves told z exchange → exchange ≡ Some x
      → x.control.map.bound ≡ moves (z.external + z.bridges)
  driver_bound exchange x running is =
      let both : Some running.driver ≡ Some x = sym running.is ∙ is in
      let same : running.driver ≡ x = grind (arith, both) in
      subst (λ (y : LoneExchange P E). y.control.map.bound ≡ moves (z.external + z.bridges)) same running.bound

  pub no_driver : (exchange : Option (LoneExchange P E)) → IsRunning carries frames sizes slots moves told z exchange → exchange ≡ None → ⊥
  no_driver exchange running none = let both : Some running.driver ≡ None = sym running.is ∙ none in absurd (grind (arith, both))

  -- an event that happened, unless an allocation failed
  pub happened_ok : {M T F : Type 0} (plays : Plays) (stands : M → List CallRecord → Type 0) (text : M → List CallRecord → List ℕ) (number : ℕ) (e : Event) (old new : List M) (before after : List ℕ)
      (y : LoneExchange P E) (r : Result T F) → IsAt carries frames sizes y (setting_said slots z told) (next (setting_said slots z told) (world_said slots z told) e)
      → y.control.map.bound ≡ moves (z.external + z.bridges) → MovesFewIn moves (setting_said slots z told) (events_in told ++ e ∷ [])
      → OnOk r (Appends plays (setting_said slots z told) (world_said slots z told) e number before after) → OnOk r (AreTold stands text old new (calls_at slots told z e))
      → OnOk r (HasHappened plays carries frames sizes slots moves stands text told z number e old new before after (Some y))
  happened_ok plays stands text number e old new before after y (Ok t) at bound few line noted = record { driver = y; is = refl; at = at; bound = bound; few = few; line = line; noted = noted }
  happened_ok plays stands text number e old new before after y (Err f) at bound few line noted = tt

module _ {M : Type 0} (stands : M → List CallRecord → Type 0) (text : M → List CallRecord → List ℕ) where
  pub told_front : (old new : List M) (calls : List CallRecord) → AreTold stands text old new calls → AreToldFront stands text old new calls
  told_front old new calls told = zip-weaker _ _ (λ m n one. told_front-all one) old new told

pub on_ok : {T E P : Type 0} (r : Result T E) → P → OnOk r P
on_ok (Ok x) p = p
on_ok (Err e) p = tt

pub on_err : {T E P : Type 0} (r : Result T E) → P → OnErr r P
on_err (Ok x) p = tt
on_err (Err e) p = p

pub on_ok_then : {T E P Q : Type 0} (r : Result T E) → OnOk r P → (P → Q) → OnOk r Q
on_ok_then (Ok x) p then = then p
on_ok_then (Err e) p then = tt

pub on_err_then : {T E P Q : Type 0} (r : Result T E) → OnErr r P → (P → Q) → OnErr r Q
on_err_then (Ok x) p then = tt
on_err_then (Err e) p then = then p

pub err_is : {T E : Type 0} (a b : E) → IsErrOf (let failed : Result T E = Err a in failed) b → a ≡ b
err_is a b same = grind (arith, same)
