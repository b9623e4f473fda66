-- A handler after one more line.
use Rattle.std.proofs.Common.{◌≡◌, ℕ, ◌+◌, ◌<◌, ◌≤◌, List, [], ◌∷◌, ◌++◌, length, Option, Some, None, Ok, Err, ◌⊎◌, inl, inr, refl, sym, ap, ◌∙◌, subst, arith, append-nil, length-append}
use Rattle.std.proofs.lemmas.List.Elements.{All-nil}
use Rattle.circuit_model.specs.Dimensions.{Dimensions}
use Rattle.circuit_model.specs.Hears.{Plays}
use Rattle.exchange_events.specs.declared.record.CallRecord.{CallRecord}
use Rattle.exchange_events.specs.declared.trace.Event.{Event}
use Rattle.exchange_events.specs.Sizes.{Setting}
use Rattle.call_profile.specs.Step.{MovesAtMost, world_after_all}
use Rattle.call_profile.specs.World.{World, start}
use Rattle.meters.specs.Changing.{AreMetered, Metering, Step, after_steps, handed_in, records_of, steps_text}
use Rattle.meters.proofs.Changes.{after-append, metered-first, text-append}
use Rattle.trace_text.specs.declared.fault.Reason.{Reason}
use Rattle.trace_text.specs.declared.fault.Reason.TheVariants as reason
use Rattle.trace_text.specs.declared.said.Said.{Said}
use Rattle.trace_text.specs.declared.said.Said.TheVariants.{Nothing, Header, Numbered, Toned, Timed, Happens, Sync, Change}
use Rattle.trace_text.specs.declared.said.Sizes.{Sizes}
use Rattle.trace_text.specs.TraceGrammar.{event_said, events_in, sizes_in, so_far}
use Rattle.trace_text.specs.TraceHeading.{with_said}
use Rattle.trace_text.specs.TraceLines.{SoFar, line_limits}
use Rattle.trace_text.proofs.TraceHolds.{events_more, push, step}
use Rattle.lone_exchange.specs.declared.exchange.LoneExchange.{LoneExchange}
use Rattle.lone_exchange.specs.At.{Carrying, IsAt}
use Rattle.linked_exchange.specs.Told.{MovesFewIn, MovesFewSaid, setting_said, world_said}
use Rattle.linked_exchange.specs.InTurn.{MovesFewInTurn, events_by, events_in_turn, follows_in_turn, setting_in_turn, story_in_turn}
use Rattle.exchange_follow.specs.Following.{HaveMovedFew, IsInterrupted, IsLineRefused, No_line, Read, Unread, course}
use Rattle.exchange_follow.specs.Handling.{AreDriven, HasHandled, IsDriven, IsDrivenBy, IsLinkedDriven, IsSaid}
use Rattle.run_verifier.specs.Refusals.{refusal}
use Rattle.linked_exchange.specs.Telling.{AreToldFront}
use Rattle.linked_exchange.proofs.FollowedSteps.{setting_by}
use Rattle.linked_exchange.proofs.LinkedSteppingLemmas.{early_few}
use Rattle.linked_exchange.proofs.LinkedRuns.{IsAtKnown, after_known, known_after}
use Rattle.linked_exchange.proofs.PlacedLines.{IsKnown, IsPlaced}
use Rattle.linked_exchange.proofs.SaidLines.{quiet_before, said_event, said_more, said_none}
use Rattle.linked_exchange.proofs.TurnLines.{IsTurnFine, IsTurnLine, each_length, each_push, follows_as, follows_long, follows_many, turn_line}
use Rattle.linked_exchange.proofs.TurnSteps.{IsTurnPlaced, due_in_turn, inputs_at, inputs_more, linked_more, no_events, no_inputs, plain_known, plain_more, turn_more}
use Rattle.linked_exchange.specs.declared.exchange.LinkedExchange.{LinkedExchange}
use Rattle.linked_exchange.specs.Steps.{LinkedInput}
use Rattle.linked_exchange.specs.LinkedStory.{inputs_in}
use Rattle.linked_text.specs.declared.said.LinkHappening.{LinkHappening}
use Rattle.linked_text.specs.declared.said.LinkSaid.TheVariants.{Linked, Received, Timed as Link_timed}
use Rattle.linked_text.specs.LinkEffects.{IsInTurnRead, in_turn, linked_in, plain_told}
use Rattle.linked_text.specs.LinkLines.{Content, LinkSoFar, On_link, Plain, plain_of, says_in_turn, with_content}
use Rattle.linked_exchange.proofs.Tellings.{beyond_none, both_beyond}

-- ---- one more line at an exchange

-- a line that gives no event
same_events : (told : List Said) (said : Said) → event_said said ≡ None → events_in (told ++ said ∷ []) ≡ events_in told
same_events told said none = events_more told said ∙ ap (λ (o : Option Event). step push (events_in told) o) none

-- few live paths are moved in the same events in the same setting
pub few_same : (moves : ℕ → ℕ) (s t : Setting) (es fs : List Event) → s ≡ t → es ≡ fs → MovesFewIn moves s es → MovesFewIn moves t fs
few_same moves s t es fs settings events few = subst (MovesFewIn moves t) events (subst (λ (v : Setting). MovesFewIn moves v es) settings few)

-- the setting that a line leaves unchanged
module _ {P E : Type 0} (carries : Carrying E) (frames : E → ℕ) (sizes : E → Dimensions) (slots : ℕ) (moves : ℕ → ℕ) (told : List Said) (said : Said)
    (more : with_said (so_far told) said ≡ so_far (told ++ said ∷ [])) where
  stays_at : event_said said ≡ None → ((z : Sizes) → sizes_in told ≡ Some z → (with_said (so_far told) said).sizes ≡ Some z)
      → ((z : Sizes) → setting_by slots z (with_said (so_far told) said) ≡ setting_said slots z told)
      → (x : Option (LoneExchange P E)) → IsDriven carries frames sizes slots moves told x → IsDriven carries frames sizes slots moves (told ++ said ∷ []) x
  stays_at none still same None driven = same_events told said none ∙ driven
  stays_at none still same (Some x) driven =
      let all = told ++ said ∷ [] in
      let at = driven.1 in
      let z = at.header in
      let setting : setting_said slots z all ≡ setting_said slots z told = ap (λ (k : SoFar). setting_by slots z k) (sym more) ∙ same z in
      let world : world_said slots z all ≡ world_said slots z told = λ i. world_after_all (setting i) (start (setting i).dimensions) (same_events told said none i) in (
        subst (λ (es : List Event). 1 ≤ length es) (sym (same_events told said none)) driven.0,
        record {
          header = z;
          given = ap (λ (k : SoFar). k.sizes) (sym more) ∙ still z at.given;
          at = subst (λ (s : Setting). IsAt carries frames sizes x s (world_said slots z all)) (sym setting)
              (subst (λ (w : World). IsAt carries frames sizes x (setting_said slots z told) w) (sym world) at.at);
          bound = at.bound;
          few = few_same moves (setting_said slots z told) (setting_said slots z all) (events_in told) (events_in all) (sym setting) (sym (same_events told said none)) at.few;
        },
      )

  comes_at : ((z : Sizes) → sizes_in told ≡ Some z → length (events_in told) ≡ 0) → event_said said ≡ None
      → (x : Option (LoneExchange P E)) → IsDriven carries frames sizes slots moves told x → IsDriven carries frames sizes slots moves (told ++ said ∷ []) x
  comes_at early none None driven = same_events told said none ∙ driven
  comes_at early none (Some x) driven = let few = early driven.1.header driven.1.given in let some = driven.0 in absurd (omega (arith, few, some))

-- what happens at a line that gives no event
module _ {P E : Type 0} (carries : Carrying E) (frames : E → ℕ) (sizes : E → Dimensions) (slots : ℕ) (moves : ℕ → ℕ) (told : List Said) where
  pub driven_more : (said : Said) → with_said (so_far told) said ≡ so_far (told ++ said ∷ []) → IsPlaced (so_far told) said → event_said said ≡ None
      → (x : Option (LoneExchange P E)) → IsDriven carries frames sizes slots moves told x → IsDriven carries frames sizes slots moves (told ++ said ∷ []) x
  driven_more Nothing more placed none = stays_at carries frames sizes slots moves told Nothing more none (λ z known. known) (λ z. refl)
  driven_more Sync more placed none = stays_at carries frames sizes slots moves told Sync more none (λ z known. known) (λ z. refl)
  driven_more Change more placed none = stays_at carries frames sizes slots moves told Change more none (λ z known. known) (λ z. refl)
  driven_more (Happens e) more placed none = absurd (grind (arith, none))
  driven_more (Header h) more placed none = comes_at carries frames sizes slots moves told (Header h) more (λ z known. let both : None ≡ Some z = sym placed ∙ known in absurd (grind (arith, both))) none
  driven_more (Numbered n) more placed none = comes_at carries frames sizes slots moves told (Numbered n) more (λ z known. placed) none
  driven_more (Toned given) more placed none = comes_at carries frames sizes slots moves told (Toned given) more (λ z known. placed) none
  driven_more (Timed given) more placed none = comes_at carries frames sizes slots moves told (Timed given) more (λ z known. placed) none

-- ---- one more line at an exchange with links

longer : (xs ys : List ℕ) → 1 ≤ length xs → 1 ≤ length (xs ++ ys)
longer xs ys some = let long = length-append xs ys in omega (arith, some, long)

some_more : (told : List Content) (c : Content) → 1 ≤ length (linked_in told) → 1 ≤ length (linked_in (told ++ c ∷ []))
some_more told c some = subst (λ (ls : List ℕ). 1 ≤ length ls) (sym (linked_more told c)) (longer (linked_in told) _ some)

same_plain_events : (told : List Content) (c : Content) → event_said (plain_of c) ≡ None → events_in (plain_told (told ++ c ∷ [])) ≡ events_in (plain_told told)
same_plain_events told c none = ap events_in (plain_more told c) ∙ same_events (plain_told told) (plain_of c) none

by_some : {P E : Type 0} (carries : Carrying E) (frames : E → ℕ) (sizes : E → Dimensions) (slots : ℕ) (moves : ℕ → ℕ) (told : List Content) (ls : List ℕ) → 1 ≤ length ls → (x : Option (LoneExchange P E)) (y : Option (LinkedExchange P E))
    → x ≡ None → IsLinkedDriven carries frames sizes slots moves told y → IsDrivenBy carries frames sizes slots moves ls told x y
by_some carries frames sizes slots moves told [] some x y none driven = absurd (omega (arith, some))
by_some carries frames sizes slots moves told (l ∷ ls) some x y none driven = (none, driven)

module _ {P E : Type 0} (carries : Carrying E) (frames : E → ℕ) (sizes : E → Dimensions) (slots : ℕ) (moves : ℕ → ℕ) (told : List Content) (c : Content)
    (more : with_content (in_turn told) c ≡ in_turn (told ++ c ∷ [])) where
  -- the setting stays
  linked_stays : 1 ≤ length (linked_in told) → event_said (plain_of c) ≡ None → inputs_at c ≡ []
      → ((x : LinkedExchange P E) → IsAtKnown carries frames sizes slots moves (in_turn told) (inputs_in told) x → IsAtKnown carries frames sizes slots moves (with_content (in_turn told) c) (inputs_in told) x)
      → (x : Option (LinkedExchange P E)) → IsLinkedDriven carries frames sizes slots moves told x → IsLinkedDriven carries frames sizes slots moves (told ++ c ∷ []) x
  linked_stays some none silent still None driven = same_plain_events told c none ∙ driven
  linked_stays some none silent still (Some x) driven =
      let inputs : inputs_in told ≡ inputs_in (told ++ c ∷ []) = sym (inputs_more told c ∙ (ap (λ (is : List LinkedInput). inputs_in told ++ is) silent ∙ append-nil (inputs_in told))) in (
        subst (λ (es : List Event). 1 ≤ length es) (sym (same_plain_events told c none)) driven.0,
        after_known carries frames sizes slots moves (told ++ c ∷ []) (some_more told c some) x
            (subst (λ (is : List LinkedInput). IsAtKnown carries frames sizes slots moves (in_turn (told ++ c ∷ [])) is x) inputs
            (subst (λ (k : LinkSoFar). IsAtKnown carries frames sizes slots moves k (inputs_in told) x) more (still x (known_after carries frames sizes slots moves told some x driven.1)))),
      )

  -- the setting changes before the first event
  linked_comes : events_in (plain_told told) ≡ [] → event_said (plain_of c) ≡ None
      → (x : Option (LinkedExchange P E)) → IsLinkedDriven carries frames sizes slots moves told x → IsLinkedDriven carries frames sizes slots moves (told ++ c ∷ []) x
  linked_comes early none None driven = same_plain_events told c none ∙ driven
  linked_comes early none (Some x) driven = let long : length (events_in (plain_told told)) ≡ 0 = ap length early in let some = driven.0 in absurd (omega (arith, long, some))

  -- without links
  plain_driven_more : IsPlaced (so_far (plain_told told)) (plain_of c) → event_said (plain_of c) ≡ None → (with_content (in_turn told) c).linked ≡ []
      → (x : Option (LoneExchange P E)) (y : Option (LinkedExchange P E)) → IsDrivenBy carries frames sizes slots moves [] told x y → AreDriven carries frames sizes slots moves (told ++ c ∷ []) x y
  plain_driven_more placed none still x y driven =
      let unlinked : linked_in (told ++ c ∷ []) ≡ [] = ap (λ (k : LinkSoFar). k.linked) (sym more) ∙ still in
      subst (λ (ls : List ℕ). IsDrivenBy carries frames sizes slots moves ls (told ++ c ∷ []) x y) (sym unlinked) (
        subst (λ (ps : List Said). IsDriven carries frames sizes slots moves ps x) (sym (plain_more told c))
            (driven_more carries frames sizes slots moves (plain_told told) (plain_of c) (plain_known told c more) placed none x driven.0),
        driven.1,
      )

  pub linked_driven : 1 ≤ length (linked_in told) → (x : Option (LoneExchange P E)) (y : Option (LinkedExchange P E))
      → x ≡ None → IsLinkedDriven carries frames sizes slots moves (told ++ c ∷ []) y → AreDriven carries frames sizes slots moves (told ++ c ∷ []) x y
  linked_driven some x y none driven = by_some carries frames sizes slots moves (told ++ c ∷ []) (linked_in (told ++ c ∷ [])) (some_more told c some) x y none driven

module _ {P E : Type 0} (carries : Carrying E) (frames : E → ℕ) (sizes : E → Dimensions) (slots : ℕ) (moves : ℕ → ℕ) (told : List Content) where
  pub split_driven : (ls : List ℕ) → 1 ≤ length ls → (x : Option (LoneExchange P E)) (y : Option (LinkedExchange P E)) → IsDrivenBy carries frames sizes slots moves ls told x y
      → (x ≡ None) × IsLinkedDriven carries frames sizes slots moves told y
  split_driven [] some x y driven = absurd (omega (arith, some))
  split_driven (l ∷ ls) some x y driven = driven

  none_driven : events_in (plain_told told) ≡ [] → (x : Option (LoneExchange P E)) → IsDriven carries frames sizes slots moves (plain_told told) x → x ≡ None
  none_driven early None driven = refl
  none_driven early (Some x) driven = let long : length (events_in (plain_told told)) ≡ 0 = ap length early in let some = driven.0 in absurd (omega (arith, long, some))

  -- each new path of these lines moved few live paths
  few_plain : (z : Sizes) → sizes_in (plain_told told) ≡ Some z → (x : Option (LoneExchange P E)) → IsDriven carries frames sizes slots moves (plain_told told) x
      → MovesFewSaid slots moves z (plain_told told)
  few_plain z known None none = subst (MovesFewIn moves (setting_in_turn slots z told)) (sym none) (All-nil (MovesAtMost (moves (z.external + z.bridges))))
  few_plain z known (Some x) (some, at) =
      let both : Some at.header ≡ Some z = sym at.given ∙ known in
      let same : at.header ≡ z = grind (arith, both) in
      subst (λ (v : Sizes). MovesFewSaid slots moves v (plain_told told)) same at.few

  few_linked : 1 ≤ length (linked_in told) → (z : Sizes) → sizes_in (plain_told told) ≡ Some z → (y : Option (LinkedExchange P E)) → IsLinkedDriven carries frames sizes slots moves told y
      → MovesFewInTurn slots moves z told
  few_linked some z known None none = early_few slots moves told z some (no_inputs told none)
  few_linked some z known (Some y) (one, at) =
      let both : Some at.header ≡ Some z = sym at.given ∙ known in
      let same : at.header ≡ z = grind (arith, both) in
      subst (λ (v : Sizes). MovesFewInTurn slots moves v told) same at.few

  pub few_driven : (ls : List ℕ) → linked_in told ≡ ls → (x : Option (LoneExchange P E)) (y : Option (LinkedExchange P E)) → IsDrivenBy carries frames sizes slots moves ls told x y
      → (z : Sizes) → sizes_in (plain_told told) ≡ Some z → MovesFewInTurn slots moves z told
  few_driven [] is x y driven z known =
      let events : events_in_turn slots z told ≡ events_in (plain_told told) = ap (λ (l : List ℕ). events_by l slots z told) is in
      subst (MovesFewIn moves (setting_in_turn slots z told)) (sym events) (few_plain z known x driven.0)
  few_driven (line ∷ lines) is x y driven z known =
      let some : 1 ≤ length (linked_in told) = let long = ap length is in omega (arith, long) in
      few_linked some z known y driven.1

  after_line : 1 ≤ length (linked_in told) → (c : Content) → with_content (in_turn told) c ≡ in_turn (told ++ c ∷ []) → IsTurnPlaced (in_turn told) c → event_said (plain_of c) ≡ None
      → (1 ≤ length (linked_in told) → IsKnown (so_far (plain_told told))) → (y : Option (LinkedExchange P E)) → IsLinkedDriven carries frames sizes slots moves told y → IsLinkedDriven carries frames sizes slots moves (told ++ c ∷ []) y
  after_line some (Plain Nothing) more placed none first = linked_stays carries frames sizes slots moves told (Plain Nothing) more some none refl (λ x a. a)
  after_line some (Plain Sync) more placed none first = linked_stays carries frames sizes slots moves told (Plain Sync) more some none refl (λ x a. a)
  after_line some (Plain Change) more placed none first = linked_stays carries frames sizes slots moves told (Plain Change) more some none refl
      (λ x a. record { header = a.header; given = a.given; at = a.at; bound = a.bound; few = a.few })
  after_line some (Plain (Happens e)) more placed none first = absurd (grind (arith, none))
  after_line some (On_link (Received line octets)) more placed none first = absurd (grind (arith, none))
  after_line some (Plain (Header z)) more placed none first = let known = first some in let both : None ≡ Some known.0 = sym placed ∙ known.1 in absurd (grind (arith, both))
  after_line some (Plain (Numbered n)) more placed none first = linked_comes carries frames sizes slots moves told (Plain (Numbered n)) more (no_events (events_in (plain_told told)) placed) none
  after_line some (Plain (Toned given)) more placed none first = linked_comes carries frames sizes slots moves told (Plain (Toned given)) more (no_events (events_in (plain_told told)) placed) none
  after_line some (Plain (Timed given)) more placed none first = linked_comes carries frames sizes slots moves told (Plain (Timed given)) more (no_events (events_in (plain_told told)) placed) none
  after_line some (On_link (Linked line)) more placed none first = linked_comes carries frames sizes slots moves told (On_link (Linked line)) more (no_events (events_in (plain_told told)) placed.1) none
  after_line some (On_link (Link_timed given)) more placed none first = linked_comes carries frames sizes slots moves told (On_link (Link_timed given)) more (no_events (events_in (plain_told told)) placed) none

  -- a line that gives no event
  pub driven_by : (ls : List ℕ) → linked_in told ≡ ls → (c : Content) → with_content (in_turn told) c ≡ in_turn (told ++ c ∷ []) → IsTurnPlaced (in_turn told) c → event_said (plain_of c) ≡ None
      → (1 ≤ length (linked_in told) → IsKnown (so_far (plain_told told))) → (x : Option (LoneExchange P E)) (y : Option (LinkedExchange P E)) → IsDrivenBy carries frames sizes slots moves ls told x y → AreDriven carries frames sizes slots moves (told ++ c ∷ []) x y
  driven_by [] is (Plain said) more placed none first x y driven = plain_driven_more carries frames sizes slots moves told (Plain said) more placed none is x y driven
  driven_by [] is (On_link (Link_timed given)) more placed none first x y driven = plain_driven_more carries frames sizes slots moves told (On_link (Link_timed given)) more tt none is x y driven
  driven_by ls is (On_link (Received line octets)) more placed none first x y driven = absurd (grind (arith, none))
  driven_by [] is (On_link (Linked line)) more placed none first x y driven =
      let early = no_events (events_in (plain_told told)) placed.1 in
      let all = told ++ On_link (Linked line) ∷ [] in
      let one : linked_in all ≡ line ∷ [] = ap (λ (k : LinkSoFar). k.linked) (sym more) ∙ ap (λ (ls : List ℕ). ls ++ line ∷ []) is in
      let still : IsLinkedDriven carries frames sizes slots moves all (let nothing : Option (LinkedExchange P E) = None in nothing) = same_plain_events told (On_link (Linked line)) none ∙ early in
      subst (λ (ls : List ℕ). IsDrivenBy carries frames sizes slots moves ls all x y) (sym one)
      (none_driven early x driven.0, subst (λ (o : Option (LinkedExchange P E)). IsLinkedDriven carries frames sizes slots moves all o) (sym driven.1) still)
  driven_by (l ∷ ls) is c more placed none first x y driven =
      let some : 1 ≤ length (linked_in told) = subst (λ (ms : List ℕ). 1 ≤ length ms) (sym is) (let one : 1 ≤ length (l ∷ ls) = omega arith in one) in
      linked_driven carries frames sizes slots moves told c more some x y driven.0 (after_line some c more placed none first y driven.1)

known_with : (k : LinkSoFar) (c : Content) → (1 ≤ length k.linked → IsKnown k.plain) → IsTurnPlaced k c → 1 ≤ length (with_content k c).linked → IsKnown (with_content k c).plain
known_with k (Plain Nothing) first placed some = first some
known_with k (Plain Sync) first placed some = first some
known_with k (Plain Change) first placed some = placed
known_with k (Plain (Happens e)) first placed some = placed
known_with k (Plain (Header z)) first placed some = (z, refl)
known_with k (Plain (Numbered n)) first placed some = first some
known_with k (Plain (Toned given)) first placed some = first some
known_with k (Plain (Timed given)) first placed some = first some
known_with k (On_link (Linked line)) first placed some = placed.0
known_with k (On_link (Received line octets)) first placed some = placed.0
known_with k (On_link (Link_timed given)) first placed some = first some

-- the header comes before the links
pub known_first : (told : List Content) (c : Content) → (1 ≤ length (linked_in told) → IsKnown (so_far (plain_told told))) → with_content (in_turn told) c ≡ in_turn (told ++ c ∷ []) → IsTurnPlaced (in_turn told) c
    → 1 ≤ length (linked_in (told ++ c ∷ [])) → IsKnown (so_far (plain_told (told ++ c ∷ [])))
known_first told c first more placed some = subst (λ (k : LinkSoFar). IsKnown k.plain) more (known_with (in_turn told) c first placed (subst (λ (k : LinkSoFar). 1 ≤ length k.linked) (sym more) some))

-- what is known of the lines stays true
sound_with : (k : LinkSoFar) (c : Content) → IsSaid k.plain → IsTurnFine k c → IsTurnPlaced k c → IsSaid (with_content k c).plain
sound_with k (Plain said) sound fine placed = said_more k.plain sound said fine placed
sound_with k (On_link (Linked line)) sound fine placed = sound
sound_with k (On_link (Received line octets)) sound fine placed = said_event k.plain sound placed.0
sound_with k (On_link (Link_timed given)) sound fine placed = sound

sound_more : (told : List Content) (c : Content) → with_content (in_turn told) c ≡ in_turn (told ++ c ∷ []) → IsSaid (so_far (plain_told told)) → IsTurnFine (in_turn told) c → IsTurnPlaced (in_turn told) c
    → IsSaid (so_far (plain_told (told ++ c ∷ [])))
sound_more told c more sound fine placed = subst (λ (k : LinkSoFar). IsSaid k.plain) more (sound_with (in_turn told) c sound fine placed)

-- ---- one more line

module _ {M P E : Type 0} (stands : M → List CallRecord → Type 0) (text : M → List CallRecord → List ℕ) (carries : Carrying E) (frames : E → ℕ) (sizes : E → Dimensions)
    (plays : Plays) (slots : ℕ) (moves : ℕ → ℕ) (old old_spare : List M) where
  abbrev pub Handled : List M → List M → LinkSoFar → ℕ → Option (LoneExchange P E) → Option (LinkedExchange P E) → List (List ℕ) → List ℕ → Type 0
  Handled on spare heading count exchange linked ls said = HasHandled carries frames sizes (course plays slots moves stands text old old_spare on spare) heading count exchange linked ls said

  pub handled_none : Handled old old_spare (in_turn []) 0 None None [] []
  handled_none = record { told = []; meets = tt; text = refl; meters = metered-first stands text old old_spare; known = refl; sound = said_none; counted = refl; first = λ some. absurd (omega (arith, some)); driven = (refl, refl) }

  -- each new path of lines that were processed moved few live paths
  pub few_handled : (on spare : List M) (heading : LinkSoFar) (count : ℕ) (exchange : Option (LoneExchange P E)) (linked : Option (LinkedExchange P E)) (ls : List (List ℕ)) (said : List ℕ)
      (h : Handled on spare heading count exchange linked ls said) → HaveMovedFew slots moves h.told
  few_handled on spare heading count exchange linked ls said h = few_driven carries frames sizes slots moves h.told (linked_in h.told) refl exchange linked h.driven

  refused_here : (on spare : List M) (before : LinkSoFar) (count : ℕ) (exchange : Option (LoneExchange P E)) (linked : Option (LinkedExchange P E)) (ls : List (List ℕ)) (said line : List ℕ) (h : Handled on spare before count exchange linked ls said)
      (why : Reason) (all : List ℕ) → follows_in_turn h.told line ≡ Err why → all ≡ said ++ refusal (count + 1) why
      → IsLineRefused (course plays slots moves stands text old old_spare on spare) (ls ++ line ∷ []) all
  refused_here on spare before count exchange linked ls said line h why all fails is = record {
    before = ls;
    line = line;
    told = h.told;
    why = why;
    parts = refl;
    meets = h.meets;
    few = few_handled on spare before count exchange linked ls said h;
    fails = fails;
    text =
        let long : count + 1 ≡ length (ls ++ line ∷ []) = let same = h.counted in omega (arith, same, length-append ls (line ∷ [])) in
        is ∙ ((λ i. h.text i ++ refusal (long i) why));
    meters = h.meters;
  }

  module _ (on spare : List M) (before after : LinkSoFar) (count : ℕ) (exchange : Option (LoneExchange P E)) (linked : Option (LinkedExchange P E)) (ls : List (List ℕ)) (said line : List ℕ) (h : Handled on spare before count exchange linked ls said)
      (short : length line ≤ 65535) (few : count < 4294967294) where
    few_told : length h.told < 4294967294
    few_told = let same = each_length [] h.told ls h.meets in let is = h.counted in omega (arith, same, is, few)

    pub follows_here : follows_in_turn h.told line ≡ says_in_turn line_limits before line
    follows_here = follows_as h.told line short few_told ∙ ap (λ (k : LinkSoFar). says_in_turn line_limits k line) (sym h.known)

    module _ (hap : LinkHappening) (r : IsInTurnRead line_limits before line hap after) where
      abbrev pub all : List Content
      all = h.told ++ r.content ∷ []

      pub follows_said : follows_in_turn h.told line ≡ Ok r.content
      follows_said = follows_here ∙ r.meets

      pub more : with_content (in_turn h.told) r.content ≡ in_turn all
      more = ap (λ (k : LinkSoFar). with_content k r.content) (sym h.known) ∙ (sym r.known ∙ r.behind h.told h.known)

      pub line_is : IsTurnLine (in_turn h.told) r.content
      line_is = turn_line (in_turn h.told) line r.content (ap (λ (k : LinkSoFar). says_in_turn line_limits k line) (sym h.known) ∙ r.meets)

      abbrev pub dues : List Step
      dues = due_in_turn plays slots h.told r.content

      pub story_is : story_in_turn plays slots all ≡ story_in_turn plays slots h.told ++ dues
      story_is = turn_more plays slots h.told h.first r.content more line_is.placed (quiet_before (plain_told h.told) h.sound)

      -- the meters and the text after its steps
      pub handled_more : (on' spare' : List M) (exchange' : Option (LoneExchange P E)) (linked' : Option (LinkedExchange P E)) (said' : List ℕ)
          → AreMetered stands text (after_steps dues (after_steps (story_in_turn plays slots h.told) (handed_in old old_spare))) on' spare'
          → said' ≡ said ++ steps_text text dues (after_steps (story_in_turn plays slots h.told) (handed_in old old_spare))
          → AreDriven carries frames sizes slots moves all exchange' linked' → Handled on' spare' after (count + 1) exchange' linked' (ls ++ line ∷ []) said'
      handled_more on' spare' exchange' linked' said' metered added driven =
          let story = story_in_turn plays slots h.told in
          record {
            told = all;
            meets = each_push [] h.told ls line r.content h.meets follows_said;
            text = added
                ∙ (ap (λ (t : List ℕ). t ++ steps_text text dues (after_steps story (handed_in old old_spare))) h.text
                ∙ (sym (text-append text story dues (handed_in old old_spare)) ∙ ap (λ (steps : List Step). steps_text text steps (handed_in old old_spare)) (sym story_is)));
            meters = subst (λ (s : Metering M). AreMetered stands text s on' spare') (sym (ap (λ (steps : List Step). after_steps steps (handed_in old old_spare)) story_is ∙ after-append story dues (handed_in old old_spare))) metered;
            known = r.behind h.told h.known;
            sound = sound_more h.told r.content more h.sound line_is.fine line_is.placed;
            counted = let is = h.counted in omega (arith, is, length-append ls (line ∷ []));
            first = known_first h.told r.content h.first more line_is.placed;
            driven = driven;
          }

      -- an allocation failed in it, and meters recorded a prefix of its calls
      pub interrupted_more : (on' : List M) → AreToldFront stands text on on' (records_of dues)
          → IsInterrupted (course plays slots moves stands text old old_spare on' spare) (ls ++ line ∷ []) said
      interrupted_more on' front = record {
        before = ls;
        rest = line ∷ [];
        told = h.told;
        others = dues;
        parts = refl;
        meets = h.meets;
        few = few_handled on spare before count exchange linked ls said h;
        next = Read line r.content dues follows_said story_is;
        text = h.text;
        meters = both_beyond stands text (after_steps (story_in_turn plays slots h.told) (handed_in old old_spare)) on on' spare (records_of dues) h.meters front;
      }

    -- it is refused, by a check
    pub refused_more : (why : Reason) (all : List ℕ) → says_in_turn line_limits before line ≡ Err why → all ≡ said ++ refusal (count + 1) why
        → IsLineRefused (course plays slots moves stands text old old_spare on spare) (ls ++ line ∷ []) all
    refused_more why all fails is = refused_here on spare before count exchange linked ls said line h why all (follows_here ∙ fails) is

  module _ (on spare : List M) (before : LinkSoFar) (count : ℕ) (exchange : Option (LoneExchange P E)) (linked : Option (LinkedExchange P E)) (ls : List (List ℕ)) (said line : List ℕ) (h : Handled on spare before count exchange linked ls said) where
    -- it is too long, or there are too many lines before it
    pub refused_long : (all : List ℕ) → (65535 < length line) ⊎ (4294967294 ≤ count) → all ≡ said ++ refusal (count + 1) reason.Limit
        → IsLineRefused (course plays slots moves stands text old old_spare on spare) (ls ++ line ∷ []) all
    refused_long all (inl long) is = refused_here on spare before count exchange linked ls said line h reason.Limit all (follows_long h.told line long) is
    refused_long all (inr many) is =
        let same = each_length [] h.told ls h.meets in
        let counted = h.counted in
        refused_here on spare before count exchange linked ls said line h reason.Limit all (follows_many h.told line (omega (arith, same, counted, many))) is

    -- an allocation failed before it was read
    pub interrupted_here : IsInterrupted (course plays slots moves stands text old old_spare on spare) (ls ++ line ∷ []) said
    interrupted_here = record {
      before = ls;
      rest = line ∷ [];
      told = h.told;
      others = [];
      parts = refl;
      meets = h.meets;
      few = few_handled on spare before count exchange linked ls said h;
      next = Unread line;
      text = h.text;
      meters = beyond_none stands text (after_steps (story_in_turn plays slots h.told) (handed_in old old_spare)) on spare h.meters;
    }

    -- or at the end
    pub interrupted_last : IsInterrupted (course plays slots moves stands text old old_spare on spare) ls said
    interrupted_last = record {
      before = ls;
      rest = [];
      told = h.told;
      others = [];
      parts = sym (append-nil ls);
      meets = h.meets;
      few = few_handled on spare before count exchange linked ls said h;
      next = No_line;
      text = h.text;
      meters = beyond_none stands text (after_steps (story_in_turn plays slots h.told) (handed_in old old_spare)) on spare h.meters;
    }
