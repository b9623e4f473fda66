-- The events of lines that are followed fit the exchange of their header.
use Rattle.std.proofs.Common.{◌≡◌, ℕ, List, [], ◌∷◌, ◌++◌, Some, true, refl, sym, ap, ◌∙◌, subst, arith, append_assoc, append-nil, All}
use Rattle.std.specs.List.{cons_option}
use Rattle.std.proofs.lemmas.List.Elements.{All-append, All-cons, All-nil, All-push}
use Rattle.std.proofs.lemmas.List.FromFn.{length-map-range_with_len}
use Rattle.number_plan.specs.declared.plan.Number.{Number}
use Rattle.number_plan.specs.Plan.{all_targets, is_listed, with_number}
use Rattle.number_plan.proofs.OrderFacts.{all_with}
use Rattle.exchange_events.specs.declared.trace.Event.{Event}
use Rattle.exchange_events.specs.declared.trace.Event.TheVariants.{Nail, Seat, Free, Message, LinkUp, LinkDown, RestartLine, Frame}
use Rattle.exchange_events.specs.Sound.{Fits, is_reached}
use Rattle.exchange_laws.specs.LaidOut.{IsFitting, IsLegalIn, JoinsCircuitsIn}
use Rattle.exchange_laws.proofs.LaidWorldLemmas.{joins_reached, legal_reached}
use Rattle.trace_text.specs.declared.said.Said.{Said}
use Rattle.trace_text.specs.declared.said.Said.TheVariants.{Nothing, Header, Numbered, Toned, Timed, Happens, Sync, Change}
use Rattle.trace_text.specs.declared.said.Sizes.{Sizes}
use Rattle.trace_text.specs.TraceGrammar.{event_said, events_in, number_said, numbers_in, plan_of, sizes_in}
use Rattle.trace_text.proofs.SoundLemmas.{AreSizes}
use Rattle.trace_text.proofs.TraceHolds.{events_more, plan_more, push, sizes_first, step}
use Rattle.linked_exchange.specs.Runs.{FitsLinked}
use Rattle.linked_exchange.specs.Steps.{Receives, Turns}
use Rattle.linked_exchange.specs.Steps as linked
use Rattle.linked_exchange.proofs.PlainLemmas.{trace_fits}
use Rattle.linked_exchange.specs.LinkedStory.{inputs_in, inputs_of}
use Rattle.linked_text.specs.declared.said.LinkSaid.TheVariants.{Linked, Received, Timed as Link_timed}
use Rattle.linked_text.specs.LinkEffects.{in_turn, link_row, linked_in, linked_said, plain_told}
use Rattle.linked_text.specs.LinkLines.{Content, On_link, Plain, plain_of}
use Rattle.exchange_laws.specs.Followed.{AreFollowed}
use Rattle.linked_exchange.specs.InTurn.{EachInTurn, events_by, events_in_turn, link_timers_said, setting_in_turn, world_in_turn}
use Rattle.linked_exchange.proofs.TurnLines.{IsTurnFine, IsTurnLine, follows_turn, turn_line}
use Rattle.linked_exchange.proofs.TurnSteps.{IsTurnPlaced, inputs_at, inputs_more, linked_more, plain_more}

-- ---- the plan, the events and the inputs of some lines

-- the numbers, the events without links and the inputs fit an exchange of these sizes
record AreFitting (z : Sizes) (told : List Content) : Type 0 where
  planned : all_targets (is_reached z.external) (plan_of (numbers_in (plain_told told))) ≡ true
  events : linked_in told ≡ [] → All (Fits z.external) (events_in (plain_told told))
  inputs : All (FitsLinked z.external) (inputs_in told)

none_fit : (z : Sizes) → AreFitting z []
none_fit z = record { planned = refl; events = λ none. All-nil (Fits z.external); inputs = All-nil (FitsLinked z.external) }

none_before : (before : List ℕ) (more : List ℕ) → before ++ more ≡ [] → before ≡ []
none_before [] more none = refl
none_before (line ∷ before) more none = absurd (grind (arith, none))

-- the inputs of one event
module _ (external : ℕ) where
  one_input : (e : Event) → Fits external e → All (FitsLinked external) (linked.Happens e ∷ [])
  one_input e fits = All-cons (FitsLinked external) (linked.Happens e) [] fits (All-nil (FitsLinked external))

  event_inputs : (e : Event) → Fits external e → All (FitsLinked external) (inputs_of e ++ [])
  event_inputs (Nail one other) fits = one_input (Nail one other) fits
  event_inputs (Seat at room) fits = one_input (Seat at room) fits
  event_inputs (Free at) fits = one_input (Free at) fits
  event_inputs (Message line octets) fits = one_input (Message line octets) fits
  event_inputs (LinkUp line) fits = one_input (LinkUp line) fits
  event_inputs (LinkDown line) fits = one_input (LinkDown line) fits
  event_inputs (RestartLine line) fits = one_input (RestartLine line) fits
  event_inputs (Frame input) fits =
      All-cons (FitsLinked external) (linked.Happens (Frame input)) (Turns ∷ []) fits
      (All-cons (FitsLinked external) Turns [] tt (All-nil (FitsLinked external)))

-- ---- one more line

module _ (z : Sizes) (told : List Content) (same : (first : Sizes) → sizes_in (plain_told told) ≡ Some first → first ≡ z) where
  abbrev AreInputs : Content → Type 0
  AreInputs c = All (FitsLinked z.external) (inputs_at c)

  none : All (FitsLinked z.external) []
  none = All-nil (FitsLinked z.external)

  inputs_fit : (c : Content) → IsTurnFine (in_turn told) c → IsTurnPlaced (in_turn told) c → AreInputs c
  inputs_fit (Plain (Happens e)) fine placed = event_inputs z.external e (subst (λ (v : Sizes). Fits v.external e) (same fine.0 fine.1) fine.2)
  inputs_fit (Plain Nothing) fine placed = none
  inputs_fit (Plain (Header first)) fine placed = none
  inputs_fit (Plain (Numbered n)) fine placed = none
  inputs_fit (Plain (Toned given)) fine placed = none
  inputs_fit (Plain (Timed given)) fine placed = none
  inputs_fit (Plain Sync) fine placed = none
  inputs_fit (Plain Change) fine placed = none
  inputs_fit (On_link (Linked line)) fine placed = none
  inputs_fit (On_link (Received line octets)) fine placed = All-cons (FitsLinked z.external) (Receives line octets) [] placed.2 none
  inputs_fit (On_link (Link_timed given)) fine placed = none

  abbrev are_events : Content → List Event
  are_events c = step push (events_in (plain_told told)) (event_said (plain_of c))

  events_fit : (c : Content) → IsTurnFine (in_turn told) c → IsTurnPlaced (in_turn told) c → linked_in told ≡ [] → All (Fits z.external) (events_in (plain_told told)) → All (Fits z.external) (are_events c)
  events_fit (Plain (Happens e)) fine placed unlinked all =
      All-push (Fits z.external) (events_in (plain_told told)) e all (subst (λ (v : Sizes). Fits v.external e) (same fine.0 fine.1) fine.2)
  events_fit (Plain Nothing) fine placed unlinked all = all
  events_fit (Plain (Header first)) fine placed unlinked all = all
  events_fit (Plain (Numbered n)) fine placed unlinked all = all
  events_fit (Plain (Toned given)) fine placed unlinked all = all
  events_fit (Plain (Timed given)) fine placed unlinked all = all
  events_fit (Plain Sync) fine placed unlinked all = all
  events_fit (Plain Change) fine placed unlinked all = all
  events_fit (On_link (Linked line)) fine placed unlinked all = all
  events_fit (On_link (Received line octets)) fine placed unlinked all =
      let listed : is_listed line [] ≡ true = subst (λ (ls : List ℕ). is_listed line ls ≡ true) unlinked placed.1 in
      absurd (grind (arith, listed))
  events_fit (On_link (Link_timed given)) fine placed unlinked all = all

  abbrev numbers_with : Content → List Number
  numbers_with c = step with_number (plan_of (numbers_in (plain_told told))) (number_said (plain_of c))

  numbers_fit : (c : Content) → IsTurnFine (in_turn told) c → all_targets (is_reached z.external) (plan_of (numbers_in (plain_told told))) ≡ true → all_targets (is_reached z.external) (numbers_with c) ≡ true
  numbers_fit (Plain (Numbered n)) fine all =
      let reached : is_reached z.external n.target ≡ true = subst (λ (v : Sizes). is_reached v.external n.target ≡ true) (same fine.0 fine.1) fine.2 in
      all_with (λ m. is_reached z.external m.target) (plan_of (numbers_in (plain_told told))) n all reached
  numbers_fit (Plain Nothing) fine all = all
  numbers_fit (Plain (Header first)) fine all = all
  numbers_fit (Plain (Toned given)) fine all = all
  numbers_fit (Plain (Timed given)) fine all = all
  numbers_fit (Plain (Happens e)) fine all = all
  numbers_fit (Plain Sync) fine all = all
  numbers_fit (Plain Change) fine all = all
  numbers_fit (On_link (Linked line)) fine all = all
  numbers_fit (On_link (Received line octets)) fine all = all
  numbers_fit (On_link (Link_timed given)) fine all = all

  fit_more : (c : Content) → IsTurnLine (in_turn told) c → AreFitting z told → AreFitting z (told ++ c ∷ [])
  fit_more c line are =
      let rows = plain_more told c in
      record {
        planned =
            ap (λ (ps : List Said). all_targets (is_reached z.external) (plan_of (numbers_in ps))) rows
            ∙ (ap (all_targets (is_reached z.external)) (sym (plan_more (plain_told told) (plain_of c)))
            ∙ numbers_fit c line.fine are.planned);
        events = λ unlinked.
            let before : linked_in told ≡ [] = none_before (linked_in told) (cons_option (linked_said c) []) (sym (linked_more told c) ∙ unlinked) in
            subst (All (Fits z.external)) (sym (ap events_in rows ∙ events_more (plain_told told) (plain_of c)))
            (events_fit c line.fine line.placed before (are.events before));
        inputs = subst (All (FitsLinked z.external)) (sym (inputs_more told c))
            (All-append (FitsLinked z.external) (inputs_in told) (inputs_at c) are.inputs (inputs_fit c line.fine line.placed));
      }

-- ---- all lines

told_line : (before : List Content) (row : List ℕ) (c : Content) (others : List (List ℕ)) (told : List Content) → EachInTurn before (row ∷ others) (c ∷ told) → IsTurnLine (in_turn before) c
told_line before row c others told meets = turn_line (in_turn before) row c (follows_turn before row c meets.0).says_so

plain-append : (before told : List Content) → plain_told (before ++ told) ≡ plain_told before ++ plain_told told
plain-append [] told = refl
plain-append (c ∷ before) told = ap (λ (ps : List Said). plain_of c ∷ ps) (plain-append before told)

each_fits : (z : Sizes) (before told : List Content) (rows : List (List ℕ)) → EachInTurn before rows told → sizes_in (plain_told (before ++ told)) ≡ Some z → AreFitting z before → AreFitting z (before ++ told)
each_fits z before [] [] meets known are = subst (AreFitting z) (sym (append-nil before)) are
each_fits z before [] (row ∷ rows) meets known are = absurd meets
each_fits z before (c ∷ told) [] meets known are = absurd meets
each_fits z before (c ∷ told) (row ∷ rows) meets known are =
    let same : (first : Sizes) → sizes_in (plain_told before) ≡ Some first → first ≡ z =
    λ first is.
    let there : sizes_in (plain_told (before ++ c ∷ told)) ≡ Some first = ap sizes_in (plain-append before (c ∷ told)) ∙ sizes_first (plain_told before) (plain_told (c ∷ told)) first is in
    let both : Some first ≡ Some z = sym there ∙ known in
    grind (arith, both) in
    let all : (before ++ c ∷ []) ++ told ≡ before ++ c ∷ told = append_assoc before (c ∷ []) told in
    subst (AreFitting z) all
    (each_fits z (before ++ c ∷ []) told rows meets.1 (ap (λ (l : List Content). sizes_in (plain_told l)) all ∙ known)
    (fit_more z before same c (told_line before row c rows told meets) are))

header_sizes : (z : Sizes) (before told : List Content) (rows : List (List ℕ)) → EachInTurn before rows told → sizes_in (plain_told told) ≡ Some z → AreSizes z
header_sizes z before [] [] meets known = absurd (grind (arith, known))
header_sizes z before [] (row ∷ rows) meets known = absurd meets
header_sizes z before (c ∷ told) [] meets known = absurd meets
header_sizes z before (Plain (Header first) ∷ told) (row ∷ rows) meets known =
    let same : first ≡ z = grind (arith, known) in
    subst AreSizes same (told_line before row (Plain (Header first)) rows told meets).fine
header_sizes z before (Plain Nothing ∷ told) (row ∷ rows) meets known = header_sizes z (before ++ Plain Nothing ∷ []) told rows meets.1 known
header_sizes z before (Plain (Numbered n) ∷ told) (row ∷ rows) meets known = header_sizes z (before ++ Plain (Numbered n) ∷ []) told rows meets.1 known
header_sizes z before (Plain (Toned given) ∷ told) (row ∷ rows) meets known = header_sizes z (before ++ Plain (Toned given) ∷ []) told rows meets.1 known
header_sizes z before (Plain (Timed given) ∷ told) (row ∷ rows) meets known = header_sizes z (before ++ Plain (Timed given) ∷ []) told rows meets.1 known
header_sizes z before (Plain (Happens e) ∷ told) (row ∷ rows) meets known = header_sizes z (before ++ Plain (Happens e) ∷ []) told rows meets.1 known
header_sizes z before (Plain Sync ∷ told) (row ∷ rows) meets known = header_sizes z (before ++ Plain Sync ∷ []) told rows meets.1 known
header_sizes z before (Plain Change ∷ told) (row ∷ rows) meets known = header_sizes z (before ++ Plain Change ∷ []) told rows meets.1 known
header_sizes z before (On_link (Linked line) ∷ told) (row ∷ rows) meets known = header_sizes z (before ++ On_link (Linked line) ∷ []) told rows meets.1 known
header_sizes z before (On_link (Received line octets) ∷ told) (row ∷ rows) meets known = header_sizes z (before ++ On_link (Received line octets) ∷ []) told rows meets.1 known
header_sizes z before (On_link (Link_timed given) ∷ told) (row ∷ rows) meets known = header_sizes z (before ++ On_link (Link_timed given) ∷ []) told rows meets.1 known

-- ---- the layout after them

module _ (slots : ℕ) (rows : List (List ℕ)) (told : List Content) (z : Sizes) (followed : AreFollowed slots rows told z) where
  are : AreFitting z told
  are = each_fits z [] told rows followed.meets followed.header (none_fit z)

  events_by_fit : (links : List ℕ) → linked_in told ≡ links → All (Fits z.external) (events_by links slots z told)
  events_by_fit [] is = are.events is
  events_by_fit (line ∷ links) is =
      let long = length-map-range_with_len (λ at. is_listed at (line ∷ links)) 0 z.external in
      trace_fits (setting_in_turn slots z told) (link_timers_said told) (link_row z.external (line ∷ links)) (inputs_in told) (omega (arith, long)) are.inputs

  fitting : IsFitting (setting_in_turn slots z told) (events_in_turn slots z told)
  fitting =
      let sizes = header_sizes z [] told rows followed.meets followed.header in
      record {
        sized = record { some = sizes.some; few = sizes.few; bridges = sizes.bridges; enough = followed.enough; most = followed.most };
        planned = are.planned;
        fit = events_by_fit (linked_in told) refl;
      }

  pub legal_followed : IsLegalIn (setting_in_turn slots z told).dimensions (world_in_turn slots z told)
  legal_followed = legal_reached (setting_in_turn slots z told) (events_in_turn slots z told) fitting

  pub joins_followed : JoinsCircuitsIn (setting_in_turn slots z told).dimensions (world_in_turn slots z told)
  joins_followed = joins_reached (setting_in_turn slots z told) (events_in_turn slots z told) fitting
