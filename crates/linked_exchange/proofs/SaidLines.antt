-- What is known of lines that follow one another, and of one more.
use Rattle.std.proofs.Common.{◌≡◌, ℕ, ◌≤◌, List, [], ◌∷◌, length, Some, None, Ok, refl, sym, ap, ◌∙◌, subst, arith, true}
use Rattle.number_plan.specs.Plan.{all_targets}
use Rattle.number_plan.proofs.OrderFacts.{all_with}
use Rattle.exchange_events.specs.Sound.{is_reached}
use Rattle.trace_text.specs.declared.said.Said.{Said}
use Rattle.trace_text.specs.declared.said.Said.TheVariants.{Nothing, Header, Numbered, Toned, Timed, Happens, Sync, Change}
use Rattle.trace_text.specs.declared.said.Sizes.{Sizes}
use Rattle.trace_text.specs.TraceGrammar.{changes_in, events_in, sizes_in, so_far}
use Rattle.trace_text.specs.TraceHeading.{with_event, with_said}
use Rattle.trace_text.specs.TraceLines.{SoFar, line_limits, says}
use Rattle.trace_text.proofs.SoundLemmas.{IsFine, reads_fine}
use Rattle.linked_exchange.specs.States.{IsSaid}
use Rattle.linked_exchange.proofs.FollowedLines.{says_reads}
use Rattle.linked_exchange.proofs.FollowedSteps.{AreQuiet}
use Rattle.linked_exchange.proofs.PlacedLines.{IsKnown, IsPlaced, reads_placed}

pub said_none : IsSaid (so_far [])
said_none = record {
  some = λ sizes known. absurd (grind (arith, known));
  few = λ sizes known. absurd (grind (arith, known));
  bridges = λ sizes known. absurd (grind (arith, known));
  planned = λ sizes known. absurd (grind (arith, known));
  unplanned = λ none. refl;
  no_events = λ none. refl;
  no_changes = λ none. refl;
}

module _ (k : SoFar) (is : IsSaid k) where
  pub said_more : (said : Said) → IsFine k said → IsPlaced k said → IsSaid (with_said k said)
  said_more Nothing fine placed = is
  said_more Sync fine placed = is
  said_more (Toned given) fine placed = record { some = is.some; few = is.few; bridges = is.bridges; planned = is.planned; unplanned = is.unplanned; no_events = is.no_events; no_changes = is.no_changes }
  said_more (Timed given) fine placed = record { some = is.some; few = is.few; bridges = is.bridges; planned = is.planned; unplanned = is.unplanned; no_events = is.no_events; no_changes = is.no_changes }
  said_more (Header z) fine placed = record {
    some = λ sizes known. let same : z ≡ sizes = grind (arith, known) in subst (λ (v : Sizes). 1 ≤ v.external) same fine.some;
    few = λ sizes known. let same : z ≡ sizes = grind (arith, known) in subst (λ (v : Sizes). v.external ≤ 32) same fine.few;
    bridges = λ sizes known. let same : z ≡ sizes = grind (arith, known) in subst (λ (v : Sizes). v.bridges ≤ 2) same fine.bridges;
    planned = λ sizes known. ap (all_targets (is_reached sizes.external)) (is.unplanned placed);
    unplanned = λ none. absurd (grind (arith, none));
    no_events = λ none. absurd (grind (arith, none));
    no_changes = λ none. absurd (grind (arith, none));
  }
  said_more (Numbered n) fine placed = record {
    some = is.some;
    few = is.few;
    bridges = is.bridges;
    planned = λ sizes known.
        let both : Some fine.0 ≡ Some sizes = sym fine.1 ∙ known in
        let same : fine.0 ≡ sizes = grind (arith, both) in
        let reached : is_reached sizes.external n.target ≡ true = subst (λ (v : Sizes). is_reached v.external n.target ≡ true) same fine.2 in
        all_with (λ m. is_reached sizes.external m.target) k.plan n (is.planned sizes known) reached;
    unplanned = λ none. let both : Some fine.0 ≡ None = sym fine.1 ∙ none in absurd (grind (arith, both));
    no_events = is.no_events;
    no_changes = is.no_changes;
  }
  said_more (Happens e) fine placed = record {
    some = is.some;
    few = is.few;
    bridges = is.bridges;
    planned = is.planned;
    unplanned = is.unplanned;
    no_events = λ none. let both : Some fine.0 ≡ None = sym fine.1 ∙ none in absurd (grind (arith, both));
    no_changes = is.no_changes;
  }
  said_more Change fine placed = record {
    some = is.some;
    few = is.few;
    bridges = is.bridges;
    planned = is.planned;
    unplanned = is.unplanned;
    no_events = is.no_events;
    no_changes = λ none. let both : Some placed.0 ≡ None = sym placed.1 ∙ none in absurd (grind (arith, both));
  }

  -- one more event, after the header
  pub said_event : IsKnown k → IsSaid (with_event k)
  said_event known = record {
    some = is.some;
    few = is.few;
    bridges = is.bridges;
    planned = is.planned;
    unplanned = is.unplanned;
    no_events = λ none. let both : Some known.0 ≡ None = sym known.1 ∙ none in absurd (grind (arith, both));
    no_changes = is.no_changes;
  }

-- what the checks of a line give
pub record IsLine (k : SoFar) (said : Said) : Type 0 where
  pub fine : IsFine k said
  pub placed : IsPlaced k said

pub says_line : (k : SoFar) (line : List ℕ) (said : Said) → says line_limits k line ≡ Ok said → IsLine k said
says_line k line said h =
    let read = (says_reads line_limits k line said h).0 in
    record { fine = reads_fine k line said read; placed = reads_placed k line said read }

no_length : {X : Type 0} (xs : List X) → length xs ≡ 0 → xs ≡ []
no_length [] none = refl
no_length (x ∷ xs) none = absurd (omega (arith, none))

pub quiet_before : (told : List Said) → IsSaid (so_far told) → sizes_in told ≡ None → AreQuiet told
quiet_before told is none = record { no_event = no_length (events_in told) (is.no_events none); no_change = no_length (changes_in told) (is.no_changes none) }
