-- The story of lines after one more line.
use Rattle.std.proofs.Common.{◌≡◌, ℕ, ◌+◌, List, [], ◌∷◌, ◌++◌, length, Option, Some, None, refl, sym, ap, ◌∙◌, arith, append-nil}
use Rattle.circuit_model.specs.Hears.{Plays}
use Rattle.tone_rules.specs.Tables.{table_of}
use Rattle.exchange_events.specs.declared.trace.Event.{Event}
use Rattle.exchange_events.specs.Kept.{kept_of}
use Rattle.exchange_events.specs.Sizes.{Setting}
use Rattle.call_profile.specs.CallsTold.{calls_kept}
use Rattle.call_profile.specs.Step.{next, reply, world_after_all}
use Rattle.call_profile.specs.World.{World, start}
use Rattle.report_text.specs.RunReport.{Played, event_line}
use Rattle.meters.specs.Changing.{Step, Event_done, Meters_changed}
use Rattle.trace_text.specs.declared.said.Said.{Said}
use Rattle.trace_text.specs.declared.said.Said.TheVariants.{Nothing, Header, Numbered, Toned, Timed, Happens, Sync, Change}
use Rattle.trace_text.specs.declared.said.Sizes.{Sizes}
use Rattle.trace_text.specs.TraceGrammar.{changes_after, changes_in, events_in, sizes_in, so_far}
use Rattle.trace_text.specs.TraceHeading.{with_said}
use Rattle.trace_text.specs.TraceLines.{SoFar}
use Rattle.trace_text.specs.TraceTimers.{timers_by}
use Rattle.linked_exchange.specs.Told.{setting_said, steps_said, story_by, story_said, world_said}
use Rattle.linked_exchange.proofs.PlacedLines.{IsPlaced}

-- ---- steps and one more line

module _ (played : Played) where
  pub steps_push : (s : Setting) (w : World) (n : ℕ) (told : List Said) (said : Said)
      → steps_said played s w n (told ++ said ∷ []) ≡ steps_said played s w n told ++ steps_said played s (world_after_all s w (events_in told)) (n + length (events_in told)) (said ∷ [])
  steps_push s w n [] said = let none : n ≡ n + 0 = omega arith in ap (λ k. steps_said played s w k (said ∷ [])) none
  steps_push s w n (Happens e ∷ told) said =
      let line = Event_done (event_line played s w (n + 1) e) (calls_kept (kept_of (reply s w e))) in
      let count : n + 1 + length (events_in told) ≡ n + length (e ∷ events_in told) = omega arith in
      ap (λ (l : List Step). line ∷ l) (steps_push s (next s w e) (n + 1) told said
      ∙ ap (λ k. steps_said played s (next s w e) (n + 1) told ++ steps_said played s (world_after_all s (next s w e) (events_in told)) k (said ∷ [])) count)
  steps_push s w n (Change ∷ told) said = ap (λ (l : List Step). Meters_changed ∷ l) (steps_push s w n told said)
  steps_push s w n (Nothing ∷ told) said = steps_push s w n told said
  steps_push s w n (Header sizes ∷ told) said = steps_push s w n told said
  steps_push s w n (Numbered number ∷ told) said = steps_push s w n told said
  steps_push s w n (Toned given ∷ told) said = steps_push s w n told said
  steps_push s w n (Timed given ∷ told) said = steps_push s w n told said
  steps_push s w n (Sync ∷ told) said = steps_push s w n told said

-- before the first event they depend on no setting
steps_early : (p q : Played) (s t : Setting) (w v : World) (n m : ℕ) (told : List Said) → events_in told ≡ [] → steps_said p s w n told ≡ steps_said q t v m told
steps_early p q s t w v n m [] none = refl
steps_early p q s t w v n m (Happens e ∷ told) none = absurd (grind (arith, none))
steps_early p q s t w v n m (Change ∷ told) none = ap (λ (l : List Step). Meters_changed ∷ l) (steps_early p q s t w v n m told none)
steps_early p q s t w v n m (Nothing ∷ told) none = steps_early p q s t w v n m told none
steps_early p q s t w v n m (Header sizes ∷ told) none = steps_early p q s t w v n m told none
steps_early p q s t w v n m (Numbered number ∷ told) none = steps_early p q s t w v n m told none
steps_early p q s t w v n m (Toned given ∷ told) none = steps_early p q s t w v n m told none
steps_early p q s t w v n m (Timed given ∷ told) none = steps_early p q s t w v n m told none
steps_early p q s t w v n m (Sync ∷ told) none = steps_early p q s t w v n m told none

-- without an event and a change there is none
steps_quiet : (p : Played) (s : Setting) (w : World) (n k : ℕ) (told : List Said) → events_in told ≡ [] → changes_after k told ≡ [] → steps_said p s w n told ≡ []
steps_quiet p s w n k [] none same = refl
steps_quiet p s w n k (Happens e ∷ told) none same = absurd (grind (arith, none))
steps_quiet p s w n k (Change ∷ told) none same = absurd (grind (arith, same))
steps_quiet p s w n k (Nothing ∷ told) none same = steps_quiet p s w n k told none same
steps_quiet p s w n k (Header sizes ∷ told) none same = steps_quiet p s w n k told none same
steps_quiet p s w n k (Numbered number ∷ told) none same = steps_quiet p s w n k told none same
steps_quiet p s w n k (Toned given ∷ told) none same = steps_quiet p s w n k told none same
steps_quiet p s w n k (Timed given ∷ told) none same = steps_quiet p s w n k told none same
steps_quiet p s w n k (Sync ∷ told) none same = steps_quiet p s w n k told none same

-- ---- the setting of what is known

abbrev pub setting_by : ℕ → Sizes → SoFar → Setting
setting_by slots sizes k = record {
  dimensions = record { external = sizes.external; bridges = sizes.bridges; slots = slots };
  plan = k.plan;
  tones = k.tones;
  timers = timers_by k.timers;
}

-- no event and no change was said
pub record AreQuiet (told : List Said) : Type 0 where
  pub no_event : events_in told ≡ []
  pub no_change : changes_in told ≡ []

no_events : (es : List Event) → length es ≡ 0 → es ≡ []
no_events [] none = refl
no_events (e ∷ es) none = absurd (omega (arith, none))

module _ (plays : Plays) (slots : ℕ) (told : List Said) where
  -- the steps of one more line
  abbrev pub due_by : Option Sizes → Said → List Step
  due_by None said = []
  due_by (Some sizes) said =
      let s = setting_said slots sizes told in steps_said (plays (table_of s.tones)) s (world_said slots sizes told) (length (events_in told)) (said ∷ [])

  abbrev pub due_steps : Said → List Step
  due_steps said = due_by (sizes_in told) said

  module _ (said : Said) (more : with_said (so_far told) said ≡ so_far (told ++ said ∷ [])) where
    -- if the setting stays
    story_said_stays : (sizes : Sizes) → sizes_in told ≡ Some sizes → (with_said (so_far told) said).sizes ≡ Some sizes
        → setting_by slots sizes (with_said (so_far told) said) ≡ setting_said slots sizes told
        → story_said plays slots (told ++ said ∷ []) ≡ story_said plays slots told ++ due_steps said
    story_said_stays sizes known still same =
        let all = told ++ said ∷ [] in
        let s = setting_said slots sizes told in
        let header : sizes_in all ≡ Some sizes = ap (λ (k : SoFar). k.sizes) (sym more) ∙ still in
        let setting : setting_said slots sizes all ≡ s = ap (λ (k : SoFar). setting_by slots sizes k) (sym more) ∙ same in
        let first : 0 + length (events_in told) ≡ length (events_in told) = omega arith in
        ap (λ (o : Option Sizes). story_by plays slots o all) header
        ∙ (ap (λ (at : Setting). steps_said (plays (table_of at.tones)) at (start at.dimensions) 0 all) setting
        ∙ (steps_push (plays (table_of s.tones)) s (start s.dimensions) 0 told said
        ∙ (ap (λ k. steps_said (plays (table_of s.tones)) s (start s.dimensions) 0 told ++ steps_said (plays (table_of s.tones)) s (world_said slots sizes told) k (said ∷ [])) first
        ∙ (λ i. story_by plays slots (sym known i) told ++ due_by (sym known i) said))))

    -- if the setting changes before the first event
    story_said_early : (sizes : Sizes) → sizes_in told ≡ Some sizes → (with_said (so_far told) said).sizes ≡ Some sizes → events_in told ≡ []
        → ((p : Played) (s : Setting) (w : World) (n : ℕ) → steps_said p s w n (said ∷ []) ≡ [])
        → story_said plays slots (told ++ said ∷ []) ≡ story_said plays slots told ++ due_steps said
    story_said_early sizes known still none silent =
        let all = told ++ said ∷ [] in
        let s = setting_said slots sizes told in
        let t = setting_said slots sizes all in
        let p = plays (table_of s.tones) in
        let q = plays (table_of t.tones) in
        let header : sizes_in all ≡ Some sizes = ap (λ (k : SoFar). k.sizes) (sym more) ∙ still in
        ap (λ (o : Option Sizes). story_by plays slots o all) header
        ∙ (steps_push q t (start t.dimensions) 0 told said
        ∙ ((λ i. steps_early q p t s (start t.dimensions) (start s.dimensions) 0 0 told none i ++ (silent q t (world_after_all t (start t.dimensions) (events_in told)) (0 + length (events_in told)) ∙ sym (silent p s (world_said slots sizes told) (length (events_in told)))) i)
        ∙ (λ i. story_by plays slots (sym known i) told ++ due_by (sym known i) said)))

    -- before the header nothing happens
    story_said_unheard : sizes_in told ≡ None → (with_said (so_far told) said).sizes ≡ None → story_said plays slots (told ++ said ∷ []) ≡ story_said plays slots told ++ due_steps said
    story_said_unheard none still =
        let all = told ++ said ∷ [] in
        let header : sizes_in all ≡ None = ap (λ (k : SoFar). k.sizes) (sym more) ∙ still in
        ap (λ (o : Option Sizes). story_by plays slots o all) header ∙ (λ i. story_by plays slots (sym none i) told ++ due_by (sym none i) said)

  story_said_by_header : (said : Said) (o : Option Sizes) → sizes_in told ≡ o → with_said (so_far told) said ≡ so_far (told ++ said ∷ [])
      → ((sizes : Sizes) → sizes_in told ≡ Some sizes → story_said plays slots (told ++ said ∷ []) ≡ story_said plays slots told ++ due_steps said)
      → (with_said (so_far told) said).sizes ≡ sizes_in told → story_said plays slots (told ++ said ∷ []) ≡ story_said plays slots told ++ due_steps said
  story_said_by_header said None is more some still = story_said_unheard said more is (still ∙ is)
  story_said_by_header said (Some sizes) is more some still = some sizes is

  pub story_more : (said : Said) → with_said (so_far told) said ≡ so_far (told ++ said ∷ []) → IsPlaced (so_far told) said → (sizes_in told ≡ None → AreQuiet told)
      → story_said plays slots (told ++ said ∷ []) ≡ story_said plays slots told ++ due_steps said
  story_more Nothing more placed quiet = story_said_by_header Nothing (sizes_in told) refl more (λ sizes known. story_said_stays Nothing more sizes known known refl) refl
  story_more Sync more placed quiet = story_said_by_header Sync (sizes_in told) refl more (λ sizes known. story_said_stays Sync more sizes known known refl) refl
  story_more (Happens e) more placed quiet = story_said_stays (Happens e) more placed.0 placed.1 placed.1 refl
  story_more Change more placed quiet = story_said_stays Change more placed.0 placed.1 placed.1 refl
  story_more (Numbered n) more placed quiet = story_said_by_header (Numbered n) (sizes_in told) refl more (λ sizes known. story_said_early (Numbered n) more sizes known known (no_events (events_in told) placed) (λ p s w k. refl)) refl
  story_more (Toned given) more placed quiet = story_said_by_header (Toned given) (sizes_in told) refl more (λ sizes known. story_said_early (Toned given) more sizes known known (no_events (events_in told) placed) (λ p s w k. refl)) refl
  story_more (Timed given) more placed quiet = story_said_by_header (Timed given) (sizes_in told) refl more (λ sizes known. story_said_early (Timed given) more sizes known known (no_events (events_in told) placed) (λ p s w k. refl)) refl
  story_more (Header z) more placed quiet =
      let all = told ++ Header z ∷ [] in
      let t = setting_said slots z all in
      let q = plays (table_of t.tones) in
      let w = start t.dimensions in
      let still = quiet placed in
      let header : sizes_in all ≡ Some z = ap (λ (k : SoFar). k.sizes) (sym more) in
      ap (λ (o : Option Sizes). story_by plays slots o all) header
      ∙ (steps_push q t w 0 told (Header z)
      ∙ (append-nil (steps_said q t w 0 told) ∙ (steps_quiet q t w 0 0 told still.no_event still.no_change
      ∙ (λ i. story_by plays slots (sym placed i) told ++ due_by (sym placed i) (Header z)))))
