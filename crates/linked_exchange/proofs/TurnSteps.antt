-- The story of lines in turn after one more line.
use Rattle.std.proofs.Common.{◌≡◌, ℕ, ◌+◌, ◌<◌, ◌≤◌, List, [], ◌∷◌, ◌++◌, length, Option, Some, None, refl, sym, ap, ◌∙◌, arith, append_assoc, true}
use Rattle.std.specs.Prelude.{All}
use Rattle.std.specs.List.{cons_option}
use Rattle.std.proofs.lemmas.List.Elements.{filter_map-append}
use Rattle.circuit_model.specs.Hears.{Plays}
use Rattle.tone_rules.specs.Tables.{table_of}
use Rattle.number_plan.specs.Plan.{is_listed}
use Rattle.exchange_events.specs.declared.trace.Event.{Event}
use Rattle.exchange_events.specs.declared.trace.Event.TheVariants.{Nail, Seat, Free, Message, LinkUp, LinkDown, RestartLine, Frame}
use Rattle.exchange_events.specs.Sizes.{Setting}
use Rattle.call_profile.specs.World.{World, start}
use Rattle.link_procedures.specs.declared.state.LinkTimers.{LinkTimers}
use Rattle.report_text.specs.RunReport.{Played}
use Rattle.meters.specs.Changing.{Step, Event_done, Meters_changed}
use Rattle.trace_text.specs.declared.said.Said.{Said}
use Rattle.trace_text.specs.declared.said.Said.TheVariants.{Nothing, Header, Numbered, Toned, Timed, Happens, Sync, Change}
use Rattle.trace_text.specs.declared.said.Sizes.{Sizes}
use Rattle.trace_text.specs.TraceGrammar.{events_in, sizes_in, so_far}
use Rattle.trace_text.specs.TraceHeading.{with_said}
use Rattle.linked_exchange.specs.Runs.{joint_after_all, start_joint}
use Rattle.linked_exchange.specs.Steps.{Joint, LinkedInput, Receives, next_joint}
use Rattle.linked_exchange.specs.LinkedLines.{after_happened, calls_of, happened_calls, happened_line, text_of}
use Rattle.linked_exchange.specs.LinkedStory.{inputs_in, inputs_of, linked_steps}
use Rattle.linked_text.specs.declared.said.LinkSaid.TheVariants.{Linked, Received, Timed as Link_timed}
use Rattle.linked_text.specs.LinkEffects.{in_turn, link_row, linked_in, linked_said, plain_told}
use Rattle.linked_text.specs.LinkLines.{Content, LinkSoFar, On_link, Plain, plain_of, with_content}
use Rattle.linked_text.specs.LinkTimers.{link_timers_by}
use Rattle.linked_exchange.specs.Told.{setting_said, steps_said, story_by, story_said}
use Rattle.linked_exchange.specs.InTurn.{first_joint, joint_said, link_timers_said, linked_story, setting_in_turn, story_by_links, story_in_turn}
use Rattle.linked_exchange.proofs.FollowedSteps.{AreQuiet, due_steps, setting_by, story_more}
use Rattle.linked_exchange.proofs.PlacedLines.{IsKnown, IsPlaced}

-- ---- one more line

pub plain_more : (told : List Content) (one : Content) → plain_told (told ++ one ∷ []) ≡ plain_told told ++ plain_of one ∷ []
plain_more [] one = refl
plain_more (first ∷ told) one = ap (λ (more : List Said). plain_of first ∷ more) (plain_more told one)

pub linked_more : (told : List Content) (one : Content) → linked_in (told ++ one ∷ []) ≡ linked_in told ++ cons_option (linked_said one) []
linked_more told one = filter_map-append linked_said told (one ∷ [])

pub with_plain : (k : LinkSoFar) (c : Content) → (with_content k c).plain ≡ with_said k.plain (plain_of c)
with_plain k (Plain said) = refl
with_plain k (On_link (Linked line)) = refl
with_plain k (On_link (Received line octets)) = refl
with_plain k (On_link (Link_timed given)) = refl

-- what is known after it, for a reader of lines without links
pub plain_known : (told : List Content) (c : Content) → with_content (in_turn told) c ≡ in_turn (told ++ c ∷ [])
    → with_said (so_far (plain_told told)) (plain_of c) ≡ so_far (plain_told told ++ plain_of c ∷ [])
plain_known told c more = sym (with_plain (in_turn told) c) ∙ (ap (λ (k : LinkSoFar). k.plain) more ∙ ap so_far (plain_more told c))

-- ---- the place of a line

-- what happens comes after the header, a link before the first event, and a frame is received on a line with a link
abbrev pub IsTurnPlaced : LinkSoFar → Content → Type 0
IsTurnPlaced k (Plain said) = IsPlaced k.plain said
IsTurnPlaced k (On_link (Linked line)) = IsKnown k.plain × (k.plain.events ≡ 0)
IsTurnPlaced k (On_link (Received line octets)) = IsKnown k.plain × (is_listed line k.linked ≡ true) × All (λ octet. octet < 256) octets
IsTurnPlaced k (On_link (Link_timed given)) = k.plain.events ≡ 0

pub plain_placed : (k : LinkSoFar) (c : Content) → IsTurnPlaced k c → IsPlaced k.plain (plain_of c)
plain_placed k (Plain said) placed = placed
plain_placed k (On_link (Linked line)) placed = tt
plain_placed k (On_link (Received line octets)) placed = placed.0
plain_placed k (On_link (Link_timed given)) placed = tt

-- ---- inputs

pub joint-append : (s : Setting) (timers : LinkTimers) (j : Joint) (is more : List LinkedInput)
    → joint_after_all s timers j (is ++ more) ≡ joint_after_all s timers (joint_after_all s timers j is) more
joint-append s timers j [] more = refl
joint-append s timers j (i ∷ is) more = joint-append s timers (next_joint s timers j i) is more

pub after_inputs : (p : Played) (s : Setting) (timers : LinkTimers) (j : Joint) (e : Event) → after_happened p s timers j e ≡ joint_after_all s timers j (inputs_of e)
after_inputs p s timers j (Nail one other) = refl
after_inputs p s timers j (Seat at number) = refl
after_inputs p s timers j (Free at) = refl
after_inputs p s timers j (Message line octets) = refl
after_inputs p s timers j (LinkUp line) = refl
after_inputs p s timers j (LinkDown line) = refl
after_inputs p s timers j (RestartLine line) = refl
after_inputs p s timers j (Frame input) = refl

-- the inputs of one line
abbrev pub inputs_at : Content → List LinkedInput
inputs_at c = inputs_in (c ∷ [])

pub inputs_more : (told : List Content) (c : Content) → inputs_in (told ++ c ∷ []) ≡ inputs_in told ++ inputs_at c
inputs_more [] c = refl
inputs_more (Plain (Happens e) ∷ told) c = ap (λ (is : List LinkedInput). inputs_of e ++ is) (inputs_more told c) ∙ sym (append_assoc (inputs_of e) (inputs_in told) (inputs_at c))
inputs_more (On_link (Received line octets) ∷ told) c = ap (λ (is : List LinkedInput). Receives line octets ∷ is) (inputs_more told c)
inputs_more (On_link (Linked line) ∷ told) c = inputs_more told c
inputs_more (On_link (Link_timed given) ∷ told) c = inputs_more told c
inputs_more (Plain Nothing ∷ told) c = inputs_more told c
inputs_more (Plain (Header z) ∷ told) c = inputs_more told c
inputs_more (Plain (Numbered n) ∷ told) c = inputs_more told c
inputs_more (Plain (Toned given) ∷ told) c = inputs_more told c
inputs_more (Plain (Timed given) ∷ told) c = inputs_more told c
inputs_more (Plain Sync ∷ told) c = inputs_more told c
inputs_more (Plain Change ∷ told) c = inputs_more told c

pub no_inputs : (told : List Content) → events_in (plain_told told) ≡ [] → inputs_in told ≡ []
no_inputs [] none = refl
no_inputs (Plain (Happens e) ∷ told) none = absurd (grind (arith, none))
no_inputs (On_link (Received line octets) ∷ told) none = absurd (grind (arith, none))
no_inputs (On_link (Linked line) ∷ told) none = no_inputs told none
no_inputs (On_link (Link_timed given) ∷ told) none = no_inputs told none
no_inputs (Plain Nothing ∷ told) none = no_inputs told none
no_inputs (Plain (Header z) ∷ told) none = no_inputs told none
no_inputs (Plain (Numbered n) ∷ told) none = no_inputs told none
no_inputs (Plain (Toned given) ∷ told) none = no_inputs told none
no_inputs (Plain (Timed given) ∷ told) none = no_inputs told none
no_inputs (Plain Sync ∷ told) none = no_inputs told none
no_inputs (Plain Change ∷ told) none = no_inputs told none

-- ---- steps

module _ (p : Played) (s : Setting) (timers : LinkTimers) where
  pub linked_push : (j : Joint) (n : ℕ) (told : List Content) (c : Content)
      → linked_steps p s timers j n (told ++ c ∷ []) ≡ linked_steps p s timers j n told ++ linked_steps p s timers (joint_after_all s timers j (inputs_in told)) (n + length (events_in (plain_told told))) (c ∷ [])
  linked_push j n [] c = let none : n ≡ n + 0 = omega arith in ap (λ k. linked_steps p s timers j k (c ∷ [])) none
  linked_push j n (Plain (Happens e) ∷ told) c =
      let line = Event_done (happened_line p s timers j (n + 1) e) (happened_calls p s timers j e) in
      let count : n + 1 + length (events_in (plain_told told)) ≡ n + length (e ∷ events_in (plain_told told)) = omega arith in
      let after : joint_after_all s timers (after_happened p s timers j e) (inputs_in told) ≡ joint_after_all s timers j (inputs_of e ++ inputs_in told) =
      ap (λ (v : Joint). joint_after_all s timers v (inputs_in told)) (after_inputs p s timers j e) ∙ sym (joint-append s timers j (inputs_of e) (inputs_in told)) in
      ap (λ (l : List Step). line ∷ l) (linked_push (after_happened p s timers j e) (n + 1) told c
      ∙ (λ i. linked_steps p s timers (after_happened p s timers j e) (n + 1) told ++ linked_steps p s timers (after i) (count i) (c ∷ [])))
  linked_push j n (On_link (Received line octets) ∷ told) c =
      let row = Event_done (text_of s timers j (n + 1) (Receives line octets)) (calls_of s timers j (Receives line octets)) in
      let next = next_joint s timers j (Receives line octets) in
      let count : n + 1 + length (events_in (plain_told told)) ≡ n + length (Message line octets ∷ events_in (plain_told told)) = omega arith in
      ap (λ (l : List Step). row ∷ l) (linked_push next (n + 1) told c
      ∙ ap (λ k. linked_steps p s timers next (n + 1) told ++ linked_steps p s timers (joint_after_all s timers next (inputs_in told)) k (c ∷ [])) count)
  linked_push j n (Plain Change ∷ told) c = ap (λ (l : List Step). Meters_changed ∷ l) (linked_push j n told c)
  linked_push j n (On_link (Linked line) ∷ told) c = linked_push j n told c
  linked_push j n (On_link (Link_timed given) ∷ told) c = linked_push j n told c
  linked_push j n (Plain Nothing ∷ told) c = linked_push j n told c
  linked_push j n (Plain (Header z) ∷ told) c = linked_push j n told c
  linked_push j n (Plain (Numbered m) ∷ told) c = linked_push j n told c
  linked_push j n (Plain (Toned given) ∷ told) c = linked_push j n told c
  linked_push j n (Plain (Timed given) ∷ told) c = linked_push j n told c
  linked_push j n (Plain Sync ∷ told) c = linked_push j n told c

  -- before the first event they are the changes of meters
  pub linked_early : (q : Played) (t : Setting) (j : Joint) (w : World) (n m : ℕ) (told : List Content) → events_in (plain_told told) ≡ []
      → linked_steps p s timers j n told ≡ steps_said q t w m (plain_told told)
  linked_early q t j w n m [] none = refl
  linked_early q t j w n m (Plain (Happens e) ∷ told) none = absurd (grind (arith, none))
  linked_early q t j w n m (On_link (Received line octets) ∷ told) none = absurd (grind (arith, none))
  linked_early q t j w n m (Plain Change ∷ told) none = ap (λ (l : List Step). Meters_changed ∷ l) (linked_early q t j w n m told none)
  linked_early q t j w n m (On_link (Linked line) ∷ told) none = linked_early q t j w n m told none
  linked_early q t j w n m (On_link (Link_timed given) ∷ told) none = linked_early q t j w n m told none
  linked_early q t j w n m (Plain Nothing ∷ told) none = linked_early q t j w n m told none
  linked_early q t j w n m (Plain (Header z) ∷ told) none = linked_early q t j w n m told none
  linked_early q t j w n m (Plain (Numbered x) ∷ told) none = linked_early q t j w n m told none
  linked_early q t j w n m (Plain (Toned given) ∷ told) none = linked_early q t j w n m told none
  linked_early q t j w n m (Plain (Timed given) ∷ told) none = linked_early q t j w n m told none
  linked_early q t j w n m (Plain Sync ∷ told) none = linked_early q t j w n m told none

-- ---- the story

-- the steps and the joint of what is known
module _ (plays : Plays) (slots : ℕ) (z : Sizes) where
  abbrev steps_by : LinkSoFar → List Content → List Step
  steps_by k told =
      let s = setting_by slots z k.plain in linked_steps (plays (table_of s.tones)) s (link_timers_by k.timers) (start_joint s (link_row z.external k.linked)) 0 told

abbrev pub joint_by : ℕ → Sizes → LinkSoFar → List LinkedInput → Joint
joint_by slots z k is =
    let s = setting_by slots z k.plain in joint_after_all s (link_timers_by k.timers) (start_joint s (link_row z.external k.linked)) is

pub no_events : (es : List Event) → length es ≡ 0 → es ≡ []
no_events [] none = refl
no_events (e ∷ es) none = absurd (omega (arith, none))

module _ (plays : Plays) (slots : ℕ) (told : List Content) where
  -- the steps of one more line, with links
  abbrev pub linked_due : Option Sizes → Content → List Step
  linked_due None c = []
  linked_due (Some z) c =
      let s = setting_in_turn slots z told in
      linked_steps (plays (table_of s.tones)) s (link_timers_said told) (joint_said slots z told) (length (events_in (plain_told told))) (c ∷ [])

  abbrev pub due_by_links : List ℕ → Content → List Step
  due_by_links [] c = due_steps plays slots (plain_told told) (plain_of c)
  due_by_links (line ∷ lines) c = linked_due (sizes_in (plain_told told)) c

  abbrev pub due_in_turn : Content → List Step
  due_in_turn c = due_by_links (linked_in told) c

  module _ (c : Content) (more : with_content (in_turn told) c ≡ in_turn (told ++ c ∷ [])) where
    abbrev all : List Content
    all = told ++ c ∷ []

    linked_all : linked_in all ≡ (with_content (in_turn told) c).linked
    linked_all = ap (λ (k : LinkSoFar). k.linked) (sym more)

    -- no line has a link
    story_unlinked : linked_in told ≡ [] → (with_content (in_turn told) c).linked ≡ [] → IsPlaced (so_far (plain_told told)) (plain_of c)
        → (sizes_in (plain_told told) ≡ None → AreQuiet (plain_told told)) → story_in_turn plays slots all ≡ story_in_turn plays slots told ++ due_in_turn c
    story_unlinked none still placed quiet =
        ap (λ (ls : List ℕ). story_by_links plays slots ls all) (linked_all ∙ still)
        ∙ (ap (story_said plays slots) (plain_more told c)
        ∙ (story_more plays slots (plain_told told) (plain_of c) (plain_known told c more) placed quiet
        ∙ (λ i. story_by_links plays slots (sym none i) told ++ due_by_links (sym none i) c)))

    -- the first link is given
    story_linked : (line : ℕ) (lines : List ℕ) (z : Sizes) → linked_in told ≡ [] → (with_content (in_turn told) c).linked ≡ line ∷ lines → sizes_in (plain_told told) ≡ Some z
        → (with_content (in_turn told) c).plain.sizes ≡ Some z → events_in (plain_told told) ≡ []
        → ((p : Played) (s : Setting) (timers : LinkTimers) (j : Joint) (n : ℕ) → linked_steps p s timers j n (c ∷ []) ≡ []) → due_steps plays slots (plain_told told) (plain_of c) ≡ []
        → story_in_turn plays slots all ≡ story_in_turn plays slots told ++ due_in_turn c
    story_linked line lines z none some known still early silent also =
        let s = setting_in_turn slots z all in
        let p = plays (table_of s.tones) in
        let timers = link_timers_said all in
        let j = first_joint slots z all in
        let t = setting_said slots z (plain_told told) in
        let header : sizes_in (plain_told all) ≡ Some z = ap (λ (k : LinkSoFar). k.plain.sizes) (sym more) ∙ still in
        ap (λ (ls : List ℕ). story_by_links plays slots ls all) (linked_all ∙ some)
        ∙ (ap (λ (o : Option Sizes). linked_story plays slots o all) header
        ∙ (linked_push p s timers j 0 told c
        ∙ ((λ i. linked_early p s timers (plays (table_of t.tones)) t j (start t.dimensions) 0 0 told early i ++ silent p s timers (joint_after_all s timers j (inputs_in told)) (0 + length (events_in (plain_told told))) i)
        ∙ ((λ i. story_by plays slots (sym known i) (plain_told told) ++ sym also i)
        ∙ (λ i. story_by_links plays slots (sym none i) told ++ due_by_links (sym none i) c)))))

    -- with links, if the setting is unchanged
    story_stays : (line : ℕ) (lines others : List ℕ) (z : Sizes) → linked_in told ≡ line ∷ lines → (with_content (in_turn told) c).linked ≡ line ∷ others → sizes_in (plain_told told) ≡ Some z
        → (with_content (in_turn told) c).plain.sizes ≡ Some z → steps_by plays slots z (with_content (in_turn told) c) all ≡ steps_by plays slots z (in_turn told) all
        → story_in_turn plays slots all ≡ story_in_turn plays slots told ++ due_in_turn c
    story_stays line lines others z some later known still same =
        let s = setting_in_turn slots z told in
        let p = plays (table_of s.tones) in
        let header : sizes_in (plain_told all) ≡ Some z = ap (λ (k : LinkSoFar). k.plain.sizes) (sym more) ∙ still in
        let first : 0 + length (events_in (plain_told told)) ≡ length (events_in (plain_told told)) = omega arith in
        ap (λ (ls : List ℕ). story_by_links plays slots ls all) (linked_all ∙ later)
        ∙ (ap (λ (o : Option Sizes). linked_story plays slots o all) header
        ∙ (ap (λ (k : LinkSoFar). steps_by plays slots z k all) (sym more)
        ∙ (same
        ∙ (linked_push p s (link_timers_said told) (first_joint slots z told) 0 told c
        ∙ (ap (λ k. linked_steps p s (link_timers_said told) (first_joint slots z told) 0 told ++ linked_steps p s (link_timers_said told) (joint_said slots z told) k (c ∷ [])) first
        ∙ ((λ i. linked_story plays slots (sym known i) told ++ linked_due (sym known i) c)
        ∙ (λ i. story_by_links plays slots (sym some i) told ++ due_by_links (sym some i) c)))))))

    -- with links, if the setting changes before the first event
    story_early : (line : ℕ) (lines others : List ℕ) (z : Sizes) → linked_in told ≡ line ∷ lines → (with_content (in_turn told) c).linked ≡ line ∷ others → sizes_in (plain_told told) ≡ Some z
        → (with_content (in_turn told) c).plain.sizes ≡ Some z → events_in (plain_told told) ≡ []
        → ((p : Played) (s : Setting) (timers : LinkTimers) (j : Joint) (n : ℕ) → linked_steps p s timers j n (c ∷ []) ≡ [])
        → story_in_turn plays slots all ≡ story_in_turn plays slots told ++ due_in_turn c
    story_early line lines others z some later known still early silent =
        let s = setting_in_turn slots z all in
        let p = plays (table_of s.tones) in
        let timers = link_timers_said all in
        let j = first_joint slots z all in
        let t = setting_in_turn slots z told in
        let q = plays (table_of t.tones) in
        let us = link_timers_said told in
        let i0 = first_joint slots z told in
        let w = start t.dimensions in
        let header : sizes_in (plain_told all) ≡ Some z = ap (λ (k : LinkSoFar). k.plain.sizes) (sym more) ∙ still in
        let steps : linked_steps p s timers j 0 told ≡ linked_steps q t us i0 0 told =
        linked_early p s timers q t j w 0 0 told early ∙ sym (linked_early q t us q t i0 w 0 0 told early) in
        let none : linked_steps p s timers (joint_after_all s timers j (inputs_in told)) (0 + length (events_in (plain_told told))) (c ∷ [])
        ≡ linked_steps q t us (joint_said slots z told) (length (events_in (plain_told told))) (c ∷ []) =
        silent p s timers (joint_after_all s timers j (inputs_in told)) (0 + length (events_in (plain_told told))) ∙ sym (silent q t us (joint_said slots z told) (length (events_in (plain_told told)))) in
        ap (λ (ls : List ℕ). story_by_links plays slots ls all) (linked_all ∙ later)
        ∙ (ap (λ (o : Option Sizes). linked_story plays slots o all) header
        ∙ (linked_push p s timers j 0 told c
        ∙ ((λ i. steps i ++ none i)
        ∙ ((λ i. linked_story plays slots (sym known i) told ++ linked_due (sym known i) c)
        ∙ (λ i. story_by_links plays slots (sym some i) told ++ due_by_links (sym some i) c)))))

  unlisted : (line : ℕ) (lines : List ℕ) → lines ≡ [] → is_listed line lines ≡ true → ⊥
  unlisted line [] none listed = absurd (grind (arith, listed))
  unlisted line (x ∷ lines) none listed = absurd (grind (arith, none))

  silent_due : (o : Option Sizes) → sizes_in (plain_told told) ≡ o → due_steps plays slots (plain_told told) Nothing ≡ []
  silent_due None is = ap (λ (v : Option Sizes). Rattle.linked_exchange.proofs.FollowedSteps.due_by plays slots (plain_told told) v Nothing) is
  silent_due (Some z) is = ap (λ (v : Option Sizes). Rattle.linked_exchange.proofs.FollowedSteps.due_by plays slots (plain_told told) v Nothing) is

  -- by the links so far
  more_by : (lines : List ℕ) → linked_in told ≡ lines → (1 ≤ length lines → IsKnown (so_far (plain_told told)))
      → (c : Content) → with_content (in_turn told) c ≡ in_turn (told ++ c ∷ []) → IsTurnPlaced (in_turn told) c → (sizes_in (plain_told told) ≡ None → AreQuiet (plain_told told))
      → story_in_turn plays slots (told ++ c ∷ []) ≡ story_in_turn plays slots told ++ due_in_turn c
  more_by [] is first (Plain said) more placed quiet = story_unlinked (Plain said) more is is placed quiet
  more_by [] is first (On_link (Linked line)) more placed quiet =
      story_linked (On_link (Linked line)) more line [] placed.0.0 is (ap (λ (ls : List ℕ). ls ++ line ∷ []) is) placed.0.1 placed.0.1 (no_events (events_in (plain_told told)) placed.1) (λ p s timers j n. refl)
      (silent_due (Some placed.0.0) placed.0.1)
  more_by [] is first (On_link (Received line octets)) more placed quiet = absurd (unlisted line (linked_in told) is placed.1)
  more_by [] is first (On_link (Link_timed given)) more placed quiet = story_unlinked (On_link (Link_timed given)) more is is tt quiet
  more_by (l ∷ ls) is first (Plain Nothing) more placed quiet = let known = first (omega arith) in story_stays (Plain Nothing) more l ls ls known.0 is is known.1 known.1 refl
  more_by (l ∷ ls) is first (Plain Sync) more placed quiet = let known = first (omega arith) in story_stays (Plain Sync) more l ls ls known.0 is is known.1 known.1 refl
  more_by (l ∷ ls) is first (Plain Change) more placed quiet = story_stays (Plain Change) more l ls ls placed.0 is is placed.1 placed.1 refl
  more_by (l ∷ ls) is first (Plain (Happens e)) more placed quiet = story_stays (Plain (Happens e)) more l ls ls placed.0 is is placed.1 placed.1 refl
  more_by (l ∷ ls) is first (Plain (Header z)) more placed quiet = let known = first (omega arith) in let both : None ≡ Some known.0 = sym placed ∙ known.1 in absurd (grind (arith, both))
  more_by (l ∷ ls) is first (Plain (Numbered n)) more placed quiet = let known = first (omega arith) in story_early (Plain (Numbered n)) more l ls ls known.0 is is known.1 known.1 (no_events (events_in (plain_told told)) placed) (λ p s timers j k. refl)
  more_by (l ∷ ls) is first (Plain (Toned given)) more placed quiet = let known = first (omega arith) in story_early (Plain (Toned given)) more l ls ls known.0 is is known.1 known.1 (no_events (events_in (plain_told told)) placed) (λ p s timers j k. refl)
  more_by (l ∷ ls) is first (Plain (Timed given)) more placed quiet = let known = first (omega arith) in story_early (Plain (Timed given)) more l ls ls known.0 is is known.1 known.1 (no_events (events_in (plain_told told)) placed) (λ p s timers j k. refl)
  more_by (l ∷ ls) is first (On_link (Linked line)) more placed quiet =
      story_early (On_link (Linked line)) more l ls (ls ++ line ∷ []) placed.0.0 is (ap (λ (xs : List ℕ). xs ++ line ∷ []) is) placed.0.1 placed.0.1 (no_events (events_in (plain_told told)) placed.1) (λ p s timers j k. refl)
  more_by (l ∷ ls) is first (On_link (Received line octets)) more placed quiet = story_stays (On_link (Received line octets)) more l ls ls placed.0.0 is is placed.0.1 placed.0.1 refl
  more_by (l ∷ ls) is first (On_link (Link_timed given)) more placed quiet =
      let known = first (omega arith) in story_early (On_link (Link_timed given)) more l ls ls known.0 is is known.1 known.1 (no_events (events_in (plain_told told)) placed) (λ p s timers j k. refl)

  pub turn_more : (1 ≤ length (linked_in told) → IsKnown (so_far (plain_told told))) → (c : Content) → with_content (in_turn told) c ≡ in_turn (told ++ c ∷ []) → IsTurnPlaced (in_turn told) c
      → (sizes_in (plain_told told) ≡ None → AreQuiet (plain_told told)) → story_in_turn plays slots (told ++ c ∷ []) ≡ story_in_turn plays slots told ++ due_in_turn c
  turn_more first c more placed quiet = more_by (linked_in told) refl first c more placed quiet
