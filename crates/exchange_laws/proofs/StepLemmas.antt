-- A step of an exchange with data links, as a step of the link of one line.
use Rattle.std.proofs.Common.{◌≡◌, ◌≢◌, ◌⊎◌, ℕ, List, [], ◌∷◌, refl, sym, ap, ◌∙◌, subst, inl, inr, Some, None, eq-eqb, if◌then◌else◌}
use Rattle.std.specs.Prelude.{Option, slice_index_or, ◌==◌}
use Rattle.std.proofs.lemmas.Bool.{cases_eq, ne_eqb}
use Rattle.exchange_events.specs.declared.signal.Signal.{Signal}
use Rattle.exchange_events.specs.Sizes.{Setting}
use Rattle.link_frames.specs.declared.frame.Frame.{Frame}
use Rattle.link_frames.specs.declared.frame.Sender.TheVariants.{User}
use Rattle.link_frames.specs.Reading.{reading}
use Rattle.link_procedures.specs.declared.state.LinkTimers.{LinkTimers}
use Rattle.link_procedures.specs.Links.{DataLink, Step, step}
use Rattle.link_procedures.specs.Sending.{finished}
use Rattle.link_procedures.specs.Establishment.{Outcome, quietly, submitted}
use Rattle.link_procedures.specs.Receiving.{received}
use Rattle.link_procedures.specs.Timing.{turned}
use Rattle.link_table.specs.Tables.{Table, IsLinkOf, link_of}
use Rattle.link_table.specs.Steps.{begun, received_in, received_on, submitted_in, submitted_on, finished_at, turned_in, line_of_turn}
use Rattle.link_table.specs.Rest.{IsAtRest}
use Rattle.link_table.proofs.RestLemmas.{rest_finished, submitted_rest, turned_rest}
use Rattle.linked_exchange.specs.Steps.{Joint, LinkedInput, Happens, Receives, Turns, derived, frames_so_far, links_begun, next_joint, reply_to, sends_of, submitted_all, world_after}
use Rattle.exchange_laws.specs.Peers.{messages_to}
use Rattle.exchange_laws.proofs.LineLemmas.{AtLine, at_begun, first_here, received_beside, turned_beside, all_to, at_submitted, finished_here, finished_beside}

-- ---- the link of the line, before the messages of the step

abbrev pub outcome_read : DataLink → ℕ → Option Frame → Outcome
outcome_read l at None = quietly (step l [])
outcome_read l at (Some f) = received f at (step l [])

abbrev pub outcome_in : ℕ → LinkTimers → Joint → DataLink → LinkedInput → Outcome
outcome_in line timers j l (Happens e) = quietly (step l [])
outcome_in line timers j l (Receives n octets) = if n == line then outcome_read l (frames_so_far j) (reading User octets) else quietly (step l [])
outcome_in line timers j l Turns = if line_of_turn (frames_so_far j) == line then turned timers (frames_so_far j) (step l []) else quietly (step l [])

-- the end of the step concerns the link, or the link is at rest
data Ends (line : ℕ) (receiving : Option ℕ) (l : DataLink) : Type 0 where
  Quiet : receiving ≡ None → IsAtRest l → Ends line receiving l
  Other : (n : ℕ) → receiving ≡ Some n → n ≢ line → IsAtRest l → Ends line receiving l
  Here : (n : ℕ) → receiving ≡ Some n → n ≡ line → Ends line receiving l

record Begun (line : ℕ) (t : Table) (o : Outcome) : Type 0 where
  at : AtLine line t (step o.link o.out)
  ends : Ends line t.receiving o.link

quiet_begun : (line : ℕ) (l : DataLink) (t : Table) → IsLinkOf t.links line l → IsAtRest l → t.receiving ≡ None → Begun line (begun t) (quietly (step l []))
quiet_begun line l t e rest free = record { at = at_begun line l t e; ends = Quiet free rest }

other_ends : (line n : ℕ) (o : Option DataLink) (f : Option Frame) (at : ℕ) (l : DataLink) (t : Table) → n ≢ line → IsAtRest l → t.receiving ≡ None → Ends line (received_in n o f at (begun t)).receiving l
other_ends line n None f at l t other rest free = Quiet free rest
other_ends line n (Some k) None at l t other rest free = Quiet free rest
other_ends line n (Some k) (Some f) at l t other rest free = Other n refl other rest

turned_free : (n : ℕ) (o : Option DataLink) (timers : LinkTimers) (at : ℕ) (t : Table) → t.receiving ≡ None → (turned_in n o timers at (begun t)).receiving ≡ None
turned_free n None timers at t free = free
turned_free n (Some k) timers at t free = free

module _ (line : ℕ) (timers : LinkTimers) (j : Joint) (l : DataLink) (linked : IsLinkOf j.links.links line l) (rest : IsAtRest l) (free : j.links.receiving ≡ None) where
  found : (n : ℕ) → n ≡ line → link_of n j.links ≡ Some l
  found n is = ap (λ k. slice_index_or j.links.links k None) is ∙ linked

  read_begun : (n at : ℕ) (f : Option Frame) → n ≡ line → Begun line (received_in n (Some l) f at (begun j.links)) (outcome_read l at f)
  read_begun n at None is = quiet_begun line l j.links linked rest free
  read_begun n at (Some f) is = record { at = first_here line n l (received f at (step l [])) j.links is linked; ends = Here n refl is }

  received_begun : (n : ℕ) (octets : List ℕ) → (n ≡ line) ⊎ (n ≡ line → ⊥) → Begun line (received_on n octets (frames_so_far j) j.links) (outcome_in line timers j l (Receives n octets))
  received_begun n octets (inl is) =
      subst (λ b. Begun line (received_on n octets (frames_so_far j) j.links) (if b then outcome_read l (frames_so_far j) (reading User octets) else quietly (step l []))) (sym (eq-eqb n line is))
      (subst (λ o. Begun line (received_in n o (reading User octets) (frames_so_far j) (begun j.links)) (outcome_read l (frames_so_far j) (reading User octets))) (sym (found n is))
      (read_begun n (frames_so_far j) (reading User octets) is))
  received_begun n octets (inr other) =
      subst (λ b. Begun line (received_on n octets (frames_so_far j) j.links) (if b then outcome_read l (frames_so_far j) (reading User octets) else quietly (step l []))) (sym (ne_eqb n line other))
      (record {
        at = received_beside line n (link_of n j.links) (reading User octets) (frames_so_far j) l j.links other linked;
        ends = other_ends line n (link_of n j.links) (reading User octets) (frames_so_far j) l j.links other rest free;
      })

  turned_begun : (n at : ℕ) → (n ≡ line) ⊎ (n ≡ line → ⊥) → Begun line (turned_in n (link_of n j.links) timers at (begun j.links)) (if n == line then turned timers at (step l []) else quietly (step l []))
  turned_begun n at (inl is) =
      subst (λ b. Begun line (turned_in n (link_of n j.links) timers at (begun j.links)) (if b then turned timers at (step l []) else quietly (step l []))) (sym (eq-eqb n line is))
      (subst (λ o. Begun line (turned_in n o timers at (begun j.links)) (turned timers at (step l []))) (sym (found n is))
      (record { at = first_here line n l (turned timers at (step l [])) j.links is linked; ends = Quiet free (turned_rest timers at (step l []) rest) }))
  turned_begun n at (inr other) =
      subst (λ b. Begun line (turned_in n (link_of n j.links) timers at (begun j.links)) (if b then turned timers at (step l []) else quietly (step l []))) (sym (ne_eqb n line other))
      (record { at = turned_beside line n (link_of n j.links) timers at l j.links other linked; ends = Quiet (turned_free n (link_of n j.links) timers at j.links free) rest })

  step_begun : (i : LinkedInput) → Begun line (links_begun timers j i) (outcome_in line timers j l i)
  step_begun (Happens e) = quiet_begun line l j.links linked rest free
  step_begun (Receives n octets) = received_begun n octets (cases_eq n line)
  step_begun Turns = turned_begun (line_of_turn (frames_so_far j)) (frames_so_far j) (cases_eq (line_of_turn (frames_so_far j)) line)

-- ---- the end of the step

submitted_receiving : (n : ℕ) (o : Option DataLink) (m : List ℕ) (at : ℕ) (t : Table) → (submitted_in n o m at t).receiving ≡ t.receiving
submitted_receiving n None m at t = refl
submitted_receiving n (Some l) m at t = refl

-- no message changes which link received a frame
all_receiving : (at : ℕ) (ms : List Signal) (t : Table) → (submitted_all at ms t).receiving ≡ t.receiving
unfolding submitted_all
all_receiving at [] t = refl
all_receiving at (m ∷ ms) t = all_receiving at ms (submitted_on m.line m.octets at t) ∙ submitted_receiving m.line (link_of m.line t) m.octets at t

free_after : (r : Option ℕ) (at : ℕ) (t : Table) → t.receiving ≡ r → (finished_at r at t).receiving ≡ None
free_after None at t e = e
free_after (Some n) at t e = refl

pub next_free : (s : Setting) (timers : LinkTimers) (j : Joint) (i : LinkedInput) → (next_joint s timers j i).links.receiving ≡ None
unfolding next_joint
next_free s timers j i =
    let at = (world_after s timers j i).holding.next in
    let t = submitted_all at (sends_of (reply_to s j.world (derived timers j i))) (links_begun timers j i) in
    free_after t.receiving at t refl

all_rest : (ms : List (List ℕ)) (at : ℕ) (s : Step) → IsAtRest s.link → IsAtRest (all_to ms at s).link
all_rest [] at s h = h
all_rest (m ∷ ms) at s h = all_rest ms at (submitted m at s) (submitted_rest m at s h)

rest_end : (line : ℕ) (at : ℕ) (t : Table) (s : Step) → IsAtRest s.link → AtLine line t s → AtLine line t (finished at s)
rest_end line at t s rest h = subst (AtLine line t) (sym (rest_finished at s rest)) h

step_end : (line at : ℕ) (ms : List (List ℕ)) (r : Option ℕ) (t : Table) (s : Step) → Ends line r s.link → AtLine line t (all_to ms at s) → AtLine line (finished_at r at t) (finished at (all_to ms at s))
step_end line at ms r t s (Quiet none rest) h = subst (λ o. AtLine line (finished_at o at t) (finished at (all_to ms at s))) (sym none) (rest_end line at t (all_to ms at s) (all_rest ms at s rest) h)
step_end line at ms r t s (Other n some other rest) h =
    subst (λ o. AtLine line (finished_at o at t) (finished at (all_to ms at s))) (sym some)
    (rest_end line at (finished_at (Some n) at t) (all_to ms at s) (all_rest ms at s rest) (finished_beside line n at t (all_to ms at s) other h))
step_end line at ms r t s (Here n some is) h =
    subst (λ o. AtLine line (finished_at o at t) (finished at (all_to ms at s))) (sym some) (finished_here line n at t (all_to ms at s) is h)

-- the link and the frames of the line after a step
abbrev pub line_after : Setting → LinkTimers → ℕ → Joint → DataLink → LinkedInput → Step
line_after s timers line j l i =
    let at = (world_after s timers j i).holding.next in
    let o = outcome_in line timers j l i in
    finished at (all_to (messages_to line (sends_of (reply_to s j.world (derived timers j i)))) at (step o.link o.out))

pub step_at : (s : Setting) (timers : LinkTimers) (line : ℕ) (j : Joint) (l : DataLink) (i : LinkedInput) → IsLinkOf j.links.links line l → IsAtRest l → j.links.receiving ≡ None
    → AtLine line (next_joint s timers j i).links (line_after s timers line j l i)
unfolding next_joint
step_at s timers line j l i linked rest free =
    let at = (world_after s timers j i).holding.next in
    let o = outcome_in line timers j l i in
    let sends = sends_of (reply_to s j.world (derived timers j i)) in
    let b = links_begun timers j i in
    let h = step_begun line timers j l linked rest free i in
    let t = submitted_all at sends b in
    subst (λ r. AtLine line (finished_at r at t) (line_after s timers line j l i)) (sym (all_receiving at sends b))
    (step_end line at (messages_to line sends) b.receiving t (step o.link o.out) h.ends (at_submitted line at sends b (step o.link o.out) h.at))
