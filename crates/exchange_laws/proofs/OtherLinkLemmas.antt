-- The link of a line in a step that is not on this link, and the runs of an exchange with data links.
use Rattle.std.proofs.Common.{◌≡◌, ◌≢◌, ℕ, zero, suc, ◌==◌, nat_le, not, Bool, true, false, List, [], ◌∷◌, length, Option, Some, None, refl, sym, ap, ◌∙◌, subst, arith, get_or-set_same, get_or-set_other, if◌then◌else◌}
use Rattle.std.specs.Prelude.{option_map}
use Rattle.std.proofs.lemmas.Grind.{common_steps}
use Rattle.exchange_events.specs.declared.signal.Signal.{Signal}
use Rattle.exchange_events.specs.Sizes.{Setting}
use Rattle.link_frames.specs.declared.frame.Frame.{Frame}
use Rattle.link_frames.specs.declared.frame.Sender.TheVariants.{User}
use Rattle.link_frames.specs.Reading.{reading}
use Rattle.link_procedures.specs.declared.state.LinkTimers.{LinkTimers}
use Rattle.link_procedures.specs.Establishment.{establishes, overflows, submitted}
use Rattle.link_procedures.specs.Links.{DataLink, Step, step, is_up, is_awaiting, max_queue_len}
use Rattle.link_procedures.specs.Sending.{after_frame, flushes, is_free, sends_next, sends_waiting}
use Rattle.link_table.specs.Tables.{Table, link_of}
use Rattle.link_table.specs.Steps.{begun, finished_at, finished_in, line_of_turn, received_in, submitted_in, submitted_on, turned_in}
use Rattle.linked_exchange.specs.Runs.{joint_after_all}
use Rattle.linked_exchange.specs.Steps.{Joint, LinkedInput, Happens, Receives, Turns, derived, frames_so_far, links_begun, next_joint, reply_to, sends_of, submitted_all, world_after}
use Rattle.linked_exchange.proofs.LinkLemmas.{inside, receiving-ended, receiving-submitted_all, receiving-turned_at}
use Rattle.exchange_laws.specs.OtherLinks.{IsOnLink, after_message, after_messages, link_with_messages, messages_to}

-- ---- the link after a message does not depend on the frames that were sent in the step

if_links : (b : Bool) (s u t v : Step) → s.link ≡ t.link → u.link ≡ v.link → (if b then s else u).link ≡ (if b then t else v).link
if_links true s u t v first second = first
if_links false s u t v first second = second

link_of_if : (b : Bool) (s t : Step) → (if b then s else t).link ≡ (if b then s.link else t.link)
link_of_if true s t = refl
link_of_if false s t = refl

link_next : (at : ℕ) (s t : Step) → s.link ≡ t.link → (sends_next at s).link ≡ (sends_next at t).link
unfolding sends_next
link_next at s t same =
    link_of_if (is_free s.link) _ s
    ∙ ap (λ (l : DataLink). if is_free l then after_frame at l else l) same
    ∙ sym (link_of_if (is_free t.link) _ t)

link_sends : (n at : ℕ) (s t : Step) → s.link ≡ t.link → (sends_waiting n at s).link ≡ (sends_waiting n at t).link
link_sends zero at s t same = same
link_sends (suc n) at s t same = link_sends n at (sends_next at s) (sends_next at t) (link_next at s t same)

same_link : (m : List ℕ) (at : ℕ) (l : DataLink) (out : List (List ℕ)) → (submitted m at (step l out)).link ≡ after_message at m l
unfolding submitted overflows establishes flushes
same_link m at l out =
    if_links (not (is_up l)) _ _ _ _ refl
    (if_links (nat_le max_queue_len (length l.queue.waiting)) _ _ _ _
    (if_links (is_awaiting l.state) _ _ _ _ refl refl)
    (link_sends 7 at _ _ refl))

-- ---- the messages of a step

own_message : (line : ℕ) (o : Option DataLink) (m : List ℕ) (at : ℕ) (t : Table) → link_of line t ≡ o
    → link_of line (submitted_in line o m at t) ≡ option_map (after_message at m) o
own_message line None m at t is = is
own_message line (Some l) m at t is =
    get_or-set_same t.links line (Some (submitted m at (step l t.frames)).link) None (inside t.links line l is)
    ∙ ap (λ (k : DataLink). Some k) (same_link m at l t.frames)

other_message : (line other : ℕ) (o : Option DataLink) (m : List ℕ) (at : ℕ) (t : Table) → line ≢ other
    → link_of line (submitted_in other o m at t) ≡ link_of line t
other_message line other None m at t apart = refl
other_message line other (Some l) m at t apart = get_or-set_other t.links other line (Some (submitted m at (step l t.frames)).link) None apart

no_messages : (at : ℕ) (o : Option DataLink) → o ≡ option_map (after_messages at []) o
no_messages at None = refl
no_messages at (Some l) = refl

more_messages : (at : ℕ) (m : List ℕ) (ms : List (List ℕ)) (o : Option DataLink)
    → option_map (after_messages at ms) (option_map (after_message at m) o) ≡ option_map (after_messages at (m ∷ ms)) o
more_messages at m ms None = refl
more_messages at m ms (Some l) = refl

all_messages : (line at : ℕ) (sends : List Signal) (t : Table)
    → link_of line (submitted_all at sends t) ≡ option_map (after_messages at (messages_to line sends)) (link_of line t)
unfolding submitted_all
all_messages line at [] t = no_messages at (link_of line t)
all_messages line at (m ∷ sends) t =
    let later : Table = submitted_on m.line m.octets at t in
    let rest : List (List ℕ) = messages_to line sends in
    let after : List (List ℕ) → Option DataLink → Option DataLink = λ ms o. option_map (after_messages at ms) o in
    all_messages line at sends later
    ∙ elim (m.line == line) as (λ b. (m.line == line) ≡ b → after rest (link_of line later) ≡ after (if b then m.octets ∷ rest else rest) (link_of line t)) [
      | true ↦ λ is.
          let same : m.line ≡ line = grind (arith, common_steps) in
          let own : link_of line later ≡ option_map (after_message at m.octets) (link_of line t) =
          subst (λ k. link_of k later ≡ option_map (after_message at m.octets) (link_of k t)) same (own_message m.line (link_of m.line t) m.octets at t refl) in
          ap (after rest) own ∙ more_messages at m.octets rest (link_of line t)
      | false ↦ λ is.
          let apart : line ≢ m.line = λ e. let other : m.line ≡ line = sym e in grind (arith, common_steps) in
          ap (after rest) (other_message line m.line (link_of m.line t) m.octets at t apart)
    ] refl

-- ---- the start and the end of a step

other_received : (line other : ℕ) (o : Option DataLink) (f : Option Frame) (at : ℕ) (t : Table) → line ≢ other
    → link_of line (received_in other o f at t) ≡ link_of line t
other_received line other None f at t apart = refl
other_received line other (Some l) None at t apart = refl
other_received line other (Some l) (Some f) at t apart = get_or-set_other t.links other line (Some _) None apart

other_turned : (line other : ℕ) (o : Option DataLink) (timers : LinkTimers) (at : ℕ) (t : Table) → line ≢ other
    → link_of line (turned_in other o timers at t) ≡ link_of line t
other_turned line other None timers at t apart = refl
other_turned line other (Some l) timers at t apart = get_or-set_other t.links other line (Some _) None apart

other_finished : (line other : ℕ) (o : Option DataLink) (at : ℕ) (t : Table) → line ≢ other
    → link_of line (finished_in other o at t) ≡ link_of line t
other_finished line other None at t apart = refl
other_finished line other (Some l) at t apart = get_or-set_other t.links other line (Some _) None apart

other_ended : (line : ℕ) (r : Option ℕ) (at : ℕ) (t : Table) → r ≢ Some line → link_of line (finished_at r at t) ≡ link_of line t
other_ended line None at t off = refl
other_ended line (Some other) at t off = other_finished line other (link_of other t) at t (λ e. off (ap (λ (n : ℕ). Some n) (sym e)))

other_begun : (timers : LinkTimers) (j : Joint) (i : LinkedInput) (line : ℕ) → ¬ IsOnLink line j i → link_of line (links_begun timers j i) ≡ link_of line j.links
other_begun timers j (Happens e) line off = refl
other_begun timers j (Receives other octets) line off =
    other_received line other (link_of other j.links) (reading User octets) (frames_so_far j) (begun j.links) (λ e. off (sym e))
other_begun timers j Turns line off =
    let other = line_of_turn (frames_so_far j) in
    other_turned line other (link_of other j.links) timers (frames_so_far j) (begun j.links) (λ e. off (sym e))

abbrev the_line : ℕ → Option ℕ → ℕ
the_line d None = d
the_line d (Some n) = n

not_none : (r : Option ℕ) (line : ℕ) → r ≡ None → r ≢ Some line
not_none r line free is = absurd (cc)

not_received : (line other : ℕ) (o : Option DataLink) (f : Option Frame) (at : ℕ) (t : Table) → t.receiving ≡ None → other ≢ line
    → (received_in other o f at t).receiving ≢ Some line
not_received line other None f at t free apart = not_none t.receiving line free
not_received line other (Some l) None at t free apart = not_none t.receiving line free
not_received line other (Some l) (Some f) at t free apart = λ e. apart (ap (the_line 0) e)

not_receiving : (timers : LinkTimers) (j : Joint) (i : LinkedInput) (line : ℕ) → j.links.receiving ≡ None → ¬ IsOnLink line j i
    → (links_begun timers j i).receiving ≢ Some line
not_receiving timers j (Happens e) line free off = not_none j.links.receiving line free
not_receiving timers j (Receives other octets) line free off =
    not_received line other (link_of other j.links) (reading User octets) (frames_so_far j) (begun j.links) free off
not_receiving timers j Turns line free off =
    not_none (links_begun timers j Turns).receiving line (receiving-turned_at timers (frames_so_far j) j.links ∙ free)

-- ---- a step

pub other_links : (s : Setting) (timers : LinkTimers) (j : Joint) (i : LinkedInput) (line : ℕ) → j.links.receiving ≡ None → ¬ IsOnLink line j i
    → link_of line (next_joint s timers j i).links ≡ link_with_messages s timers j i line
unfolding next_joint
other_links s timers j i line free off =
    let start : Table = links_begun timers j i in
    let at : ℕ = (world_after s timers j i).holding.next in
    let sends : List Signal = sends_of (reply_to s j.world (derived timers j i)) in
    let sent : Table = submitted_all at sends start in
    other_ended line sent.receiving at sent (λ e. not_receiving timers j i line free off (sym (receiving-submitted_all at sends start) ∙ e))
    ∙ (all_messages line at sends start
    ∙ ap (option_map (after_messages at (messages_to line sends))) (other_begun timers j i line off))

-- ---- a run

pub all_ended : (s : Setting) (timers : LinkTimers) (j : Joint) (is : List LinkedInput) → j.links.receiving ≡ None → (joint_after_all s timers j is).links.receiving ≡ None
unfolding next_joint
all_ended s timers j [] free = free
all_ended s timers j (i ∷ is) free =
    let at : ℕ = (world_after s timers j i).holding.next in
    let sends : List Signal = sends_of (reply_to s j.world (derived timers j i)) in
    all_ended s timers (next_joint s timers j i) is (receiving-ended at (submitted_all at sends (links_begun timers j i)))
