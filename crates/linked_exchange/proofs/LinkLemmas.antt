-- The table of links in a step: its size, its messages, and the link that receives.
use Rattle.std.proofs.Common.{◌≡◌, ℕ, zero, suc, ◌+◌, ◌<◌, ◌≤◌, Bool, List, [], ◌∷◌, length, get_or, drop, drop_of_length-le, refl, ap, ◌∙◌, arith, Some, None}
use Rattle.std.specs.Prelude.{Option}
use Rattle.std.proofs.lemmas.List.{length-set, length-map}
use Rattle.exchange_events.specs.declared.signal.Signal.{Signal}
use Rattle.link_frames.specs.declared.frame.Frame.{Frame}
use Rattle.link_frames.specs.declared.frame.Sender.TheVariants.{User}
use Rattle.link_frames.specs.Reading.{reading}
use Rattle.link_procedures.specs.declared.state.LinkTimers.{LinkTimers}
use Rattle.link_procedures.specs.Links.{DataLink}
use Rattle.link_table.specs.Tables.{Table, IsLinkOf, link_of, new_link, new_table}
use Rattle.link_table.specs.Steps.{begun, received_in, received_on, submitted_in, submitted_on, finished_in, finished_at, ended, turned_in, turned_at, line_of_turn}
use Rattle.linked_exchange.specs.Steps.{submitted_all}

-- ---- a line with a link is in the table

pub inside : (links : List (Option DataLink)) (line : ℕ) (l : DataLink) → IsLinkOf links line l → line < length links
inside [] line l e = absurd (cc)
inside (x ∷ xs) zero l e = omega arith
inside (x ∷ xs) (suc n) l e = let h = inside xs n l e in omega (arith, h)

-- ---- a step changes no number of links

received_size : (line : ℕ) (o : Option DataLink) (f : Option Frame) (at : ℕ) (t : Table) → length (received_in line o f at t).links ≡ length t.links
received_size line None f at t = refl
received_size line (Some l) None at t = refl
received_size line (Some l) (Some f) at t = length-set t.links line (Some _)

submitted_size : (line : ℕ) (o : Option DataLink) (m : List ℕ) (at : ℕ) (t : Table) → length (submitted_in line o m at t).links ≡ length t.links
submitted_size line None m at t = refl
submitted_size line (Some l) m at t = length-set t.links line (Some _)

finished_size : (line : ℕ) (o : Option DataLink) (at : ℕ) (t : Table) → length (finished_in line o at t).links ≡ length t.links
finished_size line None at t = refl
finished_size line (Some l) at t = length-set t.links line (Some _)

turned_size : (line : ℕ) (o : Option DataLink) (timers : LinkTimers) (at : ℕ) (t : Table) → length (turned_in line o timers at t).links ≡ length t.links
turned_size line None timers at t = refl
turned_size line (Some l) timers at t = length-set t.links line (Some _)

pub size-received_on : (line : ℕ) (octets : List ℕ) (at : ℕ) (t : Table) → length (received_on line octets at t).links ≡ length t.links
size-received_on line octets at t = received_size line (link_of line t) (reading User octets) at (begun t)

pub size-turned_at : (timers : LinkTimers) (at : ℕ) (t : Table) → length (turned_at timers at t).links ≡ length t.links
size-turned_at timers at t = turned_size (line_of_turn at) (link_of (line_of_turn at) t) timers at (begun t)

pub size-submitted_all : (at : ℕ) (ms : List Signal) (t : Table) → length (submitted_all at ms t).links ≡ length t.links
unfolding submitted_all
size-submitted_all at [] t = refl
size-submitted_all at (m ∷ ms) t = size-submitted_all at ms (submitted_on m.line m.octets at t) ∙ submitted_size m.line (link_of m.line t) m.octets at t

ended_size : (r : Option ℕ) (at : ℕ) (t : Table) → length (finished_at r at t).links ≡ length t.links
ended_size None at t = refl
ended_size (Some line) at t = finished_size line (link_of line t) at t

pub size-ended : (at : ℕ) (t : Table) → length (ended at t).links ≡ length t.links
size-ended at t = ended_size t.receiving at t

pub size-new_table : (linked : List Bool) (at : ℕ) → length (new_table linked at).links ≡ length linked
size-new_table linked at = length-map linked (new_link at)

-- ---- the link that receives

submitted_receiving : (line : ℕ) (o : Option DataLink) (m : List ℕ) (at : ℕ) (t : Table) → (submitted_in line o m at t).receiving ≡ t.receiving
submitted_receiving line None m at t = refl
submitted_receiving line (Some l) m at t = refl

pub receiving-submitted_all : (at : ℕ) (ms : List Signal) (t : Table) → (submitted_all at ms t).receiving ≡ t.receiving
unfolding submitted_all
receiving-submitted_all at [] t = refl
receiving-submitted_all at (m ∷ ms) t = receiving-submitted_all at ms (submitted_on m.line m.octets at t) ∙ submitted_receiving m.line (link_of m.line t) m.octets at t

turned_receiving : (line : ℕ) (o : Option DataLink) (timers : LinkTimers) (at : ℕ) (t : Table) → (turned_in line o timers at t).receiving ≡ t.receiving
turned_receiving line None timers at t = refl
turned_receiving line (Some l) timers at t = refl

pub receiving-turned_at : (timers : LinkTimers) (at : ℕ) (t : Table) → (turned_at timers at t).receiving ≡ t.receiving
receiving-turned_at timers at t = turned_receiving (line_of_turn at) (link_of (line_of_turn at) t) timers at (begun t)

receiving_ended : (r : Option ℕ) (at : ℕ) (t : Table) → t.receiving ≡ r → (finished_at r at t).receiving ≡ None
receiving_ended None at t e = e
receiving_ended (Some line) at t e = refl

pub receiving-ended : (at : ℕ) (t : Table) → (ended at t).receiving ≡ None
receiving-ended at t = receiving_ended t.receiving at t refl

-- the end of a step without a received frame changes nothing
pub ended_same : (at : ℕ) (t : Table) → t.receiving ≡ None → ended at t ≡ t
ended_same at t e = ap (λ r. finished_at r at t) e

-- ---- the number of messages

submitted_count : (line : ℕ) (o : Option DataLink) (m : List ℕ) (at : ℕ) (t : Table) → (submitted_in line o m at t).messages ≡ t.messages + 1
submitted_count line None m at t = refl
submitted_count line (Some l) m at t = refl

pub messages-submitted_on : (line : ℕ) (m : List ℕ) (at : ℕ) (t : Table) → (submitted_on line m at t).messages ≡ t.messages + 1
messages-submitted_on line m at t = submitted_count line (link_of line t) m at t

received_count : (line : ℕ) (o : Option DataLink) (f : Option Frame) (at : ℕ) (t : Table) → (received_in line o f at t).messages ≡ t.messages
received_count line None f at t = refl
received_count line (Some l) None at t = refl
received_count line (Some l) (Some f) at t = refl

pub messages-received_on : (line : ℕ) (octets : List ℕ) (at : ℕ) (t : Table) → (received_on line octets at t).messages ≡ 0
messages-received_on line octets at t = received_count line (link_of line t) (reading User octets) at (begun t)

turned_count : (line : ℕ) (o : Option DataLink) (timers : LinkTimers) (at : ℕ) (t : Table) → (turned_in line o timers at t).messages ≡ t.messages
turned_count line None timers at t = refl
turned_count line (Some l) timers at t = refl

pub messages-turned_at : (timers : LinkTimers) (at : ℕ) (t : Table) → (turned_at timers at t).messages ≡ 0
messages-turned_at timers at t = turned_count (line_of_turn at) (link_of (line_of_turn at) t) timers at (begun t)

-- ---- one message more

pub submitted_more : (at : ℕ) (ms : List Signal) (i : ℕ) (d : Signal) (t : Table) → i < length ms
    → submitted_all at (drop (i + 1) ms) (submitted_all at (get_or ms i d ∷ []) t) ≡ submitted_all at (drop i ms) t
unfolding submitted_all
submitted_more at [] i d t within = absurd (omega (arith, within))
submitted_more at (m ∷ ms) zero d t within = refl
submitted_more at (m ∷ ms) (suc i) d t within =
    let e : suc i + 1 ≡ suc (i + 1) = omega arith in
    ap (λ k. submitted_all at (drop k (m ∷ ms)) (submitted_all at (get_or ms i d ∷ []) t)) e ∙ submitted_more at ms i d t (omega (arith, within))

pub submitted_none : (at : ℕ) (ms : List Signal) (i : ℕ) (t : Table) → length ms ≤ i → submitted_all at (drop i ms) t ≡ t
unfolding submitted_all
submitted_none at ms i t past = ap (λ l. submitted_all at l t) (drop_of_length-le ms past)
