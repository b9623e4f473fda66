-- A step of the table of links, as a step of the link of one line.
use Rattle.std.proofs.Common.{◌≡◌, ◌≢◌, ◌⊎◌, ℕ, zero, suc, ◌-◌, ◌<◌, Bool, true, false, List, [], ◌∷◌, ◌++◌, length, replicate, refl, sym, ap, ◌∙◌, subst, inl, inr, arith, append-nil, Some, None, get_or-set_same, get_or-set_other, eq-eqb, if◌then◌else◌}
use Rattle.std.specs.Prelude.{Option, slice_index_or, ◌==◌}
use Rattle.std.proofs.lemmas.Bool.{cases_eq, ne_eqb}
use Rattle.std.proofs.lemmas.List.{length-append, length-replicate}
use Rattle.exchange_events.specs.declared.signal.Signal.{Signal}
use Rattle.link_frames.specs.declared.frame.Frame.{Frame}
use Rattle.link_procedures.specs.declared.state.LinkTimers.{LinkTimers}
use Rattle.link_procedures.specs.Links.{DataLink, Step, step}
use Rattle.link_procedures.specs.Sending.{finished}
use Rattle.link_procedures.specs.Establishment.{Outcome, submitted}
use Rattle.link_procedures.specs.Receiving.{received}
use Rattle.link_procedures.specs.Timing.{turned}
use Rattle.link_table.specs.Tables.{Table, IsLinkOf, with_link, link_of}
use Rattle.link_table.specs.Steps.{begun, marked, stepped, received_in, submitted_in, submitted_on, finished_in, finished_at, turned_in}
use Rattle.linked_exchange.specs.Steps.{submitted_all}
use Rattle.exchange_laws.specs.Peers.{frames_on, messages_to}
use Rattle.exchange_laws.proofs.FramedLemmas.{Framed, finished_framed, submitted_framed}

pub by_option : {A : Type 0} (P : Option A → Type 0) (o : Option A) → P None → ((x : A) → P (Some x)) → P o
by_option P None f g = f
by_option P (Some x) f g = g x

-- ---- the frames on a line

on_append : (line : ℕ) (lines more : List ℕ) (frames fs : List (List ℕ)) → length lines ≡ length frames
    → frames_on line (lines ++ more) (frames ++ fs) ≡ frames_on line lines frames ++ frames_on line more fs
on_append line [] more [] fs e = refl
on_append line [] more (f ∷ frames) fs e = absurd (omega (arith, e))
on_append line (n ∷ lines) more [] fs e = absurd (omega (arith, e))
on_append line (n ∷ lines) more (f ∷ frames) fs e = cases (n == line) (on_append line lines more frames fs (omega (arith, e)))
  where
    cases : (b : Bool) → frames_on line (lines ++ more) (frames ++ fs) ≡ frames_on line lines frames ++ frames_on line more fs
        → (if b then f ∷ frames_on line (lines ++ more) (frames ++ fs) else frames_on line (lines ++ more) (frames ++ fs))
        ≡ (if b then f ∷ frames_on line lines frames else frames_on line lines frames) ++ frames_on line more fs
    cases true rest = ap (λ xs. f ∷ xs) rest
    cases false rest = rest

on_here : (line : ℕ) (fs : List (List ℕ)) → frames_on line (replicate (length fs) line) fs ≡ fs
on_here line [] = refl
on_here line (f ∷ fs) =
    ap (λ b. if b then f ∷ frames_on line (replicate (length fs) line) fs else frames_on line (replicate (length fs) line) fs) (eq-eqb line line refl)
    ∙ ap (λ xs. f ∷ xs) (on_here line fs)

on_other : (line n : ℕ) (fs : List (List ℕ)) → n ≢ line → frames_on line (replicate (length fs) n) fs ≡ []
on_other line n [] other = refl
on_other line n (f ∷ fs) other =
    ap (λ b. if b then f ∷ frames_on line (replicate (length fs) n) fs else frames_on line (replicate (length fs) n) fs) (ne_eqb n line other)
    ∙ on_other line n fs other

-- ---- the link of a line, and its frames of the step

pub record At (line : ℕ) (links : List (Option DataLink)) (lines : List ℕ) (frames : List (List ℕ)) (s : Step) : Type 0 where
  pub link : slice_index_or links line None ≡ Some s.link
  pub sent : frames_on line lines frames ≡ s.out
  pub marked : length lines ≡ length frames

abbrev pub AtLine : ℕ → Table → Step → Type 0
AtLine line t s = At line t.links t.lines t.frames s

pub inside : (links : List (Option DataLink)) (line : ℕ) (l : DataLink) → IsLinkOf links line l → line < length links
inside [] line l e = absurd (cc)
inside (x ∷ xs) zero l e = omega arith
inside (x ∷ xs) (suc n) l e = let h = inside xs n l e in omega (arith, h)

-- the frames that are marked with the line are the new ones
marked_is : (n : ℕ) (lines : List ℕ) (frames o : List (List ℕ)) → length lines ≡ length frames → marked n lines (frames ++ o) ≡ lines ++ replicate (length o) n
marked_is n lines frames o e =
    let h = length-append frames o in
    let k : length (frames ++ o) - length lines ≡ length o = omega (arith, h, e) in
    ap (λ c. lines ++ replicate c n) k

longer : (n : ℕ) (lines : List ℕ) (frames o : List (List ℕ)) → length lines ≡ length frames → length (marked n lines (frames ++ o)) ≡ length (frames ++ o)
longer n lines frames o e =
    let a = ap length (marked_is n lines frames o e) in
    let b = length-append lines (replicate (length o) n) in
    let c = length-replicate (length o) n in
    let d = length-append frames o in
    omega (arith, a, b, c, d, e)

marked_sent : (line n : ℕ) (lines : List ℕ) (frames o : List (List ℕ)) → length lines ≡ length frames
    → frames_on line (marked n lines (frames ++ o)) (frames ++ o) ≡ frames_on line lines frames ++ frames_on line (replicate (length o) n) o
marked_sent line n lines frames o e = ap (λ ls. frames_on line ls (frames ++ o)) (marked_is n lines frames o e) ∙ on_append line lines (replicate (length o) n) frames o e

-- a step of the link of the line itself
here : (line n : ℕ) (l : DataLink) (o : List (List ℕ)) (links : List (Option DataLink)) (lines : List ℕ) (frames : List (List ℕ)) (s : Step) → n ≡ line → At line links lines frames s
    → At line (with_link n l links) (marked n lines (frames ++ o)) (frames ++ o) (step l (s.out ++ o))
here line n l o links lines frames s is h = subst (λ k. At line (with_link k l links) (marked k lines (frames ++ o)) (frames ++ o) (step l (s.out ++ o))) (sym is) (record {
  link = get_or-set_same links line (Some l) None (inside links line s.link h.link);
  sent = marked_sent line line lines frames o h.marked ∙ (ap (λ xs. xs ++ frames_on line (replicate (length o) line) o) h.sent ∙ ap (λ xs. s.out ++ xs) (on_here line o));
  marked = longer line lines frames o h.marked;
})

-- a step of the link of another line
beside : (line n : ℕ) (l : DataLink) (o : List (List ℕ)) (links : List (Option DataLink)) (lines : List ℕ) (frames : List (List ℕ)) (s : Step) → n ≢ line → At line links lines frames s
    → At line (with_link n l links) (marked n lines (frames ++ o)) (frames ++ o) s
beside line n l o links lines frames s other h = record {
  link = get_or-set_other links n line (Some l) None (λ e. other (sym e)) ∙ h.link;
  sent = marked_sent line n lines frames o h.marked ∙ (ap (λ xs. xs ++ frames_on line (replicate (length o) n) o) h.sent ∙ (ap (λ xs. s.out ++ xs) (on_other line n o other) ∙ append-nil s.out));
  marked = longer n lines frames o h.marked;
}

-- a step that does not depend on the frames before it
framed_here : (line n : ℕ) (g : Step → Step) (t : Table) (s : Step) → Framed g → n ≡ line → AtLine line t s → AtLine line (stepped n (g (step s.link t.frames)).link (g (step s.link t.frames)).out t) (g s)
framed_here line n g t s framed is h =
    let u = g (step s.link []) in
    subst (λ (v : Step). At line (with_link n v.link t.links) (marked n t.lines v.out) v.out (g s)) (sym (framed s.link t.frames))
    (subst (λ (v : Step). At line (with_link n u.link t.links) (marked n t.lines (t.frames ++ u.out)) (t.frames ++ u.out) v) (sym (framed s.link s.out))
    (here line n u.link u.out t.links t.lines t.frames s is h))

framed_beside : (line n : ℕ) (g : Step → Step) (l : DataLink) (t : Table) (s : Step) → Framed g → n ≢ line → AtLine line t s → AtLine line (stepped n (g (step l t.frames)).link (g (step l t.frames)).out t) s
framed_beside line n g l t s framed other h =
    let u = g (step l []) in
    subst (λ (v : Step). At line (with_link n v.link t.links) (marked n t.lines v.out) v.out s) (sym (framed l t.frames))
    (beside line n u.link u.out t.links t.lines t.frames s other h)

-- ---- the start of a step

pub at_begun : (line : ℕ) (l : DataLink) (t : Table) → IsLinkOf t.links line l → AtLine line (begun t) (step l [])
at_begun line l t e = record { link = e; sent = refl; marked = refl }

-- the link of the line takes the first step
pub first_here : (line n : ℕ) (l : DataLink) (o : Outcome) (t : Table) → n ≡ line → IsLinkOf t.links line l → At line (with_link n o.link t.links) (marked n [] o.out) o.out (step o.link o.out)
first_here line n l o t is e = here line n o.link o.out t.links [] [] (step l []) is (at_begun line l t e)

pub first_beside : (line n : ℕ) (k l : DataLink) (o : List (List ℕ)) (t : Table) → n ≢ line → IsLinkOf t.links line l → At line (with_link n k t.links) (marked n [] o) o (step l [])
first_beside line n k l o t other e = beside line n k o t.links [] [] (step l []) other (at_begun line l t e)

pub received_beside : (line n : ℕ) (o : Option DataLink) (f : Option Frame) (at : ℕ) (l : DataLink) (t : Table) → n ≢ line → IsLinkOf t.links line l → AtLine line (received_in n o f at (begun t)) (step l [])
received_beside line n None f at l t other e = at_begun line l t e
received_beside line n (Some k) None at l t other e = at_begun line l t e
received_beside line n (Some k) (Some f) at l t other e = let o = received f at (step k []) in first_beside line n o.link l o.out t other e

pub turned_beside : (line n : ℕ) (o : Option DataLink) (timers : LinkTimers) (at : ℕ) (l : DataLink) (t : Table) → n ≢ line → IsLinkOf t.links line l → AtLine line (turned_in n o timers at (begun t)) (step l [])
turned_beside line n None timers at l t other e = at_begun line l t e
turned_beside line n (Some k) timers at l t other e = let o = turned timers at (step k []) in first_beside line n o.link l o.out t other e

-- ---- the messages

submitted_here : (line n at : ℕ) (m : List ℕ) (t : Table) (s : Step) → n ≡ line → AtLine line t s → AtLine line (submitted_on n m at t) (submitted m at s)
submitted_here line n at m t s is h =
    let e : link_of n t ≡ Some s.link = ap (λ k. slice_index_or t.links k None) is ∙ h.link in
    subst (λ o. AtLine line (submitted_in n o m at t) (submitted m at s)) (sym e) (framed_here line n (submitted m at) t s (submitted_framed m at) is h)

submitted_beside : (line n at : ℕ) (m : List ℕ) (t : Table) (s : Step) → n ≢ line → AtLine line t s → AtLine line (submitted_on n m at t) s
submitted_beside line n at m t s other h =
    by_option (λ o. AtLine line (submitted_in n o m at t) s) (link_of n t)
    (record {
      link = h.link;
      sent = on_append line t.lines (n ∷ []) t.frames (m ∷ []) h.marked ∙ (ap (λ xs. xs ++ frames_on line (n ∷ []) (m ∷ [])) h.sent ∙ (ap (λ xs. s.out ++ xs) (on_other line n (m ∷ []) other) ∙ append-nil s.out));
      marked = let a = length-append t.lines (n ∷ []) in let b = length-append t.frames (m ∷ []) in let c = h.marked in omega (arith, a, b, c);
    })
    (λ k. framed_beside line n (submitted m at) k t s (submitted_framed m at) other h)

-- messages to the link, in order
abbrev pub all_to : List (List ℕ) → ℕ → Step → Step
all_to [] at s = s
all_to (m ∷ ms) at s = all_to ms at (submitted m at s)

pub at_submitted : (line at : ℕ) (ms : List Signal) (t : Table) (s : Step) → AtLine line t s → AtLine line (submitted_all at ms t) (all_to (messages_to line ms) at s)
unfolding submitted_all
at_submitted line at [] t s h = h
at_submitted line at (m ∷ ms) t s h = cases (cases_eq m.line line)
    (λ is. at_submitted line at ms (submitted_on m.line m.octets at t) (submitted m.octets at s) (submitted_here line m.line at m.octets t s is h))
    (λ other. at_submitted line at ms (submitted_on m.line m.octets at t) s (submitted_beside line m.line at m.octets t s other h))
  where
    cases : (m.line ≡ line) ⊎ (m.line ≡ line → ⊥)
        → (m.line ≡ line → AtLine line (submitted_all at (m ∷ ms) t) (all_to (messages_to line ms) at (submitted m.octets at s)))
        → (m.line ≢ line → AtLine line (submitted_all at (m ∷ ms) t) (all_to (messages_to line ms) at s))
        → AtLine line (submitted_all at (m ∷ ms) t) (all_to (messages_to line (m ∷ ms)) at s)
    cases (inl is) mine others =
        subst (λ b. AtLine line (submitted_all at (m ∷ ms) t) (all_to (if b then m.octets ∷ messages_to line ms else messages_to line ms) at s)) (sym (eq-eqb m.line line is)) (mine is)
    cases (inr other) mine others =
        subst (λ b. AtLine line (submitted_all at (m ∷ ms) t) (all_to (if b then m.octets ∷ messages_to line ms else messages_to line ms) at s)) (sym (ne_eqb m.line line other)) (others other)

-- ---- the end of a step

pub finished_here : (line n at : ℕ) (t : Table) (s : Step) → n ≡ line → AtLine line t s → AtLine line (finished_at (Some n) at t) (finished at s)
finished_here line n at t s is h =
    let e : link_of n t ≡ Some s.link = ap (λ k. slice_index_or t.links k None) is ∙ h.link in
    subst (λ o. AtLine line (finished_in n o at t) (finished at s)) (sym e) (framed_here line n (finished at) t s (finished_framed at) is h)

pub finished_beside : (line n at : ℕ) (t : Table) (s : Step) → n ≢ line → AtLine line t s → AtLine line (finished_at (Some n) at t) s
finished_beside line n at t s other h =
    by_option (λ o. AtLine line (finished_in n o at t) s) (link_of n t) h (λ k. framed_beside line n (finished at) k t s (finished_framed at) other h)
