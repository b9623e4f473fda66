-- A step of a link does not depend on the frames that were sent before it.
use Rattle.std.proofs.Common.{◌≡◌, ℕ, zero, suc, Bool, true, false, ◌&&◌, List, [], ◌++◌, length, refl, sym, ap, ◌∙◌, append_assoc, append-nil, if◌then◌else◌}
use Rattle.std.specs.Prelude.{not, nat_le}
use Rattle.link_procedures.specs.Links.{DataLink, Step, step, is_multiple_frame, is_awaiting, is_up}
use Rattle.link_procedures.specs.Sending.{acknowledges, acknowledging, after_frame, is_free, next_frame, sends, sends_next, sends_waiting, flushes, acknowledges_pending, finished}
use Rattle.link_procedures.specs.Establishment.{establishes, overflowed, overflows, queued, submitted}

-- the frames of the step are appended to those before it
abbrev pub Framed : (Step → Step) → Type 0
Framed g = (l : DataLink) (o : List (List ℕ)) → g (step l o) ≡ step (g (step l [])).link (o ++ (g (step l [])).out)

framed_same : Framed (λ s. s)
framed_same l o = ap (step l) (sym (append-nil o))

framed_link : (k : DataLink → DataLink) → Framed (λ s. step (k s.link) s.out)
framed_link k l o = ap (step (k l)) (sym (append-nil o))

framed_both : (g h : Step → Step) → Framed g → Framed h → Framed (λ s. h (g s))
framed_both g h first second l o =
    let a = g (step l []) in
    let b = h (step a.link []) in
    ap h (first l o) ∙ second a.link (o ++ a.out) ∙ ap (step b.link) (append_assoc o a.out b.out)
    ∙ sym (ap (λ (t : Step). step t.link (o ++ t.out)) (second a.link a.out))

framed_if : (test : DataLink → Bool) (g h : Step → Step) → Framed g → Framed h → Framed (λ s. if test s.link then g s else h s)
framed_if test g h first second l o = cases (test l)
  where
    cases : (b : Bool) → (if b then g (step l o) else h (step l o)) ≡ step (if b then g (step l []) else h (step l [])).link (o ++ (if b then g (step l []) else h (step l [])).out)
    cases true = first l o
    cases false = second l o

acknowledges_framed : (final : Bool) → Framed (acknowledges final)
unfolding acknowledges
acknowledges_framed final l o = refl

establishes_framed : (asked : Bool) (at : ℕ) → Framed (establishes asked at)
unfolding establishes
establishes_framed asked at l o = refl

sends_framed : (at : ℕ) → Framed (sends_next at)
unfolding sends_next
sends_framed at = framed_if is_free (λ s. step (after_frame at s.link) (sends (next_frame s.link) s).out) (λ s. s) (λ l o. refl) framed_same

waiting_framed : (n at : ℕ) → Framed (sends_waiting n at)
waiting_framed zero at = framed_same
waiting_framed (suc n) at = framed_both (sends_next at) (sends_waiting n at) (sends_framed at) (waiting_framed n at)

flushes_framed : (at : ℕ) → Framed (flushes at)
unfolding flushes
flushes_framed at = waiting_framed 7 at

pending_framed : Framed acknowledges_pending
unfolding acknowledges_pending
pending_framed = framed_if (λ l. l.pending && is_multiple_frame l.state) (acknowledges false) (λ s. step (acknowledging s.link) s.out) (acknowledges_framed false) (framed_link acknowledging)

pub finished_framed : (at : ℕ) → Framed (finished at)
unfolding finished
finished_framed at = framed_both (flushes at) acknowledges_pending (flushes_framed at) pending_framed

overflows_framed : (at : ℕ) → Framed (overflows at)
unfolding overflows
overflows_framed at =
    framed_if (λ l. is_awaiting l.state) (λ s. step (record (overflowed s.link) { asked = true }) s.out) (λ s. establishes true at (step (overflowed s.link) s.out))
    (framed_link (λ l. record (overflowed l) { asked = true }))
    (framed_both (λ s. step (overflowed s.link) s.out) (establishes true at) (framed_link overflowed) (establishes_framed true at))

pub submitted_framed : (m : List ℕ) (at : ℕ) → Framed (submitted m at)
unfolding submitted
submitted_framed m at =
    framed_if (λ l. not (is_up l)) (λ s. s) (λ s. if nat_le 64 (length s.link.queue.waiting) then overflows at s else flushes at (step (record s.link { queue = queued m s.link.queue }) s.out))
    framed_same
    (framed_if (λ l. nat_le 64 (length l.queue.waiting)) (overflows at) (λ s. flushes at (step (record s.link { queue = queued m s.link.queue }) s.out))
    (overflows_framed at)
    (framed_both (λ s. step (record s.link { queue = queued m s.link.queue }) s.out) (flushes at) (framed_link (λ l. record l { queue = queued m l.queue })) (flushes_framed at)))
