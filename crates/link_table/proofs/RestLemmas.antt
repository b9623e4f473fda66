-- The frames that a link owes in a step, and a link at rest.
use Rattle.std.proofs.Common.{◌≡◌, ℕ, zero, suc, ◌+◌, ◌-◌, ◌≤◌, Bool, true, false, List, [], ◌∷◌, ◌++◌, length, refl, ap, ◌∙◌, subst, arith, if◌then◌else◌, ◌&&◌}
use Rattle.std.specs.Prelude.{not, nat_lt, nat_le, min, ◌==◌, ◌||◌}
use Rattle.std.proofs.lemmas.Bool.{ltb-false}
use Rattle.std.proofs.lemmas.List.{length_push}
use Rattle.link_frames.specs.declared.frame.Sender.TheVariants.{Network}
use Rattle.link_frames.specs.declared.frame.Control.TheVariants as control
use Rattle.link_frames.specs.Writing.{encoding}
use Rattle.link_procedures.specs.declared.state.State.{State}
use Rattle.link_procedures.specs.declared.state.State.TheVariants as state
use Rattle.link_procedures.specs.declared.state.LinkTimers.{LinkTimers}
use Rattle.link_procedures.specs.Links.{DataLink, SendQueue, Step, step, initial, may_send, is_established, is_multiple_frame, is_awaiting, is_recovering, is_up}
use Rattle.link_procedures.specs.Sending.{command, response, receive_ready, sends, acknowledges, acknowledging, enquires, one_more_sent, is_free, after_frame, next_frame, sends_next, sends_waiting, flushes, acknowledges_pending, finished}
use Rattle.link_procedures.specs.Establishment.{Outcome, establishes, overflows, queued, submitted, lost, released}
use Rattle.link_procedures.specs.Timing.{is_due, enquires_at, calls_or_releases, on_expiry, first_retries, turned}
use Rattle.link_procedures.proofs.AnyPeerLemmas.{may_send_is, may_send_free}
use Rattle.link_table.specs.Rest.{in_window, sendable, IsAtRest}

by_test : {A : Type 0} (P : A → Type 0) (b : Bool) (x y : A) → (b ≡ true → P x) → (b ≡ false → P y) → P (if b then x else y)
by_test P true x y f g = f refl
by_test P false x y f g = g refl

is_false : (b : Bool) → not b ≡ true → b ≡ false
is_false true e = absurd (cc)
is_false false e = refl

clash : {A : Type 0} (b : Bool) → b ≡ true → b ≡ false → A
clash true e d = absurd (cc)
clash false e d = absurd (cc)

left_true : (a b : Bool) → (a && b) ≡ true → a ≡ true
left_true true b e = refl
left_true false b e = absurd (cc)

-- ---- the window

shut : (a w : ℕ) → (nat_lt a 7 && nat_lt a w) ≡ false → min (7 - a) (w - a) ≡ 0
shut a w e = test (nat_lt a 7) refl
  where
    test : (b : Bool) → nat_lt a 7 ≡ b → min (7 - a) (w - a) ≡ 0
    test false d = let h = ltb-false a 7 d in omega (arith, h)
    test true d = let h = ltb-false a w (subst (λ b. (b && nat_lt a w) ≡ false) d e) in omega (arith, h)

window_shut : (q : SendQueue) → may_send q ≡ false → in_window q ≡ 0
unfolding may_send
window_shut q e = shut q.sent (length q.waiting) e

sendable_on : (l : DataLink) → (is_established l.state && not l.busy) ≡ true → sendable l ≡ in_window l.queue
unfolding sendable
sendable_on l e = ap (λ b. if b then in_window l.queue else 0) e

sendable_off : (l : DataLink) → (is_established l.state && not l.busy) ≡ false → sendable l ≡ 0
unfolding sendable
sendable_off l e = ap (λ b. if b then in_window l.queue else 0) e

stopped : (l : DataLink) → is_established l.state ≡ false → sendable l ≡ 0
stopped l e = sendable_off l (ap (λ b. b && not l.busy) e)

unfree : (l : DataLink) → is_free l ≡ false → sendable l ≡ 0
unfolding is_free
unfree l e = test (is_established l.state && not l.busy) refl
  where
    test : (b : Bool) → (is_established l.state && not l.busy) ≡ b → sendable l ≡ 0
    test false d = sendable_off l d
    test true d = sendable_on l d ∙ window_shut l.queue (subst (λ b. (b && may_send l.queue) ≡ false) d e)

free_on : (l : DataLink) → is_free l ≡ true → (is_established l.state && not l.busy) ≡ true
unfolding is_free
free_on l e = left_true (is_established l.state && not l.busy) (may_send l.queue) e

pub sendable_few : (l : DataLink) → sendable l ≤ 7
sendable_few l = test (is_established l.state && not l.busy) refl
  where
    test : (b : Bool) → (is_established l.state && not l.busy) ≡ b → sendable l ≤ 7
    test true d = let e = sendable_on l d in omega (arith, e)
    test false d = let e = sendable_off l d in omega (arith, e)

-- ---- I frames

record Falls (n : ℕ) (s t : Step) : Type 0 where
  sum : length t.out + sendable t.link ≡ length s.out + sendable s.link
  less : sendable t.link ≡ sendable s.link - n
  quiet : s.link.pending ≡ false → t.link.pending ≡ false

sent_one : (at : ℕ) (l : DataLink) → is_free l ≡ true → sendable l ≡ sendable (after_frame at l) + 1
unfolding one_more_sent
sent_one at l e =
    let w = may_send_is l.queue (may_send_free l e) in
    let on = free_on l e in
    let a = sendable_on l on in
    let b = sendable_on (after_frame at l) on in
    let less = w.0 in let more = w.1 in
    omega (arith, a, b, less, more)

next_falls : (at : ℕ) (s : Step) → Falls 1 s (sends_next at s)
unfolding sends_next
next_falls at s = test (is_free s.link) refl
  where
    test : (b : Bool) → is_free s.link ≡ b → Falls 1 s (if b then step (after_frame at s.link) (sends (next_frame s.link) s).out else s)
    test true e =
        let one = sent_one at s.link e in
        let long = length_push s.out (encoding Network (next_frame s.link)) in record {
          sum = omega (arith, one, long);
          less = omega (arith, one);
          quiet = λ p. refl;
        }
    test false e = let none = unfree s.link e in record { sum = refl; less = omega (arith, none); quiet = λ p. p }

waiting_falls : (n at : ℕ) (s : Step) → Falls n s (sends_waiting n at s)
waiting_falls zero at s = record { sum = refl; less = omega arith; quiet = λ p. p }
waiting_falls (suc n) at s =
    let h = next_falls at s in
    let k = waiting_falls n at (sends_next at s) in
    let a = h.less in let b = k.less in record {
      sum = k.sum ∙ h.sum;
      less = omega (arith, a, b);
      quiet = λ p. k.quiet (h.quiet p);
    }

flushes_falls : (at : ℕ) (s : Step) → Falls 7 s (flushes at s)
unfolding flushes
flushes_falls at s = waiting_falls 7 at s

flushed_none : (at : ℕ) (s : Step) → sendable (flushes at s).link ≡ 0
flushed_none at s = let h = flushes_falls at s in let a = h.less in let few = sendable_few s.link in omega (arith, a, few)

-- ---- a link at rest

quiet_next : (at : ℕ) (s : Step) → sendable s.link ≡ 0 → sends_next at s ≡ s
unfolding sends_next
quiet_next at s e = test (is_free s.link) refl
  where
    test : (b : Bool) → is_free s.link ≡ b → (if b then step (after_frame at s.link) (sends (next_frame s.link) s).out else s) ≡ s
    test true d = let one = sent_one at s.link d in absurd (omega (arith, one, e))
    test false d = refl

quiet_waiting : (n at : ℕ) (s : Step) → sendable s.link ≡ 0 → sends_waiting n at s ≡ s
quiet_waiting zero at s e = refl
quiet_waiting (suc n) at s e = ap (λ t. sends_waiting n at t) (quiet_next at s e) ∙ quiet_waiting n at s e

quiet_flush : (at : ℕ) (s : Step) → sendable s.link ≡ 0 → flushes at s ≡ s
unfolding flushes
quiet_flush at s e = quiet_waiting 7 at s e

unsent : (s : Step) → s.link.pending ≡ false → acknowledges_pending s ≡ s
unfolding acknowledges_pending
unsent s p =
    ap (λ b. if b && is_multiple_frame s.link.state then acknowledges false s else step (acknowledging s.link) s.out) p
    ∙ subst (λ b. step (record s.link { pending = b }) s.out ≡ s) p refl

pub rest_finished : (at : ℕ) (s : Step) → IsAtRest s.link → finished at s ≡ s
unfolding finished
rest_finished at s h = ap acknowledges_pending (quiet_flush at s h.quiet) ∙ unsent s h.acknowledged

-- ---- the end of a step

pending_rest : (s : Step) → sendable s.link ≡ 0 → IsAtRest (acknowledges_pending s).link
unfolding acknowledges_pending acknowledges sendable
pending_rest s e = by_test (λ (t : Step). IsAtRest t.link) (s.link.pending && is_multiple_frame s.link.state) _ _
    (λ d. record { quiet = e; acknowledged = refl })
    (λ d. record { quiet = e; acknowledged = refl })

pub finished_rest : (at : ℕ) (s : Step) → IsAtRest (finished at s).link
unfolding finished
finished_rest at s = pending_rest (flushes at s) (flushed_none at s)

pending_few : (s : Step) → length (acknowledges_pending s).out ≤ length s.out + 1
unfolding acknowledges_pending acknowledges
pending_few s = by_test (λ (t : Step). length t.out ≤ length s.out + 1) (s.link.pending && is_multiple_frame s.link.state) _ _
    (λ d. let long = length_push s.out (encoding Network (response (receive_ready false s.link))) in omega (arith, long))
    (λ d. omega arith)

pub finished_few : (at : ℕ) (s : Step) → length (finished at s).out ≤ length s.out + sendable s.link + 1
unfolding finished
finished_few at s =
    let h = flushes_falls at s in
    let sum = h.sum in
    let few = pending_few (flushes at s) in
    omega (arith, sum, few)

-- ---- a message

pub record Submits (s t : Step) : Type 0 where
  pub none : sendable t.link ≡ 0
  pub few : length t.out ≤ length s.out + sendable s.link + 1
  pub quiet : s.link.pending ≡ false → t.link.pending ≡ false

not_up : (l : DataLink) → is_up l ≡ false → sendable l ≡ 0
unfolding is_up is_multiple_frame
not_up l e = test (is_established l.state) refl
  where
    test : (b : Bool) → is_established l.state ≡ b → sendable l ≡ 0
    test true d = clash (is_up l) (ap (λ b. (b || is_recovering l.state) || (is_awaiting l.state && not l.asked)) d) e
    test false d = stopped l d

awaiting_off : (st : State) → is_awaiting st ≡ true → is_established st ≡ false
unfolding is_awaiting is_established
awaiting_off state.TeiAssigned e = refl
awaiting_off state.AwaitingEstablishment e = refl
awaiting_off state.MultipleFrameEstablished e = absurd (cc)
awaiting_off state.TimerRecovery e = refl

assigned_off : is_established state.TeiAssigned ≡ false
unfolding is_established
assigned_off = refl

called_off : is_established state.AwaitingEstablishment ≡ false
unfolding is_established
called_off = refl

recovery_off : is_established state.TimerRecovery ≡ false
unfolding is_established
recovery_off = refl

overflows_submits : (at : ℕ) (s : Step) → Submits s (overflows at s)
unfolding overflows establishes
overflows_submits at s = by_test (Submits s) (is_awaiting s.link.state) _ _
    (λ e. record { none = stopped _ (awaiting_off s.link.state e); few = omega arith; quiet = λ p. p })
    (λ e. let long = length_push s.out (encoding Network (command (control.Sabme true))) in record { none = stopped _ called_off; few = omega (arith, long); quiet = λ p. refl })

queued_more : (m : List ℕ) (l : DataLink) → sendable (record l { queue = queued m l.queue }) ≤ sendable l + 1
unfolding queued
queued_more m l = test (is_established l.state && not l.busy) refl
  where
    long : length (l.queue.waiting ++ m ∷ []) ≡ length l.queue.waiting + 1
    long = length_push l.queue.waiting m

    test : (b : Bool) → (is_established l.state && not l.busy) ≡ b → sendable (record l { queue = queued m l.queue }) ≤ sendable l + 1
    test true d =
        let a = sendable_on l d in
        let b = sendable_on (record l { queue = queued m l.queue }) d in
        let c = long in
        omega (arith, a, b, c)
    test false d = let b = sendable_off (record l { queue = queued m l.queue }) d in omega (arith, b)

waits_submits : (m : List ℕ) (at : ℕ) (s : Step) → Submits s (flushes at (step (record s.link { queue = queued m s.link.queue }) s.out))
waits_submits m at s =
    let t : Step = step (record s.link { queue = queued m s.link.queue }) s.out in
    let h = flushes_falls at t in
    let sum = h.sum in
    let more = queued_more m s.link in record {
      none = flushed_none at t;
      few = omega (arith, sum, more);
      quiet = λ p. h.quiet p;
    }

pub submitted_submits : (m : List ℕ) (at : ℕ) (s : Step) → Submits s (submitted m at s)
unfolding submitted
submitted_submits m at s = by_test (Submits s) (not (is_up s.link)) _ _
    (λ e. let none = not_up s.link (is_false (is_up s.link) e) in record { none = none; few = omega arith; quiet = λ p. p })
    (λ e. by_test (Submits s) (nat_le 64 (length s.link.queue.waiting)) _ _ (λ d. overflows_submits at s) (λ d. waits_submits m at s))

pub submitted_rest : (m : List ℕ) (at : ℕ) (s : Step) → IsAtRest s.link → IsAtRest (submitted m at s).link
submitted_rest m at s h = let k = submitted_submits m at s in record { quiet = k.none; acknowledged = k.quiet h.acknowledged }

-- ---- the turn of a link

released_rest : (at : ℕ) (l : DataLink) → l.pending ≡ false → IsAtRest (released at l)
unfolding released lost
released_rest at l p = record { quiet = stopped _ assigned_off; acknowledged = p }

establishes_rest : (asked : Bool) (at : ℕ) (s : Step) → IsAtRest (establishes asked at s).link
unfolding establishes
establishes_rest asked at s = record { quiet = stopped _ called_off; acknowledged = refl }

enquires_rest : (retries at : ℕ) (s : Step) → IsAtRest (enquires_at retries at s).link
unfolding enquires_at enquires
enquires_rest retries at s = record { quiet = stopped _ recovery_off; acknowledged = refl }

again_rest : (at : ℕ) (s : Step) → IsAtRest s.link → IsAtRest (calls_or_releases at s).link
unfolding calls_or_releases sendable
again_rest at s h = by_test (λ (o : Outcome). IsAtRest o.link) (s.link.retries == 3) _ _ (λ e. released_rest at s.link h.acknowledged) (λ e. record { quiet = h.quiet; acknowledged = h.acknowledged })

expiry_rest : (st : State) (at : ℕ) (s : Step) → IsAtRest s.link → IsAtRest (on_expiry st at s).link
unfolding on_expiry
expiry_rest state.TeiAssigned at s h = establishes_rest true at s
expiry_rest state.AwaitingEstablishment at s h = again_rest at s h
expiry_rest state.MultipleFrameEstablished at s h = enquires_rest (first_retries s.link.timer.running) at s
expiry_rest state.TimerRecovery at s h = by_test (λ (o : Outcome). IsAtRest o.link) (s.link.retries == 3) _ _ (λ e. establishes_rest false at s) (λ e. enquires_rest (s.link.retries + 1) at s)

pub turned_rest : (t : LinkTimers) (at : ℕ) (s : Step) → IsAtRest s.link → IsAtRest (turned t at s).link
unfolding turned sendable
turned_rest t at s h = by_test (λ (o : Outcome). IsAtRest o.link) s.link.owed _ _
    (λ e. record { quiet = h.quiet; acknowledged = h.acknowledged })
    (λ e. by_test (λ (o : Outcome). IsAtRest o.link) (is_due t at s.link.timer) _ _ (λ d. expiry_rest s.link.state at s h) (λ d. h))

-- ---- a link at its start

pub initial_rest : (at : ℕ) → IsAtRest (initial at)
initial_rest at = record { quiet = stopped _ assigned_off; acknowledged = refl }
