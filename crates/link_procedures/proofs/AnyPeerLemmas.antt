-- What each part of a step loses, sends and delivers.
use Rattle.std.proofs.Common.{◌≡◌, ◌≢◌, ◌⊎◌, ℕ, zero, suc, ◌+◌, ◌%◌, ◌<◌, ◌≤◌, Bool, true, false, List, [], ◌∷◌, ◌++◌, length, drop, refl, sym, ap, ◌∙◌, subst, inl, inr, arith, if◌then◌else◌, append_assoc, append-nil, length-drop, ◌&&◌, Some, None}
use Rattle.std.specs.Prelude.{◌==◌, nat_lt, nat_le, slice_index_or, not, All}
use Rattle.std.proofs.lemmas.Bool.{eqb-true, eqb-false, leb-true, leb-false, ltb-true}
use Rattle.std.proofs.lemmas.List.Elements.{All-nil, All-cons, All-append, All-drop, All-push}
use Rattle.std.proofs.lemmas.List.{length_push}
use Rattle.link_frames.specs.declared.frame.Sender.TheVariants.{Network}
use Rattle.link_frames.specs.declared.frame.Supervisory.{Supervisory}
use Rattle.link_frames.specs.declared.frame.Supervisory.TheVariants.{Rr, Rnr, Rej}
use Rattle.link_frames.specs.declared.frame.Control.{Control}
use Rattle.link_frames.specs.declared.frame.Control.TheVariants as control
use Rattle.link_frames.specs.declared.frame.Frame.{Frame}
use Rattle.link_frames.specs.Reading.{IsNumbered}
use Rattle.link_frames.specs.Writing.{IsWritable, encoding}
use Rattle.link_frames.proofs.Readings.{reading_of_encoding}
use Rattle.link_procedures.specs.declared.state.State.{State}
use Rattle.link_procedures.specs.declared.state.State.TheVariants as state
use Rattle.link_procedures.specs.declared.state.LinkTimers.{LinkTimers}
use Rattle.link_procedures.specs.declared.state.Indication.TheVariants as indication
use Rattle.link_procedures.specs.Links.{initial, SendQueue, DataLink, Step, step, next_number, distance, is_valid, acknowledged, returned, emptied, renumbered, may_send, is_multiple_frame, is_established, is_recovering, is_awaiting, is_up}
use Rattle.link_procedures.specs.Sending.{command, response, sends, acknowledges, receive_ready, enquires, rejects, one_more_sent, is_free, after_frame, next_frame, sends_next, sends_waiting, flushes, acknowledges_pending, finished}
use Rattle.link_procedures.specs.Establishment.{Outcome, quietly, establishes, established, lost, begun, begun_indication, is_uncertain, released, releases, releases_first, overflows, queued, submitted}
use Rattle.link_procedures.specs.Receiving.{answers, on_sabme, on_disc, is_solicited, is_new, on_solicited, on_ua, on_dm, on_rejection, retimed, acknowledge, has_moved, supervised_by, recovering_by, busy_by, supervisory_applied, on_valid, answers_enquiry, on_supervisory, in_sequence, acknowledges_later, out_of_sequence, by_number, numbered_by, by_acknowledgement, taken, on_information, on_control, received}
use Rattle.link_procedures.specs.Timing.{is_due, calls_again, enquires_at, calls_or_releases, on_expiry, first_retries, turned}
use Rattle.link_procedures.specs.declared.state.Running.{Running}
use Rattle.link_procedures.specs.declared.state.Running.TheVariants.{T200, T203}
use Rattle.link_procedures.specs.AnyPeer.{IsShort, IsQueue, IsLink, accepted, acknowledged_by, Keeps, IsLossTold, IsAdded, IsLossOwed, AddsOrOwes, KeepsOrSettles, IsReleasedOrOwed, IsReleasedFirst, IsInWindow, Acknowledges, IsFormed, HasSent, IsSequenced, IsInSequence}

by_test : {A : Type 0} (P : A → Type 0) (b : Bool) (x y : A) → (b ≡ true → P x) → (b ≡ false → P y) → P (if b then x else y)
by_test P true x y f g = f refl
by_test P false x y f g = g refl

not_both : {A : Type 0} (b : Bool) → b ≡ true → b ≡ false → A
not_both b on off = absurd (cc)

-- ---- frames

sent_none : (q : SendQueue) (r : ℕ) (o : List (List ℕ)) → HasSent q r o o
sent_none q r o = record { sent = []; appended = sym (append-nil o); formed = All-nil (IsFormed q r) }

pub sent_one : (q : SendQueue) (r : ℕ) (o : List (List ℕ)) (f : Frame) → IsWritable f.command f.control → IsInWindow q f.control → Acknowledges r f.control → HasSent q r o (o ++ encoding Network f ∷ [])
sent_one q r o f w i a = record {
  sent = encoding Network f ∷ [];
  appended = refl;
  formed = All-cons (IsFormed q r) (encoding Network f) [] (record { frame = f; read = reading_of_encoding Network f w; inside = i; acknowledges = a }) (All-nil (IsFormed q r));
}

sent_both : (q : SendQueue) (r : ℕ) (a b c : List (List ℕ)) → HasSent q r a b → HasSent q r b c → HasSent q r a c
sent_both q r a b c h k = record {
  sent = h.sent ++ k.sent;
  appended = k.appended ∙ ap (λ o. o ++ k.sent) h.appended ∙ append_assoc a h.sent k.sent;
  formed = All-append (IsFormed q r) h.sent k.sent h.formed k.formed;
}

-- the same if V(R) has another name
sent_by : (q : SendQueue) (r n : ℕ) (a b : List (List ℕ)) → n ≡ r → HasSent q n a b → HasSent q r a b
sent_by q r n a b e h = subst (λ k. HasSent q k a b) e h

-- ---- parts of a step that tell layer 3 nothing: the first n messages leave the queue, and V(R) is r

pub record Quiet (n r : ℕ) (s t : Step) : Type 0 where
  pub keeps : Keeps n s.link t.link
  pub next : t.link.received ≡ r
  pub ranges : IsLink s.link → IsLink t.link
  pub sent : IsLink s.link → (q : SendQueue) → HasSent q r s.out t.out

same : (l m : DataLink) → m.queue ≡ l.queue → m.received ≡ l.received → m.retries ≡ l.retries → IsLink l → IsLink m
same l m queue next counter h = record {
  queue = subst IsQueue (sym queue) h.queue;
  next = subst (λ n. n < 128) (sym next) h.next;
  counter = subst (λ n. n ≤ 3) (sym counter) h.counter;
}

pub quiet_none : (s : Step) → Quiet 0 s.link.received s s
quiet_none s = record { keeps = (refl, refl); next = refl; ranges = λ h. h; sent = λ h q. sent_none q s.link.received s.out }

pub quiet_both : (n r : ℕ) (s t u : Step) → Quiet 0 r s t → Quiet n t.link.received t u → Quiet n r s u
quiet_both n r s t u h k = record {
  keeps = (k.keeps.0 ∙ ap (λ w. drop n w) h.keeps.0, k.keeps.1 ∙ h.keeps.1);
  next = k.next ∙ h.next;
  ranges = λ l. k.ranges (h.ranges l);
  sent = λ l q. sent_both q r s.out t.out u.out (h.sent l q) (sent_by q r t.link.received t.out u.out h.next (k.sent (h.ranges l) q));
}

pub acknowledges_quiet : (final : Bool) (s : Step) → Quiet 0 s.link.received s (acknowledges final s)
unfolding acknowledges
acknowledges_quiet final s = record {
  keeps = (refl, refl);
  next = refl;
  ranges = λ h. record { queue = h.queue; next = h.next; counter = h.counter };
  sent = λ h q. sent_one q s.link.received s.out (response (receive_ready final s.link)) h.next tt refl;
}

pub enquires_quiet : (s : Step) → Quiet 0 s.link.received s (enquires s)
unfolding enquires
enquires_quiet s = record {
  keeps = (refl, refl);
  next = refl;
  ranges = λ h. record { queue = h.queue; next = h.next; counter = h.counter };
  sent = λ h q. sent_one q s.link.received s.out (command (receive_ready true s.link)) h.next tt refl;
}

pub rejects_quiet : (final : Bool) (s : Step) → Quiet 0 s.link.received s (rejects final s)
unfolding rejects
rejects_quiet final s = record {
  keeps = (refl, refl);
  next = refl;
  ranges = λ h. record { queue = h.queue; next = h.next; counter = h.counter };
  sent = λ h q. sent_one q s.link.received s.out (response (control.Supervisory Rej final s.link.received)) h.next tt refl;
}

pub establishes_quiet : (asked : Bool) (at : ℕ) (s : Step) → Quiet 0 s.link.received s (establishes asked at s)
unfolding establishes
establishes_quiet asked at s = record {
  keeps = (refl, refl);
  next = refl;
  ranges = λ h. record { queue = h.queue; next = h.next; counter = omega arith };
  sent = λ h q. sent_one q s.link.received s.out (command (control.Sabme true)) tt tt tt;
}

-- U frames
ua_sent : (final : Bool) (s : Step) (q : SendQueue) (r : ℕ) → HasSent q r s.out (answers (control.Ua final) s).out
ua_sent final s q r = sent_one q r s.out (response (control.Ua final)) tt tt tt

dm_sent : (final : Bool) (s : Step) (q : SendQueue) (r : ℕ) → HasSent q r s.out (answers (control.Dm final) s).out
dm_sent final s q r = sent_one q r s.out (response (control.Dm final)) tt tt tt

pub answers_enquiry_quiet : (b : Bool) (s : Step) → Quiet 0 s.link.received s (answers_enquiry b s)
unfolding answers_enquiry
answers_enquiry_quiet true s = acknowledges_quiet true s
answers_enquiry_quiet false s = quiet_none s

rejection_quiet : (st : State) (at : ℕ) (s : Step) → Quiet 0 s.link.received s (on_rejection st at s)
unfolding on_rejection
rejection_quiet state.TeiAssigned at s = quiet_none s
rejection_quiet state.AwaitingEstablishment at s = quiet_none s
rejection_quiet state.MultipleFrameEstablished at s = establishes_quiet false at s
rejection_quiet state.TimerRecovery at s = establishes_quiet false at s

-- ---- N(R)

-- the first n messages of the link are acknowledged
record Acknowledged (n : ℕ) (l m : DataLink) : Type 0 where
  keeps : Keeps n l m
  next : m.received ≡ l.received
  ranges : IsLink l → IsLink m

acknowledged_queue : (q : SendQueue) (nr : ℕ) → nr < 128 → is_valid q nr ≡ true → IsQueue q → IsQueue (acknowledged q nr)
unfolding acknowledged is_valid
acknowledged_queue q nr number valid h =
    let a = h.window in let b = h.sent in let c = h.few in
    let d = leb-true (distance q nr) q.sent valid in
    let e = length-drop (distance q nr) q.waiting in record {
      window = omega (arith, a);
      sent = omega (arith, b, d, e);
      few = omega (arith, c, e);
      short = All-drop IsShort (distance q nr) q.waiting h.short;
      number = number;
    }

returned_queue : (q : SendQueue) → IsQueue q → IsQueue (returned q)
unfolding returned
returned_queue q h = record { window = omega arith; sent = omega arith; few = h.few; short = h.short; number = h.number }

acknowledge_is : (nr : ℕ) (l : DataLink) → nr < 128 → is_valid l.queue nr ≡ true → Acknowledged (distance l.queue nr) l (acknowledge nr l)
unfolding acknowledged
acknowledge_is nr l number valid = record {
  keeps = (refl, refl);
  next = refl;
  ranges = λ h. record { queue = acknowledged_queue l.queue nr number valid h.queue; next = h.next; counter = h.counter };
}

returned_is : (n : ℕ) (l m k : DataLink) → Acknowledged n l m → k.queue ≡ returned m.queue → k.received ≡ m.received → k.retries ≡ m.retries → k.owed ≡ m.owed → Acknowledged n l k
unfolding returned
returned_is n l m k h queue next counter owed = record {
  keeps = (ap (λ q. q.waiting) queue ∙ h.keeps.0, owed ∙ h.keeps.1);
  next = next ∙ h.next;
  ranges = λ r. let o = h.ranges r in record {
    queue = subst IsQueue (sym queue) (returned_queue m.queue o.queue);
    next = subst (λ n. n < 128) (sym next) o.next;
    counter = subst (λ n. n ≤ 3) (sym counter) o.counter;
  };
}

alike_is : (n : ℕ) (l m k : DataLink) → Acknowledged n l m → k.queue ≡ m.queue → k.received ≡ m.received → k.retries ≡ m.retries → k.owed ≡ m.owed → Acknowledged n l k
alike_is n l m k h queue next counter owed = record {
  keeps = (ap (λ q. q.waiting) queue ∙ h.keeps.0, owed ∙ h.keeps.1);
  next = next ∙ h.next;
  ranges = λ r. same m k queue next counter (h.ranges r);
}

retimed_is : (n : ℕ) (moved : Bool) (at : ℕ) (l m : DataLink) → Acknowledged n l m → Acknowledged n l (retimed moved at m)
unfolding retimed
retimed_is n moved at l m h =
    by_test (Acknowledged n l) (m.queue.sent == 0) _ _ (λ e. alike_is n l m _ h refl refl refl refl)
    (λ e. by_test (Acknowledged n l) moved _ _ (λ d. alike_is n l m _ h refl refl refl refl) (λ d. h))

supervised_is : (kind : Supervisory) (nr at : ℕ) (l : DataLink) → nr < 128 → is_valid l.queue nr ≡ true → Acknowledged (distance l.queue nr) l (supervised_by kind nr at l)
unfolding supervised_by
supervised_is Rr nr at l number valid = retimed_is (distance l.queue nr) (has_moved nr l) at l (acknowledge nr l) (acknowledge_is nr l number valid)
supervised_is Rnr nr at l number valid = alike_is (distance l.queue nr) l (acknowledge nr l) _ (acknowledge_is nr l number valid) refl refl refl refl
supervised_is Rej nr at l number valid = returned_is (distance l.queue nr) l (acknowledge nr l) _ (acknowledge_is nr l number valid) refl refl refl refl

recovering_is : (answer : Bool) (nr at : ℕ) (l : DataLink) → nr < 128 → is_valid l.queue nr ≡ true → Acknowledged (distance l.queue nr) l (recovering_by answer nr at l)
unfolding recovering_by
recovering_is true nr at l number valid = returned_is (distance l.queue nr) l (acknowledge nr l) _ (acknowledge_is nr l number valid) refl refl refl refl
recovering_is false nr at l number valid = acknowledge_is nr l number valid

applied_is : (command : Bool) (kind : Supervisory) (pf : Bool) (nr at : ℕ) (l : DataLink) → nr < 128 → is_valid l.queue nr ≡ true → Acknowledged (distance l.queue nr) l (supervisory_applied command kind pf nr at l)
applied_is command kind pf nr at l number valid = by_test (Acknowledged (distance l.queue nr) l) (is_recovering l.state) _ _ (λ e. recovering_is (not command && pf) nr at l number valid) (λ e. supervised_is kind nr at l number valid)

numbered_is : (nr at : ℕ) (l : DataLink) → nr < 128 → is_valid l.queue nr ≡ true → Acknowledged (distance l.queue nr) l (numbered_by nr at l)
numbered_is nr at l number valid = by_test (Acknowledged (distance l.queue nr) l) (is_established l.state && not l.busy) _ _ (λ e. retimed_is (distance l.queue nr) (has_moved nr l) at l (acknowledge nr l) (acknowledge_is nr l number valid)) (λ e. acknowledge_is nr l number valid)

quiet_of : (n : ℕ) (s : Step) (m : DataLink) → Acknowledged n s.link m → Quiet n s.link.received s (step m s.out)
quiet_of n s m h = record { keeps = h.keeps; next = h.next; ranges = h.ranges; sent = λ l q. sent_none q s.link.received s.out }

pub valid_quiet : (command : Bool) (kind : Supervisory) (pf : Bool) (nr at : ℕ) (s : Step) → nr < 128 → Quiet (accepted s.link.queue nr) s.link.received s (on_valid command kind pf nr at s)
unfolding on_valid
valid_quiet command kind pf nr at s number = cases (is_valid s.link.queue nr) refl
  where
    cases : (b : Bool) → is_valid s.link.queue nr ≡ b → Quiet (if b then distance s.link.queue nr else 0) s.link.received s (if b then step (supervisory_applied command kind pf nr at s.link) s.out else establishes false at s)
    cases true e = quiet_of (distance s.link.queue nr) s _ (applied_is command kind pf nr at s.link number e)
    cases false e = establishes_quiet false at s

pub acknowledgement_quiet : (nr at : ℕ) (s : Step) → nr < 128 → Quiet (accepted s.link.queue nr) s.link.received s (by_acknowledgement nr at s)
unfolding by_acknowledgement
acknowledgement_quiet nr at s number = cases (is_valid s.link.queue nr) refl
  where
    cases : (b : Bool) → is_valid s.link.queue nr ≡ b → Quiet (if b then distance s.link.queue nr else 0) s.link.received s (if b then step (numbered_by nr at s.link) s.out else establishes false at s)
    cases true e = quiet_of (distance s.link.queue nr) s _ (numbered_is nr at s.link number e)
    cases false e = establishes_quiet false at s

enquiry_queue : (b : Bool) (s : Step) → (answers_enquiry b s).link.queue ≡ s.link.queue
unfolding answers_enquiry acknowledges
enquiry_queue true s = refl
enquiry_queue false s = refl

pub busied_quiet : (kind : Supervisory) (s : Step) → Quiet 0 s.link.received s (step (busy_by kind s.link) s.out)
busied_quiet kind s = record { keeps = (refl, refl); next = refl; ranges = λ h. record { queue = h.queue; next = h.next; counter = h.counter }; sent = λ h q. sent_none q s.link.received s.out }

supervisory_quiet : (command : Bool) (kind : Supervisory) (pf : Bool) (nr at : ℕ) (s : Step) → nr < 128 → Quiet (acknowledged_by (control.Supervisory kind pf nr) s.link) s.link.received s (on_supervisory command kind pf nr at s)
unfolding on_supervisory
supervisory_quiet command kind pf nr at s number = cases (is_multiple_frame s.link.state)
  where
    asked_quiet : Quiet 0 s.link.received s (answers_enquiry (command && pf) (step (busy_by kind s.link) s.out))
    asked_quiet = quiet_both 0 s.link.received s (step (busy_by kind s.link) s.out) _ (busied_quiet kind s) (answers_enquiry_quiet (command && pf) (step (busy_by kind s.link) s.out))

    cases : (b : Bool) → Quiet (if b then accepted s.link.queue nr else 0) s.link.received s (if b then on_valid command kind pf nr at (answers_enquiry (command && pf) (step (busy_by kind s.link) s.out)) else s)
    cases true = quiet_both (accepted s.link.queue nr) s.link.received s (answers_enquiry (command && pf) (step (busy_by kind s.link) s.out)) _ asked_quiet
        (subst (λ q. Quiet (accepted q nr) (answers_enquiry (command && pf) (step (busy_by kind s.link) s.out)).link.received (answers_enquiry (command && pf) (step (busy_by kind s.link) s.out)) (on_valid command kind pf nr at (answers_enquiry (command && pf) (step (busy_by kind s.link) s.out))))
        (enquiry_queue (command && pf) (step (busy_by kind s.link) s.out))
        (valid_quiet command kind pf nr at (answers_enquiry (command && pf) (step (busy_by kind s.link) s.out)) number))
    cases false = quiet_none s

-- ---- N(S)

in_sequence_quiet : (s : Step) → Quiet 0 ((s.link.received + 1) % 128) s (step (in_sequence s.link) s.out)
in_sequence_quiet s = record { keeps = (refl, refl); next = refl; ranges = λ h. record { queue = h.queue; next = omega arith; counter = h.counter }; sent = λ h q. sent_none q ((s.link.received + 1) % 128) s.out }

later_quiet : (poll : Bool) (s : Step) → Quiet 0 s.link.received s (acknowledges_later poll s)
later_quiet true s = acknowledges_quiet true s
later_quiet false s = record { keeps = (refl, refl); next = refl; ranges = λ h. record { queue = h.queue; next = h.next; counter = h.counter }; sent = λ h q. sent_none q s.link.received s.out }

later_queue : (poll : Bool) (s : Step) → (acknowledges_later poll s).link.queue ≡ s.link.queue
unfolding acknowledges
later_queue true s = refl
later_queue false s = refl

pub next_quiet : (poll : Bool) (s : Step) → Quiet 0 ((s.link.received + 1) % 128) s (acknowledges_later poll (step (in_sequence s.link) s.out))
next_quiet poll s = quiet_both 0 ((s.link.received + 1) % 128) s (step (in_sequence s.link) s.out) _ (in_sequence_quiet s) (later_quiet poll (step (in_sequence s.link) s.out))

pub out_quiet : (poll : Bool) (s : Step) → Quiet 0 s.link.received s (out_of_sequence poll s)
out_quiet poll s = by_test (Quiet 0 s.link.received s) s.link.rejecting _ _ (λ e. answers_enquiry_quiet poll s) (λ e. rejects_quiet poll s)

out_queue : (poll : Bool) (s : Step) → (out_of_sequence poll s).link.queue ≡ s.link.queue
unfolding rejects
out_queue poll s = by_test (λ (t : Step). t.link.queue ≡ s.link.queue) s.link.rejecting _ _ (λ e. enquiry_queue poll s) (λ e. refl)

-- ---- frames, with the indication

pub record Processed (c : Control) (s : Step) (o : Outcome) : Type 0 where
  pub losses : Keeps (acknowledged_by c s.link) s.link o.link ⊎ IsLossTold o
  pub ranges : IsLink s.link → IsLink o.link
  pub sent : IsLink s.link → HasSent o.link.queue o.link.received s.out o.out
  pub sequence : IsInSequence c s.link o

quietly_processed : (c : Control) (s t : Step) → Quiet (acknowledged_by c s.link) s.link.received s t → Processed c s (quietly t)
quietly_processed c s t h = record { losses = inl h.keeps; ranges = h.ranges; sent = λ l. sent_by t.link.queue t.link.received s.link.received s.out t.out (sym h.next) (h.sent l t.link.queue); sequence = inl h.next }

none_of : (b : Bool) (n : ℕ) → (if b then n else n) ≡ n
none_of true n = refl
none_of false n = refl

-- a frame that acknowledges nothing
unnumbered_processed : (c : Control) (s t : Step) → acknowledged_by c s.link ≡ 0 → Quiet 0 s.link.received s t → Processed c s (quietly t)
unnumbered_processed c s t none h = quietly_processed c s t (subst (λ n. Quiet n s.link.received s t) (sym none) h)

information_processed : (poll : Bool) (ns nr : ℕ) (information : List ℕ) (at : ℕ) (s : Step) → nr < 128 → Processed (control.Information poll ns nr information) s (on_information poll ns nr at s)
unfolding on_information by_number
information_processed poll ns nr information at s number = cases (is_multiple_frame s.link.state) refl
  where
    number_queue : (b : Bool) → (if b then acknowledges_later poll (step (in_sequence s.link) s.out) else out_of_sequence poll s).link.queue ≡ s.link.queue
    number_queue true = later_queue poll (step (in_sequence s.link) s.out)
    number_queue false = out_queue poll s

    number_quiet : (b : Bool) → Quiet 0 (if b then (s.link.received + 1) % 128 else s.link.received) s (if b then acknowledges_later poll (step (in_sequence s.link) s.out) else out_of_sequence poll s)
    number_quiet true = next_quiet poll s
    number_quiet false = out_quiet poll s

    all_quiet : (b : Bool) → Quiet (accepted s.link.queue nr) (if b then (s.link.received + 1) % 128 else s.link.received) s (by_acknowledgement nr at (if b then acknowledges_later poll (step (in_sequence s.link) s.out) else out_of_sequence poll s))
    all_quiet b =
        let t : Step = if b then acknowledges_later poll (step (in_sequence s.link) s.out) else out_of_sequence poll s in
        quiet_both (accepted s.link.queue nr) (if b then (s.link.received + 1) % 128 else s.link.received) s t (by_acknowledgement nr at t) (number_quiet b)
        (subst (λ q. Quiet (accepted q nr) t.link.received t (by_acknowledgement nr at t)) (number_queue b) (acknowledgement_quiet nr at t number))

    sequenced : (b : Bool) (m : DataLink) → (ns == s.link.received) ≡ b → m.received ≡ (if b then (s.link.received + 1) % 128 else s.link.received) → IsSequenced (control.Information poll ns nr information) s.link m (taken b)
    sequenced true m e next = (ap Some (eqb-true ns s.link.received e), next)
    sequenced false m e next = inl next

    cases : (b : Bool) → is_multiple_frame s.link.state ≡ b → Processed (control.Information poll ns nr information) s (if b then record {
      link = (by_acknowledgement nr at (if ns == s.link.received then acknowledges_later poll (step (in_sequence s.link) s.out) else out_of_sequence poll s)).link;
      out = (by_acknowledgement nr at (if ns == s.link.received then acknowledges_later poll (step (in_sequence s.link) s.out) else out_of_sequence poll s)).out;
      indication = taken (ns == s.link.received);
    } else quietly s)
    cases true e =
        let b : Bool = ns == s.link.received in
        let t : Step = by_acknowledgement nr at (if ns == s.link.received then acknowledges_later poll (step (in_sequence s.link) s.out) else out_of_sequence poll s) in
        let h = all_quiet (ns == s.link.received) in record {
          losses = inl (subst (λ n. Keeps n s.link t.link) (sym (ap (λ c. if c then accepted s.link.queue nr else 0) e)) h.keeps);
          ranges = h.ranges;
          sent = λ l. sent_by t.link.queue t.link.received _ s.out t.out (sym h.next) (h.sent l t.link.queue);
          sequence = sequenced (ns == s.link.received) t.link refl h.next;
        }
    cases false e = record {
      losses = inl (subst (λ n. Keeps n s.link s.link) (sym (ap (λ c. if c then accepted s.link.queue nr else 0) e)) (refl, refl));
      ranges = λ h. h;
      sent = λ h. sent_none s.link.queue s.link.received s.out;
      sequence = inl refl;
    }

-- ---- establishment and release

empty_queue : (q : SendQueue) → q.waiting ≡ [] → q.sent ≡ 0 → q.acknowledged < 128 → IsQueue q
empty_queue q none zero_sent number =
    let e : length q.waiting ≡ 0 = ap length none in record {
      window = omega (arith, zero_sent);
      sent = omega (arith, zero_sent);
      few = omega (arith, e);
      short = subst (All IsShort) (sym none) (All-nil IsShort);
      number = number;
    }

begun_processed : (c : Control) (is_new : Bool) (at : ℕ) (s : Step) (o : List (List ℕ)) → acknowledged_by c s.link ≡ 0 → ((q : SendQueue) (r : ℕ) → HasSent q r s.out o) → Processed c s (record { link = begun is_new at s.link; out = o; indication = begun_indication is_new })
unfolding begun established lost emptied renumbered
begun_processed c true at s o none sent = record {
  losses = inr (refl, refl, tt);
  ranges = λ h. record { queue = empty_queue _ refl refl (omega arith); next = omega arith; counter = h.counter };
  sent = λ h. sent _ _;
  sequence = inr (refl, refl, refl);
}
begun_processed c false at s o none sent = record {
  losses = inl (subst (λ n. Keeps n s.link (begun false at s.link)) (sym none) (refl, refl));
  ranges = λ h. record { queue = let q = h.queue in record { window = omega arith; sent = omega arith; few = q.few; short = q.short; number = omega arith }; next = omega arith; counter = h.counter };
  sent = λ h. sent _ _;
  sequence = inr (refl, refl, refl);
}

released_processed : (c : Control) (at : ℕ) (s : Step) (o : List (List ℕ)) → ((q : SendQueue) (r : ℕ) → HasSent q r s.out o) → Processed c s (releases at (step s.link o))
unfolding released lost emptied
released_processed c at s o sent = record {
  losses = inr (refl, refl, tt);
  ranges = λ h. let q = h.queue in record { queue = empty_queue _ refl refl q.number; next = h.next; counter = h.counter };
  sent = λ h. sent _ _;
  sequence = inl refl;
}

-- a U frame is sent, and nothing else changes
replied_processed : (c : Control) (s : Step) (o : List (List ℕ)) → acknowledged_by c s.link ≡ 0 → ((q : SendQueue) (r : ℕ) → HasSent q r s.out o) → Processed c s (quietly (step s.link o))
replied_processed c s o none sent = record {
  losses = inl (subst (λ n. Keeps n s.link s.link) (sym none) (refl, refl));
  ranges = λ h. h;
  sent = λ h. sent _ _;
  sequence = inl refl;
}

sabme_processed : (c : Control) (st : State) (poll : Bool) (at : ℕ) (s : Step) → acknowledged_by c s.link ≡ 0 → Processed c s (on_sabme st poll at s)
unfolding on_sabme
sabme_processed c state.TeiAssigned poll at s none = begun_processed c true at s _ none (ua_sent poll s)
sabme_processed c state.AwaitingEstablishment poll at s none = replied_processed c s _ none (ua_sent poll s)
sabme_processed c state.MultipleFrameEstablished poll at s none = begun_processed c (is_uncertain s.link.queue) at s _ none (ua_sent poll s)
sabme_processed c state.TimerRecovery poll at s none = begun_processed c (is_uncertain s.link.queue) at s _ none (ua_sent poll s)

disc_processed : (c : Control) (st : State) (poll : Bool) (at : ℕ) (s : Step) → acknowledged_by c s.link ≡ 0 → Processed c s (on_disc st poll at s)
unfolding on_disc
disc_processed c state.TeiAssigned poll at s none = replied_processed c s _ none (dm_sent poll s)
disc_processed c state.AwaitingEstablishment poll at s none = replied_processed c s _ none (dm_sent poll s)
disc_processed c state.MultipleFrameEstablished poll at s none = released_processed c at s _ (ua_sent poll s)
disc_processed c state.TimerRecovery poll at s none = released_processed c at s _ (ua_sent poll s)

-- layer 3 is informed of an earlier loss, and another SABME is sent
first_processed : (c : Control) (at : ℕ) (s : Step) → Processed c s (releases_first at s)
unfolding establishes lost emptied
first_processed c at s = record {
  losses = inr (refl, refl, tt);
  ranges = λ h. let q = h.queue in record { queue = empty_queue _ refl refl q.number; next = h.next; counter = omega arith };
  sent = λ h. sent_one _ s.link.received s.out (command (control.Sabme true)) tt tt tt;
  sequence = inl refl;
}

ua_processed : (c : Control) (final : Bool) (at : ℕ) (s : Step) → acknowledged_by c s.link ≡ 0 → Processed c s (on_ua final at s)
unfolding on_ua on_solicited
ua_processed c final at s none = by_test (Processed c s) (is_solicited final s.link) _ _
    (λ e. by_test (Processed c s) s.link.owed _ _ (λ d. first_processed c at s) (λ d. begun_processed c (is_new s.link) at s s.out none (λ q r. sent_none q r s.out)))
    (λ e. replied_processed c s s.out none (λ q r. sent_none q r s.out))

dm_processed : (c : Control) (st : State) (final : Bool) (at : ℕ) (s : Step) → acknowledged_by c s.link ≡ 0 → Processed c s (on_dm st final at s)
unfolding on_dm
dm_processed c state.TeiAssigned true at s none = unnumbered_processed c s s none (quiet_none s)
dm_processed c state.TeiAssigned false at s none = unnumbered_processed c s _ none (establishes_quiet true at s)
dm_processed c state.AwaitingEstablishment true at s none = released_processed c at s s.out (λ q r. sent_none q r s.out)
dm_processed c state.AwaitingEstablishment false at s none = unnumbered_processed c s s none (quiet_none s)
dm_processed c state.MultipleFrameEstablished true at s none = unnumbered_processed c s s none (quiet_none s)
dm_processed c state.MultipleFrameEstablished false at s none = unnumbered_processed c s _ none (establishes_quiet false at s)
dm_processed c state.TimerRecovery final at s none = unnumbered_processed c s _ none (establishes_quiet false at s)

control_processed : (command : Bool) (c : Control) (at : ℕ) (s : Step) → IsNumbered c → Processed c s (on_control command c at s)
unfolding on_control
control_processed command (control.Sabme poll) at s n = sabme_processed (control.Sabme poll) s.link.state poll at s (none_of (is_multiple_frame s.link.state) 0)
control_processed command (control.Disc poll) at s n = disc_processed (control.Disc poll) s.link.state poll at s (none_of (is_multiple_frame s.link.state) 0)
control_processed command (control.Ua final) at s n = ua_processed (control.Ua final) final at s (none_of (is_multiple_frame s.link.state) 0)
control_processed command (control.Dm final) at s n = dm_processed (control.Dm final) s.link.state final at s (none_of (is_multiple_frame s.link.state) 0)
control_processed command control.Frmr at s n = unnumbered_processed control.Frmr s _ (none_of (is_multiple_frame s.link.state) 0) (rejection_quiet s.link.state at s)
control_processed command control.Invalid at s n = unnumbered_processed control.Invalid s _ (none_of (is_multiple_frame s.link.state) 0) (rejection_quiet s.link.state at s)
control_processed command control.Ui at s n = unnumbered_processed control.Ui s s (none_of (is_multiple_frame s.link.state) 0) (quiet_none s)
control_processed command control.Xid at s n = unnumbered_processed control.Xid s s (none_of (is_multiple_frame s.link.state) 0) (quiet_none s)
control_processed command (control.Supervisory kind pf nr) at s n = quietly_processed (control.Supervisory kind pf nr) s _ (supervisory_quiet command kind pf nr at s n)
control_processed command (control.Information poll ns nr information) at s n = information_processed poll ns nr information at s n

pub received_processed : (f : Frame) (at : ℕ) (s : Step) → IsNumbered f.control → Processed f.control s (received f at s)
received_processed f at s n = control_processed f.command f.control at s n

-- ---- an earlier loss

runs_not : (st : State) → is_awaiting st ≡ true → is_multiple_frame st ≡ false
unfolding is_awaiting is_multiple_frame is_established is_recovering
runs_not state.TeiAssigned e = absurd (cc)
runs_not state.AwaitingEstablishment e = refl
runs_not state.MultipleFrameEstablished e = absurd (cc)
runs_not state.TimerRecovery e = absurd (cc)

sabme_first : (st : State) (poll : Bool) (at : ℕ) (s : Step) → s.link.owed ≡ true → is_awaiting st ≡ true → IsReleasedOrOwed (on_sabme st poll at s)
unfolding on_sabme is_awaiting
sabme_first state.TeiAssigned poll at s owed e = absurd (cc)
sabme_first state.AwaitingEstablishment poll at s owed e = inr (refl, owed)
sabme_first state.MultipleFrameEstablished poll at s owed e = absurd (cc)
sabme_first state.TimerRecovery poll at s owed e = absurd (cc)

disc_first : (st : State) (poll : Bool) (at : ℕ) (s : Step) → s.link.owed ≡ true → is_awaiting st ≡ true → IsReleasedOrOwed (on_disc st poll at s)
unfolding on_disc is_awaiting
disc_first state.TeiAssigned poll at s owed e = absurd (cc)
disc_first state.AwaitingEstablishment poll at s owed e = inr (refl, owed)
disc_first state.MultipleFrameEstablished poll at s owed e = absurd (cc)
disc_first state.TimerRecovery poll at s owed e = absurd (cc)

ua_first : (final : Bool) (at : ℕ) (s : Step) → s.link.owed ≡ true → IsReleasedOrOwed (on_ua final at s)
unfolding on_ua on_solicited
ua_first final at s owed = by_test IsReleasedOrOwed (is_solicited final s.link) _ _
    (λ e. by_test IsReleasedOrOwed s.link.owed _ _ (λ d. inl refl) (λ d. not_both s.link.owed owed d))
    (λ e. inr (refl, owed))

dm_first : (st : State) (final : Bool) (at : ℕ) (s : Step) → s.link.owed ≡ true → is_awaiting st ≡ true → IsReleasedOrOwed (on_dm st final at s)
unfolding on_dm is_awaiting
dm_first state.TeiAssigned final at s owed e = absurd (cc)
dm_first state.AwaitingEstablishment true at s owed e = inl refl
dm_first state.AwaitingEstablishment false at s owed e = inr (refl, owed)
dm_first state.MultipleFrameEstablished final at s owed e = absurd (cc)
dm_first state.TimerRecovery final at s owed e = absurd (cc)

rejection_first : (st : State) (at : ℕ) (s : Step) → s.link.owed ≡ true → is_awaiting st ≡ true → IsReleasedOrOwed (quietly (on_rejection st at s))
unfolding on_rejection is_awaiting
rejection_first state.TeiAssigned at s owed e = absurd (cc)
rejection_first state.AwaitingEstablishment at s owed e = inr (refl, owed)
rejection_first state.MultipleFrameEstablished at s owed e = absurd (cc)
rejection_first state.TimerRecovery at s owed e = absurd (cc)

control_first : (command : Bool) (c : Control) (at : ℕ) (s : Step) → s.link.owed ≡ true → is_awaiting s.link.state ≡ true → IsReleasedOrOwed (on_control command c at s)
unfolding on_control on_supervisory on_information
control_first command (control.Sabme poll) at s owed e = sabme_first s.link.state poll at s owed e
control_first command (control.Disc poll) at s owed e = disc_first s.link.state poll at s owed e
control_first command (control.Ua final) at s owed e = ua_first final at s owed
control_first command (control.Dm final) at s owed e = dm_first s.link.state final at s owed e
control_first command control.Frmr at s owed e = rejection_first s.link.state at s owed e
control_first command control.Invalid at s owed e = rejection_first s.link.state at s owed e
control_first command control.Ui at s owed e = inr (refl, owed)
control_first command control.Xid at s owed e = inr (refl, owed)
control_first command (control.Supervisory kind pf nr) at s owed e = by_test (λ (t : Step). IsReleasedOrOwed (quietly t)) (is_multiple_frame s.link.state) _ _
    (λ d. not_both (is_multiple_frame s.link.state) d (runs_not s.link.state e)) (λ d. inr (refl, owed))
control_first command (control.Information poll ns nr information) at s owed e = by_test IsReleasedOrOwed (is_multiple_frame s.link.state) _ _
    (λ d. not_both (is_multiple_frame s.link.state) d (runs_not s.link.state e)) (λ d. inr (refl, owed))

pub received_first : (f : Frame) (at : ℕ) (s : Step) → IsReleasedFirst s.link (received f at s)
received_first f at s owed e = control_first f.command f.control at s owed e

-- ---- I frames

pub record Flushed (s t : Step) : Type 0 where
  pub keeps : Keeps 0 s.link t.link
  pub number : t.link.queue.acknowledged ≡ s.link.queue.acknowledged
  pub next : t.link.received ≡ s.link.received
  pub ranges : IsLink s.link → IsLink t.link
  pub sent : IsLink s.link → (q : SendQueue) → q.waiting ≡ s.link.queue.waiting → q.acknowledged ≡ s.link.queue.acknowledged → HasSent q s.link.received s.out t.out

flushed_none : (s : Step) → Flushed s s
flushed_none s = record { keeps = (refl, refl); number = refl; next = refl; ranges = λ h. h; sent = λ h q w a. sent_none q s.link.received s.out }

flushed_both : (s t u : Step) → Flushed s t → Flushed t u → Flushed s u
flushed_both s t u h k = record {
  keeps = (k.keeps.0 ∙ h.keeps.0, k.keeps.1 ∙ h.keeps.1);
  number = k.number ∙ h.number;
  next = k.next ∙ h.next;
  ranges = λ l. k.ranges (h.ranges l);
  sent = λ l q w a. sent_both q s.link.received s.out t.out u.out (h.sent l q w a) (sent_by q s.link.received t.link.received t.out u.out h.next (k.sent (h.ranges l) q (w ∙ sym h.keeps.0) (a ∙ sym h.number)));
}

both_true : (a b : Bool) → (a && b) ≡ true → (a ≡ true) × (b ≡ true)
both_true true b e = (refl, e)
both_true false b e = absurd (cc)

pub number_is : (q : SendQueue) → q.acknowledged < 128 → next_number q < 128
unfolding next_number
number_is q low = omega arith

distance_is : (q k : SendQueue) → k.acknowledged ≡ q.acknowledged → q.acknowledged < 128 → q.sent < 7 → distance k (next_number q) ≡ q.sent
unfolding next_number distance
distance_is q k same_number low few = omega (arith, same_number, low, few)

pub may_send_is : (q : SendQueue) → may_send q ≡ true → (q.sent < 7) × (q.sent < length q.waiting)
unfolding may_send
may_send_is q e = let b = both_true (nat_lt q.sent 7) (nat_lt q.sent (length q.waiting)) e in (ltb-true q.sent 7 b.0, ltb-true q.sent (length q.waiting) b.1)

pub may_send_free : (l : DataLink) → is_free l ≡ true → may_send l.queue ≡ true
unfolding is_free
may_send_free l e = (both_true (is_established l.state && not l.busy) (may_send l.queue) e).1

one_more_queue : (q : SendQueue) → q.sent < 7 → q.sent < length q.waiting → IsQueue q → IsQueue (one_more_sent q)
unfolding one_more_sent
one_more_queue q few waits h = record { window = omega (arith, few); sent = omega (arith, waits); few = h.few; short = h.short; number = h.number }

frame_sent : (l : DataLink) (q : SendQueue) (o : List (List ℕ)) → l.queue.sent < 7 → l.queue.sent < length l.queue.waiting → IsLink l → q.waiting ≡ l.queue.waiting → q.acknowledged ≡ l.queue.acknowledged → HasSent q l.received o (o ++ encoding Network (next_frame l) ∷ [])
frame_sent l q o few waits h w a =
    let k = h.queue in
    let at : distance q (next_number l.queue) ≡ l.queue.sent = distance_is l.queue q a k.number few in
    let long : length (slice_index_or l.queue.waiting l.queue.sent []) ≤ 112 = k.short l.queue.sent [] waits in
    let count : length q.waiting ≡ length l.queue.waiting = ap length w in
    sent_one q l.received o (next_frame l) (number_is l.queue k.number, h.next, omega (arith, long))
    (omega (arith, at, few), omega (arith, at, count, waits), ap (λ xs. slice_index_or xs l.queue.sent []) (sym w) ∙ ap (λ n. slice_index_or q.waiting n []) (sym at)) refl

one_waiting : (q : SendQueue) → (one_more_sent q).waiting ≡ q.waiting
unfolding one_more_sent
one_waiting q = refl

one_number : (q : SendQueue) → (one_more_sent q).acknowledged ≡ q.acknowledged
unfolding one_more_sent
one_number q = refl

pub next_flushed : (at : ℕ) (s : Step) → Flushed s (sends_next at s)
unfolding sends_next
next_flushed at s = by_test (Flushed s) (is_free s.link) _ _ (λ e. sent (may_send_is s.link.queue (may_send_free s.link e))) (λ e. flushed_none s)
  where
    sent : (s.link.queue.sent < 7) × (s.link.queue.sent < length s.link.queue.waiting) → Flushed s (step (after_frame at s.link) (sends (next_frame s.link) s).out)
    sent e = record {
      keeps = (one_waiting s.link.queue, refl);
      number = one_number s.link.queue;
      next = refl;
      ranges = λ h. record { queue = one_more_queue s.link.queue e.0 e.1 h.queue; next = h.next; counter = h.counter };
      sent = λ h q w a. frame_sent s.link q s.out e.0 e.1 h w a;
    }

waiting_flushed : (n at : ℕ) (s : Step) → Flushed s (sends_waiting n at s)
waiting_flushed zero at s = flushed_none s
waiting_flushed (suc n) at s = flushed_both s (sends_next at s) (sends_waiting n at (sends_next at s)) (next_flushed at s) (waiting_flushed n at (sends_next at s))

pub flushes_flushed : (at : ℕ) (s : Step) → Flushed s (flushes at s)
unfolding flushes
flushes_flushed at s = waiting_flushed 7 at s

pub pending_flushed : (s : Step) → Flushed s (acknowledges_pending s)
unfolding acknowledges_pending acknowledges
pending_flushed s = by_test (Flushed s) (s.link.pending && is_multiple_frame s.link.state) _ _
    (λ e. record { keeps = (refl, refl); number = refl; next = refl; ranges = λ h. record { queue = h.queue; next = h.next; counter = h.counter }; sent = λ h q w a. sent_one q s.link.received s.out (response (receive_ready false s.link)) h.next tt refl })
    (λ e. record { keeps = (refl, refl); number = refl; next = refl; ranges = λ h. record { queue = h.queue; next = h.next; counter = h.counter }; sent = λ h q w a. sent_none q s.link.received s.out })

pub finished_flushed : (at : ℕ) (s : Step) → Flushed s (finished at s)
unfolding finished
finished_flushed at s = flushed_both s (flushes at s) _ (flushes_flushed at s) (pending_flushed (flushes at s))

pub flushed_sent : (s t : Step) → Flushed s t → IsLink s.link → HasSent t.link.queue t.link.received s.out t.out
flushed_sent s t h l = sent_by t.link.queue t.link.received s.link.received s.out t.out (sym h.next) (h.sent l t.link.queue h.keeps.0 h.number)

-- ---- a message of layer 3

pub record Taken (m : List ℕ) (s t : Step) : Type 0 where
  pub losses : AddsOrOwes m s.link t.link
  pub next : t.link.received ≡ s.link.received
  pub ranges : IsShort m → IsLink s.link → IsLink t.link
  pub sent : IsShort m → IsLink s.link → HasSent t.link.queue t.link.received s.out t.out

not_fewer : {A : Type 0} (n : ℕ) → n < 64 → 64 ≤ n → A
not_fewer n few many = absurd (omega (arith, few, many))

owed_full : (m : List ℕ) (l k : DataLink) → is_up l ≡ true → 64 ≤ length l.queue.waiting → IsLossOwed k → AddsOrOwes m l k
owed_full m l k up many h = record {
  room = λ on few. not_fewer (length l.queue.waiting) few many;
  full = λ on more. h;
  down = λ off. not_both (is_up l) up off;
}

added_room : (m : List ℕ) (l k : DataLink) → is_up l ≡ true → length l.queue.waiting < 64 → IsAdded m l k → AddsOrOwes m l k
added_room m l k up few h = record {
  room = λ on less. h;
  full = λ on many. not_fewer (length l.queue.waiting) few many;
  down = λ off. not_both (is_up l) up off;
}

unchanged_down : (m : List ℕ) (l : DataLink) → is_up l ≡ false → AddsOrOwes m l l
unchanged_down m l off = record {
  room = λ on few. not_both (is_up l) on off;
  full = λ on many. not_both (is_up l) on off;
  down = λ e. (refl, refl);
}

pub overflows_taken : (m : List ℕ) (at : ℕ) (s : Step) → is_up s.link ≡ true → 64 ≤ length s.link.queue.waiting → Taken m s (overflows at s)
unfolding overflows establishes emptied
overflows_taken m at s up full = by_test (Taken m s) (is_awaiting s.link.state) _ _
    (λ e. record {
      losses = owed_full m s.link _ up full (refl, refl);
      next = refl;
      ranges = λ short h. let q = h.queue in record { queue = empty_queue _ refl refl q.number; next = h.next; counter = h.counter };
      sent = λ short h. sent_none _ s.link.received s.out;
    })
    (λ e. record {
      losses = owed_full m s.link _ up full (refl, refl);
      next = refl;
      ranges = λ short h. let q = h.queue in record { queue = empty_queue _ refl refl q.number; next = h.next; counter = omega arith };
      sent = λ short h. sent_one _ s.link.received s.out (command (control.Sabme true)) tt tt tt;
    })

queued_queue : (m : List ℕ) (q : SendQueue) → IsShort m → length q.waiting < 64 → IsQueue q → IsQueue (queued m q)
unfolding queued
queued_queue m q short few h =
    let long = length_push q.waiting m in let b = h.sent in record {
      window = h.window;
      sent = omega (arith, b, long);
      few = omega (arith, few, long);
      short = All-push IsShort q.waiting m h.short short;
      number = h.number;
    }

queued_waiting : (m : List ℕ) (q : SendQueue) → (queued m q).waiting ≡ q.waiting ++ m ∷ []
unfolding queued
queued_waiting m q = refl

pub submitted_taken : (m : List ℕ) (at : ℕ) (s : Step) → Taken m s (submitted m at s)
unfolding submitted
submitted_taken m at s = by_test (Taken m s) (not (is_up s.link)) _ _ (λ e. unchanged (is_not (is_up s.link) e)) (λ e. by_test (Taken m s) (nat_le 64 (length s.link.queue.waiting)) _ _ (λ d. overflows_taken m at s (is_so (is_up s.link) e) (leb-true 64 (length s.link.queue.waiting) d)) (λ d. waits m at s (is_so (is_up s.link) e) (leb-false 64 (length s.link.queue.waiting) d)))
  where
    is_not : (b : Bool) → not b ≡ true → b ≡ false
    is_not true e = absurd (cc)
    is_not false e = refl

    is_so : (b : Bool) → not b ≡ false → b ≡ true
    is_so true e = refl
    is_so false e = absurd (cc)

    unchanged : is_up s.link ≡ false → Taken m s s
    unchanged off = record { losses = unchanged_down m s.link off; next = refl; ranges = λ short h. h; sent = λ short h. sent_none s.link.queue s.link.received s.out }

    waits : (m : List ℕ) (at : ℕ) (s : Step) → is_up s.link ≡ true → length s.link.queue.waiting < 64 → Taken m s (flushes at (step (record s.link { queue = queued m s.link.queue }) s.out))
    waits m at s on few =
        let t : Step = step (record s.link { queue = queued m s.link.queue }) s.out in
        let f = flushes_flushed at t in record {
          losses = added_room m s.link _ on few (f.keeps.0 ∙ queued_waiting m s.link.queue, f.keeps.1);
          next = f.next;
          ranges = λ short h. f.ranges (record { queue = queued_queue m s.link.queue short few h.queue; next = h.next; counter = h.counter });
          sent = λ short h. flushed_sent t (flushes at t) f (record { queue = queued_queue m s.link.queue short few h.queue; next = h.next; counter = h.counter });
        }

-- ---- the turn of a link

pub record Turned (s : Step) (o : Outcome) : Type 0 where
  pub losses : KeepsOrSettles s.link o
  pub untaken : o.indication ≢ Some indication.Data
  pub next : o.link.received ≡ s.link.received
  pub ranges : IsLink s.link → IsLink o.link
  pub sent : IsLink s.link → HasSent o.link.queue o.link.received s.out o.out

nothing_taken : (None ≡ Some indication.Data) → ⊥
nothing_taken e = absurd (cc)

released_taken : (Some indication.Released ≡ Some indication.Data) → ⊥
released_taken e = absurd (cc)

-- layer 3 is informed of each earlier loss
kept_informed : (l : DataLink) (o : Outcome) → l.owed ≡ false → Keeps 0 l o.link ⊎ IsLossTold o → KeepsOrSettles l o
kept_informed l o off h = record { owing = λ on. not_both l.owed on off; informed = λ e. h }

quietly_turned : (s t : Step) → s.link.owed ≡ false → Quiet 0 s.link.received s t → Turned s (quietly t)
quietly_turned s t off h = record {
  losses = kept_informed s.link (quietly t) off (inl h.keeps);
  untaken = nothing_taken;
  next = h.next;
  ranges = h.ranges;
  sent = λ l. sent_by t.link.queue t.link.received s.link.received s.out t.out (sym h.next) (h.sent l t.link.queue);
}

pub enquires_at_quiet : (retries at : ℕ) (s : Step) → retries ≤ 3 → Quiet 0 s.link.received s (enquires_at retries at s)
unfolding enquires_at
enquires_at_quiet retries at s few = let h = enquires_quiet s in record {
  keeps = h.keeps;
  next = h.next;
  ranges = λ l. let o = h.ranges l in record { queue = o.queue; next = o.next; counter = few };
  sent = h.sent;
}

calls_turned : (at : ℕ) (s : Step) → s.link.owed ≡ false → (s.link.retries == 3) ≡ false → Turned s (quietly (calls_again at s))
calls_turned at s off more = record {
  losses = kept_informed s.link (quietly (calls_again at s)) off (inl (refl, refl));
  untaken = nothing_taken;
  next = refl;
  ranges = λ h. let c = h.counter in let other = eqb-false s.link.retries 3 more in record { queue = h.queue; next = h.next; counter = one_less s.link.retries c other };
  sent = λ h. sent_one _ s.link.received s.out (command (control.Sabme true)) tt tt tt;
}
  where
    one_less : (n : ℕ) → n ≤ 3 → n ≢ 3 → n + 1 ≤ 3
    one_less n few other = omega (arith, few, other)

releases_turned : (at : ℕ) (s : Step) → s.link.owed ≡ false → Turned s (releases at s)
unfolding released lost emptied
releases_turned at s off = record {
  losses = kept_informed s.link (releases at s) off (inr (refl, refl, tt));
  untaken = released_taken;
  next = refl;
  ranges = λ h. let q = h.queue in record { queue = empty_queue _ refl refl q.number; next = h.next; counter = h.counter };
  sent = λ h. sent_none _ s.link.received s.out;
}

again_turned : (at : ℕ) (s : Step) → s.link.owed ≡ false → Turned s (calls_or_releases at s)
unfolding calls_or_releases
again_turned at s off = by_test (Turned s) (s.link.retries == 3) _ _ (λ e. releases_turned at s off) (λ e. calls_turned at s off e)

recovery_turned : (at : ℕ) (s : Step) → s.link.owed ≡ false → IsLink s.link → Turned s (on_expiry state.TimerRecovery at s)
unfolding on_expiry
recovery_turned at s off l = by_test (Turned s) (s.link.retries == 3) _ _ (λ e. quietly_turned s _ off (establishes_quiet false at s)) (λ e. let c = l.counter in let other = eqb-false s.link.retries 3 e in quietly_turned s _ off (enquires_at_quiet (s.link.retries + 1) at s (one_less s.link.retries c other)))
  where
    one_less : (n : ℕ) → n ≤ 3 → n ≢ 3 → n + 1 ≤ 3
    one_less n few other = omega (arith, few, other)

first_few : (r : Running) → first_retries r ≤ 3
first_few T200 = omega arith
first_few T203 = omega arith

expiry_turned : (st : State) (at : ℕ) (s : Step) → s.link.owed ≡ false → IsLink s.link → Turned s (on_expiry st at s)
unfolding on_expiry
expiry_turned state.TeiAssigned at s off l = quietly_turned s _ off (establishes_quiet true at s)
expiry_turned state.AwaitingEstablishment at s off l = again_turned at s off
expiry_turned state.MultipleFrameEstablished at s off l = quietly_turned s _ off (enquires_at_quiet (first_retries s.link.timer.running) at s (first_few s.link.timer.running))
expiry_turned state.TimerRecovery at s off l = recovery_turned at s off l

pub turned_turned : (t : LinkTimers) (at : ℕ) (s : Step) → IsLink s.link → Turned s (turned t at s)
unfolding turned
turned_turned t at s l = by_test (Turned s) s.link.owed _ _
    (λ e. record {
      losses = record { owing = λ on. (refl, refl, refl); informed = λ off. not_both s.link.owed e off };
      untaken = released_taken;
      next = refl;
      ranges = λ h. record { queue = h.queue; next = h.next; counter = h.counter };
      sent = λ h. sent_none s.link.queue s.link.received s.out;
    })
    (λ e. by_test (Turned s) (is_due t at s.link.timer) _ _ (λ d. expiry_turned s.link.state at s e l) (λ d. quietly_turned s s e (quiet_none s)))

pub initial_link : (at : ℕ) → IsLink (initial at)
initial_link at = record { queue = empty_queue _ refl refl (omega arith); next = omega arith; counter = omega arith }
