-- Each step of one of two links is a sequence of events of the handshake.
use Rattle.std.proofs.Common.{◌≡◌, ◌≢◌, ℕ, zero, suc, ◌+◌, ◌<◌, ◌≤◌, Bool, true, false, List, [], ◌∷◌, ◌++◌, length, refl, sym, ap, ◌∙◌, subst, arith, if◌then◌else◌, append_assoc, append-nil, ◌&&◌, ◌||◌, Some, None, Option}
use Rattle.std.specs.Prelude.{◌==◌, nat_le, slice_index_or, not}
use Rattle.std.proofs.lemmas.Bool.{eq-eqb, eqb-false, leb-true, leb-false, or_left}
use Rattle.std.proofs.lemmas.List.Elements.{All-nil, All-push}
use Rattle.std.proofs.lemmas.List.{length_push}
use Rattle.link_procedures.specs.declared.state.Running.{Running}
use Rattle.link_procedures.specs.declared.state.Running.TheVariants.{T200, T203}
use Rattle.link_frames.specs.declared.frame.Sender.TheVariants.{Network}
use Rattle.link_frames.specs.declared.frame.Supervisory.{Supervisory}
use Rattle.link_frames.specs.declared.frame.Supervisory.TheVariants.{Rr, Rnr, Rej}
use Rattle.link_frames.specs.declared.frame.Control.{Control}
use Rattle.link_frames.specs.declared.frame.Control.TheVariants as control
use Rattle.link_frames.specs.declared.frame.Frame.{Frame}
use Rattle.link_frames.specs.Reading.{reading}
use Rattle.link_frames.specs.Writing.{IsWritable, encoding}
use Rattle.link_frames.proofs.Readings.{reading_of_encoding}
use Rattle.link_procedures.specs.declared.state.State.{State}
use Rattle.link_procedures.specs.declared.state.State.TheVariants as state
use Rattle.link_procedures.specs.declared.state.LinkTimers.{LinkTimers}
use Rattle.link_procedures.specs.Links.{SendQueue, emptied, DataLink, Step, step, is_valid, is_multiple_frame, is_established, is_recovering, is_awaiting, is_up}
use Rattle.link_procedures.specs.Sending.{command, response, sends, acknowledges, receive_ready, acknowledging, enquires, rejects, is_free, after_frame, next_frame, sends_next, sends_waiting, flushes, acknowledges_pending, finished}
use Rattle.link_procedures.specs.Establishment.{Outcome, quietly, establishes, established, lost, begun, begins, is_uncertain, released, releases, releases_first, overflowed, overflows, queued, submitted}
use Rattle.link_procedures.specs.Receiving.{on_sabme, on_ua, on_solicited, is_new, retimed, acknowledge, has_moved, supervised_by, recovering_by, busy_by, supervisory_applied, on_valid, answers_enquiry, on_supervisory, in_sequence, acknowledges_later, by_number, numbered_by, by_acknowledgement, on_information, on_control, received}
use Rattle.link_procedures.specs.Timing.{is_due, calls_again, enquiring, enquires_at, calls_or_releases, on_expiry, first_retries, turned}
use Rattle.link_procedures.specs.AnyPeer.{IsShort, IsLink, IsQueue}
use Rattle.link_procedures.proofs.AnyPeerLemmas.{acknowledges_quiet, enquires_quiet, rejects_quiet, establishes_quiet, busied_quiet, valid_quiet, acknowledgement_quiet, next_flushed, enquires_at_quiet, may_send_is, may_send_free, number_is, received_processed, submitted_taken, turned_turned, initial_link}
use Rattle.link_laws.specs.Handshake.{Signal, Sabme, Ua, Numbered, Side, Off, Calling, On, Pair as Handshake, Call, Expire, GiveUp, Send, Arrive as HandArrive, Lose as HandLose, Event as HandEvent, First as HandFirst, Second as HandSecond, start, sabmes, uas, is_over, calls, calls_again as hand_calls_again, gives_up, sends as hand_sends, sabme_comes, ua_comes, arrives as hand_arrives, loses as hand_loses, happens, mirror as hand_mirror, next as hand_next, run as shake}
use Rattle.link_laws.specs.TwoLinks.{Pair, mirror, Act, Submit, Turn, Arrive, Lose, Event, First, Second, stepped, as_step, submits, turns, takes, arrives, loses, acts, next}
use Rattle.link_laws.specs.Numberings.{begun as at_start, IsStart, run, is_sabme, is_ua, is_in, Without, IsTimelyAct, IsTimelyEvent, IsTimely, IsSide, HasNumbers, HasNumbersIn, IsSignal, Carries, Follows, FollowsSome}

by_test : {A : Type 0} (P : A → Type 0) (b : Bool) (x y : A) → (b ≡ true → P x) → (b ≡ false → P y) → P (if b then x else y)
by_test P true x y f g = f refl
by_test P false x y f g = g refl

clash : {A : Type 0} (b : Bool) → b ≡ true → b ≡ false → A
clash true e f = absurd (cc)
clash false e f = absurd (cc)

both_true : (a b : Bool) → (a && b) ≡ true → (a ≡ true) × (b ≡ true)
both_true true b e = (refl, e)
both_true false b e = absurd (cc)

-- ---- runs of the handshake

shake_both : (es fs : List HandEvent) (w : Handshake) → shake (es ++ fs) w ≡ shake fs (shake es w)
shake_both [] fs w = refl
shake_both (e ∷ es) fs w = shake_both es fs (hand_next w e)

-- some events lead from one to the other
abbrev pub Reaches : Handshake → Handshake → Type 0
Reaches w x = (es : List HandEvent) × (shake es w ≡ x)

reaches_both : (w x y : Handshake) → Reaches w x → Reaches x y → Reaches w y
reaches_both w x y h k = (h.0 ++ k.0, shake_both h.0 k.0 w ∙ ap (λ v. shake k.0 v) h.1 ∙ k.1)

-- the first side is b, these frames are sent, and this is on the wire to it
abbrev after : Handshake → Side → List Signal → List Signal → Handshake
after w b signals back = record { first = b; second = w.second; there = w.there ++ signals; back = back }

carries_both : (os qs : List (List ℕ)) (ts us : List Signal) → Carries os ts → Carries qs us → Carries (os ++ qs) (ts ++ us)
carries_both [] qs [] us h k = k
carries_both [] qs (t ∷ ts) us h k = elim h [ ]
carries_both (o ∷ os) qs [] us h k = elim h [ ]
carries_both (o ∷ os) qs (t ∷ ts) us h k = (h.0, carries_both os qs ts us h.1 k)

-- a part of a step: the side goes from a to b
pub record Emits (s t : Step) (a b : Side) : Type 0 where
  pub side : IsSide t.link b
  pub link : IsLink t.link
  pub octets : List (List ℕ)
  pub signals : List Signal
  pub out : t.out ≡ s.out ++ octets
  pub carries : Carries octets signals
  pub acts : (w : Handshake) → w.first ≡ a → Reaches w (after w b signals w.back)

emits_both : (s t u : Step) (a b c : Side) → Emits s t a b → Emits t u b c → Emits s u a c
emits_both s t u a b c h k = record {
  side = k.side;
  link = k.link;
  octets = h.octets ++ k.octets;
  signals = h.signals ++ k.signals;
  out = k.out ∙ ap (λ o. o ++ k.octets) h.out ∙ append_assoc s.out h.octets k.octets;
  carries = carries_both h.octets k.octets h.signals k.signals h.carries k.carries;
  acts = λ w first. reaches_both w (after w b h.signals w.back) (after w c (h.signals ++ k.signals) w.back) (h.acts w first)
      (subst (λ there. Reaches (after w b h.signals w.back) (record { first = c; second = w.second; there = there; back = w.back })) (append_assoc w.there h.signals k.signals) (k.acts (after w b h.signals w.back) refl));
}

-- nothing is sent
emits_none : (s : Step) (m : DataLink) (a : Side) → IsSide m a → IsLink m → Emits s (step m s.out) a a
emits_none s m a side link = record {
  side = side;
  link = link;
  octets = [];
  signals = [];
  out = sym (append-nil s.out);
  carries = tt;
  acts = λ w first. ([], ap (λ f. record { first = f; second = w.second; there = w.there; back = w.back }) first ∙ ap (λ there. record { first = a; second = w.second; there = there; back = w.back }) (sym (append-nil w.there)));
}

on_side : (l : DataLink) (a : Side) → IsSide l a → is_multiple_frame l.state ≡ true → (g : ℕ) × (t : ℕ) × (a ≡ On g t)
unfolding is_multiple_frame is_established is_recovering
on_side l (Off g) h e = clash (is_multiple_frame l.state) e (ap (λ st. is_multiple_frame st) h)
on_side l (Calling g) h e = clash (is_multiple_frame l.state) e (ap (λ st. is_multiple_frame st) h)
on_side l (On g t) h e = (g, t, refl)

-- an I or S frame is sent
emits_numbered : (s : Step) (m : DataLink) (a : Side) (f : Frame) → IsWritable f.command f.control → HasNumbers f.control → is_multiple_frame s.link.state ≡ true → m.state ≡ s.link.state → IsSide s.link a → IsLink m → Emits s (step m (s.out ++ encoding Network f ∷ [])) a a
emits_numbered s m a f writable numbers running same side link =
    let o = on_side s.link a side running in record {
      side = subst (λ x. IsSide m x) (sym o.2) (ap (λ st. is_multiple_frame st) same ∙ running);
      link = link;
      octets = encoding Network f ∷ [];
      signals = Numbered o.0 o.1 ∷ [];
      out = refl;
      carries = (subst HasNumbersIn (sym (reading_of_encoding Network f writable)) numbers, tt);
      acts = λ w first. (HandFirst Send ∷ [], ap (λ x. hand_sends w x) (first ∙ o.2) ∙ ap (λ x. after w x (Numbered o.0 o.1 ∷ []) w.back) (sym o.2));
    }

-- SABME is sent
emits_call : (s : Step) (m : DataLink) (a : Side) (g : ℕ) → ((w : Handshake) → calls w a ≡ after w (Calling g) (Sabme (g + 1) ∷ []) w.back) → m.state ≡ state.AwaitingEstablishment → IsLink m → Emits s (step m (s.out ++ encoding Network (command (control.Sabme true)) ∷ [])) a (Calling g)
emits_call s m a g called same link = record {
  side = same;
  link = link;
  octets = encoding Network (command (control.Sabme true)) ∷ [];
  signals = Sabme (g + 1) ∷ [];
  out = refl;
  carries = (reading_of_encoding Network (command (control.Sabme true)) tt, tt);
  acts = λ w first. (HandFirst Call ∷ [], ap (λ x. calls w x) first ∙ called w);
}

establishes_on : (asked : Bool) (now : ℕ) (s : Step) (g t : ℕ) → IsLink s.link → Emits s (establishes asked now s) (On g t) (Calling g)
unfolding establishes
establishes_on asked now s g t link = emits_call s _ (On g t) g (λ w. refl) refl ((establishes_quiet asked now s).ranges link)

establishes_off : (asked : Bool) (now : ℕ) (s : Step) (g : ℕ) → IsLink s.link → Emits s (establishes asked now s) (Off g) (Calling g)
unfolding establishes
establishes_off asked now s g link = emits_call s _ (Off g) g (λ w. refl) refl ((establishes_quiet asked now s).ranges link)

-- ---- I and S frames are sent

same_side : (l m : DataLink) (a : Side) → m.state ≡ l.state → IsSide l a → IsSide m a
same_side l m (Off g) e h = e ∙ h
same_side l m (Calling g) e h = e ∙ h
same_side l m (On g t) e h = ap (λ st. is_multiple_frame st) e ∙ h

acknowledges_emits : (final : Bool) (s : Step) (a : Side) → is_multiple_frame s.link.state ≡ true → IsSide s.link a → IsLink s.link → Emits s (acknowledges final s) a a
unfolding acknowledges
acknowledges_emits final s a running side link = emits_numbered s _ a (response (receive_ready final s.link)) link.next link.next running refl side ((acknowledges_quiet final s).ranges link)

enquires_emits : (s : Step) (a : Side) → is_multiple_frame s.link.state ≡ true → IsSide s.link a → IsLink s.link → Emits s (enquires s) a a
unfolding enquires
enquires_emits s a running side link = emits_numbered s _ a (command (receive_ready true s.link)) link.next link.next running refl side ((enquires_quiet s).ranges link)

rejects_emits : (final : Bool) (s : Step) (a : Side) → is_multiple_frame s.link.state ≡ true → IsSide s.link a → IsLink s.link → Emits s (rejects final s) a a
unfolding rejects
rejects_emits final s a running side link = emits_numbered s _ a (response (control.Supervisory Rej final s.link.received)) link.next link.next running refl side ((rejects_quiet final s).ranges link)

enquiry_emits : (b : Bool) (s : Step) (a : Side) → is_multiple_frame s.link.state ≡ true → IsSide s.link a → IsLink s.link → Emits s (answers_enquiry b s) a a
unfolding answers_enquiry
enquiry_emits true s a running side link = acknowledges_emits true s a running side link
enquiry_emits false s a running side link = emits_none s s.link a side link

free_runs : (l : DataLink) → is_free l ≡ true → is_multiple_frame l.state ≡ true
unfolding is_free is_multiple_frame
free_runs l e = or_left (is_established l.state) (is_recovering l.state) (both_true (is_established l.state) (not l.busy) (both_true (is_established l.state && not l.busy) _ e).0).0

next_frame_writable : (l : DataLink) → IsLink l → l.queue.sent < length l.queue.waiting → IsWritable true (next_frame l).control
next_frame_writable l link lt = let q = link.queue in let long : length (slice_index_or l.queue.waiting l.queue.sent []) ≤ 112 = q.short l.queue.sent [] lt in (number_is l.queue q.number, link.next, omega (arith, long))

next_emits : (now : ℕ) (s : Step) (a : Side) → IsSide s.link a → IsLink s.link → Emits s (sends_next now s) a a
unfolding sends_next
next_emits now s a side link = cases (is_free s.link) refl ((next_flushed now s).ranges link)
  where
    cases : (b : Bool) → is_free s.link ≡ b → IsLink (if b then step (after_frame now s.link) (sends (next_frame s.link) s).out else s).link → Emits s (if b then step (after_frame now s.link) (sends (next_frame s.link) s).out else s) a a
    cases true e k = emits_numbered s (after_frame now s.link) a (next_frame s.link) (next_frame_writable s.link link (may_send_is s.link.queue (may_send_free s.link e)).1) link.next (free_runs s.link e) refl side k
    cases false e k = emits_none s s.link a side link

waiting_emits : (n now : ℕ) (s : Step) (a : Side) → IsSide s.link a → IsLink s.link → Emits s (sends_waiting n now s) a a
waiting_emits zero now s a side link = emits_none s s.link a side link
waiting_emits (suc n) now s a side link =
    let k = next_emits now s a side link in
    emits_both s (sends_next now s) (sends_waiting n now (sends_next now s)) a a a k (waiting_emits n now (sends_next now s) a k.side k.link)

flushes_emits : (now : ℕ) (s : Step) (a : Side) → IsSide s.link a → IsLink s.link → Emits s (flushes now s) a a
unfolding flushes
flushes_emits now s a side link = waiting_emits 7 now s a side link

pending_emits : (s : Step) (a : Side) → IsSide s.link a → IsLink s.link → Emits s (acknowledges_pending s) a a
unfolding acknowledges_pending
pending_emits s a side link = by_test (λ t. Emits s t a a) (s.link.pending && is_multiple_frame s.link.state) _ _
    (λ e. acknowledges_emits false s a (both_true s.link.pending _ e).1 side link)
    (λ e. emits_none s (acknowledging s.link) a (same_side s.link (acknowledging s.link) a refl side) (record { queue = link.queue; next = link.next; counter = link.counter }))

finished_emits : (now : ℕ) (s : Step) (a : Side) → IsSide s.link a → IsLink s.link → Emits s (finished now s) a a
unfolding finished
finished_emits now s a side link =
    let k = flushes_emits now s a side link in
    emits_both s (flushes now s) _ a a a k (pending_emits (flushes now s) a k.side k.link)

-- ---- I and S frames arrive at a link in multiple frame operation

-- a part after which the side is on, or calls
abbrev pub GoesOn : Step → Step → Side → Type 0
GoesOn s t a = (b : Side) × Emits s t a b

goes_both : (s t u : Step) (a : Side) → Emits s t a a → GoesOn t u a → GoesOn s u a
goes_both s t u a h k = (k.0, emits_both s t u a a k.0 h k.1)

establishes_goes : (asked : Bool) (now : ℕ) (s : Step) (a : Side) → is_multiple_frame s.link.state ≡ true → IsSide s.link a → IsLink s.link → GoesOn s (establishes asked now s) a
establishes_goes asked now s a running side link =
    let o = on_side s.link a side running in
    (Calling o.0, subst (λ x. Emits s (establishes asked now s) x (Calling o.0)) (sym o.2) (establishes_on asked now s o.0 o.1 link))

running_side : (l m : DataLink) (a : Side) → is_multiple_frame l.state ≡ true → is_multiple_frame m.state ≡ true → IsSide l a → IsSide m a
running_side l m a h k side = let o = on_side l a side h in subst (λ x. IsSide m x) (sym o.2) k

pub established_runs : is_multiple_frame state.MultipleFrameEstablished ≡ true
unfolding is_multiple_frame is_established is_recovering
established_runs = refl

pub recovery_runs : is_multiple_frame state.TimerRecovery ≡ true
unfolding is_multiple_frame is_established is_recovering
recovery_runs = refl

retimed_state : (gone : Bool) (now : ℕ) (l : DataLink) → (retimed gone now l).state ≡ l.state
unfolding retimed
retimed_state gone now l = by_test (λ (m : DataLink). m.state ≡ l.state) (l.queue.sent == 0) _ _ (λ e. refl) (λ e. by_test (λ (m : DataLink). m.state ≡ l.state) gone _ _ (λ d. refl) (λ d. refl))

supervised_state : (kind : Supervisory) (nr now : ℕ) (l : DataLink) → (supervised_by kind nr now l).state ≡ l.state
unfolding supervised_by
supervised_state Rr nr now l = retimed_state (has_moved nr l) now (acknowledge nr l)
supervised_state Rnr nr now l = refl
supervised_state Rej nr now l = refl

recovering_runs : (answer : Bool) (nr now : ℕ) (l : DataLink) → is_multiple_frame l.state ≡ true → is_multiple_frame (recovering_by answer nr now l).state ≡ true
unfolding recovering_by
recovering_runs true nr now l h = established_runs
recovering_runs false nr now l h = h

pub applied_runs : (cmd : Bool) (kind : Supervisory) (pf : Bool) (nr now : ℕ) (l : DataLink) → is_multiple_frame l.state ≡ true → is_multiple_frame (supervisory_applied cmd kind pf nr now l).state ≡ true
applied_runs cmd kind pf nr now l h = by_test (λ (m : DataLink). is_multiple_frame m.state ≡ true) (is_recovering l.state) _ _ (λ e. recovering_runs (not cmd && pf) nr now l h) (λ e. ap (λ st. is_multiple_frame st) (supervised_state kind nr now l) ∙ h)

pub numbered_runs : (nr now : ℕ) (l : DataLink) → is_multiple_frame l.state ≡ true → is_multiple_frame (numbered_by nr now l).state ≡ true
numbered_runs nr now l h = by_test (λ (m : DataLink). is_multiple_frame m.state ≡ true) (is_established l.state && not l.busy) _ _ (λ e. ap (λ st. is_multiple_frame st) (retimed_state (has_moved nr l) now (acknowledge nr l)) ∙ h) (λ e. h)

valid_goes : (cmd : Bool) (kind : Supervisory) (pf : Bool) (nr now : ℕ) (s : Step) (a : Side) → nr < 128 → is_multiple_frame s.link.state ≡ true → IsSide s.link a → IsLink s.link → GoesOn s (on_valid cmd kind pf nr now s) a
unfolding on_valid
valid_goes cmd kind pf nr now s a number running side link = cases (is_valid s.link.queue nr) ((valid_quiet cmd kind pf nr now s number).ranges link)
  where
    cases : (b : Bool) → IsLink (if b then step (supervisory_applied cmd kind pf nr now s.link) s.out else establishes false now s).link → GoesOn s (if b then step (supervisory_applied cmd kind pf nr now s.link) s.out else establishes false now s) a
    cases true k = (a, emits_none s (supervisory_applied cmd kind pf nr now s.link) a (running_side s.link (supervisory_applied cmd kind pf nr now s.link) a running (applied_runs cmd kind pf nr now s.link running) side) k)
    cases false k = establishes_goes false now s a running side link

acknowledgement_goes : (nr now : ℕ) (s : Step) (a : Side) → nr < 128 → is_multiple_frame s.link.state ≡ true → IsSide s.link a → IsLink s.link → GoesOn s (by_acknowledgement nr now s) a
unfolding by_acknowledgement
acknowledgement_goes nr now s a number running side link = cases (is_valid s.link.queue nr) ((acknowledgement_quiet nr now s number).ranges link)
  where
    cases : (b : Bool) → IsLink (if b then step (numbered_by nr now s.link) s.out else establishes false now s).link → GoesOn s (if b then step (numbered_by nr now s.link) s.out else establishes false now s) a
    cases true k = (a, emits_none s (numbered_by nr now s.link) a (running_side s.link (numbered_by nr now s.link) a running (numbered_runs nr now s.link running) side) k)
    cases false k = establishes_goes false now s a running side link

pub enquiry_state : (b : Bool) (s : Step) → (answers_enquiry b s).link.state ≡ s.link.state
unfolding answers_enquiry acknowledges
enquiry_state true s = refl
enquiry_state false s = refl

supervisory_goes : (cmd : Bool) (kind : Supervisory) (pf : Bool) (nr now : ℕ) (s : Step) (a : Side) → nr < 128 → IsSide s.link a → IsLink s.link → GoesOn s (on_supervisory cmd kind pf nr now s) a
unfolding on_supervisory
supervisory_goes cmd kind pf nr now s a number side link = by_test (λ t. GoesOn s t a) (is_multiple_frame s.link.state) _ _ (λ e. on e) (λ e. (a, emits_none s s.link a side link))
  where
    on : is_multiple_frame s.link.state ≡ true → GoesOn s (on_valid cmd kind pf nr now (answers_enquiry (cmd && pf) (step (busy_by kind s.link) s.out))) a
    on running =
        let b : Step = step (busy_by kind s.link) s.out in
        let t : Step = answers_enquiry (cmd && pf) (step (busy_by kind s.link) s.out) in
        let first : Emits s b a a = emits_none s (busy_by kind s.link) a (same_side s.link (busy_by kind s.link) a refl side) ((busied_quiet kind s).ranges link) in
        let second = enquiry_emits (cmd && pf) b a running first.side first.link in
        goes_both s t (on_valid cmd kind pf nr now t) a (emits_both s b t a a a first second)
        (valid_goes cmd kind pf nr now t a number (ap (λ st. is_multiple_frame st) (enquiry_state (cmd && pf) b) ∙ running) second.side second.link)

later_emits : (poll : Bool) (s : Step) (a : Side) → is_multiple_frame s.link.state ≡ true → IsSide s.link a → IsLink s.link → Emits s (acknowledges_later poll s) a a
later_emits true s a running side link = acknowledges_emits true s a running side link
later_emits false s a running side link = emits_none s (record s.link { pending = true }) a (same_side s.link (record s.link { pending = true }) a refl side) (record { queue = link.queue; next = link.next; counter = link.counter })

number_emits : (poll : Bool) (ns : ℕ) (s : Step) (a : Side) → is_multiple_frame s.link.state ≡ true → IsSide s.link a → IsLink s.link → Emits s (by_number poll ns s) a a
unfolding by_number
number_emits poll ns s a running side link = by_test (λ t. Emits s t a a) (ns == s.link.received) _ _ (λ e. taken) (λ e. by_test (λ t. Emits s t a a) s.link.rejecting _ _ (λ d. enquiry_emits poll s a running side link) (λ d. rejects_emits poll s a running side link))
  where
    taken : Emits s (acknowledges_later poll (step (in_sequence s.link) s.out)) a a
    taken =
        let b : Step = step (in_sequence s.link) s.out in
        let first : Emits s b a a = emits_none s (in_sequence s.link) a (same_side s.link (in_sequence s.link) a refl side) (record { queue = link.queue; next = omega arith; counter = link.counter }) in
        emits_both s b (acknowledges_later poll b) a a a first (later_emits poll b a running first.side first.link)

later_state : (poll : Bool) (s : Step) → (acknowledges_later poll s).link.state ≡ s.link.state
unfolding acknowledges
later_state true s = refl
later_state false s = refl

pub number_state : (poll : Bool) (ns : ℕ) (s : Step) → (by_number poll ns s).link.state ≡ s.link.state
unfolding by_number rejects
number_state poll ns s = by_test (λ (t : Step). t.link.state ≡ s.link.state) (ns == s.link.received) _ _ (λ e. later_state poll (step (in_sequence s.link) s.out)) (λ e. by_test (λ (t : Step). t.link.state ≡ s.link.state) s.link.rejecting _ _ (λ d. enquiry_state poll s) (λ d. refl))

information_goes : (poll : Bool) (ns nr now : ℕ) (s : Step) (a : Side) → nr < 128 → IsSide s.link a → IsLink s.link → GoesOn s (as_step (on_information poll ns nr now s)) a
unfolding on_information
information_goes poll ns nr now s a number side link = by_test (λ (o : Outcome). GoesOn s (as_step o) a) (is_multiple_frame s.link.state) _ _ (λ e. on e) (λ e. (a, emits_none s s.link a side link))
  where
    on : is_multiple_frame s.link.state ≡ true → GoesOn s (by_acknowledgement nr now (by_number poll ns s)) a
    on running =
        let t : Step = by_number poll ns s in
        let first = number_emits poll ns s a running side link in
        goes_both s t (by_acknowledgement nr now t) a first (acknowledgement_goes nr now t a number (ap (λ st. is_multiple_frame st) (number_state poll ns s) ∙ running) first.side first.link)

information_arrives : (poll : Bool) (ns nr : ℕ) (information : List ℕ) (now : ℕ) (s : Step) (a : Side) (cmd : Bool) → nr < 128 → IsSide s.link a → IsLink s.link → GoesOn s (as_step (on_control cmd (control.Information poll ns nr information) now s)) a
unfolding on_control
information_arrives poll ns nr information now s a cmd h side link = information_goes poll ns nr now s a h side link

supervisory_arrives : (kind : Supervisory) (pf : Bool) (nr now : ℕ) (s : Step) (a : Side) (cmd : Bool) → nr < 128 → IsSide s.link a → IsLink s.link → GoesOn s (as_step (on_control cmd (control.Supervisory kind pf nr) now s)) a
unfolding on_control
supervisory_arrives kind pf nr now s a cmd h side link = supervisory_goes cmd kind pf nr now s a h side link

numbered_goes : (f : Frame) (now : ℕ) (s : Step) (a : Side) → HasNumbers f.control → IsSide s.link a → IsLink s.link → GoesOn s (as_step (received f now s)) a
numbered_goes f now s a numbers side link = cases f.control numbers
  where
    cases : (c : Control) → HasNumbers c → GoesOn s (as_step (on_control f.command c now s)) a
    cases (control.Information poll ns nr information) h = information_arrives poll ns nr information now s a f.command h side link
    cases (control.Supervisory kind pf nr) h = supervisory_arrives kind pf nr now s a f.command h side link
    cases (control.Sabme poll) h = elim h [ ]
    cases (control.Disc poll) h = elim h [ ]
    cases (control.Ua final) h = elim h [ ]
    cases (control.Dm final) h = elim h [ ]
    cases control.Frmr h = elim h [ ]
    cases control.Ui h = elim h [ ]
    cases control.Xid h = elim h [ ]
    cases control.Invalid h = elim h [ ]

-- ---- both links

pub record Both (p : Pair) (w : Handshake) : Type 0 where
  pub follows : Follows p w
  pub one : IsLink p.first
  pub two : IsLink p.second

abbrev pub Leads : Handshake → Pair → Type 0
Leads w p = (x : Handshake) × Reaches w x × Both p x

carries_first : (p : Pair) (w : Handshake) (os : List (List ℕ)) (ts : List Signal) → Carries p.there w.there → Carries os ts → Carries (p.there ++ os) (w.there ++ ts)
carries_first p w os ts h k = carries_both p.there os w.there ts h k

-- a step in which these frames are sent, up to its end
ends : (p : Pair) (w : Handshake) (now : ℕ) (t : Step) (rest : List (List ℕ)) (ts : List Signal) (b : Side) (octets : List (List ℕ)) (signals : List Signal) (sub del : List (List ℕ)) → Both p w → t.out ≡ octets → Carries octets signals → IsSide t.link b → IsLink t.link → Reaches w (after w b signals ts) → Carries rest ts → Leads w (stepped p (finished now t) rest sub del)
ends p w now t rest ts b octets signals sub del h out carries side link reaches back =
    let k = finished_emits now t b side link in
    let y : Handshake = after w b signals ts in (
      after y b k.signals ts,
      reaches_both w y (after y b k.signals ts) reaches (k.acts y refl),
      record {
        follows = record {
          first = k.side;
          second = h.follows.second;
          there = subst (λ os. Carries os ((w.there ++ signals) ++ k.signals)) (append_assoc p.there octets k.octets ∙ ap (λ o. p.there ++ o) (ap (λ o. o ++ k.octets) (sym out) ∙ sym k.out))
              (carries_both (p.there ++ octets) k.octets (w.there ++ signals) k.signals (carries_first p w octets signals h.follows.there carries) k.carries);
          back = back;
        };
        one = k.link;
        two = h.two;
      },
    )

-- a part of a step without an arrival
emits_ends : (p : Pair) (w : Handshake) (now : ℕ) (t : Step) (b : Side) (sub del : List (List ℕ)) → Both p w → Emits (step p.first []) t w.first b → Leads w (stepped p (finished now t) p.back sub del)
emits_ends p w now t b sub del h k = ends p w now t p.back w.back b k.octets k.signals sub del h k.out k.carries k.side k.link (k.acts w refl) h.follows.back

-- ---- the oldest frame arrives

numbered_drops : (w : Handshake) (n k : ℕ) (ts : List Signal) → w.back ≡ Numbered n k ∷ ts → Reaches w (record { first = w.first; second = w.second; there = w.there; back = ts })
numbered_drops w n k ts e = (HandSecond HandArrive ∷ [], ap (λ b. hand_mirror (hand_arrives (hand_mirror w) b)) e)

numbered_arrives : (p : Pair) (w : Handshake) (now : ℕ) (f : Frame) (rest : List (List ℕ)) (n k : ℕ) (ts : List Signal) (del : List (List ℕ)) → Both p w → w.back ≡ Numbered n k ∷ ts → HasNumbers f.control → Carries rest ts → Leads w (stepped p (finished now (as_step (received f now (step p.first [])))) rest p.submitted del)
numbered_arrives p w now f rest n k ts del h e numbers carries =
    let s : Step = step p.first [] in
    let y : Handshake = record { first = w.first; second = w.second; there = w.there; back = ts } in
    let g = numbered_goes f now s w.first numbers h.follows.first h.one in
    let m = g.1 in
    ends p w now (as_step (received f now s)) rest ts g.0 m.octets m.signals p.submitted del h m.out m.carries m.side m.link
    (reaches_both w y (after w g.0 m.signals ts) (numbered_drops w n k ts e) (m.acts y refl)) carries

pub ua_read : reading Network (encoding Network (response (control.Ua true))) ≡ Some (response (control.Ua true))
ua_read = reading_of_encoding Network (response (control.Ua true)) tt

-- the frame that answers SABME
ua_carries : (g : ℕ) → Carries (encoding Network (response (control.Ua true)) ∷ []) (Ua g ∷ [])
ua_carries g = (ua_read, tt)

pub begun_runs : (is_new : Bool) (now : ℕ) (l : DataLink) → is_multiple_frame (begun is_new now l).state ≡ true
unfolding begun established
begun_runs true now l = established_runs
begun_runs false now l = established_runs

pub assigned_waits : is_awaiting state.TeiAssigned ≡ false
unfolding is_awaiting
assigned_waits = refl

pub assigned_stops : is_multiple_frame state.TeiAssigned ≡ false
unfolding is_multiple_frame is_established is_recovering
assigned_stops = refl

pub awaiting_waits : is_awaiting state.AwaitingEstablishment ≡ true
unfolding is_awaiting
awaiting_waits = refl

pub running_waits : (st : State) → is_multiple_frame st ≡ true → is_awaiting st ≡ false
unfolding is_multiple_frame is_established is_recovering is_awaiting
running_waits state.TeiAssigned e = refl
running_waits state.AwaitingEstablishment e = clash false e refl
running_waits state.MultipleFrameEstablished e = refl
running_waits state.TimerRecovery e = refl

ua_passed : (now : ℕ) (s : Step) → is_awaiting s.link.state ≡ false → on_ua true now s ≡ quietly s
unfolding on_ua
ua_passed now s e = rw e refl

ua_calling : (now : ℕ) (s : Step) → is_awaiting s.link.state ≡ true → on_ua true now s ≡ on_solicited now s
unfolding on_ua
ua_calling now s e = rw e refl

sabme_assigned : (now : ℕ) (s : Step) → (is_multiple_frame (on_sabme state.TeiAssigned true now s).link.state ≡ true) × ((on_sabme state.TeiAssigned true now s).out ≡ s.out ++ encoding Network (response (control.Ua true)) ∷ [])
unfolding on_sabme
sabme_assigned now s = (begun_runs true now s.link, refl)

sabme_calling : (now : ℕ) (s : Step) → ((on_sabme state.AwaitingEstablishment true now s).link.state ≡ s.link.state) × ((on_sabme state.AwaitingEstablishment true now s).out ≡ s.out ++ encoding Network (response (control.Ua true)) ∷ [])
unfolding on_sabme
sabme_calling now s = (refl, refl)

sabme_at : (st : State) (now : ℕ) (s : Step) → is_multiple_frame st ≡ true → (is_multiple_frame (on_sabme st true now s).link.state ≡ true) × ((on_sabme st true now s).out ≡ s.out ++ encoding Network (response (control.Ua true)) ∷ [])
unfolding on_sabme is_multiple_frame is_established is_recovering begun established lost
sabme_at state.TeiAssigned now s e = clash false e refl
sabme_at state.AwaitingEstablishment now s e = clash false e refl
sabme_at state.MultipleFrameEstablished now s e = (begun_runs (is_uncertain s.link.queue) now s.link, refl)
sabme_at state.TimerRecovery now s e = (begun_runs (is_uncertain s.link.queue) now s.link, refl)

sabme_off : (st : State) (now : ℕ) (s : Step) → st ≡ state.TeiAssigned → (is_multiple_frame (on_sabme st true now s).link.state ≡ true) × ((on_sabme st true now s).out ≡ s.out ++ encoding Network (response (control.Ua true)) ∷ [])
sabme_off st now s e = subst (λ st. (is_multiple_frame (on_sabme st true now s).link.state ≡ true) × ((on_sabme st true now s).out ≡ s.out ++ encoding Network (response (control.Ua true)) ∷ [])) (sym e) (sabme_assigned now s)

sabme_calls : (st : State) (now : ℕ) (s : Step) → st ≡ state.AwaitingEstablishment → ((on_sabme st true now s).link.state ≡ s.link.state) × ((on_sabme st true now s).out ≡ s.out ++ encoding Network (response (control.Ua true)) ∷ [])
sabme_calls st now s e = subst (λ st. ((on_sabme st true now s).link.state ≡ s.link.state) × ((on_sabme st true now s).out ≡ s.out ++ encoding Network (response (control.Ua true)) ∷ [])) (sym e) (sabme_calling now s)

sabme_arrives : (p : Pair) (w : Handshake) (now : ℕ) (rest : List (List ℕ)) (n : ℕ) (ts : List Signal) (del : List (List ℕ)) → Both p w → w.back ≡ Sabme n ∷ ts → Carries rest ts → (a : Side) → w.first ≡ a → IsSide p.first a → Leads w (stepped p (finished now (as_step (received (command (control.Sabme true)) now (step p.first [])))) rest p.submitted del)
unfolding on_control
sabme_arrives p w now rest n ts del h e carries (Off g) first side =
    let s : Step = step p.first [] in
    let k = sabme_off p.first.state now s side in
    ends p w now (as_step (on_sabme p.first.state true now s)) rest ts (On (g + 1) n) (encoding Network (response (control.Ua true)) ∷ []) (Ua (g + 1) ∷ []) p.submitted del h k.1 (ua_carries (g + 1)) k.0
    ((received_processed (command (control.Sabme true)) now s tt).ranges h.one)
    (HandSecond HandArrive ∷ [], ap (λ b. hand_mirror (hand_arrives (hand_mirror w) b)) e ∙ ap (λ a. hand_mirror (sabme_comes (hand_mirror w) n ts a)) first) carries
sabme_arrives p w now rest n ts del h e carries (Calling g) first side =
    let s : Step = step p.first [] in
    let k = sabme_calls p.first.state now s side in
    ends p w now (as_step (on_sabme p.first.state true now s)) rest ts (Calling g) (encoding Network (response (control.Ua true)) ∷ []) (Ua (g + 1) ∷ []) p.submitted del h k.1 (ua_carries (g + 1)) (k.0 ∙ side)
    ((received_processed (command (control.Sabme true)) now s tt).ranges h.one)
    (HandSecond HandArrive ∷ [], ap (λ b. hand_mirror (hand_arrives (hand_mirror w) b)) e ∙ ap (λ a. hand_mirror (sabme_comes (hand_mirror w) n ts a)) first) carries
sabme_arrives p w now rest n ts del h e carries (On g t) first side =
    let s : Step = step p.first [] in
    let k = sabme_at p.first.state now s side in
    ends p w now (as_step (on_sabme p.first.state true now s)) rest ts (On (g + 1) n) (encoding Network (response (control.Ua true)) ∷ []) (Ua (g + 1) ∷ []) p.submitted del h k.1 (ua_carries (g + 1)) k.0
    ((received_processed (command (control.Sabme true)) now s tt).ranges h.one)
    (HandSecond HandArrive ∷ [], ap (λ b. hand_mirror (hand_arrives (hand_mirror w) b)) e ∙ ap (λ a. hand_mirror (sabme_comes (hand_mirror w) n ts a)) first) carries

-- the handshake with a UA that arrives at a side
ua_comes_to : (w : Handshake) (u : ℕ) (ts : List Signal) (a : Side) → w.back ≡ Ua u ∷ ts → w.first ≡ a → shake (HandSecond HandArrive ∷ []) w ≡ hand_mirror (ua_comes (hand_mirror w) u ts a)
ua_comes_to w u ts a e first = ap (λ b. hand_mirror (hand_arrives (hand_mirror w) b)) e ∙ ap (λ a. hand_mirror (ua_comes (hand_mirror w) u ts a)) first

-- UA establishes the link, or layer 3 is informed of a loss, and another SABME is sent: the new numbering ends at once
solicited_leads : (p : Pair) (w : Handshake) (now : ℕ) (rest : List (List ℕ)) (u g : ℕ) (ts : List Signal) (del : List (List ℕ)) → Both p w → w.back ≡ Ua u ∷ ts → Carries rest ts → w.first ≡ Calling g → IsLink (on_solicited now (step p.first [])).link → Leads w (stepped p (finished now (as_step (on_solicited now (step p.first [])))) rest p.submitted del)
unfolding on_solicited establishes
solicited_leads p w now rest u g ts del h e carries first = by_test (λ (o : Outcome). IsLink o.link → Leads w (stepped p (finished now (as_step o)) rest p.submitted del)) p.first.owed _ _
    (λ d link. ends p w now (as_step (releases_first now (step p.first []))) rest ts (Calling (g + 1)) (encoding Network (command (control.Sabme true)) ∷ []) (Sabme (g + 1 + 1) ∷ []) p.submitted del h refl
    (reading_of_encoding Network (command (control.Sabme true)) tt, tt) refl link
    (HandSecond HandArrive ∷ HandFirst Call ∷ [], ap (λ x. shake (HandFirst Call ∷ []) x) (ua_comes_to w u ts (Calling g) e first)) carries)
    (λ d link. ends p w now (as_step (begins (is_new p.first) now (step p.first []))) rest ts (On (g + 1) u) [] [] p.submitted del h refl tt (begun_runs (is_new p.first) now p.first) link
    (HandSecond HandArrive ∷ [], ua_comes_to w u ts (Calling g) e first ∙ ap (λ there. record { first = On (g + 1) u; second = w.second; there = there; back = ts }) (sym (append-nil w.there))) carries)

ua_arrives : (p : Pair) (w : Handshake) (now : ℕ) (rest : List (List ℕ)) (u : ℕ) (ts : List Signal) (del : List (List ℕ)) → Both p w → w.back ≡ Ua u ∷ ts → Carries rest ts → (a : Side) → w.first ≡ a → IsSide p.first a → Leads w (stepped p (finished now (as_step (received (response (control.Ua true)) now (step p.first [])))) rest p.submitted del)
unfolding on_control
ua_arrives p w now rest u ts del h e carries (Off g) first side =
    let s : Step = step p.first [] in
    subst (λ (o : Outcome). Leads w (stepped p (finished now (as_step o)) rest p.submitted del)) (sym (ua_passed now s (ap (λ st. is_awaiting st) side ∙ assigned_waits)))
    (ends p w now s rest ts (Off g) [] [] p.submitted del h refl tt side h.one
    (HandSecond HandArrive ∷ [], ua_comes_to w u ts (Off g) e first ∙ ap (λ there. record { first = Off g; second = w.second; there = there; back = ts }) (sym (append-nil w.there))) carries)
ua_arrives p w now rest u ts del h e carries (Calling g) first side =
    let s : Step = step p.first [] in
    let is = ua_calling now s (ap (λ st. is_awaiting st) side ∙ awaiting_waits) in
    subst (λ (o : Outcome). Leads w (stepped p (finished now (as_step o)) rest p.submitted del)) (sym is)
    (solicited_leads p w now rest u g ts del h e carries first (subst (λ (o : Outcome). IsLink o.link) is ((received_processed (response (control.Ua true)) now s tt).ranges h.one)))
ua_arrives p w now rest u ts del h e carries (On g t) first side =
    let s : Step = step p.first [] in
    subst (λ (o : Outcome). Leads w (stepped p (finished now (as_step o)) rest p.submitted del)) (sym (ua_passed now s (running_waits p.first.state side)))
    (ends p w now s rest ts (On g t) [] [] p.submitted del h refl tt side h.one
    (HandSecond HandArrive ∷ [], ua_comes_to w u ts (On g t) e first ∙ ap (λ there. record { first = On g t; second = w.second; there = there; back = ts }) (sym (append-nil w.there))) carries)

signal_arrives : (p : Pair) (w : Handshake) (now : ℕ) (f : Frame) (rest : List (List ℕ)) (sig : Signal) (ts : List Signal) → Both p w → w.back ≡ sig ∷ ts → IsSignal (Some f) sig → Carries rest ts → Leads w (takes p now rest (Some f))
signal_arrives p w now f rest (Sabme n) ts h e is carries = subst (λ o. Leads w (takes p now rest o)) (sym is) (sabme_arrives p w now rest n ts _ h e carries w.first refl h.follows.first)
signal_arrives p w now f rest (Ua u) ts h e is carries = subst (λ o. Leads w (takes p now rest o)) (sym is) (ua_arrives p w now rest u ts _ h e carries w.first refl h.follows.first)
signal_arrives p w now f rest (Numbered n k) ts h e is carries = numbered_arrives p w now f rest n k ts _ h e is carries

-- what is on the wire is a frame
reading_arrives : (p : Pair) (w : Handshake) (now : ℕ) (o : Option Frame) (rest : List (List ℕ)) (sig : Signal) (ts : List Signal) → Both p w → w.back ≡ sig ∷ ts → IsSignal o sig → Carries rest ts → Leads w (takes p now rest o)
reading_arrives p w now (Some f) rest sig ts h e is carries = signal_arrives p w now f rest sig ts h e is carries
reading_arrives p w now None rest (Sabme n) ts h e is carries = absurd (cc)
reading_arrives p w now None rest (Ua u) ts h e is carries = absurd (cc)
reading_arrives p w now None rest (Numbered n k) ts h e is carries = elim is [ ]

arrives_leads : (p : Pair) (w : Handshake) (now : ℕ) → Both p w → (os : List (List ℕ)) (ts : List Signal) → w.back ≡ ts → Carries os ts → p.back ≡ os → Leads w (arrives p now os)
arrives_leads p w now h [] [] e c at = (w, ([], refl), h)
arrives_leads p w now h [] (t ∷ ts) e c at = elim c [ ]
arrives_leads p w now h (o ∷ os) [] e c at = elim c [ ]
arrives_leads p w now h (o ∷ os) (t ∷ ts) e c at = reading_arrives p w now (reading Network o) os t ts h e c.0 c.1

loses_leads : (p : Pair) (w : Handshake) → Both p w → (os : List (List ℕ)) (ts : List Signal) → w.back ≡ ts → Carries os ts → Leads w (loses p os)
loses_leads p w h [] [] e c = (w, ([], refl), h)
loses_leads p w h [] (t ∷ ts) e c = elim c [ ]
loses_leads p w h (o ∷ os) [] e c = elim c [ ]
loses_leads p w h (o ∷ os) (t ∷ ts) e c = (
  record { first = w.first; second = w.second; there = w.there; back = ts },
  (HandSecond HandLose ∷ [], ap (λ b. hand_mirror (hand_loses (hand_mirror w) b)) e),
  record {
    follows = record { first = h.follows.first; second = h.follows.second; there = subst (λ os. Carries os w.there) (sym (append-nil p.there)) h.follows.there; back = c.1 };
    one = h.one;
    two = h.two;
  },
)

-- ---- the turn

pub no_sabmes : (os : List (List ℕ)) (ts : List Signal) → Carries os ts → Without is_sabme os → sabmes ts ≡ 0
no_sabmes [] [] c n = refl
no_sabmes [] (t ∷ ts) c n = elim c [ ]
no_sabmes (o ∷ os) [] c n = elim c [ ]
no_sabmes (o ∷ os) (Sabme k ∷ ts) c n = clash true refl (ap (λ x. is_in is_sabme x) (sym c.0) ∙ n.0)
no_sabmes (o ∷ os) (Ua k ∷ ts) c n = no_sabmes os ts c.1 n.1
no_sabmes (o ∷ os) (Numbered k l ∷ ts) c n = no_sabmes os ts c.1 n.1

pub no_uas : (os : List (List ℕ)) (ts : List Signal) → Carries os ts → Without is_ua os → uas ts ≡ 0
no_uas [] [] c n = refl
no_uas [] (t ∷ ts) c n = elim c [ ]
no_uas (o ∷ os) [] c n = elim c [ ]
no_uas (o ∷ os) (Sabme k ∷ ts) c n = no_uas os ts c.1 n.1
no_uas (o ∷ os) (Ua k ∷ ts) c n = clash true refl (ap (λ x. is_in is_ua x) (sym c.0) ∙ n.0)
no_uas (o ∷ os) (Numbered k l ∷ ts) c n = no_uas os ts c.1 n.1

over_is : (p : Pair) (w : Handshake) → Both p w → Without is_sabme p.there × Without is_ua p.back → is_over w ≡ true
over_is p w h n =
    let a = no_sabmes p.there w.there h.follows.there n.0 in
    let b = no_uas p.back w.back h.follows.back n.1 in
    eq-eqb (sabmes w.there + uas w.back) 0 (omega (arith, a, b))

pub if_over : (b : Bool) (x y : Handshake) → b ≡ true → (if b then x else y) ≡ x
if_over true x y e = refl
if_over false x y e = absurd (cc)

-- SABME is sent again, or the link gives up
released_state : (now : ℕ) (l : DataLink) → (released now l).state ≡ state.TeiAssigned
unfolding released
released_state now l = refl

off_side : (l : DataLink) (a : Side) → IsSide l a → l.state ≡ state.TeiAssigned → (g : ℕ) × (a ≡ Off g)
off_side l (Off g) h e = (g, refl)
off_side l (Calling g) h e = clash (is_awaiting l.state) (ap (λ st. is_awaiting st) h ∙ awaiting_waits) (ap (λ st. is_awaiting st) e ∙ assigned_waits)
off_side l (On g t) h e = clash (is_multiple_frame l.state) h (ap (λ st. is_multiple_frame st) e ∙ assigned_stops)

calling_side : (l : DataLink) (a : Side) → IsSide l a → l.state ≡ state.AwaitingEstablishment → (g : ℕ) × (a ≡ Calling g)
calling_side l (Off g) h e = clash (is_awaiting l.state) (ap (λ st. is_awaiting st) e ∙ awaiting_waits) (ap (λ st. is_awaiting st) h ∙ assigned_waits)
calling_side l (Calling g) h e = (g, refl)
calling_side l (On g t) h e = clash (is_awaiting l.state) (ap (λ st. is_awaiting st) e ∙ awaiting_waits) (running_waits l.state h)

first_few : (r : Running) → first_retries r ≤ 3
first_few T200 = omega arith
first_few T203 = omega arith

one_less : (n : ℕ) → n ≤ 3 → n ≢ 3 → n + 1 ≤ 3
one_less n few other = omega (arith, few, other)

up_of : (b : Bool) → not b ≡ false → b ≡ true
up_of true e = refl
up_of false e = absurd (cc)

overflowed_link : (l : DataLink) → IsLink l → IsLink (overflowed l)
unfolding emptied
overflowed_link l h = let q = h.queue in record { queue = record { window = omega arith; sent = omega arith; few = omega arith; short = All-nil IsShort; number = q.number }; next = h.next; counter = h.counter }

queued_queue : (m : List ℕ) (q : SendQueue) → IsShort m → length q.waiting < 64 → IsQueue q → IsQueue (queued m q)
unfolding queued
queued_queue m q short few h = let long = length_push q.waiting m in let b = h.sent in record { window = h.window; sent = omega (arith, b, long); few = omega (arith, few, long); short = All-push IsShort q.waiting m h.short short; number = h.number }

call_leads : (p : Pair) (w : Handshake) (now : ℕ) (g : ℕ) → Both p w → w.first ≡ Calling g → p.first.state ≡ state.AwaitingEstablishment → is_over w ≡ true → IsLink (calls_or_releases now (step p.first [])).link → Leads w (stepped p (finished now (as_step (calls_or_releases now (step p.first [])))) p.back p.submitted p.returned)
unfolding calls_or_releases
call_leads p w now g h first side over = by_test (λ (o : Outcome). IsLink o.link → Leads w (stepped p (finished now (as_step o)) p.back p.submitted p.returned)) (p.first.retries == 3) _ _
    (λ e link. ends p w now (as_step (releases now (step p.first []))) p.back w.back (Off g) [] [] p.submitted p.returned h refl tt (released_state now p.first) link
    (HandFirst GiveUp ∷ [], if_over (is_over w) _ _ over ∙ ap (λ a. gives_up w a) first ∙ ap (λ there. record { first = Off g; second = w.second; there = there; back = w.back }) (sym (append-nil w.there))) h.follows.back)
    (λ e link. ends p w now (calls_again now (step p.first [])) p.back w.back (Calling g) (encoding Network (command (control.Sabme true)) ∷ []) (Sabme (g + 1) ∷ []) p.submitted p.returned h refl
    (reading_of_encoding Network (command (control.Sabme true)) tt, tt) side link
    (HandFirst Expire ∷ [], if_over (is_over w) _ _ over ∙ ap (λ a. hand_calls_again w a) first) h.follows.back)

enquires_at_emits : (retries now : ℕ) (s : Step) (a : Side) → retries ≤ 3 → is_multiple_frame s.link.state ≡ true → IsSide s.link a → IsLink s.link → Emits s (enquires_at retries now s) a a
unfolding enquires_at
enquires_at_emits retries now s a few running side link =
    let k = enquires_emits s a running side link in
    emits_both s (enquires s) _ a a a k (emits_none (enquires s) (enquiring retries now (enquires s).link) a (running_side s.link (enquiring retries now (enquires s).link) a running recovery_runs side) ((enquires_at_quiet retries now s few).ranges link))

expiry_leads : (p : Pair) (w : Handshake) (now : ℕ) (st : State) → p.first.state ≡ st → Both p w → (is_awaiting st ≡ true → is_over w ≡ true) → IsLink (on_expiry st now (step p.first [])).link → Leads w (stepped p (finished now (as_step (on_expiry st now (step p.first [])))) p.back p.submitted p.returned)
unfolding on_expiry
expiry_leads p w now state.TeiAssigned is h over link =
    let o = off_side p.first w.first h.follows.first is in
    emits_ends p w now _ (Calling o.0) p.submitted p.returned h (subst (λ a. Emits (step p.first []) (establishes true now (step p.first [])) a (Calling o.0)) (sym o.1) (establishes_off true now (step p.first []) o.0 h.one))
expiry_leads p w now state.AwaitingEstablishment is h over link =
    let o = calling_side p.first w.first h.follows.first is in call_leads p w now o.0 h o.1 is (over awaiting_waits) link
expiry_leads p w now state.MultipleFrameEstablished is h over link =
    emits_ends p w now _ w.first p.submitted p.returned h (enquires_at_emits (first_retries p.first.timer.running) now (step p.first []) w.first (first_few p.first.timer.running) (ap (λ st. is_multiple_frame st) is ∙ established_runs) h.follows.first h.one)
expiry_leads p w now state.TimerRecovery is h over link =
    by_test (λ (o : Outcome). Leads w (stepped p (finished now (as_step o)) p.back p.submitted p.returned)) (p.first.retries == 3) _ _
    (λ e. let k = establishes_goes false now (step p.first []) w.first (ap (λ st. is_multiple_frame st) is ∙ recovery_runs) h.follows.first h.one in
    emits_ends p w now _ k.0 p.submitted p.returned h k.1)
    (λ e. let c = h.one.counter in let d = eqb-false p.first.retries 3 e in
    emits_ends p w now _ w.first p.submitted p.returned h (enquires_at_emits (p.first.retries + 1) now (step p.first []) w.first (one_less p.first.retries c d) (ap (λ st. is_multiple_frame st) is ∙ recovery_runs) h.follows.first h.one))

turns_leads : (p : Pair) (w : Handshake) (t : LinkTimers) (now : ℕ) → Both p w → (is_awaiting p.first.state ≡ true → is_due t now p.first.timer ≡ true → Without is_sabme p.there × Without is_ua p.back) → Leads w (turns p t now)
unfolding turned
turns_leads p w t now h timely = cases ((turned_turned t now (step p.first []) h.one).ranges h.one)
  where
    cases : IsLink (turned t now (step p.first [])).link → Leads w (turns p t now)
    cases link = by_test (λ (o : Outcome). IsLink o.link → Leads w (stepped p (finished now (as_step o)) p.back p.submitted p.returned)) p.first.owed _ _
        (λ e l. emits_ends p w now _ w.first p.submitted p.returned h (emits_none (step p.first []) (record p.first { owed = false }) w.first (same_side p.first (record p.first { owed = false }) w.first refl h.follows.first) l))
        (λ e. by_test (λ (o : Outcome). IsLink o.link → Leads w (stepped p (finished now (as_step o)) p.back p.submitted p.returned)) (is_due t now p.first.timer) _ _
        (λ d l. expiry_leads p w now p.first.state refl h (λ waits. over_is p w h (timely waits d)) l)
        (λ d l. emits_ends p w now _ w.first p.submitted p.returned h (emits_none (step p.first []) p.first w.first h.follows.first h.one))) link

-- ---- a message of layer 3

pub up_runs : (l : DataLink) → is_up l ≡ true → is_awaiting l.state ≡ false → is_multiple_frame l.state ≡ true
unfolding is_up
up_runs l up waits = cases (is_multiple_frame l.state) refl
  where
    cases : (b : Bool) → is_multiple_frame l.state ≡ b → is_multiple_frame l.state ≡ true
    cases true e = e
    cases false e = clash (is_awaiting l.state) (both_true (is_awaiting l.state) (not l.asked) (sym (ap (λ b. b || (is_awaiting l.state && not l.asked)) e) ∙ up)).0 waits

overflows_leads : (p : Pair) (w : Handshake) (now : ℕ) (sub : List (List ℕ)) → Both p w → is_up p.first ≡ true → IsLink (overflows now (step p.first [])).link → Leads w (stepped p (finished now (overflows now (step p.first []))) p.back sub p.returned)
unfolding overflows
overflows_leads p w now sub h up = by_test (λ (t : Step). IsLink t.link → Leads w (stepped p (finished now t) p.back sub p.returned)) (is_awaiting p.first.state) _ _
    (λ e link. emits_ends p w now _ w.first sub p.returned h (emits_none (step p.first []) (record (overflowed p.first) { asked = true }) w.first (same_side p.first (record (overflowed p.first) { asked = true }) w.first refl h.follows.first) link))
    (λ e link.
    let running = up_runs p.first up e in
    let s : Step = step (overflowed p.first) [] in
    let quiet = overflowed_link p.first h.one in
    let k = establishes_goes true now s w.first running (same_side p.first (overflowed p.first) w.first refl h.follows.first) quiet in
    let m = k.1 in
    ends p w now (establishes true now s) p.back w.back k.0 m.octets m.signals sub p.returned h m.out m.carries m.side m.link (m.acts w refl) h.follows.back)

submits_leads : (p : Pair) (w : Handshake) (m : List ℕ) (now : ℕ) → length m ≤ 112 → Both p w → Leads w (submits p m now)
unfolding submitted
submits_leads p w m now short h = cases ((submitted_taken m now (step p.first [])).ranges short h.one)
  where
    cases : IsLink (submitted m now (step p.first [])).link → Leads w (submits p m now)
    cases link = by_test (λ (t : Step). IsLink t.link → Leads w (stepped p (finished now t) p.back (p.submitted ++ m ∷ []) p.returned)) (not (is_up p.first)) _ _
        (λ e l. emits_ends p w now _ w.first (p.submitted ++ m ∷ []) p.returned h (emits_none (step p.first []) p.first w.first h.follows.first h.one))
        (λ e. by_test (λ (t : Step). IsLink t.link → Leads w (stepped p (finished now t) p.back (p.submitted ++ m ∷ []) p.returned)) (nat_le 64 (length p.first.queue.waiting)) _ _
        (λ d l. overflows_leads p w now (p.submitted ++ m ∷ []) h (up_of (is_up p.first) e) l)
        (λ d l.
        let s : Step = step (record p.first { queue = queued m p.first.queue }) [] in
        let few = leb-false 64 (length p.first.queue.waiting) d in
        let k = flushes_emits now s w.first (same_side p.first (record p.first { queue = queued m p.first.queue }) w.first refl h.follows.first) (record { queue = queued_queue m p.first.queue short few h.one.queue; next = h.one.next; counter = h.one.counter }) in
        ends p w now (flushes now s) p.back w.back w.first k.octets k.signals (p.submitted ++ m ∷ []) p.returned h k.out k.carries k.side k.link (k.acts w refl) h.follows.back)) link

-- ---- all

acts_lead : (p : Pair) (w : Handshake) (a : Act) → IsTimelyAct p a → Both p w → Leads w (acts p a)
acts_lead p w (Submit m at) timely h = by_test (Leads w) (nat_le (length m) 112) _ _ (λ e. submits_leads p w m at (leb-true (length m) 112 e) h) (λ e. (w, ([], refl), h))
acts_lead p w (Turn t at) timely h = turns_leads p w t at h timely
acts_lead p w (Arrive at) timely h = arrives_leads p w at h p.back w.back refl h.follows.back refl
acts_lead p w Lose timely h = loses_leads p w h p.back w.back refl h.follows.back

flips : List HandEvent → List HandEvent
flips [] = []
flips (HandFirst a ∷ es) = HandSecond a ∷ flips es
flips (HandSecond a ∷ es) = HandFirst a ∷ flips es

flipped : (es : List HandEvent) (w : Handshake) → shake (flips es) w ≡ hand_mirror (shake es (hand_mirror w))
unfolding flips
flipped [] w = refl
flipped (HandFirst a ∷ es) w = flipped es (hand_mirror (happens (hand_mirror w) a))
flipped (HandSecond a ∷ es) w = flipped es (happens w a)

mirrored : (p : Pair) (w : Handshake) → Both p w → Both (mirror p) (hand_mirror w)
mirrored p w h = record {
  follows = record { first = h.follows.second; second = h.follows.first; there = h.follows.back; back = h.follows.there };
  one = h.two;
  two = h.one;
}

next_leads : (p : Pair) (w : Handshake) (e : Event) → IsTimelyEvent p e → Both p w → Leads w (next p e)
next_leads p w (First a) timely h = acts_lead p w a timely h
next_leads p w (Second a) timely h =
    let k = acts_lead (mirror p) (hand_mirror w) a timely (mirrored p w h) in
    (hand_mirror k.0, (flips k.1.0, flipped k.1.0 w ∙ ap (λ x. hand_mirror x) k.1.1), mirrored (acts (mirror p) a) k.0 k.2)

all_lead : (es : List Event) (p : Pair) (w : Handshake) → IsTimely es p → Both p w → Leads w (run es p)
all_lead [] p w timely h = (w, ([], refl), h)
all_lead (e ∷ es) p w timely h =
    let k = next_leads p w e timely.0 h in
    let m = all_lead es (next p e) k.0 timely.1 k.2 in
    (m.0, reaches_both w k.0 m.0 k.1 m.1, m.2)

follows_always : (es : List Event) (first second : ℕ) → IsTimely es (at_start first second) → FollowsSome (run es (at_start first second))
follows_always es first second timely =
    let k = all_lead es (at_start first second) start timely (record {
      follows = record { first = refl; second = refl; there = tt; back = tt };
      one = initial_link first;
      two = initial_link second;
    }) in
    let f : Follows (run es (at_start first second)) k.0 = k.2.follows in
    (k.1.0, subst (λ x. Follows (run es (at_start first second)) x) (sym k.1.1) f)

pub follows_start : (es : List Event) (p : Pair) → IsStart p → IsTimely es p → FollowsSome (run es p)
follows_start es p at timely = subst (λ q. FollowsSome (run es q)) (sym at.2) (follows_always es at.0 at.1 (subst (λ q. IsTimely es q) at.2 timely))
