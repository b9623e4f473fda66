-- The parts of a step of the first link, as the code's definitions have them.
use Rattle.std.proofs.Common.{◌≡◌, ◌⊎◌, ℕ, ◌+◌, ◌%◌, ◌≤◌, Bool, true, false, List, [], ◌∷◌, ◌++◌, length, refl, sym, ap, ◌∙◌, subst, inl, inr, arith, append-nil, Option, ◌&&◌, ◌||◌}
use Rattle.std.specs.Prelude.{◌==◌, All, not}
use Rattle.std.proofs.lemmas.Bool.{and_left, and_right, or_parts}
use Rattle.std.proofs.lemmas.List.Elements.{All-nil, All-push, All-drop}
use Rattle.link_frames.specs.declared.frame.Sender.TheVariants.{Network}
use Rattle.link_frames.specs.declared.frame.Supervisory.{Supervisory}
use Rattle.link_frames.specs.declared.frame.Control.TheVariants as control
use Rattle.link_frames.specs.declared.frame.Frame.{Frame}
use Rattle.link_frames.specs.Reading.{IsNumbered}
use Rattle.link_frames.specs.Writing.{encoding}
use Rattle.link_procedures.specs.declared.state.State.TheVariants as state
use Rattle.link_procedures.specs.Links.{DataLink, Step, step, is_valid, is_multiple_frame, is_established, is_recovering, is_awaiting, is_up, emptied, renumbered}
use Rattle.link_procedures.specs.Sending.{command, acknowledging, is_free, flushes, acknowledges_pending, finished}
use Rattle.link_procedures.specs.Establishment.{Outcome, established, lost, begun, begun_indication, queued}
use Rattle.link_procedures.specs.Receiving.{busy_by, answers_enquiry, on_valid, on_supervisory, by_number, by_acknowledgement, taken, on_information, on_control, received}
use Rattle.link_procedures.specs.AnyPeer.{IsShort, Keeps, acknowledged_by, IsLossTold}
use Rattle.link_procedures.proofs.AnyPeerLemmas.{received_processed, finished_flushed}
use Rattle.link_laws.specs.Window.{Direction, Submit as WindowSubmit, happens}
use Rattle.link_laws.specs.Handshake.{Signal, Sabme, Side, Off, Calling, On, Lose as HandLose, Second as HandSecond}
use Rattle.link_laws.specs.TwoLinks.{Pair, stepped, as_step, message_of}
use Rattle.link_laws.specs.Numberings.{IsSide}
use Rattle.link_laws.specs.Epochs.{after_indication, with_message}
use Rattle.link_laws.proofs.WindowLemmas.{Holds, Holds-happens}
use Rattle.link_laws.proofs.HandshakeLemmas.{Holds as HandHolds, mode_of, E_of, S_of, told, mine, end_of, next_keeps}
use Rattle.link_laws.proofs.NumberingsLemmas.{enquiry_state, numbered_runs, applied_runs, number_state, begun_runs}
use Rattle.link_laws.proofs.TwoLinksLemmas.{by_test, clash, Item, Info, Sup, frame, counts, acks, Genuine, Sim, finished_plain, finished_shut, finished_state, next_shut, drop_longer, running_is_up, valid_always, enquiry_queue, by_queue, information_sim, supervisory_sim, Full, ready, ready_same, full_from}
use Rattle.link_laws.proofs.WireLemmas.{Token, Calls, Data, signals, octets, infos, acks_of, tagged, signals_append, octets_tagged, count_same, ack_same, ack_other, AllGood, good_longer, ahead}
use Rattle.link_laws.proofs.TaleLemmas.{Sending, Current, Tale, told_of, current_submits, told_begins, told_goes_on}
use Rattle.link_laws.proofs.LaneLemmas.{Receives, Lanes, hands, Joint, Goes, receives_same, near_of, no_answers, hand_tagged, octets_then, runs_abreast, local_abreast, plain_goes, Rests}
use Rattle.link_laws.proofs.StageLemmas.{quiet_lanes, begins_lanes}

-- ---- links

pub up_same : (l m : DataLink) → m.state ≡ l.state → m.asked ≡ l.asked → is_up m ≡ is_up l
unfolding is_up
up_same l m a b = rw (a, b) refl

pub off_down : (l : DataLink) → l.state ≡ state.TeiAssigned → is_up l ≡ false
unfolding is_up is_multiple_frame is_established is_recovering is_awaiting
off_down l e = rw e refl

pub asked_down : (l : DataLink) → l.state ≡ state.AwaitingEstablishment → l.asked ≡ true → is_up l ≡ false
unfolding is_up is_multiple_frame is_established is_recovering is_awaiting
asked_down l e f = rw (e, f) refl

pub off_stops : (l : DataLink) → l.state ≡ state.TeiAssigned → is_multiple_frame l.state ≡ false
unfolding is_multiple_frame is_established is_recovering
off_stops l e = rw e refl

pub calling_stops : (l : DataLink) → l.state ≡ state.AwaitingEstablishment → is_multiple_frame l.state ≡ false
unfolding is_multiple_frame is_established is_recovering
calling_stops l e = rw e refl

stopped_free : (l : DataLink) → is_multiple_frame l.state ≡ false → is_free l ≡ false
unfolding is_free is_multiple_frame
stopped_free l e = cases (is_established l.state) refl
  where
    cases : (b : Bool) → is_established l.state ≡ b → is_free l ≡ false
    cases true d = clash true refl (sym (ap (λ b. b || is_recovering l.state) d) ∙ e)
    cases false d = and_left (is_established l.state && not l.busy) _ (and_left (is_established l.state) (not l.busy) d)

pub stopped_ready : (l : DataLink) → is_multiple_frame l.state ≡ false → ready l ≡ false
unfolding is_multiple_frame
stopped_ready l e = and_left (is_established l.state) (not l.busy) (or_parts (is_established l.state) (is_recovering l.state) e).0

pub flushes_still : (now : ℕ) (s : Step) → is_multiple_frame s.link.state ≡ false → flushes now s ≡ s
unfolding flushes
flushes_still now s e = next_shut 7 now s (stopped_free s.link e)

pending_still : (s : Step) → is_multiple_frame s.link.state ≡ false → acknowledges_pending s ≡ step (acknowledging s.link) s.out
unfolding acknowledges_pending
pending_still s e = by_test (λ (t : Step). t ≡ step (acknowledging s.link) s.out) (s.link.pending && is_multiple_frame s.link.state) _ _ (λ d. clash (s.link.pending && is_multiple_frame s.link.state) d (and_right s.link.pending _ e)) (λ d. refl)

pub finished_still : (now : ℕ) (s : Step) → is_multiple_frame s.link.state ≡ false → finished now s ≡ step (acknowledging s.link) s.out
unfolding finished
finished_still now s e = ap acknowledges_pending (flushes_still now s e) ∙ pending_still s e

-- ---- the handshake

pub hand_append : (a b : Side) (ts us : List Token) (ys : List Signal) → HandHolds (record { first = a; second = b; there = signals ts ++ signals us; back = ys }) → HandHolds (record { first = a; second = b; there = signals (ts ++ us); back = ys })
hand_append a b ts us ys h = subst (λ x. HandHolds (record { first = a; second = b; there = x; back = ys })) (sym (signals_append ts us)) h

pub hand_none : (a b : Side) (ts bs : List Token) → HandHolds (hands a b ts bs) → HandHolds (hands a b (ts ++ []) bs)
hand_none a b ts bs h = subst (λ x. HandHolds (hands a b x bs)) (sym (append-nil ts)) h

-- ---- the numbering stays

pub quiet_goes : (p : Pair) (s t : Step) (rest sub ret : List (List ℕ)) (es es' fs : List (List (List ℕ))) (a a' b : Side) (ts us bs : List Token) (d e : Direction) → mine a' ≡ mine a → Receives t.link a' (mine b) e → infos (mine a) us ≡ [] → ((n : ℕ) → acks_of n us ≡ []) → AllGood (mine a) (mine b) d us → (is_up t.link ≡ true → Sending t.link d) → Tale t.link d es' p.arrived
    → HandHolds (hands a' b (ts ++ us) bs) → IsSide t.link a' → t.out ≡ s.out ++ octets us → IsSide p.second b → p.there ++ s.out ≡ octets ts → rest ≡ octets bs → Lanes s.link p.second a b ts bs d e es fs p.arrived ret → Joint (stepped p t rest sub ret) es' fs a' b (ts ++ us) bs d e
quiet_goes p s t rest sub ret es es' fs a a' b ts us bs d e same deaf none quiet good sending tale hand side out second there back h = record {
  hand = hand;
  first = side;
  second = second;
  there = octets_then p.there s.out t.out ts us there out;
  back = back;
  lanes = quiet_lanes s.link t.link p.second a a' b ts us bs d e es es' fs p.arrived ret same deaf none quiet good sending tale h;
}

pub sending_alike : (l m : DataLink) (d : Direction) → ready l ≡ false → m.queue ≡ l.queue → Sending l d → Sending m d
sending_alike l m d off e h = record { number = ap (λ q. q.acknowledged) e ∙ h.number; sent = ap (λ q. q.sent) e ∙ h.sent; waiting = ap (λ q. q.waiting) e ∙ h.waiting; sure = λ x. h.sure off }

-- the same link with another timer, or another flag
pub alike_goes : (p : Pair) (s : Step) (l : DataLink) (rest sub sub' ret : List (List ℕ)) (es fs : List (List (List ℕ))) (a b : Side) (ts bs : List Token) (d e : Direction) → is_multiple_frame s.link.state ≡ false → l.state ≡ s.link.state → l.asked ≡ s.link.asked → l.queue ≡ s.link.queue → l.owed ≡ s.link.owed → Joint (stepped p s rest sub ret) es fs a b ts bs d e → Joint (stepped p (step l s.out) rest sub' ret) es fs a b (ts ++ []) bs d e
alike_goes p s l rest sub sub' ret es fs a b ts bs d e stopped same asked queue owed h =
    let up = up_same s.link l same asked in
    quiet_goes p s (step l s.out) rest sub' ret es es fs a a b ts [] bs d e refl (deaf a h.first) refl (λ n. refl) tt (λ x. sending_alike s.link l d (stopped_ready s.link stopped) queue (h.lanes.one.sending (sym up ∙ x)))
    (record { told = h.lanes.first.told; current = λ x. h.lanes.first.current (sym up ∙ x); owed = λ x. owed ∙ h.lanes.first.owed (sym up ∙ x) })
    (hand_none a b ts bs h.hand) (side a h.first) (sym (append-nil s.out)) h.second h.there h.back h.lanes
  where
    deaf : (c : Side) → IsSide s.link c → Receives l c (mine b) e
    deaf (Off g) k = tt
    deaf (Calling g) k = tt
    deaf (On g q) k = clash (is_multiple_frame s.link.state) k stopped

    side : (c : Side) → IsSide s.link c → IsSide l c
    side (Off g) k = same ∙ k
    side (Calling g) k = same ∙ k
    side (On g q) k = clash (is_multiple_frame s.link.state) k stopped

-- the end of a step
pub finish_goes : (p : Pair) (now : ℕ) (s : Step) (rest sub ret : List (List ℕ)) (es fs : List (List (List ℕ))) (a b : Side) (ts bs : List Token) (d e : Direction) → Joint (stepped p s rest sub ret) es fs a b ts bs d e → Goes (stepped p (finished now s) rest sub ret) es fs
finish_goes p now s rest sub ret es fs (On g q) b ts bs d e h =
    plain_goes p s (finished now s) rest sub ret es fs g q b ts bs d e h (λ v l. finished_plain now s d v l) (ap (λ st. is_multiple_frame st) (finished_state now s) ∙ h.first)
    ((finished_flushed now s).keeps.1 ∙ h.lanes.first.owed (running_is_up s.link h.first))
finish_goes p now s rest sub ret es fs (Off g) b ts bs d e h = subst (λ t. Goes (stepped p t rest sub ret) es fs) (sym (finished_still now s (off_stops s.link h.first)))
    (Off g, b, ts ++ [], bs, d, e, alike_goes p s (acknowledging s.link) rest sub sub ret es fs (Off g) b ts bs d e (off_stops s.link h.first) refl refl refl refl h)
finish_goes p now s rest sub ret es fs (Calling g) b ts bs d e h = subst (λ t. Goes (stepped p t rest sub ret) es fs) (sym (finished_still now s (calling_stops s.link h.first)))
    (Calling g, b, ts ++ [], bs, d, e, alike_goes p s (acknowledging s.link) rest sub sub ret es fs (Calling g) b ts bs d e (calling_stops s.link h.first) refl refl refl refl h)

-- at its end V(S) has reached all that was sent
pub finish_rests : (p : Pair) (now : ℕ) (s : Step) (rest sub ret : List (List ℕ)) (es fs : List (List (List ℕ))) → Goes (stepped p s rest sub ret) es fs → Rests (stepped p (finished now s) rest sub ret) es fs
finish_rests p now s rest sub ret es fs (a, b, ts, bs, d, e, h) = at_end (finish_goes p now s rest sub ret es fs a b ts bs d e h)
  where
    at_end : Goes (stepped p (finished now s) rest sub ret) es fs → Rests (stepped p (finished now s) rest sub ret) es fs
    at_end (a', b', ts', bs', d', e', k) = (
      a',
      b',
      ts',
      bs',
      d',
      e',
      k,
      λ up. let i = k.lanes.one.sending up in full_from (finished now s).link d' (finished_shut now s) i.sent i.waiting i.sure k.lanes.one.holds,
    )

-- SABME is sent
pub call_goes : (p : Pair) (s t : Step) (rest sub ret : List (List ℕ)) (es es' fs : List (List (List ℕ))) (a b : Side) (ts bs : List Token) (d e : Direction) → (is_up t.link ≡ true → Sending t.link d) → Tale t.link d es' p.arrived → HandHolds (record { first = Calling (mine a); second = b; there = signals ts ++ Sabme (mine a + 1) ∷ []; back = signals bs })
    → t.link.state ≡ state.AwaitingEstablishment → t.out ≡ s.out ++ encoding Network (command (control.Sabme true)) ∷ [] → Joint (stepped p s rest sub ret) es fs a b ts bs d e → Joint (stepped p t rest sub ret) es' fs (Calling (mine a)) b (ts ++ Calls (mine a + 1) ∷ []) bs d e
call_goes p s t rest sub ret es es' fs a b ts bs d e sending tale hand same out h =
    quiet_goes p s t rest sub ret es es' fs a (Calling (mine a)) b ts (Calls (mine a + 1) ∷ []) bs d e refl tt refl (λ n. refl) (tt, tt) sending tale (hand_append (Calling (mine a)) b ts (Calls (mine a + 1) ∷ []) (signals bs) hand) same out h.second h.there h.back h.lanes

-- ---- a numbering begins

receives_begun : (m : DataLink) (b : Side) (k : Option ℕ) (g u : ℕ) (d : Direction) (messages : List (List ℕ)) (replies : List ℕ) → E_of (On (g + 1) u) k (mode_of b) → Receives m b g d → Receives m b (g + 1) (ahead messages replies)
receives_begun m (Off q) k g u d messages replies e h = tt
receives_begun m (Calling q) k g u d messages replies e h = tt
receives_begun m (On q t) k g u d messages replies e h = let same = e.0 in (λ x. h.1 x, λ x. absurd (omega (arith, x, same)))

record IsBegun (l l' : DataLink) (waiting : List (List ℕ)) : Type 0 where
  pub received : l'.received ≡ 0
  pub sent : l'.queue.sent ≡ 0
  pub acknowledged : l'.queue.acknowledged ≡ 0
  pub waits : l'.queue.waiting ≡ waiting

begun_anew : (now : ℕ) (l : DataLink) → IsBegun l (begun true now l) [] × ((begun true now l).owed ≡ false)
unfolding begun established renumbered lost emptied
begun_anew now l = (record { received = refl; sent = refl; acknowledged = refl; waits = refl }, refl)

begun_silently : (now : ℕ) (l : DataLink) → IsBegun l (begun false now l) l.queue.waiting × ((begun false now l).owed ≡ l.owed)
unfolding begun established renumbered
begun_silently now l = (record { received = refl; sent = refl; acknowledged = refl; waits = refl }, refl)

pub begins_goes : (p : Pair) (b' : Bool) (now : ℕ) (s : Step) (out rest sub ret : List (List ℕ)) (es fs : List (List (List ℕ))) (a b : Side) (u : ℕ) (ts us bs : List Token) (d e : Direction) → (u ≡ mine b → e.delivered ≡ []) → infos (mine a + 1) us ≡ [] → ((n : ℕ) → acks_of n us ≡ []) → ((w : Direction) → w.delivered ≡ [] → AllGood (mine a + 1) (mine b) w us)
    → (b' ≡ false → (is_up s.link ≡ true) × (s.link.queue.sent ≡ 0) × Full d) → HandHolds (hands (On (mine a + 1) u) b (ts ++ us) bs) → out ≡ s.out ++ octets us → IsSide p.second b → p.there ++ s.out ≡ octets ts → rest ≡ octets bs → Lanes s.link p.second a b ts bs d e es fs p.arrived ret
    → (d' : Direction) × Joint (stepped p (step (begun b' now s.link) out) rest sub ret) (after_indication (begun_indication b') es) fs (On (mine a + 1) u) b (ts ++ us) bs d' e
begins_goes p b' now s out rest sub ret es fs a b u ts us bs d e clean none quiet good why hand outs second there back h = cases b' why
  where
    joined : (es' : List (List (List ℕ))) (l' : DataLink) (waiting : List (List ℕ)) → is_multiple_frame l'.state ≡ true → IsBegun s.link l' waiting → l'.owed ≡ false → All IsShort waiting → Current (ahead waiting (acks_of (mine a + 1) bs)) es' p.arrived → (d' : Direction) × Joint (stepped p (step l' out) rest sub ret) es' fs (On (mine a + 1) u) b (ts ++ us) bs d' e
    joined es' l' waiting running k owed short current = (
      ahead l'.queue.waiting (acks_of (mine a + 1) bs),
      record {
        hand = hand;
        first = running;
        second = second;
        there = octets_then p.there s.out out ts us there outs;
        back = back;
        lanes = begins_lanes s.link l' p.second a b u ts us bs d e es es' fs p.arrived ret
            (receives_begun p.second b (told (signals bs)) (mine a) u d l'.queue.waiting (acks_of (mine a + 1) bs) (end_of (E_of (On (mine a + 1) u) (told (signals bs))) (S_of (On (mine a + 1) u)) (signals (ts ++ us)) (mode_of b) hand.one.fits) h.one.receives) clean none quiet
            (good (ahead l'.queue.waiting (acks_of (mine a + 1) bs)) refl) k.received k.sent k.acknowledged owed (subst (All IsShort) (sym k.waits) short)
            (subst (λ ms. Current (ahead ms (acks_of (mine a + 1) bs)) es' p.arrived) (sym k.waits) current) h;
      },
    )

    cases : (c : Bool) → (c ≡ false → (is_up s.link ≡ true) × (s.link.queue.sent ≡ 0) × Full d) → (d' : Direction) × Joint (stepped p (step (begun c now s.link) out) rest sub ret) (after_indication (begun_indication c) es) fs (On (mine a + 1) u) b (ts ++ us) bs d' e
    cases true f = let k = begun_anew now s.link in joined ([] ∷ es) (begun true now s.link) [] (begun_runs true now s.link) k.0 k.1 (All-nil IsShort) (told_begins d (acks_of (mine a + 1) bs) es p.arrived h.one.holds h.first.told)
    cases false f =
        let k = begun_silently now s.link in
        let w = f refl in
        let i = h.one.sending w.0 in
        joined es (begun false now s.link) s.link.queue.waiting (begun_runs false now s.link) k.0 (k.1 ∙ h.first.owed w.0) (subst (All IsShort) (sym i.waiting) (All-drop IsShort d.acknowledged d.submitted h.one.short))
        (told_goes_on s.link d (acks_of (mine a + 1) bs) es p.arrived h.one.holds i w.2 w.1 (h.first.current w.0))

-- ---- a message of layer 3 waits

receives_alike : (l m : DataLink) (a : Side) (g : ℕ) (d : Direction) → m.received ≡ l.received → Receives l a g d → Receives m a g d
receives_alike l m (Off q) g d e h = tt
receives_alike l m (Calling q) g d e h = tt
receives_alike l m (On q t) g d e h = (λ x. e ∙ h.0 x, λ x. e ∙ h.1 x)

queued_sending : (l m : DataLink) (d : Direction) (x : List ℕ) → m.queue ≡ queued x l.queue → ready m ≡ ready l → Holds d → Sending l d → Sending m (happens d (WindowSubmit x))
unfolding queued
queued_sending l m d x queue same k h =
    let a = k.delivered_acknowledged in let b = k.delivered_reached in let c = k.reached_submitted in record {
      number = ap (λ q. q.acknowledged) queue ∙ h.number;
      sent = ap (λ q. q.sent) queue ∙ h.sent;
      waiting = ap (λ q. q.waiting) queue ∙ ap (λ ms. ms ++ x ∷ []) h.waiting ∙ sym (drop_longer d.acknowledged d.submitted (x ∷ []) (omega (arith, a, b, c)));
      sure = λ e. h.sure (sym same ∙ e);
    }

same_side : (l m : DataLink) (a : Side) → m.state ≡ l.state → IsSide l a → IsSide m a
same_side l m (Off g) e h = e ∙ h
same_side l m (Calling g) e h = e ∙ h
same_side l m (On g t) e h = ap (λ st. is_multiple_frame st) e ∙ h

pub queued_goes : (p : Pair) (s : Step) (l : DataLink) (m : List ℕ) (rest sub sub' ret : List (List ℕ)) (es fs : List (List (List ℕ))) (a b : Side) (ts bs : List Token) (d e : Direction) → length m ≤ 112 → is_up s.link ≡ true → l.state ≡ s.link.state → l.asked ≡ s.link.asked → l.received ≡ s.link.received → l.owed ≡ s.link.owed → l.busy ≡ s.link.busy → l.queue ≡ queued m s.link.queue → Joint (stepped p s rest sub ret) es fs a b ts bs d e → Joint (stepped p (step l s.out) rest sub' ret) (with_message m es) fs a b ts bs (happens d (WindowSubmit m)) e
queued_goes p s l m rest sub sub' ret es fs a b ts bs d e short up same asked next owed busy queue h =
    let k = h.lanes.one in
    let current = current_submits d m es p.arrived (h.lanes.first.current up) in record {
      hand = h.hand;
      first = same_side s.link l a same h.first;
      second = h.second;
      there = h.there;
      back = h.back;
      lanes = record {
        one = record {
          holds = Holds-happens d (WindowSubmit m) k.holds;
          next = k.next;
          underway = k.underway;
          replies = k.replies;
          good = good_longer (mine a) (mine b) d m ts k.good;
          short = All-push IsShort d.submitted m k.short short;
          sending = λ x. queued_sending s.link l d m queue (ready_same s.link l same busy) k.holds (k.sending up);
          receives = receives_same p.second b (mine a) d (happens d (WindowSubmit m)) refl k.receives;
        };
        two = record {
          holds = h.lanes.two.holds;
          next = h.lanes.two.next;
          underway = h.lanes.two.underway;
          replies = h.lanes.two.replies;
          good = h.lanes.two.good;
          short = h.lanes.two.short;
          sending = h.lanes.two.sending;
          receives = receives_alike s.link l a (mine b) e next h.lanes.two.receives;
        };
        first = record { told = told_of _ _ _ current; current = λ x. current; owed = λ x. owed ∙ h.lanes.first.owed up };
        second = h.lanes.second;
        rests = h.lanes.rests;
      };
    }

-- ---- an I or S frame arrives at a link in multiple frame operation

acknowledgement_runs : (nr now : ℕ) (s : Step) → is_valid s.link.queue nr ≡ true → is_multiple_frame s.link.state ≡ true → is_multiple_frame (by_acknowledgement nr now s).link.state ≡ true
unfolding by_acknowledgement
acknowledgement_runs nr now s valid running = by_test (λ (t : Step). is_multiple_frame t.link.state ≡ true) (is_valid s.link.queue nr) _ _ (λ e. numbered_runs nr now s.link running) (λ e. clash (is_valid s.link.queue nr) valid e)

number_queue : (ns : ℕ) (s : Step) → (by_number false ns s).link.queue ≡ s.link.queue
unfolding by_number
number_queue ns s = by_queue (ns == s.link.received) s

information_runs : (ns nr now : ℕ) (s : Step) → is_valid s.link.queue nr ≡ true → is_multiple_frame s.link.state ≡ true → is_multiple_frame (on_information false ns nr now s).link.state ≡ true
unfolding on_information
information_runs ns nr now s valid running = by_test (λ (o : Outcome). is_multiple_frame o.link.state ≡ true) (is_multiple_frame s.link.state) _ _
    (λ e. acknowledgement_runs nr now (by_number false ns s) (ap (λ q. is_valid q nr) (number_queue ns s) ∙ valid) (ap (λ st. is_multiple_frame st) (number_state false ns s) ∙ running))
    (λ e. clash (is_multiple_frame s.link.state) running e)

valid_runs : (cmd : Bool) (kind : Supervisory) (pf : Bool) (nr now : ℕ) (s : Step) → is_valid s.link.queue nr ≡ true → is_multiple_frame s.link.state ≡ true → is_multiple_frame (on_valid cmd kind pf nr now s).link.state ≡ true
unfolding on_valid
valid_runs cmd kind pf nr now s valid running = by_test (λ (t : Step). is_multiple_frame t.link.state ≡ true) (is_valid s.link.queue nr) _ _ (λ e. applied_runs cmd kind pf nr now s.link running) (λ e. clash (is_valid s.link.queue nr) valid e)

supervisory_runs : (cmd : Bool) (kind : Supervisory) (pf : Bool) (nr now : ℕ) (s : Step) → is_valid s.link.queue nr ≡ true → is_multiple_frame s.link.state ≡ true → is_multiple_frame (on_supervisory cmd kind pf nr now s).link.state ≡ true
unfolding on_supervisory
supervisory_runs cmd kind pf nr now s valid running = by_test (λ (t : Step). is_multiple_frame t.link.state ≡ true) (is_multiple_frame s.link.state) _ _
    (λ e. let b : Step = step (busy_by kind s.link) s.out in
    valid_runs cmd kind pf nr now (answers_enquiry (cmd && pf) b) (ap (λ q. is_valid q nr) (enquiry_queue (cmd && pf) b) ∙ valid) (ap (λ st. is_multiple_frame st) (enquiry_state (cmd && pf) b) ∙ running))
    (λ e. clash (is_multiple_frame s.link.state) running e)

owed_kept : (f : Frame) (now : ℕ) (s : Step) → IsNumbered f.control → s.link.owed ≡ false → (received f now s).link.owed ≡ false
owed_kept f now s numbers none = cases (received_processed f now s numbers).losses
  where
    cases : Keeps (acknowledged_by f.control s.link) s.link (received f now s).link ⊎ IsLossTold (received f now s) → (received f now s).link.owed ≡ false
    cases (inl k) = k.1 ∙ none
    cases (inr k) = k.1

taken_epochs : (b : Bool) (es : List (List (List ℕ))) → after_indication (taken b) es ≡ es
taken_epochs true es = refl
taken_epochs false es = refl

information_epochs : (ns nr now : ℕ) (s : Step) (es : List (List (List ℕ))) → after_indication (on_information false ns nr now s).indication es ≡ es
unfolding on_information
information_epochs ns nr now s es = by_test (λ (o : Outcome). after_indication o.indication es ≡ es) (is_multiple_frame s.link.state) _ _ (λ e. taken_epochs (ns == s.link.received) es) (λ e. refl)

-- a frame of the numberings of both sides
heard_goes : (p : Pair) (s t : Step) (rest rest' sub ret ms : List (List ℕ)) (es fs : List (List (List ℕ))) (g q : ℕ) (b : Side) (n k : ℕ) (i : Item) (ts bs : List Token) (d e : Direction) (u r : List ℕ) (dd : List (List ℕ)) → rest' ≡ octets bs → q ≡ mine b → k ≡ g → Joint (stepped p s rest sub ret) es fs (On g q) b ts (Data n k i ∷ bs) d e
    → Sim s t d e u r dd → is_multiple_frame t.link.state ≡ true → t.link.owed ≡ false → u ≡ infos (mine b) bs → r ≡ acks_of g bs → dd ≡ e.delivered ++ ms → Goes (stepped p t rest' sub (ret ++ ms)) es fs
heard_goes p s t rest rest' sub ret ms es fs g q b n k i ts bs d e u r dd back near same h x running owed a1 a2 more =
    let hand : HandHolds (hands (On g q) b ts bs) = next_keeps (hands (On g q) b ts (Data n k i ∷ bs)) (HandSecond HandLose) h.hand in (
      On g q,
      b,
      ts ++ tagged g q x.items,
      bs,
      x.mine,
      x.theirs,
      record {
        hand = hand_tagged g q b x.items ts bs hand;
        first = running;
        second = h.second;
        there = octets_then p.there s.out t.out ts (tagged g q x.items) h.there (x.out ∙ ap (λ o. s.out ++ o) (sym (octets_tagged g q x.items)));
        back = back;
        lanes = runs_abreast s t p.second g q b ts (Data n k i ∷ bs) bs d e es fs p.arrived ret (ret ++ ms) ms u r dd near x h.first owed a1 a2
            (sym (ap (λ y. y ++ acks_of (g + 1) bs) (ack_other n k (g + 1) i (λ c. omega (arith, c, same))))) h.lanes.two.good.1 (no_answers g q b ts bs hand) refl more h.lanes;
      },
    )

comes_goes : (p : Pair) (now : ℕ) (s : Step) (rest rest' sub ret : List (List ℕ)) (es fs : List (List (List ℕ))) (g q : ℕ) (b : Side) (n k : ℕ) (i j : Item) (ts bs : List Token) (d e : Direction) → rest' ≡ octets bs → q ≡ mine b → k ≡ g → Full d → Joint (stepped p s rest sub ret) es fs (On g q) b ts (Data n k i ∷ bs) d e
    → Genuine e.submitted (j ∷ []) → d.replies ≡ acks (j ∷ []) ++ acks_of g bs → e.underway ≡ counts (j ∷ []) ++ infos (mine b) bs
    → Goes (stepped p (as_step (received (frame j) now s)) rest' sub (ret ++ message_of (frame j) (received (frame j) now s).indication)) (after_indication (received (frame j) now s).indication es) fs
unfolding on_control
comes_goes p now s rest rest' sub ret es fs g q b n k i (Info c a m) ts bs d e back near same full h genuine told came =
    let f : Frame = frame (Info c a m) in
    let t : Step = as_step (received f now s) in
    let up = running_is_up s.link h.first in
    let l = local_abreast s.link p.second g q b ts (Data n k i ∷ bs) d e es fs p.arrived ret h.first near h.lanes in
    let x = information_sim now s d e c a (infos (mine b) bs) (acks_of g bs) m h.first came told genuine.1 full l in
    subst (λ xs. Goes (stepped p t rest' sub (ret ++ message_of f (received f now s).indication)) xs fs) (sym (information_epochs (c % 128) (a % 128) now s es))
    (heard_goes p s t rest rest' sub ret (message_of f (received f now s).indication) es fs g q b n k i ts bs d e _ _ _ back near same h x
    (information_runs (c % 128) (a % 128) now s (valid_always s.link d e a (acks_of g bs) told full l) h.first)
    (owed_kept f now s (omega arith) (h.lanes.first.owed up)) refl refl refl)
comes_goes p now s rest rest' sub ret es fs g q b n k i (Sup cmd kind pf a) ts bs d e back near same full h genuine told came =
    let f : Frame = frame (Sup cmd kind pf a) in
    let t : Step = as_step (received f now s) in
    let up = running_is_up s.link h.first in
    let l = local_abreast s.link p.second g q b ts (Data n k i ∷ bs) d e es fs p.arrived ret h.first near h.lanes in
    let x = supervisory_sim cmd kind pf now s d e a (acks_of g bs) genuine.0 h.first told full l in
    heard_goes p s t rest rest' sub ret [] es fs g q b n k i ts bs d e _ _ _ back near same h x
    (supervisory_runs cmd kind pf (a % 128) now s (valid_always s.link d e a (acks_of g bs) told full l) h.first)
    (owed_kept f now s (omega arith) (h.lanes.first.owed up)) came refl (sym (append-nil e.delivered))

pub data_goes : (p : Pair) (now : ℕ) (s : Step) (rest rest' sub ret : List (List ℕ)) (es fs : List (List (List ℕ))) (g q : ℕ) (b : Side) (n k : ℕ) (i : Item) (ts bs : List Token) (d e : Direction) → rest' ≡ octets bs → Full d → Joint (stepped p s rest sub ret) es fs (On g q) b ts (Data n k i ∷ bs) d e
    → Goes (stepped p (as_step (received (frame i) now s)) rest' sub (ret ++ message_of (frame i) (received (frame i) now s).indication)) (after_indication (received (frame i) now s).indication es) fs
data_goes p now s rest rest' sub ret es fs g q b n k i ts bs d e back full h = on (near_of g q b ts (Data n k i ∷ bs) h.hand) h.hand.other.fits.0
  where
    on : (q ≡ mine b) ⊎ (q ≡ mine b + 1) → (n ≡ q) × (k ≡ g) → Goes (stepped p (as_step (received (frame i) now s)) rest' sub (ret ++ message_of (frame i) (received (frame i) now s).indication)) (after_indication (received (frame i) now s).indication es) fs
    on (inr far) agrees = let low = h.lanes.two.good.0.2 in let same = agrees.0 in absurd (omega (arith, low, same, far))
    on (inl near) agrees = comes_goes p now s rest rest' sub ret es fs g q b n k i i ts bs d e back near agrees.1 full h (h.lanes.two.good.0.1 (agrees.0 ∙ near))
        (h.lanes.one.replies ∙ ap (λ y. y ++ acks_of g bs) (ack_same n k g i agrees.1)) (h.lanes.two.underway ∙ ap (λ y. y ++ infos (mine b) bs) (count_same n (mine b) k i (agrees.0 ∙ near)))
