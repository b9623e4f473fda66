-- Each step of one of two links preserves what its epochs and its windows say of the messages delivered.
use Rattle.std.proofs.Common.{◌≡◌, ℕ, suc, ◌+◌, ◌≤◌, Bool, true, false, List, [], ◌∷◌, ◌++◌, length, refl, sym, ap, ◌∙◌, subst, inl, inr, arith, append-nil, Option, if◌then◌else◌}
use Rattle.std.specs.Prelude.{◌==◌, not, nat_le}
use Rattle.std.proofs.lemmas.Bool.{eq-eqb, leb-true, or_parts}
use Rattle.std.proofs.lemmas.List.Elements.{All-nil}
use Rattle.link_frames.specs.declared.frame.Sender.TheVariants.{Network}
use Rattle.link_frames.specs.declared.frame.Control.TheVariants as control
use Rattle.link_frames.specs.declared.frame.Frame.{Frame}
use Rattle.link_frames.specs.Writing.{encoding}
use Rattle.link_frames.proofs.Readings.{reading_of_encoding}
use Rattle.link_procedures.specs.declared.state.State.{State}
use Rattle.link_procedures.specs.declared.state.State.TheVariants as state
use Rattle.link_procedures.specs.declared.state.LinkTimers.{LinkTimers}
use Rattle.link_procedures.specs.Links.{DataLink, Step, step, initial, is_multiple_frame, is_established, is_recovering, is_awaiting, is_up}
use Rattle.link_procedures.specs.Sending.{command, response, enquires, flushes}
use Rattle.link_procedures.specs.Establishment.{Outcome, quietly, establishes, lost, begun, begun_indication, begins, is_uncertain, released, releases_first, overflowed, overflows, queued, submitted}
use Rattle.link_procedures.specs.Receiving.{answers, on_sabme, on_ua, on_solicited, is_new, on_supervisory, on_information, on_control, received}
use Rattle.link_procedures.specs.Timing.{is_due, calling_again, calls_or_releases, enquires_at, first_retries, on_expiry, settled, turned}
use Rattle.link_procedures.specs.AnyPeer.{IsShort}
use Rattle.link_procedures.proofs.AnyPeerLemmas.{flushes_flushed}
use Rattle.link_laws.specs.Window.{Direction}
use Rattle.link_laws.specs.Handshake.{Ua, Side, Off, Calling, On, Call, Expire, GiveUp, Arrive as HandArrive, Second as HandSecond, sabmes, uas, is_over, gives_up, calls_again as hand_calls_again}
use Rattle.link_laws.specs.TwoLinks.{Pair, mirror, stepped, as_step, message_of, loses}
use Rattle.link_laws.specs.Numberings.{begun as at_start, IsStart, is_sabme, is_ua, is_in, Without, IsSide}
use Rattle.link_laws.specs.Epochs.{Cause, Arrival, Turn, Request, Act, Steps, Lose, Event, First, Second, oldest, younger, outcome_of, outcome, remaining, message_in, delivery, submits, acts, after_indication, with_message, with_messages, epochs_after, Story, begin, next, run, IsTimelyAct, IsTimely, Always, IsInOrderOrTold, HasArrivedBothWays}
use Rattle.link_laws.proofs.HandshakeLemmas.{Holds as HandHolds, mine, happens_keeps, next_keeps, holds_always}
use Rattle.link_laws.proofs.RenumberingLemmas.{certain_is}
use Rattle.link_laws.proofs.NumberingsLemmas.{awaiting_waits, assigned_waits, running_waits, recovery_runs, if_over}
use Rattle.link_laws.proofs.TwoLinksLemmas.{by_test, clash, Item, Info, Sup, frame, Full, flushes_plain, flushes_state, enquires_at_plain, running_is_up}
use Rattle.link_laws.proofs.WireLemmas.{Token, Calls, Answers, Data, signals, octets, ahead, ahead_holds}
use Rattle.link_laws.proofs.TaleLemmas.{Sending, Told, Tale, told_submits, parted_of, arrived_of}
use Rattle.link_laws.proofs.LaneLemmas.{Receives, Lane, hands, Joint, Goes, Rests, joint_mirror, plain_goes}
use Rattle.link_laws.proofs.StageLemmas.{pass_call, pass_answer, drops_goes}
use Rattle.link_laws.proofs.PartLemmas.{up_same, off_down, asked_down, off_stops, calling_stops, stopped_ready, flushes_still, hand_append, hand_none, quiet_goes, sending_alike, finish_rests, call_goes, begins_goes, queued_goes, data_goes}

-- ---- the start of a step

begins_step : (p : Pair) (es fs : List (List (List ℕ))) (a b : Side) (ts bs : List Token) (d e : Direction) → Joint p es fs a b ts bs d e → Joint (stepped p (step p.first []) p.back p.submitted p.returned) es fs a b ts bs d e
begins_step p es fs a b ts bs d e h = record { hand = h.hand; first = h.first; second = h.second; there = append-nil p.there ∙ h.there; back = h.back; lanes = h.lanes }

down_tale : (l : DataLink) (d : Direction) (es : List (List (List ℕ))) (taken : List (List ℕ)) → is_up l ≡ false → Told d es taken → Tale l d es taken
down_tale l d es taken down h = record { told = h; current = λ up. clash (is_up l) up down; owed = λ up. clash (is_up l) up down }

-- ---- a message of layer 3

lost_goes : (p : Pair) (m : List ℕ) (s : Step) (rest sub ret : List (List ℕ)) (es fs : List (List (List ℕ))) (a b : Side) (ts bs : List Token) (d e : Direction) → is_up s.link ≡ false → Joint (stepped p s rest sub ret) es fs a b ts bs d e → Goes (stepped p s rest sub ret) (with_message m es) fs
lost_goes p m s rest sub ret es fs a b ts bs d e down h = (
  a,
  b,
  ts,
  bs,
  d,
  e,
  record {
    hand = h.hand;
    first = h.first;
    second = h.second;
    there = h.there;
    back = h.back;
    lanes = record { one = h.lanes.one; two = h.lanes.two; first = down_tale s.link d (with_message m es) p.arrived down (told_submits d m es p.arrived h.lanes.first.told); second = h.lanes.second; rests = h.lanes.rests };
  },
)

calling_waits : (l : DataLink) → l.state ≡ state.AwaitingEstablishment → is_awaiting l.state ≡ true
calling_waits l e = ap (λ st. is_awaiting st) e ∙ awaiting_waits

off_waits : (l : DataLink) → l.state ≡ state.TeiAssigned → is_awaiting l.state ≡ false
off_waits l e = ap (λ st. is_awaiting st) e ∙ assigned_waits

overflow_calls : (now : ℕ) (s : Step) → ((establishes true now (step (overflowed s.link) s.out)).link.state ≡ state.AwaitingEstablishment) × ((establishes true now (step (overflowed s.link) s.out)).link.asked ≡ true) × ((establishes true now (step (overflowed s.link) s.out)).out ≡ s.out ++ encoding Network (command (control.Sabme true)) ∷ [])
unfolding establishes
overflow_calls now s = (refl, refl, refl)

overflow_goes : (p : Pair) (m : List ℕ) (now : ℕ) (s : Step) (rest sub ret : List (List ℕ)) (es fs : List (List (List ℕ))) (a b : Side) (ts bs : List Token) (d e : Direction) → is_up s.link ≡ true → Joint (stepped p s rest sub ret) es fs a b ts bs d e → Goes (stepped p (overflows now s) rest sub ret) (with_message m es) fs
unfolding overflows
overflow_goes p m now s rest sub ret es fs (Off g) b ts bs d e up h = clash (is_up s.link) up (off_down s.link h.first)
overflow_goes p m now s rest sub ret es fs (Calling g) b ts bs d e up h =
    by_test (λ t. Goes (stepped p t rest sub ret) (with_message m es) fs) (is_awaiting s.link.state) _ _
    (λ x. let t : Step = step (record (overflowed s.link) { asked = true }) s.out in
    let down = asked_down t.link h.first refl in (
      Calling g,
      b,
      ts ++ [],
      bs,
      d,
      e,
      quiet_goes p s t rest sub ret es (with_message m es) fs (Calling g) (Calling g) b ts [] bs d e refl tt refl (λ n. refl) tt (λ y. clash (is_up t.link) y down)
          (down_tale t.link d (with_message m es) p.arrived down (told_submits d m es p.arrived h.lanes.first.told))
          (hand_none (Calling g) b ts bs h.hand) h.first (sym (append-nil s.out)) h.second h.there h.back h.lanes,
    ))
    (λ x. clash (is_awaiting s.link.state) (calling_waits s.link h.first) x)
overflow_goes p m now s rest sub ret es fs (On g q) b ts bs d e up h =
    by_test (λ t. Goes (stepped p t rest sub ret) (with_message m es) fs) (is_awaiting s.link.state) _ _
    (λ x. clash (is_awaiting s.link.state) x (running_waits s.link.state h.first))
    (λ x. let t : Step = establishes true now (step (overflowed s.link) s.out) in
    let f = overflow_calls now s in
    let down = asked_down t.link f.0 f.1 in (
      Calling g,
      b,
      ts ++ Calls (g + 1) ∷ [],
      bs,
      d,
      e,
      call_goes p s t rest sub ret es (with_message m es) fs (On g q) b ts bs d e (λ y. clash (is_up t.link) y down)
          (down_tale t.link d (with_message m es) p.arrived down (told_submits d m es p.arrived h.lanes.first.told))
          (happens_keeps (hands (On g q) b ts bs) Call h.hand) f.0 f.2 h,
    ))

waits_goes : (p : Pair) (m : List ℕ) (now : ℕ) (s : Step) (rest sub ret : List (List ℕ)) (es fs : List (List (List ℕ))) (a b : Side) (ts bs : List Token) (d e : Direction) → length m ≤ 112 → is_up s.link ≡ true → Joint (stepped p s rest sub ret) es fs a b ts bs d e → Goes (stepped p (flushes now (step (record s.link { queue = queued m s.link.queue }) s.out)) rest sub ret) (with_message m es) fs
waits_goes p m now s rest sub ret es fs a b ts bs d e short up h = on a (queued_goes p s l m rest sub sub ret es fs a b ts bs d e short up refl refl refl refl refl refl h)
  where
    l : DataLink
    l = record s.link { queue = queued m s.link.queue }

    still : (c : Side) (d' : Direction) → is_multiple_frame l.state ≡ false → Joint (stepped p (step l s.out) rest sub ret) (with_message m es) fs c b ts bs d' e → Goes (stepped p (flushes now (step l s.out)) rest sub ret) (with_message m es) fs
    still c d' stopped k = subst (λ t. Goes (stepped p t rest sub ret) (with_message m es) fs) (sym (flushes_still now (step l s.out) stopped)) (c, b, ts, bs, d', e, k)

    on : {d' : Direction} (c : Side) → Joint (stepped p (step l s.out) rest sub ret) (with_message m es) fs c b ts bs d' e → Goes (stepped p (flushes now (step l s.out)) rest sub ret) (with_message m es) fs
    on (Off g) k = still (Off g) _ (off_stops l k.first) k
    on (Calling g) k = still (Calling g) _ (calling_stops l k.first) k
    on {d' = d'} (On g q) k =
        let s' : Step = step l s.out in
        plain_goes p s' (flushes now s') rest sub ret (with_message m es) fs g q b ts bs d' e k (λ v x. flushes_plain now s' d' v x)
        (ap (λ st. is_multiple_frame st) (flushes_state now s') ∙ k.first) ((flushes_flushed now s').keeps.1 ∙ k.lanes.first.owed (running_is_up l k.first))

up_of : (b : Bool) → not b ≡ false → b ≡ true
up_of true e = refl
up_of false e = absurd (cc)

down_of : (b : Bool) → not b ≡ true → b ≡ false
down_of true e = absurd (cc)
down_of false e = refl

submits_goes : (p : Pair) (m : List ℕ) (now : ℕ) (s : Step) (rest sub ret : List (List ℕ)) (es fs : List (List (List ℕ))) (a b : Side) (ts bs : List Token) (d e : Direction) → length m ≤ 112 → Joint (stepped p s rest sub ret) es fs a b ts bs d e → Goes (stepped p (submitted m now s) rest sub ret) (with_message m es) fs
unfolding submitted
submits_goes p m now s rest sub ret es fs a b ts bs d e short h =
    by_test (λ t. Goes (stepped p t rest sub ret) (with_message m es) fs) (not (is_up s.link)) _ _
    (λ x. lost_goes p m s rest sub ret es fs a b ts bs d e (down_of (is_up s.link) x) h)
    (λ x. by_test (λ t. Goes (stepped p t rest sub ret) (with_message m es) fs) (nat_le 64 (length s.link.queue.waiting)) _ _
    (λ y. overflow_goes p m now s rest sub ret es fs a b ts bs d e (up_of (is_up s.link) x) h)
    (λ y. waits_goes p m now s rest sub ret es fs a b ts bs d e short (up_of (is_up s.link) x) h))

both_tests : (P : Step → List (List (List ℕ)) → Type 0) (b : Bool) (x y : Step) (u v : List (List (List ℕ))) → (b ≡ true → P x u) → (b ≡ false → P y v) → P (if b then x else y) (if b then u else v)
both_tests P true x y u v f g = f refl
both_tests P false x y u v f g = g refl

other_sub : (p : Pair) (s : Step) (rest sub sub' ret : List (List ℕ)) (es fs : List (List (List ℕ))) → Goes (stepped p s rest sub ret) es fs → Goes (stepped p s rest sub' ret) es fs
other_sub p s rest sub sub' ret es fs (a, b, ts, bs, d, e, h) = (a, b, ts, bs, d, e, record { hand = h.hand; first = h.first; second = h.second; there = h.there; back = h.back; lanes = h.lanes })

all_submitted : (p : Pair) (messages : List (List ℕ)) (now : ℕ) (s : Step) (rest sub ret : List (List ℕ)) (es fs : List (List (List ℕ))) → Goes (stepped p s rest sub ret) es fs → Goes (stepped p (submits messages now s) rest sub ret) (with_messages messages es) fs
all_submitted p [] now s rest sub ret es fs h = h
all_submitted p (m ∷ messages) now s rest sub ret es fs (a, b, ts, bs, d, e, h) =
    all_submitted p messages now _ rest sub ret _ fs
    (both_tests (λ t gs. Goes (stepped p t rest sub ret) gs fs) (nat_le (length m) 112) _ _ _ _ (λ x. submits_goes p m now s rest sub ret es fs a b ts bs d e (leb-true (length m) 112 x) h) (λ x. (a, b, ts, bs, d, e, h)))

-- ---- the turn

no_calls : (ts : List Token) → Without is_sabme (octets ts) → sabmes (signals ts) ≡ 0
no_calls [] h = refl
no_calls (Calls n ∷ ts) h = clash true refl (ap (λ x. is_in is_sabme x) (sym (reading_of_encoding Network (command (control.Sabme true)) tt)) ∙ h.0)
no_calls (Answers u ∷ ts) h = no_calls ts h.1
no_calls (Data n k i ∷ ts) h = no_calls ts h.1

no_answers_in : (ts : List Token) → Without is_ua (octets ts) → uas (signals ts) ≡ 0
no_answers_in [] h = refl
no_answers_in (Calls n ∷ ts) h = no_answers_in ts h.1
no_answers_in (Answers u ∷ ts) h = clash true refl (ap (λ x. is_in is_ua x) (sym (reading_of_encoding Network (response (control.Ua true)) tt)) ∙ h.0)
no_answers_in (Data n k i ∷ ts) h = no_answers_in ts h.1

over_of : (p : Pair) (a b : Side) (ts bs : List Token) → p.there ≡ octets ts → p.back ≡ octets bs → Without is_sabme p.there × Without is_ua p.back → is_over (hands a b ts bs) ≡ true
over_of p a b ts bs x y h =
    let k = no_calls ts (subst (Without is_sabme) x h.0) in
    let j = no_answers_in bs (subst (Without is_ua) y h.1) in
    eq-eqb (sabmes (signals ts) + uas (signals bs)) 0 (omega (arith, k, j))

abbrev Ends : Pair → List (List (List ℕ)) → List (List (List ℕ)) → Outcome → Type 0
Ends p es fs o = Goes (stepped p (as_step o) p.back p.submitted p.returned) (after_indication o.indication es) fs

establishes_is : (asked : Bool) (now : ℕ) (s : Step) → ((establishes asked now s).link.state ≡ state.AwaitingEstablishment) × ((establishes asked now s).link.asked ≡ asked) × ((establishes asked now s).link.queue ≡ s.link.queue) × ((establishes asked now s).link.owed ≡ s.link.owed) × ((establishes asked now s).out ≡ s.out ++ encoding Network (command (control.Sabme true)) ∷ [])
unfolding establishes
establishes_is asked now s = (refl, refl, refl, refl, refl)

expiry_off : (p : Pair) (now : ℕ) (es fs : List (List (List ℕ))) (a b : Side) (ts bs : List Token) (d e : Direction) → p.first.state ≡ state.TeiAssigned → Joint (stepped p (step p.first []) p.back p.submitted p.returned) es fs a b ts bs d e → Ends p es fs (quietly (establishes true now (step p.first [])))
expiry_off p now es fs (Calling g) b ts bs d e is h = clash (is_awaiting p.first.state) (calling_waits p.first h.first) (off_waits p.first is)
expiry_off p now es fs (On g q) b ts bs d e is h = clash (is_multiple_frame p.first.state) h.first (off_stops p.first is)
expiry_off p now es fs (Off g) b ts bs d e is h =
    let s : Step = step p.first [] in
    let t : Step = establishes true now s in
    let f = establishes_is true now s in
    let down = asked_down t.link f.0 f.1 in (
      Calling g,
      b,
      ts ++ Calls (g + 1) ∷ [],
      bs,
      d,
      e,
      call_goes p s t p.back p.submitted p.returned es es fs (Off g) b ts bs d e (λ y. clash (is_up t.link) y down) (down_tale t.link d es p.arrived down h.lanes.first.told)
          (happens_keeps (hands (Off g) b ts bs) Call h.hand) f.0 f.4 h,
    )

released_is : (now : ℕ) (l : DataLink) → (released now l).state ≡ state.TeiAssigned
unfolding released
released_is now l = refl

expiry_calling : (p : Pair) (now : ℕ) (es fs : List (List (List ℕ))) (a b : Side) (ts bs : List Token) (d e : Direction) → p.first.state ≡ state.AwaitingEstablishment → is_over (hands a b ts bs) ≡ true → Joint (stepped p (step p.first []) p.back p.submitted p.returned) es fs a b ts bs d e → Ends p es fs (calls_or_releases now (step p.first []))
unfolding calls_or_releases
expiry_calling p now es fs (Off g) b ts bs d e is over h = clash (is_awaiting p.first.state) (calling_waits p.first is) (off_waits p.first h.first)
expiry_calling p now es fs (On g q) b ts bs d e is over h = clash (is_awaiting p.first.state) (calling_waits p.first is) (running_waits p.first.state h.first)
expiry_calling p now es fs (Calling g) b ts bs d e is over h =
    by_test (Ends p es fs) (p.first.retries == 3) _ _
    (λ x. let s : Step = step p.first [] in
    let t : Step = step (released now p.first) [] in
    let same = released_is now p.first in
    let down = off_down t.link same in
    let hand : HandHolds (gives_up (hands (Calling g) b ts bs) (Calling g)) = subst HandHolds (if_over (is_over (hands (Calling g) b ts bs)) _ _ over) (happens_keeps (hands (Calling g) b ts bs) GiveUp h.hand) in (
      Off g,
      b,
      ts ++ [],
      bs,
      d,
      e,
      quiet_goes p s t p.back p.submitted p.returned es ([] ∷ es) fs (Calling g) (Off g) b ts [] bs d e refl tt refl (λ n. refl) tt (λ y. clash (is_up t.link) y down)
          (down_tale t.link d ([] ∷ es) p.arrived down (inr h.lanes.first.told)) (hand_none (Off g) b ts bs hand) same refl h.second h.there h.back h.lanes,
    ))
    (λ x. let s : Step = step p.first [] in
    let t : Step = step (calling_again now p.first) (encoding Network (command (control.Sabme true)) ∷ []) in
    let up = up_same p.first t.link refl refl in
    let hand : HandHolds (hand_calls_again (hands (Calling g) b ts bs) (Calling g)) = subst HandHolds (if_over (is_over (hands (Calling g) b ts bs)) _ _ over) (happens_keeps (hands (Calling g) b ts bs) Expire h.hand) in (
      Calling g,
      b,
      ts ++ Calls (g + 1) ∷ [],
      bs,
      d,
      e,
      call_goes p s t p.back p.submitted p.returned es es fs (Calling g) b ts bs d e (λ y. sending_alike p.first t.link d (stopped_ready p.first (calling_stops p.first is)) refl (h.lanes.one.sending (sym up ∙ y)))
          (record { told = h.lanes.first.told; current = λ y. h.lanes.first.current (sym up ∙ y); owed = λ y. h.lanes.first.owed (sym up ∙ y) }) hand is refl h,
    ))

enquires_is : (retries now : ℕ) (s : Step) → ((enquires_at retries now s).link.state ≡ state.TimerRecovery) × ((enquires_at retries now s).link.owed ≡ s.link.owed)
unfolding enquires_at enquires
enquires_is retries now s = (refl, refl)

enquiry_goes : (p : Pair) (retries now : ℕ) (es fs : List (List (List ℕ))) (g q : ℕ) (b : Side) (ts bs : List Token) (d e : Direction) → (is_up p.first ≡ true → Full d) → Joint (stepped p (step p.first []) p.back p.submitted p.returned) es fs (On g q) b ts bs d e → Ends p es fs (quietly (enquires_at retries now (step p.first [])))
enquiry_goes p retries now es fs g q b ts bs d e full h =
    let s : Step = step p.first [] in
    let t : Step = enquires_at retries now s in
    let f = enquires_is retries now s in
    let up = running_is_up p.first h.first in
    plain_goes p s t p.back p.submitted p.returned es fs g q b ts bs d e h (λ v l. enquires_at_plain retries now s d v (full up) l) (ap (λ st. is_multiple_frame st) f.0 ∙ recovery_runs) (f.1 ∙ h.lanes.first.owed up)

up_unasked : (l : DataLink) → l.state ≡ state.AwaitingEstablishment → l.asked ≡ false → is_up l ≡ true
unfolding is_up is_multiple_frame is_established is_recovering is_awaiting
up_unasked l e f = rw (e, f) refl

full_sending : (l m : DataLink) (d : Direction) → m.queue ≡ l.queue → Full d → Sending l d → Sending m d
full_sending l m d e full h = record { number = ap (λ q. q.acknowledged) e ∙ h.number; sent = ap (λ q. q.sent) e ∙ h.sent; waiting = ap (λ q. q.waiting) e ∙ h.waiting; sure = λ x. full }

recovery_goes : (p : Pair) (now : ℕ) (es fs : List (List (List ℕ))) (g q : ℕ) (b : Side) (ts bs : List Token) (d e : Direction) → (is_up p.first ≡ true → Full d) → Joint (stepped p (step p.first []) p.back p.submitted p.returned) es fs (On g q) b ts bs d e → Ends p es fs (quietly (establishes false now (step p.first [])))
recovery_goes p now es fs g q b ts bs d e full h =
    let s : Step = step p.first [] in
    let t : Step = establishes false now s in
    let f = establishes_is false now s in
    let up = running_is_up p.first h.first in (
      Calling g,
      b,
      ts ++ Calls (g + 1) ∷ [],
      bs,
      d,
      e,
      call_goes p s t p.back p.submitted p.returned es es fs (On g q) b ts bs d e (λ y. full_sending p.first t.link d f.2 (full up) (h.lanes.one.sending up))
          (record { told = h.lanes.first.told; current = λ y. h.lanes.first.current up; owed = λ y. f.3 ∙ h.lanes.first.owed up })
          (happens_keeps (hands (On g q) b ts bs) Call h.hand) f.0 f.4 h,
    )

on_side : (p : Pair) (es fs : List (List (List ℕ))) (a b : Side) (ts bs : List Token) (d e : Direction) (P : Type 0) → is_multiple_frame p.first.state ≡ true → Joint (stepped p (step p.first []) p.back p.submitted p.returned) es fs a b ts bs d e → ((g q : ℕ) → Joint (stepped p (step p.first []) p.back p.submitted p.returned) es fs (On g q) b ts bs d e → P) → P
on_side p es fs (Off g) b ts bs d e P running h f = clash (is_multiple_frame p.first.state) running (off_stops p.first h.first)
on_side p es fs (Calling g) b ts bs d e P running h f = clash (is_multiple_frame p.first.state) running (calling_stops p.first h.first)
on_side p es fs (On g q) b ts bs d e P running h f = f g q h

established_runs_at : (l : DataLink) → l.state ≡ state.MultipleFrameEstablished → is_multiple_frame l.state ≡ true
unfolding is_multiple_frame is_established is_recovering
established_runs_at l e = rw e refl

recovery_runs_at : (l : DataLink) → l.state ≡ state.TimerRecovery → is_multiple_frame l.state ≡ true
unfolding is_multiple_frame is_established is_recovering
recovery_runs_at l e = rw e refl

expiry_goes : (p : Pair) (now : ℕ) (st : State) (es fs : List (List (List ℕ))) (a b : Side) (ts bs : List Token) (d e : Direction) → p.first.state ≡ st → (is_awaiting st ≡ true → is_over (hands a b ts bs) ≡ true) → (is_up p.first ≡ true → Full d) → Joint (stepped p (step p.first []) p.back p.submitted p.returned) es fs a b ts bs d e → Ends p es fs (on_expiry st now (step p.first []))
unfolding on_expiry
expiry_goes p now state.TeiAssigned es fs a b ts bs d e is over full h = expiry_off p now es fs a b ts bs d e is h
expiry_goes p now state.AwaitingEstablishment es fs a b ts bs d e is over full h = expiry_calling p now es fs a b ts bs d e is (over awaiting_waits) h
expiry_goes p now state.MultipleFrameEstablished es fs a b ts bs d e is over full h = on_side p es fs a b ts bs d e _ (established_runs_at p.first is) h (λ g q k. enquiry_goes p (first_retries p.first.timer.running) now es fs g q b ts bs d e full k)
expiry_goes p now state.TimerRecovery es fs a b ts bs d e is over full h =
    by_test (Ends p es fs) (p.first.retries == 3) _ _
    (λ x. on_side p es fs a b ts bs d e _ (recovery_runs_at p.first is) h (λ g q k. recovery_goes p now es fs g q b ts bs d e full k))
    (λ x. on_side p es fs a b ts bs d e _ (recovery_runs_at p.first is) h (λ g q k. enquiry_goes p (p.first.retries + 1) now es fs g q b ts bs d e full k))

-- layer 3 is informed of an overflow
settled_goes : (p : Pair) (es fs : List (List (List ℕ))) (a b : Side) (ts bs : List Token) (d e : Direction) → p.first.owed ≡ true → Joint (stepped p (step p.first []) p.back p.submitted p.returned) es fs a b ts bs d e → Goes (stepped p (step (settled p.first) []) p.back p.submitted p.returned) ([] ∷ es) fs
settled_goes p es fs a b ts bs d e owed h = (
  a,
  b,
  ts ++ [],
  bs,
  d,
  e,
  quiet_goes p (step p.first []) (step (settled p.first) []) p.back p.submitted p.returned es ([] ∷ es) fs a a b ts [] bs d e refl (deaf a h.lanes.two.receives) refl (λ n. refl) tt (λ x. absurd (not_up x))
      (record { told = inr h.lanes.first.told; current = λ x. absurd (not_up x); owed = λ x. refl }) (hand_none a b ts bs h.hand) (side a h.first) refl h.second h.there h.back h.lanes,
)
  where
    not_up : is_up (settled p.first) ≡ true → ⊥
    not_up x = clash p.first.owed owed (h.lanes.first.owed (sym (up_same p.first (settled p.first) refl refl) ∙ x))

    side : (c : Side) → IsSide p.first c → IsSide (settled p.first) c
    side (Off g) k = k
    side (Calling g) k = k
    side (On g q) k = k

    deaf : (c : Side) → Receives p.first c (mine b) e → Receives (settled p.first) c (mine b) e
    deaf (Off g) k = tt
    deaf (Calling g) k = tt
    deaf (On g q) k = k

turns_goes : (p : Pair) (t : LinkTimers) (now : ℕ) (es fs : List (List (List ℕ))) (a b : Side) (ts bs : List Token) (d e : Direction) → (is_awaiting p.first.state ≡ true → is_due t now p.first.timer ≡ true → Without is_sabme p.there × Without is_ua p.back) → (is_up p.first ≡ true → Full d) → Joint p es fs a b ts bs d e → Ends p es fs (turned t now (step p.first []))
unfolding turned
turns_goes p t now es fs a b ts bs d e timely full k =
    let h = begins_step p es fs a b ts bs d e k in
    by_test (Ends p es fs) p.first.owed _ _
    (λ x. settled_goes p es fs a b ts bs d e x h)
    (λ x. by_test (Ends p es fs) (is_due t now p.first.timer) _ _
    (λ y. expiry_goes p now p.first.state es fs a b ts bs d e refl (λ waits. over_of p a b ts bs k.there k.back (timely waits y)) full h)
    (λ y. (a, b, ts, bs, d, e, h)))

-- ---- the oldest frame arrives

-- the frame f arrives, of which o is the outcome
abbrev Comes : Pair → List (List ℕ) → Frame → List (List (List ℕ)) → List (List (List ℕ)) → Outcome → Type 0
Comes p rest f es fs o = Goes (stepped p (as_step o) rest p.submitted (p.returned ++ message_of f o.indication)) (after_indication o.indication es) fs

no_message : (f : Frame) (b : Bool) → message_of f (begun_indication b) ≡ []
no_message f true = refl
no_message f false = refl

returned_nothing : (p : Pair) (t : Step) (rest ms : List (List ℕ)) (es fs : List (List (List ℕ))) → ms ≡ [] → Goes (stepped p t rest p.submitted p.returned) es fs → Goes (stepped p t rest p.submitted (p.returned ++ ms)) es fs
returned_nothing p t rest ms es fs none h = subst (λ x. Goes (stepped p t rest p.submitted x) es fs) (sym (ap (λ x. p.returned ++ x) none ∙ append-nil p.returned)) h

-- SABME

sabme_off : (st : State) (now : ℕ) (s : Step) → st ≡ state.TeiAssigned → on_sabme st true now s ≡ begins true now (answers (control.Ua true) s)
unfolding on_sabme
sabme_off st now s e = rw e refl

sabme_calling : (st : State) (now : ℕ) (s : Step) → st ≡ state.AwaitingEstablishment → on_sabme st true now s ≡ quietly (answers (control.Ua true) s)
unfolding on_sabme
sabme_calling st now s e = rw e refl

sabme_on : (st : State) (now : ℕ) (s : Step) → is_multiple_frame st ≡ true → on_sabme st true now s ≡ begins (is_uncertain s.link.queue) now (answers (control.Ua true) s)
unfolding on_sabme is_multiple_frame is_established is_recovering
sabme_on state.TeiAssigned now s e = clash false e refl
sabme_on state.AwaitingEstablishment now s e = clash false e refl
sabme_on state.MultipleFrameEstablished now s e = refl
sabme_on state.TimerRecovery now s e = refl

sabme_begins : (p : Pair) (now : ℕ) (b' : Bool) (es fs : List (List (List ℕ))) (a b : Side) (n : ℕ) (ts bs : List Token) (d e : Direction) → (b' ≡ false → (is_up p.first ≡ true) × (p.first.queue.sent ≡ 0) × Full d) → HandHolds (record { first = On (mine a + 1) n; second = b; there = signals ts ++ Ua (mine a + 1) ∷ []; back = signals bs }) → Joint (stepped p (step p.first []) p.back p.submitted p.returned) es fs a b ts (Calls n ∷ bs) d e
    → Comes p (octets bs) (command (control.Sabme true)) es fs (begins b' now (answers (control.Ua true) (step p.first [])))
sabme_begins p now b' es fs a b n ts bs d e why hand h =
    let s : Step = step p.first [] in
    let out = encoding Network (response (control.Ua true)) ∷ [] in
    let same = h.hand.other.plain.0 in
    let k = begins_goes p b' now s out (octets bs) p.submitted p.returned es fs a b n ts (Answers (mine a + 1) ∷ []) bs d e (λ x. absurd (omega (arith, same, x))) refl (λ m. refl) (λ w x. (λ y. x, tt)) why
    (hand_append (On (mine a + 1) n) b ts (Answers (mine a + 1) ∷ []) (signals bs) hand) refl h.second h.there refl (pass_call p.first p.second a b n ts bs d e es fs p.arrived p.returned h.lanes) in
    returned_nothing p (step (begun b' now p.first) out) (octets bs) (message_of (command (control.Sabme true)) (begun_indication b')) (after_indication (begun_indication b') es) fs (no_message (command (control.Sabme true)) b')
    (On (mine a + 1) n, b, ts ++ Answers (mine a + 1) ∷ [], bs, k.0, e, k.1)

sabme_goes : (p : Pair) (now : ℕ) (es fs : List (List (List ℕ))) (a b : Side) (n : ℕ) (ts bs : List Token) (d e : Direction) → (is_up p.first ≡ true → Full d) → Joint (stepped p (step p.first []) p.back p.submitted p.returned) es fs a b ts (Calls n ∷ bs) d e → Comes p (octets bs) (command (control.Sabme true)) es fs (on_sabme p.first.state true now (step p.first []))
sabme_goes p now es fs (Off g) b n ts bs d e full h = subst (Comes p (octets bs) (command (control.Sabme true)) es fs) (sym (sabme_off p.first.state now (step p.first []) h.first))
    (sabme_begins p now true es fs (Off g) b n ts bs d e (λ x. clash true refl x) (next_keeps (hands (Off g) b ts (Calls n ∷ bs)) (HandSecond HandArrive) h.hand) h)
sabme_goes p now es fs (On g q) b n ts bs d e full h = subst (Comes p (octets bs) (command (control.Sabme true)) es fs) (sym (sabme_on p.first.state now (step p.first []) h.first))
    (sabme_begins p now (is_uncertain p.first.queue) es fs (On g q) b n ts bs d e (λ x. let up = running_is_up p.first h.first in (up, certain_is p.first.queue x, full up)) (next_keeps (hands (On g q) b ts (Calls n ∷ bs)) (HandSecond HandArrive) h.hand) h)
sabme_goes p now es fs (Calling g) b n ts bs d e full h = subst (Comes p (octets bs) (command (control.Sabme true)) es fs) (sym (sabme_calling p.first.state now (step p.first []) h.first))
    (let s : Step = step p.first [] in
    let t : Step = step p.first (encoding Network (response (control.Ua true)) ∷ []) in
    let hand : HandHolds (record { first = Calling g; second = b; there = signals ts ++ Ua (g + 1) ∷ []; back = signals bs }) = next_keeps (hands (Calling g) b ts (Calls n ∷ bs)) (HandSecond HandArrive) h.hand in
    returned_nothing p t (octets bs) [] es fs refl (
      Calling g,
      b,
      ts ++ Answers (g + 1) ∷ [],
      bs,
      d,
      e,
      quiet_goes p s t (octets bs) p.submitted p.returned es es fs (Calling g) (Calling g) b ts (Answers (g + 1) ∷ []) bs d e refl tt refl (λ m. refl) (λ x. absurd (omega (arith, x)), tt) h.lanes.one.sending h.lanes.first
          (hand_append (Calling g) b ts (Answers (g + 1) ∷ []) (signals bs) hand) h.first refl h.second h.there refl (pass_call p.first p.second (Calling g) b n ts bs d e es fs p.arrived p.returned h.lanes),
    ))

-- UA

ua_calling : (now : ℕ) (s : Step) → is_awaiting s.link.state ≡ true → on_ua true now s ≡ on_solicited now s
unfolding on_ua
ua_calling now s e = rw e refl

ua_passed : (now : ℕ) (s : Step) → is_awaiting s.link.state ≡ false → on_ua true now s ≡ quietly s
unfolding on_ua
ua_passed now s e = rw e refl

passed_goes : (p : Pair) (f : Frame) (es fs : List (List (List ℕ))) (a b : Side) (t : Token) (ts bs : List Token) (d e : Direction) → Joint (stepped p (step p.first []) p.back p.submitted p.returned) es fs a b ts (t ∷ bs) d e → Comes p (octets bs) f es fs (quietly (step p.first []))
passed_goes p f es fs a b t ts bs d e h =
    let k = drops_goes p (step p.first []) p.back (octets bs) p.submitted p.returned es fs a b t ts bs d e refl h in
    returned_nothing p (step p.first []) (octets bs) [] es fs refl (a, b, ts, bs, k.0, k.1, k.2)

ua_begins : (p : Pair) (now : ℕ) (es fs : List (List (List ℕ))) (g : ℕ) (b : Side) (u : ℕ) (ts bs : List Token) (d e : Direction) → (is_up p.first ≡ true → Full d) → Joint (stepped p (step p.first []) p.back p.submitted p.returned) es fs (Calling g) b ts (Answers u ∷ bs) d e → Comes p (octets bs) (response (control.Ua true)) es fs (begins (is_new p.first) now (step p.first []))
ua_begins p now es fs g b u ts bs d e full h =
    let s : Step = step p.first [] in
    let b' : Bool = is_new p.first in
    let hand : HandHolds (hands (On (g + 1) u) b ts bs) = next_keeps (hands (Calling g) b ts (Answers u ∷ bs)) (HandSecond HandArrive) h.hand in
    let k = begins_goes p b' now s [] (octets bs) p.submitted p.returned es fs (Calling g) b u ts [] bs d e h.lanes.two.good.0 refl (λ m. refl) (λ w x. tt)
    (λ x. let o = or_parts p.first.asked (is_uncertain p.first.queue) x in let up = up_unasked p.first h.first o.0 in (up, certain_is p.first.queue o.1, full up))
    (hand_none (On (g + 1) u) b ts bs hand) refl h.second h.there refl (pass_answer p.first p.second (Calling g) b u ts bs d e es fs p.arrived p.returned h.lanes) in
    returned_nothing p (step (begun b' now p.first) []) (octets bs) (message_of (response (control.Ua true)) (begun_indication b')) (after_indication (begun_indication b') es) fs (no_message (response (control.Ua true)) b')
    (On (g + 1) u, b, ts ++ [], bs, k.0, e, k.1)

none_left : (n m : ℕ) → n + suc m ≤ 1 → n + m ≡ 0
none_left n m few = omega (arith, few)

-- layer 3 is informed of a loss, and another SABME is sent: UA was the only frame of the handshake on the wires
ua_releases : (p : Pair) (now : ℕ) (es fs : List (List (List ℕ))) (g : ℕ) (b : Side) (u : ℕ) (ts bs : List Token) (d e : Direction) → Joint (stepped p (step p.first []) p.back p.submitted p.returned) es fs (Calling g) b ts (Answers u ∷ bs) d e → Comes p (octets bs) (response (control.Ua true)) es fs (releases_first now (step p.first []))
ua_releases p now es fs g b u ts bs d e h =
    let s : Step = step p.first [] in
    let t : Step = establishes true now (step (lost p.first) []) in
    let f = establishes_is true now (step (lost p.first) []) in
    let k = drops_goes p s p.back (octets bs) p.submitted p.returned es fs (Calling g) b (Answers u) ts bs d e refl h in
    let over : is_over (hands (Calling g) b ts bs) ≡ true = eq-eqb (sabmes (signals ts) + uas (signals bs)) 0 (none_left (sabmes (signals ts)) (uas (signals bs)) h.hand.one.alive) in
    let hand : HandHolds (hand_calls_again (hands (Calling g) b ts bs) (Calling g)) = subst HandHolds (if_over (is_over (hands (Calling g) b ts bs)) _ _ over) (happens_keeps (hands (Calling g) b ts bs) Expire k.2.hand) in
    let down = asked_down t.link f.0 f.1 in
    returned_nothing p t (octets bs) [] ([] ∷ es) fs refl (
      Calling g,
      b,
      ts ++ Calls (g + 1) ∷ [],
      bs,
      k.0,
      k.1,
      call_goes p s t (octets bs) p.submitted p.returned es ([] ∷ es) fs (Calling g) b ts bs k.0 k.1 (λ y. clash (is_up t.link) y down)
          (down_tale t.link k.0 ([] ∷ es) p.arrived down (inr k.2.lanes.first.told)) hand f.0 f.4 k.2,
    )

solicited_goes : (p : Pair) (now : ℕ) (es fs : List (List (List ℕ))) (g : ℕ) (b : Side) (u : ℕ) (ts bs : List Token) (d e : Direction) → (is_up p.first ≡ true → Full d) → Joint (stepped p (step p.first []) p.back p.submitted p.returned) es fs (Calling g) b ts (Answers u ∷ bs) d e → Comes p (octets bs) (response (control.Ua true)) es fs (on_solicited now (step p.first []))
unfolding on_solicited
solicited_goes p now es fs g b u ts bs d e full h = by_test (Comes p (octets bs) (response (control.Ua true)) es fs) p.first.owed _ _
    (λ x. ua_releases p now es fs g b u ts bs d e h) (λ x. ua_begins p now es fs g b u ts bs d e full h)

ua_goes : (p : Pair) (now : ℕ) (es fs : List (List (List ℕ))) (a b : Side) (u : ℕ) (ts bs : List Token) (d e : Direction) → (is_up p.first ≡ true → Full d) → Joint (stepped p (step p.first []) p.back p.submitted p.returned) es fs a b ts (Answers u ∷ bs) d e → Comes p (octets bs) (response (control.Ua true)) es fs (on_ua true now (step p.first []))
ua_goes p now es fs (Off g) b u ts bs d e full h = subst (Comes p (octets bs) (response (control.Ua true)) es fs) (sym (ua_passed now (step p.first []) (off_waits p.first h.first))) (passed_goes p (response (control.Ua true)) es fs (Off g) b (Answers u) ts bs d e h)
ua_goes p now es fs (On g q) b u ts bs d e full h = subst (Comes p (octets bs) (response (control.Ua true)) es fs) (sym (ua_passed now (step p.first []) (running_waits p.first.state h.first))) (passed_goes p (response (control.Ua true)) es fs (On g q) b (Answers u) ts bs d e h)
ua_goes p now es fs (Calling g) b u ts bs d e full h = subst (Comes p (octets bs) (response (control.Ua true)) es fs) (sym (ua_calling now (step p.first []) (calling_waits p.first h.first))) (solicited_goes p now es fs g b u ts bs d e full h)

-- an I or S frame

numbered_passed : (i : Item) (now : ℕ) (s : Step) → is_multiple_frame s.link.state ≡ false → received (frame i) now s ≡ quietly s
unfolding on_control on_information on_supervisory
numbered_passed (Info c a m) now s e = rw e refl
numbered_passed (Sup cmd kind pf a) now s e = rw e refl

token_goes : (p : Pair) (now : ℕ) (es fs : List (List (List ℕ))) (a b : Side) (n k : ℕ) (i : Item) (ts bs : List Token) (d e : Direction) → (is_up p.first ≡ true → Full d) → Joint (stepped p (step p.first []) p.back p.submitted p.returned) es fs a b ts (Data n k i ∷ bs) d e → Comes p (octets bs) (frame i) es fs (received (frame i) now (step p.first []))
token_goes p now es fs (On g q) b n k i ts bs d e full h = data_goes p now (step p.first []) p.back (octets bs) p.submitted p.returned es fs g q b n k i ts bs d e refl (full (running_is_up p.first h.first)) h
token_goes p now es fs (Off g) b n k i ts bs d e full h = subst (Comes p (octets bs) (frame i) es fs) (sym (numbered_passed i now (step p.first []) (off_stops p.first h.first))) (passed_goes p (frame i) es fs (Off g) b (Data n k i) ts bs d e h)
token_goes p now es fs (Calling g) b n k i ts bs d e full h = subst (Comes p (octets bs) (frame i) es fs) (sym (numbered_passed i now (step p.first []) (calling_stops p.first h.first))) (passed_goes p (frame i) es fs (Calling g) b (Data n k i) ts bs d e h)

-- the frame is what the octets are read as
abbrev Read : Pair → ℕ → List (List (List ℕ)) → List (List (List ℕ)) → List (List ℕ) → Option Frame → Type 0
Read p now es fs rest o = Goes (stepped p (as_step (outcome_of p now o)) rest p.submitted (p.returned ++ message_in p now o)) (after_indication (outcome_of p now o).indication es) fs

arrives_goes : (p : Pair) (now : ℕ) (es fs : List (List (List ℕ))) (a b : Side) (ts bs : List Token) (d e : Direction) → (is_up p.first ≡ true → Full d) → Joint p es fs a b ts bs d e → Read p now es fs (younger (octets bs)) (oldest (octets bs))
unfolding on_control
arrives_goes p now es fs a b ts [] d e full h =
    let k = begins_step p es fs a b ts [] d e h in
    returned_nothing p (step p.first []) [] [] es fs refl (a, b, ts, [], d, e, record { hand = k.hand; first = k.first; second = k.second; there = k.there; back = refl; lanes = k.lanes })
arrives_goes p now es fs a b ts (Calls n ∷ bs) d e full h = subst (Read p now es fs (octets bs)) (sym (reading_of_encoding Network (command (control.Sabme true)) tt)) (sabme_goes p now es fs a b n ts bs d e full (begins_step p es fs a b ts (Calls n ∷ bs) d e h))
arrives_goes p now es fs a b ts (Answers u ∷ bs) d e full h = subst (Read p now es fs (octets bs)) (sym (reading_of_encoding Network (response (control.Ua true)) tt)) (ua_goes p now es fs a b u ts bs d e full (begins_step p es fs a b ts (Answers u ∷ bs) d e h))
arrives_goes p now es fs a b ts (Data n k i ∷ bs) d e full h = subst (Read p now es fs (octets bs)) (sym h.lanes.two.good.0.0) (token_goes p now es fs a b n k i ts bs d e full (begins_step p es fs a b ts (Data n k i ∷ bs) d e h))

-- ---- a step

cause_goes : (p : Pair) (c : Cause) (messages : List (List ℕ)) (now : ℕ) (es fs : List (List (List ℕ))) (a b : Side) (ts bs : List Token) (d e : Direction) → IsTimelyAct p (Steps c messages now) → (is_up p.first ≡ true → Full d) → Joint p es fs a b ts bs d e → Goes (stepped p (as_step (outcome p c now)) (remaining p c) p.submitted (p.returned ++ delivery p c now)) (after_indication (outcome p c now).indication es) fs
cause_goes p Arrival messages now es fs a b ts bs d e timely full h = subst (λ os. Read p now es fs (younger os) (oldest os)) (sym h.back) (arrives_goes p now es fs a b ts bs d e full h)
cause_goes p (Turn t) messages now es fs a b ts bs d e timely full h = returned_nothing p (as_step (turned t now (step p.first []))) p.back [] _ fs refl (turns_goes p t now es fs a b ts bs d e timely full h)
cause_goes p Request messages now es fs a b ts bs d e timely full h = returned_nothing p (step p.first []) p.back [] es fs refl (a, b, ts, bs, d, e, begins_step p es fs a b ts bs d e h)

loses_goes : (p : Pair) (es fs : List (List (List ℕ))) (a b : Side) (ts bs : List Token) (d e : Direction) → (is_up p.first ≡ true → Full d) → Joint p es fs a b ts bs d e → Rests (loses p (octets bs)) es fs
loses_goes p es fs a b ts [] d e full h = (a, b, ts, [], d, e, h, full)
loses_goes p es fs a b ts (t ∷ bs) d e full h =
    let k = drops_goes p (step p.first []) p.back (octets bs) p.submitted p.returned es fs a b t ts bs d e refl (begins_step p es fs a b ts (t ∷ bs) d e h) in
    (a, b, ts, bs, k.0, k.1, k.2, λ up. k.3 (full up))

acts_goes : (p : Pair) (x : Act) (es fs : List (List (List ℕ))) → IsTimelyAct p x → Rests p es fs → Rests (acts p x) (epochs_after p x es) fs
acts_goes p (Steps c messages at) es fs timely (a, b, ts, bs, d, e, h, full) =
    finish_rests p at (submits messages at (as_step (outcome p c at))) (remaining p c) (p.submitted ++ messages) (p.returned ++ delivery p c at) (epochs_after p (Steps c messages at) es) fs
    (all_submitted p messages at (as_step (outcome p c at)) (remaining p c) (p.submitted ++ messages) (p.returned ++ delivery p c at) (after_indication (outcome p c at).indication es) fs
    (other_sub p (as_step (outcome p c at)) (remaining p c) p.submitted (p.submitted ++ messages) (p.returned ++ delivery p c at) (after_indication (outcome p c at).indication es) fs
    (cause_goes p c messages at es fs a b ts bs d e timely full h)))
acts_goes p Lose es fs timely (a, b, ts, bs, d, e, h, full) = subst (λ os. Rests (loses p os) es fs) (sym h.back) (loses_goes p es fs a b ts bs d e full h)

-- ---- all

turned_over : (p : Pair) (es fs : List (List (List ℕ))) → Rests p es fs → Rests (mirror p) fs es
turned_over p es fs (a, b, ts, bs, d, e, h, full) = (b, a, bs, ts, e, d, joint_mirror p es fs a b ts bs d e full h, h.lanes.rests)

all_goes : (events : List Event) (s : Story) → IsTimely events s → Rests s.pair s.first s.second → Rests (run events s).pair (run events s).first (run events s).second
all_goes [] s timely h = h
all_goes (First x ∷ events) s timely h = all_goes events (next s (First x)) timely.1 (acts_goes s.pair x s.first s.second timely.0 h)
all_goes (Second x ∷ events) s timely h = all_goes events (next s (Second x)) timely.1
    (turned_over (acts (mirror s.pair) x) (epochs_after (mirror s.pair) x s.second) s.first (acts_goes (mirror s.pair) x s.second s.first timely.0 (turned_over s.pair s.first s.second h)))

-- two links at their start

start_lane : (l m : DataLink) → l.state ≡ state.TeiAssigned → Lane l m 0 0 (Off 0) [] [] (ahead [] [])
start_lane l m is = record {
  holds = ahead_holds [] [] tt;
  next = tt;
  underway = refl;
  replies = refl;
  good = tt;
  short = All-nil IsShort;
  sending = λ up. clash (is_up l) up (off_down l is);
  receives = tt;
}

start_tale : (l : DataLink) → l.state ≡ state.TeiAssigned → Tale l (ahead [] []) ([] ∷ []) []
start_tale l is = down_tale l (ahead [] []) ([] ∷ []) [] (off_down l is) (inl (record { base = []; lost = []; before = []; whole = refl; got = refl; parted = refl }))

start_full : Full (ahead [] [])
start_full = omega arith

start_goes : (first second : ℕ) → Rests (at_start first second) ([] ∷ []) ([] ∷ [])
start_goes first second = (
  Off 0,
  Off 0,
  [],
  [],
  ahead [] [],
  ahead [] [],
  record {
    hand = holds_always [];
    first = refl;
    second = refl;
    there = refl;
    back = refl;
    lanes = record { one = start_lane (initial first) (initial second) refl; two = start_lane (initial second) (initial first) refl; first = start_tale (initial first) refl; second = start_tale (initial second) refl; rests = λ up. start_full };
  },
  λ up. start_full,
)

always : (events : List Event) (p : Pair) → IsStart p → IsTimely events (begin p) → Rests (run events (begin p)).pair (run events (begin p)).first (run events (begin p)).second
always events p at timely = all_goes events (begin p) timely (subst (λ q. Rests q ([] ∷ []) ([] ∷ [])) (sym at.2) (start_goes at.0 at.1))

in_order_of : (s : Story) → Rests s.pair s.first s.second → IsInOrderOrTold s
in_order_of s (a, b, ts, bs, d, e, h, full) = (parted_of d s.first s.pair.arrived h.lanes.one.holds h.lanes.first.told, parted_of e s.second s.pair.returned h.lanes.two.holds h.lanes.second.told)

has_arrived : (s : Story) → Rests s.pair s.first s.second → HasArrivedBothWays s
has_arrived s (a, b, ts, bs, d, e, h, full) = (
  λ up. arrived_of s.pair.first d s.first s.pair.arrived h.lanes.one.holds (h.lanes.one.sending up) (full up) (h.lanes.first.current up),
  λ up. arrived_of s.pair.second e s.second s.pair.returned h.lanes.two.holds (h.lanes.two.sending up) (h.lanes.rests up) (h.lanes.second.current up),
)

pub in_order_always : Always IsInOrderOrTold
in_order_always events p at timely = in_order_of (run events (begin p)) (always events p at timely)

pub arrived_always : Always HasArrivedBothWays
arrived_always events p at timely = has_arrived (run events (begin p)) (always events p at timely)
