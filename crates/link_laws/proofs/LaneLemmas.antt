-- Two links with the handshake, the frames of each numbering, and the epochs of each side: what a part of a step of the first link does to them.
use Rattle.std.proofs.Common.{◌≡◌, ◌⊎◌, ℕ, ◌+◌, ◌%◌, ◌≤◌, true, false, List, [], ◌∷◌, ◌++◌, length, drop, refl, sym, ap, ◌∙◌, subst, inl, inr, arith, append_assoc, append-nil, Option, Some, None}
use Rattle.std.specs.Prelude.{All}
use Rattle.link_procedures.specs.Links.{DataLink, Step, is_multiple_frame, is_up}
use Rattle.link_procedures.specs.AnyPeer.{IsShort}
use Rattle.link_laws.specs.Window.{Direction}
use Rattle.link_laws.specs.Handshake.{Signal, Numbered, Side, Off, Calling, On, Pair as Handshake, Send, uas}
use Rattle.link_laws.specs.TwoLinks.{Pair, mirror, stepped}
use Rattle.link_laws.specs.Numberings.{IsSide}
use Rattle.link_laws.proofs.WindowLemmas.{Holds, Acknowledgements}
use Rattle.link_laws.proofs.HandshakeLemmas.{Holds as HandHolds, Live, E_of, mine, end_of, happens_keeps, turned}
use Rattle.link_laws.proofs.TwoLinksLemmas.{Item, wire, counts, acks, Genuine, Local, Sim, Plain, full_same, running_is_up, Full}
use Rattle.link_laws.proofs.WireLemmas.{Token, signals, octets, infos, acks_of, tagged, signals_append, octets_append, infos_append, acks_of_append, octets_tagged, infos_tagged, acks_tagged, acks_tagged_other, AllGood, good_append, good_same, ahead, good_tagged, ahead_holds}
use Rattle.link_laws.proofs.TaleLemmas.{Sending, Tale, told_moves, current_moves}

-- V(R) of a side with a link counts the messages of the other side's numbering g, or it is 0 for the next one
abbrev pub Receives : DataLink → Side → ℕ → Direction → Type 0
Receives m (Off q) g d = Unit {0}
Receives m (Calling q) g d = Unit {0}
Receives m (On q t) g d = (t ≡ g → m.received ≡ length d.delivered % 128) × (t ≡ g + 1 → m.received ≡ 0)

-- one direction: from the link l with numbering g to the link m with side b and numbering k
pub record Lane (l m : DataLink) (g k : ℕ) (b : Side) (there back : List Token) (d : Direction) : Type 0 where
  pub holds : Holds d
  pub next : Acknowledgements 0 0 (acks_of (g + 1) back)
  pub underway : d.underway ≡ infos g there
  pub replies : d.replies ≡ acks_of g back
  pub good : AllGood g k d there
  pub short : All IsShort d.submitted
  pub sending : is_up l ≡ true → Sending l d
  pub receives : Receives m b g d

pub record Lanes (l m : DataLink) (a b : Side) (ts bs : List Token) (d e : Direction) (es fs : List (List (List ℕ))) (arrived returned : List (List ℕ)) : Type 0 where
  pub one : Lane l m (mine a) (mine b) b ts bs d
  pub two : Lane m l (mine b) (mine a) a bs ts e
  pub first : Tale l d es arrived
  pub second : Tale m e fs returned
  pub rests : is_up m ≡ true → Full e

abbrev pub hands : Side → Side → List Token → List Token → Handshake
hands a b ts bs = record { first = a; second = b; there = signals ts; back = signals bs }

pub record Joint (p : Pair) (es fs : List (List (List ℕ))) (a b : Side) (ts bs : List Token) (d e : Direction) : Type 0 where
  pub hand : HandHolds (hands a b ts bs)
  pub first : IsSide p.first a
  pub second : IsSide p.second b
  pub there : p.there ≡ octets ts
  pub back : p.back ≡ octets bs
  pub lanes : Lanes p.first p.second a b ts bs d e es fs p.arrived p.returned

abbrev pub Goes : Pair → List (List (List ℕ)) → List (List (List ℕ)) → Type 0
Goes p es fs = (a : Side) × (b : Side) × (ts : List Token) × (bs : List Token) × (d : Direction) × (e : Direction) × Joint p es fs a b ts bs d e

-- the same between two steps
abbrev pub Rests : Pair → List (List (List ℕ)) → List (List (List ℕ)) → Type 0
Rests p es fs = (a : Side) × (b : Side) × (ts : List Token) × (bs : List Token) × (d : Direction) × (e : Direction) × Joint p es fs a b ts bs d e × (is_up p.first ≡ true → Full d)

pub goes : (p : Pair) (es fs : List (List (List ℕ))) (a b : Side) (ts bs : List Token) (d e : Direction) → Joint p es fs a b ts bs d e → Goes p es fs
goes p es fs a b ts bs d e h = (a, b, ts, bs, d, e, h)

pub joint_mirror : (p : Pair) (es fs : List (List (List ℕ))) (a b : Side) (ts bs : List Token) (d e : Direction) → (is_up p.first ≡ true → Full d) → Joint p es fs a b ts bs d e → Joint (mirror p) fs es b a bs ts e d
joint_mirror p es fs a b ts bs d e full h = record {
  hand = turned (hands a b ts bs) h.hand;
  first = h.second;
  second = h.first;
  there = h.back;
  back = h.there;
  lanes = record { one = h.lanes.two; two = h.lanes.one; first = h.lanes.second; second = h.lanes.first; rests = full };
}

-- ---- small facts

pub receives_same : (m : DataLink) (b : Side) (g : ℕ) (d e : Direction) → e.delivered ≡ d.delivered → Receives m b g d → Receives m b g e
receives_same m (Off q) g d e same h = tt
receives_same m (Calling q) g d e same h = tt
receives_same m (On q t) g d e same h = (λ x. h.0 x ∙ ap (λ ms. length ms % 128) (sym same), h.1)

pub sending_same : (l : DataLink) (d e : Direction) → e.submitted ≡ d.submitted → e.acknowledged ≡ d.acknowledged → e.sent ≡ d.sent → e.reached ≡ d.reached → Sending l d → Sending l e
sending_same l d e a b c f h = record {
  number = h.number ∙ ap (λ n. n % 128) (sym b);
  sent = h.sent ∙ sym c;
  waiting = h.waiting ∙ ap (λ n. drop n d.submitted) (sym b) ∙ ap (λ ms. drop e.acknowledged ms) (sym a);
  sure = λ x. full_same d e b c f (h.sure x);
}

sending_of : (l : DataLink) (d v : Direction) → Local l d v → Sending l d
sending_of l d v h = record { number = h.number; sent = h.sent; waiting = h.waiting; sure = h.sure }

near_end : (b : Side) (k : Option ℕ) (q g : ℕ) → E_of b k (Live q g) → (q ≡ mine b) ⊎ (q ≡ mine b + 1)
near_end (Off m) k q g h = h
near_end (Calling m) None q g h = h
near_end (Calling m) (Some u) q g h = inr h.0
near_end (On m t) k q g h = inl h.0

-- the numbering that a side with a link accepts is the other side's, or its next one
pub near_of : (g q : ℕ) (b : Side) (ts bs : List Token) → HandHolds (hands (On g q) b ts bs) → (q ≡ mine b) ⊎ (q ≡ mine b + 1)
near_of g q b ts bs h = near_end b _ q g (end_of _ _ (signals bs) (Live q g) h.other.fits)

-- no UA is on the wire to a side with a link
pub no_answers : (g q : ℕ) (b : Side) (ts bs : List Token) → HandHolds (hands (On g q) b ts bs) → uas (signals bs) ≡ 0
no_answers g q b ts bs h = let alive = h.one.alive in omega (arith, alive)

hand_sends : (g q : ℕ) (b : Side) (is : List Item) (xs ys : List Signal) → HandHolds (record { first = On g q; second = b; there = xs; back = ys }) → HandHolds (record { first = On g q; second = b; there = xs ++ signals (tagged g q is); back = ys })
hand_sends g q b [] xs ys h = subst (λ x. HandHolds (record { first = On g q; second = b; there = x; back = ys })) (sym (append-nil xs)) h
hand_sends g q b (i ∷ is) xs ys h = subst (λ x. HandHolds (record { first = On g q; second = b; there = x; back = ys })) (append_assoc xs (Numbered g q ∷ []) (signals (tagged g q is)))
    (hand_sends g q b is (xs ++ Numbered g q ∷ []) ys (happens_keeps (record { first = On g q; second = b; there = xs; back = ys }) Send h))

pub hand_tagged : (g q : ℕ) (b : Side) (is : List Item) (ts bs : List Token) → HandHolds (hands (On g q) b ts bs) → HandHolds (hands (On g q) b (ts ++ tagged g q is) bs)
hand_tagged g q b is ts bs h = subst (λ x. HandHolds (record { first = On g q; second = b; there = x; back = signals bs })) (sym (signals_append ts (tagged g q is))) (hand_sends g q b is (signals ts) (signals bs) h)

-- ---- the octets of a part of a step

pub octets_then : (before out now : List (List ℕ)) (ts us : List Token) → before ++ out ≡ octets ts → now ≡ out ++ octets us → before ++ now ≡ octets (ts ++ us)
octets_then before out now ts us a b = ap (λ o. before ++ o) b ∙ sym (append_assoc before out (octets us)) ∙ ap (λ o. o ++ octets us) a ∙ sym (octets_append ts us)

-- ---- the link stays in multiple frame operation

lane_runs : (s t : Step) (m : DataLink) (g q k' : ℕ) (b : Side) (ts bs bs' : List Token) (d v : Direction) (u r : List ℕ) (dd : List (List ℕ)) → q ≤ k' + 1 → (k : Sim s t d v u r dd) → r ≡ acks_of g bs' → acks_of (g + 1) bs' ≡ acks_of (g + 1) bs → Lane s.link m g k' b ts bs d → Lane t.link m g k' b (ts ++ tagged g q k.items) bs' k.mine
lane_runs s t m g q k' b ts bs bs' d v u r dd low k a2 a3 h = record {
  holds = k.local.one;
  next = subst (λ x. Acknowledgements 0 0 x) (sym a3) h.next;
  underway = k.underway ∙ ap (λ x. x ++ counts k.items) h.underway ∙ ap (λ x. infos g ts ++ x) (sym (infos_tagged g q k.items)) ∙ sym (infos_append g ts (tagged g q k.items));
  replies = k.told ∙ a2;
  good = good_append g k' k.mine ts (tagged g q k.items) (good_same g k' d k.mine ts k.submitted (inl k.delivered) h.good)
      (good_tagged g k' q k.mine k.items (subst (All IsShort) (sym k.submitted) h.short) low (subst (λ x. Genuine x k.items) (sym k.submitted) k.genuine));
  short = subst (All IsShort) (sym k.submitted) h.short;
  sending = λ up. sending_of t.link k.mine k.theirs k.local;
  receives = receives_same m b g d k.mine k.delivered h.receives;
}

tale_runs : (l l' : DataLink) (d e : Direction) (es : List (List (List ℕ))) (taken : List (List ℕ)) → is_up l ≡ true → l'.owed ≡ false → e.submitted ≡ d.submitted → e.delivered ≡ d.delivered → Tale l d es taken → Tale l' e es taken
tale_runs l l' d e es taken up owed a b h = record {
  told = told_moves d e es taken taken [] a (b ∙ sym (append-nil d.delivered)) (sym (append-nil taken)) h.told;
  current = λ now. current_moves d e es taken taken [] a (b ∙ sym (append-nil d.delivered)) (sym (append-nil taken)) (h.current up);
  owed = λ now. owed;
}

acks_beside : (g q r : ℕ) (ts : List Token) (is : List Item) → (q ≡ r → ⊥) → acks_of r (ts ++ tagged g q is) ≡ acks_of r ts
acks_beside g q r ts is other = acks_of_append r ts (tagged g q is) ∙ ap (λ x. acks_of r ts ++ x) (acks_tagged_other g q r is other) ∙ append-nil (acks_of r ts)

acks_with : (g q r : ℕ) (ts : List Token) (is : List Item) → q ≡ r → acks_of r (ts ++ tagged g q is) ≡ acks_of r ts ++ acks is
acks_with g q r ts is same = acks_of_append r ts (tagged g q is) ∙ ap (λ x. acks_of r ts ++ x) (subst (λ n. acks_of n (tagged g q is) ≡ acks is) same (acks_tagged g q is))

pub runs_abreast : (s t : Step) (m : DataLink) (g q : ℕ) (b : Side) (ts bs bs' : List Token) (d e : Direction) (es fs : List (List (List ℕ))) (arrived returned now ms : List (List ℕ)) (u r : List ℕ) (dd : List (List ℕ)) → q ≡ mine b → (k : Sim s t d e u r dd) → is_multiple_frame s.link.state ≡ true → t.link.owed ≡ false
    → u ≡ infos (mine b) bs' → r ≡ acks_of g bs' → acks_of (g + 1) bs' ≡ acks_of (g + 1) bs → AllGood (mine b) g e bs' → uas (signals bs') ≡ 0 → now ≡ returned ++ ms → dd ≡ e.delivered ++ ms
    → Lanes s.link m (On g q) b ts bs d e es fs arrived returned → Lanes t.link m (On g q) b (ts ++ tagged g q k.items) bs' k.mine k.theirs es fs arrived now
runs_abreast s t m g q b ts bs bs' d e es fs arrived returned now ms u r dd near k running owed a1 a2 a3 good none got more h = record {
  one = lane_runs s t m g q (mine b) b ts bs bs' d e u r dd (omega (arith, near)) k a2 a3 h.one;
  two = record {
    holds = k.local.other;
    next = subst (λ x. Acknowledgements 0 0 x) (sym (acks_beside g q (mine b + 1) ts k.items (λ x. omega (arith, x, near)))) h.two.next;
    underway = k.rest ∙ a1;
    replies = k.replies ∙ ap (λ x. x ++ acks k.items) h.two.replies ∙ sym (acks_with g q (mine b) ts k.items near);
    good = good_same (mine b) g e k.theirs bs' k.replied (inr none) good;
    short = subst (All IsShort) (sym k.replied) h.two.short;
    sending = λ up. sending_same m e k.theirs k.replied k.their_number k.their_sent k.their_reached (h.two.sending up);
    receives = (λ x. k.local.next, λ x. absurd (omega (arith, x, near)));
  };
  first = tale_runs s.link t.link d k.mine es arrived (running_is_up s.link running) owed k.submitted k.delivered h.first;
  second = record {
    told = told_moves e k.theirs fs returned now ms k.replied (k.got ∙ more) got h.second.told;
    current = λ up. current_moves e k.theirs fs returned now ms k.replied (k.got ∙ more) got (h.second.current up);
    owed = h.second.owed;
  };
  rests = λ up. full_same e k.theirs k.their_number k.their_sent k.their_reached (h.rests up);
}

zero_acks : (x : ℕ) (y : List (List ℕ)) (z z' : List ℕ) → x ≡ 0 → y ≡ [] → z ≡ z' → Acknowledgements x (length y) z → Acknowledgements 0 0 z'
zero_acks x y z z' a b c h = subst (λ w. Acknowledgements 0 0 w) c (subst (λ w. Acknowledgements 0 (length w) z) b (subst (λ w. Acknowledgements w (length y) z) a h))

-- the other side has not begun the numbering that this link accepts
pub runs_ahead : (s t : Step) (m : DataLink) (g q : ℕ) (b : Side) (ts bs : List Token) (d e : Direction) (es fs : List (List (List ℕ))) (arrived returned : List (List ℕ)) → q ≡ mine b + 1 → (k : Plain s t d (ahead [] (acks_of q ts))) → is_multiple_frame s.link.state ≡ true → t.link.owed ≡ false
    → Lanes s.link m (On g q) b ts bs d e es fs arrived returned → Lanes t.link m (On g q) b (ts ++ tagged g q k.items) bs k.mine e es fs arrived returned
runs_ahead s t m g q b ts bs d e es fs arrived returned near k running owed h = record {
  one = lane_runs s t m g q (mine b) b ts bs bs d (ahead [] (acks_of q ts)) _ _ _ (omega (arith, near)) k h.one.replies refl h.one;
  two = record {
    holds = h.two.holds;
    next = subst (λ n. Acknowledgements 0 0 (acks_of n (ts ++ tagged g q k.items))) near
        (zero_acks k.theirs.acknowledged k.theirs.delivered k.theirs.replies _ k.their_number k.got (k.replies ∙ sym (acks_with g q q ts k.items refl)) k.local.other.acknowledgements);
    underway = h.two.underway;
    replies = h.two.replies ∙ sym (acks_beside g q (mine b) ts k.items (λ x. omega (arith, x, near)));
    good = h.two.good;
    short = h.two.short;
    sending = h.two.sending;
    receives = (λ x. absurd (omega (arith, x, near)), λ x. k.local.next ∙ ap (λ y. length y % 128) k.got);
  };
  first = tale_runs s.link t.link d k.mine es arrived (running_is_up s.link running) owed k.submitted k.delivered h.first;
  second = h.second;
  rests = h.rests;
}

local_of : (l m : DataLink) (g q : ℕ) (b : Side) (ts bs : List Token) (d e : Direction) (es fs : List (List (List ℕ))) (arrived returned : List (List ℕ)) (v : Direction) → is_multiple_frame l.state ≡ true → Holds v → l.received ≡ length v.delivered % 128 → Lanes l m (On g q) b ts bs d e es fs arrived returned → Local l d v
local_of l m g q b ts bs d e es fs arrived returned v running holds next h =
    let k = h.one.sending (running_is_up l running) in record { number = k.number; sent = k.sent; waiting = k.waiting; next = next; sure = k.sure; one = h.one.holds; other = holds }

pub local_abreast : (l m : DataLink) (g q : ℕ) (b : Side) (ts bs : List Token) (d e : Direction) (es fs : List (List (List ℕ))) (arrived returned : List (List ℕ)) → is_multiple_frame l.state ≡ true → q ≡ mine b → Lanes l m (On g q) b ts bs d e es fs arrived returned → Local l d e
local_abreast l m g q b ts bs d e es fs arrived returned running near h = local_of l m g q b ts bs d e es fs arrived returned e running h.two.holds (h.two.receives.0 near) h

pub local_ahead : (l m : DataLink) (g q : ℕ) (b : Side) (ts bs : List Token) (d e : Direction) (es fs : List (List (List ℕ))) (arrived returned : List (List ℕ)) → is_multiple_frame l.state ≡ true → q ≡ mine b + 1 → Lanes l m (On g q) b ts bs d e es fs arrived returned → Local l d (ahead [] (acks_of q ts))
local_ahead l m g q b ts bs d e es fs arrived returned running near h =
    local_of l m g q b ts bs d e es fs arrived returned (ahead [] (acks_of q ts)) running (ahead_holds [] (acks_of q ts) (subst (λ n. Acknowledgements 0 0 (acks_of n ts)) (sym near) h.two.next)) (h.two.receives.1 near) h

-- nothing arrives
pub plain_goes : (p : Pair) (s t : Step) (rest sub ret : List (List ℕ)) (es fs : List (List (List ℕ))) (g q : ℕ) (b : Side) (ts bs : List Token) (d e : Direction) → Joint (stepped p s rest sub ret) es fs (On g q) b ts bs d e → ((v : Direction) → Local s.link d v → Plain s t d v) → is_multiple_frame t.link.state ≡ true → t.link.owed ≡ false → Goes (stepped p t rest sub ret) es fs
plain_goes p s t rest sub ret es fs g q b ts bs d e h f running owed = cases (near_of g q b ts bs h.hand)
  where
    on : (is : List Item) (d' e' : Direction) → t.out ≡ s.out ++ wire is → Lanes t.link p.second (On g q) b (ts ++ tagged g q is) bs d' e' es fs p.arrived ret → Goes (stepped p t rest sub ret) es fs
    on is d' e' out lanes = (
      On g q,
      b,
      ts ++ tagged g q is,
      bs,
      d',
      e',
      record {
        hand = hand_tagged g q b is ts bs h.hand;
        first = running;
        second = h.second;
        there = octets_then p.there s.out t.out ts (tagged g q is) h.there (out ∙ ap (λ o. s.out ++ o) (sym (octets_tagged g q is)));
        back = h.back;
        lanes = lanes;
      },
    )

    cases : (q ≡ mine b) ⊎ (q ≡ mine b + 1) → Goes (stepped p t rest sub ret) es fs
    cases (inl near) =
        let k = f e (local_abreast s.link p.second g q b ts bs d e es fs p.arrived ret h.first near h.lanes) in
        on k.items k.mine k.theirs k.out (runs_abreast s t p.second g q b ts bs bs d e es fs p.arrived ret ret [] _ _ _ near k h.first owed h.lanes.two.underway h.lanes.one.replies refl h.lanes.two.good (no_answers g q b ts bs h.hand) (sym (append-nil ret)) (sym (append-nil e.delivered)) h.lanes)
    cases (inr near) =
        let k = f (ahead [] (acks_of q ts)) (local_ahead s.link p.second g q b ts bs d e es fs p.arrived ret h.first near h.lanes) in
        on k.items k.mine e k.out (runs_ahead s t p.second g q b ts bs d e es fs p.arrived ret near k h.first owed h.lanes)
