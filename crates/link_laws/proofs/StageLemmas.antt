-- The other parts of a step: SABME and UA are sent, a numbering begins, a frame is lost.
use Rattle.std.proofs.Common.{◌≡◌, ℕ, ◌+◌, ◌-◌, ◌%◌, Bool, true, false, List, [], ◌∷◌, ◌++◌, length, refl, sym, ap, ◌∙◌, subst, inl, arith, append-nil}
use Rattle.std.specs.Prelude.{◌==◌, All}
use Rattle.std.proofs.lemmas.Bool.{eqb-true, eqb-false}
use Rattle.link_procedures.specs.Links.{DataLink, Step, is_up}
use Rattle.link_procedures.specs.AnyPeer.{IsShort}
use Rattle.link_laws.specs.Window.{Direction, drops, moved}
use Rattle.link_laws.specs.Handshake.{Side, On, Lose as HandLose, Second as HandSecond}
use Rattle.link_laws.specs.TwoLinks.{Pair, stepped}
use Rattle.link_laws.proofs.WindowLemmas.{Holds, Acknowledgements, Holds-moved_missed, dropped_one}
use Rattle.link_laws.proofs.HandshakeLemmas.{mine, next_keeps}
use Rattle.link_laws.proofs.TwoLinksLemmas.{Item, Info, Sup, counts, acks, Full, full_same}
use Rattle.link_laws.proofs.WireLemmas.{Token, Calls, Answers, Data, octets, infos, acks_of, infos_append, acks_of_append, count_same, count_other, ack_same, ack_other, AllGood, good_append, good_same, good_beside, ahead, good_begun, none_infos, none_acks, ahead_holds}
use Rattle.link_laws.proofs.TaleLemmas.{Sending, Current, Tale, told_of, told_moves, current_moves}
use Rattle.link_laws.proofs.LaneLemmas.{Receives, Lane, Lanes, hands, Joint, receives_same, sending_same}

none_more : (g : ℕ) (ts us : List Token) → acks_of g us ≡ [] → acks_of g (ts ++ us) ≡ acks_of g ts
none_more g ts us e = acks_of_append g ts us ∙ ap (λ x. acks_of g ts ++ x) e ∙ append-nil (acks_of g ts)

none_sent : (g : ℕ) (ts us : List Token) → infos g us ≡ [] → infos g (ts ++ us) ≡ infos g ts
none_sent g ts us e = infos_append g ts us ∙ ap (λ x. infos g ts ++ x) e ∙ append-nil (infos g ts)

-- ---- SABME or UA leaves the wire

pub pass_call : (l m : DataLink) (a b : Side) (n : ℕ) (ts bs : List Token) (d e : Direction) (es fs : List (List (List ℕ))) (arrived returned : List (List ℕ)) → Lanes l m a b ts (Calls n ∷ bs) d e es fs arrived returned → Lanes l m a b ts bs d e es fs arrived returned
pass_call l m a b n ts bs d e es fs arrived returned h = record {
  one = record { holds = h.one.holds; next = h.one.next; underway = h.one.underway; replies = h.one.replies; good = h.one.good; short = h.one.short; sending = h.one.sending; receives = h.one.receives };
  two = record { holds = h.two.holds; next = h.two.next; underway = h.two.underway; replies = h.two.replies; good = h.two.good.1; short = h.two.short; sending = h.two.sending; receives = h.two.receives };
  first = h.first;
  second = h.second;
  rests = h.rests;
}

pub pass_answer : (l m : DataLink) (a b : Side) (n : ℕ) (ts bs : List Token) (d e : Direction) (es fs : List (List (List ℕ))) (arrived returned : List (List ℕ)) → Lanes l m a b ts (Answers n ∷ bs) d e es fs arrived returned → Lanes l m a b ts bs d e es fs arrived returned
pass_answer l m a b n ts bs d e es fs arrived returned h = record {
  one = record { holds = h.one.holds; next = h.one.next; underway = h.one.underway; replies = h.one.replies; good = h.one.good; short = h.one.short; sending = h.one.sending; receives = h.one.receives };
  two = record { holds = h.two.holds; next = h.two.next; underway = h.two.underway; replies = h.two.replies; good = h.two.good.1; short = h.two.short; sending = h.two.sending; receives = h.two.receives };
  first = h.first;
  second = h.second;
  rests = h.rests;
}

-- ---- an I or S frame is passed over

record Unheard (d e : Direction) (replies : List ℕ) : Type 0 where
  pub holds : Holds e
  pub told : e.replies ≡ replies
  pub submitted : e.submitted ≡ d.submitted
  pub delivered : e.delivered ≡ d.delivered
  pub underway : e.underway ≡ d.underway
  pub acknowledged : e.acknowledged ≡ d.acknowledged
  pub sent : e.sent ≡ d.sent
  pub reached : e.reached ≡ d.reached

plus_none : (n : ℕ) → n + 0 ≡ n
plus_none n = omega arith

less_none : (n : ℕ) → n - 0 ≡ n
less_none n = omega arith

ack_number : Item → ℕ
ack_number (Info c a m) = a
ack_number (Sup cmd kind pf a) = a

acks_one : (i : Item) → acks (i ∷ []) ≡ ack_number i ∷ []
unfolding ack_number
acks_one (Info c a m) = refl
acks_one (Sup cmd kind pf a) = refl

unheard : (d : Direction) (g h k : ℕ) (i : Item) (bs : List Token) → Holds d → d.replies ≡ acks_of g (Data h k i ∷ bs) → (e : Direction) × Unheard d e (acks_of g bs)
unheard d g h k i bs holds at = cases (k == g) refl
  where
    cases : (b : Bool) → (k == g) ≡ b → (e : Direction) × Unheard d e (acks_of g bs)
    cases true same = (
      moved d 0 (acks_of g bs),
      record {
        holds = Holds-moved_missed d (ack_number i) (acks_of g bs) (at ∙ ap (λ x. x ++ acks_of g bs) (ack_same h k g i (eqb-true k g same) ∙ acks_one i)) holds;
        told = refl;
        submitted = refl;
        delivered = refl;
        underway = refl;
        acknowledged = plus_none d.acknowledged;
        sent = less_none d.sent;
        reached = refl;
      },
    )
    cases false other = (
      d,
      record {
        holds = holds;
        told = at ∙ ap (λ x. x ++ acks_of g bs) (ack_other h k g i (eqb-false k g other));
        submitted = refl;
        delivered = refl;
        underway = refl;
        acknowledged = refl;
        sent = refl;
        reached = refl;
      },
    )

record Unseen (d e : Direction) (underway : List ℕ) : Type 0 where
  pub holds : Holds e
  pub rest : e.underway ≡ underway
  pub submitted : e.submitted ≡ d.submitted
  pub delivered : e.delivered ≡ d.delivered
  pub replies : e.replies ≡ d.replies
  pub acknowledged : e.acknowledged ≡ d.acknowledged
  pub sent : e.sent ≡ d.sent
  pub reached : e.reached ≡ d.reached

unseen_kept : (d : Direction) (u : List ℕ) → Holds d → d.underway ≡ u → (e : Direction) × Unseen d e u
unseen_kept d u holds at = (d, record { holds = holds; rest = at; submitted = refl; delivered = refl; replies = refl; acknowledged = refl; sent = refl; reached = refl })

unseen : (d : Direction) (g h k : ℕ) (i : Item) (bs : List Token) → Holds d → d.underway ≡ infos g (Data h k i ∷ bs) → (e : Direction) × Unseen d e (infos g bs)
unseen d g h k i bs holds at = cases (h == g) refl
  where
    seen : (i : Item) → d.underway ≡ counts (i ∷ []) ++ infos g bs → (e : Direction) × Unseen d e (infos g bs)
    seen (Info c a m) f = (drops d (infos g bs), record { holds = dropped_one d c (infos g bs) f holds; rest = refl; submitted = refl; delivered = refl; replies = refl; acknowledged = refl; sent = refl; reached = refl })
    seen (Sup cmd kind pf a) f = unseen_kept d (infos g bs) holds f

    cases : (b : Bool) → (h == g) ≡ b → (e : Direction) × Unseen d e (infos g bs)
    cases true same = seen i (at ∙ ap (λ x. x ++ infos g bs) (count_same h g k i (eqb-true h g same)))
    cases false other = unseen_kept d (infos g bs) holds (at ∙ ap (λ x. x ++ infos g bs) (count_other g h k i (eqb-false h g other)))

next_unheard : (g h k : ℕ) (i : Item) (bs : List Token) → Acknowledgements 0 0 (acks_of g (Data h k i ∷ bs)) → Acknowledgements 0 0 (acks_of g bs)
next_unheard g h k i bs n = cases (k == g) refl
  where
    cases : (b : Bool) → (k == g) ≡ b → Acknowledgements 0 0 (acks_of g bs)
    cases true same =
        let e : Acknowledgements 0 0 (ack_number i ∷ acks_of g bs) = subst (λ x. Acknowledgements 0 0 (x ++ acks_of g bs)) (ack_same h k g i (eqb-true k g same) ∙ acks_one i) n in e.3
    cases false other = subst (λ x. Acknowledgements 0 0 (x ++ acks_of g bs)) (ack_other h k g i (eqb-false k g other)) n

tale_same : (l : DataLink) (d e : Direction) (es : List (List (List ℕ))) (taken : List (List ℕ)) → e.submitted ≡ d.submitted → e.delivered ≡ d.delivered → Tale l d es taken → Tale l e es taken
tale_same l d e es taken a b h = record {
  told = told_moves d e es taken taken [] a (b ∙ sym (append-nil d.delivered)) (sym (append-nil taken)) h.told;
  current = λ now. current_moves d e es taken taken [] a (b ∙ sym (append-nil d.delivered)) (sym (append-nil taken)) (h.current now);
  owed = h.owed;
}

pass_data : (l m : DataLink) (a b : Side) (n q : ℕ) (i : Item) (ts bs : List Token) (d e : Direction) (es fs : List (List (List ℕ))) (arrived returned : List (List ℕ)) → Lanes l m a b ts (Data n q i ∷ bs) d e es fs arrived returned → (d' : Direction) × (e' : Direction) × Lanes l m a b ts bs d' e' es fs arrived returned × (Full d → Full d')
pass_data l m a b n q i ts bs d e es fs arrived returned h =
    let x = unheard d (mine a) n q i bs h.one.holds h.one.replies in
    let y = unseen e (mine b) n q i bs h.two.holds h.two.underway in
    let k = x.1 in let j = y.1 in (
      x.0,
      y.0,
      record {
        one = record {
          holds = k.holds;
          next = next_unheard (mine a + 1) n q i bs h.one.next;
          underway = k.underway ∙ h.one.underway;
          replies = k.told;
          good = good_same (mine a) (mine b) d x.0 ts k.submitted (inl k.delivered) h.one.good;
          short = subst (All IsShort) (sym k.submitted) h.one.short;
          sending = λ up. sending_same l d x.0 k.submitted k.acknowledged k.sent k.reached (h.one.sending up);
          receives = receives_same m b (mine a) d x.0 k.delivered h.one.receives;
        };
        two = record {
          holds = j.holds;
          next = h.two.next;
          underway = j.rest;
          replies = j.replies ∙ h.two.replies;
          good = good_same (mine b) (mine a) e y.0 bs j.submitted (inl j.delivered) h.two.good.1;
          short = subst (All IsShort) (sym j.submitted) h.two.short;
          sending = λ up. sending_same m e y.0 j.submitted j.acknowledged j.sent j.reached (h.two.sending up);
          receives = receives_same l a (mine b) e y.0 j.delivered h.two.receives;
        };
        first = tale_same l d x.0 es arrived k.submitted k.delivered h.first;
        second = tale_same m e y.0 fs returned j.submitted j.delivered h.second;
        rests = λ up. full_same e y.0 j.acknowledged j.sent j.reached (h.rests up);
      },
      λ f. full_same d x.0 k.acknowledged k.sent k.reached f,
    )

pass_any : (l m : DataLink) (a b : Side) (t : Token) (ts bs : List Token) (d e : Direction) (es fs : List (List (List ℕ))) (arrived returned : List (List ℕ)) → Lanes l m a b ts (t ∷ bs) d e es fs arrived returned → (d' : Direction) × (e' : Direction) × Lanes l m a b ts bs d' e' es fs arrived returned × (Full d → Full d')
pass_any l m a b (Calls n) ts bs d e es fs arrived returned h = (d, e, pass_call l m a b n ts bs d e es fs arrived returned h, λ f. f)
pass_any l m a b (Answers n) ts bs d e es fs arrived returned h = (d, e, pass_answer l m a b n ts bs d e es fs arrived returned h, λ f. f)
pass_any l m a b (Data n q i) ts bs d e es fs arrived returned h = pass_data l m a b n q i ts bs d e es fs arrived returned h

-- the oldest frame is lost, or passed over
pub drops_goes : (p : Pair) (s : Step) (rest rest' sub ret : List (List ℕ)) (es fs : List (List (List ℕ))) (a b : Side) (t : Token) (ts bs : List Token) (d e : Direction) → rest' ≡ octets bs → Joint (stepped p s rest sub ret) es fs a b ts (t ∷ bs) d e → (d' : Direction) × (e' : Direction) × Joint (stepped p s rest' sub ret) es fs a b ts bs d' e' × (Full d → Full d')
drops_goes p s rest rest' sub ret es fs a b t ts bs d e back h =
    let k = pass_any s.link p.second a b t ts bs d e es fs p.arrived ret h.lanes in (
      k.0,
      k.1,
      record {
        hand = next_keeps (hands a b ts (t ∷ bs)) (HandSecond HandLose) h.hand;
        first = h.first;
        second = h.second;
        there = h.there;
        back = back;
        lanes = k.2;
      },
      k.3,
    )

-- ---- the link calls, gives up, or answers: its numbering stays

pub quiet_lanes : (l l' m : DataLink) (a a' b : Side) (ts us bs : List Token) (d e : Direction) (es es' fs : List (List (List ℕ))) (arrived returned : List (List ℕ)) → mine a' ≡ mine a → Receives l' a' (mine b) e → infos (mine a) us ≡ [] → ((n : ℕ) → acks_of n us ≡ []) → AllGood (mine a) (mine b) d us → (is_up l' ≡ true → Sending l' d) → Tale l' d es' arrived → Lanes l m a b ts bs d e es fs arrived returned → Lanes l' m a' b (ts ++ us) bs d e es' fs arrived returned
quiet_lanes l l' m a a' b ts us bs d e es es' fs arrived returned same deaf none quiet good sending tale h = record {
  one = subst (λ g. Lane l' m g (mine b) b (ts ++ us) bs d) (sym same) (record {
    holds = h.one.holds;
    next = h.one.next;
    underway = h.one.underway ∙ sym (none_sent (mine a) ts us none);
    replies = h.one.replies;
    good = good_append (mine a) (mine b) d ts us h.one.good good;
    short = h.one.short;
    sending = sending;
    receives = h.one.receives;
  });
  two = subst (λ g. Lane m l' (mine b) g a' bs (ts ++ us) e) (sym same) (record {
    holds = h.two.holds;
    next = subst (λ x. Acknowledgements 0 0 x) (sym (none_more (mine b + 1) ts us (quiet (mine b + 1)))) h.two.next;
    underway = h.two.underway;
    replies = h.two.replies ∙ sym (none_more (mine b) ts us (quiet (mine b)));
    good = h.two.good;
    short = h.two.short;
    sending = h.two.sending;
    receives = deaf;
  });
  first = tale;
  second = h.second;
  rests = h.rests;
}

-- ---- a numbering begins

pub begins_lanes : (l l' m : DataLink) (a b : Side) (u : ℕ) (ts us bs : List Token) (d e : Direction) (es es' fs : List (List (List ℕ))) (arrived returned : List (List ℕ)) → Receives m b (mine a + 1) (ahead l'.queue.waiting (acks_of (mine a + 1) bs)) → (u ≡ mine b → e.delivered ≡ []) → infos (mine a + 1) us ≡ [] → ((n : ℕ) → acks_of n us ≡ []) → AllGood (mine a + 1) (mine b) (ahead l'.queue.waiting (acks_of (mine a + 1) bs)) us
    → l'.received ≡ 0 → l'.queue.sent ≡ 0 → l'.queue.acknowledged ≡ 0 → l'.owed ≡ false → All IsShort l'.queue.waiting → Current (ahead l'.queue.waiting (acks_of (mine a + 1) bs)) es' arrived
    → Lanes l m a b ts bs d e es fs arrived returned → Lanes l' m (On (mine a + 1) u) b (ts ++ us) bs (ahead l'.queue.waiting (acks_of (mine a + 1) bs)) e es' fs arrived returned
begins_lanes l l' m a b u ts us bs d e es es' fs arrived returned receives clean none quiet good zero_received zero_sent zero_acknowledged owed short current h = record {
  one = record {
    holds = ahead_holds l'.queue.waiting (acks_of (mine a + 1) bs) h.one.next;
    next = subst (λ x. Acknowledgements 0 0 x) (sym (none_acks (mine b) (mine a) e bs h.two.good)) tt;
    underway = sym (none_sent (mine a + 1) ts us none ∙ none_infos (mine a) (mine b) d ts h.one.good);
    replies = refl;
    good = good_append (mine a + 1) (mine b) (ahead l'.queue.waiting (acks_of (mine a + 1) bs)) ts us (good_begun (mine a) (mine b) d l'.queue.waiting (acks_of (mine a + 1) bs) ts h.one.good) good;
    short = short;
    sending = λ up. record { number = zero_acknowledged; sent = zero_sent; waiting = refl; sure = λ x. omega arith };
    receives = receives;
  };
  two = record {
    holds = h.two.holds;
    next = subst (λ x. Acknowledgements 0 0 x) (sym (none_more (mine b + 1) ts us (quiet (mine b + 1)))) h.two.next;
    underway = h.two.underway;
    replies = h.two.replies ∙ sym (none_more (mine b) ts us (quiet (mine b)));
    good = good_beside (mine b) (mine a) e bs h.two.good;
    short = h.two.short;
    sending = h.two.sending;
    receives = (λ same. zero_received ∙ sym (ap (λ x. length x % 128) (clean same)), λ after. zero_received);
  };
  first = record { told = told_of _ es' arrived current; current = λ up. current; owed = λ up. owed };
  second = h.second;
  rests = h.rests;
}
