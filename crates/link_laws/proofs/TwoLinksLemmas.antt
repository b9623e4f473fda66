-- Each step of one of two links is a sequence of events of the windows of both directions.
use Rattle.std.proofs.Common.{◌≡◌, ◌⊎◌, ℕ, zero, suc, ◌+◌, ◌-◌, ◌%◌, ◌<◌, ◌≤◌, Bool, true, false, List, [], ◌∷◌, ◌++◌, length, take, drop, refl, sym, ap, ◌∙◌, subst, inl, inr, arith, if◌then◌else◌, append_assoc, append-nil, length-drop, ◌&&◌, Some, get_or-drop, drop-drop}
use Rattle.std.specs.Prelude.{◌==◌, nat_lt, nat_le, slice_index_or, not, All}
use Rattle.std.proofs.lemmas.Bool.{leb-true, leb-false, le-leb, ltb-true, lt-ltb, or_left, and_from, and_left, and_right, false_from_ne_true}
use Rattle.std.proofs.lemmas.List.Elements.{All-push}
use Rattle.link_frames.specs.declared.frame.Sender.TheVariants.{Network}
use Rattle.link_frames.specs.declared.frame.Supervisory.{Supervisory}
use Rattle.link_frames.specs.declared.frame.Supervisory.TheVariants.{Rr, Rnr, Rej}
use Rattle.link_frames.specs.declared.frame.Control.TheVariants as control
use Rattle.link_frames.specs.declared.frame.Frame.{Frame}
use Rattle.link_frames.specs.Reading.{reading}
use Rattle.link_frames.specs.Writing.{encoding}
use Rattle.link_frames.proofs.Readings.{reading_of_encoding}
use Rattle.link_procedures.specs.declared.state.State.{State}
use Rattle.link_procedures.specs.declared.state.State.TheVariants as state
use Rattle.link_procedures.specs.declared.state.LinkTimers.{LinkTimers}
use Rattle.link_procedures.specs.Links.{SendQueue, DataLink, Step, step, next_number, distance, is_valid, acknowledged, returned, may_send, is_multiple_frame, is_established, is_recovering, is_awaiting, is_up}
use Rattle.link_procedures.specs.Sending.{command, sends, acknowledges, enquires, rejects, one_more_sent, is_free, after_frame, next_frame, sends_next, sends_waiting, flushes, acknowledges_pending, finished}
use Rattle.link_procedures.specs.Establishment.{Outcome, establishes, overflows, queued, submitted}
use Rattle.link_procedures.specs.Receiving.{retimed, acknowledge, has_moved, supervised_by, recovered, recovering_by, is_not_ready, busy_by, on_valid, answers_enquiry, on_supervisory, in_sequence, acknowledges_later, out_of_sequence, by_number, by_acknowledgement, taken, on_information, on_control, received}
use Rattle.link_procedures.specs.Timing.{is_due, enquires_at, on_expiry, first_retries, turned}
use Rattle.link_procedures.specs.AnyPeer.{IsShort, IsRenumbered}
use Rattle.link_laws.specs.Window.{Direction, Submit as WindowSubmit, GoBack, Answer, with_next, takes as window_takes, drops, beyond, moved, happens}
use Rattle.link_laws.proofs.WindowLemmas.{Acknowledgements, told_exactly, Holds, Holds-happens, sends_one, both_true, length-append_one, Holds-moved_heard, Holds-moved_missed, Holds-taken_one, dropped_one, fresh, fresh_holds}
use Rattle.link_laws.specs.TwoLinks.{Pair, mirror, Act, Submit, Turn, Arrive, Lose, Event, First, Second, stepped, as_step, message_of, submits, turns, takes, arrives, loses, acts, next, is_running, run, IsFresh, IsDelivered, IsDeliveredBothWays, WaitsBothWays}

pub by_test : {A : Type 0} (P : A → Type 0) (b : Bool) (x y : A) → (b ≡ true → P x) → (b ≡ false → P y) → P (if b then x else y)
by_test P true x y f g = f refl
by_test P false x y f g = g refl

pub clash : {A : Type 0} (b : Bool) → b ≡ true → b ≡ false → A
clash true e f = absurd (cc)
clash false e f = absurd (cc)

-- ---- the frames on a wire

-- an I frame, with the number of messages before it, the number that its N(R) acknowledges, and its message; or an S frame, with the number that its N(R) acknowledges
pub data Item : Type 0 where
  Info : ℕ → ℕ → List ℕ → Item
  Sup : Bool → Supervisory → Bool → ℕ → Item

abbrev pub supervisory : Bool → Supervisory → Bool → ℕ → Frame
supervisory cmd kind pf nr = record { command = cmd; control = control.Supervisory kind pf nr }

abbrev pub frame : Item → Frame
frame (Info c a m) = command (control.Information false (c % 128) (a % 128) m)
frame (Sup cmd kind pf a) = supervisory cmd kind pf (a % 128)

abbrev pub wire : List Item → List (List ℕ)
wire [] = []
wire (i ∷ is) = encoding Network (frame i) ∷ wire is

abbrev pub counts : List Item → List ℕ
counts [] = []
counts (Info c a m ∷ is) = c ∷ counts is
counts (Sup cmd kind pf a ∷ is) = counts is

abbrev pub acks : List Item → List ℕ
acks [] = []
acks (Info c a m ∷ is) = a ∷ acks is
acks (Sup cmd kind pf a ∷ is) = a ∷ acks is

-- each message is the submitted one of its number, and RNR is not sent
abbrev pub Genuine : List (List ℕ) → List Item → Type 0
Genuine sub [] = Unit {0}
Genuine sub (Info c a m ∷ is) = (c < length sub) × (m ≡ slice_index_or sub c []) × Genuine sub is
Genuine sub (Sup cmd kind pf a ∷ is) = (is_not_ready kind ≡ false) × Genuine sub is

wire_append : (is js : List Item) → wire (is ++ js) ≡ wire is ++ wire js
wire_append [] js = refl
wire_append (i ∷ is) js = ap (λ ws. encoding Network (frame i) ∷ ws) (wire_append is js)

pub counts_append : (is js : List Item) → counts (is ++ js) ≡ counts is ++ counts js
counts_append [] js = refl
counts_append (Info c a m ∷ is) js = ap (λ cs. c ∷ cs) (counts_append is js)
counts_append (Sup cmd kind pf a ∷ is) js = counts_append is js

pub acks_append : (is js : List Item) → acks (is ++ js) ≡ acks is ++ acks js
acks_append [] js = refl
acks_append (Info c a m ∷ is) js = ap (λ cs. a ∷ cs) (acks_append is js)
acks_append (Sup cmd kind pf a ∷ is) js = ap (λ cs. a ∷ cs) (acks_append is js)

genuine_append : (sub : List (List ℕ)) (is js : List Item) → Genuine sub is → Genuine sub js → Genuine sub (is ++ js)
genuine_append sub [] js h k = k
genuine_append sub (Info c a m ∷ is) js h k = (h.0, h.1, genuine_append sub is js h.2 k)
genuine_append sub (Sup cmd kind pf a ∷ is) js h k = (h.0, genuine_append sub is js h.1 k)

index_longer : (sub xs : List (List ℕ)) (c : ℕ) → c < length sub → slice_index_or sub c [] ≡ slice_index_or (sub ++ xs) c []
index_longer [] xs c lt = absurd (omega (arith, lt))
index_longer (x ∷ sub) xs zero lt = refl
index_longer (x ∷ sub) xs (suc c) lt = index_longer sub xs c (omega (arith, lt))

pub genuine_longer : (sub : List (List ℕ)) (m : List ℕ) (is : List Item) → Genuine sub is → Genuine (sub ++ m ∷ []) is
genuine_longer sub m [] h = tt
genuine_longer sub m (Info c a x ∷ is) h = let long = length-append_one sub m in let lt = h.0 in (omega (arith, long, lt), h.1 ∙ index_longer sub (m ∷ []) c lt, genuine_longer sub m is h.2)
genuine_longer sub m (Sup cmd kind pf a ∷ is) h = (h.0, genuine_longer sub m is h.1)

rr_is_ready : is_not_ready Rr ≡ false
unfolding is_not_ready
rr_is_ready = refl

rej_is_ready : is_not_ready Rej ≡ false
unfolding is_not_ready
rej_is_ready = refl

-- ---- one link between the windows of what it sends, w, and of what it takes, v

-- all that was ever sent is acknowledged or before V(S)
abbrev pub Full : Direction → Type 0
Full w = w.reached ≤ w.acknowledged + w.sent

-- the link may send I frames
abbrev pub ready : DataLink → Bool
ready l = is_established l.state && not l.busy

pub ready_same : (l m : DataLink) → m.state ≡ l.state → m.busy ≡ l.busy → ready m ≡ ready l
ready_same l m a b = rw (a, b) refl

ready_now : (l : DataLink) → is_established l.state ≡ true → l.busy ≡ false → ready l ≡ true
ready_now l a b = rw (a, b) refl

pub record Local (l : DataLink) (w v : Direction) : Type 0 where
  pub number : l.queue.acknowledged ≡ w.acknowledged % 128
  pub sent : l.queue.sent ≡ w.sent
  pub waiting : l.queue.waiting ≡ drop w.acknowledged w.submitted
  pub next : l.received ≡ length v.delivered % 128
  pub sure : ready l ≡ false → Full w
  pub one : Holds w
  pub other : Holds v

-- a part of a step: the windows after it, and the frames sent; then u is on the wire to the link, r acknowledges its messages, and d is delivered
pub record Sim (s t : Step) (w v : Direction) (u r : List ℕ) (d : List (List ℕ)) : Type 0 where
  pub mine : Direction
  pub theirs : Direction
  pub items : List Item
  pub local : Local t.link mine theirs
  pub out : t.out ≡ s.out ++ wire items
  pub underway : mine.underway ≡ w.underway ++ counts items
  pub replies : theirs.replies ≡ v.replies ++ acks items
  pub genuine : Genuine w.submitted items
  pub submitted : mine.submitted ≡ w.submitted
  pub delivered : mine.delivered ≡ w.delivered
  pub replied : theirs.submitted ≡ v.submitted
  pub their_number : theirs.acknowledged ≡ v.acknowledged
  pub their_sent : theirs.sent ≡ v.sent
  pub their_reached : theirs.reached ≡ v.reached
  pub rest : theirs.underway ≡ u
  pub told : mine.replies ≡ r
  pub got : theirs.delivered ≡ d

-- nothing arrives in this part
abbrev pub Plain : Step → Step → Direction → Direction → Type 0
Plain s t w v = Sim s t w v v.underway w.replies v.delivered

sim_as : (s t : Step) (w v : Direction) (u r u' r' : List ℕ) (d d' : List (List ℕ)) → u ≡ u' → r ≡ r' → d ≡ d' → Sim s t w v u r d → Sim s t w v u' r' d'
sim_as s t w v u r u' r' d d' p q e h = record {
  mine = h.mine;
  theirs = h.theirs;
  items = h.items;
  local = h.local;
  out = h.out;
  underway = h.underway;
  replies = h.replies;
  genuine = h.genuine;
  submitted = h.submitted;
  delivered = h.delivered;
  replied = h.replied;
  their_number = h.their_number;
  their_sent = h.their_sent;
  their_reached = h.their_reached;
  rest = h.rest ∙ p;
  told = h.told ∙ q;
  got = h.got ∙ e;
}

pub sim_both : (s t x : Step) (w v : Direction) (u r u' r' : List ℕ) (d d' : List (List ℕ)) (h : Sim s t w v u r d) → Sim t x h.mine h.theirs u' r' d' → Sim s x w v u' r' d'
sim_both s t x w v u r u' r' d d' h k = record {
  mine = k.mine;
  theirs = k.theirs;
  items = h.items ++ k.items;
  local = k.local;
  out = k.out ∙ ap (λ o. o ++ wire k.items) h.out ∙ append_assoc s.out (wire h.items) (wire k.items) ∙ ap (λ o. s.out ++ o) (sym (wire_append h.items k.items));
  underway = k.underway ∙ ap (λ o. o ++ counts k.items) h.underway ∙ append_assoc w.underway (counts h.items) (counts k.items) ∙ ap (λ o. w.underway ++ o) (sym (counts_append h.items k.items));
  replies = k.replies ∙ ap (λ o. o ++ acks k.items) h.replies ∙ append_assoc v.replies (acks h.items) (acks k.items) ∙ ap (λ o. v.replies ++ o) (sym (acks_append h.items k.items));
  genuine = genuine_append w.submitted h.items k.items h.genuine (subst (λ sub. Genuine sub k.items) h.submitted k.genuine);
  submitted = k.submitted ∙ h.submitted;
  delivered = k.delivered ∙ h.delivered;
  replied = k.replied ∙ h.replied;
  their_number = k.their_number ∙ h.their_number;
  their_sent = k.their_sent ∙ h.their_sent;
  their_reached = k.their_reached ∙ h.their_reached;
  rest = k.rest;
  told = k.told;
  got = k.got;
}

-- a part after which nothing else arrives
pub sim_then : (s t x : Step) (w v : Direction) (u r : List ℕ) (d : List (List ℕ)) (h : Sim s t w v u r d) → Plain t x h.mine h.theirs → Sim s x w v u r d
sim_then s t x w v u r d h k = sim_as s x w v _ _ u r _ d h.rest h.told h.got (sim_both s t x w v u r _ _ d _ h k)

-- the windows are others, and nothing is sent
changed : (s : Step) (l : DataLink) (w v mine theirs : Direction) (u r : List ℕ) (d : List (List ℕ)) → Local l mine theirs → mine.underway ≡ w.underway → theirs.replies ≡ v.replies → mine.submitted ≡ w.submitted → mine.delivered ≡ w.delivered → theirs.submitted ≡ v.submitted → theirs.acknowledged ≡ v.acknowledged → theirs.sent ≡ v.sent → theirs.reached ≡ v.reached → theirs.underway ≡ u → mine.replies ≡ r → theirs.delivered ≡ d → Sim s (step l s.out) w v u r d
changed s l w v mine theirs u r d local a b c e f n o q g h i = record {
  mine = mine;
  theirs = theirs;
  items = [];
  local = local;
  out = sym (append-nil s.out);
  underway = a ∙ sym (append-nil w.underway);
  replies = b ∙ sym (append-nil v.replies);
  genuine = tt;
  submitted = c;
  delivered = e;
  replied = f;
  their_number = n;
  their_sent = o;
  their_reached = q;
  rest = g;
  told = h;
  got = i;
}

alike : (l m : DataLink) (w v : Direction) → m.queue ≡ l.queue → m.received ≡ l.received → (ready m ≡ false → Full w) → Local l w v → Local m w v
alike l m w v queue next sure h = record {
  number = ap (λ q. q.acknowledged) queue ∙ h.number;
  sent = ap (λ q. q.sent) queue ∙ h.sent;
  waiting = ap (λ q. q.waiting) queue ∙ h.waiting;
  next = next ∙ h.next;
  sure = sure;
  one = h.one;
  other = h.other;
}

pub plain_alike : (s : Step) (m : DataLink) (w v : Direction) → m.queue ≡ s.link.queue → m.received ≡ s.link.received → (ready m ≡ false → Full w) → Local s.link w v → Plain s (step m s.out) w v
plain_alike s m w v queue next sure h = changed s m w v w v v.underway w.replies v.delivered (alike s.link m w v queue next sure h) refl refl refl refl refl refl refl refl refl refl refl

pub plain_none : (s : Step) (w v : Direction) → Local s.link w v → Plain s s w v
plain_none s w v h = plain_alike s s.link w v refl refl h.sure h

-- an S frame is sent
answered_window : (v : Direction) → Holds v → Holds (happens v Answer)
answered_window v h = Holds-happens v Answer h

answered_local : (l : DataLink) (w v : Direction) → Local l w v → Local l w (happens v Answer)
answered_local l w v h = record { number = h.number; sent = h.sent; waiting = h.waiting; next = h.next; sure = h.sure; one = h.one; other = answered_window v h.other }

plain_supervisory : (cmd : Bool) (kind : Supervisory) (pf : Bool) (s : Step) (m : DataLink) (w v : Direction) → is_not_ready kind ≡ false → m.queue ≡ s.link.queue → m.received ≡ s.link.received → (ready m ≡ false → Full w) → Local s.link w v → Plain s (step m (s.out ++ encoding Network (supervisory cmd kind pf s.link.received) ∷ [])) w v
plain_supervisory cmd kind pf s m w v prompt queue next sure h = record {
  mine = w;
  theirs = happens v Answer;
  items = Sup cmd kind pf (length v.delivered) ∷ [];
  local = alike s.link m w (happens v Answer) queue next sure (answered_local s.link w v h);
  out = ap (λ nr. s.out ++ encoding Network (supervisory cmd kind pf nr) ∷ []) h.next;
  underway = sym (append-nil w.underway);
  replies = refl;
  genuine = (prompt, tt);
  submitted = refl;
  delivered = refl;
  replied = refl;
  their_number = refl;
  their_sent = refl;
  their_reached = refl;
  rest = refl;
  told = refl;
  got = refl;
}

acknowledges_plain : (final : Bool) (s : Step) (w v : Direction) → Local s.link w v → Plain s (acknowledges final s) w v
unfolding acknowledges
acknowledges_plain final s w v h = plain_supervisory false Rr final s _ w v rr_is_ready refl refl h.sure h

enquires_plain : (s : Step) (w v : Direction) → Local s.link w v → Plain s (enquires s) w v
unfolding enquires
enquires_plain s w v h = plain_supervisory true Rr true s _ w v rr_is_ready refl refl h.sure h

rejects_plain : (final : Bool) (s : Step) (w v : Direction) → Local s.link w v → Plain s (rejects final s) w v
unfolding rejects
rejects_plain final s w v h = plain_supervisory false Rej final s _ w v rej_is_ready refl refl h.sure h

enquiry_plain : (b : Bool) (s : Step) (w v : Direction) → Local s.link w v → Plain s (answers_enquiry b s) w v
unfolding answers_enquiry
enquiry_plain true s w v h = acknowledges_plain true s w v h
enquiry_plain false s w v h = plain_none s w v h

-- ---- I frames are sent

info_same : (ns ns' nr nr' : ℕ) (m m' : List ℕ) → ns ≡ ns' → nr ≡ nr' → m ≡ m' → encoding Network (command (control.Information false ns nr m)) ≡ encoding Network (command (control.Information false ns' nr' m'))
info_same ns ns' nr nr' m m' a b c = rw (a, b, c) refl

next_number_is : (q : SendQueue) (a n : ℕ) → q.acknowledged ≡ a % 128 → q.sent ≡ n → next_number q ≡ (a + n) % 128
unfolding next_number
next_number_is q a n number sent = omega (arith, number, sent)

may_send_is : (q : SendQueue) → may_send q ≡ true → (q.sent < 7) × (q.sent < length q.waiting)
unfolding may_send
may_send_is q e = let b = both_true (nat_lt q.sent 7) (nat_lt q.sent (length q.waiting)) e in (ltb-true q.sent 7 b.0, ltb-true q.sent (length q.waiting) b.1)

free_is : (l : DataLink) → is_free l ≡ true → may_send l.queue ≡ true
unfolding is_free
free_is l e = (both_true (is_established l.state && not l.busy) (may_send l.queue) e).1

free_ready : (l : DataLink) → is_free l ≡ true → ready l ≡ true
unfolding is_free
free_ready l e = (both_true (is_established l.state && not l.busy) (may_send l.queue) e).0

one_more_local : (l m : DataLink) (w v : Direction) → m.queue ≡ one_more_sent l.queue → m.received ≡ l.received → ready m ≡ true → w.sent < 7 → w.acknowledged + w.sent < length w.submitted → Local l w v → Local m (with_next w) (happens v Answer)
unfolding one_more_sent
one_more_local l m w v queue next free few waits h = record {
  number = ap (λ q. q.acknowledged) queue ∙ h.number;
  sent = ap (λ q. q.sent) queue ∙ ap (λ n. n + 1) h.sent;
  waiting = ap (λ q. q.waiting) queue ∙ h.waiting;
  next = next ∙ h.next;
  sure = λ e. clash (ready m) free e;
  one = sends_one w h.one few waits;
  other = answered_window v h.other;
}

next_plain : (at : ℕ) (s : Step) (w v : Direction) → Local s.link w v → Plain s (sends_next at s) w v
unfolding sends_next
next_plain at s w v h = by_test (λ t. Plain s t w v) (is_free s.link) _ _ (λ e. sent (free_ready s.link e) (may_send_is s.link.queue (free_is s.link e))) (λ e. plain_none s w v h)
  where
    inside : s.link.queue.sent < length s.link.queue.waiting → w.acknowledged + w.sent < length w.submitted
    inside lt =
        let long : length s.link.queue.waiting ≡ length w.submitted - w.acknowledged = ap length h.waiting ∙ length-drop w.acknowledged w.submitted in
        let same = h.sent in omega (arith, lt, long, same)

    sent : ready s.link ≡ true → (s.link.queue.sent < 7) × (s.link.queue.sent < length s.link.queue.waiting) → Plain s (step (after_frame at s.link) (sends (next_frame s.link) s).out) w v
    sent free e = let few = e.0 in let same = h.sent in record {
      mine = with_next w;
      theirs = happens v Answer;
      items = Info (w.acknowledged + w.sent) (length v.delivered) (slice_index_or w.submitted (w.acknowledged + w.sent) []) ∷ [];
      local = one_more_local s.link (after_frame at s.link) w v refl refl free (omega (arith, few, same)) (inside e.1) h;
      out = ap (λ o. s.out ++ o ∷ []) (info_same _ _ _ _ _ _ (next_number_is s.link.queue w.acknowledged w.sent h.number h.sent) h.next
          (ap (λ n. slice_index_or s.link.queue.waiting n []) h.sent ∙ ap (λ ws. slice_index_or ws w.sent []) h.waiting ∙ get_or-drop w.acknowledged w.submitted w.sent []));
      underway = refl;
      replies = refl;
      genuine = (inside e.1, refl, tt);
      submitted = refl;
      delivered = refl;
      replied = refl;
      their_number = refl;
      their_sent = refl;
      their_reached = refl;
      rest = refl;
      told = refl;
      got = refl;
    }

waiting_plain : (n at : ℕ) (s : Step) (w v : Direction) → Local s.link w v → Plain s (sends_waiting n at s) w v
waiting_plain zero at s w v h = plain_none s w v h
waiting_plain (suc n) at s w v h =
    let k = next_plain at s w v h in
    sim_then s (sends_next at s) (sends_waiting n at (sends_next at s)) w v _ _ _ k (waiting_plain n at (sends_next at s) k.mine k.theirs k.local)

pub flushes_plain : (at : ℕ) (s : Step) (w v : Direction) → Local s.link w v → Plain s (flushes at s) w v
unfolding flushes
flushes_plain at s w v h = waiting_plain 7 at s w v h

pending_plain : (s : Step) (w v : Direction) → Local s.link w v → Plain s (acknowledges_pending s) w v
unfolding acknowledges_pending
pending_plain s w v h = by_test (λ t. Plain s t w v) (s.link.pending && is_multiple_frame s.link.state) _ _ (λ e. acknowledges_plain false s w v h) (λ e. plain_alike s _ w v refl refl h.sure h)

pub finished_plain : (at : ℕ) (s : Step) (w v : Direction) → Local s.link w v → Plain s (finished at s) w v
unfolding finished
finished_plain at s w v h = let k = flushes_plain at s w v h in sim_then s (flushes at s) _ w v _ _ _ k (pending_plain (flushes at s) k.mine k.theirs k.local)

-- ---- N(R)

-- a part in which N(R) is taken
pub then_taken : (s t x : Step) (w v : Direction) (u q r : List ℕ) (d : List (List ℕ)) (h : Sim s t w v u q d) → Sim t x h.mine h.theirs h.theirs.underway r h.theirs.delivered → Sim s x w v u r d
then_taken s t x w v u q r d h k = sim_as s x w v _ r u r _ d h.rest refl h.got (sim_both s t x w v u q _ r d _ h k)

distance_is : (q : SendQueue) (a n : ℕ) → q.acknowledged ≡ n % 128 → distance q (a % 128) ≡ beyond n a
unfolding distance
distance_is q a n number = ap (λ k. (a % 128 + 128 - k) % 128) number

beyond_is : (n a : ℕ) → (n + beyond n a) % 128 ≡ a % 128
beyond_is n a = omega arith

valid_is : (l : DataLink) (w v : Direction) (a : ℕ) → Local l w v → is_valid l.queue (a % 128) ≡ true → nat_le (beyond w.acknowledged a) w.sent ≡ true
unfolding is_valid
valid_is l w v a h valid = sym (ap (λ d. nat_le d l.queue.sent) (distance_is l.queue a w.acknowledged h.number) ∙ ap (λ n. nat_le (beyond w.acknowledged a) n) h.sent) ∙ valid

moved_full : (w : Direction) (d : ℕ) (r : List ℕ) → d ≤ w.sent → Full w → Full (moved w d r)
moved_full w d r low full = omega (arith, low, full)

taken_local : (l m : DataLink) (w v : Direction) (a : ℕ) (r : List ℕ) → w.replies ≡ a ∷ r → is_valid l.queue (a % 128) ≡ true → m.queue ≡ acknowledged l.queue (a % 128) → m.received ≡ l.received → ready m ≡ ready l → Local l w v → Local m (moved w (beyond w.acknowledged a) r) v
unfolding acknowledged
taken_local l m w v a r at valid queue next same h =
    let d = distance_is l.queue a w.acknowledged h.number in record {
      number = ap (λ q. q.acknowledged) queue ∙ sym (beyond_is w.acknowledged a);
      sent = ap (λ q. q.sent) queue ∙ ap (λ n. l.queue.sent - n) d ∙ ap (λ n. n - beyond w.acknowledged a) h.sent;
      waiting = ap (λ q. q.waiting) queue ∙ ap (λ n. drop n l.queue.waiting) d ∙ ap (λ ms. drop (beyond w.acknowledged a) ms) h.waiting ∙ drop-drop (beyond w.acknowledged a) w.acknowledged w.submitted;
      next = next ∙ h.next;
      sure = λ e. moved_full w (beyond w.acknowledged a) r (leb-true (beyond w.acknowledged a) w.sent (valid_is l w v a h valid)) (h.sure (sym same ∙ e));
      one = Holds-moved_heard w a r at (valid_is l w v a h valid) h.one;
      other = h.other;
    }

back_local : (l m : DataLink) (w v : Direction) → m.queue ≡ returned l.queue → m.received ≡ l.received → ready m ≡ true → Local l w v → Local m (happens w GoBack) v
unfolding returned
back_local l m w v queue next free h = record {
  number = ap (λ q. q.acknowledged) queue ∙ h.number;
  sent = ap (λ q. q.sent) queue;
  waiting = ap (λ q. q.waiting) queue ∙ h.waiting;
  next = next ∙ h.next;
  sure = λ e. clash (ready m) free e;
  one = Holds-happens w GoBack h.one;
  other = h.other;
}

-- a link after N(R), of which r acknowledges the next
abbrev Taken : Step → Direction → Direction → List ℕ → DataLink → Type 0
Taken s w v r m = Sim s (step m s.out) w v v.underway r v.delivered

taken_sim : (s : Step) (m : DataLink) (w v : Direction) (a : ℕ) (r : List ℕ) → w.replies ≡ a ∷ r → is_valid s.link.queue (a % 128) ≡ true → m.queue ≡ acknowledged s.link.queue (a % 128) → m.received ≡ s.link.received → ready m ≡ ready s.link → Local s.link w v → Taken s w v r m
taken_sim s m w v a r at valid queue next same h = changed s m w v (moved w (beyond w.acknowledged a) r) v v.underway r v.delivered (taken_local s.link m w v a r at valid queue next same h) refl refl refl refl refl refl refl refl refl refl refl

back_sim : (s : Step) (m : DataLink) (w v : Direction) (a : ℕ) (r : List ℕ) → w.replies ≡ a ∷ r → is_valid s.link.queue (a % 128) ≡ true → m.queue ≡ returned (acknowledged s.link.queue (a % 128)) → m.received ≡ s.link.received → ready m ≡ true → Local s.link w v → Taken s w v r m
back_sim s m w v a r at valid queue next free h =
    let k : DataLink = acknowledge (a % 128) s.link in
    changed s m w v (happens (moved w (beyond w.acknowledged a) r) GoBack) v v.underway r v.delivered
    (back_local k m (moved w (beyond w.acknowledged a) r) v queue next free (taken_local s.link k w v a r at valid refl refl refl h)) refl refl refl refl refl refl refl refl refl refl refl

retimed_sim : (s : Step) (gone : Bool) (now : ℕ) (m : DataLink) (w v : Direction) (a : ℕ) (r : List ℕ) → w.replies ≡ a ∷ r → is_valid s.link.queue (a % 128) ≡ true → m.queue ≡ acknowledged s.link.queue (a % 128) → m.received ≡ s.link.received → ready m ≡ ready s.link → Local s.link w v → Taken s w v r (retimed gone now m)
unfolding retimed
retimed_sim s gone now m w v a r at valid queue next same h =
    by_test (Taken s w v r) (m.queue.sent == 0) _ _ (λ e. taken_sim s _ w v a r at valid queue next same h)
    (λ e. by_test (Taken s w v r) gone _ _ (λ d. taken_sim s _ w v a r at valid queue next same h) (λ d. taken_sim s m w v a r at valid queue next same h))

supervised_sim : (s : Step) (kind : Supervisory) (now : ℕ) (w v : Direction) (a : ℕ) (r : List ℕ) → w.replies ≡ a ∷ r → is_valid s.link.queue (a % 128) ≡ true → is_established s.link.state ≡ true → s.link.busy ≡ false → Local s.link w v → Taken s w v r (supervised_by kind (a % 128) now s.link)
unfolding supervised_by
supervised_sim s Rr now w v a r at valid on idle h = retimed_sim s (has_moved (a % 128) s.link) now (acknowledge (a % 128) s.link) w v a r at valid refl refl refl h
supervised_sim s Rnr now w v a r at valid on idle h = taken_sim s _ w v a r at valid refl refl refl h
supervised_sim s Rej now w v a r at valid on idle h = back_sim s _ w v a r at valid refl refl (ready_now s.link on idle) h

pub established_is : is_established state.MultipleFrameEstablished ≡ true
unfolding is_established
established_is = refl

recovering_sim : (s : Step) (answer : Bool) (now : ℕ) (w v : Direction) (a : ℕ) (r : List ℕ) → w.replies ≡ a ∷ r → is_valid s.link.queue (a % 128) ≡ true → s.link.busy ≡ false → Local s.link w v → Taken s w v r (recovering_by answer (a % 128) now s.link)
unfolding recovering_by
recovering_sim s true now w v a r at valid idle h = back_sim s _ w v a r at valid refl refl (ready_now (recovered (a % 128) now s.link) established_is idle) h
recovering_sim s false now w v a r at valid idle h = taken_sim s _ w v a r at valid refl refl refl h

-- a part after which the link goes on, or is not in multiple frame operation
abbrev MayStop : Type 0 → Step → Type 0
MayStop P t = P ⊎ (is_multiple_frame t.link.state ≡ false)

establishes_stopped : (asked : Bool) (now : ℕ) (s : Step) → is_multiple_frame (establishes asked now s).link.state ≡ false
unfolding establishes is_multiple_frame is_established is_recovering
establishes_stopped asked now s = refl

-- N(R) is always valid
pub valid_always : (l : DataLink) (w v : Direction) (a : ℕ) (r : List ℕ) → w.replies ≡ a ∷ r → Full w → Local l w v → is_valid l.queue (a % 128) ≡ true
unfolding is_valid
valid_always l w v a r at full h =
    let acks_at = subst (λ rs. Acknowledgements w.acknowledged (length w.delivered) rs) at h.one.acknowledgements in
    let low = acks_at.0 in let high = acks_at.1 in let b = h.one.delivered_reached in let c = h.one.reached_acknowledged in
    let exact = told_exactly w.acknowledged a low (omega (arith, high, b, c)) in
    ap (λ d. nat_le d l.queue.sent) (distance_is l.queue a w.acknowledged h.number) ∙ ap (λ n. nat_le (beyond w.acknowledged a) n) h.sent
    ∙ le-leb (beyond w.acknowledged a) w.sent (omega (arith, exact, high, b, full))

established_now : (st : State) → is_multiple_frame st ≡ true → is_recovering st ≡ false → is_established st ≡ true
unfolding is_multiple_frame is_established is_recovering
established_now state.TeiAssigned e f = clash false e refl
established_now state.AwaitingEstablishment e f = clash false e refl
established_now state.MultipleFrameEstablished e f = refl
established_now state.TimerRecovery e f = clash true refl f

valid_sim : (cmd : Bool) (kind : Supervisory) (pf : Bool) (now : ℕ) (s : Step) (w v : Direction) (a : ℕ) (r : List ℕ) → w.replies ≡ a ∷ r → is_valid s.link.queue (a % 128) ≡ true → is_multiple_frame s.link.state ≡ true → s.link.busy ≡ false → Local s.link w v → Sim s (on_valid cmd kind pf (a % 128) now s) w v v.underway r v.delivered
unfolding on_valid
valid_sim cmd kind pf now s w v a r at valid running idle h =
    by_test (λ t. Sim s t w v v.underway r v.delivered) (is_valid s.link.queue (a % 128)) _ _
    (λ valid. by_test (Taken s w v r) (is_recovering s.link.state) _ _ (λ e. recovering_sim s (not cmd && pf) now w v a r at valid idle h) (λ e. supervised_sim s kind now w v a r at valid (established_now s.link.state running e) idle h))
    (λ invalid. clash (is_valid s.link.queue (a % 128)) valid invalid)

acknowledgement_sim : (now : ℕ) (s : Step) (w v : Direction) (a : ℕ) (r : List ℕ) → w.replies ≡ a ∷ r → is_valid s.link.queue (a % 128) ≡ true → Local s.link w v → Sim s (by_acknowledgement (a % 128) now s) w v v.underway r v.delivered
unfolding by_acknowledgement
acknowledgement_sim now s w v a r at valid h =
    by_test (λ t. Sim s t w v v.underway r v.delivered) (is_valid s.link.queue (a % 128)) _ _
    (λ valid. by_test (Taken s w v r) (is_established s.link.state && not s.link.busy) _ _
    (λ e. retimed_sim s (has_moved (a % 128) s.link) now (acknowledge (a % 128) s.link) w v a r at valid refl refl refl h)
    (λ e. taken_sim s (acknowledge (a % 128) s.link) w v a r at valid refl refl refl h))
    (λ invalid. clash (is_valid s.link.queue (a % 128)) valid invalid)

may_then : {P Q : Type 0} (t : Step) → (P → Q) → MayStop P t → MayStop Q t
may_then t f (inl p) = inl (f p)
may_then t f (inr e) = inr e

pub enquiry_queue : (b : Bool) (s : Step) → (answers_enquiry b s).link.queue ≡ s.link.queue
unfolding answers_enquiry acknowledges
enquiry_queue true s = refl
enquiry_queue false s = refl

enquiry_state : (b : Bool) (s : Step) → (answers_enquiry b s).link.state ≡ s.link.state
unfolding answers_enquiry acknowledges
enquiry_state true s = refl
enquiry_state false s = refl

enquiry_busy : (b : Bool) (s : Step) → (answers_enquiry b s).link.busy ≡ s.link.busy
unfolding answers_enquiry acknowledges
enquiry_busy true s = refl
enquiry_busy false s = refl

pub supervisory_sim : (cmd : Bool) (kind : Supervisory) (pf : Bool) (now : ℕ) (s : Step) (w v : Direction) (a : ℕ) (r : List ℕ) → is_not_ready kind ≡ false → is_multiple_frame s.link.state ≡ true → w.replies ≡ a ∷ r → Full w → Local s.link w v → Sim s (on_supervisory cmd kind pf (a % 128) now s) w v v.underway r v.delivered
unfolding on_supervisory
supervisory_sim cmd kind pf now s w v a r prompt running at full h =
    by_test (λ t. Sim s t w v v.underway r v.delivered) (is_multiple_frame s.link.state) _ _ (λ e. on) (λ e. clash (is_multiple_frame s.link.state) running e)
  where
    on : Sim s (on_valid cmd kind pf (a % 128) now (answers_enquiry (cmd && pf) (step (busy_by kind s.link) s.out))) w v v.underway r v.delivered
    on =
        let b : Step = step (busy_by kind s.link) s.out in
        let t : Step = answers_enquiry (cmd && pf) (step (busy_by kind s.link) s.out) in
        let first = plain_alike s (busy_by kind s.link) w v refl refl (λ e. full) h in
        let both = sim_then s b t w v _ _ _ first (enquiry_plain (cmd && pf) b first.mine first.theirs first.local) in
        then_taken s t (on_valid cmd kind pf (a % 128) now t) w v _ _ r _ both
        (valid_sim cmd kind pf now t both.mine both.theirs a r (both.told ∙ at)
        (ap (λ q. is_valid q (a % 128)) (enquiry_queue (cmd && pf) b) ∙ valid_always s.link w v a r at full h)
        (ap (λ st. is_multiple_frame st) (enquiry_state (cmd && pf) b) ∙ running) (enquiry_busy (cmd && pf) b ∙ prompt) both.local)

-- ---- N(S)

next_is : (n m : ℕ) (delivered : List (List ℕ)) (x : List ℕ) → n ≡ length delivered % 128 → (n + 1) % 128 ≡ length (delivered ++ x ∷ []) % 128
next_is n m delivered x e = let long = length-append_one delivered x in omega (arith, e, long)

in_sequence_local : (l m : DataLink) (w v : Direction) (c : ℕ) (u : List ℕ) → v.underway ≡ c ∷ u → (c % 128 == l.received) ≡ true → m.queue ≡ l.queue → m.received ≡ (l.received + 1) % 128 → ready m ≡ ready l → Local l w v → Local m w (window_takes v c u)
in_sequence_local l m w v c u at equal queue next same h = record {
  number = ap (λ q. q.acknowledged) queue ∙ h.number;
  sent = ap (λ q. q.sent) queue ∙ h.sent;
  waiting = ap (λ q. q.waiting) queue ∙ h.waiting;
  next = next ∙ next_is l.received 0 v.delivered (slice_index_or v.submitted c []) h.next;
  sure = λ e. h.sure (sym same ∙ e);
  one = h.one;
  other = Holds-taken_one v c u at (ap (λ n. c % 128 == n) (sym h.next) ∙ equal) h.other;
}

dropped_local : (l : DataLink) (w v : Direction) (c : ℕ) (u : List ℕ) → v.underway ≡ c ∷ u → Local l w v → Local l w (drops v u)
dropped_local l w v c u at h = record { number = h.number; sent = h.sent; waiting = h.waiting; next = h.next; sure = h.sure; one = h.one; other = dropped_one v c u at h.other }

-- the I frame of number c, whose message is m
numbered_sim : (b : Bool) (s : Step) (w v : Direction) (c a : ℕ) (u : List ℕ) (m : List ℕ) → (c % 128 == s.link.received) ≡ b → v.underway ≡ c ∷ u → m ≡ slice_index_or v.submitted c [] → Local s.link w v → Sim s (if b then acknowledges_later false (step (in_sequence s.link) s.out) else out_of_sequence false s) w v u w.replies (v.delivered ++ message_of (command (control.Information false (c % 128) (a % 128) m)) (taken b))
numbered_sim true s w v c a u m equal at genuine h = changed s _ w v w (window_takes v c u) u w.replies _ (in_sequence_local s.link _ w v c u at equal refl refl refl h) refl refl refl refl refl refl refl refl refl refl (ap (λ x. v.delivered ++ x ∷ []) (sym genuine))
numbered_sim false s w v c a u m other at genuine h =
    let first : Sim s s w v u w.replies (v.delivered ++ []) = changed s s.link w v w (drops v u) u w.replies (v.delivered ++ []) (dropped_local s.link w v c u at h) refl refl refl refl refl refl refl refl refl refl (sym (append-nil v.delivered)) in
    by_test (λ t. Sim s t w v u w.replies (v.delivered ++ [])) s.link.rejecting _ _
    (λ e. sim_then s s _ w v _ _ _ first (enquiry_plain false s first.mine first.theirs first.local))
    (λ e. sim_then s s _ w v _ _ _ first (rejects_plain false s first.mine first.theirs first.local))

pub by_queue : (b : Bool) (s : Step) → (if b then acknowledges_later false (step (in_sequence s.link) s.out) else out_of_sequence false s).link.queue ≡ s.link.queue
unfolding rejects answers_enquiry
by_queue true s = refl
by_queue false s = by_test (λ (t : Step). t.link.queue ≡ s.link.queue) s.link.rejecting _ _ (λ e. refl) (λ e. refl)

pub information_sim : (now : ℕ) (s : Step) (w v : Direction) (c a : ℕ) (u r : List ℕ) (m : List ℕ) → is_multiple_frame s.link.state ≡ true → v.underway ≡ c ∷ u → w.replies ≡ a ∷ r → m ≡ slice_index_or v.submitted c [] → Full w → Local s.link w v
    → Sim s (as_step (on_information false (c % 128) (a % 128) now s)) w v u r (v.delivered ++ message_of (command (control.Information false (c % 128) (a % 128) m)) (on_information false (c % 128) (a % 128) now s).indication)
unfolding on_information by_number
information_sim now s w v c a u r m running at acked genuine full h =
    by_test (λ (o : Outcome). Sim s (as_step o) w v u r (v.delivered ++ message_of (command (control.Information false (c % 128) (a % 128) m)) o.indication)) (is_multiple_frame s.link.state) _ _
    (λ e. on (c % 128 == s.link.received) refl) (λ e. clash (is_multiple_frame s.link.state) running e)
  where
    on : (b : Bool) → (c % 128 == s.link.received) ≡ b → Sim s (by_acknowledgement (a % 128) now (if b then acknowledges_later false (step (in_sequence s.link) s.out) else out_of_sequence false s)) w v u r (v.delivered ++ message_of (command (control.Information false (c % 128) (a % 128) m)) (taken b))
    on b e =
        let t : Step = if b then acknowledges_later false (step (in_sequence s.link) s.out) else out_of_sequence false s in
        let first = numbered_sim b s w v c a u m e at genuine h in
        then_taken s t (by_acknowledgement (a % 128) now t) w v _ _ r _ first
        (acknowledgement_sim now t first.mine first.theirs a r (first.told ∙ acked) (ap (λ q. is_valid q (a % 128)) (by_queue b s) ∙ valid_always s.link w v a r acked full h) first.local)

-- ---- the turn

pub running_only : (st : State) (P : Type 0) → is_multiple_frame st ≡ true → (st ≡ state.MultipleFrameEstablished → P) → (st ≡ state.TimerRecovery → P) → P
unfolding is_multiple_frame is_established is_recovering
running_only state.TeiAssigned P e f g = clash false e refl
running_only state.AwaitingEstablishment P e f g = clash false e refl
running_only state.MultipleFrameEstablished P e f g = f refl
running_only state.TimerRecovery P e f g = g refl

pub enquires_at_plain : (retries now : ℕ) (s : Step) (w v : Direction) → Full w → Local s.link w v → Plain s (enquires_at retries now s) w v
unfolding enquires_at enquires
enquires_at_plain retries now s w v full h = plain_supervisory true Rr true s _ w v rr_is_ready refl refl (λ e. full) h

expiry_sim : (st : State) (now : ℕ) (s : Step) (w v : Direction) → is_multiple_frame st ≡ true → Full w → Local s.link w v → MayStop (Plain s (as_step (on_expiry st now s)) w v) (as_step (on_expiry st now s))
unfolding on_expiry is_multiple_frame is_established is_recovering
expiry_sim state.TeiAssigned now s w v e full h = clash false e refl
expiry_sim state.AwaitingEstablishment now s w v e full h = clash false e refl
expiry_sim state.MultipleFrameEstablished now s w v e full h = inl (enquires_at_plain (first_retries s.link.timer.running) now s w v full h)
expiry_sim state.TimerRecovery now s w v e full h =
    by_test (λ (o : Outcome). MayStop (Plain s (as_step o) w v) (as_step o)) (s.link.retries == 3) _ _
    (λ d. inr (establishes_stopped false now s)) (λ d. inl (enquires_at_plain (s.link.retries + 1) now s w v full h))

turned_sim : (t : LinkTimers) (now : ℕ) (s : Step) (w v : Direction) → is_multiple_frame s.link.state ≡ true → Full w → Local s.link w v → MayStop (Plain s (as_step (turned t now s)) w v) (as_step (turned t now s))
unfolding turned
turned_sim t now s w v running full h =
    by_test (λ (o : Outcome). MayStop (Plain s (as_step o) w v) (as_step o)) s.link.owed _ _
    (λ e. inl (plain_alike s _ w v refl refl h.sure h))
    (λ e. by_test (λ (o : Outcome). MayStop (Plain s (as_step o) w v) (as_step o)) (is_due t now s.link.timer) _ _
    (λ d. expiry_sim s.link.state now s w v running full h) (λ d. inl (plain_none s w v h)))

-- ---- the end of a step

pub next_state : (now : ℕ) (s : Step) → (sends_next now s).link.state ≡ s.link.state
unfolding sends_next
next_state now s = by_test (λ (t : Step). t.link.state ≡ s.link.state) (is_free s.link) _ _ (λ e. refl) (λ e. refl)

waiting_state : (n now : ℕ) (s : Step) → (sends_waiting n now s).link.state ≡ s.link.state
waiting_state zero now s = refl
waiting_state (suc n) now s = waiting_state n now (sends_next now s) ∙ next_state now s

pub flushes_state : (now : ℕ) (s : Step) → (flushes now s).link.state ≡ s.link.state
unfolding flushes
flushes_state now s = waiting_state 7 now s

pending_state : (s : Step) → (acknowledges_pending s).link.state ≡ s.link.state
unfolding acknowledges_pending acknowledges
pending_state s = by_test (λ (t : Step). t.link.state ≡ s.link.state) (s.link.pending && is_multiple_frame s.link.state) _ _ (λ e. refl) (λ e. refl)

pub finished_state : (now : ℕ) (s : Step) → (finished now s).link.state ≡ s.link.state
unfolding finished
finished_state now s = pending_state (flushes now s) ∙ flushes_state now s

-- all that the window permits is sent at the end of a step
next_idle : (now : ℕ) (s : Step) → is_free s.link ≡ false → sends_next now s ≡ s
unfolding sends_next
next_idle now s e = rw e refl

next_more : (now : ℕ) (s : Step) → is_free s.link ≡ true → (sends_next now s).link.queue.sent ≡ s.link.queue.sent + 1
unfolding sends_next one_more_sent
next_more now s e = rw e refl

pub next_shut : (n now : ℕ) (s : Step) → is_free s.link ≡ false → sends_waiting n now s ≡ s
next_shut zero now s e = refl
next_shut (suc n) now s e = ap (sends_waiting n now) (next_idle now s e) ∙ next_shut n now s e

-- the window is shut, or this number of messages more was sent
waiting_shut : (n now : ℕ) (s : Step) → (is_free (sends_waiting n now s).link ≡ false) ⊎ (s.link.queue.sent + n ≤ (sends_waiting n now s).link.queue.sent)
waiting_shut zero now s = inr (omega arith)
waiting_shut (suc n) now s = cases (is_free s.link) refl (waiting_shut n now (sends_next now s))
  where
    onward : s.link.queue.sent + 1 ≡ (sends_next now s).link.queue.sent → (is_free (sends_waiting n now (sends_next now s)).link ≡ false) ⊎ ((sends_next now s).link.queue.sent + n ≤ (sends_waiting n now (sends_next now s)).link.queue.sent) → (is_free (sends_waiting n now (sends_next now s)).link ≡ false) ⊎ (s.link.queue.sent + suc n ≤ (sends_waiting n now (sends_next now s)).link.queue.sent)
    onward e (inl f) = inl f
    onward e (inr f) = inr (omega (arith, e, f))

    cases : (b : Bool) → is_free s.link ≡ b → (is_free (sends_waiting n now (sends_next now s)).link ≡ false) ⊎ ((sends_next now s).link.queue.sent + n ≤ (sends_waiting n now (sends_next now s)).link.queue.sent) → (is_free (sends_waiting (suc n) now s).link ≡ false) ⊎ (s.link.queue.sent + suc n ≤ (sends_waiting (suc n) now s).link.queue.sent)
    cases true e k = onward (sym (next_more now s e)) k
    cases false e k = inl (ap (λ (t : Step). is_free t.link) (next_shut (suc n) now s e) ∙ e)

seven_shut : (l : DataLink) → 7 ≤ l.queue.sent → is_free l ≡ false
unfolding is_free may_send
seven_shut l e = and_right (is_established l.state && not l.busy) _ (and_left (nat_lt l.queue.sent 7) _ (false_from_ne_true (nat_lt l.queue.sent 7) (λ d. let k = ltb-true l.queue.sent 7 d in omega (arith, k, e))))

flushes_shut : (now : ℕ) (s : Step) → is_free (flushes now s).link ≡ false
unfolding flushes
flushes_shut now s = on (waiting_shut 7 now s)
  where
    on : (is_free (sends_waiting 7 now s).link ≡ false) ⊎ (s.link.queue.sent + 7 ≤ (sends_waiting 7 now s).link.queue.sent) → is_free (sends_waiting 7 now s).link ≡ false
    on (inl f) = f
    on (inr e) = seven_shut (sends_waiting 7 now s).link (omega (arith, e))

free_same : (l m : DataLink) → m.state ≡ l.state → m.busy ≡ l.busy → m.queue ≡ l.queue → is_free m ≡ is_free l
unfolding is_free
free_same l m a b c = rw (a, b, c) refl

pub finished_shut : (now : ℕ) (s : Step) → is_free (finished now s).link ≡ false
unfolding finished acknowledges_pending acknowledges
finished_shut now s = by_test (λ (t : Step). is_free t.link ≡ false) ((flushes now s).link.pending && is_multiple_frame (flushes now s).link.state) _ _
    (λ e. free_same (flushes now s).link _ refl refl refl ∙ flushes_shut now s) (λ e. free_same (flushes now s).link _ refl refl refl ∙ flushes_shut now s)

free_from : (l : DataLink) → ready l ≡ true → l.queue.sent < 7 → l.queue.sent < length l.queue.waiting → is_free l ≡ true
unfolding is_free may_send
free_from l a b c = and_from (ready l) _ a (and_from (nat_lt l.queue.sent 7) _ (lt-ltb l.queue.sent 7 b) (lt-ltb l.queue.sent (length l.queue.waiting) c))

le_or_lt : (a b : ℕ) → (a ≤ b) ⊎ (b < a)
le_or_lt a b = cases (nat_le a b) refl
  where
    cases : (c : Bool) → nat_le a b ≡ c → (a ≤ b) ⊎ (b < a)
    cases true e = inl (leb-true a b e)
    cases false e = inr (leb-false a b e)

-- V(S) has reached all that was sent
pub full_from : (l : DataLink) (w : Direction) → is_free l ≡ false → l.queue.sent ≡ w.sent → l.queue.waiting ≡ drop w.acknowledged w.submitted → (ready l ≡ false → Full w) → Holds w → Full w
full_from l w shut same waiting sure h = cases (ready l) refl
  where
    all : (length l.queue.waiting ≤ l.queue.sent) ⊎ (l.queue.sent < length l.queue.waiting) → l.queue.sent < 7 → ready l ≡ true → Full w
    all (inl none) few e =
        let long : length l.queue.waiting ≡ length w.submitted - w.acknowledged = ap length waiting ∙ length-drop w.acknowledged w.submitted in
        let most = h.reached_submitted in omega (arith, none, long, same, most)
    all (inr some) few e = clash (is_free l) (free_from l e few some) shut

    wide : (7 ≤ l.queue.sent) ⊎ (l.queue.sent < 7) → ready l ≡ true → Full w
    wide (inl many) e = let most = h.reached_acknowledged in omega (arith, many, same, most)
    wide (inr few) e = all (le_or_lt (length l.queue.waiting) l.queue.sent) few e

    cases : (b : Bool) → ready l ≡ b → Full w
    cases false e = sure e
    cases true e = wide (le_or_lt 7 l.queue.sent) e

pub full_at_end : (l : DataLink) (w v : Direction) → is_free l ≡ false → Local l w v → Full w
full_at_end l w v shut h = full_from l w shut h.sent h.waiting h.sure h.one

-- a step after which the link is in multiple frame operation did not stop
finished_sim : (now : ℕ) (s t : Step) (w v : Direction) (u r : List ℕ) (d : List (List ℕ)) → is_multiple_frame (finished now t).link.state ≡ true → MayStop (Sim s t w v u r d) t → Sim s (finished now t) w v u r d
finished_sim now s t w v u r d running (inl h) = sim_then s t (finished now t) w v u r d h (finished_plain now t h.mine h.theirs h.local)
finished_sim now s t w v u r d running (inr e) = clash (is_multiple_frame t.link.state) (ap (λ st. is_multiple_frame st) (sym (finished_state now t)) ∙ running) e

-- ---- both links

pub record Inv (p : Pair) (w v : Direction) : Type 0 where
  pub one : Local p.first w v
  pub two : Local p.second v w
  pub there : List Item
  pub there_wire : p.there ≡ wire there
  pub there_counts : w.underway ≡ counts there
  pub there_acks : v.replies ≡ acks there
  pub there_genuine : Genuine w.submitted there
  pub back : List Item
  pub back_wire : p.back ≡ wire back
  pub back_counts : v.underway ≡ counts back
  pub back_acks : w.replies ≡ acks back
  pub back_genuine : Genuine v.submitted back
  pub submitted : p.submitted ≡ w.submitted
  pub replied : p.replied ≡ v.submitted
  pub arrived : p.arrived ≡ w.delivered
  pub returned : p.returned ≡ v.delivered
  pub short : All IsShort w.submitted
  pub short_back : All IsShort v.submitted
  pub full : Full w
  pub full_back : Full v
  pub running : is_multiple_frame p.first.state ≡ true
  pub running_back : is_multiple_frame p.second.state ≡ true

-- both directions exchanged
turned_over : (p : Pair) (w v : Direction) → Inv p w v → Inv (mirror p) v w
turned_over p w v h = record {
  one = h.two;
  two = h.one;
  there = h.back;
  there_wire = h.back_wire;
  there_counts = h.back_counts;
  there_acks = h.back_acks;
  there_genuine = h.back_genuine;
  back = h.there;
  back_wire = h.there_wire;
  back_counts = h.there_counts;
  back_acks = h.there_acks;
  back_genuine = h.there_genuine;
  submitted = h.replied;
  replied = h.submitted;
  arrived = h.returned;
  returned = h.arrived;
  short = h.short_back;
  short_back = h.short;
  full = h.full_back;
  full_back = h.full;
  running = h.running_back;
  running_back = h.running;
}

pub full_same : (v u : Direction) → u.acknowledged ≡ v.acknowledged → u.sent ≡ v.sent → u.reached ≡ v.reached → Full v → Full u
full_same v u a b c h = omega (arith, a, b, c, h)

settled : (p : Pair) (w v : Direction) (t : Step) (u r : List ℕ) (d now : List (List ℕ)) (rest : List Item) → Inv p w v → (k : Sim (step p.first []) t w v u r d) → u ≡ counts rest → r ≡ acks rest → Genuine v.submitted rest → now ≡ d → Full k.mine → is_multiple_frame t.link.state ≡ true → Inv (stepped p t (wire rest) p.submitted now) k.mine k.theirs
settled p w v t u r d now rest h k a b g e full running = record {
  one = k.local;
  two = record {
    number = h.two.number ∙ ap (λ n. n % 128) (sym k.their_number);
    sent = h.two.sent ∙ sym k.their_sent;
    waiting = h.two.waiting ∙ ap (λ n. drop n v.submitted) (sym k.their_number) ∙ ap (λ ms. drop k.theirs.acknowledged ms) (sym k.replied);
    next = h.two.next ∙ ap (λ ms. length ms % 128) (sym k.delivered);
    sure = λ e. full_same v k.theirs k.their_number k.their_sent k.their_reached h.full_back;
    one = k.local.other;
    other = k.local.one;
  };
  there = h.there ++ k.items;
  there_wire = ap (λ o. p.there ++ o) k.out ∙ ap (λ o. o ++ wire k.items) h.there_wire ∙ sym (wire_append h.there k.items);
  there_counts = k.underway ∙ ap (λ o. o ++ counts k.items) h.there_counts ∙ sym (counts_append h.there k.items);
  there_acks = k.replies ∙ ap (λ o. o ++ acks k.items) h.there_acks ∙ sym (acks_append h.there k.items);
  there_genuine = subst (λ ms. Genuine ms (h.there ++ k.items)) (sym k.submitted) (genuine_append w.submitted h.there k.items h.there_genuine k.genuine);
  back = rest;
  back_wire = refl;
  back_counts = k.rest ∙ a;
  back_acks = k.told ∙ b;
  back_genuine = subst (λ ms. Genuine ms rest) (sym k.replied) g;
  submitted = h.submitted ∙ sym k.submitted;
  replied = h.replied ∙ sym k.replied;
  arrived = h.arrived ∙ sym k.delivered;
  returned = e ∙ sym k.got;
  short = subst (All IsShort) (sym k.submitted) h.short;
  short_back = subst (All IsShort) (sym k.replied) h.short_back;
  full = full;
  full_back = full_same v k.theirs k.their_number k.their_sent k.their_reached h.full_back;
  running = running;
  running_back = h.running_back;
}

-- some windows of both directions
abbrev Some_inv : Pair → Type 0
Some_inv p = (w : Direction) × (v : Direction) × Inv p w v

turns_keep : (p : Pair) (w v : Direction) (t : LinkTimers) (at : ℕ) → Inv p w v → is_multiple_frame (turns p t at).first.state ≡ true → Some_inv (turns p t at)
turns_keep p w v t at h running =
    let s : Step = step p.first [] in
    let k = finished_sim at s (as_step (turned t at s)) w v _ _ _ running (turned_sim t at s w v h.running h.full h.one) in (
      k.mine,
      k.theirs,
      subst (λ b. Inv (stepped p (finished at (as_step (turned t at s))) b p.submitted p.returned) k.mine k.theirs) (sym h.back_wire)
          (settled p w v (finished at (as_step (turned t at s))) v.underway w.replies v.delivered p.returned h.back h k h.back_counts h.back_acks h.back_genuine h.returned (full_at_end (finished at (as_step (turned t at s))).link k.mine k.theirs (finished_shut at (as_step (turned t at s))) k.local) running),
    )

-- a message is submitted

pub drop_longer : (n : ℕ) (xs ys : List (List ℕ)) → n ≤ length xs → drop n (xs ++ ys) ≡ drop n xs ++ ys
drop_longer zero xs ys h = refl
drop_longer (suc n) [] ys h = absurd (omega (arith, h))
drop_longer (suc n) (x ∷ xs) ys h = drop_longer n xs ys (omega (arith, h))

pub queued_local : (l m : DataLink) (w v : Direction) (x : List ℕ) → m.queue ≡ queued x l.queue → m.received ≡ l.received → ready m ≡ ready l → Local l w v → Local m (happens w (WindowSubmit x)) v
unfolding queued
queued_local l m w v x queue next same h =
    let a = h.one.delivered_acknowledged in let b = h.one.delivered_reached in let c = h.one.reached_submitted in record {
      number = ap (λ q. q.acknowledged) queue ∙ h.number;
      sent = ap (λ q. q.sent) queue ∙ h.sent;
      waiting = ap (λ q. q.waiting) queue ∙ ap (λ ms. ms ++ x ∷ []) h.waiting ∙ sym (drop_longer w.acknowledged w.submitted (x ∷ []) (omega (arith, a, b, c)));
      next = next ∙ h.next;
      sure = λ e. h.sure (sym same ∙ e);
      one = Holds-happens w (WindowSubmit x) h.one;
      other = h.other;
    }

added : Pair → List ℕ → Pair
added p m = record {
  first = record p.first { queue = queued m p.first.queue };
  second = p.second;
  there = p.there;
  back = p.back;
  submitted = p.submitted ++ m ∷ [];
  replied = p.replied;
  arrived = p.arrived;
  returned = p.returned;
}

added_inv : (p : Pair) (w v : Direction) (m : List ℕ) → length m ≤ 112 → Inv p w v → Inv (added p m) (happens w (WindowSubmit m)) v
unfolding added
added_inv p w v m short h = record {
  one = queued_local p.first _ w v m refl refl refl h.one;
  two = let t = h.two in record { number = t.number; sent = t.sent; waiting = t.waiting; next = t.next; sure = t.sure; one = t.one; other = Holds-happens w (WindowSubmit m) h.one.one };
  there = h.there;
  there_wire = h.there_wire;
  there_counts = h.there_counts;
  there_acks = h.there_acks;
  there_genuine = genuine_longer w.submitted m h.there h.there_genuine;
  back = h.back;
  back_wire = h.back_wire;
  back_counts = h.back_counts;
  back_acks = h.back_acks;
  back_genuine = h.back_genuine;
  submitted = ap (λ ms. ms ++ m ∷ []) h.submitted;
  replied = h.replied;
  arrived = h.arrived;
  returned = h.returned;
  short = All-push IsShort w.submitted m h.short short;
  short_back = h.short_back;
  full = h.full;
  full_back = h.full_back;
  running = h.running;
  running_back = h.running_back;
}

established_waits : is_awaiting state.MultipleFrameEstablished ≡ false
unfolding is_awaiting
established_waits = refl

recovery_waits : is_awaiting state.TimerRecovery ≡ false
unfolding is_awaiting
recovery_waits = refl

overflows_stopped : (now : ℕ) (s : Step) → is_multiple_frame s.link.state ≡ true → is_multiple_frame (overflows now s).link.state ≡ false
unfolding overflows
overflows_stopped now s running = by_test (λ (t : Step). is_multiple_frame t.link.state ≡ false) (is_awaiting s.link.state) _ _
    (λ e. clash (is_awaiting s.link.state) e (not_awaiting s.link.state running)) (λ e. establishes_stopped true now _)
  where
    not_awaiting : (st : State) → is_multiple_frame st ≡ true → is_awaiting st ≡ false
    not_awaiting st e = running_only st (is_awaiting st ≡ false) e (λ d. ap (λ x. is_awaiting x) d ∙ established_waits) (λ d. ap (λ x. is_awaiting x) d ∙ recovery_waits)

pub running_is_up : (l : DataLink) → is_multiple_frame l.state ≡ true → is_up l ≡ true
unfolding is_up
running_is_up l e = or_left (is_multiple_frame l.state) _ e

submits_keep : (p : Pair) (w v : Direction) (m : List ℕ) (at : ℕ) → length m ≤ 112 → Inv p w v → is_multiple_frame (submits p m at).first.state ≡ true → Some_inv (submits p m at)
unfolding submitted added
submits_keep p w v m at short h =
    by_test (λ (t : Step). is_multiple_frame (finished at t).link.state ≡ true → Some_inv (stepped p (finished at t) p.back (p.submitted ++ m ∷ []) p.returned)) (not (is_up p.first)) _ _
    (λ e. clash (not (is_up p.first)) e (ap not (running_is_up p.first h.running)))
    (λ e. by_test (λ (t : Step). is_multiple_frame (finished at t).link.state ≡ true → Some_inv (stepped p (finished at t) p.back (p.submitted ++ m ∷ []) p.returned)) (nat_le 64 (length p.first.queue.waiting)) _ _
    (λ d running. clash (is_multiple_frame (finished at (overflows at (step p.first []))).link.state) running (ap is_multiple_frame (finished_state at (overflows at (step p.first []))) ∙ overflows_stopped at (step p.first []) h.running))
    (λ d running. on running))
  where
    on : is_multiple_frame (finished at (flushes at (step (record p.first { queue = queued m p.first.queue }) []))).link.state ≡ true → Some_inv (stepped p (finished at (flushes at (step (record p.first { queue = queued m p.first.queue }) []))) p.back (p.submitted ++ m ∷ []) p.returned)
    on running =
        let s : Step = step (record p.first { queue = queued m p.first.queue }) [] in
        let w' : Direction = happens w (WindowSubmit m) in
        let i = added_inv p w v m short h in
        let f = flushes_plain at s w' v i.one in
        let k = sim_then s (flushes at s) (finished at (flushes at s)) w' v _ _ _ f (finished_plain at (flushes at s) f.mine f.theirs f.local) in (
          k.mine,
          k.theirs,
          subst (λ b. Inv (stepped p (finished at (flushes at s)) b (p.submitted ++ m ∷ []) p.returned) k.mine k.theirs) (sym i.back_wire)
              (settled (added p m) w' v (finished at (flushes at s)) v.underway w'.replies v.delivered p.returned i.back i k i.back_counts i.back_acks i.back_genuine i.returned (full_at_end (finished at (flushes at s)).link k.mine k.theirs (finished_shut at (flushes at s)) k.local) running),
        )

-- the oldest frame arrives, or is lost

message_short : (sub : List (List ℕ)) (c : ℕ) (m : List ℕ) → All IsShort sub → c < length sub → m ≡ slice_index_or sub c [] → length m ≤ 260
message_short sub c m all lt e = let b : length (slice_index_or sub c []) ≤ 112 = all c [] lt in let l : length m ≡ length (slice_index_or sub c []) = ap length e in omega (arith, b, l)

pub read_item : (i : Item) (sub : List (List ℕ)) (is : List Item) → All IsShort sub → Genuine sub (i ∷ is) → reading Network (encoding Network (frame i)) ≡ Some (frame i)
read_item (Info c a m) sub is all g = reading_of_encoding Network (frame (Info c a m)) (omega arith, omega arith, message_short sub c m all g.0 g.1)
read_item (Sup true kind pf a) sub is all g = reading_of_encoding Network (frame (Sup true kind pf a)) (omega arith)
read_item (Sup false kind pf a) sub is all g = reading_of_encoding Network (frame (Sup false kind pf a)) (omega arith)

item_comes : (p : Pair) (w v : Direction) (at : ℕ) (i : Item) (rest : List Item) → Inv p w v → v.underway ≡ counts (i ∷ rest) → w.replies ≡ acks (i ∷ rest) → Genuine v.submitted (i ∷ rest) → is_multiple_frame (takes p at (wire rest) (Some (frame i))).first.state ≡ true → Some_inv (takes p at (wire rest) (Some (frame i)))
unfolding on_control
item_comes p w v at (Info c a m) rest h a1 b g running =
    let s : Step = step p.first [] in
    let f : Frame = frame (Info c a m) in
    let k = finished_sim at s (as_step (received f at s)) w v _ _ _ running (inl (information_sim at s w v c a (counts rest) (acks rest) m h.running a1 b g.1 h.full h.one)) in
    (k.mine, k.theirs, settled p w v (finished at (as_step (received f at s))) (counts rest) (acks rest) _ (p.returned ++ message_of f (received f at s).indication) rest h k refl refl g.2 (ap (λ ms. ms ++ message_of f (received f at s).indication) h.returned) (full_at_end (finished at (as_step (received f at s))).link k.mine k.theirs (finished_shut at (as_step (received f at s))) k.local) running)
item_comes p w v at (Sup cmd kind pf a) rest h a1 b g running =
    let s : Step = step p.first [] in
    let f : Frame = frame (Sup cmd kind pf a) in
    let k = finished_sim at s (as_step (received f at s)) w v _ _ _ running (inl (supervisory_sim cmd kind pf at s w v a (acks rest) g.0 h.running b h.full h.one)) in
    (k.mine, k.theirs, settled p w v (finished at (as_step (received f at s))) v.underway (acks rest) v.delivered (p.returned ++ []) rest h k a1 refl g.1 (append-nil p.returned ∙ h.returned) (full_at_end (finished at (as_step (received f at s))).link k.mine k.theirs (finished_shut at (as_step (received f at s))) k.local) running)

arrives_keep : (p : Pair) (w v : Direction) (at : ℕ) → Inv p w v → (back : List Item) → v.underway ≡ counts back → w.replies ≡ acks back → Genuine v.submitted back → is_multiple_frame (arrives p at (wire back)).first.state ≡ true → Some_inv (arrives p at (wire back))
arrives_keep p w v at h [] a b g running = (w, v, h)
arrives_keep p w v at h (i ∷ rest) a b g running =
    let e = read_item i v.submitted rest h.short_back g in
    subst (λ o. Some_inv (takes p at (wire rest) o)) (sym e) (item_comes p w v at i rest h a b g (ap (λ o. is_multiple_frame (takes p at (wire rest) o).first.state) (sym e) ∙ running))

plus_none : (n : ℕ) → n + 0 ≡ n
plus_none n = omega arith

less_none : (n : ℕ) → n - 0 ≡ n
less_none n = omega arith

pub lost_sim : (s : Step) (i : Item) (rest : List Item) (w v : Direction) → v.underway ≡ counts (i ∷ rest) → w.replies ≡ acks (i ∷ rest) → Local s.link w v → Sim s (step s.link s.out) w v (counts rest) (acks rest) v.delivered
lost_sim s (Info c a m) rest w v x y h = changed s s.link w v (moved w 0 (acks rest)) (drops v (counts rest)) _ _ _
    (record {
      number = h.number ∙ ap (λ n. n % 128) (sym (plus_none w.acknowledged));
      sent = h.sent ∙ sym (less_none w.sent);
      waiting = h.waiting ∙ ap (λ n. drop n w.submitted) (sym (plus_none w.acknowledged));
      next = h.next;
      sure = λ e. moved_full w 0 (acks rest) (omega arith) (h.sure e);
      one = Holds-moved_missed w a (acks rest) y h.one;
      other = dropped_one v c (counts rest) x h.other;
    }) refl refl refl refl refl refl refl refl refl refl refl
lost_sim s (Sup cmd kind pf a) rest w v x y h = changed s s.link w v (moved w 0 (acks rest)) v _ _ _
    (record {
      number = h.number ∙ ap (λ n. n % 128) (sym (plus_none w.acknowledged));
      sent = h.sent ∙ sym (less_none w.sent);
      waiting = h.waiting ∙ ap (λ n. drop n w.submitted) (sym (plus_none w.acknowledged));
      next = h.next;
      sure = λ e. moved_full w 0 (acks rest) (omega arith) (h.sure e);
      one = Holds-moved_missed w a (acks rest) y h.one;
      other = h.other;
    }) refl refl refl refl refl refl refl refl x refl refl

pub lost_full : (s : Step) (i : Item) (rest : List Item) (w v : Direction) (x : v.underway ≡ counts (i ∷ rest)) (y : w.replies ≡ acks (i ∷ rest)) (h : Local s.link w v) → Full w → Full (lost_sim s i rest w v x y h).mine
unfolding lost_sim changed
lost_full s (Info c a m) rest w v x y h full = moved_full w 0 (acks rest) (omega arith) full
lost_full s (Sup cmd kind pf a) rest w v x y h full = moved_full w 0 (acks rest) (omega arith) full

genuine_rest : (sub : List (List ℕ)) (i : Item) (rest : List Item) → Genuine sub (i ∷ rest) → Genuine sub rest
genuine_rest sub (Info c a m) rest g = g.2
genuine_rest sub (Sup cmd kind pf a) rest g = g.1

loses_keep : (p : Pair) (w v : Direction) → Inv p w v → (back : List Item) → v.underway ≡ counts back → w.replies ≡ acks back → Genuine v.submitted back → Some_inv (loses p (wire back))
loses_keep p w v h [] a b g = (w, v, h)
loses_keep p w v h (i ∷ rest) a b g =
    let k = lost_sim (step p.first []) i rest w v a b h.one in
    (k.mine, k.theirs, settled p w v (step p.first []) (counts rest) (acks rest) v.delivered p.returned rest h k refl refl (genuine_rest v.submitted i rest g) h.returned (lost_full (step p.first []) i rest w v a b h.one h.full) h.running)

-- ---- all

acts_keep : (p : Pair) (w v : Direction) (a : Act) → Inv p w v → is_multiple_frame (acts p a).first.state ≡ true → Some_inv (acts p a)
acts_keep p w v (Submit m at) h = by_test (λ q. is_multiple_frame q.first.state ≡ true → Some_inv q) (nat_le (length m) 112) _ _
    (λ e. submits_keep p w v m at (leb-true (length m) 112 e) h) (λ e running. (w, v, h))
acts_keep p w v (Turn t at) h = turns_keep p w v t at h
acts_keep p w v (Arrive at) h = subst (λ b. is_multiple_frame (arrives p at b).first.state ≡ true → Some_inv (arrives p at b)) (sym h.back_wire) (arrives_keep p w v at h h.back h.back_counts h.back_acks h.back_genuine)
acts_keep p w v Lose h = λ running. subst (λ b. Some_inv (loses p b)) (sym h.back_wire) (loses_keep p w v h h.back h.back_counts h.back_acks h.back_genuine)

next_keeps : (p : Pair) (e : Event) → Some_inv p → is_running (next p e) ≡ true → Some_inv (next p e)
next_keeps p (First a) h running = acts_keep p h.0 h.1 a h.2 (both_true (is_multiple_frame (acts p a).first.state) _ running).0
next_keeps p (Second a) h running =
    let k = acts_keep (mirror p) h.1 h.0 a (turned_over p h.0 h.1 h.2) (both_true (is_multiple_frame (next p (Second a)).first.state) _ running).1 in
    (k.1, k.0, turned_over (acts (mirror p) a) k.0 k.1 k.2)

all_keep : (es : List Event) (p : Pair) → Some_inv p → Some_inv (run es p)
all_keep [] p h = h
all_keep (e ∷ es) p h = by_test Some_inv (is_running (next p e)) _ _ (λ running. all_keep es (next p e) (next_keeps p e h running)) (λ over. h)

fresh_local : (l : DataLink) (ms ns : List (List ℕ)) → IsRenumbered l → ms ≡ l.queue.waiting → Local l (fresh ms) (fresh ns)
fresh_local l ms ns new same = record { number = new.1; sent = new.0; waiting = sym same; next = new.2; sure = λ e. omega arith; one = fresh_holds ms; other = fresh_holds ns }

fresh_inv : (p : Pair) → IsFresh p → Some_inv p
fresh_inv p h = (
  fresh p.submitted,
  fresh p.replied,
  record {
    one = fresh_local p.first p.submitted p.replied h.first h.submitted;
    two = fresh_local p.second p.replied p.submitted h.second h.replied;
    there = [];
    there_wire = h.there;
    there_counts = refl;
    there_acks = refl;
    there_genuine = tt;
    back = [];
    back_wire = h.back;
    back_counts = refl;
    back_acks = refl;
    back_genuine = tt;
    submitted = refl;
    replied = refl;
    arrived = h.arrived;
    returned = h.returned;
    short = h.short.0;
    short_back = h.short.1;
    full = omega arith;
    full_back = omega arith;
    running = (both_true (is_multiple_frame p.first.state) _ h.running).0;
    running_back = (both_true (is_multiple_frame p.first.state) _ h.running).1;
  },
)

pub within : {a b c : ℕ} → a ≤ b → b ≤ c → a ≤ c
within p q = omega (arith, p, q)

delivered_is : (l : DataLink) (w v : Direction) (submitted delivered : List (List ℕ)) → Local l w v → submitted ≡ w.submitted → delivered ≡ w.delivered → IsDelivered submitted delivered l.queue.waiting
delivered_is l w v submitted delivered h a b =
    let k = h.one in
    let same : length delivered ≡ length w.delivered = ap length b in record {
      prefix = b ∙ k.prefix ∙ ap (λ n. take n w.submitted) (sym same) ∙ ap (λ ms. take (length delivered) ms) (sym a);
      acknowledged = w.acknowledged;
      kept = h.waiting ∙ ap (λ ms. drop w.acknowledged ms) (sym a);
      arrived = let x = k.delivered_acknowledged in omega (arith, x, same);
      window = let x = within k.delivered_reached k.reached_acknowledged in omega (arith, x, same);
    }

pub delivered_always : (es : List Event) (p : Pair) → IsFresh p → IsDeliveredBothWays (run es p)
delivered_always es p fresh_pair =
    let h = all_keep es p (fresh_inv p fresh_pair) in
    (delivered_is (run es p).first h.0 h.1 _ _ h.2.one h.2.submitted h.2.arrived, delivered_is (run es p).second h.1 h.0 _ _ h.2.two h.2.replied h.2.returned)

undelivered : (l : DataLink) (w v : Direction) (submitted delivered : List (List ℕ)) → Full w → Local l w v → submitted ≡ w.submitted → delivered ≡ w.delivered → l.queue.sent ≡ 0 → l.queue.waiting ≡ drop (length delivered) submitted
undelivered l w v submitted delivered full h a b none =
    let same : length delivered ≡ length w.delivered = ap length b in
    let c = h.one.delivered_acknowledged in let d = h.one.delivered_reached in let e = h.sent in
    let at : w.acknowledged ≡ length delivered = omega (arith, full, same, c, d, e, none) in
    h.waiting ∙ ap (λ n. drop n w.submitted) at ∙ ap (λ ms. drop (length delivered) ms) (sym a)

pub undelivered_always : (es : List Event) (p : Pair) → IsFresh p → WaitsBothWays (run es p)
undelivered_always es p fresh_pair =
    let h = all_keep es p (fresh_inv p fresh_pair) in
    (undelivered (run es p).first h.0 h.1 _ _ h.2.full h.2.one h.2.submitted h.2.arrived, undelivered (run es p).second h.1 h.0 _ _ h.2.full_back h.2.two h.2.replied h.2.returned)
