-- What of a side's epochs was delivered, from the window of its numbering.
use Rattle.std.proofs.Common.{◌≡◌, ◌⊎◌, ℕ, zero, suc, ◌+◌, ◌%◌, ◌≤◌, true, false, List, [], ◌∷◌, ◌++◌, length, take, drop, refl, sym, ap, ◌∙◌, inl, inr, arith, append_assoc, append-nil, length-append}
use Rattle.link_procedures.specs.Links.{DataLink, is_up}
use Rattle.link_laws.specs.Window.{Direction, Submit as WindowSubmit, happens}
use Rattle.link_laws.specs.Epochs.{with_message, IsParted, HasArrivedFrom}
use Rattle.link_laws.proofs.WindowLemmas.{Holds, take_longer}
use Rattle.link_laws.proofs.TwoLinksLemmas.{Full, ready}
use Rattle.link_laws.proofs.WireLemmas.{ahead}

-- the queue of a link is what its window has not acknowledged
pub record Sending (l : DataLink) (d : Direction) : Type 0 where
  pub number : l.queue.acknowledged ≡ d.acknowledged % 128
  pub sent : l.queue.sent ≡ d.sent
  pub waiting : l.queue.waiting ≡ drop d.acknowledged d.submitted
  pub sure : ready l ≡ false → Full d

-- the messages of the window belong to this epoch: after base, and before what was lost
pub record Active (d : Direction) (epoch : List (List ℕ)) (older : List (List (List ℕ))) (taken : List (List ℕ)) : Type 0 where
  pub base : List (List ℕ)
  pub lost : List (List ℕ)
  pub before : List (List ℕ)
  pub whole : epoch ≡ base ++ (d.submitted ++ lost)
  pub got : taken ≡ before ++ (base ++ d.delivered)
  pub parted : IsParted older before

abbrev pub Told : Direction → List (List (List ℕ)) → List (List ℕ) → Type 0
Told d [] taken = ⊥
Told d (epoch ∷ older) taken = Active d epoch older taken ⊎ Told d older taken

-- nothing of the newest epoch is lost
abbrev pub Current : Direction → List (List (List ℕ)) → List (List ℕ) → Type 0
Current d [] taken = ⊥
Current d (epoch ∷ older) taken = (k : Active d epoch older taken) × (k.lost ≡ [])

pub record Tale (l : DataLink) (d : Direction) (epochs : List (List (List ℕ))) (taken : List (List ℕ)) : Type 0 where
  pub told : Told d epochs taken
  pub current : is_up l ≡ true → Current d epochs taken
  pub owed : is_up l ≡ true → l.owed ≡ false

pub told_of : (d : Direction) (es : List (List (List ℕ))) (taken : List (List ℕ)) → Current d es taken → Told d es taken
told_of d [] taken h = elim h [ ]
told_of d (epoch ∷ older) taken h = inl h.0

active_moves : (d e : Direction) (epoch : List (List ℕ)) (older : List (List (List ℕ))) (taken now ms : List (List ℕ)) → e.submitted ≡ d.submitted → e.delivered ≡ d.delivered ++ ms → now ≡ taken ++ ms → Active d epoch older taken → Active e epoch older now
active_moves d e epoch older taken now ms a b c h = record {
  base = h.base;
  lost = h.lost;
  before = h.before;
  whole = h.whole ∙ ap (λ s. h.base ++ (s ++ h.lost)) (sym a);
  got = c ∙ ap (λ t. t ++ ms) h.got ∙ append_assoc h.before (h.base ++ d.delivered) ms ∙ ap (λ t. h.before ++ t) (append_assoc h.base d.delivered ms) ∙ ap (λ t. h.before ++ (h.base ++ t)) (sym b);
  parted = h.parted;
}

pub told_moves : (d e : Direction) (es : List (List (List ℕ))) (taken now ms : List (List ℕ)) → e.submitted ≡ d.submitted → e.delivered ≡ d.delivered ++ ms → now ≡ taken ++ ms → Told d es taken → Told e es now
told_moves d e [] taken now ms a b c h = h
told_moves d e (epoch ∷ older) taken now ms a b c (inl h) = inl (active_moves d e epoch older taken now ms a b c h)
told_moves d e (epoch ∷ older) taken now ms a b c (inr h) = inr (told_moves d e older taken now ms a b c h)

pub current_moves : (d e : Direction) (es : List (List (List ℕ))) (taken now ms : List (List ℕ)) → e.submitted ≡ d.submitted → e.delivered ≡ d.delivered ++ ms → now ≡ taken ++ ms → Current d es taken → Current e es now
unfolding active_moves
current_moves d e [] taken now ms a b c h = h
current_moves d e (epoch ∷ older) taken now ms a b c h = (active_moves d e epoch older taken now ms a b c h.0, h.1)

pub told_submits : (d : Direction) (m : List ℕ) (es : List (List (List ℕ))) (taken : List (List ℕ)) → Told d es taken → Told d (with_message m es) taken
told_submits d m [] taken h = elim h [ ]
told_submits d m (epoch ∷ older) taken (inr h) = inr h
told_submits d m (epoch ∷ older) taken (inl h) = inl (record {
  base = h.base;
  lost = h.lost ++ m ∷ [];
  before = h.before;
  whole = ap (λ x. x ++ m ∷ []) h.whole ∙ append_assoc h.base (d.submitted ++ h.lost) (m ∷ []) ∙ ap (λ x. h.base ++ x) (append_assoc d.submitted h.lost (m ∷ []));
  got = h.got;
  parted = h.parted;
})

pub current_submits : (d : Direction) (m : List ℕ) (es : List (List (List ℕ))) (taken : List (List ℕ)) → Current d es taken → Current (happens d (WindowSubmit m)) (with_message m es) taken
current_submits d m [] taken h = elim h [ ]
current_submits d m (epoch ∷ older) taken h = (
  record {
    base = h.0.base;
    lost = [];
    before = h.0.before;
    whole = ap (λ x. x ++ m ∷ []) (h.0.whole ∙ ap (λ x. h.0.base ++ (d.submitted ++ x)) h.1 ∙ ap (λ x. h.0.base ++ x) (append-nil d.submitted)) ∙ append_assoc h.0.base d.submitted (m ∷ []) ∙ ap (λ x. h.0.base ++ x) (sym (append-nil (d.submitted ++ m ∷ [])));
    got = h.0.got;
    parted = h.0.parted;
  },
  refl,
)

-- ---- what follows

take_base : (base submitted lost delivered : List (List ℕ)) → delivered ≡ take (length delivered) submitted → length delivered ≤ length submitted → take (length (base ++ delivered)) (base ++ (submitted ++ lost)) ≡ base ++ delivered
take_base [] submitted lost delivered e few = take_longer (length delivered) submitted lost few ∙ sym e
take_base (x ∷ base) submitted lost delivered e few = ap (λ xs. x ∷ xs) (take_base base submitted lost delivered e few)

within : {a b c : ℕ} → a ≤ b → b ≤ c → a ≤ c
within p q = omega (arith, p, q)

pub parted_of : (d : Direction) (es : List (List (List ℕ))) (taken : List (List ℕ)) → Holds d → Told d es taken → IsParted es taken
parted_of d [] taken k h = elim h [ ]
parted_of d (epoch ∷ older) taken k (inl h) = (
  length (h.base ++ d.delivered),
  h.before,
  h.got ∙ ap (λ x. h.before ++ x) (sym (ap (λ x. take (length (h.base ++ d.delivered)) x) h.whole ∙ take_base h.base d.submitted h.lost d.delivered k.prefix (within k.delivered_reached k.reached_submitted))),
  h.parted,
)
parted_of d (epoch ∷ older) taken k (inr h) = (0, taken, sym (append-nil taken), parted_of d older taken k h)

zero_plus : (n : ℕ) → 0 + n ≡ n
zero_plus n = omega arith

suc_plus : (m n : ℕ) → suc m + n ≡ suc (m + n)
suc_plus m n = omega arith

drop_base : (base submitted : List (List ℕ)) (n : ℕ) → drop (length base + n) (base ++ submitted) ≡ drop n submitted
drop_base [] submitted n = ap (λ k. drop k submitted) (zero_plus n)
drop_base (x ∷ base) submitted n = ap (λ k. drop k (x ∷ (base ++ submitted))) (suc_plus (length base) n) ∙ drop_base base submitted n

plus : (a b c : ℕ) → a ≡ b → c + a ≡ c + b
plus a b c e = omega (arith, e)

pub arrived_of : (l : DataLink) (d : Direction) (es : List (List (List ℕ))) (taken : List (List ℕ)) → Holds d → Sending l d → Full d → Current d es taken → HasArrivedFrom l.queue es taken
arrived_of l d [] taken k s full h = h
arrived_of l d (epoch ∷ older) taken k s full h =
    let base = h.0.base in
    let whole : epoch ≡ base ++ d.submitted = h.0.whole ∙ ap (λ x. base ++ (d.submitted ++ x)) h.1 ∙ ap (λ x. base ++ x) (append-nil d.submitted) in
    let long : length (base ++ d.delivered) ≡ length base + length d.delivered = length-append base d.delivered in
    let all : length epoch ≡ length base + length d.submitted = ap length whole ∙ length-append base d.submitted in
    let a = k.delivered_acknowledged in let b = k.delivered_reached in let c = k.reached_acknowledged in let e = k.reached_submitted in
    let p = parted_of d (epoch ∷ older) taken k (inl h.0) in record {
      before = h.0.before;
      parted = h.0.parted;
      part = length (base ++ d.delivered);
      taken = h.0.got ∙ ap (λ x. h.0.before ++ x) (sym (ap (λ x. take (length (base ++ d.delivered)) x) h.0.whole ∙ take_base base d.submitted h.0.lost d.delivered k.prefix (within k.delivered_reached k.reached_submitted)));
      acknowledged = length base + d.acknowledged;
      kept = s.waiting ∙ sym (ap (λ x. drop (length base + d.acknowledged) x) whole ∙ drop_base base d.submitted d.acknowledged);
      arrived = omega (arith, long, a);
      unacknowledged = let f = full in let g = s.sent in omega (arith, long, b, f, g);
      window = let g = s.sent in let f = k.sent_reached in omega (arith, c, f, g);
      submitted = omega (arith, long, all, b, e);
    }

-- a numbering begins with an indication
pub told_begins : (d : Direction) (replies : List ℕ) (es : List (List (List ℕ))) (taken : List (List ℕ)) → Holds d → Told d es taken → Current (ahead [] replies) ([] ∷ es) taken
told_begins d replies es taken k h = (record { base = []; lost = []; before = taken; whole = refl; got = sym (append-nil taken); parted = parted_of d es taken k h }, refl)

-- or without one: nothing is unacknowledged, and the messages go on waiting
settled_split : (submitted delivered waiting : List (List ℕ)) (n : ℕ) → delivered ≡ take (length delivered) submitted → length delivered ≡ n → waiting ≡ drop n submitted → submitted ≡ delivered ++ waiting
settled_split submitted delivered waiting n e f g = sym (ap (λ x. x ++ waiting) (e ∙ ap (λ k. take k submitted) f) ∙ ap (λ x. take n submitted ++ x) g ∙ take_drop n submitted)
  where
    take_drop : (n : ℕ) (xs : List (List ℕ)) → take n xs ++ drop n xs ≡ xs
    take_drop zero xs = refl
    take_drop (suc n) [] = refl
    take_drop (suc n) (x ∷ xs) = ap (λ ys. x ∷ ys) (take_drop n xs)

pub told_goes_on : (l : DataLink) (d : Direction) (replies : List ℕ) (es : List (List (List ℕ))) (taken : List (List ℕ)) → Holds d → Sending l d → Full d → l.queue.sent ≡ 0 → Current d es taken → Current (ahead l.queue.waiting replies) es taken
told_goes_on l d replies [] taken k s full none h = h
told_goes_on l d replies (epoch ∷ older) taken k s full none h =
    let a = k.delivered_acknowledged in let b = k.delivered_reached in let c = full in let e = s.sent in
    let at : length d.delivered ≡ d.acknowledged = omega (arith, a, b, c, e, none) in
    let split = settled_split d.submitted d.delivered l.queue.waiting d.acknowledged k.prefix at s.waiting in (
      record {
        base = h.0.base ++ d.delivered;
        lost = [];
        before = h.0.before;
        whole = h.0.whole ∙ ap (λ x. h.0.base ++ (d.submitted ++ x)) h.1 ∙ ap (λ x. h.0.base ++ x) (append-nil d.submitted) ∙ ap (λ x. h.0.base ++ x) split ∙ sym (append_assoc h.0.base d.delivered l.queue.waiting) ∙ ap (λ x. (h.0.base ++ d.delivered) ++ x) (sym (append-nil l.queue.waiting));
        got = h.0.got ∙ ap (λ x. h.0.before ++ x) (sym (append-nil (h.0.base ++ d.delivered)));
        parted = h.0.parted;
      },
      refl,
    )
