-- What is on the wires across establishments: the frames of each numbering, apart.
use Rattle.std.proofs.Common.{◌≡◌, ◌≢◌, ◌⊎◌, ℕ, ◌+◌, ◌≤◌, Bool, true, false, List, [], ◌∷◌, ◌++◌, refl, sym, ap, ◌∙◌, subst, inl, inr, arith, if◌then◌else◌, append_assoc, Some}
use Rattle.std.specs.Prelude.{◌==◌, All}
use Rattle.std.proofs.lemmas.Bool.{eq-eqb, ne_eqb}
use Rattle.link_frames.specs.declared.frame.Sender.TheVariants.{Network}
use Rattle.link_frames.specs.declared.frame.Control.TheVariants as control
use Rattle.link_frames.specs.Reading.{reading}
use Rattle.link_frames.specs.Writing.{encoding}
use Rattle.link_procedures.specs.Sending.{command, response}
use Rattle.link_procedures.specs.AnyPeer.{IsShort}
use Rattle.link_laws.specs.Window.{Direction, Submit as WindowSubmit, happens}
use Rattle.link_laws.specs.Handshake.{Signal, Sabme, Ua, Numbered, uas}
use Rattle.link_laws.proofs.WindowLemmas.{Holds, Acknowledgements}
use Rattle.link_laws.proofs.TwoLinksLemmas.{Item, Info, Sup, frame, wire, counts, acks, Genuine, genuine_longer, read_item, clash}

-- a frame; an I or S frame with the numberings of its N(S) and of its N(R)
pub data Token : Type 0 where
  Calls : ℕ → Token
  Answers : ℕ → Token
  Data : ℕ → ℕ → Item → Token

abbrev pub signal : Token → Signal
signal (Calls n) = Sabme n
signal (Answers u) = Ua u
signal (Data h k i) = Numbered h k

abbrev pub signals : List Token → List Signal
signals [] = []
signals (t ∷ ts) = signal t ∷ signals ts

abbrev pub octets_of : Token → List ℕ
octets_of (Calls n) = encoding Network (command (control.Sabme true))
octets_of (Answers u) = encoding Network (response (control.Ua true))
octets_of (Data h k i) = encoding Network (frame i)

abbrev pub octets : List Token → List (List ℕ)
octets [] = []
octets (t ∷ ts) = octets_of t ∷ octets ts

-- the I frames of a numbering
abbrev pub count_of : ℕ → Token → List ℕ
count_of g (Calls n) = []
count_of g (Answers u) = []
count_of g (Data h k i) = if h == g then counts (i ∷ []) else []

abbrev pub infos : ℕ → List Token → List ℕ
infos g [] = []
infos g (t ∷ ts) = count_of g t ++ infos g ts

-- the acknowledgements of a numbering
abbrev pub ack_of : ℕ → Token → List ℕ
ack_of g (Calls n) = []
ack_of g (Answers u) = []
ack_of g (Data h k i) = if k == g then acks (i ∷ []) else []

abbrev pub acks_of : ℕ → List Token → List ℕ
acks_of g [] = []
acks_of g (t ∷ ts) = ack_of g t ++ acks_of g ts

-- the frames that a side with these numberings sends
abbrev pub tagged : ℕ → ℕ → List Item → List Token
tagged g q [] = []
tagged g q (i ∷ is) = Data g q i ∷ tagged g q is

pub signals_append : (ts us : List Token) → signals (ts ++ us) ≡ signals ts ++ signals us
signals_append [] us = refl
signals_append (t ∷ ts) us = ap (λ x. signal t ∷ x) (signals_append ts us)

pub octets_append : (ts us : List Token) → octets (ts ++ us) ≡ octets ts ++ octets us
octets_append [] us = refl
octets_append (t ∷ ts) us = ap (λ x. octets_of t ∷ x) (octets_append ts us)

pub infos_append : (g : ℕ) (ts us : List Token) → infos g (ts ++ us) ≡ infos g ts ++ infos g us
infos_append g [] us = refl
infos_append g (t ∷ ts) us = ap (λ x. count_of g t ++ x) (infos_append g ts us) ∙ sym (append_assoc (count_of g t) (infos g ts) (infos g us))

pub acks_of_append : (g : ℕ) (ts us : List Token) → acks_of g (ts ++ us) ≡ acks_of g ts ++ acks_of g us
acks_of_append g [] us = refl
acks_of_append g (t ∷ ts) us = ap (λ x. ack_of g t ++ x) (acks_of_append g ts us) ∙ sym (append_assoc (ack_of g t) (acks_of g ts) (acks_of g us))

pub octets_tagged : (g q : ℕ) (is : List Item) → octets (tagged g q is) ≡ wire is
octets_tagged g q [] = refl
octets_tagged g q (i ∷ is) = ap (λ x. encoding Network (frame i) ∷ x) (octets_tagged g q is)

if_yes : (b : Bool) (x : List ℕ) → b ≡ true → (if b then x else []) ≡ x
if_yes true x e = refl
if_yes false x e = clash false e refl

if_no : (b : Bool) (x : List ℕ) → b ≡ false → (if b then x else []) ≡ []
if_no true x e = clash true refl e
if_no false x e = refl

pub count_same : (h g k : ℕ) (i : Item) → h ≡ g → count_of g (Data h k i) ≡ counts (i ∷ [])
count_same h g k i e = if_yes (h == g) (counts (i ∷ [])) (eq-eqb h g e)

pub count_other : (g h k : ℕ) (i : Item) → h ≢ g → count_of g (Data h k i) ≡ []
count_other g h k i other = if_no (h == g) (counts (i ∷ [])) (ne_eqb h g other)

pub ack_same : (h k g : ℕ) (i : Item) → k ≡ g → ack_of g (Data h k i) ≡ acks (i ∷ [])
ack_same h k g i e = if_yes (k == g) (acks (i ∷ [])) (eq-eqb k g e)

pub ack_other : (h k g : ℕ) (i : Item) → k ≢ g → ack_of g (Data h k i) ≡ []
ack_other h k g i other = if_no (k == g) (acks (i ∷ [])) (ne_eqb k g other)

counts_cons : (i : Item) (is : List Item) → counts (i ∷ []) ++ counts is ≡ counts (i ∷ is)
counts_cons (Info c a m) is = refl
counts_cons (Sup cmd kind pf a) is = refl

acks_cons : (i : Item) (is : List Item) → acks (i ∷ []) ++ acks is ≡ acks (i ∷ is)
acks_cons (Info c a m) is = refl
acks_cons (Sup cmd kind pf a) is = refl

pub infos_tagged : (g q : ℕ) (is : List Item) → infos g (tagged g q is) ≡ counts is
infos_tagged g q [] = refl
infos_tagged g q (i ∷ is) = ap (λ x. x ++ infos g (tagged g q is)) (count_same g g q i refl) ∙ ap (λ x. counts (i ∷ []) ++ x) (infos_tagged g q is) ∙ counts_cons i is

pub acks_tagged : (g q : ℕ) (is : List Item) → acks_of q (tagged g q is) ≡ acks is
acks_tagged g q [] = refl
acks_tagged g q (i ∷ is) = ap (λ x. x ++ acks_of q (tagged g q is)) (ack_same g q q i refl) ∙ ap (λ x. acks (i ∷ []) ++ x) (acks_tagged g q is) ∙ acks_cons i is

pub acks_tagged_other : (g q r : ℕ) (is : List Item) → q ≢ r → acks_of r (tagged g q is) ≡ []
acks_tagged_other g q r [] other = refl
acks_tagged_other g q r (i ∷ is) other = ap (λ x. x ++ acks_of r (tagged g q is)) (ack_other g q r i other) ∙ acks_tagged_other g q r is other

-- ---- what a frame on the wire of a sender is: g is the numbering of the sender, d its window, and k the numbering of the receiver

abbrev pub Good : ℕ → ℕ → Direction → Token → Type 0
Good g k d (Calls n) = Unit {0}
Good g k d (Answers u) = u ≡ g → d.delivered ≡ []
Good g k d (Data h q i) = (reading Network (encoding Network (frame i)) ≡ Some (frame i)) × (h ≡ g → Genuine d.submitted (i ∷ [])) × (h ≤ g) × (q ≤ k + 1)

abbrev pub AllGood : ℕ → ℕ → Direction → List Token → Type 0
AllGood g k d [] = Unit {0}
AllGood g k d (t ∷ ts) = Good g k d t × AllGood g k d ts

pub good_append : (g k : ℕ) (d : Direction) (ts us : List Token) → AllGood g k d ts → AllGood g k d us → AllGood g k d (ts ++ us)
good_append g k d [] us a b = b
good_append g k d (t ∷ ts) us a b = (a.0, good_append g k d ts us a.1 b)

-- an answer is on the wire only if nothing of its numbering was delivered
pub good_same : (g k : ℕ) (d e : Direction) (ts : List Token) → e.submitted ≡ d.submitted → (e.delivered ≡ d.delivered) ⊎ (uas (signals ts) ≡ 0) → AllGood g k d ts → AllGood g k e ts
good_same g k d e [] a b h = tt
good_same g k d e (Calls n ∷ ts) a b h = (tt, good_same g k d e ts a b h.1)
good_same g k d e (Answers u ∷ ts) a (inl b) h = (λ same. b ∙ h.0 same, good_same g k d e ts a (inl b) h.1)
good_same g k d e (Answers u ∷ ts) a (inr b) h = absurd (omega (arith, b))
good_same g k d e (Data n q i ∷ ts) a b h = ((h.0.0, λ same. subst (λ s. Genuine s (i ∷ [])) (sym a) (h.0.1 same), h.0.2, h.0.3), good_same g k d e ts a b h.1)

pub good_longer : (g k : ℕ) (d : Direction) (m : List ℕ) (ts : List Token) → AllGood g k d ts → AllGood g k (happens d (WindowSubmit m)) ts
good_longer g k d m [] h = tt
good_longer g k d m (Calls n ∷ ts) h = (tt, good_longer g k d m ts h.1)
good_longer g k d m (Answers u ∷ ts) h = (h.0, good_longer g k d m ts h.1)
good_longer g k d m (Data n q i ∷ ts) h = ((h.0.0, λ same. genuine_longer d.submitted m (i ∷ []) (h.0.1 same), h.0.2, h.0.3), good_longer g k d m ts h.1)

-- the receiver begins another numbering
pub good_beside : (g k : ℕ) (d : Direction) (ts : List Token) → AllGood g k d ts → AllGood g (k + 1) d ts
good_beside g k d [] h = tt
good_beside g k d (Calls n ∷ ts) h = (tt, good_beside g k d ts h.1)
good_beside g k d (Answers u ∷ ts) h = (h.0, good_beside g k d ts h.1)
good_beside g k d (Data n q i ∷ ts) h = let low = h.0.3 in ((h.0.0, h.0.1, h.0.2, omega (arith, low)), good_beside g k d ts h.1)

-- a numbering that begins with these messages; these acknowledgements are on the wire to its sender
abbrev pub ahead : List (List ℕ) → List ℕ → Direction
ahead messages replies = record { submitted = messages; acknowledged = 0; sent = 0; reached = 0; delivered = []; underway = []; replies = replies }

pub good_begun : (g k : ℕ) (d : Direction) (messages : List (List ℕ)) (replies : List ℕ) (ts : List Token) → AllGood g k d ts → AllGood (g + 1) k (ahead messages replies) ts
good_begun g k d messages replies [] h = tt
good_begun g k d messages replies (Calls n ∷ ts) h = (tt, good_begun g k d messages replies ts h.1)
good_begun g k d messages replies (Answers u ∷ ts) h = (λ same. refl, good_begun g k d messages replies ts h.1)
good_begun g k d messages replies (Data n q i ∷ ts) h = let low = h.0.2 in ((h.0.0, λ same. absurd (omega (arith, low, same)), omega (arith, low), h.0.3), good_begun g k d messages replies ts h.1)

genuine_one : (sub : List (List ℕ)) (i : Item) (is : List Item) → Genuine sub (i ∷ is) → Genuine sub (i ∷ []) × Genuine sub is
genuine_one sub (Info c a m) is h = ((h.0, h.1, tt), h.2)
genuine_one sub (Sup cmd kind pf a) is h = ((h.0, tt), h.1)

pub good_tagged : (g k q : ℕ) (d : Direction) (is : List Item) → All IsShort d.submitted → q ≤ k + 1 → Genuine d.submitted is → AllGood g k d (tagged g q is)
good_tagged g k q d [] short low h = tt
good_tagged g k q d (i ∷ is) short low h = let p = genuine_one d.submitted i is h in ((read_item i d.submitted is short h, λ same. p.0, omega arith, low), good_tagged g k q d is short low p.1)

-- nothing of a numbering that has not begun is on the wire
pub none_infos : (g k : ℕ) (d : Direction) (ts : List Token) → AllGood g k d ts → infos (g + 1) ts ≡ []
none_infos g k d [] h = refl
none_infos g k d (Calls n ∷ ts) h = none_infos g k d ts h.1
none_infos g k d (Answers u ∷ ts) h = none_infos g k d ts h.1
none_infos g k d (Data n q i ∷ ts) h = let low = h.0.2 in ap (λ x. x ++ infos (g + 1) ts) (count_other (g + 1) n q i (λ e. omega (arith, low, e))) ∙ none_infos g k d ts h.1

pub none_acks : (g k : ℕ) (d : Direction) (ts : List Token) → AllGood g k d ts → acks_of (k + 1 + 1) ts ≡ []
none_acks g k d [] h = refl
none_acks g k d (Calls n ∷ ts) h = none_acks g k d ts h.1
none_acks g k d (Answers u ∷ ts) h = none_acks g k d ts h.1
none_acks g k d (Data n q i ∷ ts) h = let low = h.0.3 in ap (λ x. x ++ acks_of (k + 1 + 1) ts) (ack_other n q (k + 1 + 1) i (λ e. omega (arith, low, e))) ∙ none_acks g k d ts h.1

-- ---- windows

pub ahead_holds : (messages : List (List ℕ)) (replies : List ℕ) → Acknowledgements 0 0 replies → Holds (ahead messages replies)
ahead_holds messages replies h = record {
  delivered_acknowledged = omega arith;
  delivered_reached = omega arith;
  reached_acknowledged = omega arith;
  reached_submitted = omega arith;
  sent_reached = omega arith;
  prefix = refl;
  frames = tt;
  acknowledgements = h;
}
