-- Each event preserves the window.
use Rattle.std.proofs.Common.{◌≡◌, ℕ, zero, suc, ◌+◌, ◌-◌, ◌<◌, ◌≤◌, Bool, true, false, nat_lt, List, [], ◌∷◌, ◌++◌, length, take, refl, sym, ap, ◌∙◌, arith, subst, if◌then◌else◌}
use Rattle.std.specs.Prelude.{◌%◌, ◌==◌, ◌&&◌, nat_le, slice_index_or, max}
use Rattle.std.proofs.lemmas.Bool.{ltb-true, leb-true, eqb-true}
use Rattle.std.proofs.lemmas.List.{take_more}
use Rattle.std.proofs.Math.Nat.{le-max_left, le-max_right}
use Rattle.link_laws.specs.Window.{Direction, Event, Submit, Send, GoBack, Arrive, Lose, Answer, Acknowledge, Miss, start, may_send, with_next, takes, drops, arrives, loses, beyond, moved, takes_acknowledgement, loses_acknowledgement, happens, run}

-- by cases over a list
abbrev pub Each : (ℕ → Type 0) → List ℕ → Type 0
Each P [] = Unit {0}
Each P (x ∷ xs) = P x × Each P xs

-- each frame is in the window after V(A), was sent, and is at most a window behind the messages that arrived; and none is a
-- window ahead of a later one
abbrev pub Frames : ℕ → ℕ → ℕ → List ℕ → Type 0
Frames acknowledged reached have [] = Unit {0}
Frames acknowledged reached have (c ∷ cs) = (c < acknowledged + 7) × (c < reached) × (have ≤ c + 7) × Each (λ d. c < d + 7) cs × Frames acknowledged reached have cs

-- each acknowledgement is at least V(A), and at most the number of messages that arrived; they rise
abbrev pub Acknowledgements : ℕ → ℕ → List ℕ → Type 0
Acknowledgements acknowledged have [] = Unit {0}
Acknowledgements acknowledged have (a ∷ more) = (acknowledged ≤ a) × (a ≤ have) × Each (λ b. a ≤ b) more × Acknowledgements acknowledged have more

pub record Holds (w : Direction) : Type 0 where
  pub delivered_acknowledged : w.acknowledged ≤ length w.delivered
  pub delivered_reached : length w.delivered ≤ w.reached
  pub reached_acknowledged : w.reached ≤ w.acknowledged + 7
  pub reached_submitted : w.reached ≤ length w.submitted
  pub sent_reached : w.acknowledged + w.sent ≤ w.reached
  pub prefix : w.delivered ≡ take (length w.delivered) w.submitted
  pub frames : Frames w.acknowledged w.reached (length w.delivered) w.underway
  pub acknowledgements : Acknowledgements w.acknowledged (length w.delivered) w.replies

-- ---- lists

each_end : (P : ℕ → Type 0) (xs : List ℕ) (x : ℕ) → Each P xs → P x → Each P (xs ++ x ∷ [])
each_end P [] x h p = (p, tt)
each_end P (y ∷ ys) x h p = (h.0, each_end P ys x h.1 p)

each_same : (P Q : ℕ → Type 0) (xs : List ℕ) → ((x : ℕ) → P x → Q x) → Each P xs → Each Q xs
each_same P Q [] f h = tt
each_same P Q (x ∷ xs) f h = (f x h.0, each_same P Q xs f h.1)

-- ---- frames

frames_end : (acknowledged reached reached' have x : ℕ) (cs : List ℕ) → reached ≤ reached' → acknowledged ≤ x → x < acknowledged + 7 → x < reached' → have ≤ acknowledged + 7 → Frames acknowledged reached have cs → Frames acknowledged reached' have (cs ++ x ∷ [])
frames_end acknowledged reached reached' have x [] replies low high below room h = (high, below, omega (arith, room, low), tt, tt)
frames_end acknowledged reached reached' have x (c ∷ cs) replies low high below room h =
    let first = h.0 in let second = h.1 in
    (first, omega (arith, second, replies), h.2, each_end (λ d. c < d + 7) cs x h.3 (omega (arith, first, low)), frames_end acknowledged reached reached' have x cs replies low high below room h.4)

frames_acked : (acknowledged acknowledged' reached have : ℕ) (cs : List ℕ) → acknowledged ≤ acknowledged' → Frames acknowledged reached have cs → Frames acknowledged' reached have cs
frames_acked acknowledged acknowledged' reached have [] replies h = tt
frames_acked acknowledged acknowledged' reached have (c ∷ cs) replies h =
    let first = h.0 in
    (omega (arith, first, replies), h.1, h.2, h.3, frames_acked acknowledged acknowledged' reached have cs replies h.4)

-- a frame is taken: one more message arrived
frames_taken : (acknowledged reached have c : ℕ) (cs : List ℕ) → Each (λ d. c < d + 7) cs → Frames acknowledged reached have cs → Frames acknowledged reached (c + 1) cs
frames_taken acknowledged reached have c [] near h = tt
frames_taken acknowledged reached have c (d ∷ ds) near h =
    let first = near.0 in
    (h.0, h.1, omega (arith, first), h.3, frames_taken acknowledged reached have c ds near.1 h.4)

-- ---- acknowledgements

acknowledgements_end : (acknowledged have : ℕ) (more : List ℕ) → acknowledged ≤ have → Acknowledgements acknowledged have more → Acknowledgements acknowledged have (more ++ have ∷ [])
acknowledgements_end acknowledged have [] low h = (low, omega arith, tt, tt)
acknowledgements_end acknowledged have (a ∷ more) low h = (h.0, h.1, each_end (λ b. a ≤ b) more have h.2 h.1, acknowledgements_end acknowledged have more low h.3)

acknowledgements_more : (acknowledged have have' : ℕ) (more : List ℕ) → have ≤ have' → Acknowledgements acknowledged have more → Acknowledgements acknowledged have' more
acknowledgements_more acknowledged have have' [] replies h = tt
acknowledgements_more acknowledged have have' (a ∷ more) replies h = let second = h.1 in (h.0, omega (arith, second, replies), h.2, acknowledgements_more acknowledged have have' more replies h.3)

acknowledgements_heard : (acknowledged a have : ℕ) (more : List ℕ) → Each (λ b. a ≤ b) more → Acknowledgements acknowledged have more → Acknowledgements a have more
acknowledgements_heard acknowledged a have [] near h = tt
acknowledgements_heard acknowledged a have (b ∷ bs) near h = (near.0, h.1, h.2, acknowledgements_heard acknowledged a have bs near.1 h.3)

-- ---- numbers modulo 128

same_count : (c have : ℕ) → c < have + 7 → have ≤ c + 7 → c % 128 ≡ have % 128 → c ≡ have
same_count c have high low same = omega (arith, high, low, same)

pub told_exactly : (acknowledged told : ℕ) → acknowledged ≤ told → told ≤ acknowledged + 7 → (told % 128 + 128 - acknowledged % 128) % 128 ≡ told - acknowledged
told_exactly acknowledged told low high = omega (arith, low, high)

-- ---- each event

keep_if : (b : Bool) (x y : Direction) → (b ≡ true → Holds x) → (b ≡ false → Holds y) → Holds (if b then x else y)
keep_if true x y f g = f refl
keep_if false x y f g = g refl

pub both_true : (a b : Bool) → (a && b) ≡ true → (a ≡ true) × (b ≡ true)
both_true true b e = (refl, e)
both_true false b e = absurd (cc)

le_max : (a b : ℕ) → (a ≤ max a b) × (b ≤ max a b)
le_max a b = (le-max_left a b, le-max_right a b)

max_below : (a b c : ℕ) → a ≤ c → b ≤ c → max a b ≤ c
max_below a b c p q = omega (arith, p, q)

pub take_longer : (n : ℕ) (xs ys : List (List ℕ)) → n ≤ length xs → take n (xs ++ ys) ≡ take n xs
take_longer zero xs ys h = refl
take_longer (suc n) [] ys h = absurd (omega (arith, h))
take_longer (suc n) (x ∷ xs) ys h = ap (λ zs. x ∷ zs) (take_longer n xs ys (omega (arith, h)))

pub length-append_one : (xs : List (List ℕ)) (x : List ℕ) → length (xs ++ x ∷ []) ≡ length xs + 1
length-append_one [] x = refl
length-append_one (y ∷ xs) x = let e = length-append_one xs x in omega (arith, e)

pub Holds-Submit : (w : Direction) (x : List ℕ) → Holds w → Holds (happens w (Submit x))
Holds-Submit w x h =
    let long = length-append_one w.submitted x in
    let enough = h.reached_submitted in
    let reached = h.delivered_reached in record {
      delivered_acknowledged = h.delivered_acknowledged;
      delivered_reached = h.delivered_reached;
      reached_acknowledged = h.reached_acknowledged;
      reached_submitted = omega (arith, long, enough);
      sent_reached = h.sent_reached;
      prefix = h.prefix ∙ sym (take_longer (length w.delivered) w.submitted (x ∷ []) (omega (arith, enough, reached)));
      frames = h.frames;
      acknowledgements = h.acknowledgements;
    }

pub sends_one : (w : Direction) → Holds w → w.sent < 7 → w.acknowledged + w.sent < length w.submitted → Holds (with_next w)
sends_one w h ajar waits =
    let a = h.delivered_acknowledged in let b = h.delivered_reached in let c = h.reached_acknowledged in let d = h.reached_submitted in let e = h.sent_reached in
    let m = le_max w.reached (w.acknowledged + w.sent + 1) in record {
      delivered_acknowledged = a;
      delivered_reached = let l = m.0 in omega (arith, b, l);
      reached_acknowledged = max_below w.reached (w.acknowledged + w.sent + 1) (w.acknowledged + 7) c (omega (arith, ajar));
      reached_submitted = max_below w.reached (w.acknowledged + w.sent + 1) (length w.submitted) d (omega (arith, waits));
      sent_reached = let r = m.1 in omega (arith, r);
      prefix = h.prefix;
      frames = frames_end w.acknowledged w.reached (max w.reached (w.acknowledged + w.sent + 1)) (length w.delivered) (w.acknowledged + w.sent) w.underway m.0 (omega arith) (omega (arith, ajar)) (let r = m.1 in omega (arith, r)) (omega (arith, b, c)) h.frames;
      acknowledgements = h.acknowledgements;
    }

Holds-Send : (w : Direction) → Holds w → Holds (happens w Send)
Holds-Send w h = keep_if (may_send w) (with_next w) w
    (λ yes. let b = both_true (nat_lt w.sent 7) (nat_lt (w.acknowledged + w.sent) (length w.submitted)) yes in
    sends_one w h (ltb-true w.sent 7 b.0) (ltb-true (w.acknowledged + w.sent) (length w.submitted) b.1))
    (λ no. h)

pub Holds-GoBack : (w : Direction) → Holds w → Holds (happens w GoBack)
Holds-GoBack w h = let a = h.delivered_acknowledged in let b = h.delivered_reached in record {
  delivered_acknowledged = h.delivered_acknowledged;
  delivered_reached = h.delivered_reached;
  reached_acknowledged = h.reached_acknowledged;
  reached_submitted = h.reached_submitted;
  sent_reached = omega (arith, a, b);
  prefix = h.prefix;
  frames = h.frames;
  acknowledgements = h.acknowledgements;
}

-- a frame arrives

taken_prefix : (submitted delivered : List (List ℕ)) (c : ℕ) → delivered ≡ take (length delivered) submitted → c ≡ length delivered → c < length submitted → (delivered ++ slice_index_or submitted c [] ∷ []) ≡ take (length (delivered ++ slice_index_or submitted c [] ∷ [])) submitted
taken_prefix submitted delivered c same at below =
    let more : take (c + 1) submitted ≡ take c submitted ++ slice_index_or submitted c [] ∷ [] = take_more submitted c [] below in
    let long : length (delivered ++ slice_index_or submitted c [] ∷ []) ≡ c + 1 = length-append_one delivered (slice_index_or submitted c []) ∙ ap (λ n. n + 1) (sym at) in
    let front : delivered ≡ take c submitted = same ∙ ap (λ n. take n submitted) (sym at) in
    ap (λ ys. ys ++ slice_index_or submitted c [] ∷ []) front ∙ sym more ∙ ap (λ n. take n submitted) (sym long)

pub Holds-takes_one : (w : Direction) (c : ℕ) (rest : List ℕ) → Holds w → Frames w.acknowledged w.reached (length w.delivered) (c ∷ rest) → c ≡ length w.delivered → Holds (takes w c rest)
Holds-takes_one w c rest h f at =
    let long : length (w.delivered ++ slice_index_or w.submitted c [] ∷ []) ≡ c + 1 = length-append_one w.delivered (slice_index_or w.submitted c []) ∙ ap (λ n. n + 1) (sym at) in
    let a = h.delivered_acknowledged in let sent = f.1 in let d = h.reached_submitted in record {
      delivered_acknowledged = omega (arith, long, a, at);
      delivered_reached = omega (arith, long, sent);
      reached_acknowledged = h.reached_acknowledged;
      reached_submitted = h.reached_submitted;
      sent_reached = h.sent_reached;
      prefix = taken_prefix w.submitted w.delivered c h.prefix at (omega (arith, sent, d));
      frames = subst (λ n. Frames w.acknowledged w.reached n rest) (sym long) (frames_taken w.acknowledged w.reached (length w.delivered) c rest f.3 f.4);
      acknowledgements = acknowledgements_more w.acknowledged (length w.delivered) (length (w.delivered ++ slice_index_or w.submitted c [] ∷ [])) w.replies (omega (arith, long, at)) h.acknowledgements;
    }

pub drops_one : (w : Direction) (c : ℕ) (rest : List ℕ) → Holds w → Frames w.acknowledged w.reached (length w.delivered) (c ∷ rest) → Holds (drops w rest)
drops_one w c rest h f = record {
  delivered_acknowledged = h.delivered_acknowledged;
  delivered_reached = h.delivered_reached;
  reached_acknowledged = h.reached_acknowledged;
  reached_submitted = h.reached_submitted;
  sent_reached = h.sent_reached;
  prefix = h.prefix;
  frames = f.4;
  acknowledgements = h.acknowledgements;
}

pub arrives_keeps : (w : Direction) (underway : List ℕ) → Holds w → Frames w.acknowledged w.reached (length w.delivered) underway → Holds (arrives w underway)
arrives_keeps w [] h f = h
arrives_keeps w (c ∷ rest) h f = keep_if (c % 128 == length w.delivered % 128) (takes w c rest) (drops w rest)
    (λ yes. let first = f.0 in let low = h.delivered_acknowledged in let third = f.2 in
    Holds-takes_one w c rest h f (same_count c (length w.delivered) (omega (arith, first, low)) third (eqb-true (c % 128) (length w.delivered % 128) yes)))
    (λ no. drops_one w c rest h f)

pub loses_keeps : (w : Direction) (underway : List ℕ) → Holds w → Frames w.acknowledged w.reached (length w.delivered) underway → Holds (loses w underway)
loses_keeps w [] h f = h
loses_keeps w (c ∷ rest) h f = drops_one w c rest h f

-- an acknowledgement

pub Holds-Answer : (w : Direction) → Holds w → Holds (happens w Answer)
Holds-Answer w h = record {
  delivered_acknowledged = h.delivered_acknowledged;
  delivered_reached = h.delivered_reached;
  reached_acknowledged = h.reached_acknowledged;
  reached_submitted = h.reached_submitted;
  sent_reached = h.sent_reached;
  prefix = h.prefix;
  frames = h.frames;
  acknowledgements = acknowledgements_end w.acknowledged (length w.delivered) w.replies h.delivered_acknowledged h.acknowledgements;
}

pub hears_one : (w : Direction) (a d : ℕ) (rest : List ℕ) → Holds w → Acknowledgements w.acknowledged (length w.delivered) (a ∷ rest) → d ≡ a - w.acknowledged → d ≤ w.sent → Holds (moved w d rest)
hears_one w a d rest h f at within =
    let low = f.0 in let high = f.1 in let b = h.reached_acknowledged in let e = h.sent_reached in
    let now : w.acknowledged + d ≡ a = omega (arith, at, low) in record {
      delivered_acknowledged = omega (arith, now, high);
      delivered_reached = h.delivered_reached;
      reached_acknowledged = omega (arith, b);
      reached_submitted = h.reached_submitted;
      sent_reached = omega (arith, e, within);
      prefix = h.prefix;
      frames = frames_acked w.acknowledged (w.acknowledged + d) w.reached (length w.delivered) w.underway (omega arith) h.frames;
      acknowledgements = subst (λ n. Acknowledgements n (length w.delivered) rest) (sym now) (acknowledgements_heard w.acknowledged a (length w.delivered) rest f.2 f.3);
    }

Holds-moved_passes : (w : Direction) (a : ℕ) (rest : List ℕ) → Holds w → Acknowledgements w.acknowledged (length w.delivered) (a ∷ rest) → Holds (moved w 0 rest)
Holds-moved_passes w a rest h f = let b = h.reached_acknowledged in let e = h.sent_reached in let g = h.delivered_acknowledged in record {
  delivered_acknowledged = omega (arith, g);
  delivered_reached = h.delivered_reached;
  reached_acknowledged = omega (arith, b);
  reached_submitted = h.reached_submitted;
  sent_reached = omega (arith, e);
  prefix = h.prefix;
  frames = frames_acked w.acknowledged (w.acknowledged + 0) w.reached (length w.delivered) w.underway (omega arith) h.frames;
  acknowledgements = subst (λ n. Acknowledgements n (length w.delivered) rest) same f.3;
}
  where
    same : w.acknowledged ≡ w.acknowledged + 0
    same = omega arith

pub hears_keeps : (w : Direction) (replies : List ℕ) → Holds w → Acknowledgements w.acknowledged (length w.delivered) replies → Holds (takes_acknowledgement w replies)
hears_keeps w [] h f = h
hears_keeps w (a ∷ rest) h f = keep_if (nat_le (beyond w.acknowledged a) w.sent) (moved w (beyond w.acknowledged a) rest) (moved w 0 rest)
    (λ yes. let low = f.0 in let high = f.1 in let b = h.delivered_reached in let c = h.reached_acknowledged in
    hears_one w a (beyond w.acknowledged a) rest h f (told_exactly w.acknowledged a low (omega (arith, high, b, c))) (leb-true (beyond w.acknowledged a) w.sent yes))
    (λ no. Holds-moved_passes w a rest h f)

pub misses_keeps : (w : Direction) (replies : List ℕ) → Holds w → Acknowledgements w.acknowledged (length w.delivered) replies → Holds (loses_acknowledgement w replies)
misses_keeps w [] h f = h
misses_keeps w (a ∷ rest) h f = Holds-moved_passes w a rest h f

pub Holds-happens : (w : Direction) (e : Event) → Holds w → Holds (happens w e)
Holds-happens w (Submit x) h = Holds-Submit w x h
Holds-happens w Send h = Holds-Send w h
Holds-happens w GoBack h = Holds-GoBack w h
Holds-happens w Arrive h = arrives_keeps w w.underway h h.frames
Holds-happens w Lose h = loses_keeps w w.underway h h.frames
Holds-happens w Answer h = Holds-Answer w h
Holds-happens w Acknowledge h = hears_keeps w w.replies h h.acknowledgements
Holds-happens w Miss h = misses_keeps w w.replies h h.acknowledgements

pub Holds-run : (es : List Event) (w : Direction) → Holds w → Holds (run es w)
Holds-run [] w h = h
Holds-run (e ∷ es) w h = Holds-run es (happens w e) (Holds-happens w e h)

pub holds_always : (es : List Event) → Holds (run es start)
holds_always es = Holds-run es start (record {
  delivered_acknowledged = omega arith;
  delivered_reached = omega arith;
  reached_acknowledged = omega arith;
  reached_submitted = omega arith;
  sent_reached = omega arith;
  prefix = refl;
  frames = tt;
  acknowledgements = tt;
})

-- ---- the oldest frames and acknowledgements, by name

pub if_true : (b : Bool) (x y : Direction) → b ≡ true → Holds (if b then x else y) → Holds x
if_true true x y e h = h
if_true false x y e h = absurd (cc)

pub if_false : (b : Bool) (x y : Direction) → b ≡ false → Holds (if b then x else y) → Holds y
if_false true x y e h = absurd (cc)
if_false false x y e h = h

pub Holds-moved_heard : (w : Direction) (a : ℕ) (rest : List ℕ) → w.replies ≡ a ∷ rest → nat_le (beyond w.acknowledged a) w.sent ≡ true → Holds w → Holds (moved w (beyond w.acknowledged a) rest)
Holds-moved_heard w a rest e valid h = if_true (nat_le (beyond w.acknowledged a) w.sent) _ _ valid (hears_keeps w (a ∷ rest) h (subst (λ rs. Acknowledgements w.acknowledged (length w.delivered) rs) e h.acknowledgements))

pub Holds-moved_missed : (w : Direction) (a : ℕ) (rest : List ℕ) → w.replies ≡ a ∷ rest → Holds w → Holds (moved w 0 rest)
Holds-moved_missed w a rest e h = misses_keeps w (a ∷ rest) h (subst (λ rs. Acknowledgements w.acknowledged (length w.delivered) rs) e h.acknowledgements)

pub Holds-taken_one : (w : Direction) (c : ℕ) (rest : List ℕ) → w.underway ≡ c ∷ rest → (c % 128 == length w.delivered % 128) ≡ true → Holds w → Holds (takes w c rest)
Holds-taken_one w c rest e equal h = if_true (c % 128 == length w.delivered % 128) _ _ equal (arrives_keeps w (c ∷ rest) h (subst (λ cs. Frames w.acknowledged w.reached (length w.delivered) cs) e h.frames))

pub dropped_one : (w : Direction) (c : ℕ) (rest : List ℕ) → w.underway ≡ c ∷ rest → Holds w → Holds (drops w rest)
dropped_one w c rest e h = loses_keeps w (c ∷ rest) h (subst (λ cs. Frames w.acknowledged w.reached (length w.delivered) cs) e h.frames)

-- the window of a direction whose link was just established with these messages
abbrev pub fresh : List (List ℕ) → Direction
fresh messages = record { submitted = messages; acknowledged = 0; sent = 0; reached = 0; delivered = []; underway = []; replies = [] }

pub fresh_holds : (messages : List (List ℕ)) → Holds (fresh messages)
fresh_holds messages = record {
  delivered_acknowledged = omega arith;
  delivered_reached = omega arith;
  reached_acknowledged = omega arith;
  reached_submitted = omega arith;
  sent_reached = omega arith;
  prefix = refl;
  frames = tt;
  acknowledgements = tt;
}
