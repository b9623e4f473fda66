-- The invariant of a table, after the step of one link.
use Rattle.std.proofs.Common.{◌≡◌, ◌≢◌, ◌⊎◌, ℕ, zero, suc, ◌+◌, ◌-◌, ◌<◌, ◌≤◌, Bool, true, false, List, [], ◌∷◌, ◌++◌, length, replicate, map, refl, sym, ap, ◌∙◌, subst, inl, inr, arith, Some, None, get_or-set_same, get_or-set_other}
use Rattle.std.specs.Prelude.{Option, slice_index_or, is_some}
use Rattle.std.proofs.lemmas.Bool.{cases_eq}
use Rattle.std.proofs.lemmas.List.{length-append, length-replicate}
use Rattle.link_frames.specs.declared.frame.Frame.{Frame}
use Rattle.link_frames.specs.Reading.{IsNumbered}
use Rattle.link_procedures.specs.declared.state.LinkTimers.{LinkTimers}
use Rattle.link_procedures.specs.Links.{DataLink, SendQueue, Step, step, initial}
use Rattle.link_procedures.specs.Sending.{finished}
use Rattle.link_procedures.specs.Establishment.{Outcome, submitted}
use Rattle.link_procedures.specs.Receiving.{received}
use Rattle.link_procedures.specs.Timing.{turned}
use Rattle.link_procedures.specs.AnyPeer.{IsShort, IsLink, HasSent}
use Rattle.link_procedures.proofs.AnyPeerLemmas.{Taken, received_processed, submitted_taken, finished_flushed, flushed_sent, turned_turned, initial_link}
use Rattle.link_table.specs.Tables.{Table, IsLinkOf, with_link, link_of, new_link}
use Rattle.link_table.specs.Steps.{marked}
use Rattle.link_table.specs.Rest.{sendable, IsAtRest, IsWithin, IsBounded, AreLinks, IsTable}
use Rattle.link_table.proofs.RestLemmas.{Submits, initial_rest, sendable_few, finished_rest, finished_few, submitted_submits, submitted_rest, turned_rest}

-- ---- options

abbrev the_link : DataLink → Option DataLink → DataLink
the_link d None = d
the_link d (Some l) = l

abbrev the_line : ℕ → Option ℕ → ℕ
the_line d None = d
the_line d (Some n) = n

no_line : (r : Option ℕ) (n : ℕ) → r ≡ None → r ≢ Some n
no_line r n e d = absurd (cc)

found : (o : Option DataLink) → is_some o ≡ true → (l : DataLink) × (o ≡ Some l)
found None e = absurd (cc)
found (Some l) e = (l, refl)

pub linked : (links : List (Option DataLink)) (line : ℕ) (b : Bool) → b ≡ is_some (slice_index_or links line None) → b ≡ true → (l : DataLink) × IsLinkOf links line l
linked links line b told holds = found (slice_index_or links line None) (sym told ∙ holds)

-- ---- the links

inside : (links : List (Option DataLink)) (line : ℕ) (l : DataLink) → IsLinkOf links line l → line < length links
inside [] line l e = absurd (cc)
inside (x ∷ xs) zero l e = omega arith
inside (x ∷ xs) (suc n) l e = let h = inside xs n l e in omega (arith, h)

here : (links : List (Option DataLink)) (line : ℕ) (l m : DataLink) → IsLinkOf links line l → IsLinkOf (with_link line m links) line m
here links line l m e = get_or-set_same links line (Some m) None (inside links line l e)

linked_after : (links : List (Option DataLink)) (r now : Option ℕ) (line : ℕ) (l m : DataLink) → IsLinkOf links line l → AreLinks links r → IsLink m
    → (now ≢ Some line → IsAtRest m) → ((n : ℕ) → n ≢ line → now ≢ Some n → r ≢ Some n) → AreLinks (with_link line m links) now
linked_after links r now line l m e h ranges rest others = record {
  ranges = λ n x at. range_by n x at (cases_eq n line);
  rest = λ n x at free. rest_by n x at free (cases_eq n line);
}
  where
    same : (n : ℕ) (x : DataLink) → IsLinkOf (with_link line m links) n x → n ≡ line → m ≡ x
    same n x at is = ap (the_link m) (sym (here links line l m e) ∙ ap (λ k. slice_index_or (with_link line m links) k None) (sym is) ∙ at)

    other : (n : ℕ) (x : DataLink) → IsLinkOf (with_link line m links) n x → n ≢ line → IsLinkOf links n x
    other n x at not = sym (get_or-set_other links line n (Some m) None not) ∙ at

    range_by : (n : ℕ) (x : DataLink) → IsLinkOf (with_link line m links) n x → (n ≡ line) ⊎ (n ≡ line → ⊥) → IsLink x
    range_by n x at (inl is) = subst IsLink (same n x at is) ranges
    range_by n x at (inr not) = h.ranges n x (other n x at not)

    rest_by : (n : ℕ) (x : DataLink) → IsLinkOf (with_link line m links) n x → now ≢ Some n → (n ≡ line) ⊎ (n ≡ line → ⊥) → IsAtRest x
    rest_by n x at free (inl is) = subst IsAtRest (same n x at is) (rest (subst (λ k. now ≢ Some k) is free))
    rest_by n x at free (inr not) = h.rest n x (other n x at not) (others n not free)

-- ---- the lines of the frames

marked_length : (line : ℕ) (lines : List ℕ) (frames : List (List ℕ)) → length lines ≤ length frames → length (marked line lines frames) ≡ length frames
marked_length line lines frames h =
    let a = length-append lines (replicate (length frames - length lines) line) in
    let b = length-replicate (length frames - length lines) line in
    omega (arith, a, b, h)

grown : (q : SendQueue) (r : ℕ) (a b : List (List ℕ)) → HasSent q r a b → length a ≤ length b
grown q r a b h =
    let e : length b ≡ length (a ++ h.sent) = ap length h.appended in
    let f = length-append a h.sent in
    omega (arith, e, f)

-- ---- bounds

pub bounded_few : (t : Table) → IsTable t → length t.frames ≤ 10 + t.messages
bounded_few t h = by t.receiving h.bounded
  where
    within : (o : Option DataLink) → IsWithin o t → length t.frames ≤ 10 + t.messages
    within None b = absurd b
    within (Some l) (inl b) = omega (arith, b)
    within (Some l) (inr (z, b)) = omega (arith, b)

    by : (r : Option ℕ) → IsBounded r t → length t.frames ≤ 10 + t.messages
    by None b = b
    by (Some n) b = within (link_of n t) b

pub room_for : (t : Table) → IsTable t → t.messages < 64 → length t.frames + 7 ≤ 80
room_for t h more = let few = bounded_few t h in omega (arith, few, more)

-- ---- a received frame

pub received_table : (t : Table) (line at : ℕ) (l : DataLink) (f : Frame) (links : List (Option DataLink)) (lines : List ℕ) (frames : List (List ℕ))
    → IsTable t → t.receiving ≡ None → t.frames ≡ [] → IsLinkOf t.links line l → IsNumbered f.control
    → links ≡ with_link line (received f at (step l t.frames)).link t.links → frames ≡ (received f at (step l t.frames)).out
    → lines ≡ marked line t.lines frames → length frames ≤ length t.frames + 2
    → IsTable (record { links = links; receiving = Some line; messages = t.messages; lines = lines; frames = frames })
received_table t line at l f links lines frames h free none e number links_are frames_are lines_are few =
    let o : Outcome = received f at (step l t.frames) in
    let now : Table = record { links = links; receiving = Some line; messages = t.messages; lines = lines; frames = frames } in
    let p = received_processed f at (step l t.frames) number in
    let range = h.links.ranges line l e in
    let long = grown o.link.queue o.link.received t.frames o.out (p.sent range) in
    let same : length frames ≡ length o.out = ap length frames_are in
    let pairs = h.marked in
    let empty : length t.frames ≡ 0 = ap length none in record {
      links = subst (λ ls. AreLinks ls (Some line)) (sym links_are)
          (linked_after t.links t.receiving (Some line) line l o.link e h.links (p.ranges range) (λ no. absurd (no refl)) (λ n not on. no_line t.receiving n free));
      bounded = subst (λ x. IsWithin x now) (sym (ap (λ ls. slice_index_or ls line None) links_are ∙ here t.links line l o.link e)) (inl (omega (arith, few, empty)));
      marked = ap length lines_are ∙ marked_length line t.lines frames (omega (arith, pairs, long, same));
      messages = h.messages;
    }

-- ---- a message

within_more : (o : Option DataLink) (t u : Table) → length u.frames ≤ length t.frames + 1 → u.messages ≡ t.messages + 1 → IsWithin o t → IsWithin o u
within_more None t u few more w = w
within_more (Some l) t u few more (inl b) = inl (omega (arith, b, few, more))
within_more (Some l) t u few more (inr (z, b)) = inr (z, omega (arith, b, few, more))

-- the link that received a frame has sent all that it may
within_flushed : (l m : DataLink) (t u : Table) → sendable m ≡ 0 → length u.frames ≤ length t.frames + 7
    → length u.frames ≤ length t.frames + sendable l + 1 → u.messages ≡ t.messages + 1 → IsWithin (Some l) t → IsWithin (Some m) u
within_flushed l m t u shut seven few more (inl b) = inr (shut, omega (arith, b, seven, more))
within_flushed l m t u shut seven few more (inr (z, b)) = inr (shut, omega (arith, b, z, few, more))

pub submitted_table : (t : Table) (line at : ℕ) (l : DataLink) (m : List ℕ) (links : List (Option DataLink)) (lines : List ℕ) (frames : List (List ℕ))
    → IsTable t → t.messages < 64 → IsShort m → IsLinkOf t.links line l
    → links ≡ with_link line (submitted m at (step l t.frames)).link t.links → frames ≡ (submitted m at (step l t.frames)).out
    → lines ≡ marked line t.lines frames → length frames ≤ length t.frames + 7
    → IsTable (record { links = links; receiving = t.receiving; messages = t.messages + 1; lines = lines; frames = frames })
submitted_table t line at l m links lines frames h room short e links_are frames_are lines_are seven =
    let pairs = h.marked in record {
      links = subst (λ ls. AreLinks ls t.receiving) (sym links_are)
          (linked_after t.links t.receiving t.receiving line l u.link e h.links (w.ranges short range) (λ free. submitted_rest m at (step l t.frames) (h.links.rest line l e free)) (λ n not free. free));
      bounded = bounded_by t.receiving refl;
      marked = ap length lines_are ∙ marked_length line t.lines frames (omega (arith, pairs, long, same));
      messages = omega (arith, room);
    }
  where
    u : Step
    u = submitted m at (step l t.frames)

    now : Table
    now = record { links = links; receiving = t.receiving; messages = t.messages + 1; lines = lines; frames = frames }

    k : Submits (step l t.frames) u
    k = submitted_submits m at (step l t.frames)

    w : Taken m (step l t.frames) u
    w = submitted_taken m at (step l t.frames)

    range : IsLink l
    range = h.links.ranges line l e

    long : length t.frames ≤ length u.out
    long = grown u.link.queue u.link.received t.frames u.out (w.sent short range)

    same : length frames ≡ length u.out
    same = ap length frames_are

    few : length frames ≤ length t.frames + sendable l + 1
    few = let a = k.few in let b = same in omega (arith, a, b)

    one : t.receiving ≢ Some line → length frames ≤ length t.frames + 1
    one free = let a = few in let b = (h.links.rest line l e free).quiet in omega (arith, a, b)

    own : link_of line now ≡ Some u.link
    own = ap (λ ls. slice_index_or ls line None) links_are ∙ here t.links line l u.link e

    line_by : (n : ℕ) → t.receiving ≡ Some n → IsWithin (link_of n t) t → (n ≡ line) ⊎ (n ≡ line → ⊥) → IsWithin (link_of n now) now
    line_by n on b (inl is) =
        subst (λ j. IsWithin (link_of j now) now) (sym is) (subst (λ x. IsWithin x now) (sym own)
        (within_flushed l u.link t now k.none seven few refl (subst (λ x. IsWithin x t) e (subst (λ j. IsWithin (link_of j t) t) is b))))
    line_by n on b (inr not) =
        subst (λ x. IsWithin x now) (sym (ap (λ ls. slice_index_or ls n None) links_are ∙ get_or-set_other t.links line n (Some u.link) None not))
        (within_more (link_of n t) t now (one (λ d. not (ap (the_line n) (sym on ∙ d)))) refl b)

    bounded_by : (r : Option ℕ) → t.receiving ≡ r → IsBounded r now
    bounded_by None on = let a = one (no_line t.receiving line on) in let b : length t.frames ≤ 10 + t.messages = subst (λ r. IsBounded r t) on h.bounded in omega (arith, a, b)
    bounded_by (Some n) on = line_by n on (subst (λ r. IsBounded r t) on h.bounded) (cases_eq n line)

-- a line without a link has no frames of layer 2
pub plain_table : (t : Table) (line : ℕ) (m : List ℕ) (lines : List ℕ) (frames : List (List ℕ)) → IsTable t → t.messages < 64
    → lines ≡ t.lines ++ line ∷ [] → frames ≡ t.frames ++ m ∷ []
    → IsTable (record { links = t.links; receiving = t.receiving; messages = t.messages + 1; lines = lines; frames = frames })
plain_table t line m lines frames h room lines_are frames_are =
    let pairs = h.marked in record {
      links = h.links;
      bounded = bounded_by t.receiving h.bounded;
      marked = omega (arith, pairs, one, line_more);
      messages = omega (arith, room);
    }
  where
    now : Table
    now = record { links = t.links; receiving = t.receiving; messages = t.messages + 1; lines = lines; frames = frames }

    one : length frames ≡ length t.frames + 1
    one = ap length frames_are ∙ length-append t.frames (m ∷ [])

    line_more : length lines ≡ length t.lines + 1
    line_more = ap length lines_are ∙ length-append t.lines (line ∷ [])

    bounded_by : (r : Option ℕ) → IsBounded r t → IsBounded r now
    bounded_by None b = omega (arith, b, one)
    bounded_by (Some n) b = within_more (link_of n t) t now (omega (arith, one)) refl b

-- ---- the end of a step

pub finished_table : (t : Table) (line at : ℕ) (l : DataLink) (links : List (Option DataLink)) (lines : List ℕ) (frames : List (List ℕ))
    → IsTable t → t.receiving ≡ Some line → IsLinkOf t.links line l
    → links ≡ with_link line (finished at (step l t.frames)).link t.links → frames ≡ (finished at (step l t.frames)).out
    → lines ≡ marked line t.lines frames
    → IsTable (record { links = links; receiving = None; messages = t.messages; lines = lines; frames = frames })
finished_table t line at l links lines frames h on e links_are frames_are lines_are =
    let u : Step = finished at (step l t.frames) in
    let w = finished_flushed at (step l t.frames) in
    let range = h.links.ranges line l e in
    let long = grown u.link.queue u.link.received t.frames u.out (flushed_sent (step l t.frames) u w range) in
    let same : length frames ≡ length u.out = ap length frames_are in
    let pairs = h.marked in record {
      links = subst (λ ls. AreLinks ls None) (sym links_are)
          (linked_after t.links t.receiving None line l u.link e h.links (w.ranges range) (λ free. finished_rest at (step l t.frames)) (λ n not free d. absurd (not (ap (the_line n) (sym d ∙ on)))));
      bounded = few (subst (λ x. IsWithin x t) e (subst (λ r. IsBounded r t) on h.bounded)) same;
      marked = ap length lines_are ∙ marked_length line t.lines frames (omega (arith, pairs, long, same));
      messages = h.messages;
    }
  where
    few : IsWithin (Some l) t → length frames ≡ length (finished at (step l t.frames)).out → length frames ≤ 10 + t.messages
    few (inl b) same = let a = finished_few at (step l t.frames) in let c = sendable_few l in omega (arith, a, b, c, same)
    few (inr (z, b)) same = let a = finished_few at (step l t.frames) in omega (arith, a, b, z, same)

-- ---- the turn of a link

pub turned_table : (t : Table) (timers : LinkTimers) (line at : ℕ) (l : DataLink) (links : List (Option DataLink)) (lines : List ℕ) (frames : List (List ℕ))
    → IsTable t → t.receiving ≡ None → t.frames ≡ [] → IsLinkOf t.links line l
    → links ≡ with_link line (turned timers at (step l t.frames)).link t.links → frames ≡ (turned timers at (step l t.frames)).out
    → lines ≡ marked line t.lines frames → length frames ≤ length t.frames + 1
    → IsTable (record { links = links; receiving = t.receiving; messages = t.messages; lines = lines; frames = frames })
turned_table t timers line at l links lines frames h free none e links_are frames_are lines_are few =
    let o : Outcome = turned timers at (step l t.frames) in
    let now : Table = record { links = links; receiving = t.receiving; messages = t.messages; lines = lines; frames = frames } in
    let range = h.links.ranges line l e in
    let p = turned_turned timers at (step l t.frames) range in
    let long = grown o.link.queue o.link.received t.frames o.out (p.sent range) in
    let same : length frames ≡ length o.out = ap length frames_are in
    let pairs = h.marked in
    let empty : length t.frames ≡ 0 = ap length none in record {
      links = subst (λ ls. AreLinks ls t.receiving) (sym links_are)
          (linked_after t.links t.receiving t.receiving line l o.link e h.links (p.ranges range) (λ off. turned_rest timers at (step l t.frames) (h.links.rest line l e off)) (λ n not off. off));
      bounded = subst (λ r. IsBounded r now) (sym free) (omega (arith, few, empty));
      marked = ap length lines_are ∙ marked_length line t.lines frames (omega (arith, pairs, long, same));
      messages = h.messages;
    }

-- ---- a new table

new_at : (linked : List Bool) (at n : ℕ) (l : DataLink) → IsLinkOf (map (new_link at) linked) n l → initial at ≡ l
new_at [] at n l e = absurd (cc)
new_at (true ∷ bs) at zero l e = ap (the_link l) e
new_at (false ∷ bs) at zero l e = absurd (cc)
new_at (b ∷ bs) at (suc n) l e = new_at bs at n l e

pub new_is_table : (linked : List Bool) (at : ℕ) (links : List (Option DataLink)) (lines : List ℕ) (frames : List (List ℕ))
    → links ≡ map (new_link at) linked → lines ≡ [] → frames ≡ []
    → IsTable (record { links = links; receiving = None; messages = 0; lines = lines; frames = frames })
new_is_table linked at links lines frames links_are lines_are frames_are =
    let no_lines : length lines ≡ 0 = ap length lines_are in
    let no_frames : length frames ≡ 0 = ap length frames_are in record {
      links = subst (λ ls. AreLinks ls None) (sym links_are) (record {
        ranges = λ n l e. subst IsLink (new_at linked at n l e) (initial_link at);
        rest = λ n l e free. subst IsAtRest (new_at linked at n l e) (initial_rest at);
      });
      bounded = omega (arith, no_frames);
      marked = omega (arith, no_lines, no_frames);
      messages = omega arith;
    }
