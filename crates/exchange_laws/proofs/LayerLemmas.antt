-- Call control and the link of a line know the same, in each run.
use Rattle.std.proofs.Common.{◌≡◌, ◌⊎◌, inl, inr, ℕ, zero, suc, ◌+◌, Bool, true, false, List, [], ◌∷◌, ◌++◌, map, All, refl, sym, ap, ◌∙◌, subst, arith, Some, None, eq-eqb, if◌then◌else◌}
use Rattle.std.specs.Prelude.{Option, slice_index_or, ◌==◌, ◌||◌, not}
use Rattle.std.proofs.lemmas.List.Elements.{All-head, All-tail}
use Rattle.exchange_events.specs.declared.trace.Event.{Event}
use Rattle.exchange_events.specs.declared.trace.Event.TheVariants.{LinkDown}
use Rattle.exchange_events.specs.Sizes.{Setting}
use Rattle.call_profile.specs.Legs.{is_down}
use Rattle.call_laws.specs.Outages.{down_after, down_after_all}
use Rattle.call_laws.proofs.LinkStateLemmas.{links_are}
use Rattle.link_procedures.specs.declared.state.LinkTimers.{LinkTimers}
use Rattle.link_procedures.specs.Links.{DataLink, Step, step, initial, is_up}
use Rattle.link_procedures.specs.Sending.{finished}
use Rattle.link_procedures.specs.Establishment.{Outcome, quietly, submitted}
use Rattle.link_procedures.specs.Timing.{turned}
use Rattle.link_procedures.specs.AnyPeer.{IsReleasedOrOwed}
use Rattle.link_procedures.proofs.AnyPeerLemmas.{received_first}
use Rattle.link_table.specs.Tables.{IsLinkOf, new_link}
use Rattle.link_table.specs.Rest.{IsAtRest}
use Rattle.link_table.proofs.RestLemmas.{finished_rest, initial_rest}
use Rattle.link_frames.specs.declared.frame.Frame.{Frame}
use Rattle.link_frames.specs.declared.frame.Sender.TheVariants.{User}
use Rattle.link_frames.specs.Reading.{reading}
use Rattle.link_table.specs.Steps.{line_of_turn}
use Rattle.linked_exchange.specs.Steps.{Joint, LinkedInput, Happens, Receives, Turns, derived, frames_so_far, next_joint, reply_to, sends_of, world_after}
use Rattle.linked_exchange.specs.Runs.{links_down, start_joint, joint_after_all, derived_all, derived_trace}
use Rattle.linked_exchange.proofs.PlainLemmas.{trace_fits, trace_world}
use Rattle.exchange_laws.specs.Layers.{is_taken_for_up, Owes, BeginsLinked, LeavesLinkIn, AreInputs, LayersAgree, OwesIfDown, OwesStill, ReleasesFirst}
use Rattle.exchange_laws.specs.Peers.{messages_to}
use Rattle.exchange_laws.proofs.KnownLemmas.{up_after, requested_down, Informs, received_informs, turned_informs, Keeps, keeps_here, keeps_both, finished_keeps, submitted_keeps, initial_owes, initial_known}
use Rattle.exchange_laws.proofs.LineLemmas.{all_to}
use Rattle.exchange_laws.proofs.StepLemmas.{outcome_read, outcome_in, line_after, next_free, step_at}
use Rattle.exchange_laws.proofs.EventLemmas.{step_down}

-- ---- a step

quiet_informs : (l : DataLink) → Informs l (quietly (step l []))
quiet_informs l = record { known = refl; owes = λ h. h }

read_informs : (l : DataLink) (at : ℕ) (f : Option Frame) → Informs l (outcome_read l at f)
read_informs l at None = quiet_informs l
read_informs l at (Some f) = received_informs f at (step l [])

either_informs : (l : DataLink) (b : Bool) (o : Outcome) → Informs l o → Informs l (if b then o else quietly (step l []))
either_informs l true o h = h
either_informs l false o h = quiet_informs l

step_informs : (line : ℕ) (timers : LinkTimers) (j : Joint) (l : DataLink) (i : LinkedInput) → Owes l → Informs l (outcome_in line timers j l i)
step_informs line timers j l (Happens e) owes = quiet_informs l
step_informs line timers j l (Receives n octets) owes = either_informs l (n == line) _ (read_informs l (frames_so_far j) (reading User octets))
step_informs line timers j l Turns owes = either_informs l (line_of_turn (frames_so_far j) == line) _ (turned_informs timers (frames_so_far j) (step l []) owes)

-- ---- a link that owes the indication of a loss

turned_first : (t : LinkTimers) (at : ℕ) (s : Step) → s.link.owed ≡ true → IsReleasedOrOwed (turned t at s)
unfolding turned
turned_first t at s owed = rw owed (inl refl)

either_first : (b : Bool) (l : DataLink) (o : Outcome) → l.owed ≡ true → IsReleasedOrOwed o → IsReleasedOrOwed (if b then o else quietly (step l []))
either_first true l o owed h = h
either_first false l o owed h = inr (refl, owed)

read_first : (l : DataLink) (at : ℕ) (f : Option Frame) → Owes l → l.owed ≡ true → IsReleasedOrOwed (outcome_read l at f)
read_first l at None owes owed = inr (refl, owed)
read_first l at (Some f) owes owed = received_first f at (step l []) owed (owes owed).0

step_first : (line : ℕ) (timers : LinkTimers) (j : Joint) (l : DataLink) (i : LinkedInput) → Owes l → l.owed ≡ true → IsReleasedOrOwed (outcome_in line timers j l i)
step_first line timers j l (Happens e) owes owed = inr (refl, owed)
step_first line timers j l (Receives n octets) owes owed = either_first (n == line) l _ owed (read_first l (frames_so_far j) (reading User octets) owes owed)
step_first line timers j l Turns owes owed = either_first (line_of_turn (frames_so_far j) == line) l _ owed (turned_first timers (frames_so_far j) (step l []) owed)

all_keeps : (ms : List (List ℕ)) (at : ℕ) (s : Step) → Keeps s.link (all_to ms at s).link
all_keeps [] at s = keeps_here s.link
all_keeps (m ∷ ms) at s = keeps_both s.link (submitted m at s).link _ (submitted_keeps m at s) (all_keeps ms at (submitted m at s))

-- ---- a run

down-append : (line : ℕ) (d : Bool) (es fs : List Event) → down_after_all line d (es ++ fs) ≡ down_after_all line (down_after_all line d es) fs
down-append line d [] fs = refl
down-append line d (e ∷ es) fs = down-append line (down_after line d e) es fs

-- the link of the line after a run, and what call control knows of it
record Known (line : ℕ) (j : Joint) (down : Bool) : Type 0 where
  link : DataLink
  linked : IsLinkOf j.links.links line link
  rest : IsAtRest link
  free : j.links.receiving ≡ None
  owes : Owes link
  known : down ≡ not (is_taken_for_up link)

next_known : (s : Setting) (timers : LinkTimers) (line : ℕ) (j : Joint) (i : LinkedInput) (down : Bool) → LeavesLinkIn line i → Known line j down
    → Known line (next_joint s timers j i) (down_after_all line down (derived timers j i))
next_known s timers line j i down leaves h =
    let l = h.link in
    let at = (world_after s timers j i).holding.next in
    let o = outcome_in line timers j l i in
    let b : Step = step o.link o.out in
    let ms = messages_to line (sends_of (reply_to s j.world (derived timers j i))) in
    let told = step_informs line timers j l i h.owes in
    let kept = keeps_both o.link (all_to ms at b).link (finished at (all_to ms at b)).link (all_keeps ms at b) (finished_keeps at (all_to ms at b)) in
    record {
      link = (line_after s timers line j l i).link;
      linked = (step_at s timers line j l i h.linked h.rest h.free).link;
      rest = finished_rest at (all_to ms at b);
      free = next_free s timers j i;
      owes = kept.owes (told.owes h.owes);
      known = ap (λ d. down_after_all line d (derived timers j i)) h.known ∙ (step_down line timers j l h.linked i leaves (is_taken_for_up l)
          ∙ ap not (sym (kept.known ∙ told.known)));
    }

all_known : (s : Setting) (timers : LinkTimers) (line : ℕ) (j : Joint) (is : List LinkedInput) (down : Bool) → All (LeavesLinkIn line) is → Known line j down
    → Known line (joint_after_all s timers j is) (down_after_all line down (derived_all s timers j is))
all_known s timers line j [] down leave h = h
all_known s timers line j (i ∷ is) down leave h =
    subst (Known line (joint_after_all s timers (next_joint s timers j i) is)) (sym (down-append line down (derived timers j i) (derived_all s timers (next_joint s timers j i) is)))
    (all_known s timers line (next_joint s timers j i) is (down_after_all line down (derived timers j i)) (All-tail (LeavesLinkIn line) i is leave)
    (next_known s timers line j i down (All-head (LeavesLinkIn line) i is leave) h))

-- ---- the start

pub linked_start : (linked : List Bool) (line : ℕ) → BeginsLinked linked line → IsLinkOf (map (new_link 0) linked) line (initial 0)
linked_start [] line e = absurd (cc)
linked_start (b ∷ linked) zero e = ap (λ has_one. if has_one then Some (initial 0) else None) e
linked_start (b ∷ linked) (suc line) e = linked_start linked line e

down_too : (line other : ℕ) → down_after line true (LinkDown other) ≡ true
down_too line other = cases (line == other)
  where
    cases : (b : Bool) → (if b then true else true) ≡ true
    cases true = refl
    cases false = refl

stays_down : (line first : ℕ) (linked : List Bool) → down_after_all line true (links_down first linked) ≡ true
stays_down line first [] = refl
stays_down line first (true ∷ rest) = ap (λ d. down_after_all line d (links_down (first + 1) rest)) (down_too line first) ∙ stays_down line (first + 1) rest
stays_down line first (false ∷ rest) = stays_down line (first + 1) rest

starts_down : (line first k : ℕ) (linked : List Bool) (d : Bool) → line ≡ first + k → BeginsLinked linked k → down_after_all line d (links_down first linked) ≡ true
starts_down line first k [] d is e = absurd (cc)
starts_down line first zero (true ∷ rest) d is e =
    ap (λ b. down_after_all line (if b then true else d) (links_down (first + 1) rest)) (eq-eqb line first (omega (arith, is))) ∙ stays_down line (first + 1) rest
starts_down line first zero (false ∷ rest) d is e = absurd (cc)
starts_down line first (suc k) (true ∷ rest) d is e = starts_down line (first + 1) k rest (down_after line d (LinkDown first)) (omega (arith, is)) e
starts_down line first (suc k) (false ∷ rest) d is e = starts_down line (first + 1) k rest d (omega (arith, is)) e

start_known : (s : Setting) (line : ℕ) (linked : List Bool) → BeginsLinked linked line → Known line (start_joint s linked) true
start_known s line linked e = record {
  link = initial 0;
  linked = linked_start linked line e;
  rest = initial_rest 0;
  free = refl;
  owes = initial_owes 0;
  known = ap not (sym (initial_known 0));
}

-- ---- the theorem

module _ (s : Setting) (timers : LinkTimers) (linked : List Bool) (line : ℕ) (is : List LinkedInput) (h : AreInputs s linked line is) where
  run_known : Known line (joint_after_all s timers (start_joint s linked) is) (down_after_all line false (derived_trace s timers linked is))
  run_known =
      subst (Known line (joint_after_all s timers (start_joint s linked) is)) (sym (down-append line false (links_down 0 linked) (derived_all s timers (start_joint s linked) is)))
      (subst (λ d. Known line (joint_after_all s timers (start_joint s linked) is) (down_after_all line d (derived_all s timers (start_joint s linked) is))) (sym (starts_down line 0 line linked false (omega arith) h.linked_line))
      (all_known s timers line (start_joint s linked) is true h.leave (start_known s line linked h.linked_line)))

  same_link : (o : Option DataLink) (k l : DataLink) → o ≡ Some k → o ≡ Some l → k ≡ l
  same_link o k l e d = grind (arith, e, d)

  pub layers_agree : LayersAgree line (joint_after_all s timers (start_joint s linked) is)
  layers_agree l e =
      let j = joint_after_all s timers (start_joint s linked) is in
      ap (λ w. is_down w.legs line) (trace_world s timers linked is) ∙ (links_are s (derived_trace s timers linked is) line (trace_fits s timers linked is h.lines h.fit)
      ∙ (run_known.known ∙ ap (λ (k : DataLink). not (is_up k || k.owed)) (same_link (slice_index_or j.links.links line None) run_known.link l run_known.linked e)))

  pub owes_if_down : OwesIfDown line (joint_after_all s timers (start_joint s linked) is)
  owes_if_down l e =
      let j = joint_after_all s timers (start_joint s linked) is in
      subst (λ (k : DataLink). k.owed ≡ true → is_up k ≡ false) (same_link (slice_index_or j.links.links line None) run_known.link l run_known.linked e) (λ d. requested_down run_known.link (run_known.owes d))

  pub releases_first : ReleasesFirst s timers line (joint_after_all s timers (start_joint s linked) is)
  releases_first l i e owed leaves = told (step_first line timers j l i owes owed)
    where
      j : Joint
      j = joint_after_all s timers (start_joint s linked) is

      same : run_known.link ≡ l
      same = same_link (slice_index_or j.links.links line None) run_known.link l run_known.linked e

      owes : Owes l
      owes = subst (λ (k : DataLink). Owes k) same run_known.owes

      rest : IsAtRest l
      rest = subst (λ (k : DataLink). IsAtRest k) same run_known.rest

      o : Outcome
      o = outcome_in line timers j l i

      still : o.link.owed ≡ true → OwesStill line (next_joint s timers j i)
      still owing m d =
          let at = (world_after s timers j i).holding.next in
          let b : Step = step o.link o.out in
          let ms = messages_to line (sends_of (reply_to s j.world (derived timers j i))) in
          let kept = keeps_both o.link (all_to ms at b).link (finished at (all_to ms at b)).link (all_keeps ms at b) (finished_keeps at (all_to ms at b)) in
          subst (λ (k : DataLink). k.owed ≡ true) (same_link (slice_index_or (next_joint s timers j i).links.links line None) (line_after s timers line j l i).link m (step_at s timers line j l i e rest run_known.free).link d) (kept.owing owing)

      told : IsReleasedOrOwed o → (down_after_all line true (derived timers j i) ≡ true) × ((down_after_all line false (derived timers j i) ≡ true) ⊎ OwesStill line (next_joint s timers j i))
      told (inl d) = (step_down line timers j l e i leaves false ∙ ap (λ n. not (up_after false n)) d, inl (step_down line timers j l e i leaves true ∙ ap (λ n. not (up_after true n)) d))
      told (inr d) = (step_down line timers j l e i leaves false ∙ ap (λ n. not (up_after false n)) d.0, inr (still d.1))
