-- The steps of an exchange with data links as a trace without them.
use Rattle.std.proofs.Common.{◌≡◌, ℕ, ◌+◌, ◌<◌, ◌≤◌, ◌%◌, Bool, true, false, ◌==◌, ◌&&◌, not, nat_le, List, [], ◌∷◌, ◌++◌, length, All, refl, sym, ap, ◌∙◌, arith, Some, None, Ok, if◌then◌else◌}
use Rattle.std.specs.Prelude.{Option, slice_index_or}
use Rattle.std.proofs.lemmas.Bool.{leb-true}
use Rattle.std.proofs.lemmas.List.Elements.{All-nil, All-cons, All-append, All-head, All-tail}
use Rattle.exchange_events.specs.declared.trace.Event.{Event}
use Rattle.exchange_events.specs.declared.trace.Event.TheVariants.{Message, LinkUp, LinkDown}
use Rattle.exchange_events.specs.Sizes.{Setting}
use Rattle.exchange_events.specs.Sound.{Fits}
use Rattle.call_profile.specs.Step.{next, reply, run, world_after_all}
use Rattle.call_profile.specs.World.{World, start}
use Rattle.link_frames.specs.declared.frame.Control.{Control}
use Rattle.link_frames.specs.declared.frame.Frame.{Frame}
use Rattle.link_frames.specs.declared.frame.Sender.{Sender}
use Rattle.link_frames.specs.declared.frame.Sender.TheVariants.{User}
use Rattle.link_frames.specs.declared.frame.Supervisory.{Supervisory}
use Rattle.link_frames.specs.Fields.{tei_octet, sabme, disc, ua, dm, frmr, ui, xid, modifier, poll_final, max_information_len}
use Rattle.link_frames.specs.Reading.{reading, frame_of, frame_with, framed, command_of, control_of, any_unnumbered, without_information, unnumbered, supervisory, supervisory_with, kind_of, numbered_information}
use Rattle.link_frames.specs.Writing.{information_in}
use Rattle.link_procedures.specs.declared.state.Indication.{Indication}
use Rattle.link_procedures.specs.declared.state.Indication.TheVariants.{Data, Established, Released}
use Rattle.link_procedures.specs.declared.state.LinkTimers.{LinkTimers}
use Rattle.link_procedures.specs.Links.{DataLink, step}
use Rattle.link_procedures.specs.Receiving.{received}
use Rattle.link_procedures.specs.Timing.{turned}
use Rattle.link_table.specs.Tables.{Table, IsLinkOf, link_of}
use Rattle.link_table.specs.Steps.{notice_of, noticed_in, noticed_on, change_of, changed_in, changed_at, line_of_turn}
use Rattle.linked_exchange.specs.Steps.{Joint, LinkedInput, Happens, Receives, Turns, frames_so_far, noticed_events, changed_events, derived, links_begun, reply_to, sends_of, submitted_all, world_after, next_joint}
use Rattle.linked_exchange.specs.Runs.{links_down, start_joint, joint_after_all, derived_all, replies_all, derived_trace, FitsLinked, IsShortEvent, IsShortInput}
use Rattle.linked_exchange.proofs.LinkLemmas.{inside, size-received_on, size-turned_at, size-submitted_all, size-ended, size-new_table}

by_test : {A : Type 0} (P : A → Type 0) (b : Bool) (x y : A) → (b ≡ true → P x) → (b ≡ false → P y) → P (if b then x else y)
by_test P true x y f g = f refl
by_test P false x y f g = g refl

left_false : (a b : Bool) → a && b ≡ true → b ≡ true
left_false true b e = e
left_false false b e = absurd (cc)

-- ---- the information field of a frame that was read

-- a message of at most 260 octets, among these
record IsCarried (octets m : List ℕ) : Type 0 where
  few : length m ≤ 260
  part : All (λ octet. octet < 256) octets → All (λ octet. octet < 256) m

nothing : (octets : List ℕ) → IsCarried octets []
nothing octets = record { few = omega arith; part = λ h. All-nil (λ octet. octet < 256) }

abbrev Carries : List ℕ → Option Control → Type 0
Carries octets None = Unit
Carries octets (Some c) = IsCarried octets (information_in c)

abbrev CarriesIn : List ℕ → Option Frame → Type 0
CarriesIn octets None = Unit
CarriesIn octets (Some f) = IsCarried octets (information_in f.control)

module _ (octets : List ℕ) where
  abbrev Empty : Control → Type 0
  Empty c = IsCarried octets (information_in c)

  unnumbered_empty : (command : Bool) (code : ℕ) (pf : Bool) → Empty (unnumbered command code pf)
  unnumbered_empty true code pf = by_test Empty (code == sabme) _ _ (λ e. nothing octets) (λ e. by_test Empty (code == disc) _ _ (λ d. nothing octets) (λ d. nothing octets))
  unnumbered_empty false code pf = by_test Empty (code == ua) _ _ (λ e. nothing octets) (λ e. by_test Empty (code == dm) _ _ (λ d. nothing octets) (λ d. nothing octets))

  without_empty : (command : Bool) (first : ℕ) (rest : List ℕ) → Empty (without_information command first rest)
  without_empty command first [] = unnumbered_empty command (modifier first) (poll_final first)
  without_empty command first (x ∷ rest) = nothing octets

  any_empty : (command : Bool) (first : ℕ) (rest : List ℕ) → Empty (any_unnumbered command first rest)
  any_empty command first rest =
      by_test Empty (modifier first == ui) _ _ (λ e. nothing octets) (λ e.
      by_test Empty (modifier first == xid) _ _ (λ e. nothing octets) (λ e.
      by_test Empty (modifier first == frmr && not command) _ _ (λ e. nothing octets) (λ e. without_empty command first rest)))

  kind_empty : (kind : Option Supervisory) (last : ℕ) → Empty (supervisory_with kind last)
  kind_empty None last = nothing octets
  kind_empty (Some kind) last = nothing octets

  supervisory_empty : (first : ℕ) (rest : List ℕ) → Carries octets (supervisory first rest)
  supervisory_empty first [] = tt
  supervisory_empty first (last ∷ []) = kind_empty (kind_of first) last
  supervisory_empty first (last ∷ x ∷ rest) = nothing octets

information_carried : (command : Bool) (first : ℕ) (rest : List ℕ) → Carries rest (numbered_information command first rest)
information_carried command first [] = tt
information_carried command first (last ∷ information) =
    by_test (λ c. IsCarried (last ∷ information) (information_in c)) (command && nat_le (length information) max_information_len) _ _
    (λ e. record { few = leb-true (length information) 260 (left_false command (nat_le (length information) 260) e); part = All-tail (λ octet. octet < 256) last information })
    (λ e. nothing (last ∷ information))

control_carried : (command : Bool) (first : ℕ) (rest : List ℕ) → Carries rest (control_of command first rest)
control_carried command first rest =
    by_test (Carries rest) (first % 2 == 0) _ _ (λ e. information_carried command first rest) (λ e.
    by_test (Carries rest) (first % 4 == 1) _ _ (λ e. supervisory_empty rest first rest) (λ e. any_empty rest command first rest))

framed_carried : (octets : List ℕ) (command : Bool) (c : Option Control) → Carries octets c → CarriesIn octets (framed command c)
framed_carried octets command None h = tt
framed_carried octets command (Some c) h = h

with_carried : (command : Option Bool) (first : ℕ) (rest : List ℕ) → CarriesIn rest (frame_with command first rest)
with_carried None first rest = tt
with_carried (Some command) first rest = framed_carried rest command (control_of command first rest) (control_carried command first rest)

frame_carried : (sender : Sender) (address tei first : ℕ) (rest : List ℕ) → CarriesIn rest (frame_of sender address tei first rest)
frame_carried sender address tei first rest =
    by_test (CarriesIn rest) (tei == tei_octet) _ _ (λ e. with_carried (command_of sender address) first rest) (λ e. tt)

later : (x y z : ℕ) (rest : List ℕ) (f : Option Frame) → CarriesIn rest f → CarriesIn (x ∷ y ∷ z ∷ rest) f
later x y z rest None h = tt
later x y z rest (Some f) h = record {
  few = h.few;
  part = λ all. let P : ℕ → Type 0 = λ octet. octet < 256 in h.part (All-tail P z rest (All-tail P y (z ∷ rest) (All-tail P x (y ∷ z ∷ rest) all)));
}

reading_carried : (octets : List ℕ) → CarriesIn octets (reading User octets)
reading_carried [] = tt
reading_carried (x ∷ []) = tt
reading_carried (x ∷ y ∷ []) = tt
reading_carried (x ∷ y ∷ z ∷ rest) = later x y z rest (frame_of User x y z rest) (frame_carried User x y z rest)

-- ---- the event of a step

one : (Q : Event → Type 0) (e : Event) → Q e → All Q (e ∷ [])
one Q e is = All-cons Q e [] is (All-nil Q)

module _ (Q : Event → Type 0) (line : ℕ) (octets : List ℕ) (message : (m : List ℕ) → IsCarried octets m → Q (Message line m)) (up : Q (LinkUp line)) (down : Q (LinkDown line)) where
  indicated_events : (f : Frame) (i : Option Indication) → IsCarried octets (information_in f.control) → All Q (noticed_events line (Ok (notice_of f i)))
  indicated_events f None h = All-nil Q
  indicated_events f (Some Data) h = one Q (Message line (information_in f.control)) (message (information_in f.control) h)
  indicated_events f (Some Established) h = one Q (LinkUp line) up
  indicated_events f (Some Released) h = one Q (LinkDown line) down

  read_events : (l : DataLink) (f : Option Frame) (at : ℕ) → CarriesIn octets f → All Q (noticed_events line (noticed_in (Some l) f at))
  read_events l None at h = All-nil Q
  read_events l (Some f) at h = indicated_events f (received f at (step l [])).indication h

module _ (Q : Event → Type 0) (line : ℕ) (octets : List ℕ) (links : List (Option DataLink)) (message : (l : DataLink) → IsLinkOf links line l → (m : List ℕ) → IsCarried octets m → Q (Message line m))
    (up : (l : DataLink) → IsLinkOf links line l → Q (LinkUp line)) (down : (l : DataLink) → IsLinkOf links line l → Q (LinkDown line)) where
  linked_events : (o : Option DataLink) (at : ℕ) → slice_index_or links line None ≡ o → All Q (noticed_events line (noticed_in o (reading User octets) at))
  linked_events None at e = All-nil Q
  linked_events (Some l) at e = read_events Q line octets (message l e) (up l e) (down l e) l (reading User octets) at (reading_carried octets)

change_events : (Q : Event → Type 0) (line : ℕ) (i : Option Indication) → Q (LinkUp line) → Q (LinkDown line) → All Q (changed_events line (change_of i))
change_events Q line None up down = All-nil Q
change_events Q line (Some Data) up down = All-nil Q
change_events Q line (Some Established) up down = one Q (LinkUp line) up
change_events Q line (Some Released) up down = one Q (LinkDown line) down

turn_events : (Q : Event → Type 0) (line at : ℕ) (timers : LinkTimers) (links : List (Option DataLink)) (o : Option DataLink) → slice_index_or links line None ≡ o
    → ((l : DataLink) → IsLinkOf links line l → Q (LinkUp line)) → ((l : DataLink) → IsLinkOf links line l → Q (LinkDown line)) → All Q (changed_events line (changed_in o timers at))
turn_events Q line at timers links None e up down = All-nil Q
turn_events Q line at timers links (Some l) e up down = change_events Q line (turned timers at (step l [])).indication (up l e) (down l e)

-- it fits the exchange
pub noticed_fits : (external line : ℕ) (octets : List ℕ) (at : ℕ) (t : Table) → length t.links ≤ external → All (λ octet. octet < 256) octets
    → All (Fits external) (noticed_events line (noticed_on line octets at t))
noticed_fits external line octets at t few all = linked_events (Fits external) line octets t.links (λ l e m h. (below l e, h.part all)) below below (link_of line t) at refl
  where
    below : (l : DataLink) → IsLinkOf t.links line l → line < external
    below l e = let h = inside t.links line l e in omega (arith, h, few)

pub changed_fits : (external : ℕ) (timers : LinkTimers) (at : ℕ) (t : Table) → length t.links ≤ external → All (Fits external) (changed_events (line_of_turn at) (changed_at timers at t))
changed_fits external timers at t few = turn_events (Fits external) (line_of_turn at) at timers t.links (link_of (line_of_turn at) t) refl below below
  where
    below : (l : DataLink) → IsLinkOf t.links (line_of_turn at) l → line_of_turn at < external
    below l e = let h = inside t.links (line_of_turn at) l e in omega (arith, h, few)

pub derived_fits : (external : ℕ) (timers : LinkTimers) (j : Joint) (i : LinkedInput) → length j.links.links ≤ external → FitsLinked external i → All (Fits external) (derived timers j i)
derived_fits external timers j (Happens e) few fits = one (Fits external) e fits
derived_fits external timers j (Receives line octets) few all = noticed_fits external line octets (frames_so_far j) j.links few all
derived_fits external timers j Turns few is = changed_fits external timers (frames_so_far j) j.links few

derived_short : (timers : LinkTimers) (j : Joint) (i : LinkedInput) → IsShortInput i → All IsShortEvent (derived timers j i)
derived_short timers j (Happens e) is = one IsShortEvent e is
derived_short timers j (Receives line octets) is =
    linked_events IsShortEvent line octets j.links.links (λ l e m h. h.few) (λ l e. tt) (λ l e. tt) (link_of line j.links) (frames_so_far j) refl
derived_short timers j Turns is = let at = frames_so_far j in
    turn_events IsShortEvent (line_of_turn at) at timers j.links.links (link_of (line_of_turn at) j.links) refl (λ l e. tt) (λ l e. tt)

-- ---- the state after a step

begun_size : (timers : LinkTimers) (j : Joint) (i : LinkedInput) → length (links_begun timers j i).links ≡ length j.links.links
begun_size timers j (Happens e) = refl
begun_size timers j (Receives line octets) = size-received_on line octets (frames_so_far j) j.links
begun_size timers j Turns = size-turned_at timers (frames_so_far j) j.links

pub next_size : (s : Setting) (timers : LinkTimers) (j : Joint) (i : LinkedInput) → length (next_joint s timers j i).links.links ≡ length j.links.links
unfolding next_joint
next_size s timers j i =
    let at = (world_after s timers j i).holding.next in
    let sends = sends_of (reply_to s j.world (derived timers j i)) in
    size-ended at (submitted_all at sends (links_begun timers j i)) ∙ (size-submitted_all at sends (links_begun timers j i) ∙ begun_size timers j i)

pub next_world : (s : Setting) (timers : LinkTimers) (j : Joint) (i : LinkedInput) → (next_joint s timers j i).world ≡ world_after_all s j.world (derived timers j i)
unfolding next_joint
next_world s timers j i = refl

-- ---- a list of steps

world-append : (s : Setting) (w : World) (es fs : List Event) → world_after_all s w (es ++ fs) ≡ world_after_all s (world_after_all s w es) fs
world-append s w [] fs = refl
world-append s w (e ∷ es) fs = world-append s (next s w e) es fs

run-append : (s : Setting) (w : World) (es fs : List Event) → run s w (es ++ fs) ≡ run s w es ++ run s (world_after_all s w es) fs
run-append s w [] fs = refl
run-append s w (e ∷ es) fs = ap (λ rs. reply s w e ∷ rs) (run-append s (next s w e) es fs)

pub all_world : (s : Setting) (timers : LinkTimers) (j : Joint) (is : List LinkedInput) → (joint_after_all s timers j is).world ≡ world_after_all s j.world (derived_all s timers j is)
all_world s timers j [] = refl
all_world s timers j (i ∷ is) =
    let later = next_joint s timers j i in
    all_world s timers later is ∙ (ap (λ w. world_after_all s w (derived_all s timers later is)) (next_world s timers j i)
    ∙ sym (world-append s j.world (derived timers j i) (derived_all s timers later is)))

all_replies : (s : Setting) (timers : LinkTimers) (j : Joint) (is : List LinkedInput) → replies_all s timers j is ≡ run s j.world (derived_all s timers j is)
all_replies s timers j [] = refl
all_replies s timers j (i ∷ is) =
    let later = next_joint s timers j i in
    ap (λ rs. run s j.world (derived timers j i) ++ rs) (all_replies s timers later is ∙ ap (λ w. run s w (derived_all s timers later is)) (next_world s timers j i))
    ∙ sym (run-append s j.world (derived timers j i) (derived_all s timers later is))

module _ (s : Setting) (timers : LinkTimers) where
  all_fits : (j : Joint) (is : List LinkedInput) → length j.links.links ≤ s.dimensions.external → All (FitsLinked s.dimensions.external) is
      → All (Fits s.dimensions.external) (derived_all s timers j is)
  all_fits j [] few fit = All-nil (Fits s.dimensions.external)
  all_fits j (i ∷ is) few fit =
      let external = s.dimensions.external in
      let later = next_joint s timers j i in
      let same = next_size s timers j i in
      All-append (Fits external) (derived timers j i) (derived_all s timers later is)
      (derived_fits external timers j i few (All-head (FitsLinked external) i is fit))
      (all_fits later is (omega (arith, few, same)) (All-tail (FitsLinked external) i is fit))

  all_short : (j : Joint) (is : List LinkedInput) → All IsShortInput is → All IsShortEvent (derived_all s timers j is)
  all_short j [] short = All-nil IsShortEvent
  all_short j (i ∷ is) short =
      let later = next_joint s timers j i in
      All-append IsShortEvent (derived timers j i) (derived_all s timers later is)
      (derived_short timers j i (All-head IsShortInput i is short)) (all_short later is (All-tail IsShortInput i is short))

-- ---- the start

down_fits : (external line : ℕ) (linked : List Bool) → line + length linked ≤ external → All (Fits external) (links_down line linked)
down_fits external line [] few = All-nil (Fits external)
down_fits external line (true ∷ rest) few =
    All-cons (Fits external) (LinkDown line) (links_down (line + 1) rest) (omega (arith, few)) (down_fits external (line + 1) rest (omega (arith, few)))
down_fits external line (false ∷ rest) few = down_fits external (line + 1) rest (omega (arith, few))

down_short : (line : ℕ) (linked : List Bool) → All IsShortEvent (links_down line linked)
down_short line [] = All-nil IsShortEvent
down_short line (true ∷ rest) = All-cons IsShortEvent (LinkDown line) (links_down (line + 1) rest) tt (down_short (line + 1) rest)
down_short line (false ∷ rest) = down_short (line + 1) rest

-- ---- the theorem

module _ (s : Setting) (timers : LinkTimers) (linked : List Bool) (is : List LinkedInput) where
  pub trace_fits : length linked ≤ s.dimensions.external → All (FitsLinked s.dimensions.external) is → All (Fits s.dimensions.external) (derived_trace s timers linked is)
  trace_fits few fit =
      let size = size-new_table linked 0 in
      All-append (Fits s.dimensions.external) (links_down 0 linked) (derived_all s timers (start_joint s linked) is)
      (down_fits s.dimensions.external 0 linked (omega (arith, few))) (all_fits s timers (start_joint s linked) is (omega (arith, few, size)) fit)

  pub trace_short : All IsShortInput is → All IsShortEvent (derived_trace s timers linked is)
  trace_short short =
      All-append IsShortEvent (links_down 0 linked) (derived_all s timers (start_joint s linked) is) (down_short 0 linked) (all_short s timers (start_joint s linked) is short)

  pub trace_world : (joint_after_all s timers (start_joint s linked) is).world ≡ world_after_all s (start s.dimensions) (derived_trace s timers linked is)
  trace_world =
      all_world s timers (start_joint s linked) is
      ∙ sym (world-append s (start s.dimensions) (links_down 0 linked) (derived_all s timers (start_joint s linked) is))

  pub trace_replies : run s (start s.dimensions) (links_down 0 linked) ++ replies_all s timers (start_joint s linked) is ≡ run s (start s.dimensions) (derived_trace s timers linked is)
  trace_replies =
      ap (λ rs. run s (start s.dimensions) (links_down 0 linked) ++ rs) (all_replies s timers (start_joint s linked) is)
      ∙ sym (run-append s (start s.dimensions) (links_down 0 linked) (derived_all s timers (start_joint s linked) is))
