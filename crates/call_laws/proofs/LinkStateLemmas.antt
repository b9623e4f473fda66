-- The data links after each event.
use Rattle.std.proofs.Common.{◌≡◌, ℕ, zero, suc, ◌<◌, Bool, true, false, List, [], ◌∷◌, length, inl, inr, refl, sym, ◌∙◌, ap, subst, arith, eqb-true, length-set, get_or-set_same, get_or-set_other, if◌then◌else◌}
use Rattle.std.specs.Prelude.{◌==◌, All, slice_index_or, slice_set, replicate}
use Rattle.std.proofs.lemmas.Grind.{common_steps}
use Rattle.std.proofs.lemmas.List.{length-replicate}
use Rattle.circuit_model.specs.Holding.{Connect, Seat as Take_seat, Clear}
use Rattle.circuit_model.proofs.Slots.{true_or_false}
use Rattle.exchange_events.specs.declared.trace.Event.{Event}
use Rattle.exchange_events.specs.declared.trace.Event.TheVariants.{Nail, Seat, Free, Message, Frame, LinkUp, LinkDown, RestartLine}
use Rattle.exchange_events.specs.Sizes.{Setting, Dimensions}
use Rattle.exchange_events.specs.Sound.{Fits}
use Rattle.call_states.specs.Acts.{act_on}
use Rattle.call_states.specs.Conditions.{unanswered}
use Rattle.clearing_rules.specs.UnknownReference.{answer_without_call}
use Rattle.call_profile.specs.ActCourse.{course_of}
use Rattle.call_profile.specs.Calls.{Request, For_leg, New_call, On_no_call, Restarts, Confirms, Unanswered, request_of, answer_back, outcome_for}
use Rattle.call_profile.specs.Expiring.{slot_looked_at, expire_slot}
use Rattle.call_profile.specs.IdleSlots.{is_nailed}
use Rattle.call_profile.specs.Legs.{is_down}
use Rattle.call_profile.specs.LinkChanges.{give_up_rule, give_up_slot, outcome_of_line_restart, outcome_of_link, rule_of, with_line}
use Rattle.call_profile.specs.Operations as op
use Rattle.call_profile.specs.Operations.{Operation, Making, making_at, making_after, making_after_all}
use Rattle.call_laws.specs.Outages.{down_after, down_after_all, KeepsLinks, HasNoFailure, NoLinkIsDown}
use Rattle.call_profile.specs.Restarts.{confirm_rule, confirm_slot, restart_rule, restart_slot}
use Rattle.call_profile.specs.Setup.{course_of_setup}
use Rattle.call_profile.specs.Step.{next, may_nail, may_seat, world_after_all}
use Rattle.call_profile.specs.World.{World, start, obey, pass}
use Rattle.call_profile.proofs.ExpiringLemmas.{each_line}
use Rattle.call_profile.proofs.RestartedSlotLemmas.{each_below, line_restarted_by, linked_by}

-- ---- operations leave the links as they are

performed_down : (d : Dimensions) (m : Making) (o : Operation) → (making_after d m o).world.legs.down ≡ m.world.legs.down
performed_down d m (op.Clear x) = refl
performed_down d m (op.Pair x y) = refl
performed_down d m (op.Seat x room) = refl
performed_down d m (op.Sound x kind) = refl
performed_down d m (op.Put x leg) = refl
performed_down d m (op.Wait x leg p) = refl
performed_down d m (op.Expect x leg message) = refl
performed_down d m (op.Repeat h octets) = refl
performed_down d m (op.Await x leg) = refl
performed_down d m (op.Remove x condition) = refl
performed_down d m (op.Send line message) = refl

pub performed_all_down : (d : Dimensions) (m : Making) (os : List Operation) → (making_after_all d m os).world.legs.down ≡ m.world.legs.down
performed_all_down d m [] = refl
performed_all_down d m (o ∷ os) = performed_all_down d (making_after d m o) os ∙ performed_down d m o

received_down : (s : Setting) (w : World) (line : ℕ) (r : Request) → (outcome_for s w line r).making.world.legs.down ≡ w.legs.down
received_down s w line (For_leg h m) = performed_all_down s.dimensions (making_at w) (course_of s w h m (act_on h.leg.state m)).operations
received_down s w line (New_call m) = performed_all_down s.dimensions (making_at w) (course_of_setup s w line m).operations
received_down s w line (On_no_call m) = performed_all_down s.dimensions (making_at w) (answer_back line (answer_without_call m))
received_down s w line (Restarts r) =
    each_below s.dimensions (restart_rule s.tones r) line w (λ a. a.making.world.legs.down ≡ w.legs.down) refl
    (λ a place small same. performed_all_down s.dimensions a.making (restart_slot s.tones r a.making.world.legs (record { line = line; place = place })) ∙ same) 30 (omega arith)
received_down s w line (Confirms r) =
    each_below s.dimensions (confirm_rule r) line w (λ a. a.making.world.legs.down ≡ w.legs.down) refl
    (λ a place small same. performed_all_down s.dimensions a.making (confirm_slot r a.making.world.legs (record { line = line; place = place })) ∙ same) 30 (omega arith)
received_down s w line Unanswered = refl

linked_down : (s : Setting) (w : World) (down : Bool) (line : ℕ) → (outcome_of_link s.dimensions s.tones down line w).making.world.legs.down ≡ slice_set w.legs.down line down
linked_down s w down line = linked_by s.dimensions s.tones down line w (λ v. v.legs.down ≡ slice_set w.legs.down line down) (λ whole.
    each_below s.dimensions (rule_of s.tones whole down) line (with_line w line down) (λ a. a.making.world.legs.down ≡ slice_set w.legs.down line down) refl
    (λ a place small same. performed_all_down s.dimensions a.making ((rule_of s.tones whole down).does a.making.world.legs (record { line = line; place = place })) ∙ same) 30 (omega arith))

line_restart_down : (s : Setting) (w : World) (line : ℕ) → (outcome_of_line_restart s.dimensions s.tones line w).making.world.legs.down ≡ w.legs.down
line_restart_down s w line =
    let condition = unanswered (is_down w.legs line) in
    line_restarted_by s.dimensions s.tones line w (λ v. v.legs.down ≡ w.legs.down)
    (each_below s.dimensions (give_up_rule s.tones condition) line w (λ a. a.making.world.legs.down ≡ w.legs.down) refl
    (λ a place small same. performed_all_down s.dimensions a.making (give_up_slot s.tones condition a.making.world.legs (record { line = line; place = place })) ∙ same) 30 (omega arith))

-- ---- an event

-- the links after an event
abbrev pub links_after : List Bool → Event → List Bool
links_after links (Nail x y) = links
links_after links (Seat x room) = links
links_after links (Free x) = links
links_after links (Message line octets) = links
links_after links (LinkUp line) = slice_set links line false
links_after links (LinkDown line) = slice_set links line true
links_after links (RestartLine line) = links
links_after links (Frame input) = links

either_down : (b : Bool) (v w : World) → v.legs.down ≡ w.legs.down → (if b then v else w).legs.down ≡ w.legs.down
either_down true v w same = same
either_down false v w same = refl

pub next_links : (s : Setting) (w : World) (e : Event) → (next s w e).legs.down ≡ links_after w.legs.down e
next_links s w (Nail x y) = either_down (may_nail w x y) (obey s.dimensions w (Connect x y)) w refl
next_links s w (Seat x room) = either_down (may_seat s.dimensions w x) (obey s.dimensions w (Take_seat x room)) w refl
next_links s w (Free x) = either_down (is_nailed w x) (obey s.dimensions w (Clear x)) w refl
next_links s w (Message line octets) = received_down s w line (request_of w.legs line octets)
next_links s w (LinkUp line) = linked_down s w false line
next_links s w (LinkDown line) = linked_down s w true line
next_links s w (RestartLine line) = line_restart_down s w line
next_links s w (Frame input) =
    let f : ℕ = w.holding.next in
    each_line s f (pass w input) (λ a. a.making.world.legs.down ≡ w.legs.down) refl
    (λ a line small same. performed_all_down s.dimensions a.making (expire_slot s f a.making.world.legs (slot_looked_at f line)) ∙ same) s.dimensions.external (omega arith)

pub length-links_after : (links : List Bool) (e : Event) → length (links_after links e) ≡ length links
length-links_after links (Nail x y) = refl
length-links_after links (Seat x room) = refl
length-links_after links (Free x) = refl
length-links_after links (Message line octets) = refl
length-links_after links (LinkUp line) = length-set links line false
length-links_after links (LinkDown line) = length-set links line true
length-links_after links (RestartLine line) = refl
length-links_after links (Frame input) = refl

-- ---- one line

not_same : (m n : ℕ) → (m == n) ≡ false → m ≡ n → ⊥
not_same m n apart same = grind (arith, common_steps, apart, same)

set_link : (links : List Bool) (line other : ℕ) (down : Bool) → other < length links → slice_index_or (slice_set links other down) line false ≡ (if line == other then down else slice_index_or links line false)
set_link links line other down below = elim (true_or_false (line == other)) [
  | inl same ↦
      let is = eqb-true line other same in
      ap (λ (n : ℕ). slice_index_or (slice_set links other down) n false) is ∙ get_or-set_same links other down false below ∙ sym (ap (λ (b : Bool). if b then down else slice_index_or links line false) same)
  | inr apart ↦ get_or-set_other links other line down false (not_same line other apart) ∙ sym (ap (λ (b : Bool). if b then down else slice_index_or links line false) apart)
]

link_after : (external : ℕ) (links : List Bool) (e : Event) (line : ℕ) → length links ≡ external → Fits external e → slice_index_or (links_after links e) line false ≡ down_after line (slice_index_or links line false) e
link_after external links (Nail x y) line size fits = refl
link_after external links (Seat x room) line size fits = refl
link_after external links (Free x) line size fits = refl
link_after external links (Message other octets) line size fits = refl
link_after external links (LinkUp other) line size fits = set_link links line other false (subst (λ (n : ℕ). other < n) (sym size) fits)
link_after external links (LinkDown other) line size fits = set_link links line other true (subst (λ (n : ℕ). other < n) (sym size) fits)
link_after external links (RestartLine other) line size fits = refl
link_after external links (Frame input) line size fits = refl

pub is_down_next : (s : Setting) (w : World) (e : Event) (line : ℕ) → length w.legs.down ≡ s.dimensions.external → Fits s.dimensions.external e → is_down (next s w e).legs line ≡ down_after line (is_down w.legs line) e
is_down_next s w e line size fits = ap (λ (links : List Bool). slice_index_or links line false) (next_links s w e) ∙ link_after s.dimensions.external w.legs.down e line size fits

pub length-next_links : (s : Setting) (w : World) (e : Event) → length w.legs.down ≡ s.dimensions.external → length (next s w e).legs.down ≡ s.dimensions.external
length-next_links s w e size = ap length (next_links s w e) ∙ length-links_after w.legs.down e ∙ size

-- ---- a run

links_run : (s : Setting) (w : World) (es : List Event) (line : ℕ) → length w.legs.down ≡ s.dimensions.external → All (Fits s.dimensions.external) es
    → is_down (world_after_all s w es).legs line ≡ down_after_all line (is_down w.legs line) es
links_run s w [] line size fits = refl
links_run s w (e ∷ es) line size fits =
    links_run s (next s w e) es line (length-next_links s w e size) (λ k d inside. fits (suc k) d (omega (arith, inside)))
    ∙ ap (λ (down : Bool). down_after_all line down es) (is_down_next s w e line size (fits 0 e (omega arith)))

-- before the first event each link is up
pub all_up : (n line : ℕ) → slice_index_or (replicate n false) line false ≡ false
all_up zero line = refl
all_up (suc n) zero = refl
all_up (suc n) (suc line) = all_up n line

pub links_are : (s : Setting) (es : List Event) (line : ℕ) → All (Fits s.dimensions.external) es → is_down (world_after_all s (start s.dimensions) es).legs line ≡ down_after_all line false es
links_are s es line fits =
    links_run s (start s.dimensions) es line (length-replicate s.dimensions.external false) fits
    ∙ ap (λ (down : Bool). down_after_all line down es) (all_up s.dimensions.external line)

-- ---- no failure

either_up : (b : Bool) → (if b then false else false) ≡ false
either_up true = refl
either_up false = refl

stays_up : (line : ℕ) (e : Event) → KeepsLinks e → down_after line false e ≡ false
stays_up line (Nail x y) keeps = refl
stays_up line (Seat x room) keeps = refl
stays_up line (Free x) keeps = refl
stays_up line (Message other octets) keeps = refl
stays_up line (LinkUp other) keeps = either_up (line == other)
stays_up line (LinkDown other) keeps = absurd keeps
stays_up line (RestartLine other) keeps = refl
stays_up line (Frame input) keeps = refl

all_stay_up : (line : ℕ) (es : List Event) → All KeepsLinks es → down_after_all line false es ≡ false
all_stay_up line [] keeps = refl
all_stay_up line (e ∷ es) keeps =
    ap (λ (down : Bool). down_after_all line down es) (stays_up line e (keeps 0 e (omega arith)))
    ∙ all_stay_up line es (λ k d inside. keeps (suc k) d (omega (arith, inside)))

pub none_fails : (s : Setting) (es : List Event) → HasNoFailure s es → NoLinkIsDown (world_after_all s (start s.dimensions) es).legs
none_fails s es calm line = links_are s es line calm.fits ∙ all_stay_up line es calm.keeps
