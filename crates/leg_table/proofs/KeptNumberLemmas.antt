-- What a table of legs shows of the numbers and messages that it keeps.
use Rattle.std.proofs.Common.{◌≡◌, ◌≢◌, ℕ, true, false, zero, suc, ◌+◌, ◌*◌, ◌<◌, List, [], ◌∷◌, length, get_or, set, Option, Some, None, refl, sym, ◌∙◌, ap, subst, arith, eq-eqb, inl, inr, Bool}
use Rattle.std.specs.Prelude.{All, IfSome, replicate}
use Rattle.std.proofs.lemmas.List.{length-replicate}
use Rattle.std.proofs.lemmas.Bool.{ne_eqb}
use Rattle.q931_codec.specs.CallStates.{overlap_sending}
use Rattle.call_states.specs.declared.condition.Condition.{Condition}
use Rattle.call_states.specs.declared.condition.Condition.TheVariants.{Idle}
use Rattle.call_states.specs.declared.leg.Leg.{Leg}
use Rattle.call_states.specs.declared.pending.Pending.{Pending}
use Rattle.circuit_model.specs.declared.channel.Slot.{Slot}
use Rattle.circuit_model.proofs.Slots.{true_or_false}
use Rattle.control_memory.specs.Layout.{number_of}
use Rattle.call_profile.specs.Legs.{Legs, no_legs, pending_at, kept_at, with_leg, with_waiting, with_kept, without_leg}
use Rattle.call_states.specs.Status.{FitsMessages}
use Rattle.leg_table.specs.LegKeys.{key_of, key_on, leg_on, no_key, AreKeysOf}
use Rattle.leg_table.specs.KeptNumbers.{number_in, message_in, counting, keeping, shown_all, counting_all, keeping_all, legs_kept}
use Rattle.leg_table.specs.declared.notes.SlotData.{SlotData}
use Rattle.leg_table.specs.declared.notes.SlotData.TheVariants.{Number, Message}
use Rattle.call_states.specs.Acts.{is_among}
use Rattle.call_profile.specs.KeptMessages.{awaiting_answer}
use Rattle.call_profile.proofs.KeptMessageLemmas.{digits_keep_none}

-- ---- which states count

pub counting_quiet : (leg : Leg) (note : SlotData) → leg.state ≢ overlap_sending → counting (Some leg) note ≡ None
counting_quiet leg note apart = rw (ne_eqb leg.state overlap_sending apart) refl

pub counting_waiting : (leg : Leg) (note : SlotData) → leg.state ≡ overlap_sending → counting (Some leg) note ≡ number_in note
counting_waiting leg note is = rw (eq-eqb leg.state overlap_sending is) refl

pub keeping_unkept : (leg : Leg) (note : SlotData) → is_among awaiting_answer leg.state ≡ false → keeping (Some leg) note ≡ None
keeping_unkept leg note none = rw none refl

pub keeping_message : (leg : Leg) (note : SlotData) → is_among awaiting_answer leg.state ≡ true → keeping (Some leg) note ≡ message_in note
keeping_message leg note is = rw is refl

-- no leg is in both
answer_no_digits : (state : ℕ) → is_among awaiting_answer state ≡ true → state ≢ overlap_sending
answer_no_digits state among is = let wrong : true ≡ false = sym among ∙ digits_keep_none state is in cc

-- ---- what counts at each slot

module _ (X : Type 0) (shown : Option Leg → SlotData → Option X) where
  abbrev all : List (Option Leg) → List SlotData → List (Option X)
  all legs notes = shown_all X shown legs notes

  -- where no leg is, nothing counts
  counts_none : ((note : SlotData) → shown None note ≡ None) → (n : ℕ) (ps : List SlotData) → all (replicate n None) ps ≡ replicate n None
  unfolding shown_all
  counts_none nobody zero ps = refl
  counts_none nobody (suc n) [] = ap (λ os. None ∷ os) (counts_none nobody n [])
  counts_none nobody (suc n) (p ∷ ps) = (λ i. nobody p i ∷ all (replicate n None) ps) ∙ ap (λ os. None ∷ os) (counts_none nobody n ps)

  -- another leg, or none, for which nothing counts
  counts_quiet : (os : List (Option Leg)) (ps : List SlotData) (n : ℕ) (o : Option Leg) → ((note : SlotData) → shown o note ≡ None) → all (set os n o) ps ≡ set (all os ps) n None
  unfolding shown_all
  counts_quiet [] ps n o none = refl
  counts_quiet (q ∷ os) [] zero o none = refl
  counts_quiet (q ∷ os) (p ∷ ps) zero o none = ap (λ c. c ∷ all os ps) (none p)
  counts_quiet (q ∷ os) [] (suc n) o none = ap (λ cs. None ∷ cs) (counts_quiet os [] n o none)
  counts_quiet (q ∷ os) (p ∷ ps) (suc n) o none = ap (λ cs. shown q p ∷ cs) (counts_quiet os ps n o none)

  -- a leg for which something else is kept
  counts_noted : (os : List (Option Leg)) (ps : List SlotData) (n : ℕ) (o : Option Leg) (note : SlotData) → length ps ≡ length os → all (set os n o) (set ps n note) ≡ set (all os ps) n (shown o note)
  unfolding shown_all
  counts_noted [] [] n o note size = refl
  counts_noted [] (r ∷ ps) n o note size = absurd (omega (arith, size))
  counts_noted (q ∷ os) [] n o note size = absurd (omega (arith, size))
  counts_noted (q ∷ os) (r ∷ ps) zero o note size = refl
  counts_noted (q ∷ os) (r ∷ ps) (suc n) o note size = ap (λ cs. shown q r ∷ cs) (counts_noted os ps n o note (omega (arith, size)))

  -- what counts at a place, by the leg that is there
  pub counts_none_at : ((note : SlotData) → shown None note ≡ None) → (os : List (Option Leg)) (ps : List SlotData) (n : ℕ) → get_or os n None ≡ None → get_or (all os ps) n None ≡ None
  unfolding shown_all
  counts_none_at nobody [] ps n at = refl
  counts_none_at nobody (q ∷ os) [] zero at = refl
  counts_none_at nobody (q ∷ os) (p ∷ ps) zero at = ap (λ (o : Option Leg). shown o p) at ∙ nobody p
  counts_none_at nobody (q ∷ os) [] (suc n) at = counts_none_at nobody os [] n at
  counts_none_at nobody (q ∷ os) (p ∷ ps) (suc n) at = counts_none_at nobody os ps n at

  pub counts_leg_at : (os : List (Option Leg)) (ps : List SlotData) (n : ℕ) (leg : Leg) (d : SlotData) → get_or os n None ≡ Some leg → n < length ps → get_or (all os ps) n None ≡ shown (Some leg) (get_or ps n d)
  unfolding shown_all
  counts_leg_at [] ps n leg d at inside = absurd cc
  counts_leg_at (q ∷ os) [] n leg d at inside = absurd (omega (arith, inside))
  counts_leg_at (q ∷ os) (p ∷ ps) zero leg d at inside = ap (λ (o : Option Leg). shown o p) at
  counts_leg_at (q ∷ os) (p ∷ ps) (suc n) leg d at inside = counts_leg_at os ps n leg d at (omega (arith, inside))

-- a message that is kept at a slot is the note there
message_by : (note : SlotData) (octets : List ℕ) → message_in note ≡ Some octets → note ≡ Message octets
message_by (Number p) octets is = absurd cc
message_by (Message os) octets is = let same : os ≡ octets = cc in ap (λ (list : List ℕ). Message list) same

message_is : (o : Option Leg) (note : SlotData) (octets : List ℕ) → keeping o note ≡ Some octets → note ≡ Message octets
message_is None note octets is = absurd cc
message_is (Some leg) note octets is = elim (true_or_false (is_among awaiting_answer leg.state)) [
  | inl waits ↦ let e : message_in note ≡ Some octets = rw waits at is in message_by note octets e
  | inr other ↦ let e : None ≡ Some octets = rw other at is in absurd cc
]

note_stays : (os : List (Option Leg)) (ps : List SlotData) (n : ℕ) (octets : List ℕ) → get_or (keeping_all os ps) n None ≡ Some octets → set ps n (Message octets) ≡ ps
unfolding shown_all
note_stays [] ps n octets at = absurd cc
note_stays (q ∷ os) [] n octets at = refl
note_stays (q ∷ os) (p ∷ ps) zero octets at = ap (λ (r : SlotData). r ∷ ps) (sym (message_is q p octets at))
note_stays (q ∷ os) (p ∷ ps) (suc n) octets at = ap (λ (rs : List SlotData). p ∷ rs) (note_stays os ps n octets at)

pub no_note : SlotData
no_note = Message []

-- what counts at the slot of a leg, by the note that is there
pub counts_by : (X : Type 0) (shown : Option Leg → SlotData → Option X) (os : List (Option Leg)) (ps : List SlotData) (n : ℕ) (o : Option Leg) (leg : Leg) (d note : SlotData) (counted : SlotData → Option X)
    → o ≡ get_or os n None → o ≡ Some leg → IfSome o (λ _. n < length os) → length ps ≡ length os → get_or ps n d ≡ note → ((m : SlotData) → shown (Some leg) m ≡ counted m) → counted note ≡ get_or (shown_all X shown os ps) n None
counts_by X shown os ps n o leg d note counted found is within same at counts =
    let inside : n < length os = subst (λ (q : Option Leg). IfSome q (λ _. n < length os)) is within in
    sym (counts_leg_at X shown os ps n leg d (sym found ∙ is) (omega (arith, inside, same)) ∙ ap (shown (Some leg)) at ∙ counts note)

-- ---- a table, as contracts see it

abbrev entry : List (Option Leg) → List (Option Pending) → List (Option (List ℕ)) → List Condition → List Bool → Option Leg → Option Pending → Option (List ℕ) → ℕ → Legs
entry legs pending kept conditions down o p k n = record { held = set legs n o; pending = set pending n p; kept = set kept n k; conditions = conditions; down = down }

module _ (legs : List (Option Leg)) (notes : List SlotData) (conditions : List Condition) (down : List Bool) (now : Legs) (view : legs_kept legs notes conditions down ≡ now) (n : ℕ) (x : Slot) (at : n ≡ number_of x) where
  -- what the table shows there
  pub pending_shown : pending_at now x ≡ get_or (counting_all legs notes) n None
  pending_shown = sym (ap (λ (k : ℕ). get_or (counting_all legs notes) k None) at ∙ ap (λ (ls : Legs). pending_at ls x) view)

  pub kept_shown : kept_at now x ≡ get_or (keeping_all legs notes) n None
  kept_shown = sym (ap (λ (k : ℕ). get_or (keeping_all legs notes) k None) at ∙ ap (λ (ls : Legs). kept_at ls x) view)

  -- nothing counts there any more
  legs_kept_dropped : (o : Option Leg) → ((note : SlotData) → counting o note ≡ None) → ((note : SlotData) → keeping o note ≡ None) → legs_kept (set legs n o) notes conditions down ≡ entry now.held now.pending now.kept now.conditions now.down o None None (number_of x)
  legs_kept_dropped o no_number no_message =
      (λ i. record { held = set legs n o; pending = counts_quiet Pending counting legs notes n o no_number i; kept = counts_quiet (List ℕ) keeping legs notes n o no_message i; conditions = conditions; down = down })
      ∙ ap (entry legs (counting_all legs notes) (keeping_all legs notes) conditions down o None None) at
      ∙ ap (λ (ls : Legs). entry ls.held ls.pending ls.kept ls.conditions ls.down o None None (number_of x)) view

  -- something else is kept there
  legs_kept_noted : (leg : Leg) (note : SlotData) → length notes ≡ length legs
      → legs_kept (set legs n (Some leg)) (set notes n note) conditions down ≡ entry now.held now.pending now.kept now.conditions now.down (Some leg) (counting (Some leg) note) (keeping (Some leg) note) (number_of x)
  legs_kept_noted leg note size =
      (λ i. record { held = set legs n (Some leg); pending = counts_noted Pending counting legs notes n (Some leg) note size i; kept = counts_noted (List ℕ) keeping legs notes n (Some leg) note size i; conditions = conditions; down = down })
      ∙ ap (entry legs (counting_all legs notes) (keeping_all legs notes) conditions down (Some leg) (counting (Some leg) note) (keeping (Some leg) note)) at
      ∙ ap (λ (ls : Legs). entry ls.held ls.pending ls.kept ls.conditions ls.down (Some leg) (counting (Some leg) note) (keeping (Some leg) note) (number_of x)) view

  pub kept_put : (leg : Leg) → leg.state ≢ overlap_sending → is_among awaiting_answer leg.state ≡ false → legs_kept (set legs n (Some leg)) notes conditions down ≡ with_leg now x leg
  kept_put leg apart unanswered = legs_kept_dropped (Some leg) (λ note. counting_quiet leg note apart) (λ note. keeping_unkept leg note unanswered)

  pub kept_remove : (is : Condition) → legs_kept (set legs n None) notes (set conditions n is) down ≡ without_leg now x is
  kept_remove is =
      (λ i. record (legs_kept_dropped None (λ note. refl) (λ note. refl) i) { conditions = set conditions (at i) is })
      ∙ ap (λ (ls : Legs). record (entry now.held now.pending now.kept now.conditions now.down None None None (number_of x)) { conditions = set ls.conditions (number_of x) is }) view

  pub kept_wait : (leg : Leg) (p : Pending) → leg.state ≡ overlap_sending → length notes ≡ length legs → legs_kept (set legs n (Some leg)) (set notes n (Number p)) conditions down ≡ with_waiting now x leg p
  kept_wait leg p is size =
      legs_kept_noted leg (Number p) size
      ∙ (λ i. entry now.held now.pending now.kept now.conditions now.down (Some leg) (counting_waiting leg (Number p) is i) (keeping_unkept leg (Number p) (digits_keep_none leg.state is) i) (number_of x))

  pub kept_expect : (leg : Leg) (octets : List ℕ) → is_among awaiting_answer leg.state ≡ true → length notes ≡ length legs → legs_kept (set legs n (Some leg)) (set notes n (Message octets)) conditions down ≡ with_kept now x leg octets
  kept_expect leg octets is size =
      legs_kept_noted leg (Message octets) size
      ∙ (λ i. entry now.held now.pending now.kept now.conditions now.down (Some leg) (counting_quiet leg (Message octets) (answer_no_digits leg.state is) i) (keeping_message leg (Message octets) is i) (number_of x))

  -- the message that was kept there is kept on
  pub kept_still : (leg : Leg) (octets : List ℕ) → is_among awaiting_answer leg.state ≡ true → length notes ≡ length legs → kept_at now x ≡ Some octets → legs_kept (set legs n (Some leg)) notes conditions down ≡ with_kept now x leg octets
  kept_still leg octets is size keeps =
      ap (λ (rs : List SlotData). legs_kept (set legs n (Some leg)) rs conditions down) (sym (note_stays legs notes n octets (sym kept_shown ∙ keeps)))
      ∙ kept_expect leg octets is size

pub kept_none : (legs : List (Option Leg)) (notes : List SlotData) (conditions : List Condition) (down : List Bool) (n external : ℕ) → legs ≡ replicate n None → n ≡ 30 * external → conditions ≡ replicate n Idle → down ≡ replicate external false → legs_kept legs notes conditions down ≡ no_legs external
kept_none legs notes conditions down n external is size nothing up =
    (λ i. legs_kept (is i) notes (nothing i) (up i))
    ∙ (λ i. record { held = replicate n None; pending = counts_none Pending counting (λ note. refl) n notes i; kept = counts_none (List ℕ) keeping (λ note. refl) n notes i; conditions = replicate n Idle; down = replicate external false })
    ∙ ap (λ k. let bare : Legs = record { held = replicate k None; pending = replicate k None; kept = replicate k None; conditions = replicate k Idle; down = replicate external false } in bare) size

-- ---- a table without legs

same_in : (X : Type 0) (x : X) (n i : ℕ) → get_or (replicate n x) i x ≡ x
same_in X x zero i = refl
same_in X x (suc n) zero = refl
same_in X x (suc n) (suc i) = same_in X x n i

abbrev bare : ℕ → List (Option Leg)
bare n = replicate n None

none_told : (n i : ℕ) (d : Option Leg) → i < n → IfSome (get_or (bare n) i d) FitsMessages
none_told zero i d inside = absurd (omega (arith, inside))
none_told (suc n) zero d inside = tt
none_told (suc n) (suc i) d inside = none_told n i d (omega (arith, inside))

pub bare_keys : (external : ℕ) (legs : List (Option Leg)) (keys : List ℕ) → legs ≡ replicate (30 * external) None → keys ≡ replicate (32 * external) no_key → AreKeysOf external legs keys
bare_keys external legs keys nobody none = record {
  slots = ap length nobody ∙ length-replicate (30 * external) None;
  rows = ap length none ∙ length-replicate (32 * external) no_key;
  told = subst (All (λ leg. IfSome leg FitsMessages)) (sym nobody) (λ i d inside. none_told (30 * external) i d (let size = length-replicate {A = Option Leg} (30 * external) None in omega (arith, inside, size)));
  each = λ line place within.
      ap (λ ks. key_on ks line place) none
      ∙ same_in ℕ no_key (32 * external) (32 * line + place)
      ∙ ap key_of (sym (ap (λ os. leg_on os line place) nobody ∙ same_in (Option Leg) None (30 * external) (30 * line + place)));
  behind = λ line place from near. ap (λ ks. key_on ks line place) none ∙ same_in ℕ no_key (32 * external) (32 * line + place);
}
