-- The octets that a slot hears, and the slots that sent them.
use Rattle.std.proofs.Common.{◌≡◌, ◌≢◌, ℕ, ◌+◌, ◌-◌, ◌<◌, ◌≤◌, true, false, cond, List, [], ◌∷◌, Option, Some, None, length, refl, sym, ◌∙◌, ap, subst, inl, inr, ⊎_elim, arith, get_or}
use Rattle.std.specs.List.{All, Contains, filter}
use Rattle.std.proofs.lemmas.Grind.{common_steps}
use Rattle.std.proofs.lemmas.Bool.{cases_lt}
use Rattle.std.proofs.lemmas.List.{get_or_past}
use Rattle.std.proofs.lemmas.List.Elements.{All-nil, All-cons, All-head, All-tail, All-contains, filter_passes, Contains-get_or}
use Rattle.circuit_model.specs.declared.channel.Slot.{Slot}
use Rattle.circuit_model.specs.declared.circuit.Kind.{Kind}
use Rattle.circuit_model.specs.declared.circuit.Circuit.{Circuit}
use Rattle.circuit_model.specs.declared.circuit.Circuit.TheVariants.{Pair, Member, Tone}
use Rattle.circuit_model.specs.FrameInput.{Input, arrives, idle_octet}
use Rattle.circuit_model.specs.ALaw.{compress}
use Rattle.circuit_model.specs.Circuits.{listener, heard_by, same_slot, first_frame_of}
use Rattle.circuit_model.specs.Holding.{Command, circuits_of, circuits_naming, empty, frames, AreAllowed, Stands, Has_no_circuit, Has_tone, Is_seated, Is_connected}
use Rattle.circuit_model.specs.Hears.{hears, heard_through, is_through, is_other, octets_of, sum_of_values, mix}
use Rattle.circuit_model.proofs.Age.{age, cons_cases, at_head, in_tail, none_in_nil, within_filtered}
use Rattle.circuit_model.proofs.Hearing.{heard_by-stands}
use Rattle.circuit_model.proofs.Slots.{same_slot-true, same_slot-refl, same_slot-false, heard_by-naming}
use Rattle.circuit_model.proofs.Validity.{heard_by-listener, valid-empty}
use Rattle.circuit_model.proofs.FrameRecords.{valid-frames}
use Rattle.privacy.specs.Sources.{Octet, sent_in, sources_through, sources, AgreeOn, Exists, IsFromPartner, IsFromMember, IsSource, AreTogether, In_connection, In_room, DifferOnlyAt}

-- ---- no other octet matters

abbrev SameAt : List Input → List Input → Octet → Type 0
SameAt a b o = arrives a o.frame o.from ≡ arrives b o.frame o.from

same_octets : (a b : List Input) (g : ℕ) (cs : List Circuit) → AgreeOn a b (sent_in g cs) → octets_of a g cs ≡ octets_of b g cs
same_octets a b g [] agree = refl
same_octets a b g (c ∷ cs) agree =
    let o : Octet = record { frame = g; from = listener c } in
    let head = All-head (SameAt a b) o (sent_in g cs) agree in
    let rest = same_octets a b g cs (All-tail (SameAt a b) o (sent_in g cs) agree) in
    λ i. head i ∷ rest i

pub heard_alike : (tones : Kind → List ℕ) (a b : List Input) (held : List (List Circuit)) (f : ℕ) (o : Option Circuit) → AgreeOn a b (sources_through held f o)
    → heard_through tones a held f o ≡ heard_through tones b held f o
heard_alike tones a b held f None agree = refl
heard_alike tones a b held f (Some (Pair x y since)) agree =
    elim (is_through since f) as (λ t. AgreeOn a b (cond t (record { frame = f - 2; from = x } ∷ []) []) → cond t (arrives a (f - 2) x) idle_octet ≡ cond t (arrives b (f - 2) x) idle_octet) [
      | true ↦ λ h. All-head (SameAt a b) (record { frame = f - 2; from = x }) [] h
      | false ↦ λ h. refl
    ] agree
heard_alike tones a b held f (Some (Member room y since)) agree =
    let others = filter (is_other room y (f - 2)) (circuits_of held (f - 2)) in
    elim (is_through since f) as (λ t. AgreeOn a b (cond t (sent_in (f - 2 - 2) others) []) → cond t (mix a (circuits_of held (f - 2)) room y (f - 2)) idle_octet ≡ cond t (mix b (circuits_of held (f - 2)) room y (f - 2)) idle_octet) [
      | true ↦ λ h. ap (λ octets. compress (sum_of_values octets)) (same_octets a b (f - 2 - 2) others h)
      | false ↦ λ h. refl
    ] agree
heard_alike tones a b held f (Some (Tone kind y since)) agree = refl

-- ---- where each octet comes from

-- an older circuit existed two frames before
pub two_before : (cs : List Command) (f g : ℕ) (c : Circuit) → g + 2 ≡ f → first_frame_of c ≤ g → Exists (frames empty cs) f c → Exists (frames empty cs) g c
two_before cs f g c e begun inside =
    let one = age cs f c inside (omega (arith, e, begun)) in
    let two = age cs (f - 1) c one (omega (arith, e, begun)) in
    subst (λ n. Exists (frames empty cs) n c) (omega (arith, e)) two

-- the receiver of a listed circuit sent each listed octet
pub of_listed : (g : ℕ) (cs : List Circuit) (o : Octet) → Contains (sent_in g cs) o → (c : Circuit) × Contains cs c × (record { frame = g; from = listener c } ≡ o)
of_listed g [] o inside = absurd (none_in_nil o inside)
of_listed g (c ∷ cs) o inside =
    ⊎_elim (λ (e : record { frame = g; from = listener c } ≡ o). (c, at_head c cs c refl, e))
    (λ (t : Contains (sent_in g cs) o). let found = of_listed g cs o t in (found.0, in_tail c cs found.0 found.1, found.2))
    (cons_cases (record { frame = g; from = listener c }) (sent_in g cs) o inside)

-- another member of the room, two frames old: its circuit
pub record IsOther (room : ℕ) (y : Slot) (g : ℕ) (c : Circuit) : Type 0 where
  pub since : ℕ
  pub is : Member room (listener c) since ≡ c
  pub apart : listener c ≢ y
  pub begun : since + 2 ≤ g

pub other_is : (room : ℕ) (y : Slot) (g : ℕ) (c : Circuit) → is_other room y g c ≡ true → IsOther room y g c
other_is room y g (Pair from to since) h = absurd (grind (arith, common_steps))
other_is room y g (Member r at since) h =
    let same : r ≡ room = grind (arith, common_steps) in
    let off : same_slot at y ≡ false = grind (arith, common_steps) in
    record {
      since = since;
      is = ap (λ q. Member q at since) (sym same);
      apart = λ e. let on : same_slot at y ≡ true = subst (λ z. same_slot at z ≡ true) e (same_slot-refl at) in grind (arith, common_steps);
      begun = grind (arith, common_steps);
    }
other_is room y g (Tone kind at since) h = absurd (grind (arith, common_steps))

-- the circuit by which a slot hears has it as its receiver
pub partner_of : (circuits : List Circuit) (y x z : Slot) (since : ℕ) → heard_by circuits y ≡ Some (Pair x z since) → Contains circuits (Pair x y since)
partner_of circuits y x z since hears =
    let found = heard_by-stands circuits y (Pair x z since) hears in
    subst (λ w. Contains circuits (Pair x w since)) (sym (same_slot-true y z found.1)) found.0

pub member_of : (circuits : List Circuit) (y z : Slot) (room since : ℕ) → heard_by circuits y ≡ Some (Member room z since) → Contains circuits (Member room y since)
member_of circuits y z room since hears =
    let found = heard_by-stands circuits y (Member room z since) hears in
    subst (λ w. Contains circuits (Member room w since)) (sym (same_slot-true y z found.1)) found.0

-- ---- the kinds of sources

partners : (cs : List Command) (f : ℕ) (y x : Slot) (since : ℕ) (o : Octet) → Contains (circuits_of (frames empty cs) f) (Pair x y since) → since + 2 ≤ f
    → record { frame = f - 2; from = x } ≡ o → IsFromPartner (frames empty cs) f y o
partners cs f y x since o inside old e =
    let frame : o.frame + 2 ≡ f = let g : f - 2 ≡ o.frame = ap (λ (p : Octet). p.frame) e in omega (arith, old, g) in
    let from : x ≡ o.from = ap (λ (p : Octet). p.from) e in
    let heard : Exists (frames empty cs) f (Pair o.from y since) = subst (λ z. Exists (frames empty cs) f (Pair z y since)) from inside in
    record {
      since = since;
      frame = frame;
      begun = omega (arith, old, frame);
      sent = two_before cs f o.frame (Pair o.from y since) frame (omega (arith, old, frame)) heard;
      heard = heard;
    }

members : (cs : List Command) (f room : ℕ) (y : Slot) (since : ℕ) (o : Octet) (c : Circuit) → Contains (circuits_of (frames empty cs) f) (Member room y since) → since + 2 ≤ f
    → Exists (frames empty cs) (f - 2) c → IsOther room y (f - 2) c → record { frame = f - 2 - 2; from = listener c } ≡ o → IsFromMember (frames empty cs) f y o
members cs f room y since o c inside old there other e =
    let g : f - 2 - 2 ≡ o.frame = ap (λ (p : Octet). p.frame) e in
    let from : listener c ≡ o.from = ap (λ (p : Octet). p.from) e in
    let ofsender = other.begun in
    let frame : o.frame + 4 ≡ f = omega (arith, old, g, ofsender) in
    let middle : f - 2 ≡ o.frame + 2 = omega (arith, frame) in
    let theirs : Member room (listener c) other.since ≡ Member room o.from other.since = ap (λ z. Member room z other.since) from in
    let mixed : Exists (frames empty cs) (o.frame + 2) (Member room o.from other.since) =
    subst (λ n. Exists (frames empty cs) n (Member room o.from other.since)) middle
    (subst (λ d. Exists (frames empty cs) (f - 2) d) theirs (subst (λ d. Exists (frames empty cs) (f - 2) d) (sym other.is) there)) in
    let begun : since ≤ o.frame + 2 = omega (arith, old, frame) in
    let sender_begun : other.since ≤ o.frame = omega (arith, ofsender, middle) in
    record {
      room = room;
      sender_since = other.since;
      since = since;
      other = subst (λ z. z ≢ y) from other.apart;
      frame = frame;
      sender_begun = sender_begun;
      begun = begun;
      sent = two_before cs (o.frame + 2) o.frame (Member room o.from other.since) refl sender_begun mixed;
      mixed = mixed;
      joined = two_before cs f (o.frame + 2) (Member room y since) (omega (arith, frame)) begun inside;
      heard = inside;
    }

through_kind : (cs : List Command) (f : ℕ) (y : Slot) (o : Octet) (h : Option Circuit) → heard_by (circuits_of (frames empty cs) f) y ≡ h
    → Contains (sources_through (frames empty cs) f h) o → IsSource (frames empty cs) f y o
through_kind cs f y o None is inside = absurd (none_in_nil o inside)
through_kind cs f y o (Some (Pair x z since)) is inside =
    let circuit = partner_of (circuits_of (frames empty cs) f) y x z since is in
    elim (is_through since f) as (λ t. is_through since f ≡ t → Contains (cond t (record { frame = f - 2; from = x } ∷ []) []) o → IsSource (frames empty cs) f y o) [
      | true ↦ λ old within. ⊎_elim (λ (e : record { frame = f - 2; from = x } ≡ o). inl (partners cs f y x since o circuit (grind (arith, common_steps)) e))
          (λ (no : Contains [] o). absurd (none_in_nil o no)) (cons_cases (record { frame = f - 2; from = x }) [] o within)
      | false ↦ λ old within. absurd (none_in_nil o within)
    ] refl inside
through_kind cs f y o (Some (Member room z since)) is inside =
    let held = frames empty cs in
    let circuit = member_of (circuits_of held f) y z room since is in
    let same : y ≡ z = same_slot-true y z (heard_by-stands (circuits_of held f) y (Member room z since) is).1 in
    let others = filter (is_other room z (f - 2)) (circuits_of held (f - 2)) in
    elim (is_through since f) as (λ t. is_through since f ≡ t → Contains (cond t (sent_in (f - 2 - 2) others) []) o → IsSource held f y o) [
      | true ↦ λ old within.
          let found = of_listed (f - 2 - 2) others o within in
          let there = within_filtered (is_other room z (f - 2)) (circuits_of held (f - 2)) found.0 found.1 in
          let passes = All-contains (λ (d : Circuit). is_other room z (f - 2) d ≡ true) others found.0 (filter_passes (is_other room z (f - 2)) (circuits_of held (f - 2))) found.1 in
          let other = subst (λ w. IsOther room w (f - 2) found.0) (sym same) (other_is room z (f - 2) found.0 passes) in
          inr (members cs f room y since o found.0 circuit (grind (arith, common_steps)) there other found.2)
      | false ↦ λ old within. absurd (none_in_nil o within)
    ] refl inside
through_kind cs f y o (Some (Tone kind z since)) is inside = absurd (none_in_nil o inside)

pub kinds : (cs : List Command) (f : ℕ) (y : Slot) (o : Octet) → Contains (sources (frames empty cs) f y) o → IsSource (frames empty cs) f y o
kinds cs f y o inside = through_kind cs f y o (heard_by (circuits_of (frames empty cs) f) y) refl inside

-- ---- how old the octets are

listed_since : (g n : ℕ) (cs : List Circuit) → n ≤ g + 2 → All (λ o. n ≤ o.frame + 2) (sent_in g cs)
listed_since g n [] h = All-nil (λ (o : Octet). n ≤ o.frame + 2)
listed_since g n (c ∷ cs) h = All-cons (λ (o : Octet). n ≤ o.frame + 2) (record { frame = g; from = listener c }) (sent_in g cs) h (listed_since g n cs h)

pub room_since : (held : List (List Circuit)) (f : ℕ) (x : Slot) (room since : ℕ) → All (λ o. since ≤ o.frame + 2) (sources_through held f (Some (Member room x since)))
room_since held f x room since =
    let others = filter (is_other room x (f - 2)) (circuits_of held (f - 2)) in
    elim (is_through since f) as (λ t. is_through since f ≡ t → All (λ (o : Octet). since ≤ o.frame + 2) (cond t (sent_in (f - 2 - 2) others) [])) [
      | true ↦ λ old. listed_since (f - 2 - 2) since others (grind (arith, common_steps))
      | false ↦ λ old. All-nil (λ (o : Octet). since ≤ o.frame + 2)
    ] refl

-- ---- bystanders

apart : (cs : List Command) (f : ℕ) (x y : Slot) (o : Octet) → ¬ (AreTogether (frames empty cs) (f - 2) x y) → IsSource (frames empty cs) f y o → o.from ≢ x
apart cs f x y o alone source e =
    let held = frames empty cs in
    ⊎_elim (λ (p : IsFromPartner held f y o).
    let at : o.frame ≡ f - 2 = let frame = p.frame in omega (arith, frame) in
    alone (In_connection p.since (subst (λ n. Exists held n (Pair x y p.since)) at (subst (λ z. Exists held o.frame (Pair z y p.since)) e p.sent))))
    (λ (p : IsFromMember held f y o).
    let at : o.frame + 2 ≡ f - 2 = let frame = p.frame in omega (arith, frame) in
    alone (In_room p.room p.sender_since p.since
    (subst (λ n. Exists held n (Member p.room x p.sender_since)) at (subst (λ z. Exists held (o.frame + 2) (Member p.room z p.sender_since)) e p.mixed))
    (subst (λ n. Exists held n (Member p.room y p.since)) at p.joined)))
    source

pub bystanders : (tones : Kind → List ℕ) (a b : List Input) (cs : List Command) (f : ℕ) (x y : Slot) → DifferOnlyAt x a b → ¬ (AreTogether (frames empty cs) (f - 2) x y)
    → hears tones a (frames empty cs) f y ≡ hears tones b (frames empty cs) f y
bystanders tones a b cs f x y differ alone =
    let held = frames empty cs in
    let octets = sources held f y in
    heard_alike tones a b held f (heard_by (circuits_of held f) y)
    (λ k d small. let o = get_or octets k d in differ o.frame o.from (apart cs f x y o alone (kinds cs f y o (Contains-get_or octets k d small))))

-- ---- no slot hears itself

-- a slot that is in one state is not connected with itself
two_kinds : (circuits : List Circuit) (x : Slot) (since : ℕ) → Stands circuits x → heard_by (circuits_naming circuits x) x ≡ Some (Pair x x since) → ⊥
two_kinds circuits x since (Has_no_circuit e) hears = let h = rw e at hears in grind (arith, common_steps)
two_kinds circuits x since (Has_tone kind n e) hears = let h = rw e at hears in let on = same_slot-refl x in grind (arith, common_steps)
two_kinds circuits x since (Is_seated room n e) hears = let h = rw e at hears in let on = same_slot-refl x in grind (arith, common_steps)
two_kinds circuits x since (Is_connected y n apart (inl e)) hears =
    let h = rw e at hears in
    let on = same_slot-refl x in
    let off = same_slot-false x y (λ p. apart (sym p)) in
    let pair : Some (Pair y x n) ≡ Some (Pair x x since) = grind (arith, common_steps) in
    apart (grind (arith, common_steps))
two_kinds circuits x since (Is_connected y n apart (inr e)) hears =
    let h = rw e at hears in
    let on = same_slot-refl x in
    let off = same_slot-false x y (λ p. apart (sym p)) in
    let pair : Some (Pair y x n) ≡ Some (Pair x x since) = grind (arith, common_steps) in
    apart (grind (arith, common_steps))

not_with_itself : (circuits : List Circuit) (x : Slot) (since : ℕ) → Stands circuits x → ¬ (Contains circuits (Pair x x since))
not_with_itself circuits x since s inside = two_kinds circuits x since s (heard_by-naming circuits x ∙ heard_by-listener circuits (Pair x x since) s inside)

-- a frame in which a circuit exists is one of those recorded
recorded : (held : List (List Circuit)) (f : ℕ) (c : Circuit) → Exists held f c → f < length held
recorded held f c inside =
    elim (cases_lt f (length held)) [
      | inl small ↦ small
      | inr large ↦ absurd (none_in_nil c (subst (λ cs. Contains cs c) (get_or_past held f [] large) inside))
    ]

pub no_echo : (bridges : ℕ) (cs : List Command) (f : ℕ) (y : Slot) (o : Octet) → AreAllowed bridges empty cs → Contains (sources (frames empty cs) f y) o → o.from ≢ y
no_echo bridges cs f y o allowed inside e =
    let held = frames empty cs in
    ⊎_elim (λ (p : IsFromPartner held f y o).
    let itself : Exists held o.frame (Pair y y p.since) = subst (λ z. Exists held o.frame (Pair z y p.since)) e p.sent in
    let valid = valid-frames bridges empty cs o.frame (valid-empty bridges) allowed (recorded held o.frame (Pair y y p.since) itself) in
    not_with_itself (circuits_of held o.frame) y p.since (valid.standing y) itself)
    (λ (p : IsFromMember held f y o). p.other e)
    (kinds cs f y o inside)
