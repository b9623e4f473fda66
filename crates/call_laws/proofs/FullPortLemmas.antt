-- Where as many sit as there are ports, each port has a member.
use Rattle.std.proofs.Common.{◌≡◌, ℕ, zero, suc, ◌+◌, ◌*◌, ◌<◌, Bool, true, List, [], ◌∷◌, ◌++◌, length, Some, None, refl, sym, ◌∙◌, ap, subst, arith, length-append, if◌then◌else◌}
use Rattle.std.specs.Prelude.{◌↔◌, count_by, slice_index_or}
use Rattle.std.proofs.lemmas.Bool.{eqb-true, eq-eqb}
use Rattle.std.proofs.lemmas.Grind.{common_steps}
use Rattle.std.proofs.lemmas.List.Sums.{count_by-le-length}
use Rattle.circuit_model.specs.declared.channel.Slot.{Slot}
use Rattle.circuit_model.specs.declared.circuit.Circuit.{Circuit}
use Rattle.circuit_model.specs.declared.circuit.Circuit.TheVariants.{Pair, Member, Tone}
use Rattle.circuit_model.specs.Circuits.{is_member}
use Rattle.circuit_model.specs.Holding.{empty, frames, circuits_of}
use Rattle.circuit_model.specs.Ports.{Ports, free_ports, port_frames, ports_of, owner_of}
use Rattle.circuit_model.proofs.PortSeats.{Matched, port_is, seat_is, matched-frames, matched-empty, length-port_frames_alike}
use Rattle.tone_rules.specs.declared.tones.Tones.{Tones}
use Rattle.exchange_events.specs.Sizes.{Dimensions}
use Rattle.call_profile.specs.IsMade.{IsMade}
use Rattle.call_profile.specs.Refused.{AllAreTaken}
use Rattle.call_profile.specs.World.{World, is_full}
use Rattle.call_profile.proofs.HistoryLemmas.{made_pass}

-- ---- the members and the ports of a world

last_entry : {X : Type 0} (xs : List X) (x missing : X) → slice_index_or (xs ++ x ∷ []) (length xs) missing ≡ x
last_entry [] x missing = refl
last_entry (y ∷ xs) x missing = last_entry xs x missing

-- circuits and ports match, as the next frame will have them
pub made_matched : (d : Dimensions) (tones : Tones) (w : World) → IsMade d tones w → Matched d.bridges w.holding.circuits w.ports
made_matched d tones w made =
    let later = made_pass d tones w made [] in
    let f = length w.held in
    let cs = later.commands in
    let long = ap length later.held ∙ refl in
    let more = length-append w.held (w.holding.circuits ∷ []) in
    let seats : length w.seated ≡ length w.held = ap length made.seated ∙ length-port_frames_alike empty (free_ports d.bridges) made.commands ∙ sym (ap length made.held) in
    let matched = matched-frames d.bridges empty (free_ports d.bridges) cs f (matched-empty d.bridges) later.allowed (omega (arith, long, more)) in
    let circuits : circuits_of (frames empty cs) f ≡ w.holding.circuits = ap (λ (held : List (List Circuit)). circuits_of held f) (sym later.held) ∙ last_entry w.held w.holding.circuits [] in
    let ports : ports_of (port_frames (free_ports d.bridges) cs) f ≡ w.ports =
    ap (λ (seated : List Ports). ports_of seated f) (sym later.seated) ∙ ap (λ (n : ℕ). ports_of (w.seated ++ w.ports ∷ []) n) (sym seats) ∙ last_entry w.seated w.ports [] in
    subst (λ (held : List Circuit). Matched d.bridges held w.ports) circuits (subst (λ (taken : Ports). Matched d.bridges (circuits_of (frames empty cs) f) taken) ports matched)

-- ---- ports that are all taken

abbrev any_slot : Slot → Bool
any_slot x = true

more_by : {X : Type 0} (p : X → Bool) (x : X) (xs : List X) → count_by p (x ∷ xs) ≡ count_by p xs + (if p x then 1 else 0)
more_by p x xs = grind (arith, common_steps)

members_are : (circuits : List Circuit) → count_by (seat_is any_slot) circuits ≡ count_by is_member circuits
members_are [] = refl
members_are (Pair from to since ∷ cs) = members_are cs
members_are (Member room at since ∷ cs) =
    let rest = members_are cs in
    omega (arith, rest, more_by (seat_is any_slot) (Member room at since) cs, more_by is_member (Member room at since) cs)
members_are (Tone kind to since ∷ cs) = members_are cs

each_taken : (ports : Ports) → count_by (port_is any_slot) ports ≡ length ports → (k : ℕ) → k < length ports → (x : Slot) × (owner_of ports k ≡ Some x)
each_taken [] all k within = absurd (omega (arith, within))
each_taken (None ∷ ports) all k within =
    let most = count_by-le-length (port_is any_slot) ports in
    let one = more_by (port_is any_slot) None ports in
    absurd (omega (arith, all, most, one))
each_taken (Some x ∷ ports) all zero within = (x, refl)
each_taken (Some x ∷ ports) all (suc k) within =
    let one = more_by (port_is any_slot) (Some x) ports in
    each_taken ports (omega (arith, all, one)) k (omega (arith, within))

all_counted : (ports : Ports) → ((k : ℕ) → k < length ports → (x : Slot) × (owner_of ports k ≡ Some x)) → count_by (port_is any_slot) ports ≡ length ports
all_counted [] each = refl
all_counted (None ∷ ports) each = let first = each 0 (omega arith) in let wrong : None ≡ Some first.0 = first.1 in absurd cc
all_counted (Some x ∷ ports) each =
    let rest = all_counted ports (λ k within. each (suc k) (omega (arith, within))) in
    let one = more_by (port_is any_slot) (Some x) ports in
    omega (arith, rest, one)

pub full_is_taken : (d : Dimensions) (tones : Tones) (w : World) → IsMade d tones w → (is_full d w ≡ true) ↔ AllAreTaken d.bridges w.ports
full_is_taken d tones w made =
    let matched = made_matched d tones w made in
    let counted = matched.counted any_slot in
    let members = members_are w.holding.circuits in
    let size = matched.size in (
      λ full k within.
          let as_many = eqb-true (count_by is_member w.holding.circuits) (30 * d.bridges) full in
          each_taken w.ports (omega (arith, counted, members, size, as_many)) k (omega (arith, size, within)),
      λ taken.
          let all = all_counted w.ports (λ k within. taken k (omega (arith, size, within))) in
          eq-eqb (count_by is_member w.holding.circuits) (30 * d.bridges) (omega (arith, counted, members, size, all)),
    )
