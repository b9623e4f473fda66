-- What a mixer keeps of its ports, as members take their seats, and what each port is given of it.
use Rattle.std.proofs.Common.{◌≡◌, ℕ, zero, suc, ◌<◌, ◌≤◌, ◌≢◌, ⊎_elim, Bool, true, nat_lt, List, length, replicate, get_or, set, get_or-set_other, get_or-set_same, length-set, Option, Some, None, IfSome, ℤ, pos, ◌+ℤ◌, ◌-ℤ◌, nat_abs, refl, sym, ap, ◌∙◌, subst, inl, inr, arith}
use Rattle.std.specs.List.{range_with_len}
use Rattle.std.proofs.lemmas.Int.{ints}
use Rattle.std.proofs.lemmas.Bool.{agree_below, agree_below_at, cases_eq, lt-ltb}
use Rattle.std.proofs.lemmas.List.{get_or-replicate, length-replicate, length-map}
use Rattle.std.proofs.lemmas.List.FromFn.{get_or-map-range_with_len, fill_by_all, length-range_with_len}
use Rattle.circuit_model.specs.ALaw.{decision_values, expand, compress}
use Rattle.circuit_model.specs.FrameInput.{idle_octet}
use Rattle.circuit_model.proofs.PortSeats.{below_or_not}
use Rattle.alaw_codec.proofs.Tables.{compress_round_trip}
use Rattle.conference_mix.specs.declared.mixer.RoomMember.{RoomMember}
use Rattle.conference_mix.specs.Bridge.{value_of}
use Rattle.conference_mix.specs.Rooms.{counted_in, room_total, given_to_member, given_at}
use Rattle.conference_mix.specs.Seats.{octet_kept, seat_kept, seat_at, seats_kept, value_in, IsKept}
use Rattle.conference_mix.proofs.RoomTotals.{get_or-set_total, total-set, room_total_within, compress_given}

-- ---- a value tells its octet

sounds_test : ℕ → Bool
sounds_test octet = nat_lt 0 (nat_abs (expand octet))

every_octet : agree_below sounds_test (λ octet. true) 256 ≡ true
unfolding sounds_test decision_values
every_octet = refl

sounds : (octet : ℕ) → octet < 256 → nat_lt 0 (nat_abs (expand octet)) ≡ true
unfolding sounds_test
sounds octet near = agree_below_at sounds_test (λ octet. true) 256 octet every_octet near

pub kept-octet : (octet : Option ℕ) → IfSome octet (λ o. o < 256) → octet_kept (value_of octet) ≡ octet
kept-octet None near = refl
kept-octet (Some octet) near = let yes = sounds octet near in rw yes (ap (λ (o : ℕ). Some o) (compress_round_trip octet near))

kept-member : (member : RoomMember) (value : ℤ) → member.room < 256 → IfSome member.octet (λ o. o < 256) → value ≡ value_of member.octet → seat_kept member.room value ≡ Some member
kept-member member value near octet is =
    let yes = lt-ltb member.room 256 near in
    rw yes (ap (λ (o : Option ℕ). Some (record { room = member.room; octet = o })) (ap octet_kept is ∙ kept-octet member.octet octet))

-- ---- the ports in order

pub seats-length : (ports : ℕ) (rooms : List ℕ) (own : List ℤ) → length (seats_kept ports rooms own) ≡ ports
seats-length ports rooms own = length-map (range_with_len 0 ports) (seat_at rooms own) ∙ length-range_with_len 0 ports

pub get_or-seats_kept : (ports : ℕ) (rooms : List ℕ) (own : List ℤ) (k : ℕ) → k < ports → get_or (seats_kept ports rooms own) k None ≡ seat_at rooms own k
get_or-seats_kept ports rooms own k near = get_or-map-range_with_len (seat_at rooms own) 0 ports k k None near (omega arith)

-- a port of the bridge is one of those that are kept
pub port_near : (ports : ℕ) (rooms : List ℕ) (own : List ℤ) (now : List (Option RoomMember)) (port : ℕ) → seats_kept ports rooms own ≡ now → port < length now → port < ports
port_near ports rooms own now port is inside = let size = ap length is in let long = seats-length ports rooms own in omega (arith, inside, size, long)

-- ---- every port is free

pub get_or-replicate_same : {X : Type 0} (n : ℕ) (x : X) (k : ℕ) → get_or (replicate n x) k x ≡ x
get_or-replicate_same zero x k = refl
get_or-replicate_same (suc n) x zero = refl
get_or-replicate_same (suc n) x (suc k) = get_or-replicate_same n x k

seat_at_nobody : (rooms : List ℕ) (own : List ℤ) (k : ℕ) → get_or rooms k 256 ≡ 256 → seat_at rooms own k ≡ None
seat_at_nobody rooms own k free = ap (λ (room : ℕ). seat_kept room (get_or own k (pos 0))) free

pub seats-free : (ports : ℕ) (rooms : List ℕ) (own : List ℤ) → ((k : ℕ) → get_or rooms k 256 ≡ 256) → seats_kept ports rooms own ≡ replicate ports None
seats-free ports rooms own free =
    sym (fill_by_all (seat_at rooms own) (replicate ports None) ports None (length-replicate ports None) (λ k near. get_or-replicate ports k None None near ∙ sym (seat_at_nobody rooms own k (free k))))

none-total : (q n : ℕ) → room_total q (replicate n None) ≡ pos 0
none-total q zero = refl
none-total q (suc n) = none-total q n

pub kept-free : (ports n m r : ℕ) → ports ≤ 60 → IsKept ports (replicate r (pos 0)) (replicate n 256) (replicate m (pos 0))
kept-free ports n m r few =
    let free = get_or-replicate_same n 256 in
    let own = get_or-replicate_same m (pos 0) in
    record {
      few = few;
      near = λ k near. let e = free k in omega (arith, e);
      adds = λ k near. own k ∙ sym (ap value_in (seat_at_nobody (replicate n 256) (replicate m (pos 0)) k (free k)));
      small = λ k near. let e = own k in omega (arith, ints, e);
      sums = λ room near. get_or-replicate_same r (pos 0) room ∙ sym (ap (room_total room) (seats-free ports (replicate n 256) (replicate m (pos 0)) free) ∙ none-total room ports);
      none = get_or-replicate_same r (pos 0) 256;
    }

-- ---- a port is taken

pub seats-taken : (ports : ℕ) (rooms : List ℕ) (own : List ℤ) (p : ℕ) (member : RoomMember) (value : ℤ) → p < ports → p < length rooms → p < length own
    → member.room < 256 → IfSome member.octet (λ o. o < 256) → value ≡ value_of member.octet
    → seats_kept ports (set rooms p member.room) (set own p value) ≡ set (seats_kept ports rooms own) p (Some member)
seats-taken ports rooms own p member value inside in_rooms in_own near octet is =
    let seats = seats_kept ports rooms own in
    let size = seats-length ports rooms own in
    let after = seat_at (set rooms p member.room) (set own p value) in
    let here : get_or (set seats p (Some member)) p None ≡ after p =
    get_or-set_same seats p (Some member) None (omega (arith, inside, size))
    ∙ sym (ap (λ (room : ℕ). seat_kept room (get_or (set own p value) p (pos 0))) (get_or-set_same rooms p member.room 256 in_rooms)
    ∙ ap (λ (v : ℤ). seat_kept member.room v) (get_or-set_same own p value (pos 0) in_own)
    ∙ kept-member member value near octet is) in
    sym (fill_by_all after (set seats p (Some member)) ports None (length-set seats p (Some member) ∙ size)
    (λ k low. elim (cases_eq k p) [
      | inl same ↦ subst (λ (j : ℕ). get_or (set seats p (Some member)) j None ≡ after j) (sym same) here
      | inr other ↦
          get_or-set_other seats p k (Some member) None other
          ∙ get_or-seats_kept ports rooms own k low
          ∙ sym (ap (λ (room : ℕ). seat_kept room (get_or (set own p value) k (pos 0))) (get_or-set_other rooms p k member.room 256 other)
          ∙ ap (λ (v : ℤ). seat_kept (get_or rooms k 256) v) (get_or-set_other own p k value (pos 0) other))
    ]))

pub kept-taken : (ports : ℕ) (totals : List ℤ) (rooms : List ℕ) (own : List ℤ) (p : ℕ) (member : RoomMember) (value : ℤ) → IsKept ports totals rooms own → p < ports → 256 < length totals → p < length rooms → p < length own
    → member.room < 256 → IfSome member.octet (λ o. o < 256) → value ≡ value_of member.octet → nat_abs value ≤ 4032 → get_or (seats_kept ports rooms own) p None ≡ None
    → IsKept ports (set totals member.room (get_or totals member.room (pos 0) +ℤ value)) (set rooms p member.room) (set own p value)
kept-taken ports totals rooms own p member value kept inside in_totals in_rooms in_own near octet is little free =
    let seats = seats_kept ports rooms own in
    let size = seats-length ports rooms own in
    let taken = seats-taken ports rooms own p member value inside in_rooms in_own near octet is in
    let room_here : get_or (set rooms p member.room) p 256 ≡ member.room = get_or-set_same rooms p member.room 256 in_rooms in
    let own_here : get_or (set own p value) p (pos 0) ≡ value = get_or-set_same own p value (pos 0) in_own in
    let seat_here : seat_at (set rooms p member.room) (set own p value) p ≡ Some member =
    ap (λ (room : ℕ). seat_kept room (get_or (set own p value) p (pos 0))) room_here ∙ ap (λ (v : ℤ). seat_kept member.room v) own_here ∙ kept-member member value near octet is in
    let room_there : (k : ℕ) → k ≢ p → get_or (set rooms p member.room) k 256 ≡ get_or rooms k 256 = λ k other. get_or-set_other rooms p k member.room 256 other in
    let own_there : (k : ℕ) → k ≢ p → get_or (set own p value) k (pos 0) ≡ get_or own k (pos 0) = λ k other. get_or-set_other own p k value (pos 0) other in
    record {
      few = kept.few;
      near = λ k low. elim (cases_eq k p) [
        | inl same ↦ subst (λ (j : ℕ). get_or (set rooms p member.room) j 256 ≤ 256) (sym same) (omega (arith, room_here, near))
        | inr other ↦ let e = room_there k other in let before = kept.near k low in omega (arith, e, before)
      ];
      adds = λ k low. elim (cases_eq k p) [
        | inl same ↦ subst (λ (j : ℕ). get_or (set own p value) j (pos 0) ≡ value_in (seat_at (set rooms p member.room) (set own p value) j)) (sym same) (own_here ∙ is ∙ sym (ap value_in seat_here))
        | inr other ↦
            own_there k other ∙ kept.adds k low
            ∙ sym (ap (λ (room : ℕ). value_in (seat_kept room (get_or (set own p value) k (pos 0)))) (room_there k other)
            ∙ ap (λ (v : ℤ). value_in (seat_kept (get_or rooms k 256) v)) (own_there k other))
      ];
      small = λ k low. elim (cases_eq k p) [
        | inl same ↦ subst (λ (j : ℕ). nat_abs (get_or (set own p value) j (pos 0)) ≤ 4032) (sym same) (subst (λ (v : ℤ). nat_abs v ≤ 4032) (sym own_here) little)
        | inr other ↦ subst (λ (v : ℤ). nat_abs v ≤ 4032) (sym (own_there k other)) (kept.small k low)
      ];
      sums = λ room low.
          get_or-set_total totals room member value (omega (arith, near, in_totals)) is
          ∙ ap (λ (z : ℤ). z +ℤ value_of (counted_in room (Some member))) (kept.sums room low)
          ∙ sym (ap (room_total room) taken ∙ total-set room seats p (Some member) (omega (arith, inside, size)) free);
      none = get_or-set_other totals member.room 256 _ (pos 0) (λ e. omega (arith, e, near)) ∙ kept.none;
    }

-- ---- what a port is given

pub total-small : (ports : ℕ) (totals : List ℤ) (rooms : List ℕ) (own : List ℤ) (room : ℕ) → IsKept ports totals rooms own → room ≤ 256 → nat_abs (get_or totals room (pos 0)) ≤ 241920
total-small ports totals rooms own room kept near =
    let seats = seats_kept ports rooms own in
    let size = seats-length ports rooms own in
    let few = kept.few in
    ⊎_elim
    (λ (low : room < 256).
    let each : (k : ℕ) → k < length seats → nat_abs (value_in (get_or seats k None)) ≤ 4032 = λ k inside.
    let here : k < ports = omega (arith, inside, size) in
    subst (λ (v : ℤ). nat_abs v ≤ 4032) (kept.adds k here ∙ sym (ap value_in (get_or-seats_kept ports rooms own k here))) (kept.small k here) in
    let within = room_total_within room seats each in
    subst (λ (z : ℤ). nat_abs z ≤ 241920) (sym (kept.sums room low)) (omega (arith, within, size, few)))
    (λ (last : 256 ≤ room).
    let is : 256 ≡ room = omega (arith, last, near) in
    subst (λ (r : ℕ). nat_abs (get_or totals r (pos 0)) ≤ 241920) is (subst (λ (z : ℤ). nat_abs z ≤ 241920) (sym kept.none) (omega (arith, ints))))
    (below_or_not room 256)

compress_silence : compress (pos 0 -ℤ pos 0) ≡ idle_octet
unfolding decision_values
compress_silence = refl

pub compress_given_kept : (ports : ℕ) (totals : List ℤ) (rooms : List ℕ) (own : List ℤ) (k : ℕ) → IsKept ports totals rooms own → k < ports
    → compress (get_or totals (get_or rooms k 256) (pos 0) -ℤ get_or own k (pos 0)) ≡ given_at k (seats_kept ports rooms own)
compress_given_kept ports totals rooms own k kept inside =
    let seats = seats_kept ports rooms own in
    let size = seats-length ports rooms own in
    let room = get_or rooms k 256 in
    let value = get_or own k (pos 0) in
    let near = kept.near k inside in
    ⊎_elim
    (λ (low : room < 256).
    let yes = lt-ltb room 256 low in
    let member : RoomMember = record { room = room; octet = octet_kept value } in
    let seat : seat_at rooms own k ≡ Some member = rw yes refl in
    compress_given seats (get_or totals room (pos 0)) value k member (omega (arith, inside, size)) (get_or-seats_kept ports rooms own k inside ∙ seat) (kept.sums room low) (kept.adds k inside ∙ ap value_in seat))
    (λ (last : 256 ≤ room).
    let is : room ≡ 256 = omega (arith, last, near) in
    let seat = seat_at_nobody rooms own k is in
    let nothing : value ≡ pos 0 = kept.adds k inside ∙ ap value_in seat in
    ap (λ (r : ℕ). compress (get_or totals r (pos 0) -ℤ value)) is
    ∙ ap (λ (z : ℤ). compress (z -ℤ value)) kept.none
    ∙ ap (λ (z : ℤ). compress (pos 0 -ℤ z)) nothing
    ∙ compress_silence
    ∙ sym (ap (given_to_member seats k) (get_or-seats_kept ports rooms own k inside ∙ seat)))
    (below_or_not room 256)
