-- One frame of an engine of three stages: what is read out, mixed, crossed and taken in is what the definitions say.
use Rattle.std.proofs.Common.{◌≡◌, ℕ, zero, suc, ◌+◌, ◌-◌, ◌*◌, ◌<◌, ◌≤◌, true, false, List, [], ◌∷◌, ◌++◌, length, map, Option, Some, None, ℤ, refl, sym, ap, ◌∙◌, subst, inl, inr, arith, add-one}
use Rattle.std.specs.List.{Contains, range_with_len}
use Rattle.std.specs.Prelude.{nat_lt, option_and_then}
use Rattle.std.proofs.lemmas.List.{ext_get_or, get_or-map, length-map}
use Rattle.std.proofs.lemmas.List.FromFn.{length-map-range_with_len, get_or-map-range_with_len}
use Rattle.std.proofs.lemmas.Bool.{cond-true, cond-false, leb-true, lt-ltb}
use Rattle.std.proofs.lemmas.Bool.Decides.{leb_tells}
use Rattle.circuit_model.specs.declared.channel.Slot.{Slot}
use Rattle.circuit_model.specs.declared.circuit.Kind.{Kind}
use Rattle.circuit_model.specs.declared.circuit.Circuit.{Circuit}
use Rattle.circuit_model.specs.declared.circuit.Circuit.TheVariants.{Pair, Member, Tone}
use Rattle.circuit_model.specs.FrameInput.{Input, idle_octet, arrives, octet_in}
use Rattle.circuit_model.specs.Circuits.{listener, first_frame_of, heard_by}
use Rattle.circuit_model.specs.Holding.{Command, empty, frames, circuits_of, Stands}
use Rattle.circuit_model.specs.Extent.{IsExternal, NamesWithin}
use Rattle.circuit_model.specs.Hears.{mix, is_through, heard_through, hears}
use Rattle.circuit_model.specs.Ports.{Ports, free_ports, port_frames, ports_of, owner_of, port_numbered, port_of, sum_of_owners, sum_of_members}
use Rattle.circuit_model.proofs.Slots.{true_or_false}
use Rattle.circuit_model.proofs.Age.{age, at_head, in_tail, none_in_nil}
use Rattle.circuit_model.proofs.Validity.{heard_by-listener, valid-empty}
use Rattle.circuit_model.proofs.FrameRecords.{valid-frames}
use Rattle.circuit_model.proofs.Extents.{frames_within}
use Rattle.circuit_model.proofs.PortSeats.{recorded, each_in, owned_in, alone_in, sums_in, owner_of-ports_in_had, matched-frames, matched-empty}
use Rattle.frame_buffer.specs.Speech.{AllIdle, octet_in_half}
use Rattle.frame_buffer.specs.Highways.{Highways, octet_on}
use Rattle.control_memory.specs.Layout.{Layout, Legal, IsSlot, Joins, path_out, path_to}
use Rattle.control_memory.specs.Tables.{HasTables}
use Rattle.control_memory.proofs.Carrying.{crossing_is, fetched_carried}
use Rattle.control_memory.specs.Image.{Control, lines_of, EachSlot, read, heard_at, room_at, sent, received}
use Rattle.control_memory.specs.Carrying.{fetched, HoldsCrossing}
use Rattle.control_memory.specs.Shown.{to_port, IsNeeded, member_at, served_by, heard_as, seated_as, circuit_of, ShowsBy}
use Rattle.frame_engine.specs.Frames.{Come, octet_brought, mixed_through, mixed_at}
use Rattle.frame_engine.specs.Carries.{Stages, CarriesAt, CarriesLast, EngineCarries, Fades, HasEngineSizes, brought_before, lines_in}
use Rattle.frame_engine.specs.Ports.{given_to}
use Rattle.conference_mix.specs.Bridge.{mixed_for as mixed_for_port}
use Rattle.frame_engine.specs.Playing.{played_as}
use Rattle.frame_engine.proofs.PortRows.{added, added_at, row_of, mixed_to, row_of-ports, given_to-seat}
use Rattle.frame_engine.proofs.EarlierFrames.{counted-more, length-push, arrives-earlier, arrives-last, circuits-earlier, circuits-last, ports-earlier, ports-last, mix-earlier, brought_before-earlier}
use Rattle.frame_engine.proofs.MemberPorts.{not-below, heard_is, member_at-number, numbered-member_at, port_of-owner}
use Rattle.frame_engine.proofs.RoomSums.{entry, mixed_is}
use Rattle.frame_engine.proofs.ReadOut.{fetched_read_joined, from_inlet-silence, crosses_alike}

-- an engine and its control memory of the next frame, as `frame` gets them, and what was read out
pub record IsAt (e : Stages) (m : Control) (out : List ℕ) : Type 0 where
  pub kept_external : e.kept.external ≡ e.external
  pub kept_bridges : e.kept.bridges ≡ e.bridges
  pub kept_slots : e.kept.slots ≡ e.slots
  pub external : m.external ≡ e.external
  pub bridges : m.bridges ≡ e.bridges
  pub slots : m.slots ≡ e.slots
  pub frame : m.frame ≡ e.next
  pub read_out : EachSlot (e.external + e.bridges) (λ at. octet_in_half out at ≡ fetched (read e.kept at.line at.place) (octet_on e.crossed at.line))

-- what is read out is idle, if only idle octets crossed
pub reads_idle : (e : Stages) (inputs : List Input) (held : List (List Circuit)) (ports : List Ports) → HasEngineSizes e → (f : ℕ) → CarriesAt e inputs held ports f
    → ((line slot : ℕ) → line < lines_in e → slot < e.slots → octet_on e.crossed line slot ≡ idle_octet)
    → (at : Slot) → at.line < lines_in e → at.place < 30 → fetched (read e.kept at.line at.place) (octet_on e.crossed at.line) ≡ idle_octet
reads_idle e inputs held ports sizes zero fresh idle at here near =
    ap (λ (o : Option ℕ). fetched o (octet_on e.crossed at.line)) (fresh.paths.outgoing at.line at.place (let a = sizes.kept_external in let b = sizes.kept_bridges in omega (arith, here, a, b)) near)
reads_idle e inputs held ports sizes (suc f) last idle at here near =
    let a = sizes.kept_external in
    let b = sizes.kept_bridges in
    let s = sizes.kept_slots in
    let holds : HoldsCrossing (lines_of e.kept) e.kept.slots last.layout (λ x. idle_octet) (octet_on e.crossed) = λ line slot inside low. idle line slot (omega (arith, inside, a, b)) (omega (arith, low, s)) ∙ sym (from_inlet-silence (path_out last.layout line slot)) in
    fetched_carried (lines_of e.kept) e.kept.slots last.layout (sent e.kept) (received e.kept) (read e.kept) (λ x. idle_octet) last.shows.legal last.shows.tables (octet_on e.crossed) holds at (omega (arith, here, a, b)) near
    ∙ from_inlet-silence (path_to last.layout at)

-- the octets that a frame stores: arrivals on external lines, and mixes in conference ports
pub record Takes (e : Stages) (m : Control) (input : Input) (out taken : List ℕ) : Type 0 where
  pub takes : (at : Slot) → at.line < e.external → at.place < 30 → octet_in_half taken at ≡ octet_in input at
  pub mixes : (k : ℕ) → k < 30 * e.bridges → octet_in_half taken (port_numbered m.external k) ≡ given_to m (octet_in_half out) k

-- what the first two stages do to the octets that are stored
pub record Crosses (e : Stages) (m : Control) (highway crossed : Highways) : Type 0 where
  pub sends : (line slot : ℕ) → line < e.external + e.bridges → slot < e.slots → octet_on highway line slot ≡ fetched (sent m line slot) (λ place. octet_in_half e.taken (record { line = line; place = place }))
  pub crosses : (line slot : ℕ) → line < e.external + e.bridges → slot < e.slots → octet_on crossed line slot ≡ fetched (received m line slot) (λ from. octet_on highway from slot)

-- the highways after the space stage have each of the engine's lines, with its internal slots
pub record HasHighwaySizes (e : Stages) (crossed : Highways) : Type 0 where
  pub lines : crossed.lines ≡ e.external + e.bridges
  pub slots : crossed.slots ≡ e.slots

module _ (e : Stages) (m : Control) (out : List ℕ) (is : IsAt e m out) (inputs : List Input) (held : List (List Circuit)) (ports : List Ports) (input : Input) (circuits : List Circuit) (seats : Ports) (carries : EngineCarries e inputs held ports) (layout : Layout) (shows : ShowsBy layout m circuits seats e.next) (come : Come e.external e.bridges (held ++ circuits ∷ []) (ports ++ seats ∷ [])) where
  abbrev lines : ℕ
  lines = e.external + e.bridges

  abbrev n : ℕ
  n = e.next

  abbrev cs : List Command
  cs = come.commands

  -- ---- the frames of the commands
  circuits_in : (f : ℕ) → circuits_of (held ++ circuits ∷ []) f ≡ circuits_of (frames empty cs) f
  circuits_in f = ap (λ (h : List (List Circuit)). circuits_of h f) come.circuits

  ports_in : (f : ℕ) → ports_of (ports ++ seats ∷ []) f ≡ ports_of (port_frames (free_ports e.bridges) cs) f
  ports_in f = ap (λ (p : List Ports). ports_of p f) come.seats

  pub circuits_now : circuits ≡ circuits_of (frames empty cs) n
  circuits_now = sym (circuits-last held circuits n carries.counted.held_counted) ∙ circuits_in n

  seats_now : seats ≡ ports_of (port_frames (free_ports e.bridges) cs) n
  seats_now = sym (ports-last ports seats n carries.counted.ports_counted) ∙ ports_in n

  circuits_then : (f : ℕ) → f < n → circuits_of held f ≡ circuits_of (frames empty cs) f
  circuits_then f before = sym (circuits-earlier held circuits f (let h = carries.counted.held_counted in omega (arith, before, h))) ∙ circuits_in f

  ports_then : (f : ℕ) → f < n → ports_of ports f ≡ ports_of (port_frames (free_ports e.bridges) cs) f
  ports_then f before = sym (ports-earlier ports seats f (let p = carries.counted.ports_counted in omega (arith, before, p))) ∙ ports_in f

  recorded_now : n < length (frames empty cs)
  recorded_now = let long = sym (ap (λ (h : List (List Circuit)). length h) come.circuits) ∙ length-push held circuits in let h = carries.counted.held_counted in omega (arith, long, h)

  standing : (x : Slot) → Stands circuits x
  standing = subst (λ (ds : List Circuit). (x : Slot) → Stands ds x) (sym circuits_now) (valid-frames e.bridges empty cs n (valid-empty e.bridges) come.allowed recorded_now).standing

  heard_alone : (c : Circuit) → Contains circuits c → heard_by circuits (listener c) ≡ Some c
  heard_alone c inside = heard_by-listener circuits c (standing (listener c)) inside

  named_within : (c : Circuit) → Contains circuits c → NamesWithin e.external c
  named_within c inside = frames_within e.external empty cs n (λ d nothing. absurd (none_in_nil d nothing)) come.within c (subst (λ (ds : List Circuit). Contains ds c) circuits_now inside)

  -- a circuit older than a frame existed in the frame before
  stood : (f : ℕ) (c : Circuit) → Contains (circuits_of (frames empty cs) f) c → first_frame_of c < f → Contains (circuits_of (frames empty cs) (f - 1)) c
  stood f c inside older = age cs f c inside older

  -- ---- what was read out
  abbrev last_of : ℕ → Type 0
  last_of k = CarriesLast e inputs held ports (suc k)

  octet_in_half_reads : (k : ℕ) → last_of k → (x y : Slot) → IsSlot lines x → IsSlot lines y → IsNeeded e.external (circuits_of held (suc k)) (ports_of ports (suc k)) x y → octet_in_half out y ≡ octet_brought e.external inputs held ports k x
  octet_in_half_reads k last x y from to needed =
      let same_lines : lines_of e.kept ≡ lines = let a = is.kept_external in let b = is.kept_bridges in omega (arith, a, b) in
      let from_kept : IsSlot (lines_of e.kept) x = subst (λ l. IsSlot l x) (sym same_lines) from in
      let to_kept : IsSlot (lines_of e.kept) y = subst (λ l. IsSlot l y) (sym same_lines) to in
      let needed_kept = subst (λ l. IsNeeded l (circuits_of held (suc k)) (ports_of ports (suc k)) x y) (sym is.kept_external) needed in
      let joins : Joins last.layout x y = (last.shows.paths x y from_kept).1 needed_kept in
      let holds = subst (λ s. HoldsCrossing (lines_of e.kept) s last.layout (brought_before e.external inputs held ports (suc k)) (octet_on e.crossed)) (sym is.kept_slots) (subst (λ l. HoldsCrossing l e.slots last.layout (brought_before e.external inputs held ports (suc k)) (octet_on e.crossed)) (sym same_lines) last.crossed) in
      is.read_out y to.0 to.1 ∙ fetched_read_joined (lines_of e.kept) e.kept.slots last.layout (sent e.kept) (received e.kept) (read e.kept) (brought_before e.external inputs held ports (suc k)) (octet_on e.crossed) last.shows.legal last.shows.tables holds x y from_kept to_kept joins

  -- before frame 2 nothing is through
  record Through : Type 0 where
    k : ℕ
    now : n ≡ suc (suc k)
    last : last_of k

  through_at : (f : ℕ) → n ≡ f → CarriesAt e inputs held ports f → 2 ≤ f → Through
  through_at zero at carried late = absurd (omega (arith, late))
  through_at (suc zero) at carried late = absurd (omega (arith, late))
  through_at (suc (suc k)) at carried late = record { k = k; now = at; last = carried }

  through : (since : ℕ) → is_through since n ≡ true → Through
  through since old = let late = leb-true (since + 2) n old in through_at n refl carries.last (omega (arith, late))

  inside_line : (x : Slot) → IsExternal e.external x → IsSlot lines x
  inside_line x external = (let l = external.0 in omega (arith, l), external.1)

  -- the octet of an external slot two frames before
  octet_brought_arrived : (k : ℕ) (x : Slot) → n ≡ suc (suc k) → IsExternal e.external x → octet_brought e.external inputs held ports k x ≡ arrives (inputs ++ input ∷ []) (n - 2) x
  octet_brought_arrived k x now external =
      let two : k ≡ n - 2 = omega (arith, now) in
      let before : k < length inputs = let i = carries.counted.inputs_counted in omega (arith, now, i) in
      cond-true (nat_lt x.line e.external) _ _ (lt-ltb x.line e.external external.0)
      ∙ sym (arrives-earlier inputs input k x before) ∙ ap (λ f. arrives (inputs ++ input ∷ []) f x) two

  stood_then : (t : Through) (c : Circuit) → Contains circuits c → is_through (first_frame_of c) n ≡ true → Contains (circuits_of (frames empty cs) (n - 1)) c × (first_frame_of c ≤ t.k)
  stood_then t c inside old =
      let young = leb-true (first_frame_of c + 2) n old in
      let now = t.now in
      (stood n c (subst (λ (ds : List Circuit). Contains ds c) circuits_now inside) (omega (arith, young)), omega (arith, young, now))

  at_last : (t : Through) (c : Circuit) → Contains (circuits_of (frames empty cs) (n - 1)) c → Contains (circuits_of held (suc t.k)) c
  at_last t c inside =
      let now = t.now in
      let one : n - 1 ≡ suc t.k = omega (arith, now) in
      subst (λ (ds : List Circuit). Contains ds c) (ap (λ f. circuits_of (frames empty cs) f) one ∙ sym (circuits_then (suc t.k) (omega (arith, now)))) inside

  -- what a slot reads by a connection that is two frames old
  pub octet_in_half_pair_reads : (x y : Slot) (since : ℕ) → Contains circuits (Pair x y since) → is_through since n ≡ true → octet_in_half out y ≡ arrives (inputs ++ input ∷ []) (n - 2) x
  octet_in_half_pair_reads x y since inside old =
      let t = through since old in
      let named = named_within (Pair x y since) inside in
      let stands = at_last t (Pair x y since) (stood_then t (Pair x y since) inside old).0 in
      octet_in_half_reads t.k t.last x y (inside_line x named.0) (inside_line y named.1) (Pair x y since, stands, at_head (x, y) [] (x, y) refl)
      ∙ octet_brought_arrived t.k x t.now named.0

  -- ---- members and their ports
  abbrev ports_at : ℕ → Ports
  ports_at f = ports_of (port_frames (free_ports e.bridges) cs) f

  port_slot : (k : ℕ) → k < 30 * e.bridges → IsSlot lines (port_numbered e.external k)
  port_slot k low = (omega (arith, low), omega arith)

  -- the port of a member is joined to it while the member exists
  port_of_joined : (f k room since : ℕ) (y : Slot) → owner_of (ports_at f) k ≡ Some y → port_of e.external (ports_at f) y ≡ Some (port_numbered e.external k)
  port_of_joined f k room since y owned = port_of-owner e.external (ports_at f) k y owned (λ j other. alone_in e.bridges cs f j k y (recorded e.bridges cs f come.allowed) other owned)

  -- the member of a port that is two frames old, in the two frames before
  record RoomMember (t : Through) (k room since : ℕ) (y : Slot) : Type 0 where
    low : k < 30 * e.bridges
    last : Contains (circuits_of held (suc t.k)) (Member room y since)
    port : port_of e.external (ports_of ports (suc t.k)) y ≡ Some (port_numbered e.external k)
    had : owner_of (ports_of ports t.k) k ≡ Some y
    heard : heard_by (circuits_of held t.k) y ≡ Some (Member room y since)

  seated : (t : Through) (k room since : ℕ) (y : Slot) → Contains circuits (Member room y since) → is_through since n ≡ true → owner_of seats k ≡ Some y → RoomMember t k room since y
  seated t k room since y inside old owned =
      let now = t.now in
      let c : Circuit = Member room y since in
      let one : n - 1 ≡ suc t.k = omega (arith, now) in
      let before = stood_then t c inside old in
      let young = before.1 in
      let in_now = subst (λ (ds : List Circuit). Contains ds c) circuits_now inside in
      let owned_now : owner_of (ports_at n) k ≡ Some y = subst (λ (ps : Ports). owner_of ps k ≡ Some y) seats_now owned in
      let each = each_in e.bridges cs n room since y (recorded e.bridges cs n come.allowed) in_now in
      let same = alone_in e.bridges cs n each.0 k y (recorded e.bridges cs n come.allowed) each.2 owned_now in
      let owned_last : owner_of (ports_at (n - 1)) k ≡ Some y = owner_of-ports_in_had e.bridges cs come.allowed n k room since y in_now (omega (arith, young, now)) owned_now in
      let in_last : Contains (circuits_of (frames empty cs) (suc t.k)) c = subst (λ f. Contains (circuits_of (frames empty cs) f) c) one before.0 in
      let owned_suc : owner_of (ports_at (suc t.k)) k ≡ Some y = subst (λ f. owner_of (ports_at f) k ≡ Some y) one owned_last in
      let less : suc t.k - 1 ≡ t.k = omega arith in
      let in_then : Contains (circuits_of (frames empty cs) t.k) c = subst (λ f. Contains (circuits_of (frames empty cs) f) c) less (stood (suc t.k) c in_last (omega (arith, young))) in
      let owned_then : owner_of (ports_at t.k) k ≡ Some y = subst (λ f. owner_of (ports_at f) k ≡ Some y) less (owner_of-ports_in_had e.bridges cs come.allowed (suc t.k) k room since y in_last (omega (arith, young)) owned_suc) in
      let held_then = circuits_then t.k (omega (arith, now)) in
      let standing_then : (x : Slot) → Stands (circuits_of (frames empty cs) t.k) x = (valid-frames e.bridges empty cs t.k (valid-empty e.bridges) come.allowed (let long = recorded_now in omega (arith, long, now))).standing in
      record {
        low = (let l = each.1 in omega (arith, l, same));
        last = at_last t c before.0;
        port = ap (λ (ps : Ports). port_of e.external ps y) (ports_then (suc t.k) (omega (arith, now))) ∙ port_of_joined (suc t.k) k room since y owned_suc;
        had = ap (λ (ps : Ports). owner_of ps k) (ports_then t.k (omega (arith, now))) ∙ owned_then;
        heard = ap (λ (ds : List Circuit). heard_by ds y) held_then ∙ heard_by-listener (circuits_of (frames empty cs) t.k) c (standing_then y) in_then;
      }

  -- what a port reads of its member
  to_port_first : (z p : Slot) (o : Option Slot) → o ≡ Some p → Contains (to_port z o) (z, p)
  to_port_first z p o found = rw found (at_head (z, p) ((p, z) ∷ []) (z, p) refl)

  to_port_second : (z p : Slot) (o : Option Slot) → o ≡ Some p → Contains (to_port z o) (p, z)
  to_port_second z p o found = rw found (in_tail (z, p) ((p, z) ∷ []) (p, z) (at_head (p, z) [] (p, z) refl))

  pub octet_in_half-port_numbered_reads : (k room since : ℕ) (y : Slot) → Contains circuits (Member room y since) → is_through since n ≡ true → owner_of seats k ≡ Some y → octet_in_half out (port_numbered e.external k) ≡ arrives (inputs ++ input ∷ []) (n - 2) y
  octet_in_half-port_numbered_reads k room since y inside old owned =
      let t = through since old in
      let s = seated t k room since y inside old owned in
      let named = named_within (Member room y since) inside in
      octet_in_half_reads t.k t.last y (port_numbered e.external k) (inside_line y named) (port_slot k s.low) (Member room y since, s.last, to_port_first y (port_numbered e.external k) _ s.port)
      ∙ octet_brought_arrived t.k y t.now named

  -- what was brought to the port of a member two frames before
  octet_brought_mixed_then : (t : Through) (k room since : ℕ) (y : Slot) → RoomMember t k room since y → octet_brought e.external inputs held ports t.k (port_numbered e.external k) ≡ mix (inputs ++ input ∷ []) (circuits_of (held ++ circuits ∷ []) (n - 2)) room y (n - 2)
  octet_brought_mixed_then t k room since y s =
      let now = t.now in
      let two : t.k ≡ n - 2 = omega (arith, now) in
      let behind : nat_lt (port_numbered e.external k).line e.external ≡ false = not-below (port_numbered e.external k).line e.external (omega arith) in
      let before : t.k < length inputs = let i = carries.counted.inputs_counted in omega (arith, now, i) in
      let before_held : t.k < length held = let h = carries.counted.held_counted in omega (arith, now, h) in
      cond-false (nat_lt (port_numbered e.external k).line e.external) _ _ behind
      ∙ ap (mixed_at inputs (circuits_of held t.k) t.k) (member_at-number e.external (ports_of ports t.k) k ∙ s.had)
      ∙ ap (mixed_through inputs (circuits_of held t.k) t.k) s.heard
      ∙ sym (mix-earlier inputs input (circuits_of held t.k) room y t.k before)
      ∙ ap (λ (ds : List Circuit). mix (inputs ++ input ∷ []) ds room y t.k) (sym (circuits-earlier held circuits t.k before_held))
      ∙ ap (λ f. mix (inputs ++ input ∷ []) (circuits_of (held ++ circuits ∷ []) f) room y f) two

  -- and a member of its port
  pub octet_in_half_member_reads : (room since : ℕ) (y : Slot) → Contains circuits (Member room y since) → is_through since n ≡ true → octet_in_half out y ≡ mix (inputs ++ input ∷ []) (circuits_of (held ++ circuits ∷ []) (n - 2)) room y (n - 2)
  octet_in_half_member_reads room since y inside old =
      let t = through since old in
      let each = each_in e.bridges cs n room since y (recorded e.bridges cs n come.allowed) (subst (λ (ds : List Circuit). Contains ds (Member room y since)) circuits_now inside) in
      let owned = subst (λ (ps : Ports). owner_of ps each.0 ≡ Some y) (sym seats_now) each.2 in
      let s = seated t each.0 room since y inside old owned in
      let named = named_within (Member room y since) inside in
      octet_in_half_reads t.k t.last (port_numbered e.external each.0) y (port_slot each.0 s.low) (inside_line y named) (Member room y since, s.last, to_port_second y (port_numbered e.external each.0) _ s.port)
      ∙ octet_brought_mixed_then t each.0 room since y s

  -- ---- what is played
  abbrev hears_by : (Kind → List ℕ) → Option Circuit → ℕ
  hears_by tones by = heard_through tones (inputs ++ input ∷ []) (held ++ circuits ∷ []) n by

  played_by : (tones : Kind → List ℕ) (y : Slot) (by : Option Circuit) → ((c : Circuit) → by ≡ Some c → Contains circuits c × (y ≡ listener c)) → played_as tones n (octet_in_half out y) (heard_as by) ≡ hears_by tones by
  played_by tones y None found = refl
  played_by tones y (Some (Pair x z since)) found =
      let f = found (Pair x z since) refl in
      elim (true_or_false (is_through since n)) [
        | inl old ↦ rw old (ap (octet_in_half out) f.1 ∙ octet_in_half_pair_reads x z since f.0 old)
        | inr young ↦ rw young refl
      ]
  played_by tones y (Some (Member room z since)) found =
      let f = found (Member room z since) refl in
      elim (true_or_false (is_through since n)) [
        | inl old ↦ rw old (ap (octet_in_half out) f.1 ∙ octet_in_half_member_reads room since z f.0 old)
        | inr young ↦ rw young refl
      ]
  played_by tones y (Some (Tone kind z since)) found = refl

  pub played_as-hears : (tones : Kind → List ℕ) (y : Slot) → y.line < e.external → y.place < 30 → played_as tones m.frame (octet_in_half out y) (heard_at m y) ≡ hears tones (inputs ++ input ∷ []) (held ++ circuits ∷ []) n y
  played_as-hears tones y here near =
      let external_m : y.line < m.external = let a = is.external in omega (arith, here, a) in
      let serves : served_by m.external seats y ≡ Some y = cond-true (nat_lt y.line m.external) (Some y) _ (lt-ltb y.line m.external external_m) in
      let by : circuit_of m.external circuits seats y ≡ heard_by circuits y = ap (option_and_then (heard_by circuits)) serves in
      let heard : heard_at m y ≡ heard_as (heard_by circuits y) = shows.heard y (omega (arith, external_m)) near ∙ ap heard_as by in
      ap (λ f. played_as tones f (octet_in_half out y) (heard_at m y)) is.frame
      ∙ ap (played_as tones n (octet_in_half out y)) heard
      ∙ played_by tones y (heard_by circuits y) (λ c found. heard_is circuits y c found)
      ∙ ap (λ (ds : List Circuit). hears_by tones (heard_by ds y)) (sym (circuits-last held circuits n carries.counted.held_counted))

  -- ---- what is mixed
  -- who sits in a port
  abbrev seat_of : Option Slot → Option (ℕ × ℕ)
  seat_of o = seated_as (option_and_then (heard_by circuits) o)

  room_is : (k : ℕ) → k < 30 * e.bridges → room_at m (port_numbered m.external k) ≡ seat_of (owner_of seats k)
  room_is k low =
      let p = port_numbered m.external k in
      let behind : nat_lt p.line m.external ≡ false = not-below p.line m.external (omega arith) in
      let inside : p.line < lines_of m = let b = is.bridges in omega (arith, b, low) in
      shows.rooms p inside (omega arith)
      ∙ cond-false (nat_lt p.line m.external) None _ behind
      ∙ ap seat_of (cond-false (nat_lt p.line m.external) _ _ behind ∙ member_at-number m.external seats k)

  abbrev sent_before : Slot → ℕ
  sent_before z = arrives (inputs ++ input ∷ []) (n - 2) z

  -- what a port adds to a room is what its owner sent two frames before
  owner_adds : (room k : ℕ) (o : Option Slot) → owner_of seats k ≡ o → added n room (octet_in_half out (port_numbered e.external k)) (seat_of o) ≡ entry sent_before circuits n room o
  owner_adds room k None owned = refl
  owner_adds room k (Some z) owned =
      let member = owned_in e.bridges cs n k z (recorded e.bridges cs n come.allowed) (subst (λ (ps : Ports). owner_of ps k ≡ Some z) seats_now owned) in
      let inside : Contains circuits (Member member.0 z member.1) = subst (λ (ds : List Circuit). Contains ds (Member member.0 z member.1)) (sym circuits_now) member.2 in
      let heard = heard_alone (Member member.0 z member.1) inside in
      let seat : seat_of (Some z) ≡ Some (member.0, member.1) = ap seated_as heard in
      let by_seat = λ (octet : ℕ). ap (added n room octet) seat in
      by_seat (octet_in_half out (port_numbered e.external k))
      ∙ elim (true_or_false (is_through member.1 n)) [
        | inl old ↦ ap (λ octet. added n room octet (Some (member.0, member.1))) (octet_in_half-port_numbered_reads k member.0 member.1 z inside old owned)
        | inr young ↦ rw young refl
      ]
      ∙ sym (by_seat (sent_before z))

  seats_size : length seats ≡ 30 * e.bridges
  seats_size = ap (λ (ps : Ports). length ps) seats_now ∙ (matched-frames e.bridges empty (free_ports e.bridges) cs n (matched-empty e.bridges) come.allowed recorded_now).size

  row_is : (room : ℕ) → row_of m (octet_in_half out) room ≡ map (entry sent_before circuits n room) seats
  row_is room =
      let size : length seats ≡ 30 * m.bridges = let s = seats_size in let b = is.bridges in omega (arith, s, b) in
      row_of-ports m (octet_in_half out) room
      ∙ ext_get_or None (map (added_at m (octet_in_half out) room) (range_with_len 0 (30 * m.bridges))) (map (entry sent_before circuits n room) seats)
      (length-map-range_with_len (added_at m (octet_in_half out) room) 0 (30 * m.bridges) ∙ sym size ∙ sym (length-map seats (entry sent_before circuits n room)))
      (λ k low.
      let long = length-map-range_with_len (added_at m (octet_in_half out) room) 0 (30 * m.bridges) in
      let near : k < 30 * m.bridges = omega (arith, low, long) in
      let near_e : k < 30 * e.bridges = let b = is.bridges in omega (arith, near, b) in
      get_or-map-range_with_len (added_at m (octet_in_half out) room) 0 (30 * m.bridges) k k None near (omega arith)
      ∙ ap (λ f. added f room (octet_in_half out (port_numbered m.external k)) (room_at m (port_numbered m.external k))) is.frame
      ∙ ap (added n room (octet_in_half out (port_numbered m.external k))) (room_is k near_e)
      ∙ ap (λ x. added n room (octet_in_half out (port_numbered x k)) (seat_of (owner_of seats k))) is.external
      ∙ owner_adds room k (owner_of seats k) refl
      ∙ sym (get_or-map (entry sent_before circuits n room) seats k None None (omega (arith, near, size))))

  mixed_by : (k : ℕ) (o : Option Slot) → k < 30 * e.bridges → owner_of seats k ≡ o → mixed_to m (octet_in_half out) k (seat_of o) ≡ mixed_at (inputs ++ input ∷ []) circuits n o
  mixed_by k None low owned = refl
  mixed_by k (Some y) low owned =
      let owned_now : owner_of (ports_at n) k ≡ Some y = subst (λ (ps : Ports). owner_of ps k ≡ Some y) seats_now owned in
      let member = owned_in e.bridges cs n k y (recorded e.bridges cs n come.allowed) owned_now in
      let inside : Contains circuits (Member member.0 y member.1) = subst (λ (ds : List Circuit). Contains ds (Member member.0 y member.1)) (sym circuits_now) member.2 in
      let heard = heard_alone (Member member.0 y member.1) inside in
      let size = seats_size in
      let alone = λ (j : ℕ) (other : owner_of seats j ≡ Some y). alone_in e.bridges cs n j k y (recorded e.bridges cs n come.allowed) (subst (λ (ps : Ports). owner_of ps j ≡ Some y) seats_now other) owned_now in
      let sums = λ (weight : Slot → ℤ). ap (sum_of_owners weight) seats_now ∙ sums_in e.bridges cs n weight (recorded e.bridges cs n come.allowed) ∙ ap (sum_of_members weight) (sym circuits_now) in
      ap (λ (by : Option Circuit). mixed_to m (octet_in_half out) k (seated_as by)) heard
      ∙ ap (mixed_for_port k) (row_is member.0)
      ∙ mixed_is (inputs ++ input ∷ []) circuits n member.0 seats k y owned alone (omega (arith, low, size)) heard_alone sums
      ∙ sym (ap (mixed_through (inputs ++ input ∷ []) circuits n) heard)

  pub given_to_mixes : (k : ℕ) → k < 30 * e.bridges → given_to m (octet_in_half out) k ≡ mixed_at (inputs ++ input ∷ []) circuits n (owner_of seats k)
  given_to_mixes k low = given_to-seat m (octet_in_half out) k (let b = is.bridges in omega (arith, low, b)) ∙ ap (mixed_to m (octet_in_half out) k) (room_is k low) ∙ mixed_by k (owner_of seats k) low refl

  -- ---- what is taken in, and what crosses
  abbrev brought_now : ℕ → Slot → ℕ
  brought_now f at = octet_brought e.external (inputs ++ input ∷ []) (held ++ circuits ∷ []) (ports ++ seats ∷ []) f at

  pub octet_in_half_taken : (taken : List ℕ) → Takes e m input out taken → (at : Slot) → at.line < lines → at.place < 30 → octet_in_half taken at ≡ brought_now n at
  octet_in_half_taken taken did at inside near =
      elim (leb_tells (suc at.line) e.external) [
        | inl here ↦
            did.takes at (omega (arith, here.1)) near
            ∙ sym (arrives-last inputs input n at carries.counted.inputs_counted)
            ∙ sym (cond-true (nat_lt at.line e.external) _ _ here.0)
        | inr behind ↦
            let k = 30 * (at.line - e.external) + at.place in
            let past = behind.1 in
            let low : k < 30 * e.bridges = omega (arith, past, inside, near) in
            let is_port : port_numbered e.external k ≡ at = numbered-member_at e.external at (omega (arith, past)) near in
            let owner : owner_of seats k ≡ member_at e.external seats at = sym (member_at-number e.external seats k) ∙ ap (member_at e.external seats) is_port in
            ap (octet_in_half taken) (sym is_port)
            ∙ ap (λ x. octet_in_half taken (port_numbered x k)) (sym is.external)
            ∙ did.mixes k low
            ∙ given_to_mixes k low
            ∙ ap (mixed_at (inputs ++ input ∷ []) circuits n) owner
            ∙ ap (λ (ds : List Circuit). mixed_at (inputs ++ input ∷ []) ds n (member_at e.external seats at)) (sym (circuits-last held circuits n carries.counted.held_counted))
            ∙ ap (λ (ps : Ports). mixed_at (inputs ++ input ∷ []) (circuits_of (held ++ circuits ∷ []) n) n (member_at e.external ps at)) (sym (ports-last ports seats n carries.counted.ports_counted))
            ∙ sym (cond-false (nat_lt at.line e.external) _ _ behind.0)
      ]

  octet_in_half_took : (f : ℕ) → CarriesAt e inputs held ports f → (x : Slot) → IsSlot lines x → octet_in_half e.taken x ≡ brought_before e.external inputs held ports f x
  octet_in_half_took zero fresh x inside = fresh.taken x inside.0 inside.1
  octet_in_half_took (suc f) last x inside = last.taken x inside.0 inside.1

  same_lines : lines_of m ≡ lines
  same_lines = let a = is.external in let b = is.bridges in omega (arith, a, b)

  legal : Legal lines e.slots layout
  legal = subst (λ s. Legal lines s layout) is.slots (subst (λ l. Legal l m.slots layout) same_lines shows.legal)

  tables : HasTables lines e.slots layout (sent m) (received m) (read m)
  tables = subst (λ s. HasTables lines s layout (sent m) (received m) (read m)) is.slots (subst (λ l. HasTables l m.slots layout (sent m) (received m) (read m)) same_lines shows.tables)

  -- the octets that were stored cross by the layout
  pub holds_taken : (highway crossed : Highways) → Crosses e m highway crossed → HoldsCrossing lines e.slots layout (octet_in_half e.taken) (octet_on crossed)
  holds_taken highway crossed did line slot here near =
      did.crosses line slot here near ∙ crossing_is lines e.slots layout (sent m) (received m) (read m) (octet_in_half e.taken) legal tables (octet_on highway) did.sends line slot here near

  HoldsCrossing-brought_before : (crossed : Highways) → HoldsCrossing lines e.slots layout (octet_in_half e.taken) (octet_on crossed) → HoldsCrossing lines e.slots layout (brought_before e.external (inputs ++ input ∷ []) (held ++ circuits ∷ []) (ports ++ seats ∷ []) n) (octet_on crossed)
  HoldsCrossing-brought_before crossed holds =
      crosses_alike lines e.slots layout (octet_in_half e.taken) (brought_before e.external (inputs ++ input ∷ []) (held ++ circuits ∷ []) (ports ++ seats ∷ []) n) (octet_on crossed) legal
      (λ x inside. octet_in_half_took n carries.last x inside ∙ sym (brought_before-earlier e.external inputs held ports input circuits seats n carries.counted n x refl))
      holds

  -- ---- what fades
  abbrev silence : Slot → ℕ
  silence at = idle_octet

  -- idle octets that were stored cross as idle octets
  pub crosses_silence : (crossed : Highways) → HoldsCrossing lines e.slots layout (octet_in_half e.taken) (octet_on crossed) → AllIdle lines e.taken → HoldsCrossing lines e.slots layout silence (octet_on crossed)
  crosses_silence crossed holds idle = crosses_alike lines e.slots layout (octet_in_half e.taken) silence (octet_on crossed) legal (λ x inside. idle x inside.0 inside.1) holds

  pub crosses_idle : (crossed : Highways) → HoldsCrossing lines e.slots layout (octet_in_half e.taken) (octet_on crossed) → AllIdle lines e.taken → (line slot : ℕ) → line < lines → slot < e.slots → octet_on crossed line slot ≡ idle_octet
  crosses_idle crossed holds idle line slot here near = crosses_silence crossed holds idle line slot here near ∙ from_inlet-silence (path_out layout line slot)

  -- while nothing has crossed, nothing crosses
  pub holds_idle : (crossed : Highways) → AllIdle lines e.taken → ((line slot : ℕ) → line < lines → slot < e.slots → octet_on crossed line slot ≡ idle_octet) → HoldsCrossing lines e.slots layout (octet_in_half e.taken) (octet_on crossed)
  holds_idle crossed idle all =
      crosses_alike lines e.slots layout silence (octet_in_half e.taken) (octet_on crossed) legal (λ x inside. sym (idle x inside.0 inside.1))
      (λ line slot here near. all line slot here near ∙ sym (from_inlet-silence (path_out layout line slot)))

  -- ---- the engine afterwards
  abbrev after_frame : List ℕ → Highways → (live sounding : ℕ) → Stages
  after_frame taken crossed live sounding = record { external = e.external; bridges = e.bridges; slots = e.slots; next = n + 1; kept = m; taken = taken; crossed = crossed; read = out; live = live; sounding = sounding }

  pub carries_on : (taken : List ℕ) (crossed : Highways) (live sounding : ℕ) → Takes e m input out taken → HoldsCrossing lines e.slots layout (octet_in_half e.taken) (octet_on crossed) → HasHighwaySizes e crossed → Fades (after_frame taken crossed live sounding)
      → EngineCarries (after_frame taken crossed live sounding) (inputs ++ input ∷ []) (held ++ circuits ∷ []) (ports ++ seats ∷ [])
  carries_on taken crossed live sounding did holds size fades =
      let last : CarriesLast (after_frame taken crossed live sounding) (inputs ++ input ∷ []) (held ++ circuits ∷ []) (ports ++ seats ∷ []) n = record {
        layout = layout;
        shows = subst (λ (ps : Ports). ShowsBy layout m (circuits_of (held ++ circuits ∷ []) n) ps n) (sym (ports-last ports seats n carries.counted.ports_counted))
            (subst (λ (ds : List Circuit). ShowsBy layout m ds seats n) (sym (circuits-last held circuits n carries.counted.held_counted)) shows);
        taken = octet_in_half_taken taken did;
        crossed = HoldsCrossing-brought_before crossed holds;
      } in
      record {
        sizes = record { kept_external = is.external; kept_bridges = is.bridges; kept_slots = is.slots; crossed_lines = size.lines; crossed_slots = size.slots };
        fades = fades;
        counted = counted-more n inputs held ports input circuits seats carries.counted;
        last = subst (λ f. CarriesAt (after_frame taken crossed live sounding) (inputs ++ input ∷ []) (held ++ circuits ∷ []) (ports ++ seats ∷ []) f) (sym (add-one n)) last;
      }
