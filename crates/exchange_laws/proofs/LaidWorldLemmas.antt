-- In every world that events make, the layout is legal and joins exactly what the circuits need.
use Rattle.std.proofs.Common.{◌≡◌, ◌≢◌, ℕ, ◌+◌, ◌*◌, ◌<◌, ◌≤◌, inl, inr, true, List, Option, Some, None, length, replicate, set, refl, sym, ◌∙◌, ap, subst, arith, length-set}
use Rattle.std.specs.Prelude.{◌↔◌, ◌⊎◌, count_by, is_none, position}
use Rattle.std.proofs.lemmas.List.{length-replicate}
use Rattle.circuit_model.specs.declared.channel.Slot.{Slot}
use Rattle.circuit_model.specs.declared.circuit.Circuit.{Circuit}
use Rattle.circuit_model.specs.declared.circuit.Kind.{Kind}
use Rattle.circuit_model.specs.declared.circuit.Circuit.TheVariants.{Pair, Member, Tone}
use Rattle.circuit_model.specs.Circuits.{heard_by, is_idle, is_member}
use Rattle.circuit_model.specs.Extent.{IsExternal}
use Rattle.circuit_model.specs.Holding.{Holding, Connect, Seat, Give_tone, Clear, Frame, after}
use Rattle.circuit_model.specs.Ports.{Ports, free_ports, port_numbered, port_of, ports_with, ports_without}
use Rattle.circuit_model.proofs.Slots.{heard_by_idle_is_deaf}
use Rattle.control_memory.specs.Layout.{Layout, hop_of, path_to, number_of, IsSlot, Joins}
use Rattle.control_memory.specs.Connecting.{without_path}
use Rattle.control_memory.specs.Shown.{partner, without_both}
use Rattle.control_memory.proofs.TablesAfter.{legal_bare}
use Rattle.circuit_map.specs.Connections.{Connections, Represents, hears_in, hears_at, is_pathless}
use Rattle.circuit_map.proofs.Clearing.{clears, clear_pathless, clear_paths, hears_at_connected_to, hearing_at, joined_back, joined_port, joined_there, less_two, member_partner, member_ported, pair_partner, port_apart, port_joined, port_slot, rows_one, rows_two, hears_at_seated_in, still_joined}
use Rattle.circuit_map.proofs.Holdings.{Heeded, holds_frame, holds_pair, holds_tone, swapped}
use Rattle.circuit_map.proofs.Paths.{external_slot, idle_joins_none, joins_no_outlet, hop_of_no_inlet, no_inlet_joins, path_to_no_outlet, none_joins_idle, two_more}
use Rattle.circuit_map.proofs.Rows.{Hearing, hears_set, hears_two}
use Rattle.circuit_map.proofs.Seating.{free_port_slot, count_by-is_member_full, holds_seat, none_joins_port, port_beyond, port_joins_none, seated_port}
use Rattle.circuit_map.proofs.Sockets.{length-given, length-returned}
use Rattle.circuit_map.proofs.Starting.{bare_rows, holds_empty, hears_in_silent_rows}
use Rattle.paull_matrix.specs.Matrix.{no_paths}
use Rattle.paull_matrix.proofs.Laws.{legal_empty}
use Rattle.path_memory.proofs.MatrixOfLayout.{bare_matches}
use Rattle.tone_rules.specs.declared.tones.Tones.{Tones}
use Rattle.exchange_events.specs.declared.trace.Event.{Event}
use Rattle.exchange_events.specs.declared.trace.Trace.{Trace}
use Rattle.exchange_events.specs.Sizes.{Setting, Dimensions}
use Rattle.exchange_events.specs.Sound.{IsSound, setting_of}
use Rattle.call_profile.specs.Operations.{with_tone}
use Rattle.call_profile.specs.Step.{events_of}
use Rattle.call_profile.specs.World.{World, exchange_lines, one_way, both_ways, with_port, start}
use Rattle.call_profile.proofs.KeptWorldLemmas.{Keeps, run_keeps}
use Rattle.call_profile.proofs.StandingLegLemmas.{start_stands}
use Rattle.exchange_laws.specs.LaidOut.{IsFitting, IsLegalAfter, IsLegalIn, JoinsCircuitsAfter, JoinsCircuitsIn, world_of_all}
use Rattle.exchange_laws.proofs.LegalPathLemmas.{IsMatched, IsJoined-connect, IsMatched-without_path}
use Rattle.exchange_core.proofs.StepLemmas.{fits_all}

-- ---- circuits and paths

-- the connections of circuits, by what each external slot hears
abbrev map_of : Dimensions → List (Option Circuit) → ℕ → Ports → Layout → Connections
map_of d heard next ports layout = record { external = d.external; bridges = d.bridges; slots = d.slots; bound = 0; next = next; heard = heard; ports = ports; layout = layout }

-- the paths are laid legally, and serve exactly the circuits and ports
record AreLaid (d : Dimensions) (h : Holding) (ports : Ports) (layout : Layout) : Type 0 where
  heard : List (Option Circuit)
  listeners : length heard ≡ 30 * d.external
  sockets : length ports ≡ 30 * d.bridges
  holds : Represents (map_of d heard h.next ports layout) h ports
  matched : IsMatched (exchange_lines d) d.slots layout

abbrev IsLaidOut : Dimensions → World → Type 0
IsLaidOut d w = AreLaid d w.holding w.ports w.layout

-- ---- a path there and one back

record AreBothJoined (d : Dimensions) (layout : Layout) (x y : Slot) : Type 0 where
  matched : IsMatched (exchange_lines d) d.slots (both_ways d layout x y)
  joins : (a b : Slot) → IsSlot (exchange_lines d) a → Joins (both_ways d layout x y) a b ↔ ((Joins layout a b ⊎ ((a ≡ x) × (b ≡ y))) ⊎ ((a ≡ y) × (b ≡ x)))

both_joined : (d : Dimensions) (layout : Layout) (x y : Slot) → 30 ≤ d.slots → IsMatched (exchange_lines d) d.slots layout → IsSlot (exchange_lines d) x → IsSlot (exchange_lines d) y → (x ≡ y → ⊥)
    → hop_of layout x ≡ None → path_to layout x ≡ None → hop_of layout y ≡ None → path_to layout y ≡ None → AreBothJoined d layout x y
both_joined d layout x y enough matched in_x in_y apart inlet_x outlet_x inlet_y outlet_y =
    let lines : ℕ = exchange_lines d in
    let there = IsJoined-connect lines d.slots layout x y enough matched in_x in_y inlet_x outlet_y in
    let between : Layout = one_way d layout x y in
    let inlet : hop_of between y ≡ None = hop_of_no_inlet between y (λ b j. elim ((there.joins y b in_y).0 j) [
      | inl old ↦ no_inlet_joins layout y b inlet_y old
      | inr new ↦ apart (sym new.0)
    ]) in
    let outlet : path_to between x ≡ None = path_to_no_outlet lines between x there.matched.holds.legal.inlets (λ a in_a j. elim ((there.joins a x in_a).0 j) [
      | inl old ↦ joins_no_outlet layout a x in_a.1 outlet_x old
      | inr new ↦ apart new.1
    ]) in
    let back = IsJoined-connect lines d.slots between y x enough there.matched in_y in_x inlet outlet in
    record { matched = back.matched; joins = λ a b in_a. two_more (there.joins a b in_a) (back.joins a b in_a) }

-- ---- a command

module _ (d : Dimensions) (h : Holding) (ports : Ports) (layout : Layout) (enough : 30 ≤ d.slots) (laid : AreLaid d h ports layout) where
  abbrev lines : ℕ
  lines = exchange_lines d

  abbrev m : Connections
  m = map_of d laid.heard h.next ports layout

  size : length layout ≡ 30 * lines
  size = laid.matched.holds.legal.inlets

  hears_at_deaf : (x : Slot) → is_idle h.circuits x ≡ true → hears_at m x ≡ None
  hears_at_deaf x idle = laid.holds.heard x ∙ heard_by_idle_is_deaf h.circuits x idle

  inlet_of : (x : Slot) → IsExternal d.external x → hears_at m x ≡ None → hop_of layout x ≡ None
  inlet_of x in_x none = hop_of_no_inlet layout x (λ b j. idle_joins_none m h ports x b laid.holds in_x.0 in_x.1 none j)

  outlet_of : (x : Slot) → IsExternal d.external x → hears_at m x ≡ None → path_to layout x ≡ None
  outlet_of x in_x none = path_to_no_outlet lines layout x size (λ a in_a j. none_joins_idle m h ports a x laid.holds in_a in_x.0 none j)

  in_all : (x : Slot) → IsExternal d.external x → IsSlot lines x
  in_all x in_x = external_slot m x in_x.0 in_x.1

  known : Hearing d.external (hears_at m)
  known = hearing_at m h ports laid.holds

  -- ---- two slots are connected

  pair_laid : (x y : Slot) → IsExternal d.external x → IsExternal d.external y → x ≢ y → is_idle h.circuits x ≡ true → is_idle h.circuits y ≡ true
      → AreLaid d (after h (Connect x y)) ports (both_ways d layout x y)
  pair_laid x y in_x in_y apart idle_x idle_y =
      let none_x = hears_at_deaf x idle_x in
      let none_y = hears_at_deaf y idle_y in
      let both = both_joined d layout x y enough laid.matched (in_all x in_x) (in_all y in_y) apart (inlet_of x in_x none_x) (outlet_of x in_x none_x) (inlet_of y in_y none_y) (outlet_of y in_y none_y) in
      let one : Option Circuit = Some (Pair y x h.next) in
      let two : Option Circuit = Some (Pair x y h.next) in
      let now : List (Option Circuit) = set (set laid.heard (number_of x) one) (number_of y) two in
      let n : Connections = map_of d now h.next ports (both_ways d layout x y) in
      let heeded : Heeded m n (Connect x y) = record {
        external = refl;
        bridges = refl;
        next = refl;
        hears = λ z. hears_two d.external laid.heard x y one two (number_of x) (number_of y) z refl refl laid.listeners in_x in_y ∙ swapped x y z one two (hears_in d.external laid.heard z) apart;
        members = refl;
      } in
      record {
        heard = now;
        listeners = length-set (set laid.heard (number_of x) one) (number_of y) two ∙ length-set laid.heard (number_of x) one ∙ laid.listeners;
        sockets = laid.sockets;
        holds = holds_pair m n x y apart none_x none_y heeded both.joins h ports laid.holds;
        matched = both.matched;
      }

  -- ---- a slot gets a tone

  tone_laid : (x : Slot) (kind : Kind) → IsExternal d.external x → is_idle h.circuits x ≡ true → AreLaid d (after h (Give_tone x kind)) ports layout
  tone_laid x kind in_x idle =
      let one : Option Circuit = Some (Tone kind x h.next) in
      let now : List (Option Circuit) = set laid.heard (number_of x) one in
      let n : Connections = map_of d now h.next ports layout in
      let heeded : Heeded m n (Give_tone x kind) = record {
        external = refl;
        bridges = refl;
        next = refl;
        hears = λ z. hears_set d.external laid.heard x one (number_of x) z refl laid.listeners in_x.0 in_x.1;
        members = refl;
      } in
      record {
        heard = now;
        listeners = length-set laid.heard (number_of x) one ∙ laid.listeners;
        sockets = laid.sockets;
        holds = holds_tone m n x kind (hears_at_deaf x idle) heeded refl h ports laid.holds;
        matched = laid.matched;
      }

  -- ---- a slot takes a seat

  module _ (x : Slot) (room : ℕ) (in_x : IsExternal d.external x) (idle : is_idle h.circuits x ≡ true) where
    at_port : (k : ℕ) → position is_none ports ≡ Some k → AreLaid d (after h (Seat x room)) (ports_with x ports) (both_ways d layout x (port_numbered d.external k))
    at_port k lowest =
        let none = hears_at_deaf x idle in
        let p : Slot = port_numbered d.external k in
        let inside = free_port_slot d.external d.bridges ports p k lowest laid.sockets refl in
        let both = both_joined d layout x p enough laid.matched (in_all x in_x) inside.0 (λ e. port_beyond d.external x p in_x.0 inside.1 (sym e)) (inlet_of x in_x none) (outlet_of x in_x none)
        (hop_of_no_inlet layout p (λ b j. port_joins_none m h ports p b k laid.holds inside.0 inside.1 lowest refl j))
        (path_to_no_outlet lines layout p size (λ a in_a j. none_joins_port m h ports a p k laid.holds in_a inside.1 lowest refl j)) in
        let one : Option Circuit = Some (Member room x h.next) in
        let now : List (Option Circuit) = set laid.heard (number_of x) one in
        let n : Connections = map_of d now h.next (ports_with x ports) (both_ways d layout x p) in
        record {
          heard = now;
          listeners = length-set laid.heard (number_of x) one ∙ laid.listeners;
          sockets = length-given x ports ∙ laid.sockets;
          holds = holds_seat m n x p room k laid.sockets none (record {
            external = refl;
            bridges = refl;
            next = refl;
            hears = λ z. hears_set d.external laid.heard x one (number_of x) z refl laid.listeners in_x.0 in_x.1;
            lowest = lowest;
            port = refl;
            members = refl;
            joins = both.joins;
          }) h ports laid.holds;
          matched = both.matched;
        }

    seat_by : (o : Option ℕ) → position is_none ports ≡ o → count_by is_member h.circuits < 30 * d.bridges
        → AreLaid d (after h (Seat x room)) (ports_with x ports) (with_port d layout x (port_of d.external (ports_with x ports) x))
    seat_by None lowest free = let full = count_by-is_member_full m h ports laid.holds laid.sockets lowest in absurd (omega (arith, full, free))
    seat_by (Some k) lowest free =
        let has = seated_port m h ports x (port_numbered d.external k) k laid.holds (hears_at_deaf x idle) lowest refl in
        subst (λ (o : Option Slot). AreLaid d (after h (Seat x room)) (ports_with x ports) (with_port d layout x o)) (sym has) (at_port k lowest)

  -- ---- a slot is cleared

  module _ (x : Slot) (in_x : IsExternal d.external x) where
    abbrev Cleared : Layout → Type 0
    Cleared to = AreLaid d (after h (Clear x)) (ports_without x ports) to

    abbrev Cleared_by : Option Circuit → Type 0
    Cleared_by o = Cleared (without_both layout x (partner d.external ports o))

    abbrev silenced : List (Option Circuit)
    silenced = set laid.heard (number_of x) None

    silenced_long : length silenced ≡ 30 * d.external
    silenced_long = length-set laid.heard (number_of x) None ∙ laid.listeners

    heeds_one : (to : Layout) → ((z : Slot) (s : ℕ) → hears_at m x ≡ Some (Pair z x s) → ⊥) → Heeded m (map_of d silenced h.next (ports_without x ports) to) (Clear x)
    heeds_one to no_pair = record {
      external = refl;
      bridges = refl;
      next = refl;
      hears = λ z. hears_set d.external laid.heard x None (number_of x) z refl laid.listeners in_x.0 in_x.1 ∙ rows_one d.external (hears_at m) x z known (no_pair z);
      members = refl;
    }

    quiet : (o : Option Circuit) → hears_at m x ≡ o → ((z : Slot) (s : ℕ) → o ≡ Some (Pair z x s) → ⊥) → is_pathless o ≡ true → Cleared layout
    quiet o is no_pair pathless =
        let n : Connections = map_of d silenced h.next (ports_without x ports) layout in
        record {
          heard = silenced;
          listeners = silenced_long;
          sockets = length-returned x ports ∙ laid.sockets;
          holds = clear_pathless m n x in_x.0 (ap is_pathless is ∙ pathless) (heeds_one layout (λ z s e. no_pair z s (sym is ∙ e))) refl h ports laid.holds;
          matched = laid.matched;
        }

    pair_cleared : (y to : Slot) (s : ℕ) → hears_at m x ≡ Some (Pair y to s) → Cleared (without_path (without_path layout x) y)
    pair_cleared y to s is =
        let hx = hears_at_connected_to m h ports x y to s laid.holds is in
        let hy = known.both_ways x y s hx in
        let in_y = known.inside y _ hy in
        let apart = known.apart x y s hx in
        let slot_x = in_all x in_x in
        let slot_y = in_all y in_y in
        let first : Layout = without_path layout x in
        let last : Layout = without_path first y in
        let back = still_joined lines layout first x y size refl slot_x slot_y apart (joined_back m h ports x y s laid.holds slot_y hx) in
        let one = IsMatched-without_path lines d.slots layout x y laid.matched slot_x (joined_there m h ports x y s laid.holds slot_x hx) in
        let two = IsMatched-without_path lines d.slots first y x one slot_y back in
        let now : List (Option Circuit) = set silenced (number_of y) None in
        let n : Connections = map_of d now h.next (ports_without x ports) last in
        let heeded : Heeded m n (Clear x) = record {
          external = refl;
          bridges = refl;
          next = refl;
          hears = λ z. hears_two d.external laid.heard x y None None (number_of x) (number_of y) z refl refl laid.listeners in_x in_y ∙ rows_two d.external (hears_at m) x y z s known hx;
          members = refl;
        } in
        record {
          heard = now;
          listeners = length-set silenced (number_of y) None ∙ silenced_long;
          sockets = length-returned x ports ∙ laid.sockets;
          holds = clear_paths m n x y in_x.0 heeded (λ a b in_a. less_two lines layout first last x y a b size refl refl slot_x slot_y in_a) h ports laid.holds
              (pair_partner d.external ports (ports_without x ports) (heard_by h.circuits) (heard_by (after h (Clear x)).circuits) x y s (clears m h ports x in_x.0 laid.holds) (sym (laid.holds.heard x) ∙ hx));
          matched = two;
        }

    member_by : (room s : ℕ) → hears_at m x ≡ Some (Member room x s) → (o : Option Slot) → port_of d.external ports x ≡ o → Cleared (without_both layout x o)
    member_by room s hx None has = absurd (member_ported m h ports x room s laid.holds hx has)
    member_by room s hx (Some p) has =
        let slot_x = in_all x in_x in
        let slot_p = port_slot d.external d.bridges ports x p has laid.sockets in
        let apart = port_apart d.external ports x p in_x.0 has in
        let first : Layout = without_path layout x in
        let last : Layout = without_path first p in
        let back = still_joined lines layout first x p size refl slot_x slot_p apart (port_joined m h ports x p room s laid.holds slot_p hx has) in
        let one = IsMatched-without_path lines d.slots layout x p laid.matched slot_x (joined_port m h ports x p room s laid.holds slot_x hx has) in
        let two = IsMatched-without_path lines d.slots first p x one slot_p back in
        let n : Connections = map_of d silenced h.next (ports_without x ports) last in
        record {
          heard = silenced;
          listeners = silenced_long;
          sockets = length-returned x ports ∙ laid.sockets;
          holds = clear_paths m n x p in_x.0 (heeds_one last (λ z t e. let both : Some (Member room x s) ≡ Some (Pair z x t) = sym hx ∙ e in cc)) (λ a b in_a. less_two lines layout first last x p a b size refl refl slot_x slot_p in_a) h ports laid.holds
              (member_partner d.external ports (ports_without x ports) (heard_by h.circuits) (heard_by (after h (Clear x)).circuits) x p room s (clears m h ports x in_x.0 laid.holds) (sym (laid.holds.heard x) ∙ hx) has);
          matched = two;
        }

    cleared_by : (o : Option Circuit) → hears_at m x ≡ o → Cleared_by o
    cleared_by None is = quiet None is (λ z s e. cc) refl
    cleared_by (Some (Pair y to s)) is = pair_cleared y to s is
    cleared_by (Some (Member room at s)) is =
        let hx = hears_at_seated_in m h ports x at room s laid.holds is in
        subst Cleared_by (sym hx ∙ is) (member_by room s hx (port_of d.external ports x) refl)
    cleared_by (Some (Tone kind to s)) is = quiet (Some (Tone kind to s)) is (λ z t e. cc) refl

    clear_laid : Cleared (without_both layout x (partner d.external ports (heard_by h.circuits x)))
    clear_laid = subst Cleared_by (laid.holds.heard x) (cleared_by (hears_at m x) refl)

  -- ---- a frame passes

  frame_laid : AreLaid d (after h Frame) ports layout
  frame_laid = record {
    heard = laid.heard;
    listeners = laid.listeners;
    sockets = laid.sockets;
    holds = holds_frame m (map_of d laid.heard (h.next + 1) ports layout) (record { external = refl; bridges = refl; next = refl; heard = refl; members = refl; layout = refl }) h ports laid.holds;
    matched = laid.matched;
  }

-- ---- every world

start_laid : (d : Dimensions) → (0 < exchange_lines d) × (exchange_lines d ≤ 34) → (0 < d.slots) × (d.slots ≤ 59) → IsLaidOut d (start d)
start_laid d few within =
    let none : Option Circuit = None in
    let free : Option Slot = None in
    record {
      heard = replicate (30 * d.external) none;
      listeners = length-replicate (30 * d.external) none;
      sockets = length-replicate (30 * d.bridges) free;
      holds = holds_empty (map_of d (replicate (30 * d.external) none) 0 (free_ports d.bridges) (start d).layout) refl (λ z. hears_in_silent_rows d.external (30 * d.external) z) refl (bare_rows (30 * exchange_lines d) (start d).layout refl);
      matched = record {
        matrix = no_paths (exchange_lines d) d.slots;
        holds = record {
          lines = refl;
          slots = refl;
          legal_matrix = legal_empty (exchange_lines d) d.slots few within;
          legal = legal_bare (exchange_lines d) d.slots;
          is = bare_matches (exchange_lines d) d.slots;
        };
      };
    }

toned : (d : Dimensions) (w : World) (x : Slot) (tone : Option Kind) → IsExternal d.external x → is_idle w.holding.circuits x ≡ true → 30 ≤ d.slots → IsLaidOut d w
    → IsLaidOut d (record w { holding = with_tone w.holding x tone })
toned d w x None in_x idle enough laid = laid
toned d w x (Some kind) in_x idle enough laid = tone_laid d w.holding w.ports w.layout enough laid x kind in_x idle

laid_keeps : (d : Dimensions) (tones : Tones) → 30 ≤ d.slots → Keeps d tones (IsLaidOut d)
laid_keeps d tones enough = record {
  clear = λ w x in_x laid. clear_laid d w.holding w.ports w.layout enough laid x in_x;
  pair = λ w x y can laid. pair_laid d w.holding w.ports w.layout enough laid x y can.first can.second can.apart can.idle_first can.idle_second;
  seat = λ w x room can laid. seat_by d w.holding w.ports w.layout enough laid x room can.within can.idle (position is_none w.ports) refl can.free;
  sound = λ w x tone can laid. toned d w x tone can.within can.idle enough laid;
  legs = λ w legs laid. laid;
  passes = λ w input laid. frame_laid d w.holding w.ports w.layout enough laid;
}

-- after any list of events that fit
module _ (s : Setting) (events : List Event) (fitting : IsFitting s events) where
  laid_after : IsLaidOut s.dimensions (world_of_all s events)
  laid_after =
      let d = s.dimensions in
      let some = fitting.sized.some in
      let lines = fitting.sized.few in
      let bridges = fitting.sized.bridges in
      let enough = fitting.sized.enough in
      let few = fitting.sized.most in
      run_keeps s (IsLaidOut d) (laid_keeps d s.tones enough) (start d) events fitting.planned fitting.fit (start_stands s)
      (start_laid d (omega (arith, some), omega (arith, lines, bridges)) (omega (arith, enough), few))

  pub legal_reached : IsLegalIn s.dimensions (world_of_all s events)
  legal_reached = laid_after.matched.holds.legal

  pub joins_reached : JoinsCircuitsIn s.dimensions (world_of_all s events)
  joins_reached = laid_after.holds.joined

module _ (slots : ℕ) (trace : Trace) (order : List ℕ) (sound : IsSound trace) (enough : 30 ≤ slots) (few : slots ≤ 59) where
  fitting_trace : IsFitting (setting_of slots trace) (events_of trace.events order)
  fitting_trace = record {
    sized = record { some = sound.some; few = sound.few; bridges = sound.bridges; enough = enough; most = few };
    planned = sound.planned;
    fit = fits_all trace order sound.events;
  }

  pub legal_after : IsLegalAfter slots trace order
  legal_after = legal_reached (setting_of slots trace) (events_of trace.events order) fitting_trace

  pub joins_after : JoinsCircuitsAfter slots trace order
  joins_after = joins_reached (setting_of slots trace) (events_of trace.events order) fitting_trace
