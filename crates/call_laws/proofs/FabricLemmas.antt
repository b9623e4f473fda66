-- The fabric decides nothing but how many paths are moved.
use Rattle.std.proofs.Common.{◌∙◌, ◌≡◌, ℕ, zero, suc, Bool, true, false, List, [], ◌∷◌, ◌++◌, Option, Some, None, refl, sym, ap, subst, not, ◌&&◌}
use Rattle.std.specs.Prelude.{is_some, map, option_map, if◌then◌else◌, not}
use Rattle.circuit_model.specs.declared.channel.Slot.{Slot}
use Rattle.circuit_model.specs.FrameInput.{Input}
use Rattle.circuit_model.specs.Holding.{Connect, Seat as Take_seat, Clear as Clear_slot}
use Rattle.circuit_model.specs.Ports.{port_of, ports_with}
use Rattle.control_memory.specs.Layout.{Layout}
use Rattle.call_states.specs.Acts.{act_on}
use Rattle.call_states.specs.Conditions.{unanswered}
use Rattle.clearing_rules.specs.declared.scope.Restart.{Restart}
use Rattle.clearing_rules.specs.Restarting.{acknowledgement, restart_of}
use Rattle.clearing_rules.specs.UnknownReference.{answer_without_call}
use Rattle.exchange_events.specs.declared.trace.Event.{Event}
use Rattle.exchange_events.specs.declared.trace.Event.TheVariants.{Nail, Seat as Seat_event, Free, Message, Frame, LinkUp, LinkDown, RestartLine}
use Rattle.exchange_events.specs.declared.reply.Reply.TheVariants.{Busy, NoPort, Sent as Sent_reply, Frame as Frame_reply}
use Rattle.exchange_events.specs.Sizes.{Setting, Dimensions}
use Rattle.call_profile.specs.ActCourse.{course_of}
use Rattle.call_profile.specs.Answered.{with_layout}
use Rattle.call_profile.specs.CallRecords.{records, records_by}
use Rattle.call_profile.specs.Calls.{Request, For_leg, New_call, On_no_call, Restarts, Confirms, Unanswered, request_of, answer_back, outcome_for, outcome_of_octets}
use Rattle.call_profile.specs.Expiring.{cause_at, expire_slot, slot_looked_at, outcome_on_line, outcome_of_lines, outcome_of_frame}
use Rattle.call_laws.specs.Fabrics.{with_slots, without_paths, without_moves, replies_of_run, world_of_run}
use Rattle.call_profile.specs.IdleSlots.{idle, is_nailed}
use Rattle.call_profile.specs.Legs.{Legs, is_down}
use Rattle.call_profile.specs.Operations.{Operation, Clear, Pair, Seat, Sound, Put, Wait, Expect, Repeat, Remove, Send, Making, making_at, making_after, making_after_all, moves_for, moves_of_seat, Await}
use Rattle.call_profile.specs.Restarts.{MessageOutcome, outcome_then, outcome_at_slot, outcome_below, outcome_of_restart, confirm_rule, restart_rule, SlotRule}
use Rattle.call_profile.specs.Setup.{course_of_setup}
use Rattle.call_profile.specs.Step.{reply, next, may_nail, may_seat, run, world_after_all, link_reply}
use Rattle.call_profile.specs.World.{World, is_full, nail_reply, seat_reply, obey, pass, start}
use Rattle.call_profile.proofs.ExpiringLemmas.{lines_none, lines_more}
use Rattle.call_profile.proofs.RestartedSlotLemmas.{below_none, below_more}
use Rattle.call_profile.specs.LinkChanges.{give_up_rule, outcome_of_line_restart, outcome_of_link, rule_of, with_line, restarts_interface, with_interface, whole_line}

-- two worlds in the making that differ in nothing but paths
pub record SameButPaths (a b : Making) : Type 0 where
  pub world : without_paths a.world ≡ without_paths b.world
  pub sends : a.sends ≡ b.sends
  pub moved : is_some a.moves ≡ is_some b.moves

is_some_map : {X Y : Type 0} (f : X → Y) (o : Option X) → is_some (option_map f o) ≡ is_some o
is_some_map f None = refl
is_some_map f (Some x) = refl

-- a seat tells of moved paths where its member has a port, however the paths lie
seat_moved : (d e : Dimensions) (u v : World) (x : Slot) → d.external ≡ e.external → u.ports ≡ v.ports → is_some (moves_of_seat d u x) ≡ is_some (moves_of_seat e v x)
seat_moved d e u v x external same =
    is_some_map (moves_for d u.layout x) (port_of d.external (ports_with x u.ports) x)
    ∙ (λ i. is_some (port_of (external i) (ports_with x (same i)) x))
    ∙ sym (is_some_map (moves_for e v.layout x) (port_of e.external (ports_with x v.ports) x))

-- what was done differs in nothing but paths
pub record DoneAlike (a b : MessageOutcome) : Type 0 where
  pub making : SameButPaths a.making b.making
  pub recorded : a.recorded ≡ b.recorded

alike_at : (a b c e : MessageOutcome) → a ≡ c → b ≡ e → DoneAlike c e → DoneAlike a b
alike_at a b c e first second alike = subst (λ z. DoneAlike z b) (sym first) (subst (DoneAlike c) (sym second) alike)

-- the numbers of moved paths are left out
none_told : (o p : Option (ℕ × ℕ)) → is_some o ≡ is_some p → option_map (λ (moves : ℕ × ℕ). let none : ℕ × ℕ = (0, 0) in none) o ≡ option_map (λ (moves : ℕ × ℕ). let none : ℕ × ℕ = (0, 0) in none) p
none_told None None e = refl
none_told None (Some q) e = absurd cc
none_told (Some m) None e = absurd cc
none_told (Some m) (Some q) e = refl

-- two settings that differ in nothing but the number of internal slots
module _ (s : Setting) (slots : ℕ) where
  abbrev t : Setting
  t = with_slots s slots

  -- ---- operations

  same_performed : (a b : Making) (o : Operation) → SameButPaths a b → SameButPaths (making_after t.dimensions a o) (making_after s.dimensions b o)
  same_performed a b (Clear x) same = record { world = ap (λ (v : World). without_paths (making_after s.dimensions (making_at v) (Clear x)).world) same.world; sends = same.sends; moved = same.moved }
  same_performed a b (Pair x y) same = record { world = ap (λ (v : World). without_paths (making_after s.dimensions (making_at v) (Pair x y)).world) same.world; sends = same.sends; moved = refl }
  same_performed a b (Seat x room) same = record {
    world = ap (λ (v : World). without_paths (making_after s.dimensions (making_at v) (Seat x room)).world) same.world;
    sends = same.sends;
    moved = seat_moved t.dimensions s.dimensions a.world b.world x refl (ap (λ (v : World). v.ports) same.world);
  }
  same_performed a b (Sound x kind) same = record { world = ap (λ (v : World). (making_after s.dimensions (making_at v) (Sound x kind)).world) same.world; sends = same.sends; moved = same.moved }
  same_performed a b (Put x leg) same = record { world = ap (λ (v : World). (making_after s.dimensions (making_at v) (Put x leg)).world) same.world; sends = same.sends; moved = same.moved }
  same_performed a b (Wait x leg p) same = record { world = ap (λ (v : World). (making_after s.dimensions (making_at v) (Wait x leg p)).world) same.world; sends = same.sends; moved = same.moved }
  same_performed a b (Expect x leg message) same = record {
    world = ap (λ (v : World). (making_after s.dimensions (making_at v) (Expect x leg message)).world) same.world;
    sends = rw same.sends refl;
    moved = same.moved;
  }
  same_performed a b (Repeat h octets) same = record {
    world = ap (λ (v : World). (making_after s.dimensions (making_at v) (Repeat h octets)).world) same.world;
    sends = rw same.sends refl;
    moved = same.moved;
  }
  same_performed a b (Await x leg) same = record { world = ap (λ (v : World). (making_after s.dimensions (making_at v) (Await x leg)).world) same.world; sends = same.sends; moved = same.moved }
  same_performed a b (Remove x condition) same = record { world = ap (λ (v : World). (making_after s.dimensions (making_at v) (Remove x condition)).world) same.world; sends = same.sends; moved = same.moved }
  same_performed a b (Send line message) same = record { world = same.world; sends = rw same.sends refl; moved = same.moved }

  same_performed_all : (a b : Making) (os : List Operation) → SameButPaths a b → SameButPaths (making_after_all t.dimensions a os) (making_after_all s.dimensions b os)
  same_performed_all a b [] same = same
  same_performed_all a b (o ∷ os) same = same_performed_all (making_after t.dimensions a o) (making_after s.dimensions b o) os (same_performed a b o same)

  -- records look at the circuits and the legs alone
  same_records : (u v after_u after_v : World) (cause : ℕ) → without_paths u ≡ without_paths v → without_paths after_u ≡ without_paths after_v → records u after_u cause ≡ records v after_v cause
  same_records u v after_u after_v cause before later = λ i. records (before i) (later i) cause

  -- the same operations are done
  then_alike : (cause : ℕ) (a b : MessageOutcome) (os ps : List Operation) → os ≡ ps → DoneAlike a b → DoneAlike (outcome_then t.dimensions cause a os) (outcome_then s.dimensions cause b ps)
  then_alike cause a b os ps are alike =
      subst (λ (qs : List Operation). DoneAlike (outcome_then t.dimensions cause a os) (outcome_then s.dimensions cause b qs)) are
      (let same = same_performed_all a.making b.making os alike.making in
      record {
        making = same;
        recorded = λ i. alike.recorded i ++ same_records a.making.world b.making.world (making_after_all t.dimensions a.making os).world (making_after_all s.dimensions b.making os).world cause alike.making.world same.world i;
      })

  -- the legs are the same
  same_legs : (a b : Making) → SameButPaths a b → a.world.legs ≡ b.world.legs
  same_legs a b same = ap (λ (v : World). v.legs) same.world

  -- ---- a message

  module _ (w : World) (layout : Layout) where
    abbrev other : World
    other = with_layout w layout

    begun_alike : SameButPaths (making_at other) (making_at w)
    begun_alike = record { world = refl; sends = refl; moved = refl }

    operations_alike : (cause : Option ℕ) (os : List Operation)
        → DoneAlike (record { making = making_after_all t.dimensions (making_at other) os; recorded = records_by other (making_after_all t.dimensions (making_at other) os).world cause })
        (record { making = making_after_all s.dimensions (making_at w) os; recorded = records_by w (making_after_all s.dimensions (making_at w) os).world cause })
    operations_alike None os = record { making = same_performed_all (making_at other) (making_at w) os begun_alike; recorded = refl }
    operations_alike (Some cause) os =
        let same = same_performed_all (making_at other) (making_at w) os begun_alike in
        record { making = same; recorded = same_records other w (making_after_all t.dimensions (making_at other) os).world (making_after_all s.dimensions (making_at w) os).world cause refl same.world }

    slot_alike : (rule : SlotRule) (x : Slot) (a b : MessageOutcome) → DoneAlike a b → DoneAlike (outcome_at_slot t.dimensions rule x a) (outcome_at_slot s.dimensions rule x b)
    slot_alike rule x a b alike =
        then_alike rule.cause a b (rule.does a.making.world.legs x) (rule.does b.making.world.legs x)
        (ap (λ (legs : Legs). rule.does legs x) (same_legs a.making b.making alike.making)) alike

    pub below_alike : (rule : SlotRule) (line place : ℕ) → DoneAlike (outcome_below t.dimensions rule line other place) (outcome_below s.dimensions rule line w place)
    below_alike rule line zero = alike_at _ _ _ _ (below_none t.dimensions rule line other) (below_none s.dimensions rule line w) (record { making = begun_alike; recorded = refl })
    below_alike rule line (suc place) =
        alike_at _ _ _ _ (below_more t.dimensions rule line other place) (below_more s.dimensions rule line w place)
        (slot_alike rule (record { line = line; place = place }) (outcome_below t.dimensions rule line other place) (outcome_below s.dimensions rule line w place) (below_alike rule line place))

    restarted_alike : (r : Restart) (line : ℕ) → DoneAlike (outcome_of_restart t.dimensions t.tones r line other) (outcome_of_restart s.dimensions s.tones r line w)
    restarted_alike r line =
        let alike = below_alike (restart_rule s.tones r) line 30 in
        record {
          making = same_performed (outcome_below t.dimensions (restart_rule t.tones r) line other 30).making (outcome_below s.dimensions (restart_rule s.tones r) line w 30).making (Send line (acknowledgement r)) alike.making;
          recorded = alike.recorded;
        }

    received_alike : (line : ℕ) (r : Request) → DoneAlike (outcome_for t other line r) (outcome_for s w line r)
    received_alike line (For_leg h m) = operations_alike (course_of s w h m (act_on h.leg.state m)).cause (course_of s w h m (act_on h.leg.state m)).operations
    received_alike line (New_call m) = operations_alike None (course_of_setup s w line m).operations
    received_alike line (On_no_call m) = operations_alike None (answer_back line (answer_without_call m))
    received_alike line (Restarts r) = restarted_alike r line
    received_alike line (Confirms r) = below_alike (confirm_rule r) line 30
    received_alike line Unanswered = operations_alike None []

    pub done_alike : (line : ℕ) (octets : List ℕ) → DoneAlike (outcome_of_octets t other line octets) (outcome_of_octets s w line octets)
    done_alike line octets = received_alike line (request_of w.legs line octets)

    -- ---- a frame

    line_alike : (frame line : ℕ) (a b : MessageOutcome) → DoneAlike a b → DoneAlike (outcome_on_line t frame line a) (outcome_on_line s frame line b)
    line_alike frame line a b alike =
        let x = slot_looked_at frame line in
        let legs = same_legs a.making b.making alike.making in
        subst (λ (cause : ℕ). DoneAlike (outcome_on_line t frame line a) (outcome_then s.dimensions cause b (expire_slot s frame b.making.world.legs x))) (ap (λ (held : Legs). cause_at s frame held x) legs)
        (then_alike (cause_at s frame a.making.world.legs x) a b (expire_slot s frame a.making.world.legs x) (expire_slot s frame b.making.world.legs x)
        (ap (λ (held : Legs). expire_slot s frame held x) legs) alike)

    lines_alike : (frame lines : ℕ) → DoneAlike (outcome_of_lines t frame other lines) (outcome_of_lines s frame w lines)
    lines_alike frame zero = alike_at _ _ _ _ (lines_none t frame other) (lines_none s frame w) (record { making = begun_alike; recorded = refl })
    lines_alike frame (suc line) =
        alike_at _ _ _ _ (lines_more t frame other line) (lines_more s frame w line)
        (line_alike frame line (outcome_of_lines t frame other line) (outcome_of_lines s frame w line) (lines_alike frame line))

  pub frame_alike : (w : World) (layout : Layout) (input : Input) → DoneAlike (outcome_of_frame t (with_layout w layout) input) (outcome_of_frame s w input)
  frame_alike w layout input = lines_alike (pass w input) layout w.holding.next s.dimensions.external

  -- ---- a change of a data link

  interface_alike : (whole : Bool) (line : ℕ) (a b : MessageOutcome) → DoneAlike a b → DoneAlike (with_interface t.dimensions whole line a) (with_interface s.dimensions whole line b)
  interface_alike false line a b alike = alike
  interface_alike true line a b alike = record { making = same_performed a.making b.making (Send line (restart_of whole_line)) alike.making; recorded = alike.recorded }

  link_alike : (w : World) (layout : Layout) (down : Bool) (line : ℕ) → DoneAlike (outcome_of_link t.dimensions t.tones down line (with_layout w layout)) (outcome_of_link s.dimensions s.tones down line w)
  link_alike w layout down line =
      let whole : Bool = not down && restarts_interface w.legs line in
      interface_alike whole line (outcome_below t.dimensions (rule_of s.tones whole down) line (with_line (with_layout w layout) line down) 30) (outcome_below s.dimensions (rule_of s.tones whole down) line (with_line w line down) 30)
      (below_alike (with_line w line down) layout (rule_of s.tones whole down) line 30)

  -- ---- the exchange restarts a line

  line_restart_alike : (w : World) (layout : Layout) (line : ℕ) → DoneAlike (outcome_of_line_restart t.dimensions t.tones line (with_layout w layout)) (outcome_of_line_restart s.dimensions s.tones line w)
  line_restart_alike w layout line =
      let down : Bool = is_down w.legs line in
      let condition = unanswered down in
      interface_alike (not down) line (outcome_below t.dimensions (give_up_rule t.tones condition) line (with_layout w layout) 30) (outcome_below s.dimensions (give_up_rule s.tones condition) line w 30)
      (below_alike w layout (give_up_rule s.tones condition) line 30)

  -- ---- an event

  without_paths_either_alike : (b : Bool) (u v w : World) (layout : Layout) → without_paths u ≡ without_paths v → without_paths (if b then u else with_layout w layout) ≡ without_paths (if b then v else w)
  without_paths_either_alike true u v w layout same = same
  without_paths_either_alike false u v w layout same = refl

  pub without_paths-next_alike : (w : World) (layout : Layout) (e : Event) → without_paths (next t (with_layout w layout) e) ≡ without_paths (next s w e)
  without_paths-next_alike w layout (Nail x y) = without_paths_either_alike (may_nail w x y) (obey t.dimensions (with_layout w layout) (Connect x y)) (obey s.dimensions w (Connect x y)) w layout refl
  without_paths-next_alike w layout (Seat_event x room) = without_paths_either_alike (may_seat s.dimensions w x) (obey t.dimensions (with_layout w layout) (Take_seat x room)) (obey s.dimensions w (Take_seat x room)) w layout refl
  without_paths-next_alike w layout (Free x) = without_paths_either_alike (is_nailed w x) (obey t.dimensions (with_layout w layout) (Clear_slot x)) (obey s.dimensions w (Clear_slot x)) w layout refl
  without_paths-next_alike w layout (Message line octets) = (done_alike w layout line octets).making.world
  without_paths-next_alike w layout (LinkUp line) = (link_alike w layout false line).making.world
  without_paths-next_alike w layout (LinkDown line) = (link_alike w layout true line).making.world
  without_paths-next_alike w layout (RestartLine line) = (line_restart_alike w layout line).making.world
  without_paths-next_alike w layout (Frame input) = (frame_alike w layout input).making.world

  without_moves_nailed_alike : (b : Bool) (p q : Layout) (x y : Slot) → without_moves (if b then nail_reply t.dimensions p x y else Busy) ≡ without_moves (if b then nail_reply s.dimensions q x y else Busy)
  without_moves_nailed_alike true p q x y = refl
  without_moves_nailed_alike false p q x y = refl

  without_moves_at_port : (p q : Layout) (x : Slot) (port : Option Slot) → without_moves (seat_reply t.dimensions p x port) ≡ without_moves (seat_reply s.dimensions q x port)
  without_moves_at_port p q x None = refl
  without_moves_at_port p q x (Some port) = refl

  without_moves_seated_alike : (free full : Bool) (p q : Layout) (x : Slot) (port : Option Slot)
      → without_moves (if not free then Busy else (if full then NoPort else seat_reply t.dimensions p x port)) ≡ without_moves (if not free then Busy else (if full then NoPort else seat_reply s.dimensions q x port))
  without_moves_seated_alike true true p q x port = refl
  without_moves_seated_alike true false p q x port = without_moves_at_port p q x port
  without_moves_seated_alike false full p q x port = refl

  without_moves_sent_alike : (a b : MessageOutcome) → DoneAlike a b → without_moves (Sent_reply a.making.sends a.making.moves a.recorded) ≡ without_moves (Sent_reply b.making.sends b.making.moves b.recorded)
  without_moves_sent_alike a b alike = λ i. Sent_reply (alike.making.sends i) (none_told a.making.moves b.making.moves alike.making.moved i) (alike.recorded i)

  changed_alike : (a b : MessageOutcome) → DoneAlike a b → without_moves (link_reply a) ≡ without_moves (link_reply b)
  changed_alike a b alike = λ i. Sent_reply (alike.making.sends i) None (alike.recorded i)

  pub without_moves-reply_alike : (w : World) (layout : Layout) (e : Event) → without_moves (reply t (with_layout w layout) e) ≡ without_moves (reply s w e)
  without_moves-reply_alike w layout (Nail x y) = without_moves_nailed_alike (may_nail w x y) layout w.layout x y
  without_moves-reply_alike w layout (Seat_event x room) = without_moves_seated_alike (idle w x) (is_full s.dimensions w) layout w.layout x (port_of s.dimensions.external (ports_with x w.ports) x)
  without_moves-reply_alike w layout (Free x) = refl
  without_moves-reply_alike w layout (Message line octets) = without_moves_sent_alike (outcome_of_octets t (with_layout w layout) line octets) (outcome_of_octets s w line octets) (done_alike w layout line octets)
  without_moves-reply_alike w layout (LinkUp line) = changed_alike (outcome_of_link t.dimensions t.tones false line (with_layout w layout)) (outcome_of_link s.dimensions s.tones false line w) (link_alike w layout false line)
  without_moves-reply_alike w layout (LinkDown line) = changed_alike (outcome_of_link t.dimensions t.tones true line (with_layout w layout)) (outcome_of_link s.dimensions s.tones true line w) (link_alike w layout true line)
  without_moves-reply_alike w layout (RestartLine line) = changed_alike (outcome_of_line_restart t.dimensions t.tones line (with_layout w layout)) (outcome_of_line_restart s.dimensions s.tones line w) (line_restart_alike w layout line)
  without_moves-reply_alike w layout (Frame input) =
      let alike = frame_alike w layout input in
      λ i. Frame_reply w.holding.next (alike.making.sends i) (alike.recorded i)

  -- ---- a run

  -- a world is another one with its own paths
  with_own : (u v : World) → without_paths u ≡ without_paths v → u ≡ with_layout v u.layout
  with_own u v same = ap (λ (x : World). with_layout x u.layout) same

  map-without_moves_runs : (w : World) (layout : Layout) (es : List Event) → map without_moves (run t (with_layout w layout) es) ≡ map without_moves (run s w es)
  map-without_moves_runs w layout [] = refl
  map-without_moves_runs w layout (e ∷ es) =
      let u = next t (with_layout w layout) e in
      let v = next s w e in
      let rest : map without_moves (run t u es) ≡ map without_moves (run s v es) = ap (λ (x : World). map without_moves (run t x es)) (with_own u v (without_paths-next_alike w layout e)) ∙ map-without_moves_runs v u.layout es in
      λ i. without_moves-reply_alike w layout e i ∷ rest i

  without_paths-world_after_all_alike : (w : World) (layout : Layout) (es : List Event) → without_paths (world_after_all t (with_layout w layout) es) ≡ without_paths (world_after_all s w es)
  without_paths-world_after_all_alike w layout [] = refl
  without_paths-world_after_all_alike w layout (e ∷ es) =
      let u = next t (with_layout w layout) e in
      let v = next s w e in
      ap (λ (x : World). without_paths (world_after_all t x es)) (with_own u v (without_paths-next_alike w layout e)) ∙ without_paths-world_after_all_alike v u.layout es

  pub map-without_moves_replies : (es : List Event) → map without_moves (replies_of_run t es) ≡ map without_moves (replies_of_run s es)
  map-without_moves_replies es = map-without_moves_runs (start s.dimensions) (start s.dimensions).layout es

  pub without_paths_ends_alike : (es : List Event) → without_paths (world_of_run t es) ≡ without_paths (world_of_run s es)
  without_paths_ends_alike es = without_paths-world_after_all_alike (start s.dimensions) (start s.dimensions).layout es
