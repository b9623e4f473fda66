-- The exchange and its links after a step.
use Rattle.std.proofs.Common.{◌≡◌, ℕ, ◌+◌, ◌<◌, ◌≤◌, Bool, true, false, List, [], ◌∷◌, length, drop, get_or, drop_of_length-le, zero, suc, sym, ap, ◌∙◌, subst, arith, None}
use Rattle.std.specs.Prelude.{Option}
use Rattle.std.specs.declared.result.Result.{Result}
use Rattle.circuit_model.specs.Dimensions.{Dimensions}
use Rattle.circuit_model.specs.FrameInput.{Input}
use Rattle.exchange_events.specs.declared.outbox.Outbox.{Outbox}
use Rattle.exchange_events.specs.declared.outbox.Response.{Response}
use Rattle.exchange_events.specs.declared.outbox.Response.TheVariants as response
use Rattle.exchange_events.specs.declared.record.CallRecord.{CallRecord}
use Rattle.exchange_events.specs.declared.reply.Reply.TheVariants.{Sent}
use Rattle.exchange_events.specs.declared.signal.Signal.{Signal}
use Rattle.exchange_events.specs.declared.trace.Event.{Event}
use Rattle.exchange_events.specs.declared.trace.Event.TheVariants.{Frame, LinkDown, LinkUp}
use Rattle.exchange_events.specs.Responses.{reply_of}
use Rattle.exchange_events.specs.Sizes.{Setting}
use Rattle.exchange_events.specs.Sound.{Fits, IsPlanned}
use Rattle.call_profile.specs.Step.{next, reply, world_after_all}
use Rattle.call_profile.specs.World.{World}
use Rattle.call_profile.proofs.QuietEventLemmas.{SameFrames-next}
use Rattle.link_procedures.specs.declared.state.LinkTimers.{LinkTimers}
use Rattle.link_table.specs.declared.notice.Change.{Change}
use Rattle.link_table.specs.declared.notice.Change.TheVariants.{Up, Down}
use Rattle.link_table.specs.declared.notice.NoLinkError.{NoLinkError}
use Rattle.link_table.specs.declared.notice.Notice.{Notice}
use Rattle.link_table.specs.declared.notice.Notice.TheVariants as notice
use Rattle.link_table.specs.Tables.{Table}
use Rattle.lone_exchange.specs.declared.exchange.LoneExchange.{LoneExchange}
use Rattle.lone_exchange.specs.At.{Carrying, IsAt}
use Rattle.linked_exchange.specs.declared.exchange.LinkedExchange.{LinkedExchange}
use Rattle.linked_exchange.specs.declared.settings.Settings.{Settings}
use Rattle.linked_exchange.specs.At.{HasSettings, IsLinkedAt, IsPlannedFor}
use Rattle.linked_exchange.specs.Runs.{links_down}
use Rattle.linked_exchange.specs.Steps.{Joint, LinkedInput, changed_events, derived, event_of, noticed_events, links_begun, links_ended, next_joint, reply_to, sends_of, submitted_all, world_after}
use Rattle.linked_exchange.proofs.LinkLemmas.{receiving-ended}
use Rattle.linked_exchange.proofs.PlainLemmas.{next_size}

-- ---- the events of a link

link_fits : (external line : ℕ) (change : Change) → line < external → Fits external (event_of line (notice.Link change))
link_fits external line Up below = below
link_fits external line Down below = below

pub below_of : (external line : ℕ) (change : Change) → Fits external (event_of line (notice.Link change)) → line < external
below_of external line Up fits = fits
below_of external line Down fits = fits

pub change_fits : (external line : ℕ) (change : Change) (e : Event) → e ≡ event_of line (notice.Link change) → line < external → Fits external e
change_fits external line change e is below = subst (Fits external) (sym is) (link_fits external line change below)

-- the reply to a change of a link has messages, moves and records
sent_out : (got : Response) (out : Outbox) (sends : List Signal) (moved : Option (ℕ × ℕ)) (records : List CallRecord)
    → reply_of got out ≡ Sent sends moved records → reply_of response.Sent out ≡ Sent sends moved records
sent_out (response.Granted a b) out sends moved records e = absurd (cc)
sent_out response.Busy out sends moved records e = absurd (cc)
sent_out (response.Seated a b) out sends moved records e = absurd (cc)
sent_out response.NoPort out sends moved records e = absurd (cc)
sent_out response.Freed out sends moved records e = absurd (cc)
sent_out response.NotNailed out sends moved records e = absurd (cc)
sent_out response.Sent out sends moved records e = e
sent_out (response.Frame n) out sends moved records e = absurd (cc)

change_sent : (s : Setting) (w : World) (line : ℕ) (change : Change) (got : Response) (out : Outbox) → reply_of got out ≡ reply s w (event_of line (notice.Link change))
    → reply_of response.Sent out ≡ reply s w (event_of line (notice.Link change))
change_sent s w line Up got out e = sent_out got out _ _ _ e
change_sent s w line Down got out e = sent_out got out _ _ _ e

pub change_replied : (s : Setting) (w : World) (line : ℕ) (change : Change) (e : Event) (got : Response) (out : Outbox) → e ≡ event_of line (notice.Link change)
    → reply_of got out ≡ reply s w e → reply_of response.Sent out ≡ reply s w (event_of line (notice.Link change))
change_replied s w line change e got out is replied = change_sent s w line change got out (replied ∙ ap (reply s w) is)

no_frame : (line : ℕ) (input : Input) → LinkDown line ≡ Frame input → ⊥
no_frame line input e = absurd (cc)

no_frame_up : (line : ℕ) (input : Input) → LinkUp line ≡ Frame input → ⊥
no_frame_up line input e = absurd (cc)

-- a change of a link is no frame
link_no_frame : (line : ℕ) (change : Change) (input : Input) → event_of line (notice.Link change) ≡ Frame input → ⊥
link_no_frame line Up input e = no_frame_up line input e
link_no_frame line Down input e = no_frame line input e

pub change_no_frame : (line : ℕ) (change : Change) (e : Event) → e ≡ event_of line (notice.Link change) → (input : Input) → e ≡ Frame input → ⊥
change_no_frame line change e is input same = link_no_frame line change input (sym is ∙ same)

-- a link that goes down is no frame
pub down_frames : (s : Setting) (w : World) (line : ℕ) → (next s w (LinkDown line)).holding.next ≡ w.holding.next
down_frames s w line = (SameFrames-next s w (LinkDown line) (no_frame line)).next

-- ---- an exchange without an event

pub cleared_at : {P E : Type 0} (carries : Carrying E) (frames : E → ℕ) (sizes : E → Dimensions) (x y : LoneExchange P E) (s : Setting) (w : World)
    → IsAt carries frames sizes x s w → y.control ≡ x.control → y.engine ≡ x.engine → y.context.tool ≡ x.context.tool → y.octets ≡ x.octets
    → IsAt carries frames sizes y s w
cleared_at carries frames sizes x y s w at control engine tool octets = record {
  few = at.few;
  work = rw control at.work;
  came = at.came;
  carried = rw engine at.carried;
  number = rw engine at.number;
  sized = rw engine at.sized;
  image = rw tool at.image;
  lines = rw octets at.lines;
}

module _ {P E : Type 0} (carries : Carrying E) (frames : E → ℕ) (sizes : E → Dimensions) (x y : LoneExchange P E) (s : Setting) (w : World) (line : ℕ)
    (at : IsAt carries frames sizes x s w) (control : y.control ≡ x.control) (engine : y.engine ≡ x.engine) (tool : y.context.tool ≡ x.context.tool) (octets : y.octets ≡ x.octets) where
  pub cleared_change : (o : Option Change) → o ≡ None → IsAt carries frames sizes y s (world_after_all s w (changed_events line o))
  cleared_change o is =
      subst (λ o. IsAt carries frames sizes y s (world_after_all s w (changed_events line o))) (sym is) (cleared_at carries frames sizes x y s w at control engine tool octets)

  pub cleared_notice : (r : Result (Option Notice) NoLinkError) → noticed_events line r ≡ [] → IsAt carries frames sizes y s (world_after_all s w (noticed_events line r))
  cleared_notice r is =
      subst (λ es. IsAt carries frames sizes y s (world_after_all s w es)) (sym is) (cleared_at carries frames sizes x y s w at control engine tool octets)

-- an empty outbox is the reply to no event
pub empty_reply : (s : Setting) (w : World) (es : List Event) (out : Outbox) → es ≡ [] → out.sends ≡ [] → out.moved ≡ None → out.records ≡ []
    → reply_of response.Sent out ≡ reply_to s w es
empty_reply s w es out is sends moved records = (λ i. Sent (sends i) (moved i) (records i)) ∙ ap (reply_to s w) (sym is)

-- the number of frames so far
pub frames_at : {P E : Type 0} (carries : Carrying E) (frames : E → ℕ) (sizes : E → Dimensions) (x : LoneExchange P E) (s : Setting) (w : World)
    → IsAt carries frames sizes x s w → x.control.map.next ≡ w.holding.next
frames_at carries frames sizes x s w at = at.work.holds.circuits.holds.next

pub external_at : {P E : Type 0} (carries : Carrying E) (frames : E → ℕ) (sizes : E → Dimensions) (x : LoneExchange P E) (s : Setting) (w : World)
    → IsAt carries frames sizes x s w → x.control.map.external ≡ s.dimensions.external
external_at carries frames sizes x s w at = ap (λ (d : Dimensions). d.external) at.work.holds.sizes

-- the plan has only lines of the exchange, in each setting of the size
pub planned_by : (settings : Settings) (d : Dimensions) (s : Setting) → s.dimensions ≡ d → HasSettings settings s → IsPlannedFor d settings → IsPlanned s
planned_by settings d s dims given planned = rw (dims, given.plan_is) planned

-- ---- the links that are down at the start

-- y is in a state in which the links of the lines before `line` are down, after the state w
pub record IsDown {P E : Type 0} (carries : Carrying E) (frames : E → ℕ) (sizes : E → Dimensions) (y : LoneExchange P E) (linked : List Bool) (line : ℕ) (s : Setting) (w : World) : Type 0 where
  pub state : World
  pub at : IsAt carries frames sizes y s state
  pub time : state.holding.next ≡ w.holding.next
  pub rest : world_after_all s state (links_down line (drop line linked)) ≡ world_after_all s w (links_down 0 linked)

drop_one : (linked : List Bool) (line : ℕ) (d b : Bool) → line < length linked → get_or linked line d ≡ b → drop line linked ≡ b ∷ drop (line + 1) linked
drop_one [] line d b within is = absurd (omega (arith, within))
drop_one (x ∷ xs) zero d b within is = ap (λ y. y ∷ xs) is
drop_one (x ∷ xs) (suc n) d b within is =
    let e : suc (n + 1) ≡ suc n + 1 = omega arith in
    drop_one xs n d b (omega (arith, within)) is ∙ ap (λ k. b ∷ drop k (x ∷ xs)) e

module _ {P E : Type 0} (carries : Carrying E) (frames : E → ℕ) (sizes : E → Dimensions) (linked : List Bool) (line : ℕ) (d : Bool) (s : Setting) (w : World) (within : line < length linked) where
  -- a line without a link
  pub down_same : (y : LoneExchange P E) → get_or linked line d ≡ false → IsDown carries frames sizes y linked line s w → IsDown carries frames sizes y linked (line + 1) s w
  down_same y off h = record {
    state = h.state;
    at = h.at;
    time = h.time;
    rest = ap (λ l. world_after_all s h.state (links_down line l)) (sym (drop_one linked line d false within off)) ∙ h.rest;
  }

  -- a line with a link
  pub down_more : (y z : LoneExchange P E) → get_or linked line d ≡ true → (h : IsDown carries frames sizes y linked line s w)
      → IsAt carries frames sizes z s (next s h.state (LinkDown line)) → IsDown carries frames sizes z linked (line + 1) s w
  down_more y z on h at = record {
    state = next s h.state (LinkDown line);
    at = at;
    time = down_frames s h.state line ∙ h.time;
    rest = ap (λ l. world_after_all s h.state (links_down line l)) (sym (drop_one linked line d true within on)) ∙ h.rest;
  }

pub down_all : {P E : Type 0} (carries : Carrying E) (frames : E → ℕ) (sizes : E → Dimensions) (y : LoneExchange P E) (linked : List Bool) (line : ℕ) (s : Setting) (w : World)
    → length linked ≤ line → IsDown carries frames sizes y linked line s w → IsAt carries frames sizes y s (world_after_all s w (links_down 0 linked))
down_all carries frames sizes y linked line s w past h =
    subst (IsAt carries frames sizes y s) (ap (λ l. world_after_all s h.state (links_down line l)) (sym (drop_of_length-le linked past)) ∙ h.rest) h.at

-- ---- a step

module _ {P E : Type 0} (carries : Carrying E) (frames : E → ℕ) (sizes : E → Dimensions) (x : LinkedExchange P E) (s : Setting) (j : Joint) (before : IsLinkedAt carries frames sizes x s j) where
  -- no link receives
  pub free_at : x.links.receiving ≡ None
  free_at = ap (λ (t : Table). t.receiving) before.links ∙ before.ended

  -- each link belongs to an external line
  pub few_at : length x.links.links ≤ x.exchange.control.map.external
  few_at =
      let few = before.lines in
      let same = ap (λ (t : Table). length t.links) before.links in
      let external = external_at carries frames sizes x.exchange s j.world before.exchange in
      omega (arith, few, same, external)

  pub time_at : x.exchange.control.map.next ≡ j.world.holding.next
  time_at = frames_at carries frames sizes x.exchange s j.world before.exchange

  module _ (timers : LinkTimers) (i : LinkedInput) (es : List Event) (is : es ≡ derived timers j i) (got : Response) where
    -- the reply to the event of the step
    pub replied_by : (out : Outbox) → reply_of got out ≡ reply_to s j.world es → reply_of got out ≡ reply_to s j.world (derived timers j i)
    replied_by out replied = replied ∙ ap (reply_to s j.world) is

    -- the exchange after the event, and the links after the end of the step
    pub stepped_by : (y : LinkedExchange P E) (t : Table) (at : ℕ) → IsAt carries frames sizes y.exchange s (world_after_all s j.world es) → reply_of got y.exchange.context.out ≡ reply_to s j.world es
        → at ≡ y.exchange.control.map.next → t ≡ links_begun timers j i → y.links ≡ links_ended at (sends_of (reply_of got y.exchange.context.out)) t
        → IsLinkedAt carries frames sizes y s (next_joint s timers j i)
    unfolding next_joint
    stepped_by y t at passed replied now begun ended =
        let world = world_after s timers j i in
        let sends = sends_of (reply_to s j.world (derived timers j i)) in
        let time : at ≡ world.holding.next =
        now ∙ (frames_at carries frames sizes y.exchange s (world_after_all s j.world es) passed ∙ ap (λ fs. (world_after_all s j.world fs).holding.next) is) in
        let sent : sends_of (reply_of got y.exchange.context.out) ≡ sends = ap sends_of (replied ∙ ap (reply_to s j.world) is) in
        let size = next_size s timers j i in
        let few = before.lines in
        record {
          exchange = subst (λ fs. IsAt carries frames sizes y.exchange s (world_after_all s j.world fs)) is passed;
          links = ended ∙ (λ k. links_ended (time k) (sent k) (begun k));
          ended = receiving-ended world.holding.next (submitted_all world.holding.next sends (links_begun timers j i));
          lines = omega (arith, few, size);
        }
