-- What layer 3 takes a link for, after each step of the link.
use Rattle.std.proofs.Common.{◌≡◌, ℕ, zero, suc, ◌+◌, Bool, true, false, ◌&&◌, ◌||◌, refl, sym, ap, ◌∙◌, Some, None, if◌then◌else◌}
use Rattle.std.specs.Prelude.{Option, List, length, not, nat_le, ◌==◌}
use Rattle.link_frames.specs.declared.frame.Supervisory.{Supervisory}
use Rattle.link_frames.specs.declared.frame.Supervisory.TheVariants.{Rr, Rnr, Rej}
use Rattle.link_frames.specs.declared.frame.Control.{Control}
use Rattle.link_frames.specs.declared.frame.Control.TheVariants as control
use Rattle.link_frames.specs.declared.frame.Frame.{Frame}
use Rattle.link_procedures.specs.declared.state.State.{State}
use Rattle.link_procedures.specs.declared.state.State.TheVariants as state
use Rattle.link_procedures.specs.declared.state.LinkTimers.{LinkTimers}
use Rattle.link_procedures.specs.declared.state.Indication.{Indication}
use Rattle.link_procedures.specs.declared.state.Indication.TheVariants as indication
use Rattle.link_procedures.specs.Links.{DataLink, Step, step, initial, is_valid, is_multiple_frame, is_established, is_recovering, is_awaiting, is_up}
use Rattle.link_procedures.specs.Sending.{acknowledges, enquires, rejects, is_free, sends_next, sends_waiting, flushes, acknowledges_pending, finished}
use Rattle.link_procedures.specs.Establishment.{Outcome, quietly, establishes, established, lost, begun, begun_indication, is_uncertain, released, releases, releases_first, overflowed, overflows, queued, submitted}
use Rattle.link_procedures.specs.Receiving.{on_sabme, on_disc, is_solicited, is_new, on_solicited, on_ua, on_dm, on_rejection, retimed, acknowledge, has_moved, supervised_by, recovered, recovering_by, busy_by, supervisory_applied, on_valid, answers_enquiry, on_supervisory, in_sequence, acknowledges_later, out_of_sequence, by_number, by_acknowledgement, taken, on_information, on_control, received}
use Rattle.link_procedures.specs.Timing.{is_due, calls_again, enquires_at, calls_or_releases, first_retries, on_expiry, settled, turned}
use Rattle.exchange_laws.specs.Layers.{is_taken_for_up, Owes}

by_test : {A : Type 0} (P : A → Type 0) (b : Bool) (x y : A) → (b ≡ true → P x) → (b ≡ false → P y) → P (if b then x else y)
by_test P true x y f g = f refl
by_test P false x y f g = g refl

not_both : {A : Type 0} (b : Bool) → b ≡ true → b ≡ false → A
not_both b on off = absurd (cc)

-- ---- the state of a link

-- the link is in the same state, for itself and for layer 3
pub record Stays (l m : DataLink) : Type 0 where
  pub state : m.state ≡ l.state
  pub asked : m.asked ≡ l.asked
  pub owed : m.owed ≡ l.owed

is_awaited : (st : State) → is_awaiting st ≡ true → st ≡ state.AwaitingEstablishment
unfolding is_awaiting
is_awaited state.TeiAssigned e = absurd (cc)
is_awaited state.AwaitingEstablishment e = refl
is_awaited state.MultipleFrameEstablished e = absurd (cc)
is_awaited state.TimerRecovery e = absurd (cc)

awaited_down : (l : DataLink) → l.state ≡ state.AwaitingEstablishment → l.asked ≡ true → is_up l ≡ false
unfolding is_up is_multiple_frame is_established is_recovering is_awaiting
awaited_down l e on = ap (λ st. is_multiple_frame st || (is_awaiting st && not l.asked)) e ∙ ap (λ a. not a) on

awaiting_waits : is_awaiting state.AwaitingEstablishment ≡ true
unfolding is_awaiting
awaiting_waits = refl

-- a link in state 5, layer 3 initiated
pub requested_down : (l : DataLink) → (is_awaiting l.state ≡ true) × (l.asked ≡ true) → is_up l ≡ false
requested_down l h = awaited_down l (is_awaited l.state h.0) h.1

-- the link is up if and only if it was, and owes the same
pub record Same (l m : DataLink) : Type 0 where
  pub up : is_up m ≡ is_up l
  pub owed : m.owed ≡ l.owed
  pub owes : Owes l → Owes m

stays_here : (l : DataLink) → Stays l l
stays_here l = record { state = refl; asked = refl; owed = refl }

stays_both : (l m n : DataLink) → Stays l m → Stays m n → Stays l n
stays_both l m n h k = record { state = k.state ∙ h.state; asked = k.asked ∙ h.asked; owed = k.owed ∙ h.owed }

same_of : (l m : DataLink) → Stays l m → Same l m
unfolding is_up
same_of l m h = record {
  up = ap (λ st. is_multiple_frame st || (is_awaiting st && not m.asked)) h.state ∙ ap (λ a. is_multiple_frame l.state || (is_awaiting l.state && not a)) h.asked;
  owed = h.owed;
  owes = λ o e. let k = o (sym h.owed ∙ e) in (ap (λ st. is_awaiting st) h.state ∙ k.0, h.asked ∙ k.1);
}

both_up : (l m : DataLink) → is_up l ≡ true → is_up m ≡ true → m.owed ≡ l.owed → Same l m
both_up l m on now owed = record { up = now ∙ sym on; owed = owed; owes = λ o e. not_both (is_up l) on (requested_down l (o (sym owed ∙ e))) }

same_both : (l m n : DataLink) → Same l m → Same m n → Same l n
same_both l m n h k = record { up = k.up ∙ h.up; owed = k.owed ∙ h.owed; owes = λ o. k.owes (h.owes o) }

or_true : (a b : Bool) → a ≡ true → (a || b) ≡ true
or_true a b e = ap (λ c. c || b) e

running_up : (l : DataLink) → is_multiple_frame l.state ≡ true → is_up l ≡ true
unfolding is_up
running_up l e = or_true (is_multiple_frame l.state) (is_awaiting l.state && not l.asked) e

recovering_runs : (st : State) → is_recovering st ≡ true → is_multiple_frame st ≡ true
unfolding is_recovering is_multiple_frame is_established
recovering_runs state.TeiAssigned e = absurd (cc)
recovering_runs state.AwaitingEstablishment e = absurd (cc)
recovering_runs state.MultipleFrameEstablished e = absurd (cc)
recovering_runs state.TimerRecovery e = refl

established_up : (l : DataLink) → l.state ≡ state.MultipleFrameEstablished → is_up l ≡ true
unfolding is_multiple_frame is_established
established_up l e = running_up l (ap is_multiple_frame e)

recovery_up : (l : DataLink) → l.state ≡ state.TimerRecovery → is_up l ≡ true
unfolding is_multiple_frame is_established is_recovering
recovery_up l e = running_up l (ap is_multiple_frame e)

-- ---- parts of a step

acknowledges_stays : (final : Bool) (s : Step) → Stays s.link (acknowledges final s).link
unfolding acknowledges
acknowledges_stays final s = record { state = refl; asked = refl; owed = refl }

rejects_stays : (final : Bool) (s : Step) → Stays s.link (rejects final s).link
unfolding rejects
rejects_stays final s = record { state = refl; asked = refl; owed = refl }

enquiry_stays : (b : Bool) (s : Step) → Stays s.link (answers_enquiry b s).link
unfolding answers_enquiry
enquiry_stays true s = acknowledges_stays true s
enquiry_stays false s = stays_here s.link

later_stays : (poll : Bool) (s : Step) → Stays s.link (acknowledges_later poll s).link
later_stays true s = acknowledges_stays true s
later_stays false s = record { state = refl; asked = refl; owed = refl }

out_stays : (poll : Bool) (s : Step) → Stays s.link (out_of_sequence poll s).link
out_stays poll s = by_test (λ (t : Step). Stays s.link t.link) s.link.rejecting _ _ (λ e. enquiry_stays poll s) (λ e. rejects_stays poll s)

number_stays : (poll : Bool) (ns : ℕ) (s : Step) → Stays s.link (by_number poll ns s).link
unfolding by_number
number_stays poll ns s = by_test (λ (t : Step). Stays s.link t.link) (ns == s.link.received) _ _
    (λ e. stays_both s.link (in_sequence s.link) _ (record { state = refl; asked = refl; owed = refl }) (later_stays poll (step (in_sequence s.link) s.out)))
    (λ e. out_stays poll s)

retimed_stays : (moved : Bool) (at : ℕ) (l : DataLink) → Stays l (retimed moved at l)
unfolding retimed
retimed_stays moved at l = by_test (Stays l) (l.queue.sent == 0) _ _ (λ e. record { state = refl; asked = refl; owed = refl })
    (λ e. by_test (Stays l) moved _ _ (λ d. record { state = refl; asked = refl; owed = refl }) (λ d. stays_here l))

timed_stays : (moved : Bool) (nr at : ℕ) (l : DataLink) → Stays l (retimed moved at (acknowledge nr l))
timed_stays moved nr at l = stays_both l (acknowledge nr l) _ (record { state = refl; asked = refl; owed = refl }) (retimed_stays moved at (acknowledge nr l))

supervised_stays : (kind : Supervisory) (nr at : ℕ) (l : DataLink) → Stays l (supervised_by kind nr at l)
unfolding supervised_by
supervised_stays Rr nr at l = timed_stays (has_moved nr l) nr at l
supervised_stays Rnr nr at l = record { state = refl; asked = refl; owed = refl }
supervised_stays Rej nr at l = record { state = refl; asked = refl; owed = refl }

recovering_same : (is_answer : Bool) (nr at : ℕ) (l : DataLink) → is_recovering l.state ≡ true → Same l (recovering_by is_answer nr at l)
unfolding recovering_by
recovering_same true nr at l e = both_up l _ (running_up l (recovering_runs l.state e)) (established_up (recovered nr at l) refl) refl
recovering_same false nr at l e = same_of l (acknowledge nr l) (record { state = refl; asked = refl; owed = refl })

applied_same : (command : Bool) (kind : Supervisory) (pf : Bool) (nr at : ℕ) (l : DataLink) → Same l (supervisory_applied command kind pf nr at l)
applied_same command kind pf nr at l = by_test (Same l) (is_recovering l.state) _ _
    (λ e. recovering_same (not command && pf) nr at l e) (λ e. same_of l _ (supervised_stays kind nr at l))

awaited_up : (l : DataLink) → l.state ≡ state.AwaitingEstablishment → l.asked ≡ false → is_up l ≡ true
unfolding is_up is_multiple_frame is_established is_recovering is_awaiting
awaited_up l e off = ap (λ st. is_multiple_frame st || (is_awaiting st && not l.asked)) e ∙ ap (λ a. not a) off

assigned_down : (l : DataLink) → l.state ≡ state.TeiAssigned → is_up l ≡ false
unfolding is_up is_multiple_frame is_established is_recovering is_awaiting
assigned_down l e = ap (λ st. is_multiple_frame st || (is_awaiting st && not l.asked)) e

establishes_state : (asked : Bool) (at : ℕ) (s : Step) → (establishes asked at s).link.state ≡ state.AwaitingEstablishment
unfolding establishes
establishes_state asked at s = refl

establishes_asked : (asked : Bool) (at : ℕ) (s : Step) → (establishes asked at s).link.asked ≡ asked
unfolding establishes
establishes_asked asked at s = refl

establishes_owed : (asked : Bool) (at : ℕ) (s : Step) → (establishes asked at s).link.owed ≡ s.link.owed
unfolding establishes
establishes_owed asked at s = refl

called_waits : (at : ℕ) (s : Step) → (is_awaiting (establishes true at s).link.state ≡ true) × ((establishes true at s).link.asked ≡ true)
called_waits at s = (ap (λ st. is_awaiting st) (establishes_state true at s) ∙ awaiting_waits, establishes_asked true at s)

assigned_same : (at : ℕ) (s : Step) → s.link.state ≡ state.TeiAssigned → Same s.link (establishes true at s).link
assigned_same at s e = record {
  up = awaited_down (establishes true at s).link (establishes_state true at s) (establishes_asked true at s) ∙ sym (assigned_down s.link e);
  owed = establishes_owed true at s;
  owes = λ o d. called_waits at s;
}

again_same : (at : ℕ) (s : Step) → is_up s.link ≡ true → Same s.link (establishes false at s).link
again_same at s on = both_up s.link _ on (awaited_up (establishes false at s).link (establishes_state false at s) (establishes_asked false at s)) (establishes_owed false at s)

valid_same : (command : Bool) (kind : Supervisory) (pf : Bool) (nr at : ℕ) (s : Step) → is_up s.link ≡ true → Same s.link (on_valid command kind pf nr at s).link
unfolding on_valid
valid_same command kind pf nr at s on = by_test (λ (t : Step). Same s.link t.link) (is_valid s.link.queue nr) _ _ (λ e. applied_same command kind pf nr at s.link) (λ e. again_same at s on)

acknowledgement_same : (nr at : ℕ) (s : Step) → is_up s.link ≡ true → Same s.link (by_acknowledgement nr at s).link
unfolding by_acknowledgement
acknowledgement_same nr at s on = by_test (λ (t : Step). Same s.link t.link) (is_valid s.link.queue nr) _ _ (λ e. same_of s.link _ (numbered (is_established s.link.state && not s.link.busy))) (λ e. again_same at s on)
  where
    numbered : (b : Bool) → Stays s.link (if b then retimed (has_moved nr s.link) at (acknowledge nr s.link) else acknowledge nr s.link)
    numbered true = timed_stays (has_moved nr s.link) nr at s.link
    numbered false = record { state = refl; asked = refl; owed = refl }

supervisory_same : (command : Bool) (kind : Supervisory) (pf : Bool) (nr at : ℕ) (s : Step) → Same s.link (on_supervisory command kind pf nr at s).link
unfolding on_supervisory
supervisory_same command kind pf nr at s = by_test (λ (t : Step). Same s.link t.link) (is_multiple_frame s.link.state) _ _
    (λ e. let b : Step = step (busy_by kind s.link) s.out in
    let a = answers_enquiry (command && pf) b in
    let h = same_of s.link a.link (stays_both s.link b.link a.link (record { state = refl; asked = refl; owed = refl }) (enquiry_stays (command && pf) b)) in
    same_both s.link a.link _ h (valid_same command kind pf nr at a (h.up ∙ running_up s.link e)))
    (λ e. same_of s.link s.link (stays_here s.link))

-- ---- the indications of a step

-- layer 3 takes the link for up or for down after an indication
abbrev pub up_after : Bool → Option Indication → Bool
up_after up None = up
up_after up (Some indication.Data) = up
up_after up (Some indication.Established) = true
up_after up (Some indication.Released) = false

pub record Informs (l : DataLink) (o : Outcome) : Type 0 where
  pub known : is_taken_for_up o.link ≡ up_after (is_taken_for_up l) o.indication
  pub owes : Owes l → Owes o.link

known_same : (l m : DataLink) → Same l m → is_taken_for_up m ≡ is_taken_for_up l
known_same l m h = ap (λ u. u || m.owed) h.up ∙ ap (λ o. is_up l || o) h.owed

pub owes_same : (l m : DataLink) → Same l m → Owes l → Owes m
owes_same l m h = h.owes

quiet_informs : (l : DataLink) (s : Step) → Same l s.link → Informs l (quietly s)
quiet_informs l s h = record { known = known_same l s.link h; owes = owes_same l s.link h }

stay_informs : (l : DataLink) (s : Step) → Stays l s.link → Informs l (quietly s)
stay_informs l s h = quiet_informs l s (same_of l s.link h)

-- a link that owes nothing
even : (l : DataLink) → l.owed ≡ false → Owes l
even l off e = not_both l.owed e off

begun_informs : (l : DataLink) (is_new : Bool) (at : ℕ) (out : List (List ℕ)) → (is_new ≡ false → is_up l ≡ true) → Informs l (record { link = begun is_new at l; out = out; indication = begun_indication is_new })
unfolding begun established lost
begun_informs l true at out old = record { known = or_true (is_up (begun true at l)) false (established_up (begun true at l) refl); owes = λ owes. even (begun true at l) refl }
begun_informs l false at out old =
    let h = both_up l (begun false at l) (old refl) (established_up (begun false at l) refl) refl in
    record { known = known_same l (begun false at l) h; owes = owes_same l (begun false at l) h }

released_informs : (l : DataLink) (at : ℕ) (out : List (List ℕ)) → Informs l (releases at (step l out))
unfolding released lost
released_informs l at out = record { known = ap (λ u. u || false) (assigned_down (released at l) refl); owes = λ owes. even (released at l) refl }

sabme_informs : (st : State) (poll : Bool) (at : ℕ) (s : Step) → s.link.state ≡ st → Informs s.link (on_sabme st poll at s)
unfolding on_sabme
sabme_informs state.TeiAssigned poll at s e = begun_informs s.link true at _ (λ old. absurd (cc))
sabme_informs state.AwaitingEstablishment poll at s e = stay_informs s.link _ (stays_here s.link)
sabme_informs state.MultipleFrameEstablished poll at s e = begun_informs s.link (is_uncertain s.link.queue) at _ (λ old. established_up s.link e)
sabme_informs state.TimerRecovery poll at s e = begun_informs s.link (is_uncertain s.link.queue) at _ (λ old. recovery_up s.link e)

disc_informs : (st : State) (poll : Bool) (at : ℕ) (s : Step) → Informs s.link (on_disc st poll at s)
unfolding on_disc
disc_informs state.TeiAssigned poll at s = stay_informs s.link _ (stays_here s.link)
disc_informs state.AwaitingEstablishment poll at s = stay_informs s.link _ (stays_here s.link)
disc_informs state.MultipleFrameEstablished poll at s = released_informs s.link at _
disc_informs state.TimerRecovery poll at s = released_informs s.link at _

left_true : (a b : Bool) → (a && b) ≡ true → a ≡ true
left_true true b e = refl
left_true false b e = e

left_off : (a b : Bool) → (a || b) ≡ false → a ≡ false
left_off true b e = e
left_off false b e = refl

lost_owed : (l : DataLink) → (lost l).owed ≡ false
unfolding lost
lost_owed l = refl

-- layer 3 is informed of an earlier loss, and another SABME is sent
first_informs : (at : ℕ) (s : Step) → Informs s.link (releases_first at s)
first_informs at s =
    let b : Step = step (lost s.link) s.out in
    let m = (establishes true at b).link in
    let none = establishes_owed true at b ∙ lost_owed s.link in
    record { known = ap (λ u. u || m.owed) (requested_down m (called_waits at b)) ∙ none; owes = λ owes. even m none }

ua_informs : (final : Bool) (at : ℕ) (s : Step) → Informs s.link (on_ua final at s)
unfolding on_ua on_solicited
ua_informs final at s = by_test (Informs s.link) (is_solicited final s.link) _ _
    (λ e. by_test (Informs s.link) s.link.owed _ _
    (λ d. first_informs at s)
    (λ d. begun_informs s.link (is_new s.link) at s.out
    (λ old. awaited_up s.link (is_awaited s.link.state (left_true (is_awaiting s.link.state) final e)) (left_off s.link.asked (is_uncertain s.link.queue) old))))
    (λ e. stay_informs s.link s (stays_here s.link))

dm_informs : (st : State) (final : Bool) (at : ℕ) (s : Step) → s.link.state ≡ st → Informs s.link (on_dm st final at s)
unfolding on_dm
dm_informs state.TeiAssigned true at s e = stay_informs s.link s (stays_here s.link)
dm_informs state.TeiAssigned false at s e = quiet_informs s.link _ (assigned_same at s e)
dm_informs state.AwaitingEstablishment true at s e = released_informs s.link at s.out
dm_informs state.AwaitingEstablishment false at s e = stay_informs s.link s (stays_here s.link)
dm_informs state.MultipleFrameEstablished true at s e = stay_informs s.link s (stays_here s.link)
dm_informs state.MultipleFrameEstablished false at s e = quiet_informs s.link _ (again_same at s (established_up s.link e))
dm_informs state.TimerRecovery true at s e = quiet_informs s.link _ (again_same at s (recovery_up s.link e))
dm_informs state.TimerRecovery false at s e = quiet_informs s.link _ (again_same at s (recovery_up s.link e))

rejection_informs : (st : State) (at : ℕ) (s : Step) → s.link.state ≡ st → Informs s.link (quietly (on_rejection st at s))
unfolding on_rejection
rejection_informs state.TeiAssigned at s e = stay_informs s.link s (stays_here s.link)
rejection_informs state.AwaitingEstablishment at s e = stay_informs s.link s (stays_here s.link)
rejection_informs state.MultipleFrameEstablished at s e = quiet_informs s.link _ (again_same at s (established_up s.link e))
rejection_informs state.TimerRecovery at s e = quiet_informs s.link _ (again_same at s (recovery_up s.link e))

taken_same : (b : Bool) (up : Bool) → up_after up (taken b) ≡ up
taken_same true up = refl
taken_same false up = refl

information_informs : (poll : Bool) (ns nr at : ℕ) (s : Step) → Informs s.link (on_information poll ns nr at s)
unfolding on_information
information_informs poll ns nr at s = by_test (Informs s.link) (is_multiple_frame s.link.state) _ _
    (λ e. let a = by_number poll ns s in
    let h = same_of s.link a.link (number_stays poll ns s) in
    let k = same_both s.link a.link _ h (acknowledgement_same nr at a (h.up ∙ running_up s.link e)) in record {
      known = known_same s.link _ k ∙ sym (taken_same (ns == s.link.received) (is_taken_for_up s.link));
      owes = owes_same s.link _ k;
    })
    (λ e. stay_informs s.link s (stays_here s.link))

control_informs : (command : Bool) (c : Control) (at : ℕ) (s : Step) → Informs s.link (on_control command c at s)
unfolding on_control
control_informs command (control.Sabme poll) at s = sabme_informs s.link.state poll at s refl
control_informs command (control.Disc poll) at s = disc_informs s.link.state poll at s
control_informs command (control.Ua final) at s = ua_informs final at s
control_informs command (control.Dm final) at s = dm_informs s.link.state final at s refl
control_informs command control.Frmr at s = rejection_informs s.link.state at s refl
control_informs command control.Invalid at s = rejection_informs s.link.state at s refl
control_informs command control.Ui at s = stay_informs s.link s (stays_here s.link)
control_informs command control.Xid at s = stay_informs s.link s (stays_here s.link)
control_informs command (control.Supervisory kind pf nr) at s = quiet_informs s.link _ (supervisory_same command kind pf nr at s)
control_informs command (control.Information poll ns nr information) at s = information_informs poll ns nr at s

pub received_informs : (f : Frame) (at : ℕ) (s : Step) → Informs s.link (received f at s)
received_informs f at s = control_informs f.command f.control at s

-- ---- the turn of a link

enquires_same : (retries at : ℕ) (s : Step) → is_up s.link ≡ true → Same s.link (enquires_at retries at s).link
unfolding enquires_at enquires
enquires_same retries at s on = both_up s.link _ on (recovery_up (enquires_at retries at s).link refl) refl

expiry_informs : (st : State) (at : ℕ) (s : Step) → s.link.state ≡ st → Informs s.link (on_expiry st at s)
unfolding on_expiry calls_or_releases
expiry_informs state.TeiAssigned at s e = quiet_informs s.link _ (assigned_same at s e)
expiry_informs state.AwaitingEstablishment at s e = by_test (Informs s.link) (s.link.retries == 3) _ _
    (λ d. released_informs s.link at s.out) (λ d. stay_informs s.link (calls_again at s) (record { state = refl; asked = refl; owed = refl }))
expiry_informs state.MultipleFrameEstablished at s e = quiet_informs s.link _ (enquires_same (first_retries s.link.timer.running) at s (established_up s.link e))
expiry_informs state.TimerRecovery at s e = by_test (Informs s.link) (s.link.retries == 3) _ _
    (λ d. quiet_informs s.link _ (again_same at s (recovery_up s.link e))) (λ d. quiet_informs s.link _ (enquires_same (s.link.retries + 1) at s (recovery_up s.link e)))

settled_up : (l : DataLink) → is_up (settled l) ≡ is_up l
unfolding is_up
settled_up l = refl

pub turned_informs : (t : LinkTimers) (at : ℕ) (s : Step) → Owes s.link → Informs s.link (turned t at s)
unfolding turned
turned_informs t at s owes = by_test (Informs s.link) s.link.owed _ _
    (λ e. record { known = ap (λ u. u || false) (settled_up s.link ∙ requested_down s.link (owes e)); owes = λ h. even (settled s.link) refl })
    (λ e. by_test (Informs s.link) (is_due t at s.link.timer) _ _ (λ d. expiry_informs s.link.state at s refl) (λ d. stay_informs s.link s (stays_here s.link)))

-- ---- a message, and the end of a step

-- layer 3 is not informed of anything
pub record Keeps (l m : DataLink) : Type 0 where
  pub known : is_taken_for_up m ≡ is_taken_for_up l
  pub owes : Owes l → Owes m
  pub owing : l.owed ≡ true → m.owed ≡ true

same_keeps : (l m : DataLink) → Same l m → Keeps l m
same_keeps l m h = record { known = known_same l m h; owes = owes_same l m h; owing = λ e. h.owed ∙ e }

pub keeps_here : (l : DataLink) → Keeps l l
keeps_here l = record { known = refl; owes = λ h. h; owing = λ e. e }

pub keeps_both : (l m n : DataLink) → Keeps l m → Keeps m n → Keeps l n
keeps_both l m n h k = record { known = k.known ∙ h.known; owes = λ e. k.owes (h.owes e); owing = λ e. k.owing (h.owing e) }

next_stays : (at : ℕ) (s : Step) → Stays s.link (sends_next at s).link
unfolding sends_next
next_stays at s = by_test (λ (t : Step). Stays s.link t.link) (is_free s.link) _ _ (λ e. record { state = refl; asked = refl; owed = refl }) (λ e. stays_here s.link)

waiting_stays : (n at : ℕ) (s : Step) → Stays s.link (sends_waiting n at s).link
waiting_stays zero at s = stays_here s.link
waiting_stays (suc n) at s = stays_both s.link (sends_next at s).link _ (next_stays at s) (waiting_stays n at (sends_next at s))

flushes_stays : (at : ℕ) (s : Step) → Stays s.link (flushes at s).link
unfolding flushes
flushes_stays at s = waiting_stays 7 at s

pending_stays : (s : Step) → Stays s.link (acknowledges_pending s).link
unfolding acknowledges_pending
pending_stays s = by_test (λ (t : Step). Stays s.link t.link) (s.link.pending && is_multiple_frame s.link.state) _ _
    (λ e. acknowledges_stays false s) (λ e. record { state = refl; asked = refl; owed = refl })

pub finished_keeps : (at : ℕ) (s : Step) → Keeps s.link (finished at s).link
unfolding finished
finished_keeps at s = same_keeps s.link _ (same_of s.link _ (stays_both s.link (flushes at s).link _ (flushes_stays at s) (pending_stays (flushes at s))))

-- all messages are lost, and the link is down
lost_keeps : (l m : DataLink) → is_up l ≡ true → (is_awaiting m.state ≡ true) × (m.asked ≡ true) → m.owed ≡ true → Keeps l m
lost_keeps l m on waits owed = record {
  known = ap (λ u. u || m.owed) (requested_down m waits) ∙ (owed ∙ sym (or_true (is_up l) l.owed on));
  owes = λ h e. waits;
  owing = λ e. owed;
}

overflows_keeps : (at : ℕ) (s : Step) → is_up s.link ≡ true → Keeps s.link (overflows at s).link
unfolding overflows
overflows_keeps at s on = by_test (λ (t : Step). Keeps s.link t.link) (is_awaiting s.link.state) _ _
    (λ e. lost_keeps s.link (record (overflowed s.link) { asked = true }) on (e, refl) refl)
    (λ e. let b = step (overflowed s.link) s.out in lost_keeps s.link (establishes true at b).link on (called_waits at b) (establishes_owed true at b))

is_on : (b : Bool) → not b ≡ false → b ≡ true
is_on true e = refl
is_on false e = absurd (cc)

pub submitted_keeps : (m : List ℕ) (at : ℕ) (s : Step) → Keeps s.link (submitted m at s).link
unfolding submitted
submitted_keeps m at s = by_test (λ (t : Step). Keeps s.link t.link) (not (is_up s.link)) _ _ (λ e. keeps_here s.link)
    (λ e. by_test (λ (t : Step). Keeps s.link t.link) (nat_le 64 (length s.link.queue.waiting)) _ _ (λ d. overflows_keeps at s (is_on (is_up s.link) e))
    (λ d. let b : Step = step (record s.link { queue = queued m s.link.queue }) s.out in
    same_keeps s.link _ (same_of s.link _ (stays_both s.link b.link _ (record { state = refl; asked = refl; owed = refl }) (flushes_stays at b)))))

pub initial_owes : (at : ℕ) → Owes (initial at)
initial_owes at e = absurd (cc)

pub initial_known : (at : ℕ) → is_taken_for_up (initial at) ≡ false
initial_known at = ap (λ u. u || false) (assigned_down (initial at) refl)
