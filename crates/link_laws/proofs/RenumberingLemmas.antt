-- Which frames begin a new numbering without an indication.
use Rattle.std.proofs.Common.{◌≡◌, ℕ, ◌<◌, Bool, true, false, refl, ◌∙◌, inl, inr, arith, if◌then◌else◌, ◌&&◌}
use Rattle.std.specs.Prelude.{◌==◌}
use Rattle.std.proofs.lemmas.Bool.{ltb-false, or_parts}
use Rattle.link_frames.specs.declared.frame.Supervisory.{Supervisory}
use Rattle.link_frames.specs.declared.frame.Control.{Control}
use Rattle.link_frames.specs.declared.frame.Control.TheVariants as control
use Rattle.link_frames.specs.declared.frame.Frame.{Frame}
use Rattle.link_frames.specs.Reading.{IsNumbered}
use Rattle.link_procedures.specs.declared.state.State.{State}
use Rattle.link_procedures.specs.declared.state.State.TheVariants as state
use Rattle.link_procedures.specs.Links.{SendQueue, DataLink, Step, step, is_multiple_frame, renumbered}
use Rattle.link_procedures.specs.Establishment.{established, begun, begun_indication, is_uncertain}
use Rattle.link_procedures.specs.Receiving.{on_sabme, on_disc, on_ua, on_dm, on_rejection, is_solicited, is_new, on_solicited, busy_by, answers_enquiry, on_supervisory, in_sequence, acknowledges_later, out_of_sequence, by_number, by_acknowledgement, taken, on_information, on_control, received}
use Rattle.link_procedures.proofs.AnyPeerLemmas.{establishes_quiet, answers_enquiry_quiet, valid_quiet, acknowledgement_quiet, out_quiet}
use Rattle.link_laws.specs.Renumbering.{GoesOn, GoesOnSilently, IsSilent}

by_test : {A : Type 0} (P : A → Type 0) (b : Bool) (x y : A) → (b ≡ true → P x) → (b ≡ false → P y) → P (if b then x else y)
by_test P true x y f g = f refl
by_test P false x y f g = g refl

pub certain_is : (q : SendQueue) → is_uncertain q ≡ false → q.sent ≡ 0
certain_is q e = let few = ltb-false 0 q.sent e in omega (arith, few)

begun_silent : (b : Bool) (now : ℕ) (l : DataLink) → (b ≡ false → l.queue.sent ≡ 0) → GoesOnSilently l (begun b now l) (begun_indication b)
unfolding begun established renumbered
begun_silent true now l f = tt
begun_silent false now l f = inr (f refl, refl)

sabme_silent : (st : State) (poll : Bool) (now : ℕ) (s : Step) → IsSilent s.link (on_sabme st poll now s)
unfolding on_sabme
sabme_silent state.TeiAssigned poll now s = tt
sabme_silent state.AwaitingEstablishment poll now s = inl refl
sabme_silent state.MultipleFrameEstablished poll now s = begun_silent (is_uncertain s.link.queue) now s.link (certain_is s.link.queue)
sabme_silent state.TimerRecovery poll now s = begun_silent (is_uncertain s.link.queue) now s.link (certain_is s.link.queue)

disc_silent : (st : State) (poll : Bool) (now : ℕ) (s : Step) → IsSilent s.link (on_disc st poll now s)
unfolding on_disc
disc_silent state.TeiAssigned poll now s = inl refl
disc_silent state.AwaitingEstablishment poll now s = inl refl
disc_silent state.MultipleFrameEstablished poll now s = tt
disc_silent state.TimerRecovery poll now s = tt

ua_silent : (final : Bool) (now : ℕ) (s : Step) → IsSilent s.link (on_ua final now s)
unfolding on_ua on_solicited
ua_silent final now s = by_test (IsSilent s.link) (is_solicited final s.link) _ _
    (λ x. by_test (IsSilent s.link) s.link.owed _ _ (λ y. tt) (λ y. begun_silent (is_new s.link) now s.link (λ e. certain_is s.link.queue (or_parts s.link.asked (is_uncertain s.link.queue) e).1)))
    (λ x. inl refl)

dm_silent : (st : State) (final : Bool) (now : ℕ) (s : Step) → IsSilent s.link (on_dm st final now s)
unfolding on_dm
dm_silent state.TeiAssigned true now s = inl refl
dm_silent state.TeiAssigned false now s = inl (establishes_quiet true now s).next
dm_silent state.AwaitingEstablishment true now s = tt
dm_silent state.AwaitingEstablishment false now s = inl refl
dm_silent state.MultipleFrameEstablished true now s = inl refl
dm_silent state.MultipleFrameEstablished false now s = inl (establishes_quiet false now s).next
dm_silent state.TimerRecovery final now s = inl (establishes_quiet false now s).next

rejection_silent : (st : State) (now : ℕ) (s : Step) → GoesOn s.link (on_rejection st now s).link
unfolding on_rejection
rejection_silent state.TeiAssigned now s = inl refl
rejection_silent state.AwaitingEstablishment now s = inl refl
rejection_silent state.MultipleFrameEstablished now s = inl (establishes_quiet false now s).next
rejection_silent state.TimerRecovery now s = inl (establishes_quiet false now s).next

supervisory_silent : (cmd : Bool) (kind : Supervisory) (pf : Bool) (nr now : ℕ) (s : Step) → nr < 128 → GoesOn s.link (on_supervisory cmd kind pf nr now s).link
unfolding on_supervisory
supervisory_silent cmd kind pf nr now s number = by_test (λ (t : Step). GoesOn s.link t.link) (is_multiple_frame s.link.state) _ _
    (λ e. let b : Step = step (busy_by kind s.link) s.out in let t : Step = answers_enquiry (cmd && pf) b in inl ((valid_quiet cmd kind pf nr now t number).next ∙ (answers_enquiry_quiet (cmd && pf) b).next))
    (λ e. inl refl)

information_silent : (poll : Bool) (ns nr now : ℕ) (s : Step) → nr < 128 → IsSilent s.link (on_information poll ns nr now s)
unfolding on_information by_number
information_silent poll ns nr now s number = by_test (IsSilent s.link) (is_multiple_frame s.link.state) _ _ (λ e. on (ns == s.link.received)) (λ e. inl refl)
  where
    on : (b : Bool) → GoesOnSilently s.link (by_acknowledgement nr now (if b then acknowledges_later poll (step (in_sequence s.link) s.out) else out_of_sequence poll s)).link (taken b)
    on true = tt
    on false = inl ((acknowledgement_quiet nr now (out_of_sequence poll s) number).next ∙ (out_quiet poll s).next)

control_silent : (cmd : Bool) (c : Control) (now : ℕ) (s : Step) → IsNumbered c → IsSilent s.link (on_control cmd c now s)
unfolding on_control
control_silent cmd (control.Sabme poll) now s n = sabme_silent s.link.state poll now s
control_silent cmd (control.Disc poll) now s n = disc_silent s.link.state poll now s
control_silent cmd (control.Ua final) now s n = ua_silent final now s
control_silent cmd (control.Dm final) now s n = dm_silent s.link.state final now s
control_silent cmd control.Frmr now s n = rejection_silent s.link.state now s
control_silent cmd control.Invalid now s n = rejection_silent s.link.state now s
control_silent cmd control.Ui now s n = inl refl
control_silent cmd control.Xid now s n = inl refl
control_silent cmd (control.Supervisory kind pf nr) now s n = supervisory_silent cmd kind pf nr now s n
control_silent cmd (control.Information poll ns nr information) now s n = information_silent poll ns nr now s n

pub received_silent : (f : Frame) (now : ℕ) (s : Step) → IsNumbered f.control → IsSilent s.link (received f now s)
received_silent f now s n = control_silent f.command f.control now s n
