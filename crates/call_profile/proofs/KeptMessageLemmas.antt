-- Each leg waits in its state since a frame, and what is kept is kept where a leg waits for the answer.
use Rattle.std.proofs.Common.{◌≡◌, ◌≢◌, ℕ, ◌*◌, ◌≤◌, inl, inr, true, false, List, Option, Some, None, refl, sym, ◌∙◌, subst, arith, length-set}
use Rattle.std.specs.Prelude.{IfSome}
use Rattle.std.proofs.lemmas.List.{length-replicate}
use Rattle.circuit_model.specs.declared.channel.Slot.{Slot}
use Rattle.circuit_model.specs.Extent.{IsExternal}
use Rattle.control_memory.specs.Layout.{number_of}
use Rattle.q931_codec.specs.declared.kind.MessageKind.{MessageKind}
use Rattle.q931_codec.specs.declared.kind.MessageKind.TheVariants as kind
use Rattle.q931_codec.specs.CallStates.{overlap_sending}
use Rattle.q931_codec.specs.Outgoing.{OutgoingMessage, encoding}
use Rattle.call_states.specs.Acts.{is_among}
use Rattle.call_states.specs.declared.leg.Leg.{Leg}
use Rattle.call_states.specs.declared.pending.Pending.{Pending}
use Rattle.call_profile.specs.KeptMessages.{awaiting_answer, state_after, IsAwaited, IsKept, MayKeep, LegsWait, EachBegan, EachIsKept, NoneElseIsKept}
use Rattle.call_profile.specs.Legs.{Legs, waiting_from, retransmitted_from, leg_at, kept_at, no_legs}
use Rattle.call_profile.specs.LegStanding.{CallsStand}
use Rattle.call_profile.specs.World.{World}
use Rattle.exchange_events.specs.Sizes.{Setting}
use Rattle.call_profile.proofs.BesideLemmas.{same_or_apart}
use Rattle.call_profile.proofs.EntryLemmas.{written, leg_here, kept_here, leg_else, kept_else, get_or-bare}

-- ---- the states

-- a leg that waits for the answer to a message is in one of these states, and not in overlap sending
abbrev Awaits : ℕ → Type 0
Awaits state = (is_among awaiting_answer state ≡ true) × (state ≢ overlap_sending)

in_state_after : (state here : ℕ) → Awaits here → Some here ≡ Some state → Awaits state
in_state_after state here awaits e = let same : here ≡ state = cc in subst Awaits same awaits

pub awaits_by : (k : MessageKind) (state : ℕ) → state_after k ≡ Some state → Awaits state
awaits_by kind.Setup state e = in_state_after state _ (refl, λ f. absurd cc) e
awaits_by kind.Release state e = in_state_after state _ (refl, λ f. absurd cc) e
awaits_by _ state e = absurd cc

-- one that waits for more digits keeps nothing
pub digits_keep_none : (state : ℕ) → state ≡ overlap_sending → is_among awaiting_answer state ≡ false
digits_keep_none state is = rw is refl

-- ---- what is kept of a leg that is put, or waits anew

pub kept_from : (next : ℕ) (leg : Leg) (message : OutgoingMessage) → IsAwaited leg message → IsKept (waiting_from next leg) (encoding message)
kept_from next leg message is = record {
  message = message;
  encoded = refl;
  awaited = record { flag = is.flag; reference = is.reference; state = is.state; writable = is.writable; quiet = is.quiet };
}

pub kept_anew : (next : ℕ) (leg : Leg) (octets : List ℕ) → IsKept leg octets → IsKept (retransmitted_from next leg) octets
kept_anew next leg octets is = record {
  message = is.message;
  encoded = is.encoded;
  awaited = record { flag = is.awaited.flag; reference = is.awaited.reference; state = is.awaited.state; writable = is.awaited.writable; quiet = is.awaited.quiet };
}

pub kept_there : (external next : ℕ) (legs : Legs) (x : Slot) (leg : Leg) (octets : List ℕ) → LegsWait external next legs → IsExternal external x → leg_at legs x ≡ Some leg → kept_at legs x ≡ Some octets → IsKept leg octets
kept_there external next legs x leg octets wait in_x at keeps =
    subst (λ (o : Option Leg). MayKeep o (Some octets)) at (subst (MayKeep (leg_at legs x)) keeps (wait.each x in_x))

kept_by : (legs : Legs) (x : Slot) (leg : Leg) (k : Option (List ℕ)) → kept_at legs x ≡ k → MayKeep (Some leg) k → is_among awaiting_answer leg.state ≡ true
    → (octets : List ℕ) × (kept_at legs x ≡ Some octets) × IsKept leg octets
kept_by legs x leg None at may among = let wrong : false ≡ true = sym may ∙ among in absurd cc
kept_by legs x leg (Some octets) at may among = (octets, at, may)

pub stored_there : (external next : ℕ) (legs : Legs) (x : Slot) (leg : Leg) → LegsWait external next legs → IsExternal external x → leg_at legs x ≡ Some leg → is_among awaiting_answer leg.state ≡ true
    → (octets : List ℕ) × (kept_at legs x ≡ Some octets) × IsKept leg octets
stored_there external next legs x leg wait in_x at among = kept_by legs x leg (kept_at legs x) refl (subst (λ (o : Option Leg). MayKeep o (kept_at legs x)) at (wait.each x in_x)) among

-- ---- one entry written

module _ (external next : ℕ) (legs : Legs) (x : Slot) (wait : LegsWait external next legs) (in_x : IsExternal external x) (o : Option Leg) (p : Option Pending) (k : Option (List ℕ)) where
  abbrev now : Legs
  now = written legs x o p k

  pub written_wait : IfSome o (λ leg. leg.since ≤ next) → MayKeep o k → LegsWait external next now
  written_wait since may =
      let here = leg_here external legs x in_x o p k wait.legs_count in
      let keeps = kept_here external legs x in_x o p k wait.count in
      record {
        legs_count = length-set legs.held (number_of x) o ∙ wait.legs_count;
        count = length-set legs.kept (number_of x) k ∙ wait.count;
        since = λ z in_z. elim (same_or_apart z x) [
          | inl same ↦ subst (λ (y : Slot). IfSome (leg_at now y) (λ leg. leg.since ≤ next)) (sym same) (subst (λ (q : Option Leg). IfSome q (λ leg. leg.since ≤ next)) (sym here) since)
          | inr apart ↦ subst (λ (q : Option Leg). IfSome q (λ leg. leg.since ≤ next)) (sym (leg_else external legs x in_x o p k z in_z apart)) (wait.since z in_z)
        ];
        each = λ z in_z. elim (same_or_apart z x) [
          | inl same ↦ subst (λ (y : Slot). MayKeep (leg_at now y) (kept_at now y)) (sym same) (subst (λ (q : Option Leg). MayKeep q (kept_at now x)) (sym here) (subst (MayKeep o) (sym keeps) may))
          | inr apart ↦
              subst (λ (q : Option Leg). MayKeep q (kept_at now z)) (sym (leg_else external legs x in_x o p k z in_z apart))
              (subst (MayKeep (leg_at legs z)) (sym (kept_else external legs x in_x o p k z in_z apart)) (wait.each z in_z))
        ];
      }

-- ---- later frames

later_since : (next more : ℕ) (o : Option Leg) → next ≤ more → IfSome o (λ leg. leg.since ≤ next) → IfSome o (λ leg. leg.since ≤ more)
later_since next more None later since = tt
later_since next more (Some leg) later since = omega (arith, later, since)

pub wait_on : (external next more : ℕ) (legs : Legs) → next ≤ more → LegsWait external next legs → LegsWait external more legs
wait_on external next more legs later wait = record {
  legs_count = wait.legs_count;
  count = wait.count;
  since = λ x in_x. later_since next more (leg_at legs x) later (wait.since x in_x);
  each = wait.each;
}

-- ---- before the first event

pub none_wait : (external next : ℕ) → LegsWait external next (no_legs external)
none_wait external next = record {
  legs_count = length-replicate (30 * external) None;
  count = length-replicate (30 * external) None;
  since = λ x in_x. subst (λ (q : Option Leg). IfSome q (λ leg. leg.since ≤ next)) (sym (get_or-bare Leg (30 * external) (number_of x))) tt;
  each = λ x in_x.
      subst (λ (q : Option Leg). MayKeep q (kept_at (no_legs external) x)) (sym (get_or-bare Leg (30 * external) (number_of x)))
      (subst (MayKeep None) (sym (get_or-bare (List ℕ) (30 * external) (number_of x))) tt);
}

-- ---- what holds of it in a world

module _ (s : Setting) (w : World) (stands : CallsStand s w) where
  pub each_began : EachBegan s.dimensions.external w
  each_began x leg in_x at = subst (λ (o : Option Leg). IfSome o (λ l. l.since ≤ w.holding.next)) at (stands.waits.since x in_x)

  pub each_is_kept : EachIsKept s.dimensions.external w
  each_is_kept x leg in_x at among = stored_there s.dimensions.external w.holding.next w.legs x leg stands.waits in_x at among

  holds_by : (x : Slot) (octets : List ℕ) (o : Option Leg) → leg_at w.legs x ≡ o → MayKeep o (Some octets) → (leg : Leg) × (leg_at w.legs x ≡ Some leg) × (is_among awaiting_answer leg.state ≡ true)
  holds_by x octets None at may = absurd may
  holds_by x octets (Some leg) at may = (leg, at, (awaits_by may.message.kind leg.state may.awaited.state).0)

  pub none_else_is_kept : NoneElseIsKept s.dimensions.external w
  none_else_is_kept x octets in_x keeps = holds_by x octets (leg_at w.legs x) refl (subst (MayKeep (leg_at w.legs x)) keeps (stands.waits.each x in_x))
