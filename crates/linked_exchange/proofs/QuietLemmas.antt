-- The links that are down before the first step: call control has no legs, and sends nothing.
use Rattle.std.proofs.Common.{◌≡◌, ℕ, zero, suc, ◌+◌, ◌*◌, Bool, true, false, List, [], ◌∷◌, All, replicate, get_or, refl, ap, ◌∙◌, arith, None}
use Rattle.std.specs.Prelude.{Option, option_map}
use Rattle.std.proofs.lemmas.List.Elements.{All-nil, All-cons}
use Rattle.circuit_model.specs.Dimensions.{Dimensions}
use Rattle.circuit_model.specs.declared.channel.Slot.{Slot}
use Rattle.control_memory.specs.Layout.{number_of}
use Rattle.q931_codec.specs.Causes.{destination_out_of_order}
use Rattle.tone_rules.specs.declared.tones.Tones.{Tones}
use Rattle.call_states.specs.declared.leg.Leg.{Leg}
use Rattle.exchange_events.specs.declared.reply.Reply.TheVariants.{Sent}
use Rattle.exchange_events.specs.declared.trace.Event.TheVariants.{LinkDown}
use Rattle.exchange_events.specs.Sizes.{Setting}
use Rattle.call_profile.specs.Legs.{held_at}
use Rattle.call_profile.specs.LinkChanges.{drop_leg, outcome_of_link, rule_of, with_line}
use Rattle.call_profile.specs.Operations.{making_at}
use Rattle.call_profile.specs.Restarts.{MessageOutcome, outcome_at_slot, outcome_then}
use Rattle.call_profile.specs.Step.{link_reply, next, reply, run}
use Rattle.call_profile.specs.World.{World, start}
use Rattle.call_profile.proofs.RefusalLemmas.{no_records}
use Rattle.call_profile.proofs.RestartedSlotLemmas.{each_below}
use Rattle.linked_exchange.specs.Runs.{links_down}

-- no slot has a leg
abbrev HasNoLegs : World → Type 0
HasNoLegs w = (x : Slot) → held_at w.legs x ≡ None

same_everywhere : {A : Type 0} (d : A) (n i : ℕ) → get_or (replicate n d) i d ≡ d
same_everywhere d zero i = refl
same_everywhere d (suc n) zero = refl
same_everywhere d (suc n) (suc i) = same_everywhere d n i

start_without : (d : Dimensions) → HasNoLegs (start d)
start_without d x = ap (λ (l : Option Leg). option_map (λ leg. record { slot = x; leg = leg }) l) (same_everywhere None (30 * d.external) (number_of x))

-- nothing happened
abbrev quiet : World → MessageOutcome
quiet w = record { making = making_at w; recorded = [] }

slot_quiet : (d : Dimensions) (tones : Tones) (w : World) (x : Slot) → HasNoLegs w → outcome_at_slot d (rule_of tones false true) x (quiet w) ≡ quiet w
slot_quiet d tones w x none =
    ap (λ h. outcome_then d destination_out_of_order (quiet w) (drop_leg tones w.legs h)) (none x)
    ∙ ap (λ rs. record { making = making_at w; recorded = rs }) (no_records w destination_out_of_order)

link_quiet : (d : Dimensions) (tones : Tones) (line : ℕ) (w : World) → HasNoLegs w → outcome_of_link d tones true line w ≡ quiet (with_line w line true)
link_quiet d tones line w none =
    let down = with_line w line true in
    each_below d (rule_of tones false true) line down (λ a. a ≡ quiet down) refl
    (λ a place small e. ap (outcome_at_slot d (rule_of tones false true) (record { line = line; place = place })) e ∙ slot_quiet d tones down (record { line = line; place = place }) none) 30 (omega arith)

down_quiet : (s : Setting) (line : ℕ) (w : World) → HasNoLegs w → reply s w (LinkDown line) ≡ Sent [] None []
down_quiet s line w none = ap link_reply (link_quiet s.dimensions s.tones line w none)

down_without : (s : Setting) (line : ℕ) (w : World) → HasNoLegs w → HasNoLegs (next s w (LinkDown line))
down_without s line w none x = ap (λ (a : MessageOutcome). held_at a.making.world.legs x) (link_quiet s.dimensions s.tones line w none) ∙ none x

all_quiet : (s : Setting) (line : ℕ) (linked : List Bool) (w : World) → HasNoLegs w → All (λ r. r ≡ Sent [] None []) (run s w (links_down line linked))
all_quiet s line [] w none = All-nil (λ r. r ≡ Sent [] None [])
all_quiet s line (true ∷ rest) w none =
    All-cons (λ r. r ≡ Sent [] None []) (reply s w (LinkDown line)) (run s (next s w (LinkDown line)) (links_down (line + 1) rest)) (down_quiet s line w none)
    (all_quiet s (line + 1) rest (next s w (LinkDown line)) (down_without s line w none))
all_quiet s line (false ∷ rest) w none = all_quiet s (line + 1) rest w none

-- nothing is sent before the first step
pub start_quiet : (s : Setting) (linked : List Bool) → All (λ r. r ≡ Sent [] None []) (run s (start s.dimensions) (links_down 0 linked))
start_quiet s linked = all_quiet s 0 linked (start s.dimensions) (start_without s.dimensions)
