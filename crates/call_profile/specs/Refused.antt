-- Refusals, by the reply. Source: this project.
use Rattle.std.specs.Prelude.{◌≡◌, ℕ, ◌*◌, ◌<◌, Bool, true, false, List, [], ◌∷◌, Some, None}
use Rattle.circuit_model.specs.declared.channel.Slot.{Slot}
use Rattle.circuit_model.specs.Ports.{Ports, owner_of}
use Rattle.q931_codec.specs.declared.message.Message.{Message}
use Rattle.q931_codec.specs.Outgoing.{encoding}
use Rattle.exchange_events.specs.declared.reply.Reply.{Reply}
use Rattle.exchange_events.specs.declared.reply.Reply.TheVariants.{Busy, NoPort, NotNailed, Sent as Sent_reply}
use Rattle.call_profile.specs.Calls.{New_call, request_of}
use Rattle.call_profile.specs.Setup.{refusal, release_complete}
use Rattle.exchange_events.specs.Sizes.{Setting}
use Rattle.call_profile.specs.World.{World}

-- the replies that refuse a command
abbrev pub refuses : Reply → Bool
refuses Busy = true
refuses NoPort = true
refuses NotNailed = true
refuses _ = false

-- each of the 30 ports of n bridge lines has a member
abbrev pub AllAreTaken : ℕ → Ports → Type 0
AllAreTaken bridges ports = (k : ℕ) → k < 30 * bridges → (x : Slot) × (owner_of ports k ≡ Some x)

-- these octets are a SETUP that requests a call, and it fails a check with this cause
abbrev pub IsRefused : Setting → World → ℕ → List ℕ → Message → ℕ → Type 0
IsRefused s w line octets setup cause = (request_of w.legs line octets ≡ New_call setup) × (refusal s w line setup ≡ Some cause)

-- only RELEASE COMPLETE with the cause, on the SETUP's call reference
abbrev pub refusal_reply : ℕ → Message → ℕ → Reply
refusal_reply line setup cause = Sent_reply (record { line = line; octets = encoding (release_complete setup.reference cause) } ∷ []) None []
