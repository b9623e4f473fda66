-- Fabrics: an exchange without its paths. Source: this project.
use Rattle.std.specs.Prelude.{ℕ, List, [], option_map}
use Rattle.circuit_model.specs.declared.channel.Slot.{Slot}
use Rattle.circuit_model.specs.declared.circuit.Kind.{Kind}
use Rattle.circuit_model.specs.Hears.{hears}
use Rattle.exchange_events.specs.declared.reply.Reply.{Reply}
use Rattle.exchange_events.specs.declared.reply.Reply.TheVariants.{Granted, Seated, Sent as Sent_reply}
use Rattle.exchange_events.specs.declared.trace.Event.{Event}
use Rattle.exchange_events.specs.Sizes.{Setting}
use Rattle.call_profile.specs.Step.{run, world_after_all}
use Rattle.call_profile.specs.World.{World, start}

-- the same exchange with this number of internal slots
abbrev pub with_slots : Setting → ℕ → Setting
with_slots s slots = record s { dimensions = record s.dimensions { slots = slots } }

-- an exchange state without its paths
abbrev pub without_paths : World → World
without_paths w = record w { layout = [] }

-- a reply without the numbers of the paths that moved
abbrev pub without_moves : Reply → Reply
without_moves (Granted there back) = Granted 0 0
without_moves (Seated there back) = Seated 0 0
without_moves (Sent_reply sends moved records) = Sent_reply sends (option_map (λ moves. (0, 0)) moved) records
without_moves other = other

-- the exchange state after a run from the start, and its replies
abbrev pub world_of_run : Setting → List Event → World
world_of_run s es = world_after_all s (start s.dimensions) es

abbrev pub replies_of_run : Setting → List Event → List Reply
replies_of_run s es = run s (start s.dimensions) es

-- the octet that a slot receives in a frame of a run
abbrev pub heard_in_run : (Kind → List ℕ) → Setting → List Event → ℕ → Slot → ℕ
heard_in_run tones s es f y = let w = world_of_run s es in hears tones w.inputs w.held f y
