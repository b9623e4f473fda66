-- The replies to several events.
use Rattle.std.proofs.Common.{◌≡◌, List, [], ◌∷◌, ◌++◌, refl, ap}
use Rattle.exchange_events.specs.declared.reply.Reply.{Reply}
use Rattle.exchange_events.specs.declared.trace.Event.{Event}
use Rattle.exchange_events.specs.Sizes.{Setting}
use Rattle.call_profile.specs.Step.{next, reply, run, world_after_all}
use Rattle.call_profile.specs.World.{World}

pub run-append : (s : Setting) (w : World) (es fs : List Event) → run s w (es ++ fs) ≡ run s w es ++ run s (world_after_all s w es) fs
run-append s w [] fs = refl
run-append s w (e ∷ es) fs = ap (λ (l : List Reply). reply s w e ∷ l) (run-append s (next s w e) es fs)
