use Rattle.std.proofs.Common.{◌≡◌, ◌≤◌, ℕ, Some, None, arith}
use Rattle.exchange_events.specs.declared.reply.Reply.{Reply}
use Rattle.exchange_events.specs.declared.reply.Reply.TheVariants.{Granted, Busy, Seated, NoPort, Freed, NotNailed, Sent, Frame}
use Rattle.call_profile.specs.Step.{MovesAtMost}
use Rattle.exchange_run.specs.Outcomes.{TellsNoMoves}
use Rattle.exchange_run.proofs.laws.strict_runs_move_nothing.Goals as goal

none : (n : ℕ) → n ≤ 0 → n ≡ 0
none n most = omega (arith, most)

at_most_none : (r : Reply) → MovesAtMost 0 r → TellsNoMoves r
at_most_none (Granted a b) few = (none a few.0, none b few.1)
at_most_none Busy few = tt
at_most_none (Seated a b) few = (none a few.0, none b few.1)
at_most_none NoPort few = tt
at_most_none Freed few = tt
at_most_none NotNailed few = tt
at_most_none (Sent sends None records) few = tt
at_most_none (Sent sends (Some moves) records) few = (none moves.0 few.0, none moves.1 few.1)
at_most_none (Frame k sends records) few = tt

pub returns : goal.returns
returns c trace order few = λ k d lt. at_most_none _ (few k d lt)
