use Rattle.std.proofs.Common.{◌≡◌, ◌+◌, ◌<◌, ◌≤◌, ◌++◌, List, length, map, reverse}
use Rattle.std.specs.List.{All}
use Rattle.std.specs.Prelude.{vec_len, vec_capacity}
use Rattle.seat_history.specs.Histories.{StartsWith}
use Rattle.seat_history.specs.Seats.{Settled}
use Rattle.exchange_core.specs.Boards.{turns_of}
use Rattle.exchange_core.specs.Working.{Entry}
use Rattle.segment_run.specs.Workers.{after_joins}
use Rattle.segment_run.proofs.gathering.gather.Given as goal

abbrev pub invariant-loop-output : goal.invariant-loop-output
invariant-loop-output g l = record {
  seated : g.B.Switchboard.seated l.board l.seat;
  others : All (λ w. g.B.Switchboard.seated l.board w.seat) l.workers.items;
  chief : (g.B.Switchboard.known l.seat).number ≡ 0;
  room : vec_len l.used + vec_len l.workers ≤ vec_capacity l.used;
  kept : vec_capacity l.used ≡ vec_capacity l.fn.used;
  capacity : vec_capacity l.workers ≡ vec_capacity l.fn.workers;
  seat : after_joins (g.B.Switchboard.known l.seat) (map (λ w. g.B.Switchboard.known w.seat) l.workers.items) ≡ after_joins (g.B.Switchboard.known l.fn.seat) (map (λ w. g.B.Switchboard.known w.seat) l.fn.workers.items);
  unused : l.used.items ++ reverse (map (λ w. w.buffers) l.workers.items) ≡ reverse (map (λ w. w.buffers) l.fn.workers.items);
  fronts : (history : List Entry) → StartsWith history (g.B.Switchboard.known l.seat).seen → All (λ w. StartsWith history (g.B.Switchboard.known w.seat).seen) l.workers.items → All (λ w. StartsWith history (g.B.Switchboard.known w.seat).seen) l.fn.workers.items;
  settled : length l.workers.items < length l.fn.workers.items → Settled (turns_of (g.B.Switchboard.board l.board)) (g.B.Switchboard.known l.seat);
  begins : StartsWith (g.B.Switchboard.known l.seat).seen (g.B.Switchboard.known l.fn.seat).seen;
}

abbrev pub decreases-loop-output : goal.decreases-loop-output
decreases-loop-output g l = vec_len l.workers
