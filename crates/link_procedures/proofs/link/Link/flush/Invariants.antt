use Rattle.std.proofs.Common.{◌≡◌, ◌≤◌, ◌+◌, ◌-◌, length}
use Rattle.link_procedures.specs.Links.{step}
use Rattle.link_procedures.specs.Sending.{sends_waiting}
use Rattle.link_procedures.proofs.link.Link.flush.Given as goal

abbrev pub invariant-loop : goal.invariant-loop
invariant-loop l = record {
  flow : sends_waiting (7 - l.counter) l.fn.at (step l.self l.out) ≡ sends_waiting 7 l.fn.at (step l.fn.self l.fn.out);
  few : length l.out ≤ length l.fn.out + l.counter;
}
