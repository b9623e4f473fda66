use Rattle.exchange_follow.proofs.following.follow.Goals as goal
use Rattle.exchange_follow.proofs.following.follow.Goals.{then-strict, else-strict}

pub follow_on-ended-requires-clause-promise : goal.follow_on-ended-requires-clause-promise
follow_on-ended-requires-clause-promise g c κs within = rw c.if-strict.true at c.requires.promise

pub follow_on-ended-requires-else-strict-clause-promise : goal.follow_on-ended-requires-else-strict-clause-promise
follow_on-ended-requires-else-strict-clause-promise g c κs within = rw c.if-strict.false at c.requires.promise

pub returns : goal.returns
returns g c =
    elim c.if-strict.branch [
      | then-strict w ↦
          let e = w.follow_on-ended.ensures in
          rw (w.if-strict.true, w.wire-is, w.meters-is, w.spare-is, w.ended-is) (record { ends = (w.follow_on-ended.result.ending, rw w.ended-is at c.status.ensures, e.ends, e.reads, e.writes) })
      | else-strict w ↦
          let e = w.follow_on-ended-else-strict.ensures in
          rw (w.if-strict.false, w.wire-is, w.meters-is, w.spare-is, w.ended-is) (record { ends = (w.follow_on-ended-else-strict.result.ending, rw w.ended-is at c.status.ensures, e.ends, e.reads, e.writes) })
    ]
