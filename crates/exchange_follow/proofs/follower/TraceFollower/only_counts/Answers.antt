use Rattle.std.proofs.Common.{rules, arith}
use Rattle.exchange_follow.proofs.Passing.{counts_sync}
use Rattle.exchange_follow.proofs.follower.TraceFollower.only_counts.Goals as goal

pub returns : goal.returns
returns g c some =
    counts_sync c.args.self.now.heading c.args.self.now.lines c.args.line.now (search rules)
    (let few = c.if-self-ge-MAX_LINES.false in omega (arith, few)) (search rules)
