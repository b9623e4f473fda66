use Rattle.std.proofs.Common.{rules}
use Rattle.traffic_gen.proofs.Digits.{sizes_text}
use Rattle.traffic_gen.proofs.traffic.put_sizes.Goals as goal

pub returns : goal.returns
returns c = rw (← sizes_text) (search rules)
