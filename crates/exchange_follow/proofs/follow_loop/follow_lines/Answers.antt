use Rattle.std.proofs.Common.{refl}
use Rattle.exchange_follow.proofs.follow_loop.follow_lines.Goals as goal

pub follow_with-requires-clause-size : goal.follow_with-requires-clause-size
follow_with-requires-clause-size g c κs within = refl

pub slice_bounds-follow_with-end : goal.slice_bounds-follow_with-end
slice_bounds-follow_with-end g c = refl
