use Rattle.linked_exchange.proofs.FollowedStories.{trace_followed}
use Rattle.linked_exchange.proofs.following_laws.traces_are_followed.Goals as goal

pub returns : goal.returns
returns c = trace_followed
