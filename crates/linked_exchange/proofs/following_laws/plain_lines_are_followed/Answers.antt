use Rattle.linked_exchange.proofs.PlainInTurn.{in_turn_plain, one_in_turn, plain_in_turn, plain_story, trace_in_turn}
use Rattle.linked_exchange.proofs.following_laws.plain_lines_are_followed.Goals as goal

pub returns : goal.returns
returns c = record { lines = plain_in_turn; same = in_turn_plain; story = plain_story; one = one_in_turn; traces = trace_in_turn }
