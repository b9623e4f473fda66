use Rattle.std.proofs.Common.{rules}
use Rattle.tone_rules.proofs.NoneGiven.{no_tone}
use Rattle.tone_rules.proofs.tones.Tones.is_empty.Goals as goal

pub returns-then-not-is_given : goal.returns-then-not-is_given
returns-then-not-is_given c = no_tone c.args.self.now _ _ c.if-not-is_given.ensures.given c.is_given-then-not-is_given.ensures.given (search rules)
