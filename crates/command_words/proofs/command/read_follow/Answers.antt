use Rattle.std.proofs.Common.{◌≡◌, ◌∙◌, map, string_bytes, IfOk, Some, Option, Bool, subst, sym}
use Rattle.command_words.proofs.Named.{follow_named, follow_unnamed}
use Rattle.command_words.proofs.command.read_follow.Goals as goal

pub returns-then-is_follow-clause-follow : goal.returns-then-is_follow-clause-follow
returns-then-is_follow-clause-follow c =
    let is = follow_named (map string_bytes c.args.words.now) (sym c.is_follow.ensures ∙ c.if-is_follow.true) in
    subst (λ (o : Option Bool). IfOk c.read_follow_flag.result (λ x. o ≡ Some x)) (sym is) c.read_follow_flag.ensures.flag

pub returns-then-is_follow-clause-no_follow : goal.returns-then-is_follow-clause-no_follow
returns-then-is_follow-clause-no_follow c =
    λ e. follow_named (map string_bytes c.args.words.now) (sym c.is_follow.ensures ∙ c.if-is_follow.true) ∙ c.read_follow_flag.ensures.no_follow e

pub returns-else-is_follow-clause-no_follow : goal.returns-else-is_follow-clause-no_follow
returns-else-is_follow-clause-no_follow c = λ e. follow_unnamed (map string_bytes c.args.words.now) (sym c.is_follow.ensures ∙ c.if-is_follow.false)
