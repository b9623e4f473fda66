use Rattle.std.proofs.Common.{rules, ◌≡◌, ◌++◌, ◌∷◌, [], List, ℕ, take, drop, decimal, sym, arith}
use Rattle.report_text.proofs.Texts.{parts_joined}
use Rattle.report_text.proofs.message.put_far.Goals as goal

pub returns-clause-message : goal.returns-clause-message
returns-clause-message c =
    let octets : List ℕ = c.args.octets.now in
    let front : c.split_at.result.0.now ≡ take c.min.result octets = grind arith in
    let others : c.split_at.result.1.now ≡ drop c.min.result octets = grind arith in
    rw (sym (parts_joined c.args.out.now.items (decimal c.args.line ++ 58 ∷ []) octets c.min.result)) (rw (← front, ← others) (search rules))
