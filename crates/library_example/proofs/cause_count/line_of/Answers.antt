use Rattle.std.proofs.Common.{rules, ◌≡◌, ◌++◌, codes, decimal, string_bytes, IfOk, subst}
use Rattle.std.proofs.lemmas.List.{append_assoc}
use Rattle.library_example.proofs.cause_count.line_of.Goals as goal

pub returns : goal.returns
returns c =
    let printed : IfOk c.format.result (λ text. string_bytes text ≡ codes "cause " ++ (decimal c.args.cause ++ (codes ": " ++ (decimal c.args.calls ++ codes "\n")))) = search rules in
    record { line = subst (λ bytes. IfOk c.format.result (λ text. string_bytes text ≡ bytes)) (simp append_assoc) printed }
