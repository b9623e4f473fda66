use Rattle.std.proofs.Common.{rules, ◌≡◌, ◌∙◌, map, string_bytes, IfOk, Some, None, Option, subst, sym}
use Rattle.command_words.specs.declared.command.Command.{Command}
use Rattle.command_words.specs.declared.command.Name.TheVariants.{Run, Gen, Check}
use Rattle.command_words.proofs.Named.{command_of_named}
use Rattle.command_words.proofs.command.parse_command.Goals as goal

pub returns-in-Some-Run-clause-command : goal.returns-in-Some-Run-clause-command
returns-in-Some-Run-clause-command c =
    let is = command_of_named (Some Run) (map string_bytes c.args.words.now) (search rules) in
    subst (λ (o : Option Command). IfOk c.read_run.result (λ x. o ≡ Some x)) (sym is) c.read_run.ensures.command

pub returns-in-Some-Run-clause-no_command : goal.returns-in-Some-Run-clause-no_command
returns-in-Some-Run-clause-no_command c =
    λ e. command_of_named (Some Run) (map string_bytes c.args.words.now) (search rules) ∙ c.read_run.ensures.no_command e

pub returns-in-Some-Gen-clause-command : goal.returns-in-Some-Gen-clause-command
returns-in-Some-Gen-clause-command c =
    let is = command_of_named (Some Gen) (map string_bytes c.args.words.now) (search rules) in
    subst (λ (o : Option Command). IfOk c.read_generation.result (λ x. o ≡ Some x)) (sym is) c.read_generation.ensures.command

pub returns-in-Some-Gen-clause-no_command : goal.returns-in-Some-Gen-clause-no_command
returns-in-Some-Gen-clause-no_command c =
    λ e. command_of_named (Some Gen) (map string_bytes c.args.words.now) (search rules) ∙ c.read_generation.ensures.no_command e

pub returns-in-Some-Check-clause-command : goal.returns-in-Some-Check-clause-command
returns-in-Some-Check-clause-command c =
    let is = command_of_named (Some Check) (map string_bytes c.args.words.now) (search rules) in
    subst (λ (o : Option Command). IfOk c.read_check.result (λ x. o ≡ Some x)) (sym is) c.read_check.ensures.command

pub returns-in-Some-Check-clause-no_command : goal.returns-in-Some-Check-clause-no_command
returns-in-Some-Check-clause-no_command c =
    λ e. command_of_named (Some Check) (map string_bytes c.args.words.now) (search rules) ∙ c.read_check.ensures.no_command e

pub returns-in-None-clause-no_command : goal.returns-in-None-clause-no_command
returns-in-None-clause-no_command c = λ e. command_of_named None (map string_bytes c.args.words.now) (search rules)
