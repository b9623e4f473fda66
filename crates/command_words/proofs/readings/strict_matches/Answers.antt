use Rattle.std.proofs.Common.{rules, ap, ap₂, refl, codes, true, map, string_bytes, IfOk, List, ◌≡◌, ◌∙◌, subst}
use Rattle.clap.specs.Words.{App, FailsBy, HasMatchesOf, Text, app_of, fault_of, is_simple, is_simple_and_free, new_app, rule_of, with_rule}
use Rattle.clap.proofs.OnLiterals.{clap_on_literals}
use Rattle.command_words.specs.Words.{flag, strict_app}
use Rattle.command_words.proofs.Taken.{takes_words_ok, takes_words_err, text_is}
use Rattle.command_words.proofs.readings.strict_matches.Goals as goal

is_free : (name : Text) → is_simple_and_free (strict_app name) ≡ true
unfolding clap_on_literals strict_app
is_free name = refl

simple : (name : Text) → is_simple (strict_app name) ≡ true
unfolding clap_on_literals strict_app
simple name = refl

is_made : (name : Text) → with_rule (new_app name) (flag (codes "strict")) ≡ strict_app name
unfolding strict_app
is_made name = refl

pub returns : goal.returns
returns c =
    let name : Text = c.args.name.now in
    let strict_is : rule_of c.action-strict.result ≡ flag (codes "strict") = search rules in
    let command_is : app_of c.in_ok-command.command ≡ strict_app name = c.in_ok-command.ensures.shape (search rules) ∙ ap₂ with_rule c.new-2.ensures.app strict_is ∙ is_made name in
    let words : List Text = map string_bytes c.args.words.now in
    let parse = c.try_get_matches_from in
    let fails = subst (λ (a : App). FailsBy (fault_of a words) parse.result) command_is (parse.ensures.kinds (ap is_simple_and_free command_is ∙ is_free name)) in
    let found = subst (λ (a : App). IfOk parse.result (HasMatchesOf a words)) command_is parse.ensures.matches in
    record {
      taken = takes_words_ok (strict_app name) words parse.result fails;
      refused = takes_words_err (strict_app name) words parse.result fails;
      strict = text_is (strict_app name) words (codes "strict") parse.result (simple name) found;
    }
