use Rattle.std.proofs.Common.{rules, ap, ap₂, refl, codes, true, map, string_bytes, IfOk, List, ◌≡◌, ◌∙◌, subst}
use Rattle.clap.specs.Words.{App, FailsBy, HasMatchesOf, Text, app_of, fault_of, is_simple, is_simple_and_free, new_app, rule_of, with_rule}
use Rattle.clap.proofs.OnLiterals.{clap_on_literals}
use Rattle.command_words.specs.Words.{gen_app, positional}
use Rattle.command_words.proofs.Taken.{takes_words_ok, takes_words_err, text_is}
use Rattle.command_words.proofs.readings.gen_matches.Goals as goal

is_free : is_simple_and_free gen_app ≡ true
unfolding clap_on_literals gen_app
is_free = refl

simple : is_simple gen_app ≡ true
unfolding clap_on_literals gen_app
simple = refl

is_made : with_rule (with_rule (new_app (codes "gen")) (positional (codes "SEED"))) (positional (codes "CALLS")) ≡ gen_app
unfolding gen_app
is_made = refl

pub returns : goal.returns
returns c =
    let seed_is : rule_of c.action-seed.result ≡ positional (codes "SEED") = search rules in
    let calls_is : rule_of c.action-calls.result ≡ positional (codes "CALLS") = search rules in
    let command_is : app_of c.in_ok-command-2.command ≡ gen_app = c.in_ok-command-2.ensures.shape (search rules)
    ∙ ap₂ with_rule (c.in_ok-command.ensures.shape (search rules) ∙ ap₂ with_rule c.new-2.ensures.app seed_is) calls_is ∙ is_made in
    let words : List Text = map string_bytes c.args.words.now in
    let parse = c.try_get_matches_from in
    let fails = subst (λ (a : App). FailsBy (fault_of a words) parse.result) command_is (parse.ensures.kinds (ap is_simple_and_free command_is ∙ is_free)) in
    let found = subst (λ (a : App). IfOk parse.result (HasMatchesOf a words)) command_is parse.ensures.matches in
    record {
      taken = takes_words_ok gen_app words parse.result fails;
      refused = takes_words_err gen_app words parse.result fails;
      seed = text_is gen_app words (codes "SEED") parse.result simple found;
      calls = text_is gen_app words (codes "CALLS") parse.result simple found;
    }
