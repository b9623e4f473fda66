-- What clap's contract says of the words of one of the commands.
use Rattle.std.proofs.Common.{◌≡◌, ◌≢◌, inl, inr, true, false, List, [], ◌∷◌, Result, Ok, Err, IfOk, IfErr, ap, ◌∙◌, refl, subst}
use Rattle.clap.specs.Words.{App, FailsBy, HasMatchesOf, IsAmong, Kinds, Text, fault_of, first_value, found_of, is_simple, kind_of}
use Rattle.clap.specs.declared.error.Error.{Error}
use Rattle.clap.specs.declared.error.kind.ErrorKind.TheVariants.{OutOfMemory}
use Rattle.clap.specs.declared.parser.matches.ArgMatches.{ArgMatches}
use Rattle.clap.proofs.WalkLemmas.{first_value-rows}
use Rattle.clap.specs.Walk.{first_of}
use Rattle.command_words.specs.Words.{is_faultless, takes_words, text_for}

module _ (app : App) (words : List Text) where
  takes_words_spelled : takes_words app words ≡ is_faultless (fault_of app words)
  unfolding takes_words
  takes_words_spelled = refl

  takes_words_faulty : (kinds : Kinds) → fault_of app words ≡ kinds → (kinds ≢ []) → takes_words app words ≡ false
  takes_words_faulty [] e some = absurd (some refl)
  takes_words_faulty (k ∷ ks) e some = takes_words_spelled ∙ ap is_faultless e

  pub takes_words_ok : (r : Result ArgMatches Error) → FailsBy (fault_of app words) r → IfOk r (λ _. takes_words app words ≡ true)
  takes_words_ok (Ok m) h = takes_words_spelled ∙ ap is_faultless h
  takes_words_ok (Err e) h = tt

  pub takes_words_err : (r : Result ArgMatches Error) → FailsBy (fault_of app words) r
      → IfErr r (λ e. kind_of e ≢ OutOfMemory → takes_words app words ≡ false)
  takes_words_err (Ok m) h = tt
  takes_words_err (Err e) h = λ other. elim h [
    | inl memory ↦ absurd (other memory)
    | inr among ↦ takes_words_faulty (fault_of app words) refl (λ none. subst (IsAmong (kind_of e)) none among)
  ]

  -- the text for a name, in the matches that clap states
  pub text_is : (name : Text) (r : Result ArgMatches Error) → is_simple app ≡ true → IfOk r (HasMatchesOf app words)
      → IfOk r (λ m. first_value (found_of m) name ≡ text_for name app words)
  unfolding text_for
  text_is name (Ok m) simple h = first_value-rows (found_of m) name ∙ ap (first_of name) (h simple).0
  text_is name (Err e) simple h = tt
