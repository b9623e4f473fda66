-- What words ask for, once it is known which command the first word names.
use Rattle.std.proofs.Common.{◌≡◌, List, Option, None, true, false, ap, refl, sym}
use Rattle.clap.specs.Words.{Text}
use Rattle.command_words.specs.Words.{asked_as, command_of, flag_of_follow, follow_of, is_follow, name_in}
use Rattle.command_words.specs.declared.command.Name.{Name}

pub command_of_named : (name : Option Name) (words : List Text) → name ≡ name_in words → command_of words ≡ asked_as name words
unfolding command_of
command_of_named name words e = ap (λ n. asked_as n words) (sym e)

pub follow_named : (words : List Text) → is_follow words ≡ true → follow_of words ≡ flag_of_follow words
unfolding follow_of
follow_named words named = rw named refl

pub follow_unnamed : (words : List Text) → is_follow words ≡ false → follow_of words ≡ None
unfolding follow_of
follow_unnamed words other = rw other refl
