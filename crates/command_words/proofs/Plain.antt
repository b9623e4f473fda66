-- What clap's contract says of two texts behind `gen`, neither of which begins with a hyphen.
use Rattle.std.proofs.Common.{◌≡◌, ℕ, true, false, List, [], ◌∷◌, ◌&&◌, Some, None, if◌then◌else◌, option_and_then, is_some, bytes_eq, codes, ap, ap₂, ◌∙◌, refl}
use Rattle.std.specs.Option.{option_map_or}
use Rattle.clap.specs.Words.{Kinds, Rule, Text, built, first_of, matches_of}
use Rattle.clap.specs.Lexer.{long_of, long_of_rest, short_of, short_of_rest, strip_byte}
use Rattle.clap.specs.Simple.{Shape, entered}
use Rattle.clap.specs.Kinds.{or_else}
use Rattle.clap.specs.Walk.{Held, Step, Walk, value, trailing, idle, nothing_held, walk, walk_from, walked, word_met, long_or_other, short_or_plain, after_step, to_positional, arg_by_index, settled, finished}
use Rattle.clap.specs.Faults.{walk_fault, turn_fault, word_fault, step_fault, flag_word_fault, bundle_fault, settle_fault, defaults_fault, check_fault, entered_fault}
use Rattle.clap.proofs.OnLiterals.{clap_on_literals}
use Rattle.command_words.specs.Words.{begins_with_hyphen, command_of, gen_app, generation, is_faultless, takes_words, text_for}

-- the word is no flag, and does not end the options
record IsPlain (word : Text) : Type 0 where
  long : long_of word ≡ None
  short : short_of word ≡ None
  ended : bytes_eq word (45 ∷ 45 ∷ []) ≡ false

is_plain : (word : Text) → begins_with_hyphen word ≡ false → IsPlain word
is_plain [] h = record { long = refl; short = refl; ended = refl }
is_plain (x ∷ xs) h = record {
  long = ap (λ b. option_and_then long_of_rest (option_and_then (strip_byte 45) (if b then Some xs else None))) h;
  short = ap (λ b. option_and_then short_of_rest (if b then Some xs else None)) h;
  ended = ap (λ b. b && bytes_eq xs (45 ∷ [])) h;
}

-- a walk at whose place nothing waits
abbrev standing : Held → ℕ → Walk
standing h position = record { held = h; waiting = idle; position = position; is_trailing = false; stopped = None }

met_is : (c : List Rule) (position : ℕ) (word : Text) (h : Held) → IsPlain word → word_met c [] false idle position word h ≡ (h, value)
met_is c position word h p =
    ap (λ b. if b then (h, trailing position) else long_or_other c idle word (long_of word) h) p.ended
    ∙ ap (λ l. long_or_other c idle word l h) p.long
    ∙ ap (λ s. short_or_plain c idle word s h) p.short

no_fault : (s : Shape) (word : Text) (h : Held) → IsPlain word → word_fault s [] false idle word h ≡ []
no_fault s word h p =
    ap (λ b. if b then [] else flag_word_fault s.rules s.args_override_self (long_of word) word h) p.ended
    ∙ ap (λ l. flag_word_fault s.rules s.args_override_self l word h) p.long
    ∙ ap (λ o. option_map_or (λ flags. bundle_fault s.rules s.args_override_self flags h) o []) p.short

turn_is : (s : Shape) (position : ℕ) (word : Text) (h : Held) → IsPlain word
    → turn_fault s [] (standing h position) word ≡ step_fault s position h value
turn_is s position word h p =
    ap₂ (λ (f : Kinds) (m : Held × Step). or_else f (step_fault s position m.0 m.1)) (no_fault s word h p) (met_is s.rules position word h p)

walked_is : (c : List Rule) (position : ℕ) (word : Text) (h : Held) → IsPlain word
    → walked c [] (standing h position) word ≡ to_positional c (arg_by_index c position) word (standing h position) h
unfolding walked
walked_is c position word h p = ap (λ (m : Held × Step). after_step c word (standing h position) m.0 m.1) (met_is c position word h p)

abbrev top : Shape
top = (built gen_app).top

abbrev after_seed : Text → Held
after_seed seed = record { rows = []; pending = Some (codes "SEED", seed ∷ []); skip = 0 }

abbrev after_both : Text → Text → Held
after_both seed calls = record { rows = (settled top.rules (after_seed seed)).rows; pending = Some (codes "CALLS", calls ∷ []); skip = 0 }

seed_walked : (seed : Text) → IsPlain seed → walked top.rules [] (walk_from nothing_held) seed ≡ standing (after_seed seed) 2
unfolding gen_app
seed_walked seed p = walked_is top.rules 1 seed nothing_held p

both_walked : (seed calls : Text) → IsPlain seed → IsPlain calls → walk top.rules [] nothing_held (seed ∷ calls ∷ []) ≡ standing (after_both seed calls) 3
unfolding gen_app
both_walked seed calls p q = ap (λ w. walked top.rules [] w calls) (seed_walked seed p) ∙ walked_is top.rules 2 calls (after_seed seed) q

calls_fine : (seed calls : Text) → IsPlain calls → walk_fault top [] (standing (after_seed seed) 2) (calls ∷ []) ≡ []
unfolding gen_app walk_fault
calls_fine seed calls q = ap (λ f. or_else f []) (turn_is top 2 calls (after_seed seed) q)

both_fine : (seed calls : Text) → IsPlain seed → IsPlain calls → walk_fault top [] (walk_from nothing_held) (seed ∷ calls ∷ []) ≡ []
unfolding gen_app walk_fault
both_fine seed calls p q =
    ap₂ (λ (f : Kinds) (w : Walk). or_else f (walk_fault top [] w (calls ∷ []))) (turn_is top 1 seed nothing_held p) (seed_walked seed p)
    ∙ calls_fine seed calls q

-- what a level of clap's reading finds, from the end of its walk and the fault of that
abbrev at_end : Walk → Kinds → Kinds
at_end w f = or_else f (or_else (entered_fault (built gen_app) w.stopped)
    (or_else (settle_fault top.rules top.args_override_self w.held)
    (or_else (defaults_fault (settled top.rules w.held).rows top.rules)
    (check_fault top (finished top.rules w.held) (is_some (entered (built gen_app) w.stopped))))))

abbrev words : Text → Text → List Text
words seed calls = codes "gen" ∷ seed ∷ calls ∷ []

are_taken : (seed calls : Text) → IsPlain seed → IsPlain calls → takes_words gen_app (words seed calls) ≡ true
unfolding gen_app takes_words clap_on_literals
are_taken seed calls p q = ap is_faultless (ap₂ at_end (both_walked seed calls p q) (both_fine seed calls p q))

rows_are : (seed calls : Text) → IsPlain seed → IsPlain calls → matches_of gen_app (words seed calls) ≡ finished top.rules (after_both seed calls)
unfolding gen_app
rows_are seed calls p q = ap (λ w. finished top.rules w.held) (both_walked seed calls p q)

seed_is : (seed calls : Text) → IsPlain seed → IsPlain calls → text_for (codes "SEED") gen_app (words seed calls) ≡ Some seed
unfolding gen_app text_for clap_on_literals
seed_is seed calls p q = ap (first_of (codes "SEED")) (rows_are seed calls p q)

calls_are : (seed calls : Text) → IsPlain seed → IsPlain calls → text_for (codes "CALLS") gen_app (words seed calls) ≡ Some calls
unfolding gen_app text_for clap_on_literals
calls_are seed calls p q = ap (first_of (codes "CALLS")) (rows_are seed calls p q)

pub command_of_plain_texts : (seed calls : Text) → begins_with_hyphen seed ≡ false → begins_with_hyphen calls ≡ false
    → command_of (words seed calls) ≡ generation (Some seed) (Some calls)
unfolding command_of
command_of_plain_texts seed calls p q =
    let a = is_plain seed p in
    let b = is_plain calls q in
    ap (λ t. if t then generation (text_for (codes "SEED") gen_app (words seed calls)) (text_for (codes "CALLS") gen_app (words seed calls)) else None)
    (are_taken seed calls a b)
    ∙ ap₂ generation (seed_is seed calls a b) (calls_are seed calls a b)
