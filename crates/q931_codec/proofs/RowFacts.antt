-- The first element of a code among written rows.
use Rattle.std.proofs.Common.{◌≡◌, ℕ, ◌+◌, ◌%◌, ◌<◌, Bool, true, false, cond, eqb, List, [], ◌∷◌, ◌++◌, map, Option, Some, None, IsTrue, refl, ap, ◌∙◌, arith}
use Rattle.std.specs.Prelude.{IfSome, is_some, option_and_then, option_map}
use Rattle.std.specs.List.{flat_map}
use Rattle.std.proofs.lemmas.Bool.Decides.{nat_tests}
use Rattle.q931_elements.specs.InformationElement.{InformationElement, first_of}
use Rattle.q931_elements.specs.Grammar.{element_of}
use Rattle.q931_codec.specs.Outgoing.{OutgoingMessage, IsWritable, item_of_complete, item_of_row, rows, message_at_receiver, cause_contents, one_octet, channel_contents, progress_contents}
use Rattle.q931_codec.specs.declared.contents.ChannelIdentification.TheVariants.{Exclusive}
use Rattle.q931_codec.specs.Contents.{cause_of, call_state_of, channel_of, one_channel, is_bearer_channel, first_octet}
use Rattle.q931_codec.specs.Fields.{contents_given, HasFields}

abbrev ElementRows : Type 0
ElementRows = List (ℕ × List ℕ)

abbrev elements_of_rows : ElementRows → List InformationElement
elements_of_rows rows = map element_of (flat_map item_of_row rows)

-- no row has the code
abbrev lacks : ℕ → ElementRows → Bool
lacks code [] = true
lacks code (row ∷ rows) = cond (eqb row.0 code) false (lacks code rows)

-- at most one row has the code
abbrev has_once : ℕ → ElementRows → Bool
has_once code [] = true
has_once code (row ∷ rows) = cond (eqb row.0 code) (lacks code rows) (has_once code rows)

abbrev contents_at : ℕ → ElementRows → List ℕ
contents_at code [] = []
contents_at code (row ∷ rows) = cond (eqb row.0 code) row.1 (contents_at code rows)

other_first : (c code : ℕ) (contents : List ℕ) (rows : ElementRows) → eqb c code ≡ false → first_of code (elements_of_rows ((c, contents) ∷ rows)) ≡ first_of code (elements_of_rows rows)
other_first c code [] rows is = refl
other_first c code (octet ∷ octets) rows is = rw is refl

lacks_by : (b : Bool) (c code : ℕ) (contents : List ℕ) (rows : ElementRows) → eqb c code ≡ b → cond b false (lacks code rows) ≡ true → (lacks code rows ≡ true → first_of code (elements_of_rows rows) ≡ None) → first_of code (elements_of_rows ((c, contents) ∷ rows)) ≡ None
lacks_by true c code contents rows same none others = absurd cc
lacks_by false c code contents rows other none others = other_first c code contents rows other ∙ others none

lacks_first : (code : ℕ) (rows : ElementRows) → lacks code rows ≡ true → first_of code (elements_of_rows rows) ≡ None
lacks_first code [] is = refl
lacks_first code ((c, contents) ∷ rows) is = lacks_by (eqb c code) c code contents rows refl is (lacks_first code rows)

same_first : (c code : ℕ) (contents : List ℕ) (rows : ElementRows) → eqb c code ≡ true → lacks code rows ≡ true → first_of code (elements_of_rows ((c, contents) ∷ rows)) ≡ contents_given contents
same_first c code [] rows same none = lacks_first code rows none
same_first c code (octet ∷ octets) rows same none = rw same refl

once_by : (b : Bool) (c code : ℕ) (contents : List ℕ) (rows : ElementRows) → eqb c code ≡ b → cond b (lacks code rows) (has_once code rows) ≡ true → (has_once code rows ≡ true → first_of code (elements_of_rows rows) ≡ contents_given (contents_at code rows)) → first_of code (elements_of_rows ((c, contents) ∷ rows)) ≡ contents_given (cond b contents (contents_at code rows))
once_by true c code contents rows same none others = same_first c code contents rows same none
once_by false c code contents rows other once others = other_first c code contents rows other ∙ others once

once_first : (code : ℕ) (rows : ElementRows) → has_once code rows ≡ true → first_of code (elements_of_rows rows) ≡ contents_given (contents_at code rows)
once_first code [] is = refl
once_first code ((c, contents) ∷ rows) is = once_by (eqb c code) c code contents rows refl is (once_first code rows)

after_complete : (code : ℕ) (complete : Bool) (rows : ElementRows) → eqb 0xA1 code ≡ false → first_of code (map element_of (item_of_complete complete ++ flat_map item_of_row rows)) ≡ first_of code (elements_of_rows rows)
after_complete code true rows other = rw other refl
after_complete code false rows other = refl

-- the contents of a row are found by its code
row_first : (m : OutgoingMessage) (code : ℕ) → eqb 0xA1 code ≡ false → has_once code (rows m) ≡ true → first_of code (message_at_receiver m).elements ≡ contents_given (contents_at code (rows m))
row_first m code other once = after_complete code m.complete (rows m) other ∙ once_first code (rows m) once

complete_first : (complete : Bool) (rows : ElementRows) → lacks 0xA1 rows ≡ true → is_some (first_of 0xA1 (map element_of (item_of_complete complete ++ flat_map item_of_row rows))) ≡ complete
complete_first true rows none = refl
complete_first false rows none = ap is_some (lacks_first 0xA1 rows none)

-- ---- contents are read as they were meant

cause_back : (cause : Option ℕ) → IfSome cause (λ value. value < 128) → option_and_then cause_of (contents_given (cause_contents cause)) ≡ cause
cause_back None small = refl
cause_back (Some value) small = ap (λ (n : ℕ). Some n) (omega arith)

state_back : (state : Option ℕ) → IfSome state (λ s. s < 64) → option_and_then call_state_of (contents_given (one_octet state)) ≡ state
state_back None small = refl
state_back (Some state) small = ap (λ (n : ℕ). Some n) (omega arith)

restart_back : (restart : Option ℕ) → option_and_then first_octet (contents_given (one_octet restart)) ≡ restart
restart_back None = refl
restart_back (Some octet) = refl

progress_back : (progress : Bool) → is_some (contents_given (progress_contents progress)) ≡ progress
progress_back true = refl
progress_back false = refl

channel_back : (channel : Option ℕ) → IfSome channel (λ c. IsTrue (is_bearer_channel c)) → option_map channel_of (contents_given (channel_contents channel)) ≡ option_map Exclusive channel
channel_back None is = refl
channel_back (Some channel) is =
    let small : channel < 32 = grind (arith, nat_tests, is) in
    let number : (0x80 + channel) % 0x80 ≡ channel = omega (arith, small) in
    ap (λ (n : ℕ). Some (one_channel 0xA9 n)) number ∙ rw is refl

pub fields_back : (m : OutgoingMessage) → IsWritable m → HasFields (message_at_receiver m) m
fields_back m is = record {
  flag = refl;
  reference = refl;
  kind = refl;
  complete = complete_first m.complete (rows m) refl;
  bearer = row_first m 0x04 refl refl;
  cause = ap (option_and_then cause_of) (row_first m 0x08 refl refl) ∙ cause_back m.cause is.cause;
  state = ap (option_and_then call_state_of) (row_first m 0x14 refl refl) ∙ state_back m.state is.state;
  channel = ap (option_map channel_of) (row_first m 0x18 refl refl) ∙ channel_back m.channel is.channel;
  progress = ap is_some (row_first m 0x1E refl refl) ∙ progress_back m.progress;
  calling = row_first m 0x6C refl refl;
  called = row_first m 0x70 refl refl;
  restart = ap (option_and_then first_octet) (row_first m 0x79 refl refl) ∙ restart_back m.restart;
  low = row_first m 0x7C refl refl;
  high = row_first m 0x7D refl refl;
}
