-- What the code reads of a message's octets is what the definitions read of them.
use Rattle.std.proofs.Common.{◌≡◌, ℕ, false, List, length, Option, Some, None, refl, sym, ◌∙◌, ap, subst, arith}
use Rattle.std.specs.Prelude.{Result, Ok, Err, IfSome, MatchOption, drop, is_ok}
use Rattle.number_plan.specs.declared.plan.Number.{Number}
use Rattle.q931_elements.specs.Reading.{elements_of}
use Rattle.q931_elements.proofs.Readings.{reading_is}
use Rattle.q931_codec.specs.declared.message.Discard.{Discard}
use Rattle.q931_codec.specs.declared.message.Message.{Message}
use Rattle.q931_codec.specs.Grammar.{IsMessage}
use Rattle.q931_codec.specs.Reading.{reading}
use Rattle.call_profile.specs.Calls.{Request, request_of, request_read}
use Rattle.call_profile.specs.Legs.{Legs}
use Rattle.call_control.specs.declared.preparsing.DialledNumber.{DialledNumber}
use Rattle.call_control.specs.declared.preparsing.PreparsedMessage.{PreparsedMessage}
use Rattle.call_control.specs.Ahead.{HasDialled, IsDialled, IsReadAhead, IsReceived, is_message, message_ahead}

pub request_of_taken : (legs now : Legs) (line : ℕ) (octets : List ℕ) (r : Result Message Discard) (P : Request → Type 0) → legs ≡ now → r ≡ reading octets
    → P (request_read legs line r) → P (request_of now line octets)
request_of_taken legs now line octets r P same read p =
    subst (λ (ls : Legs). P (request_of ls line octets)) same (subst (λ (q : Result Message Discard). P (request_read legs line q)) read p)

-- ---- a message that is read

-- what was read, if octets are a message
pub message_received : (octets : List ℕ) (o : Option Message) (m : Message) → o ≡ Some m
    → MatchOption o (is_message octets ≡ false) (IsReceived octets) → IsReceived octets m
message_received octets o m is known = subst (λ (p : Option Message). MatchOption p (is_message octets ≡ false) (IsReceived octets)) is known

refused : (r : Result Message Discard) → is_ok r ≡ false → (why : Discard) × (r ≡ Err why)
refused (Ok m) e = absurd cc
refused (Err why) e = (why, refl)

pub not_read : (octets : List ℕ) (o : Option Message) → o ≡ None
    → MatchOption o (is_message octets ≡ false) (IsReceived octets) → (why : Discard) × (reading octets ≡ Err why)
not_read octets o is known =
    refused (reading octets) (subst (λ (p : Option Message). MatchOption p (is_message octets ≡ false) (IsReceived octets)) is known)

-- ---- a message that is read ahead

pub read_before : (plan : List Number) (octets : List ℕ) (ahead : Option PreparsedMessage) (known : PreparsedMessage) → ahead ≡ Some known
    → IfSome ahead (IsReadAhead plan octets) → IsReadAhead plan octets known
read_before plan octets ahead known is reads = subst (λ (o : Option PreparsedMessage). IfSome o (IsReadAhead plan octets)) is reads

same_message : (r : Result Message Discard) (m n : Message) → r ≡ Ok m → r ≡ Ok n → m ≡ n
same_message r m n is same = cc

pub dialled_ahead : (plan : List Number) (octets : List ℕ) (ahead : Option PreparsedMessage) (m : Message) → reading octets ≡ Ok m
    → IfSome ahead (IsReadAhead plan octets) → IfSome ahead (HasDialled plan m)
dialled_ahead plan octets None m read known = known
dialled_ahead plan octets (Some known) m read is =
    subst (λ (n : Message). IfSome known.number (IsDialled plan n)) (same_message (reading octets) (message_ahead known octets) m is.read read) is.dials

-- its elements are read from the octets behind its header
elements_behind : (octets : List ℕ) (m : Message) → IsMessage octets m → m.elements ≡ elements_of (drop 5 octets)
elements_behind octets m is = reading_is is.rest m.elements is.elements_are ∙ sym (ap (λ (os : List ℕ). elements_of (drop 5 os)) is.octets_are)

pub read_whole : (plan : List Number) (octets : List ℕ) (m : Message) (number : Option DialledNumber)
    → IsMessage octets m → reading octets ≡ Ok m → IfSome number (IsDialled plan m)
    → IsReadAhead plan octets (record { flag = m.flag; reference = m.reference; kind = m.kind; number = number })
read_whole plan octets m number is reads dials =
    let known : PreparsedMessage = record { flag = m.flag; reference = m.reference; kind = m.kind; number = number } in
    let behind = elements_behind octets m is in
    let same : m ≡ message_ahead known octets = λ i. record { flag = m.flag; reference = m.reference; kind = m.kind; elements = behind i } in
    let size = ap length is.octets_are in
    record {
      long = omega (arith, size);
      bounded = is.value;
      read = reads ∙ ap (λ (x : Message). Ok x) same;
      dials = subst (λ (x : Message). IfSome number (IsDialled plan x)) same dials;
    }
