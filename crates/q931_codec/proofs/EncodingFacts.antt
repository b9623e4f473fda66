-- What is written element by element is the encoding, and is read as the message.
use Rattle.std.proofs.Common.{◌≡◌, ℕ, ◌<◌, Bool, true, false, List, [], ◌∷◌, ◌++◌, refl, sym, ap, ◌∙◌, arith, append_assoc, inr}
use Rattle.std.specs.List.{flat_map, AllByRecursion}
use Rattle.std.proofs.lemmas.Grind.{flat_map-append}
use Rattle.std.proofs.lemmas.List.{append-nil}
use Rattle.q931_elements.specs.Grammar.{Item, octets_of, octets_of_all, IsPresent}
use Rattle.q931_elements.proofs.Readings.{written_read}
use Rattle.q931_codec.specs.declared.kind.MessageKind.{MessageKind}
use Rattle.q931_codec.specs.declared.kind.MessageKind.TheVariants as kind
use Rattle.q931_codec.specs.MessageType.{IsKind, IsNamed}
use Rattle.q931_codec.specs.Grammar.{header, IsMessage}
use Rattle.q931_codec.specs.Outgoing.{OutgoingMessage, IsWritable, item_of_complete, item_of_row, rows, items_of, encoding, message_at_receiver}

-- written grows by one row after the other
abbrev pub Grows : List ℕ → List (ℕ × List ℕ) → List ℕ → Type 0
Grows old [] new = new ≡ old
Grows old (row ∷ rows) new = (mid : List ℕ) × (mid ≡ old ++ octets_of_all (item_of_row row)) × Grows mid rows new

grown : (old : List ℕ) (rows : List (ℕ × List ℕ)) (new : List ℕ) → Grows old rows new → new ≡ old ++ octets_of_all (flat_map item_of_row rows)
grown old [] new is = is ∙ sym (append-nil old)
grown old (row ∷ rows) new (mid, first, others) =
    grown mid rows new others
    ∙ ap (λ (w : List ℕ). w ++ octets_of_all (flat_map item_of_row rows)) first
    ∙ append_assoc old (octets_of_all (item_of_row row)) (octets_of_all (flat_map item_of_row rows))
    ∙ ap (λ (w : List ℕ). old ++ w) (sym (flat_map-append octets_of (item_of_row row) (flat_map item_of_row rows)))

pub written_is : (m : OutgoingMessage) (start after new : List ℕ) → start ≡ header m.flag m.reference m.kind → after ≡ start ++ octets_of_all (item_of_complete m.complete) → Grows after (rows m) new → new ≡ encoding m
written_is m start after new start-is after-is grows =
    grown after (rows m) new grows
    ∙ ap (λ (w : List ℕ). w ++ octets_of_all (flat_map item_of_row (rows m))) after-is
    ∙ append_assoc start (octets_of_all (item_of_complete m.complete)) (octets_of_all (flat_map item_of_row (rows m)))
    ∙ ap (λ (w : List ℕ). start ++ w) (sym (flat_map-append octets_of (item_of_complete m.complete) (flat_map item_of_row (rows m))))
    ∙ ap (λ (w : List ℕ). w ++ octets_of_all (items_of m)) start-is

-- ---- what is written is a message

named_kind : (k : MessageKind) → IsNamed k → IsKind k
named_kind kind.Alerting is = refl
named_kind kind.CallProceeding is = refl
named_kind kind.Progress is = refl
named_kind kind.Setup is = refl
named_kind kind.Connect is = refl
named_kind kind.SetupAcknowledge is = refl
named_kind kind.ConnectAcknowledge is = refl
named_kind kind.UserInformation is = refl
named_kind kind.Disconnect is = refl
named_kind kind.Restart is = refl
named_kind kind.Release is = refl
named_kind kind.RestartAcknowledge is = refl
named_kind kind.ReleaseComplete is = refl
named_kind kind.Facility is = refl
named_kind kind.Notify is = refl
named_kind kind.StatusEnquiry is = refl
named_kind kind.Information is = refl
named_kind kind.Status is = refl
named_kind (kind.Unknown octet) is = absurd is

AllByRecursion-append : (xs ys : List Item) → AllByRecursion IsPresent xs → AllByRecursion IsPresent ys → AllByRecursion IsPresent (xs ++ ys)
AllByRecursion-append [] ys p q = q
AllByRecursion-append (x ∷ xs) ys p q = (p.0, AllByRecursion-append xs ys p.1 q)

-- the codes of variable length elements
abbrev AreLow : List (ℕ × List ℕ) → Type 0
AreLow rows = AllByRecursion (λ row. row.0 < 0x80) rows

given_present : (code : ℕ) (contents : List ℕ) → code < 0x80 → AllByRecursion IsPresent (item_of_row (code, contents))
given_present code [] low = tt
given_present code (octet ∷ octets) low = (low, tt)

rows_present : (rows : List (ℕ × List ℕ)) → AreLow rows → AllByRecursion IsPresent (flat_map item_of_row rows)
rows_present [] low = tt
rows_present ((code, contents) ∷ rows) low = AllByRecursion-append (item_of_row (code, contents)) (flat_map item_of_row rows) (given_present code contents low.0) (rows_present rows low.1)

completed_present : (complete : Bool) → AllByRecursion IsPresent (item_of_complete complete)
completed_present true = ((omega arith, inr (omega arith)), tt)
completed_present false = tt

pub encoding_read : (m : OutgoingMessage) → IsWritable m → IsMessage (encoding m) (message_at_receiver m)
encoding_read m is = record {
  value = is.reference;
  kind = named_kind m.kind is.kind;
  rest = octets_of_all (items_of m);
  octets_are = refl;
  elements_are = written_read (items_of m) (AllByRecursion-append (item_of_complete m.complete) (flat_map item_of_row (rows m)) (completed_present m.complete) (rows_present (rows m) low));
}
  where
    low : AreLow (rows m)
    low = (omega arith, (omega arith, (omega arith, (omega arith, (omega arith, (omega arith, (omega arith, (omega arith, (omega arith, (omega arith, tt))))))))))
