-- A line that does not concern a data link, by its first octet.
use Rattle.std.proofs.Common.{◌≡◌, ℕ, Bool, true, false, ◌||◌, eqb, List, [], ◌∷◌, Option, Some, None, Ok, inl, inr, refl}
use Rattle.std.specs.Prelude.{not, filter, if◌then◌else◌, ◌⊎◌}
use Rattle.std.specs.List.{list_all, slice_split, onto_first}
use Rattle.trace_text.specs.declared.said.Sizes.{Sizes}
use Rattle.trace_text.specs.TraceFields.{external_line}
use Rattle.trace_text.specs.TraceWords.{words, is_octet, is_empty, is_printable}
use Rattle.linked_text.specs.declared.said.LinkKind.TheVariants as kind
use Rattle.linked_text.specs.LinkLines.{LinkSoFar, by_header, by_link_words, has_link, is_link_octet, link_kind_of, link_said, names_linked}

pub true_or_false : (b : Bool) → (b ≡ true) ⊎ (b ≡ false)
true_or_false true = inl refl
true_or_false false = inr refl

or_parts : (a b : Bool) → (a || b) ≡ false → (a ≡ false) × (b ≡ false)
or_parts false false e = (refl, refl)
or_parts false true e = absurd cc
or_parts true b e = absurd cc

-- the first field of octets that begin with another octet than the space
kept_run : (x : ℕ) (runs : List (List ℕ)) → (w : List ℕ) × (others : List (List ℕ)) × (filter (λ run. not (is_empty run)) (onto_first x runs) ≡ (x ∷ w) ∷ others)
kept_run x [] = ([], [], refl)
kept_run x (run ∷ runs) = (run, filter (λ run. not (is_empty run)) runs, refl)

pub first_field : (x : ℕ) (xs : List ℕ) → eqb x 32 ≡ false → (w : List ℕ) × (others : List (List ℕ)) × (words (x ∷ xs) ≡ (x ∷ w) ∷ others)
first_field x xs e =
    let kept = kept_run x (slice_split (is_octet 32) xs) in
    (kept.0, kept.1, rw e kept.2)

-- a line whose first field has no kind of its own
unkind : (k : LinkSoFar) (sizes : Option Sizes) (line : List ℕ) → ((external : ℕ) → by_link_words k external (words line) ≡ Ok None) → by_header k sizes line ≡ Ok None
unkind k None line h = refl
unkind k (Some sizes) line h = elim (list_all is_printable line) as (λ b. (if b then by_link_words k sizes.external (words line) else Ok None) ≡ Ok None) [ true ↦ h sizes.external | false ↦ refl ]

-- an octet that begins no line about a data link
record OthersOnly (x : ℕ) : Type 0 where
  pub space : eqb x 32 ≡ false
  pub frame : eqb x 76 ≡ false
  pub message : eqb x 77 ≡ false
  pub down : eqb x 100 ≡ false
  pub link : eqb x 108 ≡ false
  pub timer : eqb x 116 ≡ false
  pub up : eqb x 117 ≡ false

others_only : (x : ℕ) → is_link_octet x ≡ false → OthersOnly x
others_only x e =
    let six = or_parts (eqb x 32 || eqb x 76 || eqb x 77 || eqb x 100 || eqb x 108 || eqb x 116) (eqb x 117) e in
    let five = or_parts (eqb x 32 || eqb x 76 || eqb x 77 || eqb x 100 || eqb x 108) (eqb x 116) six.0 in
    let four = or_parts (eqb x 32 || eqb x 76 || eqb x 77 || eqb x 100) (eqb x 108) five.0 in
    let three = or_parts (eqb x 32 || eqb x 76 || eqb x 77) (eqb x 100) four.0 in
    let two = or_parts (eqb x 32 || eqb x 76) (eqb x 77) three.0 in
    let one = or_parts (eqb x 32) (eqb x 76) two.0 in
    record { space = one.0; frame = one.1; message = two.1; down = three.1; link = four.1; timer = five.1; up = six.1 }

pub other_kind : (x : ℕ) (w : List ℕ) → is_link_octet x ≡ false → link_kind_of (x ∷ w) ≡ kind.Other
other_kind x w e = let o = others_only x e in rw (o.frame, o.message, o.down, o.link, o.timer, o.up) refl

pub plain_line : (k : LinkSoFar) (x : ℕ) (xs : List ℕ) → is_link_octet x ≡ false → link_said k (x ∷ xs) ≡ Ok None
plain_line k x xs e =
    let field = first_field x xs (others_only x e).space in
    unkind k k.plain.sizes (x ∷ xs) (λ external. rw (field.2, other_kind x field.0 e) refl)

-- a message, where no line has a data link
pub none_named : (external : ℕ) (others : List (List ℕ)) → names_linked external [] others ≡ false
none_named external [] = refl
none_named external (word ∷ others) = elim (external_line external word) as (λ o. has_link [] o ≡ false) [ None ↦ refl | Some line ↦ refl ]

message_kind : (k : LinkSoFar) (external : ℕ) (w : List ℕ) (others : List (List ℕ)) → k.linked ≡ [] → by_link_words k external ((77 ∷ w) ∷ others) ≡ Ok None
message_kind k external [] others e = rw (e, none_named external others) refl
message_kind k external (x ∷ w) others e = refl

pub plain_message : (k : LinkSoFar) (xs : List ℕ) → k.linked ≡ [] → link_said k (77 ∷ xs) ≡ Ok None
plain_message k xs e =
    let field = first_field 77 xs refl in
    unkind k k.plain.sizes (77 ∷ xs) (λ external. rw field.2 (message_kind k external field.0 field.1 e))

-- no octets are a blank line
pub plain_blank : (k : LinkSoFar) → link_said k [] ≡ Ok None
plain_blank k = unkind k k.plain.sizes [] (λ external. refl)
