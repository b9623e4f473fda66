-- One more line of a trace with data links.
use Rattle.std.proofs.Common.{◌≡◌, ℕ, List, [], ◌∷◌, ◌++◌, Some, None, Result, Ok, Err, refl, sym, ap, ◌∙◌}
use Rattle.std.specs.Prelude.{IfErr, fold}
use Rattle.std.specs.List.{cons_option}
use Rattle.std.proofs.lemmas.List.{append-nil}
use Rattle.std.proofs.lemmas.List.Elements.{filter_map-append}
use Rattle.std.proofs.lemmas.List.Sums.{fold-append}
use Rattle.exchange_events.specs.declared.trace.Event.TheVariants.{Message}
use Rattle.trace_text.specs.declared.fault.LineError.{LineError}
use Rattle.trace_text.specs.declared.fault.LineError.TheVariants.{Memory, Refused}
use Rattle.trace_text.specs.declared.fault.Reason.{Reason}
use Rattle.trace_text.specs.declared.heading.Happening.{Happening}
use Rattle.trace_text.specs.declared.limits.Limits.{Limits}
use Rattle.trace_text.specs.declared.said.Said.{Said}
use Rattle.trace_text.specs.declared.said.Said.TheVariants.{Nothing, Happens}
use Rattle.trace_text.specs.TraceGrammar.{so_far}
use Rattle.trace_text.specs.TraceHeading.{IsLineRead}
use Rattle.trace_text.specs.TraceLines.{Fails, SoFar, says}
use Rattle.trace_text.proofs.TraceHolds.{known_behind}
use Rattle.linked_text.specs.declared.said.LinkHappening.{LinkHappening}
use Rattle.linked_text.specs.declared.said.LinkHappening.TheVariants as effect
use Rattle.linked_text.specs.declared.said.LinkSaid.{LinkSaid}
use Rattle.linked_text.specs.declared.said.LinkSaid.TheVariants.{Linked, Received, Timed}
use Rattle.linked_text.specs.LinkLines.{Content, Plain, On_link, LinkSoFar, happening_of_link, joins_link, link_said, plain_of, says_in_turn, with_content, with_link_said}
use Rattle.linked_text.specs.LinkEffects.{IsInTurnRead, in_turn, linked_in, linked_said, link_timer_said, link_timers_in, link_timers_of, plain_told}
use Rattle.linked_text.specs.LinkTimers.{no_link_timers, with_link_timer}

-- ---- the parts of the result of the lines, once there is one more

plain_more : (told : List Content) (one : Content) → plain_told (told ++ one ∷ []) ≡ plain_told told ++ plain_of one ∷ []
plain_more [] one = refl
plain_more (first ∷ told) one = ap (λ more. plain_of first ∷ more) (plain_more told one)

linked_more : (told : List Content) (one : Content) → linked_in (told ++ one ∷ []) ≡ linked_in told ++ cons_option (linked_said one) []
linked_more told one = filter_map-append linked_said told (one ∷ [])

timers_more : (told : List Content) (one : Content) → link_timers_of (link_timers_in (told ++ one ∷ [])) ≡ fold with_link_timer (link_timers_of (link_timers_in told)) (cons_option (link_timer_said one) [])
timers_more told one =
    ap link_timers_of (filter_map-append link_timer_said told (one ∷ [])) ∙ fold-append with_link_timer no_link_timers (link_timers_in told) (cons_option (link_timer_said one) [])

same_in_turn : (a b : LinkSoFar) → a.plain ≡ b.plain → a.linked ≡ b.linked → a.timers ≡ b.timers → a ≡ b
same_in_turn a b plain linked timers i = record { plain = plain i; linked = linked i; timers = timers i }

-- the heading of a trace without data links, once it read one more line
abbrev PlainBehind : SoFar → SoFar → Said → Type 0
PlainBehind before after said = (told : List Said) → before ≡ so_far told → after ≡ so_far (told ++ said ∷ [])

in_turn_more : (before after : LinkSoFar) (one : Content) → PlainBehind before.plain after.plain (plain_of one)
    → ((told : List Content) → before.linked ≡ linked_in told → after.linked ≡ linked_in told ++ cons_option (linked_said one) [])
    → ((told : List Content) → before.timers ≡ link_timers_of (link_timers_in told) → after.timers ≡ fold with_link_timer (link_timers_of (link_timers_in told)) (cons_option (link_timer_said one) []))
    → (told : List Content) → before ≡ in_turn told → after ≡ in_turn (told ++ one ∷ [])
in_turn_more before after one plain linked timers told is =
    same_in_turn after (in_turn (told ++ one ∷ []))
    (plain (plain_told told) (ap (λ (k : LinkSoFar). k.plain) is) ∙ ap so_far (sym (plain_more told one)))
    (linked told (ap (λ (k : LinkSoFar). k.linked) is) ∙ sym (linked_more told one))
    (timers told (ap (λ (k : LinkSoFar). k.timers) is) ∙ sym (timers_more told one))

-- ---- a line of a trace without data links

says_plain : (limits : Limits) (k : LinkSoFar) (line : List ℕ) (said : Said) → link_said k line ≡ Ok None → says limits k.plain line ≡ Ok said → says_in_turn limits k line ≡ Ok (Plain said)
says_plain limits k line said none e = rw (none, e) refl

plain_fails_here : (limits : Limits) (k : LinkSoFar) (line : List ℕ) (e : LineError) → link_said k line ≡ Ok None → Fails e (says limits k.plain line) → Fails e (says_in_turn limits k line)
plain_fails_here limits k line Memory none fails = tt
plain_fails_here limits k line (Refused why) none fails = rw (none, fails) refl

pub plain_fails : (limits : Limits) (k : LinkSoFar) (line : List ℕ) (r : Result LinkHappening LineError) → link_said k line ≡ Ok None
    → IfErr r (λ e. Fails e (says limits k.plain line)) → IfErr r (λ e. Fails e (says_in_turn limits k line))
plain_fails limits k line (Ok h) none fails = tt
plain_fails limits k line (Err e) none fails = plain_fails_here limits k line e none fails

pub plain_read : (limits : Limits) (before after : LinkSoFar) (line : List ℕ) (h : Happening) → link_said before line ≡ Ok None
    → after.linked ≡ before.linked → after.timers ≡ before.timers → IsLineRead limits before.plain line h after.plain → IsInTurnRead limits before line (effect.Plain h) after
plain_read limits before after line h none linked timers read = record {
  content = Plain read.said;
  meets = says_plain limits before line read.said none read.meets;
  happens = ap effect.Plain read.happens;
  known = same_in_turn after (with_content before (Plain read.said)) read.known linked timers;
  behind = in_turn_more before after (Plain read.said) read.behind
      (λ told is. linked ∙ is ∙ sym (append-nil (linked_in told)))
      (λ told is. timers ∙ is);
}

-- ---- a line that concerns a data link

says_link : (limits : Limits) (k : LinkSoFar) (line : List ℕ) (said : LinkSaid) → link_said k line ≡ Ok (Some said) → joins_link limits k said ≡ Ok said → says_in_turn limits k line ≡ Ok (On_link said)
says_link limits k line said is joins = rw (is, joins) refl

pub link_fails : (limits : Limits) (k : LinkSoFar) (line : List ℕ) (said : LinkSaid) (why : Reason) → link_said k line ≡ Ok (Some said) → joins_link limits k said ≡ Err why → says_in_turn limits k line ≡ Err why
link_fails limits k line said why is fails = rw (is, fails) refl

pub link_unread : (limits : Limits) (k : LinkSoFar) (line : List ℕ) (e : LineError) → Fails e (link_said k line) → Fails e (says_in_turn limits k line)
link_unread limits k line Memory fails = tt
link_unread limits k line (Refused why) fails = rw fails refl

link_behind : (before after : LinkSoFar) (said : LinkSaid) → after ≡ with_link_said before said → (told : List Content) → before ≡ in_turn told → after ≡ in_turn (told ++ On_link said ∷ [])
link_behind before after (Linked line) known =
    in_turn_more before after (On_link (Linked line))
    (known_behind before.plain after.plain Nothing tt (ap (λ (k : LinkSoFar). k.plain) known))
    (λ told is. ap (λ (k : LinkSoFar). k.linked) known ∙ ap (λ lines. lines ++ line ∷ []) is)
    (λ told is. ap (λ (k : LinkSoFar). k.timers) known ∙ is)
link_behind before after (Received line octets) known =
    in_turn_more before after (On_link (Received line octets))
    (known_behind before.plain after.plain (Happens (Message line octets)) tt (ap (λ (k : LinkSoFar). k.plain) known))
    (λ told is. ap (λ (k : LinkSoFar). k.linked) known ∙ is ∙ sym (append-nil (linked_in told)))
    (λ told is. ap (λ (k : LinkSoFar). k.timers) known ∙ is)
link_behind before after (Timed given) known =
    in_turn_more before after (On_link (Timed given))
    (known_behind before.plain after.plain Nothing tt (ap (λ (k : LinkSoFar). k.plain) known))
    (λ told is. ap (λ (k : LinkSoFar). k.linked) known ∙ is ∙ sym (append-nil (linked_in told)))
    (λ told is. ap (λ (k : LinkSoFar). k.timers) known ∙ ap (λ timers. with_link_timer timers given) is)

pub link_read : (limits : Limits) (before after : LinkSoFar) (line : List ℕ) (said : LinkSaid) (h : LinkHappening) → link_said before line ≡ Ok (Some said)
    → joins_link limits before said ≡ Ok said → h ≡ happening_of_link said → after ≡ with_link_said before said → IsInTurnRead limits before line h after
link_read limits before after line said h is joins happens known = record {
  content = On_link said;
  meets = says_link limits before line said is joins;
  happens = happens;
  known = known;
  behind = link_behind before after said known;
}
