-- Lines without data links.
use Rattle.std.proofs.Common.{◌≡◌, ℕ, ◌≤◌, List, [], ◌∷◌, ◌++◌, length, Option, Some, None, Ok, refl, sym, ap, ◌∙◌, subst, arith, All}
use Rattle.std.specs.Prelude.{map}
use Rattle.std.proofs.lemmas.List.{length-map}
use Rattle.std.proofs.lemmas.List.Elements.{All-cons, All-head, All-nil, All-tail}
use Rattle.circuit_model.specs.Hears.{Plays}
use Rattle.exchange_events.specs.declared.trace.Trace.{Trace}
use Rattle.exchange_events.specs.Orders.{file_order}
use Rattle.report_lines.specs.declared.listing.Listing.TheVariants.{Report}
use Rattle.trace_text.specs.declared.said.Said.{Said}
use Rattle.trace_text.specs.TraceGrammar.{IsTrace}
use Rattle.trace_text.specs.TraceLines.{SoFar, line_limits, says}
use Rattle.trace_text.specs.TraceWords.{lines, max_line_len}
use Rattle.trace_text.proofs.SoundLemmas.{passed_first}
use Rattle.linked_text.specs.declared.said.LinkSaid.{LinkSaid}
use Rattle.linked_text.specs.LinkEffects.{in_turn, linked_in, plain_told}
use Rattle.linked_text.specs.LinkLines.{Content, LinkSoFar, On_link, Plain, joins_link, link_said, plain_of, says_by}
use Rattle.linked_text.proofs.PlainLineLemmas.{read_plainly, same_plain, so_far_plain, unlinked_plain}
use Rattle.linked_exchange.specs.Told.{EachFollows, follows, story_said}
use Rattle.linked_exchange.specs.InTurn.{ArePlain, EachInTurn, IsPlain, follows_in_turn, story_by_links, story_in_turn}
use Rattle.linked_exchange.specs.Story.{story}
use Rattle.linked_exchange.proofs.FollowedLines as plainly
use Rattle.linked_exchange.proofs.FollowedStories.{followed_story, trace_followed}
use Rattle.linked_exchange.proofs.TurnLines.{follows_as, follows_turn}
use Rattle.linked_exchange.proofs.TurnSteps.{plain_more}

-- ---- lines of a trace without links follow one another in turn

map_push : (told : List Said) (said : Said) → map Plain (told ++ said ∷ []) ≡ map Plain told ++ Plain said ∷ []
map_push [] said = refl
map_push (first ∷ told) said = ap (λ (l : List Content). Plain first ∷ l) (map_push told said)

one_plain : (before : List Said) (row : List ℕ) (said : Said) → follows before row ≡ Ok said → follows_in_turn (map Plain before) row ≡ Ok (Plain said)
one_plain before row said h =
    let f = plainly.follows_says before row said h in
    let long = length-map before Plain in
    let few = f.few in
    let reads : says line_limits (in_turn (map Plain before)).plain row ≡ Ok said = ap (λ (k : SoFar). says line_limits k row) (so_far_plain before) ∙ f.says_so in
    follows_as (map Plain before) row f.short (omega (arith, long, few)) ∙ read_plainly line_limits (in_turn (map Plain before)) row said (unlinked_plain before) reads

each_plain : (before told : List Said) (rows : List (List ℕ)) → EachFollows before rows told → EachInTurn (map Plain before) rows (map Plain told)
each_plain before [] [] meets = tt
each_plain before (said ∷ told) [] meets = absurd meets
each_plain before [] (row ∷ rows) meets = absurd meets
each_plain before (said ∷ told) (row ∷ rows) meets =
    (one_plain before row said meets.0, subst (λ (l : List Content). EachInTurn l rows (map Plain told)) (map_push before said) (each_plain (before ++ said ∷ []) told rows meets.1))

pub plain_in_turn : (told : List Said) (rows : List (List ℕ)) → EachFollows [] rows told → EachInTurn [] rows (map Plain told)
plain_in_turn told rows meets = each_plain [] told rows meets

-- ---- and they are what they were

found_plain : (k : LinkSoFar) (row : List ℕ) (o : Option LinkSaid) (said : Said) → says_by line_limits k row o ≡ Ok (Plain said) → says line_limits k.plain row ≡ Ok said
found_plain k row None said h =
    let first = passed_first (says line_limits k.plain row) (λ found. Ok (Plain found)) (Plain said) h in
    let is : Plain first.0 ≡ Plain said = grind (arith, first.2) in
    let same : first.0 ≡ said = ap plain_of is in
    subst (λ (v : Said). says line_limits k.plain row ≡ Ok v) same first.1
found_plain k row (Some link) said h =
    let first = passed_first (joins_link line_limits k link) (λ joined. Ok (On_link joined)) (Plain said) h in
    let is : On_link first.0 ≡ Plain said = grind (arith, first.2) in
    absurd (grind (arith, is))

one_back : (before : List Content) (row : List ℕ) (said : Said) → follows_in_turn before row ≡ Ok (Plain said) → follows (plain_told before) row ≡ Ok said
one_back before row said h =
    let f = follows_turn before row (Plain said) h in
    let first = passed_first (link_said (in_turn before) row) (says_by line_limits (in_turn before) row) (Plain said) f.says_so in
    let long = length-map before plain_of in
    let few = f.few in
    plainly.follows_as (plain_told before) row f.short (omega (arith, long, few)) ∙ found_plain (in_turn before) row first.0 said first.2

each_back : (before told : List Content) (rows : List (List ℕ)) → ArePlain told → EachInTurn before rows told → EachFollows (plain_told before) rows (plain_told told)
each_back before [] [] plain meets = tt
each_back before (c ∷ told) [] plain meets = absurd meets
each_back before [] (row ∷ rows) plain meets = absurd meets
each_back before (Plain said ∷ told) (row ∷ rows) plain meets =
    (one_back before row said meets.0, subst (λ (l : List Said). EachFollows l rows (plain_told told)) (plain_more before (Plain said)) (each_back (before ++ Plain said ∷ []) told rows (All-tail IsPlain (Plain said) told plain) meets.1))
each_back before (On_link said ∷ told) (row ∷ rows) plain meets = absurd (All-head IsPlain (On_link said) told plain)

pub in_turn_plain : (told : List Content) (rows : List (List ℕ)) → ArePlain told → EachInTurn [] rows told → EachFollows [] rows (plain_told told)
in_turn_plain told rows plain meets = each_back [] told rows plain meets

-- ---- their story

no_links : (told : List Content) → ArePlain told → linked_in told ≡ []
no_links [] plain = refl
no_links (Plain said ∷ told) plain = no_links told (All-tail IsPlain (Plain said) told plain)
no_links (On_link said ∷ told) plain = absurd (All-head IsPlain (On_link said) told plain)

pub plain_story : (plays : Plays) (slots : ℕ) (told : List Content) → ArePlain told → story_in_turn plays slots told ≡ story_said plays slots (plain_told told)
plain_story plays slots told plain = ap (λ (ls : List ℕ). story_by_links plays slots ls told) (no_links told plain)

-- ---- lines have one row of contents

each_one : (before told other : List Content) (rows : List (List ℕ)) → EachInTurn before rows told → EachInTurn before rows other → told ≡ other
each_one before [] [] [] first second = refl
each_one before (c ∷ told) other [] first second = absurd first
each_one before [] (c ∷ other) [] first second = absurd second
each_one before [] other (row ∷ rows) first second = absurd first
each_one before (c ∷ told) [] (row ∷ rows) first second = absurd second
each_one before (c ∷ told) (d ∷ other) (row ∷ rows) first second =
    let both : Ok c ≡ Ok d = sym first.0 ∙ second.0 in
    let same : c ≡ d = grind (arith, both) in
    let rest = each_one (before ++ d ∷ []) told other rows (subst (λ v. EachInTurn (before ++ v ∷ []) rows told) same first.1) second.1 in
    (λ i. same i ∷ rest i)

pub one_in_turn : (told other : List Content) (rows : List (List ℕ)) → EachInTurn [] rows told → EachInTurn [] rows other → told ≡ other
one_in_turn told other rows = each_one [] told other rows

-- ---- a trace

are_plain : (told : List Said) → ArePlain (map Plain told)
are_plain [] = All-nil IsPlain
are_plain (said ∷ told) = All-cons IsPlain (Plain said) (map Plain told) tt (are_plain told)

pub trace_in_turn : (plays : Plays) (slots : ℕ) (bytes : List ℕ) (t : Trace) → IsTrace bytes t → All (λ line. length line ≤ max_line_len) (lines bytes)
    → (told : List Content) × ArePlain told × EachInTurn [] (lines bytes) told × (story_in_turn plays slots told ≡ story plays Report slots t (file_order (length t.events)))
trace_in_turn plays slots bytes t is short =
    let (told, meets, what) = trace_followed bytes t is short in
    let all = map Plain told in (
      all,
      are_plain told,
      plain_in_turn told (lines bytes) meets,
      plain_story plays slots all (are_plain told) ∙ (ap (story_said plays slots) (same_plain told) ∙ followed_story plays slots bytes t told is meets),
    )
