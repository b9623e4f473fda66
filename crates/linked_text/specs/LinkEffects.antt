-- The result of the lines of a trace with data links, and the effect of one more line. Source: this project.
use Rattle.std.specs.Prelude.{◌≡◌, ℕ, Bool, List, [], ◌∷◌, ◌++◌, map, fold, Option, Some, None, Ok}
use Rattle.std.specs.List.{filter_map, range_with_len}
use Rattle.number_plan.specs.Plan.{is_listed}
use Rattle.trace_text.specs.declared.limits.Limits.{Limits}
use Rattle.trace_text.specs.declared.said.Said.{Said}
use Rattle.trace_text.specs.TraceGrammar.{so_far}
use Rattle.linked_text.specs.declared.said.LinkHappening.{LinkHappening}
use Rattle.linked_text.specs.declared.said.LinkSaid.TheVariants.{Linked, Timed}
use Rattle.linked_text.specs.declared.timing.GivenLinkTimer.{GivenLinkTimer}
use Rattle.linked_text.specs.declared.timing.GivenLinkTimers.{GivenLinkTimers}
use Rattle.linked_text.specs.LinkLines.{Content, On_link, LinkSoFar, effect_of, plain_of, says_in_turn, with_content}
use Rattle.linked_text.specs.LinkTimers.{no_link_timers, with_link_timer}

-- the lines with a data link, in file order
abbrev pub linked_said : Content → Option ℕ
linked_said (On_link (Linked line)) = Some line
linked_said other = None

abbrev pub linked_in : List Content → List ℕ
linked_in told = filter_map linked_said told

-- for each of n external lines, whether it is one of these
abbrev pub link_row : ℕ → List ℕ → List Bool
link_row external linked = map (λ line. is_listed line linked) (range_with_len 0 external)

-- the timers of the links, in file order
abbrev pub link_timer_said : Content → Option GivenLinkTimer
link_timer_said (On_link (Timed given)) = Some given
link_timer_said other = None

abbrev pub link_timers_in : List Content → List GivenLinkTimer
link_timers_in told = filter_map link_timer_said told

abbrev pub link_timers_of : List GivenLinkTimer → GivenLinkTimers
link_timers_of given = fold with_link_timer no_link_timers given

-- the contents for a reader of traces without data links
abbrev pub plain_told : List Content → List Said
plain_told told = map plain_of told

-- the result of some lines, as far as the next line depends on it
abbrev pub in_turn : List Content → LinkSoFar
in_turn told = record { plain = so_far (plain_told told); linked = linked_in told; timers = link_timers_of (link_timers_in told) }

-- the effect of a line after these lines, and the result of the lines with it
pub record IsInTurnRead (limits : Limits) (before : LinkSoFar) (line : List ℕ) (happening : LinkHappening) (after : LinkSoFar) : Type 0 where
  pub content : Content
  pub meets : says_in_turn limits before line ≡ Ok content
  pub happens : happening ≡ effect_of content
  pub known : after ≡ with_content before content
  pub behind : (told : List Content) → before ≡ in_turn told → after ≡ in_turn (told ++ content ∷ [])
