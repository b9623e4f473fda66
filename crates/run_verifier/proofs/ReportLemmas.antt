-- The lines of a report, from its beginning on.
use Rattle.std.proofs.Common.{◌≡◌, ℕ, zero, suc, ◌^◌, ◌<◌, List, [], ◌∷◌, ◌++◌, length, take, codes, decimal, Option, Some, refl, sym, ap, ◌∙◌, arith, append_assoc, length-append}
use Rattle.std.specs.Prelude.{All}
use Rattle.std.specs.List.{cons_option}
use Rattle.std.proofs.lemmas.List.{append_cancel_left, append-nil}
use Rattle.std.proofs.lemmas.List.Elements.{All-head, All-tail}
use Rattle.std.proofs.lemmas.Option.{some_pair_parts}
use Rattle.exchange_events.specs.declared.answer.Kept.{Kept}
use Rattle.exchange_events.specs.declared.answer.Kept.TheVariants.{Granted, Busy, Seated, NoPort, Freed, NotNailed, Sent, Frame}
use Rattle.exchange_events.specs.declared.trace.Event.{Event}
use Rattle.exchange_events.specs.declared.trace.Trace.{Trace}
use Rattle.exchange_events.specs.Kept.{kept_of}
use Rattle.exchange_events.specs.Orders.{IsEvent, event_at}
use Rattle.exchange_events.specs.Sizes.{Setting}
use Rattle.exchange_events.specs.Sound.{IsSound}
use Rattle.exchange_events.proofs.EventNumbers.{event_there}
use Rattle.call_profile.specs.Step.{events_of, next, reply, world_after_all}
use Rattle.call_profile.specs.World.{World}
use Rattle.report_text.specs.Report.{frame_messages, messages, moves, parts, report_line}
use Rattle.report_text.specs.RunReport.{Played, event_line, event_lines, sent_at}
use Rattle.report_reader.specs.Reading.{parse_number}
use Rattle.report_reader.proofs.NumberLemmas.{number_back}

-- ---- the beginning of a line

-- a line begins with its event's number and a space
pub report_line_starts : (rows : List (List ℕ)) (n : ℕ) (told : Kept) → (tail : List ℕ) × (report_line rows n told ≡ decimal n ++ 32 ∷ tail)
report_line_starts rows n (Granted a b) = (codes "granted " ++ decimal a ++ codes " " ++ decimal b ++ codes "\n", simp append_assoc refl)
report_line_starts rows n Busy = (codes "busy\n", refl)
report_line_starts rows n (Seated a b) = (codes "seated " ++ decimal a ++ codes " " ++ decimal b ++ codes "\n", simp append_assoc refl)
report_line_starts rows n NoPort = (codes "noport\n", refl)
report_line_starts rows n Freed = (codes "freed\n", refl)
report_line_starts rows n NotNailed = (codes "notnailed\n", refl)
report_line_starts rows n (Sent sends moved records) = (codes "message" ++ moves moved ++ messages sends ++ codes "\n", simp append_assoc refl)
report_line_starts rows n (Frame k sends records) = (codes "frame " ++ decimal k ++ frame_messages sends ++ parts 0 rows ++ codes "\n", simp append_assoc refl)

-- so do octets that begin with a line
begins : (n : ℕ) (line tail rest : List ℕ) → line ≡ decimal n ++ 32 ∷ tail → line ++ rest ≡ decimal n ++ 32 ∷ (tail ++ rest)
begins n line tail rest is = ap (λ (l : List ℕ). l ++ rest) is ∙ append_assoc (decimal n) (32 ∷ tail) rest

-- and the number there is read back
pub number_read : (rows : List (List ℕ)) (n : ℕ) (told : Kept) (rest : List ℕ) → n < 2 ^ 32 → (more : List ℕ) × (parse_number (report_line rows n told ++ rest) ≡ Some (n, more))
number_read rows n told rest small =
    let start = report_line_starts rows n told in
    (32 ∷ (start.0 ++ rest), ap parse_number (begins n (report_line rows n told) start.0 rest start.1) ∙ number_back n (32 ∷ (start.0 ++ rest)) small refl)

same_number : (rows others : List (List ℕ)) (m n : ℕ) (told said : Kept) (r t : List ℕ) → m < 2 ^ 32 → n < 2 ^ 32 → report_line rows m told ++ r ≡ report_line others n said ++ t → m ≡ n
same_number rows others m n told said r t low high same =
    let one = number_read rows m told r low in
    let other = number_read others n said t high in
    (some_pair_parts m n one.0 other.0 (sym one.1 ∙ ap parse_number same ∙ other.1)).0

pub small_number : (trace : Trace) (n : ℕ) → IsSound trace → IsEvent trace n → n < 2 ^ 32
small_number trace n sound is = let most = sound.count in let high = is.1 in omega (arith, most, high)

-- ---- the lines of an order

module _ (played : Played) (s : Setting) (trace : Trace) where
  -- the lines of events from a world on
  abbrev pub lines : World → List ℕ → List ℕ
  lines w order = event_lines played s w order (events_of trace.events order)

  -- the world behind them
  abbrev pub world : World → List ℕ → World
  world w order = world_after_all s w (events_of trace.events order)

  pub line_first : (w : World) (n : ℕ) (order : List ℕ) (e : Event) → event_at trace.events n ≡ Some e → lines w (n ∷ order) ≡ event_line played s w n e ++ lines (next s w e) order
  line_first w n order e is = ap (λ (o : Option Event). event_lines played s w (n ∷ order) (cons_option o (events_of trace.events order))) is

  world_first : (w : World) (n : ℕ) (order : List ℕ) (e : Event) → event_at trace.events n ≡ Some e → world w (n ∷ order) ≡ world (next s w e) order
  world_first w n order e is = ap (λ (o : Option Event). world_after_all s w (cons_option o (events_of trace.events order))) is

  -- a line more
  pub line_last : (w : World) (order : List ℕ) (n : ℕ) (e : Event) → All (IsEvent trace) order → event_at trace.events n ≡ Some e
      → lines w (order ++ n ∷ []) ≡ lines w order ++ event_line played s (world w order) n e
  line_last w [] n e known is = line_first w n [] e is ∙ append-nil (event_line played s w n e)
  line_last w (m ∷ order) n e known is =
      let f = event_there trace m (All-head (IsEvent trace) m order known) in
      let v = next s w f.0 in
      let one = event_line played s w m f.0 in
      line_first w m (order ++ n ∷ []) f.0 f.1
      ∙ ap (λ (l : List ℕ). one ++ l) (line_last v order n e (All-tail (IsEvent trace) m order known) is)
      ∙ sym (append_assoc one (lines v order) (event_line played s (world v order) n e))
      ∙ (λ i. sym (line_first w m order f.0 f.1) i ++ event_line played s (sym (world_first w m order f.0 f.1) i) n e)

  -- the first few lines
  pub lines_front : (w : World) (order : List ℕ) (j : ℕ) → All (IsEvent trace) order → (rest : List ℕ) × (lines w order ≡ lines w (take j order) ++ rest)
  lines_front w order zero known = (lines w order, refl)
  lines_front w [] (suc j) known = ([], refl)
  lines_front w (n ∷ order) (suc j) known =
      let e = event_there trace n (All-head (IsEvent trace) n order known) in
      let v = next s w e.0 in
      let one = event_line played s w n e.0 in
      let later = lines_front v order j (All-tail (IsEvent trace) n order known) in (
        later.0,
        line_first w n order e.0 e.1 ∙ ap (λ (l : List ℕ). one ++ l) later.1 ∙ sym (append_assoc one (lines v (take j order)) later.0)
            ∙ ap (λ (l : List ℕ). l ++ later.0) (sym (line_first w n (take j order) e.0 e.1)),
      )

  -- ---- one text, one order

  record AreSameFirst (w : World) (m : ℕ) (xs : List ℕ) (n : ℕ) (ys r t : List ℕ) : Type 0 where
    number : m ≡ n
    after : World
    later : lines after xs ++ r ≡ lines after ys ++ t

  module _ (sound : IsSound trace) where
    same_first : (w : World) (m : ℕ) (xs : List ℕ) (n : ℕ) (ys r t : List ℕ) → IsEvent trace m → IsEvent trace n → lines w (m ∷ xs) ++ r ≡ lines w (n ∷ ys) ++ t → AreSameFirst w m xs n ys r t
    same_first w m xs n ys r t is also same =
        let e = event_there trace m is in
        let f = event_there trace n also in
        let one = event_line played s w m e.0 in
        let other = event_line played s w n f.0 in
        let v = next s w e.0 in
        let first : lines w (m ∷ xs) ++ r ≡ one ++ (lines v xs ++ r) = ap (λ (l : List ℕ). l ++ r) (line_first w m xs e.0 e.1) ∙ append_assoc one (lines v xs) r in
        let second : lines w (n ∷ ys) ++ t ≡ other ++ (lines (next s w f.0) ys ++ t) =
        ap (λ (l : List ℕ). l ++ t) (line_first w n ys f.0 f.1) ∙ append_assoc other (lines (next s w f.0) ys) t in
        let number : m ≡ n = same_number (sent_at played s w e.0) (sent_at played s w f.0) m n (kept_of (reply s w e.0)) (kept_of (reply s w f.0))
        (lines v xs ++ r) (lines (next s w f.0) ys ++ t) (small_number trace m sound is) (small_number trace n sound also) (sym first ∙ same ∙ second) in
        let again : lines w (n ∷ ys) ++ t ≡ one ++ (lines v ys ++ t) =
        ap (λ (k : ℕ). lines w (k ∷ ys) ++ t) (sym number) ∙ ap (λ (l : List ℕ). l ++ t) (line_first w m ys e.0 e.1) ∙ append_assoc one (lines v ys) t in
        record { number = number; after = v; later = append_cancel_left one (lines v xs ++ r) (lines v ys ++ t) (sym first ∙ same ∙ again) }

    -- texts that begin with as many lines begin with the same
    pub same_front : (w : World) (xs ys r t : List ℕ) → All (IsEvent trace) xs → All (IsEvent trace) ys → length xs ≡ length ys → lines w xs ++ r ≡ lines w ys ++ t → (xs ≡ ys) × (r ≡ t)
    same_front w [] [] r t known also count same = (refl, same)
    same_front w [] (n ∷ ys) r t known also count same = absurd (omega (arith, count))
    same_front w (m ∷ xs) [] r t known also count same = absurd (omega (arith, count))
    same_front w (m ∷ xs) (n ∷ ys) r t known also count same =
        let first = same_first w m xs n ys r t (All-head (IsEvent trace) m xs known) (All-head (IsEvent trace) n ys also) same in
        let rest = same_front first.after xs ys r t (All-tail (IsEvent trace) m xs known) (All-tail (IsEvent trace) n ys also) (omega (arith, count)) first.later in
        ((λ i. first.number i ∷ rest.0 i), rest.1)

    some_text : (w : World) (n : ℕ) (ys : List ℕ) → IsEvent trace n → [] ≡ lines w (n ∷ ys) → ⊥
    some_text w n ys is same =
        let e = event_there trace n is in
        let start = report_line_starts (sent_at played s w e.0) n (kept_of (reply s w e.0)) in
        let there : lines w (n ∷ ys) ≡ decimal n ++ 32 ∷ (start.0 ++ lines (next s w e.0) ys) =
        line_first w n ys e.0 e.1 ∙ begins n (event_line played s w n e.0) start.0 (lines (next s w e.0) ys) start.1 in
        let long = length-append (decimal n) (32 ∷ (start.0 ++ lines (next s w e.0) ys)) in
        let none = ap length (same ∙ there) in
        omega (arith, long, none)

    -- one text is of one order
    pub same_order : (w : World) (xs ys : List ℕ) → All (IsEvent trace) xs → All (IsEvent trace) ys → lines w xs ++ [] ≡ lines w ys ++ [] → xs ≡ ys
    same_order w [] [] known also same = refl
    same_order w [] (n ∷ ys) known also same = absurd (some_text w n ys (All-head (IsEvent trace) n ys also) (same ∙ append-nil (lines w (n ∷ ys))))
    same_order w (m ∷ xs) [] known also same = absurd (some_text w m xs (All-head (IsEvent trace) m xs known) (sym same ∙ append-nil (lines w (m ∷ xs))))
    same_order w (m ∷ xs) (n ∷ ys) known also same =
        let first = same_first w m xs n ys [] [] (All-head (IsEvent trace) m xs known) (All-head (IsEvent trace) n ys also) same in
        let rest = same_order first.after xs ys (All-tail (IsEvent trace) m xs known) (All-tail (IsEvent trace) n ys also) first.later in
        λ i. first.number i ∷ rest i
