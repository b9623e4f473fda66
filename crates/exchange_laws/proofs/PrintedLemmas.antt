-- The lines of two runs that differ only in octets.
use Rattle.std.proofs.Common.{◌≡◌, ℕ, zero, suc, ◌+◌, ◌<◌, List, [], ◌∷◌, ◌++◌, Option, Some, None, refl, sym, ◌∙◌, ap, arith, map}
use Rattle.std.specs.Prelude.{option_map, slice_get}
use Rattle.std.specs.List.{range_with_len, flat_map, cons_option}
use Rattle.std.proofs.lemmas.List.{map-append}
use Rattle.std.proofs.lemmas.Option.{slice_get-map}
use Rattle.circuit_model.specs.declared.channel.Slot.{Slot}
use Rattle.circuit_model.specs.declared.circuit.Kind.{Kind}
use Rattle.circuit_model.specs.Hears.{hears}
use Rattle.tone_rules.specs.Tables.{table_of}
use Rattle.exchange_events.specs.declared.answer.Kept.{Kept}
use Rattle.exchange_events.specs.declared.answer.Kept.TheVariants.{Granted, Busy, Seated, NoPort, Freed, NotNailed, Sent, Frame}
use Rattle.exchange_events.specs.declared.trace.Event.{Event}
use Rattle.exchange_events.specs.declared.trace.Trace.{Trace}
use Rattle.exchange_events.specs.Kept.{kept_of}
use Rattle.exchange_events.specs.Orders.{event_at}
use Rattle.exchange_events.specs.Sizes.{Setting}
use Rattle.exchange_events.specs.Sound.{setting_of}
use Rattle.call_laws.specs.Fabrics.{world_of_run, heard_in_run}
use Rattle.call_profile.specs.Step.{next, reply, events_of}
use Rattle.call_profile.specs.World.{World, start}
use Rattle.call_profile.proofs.RunLemmas.{world-snoc}
use Rattle.report_text.specs.Report.{line_octets, part, parts, report_line}
use Rattle.report_text.specs.RunReport.{engine_octet, sent_at, event_line, event_lines, report}
use Rattle.privacy.specs.Alike.{without_octets, without_inputs, AreAlikeBesideOctets}
use Rattle.privacy.proofs.AlikeLemmas.{ends_alike, head_alike, heard_in_both, reply_alike, rest_alike}
use Rattle.exchange_laws.specs.Printed.{AgreeAfter, AgreeInAll, AgreeInFrame, AgreeOnLine, with_events, item, items, line_with, lines_with, items_text, lines_of, lines_hiding}

-- ---- a report has its items

in_parts : (octet : Slot → ℕ) (k n : ℕ) → parts k (map (line_octets octet) (range_with_len k n)) ≡ flat_map (λ line. part line (line_octets octet line)) (range_with_len k n)
in_parts octet k zero = refl
in_parts octet k (suc n) = ap (λ (rest : List ℕ). part k (line_octets octet k) ++ rest) (in_parts octet (k + 1) n)

with_parts : (rows : List (List ℕ)) (n : ℕ) (kept : Kept) → report_line rows n kept ≡ line_with (parts 0 rows) n kept
with_parts rows n (Granted a b) = refl
with_parts rows n Busy = refl
with_parts rows n (Seated a b) = refl
with_parts rows n NoPort = refl
with_parts rows n Freed = refl
with_parts rows n NotNailed = refl
with_parts rows n (Sent sends moved records) = refl
with_parts rows n (Frame k sends records) = refl

module _ (tones : Kind → List ℕ) (s : Setting) where
  of_items : (before : List Event) (e : Event) → parts 0 (sent_at (hears tones) s (world_of_run s before) e) ≡ items_text tones s 0 before e
  of_items before e =
      let w : World = world_of_run s before in
      in_parts (engine_octet (hears tones) (next s w e) w.holding.next) 0 s.dimensions.external
      ∙ ap (λ (v : World). flat_map (λ line. part line (line_octets (λ y. hears tones v.inputs v.held w.holding.next y) line)) (range_with_len 0 s.dimensions.external))
      (sym (world-snoc s (start s.dimensions) before e))

  one_line : (before : List Event) (n : ℕ) (e : Event) → event_line (hears tones) s (world_of_run s before) n e ≡ line_with (items_text tones s n before e) n (kept_of (reply s (world_of_run s before) e))
  one_line before n e =
      with_parts (sent_at (hears tones) s (world_of_run s before) e) n (kept_of (reply s (world_of_run s before) e))
      ∙ ap (λ (text : List ℕ). line_with text n (kept_of (reply s (world_of_run s before) e))) (of_items before e)

  pub all_lines : (before : List Event) (order : List ℕ) (es : List Event) → event_lines (hears tones) s (world_of_run s before) order es ≡ lines_with (items_text tones s) s before order es
  all_lines before [] es = refl
  all_lines before (n ∷ order) [] = refl
  all_lines before (n ∷ order) (e ∷ es) =
      let w : World = world_of_run s before in
      ap (λ (line : List ℕ). line ++ event_lines (hears tones) s (next s w e) order es) (one_line before n e)
      ∙ ap (λ (rest : List ℕ). line_with (items_text tones s n before e) n (kept_of (reply s w e)) ++ rest)
      (ap (λ (v : World). event_lines (hears tones) s v order es) (sym (world-snoc s (start s.dimensions) before e)) ∙ all_lines (before ++ e ∷ []) order es)

pub report_lines : (slots : ℕ) (trace : Trace) (order : List ℕ) → report hears slots trace order ≡ lines_of (table_of trace.tones) (setting_of slots trace) order (events_of trace.events order)
report_lines slots trace order = all_lines (table_of trace.tones) (setting_of slots trace) [] order (events_of trace.events order)

-- ---- the events in one order

alike_at : (es fs : List Event) (n : ℕ) → AreAlikeBesideOctets es fs → option_map without_octets (event_at es n) ≡ option_map without_octets (event_at fs n)
unfolding event_at
alike_at es fs zero alike = refl
alike_at es fs (suc n) alike = sym (slice_get-map without_octets es n) ∙ ap (λ (l : List Event). slice_get l n) alike ∙ slice_get-map without_octets fs n

map_cons : (o : Option Event) (es : List Event) → map without_octets (cons_option o es) ≡ cons_option (option_map without_octets o) (map without_octets es)
map_cons None es = refl
map_cons (Some e) es = refl

pub events_alike : (es fs : List Event) (order : List ℕ) → AreAlikeBesideOctets es fs → AreAlikeBesideOctets (events_of es order) (events_of fs order)
events_alike es fs [] alike = refl
events_alike es fs (n ∷ order) alike =
    map_cons (event_at es n) (events_of es order)
    ∙ (λ i. cons_option (alike_at es fs n alike i) (events_alike es fs order alike i))
    ∙ sym (map_cons (event_at fs n) (events_of fs order))

-- ---- the lines without their items

module _ (s : Setting) (text : ℕ → List ℕ) where
  one_more : (b c : List Event) (e f : Event) → AreAlikeBesideOctets b c → without_octets e ≡ without_octets f → AreAlikeBesideOctets (b ++ e ∷ []) (c ++ f ∷ [])
  one_more b c e f alike same = map-append without_octets b (e ∷ []) ∙ (λ i. alike i ++ same i ∷ []) ∙ sym (map-append without_octets c (f ∷ []))

  hidden : (b c : List Event) (order : List ℕ) (es fs : List Event) → AreAlikeBesideOctets b c → AreAlikeBesideOctets es fs
      → lines_with (λ n before e. text n) s b order es ≡ lines_with (λ n before e. text n) s c order fs
  hidden b c [] es fs before alike = refl
  hidden b c (n ∷ order) [] [] before alike = refl
  hidden b c (n ∷ order) [] (f ∷ fs) before alike = absurd cc
  hidden b c (n ∷ order) (e ∷ es) [] before alike = absurd cc
  hidden b c (n ∷ order) (e ∷ es) (f ∷ fs) before alike =
      let worlds : without_inputs (world_of_run s b) ≡ without_inputs (world_of_run s c) = ends_alike s (start s.dimensions) (start s.dimensions) b c refl before in
      let same : without_octets e ≡ without_octets f = head_alike s e f es fs alike in
      let said : reply s (world_of_run s b) e ≡ reply s (world_of_run s c) f = reply_alike s (world_of_run s b) (world_of_run s c) e f worlds same in
      let rest = hidden (b ++ e ∷ []) (c ++ f ∷ []) order es fs (one_more b c e f before same) (rest_alike s e f es fs alike) in
      λ i. line_with (text n) n (kept_of (said i)) ++ rest i

  pub others_alike : (es fs : List Event) (order : List ℕ) → AreAlikeBesideOctets es fs → lines_hiding text s order es ≡ lines_hiding text s order fs
  others_alike es fs order alike = hidden [] [] order es fs refl alike

-- ---- an item

same_map : (f g : ℕ → ℕ) (a n : ℕ) → ((k : ℕ) → k < a + n → f k ≡ g k) → map f (range_with_len a n) ≡ map g (range_with_len a n)
same_map f g a zero each = refl
same_map f g a (suc n) each =
    let first = each a (omega arith) in
    let rest = same_map f g (a + 1) n (λ k below. each k (omega (arith, below))) in
    λ i. first i ∷ rest i

same_octets : (f g : Slot → ℕ) (line : ℕ) → ((place : ℕ) → place < 30 → f (record { line = line; place = place }) ≡ g (record { line = line; place = place })) → line_octets f line ≡ line_octets g line
unfolding line_octets
same_octets f g line each = same_map (λ place. f (record { line = line; place = place })) (λ place. g (record { line = line; place = place })) 0 30 each

pub item_alike : (tones : Kind → List ℕ) (s : Setting) (es fs : List Event) (f line : ℕ) → AreAlikeBesideOctets es fs
    → AgreeOnLine s es fs f line → item tones s es f line ≡ item tones s fs f line
item_alike tones s es fs f line alike agree =
    ap (part line) (same_octets (heard_in_run tones s es f) (heard_in_run tones s fs f) line (λ place below. heard_in_both s es fs tones f (record { line = line; place = place }) alike (agree place below)))

-- ---- whole reports

same_flat : (f g : ℕ → List ℕ) (a n : ℕ) → ((k : ℕ) → k < a + n → f k ≡ g k) → flat_map f (range_with_len a n) ≡ flat_map g (range_with_len a n)
same_flat f g a zero each = refl
same_flat f g a (suc n) each =
    let first = each a (omega arith) in
    let rest = same_flat f g (a + 1) n (λ k below. each k (omega (arith, below))) in
    λ i. first i ++ rest i

module _ (tones : Kind → List ℕ) (s : Setting) where
  items_alike : (es fs : List Event) (f : ℕ) → AreAlikeBesideOctets es fs → AgreeInFrame s es fs f → items tones s es f ≡ items tones s fs f
  items_alike es fs f alike agree =
      same_flat (item tones s es f) (item tones s fs f) 0 s.dimensions.external (λ line below. item_alike tones s es fs f line alike (agree line (omega (arith, below))))

  same_lines : (b c : List Event) (order : List ℕ) (es fs : List Event) → AreAlikeBesideOctets b c → AreAlikeBesideOctets es fs → AgreeAfter s b c es fs
      → lines_with (items_text tones s) s b order es ≡ lines_with (items_text tones s) s c order fs
  same_lines b c [] es fs before alike agree = refl
  same_lines b c (n ∷ order) [] [] before alike agree = refl
  same_lines b c (n ∷ order) [] (f ∷ fs) before alike agree = absurd cc
  same_lines b c (n ∷ order) (e ∷ es) [] before alike agree = absurd cc
  same_lines b c (n ∷ order) (e ∷ es) (f ∷ fs) before alike agree =
      let worlds : without_inputs (world_of_run s b) ≡ without_inputs (world_of_run s c) = ends_alike s (start s.dimensions) (start s.dimensions) b c refl before in
      let same : without_octets e ≡ without_octets f = head_alike s e f es fs alike in
      let said : reply s (world_of_run s b) e ≡ reply s (world_of_run s c) f = reply_alike s (world_of_run s b) (world_of_run s c) e f worlds same in
      let more : AreAlikeBesideOctets (b ++ e ∷ []) (c ++ f ∷ []) = one_more s (λ k. []) b c e f before same in
      let k = (world_of_run s b).holding.next in
      let number : k ≡ (world_of_run s c).holding.next = ap (λ (w : World). w.holding.next) worlds in
      let text : items tones s (b ++ e ∷ []) k ≡ items tones s (c ++ f ∷ []) (world_of_run s c).holding.next = items_alike (b ++ e ∷ []) (c ++ f ∷ []) k more agree.0 ∙ ap (items tones s (c ++ f ∷ [])) number in
      let rest = same_lines (b ++ e ∷ []) (c ++ f ∷ []) order es fs more (rest_alike s e f es fs alike) agree.1 in
      λ i. line_with (text i) n (kept_of (said i)) ++ rest i

pub same_reports : (slots : ℕ) (trace : Trace) (fs : List Event) (order : List ℕ) → AreAlikeBesideOctets trace.events fs → AgreeInAll (setting_of slots trace) (events_of trace.events order) (events_of fs order)
    → report hears slots trace order ≡ report hears slots (with_events trace fs) order
same_reports slots trace fs order alike agree =
    report_lines slots trace order
    ∙ same_lines (table_of trace.tones) (setting_of slots trace) [] [] order (events_of trace.events order) (events_of fs order) refl (events_alike trace.events fs order alike) agree
    ∙ sym (report_lines slots (with_events trace fs) order)
