-- Bytes have one reading: what the lines say, up to the first that fails.
use Rattle.std.proofs.Common.{◌≡◌, ℕ, suc, ◌+◌, ◌≤◌, ◌⊎◌, inl, inr, List, [], ◌∷◌, ◌++◌, length, Option, Some, None, Result, Ok, Err, refl, sym, ap, ◌∙◌, subst, append_assoc, arith}
use Rattle.std.proofs.lemmas.Bool.{cases_lt}
use Rattle.std.proofs.lemmas.List.{append-nil}
use Rattle.trace_text.specs.declared.fault.Reason.{Reason}
use Rattle.trace_text.specs.declared.fault.Reason.TheVariants as reason
use Rattle.trace_text.specs.declared.said.Sizes.{Sizes}
use Rattle.trace_text.specs.declared.said.Said.{Said}
use Rattle.number_plan.specs.declared.plan.Number.{Number}
use Rattle.exchange_events.specs.declared.trace.Event.{Event}
use Rattle.exchange_events.specs.declared.trace.Trace.{Trace}
use Rattle.trace_text.specs.TraceWords.{lines}
use Rattle.trace_text.specs.TraceLines.{says, trace_limits}
use Rattle.tone_rules.specs.declared.tones.Tones.{Tones}
use Rattle.call_timers.specs.declared.timers.Timers.{Timers}
use Rattle.trace_text.specs.TraceTimers.{timers_by}
use Rattle.trace_text.specs.TraceGrammar.{max_bytes, sizes_in, numbers_in, plan_of, tones_in, tones_of, timers_in, timers_of, events_in, so_far, segment_ends, changes_in, EachSays, IsWhatLinesSay, IsTrace, IsFirstFault, IsRefused, Too_long, At_line, At_end}

-- what became of a row of lines: what each says, or the place of the first that fails and why
pub data Outcome : Type 0 where
  All_say : List Said → Outcome
  Stops : ℕ → Reason → Outcome

onto : Said → Outcome → Outcome
onto said (All_say told) = All_say (said ∷ told)
onto said (Stops k why) = Stops (suc k) why

-- a line, and the outcome of the lines after it
abbrev after_line : Result Said Reason → (Said → Outcome) → Outcome
after_line (Ok said) others = others said
after_line (Err why) others = Stops 0 why

says_after : List Said → List ℕ → Result Said Reason
says_after before line = says trace_limits (so_far before) line

abbrev outcome : List Said → List (List ℕ) → Outcome
outcome before [] = All_say []
outcome before (line ∷ others) = after_line (says_after before line) (λ said. onto said (outcome (before ++ said ∷ []) others))

is_said : (before : List Said) (line : List ℕ) (r : Result Said Reason) → says trace_limits (so_far before) line ≡ r → says_after before line ≡ r
unfolding says_after
is_said before line r e = e

was_said : (before : List Said) (line : List ℕ) (r : Result Said Reason) → says_after before line ≡ r → says trace_limits (so_far before) line ≡ r
unfolding says_after
was_said before line r e = e

-- lines that each say something
outcome_all : (before : List Said) (rows : List (List ℕ)) (told : List Said) → EachSays before rows told → outcome before rows ≡ All_say told
unfolding onto
outcome_all before [] [] meets = refl
outcome_all before [] (said ∷ told) meets = absurd meets
outcome_all before (line ∷ rows) [] meets = absurd meets
outcome_all before (line ∷ rows) (said ∷ told) meets =
    rw (is_said before line (Ok said) meets.0, outcome_all (before ++ said ∷ []) rows told meets.1) refl

-- the first line that fails
outcome_stops : (before : List Said) (rows : List (List ℕ)) (told : List Said) (line : List ℕ) (after : List (List ℕ)) (why : Reason)
    → EachSays before rows told → says trace_limits (so_far (before ++ told)) line ≡ Err why → outcome before (rows ++ line ∷ after) ≡ Stops (length rows) why
unfolding onto
outcome_stops before [] [] line after why meets e = rw (is_said before line (Err why) (rw (append-nil before) at e)) refl
outcome_stops before [] (said ∷ told) line after why meets e = absurd meets
outcome_stops before (row ∷ rows) [] line after why meets e = absurd meets
outcome_stops before (row ∷ rows) (said ∷ told) line after why meets e =
    rw (is_said before row (Ok said) meets.0, outcome_stops (before ++ said ∷ []) rows told line after why meets.1 (rw (sym (append_assoc before (said ∷ []) told)) at e)) refl

-- ---- one reading

same_told : (before : List Said) (rows : List (List ℕ)) (told others : List Said) → EachSays before rows told → EachSays before rows others → told ≡ others
same_told before rows told others m n = let e : All_say told ≡ All_say others = sym (outcome_all before rows told m) ∙ outcome_all before rows others n in cc

fault_outcome : (bytes : List ℕ) (number : ℕ) (why : Reason) (f : IsFirstFault bytes number why) → outcome [] (lines bytes) ≡ Stops (length f.before) why
fault_outcome bytes number why f = ap (outcome []) f.parts ∙ outcome_stops [] f.before f.told f.line f.after why f.meets f.fails

traced : ℕ → ℕ → ℕ → List Number → Tones → Timers → List Event → List ℕ → List ℕ → Trace
traced external bridges processors plan tones timers events segments changes =
    record { external = external; bridges = bridges; processors = processors; plan = plan; tones = tones; timers = timers; events = events; segments = segments; changes = changes }

same_trace : (t u : Trace) → t.external ≡ u.external → t.bridges ≡ u.bridges → t.processors ≡ u.processors → t.plan ≡ u.plan → t.tones ≡ u.tones → t.timers ≡ u.timers
    → t.events ≡ u.events → t.segments ≡ u.segments → t.changes ≡ u.changes → t ≡ u
unfolding traced
same_trace t u a b c p k m d e g =
    ap (λ x. traced x t.bridges t.processors t.plan t.tones t.timers t.events t.segments t.changes) a
    ∙ ap (λ x. traced u.external x t.processors t.plan t.tones t.timers t.events t.segments t.changes) b
    ∙ ap (λ x. traced u.external u.bridges x t.plan t.tones t.timers t.events t.segments t.changes) c
    ∙ ap (λ x. traced u.external u.bridges u.processors x t.tones t.timers t.events t.segments t.changes) p
    ∙ ap (λ (x : Tones). traced u.external u.bridges u.processors u.plan x t.timers t.events t.segments t.changes) k
    ∙ ap (λ (x : Timers). traced u.external u.bridges u.processors u.plan u.tones x t.events t.segments t.changes) m
    ∙ ap (λ x. traced u.external u.bridges u.processors u.plan u.tones u.timers x t.segments t.changes) d
    ∙ ap (λ x. traced u.external u.bridges u.processors u.plan u.tones u.timers u.events x t.changes) e
    ∙ ap (λ x. traced u.external u.bridges u.processors u.plan u.tones u.timers u.events u.segments x) g

sizes_of : Trace → Sizes
sizes_of t = record { external = t.external; bridges = t.bridges; processors = t.processors }

told_once : (t u : Trace) (told : List Said) → IsWhatLinesSay t told → IsWhatLinesSay u told → t ≡ u
unfolding sizes_of
told_once t u told x y =
    let both : Some (sizes_of t) ≡ Some (sizes_of u) = sym x.sizes ∙ y.sizes in
    let same : sizes_of t ≡ sizes_of u = cc in
    same_trace t u (ap (λ s. s.external) same) (ap (λ s. s.bridges) same) (ap (λ s. s.processors) same) (x.plan ∙ sym y.plan) (x.tones ∙ sym y.tones) (x.timers ∙ sym y.timers) (x.events ∙ sym y.events) (x.segments ∙ sym y.segments) (x.changes ∙ sym y.changes)

pub one_trace : (bytes : List ℕ) (t u : Trace) → IsTrace bytes t → IsTrace bytes u → t ≡ u
one_trace bytes t u x y = told_once t u x.told x.all (subst (λ told. IsWhatLinesSay u told) (sym (same_told [] (lines bytes) x.told y.told x.meets y.meets)) y.all)

pub never_both : (bytes : List ℕ) (t : Trace) (number : ℕ) (why : Reason) → IsTrace bytes t → IsRefused bytes number why → ⊥
unfolding sizes_of
never_both bytes t number why x (Too_long long at named) = let few = x.few in omega arith
never_both bytes t number why x (At_line few f) =
    let e : All_say x.told ≡ Stops (length f.before) why = sym (outcome_all [] (lines bytes) x.told x.meets) ∙ fault_outcome bytes number why f in cc
never_both bytes t number why x (At_end few f) =
    let same = same_told [] (lines bytes) x.told f.told x.meets f.meets in
    let e : Some (sizes_of t) ≡ None = sym x.all.sizes ∙ ap sizes_in same ∙ f.none in cc

pub one_fault : (bytes : List ℕ) (m n : ℕ) (why other : Reason) → IsRefused bytes m why → IsRefused bytes n other → (m ≡ n) × (why ≡ other)
one_fault bytes m n why other (Too_long long at named) (Too_long long' at' named') = (at ∙ sym at', named ∙ sym named')
one_fault bytes m n why other (Too_long long at named) (At_line few f) = absurd (omega arith)
one_fault bytes m n why other (Too_long long at named) (At_end few f) = absurd (omega arith)
one_fault bytes m n why other (At_line few f) (Too_long long at named) = absurd (omega arith)
one_fault bytes m n why other (At_line few f) (At_line few' g) =
    let e : Stops (length f.before) why ≡ Stops (length g.before) other = sym (fault_outcome bytes m why f) ∙ fault_outcome bytes n other g in
    let k : length f.before ≡ length g.before = cc in
    (let p = f.place in let q = g.place in omega (arith, p, q, k), cc)
one_fault bytes m n why other (At_line few f) (At_end few' g) =
    let e : All_say g.told ≡ Stops (length f.before) why = sym (outcome_all [] (lines bytes) g.told g.meets) ∙ fault_outcome bytes m why f in absurd cc
one_fault bytes m n why other (At_end few f) (Too_long long at named) = absurd (omega arith)
one_fault bytes m n why other (At_end few f) (At_line few' g) =
    let e : All_say f.told ≡ Stops (length g.before) other = sym (outcome_all [] (lines bytes) f.told f.meets) ∙ fault_outcome bytes n other g in absurd cc
one_fault bytes m n why other (At_end few f) (At_end few' g) = (f.place ∙ sym g.place, f.named ∙ sym g.named)

-- ---- some reading

-- a row of lines with a first that fails
record Stopped (before : List Said) (rows : List (List ℕ)) : Type 0 where
  front : List (List ℕ)
  line : List ℕ
  after : List (List ℕ)
  told : List Said
  why : Reason
  parts : rows ≡ front ++ line ∷ after
  meets : EachSays before front told
  fails : says trace_limits (so_far (before ++ told)) line ≡ Err why

abbrev Walked : List Said → List (List ℕ) → Type 0
Walked before rows = ((told : List Said) × EachSays before rows told) ⊎ Stopped before rows

further : (before : List Said) (line : List ℕ) (rows : List (List ℕ)) (said : Said) → says trace_limits (so_far before) line ≡ Ok said → Walked (before ++ said ∷ []) rows → Walked before (line ∷ rows)
further before line rows said e (inl w) = inl (said ∷ w.0, (e, w.1))
further before line rows said e (inr s) = inr (record {
  front = line ∷ s.front;
  line = s.line;
  after = s.after;
  told = said ∷ s.told;
  why = s.why;
  parts = ap (λ (ls : List (List ℕ)). line ∷ ls) s.parts;
  meets = (e, s.meets);
  fails = rw (append_assoc before (said ∷ []) s.told) at s.fails;
})

one_more : (before : List Said) (line : List ℕ) (rows : List (List ℕ)) (r : Result Said Reason) → says trace_limits (so_far before) line ≡ r → ((said : Said) → Walked (before ++ said ∷ []) rows) → Walked before (line ∷ rows)
one_more before line rows (Ok said) e next = further before line rows said e (next said)
one_more before line rows (Err why) e next = inr (record {
  front = [];
  line = line;
  after = rows;
  told = [];
  why = why;
  parts = refl;
  meets = tt;
  fails = rw (append-nil before) e;
})

walk : (before : List Said) (rows : List (List ℕ)) → Walked before rows
walk before [] = inl ([], tt)
walk before (line ∷ rows) = one_more before line rows (says trace_limits (so_far before) line) refl (λ said. walk (before ++ said ∷ []) rows)

abbrev Reading : List ℕ → Type 0
Reading bytes = ((t : Trace) × IsTrace bytes t) ⊎ ((number : ℕ) × (why : Reason) × IsRefused bytes number why)

with_sizes : (bytes : List ℕ) → length bytes ≤ max_bytes → (told : List Said) → EachSays [] (lines bytes) told → (sizes : Option Sizes) → sizes_in told ≡ sizes → Reading bytes
with_sizes bytes few told meets None e = inr (length (lines bytes) + 1, reason.Header, At_end few (record { told = told; meets = meets; none = e; place = refl; named = refl }))
with_sizes bytes few told meets (Some sizes) e = inl (
  record { external = sizes.external; bridges = sizes.bridges; processors = sizes.processors; plan = plan_of (numbers_in told); tones = tones_of (tones_in told); timers = timers_by (timers_of (timers_in told)); events = events_in told; segments = segment_ends told; changes = changes_in told },
  record { few = few; told = told; meets = meets; all = record { sizes = e; plan = refl; tones = refl; timers = refl; events = refl; segments = refl; changes = refl } },
)

pub some_reading : (bytes : List ℕ) → Reading bytes
some_reading bytes =
    elim (cases_lt max_bytes (length bytes)) [
      | inl long ↦ inr (0, reason.Limit, Too_long long refl refl)
      | inr few ↦ elim (walk [] (lines bytes)) [
        | inl w ↦ with_sizes bytes few w.0 w.1 (sizes_in w.0) refl
        | inr s ↦ inr (length s.front + 1, s.why, At_line few (record { before = s.front; line = s.line; after = s.after; told = s.told; parts = s.parts; meets = s.meets; fails = s.fails; place = refl }))
      ]
    ]
