-- How a call ends, and what decides it.
use Rattle.std.proofs.Common.{rules, ◌≡◌, ◌⊎◌, ℕ, Bool, false, ◌+◌, ◌<◌, ◌≤◌, List, [], ◌++◌, length, Option, Some, None, arith, refl, sym, ◌∙◌, ap, subst, inl, inr, length-append}
use Rattle.std.proofs.lemmas.Bool.{cases_lt}
use Rattle.std.proofs.lemmas.List.{append-nil}
use Rattle.std.specs.Io.KnownBytes.{Appends, Consumes, IsAtEnd}
use Rattle.std.proofs.KnownBytes.{Appends-trans}
use Rattle.trace_text.specs.declared.fault.Reason.{Reason}
use Rattle.exchange_events.specs.declared.record.CallRecord.{CallRecord}
use Rattle.exchange_events.specs.declared.trace.Trace.{Trace}
use Rattle.trace_text.specs.TraceGrammar.{IsTrace, IsRefused, max_bytes}
use Rattle.call_processor.specs.Frames.{Carrying, Plays}
use Rattle.exchange_events.specs.Sizes.{Dimensions}
use Rattle.frame_engine.specs.declared.carrier.Carrier.{Ghosts as CarrierMembers}
use Rattle.command_words.specs.Words.{command_of}
use Rattle.command_words.specs.declared.command.Command.{Command}
use Rattle.command_words.specs.declared.command.Command.TheVariants.{Run, Generate, Check}
use Rattle.report_lines.specs.declared.listing.Listing.{Listing}
use Rattle.report_lines.specs.declared.listing.Listing.TheVariants as listing
use Rattle.run_verifier.specs.declared.ending.Ending.{Ending}
use Rattle.run_verifier.specs.declared.ending.Ending.TheVariants as ended
use Rattle.exchange_run.specs.Outcomes.{Fabric, IsIdle, IsRunWhole, IsRunWritten, Parties, Runs, SumsUp, parties}
use Rattle.linked_exchange.specs.Parties.{HandsOut, MeterStory, meter_story}
use Rattle.run_verifier.specs.Checking.{Checks, Said, Not_read, No_memory, Finds, IsChecked, IsUnchecked, Too_much, No_trace, max_checked}
use Rattle.ex_io.specs.Inputs.{IsInputWithin}
use Rattle.run_verifier.specs.Statuses.{status_of}
use Rattle.ex_io.specs.Streams.{AppendsFront, ConsumesAtMost, IsUntouched, IsWritten, Stream}
use Rattle.linked_exchange.specs.Story.{story}
use Rattle.exchange_run.specs.Summary.{summary_text}
use Rattle.run_verifier.specs.Refusals.{Says, Told_so, Untold, line_of}
use Rattle.exchange_run.specs.Commands.{max_read, max_read_by, IsCheck, IsCheckOn, IsReading, IsRun, IsGeneration, IsNoCommand, fabric_of}
use Rattle.exchange_run.specs.Endings.{IsTraceRead, IsTraceGenerated, IsFound, For_run, For_check, Reported, Summed, Found_valid, In_line, In_report, In_generation, In_summary, At_once, In_run, In_generated, Before_summary, HasEnded, IsDue, Arguments_decide, Trace_decides, Line_decides, Seed_decides, Report_decides, EndsAs}
use Rattle.trace_text.proofs.TraceReadings.{never_both}
use Rattle.run_verifier.proofs.Dues.{status_of_finds_one}
use Rattle.exchange_run.proofs.Underway.{party}

-- ---- words ask for one thing

never_run : (words : List (List ℕ)) → IsNoCommand words → IsRun words → ⊥
never_run words unasked run = let same : None ≡ Some (Run run.0) = sym unasked ∙ run.1 in cc

never_generation : (words : List (List ℕ)) (seed calls : ℕ) → IsNoCommand words → IsGeneration words seed calls → ⊥
never_generation words seed calls unasked gen = let same : None ≡ Some (Generate seed calls) = sym unasked ∙ gen in cc

never_one : (words : List (List ℕ)) (seed calls : ℕ) → IsRun words → IsGeneration words seed calls → ⊥
never_one words seed calls run gen = let same : Some (Run run.0) ≡ Some (Generate seed calls) = sym run.1 ∙ gen in cc

never_both_run : (words : List (List ℕ)) → IsRun words → IsCheck words → ⊥
never_both_run words run check = let same : Some (Run run.0) ≡ Some (Check check.0) = sym run.1 ∙ check.1 in cc

never_check : (words : List (List ℕ)) → IsNoCommand words → IsCheck words → ⊥
never_check words unasked check = let same : None ≡ Some (Check check.0) = sym unasked ∙ check.1 in cc

never_summed_check : (words : List (List ℕ)) (seed calls : ℕ) → IsCheck words → IsGeneration words seed calls → ⊥
never_summed_check words seed calls check gen = let same : Some (Check check.0) ≡ Some (Generate seed calls) = sym check.1 ∙ gen in cc

never_reading : (words : List (List ℕ)) → IsNoCommand words → IsReading words → ⊥
never_reading words unasked (inl run) = never_run words unasked run
never_reading words unasked (inr check) = never_check words unasked check

never_read_generation : (words : List (List ℕ)) (seed calls : ℕ) → IsReading words → IsGeneration words seed calls → ⊥
never_read_generation words seed calls (inl run) gen = never_one words seed calls run gen
never_read_generation words seed calls (inr check) gen = never_summed_check words seed calls check gen

same_check : (words : List (List ℕ)) (a b : Bool) → IsCheckOn words a → IsCheckOn words b → a ≡ b
same_check words a b one other = let same : Some (Check a) ≡ Some (Check b) = sym one ∙ other in cc

-- ---- bytes are a trace, or they are refused

read_known : (limit : ℕ) (known bytes : List ℕ) (new : Option (List ℕ)) → IsInputWithin limit (Some known) new bytes
    → ((length bytes ≤ limit) × (bytes ≡ known)) ⊎ ((limit < length bytes) × (limit < length known))
read_known limit known bytes None input = absurd input.front
read_known limit known bytes (Some rest) input =
    let len : length known ≡ length bytes + length rest = ap (λ (xs : List ℕ). length xs) input.front ∙ length-append bytes rest in
    elim (cases_lt limit (length bytes)) [
      | inl more ↦ inr (more, omega (arith, more, len))
      | inr few ↦ inl (few, sym (input.front ∙ ap (λ xs. bytes ++ xs) (input.whole few) ∙ append-nil bytes))
    ]

not_down : (t : Trace) (known bytes : List ℕ) (new : Option (List ℕ)) {number : ℕ} {why : Reason} → IsRefused bytes number why → IsInputWithin max_bytes (Some known) new bytes → IsTrace known t → ⊥
not_down t known bytes new {number} {why} refused input is =
    elim (read_known max_bytes known bytes new input) [
      | inl whole ↦ never_both known t number why is (rw whole.1 at refused)
      | inr long ↦ let few = is.few in absurd (omega (arith, few, long.1))
    ]

-- all that was left was read, so it is the trace
whole_trace : (known bytes : List ℕ) (old new : Option (List ℕ)) (t : Trace) → old ≡ Some known → Consumes old new bytes → IsAtEnd new → IsTrace bytes t → IsTrace known t
whole_trace known bytes old None t left front ended is = let never = rw left at front in absurd never
whole_trace known bytes old (Some rest) t left front ended is =
    let all : known ≡ bytes ++ rest = rw left at front in
    subst (λ (b : List ℕ). IsTrace b t) (sym (all ∙ ap (λ xs. bytes ++ xs) ended ∙ append-nil bytes)) is

-- where the input is known, what is found of it
module _ (known bytes : List ℕ) (left new : Option (List ℕ)) (is_left : left ≡ Some known) (input : IsInputWithin max_checked left new bytes) where
  known_now : ((length bytes ≤ max_checked) × (bytes ≡ known)) ⊎ ((max_checked < length bytes) × (max_checked < length known))
  known_now = read_known max_checked known bytes new (rw is_left at input)

  -- an input that has a trace is read whole
  checked_now : (report : List ℕ) (t : Trace) → IsChecked known t report → IsChecked bytes t report
  checked_now report t has = elim known_now [
    | inl whole ↦ subst (λ (b : List ℕ). IsChecked b t report) (sym whole.1) has
    | inr long ↦ let few = has.few in absurd (omega (arith, few, long.1))
  ]

  -- and where it has none, neither has what is read of it
  unchecked_now : (number : ℕ) (why : Reason) → IsUnchecked known number why → IsUnchecked bytes number why
  unchecked_now number why (Too_much long at named) = elim known_now [
    | inl whole ↦ subst (λ (b : List ℕ). IsUnchecked b number why) (sym whole.1) (Too_much long at named)
    | inr both ↦ Too_much both.0 at named
  ]
  unchecked_now number why (No_trace few trace report divided refused) = elim known_now [
    | inl whole ↦ subst (λ (b : List ℕ). IsUnchecked b number why) (sym whole.1) (No_trace few trace report divided refused)
    | inr long ↦ absurd (omega (arith, few, long.1))
  ]

  -- what would be found of it is found of what is read of it
  finds_now : (strict : Bool) (e : Ending) → Finds strict known e → Finds strict bytes e
  finds_now strict ended.Completed is = (is.0, is.1, checked_now is.1 is.0 is.2, is.3)
  finds_now strict (ended.Refused line reason) is = unchecked_now line reason is
  finds_now strict ended.WrongArguments is = absurd is
  finds_now strict ended.ReadFailed is = absurd is
  finds_now strict ended.WriteFailed is = absurd is
  finds_now strict ended.OutOfMemory is = absurd is
  finds_now strict (ended.Invalid line) is = (is.0, is.1, checked_now is.1 is.0 is.2, is.3)

-- ---- what is read

pub stops_by : (words : List (List ℕ)) (asked : Option Command) (old new : Option (List ℕ)) → command_of words ≡ asked → ConsumesAtMost (max_read_by asked) old new
    → ConsumesAtMost (max_read words) old new
stops_by words asked old new is stops = subst (λ (o : Option Command). ConsumesAtMost (max_read_by o) old new) (sym is) stops

pub ConsumesAtMost_none : (most : ℕ) (known : Option (List ℕ)) → ConsumesAtMost most known known
ConsumesAtMost_none most None = ([], omega arith, search rules)
ConsumesAtMost_none most (Some bytes) = ([], omega arith, search rules)

-- ---- a run ends

-- a run of a trace on the fabric that a flag chooses is one on the fabric that an equal flag chooses
pub runs_on : (x : Parties) (strict flag : Bool) (f : Fabric) (l : Listing) (t : Trace) (ending : Ending) → strict ≡ flag → f ≡ fabric_of flag t → Runs x f l t ending → Runs x (fabric_of strict t) l t ending
runs_on x strict flag f l t ending same is run =
    subst (λ (b : Bool). Runs x (fabric_of b t) l t ending) (sym same) (subst (λ (g : Fabric). Runs x g l t ending) is run)

pub runs_so : (x : Parties) (f : Fabric) (l : Listing) (t : Trace) (ending result : Ending) → result ≡ ending → Runs x f l t ending → Runs x f l t result
runs_so x f l t ending result same run = subst (λ (e : Ending). Runs x f l t e) (sym same) run

module _ (arguments : List (List ℕ)) (input : Stream) (x : Parties) where
  pub ends_so : (ending result : Ending) → result ≡ ending → HasEnded arguments input x ending → HasEnded arguments input x result
  ends_so ending result same ends = subst (λ (e : Ending). HasEnded arguments input x e) (sym same) ends

  -- memory ran out before anything was done
  pub ends_at_once : (result : Ending) → result ≡ ended.OutOfMemory → IsUntouched x.output → IsIdle x → HasEnded arguments input x result
  ends_at_once result same untouched idle = ends_so ended.OutOfMemory result same (At_once untouched idle)

  -- the run of a trace that was read ended
  pub ends_run : (strict : Bool) (trace : Trace) (ending : Ending) → IsTraceRead arguments input strict trace → Runs x (fabric_of strict trace) listing.Report trace ending → HasEnded arguments input x ending
  ends_run strict trace ended.Completed read run = Reported strict trace read run
  ends_run strict trace (ended.Refused line reason) read run = absurd run
  ends_run strict trace ended.WrongArguments read run = absurd run
  ends_run strict trace ended.ReadFailed read run = absurd run
  ends_run strict trace ended.WriteFailed read run = record { failed = run.0; writing = In_report strict trace read run.1 }
  ends_run strict trace ended.OutOfMemory read run = In_run strict trace read run
  ends_run strict trace (ended.Invalid line) read run = absurd run

  -- the run of a generated trace was cut short
  pub ends_generated : (trace : Trace) (ending : Ending) → IsTraceGenerated arguments trace → (ending ≡ ended.Completed → ⊥) → Runs x (fabric_of false trace) listing.Nothing trace ending → HasEnded arguments input x ending
  ends_generated trace ended.Completed made not run = absurd (not refl)
  ends_generated trace (ended.Refused line reason) made not run = absurd run
  ends_generated trace ended.WrongArguments made not run = absurd run
  ends_generated trace ended.ReadFailed made not run = absurd run
  ends_generated trace ended.WriteFailed made not run = record { failed = run.0; writing = In_generation trace made run.1 }
  ends_generated trace ended.OutOfMemory made not run = In_generated trace made run
  ends_generated trace (ended.Invalid line) made not run = absurd run

  -- ---- a line ends a call

  written_line : (found : Ending) → IsFound arguments input found → IsWritten x.output (line_of found) → IsIdle x → HasEnded arguments input x found
  written_line ended.Completed is text idle = Found_valid is text idle
  written_line (ended.Refused line reason) is text idle = record { found = is; text = text; idle = idle }
  written_line ended.WrongArguments is text idle = record { found = is; text = text; idle = idle }
  written_line ended.ReadFailed is text idle = absurd is
  written_line ended.WriteFailed is text idle = absurd is
  written_line ended.OutOfMemory is text idle = absurd is
  written_line (ended.Invalid line) is text idle = record { found = is; text = text; idle = idle }

  pub ends_line : (found ending : Ending) (line : List ℕ) → IsFound arguments input found → line ≡ line_of found → Says found line ending x.output → IsIdle x → HasEnded arguments input x ending
  ends_line found ending line is same (Told_so so text) idle = ends_so found ending so (written_line found is (subst (IsWritten x.output) same text) idle)
  ends_line found ending line is same (Untold so failed part) idle =
      ends_so ended.WriteFailed ending so (record { failed = failed; writing = In_line found is (subst (AppendsFront x.output.old x.output.new) same part) idle })

  found_is : (strict : Bool) (bytes : List ℕ) (found : Ending) → IsCheckOn arguments strict → IsInputWithin max_checked input.old input.new bytes → Finds strict bytes found → IsFound arguments input found
  found_is strict bytes ended.Completed asked read is =
      record { strict = strict; asked = asked; bytes = bytes; read = record { front = read.front; ended = read.whole is.2.few }; trace = is.0; report = is.1; checked = is.2; valid = is.3 }
  found_is strict bytes (ended.Refused line reason) asked read is = For_check (strict, asked) bytes read is
  found_is strict bytes ended.WrongArguments asked read is = absurd is
  found_is strict bytes ended.ReadFailed asked read is = absurd is
  found_is strict bytes ended.WriteFailed asked read is = absurd is
  found_is strict bytes ended.OutOfMemory asked read is = absurd is
  found_is strict bytes (ended.Invalid line) asked read is =
      record { strict = strict; asked = asked; bytes = bytes; read = record { front = read.front; ended = read.whole is.2.few }; trace = is.0; report = is.1; checked = is.2; invalid = is.3 }

  -- a check of an input ended
  pub ends_check : (strict : Bool) (output : Stream) (ending result : Ending) → result ≡ ending → Checks strict input output ending → IsCheckOn arguments strict → x.output ≡ output → IsIdle x
      → HasEnded arguments input x result
  ends_check strict output ending result same (Said bytes read found is said) asked at idle =
      ends_so ending result same (ends_line found ending (line_of found) (found_is strict bytes found asked read is) refl (subst (λ (s : Stream). Says found (line_of found) ending s) (sym at) said) idle)
  ends_check strict output ending result same (Not_read so failed untouched) asked at idle =
      ends_so ended.ReadFailed result (same ∙ so) (record { reading = inr (strict, asked); failed = failed; text = subst IsUntouched (sym at) untouched; idle = idle })
  ends_check strict output ending result same (No_memory so untouched) asked at idle = ends_at_once result (same ∙ so) (subst IsUntouched (sym at) untouched) idle

-- ---- a summary ends a call

-- what was written of nothing, and then a prefix of a text
front_then : (old mid new : Option (List ℕ)) (text : List ℕ) → Appends old mid [] → AppendsFront mid new text → AppendsFront old new text
front_then old mid new text none front = (front.0, front.1, Appends-trans old mid new [] _ none front.2)

module _ {E : Type 0} (plays : Plays) (sizes : E → Dimensions) (carries : Carrying E) (m : MeterStory) (order order' : List ℕ) (old mid new : Option (List ℕ)) (before middle after : ℕ) (engine engine' : Option E) (trace : Trace) where
  abbrev run_party : Parties
  run_party = party plays (HandsOut sizes carries engine) (engine ≡ None) m order old mid before middle

  abbrev sum_party : Parties
  sum_party = party plays (HandsOut sizes carries engine') (engine' ≡ None) m order' old new before after

  pub ends_summed : IsRunWritten run_party listing.Nothing (fabric_of false trace) trace → m.written (story plays listing.Nothing (fabric_of false trace).slots trace order) ≡ [] → order' ≡ order → middle ≡ before
      → (text : List ℕ) → text ≡ summary_text trace m.summary → (ending : Ending) → SumsUp (record { old = mid; new = new; before = middle; after = after }) text engine engine' ending
      → (arguments : List (List ℕ)) (input : Stream) → IsTraceGenerated arguments trace → HasEnded arguments input sum_party ending
  ends_summed run silent same steady text is ending sums arguments input made =
      let none : Appends old mid [] = rw silent at run.text in
      let whole : IsRunWhole sum_party listing.Nothing (fabric_of false trace) trace =
      record { lawful = rw same run.whole.lawful; few = rw same run.whole.few; meters = rw same run.whole.meters } in
      let go : (ending : Ending) → SumsUp (record { old = mid; new = new; before = middle; after = after }) text engine engine' ending → HasEnded arguments input sum_party ending =
      λ e. elim e as (λ f. SumsUp (record { old = mid; new = new; before = middle; after = after }) text engine engine' f → HasEnded arguments input sum_party f) [
        | ended.Completed ↦ λ s. Summed trace made whole (subst (Appends old new) is (Appends-trans old mid new [] text none s.0))
            (rw (s.1, same) run.engine)
        | ended.Refused line reason ↦ λ s. absurd s
        | ended.WrongArguments ↦ λ s. absurd s
        | ended.ReadFailed ↦ λ s. absurd s
        | ended.WriteFailed ↦ λ s. record { failed = rw (sym steady) s.0; writing = In_summary trace made whole (subst (AppendsFront old new) is (front_then old mid new text none s.1)) s.2 }
        | ended.OutOfMemory ↦ λ s. Before_summary trace made whole (Appends-trans old mid new [] [] none s.0) s.1
        | ended.Invalid line ↦ λ s. absurd s
      ] in
      go ending sums

-- ---- what the arguments and the input decide

module _ (arguments : List (List ℕ)) (input : Stream) (x : Parties) where
  -- what is found of a report
  found_due : (strict flag : Bool) (bytes known : List ℕ) (found due : Ending) → IsCheckOn arguments flag → IsCheckOn arguments strict → IsInputWithin max_checked input.old input.new bytes → input.old ≡ Some known
      → Finds flag bytes found → Finds strict known due → EndsAs due (status_of found)
  found_due strict flag bytes known found due asked is read left one other =
      let here = subst (λ (b : Bool). Finds b bytes found) (same_check arguments flag strict asked is) one in
      inl (status_of_finds_one strict bytes found due here (finds_now known bytes input.old input.new left read strict due other))

  pub ends_due : (ending due : Ending) → HasEnded arguments input x ending → IsDue arguments input.old due → EndsAs due (status_of ending)
  ends_due ended.ReadFailed due ends is = inr (inl refl)
  ends_due ended.WriteFailed due ends is = inr (inr (inl refl))
  ends_due ended.OutOfMemory due ends is = inr (inr (inr refl))
  ends_due ended.WrongArguments due ends (Arguments_decide none is) = inl (sym (ap status_of is))
  ends_due ended.WrongArguments due ends (Trace_decides run known t left trace is) = absurd (never_run arguments ends.found run)
  ends_due ended.WrongArguments due ends (Line_decides run known line why left refused is) = absurd (never_run arguments ends.found run)
  ends_due ended.WrongArguments due ends (Seed_decides seed calls made is) = absurd (never_generation arguments seed calls ends.found made)
  ends_due ended.WrongArguments due ends (Report_decides strict check known left found) = absurd (never_check arguments ends.found (strict, check))
  ends_due ended.Completed due (Reported strict trace read run) (Arguments_decide none is) = absurd (never_run arguments none (strict, read.asked))
  ends_due ended.Completed due (Reported strict trace read run) (Trace_decides asked known t left whole is) = inl (sym (ap status_of is))
  ends_due ended.Completed due (Reported strict trace read run) (Line_decides asked known line why left refused is) =
      absurd (never_both known trace line why (whole_trace known read.bytes input.old input.new trace left read.read.front read.read.ended read.is_trace) refused)
  ends_due ended.Completed due (Reported strict trace read run) (Seed_decides seed calls made is) = absurd (never_one arguments seed calls (strict, read.asked) made)
  ends_due ended.Completed due (Reported strict trace read run) (Report_decides flag check known left found) = absurd (never_both_run arguments (strict, read.asked) (flag, check))
  ends_due ended.Completed due (Summed trace made whole text engine) (Arguments_decide none is) = absurd (never_generation arguments made.seed made.calls none made.asked)
  ends_due ended.Completed due (Summed trace made whole text engine) (Trace_decides run known t left is_trace is) = absurd (never_one arguments made.seed made.calls run made.asked)
  ends_due ended.Completed due (Summed trace made whole text engine) (Line_decides run known line why left refused is) = absurd (never_one arguments made.seed made.calls run made.asked)
  ends_due ended.Completed due (Summed trace made whole text engine) (Seed_decides seed calls other is) = inl (sym (ap status_of is))
  ends_due ended.Completed due (Summed trace made whole text engine) (Report_decides strict check known left found) = absurd (never_summed_check arguments made.seed made.calls (strict, check) made.asked)
  ends_due ended.Completed due (Found_valid valid text idle) (Arguments_decide none is) = absurd (never_check arguments none (valid.strict, valid.asked))
  ends_due ended.Completed due (Found_valid valid text idle) (Trace_decides run known t left is_trace is) = absurd (never_both_run arguments run (valid.strict, valid.asked))
  ends_due ended.Completed due (Found_valid valid text idle) (Line_decides run known line why left refused is) = absurd (never_both_run arguments run (valid.strict, valid.asked))
  ends_due ended.Completed due (Found_valid valid text idle) (Seed_decides seed calls made is) = absurd (never_summed_check arguments seed calls (valid.strict, valid.asked) made)
  ends_due ended.Completed due (Found_valid valid text idle) (Report_decides strict check known left found) =
      let few = valid.checked.few in
      found_due strict valid.strict valid.bytes known ended.Completed due valid.asked check (record { front = valid.read.front; whole = λ short. valid.read.ended; few = omega (arith, few) }) left
      (valid.trace, valid.report, valid.checked, valid.valid) found
  ends_due (ended.Refused line why) due ends is = refused_due line why due ends.found is
    where
      refused_due : (line : ℕ) (why : Reason) (due : Ending) → IsFound arguments input (ended.Refused line why) → IsDue arguments input.old due → EndsAs due 1
      refused_due line why due (For_run run bytes read refused) (Arguments_decide none is) = absurd (never_run arguments none run)
      refused_due line why due (For_run run bytes read refused) (Trace_decides asked known t left trace is) = absurd (not_down t known bytes input.new refused (rw left at read) trace)
      refused_due line why due (For_run run bytes read refused) (Line_decides asked known l w left other is) = inl (sym (ap status_of is))
      refused_due line why due (For_run run bytes read refused) (Seed_decides seed calls made is) = absurd (never_one arguments seed calls run made)
      refused_due line why due (For_run run bytes read refused) (Report_decides strict check known left found) = absurd (never_both_run arguments run (strict, check))
      refused_due line why due (For_check check bytes read none) (Arguments_decide wrong is) = absurd (never_check arguments wrong check)
      refused_due line why due (For_check check bytes read none) (Trace_decides run known t left trace is) = absurd (never_both_run arguments run check)
      refused_due line why due (For_check check bytes read none) (Line_decides run known l w left other is) = absurd (never_both_run arguments run check)
      refused_due line why due (For_check check bytes read none) (Seed_decides seed calls made is) = absurd (never_summed_check arguments seed calls check made)
      refused_due line why due (For_check check bytes read none) (Report_decides strict asked known left found) =
          found_due strict check.0 bytes known (ended.Refused line why) due check.1 asked read left none found
  ends_due (ended.Invalid line) due ends (Arguments_decide none is) = absurd (never_check arguments none (ends.found.strict, ends.found.asked))
  ends_due (ended.Invalid line) due ends (Trace_decides run known t left trace is) = absurd (never_both_run arguments run (ends.found.strict, ends.found.asked))
  ends_due (ended.Invalid line) due ends (Line_decides run known l why left refused is) = absurd (never_both_run arguments run (ends.found.strict, ends.found.asked))
  ends_due (ended.Invalid line) due ends (Seed_decides seed calls made is) = absurd (never_summed_check arguments seed calls (ends.found.strict, ends.found.asked) made)
  ends_due (ended.Invalid line) due ends (Report_decides strict check known left found) =
      let is = ends.found in
      let few = is.checked.few in
      found_due strict is.strict is.bytes known (ended.Invalid line) due is.asked check (record { front = is.read.front; whole = λ short. is.read.ended; few = omega (arith, few) }) left
      (is.trace, is.report, is.checked, is.invalid) found

-- the meters of the lists that a call takes from its caller are its caller's
module _ {M E : Type 0} (stands : M → List CallRecord → Type 0) (text : M → List CallRecord → List ℕ) (carrier : CarrierMembers E) (engine : Option E) (order : List ℕ) where
  pub ends_taken : (arguments : List (List ℕ)) (input output : Stream) (ending : Ending) (taken taken_spare on spare new new_spare : List M) → taken ≡ on → taken_spare ≡ spare
      → HasEnded arguments input (parties carrier engine order (meter_story stands text taken taken_spare new new_spare) output) ending
      → HasEnded arguments input (parties carrier engine order (meter_story stands text on spare new new_spare) output) ending
  ends_taken arguments input output ending taken taken_spare on spare new new_spare same same_spare ends =
      subst (λ (l : List M). HasEnded arguments input (parties carrier engine order (meter_story stands text on l new new_spare) output) ending) same_spare
      (subst (λ (l : List M). HasEnded arguments input (parties carrier engine order (meter_story stands text l taken_spare new new_spare) output) ending) same ends)
