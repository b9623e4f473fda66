-- Reading line by line, up to the first line that fails.
use Rattle.std.proofs.Common.{◌≡◌, ℕ, ◌+◌, ◌<◌, ◌≤◌, List, [], ◌∷◌, ◌++◌, length, None, Result, Ok, Err, IfOk, IfErr, refl, sym, ap, ◌∙◌, subst, append_assoc, arith}
use Rattle.std.proofs.lemmas.List.{append-nil, length_push, nil_from_length}
use Rattle.trace_text.specs.declared.draft.Draft.{Draft}
use Rattle.trace_text.specs.declared.fault.LineError.{LineError}
use Rattle.trace_text.specs.declared.fault.LineError.TheVariants.{Memory, Refused}
use Rattle.trace_text.specs.declared.fault.TraceFault.{TraceFault}
use Rattle.trace_text.specs.declared.fault.TraceFault.TheVariants as trace_fault
use Rattle.trace_text.specs.declared.fault.Reason.{Reason}
use Rattle.trace_text.specs.declared.fault.Reason.TheVariants as reason
use Rattle.trace_text.specs.declared.said.Said.{Said}
use Rattle.exchange_events.specs.declared.trace.Trace.{Trace}
use Rattle.trace_text.specs.TraceWords.{lines}
use Rattle.trace_text.specs.TraceLines.{SoFar, says, trace_limits, Fails}
use Rattle.trace_text.specs.TraceGrammar.{max_bytes, so_far, EachSays, IsWhatLinesSay, IsTrace, IsRefused, At_line, At_end}
use Rattle.trace_text.specs.TraceDraft.{FailsAtEnd, FailsFirst, HasRead, Holds, at_line, IsFault}
use Rattle.trace_text.proofs.TraceHolds.{HoldsMore}

-- the lines before the rest were read, each met its checks, and the draft holds what they said
pub record Progress (bytes rest : List ℕ) (number : ℕ) (d : Draft) : Type 0 where
  pub front : List (List ℕ)
  pub told : List Said
  pub parts : lines bytes ≡ front ++ lines rest
  pub meets : EachSays [] front told
  pub held : Holds d told
  pub place : number ≡ length front
  pub room : number + length rest ≤ length bytes

-- one more line meets its checks
each_push : (before told : List Said) (front : List (List ℕ)) (line : List ℕ) (said : Said)
    → EachSays before front told → says trace_limits (so_far (before ++ told)) line ≡ Ok said → EachSays before (front ++ line ∷ []) (told ++ said ∷ [])
each_push before [] [] line said meets e = (rw (append-nil before) at e, tt)
each_push before (other ∷ told) [] line said meets e = absurd meets
each_push before [] (first ∷ front) line said meets e = absurd meets
each_push before (other ∷ told) (first ∷ front) line said meets e =
    (meets.0, each_push (before ++ other ∷ []) told front line said meets.1 (rw (sym (append_assoc before (other ∷ []) told)) at e))

pub Progress_begun : (bytes : List ℕ) (d : Draft) → Holds d [] → Progress bytes bytes 0 d
Progress_begun bytes d held = record { front = []; told = []; parts = refl; meets = tt; held = held; place = refl; room = omega arith }

pub Progress_goes_on : (bytes rest line others : List ℕ) (number : ℕ) (d n : Draft) (p : Progress bytes rest number d)
    → lines rest ≡ line ∷ lines others → length others < length rest
    → HoldsMore p.told line n → Progress bytes others (number + 1) n
Progress_goes_on bytes rest line others number d n p cut shorter step = record {
  front = p.front ++ line ∷ [];
  told = p.told ++ step.0 ∷ [];
  parts = p.parts ∙ ap (λ (ls : List (List ℕ)). p.front ++ ls) cut ∙ sym (append_assoc p.front (line ∷ []) (lines others));
  meets = each_push [] p.told p.front line step.0 p.meets step.1;
  held = step.2;
  place = let e = p.place in omega (arith, length_push p.front line, e);
  room = let r = p.room in omega (arith, r);
}

-- the next line is the first that fails
pub fails_at : (bytes rest line others : List ℕ) (number : ℕ) (d : Draft) (why : Reason) → Progress bytes rest number d
    → length bytes ≤ max_bytes → lines rest ≡ line ∷ lines others → says trace_limits d.heading line ≡ Err why → IsRefused bytes (number + 1) why
fails_at bytes rest line others number d why p few cut e =
    At_line few (record {
      before = p.front;
      line = line;
      after = lines others;
      told = p.told;
      parts = p.parts ∙ ap (λ (ls : List (List ℕ)). p.front ++ ls) cut;
      meets = p.meets;
      fails = ap (λ s. says trace_limits s line) (sym p.held.heading) ∙ e;
      place = let e = p.place in omega (arith, e);
    })

pub fault_at : (bytes rest line others : List ℕ) (number : ℕ) (d : Draft) (e : LineError) (fault : TraceFault) → Progress bytes rest number d
    → length bytes ≤ max_bytes → lines rest ≡ line ∷ lines others → Fails e (says trace_limits d.heading line) → fault ≡ at_line e (number + 1) → IsFault bytes fault
fault_at bytes rest line others number d Memory fault p few cut fails is = rw is tt
fault_at bytes rest line others number d (Refused why) fault p few cut fails is = rw is (fails_at bytes rest line others number d why p few cut fails)

-- the first line of the rest was read, or is the first that fails
pub goes_on : (bytes rest others : List ℕ) (number : ℕ) (d n : Draft) → Progress bytes rest number d → HasRead d n rest others → Progress bytes others (number + 1) n
goes_on bytes rest others number d n p r = Progress_goes_on bytes rest r.line others number d n p r.cut r.shorter (r.holds p.told p.held)

pub fails_on : (bytes rest : List ℕ) (number : ℕ) (d : Draft) (e : LineError) (fault : TraceFault) → Progress bytes rest number d
    → length bytes ≤ max_bytes → FailsFirst d rest e → fault ≡ at_line e (number + 1) → IsFault bytes fault
fails_on bytes rest number d e fault p few f is = fault_at bytes rest f.line f.others number d e fault p few f.cut f.fails is

-- every line was read
whole : (bytes rest : List ℕ) (number : ℕ) (d : Draft) (p : Progress bytes rest number d) → length rest ≡ 0 → lines bytes ≡ p.front
whole bytes rest number d p empty = p.parts ∙ ap (λ (r : List ℕ). p.front ++ lines r) (nil_from_length rest empty) ∙ append-nil p.front

pub IsTrace_read : (bytes rest : List ℕ) (number : ℕ) (d : Draft) (t : Trace) (p : Progress bytes rest number d)
    → length bytes ≤ max_bytes → length rest ≡ 0 → ((told : List Said) → Holds d told → IsWhatLinesSay t told) → IsTrace bytes t
IsTrace_read bytes rest number d t p few empty told = record {
  few = few;
  told = p.told;
  meets = subst (λ ls. EachSays [] ls p.told) (sym (whole bytes rest number d p empty)) p.meets;
  all = told p.told p.held;
}

pub lacks_header : (bytes rest : List ℕ) (number last : ℕ) (why : Reason) (d : Draft) (p : Progress bytes rest number d)
    → length bytes ≤ max_bytes → length rest ≡ 0 → d.heading.sizes ≡ None → last ≡ number + 1 → why ≡ reason.Header → IsRefused bytes last why
lacks_header bytes rest number last why d p few empty none at named =
    At_end few (record {
      told = p.told;
      meets = subst (λ ls. EachSays [] ls p.told) (sym (whole bytes rest number d p empty)) p.meets;
      none = ap (λ (s : SoFar). s.sizes) (sym p.held.heading) ∙ none;
      place = let e = p.place in omega (arith, e, ap length (whole bytes rest number d p empty));
      named = named;
    })

-- what the draft makes at the end is what was read
module _ (bytes rest : List ℕ) (number : ℕ) (d : Draft) (p : Progress bytes rest number d) (few : length bytes ≤ max_bytes) (empty : length rest ≡ 0) where
  pub ends_read : (r : Result Trace TraceFault) → IfOk r (λ t. (told : List Said) → Holds d told → IsWhatLinesSay t told) → IfOk r (λ t. IsTrace bytes t)
  ends_read (Ok t) made = IsTrace_read bytes rest number d t p few empty made
  ends_read (Err e) made = tt

  pub ends_refused : (r : Result Trace TraceFault) → IfErr r (λ e. FailsAtEnd d.heading.sizes number e) → IfErr r (λ e. IsFault bytes e)
  ends_refused (Ok t) fails = tt
  ends_refused (Err trace_fault.Memory) fails = tt
  ends_refused (Err (trace_fault.Line last why)) fails = lacks_header bytes rest number last why d p few empty fails.0 fails.1 fails.2
