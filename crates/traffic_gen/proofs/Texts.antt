-- Texts of lines, piece by piece.
use Rattle.std.proofs.Common.{◌≡◌, ℕ, zero, suc, ◌+◌, List, [], ◌∷◌, ◌++◌, Option, Result, Ok, Err, refl, sym, ◌∙◌, arith}
use Rattle.std.specs.Prelude.{codes, OnOk}
use Rattle.std.specs.List.{range_with_len}
use Rattle.std.proofs.lemmas.List.{append_assoc, append-nil}
use Rattle.std.proofs.lemmas.List.Concat.{flat_map-append}
use Rattle.traffic_gen.specs.Lines.{Line, line_text, text}
use Rattle.traffic_gen.specs.Draws.{state_after}
use Rattle.traffic_gen.specs.declared.call.Call.{Call}
use Rattle.traffic_gen.specs.Calls.{call_drawn, call_lines, calls_drawn, frame_drawn, frames_drawn, state_after_call, state_after_frame, state_after_frames}

pub text_nil : text [] ≡ []
unfolding text
text_nil = refl

pub text-append : (xs ys : List Line) → text (xs ++ ys) ≡ text xs ++ text ys
unfolding text
text-append xs ys = flat_map-append (λ line. line_text line ++ codes "\n") xs ys

pub text_none : (before : List ℕ) → before ≡ before ++ text []
text_none before = rw text_nil (sym (append-nil before))

-- lines are appended after others
pub text_on : (before middle after : List ℕ) (xs ys : List Line) → middle ≡ before ++ text xs → after ≡ middle ++ text ys → after ≡ before ++ text (xs ++ ys)
text_on before middle after xs ys first second =
    rw (text-append, ← append_assoc, ← first) second

-- the first of some lines are appended
pub text_step : (before after : List ℕ) (first rest : List Line) → after ≡ before ++ text first → after ++ text rest ≡ before ++ text (first ++ rest)
text_step before after first rest written =
    rw (text-append, ← append_assoc, ← written) refl

-- none are left
pub text_end : (out : List ℕ) → out ++ text [] ≡ out
text_end out = rw text_nil (append-nil out)

-- numbers that are counted up
pub range_more : (from count less : ℕ) → less + 1 ≡ count → range_with_len from count ≡ from ∷ range_with_len (from + 1) less
range_more from zero less e = absurd (omega arith)
range_more from (suc count) less e = let same : count ≡ less = omega arith in rw same refl

pub frames_more : (caller : ℕ) (far : Option ℕ) (count less state : ℕ) → less + 1 ≡ count
    → frames_drawn caller far count state ≡ frame_drawn caller far state ∷ frames_drawn caller far less (state_after_frame far state)
frames_more caller far zero less state e = absurd (omega arith)
frames_more caller far (suc count) less state e = let same : count ≡ less = omega arith in rw same refl

pub frames_state_more : (far : Option ℕ) (count less state : ℕ) → less + 1 ≡ count
    → state_after_frames far count state ≡ state_after_frames far less (state_after_frame far state)
frames_state_more far zero less state e = absurd (omega arith)
frames_state_more far (suc count) less state e = let same : count ≡ less = omega arith in rw same refl

pub calls_more : (count less state : ℕ) → less + 1 ≡ count
    → calls_drawn count state ≡ call_lines (call_drawn state) (state_after 3 state) ++ calls_drawn less (state_after_call (call_drawn state) (state_after 3 state))
calls_more zero less state e = absurd (omega arith)
calls_more (suc count) less state e = let same : count ≡ less = omega arith in rw same refl

pub text_on_ok : {E : Type 0} (r : Result (Unit {0}) E) (before middle after : List ℕ) (xs ys : List Line) → middle ≡ before ++ text xs → OnOk r (after ≡ middle ++ text ys) → OnOk r (after ≡ before ++ text (xs ++ ys))
text_on_ok (Ok _) before middle after xs ys first second = text_on before middle after xs ys first second
text_on_ok (Err _) before middle after xs ys first second = tt

-- the last of some lines are appended
pub text_last : {E : Type 0} (r : Result (Unit {0}) E) (whole before after : List ℕ) (last : List Line) → OnOk r (after ≡ before ++ text last) → before ++ text last ≡ whole → OnOk r (after ≡ whole)
text_last (Ok _) whole before after last written same = written ∙ same
text_last (Err _) whole before after last written same = tt

pub range_none : (from count : ℕ) → count ≡ 0 → range_with_len from count ≡ []
range_none from count e = rw e refl

-- one more frame of a call is appended
pub frames_step : (caller : ℕ) (far : Option ℕ) (count less state next : ℕ) (before after : List ℕ) → less + 1 ≡ count → next ≡ state_after_frame far state
    → after ≡ before ++ text (frame_drawn caller far state ∷ [])
    → after ++ text (frames_drawn caller far less next) ≡ before ++ text (frames_drawn caller far count state)
frames_step caller far count less state next before after one stepped written =
    rw (frames_more caller far count less state one, stepped) (text_step before after (frame_drawn caller far state ∷ []) (frames_drawn caller far less (state_after_frame far state)) written)

-- one more call is appended
pub calls_step : (count less state middle next : ℕ) (call : Call) (before after : List ℕ) → less + 1 ≡ count → call ≡ call_drawn state → middle ≡ state_after 3 state
    → next ≡ state_after_call call middle → after ≡ before ++ text (call_lines call middle)
    → after ++ text (calls_drawn less next) ≡ before ++ text (calls_drawn count state)
calls_step count less state middle next call before after one called passed stepped written =
    rw (calls_more count less state one, ← called, ← passed, stepped) (text_step before after (call_lines call middle) (calls_drawn less (state_after_call call middle)) written)

pub frames_state_step : (far : Option ℕ) (count less state next : ℕ) → less + 1 ≡ count → next ≡ state_after_frame far state
    → state_after_frames far less next ≡ state_after_frames far count state
frames_state_step far count less state next one stepped =
    rw (frames_state_more far count less state one, stepped) refl

-- no frame is left
pub frames_end : (caller : ℕ) (far : Option ℕ) (count state : ℕ) (out : List ℕ) → count ≡ 0 → out ≡ out ++ text (frames_drawn caller far count state)
frames_end caller far count state out none = rw none (text_none out)

-- no call is left
pub calls_end : (count state : ℕ) (out : List ℕ) → count ≡ 0 → out ≡ out ++ text (calls_drawn count state)
calls_end count state out none = rw none (text_none out)
