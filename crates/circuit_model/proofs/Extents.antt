-- Circuits name the slots that the commands name.
use Rattle.std.proofs.Common.{◌≡◌, ℕ, zero, suc, List, [], ◌∷◌, ◌++◌, ⊎_elim, subst}
use Rattle.std.specs.List.{Contains}
use Rattle.std.proofs.lemmas.List.Elements.{Contains-append_cases}
use Rattle.circuit_model.specs.declared.circuit.Circuit.{Circuit}
use Rattle.circuit_model.specs.declared.circuit.Circuit.TheVariants.{Pair, Member, Tone}
use Rattle.circuit_model.specs.Holding.{Holding, Command, Connect, Seat, Give_tone, Clear, Frame, after, frames, circuits_of}
use Rattle.circuit_model.specs.Extent.{NamesWithin, AreWithin}
use Rattle.circuit_model.proofs.Age.{cons_cases, none_in_nil, within_filtered}

abbrev AllWithin : ℕ → List Circuit → Type 0
AllWithin lines circuits = (c : Circuit) → Contains circuits c → NamesWithin lines c

and_one : (lines : ℕ) (circuits : List Circuit) (new : Circuit) → AllWithin lines circuits → NamesWithin lines new → AllWithin lines (circuits ++ new ∷ [])
and_one lines circuits new old is c inside =
    ⊎_elim (λ (before : Contains circuits c). old c before)
    (λ (came : Contains (new ∷ []) c). ⊎_elim (λ (e : new ≡ c). subst (NamesWithin lines) e is) (λ (no : Contains [] c). absurd (none_in_nil c no)) (cons_cases new [] c came))
    (Contains-append_cases circuits (new ∷ []) c inside)

and_two : (lines : ℕ) (circuits : List Circuit) (one two : Circuit) → AllWithin lines circuits → NamesWithin lines one → NamesWithin lines two → AllWithin lines (circuits ++ one ∷ two ∷ [])
and_two lines circuits one two old is_one is_two c inside =
    ⊎_elim (λ (before : Contains circuits c). old c before)
    (λ (came : Contains (one ∷ two ∷ []) c).
    ⊎_elim (λ (e : one ≡ c). subst (NamesWithin lines) e is_one)
    (λ (rest : Contains (two ∷ []) c). ⊎_elim (λ (e : two ≡ c). subst (NamesWithin lines) e is_two) (λ (no : Contains [] c). absurd (none_in_nil c no)) (cons_cases two [] c rest))
    (cons_cases one (two ∷ []) c came))
    (Contains-append_cases circuits (one ∷ two ∷ []) c inside)

pub frames_within : (lines : ℕ) (h : Holding) (cs : List Command) (f : ℕ) → AllWithin lines h.circuits → AreWithin lines cs → AllWithin lines (circuits_of (frames h cs) f)
frames_within lines h [] f old within = λ c inside. absurd (none_in_nil c inside)
frames_within lines h (Connect x y ∷ cs) f old within = frames_within lines (after h (Connect x y)) cs f (and_two lines h.circuits (Pair x y h.next) (Pair y x h.next) old (within.0.0, within.0.1) (within.0.1, within.0.0)) within.1
frames_within lines h (Seat x room ∷ cs) f old within = frames_within lines (after h (Seat x room)) cs f (and_one lines h.circuits (Member room x h.next) old within.0) within.1
frames_within lines h (Give_tone x kind ∷ cs) f old within = frames_within lines (after h (Give_tone x kind)) cs f (and_one lines h.circuits (Tone kind x h.next) old within.0) within.1
frames_within lines h (Clear x ∷ cs) f old within = frames_within lines (after h (Clear x)) cs f (λ c inside. old c (within_filtered _ h.circuits c inside)) within.1
frames_within lines h (Frame ∷ cs) zero old within = old
frames_within lines h (Frame ∷ cs) (suc f) old within = frames_within lines (after h Frame) cs f old within.1
