-- Earlier frames in a list that has grown by one.
use Rattle.std.proofs.Common.{◌≡◌, ℕ, zero, suc, ◌+◌, ◌-◌, ◌<◌, List, [], ◌∷◌, ◌++◌, length, Option, Some, None, refl, sym, ap, ◌∙◌, arith}
use Rattle.std.proofs.lemmas.List.{length_push}
use Rattle.std.proofs.Math.ListN.{get_or-append}
use Rattle.std.proofs.Math.Seq.{get_or-append_seam}
use Rattle.std.specs.Prelude.{nat_lt, slice_get, if◌then◌else◌}
use Rattle.circuit_model.specs.declared.channel.Slot.{Slot}
use Rattle.circuit_model.specs.declared.circuit.Circuit.{Circuit}
use Rattle.circuit_model.specs.declared.circuit.Circuit.TheVariants.{Pair, Member, Tone}
use Rattle.circuit_model.specs.FrameInput.{Input, octet_in, frame_of, arrives}
use Rattle.circuit_model.specs.ALaw.{compress}
use Rattle.circuit_model.specs.Circuits.{heard_by, listener}
use Rattle.circuit_model.specs.Holding.{circuits_of}
use Rattle.circuit_model.specs.Hears.{mix, is_other, octets_of, sum_of_values}
use Rattle.circuit_model.specs.Ports.{Ports, ports_of}
use Rattle.std.specs.List.{filter}
use Rattle.control_memory.specs.Shown.{member_at}
use Rattle.frame_engine.specs.Frames.{AreCounted, mixed_through, mixed_at, octet_brought}
use Rattle.frame_engine.specs.Carries.{brought_before}

pub length-push : {X : Type 0} (xs : List X) (x : X) → length (xs ++ x ∷ []) ≡ length xs + 1
length-push xs x = length_push xs x

pub counted-more : (n : ℕ) (inputs : List Input) (held : List (List Circuit)) (ports : List Ports) (input : Input) (circuits : List Circuit) (seats : Ports) → AreCounted n inputs held ports
    → AreCounted (n + 1) (inputs ++ input ∷ []) (held ++ circuits ∷ []) (ports ++ seats ∷ [])
counted-more n inputs held ports input circuits seats counted = record {
  inputs_counted = length-push inputs input ∙ ap (λ k. k + 1) counted.inputs_counted;
  held_counted = length-push held circuits ∙ ap (λ k. k + 1) counted.held_counted;
  ports_counted = length-push ports seats ∙ ap (λ k. k + 1) counted.ports_counted;
}

get-earlier : {X : Type 0} (xs : List X) (x : X) (i : ℕ) → i < length xs → slice_get (xs ++ x ∷ []) i ≡ slice_get xs i
get-earlier [] x i before = absurd (omega arith)
get-earlier (y ∷ ys) x zero before = refl
get-earlier (y ∷ ys) x (suc i) before = get-earlier ys x i (omega (arith, before))

get-last : {X : Type 0} (xs : List X) (x : X) → slice_get (xs ++ x ∷ []) (length xs) ≡ Some x
get-last [] x = refl
get-last (y ∷ ys) x = get-last ys x

pub arrives-earlier : (inputs : List Input) (input : Input) (f : ℕ) (at : Slot) → f < length inputs → arrives (inputs ++ input ∷ []) f at ≡ arrives inputs f at
arrives-earlier inputs input f at before = ap (λ (o : Option Input). frame_of o at) (get-earlier inputs input f before)

pub arrives-last : (inputs : List Input) (input : Input) (f : ℕ) (at : Slot) → length inputs ≡ f → arrives (inputs ++ input ∷ []) f at ≡ octet_in input at
arrives-last inputs input f at count = ap (λ n. arrives (inputs ++ input ∷ []) n at) (sym count) ∙ ap (λ (o : Option Input). frame_of o at) (get-last inputs input)

pub circuits-earlier : (held : List (List Circuit)) (circuits : List Circuit) (f : ℕ) → f < length held → circuits_of (held ++ circuits ∷ []) f ≡ circuits_of held f
circuits-earlier held circuits f before = get_or-append held (circuits ∷ []) [] f before

pub circuits-last : (held : List (List Circuit)) (circuits : List Circuit) (f : ℕ) → length held ≡ f → circuits_of (held ++ circuits ∷ []) f ≡ circuits
circuits-last held circuits f count = ap (λ n. circuits_of (held ++ circuits ∷ []) n) (sym count) ∙ get_or-append_seam held circuits [] []

pub ports-earlier : (ports : List Ports) (seats : Ports) (f : ℕ) → f < length ports → ports_of (ports ++ seats ∷ []) f ≡ ports_of ports f
ports-earlier ports seats f before = get_or-append ports (seats ∷ []) [] f before

pub ports-last : (ports : List Ports) (seats : Ports) (f : ℕ) → length ports ≡ f → ports_of (ports ++ seats ∷ []) f ≡ seats
ports-last ports seats f count = ap (λ n. ports_of (ports ++ seats ∷ []) n) (sym count) ∙ get_or-append_seam ports seats [] []

octets-earlier : (inputs : List Input) (input : Input) (f : ℕ) (circuits : List Circuit) → f < length inputs → octets_of (inputs ++ input ∷ []) f circuits ≡ octets_of inputs f circuits
octets-earlier inputs input f [] before = refl
octets-earlier inputs input f (c ∷ cs) before =
    ap (λ octet. octet ∷ octets_of (inputs ++ input ∷ []) f cs) (arrives-earlier inputs input f (listener c) before)
    ∙ ap (λ (octets : List ℕ). arrives inputs f (listener c) ∷ octets) (octets-earlier inputs input f cs before)

pub mix-earlier : (inputs : List Input) (input : Input) (circuits : List Circuit) (room : ℕ) (y : Slot) (f : ℕ) → f < length inputs → mix (inputs ++ input ∷ []) circuits room y f ≡ mix inputs circuits room y f
mix-earlier inputs input circuits room y f before = ap (λ (octets : List ℕ). compress (sum_of_values octets)) (octets-earlier inputs input (f - 2) (filter (is_other room y f) circuits) (omega (arith, before)))

mixed_through-earlier : (inputs : List Input) (input : Input) (circuits : List Circuit) (f : ℕ) (by : Option Circuit) → f < length inputs → mixed_through (inputs ++ input ∷ []) circuits f by ≡ mixed_through inputs circuits f by
mixed_through-earlier inputs input circuits f None before = refl
mixed_through-earlier inputs input circuits f (Some (Pair x y since)) before = refl
mixed_through-earlier inputs input circuits f (Some (Member room y since)) before = mix-earlier inputs input circuits room y f before
mixed_through-earlier inputs input circuits f (Some (Tone kind y since)) before = refl

mixed_at-earlier : (inputs : List Input) (input : Input) (circuits : List Circuit) (f : ℕ) (member : Option Slot) → f < length inputs → mixed_at (inputs ++ input ∷ []) circuits f member ≡ mixed_at inputs circuits f member
mixed_at-earlier inputs input circuits f None before = refl
mixed_at-earlier inputs input circuits f (Some y) before = mixed_through-earlier inputs input circuits f (heard_by circuits y) before

-- what a frame brought
module _ (external : ℕ) (inputs : List Input) (held : List (List Circuit)) (ports : List Ports) (input : Input) (circuits : List Circuit) (seats : Ports) (n : ℕ) (counted : AreCounted n inputs held ports) where
  pub brought-earlier : (f : ℕ) (at : Slot) → f < n → octet_brought external (inputs ++ input ∷ []) (held ++ circuits ∷ []) (ports ++ seats ∷ []) f at ≡ octet_brought external inputs held ports f at
  brought-earlier f at before =
      ap (λ octet. if nat_lt at.line external then octet else mixed_at (inputs ++ input ∷ []) (circuits_of (held ++ circuits ∷ []) f) f (member_at external (ports_of (ports ++ seats ∷ []) f) at)) (arrives-earlier inputs input f at (let i = counted.inputs_counted in let h = counted.held_counted in let p = counted.ports_counted in omega (arith, before, i, h, p)))
      ∙ ap (λ (cs : List Circuit). if nat_lt at.line external then arrives inputs f at else mixed_at (inputs ++ input ∷ []) cs f (member_at external (ports_of (ports ++ seats ∷ []) f) at)) (circuits-earlier held circuits f (let i = counted.inputs_counted in let h = counted.held_counted in let p = counted.ports_counted in omega (arith, before, i, h, p)))
      ∙ ap (λ (ps : Ports). if nat_lt at.line external then arrives inputs f at else mixed_at (inputs ++ input ∷ []) (circuits_of held f) f (member_at external ps at)) (ports-earlier ports seats f (let i = counted.inputs_counted in let h = counted.held_counted in let p = counted.ports_counted in omega (arith, before, i, h, p)))
      ∙ ap (λ octet. if nat_lt at.line external then arrives inputs f at else octet) (mixed_at-earlier inputs input (circuits_of held f) f (member_at external (ports_of ports f) at) (let i = counted.inputs_counted in let h = counted.held_counted in let p = counted.ports_counted in omega (arith, before, i, h, p)))

  pub brought_before-earlier : (f : ℕ) (at : Slot) → f ≡ n → brought_before external (inputs ++ input ∷ []) (held ++ circuits ∷ []) (ports ++ seats ∷ []) f at ≡ brought_before external inputs held ports f at
  brought_before-earlier zero at is = refl
  brought_before-earlier (suc f) at is = brought-earlier f at (omega (arith, is))
