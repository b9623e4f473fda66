-- The facts of both wires and both sides that every event preserves.
use Rattle.std.proofs.Common.{◌≡◌, ◌⊎◌, ℕ, suc, ◌+◌, ◌≤◌, Bool, true, false, List, [], ◌∷◌, ◌++◌, refl, sym, ap, Option, Some, None, ◌∙◌, arith, subst, inl, inr, if◌then◌else◌}
use Rattle.std.proofs.lemmas.Bool.{eqb-true}
use Rattle.link_laws.specs.Handshake.{Signal, Sabme, Ua, Numbered, Side, Off, Calling, On, Pair, start, mirror, Happening, Call, Expire, GiveUp, Send, Arrive, Lose, Event, First, Second, sabmes, uas, is_over, calls, calls_again, gives_up, sends, sabme_comes, ua_comes, arrives, loses, happens, next, run}

-- how a side takes numbered frames: not at all, not until UA, or by this numbering
pub data Mode : Type 0 where
  Deaf : ℕ → Mode
  Waits : ℕ → Mode
  Live : ℕ → ℕ → Mode

abbrev pub mode_of : Side → Mode
mode_of (Off g) = Deaf g
mode_of (Calling g) = Waits g
mode_of (On g t) = Live t g

abbrev pub after_sabme : Mode → ℕ → Mode
after_sabme (Deaf m) n = Live n (m + 1)
after_sabme (Waits m) n = Waits m
after_sabme (Live h m) n = Live n (m + 1)

abbrev pub after_ua : Mode → ℕ → Mode
after_ua (Deaf m) u = Deaf m
after_ua (Waits m) u = Live u (m + 1)
after_ua (Live h m) u = Live h m

-- a numbered frame has the numbering by which it is taken, and its N(R) the receiver's numbering
abbrev pub Agrees : Mode → ℕ → ℕ → Type 0
Agrees (Deaf m) h k = Unit {0}
Agrees (Waits m) h k = Unit {0}
Agrees (Live t m) h k = (h ≡ t) × (k ≡ m)

abbrev pub Same : ℕ → ℕ → Mode → Type 0
Same g t (Deaf m) = Unit {0}
Same g t (Waits m) = Unit {0}
Same g t (Live h m) = (h ≡ g) × (m ≡ t)

-- the numbering alone
abbrev pub Begun : ℕ → Mode → Type 0
Begun g (Deaf m) = Unit {0}
Begun g (Waits m) = Unit {0}
Begun g (Live h m) = h ≡ g

abbrev pub Weak : ℕ → Mode → Type 0
Weak g (Deaf m) = Unit {0}
Weak g (Waits m) = Unit {0}
Weak g (Live h m) = (h ≡ g) ⊎ (h ≡ g + 1)

-- the UA on the wire
abbrev pub told : List Signal → Option ℕ
told [] = None
told (Sabme n ∷ ts) = told ts
told (Ua u ∷ ts) = Some u
told (Numbered h k ∷ ts) = told ts

-- whichever of these frames are lost: those that arrive agree, and E holds at the end, or S if a SABME arrived
abbrev pub Fits : (Mode → Type 0) → (Mode → Type 0) → Mode → List Signal → Type 0
Fits E S m [] = E m
Fits E S m (Sabme n ∷ ts) = Fits S S (after_sabme m n) ts × Fits E S m ts
Fits E S m (Ua u ∷ ts) = Fits E S (after_ua m u) ts × Fits E S m ts
Fits E S m (Numbered h k ∷ ts) = Agrees m h k × Fits E S m ts

abbrev pub NoNumbered : List Signal → Type 0
NoNumbered [] = Unit {0}
NoNumbered (Sabme n ∷ ts) = NoNumbered ts
NoNumbered (Ua u ∷ ts) = NoNumbered ts
NoNumbered (Numbered h k ∷ ts) = ⊥

-- each SABME leads to this numbering, and no numbered frame follows it
abbrev pub Plain : ℕ → List Signal → Type 0
Plain n [] = Unit {0}
Plain n (Sabme k ∷ ts) = (k ≡ n) × NoNumbered ts × Plain n ts
Plain n (Ua u ∷ ts) = Plain n ts
Plain n (Numbered h k ∷ ts) = Plain n ts

abbrev pub mine : Side → ℕ
mine (Off g) = g
mine (Calling g) = g
mine (On g t) = g

abbrev pub may_call : Side → ℕ
may_call (Off g) = 0
may_call (Calling g) = 1
may_call (On g t) = 0

-- the condition at the end of a side's wire, from the UA on the way to it
abbrev pub E_of : Side → Option ℕ → Mode → Type 0
E_of (Off g) k = Weak g
E_of (Calling g) None = Weak g
E_of (Calling g) (Some u) = Same (g + 1) u
E_of (On g t) k = Same g t

abbrev pub S_of : Side → Mode → Type 0
S_of (Off g) = Begun (g + 1)
S_of (Calling g) = Begun (g + 1)
S_of (On g t) = Begun g

pub record Half (a b : Side) (ab ba : List Signal) : Type 0 where
  pub fits : Fits (E_of a (told ba)) (S_of a) (mode_of b) ab
  pub alive : sabmes ab + uas ba ≤ may_call a
  pub plain : Plain (mine a + 1) ab

pub record Holds (w : Pair) : Type 0 where
  pub one : Half w.first w.second w.there w.back
  pub other : Half w.second w.first w.back w.there

-- ---- ends

same_weak : (g t : ℕ) (m : Mode) → Same g t m → Weak g m
same_weak g t (Deaf m) h = tt
same_weak g t (Waits m) h = tt
same_weak g t (Live k m) h = inl h.0

more_weak : (g u : ℕ) (m : Mode) → Same (g + 1) u m → Weak g m
more_weak g u (Deaf m) h = tt
more_weak g u (Waits m) h = tt
more_weak g u (Live k m) h = inr h.0

e_waits : (a : Side) (k : Option ℕ) (m : ℕ) → E_of a k (Waits m)
e_waits (Off g) k m = tt
e_waits (Calling g) None m = tt
e_waits (Calling g) (Some u) m = tt
e_waits (On g t) k m = tt

s_waits : (a : Side) (m : ℕ) → S_of a (Waits m)
s_waits (Off g) m = tt
s_waits (Calling g) m = tt
s_waits (On g t) m = tt

told_none : (ts : List Signal) → uas ts ≡ 0 → told ts ≡ None
told_none [] none = refl
told_none (Sabme n ∷ ts) none = told_none ts none
told_none (Ua u ∷ ts) none = absurd (omega (arith, none))
told_none (Numbered h k ∷ ts) none = told_none ts none

told_ua : (ts : List Signal) (u : ℕ) → uas ts ≡ 0 → told (ts ++ Ua u ∷ []) ≡ Some u
told_ua [] u none = refl
told_ua (Sabme n ∷ ts) u none = told_ua ts u none
told_ua (Ua k ∷ ts) u none = absurd (omega (arith, none))
told_ua (Numbered h k ∷ ts) u none = told_ua ts u none

told_sabme : (ts : List Signal) (n : ℕ) → told (ts ++ Sabme n ∷ []) ≡ told ts
told_sabme [] n = refl
told_sabme (Sabme k ∷ ts) n = told_sabme ts n
told_sabme (Ua k ∷ ts) n = refl
told_sabme (Numbered h k ∷ ts) n = told_sabme ts n

told_data : (ts : List Signal) (g t : ℕ) → told (ts ++ Numbered g t ∷ []) ≡ told ts
told_data [] g t = refl
told_data (Sabme k ∷ ts) g t = told_data ts g t
told_data (Ua k ∷ ts) g t = refl
told_data (Numbered h k ∷ ts) g t = told_data ts g t

-- ---- lists

none_left : {a b : ℕ} → a + b ≤ 0 → (a ≡ 0) × (b ≡ 0)
none_left h = (omega (arith, h), omega (arith, h))

weaken : (E F S : Mode → Type 0) (ts : List Signal) (m : Mode) → ((m : Mode) → E m → F m) → Fits E S m ts → Fits F S m ts
weaken E F S [] m f h = f m h
weaken E F S (Sabme n ∷ ts) m f h = (h.0, weaken E F S ts m f h.1)
weaken E F S (Ua u ∷ ts) m f h = (weaken E F S ts (after_ua m u) f h.0, weaken E F S ts m f h.1)
weaken E F S (Numbered k l ∷ ts) m f h = (h.0, weaken E F S ts m f h.1)

-- S does not matter without a SABME
change : (E F S T : Mode → Type 0) (ts : List Signal) (m : Mode) → sabmes ts ≡ 0 → ((m : Mode) → E m → F m) → Fits E S m ts → Fits F T m ts
change E F S T [] m none f h = f m h
change E F S T (Sabme n ∷ ts) m none f h = absurd (omega (arith, none))
change E F S T (Ua u ∷ ts) m none f h = (change E F S T ts (after_ua m u) none f h.0, change E F S T ts m none f h.1)
change E F S T (Numbered k l ∷ ts) m none f h = (h.0, change E F S T ts m none f h.1)

add_sabme : (E S : Mode → Type 0) (ts : List Signal) (m : Mode) (n : ℕ) → sabmes ts ≡ 0 → ((m : Mode) → S (after_sabme m n)) → Fits E S m ts → Fits E S m (ts ++ Sabme n ∷ [])
add_sabme E S [] m n none f h = (f m, h)
add_sabme E S (Sabme k ∷ ts) m n none f h = absurd (omega (arith, none))
add_sabme E S (Ua u ∷ ts) m n none f h = (add_sabme E S ts (after_ua m u) n none f h.0, add_sabme E S ts m n none f h.1)
add_sabme E S (Numbered k l ∷ ts) m n none f h = (h.0, add_sabme E S ts m n none f h.1)

add_data : (E S : Mode → Type 0) (ts : List Signal) (m : Mode) (n o : ℕ) → sabmes ts ≡ 0 → ((m : Mode) → E m → Agrees m n o) → Fits E S m ts → Fits E S m (ts ++ Numbered n o ∷ [])
add_data E S [] m n o none f h = (f m h, h)
add_data E S (Sabme k ∷ ts) m n o none f h = absurd (omega (arith, none))
add_data E S (Ua u ∷ ts) m n o none f h = (add_data E S ts (after_ua m u) n o none f h.0, add_data E S ts m n o none f h.1)
add_data E S (Numbered k l ∷ ts) m n o none f h = (h.0, add_data E S ts m n o none f h.1)

-- the end if all frames are lost
pub end_of : (E S : Mode → Type 0) (ts : List Signal) (m : Mode) → Fits E S m ts → E m
end_of E S [] m h = h
end_of E S (Sabme n ∷ ts) m h = end_of E S ts m h.1
end_of E S (Ua u ∷ ts) m h = end_of E S ts m h.1
end_of E S (Numbered k l ∷ ts) m h = end_of E S ts m h.1

-- a side that waits for UA takes no frame before it
waits_all : (E S : Mode → Type 0) (ts : List Signal) (w : ℕ) → uas ts ≡ 0 → E (Waits w) → S (Waits w) → Fits E S (Waits w) ts
waits_all E S [] w none e s = e
waits_all E S (Sabme n ∷ ts) w none e s = (waits_all S S ts w none s s, waits_all E S ts w none e s)
waits_all E S (Ua u ∷ ts) w none e s = absurd (omega (arith, none))
waits_all E S (Numbered k l ∷ ts) w none e s = (tt, waits_all E S ts w none e s)

waits_ua : (E S : Mode → Type 0) (ts : List Signal) (w u : ℕ) → uas ts ≡ 0 → E (Waits w) → S (Waits w) → E (Live u (w + 1)) → S (Live u (w + 1)) → Fits E S (Waits w) (ts ++ Ua u ∷ [])
waits_ua E S [] w u none e s live live' = (live, e)
waits_ua E S (Sabme n ∷ ts) w u none e s live live' = (waits_ua S S ts w u none s s live' live', waits_ua E S ts w u none e s live live')
waits_ua E S (Ua k ∷ ts) w u none e s live live' = absurd (omega (arith, none))
waits_ua E S (Numbered k l ∷ ts) w u none e s live live' = (tt, waits_ua E S ts w u none e s live live')

-- no numbered frame follows a SABME, so a side without a link may take it
quiet : (E S : Mode → Type 0) (n m : ℕ) (ts : List Signal) → NoNumbered ts → sabmes ts ≡ 0 → E (Live n m) → Fits E S (Live n m) ts
quiet E S n m [] bare none e = e
quiet E S n m (Sabme k ∷ ts) bare none e = absurd (omega (arith, none))
quiet E S n m (Ua u ∷ ts) bare none e = (quiet E S n m ts bare none e, quiet E S n m ts bare none e)
quiet E S n m (Numbered k l ∷ ts) bare none e = elim bare [ ]

-- the same for a side that waits for UA, which leads to the numbering g
quiet_waits : (E S : Mode → Type 0) (g w : ℕ) (ts : List Signal) → NoNumbered ts → sabmes ts ≡ 0 → E (Waits w) → E (Live g (w + 1)) → Fits (Begun g) (Begun g) (Waits w) ts → Fits E S (Waits w) ts
quiet_waits E S g w [] bare none e live h = e
quiet_waits E S g w (Sabme k ∷ ts) bare none e live h = absurd (omega (arith, none))
quiet_waits E S g w (Ua u ∷ ts) bare none e live h =
    let same : u ≡ g = end_of (Begun g) (Begun g) ts (Live u (w + 1)) h.0 in
    (quiet E S u (w + 1) ts bare none (subst (λ k. E (Live k (w + 1))) (sym same) live), quiet_waits E S g w ts bare none e live h.1)
quiet_waits E S g w (Numbered k l ∷ ts) bare none e live h = elim bare [ ]

told_is : (g w : ℕ) (ts : List Signal) (u : ℕ) → Fits (Begun g) (Begun g) (Waits w) ts → told ts ≡ Some u → u ≡ g
told_is g w [] u h e = absurd (cc)
told_is g w (Sabme k ∷ ts) u h e = told_is g w ts u h.1 e
told_is g w (Ua k ∷ ts) u h e = subst (λ j. j ≡ g) (some_same k u e) (end_of (Begun g) (Begun g) ts (Live k (w + 1)) h.0)
  where
    some_same : (k u : ℕ) → Some k ≡ Some u → k ≡ u
    some_same k u e = cc
told_is g w (Numbered k l ∷ ts) u h e = told_is g w ts u h.1 e

deaf_all : (E S : Mode → Type 0) (n w : ℕ) (ts : List Signal) → Plain n ts → uas ts ≡ 0 → sabmes ts ≤ 1 → E (Deaf w) → S (Live n (w + 1)) → Fits E S (Deaf w) ts
deaf_all E S n w [] p none few e s = e
deaf_all E S n w (Sabme k ∷ ts) p none few e s =
    (subst (λ j. Fits S S (Live j (w + 1)) ts) (sym p.0) (quiet S S n (w + 1) ts p.1 (omega (arith, few)) s), deaf_all E S n w ts p.2 none (omega (arith, few)) e s)
deaf_all E S n w (Ua u ∷ ts) p none few e s = absurd (omega (arith, none))
deaf_all E S n w (Numbered k l ∷ ts) p none few e s = (tt, deaf_all E S n w ts p none few e s)

plain_none : (n : ℕ) (ts : List Signal) → sabmes ts ≡ 0 → Plain n ts
plain_none n [] none = tt
plain_none n (Sabme k ∷ ts) none = absurd (omega (arith, none))
plain_none n (Ua u ∷ ts) none = plain_none n ts none
plain_none n (Numbered k l ∷ ts) none = plain_none n ts none

plain_sabme : (n : ℕ) (ts : List Signal) → sabmes ts ≡ 0 → Plain n (ts ++ Sabme n ∷ [])
plain_sabme n [] none = (refl, tt, tt)
plain_sabme n (Sabme k ∷ ts) none = absurd (omega (arith, none))
plain_sabme n (Ua u ∷ ts) none = plain_sabme n ts none
plain_sabme n (Numbered k l ∷ ts) none = plain_sabme n ts none

no_data_ua : (u : ℕ) (ts : List Signal) → NoNumbered ts → NoNumbered (ts ++ Ua u ∷ [])
no_data_ua u [] h = tt
no_data_ua u (Sabme k ∷ ts) h = no_data_ua u ts h
no_data_ua u (Ua k ∷ ts) h = no_data_ua u ts h
no_data_ua u (Numbered k l ∷ ts) h = elim h [ ]

plain_ua : (n u : ℕ) (ts : List Signal) → Plain n ts → Plain n (ts ++ Ua u ∷ [])
plain_ua n u [] h = tt
plain_ua n u (Sabme k ∷ ts) h = (h.0, no_data_ua u ts h.1, plain_ua n u ts h.2)
plain_ua n u (Ua k ∷ ts) h = plain_ua n u ts h
plain_ua n u (Numbered k l ∷ ts) h = plain_ua n u ts h

sabmes_ua : (ts : List Signal) (u : ℕ) → sabmes (ts ++ Ua u ∷ []) ≡ sabmes ts
sabmes_ua [] u = refl
sabmes_ua (Sabme k ∷ ts) u = ap suc (sabmes_ua ts u)
sabmes_ua (Ua k ∷ ts) u = sabmes_ua ts u
sabmes_ua (Numbered k l ∷ ts) u = sabmes_ua ts u

sabmes_data : (ts : List Signal) (g t : ℕ) → sabmes (ts ++ Numbered g t ∷ []) ≡ sabmes ts
sabmes_data [] g t = refl
sabmes_data (Sabme k ∷ ts) g t = ap suc (sabmes_data ts g t)
sabmes_data (Ua k ∷ ts) g t = sabmes_data ts g t
sabmes_data (Numbered k l ∷ ts) g t = sabmes_data ts g t

sabmes_sabme : (ts : List Signal) (u : ℕ) → sabmes (ts ++ Sabme u ∷ []) ≡ suc (sabmes ts)
sabmes_sabme [] u = refl
sabmes_sabme (Sabme k ∷ ts) u = ap suc (sabmes_sabme ts u)
sabmes_sabme (Ua k ∷ ts) u = sabmes_sabme ts u
sabmes_sabme (Numbered k l ∷ ts) u = sabmes_sabme ts u

uas_ua : (ts : List Signal) (u : ℕ) → uas (ts ++ Ua u ∷ []) ≡ suc (uas ts)
uas_ua [] u = refl
uas_ua (Sabme k ∷ ts) u = uas_ua ts u
uas_ua (Ua k ∷ ts) u = ap suc (uas_ua ts u)
uas_ua (Numbered k l ∷ ts) u = uas_ua ts u

uas_data : (ts : List Signal) (g t : ℕ) → uas (ts ++ Numbered g t ∷ []) ≡ uas ts
uas_data [] g t = refl
uas_data (Sabme k ∷ ts) g t = uas_data ts g t
uas_data (Ua k ∷ ts) g t = ap suc (uas_data ts g t)
uas_data (Numbered k l ∷ ts) g t = uas_data ts g t

uas_sabme : (ts : List Signal) (u : ℕ) → uas (ts ++ Sabme u ∷ []) ≡ uas ts
uas_sabme [] u = refl
uas_sabme (Sabme k ∷ ts) u = uas_sabme ts u
uas_sabme (Ua k ∷ ts) u = ap suc (uas_sabme ts u)
uas_sabme (Numbered k l ∷ ts) u = uas_sabme ts u

-- ---- each event

keep_if : (b : Bool) (x y : Pair) → (b ≡ true → Holds x) → (b ≡ false → Holds y) → Holds (if b then x else y)
keep_if true x y f g = f refl
keep_if false x y f g = g refl

e_weak : (a : Side) (k : Option ℕ) (m : Mode) → may_call a ≡ 0 → E_of a k m → Weak (mine a) m
e_weak (Off g) k m idle h = h
e_weak (Calling g) k m idle h = absurd (omega (arith, idle))
e_weak (On g t) k m idle h = same_weak g t m h

after_begun : (g : ℕ) (m : Mode) → Begun (g + 1) (after_sabme m (g + 1))
after_begun g (Deaf m) = refl
after_begun g (Waits m) = tt
after_begun g (Live h m) = refl

called : (a b : Side) (ab ba : List Signal) → may_call a ≡ 0 → Half a b ab ba → Half (Calling (mine a)) b (ab ++ Sabme (mine a + 1) ∷ []) ba
called a b ab ba idle h =
    let alive = h.alive in
    let none : (sabmes ab ≡ 0) × (uas ba ≡ 0) = none_left (omega (arith, alive, idle)) in
    let more = sabmes_sabme ab (mine a + 1) in record {
      fits = subst (λ k. Fits (E_of (Calling (mine a)) k) (Begun (mine a + 1)) (mode_of b) (ab ++ Sabme (mine a + 1) ∷ [])) (sym (told_none ba none.1))
          (add_sabme (Weak (mine a)) (Begun (mine a + 1)) ab (mode_of b) (mine a + 1) none.0 (after_begun (mine a))
          (change (E_of a (told ba)) (Weak (mine a)) (S_of a) (Begun (mine a + 1)) ab (mode_of b) none.0 (λ m e. e_weak a (told ba) m idle e) h.fits));
      alive = let z = none.0 in let y = none.1 in omega (arith, more, z, y);
      plain = plain_sabme (mine a + 1) ab none.0;
    }

called_back : (a b : Side) (ab ba : List Signal) → may_call a ≡ 0 → Half a b ab ba → Half b a ba ab → Half b (Calling (mine a)) ba (ab ++ Sabme (mine a + 1) ∷ [])
called_back a b ab ba idle h o =
    let alive = h.alive in
    let none : (sabmes ab ≡ 0) × (uas ba ≡ 0) = none_left (omega (arith, alive, idle)) in
    let same = uas_sabme ab (mine a + 1) in
    let bound = o.alive in record {
      fits = waits_all (E_of b (told (ab ++ Sabme (mine a + 1) ∷ []))) (S_of b) ba (mine a) none.1 (e_waits b (told (ab ++ Sabme (mine a + 1) ∷ [])) (mine a)) (s_waits b (mine a));
      alive = omega (arith, same, bound);
      plain = o.plain;
    }

calls_keep : (w : Pair) (a : Side) → Holds w → Half a w.second w.there w.back → Half w.second a w.back w.there → Holds (calls w a)
calls_keep w (Off g) all h o = record { one = called (Off g) w.second w.there w.back refl h; other = called_back (Off g) w.second w.there w.back refl h o }
calls_keep w (On g t) all h o = record { one = called (On g t) w.second w.there w.back refl h; other = called_back (On g t) w.second w.there w.back refl h o }
calls_keep w (Calling g) all h o = all

again : (g : ℕ) (b : Side) (ab ba : List Signal) → sabmes ab ≡ 0 → uas ba ≡ 0 → Half (Calling g) b ab ba → Half (Calling g) b (ab ++ Sabme (g + 1) ∷ []) ba
again g b ab ba none none' h =
    let more = sabmes_sabme ab (g + 1) in record {
      fits = subst (λ k. Fits (E_of (Calling g) k) (Begun (g + 1)) (mode_of b) (ab ++ Sabme (g + 1) ∷ [])) (sym (told_none ba none'))
          (add_sabme (Weak g) (Begun (g + 1)) ab (mode_of b) (g + 1) none (after_begun g)
          (subst (λ k. Fits (E_of (Calling g) k) (Begun (g + 1)) (mode_of b) ab) (told_none ba none') h.fits));
      alive = omega (arith, more, none, none');
      plain = plain_sabme (g + 1) ab none;
    }

again_back : (a b : Side) (ab ba : List Signal) (n : ℕ) → Half b a ba ab → Half b a ba (ab ++ Sabme n ∷ [])
again_back a b ab ba n o =
    let same = uas_sabme ab n in
    let bound = o.alive in record {
      fits = subst (λ k. Fits (E_of b k) (S_of b) (mode_of a) ba) (sym (told_sabme ab n)) o.fits;
      alive = omega (arith, same, bound);
      plain = o.plain;
    }

again_keep : (w : Pair) (a : Side) → Holds w → sabmes w.there ≡ 0 → uas w.back ≡ 0 → Half a w.second w.there w.back → Half w.second a w.back w.there → Holds (calls_again w a)
again_keep w (Off g) all none none' h o = all
again_keep w (On g t) all none none' h o = all
again_keep w (Calling g) all none none' h o = record { one = again g w.second w.there w.back none none' h; other = again_back (Calling g) w.second w.there w.back (g + 1) o }

given_up : (g : ℕ) (b : Side) (ab ba : List Signal) → sabmes ab ≡ 0 → uas ba ≡ 0 → Half (Calling g) b ab ba → Half (Off g) b ab ba
given_up g b ab ba none none' h = record {
  fits = subst (λ k. Fits (E_of (Calling g) k) (Begun (g + 1)) (mode_of b) ab) (told_none ba none') h.fits;
  alive = omega (arith, none, none');
  plain = h.plain;
}

e_deaf : (a : Side) (k : Option ℕ) (m : ℕ) → E_of a k (Deaf m)
e_deaf (Off g) k m = tt
e_deaf (Calling g) None m = tt
e_deaf (Calling g) (Some u) m = tt
e_deaf (On g t) k m = tt

s_next : (b : Side) (ba : List Signal) (m : ℕ) → sabmes ba ≤ may_call b → (sabmes ba ≡ 0) ⊎ S_of b (Live (mine b + 1) m)
s_next (Off g) ba m few = inr refl
s_next (Calling g) ba m few = inr refl
s_next (On g t) ba m few = inl (omega (arith, few))

deaf_none : (E S : Mode → Type 0) (ts : List Signal) (w : ℕ) → uas ts ≡ 0 → sabmes ts ≡ 0 → E (Deaf w) → Fits E S (Deaf w) ts
deaf_none E S [] w none none' e = e
deaf_none E S (Sabme n ∷ ts) w none none' e = absurd (omega (arith, none'))
deaf_none E S (Ua u ∷ ts) w none none' e = absurd (omega (arith, none))
deaf_none E S (Numbered k l ∷ ts) w none none' e = (tt, deaf_none E S ts w none none' e)

call_at_most : (b : Side) → may_call b ≤ 1
call_at_most (Off g) = omega arith
call_at_most (Calling g) = omega arith
call_at_most (On g t) = omega arith

given_up_back : (g : ℕ) (b : Side) (ab ba : List Signal) → uas ba ≡ 0 → Half b (Calling g) ba ab → Half b (Off g) ba ab
given_up_back g b ab ba none o =
    let bound = o.alive in
    let most = call_at_most b in
    let few : sabmes ba ≤ may_call b = omega (arith, bound) in record {
      fits = elim (s_next b ba (g + 1) few) [
        | inl empty ↦ deaf_none (E_of b (told ab)) (S_of b) ba g none empty (e_deaf b (told ab) g)
        | inr fine ↦ deaf_all (E_of b (told ab)) (S_of b) (mine b + 1) g ba o.plain none (omega (arith, few, most)) (e_deaf b (told ab) g) fine
      ];
      alive = o.alive;
      plain = o.plain;
    }

given_up_keep : (w : Pair) (a : Side) → Holds w → sabmes w.there ≡ 0 → uas w.back ≡ 0 → Half a w.second w.there w.back → Half w.second a w.back w.there → Holds (gives_up w a)
given_up_keep w (Off g) all none none' h o = all
given_up_keep w (On g t) all none none' h o = all
given_up_keep w (Calling g) all none none' h o = record { one = given_up g w.second w.there w.back none none' h; other = given_up_back g w.second w.there w.back none' o }

same_agrees : (g t : ℕ) (m : Mode) → Same g t m → Agrees m g t
same_agrees g t (Deaf m) h = tt
same_agrees g t (Waits m) h = tt
same_agrees g t (Live k m) h = (sym h.0, sym h.1)

sent : (g t : ℕ) (b : Side) (ab ba : List Signal) → Half (On g t) b ab ba → Half (On g t) b (ab ++ Numbered g t ∷ []) ba
sent g t b ab ba h =
    let alive = h.alive in
    let none : (sabmes ab ≡ 0) × (uas ba ≡ 0) = none_left alive in
    let same = sabmes_data ab g t in record {
      fits = add_data (Same g t) (Begun g) ab (mode_of b) g t none.0 (same_agrees g t) h.fits;
      alive = omega (arith, same, alive);
      plain = plain_none (g + 1) (ab ++ Numbered g t ∷ []) (same ∙ none.0);
    }

sent_back : (a b : Side) (ab ba : List Signal) (n o : ℕ) → Half b a ba ab → Half b a ba (ab ++ Numbered n o ∷ [])
sent_back a b ab ba n m o =
    let same = uas_data ab n m in
    let bound = o.alive in record {
      fits = subst (λ k. Fits (E_of b k) (S_of b) (mode_of a) ba) (sym (told_data ab n m)) o.fits;
      alive = omega (arith, same, bound);
      plain = o.plain;
    }

sends_keep : (w : Pair) (a : Side) → Holds w → Half a w.second w.there w.back → Half w.second a w.back w.there → Holds (sends w a)
sends_keep w (Off g) all h o = all
sends_keep w (Calling g) all h o = all
sends_keep w (On g t) all h o = record { one = sent g t w.second w.there w.back h; other = sent_back (On g t) w.second w.there w.back g t o }

-- ---- a SABME comes

none_back : (k l : ℕ) → suc k + l ≤ 1 → (k ≡ 0) × (l ≡ 0)
none_back k l h = (omega (arith, h), omega (arith, h))

-- to a side that is not calling
comes : (ga g n : ℕ) (b : Side) (rest ba : List Signal) → may_call b ≡ 0 → Half (Calling ga) b (Sabme n ∷ rest) ba → Half (Calling ga) (On (g + 1) n) rest (ba ++ Ua (g + 1) ∷ [])
comes ga g n b rest ba idle h =
    let alive = h.alive in
    let none = none_back (sabmes rest) (uas ba) alive in
    let more = uas_ua ba (g + 1) in record {
      fits = subst (λ k. Fits (E_of (Calling ga) k) (Begun (ga + 1)) (Live n (g + 1)) rest) (sym (told_ua ba (g + 1) none.1))
          (quiet (Same (ga + 1) (g + 1)) (Begun (ga + 1)) n (g + 1) rest h.plain.1 none.0 (h.plain.0, refl));
      alive = omega (arith, more, alive);
      plain = h.plain.2;
    }

comes_anew : (ga g n : ℕ) (b : Side) (rest ba : List Signal) → may_call b ≡ 0 → uas ba ≡ 0 → n ≡ ga + 1 → Half b (Calling ga) ba (Sabme n ∷ rest) → Half (On (g + 1) n) (Calling ga) (ba ++ Ua (g + 1) ∷ []) rest
comes_anew ga g n b rest ba idle none is o =
    let bound = o.alive in
    let same = sabmes_ua ba (g + 1) in record {
      fits = waits_ua (Same (g + 1) n) (Begun (g + 1)) ba ga (g + 1) none tt tt (refl, sym is) refl;
      alive = omega (arith, bound, idle, same);
      plain = plain_none (g + 1 + 1) (ba ++ Ua (g + 1) ∷ []) (omega (arith, bound, idle, same));
    }

-- to a side that is calling: the calls cross
crosses : (ga g n : ℕ) (rest ba : List Signal) → Half (Calling ga) (Calling g) (Sabme n ∷ rest) ba → Half (Calling ga) (Calling g) rest (ba ++ Ua (g + 1) ∷ [])
crosses ga g n rest ba h =
    let alive = h.alive in
    let none = none_back (sabmes rest) (uas ba) alive in
    let more = uas_ua ba (g + 1) in record {
      fits = subst (λ k. Fits (E_of (Calling ga) k) (Begun (ga + 1)) (Waits g) rest) (sym (told_ua ba (g + 1) none.1))
          (quiet_waits (Same (ga + 1) (g + 1)) (Begun (ga + 1)) (ga + 1) g rest h.plain.1 none.0 tt (refl, refl) h.fits.0);
      alive = omega (arith, more, alive);
      plain = h.plain.2;
    }

e_next : (g ga : ℕ) (k : Option ℕ) → ((u : ℕ) → k ≡ Some u → u ≡ ga + 1) → E_of (Calling g) k (Live (g + 1) (ga + 1))
e_next g ga None f = inr refl
e_next g ga (Some u) f = (refl, sym (f u refl))

crosses_back : (ga g n : ℕ) (rest ba : List Signal) → uas ba ≡ 0 → Fits (Begun (ga + 1)) (Begun (ga + 1)) (Waits g) rest → Half (Calling g) (Calling ga) ba (Sabme n ∷ rest) → Half (Calling g) (Calling ga) (ba ++ Ua (g + 1) ∷ []) rest
crosses_back ga g n rest ba none there o =
    let bound = o.alive in
    let same = sabmes_ua ba (g + 1) in record {
      fits = waits_ua (E_of (Calling g) (told rest)) (Begun (g + 1)) ba ga (g + 1) none (e_waits (Calling g) (told rest) ga) tt (e_next g ga (told rest) (λ u e. told_is (ga + 1) g rest u there e)) refl;
      alive = omega (arith, bound, same);
      plain = plain_ua (g + 1) (g + 1) ba o.plain;
    }

sabme_keeps : (w : Pair) (n : ℕ) (rest : List Signal) (a b : Side) → w.first ≡ a → Half a b (Sabme n ∷ rest) w.back → Half b a w.back (Sabme n ∷ rest) → Holds (sabme_comes w n rest b)
sabme_keeps w n rest (Off g) b is h o = let alive = h.alive in absurd (omega (arith, alive))
sabme_keeps w n rest (On g t) b is h o = let alive = h.alive in absurd (omega (arith, alive))
sabme_keeps w n rest (Calling ga) (Off g) is h o =
    let none = none_back (sabmes rest) (uas w.back) h.alive in record {
      one = subst (λ a. Half a (On (g + 1) n) rest (w.back ++ Ua (g + 1) ∷ [])) (sym is) (comes ga g n (Off g) rest w.back refl h);
      other = subst (λ a. Half (On (g + 1) n) a (w.back ++ Ua (g + 1) ∷ []) rest) (sym is) (comes_anew ga g n (Off g) rest w.back refl none.1 h.plain.0 o);
    }
sabme_keeps w n rest (Calling ga) (On g t) is h o =
    let none = none_back (sabmes rest) (uas w.back) h.alive in record {
      one = subst (λ a. Half a (On (g + 1) n) rest (w.back ++ Ua (g + 1) ∷ [])) (sym is) (comes ga g n (On g t) rest w.back refl h);
      other = subst (λ a. Half (On (g + 1) n) a (w.back ++ Ua (g + 1) ∷ []) rest) (sym is) (comes_anew ga g n (On g t) rest w.back refl none.1 h.plain.0 o);
    }
sabme_keeps w n rest (Calling ga) (Calling g) is h o =
    let none = none_back (sabmes rest) (uas w.back) h.alive in record {
      one = subst (λ a. Half a (Calling g) rest (w.back ++ Ua (g + 1) ∷ [])) (sym is) (crosses ga g n rest w.back h);
      other = subst (λ a. Half (Calling g) a (w.back ++ Ua (g + 1) ∷ []) rest) (sym is) (crosses_back ga g n rest w.back none.1 h.fits.0 o);
    }

-- ---- a UA comes

ua_keeps : (w : Pair) (u : ℕ) (rest : List Signal) (b : Side) → Half w.first b (Ua u ∷ rest) w.back → Half b w.first w.back (Ua u ∷ rest) → Holds (ua_comes w u rest b)
ua_keeps w u rest (Off g) h o = let alive = o.alive in absurd (omega (arith, alive))
ua_keeps w u rest (On g t) h o = let alive = o.alive in absurd (omega (arith, alive))
ua_keeps w u rest (Calling g) h o =
    let bound = o.alive in
    let none : sabmes w.back ≡ 0 = omega (arith, bound) in record {
      one = record { fits = h.fits.0; alive = h.alive; plain = h.plain };
      other = record {
        fits = change (Same (g + 1) u) (Same (g + 1) u) (Begun (g + 1)) (Begun (g + 1)) w.back (mode_of w.first) none (λ m e. e) o.fits;
        alive = omega (arith, bound);
        plain = plain_none (g + 1 + 1) w.back none;
      };
    }

-- ---- the oldest frame is numbered, or is lost

e_less : (b : Side) (u : ℕ) (m : Mode) → E_of b (Some u) m → E_of b None m
e_less (Off g) u m e = e
e_less (On g t) u m e = e
e_less (Calling g) u m e = more_weak g u m e

arrive_keeps : (w : Pair) (ts : List Signal) → Holds w → Half w.first w.second ts w.back → Half w.second w.first w.back ts → Holds (arrives w ts)
arrive_keeps w [] all h o = all
arrive_keeps w (Sabme n ∷ rest) all h o = sabme_keeps w n rest w.first w.second refl h o
arrive_keeps w (Ua u ∷ rest) all h o = ua_keeps w u rest w.second h o
arrive_keeps w (Numbered k l ∷ rest) all h o = record {
  one = record { fits = h.fits.1; alive = h.alive; plain = h.plain };
  other = record { fits = o.fits; alive = o.alive; plain = o.plain };
}

lose_keeps : (w : Pair) (ts : List Signal) → Holds w → Half w.first w.second ts w.back → Half w.second w.first w.back ts → Holds (loses w ts)
lose_keeps w [] all h o = all
lose_keeps w (Sabme n ∷ rest) all h o = let alive = h.alive in record {
  one = record { fits = h.fits.1; alive = omega (arith, alive); plain = h.plain.2 };
  other = record { fits = o.fits; alive = o.alive; plain = o.plain };
}
lose_keeps w (Ua u ∷ rest) all h o =
    let bound = o.alive in
    let most = call_at_most w.second in
    let none : uas rest ≡ 0 = omega (arith, bound, most) in record {
      one = record { fits = h.fits.1; alive = h.alive; plain = h.plain };
      other = record {
        fits = subst (λ k. Fits (E_of w.second k) (S_of w.second) (mode_of w.first) w.back) (sym (told_none rest none))
            (weaken (E_of w.second (Some u)) (E_of w.second None) (S_of w.second) w.back (mode_of w.first) (λ m e. e_less w.second u m e) o.fits);
        alive = omega (arith, bound);
        plain = o.plain;
      };
    }
lose_keeps w (Numbered k l ∷ rest) all h o = record {
  one = record { fits = h.fits.1; alive = h.alive; plain = h.plain };
  other = record { fits = o.fits; alive = o.alive; plain = o.plain };
}

-- ---- all

pub over : (w : Pair) → is_over w ≡ true → (sabmes w.there ≡ 0) × (uas w.back ≡ 0)
over w empty = none_left (same_least (eqb-true (sabmes w.there + uas w.back) 0 empty))
  where
    same_least : {a : ℕ} → a ≡ 0 → a ≤ 0
    same_least e = omega (arith, e)

pub happens_keeps : (w : Pair) (e : Happening) → Holds w → Holds (happens w e)
happens_keeps w Call h = calls_keep w w.first h h.one h.other
happens_keeps w Expire h = keep_if (is_over w) (calls_again w w.first) w (λ yes. let e = over w yes in again_keep w w.first h e.0 e.1 h.one h.other) (λ no_more. h)
happens_keeps w GiveUp h = keep_if (is_over w) (gives_up w w.first) w (λ yes. let e = over w yes in given_up_keep w w.first h e.0 e.1 h.one h.other) (λ no_more. h)
happens_keeps w Send h = sends_keep w w.first h h.one h.other
happens_keeps w Arrive h = arrive_keeps w w.there h h.one h.other
happens_keeps w Lose h = lose_keeps w w.there h h.one h.other

pub turned : (w : Pair) → Holds w → Holds (mirror w)
turned w h = record { one = h.other; other = h.one }

pub next_keeps : (w : Pair) (e : Event) → Holds w → Holds (next w e)
next_keeps w (First e) h = happens_keeps w e h
next_keeps w (Second e) h = turned (happens (mirror w) e) (happens_keeps (mirror w) e (turned w h))

all_keep : (es : List Event) (w : Pair) → Holds w → Holds (run es w)
all_keep [] w h = h
all_keep (e ∷ es) w h = all_keep es (next w e) (next_keeps w e h)

pub holds_always : (es : List Event) → Holds (run es start)
holds_always es = all_keep es start (record {
  one = record { fits = tt; alive = omega arith; plain = tt };
  other = record { fits = tt; alive = omega arith; plain = tt };
})

pub agrees_now : (w : Pair) (mine theirs number acknowledged : ℕ) (rest : List Signal) → Holds w → w.second ≡ On mine theirs → w.there ≡ Numbered number acknowledged ∷ rest → (number ≡ theirs) × (acknowledged ≡ mine)
agrees_now w mine theirs number acknowledged rest h on at =
    let f : Fits (E_of w.first (told w.back)) (S_of w.first) (mode_of w.second) w.there = h.one.fits in
    let g = subst (λ ts. Fits (E_of w.first (told w.back)) (S_of w.first) (mode_of w.second) ts) at f in
    let k = subst (λ b. Fits (E_of w.first (told w.back)) (S_of w.first) (mode_of b) (Numbered number acknowledged ∷ rest)) on g in k.0
