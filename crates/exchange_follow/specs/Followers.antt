-- The statements of a follower's contracts: on its whole value, by the members of its meters (m), its engine (c) and its
-- fabric (f). Source: this project.
use Rattle.std.specs.Prelude.{◌≡◌, ℕ, List, [], ◌∷◌, ◌++◌, ◌+◌, Option}
use Rattle.std.specs.declared.alloc.Global.{Global}
use Rattle.std.specs.declared.dyn_box.DynBox.{DynBox}
use Rattle.std.specs.declared.vec.Vec.{Vec}
use Rattle.exchange_events.specs.declared.record.CallRecord.{CallRecord}
use Rattle.frame_engine.specs.declared.carrier.Carrier.{Ghosts as CarrierKind}
use Rattle.line_wire.specs.Following.{CountsReads, CountsWrites, Dues, HasFollowed, status_of}
use Rattle.line_wire.specs.Progress.{HasStopped, IsUnderway, OwesText}
use Rattle.line_wire.specs.declared.following.Following.{Following}
use Rattle.line_wire.specs.declared.wire.Wire.{Ghosts as WireKind}
use Rattle.meters.specs.Changing.{handed_in, steps_text}
use Rattle.meters.specs.declared.meter.Meter.{Ghosts as MeterKind}
use Rattle.trace_text.specs.TraceWords.{lines as lines_of}
use Rattle.linked_text.specs.declared.said.LinkHappening.{LinkHappening}
use Rattle.control_memory.specs.declared.fabric.Fabric.{Ghosts as FabricKind}
use Rattle.exchange_follow.specs.declared.follower.TraceFollower.{TraceFollower}
use Rattle.exchange_follow.specs.Following.{Course, FollowParties, FollowsTo, IsAnswered, IsInterrupted, course, follow_parties}
use Rattle.exchange_follow.specs.Handling.{HasRead, handler_dues}

-- ---- the call

-- the members of a boxed meter
module _ {V : Type 0} {F : V → Type 0} (m : (v : V) → MeterKind (F v)) where
  abbrev pub meter_stands : DynBox V Global F → List CallRecord → Type 0
  meter_stands b = (m b.vtable).stands b.value

  abbrev pub meter_text : DynBox V Global F → List CallRecord → List ℕ
  meter_text b = (m b.vtable).text b.value

module _ {V : Type 0} {F : V → Type 0} {E : Type 0} (m : (v : V) → MeterKind (F v)) (c : CarrierKind E) where
  -- the other side relies only on this: exactly the text of all whole lines was written, from these meters on
  abbrev pub ReliesBy : ℕ → (ℕ → ℕ) → (on spare : List (DynBox V Global F)) → (relies : List ℕ → List ℕ → Type 0) → Type 0
  ReliesBy slots moves on spare relies =
      (heard said : List ℕ) → IsAnswered c.plays slots moves (λ steps. steps_text (meter_text m) steps (handed_in on spare)) heard said
      → relies heard said

  -- the parties of a call
  abbrev pub parties_by : ℕ → (ℕ → ℕ) → Option E → (old old_spare new new_spare : List (DynBox V Global F)) → FollowParties
  parties_by slots moves engine =
      follow_parties c.plays slots moves c.sizes c.carries engine (meter_stands m) (meter_text m)

-- The call ended with this status, with the facts for its ending. Statuses 3 and 4 occur only after an error was counted,
-- and no other status hides one.
abbrev pub FollowEnds : {W : Type 0} → WireKind W → (before after : W) → FollowParties → ℕ → Type 0
FollowEnds k before after x status = (ending : Following) × (status ≡ status_of ending)
    × FollowsTo x (k.stands after) (k.ended after) ending
    × CountsReads ending (k.read_faults before) (k.read_faults after) × CountsWrites ending (k.write_faults before) (k.write_faults after)

-- ---- the lines of a call

module _ {V : Type 0} {F : V → Type 0} {P E R : Type 0} (m : (v : V) → MeterKind (F v)) (c : CarrierKind E) (f : FabricKind P) where
  -- the parameters of the story of the lines that this follower processed, if these were the meters before the first
  abbrev pub course_from : (old old_spare : List (DynBox V Global F)) → TraceFollower P E R V F → Course
  course_from old old_spare x = course c.plays f.slots f.moves (meter_stands m) (meter_text m) old old_spare x.on.items x.spare.items

  abbrev pub dues_from : (old old_spare : List (DynBox V Global F)) → TraceFollower P E R V F → Dues
  dues_from old old_spare x =
      handler_dues (meter_stands m) (meter_text m) c.carries c.next c.sizes c.plays f.slots f.moves old old_spare x.on.items x.spare.items x.heading x.lines x.exchange x.linked

  -- the same, once one more line is counted
  abbrev pub dues_counted : (old old_spare : List (DynBox V Global F)) → TraceFollower P E R V F → Dues
  dues_counted old old_spare x =
      handler_dues (meter_stands m) (meter_text m) c.carries c.next c.sizes c.plays f.slots f.moves old old_spare x.on.items x.spare.items x.heading (x.lines + 1) x.exchange x.linked

  -- ---- one line

  -- the follower processed some lines
  abbrev pub IsFollowing : TraceFollower P E R V F → Type 0
  IsFollowing x = (old old_spare : List (DynBox V Global F)) × (ls : List (List ℕ)) × (said : List ℕ) × (dues_from old old_spare x).answers ls said

  -- it processed some lines and read a further one, at which this happens
  abbrev pub HasReadFrom : (old old_spare : List (DynBox V Global F)) → TraceFollower P E R V F → List (List ℕ) → List ℕ → List ℕ → LinkHappening → Type 0
  HasReadFrom old old_spare x ls line said hap = HasRead c.carries c.next c.sizes (course_from old old_spare x) x.heading x.lines x.exchange x.linked ls line said hap

  abbrev pub IsAtLine : TraceFollower P E R V F → LinkHappening → Type 0
  IsAtLine x hap = (old old_spare : List (DynBox V Global F)) × (ls : List (List ℕ)) × (line : List ℕ) × (said : List ℕ) × HasReadFrom old old_spare x ls line said hap

  -- processing this line takes the follower from x to y, and the octets due from t to u; the line is not counted yet
  abbrev pub TakesLine : (x y : TraceFollower P E R V F) → LinkHappening → (t u : Vec ℕ Global) → Type 0
  TakesLine x y hap t u = (old old_spare : List (DynBox V Global F)) (ls : List (List ℕ)) (line front : List ℕ) → HasReadFrom old old_spare x ls line (front ++ t.items) hap
      → (dues_counted old old_spare y).answers (ls ++ line ∷ []) (front ++ u.items)

  -- an allocation failed in it
  abbrev pub StrandsIn : (x y : TraceFollower P E R V F) → LinkHappening → (t u : Vec ℕ Global) → Type 0
  StrandsIn x y hap t u = (old old_spare : List (DynBox V Global F)) (ls : List (List ℕ)) (line front : List ℕ) → HasReadFrom old old_spare x ls line (front ++ t.items) hap
      → IsInterrupted (course_from old old_spare y) (ls ++ line ∷ []) (front ++ u.items)

  -- the same before the line is read; the line is refused; an allocation failed in it
  abbrev pub HandlesLine : (x y : TraceFollower P E R V F) (line : List ℕ) → (t u : Vec ℕ Global) → Type 0
  HandlesLine x y line t u = (old old_spare : List (DynBox V Global F)) (ls : List (List ℕ)) (front : List ℕ) → (dues_from old old_spare x).answers ls (front ++ t.items)
      → (dues_from old old_spare y).answers (ls ++ line ∷ []) (front ++ u.items)

  abbrev pub RefusesLine : (x y : TraceFollower P E R V F) (line : List ℕ) → (t u : Vec ℕ Global) → Type 0
  RefusesLine x y line t u = (old old_spare : List (DynBox V Global F)) (ls : List (List ℕ)) (front : List ℕ) → (dues_from old old_spare x).answers ls (front ++ t.items)
      → (dues_from old old_spare y).refuses (ls ++ line ∷ []) (front ++ u.items)

  abbrev pub StrandsAt : (x y : TraceFollower P E R V F) (line : List ℕ) → (t u : Vec ℕ Global) → Type 0
  StrandsAt x y line t u = (old old_spare : List (DynBox V Global F)) (ls : List (List ℕ)) (front : List ℕ) → (dues_from old old_spare x).answers ls (front ++ t.items)
      → (dues_from old old_spare y).strands (ls ++ line ∷ []) (front ++ u.items)

  -- the input ends after all lines; it is refused because it ends; an allocation failed at its end
  abbrev pub FinishesLines : (x y : TraceFollower P E R V F) (t u : Vec ℕ Global) → Type 0
  FinishesLines x y t u = (old old_spare : List (DynBox V Global F)) (ls : List (List ℕ)) (front : List ℕ) → (dues_from old old_spare x).answers ls (front ++ t.items)
      → (dues_from old old_spare y).ends ls (front ++ u.items)

  abbrev pub RefusesEnd : (x y : TraceFollower P E R V F) (t u : Vec ℕ Global) → Type 0
  RefusesEnd x y t u = (old old_spare : List (DynBox V Global F)) (ls : List (List ℕ)) (front : List ℕ) → (dues_from old old_spare x).answers ls (front ++ t.items)
      → (dues_from old old_spare y).refuses_end ls (front ++ u.items)

  abbrev pub StrandsEnd : (x y : TraceFollower P E R V F) (t u : Vec ℕ Global) → Type 0
  StrandsEnd x y t u = (old old_spare : List (DynBox V Global F)) (ls : List (List ℕ)) (front : List ℕ) → (dues_from old old_spare x).answers ls (front ++ t.items)
      → (dues_from old old_spare y).strands ls (front ++ u.items)

  -- ---- the lines of a wire, of which `before` and `after` state the octets read and written

  -- the follower processed some lines, and the text is the end of the octets that are due
  abbrev pub IsPending : TraceFollower P E R V F → Vec ℕ Global → Type 0
  IsPending x t = (old old_spare : List (DynBox V Global F)) × (done : List (List ℕ)) × (front : List ℕ) × (dues_from old old_spare x).answers done (front ++ t.items)

  -- the line ends the call
  abbrev pub StopsLine : Following → (x y : TraceFollower P E R V F) (line : List ℕ) → (t u : Vec ℕ Global) → Type 0
  StopsLine why x y line t u = (old old_spare : List (DynBox V Global F)) (done : List (List ℕ)) (front : List ℕ) → (dues_from old old_spare x).answers done (front ++ t.items)
      → HasStopped why (dues_from old old_spare y) done line (front ++ u.items)

  -- all octets that are due for some lines were written, except the text
  abbrev pub OwesFrom : (stood : List ℕ → List ℕ → Type 0) (old old_spare : List (DynBox V Global F)) → TraceFollower P E R V F → List ℕ → List (List ℕ) → Vec ℕ Global → Type 0
  OwesFrom stood old old_spare x heard done t = OwesText stood (dues_from old old_spare x).answers heard done t.items x.lines

  abbrev pub IsOwing : (stood : List ℕ → List ℕ → Type 0) → TraceFollower P E R V F → Vec ℕ Global → Type 0
  IsOwing stood x t = (old old_spare : List (DynBox V Global F)) × (heard : List ℕ) × (done : List (List ℕ)) × OwesFrom stood old old_spare x heard done t

  abbrev pub OwesLine : (before after : List ℕ → List ℕ → Type 0) (x y : TraceFollower P E R V F) (line : List ℕ) → (t u : Vec ℕ Global) → Type 0
  OwesLine before after x y line t u = (old old_spare : List (DynBox V Global F)) (heard : List ℕ) (done : List (List ℕ)) → OwesFrom before old old_spare x heard done t
      → OwesFrom after old old_spare y heard (done ++ line ∷ []) u

  abbrev pub StopsOwing : Following → (before after : List ℕ → List ℕ → Type 0) (x y : TraceFollower P E R V F) (line : List ℕ) → (t u : Vec ℕ Global) → Type 0
  StopsOwing why before after x y line t u = (old old_spare : List (DynBox V Global F)) (heard : List ℕ) (done : List (List ℕ)) → OwesFrom before old old_spare x heard done t
      → (said : List ℕ) × after heard said × HasStopped why (dues_from old old_spare y) done line (said ++ u.items)

  -- the same for all lines before the octets `rest`
  abbrev pub IsUnderFrom : (stood : List ℕ → List ℕ → Type 0) (old old_spare : List (DynBox V Global F)) → TraceFollower P E R V F → (heard rest : List ℕ) → Vec ℕ Global → Type 0
  IsUnderFrom stood old old_spare x heard rest t = IsUnderway stood (dues_from old old_spare x).answers heard rest t.items x.lines

  abbrev pub IsUnder : (stood : List ℕ → List ℕ → Type 0) → TraceFollower P E R V F → (rest : List ℕ) → Vec ℕ Global → Type 0
  IsUnder stood x rest t = (old old_spare : List (DynBox V Global F)) × (heard : List ℕ) × IsUnderFrom stood old old_spare x heard rest t

  abbrev pub GoesOn : (before after : List ℕ → List ℕ → Type 0) (x y : TraceFollower P E R V F) (rest left : List ℕ) → (t u : Vec ℕ Global) → Type 0
  GoesOn before after x y rest left t u = (old old_spare : List (DynBox V Global F)) (heard : List ℕ) → IsUnderFrom before old old_spare x heard rest t
      → IsUnderFrom after old old_spare y heard left u

  -- all lines of the input were processed
  abbrev pub GoesToEnd : (before after : List ℕ → List ℕ → Type 0) (x y : TraceFollower P E R V F) (rest : List ℕ) → (t u : Vec ℕ Global) → Type 0
  GoesToEnd before after x y rest t u = (old old_spare : List (DynBox V Global F)) (heard : List ℕ) → IsUnderFrom before old old_spare x heard rest t
      → OwesFrom after old old_spare y heard (lines_of heard) u

  -- the call ends; it processes the end of the input only if the input has ended
  abbrev pub EndsIn : Following → (before after : List ℕ → List ℕ → Type 0) (ended : Type 0) (x y : TraceFollower P E R V F) (rest : List ℕ) → (t u : Vec ℕ Global) → Type 0
  EndsIn why before after ended x y rest t u = (old old_spare : List (DynBox V Global F)) (heard : List ℕ) → IsUnderFrom before old old_spare x heard rest t
      → (said : List ℕ) × after heard said × HasFollowed ended why (dues_from old old_spare y) heard (said ++ u.items)

  -- ---- the call

  -- the follower processed no line
  abbrev pub IsUnread : TraceFollower P E R V F → Type 0
  IsUnread x = (dues_from x.on.items x.spare.items x).answers [] []

  -- the call ended for this cause, and the text is still to be written
  abbrev pub EndsWith : Following → (after : List ℕ → List ℕ → Type 0) (ended : Type 0) (x y : TraceFollower P E R V F) → Vec ℕ Global → Type 0
  EndsWith why after ended x y t = (heard : List ℕ) × (said : List ℕ) × after heard said
      × HasFollowed ended why (dues_from x.on.items x.spare.items y) heard (said ++ t.items)

  -- the call ended for this cause
  abbrev pub Ends : Following → (after : List ℕ → List ℕ → Type 0) (ended : Type 0) (x y : TraceFollower P E R V F) → Type 0
  Ends why after ended x y = (heard : List ℕ) × (said : List ℕ) × after heard said
      × HasFollowed ended why (dues_from x.on.items x.spare.items y) heard said
