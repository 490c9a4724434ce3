-- Calls one after the other, of any emitter and any checker that keep their promises (document 01, "The two tables and the plan": how the calls
-- are chained). Each call is what it was handed, what it answered and what it left. Assumes nothing.
use Rattle.std.specs.Prelude.{◌≡◌, Bool, true, false, ◌&&◌, List, [], ◌∷◌, ◌++◌, ℕ, length, take, leb}
use Rattle.std.proofs.Math.Option.{Option, none, some}
use Rattle.railway.specs.declared.Railway.{Railway}
use Rattle.plan.specs.declared.PlanPlace.{PlanPlace}
use Rattle.plan.specs.Emitted.{Emitted, Line}
use Rattle.plan.specs.LineAnswer.{LineAnswer}
use Rattle.plan.specs.FrontAnswer.{FrontAnswer}
use Rattle.plan.specs.Emitter.{is_line}
use Rattle.plan.specs.Checker.{Checking, LineCalls, onward}
use Rattle.plan.specs.Promises.{EmitterPost, LinePost}
use Rattle.plan.specs.Several.{EmitLinesPost, FrontPost}

-- THE EMITTER'S CALLS. What they give: the lines written, and the answer that was no line; none if the buffers ran out before it.
pub record Emission : Type 0 where
  pub lines : List (List ℕ)
  pub last : Option Emitted

-- Calls from a place on, with a buffer for each, every next one from the place that the last one answered, until an answer that is no line.
pub data Emitting (r : Railway) (figs sets : List ℕ) : PlanPlace → List (List ℕ) → Emission → Type 0 where
  unasked : (place : PlanPlace) → Emitting r figs sets place [] (record { lines = []; last = none })
  wrote : (place next : PlanPlace) (n : ℕ) (b b' : List ℕ) (bs : List (List ℕ)) (e : Emission) → EmitterPost r figs sets place b (Line n next) b'
      → Emitting r figs sets next bs e → Emitting r figs sets place (b ∷ bs) (record { lines = take n b' ∷ e.lines; last = e.last })
  stopped : (place : PlanPlace) (a : Emitted) (b b' : List ℕ) (bs : List (List ℕ)) → is_line a ≡ false → EmitterPost r figs sets place b a b'
      → Emitting r figs sets place (b ∷ bs) (record { lines = []; last = some a })

-- The same with one buffer for all lines: each call is handed it as the last one left it.
pub data EmittingInto (r : Railway) (figs sets : List ℕ) : PlanPlace → List ℕ → Emission → Type 0 where
  wrote : (place next : PlanPlace) (n : ℕ) (b b' : List ℕ) (e : Emission) → EmitterPost r figs sets place b (Line n next) b'
      → EmittingInto r figs sets next b' e → EmittingInto r figs sets place b (record { lines = take n b' ∷ e.lines; last = e.last })
  stopped : (place : PlanPlace) (a : Emitted) (b b' : List ℕ) → is_line a ≡ false → EmitterPost r figs sets place b a b'
      → EmittingInto r figs sets place b (record { lines = []; last = some a })

-- Buffers long enough: for each line one that it fits into, and one more for the call after the last.
unfoldable pub long_enough : List (List ℕ) → List (List ℕ) → Bool
long_enough ls [] = false
long_enough [] (b ∷ bs) = true
long_enough (l ∷ ls) (b ∷ bs) = leb (length l) (length b) && long_enough ls bs

-- THE CHECKER'S CALLS for lines, the first handed c, and every next one the state and the tables that the last one left.
pub data Taking (r : Railway) : Checking → List (List ℕ) → LineCalls → Type 0 where
  no_more : (c : Checking) → Taking r c [] (record { answers = []; end = c })
  one_more : (c c' : Checking) (a : LineAnswer) (text : List ℕ) (texts : List (List ℕ)) (u : LineCalls) → LinePost r c text a c'
      → Taking r c' texts u → Taking r c (text ∷ texts) (onward a u)

-- SEVERAL LINES A CALL. What the emitter's calls give: all bytes written, one behind the other, and the answer that was no line.
pub record Writing : Type 0 where
  pub text : List ℕ
  pub last : Emitted

-- Such calls from a place on with one buffer, each handed it as the last one left it, every next one from the place that the last one answered.
pub data EmittingLines (r : Railway) (figs sets : List ℕ) : PlanPlace → List ℕ → Writing → Type 0 where
  wrote : (place next : PlanPlace) (n : ℕ) (b b' : List ℕ) (w : Writing) → EmitLinesPost r figs sets place b (Line n next) b'
      → EmittingLines r figs sets next b' w → EmittingLines r figs sets place b (record { text = take n b' ++ w.text; last = w.last })
  stopped : (place : PlanPlace) (a : Emitted) (b b' : List ℕ) → is_line a ≡ false → EmitLinesPost r figs sets place b a b'
      → EmittingLines r figs sets place b (record { text = []; last = a })

-- What the checker's calls give: the answers, and state and tables that they leave in the end.
pub record FrontCalls : Type 0 where
  pub answers : List FrontAnswer
  pub end : Checking

-- A call's answer, before those of the calls that follow it.
abbrev pub onward_front : FrontAnswer → FrontCalls → FrontCalls
onward_front a u = record { answers = a ∷ u.answers; end = u.end }

-- Its calls for the lines in front of texts, the first handed c, and every next one the state and the tables that the last one left.
pub data TakingFronts (r : Railway) : Checking → List (List ℕ) → FrontCalls → Type 0 where
  no_more : (c : Checking) → TakingFronts r c [] (record { answers = []; end = c })
  one_more : (c c' : Checking) (a : FrontAnswer) (text : List ℕ) (texts : List (List ℕ)) (u : FrontCalls) → FrontPost r c text a c'
      → TakingFronts r c' texts u → TakingFronts r c (text ∷ texts) (onward_front a u)
