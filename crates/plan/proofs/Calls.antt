-- Calls that keep their promises are those of the functions that Emitter and Checker define: each answers and leaves what the function does, so
-- what follows it is handed the same. And the functions' own calls are such calls. Assumes nothing.
use mathlib.Core.Path.{◌≡◌, refl}
use mathlib.Core.Bool.{false}
use mathlib.Core.List.{List, [], ◌∷◌}
use mathlib.Core.Option.{Option, none, some}
use Prim.Native.Nat.{ℕ}
use lib.ListN.{take}
use Rattle.laws.proofs.Bools.{clash}
use Rattle.railway.specs.declared.Railway.{Railway}
use Rattle.railway.specs.declared.Refusal.{Refusal}
use Rattle.railway.specs.Refusals.{number_of}
use Rattle.game_tables.specs.Tables.{case_refusal}
use Rattle.plan.specs.declared.PlanPlace.{PlanPlace}
use Rattle.plan.specs.Emitted.{Emitted, Line, End, NoPlan, Refused}
use Rattle.plan.specs.Emitter.{is_line, Wrote, emit_line}
use Rattle.plan.specs.Checker.{Checking, take_line, LineCalls, call_lines}
use Rattle.plan.specs.Promises.{EmitterPost}
use Rattle.plan.specs.Several.{lines_of, front_of, front_number, front_leaves, take_front, FrontPost}
use Rattle.plan.specs.Calls.{Emission, Emitting, unasked, wrote, stopped, Taking, no_more, one_more, FrontCalls, onward_front, TakingFronts}
use Rattle.plan.proofs.Promises.{emits-so, takes-so}

-- THE EMITTER. The calls after one that left this, by the place from which they start.
abbrev pub going_onward : List ℕ → Emitted → (PlanPlace → Emission) → Emission
going_onward buffer (Line n next) rest = record { lines = take n buffer ∷ (rest next).lines; last = (rest next).last }
going_onward buffer End rest = record { lines = []; last = some End }
going_onward buffer NoPlan rest = record { lines = []; last = some NoPlan }
going_onward buffer (Refused f) rest = record { lines = []; last = some (Refused f) }

unfoldable pub emission : Railway → List ℕ → List ℕ → List (List ℕ) → PlanPlace → Emission
emission r figs sets [] place = record { lines = []; last = none }
emission r figs sets (b ∷ bs) place = going_onward (emit_line r figs sets place b).buffer (emit_line r figs sets place b).answer (emission r figs sets bs)

stop : (a : Emitted) (buffer : List ℕ) (rest : PlanPlace → Emission) → is_line a ≡ false → record { lines = []; last = some a } ≡ going_onward buffer a rest
stop (Line n next) buffer rest e = clash refl e
stop End buffer rest e = refl
stop NoPlan buffer rest e = refl
stop (Refused f) buffer rest e = refl

module _ (r : Railway) (figs sets : List ℕ) where
  pub emitting-one : (place : PlanPlace) (bs : List (List ℕ)) (e : Emission) → Emitting r figs sets place bs e → e ≡ emission r figs sets bs place
  unfolding emission
  emitting-one place [] e (unasked _) = refl
  emitting-one place (b ∷ bs) e (wrote _ next n _ b' _ rest p more) = rw (← p.answer, ← p.buffer, emitting-one next bs rest more)
  emitting-one place (b ∷ bs) e (stopped _ a _ b' _ i p) = rw (← p.answer, ← p.buffer) (stop a b' (emission r figs sets bs) i)

  emitting-step : (place : PlanPlace) (b : List ℕ) (bs : List (List ℕ)) (a : Emitted) (b' : List ℕ) → EmitterPost r figs sets place b a b'
      → ((next : PlanPlace) → Emitting r figs sets next bs (emission r figs sets bs next)) → Emitting r figs sets place (b ∷ bs) (going_onward b' a (emission r figs sets bs))
  emitting-step place b bs (Line n next) b' p rest = wrote place next n b b' bs (emission r figs sets bs next) p (rest next)
  emitting-step place b bs End b' p rest = stopped place End b b' bs refl p
  emitting-step place b bs NoPlan b' p rest = stopped place NoPlan b b' bs refl p
  emitting-step place b bs (Refused f) b' p rest = stopped place (Refused f) b b' bs refl p

  pub emitting : (bs : List (List ℕ)) (place : PlanPlace) → Emitting r figs sets place bs (emission r figs sets bs place)
  unfolding emission
  emitting [] place = unasked place
  emitting (b ∷ bs) place =
      let w : Wrote = emit_line r figs sets place b in
      emitting-step place b bs w.answer w.buffer (emits-so r figs sets place b w refl) (emitting bs)

-- THE CHECKER
pub taking-one : (r : Railway) (c : Checking) (texts : List (List ℕ)) (u : LineCalls) → Taking r c texts u → u ≡ call_lines r texts c
unfolding call_lines
taking-one r c [] u (no_more _) = refl
taking-one r c (l ∷ ls) u (one_more _ c' a _ _ v p more) = rw (← p.answer, ← p.checking, taking-one r c' ls v more)

pub taking : (r : Railway) (texts : List (List ℕ)) (c : Checking) → Taking r c texts (call_lines r texts c)
unfolding call_lines
taking r [] c = no_more c
taking r (l ∷ ls) c =
    one_more c (take_line r c l).checking (take_line r c l).answer l ls (call_lines r ls (take_line r c l).checking) (takes-so r c l (take_line r c l) refl)
    (taking r ls (take_line r c l).checking)

-- SEVERAL LINES A CALL, of the checker
unfoldable pub call_fronts : Railway → List (List ℕ) → Checking → FrontCalls
call_fronts r [] c = record { answers = []; end = c }
call_fronts r (text ∷ texts) c = onward_front (take_front r c text).answer (call_fronts r texts (take_front r c text).checking)

pub fronts-one : (r : Railway) (c : Checking) (texts : List (List ℕ)) (u : FrontCalls) → TakingFronts r c texts u → u ≡ call_fronts r texts c
unfolding call_fronts
fronts-one r c [] u (no_more _) = refl
fronts-one r c (l ∷ ls) u (one_more _ c' a _ _ v p more) = rw (← p.answer, ← p.checking, fronts-one r c' ls v more)

front-so : (r : Railway) (c : Checking) (text : List ℕ) → FrontPost r c text (take_front r c text).answer (take_front r c text).checking
unfolding take_front
front-so r c text = record { answer = refl; numbered = go (case_refusal r c.figs c.sets); checking = refl }
  where
    go : (o : Option Refusal) → front_number (front_leaves c (front_of r (lines_of text) c) o).answer ≡ number_of o
    go none = refl
    go (some f) = refl

pub fronts : (r : Railway) (texts : List (List ℕ)) (c : Checking) → TakingFronts r c texts (call_fronts r texts c)
unfolding call_fronts
fronts r [] c = no_more c
fronts r (l ∷ ls) c =
    one_more c (take_front r c l).checking (take_front r c l).answer l ls (call_fronts r ls (take_front r c l).checking) (front-so r c l) (fronts r ls (take_front r c l).checking)
