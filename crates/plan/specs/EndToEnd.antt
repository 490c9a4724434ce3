-- The one statement about solver, emitter and checker together, over whole plays and all calls (document 01, "Agreement": demand 3).
-- It is about any solver, any emitter and any checker: of each call only its promise is used (game_tables/Solver; Promises, Calls). Assumes nothing.
use Rattle.std.specs.Prelude.{◌≡◌, Bool, true, cond, not, ◌&&◌, ◌||◌, List, [], ◌∷◌, ◌++◌, map, ℕ, ◌≤◌, ◌<◌, length, get_or, leb, eqb}
use Rattle.std.proofs.Math.Option.{none, some}
use Rattle.laws.specs.Lists.{all}
use Rattle.text.specs.Text.{line_end}
use Rattle.railway.specs.declared.Railway.{Railway}
use Rattle.railway.specs.CaseAnswer.{CaseAnswer}
use Rattle.railway.specs.Rows.{record_refusal}
use Rattle.game.specs.Claim.{Whole}
use Rattle.game.specs.Placement.{placements, start_code}
use Rattle.game.specs.Moves.{game_of}
use Rattle.game_tables.specs.SolverAnswer.{SolverAnswer}
use Rattle.game_tables.specs.Tables.{figure_in, setting_in, IsPlanEntry}
use Rattle.game_tables.specs.Solver.{number_given, figure_given, SolverPost}
use Rattle.plan.specs.declared.PlanPlace.{PlanPlace}
use Rattle.plan.specs.declared.PlanPlace.TheVariants.{Top}
use Rattle.plan.specs.Emitted.{Emitted, End, NoPlan}
use Rattle.plan.specs.LineAnswer.{LineAnswer}
use Rattle.plan.specs.FrontAnswer.{FrontAnswer, Took, Refused}
use Rattle.plan.specs.TestAnswer.{TestAnswer, Pass}
use Rattle.plan.specs.Lines.{most_line_bytes}
use Rattle.plan.specs.Text.{plan_texts, plan_text}
use Rattle.plan.specs.Checker.{Checking, LineCalls, is_taken}
use Rattle.plan.specs.Promises.{EmitterPost, TestPost, FreshPost}
use Rattle.plan.specs.Several.{EmitLinesPost}
use Rattle.plan.specs.Calls.{Emission, Emitting, EmittingInto, long_enough, Taking, Writing, EmittingLines, FrontCalls, TakingFronts}

-- A text handed to the checker: a line of the plan, or another one.
pub record Handed : Type 0 where
  pub own : Bool
  pub text : List ℕ

-- The lines of the plan among the texts handed in.
unfoldable pub own_texts : List Handed → List (List ℕ)
own_texts [] = []
own_texts (h ∷ hs) = cond h.own (h.text ∷ own_texts hs) (own_texts hs)

-- Every other text was refused.
unfoldable pub others_refused : List Handed → List LineAnswer → Bool
others_refused [] answers = true
others_refused (h ∷ hs) [] = true
others_refused (h ∷ hs) (a ∷ answers) = (h.own || not (is_taken a)) && others_refused hs answers

-- Taken were the lines of the plan, and no other text; the test was then answered with pass.
pub record Passed (hs : List Handed) (answers : List LineAnswer) (test : TestAnswer) : Type 0 where
  pub taken : map is_taken answers ≡ map (λ h. h.own) hs
  pub passes : test ≡ Pass

-- A text handed to the checker for the lines in front of it: bytes of the plan, and others behind them.
pub record HandedFront : Type 0 where
  pub own : List ℕ
  pub other : List ℕ

-- As it is handed in.
abbrev pub front_text : HandedFront → List ℕ
front_text h = h.own ++ h.other

-- The bytes of the plan among the texts handed in.
unfoldable pub own_bytes : List HandedFront → List ℕ
own_bytes [] = []
own_bytes (h ∷ hs) = h.own ++ own_bytes hs

-- Whole lines: there are none, or the last byte ends one.
unfoldable pub ends_line : List ℕ → Bool
ends_line [] = true
ends_line (b ∷ []) = eqb b line_end
ends_line (b ∷ c ∷ bs) = ends_line (c ∷ bs)

-- How many bytes a call took.
abbrev pub bytes_taken : FrontAnswer → ℕ
bytes_taken (Took n) = n
bytes_taken (Refused f) = 0

-- No call took a byte behind those of the plan.
unfoldable pub others_left : List HandedFront → List FrontAnswer → Bool
others_left [] answers = true
others_left (h ∷ hs) [] = true
others_left (h ∷ hs) (a ∷ answers) = leb (bytes_taken a) (length h.own) && others_left hs answers

-- Taken were the bytes of the plan, all of them; the test was then answered with pass.
pub record PassedFronts (hs : List HandedFront) (answers : List FrontAnswer) (test : TestAnswer) : Type 0 where
  pub taken : answers ≡ map (λ h. Took (length h.own)) hs
  pub passes : test ≡ Pass

-- What holds in an accepted case of the solver's answer, of the two tables that it left, and of all calls that are made with them.
pub record EndToEnd (r : Railway) (a : SolverAnswer) (figs sets : List ℕ) : Type 0 where
  -- the solver refused nothing, and answered the start's figure or that there is none
  pub solved : number_given a ≡ none
  pub answer : figure_given a ≡ figure_in figs (start_code r)
  -- code by code, an entry of the setting table is that of the plan's setting
  pub settings : (p : ℕ) → p < placements r → IsPlanEntry r (figure_in figs) p (figure_in figs p) (get_or sets p 0)
  -- of whole plays: code by code, the figure table has the placement's figure (`plays.figures`); the settings lead home within that total, no way of
  -- working does better against all choices of trains, a figure is missing just where no way comes home against them all, and one choice of
  -- trains wins from all those placements
  pub plays : Whole (game_of r) (figure_in figs) (setting_in r sets)
  -- the emitter's calls, with buffers long enough, write the plan, byte for byte, and end
  pub emits : (n : ℕ) → figure_in figs (start_code r) ≡ some n → (buffers : List (List ℕ)) (e : Emission) → Emitting r figs sets Top buffers e
      → long_enough (plan_texts r figs sets) buffers ≡ true → e ≡ record { lines = plan_texts r figs sets; last = some End }
  -- and buffers that have room for every line are long enough, if there is one for each of the plan's lines and one more
  pub room : (n : ℕ) → figure_in figs (start_code r) ≡ some n → (buffers : List (List ℕ)) → all (λ b. leb most_line_bytes (length b)) buffers ≡ true
      → length (plan_texts r figs sets) < length buffers → long_enough (plan_texts r figs sets) buffers ≡ true
  -- one buffer with room for every line will do for all of them, handed on from call to call
  pub emits-into : (n : ℕ) → figure_in figs (start_code r) ≡ some n → (buffer : List ℕ) (e : Emission) → EmittingInto r figs sets Top buffer e
      → most_line_bytes ≤ length buffer → e ≡ record { lines = plan_texts r figs sets; last = some End }
  -- where the start has no figure every call answers none, and writes nothing
  pub emits_none : figure_in figs (start_code r) ≡ none → (place : PlanPlace) (b b' : List ℕ) (e : Emitted) → EmitterPost r figs sets place b e b'
      → (e ≡ NoPlan) × (b' ≡ b)
  -- the checker's calls for the plan's lines in their order, with any others that it refuses anywhere among them, from fresh tables that are
  -- long enough: it takes those of the plan and no others, and then answers pass to the call for the test
  pub checks : (n : ℕ) → figure_in figs (start_code r) ≡ some n
      → (lent₁ lent₂ : List ℕ) (made : CaseAnswer) (c : Checking) → placements r ≤ length lent₁ → placements r ≤ length lent₂ → FreshPost r lent₁ lent₂ made c
      → (hs : List Handed) (u : LineCalls) → Taking r c (map (λ h. h.text) hs) u → own_texts hs ≡ plan_texts r figs sets → others_refused hs u.answers ≡ true
      → (test : TestAnswer) (c' : Checking) → TestPost r u.end test c' → Passed hs u.answers test
  -- in one chain: the lines that the emitter's calls gave, whatever they are, are those that the checker's calls are handed, with any others that it
  -- refuses anywhere among them; the emitter's calls end where the plan does, and the checker's with pass
  pub chain : (n : ℕ) → figure_in figs (start_code r) ≡ some n
      → (buffer : List ℕ) (e : Emission) → EmittingInto r figs sets Top buffer e → most_line_bytes ≤ length buffer
      → (lent₁ lent₂ : List ℕ) (made : CaseAnswer) (c : Checking) → placements r ≤ length lent₁ → placements r ≤ length lent₂ → FreshPost r lent₁ lent₂ made c
      → (hs : List Handed) (u : LineCalls) → Taking r c (map (λ h. h.text) hs) u → own_texts hs ≡ e.lines → others_refused hs u.answers ≡ true
      → (test : TestAnswer) (c' : Checking) → TestPost r u.end test c' → (e.last ≡ some End) × Passed hs u.answers test
  -- several lines a call. The emitter's calls, with one buffer with room for every line: what they write is the plan, byte for byte, and they end
  pub emits-lines : (n : ℕ) → figure_in figs (start_code r) ≡ some n → (buffer : List ℕ) (w : Writing) → EmittingLines r figs sets Top buffer w
      → most_line_bytes ≤ length buffer → w ≡ record { text = plan_text r figs sets; last = End }
  -- where the start has no figure they too answer none, and write nothing
  pub emits-lines-none : figure_in figs (start_code r) ≡ none → (place : PlanPlace) (b b' : List ℕ) (e : Emitted)
      → EmitLinesPost r figs sets place b e b' → (e ≡ NoPlan) × (b' ≡ b)
  -- the checker's calls for texts that have the plan's lines in front, in their order, cut at the end of any line, and behind them any bytes that it does not
  -- take: it takes those of the plan, and then answers pass to the call for the test
  pub checks-fronts : (n : ℕ) → figure_in figs (start_code r) ≡ some n
      → (lent₁ lent₂ : List ℕ) (made : CaseAnswer) (c : Checking) → placements r ≤ length lent₁ → placements r ≤ length lent₂ → FreshPost r lent₁ lent₂ made c
      → (hs : List HandedFront) (u : FrontCalls) → TakingFronts r c (map front_text hs) u → own_bytes hs ≡ plan_text r figs sets → all (λ h. ends_line h.own) hs ≡ true
      → others_left hs u.answers ≡ true → (test : TestAnswer) (c' : Checking) → TestPost r u.end test c' → PassedFronts hs u.answers test
  -- in one chain: the bytes that the emitter's calls gave, whatever they are, are those that the checker's calls have in front
  pub chain-lines : (n : ℕ) → figure_in figs (start_code r) ≡ some n
      → (buffer : List ℕ) (w : Writing) → EmittingLines r figs sets Top buffer w → most_line_bytes ≤ length buffer
      → (lent₁ lent₂ : List ℕ) (made : CaseAnswer) (c : Checking) → placements r ≤ length lent₁ → placements r ≤ length lent₂ → FreshPost r lent₁ lent₂ made c
      → (hs : List HandedFront) (u : FrontCalls) → TakingFronts r c (map front_text hs) u → own_bytes hs ≡ w.text → all (λ h. ends_line h.own) hs ≡ true
      → others_left hs u.answers ≡ true → (test : TestAnswer) (c' : Checking) → TestPost r u.end test c' → (w.last ≡ End) × PassedFronts hs u.answers test

-- DEMAND 3: in an accepted case with tables long enough it holds of whatever a solver leaves that keeps its promise.
abbrev pub EndToEndHolds : Type 0
EndToEndHolds =
    (r : Railway) (a : SolverAnswer) (figs sets figs' sets' : List ℕ)
    → record_refusal r ≡ none → placements r ≤ length figs → placements r ≤ length sets
    → SolverPost r a figs sets figs' sets' → EndToEnd r a figs' sets'
