-- The solver's promise can be kept for every record and all tables, and one answer alone keeps it.
-- Where something is refused the number says all; else filled tables exist, and the start's figure is one. Assumes nothing.
use mathlib.Core.Path.{◌≡◌, refl, sym, ◌∙◌, ap}
use mathlib.Core.Logic.{inl, inr}
use mathlib.Core.List.{List}
use mathlib.Core.Option.{Option, none, some}
use Prim.Native.Nat.{ℕ}
use Rattle.laws.proofs.Bools.{option?, some-none, some_one}
use Rattle.railway.specs.declared.Railway.{Railway}
use Rattle.railway.specs.declared.Refusal.{Refusal}
use Rattle.railway.specs.Refusals.{number, number_of}
use Rattle.railway.proofs.Refusals.{number-one, number-tells}
use Rattle.game.specs.Placement.{start_code}
use Rattle.game.proofs.Accepted.{facts}
use Rattle.game.proofs.Moves.{start-below}
use Rattle.game_tables.specs.SolverAnswer.{SolverAnswer, Refused, Unsolvable, Figure}
use Rattle.game_tables.specs.Tables.{figure_in, case_refusal}
use Rattle.game_tables.specs.Solver.{number_given, figure_given, SolverTables, SolverPost}
use Rattle.game_tables.proofs.Refusals.{case-none}
use Rattle.game_tables.proofs.Exists.{Made, tables-exist}
use Rattle.game_tables.proofs.Unique.{figure-same}

-- The answer that has this figure.
abbrev answer_of : Option ℕ → SolverAnswer
answer_of none = Unsolvable
answer_of (some n) = Figure n

answer-figure : (f : Option ℕ) → figure_given (answer_of f) ≡ f
answer-figure none = refl
answer-figure (some n) = refl

answer-number : (f : Option ℕ) → number_given (answer_of f) ≡ none
answer-number none = refl
answer-number (some n) = refl

pub record Promised (r : Railway) (figs sets : List ℕ) : Type 0 where
  pub answer : SolverAnswer
  pub new-figs : List ℕ
  pub new-sets : List ℕ
  pub keeps : SolverPost r answer figs sets new-figs new-sets

-- WHAT IS KNOWN OF A CASE by the solver's answer
module _ {r : Railway} {a : SolverAnswer} {figs sets figs' sets' : List ℕ} (post : SolverPost r a figs sets figs' sets') where
  pub solver-refused : {f : Refusal} → a ≡ Refused f → case_refusal r figs sets ≡ some f
  solver-refused {f} e = number-tells (case_refusal r figs sets) (some f) (sym post.numbered ∙ ap number_given e)

  pub solver-accepted : number_given a ≡ none → case_refusal r figs sets ≡ none
  solver-accepted e = number-tells (case_refusal r figs sets) none (sym post.numbered ∙ e)

-- THE PROMISE CAN BE KEPT
pub promised : (r : Railway) (figs sets : List ℕ) → Promised r figs sets
promised r figs sets = elim (option? (case_refusal r figs sets)) [
  | inr x ↦ record {
    answer = Refused x.0;
    new-figs = figs;
    new-sets = sets;
    keeps = record { numbered = ap number_of (sym x.1); leaves = rw x.1 (refl, refl) };
  }
  | inl x ↦
      let c = (case-none r figs sets).0 x in
      let m : Made r figs sets = tables-exist r c.0 figs sets c.1.figures c.1.settings in
      let f : Option ℕ = figure_in m.new-figs (start_code r) in
      record {
        answer = answer_of f;
        new-figs = m.new-figs;
        new-sets = m.new-sets;
        keeps = record { numbered = answer-number f ∙ ap number_of (sym x); leaves = rw x (m.made, answer-figure f) };
      }
]

-- ONE ANSWER: an answer is known by its number and its figure
answer-one : (a b : SolverAnswer) → number_given a ≡ number_given b → figure_given a ≡ figure_given b → a ≡ b
answer-one (Refused f) (Refused g) e h = ap (λ (k : Refusal). Refused k) (number-one f g (some_one e))
answer-one (Refused f) Unsolvable e h = some-none refl e
answer-one (Refused f) (Figure n) e h = some-none refl e
answer-one Unsolvable (Refused g) e h = some-none e refl
answer-one Unsolvable Unsolvable e h = refl
answer-one Unsolvable (Figure n) e h = some-none h refl
answer-one (Figure m) (Refused g) e h = some-none e refl
answer-one (Figure m) Unsolvable e h = some-none refl h
answer-one (Figure m) (Figure n) e h = let z : m ≡ n = cc in rw z

refused-figure : (a : SolverAnswer) (n : ℕ) → number_given a ≡ some n → figure_given a ≡ none
refused-figure (Refused g) n e = refl
refused-figure Unsolvable n e = refl
refused-figure (Figure m) n e = some-none e refl

module _ (r : Railway) (figs sets f₁ s₁ f₂ s₂ : List ℕ) (a b : SolverAnswer) (x : SolverPost r a figs sets f₁ s₁) (y : SolverPost r b figs sets f₂ s₂) where
  pub promise-one : a ≡ b
  promise-one = answer-one a b (x.numbered ∙ sym y.numbered) (elim (option? (case_refusal r figs sets)) [
    | inr e ↦ let due = ap number_of e.1 in refused-figure a (number e.0) (x.numbered ∙ due) ∙ sym (refused-figure b (number e.0) (y.numbered ∙ due))
    | inl e ↦
        let c = (case-none r figs sets).0 e in
        let u : SolverTables r figs sets f₁ s₁ × (figure_given a ≡ figure_in f₁ (start_code r)) = rw e at x.leaves in
        let v : SolverTables r figs sets f₂ s₂ × (figure_given b ≡ figure_in f₂ (start_code r)) = rw e at y.leaves in
        u.1 ∙ figure-same r c.0 f₁ s₁ f₂ s₂ u.0.filled v.0.filled (start_code r) (start-below r (facts r c.0)) ∙ sym v.1
  ])
