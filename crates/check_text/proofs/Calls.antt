-- A text checked by one call for its lines and one for the test, against a call for each line: the lines in front are all lines, each of which is taken, or
-- one is refused behind them. A refused railway is refused at the first call, be it for a line or for the test. Assumes nothing.
use mathlib.Core.Path.{◌≡◌, refl, ap}
use mathlib.Core.Bool.{true}
use mathlib.Core.List.{List, [], ◌∷◌, ◌++◌, flatten}
use mathlib.Core.Logic.{◌⊎◌, inl, inr}
use mathlib.Core.Option.{none, some}
use Prim.Native.Nat.{ℕ, ◌+◌, ◌≤◌, ◌<◌}
use native.Mathlib.Omega.{arith}
use lib.ListN.{length, length-append}
use borrow.Author.Tests.{leb-true}
use Rattle.laws.specs.Lists.{all}
use Rattle.laws.proofs.Bools.{and-true}
use Rattle.railway.specs.declared.Railway.{Railway}
use Rattle.railway.specs.declared.Refusal.{Refusal}
use Rattle.railway.specs.declared.Refusal.TheVariants.{PlanForm}
use Rattle.game_tables.specs.Tables.{case_refusal}
use Rattle.game_tables.proofs.Refusals.{case-none}
use Rattle.plan.specs.LineAnswer.{LineAnswer, Taken, Refused as LineRefused}
use Rattle.plan.specs.TestAnswer.{Refused as TestRefused}
use Rattle.plan.specs.Checker.{Checking, take_line, test_plan}
use Rattle.plan.specs.Several.{front_of}
use Rattle.plan.proofs.Emitter.{none-refused}
use Rattle.plan.proofs.Rules.{check-rule}
use Rattle.plan.proofs.Several.{filled}
use Rattle.check_text.specs.Verdict.{after_line, check_lines}

pub one_line : (r : Railway) (l : List ℕ) (ls : List (List ℕ)) (c : Checking)
    → check_lines r (l ∷ ls) c ≡ after_line (take_line r c l).answer (take_line r c l).checking (check_lines r ls)
unfolding check_lines
one_line r l ls c = refl

-- a railway that is refused, whatever the lines are
pub refused-case : (r : Railway) (ls : List (List ℕ)) (c : Checking) (f : Refusal) → case_refusal r c.figs c.sets ≡ some f → check_lines r ls c ≡ TestRefused f
unfolding check_lines
refused-case r [] c f e = (check-rule r c).test-first f e
refused-case r (l ∷ ls) c f e = rw ((check-rule r c).line_first l f e) refl

-- a call for a line makes no case refused that was not
pub still-fine : (r : Railway) (c : Checking) (l : List ℕ) → case_refusal r c.figs c.sets ≡ none
    → case_refusal r (take_line r c l).checking.figs (take_line r c l).checking.sets ≡ none
still-fine r c l e =
    let k = (case-none r c.figs c.sets).0 e in
    let w = (check-rule r c).line-changes l in
    none-refused r _ _ k.0 (rw w.kept-figs.as_long k.1.figures) (rw w.kept_sets.as_long k.1.settings)

-- THE LINES IN FRONT are all of them, and the test follows; or one is refused behind them
pub record AllInFront (r : Railway) (ls : List (List ℕ)) (c : Checking) : Type 0 where
  pub bytes : (front_of r ls c).bytes ≡ length (flatten ls)
  pub same : check_lines r ls c ≡ (test_plan r (front_of r ls c).checking).answer

pub record SomeInFront (r : Railway) (ls : List (List ℕ)) (c : Checking) : Type 0 where
  pub fewer : (front_of r ls c).bytes < length (flatten ls)
  pub same : check_lines r ls c ≡ TestRefused PlanForm

one-taken : (r : Railway) (l : List ℕ) (ls : List (List ℕ)) (c c' : Checking) → (take_line r c l).answer ≡ Taken → (take_line r c l).checking ≡ c'
    → AllInFront r ls c' ⊎ SomeInFront r ls c' → AllInFront r (l ∷ ls) c ⊎ SomeInFront r (l ∷ ls) c
unfolding check_lines front_of flatten
one-taken r l ls c c' e₁ e₂ (inl h) =
    let n : length (l ++ flatten ls) ≡ length l + length (flatten ls) = length-append l (flatten ls) in
    inl (record { bytes = rw (e₁, e₂) (omega (arith, n, h.bytes)); same = rw (e₁, e₂) h.same })
one-taken r l ls c c' e₁ e₂ (inr h) =
    let n : length (l ++ flatten ls) ≡ length l + length (flatten ls) = length-append l (flatten ls) in
    inr (record { fewer = rw (e₁, e₂) (omega (arith, n, h.fewer)); same = rw (e₁, e₂) h.same })

one-refused : (r : Railway) (l : List ℕ) (ls : List (List ℕ)) (c : Checking) (f : Refusal) → case_refusal r c.figs c.sets ≡ none → 1 ≤ length l → (take_line r c l).answer ≡ LineRefused f
    → SomeInFront r (l ∷ ls) c
unfolding check_lines front_of flatten
one-refused r l ls c f fine byte e =
    let n : length (l ++ flatten ls) ≡ length l + length (flatten ls) = length-append l (flatten ls) in
    let form : f ≡ PlanForm = (check-rule r c).line-others l f fine e in
    record { fewer = rw e (omega (arith, n, byte)); same = rw e (ap TestRefused form) }

pub by_front : (r : Railway) (ls : List (List ℕ)) (c : Checking) → case_refusal r c.figs c.sets ≡ none → all filled ls ≡ true → AllInFront r ls c ⊎ SomeInFront r ls c
unfolding check_lines front_of flatten all
by_front r [] c fine e = inl (record { bytes = refl; same = refl })
by_front r (l ∷ ls) c fine e =
    let h = and-true (filled l) (all filled ls) e in
    go (take_line r c l).answer refl (leb-true 1 (length l) h.0) (by_front r ls (take_line r c l).checking (still-fine r c l fine) h.1)
  where
    go : (a : LineAnswer) → (take_line r c l).answer ≡ a → 1 ≤ length l → AllInFront r ls (take_line r c l).checking ⊎ SomeInFront r ls (take_line r c l).checking
        → AllInFront r (l ∷ ls) c ⊎ SomeInFront r (l ∷ ls) c
    go Taken is byte h = one-taken r l ls c (take_line r c l).checking is refl h
    go (LineRefused f) is byte h = inr (one-refused r l ls c f fine byte is)
