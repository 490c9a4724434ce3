-- What a table says, from what its entries are; and, besides: of runs from a section to itself the shortest enters
-- nothing; a run begins and ends on sections that are there, and whatever it enters is not closed. Assumes nothing.
use mathlib.Core.Path.{◌≡◌, refl}
use mathlib.Core.Bool.{Bool, true, false, cond}
use mathlib.Core.List.{List}
use mathlib.Core.Option.{Option, none, some}
use Prim.Native.Nat.{ℕ, ◌<◌}
use native.Mathlib.Omega.{arith}
use Rattle.laws.proofs.Bools.{clash, some-none, some_one}
use Rattle.railway.specs.declared.Side.{Side}
use Rattle.railway.specs.declared.End.TheVariants.{Section}
use Rattle.railway.specs.declared.Railway.{Railway}
use Rattle.railway.specs.Bounds.{most_sections}
use Rattle.railway.specs.Record.{is_closed}
use Rattle.railway.specs.Passing.{passes, in_use, entered}
use Rattle.game.proofs.Accepted.{Facts}
use Rattle.game.proofs.Moves.{entered_below}
-- (Examples is named so that it is checked before: a wrong definition then shows at a computed value.)
use Rattle.runs.specs.Runs.{Enters, Run, here, further, no_run, entry_at, RunTable, TableSays}

-- what is entered is not closed
in-use : (r : Railway) (o : Option ℕ) (x : ℕ) → in_use r o ≡ some x → is_closed r x ≡ false
in-use r none x e = some-none e refl
in-use r (some y) x e = go (is_closed r y) refl e
  where
    go : (b : Bool) → is_closed r y ≡ b → cond b none (some y) ≡ some x → is_closed r x ≡ false
    go true c h = some-none h refl
    go false c h = let z : y ≡ x = some_one h in rw z at c

pub enters-open : (r : Railway) (heading : Side) (x y : ℕ) → Enters r heading x y → is_closed r y ≡ false
unfolding entered
enters-open r heading x y e = in-use r (passes r e.plus (Section (record { 0 = x }) heading)).reached y e.comes

-- a run begins and ends on sections that are there
pub run-from : {r : Railway} {heading : Side} {x y n : ℕ} → Run r heading x y n → x < r.sections
run-from (here l) = l
run-from (further run e) = run-from run

pub run-to : {r : Railway} {heading : Side} {x y n : ℕ} → Facts r → Run r heading x y n → y < r.sections
run-to ok (here l) = l
run-to {r} {heading} ok (further {y} {z} run e) = entered_below r ok e.plus (Section (record { 0 = y }) heading) z e.comes

-- to another section it ends with an entry
pub run-open : {r : Railway} {heading : Side} {x y n : ℕ} → (x ≡ y → ⊥) → Run r heading x y n → is_closed r y ≡ false
run-open other (here l) = absurd (other refl)
run-open {r} {heading} other (further {y} {z} run e) = enters-open r heading y z e

module _ (r : Railway) (ok : Facts r) (heading : Side) (g : List (List ℕ)) (table : RunTable r heading g) where
  nothing : (x y : ℕ) → x < most_sections → y < most_sections → ((n : ℕ) → Run r heading x y n → ⊥) → entry_at g x y ≡ no_run
  nothing x y lx ly no-run = (table.entries x y lx ly).none-exactly.1 no-run

  pub says : TableSays r heading g
  says =
      record {
        square = table.square;
        reached = λ x y lx ly. (table.entries x y lx ly).reached;
        least = λ x y n lx ly. (table.entries x y lx ly).least n;
        none-exactly = λ x y lx ly. (table.entries x y lx ly).none-exactly;
        itself = λ x l. (let m = (table.entries x x (omega (arith, ok.few-sections)) (omega (arith, ok.few-sections))).least 0 (here l) in omega (arith, m));
        from-nowhere = λ x y lx ly h. nothing x y lx ly (λ n run. (let l = run-from run in omega (arith, l)));
        to-nowhere = λ x y lx ly h. nothing x y lx ly (λ n run. (let l = run-to ok run in omega (arith, l)));
        to-closed = λ x y lx ly c other. nothing x y lx ly (λ n run. clash c (run-open other run));
      }
