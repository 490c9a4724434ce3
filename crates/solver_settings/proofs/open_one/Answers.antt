-- `solver_settings::open_one` meets its contract. The loop's invariant: no try before train u has found anything.
-- Assumes nothing.
use native.Mathlib.Omega.{arith}
use Prim.Native.Nat.{ℕ}
use mathlib.Core.List.{List}
use Rattle.game_placement.specs.declared.Placement.{Placement}
use mathlib.Core.Path.{refl, sym, ◌∙◌, ap}
use lib.Dec.{eqb}
use Rattle.railway.specs.declared.Railway.{Railway}
use Rattle.game.proofs.Accepted.{facts}
use Rattle.game_tables.specs.Find.{try_open, first_found}
use Rattle.solver_settings.specs.Answers.{entry_found}
use Rattle.solver_settings.specs.Search.{Asked}
use Rattle.solver_settings.proofs.Trying.{closed_none, first_next, found-open, found_none}
use Rattle.solver_settings.proofs.open_one.Goals as goal

-- as the train's own function is asked
every : {r : Railway} {p : ℕ} {table ways : List ℕ} {q : Placement} {c k : ℕ}
    → Asked r p table ways q c k → Asked r p table ways q c r.trains
every h = record { looks = h.looks; trains = refl; apart = h.apart }

pub loop-u-init : goal.loop-u-init
unfolding first_found
loop-u-init c = λ r p h f. refl

pub returns-in-Some : goal.returns-in-Some
returns-in-Some c =
    λ r p h f.
    let k = facts r h.looks.on.compiled.accepted in
    let there = rw h.trains at c.loop-u-test.true in
    found-open r _ p _ _ h.trains (closed_none r k p h.apart _ _ f) c.loop-u.u _ c.loop-u-test.true (c.loop-u.invariant r p h f)
    (c.in-Some.ensures r p (every h) f there)

pub loop-u-preserved : goal.loop-u-preserved
loop-u-preserved c =
    λ r p h f.
    let there = rw h.trains at c.loop-u-test.true in
    first_next (λ u. try_open r _ p _ (eqb u)) _ (c.loop-u.invariant r p h f)
    (sym (ap entry_found c.in_default.is) ∙ c.open_train.ensures r p (every h) f there)

pub returns : goal.returns
returns c =
    λ r p h f.
    let k = facts r h.looks.on.compiled.accepted in
    found_none r _ p _ _ h.trains (closed_none r k p h.apart _ _ f) _ (omega arith) (omega arith)
    (c.loop-u.invariant r p h f)
