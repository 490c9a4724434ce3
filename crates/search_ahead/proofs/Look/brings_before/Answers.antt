-- `search_ahead::Look::brings_before` meets its contract. The loop's invariant: nothing gains that is before the placement by the
-- first t trains. Assumes nothing.
use mathlib.Core.Path.{◌≡◌, ◌∙◌, ap}
use Prim.Native.Nat.{ℕ, ◌<◌}
use Rattle.railway.specs.declared.Railway.{Railway}
use Rattle.game.specs.Placement.{placements}
use Rattle.game_placement.specs.declared.Placement.{Placement}
use Rattle.game_moves.specs.Steps.{stride_of, On}
use Rattle.solver_rounds.specs.Visits.{MoverOf, ByWeight}
use Rattle.solver_rounds.proofs.Loops.{no-train, train-next, all-trains, train-there}
use Rattle.search_ahead.specs.declared.Look.{Look}
use Rattle.search_ahead.specs.Bringing.{Looking}
use Rattle.search_ahead.proofs.Telling.{told-yes, told-no, rests-start, rests-next, rests-end}
use Rattle.search_ahead.proofs.Look.brings_before.Goals as goal
use Rattle.search_ahead.proofs.Look.brings_before.Goals.{then-weight_in-w+else-brings_train, else-weight_in-w}

-- the mover that is asked for
its-mover : {r : Railway} {look : Look} {c k s t stride : ℕ} {q : Placement} → Looking r look → c < placements r
    → On r c look.table.now q → k ≡ r.trains → s ≡ r.sections → t < k → stride ≡ stride_of s t
    → MoverOf r look.table.now look.behind.now (record { placement = q; code = c; train = t; stride = stride })
its-mover {r} {t = t} g code on trains sections l is =
    record {
      laid = g.back;
      on = on;
      code = code;
      train = train-there r _ _ trains l;
      stride = is ∙ ap (λ (x : ℕ). stride_of x t) sections;
    }

pub loop-t-init : goal.loop-t-init
loop-t-init c = rests-start (λ r q k. no-train k)

pub returns-then-brings_train : goal.returns-then-brings_train
returns-then-brings_train c =
    λ r o lc.
    let h = o.compiled in
    told-yes (c.brings_train.ensures r o
    (its-mover o lc (c.placement_of-q.ensures r h) (c.trains_in-t-end.ensures r h) (c.sections_in-s.ensures r h) c.loop-t-test.true
    c.power.ensures))
    c.if-brings_train.true

pub loop-t-preserved : goal.loop-t-preserved
loop-t-preserved c =
    rests-next c.loop-t.invariant {New = λ r. ByWeight r c.args.w c.args.c c.loop-t.t}
    (λ r g.
    let h = g.0.compiled in
    elim c.if-weight_in-w.branch [
      | then-weight_in-w+else-brings_train z ↦
          λ q lq k.
          told-no
          (z.brings_train.ensures r g.0
          (its-mover g.0 g.1 (c.placement_of-q.ensures r h) (c.trains_in-t-end.ensures r h) (c.sections_in-s.ensures r h)
          c.loop-t-test.true z.power.ensures))
          z.if-brings_train.false q lq k.by
      | else-weight_in-w z ↦ λ q lq k. absurd (z.if-weight_in-w.false (c.weight_in.ensures r h ∙ k.weighs))
    ])
    (λ r g q lq k. train-next c.loop-t.t k)

pub returns : goal.returns
returns c =
    λ r o lc.
    rests-end c.loop-t.invariant
    (λ r g q lq k. all-trains (c.trains_in-t-end.ensures r g.0.compiled) c.loop-t-test.false k) r (o, lc)
