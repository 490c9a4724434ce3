-- `search_ahead::brings` meets its contract. The loop's invariant: nothing gains that is before the frontier by the weight of
-- one of the first t trains. Assumes nothing.
use mathlib.Core.Path.{◌≡◌}
use native.Mathlib.Omega.{arith}
use mathlib.Core.List.{List}
use Prim.Native.Nat.{ℕ}
use Rattle.railway.specs.declared.Railway.{Railway}
use Rattle.railway.specs.Record.{is_closed}
use Rattle.game.specs.Placement.{placements}
use Rattle.game_tables.specs.Rounds.{RoundTables}
use Rattle.railway_routes.specs.Routes.{Laid}
use Rattle.railway_compiled.specs.Table.{Compiled}
use Rattle.solver_predecessors.specs.Behind.{Behind}
use Rattle.solver_rounds.proofs.Visits.{round-homed}
use Rattle.solver_rounds.proofs.Loops.{no-weight, weight-next, train-there}
use Rattle.search_ahead.specs.declared.Look.{Look}
use Rattle.search_ahead.specs.Bringing.{Looking}
use Rattle.search_ahead.proofs.Telling.{told-no, rests-start, rests-next}
use Rattle.search_ahead.proofs.Answering.{says-yes, says-no}
use Rattle.search_ahead.proofs.brings.Goals as goal

-- what is looked at, between two rounds
looking : {r : Railway} {look : Look} {sets : List ℕ} {k : ℕ} → Compiled r look.table.now → Laid r (is_closed r) look.ways.now
    → Behind r look.behind.now → look.m ≡ placements r → RoundTables r k look.figures.now sets → Looking r look
looking {r} {look} {sets} {k} h laid back counted t =
    record { compiled = h; laid = laid; back = back; counted = counted; homed = round-homed r k look.figures.now sets t }

pub loop-t-init : goal.loop-t-init
loop-t-init c = rests-start (λ r q k. no-weight k)

pub returns-then-brings_by : goal.returns-then-brings_by
returns-then-brings_by c =
    λ r k sets h laid back is t marked.
    says-yes h.accepted t is
    (c.brings_by.ensures r (looking h laid back (c.placements-m.ensures r h) t) marked
    (train-there r _ _ (c.trains_in-t-end.ensures r h) c.loop-t-test.true))
    c.if-brings_by.true

pub loop-t-preserved : goal.loop-t-preserved
loop-t-preserved c =
    rests-next c.loop-t.invariant
    (λ r g.
    told-no (c.brings_by.ensures r g.0 g.1
    (train-there r _ _ (c.trains_in-t-end.ensures r g.0.compiled) c.loop-t-test.true))
    c.if-brings_by.false)
    (λ r g q lq k. weight-next c.loop-t.t k)

pub returns : goal.returns
returns c =
    λ r k sets h laid back is t marked.
    let g = looking h laid back (c.placements-m.ensures r h) t in
    says-no h.accepted t is g.counted
    (let z = c.trains_in-t-end.ensures r h in omega (arith, z, c.loop-t-test.false)) (c.loop-t.invariant.resting r (g, marked))
