-- What visits of some placements in one round make of two tables and the marks. A visit looks for a setting and enters
-- what it finds; a round visits what is one move of a train before its frontier: the placements whose figure and the
-- train's weight make the round's number. Nothing of document 01 rests on this file: contracts of single steps cite it,
-- and the solver's own is `SolverPost` (game_tables/Solver). `MarkedFor` stands in what a search promises, and is read
-- through the statement in search/Searching. Assumes nothing.
use Rattle.std.specs.Prelude.{◌≡◌, Bool, true, false, cond, ◌&&◌, ◌||◌, List, ℕ, suc, ◌+◌, ◌≤◌, ◌<◌, get_or, ltb, eqb}
use Rattle.std.proofs.Math.Option.{Option, none, some}
use Rattle.laws.specs.Below.{any_below}
use Rattle.railway.specs.declared.Railway.{Railway}
use Rattle.railway.specs.Bounds.{most_weight}
use Rattle.railway.specs.Record.{is_closed, weight_of}
use Rattle.game.specs.Game.{home, over, at}
use Rattle.game.specs.Placement.{placements}
use Rattle.game.specs.Moves.{move_of, game_of}
use Rattle.game_tables.specs.Entries.{setting_at}
use Rattle.game_tables.specs.Tables.{no_figure, figure_entry, figure_in}
use Rattle.game_tables.specs.Find.{find}
use Rattle.railway_routes.specs.Routes.{Laid}
use Rattle.railway_compiled.specs.Table.{Compiled}
use Rattle.game_moves.specs.Steps.{stride_of, On}
use Rattle.solver_predecessors.specs.Behind.{Behind}
use Rattle.solver_marks.specs.Marks.{stretch_of, most_codes, due_at, most_at, Room}
use Rattle.solver_dues.specs.Dues.{same_weight, SoonAfter}
use Rattle.solver_rounds.specs.declared.ThisRound.{ThisRound}
use Rattle.solver_rounds.specs.declared.Mover.{Mover}

-- Home has its figure from the start.
abbrev pub Homed : Railway → List ℕ → Type 0
Homed r figs = (p : ℕ) → p < placements r → home (game_of r) p ≡ true → figure_in figs p ≡ some 0

-- How far a round has come: the weights of the trains before one have had their turn, and its own weight up to a code.
pub record Turned : Type 0 where
  pub train : ℕ
  pub code : ℕ

-- The turn of train t's weight is over for placement q.
abbrev pub passed_by : Turned → ℕ → ℕ → Bool
passed_by d t q = ltb t d.train || eqb t d.train && ltb q d.code

-- The first round whose turn is still to come for them, in round n.
abbrev pub since : ℕ → Turned → ℕ → ℕ → ℕ
since n d t q = cond (passed_by d t q) (suc n) n

-- No lower train has the weight of train t.
abbrev pub First : Railway → ℕ → Type 0
First r t = any_below (same_weight r t) t ≡ false

-- The marks, then: no figure is larger than what is marked for its stretch, and no round to come that a figure and a
-- weight make is before the one marked as due there by that weight.
pub record Marked (r : Railway) (n : ℕ) (d : Turned) (figs marks : List ℕ) : Type 0 where
  pub room : Room marks
  pub few : placements r ≤ most_codes
  pub most : (q j : ℕ) → q < placements r → figure_in figs q ≡ some j → j ≤ most_at marks q
  pub due : (q j t : ℕ) → q < placements r → t < r.trains → First r t → figure_in figs q ≡ some j
      → since n d t q ≤ j + weight_of r t → due_at marks t q ≤ j + weight_of r t

-- The marks before round n, of which nothing has had its turn.
abbrev pub MarkedFor : Railway → ℕ → List ℕ → List ℕ → Type 0
MarkedFor r n figs marks = Marked r n (record { train = 0; code = 0 }) figs marks

-- A round is going on, on the tables of this railway.
pub record Round (r : Railway) (this : ThisRound) (d : Turned) (figs marks : List ℕ) : Type 0 where
  pub compiled : Compiled r this.table.now
  pub laid : Laid r (is_closed r) this.ways.now
  pub back : Behind r this.behind.now
  pub counted : this.m ≡ placements r
  pub small : this.n + most_weight < no_figure
  pub soonest : SoonAfter r this.n this.soon
  pub homed : Homed r figs
  pub marked : Marked r this.n d figs marks

-- A train of this railway that may have come to a placement, and the ways by which it can have come.
pub record MoverOf (r : Railway) (table behind : List ℕ) (mover : Mover) : Type 0 where
  pub laid : Behind r behind
  pub on : On r mover.code table mover.placement
  pub code : mover.code < placements r
  pub train : mover.train < r.trains
  pub stride : mover.stride ≡ stride_of r.sections mover.train

-- Placement q in round n, by the figures F: figure and setting f and v before, f' and v' after. It is as it was, or has
-- gained.
pub data Changed (r : Railway) (F : ℕ → Option ℕ) (n q f v f' v' : ℕ) : Type 0 where
  same : f' ≡ f → v' ≡ v → Changed r F n q f v f' v'
  gained : figure_entry f ≡ none → over (game_of r) q ≡ false → f' ≡ n → find r F q n ≡ some v' → Changed r F n q f v f' v'

-- Some placements have been visited in round n, those of a kind among them: where one of these has no figure yet
-- nothing was to be found.
pub record Visited (r : Railway) (n : ℕ) (d : Turned) (Seen : ℕ → Type 0)
    (figs sets figs' sets' marks' : List ℕ) : Type 0 where
  pub each : (q : ℕ) → q < placements r
      → Changed r (figure_in figs) n q (get_or figs q no_figure) (get_or sets q 0) (get_or figs' q no_figure) (get_or sets' q 0)
  pub past-figs : (q d : ℕ) → placements r ≤ q → get_or figs' q d ≡ get_or figs q d
  pub past-sets : (q d : ℕ) → placements r ≤ q → get_or sets' q d ≡ get_or sets q d
  pub settled : (q : ℕ) → q < placements r → Seen q → figure_in figs' q ≡ none → over (game_of r) q ≡ false
      → find r (figure_in figs) q n ≡ none
  pub marked : Marked r n d figs' marks'

-- The codes from c to below e are those of one stretch, of all below m.
pub record Stretch (m c e : ℕ) : Type 0 where
  pub own : (q : ℕ) → c ≤ q → q < e → stretch_of q ≡ stretch_of c
  pub before : (q : ℕ) → q < c → stretch_of q ≡ stretch_of c → ⊥
  pub behind : (q : ℕ) → e ≤ q → q < m → stretch_of q ≡ stretch_of c → ⊥

-- Codes from c on, up to e, have been passed by: none of them has this figure.
abbrev pub Passed : List ℕ → ℕ → ℕ → ℕ → Type 0
Passed figs figure c e = (q : ℕ) → c ≤ q → q < e → get_or figs q no_figure ≡ figure → ⊥

-- The next code from c on with this figure is e, of those below upto.
pub record NextWith (figs : List ℕ) (figure c upto e : ℕ) : Type 0 where
  pub onward : c ≤ e
  pub within : e < upto
  pub passed : Passed figs figure c e
  pub has : get_or figs e no_figure ≡ figure

-- Whether p is a code without a figure.
pub data Waits (figs : List ℕ) (m p : ℕ) : Bool → Type 0 where
  empty : p < m → figure_in figs p ≡ none → Waits figs m p true
  outside : m ≤ p → Waits figs m p false
  figured : (figure_in figs p ≡ none → ⊥) → Waits figs m p false

-- KINDS of placements, for what has been visited. The one of code p alone.
abbrev pub One : ℕ → ℕ → Type 0
One p q = q ≡ p

-- Those from which a move of train t comes to placement c, under the setting of some entry.
pub record By (r : Railway) (c t p : ℕ) : Type 0 where
  pub entry : ℕ
  pub moves : move_of r p (setting_at r p entry) t ≡ at c

-- The same, if w is the train's weight.
pub record ByWeight (r : Railway) (w c t p : ℕ) : Type 0 where
  pub weighs : weight_of r t ≡ w
  pub by : By r c t p

-- Those from which a move of one of the first k trains comes to placement c, of a train with weight w.
pub record Comes (r : Railway) (w c k p : ℕ) : Type 0 where
  pub train : ℕ
  pub below : train < k
  pub weighs : weight_of r train ≡ w
  pub by : By r c train p

-- Those from which such a move comes to a placement, with its code in a range, whose figure and w make n.
pub record Ahead (r : Railway) (n w : ℕ) (figs : List ℕ) (from upto p : ℕ) : Type 0 where
  pub code : ℕ
  pub after : from ≤ code
  pub within : code < upto
  pub figure : ℕ
  pub makes : figure + w ≡ n
  pub stands : figure_in figs code ≡ some figure
  pub comes : Comes r w code r.trains p

-- The same, w being the weight of train t, which no lower train has.
pub record Apart (r : Railway) (n : ℕ) (figs : List ℕ) (from upto t p : ℕ) : Type 0 where
  pub first : First r t
  pub ahead : Ahead r n (weight_of r t) figs from upto p

-- The same, w being the weight of one of the first k trains.
pub record Weighed (r : Railway) (n : ℕ) (figs : List ℕ) (from upto k p : ℕ) : Type 0 where
  pub train : ℕ
  pub below : train < k
  pub ahead : Ahead r n (weight_of r train) figs from upto p

-- Those one move before the frontier of round n: before a placement whose figure and the mover's weight make n.
abbrev pub Before : Railway → ℕ → List ℕ → ℕ → ℕ → ℕ → Type 0
Before r n figs from upto p = Weighed r n figs from upto r.trains p
