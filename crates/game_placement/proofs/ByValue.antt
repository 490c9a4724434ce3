-- How many places a placement by value has, and how many bits a number: past them stands 0.
-- Assumes nothing.
use mathlib.Core.Path.{◌≡◌, sym}
use mathlib.Core.Bool.{false}
use mathlib.Core.List.{List}
use Prim.Native.Nat.{ℕ, ◌/◌, ◌^◌, ◌≤◌, ◌<◌}
use native.Mathlib.Omega.{arith}
use native.Mathlib.Nat.{pow-le-pow_right, div-eq_of_lt}
use lib.ListN.{length, get_or-eq_default}
use mir.Val.{Val}
use denote.Laws.{Is}
use Rattle.laws.specs.Bits.{bit}
use Rattle.railway.specs.Bounds.{most_trains}
use Rattle.game_placement.specs.declared.Placement.{Placement}
use Rattle.game_placement.specs.ByValue.{section_in}
use Rattle.game_placement.specs.contracts.Placement as T

-- What holding a placement tells: it has a place for each train a railway can have.
pub placement-length : (q : Placement) (vs : List Val) → Is T.the_row q vs → length q.sections ≡ most_trains
placement-length q vs p = p.1.1.0.1.0.1

pub section-past : (q : Placement) (t : ℕ) → length q.sections ≤ t → 0 ≡ section_in q t
section-past q t l = sym (get_or-eq_default q.sections 0 l)

-- A number of 32 bits has no bit past them.
pub bit_high : (v n : ℕ) → v < 4294967296 → 32 ≤ n → false ≡ bit v n
bit_high v n l h = let e : v / (2 ^ n) ≡ 0 = div-eq_of_lt (omega (arith, pow-le-pow_right {n = 2} (omega arith) {i = 32} {j = n} h)) in rw e
