-- The ways from a section end as numbers: which points matter, how they have to lie, and the section at the end; and the table of them. Nothing of the
-- documents rests on this file: Routes in proofs/ says that a train comes to a section exactly by the way that the points suit. Assumes nothing.
use Rattle.std.specs.Prelude.{◌≡◌, Bool, true, false, cond, not, ◌&&◌, List, [], ◌∷◌, ◌++◌, ℕ, zero, suc, ◌+◌, ◌*◌, ◌^◌, ◌<◌, eqb, ltb, length, get_or, set}
use Rattle.std.proofs.Math.Option.{Option, none, some}
use Rattle.std.specs.Int.Bits.{bit_and, bit_or}
use Rattle.laws.specs.Bits.{bit}
use Rattle.railway.specs.declared.Leg.{Leg}
use Rattle.railway.specs.declared.Leg.TheVariants.{Stem, Plus, Minus}
use Rattle.railway.specs.declared.PointNo.{PointNo}
use Rattle.railway.specs.declared.End.{End}
use Rattle.railway.specs.declared.End.TheVariants.{Section, Port}
use Rattle.railway.specs.Joined.{Joined, Nothing, With}
use Rattle.railway.specs.declared.Railway.{Railway}
use Rattle.railway.specs.Bounds.{most_points, section_ends}
use Rattle.railway.specs.Ends.{end_at}
use Rattle.railway.specs.Record.{joined}
use Rattle.railway.specs.Passing.{most_met}

-- A way: the points that matter and those of them that have to lie at plus, as bits by point; and the section that it leads to.
pub record Way : Type 0 where
  pub care : ℕ
  pub want : ℕ
  pub to : ℕ

-- Points that lie by these bits suit a way: those that matter lie as wanted.
abbrev pub suits : ℕ → ℕ → ℕ → Bool
suits b care want = eqb (bit_and b care) want

-- Two settings of a point differ.
abbrev pub differs : Bool → Bool → Bool
differs true b = not b
differs false b = b

-- Point n cannot lie so: no railway has it, or it lies otherwise already.
abbrev pub bars : ℕ → ℕ → ℕ → Bool → Bool
bars care want n plus = cond (ltb n most_points) (bit care n && differs plus (bit want n)) true

-- How the points lie with point n added.
abbrev pub want_with : ℕ → ℕ → Bool → ℕ
want_with want n plus = cond plus (bit_or want (2 ^ n)) want

-- The ways past a join, with what matters so far, given those over a point. One to a section that is shut is left out.
abbrev pub routes_past : (ℕ → Bool) → (PointNo → Leg → List Way) → ℕ → ℕ → Joined → List Way
routes_past shut f care want Nothing = []
routes_past shut f care want (With (Section n s)) = cond (shut n.0) [] (record { care = care; want = want; to = n.0 } ∷ [])
routes_past shut f care want (With (Port n l)) = f n l

-- Over point n, lying so, and out by a port.
abbrev pub routes_laid : Railway → (ℕ → ℕ → Joined → List Way) → ℕ → ℕ → PointNo → Bool → Leg → List Way
routes_laid r f care want n plus out =
    cond (bars care want n.0 plus) [] (f (bit_or care (2 ^ n.0)) (want_with want n.0 plus) (joined r (Port n out)))

-- Over a point: by the stem either leg, at minus first; by a leg the stem.
abbrev pub routes_over : Railway → (ℕ → ℕ → Joined → List Way) → ℕ → ℕ → PointNo → Leg → List Way
routes_over r f care want n Stem = routes_laid r f care want n false Minus ++ routes_laid r f care want n true Plus
routes_over r f care want n Plus = routes_laid r f care want n true Stem
routes_over r f care want n Minus = routes_laid r f care want n false Stem

-- With k points allowed.
unfoldable pub routes : Railway → (ℕ → Bool) → ℕ → ℕ → ℕ → Joined → List Way
routes r shut zero care want j = routes_past shut (λ n l. []) care want j
routes r shut (suc k) care want j = routes_past shut (λ n l. routes_over r (λ c w i. routes r shut k c w i) care want n l) care want j

-- From an end, to sections that are not shut.
unfoldable pub routes_from : Railway → (ℕ → Bool) → End → List Way
routes_from r shut e = routes r shut most_met 0 0 (joined r e)

-- The way with number i.
unfoldable pub nth : List Way → ℕ → Option Way
nth [] i = none
nth (w ∷ ws) zero = some w
nth (w ∷ ws) (suc i) = nth ws i

-- The sections at the end of the ways that the points suit.
unfoldable pub reached_by : ℕ → List Way → List ℕ
reached_by b [] = []
reached_by b (w ∷ ws) = cond (suits b w.care w.want) (w.to ∷ reached_by b ws) (reached_by b ws)

-- The section that a train comes to, unless it is shut.
abbrev pub unless_shut : (ℕ → Bool) → Option ℕ → Option ℕ
unless_shut shut none = none
unless_shut shut (some x) = cond (shut x) none (some x)

-- A list of what is there.
abbrev pub one_of : Option ℕ → List ℕ
one_of none = []
one_of (some x) = x ∷ []

-- THE TABLE. The most ways from a section end: four points, each with two legs.
abbrev pub most_ways : ℕ
most_ways = 16

-- What stands for no section.
abbrev pub no_section : ℕ
no_section = 255

-- The section that is reached, as a number.
abbrev pub section_byte : Option ℕ → ℕ
section_byte none = no_section
section_byte (some x) = x

-- The section at the end of a way that may not be there.
abbrev pub to_byte : Option Way → ℕ
to_byte none = no_section
to_byte (some w) = w.to

-- How many numbers the table has: three for each way.
abbrev pub way_words : ℕ
way_words = 3 * (most_ways * section_ends)

-- The three numbers of a way: the section, the points that matter, and those at plus; where there is no way, each the number for no section.
abbrev pub way_word : Option Way → ℕ → ℕ
way_word none i = no_section
way_word (some w) i = cond (eqb i 0) w.to (cond (eqb i 1) w.care w.want)

-- The table of a railway's ways to sections that are not shut: for each section end so many ways, three numbers each.
pub record Laid (r : Railway) (shut : ℕ → Bool) (ways : List ℕ) : Type 0 where
  pub words : (e j i : ℕ) → e < section_ends → j < most_ways → i < 3 → get_or ways (3 * (most_ways * e + j) + i) 0 ≡ way_word (nth (routes_from r shut (end_at e)) j) i

-- WHILE THE TABLE IS MADE. A section is shut by these flags.
abbrev pub flagged : List Bool → ℕ → Bool
flagged flags x = get_or flags x false

-- Ways written into a table from a place on, one behind the other.
unfoldable pub written : ℕ → List Way → List ℕ → List ℕ
written at [] old = old
written at (w ∷ ws) old = written (at + 3) ws (set (set (set old at w.to) (at + 1) w.care) (at + 2) w.want)

-- These ways were written, and this is the place behind them.
pub record Put (ws : List Way) (at : ℕ) (old new : List ℕ) (next : ℕ) : Type 0 where
  pub words : new ≡ written at ws old
  pub behind : next ≡ at + 3 * length ws
