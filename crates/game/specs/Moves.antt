-- What a move ends in, and the railway's game (document 01, "A turn", second paragraph). Where a train that leaves by an end comes to is in railway/Passing.
-- Assumes nothing.
use Rattle.std.specs.Prelude.{◌≡◌, Bool, true, false, cond, not, ◌&&◌, ℕ, set, eqb}
use Rattle.std.proofs.Math.Option.{Option, none, some}
use Rattle.laws.specs.Below.{any_below}
use Rattle.railway.specs.declared.Railway.{Railway}
use Rattle.railway.specs.Record.{is_closed, weight_of}
use Rattle.railway.specs.Passing.{passes, entered}
use Rattle.railway.specs.Rows.{record_refusal}
use Rattle.game.specs.Game.{derailment, collision, Outcome, lost, at, Game}
use Rattle.game.specs.Placement.{code_of, placements, sections_of, stands_on, at_home, shared}
use Rattle.game.specs.Setting.{Setting, SameSetting, heads_for, may_move}
use Rattle.game.specs.Claim.{Alike}

-- Train u is another than t, and stands on section x.
abbrev pub other_on : Railway → ℕ → ℕ → ℕ → ℕ → Bool
other_on r p t x u = not (eqb u t) && eqb (stands_on r p u) x

-- Another train than t stands on section x: who enters it collides.
unfoldable pub occupied : Railway → ℕ → ℕ → ℕ → Bool
occupied r p t x = any_below (other_on r p t x) r.trains

-- The code of the placement with train t put on section x.
abbrev pub code_with : Railway → ℕ → ℕ → ℕ → ℕ
code_with r p t x = code_of r.sections (set (sections_of r p) t x)

-- Train t enters this section, or none: it derails, or has come to a closed one.
abbrev pub enters : Railway → ℕ → ℕ → Option ℕ → Outcome
enters r p t none = lost derailment
enters r p t (some x) = cond (occupied r p t x) (lost collision) (at (code_with r p t x))

-- What moving train t ends in.
unfoldable pub move_of : Railway → ℕ → Setting → ℕ → Outcome
move_of r p s t = enters r p t (entered r s.plus (heads_for r p t))

-- The railway's game.
abbrev pub game_of : Railway → Game Setting
game_of r =
    record {
      placements = placements r;
      trains = r.trains;
      is_home = at_home r;
      is_lost = shared r;
      allowed = may_move r;
      next = move_of r;
      weight = weight_of r;
    }

-- What a setting says besides of the railway's points and signals tells nothing: settings that agree on those let the same trains move, to
-- the same ends.
abbrev pub AgreeingAlike : Type 0
AgreeingAlike = (r : Railway) → record_refusal r ≡ none → (a b : Setting) → SameSetting r a b → (p : ℕ) → Alike (game_of r) p a b

-- CLOSED SECTIONS (document 02, Q-5). What they change, and what not.
pub record ClosedSections (r : Railway) : Type 0 where
  -- to come to a closed section loses
  pub entering : (p : ℕ) (s : Setting) (t x : ℕ) → (passes r s.plus (heads_for r p t)).reached ≡ some x → is_closed r x ≡ true → move_of r p s t ≡ lost derailment
  -- to come to another section ends as if none were closed, also from one that is
  pub other : (p : ℕ) (s : Setting) (t x : ℕ) → (passes r s.plus (heads_for r p t)).reached ≡ some x → is_closed r x ≡ false → move_of r p s t ≡ enters r p t (some x)
  -- so where no section is closed every move ends as it did before there were any
  pub none-closed : ((x : ℕ) → is_closed r x ≡ false) → (p : ℕ) (s : Setting) (t : ℕ) → move_of r p s t ≡ enters r p t (passes r s.plus (heads_for r p t)).reached

-- Of every record.
abbrev pub ClosedLose : Type 0
ClosedLose = (r : Railway) → ClosedSections r
