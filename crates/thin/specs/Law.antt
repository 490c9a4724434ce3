-- The law on which thinning rests (document 02, Q-14): what two sets of open trains let move together, and what that which is common to both does, the points lying as they lie.
-- Assumes nothing.
use Rattle.std.specs.Prelude.{◌≡◌, Bool, true, false, ◌&&◌, ◌||◌, ℕ, ◌<◌, eqb}
use Rattle.std.proofs.Math.Option.{none}
use Rattle.railway.specs.declared.Railway.{Railway}
use Rattle.railway.specs.declared.Side.TheVariants.{Up, Down}
use Rattle.railway.specs.Rows.{record_refusal}
use Rattle.railway.specs.Yards.{yard_h, line_j, line_g, line_t, sec}
use Rattle.game.specs.Game.{may}
use Rattle.game.specs.Placement.{shared}
use Rattle.game.specs.Setting.{heads_for, held}
use Rattle.game.specs.Moves.{move_of, game_of}
use Rattle.game_tables.specs.Entries.{setting_from}

-- Train t may move in placement p, with these points at plus and these trains open.
abbrev pub moves : Railway → ℕ → (ℕ → Bool) → (ℕ → Bool) → ℕ → Bool
moves r p plus opens t = may (game_of r) p (setting_from r p plus opens) t

-- Both sets joined.
abbrev pub in_either : (ℕ → Bool) → (ℕ → Bool) → ℕ → Bool
in_either a b t = a t || b t

-- What is common to both.
abbrev pub in_both : (ℕ → Bool) → (ℕ → Bool) → ℕ → Bool
in_both a b t = a t && b t

-- THE LAW, of two sets of open trains.
pub record MovesUnder (r : Railway) (p : ℕ) (plus a b : ℕ → Bool) : Type 0 where
  -- joined they let move whom the one does and whom the other does
  pub joined : (t : ℕ) → moves r p plus (in_either a b) t ≡ (moves r p plus a t || moves r p plus b t)
  -- what they have in common lets move whom both do, where every train has its section to itself
  pub common : shared r p ≡ false → (t : ℕ) → moves r p plus (in_both a b) t ≡ (moves r p plus a t && moves r p plus b t)
  -- and a move ends where it ends, whoever is open
  pub ends : (t : ℕ) → move_of r p (setting_from r p plus a) t ≡ move_of r p (setting_from r p plus b) t

-- WHERE TWO SHARE A SIGNAL: trains that head for the same end. Each of them is let move by the other's being open, and what the two sets have in common is nobody.
pub record SharedSignal (r : Railway) (p : ℕ) (plus : ℕ → Bool) (t u : ℕ) : Type 0 where
  pub by_itself : moves r p plus (eqb t) t ≡ true
  pub by-other : moves r p plus (eqb u) t ≡ true
  pub by-nobody : moves r p plus (in_both (eqb t) (eqb u)) t ≡ false

-- So it is of any two such trains, with a signal at that end, wherever they stand.
abbrev pub SignalsShared : Type 0
SignalsShared =
    (r : Railway) (p : ℕ) (plus : ℕ → Bool) (t u : ℕ) → t < r.trains → u < r.trains → (t ≡ u → ⊥) → held r p t ≡ true → heads_for r p t ≡ heads_for r p u
    → SharedSignal r p plus t u

-- There are such: three sections in a line, with a signal at 1u, and two trains that head up.
abbrev pub queue : Railway
queue = line_t 2 Up 2 3 (line_t 1 Up 1 2 (line_g (sec 1 Up) (line_j (sec 2 Up) (sec 3 Down) (line_j (sec 1 Up) (sec 2 Down) (yard_h 3 0 2)))))

-- The second half of the law fails there, in an accepted case, with both trains on section 1 (code 0).
pub record CommonFails : Type 0 where
  pub accepted : record_refusal queue ≡ none
  pub together : shared queue 0 ≡ true
  pub either_way : (moves queue 0 (λ n. false) (eqb 0) 0 && moves queue 0 (λ n. false) (eqb 1) 0) ≡ true
  pub not-in-common : moves queue 0 (λ n. false) (in_both (eqb 0) (eqb 1)) 0 ≡ false

-- THE LAW HOLDS of every record, placement and pair of sets; where trains share a section only its second half may fail, and does.
pub record LawHolds : Type 0 where
  pub law : (r : Railway) (p : ℕ) (plus a b : ℕ → Bool) → MovesUnder r p plus a b
  pub signals : SignalsShared
  pub fails : CommonFails
