-- What thinning a plan is worth (document 02, Q-14), of any call that keeps its promise: over single calls, over whole plays, and over the calls that follow. All of this is a
-- statement. Assumes nothing.
use Rattle.std.specs.Prelude.{◌≡◌, ◌↔◌, true, false, List, ℕ, ◌≤◌, ◌<◌, length, get_or, eqb}
use Rattle.std.proofs.Math.Option.{none, some}
use Rattle.laws.specs.Below.{count_below, lowest}
use Rattle.laws.specs.Bits.{bit}
use Rattle.railway.specs.declared.Railway.{Railway}
use Rattle.railway.specs.declared.Refusal.{Refusal}
use Rattle.game.specs.Game.{may, Adversary, following, HomeWithin}
use Rattle.game.specs.Placement.{placements, start_code, at_home}
use Rattle.game.specs.Setting.{Setting}
use Rattle.game.specs.Moves.{game_of}
use Rattle.game_tables.specs.Entries.{train_bits, opens_in}
use Rattle.game_tables.specs.Tables.{figure_in, setting_in}
use Rattle.plan.specs.declared.CheckerState.TheVariants.{Begun}
use Rattle.plan.specs.TestAnswer.{Pass, Refused as TestRefused}
use Rattle.plan.specs.Checker.{Checking, test_plan, call_lines}
use Rattle.thin.specs.ThinAnswer.{ThinAnswer, Thinned, Refused}
use Rattle.thin.specs.Thinning.{some_free, ThinPost}

-- Train t is open at placement p.
abbrev pub opened : Checking → ℕ → ℕ → Type 0
opened c p t = opens_in (get_or c.sets p 0) t ≡ true

-- AT A PLACEMENT that is listed and not home, the plan being c before and c' afterwards.
pub record LeanAt (r : Railway) (c c' : Checking) (p : ℕ) : Type 0 where
  -- nobody is open, where a train is free
  pub closed : some_free r p ≡ true → (t : ℕ) → opens_in (get_or c'.sets p 0) t ≡ false
  -- and where none is, one train is: of those that may move by the plan the lowest
  pub one-open : some_free r p ≡ false → (t : ℕ) → lowest (may (game_of r) p (setting_in r c.sets p)) r.trains ≡ some t → (u : ℕ) → opens_in (get_or c'.sets p 0) u ≡ eqb t u

-- A PLAN THAT WAS THINNED.
pub record Lean (r : Railway) (c c' : Checking) : Type 0 where
  pub lean : (p n : ℕ) → p < placements r → figure_in c.figs p ≡ some n → at_home r p ≡ false → LeanAt r c c' p
  -- it passes the test again
  pub passes : (test_plan r c').answer ≡ Pass
  -- thinned a second time it is as it is
  pub again : (a : ThinAnswer) (c'' : Checking) → ThinPost r c' a c'' → (a ≡ Thinned) × (c'' ≡ c')
  -- whoever follows it is home within the figure of its first line, against every choice of trains
  pub follow : (m from : ℕ) → c.state ≡ Begun m from → (choice : Adversary Setting) → HomeWithin (game_of r) (following (setting_in r c'.sets)) choice (start_code r) m
  -- nobody is open who was closed, and so never more trains than were
  pub never : (p t : ℕ) → opened c' p t → opened c p t
  pub fewer : (p : ℕ) → count_below (opens_in (get_or c'.sets p 0)) r.trains ≤ count_below (opens_in (get_or c.sets p 0)) r.trains
  -- points lie as they lay
  pub points : (p n : ℕ) → n < train_bits → bit (get_or c'.sets p 0) n ≡ bit (get_or c.sets p 0) n
  -- home's entry stays, and so does every entry of a code that is not listed, also past the last code
  pub home : (p : ℕ) → at_home r p ≡ true → get_or c'.sets p 0 ≡ get_or c.sets p 0
  pub unlisted : (p : ℕ) → figure_in c.figs p ≡ none → get_or c'.sets p 0 ≡ get_or c.sets p 0
  pub past : (p : ℕ) → placements r ≤ p → get_or c'.sets p 0 ≡ get_or c.sets p 0

-- ANY CALL, with what it answered.
pub record ThinClaims (r : Railway) (c : Checking) (a : ThinAnswer) (c' : Checking) : Type 0 where
  -- it answers as the test does
  pub passed : (a ≡ Thinned) ↔ ((test_plan r c).answer ≡ Pass)
  pub refused : (f : Refusal) → (a ≡ Refused f) ↔ ((test_plan r c).answer ≡ TestRefused f)
  -- refused, the plan stays as it is
  pub kept : (f : Refusal) → a ≡ Refused f → c' ≡ c
  pub thinned : a ≡ Thinned → Lean r c c'
  -- in any case the figures stay, and the checker's state, and how long the tables are
  pub figures : c'.figs ≡ c.figs
  pub state : c'.state ≡ c.state
  pub as_long : length c'.sets ≡ length c.sets
  -- more lines may follow: they are answered as if nothing had been thinned
  pub more : (texts : List (List ℕ)) → (call_lines r texts c').answers ≡ (call_lines r texts c).answers

-- THINNING HOLDS: of every record, checker and tables, and every call that keeps its promise.
abbrev pub ThinsHold : Type 0
ThinsHold = (r : Railway) (c : Checking) (a : ThinAnswer) (c' : Checking) → ThinPost r c a c' → ThinClaims r c a c'
