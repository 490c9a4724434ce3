-- A search for the plan's setting: what a solver may compute at a placement. Nothing of document 01 rests on this file:
-- the laws in proofs/ say that what is found is the plan's setting, and where nothing is found no setting keeps the figure. Assumes nothing.
use Rattle.std.specs.Prelude.{◌≡◌, Bool, true, false, ◌&&◌, ◌||◌, ℕ, zero, suc, ◌^◌, ◌<◌, eqb}
use Rattle.std.proofs.Math.Option.{Option, none, some, map}
use Rattle.laws.specs.Below.{any_below, lowest, or_else}
use Rattle.laws.specs.Bits.{bit}
use Rattle.railway.specs.declared.Railway.{Railway}
use Rattle.railway.specs.Record.{weight_of}
use Rattle.railway.specs.Passing.{entered}
use Rattle.game.specs.Setting.{heads_for, held, free}
use Rattle.game.specs.Moves.{enters, game_of}
use Rattle.game.specs.Claim.{figure_of}
use Rattle.game.specs.Local.{is_within, keeps_test}
use Rattle.game_tables.specs.Entries.{setting_at, entry_from}

-- Entry v keeps figure n at placement p.
abbrev pub entry_keeps : Railway → (ℕ → Option ℕ) → ℕ → ℕ → ℕ → Bool
entry_keeps r F p n v = keeps_test (game_of r) F p (setting_at r p v) n

-- WHAT DECIDES that. Entering section x ends train t's move in a figure that is smaller than n by at least its weight.
abbrev pub ends_good : Railway → (ℕ → Option ℕ) → ℕ → ℕ → ℕ → ℕ → Bool
ends_good r F p n t x = is_within n (weight_of r t) (figure_of F (enters r p t (some x)))

-- Train t may move with these trains open: it is free, or held and open.
abbrev pub moving : Railway → ℕ → (ℕ → Bool) → ℕ → Bool
moving r p opens t = free r p t || held r p t && opens t

-- Some section is entered, and it is a good one.
abbrev pub is_good : (ℕ → Bool) → Option ℕ → Bool
is_good good none = false
is_good good (some x) = good x

-- With these points at plus and these trains open some train may move, and each that may enters a section that ends its move in such a figure.
pub record GoodMoves (r : Railway) (F : ℕ → Option ℕ) (p n : ℕ) (opens plus : ℕ → Bool) : Type 0 where
  pub some-moves : any_below (moving r p opens) r.trains ≡ true
  pub each-good : (t : ℕ) → t < r.trains → moving r p opens t ≡ true → is_good (ends_good r F p n t) (entered r plus (heads_for r p t)) ≡ true

-- THE SEARCH. The smallest point bits that keep figure n with these trains open, as an entry.
unfoldable pub try_open : Railway → (ℕ → Option ℕ) → ℕ → ℕ → (ℕ → Bool) → Option ℕ
try_open r F p n opens = map (λ b. entry_from r (bit b) opens) (lowest (λ b. entry_keeps r F p n (entry_from r (bit b) opens)) (2 ^ r.points))

-- The first that is found for the numbers below k.
unfoldable pub first_found : (ℕ → Option ℕ) → ℕ → Option ℕ
first_found f zero = none
first_found f (suc k) = or_else (first_found f k) (f k)

-- With no signal open, else with that of the lowest train that works.
abbrev pub found_by : Railway → ((ℕ → Bool) → Option ℕ) → Option ℕ
found_by r try = or_else (try (λ t. false)) (first_found (λ u. try (eqb u)) r.trains)

-- The first entry found with all point bits tried.
unfoldable pub find : Railway → (ℕ → Option ℕ) → ℕ → ℕ → Option ℕ
find r F p n = found_by r (try_open r F p n)
