-- Whole settings, the end a train heads for and its signal (document 01, "A turn", beginning and item 2), and trains that are parked, which
-- stand on their destinations (document 02, Q-2).
-- Assumes nothing.
use Rattle.std.specs.Prelude.{◌≡◌, Bool, true, not, ◌&&◌, ◌||◌, ℕ, ◌<◌}
use Rattle.railway.specs.declared.End.{End}
use Rattle.railway.specs.declared.End.TheVariants.{Section}
use Rattle.railway.specs.declared.Railway.{Railway}
use Rattle.railway.specs.Bounds.{section_ends}
use Rattle.railway.specs.Ends.{end_index}
use Rattle.railway.specs.Record.{flag_at, has_signal, train_of}
use Rattle.game.specs.Placement.{stands_on, arrived}

-- A setting: every point at plus or not, by point; every signal open or closed, by the index of its section end.
pub record Setting : Type 0 where
  pub plus : ℕ → Bool
  pub is_open : ℕ → Bool

-- Two settings agree on a railway: at its points and at its signals. What they say elsewhere tells nothing (Moves, `AgreeingAlike`).
pub record SameSetting (r : Railway) (a b : Setting) : Type 0 where
  pub points : (n : ℕ) → n < r.points → a.plus n ≡ b.plus n
  pub signals : (i : ℕ) → i < section_ends → flag_at r i ≡ true → a.is_open i ≡ b.is_open i

-- The end that train t heads for in placement p.
unfoldable pub heads_for : Railway → ℕ → ℕ → End
heads_for r p t = Section (record { 0 = stands_on r p t }) (train_of r t).heading

-- Held: a signal stands at that end. A parked train, which stands on its destination, is not held, whatever stands there.
unfoldable pub held : Railway → ℕ → ℕ → Bool
held r p t = not (arrived r p t) && has_signal r (heads_for r p t)

-- Free: no signal does. A parked train is not free either.
unfoldable pub free : Railway → ℕ → ℕ → Bool
free r p t = not (arrived r p t) && not (has_signal r (heads_for r p t))

-- Open, said of the end that train t heads for.
abbrev pub opens_for : Railway → ℕ → Setting → ℕ → Bool
opens_for r p s t = s.is_open (end_index (heads_for r p t))

-- Train t is held, and the signal is open.
unfoldable pub signal_open : Railway → ℕ → Setting → ℕ → Bool
signal_open r p s t = held r p t && opens_for r p s t

-- A train may move if it is free or its signal is open; so one that is parked may not, whatever is open.
unfoldable pub may_move : Railway → ℕ → Setting → ℕ → Bool
may_move r p s t = free r p t || signal_open r p s t
