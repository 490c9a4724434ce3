-- What an entry of the setting table stands for, and the entry of points and open trains (document 01, "The two tables and the plan"); that no
-- whole setting does more at a placement than its entry.
-- Assumes nothing.
use Rattle.std.specs.Prelude.{◌≡◌, Bool, false, ◌&&◌, ℕ, ◌+◌, ◌*◌, ◌^◌, eqb}
use Rattle.std.proofs.Math.Option.{none}
use Rattle.laws.specs.Below.{any_below}
use Rattle.laws.specs.Bits.{bit, from_bits}
use Rattle.railway.specs.declared.Railway.{Railway}
use Rattle.railway.specs.Ends.{end_index}
use Rattle.railway.specs.Rows.{record_refusal}
use Rattle.game.specs.Claim.{Alike}
use Rattle.game.specs.Placement.{shared}
use Rattle.game.specs.Setting.{Setting, heads_for, signal_open}
use Rattle.game.specs.Moves.{game_of}

-- The bit of the first train: points have the bits below, point 1 the lowest.
abbrev pub train_bits : ℕ
train_bits = 16

-- Train t is open in entry v: each train has a bit behind those of the points.
abbrev pub opens_in : ℕ → ℕ → Bool
opens_in v t = bit v (train_bits + t)

-- Train t is one of these open trains, and heads at placement p for the section end of index i.
abbrev pub opens_end : Railway → ℕ → (ℕ → Bool) → ℕ → ℕ → Bool
opens_end r p opens i t = opens t && eqb i (end_index (heads_for r p t))

-- The whole setting of points at plus and open trains at placement p: signals of no open train are closed.
abbrev pub setting_from : Railway → ℕ → (ℕ → Bool) → (ℕ → Bool) → Setting
setting_from r p plus opens = record { plus = plus; is_open = λ i. any_below (opens_end r p opens i) r.trains }

-- The whole setting of an entry.
unfoldable pub setting_at : Railway → ℕ → ℕ → Setting
setting_at r p v = setting_from r p (bit v) (opens_in v)

-- The entry of points at plus and open trains.
unfoldable pub entry_from : Railway → (ℕ → Bool) → (ℕ → Bool) → ℕ
entry_from r plus opens = from_bits plus r.points + 2 ^ train_bits * from_bits opens r.trains

-- The entry of a whole setting at placement p. Signals that no train heads for, or only a parked one, leave no trace in it.
abbrev pub entry_of : Railway → ℕ → Setting → ℕ
entry_of r p s = entry_from r s.plus (signal_open r p s)

-- Every whole setting acts at a placement as its entry there, in an accepted case where no two trains share a section: it lets the same trains
-- move, and to the same ends. So what is said of entries is said of all settings.
abbrev pub EntryActs : Type 0
EntryActs = (r : Railway) → record_refusal r ≡ none → (p : ℕ) → shared r p ≡ false → (s : Setting) → Alike (game_of r) p s (setting_at r p (entry_of r p s))
