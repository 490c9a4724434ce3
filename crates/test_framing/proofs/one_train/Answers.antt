-- `test_framing::one_train` meets its contract: the bare record with these counts, and its train.
-- Assumes nothing.
use mathlib.Core.Path.{◌≡◌}
use Prim.Native.Nat.{ℕ}
use Rattle.railway.specs.declared.Train.{Train}
use Rattle.railway.specs.declared.Railway.{Railway}
use Rattle.railway.specs.Record.{bare_railway, empty_railway, with_train}
use Rattle.test_framing.proofs.one_train.Goals as goal

-- the counts of a record, set
abbrev counted : Railway → ℕ → ℕ → ℕ → Railway
counted r s p k =
    record {
      sections = s;
      points = p;
      trains = k;
      legs = r.legs;
      links = r.links;
      signals = r.signals;
      closed = r.closed;
      roster = r.roster;
    }

made : (empty r : Railway) (s p : ℕ) (t : Train) → empty ≡ empty_railway → r ≡ with_train (counted empty s p 1) 0 t → r ≡ with_train (bare_railway s p 1) 0 t
made empty r s p t e h = rw e at h

pub returns : goal.returns
returns c = made _ _ _ _ _ c.empty-r.ensures.empty c.with_train.ensures
