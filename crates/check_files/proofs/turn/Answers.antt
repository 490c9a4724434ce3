-- `check_files::turn` meets its contract: a read, and the call for what has come.
-- Assumes nothing.
use native.Mathlib.Omega.{arith}
use Prim.Native.Nat.{◌+◌}
use mathlib.Core.Path.{refl}
use Rattle.check_files.proofs.Hearing.{taken-within}
use Rattle.check_files.proofs.turn.Goals as goal

pub overflow_add-result : goal.overflow_add-result
overflow_add-result g c =
    let w = taken-within _ _ _ c.args.at (c.args.have + c.read_more-n.result) _ _ _ c.go_on-gone.ensures in
    omega (arith, w, c.requires.0)

pub returns : goal.returns
returns g c =
    record {
      came = c.read_more-n.result;
      read = c.read_more-n.ensures;
      all = refl;
      bytes = c.go_on-gone.result.bytes;
      stopped = c.go_on-gone.result.stopped;
      lines = c.go_on-gone.ensures;
      taken = refl;
      goes_on = c.goes_on.ensures;
    }
