-- `game_moves::power` meets its contract: the fourth power of a byte fits.
-- Assumes nothing.
use native.Mathlib.Omega.{arith}
use lib.Dec.{ltb}
use Rattle.game_moves.proofs.Coding.{power-is, times-small}
use Rattle.game_moves.proofs.power.Goals as goal

pub times_if-two-requires : goal.times_if-two-requires
times_if-two-requires c = omega (arith, times-small 1 c.args.s 1 _ (ltb 0 c.args.k) (omega arith) (omega arith) c.times_if-one.ensures)

pub times_if-three-requires : goal.times_if-three-requires
times_if-three-requires c = omega (arith, times-small 255 c.args.s _ _ (ltb 1 c.args.k) (omega arith) (times-small 1 c.args.s 1 _ (ltb 0 c.args.k) (omega arith) (omega arith) c.times_if-one.ensures) c.times_if-two.ensures)

pub times_if-requires : goal.times_if-requires
times_if-requires c =
    omega (
      arith,
      times-small 65025 c.args.s _ _ (ltb 2 c.args.k) (omega arith)
          (times-small 255 c.args.s _ _ (ltb 1 c.args.k) (omega arith) (times-small 1 c.args.s 1 _ (ltb 0 c.args.k) (omega arith) (omega arith) c.times_if-one.ensures) c.times_if-two.ensures)
          c.times_if-three.ensures,
    )

pub returns : goal.returns
returns c =
    power-is c.args.s c.args.k _ _ _ _ c.times_if-one.ensures c.times_if-two.ensures c.times_if-three.ensures
    c.times_if.ensures
