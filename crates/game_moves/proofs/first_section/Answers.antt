-- `game_moves::first_section` meets its contract, by the rest of a division.
-- Assumes nothing.
use native.Mathlib.Omega.{arith}
use Rattle.game_moves.proofs.Coding.{rest-small}
use Rattle.railway.proofs.Lookups.{within, beyond}
use Rattle.game_moves.proofs.first_section.Goals as goal

pub returns-then-k-t : goal.returns-then-k-t
returns-then-k-t c = λ some. beyond _ _ _ _ c.if-k-t.true

pub overflow_cast-result-2 : goal.overflow_cast-result-2
overflow_cast-result-2 c = record { fits = rest-small _ _ (omega (arith, c.if-s-eq0.false)) c.ranges.s.fits }

pub returns : goal.returns
returns c = λ some. within _ _ _ _ c.if-k-t.false
