-- A line as code reads it, step by step. Assumes nothing.
use Rattle.text.proofs.Numbers.{byte-is}
use Rattle.text.proofs.Chain.{fails, goes}

-- A byte that was looked for, and going on behind what was read or was not
pub ruleset steps = (byte-is, fails, goes)
