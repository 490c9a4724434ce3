-- The bits of a number, bit 0 the lowest.
-- Assumes nothing.
use Rattle.std.specs.Prelude.{Bool, cond, ℕ, zero, suc, ◌+◌, ◌*◌, ◌/◌, ◌%◌, ◌^◌, eqb}

-- Bit n of a number.
abbrev pub bit : ℕ → ℕ → Bool
bit v n = eqb (v / (2 ^ n) % 2) 1

-- The number whose bits below k are given: bit 0, and twice the number of the bits above it.
unfoldable pub from_bits : (ℕ → Bool) → ℕ → ℕ
from_bits f zero = 0
from_bits f (suc k) = cond (f 0) 1 0 + 2 * from_bits (λ n. f (suc n)) k
