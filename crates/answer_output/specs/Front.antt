-- What is written out of a buffer that a text was put into. Nothing of document 01 rests on this.
-- Assumes nothing.
use Rattle.std.specs.Prelude.{Bool, false, cond, List, ℕ, leb, length}
use Rattle.case_file.specs.Written.{Written, Bytes, Refused}

-- The buffer has a front of as many bytes as the answer counts; a refusal has none.
abbrev pub has_front : Written → List ℕ → Bool
has_front (Bytes n) out = leb n (length out)
has_front (Refused f) out = false

-- How many bytes that front has; none where there is no front.
abbrev pub front_bytes : Written → List ℕ → ℕ
front_bytes (Bytes n) out = cond (leb n (length out)) n 0
front_bytes (Refused f) out = 0
