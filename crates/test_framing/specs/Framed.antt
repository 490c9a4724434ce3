-- Whether a record was read, and what is left of the space that was lent for it. Which bytes come from standard input no definition can say.
-- Nothing of document 01 rests on this.
-- Assumes nothing.
use Rattle.std.specs.Prelude.{◌≡◌, cond, List, ℕ, eqb, length, drop, Option, None, Some, Result, Ok, Err}
use Rattle.test_framing.specs.declared.Broken.{Broken}

-- How many bytes a text has: none where there is no text.
abbrev pub bytes_of : Option ℕ → ℕ
bytes_of None = 0
bytes_of (Some n) = n

-- How many bytes a record has: none where it is broken.
abbrev pub length_of : Result (Option ℕ) Broken → ℕ
length_of (Ok t) = bytes_of t
length_of (Err b) = 0

-- A record of n bytes of which so many came: whole if all did, and else broken.
abbrev pub record_of : ℕ → ℕ → Result (Option ℕ) Broken
record_of n got = cond (eqb got n) (Ok (Some n)) (Err (record {}))

-- What a call leaves of the space, by the record that it answers: past a whole record the space is as it was, and all of it is where the input had
-- ended; a broken record may have left some of its bytes.
abbrev pub Kept : Result (Option ℕ) Broken → List ℕ → List ℕ → Type 0
Kept (Ok (Some n)) old new = drop n new ≡ drop n old
Kept (Ok None) old new = new ≡ old
Kept (Err b) old new = length new ≡ length old

-- What is left of the space that was lent for a text: past it the space is as it was; where there is none, some bytes of a broken record may be left.
abbrev pub KeptText : Option ℕ → List ℕ → List ℕ → Type 0
KeptText (Some n) old new = drop n new ≡ drop n old
KeptText None old new = length new ≡ length old
