-- Row 13 of a text, in words. Where rows 3 to 6 do not apply to the lines they do not to the record either, and so its row says that there is such a way or such a
-- round; and where no row before it applies, 16 neither, it is given exactly where it applies.
-- Assumes nothing.
use Prim.Native.Nat.{ℕ, ◌≤◌}
use mathlib.Core.Path.{◌≡◌, ◌∙◌}
use mathlib.Core.Bool.{true}
use mathlib.Core.List.{List}
use lib.ListN.{length}
use borrow.Author.Tests.{le-ltb}
use Rattle.railway.specs.declared.Refusal.TheVariants.{Chain}
use Rattle.railway.specs.Refusals.{first}
use Rattle.railway.proofs.Chains.{exactly}
use Rattle.case_file.specs.Form.{Description, Describes}
use Rattle.case_file.specs.Rows.{most_bytes, chain_row}
use Rattle.case_file.specs.Recording.{railway_of}
use Rattle.case_file.specs.Given.{refused}
use Rattle.case_file.specs.Reading.{case_answer}
use Rattle.case_file.specs.Claims.{JoinableLines, ChainGiven}
use Rattle.case_file.proofs.Reading.{describes-one}
use Rattle.case_file.proofs.Given.{answer-of, refused-exactly}
use Rattle.case_file.proofs.Rows.{laid-facts}
use Rattle.case_file.proofs.Again.{laid-record}

module _ (text : List ℕ) (d : Description) (short : length text ≤ most_bytes) (w : Describes text d) (h : JoinableLines d) where
  given-applies : case_answer text ≡ refused Chain → chain_row d ≡ true
  given-applies e =
      let s = ((refused-exactly text Chain).0 e).here in
      rw (describes-one text d s.description w s.described) s.passes

  applies-given : chain_row d ≡ true → case_answer text ≡ refused Chain
  unfolding first
  applies-given c = answer-of text d w ∙ rw (le-ltb most_bytes (length text) short, h.count, h.weight, h.unknown, h.join, h.loose, c)

pub chain-given : ChainGiven
chain-given text d short w h =
    let e = exactly (railway_of d) (laid-record d (laid-facts d h)) in
    (λ a. e.0 (given-applies text d short w h a), λ x. applies-given text d short w h (e.1 x))
