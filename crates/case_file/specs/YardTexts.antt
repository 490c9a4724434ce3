-- The case texts of the yards of document 01, "Yards to try", as one table with one statement: the records that the known figures speak of are what
-- these texts say. Assumes nothing.
use Rattle.std.specs.Prelude.{List, [], ◌∷◌}
use Prim.Native.String.{String}
use Rattle.text.specs.Text.{bytes}
use Rattle.railway.specs.declared.Railway.{Railway}
use Rattle.railway.specs.Yards.{yard_a, yard_aless, yard_one, yard_one_down, up_one_two, up_two_one, up_two_one_held, head_on}
use Rattle.case_file.specs.Given.{AcceptedWith}

-- A yard: its record and its case text.
pub record YardText : Type 0 where
  pub yard : Railway
  pub text : String

-- Yard A's text.
abbrev pub text_a : String
text_a = "H\t3\t1\t2\nP\t1\td\nJ\t1u\t1+\nJ\t2u\t1-\nJ\t3d\t1s\nG\t1d\nG\t2u\nT\t1\tu\t2\t3\nT\t2\td\t3\t1\n"

-- All of them, in the document's order: Yard A, and without its signal at 1d; one section, the train up and down; two sections and a train up, from 1 to 2, from 2 to 1,
-- and the same with a signal at 2u; two trains head on there.
unfoldable pub yard_texts : List YardText
yard_texts =
    record { yard = yard_a; text = text_a }
    ∷
    record { yard = yard_aless; text = "H\t3\t1\t2\nP\t1\td\nJ\t1u\t1+\nJ\t2u\t1-\nJ\t3d\t1s\nG\t2u\nT\t1\tu\t2\t3\nT\t2\td\t3\t1\n" }
    ∷
    record { yard = yard_one; text = "H\t1\t0\t1\nT\t1\tu\t1\t1\n" }
    ∷
    record { yard = yard_one_down; text = "H\t1\t0\t1\nT\t1\td\t1\t1\n" }
    ∷
    record { yard = up_one_two; text = "H\t2\t0\t1\nJ\t1u\t2d\nT\t1\tu\t1\t2\n" }
    ∷
    record { yard = up_two_one; text = "H\t2\t0\t1\nJ\t1u\t2d\nT\t1\tu\t2\t1\n" }
    ∷
    record { yard = up_two_one_held; text = "H\t2\t0\t1\nJ\t1u\t2d\nG\t2u\nT\t1\tu\t2\t1\n" }
    ∷
    record { yard = head_on; text = "H\t2\t0\t2\nJ\t1u\t2d\nG\t1u\nG\t2d\nT\t1\tu\t1\t2\nT\t2\td\t2\t1\n" }
    ∷
    []

-- Each text is accepted, with the yard's record as its railway.
abbrev pub AllAccepted : List YardText → Type 0
AllAccepted [] = Unit {0}
AllAccepted (x ∷ xs) = AcceptedWith (bytes x.text) x.yard × AllAccepted xs

-- The statement for the whole table.
abbrev pub YardsAccepted : Type 0
YardsAccepted = AllAccepted yard_texts
