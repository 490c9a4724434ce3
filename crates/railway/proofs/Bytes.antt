-- Bytes for ends. An end that a railway can have is got back from its byte, and a byte below the number of all ends is
-- the byte of the end that it says; so what is written for a join says that join, and of two ends joined each has the
-- other's byte. Assumes nothing.
use Prim.Native.Nat.{ℕ, ◌<◌, ◌≤◌}
use mathlib.Core.Path.{◌≡◌, refl, sym, ◌∙◌, ap}
use mathlib.Core.Bool.{Bool, true, false, cond}
use native.Mathlib.Omega.{arith}
use lib.Dec.{ltb}
use borrow.Author.Tests.{ltb-true, lt-ltb, le-ltb}
use Rattle.railway.specs.declared.End.{End}
use Rattle.railway.specs.Joined.{Joined, Nothing, With}
use Rattle.railway.specs.Bounds.{all_ends}
use Rattle.railway.specs.Ends.{Numbered, end_index, end_at}
use Rattle.railway.specs.Record.{joined_by, link_byte}
use Rattle.railway.proofs.Ends.{end-index, index-end, index_below}

-- what a byte says
module _ (b : ℕ) where
  pub byte-there : b < all_ends → joined_by b ≡ With (end_at b)
  unfolding joined_by
  byte-there h = rw (lt-ltb b all_ends h)

  pub byte_past : all_ends ≤ b → joined_by b ≡ Nothing
  unfolding joined_by
  byte_past h = rw (le-ltb b all_ends h)

-- an end comes back from its byte, and so does what is written for it
pub byte-back : (e : End) → Numbered e → joined_by (end_index e) ≡ With e
byte-back e h = byte-there (end_index e) (index_below e h) ∙ ap With (end-index e h)

pub link-back : (j : Joined) → ((f : End) → j ≡ With f → Numbered f) → joined_by (link_byte j) ≡ j
unfolding joined_by
link-back Nothing h = refl
link-back (With f) h = byte-back f (h f refl)

-- a byte that says an end is that end's
pub byte_of : (b : ℕ) (f : End) → joined_by b ≡ With f → b ≡ end_index f
unfolding joined_by
byte_of b f h = cases (ltb b all_ends) refl h
  where
    cases : (c : Bool) → ltb b all_ends ≡ c → cond c (With (end_at b)) Nothing ≡ With f → b ≡ end_index f
    cases true e q = let z : end_at b ≡ f = cc in sym (index-end b (ltb-true b all_ends e)) ∙ ap end_index z
    cases false e q = let z : ◌≡◌ {A = ℕ} 0 1 = cc in absurd (omega arith)

-- a byte that is an end's is the one written for what it says
pub byte-written : (b : ℕ) → b < all_ends → link_byte (joined_by b) ≡ b
byte-written b h = rw (byte-there b h) (index-end b h)
