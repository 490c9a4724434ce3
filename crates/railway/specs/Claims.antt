-- What is claimed of the numbers that a record gets (document 01, "Numbers that a desk can get": "given exactly if", and the first that applies in the order
-- of the rows), and of the bytes in which it keeps its joins (document 02, Q-4). proofs/Claims has the proofs. Assumes nothing.
use Rattle.std.specs.Prelude.{◌≡◌, ◌↔◌, true, ℕ, ◌<◌, ◌≤◌, get_or}
use Rattle.std.proofs.Math.Option.{none, some}
use Rattle.laws.specs.Lists.{Every}
use Rattle.railway.specs.declared.End.{End}
use Rattle.railway.specs.Joined.{Nothing, With}
use Rattle.railway.specs.declared.Railway.{Railway}
use Rattle.railway.specs.declared.Refusal.{Refusal}
use Rattle.railway.specs.Bounds.{all_ends}
use Rattle.railway.specs.Ends.{Numbered, end_index}
use Rattle.railway.specs.Record.{no_link, joined_by, joined}
use Rattle.railway.specs.Refusals.{number, numbers_in_order, rank, number_of, NotApplying, FirstRow}
use Rattle.railway.specs.Rows.{known, record_rows, record_refusal}
use Rattle.railway.specs.Same.{SameRailway, SameButForNone}

-- WHICH NUMBER a record gets, of all that it may deserve.
pub record RecordNumbers : Type 0 where
  -- a record gets a number exactly if that row applies to it and none before
  pub given : (r : Railway) (f : Refusal) → (number_of (record_refusal r) ≡ some (number f)) ↔ FirstRow (record_rows r) f
  -- it gets none, and is accepted, exactly if no row applies
  pub accepted : (r : Railway) → (number_of (record_refusal r) ≡ none) ↔ Every NotApplying (record_rows r)
  -- no two refusals have one number
  pub one : (f g : Refusal) → number f ≡ number g → f ≡ g
  -- where two cases are judged together, it goes by the place of each number in the order
  pub ranked : (f : Refusal) → get_or numbers_in_order (rank f) 0 ≡ number f

-- BYTES FOR ENDS. No two ends that a railway can have share a byte, and each byte tells its end.
pub record EndBytes : Type 0 where
  -- its byte is below the number of all ends
  pub below : (e : End) → Numbered e → end_index e < all_ends
  -- no other end has it
  pub own : (a b : End) → Numbered a → Numbered b → end_index a ≡ end_index b → a ≡ b
  -- what it says is that end
  pub back : (e : End) → Numbered e → joined_by (end_index e) ≡ With e
  -- none below is left over
  pub taken : (b : ℕ) → b < all_ends → (e : End) × Numbered e × (end_index e ≡ b)
  -- all others say that there is no join,
  pub others : (b : ℕ) → all_ends ≤ b → joined_by b ≡ Nothing
  -- and the one that is written is among them
  pub written : all_ends ≤ no_link

-- A join of a record: two ends that are there, each with the other's byte.
pub record JoinOf (r : Railway) (e f : End) : Type 0 where
  pub one-there : known r e ≡ true
  pub other-there : known r f ≡ true
  pub forth : get_or r.links (end_index e) no_link ≡ end_index f
  pub back : get_or r.links (end_index f) no_link ≡ end_index e

-- THE LOOKUP, of an accepted record and at any end.
pub record LookedUp (r : Railway) : Type 0 where
  -- it gives an end exactly if that is the other end of a join
  pub other : (e f : End) → (joined r e ≡ With f) ↔ JoinOf r e f
  -- and from there it comes back
  pub returned : (e f : End) → joined r e ≡ With f → joined r f ≡ With e
  -- it gives nothing exactly if the end is in no join
  pub unjoined : (e : End) → (joined r e ≡ Nothing) ↔ ((f : End) → JoinOf r e f → ⊥)

-- Every accepted record is looked up so.
abbrev pub AcceptedLookedUp : Type 0
AcceptedLookedUp = (r : Railway) → record_refusal r ≡ none → LookedUp r

-- NO JOIN HAS MANY BYTES. Records that differ only there are the same railway.
abbrev pub NoneAlike : Type 0
NoneAlike = (r q : Railway) → SameButForNone r q → SameRailway r q
