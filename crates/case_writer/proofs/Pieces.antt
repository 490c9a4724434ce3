-- The pieces of each part, one behind the other, make the writer's text. Rising lines and lines for each element are pieces by induction on the
-- count; an end's join and signal, asked by the end, are those at its index, and so with a closed section.
-- Assumes nothing.
use Prim.Native.Nat.{ℕ, zero, suc, ◌+◌, ◌<◌}
use mathlib.Core.Path.{◌≡◌, refl, sym, ◌∙◌}
use mathlib.Core.Bool.{Bool, true, false, cond}
use mathlib.Core.List.{List, [], ◌∷◌, ◌++◌, flat_map, append_assoc, append-nil}
use native.Mathlib.Omega.{arith}
use lib.Dec.{ltb}
use lib.ListN.{length}
use Rattle.laws.specs.Below.{list_below, gather_below}
use Rattle.laws.proofs.Below.{list_length, gather-same}
use Rattle.railway.specs.Joined.{Joined, Nothing, With}
use Rattle.railway.specs.declared.Railway.{Railway}
use Rattle.railway.specs.Bounds.{most_sections, section_ends, all_ends}
use Rattle.railway.specs.Ends.{end_index, end_at}
use Rattle.railway.specs.Record.{link_at, flag_at, closed_at, legs_of, train_of}
use Rattle.railway.proofs.Ends.{end-section, index-end}
use Rattle.railway.proofs.Lookups.{joined-there, signal-there, closed-there}
use Rattle.case_file.specs.Form.{point_line, join_line, signal_line, closed_line, train_line, rising, spell}
use Rattle.case_file.specs.Writing.{join_from, join_at, signal_at, closed_line_of, line_of_train, description_of, written_text}
use Rattle.case_writer.specs.Pieces.{header_text, join_piece, point_of, join_of, signal_of, closed_of, train_at}

-- RISING LINES, and a line for each element
module _ {A : Type 0} (f : ℕ → A → List ℕ) where
  rising-more : (n : ℕ) (xs : List A) (x : A) → rising f n (xs ++ (x ∷ [])) ≡ rising f n xs ++ f (n + length xs) x
  unfolding rising
  rising-more n [] x = let e : n + 0 ≡ n = omega arith in rw (append-nil, e)
  rising-more n (y ∷ xs) x =
      let e : suc n + length xs ≡ n + suc (length xs) = omega arith in
      rw (rising-more (suc n) xs x, e, append_assoc)

  rising-pieces : (g : ℕ → A) (k : ℕ) → rising f 1 (list_below g k) ≡ gather_below (λ i. f (suc i) (g i)) k
  unfolding rising list_below gather_below
  rising-pieces g zero = refl
  rising-pieces g (suc k) =
      let e : 1 + length (list_below g k) ≡ suc k = rw (list_length g k) (omega arith) in
      rising-more 1 (list_below g k) (g k) ∙ rw (e, rising-pieces g k)

module _ {A : Type 0} (f : A → List ℕ) where
  each-then : (xs ys : List A) → flat_map f (xs ++ ys) ≡ flat_map f xs ++ flat_map f ys
  unfolding flat_map
  each-then [] ys = refl
  each-then (x ∷ xs) ys = rw (each-then xs ys, append_assoc)

  each-pieces : (g : ℕ → List A) (k : ℕ) → flat_map f (gather_below g k) ≡ gather_below (λ i. flat_map f (g i)) k
  unfolding flat_map gather_below
  each-pieces g zero = refl
  each-pieces g (suc k) = rw (each-then (gather_below g k) (g k), each-pieces g k)

  each-one : (b : Bool) (x : A) → flat_map f (cond b (x ∷ []) []) ≡ cond b (f x) []
  unfolding flat_map
  each-one true x = append-nil (f x)
  each-one false x = refl

-- AN END'S pieces
join-from : (i : ℕ) (j : Joined) → flat_map join_line (join_from i j) ≡ join_piece i j
unfolding flat_map
join-from i Nothing = refl
join-from i (With f) = each-one join_line (ltb i (end_index f)) _

module _ (r : Railway) where
  join-piece : (i : ℕ) → i < all_ends → flat_map join_line (join_at r i) ≡ join_of r i
  join-piece i h =
      rw (← joined-there r (end_at i) i (sym (index-end i h)) h) (join-from i (link_at r i))

  signal-piece : (i : ℕ) → i < section_ends → flat_map signal_line (signal_at r i) ≡ signal_of r i
  signal-piece i h =
      rw (← signal-there r (end_at i) i (sym (index-end i (omega arith))) h, end-section i h) (each-one signal_line (flag_at r i) _)

  closed-piece : (x : ℕ) → x < most_sections → flat_map closed_line (closed_line_of r x) ≡ closed_of r x
  closed-piece x h = rw (← closed-there r x h) (each-one closed_line (closed_at r x) _)

  -- THE WHOLE
  pub text-pieces : written_text r
      ≡ header_text r.sections r.points r.trains
      ++ (gather_below (point_of r) r.points
      ++ (gather_below (join_of r) all_ends
      ++ (gather_below (signal_of r) section_ends
      ++ (gather_below (closed_of r) most_sections
      ++ gather_below (train_at r) r.trains))))
  unfolding written_text spell description_of
  text-pieces =
      let p = rising-pieces point_line (legs_of r) r.points in
      let j = each-pieces join_line (join_at r) all_ends ∙ gather-same _ (join_of r) all_ends join-piece in
      let g = each-pieces signal_line (signal_at r) section_ends ∙ gather-same _ (signal_of r) section_ends signal-piece in
      let x = each-pieces closed_line (closed_line_of r) most_sections ∙ gather-same _ (closed_of r) most_sections closed-piece in
      let t = rising-pieces train_line (λ t. line_of_train (train_of r t)) r.trains in
      rw (p, j, g, x, t)
