-- The writer's order. Ranks of ends rise with their index, and each index has one line at most; so lines gathered by rising index rise.
-- An X line has its section's number, one more than its index.
-- Assumes nothing.
use Prim.Native.Nat.{ℕ, zero, suc, ◌+◌, ◌<◌, ◌≤◌}
use mathlib.Core.Path.{◌≡◌, refl, ap}
use mathlib.Core.Bool.{true}
use mathlib.Core.List.{List, [], ◌∷◌, ◌++◌, map, Memᴰ}
use native.Mathlib.Omega.{arith}
use lib.Dec.{leb}
use lib.ListN.{length}
use borrow.Author.Tests.{leb-true, le-leb}
use Rattle.laws.specs.Below.{gather_below}
use Rattle.laws.specs.Lists.{Every, rises}
use Rattle.laws.proofs.Bools.{and-true, and_both}
use Rattle.laws.proofs.Below.{gathered}
use Rattle.laws.proofs.Lists.{map-in, map-append}
use Rattle.railway.specs.declared.Side.{Side}
use Rattle.railway.specs.declared.Side.TheVariants.{Up, Down}
use Rattle.railway.specs.declared.Leg.{Leg}
use Rattle.railway.specs.declared.SectionNo.{SectionNo}
use Rattle.railway.specs.declared.PointNo.{PointNo}
use Rattle.railway.specs.declared.End.{End}
use Rattle.railway.specs.declared.End.TheVariants.{Section, Port}
use Rattle.railway.specs.declared.Railway.{Railway}
use Rattle.railway.specs.Bounds.{most_sections, most_points, section_ends, all_ends}
use Rattle.railway.specs.Ends.{Numbered, leg_index, end_index, end_at}
use Rattle.railway.specs.Record.{link_at, flag_at, closed_at}
use Rattle.railway.proofs.Ends.{section-index, port-index, section-below, port-behind, numbered_of, end-section, index-end}
use Rattle.railway.proofs.Rows.{Accepted, accepted-facts, known-numbered}
use Rattle.case_file.specs.Form.{section}
use Rattle.case_file.specs.Recording.{field_of, signal_of}
use Rattle.case_file.specs.Writing.{join_at, signal_at, closed_line_of, description_of, written_text}
use Rattle.case_file.specs.Claims.{rank, Sorted, WriterSorts}
use Rattle.case_file.proofs.Reading.{describes-one}
use Rattle.case_file.proofs.Writing.{origin, signal-origin, closed-origin, from-link}
use Rattle.case_file.proofs.Lengths.{one_at_most, one-join}
use Rattle.case_file.proofs.Claims.{described}

-- RISING LISTS: from a lower bound, one behind another, one element at most
rises-lower : (c d : ℕ) (t : List ℕ) → c ≤ d → rises d t ≡ true → rises c t ≡ true
unfolding rises
rises-lower c d [] h q = refl
rises-lower c d (x ∷ t) h q =
    let k = and-true (leb d x) (rises (suc x) t) q in
    and_both (leb c x) (rises (suc x) t) (le-leb c x (omega (arith, leb-true d x k.0))) k.1

rises-append : (c d : ℕ) (s t : List ℕ) → c ≤ d → rises c s ≡ true → rises d t ≡ true → Every (λ x. x < d) s → rises c (s ++ t) ≡ true
unfolding rises
rises-append c d [] t l p q h = rises-lower c d t l q
rises-append c d (z ∷ s) t l p q h =
    let k = and-true (leb c z) (rises (suc z) s) p in
    and_both (leb c z) (rises (suc z) (s ++ t)) k.0
    (rises-append (suc z) d s t (omega (arith, h z (Memᴰ.head refl))) k.1 q (λ x m. h x (Memᴰ.tail m)))

rises-one : (d : ℕ) (l : List ℕ) → length l ≤ 1 → Every (λ x. d ≤ x) l → rises d l ≡ true
unfolding rises
rises-one d [] h b = refl
rises-one d (x ∷ []) h b = and_both (leb d x) true (le-leb d x (b x (Memᴰ.head refl))) refl
rises-one d (x ∷ y ∷ l) h b = absurd (omega arith)

map-length : {A : Type 0} (key : A → ℕ) (l : List A) → length (map key l) ≡ length l
map-length key [] = refl
map-length key (x ∷ l) = ap suc (map-length key l)

map-self : (l : List ℕ) → map (λ n. n) l ≡ l
map-self [] = refl
map-self (x ∷ l) = ap (λ (t : List ℕ). x ∷ t) (map-self l)

-- `place i` is where the lines of index i stand
rises-gather : {A : Type 0} (key : A → ℕ) (place : ℕ → ℕ) (f : ℕ → List A) (k : ℕ) → ((i j : ℕ) → i < j → j < k → place i < place j) → ((i : ℕ) → length (f i) ≤ 1)
    → ((i : ℕ) (x : A) → i < k → Memᴰ x (f i) → key x ≡ place i) → rises 0 (map key (gather_below f k)) ≡ true
unfolding gather_below rises
rises-gather key place f zero up p h = refl
rises-gather key place f (suc k) up p h =
    rw (map-append key (gather_below f k) (f k))
    (rises-append 0 (place k) (map key (gather_below f k)) (map key (f k)) (omega arith)
    (rises-gather key place f k (λ i j l b. up i j l (omega arith)) p (λ i x b m. h i x (omega arith) m))
    (rises-one (place k) (map key (f k)) (rw (map-length key (f k)) (p k))
    (λ y n. let b = map-in key (f k) y n in omega (arith, b.is, h k b.element (omega arith) b.member)))
    (λ x m.
    let a = map-in key (gather_below f k) x m in
    let g = gathered f k a.element a.member in
    omega (arith, a.is, h g.index a.element (omega (arith, g.below)) g.there, up g.index k g.below (omega arith))))

-- RANKS rise with the index
rank-section : (n : SectionNo) (s : Side) → n.0 < most_sections → rank (field_of (Section n s)) ≡ end_index (Section n s) + 2
rank-section n Down h = let x = section-index (Section n Down) n Down 0 refl h refl in omega arith
rank-section n Up h = let x = section-index (Section n Up) n Up 1 refl h refl in omega arith

rank-port : (n : PointNo) (l : Leg) → n.0 < most_points → rank (field_of (Port n l)) ≡ end_index (Port n l) + 1907
rank-port n l h = let x = port-index (Port n l) n l (leg_index l) refl h refl in omega arith

rank_rises : (e f : End) → Numbered e → Numbered f → end_index e < end_index f → rank (field_of e) < rank (field_of f)
rank_rises (Section m s) (Section n t) a b l = omega (arith, rank-section m s a, rank-section n t b)
rank_rises (Section m s) (Port n k) a b l = omega (arith, rank-section m s a, rank-port n k b, section-below m s a)
rank_rises (Port m k) (Section n t) a b l = absurd (omega (arith, port-behind m k, section-below n t b))
rank_rises (Port m k) (Port n i) a b l = omega (arith, rank-port m k a, rank-port n i b)

-- where the lines of an end stand, by its index
abbrev place_of : ℕ → ℕ
place_of i = rank (field_of (end_at i))

place-rises : (i j : ℕ) → i < j → j < all_ends → place_of i < place_of j
place-rises i j l b =
    let x = index-end i (omega arith) in
    let y = index-end j b in
    rank_rises (end_at i) (end_at j) (numbered_of (end_at i) (omega arith)) (numbered_of (end_at j) (omega arith)) (omega arith)

signal-place : (i : ℕ) → i < section_ends → rank (section (signal_of i).number (signal_of i).side) ≡ place_of i
signal-place i h = rw (end-section i h)

module _ (r : Railway) (w : Accepted r) where
  first : Every (λ j. rank j.one < rank j.other) (description_of r).joins
  first j m =
      let t = from-link r w j m in
      let o = t.origin in
      let k = w.link-known t.index o.to t.below o.link in
      let i = index-end t.index t.below in
      let l = o.later in
      omega (arith, ap rank o.one, ap rank o.other, rank_rises (end_at t.index) o.to (known-numbered r w (end_at t.index) k.0) (known-numbered r w o.to k.1) (omega arith))

  sorted : Sorted (description_of r)
  unfolding description_of
  sorted =
      record {
        first = first;
        joins = rises-gather (λ j. rank j.one) place_of (join_at r) all_ends place-rises (λ i. one-join i (link_at r i)) (λ i j b m. ap rank (origin r i j m).one);
        signals = rises-gather (λ g. rank (section g.number g.side)) place_of (signal_at r) section_ends (λ i j l b. place-rises i j l (omega arith)) (λ i. one_at_most (signal_of i) (flag_at r i))
            (λ i g b m. rw (signal-origin r i g m).is (signal-place i b));
        closed =
            rw map-self at
            (rises-gather (λ n. n) suc (closed_line_of r) most_sections (λ i j l b. omega arith) (λ x. one_at_most (suc x) (closed_at r x)) (λ x n b m. (closed-origin r x n m).is));
      }

pub writer-sorts : WriterSorts
writer-sorts r e d v =
    let w = accepted-facts r e in
    let z : d ≡ description_of r = describes-one (written_text r) d (description_of r) v (described r w) in
    rw z (sorted r w)
