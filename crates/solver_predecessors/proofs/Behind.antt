-- The placement before a move. A move that ends in a placement has put one train on the section where it stands there and left the others: so the placement
-- before has the train on a section from which it came, and the others as they are. The way that it came is the same back, and it is one of the ways from
-- the end behind. Assumes nothing.
use mathlib.Core.Path.{◌≡◌, refl, sym, ◌∙◌, ap}
use mathlib.Core.Logic.{inl, inr}
use mathlib.Core.Bool.{Bool, true, false, cond}
use mathlib.Core.List.{List, [], ◌∷◌}
use mathlib.Core.Option.{Option, none, some}
use Prim.Native.Nat.{ℕ, suc, ◌+◌, ◌*◌, ◌<◌}
use native.Mathlib.Omega.{arith}
use lib.ListN.{length, set}
use lib.Seq.{get_or-set_same, set-get_or, set-set}
use Rattle.laws.specs.Bits.{bit}
use Rattle.laws.proofs.Bools.{lt?, option?, some-none}
use Rattle.railway.specs.declared.End.TheVariants.{Section}
use Rattle.railway.specs.declared.Railway.{Railway}
use Rattle.railway.specs.Bounds.{most_sections, section_ends}
use Rattle.railway.specs.Ends.{opposite, side_index, end_index, end_at}
use Rattle.railway.specs.Record.{train_of}
use Rattle.railway.specs.Rows.{record_refusal}
use Rattle.railway.specs.Passing.{most_met, passes, entered}
use Rattle.railway.proofs.Rows.{accepted-facts}
use Rattle.railway.proofs.Ends.{side-small, section-index, end-index}
use Rattle.game.specs.Game.{lost, at, collision}
use Rattle.game.specs.Placement.{code_of, sections_of, stands_on, placements}
use Rattle.game.specs.Setting.{Setting, heads_for}
use Rattle.game.specs.Moves.{occupied, code_with, enters, move_of}
use Rattle.game.proofs.Placement.{code-sections, sections-length}
use Rattle.game.proofs.Accepted.{Facts, facts}
use Rattle.game.proofs.Moves.{entered-reached, entered_below, sections-with}
use Rattle.game.proofs.Back.{goes_back}
use Rattle.railway_routes.specs.Routes.{Way, suits, routes_from, nth, reached_by, one_of, most_ways, no_section, to_byte}
use Rattle.railway_routes.proofs.Ways.{nth_past, nth-gone}
use Rattle.railway_routes.proofs.Routes.{from-reaches, from-few, from-ends, from-small}
use Rattle.solver_predecessors.specs.Behind.{end_behind, section_behind, BackBy}

-- A SECTION THAT IS REACHED is at the end of some way
record Ends (ws : List Way) (y : ℕ) : Type 0 where
  number : ℕ
  way : Way
  there : nth ws number ≡ some way
  to : way.to ≡ y

first-of : (x y : ℕ) (xs ys : List ℕ) → x ∷ xs ≡ y ∷ ys → x ≡ y
first-of x y xs ys e = cc

reached-ends : (b : ℕ) (ws : List Way) (y : ℕ) (ys : List ℕ) → reached_by b ws ≡ y ∷ ys → Ends ws y
unfolding reached_by nth
reached-ends b [] y ys e = let z : ◌≡◌ {A = ℕ} 0 1 = cc in absurd (omega arith)
reached-ends b (w ∷ ws) y ys e = go (suits b w.care w.want) (λ d. reached-ends b ws y ys d) e
  where
    go : (s : Bool) → (reached_by b ws ≡ y ∷ ys → Ends ws y) → cond s (w.to ∷ reached_by b ws) (reached_by b ws) ≡ y ∷ ys → Ends (w ∷ ws) y
    go true rest e = record { number = 0; way = w; there = refl; to = first-of w.to y (reached_by b ws) ys e }
    go false rest e = let k = rest e in record { number = suc k.number; way = k.way; there = k.there; to = k.to }

-- A MOVE THAT ENDS in placement c: the train has entered a section.
record Entered (r : Railway) (p t c : ℕ) (o : Option ℕ) : Type 0 where
  section : ℕ
  reached : o ≡ some section
  code : c ≡ code_with r p t section

by-entering : (r : Railway) (p t c : ℕ) (o : Option ℕ) → enters r p t o ≡ at c → Entered r p t c o
by-entering r p t c none e = let z : ◌≡◌ {A = ℕ} 0 1 = cc in absurd (omega arith)
by-entering r p t c (some x) e = go (occupied r p t x) e
  where
    go : (b : Bool) → cond b (lost collision) (at (code_with r p t x)) ≡ at c → Entered r p t c (some x)
    go true e = let z : ◌≡◌ {A = ℕ} 0 1 = cc in absurd (omega arith)
    go false e = let z : code_with r p t x ≡ c = cc in record { section = x; reached = refl; code = sym z }

-- BACK FROM placement c, where the train stands on section x
module _ (r : Railway) (accepted : record_refusal r ≡ none) (c p t b : ℕ) (s : Setting) (lie : s.plus ≡ bit b) (l : p < placements r) (lt : t < r.trains) (moved : move_of r p s t ≡ at c)
    (x : ℕ) (here : x ≡ stands_on r c t) where
  facts-of : Facts r
  facts-of = facts r accepted

  into : Entered r p t c (entered r (bit b) (heads_for r p t))
  unfolding move_of
  into = by-entering r p t c (entered r (bit b) (heads_for r p t)) (rw lie at moved)

  inside : t < length (sections_of r p)
  inside = rw (sections-length r.sections r.trains p) lt

  -- The other trains stand as before.
  others : sections_of r c ≡ set (sections_of r p) t into.section
  others = ap (sections_of r) into.code ∙ sections-with r facts-of p t into.section (entered_below r facts-of (bit b) (heads_for r p t) into.section into.reached)

  section-is : x ≡ into.section
  unfolding stands_on
  section-is = here ∙ rw others (get_or-set_same (sections_of r p) t into.section 0 inside)

  -- Going back, the train comes to where it stood.
  back : (passes r (bit b) (end_behind r t x)).reached ≡ some (stands_on r p t)
  unfolding heads_for passes
  back =
      let route : (passes r (bit b) (Section (record { 0 = stands_on r p t }) (train_of r t).heading)).reached ≡ some x =
      entered-reached r facts-of (bit b) (heads_for r p t) into.section into.reached ∙ ap (λ (a : ℕ). some a) (sym section-is) in
      goes_back r (bit b) (accepted-facts r accepted) most_met (stands_on r p t) x (train_of r t).heading route

  by_way : Ends (routes_from r (λ y. false) (end_behind r t x)) (stands_on r p t)
  by_way = reached-ends b (routes_from r (λ y. false) (end_behind r t x)) (stands_on r p t) [] (from-reaches r b (end_behind r t x) ∙ ap one_of back)

  behind-is : section_behind r t x by_way.number ≡ stands_on r p t
  behind-is = ap to_byte by_way.there ∙ by_way.to

  before-is : p ≡ code_with r c t (stands_on r p t)
  unfolding stands_on
  before-is =
      let a : set (sections_of r c) t (stands_on r p t) ≡ set (sections_of r p) t (stands_on r p t) = rw others (set-set (sections_of r p) t into.section (stands_on r p t)) in
      let d : set (sections_of r p) t (stands_on r p t) ≡ sections_of r p = set-get_or (sections_of r p) t 0 in
      sym (ap (code_of r.sections) (a ∙ d) ∙ code-sections r.sections r.trains p facts-of.one-section l)

  -- it has come by one of the ways
  pub came-by : BackBy r c t x most_ways p
  came-by =
      record {
        number = by_way.number;
        below = elim (lt? by_way.number most_ways) [
          | inl k ↦ k
          | inr k ↦
              some-none by_way.there
              (nth_past (routes_from r (λ y. false) (end_behind r t x)) by_way.number (omega (arith, k, from-few r (λ y. false) (end_behind r t x))))
        ];
        there = λ e. omega (arith, e, ap to_byte by_way.there, (from-ends r (λ y. false) (end_behind r t x) by_way.number by_way.way by_way.there).to);
        code = before-is ∙ ap (code_with r c t) (sym behind-is);
      }

-- WHAT LIES BEHIND by a way is a section of the railway, or nothing; and where there is nothing, no way with a larger number leads on
module _ (r : Railway) (t x j : ℕ) where
  abbrev ways : List Way
  ways = routes_from r (λ y. false) (end_behind r t x)

  pub behind-below : record_refusal r ≡ none → (section_behind r t x j ≡ no_section → ⊥) → section_behind r t x j < r.sections
  behind-below accepted there = elim (option? (nth ways j)) [
    | inl e ↦ absurd (there (ap to_byte e))
    | inr e ↦ omega (arith, ap to_byte e.1, (from-small r (accepted-facts r accepted) (λ y. false) (end_behind r t x) j e.0 e.1).to)
  ]

  pub behind-last : section_behind r t x j ≡ no_section → (i : ℕ) → (section_behind r t x i ≡ no_section → ⊥) → i < j
  behind-last gone i there = elim (option? (nth ways j)) [
    | inl e ↦ elim (option? (nth ways i)) [ inl d ↦ absurd (there (ap to_byte d)) | inr d ↦ nth-gone ways j i d.0 e d.1 ]
    | inr e ↦ absurd (omega (arith, gone, ap to_byte e.1, (from-ends r (λ y. false) (end_behind r t x) j e.0 e.1).to))
  ]

-- THE END BEHIND, from its index
module _ (r : Railway) (t x e : ℕ) (l : x < most_sections) (is : e ≡ end_index (end_behind r t x)) where
  pub end-inside : e < section_ends
  end-inside =
      let s = opposite (train_of r t).heading in
      let i : 2 * x + side_index s ≡ end_index (end_behind r t x) = section-index (end_behind r t x) (record { 0 = x }) s (side_index s) refl l refl in
      omega (arith, is, i, side-small s)

  pub end-at-behind : end_at e ≡ end_behind r t x
  end-at-behind = ap end_at is ∙ end-index (end_behind r t x) l
