-- Going through the ways one by one until one is suited, as `section_by` does and a search for a setting: what comes first of those that are suited is the
-- first that is. Assumes nothing.
use mathlib.Core.Path.{◌≡◌, refl, sym, ◌∙◌, ap}
use mathlib.Core.Logic.{inl, inr}
use mathlib.Core.Bool.{Bool, true, false}
use mathlib.Core.List.{List, [], ◌∷◌}
use mathlib.Core.Option.{Option, none, some}
use Prim.Native.Nat.{ℕ, zero, suc, ◌+◌, ◌*◌, ◌%◌, ◌≤◌, ◌<◌}
use native.Mathlib.Omega.{arith}
use native.Mathlib.Nat.{mod-eq_of_lt}
use lib.Bits.{bit_and}
use lib.ListN.{length, get_or}
use borrow.Author.Tests.{eq-eqb, ne_eqb}
use Rattle.laws.specs.Bits.{bit}
use Rattle.laws.specs.Lists.{any}
use Rattle.laws.proofs.Bools.{bool?, option?, clash, either, or_left, or_right, some-none, some_one}
use Rattle.railway.specs.declared.End.{End}
use Rattle.railway.specs.declared.Railway.{Railway}
use Rattle.railway.specs.Bounds.{section_ends}
use Rattle.railway.specs.Ends.{end_at}
use Rattle.railway.specs.Record.{is_closed}
use Rattle.railway.specs.Passing.{entered}
use Rattle.railway_routes.specs.Routes.{Way, suits, routes_from, nth, reached_by, one_of, most_ways, no_section, section_byte, to_byte, way_word, Laid}
use Rattle.railway_routes.proofs.Ways.{nth_past}
use Rattle.railway_routes.proofs.Routes.{from-enters, from-few, from-ends}

-- A WORD OF THE TABLE
module _ (r : Railway) (shut : ℕ → Bool) (ways : List ℕ) (e j : ℕ) (h : Laid r shut ways) where
  pub word-there : (i : ℕ) → e < section_ends → j < most_ways → i < 3 → get_or ways (48 * e + 3 * j + i) 0 ≡ way_word (nth (routes_from r shut (end_at e)) j) i
  word-there i l m k = let z : 48 * e + 3 * j + i ≡ 3 * (most_ways * e + j) + i = omega arith in rw z (h.words e j i l m k)

pub word_none : (r : Railway) (shut : ℕ → Bool) (e j i : ℕ) → most_ways ≤ j → no_section ≡ way_word (nth (routes_from r shut (end_at e)) j) i
word_none r shut e j i m =
    ap (λ (o : Option Way). way_word o i) (sym (nth_past (routes_from r shut (end_at e)) j (omega (arith, from-few r shut (end_at e)))))

-- the section's fits a byte
pub to-fits : (r : Railway) (shut : ℕ → Bool) (e : End) (j : ℕ) → way_word (nth (routes_from r shut e) j) 0 % 256 ≡ to_byte (nth (routes_from r shut e) j)
to-fits r shut e j = go (nth (routes_from r shut e) j) refl
  where
    go : (o : Option Way) → nth (routes_from r shut e) j ≡ o → way_word o 0 % 256 ≡ to_byte o
    go none q = refl
    go (some w) q = mod-eq_of_lt (omega (arith, (from-ends r shut e j w q).to))

-- THE WAYS FROM A NUMBER ON
unfoldable rest : ℕ → List Way → List Way
rest zero ws = ws
rest (suc j) [] = []
rest (suc j) (w ∷ ws) = rest j ws

rest-none : (ws : List Way) (j : ℕ) → nth ws j ≡ none → rest j ws ≡ []
unfolding nth rest
rest-none [] zero e = refl
rest-none [] (suc j) e = refl
rest-none (w ∷ ws) zero e = some-none refl e
rest-none (w ∷ ws) (suc j) e = rest-none ws j e

rest_some : (ws : List Way) (j : ℕ) (v : Way) → nth ws j ≡ some v → rest j ws ≡ v ∷ rest (j + 1) ws
unfolding nth rest
rest_some [] j v e = some-none e refl
rest_some (w ∷ ws) zero v e = ap (λ (x : Way). x ∷ ws) (some_one e)
rest_some (w ∷ ws) (suc j) v e = let z : suc j + 1 ≡ suc (j + 1) = omega arith in rw z (rest_some ws j v e)

-- none before j is suited
pub record Passed (b : ℕ) (ws : List Way) (j : ℕ) : Type 0 where
  is : reached_by b ws ≡ reached_by b (rest j ws)

module _ (b : ℕ) (ws : List Way) where
  pub walk_start : Passed b ws 0
  unfolding rest
  walk_start = record { is = refl }

  module _ (j : ℕ) (h : Passed b ws j) where
    pub walk_none : nth ws j ≡ none → reached_by b ws ≡ []
    unfolding reached_by
    walk_none e = h.is ∙ ap (reached_by b) (rest-none ws j e)

    pub walk_end : length ws ≤ j → reached_by b ws ≡ []
    walk_end l = walk_none (nth_past ws j l)

    pub walk-hit : (w : Way) → nth ws j ≡ some w → suits b w.care w.want ≡ true → (o : Option ℕ) → reached_by b ws ≡ one_of o → o ≡ some w.to
    unfolding reached_by
    walk-hit w e s o q = head o (reached_by b (rest (j + 1) ws)) (sym q ∙ h.is ∙ ap (reached_by b) (rest_some ws j w e) ∙ rw s)
      where
        head : (o : Option ℕ) (xs : List ℕ) → one_of o ≡ w.to ∷ xs → o ≡ some w.to
        head none xs e = absurd (omega (arith, ap length e))
        head (some y) xs e = let z : y ≡ w.to = cc in ap some z

    pub walk-on : (w : Way) → nth ws j ≡ some w → suits b w.care w.want ≡ false → Passed b ws (j + 1)
    unfolding reached_by
    walk-on w e s = record { is = h.is ∙ ap (reached_by b) (rest_some ws j w e) ∙ rw s }

none-byte : (o : Option ℕ) → one_of o ≡ [] → no_section ≡ section_byte o
none-byte none e = refl
none-byte (some x) e = absurd (omega (arith, ap length e))

-- THE WALK OF `section_by`: the place of a number, and none before it is suited
pub record Walked (ways : List ℕ) (e points at : ℕ) : Type 0 where
  number : ℕ
  few : number ≤ most_ways
  place : at ≡ 48 * e + 3 * number
  passed : (r : Railway) → Laid r (is_closed r) ways → Passed points (routes_from r (is_closed r) (end_at e)) number

pub walked_start : (ways : List ℕ) (e points : ℕ) → Walked ways e points (48 * e)
walked_start ways e points = record { number = 0; few = omega arith; place = omega arith; passed = λ r h. walk_start points (routes_from r (is_closed r) (end_at e)) }

module _ (ways : List ℕ) (e points at : ℕ) (h : Walked ways e points at) where
  pub walked-inside : at ≤ 48 * e + 48
  walked-inside = omega (arith, h.few, h.place)

  pub walked-room : at < 48 * e + 48 → at + 3 ≤ 48 * e + 48
  walked-room l = omega (arith, h.few, h.place)

  module _ (r : Railway) (laid : Laid r (is_closed r) ways) (l : e < section_ends) where
    abbrev ws : List Way
    ws = routes_from r (is_closed r) (end_at e)

    reads : (i : ℕ) → at < 48 * e + 48 → i < 3 → get_or ways (at + i) 0 ≡ way_word (nth ws h.number) i
    reads i m k = let z : at + i ≡ 48 * e + 3 * h.number + i = omega (arith, h.place) in rw z (word-there r (is_closed r) ways e h.number laid i l (omega (arith, h.place)) k)

    reads-to : at < 48 * e + 48 → get_or ways at 0 % 256 ≡ to_byte (nth ws h.number)
    reads-to m =
        let z : at + 0 ≡ at = omega arith in
        let d : get_or ways at 0 ≡ way_word (nth ws h.number) 0 = rw z at (reads 0 m (omega arith)) in
        ap (λ (x : ℕ). x % 256) d ∙ to-fits r (is_closed r) (end_at e) h.number

    -- no way is left
    pub walked_none : at < 48 * e + 48 → get_or ways at 0 % 256 ≡ no_section → no_section ≡ section_byte (entered r (bit points) (end_at e))
    walked_none m q = elim (option? (nth ws h.number)) [
      | inl n ↦ none-byte (entered r (bit points) (end_at e)) (sym (from-enters r points (end_at e)) ∙ walk_none points ws h.number (h.passed r laid) n)
      | inr y ↦ far y.0 y.1
    ]
      where
        far : (w : Way) → nth ws h.number ≡ some w → no_section ≡ section_byte (entered r (bit points) (end_at e))
        far w y =
            let z : get_or ways at 0 % 256 ≡ w.to = reads-to m ∙ ap to_byte y in
            absurd (omega (arith, z, q, (from-ends r (is_closed r) (end_at e) h.number w y).to))

    -- a way is there
    there : at < 48 * e + 48 → (get_or ways at 0 % 256 ≡ no_section → ⊥) → (w : Way) × (nth ws h.number ≡ some w)
    there m q = elim (option? (nth ws h.number)) [ inl n ↦ absurd (q (reads-to m ∙ ap to_byte n)) | inr y ↦ y ]

    suited : at < 48 * e + 48 → (w : Way) → nth ws h.number ≡ some w → (get_or ways (at + 1) 0 ≡ w.care) × (get_or ways (at + 2) 0 ≡ w.want)
    suited m w y = (reads 1 m (omega arith) ∙ ap (λ (o : Option Way). way_word o 1) y, reads 2 m (omega arith) ∙ ap (λ (o : Option Way). way_word o 2) y)

    -- it is suited
    pub walked-hit : at < 48 * e + 48 → (get_or ways at 0 % 256 ≡ no_section → ⊥) → bit_and points (get_or ways (at + 1) 0) ≡ get_or ways (at + 2) 0
        → get_or ways at 0 % 256 ≡ section_byte (entered r (bit points) (end_at e))
    walked-hit m q s =
        let y = there m q in
        let k = suited m y.0 y.1 in
        let fit : suits points y.0.care y.0.want ≡ true = eq-eqb (bit_and points y.0.care) y.0.want (ap (bit_and points) (sym k.0) ∙ s ∙ k.1) in
        let z : entered r (bit points) (end_at e) ≡ some y.0.to =
        walk-hit points ws h.number (h.passed r laid) y.0 y.1 fit (entered r (bit points) (end_at e)) (from-enters r points (end_at e)) in
        reads-to m ∙ ap to_byte y.1 ∙ sym (ap section_byte z)

    -- it is not
    walked_on : at < 48 * e + 48 → (get_or ways at 0 % 256 ≡ no_section → ⊥) → (bit_and points (get_or ways (at + 1) 0) ≡ get_or ways (at + 2) 0 → ⊥) → Passed points ws (h.number + 1)
    walked_on m q s =
        let y = there m q in
        let k = suited m y.0 y.1 in
        let misfit : suits points y.0.care y.0.want ≡ false =
        ne_eqb (bit_and points y.0.care) y.0.want (λ z. s (ap (bit_and points) k.0 ∙ z ∙ sym k.1)) in
        walk-on points ws h.number (h.passed r laid) y.0 y.1 misfit

    -- all were tried
    pub walked_end : 48 * e + 48 ≤ at → no_section ≡ section_byte (entered r (bit points) (end_at e))
    walked_end m =
        none-byte (entered r (bit points) (end_at e))
        (sym (from-enters r points (end_at e)) ∙ walk_end points ws h.number (h.passed r laid) (omega (arith, h.place, from-few r (is_closed r) (end_at e))))

  pub walked_next : e < section_ends → at < 48 * e + 48 → (get_or ways at 0 % 256 ≡ no_section → ⊥)
      → (bit_and points (get_or ways (at + 1) 0) ≡ get_or ways (at + 2) 0 → ⊥) → Walked ways e points (at + 3)
  walked_next l m q s = record {
    number = h.number + 1;
    few = omega (arith, h.place);
    place = omega (arith, h.place);
    passed = λ r laid. walked_on r laid l m q s;
  }

-- A GOOD WAY, one of the list's: some section at the end of a suited way is good exactly where one way is suited and ends at a good section
pub record Goes (b : ℕ) (g : ℕ → Bool) (ws : List Way) : Type 0 where
  pub number : ℕ
  pub way : Way
  pub is : nth ws number ≡ some way
  pub suited : suits b way.care way.want ≡ true
  pub ends : g way.to ≡ true

pub goes_of : (b : ℕ) (g : ℕ → Bool) (ws : List Way) → any g (reached_by b ws) ≡ true → Goes b g ws
unfolding reached_by any nth
goes_of b g [] e = clash e refl
goes_of b g (w ∷ ws) e = elim (bool? (suits b w.care w.want)) [
  | inl s ↦ elim (either (g w.to) (any g (reached_by b ws)) (rw s at e)) [
    | inl y ↦ record { number = 0; way = w; is = refl; suited = s; ends = y }
    | inr y ↦ later (goes_of b g ws y)
  ]
  | inr s ↦ later (goes_of b g ws (rw s at e))
]
  where
    later : Goes b g ws → Goes b g (w ∷ ws)
    later h = record { number = suc h.number; way = h.way; is = h.is; suited = h.suited; ends = h.ends }

pub of-goes : (b : ℕ) (g : ℕ → Bool) (ws : List Way) (i : ℕ) (w : Way) → nth ws i ≡ some w
    → suits b w.care w.want ≡ true → g w.to ≡ true → any g (reached_by b ws) ≡ true
unfolding reached_by any nth
of-goes b g [] i w e s h = some-none e refl
of-goes b g (v ∷ ws) zero w e s h = let z : v ≡ w = some_one e in rw z (rw s (or_left (g w.to) (any g (reached_by b ws)) h))
of-goes b g (v ∷ ws) (suc i) w e s h =
    let y = of-goes b g ws i w e s h in
    elim (bool? (suits b v.care v.want)) [
      | inl z ↦ rw z (or_right (g v.to) (any g (reached_by b ws)) y)
      | inr z ↦ rw z y
    ]
