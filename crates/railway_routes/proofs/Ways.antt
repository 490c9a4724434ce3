-- Lists of ways: the way with a number, over two lists one behind the other; ways written into a table; and the table, laid end after end. What is written
-- for an end stands behind all that was written before, and leaves the words of the ends behind it alone. Assumes nothing.
use mathlib.Core.Path.{◌≡◌, refl, sym, ◌∙◌, ap}
use mathlib.Core.Logic.{◌⊎◌, inl, inr}
use mathlib.Core.Bool.{Bool}
use mathlib.Core.List.{List, [], ◌∷◌, ◌++◌}
use mathlib.Core.Option.{Option, none, some}
use Prim.Native.Nat.{ℕ, zero, suc, ◌+◌, ◌*◌, ◌≤◌, ◌<◌}
use native.Mathlib.Omega.{arith}
use lib.ListN.{length, get_or, set, replicate, length-append, length-set, length-replicate, get_or-replicate}
use lib.Seq.{get_or-set_same, get_or-set_other}
use Rattle.laws.proofs.Bools.{lt?, some-none}
use Rattle.railway.specs.declared.Railway.{Railway}
use Rattle.railway.specs.Bounds.{section_ends}
use Rattle.railway.specs.Ends.{end_at}
use Rattle.railway_routes.specs.Routes.{Way, routes_from, nth, most_ways, no_section, way_word, way_words, Laid, written, Put}

-- (Examples is named so that it is checked before: a wrong definition then shows at a computed value.)

-- THE WAY WITH A NUMBER, in two lists
pub nth-either : (ws vs : List Way) (i : ℕ) (w : Way) → nth (ws ++ vs) i ≡ some w → (nth ws i ≡ some w) ⊎ ((k : ℕ) × (nth vs k ≡ some w))
unfolding nth
nth-either [] vs i w e = inr (i, e)
nth-either (x ∷ ws) vs zero w e = inl e
nth-either (x ∷ ws) vs (suc i) w e = nth-either ws vs i w e

pub nth_past : (ws : List Way) (i : ℕ) → length ws ≤ i → nth ws i ≡ none
unfolding nth
nth_past [] i l = refl
nth_past (x ∷ ws) zero l = absurd (omega arith)
nth_past (x ∷ ws) (suc i) l = nth_past ws i (omega arith)

-- where one is missing, all that are there come before
pub nth-gone : (ws : List Way) (j i : ℕ) (w : Way) → nth ws j ≡ none → nth ws i ≡ some w → i < j
unfolding nth
nth-gone [] j i w e f = some-none f refl
nth-gone (v ∷ ws) zero i w e f = some-none refl e
nth-gone (v ∷ ws) (suc j) zero w e f = omega arith
nth-gone (v ∷ ws) (suc j) (suc i) w e f = let h = nth-gone ws j i w e f in omega arith

-- WRITING one list behind the other
written-more : (ws vs : List Way) (at : ℕ) (old : List ℕ) → written at (ws ++ vs) old ≡ written (at + 3 * length ws) vs (written at ws old)
unfolding written
written-more [] vs at old = let z : at + 3 * 0 ≡ at = omega arith in rw z
written-more (w ∷ ws) vs at old =
    let z : at + 3 + 3 * length ws ≡ at + 3 * suc (length ws) = omega arith in
    written-more ws vs (at + 3) (set (set (set old at w.to) (at + 1) w.care) (at + 2) w.want) ∙ rw z

module _ (at : ℕ) (old : List ℕ) where
  pub put-none : (ws : List Way) → ws ≡ [] → Put ws at old old at
  unfolding written
  put-none ws e = rw e (record { words = refl; behind = omega arith })

  pub put_one : (ws : List Way) (w : Way) → ws ≡ w ∷ [] → Put ws at old (set (set (set old at w.to) (at + 1) w.care) (at + 2) w.want) (at + 3)
  unfolding written
  put_one ws w e = rw e (record { words = refl; behind = omega arith })

  pub put_same : (ws vs : List Way) (new : List ℕ) (n : ℕ) → ws ≡ vs → Put vs at old new n → Put ws at old new n
  put_same ws vs new n e p = rw e p

  pub put_both : (ws vs : List Way) (mid new : List ℕ) (m n : ℕ) → Put ws at old mid m → Put vs m mid new n → Put (ws ++ vs) at old new n
  put_both ws vs mid new m n h g =
      record {
        words = g.words ∙ go m h.behind mid h.words ∙ sym (written-more ws vs at old);
        behind = omega (arith, h.behind, g.behind, length-append ws vs);
      }
    where
      go : (m : ℕ) → m ≡ at + 3 * length ws → (mid : List ℕ) → mid ≡ written at ws old → written m vs mid ≡ written (at + 3 * length ws) vs (written at ws old)
      go m e mid f = rw (e, f)

-- WHAT STANDS THERE
written-length : (ws : List Way) (at : ℕ) (old : List ℕ) → length (written at ws old) ≡ length old
unfolding written
written-length [] at old = refl
written-length (w ∷ ws) at old =
    written-length ws (at + 3) (set (set (set old at w.to) (at + 1) w.care) (at + 2) w.want)
    ∙ length-set (set (set old at w.to) (at + 1) w.care) (at + 2) w.want
    ∙ length-set (set old at w.to) (at + 1) w.care
    ∙ length-set old at w.to

-- elsewhere all is as it was
written-other : (ws : List Way) (at : ℕ) (old : List ℕ) (p : ℕ) → (p < at) ⊎ (at + 3 * length ws ≤ p) → get_or (written at ws old) p 0 ≡ get_or old p 0
unfolding written
written-other [] at old p h = refl
written-other (w ∷ ws) at old p h =
    written-other ws (at + 3) (set (set (set old at w.to) (at + 1) w.care) (at + 2) w.want) p (elim h [ inl l ↦ inl (omega arith) | inr l ↦ inr (omega arith) ])
    ∙ get_or-set_other (set (set old at w.to) (at + 1) w.care) (at + 2) p w.want 0 (λ e. apart (at + 2) (omega arith) (omega arith) e)
    ∙ get_or-set_other (set old at w.to) (at + 1) p w.care 0 (λ e. apart (at + 1) (omega arith) (omega arith) e)
    ∙ get_or-set_other old at p w.to 0 (λ e. apart at (omega arith) (omega arith) e)
  where
    apart : (q : ℕ) → at ≤ q → q < at + 3 * suc (length ws) → p ≡ q → ⊥
    apart q a b e = elim h [ inl l ↦ omega arith | inr l ↦ omega arith ]

-- the three words of one way
three : (w : Way) (at : ℕ) (old : List ℕ) → at + 3 ≤ length old → (i : ℕ) → i < 3
    → get_or (set (set (set old at w.to) (at + 1) w.care) (at + 2) w.want) (at + i) 0 ≡ way_word (some w) i
three w at old l zero h =
    let z : at + 0 ≡ at = omega arith in
    rw z
    (get_or-set_other (set (set old at w.to) (at + 1) w.care) (at + 2) at w.want 0 (λ e. omega arith)
    ∙ get_or-set_other (set old at w.to) (at + 1) at w.care 0 (λ e. omega arith)
    ∙ get_or-set_same old at w.to 0 (omega arith))
three w at old l (suc zero) h =
    get_or-set_other (set (set old at w.to) (at + 1) w.care) (at + 2) (at + 1) w.want 0 (λ e. omega arith)
    ∙ get_or-set_same (set old at w.to) (at + 1) w.care 0 (omega (arith, length-set old at w.to))
three w at old l (suc (suc zero)) h =
    get_or-set_same (set (set old at w.to) (at + 1) w.care) (at + 2) w.want 0
    (omega (arith, length-set old at w.to, length-set (set old at w.to) (at + 1) w.care))
three w at old l (suc (suc (suc i))) h = absurd (omega arith)

written-there : (ws : List Way) (at : ℕ) (old : List ℕ) → at + 3 * length ws ≤ length old → (j i : ℕ) → j < length ws → i < 3
    → get_or (written at ws old) (at + (3 * j + i)) 0 ≡ way_word (nth ws j) i
unfolding written nth
written-there [] at old l j i h g = absurd (omega arith)
written-there (w ∷ ws) at old l zero i h g =
    let z : at + (3 * 0 + i) ≡ at + i = omega arith in
    rw z
    (written-other ws (at + 3) (set (set (set old at w.to) (at + 1) w.care) (at + 2) w.want) (at + i) (inl (omega arith)) ∙ three w at old (omega arith) i g)
written-there (w ∷ ws) at old l (suc j) i h g =
    let z : at + (3 * suc j + i) ≡ at + 3 + (3 * j + i) = omega arith in
    let three = set (set (set old at w.to) (at + 1) w.care) (at + 2) w.want in
    let n : length three ≡ length old =
    length-set (set (set old at w.to) (at + 1) w.care) (at + 2) w.want
    ∙ length-set (set old at w.to) (at + 1) w.care
    ∙ length-set old at w.to in
    rw z (written-there ws (at + 3) three (omega arith) j i (omega arith) g)

-- THE TABLE, up to end e: the ways of the ends before it stand there, and behind them no way does
pub record LaidTo (r : Railway) (shut : ℕ → Bool) (e : ℕ) (ways : List ℕ) : Type 0 where
  pub sized : length ways ≡ way_words
  pub words : (d j i : ℕ) → d < e → j < most_ways → i < 3 → get_or ways (3 * (most_ways * d + j) + i) 0 ≡ way_word (nth (routes_from r shut (end_at d)) j) i
  pub blank : (p : ℕ) → 3 * (most_ways * e) ≤ p → p < way_words → get_or ways p 0 ≡ no_section

module _ (r : Railway) (shut : ℕ → Bool) where
  pub laid_none : (ways : List ℕ) → ways ≡ replicate way_words no_section → LaidTo r shut 0 ways
  laid_none ways e =
      record {
        sized = ap length e ∙ length-replicate {A = ℕ} way_words no_section;
        words = λ d j i l h g. absurd (omega arith);
        blank = λ p l h. ap (λ (list : List ℕ). get_or list p 0) e ∙ get_or-replicate way_words p no_section 0 h;
      }

  -- one end more
  module _ (e : ℕ) (old new : List ℕ) (n : ℕ) (l : e < section_ends) (few : length (routes_from r shut (end_at e)) ≤ most_ways) (h : LaidTo r shut e old)
      (p : Put (routes_from r shut (end_at e)) (48 * e) old new n) where
    abbrev ws : List Way
    ws = routes_from r shut (end_at e)

    abbrev at : ℕ
    at = 48 * e

    reads : (q : ℕ) → get_or new q 0 ≡ get_or (written at ws old) q 0
    reads q = ap (λ (list : List ℕ). get_or list q 0) p.words

    -- its own words: a way's, or none's
    own : (j i : ℕ) → j < most_ways → i < 3 → get_or new (3 * (most_ways * e + j) + i) 0 ≡ way_word (nth ws j) i
    own j i c f = elim (lt? j (length ws)) [
      | inl q ↦
          let z : 3 * (most_ways * e + j) + i ≡ at + (3 * j + i) = omega arith in
          rw z (reads (at + (3 * j + i)) ∙ written-there ws at old (omega (arith, h.sized, few)) j i q f)
      | inr q ↦
          reads (3 * (most_ways * e + j) + i)
          ∙ written-other ws at old (3 * (most_ways * e + j) + i) (inr (omega (arith, q)))
          ∙ h.blank (3 * (most_ways * e + j) + i) (omega arith) (omega arith)
          ∙ sym (ap (λ (o : Option Way). way_word o i) (nth_past ws j q))
    ]

    there : (d j i : ℕ) → d < e + 1 → j < most_ways → i < 3 → get_or new (3 * (most_ways * d + j) + i) 0 ≡ way_word (nth (routes_from r shut (end_at d)) j) i
    there d j i b c f = elim (lt? d e) [
      | inl m ↦ reads (3 * (most_ways * d + j) + i) ∙ written-other ws at old (3 * (most_ways * d + j) + i) (inl (omega arith)) ∙ h.words d j i m c f
      | inr m ↦ let same : d ≡ e = omega arith in rw same (own j i c f)
    ]

    pub laid_next : LaidTo r shut (e + 1) new
    laid_next =
        record {
          sized = ap length p.words ∙ written-length ws at old ∙ h.sized;
          words = there;
          blank = λ q a b. reads q ∙ written-other ws at old q (inr (omega (arith, few))) ∙ h.blank q (omega arith) b;
        }

  pub laid-all : (e : ℕ) (ways : List ℕ) → section_ends ≤ e → LaidTo r shut e ways → Laid r shut ways
  laid-all e ways l h = record { words = λ d j i b c f. h.words d j i (omega arith) c f }
