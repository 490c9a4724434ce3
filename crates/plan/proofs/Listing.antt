-- The text that is written of two tables, whatever else they hold: its lines fit the case where figures are within their bounds; and if what the tables list passes the test of a plan,
-- so do the lines, for these list the same, placement by placement. Assumes nothing.
use mathlib.Core.Path.{◌≡◌, refl, sym, ◌∙◌, ap, subst}
use mathlib.Core.Logic.{◌⊎◌, inl, inr}
use mathlib.Core.Bool.{Bool, true, false, cond, ◌&&◌}
use mathlib.Core.List.{List, [], ◌∷◌, ◌++◌, map, map-append, append-nil}
use mathlib.Core.Option.{Option, none, some}
use Prim.Native.Nat.{ℕ, zero, suc, ◌≤◌, ◌<◌}
use native.Mathlib.Omega.{arith}
use lib.ListN.{length, get_or}
use lib.Dec.{eqb, ltb, leb}
use borrow.Author.Tests.{lt-ltb, eqb-true, eq-eqb, ne_eqb, le-leb, le-ltb}
use Rattle.laws.specs.Below.{which_below, or_else}
use Rattle.laws.specs.Bits.{bit}
use Rattle.laws.specs.Lists.{all, rises}
use Rattle.laws.proofs.Bools.{lt?, eq?, clash, and_both}
use Rattle.laws.proofs.Below.{list_length, list_get}
use Rattle.laws.proofs.Which.{which-map, all-which}
use Rattle.railway.specs.declared.Railway.{Railway}
use Rattle.railway.specs.Rows.{record_refusal}
use Rattle.game.specs.Claim.{Keeps}
use Rattle.game.specs.Moves.{game_of}
use Rattle.game.specs.Placement.{sections_of, placements, start_code}
use Rattle.game.proofs.Accepted.{Facts, facts}
use Rattle.game.proofs.Placement.{AllBelow, sections-length, sections-below, code-sections}
use Rattle.game.proofs.Moves.{start-below}
use Rattle.game_tables.specs.Entries.{opens_in, setting_from}
use Rattle.game_tables.specs.Tables.{no_figure, figure_entry, figure_in}
use Rattle.game_tables.proofs.Certify.{entry-is, figure-small}
use Rattle.plan.specs.Lines.{PlacementLine, placement_line, fits, line_code}
use Rattle.plan.specs.Text.{is_some, has_figure, line_for, plan_lines, plan_texts}
use Rattle.plan.specs.Test.{Listing, listed_setting, Test, line_on, figure_on, opens_on, plus_on, by_lines, by_tables}
use Rattle.plan.specs.Checked.{Passing}
use Rattle.plan.proofs.Test.{SameListing, test-same}
use Rattle.plan.proofs.Forms.{code_after, rises-snoc, code-after-snoc}

-- FIGURES AS ENTRIES
entry-below : (x n : ℕ) → x ≤ no_figure → figure_entry x ≡ some n → x < no_figure
entry-below x n l e = omega (arith, entry-is x n e, figure-small x n l e)

some_is : (o : Option ℕ) → is_some o ≡ true → (n : ℕ) × (o ≡ some n)
some_is none e = clash e refl
some_is (some n) e = (n, refl)

-- THE CODES of the placements that pass a test rise
record Rises (k : ℕ) (xs : List ℕ) : Type 0 where
  rising : rises 0 xs ≡ true
  next : code_after 0 xs ≤ k

which-rises : (f : ℕ → Bool) (k : ℕ) → Rises k (which_below f k)
unfolding which_below rises code_after
which-rises f zero = record { rising = refl; next = omega arith }
which-rises f (suc k) = go (f k) (which-rises f k)
  where
    go : (b : Bool) → Rises k (which_below f k) → Rises (suc k) (which_below f k ++ cond b (k ∷ []) [])
    go true h =
        let xs : List ℕ = which_below f k in
        record {
          rising = rises-snoc 0 xs k ∙ and_both (rises 0 xs) (leb (code_after 0 xs) k) h.rising (le-leb (code_after 0 xs) k h.next);
          next = rw (code-after-snoc 0 xs k) (omega arith);
        }
    go false h = rw (append-nil (which_below f k)) (record { rising = h.rising; next = omega (arith, h.next) })

map-itself : (xs : List ℕ) → map (λ x. x) xs ≡ xs
map-itself [] = refl
map-itself (x ∷ xs) = ap (λ (l : List ℕ). x ∷ l) (map-itself xs)

map-twice : {A B : Type 0} (f : A → B) (g : ℕ → A) (xs : List ℕ) → map f (map g xs) ≡ map (λ x. f (g x)) xs
map-twice f g [] = refl
map-twice f g (x ∷ xs) = ap (λ (l : List _). f (g x) ∷ l) (map-twice f g xs)

all-within : (s : ℕ) (xs : List ℕ) → AllBelow s xs → all (λ x. ltb x s) xs ≡ true
unfolding all
all-within s [] h = refl
all-within s (x ∷ xs) h =
    and_both (ltb x s) (all (λ x. ltb x s) xs) (lt-ltb x s (h 0 (omega arith))) (all-within s xs (λ i l. h (suc i) (omega arith)))

module _ (r : Railway) (accepted : record_refusal r ≡ none) (figs sets : List ℕ) where
  abbrev ok : Facts r
  ok = facts r accepted

  -- the code of a placement's line is that placement
  line-code : (p : ℕ) → p < placements r → line_code r (line_for r figs sets p) ≡ p
  unfolding line_for
  line-code p l = code-sections r.sections r.trains p ok.one-section l

  -- that line fits the case where there is a figure
  pub line-fits : (p : ℕ) → get_or figs p no_figure ≤ no_figure → has_figure figs p ≡ true → fits r (placement_line (line_for r figs sets p)) ≡ true
  unfolding fits line_for
  line-fits p l e =
      let f = some_is (figure_in figs p) e in
      let xs : List ℕ = sections_of r p in
      let a : eqb (length xs) r.trains ≡ true = eq-eqb _ _ (sections-length r.sections r.trains p) in
      let b : all (λ x. ltb x r.sections) xs ≡ true = all-within r.sections xs (sections-below r.sections r.trains p ok.one-section) in
      let c : ltb (get_or figs p no_figure) no_figure ≡ true = lt-ltb _ _ (entry-below (get_or figs p no_figure) f.0 l f.1) in
      let d : eqb (length (line_for r figs sets p).opens) r.trains ≡ true = eq-eqb _ _ (list_length _ r.trains) in
      let g : eqb (length (line_for r figs sets p).plus) r.points ≡ true = eq-eqb _ _ (list_length _ r.points) in
      rw (a, b, c, d, g)

  abbrev listed_codes : ℕ → List ℕ
  listed_codes k = which_below (has_figure figs) k

  abbrev lines_to : ℕ → List PlacementLine
  lines_to k = map (line_for r figs sets) (listed_codes k)

  abbrev plan_placements : List PlacementLine
  plan_placements = lines_to (placements r)

  codes-are : map (line_code r) plan_placements ≡ listed_codes (placements r)
  codes-are =
      map-twice (line_code r) (line_for r figs sets) (listed_codes (placements r))
      ∙ which-map (has_figure figs) (has_figure figs) (λ p. line_code r (line_for r figs sets p)) (λ p. p) (placements r) (λ p l. refl) line-code
      ∙ map-itself (listed_codes (placements r))

  -- ALL LINES FIT, if no figure is over its bounds and the start has one
  pub lines_fit : ((p : ℕ) → p < placements r → get_or figs p no_figure ≤ no_figure) → (n : ℕ) → figure_in figs (start_code r) ≡ some n → all (fits r) (plan_lines r figs sets) ≡ true
  unfolding plan_lines all fits
  lines_fit bounded n start =
      let s : ℕ = get_or figs (start_code r) no_figure in
      let below : s < no_figure = entry-below s n (bounded (start_code r) (start-below r ok)) start in
      and_both (ltb s no_figure) (all (fits r) (map placement_line plan_placements)) (lt-ltb s no_figure below)
      (ap (all (fits r)) (map-twice placement_line (line_for r figs sets) (listed_codes (placements r)))
      ∙ all-which (fits r) (λ p. placement_line (line_for r figs sets p)) (has_figure figs) (placements r) (λ p l. line-fits p (bounded p l)))

  -- THE LINE FOR A PLACEMENT is there exactly if it has a figure
  line-append : (ds es : List PlacementLine) (p : ℕ) → line_on r (ds ++ es) p ≡ or_else (line_on r ds p) (line_on r es p)
  unfolding line_on
  line-append [] es p = refl
  line-append (d ∷ ds) es p = go (eqb (line_code r d) p) (line-append ds es p)
    where
      go : (b : Bool) → line_on r (ds ++ es) p ≡ or_else (line_on r ds p) (line_on r es p) → cond b (some d) (line_on r (ds ++ es) p) ≡ or_else (cond b (some d) (line_on r ds p)) (line_on r es p)
      go true e = refl
      go false e = e

  abbrev line_if : Bool → ℕ → Option PlacementLine
  line_if b p = cond b (some (line_for r figs sets p)) none

  last-line : (k p : ℕ) → k < placements r → (b : Bool) → line_on r (map (line_for r figs sets) (cond b (k ∷ []) [])) p ≡ line_if (eqb k p && b) p
  unfolding line_on
  last-line k p l true = rw (line-code k l) (go (eqb k p) refl)
    where
      go : (b : Bool) → eqb k p ≡ b → cond b (some (line_for r figs sets k)) none ≡ line_if (b && true) p
      go true e = let z : k ≡ p = eqb-true k p e in rw z
      go false e = refl
  last-line k p l false = go (eqb k p)
    where
      go : (b : Bool) → none ≡ line_if (b && false) p
      go true = refl
      go false = refl

  lines-to : (k : ℕ) → k ≤ placements r → (p : ℕ) → line_on r (lines_to k) p ≡ line_if (ltb p k && has_figure figs p) p
  unfolding which_below line_on
  lines-to zero h p = rw (le-ltb p 0 (omega arith))
  lines-to (suc k) h p =
      ap (λ (ds : List PlacementLine). line_on r ds p) (map-append (line_for r figs sets) (listed_codes k) (cond (has_figure figs k) (k ∷ []) []))
      ∙ line-append (lines_to k) (map (line_for r figs sets) (cond (has_figure figs k) (k ∷ []) [])) p
      ∙ (let a : line_on r (lines_to k) p ≡ line_if (ltb p k && has_figure figs p) p = lines-to k (omega arith) p in
      let b : line_on r (map (line_for r figs sets) (cond (has_figure figs k) (k ∷ []) [])) p ≡ line_if (eqb k p && has_figure figs k) p = last-line k p (omega arith) (has_figure figs k) in
      rw (a, b) (either_way (lt? p k)))
    where
      either_way : (p < k) ⊎ (k ≤ p) → or_else (line_if (ltb p k && has_figure figs p) p) (line_if (eqb k p && has_figure figs k) p) ≡ line_if (ltb p (suc k) && has_figure figs p) p
      either_way (inl l) = rw (lt-ltb p k l, ne_eqb k p (λ e. omega arith), lt-ltb p (suc k) (omega arith)) (go (has_figure figs p))
        where
          go : (b : Bool) → or_else (line_if b p) none ≡ line_if b p
          go true = refl
          go false = refl
      either_way (inr l) = elim (eq? k p) [
        | inl e ↦ subst (λ (q : ℕ). or_else (line_if (ltb q k && has_figure figs q) q) (line_if (eqb k q && has_figure figs k) q) ≡ line_if (ltb q (suc k) && has_figure figs q) q) e
            (rw (le-ltb k k (omega arith), eq-eqb k k refl, lt-ltb k (suc k) (omega arith)))
        | inr e ↦ rw (le-ltb p k l, ne_eqb k p e, le-ltb p (suc k) (omega (arith, apart e)))
      ]
        where
          apart : (k ≡ p → ⊥) → suc k ≤ p
          apart e = elim (lt? k p) [ inl m ↦ m | inr m ↦ absurd (e (omega arith)) ]

  line-on : (p : ℕ) → p < placements r → line_on r plan_placements p ≡ line_if (has_figure figs p) p
  line-on p l = lines-to (placements r) (omega arith) p ∙ rw (lt-ltb p (placements r) l)

  -- WHAT IS LISTED, with nothing said of placements that are not
  abbrev listed_if : Option ℕ → (ℕ → Bool) → ℕ → Bool
  listed_if none f = λ t. false
  listed_if (some n) f = f

  abbrev listing : Listing
  listing =
      record {
        figure = figure_in figs;
        opens = λ p. listed_if (figure_in figs p) (opens_in (get_or sets p 0));
        plus = λ p. listed_if (figure_in figs p) (bit (get_or sets p 0));
      }

  listing-passes : (m : ℕ) → Test r m (by_tables figs sets) → Test r m listing
  unfolding listed_setting
  listing-passes m h =
      record {
        start = h.start;
        apart = h.apart;
        signalled = λ p n t l e k o. h.signalled p n t l e k (ap (λ (f : Option ℕ). listed_if f (opens_in (get_or sets p 0)) t) (sym e) ∙ o);
        kept = λ p n l e away.
            let v : ℕ = get_or sets p 0 in
            subst (λ (f : Option ℕ). Keeps (game_of r) (figure_in figs) p (setting_from r p (listed_if f (bit v)) (listed_if f (opens_in v))) n) (sym e)
            (h.kept p n l e away);
      }

  -- THE LINES LIST that
  same-listing : SameListing r listing (by_lines r plan_placements)
  unfolding line_for
  same-listing =
      record {
        figures = λ p l. figure p l (figure_in figs p) refl ∙ sym (ap figure_on (line-on p l));
        opens = λ p t l k. opens p t k (figure_in figs p) ∙ sym (ap (λ (o : Option PlacementLine). opens_on o t) (line-on p l));
        plus = λ p n l k. plus p n k (figure_in figs p) ∙ sym (ap (λ (o : Option PlacementLine). plus_on o n) (line-on p l));
      }
    where
      figure : (p : ℕ) → p < placements r → (o : Option ℕ) → figure_in figs p ≡ o → o ≡ figure_on (line_if (is_some o) p)
      figure p l none e = refl
      figure p l (some n) e = ap {B = Option ℕ} some (sym (entry-is (get_or figs p no_figure) n e))

      opens : (p t : ℕ) → t < r.trains → (o : Option ℕ) → listed_if o (opens_in (get_or sets p 0)) t ≡ opens_on (line_if (is_some o) p) t
      opens p t k none = refl
      opens p t k (some n) = sym (list_get (opens_in (get_or sets p 0)) r.trains t false k)

      plus : (p n : ℕ) → n < r.points → (o : Option ℕ) → listed_if o (bit (get_or sets p 0)) n ≡ plus_on (line_if (is_some o) p) n
      plus p n k none = refl
      plus p n k (some m) = sym (list_get (bit (get_or sets p 0)) r.points n false k)

  -- THE TEXT of tables that pass the test is that of a plan which passes
  pub text-passes : (n : ℕ) → Test r n (by_tables figs sets) → all (fits r) (plan_lines r figs sets) ≡ true → Passing r (plan_texts r figs sets)
  unfolding plan_texts plan_lines
  text-passes n t fit =
      record {
        start = get_or figs (start_code r) no_figure;
        lines = plan_placements;
        form = record { spelled = refl; fit = fit; rising = rw codes-are (which-rises (has_figure figs) (placements r)).rising };
        holds = test-same r ok listing (by_lines r plan_placements) same-listing (get_or figs (start_code r) no_figure)
            (subst (λ (m : ℕ). Test r m listing) (sym (entry-is (get_or figs (start_code r) no_figure) n t.start)) (listing-passes n t));
      }
