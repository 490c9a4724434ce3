-- Texts in the form of a plan: what one more line does to the form, and that no texts have it for two plans. A form with a last line is a form
-- without it, to which a line with a higher code is added; lines that fit are told apart by their spelling. Assumes nothing.
use mathlib.Core.Path.{◌≡◌, refl, sym, ◌∙◌, ap, subst}
use mathlib.Core.Bool.{Bool, true, false, ◌&&◌}
use mathlib.Core.List.{List, [], ◌∷◌, ◌++◌, map, map-append, append_assoc, append-nil}
use Prim.Native.Nat.{ℕ, suc, ◌≤◌, ◌<◌}
use native.Mathlib.Omega.{arith}
use lib.Dec.{leb}
use borrow.Author.Tests.{leb-true, le-leb}
use Rattle.laws.specs.Lists.{all, rises}
use Rattle.laws.proofs.Bools.{and-true, and_both}
use Rattle.laws.proofs.Lists.{all_append}
use Rattle.laws.proofs.Snoc.{Snoc, empty, snoc, snoc?, snoc-not-empty, snoc-same, all-parts}
use Rattle.railway.specs.declared.Railway.{Railway}
use Rattle.game_tables.specs.Tables.{no_figure}
use Rattle.plan.specs.Lines.{PlacementLine, PlanLine, start_line, placement_line, spell, fits, line_code, plan_of}
use Rattle.plan.specs.Checked.{Form, InForm}
use Rattle.plan.proofs.Reading.{spells_one}

-- the lowest code that may come behind rising ones
unfoldable pub code_after : ℕ → List ℕ → ℕ
code_after c [] = c
code_after c (x ∷ xs) = code_after (suc x) xs

pub rises-snoc : (c : ℕ) (xs : List ℕ) (x : ℕ) → rises c (xs ++ (x ∷ [])) ≡ (rises c xs && leb (code_after c xs) x)
unfolding rises code_after
rises-snoc c [] x = and-nothing (leb c x)
  where
    and-nothing : (b : Bool) → (b && true) ≡ b
    and-nothing true = refl
    and-nothing false = refl
rises-snoc c (y ∷ xs) x = ap (λ (b : Bool). leb c y && b) (rises-snoc (suc y) xs x) ∙ and_assoc (leb c y) (rises (suc y) xs) (leb (code_after (suc y) xs) x)
  where
    and_assoc : (a b d : Bool) → (a && (b && d)) ≡ ((a && b) && d)
    and_assoc true b d = refl
    and_assoc false b d = refl

pub code-after : (c : ℕ) (xs : List ℕ) → rises c xs ≡ true → c ≤ code_after c xs
unfolding rises code_after
code-after c [] e = omega arith
code-after c (x ∷ xs) e = let h = and-true (leb c x) (rises (suc x) xs) e in omega (arith, leb-true c x h.0, code-after (suc x) xs h.1)

pub code-after-snoc : (c : ℕ) (xs : List ℕ) (x : ℕ) → code_after c (xs ++ (x ∷ [])) ≡ suc x
unfolding code_after
code-after-snoc c [] x = refl
code-after-snoc c (y ∷ xs) x = code-after-snoc (suc y) xs x

module _ (r : Railway) where
  abbrev pub codes : List PlacementLine → List ℕ
  codes ds = map (line_code r) ds

  lines_snoc : (m : ℕ) (ds : List PlacementLine) (d : PlacementLine) → plan_of m (ds ++ (d ∷ [])) ≡ plan_of m ds ++ (placement_line d ∷ [])
  lines_snoc m ds d = ap (λ (ls : List PlanLine). start_line m ∷ ls) (map-append placement_line ds (d ∷ []))

  texts-snoc : (m : ℕ) (ds : List PlacementLine) (d : PlacementLine) → map spell (plan_of m (ds ++ (d ∷ []))) ≡ map spell (plan_of m ds) ++ (spell (placement_line d) ∷ [])
  texts-snoc m ds d = ap (map spell) (lines_snoc m ds d) ∙ map-append spell (plan_of m ds) (placement_line d ∷ [])

  -- THE FIRST LINE alone is in form
  pub form-start : (m : ℕ) → fits r (start_line m) ≡ true → Form r (spell (start_line m) ∷ []) m []
  unfolding all rises
  form-start m f = record { spelled = refl; fit = and_both (fits r (start_line m)) true f refl; rising = refl }

  -- ONE MORE LINE that fits, with a code high enough
  pub form-snoc : (texts : List (List ℕ)) (m : ℕ) (ds : List PlacementLine) (d : PlacementLine) → Form r texts m ds → fits r (placement_line d) ≡ true → code_after 0 (codes ds) ≤ line_code r d
      → Form r (texts ++ (spell (placement_line d) ∷ [])) m (ds ++ (d ∷ []))
  unfolding all
  form-snoc texts m ds d f e l =
      record {
        spelled = ap (λ (ls : List (List ℕ)). ls ++ (spell (placement_line d) ∷ [])) f.spelled ∙ sym (texts-snoc m ds d);
        fit = ap (all (fits r)) (lines_snoc m ds d) ∙ all_append (fits r) (plan_of m ds) (placement_line d ∷ []) f.fit (and_both (fits r (placement_line d)) true e refl);
        rising = ap (rises 0) (map-append (line_code r) ds (d ∷ [])) ∙ rises-snoc 0 (codes ds) (line_code r d)
            ∙ and_both (rises 0 (codes ds)) (leb (code_after 0 (codes ds)) (line_code r d)) f.rising (le-leb (code_after 0 (codes ds)) (line_code r d) l);
      }

  -- A FORM WITH A LAST LINE: that line is the first, or what is before it is in form
  pub data Last (texts : List (List ℕ)) (text : List ℕ) : Type 0 where
    only : (m : ℕ) → texts ≡ [] → text ≡ spell (start_line m) → fits r (start_line m) ≡ true → Last texts text
    more : (m : ℕ) (ds : List PlacementLine) (d : PlacementLine) → Form r texts m ds → text ≡ spell (placement_line d)
        → fits r (placement_line d) ≡ true → code_after 0 (codes ds) ≤ line_code r d → Last texts text

  pub form-last : (texts : List (List ℕ)) (text : List ℕ) → InForm r (texts ++ (text ∷ [])) → Last texts text
  unfolding all
  form-last texts text i = go (snoc? i.lines)
    where
      go : Snoc i.lines → Last texts text
      go (empty e) =
          let s = snoc-same texts [] text (spell (start_line i.start)) (i.form.spelled ∙ ap (λ (ds : List PlacementLine). map spell (plan_of i.start ds)) e) in
          only i.start s.front s.last (and-true (fits r (start_line i.start)) (all (fits r) (map placement_line i.lines)) i.form.fit).0
      go (snoc ds d e) =
          let s = snoc-same texts (map spell (plan_of i.start ds)) text (spell (placement_line d)) (i.form.spelled
          ∙ ap (λ (ds : List PlacementLine). map spell (plan_of i.start ds)) e ∙ texts-snoc i.start ds d) in
          let f = all-parts (fits r) (plan_of i.start ds) (placement_line d ∷ [])
          (subst (λ (ls : List PlanLine). all (fits r) ls ≡ true) (ap (plan_of i.start) e ∙ lines_snoc i.start ds d) i.form.fit) in
          let u = and-true (rises 0 (codes ds)) (leb (code_after 0 (codes ds)) (line_code r d))
          (sym (rises-snoc 0 (codes ds) (line_code r d)) ∙ ap (rises 0) (sym (ap codes e ∙ map-append (line_code r) ds (d ∷ []))) ∙ i.form.rising) in
          more i.start ds d (record { spelled = s.front; fit = f.0; rising = u.0 }) s.last
          (and-true (fits r (placement_line d)) true f.1).0
          (leb-true (code_after 0 (codes ds)) (line_code r d) u.1)

  -- of texts in form, so many from the first on are in form too, unless they are none
  pub form-front : (bs xs : List (List ℕ)) (x : List ℕ) → InForm r ((xs ++ (x ∷ [])) ++ bs) → InForm r (xs ++ (x ∷ []))
  form-front [] xs x i = subst (InForm r) (append-nil (xs ++ (x ∷ []))) i
  form-front (b ∷ bs) xs x i = go (form-last (xs ++ (x ∷ [])) b (form-front bs (xs ++ (x ∷ [])) b (subst (InForm r) (sym (append_assoc (xs ++ (x ∷ [])) (b ∷ []) bs)) i)))
    where
      go : Last (xs ++ (x ∷ [])) b → InForm r (xs ++ (x ∷ []))
      go (only m e f g) = snoc-not-empty xs x e
      go (more m ds d f g h k) = record { start = m; lines = ds; form = f; holds = tt }

  pub no-form : {A : Type 0} (m : ℕ) (ds : List PlacementLine) → Form r [] m ds → A
  no-form m ds f = let e : [] ≡ map spell (plan_of m ds) = f.spelled in let z : ◌≡◌ {A = ℕ} 0 1 = cc in absurd (omega arith)

  -- NO TEXTS ARE IN FORM FOR TWO PLANS
  pub record OnePlan (m n : ℕ) (ds es : List PlacementLine) : Type 0 where
    pub start : m ≡ n
    pub lines : ds ≡ es

  lines-one : r.sections < no_figure → (ks ls : List PlanLine) → all (fits r) ks ≡ true → all (fits r) ls ≡ true → map spell ks ≡ map spell ls → ks ≡ ls
  unfolding all
  lines-one s [] [] p q e = refl
  lines-one s [] (l ∷ ls) p q e = let z : ◌≡◌ {A = ℕ} 0 1 = cc in absurd (omega arith)
  lines-one s (k ∷ ks) [] p q e = let z : ◌≡◌ {A = ℕ} 0 1 = cc in absurd (omega arith)
  lines-one s (k ∷ ks) (l ∷ ls) p q e =
      let a = and-true (fits r k) (all (fits r) ks) p in
      let b = and-true (fits r l) (all (fits r) ls) q in
      let h : spell k ≡ spell l = cc in
      let t : map spell ks ≡ map spell ls = cc in
      let x : k ≡ l = spells_one r s k l a.0 b.0 h in
      let y : ks ≡ ls = lines-one s ks ls a.1 b.1 t in
      rw (x, y)

  placements-one : (ds es : List PlacementLine) → map placement_line ds ≡ map placement_line es → ds ≡ es
  placements-one [] [] e = refl
  placements-one [] (d ∷ es) e = let z : ◌≡◌ {A = ℕ} 0 1 = cc in absurd (omega arith)
  placements-one (d ∷ ds) [] e = let z : ◌≡◌ {A = ℕ} 0 1 = cc in absurd (omega arith)
  placements-one (d ∷ ds) (f ∷ es) e =
      let h : d ≡ f = cc in
      let t : map placement_line ds ≡ map placement_line es = cc in
      let y : ds ≡ es = placements-one ds es t in
      rw (h, y)

  pub form-one : r.sections < no_figure → (texts : List (List ℕ)) (m n : ℕ) (ds es : List PlacementLine) → Form r texts m ds → Form r texts n es → OnePlan m n ds es
  form-one s texts m n ds es f g =
      let e : plan_of m ds ≡ plan_of n es = lines-one s (plan_of m ds) (plan_of n es) f.fit g.fit (sym f.spelled ∙ g.spelled) in
      let h : map placement_line ds ≡ map placement_line es = cc in
      record { start = (let z : m ≡ n = cc in z); lines = placements-one ds es h }
