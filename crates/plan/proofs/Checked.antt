-- What the checker's calls say of the lines of a plan, by any maker. After any calls the lines taken are in form, the tables have at each code
-- what the line for it says, and the state says which code may come next (`Holds`); a call that refuses leaves that, and a call that takes a
-- line brings it forward. So the test over the tables is the test over the lines. Assumes nothing.
use mathlib.Core.Path.{◌≡◌, refl, sym, ◌∙◌, ap, subst}
use mathlib.Core.Logic.{◌⊎◌, inl, inr, ◌↔◌}
use mathlib.Core.Bool.{Bool, true, false, cond}
use mathlib.Core.List.Memᴰ
use mathlib.Core.List.{List, [], ◌∷◌, ◌++◌, map, map-append, append_assoc, append-nil, Memᴰ}
use mathlib.Core.Option.{Option, none, some}
use Prim.Native.Nat.{ℕ, suc, ◌+◌, ◌^◌, ◌≤◌, ◌<◌}
use native.Mathlib.Omega.{arith}
use lib.ListN.{length, get_or, set, length-set}
use lib.Seq.{get_or-set_same, get_or-set_other}
use lib.Dec.{eqb, ltb, leb}
use borrow.Author.Tests.{ltb-true, ltb-false, eq-eqb, ne_eqb}
use Rattle.laws.specs.Bits.{bit}
use Rattle.laws.specs.Lists.{all, rises}
use Rattle.laws.proofs.Bools.{eq?, clash, some-none, and-true}
use Rattle.laws.proofs.Lists.{all_in, get_or-member}
use Rattle.laws.proofs.Bits.{bit-none}
use Rattle.railway.specs.declared.Railway.{Railway}
use Rattle.railway.specs.declared.Refusal.TheVariants.{PlanForm, PlanFault}
use Rattle.railway.specs.Rows.{record_refusal}
use Rattle.game.specs.Placement.{placements}
use Rattle.game.proofs.Accepted.{Facts, facts}
use Rattle.game.proofs.Placement.{code_below}
use Rattle.game_tables.specs.Entries.{opens_in}
use Rattle.game_tables.specs.Tables.{no_figure, figure_entry, case_refusal}
use Rattle.game_tables.proofs.Entries.{entry-plus, entry-opens}
use Rattle.plan.specs.declared.CheckerState.{CheckerState}
use Rattle.plan.specs.declared.CheckerState.TheVariants.{Fresh, Begun}
use Rattle.plan.specs.LineAnswer.{LineAnswer, Taken, Refused as LineRefused}
use Rattle.plan.specs.TestAnswer.{TestAnswer, Pass, Refused as TestRefused}
use Rattle.plan.specs.Lines.{PlacementLine, PlanLine, start_line, placement_line, spell, fits, Spells, line_code}
use Rattle.plan.specs.Reading.{read_line}
use Rattle.plan.specs.Test.{Test, line_on, figure_on, opens_on, plus_on, by_lines, by_tables}
use Rattle.plan.specs.Computed.{test_holds}
use Rattle.plan.specs.Checker.{Checking, Left, left, line_entry, enter, take_line, test_plan, LineCalls, onward, call_lines, is_taken, taken_texts}
use Rattle.plan.specs.Steps.{refuse, takes, tests}
use Rattle.plan.specs.Checked.{Form, InForm, Passing, Failing, Checked, FreshTables, CheckedHolds}
use Rattle.plan.proofs.Reading.{fits-parts, reads-line, reads}
use Rattle.plan.proofs.Steps.{line-steps, test-steps}
use Rattle.plan.proofs.Emitter.{none-refused}
use Rattle.plan.proofs.Test.{SameListing, listing-back, test-same, tested}
use Rattle.plan.proofs.Forms.{code_after, code-after, code-after-snoc, codes, form-start, form-snoc, Last, only, more, form-last, form-front, no-form, form-one}

-- THE LINE FOR A PLACEMENT, when a line is added behind
module _ (r : Railway) where
  line_other : (ds : List PlacementLine) (d : PlacementLine) (p : ℕ) → (p ≡ line_code r d → ⊥) → line_on r (ds ++ (d ∷ [])) p ≡ line_on r ds p
  unfolding line_on
  line_other [] d p h = rw (ne_eqb (line_code r d) p (λ e. h (sym e)))
  line_other (e ∷ ds) d p h = let x : line_on r (ds ++ (d ∷ [])) p ≡ line_on r ds p = line_other ds d p h in rw x

  line-new : (c : ℕ) (ds : List PlacementLine) (d : PlacementLine) → rises c (codes r ds) ≡ true → code_after c (codes r ds) ≤ line_code r d → line_on r (ds ++ (d ∷ [])) (line_code r d) ≡ some d
  unfolding line_on rises code_after
  line-new c [] d u l = rw (eq-eqb (line_code r d) (line_code r d) refl)
  line-new c (e ∷ ds) d u l =
      let h = and-true (leb c (line_code r e)) (rises (suc (line_code r e)) (codes r ds)) u in
      let k = code-after (suc (line_code r e)) (codes r ds) h.1 in
      rw (ne_eqb (line_code r e) (line_code r d) (λ q. omega arith)) (line-new (suc (line_code r e)) ds d h.1 l)

  line-fits : (ds : List PlacementLine) (p : ℕ) (d : PlacementLine) → all (fits r) (map placement_line ds) ≡ true → line_on r ds p ≡ some d → fits r (placement_line d) ≡ true
  unfolding line_on all
  line-fits [] p d a e = some-none e refl
  line-fits (x ∷ ds) p d a e = go (eqb (line_code r x) p) e (line-fits ds p d h.1)
    where
      h : (fits r (placement_line x) ≡ true) × (all (fits r) (map placement_line ds) ≡ true)
      h = and-true (fits r (placement_line x)) (all (fits r) (map placement_line ds)) a

      go : (b : Bool) → cond b (some x) (line_on r ds p) ≡ some d → (line_on r ds p ≡ some d → fits r (placement_line d) ≡ true) → fits r (placement_line d) ≡ true
      go true e f = let z : x ≡ d = cc in rw z at h.0
      go false e f = f e

  -- A TABLE that has at each code what the line for it says, and else one number
  abbrev pub cell : ℕ → (PlacementLine → ℕ) → Option PlacementLine → ℕ
  cell other of none = other
  cell other of (some d) = of d

  pub record Cells (other : ℕ) (of : PlacementLine → ℕ) (ds : List PlacementLine) (table : List ℕ) : Type 0 where
    long : placements r ≤ length table
    has : (p : ℕ) → p < placements r → get_or table p other ≡ cell other of (line_on r ds p)

  cells-fresh : (other : ℕ) (of : PlacementLine → ℕ) (table : List ℕ) → placements r ≤ length table → ((p : ℕ) → p < placements r → get_or table p other ≡ other)
      → Cells other of [] table
  unfolding line_on
  cells-fresh other of table l h = record { long = l; has = h }

  cells-more : (other : ℕ) (of : PlacementLine → ℕ) (ds : List PlacementLine) (d : PlacementLine) (table : List ℕ) → Cells other of ds table
      → rises 0 (codes r ds) ≡ true → code_after 0 (codes r ds) ≤ line_code r d → line_code r d < placements r
      → Cells other of (ds ++ (d ∷ [])) (set table (line_code r d) (of d))
  cells-more other of ds d table c u l h =
      record {
        long = rw (length-set table (line_code r d) (of d)) c.long;
        has = λ p k. elim (eq? p (line_code r d)) [
          | inl e ↦ subst (λ (q : ℕ). get_or (set table (line_code r d) (of d)) q other ≡ cell other of (line_on r (ds ++ (d ∷ [])) q)) (sym e)
              (get_or-set_same table (line_code r d) (of d) other (omega (arith, c.long)) ∙ sym (ap (cell other of) (line-new 0 ds d u l)))
          | inr e ↦ get_or-set_other table (line_code r d) p (of d) other e ∙ c.has p k ∙ sym (ap (cell other of) (line_other ds d p e))
        ];
      }

module _ (r : Railway) (a : record_refusal r ≡ none) where
  abbrev ok : Facts r
  ok = facts r a

  few : r.sections < no_figure
  few = omega (arith, ok.few-sections)

  -- the code of a line that fits is a placement's
  pub code_in : (d : PlacementLine) → fits r (placement_line d) ≡ true → line_code r d < placements r
  code_in d e =
      let f = fits-parts r d e in
      let c : line_code r d < r.sections ^ length d.sections =
      code_below r.sections d.sections (λ i l. ltb-true (get_or d.sections i 0) r.sections (all_in (λ x.
      ltb x r.sections) d.sections (get_or d.sections i 0) f.there (get_or-member d.sections i 0 l))) in
      rw f.each-train at c

  -- WHAT STATE AND TABLES HOLD after calls that took these lines
  pub record Tables (ds : List PlacementLine) (c : Checking) : Type 0 where
    figs : Cells r no_figure (λ d. d.figure) ds c.figs
    sets : Cells r 0 (line_entry r) ds c.sets

  pub data Holds (taken : List (List ℕ)) (c : Checking) : Type 0 where
    unbegun : taken ≡ [] → c.state ≡ Fresh → Tables [] c → Holds taken c
    begun : (m : ℕ) (ds : List PlacementLine) → Form r taken m ds → c.state ≡ Begun m (code_after 0 (codes r ds)) → Tables ds c → Holds taken c

  unrefused : (ds : List PlacementLine) (c : Checking) → Tables ds c → case_refusal r c.figs c.sets ≡ none
  unrefused ds c t = none-refused r c.figs c.sets a t.figs.long t.sets.long

  pub unrefused-holds : (taken : List (List ℕ)) (c : Checking) → Holds taken c → case_refusal r c.figs c.sets ≡ none
  unrefused-holds taken c (unbegun e s t) = unrefused [] c t
  unrefused-holds taken c (begun m ds f s t) = unrefused ds c t

  -- A CALL for one more line takes it, if with it the lines are in form; else it is refused as plan form and leaves all as it was
  pub data Call (taken : List (List ℕ)) (text : List ℕ) (c : Checking) (x : Left LineAnswer) : Type 0 where
    took : x.answer ≡ Taken → InForm r (taken ++ (text ∷ [])) → Holds (taken ++ (text ∷ [])) x.checking → Call taken text c x
    refused : x.answer ≡ LineRefused PlanForm → ¬ (InForm r (taken ++ (text ∷ []))) → x.checking ≡ c → Call taken text c x

  -- a text that spells a line is read as that line
  read_as : (text : List ℕ) (l : PlanLine) → text ≡ spell l → fits r l ≡ true → read_line r text ≡ some l
  read_as text l e f = ap (read_line r) e ∙ reads r few l f

  spells : (text : List ℕ) (l : PlanLine) → read_line r text ≡ some l → Spells r text l
  spells text l e = (reads-line r few text l).0 e

  fresh-takes : (taken : List (List ℕ)) (text : List ℕ) (c : Checking) → taken ≡ [] → Tables [] c → (o : Option PlanLine) → read_line r text ≡ o → Call taken text c (takes r c Fresh o)
  unfolding code_after
  fresh-takes taken text c e t none q = refused refl (λ i. no (form-last r taken text i)) refl
    where
      no : Last r taken text → ⊥
      no (only m x y z) = some-none (read_as text (start_line m) y z) q
      no (more m ds d x y z u) = some-none (read_as text (placement_line d) y z) q
  fresh-takes taken text c e t (some (placement_line d)) q = refused refl (λ i. no (form-last r taken text i)) refl
    where
      no : Last r taken text → ⊥
      no (only m x y z) = let h : read_line r text ≡ some (start_line m) = read_as text (start_line m) y z in let w : ◌≡◌ {A = ℕ} 0 1 = cc in omega arith
      no (more m ds f x y z u) = no-form r m ds (subst (λ (ls : List (List ℕ)). Form r ls m ds) e x)
  fresh-takes taken text c e t (some (start_line n)) q =
      let s = spells text (start_line n) q in
      let f : Form r (taken ++ (text ∷ [])) n [] =
      subst (λ (ls : List (List ℕ)). Form r ls n []) (ap (λ (l : List ℕ). l ∷ []) s.spelled
      ∙ ap (λ (ls : List (List ℕ)). ls ++ (text ∷ [])) (sym e)) (form-start r n s.fit) in
      took refl (record { start = n; lines = []; form = f; holds = tt }) (begun n [] f refl (record { figs = t.figs; sets = t.sets }))

  begun-takes : (taken : List (List ℕ)) (text : List ℕ) (c : Checking) (m : ℕ) (ds : List PlacementLine) → Form r taken m ds → Tables ds c
      → (o : Option PlanLine) → read_line r text ≡ o → Call taken text c (takes r c (Begun m (code_after 0 (codes r ds))) o)
  begun-takes taken text c m ds f t none q = refused refl (λ i. no (form-last r taken text i)) refl
    where
      no : Last r taken text → ⊥
      no (only n x y z) = some-none (read_as text (start_line n) y z) q
      no (more n es e x y z u) = some-none (read_as text (placement_line e) y z) q
  begun-takes taken text c m ds f t (some (start_line k)) q = refused refl (λ i. no (form-last r taken text i)) refl
    where
      no : Last r taken text → ⊥
      no (only n x y z) = no-form r m ds (subst (λ (ls : List (List ℕ)). Form r ls m ds) x f)
      no (more n es e x y z u) = let h : read_line r text ≡ some (placement_line e) = read_as text (placement_line e) y z in let w : ◌≡◌ {A = ℕ} 0 1 = cc in omega arith
  begun-takes taken text c m ds f t (some (placement_line d)) q = go (ltb (line_code r d) (code_after 0 (codes r ds))) refl
    where
      no : line_code r d < code_after 0 (codes r ds) → Last r taken text → ⊥
      no l (only n x y z) = no-form r m ds (subst (λ (ls : List (List ℕ)). Form r ls m ds) x f)
      no l (more n es e x y z u) =
          let h : read_line r text ≡ some (placement_line e) = read_as text (placement_line e) y z in
          let w : d ≡ e = cc in
          let v : ds ≡ es = (form-one r few taken m n ds es f x).lines in
          let k : code_after 0 (codes r ds) ≤ line_code r d = rw (w, v) u in
          omega arith

      go : (b : Bool) → ltb (line_code r d) (code_after 0 (codes r ds)) ≡ b → Call taken text c (cond b (refuse c PlanForm) (left Taken (enter r c m d)))
      go true y = refused refl (λ i. no (ltb-true (line_code r d) (code_after 0 (codes r ds)) y) (form-last r taken text i)) refl
      go false y =
          let s = spells text (placement_line d) q in
          let l : code_after 0 (codes r ds) ≤ line_code r d = ltb-false (line_code r d) (code_after 0 (codes r ds)) y in
          let g : Form r (taken ++ (text ∷ [])) m (ds ++ (d ∷ [])) = subst (λ (x : List ℕ). Form r (taken ++ (x ∷ [])) m (ds ++ (d ∷ []))) s.spelled (form-snoc r taken m ds d f s.fit l) in
          took refl (record { start = m; lines = ds ++ (d ∷ []); form = g; holds = tt })
          (begun m (ds ++ (d ∷ [])) g (ap (Begun m) (sym (ap (code_after 0) (map-append (line_code r) ds (d ∷ [])) ∙ code-after-snoc 0 (codes r ds) (line_code r d))))
          (record {
            figs =
                cells-more r no_figure (λ d. d.figure) ds d c.figs t.figs f.rising l (code_in d s.fit);
            sets = cells-more r 0 (line_entry r) ds d c.sets t.sets f.rising l (code_in d s.fit);
          }))

  reads_on : {taken : List (List ℕ)} {text : List ℕ} {c : Checking} {state : CheckerState} → case_refusal r c.figs c.sets ≡ none → c.state ≡ state
      → Call taken text c (takes r c state (read_line r text)) → Call taken text c (take_line r c text)
  reads_on {taken} {text} {c} e s x =
      subst (Call taken text c) (sym (line-steps r c text e)) (subst (λ (state : CheckerState). Call taken text c (takes r c state (read_line r text))) (sym s) x)

  pub call : (taken : List (List ℕ)) (text : List ℕ) (c : Checking) → Holds taken c → Call taken text c (take_line r c text)
  call taken text c (unbegun e s t) = reads_on (unrefused [] c t) s (fresh-takes taken text c e t (read_line r text) refl)
  call taken text c (begun m ds f s t) = reads_on (unrefused ds c t) s (begun-takes taken text c m ds f t (read_line r text) refl)

  -- ALL CALLS
  pub record Ran (taken texts : List (List ℕ)) (u : LineCalls) : Type 0 where
    pub holds : Holds (taken ++ taken_texts u.answers texts) u.end
    answered : length u.answers ≡ length texts
    others : (x : LineAnswer) → Memᴰ x u.answers → (x ≡ Taken) ⊎ (x ≡ LineRefused PlanForm)
    whole : InForm r (taken ++ texts) → taken_texts u.answers texts ≡ texts

  regroup : (taken : List (List ℕ)) (l : List ℕ) (ls : List (List ℕ)) → (taken ++ (l ∷ [])) ++ ls ≡ taken ++ (l ∷ ls)
  regroup taken l ls = append_assoc taken (l ∷ []) ls

  ran-step : (taken : List (List ℕ)) (l : List ℕ) (ls : List (List ℕ)) (c : Checking) (x : Left LineAnswer) → Holds taken c → Call taken l c x
      → ((before : List (List ℕ)) → Holds before x.checking → Ran before ls (call_lines r ls x.checking)) → Ran taken (l ∷ ls) (onward x.answer (call_lines r ls x.checking))
  unfolding taken_texts
  ran-step taken l ls c x h (took e i k) rest =
      let n = rest (taken ++ (l ∷ [])) k in
      let u : LineCalls = call_lines r ls x.checking in
      record {
        holds = rw e (subst (λ (ts : List (List ℕ)). Holds ts u.end) (regroup taken l (taken_texts u.answers ls)) n.holds);
        answered = ap suc n.answered;
        others = λ y m. elim (Memᴰ.cases_cons m) [ inl q ↦ inl (q ∙ e) | inr q ↦ n.others y q ];
        whole = λ f. rw e (ap (λ (ts : List (List ℕ)). l ∷ ts) (n.whole (subst (InForm r) (sym (regroup taken l ls)) f)));
      }
  ran-step taken l ls c x h (refused e i k) rest =
      let n = rest taken (subst (Holds taken) (sym k) h) in
      record {
        holds = rw e n.holds;
        answered = ap suc n.answered;
        others = λ y m. elim (Memᴰ.cases_cons m) [ inl q ↦ inr (q ∙ e) | inr q ↦ n.others y q ];
        whole = λ f. absurd (i (form-front r ls taken l (subst (InForm r) (sym (regroup taken l ls)) f)));
      }

  pub ran : (texts taken : List (List ℕ)) (c : Checking) → Holds taken c → Ran taken texts (call_lines r texts c)
  unfolding call_lines taken_texts
  ran [] taken c h = record { holds = rw (append-nil taken) h; answered = refl; others = λ x m. elim m [ ]; whole = λ f. refl }
  ran (l ∷ ls) taken c h = ran-step taken l ls c (take_line r c l) h (call taken l c h) (λ before k. ran ls before (take_line r c l).checking k)

  -- WHAT THE TABLES LIST is what the lines list
  listed : (ds : List PlacementLine) (c : Checking) → all (fits r) (map placement_line ds) ≡ true → Tables ds c → SameListing r (by_tables c.figs c.sets) (by_lines r ds)
  listed ds c f t =
      record {
        figures = λ p l. ap figure_entry (t.figs.has p l) ∙ figure (line_on r ds p) (λ d e. line-fits r ds p d f e);
        opens = λ p u l k. ap (λ (v : ℕ). opens_in v u) (t.sets.has p l) ∙ opens (line_on r ds p) u k;
        plus = λ p n l k. ap (λ (v : ℕ). bit v n) (t.sets.has p l) ∙ plus (line_on r ds p) n k;
      }
    where
      figure : (o : Option PlacementLine) → ((d : PlacementLine) → o ≡ some d → fits r (placement_line d) ≡ true) → figure_entry (cell r no_figure (λ d. d.figure) o) ≡ figure_on o
      figure none h = refl
      figure (some d) h = rw (ne_eqb d.figure no_figure (λ e. omega (arith, (fits-parts r d (h d refl)).figured)))

      opens : (o : Option PlacementLine) (u : ℕ) → u < r.trains → opens_in (cell r 0 (line_entry r) o) u ≡ opens_on o u
      opens none u k = bit-none (16 + u)
      opens (some d) u k = entry-opens r ok.few-points (λ n. get_or d.plus n false) (λ t. get_or d.opens t false) u k

      plus : (o : Option PlacementLine) (n : ℕ) → n < r.points → bit (cell r 0 (line_entry r) o) n ≡ plus_on o n
      plus none n k = bit-none n
      plus (some d) n k = entry-plus r ok.few-points (λ n. get_or d.plus n false) (λ t. get_or d.opens t false) n k

  -- THE TEST over the tables is the test over the lines
  pub record Answers (taken : List (List ℕ)) (x : TestAnswer) : Type 0 where
    pub passes : (x ≡ Pass) ↔ Passing r taken
    pub faulty : (x ≡ TestRefused PlanFault) ↔ Failing r taken
    pub early : (x ≡ TestRefused PlanForm) ↔ (taken ≡ [])

  -- the lines of the same texts pass together
  same_test : (taken : List (List ℕ)) (m n : ℕ) (ds es : List PlacementLine) → Form r taken m ds → Form r taken n es → Test r m (by_lines r ds) → Test r n (by_lines r es)
  same_test taken m n ds es f g t =
      let o = form-one r few taken m n ds es f g in
      subst (λ (fs : List PlacementLine). Test r n (by_lines r fs)) o.lines
      (subst (λ (i : ℕ). Test r i (by_lines r ds)) o.start t)

  over-lines : {taken : List (List ℕ)} (m : ℕ) (ds : List PlacementLine) (c : Checking) → Form r taken m ds
      → Tables ds c → (test_holds r m (by_tables c.figs c.sets) ≡ true) ↔ Test r m (by_lines r ds)
  unfolding all
  over-lines m ds c f t =
      let s = listed ds c (and-true (fits r (start_line m)) (all (fits r) (map placement_line ds)) f.fit).1 t in
      let h = tested r (by_tables c.figs c.sets) m in (
        λ e. test-same r ok (by_tables c.figs c.sets) (by_lines r ds) s m (h.0 e),
        λ e. h.1 (test-same r ok (by_lines r ds) (by_tables c.figs c.sets)
            (listing-back r (by_tables c.figs c.sets) (by_lines r ds) s) m e),
      )

  tests-at : (c : Checking) {state : CheckerState} → case_refusal r c.figs c.sets ≡ none → c.state ≡ state → (test_plan r c).answer ≡ tests r c none state
  tests-at c e s = test-steps r c e ∙ ap (tests r c none) s

  one_more : (taken : List (List ℕ)) (text : List ℕ) (c : Checking) → Holds taken c → (is_taken (take_line r c text).answer ≡ true) ↔ InForm r (taken ++ (text ∷ []))
  one_more taken text c h = go (take_line r c text) (call taken text c h)
    where
      go : (x : Left LineAnswer) → Call taken text c x → (is_taken x.answer ≡ true) ↔ InForm r (taken ++ (text ∷ []))
      go x (took e i k) = (λ q. i, λ q. rw e)
      go x (refused e i k) = (λ q. clash (rw e at q) refl, λ q. absurd (i q))

  answers-unbegun : (taken : List (List ℕ)) → taken ≡ [] → Answers taken (TestRefused PlanForm)
  answers-unbegun taken e =
      record {
        passes = (λ q. (let z : ◌≡◌ {A = ℕ} 0 1 = cc in absurd (omega arith)), λ q. no q.start q.lines q.form);
        faulty = (λ q. (let z : ◌≡◌ {A = ℕ} 0 1 = cc in absurd (omega arith)), λ q. no q.start q.lines q.form);
        early = (λ q. e, λ q. refl);
      }
    where
      no : {A : Type 0} (m : ℕ) (ds : List PlacementLine) → Form r taken m ds → A
      no m ds f = no-form r m ds (subst (λ (ls : List (List ℕ)). Form r ls m ds) e f)

  answers-begun : (taken : List (List ℕ)) (m : ℕ) (ds : List PlacementLine) → Form r taken m ds → (b : Bool)
      → ((b ≡ true) ↔ Test r m (by_lines r ds)) → Answers taken (cond b Pass (TestRefused PlanFault))
  answers-begun taken m ds f true i =
      record {
        passes = (λ q. record { start = m; lines = ds; form = f; holds = i.0 refl }, λ q. refl);
        faulty = (λ q. (let z : ◌≡◌ {A = ℕ} 0 1 = cc in absurd (omega arith)), λ q. absurd (q.holds (same_test taken m q.start ds q.lines f q.form (i.0 refl))));
        early = (λ q. (let z : ◌≡◌ {A = ℕ} 0 1 = cc in absurd (omega arith)), λ q. no-form r m ds (subst (λ (ls : List (List ℕ)). Form r ls m ds) q f));
      }
  answers-begun taken m ds f false i =
      record {
        passes = (λ q. (let z : ◌≡◌ {A = ℕ} 0 1 = cc in absurd (omega arith)), λ q. clash (i.1 (same_test taken q.start m q.lines ds q.form f q.holds)) refl);
        faulty = (λ q. record { start = m; lines = ds; form = f; holds = λ t. clash (i.1 t) refl }, λ q. refl);
        early = (λ q. (let z : ◌≡◌ {A = ℕ} 0 1 = cc in absurd (omega arith)), λ q. no-form r m ds (subst (λ (ls : List (List ℕ)). Form r ls m ds) q f));
      }

  pub answers : (taken : List (List ℕ)) (c : Checking) → Holds taken c → Answers taken (test_plan r c).answer
  answers taken c (unbegun e s t) = subst (Answers taken) (sym (tests-at c (unrefused [] c t) s)) (answers-unbegun taken e)
  answers taken c (begun m ds f s t) = subst (Answers taken) (sym (tests-at c (unrefused ds c t) s)) (answers-begun taken m ds f (test_holds r m (by_tables c.figs c.sets)) (over-lines m ds c f t))

  -- CHECKED
  checked : (texts : List (List ℕ)) (c : Checking) → Holds [] c → Checked r texts (call_lines r texts c).answers (taken_texts (call_lines r texts c).answers texts) (call_lines r texts c).end
  checked texts c h =
      let u : LineCalls = call_lines r texts c in
      let n = ran texts [] c h in
      let x = answers (taken_texts u.answers texts) u.end n.holds in
      record {
        passes = x.passes;
        faulty = x.faulty;
        early = x.early;
        more = λ text. one_more (taken_texts u.answers texts) text u.end n.holds;
        whole = n.whole;
        answered = n.answered;
        others = n.others;
      }

  pub fresh_holds : (c : Checking) → FreshTables r c → Holds [] c
  fresh_holds c f =
      unbegun refl f.state
      (record { figs = cells-fresh r no_figure (λ d. d.figure) c.figs f.enough-figs f.figures; sets = cells-fresh r 0 (line_entry r) c.sets f.enough-sets f.settings })

pub checked-holds : CheckedHolds
checked-holds r a c f texts = checked r a texts c (fresh_holds r a c f)
