-- The first bytes of a text decide its check, and which lines in front of it are taken. A line that is taken has 45 bytes at most and leaves fewer
-- that can still be taken, for codes rise and stay below the number of placements. A line that the cut falls into is longer than all that could
-- still be taken, and so is what the cut leaves of it: both are refused, and the lines before it are the same. Assumes nothing.
use mathlib.Core.Path.{◌≡◌, refl, sym, ◌∙◌, ap, subst}
use mathlib.Core.Logic.{inl, inr}
use mathlib.Core.Bool.{Bool, true, false, cond}
use mathlib.Core.List.{List, [], ◌∷◌}
use mathlib.Core.Option.{Option, none, some}
use Prim.Native.Nat.{ℕ, zero, suc, ◌+◌, ◌-◌, ◌*◌, ◌≤◌, ◌<◌}
use native.Mathlib.Omega.{arith}
use lib.Dec.{eqb, ltb}
use lib.ListN.{length, take, drop, length-replicate}
use lib.Seq.{take-nil, take-take}
use borrow.Author.Tests.{ltb-false}
use Rattle.laws.proofs.Bools.{bool?, option?, lt?}
use Rattle.text.specs.Text.{line_end}
use Rattle.railway.specs.declared.Railway.{Railway}
use Rattle.railway.specs.declared.Refusal.{Refusal}
use Rattle.railway.specs.declared.Refusal.TheVariants.{PlanForm}
use Rattle.railway.specs.Rows.{record_refusal}
use Rattle.game.specs.Placement.{placements}
use Rattle.game.proofs.Accepted.{facts}
use Rattle.game_tables.specs.Lengths.{entries}
use Rattle.game_tables.specs.Tables.{no_figure, case_refusal}
use Rattle.game_tables.proofs.Refusals.{case-none}
use Rattle.plan.specs.declared.CheckerState.{CheckerState}
use Rattle.plan.specs.declared.CheckerState.TheVariants.{Fresh, Begun}
use Rattle.plan.specs.LineAnswer.{LineAnswer, Taken, Refused as LineRefused}
use Rattle.plan.specs.FrontAnswer.{Took}
use Rattle.plan.specs.TestAnswer.{Refused as TestRefused}
use Rattle.plan.specs.Lines.{PlanLine, start_line, placement_line, most_line_bytes, Spells, line_code}
use Rattle.plan.specs.Reading.{read_line}
use Rattle.plan.specs.Checker.{Checking, Left, left, fresh_checking, enter, take_line}
use Rattle.plan.specs.Steps.{refuse, takes}
use Rattle.plan.proofs.Checked.{code_in}
use Rattle.plan.proofs.Lines.{lines-short}
use Rattle.plan.proofs.Reading.{reads-line}
use Rattle.plan.proofs.Steps.{line-steps}
use Rattle.plan.specs.FirstLine.{line_bytes, first_of}
use Rattle.plan.specs.Several.{lines_of, Front, no_front, front_behind, front_by, front_of, take_front}
use Rattle.plan.proofs.FirstLine.{first-line, first-length}
use Rattle.check_text.specs.Verdict.{check_lines}
use Rattle.check_text.specs.Claims.{read_bytes, CutDecides}
use Rattle.check_text.specs.Pieces.{bytes_taken}
use Rattle.check_text.proofs.Calls.{one_line, still-fine, refused-case}

-- A TEXT THAT IS CUT. Its first line is kept whole, or is all that the cut leaves.
abbrev pub behind_first : List ℕ → List ℕ
behind_first text = drop (line_bytes text) text

line_kept : (n : ℕ) (text : List ℕ) → line_bytes text ≤ n → line_bytes (take n text) ≡ line_bytes text
unfolding line_bytes
line_kept n [] few = rw (take-nil {A = ℕ} n) refl
line_kept zero (b ∷ bs) few = elim (bool? (eqb b line_end)) [ inl e ↦ absurd (omega (arith, (rw e at few))) | inr e ↦ absurd (omega (arith, (rw e at few))) ]
line_kept (suc n) (b ∷ bs) few = elim (bool? (eqb b line_end)) [ inl e ↦ rw e refl | inr e ↦ let h = (rw e at few) in rw e (ap suc (line_kept n bs (omega (arith, h)))) ]

line-cut : (n : ℕ) (text : List ℕ) → n < line_bytes text → line_bytes (take n text) ≡ n
unfolding line_bytes
line-cut n [] more = absurd (omega (arith, more))
line-cut zero (b ∷ bs) more = refl
line-cut (suc n) (b ∷ bs) more = elim (bool? (eqb b line_end)) [
  | inl e ↦ let h = (rw e at more) in absurd (omega (arith, h))
  | inr e ↦ let h = (rw e at more) in rw e (ap suc (line-cut n bs (omega (arith, h))))
]

pub drop-take : (m n : ℕ) (l : List ℕ) → m ≤ n → drop m (take n l) ≡ take (n - m) (drop m l)
drop-take zero n l le = let e : n - 0 ≡ n = omega arith in rw e refl
drop-take (suc m) zero l le = absurd (omega (arith, le))
drop-take (suc m) (suc n) [] le = sym (take-nil {A = ℕ} (suc n - suc m))
drop-take (suc m) (suc n) (x ∷ xs) le = let e : suc n - suc m ≡ n - m = omega arith in rw e (drop-take m n xs (omega (arith, le)))

-- cut behind its first line, a text is that line and what is left of the others
first-kept : (n b : ℕ) (bs : List ℕ) → line_bytes (b ∷ bs) ≤ suc n → lines_of (b ∷ take n bs) ≡ first_of (b ∷ bs) ∷ lines_of (take (suc n - line_bytes (b ∷ bs)) (behind_first (b ∷ bs)))
first-kept n b bs few =
    let k : line_bytes (b ∷ take n bs) ≡ line_bytes (b ∷ bs) = line_kept (suc n) (b ∷ bs) few in
    let t : take (line_bytes (b ∷ bs)) (b ∷ take n bs) ≡ first_of (b ∷ bs) = take-take (line_bytes (b ∷ bs)) (suc n) (b ∷ bs) few in
    let d : drop (line_bytes (b ∷ bs)) (b ∷ take n bs) ≡ take (suc n - line_bytes (b ∷ bs)) (behind_first (b ∷ bs)) = drop-take (line_bytes (b ∷ bs)) (suc n) (b ∷ bs) few in
    first-line b (take n bs) ∙ (rw (k, t, d) refl)

-- HOW MANY LINES CAN STILL BE TAKEN, at most
abbrev budget : Railway → CheckerState → ℕ
budget r Fresh = suc (placements r)
budget r (Begun m from) = placements r - from

-- a call for a line: refused as plan form, or taken, and then it is short and fewer can follow
data Step (r : Railway) (s : CheckerState) (l : List ℕ) (x : Left LineAnswer) : Type 0 where
  refused : x.answer ≡ LineRefused PlanForm → Step r s l x
  taken : x.answer ≡ Taken → length l ≤ most_line_bytes → budget r x.checking.state < budget r s → Step r s l x

module _ (r : Railway) (accepted : record_refusal r ≡ none) (c : Checking) (l : List ℕ) where
  pub spells : (p : PlanLine) → read_line r l ≡ some p → Spells r l p
  spells p e = (reads-line r (omega (arith, (facts r accepted).few-sections)) l p).0 e

  short : (p : PlanLine) → read_line r l ≡ some p → length l ≤ most_line_bytes
  short p e = let s = spells p e in rw s.spelled at (lines-short r accepted p s.fit)

  takes_step : (s : CheckerState) (o : Option PlanLine) → read_line r l ≡ o → Step r s l (takes r c s o)
  takes_step Fresh none e = refused refl
  takes_step (Begun m from) none e = refused refl
  takes_step Fresh (some (start_line n)) e = taken refl (short (start_line n) e) (omega arith)
  takes_step Fresh (some (placement_line d)) e = refused refl
  takes_step (Begun m from) (some (start_line n)) e = refused refl
  takes_step (Begun m from) (some (placement_line d)) e = go (ltb (line_code r d) from) refl
    where
      go : (b : Bool) → ltb (line_code r d) from ≡ b → Step r (Begun m from) l (cond b (refuse c PlanForm) (left Taken (enter r c m d)))
      go true h = refused refl
      go false h =
          let low : from ≤ line_code r d = ltb-false (line_code r d) from h in
          let high : line_code r d < placements r = code_in r accepted d (spells (placement_line d) e).fit in
          taken refl (short (placement_line d) e) (omega (arith, low, high))

-- a line longer than all that can still be taken is refused
too_long : (r : Railway) (s : CheckerState) (l : List ℕ) (x : Left LineAnswer) → budget r s * most_line_bytes < length l → Step r s l x → x.answer ≡ LineRefused PlanForm
too_long r s l x more (refused e) = e
too_long r s l x more (taken e few less) = absurd (omega (arith, more, few, less))

-- THE CALLS for the lines of a text. What they give in the end is made line by line: behind a line that is taken they go on, and one that is refused as plan form ends them.
record LineByLine (r : Railway) {A : Type 0} (gives : List (List ℕ) → Checking → A) : Type 0 where
  on : List ℕ → A → A
  stop : Checking → A
  going : (l : List ℕ) (ls : List (List ℕ)) (c : Checking) → (take_line r c l).answer ≡ Taken → gives (l ∷ ls) c ≡ on l (gives ls (take_line r c l).checking)
  ended : (l : List ℕ) (ls : List (List ℕ)) (c : Checking) → (take_line r c l).answer ≡ LineRefused PlanForm → gives (l ∷ ls) c ≡ stop c

-- in a case that is not refused
step : (r : Railway) (c : Checking) → case_refusal r c.figs c.sets ≡ none → (l : List ℕ) → Step r c.state l (take_line r c l)
step r c fine l = subst (Step r c.state l) (sym (line-steps r c l fine)) (takes_step r ((case-none r c.figs c.sets).0 fine).0 c l c.state (read_line r l) refl)

record Enough (r : Railway) (n : ℕ) (c : Checking) : Type 0 where
  fine : case_refusal r c.figs c.sets ≡ none
  more : budget r c.state * most_line_bytes < n

module _ (r : Railway) {A : Type 0} (gives : List (List ℕ) → Checking → A) (each : LineByLine r gives) where
  module _ (c : Checking) (fine : case_refusal r c.figs c.sets ≡ none) where
    -- the first line is too long
    refused-first : (b : ℕ) (bs : List ℕ) → budget r c.state * most_line_bytes < line_bytes (b ∷ bs) → gives (lines_of (b ∷ bs)) c ≡ each.stop c
    refused-first b bs more =
        let l : List ℕ = first_of (b ∷ bs) in
        ap (λ (ls : List (List ℕ)). gives ls c) (first-line b bs)
        ∙ each.ended l (lines_of (behind_first (b ∷ bs))) c (too_long r c.state l (take_line r c l) (omega (arith, more, first-length (b ∷ bs))) (step r c fine l))

    -- two texts begin with the same line
    same_first : (l : List ℕ) (ls ls' : List (List ℕ)) → Step r c.state l (take_line r c l)
        → (length l ≤ most_line_bytes → budget r (take_line r c l).checking.state < budget r c.state → gives ls (take_line r c l).checking ≡ gives ls' (take_line r c l).checking)
        → gives (l ∷ ls) c ≡ gives (l ∷ ls') c
    same_first l ls ls' (refused e) behind = each.ended l ls c e ∙ sym (each.ended l ls' c e)
    same_first l ls ls' (taken e few less) behind = each.going l ls c e ∙ ap (each.on l) (behind few less) ∙ sym (each.going l ls' c e)

  -- A TEXT AND ITS FIRST n BYTES give the same, if n is more than the lines that can still be taken have in all
  abbrev Alike : List ℕ → ℕ → Checking → Type 0
  Alike text n c = gives (lines_of (take n text)) c ≡ gives (lines_of text) c

  module _ (c : Checking) (b : ℕ) (bs : List ℕ) (n : ℕ) (w : Enough r (suc n) c) where
    -- the cut falls into the first line
    cut_inside : suc n < line_bytes (b ∷ bs) → Alike (b ∷ bs) (suc n) c
    cut_inside long =
        let e : line_bytes (b ∷ take n bs) ≡ suc n = line-cut (suc n) (b ∷ bs) long in
        refused-first c w.fine b (take n bs) (omega (arith, w.more, e)) ∙ sym (refused-first c w.fine b bs (omega (arith, w.more, long)))

    -- it falls behind the first line
    cut-behind : line_bytes (b ∷ bs) ≤ suc n
        → ((rest : List ℕ) (m : ℕ) (c' : Checking) → budget r c'.state < budget r c.state → Enough r m c' → Alike rest m c')
        → Alike (b ∷ bs) (suc n) c
    cut-behind few onward =
        let l : List ℕ = first_of (b ∷ bs) in
        ap (λ (ls : List (List ℕ)). gives ls c) (first-kept n b bs few)
        ∙ same_first c w.fine l _ _ (step r c w.fine l)
        (λ short less. onward (behind_first (b ∷ bs)) (suc n - line_bytes (b ∷ bs)) (take_line r c l).checking less
        (record { fine = still-fine r c l w.fine; more = omega (arith, w.more, first-length (b ∷ bs), short, less) }))
        ∙ ap (λ (ls : List (List ℕ)). gives ls c) (sym (first-line b bs))

  alike : (k : ℕ) (text : List ℕ) (n : ℕ) (c : Checking) → budget r c.state < k → Enough r n c → Alike text n c
  alike zero text n c low w = absurd (omega (arith, low))
  alike (suc k) [] n c low w = ap (λ (l : List ℕ). gives (lines_of l) c) (take-nil {A = ℕ} n)
  alike (suc k) (b ∷ bs) zero c low w = absurd (omega (arith, w.more))
  alike (suc k) (b ∷ bs) (suc n) c low w = elim (lt? (suc n) (line_bytes (b ∷ bs))) [
    | inl long ↦ cut_inside c b bs n w long
    | inr few ↦ cut-behind c b bs n w few (λ rest m c' less v. alike k rest m c' (omega (arith, low, less)) v)
  ]

-- THE CHECK of all lines, and what is taken in front of a text, are made so
check-by : (r : Railway) → LineByLine r (check_lines r)
check-by r =
    record {
      on = λ l a. a;
      stop = λ c. TestRefused PlanForm;
      going = λ l ls c e. one_line r l ls c ∙ (rw e refl);
      ended = λ l ls c e. one_line r l ls c ∙ (rw e refl);
    }

front-by : (r : Railway) → LineByLine r (front_of r)
unfolding front_of
front-by r =
    record {
      on = λ l x. front_behind (length l) x;
      stop = no_front;
      going = λ l ls c e. ap (front_by (length l) c (take_line r c l).checking (front_of r ls)) e;
      ended = λ l ls c e. ap (front_by (length l) c (take_line r c l).checking (front_of r ls)) e;
    }

-- and no more bytes are taken than the lines have that can still be
front-few : (r : Railway) (ls : List (List ℕ)) (c : Checking) → case_refusal r c.figs c.sets ≡ none → (front_of r ls c).bytes ≤ budget r c.state * most_line_bytes
unfolding front_of
front-few r [] c fine = omega arith
front-few r (l ∷ ls) c fine = go (step r c fine l) (front-few r ls (take_line r c l).checking (still-fine r c l fine))
  where
    go : Step r c.state l (take_line r c l) → (front_of r ls (take_line r c l).checking).bytes ≤ budget r (take_line r c l).checking.state * most_line_bytes
        → (front_by (length l) c (take_line r c l).checking (front_of r ls) (take_line r c l).answer).bytes ≤ budget r c.state * most_line_bytes
    go (refused e) rest = rw e (omega arith)
    go (taken e short less) rest = rw e (omega (arith, short, less, rest))

-- FROM FRESH TABLES of e entries. A railway that is refused gets its number at the first call, whatever the text.
fresh-alike : (r : Railway) (e : ℕ) (text : List ℕ) (n : ℕ) → (e + 1) * most_line_bytes < n → (o : Option Refusal)
    → case_refusal r (fresh_checking e e).figs (fresh_checking e e).sets ≡ o → Alike r (check_lines r) (check-by r) text n (fresh_checking e e)
fresh-alike r e text n more (some f) is = refused-case r (lines_of (take n text)) (fresh_checking e e) f is ∙ sym (refused-case r (lines_of text) (fresh_checking e e) f is)
fresh-alike r e text n more none is =
    let k = (case-none r (fresh_checking e e).figs (fresh_checking e e).sets).0 is in
    let p : placements r ≤ e = rw (length-replicate {A = ℕ} e no_figure) at k.1.figures in
    alike r (check_lines r) (check-by r) (suc (suc (placements r))) text n (fresh_checking e e) (omega arith) (record { fine = is; more = omega (arith, p, more) })

pub cut-decides : CutDecides
cut-decides r plan n enough = fresh-alike r entries plan n (omega (arith, enough)) _ refl

-- THE CALL FOR THE LINES IN FRONT, with no line taken before and no more placements than entries: it takes the same of a text that is cut, and less than what is left of it
pub record FrontCut (r : Railway) (c : Checking) (text : List ℕ) (n : ℕ) : Type 0 where
  pub same : take_front r c (take n text) ≡ take_front r c text
  pub few : bytes_taken (take_front r c text).answer < n

pub front_cut : (r : Railway) (c : Checking) (text : List ℕ) (n : ℕ) → c.state ≡ Fresh → (case_refusal r c.figs c.sets ≡ none → placements r ≤ entries) → read_bytes ≤ n
    → FrontCut r c text n
unfolding take_front
front_cut r c text n fresh room enough = elim (option? (case_refusal r c.figs c.sets)) [
  | inr f ↦ (let e = f.1 in record { same = rw e refl; few = rw e (omega (arith, enough)) })
  | inl e ↦
      let p = room e in
      let b : budget r c.state ≡ suc (placements r) = ap (budget r) fresh in
      let f : front_of r (lines_of (take n text)) c ≡ front_of r (lines_of text) c =
      alike r (front_of r) (front-by r) (suc (suc (placements r))) text n c (omega (arith, b)) (record { fine = e; more = omega (arith, b, p, enough) }) in
      let g : (front_of r (lines_of text) c).bytes ≤ budget r c.state * most_line_bytes = front-few r (lines_of text) c e in
      record {
        same = rw e (ap (λ (x : Front). left (Took x.bytes) x.checking) f);
        few = rw e (omega (arith, b, g, p, enough));
      }
]
