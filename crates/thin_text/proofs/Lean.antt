-- What is put at the end: the line of a refusal, or the text of the lean plan; and what the tables are that such a text is written of. Assumes nothing.
use mathlib.Core.Path.{◌≡◌, refl, sym, ap, subst}
use mathlib.Core.List.{List, [], ◌∷◌}
use mathlib.Core.Bool.{Bool}
use Prim.Native.Nat.{ℕ, ◌-◌, ◌≤◌, ◌<◌}
use native.Mathlib.Omega.{arith}
use lib.ListN.{length, get_or, take, drop, replicate, length-drop}
use lib.Seq.{take_all}
use Rattle.laws.proofs.Lists.{get_or-inside}
use Rattle.railway.specs.declared.Railway.{Railway}
use Rattle.railway.specs.CaseAnswer.{CaseAnswer, Accepted, Refused as CaseRefused}
use Rattle.railway.specs.declared.Refusal.{Refusal}
use Rattle.game_tables.specs.Lengths.{entries}
use Rattle.game_tables.specs.Tables.{no_figure}
use Rattle.game_tables.proofs.Refusals.{case-none}
use Rattle.case_file.specs.CaseRead.{CaseRead}
use Rattle.case_file.specs.Written.{Written}
use Rattle.case_file.specs.Given.{ReaderPost}
use Rattle.case_reader.proofs.Answers.{by-refused, by-accepted}
use Rattle.plan.specs.TestAnswer.{TestAnswer}
use Rattle.plan.specs.Text.{plan_text}
use Rattle.plan.specs.Checker.{Checking}
use Rattle.plan.specs.Promises.{FreshPost}
use Rattle.answer_lines.specs.Lines.{refusal_line, test_line, PutPost, Puts}
use Rattle.answer_lines.proofs.Lines.{refusal-short}
use Rattle.answer_lines.proofs.Puts.{test_short, puts-map, puts-refusal}
use Rattle.plan_text.specs.Written.{text_bytes}
use Rattle.check_text.specs.Pieces.{PiecePost, EndPost}
use Rattle.thin.specs.ThinAnswer.{ThinAnswer, Thinned, Refused}
use Rattle.thin.specs.Thinning.{ThinPost}
use Rattle.thin.proofs.Claims.{Passed, passed, thins-hold}
use Rattle.thin_text.specs.Lean.{lean_text, EndOutput, PlanOutput, LeanOutput}
use Rattle.plan_text.specs.Listable.{Listable}
use Rattle.plan_text.proofs.Sizes.{plan-short}

-- THE TABLES that thinning leaves: long enough, their figures within bounds, as numbers of 32 bits are
module _ (r : Railway) (c : Checking) (a : ThinAnswer) (c' : Checking) (post : ThinPost r c a c') (e : a ≡ Thinned) (long : length c'.figs ≡ entries)
    (fit : (i : ℕ) → get_or c'.figs i 0 < 4294967296) where
  pub thinned-listable : Listable r c'.figs c'.sets
  thinned-listable =
      let w : Passed r c' = passed r c' ((thins-hold r c a c' post).thinned e).passes in
      let k = (case-none r c'.figs c'.sets).0 w.unrefused in
      record {
        long = long;
        unrefused = w.unrefused;
        bounded = λ p l.
            let s : get_or c'.figs p no_figure ≡ get_or c'.figs p 0 = get_or-inside c'.figs p no_figure 0 (omega (arith, l, k.1.figures)) in
            omega (arith, s, fit p);
        figure = w.figure;
        start = w.test.start;
      }

-- AT THE END: bytes are left
module _ (r : Railway) (c : Checking) (old new : List ℕ) (w : Written) where
  pub left-put : (rest : List ℕ) → 0 < length rest → (a : TestAnswer) → EndPost r c rest a → PutPost (test_line a) old w new → Puts (EndOutput r c rest) text_bytes old w new
  left-put [] l a q p = absurd (omega arith)
  left-put (b ∷ bs) l a q p =
      record { text = test_line a; output = record { answer = a; ended = q; written = refl }; short = omega (arith, test_short a); put = p }

  -- none are left
  none_left : (rest : List ℕ) → length rest ≤ 0 → rest ≡ []
  none_left [] l = refl
  none_left (b ∷ bs) l = absurd (omega arith)

  pub thin-put-refused : (rest : List ℕ) → length rest ≤ 0 → (a : ThinAnswer) (c' : Checking) → ThinPost r c a c' → length c'.figs ≡ entries
      → ((i : ℕ) → get_or c'.figs i 0 < 4294967296) → (f : Refusal) → a ≡ Refused f → PutPost (refusal_line f) old w new
      → Puts (EndOutput r c rest) text_bytes old w new
  thin-put-refused rest l a c' post sized words f e p =
      subst (λ (xs : List ℕ). Puts (EndOutput r c xs) text_bytes old w new) (sym (none_left rest l))
      (record {
        text = refusal_line f;
        output = record { answer = a; left = c'; thinned = post; sized = sized; words = words; written = ap (λ (x : ThinAnswer). lean_text r x c') (sym e) };
        short = omega (arith, refusal-short f);
        put = p;
      })

  pub thin-put : (rest : List ℕ) → length rest ≤ 0 → (a : ThinAnswer) (c' : Checking) → ThinPost r c a c' → length c'.figs ≡ entries
      → ((i : ℕ) → get_or c'.figs i 0 < 4294967296) → a ≡ Thinned → Listable r c'.figs c'.sets
      → PutPost (plan_text r c'.figs c'.sets) old w new → Puts (EndOutput r c rest) text_bytes old w new
  thin-put rest l a c' post sized words e s p =
      subst (λ (xs : List ℕ). Puts (EndOutput r c xs) text_bytes old w new) (sym (none_left rest l))
      (record {
        text = plan_text r c'.figs c'.sets;
        output = record { answer = a; left = c'; thinned = post; sized = sized; words = words; written = ap (λ (x : ThinAnswer). lean_text r x c') (sym e) };
        short = plan-short r c'.figs c'.sets s;
        put = p;
      })

-- A RAILWAY: the lines in front, and the end
pub plan-put : (r : Railway) (plan rest old new : List ℕ) (w : Written) (made : CaseAnswer) (start : Checking) → FreshPost r (replicate entries 0) (replicate entries 0) made start
    → (n : ℕ) (stopped : Bool) (c : Checking) → PiecePost r start plan n stopped c → rest ≡ drop n plan → Puts (EndOutput r c rest) text_bytes old w new
    → Puts (PlanOutput r plan) text_bytes old w new
plan-put r plan rest old new w made start fresh n stopped c piece is p =
    record {
      text = p.text;
      output = record { made = made; start = start; fresh = fresh; bytes = n; stopped = stopped; end = c; lines = piece; ends = subst (λ (xs : List ℕ). EndOutput r c xs p.text) is p.output };
      short = p.short;
      put = p.put;
    }

-- A CASE TEXT: the line of the reader's refusal, or what is put for the railway that was read
module _ (case plan : List ℕ) (a : CaseRead) (post : ReaderPost case a) (old new : List ℕ) (w : Written) where
  pub case-refused : (f : Refusal) → a.answer ≡ CaseRefused f → PutPost (refusal_line f) old w new → Puts (LeanOutput case plan) text_bytes old w new
  case-refused f e p =
      puts-refusal f (omega arith) (by-refused (λ g. refusal_line f ≡ refusal_line g) (λ r. PlanOutput r plan (refusal_line f)) case a post f e refl) p

  pub case-accepted : a.answer ≡ Accepted → Puts (PlanOutput a.railway plan) text_bytes old w new → Puts (LeanOutput case plan) text_bytes old w new
  case-accepted e p = puts-map (λ t o. by-accepted (λ g. t ≡ refusal_line g) (λ r. PlanOutput r plan t) case a post e o) p

-- what is left of a text, from a place to its end
pub to_the_end : (plan : List ℕ) (n : ℕ) → take (length plan - n) (drop n plan) ≡ drop n plan
to_the_end plan n = let l : length (drop n plan) ≡ length plan - n = length-drop n plan in take_all (length plan - n) (drop n plan) (omega (arith, l))
