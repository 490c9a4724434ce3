-- A change at the panel: the call's answer is that of the definition, since a text is refused or read as the reader answers. Made, the new tables have been copied over the old ones, which are as
-- long, and the state is told with them; refused, nothing is altered. Assumes nothing.
use mathlib.Core.Path.{◌≡◌, refl, sym, ◌∙◌, ap, subst}
use mathlib.Core.Bool.{Bool, true, false}
use mathlib.Core.List.{List, []}
use mathlib.Core.Option.{some}
use Prim.Native.Nat.{ℕ, suc, ◌≤◌}
use native.Mathlib.Omega.{arith}
use lib.ListN.{length, take, replicate, length-replicate}
use lib.Seq.{length-take-le}
use Rattle.laws.proofs.Bools.{clash, some-none, some_one}
use Rattle.railway.specs.declared.Railway.{Railway}
use Rattle.std.specs.Prelude.{Result, Ok, Err}
use Rattle.std.specs.Result.{result_unwrap_or}
use Rattle.railway.specs.declared.Refusal.{Refusal}
use Rattle.railway.specs.Record.{empty_railway}
use Rattle.case_file.specs.Given.{case_read}
use Rattle.railway.specs.declared.Refusal.TheVariants.{Form}
use Rattle.railway.specs.CaseAnswer.{CaseAnswer, Accepted, Refused as CaseRefused}
use Rattle.railway.specs.Refusals.{number, number_given}
use Rattle.railway.specs.Rows.{record_refusal}
use Rattle.railway.proofs.Refusals.{number-one}
use Rattle.case_file.specs.CaseRead.{CaseRead}
use Rattle.case_file.specs.Rows.{most_bytes}
use Rattle.case_file.specs.Given.{refused, railway_given, ReaderPost}
use Rattle.game_tables.specs.SolverAnswer.{SolverAnswer}
use Rattle.game_tables.specs.Solver.{SolverPost}
use Rattle.answer_lines.specs.Lines.{refusal_line}
use Rattle.answer_lines.proofs.Lines.{refusal-short}
use Rattle.desk.specs.ChangeAnswer.{ChangeAnswer, Changed, Refused}
use Rattle.desk.specs.Desk.{Desk}
use Rattle.desk.specs.Change.{sooner, Changing, number_changed, ChangePost}
use Rattle.desk_lines.specs.Changes.{is_change}
use Rattle.desk_text.specs.Said.{state_said, line_said}
use Rattle.desk_io.specs.Session.{Panel, panel_of, heard_at, Input, change_read, changed_heard}
use Rattle.desk_io.specs.Followed.{Wrote, blank, NewCase, Turned, heard}

-- THE CALL
answer-one : (a : ChangeAnswer) (f : Refusal) → number_changed a ≡ some (number f) → a ≡ Refused f
answer-one Changed f e = some-none e refl
answer-one (Refused g) f e = ap (λ (x : Refusal). Refused x) (number-one g f (some_one e))

module _ (r : Railway) (text : List ℕ) (d : Desk) (figs sets : List ℕ) (y : Changing) (post : ChangePost r text d figs sets y) (a : CaseRead) (reads : ReaderPost text a) where
  change-by : (c : CaseAnswer) → a.answer ≡ c → y ≡ change_read r d figs sets c a.railway
  change-by Accepted e = post.read a.railway ((reads.railway a.railway).0 (ap (λ (c : CaseAnswer). railway_given c a.railway) e))
  change-by (CaseRefused g) e =
      let n = post.not-read g ((reads.numbered g).0 (ap number_given e)) in
      let q : y.answer ≡ Refused (sooner (record_refusal r) g) = answer-one y.answer (sooner (record_refusal r) g) n.0 in
      λ i. record { answer = q i; desk = n.1 i }

  pub change-is : y ≡ change_read r d figs sets a.answer a.railway
  change-is = change-by a.answer refl

-- A NEW CASE, made or refused
read-beside : (x : Result Railway Refusal) (e : Railway) → e ≡ empty_railway → result_unwrap_or x e ≡ (case_read x).railway
read-beside (Ok r) e is = refl
read-beside (Err f) e is = is

-- of which the railway that is read is solved, or the empty one
module _ (text : List ℕ) (p : Panel) (x : Result Railway Refusal) (reads : ReaderPost text (case_read x)) (none-read : Railway) (empty : none-read ≡ empty_railway)
    (s : Railway) (is : s ≡ result_unwrap_or x none-read) (answer : SolverAnswer) (figs sets : List ℕ) (given : SolverPost s answer blank blank figs sets)
    (y : Changing) (post : ChangePost p.railway text p.desk figs sets y) where
  abbrev a : CaseRead
  a = case_read x

  beside : s ≡ a.railway
  beside = is ∙ read-beside x none-read empty

  solved : SolverPost a.railway answer blank blank figs sets
  solved = subst (λ (z : Railway). SolverPost z answer blank blank figs sets) beside given

  abbrev input : List ℕ → Input
  input l = record { line = l; file = text; read = a; figs = figs; sets = sets }

  by_answer : {q : Panel} {n : ℕ} {g : Bool} (c : ChangeAnswer) → y.answer ≡ c → ((l : List ℕ) → Wrote (changed_heard p (input l) c y.desk) q n g) → NewCase text p q n g
  by_answer {q} {n} {g} c e w =
      record {
        read = a;
        reads = reads;
        answer = answer;
        figs = figs;
        sets = sets;
        solved = solved;
        wrote = λ l.
            subst (λ (z : Changing). Wrote (changed_heard p (input l) z.answer z.desk) q n g) (change-is p.railway text p.desk figs sets y post a reads)
            (subst (λ (z : ChangeAnswer). Wrote (changed_heard p (input l) z y.desk) q n g) (sym e) (w l));
      }

  pub new-made : (figs₁ sets₁ : List ℕ) → figs₁ ≡ figs → sets₁ ≡ sets → y.answer ≡ Changed → (q : Railway) (e : Desk) (n : ℕ) (g : Bool)
      → Wrote (heard_at s figs₁ sets₁ (state_said s figs₁ sets₁ y.desk)) (panel_of q figs₁ sets₁ e) n g → NewCase text p (panel_of q figs₁ sets₁ e) n g
  new-made figs₁ sets₁ same-figs same-sets made q e n g w =
      let v : Wrote (heard_at s figs sets (state_said s figs sets y.desk)) (panel_of q figs sets e) n g = rw (same-figs, same-sets) at w in
      let u = subst (λ (z : Railway). Wrote (heard_at z figs sets (state_said z figs sets y.desk)) (panel_of q figs sets e) n g) beside v in
      rw (same-figs, same-sets) (by_answer Changed made (λ l. u))

  pub new-refused : (f : Refusal) → y.answer ≡ Refused f → (q : Railway) (e : Desk) (n : ℕ) (g : Bool) → q ≡ p.railway → e ≡ y.desk → n ≡ length (refusal_line f) → g ≡ true
      → NewCase text p (panel_of q p.figs p.sets e) n g
  new-refused f told q e n g case same count goes =
      by_answer (Refused f) told (λ l. record { bytes = count; few = omega (arith, count, refusal-short f); panel = rw (case, same) refl; going = goes })

-- WHAT CAME IN from a file is no longer than its buffer
pub short-text : (own text : List ℕ) (came : ℕ) → own ≡ replicate 4097 0 → length text ≡ length own → came ≤ length text → length (take came text) ≤ suc most_bytes
short-text own text came blank same within =
    let l : length own ≡ 4097 = ap length blank ∙ length-replicate {A = ℕ} 4097 0 in
    omega (arith, length-take-le came text within, l, same, within)

-- A LINE that came: a change, with the file that it names
pub turned-change : (l text : List ℕ) (p q : Panel) (n : ℕ) (g : Bool) → length text ≤ suc most_bytes → NewCase text p q n g → is_change l ≡ true → Turned p q n g
turned-change l text p q n g short w is =
    heard (record { line = l; file = text; read = w.read; figs = w.figs; sets = w.sets })
    (λ e. record { short = short; reads = w.reads; answer = w.answer; solved = w.solved })
    (rw is (w.wrote l))

-- or none
pub turned-line : (l : List ℕ) (p q : Panel) (n : ℕ) (g : Bool) → is_change l ≡ false
    → Wrote (heard_at p.railway p.figs p.sets (line_said p.railway p.figs p.sets p.desk l)) q n g → Turned p q n g
turned-line l p q n g is w = heard (record { line = l; file = []; read = refused Form; figs = []; sets = [] }) (λ e. clash e is) (rw is w)
