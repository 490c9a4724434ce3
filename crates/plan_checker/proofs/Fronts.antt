-- The lines in front of a text: those taken so far and those from the place reached on make all that are taken. Assumes nothing.
use mathlib.Core.Path.{◌≡◌, refl, sym, ◌∙◌, ap, subst}
use mathlib.Core.List.{List, [], ◌∷◌}
use mathlib.Core.Option.{none, some}
use Prim.Native.Nat.{ℕ, ◌+◌, ◌≤◌}
use native.Mathlib.Omega.{arith}
use lib.ListN.{length, drop, drop_of_length-le}
use Rattle.railway.specs.declared.Railway.{Railway}
use Rattle.railway.specs.declared.Refusal.{Refusal}
use Rattle.railway.specs.CaseAnswer as tested
use Rattle.game_tables.specs.Tables.{case_refusal}
use Rattle.game_tables.proofs.Refusals.{case-none}
use Rattle.plan.specs.LineAnswer.{LineAnswer, Taken, Refused as LineRefused}
use Rattle.plan.specs.FrontAnswer.{FrontAnswer, Took, Refused}
use Rattle.plan.specs.Reading.{read_line}
use Rattle.plan.specs.Checker.{Checking, Left, left, take_line}
use Rattle.plan.specs.FirstLine.{line_bytes, first_of}
use Rattle.plan.specs.Several.{lines_of, Front, no_front, front_behind, front_of, front_number, take_front, FrontPost}
use Rattle.plan.proofs.FirstLine.{first-length}
use Rattle.plan.proofs.Emitter.{none-refused}
use Rattle.plan.proofs.Rules.{check-rule}
use Rattle.plan.proofs.Steps.{line-steps}
use Rattle.plan.proofs.Promises.{takes-so}
use Rattle.plan.specs.Promises.{LinePost}
use Rattle.railway_compiled.specs.Compilation.{Compilation}
use Rattle.railway_compiled.specs.Table.{Compiled}
use Rattle.game_case.specs.Cases.{CasePost}
use Rattle.game_case.proofs.Cases.{opened-refused, opened-none, opened-table}
use Rattle.plan_reader.specs.LineRead.{LineRead}
use Rattle.plan_reader.specs.Answers.{answer_for}
use Rattle.plan_checker.specs.Steps.{takes_read, CodeSmall, SomeTable, front_taken}
use Rattle.plan_checker.proofs.Lines.{LineAt}
use Rattle.plan_checker.proofs.Calling.{answer-takes, code-small}

-- A LINE in a case that is not refused
pub some-small : {table : List ℕ} (s : SomeTable table) (text : List ℕ) (line : LineRead)
    → ((r : Railway) → Compiled r table → line ≡ answer_for r (read_line r text)) → CodeSmall line
some-small s text line is = rw (is s.railway s.compiled) (code-small s.railway s.compiled.accepted text (read_line s.railway text) refl)

pub line-taken : (r : Railway) (c : Checking) (text : List ℕ) (line : LineRead) (w : Left LineAnswer) → case_refusal r c.figs c.sets ≡ none
    → line ≡ answer_for r (read_line r text) → w ≡ takes_read c c.state line → w ≡ take_line r c text
line-taken r c text line w fine is h = h ∙ ap (takes_read c c.state) is ∙ answer-takes r c c.state (read_line r text) ∙ sym (line-steps r c text fine)

-- the table of a case that is accepted
pub table-of : {r : Railway} {figs sets : List ℕ} {o : Compilation} → CasePost r figs sets o → o.tested ≡ tested.Accepted → SomeTable o.table
table-of {r} opened e = record { railway = r; compiled = opened-table opened e }

-- THE CALL FOR A LINE
pub line-so : (r : Railway) (c : Checking) (text : List ℕ) {o : Compilation} → CasePost r c.figs c.sets o → o.tested ≡ tested.Accepted → (w : Left LineAnswer)
    → ((r : Railway) → Compiled r o.table → case_refusal r c.figs c.sets ≡ none → w ≡ take_line r c text) → LinePost r c text w.answer w.checking
line-so r c text opened e w h = takes-so r c text w (h r (opened-table opened e) (opened-none opened e))

-- WHAT IS TAKEN so far, with c behind it, and what is left from a place on
pub record Fronting (r : Railway) (text : List ℕ) (whole : Front) (at : ℕ) (c : Checking) : Type 0 where
  pub fine : case_refusal r c.figs c.sets ≡ none
  pub same : front_behind at (front_of r (lines_of (drop at text)) c) ≡ whole

pub no_lines : lines_of [] ≡ []
unfolding lines_of
no_lines = refl

pub none_left : (r : Railway) (c : Checking) → front_of r [] c ≡ no_front c
unfolding front_of
none_left r c = refl

pub one-taken : (r : Railway) (l : List ℕ) (ls : List (List ℕ)) (c c' : Checking) → take_line r c l ≡ left Taken c' → front_of r (l ∷ ls) c ≡ front_behind (length l) (front_of r ls c')
unfolding front_of
one-taken r l ls c c' e = rw e refl

pub one-refused : (r : Railway) (l : List ℕ) (ls : List (List ℕ)) (c : Checking) (f : Refusal) → (take_line r c l).answer ≡ LineRefused f → front_of r (l ∷ ls) c ≡ no_front c
unfolding front_of
one-refused r l ls c f e = rw e refl

pub behind-twice : (n m : ℕ) (x : Front) → front_behind n (front_behind m x) ≡ front_behind (n + m) x
behind-twice n m x = let z : n + (m + x.bytes) ≡ (n + m) + x.bytes = omega arith in λ i. record { bytes = z i; checking = x.checking }

behind-none : (n : ℕ) (c : Checking) → front_behind n (no_front c) ≡ record { bytes = n; checking = c }
behind-none n c = let z : n + 0 ≡ n = omega arith in λ i. record { bytes = z i; checking = c }

pub zero-behind : (x : Front) → front_behind 0 x ≡ x
zero-behind x = let z : 0 + x.bytes ≡ x.bytes = omega arith in λ i. record { bytes = z i; checking = x.checking }

module _ (r : Railway) (text : List ℕ) where
  pub fronting-start : (c : Checking) → case_refusal r c.figs c.sets ≡ none → Fronting r text (front_of r (lines_of text) c) 0 c
  fronting-start c fine = record { fine = fine; same = zero-behind (front_of r (lines_of text) c) }

  module _ (whole : Front) (at : ℕ) (c : Checking) (f : Fronting r text whole at c) where
    -- no line is left
    pub fronting-over : length text ≤ at → left (Took at) c ≡ front_taken whole
    fronting-over past =
        let e : lines_of (drop at text) ≡ [] = ap lines_of (drop_of_length-le text past) ∙ no_lines in
        ap front_taken (sym (behind-none at c) ∙ ap (front_behind at) (sym (ap (λ (ls : List (List ℕ)). front_of r ls c) e ∙ none_left r c)) ∙ f.same)

    module _ (l : LineAt text at) (w : Left LineAnswer) (is : w ≡ take_line r c (first_of (drop at text))) where
      -- the place behind it
      abbrev behind : ℕ
      behind = at + line_bytes (drop at text)

      lines-here : front_of r (lines_of (drop at text)) c ≡ front_of r (first_of (drop at text) ∷ lines_of (drop behind text)) c
      lines-here = ap (λ (ls : List (List ℕ)). front_of r ls c) l.lines

      -- the next is refused
      pub fronting-stop : (g : Refusal) → w.answer ≡ LineRefused g → left (Took at) w.checking ≡ front_taken whole
      fronting-stop g e =
          let a : (take_line r c (first_of (drop at text))).answer ≡ LineRefused g = sym (ap (λ (x : Left LineAnswer). x.answer) is) ∙ e in
          let k : w.checking ≡ c = ap (λ (x : Left LineAnswer). x.checking) is ∙ (check-rule r c).line-leaves (first_of (drop at text)) g a in
          ap (left (Took at)) k
          ∙ ap front_taken (sym (behind-none at c) ∙ ap (front_behind at) (sym (lines-here ∙ one-refused r (first_of (drop at text)) (lines_of (drop behind text)) c g a)) ∙ f.same)

      -- it is taken
      fronting-behind : w.answer ≡ Taken → length w.checking.figs ≡ length c.figs → length w.checking.sets ≡ length c.sets → Fronting r text whole behind w.checking
      fronting-behind e long₁ long₂ =
          let t : take_line r c (first_of (drop at text)) ≡ left Taken w.checking = sym is ∙ (λ i. left (e i) w.checking) in
          let z : at + length (first_of (drop at text)) ≡ behind = ap (λ (m : ℕ). at + m) (first-length (drop at text)) in
          let k = (case-none r c.figs c.sets).0 f.fine in
          record {
            fine = none-refused r w.checking.figs w.checking.sets k.0 (rw long₁ k.1.figures) (rw long₂ k.1.settings);
            same = ap (λ (m : ℕ). front_behind m (front_of r (lines_of (drop behind text)) w.checking)) (sym z)
                ∙ sym (behind-twice at (length (first_of (drop at text))) (front_of r (lines_of (drop behind text)) w.checking))
                ∙ ap (front_behind at) (sym (lines-here ∙ one-taken r (first_of (drop at text)) (lines_of (drop behind text)) c w.checking t)) ∙ f.same;
          }

      pub fronting-next : (end : ℕ) → end ≡ behind → w.answer ≡ Taken → length w.checking.figs ≡ length c.figs
          → length w.checking.sets ≡ length c.sets → Fronting r text whole end w.checking
      fronting-next end here e long₁ long₂ = subst (λ (m : ℕ). Fronting r text whole m w.checking) (sym here) (fronting-behind e long₁ long₂)

-- THE CALL FOR SEVERAL
module _ (r : Railway) (c : Checking) (text : List ℕ) {o : Compilation} (opened : CasePost r c.figs c.sets o) where
  pub front-refused : (f : Refusal) → o.tested ≡ tested.Refused f → FrontPost r c text (Refused f) c
  unfolding take_front
  front-refused f e =
      let n : case_refusal r c.figs c.sets ≡ some f = opened-refused opened e in
      record { answer = rw n refl; numbered = rw n refl; checking = rw n refl }

  pub front-taken : (w : Left FrontAnswer) → o.tested ≡ tested.Accepted
      → ((r : Railway) → Compiled r o.table → case_refusal r c.figs c.sets ≡ none → w ≡ front_taken (front_of r (lines_of text) c)) → FrontPost r c text w.answer w.checking
  unfolding take_front
  front-taken w e h =
      let n : case_refusal r c.figs c.sets ≡ none = opened-none opened e in
      let is : w ≡ front_taken (front_of r (lines_of text) c) = h r (opened-table opened e) n in
      record {
        answer = rw n (ap (λ (x : Left FrontAnswer). x.answer) is);
        numbered = rw n (ap (λ (x : Left FrontAnswer). front_number x.answer) is);
        checking = rw n (ap (λ (x : Left FrontAnswer). x.checking) is);
      }
