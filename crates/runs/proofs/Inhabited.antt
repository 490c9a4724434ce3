-- There are answers as the statement takes them: in the yard of one section the table has 0 from it to itself, and says
-- of all else that there is no run. So the promise can be kept in an accepted record, for either heading and whatever
-- table was handed in. Assumes nothing.
use mathlib.Core.Path.{◌≡◌, refl, sym, ◌∙◌, ap, subst}
use mathlib.Core.Logic.{inl, inr}
use mathlib.Core.List.{List, []}
use mathlib.Core.Option.{Option, none}
use Prim.Native.Nat.{ℕ, ◌<◌}
use native.Mathlib.Omega.{arith}
use lib.ListN.{length, get_or, set, replicate, length-set, length-replicate, get_or-replicate}
use lib.Seq.{get_or-set_other}
use Rattle.laws.specs.Below.{any_below}
use Rattle.laws.proofs.Bools.{eq?}
use Rattle.railway.specs.declared.Side.{Side}
use Rattle.railway.specs.declared.Refusal.{Refusal}
use Rattle.railway.specs.CaseAnswer.{Accepted}
use Rattle.railway.specs.Bounds.{most_sections}
use Rattle.railway.specs.Ends.{end_at}
use Rattle.railway.specs.Refusals.{first, number_of}
use Rattle.railway.specs.Record.{is_closed, joined_by, joined, has_signal, legs_of, train_of, weight_of, with_join, with_signal, with_legs, with_train}
use Rattle.railway.specs.Rows.{weight_row, unknown_row, join_row, loose_row, longer, chain_row, place_row, record_refusal}
use Rattle.railway.specs.Yards.{yard_one}
use Rattle.game.proofs.Accepted.{facts}
use Rattle.runs.specs.Runs.{Run, here, no_run, IsRun, entry_at, RunTable, RunReply, table_in, TableLeft, RunPost}
use Rattle.runs.proofs.Says.{run-from, run-to}

-- THE TABLE: no run from anywhere, but in the first row 0
abbrev no_runs : List ℕ
no_runs = replicate most_sections no_run

abbrev rows : List (List ℕ)
rows = set (replicate most_sections no_runs) 0 (set no_runs 0 0)

abbrev pub one_answer : RunReply
one_answer = record { answer = Accepted; table = rows }

row_first : get_or (table_in one_answer) 0 [] ≡ set no_runs 0 0
row_first = refl

row_other : (x : ℕ) → x < most_sections → (x ≡ 0 → ⊥) → get_or (table_in one_answer) x [] ≡ no_runs
row_other x l other = get_or-set_other (replicate most_sections no_runs) 0 x (set no_runs 0 0) [] other ∙ get_or-replicate most_sections x no_runs [] l

none-at : (x y : ℕ) → x < most_sections → y < most_sections → (x ≡ 0 → y ≡ 0 → ⊥) → entry_at (table_in one_answer) x y ≡ no_run
none-at x y lx ly apart = elim (eq? x 0) [
  | inl e ↦ rw e (get_or-set_other no_runs 0 y 0 0 (apart e) ∙ get_or-replicate most_sections y no_run 0 ly)
  | inr e ↦ rw (row_other x lx e) (get_or-replicate most_sections y no_run 0 ly)
]

-- THE YARD is accepted, and has runs from its section to itself alone
pub one-accepted : record_refusal yard_one ≡ none
unfolding record_refusal first weight_row weight_of unknown_row join_row loose_row longer chain_row place_row end_at joined_by
    joined has_signal legs_of train_of with_join with_signal with_legs with_train any_below is_closed
one-accepted = refl

begins : {heading : Side} {x y n : ℕ} → Run yard_one heading x y n → x ≡ 0
unfolding with_train
begins run = let l = run-from run in omega (arith, l)

ends : {heading : Side} {x y n : ℕ} → Run yard_one heading x y n → y ≡ 0
unfolding with_train
ends run = let l = run-to (facts yard_one one-accepted) run in omega (arith, l)

stays-there : {heading : Side} → Run yard_one heading 0 0 0
unfolding with_train
stays-there = here (omega arith)

entry-there : (heading : Side) (v : ℕ) → v ≡ 0 → IsRun yard_one heading 0 0 v
entry-there heading v e = record {
  reached = λ d. rw e stays-there;
  least = λ n run. omega (arith, e);
  none-exactly = (λ z. absurd (omega (arith, z, e)), λ without. absurd (without 0 stays-there));
}

entry-none : (heading : Side) (x y v : ℕ) → v ≡ no_run → (x ≡ 0 → y ≡ 0 → ⊥) → IsRun yard_one heading x y v
entry-none heading x y v e apart = record {
  reached = λ d. absurd (d e);
  least = λ n run. absurd (apart (begins run) (ends run));
  none-exactly = (λ z n run. apart (begins run) (ends run), λ without. e);
}

entry : (heading : Side) (x y : ℕ) → x < most_sections → y < most_sections → IsRun yard_one heading x y (entry_at (table_in one_answer) x y)
entry heading x y lx ly = elim (eq? x 0) [
  | inl a ↦ elim (eq? y 0) [
    | inl b ↦ rw (a, b) (entry-there heading _ refl)
    | inr b ↦ entry-none heading x y _ (none-at x y lx ly (λ p q. b q)) (λ p q. b q)
  ]
  | inr a ↦ entry-none heading x y _ (none-at x y lx ly (λ p q. a p)) (λ p q. a p)
]

columns : (x : ℕ) → x < most_sections → length (get_or (table_in one_answer) x []) ≡ most_sections
columns x l = elim (eq? x 0) [ inl e ↦ rw e (length-set no_runs 0 0 ∙ length-replicate most_sections no_run) | inr e ↦ rw (row_other x l e) (length-replicate most_sections no_run) ]

one_table : (heading : Side) → RunTable yard_one heading (table_in one_answer)
one_table heading = record {
  square = record { rows = refl; columns = columns };
  entries = entry heading;
}

-- THE PROMISE is kept by that answer
pub one_kept : (heading : Side) (old : List (List ℕ)) → RunPost yard_one heading old one_answer
one_kept heading old = record {
  numbered = sym (ap number_of one-accepted);
  leaves = subst (λ (o : Option Refusal). TableLeft yard_one heading old (table_in one_answer) o) (sym one-accepted) (one_table heading);
}
