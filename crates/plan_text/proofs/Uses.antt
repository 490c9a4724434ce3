-- What is written for texts that are written out: the plan of Yard A, `none` without its signal at 1d, the refusals of a text out of form, of one that is
-- too long and of a yard with too many placements; and what stands in a buffer that Yard A's plan is put into, with room for it and without. Assumes nothing.
use mathlib.Core.Path.{◌≡◌, refl, sym, ◌∙◌, ap, subst}
use mathlib.Core.List.{List, [], ◌∷◌, ◌++◌}
use mathlib.Core.Option.{Option, none, some}
use Prim.Native.Nat.{ℕ, suc, ◌<◌, ◌≤◌}
use Prim.Native.String.{String}
use native.Mathlib.Omega.{arith}
use lib.ListN.{length, take, replicate, length-replicate}
use borrow.Author.Tests.{lt-ltb}
use Rattle.laws.specs.Below.{sum_below, list_below}
use Rattle.laws.proofs.Bools.{some-none, some_one}
use Rattle.laws.proofs.Lists.{every-none}
use Rattle.text.specs.Text.{digits, line, bytes}
use Rattle.text.specs.Reading.{is_digit, byte_at, digits_at, number_at}
use Rattle.railway.specs.declared.Railway.{Railway}
use Rattle.railway.specs.declared.Refusal.TheVariants.{Length, Form, Space}
use Rattle.railway.specs.Refusals.{number_of, first}
use Rattle.railway.proofs.Refusals.{number-one}
use Rattle.railway.specs.Record.{train_of, with_join, with_signal, with_legs, with_train}
use Rattle.railway.specs.Rows.{record_refusal}
use Rattle.railway.specs.Yards.{yard_a, up_two_one}
use Rattle.game_tables.specs.KnownYards.{started, Holds, plan_a}
use Rattle.case_file.specs.Written.{Written, Bytes, Refused}
use Rattle.case_file.specs.Rows.{most_bytes}
use Rattle.case_file.specs.Given.{refused, AcceptedWith}
use Rattle.case_file.specs.Reading.{header_at, walk, read, case_answer}
use Rattle.case_file.specs.YardTexts.{yard_texts}
use Rattle.case_file.proofs.Given.{refused-exactly}
use Rattle.case_file.proofs.YardTexts.{yards-accepted}
use Rattle.game.specs.Game.{IsFigure}
use Rattle.game.specs.Placement.{code_of, placements, start_code}
use Rattle.game.specs.Moves.{game_of}
use Rattle.game.proofs.Accepted.{facts}
use Rattle.game.proofs.Figures.{figure-one}
use Rattle.game.proofs.Moves.{start-below}
use Rattle.game_tables.specs.SolverAnswer.{SolverAnswer}
use Rattle.game_tables.specs.SolverAnswer as solver
use Rattle.game_tables.specs.Lengths.{entries}
use Rattle.game_tables.specs.Tables.{figure_in, tables_short, case_refusal}
use Rattle.game_tables.specs.Solver.{number_given, figure_given, SolverLeaves}
use Rattle.game_tables.proofs.Refusals.{case-accepted}
use Rattle.plan.specs.Text.{plan_text}
use Rattle.plan.proofs.Emitter.{none-refused}
use Rattle.plan.proofs.Outputs.{known-yards}
use Rattle.answer_lines.specs.Lines.{refusal_line, none_line, Puts}
use Rattle.answer_lines.proofs.Puts.{put-fits, put-short}
use Rattle.plan_text.specs.Written.{output_text, blank, RailwayOutput, CaseOutput, text_bytes}
use Rattle.plan_text.proofs.Written.{cut-writes}

-- THE TEXT by what the answer gives
plan-text : (r : Railway) (a : SolverAnswer) (n : ℕ) (figs sets : List ℕ) → figure_given a ≡ some n → output_text r a figs sets ≡ plan_text r figs sets
plan-text r (solver.Refused f) n figs sets e = some-none e refl
plan-text r solver.Unsolvable n figs sets e = some-none e refl
plan-text r (solver.Figure m) n figs sets e = refl

none-text : (r : Railway) (a : SolverAnswer) (figs sets : List ℕ) → number_given a ≡ none → figure_given a ≡ none → output_text r a figs sets ≡ none_line
none-text r (solver.Refused f) figs sets e h = some-none refl e
none-text r solver.Unsolvable figs sets e h = refl
none-text r (solver.Figure n) figs sets e h = some-none refl h

space-text : (r : Railway) (a : SolverAnswer) (figs sets : List ℕ) → number_given a ≡ some 9 → output_text r a figs sets ≡ bytes "refused\t9\n"
unfolding bytes line digits
space-text r (solver.Refused f) figs sets e = ap refusal_line (number-one f Space (some_one e))
space-text r solver.Unsolvable figs sets e = some-none e refl
space-text r (solver.Figure n) figs sets e = some-none e refl

-- A RAILWAY with more placements than entries is refused for want of space
module _ (r : Railway) (ok : record_refusal r ≡ none) (many : entries < placements r) where
  no_room : case_refusal r blank blank ≡ some Space
  unfolding tables_short
  no_room = case-accepted r blank blank ok ∙ rw (lt-ltb (length blank) (placements r) (omega (arith, many, length-replicate {A = ℕ} entries 0)))

  space-written : (text : List ℕ) → RailwayOutput r text → text ≡ bytes "refused\t9\n"
  space-written text o = o.written ∙ space-text r o.answer o.figs o.sets (o.solved.numbered ∙ ap number_of no_room)

-- A RAILWAY with no more placements than entries: the solver fills the tables, and its answer has the start's figure
module _ (r : Railway) (ok : record_refusal r ≡ none) (few : placements r ≤ entries) {text : List ℕ} (o : RailwayOutput r text) where
  fine : case_refusal r blank blank ≡ none
  fine = let room : placements r ≤ length blank = omega (arith, few, length-replicate {A = ℕ} entries 0) in none-refused r blank blank ok room room

  leaves : SolverLeaves r o.answer blank blank o.figs o.sets none
  leaves = subst (SolverLeaves r o.answer blank blank o.figs o.sets) fine o.solved.leaves

  starts : (f : Option ℕ) → IsFigure (game_of r) (start_code r) f → figure_given o.answer ≡ f
  starts f known = leaves.1 ∙ figure-one (game_of r) (start_code r) (figure_in o.figs (start_code r)) f (leaves.0.filled.figures (start_code r) (start-below r (facts r ok))) known

  plan-written : (n : ℕ) → IsFigure (game_of r) (start_code r) (some n) → text ≡ plan_text r o.figs o.sets
  plan-written n known = o.written ∙ plan-text r o.answer n o.figs o.sets (starts (some n) known)

  none_written : IsFigure (game_of r) (start_code r) none → text ≡ none_line
  none_written known = o.written ∙ none-text r o.answer o.figs o.sets (o.solved.numbered ∙ ap number_of fine) (starts none known)

-- THE YARDS and their texts
abbrev case_a : String
case_a = "H\t3\t1\t2\nP\t1\td\nJ\t1u\t1+\nJ\t2u\t1-\nJ\t3d\t1s\nG\t1d\nG\t2u\nT\t1\tu\t2\t3\nT\t2\td\t3\t1\n"

abbrev case_without : String
case_without = "H\t2\t0\t1\nJ\t1u\t2d\nT\t1\tu\t2\t1\n"

read-so : AcceptedWith (bytes case_a) yard_a × AcceptedWith (bytes case_without) up_two_one
unfolding yard_texts
read-so = (yards-accepted.0, yards-accepted.1.1.1.1.1.0)

nine : (placements yard_a ≡ 9) × (placements up_two_one ≡ 2)
unfolding with_join with_signal with_legs with_train
nine = (refl, refl)

start-known : IsFigure (game_of yard_a) (start_code yard_a) (some 2)
unfolding start_code code_of sum_below list_below train_of with_join with_signal with_legs with_train
start-known = known-yards.figures.0.figure

without : Holds (started up_two_one (2 ∷ []) none)
without = known-yards.figures.1.1.1.1.1.1.1.1.1.1.0

start_none : IsFigure (game_of up_two_one) (start_code up_two_one) none
start_none = subst (λ (p : ℕ). IsFigure (game_of up_two_one) p none) (sym (without.start refl)) without.figure

-- WHAT IS WRITTEN for them
yard_a-written : (text : List ℕ) → CaseOutput (bytes case_a) text → text ≡ bytes "plan\t2\n2\t1\t1\t1\t-\n3\t1\t0\t0\t-\n2\t3\t2\t0\t+\n"
yard_a-written text c =
    let accepted = known-yards.figures.0.accepted in
    let o = c.accepted yard_a read-so.0 in
    let few : placements yard_a ≤ entries = omega (arith, nine.0) in
    plan-written yard_a accepted few o 2 start-known ∙ known-yards.texts.0 o.figs o.sets (leaves yard_a accepted few o).0.filled

none-for : (text : List ℕ) → CaseOutput (bytes case_without) text → text ≡ bytes "none\n"
unfolding bytes line
none-for text c = none_written up_two_one without.accepted (omega (arith, nine.1)) (c.accepted up_two_one read-so.1) start_none

-- a line without its fields
out-of-form : case_answer (bytes "H\n") ≡ refused Form
unfolding bytes first is_digit byte_at digits_at number_at header_at walk read case_answer
out-of-form = refl

form-written : (text : List ℕ) → CaseOutput (bytes "H\n") text → text ≡ bytes "refused\t2\n"
unfolding bytes line digits
form-written text c = c.refused Form ((refused-exactly (bytes "H\n") Form).0 out-of-form)

-- one byte too many, and anything behind it, of which that one byte is read
long-written : (case text : List ℕ) → most_bytes < length case → CaseOutput (take (suc most_bytes) case) text → text ≡ bytes "refused\t1\n"
unfolding bytes line digits
long-written case text h c =
    let o = cut-writes case text (suc most_bytes) (omega arith) c in
    o.refused Length (record { before = []; after = _; order = refl; here = h; not-before = every-none _ })

-- INTO A BUFFER: the plan of Yard A has 37 bytes
module _ (w : Written) (new : List ℕ) where
  fits : Puts (CaseOutput (bytes case_a)) text_bytes (replicate 40 7) w new → (w ≡ Bytes 37) × (new ≡ bytes plan_a ++ (7 ∷ 7 ∷ 7 ∷ []))
  unfolding bytes
  fits p = let e = yard_a-written p.text p.output in let q = rw e at p.put in put-fits _ _ q (omega arith)

  short : Puts (CaseOutput (bytes case_a)) text_bytes (replicate 10 7) w new → (w ≡ Refused Space) × (new ≡ replicate 10 7)
  unfolding bytes
  short p = let e = yard_a-written p.text p.output in let q = rw e at p.put in put-short _ _ q (omega arith)
