-- What the promises say, drawn upon: a session in Yard A by computation, with two lines among its lines that are
-- refused and one behind `home`, and one in which the desk goes over to another case and a file is refused; how many
-- bytes decide; ten bytes for an empty case; what is known of a file that a change names; and that a desk behind any
-- lines stands as Q-1 and Q-11 promise. Assumes nothing.
use mathlib.Core.Path.{◌≡◌, refl, ap, subst}
use mathlib.Core.Bool.{true}
use mathlib.Core.List.{List, [], ◌∷◌, Memᴰ}
use mathlib.Core.Option.{none, some}
use Prim.Native.Nat.{ℕ, ◌≤◌}
use Prim.Native.String.{String}
use lib.ListN.{length, take, length-replicate}
use native.Mathlib.Omega.{arith}
use Rattle.laws.specs.Below.{all_below, any_below, count_below, sum_below, list_below, gather_below}
use Rattle.laws.specs.Lists.{Every}
use Rattle.text.specs.Text.{digits, line, bytes}
use Rattle.text.specs.Reading.{is_digit, byte_at, digits_at, number_at}
use Rattle.railway.specs.declared.Railway.{Railway}
use Rattle.railway.specs.declared.Refusal.TheVariants.{Form}
use Rattle.railway.specs.Refusals.{number_given, first}
use Rattle.railway.specs.Ends.{end_at}
use Rattle.railway.specs.Record.{is_closed, joined_by, joined, has_signal, legs_of, train_of, weight_of, with_join, with_signal, with_closed, with_legs, with_train}
use Rattle.railway.specs.Passing.{follow, passes}
use Rattle.railway.specs.Rows.{weight_row, unknown_row, join_row, loose_row, longer, chain_row, place_row, record_refusal}
use Rattle.railway.specs.Yards.{yard_a}
use Rattle.case_file.specs.CaseRead.{CaseRead}
use Rattle.case_file.specs.Given.{accepted, refused, RefusedWith}
use Rattle.case_file.specs.Reading.{counted, while, header_at, walk, read, case_answer}
use Rattle.case_file.proofs.Given.{reader-answers}
use Rattle.game.specs.Placement.{code_of, sections_in, stands_on, names_none, placements, start_code, at_home, shared}
use Rattle.game.specs.Setting.{heads_for, held, free, signal_open, may_move}
use Rattle.game.specs.Moves.{occupied, game_of}
use Rattle.game.proofs.Figures.{figure-one}
use Rattle.game_tables.specs.Entries.{setting_at}
use Rattle.game_tables.specs.Tables.{figure_in, tables_short, case_refusal, Filled}
use Rattle.game_tables.specs.Solver.{figure_given, SolverTables, SolverPost}
use Rattle.game_tables.proofs.Refusals.{Enough, case-none}
use Rattle.game_tables.proofs.Certify.{certify}
use Rattle.game_tables.proofs.KnownYards.{figs_a, sets_a}
use Rattle.desk.specs.Desk.{Desk, misplaced, arrivals, miscarries, open_desk, give_setting, allows, report_row, report}
use Rattle.desk.specs.Change.{mismatch, stranded, change_to, Working, beginning_with, Beginning, AtWork}
use Rattle.desk.proofs.ChangeExamples.{shut}
use Rattle.desk.proofs.Change.{change-holds}
use Rattle.desk.proofs.ChangeUses.{yards}
use Rattle.desk_lines.specs.Reports.{report_at}
use Rattle.desk_lines.specs.Changes.{starts_with, is_change}
use Rattle.desk_lines.proofs.Reports.{cut-reads}
use Rattle.desk_lines.proofs.Changes.{cut-changes}
use Rattle.desk_text.specs.Said.{told_said, line_said}
use Rattle.desk_io.specs.Session.{Panel, panel_of, Input, answers, panel_behind, panel_text}
use Rattle.desk_io.specs.Followed.{blank, FileRead, Came, Ran, CaseFollowed, Followed}
use Rattle.desk_io.proofs.Followed.{cut-follows}
use Rattle.desk_io.proofs.Calls.{by-calls}

-- a line, and one that names a file which is read so
abbrev typed : String → Input
typed s = record { line = bytes s; file = []; read = refused Form; figs = []; sets = [] }

abbrev named : String → CaseRead → Input
named s a = record { line = bytes s; file = []; read = a; figs = figs_a; sets = sets_a }

-- YARD A: train 1 has no open signal yet; train 2 goes to 1; a line that is none; train 1 goes to 3, which is home; the last line is not read
session : panel_text yard_a figs_a sets_a (typed "1\t3" ∷ typed "2\t1" ∷ typed "hello" ∷ typed "1\t3" ∷ typed "2\t2" ∷ [])
    ≡ bytes "train 1 at 2 | train 2 at 3 | 2 left | points +\nrefused\t12\ntrain 1 at 2 open | train 2 at 1 | 1 left | points -\nrefused\t12\nhome\n"
unfolding bytes digits line gather_below answers starts_with is_change report_at number_at digits_at byte_at is_digit open_desk
    give_setting report report_row allows misplaced arrivals miscarries count_below tables_short first weight_row weight_of
    unknown_row join_row loose_row chain_row longer place_row end_at joined_by joined has_signal legs_of train_of with_join
    with_signal with_legs with_train all_below any_below sum_below list_below sections_in stands_on code_of start_code names_none
    at_home shared heads_for may_move free held signal_open passes follow occupied is_closed setting_at
session = refl

-- train 2 goes to 1; a file that is out of form; the case with section 2 closed, where train 1 stands; it leaves the section, and the trains are home
goes_over : panel_text yard_a figs_a sets_a (typed "2\t1" ∷ named "change\tnone.txt" (refused Form) ∷ named "change\tnew.txt" (accepted shut) ∷ typed "1\t3" ∷ [])
    ≡ bytes "train 1 at 2 | train 2 at 3 | 2 left | points +\ntrain 1 at 2 open | train 2 at 1 | 1 left | points -\nrefused\t2\ntrain 1 at 2 open | train 2 at 1 | 1 left | points -\nhome\n"
unfolding bytes digits line gather_below answers starts_with is_change record_refusal mismatch stranded change_to report_at
    number_at digits_at byte_at is_digit open_desk give_setting report report_row allows misplaced arrivals miscarries
    count_below tables_short first weight_row weight_of unknown_row join_row loose_row chain_row longer place_row end_at joined_by
    joined has_signal legs_of train_of with_join with_signal with_closed with_legs with_train all_below any_below sum_below
    list_below sections_in stands_on code_of start_code names_none at_home shared heads_for may_move free held signal_open passes
    follow occupied is_closed setting_at
goes_over = refl

-- and the case on the panel is then that one
there-then : (panel_behind (panel_of yard_a figs_a sets_a (open_desk yard_a figs_a sets_a).desk) (typed "2\t1" ∷ named "change\tnew.txt" (accepted shut) ∷ [])).railway ≡ shut
unfolding bytes panel_behind starts_with is_change record_refusal mismatch stranded change_to report_at number_at digits_at
    byte_at is_digit open_desk give_setting report report_row allows misplaced arrivals miscarries count_below tables_short
    first weight_row weight_of unknown_row join_row loose_row chain_row longer place_row end_at joined_by joined has_signal legs_of
    train_of with_join with_signal with_closed with_legs with_train all_below any_below sum_below list_below sections_in stands_on
    code_of start_code names_none at_home shared heads_for may_move free held signal_open passes follow
    occupied is_closed setting_at
there-then = refl

-- 65 BYTES of a line are as good as the line, and 4,097 of a case as the case
line-cut : (r : Railway) (figs sets : List ℕ) (d : Desk) (l : List ℕ) → (line_said r figs sets d (take 65 l) ≡ line_said r figs sets d l) × (is_change (take 65 l) ≡ is_change l)
line-cut r figs sets d l = (ap (told_said r figs sets d) (cut-reads l 65 (omega arith)), cut-changes l)

case-cut : (case : List ℕ) (n : ℕ) → CaseFollowed (take 4097 case) n → CaseFollowed case n
case-cut case n = cut-follows case n 4097 (omega arith)

-- NO CASE
empty-case : RefusedWith [] Form
unfolding first is_digit byte_at digits_at number_at counted while header_at walk read case_answer
empty-case = (((reader-answers [] (case_answer [])).0 refl).numbered Form).0 refl

ten-written : (n : ℕ) (f : Followed n) → f.case ≡ [] → (n ≡ 10) × (length f.case ≤ 4097)
unfolding bytes line digits
ten-written n f e = ((rw e at f.followed).refused Form empty-case, f.short)

-- A FILE that is named among the lines: of an empty one the reader says 2, and of a text no more than 4,097 bytes are taken
module _ (r : Railway) (figs sets : List ℕ) (n : ℕ) (ran : Ran r figs sets n) (x : Input) (there : Memᴰ x ran.inputs) (is : is_change x.line ≡ true) where
  file-read : FileRead x
  file-read = ran.came x there is

  of-form : x.file ≡ [] → number_given x.read.answer ≡ some 2
  of-form e = (file-read.reads.numbered Form).1 (rw e empty-case)

  few_bytes : length x.file ≤ 4097
  few_bytes = file-read.short

  -- of the case with section 2 closed the tables have 2 at code 7, as Yard A's do
  nine-placements : placements shut ≡ 9
  unfolding with_join with_signal with_closed with_legs with_train
  nine-placements = refl

  tables-there : x.read.railway ≡ shut → figure_in x.figs 7 ≡ some 2
  tables-there e =
      let acc : record_refusal shut ≡ none = yards.shut-accepted in
      let long : length blank ≡ 8192 = length-replicate {A = ℕ} 8192 0 in
      let enough : Enough shut blank blank = record { figures = omega (arith, nine-placements, long); settings = omega (arith, nine-placements, long) } in
      let ok : case_refusal shut blank blank ≡ none = (case-none shut blank blank).1 (acc, enough) in
      let post : SolverPost shut file-read.answer blank blank x.figs x.sets =
      subst (λ (s : Railway). SolverPost s file-read.answer blank blank x.figs x.sets) e file-read.solved in
      let t : SolverTables shut blank blank x.figs x.sets × (figure_given file-read.answer ≡ figure_in x.figs (start_code shut)) = rw ok at post.leaves in
      let known : Filled shut figs_a sets_a = certify shut acc figs_a sets_a yards.shut-passes in
      figure-one (game_of shut) 7 (figure_in x.figs 7) (some 2) (t.0.filled.figures 7 (omega (arith, nine-placements))) (known.figures 7 (omega (arith, nine-placements)))

-- BEHIND ANY LINES, with the files that they name, the desk stands as Q-11 promises, from a beginning that it promises this of: as an opening is, with the solver's tables
stands : (r : Railway) (figs sets : List ℕ) (d : Desk) (xs : List Input) → Every Came xs → Beginning (beginning_with r figs sets d)
    → (w : Working) × AtWork w × (w.desk ≡ (panel_behind (panel_of r figs sets d) xs).desk)
stands r figs sets d xs came b =
    let p = by-calls r figs sets d xs came in
    (p.0, change-holds.works (beginning_with r figs sets d) p.0 b p.1, ap (λ (q : Panel). q.desk) p.2)
