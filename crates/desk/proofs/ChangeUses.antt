-- The statement on changes of case at work between Yard A with weights, 5 and 2, and Yard A with section 2 closed, whose figures are 0 at (3, 1), 1 at (2, 1) and 2 at (2, 3),
-- codes 2, 1 and 7: from each of its parts a number, a count, a placement or an answer is drawn, so that a part that were taken away, or that said nothing, would be missed.
-- Texts, tables, desks and replies are any of which it holds. Assumes nothing.
use mathlib.Core.Path.{◌≡◌, refl, sym, ◌∙◌, ap}
use mathlib.Core.Logic.{inl, inr}
use mathlib.Core.Bool.{true, false}
use mathlib.Core.List.{List, [], ◌++◌, Memᴰ}
use mathlib.Core.Option.{none, some}
use Prim.Native.Nat.{ℕ, ◌≤◌, ◌<◌}
use native.Mathlib.Omega.{arith}
use lib.ListN.{length}
use Rattle.laws.specs.Below.{all_below, any_below, count_below, sum_below, list_below, lowest}
use Rattle.laws.specs.Bits.{from_bits}
use Rattle.laws.specs.Lists.{any, repeats}
use Rattle.laws.proofs.Bools.{eq?, some-none, some_one}
use Rattle.text.specs.Text.{digits, line, bytes}
use Rattle.text.specs.Reading.{is_digit, byte_at, digits_at, number_at}
use Rattle.railway.specs.declared.Side.TheVariants.{Up, Down}
use Rattle.railway.specs.declared.Railway.{Railway}
use Rattle.railway.specs.declared.Refusal.{Refusal}
use Rattle.railway.specs.declared.Refusal.TheVariants.{Form, Unknown, Join, Place, Stranded}
use Rattle.railway.specs.Bounds.{most_trains}
use Rattle.railway.specs.Ends.{end_at}
use Rattle.railway.specs.Refusals.{rank, row, first}
use Rattle.railway.specs.Record.{is_closed, joined_by, joined, has_signal, legs_of, train_of, weight_of, with_join, with_signal, with_closed, with_legs, with_train}
use Rattle.railway.specs.Passing.{follow, passes, entered}
use Rattle.railway.specs.Rows.{weight_row, unknown_row, join_row, loose_row, longer, chain_row, place_row, record_rows, record_refusal}
use Rattle.railway.specs.Yards.{yard_a, line_t}
use Rattle.case_file.specs.Rows.{join_ends}
use Rattle.case_file.specs.Rows as D
use Rattle.case_file.specs.Recording.{partner, railway_of}
use Rattle.case_file.specs.Given.{accepted, Applies, case_table, RefusedWith, AcceptedWith}
use Rattle.case_file.specs.Reading.{counted, while, side_field_at, leg_field_at, end_field_at, header_at, point_line_at}
use Rattle.case_file.specs.Reading.{join_line_at, signal_line_at, closed_line_at, weight_field_at, train_line_at, walk, read}
use Rattle.case_file.specs.Reading.{case_answer}
use Rattle.case_file.proofs.Given.{accepted-one, accepted-exactly}
use Rattle.game.specs.Local.{keeps_test}
use Rattle.game.specs.Placement.{code_of, sections_in, stands_on, names_none, placements, at_home, shared}
use Rattle.game.specs.Setting.{heads_for, held, free, signal_open, may_move}
use Rattle.game.specs.Moves.{occupied, move_of}
use Rattle.game_tables.specs.Entries.{setting_at, entry_from}
use Rattle.game_tables.specs.Tables.{figure_in, tables_short}
use Rattle.game_tables.specs.Find.{try_open, first_found, find}
use Rattle.game_tables.proofs.Examples.{weighed, figs_w, sets_w}
use Rattle.game_tables.proofs.Certify.{certified, certify}
use Rattle.game_tables.proofs.KnownYards.{figs_a, sets_a}
use Rattle.game_tables.proofs.WeighedYards.{weighed-accepted, weighed-filled}
use Rattle.desk.specs.OpenAnswer.{Opened}
use Rattle.desk.specs.ReportAnswer.{ReportAnswer, Counted, Refused as ReportRefused}
use Rattle.desk.specs.ChangeAnswer.{Changed, Refused}
use Rattle.desk.specs.Desk.{Desk, desk_code, misplaced, arrivals, miscarries, desk_row, allows, report_row, Reply, report, Opening, OpenPost, ReportPost}
use Rattle.desk.specs.Following.{moved_by, total, Followable}
use Rattle.desk.specs.Change.{mismatch, stranded, change_rows, Changing, change_to, number_changed, ChangePost}
use Rattle.desk.specs.Change.{row_rank, AppliesToEither, SameShape, CanChange, SameButStarts, Working, working_on}
use Rattle.desk.specs.Change.{Works, started, reports, changes, report-refused, change-refused, Beginning, AtWork}
use Rattle.desk.specs.Change.{ChangeHolds}
use Rattle.desk.proofs.Examples.{on_in, on}
use Rattle.desk.proofs.ChangeExamples.{shut, stay, wrong}
use Rattle.desk.proofs.Sooner.{rises-least, none-lower, table-rises, rows-rise}
use Rattle.desk.proofs.Following.{filled-followable}
use Rattle.desk.proofs.Inhabited.{report-made}
use Rattle.desk.proofs.ChangeRows.{refused-number}
use Rattle.desk.proofs.Change.{change-holds}
use Rattle.desk.proofs.ChangeInhabited.{read_made}

-- What is computed of the yards: 5 judges the wrong record, Yard A's tables are also those with section 2 closed, and 12 does not stop the desks at (2, 3) and (1, 3).
pub record Yards : Type 0 where
  pub five : record_refusal wrong ≡ some Join
  pub joins : join_row wrong ≡ true
  pub shut-accepted : record_refusal shut ≡ none
  pub shut-passes : certified shut figs_a sets_a ≡ true
  pub sound : desk_row weighed (on 2 3) ≡ false
  pub sound-elsewhere : desk_row weighed (on 1 3) ≡ false

pub yards : Yards
unfolding record_refusal first weight_row weight_of unknown_row join_row loose_row chain_row longer place_row end_at joined_by
    joined has_signal legs_of train_of with_join with_signal with_closed with_legs with_train all_below any_below sum_below lowest
    from_bits certified keeps_test sections_in stands_on code_of at_home shared heads_for may_move free held signal_open passes
    follow occupied move_of entered is_closed setting_at entry_from try_open first_found find misplaced miscarries arrivals
    count_below names_none list_below
yards = record { five = refl; joins = refl; shut-accepted = refl; shut-passes = refl; sound = refl; sound-elsewhere = refl }

pub shut-follows : Followable shut figs_a sets_a
shut-follows = filled-followable shut yards.shut-accepted figs_a sets_a (certify shut yards.shut-accepted figs_a sets_a yards.shut-passes)

-- THE PROMISE. A text that is not of form: 2, and the desk as it was; with an old record that 5 judges, of a text with 8 it is 5, and of one with 4 it is 4.
module _ (text figs sets : List ℕ) (d : Desk) (y : Changing) where
  two : RefusedWith text Form → ChangePost weighed text d figs sets y → (number_changed y.answer ≡ some 2) × (y.desk ≡ d)
  two w post = rw weighed-accepted at (post.not-read Form w)

  five-of-both : RefusedWith text Place → ChangePost wrong text d figs sets y → (number_changed y.answer ≡ some 5) × (y.desk ≡ d)
  five-of-both w post = rw yards.five at (post.not-read Place w)

  four-of-both : RefusedWith text Unknown → ChangePost wrong text d figs sets y → (number_changed y.answer ≡ some 4) × (y.desk ≡ d)
  four-of-both w post = rw yards.five at (post.not-read Unknown w)

-- to the case with section 2 closed: from (2, 3) the change is made; from (1, 3), which has no figure there, 15, and the desk as it was
module _ (text : List ℕ) (y : Changing) where
  goes_over : AcceptedWith text shut → ChangePost weighed text (on 2 3) figs_a sets_a y → y ≡ record { answer = Changed; desk = on_in shut 2 3 }
  unfolding change_to mismatch stranded misplaced miscarries arrivals count_below names_none shared stands_on sections_in
      code_of list_below sum_below tables_short first weight_row weight_of unknown_row join_row loose_row chain_row longer
      place_row end_at joined_by joined has_signal legs_of train_of with_join with_signal with_closed with_legs
      with_train any_below is_closed
  goes_over a post = post.read shut a

  fifteen : AcceptedWith text shut → ChangePost weighed text (on 1 3) figs_a sets_a y → y ≡ record { answer = Refused Stranded; desk = on 1 3 }
  unfolding change_to mismatch stranded misplaced miscarries arrivals count_below names_none shared stands_on sections_in
      code_of list_below sum_below tables_short first weight_row weight_of unknown_row join_row loose_row chain_row longer
      place_row end_at joined_by joined has_signal legs_of train_of with_join with_signal with_closed with_legs
      with_train any_below is_closed
  fifteen a post = post.read shut a

-- A SHAPE that agrees with Yard A's: three sections, two trains, of which train 2 heads down
module _ (s : Railway) (x : SameShape weighed s) where
  three-sections : s.sections ≡ 3
  unfolding with_join with_signal with_legs with_train
  three-sections = sym x.sections

  two-trains : s.trains ≡ 2
  unfolding with_join with_signal with_legs with_train
  two-trains = sym x.trains

  pub heads-down : (train_of s 1).heading ≡ Down
  unfolding train_of with_join with_signal with_legs with_train
  heads-down = sym (x.headings 1 (omega arith))

  -- so the codes are Yard A's
  pub code-six : desk_code s (on 1 3) ≡ 6
  unfolding code_of list_below sum_below
  code-six = rw (three-sections, two-trains) refl

  pub nine : placements s ≡ 9
  nine = rw (three-sections, two-trains) refl

-- A CHANGE THAT CAN BE MADE from there: the new case has three sections, each table nine entries, and where the figure table has none at 6 the desk is not at (1, 3)
module _ (text figs sets : List ℕ) (d : Desk) (c : CanChange weighed text d figs sets) where
  has-three : c.railway.sections ≡ 3
  has-three = three-sections c.railway c.shape

  nine-figures : 9 ≤ length figs
  nine-figures = omega (arith, nine c.railway c.shape, c.figures)

  nine-settings : 9 ≤ length sets
  nine-settings = omega (arith, nine c.railway c.shape, c.settings)

  not-at-six : d ≡ on 1 3 → figure_in figs 6 ≡ none → ⊥
  not-at-six e n = some-none c.has (ap (λ (z : Desk). figure_in figs (desk_code c.railway z)) e ∙ ap (figure_in figs) (code-six c.railway c.shape) ∙ n)

  -- and it is the case that the text says
  is-shut : AcceptedWith text shut → is_closed c.railway 1 ≡ true
  unfolding is_closed with_join with_signal with_closed with_legs with_train
  is-shut a = let e : c.railway ≡ shut = accepted-one text c.railway shut ((accepted-exactly text c.railway).1 c.read) ((accepted-exactly text shut).1 a) in rw e refl

-- AT WORK with the closed section: begun at (2, 3) the figure is 2, no more than two reports count, and (1, 3) is no placement to begin at
module _ (b e : Desk) (ts : List ℕ) (x : AtWork (working_on shut figs_a sets_a b ts e)) where
  begun-elsewhere : desk_code shut b ≡ 6 → ⊥
  begun-elsewhere c = some-none x.has (ap (figure_in figs_a) c)

  is-two : desk_code shut b ≡ 7 → x.figure ≡ 2
  is-two c = some_one (sym x.has ∙ ap (figure_in figs_a) c)

  two-count : desk_code shut b ≡ 7 → length ts ≤ 2
  two-count c = omega (arith, is-two c, x.after.at-most)

-- both trains
pub of_two : (P : ℕ → Type 0) → P 0 → P 1 → (t : ℕ) → t < 2 → P t
of_two P a b t l = elim (eq? t 0) [ inl e ↦ rw e a | inr n ↦ (let e : t ≡ 1 = omega (arith, l, n) in rw e b) ]

-- rows and where they stand: 5 and 2 in the table; 5 among those of the record to which it applies, and 2 among those of none
join-there : Memᴰ Join case_table
join-there = Memᴰ.tail (Memᴰ.tail (Memᴰ.tail (Memᴰ.tail (Memᴰ.tail (Memᴰ.head refl)))))

form-there : Memᴰ Form case_table
form-there = Memᴰ.tail (Memᴰ.head refl)

five-there : (r : Railway) → join_row r ≡ true → Memᴰ (row Join true) (record_rows r)
five-there r e = Memᴰ.tail (Memᴰ.tail (Memᴰ.tail (Memᴰ.head (ap (row Join) (sym e)))))

form-nowhere : (r : Railway) → Memᴰ (row Form true) (record_rows r) → ⊥
form-nowhere r m = omega (arith, rises-least row_rank 2 (record_rows r) (row Form true) (rows-rise r) m)

-- THE STATEMENT
module _ (says : ChangeHolds) where
  -- exactly: from (2, 3) to the case with section 2 closed the change is made; from (1, 3) it is not
  module _ (text : List ℕ) (a : AcceptedWith text shut) (y : Changing) where
    is_made : ChangePost weighed text (on 2 3) figs_a sets_a y → y.answer ≡ Changed
    unfolding code_of list_below sum_below train_of with_join with_signal with_closed with_legs with_train
    is_made post =
        let shape : SameShape weighed shut = record { sections = refl; trains = refl; headings = of_two (λ t. (train_of weighed t).heading ≡ (train_of shut t).heading) refl refl } in
        (says.exactly weighed (on 2 3) weighed-accepted yards.sound text figs_a sets_a y post).1
        (record { railway = shut; read = a; shape = shape; figures = omega arith; settings = omega arith; figure = 2; has = refl })

    is-not : ChangePost weighed text (on 1 3) figs_a sets_a y → y.answer ≡ Changed → ⊥
    is-not post e = not-at-six text figs_a sets_a (on 1 3) ((says.exactly weighed (on 1 3) weighed-accepted yards.sound-elsewhere text figs_a sets_a y post).0 e) refl refl

  -- what the desk carries behind a change to the case with another destination: code 7, and one train where it is bound for; the trains stand where they stood
  module _ (text figs sets : List ℕ) (a : AcceptedWith text stay) (y : Changing) (post : ChangePost weighed text (on 2 3) figs sets y) (e : y.answer ≡ Changed) where
    stand-there : y.desk.at ≡ (on 2 3).at
    stand-there = (says.carries weighed stay text (on 2 3) figs sets y a post e).0

    code-seven : y.desk.code ≡ 7
    unfolding code_of list_below sum_below with_join with_signal with_legs with_train
    code-seven = (says.carries weighed stay text (on 2 3) figs sets y a post e).1.code ∙ (rw stand-there refl)

    one-there : y.desk.arrived ≡ 1
    unfolding arrivals count_below stands_on sections_in code_of list_below sum_below train_of with_join with_signal with_legs with_train
    one-there = (says.carries weighed stay text (on 2 3) figs sets y a post e).1.arrived ∙ (rw stand-there refl)

  -- a change that is refused leaves the count, whatever it was asked with
  none-there : (r : Railway) (text figs sets : List ℕ) (y : Changing) (f : Refusal) → ChangePost r text (on 2 3) figs sets y → y.answer ≡ Refused f → y.desk.arrived ≡ 0
  unfolding arrivals count_below stands_on sections_in code_of list_below sum_below train_of with_join with_signal with_legs with_train
  none-there r text figs sets y f post e = ap (λ (d : Desk). d.arrived) (says.stays r text (on 2 3) figs sets y f post e)

  -- of the old record's 5 and the text's 8 it is not 8; of a text with 8 alone it is not 2
  module _ (text figs sets : List ℕ) (d : Desk) (y : Changing) (w : RefusedWith text Place) where
    not_eight : ChangePost wrong text d figs sets y → y.answer ≡ Refused Place → ⊥
    not_eight post e =
        let b = says.first-of-both wrong text d figs sets y post Place w in
        let q : b.0 ≡ Place = sym (refused-number y.answer Place b.0 (ap number_changed b.1) e) in
        none-lower rank (AppliesToEither wrong text) 0 case_table Place Join says.text-order (rw q at b.2) join-there (omega arith) (inl (five-there wrong yards.joins))

    not-two : ChangePost weighed text d figs sets y → y.answer ≡ Refused Form → ⊥
    not-two post e =
        let b = says.first-of-both weighed text d figs sets y post Place w in
        let q : b.0 ≡ Form = sym (refused-number y.answer Form b.0 (ap number_changed b.1) e) in
        elim (rw q at b.2.here) [
          | inl m ↦ form-nowhere weighed m
          | inr f ↦ none-lower rank (Applies text) 0 case_table Place Form table-rises w form-there (omega arith) f
        ]

    -- it is refused, and so the desk does not go over
    not-over : (r : Railway) → ChangePost r text d figs sets y → y.answer ≡ Changed → ⊥
    not-over r post e = let b = says.first-of-both r text d figs sets y post Place w in some-none (ap number_changed b.1) (ap number_changed e)

  -- a change between cases that are read is never refused with 2
  no-two : (r s : Railway) (d : Desk) (figs sets : List ℕ) → Memᴰ (row Form true) (record_rows r ++ change_rows r s d figs sets) → ⊥
  no-two r s d figs sets m = omega (arith, rises-least row_rank 2 (record_rows r ++ change_rows r s d figs sets) (row Form true) (says.change-order r s d figs sets) m)

  -- an opened desk of the weighted yard, whatever tables are lent that can be followed, is one to begin with: 12 does not stop it, and the tables have nine entries
  begins-well : (figs sets : List ℕ) (x : Opening) → Followable weighed figs sets → OpenPost weighed figs sets x → x.answer ≡ Opened → (desk_row weighed x.desk ≡ false) × (9 ≤ length figs)
  unfolding with_join with_signal with_legs with_train
  begins-well figs sets x f post e = let b = says.opening weighed figs sets x f post e in (b.sound, b.figures)

  -- behind a change to the case with section 2 closed: at (2, 1) train 1, which stands there, has a section of that yard to go to, and its report counts
  leaves-two : (r : Railway) (text : List ℕ) (d : Desk) (y : Changing) → AcceptedWith text shut → length d.at.sections ≡ most_trains → ChangePost r text d figs_a sets_a y → y.answer ≡ Changed
      → (b : Desk) (ts : List ℕ) → Works (working_on shut figs_a sets_a y.desk [] y.desk) (working_on shut figs_a sets_a b ts (on_in shut 2 1))
      → (x : ℕ) × (x < 3) × ((z : Reply) → ReportPost shut (on_in shut 2 1) figs_a sets_a 0 x z → z.answer ≡ Counted)
  unfolding is_closed setting_at may_move free held signal_open heads_for stands_on sections_in code_of list_below sum_below
      any_below end_at joined_by joined has_signal legs_of train_of with_join with_signal with_closed with_legs with_train
  leaves-two r text d y a sized post e b ts calls =
      let m = says.closed-left r shut text d figs_a sets_a y a shut-follows sized post e (working_on shut figs_a sets_a b ts (on_in shut 2 1)) calls 0 refl refl in
      (m.section, m.there, m.counts)

  -- two files of Yard A that differ in the start of train 1: where the one gives 15 the other does, whatever the desk, its case and the tables
  alike : (r : Railway) (text₁ text₂ : List ℕ) → AcceptedWith text₁ yard_a → AcceptedWith text₂ (line_t 1 Up 1 3 yard_a) → (d : Desk) (figs sets : List ℕ) (x y : Changing)
      → ChangePost r text₁ d figs sets x → ChangePost r text₂ d figs sets y → x.answer ≡ Refused Stranded → number_changed y.answer ≡ some 15
  unfolding joined_by legs_of weight_of train_of with_join with_signal with_legs with_train
  alike r text₁ text₂ a b d figs sets x y p q e =
      let same : SameButStarts yard_a (line_t 1 Up 1 3 yard_a) = record {
        sections = refl;
        points = refl;
        trains = refl;
        legs = λ n l. refl;
        joins = λ i l. refl;
        signals = λ i l. refl;
        closed = λ x l. refl;
        headings = of_two (λ t. (train_of yard_a t).heading ≡ (train_of (line_t 1 Up 1 3 yard_a) t).heading) refl refl;
        destinations = of_two (λ t. (train_of yard_a t).destination ≡ (train_of (line_t 1 Up 1 3 yard_a) t).destination) refl refl;
        weights = of_two (λ t. weight_of yard_a t ≡ weight_of (line_t 1 Up 1 3 yard_a) t) refl refl;
      } in
      ap (λ (z : Changing). number_changed z.answer) (sym (says.starts r yard_a (line_t 1 Up 1 3 yard_a) text₁ text₂ a b same d figs sets x y p q)) ∙ ap number_changed e

-- WHOLE LISTS OF CALLS. With the plan of the weighted yard train 2 has come to 1; the desk goes over to the case with section 2 closed, on which train 1 stands; a report and a
-- change are refused, whatever they were asked with; then train 1 leaves the section.
abbrev begun-at : Working
begun-at = working_on weighed figs_w sets_w (on 2 3) [] (on 2 3)

begins : Beginning begun-at
unfolding code_of list_below sum_below with_join with_signal with_legs with_train
begins =
    record {
      accepted = weighed-accepted;
      figures = omega arith;
      settings = omega arith;
      followed = filled-followable weighed weighed-accepted figs_w sets_w weighed-filled;
      sized = refl;
      sound = yards.sound;
      figure = 7;
      has = refl;
      first = refl;
      none_yet = refl;
    }

-- the calls, and what each was answered
record Calls (text : List ℕ) (section : ℕ) : Type 0 where
  come : Reply
  come-post : ReportPost weighed (on 2 3) figs_w sets_w 1 0 come
  over : Changing
  over_post : ChangePost weighed text come.desk figs_a sets_a over
  made : over.answer ≡ Changed
  other : Railway
  figs : List ℕ
  sets : List ℕ
  train : ℕ
  to : ℕ
  stopped : Reply
  stopped-post : ReportPost other over.desk figs sets train to stopped
  number : Refusal
  stops : stopped.answer ≡ ReportRefused number
  text-then : List ℕ
  stayed : Changing
  stayed-post : ChangePost other text-then stopped.desk figs sets stayed
  number-then : Refusal
  stays : stayed.answer ≡ Refused number-then
  gone : Reply
  gone-post : ReportPost shut stayed.desk figs_a sets_a 0 section gone
  counts : gone.answer ≡ Counted

module _ (text : List ℕ) (a : AcceptedWith text shut) (section : ℕ) (c : Calls text section) where
  abbrev now : Working
  now = working_on shut figs_a sets_a c.over.desk ([] ++ moved_by c.gone.answer 0) c.gone.desk

  all-calls : Works begun-at now
  all-calls =
      reports 0 section c.gone
      (change-refused c.other c.text-then c.figs c.sets c.number-then c.stayed
      (report-refused c.other c.figs c.sets c.train c.to c.number c.stopped
      (changes text shut figs_a sets_a c.over (reports 1 0 c.come started c.come-post) a shut-follows c.over_post c.made) c.stopped-post c.stops)
      c.stayed-post c.stays)
      c.gone-post

  module _ (says : ChangeHolds) where
    then_at : AtWork now
    then_at = says.works begun-at now begins all-calls

    -- not at (1, 3), which has no figure there
    not_there : desk_code shut c.gone.desk ≡ 6 → ⊥
    not_there e = some-none then_at.after.has (ap (figure_in figs_a) e)

    -- the new case began at (2, 1), whose figure in it is 1
    one_left : then_at.figure ≡ 1
    unfolding report report_row allows misplaced miscarries arrivals count_below names_none shared at_home occupied passes
        follow setting_at may_move free held signal_open heads_for stands_on sections_in code_of list_below sum_below tables_short
        first weight_row weight_of unknown_row join_row loose_row chain_row longer place_row end_at joined_by joined has_signal
        legs_of train_of with_join with_signal with_closed with_legs with_train any_below all_below is_closed
    one_left =
        let p : c.over.desk.at ≡ (on 2 1).at =
        (says.carries weighed shut text c.come.desk figs_a sets_a c.over a c.over_post c.made).0 ∙ ap (λ (y : Reply). y.desk.at) c.come-post.answers in
        let k : desk_code shut c.over.desk ≡ 1 = rw p refl in
        some_one (sym then_at.has ∙ ap (figure_in figs_a) k)

    -- and so the trains are home
    home-then : at_home shut (desk_code shut c.gone.desk) ≡ true
    unfolding total weight_of train_of with_join with_signal with_closed with_legs with_train
    home-then =
        let t : total shut (moved_by c.gone.answer 0) ≡ 1 = ap (λ (z : ReportAnswer). total shut (moved_by z 0)) c.counts in then_at.after.home_by (omega (arith, one_left, t))

-- AND SO IT IS: of what is said all holds, and there are such calls, with the text of that case.
abbrev text_shut : List ℕ
text_shut = bytes "H\t3\t1\t2\nP\t1\td\nJ\t1u\t1+\nJ\t2u\t1-\nJ\t3d\t1s\nG\t1d\nG\t2u\nX\t2\nT\t1\tu\t1\t3\nT\t2\td\t3\t1\n"

shut-answered : case_answer text_shut ≡ accepted shut
unfolding bytes first digits line is_digit byte_at digits_at number_at counted while side_field_at leg_field_at end_field_at
    header_at point_line_at join_line_at signal_line_at closed_line_at weight_field_at train_line_at walk read case_answer any_below
    list_below any repeats join_ends D.weight_row D.unknown_row D.join_row D.loose_row D.double_row D.place_row partner
    railway_of end_at with_join with_signal with_closed with_legs with_train is_closed joined_by joined longer chain_row
shut-answered = refl

shut-read : AcceptedWith text_shut shut
shut-read = (accepted-exactly text_shut shut).0 shut-answered

the-calls : Calls text_shut 2
unfolding change_to mismatch stranded report report_row allows misplaced miscarries arrivals count_below names_none shared
    at_home occupied passes follow setting_at may_move free held signal_open heads_for stands_on sections_in code_of list_below
    sum_below tables_short first weight_row weight_of unknown_row join_row loose_row chain_row longer place_row end_at joined_by
    joined has_signal legs_of train_of with_join with_signal with_closed with_legs with_train any_below all_below is_closed
the-calls =
    record {
      come = report weighed (on 2 3) figs_w sets_w 1 0;
      come-post = report-made weighed (on 2 3) figs_w sets_w 1 0;
      over = change_to weighed shut (on 2 1) figs_a sets_a;
      over_post = read_made weighed text_shut (on 2 1) figs_a sets_a shut shut-read;
      made = refl;
      other = wrong;
      figs = [];
      sets = [];
      train = 0;
      to = 2;
      stopped = report wrong (on_in shut 2 1) [] [] 0 2;
      stopped-post = report-made wrong (on_in shut 2 1) [] [] 0 2;
      number = Join;
      stops = refl;
      text-then = text_shut;
      stayed = change_to wrong shut (on_in shut 2 1) [] [];
      stayed-post = read_made wrong text_shut (on_in shut 2 1) [] [] shut shut-read;
      number-then = Join;
      stays = refl;
      gone = report shut (on_in shut 2 1) figs_a sets_a 0 2;
      gone-post = report-made shut (on_in shut 2 1) figs_a sets_a 0 2;
      counts = refl;
    }

there-is : (w : Working) × Works begun-at w × (w.railway ≡ shut) × (at_home w.railway (desk_code w.railway w.desk) ≡ true)
there-is = (now text_shut shut-read 2 the-calls, all-calls text_shut shut-read 2 the-calls, refl, home-then text_shut shut-read 2 the-calls change-holds)
