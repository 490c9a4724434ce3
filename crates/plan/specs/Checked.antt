-- What the checker's calls say of a plan by any maker, over its lines (document 01, "The two tables and the plan": the form of a plan, its test);
-- before that, what the two computations say that Checker uses, by which Reading and Computed need not be read. Assumes nothing.
use Rattle.std.specs.Prelude.{◌≡◌, ◌⊎◌, ◌↔◌, true, ℕ, ◌≤◌, ◌<◌, length, get_or}
use mathlib.Core.List.{List, [], ◌∷◌, ◌++◌, map, Memᴰ}
use Rattle.std.proofs.Math.Option.{none, some}
use Rattle.laws.specs.Lists.{all, rises}
use Rattle.railway.specs.declared.Railway.{Railway}
use Rattle.railway.specs.declared.Refusal.TheVariants.{PlanForm, PlanFault}
use Rattle.railway.specs.Rows.{record_refusal}
use Rattle.game.specs.Placement.{placements, start_code}
use Rattle.game.specs.Game.{Adversary, following, HomeWithin}
use Rattle.game.specs.Setting.{Setting}
use Rattle.game.specs.Moves.{game_of}
use Rattle.game_tables.specs.Tables.{no_figure}
use Rattle.plan.specs.declared.CheckerState.TheVariants.{Fresh}
use Rattle.plan.specs.LineAnswer.{LineAnswer, Taken, Refused as LineRefused}
use Rattle.plan.specs.TestAnswer.{Pass, Refused as TestRefused}
use Rattle.plan.specs.Lines.{PlacementLine, PlanLine, spell, fits, Spells, line_code, plan_of}
use Rattle.plan.specs.Test.{Listing, listed_setting, Test, by_lines}
use Rattle.plan.specs.Reading.{read_line}
use Rattle.plan.specs.Computed.{test_holds}
use Rattle.plan.specs.Checker.{Checking, take_line, test_plan, LineCalls, call_lines, is_taken, taken_texts}

-- A text is read as a line exactly if it is the spelling of that line and the line fits the case. (An accepted case has so few sections.)
abbrev pub ReadsLine : Type 0
ReadsLine = (r : Railway) → r.sections < no_figure → (text : List ℕ) (l : PlanLine) → (read_line r text ≡ some l) ↔ Spells r text l

-- The computed test is true exactly if the plan passes the test, sentence by sentence.
abbrev pub TestComputed : Type 0
TestComputed = (r : Railway) (L : Listing) (m : ℕ) → (test_holds r m L ≡ true) ↔ Test r m L

-- Texts in the form of a plan: they spell a first line with figure m and lines ds for placements, which fit the case, their codes strictly rising.
pub record Form (r : Railway) (texts : List (List ℕ)) (m : ℕ) (ds : List PlacementLine) : Type 0 where
  pub spelled : texts ≡ map spell (plan_of m ds)
  pub fit : all (fits r) (plan_of m ds) ≡ true
  pub rising : rises 0 (map (line_code r) ds) ≡ true

-- Texts in form, of whose plan something holds.
pub record PlanWith (r : Railway) (P : ℕ → List PlacementLine → Type 0) (texts : List (List ℕ)) : Type 0 where
  pub start : ℕ
  pub lines : List PlacementLine
  pub form : Form r texts start lines
  pub holds : P start lines

-- Texts in form.
abbrev pub InForm : Railway → List (List ℕ) → Type 0
InForm r = PlanWith r (λ m ds. Unit {0})

-- Texts in form whose plan passes its test.
abbrev pub Passing : Railway → List (List ℕ) → Type 0
Passing r = PlanWith r (λ m ds. Test r m (by_lines r ds))

-- Texts in form whose plan fails it: a plan fault.
abbrev pub Failing : Railway → List (List ℕ) → Type 0
Failing r = PlanWith r (λ m ds. ¬ (Test r m (by_lines r ds)))

-- What any texts handed in, one after the other, are answered; `taken` are those of them that the checker took, `end` is what the calls leave.
pub record Checked (r : Railway) (texts : List (List ℕ)) (answers : List LineAnswer) (taken : List (List ℕ)) (end : Checking) : Type 0 where
  -- the test answers pass exactly if the lines taken are in form and pass, plan fault exactly if they are in form and fail,
  -- and plan form exactly if none was taken
  pub passes : ((test_plan r end).answer ≡ Pass) ↔ Passing r taken
  pub faulty : ((test_plan r end).answer ≡ TestRefused PlanFault) ↔ Failing r taken
  pub early : ((test_plan r end).answer ≡ TestRefused PlanForm) ↔ (taken ≡ [])
  -- one more line is taken exactly if with it the lines taken are in form
  pub more : (text : List ℕ) → (is_taken (take_line r end text).answer ≡ true) ↔ InForm r (taken ++ (text ∷ []))
  -- texts in form are taken, all of them
  pub whole : InForm r texts → taken ≡ texts
  -- each text has its answer, and one that is not taken is refused as plan form
  pub answered : length answers ≡ length texts
  pub others : (a : LineAnswer) → Memᴰ a answers → (a ≡ Taken) ⊎ (a ≡ LineRefused PlanForm)

-- A checker that has taken no line, with fresh tables that are long enough: none at every code in the one, zero in the other.
pub record FreshTables (r : Railway) (c : Checking) : Type 0 where
  pub state : c.state ≡ Fresh
  pub enough-figs : placements r ≤ length c.figs
  pub enough-sets : placements r ≤ length c.sets
  pub figures : (p : ℕ) → p < placements r → get_or c.figs p no_figure ≡ no_figure
  pub settings : (p : ℕ) → p < placements r → get_or c.sets p 0 ≡ 0

-- In an accepted case, from there.
abbrev pub CheckedHolds : Type 0
CheckedHolds =
    (r : Railway) → record_refusal r ≡ none → (c : Checking) → FreshTables r c → (texts : List (List ℕ))
    → (let u : LineCalls = call_lines r texts c in Checked r texts u.answers (taken_texts u.answers texts) u.end)

-- A plan that passes can be followed: from the start its settings lead home within a total of the figure of its first line, against every choice of
-- trains.
abbrev pub PlanWorks : Type 0
PlanWorks =
    (r : Railway) → record_refusal r ≡ none → (m : ℕ) (L : Listing) → Test r m L
    → (c : Adversary Setting) → HomeWithin (game_of r) (following (listed_setting r L)) c (start_code r) m
