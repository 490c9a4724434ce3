-- Going over to another case. What a change asks of the new case, and what it makes, is said without the trains'
-- starts. The desk of a change that is made stands in the new case as it stood in the old one, since codes and sections
-- agree, so 12 does not stop it and its reports are followed from its figure on. Calls that are refused leave it, so
-- this goes on over whole lists. With the solver's tables the figure is that of the game. Assumes nothing.
use mathlib.Core.Path.{◌≡◌, refl, sym, ◌∙◌, ap}
use mathlib.Core.Bool.{Bool, true, false}
use mathlib.Core.List.{List, [], ◌++◌, map}
use mathlib.Core.Option.{Option, none, some}
use Prim.Native.Nat.{ℕ, zero, suc, ◌≤◌, ◌<◌}
use native.Mathlib.Omega.{arith}
use lib.ListN.{length, length-set}
use Rattle.laws.specs.Below.{count_below}
use Rattle.laws.specs.Lists.{rises}
use Rattle.laws.proofs.Bools.{some-none, some_one}
use Rattle.railway.specs.declared.Railway.{Railway}
use Rattle.railway.specs.declared.Refusal.{Refusal}
use Rattle.railway.specs.declared.Refusal.TheVariants.{Stranded}
use Rattle.railway.specs.Bounds.{most_trains}
use Rattle.railway.specs.Refusals.{first}
use Rattle.railway.specs.Record.{train_of}
use Rattle.railway.specs.Rows.{record_rows, record_refusal}
use Rattle.case_file.specs.Given.{AcceptedWith}
use Rattle.case_file.proofs.Given.{accepted-one, accepted-exactly}
use Rattle.game.specs.Game.{IsFigure}
use Rattle.game.specs.Placement.{placements, start_code, stands_on, arrived}
use Rattle.game.specs.Moves.{game_of}
use Rattle.game.proofs.Accepted.{facts}
use Rattle.game.proofs.Figures.{figure-one}
use Rattle.game_tables.specs.SolverAnswer.{SolverAnswer}
use Rattle.game_tables.specs.Tables.{figure_in, tables_short, case_rows, case_refusal, Filled}
use Rattle.game_tables.specs.Solver.{figure_given, SolverTables, SolverPost}
use Rattle.game_tables.proofs.Refusals.{Enough, case-none}
use Rattle.desk.specs.OpenAnswer.{OpenAnswer, Opened}
use Rattle.desk.specs.ReportAnswer.{ReportAnswer, Counted, Refused as ReportRefused}
use Rattle.desk.specs.ChangeAnswer.{Changed, Refused}
use Rattle.desk.specs.Desk.{Desk, desk_code, arrivals, desk_row, desk_on, start_desk, no_desk, Opening, open_by, open_desk, desk_given, OpenPost, Reply, ReportPost}
use Rattle.desk.specs.Following.{Reporting, begun, call, refused, AfterReports, Followable, Apart}
use Rattle.desk.specs.Change.{mismatch, stranded, change_rows, sooner, Changing, change_by, change_to, ChangePost}
use Rattle.desk.specs.Change.{row_rank, SameShape, SameButStarts, SameBound, Working, working_on, beginning_with}
use Rattle.desk.specs.Change.{Works, started, reports, changes, report-refused, change-refused, Beginning, AtWork}
use Rattle.desk.specs.Change.{ChangeSolved, ChangeHolds}
use Rattle.desk.proofs.Carrying.{made-right}
use Rattle.desk.proofs.Placing.{Placed, placed-so, so-placed, code-there, start-placed, start_is}
use Rattle.desk.proofs.Sooner.{table-rises, sooner-first}
use Rattle.desk.proofs.Desk.{any-desk}
use Rattle.desk.proofs.Following.{filled-followable, desk-holds}
use Rattle.desk.proofs.ChangeRows.{shape_of, of-shape, apart-same, enough, number-refused, judged, read-accepted, made, can-change, can-so, stays, carries}
use Rattle.desk.proofs.ChangeNumbers.{old-record, fourteen, nine, twelve, fifteen}

-- THE STARTS play no part: what a change asks of the new case, and what it makes, is said without them.
same-off : (a b : Bool) → (a ≡ false → b ≡ false) → (b ≡ false → a ≡ false) → a ≡ b
same-off true true f g = refl
same-off true false f g = g refl
same-off false b f g = sym (f refl)

count_same : (f g : ℕ → Bool) (k : ℕ) → ((i : ℕ) → i < k → f i ≡ g i) → count_below f k ≡ count_below g k
unfolding count_below
count_same f g zero h = refl
count_same f g (suc k) h = let a : count_below f k ≡ count_below g k = count_same f g k (λ i l. h i (omega arith)) in let b : f k ≡ g k = h k (omega arith) in rw (a, b) refl

turned : (s q : Railway) → SameBound s q → SameBound q s
turned s q h =
    let k : q.trains ≡ s.trains = sym h.trains in
    record {
      sections = sym h.sections;
      trains = k;
      headings = λ t l. sym (h.headings t (rw k at l));
      destinations = λ t l. sym (h.destinations t (rw k at l));
    }

shape_same : (r s q : Railway) → SameBound s q → SameShape r s → SameShape r q
shape_same r s q h g =
    let k : r.trains ≡ s.trains = g.trains in
    record { sections = g.sections ∙ h.sections; trains = k ∙ h.trains; headings = λ t l. g.headings t l ∙ h.headings t (rw k at l) }

module _ (s q : Railway) (h : SameBound s q) where
  mismatch-same : (r : Railway) → mismatch r s ≡ mismatch r q
  mismatch-same r =
      same-off (mismatch r s) (mismatch r q) (λ e. of-shape r q (shape_same r s q h (shape_of r s e)))
      (λ e. of-shape r s (shape_same r q s (turned s q h) (shape_of r q e)))

  short-same : (figs sets : List ℕ) → tables_short s figs sets ≡ tables_short q figs sets
  unfolding tables_short
  short-same figs sets = let a : s.sections ≡ q.sections = h.sections in let b : s.trains ≡ q.trains = h.trains in rw (a, b) refl

  code_same : (d : Desk) → desk_code s d ≡ desk_code q d
  code_same d = let a : s.sections ≡ q.sections = h.sections in let b : s.trains ≡ q.trains = h.trains in rw (a, b) refl

  stands_same : (p t : ℕ) → stands_on s p t ≡ stands_on q p t
  unfolding stands_on
  stands_same p t = let a : s.sections ≡ q.sections = h.sections in let b : s.trains ≡ q.trains = h.trains in rw (a, b) refl

  arrivals-same : (p : ℕ) → arrivals s p ≡ arrivals q p
  unfolding arrivals
  arrivals-same p =
      count_same (arrived s p) (arrived q p) s.trains (λ t l.
      let x : stands_on s p t ≡ stands_on q p t = stands_same p t in
      let z : (train_of s t).destination ≡ (train_of q t).destination = h.destinations t l in
      rw (x, z) refl)
      ∙ ap (count_below (arrived q p)) h.trains

  desk-same : (d : Desk) → desk_on s d.at ≡ desk_on q d.at
  desk-same d =
      let a : desk_code s d ≡ desk_code q d = code_same d in
      let b : arrivals s (desk_code q d) ≡ arrivals q (desk_code q d) = arrivals-same (desk_code q d) in
      rw (a, b) refl

  change-same : (r : Railway) (d : Desk) (figs sets : List ℕ) → change_to r s d figs sets ≡ change_to r q d figs sets
  unfolding change_to stranded
  change-same r d figs sets =
      let a : mismatch r s ≡ mismatch r q = mismatch-same r in
      let b : tables_short s figs sets ≡ tables_short q figs sets = short-same figs sets in
      let c : desk_code s d ≡ desk_code q d = code_same d in
      by (first (record_rows r ++ change_rows r s d figs sets)) ∙ rw (a, b, c) refl
    where
      by : (o : Option Refusal) → change_by s d o ≡ change_by q d o
      by none = ap (λ (e : Desk). record { answer = Changed; desk = e }) (desk-same d)
      by (some f) = refl

-- WORKING ON. The desk with which a case began is one that 12 does not stop, at a placement that has a figure, and the lent tables are long enough and can be followed.
record Ground (r : Railway) (figs sets : List ℕ) (d : Desk) : Type 0 where
  accepted : record_refusal r ≡ none
  enough : Enough r figs sets
  followed : Followable r figs sets
  sized : length d.at.sections ≡ most_trains
  sound : desk_row r d ≡ false
  figure : ℕ
  has : figure_in figs (desk_code r d) ≡ some figure

-- What is kept from call to call: the reports with the present case are a list from there, and no call alters the desk's length.
record Kept (w : Working) : Type 0 where
  ground : Ground w.railway w.figs w.sets w.begun
  calls : Reporting w.railway w.figs w.sets w.begun w.moved w.desk
  sized : length w.desk.at.sections ≡ most_trains

abbrev size : Desk → ℕ
size d = length d.at.sections

-- a report keeps it
report-sized : (o : Railway) (d : Desk) (figs sets : List ℕ) (t x : ℕ) (y : Reply) → ReportPost o d figs sets t x y → (a : ReportAnswer) → y.answer ≡ a → size y.desk ≡ size d
report-sized o d figs sets t x y post Counted e = ap size (any-desk.next o figs sets d t x y post e) ∙ length-set d.at.sections t x
report-sized o d figs sets t x y post (ReportRefused f) e = ap size (any-desk.leaves o figs sets d t x y f post e)

-- the desk of a change that is made: 12 does not stop it in the new case
changed-sound : (r s : Railway) (d : Desk) → SameShape r s → desk_row r d ≡ false → desk_row s (desk_on s d.at) ≡ false
changed-sound r s d h e =
    let a : Apart r d.at = (any-desk.placed r d.at).0 ((any-desk.sound r d).0 e).0 in
    (any-desk.sound s (desk_on s d.at)).1 ((any-desk.placed s d.at).1 (apart-same r s d.at h a), made-right s d.at)

-- and so it is a new ground
changed-ground : (r s : Railway) (text : List ℕ) (d : Desk) (figs sets : List ℕ) (y : Changing) → ChangePost r text d figs sets y → AcceptedWith text s → Followable s figs sets
    → y.answer ≡ Changed → size d ≡ most_trains → Ground s figs sets y.desk
changed-ground r s text d figs sets y post a follows e long =
    let m = made r text d figs sets y post s a e in
    record {
      accepted = read-accepted text s a;
      enough = enough s figs sets (read-accepted text s a) m.0.long;
      followed = follows;
      sized = ap size m.1 ∙ long;
      sound = ap (desk_row s) m.1 ∙ changed-sound r s d m.0.shape m.0.sound;
      figure = m.0.figure;
      has = ap (λ (z : Desk). figure_in figs (desk_code s z)) m.1 ∙ m.0.has;
    }

-- behind it
changed-kept : (s : Railway) (figs sets : List ℕ) (d : Desk) → Ground s figs sets d → Kept (beginning_with s figs sets d)
changed-kept s figs sets d g = record { ground = g; calls = begun; sized = g.sized }

-- from the beginning on, call by call
begins : (w : Working) → Beginning w → Kept w
begins w b =
    let p : w.begun ≡ w.desk = b.first in
    let q : w.moved ≡ [] = b.none_yet in
    record {
      ground = record {
        accepted = b.accepted;
        enough = record { figures = b.figures; settings = b.settings };
        followed = b.followed;
        sized = rw p b.sized;
        sound = rw p b.sound;
        figure = b.figure;
        has = rw p b.has;
      };
      calls = rw (p, q) begun;
      sized = b.sized;
    }

kept : (v w : Working) → Kept v → Works v w → Kept w
kept v w b started = b
kept v w b (reports t x y works post) =
    let k = kept v _ b works in
    record { ground = k.ground; calls = call t x y k.calls post; sized = report-sized _ _ _ _ t x y post y.answer refl ∙ k.sized }
kept v w b (changes text s figs sets y works a follows post e) =
    changed-kept s figs sets y.desk (changed-ground _ s text _ figs sets y post a follows e (kept v _ b works).sized)
kept v w b (report-refused o figs sets t x f y works post e) =
    let k = kept v _ b works in
    record { ground = k.ground; calls = refused o figs sets t x f y k.calls post e; sized = report-sized o _ figs sets t x y post y.answer refl ∙ k.sized }
kept v w b (change-refused o text figs sets f y works post e) =
    let k = kept v _ b works in
    let q : y.desk ≡ _ = stays o text _ figs sets y post (judged text) f e in
    record { ground = k.ground; calls = rw q k.calls; sized = rw q k.sized }

at-work : (w : Working) → Kept w → AtWork w
at-work w k =
    let g = k.ground in
    record {
      figure = g.figure;
      has = g.has;
      after = desk-holds.descent w.railway w.figs w.sets g.accepted g.enough.figures g.enough.settings g.followed
          w.begun g.sized g.sound g.figure g.has w.moved w.desk k.calls;
    }

-- an opened desk stands at the start, which has a figure, in a case that is not refused; so it is a beginning
by-opened : (r : Railway) (o : Option Refusal) (f : Option ℕ) → (open_by r o f).answer ≡ Opened → (o ≡ none) × ((n : ℕ) × (f ≡ some n)) × ((open_by r o f).desk ≡ start_desk r)
by-opened r (some g) f e = some-none {o = some no_desk} refl (ap (λ (a : OpenAnswer). desk_given a no_desk) (sym e))
by-opened r none none e = some-none {o = some no_desk} refl (ap (λ (a : OpenAnswer). desk_given a no_desk) (sym e))
by-opened r none (some n) e = (refl, (n, refl), refl)

opening : (r : Railway) (figs sets : List ℕ) (x : Opening) → Followable r figs sets → OpenPost r figs sets x → x.answer ≡ Opened → Beginning (beginning_with r figs sets x.desk)
unfolding open_desk case_refusal
opening r figs sets x follows post e =
    let b = by-opened r (first (case_rows r figs sets)) (figure_in figs (start_code r)) (sym (ap (λ (w : Opening). w.answer) post.answers) ∙ e) in
    let d : x.desk ≡ start_desk r = ap (λ (w : Opening). w.desk) post.answers ∙ b.2 in
    let c = (case-none r figs sets).0 b.0 in
    let at : Placed r (start_desk r) = start-placed r c.0 in
    record {
      accepted = c.0;
      figures = c.1.figures;
      settings = c.1.settings;
      followed = follows;
      sized = ap size d ∙ at.sized;
      sound = ap (desk_row r) d ∙ so-placed r (start_desk r) at;
      figure = b.1.0;
      has = ap (figure_in figs) (ap (desk_code r) d ∙ start_is r c.0) ∙ b.1.1;
      first = refl;
      none_yet = refl;
    }

-- from a change on
from-change : (r s : Railway) (text : List ℕ) (d : Desk) (figs sets : List ℕ) (y : Changing) → AcceptedWith text s → Followable s figs sets → size d ≡ most_trains
    → ChangePost r text d figs sets y → y.answer ≡ Changed → (w : Working) → Works (beginning_with s figs sets y.desk) w → AtWork w
from-change r s text d figs sets y a follows sized post e w calls =
    at-work w (kept _ w (changed-kept s figs sets y.desk (changed-ground r s text d figs sets y post a follows e sized)) calls)

-- WITH THE SOLVER'S TABLES: a figure in the table is that of the placement, wherever the desk can stand in the new case
module _ (s : Railway) (acc : record_refusal s ≡ none) (figs sets : List ℕ) (filled : Filled s figs sets) (enough : Enough s figs sets) (r : Railway) (d : Desk) (sized : size d ≡ most_trains)
    (text : List ℕ) (read : AcceptedWith text s) where
  abbrev figure_there : Option ℕ → Type 0
  figure_there f = IsFigure (game_of s) (desk_code s d) f

  -- the placement can be in the new case, so it has a code there
  stands-there : SameShape r s → desk_row r d ≡ false → desk_code s d < placements s
  stands-there h well = code-there s (facts s acc) (desk_on s d.at) (placed-so s (desk_on s d.at) sized (changed-sound r s d h well))

  module _ (h : SameShape r s) (well : desk_row r d ≡ false) where
    figure-is : figure_there (figure_in figs (desk_code s d))
    figure-is = filled.figures (desk_code s d) (stands-there h well)

    entry-is : (f : Option ℕ) → figure_there f → figure_in figs (desk_code s d) ≡ f
    entry-is f i = figure-one (game_of s) (desk_code s d) (figure_in figs (desk_code s d)) f figure-is i

    is-entry : (f : Option ℕ) → figure_in figs (desk_code s d) ≡ f → figure_there f
    is-entry f e = rw e at figure-is

  -- the text says one railway
  same_case : (q : Railway) → AcceptedWith text q → q ≡ s
  same_case q b = accepted-one text q s ((accepted-exactly text q).1 b) ((accepted-exactly text s).1 read)

  module _ (y : Changing) (post : ChangePost r text d figs sets y) where
    module _ (old : record_refusal r ≡ none) (well : desk_row r d ≡ false) where
      made_so : y.answer ≡ Changed → SameShape r s × ((n : ℕ) × figure_there (some n))
      made_so e = let m = (made r text d figs sets y post s read e).0 in (m.shape, (m.figure, is-entry m.shape well (some m.figure) m.has))

      so-made : SameShape r s × ((n : ℕ) × figure_there (some n)) → y.answer ≡ Changed
      so-made h =
          can-so r text d figs sets y post old well (record {
            railway = s;
            read = read;
            shape = h.0;
            figures = enough.figures;
            settings = enough.settings;
            figure = h.1.0;
            has = entry-is h.0 well (some h.1.0) h.1.1;
          })

      stranded-so : y.answer ≡ Refused Stranded → SameShape r s × figure_there none
      stranded-so e =
          let b = (fifteen r text d figs sets y post).0 e in
          let q : b.0.fits.both.railway ≡ s = same_case b.0.fits.both.railway b.0.fits.both.read in
          let h : SameShape r s = rw q at b.0.fits.shape in
          (h, is-entry h well none (rw q at b.2))

      so-stranded : SameShape r s × figure_there none → y.answer ≡ Refused Stranded
      so-stranded h =
          (fifteen r text d figs sets y post).1 (
            record {
              fits = record { both = record { railway = s; old = old; read = read }; shape = h.0 };
              figures = enough.figures;
              settings = enough.settings;
            },
            well,
            entry-is h.0 well none h.1,
          )

    home : y.answer ≡ Changed → (n : ℕ) → figure_there (some n) → (ts : List ℕ) (e : Desk) → Works (beginning_with s figs sets y.desk) (working_on s figs sets y.desk ts e)
        → AfterReports s figs sets y.desk n ts e
    home e n i ts z calls =
        let m = made r text d figs sets y post s read e in
        let w = from-change r s text d figs sets y read (filled-followable s acc figs sets filled) sized post e (working_on s figs sets y.desk ts z) calls in
        let c : desk_code s y.desk ≡ desk_code s d = ap (desk_code s) m.1 in
        let k : w.figure ≡ n = some_one (sym w.has ∙ ap (figure_in figs) c ∙ entry-is m.0.shape m.0.sound (some n) i) in
        rw k at w.after

  change-solved : ChangeSolved r d text s figs sets
  change-solved =
      record {
        made-exactly = λ old well y post. (made_so y post old well, so-made y post old well);
        stranded-exactly = λ old well y post. (stranded-so y post old well, so-stranded y post old well);
        home = home;
      }

solved : (s : Railway) (a : SolverAnswer) (figs sets figs₁ sets₁ : List ℕ) → placements s ≤ length figs → placements s ≤ length sets → SolverPost s a figs sets figs₁ sets₁
    → (r : Railway) (d : Desk) → size d ≡ most_trains → (text : List ℕ) → AcceptedWith text s → ChangeSolved r d text s figs₁ sets₁
solved s a figs sets figs₁ sets₁ lf ls post r d sized text read =
    let acc : record_refusal s ≡ none = read-accepted text s read in
    let ok : case_refusal s figs sets ≡ none = (case-none s figs sets).1 (acc, record { figures = lf; settings = ls }) in
    let t : SolverTables s figs sets figs₁ sets₁ × (figure_given a ≡ figure_in figs₁ (start_code s)) = rw ok at post.leaves in
    change-solved s acc figs₁ sets₁ t.0.filled (record { figures = rw t.0.kept-figs.as_long lf; settings = rw t.0.kept_sets.as_long ls }) r d sized text read

-- the rows of the old record and of the change rise by rank
change-rises : (r s : Railway) (d : Desk) (figs sets : List ℕ) → rises 2 (map row_rank (record_rows r ++ change_rows r s d figs sets)) ≡ true
unfolding rises
change-rises r s d figs sets = refl

-- two that differ in starts alone have the same sections, headings and destinations
starts-bound : (s q : Railway) → SameButStarts s q → SameBound s q
starts-bound s q h = record { sections = h.sections; trains = h.trains; headings = h.headings; destinations = h.destinations }

bound : (r s q : Railway) (text₁ text₂ : List ℕ) → AcceptedWith text₁ s → AcceptedWith text₂ q → SameBound s q → (d : Desk) (figs sets : List ℕ) (x y : Changing)
    → ChangePost r text₁ d figs sets x → ChangePost r text₂ d figs sets y → x ≡ y
bound r s q text₁ text₂ a b h d figs sets x y p₁ p₂ = p₁.read s a ∙ change-same s q h r d figs sets ∙ sym (p₂.read q b)

-- Q-11
pub change-holds : ChangeHolds
change-holds =
    record {
      exactly = λ r d acc well text figs sets y post. (can-change r text d figs sets y post (judged text), can-so r text d figs sets y post acc well);
      carries = λ r s text d figs sets y a post e. carries r text d figs sets y post s a e;
      stays = λ r text d figs sets y f post e. stays r text d figs sets y post (judged text) f e;
      first-of-both = λ r text d figs sets y post g w. (
        sooner (record_refusal r) g,
        number-refused y.answer (sooner (record_refusal r) g) (post.not-read g w).0,
        sooner-first r text g w (record_refusal r) refl,
      );
      old-record = λ r s text d figs sets y f post a e. old-record r text d figs sets y post s a f e;
      text-order = table-rises;
      change-order = change-rises;
      fourteen = fourteen;
      nine = nine;
      twelve = twelve;
      fifteen = fifteen;
      starts = λ r s q text₁ text₂ a b h. bound r s q text₁ text₂ a b (starts-bound s q h);
      bound = bound;
      from-change = from-change;
      closed-left = λ r s text d figs sets y a follows sized post e w calls t shut. (from-change r s text d figs sets y a follows sized post e w calls).after.each t;
      works = λ v w b calls. at-work w (kept v w (begins v b) calls);
      opening = opening;
      solved = solved;
    }
