-- Following a plan at a desk, over whole lists of reports. A report that counts is a move of the game under the table's setting, which keeps the figure, so the figure falls by the
-- weight of the train at least, and the next placement can be and again has a figure; one that is refused leaves the desk. The trains that counted, named turn by turn, make the
-- play. A solver's tables can be followed so. Assumes nothing.
use mathlib.Core.Path.{◌≡◌, refl, sym, ◌∙◌, ap, subst}
use mathlib.Core.Logic.{inl, inr, ◌↔◌}
use mathlib.Core.Bool.{Bool, true, false, not, ◌&&◌}
use mathlib.Core.List.{List, [], ◌∷◌, ◌++◌, append-nil}
use mathlib.Core.Option.{Option, none, some}
use Prim.Native.Nat.{ℕ, suc, ◌+◌, ◌≤◌, ◌<◌}
use native.Mathlib.Omega.{arith}
use native.Mathlib.Numerals.{add-one}
use lib.ListN.{length, get_or, length-append, get_or-append}
use lib.Seq.{get_or_at}
use Rattle.laws.proofs.Bools.{bool?, option?, clash, not-true, or-none}
use Rattle.railway.specs.declared.Railway.{Railway}
use Rattle.railway.specs.declared.Refusal.TheVariants.{Report}
use Rattle.railway.specs.Record.{train_of, weight_of, is_closed}
use Rattle.railway.specs.Passing.{passes, in_use, entered}
use Rattle.railway.specs.Rows.{record_refusal}
use Rattle.game.specs.Game.{at, Turn, Adversary, following, Position, standing, may, over, step, play, spent, IsFigure}
use Rattle.game.specs.Claim.{Within, figure_of, Keeps}
use Rattle.game.specs.Placement.{placements, start_code, at_home, shared}
use Rattle.game.specs.Setting.{Setting, heads_for}
use Rattle.game.specs.Moves.{occupied, enters, move_of, game_of}
use Rattle.game.proofs.Accepted.{Facts, facts}
use Rattle.game.proofs.Moves.{costs, start-below}
use Rattle.game.proofs.Local.{may-train, no-keeps-zero, spent-grown}
use Rattle.game.proofs.Figures.{figure-one}
use Rattle.game_tables.specs.Tables.{figure_in, setting_in, case_refusal, Filled}
use Rattle.game_tables.specs.Solver.{figure_given, SolverTables}
use Rattle.game_tables.proofs.Refusals.{case-none}
use Rattle.game_tables.proofs.Plays.{filled-solved}
use Rattle.game_placement.specs.ByValue.{section_in}
use Rattle.desk.specs.OpenAnswer.{OpenAnswer, Opened, NoFigure, Refused as OpenRefused}
use Rattle.desk.specs.ReportAnswer.{Counted, Refused}
use Rattle.desk.specs.Desk.{Desk, desk_code, desk_row, start_desk, Opening, open_by, present, report_row, moved_desk, Reply, setting_given, OpenPost, ReportPost}
use Rattle.desk.specs.Following.{moved_by, Reporting, begun, call, refused, total, Movers, Played, MoveCounts, AfterReports, RunsFrom, Followable, DescentHolds, DeskRuns, DeskHolds}
use Rattle.desk.proofs.Carrying.{lamp-home}
use Rattle.desk.proofs.Placing.{Placed, placed-so, so-placed, none-together, code-there, start-on, start-placed, start_is}
use Rattle.desk.proofs.Desk.{refused-leaves, none-may, setting-is, open_is, reply-counts, reply-refused}
use Rattle.desk.proofs.Desk.{not_stopped, Named, named, row-off, home-refused, section-there, move-is}
use Rattle.desk.proofs.Desk.{next-placed, any-desk}

-- a figure within n is there
within_has : (n w : ℕ) (o : Option ℕ) → Within n w o → (j : ℕ) × (o ≡ some j) × (j + w ≤ n)
within_has n w none b = absurd b
within_has n w (some j) b = (j, refl, b)

-- an answer that opens a desk is none that says that there is no figure
abbrev opens? : OpenAnswer → Bool
opens? Opened = true
opens? NoFigure = false
opens? (OpenRefused f) = false

-- WHAT IS SPENT, and who moved, with one more at the end
pub total-snoc : (r : Railway) (ts : List ℕ) (t : ℕ) → total r (ts ++ (t ∷ [])) ≡ total r ts + weight_of r t
unfolding total
total-snoc r [] t = omega arith
total-snoc r (u ∷ ts) t = omega (arith, total-snoc r ts t)

movers-snoc : (h : List (Turn Setting)) (ts : List ℕ) (x : Turn Setting) (t : ℕ) → Movers h ts → x.moved ≡ some t → Movers (h ++ (x ∷ [])) (ts ++ (t ∷ []))
unfolding Movers
movers-snoc [] [] x t m e = (e, tt)
movers-snoc [] (u ∷ ts) x t m e = absurd m
movers-snoc (y ∷ h) [] x t m e = absurd m
movers-snoc (y ∷ h) (u ∷ ts) x t m e = (m.0, movers-snoc h ts x t m.1 e)

length-snoc : {A : Type 0} (xs : List A) (x : A) → length (xs ++ (x ∷ [])) ≡ suc (length xs)
length-snoc xs x = length-append xs (x ∷ []) ∙ add-one (length xs)

-- THE PLAY. A choice of trains by the number of turns played so far; it names these trains, whatever it names behind them.
abbrev by_turns : (ℕ → ℕ) → Adversary Setting
by_turns c h p s = c (length h)

module _ (r : Railway) (sets : List ℕ) where
  -- the play from p, after n turns
  abbrev playing : (ℕ → ℕ) → ℕ → ℕ → Position Setting
  playing c p n = play (game_of r) (following (setting_in r sets)) (by_turns c) p n

  -- one turn more of it
  abbrev turned : ℕ → ℕ → Turn Setting
  turned p t = record { placement = p; setting = setting_in r sets p; moved = some t }

  turn_on : (c : ℕ → ℕ) (h : List (Turn Setting)) (p t q : ℕ) → over (game_of r) p ≡ false → c (length h) ≡ t → may (game_of r) p (setting_in r sets p) t ≡ true
      → move_of r p (setting_in r sets p) t ≡ at q → step (game_of r) (following (setting_in r sets)) (by_turns c) (standing h p) ≡ standing (h ++ (turned p t ∷ [])) q
  turn_on c h p t q o n m e = rw (o, n, m, e) refl

  record Path (p : ℕ) (ts : List ℕ) (q : ℕ) : Type 0 where
    turns : List (Turn Setting)
    as_many : length turns ≡ length ts
    plays : (c : ℕ → ℕ) → ((i : ℕ) → i < length ts → c i ≡ get_or ts i 0) → playing c p (length ts) ≡ standing turns q
    moved : Movers turns ts
    costs : spent (game_of r) turns ≡ total r ts

  path-none : (p : ℕ) → Path p [] p
  unfolding play Movers spent total
  path-none p = record { turns = []; as_many = refl; plays = λ c h. refl; moved = tt; costs = refl }

  path-more : (p : ℕ) (ts : List ℕ) (q t z : ℕ) → Path p ts q → over (game_of r) q ≡ false → may (game_of r) q (setting_in r sets q) t ≡ true
      → move_of r q (setting_in r sets q) t ≡ at z → Path p (ts ++ (t ∷ [])) z
  unfolding play
  path-more p ts q t z x o m e =
      record {
        turns = x.turns ++ (turned q t ∷ []);
        as_many = length-snoc x.turns (turned q t) ∙ ap suc x.as_many ∙ sym (length-snoc ts t);
        plays = λ c h.
            let n : length (ts ++ (t ∷ [])) ≡ suc (length ts) = length-snoc ts t in
            let last : c (length x.turns) ≡ t = ap c x.as_many ∙ h (length ts) (rw n (omega arith)) ∙ get_or_at ts t [] 0 (length ts) refl in
            let so_far : playing c p (length ts) ≡ standing x.turns q = x.plays c (λ i l. h i (rw n (omega arith)) ∙ get_or-append ts (t ∷ []) 0 i l) in
            ap (playing c p) n ∙ ap (step (game_of r) (following (setting_in r sets)) (by_turns c)) so_far ∙ turn_on c x.turns q t z o last m e;
        moved = movers-snoc x.turns ts (turned q t) t x.moved refl;
        costs = spent-grown (game_of r) x.turns q (setting_in r sets q) (some t) ∙ ap (λ (n : ℕ). n + weight_of r t) x.costs ∙ sym (total-snoc r ts t);
      }

  path-played : (p : ℕ) (ts : List ℕ) (q : ℕ) → Path p ts q → Played r sets p ts q
  path-played p ts q x =
      record { choice = by_turns (λ i. get_or ts i 0); turns = x.turns; plays = x.plays (λ i. get_or ts i 0) (λ i l. refl); moved = x.moved; costs = x.costs }

-- WITH TABLES THAT CAN BE FOLLOWED
module _ (r : Railway) (acc : record_refusal r ≡ none) (figs sets : List ℕ) (fits : case_refusal r figs sets ≡ none) (follow : Followable r figs sets) where
  ok : Facts r
  ok = facts r acc

  -- A desk on its way: its placement can be, and has figure m.
  record On (d : Desk) (m : ℕ) : Type 0 where
    placed : Placed r d
    has : figure_in figs (desk_code r d) ≡ some m

  module _ (d : Desk) (m : ℕ) (on : On d m) where
    well-placed : desk_row r d ≡ false
    well-placed = so-placed r d on.placed

    keeps : at_home r (desk_code r d) ≡ false → Keeps (game_of r) (figure_in figs) (desk_code r d) (present r d sets) m
    keeps away = follow (desk_code r d) m (code-there r ok d on.placed) on.has away

    home-at-zero : m ≡ 0 → at_home r (desk_code r d) ≡ true
    home-at-zero e = elim (bool? (at_home r (desk_code r d))) [
      | inl z ↦ z
      | inr z ↦ absurd (no-keeps-zero (game_of r) (figure_in figs) (costs r ok) (desk_code r d) (present r d sets) (rw e at (keeps z)))
    ]

    -- a report that counts
    lower : (t x : ℕ) → Named r sets d t x → (j : ℕ) × On (moved_desk r d t x) j × (j + weight_of r t ≤ m)
    lower t x n =
        let b : Within m (weight_of r t) (figure_of (figure_in figs) (move_of r (desk_code r d) (present r d sets) t)) = (keeps n.away).all-within t n.go in
        let c : Within m (weight_of r t) (figure_in figs (desk_code r (moved_desk r d t x))) = rw (move-is r sets ok d on.placed t x n) at b in
        let j : (j : ℕ) × (figure_in figs (desk_code r (moved_desk r d t x)) ≡ some j) × (j + weight_of r t ≤ m) = within_has m (weight_of r t) _ c in
        (j.0, record { placed = next-placed r sets ok d on.placed t x n; has = j.1 }, j.2)

    -- of each train that may move there is a section whose report counts
    module _ (t : ℕ) (go : may (game_of r) (desk_code r d) (present r d sets) t ≡ true) where
      away : at_home r (desk_code r d) ≡ false
      away = not-true (at_home r (desk_code r d)) (λ h. clash go (none-may r (desk_code r d) (present r d sets) t h))

      comes : (o : Option ℕ) → (passes r (present r d sets).plus (heads_for r (desk_code r d) t)).reached ≡ o
          → Within m (weight_of r t) (figure_of (figure_in figs) (enters r (desk_code r d) t (in_use r o))) → (x : ℕ) × Named r sets d t x
      comes none e b = absurd b
      comes (some x) e b = elim (bool? (is_closed r x)) [
        | inl c ↦ absurd (let z : ⊥ = rw c at b in z)
        | inr c ↦ elim (bool? (occupied r (desk_code r d) t x)) [
          | inl o ↦ absurd (let z : ⊥ = rw (c, o) at b in z)
          | inr o ↦ (x, record { away = away; go = go; to = e; empty = o; in-use = c })
        ]
      ]

      arriving : (x : ℕ) × Named r sets d t x
      unfolding move_of entered
      arriving = comes (passes r (present r d sets).plus (heads_for r (desk_code r d) t)).reached refl ((keeps away).all-within t go)

      move-counts : MoveCounts r figs sets d t
      move-counts =
          let a : (x : ℕ) × Named r sets d t x = arriving in
          let off : report_row r d sets t a.0 ≡ false = row-off r sets d t a.0 well-placed a.1 in
          record {
            section = a.0;
            there = section-there r sets ok d on.placed t a.0 a.1;
            counts = λ y post. ap (λ (w : Reply). w.answer) (reply-counts r figs sets fits d t a.0 y post off);
            arrives = λ y post.
                move-is r sets ok d on.placed t a.0 a.1 ∙ ap (λ (w : Reply). at (desk_code r w.desk)) (sym (reply-counts r figs sets fits d t a.0 y post off));
          }

  -- THE LIST OF CALLS
  record Ran (p n : ℕ) (ts : List ℕ) (e : Desk) : Type 0 where
    figure : ℕ
    on : On e figure
    lowered : figure + total r ts ≤ n
    long : length ts ≤ total r ts
    path : Path r sets p ts (desk_code r e)

  ran_on : (p n : ℕ) (ts : List ℕ) (e : Desk) (t x : ℕ) (y : Reply) → Ran p n ts e → ReportPost r e figs sets t x y → Ran p n (ts ++ moved_by y.answer t) y.desk
  ran_on p n ts e t x y z post = elim (bool? (report_row r e sets t x)) [
    | inl s ↦ refuses (reply-refused r figs sets fits e t x y post s)
    | inr s ↦ counts (named r sets e t x s).1 (reply-counts r figs sets fits e t x y post s)
  ]
    where
      refuses : y ≡ record { answer = Refused Report; desk = e } → Ran p n (ts ++ moved_by y.answer t) y.desk
      refuses q = subst (λ (w : Reply). Ran p n (ts ++ moved_by w.answer t) w.desk) (sym q) (let e₁ : ts ++ [] ≡ ts = append-nil ts in rw e₁ z)

      counts : Named r sets e t x → y ≡ record { answer = Counted; desk = moved_desk r e t x } → Ran p n (ts ++ moved_by y.answer t) y.desk
      counts s q =
          let l : (j : ℕ) × On (moved_desk r e t x) j × (j + weight_of r t ≤ z.figure) = lower e z.figure z.on t x s in
          let w : 1 ≤ weight_of r t = costs r ok t (may-train (game_of r) (desk_code r e) (present r e sets) t s.go) in
          let k : total r (ts ++ (t ∷ [])) ≡ total r ts + weight_of r t = total-snoc r ts t in
          let more : Ran p n (ts ++ (t ∷ [])) (moved_desk r e t x) =
          record {
            figure = l.0;
            on = l.1;
            lowered = rw k (omega (arith, z.lowered, l.2));
            long = rw (k, length-snoc ts t) (omega (arith, z.long, w));
            path =
                path-more r sets p ts (desk_code r e) t (desk_code r (moved_desk r e t x)) z.path
                (or-none (shared r (desk_code r e)) (at_home r (desk_code r e)) (none-together r ok e z.on.placed) s.away) s.go (move-is r sets ok e z.on.placed t x s);
          } in
          subst (λ (w : Reply). Ran p n (ts ++ moved_by w.answer t) w.desk) (sym q) more

  ran : (n : ℕ) {d e : Desk} {ts : List ℕ} → On d n → Reporting r figs sets d ts e → Ran (desk_code r d) n ts e
  unfolding total
  ran n {d} on begun = record { figure = n; on = on; lowered = omega arith; long = omega arith; path = path-none r sets (desk_code r d) }
  ran n {d} on (call {e = e} {ts = ts} t x y rest post) = ran_on (desk_code r d) n ts e t x y (ran n on rest) post
  ran n {d} on (refused {e = e} {ts = ts} o figs₁ sets₁ t x f y rest post shown) =
      let q : y.desk ≡ e = refused-leaves o e figs₁ sets₁ t x y f post shown in rw q (ran n on rest)

  -- where such a desk stands
  stands : (d : Desk) (n : ℕ) (ts : List ℕ) (e : Desk) → Ran (desk_code r d) n ts e → AfterReports r figs sets d n ts e
  stands d n ts e z =
      let m : ℕ = z.figure in
      let on : On e m = z.on in
      record {
        figure = m;
        has = on.has;
        lowered = z.lowered;
        at-most = omega (arith, z.lowered, z.long);
        home_by = λ q. home-at-zero e m on (omega (arith, z.lowered, q));
        carries = on.placed.carries;
        lamp = lamp-home r e on.placed.carries;
        sound = well-placed e m on;
        gives = λ a post. ap setting_given (post.answers ∙ setting-is r figs sets fits e (well-placed e m on));
        goes_on = λ away. (keeps e m on away).one-may;
        each = move-counts e m on;
        home_ends = λ q t x y post. ap (λ (w : Reply). w.answer) (reply-refused r figs sets fits e t x y post (home-refused r sets e t x q));
        lowers = λ t x y post q. lowers e m on t x y post (not_stopped r figs sets fits e t x y post q);
        played = path-played r sets (desk_code r d) ts (desk_code r e) z.path;
      }
    where
      lowers : (e : Desk) (m : ℕ) → On e m → (t x : ℕ) (y : Reply) → ReportPost r e figs sets t x y → report_row r e sets t x ≡ false
          → (j : ℕ) × (figure_in figs (desk_code r y.desk) ≡ some j) × (j + weight_of r t ≤ m)
      lowers e m on t x y post off =
          let l : (j : ℕ) × On (moved_desk r e t x) j × (j + weight_of r t ≤ m) = lower e m on t x (named r sets e t x off).1 in
          let q : y.desk ≡ moved_desk r e t x = ap (λ (w : Reply). w.desk) (reply-counts r figs sets fits e t x y post off) in
          (l.0, (rw q l.1.has), l.2)

  runs-from : (d : Desk) → Placed r d → (n : ℕ) → figure_in figs (desk_code r d) ≡ some n → RunsFrom r figs sets d n
  runs-from d placed n has ts e calls = stands d n ts e (ran n (record { placed = placed; has = has }) calls)

-- FROM ANY DESK that 12 does not stop
descent : DescentHolds
descent r figs sets acc lf ls follow d sized well n has =
    runs-from r acc figs sets ((case-none r figs sets).1 (acc, record { figures = lf; settings = ls })) follow d
    (placed-so r d sized well) n has

-- A SOLVER'S TABLES can be followed
pub filled-followable : (r : Railway) → record_refusal r ≡ none → (figs sets : List ℕ) → Filled r figs sets → Followable r figs sets
filled-followable r acc figs sets filled p n l e away = (filled-solved r acc figs sets filled).kept p n l e (away-not-home (shared r p) (at_home r p) away)
  where
    away-not-home : (a b : Bool) → b ≡ false → (not a && b) ≡ false
    away-not-home true b e = refl
    away-not-home false b e = e

-- FROM THE OPENING ON
module _ (r : Railway) (acc : record_refusal r ≡ none) (figs sets : List ℕ) (filled : Filled r figs sets) (lf : placements r ≤ length figs) (ls : placements r ≤ length sets) where
  fits : case_refusal r figs sets ≡ none
  fits = (case-none r figs sets).1 (acc, record { figures = lf; settings = ls })

  start-figure : IsFigure (game_of r) (start_code r) (figure_in figs (start_code r))
  start-figure = filled.figures (start_code r) (start-below r (facts r acc))

  figure-is : (f : Option ℕ) → IsFigure (game_of r) (start_code r) f → figure_in figs (start_code r) ≡ f
  figure-is f i = figure-one (game_of r) (start_code r) (figure_in figs (start_code r)) f start-figure i

  module _ (x : Opening) (post : OpenPost r figs sets x) where
    opening : (f : Option ℕ) → figure_in figs (start_code r) ≡ f → x ≡ open_by r none f
    opening f e = post.answers ∙ open_is r figs sets fits ∙ ap (open_by r none) e

    -- with a figure, and without
    opened : (n : ℕ) → figure_in figs (start_code r) ≡ some n → (x.answer ≡ Opened) × (x.desk ≡ start_desk r)
    opened n e = (ap (λ (w : Opening). w.answer) (opening (some n) e), ap (λ (w : Opening). w.desk) (opening (some n) e))

    unopened : figure_in figs (start_code r) ≡ none → x.answer ≡ NoFigure
    unopened e = ap (λ (w : Opening). w.answer) (opening none e)

    starts : x.answer ≡ Opened → (n : ℕ) × (figure_in figs (start_code r) ≡ some n)
    starts q = elim (option? (figure_in figs (start_code r))) [ inl e ↦ clash (ap opens? q) (ap opens? (unopened e)) | inr e ↦ e ]

    none-exactly : (x.answer ≡ NoFigure) ↔ IsFigure (game_of r) (start_code r) none
    none-exactly = (
      (λ q. elim (option? (figure_in figs (start_code r))) [
        | inl e ↦ rw e at start-figure
        | inr e ↦ clash (ap opens? (opened e.0 e.1).0) (ap opens? q)
      ]),
      (λ i. unopened (figure-is none i)),
    )

    opened-exactly : (x.answer ≡ Opened) ↔ ((n : ℕ) × IsFigure (game_of r) (start_code r) (some n))
    opened-exactly = (
      (λ q. let e : (n : ℕ) × (figure_in figs (start_code r) ≡ some n) = starts q in (e.0, rw e.1 at start-figure)),
      (λ i. (opened i.0 (figure-is (some i.0) i.1)).0),
    )

    at-start : x.answer ≡ Opened → (desk_code r x.desk ≡ start_code r) × ((t : ℕ) → t < r.trains → section_in x.desk.at t ≡ (train_of r t).start.0)
    at-start q =
        let e : (n : ℕ) × (figure_in figs (start_code r) ≡ some n) = starts q in
        let d : x.desk ≡ start_desk r = (opened e.0 e.1).1 in
        (ap (desk_code r) d ∙ start_is r acc, λ t l. rw d (start-on r acc t l))

    runs_on : (n : ℕ) → IsFigure (game_of r) (start_code r) (some n) → RunsFrom r figs sets x.desk n
    runs_on n i =
        let e : figure_in figs (start_code r) ≡ some n = figure-is (some n) i in
        let d : x.desk ≡ start_desk r = (opened n e).1 in
        let c : desk_code r x.desk ≡ start_code r = ap (desk_code r) d ∙ start_is r acc in
        runs-from r acc figs sets fits (filled-followable r acc figs sets filled) x.desk (rw d (start-placed r acc)) n (ap (figure_in figs) c ∙ e)

  pub desk-runs : DeskRuns r figs sets
  desk-runs = record { none-exactly = none-exactly; opened-exactly = opened-exactly; at-start = at-start; runs = runs_on }

-- Q-1 and Q-9
pub desk-holds : DeskHolds
desk-holds =
    record {
      solved = λ r a figs sets figs₁ sets₁ acc lf ls post.
          let ok : case_refusal r figs sets ≡ none = (case-none r figs sets).1 (acc, record { figures = lf; settings = ls }) in
          let s : SolverTables r figs sets figs₁ sets₁ × (figure_given a ≡ figure_in figs₁ (start_code r)) = rw ok at post.leaves in (
            desk-runs r acc figs₁ sets₁ s.0.filled (rw s.0.kept-figs.as_long lf) (rw s.0.kept_sets.as_long ls),
            filled-followable r acc figs₁ sets₁ s.0.filled,
          );
      descent = descent;
      any-desk = any-desk;
    }
