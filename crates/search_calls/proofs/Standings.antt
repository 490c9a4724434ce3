-- What an opening and a round make of a search that stands as its calls leave it. Assumes nothing.
use mathlib.Core.Path.{◌≡◌, refl, sym, ◌∙◌, ap}
use mathlib.Core.Logic.{◌⊎◌, inl, inr}
use mathlib.Core.Bool.{true, false, not}
use mathlib.Core.List.{List, ◌++◌}
use mathlib.Core.Option.{none, some}
use Prim.Native.Nat.{ℕ, suc, ◌+◌, ◌≤◌, ◌<◌}
use native.Mathlib.Omega.{arith}
use native.Mathlib.Numerals.{add-one}
use lib.ListN.{length, take, drop, replicate}
use lib.Dec.{eqb}
use lib.Seq.{length-take-le}
use borrow.Author.Tests.{eqb-true, eq-eqb}
use Rattle.laws.specs.Below.{list_below}
use Rattle.laws.proofs.Below.{list_length, list_get}
use Rattle.laws.proofs.Bools.{lt?, bool?, clash, and_both}
use Rattle.railway.specs.declared.Railway.{Railway}
use Rattle.railway.specs.declared.Refusal.{Refusal}
use Rattle.railway.specs.CaseAnswer.{Accepted, Refused}
use Rattle.railway.specs.Record.{train_of}
use Rattle.railway.specs.Refusals.{number_of}
use Rattle.railway.specs.Rows.{record_refusal}
use Rattle.railway.proofs.Rows.{accepted-facts}
use Rattle.game.specs.Placement.{placements, at_home, shared}
use Rattle.game.specs.Moves.{game_of}
use Rattle.game.proofs.Accepted.{Facts, facts}
use Rattle.game.proofs.Placement.{AllBelow as Below, code_below}
use Rattle.game.proofs.Figures.{home-forced}
use Rattle.game_tables.specs.Entries.{setting_at}
use Rattle.game_tables.specs.Tables.{no_figure, case_refusal}
use Rattle.game_tables.specs.Rounds.{RoundTables, HasFigure, AllBelow, most_figure}
use Rattle.game_tables.proofs.Rounds.{accepted-go}
use Rattle.game_tables.proofs.Refusals.{case-none}
use Rattle.railway_compiled.specs.Compilation.{Compilation}
use Rattle.railway_compiled.specs.Table.{Compiled}
use Rattle.game_case.specs.Cases.{CasePost}
use Rattle.game_case.proofs.Cases.{opened-refused, opened-none, opened-table}
use Rattle.game_moves.specs.Answers.{home_code}
use Rattle.game_moves.proofs.Round.{home-code-home, home-code-apart}
use Rattle.solver_rounds.specs.Rounds.{After}
use Rattle.solver_rounds.specs.Visits.{MarkedFor}
use Rattle.solver_rounds.proofs.Beginning.{mark_count, first-marked}
use Rattle.solver_rounds.proofs.Clearing.{kept_self}
use Rattle.search.specs.declared.Search.{Search}
use Rattle.search.specs.SearchAnswer.{SearchAnswer, Refused as Refuses}
use Rattle.search.specs.Searching.{State, number_given, going_on, Coming, Carried, Standing, unopened, OpenPost, Rounded, SearchPost}
use Rattle.search.proofs.Opening.{none-cleared}
use Rattle.search_calls.specs.Steps.{searching, Finished}
use Rattle.search_calls.proofs.Looking.{tables-later}
use Rattle.search_calls.proofs.Parts.{tables-same, marked-same, joined-part, joined-kept, part_same}

-- THE END. Every figure is below n exactly if none is n or more
module _ (r : Railway) (accepted : record_refusal r ≡ none) where
  too_many : (n : ℕ) → most_figure < n → AllBelow r n
  too_many n l p j lp i = omega (arith, (accepted-go r accepted).small p j lp i)

  -- a search that has not ended has finished no more rounds than there can be
  going-few : (n : ℕ) (s : State) → Standing r n s → s.search.ended ≡ false → n ≤ most_figure
  going-few n s x e = elim (lt? most_figure n) [ inr l ↦ l | inl l ↦ clash (x.ended.1 (too_many n l)) e ]

  pub none_after : (n c : ℕ) → Coming r n c → c ≡ no_figure → AllBelow r (suc n)
  none_after n c x e p j l i = elim (lt? n j) [
    | inr b ↦ omega arith
    | inl b ↦ absurd (let z : c ≤ j = x.first j (record { code = p; there = l; is = i }) b in omega (arith, (accepted-go r accepted).small p j l i))
  ]

  pub some_after : (n c : ℕ) → n < c → HasFigure r c → AllBelow r (suc n) → ⊥
  some_after n c l h below = omega (arith, l, below h.code c h.there h.is)

  -- behind the last round that there can be nothing comes
  nothing-coming : (n : ℕ) → n < no_figure → most_figure < suc n → Coming r n no_figure
  nothing-coming n room l =
      record {
        later = room;
        first = λ j h b. absurd (omega (arith, (accepted-go r accepted).small h.code j h.there h.is));
        brings = λ a k. absurd (omega arith);
      }

-- a round more, of a search with c coming
abbrev pub counted_on : Search → ℕ → Search
counted_on s c = record { rounds = s.rounds + 1; ended = eqb c no_figure; coming = c }

-- A ROUND THAT BRINGS NOTHING, c being what comes, as the search carries it or none behind the last
module _ (r : Railway) (accepted : record_refusal r ≡ none) (s : Search) (figs sets marks : List ℕ) (c : ℕ)
    (small : c ≤ no_figure) (last : most_figure < s.rounds + 1 → c ≡ no_figure) (same : s.rounds + 1 ≤ most_figure
    → c ≡ s.coming) where
  module _ (n : ℕ) (x : Standing r n (searching s figs sets marks)) (e : s.ended ≡ false) where
    -- what the search carries is right of c
    carries : Coming r n c × (c < no_figure → MarkedFor r c figs marks)
    carries =
        let y : Carried r n (searching s figs sets marks) = x.carried e in
        let is : s.rounds ≡ n = x.rounds in
        elim (lt? most_figure (s.rounds + 1)) [
          | inl l ↦ (let z : c ≡ no_figure = last l in rw z (
            nothing-coming r accepted n (omega (arith, going-few r accepted n (searching s figs sets marks) x e))
                (omega arith),
            λ k. absurd (omega arith),
          ))
          | inr l ↦ (let z : c ≡ s.coming = same l in rw z (y.coming, y.marked))
        ]

    pub counted-stands : s.rounds + 1 < c → Standing r (suc n) (searching (counted_on s c) figs sets marks)
    counted-stands l =
        let y = carries in
        let is : s.rounds ≡ n = x.rounds in
        record {
          rounds = omega arith;
          tables = tables-later r n (suc n) (omega arith) (λ j h b. omega (arith, y.0.first j h b)) figs sets x.tables;
          ended = (
            (λ z. none_after r accepted n c y.0 (eqb-true c no_figure z)),
            (λ below. elim (lt? c no_figure) [
              | inl a ↦ absurd (some_after r accepted n c (omega arith) (y.0.brings (omega arith) a) below)
              | inr a ↦ eq-eqb c no_figure (omega arith)
            ]),
          );
          carried = λ z. record {
            coming = record { later = omega arith; first = λ j h b. y.0.first j h (omega arith); brings = λ a b. y.0.brings (omega arith) b };
            marked = y.1;
          };
        }

    -- round n + 1 is due: it is one that there can be
    pub due-now : c ≤ s.rounds + 1 → s.rounds ≤ most_figure → (suc n ≤ most_figure) × MarkedFor r (suc n) figs marks
    due-now l few =
        let y = carries in
        let is : s.rounds ≡ n = x.rounds in
        let e : c ≡ suc n = omega (arith, y.0.later) in
        let there : suc n ≤ most_figure = elim (lt? most_figure (s.rounds + 1)) [ inl z ↦ absurd (omega (arith, last z)) | inr z ↦ omega arith ] in
        (there, rw e at (y.1 (omega arith)))

-- A ROUND THAT WAS FINISHED, from the tables that it leaves
pub finished-stands : (r : Railway) (n : ℕ) (next : Search) (figs sets figs' sets' marks' : List ℕ) → next.rounds ≡ n → Finished r n next figs sets figs' sets' marks'
    → Standing r n (searching next figs' sets' marks')
finished-stands r n next figs sets figs' sets' marks' e x =
    record { rounds = e; tables = x.tables; ended = x.ended; carried = λ z. record { coming = x.coming; marked = x.marked } }

-- home is a placement, and has figure 0
home-there : (r : Railway) → Facts r → home_code r < placements r
unfolding home_code
home-there r ok = rw (list_length on r.trains) at (code_below r.sections (list_below on r.trains) each)
  where
    on : ℕ → ℕ
    on t = (train_of r t).destination.0

    each : Below r.sections (list_below on r.trains)
    each i l = let m : i < r.trains = rw (list_length on r.trains) at l in rw (list_get on r.trains i 0 m) (ok.destinations i m)

home-has : (r : Railway) → record_refusal r ≡ none → HasFigure r 0
home-has r accepted =
    let ok = facts r accepted in
    record {
      code = home_code r;
      there = home-there r ok;
      is = (
        home-forced (game_of r) (setting_at r (home_code r) 0) (home_code r)
            (and_both (not (shared r (home_code r))) (at_home r (home_code r)) (ap not (home-code-apart r ok (accepted-facts r accepted))) (home-code-home r ok)),
        (λ m f. omega arith),
      );
    }

-- WHAT IS ANSWERED beside a search that is not refused has no number
going-number : (s : Search) → number_given (going_on s) ≡ none
going-number s = elim (bool? s.ended) [ inl e ↦ rw e refl | inr e ↦ rw e refl ]

-- THE CALLS, by the answer to the case
module _ (r : Railway) (figs sets marks : List ℕ) (c : Compilation) (p : CasePost r figs sets c) where
  -- refused
  pub open-refused : (f : Refusal) → c.tested ≡ Refused f → OpenPost r figs sets marks (Refuses f) (searching unopened figs sets marks)
  open-refused f e = let due : case_refusal r figs sets ≡ some f = opened-refused p e in record { numbered = ap number_of (sym due); leaves = rw due refl }

  pub round-refused : (f : Refusal) → c.tested ≡ Refused f → (s : Search) → SearchPost r (searching s figs sets marks) (Refuses f) (searching s figs sets marks)
  round-refused f e s = let due : case_refusal r figs sets ≡ some f = opened-refused p e in record { numbered = ap number_of (sym due); leaves = rw due refl }

  module _ (e : c.tested ≡ Accepted) where
    fine : case_refusal r figs sets ≡ none
    fine = opened-none p e

    its-table : Compiled r c.table
    its-table = opened-table p e

    accepted : record_refusal r ≡ none
    accepted = its-table.accepted

    long-figs : placements r ≤ length figs
    long-figs = ((case-none r figs sets).0 fine).1.figures

    long-sets : placements r ≤ length sets
    long-sets = ((case-none r figs sets).0 fine).1.settings

    -- an entry of both for each placement
    pub room : (m : ℕ) → ((q : Railway) → Compiled q c.table → m ≡ placements q) → (m ≤ length figs) × (m ≤ length sets)
    room m counts = let e : m ≡ placements r = counts r its-table in (omega (arith, long-figs), omega (arith, long-sets))

    rounded-post : (s : Search) (a : SearchAnswer) (new : State) → Rounded r (searching s figs sets marks) a new → SearchPost r (searching s figs sets marks) a new
    rounded-post s a new x = record { numbered = ap number_given x.told ∙ going-number new.search ∙ ap number_of (sym fine); leaves = rw fine x }

    -- OPENED
    abbrev new : Search
    new = record { rounds = 0; ended = false; coming = 1 }

    pub open-stands : (figs' sets' : List ℕ)
        → (Compiled r c.table → placements r ≤ length figs → placements r ≤ length sets → After r 0 figs sets figs' sets')
        → OpenPost r figs sets marks (going_on new) (searching new figs' sets' (replicate mark_count 0))
    open-stands figs' sets' begins =
        let after : After r 0 figs sets figs' sets' = begins its-table long-figs long-sets in
        let home = home-has r accepted in
        let y : Standing r 0 (searching new figs' sets' (replicate mark_count 0)) = record {
          rounds = refl;
          tables = after.tables;
          ended = ((λ z. clash z refl), (λ below. absurd (let z : 0 < 0 = below home.code 0 home.there home.is in omega arith)));
          carried = λ z. record {
            coming = record { later = omega arith; first = λ j h b. omega arith; brings = λ l k. absurd (omega arith) };
            marked = λ k. first-marked r figs' sets' accepted after.tables;
          };
        } in
        record {
          numbered = ap number_of (sym fine);
          leaves = rw fine (record { stands = y; cleared = none-cleared r accepted figs' sets' after.tables; told = refl; kept-figs = after.kept-figs; kept_sets = after.kept_sets });
        }

    -- AS IT WAS
    pub round-rests : (s : Search) (a : SearchAnswer) → a ≡ going_on s → (s.ended ≡ true) ⊎ (most_figure < s.rounds)
        → SearchPost r (searching s figs sets marks) a (searching s figs sets marks)
    round-rests s a told h =
        rounded-post s a (searching s figs sets marks)
        (record {
          done = λ z. refl;
          one_more = λ n x z. absurd (omega (arith, beyond z, going-few r accepted n (searching s figs sets marks) x z, x.rounds));
          too_many = λ l. refl;
          counted = λ z few. absurd (omega (arith, beyond z));
          told = told;
          kept-figs = kept_self r figs;
          kept_sets = kept_self r sets;
        })
      where
        beyond : s.ended ≡ false → most_figure < s.rounds
        beyond z = elim h [ inl y ↦ clash y z | inr l ↦ l ]

    -- COUNTED
    pub round-counted : (s : Search) (a : SearchAnswer) (coming : ℕ) → s.rounds ≤ most_figure → coming ≤ no_figure
        → (most_figure < s.rounds + 1 → coming ≡ no_figure) × (s.rounds + 1 ≤ most_figure → coming ≡ s.coming)
        → s.ended ≡ false → s.rounds + 1 < coming → a ≡ going_on (counted_on s coming)
        → SearchPost r (searching s figs sets marks) a (searching (counted_on s coming) figs sets marks)
    round-counted s a coming few small is going l told =
        rounded-post s a (searching (counted_on s coming) figs sets marks)
        (record {
          done = λ z. clash z going;
          too_many = λ l. absurd (omega arith);
          counted = λ z k. add-one s.rounds;
          one_more = λ n x z. counted-stands r accepted s figs sets marks coming small is.0 is.1 n x z l;
          told = told;
          kept-figs = kept_self r figs;
          kept_sets = kept_self r sets;
        })

    -- FINISHED, by a round on the entries of the placements
    module _ (s : Search) (a : SearchAnswer) (m coming : ℕ) (next : Search) (rounds : next.rounds ≡ s.rounds + 1) (figs₁ sets₁ marks' : List ℕ)
        (counts : (q : Railway) → Compiled q c.table → m ≡ placements q)
        (going : s.ended ≡ false) (few : s.rounds ≤ most_figure)
        (small : coming ≤ no_figure) (is : (most_figure < s.rounds + 1 → coming ≡ no_figure) × (s.rounds + 1 ≤ most_figure → coming ≡ s.coming)) (due : coming ≤ s.rounds + 1)
        (lf : length figs₁ ≡ length (take m figs)) (ls : length sets₁ ≡ length (take m sets))
        (finishes : (k : ℕ) → Compiled r c.table → placements r ≤ length (take m figs) → placements r ≤ length (take m sets) → s.rounds + 1 ≤ most_figure → s.rounds + 1 ≡ suc k
        → RoundTables r k (take m figs) (take m sets) → MarkedFor r (s.rounds + 1) (take m figs) marks → Finished r (s.rounds + 1) next (take m figs) (take m sets) figs₁ sets₁ marks')
        (told : a ≡ going_on next) where
      is_m : m ≡ placements r
      is_m = counts r its-table

      enough-figs : m ≤ length figs
      enough-figs = omega (arith, is_m, long-figs)

      enough-sets : m ≤ length sets
      enough-sets = omega (arith, is_m, long-sets)

      -- on the parts
      part-round : (n : ℕ) → Standing r n (searching s figs sets marks) → Finished r (suc n) next (take m figs) (take m sets) figs₁ sets₁ marks'
      part-round n x =
          let at : s.rounds + 1 ≡ suc n = omega (arith, x.rounds) in
          let y = due-now r accepted s figs sets marks coming small is.0 is.1 n x going due few in
          let t : RoundTables r n (take m figs) (take m sets) =
          tables-same r accepted figs (take m figs) (λ q l. part_same m figs q no_figure (rw is_m l)) sets (take m sets) (λ q l. part_same m sets q 0 (rw is_m l)) n x.tables in
          let k : MarkedFor r (s.rounds + 1) (take m figs) marks =
          rw at (marked-same r accepted figs (take m figs) (λ q l. part_same m figs q no_figure (rw is_m l)) (suc n) marks y.1) in
          rw at at (finishes n its-table (omega (arith, is_m, length-take-le m figs enough-figs)) (omega (arith, is_m, length-take-le m sets enough-sets)) (omega (arith, y.0)) at t k)

      -- on the tables
      whole-round : (n : ℕ) → Standing r n (searching s figs sets marks) → Finished r (suc n) next figs sets (figs₁ ++ drop m figs) (sets₁ ++ drop m sets) marks'
      whole-round n x =
          let y = part-round n x in
          record {
            tables =
                tables-same r accepted figs₁ (figs₁ ++ drop m figs)
                (λ q l. joined-part m figs figs₁ enough-figs lf q no_figure (rw is_m l)) sets₁ (sets₁ ++ drop m sets)
                (λ q l. joined-part m sets sets₁ enough-sets ls q 0 (rw is_m l)) (suc n) y.tables;
            kept-figs = joined-kept m figs figs₁ enough-figs lf r is_m;
            kept_sets = joined-kept m sets sets₁ enough-sets ls r is_m;
            ended = y.ended;
            coming = y.coming;
            marked = λ l. marked-same r accepted figs₁ (figs₁ ++ drop m figs) (λ q lq. joined-part m figs figs₁ enough-figs lf q no_figure (rw is_m lq)) next.coming marks' (y.marked l);
          }

      pub round-finished : SearchPost r (searching s figs sets marks) a (searching next (figs₁ ++ drop m figs) (sets₁ ++ drop m sets) marks')
      round-finished =
          rounded-post s a (searching next (figs₁ ++ drop m figs) (sets₁ ++ drop m sets) marks')
          (record {
            done = λ z. clash z going;
            too_many = λ l. absurd (omega arith);
            counted = λ z k. rounds ∙ add-one s.rounds;
            one_more =
                λ n x z. finished-stands r (suc n) next figs sets (figs₁ ++ drop m figs)
                (sets₁ ++ drop m sets) marks' (omega (arith, rounds, x.rounds)) (whole-round n x);
            told = told;
            kept-figs = joined-kept m figs figs₁ enough-figs lf r is_m;
            kept_sets = joined-kept m sets sets₁ enough-sets ls r is_m;
          })
