-- What the statement is for: facts of Yard A's railway, drawn from it alone. Nothing rests on them; they hold the statement's clauses fast, for without a
-- clause its fact is lost.
-- Assumes nothing.
use Prim.Native.Nat.{ℕ, zero, suc}
use mathlib.Core.Path.{◌≡◌, refl, sym, ◌∙◌, ap}
use mathlib.Core.Logic.{inl, inr}
use mathlib.Core.List.{List}
use mathlib.Core.Option.{none}
use native.Mathlib.Omega.{arith}
use lib.ListN.{get_or, set}
use Rattle.text.specs.Text.{bytes}
use Rattle.railway.specs.declared.Railway.{Railway}
use Rattle.railway.specs.Record.{no_link, train_of, weight_of, with_links, with_join, with_signal, with_legs, with_train}
use Rattle.railway.specs.Refusals.{number_of}
use Rattle.railway.specs.Rows.{record_refusal}
use Rattle.railway.specs.Same.{SameRailway, SameByte, SameButForNone}
use Rattle.railway.specs.Yards.{yard_a}
use Rattle.case_file.specs.Written.{Written}
use Rattle.case_file.specs.Writing.{written_text, written, WriterPost}
use Rattle.case_file.specs.YardTexts.{text_a}
use Rattle.case_file.proofs.Uses.{written-a}
use Rattle.game.specs.Game.{Game}
use Rattle.game.specs.Setting.{Setting}
use Rattle.game.specs.Moves.{game_of}
use Rattle.game_tables.specs.SolverAnswer.{SolverAnswer}
use Rattle.game_tables.specs.Tables.{case_refusal}
use Rattle.game_tables.specs.Solver.{number_given, SolverPost}
use Rattle.statements_alike.proofs.Alike.{same_alike, bytes-alike}

-- Yard A with byte 200 where 1d is joined to nothing is accepted, and written as Yard A.
blank : Railway
blank = with_links yard_a (set yard_a.links 0 200)

blank-same : SameButForNone yard_a blank
unfolding blank with_join with_signal with_legs with_train
blank-same = record { sections = refl; points = refl; trains = refl; legs = refl; signals = refl; closed = refl; roster = refl; links = λ i h. each i }
  where
    each : (i : ℕ) → SameByte (get_or yard_a.links i no_link) (get_or blank.links i no_link)
    each zero = inr (omega arith, omega arith)
    each (suc i) = inl refl

blank-accepted : record_refusal blank ≡ none
blank-accepted = sym (bytes-alike yard_a blank blank-same).judged ∙ written-a.1

blank-written : written_text blank ≡ bytes text_a
blank-written = sym (bytes-alike yard_a blank blank-same).text ∙ written-a.0

-- Whatever record is the same railway as Yard A: a writer answers for it as for Yard A, its game has as many placements and the same weights, and a solver
-- refuses it only where it refuses Yard A.
module _ (q : Railway) (h : SameRailway q yard_a) where
  writer-answers : (buffer : List ℕ) (a : Written) (after : List ℕ) → WriterPost q buffer a after → a ≡ written yard_a buffer
  writer-answers buffer a after x = ((same_alike q yard_a h).written buffer a after x).answer

  nine : (game_of q).placements ≡ 9
  unfolding with_join with_signal with_legs with_train
  nine = ap (λ (g : Game Setting). g.placements) (same_alike q yard_a h).played

  weight-one : (game_of q).weight 1 ≡ 1
  unfolding weight_of train_of with_join with_signal with_legs with_train
  weight-one = ap (λ (g : Game Setting). g.weight 1) (same_alike q yard_a h).played

  refused-alike : (a : SolverAnswer) (figs sets figs' sets' : List ℕ) → SolverPost q a figs sets figs' sets' → number_given a ≡ number_of (case_refusal yard_a figs sets)
  refused-alike a figs sets figs' sets' x = ((same_alike q yard_a h).solved a figs sets figs' sets' x).numbered
