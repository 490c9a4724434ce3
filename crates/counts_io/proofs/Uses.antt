-- What is written for texts that are written out: Yard A's counts, and the refusals of a text out of form, of one that is too long and of a yard with too many placements. Whatever tables the
-- solver left, they have the figures of the yard, and those decide all that is told. Assumes nothing.
use mathlib.Core.Path.{◌≡◌, refl, sym, ◌∙◌, ap, subst}
use mathlib.Core.Bool.{Bool, true, not}
use mathlib.Core.List.{List, [], ◌∷◌, ◌++◌}
use mathlib.Core.Option.{Option, none, some}
use Prim.Native.Nat.{ℕ, suc, ◌≤◌, ◌<◌}
use native.Mathlib.Omega.{arith}
use lib.ListN.{length, get_or, take, replicate}
use lib.Dec.{eqb, leb}
use borrow.Author.Tests.{leb-true}
use Rattle.laws.specs.Below.{all_below, count_below, list_below}
use Rattle.laws.proofs.Bools.{some-none, some_one}
use Rattle.laws.proofs.Below.{all-at}
use Rattle.laws.proofs.Lists.{every-none}
use Rattle.text.specs.Text.{digits, line, bytes}
use Rattle.text.specs.Reading.{is_digit, byte_at, digits_at, number_at}
use Rattle.railway.specs.declared.Railway.{Railway}
use Rattle.railway.specs.declared.Refusal.TheVariants.{Length, Form}
use Rattle.railway.specs.Refusals.{first}
use Rattle.railway.specs.Record.{with_join, with_signal, with_legs, with_train}
use Rattle.railway.specs.Yards.{yard_a}
use Rattle.case_file.specs.Rows.{most_bytes}
use Rattle.case_file.specs.Given.{refused, AcceptedWith}
use Rattle.case_file.specs.Reading.{header_at, walk, read, case_answer}
use Rattle.case_file.specs.YardTexts.{text_a, yard_texts}
use Rattle.case_file.proofs.Given.{refused-exactly}
use Rattle.case_file.proofs.YardTexts.{yards-accepted}
use Rattle.game.specs.Game.{IsFigure}
use Rattle.game.specs.Placement.{placements}
use Rattle.game.specs.Moves.{game_of}
use Rattle.game_tables.specs.Lengths.{entries}
use Rattle.game_tables.specs.Tables.{no_figure, figure_entry, figure_in}
use Rattle.game_tables.specs.Solver.{SolverLeaves}
use Rattle.game_tables.proofs.KnownYards.{figs_a, sets_a, yard_a-accepted, yard_a-filled}
use Rattle.game_tables.proofs.Unique.{figs-one}
use Rattle.search_progress.specs.declared.Progress.{Progress}
use Rattle.search_progress.specs.Telling.{bears}
use Rattle.counts.specs.CountAnswer.{Counted}
use Rattle.counts.specs.Counts.{CountReply, classes, in_class, count_of, reply_by, NumberOf, Spread}
use Rattle.counts.proofs.Spreading.{count_same, number-one}
use Rattle.counts.proofs.Counts.{enough, reply-made, claims}
use Rattle.counts.proofs.Uses.{known-none}
use Rattle.counts_text.specs.Chart.{named, counts_text}
use Rattle.counts_text.proofs.Examples.{yard-a}
use Rattle.counts_io.specs.Shown.{ToldCounts, Told, blank, RailwayShown, CaseShown}
use Rattle.counts_io.specs.Claims.{has, CountsOfPlays, PlaysShown, ShowsPlays}
use Rattle.counts_io.proofs.Shown.{cut-shows}
use Rattle.counts_io.proofs.Claims.{blank-long, leaves, figure-is, lead-of, shows-plays}

-- YARD A, and its text
read-so : AcceptedWith (bytes text_a) yard_a
unfolding yard_texts
read-so = yards-accepted.0

nine : placements yard_a ≡ 9
unfolding with_join with_signal with_legs with_train
nine = refl

-- its counts, written out
abbrev counts_a : List ℕ
counts_a = 1 ∷ 1 ∷ 1 ∷ (replicate 253 0 ++ (6 ∷ []))

counts-are : list_below (count_of yard_a figs_a) classes ≡ counts_a
unfolding list_below in_class count_below with_join with_signal with_legs with_train
counts-are = refl

three-lead : count_below (bears figs_a) 9 ≡ 3
unfolding count_below
three-lead = refl

-- no figure in its table is above 2
abbrev small : Option ℕ → Bool
small none = true
small (some j) = leb j 2

all_small : all_below (λ p. small (figure_in figs_a p)) 9 ≡ true
unfolding all_below
all_small = refl

at-most : (f : Option ℕ) (j : ℕ) → small f ≡ true → f ≡ some j → j ≤ 2
at-most none j s e = some-none e refl
at-most (some i) j s e = omega (arith, leb-true i 2 s, some_one e)

-- WHATEVER THE SOLVER LEFT
module _ (text : List ℕ) (o : RailwayShown yard_a text) where
  long : placements yard_a ≤ length blank
  long = omega (arith, nine, blank-long)

  left : SolverLeaves yard_a o.answer blank blank o.figs o.sets none
  left = leaves yard_a yard_a-accepted text o (omega (arith, nine))

  same : (p : ℕ) → p < placements yard_a → get_or o.figs p no_figure ≡ get_or figs_a p no_figure
  same p l = figs-one yard_a yard_a-accepted o.figs o.sets figs_a sets_a left.0.filled yard_a-filled p l

  -- the reply is that for Yard A's table
  reply-is : o.reply ≡ reply_by yard_a figs_a none
  reply-is =
      let e = enough yard_a figs_a yard_a-accepted (omega (arith, nine)) in
      (claims yard_a figs_a (reply_by yard_a figs_a none) (reply-made yard_a figs_a none e)
      ).unread o.figs (omega (arith, nine)) (omega (arith, nine, long, left.0.kept-figs.as_long)) same o.reply o.counted

  told : ToldCounts o.figs (placements yard_a) counts_a text
  told =
      let t : Told yard_a o.figs (list_below (count_of yard_a figs_a) classes) text Counted =
      subst (λ (x : CountReply). Told yard_a o.figs x.counts text x.answer) reply-is o.told in
      subst (λ (xs : List ℕ). ToldCounts o.figs (placements yard_a) xs text) counts-are t

  -- three lead home, and the largest figure is 2
  three : told.progress.count ≡ 3
  three =
      told.tells.count
      ∙ count_same (bears o.figs) (bears figs_a) (placements yard_a) (λ p l. ap (λ (x : ℕ). not (eqb x no_figure)) (same p l))
      ∙ ap (λ (m : ℕ). count_below (bears figs_a) m) nine
      ∙ three-lead

  two : told.progress.largest ≡ 2
  two =
      let has = told.tells.reached (omega (arith, three)) in
      let most = told.tells.most 7 (omega (arith, nine)) 2 (ap figure_entry (same 7 (omega (arith, nine)))) in
      let least =
      at-most (figure_in figs_a has.code) told.progress.largest (all-at (λ p. small (figure_in figs_a p)) 9 all_small has.code (omega (arith, has.below, nine)))
      (ap figure_entry (sym (same has.code has.below)) ∙ has.has) in
      omega (arith, most, least)

  progress-is : told.progress ≡ record { count = 3; largest = 2 }
  progress-is = ap (λ (x : ℕ). record { count = x; largest = told.progress.largest }) three ∙ ap (λ (x : ℕ). record { count = 3; largest = x }) two

  yard_a-shown : text ≡ bytes "placements\t9\nlead home\t3\nnone\t6\nlargest figure\t2\n0\t1\t##############\n1\t1\t##############\n2\t1\t##############\n"
  yard_a-shown = told.written ∙ ap (λ (m : ℕ). counts_text m told.progress counts_a) nine ∙ ap (λ (a : Progress). counts_text 9 a counts_a) progress-is ∙ yard-a

-- its text is read, and so much is written
yard_a-written : (text : List ℕ) → CaseShown (bytes text_a) text
    → text ≡ bytes "placements\t9\nlead home\t3\nnone\t6\nlargest figure\t2\n0\t1\t##############\n1\t1\t##############\n2\t1\t##############\n"
yard_a-written text c = yard_a-shown text (c.accepted yard_a read-so)

-- BY WHOLE PLAYS. Of any text of which the statement holds: nine placements are told of first; six have no figure, three lead home, no figure is above the largest, which is one of those in the
-- table, so it is 2; and where none leads home the largest figure is told as 0.
known-lead : NumberOf (λ p. (n : ℕ) × has yard_a p n) 9 3
known-lead =
    subst (λ (m : ℕ). NumberOf (λ p. (n : ℕ) × has yard_a p n) m 3) nine
    (lead-of yard_a figs_a yard_a-filled.figures 3 (sym three-lead ∙ ap (λ (m : ℕ). count_below (bears figs_a) m) (sym nine)))

module _ (text : List ℕ) (h : CountsOfPlays yard_a text) where
  nine-told : take 13 text ≡ bytes "placements\t9\n"
  unfolding counts_text bytes line digits
  nine-told = ap (take 13) (h.written ∙ ap (λ (m : ℕ). counts_text m h.progress h.counts) nine)

  six-told : get_or h.counts 256 0 ≡ 6
  six-told =
      number-one (λ p. IsFigure (game_of yard_a) p none) 9 (get_or h.counts 256 0) 6
      (subst (λ (m : ℕ). Spread (IsFigure (game_of yard_a)) m h.counts) nine h.spread).without known-none

  three-told : h.progress.count ≡ 3
  three-told =
      number-one (λ p. (n : ℕ) × has yard_a p n) 9 h.progress.count 3
      (subst (λ (m : ℕ). NumberOf (λ p. (n : ℕ) × has yard_a p n) m h.progress.count) nine h.lead) known-lead

  two-there : 2 ≤ h.progress.largest
  two-there = h.most 7 2 (omega (arith, nine)) (yard_a-filled.figures 7 (omega (arith, nine)))

  none_above : 0 < h.progress.count → h.progress.largest ≤ 2
  none_above some-lead =
      let w = h.reached some-lead in
      at-most (figure_in figs_a w.0) h.progress.largest (all-at (λ p. small (figure_in figs_a p)) 9 all_small w.0 (omega (arith, w.1, nine)))
      (figure-is yard_a figs_a yard_a-filled.figures w.0 h.progress.largest w.1 w.2)

zero-told : (r : Railway) (text : List ℕ) (h : CountsOfPlays r text) → h.progress.count ≡ 0 → named (bytes "largest figure") h.progress.largest ≡ bytes "largest figure\t0\n"
unfolding bytes line digits
zero-told r text h e = ap (λ (n : ℕ). named (bytes "largest figure") n) (h.nowhere e)

-- Yard A's text is read, and its tables have room
module _ (holds : ShowsPlays) (text : List ℕ) (shown : CaseShown (bytes text_a) text) where
  of-yard_a : CountsOfPlays yard_a text
  of-yard_a = (holds (bytes text_a) text yard_a read-so shown).fits (omega (arith, nine))

  six-of-nine : (take 13 text ≡ bytes "placements\t9\n") × (get_or of-yard_a.counts 256 0 ≡ 6)
  six-of-nine = (nine-told text of-yard_a, six-told text of-yard_a)

-- and it holds
six-shown : (text : List ℕ) (shown : CaseShown (bytes text_a) text) → get_or (of-yard_a shows-plays text shown).counts 256 0 ≡ 6
six-shown text shown = (six-of-nine shows-plays text shown).1

-- REFUSALS. A railway with more placements than entries
space-written : (r : Railway) (text : List ℕ) → PlaysShown r text → entries < placements r → text ≡ bytes "refused\t9\n"
unfolding bytes line digits
space-written r text h many = h.too_many many

-- A line without its fields
out-of-form : case_answer (bytes "H\n") ≡ refused Form
unfolding bytes first is_digit byte_at digits_at number_at header_at walk read case_answer
out-of-form = refl

form-written : (text : List ℕ) → CaseShown (bytes "H\n") text → text ≡ bytes "refused\t2\n"
unfolding bytes line digits
form-written text c = c.refused Form ((refused-exactly (bytes "H\n") Form).0 out-of-form)

-- one byte too many, and anything behind it, of which that one byte is read
long-written : (case text : List ℕ) → most_bytes < length case → CaseShown (take (suc most_bytes) case) text → text ≡ bytes "refused\t1\n"
unfolding bytes line digits
long-written case text h c =
    let o = cut-shows case text (suc most_bytes) (omega arith) c in
    o.refused Length (record { before = []; after = _; order = refl; here = h; not-before = every-none _ })
