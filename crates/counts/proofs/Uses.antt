-- The statement on counts at work, most of all in Yard A: from each field, and from nothing else, something is drawn of any reply, table or counts of which the statement holds, so that
-- a field that were taken away, or that said nothing, would be missed. Assumes nothing.
use mathlib.Core.Path.{◌≡◌, refl, ◌∙◌, subst}
use mathlib.Core.Logic.{◌↔◌}
use mathlib.Core.List.{List, [], ◌++◌}
use mathlib.Core.Option.{Option, none, some}
use Prim.Native.Nat.{ℕ, ◌≤◌, ◌<◌}
use native.Mathlib.Omega.{arith}
use lib.ListN.{length, get_or, replicate, length-append, length-replicate, get_or-append, get_or-eq_default}
use Rattle.laws.specs.Below.{count_below, sum_below}
use Rattle.laws.proofs.Bools.{not-true}
use Rattle.laws.proofs.Below.{count-one, count_none}
use Rattle.railway.specs.declared.Refusal.{Refusal}
use Rattle.railway.specs.declared.Refusal.TheVariants.{Count}
use Rattle.railway.specs.Refusals.{first}
use Rattle.railway.specs.Record.{empty_railway, with_join, with_signal, with_legs, with_train}
use Rattle.railway.specs.Rows.{record_refusal}
use Rattle.railway.specs.Yards.{yard_a}
use Rattle.game.specs.Game.{IsFigure}
use Rattle.game.specs.Placement.{placements}
use Rattle.game.specs.Moves.{game_of}
use Rattle.game.proofs.Figures.{figure-one}
use Rattle.game_tables.specs.SolverAnswer.{SolverAnswer}
use Rattle.game_tables.specs.Tables.{no_figure, figure_in}
use Rattle.game_tables.specs.Solver.{SolverPost}
use Rattle.game_tables.proofs.Examples.{weighed, figs_w}
use Rattle.game_tables.proofs.WeighedYards.{weighed-accepted, weighed-filled}
use Rattle.game_tables.proofs.KnownYards.{figs_a, yard_a-accepted, yard_a-filled}
use Rattle.game_tables.proofs.Solver.{Promised, promised}
use Rattle.counts.specs.CountAnswer.{Counted, Refused}
use Rattle.counts.specs.Counts.{CountReply, in_class, count_refusal, reply_by, count_number, CountPost, NumberOf, Spread, CountsHold}
use Rattle.counts.proofs.Examples.{lost-ones}
use Rattle.counts.proofs.Spreading.{number-each, number-greater, number-none}
use Rattle.counts.proofs.Counts.{counts-hold}

pub nine : placements yard_a ≡ 9
unfolding with_join with_signal with_legs with_train
nine = refl

-- HOW MANY: one that is such is counted, and where none is such there is none
module _ {Such : ℕ → Type 0} {m n : ℕ} (many : NumberOf Such m n) where
  some-such : (p : ℕ) → p < m → Such p → 1 ≤ n
  some-such p l s = omega (arith, count-one many.test m p l ((many.exact p l).1 s), many.many)

  none-such : ((p : ℕ) → p < m → Such p → ⊥) → n ≡ 0
  none-such h = many.many ∙ count_none many.test m (λ p l. not-true (many.test p) (λ e. h p l ((many.exact p l).0 e)))

-- THE SPREAD, of any figures of nine placements, told by any counts
module _ (Is : ℕ → Option ℕ → Type 0) (counts : List ℕ) (s : Spread Is 9 counts) where
  -- a placement with figure 254 is in the last count but two; without such a one there is 0
  one-there : Is 7 (some 254) → 1 ≤ get_or counts 254 0
  one-there i = some-such (s.each 254 (omega arith)) 7 (omega arith) i

  nobody : ((p : ℕ) → Is p (some 3) → ⊥) → get_or counts 3 0 ≡ 0
  nobody h = none-such (s.each 3 (omega arith)) (λ p l. h p)

  -- one with 255 is in the last but one; if all figures are 254 at most, there is 0
  greater-there : Is 7 (some 255) → 1 ≤ get_or counts 255 0
  greater-there i = some-such s.greater 7 (omega arith) (255, omega arith, i)

  nobody-greater : ((p n : ℕ) → Is p (some n) → n ≤ 254) → get_or counts 255 0 ≡ 0
  nobody-greater h = none-such s.greater (λ p l g. omega (arith, g.1, h p g.0 g.2))

  -- one without a figure is in the last
  without-there : Is 8 none → 1 ≤ get_or counts 256 0
  without-there i = some-such s.without 8 (omega arith) i

  all-lead-home : ((p : ℕ) → Is p none → ⊥) → get_or counts 256 0 ≡ 0
  all-lead-home h = none-such s.without (λ p l. h p)

  -- there is none behind that
  no_more : (d : ℕ) → get_or counts 257 d ≡ d
  no_more d = get_or-eq_default counts d {n = 257} (omega (arith, s.sized))

  -- nine in sum
  in_sum : sum_below (λ i. get_or counts i 0) 257 ≡ 9
  in_sum = s.adds-up

abbrev pub zeros : List ℕ
zeros = replicate 9 0

-- WITH THE SOLVER'S TABLE: in Yard A one placement has figure 2, none has a greater one than 254, and six have none
agrees : (p : ℕ) → p < 9 → (f : Option ℕ) → (figure_in figs_a p ≡ f) ↔ IsFigure (game_of yard_a) p f
agrees p l f =
    let i : IsFigure (game_of yard_a) p (figure_in figs_a p) = yard_a-filled.figures p (omega (arith, nine)) in
    ((λ e. rw e at i), λ h. figure-one (game_of yard_a) p (figure_in figs_a p) f i h)

pub known_two : NumberOf (λ p. IsFigure (game_of yard_a) p (some 2)) 9 1
unfolding in_class count_below
known_two = number-each figs_a 9 (IsFigure (game_of yard_a)) agrees 2 1 (omega arith) refl

known-greater : NumberOf (λ p. (n : ℕ) × (254 < n) × IsFigure (game_of yard_a) p (some n)) 9 0
unfolding in_class count_below
known-greater = number-greater figs_a 9 (IsFigure (game_of yard_a)) agrees 0 refl

pub known-none : NumberOf (λ p. IsFigure (game_of yard_a) p none) 9 6
unfolding in_class count_below
known-none = number-none figs_a 9 (IsFigure (game_of yard_a)) agrees 6 refl

-- in Yard A with weights 5 and 2 one has figure 7
nine-weighed : placements weighed ≡ 9
unfolding with_join with_signal with_legs with_train
nine-weighed = refl

agrees-weighed : (p : ℕ) → p < 9 → (f : Option ℕ) → (figure_in figs_w p ≡ f) ↔ IsFigure (game_of weighed) p f
agrees-weighed p l f =
    let i : IsFigure (game_of weighed) p (figure_in figs_w p) = weighed-filled.figures p (omega (arith, nine-weighed)) in
    ((λ e. rw e at i), λ h. figure-one (game_of weighed) p (figure_in figs_w p) f i h)

known-seven : NumberOf (λ p. IsFigure (game_of weighed) p (some 7)) 9 1
unfolding in_class count_below
known-seven = number-each figs_w 9 (IsFigure (game_of weighed)) agrees-weighed 7 1 (omega arith) refl

-- there is such a solver's table
a-solver : Promised yard_a zeros zeros
a-solver = promised yard_a zeros zeros

-- the promise's number, and its reply
promised-number : (figs : List ℕ) (x : CountReply) → CountPost yard_a figs x → count_refusal yard_a figs ≡ none → count_number x.answer ≡ none
promised-number figs x post e = rw e at post.numbered

promised-reply : (figs : List ℕ) (x : CountReply) → CountPost yard_a figs x → count_refusal yard_a figs ≡ none → x ≡ reply_by yard_a figs none
promised-reply figs x post e = rw e at post.replied

-- a record without a section is refused with 3
no-section : record_refusal empty_railway ≡ some Count
unfolding record_refusal first
no-section = refl

-- THE STATEMENT, whoever says it
module _ (holds : CountsHold) where
  -- two that count the same figures count the same
  same-both : (Is : ℕ → Option ℕ → Type 0) (a b : List ℕ) → Spread Is 9 a → Spread Is 9 b → get_or a 2 0 ≡ get_or b 2 0
  same-both Is a b x y = holds.one_number (λ p. Is p (some 2)) 9 (get_or a 2 0) (get_or b 2 0) (x.each 2 (omega arith)) (y.each 2 (omega arith))

  module _ (a : SolverAnswer) (figs sets : List ℕ) (post : SolverPost yard_a a zeros zeros figs sets) (x : CountReply) (counted : CountPost yard_a figs x) where
    pub solved-a : (x.answer ≡ Counted) × Spread (IsFigure (game_of yard_a)) 9 x.counts
    solved-a =
        let long : placements yard_a ≤ length zeros = omega (arith, nine, length-replicate {A = ℕ} 9 0) in
        let s = holds.solved yard_a a zeros zeros figs sets yard_a-accepted long long post x counted in
        (s.0, subst (λ (m : ℕ). Spread (IsFigure (game_of yard_a)) m x.counts) nine s.1)

    pub one-has-two : get_or x.counts 2 0 ≡ 1
    one-has-two = holds.one_number (λ p. IsFigure (game_of yard_a) p (some 2)) 9 (get_or x.counts 2 0) 1 (solved-a.1.each 2 (omega arith)) known_two

    none-greater : get_or x.counts 255 0 ≡ 0
    none-greater =
        holds.one_number (λ p. (n : ℕ) × (254 < n) × IsFigure (game_of yard_a) p (some n)) 9 (get_or x.counts 255 0) 0 solved-a.1.greater known-greater

    pub six-without : get_or x.counts 256 0 ≡ 6
    six-without = holds.one_number (λ p. IsFigure (game_of yard_a) p none) 9 (get_or x.counts 256 0) 6 solved-a.1.without known-none

  -- with weights the figures are totals of them
  one-has-seven : (a : SolverAnswer) (figs sets : List ℕ) → SolverPost weighed a zeros zeros figs sets → (x : CountReply) → CountPost weighed figs x → get_or x.counts 7 0 ≡ 1
  one-has-seven a figs sets post x counted =
      let long : placements weighed ≤ length zeros = omega (arith, nine-weighed, length-replicate {A = ℕ} 9 0) in
      let s = holds.solved weighed a zeros zeros figs sets weighed-accepted long long post x counted in
      let t : Spread (IsFigure (game_of weighed)) 9 x.counts = subst (λ (m : ℕ). Spread (IsFigure (game_of weighed)) m x.counts) nine-weighed s.1 in
      holds.one_number (λ p. IsFigure (game_of weighed) p (some 7)) 9 (get_or x.counts 7 0) 1 (t.each 7 (omega arith)) known-seven

  -- there is such a reply
  some-reply : (x : CountReply) × (get_or x.counts 256 0 ≡ 6)
  some-reply =
      let x = holds.answered yard_a a-solver.new-figs in
      (x.0, six-without a-solver.answer a-solver.new-figs a-solver.new-sets a-solver.keeps x.0 x.1)

  -- both trains on section 1: lost, and without a figure
  lost-there : IsFigure (game_of yard_a) 0 none
  lost-there = holds.lost yard_a 0 lost-ones.0

  -- OF ANY TABLE, and any reply
  module _ (figs : List ℕ) (x : CountReply) (post : CountPost yard_a figs x) where
    -- with nine entries there are counts, and only with so many
    with-nine : 9 ≤ length figs → x.answer ≡ Counted
    with-nine l = (holds.claims yard_a figs x post).counted.1 (yard_a-accepted, omega (arith, nine))

    only-with-nine : x.answer ≡ Counted → 9 ≤ length figs
    only-with-nine e = omega (arith, ((holds.claims yard_a figs x post).counted.0 e).1, nine)

    -- with fewer 9 is given, and only then; with zeros
    pub too_few : length figs < 9 → count_number x.answer ≡ some 9
    too_few l = (holds.claims yard_a figs x post).nine.1 (yard_a-accepted, omega (arith, nine))

    only-too-few : count_number x.answer ≡ some 9 → length figs < 9
    only-too-few e = omega (arith, ((holds.claims yard_a figs x post).nine.0 e).1, nine)

    no-counts : (f : Refusal) → x.answer ≡ Refused f → get_or x.counts 256 0 ≡ 0
    no-counts f e = (holds.claims yard_a figs x post).zeros f e 256

    -- a figure of the table is counted
    counted-there : x.answer ≡ Counted → figure_in figs 4 ≡ some 77 → 1 ≤ get_or x.counts 77 0
    counted-there e f = some-such (((holds.claims yard_a figs x post).spread e).each 77 (omega arith)) 4 (omega (arith, nine)) f

    -- whatever follows the ninth entry is not read
    nothing-past : (more : List ℕ) → 9 ≤ length figs → (y : CountReply) → CountPost yard_a (figs ++ more) y → y ≡ x
    nothing-past more l y p =
        (holds.claims yard_a figs x post).unread (figs ++ more) (omega (arith, nine)) (omega (arith, nine, length-append figs more))
        (λ q b. get_or-append figs more no_figure q (omega (arith, nine)))
        y p

  -- a record without a section gets 3, whatever is lent
  three-first : (figs : List ℕ) (x : CountReply) → CountPost empty_railway figs x → x.answer ≡ Refused Count
  three-first figs x post = (holds.claims empty_railway figs x post).record-first Count no-section

  -- a reply to a table without an entry has 9
  short-answered : (x : CountReply) × (count_number x.answer ≡ some 9)
  short-answered = let x = holds.answered yard_a [] in (x.0, too_few [] x.0 x.1 (omega arith))

-- and it is said: a reply to the solver's table has six without a figure
six-there : (x : CountReply) × (get_or x.counts 256 0 ≡ 6)
six-there = some-reply counts-hold
