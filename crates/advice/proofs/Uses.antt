-- The promise and the statement put to use in the yards of Yards, and in Yard A. Of any answer and any tables of which they hold something is drawn, each time from one field: an end, a figure
-- in a table, a play, a number. Nothing rests on these facts; they hold the fields fast. Assumes nothing.
use mathlib.Core.Path.{◌≡◌, refl, sym, ◌∙◌, ap}
use mathlib.Core.Logic.{inl, inr}
use mathlib.Core.Bool.{true, false}
use mathlib.Core.List.{List}
use mathlib.Core.Option.{Option, none, some}
use Prim.Native.Nat.{ℕ, zero, suc, ◌<◌, ◌≤◌}
use native.Mathlib.Omega.{arith}
use lib.ListN.{length, get_or, replicate}
use Rattle.laws.specs.Below.{any_below, sum_below, list_below}
use Rattle.laws.proofs.Bools.{clash}
use Rattle.railway.specs.declared.Side.{Side}
use Rattle.railway.specs.declared.Side.TheVariants.{Up, Down}
use Rattle.railway.specs.declared.SectionNo.{SectionNo}
use Rattle.railway.specs.declared.End.TheVariants.{Section}
use Rattle.railway.specs.declared.Railway.{Railway}
use Rattle.railway.specs.declared.Refusal.TheVariants.{Space}
use Rattle.railway.specs.Ends.{side_index, end_at}
use Rattle.railway.specs.Refusals.{first}
use Rattle.railway.specs.Record.{is_closed, joined_by, joined, has_signal, legs_of, train_of, weight_of, with_join, with_signal, with_closed, with_legs, with_train}
use Rattle.railway.specs.Rows.{weight_row, unknown_row, join_row, loose_row, longer, chain_row, place_row, record_refusal}
use Rattle.railway.specs.Yards.{yard_a}
use Rattle.game.specs.Game.{Strategy, Adversary, HomeWithin, IsFigure}
use Rattle.game.specs.Placement.{placements, start_code, code_of}
use Rattle.game.specs.Setting.{Setting}
use Rattle.game.specs.Moves.{game_of}
use Rattle.game_tables.specs.Tables.{figure_in, tables_short, case_refusal, Filled}
use Rattle.game_tables.proofs.Refusals.{case-none}
use Rattle.game_tables.proofs.KnownYards.{figs_a, sets_a, yard_a-accepted, yard_a-filled}
use Rattle.game_tables.proofs.Unique.{figure-same}
use Rattle.advice.specs.Advice.{Advice, NotNeeded, Signal, NoneHelps, Refused}
use Rattle.advice.specs.Advising.{HasFigure, HasNone, number_said, AdvicePost, There, Bare, Earlier, signalled, FirstHelping, LastBare, AdviceClaims, AdviceHolds}
use Rattle.advice.proofs.Examples.{following, passing_loop, closed_ring, all_held}
use Rattle.advice.proofs.Claims.{apart}
use Rattle.advice.proofs.Advising.{advice-holds}
use Rattle.advice.proofs.Yards.{Solution, one, two, three, following-alone, following-1d, following-1u}
use Rattle.advice.proofs.Yards.{ring-alone, ring-1d, ring-1u, ring-2d, ring-2u, all-held, loop-alone, loop-1d}
use Rattle.advice.proofs.Yards.{loop-2d, loop-3d}

-- WHAT IS KNOWN of the cases: the figure of a start, or that it has none
start_is : {r : Railway} {p : ℕ} {figs sets : List ℕ} → Solution r p figs sets → p < placements r → (f : Option ℕ) → figure_in figs p ≡ f → IsFigure (game_of r) (start_code r) f
start_is s l f e = rw (s.starts, ← e) (s.filled.figures _ l)

-- a table's figure, from that of another that is filled
same-figure : {r : Railway} {p : ℕ} {figs sets : List ℕ} → Solution r p figs sets → (figs' sets' : List ℕ) → Filled r figs' sets' → (q : ℕ) → q < placements r → figure_in figs' q ≡ figure_in figs q
same-figure {r} {p} {figs} {sets} s figs' sets' f q l = figure-same r s.accepted figs' sets' figs sets f s.filled q l

-- nothing is refused with tables that are long enough
fine-with : {r : Railway} {p : ℕ} {figs₁ sets₁ : List ℕ} → Solution r p figs₁ sets₁ → (m : ℕ) → placements r ≡ m
    → (figs sets : List ℕ) → m ≤ length figs → m ≤ length sets → case_refusal r figs sets ≡ none
fine-with {r} s m e figs sets lf ls = (case-none r figs sets).1 (s.accepted, record { figures = rw e lf; settings = rw e ls })

-- nine placements, and four
nine : (placements following ≡ 9) × (placements (signalled following one Down) ≡ 9) × (placements (signalled following one Up) ≡ 9)
unfolding with_join with_signal with_train
nine = (refl, refl, refl)

nine-ring : (placements closed_ring ≡ 9) × (placements (signalled closed_ring one Down) ≡ 9)
    × (placements (signalled closed_ring one Up) ≡ 9) × (placements (signalled closed_ring two Down) ≡ 9)
    × (placements (signalled closed_ring two Up) ≡ 9)
unfolding with_join with_signal with_closed with_train
nine-ring = (refl, refl, refl, refl, refl)

four-held : placements all_held ≡ 4
unfolding with_join with_signal with_train
four-held = refl

-- the starts
following-none : HasNone following
following-none = start_is following-alone (omega (arith, nine.0)) none refl

with-1d-none : HasNone (signalled following one Down)
with-1d-none = start_is following-1d (omega (arith, nine.1)) none refl

with-1u-figure : HasFigure (signalled following one Up)
with-1u-figure = record { total = 2; figure = start_is following-1u (omega (arith, nine.2)) (some 2) refl }

ring-none : HasNone closed_ring
ring-none = start_is ring-alone (omega (arith, nine-ring.0)) none refl

held_none : HasNone all_held
held_none = start_is all-held (omega (arith, four-held)) none refl

-- WHERE SIGNALS STAND
bare-following : (has_signal following (Section one Up) ≡ false) × (has_signal following (Section one Down) ≡ false)
unfolding has_signal with_join with_signal with_train
bare-following = (refl, refl)

signals-ring : (has_signal closed_ring (Section three Down) ≡ true) × (has_signal closed_ring (Section three Up) ≡ true) × (has_signal closed_ring (Section two Up) ≡ false)
unfolding has_signal with_join with_signal with_closed with_train
signals-ring = (refl, refl, refl)

sections-are : (following.sections ≡ 3) × (closed_ring.sections ≡ 3) × (all_held.sections ≡ 2)
unfolding with_join with_signal with_closed with_train
sections-are = (refl, refl, refl)

-- in a yard of three sections, or two, these are all
of_three : (P : SectionNo → Type 0) → P one → P two → P three → (n : SectionNo) → n.0 < 3 → P n
of_three P a b c n l = at-number n.0 l
  where
    at-number : (k : ℕ) → k < 3 → P (record { 0 = k })
    at-number zero l = a
    at-number (suc zero) l = b
    at-number (suc (suc zero)) l = c
    at-number (suc (suc (suc k))) l = absurd (omega arith)

signals-held : (n : SectionNo) (s : Side) → There all_held n → has_signal all_held (Section n s) ≡ true
unfolding has_signal with_join with_signal with_train
signals-held n s l = at-number n.0 s (omega (arith, sections-are.2))
  where
    at-number : (k : ℕ) (s : Side) → k < 2 → has_signal all_held (Section (record { 0 = k }) s) ≡ true
    at-number zero Up l = refl
    at-number zero Down l = refl
    at-number (suc zero) Up l = refl
    at-number (suc zero) Down l = refl
    at-number (suc (suc k)) s l = absurd (omega arith)

bare-1d : Bare following one Down
bare-1d = record { there = omega (arith, sections-are.0); no-signal = bare-following.1 }

-- before 1u comes 1d alone
first-1u : FirstHelping following one Up
first-1u = record { bare = record { there = omega (arith, sections-are.0); no-signal = bare-following.0 }; helps = with-1u-figure; before = earlier }
  where
    at-number : (k : ℕ) (d : Side) → k ≡ 0 → d ≡ Down → HasNone (signalled following (record { 0 = k }) d)
    at-number k d ek ed = rw (ek, ed) with-1d-none

    earlier : (m : SectionNo) (d : Side) → Bare following m d → Earlier m d one Up → HasNone (signalled following m d)
    earlier m d b (inl l) = absurd (omega arith)
    earlier m d b (inr e) = at-number m.0 d e.0 e.1

-- up is not down
up-down : ◌≡◌ {A = Side} Up Down → ⊥
up-down x = let z : ◌≡◌ {A = ℕ} 1 0 = ap side_index x in absurd (omega arith)

-- the last without a signal in the ring is 2u
last-2u : LastBare closed_ring two Up
last-2u = record { bare = record { there = omega (arith, sections-are.1); no-signal = signals-ring.2 }; behind = later }
  where
    at-number : (k : ℕ) (d : Side) → k ≡ 2 → has_signal closed_ring (Section (record { 0 = k }) d) ≡ false → ⊥
    at-number k Up e h = clash signals-ring.1 (rw e at h)
    at-number k Down e h = clash signals-ring.0 (rw e at h)

    later : (m : SectionNo) (d : Side) → Bare closed_ring m d → Earlier two Up m d → ⊥
    later m d b (inl l) = at-number m.0 d (omega (arith, b.there, sections-are.1)) b.no-signal
    later m d b (inr e) = up-down e.1

-- in the ring no end helps
ring-useless : (n : SectionNo) (s : Side) → Bare closed_ring n s → HasNone (signalled closed_ring n s)
ring-useless n s b = of_three (λ n. Bare closed_ring n s → HasNone (signalled closed_ring n s)) (λ b. at_one s) (λ b. at-two s) (λ b. at-three s b) n (omega (arith, b.there, sections-are.1)) b
  where
    at_one : (s : Side) → HasNone (signalled closed_ring one s)
    at_one Down = start_is ring-1d (omega (arith, nine-ring.1)) none refl
    at_one Up = start_is ring-1u (omega (arith, nine-ring.2)) none refl

    at-two : (s : Side) → HasNone (signalled closed_ring two s)
    at-two Down = start_is ring-2d (omega (arith, nine-ring.3)) none refl
    at-two Up = start_is ring-2u (omega (arith, nine-ring.4)) none refl

    at-three : (s : Side) → Bare closed_ring three s → HasNone (signalled closed_ring three s)
    at-three Down b = clash signals-ring.0 b.no-signal
    at-three Up b = clash signals-ring.1 b.no-signal

pub too_short : case_refusal following (replicate 8 5) (replicate 9 6) ≡ some Space
unfolding case_refusal tables_short first weight_row weight_of unknown_row join_row loose_row chain_row longer place_row end_at
    joined_by joined has_signal legs_of train_of with_join with_signal with_legs with_train any_below is_closed
too_short = refl

-- THE PROMISE. Eight entries are too few for nine placements: 9, and nothing has changed.
pub short : (r : Railway) (a : Advice) (figs' sets' : List ℕ) → r ≡ following
    → AdvicePost r a (replicate 8 5) (replicate 9 6) figs' sets'
    → (number_said a ≡ some 9) × (figs' ≡ replicate 8 5) × (sets' ≡ replicate 9 6)
short r a figs' sets' e p = by-fields a figs' sets' (rw e at p)
  where
    by-fields : (a : Advice) (figs' sets' : List ℕ) → AdvicePost following a (replicate 8 5) (replicate 9 6) figs' sets' → (number_said a ≡ some 9) × (figs' ≡ replicate 8 5) × (sets' ≡ replicate 9 6)
    by-fields a figs' sets' p =
        let n : number_said a ≡ some 9 = rw too_short at p.numbered in
        let k : (figs' ≡ replicate 8 5) × (sets' ≡ replicate 9 6) = rw too_short at p.leaves in
        (n, k.0, k.1)

-- NOTHING IS REFUSED with tables that are long enough
pub following-fine : (figs sets : List ℕ) → 9 ≤ length figs → 9 ≤ length sets → case_refusal following figs sets ≡ none
following-fine = fine-with following-alone 9 nine.0

pub ring-fine : (figs sets : List ℕ) → 9 ≤ length figs → 9 ≤ length sets → case_refusal closed_ring figs sets ≡ none
ring-fine = fine-with ring-alone 9 nine-ring.0

-- FOLLOWING: of any answer and tables of which the claims hold
module _ (a : Advice) (figs sets figs' sets' : List ℕ) (said : AdviceClaims following a figs sets figs' sets') where
  -- 1u is named
  pub names-1u : a ≡ Signal one Up
  names-1u = (said.named one Up).1 (following-none, first-1u)

  -- and nothing else is said
  pub is-needed : a ≡ NotNeeded → ⊥
  is-needed e = apart (said.not-needed.0 e) following-none

  pub one-helps : a ≡ NoneHelps → ⊥
  one-helps e = apart with-1u-figure ((said.none-helps.0 e).1 one Up first-1u.bare)

  -- with a signal there home is forced, by some way of working against every choice of trains
  pub forced : (w : Strategy Setting) × ((c : Adversary Setting) → (n : ℕ) × HomeWithin (game_of (signalled following one Up)) w c (start_code (signalled following one Up)) n)
  forced = let h = ((said.named one Up).0 names-1u).1.helps in (h.figure.0.0, λ c. (h.total, h.figure.0.1 c))

  -- it stood at no end that has a signal, and with one at 1d home is not forced
  pub was-bare : has_signal following (Section one Up) ≡ false
  was-bare = ((said.named one Up).0 names-1u).1.bare.no-signal

  pub not-by-1d : (n : ℕ) → IsFigure (game_of (signalled following one Down)) (start_code (signalled following one Down)) (some n) → ⊥
  not-by-1d n x = apart (record { total = n; figure = x }) (((said.named one Up).0 names-1u).1.before one Down bare-1d (inr (refl, refl, refl)))

  -- the tables are those of the case with that signal: 2 at the start, which has none without it
  pub two-at-start : figure_in figs' 3 ≡ some 2
  two-at-start = same-figure following-1u figs' sets' (said.named-tables one Up names-1u) 3 (omega (arith, nine.2))

  -- and past the nine codes they are as they were
  pub past-kept : (length figs' ≡ length figs) × (length sets' ≡ length sets) × (get_or figs' 9 0 ≡ get_or figs 9 0) × (get_or sets' 9 0 ≡ get_or sets 9 0)
  past-kept = (said.kept-figs.as_long, said.kept_sets.as_long, said.kept-figs.past 9 (omega (arith, nine.0)), said.kept_sets.past 9 (omega (arith, nine.0)))

-- THE LOOP: 2d and 3d would help, and 2d is named, which comes first
sixteen : (placements passing_loop ≡ 16) × (placements (signalled passing_loop one Down) ≡ 16) × (placements (signalled passing_loop two Down) ≡ 16) × (placements (signalled passing_loop three Down) ≡ 16)
unfolding with_join with_signal with_legs with_train
sixteen = (refl, refl, refl, refl)

signals-loop : (has_signal passing_loop (Section one Up) ≡ true) × (has_signal passing_loop (Section two Down) ≡ false) × (has_signal passing_loop (Section three Down) ≡ false) × (passing_loop.sections ≡ 4)
unfolding has_signal with_join with_signal with_legs with_train
signals-loop = (refl, refl, refl, refl)

loop-none : HasNone passing_loop
loop-none = start_is loop-alone (omega (arith, sixteen.0)) none refl

by-2d : HasFigure (signalled passing_loop two Down)
by-2d = record { total = 4; figure = start_is loop-2d (omega (arith, sixteen.2)) (some 4) refl }

by-3d : HasFigure (signalled passing_loop three Down)
by-3d = record { total = 4; figure = start_is loop-3d (omega (arith, sixteen.3)) (some 4) refl }

bare-2d : Bare passing_loop two Down
bare-2d = record { there = omega (arith, signals-loop.3); no-signal = signals-loop.1 }

first-2d : FirstHelping passing_loop two Down
first-2d = record { bare = bare-2d; helps = by-2d; before = earlier }
  where
    at-number : (k : ℕ) (d : Side) → k ≡ 0 → has_signal passing_loop (Section (record { 0 = k }) d) ≡ false → HasNone (signalled passing_loop (record { 0 = k }) d)
    at-number k Down e h = rw e (start_is loop-1d (omega (arith, sixteen.1)) none refl)
    at-number k Up e h = clash signals-loop.0 (rw e at h)

    earlier : (m : SectionNo) (d : Side) → Bare passing_loop m d → Earlier m d two Down → HasNone (signalled passing_loop m d)
    earlier m d b (inl l) = at-number m.0 d (omega arith) b.no-signal
    earlier m d b (inr e) = absurd (up-down (sym e.2))

module _ (a : Advice) (figs sets figs' sets' : List ℕ) (loop-said : AdviceClaims passing_loop a figs sets figs' sets') where
  pub names-2d : a ≡ Signal two Down
  names-2d = (loop-said.named two Down).1 (loop-none, first-2d)

  -- 3d, which helps as well, is not named: 2d comes before it
  pub not-3d : HasFigure (signalled passing_loop three Down) × (a ≡ Signal three Down → ⊥)
  not-3d = (by-3d, λ e. apart by-2d (((loop-said.named three Down).0 e).1.before two Down bare-2d (inl (omega arith))))

-- THE RING
module _ (a : Advice) (figs sets figs' sets' : List ℕ) (ring-said : AdviceClaims closed_ring a figs sets figs' sets') where
  -- no end helps, and the tables are those with a signal at 2u, on the closed section: at (3, 2) they have 2, and the case itself has none
  pub none_here : a ≡ NoneHelps
  none_here = ring-said.none-helps.1 (ring-none, ring-useless)

  pub two-behind : figure_in figs' 5 ≡ some 2
  two-behind = same-figure ring-2u figs' sets' (ring-said.last-tables none_here two Up last-2u) 5 (omega (arith, nine-ring.4))

-- EVERY END HELD: the tables are the case's own
module _ (a : Advice) (figs sets figs' sets' : List ℕ) (held-said : AdviceClaims all_held a figs sets figs' sets') where
  pub nothing-tried : a ≡ NoneHelps
  nothing-tried = held-said.none-helps.1 (held_none, λ n s b. clash (signals-held n s b.there) b.no-signal)

  pub own_home : figure_in figs' 1 ≡ some 0
  own_home = same-figure all-held figs' sets' (held-said.full-tables nothing-tried signals-held) 1 (omega (arith, four-held))

-- YARD A needs no signal, and its tables are its own
nine-a : (placements yard_a ≡ 9) × (start_code yard_a ≡ 7)
unfolding start_code code_of sum_below list_below train_of with_join with_signal with_legs with_train
nine-a = (refl, refl)

pub yard_a-figure : HasFigure yard_a
yard_a-figure = record { total = 2; figure = rw nine-a.1 (yard_a-filled.figures 7 (omega (arith, nine-a.0))) }

pub yard_a-fine : (figs sets : List ℕ) → 9 ≤ length figs → 9 ≤ length sets → case_refusal yard_a figs sets ≡ none
yard_a-fine figs sets lf ls = (case-none yard_a figs sets).1 (yard_a-accepted, record { figures = rw nine-a.0 lf; settings = rw nine-a.0 ls })

bare-yard_a : Bare yard_a one Up
unfolding has_signal with_join with_signal with_legs with_train
bare-yard_a = record { there = omega arith; no-signal = refl }

module _ (a : Advice) (figs sets figs' sets' : List ℕ) (yard-said : AdviceClaims yard_a a figs sets figs' sets') where
  pub none_needed : a ≡ NotNeeded
  none_needed = yard-said.not-needed.1 yard_a-figure

  pub own-start : figure_in figs' 7 ≡ some 2
  own-start = figure-same yard_a yard_a-accepted figs' sets' figs_a sets_a (yard-said.own-tables none_needed) yard_a-filled 7 (omega (arith, nine-a.0))

-- THE STATEMENT. From the promise 1u is named; a refusal is the answer; in any case there is one, and no other; and a case that is tried is accepted, with the same placements and start.
module _ (holds : AdviceHolds) where
  pub from-promise : (a : Advice) (figs sets figs' sets' : List ℕ) → 9 ≤ length figs → 9 ≤ length sets → AdvicePost following a figs sets figs' sets' → a ≡ Signal one Up
  from-promise a figs sets figs' sets' lf ls p = names-1u a figs sets figs' sets' (holds.claims following a figs sets figs' sets' (following-fine figs sets lf ls) p)

  pub is-nine : (a : Advice) (figs' sets' : List ℕ) → AdvicePost following a (replicate 8 5) (replicate 9 6) figs' sets' → (a ≡ Refused Space) × (figs' ≡ replicate 8 5) × (sets' ≡ replicate 9 6)
  is-nine a figs' sets' p = holds.refused following a (replicate 8 5) (replicate 9 6) figs' sets' Space too_short p

  pub there-is : (a : Advice) × (figs' : List ℕ) × (sets' : List ℕ) × AdvicePost following a (replicate 9 5) (replicate 9 6) figs' sets'
  there-is = holds.answered following (replicate 9 5) (replicate 9 6)

  pub no_other : (a b : Advice) (figs sets figs₁ sets₁ figs₂ sets₂ : List ℕ) → a ≡ NoneHelps
      → AdvicePost closed_ring a figs sets figs₁ sets₁ → AdvicePost closed_ring b figs sets figs₂ sets₂ → b ≡ NoneHelps
  no_other a b figs sets figs₁ sets₁ figs₂ sets₂ e x y = sym (holds.only closed_ring a b figs sets figs₁ sets₁ figs₂ sets₂ x y) ∙ e

  pub tried-accepted : (n : SectionNo) (s : Side) → n.0 < 3 → (record_refusal (signalled following n s) ≡ none) × (placements (signalled following n s) ≡ 9) × (start_code (signalled following n s) ≡ 3)
  tried-accepted n s l =
      let x = holds.still-accepted following n s following-alone.accepted (omega (arith, sections-are.0)) in
      (x.accepted, x.placements ∙ nine.0, x.start ∙ following-alone.starts)

  -- Yard A keeps its figure of 2, or gets a smaller one, with a signal more at any end that has none, as 1u; so of whoever fills the tables of that case the start has one
  pub yard_a-no-worse : (n : SectionNo) (s : Side) → Bare yard_a n s → (m : ℕ) × (m ≤ 2) × IsFigure (game_of (signalled yard_a n s)) (start_code (signalled yard_a n s)) (some m)
  unfolding yard_a-figure
  yard_a-no-worse n s b = let x = holds.never-worse yard_a n s yard_a-accepted b yard_a-figure in (x.has.total, x.at-most, x.has.figure)

  pub yard_a-1u : ¬ (HasNone (signalled yard_a one Up))
  yard_a-1u h = let x = yard_a-no-worse one Up bare-yard_a in h x.0 x.2.0

-- and it holds: so there is such an answer, and it is 1u
pub answered-1u : (a : Advice) × (a ≡ Signal one Up)
answered-1u = let x = there-is advice-holds in (x.0, from-promise advice-holds x.0 (replicate 9 5) (replicate 9 6) x.1 x.2 (omega arith) (omega arith) x.3)
