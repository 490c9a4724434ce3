-- Loops of a round, over the ways and trains of a placement, the codes of a range and the weights: each time round
-- visits some more placements. What is visited is a kind, and the kind at the next place is the one here or what is
-- new. Assumes nothing.
use mathlib.Core.Path.{◌≡◌, refl, sym, ◌∙◌, ap}
use mathlib.Core.Logic.{◌⊎◌, inl, inr}
use mathlib.Core.Bool.{true}
use mathlib.Core.List.{List}
use Prim.Native.Nat.{ℕ, ◌+◌, ◌-◌, ◌≤◌, ◌<◌}
use native.Mathlib.Omega.{arith}
use lib.ListN.{length, get_or, take, drop, length-take, length-drop}
use Rattle.std.proofs.lemmas.List.{get_or-take, get_or-drop}
use borrow.Author.Tests.{eqb-true}
use Rattle.laws.specs.Below.{any_below}
use Rattle.laws.proofs.Bools.{bool?, lt?, eq?}
use Rattle.laws.proofs.Below.{any_at}
use Rattle.laws.proofs.Lists.{get_or-inside}
use Rattle.railway.specs.declared.Railway.{Railway}
use Rattle.railway.specs.Record.{weight_of}
use Rattle.game.specs.Placement.{placements}
use Rattle.game_tables.specs.Tables.{no_figure}
use Rattle.solver_dues.specs.Dues.{same_weight}
use Rattle.solver_rounds.specs.declared.ThisRound.{ThisRound}
use Rattle.solver_rounds.specs.Visits.{Turned, Round, Visited, Passed, ByWeight, Comes, Ahead, Weighed, Apart}
use Rattle.solver_rounds.proofs.Entries.{entry-is}
use Rattle.solver_rounds.proofs.Visits.{visited-onward, visited-less, round-on, visited-none, visited-then}

-- A LOOP that has come to i, in this round, of every railway that has these tables, and of which more is given
pub record VisitedTo (Given : Railway → Type 0) (this : ThisRound) (Kind : Railway → ℕ → ℕ → Type 0)
    (figs₀ sets₀ marks₀ figs sets marks : List ℕ) (i : ℕ) : Type 0 where
  pub long-figs : length figs ≡ length figs₀
  pub long-sets : length sets ≡ length sets₀
  pub long-marks : length marks ≡ length marks₀
  pub visited : (r : Railway) (d : Turned) → Given r → Round r this d figs₀ marks₀
      → Visited r this.n d (Kind r i) figs₀ sets₀ figs sets marks

module _ {Given : Railway → Type 0} {this : ThisRound} {Kind : Railway → ℕ → ℕ → Type 0}
    {figs₀ sets₀ marks₀ : List ℕ} where
  module _ {figs sets marks : List ℕ} {i : ℕ}
      (s : VisitedTo Given this Kind figs₀ sets₀ marks₀ figs sets marks i) where
    -- on to j, with more visits
    pub visited-to-next : {New : Railway → ℕ → Type 0} {j : ℕ} {figs' sets' marks' : List ℕ}
        → length figs' ≡ length figs → length sets' ≡ length sets → length marks' ≡ length marks
        → ((r : Railway) (d : Turned) → Given r → Round r this d figs marks
        → Visited r this.n d (New r) figs sets figs' sets' marks')
        → ((r : Railway) (d : Turned) → Given r → Visited r this.n d (Kind r i) figs₀ sets₀ figs sets marks
        → Round r this d figs₀ marks₀ → (q : ℕ) → q < placements r → Kind r j q → Kind r i q ⊎ New r q)
        → VisitedTo Given this Kind figs₀ sets₀ marks₀ figs' sets' marks' j
    visited-to-next ef es em body covers =
        record {
          long-figs = ef ∙ s.long-figs;
          long-sets = es ∙ s.long-sets;
          long-marks = em ∙ s.long-marks;
          visited = λ r d h o.
              let x : Visited r this.n d (Kind r i) figs₀ sets₀ figs sets marks = s.visited r d h o in
              visited-then o.compiled.accepted o.small x (body r d h (round-on o x)) (covers r d h x o);
        }

    -- on to j, with nothing to visit between
    pub visited-to-on : {j : ℕ}
        → ((r : Railway) (d : Turned) → Visited r this.n d (Kind r i) figs₀ sets₀ figs sets marks
        → Round r this d figs₀ marks₀ → (q : ℕ) → Kind r j q → Kind r i q)
        → VisitedTo Given this Kind figs₀ sets₀ marks₀ figs sets marks j
    visited-to-on covers =
        record {
          long-figs = s.long-figs;
          long-sets = s.long-sets;
          long-marks = s.long-marks;
          visited = λ r d h o.
              let x : Visited r this.n d (Kind r i) figs₀ sets₀ figs sets marks = s.visited r d h o in
              visited-less x (λ q l k. covers r d x o q k);
        }

    pub visited-to-end : {End : Railway → ℕ → Type 0}
        → ((r : Railway) (d : Turned) → Given r → Round r this d figs₀ marks₀ → (q : ℕ) → q < placements r
        → End r q → Kind r i q)
        → (r : Railway) (d : Turned) → Given r → Round r this d figs₀ marks₀
        → Visited r this.n d (End r) figs₀ sets₀ figs sets marks
    visited-to-end h r d b o = visited-less (s.visited r d b o) (λ q l k. h r d b o q l k)

-- A SCAN for a figure
module _ (figs : List ℕ) (figure c : ℕ) where
  pub passed-more : (e k : ℕ) → Passed figs figure c e → Passed figs figure e k → Passed figs figure c k
  passed-more e k x y q lq h = elim (lt? q e) [ inl z ↦ x q lq z | inr z ↦ y q z h ]

-- a range without it
pub none-within : (figs : List ℕ) (figure e upto k : ℕ) → upto ≤ length figs → e + k ≤ upto
    → ((i : ℕ) → i < length (take (e + k - e) (drop e figs)) → get_or (take (e + k - e) (drop e figs)) i 0 ≡ figure → ⊥)
    → Passed figs figure e (e + k)
none-within figs figure e upto k long l none q lq h y =
    let i : ℕ = q - e in
    let here : e + i ≡ q = omega arith in
    let inside : i < length (take (e + k - e) (drop e figs)) = omega (arith, length-take (e + k - e) (drop e figs), length-drop e figs) in
    none i inside
    (get_or-take (e + k - e) (drop e figs) i 0 (omega arith) ∙ get_or-drop e figs i 0 ∙ rw here (get_or-inside figs q 0 no_figure (omega arith) ∙ y))

-- THE TRAINS of a placement, of one weight
pub no-train : {r : Railway} {w c q : ℕ} → Comes r w c 0 q → ⊥
no-train k = omega (arith, k.below)

pub train-next : {r : Railway} {w c q : ℕ} (t : ℕ) → Comes r w c (t + 1) q → Comes r w c t q ⊎ ByWeight r w c t q
train-next t k = elim (eq? k.train t) [
  | inl z ↦ inr (record { weighs = rw z at k.weighs; by = rw z at k.by })
  | inr z ↦ inl (record { train = k.train; below = omega (arith, k.below, z); weighs = k.weighs; by = k.by })
]

pub all-trains : {r : Railway} {w c k t q : ℕ} → k ≡ r.trains → k ≤ t → Comes r w c r.trains q → Comes r w c t q
all-trains e l x = record { train = x.train; below = omega (arith, x.below); weighs = x.weighs; by = x.by }

pub train-there : (r : Railway) (k t : ℕ) → k ≡ r.trains → t < k → t < r.trains
train-there r k t e l = omega arith

-- CODES in a range, for one weight
module _ {r : Railway} {n w : ℕ} {figs : List ℕ} where
  pub no-code : {c q : ℕ} → Ahead r n w figs c c q → ⊥
  no-code k = omega (arith, k.after, k.within)

  pub codes-less : {from a b q : ℕ} → a ≤ b → Ahead r n w figs from a q → Ahead r n w figs from b q
  codes-less l k =
      record {
        code = k.code;
        after = k.after;
        within = omega (arith, k.within);
        figure = k.figure;
        makes = k.makes;
        stands = k.stands;
        comes = k.comes;
      }

  -- those below c, or those from c on in the tables that some visits have made
  pub codes-next : {d : Turned} {S : ℕ → Type 0} {sets figs₁ sets₁ marks₁ : List ℕ} {from upto q : ℕ}
      → Visited r n d S figs sets figs₁ sets₁ marks₁ → (c : ℕ) → upto ≤ placements r
      → Ahead r n w figs from upto q → Ahead r n w figs from c q ⊎ Ahead r n w figs₁ c upto q
  codes-next s c l k = elim (lt? k.code c) [
    | inl h ↦ inl (record {
      code = k.code;
      after = k.after;
      within = h;
      figure = k.figure;
      makes = k.makes;
      stands = k.stands;
      comes = k.comes;
    })
    | inr h ↦
        inr
        (record {
          code = k.code;
          after = h;
          within = k.within;
          figure = k.figure;
          makes = k.makes;
          stands = visited-onward s k.code k.figure (omega (arith, k.within)) k.stands;
          comes = k.comes;
        })
  ]

  -- one code
  pub before-one : {q : ℕ} (c : ℕ) → Ahead r n w figs c (c + 1) q → Comes r w c r.trains q
  before-one c k = let z : k.code ≡ c = omega (arith, k.after, k.within) in rw z at k.comes

  -- codes without the figure that makes n
  pub codes-passed : {d : Turned} {S : ℕ → Type 0} {sets figs₁ sets₁ marks₁ : List ℕ} {from c e figure q : ℕ}
      → Visited r n d S figs sets figs₁ sets₁ marks₁ → e ≤ placements r
      → figure + w ≡ n → Passed figs₁ figure c e → Ahead r n w figs from e q → Ahead r n w figs from c q
  codes-passed {figs₁ = figs₁} {c = c} s l en x k = elim (lt? k.code c) [
    | inl h ↦ record {
      code = k.code;
      after = k.after;
      within = h;
      figure = k.figure;
      makes = k.makes;
      stands = k.stands;
      comes = k.comes;
    }
    | inr h ↦
        let f : get_or figs₁ k.code no_figure ≡ k.figure =
        entry-is (get_or figs₁ k.code no_figure) k.figure
        (visited-onward s k.code k.figure (omega (arith, k.within)) k.stands) in
        absurd (x k.code h k.within (omega (arith, k.makes)))
  ]

  -- a weight over n
  pub too-heavy : {from upto q : ℕ} → n < w → Ahead r n w figs from upto q → ⊥
  too-heavy l k = omega (arith, k.makes)

-- WEIGHTS, each at the lowest train that has it
module _ {r : Railway} {n : ℕ} {figs : List ℕ} {from upto : ℕ} where
  pub no-weight : {q : ℕ} → Weighed r n figs from upto 0 q → ⊥
  no-weight k = omega (arith, k.below)

  pub weight-next : {q : ℕ} (t : ℕ) → Weighed r n figs from upto (t + 1) q
      → Weighed r n figs from upto t q ⊎ Apart r n figs from upto t q
  weight-next t k = elim (eq? k.train t) [
    | inr z ↦ inl (record { train = k.train; below = omega (arith, k.below, z); ahead = k.ahead })
    | inl z ↦ elim (bool? (any_below (same_weight r t) t)) [
      | inr e ↦ inr (record { first = e; ahead = rw z at k.ahead })
      | inl e ↦
          let x : (u : ℕ) × (u < t) × (same_weight r t u ≡ true) = any_at (same_weight r t) t e in
          let same : weight_of r k.train ≡ weight_of r x.0 = ap (weight_of r) z ∙ sym (eqb-true _ _ x.2) in
          inl (record { train = x.0; below = x.1; ahead = rw same at k.ahead })
    ]
  ]

  -- the frontier in the tables that some visits have made is still what it was, of the weight of train t
  pub apart-on : {d : Turned} {S : ℕ → Type 0} {sets figs₁ sets₁ marks₁ : List ℕ} {t q : ℕ}
      → Visited r n d S figs sets figs₁ sets₁ marks₁ → upto ≤ placements r → Apart r n figs from upto t q
      → Apart r n figs₁ from upto t q
  apart-on s l k =
      record {
        first = k.first;
        ahead =
            record {
              code = k.ahead.code;
              after = k.ahead.after;
              within = k.ahead.within;
              figure = k.ahead.figure;
              makes = k.ahead.makes;
              stands =
                  visited-onward s k.ahead.code k.ahead.figure
                  (omega (arith, k.ahead.within)) k.ahead.stands;
              comes = k.ahead.comes;
            };
      }
