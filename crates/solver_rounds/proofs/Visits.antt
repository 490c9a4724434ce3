-- Visits in place. The search for figure n looks at figures below n alone, and what round n enters is n: so a visit
-- finds what it would have found in the tables as they were when the round began, and visits may be made one after
-- another, in any order and more than once. Assumes nothing.
use mathlib.Core.Path.{◌≡◌, refl, sym, ◌∙◌, ap}
use mathlib.Core.Logic.{◌⊎◌, inl, inr}
use mathlib.Core.Bool.{false}
use mathlib.Core.List.{List}
use mathlib.Core.Option.{Option, none, some}
use Prim.Native.Nat.{ℕ, ◌+◌, ◌≤◌, ◌<◌}
use native.Mathlib.Omega.{arith}
use lib.ListN.{length, get_or, set}
use lib.Seq.{get_or-set_same, get_or-set_other}
use borrow.Author.Tests.{le-leb}
use Rattle.laws.proofs.Bools.{eq?, some-none}
use Rattle.railway.specs.declared.Railway.{Railway}
use Rattle.railway.specs.Bounds.{most_trains, most_weight}
use Rattle.railway.specs.Record.{weight_of}
use Rattle.railway.specs.Rows.{record_refusal}
use Rattle.game.specs.Game.{over, IsFigure}
use Rattle.game.specs.Placement.{placements}
use Rattle.game.specs.Moves.{game_of}
use Rattle.game.proofs.Accepted.{facts}
use Rattle.game.proofs.Figures.{home-forced}
use Rattle.game_tables.specs.Entries.{setting_at}
use Rattle.game_tables.specs.Tables.{no_figure, figure_entry, figure_in}
use Rattle.game_tables.specs.Rounds.{RoundTables}
use Rattle.solver_marks.specs.Marks.{most_codes, due_at, most_at, Room, soon_by, Raised}
use Rattle.game_tables.specs.Find.{find}
use Rattle.game_tables.proofs.Carry.{Carries, find-carry}
use Rattle.solver_settings.specs.Answers.{first_keeping}
use Rattle.solver_rounds.specs.declared.ThisRound.{ThisRound}
use Rattle.solver_rounds.specs.Visits.{Homed, Turned, since, First, Marked, Round, Changed, same, gained, Visited, One}
use Rattle.solver_rounds.proofs.Entries.{entry-some, entry-is, finds-nothing, finds-entry}

pub round-homed : (r : Railway) (n : ℕ) (figs sets : List ℕ) → RoundTables r n figs sets → Homed r figs
round-homed r n figs sets t p l h =
    let z : IsFigure (game_of r) p (some 0) = (home-forced (game_of r) (setting_at r p 0) p h, λ m f. omega arith) in
    t.figures p l (some 0) z ∙ rw (le-leb 0 n (omega arith))

-- ONE PLACEMENT, before and after
module _ (r : Railway) (F : ℕ → Option ℕ) (n q f v f' v' : ℕ) where
  -- it keeps a figure that it has
  changed-onward : F q ≡ figure_entry f → Changed r F n q f v f' v' → (j : ℕ) → F q ≡ some j → figure_entry f' ≡ some j
  changed-onward e (same ef ev) j x = ap figure_entry ef ∙ sym e ∙ x
  changed-onward e (gained empty o ef h) j x = some-none (sym e ∙ x) empty

  -- and has gained no figure but n
  changed-back : F q ≡ figure_entry f → Changed r F n q f v f' v' → (j : ℕ) → j < n
      → figure_entry f' ≡ some j → F q ≡ some j
  changed-back e (same ef ev) j l x = e ∙ ap figure_entry (sym ef) ∙ x
  changed-back e (gained empty o ef h) j l x = let y : f' ≡ j = entry-is f' j x in absurd (omega arith)

  changed-none : Changed r F n q f v f' v' → figure_entry f' ≡ none → figure_entry f ≡ none
  changed-none (same ef ev) x = ap figure_entry (sym ef) ∙ x
  changed-none (gained empty o ef h) x = empty

changed_then : (r : Railway) (F F₁ : ℕ → Option ℕ) (n q f v f₁ v₁ f₂ v₂ : ℕ) → n < no_figure → find r F₁ q n ≡ find r F q n
    → Changed r F n q f v f₁ v₁ → Changed r F₁ n q f₁ v₁ f₂ v₂ → Changed r F n q f v f₂ v₂
changed_then r F F₁ n q f v f₁ v₁ f₂ v₂ small finds (same a b) (same c d) = same (c ∙ a) (d ∙ b)
changed_then r F F₁ n q f v f₁ v₁ f₂ v₂ small finds (same a b) (gained e o c h) =
    gained (ap figure_entry (sym a) ∙ e) o c (sym finds ∙ h)
changed_then r F F₁ n q f v f₁ v₁ f₂ v₂ small finds (gained e o a h) (same c d) =
    gained e o (c ∙ a) (h ∙ ap (λ (x : ℕ). some x) (sym d))
changed_then r F F₁ n q f v f₁ v₁ f₂ v₂ small finds (gained e o a h) (gained e' o' c h') =
    some-none (ap figure_entry a ∙ entry-some n (λ z. omega arith)) e'

-- ANY VISITS
module _ {r : Railway} {n : ℕ} {c : Turned} {S : ℕ → Type 0} {figs sets figs' sets' marks' : List ℕ}
    (s : Visited r n c S figs sets figs' sets' marks') where
  pub visited-onward : (q j : ℕ) → q < placements r → figure_in figs q ≡ some j → figure_in figs' q ≡ some j
  visited-onward q j l = changed-onward r (figure_in figs) n q _ _ _ _ refl (s.each q l) j

  visited-back : Carries r (figure_in figs') (figure_in figs) n
  visited-back q j l = changed-back r (figure_in figs) n q _ _ _ _ refl (s.each q l) j

  visited-finds : record_refusal r ≡ none → (q : ℕ) → q < placements r
      → find r (figure_in figs') q n ≡ find r (figure_in figs) q n
  visited-finds accepted q l =
      find-carry r (facts r accepted) (figure_in figs') (figure_in figs) q n l visited-back
      (λ p j lp b e. visited-onward p j lp e)

  visited-none-yet : (q : ℕ) → q < placements r → figure_in figs' q ≡ none → figure_in figs q ≡ none
  visited-none-yet q l = changed-none r (figure_in figs) n q _ _ _ _ (s.each q l)

  -- for fewer kinds
  pub visited-less : {U : ℕ → Type 0} → ((q : ℕ) → q < placements r → U q → S q)
      → Visited r n c U figs sets figs' sets' marks'
  visited-less h =
      record {
        each = s.each;
        past-figs = s.past-figs;
        past-sets = s.past-sets;
        settled = λ q l u. s.settled q l (h q l u);
        marked = s.marked;
      }

  -- with other marks, when more codes have had their turn
  pub visited-marked : {d : Turned} {marks'' : List ℕ} → Marked r n d figs' marks''
      → Visited r n d S figs sets figs' sets' marks''
  visited-marked k =
      record { each = s.each; past-figs = s.past-figs; past-sets = s.past-sets; settled = s.settled; marked = k }

-- THE ROUND GOES ON
pub round-on : {r : Railway} {this : ThisRound} {c d : Turned} {S : ℕ → Type 0}
    {figs sets marks figs' sets' marks' : List ℕ} → Round r this d figs marks
    → Visited r this.n c S figs sets figs' sets' marks' → Round r this c figs' marks'
round-on o s =
    record {
      compiled = o.compiled;
      laid = o.laid;
      back = o.back;
      counted = o.counted;
      small = o.small;
      soonest = o.soonest;
      homed = λ p l h. visited-onward s p 0 l (o.homed p l h);
      marked = s.marked;
    }

-- NOTHING ENTERED
module _ {r : Railway} {n : ℕ} {c : Turned} {S : ℕ → Type 0} {figs sets marks : List ℕ}
    (k : Marked r n c figs marks) where
  pub visited-rests : ((q : ℕ) → q < placements r → S q → figure_in figs q ≡ none → over (game_of r) q ≡ false
      → find r (figure_in figs) q n ≡ none) → Visited r n c S figs sets figs sets marks
  visited-rests h = record {
    each = λ q l. same refl refl;
    past-figs = λ q d l. refl;
    past-sets = λ q d l. refl;
    settled = h;
    marked = k;
  }

  pub visited-none : ((q : ℕ) → q < placements r → S q → ⊥) → Visited r n c S figs sets figs sets marks
  visited-none h = visited-rests (λ q l u. absurd (h q l u))

-- SOME VISITS, AND SOME MORE
module _ {r : Railway} (accepted : record_refusal r ≡ none) {n : ℕ} {c d : Turned} (small : n + most_weight < no_figure)
    {S T U : ℕ → Type 0} {figs sets figs₁ sets₁ marks₁ figs₂ sets₂ marks₂ : List ℕ}
    (x : Visited r n c S figs sets figs₁ sets₁ marks₁) (y : Visited r n d T figs₁ sets₁ figs₂ sets₂ marks₂)
    (covers : (q : ℕ) → q < placements r → U q → S q ⊎ T q) where
  finds : (q : ℕ) → q < placements r → find r (figure_in figs₁) q n ≡ find r (figure_in figs) q n
  finds = visited-finds x accepted

  pub visited-then : Visited r n d U figs sets figs₂ sets₂ marks₂
  visited-then =
      record {
        each =
            λ q l. changed_then r (figure_in figs) (figure_in figs₁) n q _ _ _ _ _ _ (omega arith) (finds q l)
            (x.each q l) (y.each q l);
        past-figs = λ q e l. y.past-figs q e l ∙ x.past-figs q e l;
        past-sets = λ q e l. y.past-sets q e l ∙ x.past-sets q e l;
        settled = λ q l u e o. elim (covers q l u) [
          | inl s ↦ x.settled q l s (visited-none-yet y q l e) o
          | inr t ↦ sym (finds q l) ∙ y.settled q l t e o
        ];
        marked = y.marked;
      }

-- ONE VISIT, of a placement without a figure
module _ {r : Railway} {this : ThisRound} {d : Turned} {figs marks : List ℕ}
    (o : Round r this d figs marks) (p : ℕ) (l : p < placements r) (empty : figure_in figs p ≡ none)
    (found : Option ℕ) (searched : found ≡ first_keeping r (figure_in figs) p this.n) where
  pub visit-rests : {sets : List ℕ} → found ≡ none → Visited r this.n d (One p) figs sets figs sets marks
  visit-rests e =
      visited-rests o.marked
      (λ q lq u y g. rw u (finds-nothing r this.n p figs found searched e (rw u at g)))

  module _ (inside-figs : p < length figs) (marks' : List ℕ)
      (raise : Room marks → p < most_codes → Raised marks p this.n this.soon marks') where
    raised : Raised marks p this.n this.soon marks'
    raised = raise o.marked.room (omega (arith, o.marked.few))

    -- a figure of the new table is n at p, or stood there before
    figure-of : (q j : ℕ) → figure_in (set figs p this.n) q ≡ some j
        → ((q ≡ p) × (j ≡ this.n)) ⊎ (figure_in figs q ≡ some j)
    figure-of q j e = elim (eq? q p) [
      | inl z ↦
          let a : figure_in (set figs p this.n) p ≡ some j = rw z at e in
          inl (
            z,
            sym (entry-is (get_or (set figs p this.n) p no_figure) j a)
                ∙ get_or-set_same figs p this.n no_figure inside-figs,
          )
      | inr z ↦ inr (sym (ap figure_entry (get_or-set_other figs p q this.n no_figure z)) ∙ e)
    ]

    most : (q j : ℕ) → q < placements r → figure_in (set figs p this.n) q ≡ some j → j ≤ most_at marks' q
    most q j lq e = elim (figure-of q j e) [
      | inl z ↦ rw (z.0, z.1) raised.most
      | inr z ↦ omega (arith, o.marked.most q j lq z, raised.higher q (omega (arith, o.marked.few)))
    ]

    due : (q j t : ℕ) → q < placements r → t < r.trains → First r t → figure_in (set figs p this.n) q ≡ some j
        → since this.n d t q ≤ j + weight_of r t → due_at marks' t q ≤ j + weight_of r t
    due q j t lq lt first e h =
        let ok = facts r o.compiled.accepted in
        let few : t < most_trains = omega (arith, ok.few-trains) in
        elim (figure-of q j e) [
          | inl z ↦
              let is : soon_by this.soon t ≡ this.n + weight_of r t = o.soonest t lt first in
              let light : weight_of r t ≤ most_weight = (ok.weights t lt).1 in
              rw (z.0, z.1) (omega (arith, raised.due t few (omega (arith, o.small))))
          | inr z ↦ omega
              (arith, o.marked.due q j t lq lt first z h, raised.sooner t q few (omega (arith, o.marked.few)))
        ]

    pub visit-gains : {sets : List ℕ} → p < length sets → (v : ℕ) → found ≡ some v
        → Visited r this.n d (One p) figs sets (set figs p this.n) (set sets p v) marks'
    visit-gains {sets} inside-sets v e =
        record {
          each = λ q lq. elim (eq? q p) [
            | inl z ↦ rw z (gained empty x.0 (get_or-set_same figs p this.n no_figure inside-figs)
                (x.1 ∙ ap (λ (y : ℕ). some y) (sym (get_or-set_same sets p v 0 inside-sets))))
            | inr z ↦ same (get_or-set_other figs p q this.n no_figure z) (get_or-set_other sets p q v 0 z)
          ];
          past-figs = λ q e lq. get_or-set_other figs p q this.n e (λ z. omega arith);
          past-sets = λ q e lq. get_or-set_other sets p q v e (λ z. omega arith);
          settled = λ q lq u y g. some-none figure-now (rw u at y);
          marked = record { room = raised.room; few = o.marked.few; most = most; due = due };
        }
      where
        x : (over (game_of r) p ≡ false) × (find r (figure_in figs) p this.n ≡ some v)
        x = finds-entry r this.n p figs found searched (o.homed p l) empty v e

        figure-now : figure_in (set figs p this.n) p ≡ some this.n
        figure-now =
            ap figure_entry (get_or-set_same figs p this.n no_figure inside-figs)
            ∙ entry-some this.n (λ z. omega (arith, o.small))
