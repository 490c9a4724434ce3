-- What a railway is answered follows from what the searcher promises, whose answers are taken apart and put into numbers; none of these stands for two answers, and a search in
-- numbers stands for itself. A call that is refused leaves tables and marks as they were, by the rows of the case. Assumes nothing.
use mathlib.Core.Path.{◌≡◌, refl, sym, ◌∙◌, ap, subst}
use mathlib.Core.Bool.{Bool, true, false, cond, not}
use mathlib.Core.List.{List}
use mathlib.Core.Option.{Option, none, some, get_or}
use Prim.Native.Nat.{ℕ}
use native.Mathlib.Omega.{arith}
use lib.Dec.{eqb}
use Rattle.laws.proofs.Bools.{some-none}
use Rattle.railway.specs.declared.Railway.{Railway}
use Rattle.railway.specs.declared.Refusal.{Refusal}
use Rattle.railway.specs.Refusals.{number, number_of}
use Rattle.railway.proofs.Refusals.{between}
use Rattle.game_placement.specs.declared.Placement.{Placement}
use Rattle.game_placement.specs.ByValue.{section_in}
use Rattle.game_tables.specs.Tables.{case_refusal}
use Rattle.search.specs.declared.Search.{Search}
use Rattle.search.specs.SearchAnswer.{SearchAnswer, Going, Ended, Refused}
use Rattle.search.specs.Shown.{Shown, Figure, NotYet, NoFigure, Refused as ShownRefused}
use Rattle.search.specs.Searching.{State, number_given, going_on, OpenLeaves, OpenPost, RoundLeaves, SearchPost, looked_up}
use Rattle.search_calls.specs.Steps.{searching}
use Rattle.search_api.specs.Exported.{search_numbers, search_of, AllStandForThemselves, Lent, lent, state_of, lent_of}
use Rattle.search_api.specs.Exported.{left_with, OpenedRailway, round_number, RoundedRailway, placement_of}
use Rattle.search_api.specs.Exported.{shown_number, figure_left, LookedRailway, AnswerToldApart, ShownToldApart, AllToldApart}

-- THE SEARCH IN NUMBERS
ended_so : (b : Bool) → not (eqb (cond b 1 0) 0) ≡ b
ended_so true = refl
ended_so false = refl

pub stand-for-themselves : AllStandForThemselves
stand-for-themselves s = ap (λ (b : Bool). record { rounds = s.rounds; ended = b; coming = s.coming }) (ended_so s.ended)

-- WHAT A NUMBER TELLS
pub told-apart : AllToldApart
told-apart = (
  λ (a : SearchAnswer).
      elim a as (λ (k : SearchAnswer). AnswerToldApart k) [
        | Going ↦ record { opened = λ e. refl; going = λ e. refl; ended = λ e. absurd (omega (arith, e)) }
        | Ended ↦ record { opened = λ e. refl; going = λ e. absurd (omega (arith, e)); ended = λ e. refl }
        | Refused f ↦ (let b = between f in record { opened = λ e. absurd (omega (arith, e, b.0)); going = λ e. absurd (omega (arith, e, b.0)); ended = λ e. absurd (omega (arith, e, b.1)) })
      ],
  λ (a : Shown) (figure : ℕ).
      elim a as (λ (k : Shown). ShownToldApart k figure) [
        | Figure n ↦ record { shown = λ e. refl; not_yet = λ e. absurd (omega (arith, e)); without = λ e. absurd (omega (arith, e)) }
        | NotYet ↦ record { shown = λ e. absurd (omega (arith, e)); not_yet = λ e. refl; without = λ e. absurd (omega (arith, e)) }
        | NoFigure ↦ record { shown = λ e. absurd (omega (arith, e)); not_yet = λ e. absurd (omega (arith, e)); without = λ e. refl }
        | ShownRefused f ↦ (let b = between f in record {
          shown = λ e. absurd (omega (arith, e, b.0));
          not_yet = λ e. absurd (omega (arith, e, b.1));
          without = λ e. absurd (omega (arith, e, b.1));
        })
      ],
)

-- OPENING. Tables and marks behind a refusal
abbrev beside : List ℕ → State → Lent
beside state s = lent state s.figs s.sets s.marks

open_kept : (r : Railway) (state figs sets marks : List ℕ) (a : SearchAnswer) (s : State) (k : ℕ) (o : Option Refusal) → some k ≡ number_of o → OpenLeaves r figs sets marks a s o
    → beside state s ≡ lent state figs sets marks
open_kept r state figs sets marks a s k (some f) e l = ap (beside state) l
open_kept r state figs sets marks a s k none e l = some-none (sym e) refl

-- an answer that is no refusal has no number, and leaves the search in numbers
going-tells : (b : Bool) → (number_given (cond b Ended Going) ≡ none)
    × ((old : Lent) (s : State) → left_with old (cond b Ended Going) s ≡ lent_of s)
going-tells true = (refl, λ old s. refl)
going-tells false = (refl, λ old s. refl)

module _ (r : Railway) (state figs sets marks : List ℕ) (a : SearchAnswer) (s : Search) (figs' sets' marks' : List ℕ) (post : OpenPost r figs sets marks a (searching s figs' sets' marks')) where
  opens-with : (v : SearchAnswer) → a ≡ v → OpenPost r figs sets marks v (searching s figs' sets' marks')
  opens-with v e = subst (λ (x : SearchAnswer). OpenPost r figs sets marks x (searching s figs' sets' marks')) e post

  pub opened-refused : (f : Refusal) → a ≡ Refused f → (n : ℕ) → n ≡ number f → OpenedRailway r (lent state figs sets marks) n (lent state figs' sets' marks')
  opened-refused f e n m =
      let p = opens-with (Refused f) e in
      record {
        answer = Refused f;
        state = searching s figs' sets' marks';
        opened = p;
        numbered = m;
        leaves = open_kept r state figs sets marks (Refused f) (searching s figs' sets' marks') (number f) (case_refusal r figs sets) p.numbered p.leaves;
      }

  pub opened-railway : a ≡ going_on s → (ns : List ℕ) → ns ≡ search_numbers s → OpenedRailway r (lent state figs sets marks) 0 (lent ns figs' sets' marks')
  opened-railway e ns k =
      let t = going-tells s.ended in
      record {
        answer = going_on s;
        state = searching s figs' sets' marks';
        opened = opens-with (going_on s) e;
        numbered = ap (λ (x : Option ℕ). get_or x 0) (sym t.0);
        leaves = ap (λ (x : List ℕ). lent x figs' sets' marks') k ∙ sym (t.1 (lent state figs sets marks) (searching s figs' sets' marks'));
      }

-- A ROUND
round-kept : (r : Railway) (state : List ℕ) (old : State) (a : SearchAnswer) (s : State) (k : ℕ) (o : Option Refusal)
    → some k ≡ number_of o → RoundLeaves r old a s o → beside state s ≡ beside state old
round-kept r state old a s k (some f) e l = ap (beside state) l
round-kept r state old a s k none e l = some-none (sym e) refl

module _ (r : Railway) (state figs sets marks : List ℕ) (s₀ : Search) (at : s₀ ≡ search_of state) (a : SearchAnswer) (s : Search) (figs' sets' marks' : List ℕ)
    (post : SearchPost r (searching s₀ figs sets marks) a (searching s figs' sets' marks')) where
  rounds-with : (v : SearchAnswer) → a ≡ v → SearchPost r (state_of (lent state figs sets marks)) v (searching s figs' sets' marks')
  rounds-with v e =
      subst (λ (x : SearchAnswer).
      SearchPost r (state_of (lent state figs sets marks)) x (searching s figs' sets' marks')) e (subst
      (λ (x : Search). SearchPost r (searching x figs sets marks) a (searching s figs' sets' marks')) at post)

  pub rounded-refused : (f : Refusal) → a ≡ Refused f → (n : ℕ) → n ≡ number f → RoundedRailway r (lent state figs sets marks) n (lent state figs' sets' marks')
  rounded-refused f e n m =
      let p = rounds-with (Refused f) e in
      record {
        answer = Refused f;
        state = searching s figs' sets' marks';
        rounded = p;
        numbered = m;
        leaves = round-kept r state (state_of (lent state figs sets marks)) (Refused f) (searching s figs' sets' marks') (number f) (case_refusal r figs sets) p.numbered p.leaves;
      }

  pub rounded-railway : (v : SearchAnswer) → a ≡ v → lent_of (searching s figs' sets' marks') ≡ left_with (lent state figs sets marks) v (searching s figs' sets' marks')
      → (ns : List ℕ) → ns ≡ search_numbers s → RoundedRailway r (lent state figs sets marks) (round_number v) (lent ns figs' sets' marks')
  rounded-railway v e l ns k =
      record {
        answer = v;
        state = searching s figs' sets' marks';
        rounded = rounds-with v e;
        numbered = refl;
        leaves = ap (λ (x : List ℕ). lent x figs' sets' marks') k ∙ l;
      }

-- LOOKING UP
module _ (r : Railway) (state figs sets sections : List ℕ) (figure : ℕ) where
  pub looked-railway : (s : Search) → s ≡ search_of state → (q : Placement) → q ≡ placement_of sections → (a : Shown) → a ≡ looked_up r (section_in q) s figs sets → (v : Shown) → a ≡ v
      → (n : ℕ) → n ≡ shown_number v → LookedRailway r state figs sets sections figure n (figure_left figure v)
  looked-railway s at q there a told v e n m =
      let same : v ≡ looked_up r (section_in (placement_of sections)) (search_of state) figs sets =
      sym e ∙ told ∙ ap (λ (x : Placement). looked_up r (section_in x) s figs sets) there ∙ ap (λ (x : Search). looked_up r (section_in (placement_of sections)) x figs sets) at in
      record { numbered = m ∙ ap shown_number same; leaves = ap (figure_left figure) same }
