-- The runs of all trains, read off the tables of their headings train by train. Assumes nothing.
use mathlib.Core.Path.{◌≡◌, refl, sym, ◌∙◌, ap, subst}
use mathlib.Core.Logic.{inl, inr}
use mathlib.Core.List.{List}
use mathlib.Core.Option.{none}
use Prim.Native.Nat.{ℕ, suc, ◌+◌, ◌≤◌, ◌<◌}
use native.Mathlib.Omega.{arith}
use native.Mathlib.Numerals.{add-one}
use lib.ListN.{length, get_or, set, replicate, length-set, length-replicate}
use lib.Seq.{get_or-set_same, get_or-set_other}
use Rattle.std.specs.Prelude.{Result, Ok, Err}
use Rattle.std.specs.Result.{result_unwrap_or}
use Rattle.laws.specs.Below.{sum_below}
use Rattle.laws.proofs.Bools.{eq?}
use Rattle.railway.specs.declared.Side.{Side}
use Rattle.railway.specs.declared.Side.TheVariants.{Up, Down}
use Rattle.railway.specs.declared.Train.{Train}
use Rattle.railway.specs.declared.Railway.{Railway}
use Rattle.railway.specs.declared.Refusal.{Refusal}
use Rattle.railway.specs.Bounds.{most_sections, most_trains}
use Rattle.railway.specs.Record.{train_of}
use Rattle.railway.specs.Rows.{record_refusal}
use Rattle.game.proofs.Accepted.{facts}
use Rattle.runs.specs.Runs.{entry_at, RunTable, table_in, replied, RunPost, table_of, train_run}
use Rattle.runs.proofs.Runs.{table-of}
use Rattle.runs_text.specs.Written.{TrainsRun}

-- A TRAIN: the table of its heading
pub of-heading : (up down : List (List ℕ)) (heading side : Side) (x y v : ℕ) → heading ≡ side → v ≡ entry_at (table_of up down side) x y → v ≡ entry_at (table_of up down heading) x y
of-heading up down heading side x y v e h = rw e h

-- ALL TRAINS below t
pub record ReadTo (r : Railway) (up down : List (List ℕ)) (runs : List ℕ) (t : ℕ) : Type 0 where
  pub sized : length runs ≡ most_trains
  pub each : (i : ℕ) → i < t → (train_of r i).start.0 < most_sections → (train_of r i).destination.0 < most_sections → get_or runs i 0 ≡ train_run r up down i

pub none_read : (r : Railway) (up down : List (List ℕ)) (runs : List ℕ) → runs ≡ replicate most_trains 0 → ReadTo r up down runs 0
none_read r up down runs e = record { sized = ap length e ∙ length-replicate {A = ℕ} most_trains 0; each = λ i l. absurd (omega (arith, l)) }

pub one-read : (r : Railway) (up down : List (List ℕ)) (runs : List ℕ) (t v : ℕ) (train : Train) → t < most_trains → train ≡ train_of r t
    → (train.start.0 < most_sections → train.destination.0 < most_sections → v ≡ entry_at (table_of up down train.heading) train.start.0 train.destination.0)
    → ReadTo r up down runs t → ReadTo r up down (set runs t v) (t + 1)
one-read r up down runs t v train l is run h =
    record {
      sized = length-set runs t v ∙ h.sized;
      each = λ i m a b. elim (eq? i t) [
        | inl e ↦ here i e a b
        | inr e ↦ get_or-set_other runs t i v 0 e ∙ h.each i (omega arith) a b
      ];
    }
  where
    there : get_or (set runs t v) t 0 ≡ v
    there = get_or-set_same runs t v 0 (let k : length runs ≡ most_trains = h.sized in rw k l)

    here : (i : ℕ) → i ≡ t → (train_of r i).start.0 < most_sections → (train_of r i).destination.0 < most_sections → get_or (set runs t v) i 0 ≡ train_run r up down i
    here i e a b = rw e (there ∙ (rw is at run) (rw e at a) (rw e at b))

pub all_read : (r : Railway) (up down : List (List ℕ)) (runs : List ℕ) (t i : ℕ) → most_trains ≤ t → i < most_trains → (train_of r i).start.0 < most_sections
    → (train_of r i).destination.0 < most_sections
    → ReadTo r up down runs t → get_or runs i 0 ≡ train_run r up down i
all_read r up down runs t i l m a b h = h.each i (omega arith) a b

-- BY THE CALLS for both tables, in an accepted record
handed : (old : List (List ℕ)) (x : Result (List (List ℕ)) Refusal) → result_unwrap_or x old ≡ table_in (replied old x)
handed old (Ok g) = refl
handed old (Err f) = refl

pub trains-run : (r : Railway) (accepted : record_refusal r ≡ none) (old₁ old₂ : List (List ℕ)) (x y : Result (List (List ℕ)) Refusal) (up down : List (List ℕ)) (runs : List ℕ)
    → RunPost r Up old₁ (replied old₁ x) → RunPost r Down old₂ (replied old₂ y)
    → up ≡ result_unwrap_or x old₁ → down ≡ result_unwrap_or y old₂
    → ((t : ℕ) → t < most_trains → (train_of r t).start.0 < most_sections → (train_of r t).destination.0 < most_sections → get_or runs t 0 ≡ train_run r up down t) → TrainsRun r runs
trains-run r accepted old₁ old₂ x y up down runs p q e h each =
    let ok = facts r accepted in
    record {
      up = up;
      down = down;
      is_up = subst (λ (g : List (List ℕ)). RunTable r Up g) (sym (e ∙ handed old₁ x)) (table-of r Up accepted old₁ (replied old₁ x) p);
      is_down = subst (λ (g : List (List ℕ)). RunTable r Down g) (sym (h ∙ handed old₂ y)) (table-of r Down accepted old₂ (replied old₂ y) q);
      each = λ t l. each t (omega (arith, l, ok.few-trains)) (omega (arith, ok.starts t l, ok.few-sections)) (omega (arith, ok.destinations t l, ok.few-sections));
    }

-- IN SUM: one more, and all
pub sum-next : (runs : List ℕ) (t n v : ℕ) → n ≡ sum_below (λ i. get_or runs i 0) t → v ≡ get_or runs t 0 → n + v ≡ sum_below (λ i. get_or runs i 0) (t + 1)
unfolding sum_below
sum-next runs t n v e is = let k : t + 1 ≡ suc t = add-one t in rw (k, e, is) refl
