-- Reading a plan line, as a program may do it. Nothing of document 01 rests on this file: `ReadsLine`, in Checked, says what is read.
-- Assumes nothing.
use Rattle.std.specs.Prelude.{cond, ◌&&◌, List, [], map, ℕ, ◌+◌, ◌-◌, get_or, take, eqb}
use Rattle.std.proofs.Math.Option.{Option, none, some}
use Rattle.laws.specs.Below.{list_below}
use Rattle.laws.specs.Lists.{any}
use Rattle.text.specs.Text.{byte}
use Rattle.text.specs.Reading.{fields, value_of, same_text}
use Rattle.railway.specs.declared.Railway.{Railway}
use Rattle.plan.specs.Lines.{PlacementLine, PlanLine, start_line, placement_line, train_digit, plan_word, spell, fits}

-- The only line for a placement that a text, cut at its tabs, can be the spelling of.
abbrev pub guess_placement : Railway → List (List ℕ) → PlacementLine
guess_placement r fs =
    record {
      sections = map (λ f. value_of 0 f - 1) (take r.trains fs);
      figure = value_of 0 (get_or fs r.trains []);
      opens = list_below (λ t. any (eqb (train_digit t)) (get_or fs (r.trains + 1) [])) r.trains;
      plus = list_below (λ n. eqb (get_or (get_or fs (r.trains + 2) []) n 0) (byte "+")) r.points;
    }

-- The only line of either kind.
unfoldable pub guess : Railway → List (List ℕ) → PlanLine
guess r fs = cond (same_text (get_or fs 0 []) plan_word) (start_line (value_of 0 (get_or fs 1 []))) (placement_line (guess_placement r fs))

-- It is read if it fits the case and is spelled like the text.
abbrev pub read_if : Railway → List ℕ → PlanLine → Option PlanLine
read_if r text l = cond (fits r l && same_text (spell l) text) (some l) none

-- The line that a text spells, if it spells one.
unfoldable pub read_line : Railway → List ℕ → Option PlanLine
read_line r text = read_if r text (guess r (fields text))
