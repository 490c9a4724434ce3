-- Both tables by the call for one, in an accepted record; and what a text is answered, by what the reader answers. Assumes nothing.
use mathlib.Core.Path.{◌≡◌, refl, sym, ◌∙◌, subst}
use mathlib.Core.List.{List}
use mathlib.Core.Option.{none}
use Prim.Native.Nat.{ℕ}
use Rattle.std.specs.Result.{result_unwrap_or}
use Rattle.std.specs.Prelude.{Result, Ok, Err}
use Rattle.railway.specs.declared.Side.TheVariants.{Up, Down}
use Rattle.railway.specs.declared.Railway.{Railway}
use Rattle.railway.specs.declared.Refusal.{Refusal}
use Rattle.railway.specs.CaseAnswer.{Accepted, Refused}
use Rattle.railway.specs.Refusals.{number}
use Rattle.railway.specs.Rows.{record_refusal}
use Rattle.case_file.specs.CaseRead.{CaseRead}
use Rattle.case_file.specs.Given.{accepted, ReaderPost}
use Rattle.case_reader.proofs.Answers.{by-refused, by-accepted}
use Rattle.case_reader.proofs.Claims.{reader-gives}
use Rattle.runs.specs.Runs.{RunTable, table_in, replied, RunPost}
use Rattle.runs.proofs.Runs.{table-of}
use Rattle.runs_api.specs.Exported.{RailwayTables, TablesKept, TextTables}

handed : (old : List (List ℕ)) (x : Result (List (List ℕ)) Refusal) → result_unwrap_or x old ≡ table_in (replied old x)
handed old (Ok g) = refl
handed old (Err f) = refl

pub both : (r : Railway) → record_refusal r ≡ none
    → (old₁ old₂ : List (List ℕ)) (x y : Result (List (List ℕ)) Refusal) (up down : List (List ℕ)) → RunPost r Up old₁ (replied old₁ x)
    → RunPost r Down old₂ (replied old₂ y) → up ≡ result_unwrap_or x old₁ → down ≡ result_unwrap_or y old₂ → RailwayTables r 0 up down
both r accepted old₁ old₂ x y up down p q e h =
    record {
      zero = refl;
      is_up = subst (λ (g : List (List ℕ)). RunTable r Up g) (sym (e ∙ handed old₁ x)) (table-of r Up accepted old₁ (replied old₁ x) p);
      is_down = subst (λ (g : List (List ℕ)). RunTable r Down g) (sym (h ∙ handed old₂ y)) (table-of r Down accepted old₂ (replied old₂ y) q);
    }

module _ (case : List ℕ) (a : CaseRead) (post : ReaderPost case a) where
  pub read-accepted : a.answer ≡ Accepted → record_refusal a.railway ≡ none
  read-accepted e = reader-gives case a post a.railway (given a e)
    where
      given : (a : CaseRead) → a.answer ≡ Accepted → a ≡ accepted a.railway
      given a e = λ i. record { answer = e i; railway = a.railway }

  pub text-refused : (up down : List (List ℕ)) (f : Refusal) (n : ℕ) → a.answer ≡ Refused f → n ≡ number f → TextTables case up down n up down
  text-refused up down f n e m =
      by-refused (λ g. TablesKept g up down n up down) (λ r. RailwayTables r n up down) case a post f e (record { numbered = m; same_up = refl; same-down = refl })

  pub text-read : (up down up' down' : List (List ℕ)) (n : ℕ) → a.answer ≡ Accepted → RailwayTables a.railway n up' down' → TextTables case up down n up' down'
  text-read up down up' down' n e t = by-accepted (λ g. TablesKept g up down n up' down') (λ r. RailwayTables r n up' down') case a post e t
