-- Nothing of a desk, or of what the calls answer, is left out where desk/Desk speaks of them: from what is told the whole comes back, field by field. Assumes nothing.
use mathlib.Core.Path.{◌≡◌, refl, sym, ◌∙◌, ap}
use Rattle.std.specs.Prelude.{Option, Some, None, Result, Ok, Err}
use Rattle.railway.specs.declared.Refusal.{Refusal}
use Rattle.desk.specs.OpenAnswer.{OpenAnswer, Opened, NoFigure, Refused}
use Rattle.desk.specs.ReportAnswer.{ReportAnswer}
use Rattle.desk.specs.ChangeAnswer.{ChangeAnswer}
use Rattle.desk.specs.Desk.{Desk as DeskAt, Opening, Reply}
use Rattle.desk.specs.Change.{Changing}
use Rattle.desk_calls.specs.declared.Desk.{Desk}
use Rattle.desk_calls.specs.Answers.{desk_at, opening, replied, changing}

abbrev held_at : DeskAt → Desk
held_at d = record { at = d.at; code = d.code; arrived = d.arrived }

pub desk-one : (d e : Desk) → desk_at d ≡ desk_at e → d ≡ e
desk-one d e q = ap held_at q

abbrev opened_with : OpenAnswer → DeskAt → Result (Option Desk) Refusal
opened_with Opened d = Ok (Some (held_at d))
opened_with NoFigure d = Ok None
opened_with (Refused f) d = Err f

opening-back : (x : Result (Option Desk) Refusal) → opened_with (opening x).answer (opening x).desk ≡ x
opening-back (Ok (Some d)) = refl
opening-back (Ok None) = refl
opening-back (Err f) = refl

pub opening-one : (x y : Result (Option Desk) Refusal) → opening x ≡ opening y → x ≡ y
opening-one x y q = sym (opening-back x) ∙ ap (λ (w : Opening). opened_with w.answer w.desk) q ∙ opening-back y

pub replied-one : (a b : ReportAnswer) (d e : Desk) → replied a d ≡ replied b e → (a ≡ b) × (d ≡ e)
replied-one a b d e q = (ap (λ (w : Reply). w.answer) q, ap (λ (w : Reply). held_at w.desk) q)

pub changing-one : (a b : ChangeAnswer) (d e : Desk) → changing a d ≡ changing b e → (a ≡ b) × (d ≡ e)
changing-one a b d e q = (ap (λ (w : Changing). w.answer) q, ap (λ (w : Changing). held_at w.desk) q)
