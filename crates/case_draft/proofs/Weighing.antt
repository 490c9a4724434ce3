-- Row 16: the draft has noted a weight that no train may have exactly where a T line says one. The other lines leave that note alone, and once made it
-- stays, whether the line's sections are there or not.
-- Assumes nothing.
use Prim.Native.Nat.{ℕ, suc, ◌-◌}
use mathlib.Core.Path.{◌≡◌, refl, sym, ◌∙◌, ap}
use mathlib.Core.Bool.{Bool, true, false, cond, ◌&&◌, ◌||◌}
use mathlib.Core.List.{List, [], ◌∷◌}
use Rattle.laws.specs.Lists.{any}
use Rattle.railway.specs.declared.Railway.{Railway}
use Rattle.railway.specs.Record.{is_closed, with_closed}
use Rattle.case_file.specs.Form.{section, JoinLine, SignalLine, TrainLine, Description, said_weight}
use Rattle.case_file.specs.Rows.{within, wrong_weight_in, weight_row}
use Rattle.case_draft.specs.declared.Draft.{Draft}
use Rattle.case_draft.specs.KnownEnd.{KnownEnd, NotThere, There}
use Rattle.case_draft.specs.Drafting.{end_in, put_point, put_ends, put_join, put_at, put_signal, put_closed, weighed_in, put_train, with_railway, unknown_in}
use Rattle.case_draft.proofs.Folding.{put_rising, put_each}
use Rattle.case_draft.proofs.Known.{or_nothing, or_assoc, points-keep}

-- LINES THAT SAY NO WEIGHT
each_keeps : {A : Type 0} (put : Draft → A → Draft) → ((w : Draft) (x : A) → (put w x).weight ≡ w.weight)
    → (xs : List A) (w : Draft) → (put_each put w xs).weight ≡ w.weight
unfolding put_each
each_keeps put h [] w = refl
each_keeps put h (x ∷ xs) w = each_keeps put h xs (put w x) ∙ h w x

module _ (w : Draft) where
  ends-keep : (a b : KnownEnd) → (put_ends w a b).weight ≡ w.weight
  ends-keep (There e) (There f) = refl
  ends-keep (There e) NotThere = refl
  ends-keep NotThere b = refl

  join-keeps : (j : JoinLine) → (put_join w j).weight ≡ w.weight
  unfolding put_join
  join-keeps j = ends-keep (end_in w.railway j.one) (end_in w.railway j.other)

  at-keeps : (a : KnownEnd) → (put_at w a).weight ≡ w.weight
  at-keeps (There e) = refl
  at-keeps NotThere = refl

  signal-keeps : (g : SignalLine) → (put_signal w g).weight ≡ w.weight
  unfolding put_signal
  signal-keeps g = at-keeps (end_in w.railway (section g.number g.side))

  closed-keeps : (n : ℕ) → (put_closed w n).weight ≡ w.weight
  unfolding put_closed
  closed-keeps n = cases (within n w.railway.sections)
    where
      cases : (a : Bool)
          → (cond a (record {
            railway = with_closed w.railway (n - 1);
            weight = w.weight;
            unknown = w.unknown;
            wrong = w.wrong;
            double = w.double || is_closed w.railway (n - 1);
          }) (unknown_in w)).weight
          ≡ w.weight
      cases true = refl
      cases false = refl

  -- A T LINE
  either_way : (v : Draft) (a : Bool) (r : Railway) → (cond a (with_railway v r) (unknown_in v)).weight ≡ v.weight
  either_way v true r = refl
  either_way v false r = refl

  train-notes : (n : ℕ) (t : TrainLine) → (put_train w n t).weight ≡ (w.weight || wrong_weight_in t)
  unfolding put_train
  train-notes n t =
      either_way (weighed_in w (said_weight t.weight))
      (within n w.railway.trains && (within t.start w.railway.sections && within t.destination w.railway.sections)) _

trains-note : (ts : List TrainLine) (n : ℕ) (w : Draft) → (put_rising put_train n w ts).weight ≡ (w.weight || any wrong_weight_in ts)
unfolding put_rising any
trains-note [] n w = sym (or_nothing w.weight)
trains-note (t ∷ ts) n w =
    trains-note ts (suc n) (put_train w n t)
    ∙ ap (λ (b : Bool). b || any wrong_weight_in ts) (train-notes w n t) ∙ or_assoc w.weight (wrong_weight_in t) (any wrong_weight_in ts)

-- ALL LINES
pub weight-noted : (d : Description) (w : Draft) → w.weight ≡ false
    → (put_rising put_train 1 (put_each put_closed
    (put_each put_signal (put_each put_join (put_rising put_point 1 w d.legs) d.joins) d.signals) d.closed)
    d.roster).weight ≡ weight_row d
unfolding weight_row
weight-noted d w u =
    let w1 = put_rising put_point 1 w d.legs in
    let w2 = put_each put_join w1 d.joins in
    let w3 = put_each put_signal w2 d.signals in
    let w4 = put_each put_closed w3 d.closed in
    let e1 : w1.weight ≡ w.weight = points-keep (λ x. x.weight) (λ w r. refl) d.legs 1 w in
    let e2 : w2.weight ≡ w1.weight = each_keeps put_join join-keeps d.joins w1 in
    let e3 : w3.weight ≡ w2.weight = each_keeps put_signal signal-keeps d.signals w2 in
    let e4 : w4.weight ≡ w3.weight = each_keeps put_closed closed-keeps d.closed w3 in
    trains-note d.roster 1 w4 ∙ ap (λ (b : Bool). b || any wrong_weight_in d.roster) (e4 ∙ e3 ∙ e2 ∙ e1 ∙ u)
