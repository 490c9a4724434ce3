-- When each number of a change is given, at work between Yard A with weights and Yard A with section 2 closed or with train 1 about: whatever the desk and the tables, something is drawn from
-- each half of each statement, and from each part of what they rest on. Assumes nothing.
use mathlib.Core.Path.{◌≡◌, refl, sym, ◌∙◌, ap}
use mathlib.Core.Logic.{◌⊎◌, inl, inr}
use mathlib.Core.Bool.{true}
use mathlib.Core.List.{List}
use mathlib.Core.Option.{none, some}
use Prim.Native.Nat.{ℕ, ◌≤◌, ◌<◌}
use native.Mathlib.Omega.{arith}
use lib.ListN.{length}
use Rattle.laws.specs.Below.{any_below, sum_below, list_below}
use Rattle.laws.proofs.Bools.{clash, some-none}
use Rattle.railway.specs.declared.Railway.{Railway}
use Rattle.railway.specs.declared.Refusal.TheVariants.{Mismatch, Space, Report, Stranded}
use Rattle.railway.specs.Ends.{side_index}
use Rattle.railway.specs.Record.{train_of, with_join, with_signal, with_closed, with_legs, with_train}
use Rattle.railway.specs.Yards.{yard_a}
use Rattle.case_file.specs.Given.{AcceptedWith}
use Rattle.case_file.proofs.Given.{accepted-one, accepted-exactly}
use Rattle.game.specs.Placement.{code_of, sections_in, stands_on, names_none, placements, shared}
use Rattle.game_tables.specs.Tables.{figure_in}
use Rattle.game_tables.proofs.Examples.{weighed}
use Rattle.game_tables.proofs.WeighedYards.{weighed-accepted}
use Rattle.desk.specs.ChangeAnswer.{Changed, Refused}
use Rattle.desk.specs.Desk.{Desk, desk_code, misplaced, desk_row}
use Rattle.desk.specs.Change.{Changing, number_changed, ChangePost, SameShape, SameBound, ChangeHolds}
use Rattle.desk.proofs.Examples.{on}
use Rattle.desk.proofs.ChangeExamples.{shut, about, wrong}
use Rattle.desk.proofs.ChangeUses.{yards, of_two, nine, code-six}

-- the text says one railway
one-case : (text : List ℕ) (q s : Railway) → AcceptedWith text q → AcceptedWith text s → q ≡ s
one-case text q s a b = accepted-one text q s ((accepted-exactly text q).1 a) ((accepted-exactly text s).1 b)

-- Yard A with section 2 closed has the shape of the weighted one; with train 1 about it has not
pub same_shape : SameShape weighed shut
unfolding train_of with_join with_signal with_closed with_legs with_train
same_shape = record { sections = refl; trains = refl; headings = of_two (λ t. (train_of weighed t).heading ≡ (train_of shut t).heading) refl refl }

pub other-shape : SameShape weighed about → ⊥
unfolding train_of with_join with_signal with_legs with_train
other-shape h = let e : side_index (train_of weighed 0).heading ≡ side_index (train_of about 0).heading = ap side_index (h.headings 0 (omega arith)) in omega (arith, e)

-- 12 stops a desk with both trains on 2
stopped : desk_row weighed (on 2 2) ≡ true
unfolding misplaced names_none shared stands_on sections_in code_of list_below sum_below any_below with_join with_signal with_legs with_train
stopped = refl

module _ (says : ChangeHolds) (text figs sets : List ℕ) (d : Desk) (y : Changing) where
  -- 14: to a case in which train 1 heads the other way, whatever is lent; never to one of the same shape, and never from a record that is refused
  is-fourteen : AcceptedWith text about → ChangePost weighed text d figs sets y → number_changed y.answer ≡ some 14
  is-fourteen a post = ap number_changed ((says.fourteen weighed text d figs sets y post).1 (record { railway = about; old = weighed-accepted; read = a }, other-shape))

  not-fourteen : AcceptedWith text shut → ChangePost weighed text d figs sets y → y.answer ≡ Refused Mismatch → ⊥
  not-fourteen a post e =
      let b = (says.fourteen weighed text d figs sets y post).0 e in
      let q : b.0.railway ≡ shut = one-case text b.0.railway shut b.0.read a in
      b.1 (rw q same_shape)

  not-from-wrong : ChangePost wrong text d figs sets y → y.answer ≡ Refused Mismatch → ⊥
  not-from-wrong post e = some-none yards.five ((says.fourteen wrong text d figs sets y post).0 e).0.old

  -- 9: with fewer than nine entries in either table, whatever the desk, and only so
  module _ (post : ChangePost weighed text d figs sets y) where
    nine-figures : AcceptedWith text shut → length figs < 9 → number_changed y.answer ≡ some 9
    nine-figures a l =
        ap number_changed ((says.nine weighed text d figs sets y post).1
        (record { both = record { railway = shut; old = weighed-accepted; read = a }; shape = same_shape }, inl (omega (arith, l, nine shut same_shape))))

    nine-settings : AcceptedWith text shut → length sets < 9 → number_changed y.answer ≡ some 9
    nine-settings a l =
        ap number_changed ((says.nine weighed text d figs sets y post).1
        (record { both = record { railway = shut; old = weighed-accepted; read = a }; shape = same_shape }, inr (omega (arith, l, nine shut same_shape))))

    eight-at-most : y.answer ≡ Refused Space → (length figs < 9) ⊎ (length sets < 9)
    eight-at-most e =
        let b = (says.nine weighed text d figs sets y post).0 e in
        let k : placements b.0.both.railway ≡ 9 = nine b.0.both.railway b.0.shape in
        elim b.1 [ inl l ↦ inl (omega (arith, k, l)) | inr l ↦ inr (omega (arith, k, l)) ]

  -- 12: where both trains stand on 2, with tables that are long enough; only with such tables, and never where a desk is sound
  is-twelve : AcceptedWith text shut → 9 ≤ length figs → 9 ≤ length sets → d ≡ on 2 2 → ChangePost weighed text d figs sets y → number_changed y.answer ≡ some 12
  is-twelve a lf ls e post =
      ap number_changed ((says.twelve weighed text d figs sets y post).1 (
        record {
          fits = record { both = record { railway = shut; old = weighed-accepted; read = a }; shape = same_shape };
          figures = omega (arith, lf, nine shut same_shape);
          settings = omega (arith, ls, nine shut same_shape);
        },
        ap (desk_row weighed) e ∙ stopped,
      ))

  only-long : ChangePost weighed text d figs sets y → y.answer ≡ Refused Report → (9 ≤ length figs) × (9 ≤ length sets)
  only-long post e =
      let b = ((says.twelve weighed text d figs sets y post).0 e).0 in
      let k : placements b.fits.both.railway ≡ 9 = nine b.fits.both.railway b.fits.shape in
      (omega (arith, k, b.figures), omega (arith, k, b.settings))

  not-twelve : d ≡ on 2 3 → ChangePost weighed text d figs sets y → y.answer ≡ Refused Report → ⊥
  not-twelve q post e = clash (sym (ap (desk_row weighed) q) ∙ ((says.twelve weighed text d figs sets y post).0 e).1) yards.sound

  -- 15: at (1, 3), code 6, exactly where the table has none there; never where 12 stops the desk
  is-fifteen : AcceptedWith text shut → 9 ≤ length figs → 9 ≤ length sets → figure_in figs 6 ≡ none → d ≡ on 1 3 → ChangePost weighed text d figs sets y → number_changed y.answer ≡ some 15
  is-fifteen a lf ls has e post =
      ap number_changed ((says.fifteen weighed text d figs sets y post).1 (
        record {
          fits = record { both = record { railway = shut; old = weighed-accepted; read = a }; shape = same_shape };
          figures = omega (arith, lf, nine shut same_shape);
          settings = omega (arith, ls, nine shut same_shape);
        },
        ap (desk_row weighed) e ∙ yards.sound-elsewhere,
        ap (λ (z : Desk). figure_in figs (desk_code shut z)) e ∙ ap (figure_in figs) (code-six shut same_shape) ∙ has,
      ))

  none-at-six : d ≡ on 1 3 → ChangePost weighed text d figs sets y → y.answer ≡ Refused Stranded → figure_in figs 6 ≡ none
  none-at-six q post e =
      let b = (says.fifteen weighed text d figs sets y post).0 e in
      let s = b.0.fits.both.railway in
      ap (figure_in figs) (sym (code-six s b.0.fits.shape)) ∙ ap (λ (z : Desk). figure_in figs (desk_code s z)) (sym q) ∙ b.2

  not-fifteen : d ≡ on 2 2 → ChangePost weighed text d figs sets y → y.answer ≡ Refused Stranded → ⊥
  not-fifteen q post e = clash stopped (sym (ap (desk_row weighed) q) ∙ ((says.fifteen weighed text d figs sets y post).0 e).1)

  -- the wrong record's 5, whatever the new case
  is-five : (s : Railway) → AcceptedWith text s → ChangePost wrong text d figs sets y → number_changed y.answer ≡ some 5
  is-five s a post = ap number_changed (says.old-record wrong s text d figs sets y _ post a yards.five)

  -- to Yard A and to Yard A with section 2 closed a desk goes over alike, if the same tables are lent
  both_go : (text₂ : List ℕ) (x : Changing) (r : Railway) → AcceptedWith text yard_a → AcceptedWith text₂ shut → ChangePost r text d figs sets y → ChangePost r text₂ d figs sets x
      → y.answer ≡ Changed → number_changed x.answer ≡ none
  unfolding train_of with_join with_signal with_closed with_legs with_train
  both_go text₂ x r a b p q e =
      let same : SameBound yard_a shut = record {
        sections = refl;
        trains = refl;
        headings = of_two (λ t. (train_of yard_a t).heading ≡ (train_of shut t).heading) refl refl;
        destinations = of_two (λ t. (train_of yard_a t).destination ≡ (train_of shut t).destination) refl refl;
      } in
      ap (λ (z : Changing). number_changed z.answer) (sym (says.bound r yard_a shut text text₂ a b same d figs sets y x p q)) ∙ ap number_changed e
