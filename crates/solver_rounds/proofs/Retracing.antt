-- One move back. The placements from which a train comes to placement c have it on the section at the end of a way
-- back, and the others as they are: so their codes differ from c by the train's stride. They are visited way after way,
-- and behind the last way there are no more. Assumes nothing.
use mathlib.Core.Path.{◌≡◌, refl, sym, ◌∙◌, ap}
use mathlib.Core.Logic.{◌⊎◌, inl, inr}
use mathlib.Core.Bool.{Bool, true, false}
use mathlib.Core.List.{List}
use mathlib.Core.Option.{none}
use Prim.Native.Nat.{ℕ, suc, ◌+◌, ◌*◌, ◌%◌, ◌^◌, ◌≤◌, ◌<◌}
use native.Mathlib.Omega.{arith}
use native.Mathlib.Numerals.{add-one}
use native.Mathlib.Nat.{mul_comm, pow-zero, pow-succ', pow-le-pow_left, pow-le-pow_right}
use lib.ListN.{length, get_or}
use lib.Dec.{eqb}
use borrow.Author.Tests.{eqb-true, eq-eqb}
use Rattle.laws.proofs.Bools.{bool?, eq?, clash}
use Rattle.railway.specs.declared.End.{End}
use Rattle.railway.specs.declared.Railway.{Railway}
use Rattle.railway.specs.Bounds.{most_sections, most_trains, section_ends}
use Rattle.railway.specs.Ends.{end_index, end_at}
use Rattle.game.specs.Placement.{placements}
use Rattle.game.specs.Moves.{code_with}
use Rattle.game.proofs.Accepted.{facts}
use Rattle.game.proofs.Moves.{section-below, code-with-below}
use Rattle.game_tables.specs.Tables.{no_figure, figure_in}
use Rattle.game_tables.specs.Entries.{setting_at}
use Rattle.railway_routes.specs.Routes.{routes_from, nth, most_ways, no_section, to_byte, Laid}
use Rattle.railway_compiled.specs.Table.{Compiled}
use Rattle.game_placement.specs.declared.Placement.{Placement}
use Rattle.game_placement.specs.ByValue.{section_in}
use Rattle.game_moves.specs.Steps.{stride_of, code_put, On, put_in}
use Rattle.game_moves.proofs.Coding.{stride-is}
use Rattle.game_moves.proofs.Moving.{code-put-is, put-on-is}
use Rattle.game_moves.proofs.Round.{code-back}
use Rattle.solver_predecessors.specs.Behind.{end_behind, section_behind, BackBy}
use Rattle.solver_predecessors.proofs.Behind.{came-by, behind-below, behind-last, end-inside, end-at-behind}
use Rattle.solver_rounds.specs.declared.ThisRound.{ThisRound}
use Rattle.solver_rounds.specs.declared.Mover.{Mover}
use Rattle.solver_rounds.specs.Visits.{Turned, Round, MoverOf, Visited, Waits, empty, outside, figured, One, By}
use Rattle.solver_rounds.proofs.Entries.{read-figure, read_none}
use Rattle.solver_rounds.proofs.Visits.{visited-rests}

-- WHO WAITS for a visit
module _ (figs : List ℕ) (m p : ℕ) where
  pub waits-read : p < m → m ≤ length figs → Waits figs m p (eqb (get_or figs p 0) no_figure)
  waits-read l long = elim (bool? (eqb (get_or figs p 0) no_figure)) [
    | inl e ↦ rw e (empty l (read_none figs p (omega arith) (eqb-true _ _ e)))
    | inr e ↦ rw e (figured (read-figure figs p (omega arith) (λ z. clash (eq-eqb _ _ z) e)))
  ]

  pub waits-inside : (b : Bool) → Waits figs m p b → b ≡ true → p < m
  waits-inside b (empty l none_yet) e = l
  waits-inside b (outside l) e = clash e refl
  waits-inside b (figured h) e = clash e refl

-- ONE SECTION BEHIND: a visit of the placement with the train there, of code p, if it waits for one
module _ {r : Railway} {this : ThisRound} {d : Turned} {figs marks : List ℕ}
    (o : Round r this d figs marks) (c t y p : ℕ) (there : y < r.sections) (put : p ≡ code_with r c t y) where
  below : p < placements r
  below = rw put (code-with-below r (facts r o.compiled.accepted) c t y there)

  not-waiting : (b : Bool) → Waits figs this.m p b → b ≡ false → figure_in figs p ≡ none → ⊥
  not-waiting b (empty inside none_yet) e f = clash refl e
  not-waiting b (outside l) e f = omega (arith, below, o.counted)
  not-waiting b (figured h) e f = h f

  module _ (q v : Placement) (on : On r c this.table.now q) (lt : t < r.trains) (b : Bool)
      (w : Waits figs this.m p b) (e : b ≡ true)
      (moved : (u : ℕ) → section_in v u ≡ put_in q t y u) where
    pub one-visit : {sets figs' sets' marks' : List ℕ}
        → ((r : Railway) (d : Turned) → Round r this d figs marks → On r p this.table.now v → p < placements r
        → figure_in figs p ≡ none
        → Visited r this.n d (One p) figs sets figs' sets' marks')
        → Visited r this.n d (One p) figs sets figs' sets' marks'
    one-visit {sets} {figs'} {sets'} {marks'} visit = go b w e
      where
        go : (b : Bool) → Waits figs this.m p b → b ≡ true → Visited r this.n d (One p) figs sets figs' sets' marks'
        go b (outside l) e = clash e refl
        go b (figured h) e = clash e refl
        go b (empty inside none_yet) e =
            visit r d o (rw put (put-on-is r c this.table.now q on t y lt there v moved)) below none_yet

-- STRIDES, each from the one before
module _ (s t w : ℕ) (e : w ≡ stride_of s t) where
  pub stride-next : s < 256 → t < most_trains → w * s % 4294967296 ≡ stride_of s (t + 1)
  stride-next byte l =
      let a : w * s ≡ s ^ suc t =
      ap (λ (x : ℕ). x * s) (e ∙ stride-is s t (omega arith)) ∙ mul_comm (s ^ t) s ∙ sym (pow-succ' s t) in
      let few : s ≤ 255 = omega arith in
      let small : s ^ suc t ≤ 255 ^ 4 = omega (
        arith,
        pow-le-pow_left few (suc t),
        pow-le-pow_right {n = 255} (omega arith) {i = suc t} {j = 4} (omega arith),
      ) in
      ap (λ (x : ℕ). x % 4294967296) a ∙ whole (s ^ suc t) (omega (arith, small))
      ∙ rw (add-one t) (sym (stride-is s (suc t) (omega arith)))
    where
      whole : (x : ℕ) → x < 4294967296 → x % 4294967296 ≡ x
      whole x h = omega arith

-- THE WAYS BACK of a train
pub no_way : {r : Railway} {c t x u : ℕ} → BackBy r c t x 0 u → ⊥
no_way k = omega (arith, k.below)

pub all_ways : {r : Railway} {c t x j u : ℕ} → most_ways ≤ j → BackBy r c t x most_ways u → BackBy r c t x j u
all_ways l k = record { number = k.number; below = omega (arith, k.below); there = k.there; code = k.code }

-- GOING OVER THEM from section x, where the train stands
module _ {r : Railway} {table behind : List ℕ} {mover : Mover} (g : MoverOf r table behind mover) {x : ℕ}
    (here : x ≡ section_in mover.placement mover.train) where
  -- who moves to the placement has come by one of them
  pub by-ways : {u : ℕ} → u < placements r → By r mover.code mover.train u
      → BackBy r mover.code mover.train x most_ways u
  unfolding setting_at
  by-ways {u} l k =
      came-by r g.on.compiled.accepted mover.code u mover.train k.entry
      (setting_at r u k.entry) refl l g.train
      k.moves x (here ∙ g.on.stands mover.train)

  module _ {e : ℕ} (rear : (r : Railway) → Compiled r table → e ≡ end_index (end_behind r mover.train x)) (j y : ℕ)
      (told : (r : Railway) (shut : ℕ → Bool) → Laid r shut behind → e < section_ends
      → y ≡ to_byte (nth (routes_from r shut (end_at e)) j)) where
    -- the section that is read there
    way-is : y ≡ section_behind r mover.train x j
    way-is =
        let ok = facts r g.on.compiled.accepted in
        let small : x < most_sections =
        omega (
          arith,
          here,
          g.on.stands mover.train,
          section-below r ok mover.code mover.train g.train,
          ok.few-sections,
        ) in
        let i = rear r g.on.compiled in
        told r (λ z. false) g.laid (end-inside r mover.train x e small i)
        ∙ ap (λ (d : End). to_byte (nth (routes_from r (λ z. false) d) j)) (end-at-behind r mover.train x e small i)

    pub way_next : {u p : ℕ} → BackBy r mover.code mover.train x (j + 1) u
        → p ≡ code_with r mover.code mover.train y
        → BackBy r mover.code mover.train x j u ⊎ One p u
    way_next k put = elim (eq? k.number j) [
      | inl z ↦
          let w : section_behind r mover.train x k.number ≡ y =
          ap (section_behind r mover.train x) z ∙ sym way-is in
          inr (k.code ∙ ap (code_with r mover.code mover.train) w ∙ sym put)
      | inr z ↦ inl (record { number = k.number; below = omega (arith, k.below, z); there = k.there; code = k.code })
    ]

    -- a section of the railway, and the code with the train there
    pub way-put : {p : ℕ} → (y ≡ no_section → ⊥) → p ≡ code_put mover.code mover.stride x y
        → (y < r.sections) × (p ≡ code_with r mover.code mover.train y)
    way-put {p} some-section put =
        let below : y < r.sections =
        rw way-is (behind-below r mover.train x j g.on.compiled.accepted (λ z. some-section (way-is ∙ z))) in (
          below,
          code-put-is r mover.code table mover.placement g.on mover.train y g.train below
              mover.code x mover.stride r.sections p
              (sym (code-back r table g.on.compiled mover.code mover.placement g.on g.code)) here
              refl g.stride put,
        )

    -- no way is left
    pub way-last : {u : ℕ} → y ≡ no_section → BackBy r mover.code mover.train x most_ways u
        → BackBy r mover.code mover.train x j u
    way-last z k =
        record {
          number = k.number;
          below = behind-last r mover.train x j (sym way-is ∙ z) k.number k.there;
          there = k.there;
          code = k.code;
        }
