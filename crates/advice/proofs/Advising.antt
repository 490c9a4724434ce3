-- The promise can be kept for every record and any two tables: a start has a figure or none; the ends are gone through
-- in order up to the first that helps; and tables of the last case tried there are, for it is accepted and has as many
-- placements. So the whole statement holds. Assumes nothing.
use mathlib.Core.Path.{◌≡◌, refl, sym, ◌∙◌, ap}
use mathlib.Core.Logic.{◌⊎◌, inl, inr}
use mathlib.Core.Bool.{true}
use mathlib.Core.List.{List}
use mathlib.Core.Option.{Option, none, some}
use Prim.Native.Nat.{ℕ, zero, suc, ◌<◌, ◌≤◌}
use native.Mathlib.Omega.{arith}
use Rattle.laws.proofs.Bools.{bool?, option?, clash}
use Rattle.laws.proofs.Below.{upto}
use Rattle.railway.specs.declared.Railway.{Railway}
use Rattle.railway.specs.Refusals.{number_of}
use Rattle.railway.specs.Rows.{record_refusal}
use Rattle.game.specs.Game.{IsFigure}
use Rattle.game.specs.Placement.{start_code}
use Rattle.game.specs.Moves.{game_of}
use Rattle.game.proofs.Accepted.{facts}
use Rattle.game.proofs.Moves.{start-below}
use Rattle.game_tables.specs.Tables.{case_refusal}
use Rattle.game_tables.proofs.Refusals.{Enough, case-none}
use Rattle.game_tables.proofs.Exists.{solution, tables-exist}
use Rattle.advice.specs.Advice.{Advice, NotNeeded, Signal, NoneHelps, Refused}
use Rattle.advice.specs.Advising.{HasFigure, HasNone, ends_of, tries, with_one, NoneBefore, FirstHelp, number_said, Said, last_case, AdvicePost, StillAccepted, AdviceHolds}
use Rattle.advice.proofs.Accepting.{still-accepted}
use Rattle.advice.proofs.NeverWorse.{never-worse}
use Rattle.advice.proofs.Naming.{named-of, tried-bare}
use Rattle.advice.proofs.Claims.{apart, still_one, last-accepted, claims, refused, only}

-- A FIGURE OR NONE
by-figure : (q : Railway) (f : Option ℕ) → IsFigure (game_of q) (start_code q) f → HasFigure q ⊎ HasNone q
by-figure q none x = inr x
by-figure q (some n) x = inl (record { total = n; figure = x })

pub either_way : (q : Railway) → record_refusal q ≡ none → HasFigure q ⊎ HasNone q
either_way q accepted = let x = solution q accepted in by-figure q (x.figure (start_code q)) (x.figures (start_code q) (start-below q (facts q accepted)))

-- where an end does not help, the start has no figure without a signal there either
pub none-without : (r : Railway) → record_refusal r ≡ none → (i : ℕ) → i < ends_of r → tries r i ≡ true → HasNone (with_one r i) → HasNone r
none-without r accepted i l t h = elim (either_way r accepted) [
  | inr x ↦ x
  | inl x ↦
      let few = (facts r accepted).few-sections in
      let n = named-of r few i l in
      let e = n.index in
      let y = never-worse r n.section n.side accepted (tried-bare r few n.section n.side n.there (rw e t)) x in
      apart y.has (rw n.is at h)
]

-- THE FIRST END THAT HELPS, if one does
pub none_more : (r : Railway) (i : ℕ) → NoneBefore r i → (tries r i ≡ true → HasNone (with_one r i)) → NoneBefore r (suc i)
none_more r i h x = upto (λ j. tries r j ≡ true → HasNone (with_one r j)) h x

module _ (r : Railway) (accepted : record_refusal r ≡ none) where
  first-help : (i : ℕ) → i ≤ ends_of r → ((j : ℕ) × FirstHelp r j) ⊎ NoneBefore r i
  first-help zero l = inr (λ j b. absurd (omega arith))
  first-help (suc i) l = elim (first-help i (omega arith)) [
    | inl x ↦ inl x
    | inr h ↦ elim (bool? (tries r i)) [
      | inr e ↦ inr (none_more r i h (λ t. clash t e))
      | inl e ↦ elim (either_way (with_one r i) (still_one r accepted i (omega arith)).accepted) [
        | inl x ↦ inl (i, record { there = omega arith; tried = e; helps = x; before = h })
        | inr x ↦ inr (none_more r i h (λ t. x))
      ]
    ]
  ]

  module _ (figs sets : List ℕ) (enough : Enough r figs sets) where
    record Given : Type 0 where
      answer : Advice
      number : number_said answer ≡ none
      said : Said r answer
      last : StillAccepted r (last_case r answer)

    given : Given
    given = elim (either_way r accepted) [
      | inl x ↦ record { answer = NotNeeded; number = refl; said = x; last = record { accepted = accepted; placements = refl; start = refl } }
      | inr h ↦ elim (first-help (ends_of r) (omega arith)) [
        | inr b ↦ record { answer = NoneHelps; number = refl; said = (h, b); last = last-accepted r accepted (ends_of r) (omega arith) }
        | inl x ↦
            let n = named-of r (facts r accepted).few-sections x.0 x.1.there in
            record {
              answer = Signal n.section n.side;
              number = refl;
              said = (h, rw n.index x.1);
              last = still-accepted r n.section n.side accepted n.there;
            }
      ]
    ]

    pub kept : (a : Advice) × (figs' : List ℕ) × (sets' : List ℕ) × (case_refusal r figs sets ≡ none → AdvicePost r a figs sets figs' sets')
    kept =
        let g = given in
        let p = g.last.placements in
        let m = tables-exist (last_case r g.answer) g.last.accepted figs sets (rw p enough.figures) (rw p enough.settings) in (
          g.answer,
          m.new-figs,
          m.new-sets,
          (λ fine. record { numbered = g.number ∙ ap number_of (sym fine); leaves = rw fine (g.said, m.made) }),
        )

pub answered : (r : Railway) (figs sets : List ℕ) → (a : Advice) × (figs' : List ℕ) × (sets' : List ℕ) × AdvicePost r a figs sets figs' sets'
answered r figs sets = elim (option? (case_refusal r figs sets)) [
  | inr f ↦ (Refused f.0, figs, sets, record { numbered = ap number_of (sym f.1); leaves = rw f.1 (refl, refl) })
  | inl e ↦ let c = (case-none r figs sets).0 e in let k = kept r c.0 figs sets c.1 in (k.0, k.1, k.2, k.3 e)
]

-- THE STATEMENT HOLDS
pub advice-holds : AdviceHolds
advice-holds = record { claims = claims; refused = refused; answered = answered; only = only; still-accepted = still-accepted; never-worse = never-worse }
