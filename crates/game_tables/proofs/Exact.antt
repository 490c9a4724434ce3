-- Both searches give exactly the plan's entry, in an accepted case at a placement that is not lost: they find v exactly if v is the
-- entry of the plan's setting, and nothing exactly if no whole setting keeps the figure. What is found is the plan's entry, and there is
-- one. Assumes nothing.
use mathlib.Core.Path.{◌≡◌, sym, ◌∙◌}
use mathlib.Core.Logic.{inl, inr}
use mathlib.Core.Bool.{false}
use mathlib.Core.Option.{Option, none, some}
use Prim.Native.Nat.{ℕ}
use Rattle.laws.proofs.Bools.{option?}
use Rattle.railway.specs.declared.Railway.{Railway}
use Rattle.railway.specs.Rows.{record_refusal}
use Rattle.game.specs.Claim.{Keeps}
use Rattle.game.specs.Placement.{shared}
use Rattle.game.specs.Setting.{Setting}
use Rattle.game.specs.Moves.{game_of}
use Rattle.game.proofs.Accepted.{facts}
use Rattle.game_tables.specs.Entries.{setting_at}
use Rattle.game_tables.specs.Tables.{Planned, Exact}
use Rattle.game_tables.specs.Find.{find}
use Rattle.game_tables.proofs.Find.{find-sound, find-complete, find_none}
use Rattle.game_tables.proofs.Best.{Best, find-best}
use Rattle.game_tables.proofs.Unique.{plan-one}

module _ (r : Railway) (accepted : record_refusal r ≡ none) (p : ℕ) (apart : shared r p ≡ false) (F : ℕ → Option ℕ) (n : ℕ) where
  planned : (v : ℕ) → find r F p n ≡ some v → Planned r F p n v
  planned v e = let b : Best r (facts r accepted) p F n v = find-best r (facts r accepted) p F n apart v e in (b.plans, b.itself)

  found : (v : ℕ) → Planned r F p n v → find r F p n ≡ some v
  found v x =
      let w = find-complete r F p n (facts r accepted) (setting_at r p v) x.0.keeps in
      let y : Planned r F p n w.0 = planned w.0 w.1 in
      let z : w.0 ≡ v = sym y.1 ∙ plan-one r (facts r accepted) p apart F n (setting_at r p w.0) (setting_at r p v) y.0 x.0 ∙ x.1 in
      rw z at w.1

  nothing : ((o : Setting) → Keeps (game_of r) F p o n → ⊥) → find r F p n ≡ none
  nothing h = elim (option? (find r F p n)) [ inl x ↦ x | inr x ↦ absurd (h (setting_at r p x.0) (find-sound r F p n x.0 x.1)) ]

  pub find-exact : Exact r F p n (find r F p n)
  find-exact = record { finds = λ v. (planned v, found v); finds-nothing = (find_none r F p n (facts r accepted), nothing) }
