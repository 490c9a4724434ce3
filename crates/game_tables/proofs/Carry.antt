-- The plan's entry at a figure looks at the smaller figures alone: what keeps a figure by one table keeps it by another that has the same
-- figures below it, so the earliest of all settings is the same. Assumes nothing.
use mathlib.Core.Path.{◌≡◌, refl, sym, ◌∙◌, ap, fun_ext}
use mathlib.Core.Logic.{inl, inr}
use mathlib.Core.Bool.{Bool}
use mathlib.Core.Option.{Option, none, some, map}
use Prim.Native.Nat.{ℕ, zero, suc, ◌^◌, ◌≤◌, ◌<◌}
use Rattle.laws.specs.Below.{lowest}
use Rattle.laws.specs.Bits.{bit}
use native.Mathlib.Omega.{arith}
use Rattle.laws.proofs.Bools.{bool?, clash}
use Rattle.railway.specs.declared.Railway.{Railway}
use Rattle.railway.specs.Record.{weight_of}
use Rattle.game.specs.Claim.{Keeps}
use Rattle.game.specs.Local.{keeps_test}
use Rattle.game.specs.Placement.{placements}
use Rattle.game.specs.Setting.{Setting}
use Rattle.game.specs.Moves.{game_of}
use Rattle.game.proofs.Local.{may-train, keeps-test, test-keeps, keeps-map}
use Rattle.game.proofs.Accepted.{Facts}
use Rattle.game.proofs.Moves.{inside, costs}
use Rattle.game_tables.specs.Entries.{setting_at, entry_from}
use Rattle.game_tables.specs.Tables.{IsPlanEntry}
use Rattle.game_tables.specs.Find.{try_open, found_by, find}

-- (Examples is named so that it is checked before: a wrong definition then shows at a computed value.)

-- Figures of F below n are G's.
abbrev pub Carries : Railway → (ℕ → Option ℕ) → (ℕ → Option ℕ) → ℕ → Type 0
Carries r F G n = (q j : ℕ) → q < placements r → j < n → F q ≡ some j → G q ≡ some j

module _ (r : Railway) (ok : Facts r) (F G : ℕ → Option ℕ) (p : ℕ) (l : p < placements r) where
  pub keeps-carry : (n : ℕ) → Carries r F G n → (s : Setting) → Keeps (game_of r) F p s n → Keeps (game_of r) G p s n
  keeps-carry n c s =
      keeps-map (game_of r) F G p s n n (λ t q j m e f b. (
        c q j (inside r ok p s t q l m e)
            (let w : 1 ≤ weight_of r t = costs r ok t (may-train (game_of r) p s t m) in omega arith) f,
        b,
      ))

pub entry-carry : (r : Railway) → Facts r → (F G : ℕ → Option ℕ) (p : ℕ) → p < placements r → (f : Option ℕ) (v : ℕ)
    → ((n : ℕ) → f ≡ some n → Carries r F G n) → ((n : ℕ) → f ≡ some n → Carries r G F n) → IsPlanEntry r F p f v → IsPlanEntry r G p f v
entry-carry r ok F G p l none v to from x = x
entry-carry r ok F G p l (some zero) v to from x = x
entry-carry r ok F G p l (some (suc n)) v to from x = (
  record {
    keeps = keeps-carry r ok F G p l (suc n) (to (suc n) refl) (setting_at r p v) x.0.keeps;
    earliest = λ o k. x.0.earliest o (keeps-carry r ok G F p l (suc n) (from (suc n) refl) o k);
  },
  x.1,
)

pub entry-same-figures : (r : Railway) → Facts r → (F G : ℕ → Option ℕ) → ((q : ℕ) → q < placements r → F q ≡ G q)
    → (p : ℕ) (f : Option ℕ) (v : ℕ) → p < placements r → IsPlanEntry r F p f v → IsPlanEntry r G p f v
entry-same-figures r ok F G same p f v l x = entry-carry r ok F G p l f v (λ n e q j lq b h. sym (same q lq) ∙ h) (λ n e q j lq b h. same q lq ∙ h) x

-- THE SEARCH for a figure looks at the smaller figures alone too
module _ (r : Railway) (ok : Facts r) (F G : ℕ → Option ℕ) (p n : ℕ) (l : p < placements r) (to : Carries r F G n) (from : Carries r G F n) where
  keeps-both : (s : Setting) → keeps_test (game_of r) F p s n ≡ keeps_test (game_of r) G p s n
  keeps-both s = elim (bool? (keeps_test (game_of r) F p s n)) [
    | inl x ↦ x ∙ sym (keeps-test (game_of r) G p s n (keeps-carry r ok F G p l n to s (test-keeps (game_of r) F p s n x)))
    | inr x ↦ elim (bool? (keeps_test (game_of r) G p s n)) [
      | inl y ↦ clash (keeps-test (game_of r) F p s n (keeps-carry r ok G F p l n from s (test-keeps (game_of r) G p s n y))) x
      | inr y ↦ x ∙ sym y
    ]
  ]

  try-carry : (opens : ℕ → Bool) → try_open r F p n opens ≡ try_open r G p n opens
  unfolding try_open
  try-carry opens =
      ap (λ (f : ℕ → Bool). map (λ b. entry_from r (bit b) opens) (lowest f (2 ^ r.points))) (fun_ext (λ b. keeps-both (setting_at r p (entry_from r (bit b) opens))))

  pub find-carry : find r F p n ≡ find r G p n
  unfolding find
  find-carry = ap (found_by r) (fun_ext try-carry)
