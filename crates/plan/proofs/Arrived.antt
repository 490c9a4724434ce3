-- A plan that passes its test opens no train that is parked (document 02, Q-2), at home or elsewhere: a train that is opened is held, and a
-- parked one is not. Assumes nothing.
use mathlib.Core.Path.{◌≡◌}
use mathlib.Core.Bool.{true, false}
use mathlib.Core.Option.{some}
use Prim.Native.Nat.{ℕ, ◌<◌}
use Rattle.laws.proofs.Bools.{clash, not-true}
use Rattle.railway.specs.declared.Railway.{Railway}
use Rattle.game.specs.Placement.{placements, arrived}
use Rattle.game.proofs.Setting.{parked-neither}
use Rattle.plan.specs.Test.{Listing, Test}

pub parked-closed : (r : Railway) (m : ℕ) (L : Listing) → Test r m L → (p n t : ℕ) → p < placements r → L.figure p ≡ some n → t < r.trains → arrived r p t ≡ true → L.opens p t ≡ false
parked-closed r m L passes p n t l e k a = not-true (L.opens p t) (λ o. clash (passes.signalled p n t l e k o) (parked-neither r p t a).1)
