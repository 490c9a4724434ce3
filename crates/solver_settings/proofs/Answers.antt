-- What a search answers, of all whole settings. At a placement that is not lost: an entry is found exactly if it is that of the plan's
-- setting, which keeps the figure and before which, in the plan's order, no setting that does comes; and nothing is found
-- exactly if no whole setting keeps it. This is what the tables' search is proved to give, read through the answer. Assumes nothing.
use mathlib.Core.Path.{◌≡◌, ap}
use mathlib.Core.Bool.{Bool, true, cond}
use mathlib.Core.Option.{Option, none}
use Prim.Native.Nat.{ℕ}
use Rattle.railway.specs.declared.Railway.{Railway}
use Rattle.game.specs.Placement.{shared}
use Rattle.game_tables.specs.Find.{find}
use Rattle.game_tables.proofs.Exact.{find-exact}
use Rattle.solver_settings.specs.Answers.{first_keeping, KeepingExact}

pub keeping-exact : KeepingExact
unfolding first_keeping
keeping-exact r F p n accepted apart = let e : first_keeping r F p n ≡ find r F p n = ap (λ (b : Bool). cond b none (find r F p n)) apart in rw e (find-exact r accepted p apart F n)

pub keeping-lost : (r : Railway) (F : ℕ → Option ℕ) (p n : ℕ) → shared r p ≡ true → first_keeping r F p n ≡ none
unfolding first_keeping
keeping-lost r F p n lost = ap (λ (b : Bool). cond b none (find r F p n)) lost
