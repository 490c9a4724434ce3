-- `solver_settings::open_train` meets its contract: a held train open moves alone, so its own ways decide; a parked one has nothing to open.
-- Assumes nothing.
use native.Mathlib.Omega.{arith}
use Prim.Native.Nat.{ℕ, ◌*◌, ◌%◌, ◌^◌, ◌≤◌, ◌<◌}
use mathlib.Core.Path.{◌≡◌, refl, sym, ◌∙◌}
use mathlib.Core.Bool.{true}
use Rattle.railway.specs.declared.Railway.{Railway}
use Rattle.game.specs.Setting.{held}
use Rattle.game.proofs.Accepted.{facts}
use Rattle.game_moves.specs.Steps.{On}
use Rattle.game_moves.proofs.Moving.{as-there}
use Rattle.solver_settings.proofs.Trying.{shifted-small, open-parked, opened-found, opened-none}
use Rattle.solver_settings.proofs.open_train.Goals as goal

pub overflow_mul-result : goal.overflow_mul-result
overflow_mul-result c =
    let small : (1 * 2 ^ c.args.u) % 4294967296 ≤ 8 = shifted-small c.args.u c.requires in
    omega (arith, small)

pub overflow_add-result : goal.overflow_add-result
overflow_add-result c =
    let small : (1 * 2 ^ c.args.u) % 4294967296 ≤ 8 = shifted-small c.args.u c.requires in
    omega (arith, small, c.if-bits-lt-NO_BITS.true)

pub returns-then-bits-lt-NO_BITS : goal.returns-then-bits-lt-NO_BITS
returns-then-bits-lt-NO_BITS c =
    let is_held : (r : Railway) (p : ℕ) → On r p c.args.table.now c.args.aim.placement → c.args.u < r.trains → held r p c.args.u ≡ true = λ r p on l. sym (as-there r p _ _ on _ l _ _ (c.held_in.ensures r p on)) ∙ c.if-held_in.true in
    λ r p h f l.
    let on = h.looks.on in
    opened-found r (facts r on.compiled.accepted) p h.apart _ _ f c.args.u l (is_held r p on l) _
    (c.least_way-bits.ensures r p h.looks l) _ refl c.requires c.if-bits-lt-NO_BITS.true

pub returns-else-bits-lt-NO_BITS : goal.returns-else-bits-lt-NO_BITS
returns-else-bits-lt-NO_BITS c =
    let is_held : (r : Railway) (p : ℕ) → On r p c.args.table.now c.args.aim.placement → c.args.u < r.trains → held r p c.args.u ≡ true = λ r p on l. sym (as-there r p _ _ on _ l _ _ (c.held_in.ensures r p on)) ∙ c.if-held_in.true in
    λ r p h f l.
    let on = h.looks.on in
    opened-none r (facts r on.compiled.accepted) p h.apart _ _ f c.args.u l (is_held r p on l) _
    (c.least_way-bits.ensures r p h.looks l) c.if-bits-lt-NO_BITS.false

pub returns-else-held_in : goal.returns-else-held_in
returns-else-held_in c =
    λ r p h f l.
    let on = h.looks.on in
    open-parked r (facts r on.compiled.accepted) p h.apart _ _ f _
    (sym (as-there r p _ _ on _ l _ _ (c.held_in.ensures r p on)) ∙ c.if-held_in.false)
