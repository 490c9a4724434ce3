-- `test_framing::fill`: a part of the space is as long as it says, and what lies past it is lent to nobody.
-- Assumes nothing.
use native.Mathlib.Omega.{arith}
use mathlib.Core.Path.{◌≡◌, refl, sym, ap, ◌∙◌}
use mathlib.Core.Bool.{Bool, true, false, cond}
use mathlib.Core.List.{List, ◌++◌}
use Prim.Native.Nat.{ℕ, ◌≤◌, ◌+◌}
use lib.ListN.{length, take, drop, length-take, length-append, length-drop}
use lib.Dec.{eqb}
use lib.Seq.{length-take-le, take_at, drop_at}
use Rattle.io.specs.Counts.{IsPrefixLen}
use Rattle.std.specs.Prelude.{Option, Some, Result, Ok, Err}
use Rattle.test_framing.specs.declared.Broken.{Broken}
use Rattle.test_framing.specs.Framed.{length_of, record_of, Kept}
use Rattle.test_framing.proofs.fill.Goals as goal

module _ (old new : List ℕ) (n : ℕ) (in-old : n ≤ length old) (kept : length new ≡ length (take n old)) where
  as_many : length new ≡ n
  as_many = kept ∙ length-take-le n old in-old

  whole : IsPrefixLen n (new ++ drop n old) × (drop n (new ++ drop n old) ≡ drop n old)
  whole =
      let l : length (new ++ drop n old) ≡ length new + length (drop n old) = length-append new (drop n old) in
      let t : length (take n (new ++ drop n old)) ≡ length new = ap length (take_at new (drop n old) n as_many) in
      ((omega (arith, as_many), sym (t ∙ as_many)), drop_at new (drop n old) n as_many)

  as_long : length (new ++ drop n old) ≡ length old
  as_long = omega (arith, as_many, length-append new (drop n old), length-drop n old)

  filled : (got : ℕ) (r : Result (Option ℕ) Broken) → r ≡ record_of n got → IsPrefixLen (length_of r) (new ++ drop n old) × Kept r old (new ++ drop n old)
  filled got r e = rw e (go (eqb got n))
    where
      go : (b : Bool) → let o = cond {A = Result (Option ℕ) Broken} b (Ok (Some n)) (Err (record {})) in
          IsPrefixLen (length_of o) (new ++ drop n old) × Kept o old (new ++ drop n old)
      go true = whole
      go false = ((omega arith, refl), as_long)

-- n bytes come back new, and the rest of the space is as it was
pub slice_bounds-read_full-end-2 : goal.slice_bounds-read_full-end-2
slice_bounds-read_full-end-2 c = simp length-take (omega arith)

pub returns : goal.returns
returns c =
    let f = filled c.args.space.now c.read_full-got.new.buf c.args.n c.if-space-n.false c.read_full-got.auto.buf _ _ c.record_of.ensures in
    record { prefix_len = f.0; kept = f.1 }
