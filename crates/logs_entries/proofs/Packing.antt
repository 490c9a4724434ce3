-- A log that is not too long is taken out whole: what was taken out is the log. Assumes nothing.
use mathlib.Core.Path.{◌≡◌, refl, ◌∙◌}
use mathlib.Core.Bool.{true}
use mathlib.Core.List.{List}
use mathlib.Core.Logic.{inl, inr}
use Prim.Native.Nat.{◌≤◌, ◌<◌}
use native.Mathlib.Omega.{arith}
use lib.ListN.{length, take}
use borrow.Author.Tests.{lt-ltb}
use Rattle.std.proofs.lemmas.List.{ext_get_or, get_or-take, length-take-le}
use Rattle.laws.proofs.Bools.{lt?, clash}
use Rattle.logs.specs.declared.Entry.{Entry}
use Rattle.logs.specs.Logs.{most_entries}
use Rattle.logs_entries.specs.declared.Packed.{Packed}
use Rattle.logs_entries.specs.Packing.{no_entry, wants, PackedPost}

module _ (log : List Entry) (p : Packed) (h : PackedPost log p) where
  pub all-taken : p.count ≤ most_entries → p.next ≡ p.count
  all-taken l = elim (lt? p.next p.count) [
    | inl m ↦ (let n : p.next < most_entries = omega arith in let e : wants p ≡ true = rw (lt-ltb p.next p.count m, lt-ltb p.next most_entries n) refl in clash e h.all)
    | inr m ↦ (let c = h.out.counted in let d = h.out.there in omega arith)
  ]

  pub whole : p.count ≤ most_entries → take p.next p.entries ≡ log
  whole l =
      let s : p.next ≤ length p.entries = (let z = h.out.sized in let f = h.out.fits in omega arith) in
      let n : length (take p.next p.entries) ≡ p.next = length-take-le p.next p.entries s in
      let c : p.next ≡ length log = all-taken l ∙ h.out.counted in
      ext_get_or no_entry (take p.next p.entries) log (n ∙ c) (λ i k. let m : i < p.next = omega (arith, n, k) in get_or-take p.next p.entries i no_entry m ∙ h.out.each i m)
