-- The bits of an entry in which nobody is open but one train, or nobody at all: the points' are those of the entry that it was made of, and of the trains' one is set, or none. Assumes nothing.
use mathlib.Core.Path.{◌≡◌, refl, sym, ◌∙◌, ap}
use mathlib.Core.Bool.{Bool, false}
use mathlib.Core.Option.{Option, none, some}
use Prim.Native.Nat.{ℕ, ◌+◌, ◌*◌, ◌/◌, ◌%◌, ◌^◌, ◌<◌}
use native.Mathlib.Omega.{arith}
use lib.Pow.{pow-add}
use lib.Dec.{eqb}
use Rattle.laws.specs.Bits.{bit}
use Rattle.laws.proofs.Bits.{low_bit, high_bit, bit-none}
use Rattle.laws.proofs.Bitwise.{bit-power}
use Rattle.game_tables.specs.Entries.{train_bits, opens_in}
use Rattle.thin.specs.Thinning.{open_bit, open_only}

-- train t is the one
abbrev pub is_train : Option ℕ → ℕ → Bool
is_train none t = false
is_train (some u) t = eqb u t

-- the trains' part of an entry
abbrev part : Option ℕ → ℕ
part none = 0
part (some u) = 2 ^ u

part-is : (o : Option ℕ) → open_bit o ≡ 2 ^ train_bits * part o
part-is none = refl
part-is (some u) = pow-add 2 train_bits u

only-is : (v : ℕ) (o : Option ℕ) → open_only v o ≡ v % (2 ^ train_bits) + 2 ^ train_bits * part o
only-is v o = ap (λ (x : ℕ). v % (2 ^ train_bits) + x) (part-is o)

small : (v : ℕ) → v % (2 ^ train_bits) < 2 ^ train_bits
small v = omega arith

pub only-points : (v : ℕ) (o : Option ℕ) (n : ℕ) → n < train_bits → bit (open_only v o) n ≡ bit v n
only-points v o n l =
    let a : bit (v % (2 ^ train_bits) + 2 ^ train_bits * part o) n ≡ bit (v % (2 ^ train_bits)) n = low_bit train_bits (v % (2 ^ train_bits)) (part o) n (small v) l in
    let b : bit (v % (2 ^ train_bits) + 2 ^ train_bits * (v / (2 ^ train_bits))) n ≡ bit (v % (2 ^ train_bits)) n = low_bit train_bits (v % (2 ^ train_bits)) (v / (2 ^ train_bits)) n (small v) l in
    let e : v % (2 ^ train_bits) + 2 ^ train_bits * (v / (2 ^ train_bits)) ≡ v = omega arith in
    ap (λ (x : ℕ). bit x n) (only-is v o) ∙ a ∙ sym b ∙ ap (λ (x : ℕ). bit x n) e

part-bit : (o : Option ℕ) (t : ℕ) → bit (part o) t ≡ is_train o t
part-bit none t = bit-none t
part-bit (some u) t = bit-power u t

pub only-opens : (v : ℕ) (o : Option ℕ) (t : ℕ) → opens_in (open_only v o) t ≡ is_train o t
only-opens v o t = ap (λ (x : ℕ). bit x (train_bits + t)) (only-is v o) ∙ high_bit train_bits (v % (2 ^ train_bits)) (part o) t (small v) ∙ part-bit o t

-- made twice, it is as made once
pub only-twice : (v : ℕ) (o q : Option ℕ) → open_only (open_only v o) q ≡ open_only v q
only-twice v o q =
    let e : (v % (2 ^ train_bits) + 2 ^ train_bits * part o) % (2 ^ train_bits) ≡ v % (2 ^ train_bits) = omega arith in
    ap (λ (x : ℕ). x + open_bit q) (ap (λ (x : ℕ). x % (2 ^ train_bits)) (only-is v o) ∙ e)
