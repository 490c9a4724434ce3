-- The fields of open trains and of points by a list of their trains and points: what is written of each stands behind what is written of those before, and
-- the bits of an entry add up, each of twice the weight of the one before. Assumes nothing.
use mathlib.Core.Path.{◌≡◌, refl, sym, ◌∙◌, ap}
use mathlib.Core.Bool.{Bool, true, false, cond}
use mathlib.Core.List.{List, [], ◌∷◌, ◌++◌, map, map-append, append_assoc}
use Prim.Native.Nat.{ℕ, zero, suc, ◌+◌, ◌*◌, ◌^◌, ◌<◌}
use native.Mathlib.Omega.{arith}
use native.Mathlib.Nat.{mul-add, mul_assoc, pow-succ'}
use lib.ListN.{length, get_or, replicate}
use Rattle.laws.specs.Below.{which_below}
use Rattle.laws.specs.Bits.{from_bits}
use Rattle.laws.proofs.Which.{which-map}
use Rattle.text.specs.Text.{byte, tab}
use Rattle.game_tables.specs.Entries.{train_bits}
use Rattle.plan.specs.Lines.{or_byte, train_digit, open_field}

-- OPEN TRAINS: the digits of those that are open, the first of the list being train t
unfoldable pub open_digits : ℕ → List Bool → List ℕ
open_digits t [] = []
open_digits t (o ∷ os) = cond o (train_digit t ∷ open_digits (suc t) os) (open_digits (suc t) os)

-- the first of those that pass a test, apart
which-first : {A : Type 0} (h : ℕ → A) (f : ℕ → Bool) (k : ℕ)
    → map h (which_below f (suc k)) ≡ cond (f 0) (h 0 ∷ []) [] ++ map (λ i. h (suc i)) (which_below (λ i. f (suc i)) k)
unfolding which_below
which-first h f zero = only (f 0)
  where
    only : (b : Bool) → map h (cond b (0 ∷ []) []) ≡ cond b (h 0 ∷ []) [] ++ []
    only true = refl
    only false = refl
which-first h f (suc k) =
    map-append h (which_below f (suc k)) (cond (f (suc k)) (suc k ∷ []) [])
    ∙ ap (λ (l : List _). l ++ map h (cond (f (suc k)) (suc k ∷ []) [])) (which-first h f k)
    ∙ append_assoc (cond (f 0) (h 0 ∷ []) []) (map (λ i. h (suc i)) (which_below (λ i. f (suc i)) k)) (map h (cond (f (suc k)) (suc k ∷ []) []))
    ∙ ap (λ (l : List _). cond (f 0) (h 0 ∷ []) [] ++ (map (λ i. h (suc i)) (which_below (λ i. f (suc i)) k) ++ l)) (last (f (suc k)))
    ∙ ap (λ (l : List _). cond (f 0) (h 0 ∷ []) [] ++ l) (sym (map-append (λ i. h (suc i)) (which_below (λ i. f (suc i)) k) (cond (f (suc k)) (k ∷ []) [])))
  where
    last : (b : Bool) → map h (cond b (suc k ∷ []) []) ≡ map (λ i. h (suc i)) (cond b (k ∷ []) [])
    last true = refl
    last false = refl

digits_of : (os : List Bool) (t : ℕ) → map (λ u. train_digit (t + u)) (which_below (λ u. get_or os u false) (length os)) ≡ open_digits t os
unfolding which_below open_digits
digits_of [] t = refl
digits_of (o ∷ os) t =
    let r : map (λ u. train_digit (t + suc u)) (which_below (λ u. get_or os u false) (length os)) ≡ open_digits (suc t) os =
    which-map (λ u. get_or os u false) (λ u. get_or os u false) (λ u. train_digit (t + suc u))
    (λ u. train_digit (suc t + u)) (length os) (λ p l. refl) (λ p l. omega arith) ∙ digits_of os (suc t) in
    which-first (λ u. train_digit (t + u)) (λ u. get_or (o ∷ os) u false) (length os) ∙ (rw r (first o))
  where
    first : (b : Bool) → cond b (train_digit (t + 0) ∷ []) [] ++ open_digits (suc t) os ≡ cond b (train_digit t ∷ open_digits (suc t) os) (open_digits (suc t) os)
    first true = let z : t + 0 ≡ t = omega arith in rw z
    first false = refl

pub open-field : (os : List Bool) → open_field os ≡ or_byte (byte "0") (open_digits 0 os)
open-field os =
    ap (or_byte (byte "0"))
    (which-map (λ u. get_or os u false) (λ u. get_or os u false) train_digit (λ u. train_digit (0 + u)) (length os)
    (λ p l. refl) (λ p l. omega arith) ∙ digits_of os 0)

-- a digit that is not open does not stand in front
pub first-other : (os : List Bool) (rest : List ℕ) (t u : ℕ) → t < u → get_or (open_digits u os ++ (tab ∷ rest)) 0 0 ≡ train_digit t → ⊥
unfolding open_digits
first-other [] rest t u l e = omega arith
first-other (true ∷ os) rest t u l e = omega arith
first-other (false ∷ os) rest t u l e = first-other os rest t (suc u) (omega arith) e

-- BITS: so much for the first of the list, and twice as much for each next
unfoldable pub weigh : ℕ → List Bool → ℕ
weigh x [] = 0
weigh x (b ∷ bs) = cond b x 0 + weigh (2 * x) bs

pub weighed : (x : ℕ) (bs : List Bool) → weigh x bs ≡ x * from_bits (λ i. get_or bs i false) (length bs)
unfolding weigh from_bits
weighed x [] = omega arith
weighed x (b ∷ bs) =
    let h : weigh (2 * x) bs ≡ 2 * x * from_bits (λ i. get_or bs i false) (length bs) = weighed (2 * x) bs in
    let c : 2 * x ≡ x * 2 = omega arith in
    let n = from_bits (λ i. get_or bs i false) (length bs) in
    let a : weigh (2 * x) bs ≡ x * (2 * n) = h ∙ ap (λ (y : ℕ). y * n) c ∙ mul_assoc x 2 n in
    rw (a, mul-add x (cond b 1 0) (2 * from_bits (λ i. get_or bs i false) (length bs)))
    (ap (λ (y : ℕ). y + x * (2 * from_bits (λ i. get_or bs i false) (length bs))) (one b))
  where
    one : (b : Bool) → cond b x 0 ≡ x * cond b 1 0
    one true = omega arith
    one false = omega arith

-- the next train's bit is twice as much
pub next_bit : (t : ℕ) → 2 ^ (train_bits + suc t) ≡ 2 * 2 ^ (train_bits + t)
next_bit t = let e : train_bits + suc t ≡ suc (train_bits + t) = omega arith in rw e (pow-succ' 2 (train_bits + t))

-- none where no digit stands, and else some
pub weigh-none : (os : List Bool) (t x : ℕ) → open_digits t os ≡ [] → weigh x os ≡ 0
unfolding weigh open_digits
weigh-none [] t x e = refl
weigh-none (true ∷ os) t x e = let z : ◌≡◌ {A = ℕ} 0 1 = cc in absurd (omega arith)
weigh-none (false ∷ os) t x e = let h : weigh (2 * x) os ≡ 0 = weigh-none os (suc t) (2 * x) e in omega arith

pub weigh-some : (os : List Bool) (t x b : ℕ) (bs : List ℕ) → 0 < x → open_digits t os ≡ b ∷ bs → 0 < weigh x os
unfolding weigh open_digits
weigh-some [] t x b bs l e = let z : ◌≡◌ {A = ℕ} 0 1 = cc in absurd (omega arith)
weigh-some (true ∷ os) t x b bs l e = omega arith
weigh-some (false ∷ os) t x b bs l e = let h : 0 < weigh (2 * x) os = weigh-some os (suc t) (2 * x) b bs (omega arith) e in omega arith

pub first-train : (os : List Bool) (t b : ℕ) (bs : List ℕ) → open_digits t os ≡ b ∷ bs → byte "0" < b
unfolding open_digits
first-train [] t b bs e = let z : ◌≡◌ {A = ℕ} 0 1 = cc in absurd (omega arith)
first-train (true ∷ os) t b bs e = let z : train_digit t ≡ b = cc in omega arith
first-train (false ∷ os) t b bs e = first-train os (suc t) b bs e

-- no train is open
pub none_open : (k t : ℕ) → open_digits t (replicate k false) ≡ []
unfolding open_digits
none_open zero t = refl
none_open (suc k) t = none_open k (suc t)
