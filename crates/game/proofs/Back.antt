-- A way over any number of points is the same back: joins are returned and tie sides that differ, and a point that lets a train through from one port to
-- another lets it through back. So a train that comes to a section by an end comes, going back by that end with the points as they lie, to where it was.
-- The way is taken apart into a chain of joins and points, the chain is turned round, and a chain is followed again. Assumes nothing.
use mathlib.Core.Path.{◌≡◌, refl, ◌∙◌, ap}
use mathlib.Core.Bool.{Bool}
use mathlib.Core.Option.{Option, none, some}
use Prim.Native.Nat.{ℕ, zero, suc, ◌≤◌}
use native.Mathlib.Omega.{arith}
use Rattle.laws.proofs.Bools.{some-none, some_one}
use Rattle.railway.specs.declared.Side.{Side}
use Rattle.railway.specs.declared.Leg.{Leg}
use Rattle.railway.specs.declared.PointNo.{PointNo}
use Rattle.railway.specs.declared.End.{End}
use Rattle.railway.specs.declared.End.TheVariants.{Section, Port}
use Rattle.railway.specs.Joined.{Joined, Nothing, With}
use Rattle.railway.specs.declared.Railway.{Railway}
use Rattle.railway.specs.Ends.{opposite}
use Rattle.railway.specs.Record.{joined, legs_of, side_of}
use Rattle.railway.specs.Passing.{through, nowhere, past_point, past_join, follow}
use Rattle.railway.proofs.Rows.{Accepted, joined-right, joined_back}
use Rattle.railway.proofs.Runs.{other-side, twice, through-back, through-sides}

module _ (r : Railway) (plus : ℕ → Bool) where
  -- leaving by one end and coming in by another, over k points
  pub data Chain : ℕ → End → End → Type 0 where
    straight : (e f : End) → joined r e ≡ With f → Chain 0 e f
    onward : (k : ℕ) (e f : End) (n : PointNo) (a b : Leg) → joined r e ≡ With (Port n a) → through a (plus n.0) ≡ some b → Chain k (Port n b) f → Chain (suc k) e f

  -- one point more at the end
  further : (k : ℕ) (e f : End) (n : PointNo) (a b : Leg) → Chain k e (Port n a) → through a (plus n.0) ≡ some b → joined r (Port n b) ≡ With f → Chain (suc k) e f
  further k e f n a b c t j = go k e (Port n a) c refl
    where
      go : (k : ℕ) (e g : End) → Chain k e g → g ≡ Port n a → Chain (suc k) e f
      go k e g (straight e₁ g₁ p) z = onward 0 e₁ f n a b (p ∙ ap With z) t (straight (Port n b) f j)
      go k e g (onward k' e₁ g₁ n' a' b' p t' c) z = onward (suc k') e₁ f n' a' b' p t' (go k' (Port n' b') g₁ c z)

  -- CHAINS, there and back: as many points, and from side to side
  module _ (w : Accepted r) where
    pub chain_back : (k : ℕ) (e f : End) → Chain k e f → Chain k f e
    chain_back k e f (straight e₁ f₁ p) = straight f₁ e₁ (joined_back r w e₁ f₁ p)
    chain_back k e f (onward k' e₁ f₁ n a b p t c) = further k' f₁ e₁ n b a (chain_back k' (Port n b) f₁ c) (through-back a b (plus n.0) t) (joined_back r w e₁ (Port n a) p)

    pub chain-sides : (k : ℕ) (e f : End) → Chain k e f → side_of r f ≡ opposite (side_of r e)
    chain-sides k e f (straight e₁ f₁ p) = other-side (side_of r e₁) (side_of r f₁) (joined-right r w e₁ f₁ p).sides
    chain-sides k e f (onward k' e₁ f₁ n a b p t c) =
        let x : side_of r (Port n a) ≡ opposite (side_of r e₁) = other-side (side_of r e₁) (side_of r (Port n a)) (joined-right r w e₁ (Port n a) p).sides in
        let y : side_of r (Port n b) ≡ opposite (side_of r (Port n a)) = through-sides (legs_of r n.0) a b (plus n.0) t in
        chain-sides k' (Port n b) f₁ c ∙ ap opposite (y ∙ ap opposite x ∙ twice (side_of r e₁))

  -- WHERE A TRAIN COMES TO, by chains
  pub record Comes (k : ℕ) (e : End) (x : ℕ) : Type 0 where
    pub points : ℕ
    pub few : points ≤ k
    pub side : Side
    pub chain : Chain points e (Section (record { 0 = x }) side)

  -- who is followed to a section has gone by a chain
  pub chain-of : (k : ℕ) (e : End) (x : ℕ) → (follow r plus k (joined r e)).reached ≡ some x → Comes k e x
  unfolding follow
  chain-of zero e x h = go (joined r e) refl h
    where
      go : (j : Joined) → joined r e ≡ j → (past_join (λ n l. nowhere) j).reached ≡ some x → Comes zero e x
      go Nothing p q = some-none q refl
      go (With (Section n s)) p q = let z : n.0 ≡ x = some_one q in rw (← z) (record { points = 0; few = omega arith; side = s; chain = straight e (Section n s) p })
      go (With (Port n l)) p q = some-none q refl
  chain-of (suc k) e x h = go (λ n b. chain-of k (Port n b) x) (joined r e) refl h
    where
      over : (n : PointNo) (l : Leg) (o : Option Leg) → joined r e ≡ With (Port n l) → through l (plus n.0) ≡ o
          → ((b : Leg) → (follow r plus k (joined r (Port n b))).reached ≡ some x → Comes k (Port n b) x)
          → (past_point r (λ i. follow r plus k i) n o).reached ≡ some x → Comes (suc k) e x
      over n l none p t rest q = some-none q refl
      over n l (some b) p t rest q = let c = rest b q in record { points = suc c.points; few = omega (arith, c.few); side = c.side; chain = onward c.points e _ n l b p t c.chain }

      go : ((n : PointNo) (b : Leg) → (follow r plus k (joined r (Port n b))).reached ≡ some x → Comes k (Port n b) x) → (j : Joined) → joined r e ≡ j
          → (past_join (λ n l. past_point r (λ i. follow r plus k i) n (through l (plus n.0))) j).reached ≡ some x → Comes (suc k) e x
      go rest Nothing p q = some-none q refl
      go rest (With (Section n s)) p q = let z : n.0 ≡ x = some_one q in rw (← z) (record { points = 0; few = omega arith; side = s; chain = straight e (Section n s) p })
      go rest (With (Port n l)) p q = over n l (through l (plus n.0)) p refl (rest n) q

  -- and a chain is followed, if as many points are allowed
  pub of-chain : (k m : ℕ) (e : End) (x : ℕ) (s : Side) → Chain m e (Section (record { 0 = x }) s) → m ≤ k → (follow r plus k (joined r e)).reached ≡ some x
  unfolding follow
  of-chain k m e x s c l = go k m e (Section (record { 0 = x }) s) c refl l
    where
      go : (k m : ℕ) (e f : End) → Chain m e f → f ≡ Section (record { 0 = x }) s → m ≤ k → (follow r plus k (joined r e)).reached ≡ some x
      go zero m e f (straight e₁ f₁ p) z l = rw (p, z)
      go (suc k) m e f (straight e₁ f₁ p) z l = rw (p, z)
      go zero m e f (onward m' e₁ f₁ n a b p t c) z l = absurd (omega arith)
      go (suc k) m e f (onward m' e₁ f₁ n a b p t c) z l = rw (p, t) (go k m' (Port n b) f₁ c z (omega arith))

  -- THE WAY BACK: as many points allowed, the points as they lie
  pub goes_back : Accepted r → (k y x : ℕ) (h : Side) → (follow r plus k (joined r (Section (record { 0 = y }) h))).reached ≡ some x
      → (follow r plus k (joined r (Section (record { 0 = x }) (opposite h)))).reached ≡ some y
  goes_back w k y x h e =
      let c = chain-of k (Section (record { 0 = y }) h) x e in
      let s : c.side ≡ opposite h = chain-sides w c.points (Section (record { 0 = y }) h) (Section (record { 0 = x }) c.side) c.chain in
      rw (← s) (of-chain k c.points (Section (record { 0 = x }) c.side) y h (chain_back w c.points _ _ c.chain) c.few)
