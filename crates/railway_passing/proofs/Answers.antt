-- What following a train answers at each step is what the definition says there: past a join, over a point, and with a
-- point met before all else. As many points are met as are allowed, at most, so they have room. Assumes nothing.
use mathlib.Core.Path.{◌≡◌, refl, sym, ◌∙◌, ap}
use mathlib.Core.Bool.{Bool, false}
use mathlib.Core.List.{List, [], ◌∷◌}
use mathlib.Core.Option.{Option, none, some}
use Prim.Native.Nat.{ℕ, zero, suc, ◌+◌, ◌-◌, ◌^◌, ◌/◌, ◌≤◌, ◌<◌}
use native.Mathlib.Omega.{arith}
use native.Mathlib.Nat.{div-eq_of_lt, pow-le-pow_right}
use lib.ListN.{length, get_or}
use Rattle.laws.specs.Bits.{bit}
use Rattle.laws.proofs.Bools.{some-none}
use Rattle.std.specs.Prelude.{Ok, Err}
use Rattle.railway.specs.declared.Leg.{Leg}
use Rattle.railway.specs.declared.Side.{Side}
use Rattle.railway.specs.declared.PointNo.{PointNo}
use Rattle.railway.specs.declared.SectionNo.{SectionNo}
use Rattle.railway.specs.declared.End.{End}
use Rattle.railway.specs.declared.End.TheVariants.{Section, Port}
use Rattle.railway.specs.Joined.{Joined, Nothing, With}
use Rattle.railway.specs.declared.Railway.{Railway}
use Rattle.railway.specs.declared.Refusal.{Refusal}
use Rattle.railway.specs.CaseAnswer.{Accepted, Refused}
use Rattle.railway.specs.Record.{no_link, joined_by, joined}
use Rattle.railway.specs.Ends.{end_index}
use Rattle.railway.specs.Lent.{LinksOf}
use Rattle.railway.specs.Passing.{Passage, through, most_met, nowhere, meeting, past_point, past_join, follow, passes}
use Rattle.railway.proofs.Lookups.{joined-read}
use Rattle.railway_acceptance.specs.Answers.{Judged}
use Rattle.railway_acceptance.proofs.Answers.{judged-refused, judged-accepted}
use Rattle.railway_passing.specs.declared.Passed.{Passed}
use Rattle.railway_passing.specs.Onward.{Onward, Derails, By}
use Rattle.railway_passing.specs.Answers.{padded, answer_of, arriving, onward, PassPost}

-- A POINT MET BEFORE ALL ELSE moves the others on by one
shift : (ms : List ℕ) → length ms < most_met
    → get_or (padded most_met ms) 0 0 ∷ get_or (padded most_met ms) 1 0 ∷ get_or (padded most_met ms) 2 0 ∷ [] ≡ padded 3 ms
unfolding padded
shift [] l = refl
shift (a ∷ []) l = refl
shift (a ∷ b ∷ []) l = refl
shift (a ∷ b ∷ c ∷ []) l = refl
shift (a ∷ b ∷ c ∷ d ∷ ms) l = absurd (omega arith)

pub met-more : (a : Passed) (n : PointNo) (w : Passage) → length w.met < most_met → a ≡ answer_of w
    → record {
      reached = a.reached;
      count = a.count + 1;
      points = n.0 ∷ get_or a.points 0 0 ∷ get_or a.points 1
          0 ∷ get_or a.points 2 0 ∷ [];
    } ≡ answer_of (meeting n w)
unfolding padded
met-more a n w l e =
    let c : length w.met + 1 ≡ suc (length w.met) = omega arith in
    rw (e, c, shift w.met l)

-- AT MOST AS MANY POINTS AS ARE ALLOWED
module _ (r : Railway) (plus : ℕ → Bool) where
  over-few : (g : Joined → Passage) (k : ℕ) → ((j : Joined) → length (g j).met ≤ k) → (n : PointNo) (o : Option Leg)
      → length (past_point r g n o).met ≤ suc k
  over-few g k h n none = omega arith
  over-few g k h n (some l) = omega (arith, h (joined r (Port n l)))

  join-few : (g : PointNo → Leg → Passage) (k : ℕ) → ((n : PointNo) (l : Leg) → length (g n l).met ≤ k) → (j : Joined)
      → length (past_join g j).met ≤ k
  join-few g k h Nothing = omega arith
  join-few g k h (With (Section n s)) = omega arith
  join-few g k h (With (Port n l)) = h n l

  pub follow-few : (k : ℕ) (j : Joined) → length (follow r plus k j).met ≤ k
  unfolding follow
  follow-few zero j = join-few (λ n l. nowhere) 0 (λ n l. omega arith) j
  follow-few (suc k) j =
      join-few _ (suc k) (λ n l. over-few (λ i. follow r plus k i) k (follow-few k) n (through l (plus n.0))) j

-- A BIT: a number of 32 bits has none past them
pub bit_high : (v n : ℕ) → v < 4294967296 → 32 ≤ n → false ≡ bit v n
bit_high v n l h =
    let e : v / (2 ^ n) ≡ 0 = div-eq_of_lt (omega (arith, pow-le-pow_right {n = 2} (omega arith) {i = 32} {j = n} h)) in
    rw e

-- A JOIN, by its link
pub join_is : (r : Railway) (links : List ℕ) (e : End) (i b : ℕ) (j : Joined) → LinksOf r links → i ≡ end_index e
    → b ≡ get_or r.links i no_link → j ≡ joined_by b → j ≡ joined r e
join_is r links e i b j h p q s =
    s ∙ ap joined_by q ∙ joined-read r e i p (ap (λ (l : List ℕ). length l) h.are ∙ h.many)

module _ (r : Railway) (points : ℕ) where
  -- PAST A JOIN: none, to a section, to a point where none is allowed, and over a point
  pub past-none : (k : ℕ) (j : Joined) (a : Passed) → j ≡ Nothing → a ≡ answer_of nowhere
      → a ≡ answer_of (follow r (bit points) k j)
  unfolding follow
  past-none k j a e h = h ∙ ap answer_of (go k)
    where
      go : (k : ℕ) → nowhere ≡ follow r (bit points) k j
      go zero = rw e
      go (suc k) = rw e

  pub past-section : (k : ℕ) (j : Joined) (x : End) (n : SectionNo) (s : Side) (a : Passed) → j ≡ With x
      → x ≡ Section n s → a ≡ answer_of (arriving n) → a ≡ answer_of (follow r (bit points) k j)
  unfolding follow
  past-section k j x n s a e f h = h ∙ ap answer_of (go k)
    where
      go : (k : ℕ) → arriving n ≡ follow r (bit points) k j
      go zero = rw (e, f)
      go (suc k) = rw (e, f)

  pub past_stop : (k : ℕ) (j : Joined) (x : End) (n : PointNo) (l : Leg) (a : Passed) → j ≡ With x → x ≡ Port n l
      → k ≡ 0 → a ≡ answer_of nowhere → a ≡ answer_of (follow r (bit points) k j)
  unfolding follow
  past_stop k j x n l a e f z h = h ∙ (let g : nowhere ≡ follow r (bit points) k j = rw (e, f, z) in ap answer_of g)

  pub past-port : (k : ℕ) (j : Joined) (x : End) (n : PointNo) (l : Leg) (a : Passed) → j ≡ With x
      → x ≡ Port n l → (k ≡ 0 → ⊥)
      → a ≡ answer_of (past_point r (λ i. follow r (bit points) (k - 1) i) n (through l (bit points n.0)))
      → a ≡ answer_of (follow r (bit points) k j)
  unfolding follow
  past-port k j x n l a e f z h =
      let s : suc (k - 1) ≡ k = omega (arith, z) in
      h ∙ ap answer_of (go (k - 1) ∙ ap (λ (m : ℕ). follow r (bit points) m j) s)
    where
      go : (m : ℕ) → past_point r (λ i. follow r (bit points) m i) n (through l (bit points n.0))
          ≡ follow r (bit points) (suc m) j
      go m = rw (e, f)

  -- OVER A POINT: it is met first; the train derails on it, or goes on past a join
  module _ (k : ℕ) (n : PointNo) (l : Leg) (plus : Bool) (o : Onward) (lies : plus ≡ bit points n.0)
      (is : onward o ≡ through l plus) (a b : Passed)
      (met : (w : Passage) → length w.met < most_met → a ≡ answer_of w → b ≡ answer_of (meeting n w)) where
    pub over-derails : o ≡ Derails → a ≡ answer_of nowhere
        → b ≡ answer_of (past_point r (λ i. follow r (bit points) k i) n (through l (bit points n.0)))
    over-derails f h =
        let t : through l (bit points n.0) ≡ none = ap (through l) (sym lies) ∙ sym is ∙ ap onward f in
        met nowhere (omega arith) h
        ∙ sym (ap (λ (x : Option Leg). answer_of (past_point r (λ i. follow r (bit points) k i) n x)) t)

    pub over-on : (m : Leg) (j : Joined) → k < most_met → o ≡ By m → j ≡ joined r (Port n m)
        → a ≡ answer_of (follow r (bit points) k j)
        → b ≡ answer_of (past_point r (λ i. follow r (bit points) k i) n (through l (bit points n.0)))
    over-on m j few f e h =
        let t : through l (bit points n.0) ≡ some m = ap (through l) (sym lies) ∙ sym is ∙ ap onward f in
        met (follow r (bit points) k (joined r (Port n m)))
        (omega (arith, follow-few r (bit points) k (joined r (Port n m))))
        (h ∙ ap (λ (i : Joined). answer_of (follow r (bit points) k i)) e)
        ∙ sym (ap (λ (x : Option Leg). answer_of (past_point r (λ i. follow r (bit points) k i) n x)) t)

-- THE ANSWER
module _ (r : Railway) (e : End) (points : ℕ) where
  pub post-refused : (f : Refusal) → Judged r (Refused f) → PassPost r e points (Err f)
  post-refused f judged =
      record { judged = judged; accepted = λ x. some-none (judged-refused r judged refl) x; refused = λ g x. refl }

  pub post-accepted : (j : Joined) (a : Passed) → Judged r Accepted → j ≡ joined r e → a ≡ answer_of (follow r (bit points) 4 j)
      → PassPost r e points (Ok a)
  unfolding passes
  post-accepted j a judged p h =
      record {
        judged = judged;
        accepted = λ x. h ∙ ap (λ (i : Joined). answer_of (follow r (bit points) 4 i)) p;
        refused = λ f x. some-none x (judged-accepted r judged refl);
      }
