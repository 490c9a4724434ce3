-- The marks of a stretch, train after train. They stand apart, for there are as many stretches between them as there are in all. Assumes nothing.
use mathlib.Core.Path.{◌≡◌, refl, ◌∙◌}
use mathlib.Core.Logic.{inl, inr}
use mathlib.Core.List.{List}
use Prim.Native.Nat.{ℕ, ◌+◌, ◌*◌, ◌≤◌, ◌<◌}
use native.Mathlib.Omega.{arith}
use lib.ListN.{length, get_or}
use Rattle.laws.proofs.Bools.{eq?}
use Rattle.solver_marks.specs.Marks.{stretch_of, most_codes, stretches, due_at, most_at, Room, soon_by, Raised, Lowered, Lifted}
use Rattle.railway.specs.Bounds.{most_trains}
use Rattle.game_tables.specs.Tables.{no_figure}

-- the marks of the first t trains allow for these rounds, and no mark for less than before
pub record Sooner (marks : List ℕ) (c : ℕ) (soon : List ℕ) (t : ℕ) (marks' : List ℕ) : Type 0 where
  pub long : length marks' ≡ length marks
  pub down : (j : ℕ) → get_or marks' j 0 ≤ get_or marks j 0
  pub most : (q : ℕ) → most_at marks' q ≡ most_at marks q
  pub due : (u : ℕ) → u < t → soon_by soon u < no_figure → due_at marks' u c ≤ soon_by soon u

module _ (marks : List ℕ) (c : ℕ) (soon : List ℕ) (room : Room marks) (small : c < most_codes) where
  pub none-sooner : Sooner marks c soon 0 marks
  none-sooner = record { long = refl; down = λ j. omega arith; most = λ q. refl; due = λ u l. absurd (omega arith) }

  pub one-sooner : (t x : ℕ) (marks₁ marks₂ : List ℕ) → t < most_trains → x ≡ soon_by soon t → length marks₂ ≡ length marks₁ → Sooner marks c soon t marks₁
      → Lowered marks₁ (t * stretches + stretch_of c) x marks₂ → Sooner marks c soon (t + 1) marks₂
  one-sooner t x marks₁ marks₂ lt is same s l =
      record {
        long = same ∙ s.long;
        down = λ j. omega (arith, s.down j, l.each j);
        most = λ q. l.others (most_trains * stretches + stretch_of q) (λ y. omega arith) ∙ s.most q;
        due = λ u lu k. elim (eq? u t) [
          | inl z ↦ rw z (let k' : soon_by soon t < no_figure = rw z at k in rw (← is) (l.there (omega (arith, s.long, room.enough)) (omega arith)))
          | inr z ↦ omega (arith, s.due u (omega (arith, z)) k, l.each (u * stretches + stretch_of c))
        ];
      }

  pub marks-raised : (n : ℕ) (marks₁ marks₂ : List ℕ) → length marks₂ ≡ length marks₁ → Sooner marks c soon most_trains marks₁
      → Lifted marks₁ (most_trains * stretches + stretch_of c) n marks₂ → Raised marks c n soon marks₂
  marks-raised n marks₁ marks₂ same s l =
      record {
        sooner = λ t q lt lq. let z = l.others (t * stretches + stretch_of q) (λ y. omega arith) in omega (arith, s.down (t * stretches + stretch_of q));
        higher = λ q lq. omega (arith, s.most q, l.each (most_trains * stretches + stretch_of q));
        due = λ t lt k. let z = l.others (t * stretches + stretch_of c) (λ y. omega arith) in omega (arith, s.due t lt k);
        most = l.there (omega (arith, s.long, room.enough));
        room = record { enough = same ∙ s.long ∙ room.enough };
      }
