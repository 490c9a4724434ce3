-- SIGNALS AND TRAINS PLAY NO PART: what is entered goes by what ends are joined to and by what is closed, so that records of one track have the same runs, entries and tables. Assumes nothing.
use mathlib.Core.Path.{◌≡◌, refl, sym, ◌∙◌, ap}
use mathlib.Core.Bool.{Bool}
use mathlib.Core.Option.{Option, none, some}
use Prim.Native.Nat.{ℕ, zero, suc, ◌<◌}
use Rattle.railway.specs.declared.Side.{Side}
use Rattle.railway.specs.declared.Leg.{Leg}
use Rattle.railway.specs.declared.PointNo.{PointNo}
use Rattle.railway.specs.declared.End.{End}
use Rattle.railway.specs.declared.End.TheVariants.{Section, Port}
use Rattle.railway.specs.Joined.{Joined, Nothing, With}
use Rattle.railway.specs.declared.Railway.{Railway}
use Rattle.railway.specs.Record.{is_closed, joined}
use Rattle.railway.specs.Passing.{Passage, through, most_met, meeting, past_point, past_join, follow, passes, in_use, entered}
-- (Examples is named so that it is checked before.)
use Rattle.runs.specs.Runs.{Enters, Run, here, further, IsRun, SameTrack, SameRuns}

module _ {r s : Railway} (h : SameTrack r s) where
  pub back : SameTrack s r
  back = record { sections = sym h.sections; points = sym h.points; legs = sym h.legs; links = sym h.links; closed = sym h.closed }

  -- what an end is joined to, and what is closed
  joined_same : (e : End) → joined r e ≡ joined s e
  unfolding joined
  joined_same e = let z = h.links in rw z refl

  closed_same : (x : ℕ) → is_closed r x ≡ is_closed s x
  unfolding is_closed
  closed_same x = let z = h.closed in rw z refl

  -- where a train comes to, however many points are allowed
  point-same : (f g : Joined → Passage) → ((j : Joined) → f j ≡ g j) → (n : PointNo) (o : Option Leg) → past_point r f n o ≡ past_point s g n o
  point-same f g e n none = refl
  point-same f g e n (some l) = ap (meeting n) (ap f (joined_same (Port n l)) ∙ e (joined s (Port n l)))

  past_same : (f g : PointNo → Leg → Passage) → ((n : PointNo) (l : Leg) → f n l ≡ g n l) → (j : Joined) → past_join f j ≡ past_join g j
  past_same f g e Nothing = refl
  past_same f g e (With (Section n side)) = refl
  past_same f g e (With (Port n l)) = e n l

  follow-same : (plus : ℕ → Bool) (k : ℕ) (j : Joined) → follow r plus k j ≡ follow s plus k j
  unfolding follow
  follow-same plus zero j = refl
  follow-same plus (suc k) j = past_same _ _ (λ n l. point-same (follow r plus k) (follow s plus k) (follow-same plus k) n (through l (plus n.0))) j

  passes_same : (plus : ℕ → Bool) (e : End) → passes r plus e ≡ passes s plus e
  unfolding passes
  passes_same plus e = follow-same plus most_met (joined r e) ∙ ap (follow s plus most_met) (joined_same e)

  -- what it enters
  use-same : (o : Option ℕ) → in_use r o ≡ in_use s o
  use-same none = refl
  use-same (some x) = rw (closed_same x) refl

  entered-same : (plus : ℕ → Bool) (e : End) → entered r plus e ≡ entered s plus e
  unfolding entered
  entered-same plus e = rw (passes_same plus e) (use-same (passes s plus e).reached)

  enters-too : {heading : Side} {x y : ℕ} → Enters r heading x y → Enters s heading x y
  enters-too {heading} {x} i = record { plus = i.plus; comes = sym (entered-same i.plus (Section (record { 0 = x }) heading)) ∙ i.comes }

  there-too : (x : ℕ) → x < r.sections → x < s.sections
  there-too x l = let z = h.sections in rw z at l

-- a run of the one is a run of the other
run-too : {r s : Railway} → SameTrack r s → {heading : Side} {x y n : ℕ} → Run r heading x y n → Run s heading x y n
run-too h {heading} {x} (here l) = here (there-too h x l)
run-too h (further run i) = further (run-too h run) (enters-too h i)

module _ (r s : Railway) (h : SameTrack r s) where
  entry-too : (heading : Side) (x y v : ℕ) → IsRun r heading x y v → IsRun s heading x y v
  entry-too heading x y v i = record {
    reached = λ d. run-too h (i.reached d);
    least = λ n run. i.least n (run-too (back h) run);
    none-exactly = (λ e n run. i.none-exactly.0 e n (run-too (back h) run), λ without. i.none-exactly.1 (λ n run. without n (run-too h run)));
  }

  pub same_runs : SameRuns r s
  same_runs = record {
    runs = λ heading x y n. (run-too h, run-too (back h));
    entries = entry-too;
    tables = λ heading g t. record { square = t.square; entries = λ x y lx ly. entry-too heading x y _ (t.entries x y lx ly) };
  }
