-- What every update of a record leaves: its counts and the lengths of its tables.
-- Assumes nothing.
use Prim.Native.Nat.{ℕ, ◌-◌}
use mathlib.Core.Path.{◌≡◌, refl}
use mathlib.Core.Bool.{Bool, true, false, cond, ◌&&◌, ◌||◌}
use mathlib.Core.List.{List, [], ◌∷◌}
use lib.Dec.{ltb}
use lib.ListN.{length, length-set}
use Rattle.railway.specs.declared.Side.{Side}
use Rattle.railway.specs.declared.End.{End}
use Rattle.railway.specs.declared.Train.{Train}
use Rattle.railway.specs.declared.Railway.{Railway}
use Rattle.railway.specs.Bounds.{most_sections, most_points, most_trains, section_ends, all_ends}
use Rattle.railway.specs.Ends.{end_index}
use Rattle.railway.specs.Record.{bare_railway, no_legs, no_link, no_train, is_closed, with_join, with_signal, with_closed, with_legs, with_train}
use Rattle.case_file.specs.Form.{JoinLine, SignalLine, TrainLine, said_weight, section}
use Rattle.case_file.specs.Rows.{within}
use Rattle.case_draft.specs.declared.Draft.{Draft}
use Rattle.case_draft.specs.KnownEnd.{KnownEnd, NotThere, There}
use Rattle.case_draft.specs.Drafting.{end_in, put_point, put_ends, put_join, put_at, put_signal, put_closed, weighed_in, train_in_byte, put_train, with_railway, unknown_in}
use Rattle.case_draft.proofs.Folding.{put_rising, put_each}
use Rattle.case_draft.proofs.Stored.{everywhere-length}

pub record Sized (s p k : ℕ) (r : Railway) : Type 0 where
  pub sections : r.sections ≡ s
  pub points : r.points ≡ p
  pub trains : r.trains ≡ k
  pub legs : length r.legs ≡ most_points
  pub links : length r.links ≡ all_ends
  pub signals : length r.signals ≡ section_ends
  pub closed : length r.closed ≡ most_sections
  pub roster : length r.roster ≡ most_trains

pub sized-bare : (s p k : ℕ) → Sized s p k (bare_railway s p k)
sized-bare s p k =
    record {
      sections = refl;
      points = refl;
      trains = refl;
      legs = everywhere-length most_points no_legs;
      links = everywhere-length all_ends no_link;
      signals = everywhere-length section_ends false;
      closed = everywhere-length most_sections false;
      roster = everywhere-length most_trains no_train;
    }

module _ (s p k : ℕ) where
  either-sized : (b : Bool) (x y : Railway) → Sized s p k x → Sized s p k y → Sized s p k (cond b x y)
  either-sized true x y u v = u
  either-sized false x y u v = v

  module _ (r : Railway) (z : Sized s p k r) where
    pub sized-legs : (n : ℕ) (side : Side) → Sized s p k (with_legs r n side)
    unfolding with_legs
    sized-legs n side =
        either-sized (ltb n most_points) _ r
        (record {
          sections = z.sections;
          points = z.points;
          trains = z.trains;
          legs = simp length-set z.legs;
          links = z.links;
          signals = z.signals;
          closed = z.closed;
          roster = z.roster;
        }) z

    pub sized-join : (a b : End) → Sized s p k (with_join r a b)
    unfolding with_join
    sized-join a b =
        either-sized (ltb (end_index a) all_ends && ltb (end_index b) all_ends) _ r
        (record {
          sections = z.sections;
          points = z.points;
          trains = z.trains;
          legs = z.legs;
          links = simp length-set z.links;
          signals = z.signals;
          closed = z.closed;
          roster = z.roster;
        }) z

    pub sized-signal : (e : End) → Sized s p k (with_signal r e)
    unfolding with_signal
    sized-signal e =
        either-sized (ltb (end_index e) section_ends) _ r
        (record {
          sections = z.sections;
          points = z.points;
          trains = z.trains;
          legs = z.legs;
          links = z.links;
          signals = simp length-set z.signals;
          closed = z.closed;
          roster = z.roster;
        }) z

    pub sized-closed : (x : ℕ) → Sized s p k (with_closed r x)
    unfolding with_closed
    sized-closed x =
        either-sized (ltb x most_sections) _ r
        (record {
          sections = z.sections;
          points = z.points;
          trains = z.trains;
          legs = z.legs;
          links = z.links;
          signals = z.signals;
          closed = simp length-set z.closed;
          roster = z.roster;
        }) z

    pub sized-train : (t : ℕ) (train : Train) → Sized s p k (with_train r t train)
    unfolding with_train
    sized-train t train =
        either-sized (ltb t most_trains) _ r
        (record {
          sections = z.sections;
          points = z.points;
          trains = z.trains;
          legs = z.legs;
          links = z.links;
          signals = z.signals;
          closed = z.closed;
          roster = simp length-set z.roster;
        }) z

  -- and so does every line
  abbrev pub SizedDraft : Draft → Type 0
  SizedDraft d = Sized s p k d.railway

  module _ (d : Draft) (z : SizedDraft d) where
    pub sized-point : (n : ℕ) (side : Side) → SizedDraft (put_point d n side)
    unfolding put_point
    sized-point n side = either-sized (within n d.railway.points) _ _ (sized-legs d.railway z (n - 1) side) z

    sized-ends : (x y : KnownEnd) → SizedDraft (put_ends d x y)
    sized-ends (There e) (There f) = sized-join d.railway z e f
    sized-ends (There e) NotThere = z
    sized-ends NotThere y = z

    pub sized-put-join : (j : JoinLine) → SizedDraft (put_join d j)
    unfolding put_join
    sized-put-join j = sized-ends (end_in d.railway j.one) (end_in d.railway j.other)

    sized-at : (x : KnownEnd) → SizedDraft (put_at d x)
    sized-at (There e) = sized-signal d.railway z e
    sized-at NotThere = z

    pub sized-put-signal : (g : SignalLine) → SizedDraft (put_signal d g)
    unfolding put_signal
    sized-put-signal g = sized-at (end_in d.railway (section g.number g.side))

    pub sized-put-closed : (n : ℕ) → SizedDraft (put_closed d n)
    unfolding put_closed
    sized-put-closed n = cases (within n d.railway.sections)
      where
        cases : (b : Bool)
            → SizedDraft (cond b (record {
              railway = with_closed d.railway (n - 1);
              weight = d.weight;
              unknown = d.unknown;
              wrong = d.wrong;
              double = d.double || is_closed d.railway (n - 1);
            })
            (unknown_in d))
        cases true = sized-closed d.railway z (n - 1)
        cases false = z

    pub sized-put-train : (n : ℕ) (t : TrainLine) → SizedDraft (put_train d n t)
    unfolding put_train
    sized-put-train n t = cases (within n d.railway.trains && (within t.start d.railway.sections && within t.destination d.railway.sections))
      where
        cases : (b : Bool)
            → SizedDraft (cond b (with_railway (weighed_in d (said_weight t.weight))
            (with_train d.railway (n - 1) (train_in_byte t))) (unknown_in (weighed_in d (said_weight t.weight))))
        cases true = sized-train d.railway z (n - 1) (train_in_byte t)
        cases false = z

  module _ {A : Type 0} where
    pub sized-rising : (put : Draft → ℕ → A → Draft) → ((d : Draft) → SizedDraft d → (n : ℕ) (x : A) → SizedDraft (put d n x))
        → (xs : List A) (n : ℕ) (d : Draft) → SizedDraft d → SizedDraft (put_rising put n d xs)
    unfolding put_rising
    sized-rising put h [] n d z = z
    sized-rising put h (x ∷ xs) n d z = sized-rising put h xs _ (put d n x) (h d z n x)

    pub sized-each : (put : Draft → A → Draft) → ((d : Draft) → SizedDraft d → (x : A) → SizedDraft (put d x))
        → (xs : List A) (d : Draft) → SizedDraft d → SizedDraft (put_each put d xs)
    unfolding put_each
    sized-each put h [] d z = z
    sized-each put h (x ∷ xs) d z = sized-each put h xs (put d x) (h d z x)
