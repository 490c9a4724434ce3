-- The draft of a description whose counts and weights are within their bounds and whose names are all there: what each line adds to the record, and the
-- flags. Each line is put in as an update of the record alone, or with its own flag beside it.
-- Assumes nothing.
use Prim.Native.Nat.{ℕ, suc, ◌+◌, ◌-◌, ◌%◌, ◌<◌, ◌≤◌}
use mathlib.Core.Path.{◌≡◌, refl, ◌∙◌, ap}
use mathlib.Core.Bool.{Bool, true, false, ◌||◌}
use mathlib.Core.List.Memᴰ
use mathlib.Core.List.{List, [], ◌∷◌, map}
use native.Mathlib.Omega.{arith}
use lib.ListN.{length, set, length-set}
use borrow.Author.Tests.{lt-ltb}
use Rattle.laws.specs.Lists.{Every}
use Rattle.railway.specs.declared.Side.{Side}
use Rattle.railway.specs.declared.Legs.{Legs}
use Rattle.railway.specs.declared.Train.{Train}
use Rattle.railway.specs.declared.Railway.{Railway}
use Rattle.railway.specs.Bounds.{most_points, most_trains}
use Rattle.railway.specs.Record.{has_signal, is_closed, with_join, with_signal, with_closed, with_legs, with_train}
use Rattle.railway.proofs.Rows.{right-weight}
use Rattle.case_file.specs.Form.{EndField, section, JoinLine, SignalLine, TrainLine, Description, said_weight}
use Rattle.case_file.specs.Rows.{wrong_weight_in, within, known}
use Rattle.case_file.specs.Recording.{end_of, train_of_line}
use Rattle.case_file.proofs.Rows.{is-within}
use Rattle.case_draft.specs.declared.Draft.{Draft}
use Rattle.case_draft.specs.Drafting.{put_point, faulty, put_join, put_signal, put_closed, put_train, with_railway}
use Rattle.case_draft.proofs.Folding.{put_rising, put_each}
use Rattle.case_draft.proofs.Stored.{store_from}
use Rattle.case_draft.proofs.Sized.{sized-point, sized-put-join, sized-put-signal, sized-put-closed}
use Rattle.case_draft.proofs.Known.{or_nothing, or_assoc, SizedBy, there-known}

abbrev pub legs_row : Side → Legs
legs_row s = record { side = s }

abbrev pub with_all_legs : Railway → List Legs → Railway
with_all_legs r l = record { sections = r.sections; points = r.points; trains = r.trains; legs = l; links = r.links; signals = r.signals; closed = r.closed; roster = r.roster }

abbrev pub with_roster : Railway → List Train → Railway
with_roster r l = record { sections = r.sections; points = r.points; trains = r.trains; legs = r.legs; links = r.links; signals = r.signals; closed = r.closed; roster = l }

abbrev pub signal_end : SignalLine → EndField
signal_end g = section g.number g.side

-- all joins and all signals added, all sections closed, and what is found on the way
unfoldable pub join_all : Railway → List JoinLine → Railway
join_all r [] = r
join_all r (j ∷ js) = join_all (with_join r (end_of j.one) (end_of j.other)) js

unfoldable pub faults : Railway → List JoinLine → Bool
faults r [] = false
faults r (j ∷ js) = faulty r (end_of j.one) (end_of j.other) || faults (with_join r (end_of j.one) (end_of j.other)) js

unfoldable pub signal_all : Railway → List SignalLine → Railway
signal_all r [] = r
signal_all r (g ∷ gs) = signal_all (with_signal r (end_of (signal_end g))) gs

unfoldable pub doubles : Railway → List SignalLine → Bool
doubles r [] = false
doubles r (g ∷ gs) = has_signal r (end_of (signal_end g)) || doubles (with_signal r (end_of (signal_end g))) gs

unfoldable pub close_all : Railway → List ℕ → Railway
close_all r [] = r
close_all r (n ∷ ns) = close_all (with_closed r (n - 1)) ns

unfoldable pub closed_again : Railway → List ℕ → Bool
closed_again r [] = false
closed_again r (n ∷ ns) = is_closed r (n - 1) || closed_again (with_closed r (n - 1)) ns

module _ (d : Description) where
  abbrev pub KnownJoin : JoinLine → Type 0
  KnownJoin j = (known d j.one ≡ true) × (known d j.other ≡ true)

  abbrev pub KnownSignal : SignalLine → Type 0
  KnownSignal g = within g.number d.sections ≡ true

  abbrev pub KnownClosed : ℕ → Type 0
  KnownClosed n = within n d.sections ≡ true

  abbrev pub KnownTrain : TrainLine → Type 0
  KnownTrain t = (within t.start d.sections ≡ true) × (within t.destination d.sections ≡ true) × (wrong_weight_in t ≡ false)

  -- a weight that a train may have is a byte
  whole-byte : (t : TrainLine) → wrong_weight_in t ≡ false → said_weight t.weight % 256 ≡ said_weight t.weight
  whole-byte t h = let b = right-weight (said_weight t.weight) h in omega arith

  -- one line
  module _ (w : Draft) (z : SizedBy d w.railway) where
    point-put : (i : ℕ) (x : Side) → i < d.points → d.points ≤ most_points → put_point w (suc i) x ≡ with_railway w (with_all_legs w.railway (set w.railway.legs i (legs_row x)))
    unfolding put_point with_legs
    point-put i x h b =
        let e : within (suc i) w.railway.points ≡ true = ap (within (suc i)) z.points ∙ is-within (suc i) d.points (omega arith) (omega arith) in
        let m : suc i - 1 ≡ i = omega arith in
        rw (e, m, lt-ltb i most_points (omega arith))

    join-put : (j : JoinLine) → KnownJoin j
        → put_join w j ≡ record {
          railway = with_join w.railway (end_of j.one) (end_of j.other);
          weight = w.weight;
          unknown = w.unknown;
          wrong = w.wrong || faulty w.railway (end_of j.one)
              (end_of j.other);
          double = w.double;
        }
    unfolding put_join
    join-put j h = rw (there-known d w.railway z j.one ∙ h.0, there-known d w.railway z j.other ∙ h.1)

    signal-put : (g : SignalLine) → KnownSignal g
        → put_signal w g ≡ record {
          railway = with_signal w.railway (end_of (signal_end g));
          weight = w.weight;
          unknown = w.unknown;
          wrong = w.wrong;
          double = w.double || has_signal w.railway (end_of (signal_end g));
        }
    unfolding put_signal
    signal-put g h = rw (there-known d w.railway z (signal_end g) ∙ h)

    closed-put : (n : ℕ) → KnownClosed n
        → put_closed w n ≡ record { railway = with_closed w.railway (n - 1); weight = w.weight; unknown = w.unknown; wrong = w.wrong; double = w.double || is_closed w.railway (n - 1) }
    unfolding put_closed
    closed-put n h = rw (ap (within n) z.sections ∙ h)

    train-put : (i : ℕ) (t : TrainLine) → i < d.trains → d.trains ≤ most_trains → KnownTrain t
        → put_train w (suc i) t ≡ with_railway w (with_roster w.railway (set w.railway.roster i (train_of_line t)))
    unfolding put_train with_train
    train-put i t h b k =
        let e : within (suc i) w.railway.trains ≡ true = ap (within (suc i)) z.trains ∙ is-within (suc i) d.trains (omega arith) (omega arith) in
        let m : suc i - 1 ≡ i = omega arith in
        rw (e, ap (within t.start) z.sections ∙ k.0, ap (within t.destination) z.sections ∙ k.1, m, lt-ltb i most_trains (omega arith), k.2, or_nothing w.weight, whole-byte t k.2)

  -- all lines of a kind
  pub points-put : d.points ≤ most_points → (xs : List Side) (i : ℕ) (w : Draft) → SizedBy d w.railway → i + length xs ≤ d.points
      → put_rising put_point (suc i) w xs ≡ with_railway w (with_all_legs w.railway (store_from w.railway.legs i (map legs_row xs)))
  unfolding put_rising store_from
  points-put b [] i w z h = refl
  points-put b (x ∷ xs) i w z h =
      let e = point-put w z i x (omega arith) b in
      let y = sized-point d.sections d.points d.trains w z (suc i) x in
      rw e (points-put b xs (suc i) _ (rw e at y) (omega arith))

  pub joins-put : (js : List JoinLine) (w : Draft) → SizedBy d w.railway → Every KnownJoin js
      → put_each put_join w js ≡ record { railway = join_all w.railway js; weight = w.weight; unknown = w.unknown; wrong = w.wrong || faults w.railway js; double = w.double }
  unfolding put_each join_all faults
  joins-put [] w z h = rw (or_nothing w.wrong)
  joins-put (j ∷ js) w z h =
      let e = join-put w z j (h j (Memᴰ.head refl)) in
      let y = sized-put-join d.sections d.points d.trains w z j in
      let a = or_assoc w.wrong (faulty w.railway (end_of j.one) (end_of j.other)) (faults (with_join w.railway (end_of j.one) (end_of j.other)) js) in
      rw (e, ← a) (joins-put js _ (rw e at y) (λ x m. h x (Memᴰ.tail m)))

  pub signals-put : (gs : List SignalLine) (w : Draft) → SizedBy d w.railway → Every KnownSignal gs
      → put_each put_signal w gs ≡ record { railway = signal_all w.railway gs; weight = w.weight; unknown = w.unknown; wrong = w.wrong; double = w.double || doubles w.railway gs }
  unfolding put_each signal_all doubles
  signals-put [] w z h = rw (or_nothing w.double)
  signals-put (g ∷ gs) w z h =
      let e = signal-put w z g (h g (Memᴰ.head refl)) in
      let y = sized-put-signal d.sections d.points d.trains w z g in
      let a = or_assoc w.double (has_signal w.railway (end_of (signal_end g))) (doubles (with_signal w.railway (end_of (signal_end g))) gs) in
      rw (e, ← a) (signals-put gs _ (rw e at y) (λ x m. h x (Memᴰ.tail m)))

  pub closeds-put : (ns : List ℕ) (w : Draft) → SizedBy d w.railway → Every KnownClosed ns
      → put_each put_closed w ns ≡ record { railway = close_all w.railway ns; weight = w.weight; unknown = w.unknown; wrong = w.wrong; double = w.double || closed_again w.railway ns }
  unfolding put_each close_all closed_again
  closeds-put [] w z h = rw (or_nothing w.double)
  closeds-put (n ∷ ns) w z h =
      let e = closed-put w z n (h n (Memᴰ.head refl)) in
      let y = sized-put-closed d.sections d.points d.trains w z n in
      let a = or_assoc w.double (is_closed w.railway (n - 1)) (closed_again (with_closed w.railway (n - 1)) ns) in
      rw (e, ← a) (closeds-put ns _ (rw e at y) (λ x m. h x (Memᴰ.tail m)))

  pub trains-put : d.trains ≤ most_trains → (ts : List TrainLine) (i : ℕ) (w : Draft) → SizedBy d w.railway → i + length ts ≤ d.trains → Every KnownTrain ts
      → put_rising put_train (suc i) w ts ≡ with_railway w (with_roster w.railway (store_from w.railway.roster i (map train_of_line ts)))
  unfolding put_rising store_from
  trains-put b [] i w z h k = refl
  trains-put b (t ∷ ts) i w z h k =
      let e = train-put w z i t (omega arith) b (k t (Memᴰ.head refl)) in
      rw e (trains-put b ts (suc i) _
      (roster-sized w.railway z (set w.railway.roster i (train_of_line t))
      (set-length w.railway.roster i (train_of_line t))) (omega arith) (λ x m. k x (Memᴰ.tail m)))
    where
      set-length : (l : List Train) (i : ℕ) (x : Train) → length (set l i x) ≡ length l
      set-length l i x = simp length-set

      roster-sized : (r : Railway) → SizedBy d r → (l : List Train) → length l ≡ length r.roster → SizedBy d (with_roster r l)
      roster-sized r z l e =
          record {
            sections = z.sections;
            points = z.points;
            trains = z.trains;
            legs = z.legs;
            links = z.links;
            signals = z.signals;
            closed = z.closed;
            roster = e ∙ z.roster;
          }
