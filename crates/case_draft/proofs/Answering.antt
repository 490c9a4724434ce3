-- A draft is answered as its description is. Row by row the record and the flags say what the rows of the description say, each row where none before
-- it applies: that is all that the first of them depends on.
-- Assumes nothing.
use Prim.Native.Nat.{ℕ, suc, ◌-◌, ◌<◌}
use mathlib.Core.Path.{◌≡◌, refl, sym, ◌∙◌, ap}
use mathlib.Core.Logic.{inl, inr}
use mathlib.Core.Bool.{Bool, true, false, cond, not, ◌||◌}
use mathlib.Core.List.{List, [], ◌∷◌, map, Memᴰ}
use mathlib.Core.Option.{Option, none, some}
use native.Mathlib.Omega.{arith}
use lib.Dec.{eqb}
use lib.ListN.{length, get_or, length-map, get_or-map}
use Rattle.laws.specs.Below.{any_below}
use Rattle.laws.specs.Lists.{any, repeats, Every}
use Rattle.laws.proofs.Bools.{bool?, clash, or-false, or-none, not_is, not-and}
use Rattle.laws.proofs.Below as B
use Rattle.laws.proofs.Below.{list-places}
use Rattle.laws.proofs.Lists.{any_false, any_none, get_or-member, repeats-apart, repeats-list}
use Rattle.railway.specs.declared.Leg.{Leg}
use Rattle.railway.specs.declared.Leg.TheVariants.{Stem, Plus, Minus}
use Rattle.railway.specs.declared.End.TheVariants.{Port}
use Rattle.railway.specs.Joined.{Joined, Nothing, With}
use Rattle.railway.specs.declared.Train.{Train}
use Rattle.railway.specs.declared.Railway.{Railway}
use Rattle.railway.specs.declared.Refusal.{Refusal}
use Rattle.railway.specs.declared.Refusal.TheVariants.{Count, Weight, Unknown, Join, Loose, Chain, Double, Place}
use Rattle.railway.specs.Bounds.{most_sections, section_ends}
use Rattle.railway.specs.Refusals.{Row, row, first}
use Rattle.railway.specs.Record.{is_closed, bare_railway, empty_railway, joined, train_of}
use Rattle.railway.specs.Rows.{outside, unjoined}
use Rattle.railway.specs.Rows as RR
use Rattle.railway.proofs.Refusals.{refuse-none}
use Rattle.railway.proofs.Lookups.{closed-there}
use Rattle.railway.proofs.Rows.{Bounded, bounded}
use Rattle.case_file.specs.Form.{EndField, port, JoinLine, SignalLine, TrainLine, Description, WellFormed, same_end, same_signal}
use Rattle.case_file.specs.Rows.{within, known, unknown_join, unknown_signal, unknown_closed, unknown_train, wrong_join}
use Rattle.case_file.specs.Rows.{join_ends, loose_end, loose_at, count_row, wrong_weight_in, weight_row, unknown_row, join_row}
use Rattle.case_file.specs.Rows.{loose_row, double_row, closed_in, shut_out, place_row, description_rows}
use Rattle.case_file.specs.Recording.{partner, train_of_line, no_train_line, railway_of}
use Rattle.case_file.specs.Reading.{judged}
use Rattle.case_file.proofs.Rows.{within-is, known-parts}
use Rattle.case_file.proofs.Ends.{less_one, partner-nothing}
use Rattle.case_file.proofs.Recording.{Joinable, joined_at, closed-at, roster-at}
use Rattle.case_draft.specs.declared.Draft.{Draft}
use Rattle.case_draft.specs.Drafting.{opened, put_point, put_join, put_signal, put_closed, put_train, draft_rows, answer_of, draft_answer}
use Rattle.case_draft.proofs.Folding.{put_rising, put_each, drafted}
use Rattle.case_draft.proofs.Stored.{same-everywhere}
use Rattle.case_draft.proofs.Sized.{Sized, sized-bare, sized-rising, sized-each, sized-point, sized-put-join, sized-put-signal, sized-put-closed, sized-put-train}
use Rattle.case_draft.proofs.Known.{unknown-noted}
use Rattle.case_draft.proofs.Weighing.{weight-noted}
use Rattle.case_draft.proofs.Built.{faults, doubles, closed_again, KnownJoin, KnownSignal, KnownClosed, KnownTrain}
use Rattle.case_draft.proofs.Joining.{Fit, numbered-known, fit-faults, faults-fit, partner-none}
use Rattle.case_draft.proofs.Signalling.{index, single-doubles, doubles-single}
use Rattle.case_draft.proofs.Closing.{once-again, again-once}
use Rattle.case_draft.proofs.Record.{joins-keep, sized-joins, with_points, with_joins, with_signals, built}
use Rattle.case_draft.proofs.Record.{sized-points, sized-3, drafted-is, not-closed, sectioned, ready}
use Rattle.case_draft.proofs.Record.{none-joined, placed, built-is}

-- two tests that fail together are the same
same_test : (a b : Bool) → (a ≡ false → b ≡ false) → (b ≡ false → a ≡ false) → a ≡ b
same_test true b f g = sym (let h = bool? b in elim h [ inl e ↦ e | inr e ↦ clash refl (g e) ])
same_test false b f g = sym (f refl)

-- the first row, where the rows agree one by one as far as none before applies
first_then : (f : Refusal) (a b : Bool) (xs ys : List Row) → a ≡ b → (b ≡ false → first xs ≡ first ys) → first (row f a ∷ xs) ≡ first (row f b ∷ ys)
unfolding first
first_then f a true xs ys p h = rw p
first_then f a false xs ys p h = rw p (h refl)

-- ROW 6 of the railway of a description
unjoined-partner : (js : List JoinLine) (f : EndField) → unjoined (partner js f) ≡ not (any (same_end f) (join_ends js))
unjoined-partner js f = elim (bool? (any (same_end f) (join_ends js))) [
  | inl e ↦ rw e (named (partner js f) (λ p. clash e (partner-nothing js f p)))
  | inr e ↦ rw (e, partner-none js f e)
]
  where
    named : (j : Joined) → (j ≡ Nothing → ⊥) → unjoined j ≡ false
    named Nothing h = absurd (h refl)
    named (With e) h = refl

loose_same : (d : Description) → Bounded d.sections d.points d.trains → Joinable d → RR.loose_row (railway_of d) ≡ loose_row d
unfolding RR.loose_row loose_row railway_of
loose_same d b can = B.any_same (RR.loose_at (railway_of d)) (loose_at d) d.points (λ n h. at-point n h)
  where
    at-port : (n : ℕ) (l : Leg) → n < d.points → unjoined (joined (railway_of d) (Port (record { 0 = n }) l)) ≡ loose_end d (port (suc n) l)
    at-port n l h =
        let q = b.few-points in
        ap unjoined (joined_at d can (Port (record { 0 = n }) l) (omega arith)) ∙ unjoined-partner d.joins
        (port (suc n) l)

    at-point : (n : ℕ) → n < d.points → RR.loose_at (railway_of d) n ≡ loose_at d n
    at-point n h = rw (at-port n Stem h, at-port n Plus h, at-port n Minus h)

-- ROW 8 of the railway of a description
module _ (d : Description) (f : WellFormed d) (b : Bounded d.sections d.points d.trains) (kt : Every (KnownTrain d) d.roster) where
  abbrev nth : ℕ → TrainLine
  nth t = get_or d.roster t no_train_line

  shares : ℕ → ℕ → Bool
  shares t u = eqb (nth u).start (nth t).start || eqb (nth u).destination (nth t).destination

  shares-same : (t u : ℕ) → u < t → t < d.trains → RR.shares_with (railway_of d) t u ≡ shares t u
  unfolding shares
  shares-same t u h g =
      let o = f.one-a-train in
      let ku = kt (nth u) (get_or-member d.roster u no_train_line (omega arith)) in
      let kv = kt (nth t) (get_or-member d.roster t no_train_line (omega arith)) in
      let su = within-is (nth u).start d.sections ku.0 in
      let st = within-is (nth t).start d.sections kv.0 in
      let du = within-is (nth u).destination d.sections ku.1 in
      let dt = within-is (nth t).destination d.sections kv.1 in
      by-roster (train_of (railway_of d) u) (train_of (railway_of d) t) (roster-at d u (omega arith) b.few-trains) (roster-at d t g b.few-trains)
      ∙ rw (less_one (nth u).start (nth t).start su.0 st.0, less_one (nth u).destination (nth t).destination du.0 dt.0)
    where
      by-roster : (x y : Train) → x ≡ train_of_line (nth u) → y ≡ train_of_line (nth t)
          → (eqb x.start.0 y.start.0 || eqb x.destination.0 y.destination.0)
          ≡ (eqb ((nth u).start - 1) ((nth t).start - 1) || eqb ((nth u).destination - 1) ((nth t).destination - 1))
      by-roster x y p q = rw (p, q)

  -- no two T lines share a number exactly if those at two places never do
  apart-repeats : (p : TrainLine → ℕ) → ((t u : ℕ) → u < t → t < d.trains → eqb (p (nth u)) (p (nth t)) ≡ false) → repeats eqb (map p d.roster) ≡ false
  apart-repeats p h =
      let o = f.one-a-train in
      rw (← list-places p d.roster no_train_line) (repeats-list eqb (λ i. p (nth i)) (length d.roster) (λ i j a c. h j i a (omega arith)))

  repeats-no : (p : TrainLine → ℕ) → repeats eqb (map p d.roster) ≡ false → (t u : ℕ) → u < t → t < d.trains → eqb (p (nth u)) (p (nth t)) ≡ false
  repeats-no p e t u h g =
      let o = f.one-a-train in
      let k = repeats-apart eqb (map p d.roster) (p no_train_line) u t e h (rw (length-map d.roster p, o) g) in
      rw (get_or-map p d.roster u no_train_line, get_or-map p d.roster t no_train_line) at k

  places_same : any_below (RR.shares_at (railway_of d)) d.trains ≡
      (repeats eqb (map (λ t. t.start) d.roster) || repeats eqb (map (λ t. t.destination) d.roster))
  unfolding shares
  places_same =
      same_test _ _
      (λ e.
      let no : (t u : ℕ) → u < t → t < d.trains → shares t u ≡ false = λ t u h g.
      sym (shares-same t u h g) ∙ B.any_false (RR.shares_with (railway_of d) t) t (B.any_false (RR.shares_at (railway_of d)) d.trains e t g) u h in
      or-none _ _
      (apart-repeats (λ t. t.start) (λ t u h g. (or-false (eqb (nth u).start (nth t).start) (eqb (nth u).destination (nth t).destination) (no t u h g)).0))
      (apart-repeats (λ t. t.destination)
      (λ t u h g. (or-false (eqb (nth u).start (nth t).start) (eqb (nth u).destination (nth t).destination)
      (no t u h g)).1)))
      (λ e.
      let q = or-false (repeats eqb (map (λ t. t.start) d.roster)) (repeats eqb (map (λ t. t.destination) d.roster)) e in
      B.none_any (RR.shares_at (railway_of d)) d.trains (λ t g. B.none_any (RR.shares_with (railway_of d) t) t (λ u h.
      shares-same t u h g ∙ or-none _ _ (repeats-no (λ t. t.start) q.0 t u h g) (repeats-no (λ t. t.destination) q.1 t u h g))))

  -- a section that a T line names is closed in the record exactly if an X line names it
  closed_same : (n : ℕ) → within n d.sections ≡ true → is_closed (railway_of d) (n - 1) ≡ closed_in d n
  closed_same n h =
      let k = within-is n d.sections h in
      let l : n - 1 < most_sections = omega (arith, k.0, k.1, b.few-sections) in
      let z : suc (n - 1) ≡ n = omega (arith, k.0) in
      sym (closed-there (railway_of d) (n - 1) l) ∙ closed-at d (n - 1) l ∙ rw z

  shut-same : (t : ℕ) → t < d.trains → RR.shut_out_at (railway_of d) t ≡ shut_out d (nth t)
  shut-same t h =
      let o = f.one-a-train in
      let k = kt (nth t) (get_or-member d.roster t no_train_line (omega arith)) in
      by-roster (train_of (railway_of d) t) (roster-at d t h b.few-trains) ∙ rw (closed_same (nth t).start k.0, closed_same (nth t).destination k.1)
    where
      by-roster : (x : Train) → x ≡ train_of_line (nth t)
          → (is_closed (railway_of d) x.start.0 || is_closed (railway_of d) x.destination.0) ≡
          (is_closed (railway_of d) ((nth t).start - 1) || is_closed (railway_of d) ((nth t).destination - 1))
      by-roster x p = rw p

  shuts-same : any_below (RR.shut_out_at (railway_of d)) d.trains ≡ any (shut_out d) d.roster
  shuts-same =
      let o = f.one-a-train in
      same_test _ _
      (λ e. any_none (shut_out d) d.roster (λ x m.
      let p = member-at d.roster x m in
      rw (← p.2) (sym (shut-same p.0 (omega (arith, o, p.1))) ∙ B.any_false (RR.shut_out_at (railway_of d)) d.trains e p.0 (omega (arith, o, p.1)))))
      (λ e. B.none_any (RR.shut_out_at (railway_of d)) d.trains (λ t h.
      shut-same t h ∙ any_false (shut_out d) d.roster (nth t) e (get_or-member d.roster t no_train_line (omega (arith, o, h)))))
    where
      member-at : (l : List TrainLine) (x : TrainLine) → Memᴰ x l → (i : ℕ) × (i < length l) × (get_or l i no_train_line ≡ x)
      member-at [] x x3 = elim x3 [ ]
      member-at (y ∷ l) x (Memᴰ.head e) = (0, omega arith, sym e)
      member-at (y ∷ l) x (Memᴰ.tail m) = let p = member-at l x m in (suc p.0, omega (arith, p.1), p.2)

  place_same : RR.place_row (railway_of d) ≡ place_row d
  unfolding RR.place_row place_row railway_of
  place_same = rw (places_same, shuts-same)

module _ (d : Description) (f : WellFormed d) where
  -- ROW 3: the counts of the record are the description's, or none where they are out of bounds
  counts_of : (s p k : ℕ) (w : Draft) → Sized s p k w.railway
      → Sized s p k (put_rising put_train 1
      (put_each put_closed (put_each put_signal (put_each put_join (put_rising put_point 1 w d.legs) d.joins)
      d.signals) d.closed) d.roster).railway
  counts_of s p k w z =
      sized-rising s p k put_train (sized-put-train s p k) d.roster 1 _
      (sized-each s p k put_closed (sized-put-closed s p k) d.closed _
      (sized-each s p k put_signal (sized-put-signal s p k) d.signals _
      (sized-each s p k put_join (sized-put-join s p k) d.joins _ (sized-rising s p k put_point (sized-point s p k) d.legs 1 w z))))

  sized-count : (s p k : ℕ) (r : Railway) → Sized s p k r → RR.count_row r ≡ outside s p k
  sized-count s p k r z = rw (z.sections, z.points, z.trains)

  count_same : RR.count_row (drafted d).railway ≡ count_row d
  unfolding drafted opened
  count_same = cases (count_row d) refl
    where
      cases : (c : Bool) → count_row d ≡ c
          → RR.count_row (put_rising put_train 1 (put_each put_closed (put_each put_signal (put_each put_join (put_rising put_point 1
          (record {
            railway = cond c empty_railway (bare_railway d.sections d.points d.trains);
            weight = false;
            unknown = false;
            wrong = false;
            double = false;
          })
          d.legs) d.joins) d.signals) d.closed) d.roster).railway ≡ c
      cases true e = sized-count 0 0 0 _ (counts_of 0 0 0 _ (sized-bare 0 0 0))
      cases false e =
          let z = sized-bare d.sections d.points d.trains in
          sized-count d.sections d.points d.trains _ (counts_of d.sections d.points d.trains _ z) ∙ e

  -- ROW 16: it is noted whatever the counts are
  weight-same : (drafted d).weight ≡ weight_row d
  unfolding drafted opened
  weight-same = weight-noted d _ refl

  -- ROW 4
  module _ (h3 : count_row d ≡ false) where
    b : Bounded d.sections d.points d.trains
    b = bounded d.sections d.points d.trains h3

    unknown-same : (drafted d).unknown ≡ unknown_row d
    unfolding drafted opened
    unknown-same = rw h3 (unknown-noted d _ (sized-bare d.sections d.points d.trains) refl f)

    module _ (h16 : weight_row d ≡ false) (h4 : unknown_row d ≡ false) where
      kj : Every (KnownJoin d) d.joins
      kj j m = not-and (known d j.one) (known d j.other) (any_false (unknown_join d) d.joins j (known-parts d h4).0 m)

      joinable : Joinable d
      joinable j m = (numbered-known d b j.one (kj j m).0, numbered-known d b j.other (kj j m).1)

      kg : Every (KnownSignal d) d.signals
      kg g m = not_is (within g.number d.sections) (any_false (unknown_signal d) d.signals g (known-parts d h4).1 m)

      kx : Every (KnownClosed d) d.closed
      kx n m = not_is (within n d.sections) (any_false (unknown_closed d) d.closed n (known-parts d h4).2 m)

      kt : Every (KnownTrain d) d.roster
      unfolding weight_row
      kt t m =
          let k = not-and (within t.start d.sections) (within t.destination d.sections)
          (any_false (unknown_train d) d.roster t (known-parts d h4).3 m) in
          (k.0, k.1, any_false wrong_weight_in d.roster t h16 m)

      is : drafted d ≡ record {
        railway = built d f b h3 kj kg kx kt;
        weight = false;
        unknown = false;
        wrong = faults (with_points d f b h3 kj kg kx kt) d.joins;
        double = doubles (with_joins d f b h3 kj kg kx kt) d.signals || closed_again (with_signals d f b h3 kj kg kx kt) d.closed;
      }
      is = drafted-is d f b h3 kj kg kx kt

      -- ROW 5
      fit_of : join_row d ≡ false → Fit d b (with_points d f b h3 kj kg kx kt) d.joins
      unfolding join_row
      fit_of e =
          let q = or-false (any (wrong_join d) d.joins) (repeats same_end (join_ends d.joins)) e in
          record { right = λ j m. any_false (wrong_join d) d.joins j q.0 m; once = q.1; free = λ x m. none-joined d f b h3 kj kg kx kt _ }

      join-of : Fit d b (with_points d f b h3 kj kg kx kt) d.joins → join_row d ≡ false
      unfolding join_row
      join-of t = or-none _ _ (any_none (wrong_join d) d.joins t.right) t.once

      wrong-same : (drafted d).wrong ≡ join_row d
      wrong-same =
          ap (λ (w : Draft). w.wrong) is
          ∙ same_test _ _ (λ e. join-of (faults-fit d b d.joins _ (ready d f b h3 kj kg kx kt) kj e))
          (λ e. fit-faults d b d.joins _ (ready d f b h3 kj kg kx kt) kj (fit_of e))

      -- ROWS 6 TO 8 and 13
      module _ (h5 : join_row d ≡ false) where
        railway-same : (drafted d).railway ≡ railway_of d
        railway-same = ap (λ (w : Draft). w.railway) is ∙ built-is d f b h3 kj kg kx kt (fit_of h5)

        no_flag : (g : SignalLine) → get_or (with_joins d f b h3 kj kg kx kt).signals (index g) false ≡ false
        no_flag g =
            ap (λ (l : List Bool). get_or l (index g) false)
            (joins-keep d.joins (with_points d f b h3 kj kg kx kt)).signals ∙ same-everywhere section_ends false
            (index g)

        signals-same : doubles (with_joins d f b h3 kj kg kx kt) d.signals ≡ repeats same_signal d.signals
        signals-same =
            let room = (sized-joins d.sections d.points d.trains d.joins
            (with_points d f b h3 kj kg kx kt) (sized-points d f b h3 kj kg kx kt)).signals in
            let p = placed d f b h3 kj kg kx kt (fit_of h5) in
            same_test _ _ (λ e. (doubles-single d.signals (with_joins d f b h3 kj kg kx kt) room p e).once)
            (λ e. single-doubles d.signals (with_joins d f b h3 kj kg kx kt) room p (record { once = e; free = λ g m. no_flag g }))

        again-same : closed_again (with_signals d f b h3 kj kg kx kt) d.closed ≡ repeats eqb d.closed
        again-same =
            let room = (sized-3 d f b h3 kj kg kx kt).closed in
            let p = sectioned d f b h3 kj kg kx kt in
            same_test _ _ (λ e. (again-once d.closed (with_signals d f b h3 kj kg kx kt) room p e).once)
            (λ e. once-again d.closed (with_signals d f b h3 kj kg kx kt) room p (record { once = e; free = λ n m. not-closed d f b h3 kj kg kx kt (n - 1) }))

        double-same : (drafted d).double ≡ double_row d
        unfolding double_row
        double-same = ap (λ (w : Draft). w.double) is ∙ rw (signals-same, again-same)

  rows_same : first (draft_rows (drafted d)) ≡ first (description_rows d)
  rows_same =
      first_then Count _ _ _ _ count_same (λ h3.
      first_then Weight _ _ _ _ weight-same (λ h16.
      first_then Unknown _ _ _ _ (unknown-same h3) (λ h4.
      first_then Join _ _ _ _ (wrong-same h3 h16 h4) (λ h5.
      first_then Loose _ _ _ _ (ap RR.loose_row (railway-same h3 h16 h4 h5) ∙ loose_same d (b h3) (joinable h3 h16 h4)) (λ h6.
      first_then Chain _ _ _ _ (ap RR.chain_row (railway-same h3 h16 h4 h5)) (λ h13.
      first_then Double _ _ _ _ (double-same h3 h16 h4 h5) (λ h7.
      first_then Place _ _ _ _ (ap RR.place_row (railway-same h3 h16 h4 h5) ∙ place_same d f (b h3) (kt h3 h16 h4)) (λ h8. refl))))))))

  railway-given : first (description_rows d) ≡ none → (drafted d).railway ≡ railway_of d
  unfolding first
  railway-given e =
      let r3 = refuse-none (count_row d) Count _ e in
      let r16 = refuse-none (weight_row d) Weight _ r3.1 in
      let r4 = refuse-none (unknown_row d) Unknown _ r16.1 in
      let r5 = refuse-none (join_row d) Join _ r4.1 in
      railway-same r3.0 r16.0 r4.0 r5.0

  by_answer : (r : Railway) (o : Option Refusal) → (o ≡ none → r ≡ railway_of d) → answer_of r o ≡ judged (some d) o
  by_answer r none h = rw (h refl)
  by_answer r (some x) h = refl

  pub draft-answered : draft_answer (drafted d) ≡ judged (some d) (first (description_rows d))
  unfolding draft_answer
  draft-answered = ap (answer_of (drafted d).railway) rows_same ∙ by_answer (drafted d).railway (first (description_rows d)) railway-given
