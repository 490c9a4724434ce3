-- A round's turns: stretch after stretch for one weight, weight after weight for the round. What is marked says of each
-- weight and stretch whose turn is still to come which round is due there; when all have had their turn, every
-- placement that could gain has been visited, and the marks are those of the rounds to come. Assumes nothing.
use mathlib.Core.Path.{◌≡◌, refl, sym, ◌∙◌, ap}
use mathlib.Core.Logic.{inl, inr}
use mathlib.Core.Bool.{true, false}
use mathlib.Core.List.{List}
use mathlib.Core.Option.{none, some}
use Prim.Native.Nat.{ℕ, zero, suc, ◌+◌, ◌-◌, ◌*◌, ◌≤◌, ◌<◌}
use native.Mathlib.Omega.{arith}
use native.Mathlib.Numerals.{add-one}
use lib.ListN.{length, get_or}
use lib.Dec.{ltb, eqb}
use borrow.Author.Tests.{eqb-true, eq-eqb, ne_eqb, lt-ltb, le-ltb}
use Rattle.laws.specs.Below.{any_below}
use Rattle.laws.proofs.Bools.{bool?, lt?, eq?, option?, clash, or_left, or_right, and-off}
use Rattle.laws.proofs.Below.{any_at}
use Rattle.railway.specs.declared.Railway.{Railway}
use Rattle.railway.specs.Bounds.{most_trains, most_weight}
use Rattle.railway.specs.Record.{is_closed, weight_of}
use Rattle.railway.specs.Rows.{record_refusal}
use Rattle.game.specs.Game.{over}
use Rattle.game.specs.Placement.{placements}
use Rattle.game.specs.Moves.{game_of}
use Rattle.game_tables.specs.Tables.{no_figure, figure_entry, figure_in}
use Rattle.game_tables.specs.Find.{find}
use Rattle.game_tables.specs.Rounds.{Step, stays, gains, RoundTables}
use Rattle.game_tables.proofs.Rounds.{accepted-go}
use Rattle.railway_routes.specs.Routes.{Laid}
use Rattle.railway_compiled.specs.Table.{Compiled}
use Rattle.solver_predecessors.specs.Behind.{Behind}
use Rattle.solver_marks.specs.Marks.{stretch_of, stretches, most_codes, due_at, most_at, Room, Set}
use Rattle.solver_dues.specs.Dues.{same_weight, DueBy, SoonAfter, NextBy}
use Rattle.solver_rounds.specs.declared.ThisRound.{ThisRound}
use Rattle.solver_rounds.specs.declared.Codes.{Codes}
use Rattle.solver_rounds.specs.Rounds.{After, RoundPost}
use Rattle.solver_rounds.specs.Visits.{Turned, passed_by, since, First, Marked, Round, Changed, same, gained, Visited}
use Rattle.solver_rounds.specs.Visits.{Stretch, Ahead, Weighed, Apart, Before}
use Rattle.solver_rounds.proofs.Visits.{round-homed, visited-less, visited-marked, round-on, visited-none, visited-then}
use Rattle.solver_rounds.proofs.Gaining.{gains-before}
use Rattle.solver_rounds.proofs.Loops.{no-code, codes-less, codes-next, no-weight, weight-next, apart-on}

-- TURNS. Whose turn is over, and whose is not
since-done : (n : ℕ) (d : Turned) (t q : ℕ) → passed_by d t q ≡ true → since n d t q ≡ suc n
since-done n d t q e = rw e

since-open : (n : ℕ) (d : Turned) (t q : ℕ) → passed_by d t q ≡ false → since n d t q ≡ n
since-open n d t q e = rw e

-- of the weight whose turn it is: the codes below c
own-done : (t c q : ℕ) → q < c → passed_by (record { train = t; code = c }) t q ≡ true
own-done t c q l = rw (eq-eqb t t refl, lt-ltb q c l) (or_right (ltb t t) true refl)

own_open : (t c q : ℕ) → c ≤ q → passed_by (record { train = t; code = c }) t q ≡ false
own_open t c q l = rw (eq-eqb t t refl, le-ltb q c l, le-ltb t t (omega arith))

-- of another: as before, whatever the code
other-same : (t c e u q : ℕ) → (u ≡ t → ⊥)
    → passed_by (record { train = t; code = c }) u q ≡ passed_by (record { train = t; code = e }) u q
other-same t c e u q z = rw (ne_eqb u t z)

-- when all codes have had their turn, it is the next train's
pub turn-next : (t m u q : ℕ) → q < m
    → passed_by (record { train = t; code = m }) u q ≡ passed_by (record { train = suc t; code = 0 }) u q
turn-next t m u q l = elim (lt? u t) [
  | inl a ↦ rw (lt-ltb u t a, lt-ltb u (suc t) (omega arith))
  | inr a ↦ elim (eq? u t) [
    | inl z ↦ rw z (own-done t m q l
        ∙ sym (let y : ltb t (suc t) ≡ true = lt-ltb t (suc t) (omega arith) in or_left (ltb t (suc t)) _ y))
    | inr z ↦ rw (
      le-ltb u t a,
      ne_eqb u t z,
      le-ltb u (suc t) (omega (arith, z)),
      le-ltb q 0 (omega arith),
      and-off (eqb u (suc t)),
    )
  ]
]

-- more turns are over: what is still to come then was to come before
later-turn : (n : ℕ) (d e : Turned) (t q k : ℕ) → (passed_by d t q ≡ true → passed_by e t q ≡ true)
    → since n e t q ≤ k → since n d t q ≤ k
later-turn n d e t q k h l = elim (bool? (passed_by d t q)) [
  | inl y ↦ rw (since-done n d t q y) (rw (since-done n e t q (h y)) at l)
  | inr y ↦ rw (since-open n d t q y) (elim (bool? (passed_by e t q)) [
    | inl z ↦ (let x : suc n ≤ k = rw (since-done n e t q z) at l in omega arith)
    | inr z ↦ rw (since-open n e t q z) at l
  ])
]

pub marked-later : {r : Railway} {n : ℕ} {d e : Turned} {figs marks : List ℕ} → Marked r n d figs marks
    → ((t q : ℕ) → t < r.trains → q < placements r → First r t → passed_by d t q ≡ true → passed_by e t q ≡ true)
    → Marked r n e figs marks
marked-later {r} {n} {d} {e} k h =
    record {
      room = k.room;
      few = k.few;
      most = k.most;
      due =
          λ q j t lq lt first f l.
          k.due q j t lq lt first f (later-turn n d e t q (j + weight_of r t) (h t q lt lq first) l);
    }

-- the next train's turn, behind the last code
pub marked_next : {r : Railway} {n t m : ℕ} {figs marks : List ℕ} → placements r ≤ m
    → Marked r n (record { train = t; code = m }) figs marks
    → Marked r n (record { train = suc t; code = 0 }) figs marks
marked_next {t = t} {m = m} l k = marked-later k (λ u q lu lq first e. sym (turn-next t m u q (omega arith)) ∙ e)

-- A STRETCH and its turn, by the weight of train t
module _ (r : Railway) (this : ThisRound) (t : ℕ) (codes : Codes) (counted : this.m ≡ placements r)
    (some-code : codes.from < codes.upto) (stretch : Stretch this.m codes.from codes.upto)
    (l : codes.upto ≤ this.m) (runs : t < r.trains) (first : First r t) where
  abbrev before : Turned
  before = record { train = t; code = codes.from }

  abbrev after : Turned
  after = record { train = t; code = codes.upto }

  more : (u q : ℕ) → passed_by before u q ≡ true → passed_by after u q ≡ true
  more u q e = elim (eq? u t) [
    | inr z ↦ sym (other-same t codes.from codes.upto u q z) ∙ e
    | inl z ↦ rw z (elim (lt? q codes.from) [
      | inl a ↦ own-done t codes.upto q (omega arith)
      | inr a ↦ clash (rw z at e) (own_open t codes.from q a)
    ])
  ]

  -- NOT DUE: nothing one move before it gains, and its turn is over
  module _ {figs marks : List ℕ} (o : Round r this before figs marks) (due : ℕ)
      (is : due ≡ due_at marks t codes.from) (late : this.n < due) where
    pub not-due : (q : ℕ) → q < placements r → Ahead r this.n (weight_of r t) figs codes.from codes.upto q → ⊥
    not-due q lq h =
        let here : due_at marks t h.code ≡ due_at marks t codes.from =
        ap (λ (i : ℕ). get_or marks (t * stretches + i) 0) (stretch.own h.code h.after h.within) in
        let b : due_at marks t h.code ≤ h.figure + weight_of r t =
        o.marked.due h.code h.figure t (omega (arith, h.within)) runs first h.stands
        (rw (since-open this.n before t h.code (own_open t codes.from h.code h.after))
        (omega (arith, h.makes))) in
        omega (arith, h.makes)

  -- DUE AGAIN: its figures make no round behind n by this weight before the one that is set
  module _ {figs marks : List ℕ} (k : Marked r this.n before figs marks) (most : ℕ)
      (is : most ≡ most_at marks codes.from) (due : ℕ)
      (dues : DueBy figs most this.n (weight_of r t) codes.from codes.upto due)
      (marks' : List ℕ) (put : Room marks → t < most_trains → codes.from < most_codes
      → Set marks t codes.from due marks') (few : r.trains ≤ most_trains) where
    set-now : Set marks t codes.from due marks'
    set-now = put k.room (omega arith) (omega (arith, k.few))

    -- a mark that stays
    kept : (q j u : ℕ) → q < placements r → u < r.trains → First r u → figure_in figs q ≡ some j
        → (u ≡ t → stretch_of q ≡ stretch_of codes.from → ⊥) → since this.n after u q ≤ j + weight_of r u
        → due_at marks' u q ≤ j + weight_of r u
    kept q j u lq lu f e apart h =
        let same : due_at marks' u q ≡ due_at marks u q = set-now.others u q (omega arith) (omega (arith, k.few)) apart in
        omega (arith, k.due q j u lq lu f e (later-turn this.n before after u q (j + weight_of r u) (more u q) h))

    later : (q j u : ℕ) → q < placements r → u < r.trains → First r u → figure_in figs q ≡ some j
        → since this.n after u q ≤ j + weight_of r u → due_at marks' u q ≤ j + weight_of r u
    later q j u lq lu f e h = elim (eq? u t) [
      | inr z ↦ kept q j u lq lu f e (λ y. absurd (z y)) h
      | inl z ↦ elim (lt? q codes.from) [
        | inl a ↦ kept q j u lq lu f e (λ y. stretch.before q a) h
        | inr a ↦ elim (lt? q codes.upto) [
          | inr b ↦ kept q j u lq lu f e (λ y. stretch.behind q b (omega arith)) h
          | inl b ↦
              let own : stretch_of q ≡ stretch_of codes.from = stretch.own q a b in
              let here : due_at marks' t q ≡ due = set-now.here q own in
              let top : most_at marks q ≡ most_at marks codes.from =
              ap (λ (i : ℕ). get_or marks (most_trains * stretches + i) 0) own in
              let h' : since this.n after t q ≤ j + weight_of r t = rw z at h in
              let on : suc this.n ≤ j + weight_of r t =
              rw (since-done this.n after t q (own-done t codes.upto q b)) at h' in
              rw z (omega (arith, dues.later q j a b e (omega (arith, k.most q j lq e)) (omega arith)))
        ]
      ]
    ]

    pub due-again : Marked r this.n after figs marks'
    due-again =
        record {
          room = set-now.room;
          few = k.few;
          most =
              λ q j lq e.
              let same : most_at marks' q ≡ most_at marks q = set-now.most q (omega (arith, k.few)) in
              omega (arith, k.most q j lq e);
          due = later;
        }

-- STRETCH AFTER STRETCH, up to code i, by the weight of train t
pub record StretchesTo (this : ThisRound) (t : ℕ)
    (figs₀ sets₀ marks₀ figs sets marks : List ℕ) (i : ℕ) : Type 0 where
  pub long-figs : length figs ≡ length figs₀
  pub long-sets : length sets ≡ length sets₀
  pub long-marks : length marks ≡ length marks₀
  pub visited : (r : Railway) → Round r this (record { train = t; code = 0 }) figs₀ marks₀
      → t < r.trains → First r t
      → Visited r this.n (record { train = t; code = i }) (Ahead r this.n (weight_of r t) figs₀ 0 i) figs₀
      sets₀ figs sets marks

module _ {this : ThisRound} {t : ℕ} {figs₀ sets₀ marks₀ : List ℕ} where
  module _ {figs sets marks : List ℕ} {c : ℕ}
      (s : StretchesTo this t figs₀ sets₀ marks₀ figs sets marks c) where
    pub stretches-next : {upto : ℕ} {figs' sets' marks' : List ℕ} → upto ≤ this.m
        → length figs' ≡ length figs → length sets' ≡ length sets → length marks' ≡ length marks
        → ((r : Railway) → Round r this (record { train = t; code = c }) figs marks
        → t < r.trains → First r t
        → Visited r this.n (record { train = t; code = upto }) (Ahead r this.n (weight_of r t) figs c upto)
        figs sets figs' sets' marks')
        → StretchesTo this t figs₀ sets₀ marks₀ figs' sets' marks' upto
    stretches-next l ef es em body =
        record {
          long-figs = ef ∙ s.long-figs;
          long-sets = es ∙ s.long-sets;
          long-marks = em ∙ s.long-marks;
          visited = λ r o lt f.
              let x = s.visited r o lt f in
              visited-then o.compiled.accepted o.small x (body r (round-on o x) lt f)
              (λ q lq k. codes-next x c (omega (arith, o.counted)) k);
        }

-- NO STRETCH IS DUE by this weight, or a lower train has it
module _ {r : Railway} {this : ThisRound} {t : ℕ} {figs marks : List ℕ}
    (o : Round r this (record { train = t; code = 0 }) figs marks) where
  abbrev now-next : Turned
  now-next = record { train = suc t; code = 0 }

  on : (u q : ℕ) → passed_by (record { train = t; code = 0 }) u q ≡ true → passed_by now-next u q ≡ true
  on u q e = elim (lt? u t) [
    | inl a ↦ or_left (ltb u (suc t)) _ (lt-ltb u (suc t) (omega arith))
    | inr a ↦ clash e (rw (le-ltb u t a, le-ltb q 0 (omega arith)) (and-off (eqb u t)))
  ]

  pub weight-rests : {sets : List ℕ} → ((q : ℕ) → q < placements r → Apart r this.n figs 0 this.m t q → ⊥)
      → Visited r this.n now-next (Apart r this.n figs 0 this.m t) figs sets figs sets marks
  weight-rests none-there =
      visited-none (marked-later o.marked (λ u q lu lq f. on u q)) none-there

  pub weight-not-due : (runs : t < r.trains) → (e : ℕ)
      → ((q k : ℕ) → q < this.m → this.n - 1 < k → due_at marks t q ≤ k → e ≤ k) → this.n < e → (this.n ≡ 0 → ⊥)
      → (q : ℕ) → q < placements r → Apart r this.n figs 0 this.m t q → ⊥
  weight-not-due runs e tells late nonzero q lq k =
      let h = k.ahead in
      let b : due_at marks t h.code ≤ h.figure + weight_of r t =
      o.marked.due h.code h.figure t (omega (arith, h.within, o.counted)) runs k.first h.stands
      (rw (since-open this.n _ t h.code (own_open t 0 h.code (omega arith))) (omega (arith, h.makes))) in
      omega (arith, tells h.code this.n h.within (omega (arith, nonzero)) (omega (arith, h.makes)))

-- WEIGHT AFTER WEIGHT, up to train i
pub record RoundTo (this : ThisRound) (figs₀ sets₀ marks₀ figs sets marks : List ℕ)
    (i : ℕ) : Type 0 where
  pub long-figs : length figs ≡ length figs₀
  pub long-sets : length sets ≡ length sets₀
  pub long-marks : length marks ≡ length marks₀
  pub visited : (r : Railway) → Round r this (record { train = 0; code = 0 }) figs₀ marks₀ → i ≤ r.trains
      → Visited r this.n (record { train = i; code = 0 }) (Weighed r this.n figs₀ 0 this.m i) figs₀
      sets₀ figs sets marks

module _ {this : ThisRound} {figs₀ sets₀ marks₀ : List ℕ} where
  module _ {figs sets marks : List ℕ} {t : ℕ}
      (s : RoundTo this figs₀ sets₀ marks₀ figs sets marks t) where
    pub round-next : {figs' sets' marks' : List ℕ}
        → length figs' ≡ length figs → length sets' ≡ length sets → length marks' ≡ length marks
        → ((r : Railway) → Round r this (record { train = t; code = 0 }) figs marks
        → t < r.trains
        → Visited r this.n (record { train = suc t; code = 0 }) (Apart r this.n figs 0 this.m t)
        figs sets figs' sets' marks')
        → RoundTo this figs₀ sets₀ marks₀ figs' sets' marks' (t + 1)
    round-next ef es em body =
        record {
          long-figs = ef ∙ s.long-figs;
          long-sets = es ∙ s.long-sets;
          long-marks = em ∙ s.long-marks;
          visited = λ r o li.
              let lt : t < r.trains = omega arith in
              let x = s.visited r o (omega arith) in
              rw (add-one t) (visited-then o.compiled.accepted o.small x (body r (round-on o x) lt)
              (λ q lq k. let k' : Weighed r this.n figs₀ 0 this.m (t + 1) q = rw (add-one t) k in
              elim (weight-next t k') [
                | inl y ↦ inl y
                | inr y ↦ inr (apart-on x (omega (arith, o.counted)) y)
              ]));
        }

-- THE ROUND IS OVER
module _ (r : Railway) (accepted : record_refusal r ≡ none) (k : ℕ) (d : Turned)
    (small : suc k < no_figure) (figs₀ sets₀ figs sets marks : List ℕ)
    (long-figs : length figs ≡ length figs₀) (long-sets : length sets ≡ length sets₀)
    (before : RoundTables r k figs₀ sets₀)
    (s : Visited r (suc k) d (Before r (suc k) figs₀ 0 (placements r)) figs₀ sets₀ figs sets marks) where
  -- what has no figure yet had none to find
  nothing_left : (q : ℕ) → q < placements r → figure_in figs₀ q ≡ none → over (game_of r) q ≡ false
      → figure_in figs q ≡ none → find r (figure_in figs₀) q (suc k) ≡ none
  nothing_left q l e o e' = elim (option? (find r (figure_in figs₀) q (suc k))) [
    | inl y ↦ y
    | inr y ↦ s.settled q l (gains-before r accepted k figs₀ sets₀ before q y.0 l e o y.1) e' o
  ]

  step_of : (q f v f' v' : ℕ) → Changed r (figure_in figs₀) (suc k) q f v f' v' → (figure_entry f ≡ none
      → over (game_of r) q ≡ false → figure_entry f' ≡ none → find r (figure_in figs₀) q (suc k) ≡ none)
      → Step r (figure_in figs₀) (suc k) q f v f' v'
  step_of q f v f' v' (same ef ev) h = stays ef ev (λ e o. h e o (ap figure_entry ef ∙ e))
  step_of q f v f' v' (gained empty o ef found) h = gains empty o ef found

  stepped : (q : ℕ) → q < placements r → Step r (figure_in figs₀) (suc k) q (get_or figs₀ q no_figure) (get_or sets₀ q 0)
      (get_or figs q no_figure) (get_or sets q 0)
  stepped q l = step_of q _ _ _ _ (s.each q l) (nothing_left q l)

  tables_after : After r (suc k) figs₀ sets₀ figs sets
  tables_after =
      record {
        tables = (accepted-go r accepted).next k figs₀ sets₀ figs sets before small stepped;
        kept-figs = record { as_long = long-figs; past = λ q l. s.past-figs q 0 l };
        kept_sets = record { as_long = long-sets; past = λ q l. s.past-sets q 0 l };
      }

-- the lowest train that has the weight of train t
lowest-of : (r : Railway) (b t : ℕ) → t ≤ b → (u : ℕ) × (u ≤ t) × First r u × (weight_of r u ≡ weight_of r t)
lowest-of r zero t l = elim (bool? (any_below (same_weight r t) t)) [
  | inr f ↦ (t, omega arith, f, refl)
  | inl f ↦ let x : (v : ℕ) × (v < t) × (same_weight r t v ≡ true) = any_at (same_weight r t) t f in
      absurd (omega (arith, x.1))
]
lowest-of r (suc b) t l = elim (bool? (any_below (same_weight r t) t)) [
  | inr f ↦ (t, omega arith, f, refl)
  | inl f ↦
      let x : (v : ℕ) × (v < t) × (same_weight r t v ≡ true) = any_at (same_weight r t) t f in
      let y : (u : ℕ) × (u ≤ x.0) × First r u × (weight_of r u ≡ weight_of r x.0) =
      lowest-of r b x.0 (omega (arith, x.1)) in
      (y.0, omega (arith, y.1, x.1), y.2, y.3 ∙ eqb-true _ _ x.2)
]

-- behind the turn of the last train the marks are those of every later round
marks-on : (r : Railway) (n i e : ℕ) (figs marks : List ℕ) → r.trains ≤ i → n < e
    → Marked r n (record { train = i; code = 0 }) figs marks → Marked r e (record { train = 0; code = 0 }) figs marks
marks-on r n i e figs marks l on k =
    record {
      room = k.room;
      few = k.few;
      most = k.most;
      due = λ q j t lq lt first f h.
          k.due q j t lq lt first f
          (rw (since-done n (record { train = i; code = 0 }) t q (or_left (ltb t i) _ (lt-ltb t i (omega arith))))
          (let z : e ≤ j + weight_of r t =
          rw (since-open e (record { train = 0; code = 0 }) t q (none_passed t q)) at h in omega arith));
    }
  where
    none_passed : (t q : ℕ) → passed_by (record { train = 0; code = 0 }) t q ≡ false
    none_passed t q = rw (le-ltb t 0 (omega arith), le-ltb q 0 (omega arith)) (and-off (eqb t 0))

module _ {this : ThisRound} {figs₀ sets₀ marks₀ figs sets marks : List ℕ} {i : ℕ}
    (s : RoundTo this figs₀ sets₀ marks₀ figs sets marks i)
    (e : ℕ) (onward : this.n < e) (trains : (r : Railway) → Compiled r this.table.now → i ≡ r.trains)
    (first : (r : Railway) → Compiled r this.table.now → NextBy r marks this.m this.n r.trains e) where
  pub round-end : this.n + most_weight < no_figure → (r : Railway) (k : ℕ) → SoonAfter r this.n this.soon
      → Compiled r this.table.now → Laid r (is_closed r) this.ways.now → Behind r this.behind.now → this.m ≡ placements r → this.n ≡ suc k
      → RoundTables r k figs₀ sets₀ → Marked r this.n (record { train = 0; code = 0 }) figs₀ marks₀
      → RoundPost r this.n figs₀ sets₀ figs sets e × Marked r e (record { train = 0; code = 0 }) figs marks
  round-end small r k soonest h laid b em en t marked =
      let d : Turned = record { train = i; code = 0 } in
      let o : Round r this (record { train = 0; code = 0 }) figs₀ marks₀ =
      record {
        compiled = h;
        laid = laid;
        back = b;
        counted = em;
        small = small;
        soonest = soonest;
        homed = round-homed r k figs₀ sets₀ t;
        marked = marked;
      } in
      let all : i ≡ r.trains = trains r h in
      let y : Visited r this.n d (Weighed r this.n figs₀ 0 this.m i) figs₀ sets₀ figs sets marks =
      s.visited r o (omega arith) in
      let x : Visited r this.n d (Before r this.n figs₀ 0 (placements r)) figs₀ sets₀ figs sets marks =
      visited-less y (λ q inside k. record {
        train = k.train;
        below = omega (arith, k.below);
        ahead = codes-less (omega arith) k.ahead;
      }) in (
        record {
          after =
              rw en (tables_after r h.accepted k d (omega arith) figs₀ sets₀ figs sets marks s.long-figs
              s.long-sets t (rw en at x));
          quiet = λ k due lk.
              let u = lowest-of r due.train due.train (omega arith) in
              let below : u.0 < r.trains = omega (arith, u.1, due.runs) in
              let makes : due.figure + weight_of r u.0 ≡ k = rw u.3 due.makes in
              let near : due_at marks u.0 due.code ≤ due.figure + weight_of r u.0 =
              x.marked.due due.code due.figure u.0 due.there below u.2 due.has
              (rw (since-done this.n d u.0 due.code (or_left (ltb u.0 i) _ (lt-ltb u.0 i (omega arith))))
              (omega (arith, makes))) in
              first r h u.0 due.code k below u.2 (omega (arith, due.there)) lk (omega (arith, makes));
        },
        marks-on r this.n i e figs marks (omega arith) onward x.marked,
      )
