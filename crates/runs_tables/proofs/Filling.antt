-- LEVEL BY LEVEL. Up to level n each entry is the length of a shortest run of at most n sections, or there is none so short. Whatever has a shortest run of n + 1 is entered from a section whose
-- shortest run is n: so when all of these have been left, the row is that of level n + 1. No shortest run is longer than there are sections, and after so many levels an entry that is not there
-- says that there is no run. Assumes nothing.
use mathlib.Core.Path.{◌≡◌, refl, sym, ◌∙◌, ap}
use mathlib.Core.Logic.{inl, inr}
use mathlib.Core.List.{List}
use mathlib.Core.Option.{none}
use Prim.Native.Nat.{ℕ, suc, ◌≤◌, ◌<◌}
use native.Mathlib.Omega.{arith}
use lib.ListN.{length, get_or, set, length-set, replicate, length-replicate, get_or-replicate}
use lib.Seq.{get_or-set_same, get_or-set_other}
use Rattle.laws.proofs.Bools.{lt?, eq?}
use Rattle.railway.specs.declared.Side.{Side}
use Rattle.railway.specs.declared.End.TheVariants.{Section}
use Rattle.railway.specs.declared.Railway.{Railway}
use Rattle.railway.specs.Bounds.{most_sections}
use Rattle.railway.specs.Record.{is_closed}
use Rattle.railway.specs.Rows.{record_refusal}
use Rattle.game.proofs.Accepted.{Facts, facts}
use Rattle.game.proofs.Moves.{entered_below}
use Rattle.railway_routes.specs.Routes.{routes_from, most_ways}
use Rattle.runs.specs.Runs.{Enters, Run, here, further, no_run, IsRun}
use Rattle.runs.proofs.Says.{run-from, run-to}
use Rattle.runs_tables.specs.Filling.{Least, Known, found, not_yet, RowTo, LevelTo, IsRow, Entry, same, fresh, Reached}
use Rattle.runs_tables.proofs.Ahead.{way-enters, enters-way}
use Rattle.runs_tables.proofs.Lengths.{least-one, least-short}

-- the last section that a run enters
data Last (r : Railway) (heading : Side) (x z m : ℕ) : Type 0 where
  begun : m ≡ 0 → x ≡ z → Last r heading x z m
  entry : (y n : ℕ) → m ≡ suc n → Run r heading x y n → Enters r heading y z → Last r heading x z m

last-of : {r : Railway} {heading : Side} {x z m : ℕ} → Run r heading x z m → Last r heading x z m
last-of (here l) = begun refl refl
last-of (further {y} {z} {n} run e) = entry y n refl run e

module _ (r : Railway) (accepted : record_refusal r ≡ none) (heading : Side) (x : ℕ) where
  ok : Facts r
  ok = facts r accepted

  -- THE FIRST ROW: the section itself, which is there, and nothing else
  module _ (there : x < r.sections) where
    few : x < most_sections
    few = omega (arith, there, ok.few-sections)

    first_entry : (row : List ℕ) → row ≡ replicate most_sections no_run → (y : ℕ) → y < most_sections → Known r heading x 0 0 y (get_or (set row x 0) y 0)
    first_entry row e y l = elim (eq? y x) [
      | inl q ↦ (let d : get_or (set row x 0) x 0 ≡ 0 = get_or-set_same row x 0 0 (let m : length row ≡ most_sections = ap length e ∙ length-replicate most_sections no_run in rw m few) in
          rw (q, d) (found (omega arith) (record { run = here there; least = λ m run. omega arith })))
      | inr q ↦ (let d : get_or (set row x 0) y 0 ≡ no_run = get_or-set_other row x y 0 0 q ∙ ap (λ (xs : List ℕ). get_or xs y 0) e ∙ get_or-replicate most_sections y no_run 0 l in
          not_yet d (λ m run. positive y q m (last-of run)))
    ]
      where
        positive : (y : ℕ) → (y ≡ x → ⊥) → (m : ℕ) → Last r heading x y m → 0 < m
        positive y q m (begun e d) = absurd (q (sym d))
        positive y q m (entry u n e run i) = omega (arith, e)

    pub first-row : (row : List ℕ) → row ≡ replicate most_sections no_run → RowTo r heading x 0 (set row x 0)
    first-row row e = record { sized = length-set row x 0 ∙ ap length e ∙ length-replicate most_sections no_run; each = first_entry row e }

  -- ONE LEVEL
  module _ (n : ℕ) (small : suc n < no_run) where
    -- it begins with no section left
    pub none_left : (row : List ℕ) → RowTo r heading x n row → LevelTo r heading x n 0 row
    none_left row h = record { sized = h.sized; each = λ y l. wider (h.each y l); seen = λ y z l. absurd (omega (arith, l)) }
      where
        wider : {y v : ℕ} → Known r heading x n n y v → Known r heading x n (suc n) y v
        wider (found l k) = found (omega (arith, l)) k
        wider (not_yet e k) = not_yet e k

    -- an entry of n is a shortest run, and the other way about
    at_n : {y v : ℕ} → Known r heading x n (suc n) y v → v ≡ n → Least r heading x y n
    at_n (found l k) e = rw e at k
    at_n (not_yet d k) e = absurd (omega (arith, d, e, small))

    is-n : {y v : ℕ} → Known r heading x n (suc n) y v → Least r heading x y n → v ≡ n
    is-n (found l k) h = least-one k h
    is-n (not_yet d k) h = absurd (omega (arith, k n h.run))

    -- A SECTION that is not at n has nothing to be left for
    pub passed : (i : ℕ) (row : List ℕ) → i < most_sections → (get_or row i 0 ≡ n → ⊥) → LevelTo r heading x n i row → LevelTo r heading x n (suc i) row
    passed i row li other h =
        record {
          sized = h.sized;
          each = h.each;
          seen = λ y z l k e. elim (eq? y i) [
            | inl q ↦ absurd (other (is-n (h.each i li) (rw q at k)))
            | inr q ↦ h.seen y z (omega arith) k e
          ];
        }

    -- A SECTION at n is left by all its ways
    module _ (i : ℕ) (row new : List ℕ) (li : i < most_sections) (at : get_or row i 0 ≡ n) (gone : Reached (routes_from r (is_closed r) (Section (record { 0 = i }) heading)) most_ways (suc n) row new)
        (h : LevelTo r heading x n i row) where
      from : Least r heading x i n
      from = at_n (h.each i li) at

      not-shorter : (z v : ℕ) → v ≡ no_run → Known r heading x n (suc n) z v → (m : ℕ) → Run r heading x z m → suc n ≤ m
      not-shorter z v e (found l k) m run = absurd (omega (arith, e, l, small))
      not-shorter z v e (not_yet d k) m run = omega (arith, k m run)

      known : (z v w : ℕ) → Entry (routes_from r (is_closed r) (Section (record { 0 = i }) heading)) most_ways (suc n) z v w → Known r heading x n (suc n) z v → Known r heading x n (suc n) z w
      known z v w (same e) k = rw e k
      known z v w (fresh d e lead) k =
          rw e (found (omega arith) (record { run = further from.run (way-enters r accepted heading i most_ways z lead); least = not-shorter z v d k }))

      still : (z v w : ℕ) → Entry (routes_from r (is_closed r) (Section (record { 0 = i }) heading)) most_ways (suc n) z v w → (v ≡ no_run → ⊥) → w ≡ no_run → ⊥
      still z v w (same e) k d = k (sym e ∙ d)
      still z v w (fresh c e lead) k d = omega (arith, d, e, small)

      pub left-by-all : LevelTo r heading x n (suc i) new
      left-by-all =
          record {
            sized = gone.sized h.sized;
            each = λ z l. known z (get_or row z 0) (get_or new z 0) (gone.each h.sized z) (h.each z l);
            seen = λ y z l k e. elim (eq? y i) [
              | inl q ↦ gone.covered h.sized (λ d. omega (arith, d, small)) z (enters-way r accepted heading i z (rw q at e))
              | inr q ↦ still z (get_or row z 0) (get_or new z 0) (gone.each h.sized z) (h.seen y z (omega arith) k e)
            ];
          }

    -- ALL SECTIONS left: what has a run of n + 1 and no shorter one has been entered
    pub all_left : (i : ℕ) (row : List ℕ) → most_sections ≤ i → LevelTo r heading x n i row → RowTo r heading x (suc n) row
    all_left i row li h = record { sized = h.sized; each = λ z l. next z (get_or row z 0) refl (h.each z l) }
      where
        longer : (z : ℕ) → get_or row z 0 ≡ no_run → ((m : ℕ) → Run r heading x z m → n < m) → (m : ℕ) → Last r heading x z m → n < m → suc n < m
        longer z d k m (begun e q) l = absurd (omega (arith, e, l))
        longer z d k m (entry y j e run i') l = elim (lt? n j) [
          | inl b ↦ omega (arith, e, b)
          | inr b ↦ (
              let q : j ≡ n = omega (arith, e, l, b) in
              let shortest : Least r heading x y n = record { run = rw q at run; least = λ a other. (let c : n < suc a = k (suc a) (further other i') in omega (arith, c)) } in
              absurd (h.seen y z (omega (arith, run-to ok run, ok.few-sections, li)) shortest i' d)
              )
        ]

        next : (z v : ℕ) → get_or row z 0 ≡ v → Known r heading x n (suc n) z v → Known r heading x (suc n) (suc n) z v
        next z v e (found l k) = found l k
        next z v e (not_yet d k) = not_yet d (λ m run. longer z (e ∙ d) k m (last-of run) (k m run))

  -- THE LAST LEVEL: an entry is there wherever a run leads
  module _ (row : List ℕ) (h : RowTo r heading x r.sections row) where
    has : (y v : ℕ) → Known r heading x r.sections r.sections y v → (n : ℕ) → Run r heading x y n → n ≤ r.sections → Least r heading x y v
    has y v (found l k) n run few = k
    has y v (not_yet d k) n run few = absurd (omega (arith, k n run, few))

    short : {y n : ℕ} → Run r heading x y n → Least r heading x y (get_or row y 0)
    short (here l) = has x _ (h.each x (omega (arith, l, ok.few-sections))) 0 (here l) (omega arith)
    short (further {y} {z} {n} run e) =
        let before = short run in
        let lz : z < r.sections = entered_below r ok e.plus (Section (record { 0 = y }) heading) z e.comes in
        has z _ (h.each z (omega (arith, lz, ok.few-sections))) (suc (get_or row y 0)) (further before.run e) (least-short ok before)

    entry-of : (y v : ℕ) → get_or row y 0 ≡ v → Known r heading x r.sections r.sections y v → IsRun r heading x y v
    entry-of y v e (found l k) =
        record { reached = λ other. k.run; least = k.least; none-exactly = (λ d n run. omega (arith, d, l, ok.few-sections), λ no-run. absurd (no-run v k.run)) }
    entry-of y v e (not_yet d k) =
        let without : (n : ℕ) → Run r heading x y n → ⊥ = λ n run. (let s = least-short ok (short run) in omega (arith, e, d, s, ok.few-sections)) in
        record { reached = λ other. absurd (other d); least = λ n run. absurd (without n run); none-exactly = (λ q n run. without n run, λ no-run. d) }

    pub last_row : IsRow r heading x row
    last_row = record { sized = h.sized; each = λ y l. entry-of y (get_or row y 0) refl (h.each y l) }

  -- A SECTION THAT IS NOT THERE: no run begins on it
  pub no_row : r.sections ≤ x → (row : List ℕ) → row ≡ replicate most_sections no_run → IsRow r heading x row
  no_row l row e =
      record {
        sized = ap length e ∙ length-replicate most_sections no_run;
        each = λ y m.
            let d : get_or row y 0 ≡ no_run = ap (λ (xs : List ℕ). get_or xs y 0) e ∙ get_or-replicate most_sections y no_run 0 m in
            let without : (n : ℕ) → Run r heading x y n → ⊥ = λ n run. (let k = run-from run in omega (arith, k, l)) in
            record { reached = λ other. absurd (other d); least = λ n run. absurd (without n run); none-exactly = (λ q n run. without n run, λ no-run. d) };
      }
