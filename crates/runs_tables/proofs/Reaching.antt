-- Going the ways from an end one by one: what stands at the end of a way gets an entry, unless it has one. That no way follows where one is missing ends the walk early. Assumes nothing.
use mathlib.Core.Path.{◌≡◌, refl, sym, ◌∙◌, ap}
use mathlib.Core.Logic.{inl, inr}
use mathlib.Core.Bool.{true, false}
use mathlib.Core.List.{List}
use mathlib.Core.Option.{none, some}
use Prim.Native.Nat.{ℕ, ◌+◌, ◌≤◌, ◌<◌}
use native.Mathlib.Omega.{arith}
use lib.Dec.{eqb}
use lib.ListN.{length, get_or, set, length-set}
use lib.Seq.{get_or-set_same, get_or-set_other}
use borrow.Author.Tests.{eq-eqb, ne_eqb}
use Rattle.laws.proofs.Bools.{option?, eq?, some_one}
use Rattle.railway.specs.declared.Railway.{Railway}
use Rattle.railway.specs.Bounds.{most_sections}
use Rattle.railway.specs.Ends.{end_at}
use Rattle.railway.specs.Record.{is_closed}
use Rattle.railway_routes.specs.Routes.{Way, routes_from, nth, most_ways, to_byte}
use Rattle.railway_routes.proofs.Ways.{nth-gone, nth_past}
use Rattle.railway_routes.proofs.Routes.{from-ends, from-few}
use Rattle.runs.specs.Runs.{no_run}
use Rattle.runs_tables.specs.Filling.{first_of, LeadsTo, Entry, same, fresh, Reached}

-- an entry that is there, or n
pub first-new : (v n : ℕ) → v ≡ no_run → n ≡ first_of v n
first-new v n e = let b : eqb v no_run ≡ true = eq-eqb v no_run e in rw b refl

pub first-old : (v n : ℕ) → (v ≡ no_run → ⊥) → v ≡ first_of v n
first-old v n e = let b : eqb v no_run ≡ false = ne_eqb v no_run e in rw b refl

first_some : (v n : ℕ) → (n ≡ no_run → ⊥) → first_of v n ≡ no_run → ⊥
first_some v n h e = elim (eq? v no_run) [ inl z ↦ h (first-new v n z ∙ e) | inr z ↦ z (first-old v n z ∙ e) ]

module _ (ws : List Way) (n : ℕ) (old : List ℕ) where
  -- NO WAY yet
  pub none-gone : Reached ws 0 n old old
  none-gone = record { sized = λ l. l; each = λ l z. same refl; covered = λ l h z w. absurd (omega (arith, w.below)) }

  later : (j z : ℕ) → LeadsTo ws j z → LeadsTo ws (j + 1) z
  later j z w = record { number = w.number; below = omega (arith, w.below); way = w.way; is = w.is; to = w.to }

  -- ONE WAY more, to section z
  module _ (j : ℕ) (new : List ℕ) (w : Way) (v : ℕ) (is : nth ws j ≡ some w) (inside : w.to < most_sections) (h : Reached ws j n old new) (ev : v ≡ first_of (get_or new w.to 0) n) where
    abbrev after : List ℕ
    after = set new w.to v

    here : length old ≡ most_sections → get_or after w.to 0 ≡ first_of (get_or new w.to 0) n
    here l = get_or-set_same new w.to v 0 (let m : length new ≡ most_sections = h.sized l in rw m inside) ∙ ev

    lead : LeadsTo ws (j + 1) w.to
    lead = record { number = j; below = omega arith; way = w; is = is; to = refl }

    longer : (z a b : ℕ) → Entry ws j n z a b → Entry ws (j + 1) n z a b
    longer z a b (same e) = same e
    longer z a b (fresh e d l) = fresh e d (later j z l)

    -- the entry there: as it was if it was one, else n
    entry-there : (a b c : ℕ) → Entry ws j n w.to a b → c ≡ first_of b n → Entry ws (j + 1) n w.to a c
    entry-there a b c (fresh e d l) k = elim (eq? b no_run) [
      | inl z ↦ fresh e (k ∙ sym (first-new b n z)) lead
      | inr z ↦ fresh e (k ∙ sym (first-old b n z) ∙ d) lead
    ]
    entry-there a b c (same e) k = elim (eq? b no_run) [
      | inl z ↦ fresh (sym e ∙ z) (k ∙ sym (first-new b n z)) lead
      | inr z ↦ same (k ∙ sym (first-old b n z) ∙ e)
    ]

    pub one-gone : Reached ws (j + 1) n old after
    one-gone =
        record {
          sized = λ l. length-set new w.to v ∙ h.sized l;
          each = λ l z. elim (eq? z w.to) [
            | inl e ↦ rw e (entry-there (get_or old w.to 0) (get_or new w.to 0) (get_or after w.to 0) (h.each l w.to) (here l))
            | inr e ↦ (let d : get_or after z 0 ≡ get_or new z 0 = get_or-set_other new w.to z v 0 e in rw d (longer z (get_or old z 0) (get_or new z 0) (h.each l z)))
          ];
          covered = λ l m z k e. elim (eq? z w.to) [
            | inl q ↦ first_some (get_or new w.to 0) n m (sym (here l) ∙ (rw q at e))
            | inr q ↦ h.covered l m z (before z k q) (sym (get_or-set_other new w.to z v 0 q) ∙ e)
          ];
        }
      where
        -- a way to another section is one of those before
        before : (z : ℕ) → LeadsTo ws (j + 1) z → (z ≡ w.to → ⊥) → LeadsTo ws j z
        before z k q = record {
          number = k.number;
          below = elim (eq? k.number j) [
            | inl e ↦ absurd (q (sym k.to ∙ ap (λ (x : Way). x.to) (some_one (sym k.is ∙ ap (nth ws) e ∙ is))))
            | inr e ↦ omega (arith, k.below, e)
          ];
          way = k.way;
          is = k.is;
          to = k.to;
        }

  -- THE END: no way has this number, so none a larger one
  pub gone-all : (j : ℕ) (new : List ℕ) → nth ws j ≡ none → j ≤ most_ways → Reached ws j n old new → Reached ws most_ways n old new
  gone-all j new none-there few h =
      record {
        sized = h.sized;
        each = λ l z. wider (h.each l z);
        covered = λ l m z k. h.covered l m z (record { number = k.number; below = nth-gone ws j k.number k.way none-there k.is; way = k.way; is = k.is; to = k.to });
      }
    where
      wider : {z a b : ℕ} → Entry ws j n z a b → Entry ws most_ways n z a b
      wider (same e) = same e
      wider (fresh e d k) = fresh e d (record { number = k.number; below = omega (arith, k.below); way = k.way; is = k.is; to = k.to })

-- BY THE TABLE OF WAYS. What stands for a section that no railway has says that there is no such way; another is that of a way.
module _ (r : Railway) (e j z : ℕ) (is : z ≡ to_byte (nth (routes_from r (is_closed r) (end_at e)) j)) where
  pub no_way : most_sections ≤ z → nth (routes_from r (is_closed r) (end_at e)) j ≡ none
  no_way l = elim (option? (nth (routes_from r (is_closed r) (end_at e)) j)) [
    | inl q ↦ q
    | inr q ↦ absurd (omega (arith, is, ap to_byte q.1, (from-ends r (is_closed r) (end_at e) j q.0 q.1).to))
  ]

  pub record IsWay : Type 0 where
    pub way : Way
    pub there : nth (routes_from r (is_closed r) (end_at e)) j ≡ some way
    pub to : way.to ≡ z

  pub a-way : z < most_sections → IsWay
  a-way l = elim (option? (nth (routes_from r (is_closed r) (end_at e)) j)) [
    | inl q ↦ absurd (omega (arith, is, ap to_byte q))
    | inr q ↦ record { way = q.0; there = q.1; to = sym (is ∙ ap to_byte q.1) }
  ]

-- one way more, by the section that the table has
pub step : (r : Railway) (e j z n v : ℕ) (old new : List ℕ) → z ≡ to_byte (nth (routes_from r (is_closed r) (end_at e)) j) → z < most_sections → v ≡ first_of (get_or new z 0) n
    → Reached (routes_from r (is_closed r) (end_at e)) j n old new → Reached (routes_from r (is_closed r) (end_at e)) (j + 1) n old (set new z v)
step r e j z n v old new is l ev h =
    let w = a-way r e j z is l in
    let q : w.way.to ≡ z = w.to in
    rw q at (one-gone (routes_from r (is_closed r) (end_at e)) n old j new w.way v w.there (omega (arith, q, l)) h (rw q ev))

-- no way has a number past the last
pub no_more : (r : Railway) (e : ℕ) → nth (routes_from r (is_closed r) (end_at e)) most_ways ≡ none
no_more r e = nth_past (routes_from r (is_closed r) (end_at e)) most_ways (from-few r (is_closed r) (end_at e))
