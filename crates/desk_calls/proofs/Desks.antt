-- Desks by value. One that is held has a place for each train that a railway can have, so that it is known by the section of each. The start is a placement of its code; past the
-- last train the code has section 0 there, and so has the record. What a desk carries is counted train by train, and tested behind its sections. Assumes nothing.
use mathlib.Core.Path.{◌≡◌, sym, ◌∙◌, ap}
use mathlib.Core.Logic.{inl, inr}
use mathlib.Core.Bool.{Bool, true, false, not}
use mathlib.Core.List.{List}
use Prim.Native.Nat.{ℕ, ◌+◌, ◌≤◌, ◌<◌}
use native.Mathlib.Omega.{arith}
use native.Mathlib.Numerals.{add-one}
use lib.ListN.{length, set, length-set}
use lib.Seq.{ext_get_or}
use lib.Dec.{eqb}
use borrow.Author.Tests.{lt-ltb, eq-eqb, ne_eqb}
use mir.Val.{Val}
use denote.Laws.{Is}
use Rattle.laws.specs.Below.{count_below, list_below}
use Rattle.laws.proofs.Bools.{lt?, or_left, or_right}
use Rattle.laws.proofs.Below.{list_length, list_get}
use Rattle.railway.specs.declared.Train.{Train}
use Rattle.railway.specs.declared.Railway.{Railway}
use Rattle.railway.specs.Bounds.{most_trains}
use Rattle.railway.specs.Record.{train_of}
use Rattle.railway.proofs.Lookups.{roster-none}
use Rattle.game.specs.Placement.{stands_on, code_on, names_none, start_code, arrived, shared}
use Rattle.game.proofs.Accepted.{Facts}
use Rattle.game.proofs.Naming.{none_named, stands-named}
use Rattle.game_placement.specs.declared.Placement.{Placement}
use Rattle.game_placement.specs.ByValue.{section_in}
use Rattle.game_placement.proofs.ByValue.{placement-length}
use Rattle.game_moves.specs.Steps.{On, put_in}
use Rattle.game_moves.proofs.Placing.{table-facts, past-trains, put-section}
use Rattle.desk.specs.Desk.{Desk as DeskAt, desk_code, misplaced, arrivals, miscarries, desk_row, desk_on}
use Rattle.desk_calls.specs.declared.Desk.{Desk}
use Rattle.desk_calls.specs.Answers.{desk_at}
use Rattle.desk_calls.specs.contracts.Desk as T

-- What holding a desk tells.
pub desk-length : (d : Desk) (vs : List Val) → Is T.the_row d vs → length d.at.sections ≡ most_trains
desk-length d vs p = placement-length d.at _ p.1.1.0

-- THE START, as a placement of its code.
module _ (r : Railway) (table : List ℕ) (q : Placement) (on : On r (start_code r) table q) where
  start-facts : Facts r
  start-facts = table-facts r table on.compiled

  stands-start : (t : ℕ) → stands_on r (start_code r) t ≡ (train_of r t).start.0
  unfolding start_code
  stands-start t = elim (lt? t r.trains) [
    | inl l ↦ stands-named r (λ u. (train_of r u).start.0) (none_named r (λ u. (train_of r u).start.0) start-facts.starts) start-facts.one-section t l
    | inr l ↦ sym (past-trains r table on.compiled (start_code r) t l) ∙ ap (λ (x : Train). x.start.0) (roster-none r t l)
  ]

  pub start-sections : length q.sections ≡ most_trains → q.sections ≡ list_below (λ t. (train_of r t).start.0) most_trains
  start-sections sized =
      ext_get_or 0 q.sections (list_below (λ t. (train_of r t).start.0) most_trains) (sized ∙ sym (list_length (λ t. (train_of r t).start.0) most_trains))
      (λ t l. on.stands t ∙ stands-start t ∙ sym (list_get (λ u. (train_of r u).start.0) most_trains t 0 (omega (arith, sized))))

-- ONE TRAIN PUT ELSEWHERE.
pub moved-sections : (q o : Placement) (t x : ℕ) → length q.sections ≡ most_trains → length o.sections ≡ most_trains → t < most_trains
    → ((u : ℕ) → section_in o u ≡ put_in q t x u) → o.sections ≡ set q.sections t x
moved-sections q o t x lq lo l h =
    let few = lt-ltb t most_trains l in
    ext_get_or 0 o.sections (set q.sections t x) (lo ∙ sym (length-set q.sections t x ∙ lq))
    (λ u lu. (rw few at (h u)) ∙ sym (put-section q.sections t x (omega (arith, lq)) u))

-- HOW MANY HAVE ARRIVED: one more that has, one that has not, and all of them.
module _ (r : Railway) (p n t : ℕ) (so_far : n ≡ count_below (arrived r p) t) where
  pub one_more : arrived r p t ≡ true → n + 1 ≡ count_below (arrived r p) (t + 1)
  unfolding count_below
  one_more e = rw (add-one t, e, so_far)

  pub none_more : arrived r p t ≡ false → n ≡ count_below (arrived r p) (t + 1)
  unfolding count_below
  none_more e = rw (add-one t, e) (omega (arith, so_far))

  pub arrived-all : (k : ℕ) → k ≡ r.trains → t ≤ k → k ≤ t → n ≡ arrivals r p
  unfolding arrivals
  arrived-all k e l m = so_far ∙ ap (count_below (arrived r p)) (let z : t ≡ r.trains = omega arith in z)

-- THE DESK OF A PLACEMENT, with what it carries.
pub carried : (r : Railway) (q : Placement) (p n : ℕ) → p ≡ code_on r (section_in q) → n ≡ arrivals r p → desk_at (record { at = q; code = p; arrived = n }) ≡ desk_on r q
carried r q p n e f = rw (f, e)

-- STOPPED, by the tests that code makes.
module _ (r : Railway) (d : DeskAt) (b : Bool) (names : b ≡ names_none r (section_in d.at)) where
  pub stopped_named : b ≡ true → true ≡ desk_row r d
  unfolding misplaced
  stopped_named e = rw (sym names ∙ e)

  module _ (p : ℕ) (named : b ≡ false) (code : p ≡ desk_code r d) where
    -- another code is carried
    pub stopped_code : (d.code ≡ p → ⊥) → true ≡ desk_row r d
    unfolding miscarries
    stopped_code n = sym (or_right (misplaced r d.at) _ (or_left _ _ (ap not (ne_eqb d.code (desk_code r d) (λ z. n (z ∙ sym code))))))

    module _ (same : d.code ≡ p) (l : Bool) (lost : l ≡ shared r p) where
      pub stopped-lost : l ≡ true → true ≡ desk_row r d
      unfolding misplaced
      stopped-lost e = sym (or_left (misplaced r d.at) _ (or_right (names_none r (section_in d.at)) _ (ap (shared r) (sym code) ∙ sym lost ∙ e)))

      -- nor is anything else wrong than the count
      pub stopped-count : l ≡ false → (k : ℕ) → k ≡ arrivals r p → not (eqb d.arrived k) ≡ desk_row r d
      unfolding misplaced miscarries
      stopped-count e k counted =
          let a : names_none r (section_in d.at) ≡ false = sym names ∙ named in
          let s : shared r (desk_code r d) ≡ false = ap (shared r) (sym code) ∙ sym lost ∙ e in
          let c : eqb d.code (desk_code r d) ≡ true = eq-eqb _ _ (same ∙ code) in
          rw (a, s, c, counted, code)
