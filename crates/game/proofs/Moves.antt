-- Laws of an accepted railway's moves: trains stand on its sections and come to its sections, so that moves stay among the placements; the
-- start is one of them. A train comes to a section that a join names, and every join names what is there. Assumes nothing.
use mathlib.Core.Path.{◌≡◌, refl, ◌∙◌, ap}
use mathlib.Core.Bool.{Bool, true, false, cond}
use mathlib.Core.List.{List}
use mathlib.Core.Option.{Option, none, some}
use Prim.Native.Nat.{ℕ, zero, suc, ◌^◌, ◌≤◌, ◌<◌}
use native.Mathlib.Omega.{arith}
use lib.ListN.{length, set, length-set}
use borrow.Author.Tests.{ltb-true}
use Rattle.laws.specs.Below.{list_below}
use Rattle.laws.proofs.Bools.{some-none}
use Rattle.laws.proofs.Below.{list_length, list_get}
use Rattle.railway.specs.declared.Leg.{Leg}
use Rattle.railway.specs.declared.PointNo.{PointNo}
use Rattle.railway.specs.declared.End.{End}
use Rattle.railway.specs.declared.End.TheVariants.{Section, Port}
use Rattle.railway.specs.Joined.{Joined, Nothing, With}
use Rattle.railway.specs.declared.Railway.{Railway}
use Rattle.railway.specs.Record.{joined, is_closed, train_of, weight_of}
use Rattle.railway.specs.Passing.{Passage, through, most_met, nowhere, past_point, past_join, follow, passes, in_use, entered}
use Rattle.game.specs.Game.{lost, at, collision}
use Rattle.game.specs.Local.{Costs, Inside}
use Rattle.game.specs.Placement.{sections_in, sections_of, stands_on, placements, start_code}
use Rattle.game.specs.Setting.{Setting, heads_for}
use Rattle.game.specs.Moves.{occupied, code_with, enters, move_of, game_of, ClosedLose}
use Rattle.game.proofs.Placement.{AllBelow, code_below, sections-code, sections-length, sections-below, set_below}
use Rattle.game.proofs.Accepted.{Known, Facts}

module _ (r : Railway) (ok : Facts r) where
  -- every train stands on a section of the railway
  pub section-below : (p t : ℕ) → t < r.trains → stands_on r p t < r.sections
  unfolding stands_on
  section-below p t l = sections-below r.sections r.trains p ok.one-section t (rw (sections-length r.sections r.trains p) l)

  -- and comes to one
  point-below : (f : Joined → Passage) (n : PointNo) (o : Option Leg) (x : ℕ) → ((l : Leg) → (f (joined r (Port n l))).reached ≡ some x → x < r.sections)
      → (past_point r f n o).reached ≡ some x → x < r.sections
  point-below f n none x h e = some-none e refl
  point-below f n (some l) x h e = h l e

  join-below : (f : PointNo → Leg → Passage) (j : Joined) (x : ℕ) → Known r j → ((n : PointNo) (l : Leg) → (f n l).reached ≡ some x → x < r.sections)
      → (past_join f j).reached ≡ some x → x < r.sections
  join-below f Nothing x known h e = some-none e refl
  join-below f (With (Section n d)) x known h e = let z : n.0 ≡ x = cc in omega (arith, ltb-true n.0 r.sections known)
  join-below f (With (Port n g)) x known h e = h n g e

  follow-below : (plus : ℕ → Bool) (k : ℕ) (j : Joined) (x : ℕ) → Known r j → (follow r plus k j).reached ≡ some x → x < r.sections
  unfolding follow
  follow-below plus zero j x known e = join-below (λ n l. nowhere) j x known (λ n l e. some-none e refl) e
  follow-below plus (suc k) j x known e =
      join-below (λ n l. past_point r (λ i. follow r plus k i) n (through l (plus n.0))) j x known
      (λ n g e. point-below (follow r plus k) n (through g (plus n.0)) x (λ l. follow-below plus k (joined r (Port n l)) x (ok.joins (Port n l))) e) e

  pub passes-below : (plus : ℕ → Bool) (e : End) (x : ℕ) → (passes r plus e).reached ≡ some x → x < r.sections
  unfolding passes
  passes-below plus e x h = follow-below plus most_met (joined r e) x (ok.joins e) h

  -- a section that is entered is come to
  use-reached : (o : Option ℕ) (x : ℕ) → in_use r o ≡ some x → o ≡ some x
  use-reached none x e = e
  use-reached (some y) x e = go (is_closed r y) e
    where
      go : (b : Bool) → cond b none (some y) ≡ some x → some y ≡ some x
      go true e = some-none e refl
      go false e = e

  pub entered-reached : (plus : ℕ → Bool) (e : End) (x : ℕ) → entered r plus e ≡ some x → (passes r plus e).reached ≡ some x
  unfolding entered
  entered-reached plus e x h = use-reached (passes r plus e).reached x h

  pub entered_below : (plus : ℕ → Bool) (e : End) (x : ℕ) → entered r plus e ≡ some x → x < r.sections
  entered_below plus e x h = passes-below plus e x (entered-reached plus e x h)

  -- a placement with one train put on another section is a placement
  pub code-with-below : (p t x : ℕ) → x < r.sections → code_with r p t x < placements r
  code-with-below p t x l =
      let n : length (set (sections_of r p) t x) ≡ r.trains = length-set (sections_of r p) t x ∙ sections-length r.sections r.trains p in
      let c : code_with r p t x < r.sections ^ length (set (sections_of r p) t x) =
      code_below r.sections (set (sections_of r p) t x) (set_below r.sections (sections_of r p) t x (sections-below r.sections r.trains p ok.one-section) l) in
      rw n at c

  -- in that placement the train stands there, and the others as before
  pub sections-with : (p t x : ℕ) → x < r.sections → sections_of r (code_with r p t x) ≡ set (sections_of r p) t x
  sections-with p t x l =
      let n : length (set (sections_of r p) t x) ≡ r.trains = length-set (sections_of r p) t x ∙ sections-length r.sections r.trains p in
      let c : sections_in r.sections (length (set (sections_of r p) t x)) (code_with r p t x) ≡ set (sections_of r p) t x =
      sections-code r.sections (set (sections_of r p) t x) ok.one-section (set_below r.sections (sections_of r p) t x (sections-below r.sections r.trains p ok.one-section) l) in
      rw n at c

  enters_below : (p t q : ℕ) (o : Option ℕ) → ((x : ℕ) → o ≡ some x → x < r.sections) → enters r p t o ≡ at q → q < placements r
  enters_below p t q none h e = let z : ◌≡◌ {A = ℕ} 0 1 = cc in absurd (omega arith)
  enters_below p t q (some x) h e = go (occupied r p t x) e
    where
      go : (b : Bool) → cond b (lost collision) (at (code_with r p t x)) ≡ at q → q < placements r
      go true e = let z : ◌≡◌ {A = ℕ} 0 1 = cc in absurd (omega arith)
      go false e = let z : code_with r p t x ≡ q = cc in rw z at (code-with-below p t x (h x refl))

  -- the moves stay among the placements
  pub move-inside : (p : ℕ) (s : Setting) (t q : ℕ) → move_of r p s t ≡ at q → q < placements r
  unfolding move_of
  move-inside p s t q e = enters_below p t q (entered r s.plus (heads_for r p t)) (entered_below s.plus (heads_for r p t)) e

  pub inside : Inside (game_of r)
  inside p s t q hp m e = move-inside p s t q e

  -- every move costs something, and 255 at most
  pub costs : Costs (game_of r)
  costs t l = (ok.weights t l).0

  pub most : (t : ℕ) → t < r.trains → weight_of r t ≤ suc 254
  most t l = (ok.weights t l).1

  -- THE START is a placement, and each train stands on its start there
  abbrev starts : List ℕ
  starts = list_below (λ t. (train_of r t).start.0) r.trains

  starts-length : length starts ≡ r.trains
  starts-length = list_length (λ t. (train_of r t).start.0) r.trains

  starts-below : AllBelow r.sections starts
  starts-below i l = let h : i < r.trains = rw starts-length at l in rw (list_get (λ t. (train_of r t).start.0) r.trains i 0 h) (ok.starts i h)

  pub start-below : start_code r < placements r
  unfolding start_code
  start-below = rw starts-length at (code_below r.sections starts starts-below)

-- CLOSED SECTIONS: what a train comes to decides, and whether it is closed
use-open : (r : Railway) → ((x : ℕ) → is_closed r x ≡ false) → (o : Option ℕ) → in_use r o ≡ o
use-open r h none = refl
use-open r h (some x) = rw (h x)

pub closed-lose : ClosedLose
unfolding move_of entered
closed-lose r =
    record {
      entering = λ p s t x reached shut. rw (reached, shut) refl;
      other = λ p s t x reached free. rw (reached, free) refl;
      none-closed = λ h p s t. ap (enters r p t) (use-open r h (passes r s.plus (heads_for r p t)).reached);
    }
