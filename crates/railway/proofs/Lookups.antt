-- The lookups of a record as code makes them: a table read where the place is within it, and what stands for nothing
-- elsewhere. Assumes nothing.
use Prim.Native.Nat.{ℕ, ◌<◌, ◌≤◌}
use mathlib.Core.Path.{◌≡◌, refl, sym, ◌∙◌, ap}
use native.Mathlib.Omega.{arith}
use mathlib.Core.Logic.{inl, inr}
use mathlib.Core.Bool.{Bool, true, false, cond}
use mathlib.Core.List.{List}
use lib.Dec.{ltb}
use lib.ListN.{length, get_or, get_or-eq_default}
use borrow.Author.Tests.{ltb-true, lt-ltb, le-ltb}
use Rattle.laws.proofs.Bools.{clash, lt?}
use Rattle.laws.proofs.Lists.{get_or-inside}
use Rattle.railway.specs.declared.Side.TheVariants.{Up}
use Rattle.railway.specs.declared.End.{End}
use Rattle.railway.specs.declared.Train.{Train}
use Rattle.railway.specs.Joined.{Nothing}
use Rattle.railway.specs.declared.Railway.{Railway}
use Rattle.railway.specs.Bounds.{most_sections, section_ends, all_ends}
use Rattle.railway.specs.Ends.{end_index}
use Rattle.railway.specs.Lent.{ClosedOf}
use Rattle.railway.specs.Record.{closed_at, is_closed, no_legs, no_link, no_train, joined_by, link_at, flag_at, joined}
use Rattle.railway.specs.Record.{has_signal, legs_of, train_of}

-- within a count, beyond it, and where what would be read beyond it is what stands for nothing
module _ {A : Type 0} (n k : ℕ) (x d : A) where
  pub within : n < k → x ≡ cond (ltb n k) x d
  within h = rw (lt-ltb n k h)

  pub beyond : k ≤ n → d ≡ cond (ltb n k) x d
  beyond h = rw (le-ltb n k h)

  pub unasked : (k ≤ n → d ≡ x) → x ≡ cond (ltb n k) x d
  unasked h = elim (lt? n k) [ inl l ↦ within l | inr l ↦ sym (h l) ∙ beyond l ]

-- past its table an index has nothing
module _ (r : Railway) (n : ℕ) where
  pub link-past : length r.links ≤ n → Nothing ≡ link_at r n
  unfolding joined_by
  link-past h = sym (ap joined_by (get_or-eq_default r.links no_link h))

  pub flag-past : length r.signals ≤ n → false ≡ flag_at r n
  flag-past h = sym (get_or-eq_default r.signals false h)

module _ (r : Railway) (e : End) (i : ℕ) (is : i ≡ end_index e) where
  pub joined-there : i < all_ends → link_at r i ≡ joined r e
  unfolding joined
  joined-there h = rw (← is) (within i all_ends (link_at r i) Nothing h)

  pub joined-read : length r.links ≡ all_ends → link_at r i ≡ joined r e
  unfolding joined
  joined-read n = rw (← is) (unasked i all_ends (link_at r i) Nothing (λ h. link-past r i (omega arith)))

  pub signal-there : i < section_ends → flag_at r i ≡ has_signal r e
  unfolding has_signal
  signal-there h = rw (← is) (within i section_ends (flag_at r i) false h)

  pub signal-read : length r.signals ≡ section_ends → flag_at r i ≡ has_signal r e
  unfolding has_signal
  signal-read n = rw (← is) (unasked i section_ends (flag_at r i) false (λ h. flag-past r i (omega arith)))

-- a signal that stands has its flag
pub record Flagged (r : Railway) (e : End) : Type 0 where
  pub below : end_index e < section_ends
  pub flag : flag_at r (end_index e) ≡ true

pub signal-flag : (r : Railway) (e : End) → has_signal r e ≡ true → Flagged r e
unfolding has_signal
signal-flag r e h = go (ltb (end_index e) section_ends) refl h
  where
    go : (b : Bool) → ltb (end_index e) section_ends ≡ b → cond b (flag_at r (end_index e)) false ≡ true → Flagged r e
    go true l f = record { below = ltb-true (end_index e) section_ends l; flag = f }
    go false l f = clash f refl

module _ (r : Railway) (x : ℕ) where
  pub closed-there : x < most_sections → closed_at r x ≡ is_closed r x
  unfolding is_closed
  closed-there h = within x most_sections (closed_at r x) false h

  pub closed_none : most_sections ≤ x → false ≡ is_closed r x
  unfolding is_closed
  closed_none h = beyond x most_sections (closed_at r x) false h

  pub lent-closed : (closed : List Bool) → ClosedOf r closed → get_or closed x false ≡ is_closed r x
  unfolding is_closed
  lent-closed closed h =
      ap (λ (flags : List Bool). get_or flags x false) (sym h.are)
      ∙ unasked x most_sections (closed_at r x) false (λ l. sym (rw h.are (get_or-eq_default closed false (omega (arith, h.many)))))

module _ (r : Railway) (n : ℕ) where
  pub legs-none : r.points ≤ n → Up ≡ legs_of r n
  unfolding legs_of
  legs-none h = beyond n r.points (get_or r.legs n no_legs).side Up h

  pub roster-there : (d : Train) → n < r.trains → n < length r.roster → get_or r.roster n d ≡ train_of r n
  unfolding train_of
  roster-there d h l =
      get_or-inside r.roster n d no_train l ∙ within n r.trains (get_or r.roster n no_train) no_train h

  pub roster-none : r.trains ≤ n → no_train ≡ train_of r n
  unfolding train_of
  roster-none h = beyond n r.trains (get_or r.roster n no_train) no_train h
