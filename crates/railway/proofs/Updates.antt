-- What a join that was added to a record changes.
-- Assumes nothing.
use Prim.Native.Nat.{◌<◌, ◌≤◌}
use mathlib.Core.Path.{◌≡◌, ◌∙◌, ap}
use mathlib.Core.Logic.{inl, inr}
use native.Mathlib.Omega.{arith}
use lib.ListN.{length, get_or, length-set}
use lib.Seq.{get_or-set_same, get_or-set_other}
use borrow.Author.Tests.{lt-ltb, le-ltb}
use Rattle.laws.proofs.Bools.{eq?, lt?}
use Rattle.railway.specs.declared.End.{End}
use Rattle.railway.specs.Joined.{With}
use Rattle.railway.specs.declared.Railway.{Railway}
use Rattle.railway.specs.Bounds.{all_ends}
use Rattle.railway.specs.Ends.{Numbered, end_index}
use Rattle.railway.specs.Record.{no_link, joined_by, link_at, joined, with_links, set_link, with_join}
use Rattle.railway.proofs.Ends.{index_below, index-one, numbered_of}
use Rattle.railway.proofs.Bytes.{byte-back}

-- A JOIN ADDED is found from both its ends, and changes no other.
module _ (r : Railway) (a b : End) (room : length r.links ≡ all_ends) (ha : Numbered a) (hb : Numbered b) where
  added : with_join r a b ≡ with_links r (set_link b a (set_link a b r.links))
  unfolding with_join
  added = rw (lt-ltb (end_index a) all_ends (index_below a ha), lt-ltb (end_index b) all_ends (index_below b hb))

  looked-up : (e : End) → Numbered e
      → joined (with_join r a b) e ≡ joined_by (get_or (set_link b a (set_link a b r.links)) (end_index e) no_link)
  unfolding joined
  looked-up e h = rw (added, lt-ltb (end_index e) all_ends (index_below e h))

  pub join-second : joined (with_join r a b) b ≡ With a
  join-second =
      looked-up b hb
      ∙ ap joined_by (get_or-set_same (set_link a b r.links) (end_index b) (end_index a) no_link
      (let l = index_below b hb in simp length-set (omega arith)))
      ∙ byte-back a ha

  pub join_first : joined (with_join r a b) a ≡ With b
  join_first = elim (eq? (end_index a) (end_index b)) [
    | inl e ↦ let z : a ≡ b = index-one a b ha hb e in ap (joined (with_join r a b)) z ∙ join-second ∙ ap With z
    | inr n ↦
        looked-up a ha
        ∙ ap joined_by
        (get_or-set_other (set_link a b r.links) (end_index b) (end_index a) (end_index a) no_link n
        ∙ get_or-set_same r.links (end_index a) (end_index b) no_link (let l = index_below a ha in omega arith))
        ∙ byte-back b hb
  ]

  kept : (e : End) → end_index e < all_ends → link_at r (end_index e) ≡ joined r e
  unfolding joined
  kept e l = rw (lt-ltb (end_index e) all_ends l)

  neither-joined : (e : End) → all_ends ≤ end_index e → joined (with_join r a b) e ≡ joined r e
  unfolding joined
  neither-joined e l = rw (le-ltb (end_index e) all_ends l)

  pub join-rest : (e : End) → (e ≡ a → ⊥) → (e ≡ b → ⊥) → joined (with_join r a b) e ≡ joined r e
  join-rest e na nb = elim (lt? (end_index e) all_ends) [
    | inl l ↦
        let h = numbered_of e l in
        looked-up e h
        ∙ ap joined_by
        (get_or-set_other (set_link a b r.links) (end_index b) (end_index e) (end_index a) no_link
        (λ z. nb (index-one e b h hb z))
        ∙ get_or-set_other r.links (end_index a) (end_index e) (end_index b) no_link (λ z. na (index-one e a h ha z)))
        ∙ kept e l
    | inr l ↦ neither-joined e l
  ]
