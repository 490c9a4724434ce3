-- Row 5 and the links: joins are added one by one, each judged against the record so far. Where none is at fault, no end is in two and each end is
-- joined as the J lines say; and where the row does not apply, none is at fault.
-- Assumes nothing.
use Prim.Native.Nat.{ℕ, ◌-◌, ◌<◌}
use mathlib.Core.Path.{◌≡◌, refl, sym, ◌∙◌, ap}
use mathlib.Core.Bool.{Bool, true, false, cond, not, ◌&&◌, ◌||◌}
use mathlib.Core.List.{List, [], ◌∷◌, Memᴰ}
use native.Mathlib.Omega.{arith}
use lib.Dec.{ltb}
use lib.ListN.{get_or}
use borrow.Author.Tests.{eq-eqb}
use Rattle.laws.specs.Lists.{any, repeats, Every}
use Rattle.laws.proofs.Bools.{clash, or-false, or-none, not-and}
use Rattle.laws.proofs.Lists.{any_none, repeats-head, repeats-none, every-none, every_more}
use Rattle.railway.specs.declared.Side.{Side}
use Rattle.railway.specs.declared.Side.TheVariants.{Up}
use Rattle.railway.specs.declared.End.{End}
use Rattle.railway.specs.Joined.{Joined, Nothing, With}
use Rattle.railway.specs.declared.Railway.{Railway}
use Rattle.railway.specs.Bounds.{all_ends}
use Rattle.railway.specs.Ends.{Numbered, port_side, end_index}
use Rattle.railway.specs.Record.{joined, legs_of, with_links, set_link, with_join}
use Rattle.railway.specs.Record as R
use Rattle.railway.specs.Rows.{wrong_pair, unjoined}
use Rattle.railway.specs.Rows as RR
use Rattle.railway.proofs.Updates.{join_first, join-second, join-rest}
use Rattle.railway.proofs.Rows.{Bounded}
use Rattle.case_file.specs.Form.{EndField, section, port, JoinLine, Description, same_end}
use Rattle.case_file.specs.Rows.{known, side_of, tied, wrong_join, join_ends}
use Rattle.case_file.specs.Recording.{end_of, field_of, partner}
use Rattle.case_file.proofs.Rows.{within-is}
use Rattle.case_file.proofs.Ends.{same-is, same_self, not_same, end-field, Counted, field_end, one_same}
use Rattle.case_draft.specs.Drafting.{faulty}
use Rattle.case_draft.proofs.Sized.{sized-join}
use Rattle.case_draft.proofs.Known.{SizedBy}
use Rattle.case_draft.proofs.Built.{join_all, faults, KnownJoin}

-- what an end is joined to, by the lines still to come or by the record
abbrev pub or_joined : Joined → Joined → Joined
or_joined Nothing j = j
or_joined (With f) j = With f

unjoined-is : (j : Joined) → unjoined j ≡ true → j ≡ Nothing
unjoined-is Nothing h = refl
unjoined-is (With e) h = clash h refl

with_nothing : {A : Type 0} {j : Joined} {e : End} → j ≡ With e → j ≡ Nothing → A
with_nothing p q = let z : ◌≡◌ {A = ℕ} 0 1 = cc in absurd (omega arith)

-- an end that no J line names is joined by none
pub partner-none : (js : List JoinLine) (f : EndField) → any (same_end f) (join_ends js) ≡ false → partner js f ≡ Nothing
unfolding any join_ends partner
partner-none [] f h = refl
partner-none (j ∷ js) f h =
    let a = or-false (same_end f j.one) (same_end f j.other || any (same_end f) (join_ends js)) h in
    let b = or-false (same_end f j.other) (any (same_end f) (join_ends js)) a.1 in
    rw (a.0, b.0) (partner-none js f b.1)

-- an end may not be tied to itself
self-wrong : (d : Description) (e : EndField) → wrong_pair (tied d e) (tied d e) ≡ true
self-wrong d (section n s) = rw (eq-eqb n n refl)
self-wrong d (port n l) = rw (eq-eqb n n refl)

end-one : (a e : EndField) → Counted a → Counted e → end_of e ≡ end_of a → a ≡ e
end-one a e p q h = sym (field_end a p) ∙ ap field_of (sym h) ∙ field_end e q

apart : (a e : EndField) → Counted a → Counted e → same_end a e ≡ false → end_of e ≡ end_of a → ⊥
apart a e p q h k = let z : same_end a e ≡ true = rw (end-one a e p q k) (same_self e) in clash z h

legs-kept : (r : Railway) (a b : End) (n : ℕ) → legs_of (with_join r a b) n ≡ legs_of r n
unfolding with_join legs_of
legs-kept r a b n = cases (ltb (end_index a) all_ends && ltb (end_index b) all_ends)
  where
    cases : (c : Bool) → legs_of (cond c (with_links r (set_link b a (set_link a b r.links))) r) n ≡ legs_of r n
    cases true = refl
    cases false = refl

module _ (d : Description) (b : Bounded d.sections d.points d.trains) where
  pub counted-known : (e : EndField) → known d e ≡ true → Counted e
  counted-known (section n s) h = (within-is n d.sections h).0
  counted-known (port n l) h = (within-is n d.points h).0

  pub numbered-known : (e : EndField) → known d e ≡ true → Numbered (end_of e)
  numbered-known (section n s) h = let k = within-is n d.sections h in omega arith
  numbered-known (port n l) h = let k = within-is n d.points h in omega arith

  ends-known : (js : List JoinLine) → Every (KnownJoin d) js → (e : EndField) → Memᴰ e (join_ends js) → known d e ≡ true
  unfolding join_ends
  ends-known [] h e x'' = elim x'' [ ]
  ends-known (j ∷ js) h e (Memᴰ.head p) = rw p (h j (Memᴰ.head refl)).0
  ends-known (j ∷ js) h e (Memᴰ.tail (Memᴰ.head p)) = rw p (h j (Memᴰ.head refl)).1
  ends-known (j ∷ js) h e (Memᴰ.tail (Memᴰ.tail m)) = ends-known js (λ x m. h x (Memᴰ.tail m)) e m

  -- a record whose counts and legs are the description's
  pub record Ready (r : Railway) : Type 0 where
    pub sized : SizedBy d r
    pub legs : (n : ℕ) → n < d.points → legs_of r n ≡ get_or d.legs n Up

  ready-join : (r : Railway) → Ready r → (e f : End) → Ready (with_join r e f)
  ready-join r y e f =
      record { sized = sized-join d.sections d.points d.trains r y.sized e f; legs = λ n h. legs-kept r e f n ∙ y.legs n h }

  side_same : (r : Railway) → Ready r → (e : EndField) → known d e ≡ true → R.side_of r (end_of e) ≡ side_of d e
  side_same r y (section n s) h = refl
  side_same r y (port n l) h = let k = within-is n d.points h in ap (λ (s : Side). port_side s l) (y.legs (n - 1) (omega arith))

  pair_same : (r : Railway) → Ready r → (j : JoinLine) → KnownJoin d j → wrong_pair (RR.tied r (end_of j.one)) (RR.tied r (end_of j.other)) ≡ wrong_join d j
  pair_same r y j h =
      rw (
        one_same j.one j.other (counted-known j.one h.0) (counted-known j.other h.1),
        side_same r y j.one h.0,
        side_same r y j.other h.1,
      )

  -- J lines that may all be added
  pub record Fit (r : Railway) (js : List JoinLine) : Type 0 where
    pub right : Every (λ j. wrong_join d j ≡ false) js
    pub once : repeats same_end (join_ends js) ≡ false
    pub free : Every (λ e. joined r (end_of e) ≡ Nothing) (join_ends js)

  -- the first of them, and those behind it
  module _ (r : Railway) (y : Ready r) (j : JoinLine) (js : List JoinLine) (h : Every (KnownJoin d) (j ∷ js)) where
    abbrev one : End
    one = end_of j.one

    abbrev other : End
    other = end_of j.other

    abbrev next : Railway
    next = with_join r one other

    k : KnownJoin d j
    k = h j (Memᴰ.head refl)

    later : Every (KnownJoin d) js
    later x m = h x (Memᴰ.tail m)

    n1 : Numbered one
    n1 = numbered-known j.one k.0

    n2 : Numbered other
    n2 = numbered-known j.other k.1

    kept : (e : EndField) → known d e ≡ true → same_end j.one e ≡ false → same_end j.other e ≡ false → joined next (end_of e) ≡ joined r (end_of e)
    kept e q u v =
        join-rest r one other y.sized.links n1 n2 (end_of e)
        (apart j.one e (counted-known j.one k.0) (counted-known e q) u) (apart j.other e (counted-known j.other k.1) (counted-known e q) v)

    module _ (f : Fit r (j ∷ js)) where
      head_apart : (e : EndField) → Memᴰ e (j.other ∷ join_ends js) → same_end j.one e ≡ false
      unfolding join_ends
      head_apart = (repeats-head same_end j.one (j.other ∷ join_ends js) f.once).0

      rest-once : repeats same_end (j.other ∷ join_ends js) ≡ false
      unfolding join_ends
      rest-once = (repeats-head same_end j.one (j.other ∷ join_ends js) f.once).1

      other-apart : (e : EndField) → Memᴰ e (join_ends js) → same_end j.other e ≡ false
      other-apart = (repeats-head same_end j.other (join_ends js) rest-once).0

      fit_next : Fit next js
      unfolding join_ends
      fit_next =
          record {
            right = λ x m. f.right x (Memᴰ.tail m);
            once = (repeats-head same_end j.other (join_ends js) rest-once).1;
            free = λ e m. kept e (ends-known js later e m) (head_apart e (Memᴰ.tail m)) (other-apart e m) ∙ f.free e (Memᴰ.tail (Memᴰ.tail m));
          }

      fit-first : faulty r one other ≡ false
      unfolding join_ends
      fit-first =
          or-none _ _ (pair_same r y j k ∙ f.right j (Memᴰ.head refl))
          (rw (f.free j.one (Memᴰ.head refl), f.free j.other (Memᴰ.tail (Memᴰ.head refl))))

    -- the other way round
    module _ (g : Fit next js) (p : faulty r one other ≡ false) where
      parts : (wrong_pair (RR.tied r one) (RR.tied r other) ≡ false) × (not (unjoined (joined r one) && unjoined (joined r other)) ≡ false)
      parts = or-false (wrong_pair (RR.tied r one) (RR.tied r other)) (not (unjoined (joined r one) && unjoined (joined r other))) p

      both-free : (unjoined (joined r one) ≡ true) × (unjoined (joined r other) ≡ true)
      both-free = not-and (unjoined (joined r one)) (unjoined (joined r other)) parts.1

      right-j : wrong_join d j ≡ false
      right-j = sym (pair_same r y j k) ∙ parts.0

      one_apart : (e : EndField) → Memᴰ e (join_ends js) → same_end j.one e ≡ false
      one_apart e m =
          not_same j.one e (λ q. with_nothing (join_first r one other y.sized.links n1 n2)
          (ap (λ (x : EndField). joined next (end_of x)) q ∙ g.free e m))

      two-apart : (e : EndField) → Memᴰ e (join_ends js) → same_end j.other e ≡ false
      two-apart e m =
          not_same j.other e (λ q. with_nothing (join-second r one other y.sized.links n1 n2)
          (ap (λ (x : EndField). joined next (end_of x)) q ∙ g.free e m))

      ends-apart : same_end j.one j.other ≡ false
      ends-apart =
          not_same j.one j.other (λ q. clash (self-wrong d j.other)
          (ap (λ (x : EndField). wrong_pair (tied d x) (tied d j.other)) (sym q) ∙ right-j))

      one-all : (e : EndField) → Memᴰ e (j.other ∷ join_ends js) → same_end j.one e ≡ false
      one-all e (Memᴰ.head q) = rw q ends-apart
      one-all e (Memᴰ.tail m) = one_apart e m

      all-free : (e : EndField) → Memᴰ e (j.one ∷ j.other ∷ join_ends js) → joined r (end_of e) ≡ Nothing
      all-free e (Memᴰ.head q) = rw q (unjoined-is (joined r one) both-free.0)
      all-free e (Memᴰ.tail (Memᴰ.head q)) = rw q (unjoined-is (joined r other) both-free.1)
      all-free e (Memᴰ.tail (Memᴰ.tail m)) = sym (kept e (ends-known js later e m) (one_apart e m) (two-apart e m)) ∙ g.free e m

      fit-more : Fit r (j ∷ js)
      unfolding join_ends
      fit-more =
          record {
            right = every_more (λ j. wrong_join d j ≡ false) j js right-j g.right;
            once = repeats-none same_end j.one (j.other ∷ join_ends js) one-all (repeats-none same_end j.other (join_ends js) two-apart g.once);
            free = all-free;
          }

  pub fit-faults : (js : List JoinLine) (r : Railway) → Ready r → Every (KnownJoin d) js → Fit r js → faults r js ≡ false
  unfolding faults
  fit-faults [] r y h f = refl
  fit-faults (j ∷ js) r y h f =
      or-none _ _ (fit-first r y j js h f) (fit-faults js _ (ready-join r y _ _) (λ x m. h x (Memᴰ.tail m)) (fit_next r y j js h f))

  pub faults-fit : (js : List JoinLine) (r : Railway) → Ready r → Every (KnownJoin d) js → faults r js ≡ false → Fit r js
  unfolding faults join_ends repeats
  faults-fit [] r y h p = record { right = every-none _; once = refl; free = every-none _ }
  faults-fit (j ∷ js) r y h p =
      let e = end_of j.one in
      let f = end_of j.other in
      let q = or-false (faulty r e f) (faults (with_join r e f) js) p in
      fit-more r y j js h (faults-fit js (with_join r e f) (ready-join r y e f) (λ x m. h x (Memᴰ.tail m)) q.1) q.0

  -- what each end is joined to when all are added
  module _ (r : Railway) (y : Ready r) (j : JoinLine) (js : List JoinLine) (h : Every (KnownJoin d) (j ∷ js)) (f : Fit r (j ∷ js)) (e : End) (x : Joined)
      (ih : x ≡ or_joined (partner js (field_of e)) (joined (with_join r (end_of j.one) (end_of j.other)) e)) where
    field_is : (a : EndField) → same_end (field_of e) a ≡ true → e ≡ end_of a
    field_is a p = sym (end-field e) ∙ ap end_of (same-is (field_of e) a p)

    by_cases : (p q : Bool) → same_end (field_of e) j.one ≡ p → same_end (field_of e) j.other ≡ q
        → x ≡ or_joined (cond p (With (end_of j.other)) (cond q (With (end_of j.one)) (partner js (field_of e)))) (joined r e)
    by_cases true q hp hq =
        let z = same-is (field_of e) j.one hp in
        let nothing = partner-none js (field_of e) (any_none (same_end (field_of e)) (join_ends js) (λ c m. rw z (head_apart r y j js h f c (Memᴰ.tail m)))) in
        let u : joined (with_join r (end_of j.one) (end_of j.other)) e ≡ With (end_of j.other) =
        rw (field_is j.one hp) (join_first r _ _ y.sized.links (n1 r y j js h) (n2 r y j js h)) in
        ih ∙ rw (nothing, u)
    by_cases false true hp hq =
        let z = same-is (field_of e) j.other hq in
        let nothing = partner-none js (field_of e) (any_none (same_end (field_of e)) (join_ends js) (λ c m. rw z (other-apart r y j js h f c m))) in
        let u : joined (with_join r (end_of j.one) (end_of j.other)) e ≡ With (end_of j.one) =
        rw (field_is j.other hq) (join-second r _ _ y.sized.links (n1 r y j js h) (n2 r y j js h)) in
        ih ∙ rw (nothing, u)
    by_cases false false hp hq =
        let u : joined (with_join r (end_of j.one) (end_of j.other)) e ≡ joined r e =
        join-rest r _ _ y.sized.links (n1 r y j js h) (n2 r y j js h) e
        (other-than j.one (k r y j js h).0 hp) (other-than j.other (k r y j js h).1 hq) in
        ih ∙ rw u
      where
        other-than : (a : EndField) → known d a ≡ true → same_end (field_of e) a ≡ false → e ≡ end_of a → ⊥
        other-than a q n p = let z : field_of e ≡ a = ap field_of p ∙ field_end a (counted-known a q) in clash (rw z (same_self a)) n

  pub joined-all : (js : List JoinLine) (r : Railway) → Ready r → Every (KnownJoin d) js → Fit r js → (e : End)
      → joined (join_all r js) e ≡ or_joined (partner js (field_of e)) (joined r e)
  unfolding join_all partner
  joined-all [] r y h f e = refl
  joined-all (j ∷ js) r y h f e =
      by_cases r y j js h f e _ (joined-all js _ (ready-join r y _ _) (λ x m. h x (Memᴰ.tail m)) (fit_next r y j js h f) e)
      (same_end (field_of e) j.one) (same_end (field_of e) j.other) refl refl
