-- What the writer says of an accepted record: its description is well formed, and none of rows 3 to 8, 13 and 16 applies to it. Each J line comes from a link at
-- the earlier of its two ends, and links are returned, so no end stands in two J lines; of a port and the end that its link leads to, the earlier has the
-- J line.
-- Assumes nothing.
use Prim.Native.Nat.{ℕ, zero, suc, ◌-◌, ◌/◌, ◌%◌, ◌<◌, ◌≤◌}
use mathlib.Core.Path.{◌≡◌, refl, sym, ◌∙◌, ap}
use mathlib.Core.Logic.{◌⊎◌, inl, inr}
use mathlib.Core.Bool.{Bool, true, false, cond}
use mathlib.Core.List.{List, [], ◌∷◌, ◌++◌, map, Memᴰ}
use mathlib.Core.Option.{none, some}
use native.Mathlib.Omega.{arith}
use lib.Dec.{ltb, eqb}
use borrow.Author.Tests.{eqb-true, eqb-false, eq-eqb, ne_eqb, lt-ltb, ltb-true}
use Rattle.laws.specs.Below.{list_below, gather_below}
use Rattle.laws.specs.Lists.{any, repeats, Every}
use Rattle.laws.proofs.Bools.{clash, not-true, lt?}
use Rattle.laws.proofs.Below.{list_length, list_get, listed, gathered, in-gathered}
use Rattle.laws.proofs.Lists.{any-true, any_none, repeats-gather, repeats-list, map-append}
use Rattle.railway.specs.declared.Side.TheVariants.{Up}
use Rattle.railway.specs.declared.Leg.{Leg}
use Rattle.railway.specs.declared.End.{End}
use Rattle.railway.specs.declared.End.TheVariants.{Section, Port}
use Rattle.railway.specs.Joined.{Joined, Nothing, With}
use Rattle.railway.specs.declared.Train.{Train}
use Rattle.railway.specs.declared.Railway.{Railway}
use Rattle.railway.specs.Bounds.{most_weight, most_sections, section_ends, all_ends}
use Rattle.railway.specs.Ends.{Numbered, side_at, end_index, end_at}
use Rattle.railway.specs.Record.{link_at, flag_at, closed_at, joined, is_closed, legs_of, train_of, weight_of}
use Rattle.railway.specs.Record as R
use Rattle.railway.specs.Rows.{one_owner}
use Rattle.railway.specs.Rows as RR
use Rattle.railway.proofs.Ends.{index-one, index_below, index-end, end-index, end-section}
use Rattle.railway.proofs.Lookups.{joined-there, closed-there}
use Rattle.railway.proofs.Rows.{Right, Accepted, weight-right, known-numbered, joined-known, joined-right, joined_back}
use Rattle.case_file.specs.Form.{EndField, section, port, JoinLine, SignalLine, TrainLine, unsaid_weight}
use Rattle.case_file.specs.Form.{said_weight, Writable, WritableEnd, WritableSignal, WritableWeight, WritableTrain}
use Rattle.case_file.specs.Form.{WellFormed, same_end, same_signal}
use Rattle.case_file.specs.Rows.{wrong_weight_in, within, known, owner_of, side_of, join_ends, closed_in}
use Rattle.case_file.specs.Recording.{field_of, signal_of}
use Rattle.case_file.specs.Writing.{join_from, join_at, signal_at, closed_line_of, written_weight, line_of_train, description_of}
use Rattle.case_file.proofs.Rows.{RightJoin, Laid, Faultless, is-within}
use Rattle.case_file.proofs.Ends.{same_self, not_same, signal-is, field-one, one_end, other-end}

-- the test of row 5 for owners, of the record's ends and of ends as written
more-one : (m n : ℕ) → eqb m n ≡ false → eqb (suc m) (suc n) ≡ false
more-one m n h = ne_eqb (suc m) (suc n) (λ e. eqb-false m n h (omega arith))

one_same : (e f : End) → one_owner (RR.owner_of e) (RR.owner_of f) ≡ false → one_owner (owner_of (field_of e)) (owner_of (field_of f)) ≡ false
one_same (Section m s) (Section n t) h = more-one m.0 n.0 h
one_same (Section m s) (Port n l) h = refl
one_same (Port m l) (Section n s) h = refl
one_same (Port m l) (Port n k) h = more-one m.0 n.0 h

-- of two ends that a join may tie, one has the earlier index
one-owner : (e : End) → one_owner (RR.owner_of e) (RR.owner_of e) ≡ true
one-owner (Section n s) = eq-eqb n.0 n.0 refl
one-owner (Port n l) = eq-eqb n.0 n.0 refl

pub either_first : (e f : End) → Numbered e → Numbered f → one_owner (RR.owner_of e) (RR.owner_of f) ≡ false → (end_index e < end_index f) ⊎ (end_index f < end_index e)
either_first e f a b o = elim (lt? (end_index e) (end_index f)) [
  | inl l ↦ inl l
  | inr l ↦ elim (lt? (end_index f) (end_index e)) [
    | inl k ↦ inr k
    | inr k ↦ let z : e ≡ f = index-one e f a b (omega arith) in clash (one-owner f) (rw z at o)
  ]
]

-- THE WEIGHT that is said by what is written of it: itself; and it can be written
pub weight-said : (w : ℕ) → said_weight (written_weight w) ≡ w
weight-said w = cases (eqb w unsaid_weight) refl
  where
    cases : (p : Bool) → eqb w unsaid_weight ≡ p → said_weight (cond p none (some w)) ≡ w
    cases true h = sym (eqb-true w unsaid_weight h)
    cases false h = refl

weight-small : (w : ℕ) → w ≤ most_weight → WritableWeight (written_weight w)
weight-small w h = cases (eqb w unsaid_weight)
  where
    cases : (p : Bool) → WritableWeight (cond p none (some w))
    cases true = tt
    cases false = omega arith

-- WHERE A LINE COMES FROM. A line that stands there because of a flag.
pub record Noted {A : Type 0} (flag : Bool) (line : A) (x : A) : Type 0 where
  pub on : flag ≡ true
  pub is : x ≡ line

noted : {A : Type 0} (flag : Bool) (line : A) (p : Bool) (x : A) → flag ≡ p → Memᴰ x (cond p (line ∷ []) []) → Noted flag line x
noted flag line true x h (Memᴰ.head q) = record { on = h; is = q }
noted flag line true x h (Memᴰ.tail m) = elim m [ ]
noted flag line false x h m = elim m [ ]

-- it stands there once
one-noted : {A : Type 0} (same : A → A → Bool) (line : A) (p : Bool) → repeats same (cond p (line ∷ []) []) ≡ false
unfolding repeats any
one-noted same line true = refl
one-noted same line false = refl

module _ (r : Railway) where
  pub record Origin (i : ℕ) (j : JoinLine) : Type 0 where
    pub to : End
    pub link : link_at r i ≡ With to
    pub later : i < end_index to
    pub one : j.one ≡ field_of (end_at i)
    pub other : j.other ≡ field_of to

  origin-later : (i : ℕ) (f : End) (p : Bool) (j : JoinLine) → link_at r i ≡ With f → ltb i (end_index f) ≡ p
      → Memᴰ j (cond p (record { one = field_of (end_at i); other = field_of f } ∷ []) []) → Origin i j
  origin-later i f true j l h (Memᴰ.head q) =
      record { to = f; link = l; later = ltb-true i (end_index f) h; one = ap (λ (x : JoinLine). x.one) q; other = ap (λ (x : JoinLine). x.other) q }
  origin-later i f true j l h (Memᴰ.tail m) = elim m [ ]
  origin-later i f false j l h m = elim m [ ]

  origin-link : (i : ℕ) (x : Joined) (j : JoinLine) → link_at r i ≡ x → Memᴰ j (join_from i x) → Origin i j
  origin-link i Nothing j l m = elim m [ ]
  origin-link i (With f) j l m = origin-later i f (ltb i (end_index f)) j l refl m

  pub origin : (i : ℕ) (j : JoinLine) → Memᴰ j (join_at r i) → Origin i j
  origin i j m = origin-link i (link_at r i) j refl m

  pub join_written : (i : ℕ) (f : End) → i < all_ends → link_at r i ≡ With f → i < end_index f
      → Memᴰ (record { one = field_of (end_at i); other = field_of f }) (gather_below (join_at r) all_ends)
  join_written i f b l h = in-gathered (join_at r) all_ends i _ b (rw (l, lt-ltb i (end_index f) h) (Memᴰ.head refl))

  pub signal-origin : (i : ℕ) (g : SignalLine) → Memᴰ g (signal_at r i) → Noted (flag_at r i) (signal_of i) g
  signal-origin i g m = noted (flag_at r i) (signal_of i) (flag_at r i) g refl m

  pub signal-written : (i : ℕ) → i < section_ends → flag_at r i ≡ true → Memᴰ (signal_of i) (gather_below (signal_at r) section_ends)
  signal-written i b l = in-gathered (signal_at r) section_ends i (signal_of i) b (rw l (Memᴰ.head refl))

  pub closed-origin : (x n : ℕ) → Memᴰ n (closed_line_of r x) → Noted (closed_at r x) (suc x) n
  closed-origin x n m = noted (closed_at r x) (suc x) (closed_at r x) n refl m

  pub closed-written : (x : ℕ) → x < most_sections → closed_at r x ≡ true → Memᴰ (suc x) (gather_below (closed_line_of r) most_sections)
  closed-written x b l = in-gathered (closed_line_of r) most_sections x (suc x) b (rw l (Memᴰ.head refl))

-- a G line is known by its index
pub signal-one : (i j : ℕ) → i < section_ends → j < section_ends → signal_of i ≡ signal_of j → i ≡ j
signal-one i j a b e =
    let f : field_of (end_at i) ≡ field_of (end_at j) = rw (end-section i a, end-section j b) (ap (λ (g : SignalLine). section g.number g.side) e) in
    sym (index-end i (omega arith)) ∙ ap end_index (field-one (end_at i) (end_at j) f) ∙ index-end j (omega arith)

join_ends-append : (js ks : List JoinLine) → join_ends (js ++ ks) ≡ join_ends js ++ join_ends ks
unfolding join_ends
join_ends-append [] ks = refl
join_ends-append (j ∷ js) ks = ap (λ (l : List EndField). j.one ∷ j.other ∷ l) (join_ends-append js ks)

join_ends-gather : (f : ℕ → List JoinLine) (k : ℕ) → join_ends (gather_below f k) ≡ gather_below (λ i. join_ends (f i)) k
unfolding gather_below join_ends
join_ends-gather f zero = refl
join_ends-gather f (suc k) = join_ends-append (gather_below f k) (f k) ∙ ap (λ (l : List EndField). l ++ join_ends (f k)) (join_ends-gather f k)

with-one : (x : Joined) (f g : End) → x ≡ With f → x ≡ With g → f ≡ g
with-one x f g p q = cc

module _ (r : Railway) (w : Accepted r) where
  -- a link and what it is looked up as
  pub joined-link : (i : ℕ) (f : End) → i < all_ends → link_at r i ≡ With f → joined r (end_at i) ≡ With f
  joined-link i f b l = sym (joined-there r (end_at i) i (sym (index-end i b)) b) ∙ l

  pub link-joined : (e f : End) → Numbered e → joined r e ≡ With f → link_at r (end_index e) ≡ With f
  link-joined e f n l = joined-there r e (end_index e) refl (index_below e n) ∙ l

  pub link-back : (i : ℕ) (f : End) → i < all_ends → link_at r i ≡ With f → joined r f ≡ With (end_at i)
  link-back i f b l = joined_back r w (end_at i) f (joined-link i f b l)

  -- ENDS IN TWO JOINS: none. An end that the J line of an index names is the earlier of the two, or the later.
  data Named (i : ℕ) (y : EndField) : Type 0 where
    earlier : (f : End) → link_at r i ≡ With f → i < end_index f → y ≡ field_of (end_at i) → Named i y
    later : (f : End) → link_at r i ≡ With f → i < end_index f → y ≡ field_of f → Named i y

  named_in : (js : List JoinLine) (i : ℕ) (y : EndField) → ((j : JoinLine) → Memᴰ j js → Origin r i j) → Memᴰ y (join_ends js) → Named i y
  unfolding join_ends
  named_in [] i y h m = elim m [ ]
  named_in (j ∷ js) i y h (Memᴰ.head p) = let o = h j (Memᴰ.head refl) in earlier o.to o.link o.later (p ∙ o.one)
  named_in (j ∷ js) i y h (Memᴰ.tail (Memᴰ.head p)) = let o = h j (Memᴰ.head refl) in later o.to o.link o.later (p ∙ o.other)
  named_in (j ∷ js) i y h (Memᴰ.tail (Memᴰ.tail m)) = named_in js i y (λ k q. h k (Memᴰ.tail q)) m

  named : (i : ℕ) (y : EndField) → Memᴰ y (join_ends (join_at r i)) → Named i y
  named i y m = named_in (join_at r i) i y (origin r i) m

  index_of : (e f : End) → field_of e ≡ field_of f → end_index e ≡ end_index f
  index_of e f p = ap end_index (field-one e f p)

  apart : (i j : ℕ) (x y : EndField) → i < j → j < all_ends → Named i x → Named j y → x ≡ y → ⊥
  apart i j x y h b (earlier f l k p) (earlier g m n q) e =
      omega (arith, sym (index-end i (omega arith)) ∙ index_of (end_at i) (end_at j) (sym p ∙ e ∙ q) ∙ index-end j (omega arith))
  apart i j x y h b (earlier f l k p) (later g m n q) e =
      omega (arith, sym (index-end i (omega arith)) ∙ index_of (end_at i) g (sym p ∙ e ∙ q))
  apart i j x y h b (later f l k p) (earlier g m n q) e =
      let z : f ≡ end_at j = field-one f (end_at j) (sym p ∙ e ∙ q) in
      let u : joined r (end_at j) ≡ With (end_at i) = rw z at (link-back i f (omega arith) l) in
      let v : g ≡ end_at i = with-one (joined r (end_at j)) g (end_at i) (joined-link j g (omega arith) m) u in
      omega (arith, ap end_index v ∙ index-end i (omega arith))
  apart i j x y h b (later f l k p) (later g m n q) e =
      let z : f ≡ g = field-one f g (sym p ∙ e ∙ q) in
      let u : joined r g ≡ With (end_at i) = rw z at (link-back i f (omega arith) l) in
      let v : end_at i ≡ end_at j = with-one (joined r g) (end_at i) (end_at j) u (link-back j g (omega arith) m) in
      omega (arith, sym (index-end i (omega arith)) ∙ ap end_index v ∙ index-end j (omega arith))

  once-later : (i : ℕ) (f : End) (p : Bool) → i < all_ends → ltb i (end_index f) ≡ p
      → repeats same_end (join_ends (cond p (record { one = field_of (end_at i); other = field_of f } ∷ []) [])) ≡ false
  unfolding join_ends repeats any
  once-later i f false b h = refl
  once-later i f true b h =
      let l = ltb-true i (end_index f) h in
      rw (not_same (field_of (end_at i)) (field_of f) (λ e. omega (arith, sym (index-end i (omega arith)) ∙ index_of (end_at i) f e)))

  once_link : (i : ℕ) (x : Joined) → i < all_ends → repeats same_end (join_ends (join_from i x)) ≡ false
  unfolding join_ends repeats
  once_link i Nothing b = refl
  once_link i (With f) b = once-later i f (ltb i (end_index f)) b refl

  ends-once : repeats same_end (join_ends (gather_below (join_at r) all_ends)) ≡ false
  ends-once =
      rw (join_ends-gather (join_at r) all_ends)
      (repeats-gather same_end (λ i. join_ends (join_at r i)) all_ends (λ i b. once_link i (link_at r i) b)
      (λ i j x y h b m n. not_same x y (apart i j x y h b (named i x m) (named j y n))))

  -- SIGNALS AND SECTIONS NAMED TWICE: none.
  signals-once : repeats same_signal (gather_below (signal_at r) section_ends) ≡ false
  signals-once =
      repeats-gather same_signal (signal_at r) section_ends (λ i b. one-noted same_signal (signal_of i) (flag_at r i))
      (λ i j x y h b m n.
      let p = signal-origin r i x m in
      let q = signal-origin r j y n in
      not-true (same_signal x y) (λ e. omega (arith, h, signal-one i j (omega arith) b (sym p.is ∙ signal-is x y e ∙ q.is))))

  closed-once : repeats eqb (gather_below (closed_line_of r) most_sections) ≡ false
  closed-once =
      repeats-gather eqb (closed_line_of r) most_sections (λ x b. one-noted eqb (suc x) (closed_at r x))
      (λ i j x y h b m n.
      let p = closed-origin r i x m in
      let q = closed-origin r j y n in
      ne_eqb x y (λ e. omega (arith, h, e, p.is, q.is)))

  -- WHAT IS KNOWN
  field-known : (e : End) → RR.known r e ≡ true → known (description_of r) (field_of e) ≡ true
  unfolding description_of
  field-known (Section n s) h = let k = ltb-true n.0 r.sections h in is-within (suc n.0) r.sections (omega arith) (omega arith)
  field-known (Port n l) h = let k = ltb-true n.0 r.points h in is-within (suc n.0) r.points (omega arith) (omega arith)

  side-known : (e : End) → RR.known r e ≡ true → side_of (description_of r) (field_of e) ≡ R.side_of r e
  unfolding description_of
  side-known (Section n s) h = refl
  side-known (Port n l) h =
      let x : suc n.0 - 1 ≡ n.0 = omega arith in
      rw (x, list_get (legs_of r) r.points n.0 Up (ltb-true n.0 r.points h))

  -- a J line: its index, and the link there
  pub record FromLink (j : JoinLine) : Type 0 where
    pub index : ℕ
    pub below : index < all_ends
    pub origin : Origin r index j

  pub from-link : (j : JoinLine) → Memᴰ j (description_of r).joins → FromLink j
  unfolding description_of
  from-link j m = let t = gathered (join_at r) all_ends j m in record { index = t.index; below = t.below; origin = origin r t.index j t.there }

  link-ends : (j : JoinLine) (t : FromLink j) → (RR.known r (end_at t.index) ≡ true) × (RR.known r t.origin.to ≡ true)
  link-ends j t = w.link-known t.index t.origin.to t.below t.origin.link

  join-known : (j : JoinLine) → Memᴰ j (description_of r).joins → (known (description_of r) j.one ≡ true) × (known (description_of r) j.other ≡ true)
  join-known j m =
      let t = from-link j m in
      let k = link-ends j t in
      (rw t.origin.one (field-known (end_at t.index) k.0), rw t.origin.other (field-known t.origin.to k.1))

  right_by : (j : JoinLine) (e f : End) → j.one ≡ field_of e → j.other ≡ field_of f → RR.known r e ≡ true → RR.known r f ≡ true → Right r e f → RightJoin (description_of r) j
  right_by j e f p q ke kf t =
      record {
        not-one = rw (p, q) (one_same e f t.not-one);
        sides = rw (p, q, side-known e ke, side-known f kf) t.sides;
      }

  join-right : (j : JoinLine) → Memᴰ j (description_of r).joins → RightJoin (description_of r) j
  join-right j m =
      let t = from-link j m in
      let o = t.origin in
      let k = link-ends j t in
      right_by j (end_at t.index) o.to o.one o.other k.0 k.1 (w.link-right t.index o.to t.below o.link)

  -- EVERY END THAT IS JOINED IS IN A J LINE, the one of the earlier of the two ends; and every port is joined
  joined-named : (e f : End) → joined r e ≡ With f → any (same_end (field_of e)) (join_ends (description_of r).joins) ≡ true
  unfolding description_of
  joined-named e f l =
      let k = joined-known r w e f l in
      let n = known-numbered r w e k.0 in
      let m = known-numbered r w f k.1 in
      elim (either_first e f n m (joined-right r w e f l).not-one) [
        | inl h ↦
            let line = join_written r (end_index e) f (index_below e n) (link-joined e f n l) h in
            any-true (same_end (field_of e)) _ (field_of (end_at (end_index e))) (one_end _ _ line) (rw (end-index e n) (same_self (field_of e)))
        | inr h ↦
            let line = join_written r (end_index f) e (index_below f m) (link-joined f e m (joined_back r w e f l)) h in
            any-true (same_end (field_of e)) _ (field_of e) (other-end _ _ line) (same_self (field_of e))
      ]

  link-named : (e : End) (x : Joined) → (joined r e ≡ Nothing → ⊥) → joined r e ≡ x → any (same_end (field_of e)) (join_ends (description_of r).joins) ≡ true
  link-named e Nothing h l = absurd (h l)
  link-named e (With f) h l = joined-named e f l

  port-joined : (n : ℕ) (l : Leg) → n < r.points → any (same_end (port (suc n) l)) (join_ends (description_of r).joins) ≡ true
  port-joined n l b = let e = Port (record { 0 = n }) l in link-named e (joined r e) (w.port-joined n l b) refl

  -- TRAINS
  pub from-train : (P : TrainLine → Type 0) → ((t : ℕ) → t < r.trains → P (line_of_train (train_of r t))) → Every P (description_of r).roster
  unfolding description_of
  from-train P h t m = let k = listed (λ t. line_of_train (train_of r t)) r.trains t m in rw k.is (h k.index k.below)

  pub from-flag : (P : SignalLine → Type 0) → ((i : ℕ) → i < section_ends → flag_at r i ≡ true → P (signal_of i)) → Every P (description_of r).signals
  unfolding description_of
  from-flag P h g m =
      let t = gathered (signal_at r) section_ends g m in
      let o = signal-origin r t.index g t.there in
      rw o.is (h t.index t.below o.on)

  pub from-closed : (P : ℕ → Type 0) → ((x : ℕ) → x < most_sections → closed_at r x ≡ true → P (suc x)) → Every P (description_of r).closed
  unfolding description_of
  from-closed P h n m =
      let t = gathered (closed_line_of r) most_sections n m in
      let o = closed-origin r t.index n t.there in
      rw o.is (h t.index t.below o.on)

  -- a section that is in use is in no X line
  not-closed : (x : ℕ) → is_closed r x ≡ false → closed_in (description_of r) (suc x) ≡ false
  not-closed x h =
      any_none (eqb (suc x)) (description_of r).closed
      (from-closed (λ n. eqb (suc x) n ≡ false)
      (λ y b l. ne_eqb (suc x) (suc y) (λ e. let z : x ≡ y = omega arith in clash (sym (closed-there r y b) ∙ l) (rw z at h))))

  map-list : {A B : Type 0} (p : A → B) (f : ℕ → A) (k : ℕ) → map p (list_below f k) ≡ list_below (λ i. p (f i)) k
  unfolding list_below
  map-list p f zero = refl
  map-list p f (suc k) = map-append p (list_below f k) (f k ∷ []) ∙ ap (λ (l : List _). l ++ (p (f k) ∷ [])) (map-list p f k)

  no-repeat : (p : TrainLine → ℕ) (q : Train → ℕ) → ((t : Train) → p (line_of_train t) ≡ suc (q t))
      → ((t u : ℕ) → u < t → t < r.trains → q (train_of r u) ≡ q (train_of r t) → ⊥) → repeats eqb (map p (description_of r).roster) ≡ false
  unfolding description_of
  no-repeat p q h e =
      rw (map-list p (λ t. line_of_train (train_of r t)) r.trains)
      (repeats-list eqb (λ t. p (line_of_train (train_of r t))) r.trains
      (λ u t a b. ne_eqb (p (line_of_train (train_of r u))) (p (line_of_train (train_of r t))) (λ z. e t u a b (omega (arith, h (train_of r u), h (train_of r t))))))

  -- a section end with a signal has a section that is there
  flag-section : (i : ℕ) → i < section_ends → flag_at r i ≡ true → i / 2 < r.sections
  flag-section i b l =
      let k : RR.known r (Section (record { 0 = i / 2 }) (side_at (i % 2))) ≡ true = rw (end-section i b) at (w.signal-known i b l) in
      ltb-true (i / 2) r.sections k

  -- a train's weight is one that a train may have, and so is what its T line says
  no-wrong : (t : ℕ) → t < r.trains → wrong_weight_in (line_of_train (train_of r t)) ≡ false
  unfolding weight_of
  no-wrong t h =
      let k = w.weights t h in
      rw (weight-said (train_of r t).weight) (weight-right (train_of r t).weight k.0 k.1)

  laid : Laid (description_of r)
  unfolding description_of
  laid = record { bounds = w.bounds; join-known = join-known; join-right = join-right; ends-once = ends-once; port-joined = port-joined }

  pub faultless : Faultless (description_of r)
  unfolding description_of
  faultless =
      record {
        laid = laid;
        weights = from-train (λ t. wrong_weight_in t ≡ false) (λ t h. no-wrong t h);
        signal-known =
            from-flag (λ g. within g.number r.sections ≡ true)
            (λ i b l. let k = flag-section i b l in is-within (suc (i / 2)) r.sections (omega arith) (omega arith));
        closed-known =
            from-closed (λ n. within n r.sections ≡ true)
            (λ x b l. let k = w.closed-known x b (sym (closed-there r x b) ∙ l) in is-within (suc x) r.sections (omega arith) (omega arith));
        train-known =
            from-train (λ t. (within t.start r.sections ≡ true) × (within t.destination r.sections ≡ true))
            (λ t h.
            let k = w.train-known t h in
            (is-within (suc (train_of r t).start.0) r.sections (omega arith) (omega arith), is-within (suc (train_of r t).destination.0) r.sections (omega arith) (omega arith)));
        signals-once = signals-once;
        closed-once = closed-once;
        starts = no-repeat (λ t. t.start) (λ t. t.start.0) (λ t. refl) w.starts;
        destinations = no-repeat (λ t. t.destination) (λ t. t.destination.0) (λ t. refl) w.destinations;
        places-kept =
            from-train (λ t. (closed_in (description_of r) t.start ≡ false) × (closed_in (description_of r) t.destination ≡ false))
            (λ t h. let k = w.places-kept t h in (not-closed (train_of r t).start.0 k.0, not-closed (train_of r t).destination.0 k.1));
      }

  -- WELL FORMED
  field-small : (e : End) → RR.known r e ≡ true → WritableEnd (field_of e)
  field-small (Section n s) h = let b = w.bounds in let k = ltb-true n.0 r.sections h in omega arith
  field-small (Port n l) h = let b = w.bounds in let k = ltb-true n.0 r.points h in omega arith

  small : (t : ℕ) → t < r.trains → WritableWeight (written_weight (train_of r t).weight)
  unfolding weight_of
  small t h = weight-small (train_of r t).weight (w.weights t h).1

  pub well-formed : WellFormed (description_of r)
  unfolding description_of
  well-formed =
      let b = w.bounds in
      record {
        sections = omega arith;
        points = omega arith;
        trains = omega arith;
        joins = λ j m.
            let t = from-link j m in
            let k = link-ends j t in
            (rw t.origin.one (field-small (end_at t.index) k.0), rw t.origin.other (field-small t.origin.to k.1));
        signals = from-flag WritableSignal (λ i h l. omega arith);
        closed = from-closed Writable (λ x h l. omega arith);
        roster = from-train WritableTrain (λ t h. let k = w.train-known t h in (omega arith, omega arith, small t h));
        one-a-point = list_length (legs_of r) r.points;
        one-a-train = list_length (λ t. line_of_train (train_of r t)) r.trains;
      }
