-- The test of links as code makes it, on bytes: an index below the number of all ends is that of one end, so what is
-- asked of the end can be asked of its byte. Past that number a byte is no join, and no row finds anything there.
-- Assumes nothing.
use Prim.Native.Nat.{ℕ, zero, suc, ◌+◌, ◌-◌, ◌*◌, ◌/◌, ◌%◌, ◌<◌, ◌≤◌}
use mathlib.Core.Path.{◌≡◌, refl, sym, ◌∙◌, ap}
use mathlib.Core.Logic.{inl, inr}
use mathlib.Core.Bool.{Bool, true, false, cond, not, ◌&&◌, ◌||◌}
use mathlib.Core.List.{List}
use native.Mathlib.Omega.{arith}
use native.Mathlib.Numerals.{add-one}
use lib.Dec.{ltb, leb, eqb}
use lib.ListN.{get_or}
use borrow.Author.Tests.{ltb-true, leb-true, lt-ltb, eqb-true, eqb-false, eq-eqb, ne_eqb, le-leb, lt-leb, le-ltb}
use Rattle.laws.specs.Below.{any_below}
use Rattle.laws.proofs.Bools.{lt?, bool?, same_bool, and-true, either}
use Rattle.laws.proofs.Below.{any_of}
use Rattle.laws.proofs.Filling.{FilledTo}
use Rattle.railway.specs.declared.Side.{Side}
use Rattle.railway.specs.declared.Side.TheVariants.{Up, Down}
use Rattle.railway.specs.declared.Leg.{Leg}
use Rattle.railway.specs.declared.Leg.TheVariants.{Stem, Plus, Minus}
use Rattle.railway.specs.declared.SectionNo.{SectionNo}
use Rattle.railway.specs.declared.End.TheVariants.{Section, Port}
use Rattle.railway.specs.Joined.{Nothing, With}
use Rattle.railway.specs.declared.Legs.{Legs}
use Rattle.railway.specs.declared.Railway.{Railway}
use Rattle.railway.specs.Bounds.{most_points, section_ends, all_ends}
use Rattle.railway.specs.Ends.{opposite, same_side, port_side, side_index, leg_index, side_at, leg_at, end_at}
use Rattle.railway.specs.Record.{is_closed, no_legs, no_link, joined_by, link_at, flag_at, joined, legs_of, side_of}
use Rattle.railway.specs.Rows.{known, unknown_link_at, Owner, of_section, of_point, owner_of, one_owner, tied, wrong_pair}
use Rattle.railway.specs.Rows.{wrong_link_at, leads_to, unreturned_at, unknown_signal_at, unknown_closed_at, unjoined, loose_at}
use Rattle.railway.specs.Rows.{loose_row, longer, most_behind, chained_at, chain_row}
use Rattle.railway.proofs.Ends.{leg-small, index-end, end-section, end-port, port-index}
use Rattle.railway.proofs.Bytes.{byte-there, byte_past}
use Rattle.railway.proofs.Lookups.{joined-there}
use Rattle.railway_acceptance.specs.Answers.{Counts, Sided, seen_at, Looked}

-- ENDS BY THEIR INDEX. Whether the section or point is there
module _ (r : Railway) (ends ports i : ℕ) (c : Counts r ends ports) where
  pub known-section : i < section_ends → ltb i ends ≡ known r (end_at i)
  known-section h =
      rw (end-section i h)
      (same_bool (ltb i ends) (ltb (i / 2) r.sections)
      (λ l. lt-ltb (i / 2) r.sections (omega (arith, ltb-true i ends l, c.sections)))
      (λ l. lt-ltb i ends (omega (arith, ltb-true (i / 2) r.sections l, c.sections))))

  pub known-port : section_ends ≤ i → ltb i ports ≡ known r (end_at i)
  known-port h =
      let n = (i - section_ends) / 3 in
      rw (end-port i h)
      (same_bool (ltb i ports) (ltb n r.points)
      (λ l. lt-ltb n r.points (omega (arith, ltb-true i ports l, c.points)))
      (λ l. lt-ltb i ports (omega (arith, ltb-true n r.points l, c.points))))

-- one section, or one point
module _ (i j : ℕ) where
  abbrev OneOwner : Bool
  OneOwner = one_owner (owner_of (end_at i)) (owner_of (end_at j))

  pub both-sections : i < section_ends → j < section_ends → eqb (i / 2) (j / 2) ≡ OneOwner
  both-sections h g = rw (end-section i h, end-section j g)

  pub section-port : i < section_ends → section_ends ≤ j → false ≡ OneOwner
  section-port h g = rw (end-section i h, end-port j g)

  pub port-section : section_ends ≤ i → j < section_ends → false ≡ OneOwner
  port-section h g = rw (end-port i h, end-section j g)

  pub both-ports : section_ends ≤ i → section_ends ≤ j → eqb ((i - section_ends) / 3) ((j - section_ends) / 3) ≡ OneOwner
  both-ports h g = rw (end-port i h, end-port j g)

-- the side, by its index
side-back : (i : ℕ) (b : Bool) → eqb (i % 2) 0 ≡ b → i % 2 ≡ side_index (cond b Down Up)
side-back i true e = eqb-true (i % 2) 0 e
side-back i false e = let n = eqb-false (i % 2) 0 e in omega arith

pub same_index : (a b : Side) → eqb (side_index a) (side_index b) ≡ same_side a b
same_index Up Up = refl
same_index Up Down = refl
same_index Down Up = refl
same_index Down Down = refl

turned : (s : Side) → (side_index s ≡ 0 → 1 ≡ side_index (opposite s))
    × ((side_index s ≡ 0 → ⊥) → 0 ≡ side_index (opposite s))
turned Up = (λ e. absurd (omega arith), λ e. refl)
turned Down = (λ e. refl, λ e. absurd (e refl))

leg-side : (s : Side) (m : ℕ) → (m ≡ 0 → ⊥) → port_side s (leg_at m) ≡ s
leg-side s m h = rw (ne_eqb m 0 h) (cases (eqb m 1))
  where
    cases : (b : Bool) → port_side s (cond b Plus Minus) ≡ s
    cases true = refl
    cases false = refl

module _ (r : Railway) (i : ℕ) where
  pub side-section : i < section_ends → i % 2 ≡ side_index (side_of r (end_at i))
  side-section h = rw (end-section i h) (side-back i (eqb (i % 2) 0) refl)

  module _ (sides : List ℕ) (h : Sided r sides) (above : section_ends ≤ i) (below : i < all_ends) where
    legs-there : get_or sides ((i - section_ends) / 3) 0 ≡ side_index (legs_of r ((i - section_ends) / 3))
    legs-there = h.each ((i - section_ends) / 3) (omega arith)

    pub stem-of-down : (i - section_ends) % 3 ≡ 0 → get_or sides ((i - section_ends) / 3) 0 ≡ 0
        → 1 ≡ side_index (side_of r (end_at i))
    stem-of-down m e = rw (end-port i above, eq-eqb ((i - section_ends) % 3) 0 m)
        ((turned (legs_of r ((i - section_ends) / 3))).0 (sym legs-there ∙ e))

    pub stem-of-up : (i - section_ends) % 3 ≡ 0 → (get_or sides ((i - section_ends) / 3) 0 ≡ 0 → ⊥)
        → 0 ≡ side_index (side_of r (end_at i))
    stem-of-up m e = rw (end-port i above, eq-eqb ((i - section_ends) % 3) 0 m)
        ((turned (legs_of r ((i - section_ends) / 3))).1 (λ z. e (legs-there ∙ z)))

    pub leg-of : ((i - section_ends) % 3 ≡ 0 → ⊥) → get_or sides ((i - section_ends) / 3) 0 ≡ side_index (side_of r (end_at i))
    leg-of m = rw (end-port i above)
        (legs-there ∙ ap side_index (sym (leg-side (legs_of r ((i - section_ends) / 3)) ((i - section_ends) % 3) m)))

-- LINKS BY THEIR BYTES
leads-byte : (k i : ℕ) → i < all_ends → leads_to (joined_by k) (end_at i) ≡ eqb k i
leads-byte k i h = elim (lt? k all_ends) [
  | inl l ↦ rw (byte-there k l, index-end k l, index-end i h)
  | inr l ↦ rw (byte_past k l) (sym (ne_eqb k i (λ e. omega arith)))
]

module _ (r : Railway) (i j : ℕ) (is : j ≡ get_or r.links i no_link) where
  module _ (none : all_ends ≤ j) where
    unlinked : link_at r i ≡ Nothing
    unlinked = ap joined_by (sym is) ∙ byte_past j none

    pub none-unknown : false ≡ unknown_link_at r i
    none-unknown = rw unlinked

    pub none-wrong : false ≡ wrong_link_at r i
    none-wrong = rw unlinked

    pub none-unreturned : false ≡ unreturned_at r i
    none-unreturned = rw unlinked

  module _ (there : j < all_ends) where
    linked : link_at r i ≡ With (end_at j)
    linked = ap joined_by (sym is) ∙ byte-there j there

    pub link-unknown : (a b : Bool) → a ≡ known r (end_at i) → b ≡ known r (end_at j) → not (a && b) ≡ unknown_link_at r i
    link-unknown a b ha hb = rw (linked, ha, hb)

    pub link-wrong : (x : Bool) → x ≡ wrong_pair (tied r (end_at i)) (tied r (end_at j)) → x ≡ wrong_link_at r i
    link-wrong x h = rw linked h

    pub link-unreturned : i < all_ends → (k : ℕ) → k ≡ get_or r.links j no_link → not (eqb k i) ≡ unreturned_at r i
    link-unreturned h k hk =
        let e : joined r (end_at j) ≡ joined_by k =
        sym (joined-there r (end_at j) j (sym (index-end j there)) there) ∙ ap joined_by (sym hk) in
        rw (linked, e, leads-byte k i h)

-- A LINK THAT IS MET AGAIN is as it was
eqb-turned : (m n : ℕ) → eqb m n ≡ eqb n m
eqb-turned m n =
    same_bool (eqb m n) (eqb n m) (λ h. eq-eqb n m (sym (eqb-true m n h))) (λ h. eq-eqb m n (sym (eqb-true n m h)))

one-turned : (a b : Owner) → one_owner a b ≡ one_owner b a
one-turned (of_section m) (of_section n) = eqb-turned m n
one-turned (of_section m) (of_point n) = refl
one-turned (of_point m) (of_section n) = refl
one-turned (of_point m) (of_point n) = eqb-turned m n

side-turned : (a b : Side) → same_side a b ≡ same_side b a
side-turned Up Up = refl
side-turned Up Down = refl
side-turned Down Up = refl
side-turned Down Down = refl

and-turned : (a b : Bool) → (a && b) ≡ (b && a)
and-turned true true = refl
and-turned true false = refl
and-turned false true = refl
and-turned false false = refl

record Seen (r : Railway) (i : ℕ) : Type 0 where
  other : ℕ
  before : other < i
  unknown : unknown_link_at r i ≡ unknown_link_at r other
  wrong : wrong_link_at r i ≡ wrong_link_at r other
  returned : unreturned_at r i ≡ false

seen_other : (r : Railway) (i : ℕ) → i < all_ends → get_or r.links i no_link < i
    → get_or r.links (get_or r.links i no_link) no_link ≡ i → Seen r i
seen_other r i h l q =
    let j = get_or r.links i no_link in
    let b : j < all_ends = omega arith in
    let x : link_at r i ≡ With (end_at j) = linked r i j refl b in
    let y : link_at r j ≡ With (end_at i) = linked r j i (sym q) h in
    record {
      other = j;
      before = l;
      unknown = rw (x, y) (ap not (and-turned (known r (end_at i)) (known r (end_at j))));
      wrong =
          rw (x, y)
          (ap (λ (c : Bool). c || same_side (side_of r (end_at i)) (side_of r (end_at j)))
          (one-turned (owner_of (end_at i)) (owner_of (end_at j)))
          ∙ ap (λ (c : Bool). one_owner (owner_of (end_at j)) (owner_of (end_at i)) || c)
          (side-turned (side_of r (end_at i)) (side_of r (end_at j))));
      returned = sym (link-unreturned r i j refl b h i (sym q)) ∙ ap not (eq-eqb i i refl);
    }

-- an end in no join
pub loose-byte : (r : Railway) (i j : ℕ) → j ≡ get_or r.links i no_link → leb all_ends j ≡ unjoined (link_at r i)
loose-byte r i j is = rw (← is) (elim (lt? j all_ends) [
  | inl l ↦ rw (byte-there j l) (lt-leb all_ends j l)
  | inr l ↦ rw (byte_past j l) (le-leb all_ends j l)
])

module _ (r : Railway) (n : ℕ) where
  pub port-link : n < most_points → (l : Leg) (i : ℕ) → section_ends + 3 * n + leg_index l ≡ i
      → link_at r i ≡ joined r (Port (record { 0 = n }) l)
  port-link h l i e =
      let x = port-index (Port (record { 0 = n }) l) (record { 0 = n }) l (leg_index l) refl h refl in
      let b = leg-small l in
      joined-there r (Port (record { 0 = n }) l) i (sym e ∙ x) (omega arith)

  pub port-loose : n < most_points → (a b c : Bool) → a ≡ unjoined (link_at r (section_ends + 3 * n))
      → b ≡ unjoined (link_at r (section_ends + 3 * n + 1)) → c ≡ unjoined (link_at r (section_ends + 3 * n + 2))
      → ((a || b) || c) ≡ loose_at r n
  port-loose h a b c ha hb hc =
      let es = port-link h Stem (section_ends + 3 * n) (omega arith) in
      let ep = port-link h Plus (section_ends + 3 * n + 1) refl in
      let em = port-link h Minus (section_ends + 3 * n + 2) refl in
      rw (ha, hb, hc, es, ep, em)

  pub no-port-loose : most_points ≤ n → true ≡ loose_at r n
  unfolding joined
  no-port-loose h = rw (le-ltb n most_points h)

pub points-loose : (r : Railway) (p : ℕ) (u : Bool) → r.points ≡ p → u ≡ any_below (loose_at r) p → u ≡ loose_row r
unfolding loose_row
points-loose r p u e h = h ∙ ap (any_below (loose_at r)) (sym e)

-- A WALK OVER THE LINKS: past no join, or to a section, no point is met; to a port one, and then what is met behind it
no-join-past : (r : Railway) (k : ℕ) → longer r k Nothing ≡ false
unfolding longer
no-join-past r zero = refl
no-join-past r (suc k) = refl

section-past : (r : Railway) (k : ℕ) (n : SectionNo) (s : Side) → longer r k (With (Section n s)) ≡ false
unfolding longer
section-past r zero n s = refl
section-past r (suc k) n s = refl

module _ (r : Railway) (j : ℕ) where
  pub long-section : (k : ℕ) → j < section_ends → false ≡ longer r k (joined_by j)
  long-section k h =
      rw (byte-there j (omega arith), end-section j h) (sym (section-past r k (record { 0 = j / 2 }) (side_at (j % 2))))

  pub long-none : (k : ℕ) → all_ends ≤ j → false ≡ longer r k (joined_by j)
  long-none k h = rw (byte_past j h) (sym (no-join-past r k))

  module _ (above : section_ends ≤ j) (below : j < all_ends) where
    pub long-here : (k : ℕ) → k ≡ 0 → true ≡ longer r k (joined_by j)
    unfolding longer
    long-here k z = rw (z, byte-there j below, end-port j above)

    joined-port : (l : Leg) (i m : ℕ) → section_ends + 3 * ((j - section_ends) / 3) + leg_index l ≡ i
        → m ≡ get_or r.links i no_link → joined r (Port (record { 0 = (j - section_ends) / 3 }) l) ≡ joined_by m
    joined-port l i m e is = sym (port-link r ((j - section_ends) / 3) (omega arith) l i e) ∙ ap joined_by (sym is)

    pub long-stem : (k : ℕ) → (k ≡ 0 → ⊥) → (j - section_ends) % 3 ≡ 0 → (a b : Bool) (m n : ℕ)
        → m ≡ get_or r.links (j + 1) no_link → n ≡ get_or r.links (j + 2) no_link → a ≡ longer r (k - 1) (joined_by m)
        → b ≡ longer r (k - 1) (joined_by n) → (a || b) ≡ longer r k (joined_by j)
    unfolding longer
    long-stem zero z h a b m n hm hn ha hb = absurd (z refl)
    long-stem (suc k) z h a b m n hm hn ha hb =
        let e : suc k - 1 ≡ k = omega arith in
        rw (
          byte-there j below,
          end-port j above,
          eq-eqb ((j - section_ends) % 3) 0 h,
          joined-port Plus (j + 1) m (omega arith) hm,
          joined-port Minus (j + 2) n (omega arith) hn,
          ha,
          hb,
          e,
        )

    pub long-leg : (k : ℕ) → (k ≡ 0 → ⊥) → ((j - section_ends) % 3 ≡ 0 → ⊥) → (a : Bool) (m : ℕ)
        → m ≡ get_or r.links (j - (j - section_ends) % 3) no_link
        → a ≡ longer r (k - 1) (joined_by m) → a ≡ longer r k (joined_by j)
    unfolding longer
    long-leg zero z h a m hm ha = absurd (z refl)
    long-leg (suc k) z h a m hm ha =
        let e : suc k - 1 ≡ k = omega arith in
        let x = joined-port Stem (j - (j - section_ends) % 3) m (omega arith) hm in
        rw (byte-there j below, end-port j above, ne_eqb ((j - section_ends) % 3) 0 h)
        (cases (eqb ((j - section_ends) % 3) 1) (rw (x, ← e) ha))
      where
        cases : (b : Bool) → a ≡ longer r k (joined r (Port (record { 0 = (j - section_ends) / 3 }) Stem))
            → a ≡ longer r (suc k) (With (Port (record { 0 = (j - section_ends) / 3 }) (cond b Plus Minus)))
        cases true q = q
        cases false q = q

module _ (r : Railway) (n : ℕ) where
  pub port-chained : n < most_points → (a b c : Bool) → a ≡ longer r most_behind (link_at r (section_ends + 3 * n))
      → b ≡ longer r most_behind (link_at r (section_ends + 3 * n + 1))
      → c ≡ longer r most_behind (link_at r (section_ends + 3 * n + 2)) → ((a || b) || c) ≡ chained_at r n
  port-chained h a b c ha hb hc =
      let es = port-link r n h Stem (section_ends + 3 * n) (omega arith) in
      let ep = port-link r n h Plus (section_ends + 3 * n + 1) refl in
      let em = port-link r n h Minus (section_ends + 3 * n + 2) refl in
      rw (ha, hb, hc, es, ep, em)

  pub no-port-chained : most_points ≤ n → false ≡ chained_at r n
  unfolding joined
  no-port-chained h = rw (le-ltb n most_points h, no-join-past r most_behind)

pub points-chained : (r : Railway) (p : ℕ) (u : Bool) → r.points ≡ p → u ≡ any_below (chained_at r) p → u ≡ chain_row r
unfolding chain_row
points-chained r p u e h = h ∙ ap (any_below (chained_at r)) (sym e)

-- THE SIDES OF ALL LEGS
pub legs-next : (r : Railway) (legs : List Legs) (p n b : ℕ) → r.legs ≡ legs → r.points ≡ p
    → b ≡ side_index (cond (ltb n p) (get_or legs n no_legs).side Up) → b ≡ side_index (legs_of r n)
unfolding legs_of
legs-next r legs p n b e f h = rw (e, f) h

pub all-sided : (r : Railway) (sides : List ℕ) (n : ℕ) → FilledTo (λ n. side_index (legs_of r n)) most_points sides n
    → most_points ≤ n → Sided r sides
all-sided r sides n h l = record { each = λ m b. h.below m (omega arith) }

and-never : (b : Bool) → (b && false) ≡ false
and-never true = refl
and-never false = refl

and-always : (b : Bool) → (b && true) ≡ b
and-always true = refl
and-always false = refl

pub or_nothing : (b : Bool) → (b || false) ≡ b
or_nothing true = refl
or_nothing false = refl

-- NOTED ON THE WAY: whether some number passes a test, place after place
module _ (f : ℕ → Bool) (i : ℕ) (u : Bool) (h : u ≡ any_below f i) where
  noted-next : (x : Bool) → x ≡ f i → (u || x) ≡ any_below f (i + 1)
  unfolding any_below
  noted-next x hx = rw (add-one i, h, hx)

  noted-not : f i ≡ false → u ≡ any_below f (i + 1)
  unfolding any_below
  noted-not t = rw (add-one i, t) (h ∙ sym (or_nothing (any_below f i)))

  -- what shows at i shows before, or not at all
  noted-before : (j : ℕ) → j < i → f i ≡ f j → u ≡ any_below f (i + 1)
  noted-before j l e = elim (bool? (f j)) [
    | inl t ↦ h ∙ any_of f i j l t ∙ sym (any_of f (i + 1) j (omega arith) t)
    | inr t ↦ noted-not (e ∙ t)
  ]

-- PAST THE COUNTS: signals and closed sections that are there tell nothing, and all others are unknown
section-end-known : (r : Railway) (i : ℕ) → i < section_ends → ltb i (2 * r.sections) ≡ known r (end_at i)
section-end-known r i h =
    known-section r (2 * r.sections) (section_ends + 3 * r.points) i (record { sections = refl; points = refl }) h

module _ (r : Railway) (ends : ℕ) (c : 2 * r.sections ≡ ends) where
  pub signals-known : ends ≤ section_ends → (i : ℕ) → i < ends → unknown_signal_at r i ≡ false
  signals-known h i l =
      rw (← section-end-known r i (omega arith), lt-ltb i (2 * r.sections) (omega arith)) (and-never (flag_at r i))

  pub signal-past : (i : ℕ) → ends ≤ i → i < section_ends → (b : Bool) → b ≡ flag_at r i → b ≡ unknown_signal_at r i
  signal-past i h g b e =
      rw (← section-end-known r i g, le-ltb i (2 * r.sections) (omega arith)) (e ∙ sym (and-always (flag_at r i)))

module _ (r : Railway) (s : ℕ) (c : r.sections ≡ s) where
  pub closed-known : (x : ℕ) → x < s → unknown_closed_at r x ≡ false
  closed-known x l = rw (lt-ltb x r.sections (omega arith)) (and-never (is_closed r x))

  pub closed-past : (x : ℕ) → s ≤ x → (b : Bool) → b ≡ is_closed r x → b ≡ unknown_closed_at r x
  closed-past x h b e = rw (le-ltb x r.sections (omega arith)) (e ∙ sym (and-always (is_closed r x)))

-- the pass over the links
module _ (r : Railway) where
  pub looked-none : Looked r 0 false false false
  unfolding any_below
  looked-none = record { unknown = refl; wrong = refl; unreturned = refl }

  pub looked-next : (i : ℕ) (u w b x y z : Bool) → Looked r i u w b → x ≡ unknown_link_at r i → y ≡ wrong_link_at r i
      → z ≡ unreturned_at r i → Looked r (i + 1) (u || x) (w || y) (b || z)
  looked-next i u w b x y z h hx hy hz =
      record {
        unknown = noted-next (unknown_link_at r) i u h.unknown x hx;
        wrong = noted-next (wrong_link_at r) i w h.wrong y hy;
        unreturned = noted-next (unreturned_at r) i b h.unreturned z hz;
      }

  pub looked-again : (i : ℕ) (u w b x : Bool) → Looked r i u w b → i < all_ends → x ≡ seen_at r i → x ≡ true
      → Looked r (i + 1) u w b
  looked-again i u w b x h l is e =
      let j = get_or r.links i no_link in
      elim (either (leb all_ends j) (ltb j i && eqb (get_or r.links j no_link) i) (sym is ∙ e)) [
        | inl n ↦ without (leb-true all_ends j n)
        | inr n ↦
            let a = and-true (ltb j i) (eqb (get_or r.links j no_link) i) n in
            met (seen_other r i l (ltb-true j i a.0) (eqb-true (get_or r.links j no_link) i a.1))
      ]
    where
      without : all_ends ≤ get_or r.links i no_link → Looked r (i + 1) u w b
      without n =
          record {
            unknown =
                noted-not (unknown_link_at r) i u h.unknown (sym (none-unknown r i (get_or r.links i no_link) refl n));
            wrong = noted-not (wrong_link_at r) i w h.wrong (sym (none-wrong r i (get_or r.links i no_link) refl n));
            unreturned = noted-not (unreturned_at r) i b h.unreturned
                (sym (none-unreturned r i (get_or r.links i no_link) refl n));
          }

      met : Seen r i → Looked r (i + 1) u w b
      met s =
          record {
            unknown = noted-before (unknown_link_at r) i u h.unknown s.other s.before s.unknown;
            wrong = noted-before (wrong_link_at r) i w h.wrong s.other s.before s.wrong;
            unreturned = noted-not (unreturned_at r) i b h.unreturned s.returned;
          }
