-- The round trip. An accepted record has what its own written lines say, field by field, as has the railway read from them; and two records that
-- have what the same lines say are the same railway. So that railway is accepted as the record is, and row 13 does not apply to its lines.
-- Assumes nothing.
use Prim.Native.Nat.{ℕ, suc, ◌<◌}
use mathlib.Core.Path.{◌≡◌, refl, sym, ◌∙◌, ap}
use mathlib.Core.Logic.{inl, inr}
use mathlib.Core.Bool.{Bool, true, false}
use mathlib.Core.List.{Memᴰ}
use native.Mathlib.Omega.{arith}
use lib.ListN.{get_or}
use Rattle.laws.specs.Below.{list_below, gather_below}
use Rattle.laws.proofs.Below.{list_same, gather-same, list_get}
use Rattle.railway.specs.declared.Side.{Side}
use Rattle.railway.specs.declared.Side.TheVariants.{Up}
use Rattle.railway.specs.declared.End.{End}
use Rattle.railway.specs.Joined.{Joined, Nothing, With}
use Rattle.railway.specs.declared.Train.{Train}
use Rattle.railway.specs.declared.Railway.{Railway}
use Rattle.railway.specs.Bounds.{most_sections, section_ends, all_ends}
use Rattle.railway.specs.Ends.{end_index, end_at}
use Rattle.railway.specs.Record.{joined, has_signal, is_closed, legs_of, train_of}
use Rattle.railway.specs.Same.{SameRailway}
use Rattle.railway.proofs.Ends.{end-index, index_below, index-end, numbered_of}
use Rattle.railway.proofs.Lookups.{joined-there, signal-there, closed-there, Flagged, signal-flag}
use Rattle.railway.proofs.Rows.{Accepted, no-chain, accepted-facts, facts-accepted, known-numbered, joined-known, joined-right, joined_back}
use Rattle.railway.proofs.Same.{refusal-same, same-sym, same-trans}
use Rattle.case_file.specs.Form.{EndField, section, TrainLine, Description, spell, Describes}
use Rattle.case_file.specs.Rows.{chain_row}
use Rattle.case_file.specs.Recording.{field_of, signal_of, no_train_line, railway_of}
use Rattle.case_file.specs.Writing.{join_at, signal_at, closed_line_of, line_of_train, description_of, written_text}
use Rattle.case_file.specs.Given.{accepted}
use Rattle.case_file.specs.Reading.{case_answer}
use Rattle.case_file.specs.Claims.{Names, Joins, Signals, TrainSaid, AsDescribed, WrittenAsDescribed, RoundTrip, SameRefusal, SameText, TextSame}
use Rattle.case_file.proofs.Given.{accepted-exactly, accepted-one}
use Rattle.case_file.proofs.Rows.{facts-faultless}
use Rattle.case_file.proofs.Ends.{field-one}
use Rattle.case_file.proofs.Recording.{closed-flag, names-field, names-is, signal-names, as-described}
use Rattle.case_file.proofs.Writing.{either_first, from-link, from-flag, from-closed, join_written, signal-written}
use Rattle.case_file.proofs.Writing.{closed-written, weight-said, joined-link, link-joined, link-back, faultless}
use Rattle.case_file.proofs.Writing.{well-formed}
use Rattle.case_file.proofs.Lengths.{short}

-- THE SAME LINES, THE SAME RAILWAY
joined-one : (x y : Joined) → ((f : End) → x ≡ With f → y ≡ With f) → ((f : End) → y ≡ With f → x ≡ With f) → x ≡ y
joined-one Nothing Nothing p q = refl
joined-one Nothing (With g) p q = q g refl
joined-one (With f) y p q = sym (p f refl)

bool-one : (a b : Bool) → (a ≡ true → b ≡ true) → (b ≡ true → a ≡ true) → a ≡ b
bool-one true b p q = sym (p refl)
bool-one false true p q = q refl
bool-one false false p q = refl

roster-one : (t : TrainLine) (a b : Train) → TrainSaid t a → TrainSaid t b → a ≡ b
roster-one t a b p q =
    let s : a.start.0 ≡ b.start.0 = omega (arith, p.start, q.start) in
    let d : a.destination.0 ≡ b.destination.0 = omega (arith, p.destination, q.destination) in
    parts a.heading b.heading a.start.0 b.start.0 a.destination.0 b.destination.0 a.weight b.weight (p.heading ∙ sym q.heading) s d (p.weight ∙ sym q.weight)
  where
    parts : (g h : Side) (m n k l v w : ℕ) → g ≡ h → m ≡ n → k ≡ l → v ≡ w
        → ◌≡◌ {A = Train} (record { heading = g; start = record { 0 = m }; destination = record { 0 = k }; weight = v })
        (record { heading = h; start = record { 0 = n }; destination = record { 0 = l }; weight = w })
    parts g h m n k l v w x y z u = rw (x, y, z, u)

module _ (d : Description) (r q : Railway) (t : AsDescribed d r) (u : AsDescribed d q) where
  joined-described : (e : End) → joined r e ≡ joined q e
  joined-described e =
      joined-one (joined r e) (joined q e) (λ f h. (u.joins e f).1 ((t.joins e f).0 h)) (λ f h. (t.joins e f).1 ((u.joins e f).0 h))

  signal-described : (e : End) → has_signal r e ≡ has_signal q e
  signal-described e =
      bool-one (has_signal r e) (has_signal q e) (λ h. (u.signals e).1 ((t.signals e).0 h)) (λ h. (t.signals e).1 ((u.signals e).0 h))

  closed-described : (x : ℕ) → is_closed r x ≡ is_closed q x
  closed-described x =
      bool-one (is_closed r x) (is_closed q x) (λ h. (u.closed x).1 ((t.closed x).0 h)) (λ h. (t.closed x).1 ((u.closed x).0 h))

  pub described-same : SameRailway r q
  described-same =
      record {
        sections = t.sections ∙ sym u.sections;
        points = t.points ∙ sym u.points;
        trains = t.trains ∙ sym u.trains;
        legs = λ n h. let b : n < d.points = rw t.points at h in t.legs n b ∙ sym (u.legs n b);
        joins = λ i h.
            let x = sym (index-end i h) in
            joined-there r (end_at i) i x h ∙ joined-described (end_at i) ∙ sym (joined-there q (end_at i) i x h);
        signals = λ i h.
            let x = sym (index-end i (omega arith)) in
            signal-there r (end_at i) i x h ∙ signal-described (end_at i) ∙ sym (signal-there q (end_at i) i x h);
        closed = λ x h. closed-there r x h ∙ closed-described x ∙ sym (closed-there q x h);
        roster = λ n h. let b : n < d.trains = rw t.trains at h in roster-one (get_or d.roster n no_train_line) (train_of r n) (train_of q n) (t.roster n b) (u.roster n b);
      }

-- WHAT THE WRITER SAYS OF A RECORD
module _ (r : Railway) (w : Accepted r) where
  joins-described : (e f : End) → joined r e ≡ With f → Joins (description_of r).joins e f
  unfolding description_of
  joins-described e f h =
      let k = joined-known r w e f h in
      let n = known-numbered r w e k.0 in
      let m = known-numbered r w f k.1 in
      elim (either_first e f n m (joined-right r w e f h).not-one) [
        | inl l ↦
            record {
              join = _;
              member = join_written r (end_index e) f (index_below e n) (link-joined r w e f n h) l;
              ties = inl (rw (end-index e n) (names-field e), names-field f);
            }
        | inr l ↦
            record {
              join = _;
              member = join_written r (end_index f) e (index_below f m) (link-joined r w f e m (joined_back r w e f h)) l;
              ties = inr (rw (end-index f m) (names-field f), names-field e);
            }
      ]

  -- an end that is named as another is, is that end
  named-one : (a : EndField) (e f : End) → Names a e → a ≡ field_of f → e ≡ f
  named-one a e f n p = field-one e f (sym (names-is a e n) ∙ p)

  described-joins : (e f : End) → Joins (description_of r).joins e f → joined r e ≡ With f
  described-joins e f t =
      let c = from-link r w t.join t.member in
      let o = c.origin in
      elim t.ties [
        | inl h ↦ rw (named-one t.join.one e (end_at c.index) h.0 o.one, named-one t.join.other f o.to h.1 o.other) (joined-link r w c.index o.to c.below o.link)
        | inr h ↦ rw (named-one t.join.one f (end_at c.index) h.0 o.one, named-one t.join.other e o.to h.1 o.other) (link-back r w c.index o.to c.below o.link)
      ]

  signals-described : (e : End) → Flagged r e → Signals (description_of r).signals e
  unfolding description_of
  signals-described e t =
      record {
        signal = signal_of (end_index e);
        member = signal-written r (end_index e) t.below t.flag;
        names = rw (end-index e (numbered_of e (omega (arith, t.below)))) at (signal-names (end_index e) t.below);
      }

  described-signals : (e : End) → Signals (description_of r).signals e → has_signal r e ≡ true
  described-signals e t =
      from-flag r w (λ g. Names (section g.number g.side) e → has_signal r e ≡ true)
      (λ i b l n.
      let z : e ≡ end_at i = field-one e (end_at i) (sym (names-is (section (signal_of i).number (signal_of i).side) e n)
      ∙ names-is (section (signal_of i).number (signal_of i).side) (end_at i) (signal-names i b)) in
      sym (signal-there r e i (sym (ap end_index z ∙ index-end i (omega arith))) b) ∙ l)
      t.signal t.member t.names

  shut-described : (x : ℕ) → is_closed r x ≡ true → Memᴰ (suc x) (description_of r).closed
  unfolding description_of
  shut-described x h = let k = closed-flag r x h in closed-written r x k.0 k.1

  described-shut : (x : ℕ) → Memᴰ (suc x) (description_of r).closed → is_closed r x ≡ true
  described-shut x m =
      from-closed r w (λ n. n ≡ suc x → is_closed r x ≡ true)
      (λ y b l e. let z : x ≡ y = omega arith in rw z (sym (closed-there r y b) ∙ l)) (suc x) m refl

  roster-described : (t : ℕ) → t < r.trains → TrainSaid (get_or (description_of r).roster t no_train_line) (train_of r t)
  unfolding description_of
  roster-described t h =
      rw (list_get (λ t. line_of_train (train_of r t)) r.trains t no_train_line h)
      (record { heading = refl; start = refl; destination = refl; weight = sym (weight-said (train_of r t).weight) })

  pub self-described : AsDescribed (description_of r) r
  unfolding description_of
  self-described =
      record {
        sections = refl;
        points = refl;
        trains = refl;
        legs = λ n h. sym (list_get (legs_of r) r.points n Up h);
        joins = λ e f. (joins-described e f, described-joins e f);
        signals = λ e. (λ h. signals-described e (signal-flag r e h), described-signals e);
        closed = λ x. (shut-described x, described-shut x);
        roster = roster-described;
      }

  pub described : Describes (written_text r) (description_of r)
  unfolding written_text
  described = record { well-formed = well-formed r w; spelling = refl }

  same : SameRailway r (railway_of (description_of r))
  same = described-same (description_of r) r (railway_of (description_of r)) self-described (as-described (description_of r) (faultless r w) (well-formed r w))

  unchained : chain_row (description_of r) ≡ false
  unchained =
      let q = railway_of (description_of r) in
      no-chain q (accepted-facts q (sym (refusal-same r q same) ∙ facts-accepted r w))

  trip : case_answer (written_text r) ≡ accepted (railway_of (description_of r))
  unfolding written_text
  trip =
      let d = description_of r in
      (accepted-exactly (written_text r) (railway_of d)).1
      (record { short = short r w; description = d; described = described; no_row = facts-faultless d (faultless r w) unchained; railway = refl })

pub written-as-described : WrittenAsDescribed
written-as-described r e = let w = accepted-facts r e in (description_of r, described r w, self-described r w)

pub round_trip : RoundTrip
round_trip r e = let w = accepted-facts r e in (railway_of (description_of r), trip r w, same r w)

-- THE SAME RAILWAY, THE SAME TEXT
description-same : (r q : Railway) → SameRailway r q → description_of r ≡ description_of q
unfolding description_of
description-same r q h =
    let a : list_below (legs_of r) r.points ≡ list_below (legs_of q) r.points = list_same (legs_of r) (legs_of q) r.points h.legs in
    let b : gather_below (join_at r) all_ends ≡ gather_below (join_at q) all_ends
    = gather-same (join_at r) (join_at q) all_ends (λ i l. (let z = h.joins i l in rw z)) in
    let c : gather_below (signal_at r) section_ends ≡ gather_below (signal_at q) section_ends
    = gather-same (signal_at r) (signal_at q) section_ends (λ i l. (let z = h.signals i l in rw z)) in
    let s : gather_below (closed_line_of r) most_sections ≡ gather_below (closed_line_of q) most_sections
    = gather-same (closed_line_of r) (closed_line_of q) most_sections (λ x l. (let z = h.closed x l in rw z)) in
    let e : list_below (λ t. line_of_train (train_of r t)) r.trains ≡ list_below (λ t. line_of_train (train_of q t)) r.trains
    = list_same (λ t. line_of_train (train_of r t)) (λ t. line_of_train (train_of q t)) r.trains (λ t l. ap line_of_train (h.roster t l)) in
    rw (a, b, c, s, e, h.sections, h.points, h.trains)

pub same-refusal : SameRefusal
same-refusal r q h = refusal-same r q h

pub same-text : SameText
unfolding written_text
same-text r q h = ap spell (description-same r q h)

pub text_same : TextSame
text_same r q a b e =
    let x = round_trip r a in
    let y = round_trip q b in
    let z : x.0 ≡ y.0 = accepted-one (written_text r) x.0 y.0 x.1 (rw e y.1) in
    same-trans (rw z at x.2) (same-sym y.2)
