-- The railway of an accepted description is accepted as a record. Every link comes from a J line, every flag from a G or an X line and every train from a
-- T line, so what the rows say of the lines they say of the record; a link is returned because its J line joins both its ends. Row 13 judges the record anyway.
-- Assumes nothing.
use Prim.Native.Nat.{ℕ, suc, ◌-◌, ◌/◌, ◌<◌, ◌≤◌}
use mathlib.Core.Path.{◌≡◌, refl, sym, ◌∙◌, ap}
use mathlib.Core.Logic.{inl, inr}
use mathlib.Core.Bool.{true, false}
use mathlib.Core.List.{map}
use mathlib.Core.Option.{none}
use native.Mathlib.Omega.{arith}
use lib.Dec.{eqb}
use lib.ListN.{get_or, length-map, get_or-map}
use borrow.Author.Tests.{eqb-true, eqb-false, eq-eqb, ne_eqb, lt-ltb}
use Rattle.laws.specs.Lists.{repeats}
use Rattle.laws.proofs.Bools.{clash, lt?}
use Rattle.laws.proofs.Below.{any_false}
use Rattle.laws.proofs.Lists.{any_found, get_or-member, repeats-apart}
use Rattle.railway.specs.declared.Side.{Side}
use Rattle.railway.specs.declared.Side.TheVariants.{Up, Down}
use Rattle.railway.specs.declared.Leg.{Leg}
use Rattle.railway.specs.declared.End.{End}
use Rattle.railway.specs.declared.End.TheVariants.{Port}
use Rattle.railway.specs.Joined.{Nothing, With}
use Rattle.railway.specs.declared.Train.{Train}
use Rattle.railway.specs.declared.Railway.{Railway}
use Rattle.railway.specs.Bounds.{least_weight, most_weight, most_sections, section_ends, all_ends}
use Rattle.railway.specs.Ends.{same_side, port_side, end_index, end_at}
use Rattle.railway.specs.Record.{link_at, flag_at, closed_at, joined, is_closed, train_of, weight_of}
use Rattle.railway.specs.Record as R
use Rattle.railway.specs.Rows.{Owner, of_section, of_point, one_owner, longer, most_behind, chained_at, record_refusal}
use Rattle.railway.specs.Rows as RR
use Rattle.railway.proofs.Ends.{end-section}
use Rattle.railway.proofs.Lookups.{closed-there, closed_none}
use Rattle.railway.proofs.Rows.{Right, Laid as LaidRecord, Accepted, right-weight, no-leg, facts-accepted}
use Rattle.case_file.specs.Form.{EndField, section, port, SignalLine, TrainLine, Description, WellFormed, said_weight, same_signal}
use Rattle.case_file.specs.Rows.{known, owner_of, side_of, chain_row, closed_in}
use Rattle.case_file.specs.Recording.{end_of, field_of, partner, signal_of, train_of_line, no_train_line, railway_of}
use Rattle.case_file.specs.Claims.{AcceptedAgain}
use Rattle.case_file.proofs.Given.{accepted-exactly}
use Rattle.case_file.proofs.Rows.{Laid, Faultless, faultless-facts, chain-free, within-is}
use Rattle.case_file.proofs.Ends.{signal-is, end-field, field_end, one_same, Ties, forth, back, partner-ties, partner-one, partner-other, partner-nothing}
use Rattle.case_file.proofs.Recording.{link-at, flag-at, closed-at, legs-at, roster-at, joined_at, counted-end, numbered-end, joinable, roster-known}

-- the tests of row 5, turned round
one-turned : (a b : Owner) → one_owner a b ≡ false → one_owner b a ≡ false
one-turned (of_section m) (of_section n) h = ne_eqb n m (λ e. eqb-false m n h (sym e))
one-turned (of_section m) (of_point n) h = refl
one-turned (of_point m) (of_section n) h = refl
one-turned (of_point m) (of_point n) h = ne_eqb n m (λ e. eqb-false m n h (sym e))

side-turned : (s t : Side) → same_side s t ≡ false → same_side t s ≡ false
side-turned Up Up h = h
side-turned Up Down h = refl
side-turned Down Up h = refl
side-turned Down Down h = h

module _ (d : Description) (w : Laid d) where
  known-end : (a : EndField) → known d a ≡ true → RR.known (railway_of d) (end_of a) ≡ true
  unfolding railway_of
  known-end (section n s) h = let k = within-is n d.sections h in lt-ltb (n - 1) d.sections (omega arith)
  known-end (port n l) h = let k = within-is n d.points h in lt-ltb (n - 1) d.points (omega arith)

  side-end : (a : EndField) → known d a ≡ true → R.side_of (railway_of d) (end_of a) ≡ side_of d a
  side-end (section n s) h = refl
  side-end (port n l) h = let k = within-is n d.points h in ap (λ (s : Side). port_side s l) (legs-at d (n - 1) (omega arith) w.bounds.few-points)

  right_end : (a b : EndField) → known d a ≡ true → known d b ≡ true → one_owner (owner_of a) (owner_of b) ≡ false
      → same_side (side_of d a) (side_of d b) ≡ false → partner d.joins b ≡ With (end_of a) → Right (railway_of d) (end_of a) (end_of b)
  right_end a b ka kb o s t =
      record {
        not-one = one_same a b (counted-end d w a ka) (counted-end d w b kb) ∙ o;
        sides = rw (side-end a ka, side-end b kb) s;
        back = rw (joined_at d (joinable d w) (end_of b) (numbered-end d w b kb), field_end b (counted-end d w b kb), t) (eq-eqb (end_index (end_of a)) (end_index (end_of a)) refl);
      }

  tied-known : (a : EndField) (x : End) → Ties d.joins a x → (RR.known (railway_of d) (end_of a) ≡ true) × (RR.known (railway_of d) x ≡ true)
  tied-known a x (forth j m p q) = let k = w.join-known j m in (rw p (known-end j.one k.0), rw q (known-end j.other k.1))
  tied-known a x (back j m p q) = let k = w.join-known j m in (rw p (known-end j.other k.1), rw q (known-end j.one k.0))

  tied-right : (a : EndField) (x : End) → Ties d.joins a x → Right (railway_of d) (end_of a) x
  tied-right a x (forth j m p q) =
      let k = w.join-known j m in
      let r = w.join-right j m in
      rw (p, q) (right_end j.one j.other k.0 k.1 r.not-one r.sides (partner-other d.joins j w.ends-once m))
  tied-right a x (back j m p q) =
      let k = w.join-known j m in
      let r = w.join-right j m in
      rw (p, q)
      (right_end j.other j.one k.1 k.0 (one-turned (owner_of j.one) (owner_of j.other) r.not-one)
      (side-turned (side_of d j.one) (side_of d j.other) r.sides) (partner-one d.joins j w.ends-once m))

  ties-at : (i : ℕ) (x : End) → i < all_ends → link_at (railway_of d) i ≡ With x → Ties d.joins (field_of (end_at i)) x
  ties-at i x h l = partner-ties d.joins (field_of (end_at i)) x (sym (link-at d (joinable d w) i h) ∙ l)

  port-joined : (n : ℕ) (l : Leg) → n < d.points → joined (railway_of d) (Port (record { 0 = n }) l) ≡ Nothing → ⊥
  port-joined n l h e =
      let b = w.bounds in
      clash (w.port-joined n l h)
      (partner-nothing d.joins (port (suc n) l) (sym (joined_at d (joinable d w) (Port (record { 0 = n }) l) (omega arith)) ∙ e))

  -- so what rows 3 to 6 leave of the lines they leave of the record
  pub laid-record : LaidRecord (railway_of d)
  unfolding railway_of
  laid-record =
      record {
        bounds = w.bounds;
        link-known = λ i x h l. let k = tied-known (field_of (end_at i)) x (ties-at i x h l) in (rw end-field at k.0, k.1);
        link-right = λ i x h l. rw end-field at (tied-right (field_of (end_at i)) x (ties-at i x h l));
        port-joined = port-joined;
      }

module _ (d : Description) (w : Faultless d) where
  signal-known : (i : ℕ) → i < section_ends → flag_at (railway_of d) i ≡ true → RR.known (railway_of d) (end_at i) ≡ true
  unfolding railway_of
  signal-known i h l =
      let f = any_found (same_signal (signal_of i)) d.signals (sym (flag-at d i h) ∙ l) in
      let e = ap (λ (g : SignalLine). g.number) (signal-is (signal_of i) f.element f.passes) in
      let k = within-is f.element.number d.sections (w.signal-known f.element f.member) in
      rw (end-section i h) (lt-ltb (i / 2) d.sections (omega arith))

  closed-known : (x : ℕ) → x < most_sections → closed_at (railway_of d) x ≡ true → x < d.sections
  closed-known x h l =
      let f = any_found (eqb (suc x)) d.closed (sym (closed-at d x h) ∙ l) in
      let e = eqb-true (suc x) f.element f.passes in
      let k = within-is f.element d.sections (w.closed-known f.element f.member) in
      omega arith

  open-section : (n : ℕ) → 1 ≤ n → closed_in d n ≡ false → is_closed (railway_of d) (n - 1) ≡ false
  open-section n h c = elim (lt? (n - 1) most_sections) [
    | inl l ↦ let z : suc (n - 1) ≡ n = omega arith in sym (closed-there (railway_of d) (n - 1) l) ∙ closed-at d (n - 1) l ∙ rw z c
    | inr l ↦ sym (closed_none (railway_of d) (n - 1) l)
  ]

  module _ (f : WellFormed d) (c : chain_row d ≡ false) where
    free : (n : ℕ) (l : Leg) → n < d.points → longer (railway_of d) most_behind (joined (railway_of d) (Port (record { 0 = n }) l)) ≡ false
    unfolding RR.chain_row railway_of
    free n l h = no-leg (λ l. longer (railway_of d) most_behind (joined (railway_of d) (Port (record { 0 = n }) l))) (any_false (chained_at (railway_of d)) d.points c n h) l

    weights : (t : ℕ) → t < d.trains → (least_weight ≤ weight_of (railway_of d) t) × (weight_of (railway_of d) t ≤ most_weight)
    unfolding weight_of
    weights t h =
        let x = get_or d.roster t no_train_line in
        rw (weight_of, roster-at d t h w.laid.bounds.few-trains)
        (right-weight (said_weight x.weight) (w.weights x (get_or-member d.roster t no_train_line (rw f.one-a-train h))))

    train-known : (t : ℕ) → t < d.trains → ((train_of (railway_of d) t).start.0 < d.sections) × ((train_of (railway_of d) t).destination.0 < d.sections)
    train-known t h =
        let k = roster-known d w f t h in
        rw (roster-at d t h w.laid.bounds.few-trains) (omega arith)

    places-kept : (t : ℕ) → t < d.trains → (is_closed (railway_of d) (train_of (railway_of d) t).start.0 ≡ false) × (is_closed (railway_of d) (train_of (railway_of d) t).destination.0 ≡ false)
    places-kept t h =
        let k = roster-known d w f t h in
        let c = w.places-kept (get_or d.roster t no_train_line) (get_or-member d.roster t no_train_line (rw f.one-a-train h)) in
        rw (roster-at d t h w.laid.bounds.few-trains)
        (open-section (get_or d.roster t no_train_line).start k.0 c.0, open-section (get_or d.roster t no_train_line).destination k.2 c.1)

    -- a number of each train: where those of the T lines do not repeat, those of the record are apart
    apart : (p : TrainLine → ℕ) (q : Train → ℕ) → ((t : TrainLine) → q (train_of_line t) ≡ p t - 1)
        → ((t : ℕ) → t < d.trains → 1 ≤ p (get_or d.roster t no_train_line))
        → repeats eqb (map p d.roster) ≡ false → (t u : ℕ) → u < t → t < d.trains → q (train_of (railway_of d) u) ≡ q (train_of (railway_of d) t) → ⊥
    apart p q h g e t u l b z =
        let c = w.laid.bounds.few-trains in
        let x : q (train_of (railway_of d) u) ≡ p (get_or d.roster u no_train_line) - 1 = ap q (roster-at d u (omega arith) c) ∙ h _ in
        let y : q (train_of (railway_of d) t) ≡ p (get_or d.roster t no_train_line) - 1 = ap q (roster-at d t b c) ∙ h _ in
        let i = g u (omega arith) in
        let j = g t b in
        let k = repeats-apart eqb (map p d.roster) (p no_train_line) u t e l (rw (length-map d.roster p, f.one-a-train) b) in
        eqb-false (p (get_or d.roster u no_train_line)) (p (get_or d.roster t no_train_line))
        (rw (get_or-map p d.roster u no_train_line, get_or-map p d.roster t no_train_line) at k)
        (omega arith)

    pub accepted-record : Accepted (railway_of d)
    unfolding railway_of
    accepted-record =
        let q = laid-record d w.laid in
        record {
          bounds = q.bounds;
          weights = weights;
          link-known = q.link-known;
          signal-known = signal-known;
          closed-known = λ x h l. closed-known x h (closed-there (railway_of d) x h ∙ l);
          train-known = train-known;
          link-right = q.link-right;
          port-joined = q.port-joined;
          chain-free = free;
          starts = apart (λ t. t.start) (λ t. t.start.0) (λ t. refl) (λ t h. (roster-known d w f t h).0) w.starts;
          destinations = apart (λ t. t.destination) (λ t. t.destination.0) (λ t. refl) (λ t h. (roster-known d w f t h).2) w.destinations;
          places-kept = places-kept;
        }

refusal-of : (r q : Railway) → r ≡ q → record_refusal q ≡ none → record_refusal r ≡ none
refusal-of r q p h = rw p h

pub accepted-again : AcceptedAgain
accepted-again text r e =
    let a = (accepted-exactly text r).0 e in
    let d = a.description in
    refusal-of r (railway_of d) a.railway (facts-accepted (railway_of d) (accepted-record d (faultless-facts d a.no_row) a.described.well-formed (chain-free d a.no_row)))
