-- The railway of an accepted description has what its lines say, field by field. Each table of the record is looked up where it was made: the link of
-- an end is what the J lines join it to, its flag says whether a G line names it, a section's whether an X line does. Ends that no railway can have are named by no line.
-- Assumes nothing.
use Prim.Native.Nat.{ℕ, suc, ◌/◌, ◌%◌, ◌<◌, ◌≤◌}
use mathlib.Core.Path.{◌≡◌, refl, sym, ◌∙◌, ap}
use mathlib.Core.Logic.{inl, inr}
use mathlib.Core.List.{Memᴰ}
use mathlib.Core.Bool.{Bool, true, false, cond}
use native.Mathlib.Omega.{arith}
use lib.Dec.{ltb, eqb}
use lib.ListN.{get_or}
use borrow.Author.Tests.{ltb-true, lt-ltb, eqb-true, eq-eqb}
use Rattle.laws.specs.Lists.{any}
use Rattle.laws.proofs.Bools.{clash, lt?}
use Rattle.laws.proofs.Below.{list_get}
use Rattle.laws.proofs.Lists.{any_found, any-true, get_or-member}
use Rattle.railway.specs.declared.Side.{Side}
use Rattle.railway.specs.declared.Side.TheVariants.{Up}
use Rattle.railway.specs.declared.SectionNo.{SectionNo}
use Rattle.railway.specs.declared.End.{End}
use Rattle.railway.specs.declared.End.TheVariants.{Section, Port}
use Rattle.railway.specs.Joined.{Nothing, With}
use Rattle.railway.specs.declared.Legs.{Legs}
use Rattle.railway.specs.declared.Railway.{Railway}
use Rattle.railway.specs.Bounds.{most_sections, most_points, most_trains, section_ends, all_ends}
use Rattle.railway.specs.Ends.{Numbered, side_at, end_index, end_at}
use Rattle.railway.specs.Record.{no_legs, no_link, no_train, joined_by, link_byte, link_at, flag_at, closed_at, joined, has_signal, is_closed, legs_of, train_of}
use Rattle.railway.proofs.Ends.{end-index, index_below, numbered_of, end-section, section-below}
use Rattle.railway.proofs.Bytes.{link-back}
use Rattle.railway.proofs.Lookups.{Flagged, signal-flag, closed-there, closed_none}
use Rattle.case_file.specs.Form.{EndField, section, port, JoinLine, SignalLine, Description, WellFormed, same_signal}
use Rattle.case_file.specs.Rows.{known}
use Rattle.case_file.specs.Recording.{end_of, field_of, partner, signal_of, train_of_line, no_train_line, railway_of}
use Rattle.case_file.specs.Claims.{Names, Joins, Signals, TrainSaid, AsDescribed, ReadAsDescribed}
use Rattle.case_file.proofs.Given.{accepted-exactly}
use Rattle.case_file.proofs.Rows.{Laid, Faultless, faultless-facts, within-is}
use Rattle.case_file.proofs.Ends.{signal-is, signal-self, end-field, Counted, Ties, forth, back, partner-ties, partner-one, partner-other}

-- NAMES. The written end of a record's end names it, and no other does.
pub names-field : (e : End) → Names (field_of e) e
names-field (Section n s) = (refl, refl)
names-field (Port n l) = (refl, refl)

names-end : (a : EndField) → Counted a → Names a (end_of a)
names-end (section n s) h = (omega arith, refl)
names-end (port n l) h = (omega arith, refl)

pub names-is : (a : EndField) (e : End) → Names a e → a ≡ field_of e
names-is (section n s) (Section m t) h = rw (h.0, h.1)
names-is (section n s) (Port m l) h = absurd h
names-is (port n l) (Section m t) h = absurd h
names-is (port n l) (Port m k) h = rw (h.0, h.1)

-- LOOKUPS BY INDEX. The J lines name ends that a railway can have, and so each has its byte.
abbrev pub Joinable : Description → Type 0
Joinable d = (j : JoinLine) → Memᴰ j d.joins → Numbered (end_of j.one) × Numbered (end_of j.other)

module _ (d : Description) (can : Joinable d) where
  tied-numbered : (a : EndField) (f : End) → Ties d.joins a f → Numbered f
  tied-numbered a f (forth j m p q) = rw q (can j m).1
  tied-numbered a f (back j m p q) = rw q (can j m).0

  pub partner-back : (a : EndField) → joined_by (link_byte (partner d.joins a)) ≡ partner d.joins a
  partner-back a = link-back (partner d.joins a) (λ f e. tied-numbered a f (partner-ties d.joins a f e))

  pub link-at : (i : ℕ) → i < all_ends → link_at (railway_of d) i ≡ partner d.joins (field_of (end_at i))
  unfolding railway_of
  link-at i h = ap joined_by (list_get (λ i. link_byte (partner d.joins (field_of (end_at i)))) all_ends i no_link h) ∙ partner-back (field_of (end_at i))

  -- and by end
  pub joined_at : (e : End) → Numbered e → joined (railway_of d) e ≡ partner d.joins (field_of e)
  unfolding joined
  joined_at e h = rw (lt-ltb (end_index e) all_ends (index_below e h)) (link-at (end_index e) (index_below e h) ∙ rw (end-index e h))

module _ (d : Description) where
  pub flag-at : (i : ℕ) → i < section_ends → flag_at (railway_of d) i ≡ any (same_signal (signal_of i)) d.signals
  unfolding railway_of
  flag-at i h = list_get (λ i. any (same_signal (signal_of i)) d.signals) section_ends i false h

  pub closed-at : (x : ℕ) → x < most_sections → closed_at (railway_of d) x ≡ any (eqb (suc x)) d.closed
  unfolding railway_of
  closed-at x h = list_get (λ x. any (eqb (suc x)) d.closed) most_sections x false h

  pub legs-at : (n : ℕ) → n < d.points → d.points ≤ most_points → legs_of (railway_of d) n ≡ get_or d.legs n Up
  unfolding railway_of legs_of
  legs-at n h b = rw (lt-ltb n d.points h) (ap (λ (l : Legs). l.side) (list_get (λ n. record { side = get_or d.legs n Up }) most_points n no_legs (omega arith)))

  pub roster-at : (t : ℕ) → t < d.trains → d.trains ≤ most_trains → train_of (railway_of d) t ≡ train_of_line (get_or d.roster t no_train_line)
  unfolding railway_of train_of
  roster-at t h b = rw (lt-ltb t d.trains h) (list_get (λ t. train_of_line (get_or d.roster t no_train_line)) most_trains t no_train (omega arith))

-- a closed section has its flag
pub closed-flag : (r : Railway) (x : ℕ) → is_closed r x ≡ true → (x < most_sections) × (closed_at r x ≡ true)
closed-flag r x h = elim (lt? x most_sections) [ inl l ↦ (l, closed-there r x l ∙ h) | inr l ↦ clash h (sym (closed_none r x l)) ]

-- what is joined, or has a signal, is an end that a railway can have
pub joined-numbered : (r : Railway) (e f : End) → joined r e ≡ With f → Numbered e
unfolding joined
joined-numbered r e f h = cases (ltb (end_index e) all_ends) refl h
  where
    cases : (b : Bool) → ltb (end_index e) all_ends ≡ b → cond b (link_at r (end_index e)) Nothing ≡ With f → Numbered e
    cases true p q = numbered_of e (ltb-true (end_index e) all_ends p)
    cases false p q = let z : ◌≡◌ {A = ℕ} 0 1 = cc in absurd (omega arith)

-- the G line of a section end names it
pub signal-names : (i : ℕ) → i < section_ends → Names (section (signal_of i).number (signal_of i).side) (end_at i)
signal-names i h = rw (end-section i h) (refl, refl)

pub signal-of : (i : ℕ) (g : SignalLine) → i < section_ends → field_of (end_at i) ≡ section g.number g.side → signal_of i ≡ g
signal-of i g h e =
    let f : section (suc (i / 2)) (side_at (i % 2)) ≡ section g.number g.side = rw (end-section i h) at e in
    parts (suc (i / 2)) g.number (side_at (i % 2)) g.side f
  where
    parts : (m n : ℕ) (s t : Side) → section m s ≡ section n t → ◌≡◌ {A = SignalLine} (record { number = m; side = s }) (record { number = n; side = t })
    parts m n s t e = let p : m ≡ n = cc in let q : s ≡ t = cc in rw (p, q)

names-signal : (g h : SignalLine) (e : End) → g ≡ h → Names (section g.number g.side) e → Names (section h.number h.side) e
names-signal g h e p n = rw p at n

pub same-signal : (g h : SignalLine) → g ≡ h → same_signal g h ≡ true
same-signal g h p = rw p (signal-self h)

-- WHAT THE LINES SAY
module _ (d : Description) (w : Laid d) where
  pub counted-end : (a : EndField) → known d a ≡ true → Counted a
  counted-end (section n s) h = (within-is n d.sections h).0
  counted-end (port n l) h = (within-is n d.points h).0

  pub numbered-end : (a : EndField) → known d a ≡ true → Numbered (end_of a)
  numbered-end (section n s) h = let b = w.bounds in let k = within-is n d.sections h in omega arith
  numbered-end (port n l) h = let b = w.bounds in let k = within-is n d.points h in omega arith

  pub joinable : Joinable d
  joinable j m = let k = w.join-known j m in (numbered-end j.one k.0, numbered-end j.other k.1)

  numbered-named : (a : EndField) (e : End) → known d a ≡ true → Names a e → Numbered e
  numbered-named a e k n = rw (ap end_of (names-is a e n) ∙ end-field e) at (numbered-end a k)

  joins-described : (e f : End) → Ties d.joins (field_of e) f → Joins d.joins e f
  joins-described e f (forth j m p q) =
      let k = w.join-known j m in
      record { join = j; member = m; ties = inl (rw p at (names-field e), rw q (names-end j.other (counted-end j.other k.1))) }
  joins-described e f (back j m p q) =
      let k = w.join-known j m in
      record { join = j; member = m; ties = inr (rw q (names-end j.one (counted-end j.one k.0)), rw p at (names-field e)) }

  described-joins : (e f : End) → Joins d.joins e f → joined (railway_of d) e ≡ With f
  described-joins e f t =
      let j = t.join in
      let k = w.join-known j t.member in
      elim t.ties [
        | inl h ↦
            let p = partner-one d.joins j w.ends-once t.member in
            joined_at d joinable e (numbered-named j.one e k.0 h.0) ∙ (rw (names-is j.one e h.0, names-is j.other f h.1, end-field f) at p)
        | inr h ↦
            let p = partner-other d.joins j w.ends-once t.member in
            joined_at d joinable e (numbered-named j.other e k.1 h.1) ∙ (rw (names-is j.other e h.1, names-is j.one f h.0, end-field f) at p)
      ]

module _ (d : Description) (w : Faultless d) where
  signals-described : (e : End) → Flagged (railway_of d) e → Signals d.signals e
  signals-described e t =
      let i = end_index e in
      let f = any_found (same_signal (signal_of i)) d.signals (sym (flag-at d i t.below) ∙ t.flag) in
      let n : Names (section (signal_of i).number (signal_of i).side) e = rw (end-index e (numbered_of e (omega (arith, t.below)))) at (signal-names i t.below) in
      record { signal = f.element; member = f.member; names = names-signal (signal_of i) f.element e (signal-is (signal_of i) f.element f.passes) n }

  described-signal : (n : SectionNo) (s : Side) → Signals d.signals (Section n s) → has_signal (railway_of d) (Section n s) ≡ true
  unfolding has_signal
  described-signal n s t =
      let b = w.laid.bounds in
      let g = t.signal in
      let k = within-is g.number d.sections (w.signal-known g t.member) in
      let e = t.names.0 in
      let l = section-below n s (omega arith) in
      let i = end_index (Section n s) in
      let z : signal_of i ≡ g = signal-of i g l (ap field_of (end-index (Section n s) (omega arith)) ∙ sym (names-is (section g.number g.side) (Section n s) t.names)) in
      let f : any (same_signal (signal_of i)) d.signals ≡ true = any-true (same_signal (signal_of i)) d.signals g t.member (same-signal (signal_of i) g z) in
      rw (lt-ltb i section_ends l) (flag-at d i l ∙ f)

  described-signals : (e : End) → Signals d.signals e → has_signal (railway_of d) e ≡ true
  described-signals (Section n s) t = described-signal n s t
  described-signals (Port n l) t = absurd t.names

  -- the X lines
  closed-described : (x : ℕ) → is_closed (railway_of d) x ≡ true → Memᴰ (suc x) d.closed
  closed-described x h =
      let k = closed-flag (railway_of d) x h in
      let f = any_found (eqb (suc x)) d.closed (sym (closed-at d x k.0) ∙ k.1) in
      rw (← eqb-true (suc x) f.element f.passes) at f.member

  described-closed : (x : ℕ) → Memᴰ (suc x) d.closed → is_closed (railway_of d) x ≡ true
  described-closed x m =
      let b = w.laid.bounds in
      let k = within-is (suc x) d.sections (w.closed-known (suc x) m) in
      let l : x < most_sections = omega arith in
      sym (closed-there (railway_of d) x l) ∙ closed-at d x l ∙ any-true (eqb (suc x)) d.closed (suc x) m (eq-eqb (suc x) (suc x) refl)

  -- the T lines
  module _ (f : WellFormed d) where
    pub roster-known : (t : ℕ) → t < d.trains
        → (1 ≤ (get_or d.roster t no_train_line).start) × ((get_or d.roster t no_train_line).start ≤ d.sections)
        × (1 ≤ (get_or d.roster t no_train_line).destination) × ((get_or d.roster t no_train_line).destination ≤ d.sections)
    roster-known t h =
        let o = f.one-a-train in
        let k = w.train-known (get_or d.roster t no_train_line) (get_or-member d.roster t no_train_line (omega arith)) in
        let a = within-is (get_or d.roster t no_train_line).start d.sections k.0 in
        let b = within-is (get_or d.roster t no_train_line).destination d.sections k.1 in
        (a.0, a.1, b.0, b.1)

    roster-described : (t : ℕ) → t < d.trains → TrainSaid (get_or d.roster t no_train_line) (train_of (railway_of d) t)
    roster-described t h =
        let k = roster-known t h in
        rw (roster-at d t h w.laid.bounds.few-trains) (record { heading = refl; start = omega arith; destination = omega arith; weight = refl })

    pub as-described : AsDescribed d (railway_of d)
    unfolding railway_of
    as-described =
        record {
          sections = refl;
          points = refl;
          trains = refl;
          legs = λ n h. legs-at d n h w.laid.bounds.few-points;
          joins = λ e x. (
            λ h. joins-described d w.laid e x (partner-ties d.joins (field_of e) x
                (sym (joined_at d (joinable d w.laid) e (joined-numbered (railway_of d) e x h)) ∙ h)),
            described-joins d w.laid e x,
          );
          signals = λ e. (λ h. signals-described e (signal-flag (railway_of d) e h), described-signals e);
          closed = λ x. (closed-described x, described-closed x);
          roster = roster-described;
        }

described-along : (d : Description) (r q : Railway) → r ≡ q → AsDescribed d q → AsDescribed d r
described-along d r q p t = rw p t

pub read-as-described : ReadAsDescribed
read-as-described text r e =
    let a = (accepted-exactly text r).0 e in
    let d = a.description in
    (d, a.described, described-along d r (railway_of d) a.railway (as-described d (faultless-facts d a.no_row) a.described.well-formed))
