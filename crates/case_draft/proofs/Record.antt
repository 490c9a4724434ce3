-- The record that is built is the railway of the description: the legs and the trains were stored one after the other, each end is joined as the
-- J lines say, by the bytes that are written for that, each flag stands where a G or an X line names it. Joins leave legs, flags and trains alone,
-- signals and closed sections all but their own flags.
-- Assumes nothing.
use Prim.Native.Nat.{ℕ, suc, ◌-◌, ◌<◌}
use mathlib.Core.Path.{◌≡◌, refl, sym, ◌∙◌, ap}
use mathlib.Core.Logic.{inl, inr}
use mathlib.Core.Bool.{Bool, true, false, cond, ◌&&◌, ◌||◌}
use mathlib.Core.List.{List, [], ◌∷◌, map}
use native.Mathlib.Omega.{arith}
use lib.Dec.{ltb, eqb}
use lib.ListN.{length, get_or, set, replicate, length-map, get_or-map}
use lib.Seq.{set_out, get_or-set_same, get_or-set_other, ext_get_or}
use borrow.Author.Tests.{ltb-true, lt-ltb}
use Rattle.laws.specs.Below.{list_below}
use Rattle.laws.specs.Lists.{any, Every}
use Rattle.laws.proofs.Below.{list_length, list_get, list_same}
use Rattle.laws.proofs.Bools.{eq?, lt?}
use Rattle.railway.specs.declared.Side.TheVariants.{Up}
use Rattle.railway.specs.declared.End.{End}
use Rattle.railway.specs.Joined.{Joined, Nothing, With}
use Rattle.railway.specs.declared.Legs.{Legs}
use Rattle.railway.specs.declared.Train.{Train}
use Rattle.railway.specs.declared.Railway.{Railway}
use Rattle.railway.specs.Bounds.{most_sections, most_points, most_trains, section_ends, all_ends}
use Rattle.railway.specs.Ends.{end_index, end_at}
use Rattle.railway.specs.Record.{bare_railway, no_legs, no_link, no_train, joined_by, link_byte, link_at, closed_at, joined, legs_of, with_links, set_link, with_join, with_signal, with_closed}
use Rattle.railway.specs.Rows.{outside}
use Rattle.railway.proofs.Ends.{index-end}
use Rattle.railway.proofs.Bytes.{byte-written}
use Rattle.railway.proofs.Rows.{Bounded}
use Rattle.case_file.specs.Form.{JoinLine, SignalLine, Description, WellFormed, same_signal}
use Rattle.case_file.specs.Recording.{end_of, field_of, partner, signal_of, train_of_line, no_train_line, railway_of}
use Rattle.case_file.proofs.Rows.{within-is}
use Rattle.case_draft.specs.declared.Draft.{Draft}
use Rattle.case_draft.specs.Drafting.{opened, put_point, put_join, put_signal, put_closed}
use Rattle.case_draft.proofs.Folding.{put_rising, put_each, drafted}
use Rattle.case_draft.proofs.Stored.{store_from, store_length, store-all, same-everywhere}
use Rattle.case_draft.proofs.Sized.{Sized, sized-bare, sized-join, sized-signal, sized-closed}
use Rattle.case_draft.proofs.Known.{SizedBy, or_nothing}
use Rattle.case_draft.proofs.Built.{legs_row, signal_end, with_all_legs, with_roster, join_all, faults, signal_all}
use Rattle.case_draft.proofs.Built.{doubles, close_all, closed_again, KnownJoin, KnownSignal, KnownClosed}
use Rattle.case_draft.proofs.Built.{KnownTrain, points-put, joins-put, signals-put, closeds-put, trains-put}
use Rattle.case_draft.proofs.Joining.{Ready, Fit, joined-all, or_joined}
use Rattle.case_draft.proofs.Signalling.{Placed, flags-all}
use Rattle.case_draft.proofs.Closing.{Sectioned, closed_all}

-- WHAT IS LEFT ALONE
pub record JoinsKeep (r q : Railway) : Type 0 where
  pub legs : q.legs ≡ r.legs
  pub signals : q.signals ≡ r.signals
  pub closed : q.closed ≡ r.closed
  pub roster : q.roster ≡ r.roster

join-keeps : (r : Railway) (a b : End) → JoinsKeep r (with_join r a b)
unfolding with_join
join-keeps r a b = cases (ltb (end_index a) all_ends && ltb (end_index b) all_ends)
  where
    cases : (c : Bool) → JoinsKeep r (cond c (with_links r (set_link b a (set_link a b r.links))) r)
    cases true = record { legs = refl; signals = refl; closed = refl; roster = refl }
    cases false = record { legs = refl; signals = refl; closed = refl; roster = refl }

pub joins-keep : (js : List JoinLine) (r : Railway) → JoinsKeep r (join_all r js)
unfolding join_all
joins-keep [] r = record { legs = refl; signals = refl; closed = refl; roster = refl }
joins-keep (j ∷ js) r =
    let a = join-keeps r (end_of j.one) (end_of j.other) in
    let b = joins-keep js (with_join r (end_of j.one) (end_of j.other)) in
    record { legs = b.legs ∙ a.legs; signals = b.signals ∙ a.signals; closed = b.closed ∙ a.closed; roster = b.roster ∙ a.roster }

-- THE BYTES OF LINKS: each is the one that is written for what it says
abbrev AsWritten : List ℕ → Type 0
AsWritten links = (i : ℕ) → link_byte (joined_by (get_or links i no_link)) ≡ get_or links i no_link

none-as-written : AsWritten (replicate all_ends no_link)
unfolding joined_by
none-as-written i = let e : get_or (replicate all_ends no_link) i no_link ≡ no_link = same-everywhere all_ends no_link i in rw e

set-as-written : (links : List ℕ) (k v : ℕ) → v < all_ends → AsWritten links → AsWritten (set links k v)
set-as-written links k v h w i = elim (eq? i k) [
  | inl e ↦ elim (lt? k (length links)) [
    | inl l ↦ rw (e, get_or-set_same links k v no_link l) (byte-written v h)
    | inr l ↦ rw (set_out links k v l) (w i)
  ]
  | inr n ↦ rw (get_or-set_other links k i v no_link n) (w i)
]

join-as-written : (r : Railway) (a b : End) → AsWritten r.links → AsWritten (with_join r a b).links
unfolding with_join
join-as-written r a b w = cases (ltb (end_index a) all_ends) (ltb (end_index b) all_ends) refl refl
  where
    cases : (p q : Bool) → ltb (end_index a) all_ends ≡ p → ltb (end_index b) all_ends ≡ q
        → AsWritten (cond (p && q) (with_links r (set_link b a (set_link a b r.links))) r).links
    cases true true hp hq =
        set-as-written (set_link a b r.links) (end_index b) (end_index a) (ltb-true (end_index a) all_ends hp)
        (set-as-written r.links (end_index a) (end_index b) (ltb-true (end_index b) all_ends hq) w)
    cases true false hp hq = w
    cases false q hp hq = w

joins-as-written : (js : List JoinLine) (r : Railway) → AsWritten r.links → AsWritten (join_all r js).links
unfolding join_all
joins-as-written [] r w = w
joins-as-written (j ∷ js) r w = joins-as-written js _ (join-as-written r (end_of j.one) (end_of j.other) w)

pub record SignalsKeep (r q : Railway) : Type 0 where
  pub legs : q.legs ≡ r.legs
  pub links : q.links ≡ r.links
  pub closed : q.closed ≡ r.closed
  pub roster : q.roster ≡ r.roster

signal-keeps : (r : Railway) (e : End) → SignalsKeep r (with_signal r e)
unfolding with_signal
signal-keeps r e = cases (ltb (end_index e) section_ends)
  where
    cases : (c : Bool)
        → SignalsKeep r (cond c (record {
          sections = r.sections;
          points = r.points;
          trains = r.trains;
          legs = r.legs;
          links = r.links;
          signals = set r.signals (end_index e) true;
          closed = r.closed;
          roster = r.roster;
        }) r)
    cases true = record { legs = refl; links = refl; closed = refl; roster = refl }
    cases false = record { legs = refl; links = refl; closed = refl; roster = refl }

pub signals-keep : (gs : List SignalLine) (r : Railway) → SignalsKeep r (signal_all r gs)
unfolding signal_all
signals-keep [] r = record { legs = refl; links = refl; closed = refl; roster = refl }
signals-keep (g ∷ gs) r =
    let a = signal-keeps r (end_of (signal_end g)) in
    let b = signals-keep gs (with_signal r (end_of (signal_end g))) in
    record { legs = b.legs ∙ a.legs; links = b.links ∙ a.links; closed = b.closed ∙ a.closed; roster = b.roster ∙ a.roster }

pub record ClosedKeep (r q : Railway) : Type 0 where
  pub legs : q.legs ≡ r.legs
  pub links : q.links ≡ r.links
  pub signals : q.signals ≡ r.signals
  pub roster : q.roster ≡ r.roster

closed-keeps : (r : Railway) (x : ℕ) → ClosedKeep r (with_closed r x)
unfolding with_closed
closed-keeps r x = cases (ltb x most_sections)
  where
    cases : (c : Bool)
        → ClosedKeep r (cond c (record {
          sections = r.sections;
          points = r.points;
          trains = r.trains;
          legs = r.legs;
          links = r.links;
          signals = r.signals;
          closed = set r.closed x true;
          roster = r.roster;
        }) r)
    cases true = record { legs = refl; links = refl; signals = refl; roster = refl }
    cases false = record { legs = refl; links = refl; signals = refl; roster = refl }

closeds-keep : (ns : List ℕ) (r : Railway) → ClosedKeep r (close_all r ns)
unfolding close_all
closeds-keep [] r = record { legs = refl; links = refl; signals = refl; roster = refl }
closeds-keep (n ∷ ns) r =
    let a = closed-keeps r (n - 1) in
    let b = closeds-keep ns (with_closed r (n - 1)) in
    record { legs = b.legs ∙ a.legs; links = b.links ∙ a.links; signals = b.signals ∙ a.signals; roster = b.roster ∙ a.roster }

module _ (s p k : ℕ) where
  pub sized-joins : (js : List JoinLine) (r : Railway) → Sized s p k r → Sized s p k (join_all r js)
  unfolding join_all
  sized-joins [] r z = z
  sized-joins (j ∷ js) r z = sized-joins js _ (sized-join s p k r z _ _)

  pub sized-signals : (gs : List SignalLine) (r : Railway) → Sized s p k r → Sized s p k (signal_all r gs)
  unfolding signal_all
  sized-signals [] r z = z
  sized-signals (g ∷ gs) r z = sized-signals gs _ (sized-signal s p k r z _)

  sized-closeds : (ns : List ℕ) (r : Railway) → Sized s p k r → Sized s p k (close_all r ns)
  unfolding close_all
  sized-closeds [] r z = z
  sized-closeds (n ∷ ns) r z = sized-closeds ns _ (sized-closed s p k r z _)

pub record_same : (r q : Railway) → r.sections ≡ q.sections → r.points ≡ q.points → r.trains ≡ q.trains → r.legs ≡ q.legs → r.links ≡ q.links
    → r.signals ≡ q.signals → r.closed ≡ q.closed → r.roster ≡ q.roster → r ≡ q
record_same r q a b c e f g i h =
    go r.sections q.sections r.points q.points r.trains q.trains r.legs q.legs r.links
    q.links r.signals q.signals r.closed q.closed r.roster q.roster a b c e f g i h
  where
    go : (s s' p p' k k' : ℕ) (l l' : List Legs) (m m' : List ℕ) (n n' x x' : List Bool) (o o' : List Train)
        → s ≡ s' → p ≡ p' → k ≡ k' → l ≡ l' → m ≡ m' → n ≡ n' → x ≡ x' → o ≡ o'
        → ◌≡◌ {A = Railway} (record { sections = s; points = p; trains = k; legs = l; links = m; signals = n; closed = x; roster = o })
        (record { sections = s'; points = p'; trains = k'; legs = l'; links = m'; signals = n'; closed = x'; roster = o' })
    go s s' p p' k k' l l' m m' n n' x x' o o' a b c e f g i h = rw (a, b, c, e, f, g, i, h)

joined-index : (r : Railway) (e : End) (i : ℕ) → end_index e ≡ i → i < all_ends → joined r e ≡ link_at r i
unfolding joined
joined-index r e i q h = rw (q, lt-ltb i all_ends h)

-- THE DRAFT, counts within their bounds and names all there
module _ (d : Description) (f : WellFormed d) (b : Bounded d.sections d.points d.trains)
    (inside : outside d.sections d.points d.trains ≡ false)
    (kj : Every (KnownJoin d) d.joins) (kg : Every (KnownSignal d) d.signals)
    (kx : Every (KnownClosed d) d.closed) (kt : Every (KnownTrain d) d.roster) where
  abbrev pub start : Railway
  start = bare_railway d.sections d.points d.trains

  abbrev pub with_points : Railway
  with_points = with_all_legs start (store_from start.legs 0 (map legs_row d.legs))

  abbrev pub with_joins : Railway
  with_joins = join_all with_points d.joins

  abbrev pub with_signals : Railway
  with_signals = signal_all with_joins d.signals

  abbrev pub with_all_closed : Railway
  with_all_closed = close_all with_signals d.closed

  abbrev pub built : Railway
  built = with_roster with_all_closed (store_from with_all_closed.roster 0 (map train_of_line d.roster))

  legs-many : length (map legs_row d.legs) ≡ d.points
  legs-many = length-map d.legs legs_row ∙ f.one-a-point

  roster-many : length (map train_of_line d.roster) ≡ d.trains
  roster-many = length-map d.roster train_of_line ∙ f.one-a-train

  pub sized-points : SizedBy d with_points
  sized-points =
      let z = sized-bare d.sections d.points d.trains in
      record {
        sections = refl;
        points = refl;
        trains = refl;
        legs = store_length (map legs_row d.legs)
            start.legs 0 ∙ z.legs;
        links = z.links;
        signals = z.signals;
        closed = z.closed;
        roster = z.roster;
      }

  sized-2 : SizedBy d with_joins
  sized-2 = sized-joins d.sections d.points d.trains d.joins with_points sized-points

  pub sized-3 : SizedBy d with_signals
  sized-3 = sized-signals d.sections d.points d.trains d.signals with_joins sized-2

  sized-4 : SizedBy d with_all_closed
  sized-4 = sized-closeds d.sections d.points d.trains d.closed with_signals sized-3

  pub drafted-is : drafted d ≡ record {
    railway = built;
    weight = false;
    unknown = false;
    wrong = faults with_points d.joins;
    double = doubles with_joins d.signals || closed_again with_signals d.closed;
  }
  unfolding drafted opened
  drafted-is =
      let o = f.one-a-point in
      let q = f.one-a-train in
      let w0 : Draft = record { railway = start; weight = false; unknown = false; wrong = false; double = false } in
      let w1 : Draft = record { railway = with_points; weight = false; unknown = false; wrong = false; double = false } in
      let w2 : Draft = record { railway = with_joins; weight = false; unknown = false; wrong = faults with_points d.joins; double = false } in
      let w3 : Draft = record {
        railway = with_signals;
        weight = false;
        unknown = false;
        wrong = faults with_points
            d.joins;
        double = doubles with_joins d.signals;
      } in
      let w4 : Draft =
      record {
        railway = with_all_closed;
        weight = false;
        unknown = false;
        wrong = faults with_points d.joins;
        double = doubles with_joins d.signals || closed_again with_signals d.closed;
      } in
      let e1 : put_rising put_point 1 w0 d.legs ≡ w1 = points-put d b.few-points d.legs 0 w0
      (sized-bare d.sections d.points d.trains) (omega arith) in
      let e2 : put_each put_join w1 d.joins ≡ w2 = joins-put d d.joins w1 sized-points kj in
      let e3 : put_each put_signal w2 d.signals ≡ w3 = signals-put d d.signals w2 sized-2 kg in
      let e4 : put_each put_closed w3 d.closed ≡ w4 = closeds-put d d.closed w3 sized-3 kx in
      let e5 = trains-put d b.few-trains d.roster 0 w4 sized-4 (omega arith) kt in
      rw inside (rw (e1, e2, e3, e4) e5)

  -- no section is closed before the X lines, and each of these has a section that a railway can have
  pub not-closed : (x : ℕ) → closed_at with_signals x ≡ false
  not-closed x =
      ap (λ (l : List Bool). get_or l x false) ((signals-keep d.signals with_joins).closed ∙ (joins-keep d.joins with_points).closed)
      ∙ same-everywhere most_sections false x

  pub sectioned : Every Sectioned d.closed
  sectioned n m = let w = within-is n d.sections (kx n m) in let h = b.few-sections in (w.0, omega arith)

  -- its tables
  legs-built : store_from start.legs 0 (map legs_row d.legs) ≡ list_below (λ n. record { side = get_or d.legs n Up }) most_points
  legs-built =
      let m = legs-many in
      let h = b.few-points in
      store-all (map legs_row d.legs) most_points no_legs (omega arith) ∙ list_same _ _ most_points (λ i l. get_or-map legs_row d.legs i Up)

  pub ready : Ready d b with_points
  unfolding legs_of
  ready =
      record {
        sized = sized-points;
        legs = λ n h.
            let m = b.few-points in
            rw (lt-ltb n d.points h) (ap (λ (l : List Legs). (get_or l n no_legs).side) legs-built
            ∙ ap (λ (l : Legs). l.side)
            (list_get (λ n. record { side = get_or d.legs n Up }) most_points n no_legs (omega arith)));
      }

  none-there : (i : ℕ) → link_at with_points i ≡ Nothing
  unfolding joined_by
  none-there i = ap joined_by (same-everywhere all_ends no_link i)

  pub none-joined : (e : End) → joined with_points e ≡ Nothing
  unfolding joined
  none-joined e = cases (ltb (end_index e) all_ends)
    where
      cases : (c : Bool) → cond c (link_at with_points (end_index e)) Nothing ≡ Nothing
      cases true = none-there (end_index e)
      cases false = refl

  or-none-joined : (j : Joined) → or_joined j Nothing ≡ j
  or-none-joined Nothing = refl
  or-none-joined (With e) = refl

  module _ (fit : Fit d b with_points d.joins) where
    linked : (i : ℕ) → i < all_ends → link_at with_joins i ≡ partner d.joins (field_of (end_at i))
    linked i h =
        sym (joined-index with_joins (end_at i) i (index-end i h) h) ∙ joined-all d b d.joins with_points ready kj fit (end_at i)
        ∙ ap (or_joined (partner d.joins (field_of (end_at i)))) (none-joined (end_at i)) ∙ or-none-joined (partner d.joins (field_of (end_at i)))

    links-built : with_joins.links ≡ list_below (λ i. link_byte (partner d.joins (field_of (end_at i)))) all_ends
    links-built =
        let l = sized-2.links in
        ext_get_or no_link with_joins.links _ (l ∙ sym (list_length (λ i. link_byte (partner d.joins (field_of (end_at i)))) all_ends)) (λ i h.
        sym (joins-as-written d.joins with_points none-as-written i) ∙ ap link_byte (linked i (omega arith))
        ∙ sym (list_get (λ i. link_byte (partner d.joins (field_of (end_at i)))) all_ends i no_link (omega arith)))

    pub placed : Every Placed d.signals
    placed g m = let w = within-is g.number d.sections (kg g m) in let h = b.few-sections in (w.0, omega arith)

    signals-built : with_signals.signals ≡ list_below (λ i. any (same_signal (signal_of i)) d.signals) section_ends
    signals-built =
        let l = sized-3.signals in
        let k = joins-keep d.joins with_points in
        ext_get_or false with_signals.signals _ (l ∙ sym (list_length (λ i. any (same_signal (signal_of i)) d.signals) section_ends)) (λ i h.
        flags-all d.signals with_joins sized-2.signals placed i (omega arith)
        ∙ ap (λ (x : Bool). any (same_signal (signal_of i)) d.signals || x)
        (ap (λ (l : List Bool). get_or l i false) k.signals ∙ same-everywhere section_ends false i)
        ∙ or_nothing (any (same_signal (signal_of i)) d.signals)
        ∙ sym (list_get (λ i. any (same_signal (signal_of i)) d.signals) section_ends i false (omega arith)))

    closed-built : with_all_closed.closed ≡ list_below (λ x. any (eqb (suc x)) d.closed) most_sections
    closed-built =
        let l = sized-4.closed in
        ext_get_or false with_all_closed.closed _ (l ∙ sym (list_length (λ x. any (eqb (suc x)) d.closed) most_sections)) (λ x h.
        closed_all d.closed with_signals sized-3.closed sectioned x (omega arith)
        ∙ ap (λ (v : Bool). any (eqb (suc x)) d.closed || v) (not-closed x)
        ∙ or_nothing (any (eqb (suc x)) d.closed)
        ∙ sym (list_get (λ x. any (eqb (suc x)) d.closed) most_sections x false (omega arith)))

    roster-built : store_from with_all_closed.roster 0 (map train_of_line d.roster) ≡ list_below (λ t. train_of_line (get_or d.roster t no_train_line)) most_trains
    roster-built =
        let m = roster-many in
        let h = b.few-trains in
        let e : with_all_closed.roster ≡ replicate most_trains no_train =
        (closeds-keep d.closed with_signals).roster ∙ (signals-keep d.signals with_joins).roster ∙ (joins-keep d.joins with_points).roster in
        ap (λ (l : List Train). store_from l 0 (map train_of_line d.roster)) e
        ∙ store-all (map train_of_line d.roster) most_trains no_train (omega arith) ∙ list_same _ _ most_trains
        (λ i l. get_or-map train_of_line d.roster i no_train_line)

    pub built-is : built ≡ railway_of d
    unfolding railway_of
    built-is =
        let c = closeds-keep d.closed with_signals in
        record_same built _ sized-4.sections sized-4.points sized-4.trains
        (c.legs ∙ (signals-keep d.signals with_joins).legs ∙ (joins-keep d.joins with_points).legs ∙ legs-built)
        (c.links ∙ (signals-keep d.signals with_joins).links ∙ links-built) (c.signals ∙ signals-built) closed-built roster-built
