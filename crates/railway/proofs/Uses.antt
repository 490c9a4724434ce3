-- What the statements on a record's number and on its bytes are for: facts of yards, ends and bytes, drawn from them
-- alone. Nothing rests on them; they hold the statements' clauses fast, for without a clause its fact is lost.
-- Assumes nothing.
use mathlib.Core.Path.{◌≡◌, refl, sym, ◌∙◌, ap}
use mathlib.Core.Bool.{Bool, true, false}
use mathlib.Core.List.{List, [], ◌∷◌, Memᴰ}
use mathlib.Core.Option.{none, some}
use mathlib.Core.Logic.{inl, inr}
use Prim.Native.Nat.{ℕ, zero, suc, ◌+◌}
use native.Mathlib.Omega.{arith}
use lib.ListN.{get_or, set}
use Rattle.laws.specs.Below.{any_below}
use Rattle.laws.specs.Lists.{Every}
use Rattle.laws.proofs.Bools.{clash, some_one}
use Rattle.laws.proofs.Lists.{every-none, every_more}
use Rattle.railway.specs.declared.Side.TheVariants.{Up, Down}
use Rattle.railway.specs.declared.Leg.TheVariants.{Stem, Plus}
use Rattle.railway.specs.declared.End.{End}
use Rattle.railway.specs.declared.End.TheVariants.{Section, Port}
use Rattle.railway.specs.Joined.{Nothing, With}
use Rattle.railway.specs.declared.Railway.{Railway}
use Rattle.railway.specs.declared.Refusal.{Refusal}
use Rattle.railway.specs.declared.Refusal.TheVariants.{Count, Weight, Unknown, Join, Loose, Chain, Double, Place}
use Rattle.railway.specs.declared.Refusal.TheVariants.{Space, Report}
use Rattle.railway.specs.Ends.{Numbered, end_index, end_at}
use Rattle.railway.specs.Record.{is_closed, no_link, joined_by, joined, legs_of, train_of, weight_of, with_links}
use Rattle.railway.specs.Record.{with_join, with_signal, with_legs, with_train}
use Rattle.railway.specs.Refusals.{number, numbers_in_order, rank, Row, row, Applying, NotApplying, number_of}
use Rattle.railway.specs.Rows.{known, weight_row, unknown_row, join_row, loose_row, longer, chain_row, place_row}
use Rattle.railway.specs.Rows.{count_row, double_row, rows_by, record_rows, record_refusal}
use Rattle.railway.specs.Yards.{yard_a, line_t}
use Rattle.railway.specs.Same.{SameByte, SameButForNone}
use Rattle.railway.specs.Claims.{JoinOf}
use Rattle.railway.proofs.Refusals.{number-tells}
use Rattle.railway.proofs.Same.{refusal-same}
use Rattle.railway.proofs.Claims.{record-numbers, end-bytes, accepted-looked-up, none_alike}

-- Yard A, but both trains start on section 2
shared : Railway
shared = line_t 2 Down 2 1 yard_a

-- rows that do not apply, in front of a row
off : {f : Refusal} (xs : List Row) → Every (λ y. Applying y → ⊥) xs → Every (λ y. Applying y → ⊥) (row f false ∷ xs)
off xs h = every_more (λ y. Applying y → ⊥) _ xs (λ p. clash p refl) h

-- The rows in their order, whatever each says; so of any record. And the row for loose ports is one of them.
in-order : (a b c d e f g h : Bool) → rows_by a b c d e f g h
    ≡ row Count a ∷ row Weight b ∷ row Unknown c ∷ row Join d ∷ row Loose e ∷ row Chain f ∷ row Double g ∷ row Place h ∷ []
in-order a b c d e f g h = refl

of-record : (r : Railway) → record_rows r ≡ row Count (count_row r) ∷ row Weight (weight_row r) ∷ row Unknown (unknown_row r) ∷ row Join (join_row r)
    ∷ row Loose (loose_row r) ∷ row Chain (chain_row r) ∷ row Double (double_row r) ∷ row Place (place_row r) ∷ []
of-record r = in-order (count_row r) (weight_row r) (unknown_row r) (join_row r) (loose_row r) (chain_row r) (double_row r) (place_row r)

loose-among : (a b c d e f g h : Bool) → Memᴰ (row Loose e) (rows_by a b c d e f g h)
loose-among a b c d e f g h =
    rw (in-order a b c d e f g h)
    (mathlib.Core.List.Memᴰ.tail (mathlib.Core.List.Memᴰ.tail (mathlib.Core.List.Memᴰ.tail (mathlib.Core.List.Memᴰ.tail (mathlib.Core.List.Memᴰ.head refl)))))

-- It gets 8: row 8 applies, and none before it.
eight : number_of (record_refusal shared) ≡ some 8
unfolding any_below end_at joined_by joined legs_of train_of weight_of with_join with_signal with_legs with_train weight_row
    unknown_row join_row loose_row longer chain_row place_row shared is_closed
eight =
    (record-numbers.given shared Place).1
    (record {
      before = row Count false ∷ row Weight false ∷ row Unknown false ∷ row Join false ∷ row Loose false ∷ row Chain
          false ∷ row Double false ∷ [];
      after = [];
      order = of-record shared;
      here = refl;
      not-before = off _ (off _ (off _ (off _ (off _ (off _ (off _ (every-none (λ y. Applying y → ⊥))))))));
    })

-- It gets nothing else: whatever refusal has the number that it gets is that of row 8.
eight-alone : (f : Refusal) → number_of (record_refusal shared) ≡ some (number f) → f ≡ Place
eight-alone f e = record-numbers.one f Place (some_one (sym e ∙ eight))

-- The number 5 tells Join.
five-tells : (f : Refusal) → number f ≡ 5 → f ≡ Join
five-tells f e = record-numbers.one f Join e

-- What stands behind 12 in the order is 15, and before 9 stands 14.
behind-twelve : (f : Refusal) → rank f ≡ suc (rank Report) → number f ≡ 15
behind-twelve f e = sym (record-numbers.ranked f) ∙ ap (λ n. get_or numbers_in_order n 0) e

before-nine : (f : Refusal) → suc (rank f) ≡ rank Space → number f ≡ 14
before-nine f e =
    let h : rank f ≡ 10 = omega (arith, e) in
    sym (record-numbers.ranked f) ∙ ap (λ n. get_or numbers_in_order n 0) h

-- To a record that gets 8 the row for places applies.
other : (f : Refusal) (b : Bool) (xs : List Row) → (number f ≡ 8 → ⊥) → Memᴰ (row Place true) (row f b ∷ xs)
    → Memᴰ (row Place true) xs
other f b xs n (mathlib.Core.List.Memᴰ.head e) = absurd (n (sym (ap (λ (x : Row). number x.refusal) e)))
other f b xs n (mathlib.Core.List.Memᴰ.tail m) = m

last : (b : Bool) → Memᴰ (row Place true) (row Place b ∷ []) → b ≡ true
last b (Memᴰ.tail x4) = elim x4 [ ]
last b (mathlib.Core.List.Memᴰ.head e) = sym (ap (λ (x : Row). x.applies) e)

place-applies : (r : Railway) → number_of (record_refusal r) ≡ some 8 → place_row r ≡ true
place-applies r e =
    let w = (record-numbers.given r Place).0 e in
    let m : Memᴰ (row Place true) (record_rows r) =
    rw w.order (mathlib.Core.List.Memᴰ.append_right w.before (mathlib.Core.List.Memᴰ.head refl)) in
    last _ (other _ _ _ (λ z. omega arith)
    (other _ _ _ (λ z. omega arith) (other _ _ _ (λ z. omega arith) (other _ _ _ (λ z. omega arith)
    (other _ _ _ (λ z. omega arith) (other _ _ _ (λ z. omega arith) (other _ _ _ (λ z. omega arith) m)))))))

-- Yard A gets no number, for no row applies to it; and a record that gets none has no loose port.
none-off : (xs : List Row) {f : Refusal} → Every NotApplying xs → Every NotApplying (row f false ∷ xs)
none-off xs h = every_more NotApplying _ xs refl h

yard-a-accepted : number_of (record_refusal yard_a) ≡ none
unfolding any_below end_at joined_by joined legs_of train_of weight_of with_join with_signal with_legs with_train weight_row
    unknown_row join_row loose_row longer chain_row place_row is_closed
yard-a-accepted = (record-numbers.accepted yard_a).1 (none-off _
    (none-off _ (none-off _ (none-off _ (none-off _ (none-off _ (none-off _ (none-off _ (every-none NotApplying)))))))))

ports-joined : (r : Railway) → number_of (record_refusal r) ≡ none → loose_row r ≡ false
ports-joined r e =
    (record-numbers.accepted r).0 e (row Loose (loose_row r))
    (loose-among (count_row r) (weight_row r) (unknown_row r) (join_row r) (loose_row r) (chain_row r) (double_row r) (place_row r))

-- BYTES FOR ENDS. An end with byte 96 is 1s, and whatever end has it is what the byte says; no end has byte 144, some
-- end has byte 143; from 144 on no byte says an end, that which is written for no join least of all.
stem : End
stem = Port (record { 0 = 0 }) Stem

stem-alone : (e : End) → Numbered e → end_index e ≡ 96 → e ≡ stem
unfolding stem
stem-alone e h b = end-bytes.own e stem h (omega arith) b

said-back : (e : End) → Numbered e → (b : ℕ) → end_index e ≡ b → joined_by b ≡ With e
said-back e h b p = rw (← p) (end-bytes.back e h)

none-at-144 : (e : End) → Numbered e → end_index e ≡ 144 → ⊥
none-at-144 e h b = omega (arith, end-bytes.below e h, b)

last_taken : (e : End) × Numbered e × (end_index e ≡ 143)
last_taken = end-bytes.taken 143 (omega arith)

from-144 : (b : ℕ) → joined_by (144 + b) ≡ Nothing
from-144 b = end-bytes.others (144 + b) (omega arith)

written_none : joined_by no_link ≡ Nothing
written_none = end-bytes.others no_link end-bytes.written

-- LOOKUPS. In whatever accepted record 1u is joined to 1+, the byte of 1u's link is 97 and the lookup comes back; where
-- these two ends have each other's bytes, they are joined; an end joined to nothing has no other end's byte that has
-- its own; and one that is joined to no other is joined to nothing.
up : End
up = Section (record { 0 = 0 }) Up

plus : End
plus = Port (record { 0 = 0 }) Plus

byte-97 : (r : Railway) → record_refusal r ≡ none → joined r up ≡ With plus → get_or r.links 1 no_link ≡ 97
unfolding up plus
byte-97 r a h = (((accepted-looked-up r a).other up plus).0 h).forth

back-again : (r : Railway) → record_refusal r ≡ none → joined r up ≡ With plus → joined r plus ≡ With up
back-again r a h = (accepted-looked-up r a).returned up plus h

found : (r : Railway) → record_refusal r ≡ none → known r up ≡ true → known r plus ≡ true → get_or r.links 1 no_link ≡ 97
    → get_or r.links 97 no_link ≡ 1 → joined r up ≡ With plus
unfolding up plus
found r a ku kp p q =
    ((accepted-looked-up r a).other up plus).1 (record { one-there = ku; other-there = kp; forth = p; back = q })

not-both : (r : Railway) → record_refusal r ≡ none → joined r up ≡ Nothing → JoinOf r up plus → ⊥
not-both r a h j = ((accepted-looked-up r a).unjoined up).0 h plus j

in-none : (r : Railway) → record_refusal r ≡ none → ((f : End) → JoinOf r up f → ⊥) → joined r up ≡ Nothing
in-none r a n = ((accepted-looked-up r a).unjoined up).1 n

-- NO JOIN. Yard A with byte 200 where 1d has no join is Yard A, and so is accepted.
blank : Railway
blank = with_links yard_a (set yard_a.links 0 200)

blank-same : SameButForNone yard_a blank
unfolding blank with_join with_signal with_legs with_train
blank-same =
    record {
      sections = refl;
      points = refl;
      trains = refl;
      legs = refl;
      signals = refl;
      closed = refl;
      roster = refl;
      links = λ i h. bytes i;
    }
  where
    bytes : (i : ℕ) → SameByte (get_or yard_a.links i no_link) (get_or blank.links i no_link)
    bytes zero = inr (omega arith, omega arith)
    bytes (suc i) = inl refl

blank-accepted : record_refusal blank ≡ none
blank-accepted = sym (refusal-same yard_a blank (none_alike yard_a blank blank-same))
    ∙ number-tells (record_refusal yard_a) none yard-a-accepted
