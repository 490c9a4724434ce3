-- The promise of a comparison and the claims put to use in Yard A, which has two trains and three sections. Of any answer that keeps the promise something is drawn, each time from one
-- field. Nothing rests on these facts; they hold the fields fast. Assumes nothing.
use mathlib.Core.Path.{◌≡◌, refl, ◌∙◌}
use mathlib.Core.Logic.{inl, inr}
use mathlib.Core.List.{List, [], ◌∷◌, Memᴰ, cons-ne-nil, head-eq_of_cons-eq}
use mathlib.Core.Option.{none, some}
use Prim.Native.Nat.{ℕ, ◌<◌}
use native.Mathlib.Omega.{arith}
use native.Mathlib.Nat.{not-suc-le-zero}
use lib.ListN.{length-replicate}
use Rattle.laws.specs.Below.{any_below}
use Rattle.laws.specs.Lists.{any}
use Rattle.laws.proofs.Bools.{some-none}
use Rattle.railway.specs.declared.Railway.{Railway}
use Rattle.railway.specs.declared.Refusal.TheVariants.{Count}
use Rattle.railway.specs.Ends.{end_at}
use Rattle.railway.specs.Refusals.{first}
use Rattle.railway.specs.Record.{empty_railway, is_closed, joined_by, joined, has_signal, legs_of, train_of, weight_of, with_join, with_signal, with_legs, with_train}
use Rattle.railway.specs.Rows.{weight_row, unknown_row, join_row, loose_row, longer, chain_row, place_row, record_refusal}
use Rattle.railway.specs.Yards.{yard_a}
use Rattle.logs.specs.declared.Entry.{Entry}
use Rattle.logs.specs.LogAnswer.{LogAnswer, Agree, Differ, Refused}
use Rattle.logs.specs.Logs.{sections_for, SameFor, Agreeing, LowestDiffering, Swaps, done, swap, faulty, Taken, number_said, LogPost, AtFault}
use Rattle.logs.proofs.Examples.{entered, panel, axles, crossed, many}
use Rattle.logs.proofs.Swapping.{agreeing}
use Rattle.logs.proofs.Logs.{logs-hold}

-- THE LOGS: the panel's and the axle counters', one swap apart; the panel's without train 2
abbrev alone : List Entry
alone = entered 1 2 ∷ entered 1 3 ∷ []

one-swap : Swaps panel axles
one-swap = swap [] (entered 1 2) (entered 2 1) (entered 1 3 ∷ []) (λ e. absurd (omega arith)) done

pub all_same : Agreeing panel axles
all_same = agreeing panel axles one-swap

pub accepted : record_refusal yard_a ≡ none
unfolding record_refusal first weight_row weight_of unknown_row join_row loose_row longer chain_row place_row end_at joined_by
    joined has_signal legs_of train_of with_join with_signal with_legs with_train any_below is_closed
accepted = refl

pub taken : Taken yard_a panel axles × Taken yard_a panel crossed × Taken yard_a panel alone × Taken yard_a [] []
unfolding first faulty any weight_row weight_of unknown_row join_row loose_row longer chain_row place_row end_at joined_by joined
    has_signal legs_of train_of with_join with_signal with_legs with_train any_below is_closed
taken = (refl, refl, refl, refl)

counts : record_refusal empty_railway ≡ some Count
unfolding record_refusal first
counts = refl

-- train 1 has other sections in the crossed log, and train 2 has none in the last
crossed_apart : SameFor panel crossed 0 → ⊥
unfolding sections_for
crossed_apart e = let z : ◌≡◌ {A = ℕ} 1 2 = head-eq_of_cons-eq e in absurd (omega arith)

alone-apart : SameFor panel alone 1 → ⊥
unfolding sections_for
alone-apart e = cons-ne-nil _ _ e

alone-first : SameFor panel alone 0
unfolding sections_for
alone-first = refl

pub crossed-lowest : LowestDiffering panel crossed 0
crossed-lowest = record { differs = crossed_apart; below = λ u l. absurd (not-suc-le-zero l) }

alone-lowest : LowestDiffering panel alone 1
alone-lowest = record { differs = alone-apart; below = λ u l. (let z : u ≡ 0 = omega arith in rw z alone-first) }

-- THE PROMISE. A log of 257 entries gets 17, one of 256 does not.
too_many : (x : LogAnswer) → LogPost yard_a (many 257) [] x → number_said x ≡ some 17
unfolding first faulty any weight_row weight_of unknown_row join_row loose_row longer chain_row place_row end_at joined_by joined
    has_signal legs_of train_of with_join with_signal with_legs with_train any_below is_closed
too_many x p = p.numbered

just_enough : (x : LogAnswer) → LogPost yard_a [] (many 256) x → number_said x ≡ none
unfolding first faulty any weight_row weight_of unknown_row join_row loose_row longer chain_row place_row end_at joined_by joined
    has_signal legs_of train_of with_join with_signal with_legs with_train any_below is_closed
just_enough x p = p.numbered

-- logs that are crossed are not said to agree
not-agree : LogPost yard_a panel crossed Agree → ⊥
not-agree p = crossed_apart (p.compared taken.1 0)

-- nor is train 2 named where train 1 differs, nor train 1 where it does not
not-second : LogPost yard_a panel crossed (Differ 1) → ⊥
not-second p = crossed_apart ((p.compared taken.1).below 0 (omega arith))

not_first : LogPost yard_a panel alone (Differ 0) → ⊥
not_first p = (p.compared taken.2).differs alone-first

-- THE CLAIMS. Agreement, both ways.
agree : (x : LogAnswer) → LogPost yard_a panel axles x → x ≡ Agree
agree x p = (logs-hold.claims yard_a panel axles x p).agree.1 (taken.0, all_same)

agree-only : (x : LogAnswer) → LogPost yard_a panel crossed x → x ≡ Agree → ⊥
agree-only x p e = crossed_apart (((logs-hold.claims yard_a panel crossed x p).agree.0 e).1 0)

-- swaps, both ways
swapped : (x : LogAnswer) → LogPost yard_a panel axles x → x ≡ Agree
swapped x p = (logs-hold.claims yard_a panel axles x p).swaps.1 (taken.0, one-swap)

swaps-there : (a : List Entry) (x : LogAnswer) → LogPost yard_a a axles x → x ≡ Agree → Swaps a axles
swaps-there a x p e = ((logs-hold.claims yard_a a axles x p).swaps.0 e).1

-- the lowest train that differs, both ways
first-named : (x : LogAnswer) → LogPost yard_a panel crossed x → x ≡ Differ 0
first-named x p = ((logs-hold.claims yard_a panel crossed x p).differ 0).1 (taken.1, crossed-lowest)

second-named : (x : LogAnswer) → LogPost yard_a panel alone x → x ≡ Differ 1
second-named x p = ((logs-hold.claims yard_a panel alone x p).differ 1).1 (taken.2, alone-lowest)

named-only : (x : LogAnswer) → LogPost yard_a panel alone x → x ≡ Differ 0 → ⊥
named-only x p e = (((logs-hold.claims yard_a panel alone x p).differ 0).0 e).1.differs alone-first

-- of Yard A's two trains no third is named
no_third : (a b : List Entry) → LogPost yard_a a b (Differ 2) → ⊥
unfolding with_join with_signal with_legs with_train
no_third a b p = let l : 2 < 2 = (logs-hold.claims yard_a a b (Differ 2) p).there 2 refl in absurd (omega arith)

-- a record with no section gets 3, whatever the logs are
record-before : (a : List Entry) (x : LogAnswer) → LogPost empty_railway a (many 257) x → x ≡ Refused Count
record-before a x p = (logs-hold.claims empty_railway a (many 257) x p).record-first Count counts

-- 17, for each of its reasons and in either log
a-train : (x : LogAnswer) → LogPost yard_a panel (entered 1 2 ∷ entered 3 1 ∷ []) x → number_said x ≡ some 17
unfolding with_join with_signal with_legs with_train
a-train x p = (logs-hold.claims yard_a panel (entered 1 2 ∷ entered 3 1 ∷ []) x p).seventeen.1 (accepted, inr (inr (entered 3 1, Memᴰ.tail (Memᴰ.head refl), inl (omega arith))))

a-section : (x : LogAnswer) → LogPost yard_a (entered 1 4 ∷ []) panel x → number_said x ≡ some 17
unfolding with_join with_signal with_legs with_train
a-section x p = (logs-hold.claims yard_a (entered 1 4 ∷ []) panel x p).seventeen.1 (accepted, inl (inr (entered 1 4, Memᴰ.head refl, inr (omega arith))))

a-length : (x : LogAnswer) → LogPost yard_a panel (many 300) x → number_said x ≡ some 17
a-length x p = (logs-hold.claims yard_a panel (many 300) x p).seventeen.1 (accepted, inr (inl (let n = length-replicate 300 (entered 1 2) in omega arith)))

-- and for no other: not of two logs without entries, nor of a record that is refused
no-reason : (r : Railway) (x : LogAnswer) → LogPost r [] [] x → number_said x ≡ some 17 → ⊥
no-reason r x p e = elim ((logs-hold.claims r [] [] x p).seventeen.0 e).1 [ inl w ↦ nothing r w | inr w ↦ nothing r w ]
  where
    empty : (e : Entry) → Memᴰ e [] → ⊥
    empty e m = elim m [ ]

    nothing : (r : Railway) → AtFault r [] → ⊥
    nothing r (inl l) = not-suc-le-zero l
    nothing r (inr w) = empty w.0 w.1

not-before : (a b : List Entry) (x : LogAnswer) → LogPost empty_railway a b x → number_said x ≡ some 17 → ⊥
not-before a b x p e = some-none counts ((logs-hold.claims empty_railway a b x p).seventeen.0 e).0

-- two answers are one
one-answer : (a b : List Entry) (x y : LogAnswer) → LogPost yard_a a b x → LogPost yard_a a b y → x ≡ Differ 1 → y ≡ Differ 1
one-answer a b x y p q e = (logs-hold.claims yard_a a b x p).only y q ∙ e

-- two logs without entries are answered, and agree
empty-agree : (x : LogAnswer) × (x ≡ Agree)
empty-agree = let w = logs-hold.answered yard_a [] [] in (w.0, (logs-hold.claims yard_a [] [] w.0 w.1).agree.1 (taken.3, λ t. refl))

-- AGREEMENT AND SWAPS of any two logs
no-swaps : Swaps panel crossed → ⊥
no-swaps s = crossed_apart ((logs-hold.by-swaps panel crossed).1 s 0)

some-swaps : Swaps panel axles
some-swaps = (logs-hold.by-swaps panel axles).0 all_same
