-- The hypotheses of the theorems can be met: the smallest game with a placement at home, one on the way and one lost, and Yard A.
-- All is computed, but that a search which tries the one setting that lets the train move finds it. Assumes nothing.
use mathlib.Core.Path.{◌≡◌, refl, sym}
use mathlib.Core.Logic.{inl, inr}
use mathlib.Core.Bool.{Bool, true, false, cond, not, ◌||◌}
use mathlib.Core.Option.{Option, none, some}
use Prim.Native.Nat.{ℕ, zero, suc, ◌<◌}
use native.Mathlib.Omega.{arith}
use lib.Dec.{eqb}
use Rattle.laws.specs.Below.{all_below, any_below, lowest}
use Rattle.laws.proofs.Bools.{bool?, clash, some-none}
use Rattle.laws.proofs.Below.{all-at}
use Rattle.railway.specs.Bounds.{section_ends}
use Rattle.railway.specs.Ends.{end_at}
use Rattle.railway.specs.Refusals.{first}
use Rattle.railway.specs.Record.{is_closed, flag_at, joined_by, joined, legs_of, train_of, weight_of, with_join, with_signal, with_legs, with_train}
use Rattle.railway.specs.Rows.{weight_row, unknown_row, join_row, loose_row, longer, chain_row, place_row, record_refusal}
use Rattle.game.specs.Game.{at, Game}
use Rattle.game.specs.Claim.{Keeps, Whole}
use Rattle.game.specs.Local.{keeps_test, Costs, Inside}
use Rattle.game.specs.Setting.{Setting, SameSetting}
use Rattle.game.specs.Moves.{game_of}
use Rattle.game.specs.ByTurns.{AllOne}
use Rattle.railway.specs.Yards.{yard_a}
use Rattle.game.proofs.Local.{may-allowed, keeps-test, test-keeps}
use Rattle.game.proofs.Claim.{whole}
use Rattle.game.proofs.Settle.{Searches, AtMostWeight, figures, table, settle, rounds-solved}
use Rattle.game.proofs.Accepted.{Facts, facts}

-- Placement 0 is home and 2 is lost; the one train moves to 0 if the setting, open or not, lets it.
abbrev pub small : Game Bool
small = record { placements = 3; trains = 1; is_home = λ p. eqb p 0; is_lost = λ p. eqb p 2; allowed = λ p s t. s; next = λ p s t. at 0; weight = λ t. 3 }

small-inside : Inside small
small-inside p s t q hp m e = let z : 0 ≡ q = cc in omega arith

-- tries the open setting
abbrev pub search : (ℕ → Option ℕ) → ℕ → ℕ → Option ℕ
search F p n = cond (keeps_test small F p true n) (some 1) none

small-searches : Searches small (λ p v. true) search
small-searches = record { sound = sound; complete = complete }
  where
    sound : (F : ℕ → Option ℕ) (p n v : ℕ) → p < 3 → search F p n ≡ some v → Keeps small F p true n
    sound F p n v l e = elim (bool? (keeps_test small F p true n)) [ inl k ↦ test-keeps small F p true n k | inr k ↦ some-none e (rw k) ]

    complete : (F : ℕ → Option ℕ) (p n : ℕ) (s : Bool) → p < 3 → Keeps small F p s n → (v : ℕ) × (search F p n ≡ some v)
    complete F p n true l k = (1, rw (keeps-test small F p true n k))
    complete F p n false l k = clash (may-allowed small p false k.one-may.0 k.one-may.1) refl

small-costs : Costs small
small-costs t l = omega arith

small-most : AtMostWeight small 4
small-most t l = omega arith

pub small-whole : Whole small (figures small 4 search) (λ p. true)
small-whole = whole small (figures small 4 search) (λ p. true) small-costs small-inside (rounds-solved small small-costs 4 small-most (λ p v. true) search small-searches)

-- its figures
small-figures : (figures small 4 search 0 ≡ some 0) × (figures small 4 search 1 ≡ some 3) × (figures small 4 search 2 ≡ none)
unfolding table settle lowest keeps_test all_below any_below
small-figures = (refl, refl, refl)

yard-facts : Facts yard_a
unfolding record_refusal first weight_row weight_of unknown_row join_row loose_row chain_row longer place_row any_below joined_by joined legs_of train_of end_at with_join with_signal with_legs with_train is_closed
yard-facts = facts yard_a refl

-- its trains have weight 1
pub yard-ones : AllOne (game_of yard_a)
unfolding weight_of train_of with_join with_signal with_legs with_train
yard-ones zero l = refl
yard-ones (suc zero) l = refl
yard-ones (suc (suc t)) l = absurd (omega arith)

-- settings that agree in Yard A, at its point and at 1d and 2u, and nowhere else
abbrev pub everywhere : Setting
everywhere = record { plus = λ n. true; is_open = λ i. true }

abbrev in-yard : Setting
in-yard = record { plus = λ n. eqb n 0; is_open = λ i. eqb i 0 || eqb i 3 }

agreeing : SameSetting yard_a everywhere in-yard
unfolding all_below with_join with_signal with_legs with_train
agreeing =
    record {
      points = λ n l. let z : n ≡ 0 = omega arith in rw z;
      signals = λ i l f. sym (at-signal i (all-at (λ i. not (flag_at yard_a i) || in-yard.is_open i) section_ends refl i l) f);
    }
  where
    at-signal : (i : ℕ) → (not (flag_at yard_a i) || in-yard.is_open i) ≡ true → flag_at yard_a i ≡ true → in-yard.is_open i ≡ true
    at-signal i h f = rw f at h
