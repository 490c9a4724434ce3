-- Which point bits keep a figure, said of sections entered: a setting made from an entry lets exactly the free trains and the open held ones move, and
-- where a move ends hangs on the section entered alone. So point bits keep the figure exactly if somebody moves and each that moves enters a good
-- section, and a try finds the smallest such bits. Assumes nothing.
use mathlib.Core.Path.{◌≡◌, refl, sym, ◌∙◌, ap}
use mathlib.Core.Logic.{inl, inr}
use mathlib.Core.Bool.{Bool, true, false}
use mathlib.Core.Option.{Option, none, some}
use Prim.Native.Nat.{ℕ, ◌^◌, ◌≤◌, ◌<◌}
use native.Mathlib.Omega.{arith}
use lib.Dec.{ltb}
use borrow.Author.Tests.{lt-ltb}
use Rattle.laws.specs.Below.{any_below}
use Rattle.laws.specs.Bits.{bit}
use Rattle.laws.proofs.Bools.{clash, and_both}
use Rattle.laws.proofs.Below.{any_at, any_of}
use Rattle.railway.specs.declared.Railway.{Railway}
use Rattle.railway.specs.Record.{weight_of}
use Rattle.railway.specs.Passing.{entered}
use Rattle.game.specs.Game.{Outcome, may}
use Rattle.game.specs.Claim.{figure_of, Keeps}
use Rattle.game.specs.Local.{is_within}
use Rattle.game.specs.Placement.{shared}
use Rattle.game.specs.Setting.{Setting, heads_for, may_move}
use Rattle.game.specs.Moves.{enters, move_of, game_of}
use Rattle.game.proofs.Local.{within-is, is-within, may-train, may-allowed, keeps-test, test-keeps}
use Rattle.game.proofs.Accepted.{Facts}
use Rattle.game.proofs.Setting.{move_same}
use Rattle.game_tables.specs.Entries.{setting_at, entry_from}
use Rattle.game_tables.specs.Find.{try_open, ends_good, moving, is_good, GoodMoves}
use Rattle.game_tables.proofs.Entries.{setting-plus, setting-may}
use Rattle.game_tables.proofs.Find.{bits_keep, try-cases}

module _ (r : Railway) (ok : Facts r) (p : ℕ) (apart : shared r p ≡ false) (opens : ℕ → Bool) where
  abbrev setting : (ℕ → Bool) → Setting
  setting plus = setting_at r p (entry_from r plus opens)

  -- WHO MAY MOVE
  pub moving-of : (plus : ℕ → Bool) (t : ℕ) → may (game_of r) p (setting_at r p (entry_from r plus opens)) t ≡ true → (t < r.trains) × (moving r p opens t ≡ true)
  moving-of plus t m =
      let l : t < r.trains = may-train (game_of r) p (setting plus) t m in
      (l, sym (setting-may r p apart ok.few-points plus opens t l) ∙ may-allowed (game_of r) p (setting plus) t m)

  pub of-moving : (plus : ℕ → Bool) (t : ℕ) → t < r.trains → moving r p opens t ≡ true → may (game_of r) p (setting_at r p (entry_from r plus opens)) t ≡ true
  of-moving plus t l e = and_both (ltb t r.trains) (may_move r p (setting plus) t) (lt-ltb t r.trains l) (setting-may r p apart ok.few-points plus opens t l ∙ e)

  module _ (F : ℕ → Option ℕ) (n : ℕ) where
    -- WHERE A MOVE ENDS
    enters-good : (t : ℕ) (o : Option ℕ) → is_within n (weight_of r t) (figure_of F (enters r p t o)) ≡ is_good (ends_good r F p n t) o
    enters-good t none = refl
    enters-good t (some x) = refl

    pub good-is : (plus : ℕ → Bool) (t : ℕ)
        → is_within n (weight_of r t) (figure_of F (move_of r p (setting_at r p (entry_from r plus opens)) t))
        ≡ is_good (ends_good r F p n t) (entered r plus (heads_for r p t))
    unfolding move_of
    good-is plus t =
        ap (λ (o : Outcome). is_within n (weight_of r t) (figure_of F o)) (move_same r ok (setting plus) (record { plus = plus; is_open = λ i. false }) (setting-plus r ok.few-points plus opens p) p t)
        ∙ enters-good t (entered r plus (heads_for r p t))

    -- POINTS THAT KEEP THE FIGURE, exactly
    pub keeps-moves : (plus : ℕ → Bool) → Keeps (game_of r) F p (setting_at r p (entry_from r plus opens)) n → GoodMoves r F p n opens plus
    keeps-moves plus k =
        let m = moving-of plus k.one-may.0 k.one-may.1 in
        record {
          some-moves = any_of (moving r p opens) r.trains k.one-may.0 m.0 m.1;
          each-good = λ t l e. sym (good-is plus t) ∙ within-is n (weight_of r t) (figure_of F (move_of r p (setting plus) t)) (k.all-within t (of-moving plus t l e));
        }

    pub moves-keep : (plus : ℕ → Bool) → GoodMoves r F p n opens plus → Keeps (game_of r) F p (setting_at r p (entry_from r plus opens)) n
    moves-keep plus g =
        let w = any_at (moving r p opens) r.trains g.some-moves in
        record {
          one-may = (w.0, of-moving plus w.0 w.1 w.2);
          all-within = λ t m. let a = moving-of plus t m in is-within n (weight_of r t) (figure_of F (move_of r p (setting plus) t)) (good-is plus t ∙ g.each-good t a.0 a.1);
        }

    bits-move : (b : ℕ) → bits_keep r F p n opens b ≡ true → GoodMoves r F p n opens (bit b)
    bits-move b e = keeps-moves (bit b) (test-keeps (game_of r) F p (setting (bit b)) n e)

    move-bits : (b : ℕ) → GoodMoves r F p n opens (bit b) → bits_keep r F p n opens b ≡ true
    move-bits b g = keeps-test (game_of r) F p (setting (bit b)) n (moves-keep (bit b) g)

    -- A TRY finds the smallest of them, if there are any
    pub try-least : (b : ℕ) → b < 2 ^ r.points → GoodMoves r F p n opens (bit b) → ((c : ℕ) → c < 2 ^ r.points → GoodMoves r F p n opens (bit c) → b ≤ c)
        → try_open r F p n opens ≡ some (entry_from r (bit b) opens)
    try-least b l g least = elim (try-cases r F p n opens) [
      | inl x ↦
          let z : x.0 ≡ b = omega (arith, least x.0 x.1.small (bits-move x.0 x.1.keeps), x.1.least b l (move-bits b g)) in
          rw z at x.1.found
      | inr x ↦ clash (move-bits b g) (x.1 b l)
    ]

    pub try-none : ((c : ℕ) → c < 2 ^ r.points → GoodMoves r F p n opens (bit c) → ⊥) → try_open r F p n opens ≡ none
    try-none h = elim (try-cases r F p n opens) [
      | inl x ↦ absurd (h x.0 x.1.small (bits-move x.0 x.1.keeps))
      | inr x ↦ x.0
    ]

    -- so nothing where nobody may move
    pub nobody-moves : any_below (moving r p opens) r.trains ≡ false → try_open r F p n opens ≡ none
    nobody-moves e = try-none (λ c l g. clash g.some-moves e)
