-- A plan that is read piece by piece: the calls for its pieces are those of check_text/Pieces, over the bytes that have come, so they decide it.
-- Assumes nothing.
use mathlib.Core.Path.{◌≡◌, refl, sym, ◌∙◌, ap, subst}
use mathlib.Core.Bool.{Bool, true, false, cond, not, ◌&&◌}
use mathlib.Core.List.{List, ◌++◌}
use Prim.Native.Nat.{ℕ, suc, ◌+◌, ◌-◌, ◌≤◌, ◌<◌}
use native.Mathlib.Omega.{arith}
use lib.Dec.{ltb}
use lib.ListN.{length, take, drop, length-append, length-drop, length-take}
use lib.Seq.{length-take-le, take-add, take_at}
use borrow.Author.Tests.{ltb-true}
use Rattle.laws.proofs.Bools.{clash, and-true}
use Rattle.railway.specs.declared.Railway.{Railway}
use Rattle.plan.specs.TestAnswer.{TestAnswer}
use Rattle.plan.specs.Checker.{Checking}
use Rattle.check_text.specs.Pieces.{PiecePost, EndPost, Coming, nothing_yet, one_more}
use Rattle.check_text.proofs.Cut.{drop-take}
use Rattle.check_text.proofs.Pieces.{pieces-decide, piece-within}
use Rattle.check_files.specs.Hearing.{HeardPlan, MoreRead, Turned}

-- the lines that are taken lie within what has come
pub taken-within : (r : Railway) (c : Checking) (plan : List ℕ) (at end n : ℕ) (stopped : Bool) (c' : Checking) → PiecePost r c (take (end - at) (drop at plan)) n stopped c' → n ≤ end - at
taken-within r c plan at end n stopped c' p =
    let h = piece-within r c (take (end - at) (drop at plan)) n stopped c' p in
    let l : length (take (end - at) (drop at plan)) ≤ end - at = simp length-take (omega arith) in
    omega (arith, h, l)

-- THE LOOP: so many bytes of the buffer have come, and so many of them were taken
pub record Listening (r : Railway) (size : ℕ) (start : Checking) (plan : List ℕ) (at have : ℕ) (c : Checking) : Type 0 where
  pub behind : at ≤ have
  pub within : have ≤ length plan
  pub sized : length plan ≡ size
  pub stopped : Bool
  pub calls : Coming r start (take have plan) at c stopped

-- one turn more than bytes that can come, as long as it goes on
abbrev pub turns_left : ℕ → ℕ → Bool → ℕ
turns_left size have going = cond going (suc (size - have)) 0

pub listening-start : (r : Railway) (start : Checking) (plan : List ℕ) → Listening r (length plan) start plan 0 0 start
listening-start r start plan = record { behind = omega arith; within = omega arith; sized = refl; stopped = false; calls = nothing_yet }

module _ (r : Railway) (size : ℕ) (start : Checking) (plan : List ℕ) (at have : ℕ) (c : Checking) (w : Listening r size start plan at have c) where
  module _ (plan' : List ℕ) (at' have' : ℕ) (going' : Bool) (c' : Checking) (t : Turned r plan at have c plan' at' have' going' c') where
    all_come : take have plan ++ take t.came (drop have plan') ≡ take have' plan'
    all_come =
        ap (λ (l : List ℕ). l ++ take t.came (drop have plan')) (sym t.read.stays) ∙ sym (take-add have t.came plan') ∙ ap (λ (n : ℕ). take n plan') (sym t.all)

    rest : take (have' - at) (drop at plan') ≡ drop at (take have plan ++ take t.came (drop have plan'))
    rest = sym (drop-take at have' plan' (omega (arith, w.behind, t.all))) ∙ ap (drop at) (sym all_come)

    no_more : t.bytes ≤ have' - at
    no_more = taken-within r c plan' at have' t.bytes t.stopped c' t.lines

    pub listening-next : Listening r size start plan' at' have' c'
    listening-next =
        record {
          behind = omega (arith, t.taken, no_more, w.behind, t.all);
          within = let h = t.read.within in omega (arith, h, t.all);
          sized = t.read.as_long ∙ w.sized;
          stopped = t.stopped;
          calls = subst (λ (n : ℕ). Coming r start (take have' plan') n c' t.stopped) (sym t.taken)
              (subst (λ (l : List ℕ). Coming r start l (at + t.bytes) c' t.stopped) all_come
              (one_more (take have plan) (take t.came (drop have plan')) at t.bytes c c' w.stopped t.stopped w.calls
              (subst (λ (l : List ℕ). PiecePost r c l t.bytes t.stopped c') rest t.lines)));
        }

    -- it goes on only when more has come
    pub listening-less : (going : Bool) → going ≡ true → turns_left size have' going' < turns_left size have going
    listening-less going e = go going' refl
      where
        now-left : turns_left size have going ≡ suc (size - have)
        now-left = rw e refl

        go : (b : Bool) → going' ≡ b → turns_left size have' b < turns_left size have going
        go false q = omega (arith, now-left)
        go true q =
            let h = and-true (not t.stopped) (ltb 0 t.came) (sym t.goes_on ∙ q) in
            let l : 0 < t.came = ltb-true 0 t.came h.1 in
            omega (arith, now-left, l, t.all, t.read.within, t.read.as_long, w.sized)

  pub listening-end : (a : TestAnswer) → EndPost r c (take (have - at) (drop at plan)) a → HeardPlan r start plan have a
  listening-end a q = (
    w.within,
    λ figs sets made e₁ e₂ p.
        (pieces-decide r figs sets made start e₁ e₂ p (take have plan) at c w.stopped w.calls).answer a
        (subst (λ (l : List ℕ). EndPost r c l a) (sym (drop-take at have plan w.behind)) q),
  )

-- ONE PIECE: what was there stays in front of what is read behind it, and so does what stands behind the piece
pub more-read : (plan piece : List ℕ) (have end n : ℕ) → have ≤ end → end ≤ length plan → length piece ≡ length (take (end - have) (drop have plan)) → n ≤ length piece
    → MoreRead plan have n (take have plan ++ (piece ++ drop (end - have) (drop have plan)))
more-read plan piece have end n l within same m =
    let rest = drop (end - have) (drop have plan) in
    let f : length (take have plan) ≡ have = length-take-le have plan (omega arith) in
    let k : length (drop have plan) ≡ length plan - have = length-drop have plan in
    let e : length piece ≡ end - have = same ∙ length-take-le (end - have) (drop have plan) (omega (arith, k)) in
    let d : length rest ≡ length (drop have plan) - (end - have) = length-drop (end - have) (drop have plan) in
    let b : length (piece ++ rest) ≡ length piece + length rest = length-append piece rest in
    let a : length (take have plan ++ (piece ++ rest)) ≡ length plan = length-append (take have plan) (piece ++ rest) ∙ omega (arith, f, b, e, d, k) in
    record { within = omega (arith, a, m, e); as_long = a; stays = take_at (take have plan) (piece ++ rest) have f }

pub still-stops : (stopped : Bool) (n : ℕ) → stopped ≡ false → ltb 0 n ≡ (not stopped && ltb 0 n)
still-stops true n e = clash refl e
still-stops false n e = refl
