-- Tables made round by round agree with every single turn, and no more rounds are needed than the largest weight for each placement. Round n
-- gives figure n where some setting keeps n. A figure was given in its own round and stays, so a setting that keeps figure j by the whole table
-- keeps it by the table of round j - 1; as many rounds as the largest weight add a placement, or no later one does. Assumes nothing.
use mathlib.Core.Path.{◌≡◌, refl, sym, ◌∙◌, subst}
use mathlib.Core.Logic.{◌⊎◌, inl, inr}
use mathlib.Core.Bool.{Bool, true, false, cond, not, ◌&&◌}
use mathlib.Core.Option.{Option, none, some}
use Prim.Native.Nat.{ℕ, zero, suc, ◌+◌, ◌*◌, ◌≤◌, ◌<◌}
use native.Mathlib.Omega.{arith}
use native.Mathlib.Decide.{le_ind}
use native.Mathlib.Nat.{mul-suc, mul-le-mul_left}
use Rattle.laws.specs.Below.{count_below, lowest, or_else}
use Rattle.laws.proofs.Bools.{bool?, option?, lt?, clash, some-none}
use Rattle.laws.proofs.Below.{lowest-cases, count-le, count-more}
use Rattle.game.specs.Game.{Game, home, over}
use Rattle.game.specs.Claim.{Keeps}
use Rattle.game.specs.Local.{Costs, Solved}
use Rattle.game.proofs.Local.{may-train, no-keeps-zero, keeps-map}

abbrev pub is_some : Option ℕ → Bool
is_some none = false
is_some (some n) = true

-- figure n, where a setting was found; a setting's entry, zero where none was found
abbrev pub given : ℕ → Option ℕ → Option ℕ
given n none = none
given n (some s) = some n

abbrev pub or_zero : Option ℕ → ℕ
or_zero none = 0
or_zero (some s) = s

-- What a search for an entry has to do, for any table; an entry stands for a setting.
pub record Searches {S : Type 0} (g : Game S) (meant : ℕ → ℕ → S) (find : (ℕ → Option ℕ) → ℕ → ℕ → Option ℕ) : Type 0 where
  pub sound : (F : ℕ → Option ℕ) (p n v : ℕ) → p < g.placements → find F p n ≡ some v → Keeps g F p (meant p v) n
  pub complete : (F : ℕ → Option ℕ) (p n : ℕ) (s : S) → p < g.placements → Keeps g F p s n → (v : ℕ) × (find F p n ≡ some v)

-- No weight is larger than suc gap: after so many rounds that add nothing, no round adds anything.
abbrev pub AtMostWeight : {S : Type 0} → Game S → ℕ → Type 0
AtMostWeight g gap = (t : ℕ) → t < g.trains → g.weight t ≤ suc gap

module _ {S : Type 0} (g : Game S) (gap : ℕ) (find : (ℕ → Option ℕ) → ℕ → ℕ → Option ℕ) where
  -- One round: who has a figure keeps it, and n goes to whoever has none yet and a setting that keeps n.
  abbrev pub round : ℕ → (ℕ → Option ℕ) → ℕ → Option ℕ
  round n F p = or_else (F p) (cond (over g p) none (given n (find F p n)))

  -- The table after n rounds; before the first, home has 0.
  unfoldable pub table : ℕ → ℕ → Option ℕ
  table zero p = cond (home g p) (some 0) none
  table (suc n) p = round (suc n) (table n) p

  -- The lowest placement, if any, that one of the next gap + 1 rounds adds.
  abbrev pub added : ℕ → Option ℕ
  added n = lowest (λ p. not (is_some (table n p)) && is_some (table (suc (n + gap)) p)) g.placements

  -- Go on from round n, gap + 1 rounds at a time and d times at most, until they add nothing.
  unfoldable pub settle : ℕ → ℕ → ℕ
  settle zero n = n
  settle (suc d) n = cond (is_some (added n)) (settle d (suc (n + gap))) n

  abbrev pub rounds : ℕ
  rounds = settle g.placements 0

  abbrev pub figures : ℕ → Option ℕ
  figures = table rounds

  abbrev pub setting_for : (ℕ → Option ℕ) → ℕ → Option ℕ → ℕ
  setting_for F p none = 0
  setting_for F p (some n) = or_zero (find F p n)

  abbrev pub settings : ℕ → ℕ
  settings p = setting_for figures p (figures p)

same_some : {o : Option ℕ} {m n : ℕ} → o ≡ some m → o ≡ some n → m ≡ n
same_some p q = cc

module _ {S : Type 0} (g : Game S) (costs : Costs g) (gap : ℕ) (most : AtMostWeight g gap) (meant : ℕ → ℕ → S) (find : (ℕ → Option ℕ) → ℕ → ℕ → Option ℕ) (right : Searches g meant find) where
  abbrev pub tab : ℕ → ℕ → Option ℕ
  tab = table g gap find

  -- a figure stays
  pub stays : (n p j : ℕ) → tab n p ≡ some j → tab (suc n) p ≡ some j
  unfolding table
  stays n p j e = rw e

  later : (n m p j : ℕ) → n ≤ m → tab n p ≡ some j → tab m p ≡ some j
  later n m p j l e = le_ind (λ k. tab k p ≡ some j) e (λ k h. stays k p j) m l

  -- what a round adds
  new : (n p : ℕ) → tab n p ≡ none → (tab (suc n) p ≡ none) ⊎ ((over g p ≡ false) × (tab (suc n) p ≡ some (suc n)) × ((s : ℕ) × (find (tab n) p (suc n) ≡ some s)))
  unfolding table
  new n p e = elim (bool? (over g p)) [
    | inl o ↦ inl (rw (e, o))
    | inr o ↦ elim (option? (find (tab n) p (suc n))) [
      | inl f ↦ inl (rw (e, o, f))
      | inr f ↦ inr (o, rw (e, o, f.1), f)
    ]
  ]

  -- figures after n rounds are at most n
  pub range : (n p j : ℕ) → tab n p ≡ some j → j ≤ n
  unfolding table
  range zero p j e = elim (bool? (home g p)) [
    | inl h ↦ let z : j ≡ 0 = same_some e (rw h) in omega arith
    | inr h ↦ some-none e (rw h)
  ]
  range (suc n) p j e = elim (option? (tab n p)) [
    | inl f ↦ elim (new n p f) [ inl x ↦ some-none e x | inr x ↦ let z : j ≡ suc n = same_some e x.1 in omega arith ]
    | inr f ↦ let z : j ≡ f.0 = same_some e (stays n p f.0 f.1) in let l : f.0 ≤ n = range n p f.0 f.1 in omega arith
  ]

  -- a figure was given in its own round
  back : (n p j : ℕ) → tab n p ≡ some j → tab j p ≡ some j
  back zero p j e = let l : j ≤ 0 = range zero p j e in let z : 0 ≡ j = omega arith in subst (λ (k : ℕ). tab k p ≡ some j) z e
  back (suc n) p j e = elim (option? (tab n p)) [
    | inl f ↦ elim (new n p f) [
      | inl x ↦ some-none e x
      | inr x ↦ let z : suc n ≡ j = same_some x.1 e in subst (λ (k : ℕ). tab k p ≡ some j) z e
    ]
    | inr f ↦ let z : f.0 ≡ j = same_some (stays n p f.0 f.1) e in back n p j (rw z at f.1)
  ]

  -- where a setting keeps the next round's number, that round leaves a figure
  hit : (n p : ℕ) (s : S) → p < g.placements → over g p ≡ false → Keeps g (tab n) p s (suc n) → (j : ℕ) × (tab (suc n) p ≡ some j)
  unfolding table
  hit n p s hp o k = elim (option? (tab n p)) [
    | inl f ↦ let r : (r : ℕ) × (find (tab n) p (suc n) ≡ some r) = right.complete (tab n) p (suc n) s hp k in (suc n, rw (f, o, r.1))
    | inr f ↦ (f.0, stays n p f.0 f.1)
  ]

  -- a placement of figure i + 1 has it by a setting that was found
  found : (i p : ℕ) → p < g.placements → tab (suc i) p ≡ some (suc i) → (s : S) × Keeps g (tab i) p s (suc i)
  found i p hp e = elim (option? (tab i p)) [
    | inl f ↦ elim (new i p f) [ inl x ↦ some-none e x | inr x ↦ (meant p x.2.0, right.sound (tab i) p (suc i) x.2.0 hp x.2.1) ]
    | inr f ↦ let l : f.0 ≤ i = range i p f.0 f.1 in let z : suc i ≡ f.0 = same_some e (stays i p f.0 f.1) in absurd (omega arith)
  ]

  abbrev pub Stable : ℕ → Type 0
  Stable n = (p : ℕ) → p < g.placements → tab (suc (n + gap)) p ≡ tab n p

  lost-none : (n p : ℕ) → g.is_lost p ≡ true → tab n p ≡ none
  unfolding table
  lost-none zero p e = rw e
  lost-none (suc n) p e = rw (lost-none n p e, e)

  home-zero : (n p : ℕ) → home g p ≡ true → tab n p ≡ some 0
  unfolding table
  home-zero n p e = later 0 n p 0 (omega arith) (rw e)

  kept : (n p j : ℕ) → p < g.placements → tab n p ≡ some j → home g p ≡ false → (s : S) × Keeps g (tab n) p s j
  unfolding table
  kept n p zero hp e h = some-none (back n p 0 e) (rw h)
  kept n p (suc i) hp e h =
      let l : suc i ≤ n = range n p (suc i) e in
      let f : (s : S) × Keeps g (tab i) p s (suc i) = found i p hp (back n p (suc i) e) in
      (f.0, keeps-map g (tab i) (tab n) p f.0 (suc i) (suc i) (λ t q j m e eq lj. (later i n q j (omega arith) eq, lj)) f.1)

  setting-keeps : (n p j : ℕ) → p < g.placements → tab n p ≡ some j → home g p ≡ false → Keeps g (tab n) p (meant p (setting_for g gap find (tab n) p (tab n p))) j
  setting-keeps n p j hp e h =
      let k : (s : S) × Keeps g (tab n) p s j = kept n p j hp e h in
      let r : (r : ℕ) × (find (tab n) p j ≡ some r) = right.complete (tab n) p j k.0 hp k.1 in
      rw (e, r.1) (right.sound (tab n) p j r.0 hp r.1)

  least : (n : ℕ) → Stable n → (p : ℕ) (s : S) (m : ℕ) → p < g.placements → over g p ≡ false → Keeps g (tab n) p s m → (j : ℕ) × (tab n p ≡ some j) × (j ≤ m)
  least n st p s zero hp o k = absurd (no-keeps-zero g (tab n) costs p s k)
  least n st p s (suc i) hp o k = elim (lt? i n) [
    | inl l ↦
        let k' : Keeps g (tab i) p s (suc i) =
        keeps-map g (tab n) (tab i) p s (suc i) (suc i) (λ t q j m x e lj. (
          later j i q j
              (let c : 1 ≤ g.weight t = costs t (may-train g p s t m) in omega arith) (back n q j e),
          lj,
        )) k in
        let r : (j : ℕ) × (tab (suc i) p ≡ some j) = hit i p s hp o k' in
        (r.0, later (suc i) n p r.0 l r.1, range (suc i) p r.0 r.1)
    | inr l ↦
        let k' : Keeps g (tab (n + gap)) p s (suc (n + gap)) = keeps-map g (tab n) (tab (n + gap)) p s (suc i) (suc (n + gap))
        (λ t q j m x e lj. (later n (n + gap) q j (omega arith) e, (let b : j ≤ n = range n q j e in let c : g.weight t ≤ suc gap = most t (may-train g p s t m) in omega arith))) k in
        let r : (j : ℕ) × (tab (suc (n + gap)) p ≡ some j) = hit (n + gap) p s hp o k' in
        let e : tab n p ≡ some r.0 = sym (st p hp) ∙ r.1 in
        let b : r.0 ≤ n = range n p r.0 e in
        (r.0, e, omega arith)
  ]

  -- a table that a further round leaves alone agrees with every single turn
  pub solved : (n : ℕ) → Stable n → Solved g (tab n) (λ p. meant p (setting_for g gap find (tab n) p (tab n p)))
  solved n st = record {
    lost-none = λ p hp. lost-none n p;
    home-zero = λ p hp. home-zero n p;
    kept = λ p j. setting-keeps n p j;
    least = least n st;
  }

-- How many placements have a figure.
abbrev pub count : (ℕ → Option ℕ) → ℕ → ℕ
count F k = count_below (λ p. is_some (F p)) k

some_is : (o : Option ℕ) → is_some o ≡ true → (j : ℕ) × (o ≡ some j)
some_is none e = clash e refl
some_is (some j) e = (j, refl)

new? : (a b : Option ℕ) → (not (is_some a) && is_some b) ≡ true → (a ≡ none) × ((j : ℕ) × (b ≡ some j))
new? none none e = clash e refl
new? none (some j) e = (refl, (j, refl))
new? (some i) b e = clash e refl

old? : (a b : Option ℕ) → (not (is_some a) && is_some b) ≡ false → ((j : ℕ) → a ≡ some j → b ≡ some j) → b ≡ a
old? none none e f = refl
old? none (some j) e f = clash refl e
old? (some i) b e f = f i refl

module _ {S : Type 0} (g : Game S) (costs : Costs g) (gap : ℕ) (most : AtMostWeight g gap) (meant : ℕ → ℕ → S) (find : (ℕ → Option ℕ) → ℕ → ℕ → Option ℕ) (right : Searches g meant find) where
  still : (n p : ℕ) → is_some (table g gap find n p) ≡ true → is_some (table g gap find (suc (n + gap)) p) ≡ true
  still n p e =
      let j : (j : ℕ) × (table g gap find n p ≡ some j) = some_is (table g gap find n p) e in
      let z : table g gap find (suc (n + gap)) p ≡ some j.0 =
      later g costs gap most meant find right n (suc (n + gap)) p j.0 (omega arith) j.1 in
      rw z

  -- gap + 1 rounds add one, or the table is stable
  added-cases : (n : ℕ)
      → ((is_some (added g gap find n) ≡ true) × (count (table g gap find n) g.placements < count (table g gap find (suc (n + gap))) g.placements))
      ⊎ ((is_some (added g gap find n) ≡ false) × Stable g costs gap most meant find right n)
  added-cases n = elim (lowest-cases (λ p. not (is_some (table g gap find n p)) && is_some (table g gap find (suc (n + gap)) p)) g.placements) [
    | inl r ↦
        let x : (table g gap find n r.0 ≡ none) × ((j : ℕ) × (table g gap find (suc (n + gap)) r.0 ≡ some j)) =
        new? (table g gap find n r.0) (table g gap find (suc (n + gap)) r.0) r.3 in
        inl (rw r.1, count-more (λ p. is_some (table g gap find n p)) (λ p. is_some (table g gap find (suc (n + gap)) p)) (still n) g.placements r.0 r.2 (rw x.0) (rw x.1.1))
    | inr r ↦ inr (rw r.0, λ p hp. old? (table g gap find n p) (table g gap find (suc (n + gap)) p) (r.1 p hp) (λ j. later g costs gap most meant find right n (suc (n + gap)) p j (omega arith)))
  ]

  settles : (d n i : ℕ) → i ≤ count (table g gap find n) g.placements → g.placements ≤ d + i → n ≤ suc gap * i
      → Stable g costs gap most meant find right (settle g gap find d n) × (settle g gap find d n ≤ suc gap * g.placements)
  unfolding settle
  settles zero n i c l b = elim (added-cases n) [
    | inl a ↦ absurd (omega (arith, count-le (λ p. is_some (table g gap find (suc (n + gap)) p)) g.placements, a.1))
    | inr a ↦ (a.1, omega (arith, small n i c b))
  ]
    where
      small : (n i : ℕ) → i ≤ count (table g gap find n) g.placements → n ≤ suc gap * i → n ≤ suc gap * g.placements
      small n i c b = let m : suc gap * i ≤ suc gap * g.placements = mul-le-mul_left (suc gap) (omega (arith, count-le (λ p. is_some (table g gap find n p)) g.placements)) in omega arith
  settles (suc d) n i c l b = elim (added-cases n) [
    | inl a ↦ rw a.0 (settles d (suc (n + gap)) (suc i) (omega (arith, a.1)) (omega arith) (let e : suc gap * suc i ≡ suc gap * i + suc gap = mul-suc (suc gap) i in omega arith))
    | inr a ↦ rw a.0 (a.1, small n i c b)
  ]
    where
      small : (n i : ℕ) → i ≤ count (table g gap find n) g.placements → n ≤ suc gap * i → n ≤ suc gap * g.placements
      small n i c b = let m : suc gap * i ≤ suc gap * g.placements = mul-le-mul_left (suc gap) (omega (arith, count-le (λ p. is_some (table g gap find n p)) g.placements)) in omega arith

  pub settled : Stable g costs gap most meant find right (rounds g gap find) × (rounds g gap find ≤ suc gap * g.placements)
  settled = settles g.placements 0 0 (omega arith) (omega arith) (omega arith)

  -- THE SECOND THEOREM: what is computed round by round agrees with every single turn.
  pub rounds-solved : Solved g (figures g gap find) (λ p. meant p (settings g gap find p))
  rounds-solved = solved g costs gap most meant find right (rounds g gap find) settled.0
