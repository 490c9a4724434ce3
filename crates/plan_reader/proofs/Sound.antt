-- What is read at the cursor is spelled there, with the rest of the text behind it: field after field, and of the trains and points one after the other.
-- Assumes nothing.
use mathlib.Core.Path.{◌≡◌, refl, sym, ◌∙◌, ap}
use mathlib.Core.Bool.{Bool, true, false, cond}
use mathlib.Core.List.{List, [], ◌∷◌, ◌++◌, map}
use Prim.Native.Nat.{ℕ, zero, suc, ◌+◌, ◌-◌, ◌*◌, ◌^◌, ◌≤◌, ◌<◌}
use native.Mathlib.Omega.{arith}
use native.Mathlib.Nat.{pow-succ', pow-le-pow_right}
use native.Mathlib.Numerals.{add-one}
use lib.Dec.{eqb, ltb}
use lib.ListN.{length, get_or, drop, replicate, length-replicate}
use lib.Seq.{drop-cons}
use borrow.Author.Tests.{ltb-true, ltb-false, eqb-true, eqb-false}
use Rattle.laws.specs.Bits.{from_bits}
use Rattle.laws.proofs.Bits.{bits_below}
use Rattle.text.specs.Text.{byte, decimal, tab, line_end}
use Rattle.text.specs.Reading.{bad, got, then, byte_at, number_at}
use Rattle.text.specs.Answers.{byte_inside}
use Rattle.text.proofs.Reading.{bad-got, on, stands, byte-sound, number-sound}
use Rattle.railway.specs.Bounds.{most_points, most_trains}
use Rattle.game_tables.specs.Entries.{train_bits}
use Rattle.game_tables.specs.Tables.{no_figure}
use Rattle.plan.specs.Lines.{or_byte, train_digit, open_field, sign, point_field, section_field}
use Rattle.plan_reader.specs.Walk.{word_at, number_tab, to_section, section_at, sections_at, to_figure, figure_at, trains_at, to_opens, opens_at, signs_at, points_at, fields_at, entry_at}
use Rattle.plan_reader.proofs.Fields.{open_digits, open-field, weigh, weighed, next_bit, weigh-none, none_open}
use Rattle.plan_reader.proofs.Taking.{byte-inside}

-- A section and the tab behind it, in front of a text; of a train that is not one of k, nothing
abbrev pub piece : ℕ → ℕ → ℕ → List ℕ → List ℕ
piece k t x rest = cond (ltb t k) (section_field x ++ (tab ∷ rest)) rest

module _ (text : List ℕ) where
  -- A BYTE that is passed stands inside the text
  pub byte-end : (b c x d : ℕ) → 0 < b → byte_at text b c ≡ got x d → d ≤ length text
  unfolding byte_at
  byte-end b c x d pos e = go (eqb (get_or text c 0) b) refl e
    where
      go : (p : Bool) → eqb (get_or text c 0) b ≡ p → cond p (got b (c + 1)) bad ≡ got x d → d ≤ length text
      go true h e = let z : c + 1 ≡ d = cc in omega (arith, byte-inside text c b (sym (eqb-true (get_or text c 0) b h)) pos)
      go false h e = bad-got refl e

  -- A WORD
  inside-sound : (b c x d : ℕ) → byte_inside text b c ≡ got x d → drop c text ≡ b ∷ drop d text
  unfolding byte_inside byte_at
  inside-sound b c x d e = go (ltb c (length text)) (eqb (get_or text c 0) b) refl refl e
    where
      go : (p q : Bool) → ltb c (length text) ≡ p → eqb (get_or text c 0) b ≡ q
          → cond p (cond q (got b (c + 1)) bad) bad ≡ got x d → drop c text ≡ b ∷ drop d text
      go true true h i e =
          let z : suc c ≡ d = sym (add-one c) ∙ (let y : c + 1 ≡ d = cc in y) in
          drop-cons text c 0 (ltb-true c (length text) h) ∙ (rw (eqb-true (get_or text c 0) b i, z))
      go true false h i e = bad-got refl e
      go false q h i e = bad-got refl e

  pub word_sound : (w : List ℕ) (c x d : ℕ) → word_at text w c ≡ got x d → drop c text ≡ w ++ drop d text
  unfolding word_at
  word_sound [] c x d e = let z : c ≡ d = cc in rw z
  word_sound (b ∷ w) c x d e =
      on (byte_inside text b c) (λ y c. word_at text w c) x d e
      (λ y k f e. inside-sound b c y k f ∙ ap (λ (l : List ℕ). b ∷ l) (word_sound w k x d e))

  -- A SECTION
  number-tab : (n c d : ℕ) → number_tab text 2 c ≡ got n d → drop c text ≡ decimal n ++ (tab ∷ drop d text)
  unfolding number_tab
  number-tab n c d e =
      on (number_at text 2 c) (λ n c. then (byte_at text tab c) (λ b c. got n c)) n d e (λ m b f e.
      on (byte_at text tab b) (λ x c. got m c) n d e (λ x a g e.
      let z : m ≡ n = cc in
      let y : a ≡ d = cc in
      (number-sound text c 2 m b (omega arith) f).text ∙ (rw (byte-sound text tab b x a (omega arith) g, z, y))))

  to-section : (s n a x d : ℕ) (p q : Bool) → eqb n 0 ≡ p → cond p bad (cond q (got (n - 1) a) bad) ≡ got x d → (n ≡ suc x) × (a ≡ d)
  to-section s n a x d true q h e = bad-got refl e
  to-section s n a x d false true h e = let z : n - 1 ≡ x = cc in let y : a ≡ d = cc in let i = eqb-false n 0 h in (omega arith, y)
  to-section s n a x d false false h e = bad-got refl e

  section-sound : (s k t c x d : ℕ) → section_at text s k t c ≡ got x d → drop c text ≡ piece k t x (drop d text)
  unfolding section_at
  section-sound s k t c x d e = go (ltb t k) e
    where
      go : (p : Bool) → cond p (then (number_tab text 2 c) (to_section s)) (got 0 c) ≡ got x d
          → drop c text ≡ cond p (section_field x ++ (tab ∷ drop d text)) (drop d text)
      go true e =
          on (number_tab text 2 c) (to_section s) x d e (λ n a f e.
          let i = to-section s n a x d (eqb n 0) (ltb (n - 1) s) refl e in
          number-tab n c a f ∙ (rw (i.0, i.1)))
      go false e = let z : c ≡ d = cc in rw z

  pub sections-sound : (s k c x y z w d : ℕ) → sections_at text s k c ≡ got (x ∷ y ∷ z ∷ w ∷ []) d
      → drop c text ≡ piece k 0 x (piece k 1 y (piece k 2 z (piece k 3 w (drop d text))))
  unfolding sections_at
  sections-sound s k c x y z w d e =
      on (section_at text s k 0 c) _ (x ∷ y ∷ z ∷ w ∷ []) d e (λ x' c₁ ex e.
      on (section_at text s k 1 c₁) _ (x ∷ y ∷ z ∷ w ∷ []) d e (λ y' c₂ ey e.
      on (section_at text s k 2 c₂) _ (x ∷ y ∷ z ∷ w ∷ []) d e (λ z' c₃ ez e.
      on (section_at text s k 3 c₃) _ (x ∷ y ∷ z ∷ w ∷ []) d e (λ w' c₄ ew e.
      let a : x' ≡ x = cc in
      let b : y' ≡ y = cc in
      let f : z' ≡ z = cc in
      let g : w' ≡ w = cc in
      let h : c₄ ≡ d = cc in
      rw (← a, ← b, ← f, ← g, ← h)
      (section-sound s k 0 c x' c₁ ex ∙ ap (piece k 0 x')
      (section-sound s k 1 c₁ y' c₂ ey ∙ ap (piece k 1 y')
      (section-sound s k 2 c₂ z' c₃ ez ∙ ap (piece k 2 z') (section-sound s k 3 c₃ w' c₄ ew))))))))

  -- A FIGURE
  pub figure-sound : (c n d : ℕ) → figure_at text c ≡ got n d → drop c text ≡ decimal n ++ drop d text
  unfolding figure_at
  figure-sound c n d e = on (number_at text 9 c) to_figure n d e (λ m b f e. go m b (ltb m no_figure) f e)
    where
      go : (m b : ℕ) (p : Bool) → number_at text 9 c ≡ got m b → cond p (got m b) bad ≡ got n d → drop c text ≡ decimal n ++ drop d text
      go m b true f e = let z : m ≡ n = cc in let y : b ≡ d = cc in (number-sound text c 9 n d (omega arith) (f ∙ (rw (z, y)))).text
      go m b false f e = bad-got refl e

  -- OPEN TRAINS, from train t on
  record Trains (left t v c w d : ℕ) : Type 0 where
    opens : List Bool
    long : length opens ≡ left
    spelled : drop c text ≡ open_digits t opens ++ drop d text
    bits : w ≡ v + weigh (2 ^ (train_bits + t)) opens

  trains-step : (left t v c w d : ℕ) (p : Bool) → eqb (get_or text c 0) (train_digit t) ≡ p
      → (trains_at text left (suc t) (v + 2 ^ (train_bits + t)) (c + 1) ≡ got w d → Trains left (suc t) (v + 2 ^ (train_bits + t)) (c + 1) w d)
      → (trains_at text left (suc t) v c ≡ got w d → Trains left (suc t) v c w d)
      → cond p (trains_at text left (suc t) (v + 2 ^ (train_bits + t)) (c + 1)) (trains_at text left (suc t) v c) ≡ got w d → Trains (suc left) t v c w d
  unfolding open_digits weigh
  trains-step left t v c w d true h hit miss e =
      let x = hit e in
      let b : w ≡ v + 2 ^ (train_bits + t) + weigh (2 * 2 ^ (train_bits + t)) x.opens = rw (next_bit t) at x.bits in
      record {
        opens = true ∷ x.opens;
        long = ap suc x.long;
        spelled = stands text c (train_digit t) (omega arith) (eqb-true (get_or text c 0) (train_digit t) h) ∙ ap (λ (l : List ℕ). train_digit t ∷ l) x.spelled;
        bits = b ∙ omega arith;
      }
  trains-step left t v c w d false h hit miss e =
      let x = miss e in
      let b : w ≡ v + weigh (2 * 2 ^ (train_bits + t)) x.opens = rw (next_bit t) at x.bits in
      record { opens = false ∷ x.opens; long = ap suc x.long; spelled = x.spelled; bits = b ∙ omega arith }

  trains-sound : (left t v c w d : ℕ) → trains_at text left t v c ≡ got w d → Trains left t v c w d
  unfolding trains_at open_digits weigh
  trains-sound zero t v c w d e = let z : c ≡ d = cc in let y : v ≡ w = cc in record { opens = []; long = refl; spelled = rw z; bits = omega arith }
  trains-sound (suc left) t v c w d e =
      trains-step left t v c w d (eqb (get_or text c 0) (train_digit t)) refl
      (trains-sound left (suc t) (v + 2 ^ (train_bits + t)) (c + 1) w d) (trains-sound left (suc t) v c w d) e

  -- the field of open trains
  pub record Opens (k c o d : ℕ) : Type 0 where
    pub opens : List Bool
    pub long : length opens ≡ k
    pub spelled : drop c text ≡ open_field opens ++ drop d text
    pub bits : o ≡ weigh (2 ^ train_bits) opens

  some-digits : (k c w b o d : ℕ) (p : Bool) → eqb w 0 ≡ p → Trains k 0 0 c w b → cond p bad (got w b) ≡ got o d → Opens k c o d
  some-digits k c w b o d true h x e = bad-got refl e
  some-digits k c w b o d false h x e =
      let i = eqb-false w 0 h in
      let y : w ≡ o = cc in
      let z : b ≡ d = cc in
      record {
        opens = x.opens;
        long = x.long;
        spelled =
            rw (← z) (x.spelled ∙ ap (λ (l : List ℕ). l ++ drop b text)
            (sym (open-field x.opens ∙ filled (open_digits 0 x.opens) refl
            (λ j. i (x.bits ∙ omega (arith, j))))));
        bits = sym y ∙ x.bits ∙ omega arith;
      }
    where
      filled : (l : List ℕ) → open_digits 0 x.opens ≡ l → (weigh (2 ^ (train_bits + 0)) x.opens ≡ 0 → ⊥) → or_byte (byte "0") l ≡ l
      filled [] f j = absurd (j (weigh-none x.opens 0 (2 ^ (train_bits + 0)) f))
      filled (y ∷ l) f j = refl

  weigh-false : (k x : ℕ) → weigh x (replicate k false) ≡ 0
  weigh-false k x = weigh-none (replicate k false) 0 x (none_open k 0)

  pub opens-sound : (k c o d : ℕ) → opens_at text k c ≡ got o d → Opens k c o d
  unfolding opens_at
  opens-sound k c o d e = go (eqb (get_or text c 0) (byte "0")) refl e
    where
      go : (p : Bool) → eqb (get_or text c 0) (byte "0") ≡ p → cond p (got 0 (c + 1)) (then (trains_at text k 0 0 c) to_opens) ≡ got o d → Opens k c o d
      go true h e =
          let z : c + 1 ≡ d = cc in
          let y : 0 ≡ o = cc in
          record {
            opens = replicate k false;
            long = length-replicate k false;
            spelled =
                rw (← z) (stands text c (byte "0") (omega arith) (eqb-true (get_or text c 0) (byte "0") h)
                ∙ ap (λ (l : List ℕ). l ++ drop (c + 1) text) (sym (open-field (replicate k false) ∙ ap (or_byte (byte "0")) (none_open k 0))));
            bits = sym y ∙ sym (weigh-false k (2 ^ train_bits));
          }
      go false h e = on (trains_at text k 0 0 c) to_opens o d e (λ w b f e. some-digits k c w b o d (eqb w 0) refl (trains-sound k 0 0 c w b f) e)

  -- POINTS, from point i on
  record Signs (left i v c w d : ℕ) : Type 0 where
    points : List Bool
    long : length points ≡ left
    spelled : drop c text ≡ map sign points ++ drop d text
    bits : w ≡ v + weigh (2 ^ i) points

  sign-before : (left i v u c w d : ℕ) (b : Bool) → get_or text c 0 ≡ sign b → 0 < sign b → u ≡ v + cond b (2 ^ i) 0
      → Signs left (suc i) u (c + 1) w d → Signs (suc left) i v c w d
  unfolding weigh
  sign-before left i v u c w d b h pos j x =
      let z : 2 ^ suc i ≡ 2 * 2 ^ i = pow-succ' 2 i in
      let y : w ≡ u + weigh (2 * 2 ^ i) x.points = rw z at x.bits in
      record {
        points = b ∷ x.points;
        long = ap suc x.long;
        spelled = stands text c (sign b) pos h ∙ ap (λ (l : List ℕ). sign b ∷ l) x.spelled;
        bits = y ∙ (rw j (omega arith));
      }

  signs-step : (left i v c w d : ℕ) (p q : Bool) → eqb (get_or text c 0) (byte "+") ≡ p → eqb (get_or text c 0) (byte "-") ≡ q
      → (signs_at text left (suc i) (v + 2 ^ i) (c + 1) ≡ got w d → Signs left (suc i) (v + 2 ^ i) (c + 1) w d)
      → (signs_at text left (suc i) v (c + 1) ≡ got w d → Signs left (suc i) v (c + 1) w d)
      → cond p (signs_at text left (suc i) (v + 2 ^ i) (c + 1)) (cond q (signs_at text left (suc i) v (c + 1)) bad) ≡ got w d → Signs (suc left) i v c w d
  signs-step left i v c w d true q h g plus minus e =
      sign-before left i v (v + 2 ^ i) c w d true (eqb-true (get_or text c 0) (byte "+") h) (omega arith) refl
      (plus e)
  signs-step left i v c w d false true h g plus minus e =
      sign-before left i v v c w d false (eqb-true (get_or text c 0) (byte "-") g) (omega arith) (omega arith)
      (minus e)
  signs-step left i v c w d false false h g plus minus e = bad-got refl e

  signs-sound : (left i v c w d : ℕ) → signs_at text left i v c ≡ got w d → Signs left i v c w d
  unfolding signs_at weigh
  signs-sound zero i v c w d e = let z : c ≡ d = cc in let y : v ≡ w = cc in record { points = []; long = refl; spelled = rw z; bits = omega arith }
  signs-sound (suc left) i v c w d e =
      signs-step left i v c w d (eqb (get_or text c 0) (byte "+")) (eqb (get_or text c 0) (byte "-")) refl refl
      (signs-sound left (suc i) (v + 2 ^ i) (c + 1) w d) (signs-sound left (suc i) v (c + 1) w d) e

  -- the field of points
  pub record Points (m c p d : ℕ) : Type 0 where
    pub points : List Bool
    pub long : length points ≡ m
    pub spelled : drop c text ≡ point_field points ++ drop d text
    pub bits : p ≡ weigh 1 points

  some-signs : (ps : List Bool) (m : ℕ) → length ps ≡ m → (m ≡ 0 → ⊥) → point_field ps ≡ map sign ps
  some-signs [] m n z = absurd (z (sym n))
  some-signs (p ∷ ps) m n z = refl

  pub points-sound : (m c p d : ℕ) → points_at text m c ≡ got p d → Points m c p d
  unfolding points_at weigh
  points-sound m c p d e = go (eqb m 0) refl e
    where
      go : (q : Bool) → eqb m 0 ≡ q → cond q (then (byte_at text (byte ".") c) (λ b c. got 0 c)) (signs_at text m 0 0 c) ≡ got p d → Points m c p d
      go true h e =
          on (byte_at text (byte ".") c) (λ b c. got 0 c) p d e (λ x b f e.
          let z : b ≡ d = cc in
          let y : 0 ≡ p = cc in
          record { points = []; long = sym (eqb-true m 0 h); spelled = rw (← z) (byte-sound text (byte ".") c x b (omega arith) f); bits = sym y })
      go false h e =
          let x = signs-sound m 0 0 c p d e in
          record {
            points = x.points;
            long = x.long;
            spelled = x.spelled ∙ ap (λ (l : List ℕ). l ++ drop d text) (sym (some-signs x.points m x.long (eqb-false m 0 h)));
            bits = x.bits ∙ omega arith;
          }

  -- THE ENTRY: both fields, and the line end
  pub record Entry (k m c v d : ℕ) : Type 0 where
    pub opens : List Bool
    pub points : List Bool
    pub each-train : length opens ≡ k
    pub each-point : length points ≡ m
    pub spelled : drop c text ≡ tab ∷ (open_field opens ++ (tab ∷ (point_field points ++ (line_end ∷ drop d text))))
    pub bits : v ≡ weigh 1 points + weigh (2 ^ train_bits) opens
    pub inside : d ≤ length text

  fields-sound : (k m c v d : ℕ) → fields_at text k m c ≡ got v d → Entry k m c v d
  unfolding fields_at
  fields-sound k m c v d e =
      on (byte_at text tab c) _ v d e (λ x c₁ e₁ e.
      on (opens_at text k c₁) _ v d e (λ o c₂ e₂ e.
      on (byte_at text tab c₂) _ v d e (λ y c₃ e₃ e.
      on (points_at text m c₃) _ v d e (λ p c₄ e₄ e.
      on (byte_at text line_end c₄) _ v d e (λ z c₅ e₅ e.
      let a : p + o ≡ v = cc in
      let b : c₅ ≡ d = cc in
      let os = opens-sound k c₁ o c₂ e₂ in
      let ps = points-sound m c₃ p c₄ e₄ in
      record {
        opens = os.opens;
        points = ps.points;
        each-train = os.long;
        each-point = ps.long;
        spelled = byte-sound text tab c x c₁ (omega arith) e₁ ∙ ap (λ (l : List ℕ). tab ∷ l) (os.spelled ∙ ap (λ (l : List ℕ). open_field os.opens ++ l)
            (byte-sound text tab c₂ y c₃ (omega arith) e₃ ∙ ap (λ (l : List ℕ). tab ∷ l) (ps.spelled ∙ ap (λ (l : List ℕ). point_field ps.points ++ l)
            (byte-sound text line_end c₄ z c₅ (omega arith) e₅ ∙ ap (λ (n : ℕ). line_end ∷ drop n text) b))));
        bits = sym a ∙ (rw (← os.bits, ← ps.bits));
        inside = rw (← b) (byte-end line_end c₄ z c₅ (omega arith) e₅);
      })))))

  pub entry-sound : (k m c v d : ℕ) → entry_at text k m c ≡ got v d → Entry k m c v d
  unfolding entry_at
  entry-sound k m c v d e = go (ltb most_trains k) (ltb most_points m) e
    where
      go : (p q : Bool) → cond p bad (cond q bad (fields_at text k m c)) ≡ got v d → Entry k m c v d
      go true q e = bad-got refl e
      go false true e = bad-got refl e
      go false false e = fields-sound k m c v d e

-- BOUNDS: an entry fits into its bits
bits-few : (bs : List Bool) (most : ℕ) → length bs ≤ most → from_bits (λ i. get_or bs i false) (length bs) < 2 ^ most
bits-few bs most l =
    let a = bits_below (λ i. get_or bs i false) (length bs) in
    let b = pow-le-pow_right {n = 2} (omega arith) {i = length bs} {j = most} l in
    omega arith

module _ (text : List ℕ) where
  pub opens_small : (k c o d : ℕ) → opens_at text k c ≡ got o d → k ≤ most_trains → o < 2 ^ (train_bits + most_trains)
  opens_small k c o d e l =
      let x = opens-sound text k c o d e in
      let b = bits-few x.opens most_trains (omega (arith, x.long)) in
      omega (arith, x.bits, weighed (2 ^ train_bits) x.opens)

  pub points-small : (m c p d : ℕ) → points_at text m c ≡ got p d → m ≤ most_points → p < 2 ^ most_points
  points-small m c p d e l =
      let x = points-sound text m c p d e in
      let b = bits-few x.points most_points (omega (arith, x.long)) in
      omega (arith, x.bits, weighed 1 x.points)

  pub entry-small : (k m c v d : ℕ) → entry_at text k m c ≡ got v d → v < 4294967296
  unfolding entry_at
  entry-small k m c v d e = go (ltb most_trains k) (ltb most_points m) refl refl e
    where
      go : (p q : Bool) → ltb most_trains k ≡ p → ltb most_points m ≡ q → cond p bad (cond q bad (fields_at text k m c)) ≡ got v d → v < 4294967296
      go true q h i e = bad-got refl e
      go false true h i e = bad-got refl e
      go false false h i f =
          let x = entry-sound text k m c v d e in
          let a = bits-few x.opens most_trains (omega (arith, x.each-train, ltb-false most_trains k h)) in
          let b = bits-few x.points most_points (omega (arith, x.each-point, ltb-false most_points m i)) in
          omega (arith, x.bits, weighed (2 ^ train_bits) x.opens, weighed 1 x.points)
