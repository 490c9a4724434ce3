-- What is spelled at the cursor, with any text behind it, is read: each field up to a byte that is not its own. A train that is not open is passed over, for
-- a greater digit or the tab stands where its own would.
-- Assumes nothing.
use mathlib.Core.Path.{◌≡◌, refl, sym, ◌∙◌, ap}
use mathlib.Core.Logic.{inl, inr}
use mathlib.Core.Bool.{Bool, true, false}
use mathlib.Core.List.{List, [], ◌∷◌, ◌++◌, map, append_assoc}
use Prim.Native.Nat.{ℕ, suc, ◌+◌, ◌-◌, ◌*◌, ◌^◌, ◌≤◌, ◌<◌}
use native.Mathlib.Omega.{arith}
use native.Mathlib.Nat.{pow-succ'}
use lib.Dec.{ltb}
use lib.ListN.{length, get_or, drop, length-drop, drop_of_length-le, get_or-eq_default}
use lib.Seq.{drop-cons}
use borrow.Author.Tests.{lt-ltb, le-ltb, ltb-true, eq-eqb, ne_eqb}
use Rattle.laws.proofs.Bools.{lt?}
use Rattle.laws.proofs.Lists.{all_in, get_or-member}
use Rattle.text.specs.Text.{byte, decimal, tab, line_end, line}
use Rattle.text.specs.Reading.{is_digit, got, then, byte_at}
use Rattle.text.specs.Answers.{byte_inside}
use Rattle.text.proofs.Reading.{Lies, Reads, go_on, stop-here, here, past, byte-complete, number-complete}
use Rattle.railway.specs.declared.Railway.{Railway}
use Rattle.railway.specs.Bounds.{most_sections, most_points, most_trains}
use Rattle.railway.proofs.Rows.{Bounded}
use Rattle.game_tables.specs.Entries.{train_bits}
use Rattle.game_tables.specs.Tables.{no_figure}
use Rattle.plan.specs.Lines.{PlacementLine, placement_line, or_byte, train_digit, open_field, sign, point_field, section_field, spell, fits}
use Rattle.plan.proofs.Reading.{last_fields, fits-parts}
use Rattle.plan_reader.specs.Walk.{word_at, number_tab, to_section, section_at, sections_at, to_figure, figure_at, trains_at, to_opens, opens_at, signs_at, points_at, fields_at, entry_at}
use Rattle.plan_reader.proofs.Fields.{open_digits, open-field, first-other, weigh, next_bit, weigh-none, weigh-some, first-train}

module _ (text : List ℕ) where
  -- A WORD
  inside-complete : (b c : ℕ) (rest : List ℕ) → Lies text c (b ∷ rest) → Reads text (byte_inside text b c) b rest
  unfolding byte_inside
  inside-complete b c rest t =
      let n : length (drop c text) ≡ suc (length rest) = ap length t.text in
      rw (lt-ltb c (length text) (omega (arith, n, length-drop c text))) (byte-complete text b c rest t)

  pub word-complete : (w rest : List ℕ) (c : ℕ) → Lies text c (w ++ rest) → Reads text (word_at text w c) 0 rest
  unfolding word_at
  word-complete [] rest c t = stop-here t
  word-complete (b ∷ w) rest c t = go_on (λ x c. word_at text w c) (inside-complete b c (w ++ rest) t) (λ c t. word-complete w rest c t)

  -- A NUMBER and the tab behind it
  number-tab : (rest : List ℕ) (most n c : ℕ) → most < 10 → n < 10 ^ suc most
      → Lies text c (decimal n ++ (tab ∷ rest)) → Reads text (number_tab text most c) n rest
  unfolding number_tab is_digit
  number-tab rest most n c l h t =
      go_on (λ n c. then (byte_at text tab c) (λ b c. got n c)) (number-complete text (tab ∷ rest) refl most n c l h t)
      (λ c t. go_on (λ b c. got n c) (byte-complete text tab c rest t) (λ c t. stop-here t))

  -- A SECTION
  section-of : (rest : List ℕ) (s x c : ℕ) → x < s → Lies text c rest → Reads text (to_section s (suc x) c) x rest
  section-of rest s x c l t =
      let z : suc x - 1 ≡ x = omega arith in
      rw (ne_eqb (suc x) 0 (λ e. omega arith), z, lt-ltb x s l) (stop-here t)

  section-complete : (rest : List ℕ) (s k t x c : ℕ) → s ≤ most_sections → t < k → x < s
      → Lies text c (decimal (suc x) ++ (tab ∷ rest)) → Reads text (section_at text s k t c) x rest
  unfolding section_at
  section-complete rest s k t x c b h l i =
      rw (lt-ltb t k h) (go_on (to_section s) (number-tab rest 2 (suc x) c (omega arith) (omega arith) i) (λ c i. section-of rest s x c l i))

  -- A FIGURE, with a byte behind it that is no digit
  pub figure-complete : (rest : List ℕ) (n c : ℕ) → is_digit (get_or rest 0 0) ≡ false → n < no_figure
      → Lies text c (decimal n ++ rest) → Reads text (figure_at text c) n rest
  unfolding figure_at
  figure-complete rest n c stop l t =
      go_on to_figure (number-complete text rest stop 9 n c (omega arith) (omega arith) t) (λ c t. rw (lt-ltb n no_figure l) (stop-here t))

  -- OPEN TRAINS, from train t on
  trains-complete : (os : List Bool) (rest : List ℕ) (t v c : ℕ) → Lies text c (open_digits t os ++ (tab ∷ rest))
      → Reads text (trains_at text (length os) t v c) (v + weigh (2 ^ (train_bits + t)) os) (tab ∷ rest)
  unfolding trains_at open_digits weigh
  trains-complete [] rest t v c i = let z : v + 0 ≡ v = omega arith in rw z (stop-here i)
  trains-complete (true ∷ os) rest t v c i =
      let y : v + 2 ^ (train_bits + t) + weigh (2 ^ (train_bits + suc t)) os ≡ v +
      (2 ^ (train_bits + t) + weigh (2 * 2 ^ (train_bits + t)) os) = rw (next_bit t) (omega arith) in
      rw (eq-eqb (get_or text c 0) (train_digit t) (here i), ← y)
      (trains-complete os rest (suc t) (v + 2 ^ (train_bits + t)) (c + 1)
      (past (train_digit t ∷ []) (open_digits (suc t) os ++ (tab ∷ rest)) i))
  trains-complete (false ∷ os) rest t v c i =
      let y : v + weigh (2 ^ (train_bits + suc t)) os ≡ v + (0 + weigh (2 * 2 ^ (train_bits + t)) os) = rw (next_bit t) (omega arith) in
      rw (
        ne_eqb (get_or text c 0) (train_digit t)
            (λ e. first-other os rest t (suc t) (omega arith) (sym (here i) ∙ e)),
        ← y,
      )
      (trains-complete os rest (suc t) v c i)

  opens_by : (os : List Bool) (rest ds : List ℕ) (c : ℕ) → open_digits 0 os ≡ ds
      → Lies text c (or_byte (byte "0") ds ++ (tab ∷ rest))
      → Reads text (opens_at text (length os) c) (weigh (2 ^ train_bits) os) (tab ∷ rest)
  unfolding opens_at
  opens_by os rest [] c e i =
      rw (here i, weigh-none os 0 (2 ^ train_bits) e) (record { cursor = c + 1; is = refl; left = past (byte "0" ∷ []) (tab ∷ rest) i })
  opens_by os rest (d ∷ ds) c e i =
      let b = first-train os 0 d ds e in
      let w = weigh-some os 0 (2 ^ train_bits) d ds (omega arith) e in
      let z : 0 + weigh (2 ^ (train_bits + 0)) os ≡ weigh (2 ^ train_bits) os = omega arith in
      rw (ne_eqb (get_or text c 0) (byte "0") (λ f. omega (arith, here i, b)))
      (go_on to_opens (rw z at (trains-complete os rest 0 0 c
      (record { text = i.text ∙ ap (λ (l : List ℕ). l ++ (tab ∷ rest)) (sym e) })))
      (λ c i. rw (ne_eqb (weigh (2 ^ train_bits) os) 0 (λ f. omega (arith, w))) (stop-here i)))

  opens-complete : (os : List Bool) (rest : List ℕ) (c : ℕ) → Lies text c (open_field os ++ (tab ∷ rest))
      → Reads text (opens_at text (length os) c) (weigh (2 ^ train_bits) os) (tab ∷ rest)
  opens-complete os rest c i = opens_by os rest (open_digits 0 os) c refl (rw (open-field os) at i)

  -- POINTS, from point i on
  signs-complete : (ps : List Bool) (rest : List ℕ) (i v c : ℕ) → Lies text c (map sign ps ++ rest)
      → Reads text (signs_at text (length ps) i v c) (v + weigh (2 ^ i) ps) rest
  unfolding signs_at weigh
  signs-complete [] rest i v c t = let z : v + 0 ≡ v = omega arith in rw z (stop-here t)
  signs-complete (true ∷ ps) rest i v c t =
      let y : v + 2 ^ i + weigh (2 ^ suc i) ps ≡ v + (2 ^ i + weigh (2 * 2 ^ i) ps) = rw (pow-succ' 2 i) (omega arith) in
      rw (here t, ← y) (signs-complete ps rest (suc i) (v + 2 ^ i) (c + 1) (past (byte "+" ∷ []) (map sign ps ++ rest) t))
  signs-complete (false ∷ ps) rest i v c t =
      let y : v + weigh (2 ^ suc i) ps ≡ v + (0 + weigh (2 * 2 ^ i) ps) = rw (pow-succ' 2 i) (omega arith) in
      rw (here t, ← y) (signs-complete ps rest (suc i) v (c + 1) (past (byte "-" ∷ []) (map sign ps ++ rest) t))

  points-complete : (ps : List Bool) (rest : List ℕ) (c : ℕ) → Lies text c (point_field ps ++ rest) → Reads text (points_at text (length ps) c) (weigh 1 ps) rest
  unfolding points_at weigh
  points-complete [] rest c t = go_on (λ b c. got 0 c) (byte-complete text (byte ".") c rest t) (λ c t. stop-here t)
  points-complete (p ∷ ps) rest c t =
      let z : 0 + weigh (2 ^ 0) (p ∷ ps) ≡ weigh 1 (p ∷ ps) = omega arith in
      rw (ne_eqb (suc (length ps)) 0 (λ e. omega arith)) (rw z at (signs-complete (p ∷ ps) rest 0 0 c t))

  -- THE ENTRY of open trains and points, and the line end
  fields-complete : (os ps : List Bool) (rest : List ℕ) (c : ℕ) → Lies text c (tab ∷ (open_field os ++ (tab ∷ (point_field ps ++ (line_end ∷ rest)))))
      → Reads text (fields_at text (length os) (length ps) c) (weigh 1 ps + weigh (2 ^ train_bits) os) rest
  unfolding fields_at
  fields-complete os ps rest c i =
      go_on _ (byte-complete text tab c (open_field os ++ (tab ∷ (point_field ps ++ (line_end ∷ rest)))) i)
      (λ c i. go_on _ (opens-complete os (point_field ps ++ (line_end ∷ rest)) c i)
      (λ c i. go_on _ (byte-complete text tab c (point_field ps ++ (line_end ∷ rest)) i)
      (λ c i. go_on _ (points-complete ps (line_end ∷ rest) c i)
      (λ c i. go_on _ (byte-complete text line_end c rest i) (λ c i. stop-here i)))))

  pub entry-complete : (os ps : List Bool) (rest : List ℕ) (c : ℕ) → length os ≤ most_trains → length ps ≤ most_points
      → Lies text c (tab ∷ (open_field os ++ (tab ∷ (point_field ps ++ (line_end ∷ rest)))))
      → Reads text (entry_at text (length os) (length ps) c) (weigh 1 ps + weigh (2 ^ train_bits) os) rest
  unfolding entry_at
  entry-complete os ps rest c k m i = rw (le-ltb most_trains (length os) k, le-ltb most_points (length ps) m) (fields-complete os ps rest c i)

-- SECTION AFTER SECTION
line-more : (f : List ℕ) (xs : List ℕ) (d : PlacementLine)
    → line (f ∷ (map section_field xs ++ last_fields d)) ≡ f ++ (tab ∷ line (map section_field xs ++ last_fields d))
unfolding line
line-more f [] d = refl
line-more f (x ∷ xs) d = refl

module _ (text : List ℕ) (s : ℕ) (few : s ≤ most_sections) (d : PlacementLine) (rest : List ℕ)
    (there : (t : ℕ) → t < length d.sections → get_or d.sections t 0 < s) where
  -- the line from the section of train t on, and the text behind it
  abbrev from : ℕ → List ℕ
  from t = line (map section_field (drop t d.sections) ++ last_fields d) ++ rest

  next-section : (t c : ℕ) → Lies text c (from t) → Reads text (section_at text s (length d.sections) t c) (get_or d.sections t 0) (from (suc t))
  unfolding section_at
  next-section t c i = elim (lt? t (length d.sections)) [
    | inl l ↦
        let e : from t ≡ decimal (suc (get_or d.sections t 0)) ++ (tab ∷ from (suc t)) =
        ap (λ (ys : List ℕ). line (map section_field ys ++ last_fields d) ++ rest) (drop-cons d.sections t 0 l)
        ∙ ap (λ (l : List ℕ). l ++ rest) (line-more (decimal (suc (get_or d.sections t 0))) (drop (suc t) d.sections) d)
        ∙ append_assoc (decimal (suc (get_or d.sections t 0))) (tab ∷ line (map section_field (drop (suc t) d.sections) ++ last_fields d)) rest in
        section-complete text (from (suc t)) s (length d.sections) t (get_or d.sections t 0) c few l (there t l) (record { text = i.text ∙ e })
    | inr l ↦
        let next : length d.sections ≤ suc t = omega arith in
        let e : from t ≡ from (suc t) = ap (λ (ys : List ℕ). line (map section_field ys ++ last_fields d) ++ rest)
        (drop_of_length-le d.sections l ∙ sym (drop_of_length-le d.sections next)) in
        rw (le-ltb t (length d.sections) l, get_or-eq_default d.sections 0 l) (stop-here (record { text = i.text ∙ e }))
  ]

  -- four sections, 0 past the last
  abbrev four_of : List ℕ
  four_of = get_or d.sections 0 0 ∷ get_or d.sections 1 0 ∷ get_or d.sections 2 0 ∷ get_or d.sections 3 0 ∷ []

  pub sections-complete : (c : ℕ) → Lies text c (from 0) → Reads text (sections_at text s (length d.sections) c) four_of (from 4)
  unfolding sections_at
  sections-complete c i =
      go_on _ (next-section 0 c i) (λ c i. go_on _ (next-section 1 c i)
      (λ c i. go_on _ (next-section 2 c i) (λ c i. go_on _ (next-section 3 c i) (λ c i. stop-here i))))

-- A WHOLE LINE for a placement is walked, whatever is behind it
pub record Walked (text : List ℕ) (s k m at : ℕ) : Type 0 where
  pub four : List ℕ
  pub one : ℕ
  pub sections : sections_at text s k at ≡ got four one
  pub number : ℕ
  pub two : ℕ
  pub figure : figure_at text one ≡ got number two
  pub bits : ℕ
  pub three : ℕ
  pub entry : entry_at text k m two ≡ got bits three

pub last-fields : (d : PlacementLine) (rest : List ℕ)
    → line (last_fields d) ++ rest ≡ decimal d.figure ++
    (tab ∷ (open_field d.opens ++ (tab ∷ (point_field d.plus ++ (line_end ∷ rest)))))
unfolding line
last-fields d rest =
    append_assoc (decimal d.figure) (tab ∷ (open_field d.opens ++ (tab ∷ (point_field d.plus ++ (line_end ∷ []))))) rest
    ∙ ap (λ (l : List ℕ). decimal d.figure ++ (tab ∷ l)) (append_assoc (open_field d.opens) (tab ∷ (point_field d.plus ++ (line_end ∷ []))) rest
    ∙ ap (λ (l : List ℕ). open_field d.opens ++ (tab ∷ l)) (append_assoc (point_field d.plus) (line_end ∷ []) rest))

walked_on : (text : List ℕ) (s k at : ℕ) (d : PlacementLine) (rest four : List ℕ) → length d.opens ≡ k
    → k ≤ most_trains → length d.plus ≤ most_points → d.figure < no_figure
    → Reads text (sections_at text s k at) four (line (last_fields d) ++ rest) → Walked text s k (length d.plus) at
unfolding is_digit
walked_on text s k at d rest four n few m f x =
    let behind = tab ∷ (open_field d.opens ++ (tab ∷ (point_field d.plus ++ (line_end ∷ rest)))) in
    let y = figure-complete text behind d.figure x.cursor refl f (record { text = x.left.text ∙ last-fields d rest }) in
    let z = entry-complete text d.opens d.plus rest y.cursor (omega arith) m y.left in
    record {
      four = four;
      one = x.cursor;
      sections = x.is;
      number = d.figure;
      two = y.cursor;
      figure = y.is;
      bits = _;
      three = z.cursor;
      entry = ap (λ (j : ℕ). entry_at text j (length d.plus) y.cursor) (sym n)
          ∙ z.is;
    }

pub walked : (r : Railway) → Bounded r.sections r.points r.trains
    → (text : List ℕ) (at : ℕ) (d : PlacementLine) (rest : List ℕ) → fits r (placement_line d) ≡ true
    → drop at text ≡ spell (placement_line d) ++ rest → Walked text r.sections r.trains r.points at
unfolding spell
walked r b text at d rest fit is =
    let f = fits-parts r d fit in
    let k = b.few-trains in
    let there : (t : ℕ) → t < length d.sections → get_or d.sections t 0 < r.sections =
    (λ t h. ltb-true (get_or d.sections t 0) r.sections
    (all_in (λ x. ltb x r.sections) d.sections (get_or d.sections t 0) f.there
    (get_or-member d.sections t 0 h))) in
    let x = sections-complete text r.sections b.few-sections d rest there at (record { text = is }) in
    let four : length d.sections ≤ 4 = omega (arith, f.each-train) in
    let none_left : drop 4 d.sections ≡ [] = drop_of_length-le d.sections four in
    rw f.pointed at (walked_on text r.sections r.trains at d rest _ f.opened k
    (omega (arith, f.pointed, b.few-points)) f.figured (rw (none_left, f.each-train) at x))
