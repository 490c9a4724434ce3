-- The answers, by what the walk has read. What it reads whole is spelled there and fits, so that it is the first line of the text from the place on; and where
-- it stops no line that fits is spelled, for that would be walked whole. Assumes nothing.
use Prim.Native.Nat.{ℕ, zero, suc, ◌+◌, ◌^◌, ◌≤◌, ◌<◌}
use mathlib.Core.Path.{◌≡◌, refl, sym, ◌∙◌, ap}
use mathlib.Core.Logic.{inl, inr}
use mathlib.Core.Bool.{Bool, true, false}
use mathlib.Core.List.{List, [], ◌∷◌, ◌++◌, map, append_assoc, append-nil}
use mathlib.Core.Option.{none, some}
use native.Mathlib.Omega.{arith}
use lib.Dec.{ltb}
use lib.ListN.{length, get_or, drop, length-append, length-drop, take-append-drop}
use lib.Seq.{take_all}
use borrow.Author.Tests.{lt-ltb, ltb-true, eq-eqb}
use Rattle.std.specs.Prelude.{None, Some}
use Rattle.laws.specs.Below.{list_below}
use Rattle.laws.specs.Lists.{all}
use Rattle.laws.proofs.Bools.{option?, some-none, and-true}
use Rattle.laws.proofs.Below.{listed, list_length}
use Rattle.laws.proofs.Lists.{all-each}
use Rattle.text.specs.Text.{byte, decimal, tab, line_end, line, bytes}
use Rattle.text.specs.Reading.{is_digit, Got, bad, got, byte_at}
use Rattle.text.proofs.Decimal.{digit-is, digits_are, digits-begin}
use Rattle.text.proofs.Reading.{Lies, bad-got, here, byte-sound, byte-complete}
use Rattle.railway.specs.declared.Railway.{Railway}
use Rattle.railway.specs.Bounds.{most_sections, most_trains}
use Rattle.railway.specs.Rows.{record_refusal}
use Rattle.railway.proofs.Rows.{Bounded, accepted-facts}
use Rattle.game.specs.Placement.{code_of, code_on}
use Rattle.game_tables.specs.Tables.{no_figure}
use Rattle.game_tables.specs.Entries.{train_bits, entry_from}
use Rattle.plan.specs.Lines.{PlacementLine, PlanLine, start_line, placement_line, section_field, spell, fits, line_code}
use Rattle.plan.specs.Checker.{line_entry}
use Rattle.plan.specs.Reading.{read_line}
use Rattle.plan.specs.FirstLine.{line_bytes, first_of}
use Rattle.plan.proofs.Reading.{last_fields, fits-parts, reads, reads-line}
use Rattle.plan.proofs.FirstLine.{SpelledFirst, spelled-first}
use Rattle.plan.proofs.Several.{spell-some}
use Rattle.game_placement.specs.declared.Placement.{Placement}
use Rattle.game_placement.specs.ByValue.{section_in}
use Rattle.plan_reader.specs.declared.PlanLine.{PlanLine as Read}
use Rattle.plan_reader.specs.declared.PlanLine.TheVariants as read
use Rattle.plan_reader.specs.LineRead.{LineAt, NoLine, Placed, line_of}
use Rattle.plan_reader.specs.Answers.{answer_for}
use Rattle.plan_reader.specs.Places.{EndsAt, ReadAt}
use Rattle.plan_reader.specs.Walk.{BeginsLikeStart, word_at, sections_at, figure_at, entry_at}
use Rattle.plan_reader.proofs.Fields.{weigh, weighed}
use Rattle.plan_reader.proofs.Taking.{Four, four-sections, sections-below, figure-below}
use Rattle.plan_reader.proofs.Sound.{byte-end, word_sound, piece, sections-sound, figure-sound, Entry, entry-sound}
use Rattle.plan_reader.proofs.Complete.{word-complete, figure-complete, last-fields, Walked, walked}

-- two readings of one place end at one cursor
same-cursor : {A : Type 0} {g : Got A} {x y : A} {b c : ℕ} → g ≡ got x b → g ≡ got y c → b ≡ c
same-cursor p q = cc

-- A LINE FOR A PLACEMENT begins with a digit
first-digit : (x : ℕ) (rest : List ℕ) → suc x < 10000000000 → get_or (decimal (suc x) ++ rest) 0 0 ≡ byte "p" → ⊥
unfolding all
first-digit x rest l e =
    let b = digits-begin 10 (suc x) (omega arith) (omega arith) in
    let a : all is_digit (b.head ∷ b.rest) ≡ true = rw b.is at (digits_are 10 (suc x)) in
    let h = digit-is b.head (and-true (is_digit b.head) (all is_digit b.rest) a).0 in
    let f : b.head ≡ byte "p" = rw b.is at e in
    omega arith

first-section : (xs : List ℕ) (d : PlacementLine) (rest : List ℕ) (s : ℕ) → s ≤ most_sections → 1 ≤ length xs → all (λ x. ltb x s) xs ≡ true
    → get_or (line (map section_field xs ++ last_fields d) ++ rest) 0 0 ≡ byte "p" → ⊥
unfolding line all
first-section [] d rest s l n a e = omega arith
first-section (x ∷ []) d rest s l n a e =
    let h = ltb-true x s (and-true (ltb x s) true a).0 in
    first-digit x ((tab ∷ line (last_fields d)) ++ rest) (omega arith)
    (ap (λ (t : List ℕ). get_or t 0 0) (sym (append_assoc (decimal (suc x)) (tab ∷ line (last_fields d)) rest)) ∙ e)
first-section (x ∷ y ∷ xs) d rest s l n a e =
    let h = ltb-true x s (and-true (ltb x s) (all (λ x. ltb x s) (y ∷ xs)) a).0 in
    first-digit x ((tab ∷ line (map section_field (y ∷ xs) ++ last_fields d)) ++ rest) (omega arith)
    (ap (λ (t : List ℕ). get_or t 0 0) (sym (append_assoc (decimal (suc x)) (tab ∷ line (map section_field (y ∷ xs) ++ last_fields d)) rest)) ∙ e)

-- its sections, one after the other, are in front of its other fields
sections-spelled : (k x y z w : ℕ) (rest : List ℕ) (d : PlacementLine) → k ≤ most_trains
    → line (map section_field (list_below
    (λ t. get_or (x ∷ y ∷ z ∷ w ∷ []) t 0) k) ++ last_fields d) ++ rest ≡ piece k 0 x
    (piece k 1 y (piece k 2 z (piece k 3 w (line (last_fields d) ++ rest))))
unfolding line list_below
sections-spelled zero x y z w rest d l = refl
sections-spelled (suc zero) x y z w rest d l = append_assoc (section_field x) (tab ∷ line (last_fields d)) rest
sections-spelled (suc (suc zero)) x y z w rest d l =
    append_assoc (section_field x) (tab ∷ line (section_field y ∷ last_fields d)) rest
    ∙ ap (λ (t : List ℕ). section_field x ++ (tab ∷ t)) (append_assoc (section_field y) (tab ∷ line (last_fields d)) rest)
sections-spelled (suc (suc (suc zero))) x y z w rest d l =
    append_assoc (section_field x) (tab ∷ line (section_field y ∷ section_field z ∷ last_fields d)) rest
    ∙ ap (λ (t : List ℕ). section_field x ++ (tab ∷ t)) (append_assoc (section_field y) (tab ∷ line (section_field z ∷ last_fields d)) rest
    ∙ ap (λ (t : List ℕ). section_field y ++ (tab ∷ t)) (append_assoc (section_field z) (tab ∷ line (last_fields d)) rest))
sections-spelled (suc (suc (suc (suc zero)))) x y z w rest d l =
    append_assoc (section_field x) (tab ∷ line (section_field y ∷ section_field z ∷ section_field w ∷ last_fields d)) rest
    ∙ ap (λ (t : List ℕ). section_field x ++ (tab ∷ t)) (append_assoc (section_field y) (tab ∷ line (section_field z ∷ section_field w ∷ last_fields d)) rest
    ∙ ap (λ (t : List ℕ). section_field y ++ (tab ∷ t)) (append_assoc (section_field z) (tab ∷ line (section_field w ∷ last_fields d)) rest
    ∙ ap (λ (t : List ℕ). section_field z ++ (tab ∷ t)) (append_assoc (section_field w) (tab ∷ line (last_fields d)) rest)))
sections-spelled (suc (suc (suc (suc (suc k))))) x y z w rest d l = absurd (omega arith)

-- and the bits of its other fields make its entry
entry-weighed : (r : Railway) (ps os : List Bool) → length ps ≡ r.points → length os ≡ r.trains
    → weigh 1 ps + weigh (2 ^ train_bits) os ≡ entry_from r (λ n. get_or ps n false) (λ t. get_or os t false)
unfolding entry_from
entry-weighed r ps os a b = rw (weighed 1 ps, weighed (2 ^ train_bits) os, a, b) (omega arith)

-- THE WORD of the first line, with the tab behind it
abbrev pub first_word : List ℕ
first_word = byte "p" ∷ byte "l" ∷ byte "a" ∷ byte "n" ∷ tab ∷ []

start-spelled : (n : ℕ) (rest : List ℕ) → spell (start_line n) ++ rest ≡ first_word ++ (decimal n ++ (line_end ∷ rest))
unfolding bytes spell line
start-spelled n rest = ap (λ (l : List ℕ). first_word ++ l) (append_assoc (decimal n) (line_end ∷ []) rest)

module _ (r : Railway) (ok : record_refusal r ≡ none) (text : List ℕ) (at : ℕ) where
  bounds : Bounded r.sections r.points r.trains
  bounds = (accepted-facts r ok).bounds

  few-sections : r.sections < no_figure
  few-sections = omega (arith, bounds.few-sections)

  -- a line that fits is spelled at the place, and this is behind it
  abbrev Spelled : PlanLine → List ℕ → Type 0
  Spelled l rest = drop at text ≡ spell l ++ rest

  -- NO LINE, where none that fits is spelled at the place
  no_line : ((l : PlanLine) (rest : List ℕ) → fits r l ≡ true → Spelled l rest → ⊥) → ReadAt r text at None
  no_line h =
      record {
        line = elim (option? (read_line r (first_of (drop at text)))) [
          | inl f ↦ rw f refl
          | inr y ↦
              let p = (reads-line r few-sections (first_of (drop at text)) y.0).0 y.1 in
              absurd (h y.0 (drop (line_bytes (drop at text)) (drop at text)) p.fit
              (sym (take-append-drop (line_bytes (drop at text)) (drop at text))
              ∙ ap (λ (t : List ℕ). t ++ drop (line_bytes (drop at text)) (drop at text)) (sym p.spelled)))
        ];
        end = tt;
      }

  -- A LINE that fits is spelled there
  a-line : (l : PlanLine) → fits r l ≡ true → (x : Read) (end : ℕ) → Spelled l (drop end text) → end ≤ length text
      → Some x ≡ answer_for r (some l) → ReadAt r text at (Some (x, end))
  a-line l fit x end is inside e =
      let f = spelled-first (drop at text) (drop end text) l is in
      let n : length (drop at text) ≡ length (spell l) + length (drop end text) = ap length is ∙ length-append (spell l) (drop end text) in
      record {
        line = e ∙ ap (answer_for r) (sym (ap (read_line r) f.line ∙ reads r few-sections l fit));
        end = omega (arith, f.bytes, n, length-drop at text, length-drop end text, spell-some l, inside);
      }

  -- THE FIRST LINE
  module _ (first : BeginsLikeStart text at) where
    start-only : {A : Type 0} → ((n : ℕ) (rest : List ℕ) → n < no_figure → Lies text at (first_word ++ (decimal n ++ (line_end ∷ rest))) → A)
        → (l : PlanLine) (rest : List ℕ) → fits r l ≡ true → Spelled l rest → A
    unfolding spell fits
    start-only h (start_line n) rest fit is = h n rest (ltb-true n no_figure fit) (record { text = is ∙ start-spelled n rest })
    start-only h (placement_line d) rest fit is =
        let f = fits-parts r d fit in
        let lies : Lies text at (spell (placement_line d) ++ rest) = record { text = is } in
        absurd (first-section d.sections d rest r.sections bounds.few-sections
        (omega (arith, f.each-train, bounds.some-train)) f.there (sym (here lies) ∙ first))

    module _ where
      pub no_word : word_at text first_word at ≡ bad → ReadAt r text at None
      no_word e = no_line (start-only (λ n rest l t. bad-got e (word-complete text first_word (decimal n ++ (line_end ∷ rest)) at t).is))

      module _ {u c₁ : ℕ} (e₁ : word_at text first_word at ≡ got u c₁) where
        -- the figure stands behind the word
        figure-lies : (n : ℕ) (rest : List ℕ) → Lies text at (first_word ++ (decimal n ++ (line_end ∷ rest))) → Lies text c₁ (decimal n ++ (line_end ∷ rest))
        figure-lies n rest t =
            let w = word-complete text first_word (decimal n ++ (line_end ∷ rest)) at t in
            rw (same-cursor e₁ w.is) w.left

        pub no-start-figure : figure_at text c₁ ≡ bad → ReadAt r text at None
        unfolding is_digit
        no-start-figure e = no_line (start-only (λ n rest l t. bad-got e (figure-complete text (line_end ∷ rest) n c₁ refl l (figure-lies n rest t)).is))

        module _ {n c₂ : ℕ} (e₂ : figure_at text c₁ ≡ got n c₂) where
          pub no-start-end : byte_at text line_end c₂ ≡ bad → ReadAt r text at None
          unfolding is_digit
          no-start-end e =
              no_line (start-only (λ m rest l t.
              let f = figure-complete text (line_end ∷ rest) m c₁ refl l (figure-lies m rest t) in
              bad-got e (byte-complete text line_end c₂ rest (rw (same-cursor e₂ f.is) f.left)).is))

          pub start-read : {y end : ℕ} → byte_at text line_end c₂ ≡ got y end → ReadAt r text at (Some (read.Start n, end))
          unfolding fits
          start-read {y} {end} e₃ =
              a-line (start_line n) (lt-ltb n no_figure (figure-below text c₁ n c₂ e₂)) (read.Start n) end
              (word_sound text first_word at u c₁ e₁ ∙ ap (λ (l : List ℕ). first_word ++ l)
              (figure-sound text c₁ n c₂ e₂ ∙ ap (λ (l : List ℕ). decimal n ++ l)
              (byte-sound text line_end c₂ y end (omega arith) e₃)) ∙ sym
              (start-spelled n (drop end text)))
              (byte-end text line_end c₂ y end (omega arith) e₃) refl

  -- A LINE FOR A PLACEMENT, by the counts that code has
  module _ (first : BeginsLikeStart text at → ⊥) {s k m : ℕ} (es : s ≡ r.sections) (em : m ≡ r.points) (ek : k ≡ r.trains) where
    placed-only : {A : Type 0} → (Walked text s k m at → A) → (l : PlanLine) (rest : List ℕ) → fits r l ≡ true → Spelled l rest → A
    placed-only h (start_line n) rest fit is =
        let lies : Lies text at (first_word ++ (decimal n ++ (line_end ∷ rest))) = record { text = is ∙ start-spelled n rest } in
        absurd (first (here lies))
    placed-only h (placement_line d) rest fit is = h (rw (es, em, ek) (walked r bounds text at d rest fit is))

    pub no-sections : sections_at text s k at ≡ bad → ReadAt r text at None
    no-sections e = no_line (placed-only (λ w. bad-got e w.sections))

    module _ {qs : List ℕ} {c₁ : ℕ} (e₁ : sections_at text s k at ≡ got qs c₁) where
      figure-at : (w : Walked text s k m at) → figure_at text c₁ ≡ got w.number w.two
      figure-at w = rw (same-cursor e₁ w.sections) w.figure

      pub no-figure : figure_at text c₁ ≡ bad → ReadAt r text at None
      no-figure e = no_line (placed-only (λ w. bad-got e (figure-at w)))

      module _ {n c₂ : ℕ} (e₂ : figure_at text c₁ ≡ got n c₂) where
        pub no-entry : entry_at text k m c₂ ≡ bad → ReadAt r text at None
        no-entry e = no_line (placed-only (λ w. bad-got e (ap (entry_at text k m) (same-cursor e₂ (figure-at w)) ∙ w.entry)))

        module _ {v end : ℕ} (e₃ : entry_at text k m c₂ ≡ got v end) (q : Placement) (is : q.sections ≡ qs) where
          each : Four qs
          each = four-sections text s k at c₁ qs e₁

          got-entry : Entry text k m c₂ v end
          got-entry = entry-sound text k m c₂ v end e₃

          few : k ≤ most_trains
          few = omega (arith, bounds.few-trains)

          abbrev taken : PlacementLine
          taken = record { sections = list_below (section_in q) k; figure = n; opens = got-entry.opens; plus = got-entry.points }

          each-there : all (λ x. ltb x r.sections) (list_below (section_in q) k) ≡ true
          each-there =
              all-each (λ x. ltb x r.sections) (list_below (section_in q) k)
              (λ x i. let g = listed (section_in q) k x i in
              let h = sections-below text s k at c₁ qs e₁ few g.index g.below in
              let e : x ≡ get_or qs g.index 0 = g.is ∙ ap (λ (u : List ℕ). get_or u g.index 0) is in
              lt-ltb x r.sections (omega arith))

          taken-fits : fits r (placement_line taken) ≡ true
          unfolding fits
          taken-fits =
              rw (
                list_length (section_in q) k,
                each-there,
                lt-ltb n no_figure (figure-below text c₁ n c₂ e₂),
                got-entry.each-train,
                got-entry.each-point,
                eq-eqb k r.trains ek,
                eq-eqb m r.points em,
              )

          taken-spelled : Spelled (placement_line taken) (drop end text)
          unfolding spell
          taken-spelled =
              sections-sound text s k at each.x each.y each.z each.w c₁ (e₁ ∙ ap (λ (l : List ℕ). got l c₁) each.is)
              ∙ ap (λ (t : List ℕ). piece k 0 each.x (piece k 1 each.y (piece k 2 each.z (piece k 3 each.w t))))
              (figure-sound text c₁ n c₂ e₂ ∙ ap (λ (t : List ℕ). decimal n ++ t) got-entry.spelled ∙ sym (last-fields taken (drop end text)))
              ∙ sym (ap (λ (qs : List ℕ). line
              (map section_field (list_below (λ t. get_or qs t 0) k) ++ last_fields taken) ++ drop end text) (is ∙ each.is)
              ∙ sections-spelled k each.x each.y each.z each.w (drop end text) taken few)

          taken-entry : v ≡ line_entry r taken
          taken-entry = got-entry.bits ∙ entry-weighed r got-entry.points got-entry.opens (got-entry.each-point ∙ em) (got-entry.each-train ∙ ek)

          pub placement-read : (p : ℕ) → p ≡ code_on r (section_in q) → ReadAt r text at (Some (read.Placed p n v, end))
          placement-read p ep =
              let c : line_code r taken ≡ code_on r (section_in q) = ap (λ (j : ℕ). code_of r.sections (list_below (section_in q) j)) ek in
              a-line (placement_line taken) taken-fits (read.Placed p n v) end taken-spelled got-entry.inside
              (rw (ep, c) (ap (Placed (code_on r (section_in q)) n) taken-entry))

-- A TEXT HANDED IN AS A LINE is one if the line that begins it ends where it does
not_none : (r : Railway) (l : PlanLine) → answer_for r (some l) ≡ NoLine → ⊥
not_none r (start_line n) e = let z : ◌≡◌ {A = ℕ} 0 1 = cc in omega arith
not_none r (placement_line d) e = let z : ◌≡◌ {A = ℕ} 0 1 = cc in omega arith

-- a line that was read as one of the plan's
record Sure (r : Railway) (l : PlanLine) (n : ℕ) (x : LineAt) : Type 0 where
  line : Read
  is : x ≡ Some (line, n)
  same : Some line ≡ answer_for r (some l)

end_in : LineAt → ℕ
end_in None = 0
end_in (Some (l, end)) = end

end_one : {x y : Read} {a b : ℕ} → ◌≡◌ {A = LineAt} (Some (x, a)) (Some (y, b)) → a ≡ b
unfolding end_in
end_one e = ap end_in e

-- the line that is read, and where it ends, if it is one of the plan's
line-read : (r : Railway) (l : PlanLine) (n : ℕ) (x : LineAt) → line_of x ≡ answer_for r (some l) → EndsAt n x → Sure r l n x
line-read r l n None e h = absurd (not_none r l (sym e))
line-read r l n (Some (y, end)) e h = record { line = y; is = λ i. Some (y, h i); same = e }

module _ (r : Railway) (ok : record_refusal r ≡ none) (text : List ℕ) where
  -- a line is its own first line
  own_first : (l : PlanLine) → read_line r text ≡ some l → SpelledFirst text l × (spell l ≡ text)
  own_first l e =
      let p = (reads-line r (few-sections r ok text 0) text l).0 e in
      (spelled-first text [] l (sym p.spelled ∙ sym (append-nil (spell l))), p.spelled)

  module _ {x : LineAt} (h : ReadAt r text 0 x) where
    read_some : (l : PlanLine) → read_line r (first_of text) ≡ some l → Sure r l (line_bytes text) x
    read_some l e = line-read r l (line_bytes text) x (h.line ∙ ap (answer_for r) e) (let z : 0 + line_bytes text ≡ line_bytes text = omega arith in rw z at h.end)

    pub line-none : x ≡ None → NoLine ≡ answer_for r (read_line r text)
    line-none e = elim (option? (read_line r text)) [
      | inl f ↦ rw f
      | inr y ↦
          let w = own_first y.0 y.1 in
          let s = read_some y.0 (ap (read_line r) (w.0.line ∙ w.1) ∙ y.1) in
          let z : ◌≡◌ {A = ℕ} 0 1 = cc (s.is, e) in absurd (omega arith)
    ]

    module _ (line : Read) (end : ℕ) (is : x ≡ Some (line, end)) where
      pub line-whole : end ≡ length text → Some line ≡ answer_for r (read_line r text)
      line-whole e = elim (option? (read_line r (first_of text))) [
        | inl f ↦ elim (option? (read_line r text)) [
          | inl g ↦ sym (ap line_of is) ∙ h.line ∙ (rw (f, g))
          | inr y ↦ let w = own_first y.0 y.1 in some-none (ap (read_line r) (w.0.line ∙ w.1) ∙ y.1) f
        ]
        | inr y ↦
            let w = read_some y.0 y.1 in
            let b : end ≡ line_bytes text = end_one (sym is ∙ w.is) in
            let t : first_of text ≡ text = take_all (line_bytes text) text (omega (arith, b, e)) in
            sym (ap line_of is) ∙ h.line ∙ ap (λ (l : List ℕ). answer_for r (read_line r l)) t
      ]

      pub line-part : (end ≡ length text → ⊥) → NoLine ≡ answer_for r (read_line r text)
      line-part n = elim (option? (read_line r text)) [
        | inl f ↦ rw f
        | inr y ↦
            let w = own_first y.0 y.1 in
            let s = read_some y.0 (ap (read_line r) (w.0.line ∙ w.1) ∙ y.1) in
            absurd (n (end_one (sym is ∙ s.is) ∙ w.0.bytes ∙ ap length w.1))
      ]
