-- The whole text: reading gives a description exactly where it is well formed and spells the text. The lines come one after the other, and the
-- byte that a line begins with tells J, G, X and T lines apart, so each list of lines ends where the next begins.
-- Assumes nothing.
use Prim.Native.Nat.{ℕ, zero, suc, ◌+◌, ◌<◌, ◌≤◌}
use mathlib.Core.Path.{◌≡◌, refl, sym, ◌∙◌, ap}
use mathlib.Core.Bool.{Bool, true, false, cond}
use mathlib.Core.List.Memᴰ
use mathlib.Core.List.{List, [], ◌∷◌, ◌++◌, flat_map, append_assoc, append-nil}
use mathlib.Core.Option.{Option, none, some}
use native.Mathlib.Omega.{arith}
use lib.Dec.{ltb, eqb}
use lib.ListN.{length, get_or, drop, length-append, length-drop, drop_of_length-le}
use borrow.Author.Tests.{ltb-false, le-ltb}
use Rattle.laws.specs.Lists.{Every}
use Rattle.laws.proofs.Lists.{every-none, every_more}
use Rattle.text.specs.Text.{byte, line}
use Rattle.text.specs.Reading.{Got, bad, got, then, value}
use Rattle.text.proofs.Reading.{bad-got, carry, Lies, Reads, steps, on, go_on, stop-here, here}
use Rattle.railway.specs.declared.Side.{Side}
use Rattle.case_file.specs.Form.{TrainLine, Description, point_line, join_line, signal_line, closed_line, train_line, rising, spell, Writable, WritableJoin, WritableSignal, WritableTrain, Describes}
use Rattle.case_file.specs.Rows.{FormRow}
use Rattle.case_file.specs.Reading.{counted, while, header_at, point_line_at, join_line_at, signal_line_at, closed_line_at, train_line_at, walk, read}
use Rattle.case_file.specs.Claims.{ReadIsSpelling, DescribesOne, FormDecided}
use Rattle.case_file.proofs.Lines.{WrittenLine, join-sound, join-complete, signal-sound, signal-complete}
use Rattle.case_file.proofs.Lines.{closed-sound, closed-complete, header-sound, header-complete, point-sound}
use Rattle.case_file.proofs.Lines.{point-complete, train-sound, train-complete}

-- LINES BY COUNT
module _ {A : Type 0} (good : A → Type 0) (spelling : ℕ → A → List ℕ) (s : List ℕ) (line : ℕ → ℕ → Got A) where
  pub record WrittenLines (k n at : ℕ) (xs : List A) (c : ℕ) : Type 0 where
    pub many : length xs ≡ k
    pub small : Every good xs
    pub text : drop at s ≡ rising spelling n xs ++ drop c s

  module _ (sound : (n at : ℕ) (x : A) (c : ℕ) → line n at ≡ got x c → WrittenLine good (spelling n) s at x c) where
    pub counted-sound : (k n at : ℕ) (xs : List A) (c : ℕ) → counted line k n at ≡ got xs c → WrittenLines k n at xs c
    unfolding counted rising
    counted-sound zero n at xs c e = carry (WrittenLines zero n at) e (record { many = refl; small = every-none good; text = refl })
    counted-sound (suc k) n at xs c e =
        let t = steps (line n at) _ xs c e in
        let u = steps (counted line k (suc n) t.cursor) _ xs c t.second in
        let w = sound n at t.value t.cursor t.first in
        let v = counted-sound k (suc n) t.cursor u.value u.cursor u.first in
        carry (WrittenLines (suc k) n at) u.second
        (record {
          many = ap suc v.many;
          small = every_more good _ _ w.small v.small;
          text = simp (w.text, v.text, append_assoc);
        })

  module _ (complete : (n at : ℕ) (x : A) (rest : List ℕ) → n < 1000 → good x → Lies s at (spelling n x ++ rest) → Reads s (line n at) x rest) where
    pub counted-complete : (n at : ℕ) (xs : List A) (rest : List ℕ) → n + length xs ≤ 1000 → Every good xs → Lies s at (rising spelling n xs ++ rest)
        → Reads s (counted line (length xs) n at) xs rest
    unfolding counted rising
    counted-complete n at [] rest h a t = stop-here t
    counted-complete n at (x ∷ xs) rest h a t =
        go_on _ (complete n at x _ (omega arith) (a x (Memᴰ.head refl)) (rw append_assoc at t)) (λ c1 t1.
        go_on _ (counted-complete (suc n) c1 xs rest (omega arith) (λ y m. a y (Memᴰ.tail m)) t1) (λ c2 t2. stop-here t2))

-- LINES AS MANY AS THERE ARE
module _ {A : Type 0} (good : A → Type 0) (spelling : A → List ℕ) (s : List ℕ) (begins : ℕ → Bool) (line : ℕ → Got A) where
  pub record WrittenEach (at : ℕ) (xs : List A) (c : ℕ) : Type 0 where
    pub small : Every good xs
    pub text : drop at s ≡ flat_map spelling xs ++ drop c s

  module _ (sound : (at : ℕ) (x : A) (c : ℕ) → line at ≡ got x c → WrittenLine good spelling s at x c) where
    while-step : (most at : ℕ) (xs : List A) (c : ℕ) (p : Bool)
        → ((at : ℕ) (xs : List A) (c : ℕ) → while begins line most at ≡ got xs c → WrittenEach at xs c)
        → elim p [ true ↦ then (line at) (λ x c. then (while begins line most c) (λ xs c. got (x ∷ xs) c)) | false ↦ got [] at ] ≡ got xs c → WrittenEach at xs c
    unfolding flat_map
    while-step most at xs c false ih e = carry (WrittenEach at) e (record { small = every-none good; text = refl })
    while-step most at xs c true ih e =
        let t = steps (line at) _ xs c e in
        let u = steps (while begins line most t.cursor) _ xs c t.second in
        let w = sound at t.value t.cursor t.first in
        let v = ih t.cursor u.value u.cursor u.first in
        carry (WrittenEach at) u.second (record { small = every_more good _ _ w.small v.small; text = simp (w.text, v.text, append_assoc) })

    pub while-sound : (most at : ℕ) (xs : List A) (c : ℕ) → while begins line most at ≡ got xs c → WrittenEach at xs c
    unfolding while flat_map
    while-sound zero at xs c e = carry (WrittenEach at) e (record { small = every-none good; text = refl })
    while-sound (suc most) at xs c e = while-step most at xs c (begins at) (λ at xs c h. while-sound most at xs c h) e

  module _ (complete : (at : ℕ) (x : A) (rest : List ℕ) → good x → Lies s at (spelling x ++ rest) → Reads s (line at) x rest)
      (starts : (at : ℕ) (x : A) (rest : List ℕ) → Lies s at (spelling x ++ rest) → begins at ≡ true)
      (rest : List ℕ) (ends : (at : ℕ) → Lies s at rest → begins at ≡ false) where
    pub while-complete : (most at : ℕ) (xs : List A) → length xs ≤ most → Every good xs → Lies s at (flat_map spelling xs ++ rest) → Reads s (while begins line most at) xs rest
    unfolding while flat_map
    while-complete zero at [] h a t = stop-here t
    while-complete zero at (x ∷ xs) h a t = absurd (omega arith)
    while-complete (suc most) at [] h a t = rw (ends at t, while) (stop-here t)
    while-complete (suc most) at (x ∷ xs) h a t =
        let t' = rw append_assoc at t in
        rw (starts at x _ t', while)
        (go_on _ (complete at x _ (a x (Memᴰ.head refl)) t') (λ c1 t1.
        go_on _ (while-complete most c1 xs (omega arith) (λ y m. a y (Memᴰ.tail m)) t1) (λ c2 t2. stop-here t2)))

-- THE TEXT
value-some : {A : Type 0} {B : Type 0} (g : Got A) (x : A) → value g ≡ some x → ((c : ℕ) → g ≡ got x c → B) → B
value-some bad x e f = let z : ◌≡◌ {A = ℕ} 0 1 = cc in absurd (omega arith)
value-some (got y c) x e f = let z : y ≡ x = cc in f c (rw z)

ended : {A : Type 0} (s : List ℕ) (c : ℕ) (p : Bool) {x y : A} {b : ℕ} → ltb c (length s) ≡ p → cond p bad (got x c) ≡ got y b → (length s ≤ c) × (got x c ≡ got y b)
ended s c true h e = bad-got refl e
ended s c false h e = (ltb-false c (length s) h, e)

module _ (s : List ℕ) where
  points-sound : (n at : ℕ) (x : Side) (c : ℕ) → point_line_at s n at ≡ got x c → WrittenLine (λ x. Unit {0}) (point_line n) s at x c
  points-sound n at x c e = record { small = tt; text = (point-sound s at n x c e).text }

  trains-sound : (n at : ℕ) (x : TrainLine) (c : ℕ) → train_line_at s n at ≡ got x c → WrittenLine WritableTrain (train_line n) s at x c
  trains-sound n at x c e = let w = train-sound s at n x c e in record { small = w.small.0; text = w.text }

  pub read-sound : (d : Description) → read s ≡ some d → Describes s d
  unfolding walk read spell
  read-sound d e =
      value-some (walk s) d e (λ c k.
      on (header_at s 0) _ d c k (λ h c1 f1 k1.
      on (counted (point_line_at s) h.points 1 c1) _ d c k1 (λ legs c2 f2 k2.
      on (while (λ c. eqb (get_or s c 0) (byte "J")) (join_line_at s) (length s) c2) _ d c k2 (λ joins c3 f3 k3.
      on (while (λ c. eqb (get_or s c 0) (byte "G")) (signal_line_at s) (length s) c3) _ d c k3 (λ signals c4 f4 k4.
      on (while (λ c. eqb (get_or s c 0) (byte "X")) (closed_line_at s) (length s) c4) _ d c k4 (λ closed c5 f5 k5.
      on (counted (train_line_at s) h.trains 1 c5) _ d c k5 (λ roster c6 f6 k6.
      let z = ended s c6 (ltb c6 (length s)) refl k6 in
      let w1 = header-sound s 0 h c1 f1 in
      let w2 = counted-sound (λ x. Unit {0}) point_line s (point_line_at s) points-sound h.points 1 c1 legs c2 f2 in
      let w3 = while-sound WritableJoin join_line s (λ c. eqb (get_or s c 0) (byte "J")) (join_line_at s) (join-sound s) (length s) c2 joins c3 f3 in
      let w4 = while-sound WritableSignal signal_line s (λ c. eqb (get_or s c 0) (byte "G")) (signal_line_at s) (signal-sound s) (length s) c3 signals c4 f4 in
      let w5 = while-sound Writable closed_line s (λ c. eqb (get_or s c 0) (byte "X")) (closed_line_at s) (closed-sound s) (length s) c4 closed c5 f5 in
      let w6 = counted-sound WritableTrain train_line s (train_line_at s) trains-sound h.trains 1 c5 roster c6 f6 in
      carry (λ d c. Describes s d) z.1
      (record {
        well-formed =
            record {
              sections = w1.small.0;
              points = w1.small.1;
              trains = w1.small.2;
              one-a-point = w2.many;
              joins = w3.small;
              signals = w4.small;
              closed = w5.small;
              roster = w6.small;
              one-a-train = w6.many;
            };
        spelling = sym (w1.text ∙ rw (w2.text, w3.text, w4.text, w5.text, w6.text, drop_of_length-le s z.0, append-nil));
      }))))))))

  -- the other way round
  points-complete : (c n : ℕ) (legs : List Side) (rest : List ℕ) → n < 1000 → length legs ≡ n → Lies s c (rising point_line 1 legs ++ rest)
      → Reads s (counted (point_line_at s) n 1 c) legs rest
  points-complete c n legs rest h e t =
      rw (← e)
      (counted-complete (λ x. Unit {0}) point_line s (point_line_at s) (λ n at x rest b u. point-complete s at n x rest b) 1 c legs rest (omega arith) (λ x m. tt) t)

  trains-complete : (c n : ℕ) (roster : List TrainLine) → n < 1000 → length roster ≡ n → Every WritableTrain roster → Lies s c (rising train_line 1 roster)
      → Reads s (counted (train_line_at s) n 1 c) roster []
  trains-complete c n roster h e a t =
      rw (← e)
      (counted-complete WritableTrain train_line s (train_line_at s) (λ n at x rest b u. train-complete s at n x rest b u) 1 c roster [] (omega arith) a (rw append-nil t))

  -- as many lines as there are fit into the text
  each_long : {A : Type 0} (spelling : A → List ℕ) → ((x : A) → 1 ≤ length (spelling x)) → (xs : List A) → length xs ≤ length (flat_map spelling xs)
  unfolding flat_map
  each_long spelling h [] = omega arith
  each_long spelling h (x ∷ xs) = simp length-append (omega (arith, h x, each_long spelling h xs))

  fits : (c : ℕ) (l rest : List ℕ) → Lies s c (l ++ rest) → length l ≤ length s
  fits c l rest t = omega (arith, length-drop c s, simp length-append at (ap length t.text))

  -- which byte a list of lines begins with: its own letter, or what the rest begins with
  each-led : {A : Type 0} (spelling : A → List ℕ) (b : ℕ) (rest : List ℕ) → ((x : A) (more : List ℕ) → eqb (get_or (spelling x ++ more) 0 0) b ≡ false)
      → eqb (get_or rest 0 0) b ≡ false → (xs : List A) → eqb (get_or (flat_map spelling xs ++ rest) 0 0) b ≡ false
  unfolding flat_map
  each-led spelling b rest h e [] = e
  each-led spelling b rest h e (x ∷ xs) = rw append_assoc (h x _)

  trains-led : (b : ℕ) → eqb 0 b ≡ false → eqb (byte "T") b ≡ false → (ts : List TrainLine) → eqb (get_or (rising train_line 1 ts) 0 0) b ≡ false
  unfolding rising line
  trains-led b h e [] = h
  trains-led b h e (x ∷ ts) = e

  -- the lines of a letter, in front of a rest that begins with another byte
  each-complete : {A : Type 0} (good : A → Type 0) (spelling : A → List ℕ) (line : ℕ → Got A) (b : ℕ)
      → ((at : ℕ) (x : A) (rest : List ℕ) → good x → Lies s at (spelling x ++ rest) → Reads s (line at) x rest)
      → ((x : A) (rest : List ℕ) → eqb (get_or (spelling x ++ rest) 0 0) b ≡ true) → ((x : A) → 1 ≤ length (spelling x))
      → (c : ℕ) (xs : List A) (rest : List ℕ) → eqb (get_or rest 0 0) b ≡ false → Every good xs → Lies s c (flat_map spelling xs ++ rest)
      → Reads s (while (λ c. eqb (get_or s c 0) b) line (length s) c) xs rest
  each-complete good spelling line b complete led long c xs rest e a t =
      while-complete good spelling s (λ c. eqb (get_or s c 0) b) line complete (λ at x rest t. rw (here t) (led x rest)) rest (λ at t. rw (here t) e) (length s) c xs
      (omega (arith, each_long spelling long xs, fits c (flat_map spelling xs) rest t)) a t

  at-end : (c : ℕ) → Lies s c [] → ltb c (length s) ≡ false
  at-end c t = le-ltb c (length s) (omega (arith, length-drop c s, ap length t.text))

  walk-complete : (d : Description) → Describes s d → Reads s (walk s) d []
  unfolding walk spell line
  walk-complete d w =
      let f = w.well-formed in
      let t : Lies s 0 (spell d) = record { text = sym w.spelling } in
      go_on _ (header-complete s 0 (record { sections = d.sections; points = d.points; trains = d.trains }) _ (f.sections, f.points, f.trains) t) (λ c1 t1.
      go_on _ (points-complete c1 d.points d.legs _ f.points f.one-a-point t1) (λ c2 t2.
      go_on _ (each-complete WritableJoin join_line (join_line_at s) (byte "J") (join-complete s) (λ x rest. refl) (λ x. omega arith) c2 d.joins _
      (each-led signal_line (byte "J") _ (λ x more. refl) (each-led closed_line (byte "J") _ (λ x more. refl) (trains-led (byte "J") refl refl d.roster) d.closed) d.signals)
      f.joins t2) (λ c3 t3.
      go_on _ (each-complete WritableSignal signal_line (signal_line_at s) (byte "G") (signal-complete s) (λ x rest. refl) (λ x. omega arith) c3 d.signals _
      (each-led closed_line (byte "G") _ (λ x more. refl) (trains-led (byte "G") refl refl d.roster) d.closed) f.signals t3) (λ c4 t4.
      go_on _ (each-complete Writable closed_line (closed_line_at s) (byte "X") (closed-complete s) (λ x rest. refl) (λ x. omega arith) c4 d.closed _
      (trains-led (byte "X") refl refl d.roster) f.closed t4) (λ c5 t5.
      go_on _ (trains-complete c5 d.trains d.roster f.trains f.one-a-train f.roster t5) (λ c6 t6.
      rw (at-end c6 t6) (stop-here t6)))))))

  pub read-complete : (d : Description) → Describes s d → read s ≡ some d
  unfolding read
  read-complete d w = rw (walk-complete d w).is

-- (a)
pub read-is-spelling : ReadIsSpelling
read-is-spelling text d = (read-sound text d, read-complete text d)

pub describes-one : DescribesOne
describes-one text d e p q =
    let a = read-complete text d p in
    let b = read-complete text e q in
    cc

none_is : (text : List ℕ) → read text ≡ none → FormRow text
none_is text h d w = let e = read-complete text d w in let z : ◌≡◌ {A = ℕ} 0 1 = cc in omega arith

form-is : (text : List ℕ) (o : Option Description) → read text ≡ o → FormRow text → read text ≡ none
form-is text none h f = h
form-is text (some d) h f = absurd (f d (read-sound text d h))

pub form-decided : FormDecided
form-decided text = (none_is text, form-is text (read text) refl)
