-- Moves, read from a table and from the ways: who may move, and what a move ends in. The end that a train heads for is a section's, so it has an index
-- and comes back from it, and the ways of that index are those of the train. Assumes nothing.
use mathlib.Core.Path.{◌≡◌, refl, sym, ◌∙◌, ap}
use mathlib.Core.Logic.{inl, inr}
use mathlib.Core.Bool.{Bool, true, false, cond, not, ◌&&◌}
use mathlib.Core.List.{List}
use mathlib.Core.Option.{Option, none, some}
use Prim.Native.Nat.{ℕ, ◌+◌, ◌*◌, ◌^◌, ◌≤◌, ◌<◌}
use native.Mathlib.Omega.{arith}
use lib.Dec.{ltb, eqb}
use lib.ListN.{length, get_or, set, length-set}
use lib.Seq.{ext_get_or}
use borrow.Author.Tests.{eq-eqb, lt-ltb, le-ltb, ltb-true}
use Rattle.laws.specs.Below.{any_below, list_below}
use Rattle.laws.specs.Bits.{bit}
use Rattle.laws.proofs.Bools.{lt?, and-true, and_both}
use Rattle.laws.proofs.Below.{any_same, any-one, none_any, list_length, list_get}
use Rattle.laws.proofs.Bits.{high_bit, bit-none}
use Rattle.railway.specs.declared.Side.{Side}
use Rattle.railway.specs.declared.End.{End}
use Rattle.railway.specs.declared.End.TheVariants.{Section}
use Rattle.railway.specs.declared.Railway.{Railway}
use Rattle.railway.specs.Bounds.{most_sections, most_trains, section_ends}
use Rattle.railway.specs.Ends.{end_index, end_at}
use Rattle.railway.specs.Record.{has_signal, train_of}
use Rattle.railway.specs.Passing.{entered}
use Rattle.railway.proofs.Ends.{end-index, section-below}
use Rattle.game.specs.Game.{derailment, collision, lost, at, may}
use Rattle.game.specs.Placement.{code_of, sections_of, stands_on, code_on, arrived}
use Rattle.game.specs.Setting.{heads_for, held, free, opens_for, may_move}
use Rattle.game.specs.Moves.{other_on, occupied, code_with, enters, move_of, game_of}
use Rattle.game.proofs.Placement.{sections-length}
use Rattle.game.proofs.Setting.{may_free, may-held, may-neither}
use Rattle.game.proofs.Accepted.{Facts}
use Rattle.game.proofs.Moves.{section-below as stands-below, entered_below, sections-with, code-with-below}
use Rattle.game_tables.specs.Entries.{train_bits, opens_in, opens_end, setting_at}
use Rattle.game_tables.proofs.Exists.{few-placements}
use Rattle.railway_routes.specs.Routes.{no_section, section_byte}
use Rattle.railway_compiled.specs.Table.{parked_on, held_on, free_on}
use Rattle.game_placement.specs.declared.Placement.{Placement}
use Rattle.game_moves.specs.Move.{Move}
use Rattle.game_moves.specs.Answers.{ended, move_under}
use Rattle.game_placement.specs.ByValue.{section_in}
use Rattle.game_moves.specs.Steps.{no_code, stride_of, code_put, On, moved_to, put_in, held_in, free_in, other_in}
use Rattle.game_moves.proofs.Coding.{stride-is, put-there, code-move}
use Rattle.game_moves.proofs.Placing.{table-facts, past-trains, put-section, sections-listed}

module _ (r : Railway) (p : ℕ) (table : List ℕ) (q : Placement) (on : On r p table q) where
  facts-of : Facts r
  facts-of = table-facts r table on.compiled

  -- THE END that a train heads for.
  pub end_is : (t x : ℕ) (h : Side) → x ≡ section_in q t → h ≡ (train_of r t).heading → Section (record { 0 = x }) h ≡ heads_for r p t
  unfolding heads_for
  end_is t x h e f = let a : x ≡ stands_on r p t = e ∙ on.stands t in rw (a, f)

  -- WHAT THE TABLE HAS on a train's route.
  module _ (t x : ℕ) (l : t < r.trains) (e : x ≡ section_in q t) where
    section-small : x < most_sections
    section-small = rw (e ∙ on.stands t) (omega (arith, stands-below r facts-of p t l, facts-of.few-sections))

  -- HOW A TRAIN STANDS, any train: one that is not there stands on the first section.
  module _ (t x : ℕ) (e : x ≡ section_in q t) where
    some-section : x < most_sections
    some-section = elim (lt? t r.trains) [
      | inl l ↦ section-small t x l e
      | inr l ↦ let z : 0 ≡ x = past-trains r table on.compiled p t l ∙ sym (e ∙ on.stands t) in rw (← z) (omega arith)
    ]

    parked-on : parked_on r t x ≡ arrived r p t
    parked-on = ap (λ (y : ℕ). eqb y (train_of r t).destination.0) (e ∙ on.stands t)

    within-is : (a b : Bool) → ((a && true) && b) ≡ (a && b)
    within-is true b = refl
    within-is false b = refl

    pub held-is : (b : Bool) → b ≡ held_on r t x → b ≡ held_in r p t
    unfolding held
    held-is b h =
        h ∙ (rw (lt-ltb x most_sections some-section, parked-on, end_is t x (train_of r t).heading e refl)
        (within-is (ltb t most_trains) (not (arrived r p t) && has_signal r (heads_for r p t))))

    pub free-is : (b : Bool) → b ≡ free_on r t x → b ≡ free_in r p t
    unfolding free
    free-is b h =
        h ∙ (rw (lt-ltb x most_sections some-section, parked-on, end_is t x (train_of r t).heading e refl)
        (within-is (ltb t most_trains) (not (arrived r p t) && not (has_signal r (heads_for r p t)))))

  -- THE INDEX of the end that a train heads for, any train.
  numbered : (t : ℕ) → stands_on r p t < most_sections
  numbered t = rw (← on.stands t) (some-section t (section_in q t) refl)

  pub front-small : (t : ℕ) → end_index (heads_for r p t) < section_ends
  unfolding heads_for
  front-small t = section-below (record { 0 = stands_on r p t }) (train_of r t).heading (numbered t)

  pub front-end : (t : ℕ) → end_at (end_index (heads_for r p t)) ≡ heads_for r p t
  unfolding heads_for
  front-end t = end-index (Section (record { 0 = stands_on r p t }) (train_of r t).heading) (numbered t)

  -- where the ways of that index lead, the train comes to
  pub leads-is : (t v e x : ℕ) → e ≡ end_index (heads_for r p t) → (e < section_ends → x ≡ section_byte (entered r (bit v) (end_at e))) → x ≡ section_byte (entered r (bit v) (heads_for r p t))
  leads-is t v e x i h = h (omega (arith, front-small t)) ∙ ap (λ (z : End). section_byte (entered r (bit v) z)) (ap end_at i ∙ front-end t)

  -- of a train that is there, what is said of one that can be there
  pub as-there : (t : ℕ) → t < r.trains → (b c : Bool) → b ≡ (ltb t most_trains && c) → b ≡ c
  as-there t l b c h = let few : ltb t most_trains ≡ true = lt-ltb t most_trains (omega (arith, facts-of.few-trains)) in rw few at h

  -- WHO MAY MOVE under entry v.
  module _ (v : ℕ) where
    pub opens_not : (i u : ℕ) (b : Bool) → b ≡ bit v (16 + u) → b ≡ false → false ≡ opens_end r p (opens_in v) i u
    opens_not i u b h e = rw (sym h ∙ e)

    pub opens-if : (i u j : ℕ) (b : Bool) → b ≡ bit v (16 + u) → b ≡ true → j ≡ end_index (heads_for r p u) → eqb i j ≡ opens_end r p (opens_in v) i u
    opens-if i u j b h y k = rw (sym h ∙ y, ← k)

    pub opens-is : (i k : ℕ) → k ≡ r.trains → {b : Bool} → b ≡ any_below (opens_end r p (opens_in v) i) k → b ≡ (setting_at r p v).is_open i
    unfolding setting_at
    opens-is i k e h = rw e at h

    -- the signal before a train: open by the train's own bit, and closed where no train's is set
    pub own-opens : (t : ℕ) (b : Bool) → t < r.trains → b ≡ bit v (16 + t) → b ≡ true → true ≡ opens_for r p (setting_at r p v) t
    unfolding setting_at
    own-opens t b l h e =
        let i = end_index (heads_for r p t) in
        any-one (opens_end r p (opens_in v) i) r.trains t l (and_both (opens_in v t) (eqb i i) (sym h ∙ e) (eq-eqb i i refl))

    pub nobody-opens : (t : ℕ) → v < 2 ^ train_bits → false ≡ opens_for r p (setting_at r p v) t
    unfolding setting_at
    nobody-opens t l = sym (none_any (opens_end r p (opens_in v) (end_index (heads_for r p t))) r.trains (λ u m. let z : bit v (16 + u) ≡ false = none-set u in rw z))
      where
        none-set : (u : ℕ) → bit v (16 + u) ≡ false
        none-set u = let z : v + 2 ^ 16 * 0 ≡ v = omega arith in ap (λ (x : ℕ). bit x (16 + u)) (sym z) ∙ high_bit 16 v 0 u l ∙ bit-none u

    pub front-opens : (b : Bool) (t i : ℕ) → i ≡ end_index (heads_for r p t) → b ≡ (setting_at r p v).is_open i → b ≡ opens_for r p (setting_at r p v) t
    front-opens b t i e h = h ∙ ap (λ (j : ℕ). (setting_at r p v).is_open j) e

    pub not_there : (k t : ℕ) → k ≡ r.trains → k ≤ t → false ≡ may (game_of r) p (setting_at r p v) t
    not_there k t e l = rw (le-ltb t r.trains (rw (sym e) l))

    module _ (k t : ℕ) (e : k ≡ r.trains) (l : t < k) (f : Bool) (free-as : t < r.trains → f ≡ free r p t) where
      pub is-there : t < r.trains
      is-there = rw (sym e) l

      pub free-may : f ≡ true → true ≡ may (game_of r) p (setting_at r p v) t
      free-may z = let a : may_move r p (setting_at r p v) t ≡ true = may_free r p (setting_at r p v) t (sym (free-as is-there) ∙ z) in rw (lt-ltb t r.trains is-there, a)

      module _ (z : f ≡ false) (h : Bool) (held-as : t < r.trains → h ≡ held r p t) where
        pub held-may : (b : Bool) → h ≡ true → (t < r.trains → b ≡ opens_for r p (setting_at r p v) t) → b ≡ may (game_of r) p (setting_at r p v) t
        held-may b y g =
            let m : may_move r p (setting_at r p v) t ≡ opens_for r p (setting_at r p v) t = may-held r p (setting_at r p v) t (sym (held-as is-there) ∙ y) in
            rw (lt-ltb t r.trains is-there, m) (g is-there)

        pub parked-may : h ≡ false → false ≡ may (game_of r) p (setting_at r p v) t
        parked-may y =
            let m : may_move r p (setting_at r p v) t ≡ false = may-neither r p (setting_at r p v) t (sym (free-as is-there) ∙ z) (sym (held-as is-there) ∙ y) in
            rw (lt-ltb t r.trains is-there, m)

  -- WHAT A MOVE ENDS IN.
  module _ (t x : ℕ) where
    pub other-on : (k : ℕ) (b : Bool) → k ≡ r.trains → b ≡ any_below (other_in q t x) k → b ≡ occupied r p t x
    unfolding occupied
    other-on k b e h =
        (rw e at h) ∙ any_same (other_in q t x) (other_on r p t x) r.trains (λ u l. let a : section_in q u ≡ stands_on r p u = on.stands u in rw a)

    -- The sections with train t put on section x.
    put-each : t < r.trains → (u : ℕ) → moved_to q t x u ≡ get_or (set (sections_of r p) t x) u 0
    unfolding stands_on
    put-each l u = ap (λ (y : ℕ). cond (eqb u t) x y) (on.stands u) ∙ sym (put-section (sections_of r p) t x (rw (sections-length r.sections r.trains p) l) u)

    pub code-moved : (w : ℕ) → t < r.trains → w ≡ code_on r (moved_to q t x) → w ≡ code_with r p t x
    code-moved w l e = e ∙ ap (code_of r.sections) lists
      where
        sized : length (set (sections_of r p) t x) ≡ r.trains
        sized = length-set (sections_of r p) t x ∙ sections-length r.sections r.trains p

        lists : list_below (moved_to q t x) r.trains ≡ set (sections_of r p) t x
        lists =
            ext_get_or 0 (list_below (moved_to q t x) r.trains) (set (sections_of r p) t x) (list_length (moved_to q t x) r.trains ∙ sym sized)
            (λ u m. list_get (moved_to q t x) r.trains u 0 (rw (list_length (moved_to q t x) r.trains) at m) ∙ put-each l u)

    -- PUT ON A SECTION of the railway. The code comes by the stride of the train: from the code of the placement as it is and the section where
    -- the train stands.
    module _ (l : t < r.trains) (lx : x < r.sections) where
      code-by-stride : (c y w s : ℕ) → c ≡ code_on r (section_in q) → y ≡ section_in q t → s ≡ r.sections → w ≡ stride_of s t → c + x * w ≡ code_with r p t x + y * w
      unfolding stands_on
      code-by-stride c y w s ec ey es ew =
          let stride : w ≡ r.sections ^ t = ew ∙ stride-is s t (omega (arith, facts-of.few-trains)) ∙ ap (λ (a : ℕ). a ^ t) es in
          let here : c ≡ code_of r.sections (sections_of r p) = ec ∙ ap (code_of r.sections) (sections-listed r (section_in q) p (λ u m. on.stands u)) in
          let stood : y ≡ get_or (sections_of r p) t 0 = ey ∙ on.stands t in
          rw (stride, here, stood) (sym (code-move r.sections (sections_of r p) t x (rw (sections-length r.sections r.trains p) l)))

      pub code-put-is : (c y w s b : ℕ) → c ≡ code_on r (section_in q) → y ≡ section_in q t → s ≡ r.sections → w ≡ stride_of s t → b ≡ code_put c w y x → b ≡ code_with r p t x
      code-put-is c y w s b ec ey es ew eb =
          let small : code_with r p t x < no_code = omega (arith, code-with-below r facts-of p t x lx, few-placements r on.compiled.accepted) in
          eb ∙ put-there c w y x (code_with r p t x) small (code-by-stride c y w s ec ey es ew)

      pub put-on-is : (o : Placement) → ((u : ℕ) → section_in o u ≡ put_in q t x u) → On r (code_with r p t x) table o
      unfolding stands_on
      put-on-is o h =
          let few : ltb t most_trains ≡ true = lt-ltb t most_trains (omega (arith, facts-of.few-trains)) in
          record { compiled = on.compiled; stands = λ u. (rw few at (h u)) ∙ put-each l u ∙ ap (λ (xs : List ℕ). get_or xs u 0) (sym (sections-with r facts-of p t x lx)) }

  module _ (v t x : ℕ) (leads : x ≡ section_byte (entered r (bit v) (heads_for r p t))) where
    abbrev route : Option ℕ
    route = entered r (bit v) (heads_for r p t)

    pub derails : x ≡ no_section → some (lost derailment) ≡ some (move_of r p (setting_at r p v) t)
    unfolding move_of setting_at
    derails z = go route (λ y. entered_below r facts-of (bit v) (heads_for r p t) y) (sym leads ∙ z)
      where
        go : (o : Option ℕ) → ((y : ℕ) → o ≡ some y → y < r.sections) → section_byte o ≡ no_section → some (lost derailment) ≡ some (enters r p t o)
        go none b e = refl
        go (some y) b e = absurd (omega (arith, b y refl, facts-of.few-sections))

    arrives : (x ≡ no_section → ⊥) → route ≡ some x
    arrives z = go route leads
      where
        go : (o : Option ℕ) → x ≡ section_byte o → o ≡ some x
        go none e = absurd (z e)
        go (some y) e = rw e

    module _ (z : x ≡ no_section → ⊥) (b : Bool) (is : b ≡ occupied r p t x) where
      pub collides : b ≡ true → some (lost collision) ≡ some (move_of r p (setting_at r p v) t)
      unfolding move_of setting_at
      collides y = rw (arrives z, sym is ∙ y)

      pub stands_at : (w : ℕ) → b ≡ false → w ≡ code_with r p t x → some (at w) ≡ some (move_of r p (setting_at r p v) t)
      unfolding move_of setting_at
      stands_at w y e = rw (arrives z, sym is ∙ y, e)

  module _ (v t : ℕ) (m : Bool) (is : m ≡ may (game_of r) p (setting_at r p v) t) where
    pub not-allowed : m ≡ false → none ≡ move_under r p v t
    unfolding move_under
    not-allowed e = rw (sym is ∙ e)

    pub there-if : m ≡ true → t < r.trains
    there-if e = ltb-true t r.trains (and-true (ltb t r.trains) (may_move r p (setting_at r p v) t) (sym is ∙ e)).0

    pub allowed : (o : Move) → m ≡ true → ended o ≡ some (move_of r p (setting_at r p v) t) → ended o ≡ move_under r p v t
    unfolding move_under
    allowed o e h = rw (sym is ∙ e) h
