-- What each function of the search answers, by the tests that it made. Assumes nothing.
use mathlib.Core.Path.{◌≡◌, refl, sym, ◌∙◌, ap}
use mathlib.Core.Bool.{Bool, true, false, cond, not}
use mathlib.Core.List.{List}
use mathlib.Core.Option.{Option, none, some}
use Prim.Native.Nat.{ℕ, ◌+◌, ◌≤◌, ◌<◌}
use native.Mathlib.Omega.{arith}
use lib.Bits.{bit_and, bit_or}
use lib.ListN.{get_or}
use borrow.Author.Tests.{eqb-true, eq-eqb}
use Rattle.laws.specs.Below.{any_below}
use Rattle.laws.specs.Bits.{bit}
use Rattle.railway.specs.declared.End.{End}
use Rattle.railway.specs.declared.Railway.{Railway}
use Rattle.railway.specs.Bounds.{section_ends}
use Rattle.railway.specs.Ends.{end_index, end_at}
use Rattle.railway.specs.Record.{is_closed, weight_of}
use Rattle.railway.specs.Passing.{entered}
use Rattle.railway.proofs.Rows.{accepted-facts}
use Rattle.game.specs.Local.{is_within}
use Rattle.game.specs.Placement.{code_on}
use Rattle.game.specs.Setting.{heads_for, free}
use Rattle.game.specs.Moves.{occupied, code_with}
use Rattle.game.proofs.Accepted.{Facts, facts}
use Rattle.game.proofs.Moves.{entered_below}
use Rattle.game_tables.specs.Tables.{no_figure, figure_entry, figure_in}
use Rattle.game_tables.specs.Find.{ends_good, is_good}
use Rattle.railway_routes.specs.Routes.{Way, routes_from, nth, most_ways, no_section, section_byte, to_byte, way_word}
use Rattle.railway_routes.proofs.Ways.{nth_past}
use Rattle.railway_routes.proofs.Routes.{Small, from-few, from-small, from-ends}
use Rattle.game_placement.specs.declared.Placement.{Placement}
use Rattle.game_placement.specs.ByValue.{section_in}
use Rattle.game_moves.specs.Steps.{stride_of, code_put, On, other_in}
use Rattle.game_moves.proofs.Moving.{front-small, front-end, other-on, code-put-is}
use Rattle.solver_settings.specs.Search.{good_at, free_good, Smallest, ways_of, OnWay, Placed, From, ByWay}
use Rattle.solver_settings.proofs.Search.{Tried, tried-next, placed-more, way-wants-more, way-is-bad, way-is-good, way-against, way-bad, way_on}

-- a train that is not free
pub not-free-good : (r : Railway) (F : ℕ → Option ℕ) (p n bits t : ℕ) (f : Bool) → f ≡ free r p t → f ≡ false → true ≡ free_good r F p n bits t
not-free-good r F p n bits t f is e = rw (sym is ∙ e)

-- a way of a train that is there, as the table tells it
pub record There (r : Railway) (p t j to : ℕ) : Type 0 where
  pub way : Way
  pub is : nth (ways_of r p t) j ≡ some way
  pub leads : to ≡ way.to

module _ (r : Railway) (p : ℕ) (table : List ℕ) (q : Placement) (on : On r p table q) where
  ok : Facts r
  ok = facts r on.compiled.accepted

  -- ENTERING A SECTION, the figure looked at before the other trains
  module _ (figs : List ℕ) (n t y : ℕ) (there : t < r.trains) (inside : y < r.sections) (c s w x b : ℕ)
      (code : c ≡ code_on r (section_in q)) (sections : s ≡ r.sections) (stride : w ≡ stride_of s t)
      (here : x ≡ section_in q t) (put : b ≡ code_put c w x y) (f : ℕ) (is : f ≡ get_or figs b no_figure)
      (heavy : ℕ) (weighs : heavy ≡ weight_of r t) (d : Bool) (within : d ≡ is_within n heavy (figure_entry f)) where
    pub ends_by : (o : Bool) → o ≡ occupied r p t y → cond o false d ≡ ends_good r (figure_in figs) p n t y
    ends_by true e = rw (← e)
    ends_by false e =
        let z : b ≡ code_with r p t y = code-put-is r p table q on t y there inside c x w s b code here sections stride put in
        rw (within, is, weighs, z, ← e)

  module _ (F : ℕ → Option ℕ) (n t y : ℕ) (d : Bool)
      (by : (o : Bool) → o ≡ occupied r p t y → cond o false d ≡ ends_good r F p n t y) where
    pub ends-not : d ≡ false → false ≡ ends_good r F p n t y
    ends-not l = either_way (occupied r p t y) ∙ by (occupied r p t y) refl
      where
        either_way : (o : Bool) → false ≡ cond o false d
        either_way true = refl
        either_way false = sym l

    pub ends-unless : d ≡ true → (k : ℕ) (o : Bool) → k ≡ r.trains → o ≡ any_below (other_in q t y) k
        → not o ≡ ends_good r F p n t y
    ends-unless l k o ek e = turned o ∙ by o (other-on r p table q on t y k o ek e)
      where
        turned : (o : Bool) → not o ≡ cond o false d
        turned true = refl
        turned false = sym l

  -- THE WAYS OF A TRAIN, read from the table by the index of the end that it heads for
  module _ (t : ℕ) where
    small-way : (j : ℕ) (w : Way) → nth (ways_of r p t) j ≡ some w → Small r w
    small-way j w is = from-small r (accepted-facts r on.compiled.accepted) (is_closed r) (heads_for r p t) j w is

    pub to_inside : (j to : ℕ) (w : Way) → nth (ways_of r p t) j ≡ some w → to ≡ w.to → to < r.sections
    to_inside j to w is e = omega (arith, (small-way j w is).to)

    -- behind the last place there is none
    pub ways-past : (j : ℕ) → most_ways ≤ j → nth (ways_of r p t) j ≡ none
    ways-past j l = nth_past (ways_of r p t) j (omega (arith, from-few r (is_closed r) (heads_for r p t)))

    module _ (e : ℕ) (front : e ≡ end_index (heads_for r p t)) (j : ℕ) where
      front_below : e < section_ends
      front_below = omega (arith, front-small r p table q on t)

      front-way : nth (routes_from r (is_closed r) (end_at e)) j ≡ nth (ways_of r p t) j
      front-way = ap (λ (z : End). nth (routes_from r (is_closed r) z) j) (ap end_at front ∙ front-end r p table q on t)

      module _ (to : ℕ) (leads : e < section_ends → to ≡ to_byte (nth (routes_from r (is_closed r) (end_at e)) j)) where
        leads-there : to ≡ to_byte (nth (ways_of r p t) j)
        leads-there = leads front_below ∙ ap to_byte front-way

        pub way-gone : to ≡ no_section → nth (ways_of r p t) j ≡ none
        way-gone z = go (nth (ways_of r p t) j) refl (sym leads-there ∙ z)
          where
            go : (o : Option Way) → nth (ways_of r p t) j ≡ o → to_byte o ≡ no_section → nth (ways_of r p t) j ≡ none
            go none is h = is
            go (some w) is h = absurd (omega (arith, (from-ends r (is_closed r) (heads_for r p t) j w is).to))

        way-here : (to ≡ no_section → ⊥) → There r p t j to
        way-here z = go (nth (ways_of r p t) j) refl leads-there
          where
            go : (o : Option Way) → nth (ways_of r p t) j ≡ o → to ≡ to_byte o → There r p t j to
            go none is h = absurd (z h)
            go (some w) is h = record { way = w; is = is; leads = h }

      -- what it wants, and what it cares for
      pub wants_is : (want : ℕ) → (e < section_ends → want ≡ way_word (nth (routes_from r (is_closed r) (end_at e)) j) 2)
          → (w : Way) → nth (ways_of r p t) j ≡ some w → want ≡ w.want
      wants_is want h w is = h front_below ∙ ap (λ (o : Option Way). way_word o 2) (front-way ∙ is)

      cares-is : (care : ℕ) → (e < section_ends → care ≡ way_word (nth (routes_from r (is_closed r) (end_at e)) j) 1)
          → (w : Way) → nth (ways_of r p t) j ≡ some w → care ≡ w.care
      cares-is care h w is = h front_below ∙ ap (λ (o : Option Way). way_word o 1) (front-way ∙ is)

      -- one way more of those that are looked at
      pub one_more : (P : Way → ℕ → Type 0) (m best least b to : ℕ)
          → (e < section_ends → to ≡ to_byte (nth (routes_from r (is_closed r) (end_at e)) j)) → (to ≡ no_section → ⊥)
          → ((w : Way) → nth (ways_of r p t) j ≡ some w → to ≡ w.to → Smallest (P w) m least b)
          → Smallest (Tried P (ways_of r p t) j) m best least → Smallest (Tried P (ways_of r p t) (j + 1)) m best b
      one_more P m best least b to leads z one h =
          let y = way-here to leads z in
          tried-next P (ways_of r p t) m best least b j y.way y.is h (one y.way y.is y.leads)

  -- ONE WAY BY ITSELF
  module _ (F : ℕ → Option ℕ) (n t j to want best : ℕ) (w : Way) (is : nth (ways_of r p t) j ≡ some w) (et : to ≡ w.to) (ew : want ≡ w.want) where
    pub by-more : best ≤ want → Smallest (OnWay r F p n t w) r.points best best
    by-more l = way-wants-more r F p n t w r.points best (omega arith)

    module _ (g : Bool) (ends : g ≡ ends_good r F p n t to) where
      ends_so : (b : Bool) → g ≡ b → ends_good r F p n t w.to ≡ b
      ends_so b e = ap (ends_good r F p n t) (sym et) ∙ sym ends ∙ e

      pub by-good : want < best → g ≡ true → Smallest (OnWay r F p n t w) r.points best want
      by-good l e = let s = small-way t j w is in rw ew (way-is-good r F p n t w r.points best (omega arith) (ends_so true e) s.within s.want)

      pub by-bad : g ≡ false → Smallest (OnWay r F p n t w) r.points best best
      by-bad e = way-is-bad r F p n t w r.points best (ends_so false e)

  -- A FREE TRAIN UNDER GIVEN BITS, and the section that they lead it to
  module _ (bits t y : ℕ) (leads : y ≡ section_byte (entered r (bit bits) (heads_for r p t))) where
    enters-y : (y ≡ no_section → ⊥) → entered r (bit bits) (heads_for r p t) ≡ some y
    enters-y z = go (entered r (bit bits) (heads_for r p t)) leads
      where
        go : (o : Option ℕ) → y ≡ section_byte o → o ≡ some y
        go none h = absurd (z h)
        go (some x) h = rw h

    pub y-inside : (y ≡ no_section → ⊥) → y < r.sections
    y-inside z = entered_below r ok (bit bits) (heads_for r p t) y (enters-y z)

    module _ (F : ℕ → Option ℕ) (n : ℕ) (f : Bool) (is : f ≡ free r p t) (e : f ≡ true) where
      free-is-good : (g : Bool) → g ≡ good_at r F p n bits t → g ≡ free_good r F p n bits t
      free-is-good g h = rw (sym is ∙ e) h

      pub nowhere-good : y ≡ no_section → false ≡ free_good r F p n bits t
      nowhere-good z = free-is-good false (go (entered r (bit bits) (heads_for r p t)) (λ x h. entered_below r ok (bit bits) (heads_for r p t) x h) (sym leads ∙ z))
        where
          go : (o : Option ℕ) → ((x : ℕ) → o ≡ some x → x < r.sections) → section_byte o ≡ no_section → false ≡ is_good (ends_good r F p n t) o
          go none b h = refl
          go (some x) b h = absurd (omega (arith, b x refl, ok.few-sections))

      pub enters-good : (y ≡ no_section → ⊥) → (g : Bool) → g ≡ ends_good r F p n t y → g ≡ free_good r F p n bits t
      enters-good z g h = free-is-good g (h ∙ sym (ap (is_good (ends_good r F p n t)) (enters-y z)))

  -- A WAY TOGETHER WITH WHAT IS WANTED ALREADY
  module _ (F : ℕ → Option ℕ) (n t care want best : ℕ) (placed : Placed r care want)
      (e : ℕ) (front : e ≡ end_index (heads_for r p t)) (j to cares wants : ℕ)
      (care-read : e < section_ends → cares ≡ way_word (nth (routes_from r (is_closed r) (end_at e)) j) 1)
      (want-read : e < section_ends → wants ≡ way_word (nth (routes_from r (is_closed r) (end_at e)) j) 2)
      (w : Way) (is : nth (ways_of r p t) j ≡ some w) (et : to ≡ w.to) where
    ec : cares ≡ w.care
    ec = cares-is t e front j cares care-read w is

    ew : wants ≡ w.want
    ew = wants_is t e front j wants want-read w is

    parts : bit_and (bit_or want wants) cares ≡ bit_and (bit_or want w.want) w.care
    parts = rw (ec, ew)

    pub out_first : (bit_and (bit_or want wants) care ≡ want → ⊥) → Smallest (ByWay r F p n t care want w) r.points best best
    out_first d = way-against r F p n t care want w best (λ s. d (ap (λ (x : ℕ). bit_and (bit_or want x) care) ew ∙ eqb-true (bit_and (bit_or want w.want) care) want s.0))

    pub out-second : (bit_and (bit_or want wants) cares ≡ wants → ⊥) → Smallest (ByWay r F p n t care want w) r.points best best
    out-second d = way-against r F p n t care want w best (λ s. d (parts ∙ eqb-true (bit_and (bit_or want w.want) w.care) w.want s.1 ∙ sym ew))

    pub placed_on : Placed r (bit_or care cares) (bit_or want wants)
    placed_on = let s = small-way t j w is in rw (ec, ew) (placed-more r care want w.care w.want placed s.within s.want)

    module _ (g : Bool) (ends : g ≡ ends_good r F p n t to) where
      pub out-bad : g ≡ false → Smallest (ByWay r F p n t care want w) r.points best best
      out-bad e = way-bad r F p n t care want w best (ap (ends_good r F p n t) (sym et) ∙ sym ends ∙ e)

      pub goes_on : (b : ℕ) → bit_and (bit_or want wants) care ≡ want → bit_and (bit_or want wants) cares ≡ wants → g ≡ true
          → Smallest (From r F p n (t + 1) (bit_or care cares) (bit_or want wants)) r.points best b → Smallest (ByWay r F p n t care want w) r.points best b
      goes_on b s₁ s₂ e k = way_on r F p n t care want w best b
          (eq-eqb (bit_and (bit_or want w.want) care) want (ap (λ (x : ℕ). bit_and (bit_or want x) care) (sym ew) ∙ s₁))
          (eq-eqb (bit_and (bit_or want w.want) w.care) w.want (sym parts ∙ s₂ ∙ ew))
          (ap (ends_good r F p n t) (sym et) ∙ sym ends ∙ e) (rw (ec, ew) at k)
