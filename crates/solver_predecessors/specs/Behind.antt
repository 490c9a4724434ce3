-- Where trains can have come from: the ways back from the end that a train comes in by. Nothing of the documents rests on this file: contracts cite it, and
-- the laws in proofs/ say that every move into a section comes from the end of one of these ways. Assumes nothing.
use Rattle.std.specs.Prelude.{◌≡◌, false, List, ℕ, ◌<◌}
use Rattle.railway.specs.declared.End.{End}
use Rattle.railway.specs.declared.End.TheVariants.{Section}
use Rattle.railway.specs.declared.Railway.{Railway}
use Rattle.railway.specs.Ends.{opposite}
use Rattle.railway.specs.Record.{train_of}
use Rattle.game.specs.Moves.{code_with}
use Rattle.railway_routes.specs.Routes.{routes_from, nth, no_section, to_byte, Laid}

-- The end of section x that train t comes in by: it lies against its heading.
abbrev pub end_behind : Railway → ℕ → ℕ → End
end_behind r t x = Section (record { 0 = x }) (opposite (train_of r t).heading)

-- The section behind section x for train t by the way back with number j, closed or not: a train may leave a closed section. Where there is no such way,
-- what stands for no section.
abbrev pub section_behind : Railway → ℕ → ℕ → ℕ → ℕ
section_behind r t x j = to_byte (nth (routes_from r (λ y. false) (end_behind r t x)) j)

-- Placement p is placement c with train t put on the section behind section x, by one of the first j ways back.
pub record BackBy (r : Railway) (c t x j p : ℕ) : Type 0 where
  pub number : ℕ
  pub below : number < j
  pub there : section_behind r t x number ≡ no_section → ⊥
  pub code : p ≡ code_with r c t (section_behind r t x number)

-- The table of a railway's ways to all sections, for going back.
abbrev pub Behind : Railway → List ℕ → Type 0
Behind r behind = Laid r (λ y. false) behind
