-- When two records stand for one railway (document 01, end of "The case file"), whatever bytes they have for no join (document 02, Q-4); closed sections
-- count too (Q-5), and the trains' weights (Q-12). Joins, signals and closed sections are compared at every end and section that a railway can have, for row 4 looks at all of them; legs
-- and trains within the counts. Assumes nothing.
use Rattle.std.specs.Prelude.{◌≡◌, ◌⊎◌, ℕ, ◌<◌, ◌≤◌, get_or}
use Rattle.railway.specs.declared.Railway.{Railway}
use Rattle.railway.specs.Bounds.{most_sections, section_ends, all_ends}
use Rattle.railway.specs.Record.{no_link, link_at, flag_at, closed_at, legs_of, train_of}

-- The same railway.
pub record SameRailway (r q : Railway) : Type 0 where
  pub sections : r.sections ≡ q.sections
  pub points : r.points ≡ q.points
  pub trains : r.trains ≡ q.trains
  pub legs : (n : ℕ) → n < r.points → legs_of r n ≡ legs_of q n
  pub joins : (i : ℕ) → i < all_ends → link_at r i ≡ link_at q i
  pub signals : (i : ℕ) → i < section_ends → flag_at r i ≡ flag_at q i
  pub closed : (x : ℕ) → x < most_sections → closed_at r x ≡ closed_at q x
  pub roster : (t : ℕ) → t < r.trains → train_of r t ≡ train_of q t

-- Two bytes of links are one, or both are for no join.
abbrev pub SameByte : ℕ → ℕ → Type 0
SameByte a b = (a ≡ b) ⊎ ((all_ends ≤ a) × (all_ends ≤ b))

-- Two records are one but for bytes that say there is no join.
pub record SameButForNone (r q : Railway) : Type 0 where
  pub sections : r.sections ≡ q.sections
  pub points : r.points ≡ q.points
  pub trains : r.trains ≡ q.trains
  pub legs : r.legs ≡ q.legs
  pub links : (i : ℕ) → i < all_ends → SameByte (get_or r.links i no_link) (get_or q.links i no_link)
  pub signals : r.signals ≡ q.signals
  pub closed : r.closed ≡ q.closed
  pub roster : r.roster ≡ q.roster
