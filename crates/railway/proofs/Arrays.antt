-- What holding a railway tells of its arrays: their lengths.
-- Assumes nothing.
use mathlib.Core.Path.{◌≡◌, refl}
use mathlib.Core.List.{List}
use lib.ListN.{length}
use mir.Val.{Val}
use denote.Laws.{Is}
use Rattle.railway.specs.declared.Railway.{Railway}
use Rattle.railway.specs.Bounds.{most_sections, most_points, most_trains, section_ends, all_ends}
use Rattle.railway.specs.Lent.{LinksOf, SignalsOf, ClosedOf}
use Rattle.railway.specs.contracts.Railway as T

module _ (r : Railway) (vs : List Val) (p : Is T.the_row r vs) where
  pub legs-length : length r.legs ≡ most_points
  legs-length = p.1.1.1.1.1.0.1.0.1

  pub links-length : length r.links ≡ all_ends
  links-length = p.1.1.1.1.1.1.0.1.0.1

  pub signals-length : length r.signals ≡ section_ends
  signals-length = p.1.1.1.1.1.1.1.0.1.0.1

  pub closed-length : length r.closed ≡ most_sections
  closed-length = p.1.1.1.1.1.1.1.1.0.1.0.1

  pub roster-length : length r.roster ≡ most_trains
  roster-length = p.1.1.1.1.1.1.1.1.1.0.1.0.1

  -- so its links, signals and closed sections can be lent
  pub own-links : LinksOf r r.links
  own-links = record { are = refl; many = links-length }

  pub own-signals : SignalsOf r r.signals
  own-signals = record { are = refl; many = signals-length }

  pub own-closed : ClosedOf r r.closed
  own-closed = record { are = refl; many = closed-length }
