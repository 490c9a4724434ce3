-- Bytes and the ends that they say, by computation: the first and the last section end, the ports of the first point,
-- the last port, and bytes for no join. Assumes nothing.
use mathlib.Core.Path.{◌≡◌, refl}
use mathlib.Core.List.{List, [], ◌∷◌, map}
use Rattle.railway.specs.declared.Side.TheVariants.{Up, Down}
use Rattle.railway.specs.declared.Leg.TheVariants.{Stem, Plus, Minus}
use Rattle.railway.specs.declared.End.{End}
use Rattle.railway.specs.declared.End.TheVariants.{Section, Port}
use Rattle.railway.specs.Joined.{Nothing, With}
use Rattle.railway.specs.Ends.{end_index, end_at}
use Rattle.railway.specs.Record.{joined_by}

ends : List End
ends =
    Section (record { 0 = 0 }) Down
    ∷ Section (record { 0 = 0 }) Up
    ∷ Section (record { 0 = 47 }) Up
    ∷ Port (record { 0 = 0 }) Stem
    ∷ Port (record { 0 = 0 }) Plus
    ∷ Port (record { 0 = 0 }) Minus
    ∷ Port (record { 0 = 15 }) Minus
    ∷ []

bytes_of : map end_index ends ≡ 0 ∷ 1 ∷ 95 ∷ 96 ∷ 97 ∷ 98 ∷ 143 ∷ []
unfolding ends
bytes_of = refl

said-by : map joined_by (0 ∷ 1 ∷ 95 ∷ 96 ∷ 97 ∷ 98 ∷ 143 ∷ []) ≡ map With ends
unfolding ends end_at joined_by
said-by = refl

no-join-by : map joined_by (144 ∷ 145 ∷ 254 ∷ 255 ∷ []) ≡ Nothing ∷ Nothing ∷ Nothing ∷ Nothing ∷ []
unfolding end_at joined_by
no-join-by = refl
