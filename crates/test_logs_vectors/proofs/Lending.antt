-- An array in memory, of which the first elements are lent as a slice that is only read. The array is its elements side by side, so it is cut behind those that are lent, and put
-- together again when they are back. Assumes nothing.
use mathlib.Core.Path.{◌≡◌, refl, sym}
use Prim.Native.Nat.{ℕ}
use mathlib.Core.List.{List, [], ◌∷◌, ◌++◌}
use lib.ListN.{length, take, drop, take-append-drop}
use seplogic.Ra.Ura.{Ura}
use base.Fraction.{full_share}
use mir.Syntax.{Ty, ty_array}
use mir.Val.{Val}
use base.Logic.{ent, sep}
use base.Fml.{Fml, fsep, fat, froom}
use types.Logic.{Logic, sem}
use types.Kit.{‵, ◌⊛◌, ◌$◌, ◌∵◌, !, qed, move, drop as let_go, use1, use2, split, rewrite, fsplit, fjoin, fpick, fpack, feq_l, feq_i, frame, done}
use types.SemTy.{cells}
use types.Share.{arr_parts}
use denote.RattleType.{RattleType}
use denote.Laws.{Is, Makes}
use denote.Array.{Array, array_val, Array-Makes}
use denote.ArrayMemory.{Single, Array-apart, Array-whole}
use denote.Memory.{cell_at, lone, part_at, mem, shares, part_of}
use denote.Steps.{owned}
use borrow.Rule.Array.Rows.{parts_f, rest_f}
use borrow.Rule.Slice.Shared.{parts-cells}
use borrow.Table.Elements.{cut_app, join_app}

module _ {M : Type 1} {𝓤 : Ura M} (𝓛 : Logic 𝓤) (R : RattleType) (one : Single R.mir) (n : ℕ) (xs : List R.Denot) (b : ℕ) where
  abbrev pub Whole : Fml
  Whole = part_at (Array R n) full_share xs b 0

  abbrev pub type : Ty
  type = ty_array (lone R.mir) n

  -- a local that holds the array
  pub array-in : Makes 𝓛 R (Is R) → (v : Val) → Is (Array R n) xs (v ∷ []) → ent 𝓤 (sem 𝓛 (fat full_share type b 0 v)) (sem 𝓛 Whole)
  unfolding part_of
  array-in makes v is =
      qed 𝓛 (‵ (fat full_share type b 0 v) ∷ []) ∵ use1 𝓛 (‵ (cell_at full_share (type ∷ []) (v ∷ []) b 0)) (𝓛.laws.at_raw full_share type b 0 v) $
      owned ! (Array R n) (Is (Array R n)) (Array-Makes 𝓛 R makes n) xs (v ∷ []) is $ move ! (1 ∷ 0 ∷ []) $ fjoin ! $
      fpack ! (List Val) (λ vs. fsep (cell_at full_share (type ∷ []) vs b 0) ((Array R n).own_val xs vs)) (v ∷ []) $ done !

  -- the array is given up, and its room is left
  pub array-room : ent 𝓤 (sem 𝓛 Whole) (sem 𝓛 (froom type b 0))
  unfolding part_of
  array-room =
      qed 𝓛 (‵ Whole ∷ []) ∵ fpick ! (λ vs. fsplit ! $ move ! (1 ∷ []) $ fpick ! (λ us. fsplit ! $ fsplit ! $ feq_l ! (λ e. feq_l ! (λ l.
      rewrite ! 1 (λ (ws : List Val). ‵ (cell_at full_share (type ∷ []) ws b 0)) e refl $ let_go ! $
      use1 𝓛 (‵ (fat full_share type b 0 (array_val us))) (𝓛.laws.raw_at full_share type b 0 (array_val us)) $ use1 𝓛 (‵ (froom type b 0)) (𝓛.laws.at_room type b 0 (array_val us)) $ done !))))

  -- cut behind the first k elements, and put together
  module _ (k : ℕ) where
    pub cut : ent 𝓤 (sem 𝓛 Whole) (sep 𝓤 (sem 𝓛 (parts_f R (take k xs) b 0)) (sem 𝓛 (rest_f R k xs b)))
    cut =
        qed 𝓛 (‵ Whole ∷ []) ∵ use1 𝓛 (‵ ((arr_parts (shares R) n).part full_share xs b 0)) (Array-apart 𝓛 R full_share one n xs b 0) $ fsplit ! $ let_go ! $
        rewrite ! 0 (λ (F : Fml). ‵ F) (parts-cells R full_share xs b 0) refl $ rewrite ! 0 (λ (ys : List R.Denot). ‵ (cells (mem R) ys b 0)) (sym (take-append-drop k xs)) refl $
        use1 𝓛 (‵ (cells (mem R) (take k xs) b 0) ⊛ ‵ (rest_f R k xs b)) (cut_app 𝓛 (mem R) (take k xs) (drop k xs) b 0) $ split ! $
        rewrite ! 0 (λ (F : Fml). ‵ F) (sym (parts-cells R full_share (take k xs) b 0)) refl $ feq_i ! ℕ (length (take k xs)) (length (take k xs)) refl $ fjoin ! $ frame ! $ done !

    pub joined : length xs ≡ n → ent 𝓤 (sep 𝓤 (sem 𝓛 (parts_f R (take k xs) b 0)) (sem 𝓛 (rest_f R k xs b))) (sem 𝓛 Whole)
    joined l =
        qed 𝓛 (‵ (parts_f R (take k xs) b 0) ∷ ‵ (rest_f R k xs b) ∷ []) ∵ fsplit ! $ let_go ! $ rewrite ! 0 (λ (F : Fml). ‵ F) (parts-cells R full_share (take k xs) b 0) refl $
        use2 𝓛 (‵ (cells (mem R) (take k xs ++ drop k xs) b 0)) (join_app 𝓛 (mem R) (take k xs) (drop k xs) b 0) $
        rewrite ! 0 (λ (ys : List R.Denot). ‵ (cells (mem R) ys b 0)) (take-append-drop k xs) refl $ rewrite ! 0 (λ (F : Fml). ‵ F) (sym (parts-cells R full_share xs b 0)) refl $
        feq_i ! ℕ (length xs) n l $ fjoin ! $ use1 𝓛 (‵ Whole) (Array-whole 𝓛 R full_share n xs b 0) $ done !
