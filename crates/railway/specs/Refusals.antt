-- The table of numbers (document 01, "Numbers that a desk can get"; 12 to 17: document 02, Q-1, Q-6, Q-11, Q-12 and Q-13): the number of each refusal, and which row of several is given.
-- Assumes nothing.
use Rattle.std.specs.Prelude.{◌≡◌, Bool, true, false, List, [], ◌∷◌, ◌++◌, ℕ}
use Rattle.std.proofs.Math.Option.{Option, none, some}
use Rattle.laws.specs.Lists.{Every}
use Rattle.railway.specs.declared.Refusal.{Refusal}
use Rattle.railway.specs.declared.Refusal.TheVariants.{Length, Form, Count, Weight, Unknown, Join, Loose, Chain, Double, Place, Mismatch, Space, PlanForm, PlanFault, Report, Stranded, Log}
use Rattle.railway.specs.CaseAnswer.{CaseAnswer, Accepted, Refused}

-- The table's first two columns.
abbrev pub number : Refusal → ℕ
number Length = 1
number Form = 2
number Count = 3
number Unknown = 4
number Join = 5
number Loose = 6
number Double = 7
number Place = 8
number Space = 9
number PlanForm = 10
number PlanFault = 11
number Report = 12
number Chain = 13
number Mismatch = 14
number Stranded = 15
number Weight = 16
number Log = 17

-- Their order: of several that apply, the one whose number stands first here is given.
abbrev pub numbers_in_order : List ℕ
numbers_in_order = 1 ∷ 2 ∷ 3 ∷ 16 ∷ 4 ∷ 5 ∷ 6 ∷ 13 ∷ 7 ∷ 8 ∷ 14 ∷ 9 ∷ 10 ∷ 11 ∷ 12 ∷ 15 ∷ 17 ∷ []

-- Each one's place there (railway/Claims `ranked`).
abbrev pub rank : Refusal → ℕ
rank Length = 0
rank Form = 1
rank Count = 2
rank Weight = 3
rank Unknown = 4
rank Join = 5
rank Loose = 6
rank Chain = 7
rank Double = 8
rank Place = 9
rank Mismatch = 10
rank Space = 11
rank PlanForm = 12
rank PlanFault = 13
rank Report = 14
rank Stranded = 15
rank Log = 16

-- The number that the answer to a case gives, if it is refused.
abbrev pub number_given : CaseAnswer → Option ℕ
number_given Accepted = none
number_given (Refused f) = some (number f)

-- A row: what is given, and whether it applies.
pub record Row : Type 0 where
  pub refusal : Refusal
  pub applies : Bool

-- A row by its parts.
abbrev pub row : Refusal → Bool → Row
row f b = record { refusal = f; applies = b }

-- It applies.
abbrev pub Applying : Row → Type 0
Applying x = x.applies ≡ true

-- It does not.
abbrev pub NotApplying : Row → Type 0
NotApplying x = x.applies ≡ false

-- The refusal of a row that applies, else that of the later ones.
abbrev pub refuse_if : Bool → Refusal → Option Refusal → Option Refusal
refuse_if true f later = some f
refuse_if false f later = later

-- Of several rows, in the table's order, the first that applies is given; none: nothing is refused.
unfoldable pub first : List Row → Option Refusal
first [] = none
first (x ∷ xs) = refuse_if x.applies x.refusal (first xs)

-- The number that is given, if one is.
abbrev pub number_of : Option Refusal → Option ℕ
number_of none = none
number_of (some f) = some (number f)

-- What "first" means: of a table, this entry applies and none that stands before it. Entries are rows, or refusals by themselves.
pub record FirstOf {A : Type 0} (applies : A → Type 0) (table : List A) (x : A) : Type 0 where
  pub before : List A
  pub after : List A
  pub order : table ≡ before ++ (x ∷ after)
  pub here : applies x
  pub not-before : Every (λ y. applies y → ⊥) before

-- A refusal's row is the first of these that applies.
abbrev pub FirstRow : List Row → Refusal → Type 0
FirstRow rows f = FirstOf Applying rows (row f true)
