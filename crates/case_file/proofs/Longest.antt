-- The longest case texts. A text is made of a description, so what it says is known without reading it, and its length and rows are computed.
-- Assumes nothing.
use mathlib.Core.Path.{◌≡◌, refl}
use mathlib.Core.List.{List, [], ◌∷◌, flat_map}
use mathlib.Core.Option.{none}
use Prim.Native.Nat.{ℕ, zero, suc}
use native.Mathlib.Omega.{arith}
use lib.ListN.{length, replicate}
use Rattle.laws.specs.Below.{any_below}
use Rattle.laws.specs.Lists.{any, repeats, Every}
use Rattle.laws.proofs.Lists.{every-none, every_more}
use Rattle.text.specs.Text.{digits, line}
use Rattle.text.specs.Reading.{is_digit, byte_at, digits_at, number_at}
use Rattle.railway.specs.declared.Side.TheVariants.{Up}
use Rattle.railway.specs.declared.Refusal.TheVariants.{Length, Form, Double}
use Rattle.railway.specs.Refusals.{first}
use Rattle.railway.specs.Rows.{chain_row}
use Rattle.case_file.specs.Form.{Description, rising, spell, Writable, WritableJoin, WritableSignal, WritableTrain, Describes}
use Rattle.case_file.specs.Rows.{join_ends, weight_row, unknown_row, join_row, loose_row, double_row, place_row}
use Rattle.case_file.specs.Recording.{railway_of}
use Rattle.case_file.specs.Given.{refused}
use Rattle.case_file.specs.Reading.{header_at, walk, read, case_answer}
use Rattle.case_file.proofs.Given.{answer-of}

copies : {A : Type 0} → ℕ → A → List A → List A
copies zero x l = l
copies (suc n) x l = x ∷ copies n x l

every-copies : {A : Type 0} (P : A → Type 0) (n : ℕ) (x : A) (l : List A) → P x → Every P l → Every P (copies n x l)
unfolding copies
every-copies P zero x l p h = h
every-copies P (suc n) x l p h = every_more P x (copies n x l) p (every-copies P n x l p h)

-- ten sections, G 1u so many times, G 10u so many times, one train
pub long : ℕ → ℕ → Description
long short wide =
    record {
      sections = 10;
      points = 0;
      trains = 1;
      legs = [];
      joins = [];
      signals = copies short (record { number = 1; side = Up }) (copies wide (record { number = 10; side = Up }) []);
      closed = [];
      roster = record { heading = Up; start = 1; destination = 1; weight = none } ∷ [];
    }

pub long-described : (a b : ℕ) → Describes (spell (long a b)) (long a b)
unfolding long
long-described a b =
    record {
      well-formed =
          record {
            sections = omega arith;
            points = omega arith;
            trains = omega arith;
            joins = every-none WritableJoin;
            signals = every-copies WritableSignal a _ _ (omega arith) (every-copies WritableSignal b _ _ (omega arith) (every-none WritableSignal));
            closed = every-none Writable;
            roster = every_more WritableTrain _ _ (omega arith, omega arith, tt) (every-none WritableTrain);
            one-a-point = refl;
            one-a-train = refl;
          };
      spelling = refl;
    }

-- A text in form of 4,096 bytes is read on, and refused for its repeated signals; with one byte more, whatever it says, it is too long.
pub lengths : (length (spell (long 813 2)) ≡ 4096) × (case_answer (spell (long 813 2)) ≡ refused Double)
    × (length (spell (long 812 3)) ≡ 4097) × (case_answer (spell (long 812 3)) ≡ refused Length)
    × (case_answer (replicate 4096 0) ≡ refused Form) × (case_answer (replicate 4097 0) ≡ refused Length)
unfolding long copies spell flat_map rising first digits line is_digit byte_at digits_at number_at header_at walk read
    case_answer any_below any repeats join_ends weight_row unknown_row join_row loose_row double_row place_row railway_of chain_row
lengths = (refl, answer-of (spell (long 813 2)) (long 813 2) (long-described 813 2), refl, answer-of (spell (long 812 3)) (long 812 3) (long-described 812 3), refl, refl)
