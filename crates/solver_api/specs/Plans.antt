-- What the exported calls for a plan promise, by what reader, emitter and checker promise: the reader's rows judge the case text, and the calls' own rows what
-- is lent. A place in the plan and the checker's state are handed over as numbers, of which any may come. Assumes nothing.
use Rattle.std.specs.Prelude.{◌≡◌, true, cond, List, [], ◌∷◌, ℕ, suc, ◌-◌, get_or, eqb, ltb}
use Rattle.std.proofs.Math.Option
use Rattle.railway.specs.declared.Railway.{Railway}
use Rattle.railway.specs.CaseAnswer.{CaseAnswer, Accepted, Refused as CaseRefused}
use Rattle.railway.specs.Refusals.{number, number_given}
use Rattle.case_reader.specs.Answers.{ByCase}
use Rattle.game_tables.specs.Tables.{no_figure}
use Rattle.plan.specs.declared.PlanPlace.{PlanPlace}
use Rattle.plan.specs.declared.PlanPlace.TheVariants.{Top, From}
use Rattle.plan.specs.Emitted.{Emitted, Line, End, NoPlan, Refused}
use Rattle.plan.specs.declared.CheckerState.{CheckerState}
use Rattle.plan.specs.declared.CheckerState.TheVariants.{Fresh, Begun}
use Rattle.plan.specs.FrontAnswer.{FrontAnswer, Took, Refused as FrontRefused}
use Rattle.plan.specs.TestAnswer.{TestAnswer}
use Rattle.plan.specs.Emitter.{is_line}
use Rattle.plan.specs.Checker.{Checking, test_number}
use Rattle.plan.specs.Several.{EmitLinesPost, front_number, FrontPost}
use Rattle.plan.specs.Promises.{FreshPost, TestPost}

-- THE PLAN'S LINES. A place as a number: 0 before the first line, one more than the code before the lines from a code on.
abbrev pub place_number : PlanPlace → ℕ
place_number Top = 0
place_number (From c) = suc c

-- The place that a number stands for. No code is as high as the number for no figure: numbers past it stand for the place behind the last line, too.
abbrev pub place_at : ℕ → PlanPlace
place_at n = cond (eqb n 0) Top (From (cond (ltb no_figure n) no_figure (n - 1)))

-- What is answered: 0 for lines, 255 for the end of the plan, 254 where there is none, and else the refusal's number.
abbrev pub line_number : Emitted → ℕ
line_number (Line n next) = 0
line_number End = 255
line_number NoPlan = 254
line_number (Refused f) = number f

-- What a caller learns from these numbers.
pub record ToldApart (a : Emitted) : Type 0 where
  pub lines : line_number a ≡ 0 → is_line a ≡ true
  pub ended : line_number a ≡ 255 → a ≡ End
  pub no-plan : line_number a ≡ 254 → a ≡ NoPlan

-- No refusal has the number of another answer.
abbrev pub AllToldApart : Type 0
AllToldApart = (a : Emitted) → ToldApart a

-- What is lent beside the tables: the number of the place, the buffer, and a number for the bytes written.
pub record Writing : Type 0 where
  pub place : ℕ
  pub buffer : List ℕ
  pub bytes : ℕ

-- They by themselves.
abbrev pub writing : ℕ → List ℕ → ℕ → Writing
writing place buffer bytes = record { place = place; buffer = buffer; bytes = bytes }

-- What is left of them, with this buffer: behind lines the next place and how many bytes they have; else both numbers as they were.
abbrev pub wrote_to : Writing → Emitted → List ℕ → Writing
wrote_to old (Line n next) buffer = writing (place_number next) buffer n
wrote_to old End buffer = writing old.place buffer old.bytes
wrote_to old NoPlan buffer = writing old.place buffer old.bytes
wrote_to old (Refused f) buffer = writing old.place buffer old.bytes

-- A railway and two tables are answered with n: what the emitter answers that is asked for lines from there on.
pub record WrittenRailway (r : Railway) (figs sets : List ℕ) (old : Writing) (n : ℕ) (new : Writing) : Type 0 where
  pub answer : Emitted
  pub emitted : EmitLinesPost r figs sets (place_at old.place) old.buffer answer new.buffer
  pub numbered : n ≡ line_number answer
  pub leaves : new ≡ wrote_to old answer new.buffer

-- A case text and two tables: a refused text by its number, all as it was; else as its railway.
abbrev pub WrittenText : List ℕ → List ℕ → List ℕ → Writing → ℕ → Writing → Type 0
WrittenText text figs sets old n new = ByCase text (λ f. (n ≡ number f) × (new ≡ old)) (λ r. WrittenRailway r figs sets old n new)

-- THE CHECKER'S STATE as three numbers: whether a line was taken, the first line's figure, and the lowest code that may come.
abbrev pub state_numbers : CheckerState → List ℕ
state_numbers Fresh = 0 ∷ 0 ∷ 0 ∷ []
state_numbers (Begun m from) = 1 ∷ m ∷ from ∷ []

-- The state that three numbers stand for.
abbrev pub state_of : List ℕ → CheckerState
state_of ns = cond (eqb (get_or ns 0 0) 0) Fresh (Begun (get_or ns 1 0) (get_or ns 2 0))

-- What is lent: these numbers and the two tables.
pub record Lent : Type 0 where
  pub state : List ℕ
  pub figs : List ℕ
  pub sets : List ℕ

-- They by themselves.
abbrev pub lent : List ℕ → List ℕ → List ℕ → Lent
lent state figs sets = record { state = state; figs = figs; sets = sets }

-- The checker with its tables, as its definitions have it.
abbrev pub checking_of : Lent → Checking
checking_of l = record { state = state_of l.state; figs = l.figs; sets = l.sets }

-- And back.
abbrev pub lent_of : Checking → Lent
lent_of c = lent (state_numbers c.state) c.figs c.sets

-- A CHECK BEGINS. What is left: refused, all as it was.
abbrev pub begun_with : Lent → CaseAnswer → Checking → Lent
begun_with old Accepted new = lent_of new
begun_with old (CaseRefused f) new = old

-- A railway is answered with n: the number that is given, or 0.
pub record BegunRailway (r : Railway) (old : Lent) (n : ℕ) (new : Lent) : Type 0 where
  pub answer : CaseAnswer
  pub checking : Checking
  pub made : FreshPost r old.figs old.sets answer checking
  pub numbered : n ≡ Option.get_or (number_given answer) 0
  pub leaves : new ≡ begun_with old answer checking

-- A case text.
abbrev pub BegunText : List ℕ → Lent → ℕ → Lent → Type 0
BegunText text old n new = ByCase text (λ f. (n ≡ number f) × (new ≡ old)) (λ r. BegunRailway r old n new)

-- LINES ARE TAKEN. What is left: refused, all as it was.
abbrev pub taken_with : Lent → FrontAnswer → Checking → Lent
taken_with old (Took k) new = lent_of new
taken_with old (FrontRefused f) new = old

-- And the number for the bytes taken.
abbrev pub bytes_with : ℕ → FrontAnswer → ℕ
bytes_with bytes (Took k) = k
bytes_with bytes (FrontRefused f) = bytes

-- A railway and a plan's text.
pub record TakenRailway (r : Railway) (old : Lent) (plan : List ℕ) (bytes n : ℕ) (new : Lent) (bytes' : ℕ) : Type 0 where
  pub answer : FrontAnswer
  pub checking : Checking
  pub took : FrontPost r (checking_of old) plan answer checking
  pub numbered : n ≡ Option.get_or (front_number answer) 0
  pub leaves : new ≡ taken_with old answer checking
  pub counted : bytes' ≡ bytes_with bytes answer

-- A case text and a plan's.
abbrev pub TakenText : List ℕ → Lent → List ℕ → ℕ → ℕ → Lent → ℕ → Type 0
TakenText text old plan bytes n new bytes' = ByCase text (λ f. (n ≡ number f) × (new ≡ old) × (bytes' ≡ bytes)) (λ r. TakenRailway r old plan bytes n new bytes')

-- THE TEST: a railway is answered with n, the number that is given, or 0 for a pass.
pub record TestedRailway (r : Railway) (old : Lent) (n : ℕ) : Type 0 where
  pub answer : TestAnswer
  pub tested : TestPost r (checking_of old) answer (checking_of old)
  pub numbered : n ≡ Option.get_or (test_number answer) 0

-- A case text.
abbrev pub TestedText : List ℕ → Lent → ℕ → Type 0
TestedText text old n = ByCase text (λ f. n ≡ number f) (λ r. TestedRailway r old n)
