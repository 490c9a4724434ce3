-- The reader and the writer as they run (document 01, "The case file"): a case text is read as the railway that it describes, and a railway that is
-- written is read back as itself. `Learnt` of a function is what its contract tells whoever calls it, as the prover makes it: of the arguments, the
-- answer, and what was lent, as the call leaves it. Arguments stand in the order of the signature, one within the other: `a.0` is the first,
-- `a.1.0` the second. Assumes nothing.
use Rattle.std.specs.Prelude.{◌≡◌, ◌↔◌, List, ℕ, take}
use Rattle.std.proofs.Math.Option.{some}
use denote.Triple.Clauses.{AtExit}
use contract.Lifetimes.{Lfts}
use borrow.Fn.Kinds.{Dens, res_t, ended_of}
use Rattle.railway.specs.declared.End.{End}
use Rattle.railway.specs.Joined.{Nothing}
use Rattle.railway.specs.declared.Railway.{Railway}
use Rattle.railway.specs.Record.{joined}
use Rattle.railway.specs.Same.{SameRailway}
use Rattle.case_file.specs.CaseRead.{CaseRead}
use Rattle.case_file.specs.Written.{Written}
use Rattle.case_file.specs.Form.{Description, Describes}
use Rattle.case_file.specs.Writing.{written_count, WriterPost}
use Rattle.case_file.specs.Given.{accepted, case_read, ReaderPost}
use Rattle.case_file.specs.Claims.{Joins, AsDescribed}
use Rattle.case_reader.proofs.read_case.Kinds as read
use Rattle.case_reader.proofs.read_case.Reads.{Asked as ReadAsked, Learnt as ReadLearnt}
use Rattle.case_reader.proofs.read_case.Statement.{statement as ReadMet}
use Rattle.case_writer.proofs.write_case.Kinds as write
use Rattle.case_writer.proofs.write_case.Reads.{Asked as WriteAsked, Learnt as WriteLearnt}
use Rattle.case_writer.proofs.write_case.Statement.{statement as WriteMet}

-- A call of `case_reader::read_case`: it was handed this text, and its contract tells this of what it answered.
pub record ReadCall (text : List ℕ) (answer : CaseRead) : Type 1 where
  pub lifetimes : Lfts 1
  pub arguments : Dens lifetimes read.ps
  pub left : AtExit (ended_of 1 read.ps read.r) lifetimes
  pub result : (res_t read.r lifetimes).Denot
  pub handed : arguments.0.now ≡ text
  pub answered : case_read result ≡ answer
  pub learnt : ReadLearnt lifetimes arguments result left

-- A call of `case_writer::write_case`: it was handed this record and a buffer with these bytes; its answer, and the bytes that it left there.
pub record WriteCall (r : Railway) (buffer : List ℕ) (answer : Written) (after : List ℕ) : Type 1 where
  pub lifetimes : Lfts 1
  pub arguments : Dens lifetimes write.ps
  pub left : AtExit (ended_of 1 write.ps write.r) lifetimes
  pub handed : (arguments.0 ≡ r) × (arguments.1.0.now ≡ buffer)
  pub leaves : left.1.0.now ≡ after
  pub learnt : WriteLearnt lifetimes arguments answer left

-- THE CASE FILE, of the calls that run.
pub record RoundTripRuns : Type 2 where
  -- the reader may be called with any text
  pub reader-asks : (κs : Lfts 1) (a : Dens κs read.ps) → ReadAsked κs a
  -- the writer with any record and any buffer
  pub writer-asks : (κs : Lfts 1) (a : Dens κs write.ps) → WriteAsked κs a
  -- the routine that runs as the reader meets its contract
  pub reader-meets : {M : Type 1} → ReadMet M
  -- so does the writer's
  pub writer-meets : {M : Type 1} → WriteMet M
  -- the reader's contract is a reader's promise, and nothing else
  pub reader-promises : (κs : Lfts 1) (a : Dens κs read.ps) (answer : (res_t read.r κs).Denot) (left : AtExit (ended_of 1 read.ps read.r) κs)
      → ReadLearnt κs a answer left ≡ ReaderPost a.0.now (case_read answer)
  -- the writer's is a writer's
  pub writer-promises : (κs : Lfts 1) (a : Dens κs write.ps) (answer : (res_t write.r κs).Denot) (left : AtExit (ended_of 1 write.ps write.r) κs)
      → WriteLearnt κs a answer left ≡ WriterPost a.0 a.1.0.now answer left.1.0.now
  -- a text that is accepted is read as the railway that its lines describe
  pub described : (text : List ℕ) (answer : CaseRead) → ReadCall text answer
      → (q : Railway) → answer ≡ accepted q → (d : Description) × Describes text d × AsDescribed d q
  -- in it an end is joined to nothing exactly where no J line names it (and where one does, to that line's other end, by the clause before: document 02, Q-4)
  pub unjoined : (text : List ℕ) (answer : CaseRead) → ReadCall text answer → (q : Railway) → answer ≡ accepted q → (d : Description) → Describes text d
      → (e : End) → (joined q e ≡ Nothing) ↔ ((f : End) → Joins d.joins e f → ⊥)
  -- the bytes that were written of a railway are read back as the same railway
  pub read_back : (r : Railway) (buffer after : List ℕ) (w : Written) → WriteCall r buffer w after
      → (n : ℕ) → written_count w ≡ some n → (answer : CaseRead) → ReadCall (take n after) answer → (q : Railway) × (answer ≡ accepted q) × SameRailway r q
