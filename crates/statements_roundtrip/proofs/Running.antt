-- The case file, of the calls that run: each contract computes to its promise, so what follows from the promises of a reader and a writer holds of these.
-- Assumes nothing.
use mathlib.Core.Path.{◌≡◌, refl, subst}
use mathlib.Core.Logic.{◌↔◌}
use mathlib.Core.List.{List}
use Prim.Native.Nat.{ℕ}
use native.Mathlib.Omega.{arith}
use Rattle.railway.specs.declared.End.{End}
use Rattle.railway.specs.Joined.{Joined, Nothing, With}
use Rattle.railway.specs.declared.Railway.{Railway}
use Rattle.railway.specs.Record.{joined}
use Rattle.case_file.specs.CaseRead.{CaseRead}
use Rattle.case_file.specs.Written.{Written}
use Rattle.case_file.specs.Form.{Description, Describes}
use Rattle.case_file.specs.Writing.{WriterPost}
use Rattle.case_file.specs.Given.{accepted, ReaderPost}
use Rattle.case_file.specs.Claims.{Joins, AsDescribed}
use Rattle.case_file.proofs.Reading.{describes-one}
use Rattle.case_reader.proofs.read_case.Met as read
use Rattle.case_reader.proofs.Claims.{reader-describes}
use Rattle.case_writer.proofs.write_case.Met as write
use Rattle.case_writer.proofs.Claims.{written-is-read}
use Rattle.statements_roundtrip.specs.Running.{ReadCall, WriteCall, RoundTripRuns}

-- a call keeps its promise, of what it was handed
reader-kept : (text : List ℕ) (answer : CaseRead) → ReadCall text answer → ReaderPost text answer
reader-kept text answer c =
    subst (λ (t : List ℕ). ReaderPost t answer) c.handed
    (subst (λ (a : CaseRead). ReaderPost c.arguments.0.now a) c.answered c.learnt)

writer-kept : (r : Railway) (buffer after : List ℕ) (w : Written) → WriteCall r buffer w after → WriterPost r buffer w after
writer-kept r buffer after w c =
    subst (λ (x : Railway). WriterPost x buffer w after) c.handed.0
    (subst (λ (b : List ℕ). WriterPost c.arguments.0 b w after) c.handed.1
    (subst (λ (b : List ℕ). WriterPost c.arguments.0 c.arguments.1.0.now w b) c.leaves c.learnt))

-- an end is joined to nothing exactly where it is joined to no end
apart : (f : End) (j : Joined) → j ≡ Nothing → j ≡ With f → ⊥
apart f j p q = let z : ◌≡◌ {A = ℕ} 0 1 = cc in omega arith

module _ (d : Description) (q : Railway) (t : AsDescribed d q) (e : End) where
  in-none : (j : Joined) → joined q e ≡ j → ((f : End) → Joins d.joins e f → ⊥) → j ≡ Nothing
  in-none Nothing h n = refl
  in-none (With f) h n = absurd (n f ((t.joins e f).0 h))

  unjoined-is : (joined q e ≡ Nothing) ↔ ((f : End) → Joins d.joins e f → ⊥)
  unjoined-is = (λ h f j. apart f (joined q e) h ((t.joins e f).1 j), λ n. in-none (joined q e) refl n)

described-by : (text : List ℕ) (answer : CaseRead) → ReadCall text answer → (q : Railway) → answer ≡ accepted q → (d : Description) → Describes text d → AsDescribed d q
described-by text answer c q e d w =
    let t = reader-describes text answer (reader-kept text answer c) q e in
    rw (describes-one text t.0 d t.1 w) at t.2

pub roundtrip-runs : RoundTripRuns
roundtrip-runs =
    record {
      reader-asks = λ κs a. tt;
      writer-asks = λ κs a. tt;
      reader-meets = read.met;
      writer-meets = write.met;
      reader-promises = λ κs a answer left. refl;
      writer-promises = λ κs a answer left. refl;
      described = λ text answer c q e. reader-describes text answer (reader-kept text answer c) q e;
      unjoined = λ text answer c q e d w x. unjoined-is d q (described-by text answer c q e d w) x;
      read_back = λ r buffer after w c n e answer d.
          written-is-read r buffer w after (writer-kept r buffer after w c) n e answer (reader-kept _ answer d);
    }
