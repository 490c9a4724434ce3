-- What is written for yards and texts that are written out: no signal for Yard A, 1u for a train that follows another,
-- none for the ring; the refusals of a text out of form and of one that is too long; and what stands in a buffer that a
-- line is put into, with room for it and without. Assumes nothing.
use mathlib.Core.Path.{◌≡◌, refl, ◌∙◌, ap}
use mathlib.Core.List.{List, [], ◌∷◌, ◌++◌}
use Prim.Native.Nat.{ℕ, suc, ◌<◌, ◌≤◌}
use Prim.Native.String.{String}
use native.Mathlib.Omega.{arith}
use lib.ListN.{length, take, replicate, length-replicate}
use Rattle.laws.proofs.Lists.{every-none}
use Rattle.text.specs.Text.{digits, line, bytes}
use Rattle.text.specs.Reading.{is_digit, byte_at, digits_at, number_at}
use Rattle.railway.specs.declared.Refusal.TheVariants.{Length, Form, Space}
use Rattle.railway.specs.Refusals.{first}
use Rattle.railway.specs.Yards.{yard_a}
use Rattle.game_tables.specs.Lengths.{entries}
use Rattle.case_file.specs.Written.{Written, Bytes, Refused}
use Rattle.case_file.specs.Rows.{most_bytes}
use Rattle.case_file.specs.Given.{refused, AcceptedWith}
use Rattle.case_file.specs.Reading.{header_at, walk, read, case_answer}
use Rattle.case_file.specs.YardTexts.{yard_texts}
use Rattle.case_file.proofs.Given.{refused-exactly}
use Rattle.case_file.proofs.YardTexts.{yards-accepted}
use Rattle.answer_lines.specs.Lines.{Puts}
use Rattle.answer_lines.proofs.Puts.{put-fits, put-short}
use Rattle.advice.proofs.Advising.{advice-holds}
use Rattle.advice.proofs.Examples.{following, closed_ring}
use Rattle.advice.proofs.Uses.{following-fine, ring-fine, yard_a-fine, names-1u, none_here, none_needed}
use Rattle.advice_text.specs.Lines.{advice_line, blank, RailwayAdvice, CaseAdvice, advice_bytes}
use Rattle.advice_text.proofs.Lines.{cut-writes}

nine : 9 ≤ length blank
nine = omega (arith, length-replicate {A = ℕ} entries 0)

-- RAILWAYS
follows : (text : List ℕ) → RailwayAdvice following text → text ≡ bytes "1u\n"
unfolding bytes line digits
follows text o =
    let c = advice-holds.claims following o.answer blank blank o.figs o.sets (following-fine blank blank nine nine) o.advised in
    o.written ∙ ap advice_line (names-1u o.answer blank blank o.figs o.sets c)

no-help : (text : List ℕ) → RailwayAdvice closed_ring text → text ≡ bytes "no single signal helps\n"
unfolding bytes line
no-help text o =
    let c = advice-holds.claims closed_ring o.answer blank blank o.figs o.sets (ring-fine blank blank nine nine) o.advised in
    o.written ∙ ap advice_line (none_here o.answer blank blank o.figs o.sets c)

-- TEXTS
abbrev case_a : String
case_a = "H\t3\t1\t2\nP\t1\td\nJ\t1u\t1+\nJ\t2u\t1-\nJ\t3d\t1s\nG\t1d\nG\t2u\nT\t1\tu\t2\t3\nT\t2\td\t3\t1\n"

read-so : AcceptedWith (bytes case_a) yard_a
unfolding yard_texts
read-so = yards-accepted.0

not-needed : (text : List ℕ) → CaseAdvice (bytes case_a) text → text ≡ bytes "no signal needed\n"
unfolding bytes line
not-needed text p =
    let o = p.accepted yard_a read-so in
    let c = advice-holds.claims yard_a o.answer blank blank o.figs o.sets (yard_a-fine blank blank nine nine) o.advised in
    o.written ∙ ap advice_line (none_needed o.answer blank blank o.figs o.sets c)

-- a line without its fields
out-of-form : case_answer (bytes "H\n") ≡ refused Form
unfolding bytes first is_digit byte_at digits_at number_at header_at walk read case_answer
out-of-form = refl

form-written : (text : List ℕ) → CaseAdvice (bytes "H\n") text → text ≡ bytes "refused\t2\n"
unfolding bytes line digits
form-written text c = c.refused Form ((refused-exactly (bytes "H\n") Form).0 out-of-form)

-- one byte too many, and anything behind it, of which that one byte is read
long-written : (case text : List ℕ) → most_bytes < length case → CaseAdvice (take (suc most_bytes) case) text → text ≡ bytes "refused\t1\n"
unfolding bytes line digits
long-written case text h c =
    let o = cut-writes case text (suc most_bytes) (omega arith) c in
    o.refused Length (record { before = []; after = _; order = refl; here = h; not-before = every-none _ })

-- INTO A BUFFER: the line for Yard A has 17 bytes
module _ (w : Written) (new : List ℕ) where
  fits : Puts (CaseAdvice (bytes case_a)) advice_bytes (replicate 19 7) w new → (w ≡ Bytes 17) × (new ≡ bytes "no signal needed\n" ++ (7 ∷ 7 ∷ []))
  unfolding bytes
  fits p = let e = not-needed p.text p.output in let q = rw e at p.put in put-fits _ _ q (omega arith)

  short : Puts (CaseAdvice (bytes case_a)) advice_bytes (replicate 16 7) w new → (w ≡ Refused Space) × (new ≡ replicate 16 7)
  unfolding bytes
  short p = let e = not-needed p.text p.output in let q = rw e at p.put in put-short _ _ q (omega arith)
